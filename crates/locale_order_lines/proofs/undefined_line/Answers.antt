-- `locale_order_lines::undefined_line` meets its contract: a law for each way to return.
use Rattle.std.proofs.Common.{◌≡◌, sym, ap}
use Rattle.base_units.specs.Numbers.{number_of, number_or_none}
use Rattle.locale_order_lines.proofs.StepLaws.{line_refused}
use Rattle.locale_order_lines.proofs.UndefinedLaws.{undefined-ready, undefined-listed}
use Rattle.locale_order_lines.proofs.undefined_line.Goals as goal

pub list_line-requires : goal.list_line-requires
list_line-requires c =
    let z : number_or_none c.undefined_refusal.result ≡ 0 = ap number_or_none c.in-None.is in
    search undefined-ready

pub returns-in-None : goal.returns-in-None
returns-in-None c =
    let z : number_or_none c.undefined_refusal.result ≡ 0 = ap number_or_none c.in-None.is in
    search undefined-listed

pub returns-in-Some : goal.returns-in-Some
returns-in-Some c =
    let z : number_of c.in-Some.r ≡ number_or_none c.undefined_refusal.result = sym (ap number_or_none c.in-Some.is) in
    search line_refused
