-- `locale_order_lines::name_line` meets its contract: a law for each way to return.
use Rattle.std.proofs.Common.{◌≡◌, sym, ap}
use Rattle.base_units.specs.Numbers.{number_of, number_or_none}
use Rattle.locale_order_lines.proofs.StepLaws.{line_refused}
use Rattle.locale_order_lines.proofs.NameLaws.{name-ready, name-listed}
use Rattle.locale_order_lines.proofs.name_line.Goals as goal

pub list_line-requires : goal.list_line-requires
list_line-requires c =
    let z : number_or_none c.name_refusal.result ≡ 0 = ap number_or_none c.in-None.is in
    search (name-ready _ _ _ _ _ c.requires.1 _ _ _ _ c.requires.0 _ c.find-f.ensures c.name_char-c.result c.name_char-c.ensures _ c.name_refusal.ensures)

pub returns-in-None : goal.returns-in-None
returns-in-None c =
    let z : number_or_none c.name_refusal.result ≡ 0 = ap number_or_none c.in-None.is in
    search (name-listed _ _ _ _ _ c.requires.1 _ _ _ _ c.requires.0 _ c.find-f.ensures c.name_char-c.result c.name_char-c.ensures _ c.name_refusal.ensures)

pub returns-in-Some : goal.returns-in-Some
returns-in-Some c =
    let z : number_of c.in-Some.r ≡ number_or_none c.name_refusal.result = sym (ap number_or_none c.in-Some.is) in
    search line_refused
