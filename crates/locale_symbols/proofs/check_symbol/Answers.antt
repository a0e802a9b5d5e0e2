-- `locale_symbols::check_symbol` meets its contract: a law for each answer.
use mathlib.Core.Path.{◌≡◌, refl, ap}
use borrow.Author.Rules.{rules}
use Rattle.rules.specs.Text.{◌unless◌}
use Rattle.base_units.specs.Numbers.{number_or_none}
use Rattle.base_units.proofs.NumberLaws.{number_of-some}
use Rattle.locale_symbols.proofs.SymbolLaws.{symbol-other, head-to, head_plain, head-within, head-fits, head-inside, symbol-more, symbol-fault, symbol-at}
use Rattle.locale_symbols.proofs.check_symbol.Goals as goal
use Rattle.locale_symbols.proofs.check_symbol.Goals.{then-is_new, else-is_new}

pub returns-in_default : goal.returns-in_default
returns-in_default c = search symbol-other

pub none_left-requires : goal.none_left-requires
none_left-requires c = (search head-to, search head_plain)

pub is_new-requires : goal.is_new-requires
is_new-requires c = record { at_in_bounds = (search head-within, search head-inside); sound = search rules }

pub overflow_mul-result : goal.overflow_mul-result
overflow_mul-result c = search head-fits

pub returns-then-not-none_left : goal.returns-then-not-none_left
returns-then-not-none_left c = search symbol-more

pub returns-in-None : goal.returns-in-None
returns-in-None c =
    let e : number_or_none c.if-is_new.fault ≡ (5 unless c.is_new.result) = elim c.if-is_new.branch [
      | then-is_new w ↦ rw (w.fault-is, w.if-is_new.true) refl
      | else-is_new w ↦ rw (w.fault-is, w.if-is_new.false) refl
    ] in
    let z : number_or_none c.lower_of.result ≡ 0 = ap number_or_none c.in-None.is in
    search symbol-at

pub returns-in-Some-lower_of : goal.returns-in-Some-lower_of
returns-in-Some-lower_of c =
    let e : number_or_none c.if-is_new.fault ≡ (5 unless c.is_new.result) = elim c.if-is_new.branch [
      | then-is_new w ↦ rw (w.fault-is, w.if-is_new.true) refl
      | else-is_new w ↦ rw (w.fault-is, w.if-is_new.false) refl
    ] in
    let m = c.in-Some-lower_of.ensures in
    let a = number_of-some c.in-Some-lower_of.r in
    search symbol-fault
