-- `locale_elements::check_element` meets its contract: a law for each answer.
use mathlib.Core.Path.{◌≡◌, ap}
use borrow.Author.Rules.{rules}
use Rattle.base_units.specs.Numbers.{number_or_none}
use Rattle.base_units.proofs.NumberLaws.{number_of-some}
use Rattle.locale_elements.proofs.ElementLaws.{element-other, element-unformed, tail-to, tail-mode, tail-many, tail-half, tail-fits, element-refused, element-at}
use Rattle.locale_symbols.proofs.SymbolLaws.{head-to, head_plain, head-within, head-inside, head-fits}
use Rattle.locale_elements.proofs.check_element.Goals as goal

pub returns-in_default : goal.returns-in_default
returns-in_default c = search element-other

pub quotes_after_from-requires : goal.quotes_after_from-requires
quotes_after_from-requires c = (search head-to, search head_plain)

pub returns-in_default-quotes_after_from : goal.returns-in_default-quotes_after_from
returns-in_default-quotes_after_from c = search element-unformed

pub element_fault-f-requires : goal.element_fault-f-requires
element_fault-f-requires c = record { at_in_bounds = (search head-within, search head-inside); at_in_bounds_2 = (search tail-to, search tail-mode); s_len = search tail-many; sound = search rules }

pub overflow_mul-result : goal.overflow_mul-result
overflow_mul-result c = search head-fits

pub overflow_mul-result-in-None : goal.overflow_mul-result-in-None
overflow_mul-result-in-None c = search tail-half

pub overflow_add-result : goal.overflow_add-result
overflow_add-result c = search tail-fits

pub returns-in-None : goal.returns-in-None
returns-in-None c = let z : number_or_none c.lower_of.result ≡ 0 = ap number_or_none c.in-None.is in search element-at

pub returns-in-Some-lower_of : goal.returns-in-Some-lower_of
returns-in-Some-lower_of c =
    let m = c.in-Some-lower_of.ensures in
    let a = number_of-some c.in-Some-lower_of.r in
    search element-refused
