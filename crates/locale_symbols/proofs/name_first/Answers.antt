-- `locale_symbols::name_first` meets its contract: operands after a blank, or none.
use mathlib.Core.Logic.{inl, inr}
use Rattle.locale_symbols.proofs.HeadLaws.{first-none, first-broken, first_to, first-mode, first-from}
use Rattle.locale_symbols.proofs.name_first.Goals as goal

pub returns-in-None : goal.returns-in-None
returns-in-None c = elim c.in-None.is [ inl e ↦ search first-none | inr e ↦ search first-broken ]

pub name_next-requires : goal.name_next-requires
name_next-requires c = (search first_to, search first-mode)

pub returns-in-Operands : goal.returns-in-Operands
returns-in-Operands c = search first-from
