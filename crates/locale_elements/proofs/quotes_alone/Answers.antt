-- `locale_elements::quotes_alone` meets its contract: a law for each answer.
use mathlib.Core.Logic.{inl, inr}
use Rattle.locale_elements.proofs.TailLaws.{alone-end, alone-broken, alone-to, alone-plain, alone-quotes, alone-more, alone-other}
use Rattle.locale_elements.proofs.quotes_alone.Goals as goal
use Rattle.locale_elements.proofs.quotes_alone.Goals.{else-t-eq-QUOTE-via-then-t-eq-QUOTE+else-none_left, else-t-eq-QUOTE-via-else-t-eq-QUOTE}

pub returns-in-End : goal.returns-in-End
returns-in-End c = elim c.in-End.is [ inl e ↦ search alone-end | inr e ↦ search alone-broken ]

pub none_left-requires : goal.none_left-requires
none_left-requires c = (search alone-to, search alone-plain)

pub returns-then-none_left : goal.returns-then-none_left
returns-then-none_left c = search alone-quotes

pub returns-else-t-eq-QUOTE : goal.returns-else-t-eq-QUOTE
returns-else-t-eq-QUOTE c = elim c.else-t-eq-QUOTE.branch [
  | else-t-eq-QUOTE-via-then-t-eq-QUOTE+else-none_left w ↦ search alone-more
  | else-t-eq-QUOTE-via-else-t-eq-QUOTE w ↦ search alone-other
]
