-- `locale_elements::quotes_after_from` meets its contract: a law for each answer.
use mathlib.Core.Logic.{inl, inr}
use Rattle.rules.specs.Text.{bytes, is}
use Rattle.locale_elements.proofs.TailLaws.{from_end, from-broken, from-to, from-mode, from-quotes, from-other}
use Rattle.locale_elements.proofs.quotes_after_from.Goals as goal

pub returns-in-End : goal.returns-in-End
returns-in-End c = elim c.in-End.is [ inl e ↦ search from_end | inr e ↦ search from-broken ]

pub word_is-requires : goal.word_is-requires
word_is-requires c = search from-to

pub end_of_word-requires : goal.end_of_word-requires
end_of_word-requires c = (search from-to, search from-mode)

pub returns-then-word_is : goal.returns-then-word_is
unfolding is bytes
returns-then-word_is c = search from-quotes

pub returns-else-word_is : goal.returns-else-word_is
unfolding is bytes
returns-else-word_is c = search from-other
