-- `locale_declarations::collate_alone` meets its contract.
use Rattle.locale_declarations.proofs.EndLaws.{collate-none, collate-word, collate-to}
use Rattle.rules.specs.Text.{bytes}
use Rattle.locale_declarations.proofs.collate_alone.Goals as goal

pub returns-in-None : goal.returns-in-None
returns-in-None c = search collate-none

pub word_is-requires : goal.word_is-requires
word_is-requires c = search collate-to

pub returns-in-Some : goal.returns-in-Some
unfolding bytes
returns-in-Some c = search collate-word
