-- `work_subjects::key_numbers` meets its contract.
use Rattle.work_subjects.proofs.NumberLaws.{numbers-item, numbers-quotes}
use Rattle.work_subjects.proofs.SpotLaws.{name_in_lem, quote-in, quote-mode}
use borrow.Author.Rules.{rules}
use Rattle.work_subjects.proofs.key_numbers.Goals as goal

pub subject_numbers-requires : goal.subject_numbers-requires
subject_numbers-requires c = (search name_in_lem, search rules)

pub returns-then-v-eq0 : goal.returns-then-v-eq0
returns-then-v-eq0 c = search numbers-item

pub chars_numbers-requires : goal.chars_numbers-requires
chars_numbers-requires c = (search quote-in, search quote-mode, search rules)

pub returns-else-v-eq0 : goal.returns-else-v-eq0
returns-else-v-eq0 c = search numbers-quotes
