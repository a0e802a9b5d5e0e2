-- `work_toggles::decide` meets its contract: by the byte where the two words differ.
use Rattle.work_toggles.proofs.DecideLaws.{decide-inside, decide_by, decide-first}
use borrow.Author.Rules.{rules}
use Rattle.work_toggles.proofs.decide.Goals as goal

pub part_words-requires : goal.part_words-requires
part_words-requires c = (search rules, search decide-inside)

pub returns-then-c-n : goal.returns-then-c-n
returns-then-c-n c = search decide_by

pub returns-else-c-n : goal.returns-else-c-n
returns-else-c-n c = search decide-first
