-- `locale_dispatch::line_step` meets its contract: a blank line, a foul one, one that opens with a word or with a name.
use Rattle.locale_dispatch.proofs.StepLaws.{step-blank, step-foul, step-word, step-name, line-some, line-few, line-in}
use Rattle.locale_dispatch.proofs.line_step.Goals as goal

pub open_line-requires : goal.open_line-requires
open_line-requires c = search line-in

pub returns-in-Blank : goal.returns-in-Blank
returns-in-Blank c = search step-blank

pub returns-in-Foul : goal.returns-in-Foul
returns-in-Foul c = search step-foul

pub word_step-requires : goal.word_step-requires
word_step-requires c = search step-word

pub name_line-requires : goal.name_line-requires
name_line-requires c = (search line-some, search step-name, search line-few)
