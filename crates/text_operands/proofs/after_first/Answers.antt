-- `text_operands::after_first` meets its contract: a law for each way to return.
use Rattle.text_operands.proofs.AfterLaws.{after-blank, after-end, after-broken, after-solid}
use Rattle.text_operands.proofs.after_first.Goals as goal

pub returns-then-blank_next : goal.returns-then-blank_next
returns-then-blank_next c = search after-blank

pub returns-in-End : goal.returns-in-End
returns-in-End c = search after-end

pub returns-in-Broken : goal.returns-in-Broken
returns-in-Broken c = search after-broken

pub returns-in-Token : goal.returns-in-Token
returns-in-Token c = search after-solid
