-- `locale_conditionals::branch_line` meets its contract: a law for each way that the line begins.
use Rattle.locale_conditionals.proofs.LineLaws.{opens-blank, opens-foul, opens-name, opens-word}
use Rattle.locale_conditionals.proofs.branch_line.Goals as goal

pub returns-in-Blank : goal.returns-in-Blank
returns-in-Blank c = search opens-blank

pub returns-in-Foul : goal.returns-in-Foul
returns-in-Foul c = search opens-foul

pub returns-in-Name : goal.returns-in-Name
returns-in-Name c = search opens-name

pub word_turn-requires : goal.word_turn-requires
word_turn-requires c = search opens-word
