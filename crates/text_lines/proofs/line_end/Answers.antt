use Rattle.text_lines.proofs.WalkLaws.{dull-within, reads-mark, reads-foul, reads-join, reads-hidden, reads-less-mark, reads-less-join, reads-less-hidden, reads_end}
use Rattle.text_lines.proofs.line_end.Goals as goal

pub next_item-requires : goal.next_item-requires
next_item-requires c = search dull-within

pub loop-m-smaller-then-text : goal.loop-m-smaller-then-text
loop-m-smaller-then-text c = search reads-less-mark

pub loop-m-preserved-then-text : goal.loop-m-preserved-then-text
loop-m-preserved-then-text c = search reads-mark

pub loop-m-smaller-else-text : goal.loop-m-smaller-else-text
loop-m-smaller-else-text c = search reads-less-mark

pub loop-m-preserved-else-text : goal.loop-m-preserved-else-text
loop-m-preserved-else-text c = search reads-foul

pub loop-m-smaller-in-Join : goal.loop-m-smaller-in-Join
loop-m-smaller-in-Join c = search reads-less-join

pub loop-m-preserved-in-Join : goal.loop-m-preserved-in-Join
loop-m-preserved-in-Join c = search reads-join

pub loop-m-smaller : goal.loop-m-smaller
loop-m-smaller c = search reads-less-hidden

pub loop-m-preserved : goal.loop-m-preserved
loop-m-preserved c = search reads-hidden

pub returns-in-End : goal.returns-in-End
returns-in-End c = search reads_end
