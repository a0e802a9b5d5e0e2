use Rattle.text_names.proofs.WalkLaws.{nameless-end, nameless-close, nameless-name, nameless-more}
use Rattle.text_names.proofs.next_name.Goals as goal

pub returns-in_err-m : goal.returns-in_err-m
returns-in_err-m c = rw c.from_residual.ensures (nameless-end c.loop-m.invariant c.in_err-m.ensures)

pub returns-in-34 : goal.returns-in-34
returns-in-34 c = search (nameless-close, c.in_ok-m.ensures)

pub returns-in-60 : goal.returns-in-60
returns-in-60 c = search (nameless-name, c.in_ok-m.ensures)

pub loop-m-preserved : goal.loop-m-preserved
loop-m-preserved c = search (nameless-more, c.in_ok-m.ensures)
