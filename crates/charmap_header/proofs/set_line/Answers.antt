-- `charmap_header::set_line` meets its contract: 2 is told before 3, and the byte must stand alone and may be set.
use Rattle.charmap_header.proofs.EndLaws.{set_to, set-fits, set-foul, set_more, set-refused, set-good}
use Rattle.charmap_header.proofs.set_line.Goals as goal

pub line_end-e-requires : goal.line_end-e-requires
line_end-e-requires c = search set_to

pub overflow_add-result : goal.overflow_add-result
overflow_add-result c = record { fits = search set-fits }

pub returns-then-not-all_text : goal.returns-then-not-all_text
returns-then-not-all_text c = search set-foul

pub returns-then-not-ends : goal.returns-then-not-ends
returns-then-not-ends c = search set_more

pub returns-then-not-may_set : goal.returns-then-not-may_set
returns-then-not-may_set c = search set-refused

pub returns : goal.returns
returns c = search set-good
