use Rattle.charmap_coding.proofs.ByteLaws.{finding-none, finding-other, finding-unmarked, finding-found, finding-all}
use Rattle.charmap_coding.proofs.find_byte.Goals as goal
use Rattle.charmap_coding.proofs.find_byte.Goals.{else-c-d-via-then-c-d+else-ones-i-eq1, else-c-d-via-else-c-d}

pub loop-i-init : goal.loop-i-init
loop-i-init c = search finding-none

pub returns-then-ones-i-eq1 : goal.returns-then-ones-i-eq1
returns-then-ones-i-eq1 c = search finding-found

pub loop-i-preserved : goal.loop-i-preserved
loop-i-preserved c =
    elim c.else-c-d.branch [ else-c-d-via-then-c-d+else-ones-i-eq1 w ↦ search finding-unmarked | else-c-d-via-else-c-d w ↦ search finding-other ]

pub returns : goal.returns
returns c = search finding-all
