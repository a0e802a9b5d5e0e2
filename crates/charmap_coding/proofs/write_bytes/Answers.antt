use Rattle.charmap_coding.proofs.EncodeLaws.{putting-byte, putting-no_byte}
use Rattle.rules.proofs.PutLaws.{putting-none, putting-all}
use Rattle.charmap_coding.proofs.write_bytes.Goals as goal
use Rattle.charmap_coding.proofs.write_bytes.Goals.{in-Some, in_default}

pub loop-i-init : goal.loop-i-init
loop-i-init c = search putting-none

pub loop-i-preserved : goal.loop-i-preserved
loop-i-preserved c = elim c.match-byte_of.branch [ in-Some w ↦ search (putting-byte, w.in-Some.ensures) | in_default w ↦ search (putting-no_byte, w.in_default.ensures) ]

pub returns : goal.returns
returns c = search putting-all
