use Rattle.base_units.proofs.CharLaws.{string-long, sifted-none, sifted-good, sifted-bad, sifted-all}
use Rattle.base_units.proofs.good_string.Goals as goal
use Rattle.base_units.proofs.good_string.Goals.{then-not-is_character, else-not-is_character}

pub returns-then-s-gt4096 : goal.returns-then-s-gt4096
returns-then-s-gt4096 c = search string-long

pub loop-n-init : goal.loop-n-init
loop-n-init c = search sifted-none

pub loop-n-preserved : goal.loop-n-preserved
loop-n-preserved c = elim c.if-not-is_character.branch [ then-not-is_character w ↦ rw w.bad-is (search sifted-bad) | else-not-is_character w ↦ rw w.bad-is (search sifted-good) ]

pub returns : goal.returns
returns c = search sifted-all
