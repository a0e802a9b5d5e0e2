-- `text_names::hex` meets its contract: a law for figures, for letters and for what is neither.
use Rattle.text_names.proofs.CodeLaws.{hex-figure, hex-letter, hex-none}
use mathlib.Core.Path.{◌≡◌, ◌∙◌}
use Prim.Native.Nat.{◌<◌}
use native.Mathlib.Omega.{arith}
use Rattle.text_names.proofs.hex.Goals.{then-letter-lt6, else-letter-lt6}
use Rattle.text_names.proofs.hex.Goals as goal

pub returns-then-figure-lt10 : goal.returns-then-figure-lt10
returns-then-figure-lt10 c =
    let w : (c.from-x.result ≡ c.args.b) × (c.from-x.result < 256) = (c.from-x.ensures, omega (arith, c.from-x.ensures, c.ranges.b)) in
    hex-figure _ _ w c.if-figure-lt10.true

pub returns-else-figure-lt10 : goal.returns-else-figure-lt10
returns-else-figure-lt10 c =
    let w : (c.from-x.result ≡ c.args.b) × (c.from-x.result < 256) = (c.from-x.ensures, omega (arith, c.from-x.ensures, c.ranges.b)) in
    elim c.if-letter-lt6.branch [
      | then-letter-lt6 y ↦ y.r-is ∙ hex-letter _ _ w y.if-letter-lt6.true
      | else-letter-lt6 y ↦ y.r-is ∙ hex-none _ _ w c.if-figure-lt10.false y.if-letter-lt6.false
    ]
