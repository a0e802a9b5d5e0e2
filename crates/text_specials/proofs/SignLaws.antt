-- Whether a line may set the comment or the escape character, once the byte is one of those that may be one.
use mathlib.Core.Path.{◌≡◌, sym, ◌∙◌}
use mathlib.Core.Bool.{Bool, true, false, not}
use Prim.Native.Nat.{ℕ}
use lib.Dec.{eqb}
use Rattle.rules.specs.Text.{◌unless◌}
use Rattle.rules.specs.Lines.{is_sign, sign_refusal}
use Rattle.rules.specs.Lines as paper
use Rattle.text_specials.specs.Force.{operand}

module _ (h : paper.Chars) (k : Bool) (c : ℕ) (t : Bool) (e : t ≡ is_sign c) (i : t ≡ true) where
  -- the comment character, for the first time: it may be set where it is not the escape character
  pub comment-once : k ≡ true → h.comment_set ≡ false → {r : Bool} → r ≡ not (eqb c h.escape) → (3 unless r) ≡ sign_refusal h k (operand c)
  unfolding sign_refusal
  comment-once j a d = rw (sym e ∙ i, j, a, d)
