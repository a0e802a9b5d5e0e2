-- What follows a category's word: nothing but blanks, or more.
use mathlib.Core.Path.{◌≡◌}
use mathlib.Core.Bool.{Bool, true, false}
use mathlib.Core.List.{List}
use Prim.Native.Nat.{ℕ}
use Rattle.text_lines.specs.declared.Signs.{Signs}
use Rattle.text_lines.specs.declared.Spot.{Spot}
use Rattle.text_lines.specs.Stream.{marks_left}
use Rattle.text_tokens.specs.Left.{word_in, WordEnds, RestIs}
use Rattle.locale_outside.specs.Outside.{is_category, AloneIs}

module _ {g : Signs} {src : List ℕ} {p q : Spot} {t : Bool} (v : WordEnds g src p q) (w : RestIs g src q t) where
  pub alone-not : t ≡ false → AloneIs g src p false
  alone-not h =
      record { alone = rw (← v.after, ← w.blanks, h); dead = rw (← v.after) w.dead }

  pub alone-word : t ≡ true → {r : Bool} → r ≡ is_category (word_in (marks_left g src p)) → AloneIs g src p r
  alone-word h e =
      record { alone = rw (← v.after, ← w.blanks, h) e; dead = rw (← v.after) w.dead }
