-- The name of a category, copied from the source: the part of the area where it stands.
use Rattle.std.specs.Prelude.{Result, ℕ}
use mathlib.Core.Path.{◌≡◌, sym, ap, ◌∙◌, subst}
use mathlib.Core.List.{List, ◌++◌}
use Prim.Native.Nat.{ℕ, ◌≤◌, ◌<◌}
use native.Mathlib.Omega.{arith}
use lib.ListN.{length, take, drop, length-take}
use lib.Seq.{take_all, take-append_seam}
use Rattle.text_lines.specs.declared.Signs.{Signs}
use Rattle.text_lines.specs.Stream.{line_start, marks_left}
use Rattle.text_tokens.specs.Left.{word_in, CopiesWord}
use Rattle.locale_skips.specs.Passing.{Named, name_at, CategoryIs}
use Rattle.base_units.specs.declared.Refusal.{Refusal}

module _ {g : Signs} {src : List ℕ} {category : ℕ} {room after : List ℕ} {n : ℕ} (v : Named g src category) (h : 32 ≤ length room)
    (w : CopiesWord (word_in (marks_left g src (line_start category))) room after n) where
  -- it fits
  whole : take (length room) (name_at g src category) ≡ name_at g src category
  whole = take_all (length room) (name_at g src category) (omega (arith, v.short, h))

  there : after ≡ name_at g src category ++ drop (length (name_at g src category)) room
  unfolding name_at
  there = w.copied ∙ ap (λ (x : List ℕ). x ++ drop (length (name_at g src category)) room) whole

  count : n ≡ length (name_at g src category)
  unfolding name_at
  count = w.count ∙ ap length whole

  name-there : take n after ≡ name_at g src category
  name-there = rw (count, there) (take-append_seam (name_at g src category) (drop (length (name_at g src category)) room))

  pub name-count : n ≡ length (take n after)
  name-count = count ∙ ap length (sym name-there)

  pub name-fits : n ≤ length after
  name-fits = let c = name-count ∙ length-take n after in omega (arith, c)

  pub name-some : 0 < length (take n after)
  name-some = rw name-there v.some

  pub name-is : (at number : ℕ) (r : Result (ℕ × ℕ) (Refusal × ℕ)) → CategoryIs g src at number (take n after) r → CategoryIs g src at number (name_at g src category) r
  name-is at number r x = subst (λ (y : List ℕ). CategoryIs g src at number y r) name-there x
