-- Strings and the elements found in them: what they are made of, and what such an element is to its string, an item's place, some of the characters that are left, and the first of the elements that are.
use mathlib.Core.Path.{◌≡◌, ap, ◌∙◌}
use mathlib.Core.Bool.{true}
use mathlib.Core.List.{List, ◌∷◌}
use Prim.Native.Nat.{ℕ, ◌+◌, ◌-◌, ◌<◌}
use native.Mathlib.Omega.{arith}
use lib.ListN.{length, drop, length-drop}
use lib.Seq.{drop-drop}
use lib.Dec.{leb}
use Rattle.base_lists.proofs.Bools.{and_right}
use Rattle.rules.specs.Text.{every}
use Rattle.rules.specs.Names.{is_character}
use Rattle.rules.specs.Table.{accepted, meaning_in}
use Rattle.rules.specs.Order.{good_string, Step, step_of, elements}
use Rattle.rules.proofs.ElementLaws.{UpTo, step-size, step-place, elements-step}
use Rattle.table_layout.specs.Parts.{Within}
use Rattle.table_layout.proofs.PartLaws.{table-good}
use Rattle.order_find.specs.declared.Found.{Found}
use Rattle.order_find.specs.Answer.{found_as}

-- a string that is not refused
pub good-characters : (s : List ℕ) → good_string s ≡ true → every is_character s ≡ true
unfolding good_string
good-characters s g = and_right (leb (length s) 4096) (every is_character s) g

module _ (t s : List ℕ) {at : ℕ} {f : Found} (checked : accepted t ≡ true) (h : at < length s)
    (e : found_as f ≡ step_of (meaning_in t).items (drop at s)) where
  some_left : 0 < length (drop at s)
  some_left = rw (length-drop at s) (omega arith)

  -- its place is that of an item
  pub found-place : UpTo (length (meaning_in t).items) f.place
  found-place =
      let p : f.place ≡ (step_of (meaning_in t).items (drop at s)).place = ap (λ (x : Step). x.place) e in
      rw p (step-place (meaning_in t).items (drop at s) some_left (table-good t checked).undefined)

  -- which has weights at each level
  pub found_within : (level : ℕ) → level < length (meaning_in t).rules → Within t f.place level
  found_within level l = record { checked = checked; from_one = found-place.least; in-items = found-place.most; in-levels = l }

  pub found-item : Within t f.place 0
  found-item = found_within 0 (omega (arith, (table-good t checked).some_level))

  -- it takes some of the characters that are left
  pub found-size : UpTo (length s - at) f.size
  found-size =
      let p : f.size ≡ (step_of (meaning_in t).items (drop at s)).size = ap (λ (x : Step). x.size) e in
      rw (p, ← length-drop at s) (step-size (meaning_in t).items (drop at s) some_left)

  -- it is the first of the elements that are left
  pub found_first : elements (meaning_in t).items 0 (drop at s) ≡ f.place ∷ elements (meaning_in t).items 0 (drop (at + f.size) s)
  found_first =
      let p : f.place ≡ (step_of (meaning_in t).items (drop at s)).place = ap (λ (x : Step). x.place) e in
      let q : f.size ≡ (step_of (meaning_in t).items (drop at s)).size = ap (λ (x : Step). x.size) e in
      elements-step (meaning_in t).items (drop at s) some_left ∙ rw (← p, ← q, drop-drop f.size at s)
