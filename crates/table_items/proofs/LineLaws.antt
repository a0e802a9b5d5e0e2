-- Which order lines give an item.
use mathlib.Core.Path.{◌≡◌, refl, ap, sym, ◌∙◌}
use mathlib.Core.Bool.{Bool, true, false, not}
use mathlib.Core.List.{List}
use Prim.Native.Nat.{ℕ, ◌≤◌, ◌<◌}
use native.Mathlib.Omega.{arith}
use lib.Dec.{eqb, leb}
use borrow.Author.Tests.{le-leb, lt-leb, ne_eqb, eq-eqb, eqb-false, not-true}
use Rattle.work_rows.specs.Cells.{cell}
use Rattle.work_order.specs.Links.{chars_number}
use Rattle.work_store.specs.Store.{undefined_mark}
use Rattle.table_records.specs.Writing.{HasChars}
use Rattle.table_items.specs.Items.{is_item}

module _ (len : ℕ) (w : List ℕ) (mark : ℕ) where
  pub item-undefined : {m : ℕ} → m ≡ undefined_mark len → m ≤ mark → leb m mark ≡ is_item len w mark
  unfolding is_item
  item-undefined {m} u h = le-leb m mark h ∙ sym (rw (le-leb (undefined_mark len) mark (rw u at h)))

  module _ {m : ℕ} (u : m ≡ undefined_mark len) (h : mark < m) {x : ℕ} (i : x ≡ cell w mark chars_number) where
    told-some : not (eqb x 0) ≡ is_item len w mark
    unfolding is_item
    told-some = sym (rw (lt-leb (undefined_mark len) mark (rw u at h), ← i))

    -- any truth value that tells whether it has characters
    pub item-told : {b : Bool} → (b ≡ true → 1 ≤ x) → (b ≡ false → x ≡ 0) → b ≡ is_item len w mark
    item-told {b = true} some none = sym (ap not (ne_eqb x 0 (λ z. let y = some refl in omega arith))) ∙ told-some
    item-told {b = false} some none = sym (ap not (eq-eqb x 0 (none refl))) ∙ told-some

some-told : (x : ℕ) → not (eqb x 0) ≡ true → 1 ≤ x
some-told x t = let z = eqb-false x 0 (not-true (eqb x 0) t) in omega (arith, z)

-- an item that is not UNDEFINED has characters
pub item-has : (len : ℕ) (w : List ℕ) (mark : ℕ) {b : Bool} → b ≡ is_item len w mark → b ≡ true → HasChars len w mark
unfolding is_item
item-has len w mark j t =
    let e : is_item len w mark ≡ true = sym j ∙ t in
    record { told = λ h. some-told (cell w mark chars_number) (rw (lt-leb (undefined_mark len) mark h) at e) }
