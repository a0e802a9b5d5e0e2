-- The area after an element is declared: its name, its quotes, and the mark of the quotes in the row of the name.
use mathlib.Core.Path.{◌≡◌, subst, sym, ◌∙◌}
use mathlib.Core.List.{List, ◌∷◌}
use Prim.Native.Nat.{ℕ, ◌+◌, ◌*◌, ◌/◌, ◌^◌, ◌≤◌, ◌<◌}
use native.Mathlib.Omega.{arith}
use lib.ListN.{length, set, length-set}
use lib.Dec.{eqb}
use borrow.Author.Tests.{eqb-true, eqb-false}
use Rattle.base_lists.proofs.Bools.{by}
use Rattle.work_rows.specs.Cells.{cell_at}
use Rattle.work_rows.proofs.CellLaws.{cell-told}
use Rattle.work_subjects.specs.Keys.{Key}
use Rattle.work_subjects.specs.Numbers.{kind_of}
use Rattle.work_store.specs.Store.{fresh, above_of, Roomy, Declares}
use Rattle.work_store.proofs.AreaLaws.{other, above-name, above_other, free-name, holds-told}
use Rattle.work_store.proofs.ListLaws.{is_place-fresh, is_place-older, five-older, five-later, five-named}
use Rattle.locale_elements.specs.Element.{DeclaresBoth}

-- the area stays roomy
pub both-roomy : {key : ℕ → Key} {len : ℕ} {w w₁ : List ℕ} {v : ℕ} → Roomy len w → Declares key len w v w₁ → Roomy len w₁
both-roomy r d = record { few = r.few; room = rw d.long r.room }

-- a mark is a number of the area
pub both-fits : {len : ℕ} {w : List ℕ} (q : ℕ) → Roomy len w → q / 2 ≤ len → q < 2 ^ 32
both-fits q r h = omega (arith, r.few, h)

-- no key takes more than one row before its own
above-few : (kind : ℕ) → above_of kind ≤ 1
above-few kind =
    by (eqb kind 1)
    (λ t. let i = above-name kind (eqb-true kind 1 t) in omega (arith, i))
    (λ t. let i = above_other kind (eqb-false kind 1 t) in omega (arith, i))

module _ {key : ℕ → Key} {len : ℕ} {w w₁ w₂ : List ℕ} {v q : ℕ} (r : Roomy len w) (d : Declares key len w v w₁) (e : Declares key len w₁ q w₂)
    (within : v / 2 ≤ len) where
  -- the row of the name
  pub both-row : 8 * (v / 16) + 8 ≤ length w₂
  both-row = omega (arith, r.room, d.long, e.long)

  -- the quotes take their own row alone
  not-name : kind_of (key q) ≡ 2 → above_of (kind_of (key q)) ≡ 0
  not-name z = above_other (kind_of (key q)) (λ i. omega (arith, i, z))

  declares-both : v / 16 + 1 ≤ q / 16 → DeclaresBoth key len w v q (set w₂ (cell_at v 0) q)
  declares-both later =
      record {
        is = λ n ds h l x a b y c f.
            let i = above-name (kind_of (key v)) x in
            let j = not-name y in
            holds-told v 0 q (omega arith) (is_place-older key q (fresh key v ∷ ds) v (is_place-fresh key v ds)) (free-name (kind_of (key v)) v 0 (omega arith) x (omega (arith, l)))
            (e.is (v / 16 + 1) (fresh key v ∷ ds) (d.is n ds h (omega (arith, l, i)) a b) (omega (arith, later, j)) c f);
        long = length-set w₂ (cell_at v 0) q ∙ e.long ∙ d.long;
        chars = cell-told w₂ v 0 q (omega arith) both-row;
        own = λ k a c o x y. other w₂ (cell_at v 0) (cell_at v k) q (λ z. omega (arith, z, a))
            ∙ five-older e v k c (let j = not-name y in omega (arith, later, j)) ∙ five-named d k c x o;
        before = λ u k c b. other w₂ (cell_at v 0) (cell_at u k) q (λ z. omega (arith, z, c, b))
            ∙ five-older e u k c (let j = above-few (kind_of (key q)) in omega (arith, later, b, j))
            ∙ five-older d u k c (let j = above-few (kind_of (key v)) in omega (arith, b, j));
        after = λ u k c b. other w₂ (cell_at v 0) (cell_at u k) q (λ z. omega (arith, z, c, b, later))
            ∙ five-later e u k c b ∙ five-later d u k c (omega (arith, b, later));
        beyond = λ i b. other w₂ (cell_at v 0) i q (λ z. omega (arith, z, b, within)) ∙ e.beyond i b ∙ d.beyond i b;
      }

  pub both-declared : {w₃ : List ℕ} → v / 16 + 1 ≤ q / 16 → w₃ ≡ set w₂ (cell_at v 0) q → DeclaresBoth key len w v q w₃
  both-declared later z = subst (DeclaresBoth key len w v q) (sym z) (declares-both later)
