-- How many order lines there can be: no more than there are rows.
use Rattle.std.specs.Prelude.{if◌then◌else◌}
use mathlib.Core.Path.{◌≡◌}
use mathlib.Core.List.{List, [], ◌∷◌}
use Prim.Native.Nat.{ℕ, zero, suc, ◌+◌, ◌/◌, ◌≤◌, ◌<◌}
use native.Mathlib.Omega.{arith}
use lib.ListN.{length}
use lib.Dec.{eqb}
use borrow.Author.Tests.{eqb-true, eqb-false}
use Rattle.base_lists.proofs.Bools.{cond_both, cond-by}
use Rattle.base_lists.proofs.Lists.{All}
use Rattle.rules.specs.Meaning.{Rule}
use Rattle.rules.specs.State.{Declaration, OrderLine}
use Rattle.text_lines.specs.declared.Signs.{Signs}
use Rattle.work_rows.proofs.CellLaws.{Apart}
use Rattle.work_order.specs.declared.Order.{Order}
use Rattle.work_order.specs.Links.{Spread, none, more}
use Rattle.locale_sheet.specs.Known.{IsListed, Known}
use Rattle.locale_sheet.proofs.MarkLaws.{row_in}

-- ## Marks of different rows

-- a mark's row is one of the first b
abbrev Below : ℕ → ℕ → Type 0
Below b v = v / 16 < b

-- the marks without the first one of the row b
unfoldable without : ℕ → List ℕ → List ℕ
without b [] = []
without b (v ∷ vs) = if eqb (v / 16) b then vs else v ∷ without b vs

without_all_lem : (P : ℕ → Type 0) (b : ℕ) (vs : List ℕ) → All P vs → All P (without b vs)
unfolding without
without_all_lem P b [] a = tt
without_all_lem P b (v ∷ vs) a = cond_both (All P) (eqb (v / 16) b) a.1 (a.0, without_all_lem P b vs a.1)

without-spread : (b : ℕ) (vs : List ℕ) → Spread vs → Spread (without b vs)
unfolding without
without-spread b [] none = none
without-spread b (v ∷ vs) (more a s) = cond_both Spread (eqb (v / 16) b) s (more (without_all_lem (Apart v) b vs a) (without-spread b vs s))

without-long : (b : ℕ) (vs : List ℕ) → length vs ≤ suc (length (without b vs))
unfolding without
without-long b [] = omega arith
without-long b (v ∷ vs) =
    cond_both (λ (us : List ℕ). suc (length vs) ≤ suc (length us)) (eqb (v / 16) b) (omega arith) (let h = without-long b vs in omega (arith, h))

-- the others of the first b + 1 rows are of the first b
others_below : (b v : ℕ) (vs : List ℕ) → v / 16 ≡ b → All (Apart v) vs → All (Below (suc b)) vs → All (Below b) vs
others_below b v [] e a h = tt
others_below b v (u ∷ us) e a h =
    (let n : u / 16 ≡ b → ⊥ = λ z. a.0 (omega (arith, e, z)) in let l = h.0 in omega (arith, n, l), others_below b v us e a.1 h.1)

without-below : (b : ℕ) (vs : List ℕ) → Spread vs → All (Below (suc b)) vs → All (Below b) (without b vs)
unfolding without
without-below b [] none h = tt
without-below b (v ∷ vs) (more a s) h =
    cond-by (All (Below b)) (eqb (v / 16) b)
    (λ t. others_below b v vs (eqb-true (v / 16) b t) a h.1)
    (λ t. (let n = eqb-false (v / 16) b t in let l = h.0 in omega (arith, n, l), without-below b vs s h.1))

-- there are no more marks than rows
pub spread-few : (b : ℕ) (vs : List ℕ) → Spread vs → All (λ (v : ℕ). v / 16 < b) vs → length vs ≤ b
spread-few zero [] s h = omega arith
spread-few zero (v ∷ vs) s h = absurd (let l = h.0 in omega (arith, l))
spread-few (suc b) vs s h =
    let i = spread-few b (without b vs) (without-spread b vs s) (without-below b vs s h) in
    let l = without-long b vs in
    omega (arith, i, l)

-- ## Of what is known

module _ {g : Signs} {src w : List ℕ} {o : Order} {rs : List Rule} {n : ℕ} {cs : List Declaration} {ls : List OrderLine} (k : Known g src w o rs n cs ls) where
  listed-rows : (vs : List ℕ) → All (IsListed g src w k.ds) vs → All (λ (v : ℕ). v / 16 < length src / 8 + 2) vs
  listed-rows [] a = tt
  listed-rows (v ∷ vs) a = (let i = row_in k.holds v a.0.row in omega (arith, i), listed-rows vs a.1)

  -- the order lines are no more than the rows
  pub known-few : o.count ≤ length src / 8 + 2
  known-few =
      let i = spread-few (length src / 8 + 2) k.marks k.lines.spread (listed-rows k.marks k.listed) in
      let c = k.lines.count in
      omega (arith, i, c)
