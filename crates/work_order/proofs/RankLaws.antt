-- Ranks given along the list of order lines: the turns of the loop, and what the ranks are then.
use mathlib.Core.Path.{◌≡◌, refl, sym, ap, ◌∙◌, subst}
use mathlib.Core.List.{List, [], ◌∷◌}
use Prim.Native.Nat.{ℕ, suc, ◌+◌, ◌-◌, ◌*◌, ◌/◌, ◌≤◌, ◌<◌}
use native.Mathlib.Omega.{arith}
use native.Mathlib.Numerals.{add-one}
use lib.ListN.{length, set, length-set}
use Rattle.work_rows.specs.Cells.{cell_at, cell}
use Rattle.work_rows.proofs.CellLaws.{cell_other}
use Rattle.work_order.specs.declared.Order.{Order}
use Rattle.work_order.specs.Links.{rank_number, next_number, Row, Linked, ends, goes, Lines, SomeLines, ranked, Ranks}
use Rattle.work_order.proofs.ListLaws.{linked-other}

-- ## The loop

-- What is left of a list: where it goes on, and that giving ranks there gives them all.
pub record Ranking (w₀ : List ℕ) (o : Order) (w : List ℕ) (v rank : ℕ) : Type 0 where
  pub left : List ℕ
  pub linked : Linked w v left
  pub count : o.count ≡ rank + length left
  pub long : length w ≡ length w₀
  pub area : (vs : List ℕ) → Lines w₀ o vs → ranked w₀ 1 vs ≡ ranked w (suc rank) left

-- a list is determined by where it begins and how long it is
pub linked-one : (w : List ℕ) (p : ℕ) (us vs : List ℕ) → Linked w p us → Linked w p vs → us ≡ vs
linked-one w p [] [] h k = refl
linked-one w p [] (v ∷ vs) ends (goes r n) = absurd (let s = r.some in omega (arith, s))
linked-one w p (u ∷ us) [] (goes r n) ends = absurd (let s = r.some in omega (arith, s))
linked-one w p (u ∷ us) (v ∷ vs) (goes r n) (goes s m) = ap (λ (x : List ℕ). u ∷ x) (linked-one w (cell w u next_number) us vs n m)

pub ranking-start : (w : List ℕ) (o : Order) → SomeLines w o → Ranking w o w o.first 0
ranking-start w o s = record {
  left = s.marks;
  linked = s.lines.linked;
  count = let c = s.lines.count in omega (arith, c);
  long = refl;
  area = λ vs k. ap (ranked w 1) (linked-one w o.first vs s.marks k.linked s.lines.linked);
}

-- a line is left
first-row : (w : List ℕ) (o : Order) (rank v : ℕ) (left : List ℕ) → Linked w v left → o.count ≡ rank + length left → rank < o.count → Row w v
first-row w o rank v [] k c h = absurd (omega (arith, c, h))
first-row w o rank v (u ∷ us) (goes x n) c h = x

-- the turn of a line that is left
more_of : (w₀ : List ℕ) (o : Order) (w : List ℕ) (rank v : ℕ) (left : List ℕ) → length w ≡ length w₀ → Linked w v left
    → o.count ≡ rank + length left → ((vs : List ℕ) → Lines w₀ o vs → ranked w₀ 1 vs ≡ ranked w (suc rank) left) → rank < o.count
    → Ranking w₀ o (set w (cell_at v rank_number) (rank + 1)) (cell w v next_number) (rank + 1)
unfolding ranked
more_of w₀ o w rank v [] l k c a h = absurd (omega (arith, c, h))
more_of w₀ o w rank v (u ∷ us) l (goes x n) c a h = record {
  left = us;
  linked = linked-other w u rank_number (rank + 1) (cell w u next_number) us (omega arith) (λ e. omega (arith, e)) n;
  count = omega (arith, c);
  long = length-set w (cell_at u rank_number) (rank + 1) ∙ l;
  area = λ vs k. a vs k ∙ rw (add-one rank);
}

module _ (w₀ : List ℕ) (o : Order) (w : List ℕ) (v rank : ℕ) (r : Ranking w₀ o w v rank) where
  pub ranking-row : rank < o.count → 8 * (v / 16) + 8 ≤ length w
  ranking-row h = (first-row w o rank v r.left r.linked r.count h).inside

  -- also after the rank is written
  pub ranking-row-next : (w₁ : List ℕ) → rank < o.count → w₁ ≡ set w (cell_at v rank_number) (rank + 1) → 8 * (v / 16) + 8 ≤ length w₁
  ranking-row-next w₁ h e =
      let i = ranking-row h in
      let l : length w₁ ≡ length w = ap length e ∙ length-set w (cell_at v rank_number) (rank + 1) in
      omega (arith, i, l)

  pub ranking-more : (w₁ : List ℕ) (x : ℕ) → rank < o.count → w₁ ≡ set w (cell_at v rank_number) (rank + 1) → x ≡ cell w₁ v next_number
      → Ranking w₀ o w₁ x (rank + 1)
  ranking-more w₁ x h e f =
      let m = more_of w₀ o w rank v r.left r.long r.linked r.count r.area h in
      let n : x ≡ cell w v next_number =
      f ∙ ap (λ (y : List ℕ). cell y v next_number) e ∙ cell_other w v rank_number v next_number (rank + 1) (omega arith) (omega arith) (λ z. omega (arith, z)) in
      subst (λ (y : List ℕ). Ranking w₀ o y x (rank + 1)) (sym e)
      (subst (λ (y : ℕ). Ranking w₀ o (set w (cell_at v rank_number) (rank + 1)) y (rank + 1)) (sym n) m)

  end_of : (left : List ℕ) → o.count ≡ rank + length left → o.count ≤ rank → left ≡ []
  end_of [] c h = refl
  end_of (u ∷ us) c h = absurd (omega (arith, c, h))

  pub ranking-end : o.count ≤ rank → Ranks w₀ o w
  unfolding ranked
  ranking-end h = record { area = λ vs k. sym (r.area vs k ∙ ap (ranked w (suc rank)) (end_of r.left r.count h)) }
