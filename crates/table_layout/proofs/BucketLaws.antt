-- Buckets and starts, one law for each turn and each return of the functions that give them.
use mathlib.Core.Path.{◌≡◌, refl, sym, ap, ◌∙◌}
use mathlib.Core.List.{List}
use Prim.Native.Nat.{ℕ, suc, pred, ◌+◌, ◌-◌, ◌*◌, ◌/◌, ◌%◌, ◌≤◌, ◌<◌}
use native.Mathlib.Omega.{arith}
use lib.ListN.{get_or, take, drop}
use lib.Seq.{get_or-take, get_or-drop}
use lib.Dec.{eqb}
use lib.Bits.{bit_and, and_le_r}
use borrow.Author.Tests.{lt-ltb, le-ltb, eq-eqb, ne_eqb}
use native.Mathlib.Numerals.{sub-one}
use Rattle.base_lists.proofs.Bools.{cond_both}
use Rattle.rules.specs.Table.{pad, doubled, mask}
use Rattle.rules.proofs.BucketLaws.{mask-few}
use Rattle.table_layout.specs.Starts.{bucket_for, four_from, bucket_from, start_at}
use Rattle.table_layout.proofs.StartLaws.{start-even, start-odd}

-- ## mask_for

pub record Grown (items p k : ℕ) : Type 0 where
  pub is : p ≡ doubled k items
  pub few : k ≤ 15
  pub some : 1 ≤ p

pub grown-none : (items : ℕ) → Grown items 1 0
unfolding doubled
grown-none items = record { is = refl; few = omega arith; some = omega arith }

module _ {items p k : ℕ} (v : Grown items p k) where
  module _ (h : k < 15) {q : ℕ} where
    pub grown-double : p < items → q ≡ p * 2 → Grown items q (k + 1)
    unfolding doubled
    grown-double l t =
        let e : k + 1 ≡ suc k = omega arith in
        record { is = rw (e, ← v.is, lt-ltb p items l) (omega arith); few = omega arith; some = omega (arith, v.some) }

    pub grown-same : items ≤ p → q ≡ p → Grown items q (k + 1)
    unfolding doubled
    grown-same l t =
        let e : k + 1 ≡ suc k = omega arith in
        record { is = rw (e, ← v.is, le-ltb p items l) t; few = omega arith; some = omega (arith, v.some) }

  pub grown-all : 15 ≤ k → p - 1 ≡ mask items
  unfolding mask
  grown-all h =
      let e : k ≡ 15 = omega (arith, v.few) in
      sub-one p ∙ ap pred (rw e at v.is)

-- ## bucket_of

pub bucket-pad : (items c : ℕ) → c ≡ 0x110000 → 2 * items - 1 ≡ bucket_for items c
unfolding bucket_for
bucket-pad items c e =
    let z : 2 * items - 1 ≡ pred (2 * items) = omega arith in
    rw (eq-eqb c pad e) z

pub bucket-low : (items buckets c : ℕ) → buckets ≡ mask items → (c ≡ 0x110000 → ⊥) → bit_and c buckets ≡ bucket_for items c
unfolding bucket_for
bucket-low items buckets c m n = rw (ne_eqb c pad n, m)

-- a bucket is one of 2 x n
pub for-few : (n c : ℕ) → 1 ≤ n → bucket_for n c < 2 * n
unfolding bucket_for
for-few n c h =
    let b = mask-few n h in
    let k = and_le_r c (mask n) in
    cond_both (λ (x : ℕ). x < 2 * n) (eqb c pad) (omega arith) (omega arith)

-- ## bucket_at

module _ (t : List ℕ) (chars n p : ℕ) {r : ℕ} {four : List ℕ} (is : four ≡ take 4 (drop (four_from chars p) t)) (e : r ≡ bucket_for n (get_or four 0 0)) where
  first : get_or four 0 0 ≡ get_or t (four_from chars p) 0
  first =
      let z : four_from chars p + 0 ≡ four_from chars p = omega arith in
      rw (is, get_or-take 4 (drop (four_from chars p) t) 0 0 (omega arith), get_or-drop (four_from chars p) t 0 0, z)

  pub from_is : r ≡ bucket_from t chars n p
  unfolding bucket_from
  from_is = e ∙ ap (bucket_for n) first

  pub from-few : 1 ≤ p → p ≤ n → r < 2 * n
  from-few o u = omega (arith, e, for-few n (get_or four 0 0) (omega arith))

-- ## start_of

pub start-low : (t : List ℕ) (from b : ℕ) → b % 2 ≡ 0 → get_or t (from + b / 2) 0 % 65536 ≡ start_at (drop from t) b
start-low t from b h = sym (start-even (drop from t) b h ∙ ap (λ (n : ℕ). n % 65536) (get_or-drop from t (b / 2) 0))

pub start-high : (t : List ℕ) (from b : ℕ) → (b % 2 ≡ 0 → ⊥) → get_or t (from + b / 2) 0 / 65536 ≡ start_at (drop from t) b
start-high t from b h =
    sym (start-odd (drop from t) b (omega arith) ∙ ap (λ (n : ℕ). n / 65536) (get_or-drop from t (b / 2) 0))
