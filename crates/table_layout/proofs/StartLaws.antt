-- The starts of buckets, two in each number: read back, they say how many items have a smaller bucket; and numbers that say so are the starts.
use mathlib.Core.Path.{◌≡◌, refl}
use mathlib.Core.List.{List, [], ◌∷◌}
use Prim.Native.Nat.{ℕ, zero, suc, ◌+◌, ◌*◌, ◌/◌, ◌%◌, ◌≤◌, ◌<◌}
use native.Mathlib.Omega.{arith}
use lib.ListN.{length, get_or}
use Rattle.rules.specs.Meaning.{Item}
use Rattle.rules.specs.Table.{item_buckets, below, starts_from, starts}
use Rattle.rules.proofs.WidthLaws.{below-few, buckets-length}
use Rattle.table_layout.specs.Starts.{start_at}

low : (a c : ℕ) → a < 65536 → (a + 65536 * c) % 65536 ≡ a
low a c h = omega arith

high : (a c : ℕ) → a < 65536 → (a + 65536 * c) / 65536 ≡ c
high a c h = omega arith

module _ (qs : List ℕ) (few : length qs ≤ 32768) where
  starts_from-at : (n b x : ℕ) → x < 2 * n → start_at (starts_from n b qs) x ≡ below (b + x) qs
  unfolding start_at starts_from
  starts_from-at zero b x h = absurd (omega arith)
  starts_from-at (suc n) b zero h =
      let k = below-few b qs in
      let e : b + 0 ≡ b = omega arith in
      rw e (low (below b qs) (below (suc b) qs) (omega arith))
  starts_from-at (suc n) b (suc zero) h =
      let k = below-few b qs in
      let e : b + 1 ≡ suc b = omega arith in
      rw e (high (below b qs) (below (suc b) qs) (omega arith))
  starts_from-at (suc n) b (suc (suc x)) h =
      let e : b + suc (suc x) ≡ suc (suc b) + x = omega arith in
      rw e (starts_from-at n (suc (suc b)) x (omega arith))

-- what stands for a bucket
pub starts-at : (is : List Item) → length is ≤ 32768 → (x : ℕ) → x < 2 * length is → start_at (starts is) x ≡ below x (item_buckets (length is) is)
unfolding starts
starts-at is few x h =
    let qs : List ℕ = item_buckets (length is) is in
    let z : 0 + x ≡ x = omega arith in
    rw z at (starts_from-at qs (omega (arith, few, buckets-length (length is) is)) (length is) 0 x h)

starts_from-only : (qs : List ℕ) (n b : ℕ) (ss : List ℕ) → length ss ≡ n
    → ((x : ℕ) → x < 2 * n → start_at ss x ≡ below (b + x) qs) → ss ≡ starts_from n b qs
unfolding start_at starts_from
starts_from-only qs zero b [] e f = refl
starts_from-only qs zero b (s ∷ ss) e f = absurd (omega arith)
starts_from-only qs (suc n) b [] e f = absurd (omega arith)
starts_from-only qs (suc n) b (s ∷ ss) e f =
    let z : b + 0 ≡ b = omega arith in
    let o : b + 1 ≡ suc b = omega arith in
    let lo : s % 65536 ≡ below b qs = rw z at (f 0 (omega arith)) in
    let hi : s / 65536 ≡ below (suc b) qs = rw o at (f 1 (omega arith)) in
    let first : s ≡ below b qs + 65536 * below (suc b) qs = omega arith in
    let next : (x : ℕ) → x < 2 * n → start_at ss x ≡ below (suc (suc b) + x) qs =
    λ x h. let e : b + suc (suc x) ≡ suc (suc b) + x = omega arith in rw e at (f (suc (suc x)) (omega arith)) in
    rw (← first, ← starts_from-only qs n (suc (suc b)) ss (omega arith) next)

-- numbers that say so for each bucket are the starts
pub starts-only : (is : List Item) (ss : List ℕ) → length ss ≡ length is
    → ((x : ℕ) → x < 2 * length is → start_at ss x ≡ below x (item_buckets (length is) is)) → ss ≡ starts is
unfolding starts
starts-only is ss e f = starts_from-only (item_buckets (length is) is) (length is) 0 ss e (λ x h. let z : 0 + x ≡ x = omega arith in rw z (f x h))

-- ## As the code reads them

start-double : (ss : List ℕ) (k : ℕ) → (start_at ss (2 * k) ≡ get_or ss k 0 % 65536) × (start_at ss (suc (2 * k)) ≡ get_or ss k 0 / 65536)
unfolding start_at
start-double [] k = (refl, refl)
start-double (s ∷ ss) zero = (refl, refl)
start-double (s ∷ ss) (suc k) =
    let e : 2 * suc k ≡ suc (suc (2 * k)) = omega arith in
    let r = start-double ss k in
    (rw e r.0, rw e r.1)

pub start-even : (ss : List ℕ) (b : ℕ) → b % 2 ≡ 0 → start_at ss b ≡ get_or ss (b / 2) 0 % 65536
start-even ss b h = let e : 2 * (b / 2) ≡ b = omega arith in rw e at (start-double ss (b / 2)).0

pub start-odd : (ss : List ℕ) (b : ℕ) → b % 2 ≡ 1 → start_at ss b ≡ get_or ss (b / 2) 0 / 65536
start-odd ss b h = let e : suc (2 * (b / 2)) ≡ b = omega arith in rw e at (start-double ss (b / 2)).1
