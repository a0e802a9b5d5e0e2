-- The starts of buckets, two at a time: pairs_are and starts_are.
use Rattle.std.proofs.Common.{◌≡◌, ℕ, zero, suc, ◌+◌, ◌-◌, ◌*◌, ◌/◌, ◌%◌, ◌<◌, ◌≤◌, Bool, true, false, ◌&&◌, eqb, leb, List, length, get_or, take, drop, sym, refl, ap, ◌∙◌, arith, length-drop, drop-cons, drop-drop, eq-eqb, ne_eqb, eqb-true, le-leb, leb-true}
use mathlib.Core.Bool.{and-true, and_assoc}
use borrow.Author.Tests.{eqb-false, lt-leb}
use Rattle.base_lists.proofs.Bools.{by}
use Rattle.rules.specs.Text.{within, every}
use Rattle.table_layout.specs.Starts.{start_at, start_all}
use Rattle.table_layout.proofs.StartLaws.{start-even, start-odd}

-- two starts in one number
pair_is : (w k : ℕ) → k < 65536 → (eqb (w % 65536) k && eqb (w / 65536) k) ≡ within (k + 65536 * k) (k + 65536 * k) w
pair_is w k h =
    by (eqb w (k + 65536 * k))
    (λ t.
    let e = eqb-true w (k + 65536 * k) t in
    rw (eq-eqb (w % 65536) k (omega arith), eq-eqb (w / 65536) k (omega arith), le-leb (k + 65536 * k) w (omega arith), le-leb w (k + 65536 * k) (omega arith)))
    (λ t.
    let n = eqb-false w (k + 65536 * k) t in
    by (leb (k + 65536 * k) w)
    (λ l.
    let low = leb-true (k + 65536 * k) w l in
    rw (l, lt-leb w (k + 65536 * k) (omega (arith, n))) (apart n))
    (λ l. rw l (apart n)))
  where
    apart : (w ≡ k + 65536 * k → ⊥) → (eqb (w % 65536) k && eqb (w / 65536) k) ≡ false
    apart n =
        by (eqb (w % 65536) k)
        (λ a. let e = eqb-true (w % 65536) k a in rw (a, ne_eqb (w / 65536) k (λ f. n (omega arith))))
        (λ a. rw a)

-- pairs of starts, the first of bucket 2 x j
pairs : (ss : List ℕ) (k j m : ℕ) → k < 65536 → j + m ≤ length ss
    → start_all ss k (2 * j) (2 * m) ≡ every (within (k + 65536 * k) (k + 65536 * k)) (take m (drop j ss))
unfolding start_all every
pairs ss k j zero h l = refl
pairs ss k j (suc m) h l =
    let z : 2 * suc m ≡ suc (suc (2 * m)) = omega arith in
    let next : suc (suc (2 * j)) ≡ 2 * suc j = omega arith in
    let even : start_at ss (2 * j) ≡ get_or ss j 0 % 65536 =
    start-even ss (2 * j) (omega arith) ∙ ap (λ (x : ℕ). get_or ss x 0 % 65536) (omega arith) in
    let odd : start_at ss (suc (2 * j)) ≡ get_or ss j 0 / 65536 =
    start-odd ss (suc (2 * j)) (omega arith) ∙ ap (λ (x : ℕ). get_or ss x 0 / 65536) (omega arith) in
    rw (z, next, even, odd, drop-cons ss j 0 (omega arith), ← pairs ss k (suc j) m h (omega arith), ← pair_is (get_or ss j 0) k h)
    (sym (and_assoc (eqb (get_or ss j 0 % 65536) k) (eqb (get_or ss j 0 / 65536) k) (start_all ss k (2 * suc j) (2 * m))))

-- one more at the end
starts-last : (ss : List ℕ) (k b n : ℕ) → start_all ss k b (suc n) ≡ (start_all ss k b n && eqb (start_at ss (b + n)) k)
unfolding start_all
starts-last ss k b zero = let z : b + 0 ≡ b = omega arith in rw z (and-true (eqb (start_at ss b) k))
starts-last ss k b (suc n) =
    let z : b + suc n ≡ suc b + n = omega arith in
    rw z
    (ap (λ (x : Bool). eqb (start_at ss b) k && x) (starts-last ss k (suc b) n)
    ∙ sym (and_assoc (eqb (start_at ss b) k) (start_all ss k (suc b) n) (eqb (start_at ss (suc b + n)) k)))

-- ## pairs_are

module _ (t : List ℕ) (from b end k : ℕ) (even : b % 2 ≡ 0) (to : b ≤ end) (room : from + (end + 1) / 2 ≤ length t) (small : k < 65536) {r : Bool}
    (same : r ≡ every (within (k + 65536 * k) (k + 65536 * k)) (take (from + end / 2 - (from + b / 2)) (drop (from + b / 2) t))) where
  all-pairs : r ≡ start_all (drop from t) k b (2 * ((end - b) / 2))
  all-pairs =
      let both : ℕ = k + 65536 * k in
      let m : ℕ = (end - b) / 2 in
      let back : 2 * (b / 2) ≡ b = omega arith in
      let many : from + end / 2 - (from + b / 2) ≡ m = omega arith in
      rw many at same
      ∙ ap (λ (l : List ℕ). every (within both both) (take m l)) (sym (drop-drop (b / 2) from t))
      ∙ sym (pairs (drop from t) k (b / 2) m small (simp length-drop (omega arith)))
      ∙ ap (λ (x : ℕ). start_all (drop from t) k x (2 * m)) back

  -- where one is left
  one_left : (end % 2 ≡ 0 → ⊥) → start_all (drop from t) k b (end - b) ≡ (r && eqb (start_at (drop from t) (end - 1)) k)
  one_left z =
      let n : end - b ≡ suc (2 * ((end - b) / 2)) = omega arith in
      let j : b + 2 * ((end - b) / 2) ≡ end - 1 = omega arith in
      ap (start_all (drop from t) k b) n ∙ starts-last (drop from t) k b (2 * ((end - b) / 2)) ∙ rw (← all-pairs, j)

  -- where none is left
  none_left : end % 2 ≡ 0 → start_all (drop from t) k b (end - b) ≡ r
  none_left z =
      let n : end - b ≡ 2 * ((end - b) / 2) = omega arith in
      ap (start_all (drop from t) k b) n ∙ sym all-pairs

  pub pairs-no : r ≡ false → r ≡ start_all (drop from t) k b (end - b)
  pairs-no e =
      e ∙
      by (eqb (end % 2) 0)
      (λ z. sym (none_left (eqb-true (end % 2) 0 z) ∙ e))
      (λ z. sym (one_left (eqb-false (end % 2) 0 z) ∙ rw e))

  pub pairs-all : r ≡ true → end % 2 ≡ 0 → eqb (end % 2) 0 ≡ start_all (drop from t) k b (end - b)
  pairs-all e z = eq-eqb (end % 2) 0 z ∙ sym (none_left z ∙ e)

  pub pairs-last : r ≡ true → (end % 2 ≡ 0 → ⊥) → {s : ℕ} → s ≡ start_at (drop from t) (end - 1) → eqb s k ≡ start_all (drop from t) k b (end - b)
  pairs-last e z is = sym (one_left z ∙ rw (e, ← is))

-- ## starts_are

module _ (ss : List ℕ) (b end k : ℕ) (some : b < end) {s : ℕ} (start : s ≡ start_at ss b) where
  first-start : start_all ss k b (end - b) ≡ (eqb s k && start_all ss k (b + 1) (end - (b + 1)))
  unfolding start_all
  first-start =
      let n : end - b ≡ suc (end - (b + 1)) = omega arith in
      let j : b + 1 ≡ suc b = omega arith in
      rw (n, j, start)

  pub starts-no : (s ≡ k → ⊥) → eqb s k ≡ start_all ss k b (end - b)
  starts-no e = sym (first-start ∙ rw (ne_eqb s k e))

  pub starts_more : s ≡ k → {r : Bool} → r ≡ start_all ss k (b + 1) (end - (b + 1)) → r ≡ start_all ss k b (end - b)
  starts_more e is = is ∙ sym (first-start ∙ rw (eq-eqb s k e))
