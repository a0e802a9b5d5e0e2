-- The answers of head_passes, one law for each return; and what a header that passes tells of its numbers.
use Rattle.std.proofs.Common.{◌≡◌, ℕ, zero, suc, ◌+◌, ◌<◌, ◌≤◌, Bool, true, false, ◌&&◌, eqb, leb, List, [], ◌∷◌, length, get_or, take, drop, sym, refl, ◌∙◌, arith, get_or-drop, get_or-take, eq-eqb, ne_eqb, eqb-true, le-leb, leb-true}
use borrow.Author.Tests.{lt-leb}
use Rattle.base_lists.proofs.Bools.{and_left, and_right}
use Rattle.rules.specs.Text.{within, every}
use Rattle.rules.specs.Table.{mask}
use Rattle.rules.proofs.TextLaws.{every-head, every-tail}
use Rattle.table_layout.specs.Parts.{weights_part}
use Rattle.table_check.specs.Checks.{head_passes, Headed}

-- ## head_passes

pub head-short : (t : List ℕ) → length t < 16 → false ≡ head_passes t
unfolding head_passes
head-short t h = rw (lt-leb 16 (length t) h)

module _ (t : List ℕ) (long : 16 ≤ length t) {l : Bool} (levels : l ≡ within 1 8 (get_or t 0 0)) where
  pub head-levels : l ≡ false → false ≡ head_passes t
  unfolding head_passes
  head-levels e = rw (le-leb 16 (length t) long, ← levels, e)

  module _ (good-levels : l ≡ true) {n : Bool} (items : n ≡ within 1 32768 (get_or t 1 0)) where
    pub head-items : n ≡ false → false ≡ head_passes t
    unfolding head_passes
    head-items e = rw (le-leb 16 (length t) long, ← levels, good-levels, ← items, e)

    module _ (good-items : n ≡ true) {m : ℕ} (is : m ≡ mask (get_or t 1 0)) where
      pub head-mask : (get_or t 3 0 ≡ m → ⊥) → false ≡ head_passes t
      unfolding head_passes
      head-mask e = rw (le-leb 16 (length t) long, ← levels, good-levels, ← items, good-items, ← is, ne_eqb (get_or t 3 0) m e)

      module _ (masked : get_or t 3 0 ≡ m) {r : Bool} (zeros : r ≡ every (within 0 0) (take 12 (drop 4 t))) where
        pub head-spare : r ≡ false → r ≡ head_passes t
        unfolding head_passes
        head-spare e = e ∙ rw (le-leb 16 (length t) long, ← levels, good-levels, ← items, good-items, ← is, eq-eqb (get_or t 3 0) m masked, ← zeros, e)

        pub head-room : {end : ℕ} → r ≡ true → end ≡ weights_part (get_or t 0 0) (get_or t 1 0) → leb (end + get_or t 2 0) (length t) ≡ head_passes t
        unfolding head_passes
        head-room e f =
            rw (le-leb 16 (length t) long, ← levels, good-levels, ← items, good-items, ← is, eq-eqb (get_or t 3 0) m masked, ← zeros, e, f)

-- a number in a range that a test found it in
pub in-range : (low high x : ℕ) {r : Bool} → r ≡ within low high x → r ≡ true → (low ≤ x) × (x ≤ high)
in-range low high x p e =
    let h : within low high x ≡ true = sym p ∙ e in
    (leb-true low x (and_left (leb low x) (leb x high) h), leb-true x high (and_right (leb low x) (leb x high) h))

-- ## A header that passes

zero-at : (xs : List ℕ) (k : ℕ) → every (within 0 0) xs ≡ true → get_or xs k 0 ≡ 0
zero-at [] k h = refl
zero-at (x ∷ xs) zero h =
    let b = leb-true x 0 (and_right (leb 0 x) (leb x 0) (every-head (within 0 0) x xs h)) in
    omega arith
zero-at (x ∷ xs) (suc k) h = zero-at xs k (every-tail (within 0 0) x xs h)

pub head-parts : (t : List ℕ) {r : Bool} → r ≡ head_passes t → r ≡ true → Headed t
unfolding head_passes
head-parts t p e =
    let l : ℕ = get_or t 0 0 in
    let n : ℕ = get_or t 1 0 in
    let long : Bool = leb 16 (length t) in
    let levels : Bool = within 1 8 l in
    let items : Bool = within 1 32768 n in
    let masks : Bool = eqb (get_or t 3 0) (mask n) in
    let zeros : Bool = every (within 0 0) (take 12 (drop 4 t)) in
    let room : Bool = leb (weights_part l n + get_or t 2 0) (length t) in
    let all : (long && levels && items && masks && zeros && room) ≡ true = sym p ∙ e in
    let five : (long && levels && items && masks && zeros) ≡ true = and_left (long && levels && items && masks && zeros) room all in
    let four : (long && levels && items && masks) ≡ true = and_left (long && levels && items && masks) zeros five in
    let three : (long && levels && items) ≡ true = and_left (long && levels && items) masks four in
    let two : (long && levels) ≡ true = and_left (long && levels) items three in
    let of-levels : levels ≡ true = and_right long levels two in
    let of-spare : zeros ≡ true = and_right (long && levels && items && masks) zeros five in
    let of-items : items ≡ true = and_right (long && levels) items three in
    record {
      passes = sym p ∙ e;
      long = leb-true 16 (length t) (and_left long levels two);
      some-levels = leb-true 1 l (and_left (leb 1 l) (leb l 8) of-levels);
      few-levels = leb-true l 8 (and_right (leb 1 l) (leb l 8) of-levels);
      some-items = leb-true 1 n (and_left (leb 1 n) (leb n 32768) of-items);
      few-items = leb-true n 32768 (and_right (leb 1 n) (leb n 32768) of-items);
      masked = eqb-true (get_or t 3 0) (mask n) (and_right (long && levels && items) masks four);
      spare = of-spare;
      before-ends =
          sym (get_or-drop 4 t 11 0) ∙ sym (get_or-take 12 (drop 4 t) 11 0 (omega arith)) ∙ zero-at (take 12 (drop 4 t)) 11 of-spare;
      room = leb-true (weights_part l n + get_or t 2 0) (length t) (and_right (long && levels && items && masks && zeros) room all);
    }
