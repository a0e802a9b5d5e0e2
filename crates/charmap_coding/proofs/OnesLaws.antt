-- The numbers after the codes: the loops of ones_pass, ones_of and one_each_by.
use mathlib.Core.Path.{◌≡◌, refl, sym, ◌∙◌}
use mathlib.Core.Bool.{Bool, true, not, ◌||◌, false≢true}
use mathlib.Core.List.{List, [], ◌∷◌}
use Prim.Native.Nat.{ℕ, zero, suc, ◌+◌, ◌≤◌, ◌<◌}
use native.Mathlib.Numerals.{add-one}
use native.Mathlib.Nat.{le_of_suc-le-suc}
use native.Mathlib.Omega.{arith}
use mir.Syntax.{w32}
use mir.Val.{Fits}
use lib.ListN.{length, get_or, drop, drop_of_length-le}
use lib.Seq.{drop-cons}
use lib.Dec.{eqb}
use borrow.Author.Tests.{eqb-true, eq-eqb, ne_eqb}
use Rattle.base_lists.proofs.Bools.{and_left, and_right, by}
use Rattle.std.specs.List.{list_all, zip}
use Rattle.rules.specs.Charmap.{no_code}
use Rattle.charmap_coding.specs.Tables.{is_one}
use Rattle.rules.specs.Coding.{good_ones, ones_of, one_each}

module _ (codes ones : List ℕ) (i : ℕ) (l : length codes ≡ length ones) (h : i < length codes) where
  -- what the place i adds for its own code, and for another
  pub sum_same : (c : ℕ) → c ≡ get_or codes i 0
      → ones_of c (drop i codes) (drop i ones) ≡ get_or ones i 0 + ones_of c (drop (i + 1) codes) (drop (i + 1) ones)
  unfolding ones_of
  sum_same c e =
      let k : i < length ones = omega arith in
      rw (add-one i, drop-cons codes i 0 h, drop-cons ones i 0 k, eq-eqb c (get_or codes i 0) e)

  pub sum-other : (c : ℕ) → (c ≡ get_or codes i 0 → ⊥) → ones_of c (drop i codes) (drop i ones) ≡ ones_of c (drop (i + 1) codes) (drop (i + 1) ones)
  unfolding ones_of
  sum-other c n =
      let k : i < length ones = omega arith in
      rw (add-one i, drop-cons codes i 0 h, drop-cons ones i 0 k, ne_eqb c (get_or codes i 0) n)

-- ## ones_pass

good-all : (cs os : List ℕ) → length cs ≡ length os → list_all (λ (q : ℕ × ℕ). is_one q.0 q.1) (zip cs os) ≡ good_ones cs os
unfolding good_ones
good-all [] os l = refl
good-all (c ∷ cs) [] l = absurd (omega arith)
good-all (c ∷ cs) (o ∷ os) l = rw (good-all cs os (omega arith))

pub ones-all : (codes ones : List ℕ) {r : Bool} → length codes ≡ length ones → r ≡ list_all (λ (q : ℕ × ℕ). is_one q.0 q.1) (zip codes ones) → r ≡ good_ones codes ones
ones-all codes ones l e = e ∙ good-all codes ones l

-- ## ones_of

-- a number that passes is at most 1
one-small : (c o : ℕ) → is_one c o ≡ true → o ≤ 1
one-small c o h = by (eqb o 0)
    (λ t. omega (arith, eqb-true o 0 t))
    (λ t. omega (arith, eqb-true o 1 (and_left (eqb o 1) (not (eqb c no_code)) (rw t at h))))

-- each number of those that pass is at most 1
pub good-one : (codes ones : List ℕ) (i : ℕ) → good_ones codes ones ≡ true → i < length codes → get_or ones i 0 ≤ 1
unfolding good_ones
good-one [] os i g h = absurd (omega arith)
good-one (c ∷ cs) [] i g h = absurd (false≢true g)
good-one (c ∷ cs) (o ∷ os) zero g h = one-small c o (and_left (is_one c o) (good_ones cs os) g)
good-one (c ∷ cs) (o ∷ os) (suc i) g h = good-one cs os i (and_right (is_one c o) (good_ones cs os) g) (le_of_suc-le-suc h)

-- sum is what stands before i at the code c
pub record Summing (codes ones : List ℕ) (c sum i : ℕ) : Type 0 where
  pub small : sum ≤ i
  pub same : ones_of c codes ones ≡ sum + ones_of c (drop i codes) (drop i ones)

pub summing-none : (codes ones : List ℕ) (c : ℕ) → Summing codes ones c 0 0
summing-none codes ones c = record { small = omega arith; same = omega arith }

module _ {codes ones : List ℕ} {c sum i : ℕ} (v : Summing codes ones c sum i) where
  module _ (l : length codes ≡ length ones) (h : i < length codes) where
    module _ (g : good_ones codes ones ≡ true) where
      pub summing-fits : length codes ≤ 256 → Fits w32 (sum + get_or ones i 0)
      summing-fits k = omega (arith, good-one codes ones i g h, v.small)

      pub summing-same : {s : ℕ} → c ≡ get_or codes i 0 → s ≡ sum + get_or ones i 0 → Summing codes ones c s (i + 1)
      summing-same e f = record {
        small = omega (arith, good-one codes ones i g h, v.small);
        same = omega (arith, v.same, sum_same codes ones i l h c e);
      }

    pub summing-other : {s : ℕ} → (c ≡ get_or codes i 0 → ⊥) → s ≡ sum → Summing codes ones c s (i + 1)
    summing-other n f = record { small = omega (arith, v.small); same = omega (arith, v.same, sum-other codes ones i l h c n) }

  pub summing-all : length codes ≤ i → sum ≡ ones_of c codes ones
  unfolding ones_of
  summing-all h = sym (v.same ∙ rw (drop_of_length-le codes h) (omega arith))

-- ## one_each_by

abbrev pub has_one : List ℕ → List ℕ → ℕ → Bool
has_one codes ones c = eqb c no_code || eqb (ones_of c codes ones) 1

each-of : (cs codes ones : List ℕ) → list_all (has_one codes ones) cs ≡ one_each cs codes ones
unfolding one_each
each-of [] codes ones = refl
each-of (c ∷ cs) codes ones = rw (each-of cs codes ones)

pub each_all : (codes ones : List ℕ) {r : Bool} → r ≡ list_all (has_one codes ones) codes → r ≡ one_each codes codes ones
each_all codes ones e = e ∙ each-of codes codes ones
