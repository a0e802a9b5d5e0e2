-- How often each code has a 1: the loop of count_ones, which goes down, and the answers of ones_by.
use mathlib.Core.Path.{◌≡◌, refl, sym, ◌∙◌}
use mathlib.Core.Bool.{true, false≢true}
use mathlib.Core.List.{List, [], ◌∷◌}
use Prim.Native.Nat.{ℕ, zero, suc, ◌+◌, ◌-◌, ◌≤◌, ◌<◌}
use native.Mathlib.Omega.{arith}
use mir.Syntax.{w16}
use mir.Val.{Fits}
use lib.ListN.{length, get_or, drop, set, replicate, length-drop, length-set}
use lib.Seq.{drop-length, get_or-set_same, get_or-set_other}
use lib.Dec.{eqb}
use borrow.Author.Tests.{eqb-true, eqb-false}
use Rattle.base_lists.proofs.Bools.{and_right, by}
use Rattle.rules.specs.Coding.{good_ones, ones_of}
use Rattle.charmap_coding.specs.Tables.{is_one, Counted}
use Rattle.charmap_coding.proofs.BlankLaws.{blank-at}
use Rattle.charmap_coding.proofs.OnesLaws.{good-one, sum_same, sum-other}

-- ## How many 1s there can be

-- at most one for each place
ones-bound : (c : ℕ) (codes ones : List ℕ) → good_ones codes ones ≡ true → ones_of c codes ones ≤ length codes
unfolding good_ones ones_of
ones-bound c [] os g = omega arith
ones-bound c (d ∷ cs) [] g = omega arith
ones-bound c (d ∷ cs) (o ∷ os) g =
    let r = ones-bound c cs os (and_right (is_one d o) (good_ones cs os) g) in
    let s = good-one (d ∷ cs) (o ∷ os) 0 g (omega arith) in
    by (eqb c d) (λ t. rw t (omega arith)) (λ t. rw t (omega arith))

-- those from i on pass too
good-drop : (i : ℕ) (codes ones : List ℕ) → good_ones codes ones ≡ true → good_ones (drop i codes) (drop i ones) ≡ true
unfolding good_ones
good-drop zero codes ones g = g
good-drop (suc i) [] os g = refl
good-drop (suc i) (c ∷ cs) [] g = absurd (false≢true g)
good-drop (suc i) (c ∷ cs) (o ∷ os) g = good-drop i cs os (and_right (is_one c o) (good_ones cs os) g)

-- ## count_ones

-- the table has how often each code has a 1 from i on
pub record Counting (codes ones table₀ table : List ℕ) (i : ℕ) : Type 0 where
  pub to : i ≤ length codes
  pub long : length table ≡ length table₀
  pub is : (c : ℕ) → c < length table → get_or table c 0 ≡ ones_of c (drop i codes) (drop i ones)

pub counting-none : (codes ones table : List ℕ) → table ≡ replicate (length table) 0 → Counting codes ones table table (length codes)
unfolding ones_of
counting-none codes ones table e = record {
  to = omega arith;
  long = refl;
  is = λ c h. blank-at table 0 0 c e h ∙ rw (drop-length codes);
}

module _ {codes ones table₀ table : List ℕ} {i : ℕ} (v : Counting codes ones table₀ table i) (h : 0 < i) (l : length codes ≡ length ones) where
  back : i - 1 + 1 ≡ i
  back = omega arith

  pub counting-one : good_ones codes ones ≡ true → Fits w16 (get_or ones (i - 1) 0)
  counting-one g = omega (arith, good-one codes ones (i - 1) g (omega (arith, v.to)))

  pub counting-past : length table ≤ get_or codes (i - 1) 0 → Counting codes ones table₀ table (i - 1)
  counting-past m = record {
    to = omega (arith, v.to);
    long = v.long;
    is = λ c k. v.is c k ∙ sym (rw back at (sum-other codes ones (i - 1) l (omega (arith, v.to)) c (λ e. omega arith)));
  }

  module _ (m : get_or codes (i - 1) 0 < length table) where
    pub counting-fits : good_ones codes ones ≡ true → length codes ≤ 256 → Fits w16 (get_or table (get_or codes (i - 1) 0) 0 + get_or ones (i - 1) 0)
    counting-fits g few =
        let d : ℕ = get_or codes (i - 1) 0 in
        let j : i - 1 < length codes = omega (arith, v.to) in
        omega (arith, v.is d m, good-one codes ones (i - 1) g j, ones-bound d (drop i codes) (drop i ones) (good-drop i codes ones g), length-drop i codes)

    -- the place that is written, and the others
    counting-at : (c : ℕ) → c < length table
        → get_or (set table (get_or codes (i - 1) 0) (get_or table (get_or codes (i - 1) 0) 0 + get_or ones (i - 1) 0)) c 0
        ≡ ones_of c (drop (i - 1) codes) (drop (i - 1) ones)
    counting-at c k =
        let d : ℕ = get_or codes (i - 1) 0 in
        let o : ℕ = get_or ones (i - 1) 0 in
        let x : ℕ = get_or table d 0 + o in
        let j : i - 1 < length codes = omega (arith, v.to) in
        by (eqb c d)
        (λ t. let e : c ≡ d = eqb-true c d t in
        let s : ones_of d (drop (i - 1) codes) (drop (i - 1) ones) ≡ o + ones_of d (drop i codes) (drop i ones) = rw back at (sum_same codes ones (i - 1) l j d refl) in
        rw e (get_or-set_same table d x 0 m ∙ omega (arith, v.is d m, s)))
        (λ t. let n : c ≡ d → ⊥ = eqb-false c d t in
        get_or-set_other table d c x 0 n ∙ v.is c k ∙ sym (rw back at (sum-other codes ones (i - 1) l j c n)))

    pub counting_more : Counting codes ones table₀ (set table (get_or codes (i - 1) 0) (get_or table (get_or codes (i - 1) 0) 0 + get_or ones (i - 1) 0)) (i - 1)
    counting_more =
        let d : ℕ = get_or codes (i - 1) 0 in
        let x : ℕ = get_or table d 0 + get_or ones (i - 1) 0 in
        record {
          to = omega (arith, v.to);
          long = length-set table d x ∙ v.long;
          is = λ c k. counting-at c (rw (length-set table d x) at k);
        }

pub counting-all : {codes ones table₀ table : List ℕ} {i : ℕ} → Counting codes ones table₀ table i → i ≤ 0 → Counted codes ones table
counting-all {codes} {ones} {table₀} {table} {i} v h =
    let e : i ≡ 0 = omega arith in
    record { is = λ c k. rw e at (v.is c k) }

-- ## ones_by

pub counted-at : {codes ones table : List ℕ} {c : ℕ} → Counted codes ones table → c < length table → get_or table c 0 ≡ ones_of c codes ones
counted-at {codes} {ones} {table} {c} v h = v.is c h
