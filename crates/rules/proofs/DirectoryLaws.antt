-- The directory: which heading a topic gets, that no other fits, and that headings rise as topics do.
use mathlib.Core.Path.{◌≡◌, refl, sym, ◌∙◌}
use mathlib.Core.Bool.{Bool, true, false, not, cond, ◌||◌, false≢true}
use mathlib.Core.List.{List, [], ◌∷◌, map}
use Prim.Native.Nat.{ℕ, zero, suc, ◌+◌, ◌≤◌, ◌<◌}
use native.Mathlib.Omega.{arith}
use lib.ListN.{length, get_or}
use lib.Dec.{eqb, leb, ltb}
use borrow.Author.Tests.{leb-true, leb-false, le-leb, lt-leb, ltb-true, eqb-true, eqb-false, ne_eqb, not-true}
use Rattle.base_lists.proofs.Lists.{All}
use Rattle.base_lists.proofs.Bools.{by, and_left, and_right, or-false-left, or-false-right}
use Rattle.rules.specs.Text.{every}
use Rattle.rules.specs.Meaning.{Rule, Meaning, good}
use Rattle.rules.specs.Order.{Entry, equal, greater, sign_ℕ, sign_entry, sign_list, entries_from, walked, level_entries, elements, levels_of, levels_from, weights_at, compare_of}
use Rattle.rules.specs.Directory.{first_of, first_weight, plain_first, rising, good_headings, last_not_above, heading_of}
use Rattle.rules.proofs.TextLaws.{every-at}
use Rattle.rules.proofs.SignLaws.{Tri, tri, below, same, above, sign_ℕ-same, sign_ℕ-above}
use Rattle.rules.proofs.MeaningLaws.{good-parts}
use Rattle.rules.proofs.EntryLaws.{Fits, level-fits}
use Rattle.rules.proofs.OrderLaws.{sign_levels, compare_sign}

-- ## The last heading not above a weight

-- Every heading from the k-th on, from 0, is above w.
pub record Above (w k : ℕ) (ws : List ℕ) : Type 0 where
  pub each : (j : ℕ) → k ≤ j → j < length ws → w < get_or ws j 0

above-tail : {w k v : ℕ} {vs : List ℕ} → Above w (suc k) (v ∷ vs) → Above w k vs
above-tail a = record { each = λ j h l. a.each (suc j) (omega arith) (omega arith) }

above-head : {w v : ℕ} {vs : List ℕ} → Above w 0 (v ∷ vs) → w < v
above-head a = a.each 0 (omega arith) (omega arith)

-- where all are above it, none is found
last_none : (w n : ℕ) (ws : List ℕ) (best : ℕ) → Above w 0 ws → last_not_above w n ws best ≡ best
unfolding last_not_above
last_none w n [] best a = refl
last_none w n (v ∷ vs) best a =
    rw (lt-leb v w (above-head a)) (last_none w (suc n) vs best (above-tail (record { each = λ j h l. a.each j (omega arith) l })))

-- where one is not, and all behind it are, that one is found
last_one : (w n : ℕ) (ws : List ℕ) (best k : ℕ) → k < length ws → get_or ws k 0 ≤ w → Above w (suc k) ws → last_not_above w n ws best ≡ n + k
unfolding last_not_above
last_one w n [] best k h l a = absurd (omega arith)
last_one w n (v ∷ vs) best zero h l a =
    let e = last_none w (suc n) vs n (above-tail a) in
    rw (le-leb v w l) (omega arith)
last_one w n (v ∷ vs) best (suc k) h l a =
    let e = last_one w (suc n) vs (cond (leb v w) n best) k (omega arith) l (above-tail a) in
    omega arith

-- What is found: nothing, all being above it; or the last that is not.
data Found (w n : ℕ) (ws : List ℕ) (best r : ℕ) : Type 0 where
  nothing : r ≡ best → Above w 0 ws → Found w n ws best r
  one : (k : ℕ) → r ≡ n + k → k < length ws → get_or ws k 0 ≤ w → Above w (suc k) ws → Found w n ws best r

above-cons : {w k : ℕ} (v : ℕ) {vs : List ℕ} → Above w k vs → Above w (suc k) (v ∷ vs)
above-cons {w} {k} v {vs} a = record { each = go }
  where
    go : (j : ℕ) → suc k ≤ j → j < length (v ∷ vs) → w < get_or (v ∷ vs) j 0
    go zero h l = absurd (omega arith)
    go (suc j) h l = a.each j (omega arith) (omega arith)

above-both : {w v : ℕ} {vs : List ℕ} → w < v → Above w 0 vs → Above w 0 (v ∷ vs)
above-both {w} {v} {vs} b a = record { each = go }
  where
    go : (j : ℕ) → 0 ≤ j → j < length (v ∷ vs) → w < get_or (v ∷ vs) j 0
    go zero h l = b
    go (suc j) h l = a.each j (omega arith) (omega arith)

found-later : {w n v best r : ℕ} (vs : List ℕ) (t : Bool) → leb v w ≡ t → Found w (suc n) vs (cond t n best) r → Found w n (v ∷ vs) best r
found-later {w} {n} {v} vs true e (nothing i a) = one 0 (omega arith) (omega arith) (leb-true v w e) (above-cons v a)
found-later {w} {n} {v} vs false e (nothing i a) = nothing i (above-both (leb-false v w e) a)
found-later {w} {n} {v} vs t e (one k i h l a) = one (suc k) (omega arith) (omega arith) l (above-cons v a)

found : (w n : ℕ) (ws : List ℕ) (best : ℕ) → Found w n ws best (last_not_above w n ws best)
unfolding last_not_above
found w n [] best = nothing refl (record { each = λ j h l. absurd (omega arith) })
found w n (v ∷ vs) best = found-later vs (leb v w) refl (found w (suc n) vs (cond (leb v w) n best))

-- ## A topic's heading

heading-weighed : (ws : List ℕ) (w : ℕ) → 0 < w → heading_of ws w ≡ last_not_above w 1 ws 0
unfolding heading_of
heading-weighed ws w h = rw (ne_eqb w 0 (λ e. omega arith))

-- "A topic with no level-1 weight .. belongs to heading 0"
pub heading-none : (ws : List ℕ) → heading_of ws 0 ≡ 0
unfolding heading_of
heading-none ws = refl

-- "or before every heading"
pub heading-before : (ws : List ℕ) (w : ℕ) → Above w 0 ws → heading_of ws w ≡ 0
unfolding heading_of
heading-before ws w a = by (eqb w 0) (λ e. rw e) (λ e. rw e (last_none w 1 ws 0 a))

-- "the last heading whose first level-1 weight is not above the topic's own"
pub heading-last : (ws : List ℕ) (w k : ℕ) → 0 < w → k < length ws → get_or ws k 0 ≤ w → Above w (suc k) ws → heading_of ws w ≡ suc k
heading-last ws w k p h l a = let z : 1 + k ≡ suc k = omega arith in heading-weighed ws w p ∙ last_one w 1 ws 0 k h l a ∙ z

-- at most the number of headings
pub heading-most : (ws : List ℕ) (w : ℕ) → heading_of ws w ≤ length ws
heading-most ws w = by (eqb w 0) (λ e. weightless (eqb-true w 0 e)) (λ e. weighed (eqb-false w 0 e))
  where
    weightless : w ≡ 0 → heading_of ws w ≤ length ws
    weightless e = let h = heading-none ws in rw e (omega arith)

    most : Found w 1 ws 0 (last_not_above w 1 ws 0) → last_not_above w 1 ws 0 ≤ length ws
    most (nothing i a) = omega arith
    most (one k i h l a) = omega arith

    weighed : (w ≡ 0 → ⊥) → heading_of ws w ≤ length ws
    weighed n = rw (heading-weighed ws w (omega arith)) (most (found w 1 ws 0))

-- its heading is not above it
heading-not-above : (ws : List ℕ) (w k : ℕ) → heading_of ws w ≡ suc k → get_or ws k 0 ≤ w
heading-not-above ws w k e = by (eqb w 0) (λ t. weightless (eqb-true w 0 t)) (λ t. weighed (eqb-false w 0 t))
  where
    weightless : w ≡ 0 → get_or ws k 0 ≤ w
    weightless z = let h = heading-none ws in let d : heading_of ws 0 ≡ suc k = rw z at e in absurd (omega arith)

    told : last_not_above w 1 ws 0 ≡ suc k → Found w 1 ws 0 (last_not_above w 1 ws 0) → get_or ws k 0 ≤ w
    told d (nothing i a) = absurd (omega arith)
    told d (one j i h l a) = let z : k ≡ j = omega arith in rw z l

    weighed : (w ≡ 0 → ⊥) → get_or ws k 0 ≤ w
    weighed n = told (sym (heading-weighed ws w (omega arith)) ∙ e) (found w 1 ws 0)

-- and every later heading is
heading-above : (ws : List ℕ) (w : ℕ) → 0 < w → Above w (heading_of ws w) ws
heading-above ws w p = rw (heading-weighed ws w p) (told (found w 1 ws 0))
  where
    told : Found w 1 ws 0 (last_not_above w 1 ws 0) → Above w (last_not_above w 1 ws 0) ws
    told (nothing i a) = rw i a
    told (one k i h l a) = let z : 1 + k ≡ suc k = omega arith in rw (i, z) a

-- a weight that is not smaller gets no smaller number
pub heading-rises : (ws : List ℕ) (v w : ℕ) → v ≤ w → heading_of ws v ≤ heading_of ws w
heading-rises ws v w h = go (heading_of ws v) refl
  where
    go : (n : ℕ) → heading_of ws v ≡ n → heading_of ws v ≤ heading_of ws w
    go zero e = omega arith
    go (suc k) e =
        let l = heading-not-above ws v k e in
        let m = heading-most ws v in
        let p : 0 < w = by (eqb v 0)
        (λ t. let z = eqb-true v 0 t in let d : heading_of ws 0 ≡ suc k = rw z at e in let c = heading-none ws in absurd (omega arith))
        (λ t. let z = eqb-false v 0 t in omega arith) in
        by (leb (suc k) (heading_of ws w)) (λ t. let b = leb-true (suc k) (heading_of ws w) t in omega arith)
        (λ t.
        let b = leb-false (suc k) (heading_of ws w) t in
        let a = (heading-above ws w p).each k (omega arith) (omega arith) in
        absurd (omega arith))

-- ## Headings that rise

rising-head : (v w : ℕ) (ws : List ℕ) → rising (v ∷ w ∷ ws) ≡ true → v < w
unfolding rising
rising-head v w ws h = ltb-true v w (and_left (ltb v w) (rising (w ∷ ws)) h)

rising-tail : (v : ℕ) (ws : List ℕ) → rising (v ∷ ws) ≡ true → rising ws ≡ true
unfolding rising
rising-tail v [] h = refl
rising-tail v (w ∷ ws) h = and_right (ltb v w) (rising (w ∷ ws)) h

-- all behind the first are above it, and above what is not above it
rising-above : (u v : ℕ) (ws : List ℕ) → u ≤ v → rising (v ∷ ws) ≡ true → Above u 0 ws
rising-above u v [] l h = record { each = λ j k c. absurd (omega arith) }
rising-above u v (w ∷ ws) l h =
    let b = rising-head v w ws h in
    above-both (omega arith) (rising-above u w ws (omega arith) (rising-tail v (w ∷ ws) h))

-- where one is above a weight, all behind it are
pub rising-from : (u : ℕ) (ws : List ℕ) (k : ℕ) → rising ws ≡ true → k < length ws → u < get_or ws k 0 → Above u k ws
rising-from u [] k h c l = absurd (omega arith)
rising-from u (v ∷ vs) zero h c l = above-both l (rising-above u v vs (omega arith) h)
rising-from u (v ∷ vs) (suc k) h c l = above-cons v (rising-from u vs k (rising-tail v vs h) (omega arith) l)

-- all behind the k-th are above it
rising-behind : (ws : List ℕ) (k : ℕ) → rising ws ≡ true → k < length ws → Above (get_or ws k 0) (suc k) ws
rising-behind [] k h c = absurd (omega arith)
rising-behind (v ∷ vs) zero h c = above-cons v (rising-above v v vs (omega arith) h)
rising-behind (v ∷ vs) (suc k) h c = above-cons v (rising-behind vs k (rising-tail v vs h) (omega arith))

-- headings that are not refused have a weight each, and rise
headings-weighted : (ws : List ℕ) → good_headings ws ≡ true → every (ltb 0) ws ≡ true
unfolding good_headings
headings-weighted ws h = and_left (every (ltb 0) ws) (rising ws) h

pub headings-rise : (ws : List ℕ) → good_headings ws ≡ true → rising ws ≡ true
unfolding good_headings
headings-rise ws h = and_right (every (ltb 0) ws) (rising ws) h

pub some-weight : (ws : List ℕ) (k : ℕ) → good_headings ws ≡ true → k < length ws → 0 < get_or ws k 0
some-weight ws k h c = ltb-true 0 (get_or ws k 0) (every-at (ltb 0) ws k 0 (headings-weighted ws h) c)

-- a heading's own string belongs to it
pub heading-own : (ws : List ℕ) (k : ℕ) → good_headings ws ≡ true → k < length ws → heading_of ws (get_or ws k 0) ≡ suc k
heading-own ws k h c = heading-last ws (get_or ws k 0) k (some-weight ws k h c) c (omega arith) (rising-behind ws k (headings-rise ws h) c)

-- ## No weight

first-none : (p : Bool) (n : ℕ) (es : List Entry) → All (Fits p n) es → first_of es ≡ 0 → es ≡ []
unfolding first_of
first-none p n [] a e = refl
first-none p n (x ∷ xs) a e = let h = a.0.positive in absurd (omega arith)

zero-from : (rules : List Rule) (m : Meaning) (s : List ℕ) → m.rules ≡ rules → good m ≡ true → first_of (get_or (levels_from m.items rules 0 (elements m.items 0 s)) 0 []) ≡ 0
    → get_or (levels_from m.items rules 0 (elements m.items 0 s)) 0 [] ≡ []
unfolding levels_from
zero-from [] m s r g e = refl
zero-from (r ∷ rs) m s k g e =
    let ps : List ℕ = elements m.items 0 s in
    first-none r.position (length ps) (level_entries m.items r 0 ps)
    (level-fits (length m.rules) m.items (good-parts m g).items r 0 ps) e

-- 0 stands for a string that has no weight at level 1, and for no other
pub zero-none : (m : Meaning) (s : List ℕ) → good m ≡ true → first_weight m s ≡ 0 → get_or (levels_of m s) 0 [] ≡ []
unfolding first_weight levels_of
zero-none m s g e = zero-from m.rules m s refl g e

pub none-zero : (m : Meaning) (s : List ℕ) → get_or (levels_of m s) 0 [] ≡ [] → first_weight m s ≡ 0
unfolding first_weight first_of
none-zero m s e = rw e

-- ## A plain first level

-- of some rules, that is what the first says
pub plain-first : (rules : List Rule) (d : Rule) → 1 ≤ length rules → plain_first rules ≡ not ((get_or rules 0 d).backward || (get_or rules 0 d).position)
unfolding plain_first
plain-first [] d h = absurd (omega arith)
plain-first (r ∷ rs) d h = refl

plain-rule : (r : Rule) → not (r.backward || r.position) ≡ true → r ≡ record { backward = false; position = false }
plain-rule r p =
    let h = not-true (r.backward || r.position) p in
    rw (or-false-left r.backward r.position h, or-false-right r.backward r.position h)

plain-from : (rules : List Rule) (m : Meaning) (s : List ℕ) → m.rules ≡ rules → plain_first rules ≡ true
    → first_weight m s ≡ first_of (level_entries m.items (record { backward = false; position = false }) 0 (elements m.items 0 s))
unfolding plain_first first_weight levels_of levels_from
plain-from [] m s e p = absurd (false≢true p)
plain-from (r ∷ rs) m s e p = rw (e, ← plain-rule r p)

-- the first weight is that of the first level walked forward without position
pub plain-weight : (m : Meaning) (s : List ℕ) → plain_first m.rules ≡ true
    → first_weight m s ≡ first_of (level_entries m.items (record { backward = false; position = false }) 0 (elements m.items 0 s))
plain-weight m s p = plain-from m.rules m s refl p

-- ## Comparison and first weights

first_count : List Entry → ℕ
first_count [] = 0
first_count (e ∷ es) = e.count

uncounted : (n : ℕ) (es : List (List ℕ)) → first_count (entries_from false n es) ≡ 0
unfolding entries_from first_count
uncounted n [] = refl
uncounted n ([] ∷ es) = uncounted (suc n) es
uncounted n ((w ∷ ws) ∷ es) = refl

not-above : (x y : ℕ) → ¬ (sign_ℕ x y ≡ greater) → x ≤ y
not-above x y h = go (tri x y)
  where
    go : Tri x y → x ≤ y
    go (below b) = omega arith
    go (same b) = omega arith
    go (above b) = absurd (h (sign_ℕ-above b))

first-not-above : (xs ys : List Entry) → first_count xs ≡ 0 → first_count ys ≡ 0 → ¬ (sign_list xs ys ≡ greater) → first_of xs ≤ first_of ys
unfolding first_count first_of sign_list sign_entry
first-not-above [] ys e f h = omega arith
first-not-above (x ∷ xs) [] e f h = absurd (h refl)
first-not-above (x ∷ xs) (y ∷ ys) e f h =
    let z : sign_ℕ x.count y.count ≡ equal = sign_ℕ-same (e ∙ sym f) in
    not-above x.weight y.weight (λ g. h (rw (z, g)))

-- the first level, by a rule without position
uncounted-level : (m : Meaning) (r : Rule) (s : List ℕ) → not (r.backward || r.position) ≡ true
    → first_count (level_entries m.items r 0 (elements m.items 0 s)) ≡ 0
unfolding level_entries walked
uncounted-level m r s p =
    rw (or-false-right r.backward r.position (not-true (r.backward || r.position) p))
    (uncounted 0 (walked r (map (weights_at m.items 0) (elements m.items 0 s))))

first-rises : (rules : List Rule) (m : Meaning) (a b : List ℕ) → m.rules ≡ rules → plain_first rules ≡ true → ¬ ((compare_of m a b).sign ≡ greater)
    → first_weight m a ≤ first_weight m b
unfolding plain_first first_weight levels_of levels_from sign_levels
first-rises [] m a b e p h = absurd (false≢true p)
first-rises (r ∷ rs) m a b e p h =
    let xs : List Entry = level_entries m.items r 0 (elements m.items 0 a) in
    let ys : List Entry = level_entries m.items r 0 (elements m.items 0 b) in
    let g : ¬ (sign_list xs ys ≡ greater) = λ d. h (compare_sign m a b ∙ rw (e, d)) in
    rw e (first-not-above xs ys (uncounted-level m r a p) (uncounted-level m r b p) g)

-- of two strings of which the first does not come after the second, its first weight is not above the second's
pub weight-rises : (m : Meaning) (a b : List ℕ) → plain_first m.rules ≡ true → ¬ ((compare_of m a b).sign ≡ greater)
    → first_weight m a ≤ first_weight m b
weight-rises m a b p h = first-rises m.rules m a b refl p h
