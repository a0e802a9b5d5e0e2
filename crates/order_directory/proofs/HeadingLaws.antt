-- The headings: their weights kept as far as they rise, a topic's heading found by halving, and the list written.
use mathlib.Core.Path.{◌≡◌, refl, sym, ap, ◌∙◌}
use mathlib.Core.Bool.{Bool, true, false, ◌&&◌, false≢true}
use mathlib.Core.List.{List, [], ◌∷◌, map}
use Prim.Native.Nat.{ℕ, zero, suc, ◌+◌, ◌≤◌, ◌<◌}
use native.Mathlib.Numerals.{add-one}
use native.Mathlib.Nat.{le_of_suc-le-suc}
use native.Mathlib.Omega.{arith}
use mir.Syntax.{w32}
use mir.Val.{Fits}
use lib.ListN.{length, get_or, take, drop, set, length-set, length-map, drop_of_length-le}
use lib.Seq.{take_all, take-suc, drop-cons, take-suc-set}
use lib.Dec.{ltb, leb}
use borrow.Author.Tests.{ltb-true, lt-ltb, le-ltb, leb-true, leb-false}
use Rattle.base_lists.proofs.Bools.{by, and_left, and_right, and_intro}
use Rattle.base_lists.proofs.Places.{get_d_default}
use Rattle.std.specs.List.Sorted.{IsPartitionedBy, IsPartitionPoint}
use Rattle.rules.specs.Text.{every}
use Rattle.rules.specs.Table.{meaning_in}
use Rattle.rules.specs.Directory.{part, parts_of, part_weight, rising, good_headings, heading_of, part_at, weights_of}
use Rattle.rules.specs.Calls.{over}
use Rattle.rules.proofs.DirectoryLaws.{Above, heading-before, heading-last, heading-most, rising-from, headings-rise, some-weight}
use Rattle.rules.proofs.PutLaws.{Putting, putting-none, putting-more, putting-all}
use Rattle.order_directory.specs.Asks.{Ready, Rising, Weighed}

-- ## Headings that rise, from the first on

-- each is above the one before it, and the first above v
unfoldable pub rising_from : ℕ → List ℕ → Bool
rising_from v [] = true
rising_from v (w ∷ ws) = ltb v w && rising_from w ws

rising-run : (v : ℕ) (ws : List ℕ) → rising (v ∷ ws) ≡ rising_from v ws
unfolding rising rising_from
rising-run v [] = refl
rising-run v (w ∷ ws) = ap (λ (b : Bool). ltb v w && b) (rising-run w ws)

-- all are above v
run-above : (u v : ℕ) (ws : List ℕ) → u ≤ v → rising_from v ws ≡ true → every (ltb u) ws ≡ true
unfolding rising_from every
run-above u v [] l h = refl
run-above u v (w ∷ ws) l h =
    let b = ltb-true v w (and_left (ltb v w) (rising_from w ws) h) in
    and_intro (lt-ltb u w (omega arith)) (run-above u w ws (omega arith) (and_right (ltb v w) (rising_from w ws) h))

and-implied : (a b : Bool) → (b ≡ true → a ≡ true) → (a && b) ≡ b
and-implied true b f = refl
and-implied false true f = f refl
and-implied false false f = refl

-- headings that are not refused rise from 0
headings-run : (ws : List ℕ) → good_headings ws ≡ rising_from 0 ws
unfolding good_headings every rising rising_from
headings-run [] = refl
headings-run (w ∷ ws) =
    by (ltb 0 w)
    (λ t. rw (t, rising-run w ws) (and-implied (every (ltb 0) ws) (rising_from w ws) (λ h. run-above 0 w ws (omega arith) h)))
    (λ t. rw t)

-- ## The last heading that is not above a weight

module _ {ws : List ℕ} (w : ℕ) (r : Rising ws) where
  -- behind one that is above it, all are
  pub weights-parted : IsPartitionedBy (λ (y : ℕ). leb y w) ws
  weights-parted i j d h l t =
      by (leb (get_or ws i d) w)
      (λ e. e)
      (λ e.
      let up : w < get_or ws i 0 = rw (← get_d_default ws i d 0 (omega arith)) (leb-false (get_or ws i d) w e) in
      let a = rising-from w ws i (headings-rise ws r.rise) (omega arith) up in
      let low : get_or ws j 0 ≤ w = rw (← get_d_default ws j d 0 l) (leb-true (get_or ws j d) w t) in
      absurd (omega (arith, a.each j h l)))

  pub heading-parted : {h : ℕ} → IsPartitionPoint (λ (y : ℕ). leb y w ≡ true) (λ (y : ℕ). leb y w ≡ false) ws h → h ≤ length ws → h ≡ heading_of ws w
  heading-parted {h} p b = go h refl
    where
      above : Above w h ws
      above = record { each = λ j l k. leb-false (get_or ws j 0) w (p.1 j 0 l k) }

      go : (n : ℕ) → h ≡ n → h ≡ heading_of ws w
      go zero e = e ∙ sym (heading-before ws w (rw e at above))
      go (suc k) e =
          let l : k < length ws = omega arith in
          let q = some-weight ws k r.rise l in
          let low : get_or ws k 0 ≤ w = leb-true (get_or ws k 0) w (p.0 k 0 (omega arith) (omega arith)) in
          e ∙ sym (heading-last ws w k (omega arith) l low (rw e at above))

-- a heading's number is small
pub heading-fits : (ws : List ℕ) (w : ℕ) {h : ℕ} → Rising ws → h ≡ heading_of ws w → Fits w32 h
heading-fits ws w {h} r e =
    let b : h ≤ 1000 = rw e (let m = heading-most ws w in omega (arith, r.few)) in
    omega arith

-- ## The first weights of parts

pub get_d_map : {A : Type 0} (f : A → ℕ) (xs : List A) (i : ℕ) (a : A) (d : ℕ) → i < length xs → get_or (map f xs) i d ≡ f (get_or xs i a)
get_d_map f [] i a d h = absurd (omega arith)
get_d_map f (x ∷ xs) zero a d h = refl
get_d_map f (x ∷ xs) (suc i) a d h = get_d_map f xs i a d (le_of_suc-le-suc h)

pub weights-many : (t run parts : List ℕ) → length (weights_of t run parts) ≡ length (parts_of parts)
weights-many t run parts = length-map (parts_of parts) (part_weight (meaning_in t) run)

-- what stands at a place
pub weight-there : (t run parts : List ℕ) (i : ℕ) → i < length (parts_of parts)
    → get_or (weights_of t run parts) i 0 ≡ part_weight (meaning_in t) run (part_at parts i)
unfolding part_at
weight-there t run parts i h = get_d_map (part_weight (meaning_in t) run) (parts_of parts) i (part 0 0) 0 h

-- the room for places may hold anything
ready-kept : {t run parts places after : List ℕ} → Ready t run parts places → length after ≡ length places → Ready t run parts after
ready-kept r e = record { checked = r.checked; plain = r.plain; inside = r.inside; good = r.good; room = omega (arith, r.room) }

-- ## The headings' weights, kept while they rise

-- The weights before i are kept and rise up to `last`, so that those from i on decide.
pub record Weighing (t run headings places₀ weights₀ : List ℕ) (n : ℕ) (places weights : List ℕ) (last i : ℕ) : Type 0 where
  pub many : n ≡ length (parts_of headings)
  pub to : i ≤ n
  pub ready : Ready t run headings places
  pub wide : length places ≡ length places₀
  pub long : length weights ≡ length weights₀
  pub same : good_headings (weights_of t run headings) ≡ rising_from last (drop i (weights_of t run headings))
  pub kept : take i weights ≡ take i (weights_of t run headings)

pub weighing-none : (t run headings places weights : List ℕ) {n : ℕ} → Ready t run headings places → n ≡ length (parts_of headings)
    → Weighing t run headings places weights n places weights 0 0
weighing-none t run headings places weights r e = record {
  many = e;
  to = omega arith;
  ready = r;
  wide = refl;
  long = refl;
  same = headings-run (weights_of t run headings);
  kept = refl;
}

module _ {t run headings places₀ weights₀ : List ℕ} {n : ℕ} {places weights : List ℕ} {last i : ℕ}
    (v : Weighing t run headings places₀ weights₀ n places weights last i) where
  module _ (h : i < n) {w : ℕ} (is : w ≡ part_weight (meaning_in t) run (part_at headings i)) where
    inside : i < length (weights_of t run headings)
    inside = omega (arith, v.many, weights-many t run headings)

    there : get_or (weights_of t run headings) i 0 ≡ w
    there = weight-there t run headings i (omega (arith, v.many)) ∙ sym is

    -- the next one decides, and then those behind it
    next : good_headings (weights_of t run headings) ≡ (ltb last w && rising_from w (drop (suc i) (weights_of t run headings)))
    unfolding rising_from
    next = v.same ∙ rw (drop-cons (weights_of t run headings) i 0 inside, there)

    pub weighing-no : w ≤ last → Weighed t run headings weights false
    weighing-no l = record { is = sym (next ∙ rw (le-ltb last w l)); kept = λ e. absurd (false≢true e) }

    pub weighing-more : {after : List ℕ} → length (parts_of headings) ≤ length weights₀ → length after ≡ length places → last < w
        → Weighing t run headings places₀ weights₀ n after (set weights i w) w (i + 1)
    weighing-more {after} k e l = record {
      many = v.many;
      to = omega arith;
      ready = ready-kept v.ready e;
      wide = e ∙ v.wide;
      long = length-set weights i w ∙ v.long;
      same = next ∙ rw (lt-ltb last w l, add-one i);
      kept = rw (add-one i, take-suc-set weights i w (omega (arith, v.many, v.long)), take-suc (weights_of t run headings) i 0 inside, there, v.kept);
    }

  pub weighing-all : n ≤ i → Weighed t run headings weights true
  unfolding rising_from
  weighing-all h =
      let ws : List ℕ = weights_of t run headings in
      let e : length (parts_of headings) ≡ i = omega (arith, v.many, v.to) in
      let l : length ws ≤ i = omega (arith, weights-many t run headings) in
      record { is = sym (v.same ∙ rw (drop_of_length-le ws l)); kept = λ y. rw e (v.kept ∙ take_all i ws l) }

-- ## The list

-- The headings of the topics before i are written, and the rest of the list is as it was.
pub record Listing (t run topics places₀ weights list₀ : List ℕ) (n : ℕ) (places list : List ℕ) (i : ℕ) : Type 0 where
  pub many : n ≡ length (parts_of topics)
  pub ready : Ready t run topics places
  pub wide : length places ≡ length places₀
  pub put : Putting (heading_of weights) (weights_of t run topics) list₀ list i

pub listing_none : (t run topics places weights list : List ℕ) {n : ℕ} → Ready t run topics places → n ≡ length (parts_of topics)
    → Listing t run topics places weights list n places list 0
listing_none t run topics places weights list r e =
    record { many = e; ready = r; wide = refl; put = putting-none (heading_of weights) (weights_of t run topics) list }

module _ {t run topics places₀ weights list₀ : List ℕ} {n : ℕ} {places list : List ℕ} {i : ℕ}
    (v : Listing t run topics places₀ weights list₀ n places list i) where
  pub listing-more : {after : List ℕ} {w h : ℕ} → i < n → length (parts_of topics) ≤ length list₀ → length after ≡ length places
      → w ≡ part_weight (meaning_in t) run (part_at topics i) → h ≡ heading_of weights w
      → Listing t run topics places₀ weights list₀ n after (set list i h) (i + 1)
  listing-more l k e is heads =
      let c = weights-many t run topics in
      let there = weight-there t run topics i (omega (arith, v.many)) in
      record {
        many = v.many;
        ready = ready-kept v.ready e;
        wide = e ∙ v.wide;
        put = putting-more v.put (omega (arith, v.many)) (omega arith) (heads ∙ ap (heading_of weights) (is ∙ sym there));
      }

  pub listing-all : n ≤ i → list ≡ over (map (heading_of weights) (weights_of t run topics)) list₀
  listing-all h = let c = weights-many t run topics in putting-all v.put (omega (arith, v.many))
