-- The listing of an accepted table, place by place: it lists every item once, rising by bucket and characters, with UNDEFINED the last. The items of one
-- bucket stand together, from its start to the start of the next.
use mathlib.Core.Path.{◌≡◌, refl, sym, ap, ◌∙◌}
use mathlib.Core.Logic.{◌⊎◌, inl, inr}
use mathlib.Core.Bool.{true, ◌&&◌, false≢true}
use mathlib.Core.List.{List, [], ◌∷◌, map}
use Prim.Native.Nat.{ℕ, zero, suc, pred, ◌-◌, ◌*◌, ◌≤◌, ◌<◌}
use native.Mathlib.Omega.{arith}
use native.Mathlib.Decide.{dec_lt}
use lib.ListN.{length, get_or}
use lib.Seq.{take-length}
use lib.Dec.{ltb, eqb}
use borrow.Author.Tests.{eqb-true, ltb-true, ltb-false}
use Rattle.base_lists.proofs.Bools.{and_left, and_right, by, clash}
use Rattle.rules.specs.Text.{within, every, one_of, same}
use Rattle.rules.specs.Names.{is_character}
use Rattle.rules.specs.Meaning.{Item, Meaning, good_item, has_chars}
use Rattle.rules.specs.Table.{padded, before, bucket, listing, item_buckets, below}
use Rattle.rules.specs.Order.{no_item}
use Rattle.rules.proofs.TextLaws.{every-at, within_low, within-high, within-intro, same_true, same_refl}
use Rattle.rules.proofs.MeaningLaws.{Good, GoodItem, item-parts}
use Rattle.rules.proofs.SizeLaws.{listing-length}
use Rattle.rules.proofs.SortLaws.{before-trans, before-cases}
use Rattle.rules.proofs.BucketLaws.{mask-few, bucket-char, bucket-few, bucket-same}
use Rattle.rules.proofs.WidthLaws.{below-few, buckets-length}
use Rattle.rules.proofs.ListingLaws.{key_at, rises_after, rises, lists_all, listing-has}
use Rattle.table_layout.specs.Parts.{start_for, listed_chars}
use Rattle.table_layout.proofs.ToldLaws.{bucket_at, Climbs, AllFrom, below_in, below_out, below_none, climbs, listed_below, listed-length}
use Rattle.table_layout.proofs.IndexLaws.{listing-passes, listed-place}
use Rattle.order_find.specs.Search.{listed_key}
use Rattle.order_find.proofs.BeginningLaws.{longer-before}

-- ## Places of rising items

after-later : (is : List Item) (p : ℕ) (qs : List ℕ) (k : ℕ) → rises_after is p qs ≡ true → k < length qs → before (key_at is p) (key_at is (get_or qs k 0)) ≡ true
unfolding rises_after
after-later is p [] k h l = absurd (omega arith)
after-later is p (q ∷ qs) zero h l = and_left (before (key_at is p) (key_at is q)) (rises_after is q qs) h
after-later is p (q ∷ qs) (suc k) h l =
    before-trans (key_at is p) (key_at is q) (key_at is (get_or qs k 0))
    (and_left (before (key_at is p) (key_at is q)) (rises_after is q qs) h)
    (after-later is q qs k (and_right (before (key_at is p) (key_at is q)) (rises_after is q qs) h) (omega arith))

after-rises : (is : List Item) (p : ℕ) (qs : List ℕ) → rises_after is p qs ≡ true → rises is qs ≡ true
unfolding rises_after rises
after-rises is p [] h = refl
after-rises is p (q ∷ qs) h = and_right (before (key_at is p) (key_at is q)) (rises_after is q qs) h

rises-later : (is : List Item) (ps : List ℕ) (j k : ℕ) → rises is ps ≡ true → j < k → k < length ps
    → before (key_at is (get_or ps j 0)) (key_at is (get_or ps k 0)) ≡ true
unfolding rises
rises-later is [] j k h l b = absurd (omega arith)
rises-later is (p ∷ ps) j zero h l b = absurd (omega arith)
rises-later is (p ∷ ps) zero (suc k) h l b = after-later is p ps k h (omega arith)
rises-later is (p ∷ ps) (suc j) (suc k) h l b = rises-later is ps j k (after-rises is p ps h) (omega arith) (omega arith)

one_of-place : (p : ℕ) (ps : List ℕ) → one_of (eqb p) ps ≡ true → (k : ℕ) × (k < length ps) × (get_or ps k 0 ≡ p)
unfolding one_of
one_of-place p [] h = absurd (false≢true h)
one_of-place p (q ∷ ps) h =
    by (eqb p q) (λ e. (0, omega arith, sym (eqb-true p q e))) (λ e.
    let r = one_of-place p ps (rw e at h) in
    (suc r.0, omega arith, r.2))

undefined-place : (is : List Item) → one_of (has_chars []) is ≡ true → (k : ℕ) × (k < length is) × ((get_or is k no_item).chars ≡ [])
unfolding one_of has_chars
undefined-place [] h = absurd (false≢true h)
undefined-place (i ∷ is) h =
    by (same [] i.chars) (λ e. (0, omega arith, sym (same_true [] i.chars e))) (λ e.
    let r = undefined-place is (rw e at h) in
    (suc r.0, omega arith, r.2))

-- ## A climbing list: the first `below b` numbers are those below b

climb-below : (b : ℕ) (qs : List ℕ) (k : ℕ) → Climbs qs → k < below b qs → get_or qs k 0 < b
unfolding below
climb-below b [] k c h = absurd (omega arith)
climb-below b (q ∷ qs) zero c h =
    by (ltb q b) (λ t. ltb-true q b t)
    (λ t. let d = ltb-false q b t in absurd (omega (arith, h, below_out b q qs d, below_none b q qs d c.0)))
climb-below b (q ∷ qs) (suc k) c h =
    by (ltb q b)
    (λ t. climb-below b qs k c.1 (omega (arith, h, below_in b q qs (ltb-true q b t))))
    (λ t. let d = ltb-false q b t in absurd (omega (arith, h, below_out b q qs d, below_none b q qs d c.0)))

from_at : (q : ℕ) (qs : List ℕ) (k : ℕ) → AllFrom q qs → k < length qs → q ≤ get_or qs k 0
from_at q [] k a h = absurd (omega arith)
from_at q (r ∷ qs) zero a h = a.0
from_at q (r ∷ qs) (suc k) a h = from_at q qs k a.1 (omega arith)

climb-above : (b : ℕ) (qs : List ℕ) (k : ℕ) → Climbs qs → below b qs ≤ k → k < length qs → b ≤ get_or qs k 0
climb-above b [] k c h l = absurd (omega arith)
climb-above b (q ∷ qs) zero c h l =
    by (ltb q b) (λ t. absurd (omega (arith, h, below_in b q qs (ltb-true q b t)))) (λ t. ltb-false q b t)
climb-above b (q ∷ qs) (suc k) c h l =
    by (ltb q b)
    (λ t. climb-above b qs k c.1 (omega (arith, h, below_in b q qs (ltb-true q b t))) (omega arith))
    (λ t. let d = ltb-false q b t in let f = from_at q qs k c.0 (omega arith) in omega arith)

get_d-buckets : (is : List Item) (ps : List ℕ) (k : ℕ) → k < length ps → get_or (map (bucket_at is) ps) k 0 ≡ bucket_at is (get_or ps k 0)
get_d-buckets is [] k h = absurd (omega arith)
get_d-buckets is (p ∷ ps) zero h = refl
get_d-buckets is (p ∷ ps) (suc k) h = get_d-buckets is ps k (omega arith)

-- ## The listing of good items

module _ (m : Meaning) (g : Good m) where
  -- the listed items rise
  pub listed-rising : (j k : ℕ) → j < k → k < length m.items → before (listed_key m.items j) (listed_key m.items k) ≡ true
  unfolding lists_all listed_chars
  listed-rising j k l b =
      let ps : List ℕ = listing m.items in
      rises-later m.items ps j k
      (and_right (eqb (length ps) (length m.items) && every (within 1 (length m.items)) ps) (rises m.items ps) (listing-passes m g))
      l (omega (arith, listing-length m.items))

  -- each item is listed
  pub item-listed : (q : ℕ) → q < length m.items → (k : ℕ) × (k < length m.items) × (listed_chars m.items k ≡ (get_or m.items q no_item).chars)
  unfolding listed_chars
  item-listed q b =
      let r = one_of-place (suc q) (listing m.items) (listing-has m.items (suc q) (within-intro 1 (length m.items) (suc q) (omega arith) b)) in
      (r.0, omega (arith, listing-length m.items, r.1), ap (λ (p : ℕ). (get_or m.items (pred p) no_item).chars) r.2)

  pub item-good : (q : ℕ) → q < length m.items → good_item (length m.rules) (get_or m.items q no_item) ≡ true
  item-good q b = every-at (good_item (length m.rules)) m.items q no_item g.items b

  pub some_item : 1 ≤ length m.items
  some_item = let r = undefined-place m.items g.undefined in omega (arith, r.1)

  -- the item that is listed at k
  listed-good : (k : ℕ) → k < length m.items → GoodItem (length m.rules) (get_or m.items (pred (get_or (listing m.items) k 0)) no_item)
  listed-good k b =
      let w = listed-place m g k b in
      let p : ℕ = get_or (listing m.items) k 0 in
      let low = within_low 1 (length m.items) p w in
      let high = within-high 1 (length m.items) p w in
      item-parts (length m.rules) (get_or m.items (pred p) no_item) (item-good (pred p) (omega arith))

  pub listed-characters : (k : ℕ) → k < length m.items → every is_character (listed_chars m.items k) ≡ true
  unfolding listed_chars
  listed-characters k b = (listed-good k b).characters

  pub listed-short : (k : ℕ) → k < length m.items → length (listed_chars m.items k) ≤ 4
  unfolding listed_chars
  listed-short k b = (listed-good k b).short

  -- UNDEFINED's key comes before no item's
  padding-last : (k : ℕ) → k < length m.items → before (bucket (length m.items) [] ∷ padded [] []) (listed_key m.items k) ≡ true → ⊥
  padding-last k b t = go (before-cases (bucket n []) (bucket n cs) (padded [] []) (padded cs []) t)
    where
      n : ℕ
      n = length m.items

      cs : List ℕ
      cs = listed_chars m.items k

      go : (bucket n [] < bucket n cs) ⊎ ((bucket n [] ≡ bucket n cs) × (before (padded [] []) (padded cs []) ≡ true)) → ⊥
      go (inl l) = omega (arith, bucket-same n [] some_item (same_refl []), bucket-few n cs some_item)
      go (inr r) = clash r.1 (rw (take-length cs) at (longer-before cs 0 (length cs) (listed-characters k b) (omega arith)))

  -- UNDEFINED is listed last
  pub undefined-last : listed_chars m.items (length m.items - 1) ≡ []
  undefined-last =
      let u = undefined-place m.items g.undefined in
      let r = item-listed u.0 u.1 in
      let none : listed_chars m.items r.0 ≡ [] = r.2 ∙ u.2 in
      let some = some_item in
      elim (dec_lt r.0 (length m.items - 1)) [
        | yes l ↦ absurd (padding-last (length m.items - 1) (omega arith) (rw none at (listed-rising r.0 (length m.items - 1) l (omega arith))))
        | no n ↦ let e : r.0 ≡ length m.items - 1 = omega (arith, r.1) in rw (← e) none
      ]

  -- ## Buckets

  -- before its start, buckets are smaller
  pub bucket-before : (b k : ℕ) → k < start_for m.items b → k < length m.items → bucket (length m.items) (listed_chars m.items k) < b
  unfolding listed_chars
  bucket-before b k l u =
      let ps : List ℕ = listing m.items in
      rw (← get_d-buckets m.items ps k (omega (arith, listing-length m.items)))
      (climb-below b (map (bucket_at m.items) ps) k (climbs m.items ps (listing-passes m g))
      (omega (arith, listed_below m.items ps (listing-passes m g) b)))

  -- from its start on, they are not
  pub bucket-from : (b k : ℕ) → start_for m.items b ≤ k → k < length m.items → b ≤ bucket (length m.items) (listed_chars m.items k)
  unfolding listed_chars
  bucket-from b k l u =
      let ps : List ℕ = listing m.items in
      rw (← get_d-buckets m.items ps k (omega (arith, listing-length m.items)))
      (climb-above b (map (bucket_at m.items) ps) k (climbs m.items ps (listing-passes m g))
      (omega (arith, listed_below m.items ps (listing-passes m g) b)) (omega (arith, listed-length m.items ps (listing-passes m g))))

  start-few : (b : ℕ) → start_for m.items b ≤ length m.items
  start-few b = omega (arith, below-few b (item_buckets (length m.items) m.items), buckets-length (length m.items) m.items)

  -- a bucket does not start behind the next
  pub start-next : (b : ℕ) → start_for m.items b ≤ start_for m.items (suc b)
  start-next b =
      let is : List Item = m.items in
      let few = start-few b in
      elim (dec_lt (start_for is (suc b)) (start_for is b)) [
        | yes l ↦
            let low = bucket-before b (start_for is (suc b)) l (omega arith) in
            let high = bucket-from (suc b) (start_for is (suc b)) (omega arith) (omega arith) in
            absurd (omega arith)
        | no l ↦ omega arith
      ]

  -- what is not behind UNDEFINED's starts at an item
  pub start-inside : (b : ℕ) → b < 2 * length m.items → start_for m.items b < length m.items
  start-inside b h =
      let is : List Item = m.items in
      let n : ℕ = length is in
      let some = some_item in
      elim (dec_lt (start_for is b) n) [
        | yes l ↦ l
        | no l ↦
            let low : bucket n [] < b = rw undefined-last at (bucket-before b (n - 1) (omega arith) (omega arith)) in
            absurd (omega (arith, bucket-same n [] some (same_refl [])))
      ]

  -- nor is a character's bucket, nor the next
  pub bucket-next : (c : ℕ) (cs : List ℕ) → suc (bucket (length m.items) (c ∷ cs)) < 2 * length m.items
  bucket-next c cs = omega (arith, bucket-char (length m.items) c cs, mask-few (length m.items) some_item)
