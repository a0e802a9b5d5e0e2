-- The linear test of the starts, along the listing: each start is right as its bucket is reached, and at the end all are told. With the test of
-- the listing it holds exactly of the listing and the starts that a table must store, where no two items are alike and one is UNDEFINED.
use Rattle.std.specs.Prelude.{if◌then◌else◌}
use mathlib.Core.Path.{◌≡◌, refl, sym, ap, ◌∙◌}
use mathlib.Core.Logic.{◌⊎◌, inl, inr}
use mathlib.Core.Bool.{Bool, true, false, ◌&&◌, false≢true, or-true}
use mathlib.Core.List.{List, [], ◌∷◌, map}
use Prim.Native.Nat.{ℕ, zero, suc, pred, ◌+◌, ◌-◌, ◌*◌, ◌≤◌, ◌<◌}
use native.Mathlib.Omega.{arith}
use lib.ListN.{length, get_or, length-map}
use lib.Dec.{ltb, eqb}
use borrow.Author.Tests.{lt-ltb, le-ltb, ltb-true, ltb-false, eq-eqb, eqb-true}
use Rattle.base_lists.proofs.Bools.{by, and_left, and_right, and_intro, cond_both}
use Rattle.rules.specs.Text.{one_of, same}
use Rattle.rules.specs.Meaning.{Item, item, has_chars, no_two_alike}
use Rattle.rules.specs.Table.{Placed, before, inserted, sorted}
use Rattle.rules.proofs.StorableLaws.{AllStored}
use Rattle.rules.proofs.SortLaws.{Above, Rising, before-cases}
use Rattle.rules.specs.Table.{bucket, keyed, listing, item_buckets, below, starts}
use Rattle.table_layout.specs.Starts.{start_at, start_all, told}
use Rattle.rules.proofs.BucketLaws.{bucket-few, bucket-some, bucket-same}
use Rattle.rules.proofs.WidthLaws.{below-few, buckets-length}
use Rattle.table_layout.proofs.StartLaws.{starts-at, starts-only}
use Rattle.rules.proofs.ListingLaws.{placed_at, lists_all, rising, in_order_lem, lists_length, lists-stored, lists-apart, listing-lists}

-- ## The test

-- the bucket of the item at a place, from 1
abbrev pub bucket_at : List Item → ℕ → ℕ
bucket_at is p = bucket (length is) (get_or is (pred p) (item [] [])).chars

-- ## Lists of buckets

abbrev pub AllFrom : ℕ → List ℕ → Type 0
AllFrom b [] = Unit
AllFrom b (q ∷ qs) = (b ≤ q) × AllFrom b qs

abbrev pub Climbs : List ℕ → Type 0
Climbs [] = Unit
Climbs (q ∷ qs) = AllFrom q qs × Climbs qs

pub below_in : (b q : ℕ) (qs : List ℕ) → q < b → below b (q ∷ qs) ≡ suc (below b qs)
unfolding below
below_in b q qs h = rw (lt-ltb q b h) (omega arith)

pub below_out : (b q : ℕ) (qs : List ℕ) → b ≤ q → below b (q ∷ qs) ≡ below b qs
unfolding below
below_out b q qs h = rw (le-ltb q b h) (omega arith)

pub below_none : (b q : ℕ) (qs : List ℕ) → b ≤ q → AllFrom q qs → below b qs ≡ 0
unfolding below
below_none b q [] h k = refl
below_none b q (r ∷ qs) h k = below_out b r qs (omega (arith, k.0)) ∙ below_none b q qs h k.1

-- ## What the test says

all-starts : (ss : List ℕ) (k b n : ℕ) → start_all ss k b n ≡ true → (x : ℕ) → b ≤ x → x < b + n → start_at ss x ≡ k
unfolding start_all
all-starts ss k b zero h x l u = absurd (omega arith)
all-starts ss k b (suc n) h x l u =
    by (eqb x b)
    (λ t. let e = eqb-true x b t in rw e (eqb-true (start_at ss b) k (and_left (eqb (start_at ss b) k) (start_all ss k (suc b) n) h)))
    (λ t. all-starts ss k (suc b) n (and_right (eqb (start_at ss b) k) (start_all ss k (suc b) n) h) x (omega (arith, ne t)) (omega arith))
  where
    ne : eqb x b ≡ false → x ≡ b → ⊥
    ne t e = false≢true (sym t ∙ eq-eqb x b e)

starts-all : (ss : List ℕ) (k b n : ℕ) → ((x : ℕ) → b ≤ x → x < b + n → start_at ss x ≡ k) → start_all ss k b n ≡ true
unfolding start_all
starts-all ss k b zero f = refl
starts-all ss k b (suc n) f =
    and_intro (eq-eqb (start_at ss b) k (f b (omega arith) (omega arith))) (starts-all ss k (suc b) n (λ x l u. f x (omega arith) (omega arith)))

pub told-starts : (ss : List ℕ) (e k b : ℕ) (qs : List ℕ) → told ss e k b qs ≡ true → Climbs qs → (x : ℕ) → b ≤ x → x < e → start_at ss x ≡ k + below x qs
unfolding told
told-starts ss e k b [] h c x l u = let z = eqb-true b e h in absurd (omega arith)
told-starts ss e k b (q ∷ qs) h c x l u =
    by (ltb q x)
    (λ t.
    let d = ltb-true q x t in
    let r = told-starts ss e (suc k) (suc q) qs (and_right (start_all ss k b (suc q - b)) (told ss e (suc k) (suc q) qs) h) c.1 x (omega arith) u in
    omega (arith, r, below_in x q qs d))
    (λ t.
    let d = ltb-false q x t in
    let r = all-starts ss k b (suc q - b) (and_left (start_all ss k b (suc q - b)) (told ss e (suc k) (suc q) qs) h) x l (omega arith) in
    omega (arith, r, below_out x q qs d, below_none x q qs d c.0))

-- the last bucket is the one before e
abbrev pub Ends : ℕ → List ℕ → ℕ → Type 0
Ends b [] e = b ≡ e
Ends b (q ∷ qs) e = Ends (suc q) qs e

told-ends : (ss : List ℕ) (e k b : ℕ) (qs : List ℕ) → told ss e k b qs ≡ true → Ends b qs e
unfolding told
told-ends ss e k b [] h = eqb-true b e h
told-ends ss e k b (q ∷ qs) h =
    told-ends ss e (suc k) (suc q) qs (and_right (start_all ss k b (suc q - b)) (told ss e (suc k) (suc q) qs) h)

ends_above : (q e : ℕ) (qs : List ℕ) → AllFrom q qs → Climbs qs → Ends (suc q) qs e → suc q ≤ e
ends_above q e [] a c h = omega arith
ends_above q e (r ∷ qs) a c h = let k = ends_above r e qs c.0 c.1 h in omega (arith, k, a.0)

abbrev Follows : ℕ → List ℕ → Type 0
Follows b [] = Unit
Follows b (q ∷ qs) = b ≤ suc q

follows_next : (q : ℕ) (qs : List ℕ) → AllFrom q qs → Follows (suc q) qs
follows_next q [] a = tt
follows_next q (r ∷ qs) a = omega (arith, a.0)

follows-none : (qs : List ℕ) → Follows 0 qs
follows-none [] = tt
follows-none (q ∷ qs) = omega arith

pub starts-told : (ss : List ℕ) (e k b : ℕ) (qs : List ℕ) → ((x : ℕ) → b ≤ x → x < e → start_at ss x ≡ k + below x qs)
    → Climbs qs → Follows b qs → Ends b qs e → told ss e k b qs ≡ true
unfolding told
starts-told ss e k b [] f c g h = eq-eqb b e h
starts-told ss e k b (q ∷ qs) f c g h =
    let top = ends_above q e qs c.0 c.1 h in
    let here : (x : ℕ) → b ≤ x → x < b + (suc q - b) → start_at ss x ≡ k =
    λ x l u. let d : x ≤ q = omega arith in omega (arith, f x l (omega arith), below_out x q qs d, below_none x q qs d c.0) in
    let next : (x : ℕ) → suc q ≤ x → x < e → start_at ss x ≡ suc k + below x qs =
    λ x l u. omega (arith, f x (omega arith) u, below_in x q qs l) in
    and_intro (starts-all ss k b (suc q - b) here) (starts-told ss e (suc k) (suc q) qs next c.1 (follows_next q qs c.0) h)

-- ## The last bucket, by counting

ends-below : (b e : ℕ) (qs : List ℕ) → Ends b qs e → b < e → below (pred e) qs < length qs
ends-below b e [] h l = absurd (omega arith)
ends-below b e (q ∷ []) h l = omega (arith, h, below_out (pred e) q [] (omega (arith, h)), below-few (pred e) [])
ends-below b e (q ∷ r ∷ qs) h l =
    by (ltb (suc q) e)
    (λ t. let d = ltb-true (suc q) e t in omega (arith, ends-below (suc q) e (r ∷ qs) h d, below_in (pred e) q (r ∷ qs) (omega arith)))
    (λ t. let d = ltb-false (suc q) e t in omega (arith, below_out (pred e) q (r ∷ qs) (omega arith), below-few (pred e) (r ∷ qs)))

abbrev AllBelow : ℕ → List ℕ → Type 0
AllBelow e [] = Unit
AllBelow e (q ∷ qs) = (q < e) × AllBelow e qs

below-ends : (b e : ℕ) (qs : List ℕ) → Climbs qs → AllBelow e qs → below (pred e) qs < length qs → Ends b qs e
below-ends b e [] c a k = absurd (omega arith)
below-ends b e (q ∷ []) c a k =
    by (ltb q (pred e))
    (λ t. absurd (omega (arith, k, below_in (pred e) q [] (ltb-true q (pred e) t))))
    (λ t. omega (arith, a.0, ltb-false q (pred e) t))
below-ends b e (q ∷ r ∷ qs) c a k =
    below-ends (suc q) e (r ∷ qs) c.1 a.1
    (by (ltb q (pred e))
    (λ t. omega (arith, k, below_in (pred e) q (r ∷ qs) (ltb-true q (pred e) t)))
    (λ t. omega (arith, below_out (pred e) r qs (omega (arith, ltb-false q (pred e) t, c.0.0)), below-few (pred e) qs)))

-- ## The buckets of listed items

-- the bucket of a placed item
abbrev pub bucket_of : Placed → ℕ
bucket_of p = get_or p.key 0 0

pub before_head : (xs ys : List ℕ) → before xs ys ≡ true → get_or xs 0 0 ≤ get_or ys 0 0
unfolding before
before_head [] ys h = absurd (false≢true h)
before_head (x ∷ xs) [] h = absurd (false≢true h)
before_head (x ∷ xs) (y ∷ ys) h = go (before-cases x y xs ys h)
  where
    go : (x < y) ⊎ ((x ≡ y) × (before xs ys ≡ true)) → x ≤ y
    go (inl l) = omega arith
    go (inr r) = omega (arith, r.0)

above_from : (p : Placed) (qs : List Placed) → Above p qs → AllFrom (bucket_of p) (map bucket_of qs)
above_from p [] h = tt
above_from p (q ∷ qs) h = (before_head p.key q.key h.0, above_from p qs h.1)

rising-climbs : (qs : List Placed) → Rising qs → Climbs (map bucket_of qs)
rising-climbs [] h = tt
rising-climbs (q ∷ qs) h = (above_from q qs h.0, rising-climbs qs h.1)

inserted_below : (b : ℕ) (p : Placed) (qs : List Placed) → below b (map bucket_of (inserted p qs)) ≡ below b (map bucket_of (p ∷ qs))
unfolding inserted below
inserted_below b p [] = refl
inserted_below b p (q ∷ qs) =
    let r = inserted_below b p qs in
    cond_both (λ (l : List Placed). below b (map bucket_of l) ≡ below b (map bucket_of (p ∷ q ∷ qs))) (before p.key q.key) refl (omega arith)

pub sorted-below : (b : ℕ) (qs : List Placed) → below b (map bucket_of (sorted qs)) ≡ below b (map bucket_of qs)
unfolding sorted below
sorted-below b [] = refl
sorted-below b (q ∷ qs) = inserted_below b q (sorted qs) ∙ ap (λ (n : ℕ). (if ltb (bucket_of q) b then 1 else 0) + n) (sorted-below b qs)

pub keyed-buckets : (i n : ℕ) (is : List Item) → map bucket_of (keyed i n is) ≡ item_buckets i is
unfolding keyed item_buckets
keyed-buckets i n [] = refl
keyed-buckets i n (x ∷ is) = ap (λ (qs : List ℕ). bucket i x.chars ∷ qs) (keyed-buckets i (suc n) is)

places-buckets : (is : List Item) (ps : List ℕ) → map bucket_of (map (placed_at is) ps) ≡ map (bucket_at is) ps
places-buckets is [] = refl
places-buckets is (p ∷ ps) = ap (λ (qs : List ℕ). bucket_at is p ∷ qs) (places-buckets is ps)

places-below : (is : List Item) (ps : List ℕ) → 1 ≤ length is → AllBelow (2 * length is) (map (bucket_at is) ps)
places-below is [] h = tt
places-below is (p ∷ ps) h = (bucket-few (length is) (get_or is (pred p) (item [] [])).chars h, places-below is ps h)

-- ## UNDEFINED, by counting

below-undefined : (i : ℕ) (is : List Item) → 1 ≤ i → below (pred (2 * i)) (item_buckets i is) < length is → one_of (has_chars []) is ≡ true
unfolding below item_buckets one_of has_chars
below-undefined i [] h k = absurd (omega arith)
below-undefined i (x ∷ is) h k =
    by (same [] x.chars) (λ t. rw t)
    (λ t.
    let e : below (pred (2 * i)) (item_buckets i (x ∷ is)) ≡ 1 + below (pred (2 * i)) (item_buckets i is) = rw (lt-ltb (bucket i x.chars) (pred (2 * i)) (bucket-some i x.chars h t)) in
    rw (below-undefined i is h (omega (arith, k, e))) (or-true (same [] x.chars)))

undefined-below : (i : ℕ) (is : List Item) → 1 ≤ i → one_of (has_chars []) is ≡ true → below (pred (2 * i)) (item_buckets i is) < length is
unfolding below item_buckets one_of has_chars
undefined-below i [] h k = absurd (false≢true k)
undefined-below i (x ∷ is) h k =
    by (same [] x.chars)
    (λ t.
    let d = bucket-same i x.chars h t in
    let e : below (pred (2 * i)) (item_buckets i (x ∷ is)) ≡ 0 + below (pred (2 * i)) (item_buckets i is) = rw (le-ltb (bucket i x.chars) (pred (2 * i)) d) in
    omega (arith, e, below-few (pred (2 * i)) (item_buckets i is), buckets-length i is))
    (λ t.
    let r = undefined-below i is h (rw t at k) in
    cond_both (λ (n : ℕ). n + below (pred (2 * i)) (item_buckets i is) < suc (length is)) (ltb (bucket i x.chars) (pred (2 * i))) (omega arith) (omega arith))

-- ## The two tests together

module _ (is : List Item) (ps : List ℕ) (h : lists_all is ps ≡ true) where
  pub climbs : Climbs (map (bucket_at is) ps)
  climbs = rw (← places-buckets is ps) (rising-climbs (map (placed_at is) ps) (rising is ps h))

  pub listed_below : (b : ℕ) → below b (map (bucket_at is) ps) ≡ below b (item_buckets (length is) is)
  listed_below b =
      ap (below b) (sym (places-buckets is ps)) ∙ ap (λ (l : List Placed). below b (map bucket_of l)) (sym (in_order_lem is ps h))
      ∙ sorted-below b (keyed (length is) 1 is) ∙ ap (below b) (keyed-buckets (length is) 1 is)

  pub listed-length : length (map (bucket_at is) ps) ≡ length is
  listed-length = length-map ps (bucket_at is) ∙ lists_length is ps h

  -- what passes is what the table must store
  pub told-stored : (ss : List ℕ) → told ss (2 * length is) 0 0 (map (bucket_at is) ps) ≡ true → length ss ≡ length is → ss ≡ starts is
  told-stored ss t e = starts-only is ss e (λ x u. let z = listed_below x in omega (arith, told-starts ss (2 * length is) 0 0 (map (bucket_at is) ps) t climbs x (omega arith) u, z))

  -- and one item is UNDEFINED
  pub told-undefined : (ss : List ℕ) → told ss (2 * length is) 0 0 (map (bucket_at is) ps) ≡ true → 1 ≤ length is → one_of (has_chars []) is ≡ true
  told-undefined ss t k =
      let r = ends-below 0 (2 * length is) (map (bucket_at is) ps) (told-ends ss (2 * length is) 0 0 (map (bucket_at is) ps) t) (omega arith) in
      below-undefined (length is) is k (omega (arith, r, listed_below (pred (2 * length is)), listed-length))

  -- what the table must store passes
  pub stored-told : (ss : List ℕ) → ss ≡ starts is → length is ≤ 32768 → 1 ≤ length is → one_of (has_chars []) is ≡ true
      → told ss (2 * length is) 0 0 (map (bucket_at is) ps) ≡ true
  stored-told ss e few some u =
      let r = undefined-below (length is) is some u in
      starts-told ss (2 * length is) 0 0 (map (bucket_at is) ps)
      (λ x l d. let z = listed_below x in rw e (omega (arith, starts-at is few x d, z)))
      climbs (follows-none (map (bucket_at is) ps))
      (below-ends 0 (2 * length is) (map (bucket_at is) ps) climbs (places-below is ps some)
      (omega (arith, r, listed_below (pred (2 * length is)), listed-length)))

-- both tests, in one walk along the listing
unfoldable pub listing_passes : List Item → List ℕ → List ℕ → Bool
listing_passes is ps ss = lists_all is ps && told ss (2 * length is) 0 0 (map (bucket_at is) ps)

-- What a table must store, of items of which no two are alike and one is UNDEFINED.
pub record Fits (is : List Item) (ps ss : List ℕ) : Type 0 where
  pub listed : ps ≡ listing is
  pub started : ss ≡ starts is
  pub apart : no_two_alike is ≡ true
  pub undefined : one_of (has_chars []) is ≡ true

pub passes-fits : (is : List Item) (ps ss : List ℕ) → 1 ≤ length is → length ss ≡ length is → listing_passes is ps ss ≡ true → Fits is ps ss
unfolding listing_passes
passes-fits is ps ss some e h =
    let a = and_left (lists_all is ps) (told ss (2 * length is) 0 0 (map (bucket_at is) ps)) h in
    let t = and_right (lists_all is ps) (told ss (2 * length is) 0 0 (map (bucket_at is) ps)) h in
    record { listed = lists-stored is ps a; started = told-stored is ps a ss t e; apart = lists-apart is ps a; undefined = told-undefined is ps a ss t some }

pub fits-passes : (l : ℕ) (is : List Item) (ps ss : List ℕ) → AllStored l is → 1 ≤ length is → length is ≤ 32768 → Fits is ps ss → listing_passes is ps ss ≡ true
unfolding listing_passes
fits-passes l is ps ss s some few f =
    let a : lists_all is ps ≡ true = rw f.listed (listing-lists l is s f.apart) in
    and_intro a (stored-told is ps a ss f.started few some f.undefined)
