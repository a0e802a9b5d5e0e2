-- What one search says of the element that begins a string: the item that it comes to is the element, or bounds its size.
use mathlib.Core.Path.{◌≡◌, sym, ap, ◌∙◌, subst}
use mathlib.Core.Bool.{Bool, true, false}
use mathlib.Core.List.{List, [], ◌∷◌}
use Prim.Native.Nat.{ℕ, zero, suc, pred, ◌+◌, ◌-◌, ◌≤◌, ◌<◌}
use native.Mathlib.Omega.{arith}
use native.Mathlib.Decide.{dec_lt}
use lib.ListN.{length, get_or, take, drop, length-append, length-drop}
use lib.Seq.{get_or-drop}
use Rattle.base_lists.proofs.Bools.{clash}
use Rattle.rules.specs.Text.{every, begins}
use Rattle.rules.specs.Names.{is_character}
use Rattle.rules.specs.Meaning.{Meaning}
use Rattle.rules.specs.Table.{pad, padded, before, bucket, listing, accepted, meaning_in}
use Rattle.rules.specs.Order.{no_item, undefined_from, step_of}
use Rattle.rules.proofs.TextLaws.{every-tail, begins-split, within_low, within-high}
use Rattle.rules.proofs.MeaningLaws.{Good, item-parts}
use Rattle.rules.proofs.ElementLaws.{chars_at, step_is, step-undefined, undefined-is}
use Rattle.table_layout.specs.declared.Listed.{Listed}
use Rattle.table_layout.specs.Parts.{chars_part, Indexed, listed_chars, Lists}
use Rattle.table_layout.proofs.IndexLaws.{indexed-good, listed-place}
use Rattle.order_find.specs.declared.Found.{Found}
use Rattle.order_find.specs.declared.Near.{Near}
use Rattle.order_find.specs.declared.Near.TheVariants.{Element, Within}
use Rattle.order_find.specs.Answer.{found_as}
use Rattle.order_find.specs.Search.{Least, Shares, AtMost, Window, Ahead, Looked}
use Rattle.order_find.proofs.BeginningLaws.{Agree, before-tail, before_head, not-before-head, longer-before, between-begins, begins-short}
use Rattle.order_find.proofs.BeginningLaws.{begins-agree, agree-begins, agree-long, begins-take, pad-over, agree-bucket}
use Rattle.order_find.proofs.ListedLaws.{listed-rising, item-listed, item-good, listed-characters, listed-short, some_item, undefined-last}
use Rattle.order_find.proofs.SearchLaws.{table-indexed}

module _ (m : Meaning) (g : Good m) (s : List ℕ) (h : every is_character s ≡ true) where
  -- where s begins with no item's characters, the element is UNDEFINED, which is listed last
  none-undefined : 0 < length s → AtMost m.items s 0
      → record { place = get_or (listing m.items) (length m.items - 1) 0; size = 1 } ≡ step_of m.items s
  unfolding listed_chars
  none-undefined b f =
      let n : ℕ = length m.items in
      let some = some_item m g in
      let p : ℕ = get_or (listing m.items) (n - 1) 0 in
      let w = listed-place m g (n - 1) (omega arith) in
      let low = within_low 1 n p w in
      let high = within-high 1 n p w in
      let e = undefined-is 1 m.items (pred p) g.apart (omega arith) (ap length (undefined-last m g)) in
      let e' : p ≡ undefined_from 1 m.items = omega arith in
      rw e' (sym (step-undefined m.items s b (λ q l t. let z = f q l t in omega arith)))

  module _ (size : ℕ) (left : size ≤ length s) (most : AtMost m.items s size) (k : ℕ)
      (least : Least m.items (length m.items) (padded (take size s) []) k) where
    -- what begins as s does stands in the bucket that is searched
    same-bucket : (cs : List ℕ) (n : ℕ) → Agree cs s n → 1 ≤ n → n ≤ size
        → bucket (length m.items) cs ≡ bucket (length m.items) (padded (take size s) [])
    same-bucket cs n a b l = agree-bucket (length m.items) cs s n size h a b (omega (arith, left)) (omega arith)

    -- the item that the search comes to does not come before the characters, if it stands in that bucket
    not-before : bucket (length m.items) (listed_chars m.items k) ≡ bucket (length m.items) (padded (take size s) [])
        → before (padded (listed_chars m.items k) []) (padded (take size s) []) ≡ false
    not-before e = sym (before-tail _ _ _ _ e) ∙ least.here

    -- what is listed behind it, in that bucket, leaves it there
    stands-there : (i : ℕ) → k < i → i < length m.items
        → bucket (length m.items) (listed_chars m.items i) ≡ bucket (length m.items) (padded (take size s) [])
        → bucket (length m.items) (listed_chars m.items k) ≡ bucket (length m.items) (padded (take size s) [])
    stands-there i l c e =
        let high = before_head _ _ _ _ (listed-rising m g k i l c) in
        let low = not-before-head _ _ _ _ least.here in
        omega arith

    -- the item that the search comes to shares with s all that an item has with which s begins
    all-agree : (q : ℕ) → q < length m.items → begins (get_or m.items q no_item).chars s ≡ true
        → Agree (listed_chars m.items k) s (length (get_or m.items q no_item).chars)
    all-agree q b t = let r = item-listed m g q b in go (get_or m.items q no_item).chars t (most q b t) r.0 r.1 r.2
      where
        go : (cs : List ℕ) → begins cs s ≡ true → length cs ≤ size → (i : ℕ) → i < length m.items → listed_chars m.items i ≡ cs
            → Agree (listed_chars m.items k) s (length cs)
        go [] t short i c is = λ x b. absurd (omega arith)
        go (c₀ ∷ cs₀) t short i c is =
            let cs : List ℕ = c₀ ∷ cs₀ in
            let is' : listed_chars m.items i ≡ take (length cs) s = is ∙ begins-take cs s t in
            let there = same-bucket (listed_chars m.items i) (length cs) (rw is (begins-agree cs s t)) (omega arith) short in
            elim (dec_lt i k) [
              | yes l ↦ clash (rw is' at (sym (before-tail _ _ _ _ there) ∙ least.below i l)) (longer-before s (length cs) size h short)
              | no n ↦ elim (dec_lt k i) [
                | yes l ↦
                    let here = stands-there i l c there in
                    let rising = sym (before-tail _ _ _ _ (here ∙ sym there)) ∙ listed-rising m g k i l c in
                    between-begins (listed_chars m.items k) s (length cs) size h short left (not-before here) (rw is' at rising)
                | no n' ↦ let e : i ≡ k = omega arith in rw (← e, is) (begins-agree cs s t)
              ]
            ]

    -- where the two part, no item with which s begins is longer
    parted : (n : ℕ) → (get_or (listed_chars m.items k) n pad ≡ get_or s n 0 → ⊥) → AtMost m.items s n
    parted n f q b t =
        let j : ℕ = length (get_or m.items q no_item).chars in
        elim (dec_lt n j) [
          | yes l ↦ absurd (f (all-agree q b t n l))
          | no l ↦ omega arith
        ]

    -- if s begins with it, it is the element
    whole : (n : ℕ) → 1 ≤ n → n ≤ length s → length (listed_chars m.items k) ≤ n → Agree (listed_chars m.items k) s n
        → record { place = get_or (listing m.items) k 0; size = n } ≡ step_of m.items s
    unfolding listed_chars
    whole n b c l a =
        let p : ℕ = get_or (listing m.items) k 0 in
        let w = listed-place m g k least.inside in
        let low = within_low 1 (length m.items) p w in
        let high = within-high 1 (length m.items) p w in
        let cs : List ℕ = (get_or m.items (pred p) no_item).chars in
        let long = agree-long cs s n h c a in
        let e : length cs ≡ n = omega arith in
        let e' : suc (pred p) ≡ p = omega arith in
        let all : (q : ℕ) → q < length m.items → begins (chars_at m.items q) s ≡ true → length (chars_at m.items q) ≤ length (chars_at m.items (pred p)) =
        λ q d t. let sz = most q d t in agree-long cs s (length (chars_at m.items q)) h (omega arith) (all-agree q d t) in
        sym (rw (e', e) at (step_is m.items s (pred p) g.apart (omega arith) (omega arith) (agree-begins cs s (omega arith) (rw e a)) all))

-- ## look

every_drop : {A : Type 0} (p : A → Bool) (xs : List A) (k : ℕ) → every p xs ≡ true → every p (drop k xs) ≡ true
every_drop p xs zero h = h
every_drop p [] (suc k) h = h
every_drop p (x ∷ xs) (suc k) h = every_drop p xs k (every-tail p x xs h)

module _ {t : List ℕ} {chars items : ℕ} (w : Indexed t chars items) {s : List ℕ} {at size : ℕ} (a : Ahead (meaning_in t).items s at size) {key : List ℕ}
    (ke : key ≡ padded (take size (drop at s)) []) where
  characters : every is_character (drop at s) ≡ true
  characters = every_drop is_character s at a.characters

  long : size ≤ length (drop at s)
  long = rw (length-drop at s) (let l = a.left in omega arith)

  module _ {k : ℕ} (le : Least (meaning_in t).items items key k) {i : Listed} (l : Lists t k i) {n : ℕ}
      (sh : Shares t i.from s at size n) where
    least : Least (meaning_in t).items (length (meaning_in t).items) (padded (take size (drop at s)) []) k
    least = rw (ke, w.items-are) at le

    agree : Agree (listed_chars (meaning_in t).items k) (drop at s) n
    agree j b =
        sym (l.numbers j (let few = a.few in let c = sh.within in omega arith)) ∙ sh.same j b ∙ sym (get_or-drop at s j 0)

    stop : n < size → get_or (listed_chars (meaning_in t).items k) n pad ≡ get_or (drop at s) n 0 → ⊥
    stop b q = sh.stop b (l.numbers n (let few = a.few in omega arith) ∙ q ∙ get_or-drop at s n 0)

    element : 1 ≤ n → length (listed_chars (meaning_in t).items k) ≤ n → Looked (meaning_in t).items (drop at s) size (Element (record { place = i.place; size = n }))
    element b c =
        rw l.is
        (whole (meaning_in t) (indexed-good w) (drop at s) characters size long a.most k least n b (let f = long in let d = sh.within in omega arith) c agree)

    within : n < size → Looked (meaning_in t).items (drop at s) size (Within n)
    within b = (b, parted (meaning_in t) (indexed-good w) (drop at s) characters size long a.most k least n (stop b))

    pub look_none : n ≡ 0 → Looked (meaning_in t).items (drop at s) size (Within 0)
    look_none z = rw z at (within (let b = a.some in omega arith))

    module _ (z : n ≡ 0 → ⊥) where
      pub look-all : n ≡ size → Looked (meaning_in t).items (drop at s) size (Element (record { place = i.place; size = n }))
      look-all q =
          element (omega arith)
          (begins-short (listed_chars (meaning_in t).items k) (drop at s) n (listed-characters (meaning_in t) (indexed-good w) k least.inside)
          (listed-short (meaning_in t) (indexed-good w) k least.inside)
          (let f = long in let d = sh.within in omega arith)
          (rw q (not-before (meaning_in t) (indexed-good w) (drop at s) characters size long a.most k least there)) agree)
        where
          there : bucket (length (meaning_in t).items) (listed_chars (meaning_in t).items k)
              ≡ bucket (length (meaning_in t).items) (padded (take size (drop at s)) [])
          there = same-bucket (meaning_in t) (indexed-good w) (drop at s) characters size long a.most k least _ n agree (omega arith) sh.within

      module _ (y : n ≡ size → ⊥) where
        pub look-whole : get_or t (i.from + n) 0 ≡ pad → Looked (meaning_in t).items (drop at s) size (Element (record { place = i.place; size = n }))
        look-whole q =
            element (omega arith)
            (pad-over (listed_chars (meaning_in t).items k) n (listed-characters (meaning_in t) (indexed-good w) k least.inside)
            (sym (l.numbers n (let few = a.few in let d = sh.within in omega arith)) ∙ q))

        pub look-part : Looked (meaning_in t).items (drop at s) size (Within n)
        look-part = within (let d = sh.within in omega arith)

-- ## longest

begins-length : (cs s : List ℕ) → begins cs s ≡ true → length cs ≤ length s
begins-length cs s t = omega (arith, simp length-append at (ap length (begins-split cs s t)))

-- The search so far: no item that begins at the place has more than `size` characters.
pub record Seeking (t s : List ℕ) (at chars items size : ℕ) : Type 0 where
  pub indexed : Indexed t chars items
  pub characters : every is_character s ≡ true
  pub inside : at < length s
  pub few : size ≤ 4
  pub left : at + size ≤ length s
  pub most : AtMost (meaning_in t).items (drop at s) size

pub seeking-start : (t s : List ℕ) (at chars items : ℕ) {size : ℕ} → accepted t ≡ true → every is_character s ≡ true → at < length s
    → chars ≡ chars_part (length (meaning_in t).rules) (length (meaning_in t).items) → items ≡ length (meaning_in t).items → Window s at size
    → Seeking t s at chars items size
seeking-start t s at chars items {size} h characters inside ce ie v =
    let w = table-indexed t h ce ie in
    record { indexed = w; characters = characters; inside = inside; few = v.few; left = v.left; most = most w }
  where
    most : Indexed t chars items → AtMost (meaning_in t).items (drop at s) size
    most w q b c =
        let cs : List ℕ = (get_or (meaning_in t).items q no_item).chars in
        let short = (item-parts (length (meaning_in t).rules) (get_or (meaning_in t).items q no_item) (item-good (meaning_in t) (indexed-good w) q b)).short in
        let long = begins-length cs (drop at s) c in
        elim (dec_lt size 4) [
          | yes l ↦ let e = v.all l in omega (arith, simp length-drop at long)
          | no l ↦ omega arith
        ]

module _ {t s : List ℕ} {at chars items size : ℕ} (v : Seeking t s at chars items size) where
  pub seeking-ahead : 0 < size → Ahead (meaning_in t).items s at size
  seeking-ahead h = record { characters = v.characters; some = h; few = v.few; left = v.left; most = v.most }

  module _ {r : Near} (is : Looked (meaning_in t).items (drop at s) size r) where
    pub seeking-found : {f : Found} → r ≡ Element f → found_as f ≡ step_of (meaning_in t).items (drop at s)
    seeking-found e = subst (Looked (meaning_in t).items (drop at s) size) e is

    pub seeking-less : {m : ℕ} → r ≡ Within m → m < size
    seeking-less {m} e =
        let p : (m < size) × AtMost (meaning_in t).items (drop at s) m = subst (Looked (meaning_in t).items (drop at s) size) e is in
        p.0

    pub seeking-more : {m : ℕ} → r ≡ Within m → Seeking t s at chars items m
    seeking-more {m} e =
        let p : (m < size) × AtMost (meaning_in t).items (drop at s) m = subst (Looked (meaning_in t).items (drop at s) size) e is in
        record {
          indexed = v.indexed;
          characters = v.characters;
          inside = v.inside;
          few = omega (arith, v.few, p.0);
          left = omega (arith, v.left, p.0);
          most = p.1;
        }

  pub seeking-none : size ≤ 0 → {i : Listed} → Lists t (items - 1) i → record { place = i.place; size = 1 } ≡ step_of (meaning_in t).items (drop at s)
  seeking-none h {i} l =
      let z : size ≡ 0 = omega arith in
      let e : i.place ≡ get_or (listing (meaning_in t).items) (length (meaning_in t).items - 1) 0 = rw v.indexed.items-are at l.is in
      let some : 0 < length (drop at s) = rw (length-drop at s) (let b = v.inside in omega arith) in
      rw e
      (none-undefined (meaning_in t) (indexed-good v.indexed) (drop at s) (every_drop is_character s at v.characters) some (rw z at v.most))
