-- The search by halving, from the start of the key's bucket to the start of the next: the loop of first_from.
use mathlib.Core.Path.{◌≡◌, sym, ap, ◌∙◌}
use mathlib.Core.Bool.{Bool, true, false}
use mathlib.Core.List.{List, [], ◌∷◌}
use Prim.Native.Nat.{ℕ, suc, ◌+◌, ◌-◌, ◌*◌, ◌/◌, ◌≤◌, ◌<◌}
use native.Mathlib.Omega.{arith}
use native.Mathlib.Decide.{dec_lt}
use lib.ListN.{length, get_or}
use Rattle.rules.specs.Meaning.{Item}
use Rattle.rules.specs.Table.{pad, padded, before, bucket, accepted, meaning_in}
use Rattle.rules.proofs.SortLaws.{before-less, before-trans}
use Rattle.table_layout.specs.declared.Listed.{Listed}
use Rattle.table_layout.specs.Parts.{chars_part, Indexed, start_for, listed_chars, Lists}
use Rattle.table_layout.proofs.IndexLaws.{indexed-good}
use Rattle.order_find.specs.declared.Key.{Key}
use Rattle.order_find.specs.Search.{numbers_of, listed_key, bucketed, key_in, Least}
use Rattle.order_find.proofs.BeginningLaws.{before-tail, before-greater}
use Rattle.order_find.proofs.ListedLaws.{listed-rising, some_item, bucket-before, bucket-from, start-next, start-inside, bucket-next}

pub table-indexed : (t : List ℕ) {chars items : ℕ} → accepted t ≡ true → chars ≡ chars_part (length (meaning_in t).rules) (length (meaning_in t).items)
    → items ≡ length (meaning_in t).items → Indexed t chars items
table-indexed t h ce ie = record { checked = h; chars-are = ce; items-are = ie }

-- the four numbers of a listed item
key-is : {t : List ℕ} {k : ℕ} {i : Listed} → Lists t k i → key_in t i.from ≡ padded (listed_chars (meaning_in t).items k) []
key-is {t} {k} {i} l =
    let z : i.from + 0 ≡ i.from = omega arith in
    let first : get_or t i.from 0 ≡ get_or (listed_chars (meaning_in t).items k) 0 pad = rw z at (l.numbers 0 (omega arith)) in
    rw (first, l.numbers 1 (omega arith), l.numbers 2 (omega arith), l.numbers 3 (omega arith))

module _ {t : List ℕ} {chars items : ℕ} (w : Indexed t chars items) where
  pub search-some : 1 ≤ items
  search-some = omega (arith, w.items-are, some_item (meaning_in t) (indexed-good w))

  -- a character's bucket, and the next, are buckets of the table
  pub next-bucket : {b : ℕ} (c : ℕ) → b ≡ bucket (length (meaning_in t).items) (c ∷ []) → b + 1 < 2 * items
  next-bucket c e = omega (arith, e, w.items-are, bucket-next (meaning_in t) (indexed-good w) c [])

-- ## Halving

-- What lies before the range comes before the key, what ends it does not; and what is in it stands in the key's bucket.
pub record Halving (is : List Item) (n : ℕ) (key : List ℕ) (lo hi : ℕ) : Type 0 where
  pub ordered : lo ≤ hi
  pub inside : hi < n
  pub from_start : start_for is (bucket (length is) key) ≤ lo
  pub to-next : hi ≤ start_for is (suc (bucket (length is) key))
  pub below : (k : ℕ) → k < lo → before (listed_key is k) (bucketed is key) ≡ true
  pub here : before (listed_key is hi) (bucketed is key) ≡ false

module _ {t : List ℕ} {chars items : ℕ} (w : Indexed t chars items) where
  bucket-range : (c : ℕ) (key : List ℕ) (b : ℕ) → b ≡ bucket (length (meaning_in t).items) (c ∷ key)
      → Halving (meaning_in t).items items (c ∷ key) (start_for (meaning_in t).items b) (start_for (meaning_in t).items (suc b))
  bucket-range c key b e =
      let is : List Item = (meaning_in t).items in
      let g = indexed-good w in
      let next = bucket-next (meaning_in t) g c key in
      let n = w.items-are in
      let up = start-next (meaning_in t) g b in
      let last = start-inside (meaning_in t) g (suc b) (omega arith) in
      record {
        ordered = up;
        inside = omega arith;
        from_start = omega (arith, ap (start_for is) e);
        to-next = omega (arith, ap (λ (x : ℕ). start_for is (suc x)) e);
        below = λ k l. before-less _ _ _ _ (omega (arith, e, bucket-before (meaning_in t) g b k l (omega arith)));
        here = before-greater _ _ _ _ (omega (arith, e, bucket-from (meaning_in t) g (suc b) (start_for is (suc b)) (omega arith) last));
      }

  pub halving-start : (key : Key) {b lo hi : ℕ} → b ≡ bucket (length (meaning_in t).items) (key.a ∷ []) → lo ≡ start_for (meaning_in t).items b
      → hi ≡ start_for (meaning_in t).items (b + 1) → Halving (meaning_in t).items items (numbers_of key) lo hi
  unfolding bucket
  halving-start key {b} e l h =
      let s : b + 1 ≡ suc b = omega arith in
      rw (l, h, s) (bucket-range key.a (key.b ∷ key.c ∷ key.d ∷ []) b e)

pub halving-end : {is : List Item} {n : ℕ} {key : List ℕ} {lo hi : ℕ} → Halving is n key lo hi → hi ≤ lo → Least is n key lo
halving-end {is} {n} {key} {lo} {hi} v h =
    let e : hi ≡ lo = omega (arith, v.ordered) in
    record { inside = omega (arith, v.inside); below = v.below; here = rw e at v.here }

abbrev pub half : ℕ → ℕ → ℕ
half lo hi = lo + (hi - lo) / 2

module _ {t : List ℕ} {chars items : ℕ} (w : Indexed t chars items) {key : List ℕ} {lo hi : ℕ} (v : Halving (meaning_in t).items items key lo hi) (h : lo < hi)
    {i : Listed} (l : Lists t (half lo hi) i) {r : Bool} (is : r ≡ before (key_in t i.from) key) where
  inside : half lo hi < length (meaning_in t).items
  inside = omega (arith, v.inside, w.items-are)

  -- within one bucket the numbers decide
  mid : before (listed_key (meaning_in t).items (half lo hi)) (bucketed (meaning_in t).items key) ≡ r
  mid =
      let g = indexed-good w in
      let b : ℕ = bucket (length (meaning_in t).items) key in
      let low = bucket-from (meaning_in t) g b (half lo hi) (omega (arith, v.from_start)) inside in
      let high = bucket-before (meaning_in t) g (suc b) (half lo hi) (omega (arith, v.to-next)) inside in
      before-tail _ _ _ _ (omega arith) ∙ ap (λ (x : List ℕ). before x key) (sym (key-is l)) ∙ sym is

  pub halving-up : r ≡ true → Halving (meaning_in t).items items key (half lo hi + 1) hi
  halving-up y =
      record {
        ordered = omega arith;
        inside = v.inside;
        from_start = omega (arith, v.from_start);
        to-next = v.to-next;
        below = λ k b. lower k b;
        here = v.here;
      }
    where
      lower : (k : ℕ) → k < half lo hi + 1 → before (listed_key (meaning_in t).items k) (bucketed (meaning_in t).items key) ≡ true
      lower k b = elim (dec_lt k (half lo hi)) [
        | yes s ↦ before-trans (listed_key (meaning_in t).items k) (listed_key (meaning_in t).items (half lo hi)) (bucketed (meaning_in t).items key)
            (listed-rising (meaning_in t) (indexed-good w) k (half lo hi) s inside)
            (mid ∙ y)
        | no n ↦ let q : k ≡ half lo hi = omega arith in rw q (mid ∙ y)
      ]

  pub halving-down : r ≡ false → Halving (meaning_in t).items items key lo (half lo hi)
  halving-down y =
      record {
        ordered = omega arith;
        inside = omega (arith, v.inside);
        from_start = v.from_start;
        to-next = omega (arith, v.to-next);
        below = v.below;
        here = mid ∙ y;
      }
