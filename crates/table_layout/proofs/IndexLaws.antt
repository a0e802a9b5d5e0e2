-- Where the listing, the starts and the items' numbers of an accepted table stand, and that the listing lists places of items.
use mathlib.Core.Path.{◌≡◌, refl, sym, ap, ◌∙◌}
use mathlib.Core.Bool.{true}
use mathlib.Core.List.{List, [], ◌∷◌, ◌++◌, append_assoc}
use Prim.Native.Nat.{ℕ, zero, suc, pred, ◌+◌, ◌-◌, ◌*◌, ◌≤◌, ◌<◌}
use native.Mathlib.Numerals.{sub-one}
use native.Mathlib.Omega.{arith}
use lib.ListN.{length, get_or, drop, get_or-append}
use lib.Seq.{drop-drop, drop_at, get_or-drop}
use lib.Bits.{bit_and}
use Rattle.rules.specs.Text.{within}
use Rattle.rules.specs.Meaning.{Item, Meaning}
use Rattle.rules.specs.Table.{pad, char_numbers, bucket, listing, starts, accepted, meaning_in}
use Rattle.rules.specs.Order.{no_item}
use Rattle.rules.proofs.TextLaws.{every-at, within_low, within-high}
use Rattle.rules.proofs.MeaningLaws.{Good}
use Rattle.rules.proofs.StorableLaws.{items-stored}
use Rattle.rules.proofs.SizeLaws.{chars-length, listing-length, starts-length}
use Rattle.rules.proofs.TableLaws.{chars-append}
use Rattle.rules.proofs.ListingLaws.{lists_all, lists-places, listing-lists}
use Rattle.table_layout.specs.Starts.{start_at}
use Rattle.table_layout.specs.Parts.{start_for, Indexed, listed_chars, Lists}
use Rattle.table_layout.proofs.StartLaws.{starts-at}
use Rattle.table_layout.proofs.PartLaws.{table-sizes, table-good, table-chars, table-mask}

-- ## The parts behind the characters

chars-drop : (is : List Item) (rest : List ℕ) → drop (4 * length is) (char_numbers is rest) ≡ rest
chars-drop is rest =
    rw (← chars-append is [] rest) (drop_at (char_numbers is []) rest (4 * length is) (omega (arith, chars-length is [])))

four-number : (is : List Item) (rest : List ℕ) (k i : ℕ) → k < length is → i < 4
    → get_or (char_numbers is rest) (4 * k + i) 0 ≡ get_or (get_or is k no_item).chars i pad
unfolding char_numbers
four-number [] rest k i h l = absurd (omega arith)
four-number (x ∷ is) rest zero zero h l = refl
four-number (x ∷ is) rest zero (suc zero) h l = refl
four-number (x ∷ is) rest zero (suc (suc zero)) h l = refl
four-number (x ∷ is) rest zero (suc (suc (suc zero))) h l = refl
four-number (x ∷ is) rest zero (suc (suc (suc (suc i)))) h l = absurd (omega arith)
four-number (x ∷ is) rest (suc k) i h l =
    let e : 4 * suc k + i ≡ suc (suc (suc (suc (4 * k + i)))) = omega arith in
    rw e (four-number is rest k i (omega arith) l)

start-append : (ss rest : List ℕ) (b : ℕ) → b < 2 * length ss → start_at (ss ++ rest) b ≡ start_at ss b
unfolding start_at
start-append [] rest b h = absurd (omega arith)
start-append (s ∷ ss) rest zero h = refl
start-append (s ∷ ss) rest (suc zero) h = refl
start-append (s ∷ ss) rest (suc (suc b)) h = start-append ss rest b (omega arith)

-- what stands behind the characters
listing-number : (is : List Item) (rest : List ℕ) {n : ℕ} → n ≡ length is → (k : ℕ) → k < length is
    → get_or (char_numbers is (listing is ++ starts is ++ rest)) (4 * n + k) 0 ≡ get_or (listing is) k 0
listing-number is rest e k h =
    let cs : List ℕ = char_numbers is (listing is ++ starts is ++ rest) in
    rw e
    (sym (get_or-drop (4 * length is) cs k 0) ∙ ap (λ (x : List ℕ). get_or x k 0) (chars-drop is (listing is ++ starts is ++ rest))
    ∙ ap (λ (x : List ℕ). get_or x k 0) (append_assoc (listing is) (starts is) rest)
    ∙ get_or-append (listing is) (starts is ++ rest) 0 k (omega (arith, listing-length is)))

-- and behind the listing
starts-drop : (is : List Item) (rest : List ℕ) {n : ℕ} → n ≡ length is
    → drop (5 * n) (char_numbers is (listing is ++ starts is ++ rest)) ≡ starts is ++ rest
starts-drop is rest {n} e =
    let f : 5 * n ≡ 4 * length is + length is = omega arith in
    rw f
    (sym (drop-drop (length is) (4 * length is) _)
    ∙ ap (drop (length is)) (chars-drop is (listing is ++ starts is ++ rest) ∙ append_assoc (listing is) (starts is) rest)
    ∙ drop_at (listing is) (starts is ++ rest) (length is) (listing-length is))

-- ## The listing lists places

module _ (m : Meaning) (g : Good m) where
  pub listing-passes : lists_all m.items (listing m.items) ≡ true
  listing-passes = listing-lists (length m.rules) m.items (items-stored (length m.rules) m.items g.items) g.apart

  -- what is listed is an item's place
  pub listed-place : (k : ℕ) → k < length m.items → within 1 (length m.items) (get_or (listing m.items) k 0) ≡ true
  listed-place k b =
      every-at (within 1 (length m.items)) (listing m.items) k 0 (lists-places m.items (listing m.items) listing-passes)
      (omega (arith, listing-length m.items))

-- ## In an accepted table

module _ {t : List ℕ} {chars items : ℕ} (w : Indexed t chars items) where
  pub indexed-good : Good (meaning_in t)
  indexed-good = table-good t w.checked

  pub indexed-sizes : (chars ≤ 262160) × (items ≤ 32768) × (chars + 6 * items ≤ length t)
  indexed-sizes =
      let s = table-sizes t w.checked refl refl in
      let a = w.chars-are in
      let b = w.items-are in
      (omega (arith, s.near), omega (arith, s.few-items), omega (arith, s.long))

  -- the characters, and what follows them
  chars-here : (rest : List ℕ) × (drop chars t ≡ char_numbers (meaning_in t).items (listing (meaning_in t).items ++ starts (meaning_in t).items ++ rest))
  chars-here = (_, ap (λ (x : ℕ). drop x t) w.chars-are ∙ table-chars t w.checked)

  pub start-here : (b : ℕ) → b < 2 * items → start_at (drop (chars + 5 * items) t) b ≡ start_for (meaning_in t).items b
  start-here b h =
      let is : List Item = (meaning_in t).items in
      let n = w.items-are in
      let c = chars-here in
      let d : drop (chars + 5 * items) t ≡ starts is ++ c.0 =
      sym (drop-drop (5 * items) chars t) ∙ ap (drop (5 * items)) c.1 ∙ starts-drop is c.0 n in
      rw d
      (start-append (starts is) c.0 b (omega (arith, starts-length is)) ∙ starts-at is indexed-good.few-items b (omega arith))

  pub place_here : (k : ℕ) → k < items → get_or t (chars + 4 * items + k) 0 ≡ get_or (listing (meaning_in t).items) k 0
  place_here k h =
      let c = chars-here in
      let e : chars + 4 * items + k ≡ chars + (4 * items + k) = omega arith in
      rw e
      (sym (get_or-drop chars t (4 * items + k) 0) ∙ ap (λ (x : List ℕ). get_or x (4 * items + k) 0) c.1
      ∙ listing-number (meaning_in t).items c.0 w.items-are k (omega (arith, w.items-are)))

  pub place-within : (k : ℕ) → k < items → (1 ≤ get_or t (chars + 4 * items + k) 0) × (get_or t (chars + 4 * items + k) 0 ≤ items)
  place-within k h =
      let n : ℕ = length (meaning_in t).items in
      let p : ℕ = get_or (listing (meaning_in t).items) k 0 in
      let l = listed-place (meaning_in t) indexed-good k (omega (arith, w.items-are)) in
      let low = within_low 1 n p l in
      let high = within-high 1 n p l in
      (omega (arith, place_here k h), omega (arith, place_here k h, w.items-are))

  numbers-here : (q i : ℕ) → q < items → i < 4 → get_or t (chars + 4 * q + i) 0 ≡ get_or (get_or (meaning_in t).items q no_item).chars i pad
  numbers-here q i h l =
      let c = chars-here in
      let e : chars + 4 * q + i ≡ chars + (4 * q + i) = omega arith in
      rw e
      (sym (get_or-drop chars t (4 * q + i) 0) ∙ ap (λ (x : List ℕ). get_or x (4 * q + i) 0) c.1
      ∙ four-number (meaning_in t).items _ q i (omega (arith, w.items-are)) l)

  -- ## item_at

  pub item-lists : (k : ℕ) {p : ℕ} → k < items → p ≡ get_or t (chars + 4 * items + k) 0 → Lists t k (record { place = p; from = chars + 4 * (p - 1) })
  unfolding listed_chars
  item-lists k {p} h e =
      let b = place-within k h in
      let s = indexed-sizes in
      let is = e ∙ place_here k h in
      record {
        is = is;
        room = omega (arith, s.2);
        numbers = λ i l.
            rw (sub-one p) (numbers-here (pred p) i (omega arith) l)
            ∙ ap (λ (x : ℕ). get_or (get_or (meaning_in t).items (pred x) no_item).chars i pad) is;
      }

-- ## bucket_in

pub bucket-is : (t : List ℕ) (c : ℕ) → accepted t ≡ true → bit_and c (get_or t 3 0) ≡ bucket (length (meaning_in t).items) (c ∷ [])
unfolding bucket
bucket-is t c h = ap (bit_and c) (table-mask t h)
