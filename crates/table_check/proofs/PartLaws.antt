-- Each part of a table alone: what passes is stored again as it stands, and the keys that the check compares are those of the items.
use Rattle.std.proofs.Common.{◌≡◌, ℕ, zero, suc, ◌+◌, ◌-◌, ◌*◌, ◌≤◌, true, leb, List, [], ◌∷◌, map, length, get_or, take, drop, sym, refl, ap, ◌∙◌, suc-mul, zero-mul, arith, length-drop, take-append-drop, length-take-le, drop-drop, eq-eqb, eqb-true, le-leb, leb-true}
use lib.Dec.{leb-zero}
use Rattle.base_lists.proofs.Bools.{and_left, and_right, and_intro, by}
use Rattle.base_lists.proofs.Lists.{length-zero}
use Rattle.rules.specs.Text.{within, every}
use Rattle.rules.specs.Meaning.{Item, item, weight_count, good_weights, good_item}
use Rattle.rules.specs.Table.{unpadded, counts, sums, gaps, weight_lists, char_numbers, items_at}
use Rattle.rules.proofs.TextLaws.{every-head, every-tail, every-both}
use Rattle.rules.proofs.MeaningLaws.{item-parts, item-whole}
use Rattle.rules.proofs.StorableLaws.{AllStored}
use Rattle.rules.proofs.WidthLaws as width
use Rattle.table_layout.specs.Starts.{bucket_in}
use Rattle.table_check.specs.Checks.{ends_pass, chars_pass, all_chars, rises_in, listing_in}
use Rattle.table_check.proofs.ItemLaws.{total, unpadded-characters, unpadded-short, padded-passes, chars-whole, total-counts}
use Rattle.rules.proofs.ListingLaws.{rises_after, rises, lists_all}
use Rattle.table_layout.proofs.ToldLaws.{bucket_at, listing_passes}
use Rattle.table_layout.proofs.KeyedLaws.{bucket-in, key_in_lem}

-- ## Ends

-- What ends say that pass.
pub record Ended (w at : ℕ) (es : List ℕ) : Type 0 where
  pub again : sums at (gaps at es) ≡ es
  pub few : every (within 0 8) (gaps at es) ≡ true
  pub all : at + total (gaps at es) ≡ w

pub ends-passed : (w at : ℕ) (es : List ℕ) → ends_pass w at es ≡ true → Ended w at es
unfolding ends_pass sums gaps total every
ends-passed w at [] h = let e = eqb-true at w h in record { again = refl; few = refl; all = omega arith }
ends-passed w at (e ∷ es) h =
    let a = and_left (within at (at + 8) e) (ends_pass w e es) h in
    let low = leb-true at e (and_left (leb at e) (leb e (at + 8)) a) in
    let high = leb-true e (at + 8) (and_right (leb at e) (leb e (at + 8)) a) in
    let r = ends-passed w e es (and_right (within at (at + 8) e) (ends_pass w e es) h) in
    let up : at + (e - at) ≡ e = omega arith in
    record {
      again = rw up (ap (λ (x : List ℕ). e ∷ x) r.again);
      few = and_intro (and_intro (leb-zero (e - at)) (le-leb (e - at) 8 (omega arith))) r.few;
      all = omega (arith, r.all);
    }

pub gaps-length : (at : ℕ) (es : List ℕ) → length (gaps at es) ≡ length es
unfolding gaps
gaps-length at [] = refl
gaps-length at (e ∷ es) = ap suc (gaps-length e es)

pub sums-pass : (w at : ℕ) (ns : List ℕ) → every (within 0 8) ns ≡ true → at + total ns ≡ w → ends_pass w at (sums at ns) ≡ true
unfolding ends_pass sums total
sums-pass w at [] h e = eq-eqb at w (omega arith)
sums-pass w at (n ∷ ns) h e =
    let b = leb-true n 8 (and_right (leb 0 n) (leb n 8) (every-head (within 0 8) n ns h)) in
    and_intro (and_intro (le-leb at (at + n) (omega arith)) (le-leb (at + n) (at + 8) (omega arith)))
    (sums-pass w (at + n) ns (every-tail (within 0 8) n ns h) (omega arith))

-- ## Items

pub items-length : (i l : ℕ) (cs : List ℕ) (ws : List (List ℕ)) → length (items_at i l cs ws) ≡ i
unfolding items_at
items-length zero l cs ws = refl
items-length (suc i) l cs ws = ap suc (items-length i l (drop 4 cs) (drop l ws))

-- the lists of weights for i more items
more-lists : (i l : ℕ) (ws : List (List ℕ)) → length ws ≡ suc i * l → (l ≤ length ws) × (length (drop l ws) ≡ i * l)
more-lists i l ws h = let e = suc-mul i l in (omega arith, simp length-drop (omega arith))

pub lists-again : (i l : ℕ) (cs : List ℕ) (ws : List (List ℕ)) → length ws ≡ i * l → weight_lists (items_at i l cs ws) ≡ ws
unfolding weight_lists items_at
lists-again zero l cs ws h = sym (length-zero ws (h ∙ zero-mul l))
lists-again (suc i) l cs ws h = rw (lists-again i l (drop 4 cs) (drop l ws) (more-lists i l ws h).1) (take-append-drop l ws)

pub chars-again : (i l : ℕ) (cs : List ℕ) (ws : List (List ℕ)) → all_chars i cs ≡ true → 4 * i ≤ length cs
    → char_numbers (items_at i l cs ws) (drop (4 * i) cs) ≡ cs
unfolding char_numbers items_at all_chars
chars-again zero l cs ws h b = refl
chars-again (suc i) l cs ws h b =
    let e : 4 + 4 * i ≡ 4 * suc i = omega arith in
    let d : drop (4 * suc i) cs ≡ drop (4 * i) (drop 4 cs) = rw (← e) (sym (drop-drop (4 * i) 4 cs)) in
    let r = chars-again i l (drop 4 cs) (drop l ws) (and_right (chars_pass (take 4 cs)) (all_chars i (drop 4 cs)) h) (simp length-drop (omega arith)) in
    rw (d, r) (chars-whole cs (omega arith) (and_left (chars_pass (take 4 cs)) (all_chars i (drop 4 cs)) h))

good-front : (l : ℕ) (ws : List (List ℕ)) → every good_weights ws ≡ true → (every good_weights (take l ws) ≡ true) × (every good_weights (drop l ws) ≡ true)
unfolding every
good-front zero ws h = (refl, h)
good-front (suc l) [] h = (refl, refl)
good-front (suc l) (w ∷ ws) h =
    let r = good-front l ws (every-tail good_weights w ws h) in
    (and_intro (every-head good_weights w ws h) r.0, r.1)

pub items-good : (i l : ℕ) (cs : List ℕ) (ws : List (List ℕ)) → all_chars i cs ≡ true → 4 * i ≤ length cs → length ws ≡ i * l → every good_weights ws ≡ true
    → every (good_item l) (items_at i l cs ws) ≡ true
unfolding items_at all_chars every
items-good zero l cs ws h b n g = refl
items-good (suc i) l cs ws h b n g =
    let c = and_left (chars_pass (take 4 cs)) (all_chars i (drop 4 cs)) h in
    let m = more-lists i l ws n in
    let f = good-front l ws g in
    and_intro
    (item-whole l (item (unpadded (take 4 cs)) (take l ws)) (record {
      short = omega (arith, unpadded-short (take 4 cs), length-take-le 4 cs (omega arith));
      characters = unpadded-characters (take 4 cs) c;
      levels = length-take-le l ws m.0;
      weights = f.0;
    }))
    (items-good i l (drop 4 cs) (drop l ws) (and_right (chars_pass (take 4 cs)) (all_chars i (drop 4 cs)) h) (simp length-drop (omega arith)) m.1 f.1)

pub lists-count : (is : List Item) → total (counts (weight_lists is)) ≡ weight_count is
lists-count is = total-counts (weight_lists is) ∙ width.lists-count is

pub chars-pass : (l : ℕ) (is : List Item) (rest : List ℕ) → every (good_item l) is ≡ true → all_chars (length is) (char_numbers is rest) ≡ true
unfolding all_chars char_numbers
chars-pass l [] rest h = refl
chars-pass l (i ∷ is) rest h =
    let g = item-parts l i (every-head (good_item l) i is h) in
    and_intro (padded-passes i.chars g.short g.characters) (chars-pass l is rest (every-tail (good_item l) i is h))

pub lists-good : (l : ℕ) (is : List Item) → every (good_item l) is ≡ true → every good_weights (weight_lists is) ≡ true
unfolding weight_lists every
lists-good l [] h = refl
lists-good l (i ∷ is) h =
    every-both good_weights i.weights (weight_lists is) (item-parts l i (every-head (good_item l) i is h)).weights (lists-good l is (every-tail (good_item l) i is h))

-- ## Keys

module _ (l : ℕ) (is : List Item) (rest : List ℕ) (s : AllStored l is) where
  rises-in : (p : ℕ) (qs : List ℕ) → within 1 (length is) p ≡ true → every (within 1 (length is)) qs ≡ true
      → rises_in (length is) (char_numbers is rest) p qs ≡ rises_after is p qs
  unfolding rises_in rises_after
  rises-in p [] h k = refl
  rises-in p (q ∷ qs) h k =
      let w = every-head (within 1 (length is)) q qs k in
      rw (key_in_lem l is rest s p h, key_in_lem l is rest s q w, rises-in q qs w (every-tail (within 1 (length is)) q qs k))

  rises-all : (ps : List ℕ) → every (within 1 (length is)) ps ≡ true → rises_in (length is) (char_numbers is rest) (get_or ps 0 0) (drop 1 ps) ≡ rises is ps
  unfolding rises rises_in
  rises-all [] h = refl
  rises-all (p ∷ ps) h = rises-in p ps (every-head (within 1 (length is)) p ps h) (every-tail (within 1 (length is)) p ps h)

  buckets-in : (ps : List ℕ) → every (within 1 (length is)) ps ≡ true → map (bucket_in (length is) (char_numbers is rest)) ps ≡ map (bucket_at is) ps
  buckets-in [] h = refl
  buckets-in (p ∷ ps) h = rw ((bucket-in l is rest s p (every-head (within 1 (length is)) p ps h)).1, buckets-in ps (every-tail (within 1 (length is)) p ps h))

  -- the check compares the keys of the items
  pub listing-in : (ps ss : List ℕ) → length ps ≡ length is → listing_in (length is) (char_numbers is rest) ps ss ≡ listing_passes is ps ss
  unfolding listing_in listing_passes lists_all
  listing-in ps ss e =
      by (every (within 1 (length is)) ps)
      (λ t. rw (t, eq-eqb (length ps) (length is) e, rises-all ps t, buckets-in ps t))
      (λ t. rw (t, eq-eqb (length ps) (length is) e))
