-- The numbers that store a good meaning fit 32 bits, and no two good meanings are stored alike.
use mathlib.Core.Path.{◌≡◌, refl, sym, ap, ◌∙◌}
use mathlib.Core.Bool.{Bool, true, false, not}
use mathlib.Core.List.{List, [], ◌∷◌, ◌++◌, map, flatten}
use Prim.Native.Nat.{ℕ, zero, suc, ◌+◌, ◌*◌, ◌≤◌, ◌<◌}
use native.Mathlib.Omega.{arith}
use lib.ListN.{length, get_or}
use lib.Dec.{leb, ltb}
use borrow.Author.Tests.{leb-true, lt-ltb}
use Rattle.base_lists.proofs.Bools.{and_left, and_right, and_intro, cond_both}
use Rattle.rules.specs.Text.{within, every}
use Rattle.rules.specs.Names.{is_character}
use Rattle.rules.specs.Meaning.{Rule, Item, Meaning, count_all, weight_count, good_weights, good_item, no_two_alike, good}
use Rattle.rules.specs.Table.{pad, rule_number, sums, counts, weight_lists, ends, char_numbers, mask, listing, item_buckets, below, starts_from, starts, weight_numbers, stored_form, meaning_in}
use Rattle.rules.proofs.TextLaws.{every-head, every-tail, every-both, every-mono}
use Rattle.rules.proofs.MeaningLaws.{item-parts, good-parts}
use Rattle.rules.proofs.StorableLaws.{items-stored}
use Rattle.rules.proofs.TableLaws.{stored_back}
use Rattle.rules.proofs.BucketLaws.{mask_fits}
use Rattle.rules.proofs.ListingLaws.{lists-places, listing-lists}

-- ## No two alike

-- the stored form determines the meaning
pub stored-unique : (m n : Meaning) (x y : List ℕ) → good m ≡ true → good n ≡ true → stored_form m x ≡ stored_form n y → m ≡ n
stored-unique m n x y g h e = sym (stored_back m x g) ∙ ap meaning_in e ∙ stored_back n y h

-- ## How many weights there are

pub good-count : (ws : List ℕ) → good_weights ws ≡ true → length ws ≤ 8
unfolding good_weights
good-count ws h = leb-true (length ws) 8 (and_left (leb (length ws) 8) (every (within 1 32768) ws) h)

pub good-range : (ws : List ℕ) → good_weights ws ≡ true → every (within 1 32768) ws ≡ true
unfolding good_weights
good-range ws h = and_right (leb (length ws) 8) (every (within 1 32768) ws) h

pub count_all-bound : (ls : List (List ℕ)) → every good_weights ls ≡ true → count_all ls ≤ 8 * length ls
unfolding count_all
count_all-bound [] h = omega arith
count_all-bound (ws ∷ ls) h =
    let a = good-count ws (every-head good_weights ws ls h) in
    let b = count_all-bound ls (every-tail good_weights ws ls h) in
    omega arith

pub weight_count-bound : (l : ℕ) (is : List Item) → l ≤ 8 → every (good_item l) is ≡ true → weight_count is ≤ 64 * length is
unfolding weight_count
weight_count-bound l [] b h = omega arith
weight_count-bound l (i ∷ is) b h =
    let g = item-parts l i (every-head (good_item l) i is h) in
    let a = count_all-bound i.weights g.weights in
    let e = g.levels in
    let c = weight_count-bound l is b (every-tail (good_item l) i is h) in
    omega arith

-- ## Each number fits

abbrev pub fits : ℕ → Bool
fits n = ltb n 4294967296

fit : (n : ℕ) → n < 4294967296 → fits n ≡ true
fit n h = lt-ltb n 4294967296 h

small-fits : (w : ℕ) → within 1 32768 w ≡ true → fits w ≡ true
small-fits w e = let b = leb-true w 32768 (and_right (leb 1 w) (leb w 32768) e) in fit w (omega arith)

level-fits : (ls : List (List ℕ)) → every good_weights ls ≡ true → every fits (flatten ls) ≡ true
unfolding flatten every
level-fits [] h = refl
level-fits (ws ∷ ls) h =
    every-both fits ws (flatten ls)
    (every-mono (within 1 32768) fits small-fits ws (good-range ws (every-head good_weights ws ls h)))
    (level-fits ls (every-tail good_weights ws ls h))

weights-fit : (l : ℕ) (is : List Item) (rest : List ℕ) → every (good_item l) is ≡ true → every fits rest ≡ true
    → every fits (weight_numbers is rest) ≡ true
unfolding weight_numbers
weights-fit l [] rest h k = k
weights-fit l (i ∷ is) rest h k =
    every-both fits (flatten i.weights) (weight_numbers is rest)
    (level-fits i.weights (item-parts l i (every-head (good_item l) i is h)).weights)
    (weights-fit l is rest (every-tail (good_item l) i is h) k)

char-fits : (c : ℕ) → is_character c ≡ true → fits c ≡ true
char-fits c h = let b = leb-true c 0x10FFFF (and_left (leb c 0x10FFFF) (not (within 0xD800 0xDFFF c)) h) in fit c (omega arith)

chars-fit : (cs : List ℕ) (k : ℕ) → every is_character cs ≡ true → fits (get_or cs k pad) ≡ true
chars-fit [] k h = refl
chars-fit (c ∷ cs) zero h = char-fits c (every-head is_character c cs h)
chars-fit (c ∷ cs) (suc k) h = chars-fit cs k (every-tail is_character c cs h)

items-fit : (l : ℕ) (is : List Item) (rest : List ℕ) → every (good_item l) is ≡ true → every fits rest ≡ true → every fits (char_numbers is rest) ≡ true
unfolding char_numbers every
items-fit l [] rest h k = k
items-fit l (i ∷ is) rest h k =
    let c = (item-parts l i (every-head (good_item l) i is h)).characters in
    and_intro (chars-fit i.chars 0 c)
    (and_intro (chars-fit i.chars 1 c)
    (and_intro (chars-fit i.chars 2 c)
    (and_intro (chars-fit i.chars 3 c) (items-fit l is rest (every-tail (good_item l) i is h) k))))

sums-fit : (at : ℕ) (ls : List (List ℕ)) → at + count_all ls < 4294967296 → every fits (sums at (counts ls)) ≡ true
unfolding sums every count_all
sums-fit at [] b = refl
sums-fit at (w ∷ ls) b = and_intro (fit (at + length w) (omega arith)) (sums-fit (at + length w) ls (omega arith))

count_all-append : (xs ys : List (List ℕ)) → count_all (xs ++ ys) ≡ count_all xs + count_all ys
unfolding count_all
count_all-append [] ys = omega arith
count_all-append (x ∷ xs) ys = omega (arith, count_all-append xs ys)

pub lists-count : (is : List Item) → count_all (weight_lists is) ≡ weight_count is
unfolding count_all weight_lists weight_count
lists-count [] = refl
lists-count (i ∷ is) = omega (arith, count_all-append i.weights (weight_lists is), lists-count is)

ends-fit : (is : List Item) → weight_count is < 4294967296 → every fits (ends is) ≡ true
unfolding ends
ends-fit is b = sums-fit 0 (weight_lists is) (omega (arith, lists-count is))

pub below-few : (b : ℕ) (qs : List ℕ) → below b qs ≤ length qs
unfolding below
below-few b [] = omega arith
below-few b (q ∷ qs) =
    let r = below-few b qs in
    cond_both (λ (n : ℕ). n + below b qs ≤ suc (length qs)) (ltb q b) (omega arith) (omega arith)

pub buckets-length : (i : ℕ) (is : List Item) → length (item_buckets i is) ≡ length is
unfolding item_buckets
buckets-length i [] = refl
buckets-length i (x ∷ is) = ap suc (buckets-length i is)

starts_from-fit : (n b : ℕ) (qs : List ℕ) → length qs ≤ 32768 → every fits (starts_from n b qs) ≡ true
unfolding starts_from every
starts_from-fit zero b qs h = refl
starts_from-fit (suc n) b qs h =
    and_intro (fit (below b qs + 65536 * below (suc b) qs) (omega (arith, below-few b qs, below-few (suc b) qs))) (starts_from-fit n (suc (suc b)) qs h)

starts_fit : (is : List Item) → length is ≤ 32768 → every fits (starts is) ≡ true
unfolding starts
starts_fit is h = starts_from-fit (length is) 0 (item_buckets (length is) is) (omega (arith, buckets-length (length is) is))

rule_fits : (b p : Bool) → fits (rule_number (record { backward = b; position = p })) ≡ true
unfolding rule_number
rule_fits true true = refl
rule_fits true false = refl
rule_fits false true = refl
rule_fits false false = refl

rules-fit : (rs : List Rule) → every fits (map rule_number rs) ≡ true
unfolding every
rules-fit [] = refl
rules-fit (r ∷ rs) = and_intro (rule_fits r.backward r.position) (rules-fit rs)

place-fits : (n p : ℕ) → n ≤ 32768 → within 1 n p ≡ true → fits p ≡ true
place-fits n p b h = let a = leb-true p n (and_right (leb 1 p) (leb p n) h) in fit p (omega arith)

listing-fit : (l : ℕ) (is : List Item) → every (good_item l) is ≡ true → no_two_alike is ≡ true → length is ≤ 32768 → every fits (listing is) ≡ true
listing-fit l is h d b =
    every-mono (within 1 (length is)) fits (λ p k. place-fits (length is) p b k) (listing is)
    (lists-places is (listing is) (listing-lists l is (items-stored l is h) d))

-- every number of the stored form of a good meaning is below 2^32
pub stored-fits : (m : Meaning) → good m ≡ true → every fits (stored_form m []) ≡ true
unfolding stored_form every
stored-fits m h =
    let g = good-parts m h in
    let l : ℕ = length m.rules in
    let is : List Item = m.items in
    let rs : List ℕ = map rule_number m.rules ++ weight_numbers is [] in
    let a = g.few-levels in
    let b = g.few-items in
    let w = weight_count-bound l is g.few-levels g.items in
    let few = mask_fits (length is) b in
    and_intro (fit l (omega arith))
    (and_intro (fit (length is) (omega arith))
    (and_intro (fit (weight_count is) (omega arith))
    (and_intro (fit (mask (length is)) (omega arith))
    (every-both fits (ends is) (char_numbers is (listing is ++ starts is ++ rs)) (ends-fit is (omega arith))
    (items-fit l is (listing is ++ starts is ++ rs) g.items
    (every-both fits (listing is ++ starts is) rs
    (every-both fits (listing is) (starts is) (listing-fit l is g.items g.apart b) (starts_fit is b))
    (every-both fits (map rule_number m.rules) (weight_numbers is []) (rules-fit m.rules) (weights-fit l is [] g.items refl))))))))
