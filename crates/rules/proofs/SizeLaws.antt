-- How long each part of a stored form is, and the whole: 16 + L + I x (6 + L) + W.
use mathlib.Core.Path.{◌≡◌, refl, ap, ◌∙◌}
use mathlib.Core.Bool.{true}
use mathlib.Core.List.{List, [], ◌∷◌, ◌++◌, map, flatten}
use Prim.Native.Nat.{ℕ, zero, suc, ◌+◌, ◌*◌}
use native.Mathlib.Omega.{arith}
use lib.ListN.{length, length-append, length-map}
use Rattle.rules.proofs.StorableLaws.{AllStored, meaning-stored}
use Rattle.rules.proofs.SortLaws.{sorted-length}
use Rattle.rules.specs.Meaning.{Item, Meaning, count_all, weight_count, size_of, good}
use Rattle.rules.specs.Table.{rule_number, weight_numbers, sums, counts, weight_lists, ends, char_numbers, place_of, sorted, keyed, listing, item_buckets, starts_from, starts, stored_form}

pub flatten-length : (ws : List (List ℕ)) → length (flatten ws) ≡ count_all ws
unfolding flatten count_all
flatten-length [] = refl
flatten-length (w ∷ ws) = omega (arith, length-append w (flatten ws), flatten-length ws)

pub weights-length : (is : List Item) (rest : List ℕ) → length (weight_numbers is rest) ≡ weight_count is + length rest
unfolding weight_numbers weight_count
weights-length [] rest = omega arith
weights-length (i ∷ is) rest =
    omega (arith, length-append (flatten i.weights) (weight_numbers is rest), flatten-length i.weights, weights-length is rest)

sums-length : (at : ℕ) (ns : List ℕ) → length (sums at ns) ≡ length ns
unfolding sums
sums-length at [] = refl
sums-length at (n ∷ ns) = ap suc (sums-length (at + n) ns)

-- as many ends as lists of weights
pub counts-length : (at : ℕ) (ws : List (List ℕ)) → length (sums at (counts ws)) ≡ length ws
counts-length at ws = sums-length at (counts ws) ∙ length-map ws length

pub lists_length : (l : ℕ) (is : List Item) → AllStored l is → length (weight_lists is) ≡ length is * l
unfolding weight_lists
lists_length l [] h = simp native.Mathlib.Nat.zero-mul refl
lists_length l (i ∷ is) h =
    let e : suc (length is) * l ≡ length is * l + l = native.Mathlib.Nat.suc-mul (length is) l in
    omega (arith, e, h.0.2, length-append i.weights (weight_lists is), lists_length l is h.1)

pub ends-length : (l : ℕ) (is : List Item) → AllStored l is → length (ends is) ≡ length is * l
unfolding ends
ends-length l is h = counts-length 0 (weight_lists is) ∙ lists_length l is h

pub chars-length : (is : List Item) (rest : List ℕ) → length (char_numbers is rest) ≡ 4 * length is + length rest
unfolding char_numbers
chars-length [] rest = omega arith
chars-length (i ∷ is) rest = omega (arith, chars-length is rest)

pub keyed-length : (i n : ℕ) (is : List Item) → length (keyed i n is) ≡ length is
unfolding keyed
keyed-length i n [] = refl
keyed-length i n (x ∷ xs) = ap suc (keyed-length i (suc n) xs)

pub listing-length : (is : List Item) → length (listing is) ≡ length is
unfolding listing
listing-length is = length-map (sorted (keyed (length is) 1 is)) place_of ∙ sorted-length (keyed (length is) 1 is) ∙ keyed-length (length is) 1 is

pub starts_from-length : (n b : ℕ) (qs : List ℕ) → length (starts_from n b qs) ≡ n
unfolding starts_from
starts_from-length zero b qs = refl
starts_from-length (suc n) b qs = ap suc (starts_from-length n (suc (suc b)) qs)

pub starts-length : (is : List Item) → length (starts is) ≡ length is
unfolding starts
starts-length is = starts_from-length (length is) 0 (item_buckets (length is) is)

-- "16 + L + I x (6 + L) + W numbers"
pub stored-size : (m : Meaning) (rest : List ℕ) → good m ≡ true → length (stored_form m rest) ≡ size_of m + length rest
unfolding stored_form size_of
stored-size m rest h =
    let l : ℕ = length m.rules in
    let i : ℕ = length m.items in
    let ws : List ℕ = weight_numbers m.items rest in
    let rs : List ℕ = map rule_number m.rules ++ ws in
    let ls : List ℕ = listing m.items ++ starts m.items in
    let e : i * (6 + l) ≡ i * 6 + i * l = native.Mathlib.Nat.mul-add i 6 l in
    omega (
      arith,
      e,
      length-append (ends m.items) (char_numbers m.items (ls ++ rs)),
      ends-length l m.items (meaning-stored m h),
      chars-length m.items (ls ++ rs),
      length-append ls rs,
      length-append (listing m.items) (starts m.items),
      listing-length m.items,
      starts-length m.items,
      length-append (map rule_number m.rules) ws,
      length-map m.rules rule_number,
      weights-length m.items rest,
    )
