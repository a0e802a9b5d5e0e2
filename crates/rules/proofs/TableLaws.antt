-- What stores a good meaning is read back as that meaning, whatever follows it; and exactly what stores one is accepted.
use mathlib.Core.Path.{◌≡◌, refl, sym, ◌∙◌}
use mathlib.Core.Bool.{Bool, true, ◌&&◌}
use mathlib.Core.List.{List, [], ◌∷◌, ◌++◌, map, flatten, append_assoc}
use Prim.Native.Nat.{ℕ, ◌+◌, ◌-◌, ◌*◌}
use native.Mathlib.Omega.{arith}
use lib.ListN.{length, get_or, drop, length-append}
use lib.Seq.{take_at, drop_at}
use lib.Dec.{leb}
use borrow.Author.Tests.{le-leb}
use Rattle.base_lists.proofs.Bools.{and_left, and_right}
use Rattle.rules.proofs.TextLaws.{begins-append, begins-split}
use Rattle.rules.proofs.MeaningLaws.{good-parts}
use Rattle.rules.proofs.StorableLaws.{rules-back, rules-drop, cut-back, chars-back, AllStored, meaning-stored, weights-append}
use Rattle.rules.proofs.SizeLaws.{ends-length, chars-length, listing-length, starts-length}
use Rattle.rules.specs.Text.{begins}
use Rattle.rules.specs.Meaning.{Item, Meaning, good}
use Rattle.rules.specs.Table.{counts, weight_numbers, rule_number, cut_by, sums, weight_lists, ends, char_numbers, listing, starts, stored_form, gaps, items_at, meaning_in, accepted}

-- ## Reading back

gaps-back : (at : ℕ) (ns : List ℕ) → gaps at (sums at ns) ≡ ns
unfolding gaps sums
gaps-back at [] = refl
gaps-back at (n ∷ ns) =
    let e : (at + n) - at ≡ n = omega arith in
    rw (e, gaps-back (at + n) ns)

flatten-append : (xs ys : List (List ℕ)) → flatten (xs ++ ys) ≡ flatten xs ++ flatten ys
unfolding flatten
flatten-append [] ys = refl
flatten-append (x ∷ xs) ys = rw (flatten-append xs ys, append_assoc x (flatten xs) (flatten ys))

pub lists-flat : (is : List Item) (rest : List ℕ) → weight_numbers is rest ≡ flatten (weight_lists is) ++ rest
unfolding weight_numbers weight_lists flatten
lists-flat [] rest = refl
lists-flat (i ∷ is) rest =
    rw (
      lists-flat is rest,
      flatten-append i.weights (weight_lists is),
      append_assoc (flatten i.weights) (flatten (weight_lists is)) rest,
    )

lists_back : (is : List Item) (rest : List ℕ) → cut_by (counts (weight_lists is)) (weight_numbers is rest) ≡ weight_lists is
lists_back is rest = rw (lists-flat is rest) (cut-back (weight_lists is) rest)

items_back : (l : ℕ) (is : List Item) (rest : List ℕ) → AllStored l is → items_at (length is) l (char_numbers is rest) (weight_lists is) ≡ is
unfolding items_at char_numbers weight_lists
items_back l [] rest h = refl
items_back l (i ∷ is) rest h =
    rw (
      chars-back i.chars (char_numbers is rest) h.0.0 h.0.1,
      take_at i.weights (weight_lists is) l h.0.2,
      drop_at i.weights (weight_lists is) l h.0.2,
      items_back l is rest h.1,
    )

pub chars-append : (is : List Item) (x y : List ℕ) → char_numbers is x ++ y ≡ char_numbers is (x ++ y)
unfolding char_numbers
chars-append [] x y = refl
chars-append (i ∷ is) x y = rw (chars-append is x y)

-- characters, listing and starts together are six numbers for each item
pub parts-drop : (is : List Item) (more : List ℕ) → drop (6 * length is) (char_numbers is (listing is ++ starts is ++ more)) ≡ more
parts-drop is more =
    let front : List ℕ = char_numbers is (listing is ++ starts is) in
    let n : length front ≡ 6 * length is =
    omega (arith, chars-length is (listing is ++ starts is), length-append (listing is) (starts is), listing-length is, starts-length is) in
    let e : char_numbers is (listing is ++ starts is ++ more) ≡ front ++ more =
    sym (chars-append is (listing is ++ starts is) more) in
    rw e (drop_at front more (6 * length is) n)

stored-read : (m : Meaning) (rest : List ℕ) → AllStored (length m.rules) m.items → meaning_in (stored_form m rest) ≡ m
unfolding meaning_in stored_form ends
stored-read m rest h =
    let l : ℕ = length m.rules in
    let is : List Item = m.items in
    let ws : List ℕ = weight_numbers is rest in
    let rs : List ℕ = map rule_number m.rules ++ ws in
    let cs : List ℕ = char_numbers is (listing is ++ starts is ++ rs) in
    let n : length (ends is) ≡ length is * l = ends-length l is h in
    rw (
      take_at (ends is) cs (length is * l) n,
      drop_at (ends is) cs (length is * l) n,
      gaps-back 0 (counts (weight_lists is)),
      parts-drop is rs,
      rules-back m.rules ws,
      rules-drop m.rules ws,
      lists_back is rest,
      items_back l is (listing is ++ starts is ++ rs) h,
    )

-- What stores a good meaning is read back as it, whatever numbers follow: no two good meanings have a stored form in common.
pub stored_back : (m : Meaning) (rest : List ℕ) → good m ≡ true → meaning_in (stored_form m rest) ≡ m
stored_back m rest h = stored-read m rest (meaning-stored m h)

-- ## Accepted exactly where a good meaning is stored

pub stored-append : (m : Meaning) (x y : List ℕ) → stored_form m x ++ y ≡ stored_form m (x ++ y)
unfolding stored_form
stored-append m x y =
    let is : List Item = m.items in
    let ws : List ℕ = weight_numbers is x in
    let rs : List ℕ = map rule_number m.rules ++ ws in
    let ls : List ℕ = listing is ++ starts is in
    rw (
      append_assoc (ends is) (char_numbers is (ls ++ rs)) y,
      chars-append is (ls ++ rs) y,
      append_assoc ls rs y,
      append_assoc (map rule_number m.rules) ws y,
      weights-append is x y,
    )

pub accepted-stored : (t : List ℕ) → accepted t ≡ true → (good (meaning_in t) ≡ true) × (t ≡ stored_form (meaning_in t) (drop (length (stored_form (meaning_in t) [])) t))
unfolding accepted
accepted-stored t h =
    let m : Meaning = meaning_in t in
    let a : Bool = leb (get_or t 0 0) 8 && leb (get_or t 1 0) 32768 in (
      and_right a (good m) (and_left (a && good m) (begins (stored_form m []) t) h),
      begins-split (stored_form m []) t (and_right (a && good m) (begins (stored_form m []) t) h)
          ∙ stored-append m [] (drop (length (stored_form m [])) t),
    )

head-levels : (m : Meaning) (rest : List ℕ) → get_or (stored_form m rest) 0 0 ≡ length m.rules
unfolding stored_form
head-levels m rest = refl

head-items : (m : Meaning) (rest : List ℕ) → get_or (stored_form m rest) 1 0 ≡ length m.items
unfolding stored_form
head-items m rest = refl

pub stored-accepted : (m : Meaning) (rest : List ℕ) → good m ≡ true → accepted (stored_form m rest) ≡ true
unfolding accepted
stored-accepted m rest h =
    let begun : begins (stored_form m []) (stored_form m rest) ≡ true = rw (← stored-append m [] rest) (begins-append (stored_form m []) rest) in
    let g = good-parts m h in
    rw (
      stored_back m rest h,
      head-levels m rest,
      head-items m rest,
      le-leb (length m.rules) 8 g.few-levels,
      le-leb (length m.items) 32768 g.few-items,
      h,
    )
    begun
