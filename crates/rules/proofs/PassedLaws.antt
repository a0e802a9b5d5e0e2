-- A run that counts the entries it passes as equal finds the definition's sign and sum: what the two loops of a comparison need, over a
-- level's entries and over the levels.
use mathlib.Core.Path.{◌≡◌, refl}
use mathlib.Core.List.{List, [], ◌∷◌}
use Prim.Native.Nat.{ℕ, suc, ◌+◌}
use native.Mathlib.Omega.{arith}
use native.Mathlib.Nat.{zero-add, add-zero, add_assoc}
use Rattle.rules.specs.Meaning.{Meaning}
use Rattle.rules.specs.Order.{entry_lists, Entry, Sign, less, equal, greater, Answer, or_else, sign_entry, sign_list, onward, common, answer_from, compare_of}

-- ## One level

-- The sign, and how many entries were passed.
pub record Seen : Type 0 where
  pub sign : Sign
  pub agreed : ℕ

-- what a first pair of entries of this sign leaves, with n passed before it, and `later` from the pairs after it
abbrev pub further : Sign → ℕ → Seen → Seen
further less n later = record { sign = less; agreed = n }
further equal n later = later
further greater n later = record { sign = greater; agreed = n }

-- two lists of entries, n entries passed before them
unfoldable pub seen : List Entry → List Entry → ℕ → Seen
seen [] [] n = record { sign = equal; agreed = n }
seen [] (y ∷ ys) n = record { sign = less; agreed = n }
seen (x ∷ xs) [] n = record { sign = greater; agreed = n }
seen (x ∷ xs) (y ∷ ys) n =
    let later : Seen = seen xs ys (suc n) in
    further (sign_entry x y) n later

-- one turn: two entries that are equal are passed, two that are not decide, and so does an end
pub seen-passed : (x y : Entry) (xs ys : List Entry) (n : ℕ) → sign_entry x y ≡ equal → seen (x ∷ xs) (y ∷ ys) n ≡ seen xs ys (suc n)
unfolding seen
seen-passed x y xs ys n e = rw e

pub seen-less : (x y : Entry) (xs ys : List Entry) (n : ℕ) → sign_entry x y ≡ less
    → seen (x ∷ xs) (y ∷ ys) n ≡ record { sign = less; agreed = n }
unfolding seen
seen-less x y xs ys n e = rw e

pub seen-greater : (x y : Entry) (xs ys : List Entry) (n : ℕ) → sign_entry x y ≡ greater
    → seen (x ∷ xs) (y ∷ ys) n ≡ record { sign = greater; agreed = n }
unfolding seen
seen-greater x y xs ys n e = rw e

pub seen-ends : (n : ℕ) → seen [] [] n ≡ record { sign = equal; agreed = n }
unfolding seen
seen-ends n = refl

pub seen-ends-first : (y : Entry) (ys : List Entry) (n : ℕ) → seen [] (y ∷ ys) n ≡ record { sign = less; agreed = n }
unfolding seen
seen-ends-first y ys n = refl

pub seen-ends-second : (x : Entry) (xs : List Entry) (n : ℕ) → seen (x ∷ xs) [] n ≡ record { sign = greater; agreed = n }
unfolding seen
seen-ends-second x xs n = refl

-- the run over a level has the level's sign, and adds its common beginning
further-sign : (z w : Sign) (n : ℕ) (r : Seen) → r.sign ≡ w → (further z n r).sign ≡ or_else z w
further-sign less w n r e = refl
further-sign equal w n r e = e
further-sign greater w n r e = refl

pub seen-sign : (xs ys : List Entry) (n : ℕ) → (seen xs ys n).sign ≡ sign_list xs ys
unfolding seen sign_list
seen-sign [] [] n = refl
seen-sign [] (y ∷ ys) n = refl
seen-sign (x ∷ xs) [] n = refl
seen-sign (x ∷ xs) (y ∷ ys) n = further-sign (sign_entry x y) (sign_list xs ys) n (seen xs ys (suc n)) (seen-sign xs ys (suc n))

further-agreed : (z : Sign) (n c : ℕ) (r : Seen) → r.agreed ≡ suc n + c → (further z n r).agreed ≡ n + onward z c
further-agreed less n c r e = omega arith
further-agreed equal n c r e = omega arith
further-agreed greater n c r e = omega arith

pub seen-agreed : (xs ys : List Entry) (n : ℕ) → (seen xs ys n).agreed ≡ n + common xs ys
unfolding seen common
seen-agreed [] [] n = omega arith
seen-agreed [] (y ∷ ys) n = omega arith
seen-agreed (x ∷ xs) [] n = omega arith
seen-agreed (x ∷ xs) (y ∷ ys) n = further-agreed (sign_entry x y) n (common xs ys) (seen xs ys (suc n)) (seen-agreed xs ys (suc n))

-- ## Level after level

-- an answer, with n entries passed before it
abbrev pub with_passed : ℕ → Answer → Answer
with_passed n a = record { sign = a.sign; level = a.level; agreed = n + a.agreed }

-- the run begins at level 1 with none passed
pub starts : (m : Meaning) (a b : List ℕ) → compare_of m a b ≡ with_passed 0 (answer_from 1 (entry_lists m a) (entry_lists m b))
unfolding compare_of
starts m a b = rw zero-add

-- a level that decides ends it
pub decided-less : (k n : ℕ) (a b : List Entry) (as' bs : List (List Entry)) → sign_list a b ≡ less
    → with_passed n (answer_from k (a ∷ as') (b ∷ bs)) ≡ record { sign = less; level = k; agreed = n + common a b }
unfolding answer_from
decided-less k n a b as' bs e = rw e

pub decided-greater : (k n : ℕ) (a b : List Entry) (as' bs : List (List Entry)) → sign_list a b ≡ greater
    → with_passed n (answer_from k (a ∷ as') (b ∷ bs)) ≡ record { sign = greater; level = k; agreed = n + common a b }
unfolding answer_from
decided-greater k n a b as' bs e = rw e

-- a level that does not: the run goes on with the entries it passed
pub goes_on_lem : (k n : ℕ) (a b : List Entry) (as' bs : List (List Entry)) → sign_list a b ≡ equal
    → with_passed n (answer_from k (a ∷ as') (b ∷ bs)) ≡ with_passed (n + common a b) (answer_from (suc k) as' bs)
unfolding answer_from
goes_on_lem k n a b as' bs e = rw (e, add_assoc)

-- no level is left
pub ends-equal : (k n : ℕ) → with_passed n (answer_from k [] []) ≡ record { sign = equal; level = 0; agreed = n }
unfolding answer_from
ends-equal k n = rw add-zero
