-- Laws of the tests on lists and of refusals (specs/Text).
use mathlib.Core.Path.{◌≡◌, refl, sym, ap, ◌∙◌}
use mathlib.Core.Bool.{Bool, true, false, ◌&&◌, ◌||◌, false≢true, or-true}
use mathlib.Core.List.{List, [], ◌∷◌, ◌++◌, map, reverse, reverse_aux}
use Prim.Native.Nat.{ℕ, zero, suc, ◌≤◌, ◌<◌}
use native.Mathlib.Omega.{arith}
use lib.ListN.{length, get_or, drop}
use lib.Dec.{eqb, leb, ltb}
use borrow.Author.Tests.{eq-eqb, eqb-true, leb-true, le-leb}
use Rattle.base_lists.proofs.Bools.{and_left, and_right, and_intro, or-false-left, or-false-right, by, clash}
use Rattle.rules.specs.Text.{within, every, one_of, same, begins, ◌unless◌, lower, lowest}

-- ## every, one_of

pub every_append : {A : Type 0} (p : A → Bool) (xs ys : List A) → every p (xs ++ ys) ≡ (every p xs && every p ys)
unfolding every
every_append p [] ys = refl
every_append p (x ∷ xs) ys = rw (every_append p xs ys) (sym (mathlib.Core.Bool.and_assoc (p x) (every p xs) (every p ys)))

pub every-head : {A : Type 0} (p : A → Bool) (x : A) (xs : List A) → every p (x ∷ xs) ≡ true → p x ≡ true
unfolding every
every-head p x xs h = and_left (p x) (every p xs) h

pub every-tail : {A : Type 0} (p : A → Bool) (x : A) (xs : List A) → every p (x ∷ xs) ≡ true → every p xs ≡ true
unfolding every
every-tail p x xs h = and_right (p x) (every p xs) h

pub every-both : {A : Type 0} (p : A → Bool) (xs ys : List A) → every p xs ≡ true → every p ys ≡ true → every p (xs ++ ys) ≡ true
every-both p xs ys h k = every_append p xs ys ∙ and_intro h k

-- what follows from a test that each passes
pub every-mono : {A : Type 0} (p q : A → Bool) → ((x : A) → p x ≡ true → q x ≡ true) → (xs : List A) → every p xs ≡ true → every q xs ≡ true
unfolding every
every-mono p q f [] h = refl
every-mono p q f (x ∷ xs) h = and_intro (f x (every-head p x xs h)) (every-mono p q f xs (every-tail p x xs h))

pub every-cons : {A : Type 0} (p : A → Bool) (x : A) (xs : List A) → p x ≡ true → every p xs ≡ true → every p (x ∷ xs) ≡ true
unfolding every
every-cons p x xs h k = and_intro h k

pub every-get_d : {A : Type 0} (p : A → Bool) (xs : List A) (k : ℕ) (d : A) → p d ≡ true → every p xs ≡ true → p (get_or xs k d) ≡ true
every-get_d p [] k d h e = h
every-get_d p (x ∷ xs) zero d h e = every-head p x xs e
every-get_d p (x ∷ xs) (suc k) d h e = every-get_d p xs k d h (every-tail p x xs e)

-- each that stands in the list passes
pub every-at : {A : Type 0} (p : A → Bool) (xs : List A) (k : ℕ) (d : A) → every p xs ≡ true → k < length xs → p (get_or xs k d) ≡ true
every-at p [] k d e h = absurd (omega arith)
every-at p (x ∷ xs) zero d e h = every-head p x xs e
every-at p (x ∷ xs) (suc k) d e h = every-at p xs k d (every-tail p x xs e) (omega arith)

pub every_map : {A B : Type 0} (p : B → Bool) (f : A → B) (xs : List A) → ((x : A) → p (f x) ≡ true) → every p (map f xs) ≡ true
unfolding every
every_map p f [] h = refl
every_map p f (x ∷ xs) h = and_intro (h x) (every_map p f xs h)

every-reverse_aux : {A : Type 0} (p : A → Bool) (xs ys : List A) → every p xs ≡ true → every p ys ≡ true → every p (reverse_aux xs ys) ≡ true
every-reverse_aux p [] ys h k = k
every-reverse_aux p (x ∷ xs) ys h k = every-reverse_aux p xs (x ∷ ys) (every-tail p x xs h) (every-cons p x ys (every-head p x xs h) k)

pub every-reverse : {A : Type 0} (p : A → Bool) (xs : List A) → every p xs ≡ true → every p (reverse xs) ≡ true
unfolding every
every-reverse p xs h = every-reverse_aux p xs [] h refl

pub one_of-head-false : {A : Type 0} (p : A → Bool) (x : A) (xs : List A) → one_of p (x ∷ xs) ≡ false → p x ≡ false
unfolding one_of
one_of-head-false p x xs h = or-false-left (p x) (one_of p xs) h

pub one_of-tail-false : {A : Type 0} (p : A → Bool) (x : A) (xs : List A) → one_of p (x ∷ xs) ≡ false → one_of p xs ≡ false
unfolding one_of
one_of-tail-false p x xs h = or-false-right (p x) (one_of p xs) h

pub one_of-append : {A : Type 0} (p : A → Bool) (xs ys : List A) → one_of p (xs ++ ys) ≡ (one_of p xs || one_of p ys)
unfolding one_of
one_of-append p [] ys = refl
one_of-append p (x ∷ xs) ys = rw (one_of-append p xs ys) (sym (mathlib.Core.Bool.or_assoc (p x) (one_of p xs) (one_of p ys)))

pub one_of-get_d : {A : Type 0} (p : A → Bool) (xs : List A) (k : ℕ) (d : A) → k < length xs → p (get_or xs k d) ≡ true → one_of p xs ≡ true
unfolding one_of
one_of-get_d p [] k d l h = absurd (omega arith)
one_of-get_d p (x ∷ xs) zero d l h = rw h
one_of-get_d p (x ∷ xs) (suc k) d l h = rw (one_of-get_d p xs k d (omega arith) h) (or-true (p x))

-- ## same, begins

pub same_true : (xs ys : List ℕ) → same xs ys ≡ true → xs ≡ ys
unfolding same
same_true [] [] h = refl
same_true [] (y ∷ ys) h = absurd (false≢true h)
same_true (x ∷ xs) [] h = absurd (false≢true h)
same_true (x ∷ xs) (y ∷ ys) h =
    let e = eqb-true x y (and_left (eqb x y) (same xs ys) h) in
    let r = same_true xs ys (and_right (eqb x y) (same xs ys) h) in
    cc

pub same_refl : (xs : List ℕ) → same xs xs ≡ true
unfolding same
same_refl [] = refl
same_refl (x ∷ xs) = rw (eq-eqb x x refl) (same_refl xs)

pub same-swap-false : (xs ys : List ℕ) → same xs ys ≡ false → same ys xs ≡ false
same-swap-false xs ys h = by (same ys xs) (λ t. clash (rw (same_true ys xs t) (same_refl xs)) h) (λ t. t)

pub begins-append : (p s : List ℕ) → begins p (p ++ s) ≡ true
unfolding begins
begins-append [] s = refl
begins-append (c ∷ p) s = rw (eq-eqb c c refl) (begins-append p s)

pub begins-split : (p s : List ℕ) → begins p s ≡ true → s ≡ p ++ drop (length p) s
unfolding begins
begins-split [] s h = refl
begins-split (c ∷ p) [] h = absurd (false≢true h)
begins-split (c ∷ p) (d ∷ s) h =
    let e = eqb-true c d (and_left (eqb c d) (begins p s) h) in
    rw e (ap (λ (x : List ℕ). d ∷ x) (begins-split p s (and_right (eqb c d) (begins p s) h)))

-- ## Refusals: none of several is none of each

pub unless-none : (n : ℕ) (t : Bool) → 0 < n → (n unless t) ≡ 0 → t ≡ true
unless-none n true h e = refl
unless-none n false h e = absurd (omega arith)

-- the lower of two is none only where both are
pub lower-none : (a b : ℕ) → lower a b ≡ 0 → (a ≡ 0) × (b ≡ 0)
unfolding lower
lower-none a b e = by (eqb a 0) (λ t. (eqb-true a 0 t, sym (rw t at (sym e)))) (λ t.
    by (eqb b 0) (λ u. (rw (t, u) at e, eqb-true b 0 u)) (λ u.
    by (ltb a b) (λ v. let z : a ≡ 0 = rw (t, u, v) at e in (z, absurd (false≢true (sym t ∙ eq-eqb a 0 z))))
    (λ v. let z : b ≡ 0 = rw (t, u, v) at e in (absurd (false≢true (sym u ∙ eq-eqb b 0 z)), z))))

-- the lowest of several is none only where the first is, and the lowest of the others
pub lowest-none : (r : ℕ) (rs : List ℕ) → lowest (r ∷ rs) ≡ 0 → (r ≡ 0) × (lowest rs ≡ 0)
unfolding lowest
lowest-none r rs e = lower-none r (lowest rs) e

-- of a test's refusal among several, the test holds
pub lowest-unless : (n : ℕ) (t : Bool) (rs : List ℕ) → 0 < n → lowest ((n unless t) ∷ rs) ≡ 0 → (t ≡ true) × (lowest rs ≡ 0)
lowest-unless n t rs h e =
    let p = lowest-none (n unless t) rs e in
    (unless-none n t h p.0, p.1)

-- ## within

pub within_low : (a b n : ℕ) → within a b n ≡ true → a ≤ n
within_low a b n h = leb-true a n (and_left (leb a n) (leb n b) h)

pub within-high : (a b n : ℕ) → within a b n ≡ true → n ≤ b
within-high a b n h = leb-true n b (and_right (leb a n) (leb n b) h)

pub within-intro : (a b n : ℕ) → a ≤ n → n ≤ b → within a b n ≡ true
within-intro a b n h k = and_intro (le-leb a n h) (le-leb n b k)
