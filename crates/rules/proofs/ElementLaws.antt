-- The elements of a string: the size and the place of a step, which item it takes, and what is left of the string after it.
use Rattle.std.specs.Prelude.{if◌then◌else◌}
use mathlib.Core.Path.{◌≡◌, refl, sym, ap, ◌∙◌}
use mathlib.Core.Bool.{Bool, true, not, ◌&&◌, false≢true}
use mathlib.Core.List.{List, [], ◌∷◌}
use Prim.Native.Nat.{ℕ, zero, suc, pred, ◌+◌, ◌≤◌, ◌<◌}
use native.Mathlib.Omega.{arith}
use native.Mathlib.Nat.{add-zero}
use native.Mathlib.Decide.{dec_lt}
use lib.ListN.{length, drop, get_or}
use lib.Dec.{leb, eqb, eqb-suc-zero}
use borrow.Author.Tests.{leb-true, le-leb, eqb-true, eq-eqb, not-true}
use Rattle.base_lists.proofs.Bools.{and_left, and_right, by, cond-true, cond-false}
use Rattle.base_lists.proofs.Lists.{All, drop-pred, length-zero}
use Rattle.rules.specs.Text.{one_of, same, begins}
use Rattle.rules.specs.Meaning.{Item, has_chars, no_two_alike}
use Rattle.rules.specs.Order.{no_item, Step, longest, undefined_from, step_of, elements}
use Rattle.rules.proofs.TextLaws.{same_refl, one_of-get_d}

-- k is from 1 to n
pub record UpTo (n k : ℕ) : Type 0 where
  pub least : 1 ≤ k
  pub most : k ≤ n

-- ## A step

matched : (i : Item) (s : List ℕ) (n : ℕ) → (begins i.chars s && leb n (length i.chars)) ≡ true
    → (begins i.chars s ≡ true) × (n ≤ length i.chars)
matched i s n e = (
  and_left (begins i.chars s) (leb n (length i.chars)) e,
  leb-true n (length i.chars) (and_right (begins i.chars s) (leb n (length i.chars)) e),
)

-- what holds of a step holds of the longest if each item that takes its place keeps it so
longest-keeps : (P : Step → Type 0) (n : ℕ) (is : List Item) (s : List ℕ) (best : Step) → P best
    → ((k : ℕ) (i : Item) (e : Step) → n ≤ k → k < n + length is → begins i.chars s ≡ true → e.size ≤ length i.chars → P e
    → P (record { place = k; size = length i.chars }))
    → P (longest n is s best)
unfolding longest
longest-keeps P n [] s best h f = h
longest-keeps P n (i ∷ is) s best h f =
    let t : Bool = begins i.chars s && leb best.size (length i.chars) in
    let found : Step = record { place = n; size = length i.chars } in
    let taken : t ≡ true → P found = λ e. let (b, l) = matched i s best.size e in f n i best (omega arith) (omega arith) b l h in
    longest-keeps P (suc n) is s (if t then found else best)
    (by t (λ e. rw (cond-true found best e) (taken e)) (λ e. rw (cond-false found best e) h))
    (λ k j e l m b g p. f k j e (omega arith) (omega arith) b g p)

begins-length : (p s : List ℕ) → begins p s ≡ true → length p ≤ length s
unfolding begins
begins-length [] s h = omega arith
begins-length (c ∷ p) [] h = absurd (false≢true h)
begins-length (c ∷ p) (d ∷ s) h = let l = begins-length p s (and_right (eqb c d) (begins p s) h) in omega arith

-- a step takes at least one character, and none that is not there
pub step-size : (is : List Item) (s : List ℕ) → 0 < length s → UpTo (length s) (step_of is s).size
unfolding step_of
step-size is [] h = absurd (omega arith)
step-size is (c ∷ s) h =
    longest-keeps (λ (e : Step). UpTo (length (c ∷ s)) e.size) 1 is (c ∷ s) (record { place = undefined_from 1 is; size = 1 })
    (record { least = omega arith; most = omega arith })
    (λ k i e l m b g p. record { least = omega arith; most = begins-length i.chars (c ∷ s) b })

same-nil : (cs : List ℕ) → same [] cs ≡ eqb (length cs) 0
unfolding same
same-nil [] = refl
same-nil (c ∷ cs) = sym (eqb-suc-zero (length cs))

undefined-place : (n : ℕ) (is : List Item) → one_of (has_chars []) is ≡ true → (n ≤ undefined_from n is) × (undefined_from n is < n + length is)
unfolding undefined_from one_of has_chars
undefined-place n [] h = absurd (false≢true h)
undefined-place n (i ∷ is) h =
    by (eqb (length i.chars) 0)
    (λ e. rw (cond-true n (undefined_from (suc n) is) e) (omega arith, omega arith))
    (λ e. let r = undefined-place (suc n) is (rw (same-nil i.chars, e) at h) in rw (cond-false n (undefined_from (suc n) is) e) (omega arith, omega arith))

-- a step's place is that of an item
pub step-place : (is : List Item) (s : List ℕ) → 0 < length s → one_of (has_chars []) is ≡ true → UpTo (length is) (step_of is s).place
unfolding step_of
step-place is [] h u = absurd (omega arith)
step-place is (c ∷ s) h u =
    let p = undefined-place 1 is u in
    longest-keeps (λ (e : Step). UpTo (length is) e.place) 1 is (c ∷ s) (record { place = undefined_from 1 is; size = 1 })
    (record { least = omega arith; most = omega arith })
    (λ k i e l m b g p. record { least = l; most = omega arith })

-- ## Which item it is

-- the characters of an item, its place counted from 0
abbrev pub chars_at : List Item → ℕ → List ℕ
chars_at is q = (get_or is q no_item).chars

-- none is as long
longest-none : (n : ℕ) (is : List Item) (s : List ℕ) (best : Step)
    → ((q : ℕ) → q < length is → begins (chars_at is q) s ≡ true → length (chars_at is q) < best.size) → longest n is s best ≡ best
unfolding longest
longest-none n [] s best f = refl
longest-none n (i ∷ is) s best f =
    let found : Step = record { place = n; size = length i.chars } in
    by (begins i.chars s && leb best.size (length i.chars))
    (λ e. let (b, l) = matched i s best.size e in let k = f 0 (omega arith) b in absurd (omega arith))
    (λ e. rw (cond-false found best e) (longest-none (suc n) is s best (λ q l b. f (suc q) (omega arith) b)))

-- none is longer, and none after it as long
longest-found : (n p : ℕ) (is : List Item) (s : List ℕ) (best : Step) → p < length is → begins (chars_at is p) s ≡ true
    → best.size ≤ length (chars_at is p)
    → ((q : ℕ) → q < length is → begins (chars_at is q) s ≡ true → length (chars_at is q) ≤ length (chars_at is p))
    → ((q : ℕ) → p < q → q < length is → begins (chars_at is q) s ≡ true → length (chars_at is q) < length (chars_at is p))
    → longest n is s best ≡ record { place = n + p; size = length (chars_at is p) }
unfolding longest
longest-found n p [] s best h b l f g = absurd (omega arith)
longest-found n zero (i ∷ is) s best h b l f g =
    let found : Step = record { place = n; size = length i.chars } in
    rw (b, le-leb best.size (length i.chars) l, add-zero)
    (longest-none (suc n) is s found (λ q m c. g (suc q) (omega arith) (omega arith) c))
longest-found n (suc p) (i ∷ is) s best h b l f g =
    let t : Bool = begins i.chars s && leb best.size (length i.chars) in
    let found : Step = record { place = n; size = length i.chars } in
    let taken : t ≡ true → length i.chars ≤ length (chars_at is p) = λ e. f 0 (omega arith) (matched i s best.size e).0 in
    let small : (if t then found else best).size ≤ length (chars_at is p) = by t (λ e. rw (cond-true found best e) (taken e)) (λ e. rw (cond-false found best e) l) in
    let e : suc n + p ≡ n + suc p = omega arith in
    rw (← e) (longest-found (suc n) p is s (if t then found else best) (omega arith) b small
    (λ q m c. f (suc q) (omega arith) c) (λ q k m c. g (suc q) (omega arith) (omega arith) c))

begins-unique : (p q s : List ℕ) → begins p s ≡ true → begins q s ≡ true → length p ≡ length q → p ≡ q
unfolding begins
begins-unique [] [] s h k e = refl
begins-unique [] (d ∷ q) s h k e = absurd (omega arith)
begins-unique (c ∷ p) [] s h k e = absurd (omega arith)
begins-unique (c ∷ p) (d ∷ q) [] h k e = absurd (false≢true h)
begins-unique (c ∷ p) (d ∷ q) (x ∷ s) h k e =
    let a = eqb-true c x (and_left (eqb c x) (begins p s) h) in
    let b = eqb-true d x (and_left (eqb d x) (begins q s) k) in
    let r = begins-unique p q s (and_right (eqb c x) (begins p s) h) (and_right (eqb d x) (begins q s) k) (omega arith) in
    cc

-- where no two items are alike, no two places have the same characters
pub chars_at-unique : (is : List Item) (p q : ℕ) → no_two_alike is ≡ true → p < q → q < length is → chars_at is p ≡ chars_at is q → ⊥
unfolding no_two_alike has_chars
chars_at-unique [] p q h l k e = omega arith
chars_at-unique (i ∷ is) p zero h l k e = omega arith
chars_at-unique (i ∷ is) zero (suc q) h l k e =
    let t = and_left (not (one_of (has_chars i.chars) is)) (no_two_alike is) h in
    let o = one_of-get_d (has_chars i.chars) is q no_item (omega arith) (rw (← e) (same_refl i.chars)) in
    false≢true (sym (not-true (one_of (has_chars i.chars) is) t) ∙ o)
chars_at-unique (i ∷ is) (suc p) (suc q) h l k e =
    chars_at-unique is p q (and_right (not (one_of (has_chars i.chars) is)) (no_two_alike is) h) (omega arith) (omega arith) e

-- "the longest matching listed item is taken"
pub step_is : (is : List Item) (s : List ℕ) (p : ℕ) → no_two_alike is ≡ true → p < length is → 1 ≤ length (chars_at is p)
    → begins (chars_at is p) s ≡ true
    → ((q : ℕ) → q < length is → begins (chars_at is q) s ≡ true → length (chars_at is q) ≤ length (chars_at is p))
    → step_of is s ≡ record { place = suc p; size = length (chars_at is p) }
unfolding step_of
step_is is [] p u h l b f = let k = begins-length (chars_at is p) [] b in absurd (omega arith)
step_is is (c ∷ s) p u h l b f =
    let e : suc p ≡ 1 + p = omega arith in
    rw e
    (longest-found 1 p is (c ∷ s) (record { place = undefined_from 1 is; size = 1 }) h b l f
    (λ q k m t. shorter q k m t (f q m t)))
  where
    shorter : (q : ℕ) → p < q → q < length is → begins (chars_at is q) (c ∷ s) ≡ true → length (chars_at is q) ≤ length (chars_at is p)
        → length (chars_at is q) < length (chars_at is p)
    shorter q k m t n =
        elim (dec_lt (length (chars_at is q)) (length (chars_at is p))) [
          | yes y ↦ y
          | no z ↦ absurd (chars_at-unique is p q u k m (begins-unique (chars_at is p) (chars_at is q) (c ∷ s) b t (omega arith)))
        ]

-- "else one character, as UNDEFINED"
pub step-undefined : (is : List Item) (s : List ℕ) → 0 < length s
    → ((q : ℕ) → q < length is → begins (chars_at is q) s ≡ true → length (chars_at is q) ≡ 0)
    → step_of is s ≡ record { place = undefined_from 1 is; size = 1 }
unfolding step_of
step-undefined is [] h f = absurd (omega arith)
step-undefined is (c ∷ s) h f =
    longest-none 1 is (c ∷ s) (record { place = undefined_from 1 is; size = 1 }) (λ q l b. let e = f q l b in omega arith)

-- the place of UNDEFINED is the only one with no characters
pub undefined-is : (n : ℕ) (is : List Item) (p : ℕ) → no_two_alike is ≡ true → p < length is → length (chars_at is p) ≡ 0
    → undefined_from n is ≡ n + p
unfolding undefined_from no_two_alike
undefined-is n [] p u h e = absurd (omega arith)
undefined-is n (i ∷ is) zero u h e = rw (eq-eqb (length i.chars) 0 e, add-zero)
undefined-is n (i ∷ is) (suc p) u h e =
    let empty : eqb (length i.chars) 0 ≡ true → i.chars ≡ chars_at is p = λ t. length-zero i.chars (eqb-true (length i.chars) 0 t) ∙ sym (length-zero (chars_at is p) e) in
    let k = undefined-is (suc n) is p (and_right (not (one_of (has_chars i.chars) is)) (no_two_alike is) u) (omega arith) e in
    by (eqb (length i.chars) 0)
    (λ t. absurd (chars_at-unique (i ∷ is) 0 (suc p) u (omega arith) h (empty t)))
    (λ t. rw (cond-false n (undefined_from (suc n) is) t) (omega arith))

-- ## Elements

-- characters of an element that is already counted are passed
pub elements-skip : (is : List Item) (k : ℕ) (s : List ℕ) → elements is k s ≡ elements is 0 (drop k s)
unfolding elements
elements-skip is zero [] = refl
elements-skip is (suc k) [] = refl
elements-skip is zero (c ∷ s) = refl
elements-skip is (suc k) (c ∷ s) = elements-skip is k s

-- the step's place, then the elements of what is left after it
pub elements-step : (is : List Item) (s : List ℕ) → 0 < length s
    → elements is 0 s ≡ (step_of is s).place ∷ elements is 0 (drop (step_of is s).size s)
unfolding elements
elements-step is [] h = absurd (omega arith)
elements-step is (c ∷ s) h =
    let e : Step = step_of is (c ∷ s) in
    ap (λ (ps : List ℕ). e.place ∷ ps) (elements-skip is (pred e.size) s ∙ ap (elements is 0) (drop-pred e.size c s (step-size is (c ∷ s) h).least))

pub elements-length : (is : List Item) (k : ℕ) (s : List ℕ) → length (elements is k s) ≤ length s
unfolding elements
elements-length is k [] = omega arith
elements-length is zero (c ∷ s) = let l = elements-length is (pred (step_of is (c ∷ s)).size) s in omega arith
elements-length is (suc k) (c ∷ s) = let l = elements-length is k s in omega arith

-- every element's place is that of an item
pub elements-place : (is : List Item) (k : ℕ) (s : List ℕ) → one_of (has_chars []) is ≡ true → All (UpTo (length is)) (elements is k s)
unfolding elements
elements-place is k [] u = tt
elements-place is zero (c ∷ s) u = (step-place is (c ∷ s) (omega arith) u, elements-place is (pred (step_of is (c ∷ s)).size) s u)
elements-place is (suc k) (c ∷ s) u = elements-place is k s u
