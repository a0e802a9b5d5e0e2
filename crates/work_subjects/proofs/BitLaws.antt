-- Keys and their bits: 256 bits tell the eight numbers of a key, and the numbers tell the key among those of its kind.
use mathlib.Core.Path.{◌≡◌, refl, sym, ap, ◌∙◌, subst}
use mathlib.Core.Bool.{true}
use mathlib.Core.List.{List, [], ◌∷◌}
use Prim.Native.Nat.{ℕ, zero, suc, ◌+◌, ◌*◌, ◌/◌, ◌%◌, ◌^◌, ◌≤◌, ◌<◌}
use native.Mathlib.Numerals.{add-one}
use native.Mathlib.Omega.{arith}
use lib.ListN.{length, get_or, set, replicate, length-set, length-replicate, get_or-replicate, get_or-eq_default}
use lib.Seq.{ext_get_or, get_or-set_same, get_or-set_other}
use lib.Dec.{eqb, leb, ltb}
use borrow.Author.Tests.{eqb-true, eqb-false, leb-true, ltb-true, ltb-false}
use Rattle.base_lists.proofs.Bools.{by, and_left, and_right, clash}
use Rattle.rules.specs.Text.{every}
use Rattle.rules.proofs.TextLaws.{every-head, every-tail}
use Rattle.rules.specs.State.{character, named, undefined}
use Rattle.text_names.specs.Packed.{packed}
use Rattle.work_subjects.specs.Keys.{Key, item, chars}
use Rattle.work_subjects.specs.Numbers.{kind_of, width_of, squeezed, is_code, is_declarable, with_codes, numbers_of, bit_of}
use Rattle.work_subjects.proofs.SqueezeLaws.{digits_same, pinched-small, squeezed-at, squeezed-long, squeezed-past, squeezed-apart}

-- ## Numbers are told by their bits

-- Eight numbers of 32 bits.
record Words (xs : List ℕ) : Type 0 where
  pub long : length xs ≡ 8
  pub small : (i : ℕ) → i < 8 → get_or xs i 0 < 4294967296

-- lists of numbers with the same 256 bits are the same
words_same : (a b : List ℕ) → Words a → Words b
    → ((n : ℕ) → n < 256 → get_or a (n / 32) 0 / 2 ^ (n % 32) % 2 ≡ get_or b (n / 32) 0 / 2 ^ (n % 32) % 2) → a ≡ b
words_same a b v w r =
    ext_get_or 0 a b (v.long ∙ sym w.long) (λ i l. let h : i < 8 = omega (arith, l, v.long) in
    digits_same 2 32 (omega arith) (get_or a i 0) (get_or b i 0) (v.small i h) (w.small i h) (bits i h))
  where
    bits : (i : ℕ) → i < 8 → (j : ℕ) → j < 32 → get_or a i 0 / 2 ^ j % 2 ≡ get_or b i 0 / 2 ^ j % 2
    bits i h j l =
        let e : (32 * i + j) / 32 ≡ i = omega (arith, l) in
        let f : (32 * i + j) % 32 ≡ j = omega (arith, l) in
        subst (λ (m : ℕ). get_or a i 0 / 2 ^ m % 2 ≡ get_or b i 0 / 2 ^ m % 2) f
        (subst (λ (m : ℕ). get_or a m 0 / 2 ^ ((32 * i + j) % 32) % 2 ≡ get_or b m 0 / 2 ^ ((32 * i + j) % 32) % 2) e
        (r (32 * i + j) (omega (arith, l, h))))

-- ## The numbers of what can be declared

zero-words : Words (replicate 8 0)
zero-words = record { long = length-replicate {A = ℕ} 8 0; small = λ i h. let e = get_or-replicate {A = ℕ} 8 i 0 0 h in omega (arith, e) }

set_words : (xs : List ℕ) (n x : ℕ) → Words xs → x < 4294967296 → Words (set xs n x)
set_words xs n x w h = record {
  long = length-set xs n x ∙ w.long;
  small = λ i l. by (eqb i n)
      (λ t. let e = eqb-true i n t in let z = get_or-set_same xs i x 0 (omega (arith, l, w.long)) in
      let y : get_or (set xs n x) i 0 ≡ x = ap (λ (m : ℕ). get_or (set xs m x) i 0) (sym e) ∙ z in omega (arith, y, h))
      (λ t. let e = get_or-set_other xs n i x 0 (eqb-false i n t) in let s = w.small i l in omega (arith, e, s));
}

codes-words : (xs : List ℕ) (n : ℕ) (cs : List ℕ) → Words xs → every is_code cs ≡ true → Words (with_codes xs n cs)
unfolding with_codes
codes-words xs n [] w h = w
codes-words xs n (c ∷ cs) w h = let l = ltb-true c 1114112 (every-head is_code c cs h) in
    codes-words (set xs n (c + 1)) (suc n) cs (set_words xs n (c + 1) w (omega (arith, l))) (every-tail is_code c cs h)

squeezed-words : (xs : List ℕ) → Words (squeezed xs)
squeezed-words xs = record {
  long = squeezed-long xs;
  small = λ i l. by (ltb i 7) (λ t. let e = squeezed-at xs i (ltb-true i 7 t) in let s = pinched-small xs i in omega (arith, e, s))
      (λ t. let e = squeezed-past xs i (ltb-false i 7 t) in omega (arith, e));
}

key-words : (k : Key) → is_declarable k ≡ true → Words (numbers_of k)
unfolding is_declarable numbers_of
key-words (item (character c)) h = let l = ltb-true c 1114112 h in set_words (replicate 8 0) 0 (2 * c + 2) zero-words (omega (arith, l))
key-words (item (named n)) h = squeezed-words (packed n)
key-words (item undefined) h = zero-words
key-words (chars cs) h = codes-words (replicate 8 0) 0 cs zero-words (and_right (leb (length cs) 4) (every is_code cs) h)

pub numbers-long : (k : Key) → is_declarable k ≡ true → length (numbers_of k) ≡ 8
numbers-long k h = (key-words k h).long

zero-past : (i : ℕ) → get_or {A = ℕ} (replicate 8 0) i 0 ≡ 0
zero-past i =
    by (ltb i 8) (λ t. get_or-replicate {A = ℕ} 8 i 0 0 (ltb-true i 8 t))
    (λ t. get_or-eq_default {A = ℕ} (replicate 8 0) 0 {n = i} (let l = ltb-false i 8 t in omega (arith, l, length-replicate {A = ℕ} 8 0)))

codes-past : (xs : List ℕ) (n : ℕ) (cs : List ℕ) (i : ℕ) → n + length cs ≤ i → get_or (with_codes xs n cs) i 0 ≡ get_or xs i 0
unfolding with_codes
codes-past xs n [] i h = refl
codes-past xs n (c ∷ cs) i h =
    codes-past (set xs n (c + 1)) (suc n) cs i (omega (arith, h)) ∙ get_or-set_other xs n i (c + 1) 0 (λ e. omega (arith, e, h))

-- behind the numbers that a key of its kind has, there is 0
pub numbers-past : (k : Key) → is_declarable k ≡ true → (i : ℕ) → width_of (kind_of k) ≤ i → get_or (numbers_of k) i 0 ≡ 0
unfolding is_declarable numbers_of kind_of width_of
numbers-past (item (character c)) h i l = get_or-set_other (replicate 8 0) 0 i (2 * c + 2) 0 (λ e. omega (arith, e, l)) ∙ zero-past i
numbers-past (item (named n)) h i l = squeezed-past (packed n) i l
numbers-past (item undefined) h i l = zero-past i
numbers-past (chars cs) h i l =
    let s = leb-true (length cs) 4 (and_left (leb (length cs) 4) (every is_code cs) h) in
    codes-past (replicate 8 0) 0 cs i (omega (arith, s, l)) ∙ zero-past i

-- keys with the same 256 bits have the same numbers
pub bits-numbers : (a b : Key) → is_declarable a ≡ true → is_declarable b ≡ true → ((n : ℕ) → n < 256 → bit_of a n ≡ bit_of b n) → numbers_of a ≡ numbers_of b
unfolding bit_of
bits-numbers a b h i r = words_same (numbers_of a) (numbers_of b) (key-words a h) (key-words b i) r

-- ## The numbers tell the key, of its kind

pub kind-low : (k : Key) → is_declarable k ≡ true → kind_of k < 3
unfolding kind_of is_declarable
kind-low (item (character c)) h = omega arith
kind-low (item (named n)) h = omega arith
kind-low (item undefined) h = clash h refl
kind-low (chars cs) h = omega arith

pub kind-few : (k : Key) → kind_of k ≤ 3
unfolding kind_of
kind-few (item (character c)) = omega arith
kind-few (item (named n)) = omega arith
kind-few (item undefined) = omega arith
kind-few (chars cs) = omega arith

-- the codes that numbers tell: each is one more than a code, 0 where there is none
codes_in : List ℕ → List ℕ
codes_in [] = []
codes_in (zero ∷ xs) = []
codes_in (suc c ∷ xs) = c ∷ codes_in xs

codes-back : (cs : List ℕ) → length cs ≤ 4 → codes_in (with_codes (replicate 8 0) 0 cs) ≡ cs
unfolding with_codes codes_in
codes-back [] h = refl
codes-back (a ∷ []) h = rw add-one
codes-back (a ∷ b ∷ []) h = rw (add-one a, add-one b)
codes-back (a ∷ b ∷ c ∷ []) h = rw (add-one a, add-one b, add-one c)
codes-back (a ∷ b ∷ c ∷ d ∷ []) h = rw (add-one a, add-one b, add-one c, add-one d)
codes-back (a ∷ b ∷ c ∷ d ∷ e ∷ cs) h = absurd (omega (arith, h))

pub numbers_apart : (a b : Key) → is_declarable a ≡ true → is_declarable b ≡ true → kind_of a ≡ kind_of b → numbers_of a ≡ numbers_of b → a ≡ b
unfolding kind_of is_declarable numbers_of
numbers_apart (item (character c)) (item (character d)) h i k e =
    let x : 2 * c + 2 ≡ 2 * d + 2 = ap (λ (xs : List ℕ). get_or xs 0 0) e in
    let y : c ≡ d = omega (arith, x) in
    ap (λ (z : ℕ). item (character z)) y
numbers_apart (item (character c)) (item (named n)) h i k e = absurd (omega (arith, k))
numbers_apart (item (character c)) (item undefined) h i k e = clash i refl
numbers_apart (item (character c)) (chars ds) h i k e = absurd (omega (arith, k))
numbers_apart (item (named m)) (item (character d)) h i k e = absurd (omega (arith, k))
numbers_apart (item (named m)) (item (named n)) h i k e = ap (λ (x : List ℕ). item (named x)) (squeezed-apart m n h i e)
numbers_apart (item (named m)) (item undefined) h i k e = clash i refl
numbers_apart (item (named m)) (chars ds) h i k e = absurd (omega (arith, k))
numbers_apart (item undefined) b h i k e = clash h refl
numbers_apart (chars cs) (item (character d)) h i k e = absurd (omega (arith, k))
numbers_apart (chars cs) (item (named n)) h i k e = absurd (omega (arith, k))
numbers_apart (chars cs) (item undefined) h i k e = clash i refl
numbers_apart (chars cs) (chars ds) h i k e =
    ap chars (sym (codes-back cs (leb-true (length cs) 4 (and_left (leb (length cs) 4) (every is_code cs) h)))
    ∙ ap codes_in e ∙ codes-back ds (leb-true (length ds) 4 (and_left (leb (length ds) 4) (every is_code ds) i)))
