-- Keys: the comparison of an item's four numbers with a key, the key of a string's beginning, and how much an item shares with a string.
use mathlib.Core.Path.{◌≡◌, sym, ◌∙◌}
use mathlib.Core.Bool.{and-false, or-false}
use mathlib.Core.List.{List, [], ◌∷◌}
use Prim.Native.Nat.{ℕ, ◌+◌, ◌≤◌, ◌<◌}
use native.Mathlib.Omega.{arith}
use native.Mathlib.Nat.{min-le_left}
use lib.ListN.{length, get_or, take, drop, length-take, get_or-eq_default}
use lib.Seq.{get_or-take, get_or-drop}
use lib.Dec.{ltb, eqb}
use borrow.Author.Tests.{ne_eqb}
use Rattle.base_lists.proofs.Places.{get_d_default}
use Rattle.rules.specs.Table.{pad, before}
use Rattle.order_find.specs.declared.Key.{Key}
use Rattle.order_find.specs.Search.{numbers_of, key_in, Shares}
use Rattle.order_find.proofs.BeginningLaws.{before-tail}

-- ## before_key

before_differs : (x y : ℕ) (xs ys : List ℕ) → (x ≡ y → ⊥) → ltb x y ≡ before (x ∷ xs) (y ∷ ys)
unfolding before
before_differs x y xs ys h = rw (ne_eqb x y h, or-false (ltb x y))

module _ (t : List ℕ) (at : ℕ) (key : Key) where
  pub first-decides : (get_or t at 0 ≡ key.a → ⊥) → ltb (get_or t at 0) key.a ≡ before (key_in t at) (numbers_of key)
  first-decides h = before_differs (get_or t at 0) key.a _ _ h

  module _ (la : get_or t at 0 ≡ key.a) where
    first : before (key_in t at) (numbers_of key)
        ≡ before (get_or t (at + 1) 0 ∷ get_or t (at + 2) 0 ∷ get_or t (at + 3) 0 ∷ []) (key.b ∷ key.c ∷ key.d ∷ [])
    first = before-tail (get_or t at 0) key.a _ _ la

    pub second-decides : (get_or t (at + 1) 0 ≡ key.b → ⊥) → ltb (get_or t (at + 1) 0) key.b ≡ before (key_in t at) (numbers_of key)
    second-decides h = before_differs (get_or t (at + 1) 0) key.b _ _ h ∙ sym first

    module _ (lb : get_or t (at + 1) 0 ≡ key.b) where
      second : before (key_in t at) (numbers_of key) ≡ before (get_or t (at + 2) 0 ∷ get_or t (at + 3) 0 ∷ []) (key.c ∷ key.d ∷ [])
      second = first ∙ before-tail (get_or t (at + 1) 0) key.b _ _ lb

      pub third-decides : (get_or t (at + 2) 0 ≡ key.c → ⊥) → ltb (get_or t (at + 2) 0) key.c ≡ before (key_in t at) (numbers_of key)
      third-decides h = before_differs (get_or t (at + 2) 0) key.c _ _ h ∙ sym second

      pub fourth-decides : get_or t (at + 2) 0 ≡ key.c → ltb (get_or t (at + 3) 0) key.d ≡ before (key_in t at) (numbers_of key)
      unfolding before
      fourth-decides lc =
          let x : ℕ = get_or t (at + 3) 0 in
          sym
          (second
          ∙ before-tail (get_or t (at + 2) 0) key.c (x ∷ []) (key.d ∷ []) lc
          ∙ rw (and-false (eqb x key.d), or-false (ltb x key.d)))

-- ## number, key_at

pub number-inside : (s : List ℕ) (at size i : ℕ) → i < size → at + size ≤ length s → get_or s (at + i) 0 ≡ get_or (take size (drop at s)) i pad
number-inside s at size i h k =
    sym
    (get_or-take size (drop at s) i pad h ∙ get_or-drop at s i pad ∙ get_d_default s (at + i) pad 0 (omega arith))

pub number_past : (s : List ℕ) (at size i : ℕ) → size ≤ i → pad ≡ get_or (take size (drop at s)) i pad
number_past s at size i h =
    let l : length (take size (drop at s)) ≤ i = rw (length-take size (drop at s)) (let m = min-le_left size (length (drop at s)) in omega arith) in
    sym (get_or-eq_default (take size (drop at s)) pad l)

-- ## shared

-- The first n numbers are the same.
abbrev pub Sharing : List ℕ → ℕ → List ℕ → ℕ → ℕ → Type 0
Sharing t a s b n = (i : ℕ) → i < n → get_or t (a + i) 0 ≡ get_or s (b + i) 0

module _ {t : List ℕ} {a : ℕ} {s : List ℕ} {b : ℕ} where
  pub shares-some : {size n : ℕ} → Sharing t a s b n → n < size → (get_or t (a + n) 0 ≡ get_or s (b + n) 0 → ⊥) → Shares t a s b size n
  shares-some v h f = record { within = omega arith; same = v; stop = λ l. f }

  pub shares-all : {size n : ℕ} → Sharing t a s b n → size ≤ n → Shares t a s b size size
  shares-all v h = record { within = omega arith; same = λ i l. v i (omega arith); stop = λ l. absurd (omega arith) }
