-- No two items are alike exactly where the keys are apart by which they are listed.
use mathlib.Core.Path.{◌≡◌, refl, sym, ap, ◌∙◌, subst}
use mathlib.Core.Logic.{◌⊎◌, inl, inr}
use mathlib.Core.Bool.{true, false, not, false≢true}
use mathlib.Core.List.{List, [], ◌∷◌}
use Prim.Native.Nat.{ℕ, suc, ◌<◌}
use native.Mathlib.Omega.{arith}
use native.Mathlib.Decide.{dec_lt}
use lib.ListN.{length, take, drop}
use borrow.Author.Tests.{not-true}
use Rattle.rules.specs.Text.{same, one_of}
use Rattle.rules.specs.Meaning.{Item, has_chars, no_two_alike}
use Rattle.rules.specs.Table.{placed, before, unpadded, list_key, keyed}
use Rattle.base_lists.proofs.Bools.{by, and_left, and_right, and_intro, not-intro, or-false-left, or-false-right, or-false-intro}
use Rattle.rules.proofs.TextLaws.{same_true, same_refl}
use Rattle.rules.proofs.StorableLaws.{chars-back, Stored, AllStored}
use Rattle.rules.proofs.SortLaws.{before-irrefl, before-less, before-rest, Apart, AllApart}

-- two keys of one length are equal, or one is before the other
tri-keys : (xs ys : List ℕ) → length xs ≡ length ys → (xs ≡ ys) ⊎ ((before xs ys ≡ true) ⊎ (before ys xs ≡ true))
tri-keys [] [] e = inl refl
tri-keys [] (y ∷ ys) e = absurd (omega arith)
tri-keys (x ∷ xs) [] e = absurd (omega arith)
tri-keys (x ∷ xs) (y ∷ ys) e = go (tri-keys xs ys (omega arith)) (dec_lt x y) (dec_lt y x)
  where
    go : (xs ≡ ys) ⊎ ((before xs ys ≡ true) ⊎ (before ys xs ≡ true)) → Dec (x < y) → Dec (y < x)
        → (x ∷ xs ≡ y ∷ ys) ⊎ ((before (x ∷ xs) (y ∷ ys) ≡ true) ⊎ (before (y ∷ ys) (x ∷ xs) ≡ true))
    go r (yes h) k = inr (inl (before-less x y xs ys h))
    go r (no h) (yes k) = inr (inr (before-less y x ys xs k))
    go (inl r) (no h) (no k) = let e : x ≡ y = omega arith in inl (cc)
    go (inr (inl r)) (no h) (no k) = inr (inl (before-rest x y xs ys (omega arith) r))
    go (inr (inr r)) (no h) (no k) = inr (inr (before-rest y x ys xs (omega arith) r))

-- one key is before the other
abbrev Differ : ℕ → List ℕ → List ℕ → Type 0
Differ i cs ds = (before (list_key i cs) (list_key i ds) ≡ true) ⊎ (before (list_key i ds) (list_key i cs) ≡ true)

key-inj : (i l : ℕ) (x y : Item) → Stored l x → Stored l y → list_key i x.chars ≡ list_key i y.chars → x.chars ≡ y.chars
key-inj i l x y h k e =
    sym (chars-back x.chars [] h.0 h.1) ∙ ap (λ (z : List ℕ). unpadded (take 4 (drop 1 z))) e ∙ chars-back y.chars [] k.0 k.1

apart-differ : (i : ℕ) (cs ds : List ℕ) → Differ i cs ds → same cs ds ≡ false
apart-differ i cs ds a = by (same cs ds) (λ t. absurd (clash (same_true cs ds t) a)) (λ t. t)
  where
    clash : cs ≡ ds → Differ i cs ds → ⊥
    clash e (inl x) = before-irrefl (list_key i cs) (subst (λ (d : List ℕ). before (list_key i cs) (list_key i d) ≡ true) (sym e) x)
    clash e (inr x) = before-irrefl (list_key i cs) (subst (λ (d : List ℕ). before (list_key i d) (list_key i cs) ≡ true) (sym e) x)

differ-apart : (i l : ℕ) (x y : Item) → Stored l x → Stored l y → same x.chars y.chars ≡ false → Differ i x.chars y.chars
differ-apart i l x y h k e = go (tri-keys (list_key i x.chars) (list_key i y.chars) refl)
  where
    go : (list_key i x.chars ≡ list_key i y.chars) ⊎ Differ i x.chars y.chars → Differ i x.chars y.chars
    go (inl q) = absurd (false≢true (sym e ∙ subst (λ (d : List ℕ). same x.chars d ≡ true) (key-inj i l x y h k q) (same_refl x.chars)))
    go (inr r) = r

apart-listed : (i n m : ℕ) (x : Item) (is : List Item) → Apart (placed n (list_key i x.chars)) (keyed i m is) → one_of (has_chars x.chars) is ≡ false
unfolding one_of has_chars keyed
apart-listed i n m x [] h = refl
apart-listed i n m x (y ∷ is) h = or-false-intro (apart-differ i x.chars y.chars h.0) (apart-listed i n (suc m) x is h.1)

listed-apart : (i l n m : ℕ) (x : Item) (is : List Item) → Stored l x → AllStored l is → one_of (has_chars x.chars) is ≡ false
    → Apart (placed n (list_key i x.chars)) (keyed i m is)
unfolding one_of has_chars keyed
listed-apart i l n m x [] h k e = tt
listed-apart i l n m x (y ∷ is) h k e = (
  differ-apart i l x y h k.0 (or-false-left (same x.chars y.chars) (one_of (has_chars x.chars) is) e),
  listed-apart i l n (suc m) x is h k.1 (or-false-right (same x.chars y.chars) (one_of (has_chars x.chars) is) e),
)

pub apart-alike : (i n : ℕ) (is : List Item) → AllApart (keyed i n is) → no_two_alike is ≡ true
unfolding no_two_alike keyed
apart-alike i n [] h = refl
apart-alike i n (x ∷ is) h = and_intro (not-intro (apart-listed i n (suc n) x is h.0)) (apart-alike i (suc n) is h.1)

pub alike-apart : (i l n : ℕ) (is : List Item) → AllStored l is → no_two_alike is ≡ true → AllApart (keyed i n is)
unfolding no_two_alike keyed
alike-apart i l n [] k h = tt
alike-apart i l n (x ∷ is) k h = (
  listed-apart i l n (suc n) x is k.0 k.1 (not-true (one_of (has_chars x.chars) is) (and_left (not (one_of (has_chars x.chars) is)) (no_two_alike is) h)),
  alike-apart i l (suc n) is k.1 (and_right (not (one_of (has_chars x.chars) is)) (no_two_alike is) h),
)
