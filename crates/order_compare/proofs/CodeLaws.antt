-- Comparing two strings code point by code point.
use mathlib.Core.Path.{◌≡◌, refl, sym, ap, ◌∙◌}
use mathlib.Core.List.{List, [], ◌∷◌}
use Prim.Native.Nat.{ℕ, suc, min, ◌+◌, ◌≤◌, ◌<◌}
use native.Mathlib.Numerals.{add-one}
use native.Mathlib.Omega.{arith}
use lib.ListN.{length, get_or, drop, drop_of_length-le}
use lib.Seq.{drop-cons}
use borrow.Author.Tests.{lt-ltb, le-ltb, eq-eqb, ne_eqb}
use Rattle.std.specs.Ordering.{nat_cmp}
use Rattle.rules.specs.Order.{Entry, equal, sign_ℕ, sign_entry, codes}
use Rattle.rules.proofs.SignLaws.{Tri, tri, below, same, above, sign_ℕ-same}
use Rattle.rules.proofs.PassedLaws.{seen, seen-passed, seen-less, seen-greater, seen-ends, seen-ends-first, seen-ends-second}
use Rattle.base_units.specs.Numbers.{sign_of}
use Rattle.std.specs.declared.cmp.Ordering.{Ordering}
use Rattle.std.specs.declared.cmp.Ordering.TheVariants.{Less, Equal, Greater}
use Rattle.order_compare.specs.Strings.{CodesCompared}

-- ## Two strings

-- a character as an entry
abbrev code : List ℕ → ℕ → Entry
code s i = record { count = 0; weight = get_or s i 0 }

codes-cons : (s : List ℕ) (i : ℕ) → i < length s → codes (drop i s) ≡ code s i ∷ codes (drop (suc i) s)
unfolding codes
codes-cons s i h = rw (drop-cons s i 0 h)

codes-end : (s : List ℕ) (i : ℕ) → length s ≤ i → codes (drop i s) ≡ []
unfolding codes
codes-end s i h = rw (drop_of_length-le s h)

-- without counts the weights decide
code-sign : (a b : List ℕ) (i : ℕ) → sign_entry (code a i) (code b i) ≡ sign_ℕ (get_or a i 0) (get_or b i 0)
unfolding sign_entry
code-sign a b i = let z : sign_ℕ 0 0 ≡ equal = sign_ℕ-same refl in rw z

-- i characters were passed as equal, and those after them decide
pub record Coding (a b : List ℕ) (i : ℕ) : Type 0 where
  pub first : i ≤ length a
  pub second : i ≤ length b
  pub few : length a ≤ 4096
  pub same : seen (codes (drop i a)) (codes (drop i b)) i ≡ seen (codes a) (codes b) 0

pub coding-none : (a b : List ℕ) → length a ≤ 4096 → Coding a b 0
coding-none a b h = record { first = omega arith; second = omega arith; few = h; same = refl }

module _ {a b : List ℕ} {i : ℕ} (v : Coding a b i) where
  -- an answer with a sign of one's own
  told : (s : Ordering) → record { sign = sign_of s; agreed = i } ≡ seen (codes (drop i a)) (codes (drop i b)) i
      → CodesCompared a b (record { sign = s; agreed = i })
  told s e = record { is = e ∙ v.same; small = omega (arith, v.first, v.few) }

  module _ (h : i < length a) (k : i < length b) where
    -- the next two characters, of this sign
    both : seen (codes (drop i a)) (codes (drop i b)) i ≡ seen (code a i ∷ codes (drop (suc i) a)) (code b i ∷ codes (drop (suc i) b)) i
    both = rw (codes-cons a i h, codes-cons b i k)

    codes-less : {s : Ordering} → sign_of s ≡ sign_ℕ (get_or a i 0) (get_or b i 0) → s ≡ Less → CodesCompared a b (record { sign = Less; agreed = i })
    codes-less e z =
        told Less
        (sym (both ∙ seen-less (code a i) (code b i) (codes (drop (suc i) a)) (codes (drop (suc i) b)) i (code-sign a b i ∙ sym e ∙ ap sign_of z)))

    codes-greater : {s : Ordering} → sign_of s ≡ sign_ℕ (get_or a i 0) (get_or b i 0) → s ≡ Greater → CodesCompared a b (record { sign = Greater; agreed = i })
    codes-greater e z =
        told Greater
        (sym (both ∙ seen-greater (code a i) (code b i) (codes (drop (suc i) a)) (codes (drop (suc i) b)) i (code-sign a b i ∙ sym e ∙ ap sign_of z)))

    pub coding-more : {s : Ordering} → sign_of s ≡ sign_ℕ (get_or a i 0) (get_or b i 0) → s ≡ Equal → Coding a b (i + 1)
    coding-more e z = record {
      first = omega arith;
      second = omega arith;
      few = v.few;
      same =
          rw (add-one i)
          (sym (both ∙ seen-passed (code a i) (code b i) (codes (drop (suc i) a)) (codes (drop (suc i) b)) i (code-sign a b i ∙ sym e ∙ ap sign_of z))
          ∙ v.same);
    }

  pub codes-differ : i < length a → i < length b → {s : Ordering} → sign_of s ≡ sign_ℕ (get_or a i 0) (get_or b i 0) → (s ≡ Equal → ⊥)
      → CodesCompared a b (record { sign = s; agreed = i })
  codes-differ h k {s} e f = go s e f
    where
      go : (s : Ordering) → sign_of s ≡ sign_ℕ (get_or a i 0) (get_or b i 0) → (s ≡ Equal → ⊥) → CodesCompared a b (record { sign = s; agreed = i })
      go Less e f = codes-less h k e refl
      go Equal e f = absurd (f refl)
      go Greater e f = codes-greater h k e refl

  codes-end-second : i < length a → length b ≤ i → CodesCompared a b (record { sign = Greater; agreed = i })
  codes-end-second h k =
      told Greater (rw (codes-cons a i h, codes-end b i k) (sym (seen-ends-second (code a i) (codes (drop (suc i) a)) i)))

  codes-end-first : length a ≤ i → i < length b → CodesCompared a b (record { sign = Less; agreed = i })
  codes-end-first h k =
      told Less (rw (codes-end a i h, codes-cons b i k) (sym (seen-ends-first (code b i) (codes (drop (suc i) b)) i)))

  codes-end-both : length a ≤ i → length b ≤ i → CodesCompared a b (record { sign = Equal; agreed = i })
  codes-end-both h k = told Equal (rw (codes-end a i h, codes-end b i k) (sym (seen-ends i)))

  -- where one string ends, or both do, their lengths decide
  pub codes-over : {end : ℕ} {s : Ordering} → end ≡ min (length a) (length b) → end ≤ i → s ≡ nat_cmp (length a) (length b)
      → CodesCompared a b (record { sign = s; agreed = end })
  codes-over {end} {s} m h e =
      let z : end ≡ i = omega (arith, v.first, v.second) in
      rw (z, e) (go (tri (length a) (length b)))
    where
      go : Tri (length a) (length b) → CodesCompared a b (record { sign = nat_cmp (length a) (length b); agreed = i })
      go (below l) = rw (lt-ltb (length a) (length b) l) (codes-end-first (omega (arith, v.first)) (omega arith))
      go (same l) = rw (le-ltb (length a) (length b) (omega arith), eq-eqb (length a) (length b) l) (codes-end-both (omega arith) (omega arith))
      go (above l) =
          rw (le-ltb (length a) (length b) (omega arith), ne_eqb (length a) (length b) (λ q. omega arith)) (codes-end-second (omega arith) (omega arith))
