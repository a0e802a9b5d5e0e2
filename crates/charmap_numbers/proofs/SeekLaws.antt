-- The numbers of an area: whether one passes a test, giving bytes in a row, copying.
use mathlib.Core.Path.{◌≡◌, refl, sym, ap, ◌∙◌}
use mathlib.Core.Bool.{Bool, true, false, not}
use mathlib.Core.List.{List, [], ◌∷◌, ◌++◌}
use Prim.Native.Nat.{ℕ, zero, suc, ◌+◌, ◌-◌, ◌≤◌, ◌<◌}
use native.Mathlib.Numerals.{add-one}
use native.Mathlib.Omega.{arith}
use lib.ListN.{length, get_or, take, drop, set, length-set, length-drop, drop_of_length-le, get_or-append}
use lib.Dec.{eqb}
use lib.Seq.{drop-cons, get_or-take, get_or-drop, take-suc, take_all, set_at, set-get_or, append_snoc, length-take-le}
use borrow.Author.Tests.{eqb-true, eqb-false, eq-eqb, ne_eqb}
use Rattle.base_lists.proofs.Bools.{by}
use Rattle.std.specs.List.{list_any}
use Rattle.rules.specs.Text.{one_of}
use Rattle.rules.specs.Charmap.{no_code}
use Rattle.rules.specs.Calls.{over}
use Rattle.charmap_numbers.specs.Giving.{has_code, one_for, with, with_range, is_taken, any_taken}

-- ## Seeking

any-one_of : (p : ℕ → Bool) (xs : List ℕ) → list_any p xs ≡ one_of p xs
unfolding one_of
any-one_of p [] = refl
any-one_of p (x ∷ xs) = rw (any-one_of p xs)

equal-turned : (x c : ℕ) → eqb x c ≡ eqb c x
equal-turned x c = by (eqb x c)
    (λ t. t ∙ sym (eq-eqb c x (sym (eqb-true x c t))))
    (λ t. t ∙ sym (ne_eqb c x (λ q. eqb-false x c t (sym q))))

any-equal : (c : ℕ) (xs : List ℕ) → list_any (λ y. eqb y c) xs ≡ one_of (eqb c) xs
unfolding one_of
any-equal c [] = refl
any-equal c (x ∷ xs) = rw (any-equal c xs, equal-turned x c)

pub codes-count : (area : List ℕ) → length area ≡ 512 → 256 ≡ length (take 256 area)
codes-count area l = sym (length-take-le 256 area (omega arith))

pub code-contained : (area : List ℕ) (c : ℕ) {r : Bool} → r ≡ list_any (λ y. eqb y c) (take 256 area) → r ≡ has_code area c
unfolding has_code
code-contained area c e = e ∙ any-equal c (take 256 area)

-- the first m numbers are the first n of them, where m is n
pub as-many : (xs : List ℕ) {m n : ℕ} {rest : List ℕ} → rest ≡ take m xs → m ≡ n → rest ≡ take n xs
as-many xs e h = e ∙ ap (λ (k : ℕ). take k xs) h

pub any-taken : (area : List ℕ) (b n : ℕ) {r : Bool} → r ≡ list_any is_taken (take n (drop b area)) → r ≡ any_taken area b n
unfolding any_taken
any-taken area b n e = e ∙ any-one_of is_taken (take n (drop b area))

-- ## Giving

pub one-taken : (area : List ℕ) (c : ℕ) (t : Bool) → t ≡ has_code area c → t ≡ true → 0 ≡ one_for area c
unfolding one_for
one-taken area c t e h = rw (← e, h)

pub one-first : (area : List ℕ) (c : ℕ) (t : Bool) → t ≡ has_code area c → t ≡ false → 1 ≡ one_for area c
unfolding one_for
one-first area c t e h = rw (← e, h)

pub with-stored : (area : List ℕ) (b c one : ℕ) → one ≡ one_for area c → set (set area b c) (256 + b) one ≡ with area b c
unfolding with
with-stored area b c one e = rw e

pub with-length : (area : List ℕ) (b c : ℕ) → length (with area b c) ≡ length area
unfolding with
with-length area b c = length-set (set area b c) (256 + b) (one_for area c) ∙ length-set area b c

-- the first i bytes of a range are given: what is left to do leads to the same
pub record Ranging (area₀ : List ℕ) (byte code n : ℕ) (area : List ℕ) (i : ℕ) : Type 0 where
  pub long : length area ≡ 512
  pub same : with_range (n - i) area (byte + i) (code + i) ≡ with_range n area₀ byte code

pub ranging-start : {area : List ℕ} {b c n : ℕ} → length area ≡ 512 → Ranging area b c n area 0
ranging-start {area} {b} {c} {n} h =
    let m : n - 0 ≡ n = omega arith in
    let e : b + 0 ≡ b = omega arith in
    let f : c + 0 ≡ c = omega arith in
    record { long = h; same = rw (m, e, f) }

range-suc : (left : ℕ) (area : List ℕ) (b c : ℕ) → with_range (suc left) area b c ≡ with_range left (with area b c) (suc b) (suc c)
unfolding with_range
range-suc left area b c = refl

module _ {area₀ : List ℕ} {byte code n : ℕ} {area : List ℕ} {i : ℕ} (v : Ranging area₀ byte code n area i) where
  pub ranging-more : {area' : List ℕ} {place : ℕ} → i < n → place ≡ byte + i → area' ≡ with area place (code + i) → Ranging area₀ byte code n area' (i + 1)
  ranging-more {area'} {place} h p q =
      let e : area' ≡ with area (byte + i) (code + i) = q ∙ ap (λ (j : ℕ). with area j (code + i)) p in
      let m : n - i ≡ suc (n - (i + 1)) = omega arith in
      let b : byte + (i + 1) ≡ suc (byte + i) = omega arith in
      let c : code + (i + 1) ≡ suc (code + i) = omega arith in
      record {
        long = ap length e ∙ with-length area (byte + i) (code + i) ∙ v.long;
        same = rw (e, b, c) (sym (range-suc (n - (i + 1)) area (byte + i) (code + i)) ∙ ap (λ (k : ℕ). with_range k area (byte + i) (code + i)) (sym m) ∙ v.same);
      }

  pub ranging-end : n ≤ i → area ≡ with_range n area₀ byte code
  unfolding with_range
  ranging-end h =
      let e : 0 ≡ n - i = omega arith in
      ap (λ (m : ℕ). with_range m area (byte + i) (code + i)) e ∙ v.same

-- ## Copying

pub front-count : (area : List ℕ) → 512 ≤ length area → length (take 512 area) ≡ 512
front-count area h = length-take-le 512 area h

pub copied : (src area : List ℕ) {front : List ℕ} → length src ≡ 512 → front ≡ src → front ++ drop 512 area ≡ over src area
copied src area l e = ap (λ (f : List ℕ). f ++ drop 512 area) e ∙ ap (λ (k : ℕ). src ++ drop k area) (sym l)

-- and where the last one is written once more
pub copied-again : (src area : List ℕ) {front : List ℕ} {last : ℕ} → length src ≡ 512 → front ≡ src → last ≡ get_or src 511 0
    → set (front ++ drop 512 area) 511 last ≡ over src area
copied-again src area {front} {last} l e n =
    let there : last ≡ get_or (over src area) 511 0 = n ∙ sym (get_or-append src (drop (length src) area) 0 511 (omega arith)) in
    ap (λ (xs : List ℕ). set xs 511 last) (copied src area l e) ∙ ap (set (over src area) 511) there ∙ set-get_or (over src area) 511 0
