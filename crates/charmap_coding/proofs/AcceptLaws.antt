-- The answers of accepts and check_area: one law for each return.
use Rattle.std.specs.Prelude.{Err, Ok}
use mathlib.Core.Path.{◌≡◌, sym, ◌∙◌}
use mathlib.Core.Bool.{Bool, true, false}
use mathlib.Core.List.{List}
use Prim.Native.Nat.{ℕ, ◌≤◌, ◌<◌}
use native.Mathlib.Omega.{arith}
use lib.ListN.{length, take, drop, length-drop}
use lib.Seq.{length-take-le}
use borrow.Author.Tests.{le-leb, lt-leb}
use Rattle.rules.specs.Text.{every}
use Rattle.rules.specs.Coding.{is_code, good_ones, one_each, area_accepted}
use Rattle.rules.specs.Calls.{area_call}
use Rattle.rules.proofs.AreaLaws.{accepted-parts}
use Rattle.base_lists.proofs.Bools.{by}
use Rattle.base_units.specs.Numbers.{number_of}
use Rattle.base_units.specs.declared.Refusal.{Refusal}
use Rattle.base_units.specs.declared.Refusal.TheVariants.{NotAccepted}
use Rattle.base_units.proofs.NumberLaws.{number_of-some}
use Rattle.charmap_coding.specs.Answers.{number_is}

-- ## accepts

pub area-size : (area : List ℕ) → area_accepted area ≡ true → 512 ≤ length area
area-size area a = (accepted-parts area a).size

module _ (area : List ℕ) (h : 512 ≤ length area) where
  pub codes-count : 256 ≡ length (take 256 area)
  codes-count = sym (length-take-le 256 area (omega arith))

  ones-count : length (take 256 (drop 256 area)) ≡ 256
  ones-count = length-take-le 256 (drop 256 area) (simp length-drop (omega arith))

  pub ones-many : length (take 256 area) ≡ length (take 256 (drop 256 area))
  ones-many = omega (arith, codes-count, ones-count)

  pub codes-few : length (take 256 area) ≤ 256
  codes-few = omega (arith, codes-count)

module _ (area : List ℕ) where
  pub accepts-short : length area < 512 → false ≡ area_accepted area
  unfolding area_accepted
  accepts-short h = rw (lt-leb 512 (length area) h)

  module _ (h : 512 ≤ length area) {a v : Bool} (codes : a ≡ every is_code (take 256 area)) where
    pub accepts-codes : a ≡ false → v ≡ false → v ≡ area_accepted area
    unfolding area_accepted
    accepts-codes e f = f ∙ rw (le-leb 512 (length area) h, ← codes, e)

    module _ (yes-codes : a ≡ true) {b : Bool} (ones : b ≡ good_ones (take 256 area) (take 256 (drop 256 area))) (both : v ≡ b) where
      pub accepts-ones : v ≡ false → v ≡ area_accepted area
      unfolding area_accepted
      accepts-ones e = e ∙ rw (le-leb 512 (length area) h, ← codes, yes-codes, ← ones, ← both, e)

      pub accepts-each : {r : Bool} → v ≡ true → r ≡ one_each (take 256 area) (take 256 area) (take 256 (drop 256 area)) → r ≡ area_accepted area
      unfolding area_accepted
      accepts-each e each = each ∙ rw (le-leb 512 (length area) h, ← codes, yes-codes, ← ones, ← both, e)

-- what was answered by yes holds
pub answered : {r t : Bool} → r ≡ t → r ≡ true → t ≡ true
answered e f = sym e ∙ f

-- ## check_area

module _ (area : List ℕ) {r : Bool} (is : r ≡ area_accepted area) where
  pub check-accepted : r ≡ true → number_is (Ok tt) ≡ area_call area
  unfolding area_call
  check-accepted e = rw (← is, e)

  pub check-refused : r ≡ false → number_is (Err NotAccepted) ≡ area_call area
  unfolding area_call
  check-refused e = rw (← is, e)

-- ## What the check answered

pub area-granted : (area : List ℕ) → 0 ≡ area_call area → area_accepted area ≡ true
unfolding area_call
area-granted area e = by (area_accepted area) (λ t. t) (λ t. let q : 0 ≡ 11 = rw t at e in absurd (omega arith))

-- a refusal is that of an area that is not accepted
pub area-refused : (area : List ℕ) (r : Refusal) → number_of r ≡ area_call area → (area_accepted area ≡ false) × (number_of r ≡ 11)
unfolding area_call
area-refused area r e = by (area_accepted area)
    (λ t. absurd (number_of-some r (rw t at e)))
    (λ t. (t, rw t at e))
