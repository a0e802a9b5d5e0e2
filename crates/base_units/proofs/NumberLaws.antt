-- No two refusals have one number, and no two signs are told alike: so an answer that is an enum is determined by what it is on the paper.
use Rattle.std.specs.Prelude.{if◌then◌else◌}
use mathlib.Core.Path.{◌≡◌, refl, sym, ap, ◌∙◌}
use Prim.Native.Nat.{ℕ}
use native.Mathlib.Omega.{arith}
use lib.Dec.{eqb}
use Rattle.base_units.specs.Numbers.{number_of, sign_of}
use Rattle.std.specs.declared.cmp.Ordering.{Ordering}
use Rattle.std.specs.declared.cmp.Ordering.TheVariants.{Less, Equal, Greater}
use Rattle.base_units.specs.declared.Refusal.{Refusal}
use Rattle.base_units.specs.declared.Refusal.TheVariants.{TooLong, BadByte, Malformed, BadRule, Twice, Unknown, TooMany, Unranked, ShortArea, ByteTwice, NotAccepted, BadString, NoRoom, NotMapped, NotRising, NotPlain, BadPart}
use Rattle.rules.specs.Order as order

-- the refusal of a number
refusal_of : ℕ → Refusal
refusal_of n =
    if eqb n 1 then TooLong else if eqb n 2 then BadByte else if eqb n 3 then Malformed else if eqb n 4 then BadRule
    else if eqb n 5 then Twice else if eqb n 6 then Unknown else if eqb n 7 then TooMany else if eqb n 8 then Unranked
    else if eqb n 9 then ShortArea else if eqb n 10 then ByteTwice else if eqb n 11 then NotAccepted else if eqb n 12 then BadString
    else if eqb n 13 then NoRoom else if eqb n 14 then NotMapped else if eqb n 15 then NotRising else if eqb n 16 then NotPlain
    else BadPart

refusal-back : (r : Refusal) → refusal_of (number_of r) ≡ r
unfolding refusal_of
refusal-back TooLong = refl
refusal-back BadByte = refl
refusal-back Malformed = refl
refusal-back BadRule = refl
refusal-back Twice = refl
refusal-back Unknown = refl
refusal-back TooMany = refl
refusal-back Unranked = refl
refusal-back ShortArea = refl
refusal-back ByteTwice = refl
refusal-back NotAccepted = refl
refusal-back BadString = refl
refusal-back NoRoom = refl
refusal-back NotMapped = refl
refusal-back NotRising = refl
refusal-back NotPlain = refl
refusal-back BadPart = refl

pub number_of-unique : (r s : Refusal) → number_of r ≡ number_of s → r ≡ s
number_of-unique r s e = sym (refusal-back r) ∙ ap refusal_of e ∙ refusal-back s

-- a refusal's number is not that of none
pub number_of-some : (r : Refusal) → number_of r ≡ 0 → ⊥
number_of-some TooLong e = omega arith
number_of-some BadByte e = omega arith
number_of-some Malformed e = omega arith
number_of-some BadRule e = omega arith
number_of-some Twice e = omega arith
number_of-some Unknown e = omega arith
number_of-some TooMany e = omega arith
number_of-some Unranked e = omega arith
number_of-some ShortArea e = omega arith
number_of-some ByteTwice e = omega arith
number_of-some NotAccepted e = omega arith
number_of-some BadString e = omega arith
number_of-some NoRoom e = omega arith
number_of-some NotMapped e = omega arith
number_of-some NotRising e = omega arith
number_of-some NotPlain e = omega arith
number_of-some BadPart e = omega arith

-- the sign of a sign on the paper
sign_back : order.Sign → Ordering
sign_back order.less = Less
sign_back order.equal = Equal
sign_back order.greater = Greater

sign-back : (s : Ordering) → sign_back (sign_of s) ≡ s
unfolding sign_back
sign-back Less = refl
sign-back Equal = refl
sign-back Greater = refl

pub sign_of-unique : (s t : Ordering) → sign_of s ≡ sign_of t → s ≡ t
sign_of-unique s t e = sym (sign-back s) ∙ ap sign_back e ∙ sign-back t
