-- The lower of two refusals that may be none (Rattle.rules.specs.Text), by its tests.
use Rattle.std.specs.Prelude.{Option, Some, None}
use mathlib.Core.Path.{◌≡◌, refl, sym}
use Prim.Native.Nat.{ℕ, ◌≤◌, ◌<◌}
use lib.Dec.{eqb}
use borrow.Author.Tests.{ne_eqb, lt-ltb, le-ltb}
use Rattle.rules.specs.Text.{lower}
use Rattle.base_units.specs.declared.Refusal.{Refusal}
use Rattle.base_units.specs.Numbers.{number_of, number_or_none}
use Rattle.base_units.proofs.NumberLaws.{number_of-some}

lower-none-of : (a : Option Refusal) → number_or_none a ≡ lower (number_or_none a) 0
unfolding lower
lower-none-of None = refl
lower-none-of (Some r) = simp (ne_eqb (number_of r) 0 (number_of-some r))

module _ (a b : Option Refusal) where
  pub lower-left-none : a ≡ None → number_or_none b ≡ lower (number_or_none a) (number_or_none b)
  unfolding lower
  lower-left-none e = rw e

  pub lower-right-none : b ≡ None → number_or_none a ≡ lower (number_or_none a) (number_or_none b)
  lower-right-none e = rw e (lower-none-of a)

  module _ {r s : Refusal} {m n : ℕ} (e : a ≡ Some r) (f : b ≡ Some s) (d : m ≡ number_of r) (h : n ≡ number_of s) where
    pub lower-left : m < n → number_or_none a ≡ lower (number_or_none a) (number_or_none b)
    unfolding lower
    lower-left l =
        rw (e, f) (simp (ne_eqb (number_of r) 0 (number_of-some r), ne_eqb (number_of s) 0 (number_of-some s), lt-ltb (number_of r) (number_of s) (rw (sym d, sym h) l)))

    pub lower-right : n ≤ m → number_or_none b ≡ lower (number_or_none a) (number_or_none b)
    unfolding lower
    lower-right l =
        rw (e, f) (simp (ne_eqb (number_of r) 0 (number_of-some r), ne_eqb (number_of s) 0 (number_of-some s), le-ltb (number_of r) (number_of s) (rw (sym d, sym h) l)))
