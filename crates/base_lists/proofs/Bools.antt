-- Laws of truth values: what a test that is joined of others says of them, and choices by a test.
-- The kit's borrow.Author.Tests has the tests on numbers, mathlib.Core.Bool the algebra of `&&`, `||` and `not`.
use mathlib.Core.Path.{◌≡◌, refl, sym, ◌∙◌}
use mathlib.Core.Bool.{Bool, true, false, cond, not, ◌&&◌, ◌||◌, false≢true}

-- ## and, or

pub and_left : (a b : Bool) → (a && b) ≡ true → a ≡ true
and_left true b h = refl
and_left false b h = h

pub and_right : (a b : Bool) → (a && b) ≡ true → b ≡ true
and_right true b h = h
and_right false b h = absurd (false≢true h)

pub and_intro : {a b : Bool} → a ≡ true → b ≡ true → (a && b) ≡ true
and_intro h k = rw (h, k)

pub or-false-left : (a b : Bool) → (a || b) ≡ false → a ≡ false
or-false-left true b h = h
or-false-left false b h = refl

pub or-false-right : (a b : Bool) → (a || b) ≡ false → b ≡ false
or-false-right true b h = absurd (false≢true (sym h))
or-false-right false b h = h

pub or-false-intro : {a b : Bool} → a ≡ false → b ≡ false → (a || b) ≡ false
or-false-intro h k = rw (h, k)

pub not-intro : {a : Bool} → a ≡ false → not a ≡ true
not-intro h = rw h

-- a test is not both
pub clash : {X : Type 0} {a : Bool} → a ≡ true → a ≡ false → X
clash h k = absurd (false≢true (sym k ∙ h))

-- ## Choices

-- by cases of a test
pub by : {X : Type 0} (t : Bool) → (t ≡ true → X) → (t ≡ false → X) → X
by true f g = f refl
by false f g = g refl

pub cond-true : {A : Type 0} {t : Bool} (a b : A) → t ≡ true → cond t a b ≡ a
cond-true a b h = rw h

pub cond-false : {A : Type 0} {t : Bool} (a b : A) → t ≡ false → cond t a b ≡ b
cond-false a b h = rw h

-- what holds of both holds of the choice
pub cond_both : {A : Type 0} (P : A → Type 0) (t : Bool) {a b : A} → P a → P b → P (cond t a b)
cond_both P true x y = x
cond_both P false x y = y

-- what holds of each, where it is chosen, holds of the choice
pub cond-by : {A : Type 0} (P : A → Type 0) (t : Bool) {a b : A} → (t ≡ true → P a) → (t ≡ false → P b) → P (cond t a b)
cond-by P true f g = f refl
cond-by P false f g = g refl
