-- The tests of joined, code_of and well_placed, one way after the other.
use mathlib.Core.Path.{◌≡◌, refl}
use mathlib.Core.Bool.{Bool, true, false, not, ◌&&◌}
use Prim.Native.Nat.{ℕ}
use lib.Dec.{eqb, leb, ltb}
use borrow.Author.Tests.{ne_eqb, leb-true, leb-false, le-ltb, lt-ltb}
use Rattle.base_lists.proofs.Bools.{by}
use Rattle.locale_levels.specs.declared.Symbol.{Symbol}
use Rattle.locale_levels.specs.declared.Symbol.TheVariants as symbol
use Rattle.locale_levels.specs.declared.Reading.{Reading}
use Rattle.locale_levels.specs.declared.Reading.TheVariants as reading
use Rattle.locale_levels.specs.Numbers.{symbol_number, reading_number}
use Rattle.locale_levels.specs.Rules.{joined_to, code_of}

-- ## joined

-- anything else makes no rule of what is read: a law for what is begun, and one for the rest
first-other : (x : Symbol) → (x ≡ symbol.Forward → ⊥) → (x ≡ symbol.Backward → ⊥) → (x ≡ symbol.Position → ⊥) → 7 ≡ joined_to 0 (symbol_number x)
unfolding joined_to
first-other symbol.Forward f b p = absurd (f refl)
first-other symbol.Backward f b p = absurd (b refl)
first-other symbol.Position f b p = absurd (p refl)
first-other symbol.Comma f b p = refl
first-other symbol.Other f b p = refl

no-comma : (x : Symbol) → (x ≡ symbol.Comma → ⊥) → eqb (symbol_number x) 3 ≡ false
no-comma symbol.Forward c = refl
no-comma symbol.Backward c = refl
no-comma symbol.Position c = refl
no-comma symbol.Comma c = absurd (c refl)
no-comma symbol.Other c = refl

no-position : (x : Symbol) → (x ≡ symbol.Position → ⊥) → eqb (symbol_number x) 4 ≡ false
no-position symbol.Forward p = refl
no-position symbol.Backward p = refl
no-position symbol.Position p = absurd (p refl)
no-position symbol.Comma p = refl
no-position symbol.Other p = refl

position-comma-other : (x : Symbol) → (x ≡ symbol.Forward → ⊥) → (x ≡ symbol.Backward → ⊥) → 7 ≡ joined_to 12 (symbol_number x)
unfolding joined_to
position-comma-other symbol.Forward f b = absurd (f refl)
position-comma-other symbol.Backward f b = absurd (b refl)
position-comma-other symbol.Position f b = refl
position-comma-other symbol.Comma f b = refl
position-comma-other symbol.Other f b = refl

module _ {s : Reading} (x : Symbol) where
  pub join-first : s ≡ reading.Nothing → (x ≡ symbol.Forward → ⊥) → (x ≡ symbol.Backward → ⊥) → (x ≡ symbol.Position → ⊥) → 7 ≡ joined_to (reading_number s) (symbol_number x)
  join-first h f b p = rw h (first-other x f b p)

  pub join-forward : s ≡ reading.Forward → (x ≡ symbol.Comma → ⊥) → 7 ≡ joined_to (reading_number s) (symbol_number x)
  unfolding joined_to
  join-forward h c = rw (h, no-comma x c)

  pub join-backward : s ≡ reading.Backward → (x ≡ symbol.Comma → ⊥) → 7 ≡ joined_to (reading_number s) (symbol_number x)
  unfolding joined_to
  join-backward h c = rw (h, no-comma x c)

  pub join-position : s ≡ reading.Position → (x ≡ symbol.Comma → ⊥) → 7 ≡ joined_to (reading_number s) (symbol_number x)
  unfolding joined_to
  join-position h c = rw (h, no-comma x c)

  pub join-forward-comma : s ≡ reading.ForwardComma → (x ≡ symbol.Position → ⊥) → 7 ≡ joined_to (reading_number s) (symbol_number x)
  unfolding joined_to
  join-forward-comma h p = rw h (by (eqb (symbol_number x) 3) (λ e. rw e) (λ e. rw (e, no-position x p)))

  pub join-backward-comma : s ≡ reading.BackwardComma → (x ≡ symbol.Position → ⊥) → 7 ≡ joined_to (reading_number s) (symbol_number x)
  unfolding joined_to
  join-backward-comma h p = rw h (by (eqb (symbol_number x) 3) (λ e. rw e) (λ e. rw (e, no-position x p)))

  pub join-position-comma : s ≡ reading.PositionComma → (x ≡ symbol.Forward → ⊥) → (x ≡ symbol.Backward → ⊥) → 7 ≡ joined_to (reading_number s) (symbol_number x)
  join-position-comma h f b = rw h (position-comma-other x f b)

-- a rule of two words, and what is none, with anything
pub join-other : (s : Reading) (x : Symbol) → (s ≡ reading.Nothing → ⊥) → (s ≡ reading.Forward → ⊥) → (s ≡ reading.Backward → ⊥) → (s ≡ reading.Position → ⊥)
    → (s ≡ reading.ForwardComma → ⊥) → (s ≡ reading.BackwardComma → ⊥) → (s ≡ reading.PositionComma → ⊥)
    → 7 ≡ joined_to (reading_number s) (symbol_number x)
unfolding joined_to
join-other reading.Nothing x n f b p c d e = absurd (n refl)
join-other reading.Forward x n f b p c d e = absurd (f refl)
join-other reading.Backward x n f b p c d e = absurd (b refl)
join-other reading.Position x n f b p c d e = absurd (p refl)
join-other reading.ForwardComma x n f b p c d e = absurd (c refl)
join-other reading.BackwardComma x n f b p c d e = absurd (d refl)
join-other reading.PositionComma x n f b p c d e = absurd (e refl)
join-other reading.ForwardPosition x n f b p c d e = by (eqb (symbol_number x) 3) (λ e. rw e) (λ e. rw e)
join-other reading.BackwardPosition x n f b p c d e = by (eqb (symbol_number x) 3) (λ e. rw e) (λ e. rw e)
join-other reading.NoRule x n f b p c d e = by (eqb (symbol_number x) 3) (λ e. rw e) (λ e. rw e)

-- ## code_of

pub code-none : (s : Reading) → (s ≡ reading.Forward → ⊥) → (s ≡ reading.Backward → ⊥) → (s ≡ reading.Position → ⊥)
    → (s ≡ reading.ForwardPosition → ⊥) → (s ≡ reading.BackwardPosition → ⊥) → 0 ≡ code_of (reading_number s)
unfolding code_of
code-none reading.Nothing f b p x y = refl
code-none reading.Forward f b p x y = absurd (f refl)
code-none reading.Backward f b p x y = absurd (b refl)
code-none reading.Position f b p x y = absurd (p refl)
code-none reading.ForwardComma f b p x y = refl
code-none reading.BackwardComma f b p x y = refl
code-none reading.PositionComma f b p x y = refl
code-none reading.ForwardPosition f b p x y = absurd (x refl)
code-none reading.BackwardPosition f b p x y = absurd (y refl)
code-none reading.NoRule f b p x y = refl

-- ## well_placed

module _ (held : Bool) (kind : ℕ) where
  pub placed-quote : kind ≡ 6 → false ≡ (not (held && leb 3 kind) && not (eqb kind 6))
  placed-quote h = rw h (by held (λ e. rw e) (λ e. rw e))

  pub placed-after : (kind ≡ 6 → ⊥) → held ≡ true → ltb kind 3 ≡ (not (held && leb 3 kind) && not (eqb kind 6))
  placed-after h e =
      rw (e, ne_eqb kind 6 h)
      (by (leb 3 kind)
      (λ l. rw (l, le-ltb kind 3 (leb-true 3 kind l)))
      (λ l. rw (l, lt-ltb kind 3 (leb-false 3 kind l))))

  pub placed-free : (kind ≡ 6 → ⊥) → held ≡ false → true ≡ (not (held && leb 3 kind) && not (eqb kind 6))
  placed-free h e = rw e (simp (ne_eqb kind 6 h))
