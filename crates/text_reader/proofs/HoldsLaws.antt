-- A loop over lines that holds a reader: it stands at a line of the source that the loop has come to.
use mathlib.Core.Path.{◌≡◌, ap, sym, ◌∙◌, subst}
use mathlib.Core.List.{List}
use Prim.Native.Nat.{ℕ, ◌-◌, ◌<◌, ◌≤◌}
use native.Mathlib.Omega.{arith}
use lib.ListN.{length}
use denote.Ref.{Bor}

-- A reader that holds the source stands at a place and a number of which this is known.
pub record Held (P : ℕ → ℕ → Type 0) (src held : List ℕ) (at number : ℕ) : Type 0 where
  pub same : held ≡ src
  pub stands : P at number

-- a reader at such a place
pub held_at : (P : ℕ → ℕ → Type 0) {src before : List ℕ} {b held : Bor (List ℕ)} {i n at number : ℕ} → before ≡ src → b.now ≡ before → P i n
    → (held ≡ b) × (at ≡ i) × (number ≡ n) → Held P src held.now at number
held_at P {src} {before} {b} {held} {i} {n} {at} {number} same lent p e =
    record {
      same = ap (λ (x : Bor (List ℕ)). x.now) e.0 ∙ lent ∙ same;
      stands = subst (λ (k : ℕ). P k number) (sym e.1) (subst (λ (k : ℕ). P i k) (sym e.2) p);
    }

module _ {P : ℕ → ℕ → Type 0} {src held : List ℕ} {at number : ℕ} (v : Held P src held at number) where
  -- a line stands there, in the source too
  pub held-inside : at < length held → at < length src
  held-inside h = let k = ap length v.same in omega arith

  -- or none
  pub held-past : length held ≤ at → length src ≤ at
  held-past h = let k = ap length v.same in omega arith

-- what is left of the source falls
pub left-falls : (src : List ℕ) (at next : ℕ) {after : ℕ} → at < length src → at < next → after ≡ next → length src - after < length src - at
left-falls src at next h k e = omega arith
