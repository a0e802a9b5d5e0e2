-- Laws of a loop over lines that holds a reader beside its state: how it begins, what a turn may ask, and how it goes on, comes nearer to its end, or ends.
use mathlib.Core.Path.{◌≡◌, ap, sym, ◌∙◌, subst}
use mathlib.Core.Bool.{Bool, true, false}
use mathlib.Core.List.{List}
use Prim.Native.Nat.{ℕ, ◌-◌, ◌<◌, ◌≤◌}
use native.Mathlib.Omega.{arith}
use lib.ListN.{length}
use lib.Dec.{leb}
use borrow.Author.Tests.{leb-true, leb-false}
use denote.Ref.{Bor}
use Rattle.text_reader.specs.Turns.{Reading, AtLine, Turns}

-- A reading that began with the state s has come to the state t, and the reader stands at the line that comes next.
pub record IsHeld {D : Type 0} (R : Reading D) (src : List ℕ) (s t : D) (held : List ℕ) (at number : ℕ) : Type 0 where
  pub same : held ≡ src
  pub next : at ≡ R.next t
  pub line : number ≡ R.number t
  pub stands : R.Stands src s t at number

-- a reader that stands where a reading begins
pub held_first : {D : Type 0} (R : Reading D) {b held : Bor (List ℕ)} {s : D} {at number : ℕ} → R.Stands b.now s s (R.next s) (R.number s)
    → (held ≡ b) × (at ≡ R.next s) × (number ≡ R.number s) → IsHeld R b.now s s held.now at number
held_first R {b} {held} {s} {at} {number} stands e =
    let there : R.Stands b.now s s at (R.number s) = subst (λ (k : ℕ). R.Stands b.now s s k (R.number s)) (sym e.1) stands in
    record {
      same = ap (λ (x : Bor (List ℕ)). x.now) e.0;
      next = e.1;
      line = e.2;
      stands = subst (λ (k : ℕ). R.Stands b.now s s at k) (sym e.2) there;
    }

-- a source that is not used up has a line there
pub inside : {used : Bool} (held : List ℕ) (at : ℕ) → used ≡ leb (length held) at → used ≡ false → at < length held
inside held at told not-used = leb-false (length held) at (sym told ∙ not-used)

module _ {D : Type 0} (R : Reading D) {src : List ℕ} {s t : D} {held : List ℕ} {at number : ℕ} (h : IsHeld R src s t held at number) where
  pub at_line : at < length held → AtLine R held t at number
  at_line inside = record { inside = inside; begun = s; stands = subst (λ (x : List ℕ). R.Stands x s t at number) (sym h.same) h.stands }

  -- a source that is used up
  pub past_all : {used : Bool} → used ≡ leb (length held) at → used ≡ true → length src ≤ at
  past_all told is-used = let same = ap length h.same in let low = leb-true (length held) at (sym told ∙ is-used) in omega arith

  module _ {u : D} (turn : Turns R held t at number u) where
    pub held_on : {b held' : Bor (List ℕ)} {at' number' : ℕ} → b.now ≡ held → R.over u ≡ false
        → (held' ≡ b) × (at' ≡ R.next u) × (number' ≡ R.number u) → IsHeld R src s u held'.now at' number'
    held_on {b} {held'} {at'} {number'} lent over e =
        let came : R.Stands src s u (R.next u) (R.number u) =
        subst (λ (x : List ℕ). R.Stands x s u (R.next u) (R.number u)) h.same
        (turn.goes over s (subst (λ (x : List ℕ). R.Stands x s t at number) (sym h.same) h.stands)) in
        let there : R.Stands src s u at' (R.number u) = subst (λ (k : ℕ). R.Stands src s u k (R.number u)) (sym e.1) came in
        record {
          same = ap (λ (x : Bor (List ℕ)). x.now) e.0 ∙ lent ∙ h.same;
          next = e.1;
          line = e.2;
          stands = subst (λ (k : ℕ). R.Stands src s u at' k) (sym e.2) there;
        }

    pub nearer : {at' : ℕ} → R.over u ≡ false → at' ≡ R.next u → at < length held → length src - at' < length src - at
    nearer over next inside = let further = turn.further over in let same = ap length h.same in omega arith

    pub held_over : R.over u ≡ true → R.Says src s u
    held_over over =
        subst (λ (x : List ℕ). R.Says x s u) h.same
        (turn.stops over s (subst (λ (x : List ℕ). R.Stands x s t at number) (sym h.same) h.stands))
