-- Loops over lines: what is said of the state that such a loop holds beside its reader, and of the function that takes one line.
use Rattle.std.specs.Prelude.{◌≡◌, Bool, true, false, List, ℕ, ◌<◌, length}

-- A reading of lines, with states of the type D.
pub record Reading (D : Type 0) : Type 1 where
  -- no further line is taken; and the place and the number of the line that comes next
  pub over : D → Bool
  pub next : D → ℕ
  pub number : D → ℕ
  -- in this source a reading that began with the first state has come to a line's place and number, with the second
  pub Stands : List ℕ → D → D → ℕ → ℕ → Type 0
  -- what it says, having begun with the first state and ended with the second
  pub Says : List ℕ → D → D → Type 0

-- The reading begins with this state.
abbrev pub Begins : {D : Type 0} → Reading D → List ℕ → D → Type 0
Begins R src s = R.Stands src s s (R.next s) (R.number s)

-- A line stands at a place that a reading has come to.
pub record AtLine {D : Type 0} (R : Reading D) (src : List ℕ) (t : D) (at number : ℕ) : Type 0 where
  pub inside : at < length src
  pub begun : D
  pub stands : R.Stands src begun t at number

-- The line at a place takes the state t to u, however the reading began: it goes on behind the line, or has its answer.
pub record Turns {D : Type 0} (R : Reading D) (src : List ℕ) (t : D) (at number : ℕ) (u : D) : Type 0 where
  pub further : R.over u ≡ false → at < R.next u
  pub goes : R.over u ≡ false → (s : D) → R.Stands src s t at number → R.Stands src s u (R.next u) (R.number u)
  pub stops : R.over u ≡ true → (s : D) → R.Stands src s t at number → R.Says src s u
