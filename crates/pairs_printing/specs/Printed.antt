-- What every function that prints gives.
use Rattle.std.specs.Prelude.{List, ℕ, ◌+◌, ◌≤◌}
use Rattle.order_keys.specs.Writing.{Puts}

-- These bytes stand in the room from a place on, nothing else in it is changed, and `next` is the place behind them, at most so much further.
pub record Prints (most : ℕ) (room : List ℕ) (at : ℕ) (bytes : List ℕ) (after : List ℕ) (next : ℕ) : Type 0 where
  pub puts : Puts room at bytes after next
  pub short : next ≤ at + most
