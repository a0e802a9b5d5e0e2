-- What is known of a report before, between and after the pieces of the input.
use Rattle.std.specs.Prelude.{◌≡◌, true, List, ℕ, ◌+◌, ◌≤◌, length}
use Rattle.rules.specs.Table.{accepted}
use Rattle.pairs_report.specs.declared.Fed.{Fed}

-- The input can be read: the table is accepted, and there is room for a line, for a piece and for two texts.
pub record Rooms (t piece before current out : List ℕ) : Type 0 where
  pub checked : accepted t ≡ true
  pub out-room : 80 ≤ length out
  pub piece-room : length piece ≡ 65536
  pub before-room : length before ≡ 4097
  pub current-room : length current ≡ 4097

-- A piece is read to its end, and all that was printed is written.
pub record Consumed (piece : List ℕ) (f g : Fed) : Type 0 where
  pub written : g.used ≡ 0
  pub last : g.last ≤ 4097
  pub len : g.len ≤ 4097
  pub counted : g.texts + f.at ≤ f.texts + length piece

-- The input is read to its end: the last text, if it is open, can be printed.
pub record Ended (t : List ℕ) (g : Fed) (before current out : List ℕ) : Type 0 where
  pub checked : accepted t ≡ true
  pub out-room : 80 ≤ length out
  pub last : g.last ≤ length before
  pub len : g.len ≤ length current
