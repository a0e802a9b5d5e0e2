-- A word, copied byte after byte into an area that may be too short for it.
use Rattle.std.specs.Prelude.{ℕ}
use mathlib.Core.Path.{◌≡◌}
use mathlib.Core.List.{List, ◌++◌}
use Prim.Native.Nat.{ℕ, ◌≤◌}
use lib.ListN.{length, take, drop}
use Rattle.text_lines.specs.declared.Signs.{Signs}
use Rattle.text_lines.specs.declared.Spot.{Spot}
use Rattle.text_lines.specs.Stream.{marks_left}
use Rattle.text_tokens.specs.Left.{word_in}

-- The word w up to q stands in front of the area, i bytes; from there on the area is as it was.
pub record Copying (g : Signs) (src w before area : List ℕ) (q : Spot) (i : ℕ) : Type 0 where
  pub word : w ≡ take i area ++ word_in (marks_left g src q)
  pub rest : drop i area ≡ drop i before
  pub same : length area ≡ length before
  pub few : i ≤ length area
  pub to : q.at ≤ length src
