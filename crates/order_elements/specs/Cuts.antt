-- What cutting a string into elements asks and gives.
use Rattle.std.specs.Prelude.{◌≡◌, true, List, ◌++◌, ℕ, ◌+◌, ◌≤◌, length, take, drop}
use Rattle.rules.specs.Text.{every}
use Rattle.rules.specs.Names.{is_character}
use Rattle.rules.specs.Table.{accepted, meaning_in}
use Rattle.rules.specs.Order.{step_of, elements}
use Rattle.order_find.specs.Answer.{found_as}
use Rattle.order_find.specs.declared.Found.{Found}

-- An accepted table, a string of characters that is not too long, and room for a place for each of them.
pub record Ready (t s places : List ℕ) : Type 0 where
  pub checked : accepted t ≡ true
  pub characters : every is_character s ≡ true
  pub short : length s ≤ 4096
  pub room : length s ≤ length places

-- So many elements are cut, up to a place of the string, and their items' places stand in front.
pub record Cut (t s places : List ℕ) (at many : ℕ) : Type 0 where
  pub to : at ≤ length s
  pub fewer : many ≤ at
  pub same : take many places ++ elements (meaning_in t).items 0 (drop at s) ≡ elements (meaning_in t).items 0 s

-- One more is cut.
pub record CutOne (t s places : List ℕ) (at many : ℕ) (found : Found) : Type 0 where
  pub is : found_as found ≡ step_of (meaning_in t).items (drop at s)
  pub some : 1 ≤ found.size
  pub cut : Cut t s places (at + found.size) (many + 1)

-- A string is cut: its elements, so many, are the places in front.
pub record Split (t s places : List ℕ) (many : ℕ) : Type 0 where
  pub is : take many places ≡ elements (meaning_in t).items 0 s
  pub inside : many ≤ length places
