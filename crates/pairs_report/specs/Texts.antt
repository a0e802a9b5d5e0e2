-- What a decoded text is on the paper.
use Rattle.std.specs.Prelude.{◌≡◌, List, ℕ, ◌≤◌, length, take, Err, Ok, Result}
use Rattle.rules.specs.Text.{Result as Judged, granted, refused}
use Rattle.rules.specs.Pairs.{text_of}
use Rattle.base_units.specs.Numbers.{number_of}
use Rattle.base_units.specs.declared.Refusal.{Refusal}

-- an answer, with the string in front of the room
abbrev pub text_as : Result ℕ Refusal → List ℕ → Judged (List ℕ)
text_as (Ok n) room = granted (take n room)
text_as (Err r) room = refused (number_of r) 0

-- how many characters it has
abbrev pub size_as : Result ℕ Refusal → ℕ
size_as (Ok n) = n
size_as (Err r) = 0

-- The answer is the paper's text, and stands in the room.
pub record TextIs (area bs room : List ℕ) (s : Result ℕ Refusal) : Type 0 where
  pub is : text_as s room ≡ text_of area bs
  pub inside : size_as s ≤ length room
