-- What the answer is on the paper.
use Rattle.std.specs.Prelude.{List, ℕ, Err, Ok, Result}
use Rattle.rules.specs.Calls as calls
use Rattle.base_units.specs.Numbers.{number_of}
use Rattle.base_units.specs.declared.Refusal.{Refusal}

-- an answer, with what the area holds afterwards
abbrev pub read_as : Result Unit (Refusal × ℕ) → List ℕ → calls.Mapped
read_as (Ok _) area = record { refusal = 0; line = 0; area = area }
read_as (Err (r, l)) area = record { refusal = number_of r; line = l; area = area }
