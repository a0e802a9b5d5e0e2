-- What the answers are on the paper.
use Rattle.std.specs.Prelude.{List, ℕ, Err, Ok, Result}
use Rattle.rules.specs.Calls as calls
use Rattle.base_units.specs.Numbers.{number_of}
use Rattle.base_units.specs.declared.Refusal.{Refusal}

-- a verdict's refusal, 0 for none
abbrev pub number_is : Result Unit Refusal → ℕ
number_is (Ok _) = 0
number_is (Err r) = number_of r

-- an answer, with what the room holds afterwards
abbrev pub written_is : Result ℕ Refusal → List ℕ → calls.Written
written_is (Ok n) room = record { refusal = 0; size = n; room = room }
written_is (Err r) room = record { refusal = number_of r; size = 0; room = room }
