-- What the answer of the key builder is on the paper.
use Rattle.std.specs.Prelude.{List, ℕ, Err, Ok, Result}
use Rattle.rules.specs.Calls as calls
use Rattle.base_units.specs.Numbers.{number_of}
use Rattle.base_units.specs.declared.Refusal.{Refusal}

-- an answer, with what the room holds afterwards
abbrev pub keyed_as : Result ℕ Refusal → List ℕ → calls.Written
keyed_as (Ok n) room = record { refusal = 0; size = n; room = room }
keyed_as (Err r) room = record { refusal = number_of r; size = 0; room = room }
