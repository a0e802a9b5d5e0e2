-- What the answer of the directory is on the paper.
use Rattle.std.specs.Prelude.{List, ℕ, Err, Ok, Result}
use Rattle.rules.specs.Calls as calls
use Rattle.base_units.specs.Numbers.{number_of}
use Rattle.base_units.specs.declared.Refusal.{Refusal}

-- an answer, with what the list holds afterwards
abbrev pub directed_is : Result Unit Refusal → List ℕ → calls.Directed
directed_is (Ok tt) list = record { refusal = 0; list = list }
directed_is (Err r) list = record { refusal = number_of r; list = list }
