-- What the answer is on the paper.
use Rattle.std.specs.Prelude.{List, ℕ, Err, Ok, Result}
use Rattle.rules.specs.Calls as calls
use Rattle.base_units.specs.Numbers.{number_of}
use Rattle.base_units.specs.declared.Refusal.{Refusal}

-- an answer, with what the two areas hold afterwards
abbrev pub told_as : Result ℕ (Refusal × ℕ) → List ℕ → List ℕ → calls.Compiled
told_as (Ok size) area work = record { refusal = 0; line = 0; size = size; area = area; work = work }
told_as (Err (r, l)) area work = record { refusal = number_of r; line = l; size = 0; area = area; work = work }
