-- What the check's answer is on the paper.
use Rattle.std.specs.Prelude.{Err, Ok, Result}
use Rattle.rules.specs.Calls.{Checked}
use Rattle.base_units.specs.Numbers.{number_of}
use Rattle.base_units.specs.declared.Refusal.{Refusal}
use Rattle.table_check.specs.declared.Shape.{Shape}

abbrev pub checked_as : Result Shape Refusal → Checked
checked_as (Ok s) = record { refusal = 0; levels = s.levels; items = s.items; size = s.size }
checked_as (Err r) = record { refusal = number_of r; levels = 0; items = 0; size = 0 }
