-- What the answers of the step and of the comparison are on the paper.
use Rattle.std.specs.Prelude.{Err, Ok, Result, ℕ}
use Rattle.rules.specs.Order as order
use Rattle.rules.specs.Calls.{Stepped, Compared, no_answer}
use Rattle.base_units.specs.Numbers.{sign_of, number_of}
use Rattle.order_compare.specs.declared.Answer.{Answer}
use Rattle.base_units.specs.declared.Refusal.{Refusal}

-- an answer of two strings
abbrev pub answer_as : Answer → order.Answer
answer_as a = record { sign = sign_of a.sign; level = a.level; agreed = a.agreed }

abbrev pub compared_as : Result Answer Refusal → Compared
compared_as (Ok a) = record { refusal = 0; answer = answer_as a }
compared_as (Err r) = record { refusal = number_of r; answer = no_answer }

abbrev pub stepped_as : Result (ℕ × ℕ) Refusal → Stepped
stepped_as (Ok (place, size)) = record { refusal = 0; place = place; size = size }
stepped_as (Err r) = record { refusal = number_of r; place = 0; size = 0 }
