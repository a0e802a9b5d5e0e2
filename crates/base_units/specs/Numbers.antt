-- The paper's numbers and values for the units.
use Rattle.std.specs.Prelude.{ℕ, Option, Some, None}
use Rattle.std.specs.declared.cmp.Ordering.{Ordering}
use Rattle.std.specs.declared.cmp.Ordering.TheVariants.{Less, Equal, Greater}
use Rattle.base_units.specs.declared.Refusal.{Refusal}
use Rattle.base_units.specs.declared.Refusal.TheVariants.{TooLong, BadByte, Malformed, BadRule, Twice, Unknown, TooMany, Unranked, ShortArea, ByteTwice, NotAccepted, BadString, NoRoom, NotMapped, NotRising, NotPlain, BadPart}
use Rattle.rules.specs.Order as order

-- a sign as the paper has it
abbrev pub sign_of : Ordering → order.Sign
sign_of Less = order.less
sign_of Equal = order.equal
sign_of Greater = order.greater

-- a refusal's number
abbrev pub number_of : Refusal → ℕ
number_of TooLong = 1
number_of BadByte = 2
number_of Malformed = 3
number_of BadRule = 4
number_of Twice = 5
number_of Unknown = 6
number_of TooMany = 7
number_of Unranked = 8
number_of ShortArea = 9
number_of ByteTwice = 10
number_of NotAccepted = 11
number_of BadString = 12
number_of NoRoom = 13
number_of NotMapped = 14
number_of NotRising = 15
number_of NotPlain = 16
number_of BadPart = 17

-- the number of a refusal, 0 where there is none
abbrev pub number_or_none : Option Refusal → ℕ
number_or_none None = 0
number_or_none (Some r) = number_of r
