-- The order lines that the programs of cases write.
use Rattle.std.specs.Prelude.{List, [], ◌∷◌, ◌++◌, ℕ, zero, suc, ◌+◌, ◌/◌, ◌%◌, ltb, if◌then◌else◌}

-- the byte of a hex digit: 0 to 9, then A to F
unfoldable pub digit_byte : ℕ → ℕ
digit_byte d = if ltb d 10 then 48 + d else 55 + d

-- the line of a number, 12 bytes: `<U0001`, the last four hex digits of the number, `>` and LF
unfoldable pub line_of : ℕ → List ℕ
line_of n =
    60 ∷ 85 ∷ 48 ∷ 48 ∷ 48 ∷ 49
    ∷ digit_byte (n / 4096 % 16) ∷ digit_byte (n / 256 % 16) ∷ digit_byte (n / 16 % 16) ∷ digit_byte (n % 16)
    ∷ 62 ∷ 10 ∷ []

-- the lines of the numbers from 0 to n - 1, one after the other
unfoldable pub order_lines : ℕ → List ℕ
order_lines zero = []
order_lines (suc n) = order_lines n ++ line_of n
