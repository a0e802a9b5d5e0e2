-- Tables by code that the functions fill for themselves. No public contract cites this file.
use Rattle.std.specs.Prelude.{◌≡◌, List, ℕ, ◌<◌, length, get_or, Option, None, Some, if◌then◌else◌, Bool, not, ◌&&◌, ◌||◌, eqb}
use Rattle.rules.specs.Text.{within}
use Rattle.rules.specs.Charmap.{no_code}
use Rattle.rules.specs.Coding.{ones_of, byte_from}

-- a number after the codes passes where the code is c
abbrev pub is_one : ℕ → ℕ → Bool
is_one c o = eqb o 0 || (eqb o 1 && not (eqb c no_code))

-- at each code below its length, how often that code has a 1
pub record Counted (codes ones table : List ℕ) : Type 0 where
  pub is : (c : ℕ) → c < length table → get_or table c 0 ≡ ones_of c codes ones

-- a byte that was sought, from its number on the paper, which is 256 for none
abbrev pub byte_found : ℕ → Option ℕ
byte_found n = if within 0 255 n then Some n else None

-- at each code below its length, the byte that encodes it
pub record Indexed (codes ones : List ℕ) (table : List (Option ℕ)) : Type 0 where
  pub is : (c : ℕ) → c < length table → get_or table c None ≡ byte_found (byte_from 0 c codes ones)
