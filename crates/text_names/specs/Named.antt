-- What is told of the name at a spot right after its `<`: its bytes are name_in of the marks still to come (Rattle.text_tokens.specs.Left).
use Rattle.std.specs.Prelude.{◌≡◌, Bool, true, false, ◌&&◌, ◌||◌, List, [], ◌∷◌, ℕ, ◌+◌, ◌*◌, ◌%◌, ◌≤◌, length, eqb, if◌then◌else◌, None, Option, Some}
use Rattle.rules.specs.Text.{every}
use Rattle.rules.specs.Names.{is_hex, digit, hex_value, char_shaped, code_of}
use Rattle.rules.specs.Lines.{quoted, quoted_name}
use Rattle.text_lines.specs.declared.Signs.{Signs}
use Rattle.text_lines.specs.declared.Spot.{Spot}
use Rattle.text_lines.specs.Stream.{marks_left}
use Rattle.text_tokens.specs.Left.{name_in, after_name, names_in, NameByte}
use Rattle.base_units.specs.declared.CodePoint.{CodePoint}

-- the bytes of the name at a spot
abbrev pub name_left : Signs → List ℕ → Spot → List ℕ
name_left g src p = name_in (marks_left g src p)

-- the next byte of a name; or that none is left
abbrev pub ByteIs : Signs → List ℕ → Spot → Option (ℕ × Spot) → Type 0
ByteIs g src p (Some (b, q)) = NameByte g src p b q
ByteIs g src p None = name_left g src p ≡ []

-- ## Characters

-- an uppercase hex digit's value, 16 for what is none
unfoldable pub hex_of : ℕ → ℕ
hex_of b = if is_hex b then digit b else 16

-- a number of digits that a character has
abbrev pub is_many : ℕ → Bool
is_many n = eqb n 4 || eqb n 8

-- four or eight digits
abbrev pub are_digits : List ℕ → Bool
are_digits ds = is_many (length ds) && every is_hex ds

-- n digits that make x, as a code
abbrev pub MadeIs : ℕ → ℕ → Option CodePoint → Type 0
MadeIs n x (Some c) = (is_many n ≡ true) × (c.0 ≡ x)
MadeIs n x None = is_many n ≡ false

-- Digits that make a character, and their number.
pub record Digits (ds : List ℕ) (c : ℕ) : Type 0 where
  pub shaped : are_digits ds ≡ true
  pub value : c ≡ hex_value 0 ds

abbrev pub DigitsAre : List ℕ → Option CodePoint → Type 0
DigitsAre ds (Some c) = Digits ds c.0
DigitsAre ds None = are_digits ds ≡ false

-- A name that is shaped as a character, and its code.
pub record CharIs (n : List ℕ) (c : ℕ) : Type 0 where
  pub shaped : char_shaped n ≡ true
  pub code : c ≡ code_of n

abbrev pub CodeIs : List ℕ → Option CodePoint → Type 0
CodeIs n (Some c) = CharIs n c.0
CodeIs n None = char_shaped n ≡ false

-- ## A number for each name, the same for the same name

-- the number that bytes go on with after h; the factor is odd and large, so that names which differ in two neighbouring bytes differ in it
unfoldable pub hash_from : ℕ → List ℕ → ℕ
hash_from h [] = h
hash_from h (b ∷ bs) = hash_from ((h * 10368889 + b) % 16777216) bs

-- of a whole name
abbrev pub hash_of : List ℕ → ℕ
hash_of n = hash_from 0 n

-- ## Names in quotes

-- The next name in quotes: the spot after its `<`.
pub record NameAt (g : Signs) (src : List ℕ) (p q : Spot) : Type 0 where
  pub names : names_in (marks_left g src p) ≡ name_left g src q ∷ names_in (after_name (marks_left g src q))
  pub mode : p.mode ≡ quoted → q.mode ≡ quoted_name
  pub to : q.at ≤ length src

abbrev pub NamedIs : Signs → List ℕ → Spot → Option Spot → Type 0
NamedIs g src p (Some q) = NameAt g src p q
NamedIs g src p None = names_in (marks_left g src p) ≡ []
