-- What an entry of a charmap gives, over plain values (Rattle.rules.specs.Charmap has it of a line's tokens).
use Rattle.std.specs.Prelude.{◌≡◌, Bool, true, false, not, ◌&&◌, List, [], ◌∷◌, ◌++◌, ℕ, suc, ◌+◌, ◌-◌, ◌≤◌, ◌<◌, ltb, leb, Err, None, Ok, Option, Result, Some}
use Rattle.rules.specs.Text.{every, one_of, ◌unless◌, lower, lowest}
use Rattle.rules.specs.Names.{code_of, is_char_name}
use Rattle.rules.specs.Charmap.{Given, counted, is_given, area_of}
use Rattle.charmap_numbers.proofs.KeptLaws.{Kept}
use Rattle.base_units.specs.declared.CodePoint.{CodePoint}
use Rattle.base_units.specs.declared.Refusal.{Refusal}
use Rattle.base_units.specs.Numbers.{number_of}

-- ## What is given, as the 512 numbers

-- An area holds what is given.
pub record Holds (area : List ℕ) (gs : List Given) : Type 0 where
  pub same : area ≡ area_of gs
  pub kept : Kept gs

-- It holds something given.
pub record Area (area : List ℕ) : Type 0 where
  pub given : List Given
  pub holds : Holds area given

-- ## The refusals of an entry

-- both names are characters, and D800 to DFFF do not lie between them
unfoldable pub are_chars : List ℕ → List ℕ → Bool
are_chars first last = every is_char_name (first ∷ last ∷ []) && not (ltb (code_of first) 0xD800 && ltb 0xDFFF (code_of last))

-- codes that go up, and bytes that end at FF or before
abbrev pub fits_in : ℕ → ℕ → ℕ → Bool
fits_in low high byte = leb low high && leb (byte + (high - low)) 255

-- one of their bytes is given already
abbrev pub given_twice : ℕ → ℕ → ℕ → List Given → Bool
given_twice low high byte gs = one_of (is_given gs) (counted (suc (high - low)) byte low)

-- "charmap byte past FF or range backwards" (7), "charmap byte given twice" (10)
unfoldable pub range_refusal : ℕ → ℕ → ℕ → List Given → ℕ
range_refusal low high byte gs = lower (7 unless fits_in low high byte) (10 unless not (fits_in low high byte && given_twice low high byte gs))

-- the line's bytes (2), and its names (3, 7)
unfoldable pub before_codes : Bool → ℕ → ℕ
before_codes text names = lower (2 unless text) names

-- the names' codes (6), and those of the range
unfoldable pub codes_refusal : List ℕ → List ℕ → ℕ → List Given → ℕ
codes_refusal first last byte gs = lower (6 unless are_chars first last) (range_refusal (code_of first) (code_of last) byte gs)

-- of an entry with these names, whose refusals are `names`; bad is 2 or 0 for its bytes
unfoldable pub entry_refusal : ℕ → ℕ → List ℕ → List ℕ → ℕ → List Given → ℕ
entry_refusal bad names first last byte gs =
    lowest
    (bad
    ∷ names
    ∷ 6 unless are_chars first last
    ∷ 7 unless fits_in (code_of first) (code_of last) byte
    ∷ 10 unless not (fits_in (code_of first) (code_of last) byte && given_twice (code_of first) (code_of last) byte gs)
    ∷ [])

-- ## What the functions give

-- A character's name, and its code.
pub record CharOf (n : List ℕ) (c : ℕ) : Type 0 where
  pub shaped : is_char_name n ≡ true
  pub code : c ≡ code_of n
  pub small : c ≤ 0x10FFFF

abbrev pub CharIs : List ℕ → Option CodePoint → Type 0
CharIs n (Some c) = CharOf n c.0
CharIs n None = is_char_name n ≡ false

-- The codes of two characters with no other numbers between them.
pub record CodesBetween (first last : List ℕ) (low high : ℕ) : Type 0 where
  pub chars : are_chars first last ≡ true
  pub low-code : low ≡ code_of first
  pub high-code : high ≡ code_of last
  pub small : high ≤ 0x10FFFF

abbrev pub CodesAre : List ℕ → List ℕ → Option (CodePoint × CodePoint) → Type 0
CodesAre first last (Some (low, high)) = CodesBetween first last low.0 high.0
CodesAre first last None = are_chars first last ≡ false

-- With no refusal: n bytes from b on, and codes from c on, which areas have room for.
pub record Giving (refusal low high byte b c n : ℕ) : Type 0 where
  pub none : refusal ≡ 0
  pub from : b ≡ byte
  pub code : c ≡ low
  pub many : n ≡ suc (high - low)
  pub bytes : b + n ≤ 256
  pub codes : c + n ≤ 0x110000

-- The refusal, which is one.
pub record Refusing (refusal n : ℕ) : Type 0 where
  pub same : refusal ≡ n
  pub some : 0 < n

-- by a refusal, or none: what the codes from low to high give
abbrev pub OutcomeIs : ℕ → ℕ → ℕ → ℕ → Result (ℕ × CodePoint × ℕ) Refusal → Type 0
OutcomeIs refusal low high byte (Ok (b, c, n)) = Giving refusal low high byte b c.0 n
OutcomeIs refusal low high byte (Err r) = Refusing refusal (number_of r)

-- whatever is given that the area holds
abbrev pub RangeIs : List ℕ → ℕ → ℕ → ℕ → Result (ℕ × CodePoint × ℕ) Refusal → Type 0
RangeIs area low high byte r = (gs : List Given) → Holds area gs → OutcomeIs (range_refusal low high byte gs) low high byte r

-- the same of the codes of two names, whatever else the entry's line is refused for
abbrev pub CodesGive : List ℕ → List ℕ → ℕ → List ℕ → Result (ℕ × CodePoint × ℕ) Refusal → Type 0
CodesGive first last byte area r = (gs : List Given) → Holds area gs → OutcomeIs (codes_refusal first last byte gs) (code_of first) (code_of last) byte r

abbrev pub EntryIs : Bool → ℕ → List ℕ → List ℕ → ℕ → List ℕ → Result (ℕ × CodePoint × ℕ) Refusal → Type 0
EntryIs text names first last byte area r =
    (gs : List Given) → Holds area gs → OutcomeIs (entry_refusal (2 unless text) names first last byte gs) (code_of first) (code_of last) byte r

-- ## What is given after an entry

-- what an entry with these names gives
abbrev pub new_of : List ℕ → List ℕ → ℕ → List Given
new_of first last byte = counted (suc (code_of last - code_of first)) byte (code_of first)

-- An entry's refusal r, 0 for none; the area after it holds what is new too, or is as it was.
pub record Entered (refusal : ℕ) (gs new : List Given) (area after : List ℕ) (r : ℕ) : Type 0 where
  pub same : refusal ≡ r
  pub given : r ≡ 0 → Holds after (gs ++ new)
  pub untouched : (r ≡ 0 → ⊥) → after ≡ area

-- the number of what a function answers that gives nothing else
abbrev pub refusal_told : Result Unit Refusal → ℕ
refusal_told (Ok _) = 0
refusal_told (Err r) = number_of r

abbrev pub EnterIs : Bool → ℕ → List ℕ → List ℕ → ℕ → List ℕ → List ℕ → Result Unit Refusal → Type 0
EnterIs text names first last byte area after r =
    (gs : List Given) → Holds area gs → Entered (entry_refusal (2 unless text) names first last byte gs) gs (new_of first last byte) area after (refusal_told r)
