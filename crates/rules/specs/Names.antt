-- 01, "Reading lines", its third paragraph: names, and the names that are characters.
use Rattle.std.specs.Prelude.{Bool, false, not, ◌&&◌, ◌||◌, List, [], ◌∷◌, map, ℕ, ◌+◌, ◌-◌, ◌*◌, length, drop, leb, eqb, if◌then◌else◌}
use Rattle.rules.specs.Text.{within, every, ◌unless◌, lower, lowest}

-- "Blanks (space, tab)"
abbrev pub is_blank : ℕ → Bool
is_blank b = eqb b 32 || eqb b 9

-- "21 to 7E hex"
abbrev pub is_visible : ℕ → Bool
is_visible b = within 33 126 b

-- "A name has 1 to 32 bytes, 21 to 7E hex, after escapes"; "`<>` [is] malformed anywhere"; 7: "a number above exceeded: .. names"
unfoldable pub name_refusal : List ℕ → ℕ
name_refusal n = lower (3 unless (leb 1 (length n) && every is_visible n)) (7 unless leb (length n) 32)

-- the lowest refusal of these names
unfoldable pub names_refusal : List (List ℕ) → ℕ
names_refusal ns = lowest (map name_refusal ns)

-- "uppercase hex digits"
abbrev pub is_hex : ℕ → Bool
is_hex b = within 48 57 b || within 65 70 b

-- "hex digits of either case"
abbrev pub is_any_hex : ℕ → Bool
is_any_hex b = is_hex b || within 97 102 b

-- a hex digit's value, of either case
abbrev pub digit : ℕ → ℕ
digit b = if leb b 57 then b - 48 else if leb b 70 then b - 55 else b - 87

-- the number that digits go on with after the value v
unfoldable pub hex_value : ℕ → List ℕ → ℕ
hex_value v [] = v
hex_value v (b ∷ bs) = hex_value (v * 16 + digit b) bs

-- "`U` followed by exactly four or eight uppercase hex digits is a character"
unfoldable pub char_shaped : List ℕ → Bool
char_shaped [] = false
char_shaped (b ∷ bs) = eqb b 85 && (eqb (length bs) 4 || eqb (length bs) 8) && every is_hex bs

-- "`<U0041>` and `<U00000041>` are one character": the code of a name so shaped
unfoldable pub code_of : List ℕ → ℕ
code_of n = hex_value 0 (drop 1 n)

-- "at most 10FFFF and not D800 to DFFF"
abbrev pub is_character : ℕ → Bool
is_character c = leb c 0x10FFFF && not (within 0xD800 0xDFFF c)

-- the name of a character; else "a name or code that is no character where one must stand" (6)
unfoldable pub is_char_name : List ℕ → Bool
is_char_name n = char_shaped n && is_character (code_of n)
