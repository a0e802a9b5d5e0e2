-- 01, "Charmaps": a charmap source to its 512 numbers, or a refusal and its line.
use Rattle.std.specs.Prelude.{Bool, true, false, not, ◌&&◌, List, [], ◌∷◌, ◌++◌, map, ℕ, zero, suc, pred, ◌+◌, ◌-◌, length, drop, ltb, leb, eqb, if◌then◌else◌}
use Rattle.rules.specs.Text.{every, one_of, is, begins, ◌unless◌, lower, lowest, Result, granted, refused}
use Rattle.rules.specs.Names.{names_refusal, hex_value, code_of, is_char_name}
use Rattle.rules.specs.Tokens.{is_text, word, Token, token_at, the_name, single, without_blanks, tokens_of, operands, is_range, is_entry}
use Rattle.rules.specs.Lines.{Signs, Scan, line_of, Chars, defaults, sign_refusal, sign_set}

-- ## The state between two lines

-- A byte, and the character that it decodes to.
pub record Given : Type 0 where
  pub byte : ℕ
  pub code : ℕ

-- The two characters in force; whether CHARMAP, and END CHARMAP, have stood; what is given, in the source's order.
pub record Mapping : Type 0 where
  pub chars : Chars
  pub opened : Bool
  pub closed : Bool
  pub given : List Given

-- before the first line
abbrev pub map_start : Mapping
map_start = record { chars = defaults; opened = false; closed = false; given = [] }

-- A line's outcome: its refusal, or 0 and the state after it.
pub record MapOutcome : Type 0 where
  pub refusal : ℕ
  pub mapping : Mapping

-- a refusal, or 0, and a state
abbrev pub leaves : ℕ → Mapping → MapOutcome
leaves r m = record { refusal = r; mapping = m }

-- ## Header lines: "Header lines begin with `<`; `<comment_char> c` and `<escape_char> c` act as above, others are passed over."

-- `<comment_char> c` or `<escape_char> c`, with its operands, and 2 or 0 for its bytes
unfoldable pub sign_header : Mapping → Bool → List Token → ℕ → MapOutcome
sign_header m isComment os bad =
    leaves
    (lower bad (sign_refusal m.chars isComment os))
    (record { chars = sign_set m.chars isComment os; opened = false; closed = false; given = [] })

-- a line that begins with `<` (60)
abbrev pub is_header : List ℕ → Bool
is_header marks = begins (60 ∷ []) (without_blanks marks)

-- a word alone
abbrev pub is_word : Token → List Token → Bool
is_word t os = eqb t.kind word && eqb (length os) 0

-- "others are passed over" whole; any other line but CHARMAP alone is malformed
unfoldable pub header_line : Mapping → List ℕ → MapOutcome
header_line m marks =
    let ts : List Token = tokens_of marks in
    let os : List Token = operands (drop 1 ts) in
    let n : List ℕ = the_name (token_at ts 0) in
    let bad : ℕ = 2 unless every is_text marks in
    if eqb (length ts) 0 then leaves 0 m
    else if not (is_header marks)
    then leaves
    (lower bad (3 unless (is_word (token_at ts 0) os && is (token_at ts 0).text "CHARMAP")))
    (record { chars = m.chars; opened = true; closed = false; given = [] })
    else if is n "comment_char" then sign_header m true os bad
    else if is n "escape_char" then sign_header m false os bad
    else leaves 0 m

-- ## Entries: "a character, or `<first>..<last>` counted in hex, blanks, one byte as escape `x` two hex digits of either case, then any comment"

-- n bytes from b on, and codes from c on
unfoldable pub counted : ℕ → ℕ → ℕ → List Given
counted zero b c = []
counted (suc n) b c = record { byte = b; code = c } ∷ counted n (suc b) (suc c)

-- it gives the byte b
unfoldable pub gives_byte : ℕ → Given → Bool
gives_byte b g = eqb b g.byte

-- its byte is given already
unfoldable pub is_given : List Given → Given → Bool
is_given gs g = one_of (gives_byte g.byte) gs

-- the last one, an entry's digits
abbrev pub last_token : List Token → Token
last_token ts = token_at ts (pred (length ts))

-- "a name or code that is no character where one must stand" (6), also inside the range; "charmap byte past FF or range backwards"
-- (7); "charmap byte given twice" (10)
unfoldable pub entry_line : Mapping → List Token → ℕ → MapOutcome
entry_line m ts bad =
    let first : List ℕ = the_name (token_at ts 0) in
    let last : List ℕ = if is_range ts then the_name (token_at ts 2) else first in
    let low : ℕ = code_of first in
    let high : ℕ = code_of last in
    let byte : ℕ = hex_value 0 (last_token ts).text in
    let fits : Bool = leb low high && leb (byte + (high - low)) 255 in
    let new : List Given = counted (suc (high - low)) byte low in
    leaves
    (lowest
    (bad
    ∷ names_refusal (first ∷ last ∷ [])
    ∷ 6 unless (every is_char_name (first ∷ last ∷ []) && not (ltb low 0xD800 && ltb 0xDFFF high))
    ∷ 7 unless fits
    ∷ 10 unless not (fits && one_of (is_given m.given) new)
    ∷ []))
    (record { chars = m.chars; opened = true; closed = false; given = m.given ++ new })

-- "From `CHARMAP` to `END CHARMAP`"
unfoldable pub body_line : Mapping → List ℕ → MapOutcome
body_line m marks =
    let ts : List Token = tokens_of marks in
    let os : List Token = operands (drop 1 ts) in
    let bad : ℕ = 2 unless every is_text marks in
    if eqb (length ts) 0 then leaves 0 m
    else if is_entry ts then entry_line m ts bad
    else leaves
    (lower bad (3 unless (is (token_at ts 0).text "END" && single word os && is (token_at os 0).text "CHARMAP")))
    (record { chars = m.chars; opened = true; closed = true; given = m.given })

-- ## All lines

-- The refusal, 0 for none, and its line; what is given.
pub record MapEnded : Type 0 where
  pub refusal : ℕ
  pub line : ℕ
  pub given : List Given

-- a refusal, or 0, with its line, and what is given
abbrev pub map_ended : ℕ → ℕ → List Given → MapEnded
map_ended r l gs = record { refusal = r; line = l; given = gs }

-- what is in force for the next line (Lines)
abbrev pub map_signs : Mapping → Signs
map_signs m = record {
  comment = m.chars.comment;
  escape = m.chars.escape;
  outside = false;
  header = not m.opened;
  body = m.opened;
}

-- the lines from line `number` on; the first k bytes belong to a line that is already read. "Text after the end is passed over"; a
-- missing end is 3, at "the count of LFs plus 1"
unfoldable pub map_lines_from : Mapping → ℕ → ℕ → List ℕ → MapEnded
map_lines_from m number k [] = if m.closed then map_ended 0 0 m.given else map_ended 3 number []
map_lines_from m number (suc k) (b ∷ bs) = map_lines_from m number k bs
map_lines_from m number zero (b ∷ bs) =
    let l : Scan = line_of (map_signs m) (b ∷ bs) in
    let o : MapOutcome = if m.opened then body_line m l.marks else header_line m l.marks in
    let r : MapEnded = map_lines_from o.mapping (number + l.feeds) (pred l.size) bs in
    if m.closed then map_ended 0 0 m.given
    else if eqb o.refusal 0 then r
    else map_ended o.refusal number []

-- ## The 512 numbers

-- "110000 hex for none"
abbrev pub no_code : ℕ
no_code = 0x110000

-- "for each byte its code"
unfoldable pub code_given : List Given → ℕ → ℕ
code_given [] b = no_code
code_given (g ∷ gs) b = if eqb b g.byte then g.code else code_given gs b

-- "A character may have several bytes: the first encodes, all decode": the first byte of a code; 256 for none
unfoldable pub first_byte : List Given → ℕ → ℕ
first_byte [] c = 256
first_byte (g ∷ gs) c = if eqb c g.code then g.byte else first_byte gs c

-- "then 1 where that byte encodes its code, else 0"
unfoldable pub encodes : List Given → ℕ → ℕ
encodes gs b = if eqb (first_byte gs (code_given gs b)) b then 1 else 0

-- n numbers from b on
unfoldable pub numbers_from : ℕ → ℕ → List ℕ
numbers_from zero b = []
numbers_from (suc n) b = b ∷ numbers_from n (suc b)

-- "The result is 512 numbers"
unfoldable pub area_of : List Given → List ℕ
area_of gs = map (code_given gs) (numbers_from 256 0) ++ map (encodes gs) (numbers_from 256 0)

-- ## The whole

-- a source, and an area of so many numbers; "table area too short (charmap: under 512)" (9)
unfoldable pub charmap_of : List ℕ → ℕ → Result (List ℕ)
charmap_of source area =
    let e : MapEnded = map_lines_from map_start 1 0 source in
    if ltb 1048576 (length source) then refused 1 0
    else if not (eqb e.refusal 0) then refused e.refusal e.line
    else if ltb area 512 then refused 9 0
    else granted (area_of e.given)
