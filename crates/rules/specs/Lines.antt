-- 01, "Reading lines", its first two paragraphs: from bytes to joined lines, and the two characters that rule them.
use Rattle.std.specs.Prelude.{Bool, true, false, not, ◌&&◌, ◌||◌, List, [], ◌∷◌, ◌++◌, ℕ, suc, ◌+◌, length, get_or, drop, eqb, if◌then◌else◌}
use Rattle.rules.specs.Text.{bytes, within, every, is, begins, ◌unless◌}
use Rattle.rules.specs.Names.{is_blank, is_visible}
use Rattle.rules.specs.Tokens.{name, as_is, Token, token_at, the_name, single, without_blanks, tokens_of, without_gaps, is_entry}

-- ## The modes of a line as it is read: plain, in `<..>`, in quotes, in `<..>` in quotes, in a comment

abbrev pub in_plain : ℕ
in_plain = 0

abbrev pub in_name : ℕ
in_name = 1

abbrev pub quoted : ℕ
quoted = 2

abbrev pub quoted_name : ℕ
quoted_name = 3

abbrev pub in_comment : ℕ
in_comment = 4

-- the mode after a byte that stands: `<` is 60, `>` 62, `"` 34
unfoldable pub after : ℕ → ℕ → ℕ
after mode b =
    if eqb mode in_plain && eqb b 60 then in_name
    else if eqb mode in_plain && eqb b 34 then quoted
    else if eqb mode in_name && eqb b 62 then in_plain
    else if eqb mode quoted && eqb b 60 then quoted_name
    else if eqb mode quoted && eqb b 34 then in_plain
    else if eqb mode quoted_name && eqb b 62 then quoted
    else mode

-- ## What is in force for a line

-- The comment and escape characters, and where the line stands: outside every category, in the header of a charmap, or
-- between CHARMAP and END CHARMAP (none of these: in a category).
pub record Signs : Type 0 where
  pub comment : ℕ
  pub escape : ℕ
  pub outside : Bool
  pub header : Bool
  pub body : Bool

-- ## One byte more

-- A line as far as it is read. `fresh`: at its first byte, or after a blank; `escaped`: right after an escape; `ended`: its LF is
-- read; its marks (Tokens); how many LFs, and how many bytes, it has.
pub record Scan : Type 0 where
  pub mode : ℕ
  pub fresh : Bool
  pub escaped : Bool
  pub ended : Bool
  pub marks : List ℕ
  pub feeds : ℕ
  pub size : ℕ

-- a line's beginning
abbrev pub scan_start : Scan
scan_start = record { mode = in_plain; fresh = true; escaped = false; ended = false; marks = []; feeds = 0; size = 0 }

-- a byte that gives no mark, with the mode and the escape after it
abbrev pub dropped : Scan → ℕ → Bool → Scan
dropped s mode esc = record {
  mode = mode;
  fresh = s.fresh;
  escaped = esc;
  ended = false;
  marks = s.marks;
  feeds = s.feeds;
  size = suc s.size;
}

-- an LF: a join, or the end
abbrev pub fed : Scan → Bool → Scan
fed s end = record {
  mode = s.mode;
  fresh = s.fresh;
  escaped = false;
  ended = end;
  marks = s.marks;
  feeds = suc s.feeds;
  size = suc s.size;
}

-- a byte that gives the mark m, with the mode after it
abbrev pub marked : Scan → ℕ → Bool → ℕ → Scan
marked s mode fresh m = record {
  mode = mode;
  fresh = fresh;
  escaped = false;
  ended = false;
  marks = s.marks ++ m ∷ [];
  feeds = s.feeds;
  size = suc s.size;
}

-- the line so far is a word and blanks
unfoldable pub is_word_line : List ℕ → List ℕ → Bool
is_word_line w marks = begins w (without_blanks marks) && every is_blank (drop (length w) (without_blanks marks))

-- the line so far is the keyword comment_char or escape_char, and blanks
unfoldable pub is_sign_line : List ℕ → Bool
is_sign_line marks = is_word_line (bytes "comment_char") marks || is_word_line (bytes "escape_char") marks

-- of a charmap's header, `<comment_char>` or `<escape_char>`: "known by their name after escapes" (docs/DECISIONS.md)
unfoldable pub is_sign_header : List ℕ → Bool
is_sign_header marks =
    let ts : List Token = tokens_of marks in
    let n : List ℕ = the_name (token_at ts 0) in
    eqb (token_at ts 0).kind name && (is n "comment_char" || is n "escape_char") && eqb (length (without_gaps false (drop 1 ts))) 0

-- "c, taken as it stands": the first byte after the keyword and its blanks, on every such line outside categories (docs/DECISIONS.md)
unfoldable pub takes_as_is : Signs → Scan → ℕ → Bool
takes_as_is g s b =
    eqb s.mode in_plain && s.fresh && not (is_blank b)
    && ((g.header && is_sign_header s.marks) || (g.outside && is_sign_line s.marks))

-- "The comment character as a line's first byte, or after blanks, opens a comment to LF. Inside `<..>` or quotes that character is ordinary."
unfoldable pub opens_comment : Signs → Scan → ℕ → Bool
opens_comment g s b = eqb s.mode in_plain && s.fresh && eqb b g.comment

-- "then any comment": from the first blank after the byte (docs/DECISIONS.md)
unfoldable pub ends_entry : Signs → Scan → ℕ → Bool
ends_entry g s b = g.body && eqb s.mode in_plain && is_blank b && is_entry (tokens_of s.marks)

-- "Escape then LF, outside comments, joins two lines with nothing between"; "inside `<..>` or quotes is that byte; elsewhere it is malformed"
unfoldable pub scan_escaped : Scan → ℕ → Scan
scan_escaped s b =
    if eqb b 10 then fed s false
    else if eqb s.mode in_plain then marked s in_plain false (512 + b)
    else marked s s.mode false (256 + b)

-- "Lines end at LF"; "Escapes are read left to right."
unfoldable pub scan : Signs → Scan → ℕ → Scan
scan g s b =
    if s.escaped then scan_escaped s b
    else if eqb b 10 then fed s true
    else if eqb s.mode in_comment then dropped s in_comment false
    else if takes_as_is g s b then marked s in_plain false (256 + b)
    else if eqb b g.escape then dropped s s.mode true
    else if opens_comment g s b then dropped s in_comment false
    else if ends_entry g s b then dropped s in_comment false
    else marked s (after s.mode b) (is_blank b) b

-- ## A whole line

-- an escape as the source's last byte is malformed (docs/DECISIONS.md)
abbrev pub cut_short : Scan → ℕ → Scan
cut_short s escape = record {
  mode = s.mode;
  fresh = false;
  escaped = false;
  ended = false;
  marks = s.marks ++ (512 + escape) ∷ [];
  feeds = s.feeds;
  size = s.size;
}

-- "the last LF may be missing"
unfoldable pub line_from : Signs → Scan → List ℕ → Scan
line_from g s [] = if s.escaped then cut_short s g.escape else s
line_from g s (b ∷ bs) =
    let n : Scan = scan g s b in
    let r : Scan = line_from g n bs in
    if n.ended then n else r

-- the line that begins the bytes: its marks, how many LFs it has, and how many bytes it takes
unfoldable pub line_of : Signs → List ℕ → Scan
line_of g bs = line_from g scan_start bs

-- ## "Default comment character `#`, escape `\` (POSIX). `comment_char c` and `escape_char c`"

-- The two characters in force, and which of the two lines has stood.
pub record Chars : Type 0 where
  pub comment : ℕ
  pub escape : ℕ
  pub comment_set : Bool
  pub escape_set : Bool

-- `#` is 35, `\` 92
abbrev pub defaults : Chars
defaults = record { comment = 35; escape = 92; comment_set = false; escape_set = false }

-- "c .. is a visible byte other than a letter, a digit or one of `< > " ; , . _ -`"
unfoldable pub is_sign : ℕ → Bool
is_sign c = is_visible c && not (within 48 57 c || within 65 90 c || within 97 122 c) && every (λ (x : ℕ). not (eqb x c)) (bytes "<>\";,._-")

-- "may each stand once"; "After each such line the two in force must differ, or it is malformed"; its operands are one byte as it stands
unfoldable pub sign_refusal : Chars → Bool → List Token → ℕ
sign_refusal h isComment ts =
    let c : ℕ = get_or (token_at ts 0).text 0 0 in
    3 unless
    (single as_is ts && is_sign c
    && not (if isComment then h.comment_set else h.escape_set)
    && not (eqb c (if isComment then h.escape else h.comment)))

-- the two characters after such a line
unfoldable pub sign_set : Chars → Bool → List Token → Chars
sign_set h isComment ts =
    let c : ℕ = get_or (token_at ts 0).text 0 0 in
    if isComment
    then record { comment = c; escape = h.escape; comment_set = true; escape_set = h.escape_set }
    else record { comment = h.comment; escape = c; comment_set = h.comment_set; escape_set = true }
