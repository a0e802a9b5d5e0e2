-- 01, "Reading lines": the tokens of a joined line, from its marks.
-- A line's marks (Lines) are its bytes in order, without comments and joins. A byte after an escape inside `<..>` or quotes, and
-- the c of a comment_char or escape_char line, is 256 + b: that byte, as it stands. A byte after any other escape is 512 + b, and so is
-- an escape that ends the source.
use Rattle.std.specs.Prelude.{Bool, false, not, ◌&&◌, ◌||◌, List, [], ◌∷◌, ◌++◌, ℕ, ◌-◌, ◌%◌, length, get_or, drop, leb, eqb, if◌then◌else◌}
use Rattle.rules.specs.Text.{within, every, same, is, ◌unless◌, lowest}
use Rattle.rules.specs.Names.{is_blank, names_refusal, is_any_hex}

-- any other is a "byte outside 20 to 7E, tab and LF" (2), also after an escape
abbrev pub is_text : ℕ → Bool
is_text m = within 32 126 (m % 256) || eqb (m % 256) 9

-- ## The kinds of token: a blank; `;`; `,`; what is malformed, but for the `\x` of a charmap's entry; a word; a name; quotes; a byte as it stands

abbrev pub gap : ℕ
gap = 0

abbrev pub semi : ℕ
semi = 1

abbrev pub comma : ℕ
comma = 2

abbrev pub broken : ℕ
broken = 3

abbrev pub word : ℕ
word = 4

abbrev pub name : ℕ
name = 5

abbrev pub quote : ℕ
quote = 6

abbrev pub as_is : ℕ
as_is = 7

-- A word's bytes, a byte as it stands, or the byte after a malformed escape, is the token's text; a name, and what quotes hold, its names.
pub record Token : Type 0 where
  pub kind : ℕ
  pub text : List ℕ
  pub names : List (List ℕ)

-- a token of its kind, text and names
abbrev pub token : ℕ → List ℕ → List (List ℕ) → Token
token k t ns = record { kind = k; text = t; names = ns }

-- where there is none
abbrev pub no_token : Token
no_token = token broken [] []

-- the token at a place, from 0
abbrev pub token_at : List Token → ℕ → Token
token_at ts i = get_or ts i no_token

-- the one name that a name token is
abbrev pub the_name : Token → List ℕ
the_name t = get_or t.names 0 []

-- one token, of kind k
abbrev pub single : ℕ → List Token → Bool
single k [] = false
single k (t ∷ []) = eqb t.kind k
single k (t ∷ u ∷ ts) = false

-- ## From marks to tokens

-- The token being read: `part` is gap where none is; then its text, names, and the text of a name in quotes. `out`: what is read.
pub record Lexed : Type 0 where
  pub out : List Token
  pub part : ℕ
  pub text : List ℕ
  pub names : List (List ℕ)

-- so many tokens read, and this part of one
abbrev pub lexed : List Token → ℕ → List ℕ → List (List ℕ) → Lexed
lexed o p t ns = record { out = o; part = p; text = t; names = ns }

-- no token is open
abbrev pub no_part : List Token → Lexed
no_part o = lexed o gap [] []

-- a mark where no token is open: `;` is 59, `,` 44, `<` 60, `"` 34
unfoldable pub lex_none : List Token → ℕ → Lexed
lex_none o m =
    if is_blank m then no_part (o ++ token gap [] [] ∷ [])
    else if eqb m 59 then no_part (o ++ token semi [] [] ∷ [])
    else if eqb m 44 then no_part (o ++ token comma [] [] ∷ [])
    else if eqb m 60 then lexed o name [] []
    else if eqb m 34 then lexed o quote [] []
    else if leb 512 m then no_part (o ++ token broken ((m - 512) ∷ []) [] ∷ [])
    else if leb 256 m then no_part (o ++ token as_is ((m - 256) ∷ []) [] ∷ [])
    else lexed o word (m ∷ []) []

-- a name in quotes is being read
abbrev pub quoted_part : ℕ
quoted_part = 8

-- a word goes on up to a blank, `;`, `,`, `<`, `"` or an escape
abbrev pub in_word : ℕ → Bool
in_word m = not (is_blank m || eqb m 59 || eqb m 44 || eqb m 60 || eqb m 34 || leb 256 m)

-- "Escape then another byte inside `<..>` or quotes is that byte"; a byte in quotes outside `<..>` is malformed ("literal characters" are left out)
unfoldable pub lex : Lexed → ℕ → Lexed
lex l m =
    if eqb l.part word then
    (if in_word m then lexed l.out word (l.text ++ m ∷ []) []
    else lex_none (l.out ++ token word l.text [] ∷ []) m)
    else if eqb l.part name then
    (if eqb m 62 then no_part (l.out ++ token name [] (l.text ∷ []) ∷ [])
    else lexed l.out name (l.text ++ m % 256 ∷ []) [])
    else if eqb l.part quote then
    (if eqb m 34 then no_part (l.out ++ token quote [] l.names ∷ [])
    else if eqb m 60 then lexed l.out quoted_part [] l.names
    else lexed (l.out ++ token broken [] [] ∷ []) quote [] l.names)
    else if eqb l.part quoted_part then
    (if eqb m 62 then lexed l.out quote [] (l.names ++ l.text ∷ [])
    else lexed l.out quoted_part (l.text ++ m % 256 ∷ []) l.names)
    else lex_none l.out m

-- at the end of the line a word is whole, and a name or quotes are still open: malformed
unfoldable pub lex_end : Lexed → List Token
lex_end l =
    if eqb l.part gap then l.out
    else if eqb l.part word then l.out ++ token word l.text [] ∷ []
    else l.out ++ token broken [] [] ∷ []

-- the tokens of these marks, after what is read
unfoldable pub tokens_from : Lexed → List ℕ → List Token
tokens_from l [] = lex_end l
tokens_from l (m ∷ ms) = tokens_from (lex l m) ms

-- without the blanks that open it
unfoldable pub without_blanks : List ℕ → List ℕ
without_blanks [] = []
without_blanks (b ∷ bs) =
    let r : List ℕ = without_blanks bs in
    if is_blank b then r else b ∷ bs

-- blanks "may open .. a line"
unfoldable pub tokens_of : List ℕ → List Token
tokens_of marks = tokens_from (no_part []) (without_blanks marks)

-- ## What follows a line's first token

-- no blank and no separator
abbrev pub is_solid : Token → Bool
is_solid t = leb broken t.kind

-- "Blanks (space, tab) separate words, may .. close a line and surround `;` and `,`": the tokens without gaps. Two that are no
-- separators with no blank between them are malformed; `glued`: such a one stands right before.
unfoldable pub without_gaps : Bool → List Token → List Token
without_gaps glued [] = []
without_gaps glued (t ∷ ts) =
    let r : List Token = without_gaps (is_solid t) ts in
    if eqb t.kind gap then r
    else if glued && is_solid t then token broken [] [] ∷ t ∷ r
    else t ∷ r

-- "one stands before the first operand"
unfoldable pub operands : List Token → List Token
operands [] = []
operands (t ∷ ts) = if eqb t.kind gap then without_gaps false ts else token broken [] [] ∷ []

-- ## Refusals that a line's tokens give wherever they stand: "`""` and `<>` are malformed anywhere"

-- also the refusals of every name
unfoldable pub tokens_refusal : List Token → ℕ
tokens_refusal [] = 0
tokens_refusal (t ∷ ts) =
    lowest
    (3 unless not (eqb t.kind broken || (eqb t.kind quote && eqb (length t.names) 0))
    ∷ names_refusal t.names
    ∷ tokens_refusal ts
    ∷ [])

-- ## A line that is passed over: "escape then another byte is skipped", and words are the runs between blanks

-- the marks that no escape stood before
unfoldable pub plain_marks : List ℕ → List ℕ
plain_marks [] = []
plain_marks (m ∷ ms) =
    let r : List ℕ = plain_marks ms in
    if leb 256 m then r else m ∷ r

-- a word before others, if it has a byte
abbrev pub word_then : List ℕ → List (List ℕ) → List (List ℕ)
word_then [] ws = ws
word_then (b ∷ bs) ws = (b ∷ bs) ∷ ws

-- the words of the marks, the first of which begins with w
unfoldable pub words_of : List ℕ → List ℕ → List (List ℕ)
words_of w [] = word_then w []
words_of w (m ∷ ms) =
    let r : List (List ℕ) = words_of (if is_blank m then [] else w ++ m ∷ []) ms in
    if is_blank m then word_then w r else r

-- ## An entry of a charmap (01, "Charmaps")

-- without the gaps that open it
unfoldable pub without_opening_gaps : List Token → List Token
without_opening_gaps [] = []
without_opening_gaps (t ∷ ts) =
    let r : List Token = without_opening_gaps ts in
    if eqb t.kind gap then r else t ∷ ts

-- "one byte as escape `x` two hex digits of either case", after blanks; `x` is 120
unfoldable pub is_byte : List Token → Bool
is_byte ts =
    let rs : List Token = without_opening_gaps ts in
    let d : Token = token_at rs 1 in
    eqb (token_at ts 0).kind gap
    && eqb (length rs) 2
    && eqb (token_at rs 0).kind broken
    && same (token_at rs 0).text (120 ∷ [])
    && eqb d.kind word
    && eqb (length d.text) 2
    && every is_any_hex d.text

-- "`<first>..<last>`", with no blanks around the dots
unfoldable pub is_range : List Token → Bool
is_range ts = eqb (token_at ts 1).kind word && is (token_at ts 1).text ".." && eqb (token_at ts 2).kind name

-- "a character, or `<first>..<last>` .., blanks, one byte"
unfoldable pub is_entry : List Token → Bool
is_entry ts = eqb (token_at ts 0).kind name && (if is_range ts then is_byte (drop 3 ts) else is_byte (drop 1 ts))
