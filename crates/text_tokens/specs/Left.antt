-- The tokens of a line as code reads them: what is still to come at a spot is the paper's own list (Rattle.rules.specs.Tokens).
use Rattle.std.specs.Prelude.{◌≡◌, Bool, true, false, ◌&&◌, ◌||◌, not, List, [], ◌∷◌, ◌++◌, ℕ, suc, ◌+◌, ◌%◌, ◌≤◌, ◌<◌, length, get_or, take, drop, eqb, leb, if◌then◌else◌, None, Option, Some}
use Rattle.rules.specs.Text.{every, one_of, ◌unless◌, lower}
use Rattle.rules.specs.Names.{is_visible, name_refusal, names_refusal}
use Rattle.rules.specs.Lines as lines
use Rattle.rules.specs.Lines.{in_plain, in_name, quoted, quoted_name}
use Rattle.rules.specs.Tokens as tokens
use Rattle.rules.specs.Tokens.{broken, word, name, quote, Token, token_at, no_part, in_word, tokens_from, without_blanks, without_opening_gaps, tokens_refusal, lexed, token}
use Rattle.base_units.specs.declared.Refusal.{Refusal}
use Rattle.base_units.specs.Numbers.{number_or_none}
use Rattle.text_lines.specs.declared.Signs.{Signs}
use Rattle.text_lines.specs.declared.Spot.{Spot}
use Rattle.text_lines.specs.Stream.{marks_left, Walk}
use Rattle.text_tokens.specs.declared.NameStep.{NameStep}
use Rattle.text_tokens.specs.declared.NameStep.TheVariants as nameStep
use Rattle.text_tokens.specs.declared.Tok.{Tok}
use Rattle.text_tokens.specs.declared.Next.{Next}
use Rattle.text_tokens.specs.declared.Next.TheVariants as next

-- ## Tokens from a spot on

-- the tokens still to come, where none is open
unfoldable pub tokens_left : Signs → List ℕ → Spot → List Token
tokens_left g src p = tokens_from (no_part []) (marks_left g src p)

-- the token that begins at a spot
unfoldable pub token_there : Signs → List ℕ → Spot → Token
token_there g src p = token_at (tokens_left g src p) 0

-- ## Words

-- the bytes with which marks go on in a word
unfoldable pub word_in : List ℕ → List ℕ
word_in [] = []
word_in (m ∷ ms) =
    let r : List ℕ = word_in ms in
    if in_word m then m ∷ r else []

-- the marks after them
unfoldable pub after_word : List ℕ → List ℕ
after_word [] = []
after_word (m ∷ ms) =
    let r : List ℕ = after_word ms in
    if in_word m then r else m ∷ ms

-- ## Names

-- `>`, with no escape before it
abbrev pub is_close : ℕ → Bool
is_close m = eqb m 62

-- inside a name, in quotes or not
abbrev pub is_inside : ℕ → Bool
is_inside mode = eqb mode in_name || eqb mode quoted_name

-- the bytes of a name up to its `>`
unfoldable pub name_in : List ℕ → List ℕ
name_in [] = []
name_in (m ∷ ms) =
    let r : List ℕ = name_in ms in
    if is_close m then [] else m % 256 ∷ r

-- the marks after it
unfoldable pub after_name : List ℕ → List ℕ
after_name [] = []
after_name (m ∷ ms) =
    let r : List ℕ = after_name ms in
    if is_close m then ms else r

-- ### Bytes that stand for themselves in a name

-- with this escape: visible, no `>` and no escape
abbrev pub is_plain : ℕ → ℕ → Bool
is_plain escape b = is_visible b && not (is_close b) && not (eqb b escape)

-- how many of them come first
unfoldable pub plain_in : ℕ → List ℕ → ℕ
plain_in escape [] = 0
plain_in escape (b ∷ bs) =
    let r : ℕ = plain_in escape bs in
    if is_plain escape b then suc r else 0

-- The place up to which they go on.
pub record PlainTo (src : List ℕ) (escape at r : ℕ) : Type 0 where
  pub is : r ≡ at + plain_in escape (drop at src)
  pub to : r ≤ length src

-- ## Bytes that stand for themselves in plain mode

-- the byte at a place; 0 for the end, an LF, an escape, the comment character
unfoldable pub plain_at : Signs → List ℕ → ℕ → ℕ
plain_at g src at =
    let b : ℕ = get_or src at 0 in
    if eqb b g.escape || eqb b g.comment || eqb b 10 then 0 else b

pub record PlainAt (g : Signs) (src : List ℕ) (at r : ℕ) : Type 0 where
  pub is : r ≡ plain_at g src at
  pub small : r < 256

-- ## Quotes

-- the names in quotes, up to the closing `"`; inside: a name is passed over up to its `>`
unfoldable pub names_from : Bool → List ℕ → List (List ℕ)
names_from inside [] = []
names_from true (m ∷ ms) = names_from (not (is_close m)) ms
names_from false (m ∷ ms) =
    let r : List (List ℕ) = names_from (eqb m 60) ms in
    if eqb m 34 then [] else if eqb m 60 then name_in ms ∷ r else r

-- the names still to come in quotes
abbrev pub names_in : List ℕ → List (List ℕ)
names_in ms = names_from false ms

-- ## What the readers of words give

-- A byte of a word, and the spot after it.
pub record WordByte (g : Signs) (src : List ℕ) (p : Spot) (b : ℕ) (q : Spot) : Type 0 where
  pub bytes : word_in (marks_left g src p) ≡ b ∷ word_in (marks_left g src q)
  pub after : after_word (marks_left g src p) ≡ after_word (marks_left g src q)
  pub mode : p.mode ≡ in_plain → q.mode ≡ in_plain
  pub edge : q.fresh ≡ false
  pub on : p.at < q.at
  pub walk : Walk g src p q
  pub to : q.at ≤ length src

-- The word ends.
pub record WordStops (g : Signs) (src : List ℕ) (p : Spot) : Type 0 where
  pub bytes : word_in (marks_left g src p) ≡ []
  pub after : after_word (marks_left g src p) ≡ marks_left g src p

abbrev pub WordStepIs : Signs → List ℕ → Spot → Option (ℕ × Spot) → Type 0
WordStepIs g src p (Some (b, q)) = WordByte g src p b q
WordStepIs g src p None = WordStops g src p

-- The word w stands in front of the area, or as much of it as there is room for, n bytes; what lies behind them is as it was.
pub record CopiesWord (w area after : List ℕ) (n : ℕ) : Type 0 where
  pub copied : after ≡ take (length area) w ++ drop (length w) area
  pub count : n ≡ length (take (length area) w)

-- The spot after a word that goes on.
pub record WordEnds (g : Signs) (src : List ℕ) (p q : Spot) : Type 0 where
  pub after : marks_left g src q ≡ after_word (marks_left g src p)
  pub mode : q.mode ≡ in_plain
  pub edge : p.fresh ≡ false → q.fresh ≡ false
  pub long : length (word_in (marks_left g src p)) + p.at ≤ q.at
  pub from : p.at ≤ q.at
  pub walk : Walk g src p q
  pub to : q.at ≤ length src

-- ## What the readers of names give

-- A byte of a name, and the spot after it.
pub record NameByte (g : Signs) (src : List ℕ) (p : Spot) (b : ℕ) (q : Spot) : Type 0 where
  pub bytes : name_in (marks_left g src p) ≡ b ∷ name_in (marks_left g src q)
  pub after : after_name (marks_left g src p) ≡ after_name (marks_left g src q)
  pub closes : one_of is_close (marks_left g src p) ≡ one_of is_close (marks_left g src q)
  pub mode : is_inside p.mode ≡ true → q.mode ≡ p.mode
  pub on : p.at < q.at
  pub walk : Walk g src p q
  pub to : q.at ≤ length src

-- The name is closed: the spot after its `>`.
pub record NameCloses (g : Signs) (src : List ℕ) (p q : Spot) : Type 0 where
  pub bytes : name_in (marks_left g src p) ≡ []
  pub after : after_name (marks_left g src p) ≡ marks_left g src q
  pub closes : one_of is_close (marks_left g src p) ≡ true
  pub mode : q.mode ≡ lines.after p.mode 62
  pub edge : q.fresh ≡ false
  pub on : p.at < q.at
  pub walk : Walk g src p q
  pub to : q.at ≤ length src

-- The line leaves the name open.
pub record NameOpen (g : Signs) (src : List ℕ) (p : Spot) : Type 0 where
  pub bytes : name_in (marks_left g src p) ≡ []
  pub closes : one_of is_close (marks_left g src p) ≡ false

abbrev pub NameStepIs : Signs → List ℕ → Spot → NameStep → Type 0
NameStepIs g src p (nameStep.Byte b q) = NameByte g src p b q
NameStepIs g src p (nameStep.Close q) = NameCloses g src p q
NameStepIs g src p nameStep.Open = NameOpen g src p

-- A name that is closed: its refusal, and the spot after it.
pub record NameEnds (g : Signs) (src : List ℕ) (p : Spot) (r : Option Refusal) (q : Spot) : Type 0 where
  pub refusal : name_refusal (name_in (marks_left g src p)) ≡ number_or_none r
  pub after : after_name (marks_left g src p) ≡ marks_left g src q
  pub closes : one_of is_close (marks_left g src p) ≡ true
  pub mode : q.mode ≡ lines.after p.mode 62
  pub edge : q.fresh ≡ false
  pub long : length (name_in (marks_left g src p)) + p.at < q.at
  pub on : p.at < q.at
  pub walk : Walk g src p q
  pub to : q.at ≤ length src

abbrev pub ClosingIs : Signs → List ℕ → Spot → Option (Option Refusal × Spot) → Type 0
ClosingIs g src p (Some (r, q)) = NameEnds g src p r q
ClosingIs g src p None = one_of is_close (marks_left g src p) ≡ false

-- The same of a name with k visible bytes more, which stand before p.
pub record NameEndsAfter (k : ℕ) (g : Signs) (src : List ℕ) (p : Spot) (r : Option Refusal) (q : Spot) : Type 0 where
  pub refusal : lower (3 unless (leb 1 (k + length (name_in (marks_left g src p))) && every is_visible (name_in (marks_left g src p)))) (7 unless leb (k + length (name_in (marks_left g src p))) 32) ≡ number_or_none r
  pub after : after_name (marks_left g src p) ≡ marks_left g src q
  pub closes : one_of is_close (marks_left g src p) ≡ true
  pub mode : q.mode ≡ lines.after p.mode 62
  pub edge : q.fresh ≡ false
  pub long : length (name_in (marks_left g src p)) + p.at < q.at
  pub walk : Walk g src p q
  pub to : q.at ≤ length src

abbrev pub ClosingAfter : ℕ → Signs → List ℕ → Spot → Option (Option Refusal × Spot) → Type 0
ClosingAfter k g src p (Some (r, q)) = NameEndsAfter k g src p r q
ClosingAfter k g src p None = one_of is_close (marks_left g src p) ≡ false

-- Quotes that hold names only, from the spot after the opening `"`: how many, their lowest refusal, and the spot after the closing one.
pub record QuotesEnd (g : Signs) (src : List ℕ) (p : Spot) (n : ℕ) (r : Option Refusal) (q : Spot) : Type 0 where
  pub token : tokens_from (lexed [] quote [] []) (marks_left g src p) ≡ token quote [] (names_in (marks_left g src p)) ∷ tokens_left g src q
  pub many : length (names_in (marks_left g src p)) ≡ n
  pub refusal : names_refusal (names_in (marks_left g src p)) ≡ number_or_none r
  pub mode : q.mode ≡ in_plain
  pub edge : q.fresh ≡ false
  pub on : p.at < q.at
  pub walk : Walk g src p q
  pub to : q.at ≤ length src

abbrev pub QuotesIs : Signs → List ℕ → Spot → Option (ℕ × Option Refusal × Spot) → Type 0
QuotesIs g src p (Some (n, r, q)) = QuotesEnd g src p n r q
QuotesIs g src p None = tokens_refusal (tokens_from (lexed [] quote [] []) (marks_left g src p)) ≡ 3

-- ## What the reader of tokens gives

-- a token that is no more than its kind
abbrev pub bare_at : ℕ → Spot → Tok
bare_at kind next = record { kind = kind; next = next; inside = next; names = 0; refusal = None; byte = 0 }

-- a name's token
abbrev pub named_at : Option Refusal → Spot → Spot → Tok
named_at refusal inside next = record { kind = 5; next = next; inside = inside; names = 1; refusal = refusal; byte = 0 }

-- A token and the spot after it. Of a word and of what a name or quotes hold the bytes are read from the spot itself, or from the spot
-- after the first mark.
pub record TokenIs (g : Signs) (src : List ℕ) (p : Spot) (t : Tok) : Type 0 where
  pub first : tokens_left g src p ≡ token_there g src p ∷ tokens_left g src t.next
  pub kind : (token_there g src p).kind ≡ t.kind
  pub names : length (token_there g src p).names ≡ t.names
  pub refusal : tokens_refusal (token_there g src p ∷ []) ≡ number_or_none t.refusal
  pub dead : t.kind ≡ broken → (token_there g src p).text ≡ t.byte ∷ []
  pub word : t.kind ≡ word → (token_there g src p).text ≡ word_in (marks_left g src p)
  pub name : t.kind ≡ name → (token_there g src p).names ≡ name_in (marks_left g src t.inside) ∷ []
  pub quote : t.kind ≡ quote → (token_there g src p).names ≡ names_in (marks_left g src t.inside)
  pub name-mode : t.kind ≡ tokens.name → t.inside.mode ≡ in_name
  pub quote-mode : t.kind ≡ tokens.quote → t.inside.mode ≡ quoted
  pub plain : t.next.mode ≡ in_plain
  pub edge : broken ≤ t.kind → t.next.fresh ≡ false
  pub long-word : t.kind ≡ tokens.word → length (token_there g src p).text + p.at ≤ t.next.at
  pub long-name : t.kind ≡ tokens.name → length (name_in (marks_left g src t.inside)) + t.inside.at < t.next.at
  pub on : p.at < t.next.at
  pub walk : Walk g src p t.next
  pub enter : Walk g src p t.inside
  pub leave : Walk g src t.inside t.next
  pub to : t.next.at ≤ length src
  pub inside : t.inside.at ≤ length src

abbrev pub NextIs : Signs → List ℕ → Spot → Next → Type 0
NextIs g src p (next.Token t) = TokenIs g src p t
NextIs g src p next.Broken = tokens_refusal (tokens_left g src p) ≡ 3
NextIs g src p next.End = tokens_left g src p ≡ []

-- The spot after the blanks that come next.
pub record Skips (g : Signs) (src : List ℕ) (p q : Spot) : Type 0 where
  pub marks : marks_left g src q ≡ without_blanks (marks_left g src p)
  pub tokens : tokens_left g src q ≡ without_opening_gaps (tokens_left g src p)
  pub mode : q.mode ≡ in_plain
  pub from : p.at ≤ q.at
  pub walk : Walk g src p q
  pub to : q.at ≤ length src

-- there is none
abbrev pub is_none : List ℕ → Bool
is_none [] = true
is_none (m ∷ ms) = false

-- nothing but blanks
abbrev pub only_blanks : List ℕ → Bool
only_blanks ms = is_none (without_blanks ms)

-- no byte is taken as it stands where something but blanks comes first
abbrev pub NoneTaken : List ℕ → Type 0
NoneTaken ms = (m : ℕ) (ns : List ℕ) → without_blanks ms ≡ m ∷ ns → 256 ≤ m → 512 ≤ m

-- Whether nothing but blanks is left from a spot on.
pub record RestIs (g : Signs) (src : List ℕ) (p : Spot) (r : Bool) : Type 0 where
  pub blanks : r ≡ only_blanks (marks_left g src p)
  pub dead : NoneTaken (marks_left g src p)
