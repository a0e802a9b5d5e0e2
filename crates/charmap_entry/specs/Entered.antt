-- A line between CHARMAP and END CHARMAP: an entry with its parts, or a plain line.
use Rattle.std.specs.Prelude.{◌≡◌, Bool, true, false, not, ◌&&◌, ◌||◌, List, [], ◌∷◌, ◌++◌, ℕ, ◌+◌, ◌≤◌, ◌<◌, length, drop, eqb, if◌then◌else◌, None, Option, Some}
use Rattle.rules.specs.Text.{every, same}
use Rattle.rules.specs.Names.{is_blank, name_refusal, names_refusal, is_any_hex, digit, hex_value}
use Rattle.rules.specs.Tokens.{is_text, gap, broken, word, name, Token, token, token_at, the_name, no_part, tokens_from, tokens_of, without_opening_gaps, is_range, is_entry}
use Rattle.rules.specs.Charmap.{last_token}
use Rattle.rules.specs.Lines as paper
use Rattle.rules.specs.Lines.{in_plain, in_comment, Scan, line_from, line_of}
use Rattle.base_units.specs.declared.Refusal.{Refusal}
use Rattle.base_units.specs.Numbers.{number_or_none}
use Rattle.text_lines.specs.declared.Signs.{Signs}
use Rattle.text_lines.specs.declared.Spot.{Spot}
use Rattle.text_lines.specs.Stream.{state_in, line_left, marks_left, line_start, Run}
use Rattle.text_tokens.specs.Left.{tokens_left, Skips}
use Rattle.text_names.specs.Named.{name_left}
use Rattle.charmap_entry.specs.declared.Head.{Head}
use Rattle.charmap_entry.specs.declared.Parts.{Parts}

-- what is in force between CHARMAP and END CHARMAP
abbrev pub body_signs : Signs → paper.Signs
body_signs g = record { comment = g.comment; escape = g.escape; outside = false; header = false; body = true }

-- ## The line behind the digits

-- a spot in plain mode right after a mark that is no blank
abbrev pub plain_at : ℕ → Spot
plain_at at = record { at = at; mode = in_plain; fresh = false }

-- a spot in a comment
abbrev pub hidden_at : ℕ → Spot
hidden_at at = record { at = at; mode = in_comment; fresh = false }

-- the line ends here, or a blank stands here
abbrev pub stops : ℕ → List ℕ → Bool
stops escape [] = true
stops escape (b ∷ bs) = eqb b 10 || (not (eqb b escape) && is_blank b)

-- From a place to another only joins are passed.
pub record Passed (g : Signs) (src : List ℕ) (at i : ℕ) : Type 0 where
  pub feeds : ℕ
  pub bytes : ℕ
  pub few : feeds ≤ bytes
  pub moved : at + bytes ≡ i
  pub to : i ≤ length src
  pub same : marks_left g src (plain_at at) ≡ marks_left g src (plain_at i)
  pub goes : (done : List ℕ) (f z : ℕ)
      → line_from (body_signs g) (state_in in_plain false done f z) (drop at src)
      ≡ line_from (body_signs g) (state_in in_plain false done (f + feeds) (z + bytes)) (drop i src)

-- The marks of an entry end at a place behind joins.
pub record Closing (g : Signs) (src : List ℕ) (at i : ℕ) : Type 0 where
  pub passed : Passed g src at i
  pub stop : stops g.escape (drop i src) ≡ true

-- A mark comes next that is no blank.
pub record Glued (g : Signs) (src : List ℕ) (p : Spot) : Type 0 where
  pub mark : ℕ
  pub rest : List ℕ
  pub is : marks_left g src p ≡ mark ∷ rest
  pub solid : is_blank mark ≡ false

abbrev pub TailIs : Signs → List ℕ → ℕ → Option ℕ → Type 0
TailIs g src at (Some i) = Closing g src at i
TailIs g src at None = Glued g src (plain_at at)

-- ## The shape of an entry, whatever follows it

-- blanks, and tokens that pass the test after them
unfoldable pub byte_by : (List Token → Bool) → List Token → Bool
byte_by p ts = eqb (token_at ts 0).kind gap && p (without_opening_gaps ts)

-- a name or a range, and so on
unfoldable pub entry_by : (List Token → Bool) → List Token → Bool
entry_by p ts = eqb (token_at ts 0).kind name && (if is_range ts then byte_by p (drop 3 ts) else byte_by p (drop 1 ts))

-- escape and `x`, which is 120
unfoldable pub is_escaped : Token → Bool
is_escaped t = eqb t.kind broken && same t.text (120 ∷ [])

-- a word of two hex digits
unfoldable pub is_digits : Token → Bool
is_digits t = eqb t.kind word && eqb (length t.text) 2 && every is_any_hex t.text

-- escape `x` and two hex digits, and then a blank or nothing
unfoldable pub opens_pair : List Token → Bool
opens_pair rs = is_escaped (token_at rs 0) && is_digits (token_at rs 1) && (eqb (length rs) 2 || eqb (token_at rs 2).kind gap)

-- the tokens open with an entry, and a blank or nothing follows it
abbrev pub opens_entry : List Token → Bool
opens_entry ts = entry_by opens_pair ts

-- A hex digit of either case, and its value.
pub record HexDigit (m x : ℕ) : Type 0 where
  pub hex : is_any_hex m ≡ true
  pub value : x ≡ digit m
  pub small : x < 16

-- a hex digit's value, or none for a mark that is none
abbrev pub HexIs : ℕ → Option ℕ → Type 0
HexIs m (Some x) = HexDigit m x
HexIs m None = is_any_hex m ≡ false

-- marks begin with two hex digits
abbrev pub starts_hex : List ℕ → Bool
starts_hex [] = false
starts_hex (m ∷ []) = false
starts_hex (m ∷ n ∷ ms) = is_any_hex m && is_any_hex n

-- Two hex digits, their value, and the spot after them.
pub record TwoDigits (g : Signs) (src : List ℕ) (p : Spot) (v : ℕ) (q : Spot) : Type 0 where
  pub first : ℕ
  pub second : ℕ
  pub hex : is_any_hex first ≡ true
  pub hex-second : is_any_hex second ≡ true
  pub value : hex_value 0 (first ∷ second ∷ []) ≡ v
  pub feeds : ℕ
  pub run : Run g src (first ∷ second ∷ []) feeds p q
  pub mode : q.mode ≡ in_plain
  pub fresh : q.fresh ≡ false
  pub on : p.at < q.at
  pub to : q.at ≤ length src

abbrev pub DigitsAre : Signs → List ℕ → Spot → Option (ℕ × Spot) → Type 0
DigitsAre g src p (Some (v, q)) = TwoDigits g src p v q
DigitsAre g src p None = starts_hex (marks_left g src p) ≡ false

-- Escape `x` and two hex digits, behind which the marks end at the place i.
pub record PairIs (g : Signs) (src : List ℕ) (p : Spot) (v i : ℕ) : Type 0 where
  pub first : ℕ
  pub second : ℕ
  pub hex : is_any_hex first ≡ true
  pub hex-second : is_any_hex second ≡ true
  pub value : hex_value 0 (first ∷ second ∷ []) ≡ v
  pub stop : Spot
  pub feeds : ℕ
  pub run : Run g src (632 ∷ first ∷ second ∷ []) feeds p stop
  pub mode : stop.mode ≡ in_plain
  pub fresh : stop.fresh ≡ false
  pub on : p.at < stop.at
  pub closing : Closing g src stop.at i

abbrev pub EscapedIs : Signs → List ℕ → Spot → Option (ℕ × ℕ) → Type 0
EscapedIs g src p (Some (v, i)) = PairIs g src p v i
EscapedIs g src p None = opens_pair (tokens_left g src p) ≡ false

-- One blank or more, and then such a pair.
pub record ByteIs (g : Signs) (src : List ℕ) (p : Spot) (v i : ℕ) : Type 0 where
  pub gap : ℕ
  pub gaps : List ℕ
  pub blank : is_blank gap ≡ true
  pub blanks : every is_blank gaps ≡ true
  pub next : Spot
  pub feeds : ℕ
  pub run : Run g src (gap ∷ gaps) feeds p next
  pub on : p.at ≤ next.at
  pub pair : PairIs g src next v i

abbrev pub GapIs : Signs → List ℕ → Spot → Option (ℕ × ℕ) → Type 0
GapIs g src p (Some (v, i)) = ByteIs g src p v i
GapIs g src p None = byte_by opens_pair (tokens_left g src p) ≡ false

-- ## The names of an entry

-- A name: its refusal, the spot after its `<`, and the spot after it.
pub record NameIs (g : Signs) (src : List ℕ) (p : Spot) (f : Option Refusal) (q r : Spot) : Type 0 where
  pub more : List ℕ
  pub feeds : ℕ
  pub run : Run g src (60 ∷ more) feeds p r
  pub tokens : (ms : List ℕ) → tokens_from (no_part []) (60 ∷ (more ++ ms)) ≡ token name [] (name_left g src q ∷ []) ∷ tokens_from (no_part []) ms
  pub refusal : name_refusal (name_left g src q) ≡ number_or_none f
  pub text : every is_text more ≡ every is_text (name_left g src q)
  pub mode : r.mode ≡ in_plain
  pub inside : q.at ≤ length src
  pub on : p.at < r.at
  pub to : r.at ≤ length src

abbrev pub NamedIs : Signs → List ℕ → Spot → Option (Option Refusal × Spot × Spot) → Type 0
NamedIs g src p (Some (f, q, r)) = NameIs g src p f q r
NamedIs g src p None = eqb (token_at (tokens_left g src p) 0).kind name ≡ false

-- A dot and a name.
pub record DotName (g : Signs) (src : List ℕ) (p : Spot) (f : Option Refusal) (q r : Spot) : Type 0 where
  pub next : Spot
  pub feeds : ℕ
  pub run : Run g src (46 ∷ []) feeds p next
  pub on : p.at < next.at
  pub name : NameIs g src next f q r

-- what stands behind the first dot: the second and a name, or no entry opens with any name and that dot
abbrev pub DottedIs : Signs → List ℕ → Spot → Option (Option Refusal × Spot × Spot) → Type 0
DottedIs g src p (Some (f, q, r)) = DotName g src p f q r
DottedIs g src p None = (n : Token) → opens_entry (n ∷ tokens_from (no_part []) (46 ∷ marks_left g src p)) ≡ false

-- the tokens of one name, or of a range
abbrev pub head_tokens : Bool → List ℕ → List ℕ → List Token
head_tokens false n m = token name [] (n ∷ []) ∷ []
head_tokens true n m = token name [] (n ∷ []) ∷ token word (46 ∷ 46 ∷ []) [] ∷ token name [] (m ∷ []) ∷ []

-- One name or a range, whatever follows: its names, their refusal, and the spot after it.
pub record HeadIs (g : Signs) (src : List ℕ) (p : Spot) (h : Head) : Type 0 where
  pub range : Bool
  pub more : List ℕ
  pub feeds : ℕ
  pub run : Run g src (60 ∷ more) feeds p h.next
  pub tokens : (ms : List ℕ)
      → tokens_from (no_part []) (60 ∷ (more ++ ms)) ≡ head_tokens range (name_left g src h.first) (name_left g src h.last) ++ tokens_from (no_part []) ms
  pub one : range ≡ false → name_left g src h.last ≡ name_left g src h.first
  pub refusal : names_refusal (name_left g src h.first ∷ name_left g src h.last ∷ []) ≡ number_or_none h.refusal
  pub text : every is_text more ≡ (every is_text (name_left g src h.first) && every is_text (name_left g src h.last))
  pub opens : opens_entry (tokens_left g src p) ≡ byte_by opens_pair (tokens_left g src h.next)
  pub mode : h.next.mode ≡ in_plain
  pub first_to : h.first.at ≤ length src
  pub last-to : h.last.at ≤ length src
  pub on : p.at < h.next.at
  pub to : h.next.at ≤ length src

abbrev pub HeadsAre : Signs → List ℕ → Spot → Option Head → Type 0
HeadsAre g src p (Some h) = HeadIs g src p h
HeadsAre g src p None = opens_entry (tokens_left g src p) ≡ false

-- ## The whole line

-- the paper's line at a place between CHARMAP and END CHARMAP, and its tokens
abbrev pub body_line : Signs → List ℕ → ℕ → Scan
body_line g src at = line_of (body_signs g) (drop at src)

abbrev pub body_tokens : Signs → List ℕ → ℕ → List Token
body_tokens g src at = tokens_of (body_line g src at).marks

-- the first name of an entry, and its last, which is the first where it is no range
abbrev pub first_name : List Token → List ℕ
first_name ts = the_name (token_at ts 0)

abbrev pub last_name : List Token → List ℕ
last_name ts = if is_range ts then the_name (token_at ts 2) else the_name (token_at ts 0)

-- The line is an entry, and these are its parts.
pub record PartsAre (g : Signs) (src : List ℕ) (at : ℕ) (e : Parts) : Type 0 where
  pub entry : is_entry (body_tokens g src at) ≡ true
  pub first : first_name (body_tokens g src at) ≡ name_left g src e.first
  pub last : last_name (body_tokens g src at) ≡ name_left g src e.last
  pub refusal : names_refusal (first_name (body_tokens g src at) ∷ last_name (body_tokens g src at) ∷ []) ≡ number_or_none e.refusal
  pub byte : hex_value 0 (last_token (body_tokens g src at)).text ≡ e.byte
  pub text : every is_text (body_line g src at).marks ≡ e.text
  pub end : at + (body_line g src at).size ≡ e.next
  pub feeds : (body_line g src at).feeds ≡ e.feeds
  pub on : at < e.next
  pub to : e.next ≤ length src
  pub few : at + e.feeds ≤ e.next
  pub first_to : e.first.at ≤ length src
  pub last-to : e.last.at ≤ length src

-- The line is a plain one, and no entry.
pub record NoEntry (g : Signs) (src : List ℕ) (at : ℕ) : Type 0 where
  pub plain : body_line g src at ≡ line_left g src (line_start at)
  pub none : is_entry (tokens_of (marks_left g src (line_start at))) ≡ false

abbrev pub EntryIs : Signs → List ℕ → ℕ → Option Parts → Type 0
EntryIs g src at (Some e) = PartsAre g src at e
EntryIs g src at None = NoEntry g src at

-- how many of these bytes are LFs
unfoldable pub feeds_in : List ℕ → ℕ
feeds_in [] = 0
feeds_in (b ∷ bs) = (if eqb b 10 then 1 else 0) + feeds_in bs

-- A line is an entry as far as its digits, behind which its marks end at the place i.
pub record Whole (g : Signs) (src : List ℕ) (at : ℕ) (h : Head) (v i : ℕ) : Type 0 where
  pub inside : at ≤ length src
  pub start : Spot
  pub skips : Skips g src (line_start at) start
  pub head : HeadIs g src start h
  pub byte : ByteIs g src h.next v i
