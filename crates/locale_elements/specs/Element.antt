-- The line `collating-element` as code reads it: from the spot after its first word on, with what is declared so far in the work area
-- (Rattle.locale_symbols.specs.Symbols).
use Rattle.std.specs.Prelude.{◌≡◌, Bool, true, false, not, ◌&&◌, List, [], ◌∷◌, map, ℕ, ◌+◌, ◌*◌, ◌/◌, ◌%◌, ◌≤◌, ◌<◌, length, get_or, eqb, Err, None, Ok, Option, Result, Some}
use Rattle.rules.specs.Text.{within, every, is, ◌unless◌, lower, lowest}
use Rattle.rules.specs.Names.{code_of, is_char_name}
use Rattle.rules.specs.Lines.{quoted}
use Rattle.rules.specs.Tokens as tokens
use Rattle.rules.specs.Tokens.{Token, token_at, the_name, single, tokens_refusal}
use Rattle.rules.specs.Declarations.{element_formed}
use Rattle.base_units.specs.declared.Refusal.{Refusal}
use Rattle.base_units.specs.Numbers.{number_of}
use Rattle.text_lines.specs.declared.Signs.{Signs}
use Rattle.text_lines.specs.declared.Spot.{Spot}
use Rattle.text_lines.specs.Stream.{marks_left, end_of}
use Rattle.text_tokens.specs.Left.{names_in}
use Rattle.text_operands.specs.Operand.{operands_left}
use Rattle.text_names.specs.Named.{name_left}
use Rattle.work_rows.specs.Cells.{cell}
use Rattle.work_subjects.specs.Keys.{Key, chars, key_at}
use Rattle.work_subjects.specs.Numbers.{is_declarable, kind_of}
use Rattle.work_store.specs.Store.{Decl, first, known_in, fresh, heads_of, Holds}
use Rattle.work_order.specs.Links.{chars_number}
use Rattle.locale_symbols.specs.Symbols.{is_new_in, operands_after, Unfit, Gives, Reaches, NameMark}

-- ## The line

-- of a name and the names in quotes: "two elements with the same characters" (5) too; "a name or code that is no character where one must
-- stand" (6); "element length (1 too)" (7)
unfoldable pub element_fault : List Decl → List ℕ → List (List ℕ) → ℕ
element_fault ds n ns =
    let cs : List ℕ = map code_of ns in
    lowest
    (5 unless (is_new_in ds n && not (every is_char_name ns && known_in (chars cs) ds))
    ∷ 6 unless every is_char_name ns
    ∷ 7 unless within 2 4 (length cs)
    ∷ [])

-- the lowest refusal of a line that stands before order_start
unfoldable pub element_refusal : List Decl → List Token → ℕ
element_refusal ds os =
    let n : List ℕ = the_name (token_at os 0) in
    let ns : List (List ℕ) = (token_at os 2).names in
    let cs : List ℕ = map code_of ns in
    lower (tokens_refusal os)
    (lowest
    (3 unless element_formed os
    ∷ 5 unless (is_new_in ds n && not (every is_char_name ns && known_in (chars cs) ds))
    ∷ 6 unless every is_char_name ns
    ∷ 7 unless within 2 4 (length cs)
    ∷ []))

-- the characters of the line's quotes
abbrev pub chars_in : List Token → List ℕ
chars_in os = map code_of (token_at os 2).names

-- ## What the readers give

-- The operands still to come after another are quotes, read from the spot s after the opening `"` on; they hold n names. Where x stands right
-- after a token, a blank and the `"` are between. The spot after the closing `"` is behind a byte more, if there is a name.
pub record QuotesAlone (g : Signs) (src : List ℕ) (x s : Spot) (n : ℕ) : Type 0 where
  pub token : Token
  pub alone : operands_left g src true x ≡ token ∷ []
  pub kind : token.kind ≡ tokens.quote
  pub names : token.names ≡ names_in (marks_left g src s)
  pub many : length (names_in (marks_left g src s)) ≡ n
  pub mode : s.mode ≡ quoted
  pub far : x.fresh ≡ false → x.at + 2 ≤ s.at
  pub to : s.at ≤ length src
  pub after : Spot
  pub end : end_of g src x ≡ end_of g src after
  pub full : 1 ≤ n → s.at + 2 ≤ after.at
  pub ends : after.at ≤ length src

abbrev pub AloneIs : Signs → List ℕ → Spot → Option (Spot × ℕ) → Type 0
AloneIs g src x (Some (s, n)) = QuotesAlone g src x s n
AloneIs g src x None = Unfit (operands_left g src true x) (single tokens.quote (operands_left g src true x))

-- `from` and quotes
unfoldable pub from_formed : List Token → Bool
from_formed ts = eqb (length ts) 2 && is (token_at ts 0).text "from" && eqb (token_at ts 1).kind tokens.quote

-- The operands still to come after a name are `from` and quotes, read from the spot s on; `from`, a blank and the `"` are between.
pub record FromQuotes (g : Signs) (src : List ℕ) (x s : Spot) (n : ℕ) : Type 0 where
  pub said : Token
  pub token : Token
  pub whole : operands_left g src true x ≡ said ∷ token ∷ []
  pub from : is said.text "from" ≡ true
  pub kind : token.kind ≡ tokens.quote
  pub names : token.names ≡ names_in (marks_left g src s)
  pub many : length (names_in (marks_left g src s)) ≡ n
  pub mode : s.mode ≡ quoted
  pub far : x.at + 6 ≤ s.at
  pub to : s.at ≤ length src
  pub after : Spot
  pub end : end_of g src x ≡ end_of g src after
  pub full : 1 ≤ n → s.at + 2 ≤ after.at
  pub ends : after.at ≤ length src

abbrev pub FromIs : Signs → List ℕ → Spot → Option (Spot × ℕ) → Type 0
FromIs g src x (Some (s, n)) = FromQuotes g src x s n
FromIs g src x None = Unfit (operands_left g src true x) (from_formed (operands_left g src true x))

-- the refusal of the name at i and the quotes at s
abbrev pub FaultIs : Signs → List ℕ → List ℕ → Spot → Spot → ℕ → Type 0
FaultIs g src w i s r =
    Gives (key_at g src) (length src) w (λ (ds : List Decl). element_fault ds (name_left g src i) (names_in (marks_left g src s))) r

-- q is the mark of quotes with these characters, in a later row than another mark; a byte and the closing `"` stand in the line at p.
pub record QuotesMark (g : Signs) (src : List ℕ) (p : Spot) (v : ℕ) (cs : List ℕ) (q : ℕ) : Type 0 where
  pub odd : q % 2 ≡ 1
  pub later : v / 16 + 1 ≤ q / 16
  pub within : q / 2 ≤ length src
  pub key : key_at g src q ≡ chars cs
  pub room : Reaches g src p (q / 2 + 2)

-- The line is not refused; v is the mark of its name, q that of its quotes.
pub record ElementAt (g : Signs) (src : List ℕ) (p : Spot) (w : List ℕ) (v q : ℕ) : Type 0 where
  pub refusal : Gives (key_at g src) (length src) w (λ (ds : List Decl). element_refusal ds (operands_after g src p)) 0
  pub mark : NameMark g src p (the_name (token_at (operands_after g src p) 0)) v
  pub quotes : QuotesMark g src p v (chars_in (operands_after g src p)) q

-- The line is refused with r.
pub record ElementNot (g : Signs) (src : List ℕ) (p : Spot) (w : List ℕ) (r : ℕ) : Type 0 where
  pub refusal : Gives (key_at g src) (length src) w (λ (ds : List Decl). element_refusal ds (operands_after g src p)) r
  pub some : r ≡ 0 → ⊥

abbrev pub ElementChecked : Signs → List ℕ → Spot → List ℕ → Result (ℕ × ℕ) Refusal → Type 0
ElementChecked g src p w (Ok (v, q)) = ElementAt g src p w v q
ElementChecked g src p w (Err r) = ElementNot g src p w (number_of r)

-- The name at v and the quotes at q are declared, if they can be and were not yet, and the row of v tells q; the other numbers of that row stay, so do the five of the rows
-- before and behind those that the two take, and what is behind the rows.
pub record DeclaresBoth (key : ℕ → Key) (len : ℕ) (w : List ℕ) (v q : ℕ) (w' : List ℕ) : Type 0 where
  pub is : (n : ℕ) (ds : List Decl) → Holds key len w n ds → n + 1 ≤ v / 16 → kind_of (key v) ≡ 1 → is_declarable (key v) ≡ true → first (key v) ds ≡ None
      → kind_of (key q) ≡ 2 → is_declarable (key q) ≡ true → first (key q) (fresh key v ∷ ds) ≡ None → Holds key len w' (q / 16 + 1) (fresh key q ∷ fresh key v ∷ ds)
  pub long : length w' ≡ length w
  pub chars : cell w' v chars_number ≡ q
  pub own : (k : ℕ) → 1 ≤ k → k < 5 → 1 ≤ v / 16 → kind_of (key v) ≡ 1 → kind_of (key q) ≡ 2 → cell w' v k ≡ cell w v k
  pub before : (u k : ℕ) → k < 5 → u / 16 + 1 < v / 16 → cell w' u k ≡ cell w u k
  pub after : (u k : ℕ) → k < 5 → q / 16 < u / 16 → cell w' u k ≡ cell w u k
  pub beyond : (i : ℕ) → 8 * heads_of len ≤ i → get_or w' i 0 ≡ get_or w i 0

-- what the line leaves: its name and its characters declared; or its refusal, and the area as it was
abbrev pub ElementIs : Signs → List ℕ → Spot → List ℕ → List ℕ → Result (ℕ × ℕ) Refusal → Type 0
ElementIs g src p w w' (Ok (v, q)) = ElementAt g src p w v q × DeclaresBoth (key_at g src) (length src) w v q w'
ElementIs g src p w w' (Err r) = ElementNot g src p w (number_of r) × (w' ≡ w)
