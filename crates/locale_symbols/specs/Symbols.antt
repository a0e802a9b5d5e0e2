-- The line `collating-symbol` as code reads it: from the spot after its first word on, with what is declared so far in the work area. The
-- area holds some list of declarations (Rattle.work_store.specs.Store); what is told of one is told of every list that it holds.
use Rattle.std.specs.Prelude.{◌≡◌, ◌⊎◌, Bool, true, false, not, ◌||◌, List, [], ◌∷◌, ℕ, ◌+◌, ◌/◌, ◌%◌, ◌≤◌, ◌<◌, length, eqb, Err, None, Ok, Option, Result, Some}
use Rattle.rules.specs.Text.{one_of, ◌unless◌, lower, lowest}
use Rattle.rules.specs.Names.{char_shaped}
use Rattle.rules.specs.Lines.{in_plain, in_name}
use Rattle.rules.specs.Tokens.{name, Token, token_at, the_name, single, operands, tokens_refusal}
use Rattle.rules.specs.State.{Declaration, named}
use Rattle.rules.specs.Declarations.{declares, declares_chars}
use Rattle.base_units.specs.declared.Refusal.{Refusal}
use Rattle.base_units.specs.Numbers.{number_of}
use Rattle.text_lines.specs.declared.Signs.{Signs}
use Rattle.text_lines.specs.declared.Spot.{Spot}
use Rattle.text_lines.specs.Stream.{end_of}
use Rattle.text_tokens.specs.Left.{tokens_left}
use Rattle.text_operands.specs.Operand.{operands_left}
use Rattle.text_names.specs.Named.{name_left}
use Rattle.work_subjects.specs.Keys.{Key, item, chars, key_at}
use Rattle.work_store.specs.Store.{Decl, known_in, Holds, Declares}

-- ## What is declared

-- a name that is not "declared twice or shaped as a character" (5)
unfoldable pub is_new_in : List Decl → List ℕ → Bool
is_new_in ds n = not (char_shaped n || known_in (item (named n)) ds)

-- The area's declarations have the names and the characters of the paper's.
pub record Alike (ds : List Decl) (cs : List Declaration) : Type 0 where
  pub names : (n : List ℕ) → known_in (item (named n)) ds ≡ one_of (declares n) cs
  pub elements : (xs : List ℕ) → known_in (chars xs) ds ≡ one_of (declares_chars xs) cs

-- ## The line

-- the operands of a line, from the spot after its first token on
abbrev pub operands_after : Signs → List ℕ → Spot → List Token
operands_after g src p = operands (tokens_left g src p)

-- the lowest refusal of a line that stands where a declaration may
unfoldable pub symbol_refusal : List Decl → List Token → ℕ
symbol_refusal ds os =
    lower (tokens_refusal os) (lowest (3 unless single name os ∷ 5 unless is_new_in ds (the_name (token_at os 0)) ∷ []))

-- ## What the readers give

-- operands that are malformed, or do not pass a test
abbrev pub Unfit : List Token → Bool → Type 0
Unfit os t = (tokens_refusal os ≡ 3) ⊎ (t ≡ false)

-- The first operand from a spot on is a name, read from the spot i after its `<` on; e is the spot after its `>`, in the same line.
pub record NameFirst (g : Signs) (src : List ℕ) (from : Spot) (os : List Token) (i e : Spot) : Type 0 where
  pub token : Token
  pub first : os ≡ token ∷ operands_left g src true e
  pub kind : token.kind ≡ name
  pub names : token.names ≡ name_left g src i ∷ []
  pub mode : i.mode ≡ in_name
  pub after : e.mode ≡ in_plain
  pub behind : from.at < i.at
  pub long : i.at + length (name_left g src i) < e.at
  pub end : end_of g src from ≡ end_of g src e
  pub to : e.at ≤ length src

abbrev pub HeadIs : Signs → List ℕ → Spot → List Token → Option (Spot × Spot) → Type 0
HeadIs g src from os (Some (i, e)) = NameFirst g src from os i e
HeadIs g src from os None = Unfit os (eqb (token_at os 0).kind name)

-- Whether a name is new, whatever list the area holds.
pub record NewIs (key : ℕ → Key) (len : ℕ) (w : List ℕ) (n : List ℕ) (r : Bool) : Type 0 where
  pub is : (m : ℕ) (ds : List Decl) → Holds key len w m ds → r ≡ is_new_in ds n

-- The refusal is r, whatever list the area holds.
pub record Gives (key : ℕ → Key) (len : ℕ) (w : List ℕ) (refusal : List Decl → ℕ) (r : ℕ) : Type 0 where
  pub is : (n : ℕ) (ds : List Decl) → Holds key len w n ds → refusal ds ≡ r

-- The line at a spot goes on to another, at this place or behind it.
pub record Reaches (g : Signs) (src : List ℕ) (p : Spot) (place : ℕ) : Type 0 where
  pub after : Spot
  pub end : end_of g src p ≡ end_of g src after
  pub long : place ≤ after.at
  pub to : after.at ≤ length src

-- v is the mark of a name of these bytes, behind a spot; a byte and the `>` of it stand in that line.
pub record NameMark (g : Signs) (src : List ℕ) (from : Spot) (n : List ℕ) (v : ℕ) : Type 0 where
  pub even : v % 2 ≡ 0
  pub behind : from.at < v / 2
  pub within : v / 2 ≤ length src
  pub key : key_at g src v ≡ item (named n)
  pub room : Reaches g src from (v / 2 + 2)

-- The line is not refused, and v is the mark of its name.
pub record SymbolAt (g : Signs) (src : List ℕ) (p : Spot) (w : List ℕ) (v : ℕ) : Type 0 where
  pub refusal : Gives (key_at g src) (length src) w (λ (ds : List Decl). symbol_refusal ds (operands_after g src p)) 0
  pub mark : NameMark g src p (the_name (token_at (operands_after g src p) 0)) v

-- The line is refused with r.
pub record SymbolNot (g : Signs) (src : List ℕ) (p : Spot) (w : List ℕ) (r : ℕ) : Type 0 where
  pub refusal : Gives (key_at g src) (length src) w (λ (ds : List Decl). symbol_refusal ds (operands_after g src p)) r
  pub some : r ≡ 0 → ⊥

abbrev pub SymbolChecked : Signs → List ℕ → Spot → List ℕ → Result ℕ Refusal → Type 0
SymbolChecked g src p w (Ok v) = SymbolAt g src p w v
SymbolChecked g src p w (Err r) = SymbolNot g src p w (number_of r)

-- what the line leaves: its name declared; or its refusal, and the area as it was
abbrev pub SymbolIs : Signs → List ℕ → Spot → List ℕ → List ℕ → Result ℕ Refusal → Type 0
SymbolIs g src p w w' (Ok v) = SymbolAt g src p w v × Declares (key_at g src) (length src) w v w'
SymbolIs g src p w w' (Err r) = SymbolNot g src p w (number_of r) × (w' ≡ w)
