-- What the lines so far have declared and ordered (Rattle.rules.specs.State), as the work area holds it: what is declared stands in the store
-- (Rattle.work_store), the order lines in their list (Rattle.work_order), and their weights are read again from the source.
use Rattle.std.specs.Prelude.{◌≡◌, Bool, true, false, ◌&&◌, ◌||◌, List, [], ◌∷◌, map, ℕ, ◌+◌, ◌*◌, ◌/◌, ◌%◌, ◌≤◌, ◌<◌, length, leb, eqb, if◌then◌else◌, Option, Some}
use Rattle.base_lists.proofs.Lists.{All}
use Rattle.rules.specs.Text.{one_of}
use Rattle.rules.specs.Tokens.{Token, operands, tokens_refusal}
use Rattle.rules.specs.Lines.{in_plain}
use Rattle.rules.specs.Meaning.{Rule}
use Rattle.rules.specs.State.{Declaration, symbol, element, Subject, character, named, undefined, OrderLine}
use Rattle.rules.specs.OrderLines.{weights_refusal, operand_list, weights_of}
use Rattle.text_lines.specs.declared.Signs.{Signs}
use Rattle.text_lines.specs.declared.Spot.{Spot}
use Rattle.text_tokens.specs.Left.{tokens_left}
use Rattle.work_rows.specs.Cells.{cell}
use Rattle.work_subjects.specs.Keys.{name_spot, subject_left, Key, item, chars, key_at}
use Rattle.work_store.specs.Store.{Decl, first, is_place, undefined_mark, Holds}
use Rattle.work_order.specs.declared.Order.{Order}
use Rattle.work_order.specs.Links.{chars_number, line_number, place_number, next_number, rank_number, Backed, Lines}

-- ## Declarations

abbrev pub declared_at : Key → ℕ → Decl
declared_at k v = record { key = k; place = v }

-- What the store holds is what the lines have declared: of an element its name, and then its characters. The first number of a row is 0 for a
-- symbol, the mark of an element's characters, which is odd, or an even number with the code of a character.
pub data Says (w : List ℕ) : List Decl → List Declaration → Type 0 where
  none : Says w [] []
  symbols : {n : List ℕ} {v : ℕ} {ds : List Decl} {cs : List Declaration} → cell w v chars_number ≡ 0 → Says w ds cs
      → Says w (declared_at (item (named n)) v ∷ ds) (symbol n ∷ cs)
  elements : {n xs : List ℕ} {v q : ℕ} {ds : List Decl} {cs : List Declaration} → cell w v chars_number ≡ q → 1 ≤ q → Says w ds cs
      → Says w (declared_at (chars xs) q ∷ declared_at (item (named n)) v ∷ ds) (element n xs ∷ cs)
  characters : {c v : ℕ} {ds : List Decl} {cs : List Declaration} → cell w v chars_number ≡ 2 * c + 2 → Says w ds cs
      → Says w (declared_at (item (character c)) v ∷ ds) cs

-- ## Order lines

-- what an order line's mark names
unfoldable pub subject_at : Signs → List ℕ → ℕ → Subject
subject_at g src v = if leb (undefined_mark (length src)) v then undefined else subject_left g src (name_spot (v / 2))

-- right after an order line's subject
abbrev pub behind : ℕ → Spot
behind at = record { at = at; mode = in_plain; fresh = false }

-- the order line of a mark
unfoldable pub line_at : Signs → List ℕ → List Rule → List ℕ → ℕ → OrderLine
line_at g src rs w v = record {
  number = cell w v line_number;
  subject = subject_at g src v;
  weights = weights_of (subject_at g src v) rs (operand_list (operands (tokens_left g src (behind (cell w v place_number)))));
}

-- a mark has the row of an order line: it is that of a name, and declared, or that of UNDEFINED
abbrev pub is_row : ℕ → List Decl → ℕ → Bool
is_row len ds v = (is_place v ds && eqb (v % 2) 0) || eqb v (undefined_mark len)

-- the mark of a subject
unfoldable pub mark_of : ℕ → List Decl → Subject → Option ℕ
mark_of len ds (character c) = first (item (character c)) ds
mark_of len ds (named n) = first (item (named n)) ds
mark_of len ds undefined = Some (undefined_mark len)

-- The operands of an order line that was accepted, whatever was declared before it.
pub record Accepted (os : List Token) : Type 0 where
  pub whole : tokens_refusal os ≡ 0
  pub ds : List Declaration
  pub each : weights_refusal ds (operand_list os) ≡ 0

-- A mark in the list: the operands of its line can be read again.
pub record IsListed (g : Signs) (src w : List ℕ) (ds : List Decl) (v : ℕ) : Type 0 where
  pub row : is_row (length src) ds v ≡ true
  pub even : v % 2 ≡ 0
  pub some : 1 ≤ cell w v place_number
  pub within : cell w v place_number ≤ length src
  pub accepted : Accepted (operands (tokens_left g src (behind (cell w v place_number))))

-- ## All of it

-- The area holds these declarations and order lines.
pub record Known (g : Signs) (src w : List ℕ) (o : Order) (rs : List Rule) (n : ℕ) (cs : List Declaration) (ls : List OrderLine) : Type 0 where
  pub ds : List Decl
  pub holds : Holds (key_at g src) (length src) w n ds
  pub says : Says w ds cs
  pub some : (v : ℕ) → is_place v ds ≡ true → 1 ≤ v
  pub marks : List ℕ
  pub lines : Lines w o marks
  pub backs : Backed w 0 marks
  pub are : ls ≡ map (line_at g src rs w) marks
  pub listed : All (IsListed g src w ds) marks
  pub all : (v : ℕ) → is_row (length src) ds v ≡ true → 1 ≤ cell w v place_number → one_of (eqb v) marks ≡ true
  pub free : (v k : ℕ) → n ≤ v / 16 → v / 16 ≤ length src / 8 → k < 5 → cell w v k ≡ 0
  pub alone : (v : ℕ) → is_row (length src) ds v ≡ true → cell w v place_number ≡ 0 → cell w v next_number ≡ 0
  pub unranked : (v : ℕ) → is_row (length src) ds v ≡ true → cell w v place_number ≡ 0 → cell w v rank_number ≡ 0
