-- The weights of an order line as code reads them, one operand after the other.
use Rattle.std.specs.Prelude.{◌≡◌, Bool, true, false, List, [], ◌∷◌, map, ℕ, suc, ◌+◌, ◌*◌, ◌≤◌, length, leb, eqb, if◌then◌else◌, None, Option, Some}
use Rattle.rules.specs.Text.{every}
use Rattle.rules.specs.Lines.{in_plain, quoted}
use Rattle.rules.specs.Tokens.{name, quote, Token, operands, tokens_refusal}
use Rattle.rules.specs.Meaning.{count_all}
use Rattle.rules.specs.State.{Subject}
use Rattle.rules.specs.OrderLines.{subject_of, split_at, operand_list}
use Rattle.text_lines.specs.declared.Signs.{Signs}
use Rattle.text_lines.specs.declared.Spot.{Spot}
use Rattle.text_lines.specs.Stream.{marks_left}
use Rattle.text_tokens.specs.declared.Tok.{Tok}
use Rattle.text_tokens.specs.Left.{tokens_left, is_inside, names_in}
use Rattle.text_operands.specs.Operand.{operands_left}
use Rattle.locale_weights.specs.Weights.{weights_refusal_by}
use Rattle.work_subjects.specs.Keys.{Key, subject_left, key_at}
use Rattle.work_rows.specs.Cells.{cell}
use Rattle.work_order.specs.Links.{place_number, rank_number}
use Rattle.work_store.specs.Store.{Decl, heads_of, Holds}
use Rattle.table_weights.specs.declared.Part.{Part}
use Rattle.table_weights.specs.declared.Part.TheVariants as part
use Rattle.table_weights.specs.declared.Cursor.{Cursor}
use Rattle.table_weights.specs.declared.Turn.{Turn}
use Rattle.table_weights.specs.declared.Measured.{Measured}
use Rattle.table_weights.specs.Ranks.{rank_in, level_ranks}
use Rattle.base_units.specs.declared.Rank.{Rank}

-- ## Names in quotes

-- the ranks of the names still to come in quotes
unfoldable pub quote_ranks : Signs → List ℕ → Spot → (Subject → ℕ) → List ℕ
quote_ranks g src p f = map (λ (n : List ℕ). f (subject_of n)) (names_in (marks_left g src p))

-- The rank of the next name, and the spot after it.
pub record RankNext (g : Signs) (src w : List ℕ) (p : Spot) (r : ℕ) (q : Spot) : Type 0 where
  pub ranks : (n : ℕ) (ds : List Decl) → Holds (key_at g src) (length src) w n ds → quote_ranks g src p (rank_in w ds) ≡ r ∷ quote_ranks g src q (rank_in w ds)
  pub many : length (names_in (marks_left g src p)) ≡ 1 + length (names_in (marks_left g src q))
  pub mode : q.mode ≡ quoted
  pub to : q.at ≤ length src

abbrev pub NextIs : Signs → List ℕ → List ℕ → Spot → Option (Rank × Spot) → Type 0
NextIs g src w p (Some (r, q)) = RankNext g src w p r.0 q
NextIs g src w p None = names_in (marks_left g src p) ≡ []

-- A spot in quotes outside names, of which at most 8 are still to come.
pub record InQuotes (g : Signs) (src : List ℕ) (p : Spot) : Type 0 where
  pub to : p.at ≤ length src
  pub mode : p.mode ≡ quoted
  pub few : length (names_in (marks_left g src p)) ≤ 8

-- ## Operands

-- The operands of a line that was accepted: none is malformed, whatever it is that stands.
pub record Weighed (os : List Token) : Type 0 where
  pub whole : tokens_refusal os ≡ 0
  pub stands : Subject → Bool
  pub each : weights_refusal_by stands (operand_list os) ≡ 0

-- the tokens of an order line's operands, from the place after its subject on
unfoldable pub line_operands : Signs → List ℕ → ℕ → List Token
line_operands g src place = operands (tokens_left g src (record { at = place; mode = in_plain; fresh = false }))

-- the operands still to come
unfoldable pub weights_left : Signs → List ℕ → Cursor → List (List Token)
weights_left g src c = if c.more then split_at [] (operands_left g src false c.at) else []

-- They are those of an accepted line.
pub record Ahead (g : Signs) (src : List ℕ) (c : Cursor) : Type 0 where
  pub to : c.at.at ≤ length src
  pub mode : c.at.mode ≡ in_plain
  pub weighed : c.more ≡ true → Weighed (operands_left g src false c.at)

-- what one token gives
unfoldable pub part_of : Tok → Part
part_of t = if eqb t.kind name then part.One t.inside else if eqb t.kind quote then part.Quotes t.inside else part.None

-- the ranks that it gives, own being the line's own
unfoldable pub part_ranks : Signs → List ℕ → ℕ → Part → (Subject → ℕ) → List ℕ
part_ranks g src own part.Own f = own ∷ []
part_ranks g src own part.None f = []
part_ranks g src own (part.One p) f = f (subject_left g src p) ∷ []
part_ranks g src own (part.Quotes p) f = quote_ranks g src p f

-- A spot inside a name.
pub record InName (src : List ℕ) (p : Spot) : Type 0 where
  pub to : p.at ≤ length src
  pub inside : is_inside p.mode ≡ true

-- its spot is where it has to be
abbrev pub PartFits : Signs → List ℕ → Part → Type 0
PartFits g src part.Own = Unit
PartFits g src part.None = Unit
PartFits g src (part.One p) = InName src p
PartFits g src (part.Quotes p) = InQuotes g src p

-- The operand of a level, and where the next one begins.
pub record TurnIs (g : Signs) (src : List ℕ) (c : Cursor) (t : Turn) : Type 0 where
  pub ranks : (f : Subject → ℕ) (own l : ℕ)
      → level_ranks f own (suc l) (weights_left g src c) ≡ part_ranks g src own t.part f ∷ level_ranks f own l (weights_left g src t.next)
  pub fits : PartFits g src t.part
  pub ahead : Ahead g src t.next

-- The operands of a line begin at a cursor.
pub record Starts (g : Signs) (src : List ℕ) (place : ℕ) (c : Cursor) : Type 0 where
  pub ranks : (f : Subject → ℕ) (own l : ℕ) → level_ranks f own l (operand_list (line_operands g src place)) ≡ level_ranks f own l (weights_left g src c)
  pub ahead : Ahead g src c

-- ## Counting

-- m tells of the weights that `ranks` gives how many they are, and whether each has a rank.
pub record Measures (key : ℕ → Key) (len : ℕ) (w : List ℕ) (ranks : (Subject → ℕ) → List ℕ) (m : Measured) : Type 0 where
  pub weights : (n : ℕ) (ds : List Decl) → Holds key len w n ds → m.weights ≡ length (ranks (rank_in w ds))
  pub ranked : (n : ℕ) (ds : List Decl) → Holds key len w n ds → m.ranked ≡ every (leb 1) (ranks (rank_in w ds))
  pub few : m.weights ≤ 8

-- A line that was accepted, of at most 8 levels, from the place after its subject on.
pub record Readable (g : Signs) (src : List ℕ) (place levels : ℕ) : Type 0 where
  pub to : place ≤ length src
  pub few : levels ≤ 8
  pub weighed : Weighed (line_operands g src place)

-- the line's weights at each level
unfoldable pub ranks_at : Signs → List ℕ → ℕ → ℕ → ℕ → (Subject → ℕ) → List (List ℕ)
ranks_at g src place levels own f = level_ranks f own levels (operand_list (line_operands g src place))

-- m tells the same of all levels.
pub record MeasuresLine (g : Signs) (src w : List ℕ) (place levels own : ℕ) (m : Measured) : Type 0 where
  pub weights : (n : ℕ) (ds : List Decl) → Holds (key_at g src) (length src) w n ds → m.weights ≡ count_all (ranks_at g src place levels own (rank_in w ds))
  pub ranked : (n : ℕ) (ds : List Decl) → Holds (key_at g src) (length src) w n ds
      → m.ranked ≡ every (every (leb 1)) (ranks_at g src place levels own (rank_in w ds))
  pub few : m.weights ≤ 64

-- ## The order line of a mark

-- its weights, at each level, own rank and place being those of its row
unfoldable pub item_ranks : Signs → List ℕ → List ℕ → ℕ → ℕ → (Subject → ℕ) → List (List ℕ)
item_ranks g src w mark levels f = ranks_at g src (cell w mark place_number) levels (cell w mark rank_number) f

-- Its row stands in the area, and names an accepted line.
pub record RowReady (g : Signs) (src w : List ℕ) (mark levels : ℕ) : Type 0 where
  pub row : mark ≤ 16 * heads_of (length src)
  pub line : Readable g src (cell w mark place_number) levels

-- m tells of its weights how many they are, and whether each has a rank.
pub record MeasuresItem (g : Signs) (src w : List ℕ) (mark levels : ℕ) (m : Measured) : Type 0 where
  pub weights : (n : ℕ) (ds : List Decl) → Holds (key_at g src) (length src) w n ds → m.weights ≡ count_all (item_ranks g src w mark levels (rank_in w ds))
  pub ranked : (n : ℕ) (ds : List Decl) → Holds (key_at g src) (length src) w n ds
      → m.ranked ≡ every (every (leb 1)) (item_ranks g src w mark levels (rank_in w ds))
  pub few : m.weights ≤ 64
