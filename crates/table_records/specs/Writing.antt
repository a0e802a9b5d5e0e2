-- What stands in a table's area after one item was written.
use Rattle.std.specs.Prelude.{◌≡◌, ℕ, ◌+◌, ◌-◌, ◌/◌, ◌%◌, ◌≤◌, ◌<◌, length, get_or, set, drop, eqb, leb, if◌then◌else◌}
use mathlib.Core.List.{List, [], ◌∷◌, flatten}
use Rattle.std.proofs.lemmas.List.Edits.{sets}
use Rattle.rules.specs.Lines.{quoted}
use Rattle.rules.specs.Meaning.{count_all}
use Rattle.rules.specs.Table.{pad, padded, sums, counts}
use Rattle.rules.specs.State.{Subject}
use Rattle.text_lines.specs.declared.Signs.{Signs}
use Rattle.text_lines.specs.declared.Spot.{Spot}
use Rattle.text_lines.specs.Stream.{marks_left}
use Rattle.text_tokens.specs.Left.{names_in}
use Rattle.work_rows.specs.Cells.{cell}
use Rattle.work_order.specs.Links.{chars_number}
use Rattle.work_subjects.specs.Keys.{quote_spot, chars_left, key_at}
use Rattle.work_store.specs.Store.{Decl, undefined_mark, Roomy, Holds}
use Rattle.table_weights.specs.declared.Part.{Part}
use Rattle.table_weights.specs.declared.Part.TheVariants as part
use Rattle.table_weights.specs.Ranks.{rank_in}
use Rattle.table_weights.specs.Reading.{part_ranks, ranks_at, item_ranks}
use Rattle.table_records.specs.declared.Coded.{Coded}

-- These numbers stand in the area from a place on, nothing else in it is changed, and `next` is the place behind them.
pub record Puts (area : List ℕ) (at : ℕ) (xs : List ℕ) (after : List ℕ) (next : ℕ) : Type 0 where
  pub is : after ≡ sets area at xs
  pub to : next ≡ at + length xs

-- ## Weights

-- The ranks that `ranks` gives stand in the area.
pub record RanksPut (g : Signs) (src w : List ℕ) (ranks : (Subject → ℕ) → List ℕ) (area : List ℕ) (at : ℕ) (after : List ℕ) (next : ℕ) : Type 0 where
  pub puts : (n : ℕ) (ds : List Decl) → Holds (key_at g src) (length src) w n ds → Puts area at (ranks (rank_in w ds)) after next

-- how many names are still to come in quotes
unfoldable pub quote_size : Signs → List ℕ → Spot → ℕ
quote_size g src p = length (names_in (marks_left g src p))

-- how many weights an operand gives
unfoldable pub part_size : Signs → List ℕ → Part → ℕ
part_size g src part.Own = 1
part_size g src part.None = 0
part_size g src (part.One p) = 1
part_size g src (part.Quotes p) = quote_size g src p

-- The weights of an operand stand in the area from a place on, and where they end, counted from `base`, at another.
pub record LevelPut (g : Signs) (src w : List ℕ) (own : ℕ) (x : Part) (area : List ℕ) (slot base at : ℕ) (after : List ℕ) (next : ℕ) : Type 0 where
  pub is : (n : ℕ) (ds : List Decl) → Holds (key_at g src) (length src) w n ds
      → after ≡ set (sets area at (part_ranks g src own x (rank_in w ds))) slot (at + length (part_ranks g src own x (rank_in w ds)) - base)
  pub to : next ≡ at + part_size g src x

-- The area has place for a line's ends, and behind them for its weights, which are equally many whatever their ranks are; ends are counted from
-- `base`, and can be stored.
pub record LineRoom (g : Signs) (src : List ℕ) (place levels own : ℕ) (area : List ℕ) (slots base at : ℕ) : Type 0 where
  pub before : slots + levels ≤ base
  pub from : base ≤ at
  pub by : Subject → ℕ
  pub room : at + count_all (ranks_at g src place levels own by) ≤ length area
  pub small : at + count_all (ranks_at g src place levels own by) < base + 4294967296

-- The ends of a line's weights stand in the area, and the weights.
pub record LinePut (g : Signs) (src w : List ℕ) (place levels own : ℕ) (area : List ℕ) (slots base at : ℕ) (after : List ℕ) (next : ℕ) : Type 0 where
  pub is : (n : ℕ) (ds : List Decl) → Holds (key_at g src) (length src) w n ds
      → after ≡ sets (sets area slots (sums (at - base) (counts (ranks_at g src place levels own (rank_in w ds))))) at
      (flatten (ranks_at g src place levels own (rank_in w ds)))
  pub to : (n : ℕ) (ds : List Decl) → Holds (key_at g src) (length src) w n ds → next ≡ at + count_all (ranks_at g src place levels own (rank_in w ds))

-- ## Characters

-- the characters of the item whose order line is at a mark: its row tells twice a character's code and 2, or the mark of quotes, which is odd
unfoldable pub item_chars : Signs → List ℕ → List ℕ → ℕ → List ℕ
item_chars g src w mark =
    if leb (undefined_mark (length src)) mark then []
    else if eqb (cell w mark chars_number % 2) 0 then ((cell w mark chars_number - 2) / 2) ∷ []
    else chars_left g src (quote_spot (cell w mark chars_number / 2))

-- What the mark and its row name stands in the source.
pub record CharsReady (len : ℕ) (w : List ℕ) (mark : ℕ) : Type 0 where
  pub roomy : Roomy len w
  pub name : mark < undefined_mark len → mark / 2 ≤ len
  pub quotes : mark < undefined_mark len → (cell w mark chars_number % 2 ≡ 0 → ⊥) → cell w mark chars_number / 2 ≤ len

-- It has characters, or is UNDEFINED: it is no symbol.
pub record HasChars (len : ℕ) (w : List ℕ) (mark : ℕ) : Type 0 where
  pub told : mark < undefined_mark len → 1 ≤ cell w mark chars_number

-- The first of the characters still to come in quotes, or padding, and the spot before the others.
pub record CodeIs (g : Signs) (src : List ℕ) (p : Spot) (r : Coded) : Type 0 where
  pub code : r.code.0 ≡ get_or (chars_left g src p) 0 pad
  pub rest : chars_left g src r.next ≡ drop 1 (chars_left g src p)
  pub mode : r.next.mode ≡ quoted
  pub to : r.next.at ≤ length src

-- ## The whole item

-- The area has place for its ends, behind them for its characters, and behind those for its weights, which are equally many whatever their ranks
-- are; ends are counted from `base`, and can be stored.
pub record ItemRoom (g : Signs) (src w : List ℕ) (mark levels : ℕ) (area : List ℕ) (slots from base at : ℕ) : Type 0 where
  pub ends : slots + levels ≤ from
  pub chars : from + 4 ≤ base
  pub behind : base ≤ at
  pub by : Subject → ℕ
  pub room : at + count_all (item_ranks g src w mark levels by) ≤ length area
  pub small : at + count_all (item_ranks g src w mark levels by) < base + 4294967296

-- Its characters stand in the area, its ends, and its weights.
pub record ItemPut (g : Signs) (src w : List ℕ) (mark levels : ℕ) (area : List ℕ) (slots from base at : ℕ) (after : List ℕ) (next : ℕ) : Type 0 where
  pub is : (n : ℕ) (ds : List Decl) → Holds (key_at g src) (length src) w n ds
      → after ≡ sets (sets (sets area from (padded (item_chars g src w mark) [])) slots
      (sums (at - base) (counts (item_ranks g src w mark levels (rank_in w ds))))) at
      (flatten (item_ranks g src w mark levels (rank_in w ds)))
  pub to : (n : ℕ) (ds : List Decl) → Holds (key_at g src) (length src) w n ds → next ≡ at + count_all (item_ranks g src w mark levels (rank_in w ds))
