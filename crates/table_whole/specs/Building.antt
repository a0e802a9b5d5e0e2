-- The table of a source: all of its numbers, from the order lines in the work area.
use Rattle.std.specs.Prelude.{◌≡◌, Bool, List, [], ◌∷◌, ◌++◌, ℕ, suc, ◌+◌, ◌*◌, ◌≤◌, length, take, drop, replicate, if◌then◌else◌}
use Rattle.std.proofs.lemmas.List.Edits.{sets}
use Rattle.rules.specs.Tokens.{operands}
use Rattle.rules.specs.Meaning.{Rule, Item, item, Meaning}
use Rattle.rules.specs.Table.{padded, sums, mask, stored_form}
use Rattle.rules.specs.State.{Subject}
use Rattle.rules.specs.Compile.{levels_of_rank}
use Rattle.rules.proofs.StorableLaws.{AllStored}
use Rattle.table_layout.specs.Parts.{ends_at, listing_part, rules_part}
use Rattle.text_lines.specs.declared.Signs.{Signs}
use Rattle.text_tokens.specs.Left.{tokens_left}
use Rattle.work_subjects.specs.Keys.{key_at}
use Rattle.work_store.specs.Store.{Decl, Holds}
use Rattle.work_order.specs.Links.{Lines}
use Rattle.locale_levels.specs.Levels.{start_refusal}
use Rattle.locale_sheet.specs.Known.{behind}
use Rattle.locale_sheet.specs.declared.Sheet.{Sheet}
use Rattle.locale_sheet.specs.Sheets.{rules_at}
use Rattle.table_weights.specs.Ranks.{rank_in}
use Rattle.table_listing.specs.Permuted.{stored_with}
use Rattle.table_items.specs.Items.{items_of, LinesReady, WholeSums}

-- ## The meaning

-- UNDEFINED, where it is supplied: at every level the rank one above the last line
unfoldable pub supplied_items : Bool → List Rule → ℕ → List Item
supplied_items supplied rs count = if supplied then item [] (levels_of_rank (suc count) rs) ∷ [] else []

-- what the order lines of these marks mean, f giving the rank of a subject
unfoldable pub meaning_by : Signs → List ℕ → List ℕ → Sheet → Bool → (Subject → ℕ) → List ℕ → Meaning
meaning_by g src w sh supplied f vs = record {
  rules = rules_at g src sh.rules;
  items = items_of g src w sh.levels f vs ++ supplied_items supplied (rules_at g src sh.rules) sh.order.count;
}

-- ## Its size

-- how many items there are, with UNDEFINED where it is supplied
abbrev pub all_items : Bool → ℕ → ℕ
all_items supplied items = if supplied then items + 1 else items

-- how many weights
abbrev pub all_weights : Bool → ℕ → ℕ → ℕ
all_weights supplied levels weights = if supplied then weights + levels else weights

-- "16 + L + I x (6 + L) + W"
unfoldable pub table_size : ℕ → ℕ → ℕ → Bool → ℕ
table_size levels items weights supplied = 16 + levels + all_items supplied items * (6 + levels) + all_weights supplied levels weights

-- ## Its parts

-- the 16 numbers in front
abbrev pub front_numbers : ℕ → ℕ → ℕ → List ℕ
front_numbers levels items weights = levels ∷ items ∷ weights ∷ mask items ∷ replicate 12 0

-- where the weights of UNDEFINED end, where it is supplied: one at each level, behind so many others
abbrev pub supplied_ends : ℕ → ℕ → List ℕ
supplied_ends levels weights = sums weights (replicate levels 1)

-- the area with UNDEFINED supplied in it: no characters, where its weights end, and its rank at each level
abbrev pub with_supplied : List ℕ → ℕ → ℕ → ℕ → ℕ → ℕ → ℕ → List ℕ
with_supplied area levels weights rank slots from at = sets (sets (sets area from (padded [] [])) slots (supplied_ends levels weights)) at (replicate levels rank)

-- the numbers in the place of the listing and the starts, of so many items
abbrev pub unlisted : ℕ → ℕ → List ℕ → List ℕ
unlisted levels items area = take (2 * items) (drop (listing_part levels items) area)

-- ## What is asked and given

-- The rules at a place can be read again, the three numbers of the front can be stored, and the area has room.
pub record HeadFits (g : Signs) (src : List ℕ) (place levels items weights : ℕ) (area : List ℕ) : Type 0 where
  pub started : start_refusal (operands (tokens_left g src (behind place))) ≡ 0
  pub within : place ≤ length src
  pub room : rules_part levels items + length (rules_at g src place) ≤ length area
  pub few-levels : levels ≤ 8
  pub few-items : items ≤ 32768
  pub few-weights : weights ≤ 2097096

-- UNDEFINED can be supplied behind so many items, of so many order lines, and so many weights; the characters and the weights of the table start at
-- these places.
pub record Suppliable (levels items weights count chars base : ℕ) (area : List ℕ) : Type 0 where
  pub few-levels : levels ≤ 8
  pub few-items : items ≤ 32767
  pub few-weights : weights ≤ 2097088
  pub few-lines : count ≤ 32767
  pub near : base ≤ 458776
  pub ends : ends_at levels items + levels ≤ chars
  pub behind-chars : chars + 4 * items + 4 ≤ base
  pub room : base + weights + levels ≤ length area

-- The order lines and the rules can be read again; the items, of which there are some, and weights are so many, and the area has room for the table.
pub record Buildable (g : Signs) (src w : List ℕ) (sh : Sheet) (items weights : ℕ) (supplied : Bool) (area : List ℕ) : Type 0 where
  pub ready : LinesReady g src w sh.order sh.levels
  pub started : start_refusal (operands (tokens_left g src (behind sh.rules))) ≡ 0
  pub within : sh.rules ≤ length src
  pub levels : length (rules_at g src sh.rules) ≡ sh.levels
  pub few : sh.levels ≤ 8
  pub sums : WholeSums g src w sh.order sh.levels items weights
  pub room : table_size sh.levels items weights supplied ≤ length area
  pub places : items + 1 ≤ length w

-- All numbers but those of the listing and the starts; there, and behind the table, the area is as it was.
pub record Tabled (g : Signs) (src w : List ℕ) (sh : Sheet) (items weights : ℕ) (supplied : Bool) (area after : List ℕ) : Type 0 where
  pub is : (vs : List ℕ) → Lines w sh.order vs → (n : ℕ) (ds : List Decl) → Holds (key_at g src) (length src) w n ds
      → after ≡ stored_with (unlisted sh.levels (all_items supplied items) area) (meaning_by g src w sh supplied (rank_in w ds) vs)
      (drop (table_size sh.levels items weights supplied) area)

-- The stored form of a meaning that can be stored.
pub record Built (g : Signs) (src w : List ℕ) (sh : Sheet) (items weights : ℕ) (supplied : Bool) (area after : List ℕ) : Type 0 where
  pub is : (vs : List ℕ) → Lines w sh.order vs → (n : ℕ) (ds : List Decl) → Holds (key_at g src) (length src) w n ds
      → AllStored sh.levels (meaning_by g src w sh supplied (rank_in w ds) vs).items
      → after ≡ stored_form (meaning_by g src w sh supplied (rank_in w ds) vs) (drop (table_size sh.levels items weights supplied) area)
