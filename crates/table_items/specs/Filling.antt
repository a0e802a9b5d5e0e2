-- What stands in a table's area after the items of all order lines were written.
use Rattle.std.specs.Prelude.{◌≡◌, List, [], ℕ, ◌+◌, ◌*◌, ◌≤◌, length}
use Rattle.std.proofs.lemmas.List.Edits.{sets}
use Rattle.rules.specs.Meaning.{weight_count}
use Rattle.rules.specs.Table.{ends, char_numbers, weight_numbers}
use Rattle.rules.specs.State.{Subject}
use Rattle.text_lines.specs.declared.Signs.{Signs}
use Rattle.work_subjects.specs.Keys.{key_at}
use Rattle.work_store.specs.Store.{Decl, Holds}
use Rattle.work_order.specs.declared.Order.{Order}
use Rattle.work_order.specs.Links.{Lines}
use Rattle.table_weights.specs.Ranks.{rank_in}
use Rattle.table_items.specs.Items.{items_of, LinesReady}

-- The order lines can be read again, and the area has place for the ends of their items, behind those for their characters, and behind those for
-- their weights. All are equally many whatever the ranks are.
pub record Fillable (g : Signs) (src w : List ℕ) (o : Order) (levels : ℕ) (area : List ℕ) (slots from base : ℕ) : Type 0 where
  pub ready : LinesReady g src w o levels
  pub by : Subject → ℕ
  pub ends : slots + length (items_of g src w levels by ready.marks) * levels ≤ from
  pub chars : from + 4 * length (items_of g src w levels by ready.marks) ≤ base
  pub weights : base + weight_count (items_of g src w levels by ready.marks) ≤ length area

-- Characters, ends and weights stand there; nothing else is changed.
pub record Filled (g : Signs) (src w : List ℕ) (o : Order) (levels : ℕ) (area : List ℕ) (slots from base : ℕ) (after : List ℕ) : Type 0 where
  pub is : (vs : List ℕ) → Lines w o vs → (n : ℕ) (ds : List Decl) → Holds (key_at g src) (length src) w n ds
      → after ≡ sets (sets (sets area from (char_numbers (items_of g src w levels (rank_in w ds) vs) [])) slots (ends (items_of g src w levels (rank_in w ds) vs))) base
      (weight_numbers (items_of g src w levels (rank_in w ds) vs) [])
