-- The items that the order lines give, by the marks of the lines (Rattle.work_order.specs.Links): which lines give one, and whether each of their
-- weights has a rank.
use Rattle.std.specs.Prelude.{◌≡◌, Bool, true, false, not, ◌||◌, List, [], ◌∷◌, ℕ, ◌*◌, ◌≤◌, length, eqb, leb, if◌then◌else◌, Err, Ok, Result}
use Rattle.base_lists.proofs.Lists.{All}
use Rattle.rules.specs.Text.{every, lower}
use Rattle.rules.specs.Meaning.{Item, item, weight_count}
use Rattle.rules.specs.State.{Subject}
use Rattle.text_lines.specs.declared.Signs.{Signs}
use Rattle.work_rows.specs.Cells.{cell}
use Rattle.work_subjects.specs.Keys.{key_at}
use Rattle.work_store.specs.Store.{Decl, Holds, Sound, undefined_mark}
use Rattle.work_order.specs.declared.Order.{Order}
use Rattle.work_order.specs.Links.{chars_number, line_number, Lines}
use Rattle.table_weights.specs.Ranks.{rank_in}
use Rattle.table_weights.specs.Reading.{item_ranks, RowReady}
use Rattle.table_records.specs.Writing.{item_chars, CharsReady}

-- ## Items, f giving the rank of a subject

-- The order line of a mark gives an item: that of UNDEFINED, and one whose row tells the characters of an element or the code of a character. A
-- symbol's gives none. `mark-item` (Rattle.table_items.proofs.MeaningLaws) says that these are the paper's items.
unfoldable pub is_item : ℕ → List ℕ → ℕ → Bool
is_item len w v = leb (undefined_mark len) v || not (eqb (cell w v chars_number) 0)

-- its item
unfoldable pub item_of : Signs → List ℕ → List ℕ → ℕ → (Subject → ℕ) → ℕ → Item
item_of g src w levels f v = item (item_chars g src w v) (item_ranks g src w v levels f)

-- the items that the order lines of these marks give
unfoldable pub items_of : Signs → List ℕ → List ℕ → ℕ → (Subject → ℕ) → List ℕ → List Item
items_of g src w levels f [] = []
items_of g src w levels f (v ∷ vs) =
    let r : List Item = items_of g src w levels f vs in
    if is_item (length src) w v then item_of g src w levels f v ∷ r else r

-- every weight of a line has a rank
unfoldable pub is_weighed : Signs → List ℕ → List ℕ → ℕ → (Subject → ℕ) → ℕ → Bool
is_weighed g src w levels f v = every (every (leb 1)) (item_ranks g src w v levels f)

-- of the lines with a weight that has none, the number of the one that was written first; 0 for no such line
unfoldable pub unweighed : Signs → List ℕ → List ℕ → ℕ → (Subject → ℕ) → List ℕ → ℕ
unweighed g src w levels f [] = 0
unweighed g src w levels f (v ∷ vs) =
    let r : ℕ = unweighed g src w levels f vs in
    if is_weighed g src w levels f v then r else lower (cell w v line_number) r

-- ## What is asked and given

-- The order line of a mark can be read again: its row, and what the mark names.
pub record LineReady (g : Signs) (src w : List ℕ) (levels v : ℕ) : Type 0 where
  pub row : RowReady g src w v levels
  pub chars : CharsReady (length src) w v

-- So can all order lines.
pub record LinesReady (g : Signs) (src w : List ℕ) (o : Order) (levels : ℕ) : Type 0 where
  pub marks : List ℕ
  pub lines : Lines w o marks
  pub ready : All (LineReady g src w levels) marks
  pub sound : Sound (key_at g src) (length src) w
  pub few : o.count ≤ 32767

-- Each weight has a rank; the items are so many, and so are their weights.
pub record WholeSums (g : Signs) (src w : List ℕ) (o : Order) (levels items weights : ℕ) : Type 0 where
  pub weighed : (vs : List ℕ) → Lines w o vs → (n : ℕ) (ds : List Decl) → Holds (key_at g src) (length src) w n ds
      → every (is_weighed g src w levels (rank_in w ds)) vs ≡ true
  pub items-are : (vs : List ℕ) → Lines w o vs → (n : ℕ) (ds : List Decl) → Holds (key_at g src) (length src) w n ds
      → items ≡ length (items_of g src w levels (rank_in w ds) vs)
  pub weights-are : (vs : List ℕ) → Lines w o vs → (n : ℕ) (ds : List Decl) → Holds (key_at g src) (length src) w n ds
      → weights ≡ weight_count (items_of g src w levels (rank_in w ds) vs)
  pub few-items : items ≤ o.count
  pub few-weights : weights ≤ 64 * items

-- Some weight has none, and of the lines with such a weight the one that was written first has this number.
pub record UnrankedAt (g : Signs) (src w : List ℕ) (o : Order) (levels line : ℕ) : Type 0 where
  pub unweighed-some : (vs : List ℕ) → Lines w o vs → (n : ℕ) (ds : List Decl) → Holds (key_at g src) (length src) w n ds
      → every (is_weighed g src w levels (rank_in w ds)) vs ≡ false
  pub line-is : (vs : List ℕ) → Lines w o vs → (n : ℕ) (ds : List Decl) → Holds (key_at g src) (length src) w n ds
      → line ≡ unweighed g src w levels (rank_in w ds) vs

abbrev pub SumsAre : Signs → List ℕ → List ℕ → Order → ℕ → Result (ℕ × ℕ) ℕ → Type 0
SumsAre g src w o levels (Ok (items, weights)) = WholeSums g src w o levels items weights
SumsAre g src w o levels (Err line) = UnrankedAt g src w o levels line
