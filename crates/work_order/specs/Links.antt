-- The used order lines in their order: a list of marks, linked through the rows of the work area (Rattle.work_rows.specs.Cells).
use Rattle.std.specs.Prelude.{◌≡◌, true, List, [], ◌∷◌, ℕ, suc, ◌+◌, ◌-◌, ◌*◌, ◌/◌, ◌≤◌, length, set, eqb, if◌then◌else◌}
use Rattle.base_lists.proofs.Lists.{All}
use Rattle.rules.specs.Text.{one_of}
use Rattle.work_rows.specs.Cells.{cell_at, cell}
use Rattle.work_rows.proofs.CellLaws.{Apart}
use Rattle.work_order.specs.declared.Order.{Order}

-- ## The five numbers of a row: of an element, the mark of its characters; of an order line, the number of its first physical line, the
-- place after its subject (0: there is no such line), the mark of the next one (0 for the last), and its rank; until ranks are given, in place of
-- the rank the mark of the line before (0 for the first)

abbrev pub chars_number : ℕ
chars_number = 0

abbrev pub line_number : ℕ
line_number = 1

abbrev pub place_number : ℕ
place_number = 2

abbrev pub next_number : ℕ
next_number = 3

abbrev pub rank_number : ℕ
rank_number = 4

abbrev pub back_number : ℕ
back_number = 4

-- ## The list

-- A mark whose row stands in the area.
pub record Row (w : List ℕ) (v : ℕ) : Type 0 where
  pub some : 1 ≤ v
  pub inside : 8 * (v / 16) + 8 ≤ length w

-- The marks from p on are linked.
pub data Linked (w : List ℕ) : ℕ → List ℕ → Type 0 where
  ends : Linked w 0 []
  goes : {v : ℕ} {vs : List ℕ} → Row w v → Linked w (cell w v next_number) vs → Linked w v (v ∷ vs)

-- Each of the marks is linked back to the one before it, the first to p.
pub data Backed (w : List ℕ) : ℕ → List ℕ → Type 0 where
  begins : {p : ℕ} → Backed w p []
  comes : {p v : ℕ} {vs : List ℕ} → cell w v back_number ≡ p → Backed w v vs → Backed w p (v ∷ vs)

-- No two of the marks are of one row.
pub data Spread : List ℕ → Type 0 where
  none : Spread []
  more : {v : ℕ} {vs : List ℕ} → All (Apart v) vs → Spread vs → Spread (v ∷ vs)

-- the last mark, 0 for none
unfoldable pub last_of : List ℕ → ℕ
last_of [] = 0
last_of (v ∷ []) = v
last_of (v ∷ u ∷ us) = last_of (u ∷ us)

-- The area holds these order lines.
pub record Lines (w : List ℕ) (o : Order) (vs : List ℕ) : Type 0 where
  pub linked : Linked w o.first vs
  pub spread : Spread vs
  pub last : o.last ≡ last_of vs
  pub count : o.count ≡ length vs

-- It holds some.
pub record SomeLines (w : List ℕ) (o : Order) : Type 0 where
  pub marks : List ℕ
  pub lines : Lines w o marks

-- ## One line more

-- The row of a mark, if it is one, stands in the area.
pub record Reached (w : List ℕ) (l : ℕ) : Type 0 where
  pub inside : (l ≡ 0 → ⊥) → 8 * (l / 16) + 8 ≤ length w

-- a link from a line, if there is one: number j of its row
unfoldable pub linked_to : List ℕ → ℕ → ℕ → ℕ → List ℕ
linked_to w l j v = if eqb l 0 then w else set w (cell_at l j) v

-- a line's own numbers
unfoldable pub numbered : List ℕ → ℕ → ℕ → ℕ → List ℕ
numbered w v number place = set (set w (cell_at v line_number) number) (cell_at v place_number) place

-- the links to and from a new line behind the last, and its numbers
unfoldable pub with_line : List ℕ → Order → ℕ → ℕ → ℕ → List ℕ
with_line w o v number place = numbered (set (linked_to w o.last next_number v) (cell_at v back_number) o.last) v number place

-- the list with a line more
abbrev pub longer : Order → ℕ → Order
longer o v = record { first = if eqb o.first 0 then v else o.first; last = v; count = o.count + 1 }

-- A mark that is in no row of these, with no link yet.
pub record NewLine (w : List ℕ) (v : ℕ) (vs : List ℕ) : Type 0 where
  pub row : Row w v
  pub apart : All (Apart v) vs
  pub alone : cell w v next_number ≡ 0

-- ## A line that leaves, and one that comes between others

-- The area holds some lines, linked both ways, and that of v is one of them.
pub record Among (w : List ℕ) (o : Order) (v : ℕ) : Type 0 where
  pub marks : List ℕ
  pub lines : Lines w o marks
  pub backed : Backed w 0 marks
  pub one : one_of (eqb v) marks ≡ true

-- a line leaves: the one before it and the one after it are linked
unfoldable pub unlinked : List ℕ → ℕ → List ℕ
unlinked w v = linked_to (linked_to w (cell w v back_number) next_number (cell w v next_number)) (cell w v next_number) back_number (cell w v back_number)

-- the list without it
abbrev pub shorter : List ℕ → Order → ℕ → Order
shorter w o v = record {
  first = if eqb (cell w v back_number) 0 then cell w v next_number else o.first;
  last = if eqb (cell w v next_number) 0 then cell w v back_number else o.last;
  count = o.count - 1;
}

-- A line at v may come to stand between those of a and of next, if there is one.
pub record Between (w : List ℕ) (a v next : ℕ) : Type 0 where
  pub before : Row w a
  pub row : Row w v
  pub after : Reached w next

-- the links to and from a line that comes to stand between those of a and of next, if there is one
unfoldable pub linked_between : List ℕ → ℕ → ℕ → ℕ → List ℕ
linked_between w a v next = set (set (set (linked_to w next back_number v) (cell_at a next_number) v) (cell_at v next_number) next) (cell_at v back_number) a

-- a line that comes to stand directly after that of a: its links and its numbers
unfoldable pub with_line_after : List ℕ → ℕ → ℕ → ℕ → ℕ → List ℕ
with_line_after w a v number place = numbered (linked_between w a v (cell w a next_number)) v number place

-- the list with it
abbrev pub longer_after : List ℕ → Order → ℕ → ℕ → Order
longer_after w o a v = record { first = o.first; last = if eqb (cell w a next_number) 0 then v else o.last; count = o.count + 1 }

-- ## Ranks

-- the marks get their ranks, from k on
unfoldable pub ranked : List ℕ → ℕ → List ℕ → List ℕ
ranked w k [] = w
ranked w k (v ∷ vs) = ranked (set w (cell_at v rank_number) k) (suc k) vs

-- Every line has its rank.
pub record Ranks (w : List ℕ) (o : Order) (w' : List ℕ) : Type 0 where
  pub area : (vs : List ℕ) → Lines w o vs → w' ≡ ranked w 1 vs
