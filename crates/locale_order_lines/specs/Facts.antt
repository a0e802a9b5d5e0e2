-- What is told of the subject of an order line, and the refusal that follows.
use Rattle.std.specs.Prelude.{◌≡◌, Bool, true, false, not, ◌||◌, List, ℕ, ◌+◌, ◌-◌, ◌*◌, ◌/◌, ◌≤◌, ◌<◌, length, eqb, leb, if◌then◌else◌, None, Option, Some, Ok, Result}
use Rattle.rules.specs.Text.{one_of, lower}
use Rattle.rules.specs.Names.{is_character}
use Rattle.rules.specs.Tokens.{operands, tokens_refusal}
use Rattle.rules.specs.Meaning.{Rule}
use Rattle.rules.specs.State.{in_block, Declaration, Subject, OrderLine, Chain, State}
use Rattle.rules.specs.OrderLines.{stands, is_symbol, rank_of, taken_out, again, order_line}
use Rattle.text_lines.specs.declared.Signs.{Signs}
use Rattle.text_lines.specs.declared.Spot.{Spot}
use Rattle.text_lines.specs.declared.LineEnd.{LineEnd}
use Rattle.text_tokens.specs.Left.{tokens_left}
use Rattle.work_rows.specs.Cells.{cell}
use Rattle.work_store.specs.Store.{is_found, Declares}
use Rattle.work_subjects.specs.Keys.{key_at}
use Rattle.work_order.specs.declared.Order.{Order}
use Rattle.work_order.specs.Links.{chars_number, place_number, Row, Backed, Lines, SomeLines, longer, with_line, shorter, unlinked, longer_after, with_line_after}
use Rattle.locale_sheet.specs.Known.{Known}
use Rattle.locale_sheet.proofs.RankLaws.{is_ordered}
use Rattle.locale_sheet.specs.declared.Block.{Block}
use Rattle.locale_sheet.specs.declared.Sheet.{Sheet}
use Rattle.locale_sheet.specs.declared.Step.{Step}
use Rattle.locale_sheet.specs.declared.Step.TheVariants.{Next}
use Rattle.locale_sheet.specs.Sheets.{Open}
use Rattle.locale_order_lines.specs.declared.Facts.{Facts}
use Rattle.base_units.specs.declared.CodePoint.{CodePoint}
use Rattle.base_units.specs.declared.Refusal.{Refusal}

-- ## What is found

-- The row of what is found stands in the area.
abbrev pub Rowed : List ℕ → Option ℕ → Type 0
Rowed w (Some v) = 8 * (v / 16) + 8 ≤ length w
Rowed w None = Unit

-- it is found, and its row tells neither the characters of an element nor the code of a character
abbrev pub is_bare : List ℕ → Option ℕ → Bool
is_bare w (Some v) = eqb (cell w v chars_number) 0
is_bare w None = false

-- it is the block's named line, or one of its own lines: those are written from the block's place on
abbrev pub is_own : List ℕ → Block → Option ℕ → Bool
is_own w b (Some v) = eqb v b.named || leb b.from (cell w v place_number)
is_own w b None = false

-- its order line would be a second one: in a block beside the block's lines, else beside all
abbrev pub is_again : List ℕ → Sheet → Option ℕ → Bool
is_again w sh f = if eqb sh.phase in_block then is_own w sh.block f else is_ordered w f

-- ## Facts

-- The facts are those of the subject x, with these declarations and order lines.
pub record FactsIn (cs : List Declaration) (ls : List OrderLine) (x : Subject) (k : Facts) : Type 0 where
  pub symbol : is_symbol cs x ≡ k.symbol
  pub ordered : eqb (rank_of ls x) 0 ≡ not k.ordered
  pub others : length (taken_out x ls) ≡ (if k.ordered then length ls - 1 else length ls)
  pub stands : stands cs x ≡ k.stands

-- They are, whatever the area is known to hold.
pub record FactsOf (g : Signs) (src w : List ℕ) (x : Subject) (k : Facts) : Type 0 where
  pub are : (o : Order) (rs : List Rule) (n : ℕ) (cs : List Declaration) (ls : List OrderLine) → Known g src w o rs n cs ls → FactsIn cs ls x k

-- those of a name for which f is found and whose code is c: with a code it is no symbol, and stands if that is a character's
abbrev pub name_facts : List ℕ → Option ℕ → Option CodePoint → Facts
name_facts w f (Some x) = record { symbol = false; ordered = is_ordered w f; stands = is_character x.0 }
name_facts w f None = record { symbol = is_bare w f; ordered = is_ordered w f; stands = is_found f }

-- those of UNDEFINED, whose mark is m: it stands, and it is no symbol
abbrev pub undefined_facts : List ℕ → ℕ → Facts
undefined_facts w m = record { symbol = false; ordered = is_ordered w (Some m); stands = true }

-- An order line of the subject x is a second one, or it is not, whatever state is held.
pub record AgainIs (g : Signs) (src w : List ℕ) (sh : Sheet) (x : Subject) (b : Bool) : Type 0 where
  pub is : (cs : List Chain) (at : ℕ) (s : State) → Open g src w sh cs at s → again s.ordered.block x s.ordered.lines ≡ b

-- The area is known to hold something.
pub record SomeKnown (g : Signs) (src w : List ℕ) : Type 0 where
  pub order : Order
  pub rules : List Rule
  pub n : ℕ
  pub declared : List Declaration
  pub ordered : List OrderLine
  pub known : Known g src w order rules n declared ordered

-- ## The refusal

-- r is the refusal of an order line whose subject has these facts, with the operands after the spot p, whatever state is held.
pub record OwnRefused (g : Signs) (src w : List ℕ) (sh : Sheet) (p : Spot) (k : Facts) (b : Bool) (r : ℕ) : Type 0 where
  pub is : (x : Subject) → FactsOf g src w x k → AgainIs g src w sh x b → (cs : List Chain) (at : ℕ) (s : State) (number : ℕ) → Open g src w sh cs at s
      → r ≡ lower (tokens_refusal (operands (tokens_left g src p))) (order_line s number x (operands (tokens_left g src p))).refusal

-- ## The row

-- A row for what stands at the mark v, where f is found: that, or a new one.
abbrev pub RowIs : Signs → List ℕ → List ℕ → ℕ → List ℕ → ℕ → Option ℕ → Type 0
RowIs g src w v w' m (Some u) = (m ≡ u) × (w' ≡ w)
RowIs g src w v w' m None = (m ≡ v) × Declares (key_at g src) (length src) w v w'

-- ## The line

-- the sheet with other order lines
abbrev pub with_order : Sheet → Order → Sheet
with_order sh o = record { phase = sh.phase; toggles = sh.toggles; rules = sh.rules; levels = sh.levels; order = o; block = sh.block }

-- and with that of the mark m as the open block's last
abbrev pub with_last : Sheet → Order → ℕ → Sheet
with_last sh o m = record {
  phase = sh.phase;
  toggles = sh.toggles;
  rules = sh.rules;
  levels = sh.levels;
  order = o;
  block = record { named = sh.block.named; last = m; from = sh.block.from };
}

-- The line of the mark v can come to stand directly after that of a, which is another, and leave its place if it has one.
pub record Behind (w : List ℕ) (o : Order) (a v : ℕ) : Type 0 where
  pub marks : List ℕ
  pub lines : Lines w o marks
  pub backed : Backed w 0 marks
  pub one : one_of (eqb a) marks ≡ true
  pub other : a ≡ v → ⊥
  pub placed : is_ordered w (Some v) ≡ true → one_of (eqb v) marks ≡ true
  pub small : a < 4294967296

-- The row of the mark m can be given an order line.
pub record Ready (w : List ℕ) (sh : Sheet) (m number place : ℕ) : Type 0 where
  pub row : Row w m
  pub lines : SomeLines w sh.order
  pub small-mark : m < 4294967296
  pub small-number : number < 4294967296
  pub small-place : place < 4294967296
  pub few : sh.order.count < 4294967296
  pub small-last : sh.order.last < 4294967296
  pub block : sh.phase ≡ in_block → Behind w sh.order sh.block.last m

-- The row of the mark m gets an order line at the end of the order, and the sheet a line more.
pub record LastIs (w : List ℕ) (sh : Sheet) (m number place : ℕ) (e : LineEnd) (w' : List ℕ) (r : Result Step Refusal) : Type 0 where
  pub step : r ≡ Ok (Next (with_order sh (longer sh.order m)) e.next e.feeds)
  pub area : w' ≡ with_line w sh.order m number place

-- It gets its first order line, as the open block's last.
pub record NewIs (w : List ℕ) (sh : Sheet) (m number place : ℕ) (e : LineEnd) (w' : List ℕ) (r : Result Step Refusal) : Type 0 where
  pub step : r ≡ Ok (Next (with_last sh (longer_after w sh.order sh.block.last m) m) e.next e.feeds)
  pub put : w' ≡ with_line_after w sh.block.last m number place

-- Its order line leaves its place, and comes to stand as the open block's last.
pub record MovedIs (w : List ℕ) (sh : Sheet) (m number place : ℕ) (e : LineEnd) (w' : List ℕ) (r : Result Step Refusal) : Type 0 where
  pub step : r ≡ Ok (Next (with_last sh (longer_after (unlinked w m) (shorter w sh.order m) sh.block.last m) m) e.next e.feeds)
  pub moved : w' ≡ with_line_after (unlinked w m) sh.block.last m number place

-- One of these.
pub data Lists (w : List ℕ) (sh : Sheet) (m number place : ℕ) (e : LineEnd) (w' : List ℕ) (r : Result Step Refusal) : Type 0 where
  at_end : (sh.phase ≡ in_block → ⊥) → LastIs w sh m number place e w' r → Lists w sh m number place e w' r
  firstly : sh.phase ≡ in_block → is_ordered w (Some m) ≡ false → NewIs w sh m number place e w' r → Lists w sh m number place e w' r
  anew : sh.phase ≡ in_block → is_ordered w (Some m) ≡ true → MovedIs w sh m number place e w' r → Lists w sh m number place e w' r
