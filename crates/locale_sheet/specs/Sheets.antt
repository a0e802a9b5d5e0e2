-- The paper's state inside LC_COLLATE (Rattle.rules.specs.State), as the work area and a sheet hold it, and what a line does to it.
use Rattle.std.specs.Prelude.{◌≡◌, Bool, true, false, ◌||◌, List, [], ◌∷◌, ◌++◌, map, ℕ, ◌+◌, ◌*◌, ◌/◌, ◌≤◌, ◌<◌, length, get_or, eqb, if◌then◌else◌, Err, Ok, Result}
use Rattle.rules.specs.Text.{one_of}
use Rattle.rules.specs.Tokens.{operands}
use Rattle.rules.specs.Meaning.{Rule}
use Rattle.rules.specs.State.{before_order, after_order, in_block, between_categories, Chain, Subject, State, in_collate, to_phase, Outcome, gives}
use Rattle.rules.specs.Conditionals.{chain}
use Rattle.rules.specs.OrderLines.{rule_of, rule_codes}
use Rattle.rules.specs.Source.{line_outcome}
use Rattle.base_units.specs.Numbers.{number_of}
use Rattle.text_lines.specs.declared.Signs.{Signs}
use Rattle.text_lines.specs.Stream.{line_left, marks_left, line_start}
use Rattle.text_tokens.specs.Left.{tokens_left}
use Rattle.locale_levels.specs.Levels.{start_refusal}
use Rattle.work_toggles.specs.Kept.{toggles_in, Kept}
use Rattle.work_rows.specs.Cells.{cell}
use Rattle.work_order.specs.Links.{place_number}
use Rattle.locale_sheet.specs.Known.{subject_at, behind, Known}
use Rattle.locale_sheet.specs.declared.Block.{Block}
use Rattle.locale_sheet.specs.declared.Sheet.{Sheet}
use Rattle.locale_sheet.specs.Words.{TurnLine}
use Rattle.locale_sheet.specs.declared.Step.{Step}
use Rattle.locale_sheet.specs.declared.Step.TheVariants.{Next, Opens, Closes, Branch}
use Rattle.base_units.specs.declared.Refusal.{Refusal}

-- ## The state

-- where the toggles stand in the work area: behind the rows, and behind that of UNDEFINED
abbrev pub toggles_at : ℕ → ℕ
toggles_at len = 8 * (len / 8 + 2)

-- the rules that stand in the source after the word order_start
unfoldable pub rules_at : Signs → List ℕ → ℕ → List Rule
rules_at g src at = map rule_of (rule_codes (operands (tokens_left g src (behind at))))

-- The rows below this one may be in use before the line at a place: a declaration's name stands 18 bytes and more behind its line's beginning, so that its row and the one
-- before are free; an order line of a character is as long as a row. Between a declaration and an order line stands order_start or reorder-after.
abbrev pub rows_before : ℕ → ℕ → ℕ
rows_before phase at = if eqb phase before_order || eqb phase after_order then (at + 5) / 8 else (at + 1) / 8

-- The open block, whose lines and named line have these subjects: its own lines, the last one first, are those that are written from the block's place on.
pub record InBlock (g : Signs) (src w marks : List ℕ) (b : Block) (xs : List Subject) : Type 0 where
  pub own : List ℕ
  pub subjects : xs ≡ map (subject_at g src) (own ++ b.named ∷ [])
  pub last : b.last ≡ get_or (own ++ b.named ∷ []) 0 0
  pub named : one_of (eqb b.named) marks ≡ true
  pub before : cell w b.named place_number < b.from
  pub listed : (v : ℕ) → one_of (eqb v) own ≡ true → (one_of (eqb v) marks ≡ true) × (b.from ≤ cell w v place_number)
  pub all : (v : ℕ) → one_of (eqb v) marks ≡ true → b.from ≤ cell w v place_number → one_of (eqb v) own ≡ true

-- The area and the sheet hold the state of the paper before the line at a place, with these chains open.
pub record Open (g : Signs) (src w : List ℕ) (sh : Sheet) (cs : List Chain) (at : ℕ) (s : State) : Type 0 where
  pub comment : s.chars.comment ≡ g.comment
  pub escape : s.chars.escape ≡ g.escape
  pub phase : s.place.phase ≡ sh.phase
  pub inside : in_collate s ≡ true
  pub collated : s.place.collated ≡ true
  pub chains : s.blocks.chains ≡ cs
  pub inner : s.blocks.inner ≡ 0
  pub toggles : s.blocks.toggles ≡ toggles_in g src w (toggles_at (length src)) sh.toggles
  pub kept : Kept g src w (toggles_at (length src)) sh.toggles
  pub n : ℕ
  pub known : Known g src w sh.order s.ordered.rules n s.declared s.ordered.lines
  pub rows : at < length src → n ≤ rows_before sh.phase at
  pub unordered : eqb sh.phase before_order ≡ true → sh.order.count ≡ 0
  pub rules : eqb sh.phase before_order ≡ false → s.ordered.rules ≡ rules_at g src sh.rules
  pub started : eqb sh.phase before_order ≡ false → start_refusal (operands (tokens_left g src (behind sh.rules))) ≡ 0
  pub ruled : sh.rules ≤ length src
  pub levels : length s.ordered.rules ≡ sh.levels
  pub few : sh.order.count ≤ 32767
  pub places : (v : ℕ) → one_of (eqb v) known.marks ≡ true → cell w v place_number ≤ at
  pub from : eqb sh.phase in_block ≡ true → sh.block.from ≤ at
  pub block : eqb sh.phase in_block ≡ true → InBlock g src w known.marks sh.block s.ordered.block
  pub closed : eqb sh.phase in_block ≡ false → s.ordered.block ≡ []

-- Some state is held, whatever chains are open.
pub record SomeOpen (g : Signs) (src w : List ℕ) (sh : Sheet) (at depth : ℕ) : Type 0 where
  pub chains : List Chain
  pub state : State
  pub held : Open g src w sh chains at state
  pub deep : length chains ≡ depth
  pub room : length src + 64 ≤ length w
  pub short : length src ≤ 1048576

-- the branch that the line stands in is used, if there is one
abbrev pub is_used : List Chain → Bool
is_used [] = true
is_used (c ∷ cs) = c.used

-- ## What a line does

-- A line from at to next, with k LFs.
pub record Moves (g : Signs) (src : List ℕ) (at next k : ℕ) : Type 0 where
  pub end : at + (line_left g src (line_start at)).size ≡ next
  pub feeds : (line_left g src (line_start at)).feeds ≡ k
  pub on : at < next
  pub to : next ≤ length src
  pub few : at + k ≤ next

-- the outcome of the line at a place, as line `number`
abbrev pub outcome_of : Signs → List ℕ → ℕ → State → ℕ → Outcome
outcome_of g src at s number = line_outcome s number (marks_left g src (line_start at))

-- It is not refused, and the area and the sheet hold the state after it.
pub record Leaves (g : Signs) (src : List ℕ) (at number : ℕ) (s : State) (w' : List ℕ) (sh' : Sheet) (cs' : List Chain) (next : ℕ) : Type 0 where
  pub after : State
  pub outcome : outcome_of g src at s number ≡ gives 0 after
  pub held : Open g src w' sh' cs' next after

-- END LC_COLLATE: it is not refused, and what was held stays.
pub record Ends (g : Signs) (src : List ℕ) (at number : ℕ) (s : State) : Type 0 where
  pub outcome : outcome_of g src at s number ≡ gives 0 (to_phase s between_categories)

-- Of every state that is held, with so many chains open and the present branch used.
abbrev pub Every : Signs → List ℕ → List ℕ → Sheet → ℕ → ℕ → (List Chain → State → Type 0) → Type 0
Every g src w sh at depth P = (cs : List Chain) (s : State) → Open g src w sh cs at s → length cs ≡ depth → is_used cs ≡ true → P cs s

-- A line that changes the sheet.
pub record NextIs (g : Signs) (src w : List ℕ) (sh : Sheet) (at number depth : ℕ) (w' : List ℕ) (sh' : Sheet) (next k : ℕ) : Type 0 where
  pub moves : Moves g src at next k
  pub leaves : Every g src w sh at depth (λ (cs : List Chain) (s : State). Leaves g src at number s w' sh' cs next)

-- A line that opens a chain.
pub record OpensIs (g : Signs) (src w : List ℕ) (sh : Sheet) (at number depth : ℕ) (w' : List ℕ) (holds : Bool) (sh' : Sheet) (next k : ℕ) : Type 0 where
  pub moves : Moves g src at next k
  pub leaves : Every g src w sh at depth (λ (cs : List Chain) (s : State). Leaves g src at number s w' sh' (chain holds holds false ∷ cs) next)
  pub shallow : depth < 8

-- The line END LC_COLLATE, outside every chain and behind the order.
pub record ClosesIs (g : Signs) (src w : List ℕ) (sh : Sheet) (at number depth : ℕ) (w' : List ℕ) (next k : ℕ) : Type 0 where
  pub moves : Moves g src at next k
  pub outside : depth ≡ 0
  pub behind : eqb sh.phase before_order ≡ false
  pub same : w' ≡ w
  pub leaves : Every g src w sh at depth (λ (cs : List Chain) (s : State). Ends g src at number s)

-- A line that is refused.
pub record RefusedIs (g : Signs) (src w : List ℕ) (sh : Sheet) (at number depth r : ℕ) : Type 0 where
  pub refusal : Every g src w sh at depth (λ (cs : List Chain) (s : State). (outcome_of g src at s number).refusal ≡ r)

-- A line of elif, else or endif: the chain that is open reads it, with the area as it was.
pub record BranchIs (g : Signs) (src w : List ℕ) (at : ℕ) (w' : List ℕ) : Type 0 where
  pub same : w' ≡ w
  pub line : TurnLine g src at

-- what a line in a used branch does
abbrev pub StepIs : Signs → List ℕ → List ℕ → Sheet → ℕ → ℕ → ℕ → List ℕ → Result Step Refusal → Type 0
StepIs g src w sh at number depth w' (Ok (Next sh' next k)) = NextIs g src w sh at number depth w' sh' next k
StepIs g src w sh at number depth w' (Ok (Opens holds sh' next k)) = OpensIs g src w sh at number depth w' holds sh' next k
StepIs g src w sh at number depth w' (Ok (Closes next k)) = ClosesIs g src w sh at number depth w' next k
StepIs g src w sh at number depth w' (Ok Branch) = BranchIs g src w at w'
StepIs g src w sh at number depth w' (Err r) = RefusedIs g src w sh at number depth (number_of r)
