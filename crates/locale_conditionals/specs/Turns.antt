-- The lines that an open chain reads itself, used or not: elif, else and endif. What is said is said of the line read whole
-- (Rattle.rules.specs.Source, whole_line): a line of an open chain is, whether its branch is used or not.
use Rattle.std.specs.Prelude.{◌≡◌, Bool, List, ◌∷◌, ℕ, ◌<◌, length, Err, Ok, Result}
use Rattle.rules.specs.State.{Chain, State, Outcome, gives}
use Rattle.rules.specs.Conditionals.{chain}
use Rattle.rules.specs.Source.{whole_line}
use Rattle.base_units.specs.Numbers.{number_of}
use Rattle.text_lines.specs.declared.Signs.{Signs}
use Rattle.text_lines.specs.declared.Spot.{Spot}
use Rattle.text_lines.specs.declared.LineEnd.{LineEnd}
use Rattle.text_lines.specs.Stream.{marks_left, line_start}
use Rattle.text_tokens.specs.declared.Tok.{Tok}
use Rattle.locale_opening.specs.Begun as begun
use Rattle.locale_sheet.specs.declared.Sheet.{Sheet}
use Rattle.locale_sheet.specs.Sheets.{Open, SomeOpen, Moves}
use Rattle.locale_sheet.specs.Words.{TurnLine, WordLine}
use Rattle.locale_conditionals.specs.declared.Turn.{Turn}
use Rattle.locale_conditionals.specs.declared.Turn.TheVariants.{Goes, Ends}
use Rattle.base_units.specs.declared.Refusal.{Refusal}

-- ## What a line does to the chain

-- the outcome of the line at a place, read whole as line `number`
abbrev pub whole_of : Signs → List ℕ → ℕ → State → ℕ → Outcome
whole_of g src at s number = whole_line s number (marks_left g src (line_start at))

-- Of every state that is held, with such a chain open: whether a branch of it was used, whether `else` has stood. Its present branch is used or not.
abbrev pub EveryChain : Signs → List ℕ → List ℕ → Sheet → ℕ → Bool → Bool → (List Chain → State → Type 0) → Type 0
EveryChain g src w sh at taken closed P =
    (used : Bool) (cs : List Chain) (s : State) → Open g src w sh (chain taken used closed ∷ cs) at s → P cs s

-- The line is not refused, and the area and the sheet hold the state after it.
pub record Turns (g : Signs) (src : List ℕ) (at number : ℕ) (s : State) (w' : List ℕ) (sh' : Sheet) (cs' : List Chain) (next : ℕ) : Type 0 where
  pub after : State
  pub outcome : whole_of g src at s number ≡ gives 0 after
  pub held : Open g src w' sh' cs' next after

-- elif or else: another branch begins.
pub record GoesIs (g : Signs) (src w : List ℕ) (sh : Sheet) (at number : ℕ) (taken closed : Bool) (w' : List ℕ) (taken' used' closed' : Bool) (sh' : Sheet) (next k : ℕ) : Type 0 where
  pub moves : Moves g src at next k
  pub turns : EveryChain g src w sh at taken closed (λ (cs : List Chain) (s : State). Turns g src at number s w' sh' (chain taken' used' closed' ∷ cs) next)

-- endif: the chain is no longer open.
pub record EndsIs (g : Signs) (src w : List ℕ) (sh : Sheet) (at number : ℕ) (taken closed : Bool) (w' : List ℕ) (sh' : Sheet) (next k : ℕ) : Type 0 where
  pub moves : Moves g src at next k
  pub turns : EveryChain g src w sh at taken closed (λ (cs : List Chain) (s : State). Turns g src at number s w' sh' cs next)

-- It is refused.
pub record TurnRefused (g : Signs) (src w : List ℕ) (sh : Sheet) (at number : ℕ) (taken closed : Bool) (r : ℕ) : Type 0 where
  pub refusal : EveryChain g src w sh at taken closed (λ (cs : List Chain) (s : State). (whole_of g src at s number).refusal ≡ r)

abbrev pub TurnIs : Signs → List ℕ → List ℕ → Sheet → ℕ → ℕ → Bool → Bool → List ℕ → Result Turn Refusal → Type 0
TurnIs g src w sh at number taken closed w' (Ok (Goes taken' used' closed' sh' next k)) = GoesIs g src w sh at number taken closed w' taken' used' closed' sh' next k
TurnIs g src w sh at number taken closed w' (Ok (Ends sh' next k)) = EndsIs g src w sh at number taken closed w' sh' next k
TurnIs g src w sh at number taken closed w' (Err r) = TurnRefused g src w sh at number taken closed (number_of r)

-- so it is of a line that leaves the area as it is
abbrev pub StillIs : Signs → List ℕ → Sheet → ℕ → ℕ → Bool → Bool → Result Turn Refusal → Type 0
StillIs g src sh at number taken closed r = (w : List ℕ) → TurnIs g src w sh at number taken closed w r

-- ## What the functions are given

-- A line that an open chain reads, while some state is held.
pub record MayTurn (g : Signs) (src work : List ℕ) (sh : Sheet) (at : ℕ) : Type 0 where
  pub depth : ℕ
  pub some : SomeOpen g src work sh at depth
  pub inside : at < length src
  pub line : TurnLine g src at

-- Its first token is the word t, at the spot q.
pub record WordTurn (g : Signs) (src work : List ℕ) (sh : Sheet) (at : ℕ) (q : Spot) (t : Tok) (e : LineEnd) : Type 0 where
  pub may : MayTurn g src work sh at
  pub word : begun.WordLine g src at q t e

-- A line that opens with the word w, while some state is held.
pub record KeyTurn (g : Signs) (src work : List ℕ) (sh : Sheet) (at : ℕ) (p : Spot) (e : LineEnd) (w : List ℕ) : Type 0 where
  pub depth : ℕ
  pub some : SomeOpen g src work sh at depth
  pub line : WordLine g src at p e w
