-- 01, "Inside LC_COLLATE" and the categories of "Reading lines": what is known between two lines of a locale source, and what a line leaves.
use Rattle.std.specs.Prelude.{Bool, false, List, [], ℕ, leb, eqb}
use Rattle.rules.specs.Lines.{Chars, defaults}
use Rattle.rules.specs.Meaning.{Rule}

-- ## Where the next line stands: before any category; between categories; in another one; in LC_COLLATE before, in and after the order; after it, in a block (02, K1)

abbrev pub before_categories : ℕ
before_categories = 0

abbrev pub between_categories : ℕ
between_categories = 1

abbrev pub in_other_category : ℕ
in_other_category = 2

abbrev pub before_order : ℕ
before_order = 3

abbrev pub in_order : ℕ
in_order = 4

abbrev pub after_order : ℕ
after_order = 5

abbrev pub in_block : ℕ
in_block = 6

-- The phase, the name of the category that was opened last, and whether LC_COLLATE has stood.
pub record Place : Type 0 where
  pub phase : ℕ
  pub category : List ℕ
  pub collated : Bool

-- ## Conditionals

-- A chain: some branch of it was used; the present one is; `else` has stood.
pub record Chain : Type 0 where
  pub taken : Bool
  pub used : Bool
  pub closed : Bool

-- A toggle that some line named, and whether it is defined.
pub record Toggle : Type 0 where
  pub label : List ℕ
  pub on : Bool

-- The open chains, innermost first; how many inner ones are open in an unused branch; the toggles named so far.
pub record Blocks : Type 0 where
  pub chains : List Chain
  pub inner : ℕ
  pub toggles : List Toggle

-- ## Declarations and the order

-- What a line has declared: a collating symbol by its name; a collating element by its name and its characters.
pub data Declaration : Type 0 where
  symbol : List ℕ → Declaration
  element : List ℕ → List ℕ → Declaration

-- What an order line or a weight names: a character by its code; a symbol or an element by its name; UNDEFINED.
pub data Subject : Type 0 where
  character : ℕ → Subject
  named : List ℕ → Subject
  undefined : Subject

-- An order line: the number of its first physical line; what it names; its weights, a list of subjects for each level.
pub record OrderLine : Type 0 where
  pub number : ℕ
  pub subject : Subject
  pub weights : List (List Subject)

-- The levels' rules; the used order lines so far, in order; the subjects of the open block's lines, the last one's first, and at the end that of the named
-- line: none where no block is open.
pub record Ordered : Type 0 where
  pub rules : List Rule
  pub lines : List OrderLine
  pub block : List Subject

-- ## The whole state

-- What the lines so far have left; of the declarations the last stands first.
pub record State : Type 0 where
  pub chars : Chars
  pub place : Place
  pub blocks : Blocks
  pub declared : List Declaration
  pub ordered : Ordered

-- before the first line
abbrev pub start : State
start = record {
  chars = defaults;
  place = record { phase = before_categories; category = []; collated = false };
  blocks = record { chains = []; inner = 0; toggles = [] };
  declared = [];
  ordered = record { rules = []; lines = []; block = [] };
}

-- the state with other characters in force
abbrev pub with_chars : State → Chars → State
with_chars s x = record { chars = x; place = s.place; blocks = s.blocks; declared = s.declared; ordered = s.ordered }

-- with another place
abbrev pub with_place : State → Place → State
with_place s x = record { chars = s.chars; place = x; blocks = s.blocks; declared = s.declared; ordered = s.ordered }

-- with other conditionals
abbrev pub with_blocks : State → Blocks → State
with_blocks s x = record { chars = s.chars; place = s.place; blocks = x; declared = s.declared; ordered = s.ordered }

-- with other declarations
abbrev pub with_declared : State → List Declaration → State
with_declared s x = record { chars = s.chars; place = s.place; blocks = s.blocks; declared = x; ordered = s.ordered }

-- with another order
abbrev pub with_ordered : State → Ordered → State
with_ordered s x = record { chars = s.chars; place = s.place; blocks = s.blocks; declared = s.declared; ordered = x }

-- the next line stands there
abbrev pub in_phase : ℕ → State → Bool
in_phase p s = eqb s.place.phase p

-- the state with its next line there
abbrev pub to_phase : State → ℕ → State
to_phase s p = with_place s (record { phase = p; category = s.place.category; collated = s.place.collated })

-- outside every category
abbrev pub is_outside : State → Bool
is_outside s = leb s.place.phase between_categories

-- inside LC_COLLATE
abbrev pub in_collate : State → Bool
in_collate s = leb before_order s.place.phase

-- ## A line's outcome: its refusal, or 0 and the state after it

pub record Outcome : Type 0 where
  pub refusal : ℕ
  pub state : State

-- a refusal, or 0, and a state
abbrev pub gives : ℕ → State → Outcome
gives r s = record { refusal = r; state = s }
