-- Stretches of lines outside LC_COLLATE: what the paper makes of them (Rattle.rules.specs.Source), for every state in which they may stand.
use Rattle.std.specs.Prelude.{◌≡◌, Bool, true, false, List, ℕ, ◌+◌, ◌≤◌, ◌<◌, length, drop, Err, Ok, Result}
use Rattle.rules.specs.Text.{bytes}
use Rattle.rules.specs.State.{before_order, State}
use Rattle.rules.specs.Source.{at_end, lines_from}
use Rattle.base_units.specs.Numbers.{number_of}
use Rattle.text_specials.specs.declared.Chars.{Chars}
use Rattle.text_specials.specs.Force.{chars_as}
use Rattle.text_specials.specs.Signed.{Visible}
use Rattle.locale_outside.specs.Outside.{signs_of, Stands}
use Rattle.text_reader.specs.Turns.{Reading}
use Rattle.locale_skips.specs.Passing.{Refuses}
use Rattle.locale_outside.specs.declared.Turn.{Turn}
use Rattle.locale_outside.specs.declared.Turn.TheVariants as turn
use Rattle.locale_outside.specs.declared.Outers.{Outers}
use Rattle.locale_outside.specs.declared.Outers.TheVariants as outers
use Rattle.locale_outside.specs.declared.Stretch.{Stretch}
use Rattle.base_units.specs.declared.Refusal.{Refusal}

-- ## The states

-- Lines outside LC_COLLATE change nothing but the two characters and the place.
pub record Keeps (s t : State) : Type 0 where
  pub blocks : t.blocks ≡ s.blocks
  pub declared : t.declared ≡ s.declared
  pub ordered : t.ordered ≡ s.ordered

-- the state in LC_COLLATE, before its first line
abbrev pub collated_by : Chars → State → State
collated_by c s = record {
  chars = chars_as c;
  place = record { phase = before_order; category = bytes "LC_COLLATE"; collated = true };
  blocks = s.blocks;
  declared = s.declared;
  ordered = s.ordered;
}

-- ## A stretch of lines

-- From the state s on the lines up to a place leave a state outside every category: its two characters, whether no category has stood, the
-- number of the line at the place.
pub record Reaches (s : State) (src : List ℕ) (at number : ℕ) (collated : Bool) (c : Chars) (before : Bool) (next n : ℕ) : Type 0 where
  pub state : State
  pub stands : Stands c before collated state
  pub keeps : Keeps s state
  pub run : lines_from s number 0 (drop at src) ≡ lines_from state n 0 (drop next src)

-- So they do from every state in which they may stand.
pub record GoesOn (h : Chars) (before collated : Bool) (src : List ℕ) (at number : ℕ) (c : Chars) (first : Bool) (next n : ℕ) : Type 0 where
  pub reaches : (s : State) → Stands h before collated s → Reaches s src at number collated c first next n
  pub visible : Visible (signs_of c)
  pub from : at < next
  pub to : next ≤ length src
  pub few : n ≤ next + 1

-- The last of them opens LC_COLLATE, for the first time; the place after it, and the number of the line there.
pub record Opens (h : Chars) (before collated : Bool) (src : List ℕ) (at number : ℕ) (c : Chars) (next n : ℕ) : Type 0 where
  pub run : (s : State) → Stands h before collated s → lines_from s number 0 (drop at src) ≡ lines_from (collated_by c s) n 0 (drop next src)
  pub once : collated ≡ false
  pub visible : Visible (signs_of c)
  pub from : at ≤ next
  pub to : next ≤ length src
  pub few : n ≤ next + 1

-- One of them is refused.
pub record Fails (h : Chars) (before collated : Bool) (src : List ℕ) (at number r l : ℕ) : Type 0 where
  pub run : (s : State) → Stands h before collated s → Refuses (lines_from s number 0 (drop at src)) r l

-- what a line is, with the category that it opens
abbrev pub TurnIs : Chars → Bool → Bool → List ℕ → ℕ → ℕ → Result Turn (Refusal × ℕ) → Type 0
TurnIs h before collated src at number (Ok (turn.On c first next n)) = GoesOn h before collated src at number c first next n
TurnIs h before collated src at number (Ok (turn.Collate c next n)) = Opens h before collated src at number c next n
TurnIs h before collated src at number (Err (r, l)) = Fails h before collated src at number (number_of r) l

-- ## Up to the end

-- From the state s on the lines leave a state outside every category, in which the source ends.
pub record Ends (s : State) (src : List ℕ) (at number : ℕ) (collated : Bool) (c : Chars) (before : Bool) (n : ℕ) : Type 0 where
  pub state : State
  pub stands : Stands c before collated state
  pub keeps : Keeps s state
  pub run : lines_from s number 0 (drop at src) ≡ at_end state n

-- So they do from every state in which they may stand.
pub record EndsAll (h : Chars) (before collated : Bool) (src : List ℕ) (at number : ℕ) (c : Chars) (first : Bool) (n : ℕ) : Type 0 where
  pub ends : (s : State) → Stands h before collated s → Ends s src at number collated c first n
  pub visible : Visible (signs_of c)
  pub few : n ≤ length src + 1

-- what all lines are
abbrev pub OutersIs : Chars → Bool → Bool → List ℕ → ℕ → ℕ → Result Outers (Refusal × ℕ) → Type 0
OutersIs h before collated src at number (Ok (outers.Collate c next n)) = Opens h before collated src at number c next n
OutersIs h before collated src at number (Ok (outers.End c first n)) = EndsAll h before collated src at number c first n
OutersIs h before collated src at number (Err (r, l)) = Fails h before collated src at number (number_of r) l

-- ## Line after line

-- From the place `at` to i only lines outside LC_COLLATE are read.
pub record Outside (h : Chars) (before collated : Bool) (src : List ℕ) (at number : ℕ) (c : Chars) (first : Bool) (i n : ℕ) : Type 0 where
  pub reaches : (s : State) → Stands h before collated s → Reaches s src at number collated c first i n
  pub visible : Visible (signs_of c)
  pub from : at ≤ i
  pub to : i ≤ length src
  pub few : n ≤ i + 1

-- A reading that began with the state s has come to a place with the state t, and the source may end there.
pub record StretchStands (src : List ℕ) (s t : Stretch) (i n : ℕ) : Type 0 where
  pub collated : t.collated ≡ s.collated
  pub answer : t.answer ≡ Ok (outers.End t.chars t.before n)
  pub passed : Outside s.chars s.before t.collated src s.next s.number t.chars t.before i n

abbrev pub stretch_reading : Reading Stretch
stretch_reading = record {
  over = λ t. t.over;
  next = λ t. t.next;
  number = λ t. t.number;
  Stands = StretchStands;
  Says = λ src s t. OutersIs s.chars s.before s.collated src s.next s.number t.answer;
}
