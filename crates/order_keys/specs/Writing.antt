-- The parts of a key, and what the functions that count and write them give.
use Rattle.std.specs.Prelude.{◌≡◌, Bool, true, false, List, [], ◌∷◌, ◌++◌, map, ℕ, suc, ◌+◌, ◌≤◌, ◌<◌, length, get_or, take, drop}
use Rattle.std.proofs.lemmas.List.Edits.{sets}
use Rattle.base_lists.proofs.Runs.{run}
use Rattle.rules.specs.Meaning.{Rule, count_all}
use Rattle.rules.specs.Table.{accepted, meaning_in}
use Rattle.rules.specs.Order.{good_string, elements, weights_at, two, level_entries, levels_from, level_key, levels_key}
use Rattle.table_layout.specs.declared.Run.{Run}
use Rattle.order_keys.specs.declared.Piece.{Piece}

-- An accepted table and a good string.
pub record Keyable (t s : List ℕ) : Type 0 where
  pub checked : accepted t ≡ true
  pub good : good_string s ≡ true

-- The same, and a level of the table, from 0.
pub record AtLevel (t s : List ℕ) (level : ℕ) : Type 0 where
  pub keyable : Keyable t s
  pub in-levels : level < length (meaning_in t).rules

-- ## The elements

-- the weights that the elements from a place of the string on have at a level
unfoldable pub weights_from : List ℕ → List ℕ → ℕ → ℕ → List (List ℕ)
weights_from t s level at = map (weights_at (meaning_in t).items level) (elements (meaning_in t).items 0 (drop at s))

-- the numbers of a run
abbrev pub numbers_in : List ℕ → Run → List ℕ
numbers_in t r = take r.count (drop r.from t)

-- The numbers of a table from one place up to another have two bytes each.
pub record Narrow (t : List ℕ) (from end : ℕ) : Type 0 where
  pub within : end ≤ length t
  pub small : (i : ℕ) → from ≤ i → i < end → get_or t i 0 < 65536

-- A run of numbers that have two bytes each.
pub record Weighs (t : List ℕ) (r : Run) : Type 0 where
  pub narrow : 0 < r.count → Narrow t r.from (r.from + r.count)

-- The weights of the first element from a place of the string on, and a place from which the others give theirs.
pub record Cuts (t s : List ℕ) (level at : ℕ) (r : Piece) : Type 0 where
  pub is : weights_from t s level at ≡ numbers_in t r.weights ∷ weights_from t s level (at + r.size)
  pub weighs : Weighs t r.weights
  pub some : 1 ≤ r.size
  pub to : at + r.size ≤ length s

-- ## The bytes

-- of an entry, with this count and this weight
unfoldable pub entry_bytes : Bool → ℕ → ℕ → List ℕ
entry_bytes true count weight = two (suc count) (two weight [])
entry_bytes false count weight = two weight []

-- of an element's second and later weights
unfoldable pub later_bytes : Bool → List ℕ → List ℕ
later_bytes position [] = []
later_bytes position (w ∷ ws) = entry_bytes position 0 w ++ later_bytes position ws

-- of an element's weights, n elements without a weight having stood before it
unfoldable pub element_bytes : Bool → ℕ → List ℕ → List ℕ
element_bytes position n [] = []
element_bytes position n (w ∷ ws) = entry_bytes position n w ++ later_bytes position ws

-- how the entries of a level are walked
abbrev pub forward : Bool → Rule
forward position = record { backward = false; position = position }

abbrev pub backward : Bool → Rule
backward position = record { backward = true; position = position }

-- of a level
unfoldable pub level_bytes : List ℕ → List ℕ → ℕ → Rule → List ℕ
level_bytes t s level rule = level_key rule.position (level_entries (meaning_in t).items rule level (elements (meaning_in t).items 0 s)) []

-- of the levels from this one on
unfoldable pub levels_bytes : List ℕ → List ℕ → ℕ → List ℕ
levels_bytes t s level =
    let rules : List Rule = drop level (meaning_in t).rules in
    levels_key rules (levels_from (meaning_in t).items rules level (elements (meaning_in t).items 0 s)) []

-- ## How many

-- Numbers, one for each level, that are all 0.
pub record Blank (t counts : List ℕ) : Type 0 where
  pub long : length (meaning_in t).rules ≤ length counts
  pub is : (level : ℕ) → get_or counts level 0 ≡ 0

-- Numbers, one for each level, to each of which an element's weights can be added.
pub record Countable (t counts : List ℕ) : Type 0 where
  pub long : length (meaning_in t).rules ≤ length counts
  pub few : (level : ℕ) → level < length (meaning_in t).rules → get_or counts level 0 ≤ 32768

-- How many weights the item at a place has is added at each level.
pub record Added (t : List ℕ) (place : ℕ) (counts after : List ℕ) : Type 0 where
  pub is : (level : ℕ) → level < length (meaning_in t).rules
      → get_or after level 0 ≡ get_or counts level 0 + length (weights_at (meaning_in t).items level place)

-- How many weights the string's elements have, at each level.
pub record Counted (t s counts : List ℕ) : Type 0 where
  pub long : length (meaning_in t).rules ≤ length counts
  pub is : (level : ℕ) → level < length (meaning_in t).rules → get_or counts level 0 ≡ count_all (weights_from t s level 0)

-- ## Writing

-- A number that has two bytes, and a room that has place for them.
pub record TwoFit (room : List ℕ) (at n : ℕ) : Type 0 where
  pub small : n < 65536
  pub inside : at + 2 ≤ length room

-- A number that has three bytes, and a room that has place for them.
pub record ThreeFit (room : List ℕ) (at n : ℕ) : Type 0 where
  pub small : n < 16777216
  pub inside : at + 3 ≤ length room

-- A count and a weight that have two bytes each, and a room that has place for them.
pub record EntryFits (room : List ℕ) (at : ℕ) (position : Bool) (count weight : ℕ) : Type 0 where
  pub counted : count < 65535
  pub weighs : weight < 65536
  pub inside : at + length (entry_bytes position count weight) ≤ length room

-- Numbers of two bytes as an element's second and later weights, and a room that has place for them.
pub record LaterFit (t : List ℕ) (from end : ℕ) (room : List ℕ) (at : ℕ) (position : Bool) : Type 0 where
  pub narrow : Narrow t from end
  pub inside : at + length (later_bytes position (run t from end)) ≤ length room

-- Such numbers as all weights of an element that has one, and a room that has place for them.
pub record ElementFits (t : List ℕ) (r : Run) (room : List ℕ) (at : ℕ) (position : Bool) (skipped : ℕ) : Type 0 where
  pub some : 0 < r.count
  pub counted : skipped < 65535
  pub narrow : Narrow t r.from (r.from + r.count)
  pub inside : at + length (element_bytes position skipped (numbers_in t r)) ≤ length room

-- Such numbers as all weights of an element, and a room that has place for them in front of a place.
pub record BeforeFits (t : List ℕ) (r : Run) (position : Bool) (skipped : ℕ) (room : List ℕ) (end : ℕ) : Type 0 where
  pub weighs : Weighs t r
  pub counted : skipped < 65535
  pub wide : length (element_bytes position skipped (numbers_in t r)) ≤ end
  pub inside : end ≤ length room

-- These bytes stand in the room from a place on, nothing else in it is changed, and `next` is the place behind them.
pub record Puts (room : List ℕ) (at : ℕ) (bytes : List ℕ) (after : List ℕ) (next : ℕ) : Type 0 where
  pub is : after ≡ sets room at bytes
  pub to : next ≡ at + length bytes

-- These bytes stand in the room in front of a place, nothing else in it is changed, and they begin at `from`.
pub record PutsBefore (room : List ℕ) (end : ℕ) (bytes : List ℕ) (after : List ℕ) (from : ℕ) : Type 0 where
  pub is : after ≡ sets room from bytes
  pub to : from + length bytes ≡ end
