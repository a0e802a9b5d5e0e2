-- Where the parts of a table stand (docs/TABLE.md), and what its readers give.
use Rattle.std.specs.Prelude.{◌≡◌, true, false, List, ◌∷◌, ℕ, pred, ◌+◌, ◌*◌, ◌≤◌, ◌<◌, length, get_or, take, drop}
use Rattle.rules.specs.Meaning as meaning
use Rattle.rules.specs.Meaning.{Item}
use Rattle.rules.specs.Table.{pad, ends, listing, item_buckets, below, accepted, meaning_in}
use Rattle.rules.specs.Order.{weights_at, no_item}
use Rattle.table_layout.specs.declared.Rule.{Rule}
use Rattle.table_layout.specs.declared.Run.{Run}
use Rattle.table_layout.specs.declared.Shape.{Shape}
use Rattle.table_layout.specs.declared.Listed.{Listed}

-- where the ends of item k begin, both counted from 0, in a table of l levels
unfoldable pub ends_at : ℕ → ℕ → ℕ
ends_at l k = 16 + k * l

-- where the characters begin, in a table of l levels and n items: behind the ends
abbrev pub chars_part : ℕ → ℕ → ℕ
chars_part l n = ends_at l n

-- the listing
abbrev pub listing_part : ℕ → ℕ → ℕ
listing_part l n = chars_part l n + 4 * n

-- the starts of the buckets
abbrev pub starts_part : ℕ → ℕ → ℕ
starts_part l n = chars_part l n + 5 * n

-- the rules
abbrev pub rules_part : ℕ → ℕ → ℕ
rules_part l n = chars_part l n + 6 * n

-- the weights
abbrev pub weights_part : ℕ → ℕ → ℕ
weights_part l n = rules_part l n + l

-- a rule as the paper has it
abbrev pub rule_as : Rule → meaning.Rule
rule_as r = record { backward = r.backward; position = r.position }

-- the rule of a level, from 0
abbrev pub rule_at : List ℕ → ℕ → meaning.Rule
rule_at t level = get_or (meaning_in t).rules level (record { backward = false; position = false })

-- An item's place in an accepted table, from 1, and a level of it, from 0.
pub record Within (t : List ℕ) (place level : ℕ) : Type 0 where
  pub checked : accepted t ≡ true
  pub from_one : 1 ≤ place
  pub in-items : place ≤ length (meaning_in t).items
  pub in-levels : level < length (meaning_in t).rules

-- How many weights stand before those of the item at a place, from 1, at a level, from 0. Those of the level behind the last stand behind all of
-- the item's own.
pub record Before (t : List ℕ) (place level r : ℕ) : Type 0 where
  pub is : r ≡ get_or (0 ∷ ends (meaning_in t).items) (pred place * length (meaning_in t).rules + level) 0
  pub small : r ≤ 4294967295

-- The shape of an accepted table.
pub record Shaped (t : List ℕ) (r : Shape) : Type 0 where
  pub checked : accepted t ≡ true
  pub levels-are : r.levels ≡ length (meaning_in t).rules
  pub items-are : r.items ≡ length (meaning_in t).items
  pub chars-are : r.chars ≡ chars_part (length (meaning_in t).rules) (length (meaning_in t).items)
  pub weights-are : r.weights ≡ weights_part (length (meaning_in t).rules) (length (meaning_in t).items)

-- A run of numbers in the table that are these weights.
pub record Holds (t : List ℕ) (r : Run) (weights : List ℕ) : Type 0 where
  pub is : take r.count (drop r.from t) ≡ weights
  pub many : r.count ≡ length weights
  pub few : r.count ≤ 8
  pub inside : 0 < r.count → r.from + r.count ≤ length t

-- So many weights the item at a place has at a level.
pub record Many (t : List ℕ) (place level r : ℕ) : Type 0 where
  pub is : r ≡ length (weights_at (meaning_in t).items level place)
  pub few : r ≤ 8

-- ## The listing and its index

-- An accepted table, where its characters begin, and how many items it has.
pub record Indexed (t : List ℕ) (chars items : ℕ) : Type 0 where
  pub checked : accepted t ≡ true
  pub chars-are : chars ≡ chars_part (length (meaning_in t).rules) (length (meaning_in t).items)
  pub items-are : items ≡ length (meaning_in t).items

-- where the items of bucket b begin in the listing: so many have a smaller one
abbrev pub start_for : List Item → ℕ → ℕ
start_for is b = below b (item_buckets (length is) is)

-- the characters of the item that is listed at k, from 0
unfoldable pub listed_chars : List Item → ℕ → List ℕ
listed_chars is k = (get_or is (pred (get_or (listing is) k 0)) no_item).chars

-- The item that is listed at k: its place, and where its four numbers stand.
pub record Lists (t : List ℕ) (k : ℕ) (r : Listed) : Type 0 where
  pub is : r.place ≡ get_or (listing (meaning_in t).items) k 0
  pub room : r.from + 4 ≤ length t
  pub numbers : (i : ℕ) → i < 4 → get_or t (r.from + i) 0 ≡ get_or (listed_chars (meaning_in t).items k) i pad
