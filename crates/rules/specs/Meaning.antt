-- 01, "The table", its meaning: "the levels with their rules, the items in order .., and each item's weights per level"; which
-- meanings a table may store, and how many numbers one takes.
use Rattle.std.specs.Prelude.{Bool, true, not, ◌&&◌, List, [], ◌∷◌, ℕ, ◌+◌, ◌*◌, length, leb, eqb}
use Rattle.rules.specs.Text.{within, every, one_of, same}
use Rattle.rules.specs.Names.{is_character}

-- "A rule is `forward` or `backward`, optionally with `position`"
pub record Rule : Type 0 where
  pub backward : Bool
  pub position : Bool

-- An item: its 1 to 4 characters, or none for UNDEFINED; its weights, a list for each level.
pub record Item : Type 0 where
  pub chars : List ℕ
  pub weights : List (List ℕ)

-- an item of its characters and weights
abbrev pub item : List ℕ → List (List ℕ) → Item
item c w = record { chars = c; weights = w }

-- The rules of the levels, from the first; the items in order.
pub record Meaning : Type 0 where
  pub rules : List Rule
  pub items : List Item

-- ## The size: "With L levels, I items and W weights in all it takes 16 + L + I x (6 + L) + W numbers"

-- how many weights an item has
unfoldable pub count_all : List (List ℕ) → ℕ
count_all [] = 0
count_all (w ∷ ws) = length w + count_all ws

-- W, how many all items have
unfoldable pub weight_count : List Item → ℕ
weight_count [] = 0
weight_count (i ∷ is) = count_all i.weights + weight_count is

-- 16 + L + I x (6 + L) + W
unfoldable pub size_of : Meaning → ℕ
size_of m = 16 + length m.rules + length m.items * (6 + length m.rules) + weight_count m.items

-- ## Which meanings are accepted

-- "each weight from 1 to 32,768, at most 8 weights per item and level": one level's
unfoldable pub good_weights : List ℕ → Bool
good_weights ws = leb (length ws) 8 && every (within 1 32768) ws

-- "items of 1 to 4 numbers that are characters" (UNDEFINED has none), with weights for each of l levels
unfoldable pub good_item : ℕ → Item → Bool
good_item l i =
    leb (length i.chars) 4
    && every is_character i.chars
    && eqb (length i.weights) l
    && every good_weights i.weights

-- the item's characters are these
unfoldable pub has_chars : List ℕ → Item → Bool
has_chars cs i = same cs i.chars

-- "no two items alike"
unfoldable pub no_two_alike : List Item → Bool
no_two_alike [] = true
no_two_alike (i ∷ is) = not (one_of (has_chars i.chars) is) && no_two_alike is

-- "1 to 8 levels, four known rules, each weight from 1 to 32,768, at most 8 weights per item and level, items of 1 to 4
-- numbers that are characters, no two items alike, one UNDEFINED, at most 32,768 items"; with no two alike, one is exactly one
unfoldable pub good : Meaning → Bool
good m =
    within 1 8 (length m.rules)
    && leb (length m.items) 32768
    && every (good_item (length m.rules)) m.items
    && no_two_alike m.items
    && one_of (has_chars []) m.items
