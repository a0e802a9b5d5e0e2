-- What the parts of the search promise each other. No public contract cites this file.
use Rattle.std.specs.Prelude.{◌≡◌, true, false, List, [], ◌∷◌, ℕ, ◌+◌, ◌≤◌, ◌<◌, length, get_or, drop}
use Rattle.rules.specs.Text.{every, begins}
use Rattle.rules.specs.Names.{is_character}
use Rattle.rules.specs.Meaning.{Item}
use Rattle.rules.specs.Table.{before, bucket, list_key}
use Rattle.rules.specs.Order.{no_item, step_of}
use Rattle.table_layout.specs.Parts.{listed_chars}
use Rattle.order_find.specs.declared.Key.{Key}
use Rattle.order_find.specs.declared.Near.{Near}
use Rattle.order_find.specs.declared.Near.TheVariants.{Element, Within}
use Rattle.order_find.specs.Answer.{found_as}

-- ## Keys

-- four numbers as a list
abbrev pub numbers_of : Key → List ℕ
numbers_of k = k.a ∷ k.b ∷ k.c ∷ k.d ∷ []

-- the four numbers that stand at a place
abbrev pub key_in : List ℕ → ℕ → List ℕ
key_in t at = get_or t at 0 ∷ get_or t (at + 1) 0 ∷ get_or t (at + 2) 0 ∷ get_or t (at + 3) 0 ∷ []

-- what the item is listed by that is listed at k, from 0
abbrev pub listed_key : List Item → ℕ → List ℕ
listed_key is k = list_key (length is) (listed_chars is k)

-- what an item of these four numbers is listed by, where they begin with a character
abbrev pub bucketed : List Item → List ℕ → List ℕ
bucketed is key = bucket (length is) key ∷ key

-- Where the first of n listed items stands that does not come before a key, by its bucket and then by its numbers.
pub record Least (is : List Item) (n : ℕ) (key : List ℕ) (r : ℕ) : Type 0 where
  pub inside : r < n
  pub below : (k : ℕ) → k < r → before (listed_key is k) (bucketed is key) ≡ true
  pub here : before (listed_key is r) (bucketed is key) ≡ false

-- ## One search

-- So many of `size` numbers from two places on are the same, and not the next.
pub record Shares (t : List ℕ) (a : ℕ) (s : List ℕ) (b size r : ℕ) : Type 0 where
  pub within : r ≤ size
  pub same : (i : ℕ) → i < r → get_or t (a + i) 0 ≡ get_or s (b + i) 0
  pub stop : r < size → get_or t (a + r) 0 ≡ get_or s (b + r) 0 → ⊥

-- no item that s begins with has more than m characters
abbrev pub AtMost : List Item → List ℕ → ℕ → Type 0
AtMost is s m = (q : ℕ) → q < length is → begins (get_or is q no_item).chars s ≡ true → length (get_or is q no_item).chars ≤ m

-- All characters from a place on, at most four.
pub record Window (s : List ℕ) (at size : ℕ) : Type 0 where
  pub few : size ≤ 4
  pub left : at + size ≤ length s
  pub all : size < 4 → at + size ≡ length s

-- A string of characters with `size` of them from a place on, where no item that stands there has more.
pub record Ahead (is : List Item) (s : List ℕ) (at size : ℕ) : Type 0 where
  pub characters : every is_character s ≡ true
  pub some : 0 < size
  pub few : size ≤ 4
  pub left : at + size ≤ length s
  pub most : AtMost is (drop at s) size

-- the element that begins s; or fewer characters, where no item that s begins with has more
abbrev pub Looked : List Item → List ℕ → ℕ → Near → Type 0
Looked is s size (Element f) = found_as f ≡ step_of is s
Looked is s size (Within m) = (m < size) × AtMost is s m
