-- What the search's answers are on the paper.
use Rattle.std.specs.Prelude.{◌≡◌, List, ◌∷◌, ℕ, ◌≤◌, length, Option, Some, None}
use Rattle.rules.specs.Meaning.{Item}
use Rattle.rules.specs.Order.{Step, step_of}
use Rattle.order_find.specs.declared.Found.{Found}

abbrev pub found_as : Found → Step
found_as f = record { place = f.place; size = f.size }

-- The place of the item that a character is whatever follows it.
pub record Alone (items : List Item) (c p : ℕ) : Type 0 where
  pub is : (rest : List ℕ) → step_of items (c ∷ rest) ≡ record { place = p; size = 1 }
  pub inside : p ≤ length items

-- that place, where it is known
abbrev pub Quick : List Item → ℕ → Option ℕ → Type 0
Quick items c (Some p) = Alone items c p
Quick items c None = Unit
