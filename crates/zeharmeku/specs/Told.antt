-- How the paper's answers are told to a caller in another language: as numbers in an array that it lends, each answer in a fixed order.
use Rattle.std.specs.Prelude.{◌≡◌, List, [], ◌∷◌, ℕ}
use Rattle.rules.specs.Order as order
use Rattle.rules.specs.Calls.{Checked, Stepped, Compared, Written, Mapped, Compiled, Directed}

-- ## The array lent for the answer

-- The numbers stand in front, as many of them as the array has room for; what lies behind them stays as it was.
unfoldable pub told : List ℕ → List ℕ → List ℕ
told [] array = array
told (n ∷ ns) [] = []
told (n ∷ ns) (x ∷ xs) = n ∷ told ns xs

-- ## The numbers of each answer

-- -1, 0 and 1, in two's complement of 64 bits
abbrev pub sign_number : order.Sign → ℕ
sign_number order.less = 18446744073709551615
sign_number order.equal = 0
sign_number order.greater = 1

unfoldable pub checked_numbers : Checked → List ℕ
checked_numbers c = c.refusal ∷ c.levels ∷ c.items ∷ c.size ∷ []

unfoldable pub stepped_numbers : Stepped → List ℕ
stepped_numbers s = s.refusal ∷ s.place ∷ s.size ∷ []

unfoldable pub compared_numbers : Compared → List ℕ
compared_numbers c = c.refusal ∷ sign_number c.answer.sign ∷ c.answer.level ∷ c.answer.agreed ∷ []

unfoldable pub written_numbers : Written → List ℕ
written_numbers w = w.refusal ∷ w.size ∷ []

unfoldable pub mapped_numbers : Mapped → List ℕ
mapped_numbers m = m.refusal ∷ m.line ∷ []

unfoldable pub compiled_numbers : Compiled → List ℕ
compiled_numbers c = c.refusal ∷ c.line ∷ c.size ∷ []

-- ## Operations that write: the answer array and every area lent, before and after

-- of a key, a decoded or an encoded text
pub record WrittenIs (w : Written) (array array₁ room₁ : List ℕ) : Type 0 where
  pub answer : array₁ ≡ told (written_numbers w) array
  pub room : room₁ ≡ w.room

-- of a charmap
pub record MappedIs (m : Mapped) (array array₁ area₁ : List ℕ) : Type 0 where
  pub answer : array₁ ≡ told (mapped_numbers m) array
  pub area : area₁ ≡ m.area

-- of a table
pub record CompiledIs (c : Compiled) (array array₁ area₁ work₁ : List ℕ) : Type 0 where
  pub answer : array₁ ≡ told (compiled_numbers c) array
  pub area : area₁ ≡ c.area
  pub work : work₁ ≡ c.work

-- of a directory, whose refusal is returned
pub record DirectedIs (d : Directed) (refusal : ℕ) (list₁ : List ℕ) : Type 0 where
  pub returned : refusal ≡ d.refusal
  pub list : list₁ ≡ d.list
