-- What every page of these definitions uses: a text as its bytes, tests on lists, and refusals as numbers.
use Rattle.std.specs.Prelude.{Bool, true, false, cond, ◌&&◌, ◌||◌, List, [], ◌∷◌, ℕ, ltb, leb, eqb, if◌then◌else◌}
use Prim.Native.String.{String, [] as empty, ◌∷◌ as ◌then◌}
use Prim.Native.Char.{code}

infix 68 ◌unless◌
-- ## Bytes

-- a text's bytes; a byte above 7E is written as the character of that code
unfoldable pub bytes : String → List ℕ
bytes empty = []
bytes (c then s) = code c ∷ bytes s

-- from a to b
abbrev pub within : ℕ → ℕ → ℕ → Bool
within a b n = leb a n && leb n b

-- ## Tests on lists

-- each of them passes
unfoldable pub every : {A : Type 0} → (A → Bool) → List A → Bool
every p [] = true
every p (x ∷ xs) = p x && every p xs

-- at least one of them passes
unfoldable pub one_of : {A : Type 0} → (A → Bool) → List A → Bool
one_of p [] = false
one_of p (x ∷ xs) = p x || one_of p xs

-- two lists are the same
unfoldable pub same : List ℕ → List ℕ → Bool
same [] [] = true
same [] (y ∷ ys) = false
same (x ∷ xs) [] = false
same (x ∷ xs) (y ∷ ys) = eqb x y && same xs ys

-- w is this text
unfoldable pub is : List ℕ → String → Bool
is w text = same w (bytes text)

-- s begins with p
unfoldable pub begins : List ℕ → List ℕ → Bool
begins [] s = true
begins (c ∷ p) [] = false
begins (c ∷ p) (d ∷ s) = eqb c d && begins p s

-- ## Refusals: a number of the table in 01, "Refusals in order"; 0 for none

-- the refusal n, unless the test holds
abbrev pub ◌unless◌ : ℕ → Bool → ℕ
n unless t = if t then 0 else n

-- the lower of two refusals, 0 being none
unfoldable pub lower : ℕ → ℕ → ℕ
lower a b = if eqb a 0 then b else if eqb b 0 then a else if ltb a b then a else b

-- "within one joined line the lowest number wins"
unfoldable pub lowest : List ℕ → ℕ
lowest [] = 0
lowest (r ∷ rs) = lower r (lowest rs)

-- what an operation gives, or its refusal: its number, and "the number of the first physical line, 0 for 1, 9 and 11 to 14", and
-- for 15 to 17 (02)
pub data Result (A : Type 0) : Type 0 where
  granted : A → Result A
  refused : ℕ → ℕ → Result A
