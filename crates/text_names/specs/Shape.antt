-- The shape of a name, as six bytes from its first on tell it where none of them is an escape.
use Rattle.std.specs.Prelude.{Bool, not, ◌&&◌, ◌||◌, List, [], ◌∷◌, ℕ, ◌+◌, length, get_or, ltb, leb, eqb, if◌then◌else◌}
use Rattle.rules.specs.Text.{within, every}
use Rattle.rules.specs.Names.{is_visible, is_hex, hex_value}
use Rattle.text_names.specs.declared.Shape.{Shape}
use Rattle.text_names.specs.declared.Shape.TheVariants.{Unclear, Other, Code}

-- a shape's number
abbrev pub number_of_shape : Shape → ℕ
number_of_shape Unclear = 0
number_of_shape Other = 1
number_of_shape (Code n) = n + 2

-- a byte of a name that is meant as it stands: visible, and no escape
abbrev pub stands_in : ℕ → ℕ → Bool
stands_in escape b = is_visible b && not (eqb b escape)

-- the same of the byte at a place
unfoldable pub stands_at : ℕ → List ℕ → ℕ → Bool
stands_at escape src at = ltb at (length src) && stands_in escape (get_or src at 0)

-- an escape that is no digit, no capital letter and no `>`
abbrev pub is_apart : ℕ → Bool
is_apart escape = not (within 48 57 escape || within 65 90 escape || eqb escape 62)

-- four digits and `>`: their code and 2; 0 for any other bytes
unfoldable pub short_of : ℕ → ℕ → ℕ → ℕ → ℕ → ℕ
short_of a b c d close =
    let ds : List ℕ = a ∷ b ∷ c ∷ d ∷ [] in
    if every is_hex ds && eqb close 62 then hex_value 0 ds + 2 else 0

-- what the bytes from a name's first on say: 0 nothing, 1 that it is not shaped as a character, else its code and 2
unfoldable pub shape_of : ℕ → List ℕ → ℕ
shape_of escape bs =
    if not (is_apart escape && leb 6 (length bs)) then 0
    else if eqb (get_or bs 0 0) 85 then short_of (get_or bs 1 0) (get_or bs 2 0) (get_or bs 3 0) (get_or bs 4 0) (get_or bs 5 0)
    else if stands_in escape (get_or bs 0 0) then 1 else 0
