-- The 512 numbers of a charmap as its entries change them, one byte after the other (Rattle.rules.specs.Charmap has them of all entries).
use Rattle.std.specs.Prelude.{Bool, not, List, ℕ, zero, suc, ◌+◌, take, drop, set, eqb, if◌then◌else◌}
use Rattle.rules.specs.Text.{one_of}
use Rattle.rules.specs.Charmap.{no_code}

-- a byte has the code c
unfoldable pub has_code : List ℕ → ℕ → Bool
has_code area c = one_of (eqb c) (take 256 area)

-- "the first encodes": 1 where no byte has the code yet
unfoldable pub one_for : List ℕ → ℕ → ℕ
one_for area c = if has_code area c then 0 else 1

-- the byte b has the code c
unfoldable pub with : List ℕ → ℕ → ℕ → List ℕ
with area b c = set (set area b c) (256 + b) (one_for area c)

-- n bytes from b on have the codes from c on
unfoldable pub with_range : ℕ → List ℕ → ℕ → ℕ → List ℕ
with_range zero area b c = area
with_range (suc n) area b c = with_range n (with area b c) (suc b) (suc c)

-- a byte's code is not none
abbrev pub is_taken : ℕ → Bool
is_taken c = not (eqb c no_code)

-- one of n bytes from b on has a code
unfoldable pub any_taken : List ℕ → ℕ → ℕ → Bool
any_taken area b n = one_of is_taken (take n (drop b area))
