-- The work area as rows of eight numbers, one row for each eight bytes of the source and some more. Of a row the first three numbers belong to
-- the store of names; the last five tell what is known of the thing declared there, or keep the numbers of a key.
use Rattle.std.specs.Prelude.{List, ℕ, ◌+◌, ◌*◌, ◌/◌, get_or}

-- where number k of the five stands, in the row of a mark: a mark is twice a place, or one more
abbrev pub cell_at : ℕ → ℕ → ℕ
cell_at v k = 8 * (v / 16) + 3 + k

-- that number
abbrev pub cell : List ℕ → ℕ → ℕ → ℕ
cell w v k = get_or w (cell_at v k) 0
