-- A name packed into eight numbers, four of its bytes in each: two names that can be declared have the same numbers only if they are the same.
use Rattle.std.specs.Prelude.{◌≡◌, Bool, true, ◌&&◌, List, [], ◌∷◌, ◌++◌, ℕ, ◌+◌, ◌*◌, ◌≤◌, ◌<◌, length, get_or, leb}
use Rattle.rules.specs.Text.{every}
use Rattle.rules.specs.Names.{is_visible}
use Rattle.text_names.specs.Named.{hash_from, hash_of}
use Rattle.text_names.specs.declared.Pack.{Pack}

-- ## The numbers of a name

-- number i of a name: four of its bytes, the first lowest, 0 behind the name's end
unfoldable pub quad : List ℕ → ℕ → ℕ
quad n i =
    get_or n (4 * i) 0 + 256 * get_or n (4 * i + 1) 0 + 65536 * get_or n (4 * i + 2) 0 + 16777216 * get_or n (4 * i + 3) 0

-- the eight numbers of a name
unfoldable pub packed : List ℕ → List ℕ
packed n = quad n 0 ∷ quad n 1 ∷ quad n 2 ∷ quad n 3 ∷ quad n 4 ∷ quad n 5 ∷ quad n 6 ∷ quad n 7 ∷ []

-- a name that can be declared: at most 32 visible bytes (or none)
unfoldable pub is_plain : List ℕ → Bool
is_plain n = leb (length n) 32 && every is_visible n

-- ## What the readers give

-- A name in its numbers: whether it can be declared; the numbers only where it can.
pub record Packs (n key : List ℕ) (t : Bool) : Type 0 where
  pub plain : t ≡ is_plain n
  pub long : length key ≡ 8
  pub numbers : is_plain n ≡ true → key ≡ packed n

-- What is told of a name: its numbers, whether it can be declared, its hash.
pub record PackedIs (n key : List ℕ) (r : Pack) : Type 0 where
  pub plain : r.plain ≡ is_plain n
  pub hash : r.hash ≡ hash_of n
  pub small : r.hash < 16777216
  pub long : length key ≡ 8
  pub numbers : is_plain n ≡ true → key ≡ packed n

-- ## In the middle of a name

-- The bytes so far: m of them, or 33 where they begin no name that can be declared.
pub record Counted (done key : List ℕ) (m : ℕ) : Type 0 where
  pub packs : Packs done key (leb m 32)
  pub many : m ≤ 32 → length done ≡ m

-- Some bytes are so far.
pub record Begun (key : List ℕ) (m : ℕ) : Type 0 where
  pub done : List ℕ
  pub counted : Counted done key m

-- a byte more
abbrev pub PutIs : List ℕ → ℕ → ℕ → List ℕ → ℕ → Type 0
PutIs key m b after r = (done : List ℕ) → Counted done key m → Counted (done ++ b ∷ []) after r

-- The rest of a name, behind m bytes that make h.
pub record PackedOn (rest key : List ℕ) (h m : ℕ) (after : List ℕ) (r : Pack) : Type 0 where
  pub hash : r.hash ≡ hash_from h rest
  pub small : r.hash < 16777216
  pub packs : (done : List ℕ) → Counted done key m → Packs (done ++ rest) after r.plain
