-- 01, "Charmaps" (an area given back) and "Refusals in order": decoding and encoding by an area of 512 numbers.
use Rattle.std.specs.Prelude.{Bool, true, false, not, ◌&&◌, ◌||◌, List, [], ◌∷◌, map, ℕ, suc, ◌+◌, length, get_or, take, drop, ltb, leb, eqb, if◌then◌else◌}
use Rattle.rules.specs.Text.{within, every, Result, granted, refused}
use Rattle.rules.specs.Names.{is_character}
use Rattle.rules.specs.Order.{good_string}
use Rattle.rules.specs.Charmap.{no_code}

-- ## "An area given back must have that form in its first 512, with exactly one 1 for every code present."

-- a character, or none
abbrev pub is_code : ℕ → Bool
is_code c = eqb c no_code || is_character c

-- each number after the codes is 0, or 1 where there is a code
unfoldable pub good_ones : List ℕ → List ℕ → Bool
good_ones [] os = true
good_ones (c ∷ cs) [] = false
good_ones (c ∷ cs) (o ∷ os) = (eqb o 0 || (eqb o 1 && not (eqb c no_code))) && good_ones cs os

-- how often the code c has a 1
unfoldable pub ones_of : ℕ → List ℕ → List ℕ → ℕ
ones_of c [] os = 0
ones_of c (d ∷ cs) [] = 0
ones_of c (d ∷ cs) (o ∷ os) =
    let r : ℕ = ones_of c cs os in
    if eqb c d then o + r else r

-- each of these codes has one 1
unfoldable pub one_each : List ℕ → List ℕ → List ℕ → Bool
one_each [] codes ones = true
one_each (c ∷ cs) codes ones = (eqb c no_code || eqb (ones_of c codes ones) 1) && one_each cs codes ones

-- "in its first 512"; else 11
unfoldable pub area_accepted : List ℕ → Bool
area_accepted area =
    let codes : List ℕ = take 256 area in
    let ones : List ℕ = take 256 (drop 256 area) in
    leb 512 (length area) && every is_code codes && good_ones codes ones && one_each codes codes ones

-- ## Decoding and encoding: "Calls on .. charmap areas test 11, 12, 14, 13"

-- what a byte decodes to; none for a number that is no byte
abbrev pub code_at : List ℕ → ℕ → ℕ
code_at area b = get_or (take 256 area) b no_code

-- the byte with a 1 at the code c, the first of these being b; 256 for none
unfoldable pub byte_from : ℕ → ℕ → List ℕ → List ℕ → ℕ
byte_from b c [] os = 256
byte_from b c (d ∷ cs) [] = 256
byte_from b c (d ∷ cs) (o ∷ os) = if eqb c d && eqb o 1 then b else byte_from (suc b) c cs os

-- the byte that encodes c; 256 for none
abbrev pub byte_at : List ℕ → ℕ → ℕ
byte_at area c = byte_from 0 c (take 256 area) (take 256 (drop 256 area))

-- "bytes to decode, over 4,096" (12); "byte not in the charmap" (14); "text longer than the room lent" (13)
unfoldable pub decode_of : List ℕ → List ℕ → ℕ → Result (List ℕ)
decode_of area bs room =
    let text : List ℕ = map (code_at area) bs in
    if not (area_accepted area) then refused 11 0
    else if ltb 4096 (length bs) then refused 12 0
    else if not (every is_character text) then refused 14 0
    else if ltb room (length text) then refused 13 0
    else granted text

-- "string .. over 4,096; a number in a string that is no character" (12); "character .. not in the charmap" (14)
unfoldable pub encode_of : List ℕ → List ℕ → ℕ → Result (List ℕ)
encode_of area s room =
    let bs : List ℕ = map (byte_at area) s in
    if not (area_accepted area) then refused 11 0
    else if not (good_string s) then refused 12 0
    else if not (every (within 0 255) bs) then refused 14 0
    else if ltb room (length bs) then refused 13 0
    else granted bs
