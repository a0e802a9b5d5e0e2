-- 01, "Proved and run examples", the pairs program: what it writes, from the bytes of its two files and of its input. An absent file
-- is an empty one.
use Rattle.std.specs.Prelude.{List, [], ◌∷◌, ◌++◌, map, ℕ, zero, suc, ◌+◌, ◌/◌, ◌%◌, length, ltb, eqb, if◌then◌else◌}
use Rattle.rules.specs.Text.{bytes, Result, granted, refused}
use Rattle.rules.specs.Meaning.{Meaning}
use Rattle.rules.specs.Compile.{compile_of}
use Rattle.rules.specs.Order.{Answer, Sign, less, equal, greater, compare_of}
use Rattle.rules.specs.Charmap.{charmap_of}
use Rattle.rules.specs.Coding.{decode_of}

-- ## The two files

-- "at most 8,192 bytes each"; "a longer one gets 1"; "Its table room is 8,192 numbers"
unfoldable pub locale_file : List ℕ → Result Meaning
locale_file source = if ltb 8192 (length source) then refused 1 0 else compile_of source 8192 (length source + 64)

-- the same of the charmap, whose area has 512 numbers
unfoldable pub charmap_file : List ℕ → Result (List ℕ)
charmap_file source = if ltb 8192 (length source) then refused 1 0 else charmap_of source 512

-- ## Lines

-- the digits of n, in at most `most` places
unfoldable pub digits_in : ℕ → ℕ → List ℕ
digits_in zero n = []
digits_in (suc most) n =
    let r : List ℕ = digits_in most (n / 10) in
    (if ltb n 10 then [] else r) ++ (48 + n % 10) ∷ []

-- a number as it is printed; every number here has fewer than 20 places
abbrev pub decimal : ℕ → List ℕ
decimal n = digits_in 20 n

-- a sign as it is printed: `<` is 60, `=` 61, `>` 62
abbrev pub sign_byte : Sign → ℕ
sign_byte less = 60
sign_byte equal = 61
sign_byte greater = 62

-- the texts of the input, the first of which begins with `text`: lines end at LF, and the last LF opens no further one (docs/DECISIONS.md)
unfoldable pub texts_from : List ℕ → List ℕ → List (List ℕ)
texts_from [] [] = []
texts_from (c ∷ text) [] = (c ∷ text) ∷ []
texts_from text (b ∷ bs) =
    let r : List (List ℕ) = texts_from (if eqb b 10 then [] else text ++ b ∷ []) bs in
    if eqb b 10 then text ∷ r else r

-- "its number, sign, level, agreed"
unfoldable pub compared_line : ℕ → Answer → List ℕ
compared_line n a =
    decimal n ++ 32 ∷ sign_byte a.sign ∷ 32 ∷ decimal a.level ++ 32 ∷ decimal a.agreed ++ 10 ∷ []

-- "A pair with a refused text prints its number, `refused` and the first refusal's number."
unfoldable pub refused_line : ℕ → ℕ → List ℕ
refused_line n r = decimal n ++ bytes " refused " ++ decimal r ++ 10 ∷ []

-- the n-th pair
unfoldable pub pair_line : Meaning → ℕ → Result (List ℕ) → Result (List ℕ) → List ℕ
pair_line m n (refused r l) b = refused_line n r
pair_line m n (granted x) (refused r l) = refused_line n r
pair_line m n (granted x) (granted y) = compared_line n (compare_of m x y)

-- "for each neighbouring pair": those of a and the texts after it, from the n-th on
unfoldable pub pair_lines : Meaning → ℕ → Result (List ℕ) → List (Result (List ℕ)) → List ℕ
pair_lines m n a [] = []
pair_lines m n a (b ∷ bs) = pair_line m n a b ++ pair_lines m (suc n) b bs

-- no text, or one, makes no pair
abbrev pub all_pairs : Meaning → List (Result (List ℕ)) → List ℕ
all_pairs m [] = []
all_pairs m (a ∷ bs) = pair_lines m 1 a bs

-- ## The whole

-- "A refused file prints only `locale` or `charmap`, the number and the line"
unfoldable pub file_line : List ℕ → ℕ → ℕ → List ℕ
file_line file n l = file ++ 32 ∷ decimal n ++ 32 ∷ decimal l ++ 10 ∷ []

-- a text, decoded with room for the longest
abbrev pub text_of : List ℕ → List ℕ → Result (List ℕ)
text_of area t = decode_of area t 4096

-- with the locale read, the charmap's answer and the input
unfoldable pub pairs_with : Meaning → Result (List ℕ) → List ℕ → List ℕ
pairs_with m (refused n l) input = file_line (bytes "charmap") n l
pairs_with m (granted area) input = bytes "pair sign level agreed\n" ++ all_pairs m (map (text_of area) (texts_from [] input))

-- "the locale is read first"
unfoldable pub pairs_from : Result Meaning → List ℕ → List ℕ → List ℕ
pairs_from (refused n l) charmap input = file_line (bytes "locale") n l
pairs_from (granted m) charmap input = pairs_with m (charmap_file charmap) input

-- what the program writes, of locale.src, charmap.src and standard input
unfoldable pub pairs_of : List ℕ → List ℕ → List ℕ → List ℕ
pairs_of locale charmap input = pairs_from (locale_file locale) charmap input
