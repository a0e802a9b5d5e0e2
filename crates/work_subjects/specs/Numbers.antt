-- The eight numbers of what can be declared, and their bits, by which its way goes in the store. A name has seven of them, so that they find room in one row of the
-- work area; a character one, an element's characters four.
use Rattle.std.specs.Prelude.{◌≡◌, Bool, true, false, ◌&&◌, List, [], ◌∷◌, ℕ, suc, ◌+◌, ◌*◌, ◌/◌, ◌%◌, ◌^◌, ◌≤◌, length, get_or, set, replicate, eqb, leb, ltb, if◌then◌else◌, None, Option, Some}
use Rattle.rules.specs.Text.{every}
use Rattle.rules.specs.State.{character, named, undefined}
use Rattle.text_names.specs.Packed.{packed, is_plain}
use Rattle.work_subjects.specs.Keys.{Key, item, chars, hash_key}
use Rattle.work_subjects.specs.declared.Told.{Told}
use Rattle.work_subjects.specs.declared.Kind.{Kind}
use Rattle.work_subjects.specs.declared.Kind.TheVariants as kind

-- ## Kinds

-- the number of a kind
abbrev pub kind_number : Kind → ℕ
kind_number kind.Character = 0
kind_number kind.Name = 1
kind_number kind.Chars = 2

-- three kinds of keys can be declared: characters, names, the characters of quotes
unfoldable pub kind_of : Key → ℕ
kind_of (item (character c)) = 0
kind_of (item (named n)) = 1
kind_of (item undefined) = 3
kind_of (chars cs) = 2

-- how many numbers a key of a kind has: a character one, a name seven, an element's characters four
unfoldable pub width_of : ℕ → ℕ
width_of kind = if eqb kind 0 then 1 else if eqb kind 1 then 7 else 4

-- ## The numbers of a name

-- four bytes of a number in 28 bits, seven for each: a visible byte is below 128
unfoldable pub narrow : ℕ → ℕ
narrow q = q % 128 + 128 * (q / 256 % 128) + 16384 * (q / 65536 % 128) + 2097152 * (q / 16777216 % 128)

-- number i of seven: four bytes in its lowest 28 bits, and above them four of the 28 bits of the last four bytes
unfoldable pub pinched : List ℕ → ℕ → ℕ
pinched xs i = narrow (get_or xs i 0) + 268435456 * (narrow (get_or xs 7 0) / 16 ^ i % 16)

-- eight numbers of four bytes each as seven, and a 0
unfoldable pub squeezed : List ℕ → List ℕ
squeezed xs = pinched xs 0 ∷ pinched xs 1 ∷ pinched xs 2 ∷ pinched xs 3 ∷ pinched xs 4 ∷ pinched xs 5 ∷ pinched xs 6 ∷ 0 ∷ []

-- ## The numbers of a key

-- a code up to 10FFFF hex, of a character or not
abbrev pub is_code : ℕ → Bool
is_code c = ltb c 1114112

-- what can be declared: a character, a name of at most 32 visible bytes, at most four characters
unfoldable pub is_declarable : Key → Bool
is_declarable (item (character c)) = is_code c
is_declarable (item (named n)) = is_plain n
is_declarable (item undefined) = false
is_declarable (chars cs) = leb (length cs) 4 && every is_code cs

-- numbers with those of characters from place n on, each one more than its code
unfoldable pub with_codes : List ℕ → ℕ → List ℕ → List ℕ
with_codes key n [] = key
with_codes key n (c ∷ cs) = with_codes (set key n (c + 1)) (suc n) cs

-- the numbers of a key: of a character twice its code and 2, of a name its bytes, of an element's characters their codes
unfoldable pub numbers_of : Key → List ℕ
numbers_of (item (character c)) = set (replicate 8 0) 0 (2 * c + 2)
numbers_of (item (named n)) = squeezed (packed n)
numbers_of (item undefined) = replicate 8 0
numbers_of (chars cs) = with_codes (replicate 8 0) 0 cs

-- What is told of a key: whether it can be declared, its hash, its kind, and its numbers where it can.
pub record NumbersAre (k : Key) (key : List ℕ) (r : Told) : Type 0 where
  pub plain : r.plain ≡ is_declarable k
  pub kind : kind_number r.kind ≡ kind_of k
  pub hash : r.hash ≡ hash_key k
  pub long : length key ≡ 8
  pub numbers : is_declarable k ≡ true → key ≡ numbers_of k

-- Of the characters of quotes n are passed: what is still to come is cs.
pub record CodesGood (all : List ℕ) (key : List ℕ) (n : ℕ) (cs : List ℕ) : Type 0 where
  pub long : length key ≡ 8
  pub few : n ≤ 4
  pub plain : is_declarable (chars all) ≡ (leb (n + length cs) 4 && every is_code cs)
  pub numbers : with_codes key n cs ≡ numbers_of (chars all)

-- There are more than four, or one of them is none.
pub record CodesBad (all : List ℕ) (key : List ℕ) : Type 0 where
  pub long : length key ≡ 8
  pub plain : is_declarable (chars all) ≡ false

abbrev pub CodesAre : List ℕ → List ℕ → Option ℕ → List ℕ → Type 0
CodesAre all key (Some n) cs = CodesGood all key n cs
CodesAre all key None cs = CodesBad all key

-- One character more.
pub record CodePut (key : List ℕ) (n : Option ℕ) (c : ℕ) (after : List ℕ) (m : Option ℕ) : Type 0 where
  pub is : (all cs : List ℕ) → CodesAre all key n (c ∷ cs) → CodesAre all after m cs
  pub long : length after ≡ length key

-- ## Bits

-- bit n of a key, 0 behind the last: the bits of the first number, the lowest first, then those of the second
unfoldable pub bit_of : Key → ℕ → ℕ
bit_of k n = get_or (numbers_of k) (n / 32) 0 / 2 ^ (n % 32) % 2
