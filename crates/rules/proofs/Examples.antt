-- 01, "Proved and run examples": P1 to P12 as one list of rows under one statement, computed from the bytes of source S.
use mathlib.Core.Path.{◌≡◌, refl}
use mathlib.Core.List.{List, [], ◌∷◌}
use Prim.Native.Nat.{ℕ}
use Prim.Native.String.{String, ◌++◌}
use Rattle.rules.proofs.Computed.{computed}
use Rattle.rules.specs.Text.{bytes, Result, granted, refused}
use Rattle.rules.specs.Meaning.{Meaning}
use Rattle.rules.specs.Compile.{compile_of}
use Rattle.rules.specs.Order.{Sign, less, equal, greater, compare_of, key_of}

-- Source S, with the rule of its second level.
unfoldable pub source_s : String → String
source_s second =
    "comment_char %\nescape_char /\nLC_COLLATE\ncollating-symbol <LOW>\ncollating-symbol <CAP>\norder_start forward;" ++ (second ++ "\n<LOW>\n<CAP>\n<U0061> <U0061>;<LOW>\n<U0041> <U0061>;<CAP>\n<U0062> <U0062>;<LOW>\n<U002D> IGNORE;IGNORE\norder_end\nEND LC_COLLATE\n")

-- what S is compiled to, with that rule and 66 numbers lent for the table
unfoldable pub result_s : String → Result Meaning
result_s second = compile_of (bytes (source_s second)) 66 1000

-- A row: the second level's rule; two strings, their sign, deciding level and agreed entries; or a string and its key.
pub data Row : Type 0 where
  compared : String → String → String → Sign → ℕ → ℕ → Row
  keyed : String → String → List ℕ → Row

-- a refused source breaks every row
abbrev pub HoldsOf : Result Meaning → Row → Type 0
HoldsOf (refused n l) r = ⊥
HoldsOf (granted m) (compared second a b s l n) = compare_of m (bytes a) (bytes b) ≡ record { sign = s; level = l; agreed = n }
HoldsOf (granted m) (keyed second s k) = key_of m (bytes s) ≡ k

-- what a row says
abbrev pub Holds : Row → Type 0
unfolding computed source_s result_s
Holds (compared second a b s l n) = HoldsOf (result_s second) (compared second a b s l n)
Holds (keyed second s k) = HoldsOf (result_s second) (keyed second s k)

-- what all rows say
abbrev pub AllHold : List Row → Type 0
unfolding computed source_s result_s
AllHold [] = Unit
AllHold (r ∷ rs) = Holds r × AllHold rs

-- the one list, in the order of 01; P12 is its last two rows
abbrev pub P1-to-P12 : List Row
P1-to-P12 =
    compared "forward" "a" "A" less 2 1
    ∷ compared "forward" "ab" "Aa" greater 1 1
    ∷ compared "forward" "a-" "a" greater 3 3
    ∷ compared "forward" "" "-" less 3 0
    ∷ compared "forward" "aa" "aa" equal 0 6
    ∷ compared "forward" "z" "b" greater 1 0
    ∷ compared "forward" "z" "y" greater 3 2
    ∷ compared "forward" "aA" "Aa" less 2 2
    ∷ compared "backward" "aA" "Aa" greater 2 2
    ∷ keyed "forward" "aA" (0x00 ∷ 0x03 ∷ 0x00 ∷ 0x03 ∷ 0x00 ∷ 0x00 ∷ 0x00 ∷ 0x01 ∷ 0x00 ∷ 0x02 ∷ 0x00 ∷ 0x00 ∷ 0x00 ∷ 0x00 ∷ 0x61 ∷ 0x00 ∷ 0x00 ∷ 0x41 ∷ [])
    ∷ keyed "forward" "-" (0x00 ∷ 0x00 ∷ 0x00 ∷ 0x00 ∷ 0x00 ∷ 0x00 ∷ 0x2D ∷ [])
    ∷ compared "forward,position" "-a" "a" greater 2 1
    ∷ keyed "forward,position" "-a" (0x00 ∷ 0x03 ∷ 0x00 ∷ 0x00 ∷ 0x00 ∷ 0x02 ∷ 0x00 ∷ 0x01 ∷ 0x00 ∷ 0x00 ∷ 0x00 ∷ 0x00 ∷ 0x2D ∷ 0x00 ∷ 0x00 ∷ 0x61 ∷ [])
    ∷ []

-- the one statement
pub examples : AllHold P1-to-P12
unfolding computed source_s result_s
examples = (refl, (refl, (refl, (refl, (refl, (refl, (refl, (refl, (refl, (refl, (refl, (refl, (refl, tt)))))))))))))
