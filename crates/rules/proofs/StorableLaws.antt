-- What a meaning must be for its numbers to be read back: each part alone, and that a good meaning is so.
use mathlib.Core.Path.{◌≡◌, refl}
use mathlib.Core.Bool.{Bool, true, false, not}
use mathlib.Core.List.{List, [], ◌∷◌, ◌++◌, map, flatten, append_assoc}
use Prim.Native.Nat.{ℕ, ◌≤◌}
use native.Mathlib.Omega.{arith}
use lib.ListN.{length, take, drop}
use lib.Seq.{take-append_seam, drop-append_seam}
use lib.Dec.{leb, eqb}
use borrow.Author.Tests.{ne_eqb, leb-true}
use Rattle.base_lists.proofs.Bools.{and_left}
use Rattle.rules.proofs.TextLaws.{every-head, every-tail}
use Rattle.rules.specs.Text.{every, within}
use Rattle.rules.proofs.MeaningLaws.{item-parts, good-parts}
use Rattle.rules.specs.Names.{is_character}
use Rattle.rules.specs.Meaning.{Rule, Item, Meaning, good_item, good}
use Rattle.rules.specs.Table.{pad, rule_number, rule_of_number, padded, unpadded, counts, cut_by, weight_numbers}

-- ## Rules

pub rule-back : (b p : Bool) → rule_of_number (rule_number (record { backward = b; position = p })) ≡ record { backward = b; position = p }
unfolding rule_of_number rule_number
rule-back true true = refl
rule-back true false = refl
rule-back false true = refl
rule-back false false = refl

pub rules-back : (rs : List Rule) (rest : List ℕ) → map rule_of_number (take (length rs) (map rule_number rs ++ rest)) ≡ rs
rules-back [] rest = refl
rules-back (r ∷ rs) rest = rw (rule-back r.backward r.position, rules-back rs rest)

pub rules-drop : (rs : List Rule) (rest : List ℕ) → drop (length rs) (map rule_number rs ++ rest) ≡ rest
rules-drop [] rest = refl
rules-drop (r ∷ rs) rest = rules-drop rs rest

-- ## An item's characters

abbrev pub NoPad : List ℕ → Type 0
NoPad [] = Unit
NoPad (c ∷ cs) = (eqb c pad ≡ false) × NoPad cs

pub chars-back : (cs : List ℕ) (rest : List ℕ) → length cs ≤ 4 → NoPad cs → unpadded (take 4 (padded cs rest)) ≡ cs
unfolding unpadded
chars-back [] rest h k = refl
chars-back (a ∷ []) rest h k = rw k.0
chars-back (a ∷ b ∷ []) rest h k = rw (k.0, k.1.0)
chars-back (a ∷ b ∷ c ∷ []) rest h k = rw (k.0, k.1.0, k.1.1.0)
chars-back (a ∷ b ∷ c ∷ d ∷ []) rest h k = rw (k.0, k.1.0, k.1.1.0, k.1.1.1.0)
chars-back (a ∷ b ∷ c ∷ d ∷ e ∷ cs) rest h k = absurd (omega arith)

-- ## An item's weights

pub cut-back : (ws : List (List ℕ)) (rest : List ℕ) → cut_by (counts ws) (flatten ws ++ rest) ≡ ws
unfolding cut_by flatten
cut-back [] rest = refl
cut-back (w ∷ ws) rest =
    rw (append_assoc w (flatten ws) rest, take-append_seam w (flatten ws ++ rest), drop-append_seam w (flatten ws ++ rest), cut-back ws rest)

pub weights-append : (is : List Item) (x y : List ℕ) → weight_numbers is x ++ y ≡ weight_numbers is (x ++ y)
unfolding weight_numbers
weights-append [] x y = refl
weights-append (i ∷ is) x y = rw (append_assoc (flatten i.weights) (weight_numbers is x) y, weights-append is x y)

-- ## Items

abbrev pub Stored : ℕ → Item → Type 0
Stored l i = (length i.chars ≤ 4) × NoPad i.chars × (length i.weights ≡ l)

abbrev pub AllStored : ℕ → List Item → Type 0
AllStored l [] = Unit
AllStored l (i ∷ is) = Stored l i × AllStored l is

-- ## A good meaning can be stored

pub char-no-pad : (c : ℕ) → is_character c ≡ true → eqb c pad ≡ false
char-no-pad c h =
    let k = leb-true c 0x10FFFF (and_left (leb c 0x10FFFF) (not (within 0xD800 0xDFFF c)) h) in
    ne_eqb c pad (omega arith)

chars-no-pad : (cs : List ℕ) → every is_character cs ≡ true → NoPad cs
chars-no-pad [] h = tt
chars-no-pad (c ∷ cs) h = (char-no-pad c (every-head is_character c cs h), chars-no-pad cs (every-tail is_character c cs h))

item-stored : (l : ℕ) (i : Item) → good_item l i ≡ true → Stored l i
item-stored l i h =
    let g = item-parts l i h in
    (g.short, chars-no-pad i.chars g.characters, g.levels)

pub items-stored : (l : ℕ) (is : List Item) → every (good_item l) is ≡ true → AllStored l is
items-stored l [] h = tt
items-stored l (i ∷ is) h = (item-stored l i (every-head (good_item l) i is h), items-stored l is (every-tail (good_item l) i is h))

pub meaning-stored : (m : Meaning) → good m ≡ true → AllStored (length m.rules) m.items
meaning-stored m h = items-stored (length m.rules) m.items (good-parts m h).items
