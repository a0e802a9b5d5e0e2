-- 01, "Order of two strings": elements, entries, comparison and keys, over a table's meaning.
use Rattle.std.specs.Prelude.{Bool, true, false, ◌&&◌, List, [], ◌∷◌, ◌++◌, map, reverse, ℕ, zero, suc, pred, ◌+◌, ◌/◌, ◌%◌, length, get_or, ltb, leb, eqb, if◌then◌else◌}
use Rattle.rules.specs.Text.{every, begins}
use Rattle.rules.specs.Names.{is_character}
use Rattle.rules.specs.Meaning.{Rule, Item, Meaning}

-- "A string has 0 to 4,096 characters": one that is not so is refused by 12
unfoldable pub good_string : List ℕ → Bool
good_string s = leb (length s) 4096 && every is_character s

-- ## Elements: "At each place the longest matching listed item is taken; else one character, as UNDEFINED."

-- "The step answers the item's place in the table, from 1, and its length; both 0 at or past the end."
pub record Step : Type 0 where
  pub place : ℕ
  pub size : ℕ

-- of the items from place n on, and of `best`, the longest that s begins with
unfoldable pub longest : ℕ → List Item → List ℕ → Step → Step
longest n [] s best = best
longest n (i ∷ is) s best =
    longest (suc n) is s
    (if begins i.chars s && leb best.size (length i.chars) then record { place = n; size = length i.chars } else best)

-- the place of UNDEFINED, the first item being at n
unfoldable pub undefined_from : ℕ → List Item → ℕ
undefined_from n [] = 0
undefined_from n (i ∷ is) = if eqb (length i.chars) 0 then n else undefined_from (suc n) is

-- the element that begins the string s
unfoldable pub step_of : List Item → List ℕ → Step
step_of items [] = record { place = 0; size = 0 }
step_of items (c ∷ s) = longest 1 items (c ∷ s) (record { place = undefined_from 1 items; size = 1 })

-- The places of a string's elements; the first k characters belong to an element that is already counted.
unfoldable pub elements : List Item → ℕ → List ℕ → List ℕ
elements items k [] = []
elements items zero (c ∷ s) =
    let e : Step = step_of items (c ∷ s) in
    e.place ∷ elements items (pred e.size) s
elements items (suc k) (c ∷ s) = elements items k s

-- ## Entries

-- An entry is a pair; without position its count is 0.
pub record Entry : Type 0 where
  pub count : ℕ
  pub weight : ℕ

-- where there is none
abbrev pub no_item : Item
no_item = record { chars = []; weights = [] }

-- the weights of the item at a place (from 1), at a level (from 0)
unfoldable pub weights_at : List Item → ℕ → ℕ → List ℕ
weights_at items level place = get_or (get_or items (pred place) no_item).weights level []

-- "second and later weights of one element have 0 there"
unfoldable pub more : List ℕ → List Entry → List Entry
more [] rest = rest
more (w ∷ ws) rest = record { count = 0; weight = w } ∷ more ws rest

-- "how many elements with no weight at this level stood since the last element that had one (or the start, in the direction walked)": n so far
unfoldable pub entries_from : Bool → ℕ → List (List ℕ) → List Entry
entries_from position n [] = []
entries_from position n ([] ∷ es) = entries_from position (suc n) es
entries_from position n ((w ∷ ws) ∷ es) =
    record { count = if position then n else 0; weight = w } ∷ more ws (entries_from position 0 es)

-- "Forward: at a level, the elements' weights in string order. Backward: elements from last to first, each element's own weights in their written order."
unfoldable pub walked : Rule → List (List ℕ) → List (List ℕ)
walked r es = if r.backward then reverse es else es

-- a level's entries, of the elements at these places
unfoldable pub level_entries : List Item → Rule → ℕ → List ℕ → List Entry
level_entries items r level places = entries_from r.position 0 (walked r (map (weights_at items level) places))

-- a string's code points as entries
unfoldable pub codes : List ℕ → List Entry
codes [] = []
codes (c ∷ s) = record { count = 0; weight = c } ∷ codes s

-- the entries of each level from `level` on
unfoldable pub levels_from : List Item → List Rule → ℕ → List ℕ → List (List Entry)
levels_from items [] level places = []
levels_from items (r ∷ rs) level places = level_entries items r level places ∷ levels_from items rs (suc level) places

-- the entries of each level
unfoldable pub levels_of : Meaning → List ℕ → List (List Entry)
levels_of m s = levels_from m.items m.rules 0 (elements m.items 0 s)

-- ## Comparison

-- "The answer: sign"
pub data Sign : Type 0 where
  less equal greater : Sign

-- "The answer: sign, deciding level (0 if equal), and agreed entries"
pub record Answer : Type 0 where
  pub sign : Sign
  pub level : ℕ
  pub agreed : ℕ

-- the first sign that is not equal
abbrev pub or_else : Sign → Sign → Sign
or_else less s = less
or_else equal s = s
or_else greater s = greater

-- the sign of two numbers
unfoldable pub sign_ℕ : ℕ → ℕ → Sign
sign_ℕ a b = if ltb a b then less else if ltb b a then greater else equal

-- "the smaller entry (a pair by its count first)"
unfoldable pub sign_entry : Entry → Entry → Sign
sign_entry a b = or_else (sign_ℕ a.count b.count) (sign_ℕ a.weight b.weight)

-- at one level "the first difference decides; the smaller entry .., or the list that ends first, comes first"
unfoldable pub sign_list : List Entry → List Entry → Sign
sign_list [] [] = equal
sign_list [] (y ∷ ys) = less
sign_list (x ∷ xs) [] = greater
sign_list (x ∷ xs) (y ∷ ys) = or_else (sign_entry x y) (sign_list xs ys)

-- n entries more, where the first two have the sign equal
abbrev pub onward : Sign → ℕ → ℕ
onward less n = 0
onward equal n = suc n
onward greater n = 0

-- "the lengths of the common beginnings": how many entries two lists begin with alike. "A pair counts once."
unfoldable pub common : List Entry → List Entry → ℕ
common [] ys = 0
common (x ∷ xs) [] = 0
common (x ∷ xs) (y ∷ ys) = onward (sign_entry x y) (common xs ys)

-- the answer of level k, of this sign and common beginning, and of the levels after it: "summed through the deciding level, or through all of them if equal"
abbrev pub settled : Sign → ℕ → ℕ → Answer → Answer
settled less k n later = record { sign = less; level = k; agreed = n }
settled equal k n later = record { sign = later.sign; level = later.level; agreed = n + later.agreed }
settled greater k n later = record { sign = greater; level = k; agreed = n }

-- "Level after level", from level k on
unfoldable pub answer_from : ℕ → List (List Entry) → List (List Entry) → Answer
answer_from k [] bs = record { sign = equal; level = 0; agreed = 0 }
answer_from k (a ∷ as') [] = record { sign = equal; level = 0; agreed = 0 }
answer_from k (a ∷ as') (b ∷ bs) =
    let later : Answer = answer_from (suc k) as' bs in
    settled (sign_list a b) k (common a b) later

-- "Then code points the same way, as level L + 1.": what two strings are compared by
abbrev pub entry_lists : Meaning → List ℕ → List (List Entry)
entry_lists m s = levels_of m s ++ codes s ∷ []

-- the answer, from the first level on
unfoldable pub compare_of : Meaning → List ℕ → List ℕ → Answer
compare_of m a b = answer_from 1 (entry_lists m a) (entry_lists m b)

-- ## Keys

-- "as two bytes, high first"
abbrev pub two : ℕ → List ℕ → List ℕ
two n rest = n / 256 ∷ n % 256 ∷ rest

-- "three bytes per character"
abbrev pub three : ℕ → List ℕ → List ℕ
three n rest = n / 65536 ∷ n / 256 % 256 ∷ n % 256 ∷ rest

-- "each weight as two bytes, high first, with position preceded by count + 1 in two bytes; 00 00 after each level"
unfoldable pub level_key : Bool → List Entry → List ℕ → List ℕ
level_key position [] rest = two 0 rest
level_key true (e ∷ es) rest = two (suc e.count) (two e.weight (level_key true es rest))
level_key false (e ∷ es) rest = two e.weight (level_key false es rest)

-- "then three bytes per character"
unfoldable pub codes_key : List ℕ → List ℕ
codes_key [] = []
codes_key (c ∷ s) = three c (codes_key s)

-- "per level", and what follows
unfoldable pub levels_key : List Rule → List (List Entry) → List ℕ → List ℕ
levels_key [] ls rest = rest
levels_key (r ∷ rs) [] rest = rest
levels_key (r ∷ rs) (l ∷ ls) rest = level_key r.position l (levels_key rs ls rest)

-- "A key: per level, ..; then three bytes per character."
unfoldable pub key_of : Meaning → List ℕ → List ℕ
key_of m s = levels_key m.rules (levels_of m s) (codes_key s)

-- "Keys compare as bytes, a beginning before the longer."
unfoldable pub sign_bytes : List ℕ → List ℕ → Sign
sign_bytes [] [] = equal
sign_bytes [] (y ∷ ys) = less
sign_bytes (x ∷ xs) [] = greater
sign_bytes (x ∷ xs) (y ∷ ys) = or_else (sign_ℕ x y) (sign_bytes xs ys)
