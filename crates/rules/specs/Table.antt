-- 01, "The table": the numbers that store a meaning, and which lists of numbers are accepted. With L levels, I items, W weights:
--   16       L, I, W, the mask of the buckets, then 12 zeros
--   I x L    ends: for each item and level, how many weights stand up to and with it
--   4 x I    characters: four for each item, padded with 110000 hex
--   I        listing: the places of the items, from 1, in the order of their buckets, then of their characters
--   I        starts: two in each number, how many items have a smaller bucket, for buckets 0 to 2 x I - 1
--   L        rules
--   W        weights
use Rattle.std.specs.Prelude.{Bool, false, ◌&&◌, ◌||◌, ℕ, zero, suc, pred, ◌+◌, ◌-◌, ◌*◌, length, get_or, take, drop, ltb, leb, eqb, if◌then◌else◌}
use mathlib.Core.List.{List, [], ◌∷◌, ◌++◌, map, flatten}
use Rattle.std.specs.Int.Bits.{bit_and}
use Rattle.rules.specs.Text.{begins}
use Rattle.rules.specs.Meaning.{Rule, Item, item, Meaning, weight_count, good}

-- ## Rules and weights

-- 0 forward, 1 backward, 2 and 3 the same with position
unfoldable pub rule_number : Rule → ℕ
rule_number r = (if r.backward then 1 else 0) + (if r.position then 2 else 0)

-- the weights of all items, and what follows them
unfoldable pub weight_numbers : List Item → List ℕ → List ℕ
weight_numbers [] rest = rest
weight_numbers (i ∷ is) rest = flatten i.weights ++ weight_numbers is rest

-- ## Ends

-- running sums, from `at` on
unfoldable pub sums : ℕ → List ℕ → List ℕ
sums at [] = []
sums at (n ∷ ns) = (at + n) ∷ sums (at + n) ns

-- how many weights an item has at each level
abbrev pub counts : List (List ℕ) → List ℕ
counts ws = map length ws

-- the weights of all items, a list for each item and level
unfoldable pub weight_lists : List Item → List (List ℕ)
weight_lists [] = []
weight_lists (i ∷ is) = i.weights ++ weight_lists is

-- where the weights of each item and level end
unfoldable pub ends : List Item → List ℕ
ends is = sums 0 (counts (weight_lists is))

-- ## Characters

-- no character: what fills up an item's four numbers
abbrev pub pad : ℕ
pad = 0x110000

-- the four character numbers of an item, and what follows them
abbrev pub padded : List ℕ → List ℕ → List ℕ
padded cs rest = get_or cs 0 pad ∷ get_or cs 1 pad ∷ get_or cs 2 pad ∷ get_or cs 3 pad ∷ rest

-- those of all items, and what follows them
unfoldable pub char_numbers : List Item → List ℕ → List ℕ
char_numbers [] rest = rest
char_numbers (i ∷ is) rest = padded i.chars (char_numbers is rest)

-- ## Buckets

-- 1, doubled n times at most, while it is below i
unfoldable pub doubled : ℕ → ℕ → ℕ
doubled zero i = 1
doubled (suc n) i =
    let p : ℕ = doubled n i in
    if ltb p i then 2 * p else p

-- one less than how many buckets characters have, where there are i items, 1 to 32,768: that is the least power of two not below i, so below 2 x i
unfoldable pub mask : ℕ → ℕ
mask i = pred (doubled 15 i)

-- an item's bucket: by the low bits of its first character; UNDEFINED has the last of 2 x i, behind all others
unfoldable pub bucket : ℕ → List ℕ → ℕ
bucket i [] = pred (2 * i)
bucket i (c ∷ cs) = bit_and c (mask i)

-- ## The listing

-- a list of numbers before another of the same length
unfoldable pub before : List ℕ → List ℕ → Bool
before [] ys = false
before (x ∷ xs) [] = false
before (x ∷ xs) (y ∷ ys) = ltb x y || (eqb x y && before xs ys)

-- An item's place, and what it is listed by.
pub record Placed : Type 0 where
  pub place : ℕ
  pub key : List ℕ

-- a place and its key
abbrev pub placed : ℕ → List ℕ → Placed
placed p k = record { place = p; key = k }

-- put before the first that it is before
unfoldable pub inserted : Placed → List Placed → List Placed
inserted p [] = p ∷ []
inserted p (q ∷ qs) =
    let r : List Placed = inserted p qs in
    if before p.key q.key then p ∷ q ∷ qs else q ∷ r

-- in the order of their keys
unfoldable pub sorted : List Placed → List Placed
sorted [] = []
sorted (p ∷ ps) = inserted p (sorted ps)

-- what an item of these characters is listed by, of i items: its bucket, then its four character numbers
abbrev pub list_key : ℕ → List ℕ → List ℕ
list_key i cs = bucket i cs ∷ padded cs []

-- the items with their places, the first being n, of i items
unfoldable pub keyed : ℕ → ℕ → List Item → List Placed
keyed i n [] = []
keyed i n (x ∷ xs) = placed n (list_key i x.chars) ∷ keyed i (suc n) xs

-- the place alone
abbrev pub place_of : Placed → ℕ
place_of p = p.place

-- the places of the items, from 1, in the order of their buckets and characters
unfoldable pub listing : List Item → List ℕ
listing is = map place_of (sorted (keyed (length is) 1 is))

-- ## Starts

-- the buckets of items, of i in all
unfoldable pub item_buckets : ℕ → List Item → List ℕ
item_buckets i [] = []
item_buckets i (x ∷ xs) = bucket i x.chars ∷ item_buckets i xs

-- how many of these buckets are below b
unfoldable pub below : ℕ → List ℕ → ℕ
below b [] = 0
below b (q ∷ qs) = (if ltb q b then 1 else 0) + below b qs

-- n numbers with two starts each, from bucket b on
unfoldable pub starts_from : ℕ → ℕ → List ℕ → List ℕ
starts_from zero b qs = []
starts_from (suc n) b qs = (below b qs + 65536 * below (suc b) qs) ∷ starts_from n (suc (suc b)) qs

-- the starts of all buckets
unfoldable pub starts : List Item → List ℕ
starts is =
    let qs : List ℕ = item_buckets (length is) is in
    starts_from (length is) 0 qs

-- ## Storing

-- "one stored form for each meaning, spare numbers zero", and what follows it
unfoldable pub stored_form : Meaning → List ℕ → List ℕ
stored_form m rest =
    length m.rules ∷ length m.items ∷ weight_count m.items ∷ mask (length m.items)
    ∷ 0 ∷ 0 ∷ 0 ∷ 0 ∷ 0 ∷ 0 ∷ 0 ∷ 0 ∷ 0 ∷ 0 ∷ 0 ∷ 0
    ∷ ends m.items
    ++ char_numbers m.items (listing m.items ++ starts m.items ++ (map rule_number m.rules ++ weight_numbers m.items rest))

-- ## Reading back

-- the rule of such a number
unfoldable pub rule_of_number : ℕ → Rule
rule_of_number n = record { backward = eqb n 1 || eqb n 3; position = eqb n 2 || eqb n 3 }

-- the characters before the first padding
unfoldable pub unpadded : List ℕ → List ℕ
unpadded [] = []
unpadded (c ∷ cs) =
    let r : List ℕ = unpadded cs in
    if eqb c pad then [] else c ∷ r

-- how much each is above the one before, the first above `at`
unfoldable pub gaps : ℕ → List ℕ → List ℕ
gaps at [] = []
gaps at (e ∷ es) = (e - at) ∷ gaps e es

-- lists of these lengths, one after the other
unfoldable pub cut_by : List ℕ → List ℕ → List (List ℕ)
cut_by [] ws = []
cut_by (n ∷ ns) ws = take n ws ∷ cut_by ns (drop n ws)

-- I items of L levels, from the characters and the lists of weights
unfoldable pub items_at : ℕ → ℕ → List ℕ → List (List ℕ) → List Item
items_at zero l cs ws = []
items_at (suc i) l cs ws = item (unpadded (take 4 cs)) (take l ws) ∷ items_at i l (drop 4 cs) (drop l ws)

-- the meaning that numbers store, if they store one
unfoldable pub meaning_in : List ℕ → Meaning
meaning_in t =
    let l : ℕ = get_or t 0 0 in
    let i : ℕ = get_or t 1 0 in
    let chars : List ℕ = drop (i * l) (drop 16 t) in
    let rules : List ℕ = drop (6 * i) chars in
    record {
      rules = map rule_of_number (take l rules);
      items = items_at i l chars (cut_by (gaps 0 (take (i * l) (drop 16 t))) (drop l rules));
    }

-- ## Acceptance

-- "It is accepted exactly when it stores a meaning"; "Numbers after it are not read." The first two tests follow from the others; they
-- spare reading a meaning of any size.
unfoldable pub accepted : List ℕ → Bool
accepted t =
    let m : Meaning = meaning_in t in
    leb (get_or t 0 0) 8 && leb (get_or t 1 0) 32768 && good m && begins (stored_form m []) t
