-- 02, K2, "The directory itself": which heading of an A to Z page each topic belongs to, over a table's meaning.
use Rattle.std.specs.Prelude.{Bool, true, false, not, ◌&&◌, ◌||◌, List, [], ◌∷◌, map, ℕ, suc, ◌+◌, length, get_or, take, drop, ltb, leb, eqb, if◌then◌else◌}
use Rattle.rules.specs.Text.{every, Result, granted, refused}
use Rattle.rules.specs.Meaning.{Rule, Meaning}
use Rattle.rules.specs.Table.{meaning_in, accepted}
use Rattle.rules.specs.Order.{good_string, Entry, levels_of}

-- ## Headings and topics: "each given as start and length in one lent run of characters"

-- A part of the run.
pub record Part : Type 0 where
  pub start : ℕ
  pub size : ℕ

-- a part of its start and length
abbrev pub part : ℕ → ℕ → Part
part a n = record { start = a; size = n }

-- the parts that numbers give: start, length, start, length, ..; a start behind which no length stands gives none (docs/DECISIONS.md)
unfoldable pub parts_of : List ℕ → List Part
parts_of [] = []
parts_of (a ∷ []) = []
parts_of (a ∷ n ∷ rest) = part a n ∷ parts_of rest

-- the part at a place, from 0
unfoldable pub part_at : List ℕ → ℕ → Part
part_at parts i = get_or (parts_of parts) i (part 0 0)

-- the string of a part
unfoldable pub string_of : List ℕ → Part → List ℕ
string_of run p = take p.size (drop p.start run)

-- it does not reach outside the run; of length 0 neither
unfoldable pub in_run : List ℕ → Part → Bool
in_run run p = leb (p.start + p.size) (length run)

-- neither "over 1,000" of them "or one reaching outside the run"
unfoldable pub parts_fit : List ℕ → List Part → Bool
parts_fit run ps = leb (length ps) 1000 && every (in_run run) ps

-- a part's string is not refused by 12
unfoldable pub good_part : List ℕ → Part → Bool
good_part run p = good_string (string_of run p)

-- ## "first level-1 weight"

-- of a level's entries: the first entry's, or 0 where there is none, since no weight of an accepted table is 0
unfoldable pub first_of : List Entry → ℕ
first_of [] = 0
first_of (e ∷ es) = e.weight

-- of a string: the level is the one that comparison goes by
unfoldable pub first_weight : Meaning → List ℕ → ℕ
first_weight m s = first_of (get_or (levels_of m s) 0 [])

-- of a part's string
unfoldable pub part_weight : Meaning → List ℕ → Part → ℕ
part_weight m run p = first_weight m (string_of run p)

-- of each part that numbers give, by the meaning in a table
abbrev pub weights_of : (table run parts : List ℕ) → List ℕ
weights_of table run parts = map (part_weight (meaning_in table) run) (parts_of parts)

-- "Level 1 must be plain forward."; every accepted table has one
unfoldable pub plain_first : List Rule → Bool
plain_first [] = false
plain_first (r ∷ rs) = not (r.backward || r.position)

-- ## The heading of a topic

-- "strictly rising"
unfoldable pub rising : List ℕ → Bool
rising [] = true
rising (v ∷ []) = true
rising (v ∷ w ∷ ws) = ltb v w && rising (w ∷ ws)

-- no "heading without a level-1 weight", and none that is not above the one before it
unfoldable pub good_headings : List ℕ → Bool
good_headings weights = every (ltb 0) weights && rising weights

-- "the last heading whose first level-1 weight is not above" w, of those numbered from n on; `best` where there is none
unfoldable pub last_not_above : ℕ → ℕ → List ℕ → ℕ → ℕ
last_not_above w n [] best = best
last_not_above w n (v ∷ vs) best = last_not_above w (suc n) vs (if leb v w then n else best)

-- by the headings' weights and its own: "A topic with no level-1 weight, or before every heading, belongs to heading 0"
unfoldable pub heading_of : List ℕ → ℕ → ℕ
heading_of weights w = if eqb w 0 then 0 else last_not_above w 1 weights 0

-- ## The whole list: "one heading number per topic"

-- "Refusals, in this order: 11; 16 for a level 1 with another rule; 17 for over 1,000 of either or one reaching outside the run; 12; 15
-- for a heading without a level-1 weight or headings not strictly rising in it; 13 for a list too short."
unfoldable pub directory_of : (table run headings topics : List ℕ) → ℕ → Result (List ℕ)
directory_of table run headings topics room =
    let m : Meaning = meaning_in table in
    let hs : List Part = parts_of headings in
    let ts : List Part = parts_of topics in
    let weights : List ℕ = weights_of table run headings in
    if not (accepted table) then refused 11 0
    else if not (plain_first m.rules) then refused 16 0
    else if not (parts_fit run hs && parts_fit run ts) then refused 17 0
    else if not (every (good_part run) hs && every (good_part run) ts) then refused 12 0
    else if not (good_headings weights) then refused 15 0
    else if ltb room (length ts) then refused 13 0
    else granted (map (heading_of weights) (weights_of table run topics))
