-- 01, "Inside LC_COLLATE" (ranks and weights) and "Refusals in order": from the lines of a source to the meaning of its table, or a refusal.
use Rattle.std.specs.Prelude.{Bool, not, ◌&&◌, List, [], ◌∷◌, ◌++◌, map, ℕ, suc, ◌+◌, length, ltb, leb, eqb, if◌then◌else◌}
use Rattle.rules.specs.Text.{every, same, lower, Result, granted, refused}
use Rattle.rules.specs.Meaning.{Rule, Item, item, Meaning, size_of}
use Rattle.rules.specs.State.{Declaration, symbol, element, Subject, character, named, undefined, OrderLine, State, start}
use Rattle.rules.specs.OrderLines.{is_symbol, rank_of}
use Rattle.rules.specs.Source.{Ended, lines_from}

-- ## Items

-- the characters of the element of this name
unfoldable pub chars_named : List ℕ → List Declaration → List ℕ
chars_named n [] = []
chars_named n (symbol m ∷ ds) = chars_named n ds
chars_named n (element m cs ∷ ds) = if same n m then cs else chars_named n ds

-- the characters of an item's subject; UNDEFINED has none
unfoldable pub chars_of : List Declaration → Subject → List ℕ
chars_of ds (character c) = c ∷ []
chars_of ds (named n) = chars_named n ds
chars_of ds undefined = []

-- "A weight's number is a rank, never a code point. A weight may name a line further down.": one level's weights as ranks
unfoldable pub ranks_of : List OrderLine → List Subject → List ℕ
ranks_of ls xs = map (rank_of ls) xs

-- a line's weights as ranks, for each level
unfoldable pub line_ranks : List OrderLine → OrderLine → List (List ℕ)
line_ranks ls l = map (ranks_of ls) l.weights

-- an item for each line but a symbol's; a weight's rank is the place of its line among `ranked`
unfoldable pub items_from : List Declaration → List OrderLine → List OrderLine → List Item
items_from ds ranked [] = []
items_from ds ranked (l ∷ ls) =
    let r : List Item = items_from ds ranked ls in
    if is_symbol ds l.subject then r else item (chars_of ds l.subject) (line_ranks ranked l) ∷ r

-- the rank k alone at each level
unfoldable pub levels_of_rank : ℕ → List Rule → List (List ℕ)
levels_of_rank k [] = []
levels_of_rank k (r ∷ rs) = (k ∷ []) ∷ levels_of_rank k rs

-- "With no UNDEFINED line, an unlisted character has at every level the rank one above the last line": UNDEFINED, supplied last
unfoldable pub supplied : List Rule → List OrderLine → List Item
supplied rs ls = if eqb (rank_of ls undefined) 0 then item [] (levels_of_rank (suc (length ls)) rs) ∷ [] else []

-- the levels with their rules, and the items in order
unfoldable pub meaning_of : State → Meaning
meaning_of s =
    let ls : List OrderLine = s.ordered.lines in
    let rs : List Rule = s.ordered.rules in
    record { rules = rs; items = items_from s.declared ls ls ++ supplied rs ls }

-- ## 8: "a weight whose name has no order line"

-- every weight of the line has a rank
unfoldable pub is_ranked : List OrderLine → OrderLine → Bool
is_ranked ls l = every (every (leb 1)) (line_ranks ls l)

-- of the lines with a weight that has none, the number of the one that was written first; 0 for no such line
unfoldable pub unranked : List OrderLine → List OrderLine → ℕ
unranked ranked [] = 0
unranked ranked (l ∷ ls) =
    let r : ℕ = unranked ranked ls in
    if is_ranked ranked l then r else lower l.number r

-- ## The whole

-- "Then 8, by line, then 9."
unfoldable pub finish : ℕ → Ended → Result Meaning
finish area e =
    let ls : List OrderLine = e.state.ordered.lines in
    let m : Meaning = meaning_of e.state in
    if not (eqb e.refusal 0) then refused e.refusal e.line
    else if not (every (is_ranked ls) ls) then refused 8 (unranked ls ls)
    else if ltb area (size_of m) then refused 9 0
    else granted m

-- "1 comes first": the compiler, lent a table area and "a work area of at least one number per source byte plus 64", of so many numbers each
unfoldable pub compile_of : List ℕ → ℕ → ℕ → Result Meaning
compile_of source area work =
    if leb (length source) 1048576 && leb (length source + 64) work then finish area (lines_from start 1 0 source)
    else refused 1 0
