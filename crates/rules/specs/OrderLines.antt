-- 01, "Inside LC_COLLATE": order_start and its rules, the order lines and their weights.
use Rattle.std.specs.Prelude.{Bool, true, false, not, ◌&&◌, ◌||◌, List, [], ◌∷◌, ◌++◌, map, ℕ, suc, ◌+◌, length, ltb, leb, eqb, if◌then◌else◌}
use Rattle.rules.specs.Text.{within, every, one_of, same, is, ◌unless◌, lowest}
use Rattle.rules.specs.Names.{char_shaped, code_of, is_character}
use Rattle.rules.specs.Tokens.{semi, comma, word, name, quote, Token, token_at, the_name, single, is_solid}
use Rattle.rules.specs.Meaning.{Rule}
use Rattle.rules.specs.State.{before_order, in_order, after_order, in_block, Declaration, Subject, character, named, undefined, OrderLine, Ordered, State, with_ordered, in_phase, to_phase, Outcome, gives}
use Rattle.rules.specs.Declarations.{declares, declares_symbol}

-- ## Operands

-- the tokens between `;` and `;`, of which the first has begun with `part`
unfoldable pub split_at : List Token → List Token → List (List Token)
split_at part [] = part ∷ []
split_at part (t ∷ ts) =
    let here : Bool = eqb t.kind semi in
    let r : List (List Token) = split_at (if here then [] else part ++ t ∷ []) ts in
    if here then part ∷ r else r

-- the operands; none where there is no token. What follows a `;` is an operand, if empty (docs/DECISIONS.md)
abbrev pub operand_list : List Token → List (List Token)
operand_list [] = []
operand_list (t ∷ ts) = split_at [] (t ∷ ts)

-- ## order_start

-- 1 forward, 2 backward, 4 position, 0 unknown ("a section name too")
unfoldable pub rule_word : Token → ℕ
rule_word t =
    if not (eqb t.kind word) then 0
    else if is t.text "forward" then 1
    else if is t.text "backward" then 2
    else if is t.text "position" then 4
    else 0

-- "`forward` or `backward`, optionally with `position`, joined by a comma in either order; `position` alone is forward": the same
-- numbers added; 0 where the rule is "unknown .., empty, repeated, or both directions" (4)
unfoldable pub rule_code : List Token → ℕ
rule_code ts =
    let a : ℕ = rule_word (token_at ts 0) in
    let b : ℕ = rule_word (token_at ts 2) in
    if eqb (length ts) 1 then a
    else if not (eqb (length ts) 3 && eqb (token_at ts 1).kind comma) then 0
    else if (eqb a 4 && within 1 2 b) || (within 1 2 a && eqb b 4) then a + b
    else 0

-- the rule of such a number
abbrev pub rule_of : ℕ → Rule
rule_of c = record { backward = eqb c 2 || eqb c 6; position = leb 4 c }

-- "No operand at all means one forward level (POSIX)."
unfoldable pub rule_codes : List Token → List ℕ
rule_codes [] = 1 ∷ []
rule_codes (t ∷ ts) = map rule_code (split_at [] (t ∷ ts))

-- Malformed (docs/DECISIONS.md): two words with no separator between them, and quotes. `after`: a word or name stands right before
unfoldable pub rules_formed : Bool → List Token → Bool
rules_formed after [] = true
rules_formed after (t ∷ ts) = not (after && is_solid t) && not (eqb t.kind quote) && rules_formed (is_solid t) ts

-- "One `order_start r;r;..`, 1 to 8 levels."
unfoldable pub order_start_line : State → List Token → Outcome
order_start_line s ts =
    let cs : List ℕ = rule_codes ts in
    gives
    (lowest (3 unless (in_phase before_order s && rules_formed false ts) ∷ 4 unless every (leb 1) cs ∷ 7 unless leb (length cs) 8 ∷ []))
    (with_ordered (to_phase s in_order) (record { rules = map rule_of cs; lines = []; block = [] }))

-- ## Subjects

-- "`<U0041>` and `<U00000041>` are one character": what a name stands for
unfoldable pub subject_of : List ℕ → Subject
subject_of n = if char_shaped n then character (code_of n) else named n

-- two subjects are the same
unfoldable pub same_subject : Subject → Subject → Bool
same_subject (character c) (character d) = eqb c d
same_subject (character c) (named n) = false
same_subject (character c) undefined = false
same_subject (named m) (character d) = false
same_subject (named m) (named n) = same m n
same_subject (named m) undefined = false
same_subject undefined (character d) = false
same_subject undefined (named n) = false
same_subject undefined undefined = true

-- a character, or a declared name; else "undeclared name; a name or code that is no character where one must stand" (6)
unfoldable pub stands : List Declaration → Subject → Bool
stands ds (character c) = is_character c
stands ds (named n) = one_of (declares n) ds
stands ds undefined = true

-- "a declared symbol"
unfoldable pub is_symbol : List Declaration → Subject → Bool
is_symbol ds (character c) = false
is_symbol ds (named n) = one_of (declares_symbol n) ds
is_symbol ds undefined = false

-- ## Weights

-- a name, or quotes
abbrev pub is_names : Token → Bool
is_names t = eqb t.kind name || eqb t.kind quote

-- "A weight is `IGNORE`, empty, a name, or 1 to 8 names in quotes without separators."
unfoldable pub weight_refusal : List Declaration → List Token → ℕ
weight_refusal ds [] = 0
weight_refusal ds (t ∷ ts) =
    lowest
    (3 unless (eqb (length ts) 0 && (is_names t || is t.text "IGNORE"))
    ∷ 6 unless every (stands ds) (map subject_of t.names)
    ∷ 7 unless leb (length t.names) 8
    ∷ [])

-- the lowest refusal of all operands, of those beyond L too
unfoldable pub weights_refusal : List Declaration → List (List Token) → ℕ
weights_refusal ds ws = lowest (map (weight_refusal ds) ws)

-- the subjects that a weight of the line x gives: "Empty .. means the line itself. IGNORE gives no weight."
unfoldable pub weight_of : Subject → List Token → List Subject
weight_of x [] = x ∷ []
weight_of x (t ∷ ts) = map subject_of t.names

-- one for each rule; "missing at the end means the line itself"
unfoldable pub weights_of : Subject → List Rule → List (List Token) → List (List Subject)
weights_of x [] ws = []
weights_of x (r ∷ rs) [] = (x ∷ []) ∷ weights_of x rs []
weights_of x (r ∷ rs) (w ∷ ws) = weight_of x w ∷ weights_of x rs ws

-- ## Order lines

-- "its place among the used order lines, from 1": that of the line with this subject, the first of these lines being k; 0 for none
unfoldable pub rank_from : ℕ → Subject → List OrderLine → ℕ
rank_from k x [] = 0
rank_from k x (l ∷ ls) =
    let r : ℕ = rank_from (suc k) x ls in
    if same_subject x l.subject then k else r

-- the rank of a subject; 0 for one with no order line
abbrev pub rank_of : List OrderLine → Subject → ℕ
rank_of ls x = rank_from 1 x ls

-- ## Where an order line comes to stand

-- "an item or symbol that already had a line leaves its old place" (02, K1): the lines of other subjects
unfoldable pub taken_out : Subject → List OrderLine → List OrderLine
taken_out x [] = []
taken_out x (l ∷ ls) =
    let r : List OrderLine = taken_out x ls in
    if same_subject x l.subject then r else l ∷ r

-- directly after the line of this subject
unfoldable pub put_after : Subject → OrderLine → List OrderLine → List OrderLine
put_after x l [] = []
put_after x l (m ∷ ls) =
    let r : List OrderLine = put_after x l ls in
    if same_subject x m.subject then m ∷ l ∷ ls else m ∷ r

-- the lines with one more: at the end of the order; in a block "directly after the named line, in their written order" (02, K1), so after the block's last line
unfoldable pub placed : List Subject → OrderLine → List OrderLine → List OrderLine
placed [] l ls = ls ++ l ∷ []
placed (x ∷ xs) l ls = put_after x l (taken_out l.subject ls)

-- the open block with one line more, if one is open
abbrev pub block_with : List Subject → Subject → List Subject
block_with [] y = []
block_with (x ∷ xs) y = y ∷ x ∷ xs

-- "two order lines for one item or symbol"; in a block "an item or symbol twice in one block, or a block that moves its own named line" (5; 02, K1)
unfoldable pub again : List Subject → Subject → List OrderLine → Bool
again [] y ls = not (eqb (rank_of ls y) 0)
again (x ∷ xs) y ls = one_of (same_subject y) (x ∷ xs)

-- "An order line is a declared symbol alone, or a character, a collating element or `UNDEFINED` with weights separated by `;`", in the order or in a block;
-- "undeclared name; a name or code that is no character" (6); "operands beyond L" and "at most 32,767" (7), where a line that moves is not one more
unfoldable pub order_line : State → ℕ → Subject → List Token → Outcome
order_line s number x ts =
    let o : Ordered = s.ordered in
    let ws : List (List Token) = operand_list ts in
    gives
    (lowest
    (3 unless ((in_phase in_order s || in_phase in_block s) && (eqb (length ts) 0 || not (is_symbol s.declared x)))
    ∷ weights_refusal s.declared ws
    ∷ 5 unless not (again o.block x o.lines)
    ∷ 6 unless stands s.declared x
    ∷ 7 unless (leb (length ws) (length o.rules) && ltb (length (taken_out x o.lines)) 32767)
    ∷ []))
    (with_ordered s
    (record {
      rules = o.rules;
      lines = placed o.block (record { number = number; subject = x; weights = weights_of x o.rules ws }) o.lines;
      block = block_with o.block x;
    }))

-- ## Blocks (02, K1): "Between order_end and END we need blocks `reorder-after <name>`, order lines, `reorder-end`"

-- `reorder-after <name>`, which also ends the block before it; "6 for a named line that does not stand"
unfoldable pub reorder_after_line : State → List Token → Outcome
reorder_after_line s ts =
    let o : Ordered = s.ordered in
    let x : Subject = subject_of (the_name (token_at ts 0)) in
    gives
    (lowest (3 unless ((in_phase after_order s || in_phase in_block s) && single name ts) ∷ 6 unless leb 1 (rank_of o.lines x) ∷ []))
    (with_ordered (to_phase s in_block) (record { rules = o.rules; lines = o.lines; block = x ∷ [] }))

-- `reorder-end`
unfoldable pub reorder_end_line : State → List Token → Outcome
reorder_end_line s ts =
    gives
    (3 unless (in_phase in_block s && eqb (length ts) 0))
    (with_ordered (to_phase s after_order) (record { rules = s.ordered.rules; lines = s.ordered.lines; block = [] }))
