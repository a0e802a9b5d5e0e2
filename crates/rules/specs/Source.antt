-- 01, "Reading lines" (categories), "Inside LC_COLLATE" (which line is which; passed-over lines): a locale source, line after line.
use Rattle.std.specs.Prelude.{Bool, true, false, not, ◌&&◌, ◌||◌, List, [], ◌∷◌, ℕ, zero, suc, pred, ◌+◌, length, get_or, ltb, eqb, if◌then◌else◌}
use Rattle.rules.specs.Text.{bytes, within, every, same, is, begins, ◌unless◌, lower}
use Rattle.rules.specs.Tokens.{is_text, word, name, Token, token_at, the_name, single, tokens_of, operands, tokens_refusal, plain_marks, words_of}
use Rattle.rules.specs.Lines.{Signs, Scan, line_of, sign_refusal, sign_set}
use Rattle.rules.specs.State.{before_categories, between_categories, in_other_category, before_order, in_order, after_order, undefined, Blocks, State, with_chars, with_place, with_blocks, in_phase, to_phase, is_outside, in_collate, Outcome, gives}
use Rattle.rules.specs.Conditionals.{blocks, define_line, if_line, elif_line, else_line, endif_line, is_unused}
use Rattle.rules.specs.Declarations.{symbol_line, element_line}
use Rattle.rules.specs.OrderLines.{order_start_line, subject_of, order_line, reorder_after_line, reorder_end_line}

-- ## Lines outside LC_COLLATE

-- "capitals or underscores"
abbrev pub is_capital : ℕ → Bool
is_capital b = within 65 90 b || eqb b 95

-- "a line `LC_` plus 1 to 29 capitals or underscores opens a category"; "Exactly one LC_COLLATE must stand."
unfoldable pub category_line : State → List ℕ → List Token → Outcome
category_line s w ts =
    let collate : Bool = is w "LC_COLLATE" in
    gives
    (3 unless (eqb (length ts) 0 && begins (bytes "LC_") w && within 4 32 (length w) && every is_capital w && not (collate && s.place.collated)))
    (with_place s (record { phase = if collate then before_order else in_other_category; category = w; collated = collate || s.place.collated }))

-- "before any category"
unfoldable pub sign_line : State → Bool → List Token → Outcome
sign_line s isComment ts =
    gives (lower (3 unless in_phase before_categories s) (sign_refusal s.chars isComment ts)) (with_chars s (sign_set s.chars isComment ts))

-- by its first word
unfoldable pub outside_line : State → List ℕ → List Token → Outcome
outside_line s w ts =
    if is w "comment_char" then sign_line s true ts
    else if is w "escape_char" then sign_line s false ts
    else category_line s w ts

-- ## Lines in LC_COLLATE

-- "Order lines, then `order_end`."
abbrev pub order_end_line : State → List Token → Outcome
order_end_line s ts = gives (3 unless (in_phase in_order s && eqb (length ts) 0)) (to_phase s after_order)

-- END LC_COLLATE, after the order and outside every block and every chain ("open conditional" is 3)
unfoldable pub end_line : State → List Token → Outcome
end_line s ts =
    gives
    (3 unless (in_phase after_order s && eqb (length s.blocks.chains) 0 && single word ts && is (token_at ts 0).text "LC_COLLATE"))
    (to_phase s between_categories)

-- by its first word
unfoldable pub collate_line : State → ℕ → List ℕ → List Token → Outcome
collate_line s number w ts =
    if is w "define" then define_line s true ts
    else if is w "undef" then define_line s false ts
    else if is w "ifdef" then if_line s true ts
    else if is w "ifndef" then if_line s false ts
    else if is w "elif" then elif_line s ts
    else if is w "else" then else_line s ts
    else if is w "endif" then endif_line s ts
    else if is w "collating-symbol" then symbol_line s ts
    else if is w "collating-element" then element_line s ts
    else if is w "order_start" then order_start_line s ts
    else if is w "order_end" then order_end_line s ts
    else if is w "UNDEFINED" then order_line s number undefined ts
    else if is w "reorder-after" then reorder_after_line s ts
    else if is w "reorder-end" then reorder_end_line s ts
    else if is w "END" then end_line s ts
    else gives 3 s

-- ## A line that is read whole

-- by its tokens: "Blank lines are ignored."
unfoldable pub token_line : State → ℕ → List Token → Outcome
token_line s number [] = gives 0 s
token_line s number (t ∷ ts) =
    let os : List Token = operands ts in
    let o : Outcome =
    if eqb t.kind word then (if in_collate s then collate_line s number t.text os else outside_line s t.text os)
    else if eqb t.kind name && in_collate s then order_line s number (subject_of (the_name t)) os
    else gives 3 s in
    gives (lower (tokens_refusal (t ∷ os)) o.refusal) o.state

-- "byte outside 20 to 7E, tab and LF, outside comments and passed-over lines" (2)
unfoldable pub whole_line : State → ℕ → List ℕ → Outcome
whole_line s number marks =
    let o : Outcome = token_line s number (tokens_of marks) in
    gives (lower (2 unless every is_text marks) o.refusal) o.state

-- ## Passed-over lines

-- "Another category looks only for its own `END` line"
unfoldable pub other_line : State → List (List ℕ) → Outcome
other_line s ws =
    gives 0
    (if eqb (length ws) 2 && is (get_or ws 0 []) "END" && same (get_or ws 1 []) s.place.category then to_phase s between_categories else s)

-- "an unused branch only for conditional keywords opening a line: inner chains are only counted, its own chain's lines read whole. An
-- `END LC_COLLATE` there ends nothing."; "nest at most 8 deep", there too (docs/DECISIONS.md)
unfoldable pub unused_line : State → ℕ → List ℕ → List ℕ → Outcome
unused_line s number w marks =
    let b : Blocks = s.blocks in
    let own : Bool = eqb b.inner 0 in
    if is w "ifdef" || is w "ifndef"
    then gives (7 unless ltb (length b.chains + b.inner) 8) (with_blocks s (blocks b.chains (suc b.inner) b.toggles))
    else if is w "endif" && not own then gives 0 (with_blocks s (blocks b.chains (pred b.inner) b.toggles))
    else if own && (is w "elif" || is w "else" || is w "endif") then whole_line s number marks
    else gives 0 s

-- ## All lines

-- a line, by where it stands
unfoldable pub line_outcome : State → ℕ → List ℕ → Outcome
line_outcome s number marks =
    let ws : List (List ℕ) = words_of [] (plain_marks marks) in
    if in_phase in_other_category s then other_line s ws
    else if is_unused s then unused_line s number (get_or ws 0 []) marks
    else whole_line s number marks

-- The state at the end, or a refusal and its line.
pub record Ended : Type 0 where
  pub refusal : ℕ
  pub line : ℕ
  pub state : State

-- a refusal, or 0, with its line, and a state
abbrev pub ended : ℕ → ℕ → State → Ended
ended r l s = record { refusal = r; line = l; state = s }

-- what is in force for the next line (Lines)
abbrev pub signs : State → Signs
signs s = record {
  comment = s.chars.comment;
  escape = s.chars.escape;
  outside = is_outside s;
  header = false;
  body = false;
}

-- "for a missing end or category, the count of LFs plus 1"
abbrev pub at_end : State → ℕ → Ended
at_end s number = if in_phase between_categories s && s.place.collated then ended 0 0 s else ended 3 number s

-- the lines from line `number` on; the first k bytes belong to a line that is already read; "A refusal carries the number of the first physical line"
unfoldable pub lines_from : State → ℕ → ℕ → List ℕ → Ended
lines_from s number k [] = at_end s number
lines_from s number (suc k) (b ∷ bs) = lines_from s number k bs
lines_from s number zero (b ∷ bs) =
    let l : Scan = line_of (signs s) (b ∷ bs) in
    let o : Outcome = line_outcome s number l.marks in
    let r : Ended = lines_from o.state (number + l.feeds) (pred l.size) bs in
    if eqb o.refusal 0 then r else ended o.refusal number s
