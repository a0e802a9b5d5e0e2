-- Every line that is not refused keeps what holds between two lines (StateLaws), so the lines of a source that is not refused do (specs/Source).
use Rattle.std.specs.Prelude.{if◌then◌else◌}
use mathlib.Core.Path.{◌≡◌, refl, sym}
use mathlib.Core.Bool.{Bool, true, false, not, ◌&&◌, ◌||◌, false≢true}
use mathlib.Core.List.{List, [], ◌∷◌}
use Prim.Native.Nat.{ℕ, zero, suc, pred, ◌+◌}
use lib.ListN.{length, get_or}
use lib.Dec.{eqb, lit<}
use native.Mathlib.Omega.{arith}
use borrow.Author.Tests.{eq-eqb, eqb-true, le-leb, ne_eqb}
use Rattle.base_lists.proofs.Bools.{and_left, and_right, clash, by, cond_both, cond-by}
use Rattle.rules.specs.Text.{within, is, same}
use Rattle.rules.specs.Tokens.{word, name, Token, token_at, the_name, single, tokens_of, operands, tokens_refusal, plain_marks, words_of}
use Rattle.rules.specs.Lines.{line_of}
use Rattle.rules.specs.State.{between_categories, in_other_category, before_order, in_order, after_order, in_block, undefined, Subject, State, start, with_ordered, in_phase, to_phase, in_collate, gives}
use Rattle.rules.specs.Conditionals.{define_line, if_line, elif_line, is_unused}
use Rattle.rules.specs.OrderLines.{subject_of, reorder_after_line, reorder_end_line}
use Rattle.rules.specs.Source.{category_line, sign_line, outside_line, order_end_line, end_line, collate_line, token_line, whole_line, other_line, unused_line, line_outcome, Ended, signs, lines_from}
use Rattle.rules.proofs.TextLaws.{unless-none, lower-none, lowest-unless}
use Rattle.rules.proofs.StateLaws.{IsSound, LeavesSound, symbol_line-sound, element_line-sound, order_start_line-sound, order_line-sound}

-- a line that leaves a sound state
gives-sound : (r : ℕ) (s : State) → IsSound s → LeavesSound (gives r s)
unfolding LeavesSound
gives-sound r s h e = h

-- ## Lines that touch neither the declarations nor the order

define_line-sound : (s : State) (b : Bool) (ts : List Token) → IsSound s → LeavesSound (define_line s b ts)
unfolding define_line
define_line-sound s b ts h = gives-sound _ _ h

if_line-sound : (s : State) (b : Bool) (ts : List Token) → IsSound s → LeavesSound (if_line s b ts)
unfolding if_line
if_line-sound s b ts h = gives-sound _ _ h

elif_line-sound : (s : State) (ts : List Token) → IsSound s → LeavesSound (elif_line s ts)
unfolding elif_line
elif_line-sound s ts h = gives-sound _ _ h

sign_line-sound : (s : State) (b : Bool) (ts : List Token) → IsSound s → LeavesSound (sign_line s b ts)
unfolding sign_line
sign_line-sound s b ts h = gives-sound _ _ h

-- moving on from any phase but before_order
to_phase-sound : (s : State) (p : ℕ) → IsSound s → in_phase before_order s ≡ false → IsSound (to_phase s p)
to_phase-sound s p h e = record { elements = h.elements; lines = h.lines; few = h.few; ruled = λ c q. h.ruled c e }

-- a phase is no other
in_phase-other : (s : State) (p q : ℕ) → in_phase p s ≡ true → eqb p q ≡ false → in_phase q s ≡ false
in_phase-other s p q h e = rw (eqb-true s.place.phase p h) e

order_end_line-sound : (s : State) (ts : List Token) → IsSound s → LeavesSound (order_end_line s ts)
unfolding LeavesSound
order_end_line-sound s ts h e =
    let t = unless-none 3 (in_phase in_order s && eqb (length ts) 0) (lit< tt) e in
    to_phase-sound s after_order h (in_phase-other s in_order before_order (and_left _ _ t) refl)

end_line-sound : (s : State) (ts : List Token) → IsSound s → LeavesSound (end_line s ts)
unfolding LeavesSound end_line
end_line-sound s ts h e =
    let test = in_phase after_order s && eqb (length s.blocks.chains) 0 && single word ts && is (token_at ts 0).text "LC_COLLATE" in
    let t = unless-none 3 test (lit< tt) e in
    to_phase-sound s between_categories h (in_phase-other s after_order before_order (and_left _ _ (and_left _ _ (and_left _ _ t))) refl)

-- the lines and the rules stay, whatever block is open
block-sound : (s : State) (b : List Subject) → IsSound s → IsSound (with_ordered s (record { rules = s.ordered.rules; lines = s.ordered.lines; block = b }))
block-sound s b h = record { elements = h.elements; lines = h.lines; few = h.few; ruled = h.ruled }

reorder_end_line-sound : (s : State) (ts : List Token) → IsSound s → LeavesSound (reorder_end_line s ts)
unfolding LeavesSound reorder_end_line
reorder_end_line-sound s ts h e =
    let t = unless-none 3 (in_phase in_block s && eqb (length ts) 0) (lit< tt) e in
    block-sound (to_phase s after_order) [] (to_phase-sound s after_order h (in_phase-other s in_block before_order (and_left _ _ t) refl))

reorder_after_line-sound : (s : State) (ts : List Token) → IsSound s → LeavesSound (reorder_after_line s ts)
unfolding LeavesSound reorder_after_line
reorder_after_line-sound s ts h e =
    let x = subject_of (the_name (token_at ts 0)) in
    let t = lowest-unless 3 ((in_phase after_order s || in_phase in_block s) && single name ts) _ (lit< tt) e in
    let before : in_phase before_order s ≡ false =
    by (in_phase after_order s)
    (λ p. in_phase-other s after_order before_order p refl)
    (λ p. in_phase-other s in_block before_order (rw p at (and_left (in_phase after_order s || in_phase in_block s) (single name ts) t.0)) refl) in
    block-sound (to_phase s in_block) (x ∷ []) (to_phase-sound s in_block h before)

-- ## Lines outside LC_COLLATE

-- no line outside LC_COLLATE stands before its order
outside-other : (s : State) → in_collate s ≡ false → in_phase before_order s ≡ false
outside-other s h = ne_eqb s.place.phase before_order (λ e. clash (le-leb before_order s.place.phase (omega arith)) h)

-- LC_COLLATE opens before its order; another category leaves the rules as they were
ruled-after : {X : Type 0} (collate collated : Bool) → (collated ≡ true → X)
    → (collate || collated) ≡ true → eqb (if collate then before_order else in_other_category) before_order ≡ false → X
ruled-after true collated f c p = absurd (false≢true (sym p))
ruled-after false collated f c p = f c

category_line-sound : (s : State) (w : List ℕ) (ts : List Token) → IsSound s → in_collate s ≡ false → LeavesSound (category_line s w ts)
unfolding LeavesSound category_line
category_line-sound s w ts h c e =
    record {
      elements = h.elements;
      lines = h.lines;
      few = h.few;
      ruled = ruled-after (is w "LC_COLLATE") s.place.collated (λ c'. h.ruled c' (outside-other s c));
    }

outside_line-sound : (s : State) (w : List ℕ) (ts : List Token) → IsSound s → in_collate s ≡ false → LeavesSound (outside_line s w ts)
unfolding outside_line
outside_line-sound s w ts h c =
    cond_both LeavesSound (is w "comment_char") (sign_line-sound s true ts h)
    (cond_both LeavesSound (is w "escape_char") (sign_line-sound s false ts h) (category_line-sound s w ts h c))

-- ## Lines in LC_COLLATE

collate_line-sound : (s : State) (number : ℕ) (w : List ℕ) (ts : List Token) → IsSound s → LeavesSound (collate_line s number w ts)
unfolding collate_line
collate_line-sound s number w ts h =
    cond_both LeavesSound (is w "define") (define_line-sound s true ts h)
    (cond_both LeavesSound (is w "undef") (define_line-sound s false ts h)
    (cond_both LeavesSound (is w "ifdef") (if_line-sound s true ts h)
    (cond_both LeavesSound (is w "ifndef") (if_line-sound s false ts h)
    (cond_both LeavesSound (is w "elif") (elif_line-sound s ts h)
    (cond_both LeavesSound (is w "else") (gives-sound _ _ h)
    (cond_both LeavesSound (is w "endif") (gives-sound _ _ h)
    (cond_both LeavesSound (is w "collating-symbol") (symbol_line-sound s ts h)
    (cond_both LeavesSound (is w "collating-element") (element_line-sound s ts h)
    (cond_both LeavesSound (is w "order_start") (order_start_line-sound s ts h)
    (cond_both LeavesSound (is w "order_end") (order_end_line-sound s ts h)
    (cond_both LeavesSound (is w "UNDEFINED") (order_line-sound s number undefined ts h)
    (cond_both LeavesSound (is w "reorder-after") (reorder_after_line-sound s ts h)
    (cond_both LeavesSound (is w "reorder-end") (reorder_end_line-sound s ts h)
    (cond_both LeavesSound (is w "END") (end_line-sound s ts h) (gives-sound _ _ h)))))))))))))))

-- ## A line that is read whole

token_line-sound : (s : State) (number : ℕ) (ts : List Token) → IsSound s → LeavesSound (token_line s number ts)
unfolding LeavesSound token_line
token_line-sound s number [] h e = h
token_line-sound s number (t ∷ ts) h e =
    let os : List Token = operands ts in
    cond_both LeavesSound (eqb t.kind word)
    (cond-by LeavesSound (in_collate s) (λ c. collate_line-sound s number t.text os h) (outside_line-sound s t.text os h))
    (cond_both LeavesSound (eqb t.kind name && in_collate s) (order_line-sound s number (subject_of (the_name t)) os h) (gives-sound 3 s h))
    (lower-none (tokens_refusal (t ∷ os)) _ e).1

whole_line-sound : (s : State) (number : ℕ) (marks : List ℕ) → IsSound s → LeavesSound (whole_line s number marks)
unfolding LeavesSound whole_line
whole_line-sound s number marks h e = token_line-sound s number (tokens_of marks) h (lower-none _ _ e).1

-- ## Passed-over lines

other_line-sound : (s : State) (ws : List (List ℕ)) → IsSound s → in_phase in_other_category s ≡ true → LeavesSound (other_line s ws)
unfolding LeavesSound other_line
other_line-sound s ws h p e =
    cond_both IsSound (eqb (length ws) 2 && is (get_or ws 0 []) "END" && same (get_or ws 1 []) s.place.category)
    (to_phase-sound s between_categories h (in_phase-other s in_other_category before_order p refl)) h

unused_line-sound : (s : State) (number : ℕ) (w marks : List ℕ) → IsSound s → LeavesSound (unused_line s number w marks)
unfolding unused_line
unused_line-sound s number w marks h =
    let own : Bool = eqb s.blocks.inner 0 in
    cond_both LeavesSound (is w "ifdef" || is w "ifndef") (gives-sound _ _ h)
    (cond_both LeavesSound (is w "endif" && not own) (gives-sound _ _ h)
    (cond_both LeavesSound (own && (is w "elif" || is w "else" || is w "endif")) (whole_line-sound s number marks h) (gives-sound _ _ h)))

-- ## All lines

line_outcome-sound : (s : State) (number : ℕ) (marks : List ℕ) → IsSound s → LeavesSound (line_outcome s number marks)
unfolding line_outcome
line_outcome-sound s number marks h =
    let ws : List (List ℕ) = words_of [] (plain_marks marks) in
    cond-by LeavesSound (in_phase in_other_category s) (other_line-sound s ws h) (λ p.
    cond_both LeavesSound (is_unused s) (unused_line-sound s number (get_or ws 0 []) marks h) (whole_line-sound s number marks h))

-- What a source that is not refused has left: a sound state, and 1 to 8 rules.
pub record EndsSound (s : State) : Type 0 where
  pub sound : IsSound s
  pub ruled : within 1 8 (length s.ordered.rules) ≡ true

abbrev Whole : Ended → Type 0
Whole r = r.refusal ≡ 0 → EndsSound r.state

-- the lines from a sound state on, if none is refused
pub lines_from-sound : (s : State) (number k : ℕ) (bs : List ℕ) → IsSound s
    → (lines_from s number k bs).refusal ≡ 0 → EndsSound (lines_from s number k bs).state
unfolding LeavesSound lines_from
lines_from-sound s number k [] h =
    let between : Bool = in_phase between_categories s in
    let collated : Bool = s.place.collated in
    cond-by Whole (between && collated) (λ t e.
    let ordered = in_phase-other s between_categories before_order (and_left between collated t) refl in
    record { sound = h; ruled = h.ruled (and_right between collated t) ordered })
    (λ t e. absurd (omega arith))
lines_from-sound s number (suc k) (b ∷ bs) h = lines_from-sound s number k bs h
lines_from-sound s number zero (b ∷ bs) h =
    let l = line_of (signs s) (b ∷ bs) in
    let o = line_outcome s number l.marks in
    cond-by Whole (eqb o.refusal 0)
    (λ t. lines_from-sound o.state (number + l.feeds) (pred l.size) bs (line_outcome-sound s number l.marks h (eqb-true o.refusal 0 t)))
    (λ t e. clash (eq-eqb o.refusal 0 e) t)

pub start-sound : IsSound start
start-sound = record { elements = tt; lines = tt; few = omega arith; ruled = λ c p. absurd (false≢true c) }
