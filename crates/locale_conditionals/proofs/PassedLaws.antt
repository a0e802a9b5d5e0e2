-- A line whose first word is elif, else or endif, as an unused branch tells the words of a line (runs between blanks, with escape pairs left out): its
-- first token is that word, or it is malformed.
use mathlib.Core.Path.{◌≡◌, refl, sym, ap, ◌∙◌}
use mathlib.Core.Logic.{◌⊎◌, inl, inr}
use mathlib.Core.Bool.{Bool, true, false, false≢true}
use mathlib.Core.List.{List, [], ◌∷◌}
use Prim.Native.Nat.{ℕ, ◌≤◌}
use native.Mathlib.Omega.{arith}
use lib.Dec.{eqb, leb}
use borrow.Author.Tests.{eqb-true, leb-true, leb-false, lt-leb}
use Rattle.base_lists.proofs.Bools.{by}
use Rattle.rules.specs.Text.{bytes, every, same, is, ◌unless◌, lower}
use Rattle.rules.specs.Names.{is_blank}
use Rattle.rules.specs.Tokens.{is_text, broken, word, name, as_is, Token, token, no_part, in_word, tokens_from, without_blanks, tokens_of, operands, tokens_refusal, plain_marks}
use Rattle.rules.specs.State.{State, in_collate, Outcome}
use Rattle.rules.specs.Source.{token_line}
use Rattle.text_lines.specs.declared.Signs.{Signs}
use Rattle.text_lines.specs.Stream.{marks_left, line_start}
use Rattle.text_tokens.specs.Left.{word_in, after_word}
use Rattle.text_tokens.proofs.TokenLaws.{in-word, first-dead, first-as-is, first-word, word-whole}
use Rattle.text_tokens.proofs.RefusalLaws.{refusal-broken, refusal-later}
use Rattle.text_operands.proofs.FirstLaws.{starts, starts_first}
use Rattle.text_operands.proofs.ListLaws.{operands-solid}
use Rattle.locale_opening.proofs.CollateLaws.{line_other, line-malformed, whole-tokens}
use Rattle.locale_skips.specs.Words.{first_word, run_in}
use Rattle.locale_skips.proofs.WordLaws.{first_run}
use Rattle.locale_sheet.specs.Words.{is_turn, turns_first, Malformed, TurnLine}

-- ## The word's end

-- a blank comes next, or nothing
abbrev stops : List ℕ → Bool
stops [] = true
stops (m ∷ ms) = is_blank m

-- a blank is a byte with no escape before it
blank-plain : (m : ℕ) → is_blank m ≡ true → leb 256 m ≡ false
blank-plain m b = by (eqb m 32) (λ e. let z = eqb-true m 32 e in rw z) (λ e. let k : eqb m 9 ≡ true = rw e at b in let z = eqb-true m 9 k in rw z)

-- where a word ends before a blank or the line's end, it is the run
word-run : (ms : List ℕ) → stops (after_word ms) ≡ true → run_in (plain_marks ms) ≡ word_in ms
unfolding run_in plain_marks word_in after_word
word-run [] h = refl
word-run (m ∷ ms) h =
    by (in_word m)
    (λ i. let w = in-word m i in rw (i, lt-leb 256 m w.small, w.blank) (ap (λ (x : List ℕ). m ∷ x) (word-run ms (rw i at h))))
    (λ i. let b : is_blank m ≡ true = rw i at h in rw (i, blank-plain m b, b))

-- a token that is no gap
seen : ℕ → Bool
seen k = leb 1 k

solid-operands : (ts : List Token) → starts seen ts ≡ true → tokens_refusal (operands ts) ≡ 3
unfolding starts seen
solid-operands [] h = absurd (false≢true h)
solid-operands (t ∷ ts) h =
    let l = leb-true 1 t.kind h in
    rw (operands-solid t ts (λ e. omega arith)) (refusal-broken (token broken [] []) [] refl)

-- where it ends before anything else, what follows is malformed
glued-operands : (ms : List ℕ) → stops ms ≡ false → tokens_refusal (operands (tokens_from (no_part []) ms)) ≡ 3
unfolding seen
glued-operands [] h = absurd (false≢true (sym h))
glued-operands (m ∷ ms) h =
    solid-operands (tokens_from (no_part []) (m ∷ ms))
    (starts_first seen (record { semi = refl; comma = refl; broken = refl; name = refl; quote = refl }) m ms h (λ i j. refl) (λ i. refl))

-- ## The first token

no-turn : is_turn [] ≡ true → ⊥
unfolding is same bytes
no-turn h = false≢true h

-- the three words begin with an e
turn-head : (m : ℕ) (ms : List ℕ) → is_turn (m ∷ ms) ≡ true → m ≡ 101
unfolding is same bytes
turn-head m ms h = by (eqb m 101) (λ e. eqb-true m 101 e) (λ e. absurd (false≢true (rw e at h)))

-- a line of these tokens is malformed
abbrev Foul : List Token → Type 0
Foul ts = (s : State) (number : ℕ) → in_collate s ≡ true → (token_line s number ts).refusal ≡ 3

dead-tokens : (m : ℕ) (ms : List ℕ) → 256 ≤ m → Foul (tokens_from (no_part []) (m ∷ ms))
dead-tokens m ms h =
    by (leb 512 m)
    (λ e. rw (first-dead m ms (leb-true 512 m e)) (λ s number c. line_other s number c (token broken _ []) (tokens_from (no_part []) ms) refl refl))
    (λ e. rw (first-as-is m ms h (leb-false 512 m e)) (λ s number c. line_other s number c (token as_is _ []) (tokens_from (no_part []) ms) refl refl))

word-tokens : (ms : List ℕ) → is_turn (101 ∷ run_in (plain_marks ms)) ≡ true
    → (turns_first (tokens_from (no_part []) (101 ∷ ms)) ≡ true) ⊎ Foul (tokens_from (no_part []) (101 ∷ ms))
word-tokens ms h =
    let w = token word (101 ∷ word_in ms) [] in
    let rest = tokens_from (no_part []) (after_word ms) in
    let e : tokens_from (no_part []) (101 ∷ ms) ≡ w ∷ rest = first-word 101 ms refl ∙ word-whole (101 ∷ []) ms in
    rw e
    (by (stops (after_word ms))
    (λ t. inl (rw (← word-run ms t) h))
    (λ t. inr (λ s number c. line-malformed s number c w rest (refusal-later w (operands rest) (glued-operands (after_word ms) t)))))

turn-tokens : (marks : List ℕ) → is_turn (run_in (without_blanks (plain_marks marks))) ≡ true → (turns_first (tokens_of marks) ≡ true) ⊎ Foul (tokens_of marks)
unfolding tokens_of without_blanks plain_marks run_in
turn-tokens [] h = absurd (no-turn h)
turn-tokens (m ∷ ms) h =
    by (is_blank m)
    (λ b. rw b (turn-tokens ms (rw (blank-plain m b, b) at h)))
    (λ b. rw b
    (by (leb 256 m)
    (λ d. inr (dead-tokens m ms (leb-true 256 m d)))
    (λ d.
    let k : is_turn (m ∷ run_in (plain_marks ms)) ≡ true = rw (d, b, b) at h in
    let z = turn-head m (run_in (plain_marks ms)) k in
    rw z (word-tokens ms (rw z at k)))))

-- ## The line

foul-marks : (marks : List ℕ) → Foul (tokens_of marks) → Malformed marks
foul-marks marks f s number c = ap (λ (o : Outcome). o.refusal) (whole-tokens s number c marks refl refl) ∙ ap (lower (2 unless every is_text marks)) (f s number c)

-- the line at which an unused branch stops
pub passed-turn : {g : Signs} {src : List ℕ} {at : ℕ} → is_turn (first_word g src (line_start at)) ≡ true → TurnLine g src at
passed-turn {g} {src} {at} h = record { either = go (turn-tokens marks (rw (first_run (plain_marks marks)) at h)) }
  where
    marks : List ℕ
    marks = marks_left g src (line_start at)

    go : (turns_first (tokens_of marks) ≡ true) ⊎ Foul (tokens_of marks) → (turns_first (tokens_of marks) ≡ true) ⊎ Malformed marks
    go (inl x) = inl x
    go (inr x) = inr (foul-marks marks x)
