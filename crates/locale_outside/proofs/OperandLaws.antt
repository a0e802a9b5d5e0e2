-- The first token of marks, by their first one; and what follows a line's first token, where only blanks come or more.
use mathlib.Core.Path.{◌≡◌, refl, sym, ◌∙◌}
use mathlib.Core.Bool.{Bool, true, false, not, ◌&&◌, false≢true}
use mathlib.Core.List.{List, [], ◌∷◌}
use Prim.Native.Nat.{ℕ, ◌≤◌}
use native.Mathlib.Omega.{arith}
use lib.ListN.{length}
use lib.Dec.{eqb}
use borrow.Author.Tests.{leb-true, leb-false, ne_eqb, not-true}
use Rattle.base_lists.proofs.Bools.{by, cond_both, and_left, and_right, clash}
use Rattle.rules.specs.Names.{is_blank}
use Rattle.rules.specs.Tokens.{gap, semi, comma, broken, word, name, quote, as_is, Token, token, single, no_part, in_word, tokens_from, without_blanks, is_solid, without_gaps, operands}
use Rattle.text_tokens.specs.Left.{word_in, after_word, only_blanks, NoneTaken}
use Rattle.text_tokens.proofs.TokenLaws.{tokens_from-none, first-gap, first-word, word-whole}
use Rattle.text_operands.proofs.FirstLaws.{starts, starts_first}

-- ## A line's first token

abbrev pub is_no_word : ℕ → Bool
is_no_word k = not (eqb k word)

-- it is no word
pub no_word : (m : ℕ) (ms : List ℕ) → is_blank m ≡ false → in_word m ≡ false → starts is_no_word (tokens_from (no_part []) (m ∷ ms)) ≡ true
no_word m ms b h =
    starts_first is_no_word (record { semi = refl; comma = refl; broken = refl; name = refl; quote = refl }) m ms b (λ e f. refl) (λ e. clash e h)

-- it is the word, and the tokens after it
pub word_first : (m : ℕ) (ms : List ℕ) → in_word m ≡ true
    → tokens_from (no_part []) (m ∷ ms) ≡ token word (word_in (m ∷ ms)) [] ∷ tokens_from (no_part []) (after_word (m ∷ ms))
unfolding word_in after_word
word_first m ms h = first-word m ms h ∙ word-whole (m ∷ []) ms ∙ rw h

-- ## What follows it

-- no blank, and no byte as it stands
abbrev pub is_other : ℕ → Bool
is_other k = not (eqb k gap) && not (eqb k as_is)

other-first : (m : ℕ) (ms : List ℕ) → is_blank m ≡ false → (256 ≤ m → 512 ≤ m) → starts is_other (tokens_from (no_part []) (m ∷ ms)) ≡ true
other-first m ms b d =
    starts_first is_other (record { semi = refl; comma = refl; broken = refl; name = refl; quote = refl }) m ms b
    (λ e f. let h = d (leb-true 256 m f) in let k = leb-false 512 m e in absurd (omega arith)) (λ e. refl)

-- a list of tokens that is led by another token stays so
other-glued : (glued : Bool) (ts : List Token) → starts is_other ts ≡ true → starts is_other (without_gaps glued ts) ≡ true
unfolding starts without_gaps
other-glued glued [] h = absurd (false≢true h)
other-glued glued (t ∷ ts) h =
    let n : eqb t.kind gap ≡ false = not-true (eqb t.kind gap) (and_left (not (eqb t.kind gap)) (not (eqb t.kind as_is)) h) in
    rw n (cond_both (λ (x : List Token). starts is_other x ≡ true) (glued && is_solid t) refl h)

other-operands : (ts : List Token) → starts is_other ts ≡ true → starts is_other (operands ts) ≡ true
unfolding starts operands
other-operands [] h = absurd (false≢true h)
other-operands (t ∷ ts) h =
    let n : eqb t.kind gap ≡ false = not-true (eqb t.kind gap) (and_left (not (eqb t.kind gap)) (not (eqb t.kind as_is)) h) in
    rw n

-- only blanks: no token
pub none_rest : (glued : Bool) (ms : List ℕ) → only_blanks ms ≡ true → without_gaps glued (tokens_from (no_part []) ms) ≡ []
unfolding without_blanks without_gaps
none_rest glued [] h = rw tokens_from-none
none_rest glued (m ∷ ms) h =
    by (is_blank m) (λ b. rw (first-gap m ms b) (none_rest false ms (rw b at h))) (λ b. let z : false ≡ true = rw b at h in absurd (false≢true z))

-- more than blanks
pub some-rest : (glued : Bool) (ms : List ℕ) → only_blanks ms ≡ false → NoneTaken ms → starts is_other (without_gaps glued (tokens_from (no_part []) ms)) ≡ true
unfolding without_blanks without_gaps
some-rest glued [] h d = absurd (false≢true (sym h))
some-rest glued (m ∷ ms) h d =
    by (is_blank m)
    (λ b. rw (first-gap m ms b) (some-rest false ms (rw b at h) (λ k ns e. d k ns (rw b e))))
    (λ b. other-glued glued (tokens_from (no_part []) (m ∷ ms)) (other-first m ms b (d m ms (rw b))))

-- a line's operands
pub none-operands : (ms : List ℕ) → only_blanks ms ≡ true → operands (tokens_from (no_part []) ms) ≡ []
unfolding without_blanks operands
none-operands [] h = rw tokens_from-none
none-operands (m ∷ ms) h =
    by (is_blank m) (λ b. rw (first-gap m ms b) (none_rest false ms (rw b at h))) (λ b. let z : false ≡ true = rw b at h in absurd (false≢true z))

pub some-operands : (ms : List ℕ) → only_blanks ms ≡ false → NoneTaken ms → starts is_other (operands (tokens_from (no_part []) ms)) ≡ true
unfolding without_blanks operands
some-operands [] h d = absurd (false≢true (sym h))
some-operands (m ∷ ms) h d =
    by (is_blank m)
    (λ b. rw (first-gap m ms b) (some-rest false ms (rw b at h) (λ k ns e. d k ns (rw b e))))
    (λ b. other-operands (tokens_from (no_part []) (m ∷ ms)) (other-first m ms b (d m ms (rw b))))

-- ## Operands that are not one byte as it stands

pub other-single : (ts : List Token) → starts is_other ts ≡ true → single as_is ts ≡ false
unfolding starts
other-single [] h = absurd (false≢true h)
other-single (t ∷ []) h = not-true (eqb t.kind as_is) (and_right (not (eqb t.kind gap)) (not (eqb t.kind as_is)) h)
other-single (t ∷ u ∷ ts) h = refl

pub other-some : (ts : List Token) → starts is_other ts ≡ true → eqb (length ts) 0 ≡ false
unfolding starts
other-some [] h = absurd (false≢true h)
other-some (t ∷ ts) h = ne_eqb (length (t ∷ ts)) 0 (λ e. omega arith)

-- one more after it
pub other-more : (t : Token) (ts : List Token) → starts is_other ts ≡ true → single as_is (t ∷ ts) ≡ false
unfolding starts
other-more t [] h = absurd (false≢true h)
other-more t (u ∷ ts) h = refl
