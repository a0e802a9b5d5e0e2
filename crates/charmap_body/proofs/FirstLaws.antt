-- The first token of a line by the word that its marks open with, and tokens without gaps.
use mathlib.Core.Path.{◌≡◌, refl, sym, ap, ◌∙◌}
use mathlib.Core.Bool.{Bool, true, false, ◌&&◌}
use mathlib.Core.List.{List, [], ◌∷◌, ◌++◌}
use Prim.Native.Nat.{ℕ, suc, ◌-◌, ◌%◌, ◌<◌}
use native.Mathlib.Omega.{arith}
use lib.ListN.{length}
use lib.Dec.{eqb, leb}
use borrow.Author.Tests.{eqb-true, ne_eqb}
use Rattle.base_lists.proofs.Bools.{by, clash, cond_both, cond-by}
use Rattle.rules.specs.Names.{is_blank}
use Rattle.rules.specs.Tokens.{gap, semi, comma, broken, word, name, quote, as_is, Token, token, token_at, no_part, Lexed, lexed, lex_none, quoted_part, in_word, lex, lex_end, tokens_from, without_blanks, is_solid, without_gaps, without_opening_gaps}
use Rattle.text_tokens.specs.Left.{word_in, after_word}
use Rattle.text_tokens.proofs.TokenLaws.{tokens_from-out, first-word, word-whole}
use Rattle.text_tokens.proofs.GapLaws.{opening-gaps}

-- ## The first token

-- marks that open with a word: it is the first token
pub worded : (ms : List ℕ) → 0 < length (word_in ms) → tokens_from (no_part []) ms ≡ token word (word_in ms) [] ∷ tokens_from (no_part []) (after_word ms)
unfolding word_in after_word
worded [] h = absurd (omega arith)
worded (m ∷ ms) h =
    by (in_word m) (λ t. rw t (first-word m ms t ∙ word-whole (m ∷ []) ms))
    (λ t. let z : 0 < length {A = ℕ} [] = rw t at h in absurd (omega arith))

-- A token that is no word, and has a byte at most.
pub record Dull (t : Token) : Type 0 where
  pub kind : eqb t.kind word ≡ false
  pub text : leb (length t.text) 1 ≡ true

-- the first is such a token
abbrev Opens : List Token → Type 0
Opens ts = Dull (token_at ts 0)

dull-token : (t : Token) (ms : List ℕ) → Dull t → Opens (tokens_from (no_part (t ∷ [])) ms)
dull-token t ms d = rw (tokens_from-out (t ∷ []) gap [] [] ms) d

dull-name : (t : List ℕ) (ms : List ℕ) → Opens (tokens_from (lexed [] name t []) ms)
unfolding tokens_from lex lex_end
dull-name t [] = record { kind = refl; text = refl }
dull-name t (m ∷ ms) =
    cond_both (λ (l : Lexed). Opens (tokens_from l ms)) (eqb m 62) (dull-token (token name [] (t ∷ [])) ms (record { kind = refl; text = refl })) (dull-name (t ++ m % 256 ∷ []) ms)

-- in quotes, and in a name in quotes
dull-quotes : (t : List ℕ) (ns : List (List ℕ)) (ms : List ℕ) → Opens (tokens_from (lexed [] quote [] ns) ms) × Opens (tokens_from (lexed [] quoted_part t ns) ms)
unfolding tokens_from lex lex_end
dull-quotes t ns [] = (record { kind = refl; text = refl }, record { kind = refl; text = refl })
dull-quotes t ns (m ∷ ms) =
    let P : Lexed → Type 0 = λ l. Opens (tokens_from l ms) in (
      cond_both P (eqb m 34) (dull-token (token quote [] ns) ms (record { kind = refl; text = refl }))
          (cond_both P (eqb m 60) (dull-quotes [] ns ms).1
          (rw (tokens_from-out (token broken [] [] ∷ []) quote [] ns ms) (record { kind = refl; text = refl }))),
      cond_both P (eqb m 62) (dull-quotes t (ns ++ t ∷ []) ms).0 (dull-quotes (t ++ m % 256 ∷ []) ns ms).1,
    )

dull-mark : (m : ℕ) (ms : List ℕ) → in_word m ≡ false → Opens (tokens_from (no_part []) (m ∷ ms))
unfolding tokens_from lex lex_none
dull-mark m ms n =
    let P : Lexed → Type 0 = λ l. Opens (tokens_from l ms) in
    cond-by P (is_blank m) (λ a. dull-token (token gap [] []) ms (record { kind = refl; text = refl })) (λ a.
    cond-by P (eqb m 59) (λ b. dull-token (token semi [] []) ms (record { kind = refl; text = refl })) (λ b.
    cond-by P (eqb m 44) (λ c. dull-token (token comma [] []) ms (record { kind = refl; text = refl })) (λ c.
    cond-by P (eqb m 60) (λ d. dull-name [] ms) (λ d.
    cond-by P (eqb m 34) (λ e. (dull-quotes [] [] ms).0) (λ e.
    cond-by P (leb 512 m) (λ f. dull-token (token broken ((m - 512) ∷ []) []) ms (record { kind = refl; text = refl })) (λ f.
    cond-by P (leb 256 m) (λ i. dull-token (token as_is ((m - 256) ∷ []) []) ms (record { kind = refl; text = refl })) (λ i.
    let k : in_word m ≡ true = rw (a, b, c, d, e, i) in clash k n)))))))

-- marks that open with no word
pub dull-first : (ms : List ℕ) → word_in ms ≡ [] → Opens (tokens_from (no_part []) ms)
unfolding word_in tokens_from lex_end
dull-first [] e = record { kind = refl; text = refl }
dull-first (m ∷ ms) e =
    by (in_word m) (λ t. let z : length (word_in (m ∷ ms)) ≡ 0 = ap length e in let y : suc (length (word_in ms)) ≡ 0 = rw t at z in absurd (omega arith))
    (λ t. dull-mark m ms t)

-- ## Gaps

-- the first token after the gaps that open a line is none
pub opening-head : (ts : List Token) (t : Token) (us : List Token) → without_opening_gaps ts ≡ t ∷ us → eqb t.kind gap ≡ false
unfolding without_opening_gaps
opening-head [] t us e = let z : 0 ≡ suc (length us) = ap length e in absurd (omega arith)
opening-head (x ∷ xs) t us e =
    by (eqb x.kind gap) (λ b. opening-head xs t us (rw b at e))
    (λ b. let h : x ∷ xs ≡ t ∷ us = rw b at e in ap (λ (l : List Token). eqb (token_at l 0).kind gap) (sym h) ∙ b)

gap-loose : (t : Token) → eqb t.kind gap ≡ true → is_solid t ≡ false
gap-loose t b = ap (λ (k : ℕ). leb broken k) (eqb-true t.kind gap b)

-- gaps that open a line are left out with the others
pub gaps-first : (ts : List Token) → without_gaps false ts ≡ without_gaps false (without_opening_gaps ts)
unfolding without_gaps without_opening_gaps
gaps-first [] = refl
gaps-first (t ∷ ts) =
    by (eqb t.kind gap) (λ b. rw (b, gap-loose t b) (gaps-first ts))
    (λ b. let h : without_opening_gaps (t ∷ ts) ≡ t ∷ ts = rw b in sym (ap (λ (l : List Token). without_gaps false l) h))

pub cons-some : (t : Token) (ts : List Token) → eqb (length (t ∷ ts)) 0 ≡ false
cons-some t ts = ne_eqb (suc (length ts)) 0 (λ e. omega arith)

-- no token is left exactly where there are gaps only
pub gaps-only : (glued : Bool) (ts : List Token) → eqb (length (without_gaps glued ts)) 0 ≡ eqb (length (without_opening_gaps ts)) 0
unfolding without_gaps without_opening_gaps
gaps-only glued [] = refl
gaps-only glued (t ∷ ts) =
    let r : List Token = without_gaps (is_solid t) ts in
    by (eqb t.kind gap) (λ b. rw b (gaps-only (is_solid t) ts))
    (λ b. rw b
    (cond_both (λ (l : List Token). eqb (length l) 0 ≡ false) (glued && is_solid t) (cons-some (token broken [] []) (t ∷ r)) (cons-some t r)
    ∙ sym (cons-some t ts)))

-- a mark that is no blank opens no gap
pub solid-first : (m : ℕ) (ms : List ℕ) → is_blank m ≡ false → without_opening_gaps (tokens_from (no_part []) (m ∷ ms)) ≡ tokens_from (no_part []) (m ∷ ms)
unfolding without_blanks
solid-first m ms b = sym (opening-gaps (m ∷ ms)) ∙ rw b
