-- Blanks: a line's tokens without the gaps that open them, and the walk past the blanks at a spot.
use Rattle.std.specs.Prelude.{None, Option, Some, ℕ}
use mathlib.Core.Path.{◌≡◌, refl, sym, ◌∙◌, subst}
use mathlib.Core.Bool.{true, false}
use mathlib.Core.Logic.{◌⊎◌, inl, inr}
use mathlib.Core.List.{List, [], ◌∷◌, ◌++◌}
use Prim.Native.Nat.{ℕ, ◌-◌, ◌%◌, ◌≤◌}
use native.Mathlib.Omega.{arith}
use lib.ListN.{length}
use lib.Dec.{eqb, leb}
use borrow.Author.Tests.{ne_eqb}
use Rattle.base_lists.proofs.Bools.{by, cond_both}
use Rattle.rules.specs.Names.{is_blank}
use Rattle.rules.specs.Lines.{in_plain, after}
use Rattle.rules.specs.Tokens.{gap, semi, comma, broken, word, name, quote, as_is, Token, token, no_part, Lexed, lexed, lex_none, quoted_part, lex, lex_end, tokens_from, without_blanks, without_opening_gaps, tokens_of}
use Rattle.text_lines.specs.declared.Signs.{Signs}
use Rattle.text_lines.specs.declared.Spot.{Spot}
use Rattle.text_lines.specs.Stream.{marks_left, Walk, MarkIs, StepIs}
use Rattle.text_lines.proofs.RunLaws.{walk_none, walk-then, mark-walk}
use Rattle.text_tokens.specs.Left.{tokens_left, Skips}
use Rattle.text_tokens.proofs.TokenLaws.{tokens_from-out, first-gap, word-whole, tokens_from-none}

-- ## The gaps that open a line

-- A token that is no gap opens them.
pub record Kept (ts : List Token) : Type 0 where
  pub opens : Token
  pub rest : List Token
  pub whole : ts ≡ opens ∷ rest
  pub seen : opens.kind ≡ gap → ⊥

kept_cons : (t : Token) (ts : List Token) → (t.kind ≡ gap → ⊥) → Kept (t ∷ ts)
kept_cons t ts h = record { opens = t; rest = ts; whole = refl; seen = h }

kept_same : {ts : List Token} → Kept ts → without_opening_gaps ts ≡ ts
unfolding without_opening_gaps
kept_same k = rw k.whole (simp (ne_eqb k.opens.kind gap k.seen))

-- after a whole token that is no gap
kept-token : (t : Token) (ms : List ℕ) → (t.kind ≡ gap → ⊥) → Kept (tokens_from (no_part (t ∷ [])) ms)
kept-token t ms h = rw (tokens_from-out (t ∷ []) gap [] [] ms) (kept_cons t (tokens_from (no_part []) ms) h)

kept_word : (t : List ℕ) (ms : List ℕ) → Kept (tokens_from (lexed [] word t []) ms)
kept_word t ms = rw (word-whole t ms) (kept_cons _ _ (λ e. omega arith))

kept-name : (t : List ℕ) (ms : List ℕ) → Kept (tokens_from (lexed [] name t []) ms)
unfolding tokens_from lex lex_end
kept-name t [] = kept_cons (token broken [] []) [] (λ e. omega arith)
kept-name t (m ∷ ms) =
    cond_both (λ (l : Lexed). Kept (tokens_from l ms)) (eqb m 62) (kept-token (token name [] (t ∷ [])) ms (λ e. omega arith)) (kept-name (t ++ m % 256 ∷ []) ms)

-- in quotes, and in a name in quotes
kept-quotes : (t : List ℕ) (ns : List (List ℕ)) (ms : List ℕ) → Kept (tokens_from (lexed [] quote [] ns) ms) × Kept (tokens_from (lexed [] quoted_part t ns) ms)
unfolding tokens_from lex lex_end
kept-quotes t ns [] = (kept_cons (token broken [] []) [] (λ e. omega arith), kept_cons (token broken [] []) [] (λ e. omega arith))
kept-quotes t ns (m ∷ ms) =
    let P : Lexed → Type 0 = λ l. Kept (tokens_from l ms) in (
      cond_both P (eqb m 34) (kept-token (token quote [] ns) ms (λ e. omega arith))
          (cond_both P (eqb m 60) (kept-quotes [] ns ms).1
          (rw (tokens_from-out (token broken [] [] ∷ []) quote [] ns ms) (kept_cons (token broken [] []) (tokens_from (lexed [] quote [] ns) ms) (λ e. omega arith)))),
      cond_both P (eqb m 62) (kept-quotes t (ns ++ t ∷ []) ms).0 (kept-quotes (t ++ m % 256 ∷ []) ns ms).1,
    )

-- so it is where a mark that is no blank comes first
pub kept-first : (m : ℕ) (ms : List ℕ) → is_blank m ≡ false → Kept (tokens_from (no_part []) (m ∷ ms))
unfolding tokens_from lex lex_none
kept-first m ms b =
    let P : Lexed → Type 0 = λ l. Kept (tokens_from l ms) in
    rw b
    (cond_both P (eqb m 59) (kept-token (token semi [] []) ms (λ e. omega arith))
    (cond_both P (eqb m 44) (kept-token (token comma [] []) ms (λ e. omega arith))
    (cond_both P (eqb m 60) (kept-name [] ms)
    (cond_both P (eqb m 34) (kept-quotes [] [] ms).0
    (cond_both P (leb 512 m) (kept-token (token broken ((m - 512) ∷ []) []) ms (λ e. omega arith))
    (cond_both P (leb 256 m) (kept-token (token as_is ((m - 256) ∷ []) []) ms (λ e. omega arith)) (kept_word (m ∷ []) ms)))))))

-- the tokens without the gaps that open them are those of the marks without the blanks that open them
pub opening-gaps : (ms : List ℕ) → tokens_from (no_part []) (without_blanks ms) ≡ without_opening_gaps (tokens_from (no_part []) ms)
unfolding without_blanks without_opening_gaps
opening-gaps [] = rw tokens_from-none
opening-gaps (m ∷ ms) =
    by (is_blank m) (λ b. rw (b, first-gap m ms b) (opening-gaps ms)) (λ b. rw b (sym (kept_same (kept-first m ms b))))

-- ## Past the blanks at a spot

-- From p to q only blanks are passed.
pub record InBlanks (g : Signs) (src : List ℕ) (p q : Spot) : Type 0 where
  pub rest : without_blanks (marks_left g src p) ≡ without_blanks (marks_left g src q)
  pub mode : q.mode ≡ in_plain
  pub walk : Walk g src p q
  pub from : p.at ≤ q.at
  pub to : q.at ≤ length src

pub blanks-none : (g : Signs) (src : List ℕ) (p : Spot) → p.at ≤ length src → p.mode ≡ in_plain → InBlanks g src p p
blanks-none g src p h m = record { rest = refl; mode = m; walk = walk_none g src p; from = omega arith; to = h }

-- where no blank comes next
stop : {g : Signs} {src : List ℕ} {p q : Spot} → InBlanks g src p q → without_blanks (marks_left g src q) ≡ marks_left g src q → Skips g src p q
unfolding tokens_left
stop {g} {src} {p} {q} v e =
    let m : marks_left g src q ≡ without_blanks (marks_left g src p) = sym (v.rest ∙ e) in
    record { marks = m; tokens = rw m (opening-gaps (marks_left g src p)); mode = v.mode; walk = v.walk; from = v.from; to = v.to }

module _ {g : Signs} {src : List ℕ} {p q : Spot} (v : InBlanks g src p q) where
  pub blanks-end : {s : Option (ℕ × Spot)} → StepIs g src q s → s ≡ None → Skips g src p q
  unfolding without_blanks
  blanks-end w e = let n : marks_left g src q ≡ [] = subst (StepIs g src q) e w in stop v (rw n)

  module _ {m : ℕ} {r : Spot} (mark : MarkIs g src q m r) where
    pub blanks-stop : is_blank m ≡ false → Skips g src p q
    unfolding without_blanks
    blanks-stop b = stop v (rw (mark.marks, b))

    more : is_blank m ≡ true → after in_plain m ≡ in_plain → InBlanks g src p r
    unfolding without_blanks
    more b a =
        record { rest = v.rest ∙ rw (mark.marks, b); mode = mark.step.mode ∙ rw v.mode a; walk = walk-then v.walk (mark-walk mark); from = omega (arith, v.from, mark.on); to = mark.to }

    pub blanks-space : m ≡ 32 → InBlanks g src p r
    unfolding after
    blanks-space h = more (rw h) (rw h)

    pub blanks-more : (m ≡ 9) ⊎ (m ≡ 32) → InBlanks g src p r
    unfolding after
    blanks-more (inl h) = more (rw h) (rw h)
    blanks-more (inr h) = blanks-space h

-- what is neither space nor tab
pub no-blank : (m : ℕ) → (m ≡ 32 → ⊥) → (m ≡ 9 → ⊥) → is_blank m ≡ false
no-blank m h k = simp (ne_eqb m 32 h, ne_eqb m 9 k)

pub blanks-other : {g : Signs} {src : List ℕ} {p q : Spot} → InBlanks g src p q → {s : Option (ℕ × Spot)} → StepIs g src q s → (x : ℕ × Spot) → s ≡ Some x
    → (x.0 ≡ 32 → ⊥) → (x.0 ≡ 9 → ⊥) → Skips g src p q
blanks-other {g} {src} {q = q} v w (m, r) e h k = blanks-stop v (subst (StepIs g src q) e w) (no-blank m h k)

-- the tokens of a line are those from the spot after the blanks that open it
pub tokens_of-left : {g : Signs} {src : List ℕ} {p q : Spot} → Skips g src p q → tokens_of (marks_left g src p) ≡ tokens_left g src q
unfolding tokens_of tokens_left
tokens_of-left v = rw v.marks
