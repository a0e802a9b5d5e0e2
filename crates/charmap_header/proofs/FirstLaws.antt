-- The first token of marks, by the first mark, and what follows a line's first token.
use mathlib.Core.Path.{◌≡◌, refl, sym, ◌∙◌}
use mathlib.Core.Bool.{Bool, true, false, ◌&&◌}
use mathlib.Core.List.{List, [], ◌∷◌, ◌++◌}
use Prim.Native.Nat.{ℕ, ◌-◌, ◌%◌}
use native.Mathlib.Omega.{arith}
use lib.ListN.{length}
use lib.Dec.{eqb, leb}
use borrow.Author.Tests.{eqb-true, ne_eqb, leb-true, leb-false}
use Rattle.base_lists.proofs.Bools.{by, clash, cond_both}
use Rattle.rules.specs.Text.{one_of}
use Rattle.rules.specs.Names.{is_blank}
use Rattle.rules.specs.Tokens as kind
use Rattle.rules.specs.Tokens.{gap, broken, quote, quoted_part, Token, token, Lexed, lexed, no_part, in_word, is_solid, lex, lex_end, tokens_from, without_opening_gaps, without_gaps, operands}
use Rattle.text_tokens.specs.Left.{word_in, after_word, is_close}
use Rattle.text_tokens.proofs.TokenLaws.{tokens_from-out, first-gap, first-semi, first-comma, first-name, first-quote, first-dead, first-as-is, first-word, word-whole, name-closed, name-open}

-- ## The first token

-- Tokens of which the first is no blank, no word and no name.
record Odd (ts : List Token) : Type 0 where
  first : Token
  more : List Token
  is : ts ≡ first ∷ more
  no_gap : eqb first.kind gap ≡ false
  no_word : eqb first.kind kind.word ≡ false
  no_name : eqb first.kind kind.name ≡ false

odd : {ts us : List Token} (t : Token) → ts ≡ t ∷ us → eqb t.kind gap ≡ false → eqb t.kind kind.word ≡ false → eqb t.kind kind.name ≡ false → Odd ts
odd {us = us} t e a b c = record { first = t; more = us; is = e; no_gap = a; no_word = b; no_name = c }

-- in quotes, and in a name in quotes
odd-quotes : (t : List ℕ) (ns : List (List ℕ)) (ms : List ℕ) → Odd (tokens_from (lexed [] quote [] ns) ms) × Odd (tokens_from (lexed [] quoted_part t ns) ms)
unfolding tokens_from lex lex_end
odd-quotes t ns [] = (odd (token broken [] []) refl refl refl refl, odd (token broken [] []) refl refl refl refl)
odd-quotes t ns (m ∷ ms) =
    let P : Lexed → Type 0 = λ l. Odd (tokens_from l ms) in (
      cond_both P (eqb m 34) (odd (token quote [] ns) (tokens_from-out (token quote [] ns ∷ []) gap [] [] ms) refl refl refl)
          (cond_both P (eqb m 60) (odd-quotes [] ns ms).1
          (odd (token broken [] []) (tokens_from-out (token broken [] [] ∷ []) quote [] ns ms) refl refl refl)),
      cond_both P (eqb m 62) (odd-quotes t (ns ++ t ∷ []) ms).0 (odd-quotes (t ++ m % 256 ∷ []) ns ms).1,
    )

-- Tokens whose first mark is m.
pub record First (m : ℕ) (ts : List Token) : Type 0 where
  pub first : Token
  pub more : List Token
  pub is : ts ≡ first ∷ more
  pub gap : is_blank m ≡ false → eqb first.kind kind.gap ≡ false
  pub word : in_word m ≡ false → eqb first.kind kind.word ≡ false
  pub name : eqb m 60 ≡ false → eqb first.kind kind.name ≡ false

first-odd : {m : ℕ} {ts : List Token} → Odd ts → First m ts
first-odd v =
    record { first = v.first; more = v.more; is = v.is; gap = λ e. v.no_gap; word = λ e. v.no_word; name = λ e. v.no_name }

pub first-token : (m : ℕ) (ms : List ℕ) → First m (tokens_from (no_part []) (m ∷ ms))
first-token m ms =
    by (is_blank m)
    (λ b. record { first = token gap [] []; more = tokens_from (no_part []) ms; is = first-gap m ms b; gap = λ e. clash b e; word = λ e. refl; name = λ e. refl })
    (λ b. by (eqb m 59) (λ t. first-odd (odd (token kind.semi [] []) (first-semi m ms (eqb-true m 59 t)) refl refl refl))
    (λ c. by (eqb m 44) (λ t. first-odd (odd (token kind.comma [] []) (first-comma m ms (eqb-true m 44 t)) refl refl refl))
    (λ d. by (eqb m 60) (λ t. name t)
    (λ e. by (eqb m 34) (λ t. first-odd (let v = (odd-quotes [] [] ms).0 in odd v.first (first-quote m ms (eqb-true m 34 t) ∙ v.is) v.no_gap v.no_word v.no_name))
    (λ f. by (leb 512 m) (λ t. first-odd (odd (token broken ((m - 512) ∷ []) []) (first-dead m ms (leb-true 512 m t)) refl refl refl))
    (λ h. by (leb 256 m) (λ t. first-odd (odd (token kind.as_is ((m - 256) ∷ []) []) (first-as-is m ms (leb-true 256 m t) (leb-false 512 m h)) refl refl refl))
    (λ i. let w : in_word m ≡ true = simp (b, c, d, e, f, i) in
    record {
      first = token kind.word (m ∷ word_in ms) [];
      more = tokens_from (no_part []) (after_word ms);
      is = first-word m ms w ∙ word-whole (m ∷ []) ms;
      gap = λ z. refl;
      word = λ z. clash w z;
      name = λ z. refl;
    })))))))
  where
    name : eqb m 60 ≡ true → First m (tokens_from (no_part []) (m ∷ ms))
    name t =
        let e = first-name m ms (eqb-true m 60 t) in
        by (one_of is_close ms)
        (λ c. record { first = _; more = _; is = e ∙ name-closed [] ms c; gap = λ z. refl; word = λ z. refl; name = λ z. clash t z })
        (λ c. record { first = _; more = _; is = e ∙ name-open [] ms c; gap = λ z. refl; word = λ z. refl; name = λ z. clash t z })

-- ## What follows a line's first token

-- a list with a first token
pub some : (t : Token) (ts : List Token) → eqb (length (t ∷ ts)) 0 ≡ false
some t ts = ne_eqb (length (t ∷ ts)) 0 (λ e. omega arith)

-- a token that is no blank stays, and whatever stands before it
without_gaps-solid : (glued : Bool) (t : Token) (ts : List Token) → eqb t.kind gap ≡ false → eqb (length (without_gaps glued (t ∷ ts))) 0 ≡ false
unfolding without_gaps
without_gaps-solid glued t ts h =
    rw h
    (cond_both (λ (x : List Token). eqb (length x) 0 ≡ false) (glued && is_solid t) (some (token broken [] []) (t ∷ without_gaps (is_solid t) ts))
    (some t (without_gaps (is_solid t) ts)))

without_gaps-gap : (glued : Bool) (t : Token) (ts : List Token) → eqb t.kind gap ≡ true → without_gaps glued (t ∷ ts) ≡ without_gaps (is_solid t) ts
unfolding without_gaps
without_gaps-gap glued t ts h = rw h

pub solid-stays : (glued : Bool) (ts us : List Token) (t : Token) → eqb t.kind gap ≡ false → eqb (length (without_gaps glued (ts ++ t ∷ us))) 0 ≡ false
solid-stays glued [] us t h = without_gaps-solid glued t us h
solid-stays glued (x ∷ ts) us t h =
    by (eqb x.kind gap) (λ e. rw (without_gaps-gap glued x (ts ++ t ∷ us) e) (solid-stays (is_solid x) ts us t h))
    (λ e. without_gaps-solid glued x (ts ++ t ∷ us) e)

-- only blanks are left: the first of them is one
pub gap-first : (glued : Bool) (t : Token) (ts : List Token) → eqb (length (without_gaps glued (t ∷ ts))) 0 ≡ true → eqb t.kind gap ≡ true
gap-first glued t ts h = by (eqb t.kind gap) (λ e. e) (λ e. clash h (without_gaps-solid glued t ts e))

-- only blanks follow, whichever way they are passed
pub gaps-none : (glued : Bool) (ts : List Token) → eqb (length (without_gaps glued ts)) 0 ≡ eqb (length (without_opening_gaps ts)) 0
unfolding without_gaps without_opening_gaps
gaps-none glued [] = refl
gaps-none glued (t ∷ ts) =
    by (eqb t.kind gap) (λ e. rw e (gaps-none (is_solid t) ts)) (λ e. without_gaps-solid glued t ts e ∙ rw e (sym (some t ts)))

pub operands-none : (ts : List Token) → eqb (length (operands ts)) 0 ≡ eqb (length (without_opening_gaps ts)) 0
unfolding operands without_opening_gaps
operands-none [] = refl
operands-none (t ∷ ts) = by (eqb t.kind gap) (λ e. rw e (gaps-none false ts)) (λ e. rw e (some (token broken [] []) [] ∙ sym (some t ts)))
