-- The first token of marks, by their first one.
use mathlib.Core.Path.{◌≡◌, refl, ap}
use mathlib.Core.Bool.{Bool, true, false, false≢true}
use mathlib.Core.List.{List, [], ◌∷◌, ◌++◌}
use Prim.Native.Nat.{ℕ, ◌-◌, ◌%◌}
use native.Mathlib.Omega.{arith}
use lib.ListN.{length}
use lib.Dec.{eqb, leb}
use Rattle.base_lists.proofs.Bools.{by, cond_both, cond-by}
use Rattle.rules.specs.Names.{is_blank}
use Rattle.rules.specs.Tokens.{gap, semi, comma, broken, word, name, quote, as_is, Token, token, no_part, Lexed, lexed, lex_none, quoted_part, in_word, lex, lex_end, tokens_from}
use Rattle.text_tokens.proofs.TokenLaws.{tokens_from-out, first-gap, word-whole}

-- there is a first token, and its kind passes
unfoldable pub starts : (ℕ → Bool) → List Token → Bool
starts p [] = false
starts p (t ∷ ts) = p t.kind

-- The kinds that any mark but a blank, a word's and a byte as it stands may begin.
pub record Most (p : ℕ → Bool) : Type 0 where
  pub semi : p semi ≡ true
  pub comma : p comma ≡ true
  pub broken : p broken ≡ true
  pub name : p name ≡ true
  pub quote : p quote ≡ true

module _ (p : ℕ → Bool) (v : Most p) where
  Begins : List ℕ → Lexed → Type 0
  Begins ms l = starts p (tokens_from l ms) ≡ true

  starts-token : (t : Token) (ms : List ℕ) → p t.kind ≡ true → Begins ms (no_part (t ∷ []))
  unfolding starts Begins
  starts-token t ms h = rw (tokens_from-out (t ∷ []) gap [] [] ms) h

  starts-word : (t : List ℕ) (ms : List ℕ) → p word ≡ true → Begins ms (lexed [] word t [])
  unfolding starts Begins
  starts-word t ms h = rw (word-whole t ms) h

  starts-name : (t : List ℕ) (ms : List ℕ) → Begins ms (lexed [] name t [])
  unfolding starts Begins tokens_from lex lex_end
  starts-name t [] = v.broken
  starts-name t (m ∷ ms) =
      cond_both (λ (l : Lexed). starts p (tokens_from l ms) ≡ true) (eqb m 62) (starts-token (token name [] (t ∷ [])) ms v.name) (starts-name (t ++ m % 256 ∷ []) ms)

  starts-quotes : (t : List ℕ) (ns : List (List ℕ)) (ms : List ℕ) → Begins ms (lexed [] quote [] ns) × Begins ms (lexed [] quoted_part t ns)
  unfolding starts Begins tokens_from lex lex_end
  starts-quotes t ns [] = (v.broken, v.broken)
  starts-quotes t ns (m ∷ ms) =
      let P : Lexed → Type 0 = λ l. starts p (tokens_from l ms) ≡ true in (
        cond_both P (eqb m 34) (starts-token (token quote [] ns) ms v.quote)
            (cond_both P (eqb m 60) (starts-quotes [] ns ms).1
            (rw (tokens_from-out (token broken [] [] ∷ []) quote [] ns ms) v.broken)),
        cond_both P (eqb m 62) (starts-quotes t (ns ++ t ∷ []) ms).0 (starts-quotes (t ++ m % 256 ∷ []) ns ms).1,
      )

  -- by the first mark
  pub starts_first : (m : ℕ) (ms : List ℕ) → is_blank m ≡ false → (leb 512 m ≡ false → leb 256 m ≡ true → p as_is ≡ true) → (in_word m ≡ true → p word ≡ true)
      → starts p (tokens_from (no_part []) (m ∷ ms)) ≡ true
  unfolding Begins tokens_from lex lex_none
  starts_first m ms b a w =
      let P : Lexed → Type 0 = λ l. starts p (tokens_from l ms) ≡ true in
      rw b
      (cond-by P (eqb m 59) (λ e. starts-token (token semi [] []) ms v.semi) (λ e₁.
      cond-by P (eqb m 44) (λ e. starts-token (token comma [] []) ms v.comma) (λ e₂.
      cond-by P (eqb m 60) (λ e. starts-name [] ms) (λ e₃.
      cond-by P (eqb m 34) (λ e. (starts-quotes [] [] ms).0) (λ e₄.
      cond-by P (leb 512 m) (λ e. starts-token (token broken ((m - 512) ∷ []) []) ms v.broken) (λ e₅.
      cond-by P (leb 256 m) (λ e. starts-token (token as_is ((m - 256) ∷ []) []) ms (a e₅ e)) (λ e₆.
      starts-word (m ∷ []) ms (w (rw (b, e₁, e₂, e₃, e₄, e₆))))))))))

-- ## Where there is none

abbrev is_any : ℕ → Bool
is_any k = true

no_start : (ts : List Token) → ts ≡ [] → starts is_any ts ≡ true → ⊥
unfolding starts
no_start ts e h = false≢true (rw e at h)

-- there is no mark
pub no-mark : (ms : List ℕ) → tokens_from (no_part []) ms ≡ [] → ms ≡ []
no-mark [] e = refl
no-mark (m ∷ ms) e =
    by (is_blank m)
    (λ b. let k = ap length (rw (first-gap m ms b) at e) in absurd (omega arith))
    (λ b. absurd
    (no_start (tokens_from (no_part []) (m ∷ ms)) e
    (starts_first is_any (record { semi = refl; comma = refl; broken = refl; name = refl; quote = refl }) m ms b (λ i j. refl) (λ i. refl))))
