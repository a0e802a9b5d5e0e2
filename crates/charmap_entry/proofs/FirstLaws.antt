-- The first token of marks, by the first of them: a test that each token which may come from it fails, fails (not_first).
use mathlib.Core.Path.{◌≡◌, refl}
use mathlib.Core.Bool.{Bool, true, false, ◌&&◌}
use mathlib.Core.List.{List, [], ◌∷◌, ◌++◌}
use Prim.Native.Nat.{ℕ, ◌-◌, ◌%◌, ◌≤◌}
use native.Mathlib.Omega.{arith}
use lib.Dec.{eqb, leb}
use borrow.Author.Tests.{ne_eqb, eqb-true, leb-true, leb-false}
use Rattle.base_lists.proofs.Bools.{by, clash, cond_both}
use Rattle.rules.specs.Text.{one_of, same, is, bytes}
use Rattle.rules.specs.Names.{is_blank}
use Rattle.rules.specs.Tokens.{gap, semi, comma, broken, word, name, quote, as_is, Token, token, token_at, Lexed, lexed, no_part, quoted_part, in_word, lex, lex_end, tokens_from}
use Rattle.text_tokens.specs.Left.{word_in, is_close, name_in}
use Rattle.text_tokens.proofs.TokenLaws.{tokens_from-out, first-gap, first-semi, first-comma, first-name, first-quote, first-dead, first-as-is, first-word, word-whole, name-closed, name-open}
use Rattle.charmap_entry.specs.Entered.{is_escaped, is_digits}
use Rattle.charmap_entry.proofs.ShapeLaws.{is_gap}

-- The test fails each token that may come first where the mark m does.
pub record Fails (p : Token → Bool) (m : ℕ) : Type 0 where
  pub foul : p (token broken [] []) ≡ false
  pub gap : is_blank m ≡ true → p (token gap [] []) ≡ false
  pub semi : p (token semi [] []) ≡ false
  pub comma : p (token comma [] []) ≡ false
  pub name : eqb m 60 ≡ true → (n : List ℕ) → p (token name [] (n ∷ [])) ≡ false
  pub quote : (ns : List (List ℕ)) → p (token quote [] ns) ≡ false
  pub dead : 512 ≤ m → p (token broken ((m - 512) ∷ []) []) ≡ false
  pub as_is_lem : p (token as_is ((m - 256) ∷ []) []) ≡ false
  pub word : in_word m ≡ true → (w : List ℕ) → p (token word (m ∷ w) []) ≡ false

module _ (p : Token → Bool) where
  -- the first token fails
  First : List Token → Type 0
  First ts = p (token_at ts 0) ≡ false

  -- in quotes, and in a name in quotes
  first-quotes : p (token broken [] []) ≡ false → ((ns : List (List ℕ)) → p (token quote [] ns) ≡ false)
      → (t : List ℕ) (ns : List (List ℕ)) (ms : List ℕ) → First (tokens_from (lexed [] quote [] ns) ms) × First (tokens_from (lexed [] quoted_part t ns) ms)
  unfolding First tokens_from lex lex_end
  first-quotes b q t ns [] = (b, b)
  first-quotes b q t ns (m ∷ ms) =
      let P : Lexed → Type 0 = λ l. First (tokens_from l ms) in (
        cond_both P (eqb m 34) (rw (tokens_from-out (token quote [] ns ∷ []) gap [] [] ms) (q ns))
            (cond_both P (eqb m 60) (first-quotes b q [] ns ms).1 (rw (tokens_from-out (token broken [] [] ∷ []) quote [] ns ms) b)),
        cond_both P (eqb m 62) (first-quotes b q t (ns ++ t ∷ []) ms).0 (first-quotes b q (t ++ m % 256 ∷ []) ns ms).1,
      )

  pub not_first : (m : ℕ) (ms : List ℕ) → Fails p m → p (token_at (tokens_from (no_part []) (m ∷ ms)) 0) ≡ false
  unfolding First
  not_first m ms v =
      by (is_blank m) (λ t₁. rw (first-gap m ms t₁) (v.gap t₁)) (λ t₁.
      by (eqb m 59) (λ t₂. rw (first-semi m ms (eqb-true m 59 t₂)) v.semi) (λ t₂.
      by (eqb m 44) (λ t₃. rw (first-comma m ms (eqb-true m 44 t₃)) v.comma) (λ t₃.
      by (eqb m 60) (λ t₄. by (one_of is_close ms)
      (λ c. rw (first-name m ms (eqb-true m 60 t₄), name-closed [] ms c) (v.name t₄ (name_in ms)))
      (λ c. rw (first-name m ms (eqb-true m 60 t₄), name-open [] ms c) v.foul)) (λ t₄.
      by (eqb m 34) (λ t₅. rw (first-quote m ms (eqb-true m 34 t₅)) (first-quotes v.foul v.quote [] [] ms).0) (λ t₅.
      by (leb 512 m) (λ t₆. rw (first-dead m ms (leb-true 512 m t₆)) (v.dead (leb-true 512 m t₆))) (λ t₆.
      by (leb 256 m) (λ t₇. rw (first-as-is m ms (leb-true 256 m t₇) (leb-false 512 m t₆)) v.as_is_lem) (λ t₇.
      let i : in_word m ≡ true = rw (t₁, t₂, t₃, t₄, t₅, t₇) in
      rw (first-word m ms i, word-whole (m ∷ []) ms) (v.word i (word_in ms)))))))))

-- ## Tests

-- no gap, where no blank comes first
pub first-solid : (m : ℕ) (ms : List ℕ) → is_blank m ≡ false → is_gap (token_at (tokens_from (no_part []) (m ∷ ms)) 0) ≡ false
first-solid m ms h =
    not_first is_gap m ms
    (record {
      foul = refl;
      gap = λ t. clash t h;
      semi = refl;
      comma = refl;
      name = λ t n. refl;
      quote = λ ns. refl;
      dead = λ t. refl;
      as_is_lem = refl;
      word = λ t w. refl;
    })

abbrev is_name : Token → Bool
is_name t = eqb t.kind name

-- no name, where no `<` comes first
pub first-no-name : (m : ℕ) (ms : List ℕ) → (m ≡ 60 → ⊥) → eqb (token_at (tokens_from (no_part []) (m ∷ ms)) 0).kind name ≡ false
first-no-name m ms h =
    not_first is_name m ms
    (record {
      foul = refl;
      gap = λ t. refl;
      semi = refl;
      comma = refl;
      name = λ t n. absurd (h (eqb-true m 60 t));
      quote = λ ns. refl;
      dead = λ t. refl;
      as_is_lem = refl;
      word = λ t w. refl;
    })

-- no digits, where the first mark is no part of a word
pub first-no-word : (m : ℕ) (ms : List ℕ) → in_word m ≡ false → is_digits (token_at (tokens_from (no_part []) (m ∷ ms)) 0) ≡ false
unfolding is_digits
first-no-word m ms h =
    not_first is_digits m ms
    (record {
      foul = refl;
      gap = λ t. refl;
      semi = refl;
      comma = refl;
      name = λ t n. refl;
      quote = λ ns. refl;
      dead = λ t. refl;
      as_is_lem = refl;
      word = λ t w. clash t h;
    })

-- no escape and `x`, where the first mark is none
pub first-no-escape : (m : ℕ) (ms : List ℕ) → (m ≡ 632 → ⊥) → is_escaped (token_at (tokens_from (no_part []) (m ∷ ms)) 0) ≡ false
unfolding is_escaped same
first-no-escape m ms h =
    not_first is_escaped m ms
    (record {
      foul = refl;
      gap = λ t. refl;
      semi = refl;
      comma = refl;
      name = λ t n. refl;
      quote = λ ns. refl;
      dead = λ t. simp (ne_eqb (m - 512) 120 (λ e. h (omega arith)));
      as_is_lem = refl;
      word = λ t w. refl;
    })

-- a word of two dots
abbrev pub is_dots : Token → Bool
is_dots t = eqb t.kind word && is t.text ".."

pub first-no-dots : (m : ℕ) (ms : List ℕ) → (m ≡ 46 → ⊥) → is_dots (token_at (tokens_from (no_part []) (m ∷ ms)) 0) ≡ false
unfolding is same bytes
first-no-dots m ms h =
    not_first is_dots m ms
    (record {
      foul = refl;
      gap = λ t. refl;
      semi = refl;
      comma = refl;
      name = λ t n. refl;
      quote = λ ns. refl;
      dead = λ t. refl;
      as_is_lem = refl;
      word = λ t w. simp (ne_eqb m 46 h);
    })
