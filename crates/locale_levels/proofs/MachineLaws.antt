-- A rule read token by token: the number it comes to is the paper's code.
use Rattle.std.specs.Prelude.{if◌then◌else◌}
use mathlib.Core.Path.{◌≡◌, refl, sym, ◌∙◌}
use mathlib.Core.Bool.{Bool, true, false, not, ◌&&◌, ◌||◌}
use mathlib.Core.List.{List, [], ◌∷◌, ◌++◌}
use Prim.Native.Nat.{ℕ, ◌+◌}
use native.Mathlib.Omega.{arith}
use lib.ListN.{length}
use lib.Dec.{eqb}
use borrow.Author.Tests.{eqb-true, ne_eqb}
use Rattle.base_lists.proofs.Bools.{by}
use Rattle.rules.specs.Text.{within, bytes, same, is}
use Rattle.rules.specs.Tokens.{comma, word, Token}
use Rattle.rules.specs.OrderLines.{rule_word, rule_code}
use Rattle.text_lines.specs.declared.Signs.{Signs}
use Rattle.text_lines.specs.declared.Spot.{Spot}
use Rattle.text_lines.specs.Stream.{marks_left}
use Rattle.text_tokens.specs.declared.Tok.{Tok}
use Rattle.text_tokens.specs.Left.{token_there, word_in, TokenIs}
use Rattle.locale_levels.specs.Rules.{symbol_of, joined_to, code_of}

-- ## What a token is

module _ {g : Signs} {src : List ℕ} {q : Spot} {t : Tok} (v : TokenIs g src q t) where
  pub symbol-comma : t.kind ≡ 2 → 3 ≡ symbol_of (token_there g src q)
  unfolding symbol_of
  symbol-comma h = rw (v.kind, h)

  pub symbol-other : (t.kind ≡ 2 → ⊥) → (t.kind ≡ 4 → ⊥) → 0 ≡ symbol_of (token_there g src q)
  unfolding symbol_of rule_word
  symbol-other h k = rw (v.kind, ne_eqb t.kind 2 h, ne_eqb t.kind 4 k)

  module _ (k : t.kind ≡ 4) where
    symbol-word : symbol_of (token_there g src q)
        ≡ (if is (word_in (marks_left g src q)) "forward" then 1 else if is (word_in (marks_left g src q)) "backward" then 2 else if is (word_in (marks_left g src q)) "position" then 4 else 0)
    unfolding symbol_of rule_word
    symbol-word = rw (v.kind, k, v.word k)

    module _ {a : Bool} (f : a ≡ same (word_in (marks_left g src q)) (bytes "forward")) where
      pub symbol-forward : a ≡ true → 1 ≡ symbol_of (token_there g src q)
      unfolding is
      symbol-forward h = sym (symbol-word ∙ rw (← f, h))

      module _ (m : a ≡ false) {b : Bool} (i : b ≡ same (word_in (marks_left g src q)) (bytes "backward")) where
        pub symbol-backward : b ≡ true → 2 ≡ symbol_of (token_there g src q)
        unfolding is
        symbol-backward h = sym (symbol-word ∙ rw (← f, m, ← i, h))

        module _ (n : b ≡ false) {c : Bool} (j : c ≡ same (word_in (marks_left g src q)) (bytes "position")) where
          pub symbol-position : c ≡ true → 4 ≡ symbol_of (token_there g src q)
          unfolding is
          symbol-position h = sym (symbol-word ∙ rw (← f, m, ← i, n, ← j, h))

          pub symbol-none : c ≡ false → 0 ≡ symbol_of (token_there g src q)
          unfolding is
          symbol-none h = sym (symbol-word ∙ rw (← f, m, ← i, n, ← j, h))

-- ## The numbers of a rule

-- after these tokens
unfoldable pub state_of : ℕ → List Token → ℕ
state_of s [] = s
state_of s (t ∷ ts) = state_of (joined_to s (symbol_of t)) ts

pub state-snoc : (s : ℕ) (ts : List Token) (t : Token) → state_of s (ts ++ t ∷ []) ≡ joined_to (state_of s ts) (symbol_of t)
unfolding state_of
state-snoc s [] t = refl
state-snoc s (u ∷ ts) t = state-snoc (joined_to s (symbol_of u)) ts t

-- no rule stays none
dead : (x : ℕ) → joined_to 7 x ≡ 7
unfolding joined_to
dead x = by (eqb x 3) (λ e. rw e) (λ e. rw e)

dead-all : (ts : List Token) → state_of 7 ts ≡ 7
unfolding state_of
dead-all [] = refl
dead-all (t ∷ ts) = rw (dead (symbol_of t)) (dead-all ts)

-- a token is a comma, or none of the words, or one of the three
tokens-by : (P : Bool → ℕ → ℕ → Type 0) → P true 0 3 → P false 0 0 → P false 1 1 → P false 2 2 → P false 4 4
    → (t : Token) → P (eqb t.kind comma) (rule_word t) (symbol_of t)
unfolding symbol_of rule_word
tokens-by P c n f b p t =
    by (eqb t.kind comma)
    (λ e. let k = eqb-true t.kind comma e in rw k c)
    (λ e. rw e
    (by (eqb t.kind word)
    (λ w. rw w
    (by (is t.text "forward") (λ i. rw i f) (λ i. rw i
    (by (is t.text "backward") (λ j. rw j b) (λ j. rw j
    (by (is t.text "position") (λ k. rw k p) (λ k. rw k n)))))))
    (λ w. rw w n)))

-- what one, two, three tokens come to
module _ (P : ℕ → Type 0) (none : P 7) where
  two-by : P 9 → P 10 → P 12 → (t u : Token) → P (joined_to (joined_to 0 (symbol_of t)) (symbol_of u))
  unfolding joined_to
  two-by f b p t u =
      tokens-by (λ c a x. P (joined_to (joined_to 0 x) (symbol_of u)))
      (tokens-by (λ c a x. P (joined_to 7 x)) none none none none none u)
      (tokens-by (λ c a x. P (joined_to 7 x)) none none none none none u)
      (tokens-by (λ c a x. P (joined_to 1 x)) f none none none none u)
      (tokens-by (λ c a x. P (joined_to 2 x)) b none none none none u)
      (tokens-by (λ c a x. P (joined_to 4 x)) p none none none none u)
      t

module _ (P : ℕ → Type 0) (none : P 7) where
  three-by : P 5 → P 6 → (t u v : Token) → P (joined_to (joined_to (joined_to 0 (symbol_of t)) (symbol_of u)) (symbol_of v))
  unfolding joined_to
  three-by f b t u v =
      two-by (λ s. P (joined_to s (symbol_of v)))
      (tokens-by (λ c a x. P (joined_to 7 x)) none none none none none v)
      (tokens-by (λ c a x. P (joined_to 9 x)) none none none none f v)
      (tokens-by (λ c a x. P (joined_to 10 x)) none none none none b v)
      (tokens-by (λ c a x. P (joined_to 12 x)) none none f b none v)
      t u

-- another makes no rule
four-dead : (t u v w : Token) → joined_to (joined_to (joined_to (joined_to 0 (symbol_of t)) (symbol_of u)) (symbol_of v)) (symbol_of w) ≡ 7
unfolding joined_to
four-dead t u v w =
    three-by (λ s. joined_to s (symbol_of w) ≡ 7) (dead (symbol_of w))
    (tokens-by (λ c a x. joined_to 5 x ≡ 7) refl refl refl refl refl w)
    (tokens-by (λ c a x. joined_to 6 x ≡ 7) refl refl refl refl refl w)
    t u v

-- ## The code

none-code : rule_code [] ≡ code_of (state_of 0 [])
unfolding rule_code state_of code_of
none-code = refl

one_code : (t : Token) → rule_code (t ∷ []) ≡ code_of (state_of 0 (t ∷ []))
unfolding rule_code state_of joined_to code_of
one_code = tokens-by (λ c a x. a ≡ code_of (joined_to 0 x)) refl refl refl refl refl

two-code : (t u : Token) → rule_code (t ∷ u ∷ []) ≡ code_of (state_of 0 (t ∷ u ∷ []))
unfolding rule_code state_of code_of
two-code t u = two-by (λ s. 0 ≡ code_of s) refl refl refl refl t u

-- the code of three tokens, of which the first and the last have these numbers and the middle one may be a comma
unfoldable three : ℕ → Bool → ℕ → ℕ
three a middle b = if not middle then 0 else if (eqb a 4 && within 1 2 b) || (within 1 2 a && eqb b 4) then a + b else 0

unfoldable Three : ℕ → ℕ → Bool → ℕ → ℕ → ℕ → Type 0
Three a x middle y b z = three a middle b ≡ code_of (joined_to (joined_to (joined_to 0 x) y) z)

module _ (u v : Token) (a x : ℕ) where
  -- the last token, whichever it is
  last-by : Three a x true 3 0 3 → Three a x true 3 0 0 → Three a x true 3 1 1 → Three a x true 3 2 2 → Three a x true 3 4 4
      → Three a x true 3 (rule_word v) (symbol_of v)
  last-by c n f b p = tokens-by (λ e k z. Three a x true 3 k z) c n f b p v

  -- a middle token that is no comma
  no-comma : (y : ℕ) → joined_to (joined_to 0 x) y ≡ 7 → Three a x false y (rule_word v) (symbol_of v)
  unfolding Three three code_of
  no-comma y e = rw (e, dead (symbol_of v))

  -- the last two
  middle-by : Three a x true 3 (rule_word v) (symbol_of v)
      → joined_to (joined_to 0 x) 0 ≡ 7 → joined_to (joined_to 0 x) 1 ≡ 7 → joined_to (joined_to 0 x) 2 ≡ 7 → joined_to (joined_to 0 x) 4 ≡ 7
      → Three a x (eqb u.kind comma) (symbol_of u) (rule_word v) (symbol_of v)
  middle-by c n f b p =
      tokens-by (λ middle k y. Three a x middle y (rule_word v) (symbol_of v)) c (no-comma 0 n) (no-comma 1 f) (no-comma 2 b) (no-comma 4 p) u

three-code : (t u v : Token) → rule_code (t ∷ u ∷ v ∷ []) ≡ code_of (state_of 0 (t ∷ u ∷ v ∷ []))
unfolding rule_code state_of joined_to code_of Three three
three-code t u v =
    tokens-by (λ c a x. Three a x (eqb u.kind comma) (symbol_of u) (rule_word v) (symbol_of v))
    (middle-by u v 0 3 (last-by u v 0 3 refl refl refl refl refl) refl refl refl refl)
    (middle-by u v 0 0 (last-by u v 0 0 refl refl refl refl refl) refl refl refl refl)
    (middle-by u v 1 1 (last-by u v 1 1 refl refl refl refl refl) refl refl refl refl)
    (middle-by u v 2 2 (last-by u v 2 2 refl refl refl refl refl) refl refl refl refl)
    (middle-by u v 4 4 (last-by u v 4 4 refl refl refl refl refl) refl refl refl refl)
    t

many-code : (t u v w : Token) (ts : List Token) → rule_code (t ∷ u ∷ v ∷ w ∷ ts) ≡ code_of (state_of 0 (t ∷ u ∷ v ∷ w ∷ ts))
unfolding rule_code state_of code_of
many-code t u v w ts =
    let a = ne_eqb (length (t ∷ u ∷ v ∷ w ∷ ts)) 1 (λ e. omega arith) in
    let b = ne_eqb (length (t ∷ u ∷ v ∷ w ∷ ts)) 3 (λ e. omega arith) in
    rw (four-dead t u v w, dead-all ts) (simp (a, b))

pub code-state : (ts : List Token) → rule_code ts ≡ code_of (state_of 0 ts)
code-state [] = none-code
code-state (t ∷ []) = one_code t
code-state (t ∷ u ∷ []) = two-code t u
code-state (t ∷ u ∷ v ∷ []) = three-code t u v
code-state (t ∷ u ∷ v ∷ w ∷ ts) = many-code t u v w ts
