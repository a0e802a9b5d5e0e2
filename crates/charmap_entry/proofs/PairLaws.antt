-- Escape `x` and two hex digits as marks, and what their tokens are.
use mathlib.Core.Path.{◌≡◌, refl, ap, ◌∙◌}
use mathlib.Core.Bool.{true, false, and-false}
use mathlib.Core.List.{List, [], ◌∷◌}
use Prim.Native.Nat.{ℕ, ◌≤◌, ◌<◌}
use native.Mathlib.Omega.{arith}
use lib.ListN.{length}
use lib.Dec.{eqb}
use borrow.Author.Tests.{ne_eqb, le-leb, lt-leb, eqb-true}
use Rattle.base_lists.proofs.Bools.{by, clash, and_left, and_right, and_intro}
use Rattle.rules.specs.Text.{every, same, within}
use Rattle.rules.specs.Names.{is_blank, is_any_hex, digit}
use Rattle.rules.specs.Tokens.{broken, word, Token, token, token_at, no_part, in_word, tokens_from}
use Rattle.rules.proofs.TextLaws.{every-head, every-tail, within_low, within-high}
use Rattle.text_tokens.specs.Left.{word_in, after_word}
use Rattle.text_tokens.proofs.TokenLaws.{tokens_from-none, first-dead, first-word, word-whole}
use Rattle.charmap_entry.specs.Entered.{is_escaped, is_digits, opens_pair, starts_hex}
use Rattle.charmap_entry.proofs.ShapeLaws.{is_gap}
use Rattle.charmap_entry.proofs.LexLaws.{tokens-some, digits_long}
use Rattle.charmap_entry.proofs.FirstLaws.{first-solid, first-no-word}

-- ## Hex digits

-- A hex digit's bounds.
pub record Bounds (m : ℕ) : Type 0 where
  pub low : 48 ≤ m
  pub high : m ≤ 102
  pub semi : m ≡ 59 → ⊥
  pub name : m ≡ 60 → ⊥
  pub small : digit m < 16

pub bounds : (m : ℕ) → is_any_hex m ≡ true → Bounds m
bounds m h =
    by (within 48 57 m)
    (λ t. let a = within_low 48 57 m t in let b = within-high 48 57 m t in
    record { low = a; high = omega arith; semi = λ e. omega arith; name = λ e. omega arith; small = rw (le-leb m 57 b) (omega arith) })
    (λ t. by (within 65 70 m)
    (λ u. let a = within_low 65 70 m u in let b = within-high 65 70 m u in
    record { low = omega arith; high = omega arith; semi = λ e. omega arith; name = λ e. omega arith; small = rw (lt-leb m 57 (omega arith), le-leb m 70 b) (omega arith) })
    (λ u. let k : within 97 102 m ≡ true = rw (t, u) at h in
    let a = within_low 97 102 m k in let b = within-high 97 102 m k in
    record { low = omega arith; high = b; semi = λ e. omega arith; name = λ e. omega arith; small = rw (lt-leb m 57 (omega arith), lt-leb m 70 (omega arith)) (omega arith) }))

-- it is a mark of a word
pub hex-word : (m : ℕ) → is_any_hex m ≡ true → in_word m ≡ true
hex-word m h =
    let v = bounds m h in
    let a = v.low in
    let b = v.high in
    simp (
      ne_eqb m 32 (λ e. omega arith),
      ne_eqb m 9 (λ e. omega arith),
      ne_eqb m 59 v.semi,
      ne_eqb m 44 (λ e. omega arith),
      ne_eqb m 60 v.name,
      ne_eqb m 34 (λ e. omega arith),
      lt-leb 256 m (omega arith),
    )

-- ## What is no pair

module _ (rs : List Token) where
  pub no-escape : is_escaped (token_at rs 0) ≡ false → opens_pair rs ≡ false
  unfolding opens_pair
  no-escape h = rw h

  pub no-digits : is_digits (token_at rs 1) ≡ false → opens_pair rs ≡ false
  unfolding opens_pair
  no-digits h = rw (h, and-false (is_escaped (token_at rs 0)))

-- a token behind it that is no gap
no_end : (x w : Token) (ts : List Token) → (ts ≡ [] → ⊥) → is_gap (token_at ts 0) ≡ false → opens_pair (x ∷ w ∷ ts) ≡ false
unfolding opens_pair
no_end x w [] n h = absurd (n refl)
no_end x w (t ∷ ts) n h = rw h (simp (ne_eqb (length (x ∷ w ∷ t ∷ ts)) 2 (λ e. omega arith), and-false))

-- a word
pub word_first : (m : ℕ) (ms : List ℕ) → in_word m ≡ true → tokens_from (no_part []) (m ∷ ms) ≡ token word (m ∷ word_in ms) [] ∷ tokens_from (no_part []) (after_word ms)
word_first m ms h = first-word m ms h ∙ word-whole (m ∷ []) ms

-- What two digits have.
record Two (t : List ℕ) : Type 0 where
  long : length t ≡ 2
  hex : every is_any_hex t ≡ true

two_digits : (t : List ℕ) → is_digits (token word t []) ≡ true → Two t
unfolding is_digits
two_digits t h =
    record { long = eqb-true (length t) 2 (and_left (eqb (length t) 2) (every is_any_hex t) h); hex = and_right (eqb (length t) 2) (every is_any_hex t) h }

-- a word of two hex digits begins with them
word-hex : (m : ℕ) (ms : List ℕ) → is_digits (token word (m ∷ word_in ms) []) ≡ true → starts_hex (m ∷ ms) ≡ true
unfolding word_in every
word-hex m [] h = let l = (two_digits (m ∷ []) h).long in absurd (omega arith)
word-hex m (n ∷ ms) h =
    by (in_word n)
    (λ t. let k : is_digits (token word (m ∷ n ∷ word_in ms) []) ≡ true = rw t at h in
    let e = (two_digits (m ∷ n ∷ word_in ms) k).hex in
    and_intro (every-head is_any_hex m (n ∷ word_in ms) e) (every-head is_any_hex n (word_in ms) (every-tail is_any_hex m (n ∷ word_in ms) e)))
    (λ t. let k : is_digits (token word (m ∷ []) []) ≡ true = rw t at h in let l = (two_digits (m ∷ []) k).long in absurd (omega arith))

none-digits : is_digits (token_at [] 0) ≡ false
unfolding is_digits
none-digits = refl

-- marks that do not begin with two hex digits
pub marks-no-digits : (ms : List ℕ) → starts_hex ms ≡ false → is_digits (token_at (tokens_from (no_part []) ms) 0) ≡ false
marks-no-digits [] h = rw tokens_from-none none-digits
marks-no-digits (m ∷ ms) h =
    by (in_word m)
    (λ t. rw (word_first m ms t) (by (is_digits (token word (m ∷ word_in ms) [])) (λ d. clash (word-hex m ms d) h) (λ d. d)))
    (λ t. first-no-word m ms t)

module _ (d e : ℕ) (h : is_any_hex d ≡ true) (k : is_any_hex e ≡ true) where
  two-first : (ms : List ℕ) → tokens_from (no_part []) (d ∷ e ∷ ms) ≡ token word (d ∷ e ∷ word_in ms) [] ∷ tokens_from (no_part []) (after_word ms)
  unfolding word_in after_word
  two-first ms = word_first d (e ∷ ms) (hex-word d h) ∙ rw (hex-word e k)

  -- two hex digits alone
  pub two-alone : tokens_from (no_part []) (d ∷ e ∷ []) ≡ token word (d ∷ e ∷ []) [] ∷ []
  unfolding word_in after_word
  two-alone = two-first [] ∙ ap (λ (ts : List Token). token word (d ∷ e ∷ []) [] ∷ ts) tokens_from-none

  -- behind which a mark comes that is no blank
  pub two-glued : (x : Token) (m : ℕ) (ms : List ℕ) → is_blank m ≡ false → opens_pair (x ∷ tokens_from (no_part []) (d ∷ e ∷ m ∷ ms)) ≡ false
  unfolding word_in after_word
  two-glued x m ms b =
      by (in_word m)
      (λ t. let u : tokens_from (no_part []) (d ∷ e ∷ m ∷ ms) ≡ token word (d ∷ e ∷ m ∷ word_in ms) [] ∷ tokens_from (no_part []) (after_word ms) = two-first (m ∷ ms) ∙ rw t in
      rw u (no-digits (x ∷ token word (d ∷ e ∷ m ∷ word_in ms) [] ∷ tokens_from (no_part []) (after_word ms)) (digits_long (d ∷ e ∷ m ∷ word_in ms) (λ z. omega arith))))
      (λ t. let u : tokens_from (no_part []) (d ∷ e ∷ m ∷ ms) ≡ token word (d ∷ e ∷ []) [] ∷ tokens_from (no_part []) (m ∷ ms) = two-first (m ∷ ms) ∙ rw t in
      rw u (no_end x (token word (d ∷ e ∷ []) []) (tokens_from (no_part []) (m ∷ ms)) (tokens-some (no_part []) m ms) (first-solid m ms b)))

-- ## Escape and `x`

-- its token, whatever follows
pub escape-first : (ms : List ℕ) → tokens_from (no_part []) (632 ∷ ms) ≡ token broken (120 ∷ []) [] ∷ tokens_from (no_part []) ms
escape-first ms = first-dead 632 ms (omega arith)

pub none-escape : is_escaped (token_at [] 0) ≡ false
unfolding is_escaped same
none-escape = refl
