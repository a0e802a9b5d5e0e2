-- CHARMAP alone, from a spot on.
use mathlib.Core.Path.{◌≡◌, refl, sym, ◌∙◌}
use mathlib.Core.Bool.{Bool, true, false, and-true, and-false}
use mathlib.Core.List.{List, [], ◌∷◌, cons-ne-nil}
use Prim.Native.Nat.{ℕ}
use lib.ListN.{length}
use lib.Dec.{eqb}
use Rattle.base_lists.proofs.Bools.{by}
use Rattle.rules.specs.Text.{bytes, is, same}
use Rattle.rules.specs.Tokens as kind
use Rattle.rules.specs.Tokens.{Token, token, no_part, in_word, tokens_from, without_blanks, without_opening_gaps, operands}
use Rattle.rules.proofs.TextLaws.{same_true}
use Rattle.text_lines.specs.declared.Signs.{Signs}
use Rattle.text_lines.specs.declared.Spot.{Spot}
use Rattle.text_lines.specs.Stream.{marks_left}
use Rattle.text_tokens.specs.Left.{tokens_left, word_in, after_word, WordEnds, is_none, only_blanks, RestIs}
use Rattle.text_tokens.proofs.TokenLaws.{first-word, word-whole, tokens_from-none}
use Rattle.text_tokens.proofs.GapLaws.{opening-gaps}
use Rattle.charmap_header.specs.Head.{is_opening}
use Rattle.charmap_header.proofs.FirstLaws.{first-token, some, operands-none}

-- ## Whether only blanks come

blank-tokens : (ms : List ℕ) → only_blanks ms ≡ eqb (length (without_opening_gaps (tokens_from (no_part []) ms))) 0
blank-tokens ms = go (without_blanks ms) (opening-gaps ms)
  where
    go : (ns : List ℕ) {ts : List Token} → tokens_from (no_part []) ns ≡ ts → is_none ns ≡ eqb (length ts) 0
    go [] e = rw (sym e ∙ tokens_from-none)
    go (n ∷ ns) e = let f = first-token n ns in rw (sym e ∙ f.is) (sym (some f.first f.more))

pub ends-told : (g : Signs) (src : List ℕ) (p : Spot) {r : Bool} → RestIs g src p r → r ≡ eqb (length (without_opening_gaps (tokens_left g src p))) 0
unfolding tokens_left
ends-told g src p v = v.blanks ∙ blank-tokens (marks_left g src p)

-- ## The first word

-- marks that go on in a word
word_first : (ms : List ℕ) → (word_in ms ≡ [] → ⊥) → tokens_from (no_part []) ms ≡ token kind.word (word_in ms) [] ∷ tokens_from (no_part []) (after_word ms)
unfolding word_in after_word
word_first [] h = absurd (h refl)
word_first (m ∷ ms) h =
    by (in_word m) (λ t. first-word m ms t ∙ word-whole (m ∷ []) ms ∙ rw t) (λ t. absurd (h (rw t)))

word-other : (ms : List ℕ) → same (word_in ms) (bytes "CHARMAP") ≡ false → is_opening (tokens_from (no_part []) ms) ≡ false
unfolding is_opening is word_in
word-other [] h = rw tokens_from-none
word-other (m ∷ ms) h =
    by (in_word m)
    (λ t. let e : same (m ∷ word_in ms) (bytes "CHARMAP") ≡ false = rw t at h in
    rw (first-word m ms t, word-whole (m ∷ []) ms, e) (and-false (eqb (length (operands (tokens_from (no_part []) (after_word ms)))) 0)))
    (λ t. let f = first-token m ms in rw (f.is, f.word t))

charmap-some : bytes "CHARMAP" ≡ [] → ⊥
unfolding bytes
charmap-some e = cons-ne-nil _ _ e

module _ (g : Signs) (src : List ℕ) (p : Spot) where
  pub opening-other : {t : Bool} → t ≡ same (word_in (marks_left g src p)) (bytes "CHARMAP") → t ≡ false → t ≡ is_opening (tokens_left g src p)
  unfolding tokens_left
  opening-other e h = h ∙ sym (word-other (marks_left g src p) (sym e ∙ h))

  pub opening-word : {t : Bool} → t ≡ same (word_in (marks_left g src p)) (bytes "CHARMAP") → t ≡ true → {q : Spot} → WordEnds g src p q
      → {r : Bool} → r ≡ eqb (length (without_opening_gaps (tokens_left g src q))) 0 → r ≡ is_opening (tokens_left g src p)
  unfolding tokens_left is_opening is
  opening-word e h {q} w k =
      let ms = marks_left g src p in
      let s : same (word_in ms) (bytes "CHARMAP") ≡ true = sym e ∙ h in
      let i : word_in ms ≡ bytes "CHARMAP" = same_true (word_in ms) (bytes "CHARMAP") s in
      let n : word_in ms ≡ [] → ⊥ = λ z. charmap-some (sym i ∙ z) in
      let o = operands-none (tokens_left g src q) in
      k ∙ sym o ∙ rw (word_first ms n, sym w.after, s) (sym (and-true (eqb (length (operands (tokens_left g src q))) 0)))
