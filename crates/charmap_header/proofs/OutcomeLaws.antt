-- What a header line leaves (Rattle.rules.specs.Charmap), by its tokens.
use mathlib.Core.Path.{◌≡◌, sym, ap, ◌∙◌}
use mathlib.Core.Bool.{Bool, true, false, ◌&&◌}
use mathlib.Core.List.{List, [], ◌∷◌, ◌++◌, append_assoc, append-nil}
use Prim.Native.Nat.{ℕ, ◌+◌, ◌-◌, ◌<◌}
use native.Mathlib.Omega.{arith}
use lib.ListN.{length}
use borrow.Author.Tests.{ne_eqb}
use Rattle.rules.specs.Text.{bytes, every, is, same, ◌unless◌, lower}
use Rattle.rules.specs.Names.{is_blank}
use Rattle.rules.specs.Tokens as kind
use Rattle.rules.specs.Tokens.{is_text, gap, broken, Token, token, single, no_part, tokens_from, tokens_of, without_gaps, operands}
use Rattle.rules.specs.Lines as paper
use Rattle.rules.specs.Lines.{sign_refusal}
use Rattle.rules.specs.Charmap.{Mapping, MapOutcome, leaves, sign_header, is_header, header_line}
use Rattle.rules.proofs.TextLaws.{every-head, every-tail, every_append, every-both, every-mono}
use Rattle.text_tokens.proofs.TokenLaws.{first-gap, first-as-is, tokens_from-none}
use Rattle.text_specials.specs.Signed.{keyword}
use Rattle.text_specials.proofs.LineTokenLaws.{gaps, blank-text}
use Rattle.charmap_header.specs.Head.{is_opening, Named}
use Rattle.charmap_header.proofs.FirstLaws.{first-token, some}

-- ## By the first token

module _ (m : Mapping) (marks : List ℕ) where
  pub outcome-none : tokens_of marks ≡ [] → header_line m marks ≡ leaves 0 m
  unfolding header_line
  outcome-none e = rw e

  -- a name that the line leaves open
  pub outcome-open : tokens_of marks ≡ token broken [] [] ∷ [] → is_header marks ≡ true → header_line m marks ≡ leaves 0 m
  unfolding header_line is same bytes
  outcome-open e h = rw (e, h)

  -- another name
  pub outcome-other : (n : List ℕ) (ts : List Token) → tokens_of marks ≡ token kind.name [] (n ∷ []) ∷ ts → is_header marks ≡ true
      → same n (keyword true) ≡ false → same n (keyword false) ≡ false → header_line m marks ≡ leaves 0 m
  unfolding header_line is
  outcome-other n ts e h a b = rw (e, some (token kind.name [] (n ∷ [])) ts, h, a, b)

  pub outcome-sign : (comment : Bool) (ts : List Token) → tokens_of marks ≡ token kind.name [] (keyword comment ∷ []) ∷ ts → is_header marks ≡ true
      → header_line m marks ≡ sign_header m comment (operands ts) (2 unless every is_text marks)
  unfolding header_line is same bytes
  outcome-sign true ts e h = rw (e, some (token kind.name [] (keyword true ∷ [])) ts, h)
  outcome-sign false ts e h = rw (e, some (token kind.name [] (keyword false ∷ [])) ts, h)

  -- no name
  pub outcome-word : (length (tokens_of marks) ≡ 0 → ⊥) → is_header marks ≡ false
      → header_line m marks
      ≡ leaves (lower (2 unless every is_text marks) (3 unless is_opening (tokens_of marks))) (record { chars = m.chars; opened = true; closed = false; given = [] })
  unfolding header_line is_opening
  outcome-word s h = rw (ne_eqb (length (tokens_of marks)) 0 s, h)

-- ## The refusals

-- operands that are not one byte as it stands
pub odd-operands : (h : paper.Chars) (comment : Bool) (os : List Token) → single kind.as_is os ≡ false → sign_refusal h comment os ≡ 3
unfolding sign_refusal
odd-operands h comment os e = rw e

module _ (m : Mapping) (comment : Bool) (ms ns : List ℕ) (v : Named comment ms) where
  -- a name and other marks
  odd-line : single kind.as_is (operands (tokens_from (no_part []) ns)) ≡ false
      → (header_line m (ms ++ ns)).refusal ≡ lower (2 unless every is_text (ms ++ ns)) 3
  unfolding sign_header
  odd-line e =
      ap (λ (o : MapOutcome). o.refusal) (outcome-sign m (ms ++ ns) comment (tokens_from (no_part []) ns) (v.tokens ns) (v.header ns))
      ∙ ap (λ (r : ℕ). lower (2 unless every is_text (ms ++ ns)) r) (odd-operands m.chars comment (operands (tokens_from (no_part []) ns)) e)

-- no operand
pub line-bare : (m : Mapping) (comment : Bool) (ms : List ℕ) → Named comment ms → (header_line m (ms ++ [])).refusal ≡ lower (2 unless every is_text (ms ++ [])) 3
unfolding operands
line-bare m comment ms v = odd-line m comment ms [] v (rw tokens_from-none)

-- what stands right after the name
pub line-glued : (m : Mapping) (comment : Bool) (ms : List ℕ) (n : ℕ) (ns : List ℕ) → Named comment ms → is_blank n ≡ false
    → (header_line m (ms ++ n ∷ ns)).refusal ≡ lower (2 unless every is_text (ms ++ n ∷ ns)) 3
unfolding operands
line-glued m comment ms n ns v b = let t = first-token n ns in odd-line m comment ms (n ∷ ns) v (rw (t.is, t.gap b))

blanks-operands : (n : ℕ) (bs ms : List ℕ) → every is_blank (n ∷ bs) ≡ true
    → operands (tokens_from (no_part []) (n ∷ (bs ++ ms))) ≡ without_gaps false (tokens_from (no_part []) ms)
unfolding operands
blanks-operands n bs ms h = rw (first-gap n (bs ++ ms) (every-head is_blank n bs h)) (gaps bs ms (every-tail is_blank n bs h))

-- blanks alone
pub line-blank : (m : Mapping) (comment : Bool) (ms : List ℕ) (n : ℕ) (bs : List ℕ) → Named comment ms → every is_blank (n ∷ bs) ≡ true
    → (header_line m (ms ++ n ∷ bs)).refusal ≡ lower (2 unless every is_text (ms ++ n ∷ bs)) 3
unfolding without_gaps
line-blank m comment ms n bs v h =
    let e : operands (tokens_from (no_part []) (n ∷ bs)) ≡ [] =
    ap (λ (x : List ℕ). operands (tokens_from (no_part []) (n ∷ x))) (sym (append-nil bs)) ∙ blanks-operands n bs [] h ∙ rw tokens_from-none in
    odd-line m comment ms (n ∷ bs) v (rw e)

-- ## A byte as it stands

module _ (comment : Bool) (ms : List ℕ) (n : ℕ) (bs : List ℕ) (c : ℕ) (rest : List ℕ) (v : Named comment ms) (b : every is_blank (n ∷ bs) ≡ true) where
  line-split : (ms ++ n ∷ bs) ++ (256 + c) ∷ rest ≡ ms ++ (n ∷ (bs ++ (256 + c) ∷ rest))
  line-split = append_assoc ms (n ∷ bs) ((256 + c) ∷ rest)

  pub set-text : every is_text ((ms ++ n ∷ bs) ++ (256 + c) ∷ rest) ≡ (is_text (256 + c) && every is_text rest)
  unfolding every
  set-text =
      every_append is_text (ms ++ n ∷ bs) ((256 + c) ∷ rest)
      ∙ rw (every-both is_text ms (n ∷ bs) v.text (every-mono is_blank is_text blank-text (n ∷ bs) b))

  module _ (l : c < 256) where
    set-operands : operands (tokens_from (no_part []) (n ∷ (bs ++ (256 + c) ∷ rest))) ≡ token kind.as_is (c ∷ []) [] ∷ without_gaps true (tokens_from (no_part []) rest)
    unfolding without_gaps
    set-operands =
        let k : (256 + c) - 256 ≡ c = omega arith in
        blanks-operands n bs ((256 + c) ∷ rest) b ∙ rw (first-as-is (256 + c) rest (omega arith) (omega arith), k)

    -- the byte alone, or with more after it
    pub set-outcome : (m : Mapping)
        → header_line m ((ms ++ n ∷ bs) ++ (256 + c) ∷ rest)
        ≡ sign_header m comment (token kind.as_is (c ∷ []) [] ∷ without_gaps true (tokens_from (no_part []) rest))
        (2 unless (is_text (256 + c) && every is_text rest))
    set-outcome m =
        let ns = n ∷ (bs ++ (256 + c) ∷ rest) in
        ap (header_line m) line-split
        ∙ outcome-sign m (ms ++ ns) comment (tokens_from (no_part []) ns) (v.tokens ns) (v.header ns)
        ∙ rw (set-operands, sym line-split, set-text)
