-- The tokens and the text of a line with a byte that is taken as it stands (TakenIs): the keyword, blanks, that byte, and what follows it.
use mathlib.Core.Path.{◌≡◌, refl, sym, ap, ◌∙◌}
use mathlib.Core.Bool.{Bool, true, false, ◌&&◌}
use mathlib.Core.List.{List, [], ◌∷◌, ◌++◌, append_assoc}
use Prim.Native.Nat.{ℕ, ◌+◌, ◌-◌, ◌<◌}
use native.Mathlib.Omega.{arith}
use lib.ListN.{length, drop}
use lib.Dec.{eqb}
use borrow.Author.Tests.{eqb-true}
use Rattle.base_lists.proofs.Bools.{by, and_left, and_right, and_intro, clash}
use Rattle.rules.specs.Text.{bytes, every, begins}
use Rattle.rules.specs.Names.{is_blank}
use Rattle.rules.specs.Tokens.{is_text, gap, word, as_is, Token, token, no_part, in_word, tokens_from, without_blanks, tokens_of, without_gaps, operands}
use Rattle.rules.specs.Lines.{is_word_line}
use Rattle.rules.proofs.TextLaws.{every-head, every-tail, every_append, every-both, every-mono, begins-split}
use Rattle.text_lines.specs.Stream.{blank_first, opens_with}
use Rattle.text_lines.proofs.SignLaws.{Solid, blanks-append, nonempty}
use Rattle.text_tokens.specs.Left.{after_word}
use Rattle.text_tokens.proofs.TokenLaws.{first-gap, first-as-is, first-word, word-whole}
use Rattle.text_specials.specs.Signed.{keyword}
use Rattle.text_specials.proofs.OpenLaws.{word_blank, keyword-in}
use Rattle.text_specials.proofs.TakenLaws.{keyword-solid}

-- ## What is before the byte

-- The keyword and one blank or more.
record Before (w done : List ℕ) : Type 0 where
  first : ℕ
  more : List ℕ
  are : every is_blank (first ∷ more) ≡ true
  is : without_blanks done ≡ w ++ (first ∷ more)

before : (w done : List ℕ) → is_word_line w done ≡ true → opens_with w done ≡ true → Before w done
unfolding is_word_line opens_with
before w done h o = go (drop (length w) (without_blanks done)) refl
  where
    ms : List ℕ
    ms = without_blanks done

    go : (d : List ℕ) → drop (length w) (without_blanks done) ≡ d → Before w done
    go [] e =
        let z : blank_first [] ≡ true = rw e at (and_right (begins w (without_blanks done)) (blank_first (drop (length w) (without_blanks done))) o) in
        clash z refl
    go (d ∷ ds) e =
        let b = and_left (begins w (without_blanks done)) (every is_blank (drop (length w) (without_blanks done))) h in
        let a = and_right (begins w (without_blanks done)) (every is_blank (drop (length w) (without_blanks done))) h in
        record { first = d; more = ds; are = rw e at a; is = begins-split w (without_blanks done) b ∙ ap (λ (x : List ℕ). w ++ x) e }

-- ## Tokens

-- blanks before other marks
pub gaps : (bs ms : List ℕ) → every is_blank bs ≡ true
    → without_gaps false (tokens_from (no_part []) (bs ++ ms)) ≡ without_gaps false (tokens_from (no_part []) ms)
unfolding without_gaps
gaps [] ms h = refl
gaps (b ∷ bs) ms h = rw (first-gap b (bs ++ ms) (every-head is_blank b bs h)) (gaps bs ms (every-tail is_blank b bs h))

-- what stands after the keyword
word_after : (w : List ℕ) (d : ℕ) (ds : List ℕ) → every in_word w ≡ true → is_blank d ≡ true → after_word (w ++ d ∷ ds) ≡ d ∷ ds
unfolding after_word
word_after [] d ds h b = rw b
word_after (m ∷ w) d ds h b = rw (every-head in_word m w h) (word_after w d ds (every-tail in_word m w h) b)

-- a word before a blank is a token of its own
word-token : (w : List ℕ) (d : ℕ) (ds : List ℕ) → Solid w → every in_word w ≡ true → is_blank d ≡ true
    → tokens_from (no_part []) (w ++ d ∷ ds) ≡ token word w [] ∷ tokens_from (no_part []) (d ∷ ds)
word-token [] d ds s h b = absurd (s.some refl)
word-token (m ∷ w) d ds s h b =
    let t = every-tail in_word m w h in
    first-word m (w ++ d ∷ ds) (every-head in_word m w h)
    ∙ word-whole (m ∷ []) (w ++ d ∷ ds)
    ∙ rw (word_blank w d ds t b, word_after w d ds t b)

-- operands follow a blank
operand : (ds : List ℕ) → operands (token gap [] [] ∷ tokens_from (no_part []) ds) ≡ without_gaps false (tokens_from (no_part []) ds)
unfolding operands
operand ds = refl

-- The tokens of the line: the keyword, and its operands.
pub record LineTokens (comment : Bool) (c : ℕ) (ms : List ℕ) (ts : List Token) : Type 0 where
  pub after : List Token
  pub is : ts ≡ token word (keyword comment) [] ∷ after
  pub rest : operands after ≡ token as_is (c ∷ []) [] ∷ without_gaps true (tokens_from (no_part []) ms)

pub line-tokens : (comment : Bool) (done : List ℕ) (c : ℕ) (ms : List ℕ) → is_word_line (keyword comment) done ≡ true → opens_with (keyword comment) done ≡ true
    → c < 256 → LineTokens comment c ms (tokens_of (done ++ (256 + c) ∷ ms))
unfolding tokens_of without_gaps
line-tokens comment done c ms h o l =
    let v = before (keyword comment) done h o in
    let d = v.first in
    let ds = v.more ++ (256 + c) ∷ ms in
    let a = every-head is_blank d v.more v.are in
    let n : without_blanks done ≡ [] → ⊥ = λ z. nonempty (keyword comment) d v.more (sym v.is ∙ z) in
    let m : without_blanks (done ++ (256 + c) ∷ ms) ≡ keyword comment ++ (d ∷ ds) =
    blanks-append done ((256 + c) ∷ ms) n ∙ rw v.is (append_assoc (keyword comment) (d ∷ v.more) ((256 + c) ∷ ms)) in
    let k : (256 + c) - 256 ≡ c = omega arith in
    record {
      after = tokens_from (no_part []) (d ∷ ds);
      is = rw m (word-token (keyword comment) d ds (keyword-solid comment) (keyword-in comment) a);
      rest = ap operands (first-gap d ds a) ∙ operand ds
          ∙ gaps v.more ((256 + c) ∷ ms) (every-tail is_blank d v.more v.are)
          ∙ rw (first-as-is (256 + c) ms (omega arith) (omega arith), k);
    }

-- ## Text

pub blank-text : (b : ℕ) → is_blank b ≡ true → is_text b ≡ true
blank-text b h = by (eqb b 32) (λ t. rw (eqb-true b 32 t)) (λ t. rw (eqb-true b 9 (rw t at h)))

text-without : (ms : List ℕ) → every is_text (without_blanks ms) ≡ true → every is_text ms ≡ true
unfolding without_blanks every
text-without [] h = refl
text-without (m ∷ ms) h =
    by (is_blank m) (λ t. and_intro (blank-text m t) (text-without ms (rw t at h))) (λ t. rw t at h)

pub keyword-text : (comment : Bool) → every is_text (keyword comment) ≡ true
unfolding bytes every
keyword-text true = refl
keyword-text false = refl

-- the keyword and its blanks are text
pub line-text : (comment : Bool) (done : List ℕ) (c : ℕ) (ms : List ℕ) → is_word_line (keyword comment) done ≡ true
    → every is_text (done ++ (256 + c) ∷ ms) ≡ (is_text (256 + c) && every is_text ms)
unfolding is_word_line every
line-text comment done c ms h =
    let w = keyword comment in
    let b = and_left (begins w (without_blanks done)) (every is_blank (drop (length w) (without_blanks done))) h in
    let a = and_right (begins w (without_blanks done)) (every is_blank (drop (length w) (without_blanks done))) h in
    let t : every is_text done ≡ true =
    text-without done
    (rw (begins-split w (without_blanks done) b)
    (every-both is_text w (drop (length w) (without_blanks done)) (keyword-text comment) (every-mono is_blank is_text blank-text (drop (length w) (without_blanks done)) a))) in
    every_append is_text done ((256 + c) ∷ ms) ∙ rw t
