-- A line of elif, else or endif outside every chain: the paper refuses it as misplaced, whatever follows its word.
use mathlib.Core.Path.{◌≡◌, refl, ap, ◌∙◌}
use mathlib.Core.Logic.{◌⊎◌, inl, inr}
use mathlib.Core.Bool.{Bool, true, false, not, ◌&&◌, and-false, false≢true}
use mathlib.Core.List.{List, [], ◌∷◌}
use Prim.Native.Nat.{ℕ}
use Prim.Native.String.{String}
use native.Mathlib.Omega.{arith}
use lib.ListN.{length, get_or}
use lib.Dec.{eqb, ltb}
use borrow.Author.Tests.{eqb-true}
use Rattle.base_lists.proofs.Bools.{and_left, and_right, by}
use Rattle.rules.specs.Text.{bytes, every, is, ◌unless◌, lower}
use Rattle.rules.specs.Tokens.{is_text, word, Token, tokens_of, operands, tokens_refusal}
use Rattle.rules.specs.State.{Chain, State, in_collate, Outcome}
use Rattle.rules.specs.Conditionals.{no_chain, toggle_refusal, elif_line}
use Rattle.rules.specs.Source.{collate_line, token_line, whole_line}
use Rattle.rules.proofs.TextLaws.{same_true}
use Rattle.text_tokens.proofs.RefusalLaws.{three-last}
use Rattle.text_operands.proofs.LateLaws.{three-lowest}
use Rattle.locale_opening.proofs.CollateLaws.{late-toggle, line_word, whole-tokens}
use Rattle.locale_opening.proofs.KeywordLaws.{at-elif, at-else, at-endif}
use Rattle.locale_sheet.specs.Words.{is_turn, turns_first, Malformed}

-- ## The word

is-text : (w : List ℕ) (text : String) → is w text ≡ true → w ≡ bytes text
unfolding is
is-text w text h = same_true w (bytes text) h

abbrev refusal_of : Outcome → ℕ
refusal_of o = o.refusal

module _ (s : State) (number : ℕ) (none : s.blocks.chains ≡ []) where
  module _ (w : List ℕ) (ts : List Token) where
    stray-elif : is w "elif" ≡ true → (collate_line s number w ts).refusal ≡ 3
    unfolding elif_line
    stray-elif h =
        ap refusal_of (at-elif s number w ts (is-text w "elif" h))
        ∙ ap (λ (cs : List Chain). lower (3 unless not (get_or cs 0 no_chain).closed) (toggle_refusal s ts)) none
        ∙ three-lowest (toggle_refusal s ts) (late-toggle s ts)

    stray-else : is w "else" ≡ true → (collate_line s number w ts).refusal ≡ 3
    stray-else h =
        ap refusal_of (at-else s number w ts (is-text w "else" h))
        ∙ ap (λ (cs : List Chain). 3 unless (eqb (length ts) 0 && not (get_or cs 0 no_chain).closed)) none
        ∙ ap (λ (b : Bool). 3 unless b) (and-false (eqb (length ts) 0))

    stray-endif : is w "endif" ≡ true → (collate_line s number w ts).refusal ≡ 3
    stray-endif h =
        ap refusal_of (at-endif s number w ts (is-text w "endif" h))
        ∙ ap (λ (cs : List Chain). 3 unless (eqb (length ts) 0 && ltb 0 (length cs))) none
        ∙ ap (λ (b : Bool). 3 unless b) (and-false (eqb (length ts) 0))

    stray-word : is_turn w ≡ true → (collate_line s number w ts).refusal ≡ 3
    stray-word h = by (is w "elif") stray-elif (λ a. by (is w "else") stray-else (λ b. stray-endif (rw (a, b) at h)))

  -- ## The line

  module _ (inside : in_collate s ≡ true) where
    stray-tokens : (ts : List Token) → turns_first ts ≡ true → (token_line s number ts).refusal ≡ 3
    stray-tokens [] h = absurd (false≢true h)
    stray-tokens (t ∷ ts) h =
        let k = eqb-true t.kind word (and_left (eqb t.kind word) (is_turn t.text) h) in
        ap refusal_of (line_word s number inside t ts k)
        ∙ ap (lower (tokens_refusal (t ∷ operands ts))) (stray-word t.text (operands ts) (and_right (eqb t.kind word) (is_turn t.text) h))
        ∙ three-last (t ∷ operands ts)

    pub stray-line : (marks : List ℕ) → (turns_first (tokens_of marks) ≡ true) ⊎ Malformed marks → (whole_line s number marks).refusal ≡ lower (2 unless every is_text marks) 3
    stray-line marks (inl h) = ap refusal_of (whole-tokens s number inside marks refl refl) ∙ ap (lower (2 unless every is_text marks)) (stray-tokens (tokens_of marks) h)
    stray-line marks (inr h) = h s number inside

-- ## Its refusal

pub stray-some : (text : Bool) → lower (2 unless text) 3 ≡ 0 → ⊥
unfolding lower
stray-some true e = omega (arith, e)
stray-some false e = omega (arith, e)
