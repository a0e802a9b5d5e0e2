-- The next operand, from the blanks before it and its token.
use mathlib.Core.Path.{◌≡◌, refl, sym, ap, ◌∙◌, subst}
use mathlib.Core.Bool.{Bool, true, false, not, ◌&&◌}
use mathlib.Core.Logic.{◌⊎◌, inl, inr}
use mathlib.Core.List.{List, [], ◌∷◌}
use Prim.Native.Nat.{ℕ, ◌≤◌, ◌<◌}
use native.Mathlib.Omega.{arith}
use borrow.Author.Tests.{eqb-false, le-leb, lt-leb}
use Rattle.base_lists.proofs.Bools.{clash}
use Rattle.rules.specs.Text.{every}
use Rattle.rules.specs.Tokens.{gap, Token, no_part, tokens_from, is_solid, without_gaps, tokens_refusal}
use Rattle.text_lines.specs.declared.Signs.{Signs}
use Rattle.text_lines.specs.declared.Spot.{Spot}
use Rattle.text_lines.specs.Stream.{marks_left, blank_first}
use Rattle.text_tokens.specs.declared.Tok.{Tok}
use Rattle.text_tokens.specs.declared.Next.{Next}
use Rattle.text_tokens.specs.declared.Next.TheVariants as next
use Rattle.text_tokens.specs.Left.{tokens_left, token_there, TokenIs, NextIs, Skips}
use Rattle.text_operands.specs.Operand.{operands_left, OperandAt}
use Rattle.text_operands.proofs.TidyLaws.{tidy, tokens-tidy}
use Rattle.text_operands.proofs.ListLaws.{gaps-cons, gaps-glued, gaps-broken, gaps-refusal, gaps-blanks, opening-kind}
use Rattle.text_operands.proofs.BlankLaws.{skips-fresh, skips-past}

pub left-tidy : (g : Signs) (src : List ℕ) (p : Spot) → every tidy (tokens_left g src p) ≡ true
unfolding tokens_left
left-tidy g src p = tokens-tidy (marks_left g src p)

-- past blanks, where nothing is glued
pub past-free : (g : Signs) (src : List ℕ) (p : Spot) {q : Spot} → Skips g src p q → operands_left g src false p ≡ operands_left g src false q
unfolding operands_left tokens_left
past-free g src p v =
    gaps-blanks false (marks_left g src p) ∙ ap (λ (ms : List ℕ). without_gaps false (tokens_from (no_part []) ms)) (sym v.marks)

and-not : (a : Bool) {b : Bool} → b ≡ true → (a && not b) ≡ false
and-not true h = rw h
and-not false h = refl

and_none : (a : Bool) {b : Bool} → b ≡ false → (a && b) ≡ false
and_none true h = h
and_none false h = refl

module _ (g : Signs) (src : List ℕ) (glued : Bool) (p : Spot) {apart : Bool} {q : Spot} (b : apart ≡ blank_first (marks_left g src p)) (v : Skips g src p q) where
  -- whether what comes after the blanks is glued to what stands before them
  abbrev held : Bool
  held = glued && not (blank_first (marks_left g src p))

  past : operands_left g src glued p ≡ without_gaps held (tokens_left g src q)
  unfolding operands_left tokens_left
  past = gaps-blanks glued (marks_left g src p) ∙ ap (λ (ms : List ℕ). without_gaps (glued && not (blank_first (marks_left g src p))) (tokens_from (no_part []) ms)) (sym v.marks)

  module _ {n : Next} (w : NextIs g src q n) where
    pub operand-end : n ≡ next.End → operands_left g src glued p ≡ []
    unfolding without_gaps
    operand-end e = let z : tokens_left g src q ≡ [] = subst (NextIs g src q) e w in past ∙ rw z

    pub operand-broken : n ≡ next.Broken → tokens_refusal (operands_left g src glued p) ≡ 3
    operand-broken e =
        let z : tokens_refusal (tokens_left g src q) ≡ 3 = subst (NextIs g src q) e w in
        rw past (gaps-refusal held (tokens_left g src q) (left-tidy g src q) z)

    module _ {t : Tok} (e : n ≡ next.Token t) where
      there : TokenIs g src q t
      there = subst (NextIs g src q) e w

      from_first : operands_left g src glued p ≡ without_gaps held (token_there g src q ∷ tokens_left g src t.next)
      from_first = past ∙ ap (λ (ts : List Token). without_gaps held ts) there.first

      pub operand-dead : t.kind ≡ 3 → tokens_refusal (operands_left g src glued p) ≡ 3
      operand-dead h = rw from_first (gaps-broken held (token_there g src q) (tokens_left g src t.next) (there.kind ∙ h))

      pub operand-glued : (3 ≤ t.kind) × (apart ≡ false) × (glued ≡ true) → tokens_refusal (operands_left g src glued p) ≡ 3
      operand-glued (h, a, k) =
          rw from_first
          (gaps-glued held (token_there g src q) (tokens_left g src t.next) (rw (k, sym b ∙ a)) (rw there.kind (le-leb 3 t.kind h)))

      no_gap : (token_there g src q).kind ≡ gap → ⊥
      unfolding token_there
      no_gap = eqb-false (token_there g src q).kind gap (rw v.tokens (opening-kind (tokens_left g src p)))

      module _ (h : t.kind ≡ 3 → ⊥) where
        -- it is not glued to one before it, and a blank was passed where it might be
        at : (held && is_solid (token_there g src q)) ≡ false → (glued ≡ true → 3 ≤ t.kind → q.fresh ≡ true) → OperandAt g src glued p q t
        unfolding operands_left
        at f k =
            record {
              first = from_first ∙ gaps-cons held (token_there g src q) (tokens_left g src t.next) no_gap f ∙ rw there.kind;
              token = there;
              seen = let z = no_gap in let y = there.kind in omega arith;
              whole = h;
              fresh = skips-fresh v;
              apart = k;
              mode = v.mode;
              from = v.from;
              to = v.to;
              walk = v.walk;
            }

        pub operand-separator : t.kind < 3 → OperandAt g src glued p q t
        operand-separator l = at (and_none held (rw there.kind (lt-leb 3 t.kind l))) (λ k m. absurd (omega arith))

        operand-apart : apart ≡ true → OperandAt g src glued p q t
        operand-apart a =
            let z : blank_first (marks_left g src p) ≡ true = sym b ∙ a in
            at (rw (and-not glued z)) (λ k m. skips-past v z)

        pub operand-free : glued ≡ false → OperandAt g src glued p q t
        operand-free k = at (rw k) (λ l m. clash l k)

        pub operand-whole : (t.kind < 3) ⊎ (((3 ≤ t.kind) × (apart ≡ true)) ⊎ ((3 ≤ t.kind) × (apart ≡ false) × (glued ≡ false))) → OperandAt g src glued p q t
        operand-whole (inl l) = operand-separator l
        operand-whole (inr (inl (l, a))) = operand-apart a
        operand-whole (inr (inr (l, a, k))) = operand-free k
