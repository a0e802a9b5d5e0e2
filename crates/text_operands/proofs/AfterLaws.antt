-- What follows the first token of a line: operands after a blank, or none.
use mathlib.Core.Path.{◌≡◌, refl, sym, ap, ◌∙◌, subst}
use mathlib.Core.Bool.{Bool, true, false}
use mathlib.Core.List.{List, [], ◌∷◌}
use Prim.Native.Nat.{ℕ, ◌-◌, ◌≤◌, ◌<◌}
use native.Mathlib.Omega.{arith}
use lib.ListN.{length}
use lib.Dec.{eqb, leb}
use borrow.Author.Tests.{eqb-false, lt-leb}
use Rattle.rules.specs.Lines.{in_plain}
use Rattle.rules.specs.Tokens.{gap, broken, Token, token, token_at, no_part, tokens_from, without_blanks, operands, tokens_refusal}
use Rattle.text_lines.specs.declared.Signs.{Signs}
use Rattle.text_lines.specs.declared.Spot.{Spot}
use Rattle.text_lines.specs.Stream.{marks_left, blank_first}
use Rattle.text_tokens.specs.declared.Tok.{Tok}
use Rattle.text_tokens.specs.declared.Next.{Next}
use Rattle.text_tokens.specs.declared.Next.TheVariants as next
use Rattle.text_tokens.specs.Left.{tokens_left, token_there, PlainAt, TokenIs, NextIs, Skips}
use Rattle.text_tokens.proofs.GapLaws.{opening-gaps, kept-first}
use Rattle.text_tokens.proofs.AheadLaws.{ahead-solid}
use Rattle.text_tokens.proofs.RefusalLaws.{refusal-broken}
use Rattle.text_operands.specs.declared.Operand.{Operand}
use Rattle.text_operands.specs.declared.Operand.TheVariants as operand
use Rattle.text_operands.specs.declared.After.{After}
use Rattle.text_operands.specs.declared.After.TheVariants as after
use Rattle.text_operands.specs.Operand.{operands_left, OperandAt, OperandIs, OperandsFrom, AfterIs}
use Rattle.text_operands.proofs.ListLaws.{blankless, opening-kind, operands-solid, operands-blank, operands-none, none-refused, some, none-broken, some-kept}
use Rattle.text_operands.proofs.BlankLaws.{skips-past}
use Rattle.text_operands.proofs.NextLaws.{past-free}

-- ## After the first token

module _ (g : Signs) (src : List ℕ) (p : Spot) where
  pub after-blank : {b : Bool} {x : Spot} → b ≡ blank_first (marks_left g src p) → b ≡ true → Skips g src p x → OperandsFrom g src p x
  unfolding operands_left tokens_left
  after-blank {x = x} e h v =
      let k : blank_first (marks_left g src p) ≡ true = sym e ∙ h in
      record {
        operands = operands-blank (marks_left g src p) k ∙ past-free g src p v;
        fresh = skips-past v k;
        mode = v.mode;
        from = v.from;
        to = v.to;
        walk = v.walk;
      }

  module _ {b : Bool} (e : b ≡ blank_first (marks_left g src p)) (h : b ≡ false) where
    -- the first token is no gap
    no_gap : eqb (token_at (tokens_left g src p) 0).kind gap ≡ false
    unfolding tokens_left
    no_gap =
        let ms = marks_left g src p in
        let k : tokens_from (no_part []) ms ≡ tokens_from (no_part []) (without_blanks ms) = ap (λ (x : List ℕ). tokens_from (no_part []) x) (sym (blankless ms (sym e ∙ h))) in
        ap (λ (ts : List Token). eqb (token_at ts 0).kind gap) (k ∙ opening-gaps ms) ∙ opening-kind (tokens_from (no_part []) ms)

    module _ {n : Next} (v : NextIs g src p n) where
      pub after-end : n ≡ next.End → operands (tokens_left g src p) ≡ []
      unfolding operands
      after-end f = let z : tokens_left g src p ≡ [] = subst (NextIs g src p) f v in rw z

      pub after-broken : n ≡ next.Broken → operands (tokens_left g src p) ≡ token broken [] [] ∷ []
      after-broken f = operands-none (tokens_left g src p) no_gap (subst (NextIs g src p) f v)

      pub after-solid : {t : Tok} → n ≡ next.Token t → operands (tokens_left g src p) ≡ token broken [] [] ∷ []
      unfolding token_there
      after-solid {t} f =
          let z : TokenIs g src p t = subst (NextIs g src p) f v in
          ap operands z.first ∙ operands-solid (token_there g src p) (tokens_left g src t.next) (eqb-false (token_there g src p).kind gap no_gap)

-- ## What the answers say

module _ (g : Signs) (src : List ℕ) (p : Spot) {a : After} (v : AfterIs g src p a) where
  pub refusal-none : a ≡ after.None → 0 ≡ tokens_refusal (operands (tokens_left g src p))
  refusal-none e = let none : operands (tokens_left g src p) ≡ [] = subst (AfterIs g src p) e v in sym (ap tokens_refusal none ∙ none-refused)

  pub refusal-malformed : a ≡ after.Broken → 3 ≡ tokens_refusal (operands (tokens_left g src p))
  refusal-malformed e =
      let malformed : operands (tokens_left g src p) ≡ token broken [] [] ∷ [] = subst (AfterIs g src p) e v in
      sym (ap tokens_refusal malformed ∙ refusal-broken (token broken [] []) [] refl)

  pub after-plain : {x : Spot} → a ≡ after.Operands x → (x.at ≤ length src) × (x.mode ≡ in_plain)
  after-plain {x} e = let from : OperandsFrom g src p x = subst (AfterIs g src p) e v in (from.to, from.mode)

-- ## What the next operand says

module _ (g : Signs) (src : List ℕ) (glued : Bool) (p : Spot) {o : Operand} (v : OperandIs g src glued p o) where
  module _ {q : Spot} {t : Tok} (e : o ≡ operand.Token q t) where
    at : OperandAt g src glued p q t
    at = subst (OperandIs g src glued p) e v

    -- what reading on from the spot after it requires
    pub next-plain : (t.next.at ≤ length src) × (t.next.mode ≡ in_plain)
    next-plain = (at.token.to, at.token.plain)

    -- less is left of the source
    pub next-less : length src - t.next.at < length src - p.at
    next-less = let x = at.from in let y = at.token.on in let z = at.token.to in omega arith

-- an operand is still to come, or one that is malformed
pub left-any : (g : Signs) (src : List ℕ) (glued : Bool) (p : Spot) (o : Operand) → OperandIs g src glued p o → (o ≡ operand.End → ⊥)
    → false ≡ eqb (length (operands_left g src glued p)) 0
left-any g src glued p (operand.Token q t) v h =
    sym (ap (λ (ts : List Token). eqb (length ts) 0) v.first ∙ some (token_there g src q) (operands_left g src (leb broken t.kind) t.next))
left-any g src glued p operand.Broken v h = sym (none-broken (operands_left g src glued p) v)
left-any g src glued p operand.End v h = absurd (h refl)

-- a visible byte is not the end
pub left-solid : (g : Signs) (src : List ℕ) (glued : Bool) (p : Spot) → p.mode ≡ in_plain → {b : ℕ} → PlainAt g src p.at b → 32 < b
    → leb b 32 ≡ eqb (length (operands_left g src glued p)) 0
unfolding operands_left tokens_left
left-solid g src glued p o {b} v l =
    let m = ahead-solid g src p o v l in
    lt-leb b 32 l
    ∙ sym (rw m.marks (some-kept glued (kept-first b (marks_left g src _) (sym m.step.fresh))))
