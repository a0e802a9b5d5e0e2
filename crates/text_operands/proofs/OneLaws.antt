-- One operand: a word, and nothing more.
use mathlib.Core.Path.{◌≡◌, refl, sym, ap, ◌∙◌, subst}
use mathlib.Core.Bool.{Bool, true, false, ◌&&◌}
use mathlib.Core.List.{List, [], ◌∷◌}
use Prim.Native.Nat.{ℕ}
use lib.ListN.{length}
use lib.Dec.{eqb, leb}
use borrow.Author.Tests.{eqb-true, leb-true}
use Rattle.base_lists.proofs.Bools.{and_left, and_right}
use Rattle.base_lists.proofs.Lists.{length-zero}
use Rattle.rules.specs.Tokens.{word, Token, token, single, without_gaps}
use Rattle.rules.proofs.TextLaws.{every-head}
use Rattle.text_lines.specs.declared.Signs.{Signs}
use Rattle.text_lines.specs.declared.Spot.{Spot}
use Rattle.text_lines.specs.Stream.{marks_left}
use Rattle.text_tokens.specs.declared.Tok.{Tok}
use Rattle.text_tokens.specs.Left.{tokens_left, token_there, word_in}
use Rattle.text_operands.specs.declared.Operand.{Operand}
use Rattle.text_operands.specs.declared.Operand.TheVariants as operand
use Rattle.text_operands.specs.Operand.{operands_left, OperandAt, OperandIs, WordAlone}
use Rattle.text_operands.proofs.TidyLaws.{tidy}
use Rattle.text_operands.proofs.ListLaws.{gaps-tidy, single-broken}
use Rattle.text_operands.proofs.NextLaws.{left-tidy}

-- a token of its parts
parts : (t : Token) (k : ℕ) (x : List ℕ) (ns : List (List ℕ)) → t.kind ≡ k → t.text ≡ x → t.names ≡ ns → t ≡ token k x ns
parts t k x ns a b c =
    ap (λ (z : ℕ). token z t.text t.names) a ∙ ap (λ (z : List ℕ). token k z t.names) b ∙ ap (λ (z : List (List ℕ)). token k x z) c

-- a tidy word has a byte and no names
tidy-word : (t : Token) → t.kind ≡ word → tidy t ≡ true → (leb 1 (length t.text) && eqb (length t.names) 0) ≡ true
tidy-word t e h = rw e at h

module _ (g : Signs) (src : List ℕ) (p : Spot) {o : Operand} (v : OperandIs g src false p o) where
  module _ {q : Spot} {t : Tok} (e : o ≡ operand.Token q t) where
    at : OperandAt g src false p q t
    at = subst (OperandIs g src false p) e v

    module _ (k : t.kind ≡ 4) {n : Bool} (f : n ≡ eqb (length (operands_left g src true t.next)) 0) where
      first : operands_left g src false p ≡ token_there g src q ∷ operands_left g src true t.next
      first = at.first ∙ rw k

      pub word-alone : p.fresh ≡ true → n ≡ true → WordAlone g src (operands_left g src false p) q
      word-alone h z =
          let u = token_there g src q in
          let ts = operands_left g src true t.next in
          let i : u.kind ≡ word = at.token.kind ∙ k in
          let x : u.text ≡ word_in (marks_left g src q) = at.token.word k in
          let y = tidy-word u i (every-head tidy u (tokens_left g src t.next) (rw (← at.token.first) (left-tidy g src q))) in
          let l = leb-true 1 (length u.text) (and_left (leb 1 (length u.text)) (eqb (length u.names) 0) y) in
          let ns = length-zero u.names (eqb-true (length u.names) 0 (and_right (leb 1 (length u.text)) (eqb (length u.names) 0) y)) in
          let w = length-zero ts (eqb-true (length ts) 0 (sym f ∙ z)) in
          record {
            alone = first ∙ ap (λ (us : List Token). u ∷ us) w ∙ ap (λ (z : Token). z ∷ []) (parts u word (word_in (marks_left g src q)) [] i x ns);
            some = rw (← x) l;
            fresh = at.fresh h;
            mode = at.mode;
            to = at.to;
          }

-- no operand is left, or the next one is malformed
pub word-missing : (g : Signs) (src : List ℕ) (p : Spot) (o : Operand) → OperandIs g src false p o → ((q : Spot) → (t : Tok) → o ≡ operand.Token q t → ⊥)
    → single word (operands_left g src false p) ≡ false
unfolding operands_left
word-missing g src p (operand.Token q t) v h = absurd (h q t refl)
word-missing g src p operand.Broken v h =
    single-broken (without_gaps false (tokens_left g src p)) (gaps-tidy false (tokens_left g src p) (left-tidy g src p)) v
word-missing g src p operand.End v h = ap (λ (ts : List Token). single word ts) v
