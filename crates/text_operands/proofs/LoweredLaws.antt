-- The lowest refusal of the operands, one after the other.
use Rattle.std.specs.Prelude.{Option, None}
use Rattle.base_units.specs.declared.Refusal.{Refusal}
use Rattle.base_units.specs.Numbers.{number_or_none}
use mathlib.Core.Path.{◌≡◌, refl, sym, ap, ◌∙◌, subst}
use mathlib.Core.Bool.{Bool}
use mathlib.Core.List.{List, [], ◌∷◌, ◌++◌, append_assoc}
use Prim.Native.Nat.{ℕ, ◌≤◌}
use lib.ListN.{length}
use lib.Dec.{leb}
use Rattle.rules.specs.Text.{lower}
use Rattle.rules.specs.Lines.{in_plain}
use Rattle.rules.specs.Tokens.{broken, Token, tokens_refusal}
use Rattle.text_lines.specs.declared.Signs.{Signs}
use Rattle.text_lines.specs.declared.Spot.{Spot}
use Rattle.text_tokens.specs.declared.Tok.{Tok}
use Rattle.text_tokens.specs.Left.{token_there}
use Rattle.text_operands.specs.declared.Operand.{Operand}
use Rattle.text_operands.specs.declared.Operand.TheVariants as operand
use Rattle.text_operands.specs.Operand.{operands_left, OperandAt, OperandIs}
use Rattle.text_operands.proofs.ListLaws.{none-refused, refusal-snoc, refusal-behind}

-- Some operands are passed from p to q; `refusal` is their lowest.
pub record Lowered (g : Signs) (src : List ℕ) (glued : Bool) (p q : Spot) (held : Bool) (refusal : Option Refusal) : Type 0 where
  pub done : List Token
  pub whole : operands_left g src glued p ≡ done ++ operands_left g src held q
  pub lowest : tokens_refusal done ≡ number_or_none refusal
  pub mode : q.mode ≡ in_plain
  pub to : q.at ≤ length src

pub lowered_none : (g : Signs) (src : List ℕ) (glued : Bool) (p : Spot) → p.at ≤ length src → p.mode ≡ in_plain → Lowered g src glued p p glued None
lowered_none g src glued p h m = record { done = []; whole = refl; lowest = none-refused; mode = m; to = h }

module _ (g : Signs) (src : List ℕ) (glued : Bool) (p q : Spot) (held : Bool) (refusal : Option Refusal) {o : Operand} (v : Lowered g src glued p q held refusal) (w : OperandIs g src held q o) where
  pub lowered-broken : o ≡ operand.Broken → 3 ≡ tokens_refusal (operands_left g src glued p)
  lowered-broken e = sym (ap tokens_refusal v.whole ∙ refusal-behind v.done (operands_left g src held q) (subst (OperandIs g src held q) e w))

  module _ {r : Spot} {t : Tok} (e : o ≡ operand.Token r t) where
    at : OperandAt g src held q r t
    at = subst (OperandIs g src held q) e w

    pub lowered-more : {f : Option Refusal} → number_or_none f ≡ lower (number_or_none refusal) (number_or_none t.refusal) → Lowered g src glued p t.next (leb 3 t.kind) f
    lowered-more {f} k =
        let u = token_there g src r in
        record {
          done = v.done ++ u ∷ [];
          whole = v.whole ∙ ap (λ (ts : List Token). v.done ++ ts) at.first ∙ sym (append_assoc v.done (u ∷ []) (operands_left g src (leb broken t.kind) t.next));
          lowest = refusal-snoc v.done u ∙ rw (v.lowest, at.token.refusal) (sym k);
          mode = at.token.plain;
          to = at.token.to;
        }
