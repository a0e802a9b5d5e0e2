-- Refusals of an order line's operands (Rattle.rules.specs.OrderLines): none, or from 3 to 7, so 3 wins wherever it stands.
use mathlib.Core.Path.{◌≡◌, refl, ◌∙◌}
use mathlib.Core.Bool.{Bool, false, ◌&&◌, ◌||◌}
use mathlib.Core.List.{List, [], ◌∷◌, map}
use native.Mathlib.Omega.{arith}
use lib.ListN.{length}
use lib.Dec.{eqb, leb}
use borrow.Author.Tests.{ne_eqb}
use Rattle.base_lists.proofs.Lists.{All}
use Rattle.rules.specs.Text.{every, is, ◌unless◌, lower, lowest}
use Rattle.rules.specs.Tokens.{Token}
use Rattle.rules.specs.State.{Subject}
use Rattle.rules.specs.OrderLines.{is_names, subject_of}
use Rattle.rules.proofs.RefusalLaws.{Bounded, bounded-none, bounded-lowest, bounded-unless}
use Rattle.text_tokens.proofs.RefusalLaws.{three-left}
use Rattle.locale_weights.specs.Weights.{weight_refusal_by, weights_refusal_by}

-- 3 and what else an operand can have
pub three-others : (b c : Bool) → lower 3 (lowest ((6 unless b) ∷ (7 unless c) ∷ [])) ≡ 3
three-others b c =
    let rs = (6 unless b) ∷ (7 unless c) ∷ [] in
    three-left (lowest rs) (bounded-lowest 3 7 rs (bounded-unless 3 7 6 b refl, (bounded-unless 3 7 7 c refl, tt)))

module _ (f : Subject → Bool) where
  pub bounded-weight : (w : List Token) → Bounded 3 7 (weight_refusal_by f w)
  unfolding weight_refusal_by
  bounded-weight [] = bounded-none 3 7
  bounded-weight (t ∷ ts) =
      let a = eqb (length ts) 0 && (is_names t || is t.text "IGNORE") in
      let b = every f (map subject_of t.names) in
      let c = leb (length t.names) 8 in
      bounded-lowest 3 7 ((3 unless a) ∷ (6 unless b) ∷ (7 unless c) ∷ [])
      (bounded-unless 3 7 3 a refl, (bounded-unless 3 7 6 b refl, (bounded-unless 3 7 7 c refl, tt)))

  bounded-all : (ws : List (List Token)) → All (Bounded 3 7) (map (weight_refusal_by f) ws)
  bounded-all [] = tt
  bounded-all (w ∷ ws) = (bounded-weight w, bounded-all ws)

  pub bounded-weights : (ws : List (List Token)) → Bounded 3 7 (weights_refusal_by f ws)
  unfolding weights_refusal_by
  bounded-weights ws = bounded-lowest 3 7 (map (weight_refusal_by f) ws) (bounded-all ws)

  -- an operand of two tokens
  pub weight-two : (t u : Token) (ts : List Token) → weight_refusal_by f (t ∷ u ∷ ts) ≡ 3
  unfolding weight_refusal_by lowest
  weight-two t u ts =
      let e : eqb (length (u ∷ ts)) 0 ≡ false = ne_eqb (length (u ∷ ts)) 0 (λ z. omega arith) in
      rw e (three-others (every f (map subject_of t.names)) (leb (length t.names) 8))

  pub weights-cons : (w : List Token) (ws : List (List Token)) → weights_refusal_by f (w ∷ ws) ≡ lower (weight_refusal_by f w) (weights_refusal_by f ws)
  unfolding weights_refusal_by lowest
  weights-cons w ws = refl

  pub weights-none : weights_refusal_by f [] ≡ 0
  unfolding weights_refusal_by lowest
  weights-none = refl

  -- a malformed operand first
  pub weights-three : (w : List Token) (ws : List (List Token)) → weight_refusal_by f w ≡ 3 → weights_refusal_by f (w ∷ ws) ≡ 3
  weights-three w ws e = weights-cons w ws ∙ rw e (three-left (weights_refusal_by f ws) (bounded-weights ws))
