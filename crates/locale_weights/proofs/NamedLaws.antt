-- An operand that is a name, with a `;` or the line's LF right behind it.
use Rattle.std.specs.Prelude.{None, Option, Some, ℕ}
use mathlib.Core.Path.{◌≡◌, refl, subst}
use mathlib.Core.Bool.{true, false}
use mathlib.Core.List.{List, []}
use Prim.Native.Nat.{ℕ, ◌+◌, ◌<◌}
use native.Mathlib.Omega.{arith}
use lib.ListN.{length, get_or}
use Rattle.rules.specs.Lines.{in_plain, after}
use Rattle.rules.specs.Tokens.{without_gaps}
use Rattle.base_units.specs.declared.Refusal.{Refusal}
use Rattle.text_lines.specs.declared.Signs.{Signs}
use Rattle.text_lines.specs.declared.Spot.{Spot}
use Rattle.text_lines.proofs.LineLaws.{spot, ends-feed}
use Rattle.text_tokens.specs.declared.Tok.{Tok}
use Rattle.text_tokens.specs.declared.Next.TheVariants as next
use Rattle.text_tokens.specs.Left.{tokens_left, PlainAt, NameEnds, ClosingIs, bare_at, named_at}
use Rattle.text_tokens.proofs.TokenLaws.{tokens_from-none}
use Rattle.text_tokens.proofs.AheadLaws.{ahead-open, ahead-name, ahead-semi, ahead_none}
use Rattle.text_operands.specs.declared.Operand.TheVariants as operand
use Rattle.text_operands.specs.Operand.{operands_left, OperandAt}
use Rattle.text_operands.proofs.NextLaws.{operand-broken, operand-separator, operand-free}
use Rattle.locale_weights.specs.declared.Tail.TheVariants as tail
use Rattle.locale_weights.specs.Weights.{OneWeight, BadWeights, MoreWeights}
use Rattle.locale_weights.proofs.NextLaws.{tail_more, weight-broken, weight-last, weight-one}

-- behind the last mark no operand comes
none-behind : (g : Signs) (src : List ℕ) (r : Spot) → r.at < length src → get_or src r.at 0 ≡ 10 → operands_left g src true r ≡ []
unfolding operands_left tokens_left without_gaps
none-behind g src r h e = rw ((ends-feed g src r h e).none, tokens_from-none)

-- a `;` right behind a token
semi-behind : (g : Signs) (src : List ℕ) (r : Spot) → r.mode ≡ in_plain → {d : ℕ} → PlainAt g src r.at d → d ≡ 59 → MoreWeights g src true r (spot (r.at + 1) 0 false)
semi-behind g src r o w e =
    let n = spot (r.at + 1) 0 false in
    let a : OperandAt g src true r r (bare_at 1 n) =
    operand-separator g src true r refl (ahead_none g src r o w (omega arith)) {n = next.Token (bare_at 1 n)} (ahead-semi g src r o w e refl) refl (λ z. omega arith) (omega arith) in
    tail_more g src true r {o = operand.Token r (bare_at 1 n)} a refl refl

module _ (g : Signs) (src : List ℕ) (p : Spot) (o : p.mode ≡ in_plain) {b : ℕ} (v : PlainAt g src p.at b) (e : b ≡ 60)
    {c : Option (Option Refusal × Spot)} (k : ClosingIs g src (spot (p.at + 1) 1 false) c) where
  pub named-open : c ≡ None → BadWeights (operands_left g src false p)
  named-open i =
      weight-broken g src p {o = operand.Broken}
      (operand-broken g src false p refl (ahead_none g src p o v (omega arith)) {n = next.Broken} (ahead-open g src p o v e k i) refl) refl

  module _ {f : Option Refusal} {r : Spot} (i : c ≡ Some (f, r)) where
    abbrev this : Tok
    this = named_at f (spot (p.at + 1) 1 false) r

    ends : NameEnds g src (spot (p.at + 1) 1 false) f r
    ends = subst (ClosingIs g src (spot (p.at + 1) 1 false)) i k

    first : OperandAt g src false p p this
    first =
        operand-free g src false p refl (ahead_none g src p o v (omega arith)) {n = next.Token this} (ahead-name g src p o v e k i refl) refl (λ z. omega arith) refl

    pub named-last : {t : Tok} → t ≡ this → r.at < length src → get_or src r.at 0 ≡ 10 → OneWeight g src p p t false r
    named-last j h l = rw j (weight-last g src p {o = operand.Token p this} first refl (λ z. omega arith) {u = tail.Last} (none-behind g src r h l) refl)

    pub named_more : {t : Tok} → t ≡ this → {d : ℕ} → PlainAt g src r.at d → d ≡ 59 → OneWeight g src p p t true (spot (r.at + 1) 0 false)
    unfolding after
    named_more j w l =
        rw j (weight-one g src p {o = operand.Token p this} first refl (λ z. omega arith) {u = tail.More (spot (r.at + 1) 0 false)} (semi-behind g src r ends.mode w l) refl)
