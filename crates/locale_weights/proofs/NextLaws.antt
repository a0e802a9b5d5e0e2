-- The next operand: a law for each way to return.
use mathlib.Core.Path.{◌≡◌, refl, sym, ap, ◌∙◌, subst}
use mathlib.Core.Bool.{Bool, true, false, false≢true}
use mathlib.Core.List.{List, [], ◌∷◌}
use Prim.Native.Nat.{ℕ, ◌≤◌}
use native.Mathlib.Omega.{arith}
use lib.ListN.{length}
use lib.Dec.{eqb, leb}
use borrow.Author.Tests.{ne_eqb}
use Rattle.rules.specs.Text.{every}
use Rattle.rules.specs.Lines.{in_plain}
use Rattle.rules.specs.Tokens.{semi, broken, Token}
use Rattle.rules.specs.OrderLines.{split_at}
use Rattle.rules.proofs.TextLaws.{every-head}
use Rattle.text_lines.specs.declared.Signs.{Signs}
use Rattle.text_lines.specs.declared.Spot.{Spot}
use Rattle.text_lines.proofs.RunLaws.{walk_none, walk-then}
use Rattle.text_tokens.specs.declared.Tok.{Tok}
use Rattle.text_tokens.specs.Left.{token_there}
use Rattle.text_tokens.proofs.RefusalLaws.{refusal-later}
use Rattle.text_operands.specs.declared.Operand.{Operand}
use Rattle.text_operands.specs.declared.Operand.TheVariants as operand
use Rattle.text_operands.specs.Operand.{operands_left, OperandAt, OperandIs}
use Rattle.locale_weights.specs.declared.Tail.{Tail}
use Rattle.locale_weights.specs.declared.Tail.TheVariants as tail
use Rattle.locale_weights.specs.Weights.{separator, EmptyWeight, OneWeight, BadWeights, MoreWeights, BadTail, TailIs}
use Rattle.locale_weights.proofs.MadeLaws.{made, operands-made, made-semi}
use Rattle.locale_weights.proofs.SplitLaws.{split-end, split-semi, split-more, bad-tokens, bad-two}

-- a `;` is read
module _ {g : Signs} {src : List ℕ} {glued : Bool} {p q : Spot} {t : Tok} (v : OperandAt g src glued p q t) (e : t.kind ≡ semi) where
  semi-left : operands_left g src glued p ≡ separator ∷ operands_left g src false t.next
  semi-left =
      let u = token_there g src q in
      let rest = operands_left g src (leb broken t.kind) t.next in
      let m : made u ≡ true = every-head made u rest (ap (λ (ts : List Token). every made ts) (sym v.first) ∙ operands-made g src glued p) in
      v.first ∙ ap (λ (x : Token). x ∷ rest) (made-semi u m (v.token.kind ∙ e)) ∙ rw e

-- ## What follows a token

module _ (g : Signs) (src : List ℕ) (glued : Bool) (p : Spot) {o : Operand} (v : OperandIs g src glued p o) where
  pub tail-end : o ≡ operand.End → operands_left g src glued p ≡ []
  tail-end e = subst (OperandIs g src glued p) e v

  pub tail-broken : o ≡ operand.Broken → BadTail (operands_left g src glued p)
  tail-broken e =
      let os = operands_left g src glued p in
      record { behind = λ (t : Token) (h : eqb t.kind semi ≡ false). bad-tokens (t ∷ os) (refusal-later t os (subst (OperandIs g src glued p) e v)) }

  module _ {q : Spot} {t : Tok} (e : o ≡ operand.Token q t) where
    follows : OperandAt g src glued p q t
    follows = subst (OperandIs g src glued p) e v

    pub tail_more : t.kind ≡ 1 → MoreWeights g src glued p t.next
    tail_more k =
        record {
          on = semi-left follows k;
          less = (let a = follows.from in let b = follows.token.on in omega arith);
          mode = follows.token.plain;
          to = follows.token.to;
          walk = walk-then follows.walk follows.token.walk;
        }

    pub tail-two : (t.kind ≡ 1 → ⊥) → BadTail (operands_left g src glued p)
    tail-two k =
        let u = token_there g src q in
        let rest = operands_left g src (leb 3 t.kind) t.next in
        record {
          behind = λ (x : Token) (h : eqb x.kind semi ≡ false).
              subst (λ (ts : List Token). BadWeights (x ∷ ts)) (sym follows.first) (bad-two x u rest h (rw follows.token.kind (ne_eqb t.kind semi k)));
        }

-- ## The operand

module _ (g : Signs) (src : List ℕ) (p : Spot) {o : Operand} (v : OperandIs g src false p o) where
  pub weight-end : p.at ≤ length src → p.mode ≡ in_plain → o ≡ operand.End → EmptyWeight g src p false p
  weight-end h m e =
      record {
        on = λ z. absurd (false≢true z);
        last = λ z. subst (OperandIs g src false p) e v;
        split-on = λ z. absurd (false≢true z);
        less = λ z. absurd (false≢true z);
        mode = m;
        to = h;
        walk = walk_none g src p;
      }

  pub weight-broken : o ≡ operand.Broken → BadWeights (operands_left g src false p)
  weight-broken e = bad-tokens (operands_left g src false p) (subst (OperandIs g src false p) e v)

  module _ {q : Spot} {t : Tok} (e : o ≡ operand.Token q t) where
    at : OperandAt g src false p q t
    at = subst (OperandIs g src false p) e v

    pub weight-empty : t.kind ≡ 1 → EmptyWeight g src p true t.next
    weight-empty k =
        let left : operands_left g src false p ≡ separator ∷ operands_left g src false t.next = semi-left at k in
        record {
          on = λ z. left;
          last = λ z. absurd (false≢true (sym z));
          split-on = λ z. ap (λ (ts : List Token). split_at [] ts) left ∙ split-semi [] separator (operands_left g src false t.next) refl;
          less = λ z. (let a = at.from in let b = at.token.on in omega arith);
          mode = at.token.plain;
          to = at.token.to;
          walk = walk-then at.walk at.token.walk;
        }

    no-semi : (t.kind ≡ 1 → ⊥) → eqb (token_there g src q).kind semi ≡ false
    no-semi k = rw at.token.kind (ne_eqb t.kind semi k)

    module _ (k : t.kind ≡ 1 → ⊥) {u : Tail} (w : TailIs g src (leb 3 t.kind) t.next u) where
      pub weight-bad : u ≡ tail.Bad → BadWeights (operands_left g src false p)
      weight-bad f =
          let z : BadTail (operands_left g src (leb 3 t.kind) t.next) = subst (TailIs g src (leb 3 t.kind) t.next) f w in
          subst BadWeights (sym at.first) (z.behind (token_there g src q) (no-semi k))

      pub weight-last : u ≡ tail.Last → OneWeight g src p q t false t.next
      weight-last f =
          let T = token_there g src q in
          let z : operands_left g src (leb 3 t.kind) t.next ≡ [] = subst (TailIs g src (leb 3 t.kind) t.next) f w in
          let left : operands_left g src false p ≡ T ∷ [] = at.first ∙ ap (λ (ts : List Token). T ∷ ts) z in
          record {
            token = at.token;
            seen = (let a = at.seen in omega arith);
            whole = at.whole;
            on = λ y. absurd (false≢true y);
            last = λ y. left;
            split-on = λ y. absurd (false≢true y);
            split-last = λ y. ap (λ (ts : List Token). split_at [] ts) left ∙ split-more [] T [] (no-semi k) ∙ split-end (T ∷ []);
            begin-mode = at.mode;
            begin-to = at.to;
            less = (let a = at.from in let b = at.token.on in omega arith);
            mode = at.token.plain;
            to = at.token.to;
            walk = walk-then at.walk at.token.walk;
          }

      pub weight-one : {n : Spot} → u ≡ tail.More n → OneWeight g src p q t true n
      weight-one {n} f =
          let T = token_there g src q in
          let z : MoreWeights g src (leb 3 t.kind) t.next n = subst (TailIs g src (leb 3 t.kind) t.next) f w in
          let rest = operands_left g src false n in
          let left : operands_left g src false p ≡ T ∷ separator ∷ rest = at.first ∙ ap (λ (ts : List Token). T ∷ ts) z.on in
          record {
            token = at.token;
            seen = (let a = at.seen in omega arith);
            whole = at.whole;
            on = λ y. left;
            last = λ y. absurd (false≢true (sym y));
            split-on = λ y. ap (λ (ts : List Token). split_at [] ts) left ∙ split-more [] T (separator ∷ rest) (no-semi k) ∙ split-semi (T ∷ []) separator rest refl;
            split-last = λ y. absurd (false≢true (sym y));
            begin-mode = at.mode;
            begin-to = at.to;
            less = (let a = at.from in let b = at.token.on in let c = z.less in omega arith);
            mode = z.mode;
            to = z.to;
            walk = walk-then (walk-then at.walk at.token.walk) z.walk;
          }
