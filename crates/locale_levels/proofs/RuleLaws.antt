-- One rule, read token by token up to the `;` that follows it or to the end.
use mathlib.Core.Path.{◌≡◌, refl, sym, ap, ◌∙◌, subst}
use mathlib.Core.Bool.{Bool, true, false, not, ◌&&◌}
use mathlib.Core.List.{List, [], ◌∷◌, ◌++◌, map}
use Prim.Native.Nat.{ℕ, ◌-◌, ◌≤◌, ◌<◌}
use native.Mathlib.Omega.{arith}
use lib.ListN.{length}
use lib.Dec.{eqb, leb}
use borrow.Author.Tests.{ne_eqb}
use Rattle.base_lists.proofs.Bools.{by, and_left, and_right}
use Rattle.rules.specs.Text.{lower}
use Rattle.rules.specs.Lines.{in_plain}
use Rattle.rules.specs.Tokens.{semi, broken, quote, Token, is_solid, tokens_refusal}
use Rattle.rules.specs.OrderLines.{split_at, rule_code, rules_formed}
use Rattle.text_lines.specs.declared.Signs.{Signs}
use Rattle.text_lines.specs.declared.Spot.{Spot}
use Rattle.text_tokens.specs.declared.Tok.{Tok}
use Rattle.text_tokens.specs.Left.{token_there, TokenIs}
use Rattle.text_tokens.proofs.RefusalLaws.{three-last, refusal-later}
use Rattle.text_operands.specs.declared.Operand.{Operand}
use Rattle.text_operands.specs.declared.Operand.TheVariants as operand
use Rattle.text_operands.specs.Operand.{operands_left, OperandAt, OperandIs}
use Rattle.text_operands.proofs.AfterLaws.{next-less}
use Rattle.locale_levels.specs.Rules.{symbol_of, joined_to, code_of, codes_left, malformed, RuleMore, RuleLast}
use Rattle.locale_levels.proofs.MachineLaws.{state_of, state-snoc, code-state}

-- ## The first token

module _ (part : List Token) (t : Token) (ts : List Token) where
  split-semi : t.kind ≡ semi → split_at part (t ∷ ts) ≡ part ∷ split_at [] ts
  unfolding split_at
  split-semi e = rw e

  split-other : (t.kind ≡ semi → ⊥) → split_at part (t ∷ ts) ≡ split_at (part ++ t ∷ []) ts
  unfolding split_at
  split-other h = rw (ne_eqb t.kind semi h)

module _ (held : Bool) (t : Token) (ts : List Token) where
  formed-semi : t.kind ≡ semi → rules_formed held (t ∷ ts) ≡ rules_formed false ts
  unfolding rules_formed
  formed-semi e = rw e (by held (λ h. rw h) (λ h. rw h))

  formed-other : (not (held && is_solid t) && not (eqb t.kind quote)) ≡ true → rules_formed held (t ∷ ts) ≡ rules_formed (is_solid t) ts
  unfolding rules_formed
  formed-other h =
      let a = and_left (not (held && is_solid t)) (not (eqb t.kind quote)) h in
      let b = and_right (not (held && is_solid t)) (not (eqb t.kind quote)) h in
      rw (a, b)

  formed-ill : (not (held && is_solid t) && not (eqb t.kind quote)) ≡ false → rules_formed held (t ∷ ts) ≡ false
  unfolding rules_formed
  formed-ill h =
      by (not (held && is_solid t))
      (λ a. let b : not (eqb t.kind quote) ≡ false = rw a at h in rw (a, b))
      (λ a. rw a)

-- ## What is malformed

pub malformed-tokens : (ts : List Token) → tokens_refusal ts ≡ 3 → malformed ts ≡ 3
unfolding malformed lower
malformed-tokens ts e = rw e (by (rules_formed false ts) (λ h. rw h) (λ h. rw h))

pub malformed-formed : (ts : List Token) → rules_formed false ts ≡ false → malformed ts ≡ 3
unfolding malformed
malformed-formed ts e = rw e (three-last ts)

-- ## The turns

-- Of the rule that begins at p some tokens are read, up to q; s is what they come to.
pub record Begun (g : Signs) (src : List ℕ) (p q : Spot) (held : Bool) (s : ℕ) : Type 0 where
  pub part : List Token
  pub state : state_of 0 part ≡ s
  pub split : split_at [] (operands_left g src false p) ≡ split_at part (operands_left g src held q)
  pub formed : rules_formed false (operands_left g src false p) ≡ rules_formed held (operands_left g src held q)
  pub refusal : tokens_refusal (operands_left g src held q) ≡ 3 → tokens_refusal (operands_left g src false p) ≡ 3
  pub mode : q.mode ≡ in_plain
  pub from : p.at ≤ q.at
  pub to : q.at ≤ length src

pub begun-none : (g : Signs) (src : List ℕ) (p : Spot) → p.at ≤ length src → p.mode ≡ in_plain → Begun g src p p false 0
unfolding state_of
begun-none g src p h m = record { part = []; state = refl; split = refl; formed = refl; refusal = λ e. e; mode = m; from = omega arith; to = h }

code-part : (part : List Token) {s c : ℕ} → state_of 0 part ≡ s → c ≡ code_of s → rule_code part ≡ c
code-part part e k = code-state part ∙ ap code_of e ∙ sym k

module _ (g : Signs) (src : List ℕ) (p q : Spot) (held : Bool) (s : ℕ) {o : Operand} (v : Begun g src p q held s) (w : OperandIs g src held q o) where
  pub rule-broken : o ≡ operand.Broken → malformed (operands_left g src false p) ≡ 3
  rule-broken e = malformed-tokens (operands_left g src false p) (v.refusal (subst (OperandIs g src held q) e w))

  pub rule-last : {c : ℕ} → o ≡ operand.End → c ≡ code_of s → RuleLast g src p c
  unfolding codes_left split_at rules_formed
  rule-last e k =
      let z : operands_left g src held q ≡ [] = subst (OperandIs g src held q) e w in
      record {
        codes = ap (map rule_code) (v.split ∙ ap (split_at v.part) z) ∙ ap (λ (x : ℕ). x ∷ []) (code-part v.part v.state k);
        formed = v.formed ∙ ap (rules_formed held) z;
      }

  module _ {r : Spot} {t : Tok} (e : o ≡ operand.Token r t) where
    at : OperandAt g src held q r t
    at = subst (OperandIs g src held q) e w

    pub rule-less : length src - t.next.at < length src - q.at
    rule-less = next-less g src held q w e

    -- what symbol_at requires
    pub rule-token : (r.at ≤ length src) × TokenIs g src r t
    rule-token = (at.to, at.token)

    rest : List Token
    rest = operands_left g src (leb broken t.kind) t.next

    later : tokens_refusal rest ≡ 3 → tokens_refusal (operands_left g src false p) ≡ 3
    unfolding rest
    later h = v.refusal (ap tokens_refusal at.first ∙ refusal-later (token_there g src r) rest h)

    pub rule-more : {c : ℕ} → t.kind ≡ 1 → c ≡ code_of s → RuleMore g src p c t.next
    unfolding codes_left rest
    rule-more {c} k i =
        let u = token_there g src r in
        let j : u.kind ≡ semi = at.token.kind ∙ k in
        let os = operands_left g src false t.next in
        let f : operands_left g src held q ≡ u ∷ os = at.first ∙ ap (λ (b : ℕ). u ∷ operands_left g src (leb broken b) t.next) k in
        record {
          codes = ap (map rule_code) (v.split ∙ ap (split_at v.part) f ∙ split-semi v.part u os j) ∙ ap (λ (x : ℕ). x ∷ map rule_code (split_at [] os)) (code-part v.part v.state i);
          formed = v.formed ∙ ap (rules_formed held) f ∙ formed-semi held u os j;
          refusal = λ h. v.refusal (ap tokens_refusal f ∙ refusal-later u os h);
          mode = at.token.plain;
          on = let a = v.from in let b = at.from in let c = at.token.on in omega arith;
          to = at.token.to;
        }

    module _ {b : Bool} (i : b ≡ (not (held && leb 3 t.kind) && not (eqb t.kind 6))) where
      -- the same of the paper's token
      placed : (not (held && is_solid (token_there g src r)) && not (eqb (token_there g src r).kind quote)) ≡ b
      placed = rw at.token.kind (sym i)

      pub rule-ill : b ≡ false → malformed (operands_left g src false p) ≡ 3
      unfolding rest
      rule-ill h =
          malformed-formed (operands_left g src false p)
          (v.formed ∙ ap (rules_formed held) at.first ∙ formed-ill held (token_there g src r) rest (placed ∙ h))

      pub begun_more : {x f : ℕ} → (t.kind ≡ 1 → ⊥) → b ≡ true → x ≡ symbol_of (token_there g src r) → f ≡ joined_to s x
          → Begun g src p t.next (leb 3 t.kind) f
      unfolding rest
      begun_more {x} {f} n h j k =
          let u = token_there g src r in
          let d : is_solid u ≡ leb 3 t.kind = rw at.token.kind in
          record {
            part = v.part ++ u ∷ [];
            state = state-snoc 0 v.part u ∙ rw (v.state, ← j) (sym k);
            split = v.split ∙ ap (split_at v.part) at.first ∙ split-other v.part u rest (λ z. n (sym at.token.kind ∙ z));
            formed = v.formed ∙ ap (rules_formed held) at.first ∙ formed-other held u rest (placed ∙ h) ∙ ap (λ (z : Bool). rules_formed z rest) d;
            refusal = later;
            mode = at.token.plain;
            from = let a = v.from in let b = at.from in let c = at.token.on in omega arith;
            to = at.token.to;
          }
