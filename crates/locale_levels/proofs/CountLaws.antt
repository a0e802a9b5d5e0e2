-- The rules counted, one after the other, and judged.
use Rattle.std.specs.Prelude.{Option}
use mathlib.Core.Path.{◌≡◌, refl, sym, ap, ◌∙◌, subst}
use mathlib.Core.Bool.{Bool, true, false, ◌&&◌, and-true}
use mathlib.Core.List.{List}
use Prim.Native.Nat.{ℕ, suc, ◌+◌, ◌-◌, ◌≤◌, ◌<◌}
use native.Mathlib.Omega.{arith}
use lib.ListN.{length}
use lib.Dec.{leb}
use borrow.Author.Tests.{le-leb, lt-leb}
use Rattle.base_lists.proofs.Bools.{by}
use Rattle.rules.specs.Text.{every, lower}
use Rattle.rules.specs.Lines.{in_plain}
use Rattle.rules.specs.Tokens.{Token, tokens_refusal}
use Rattle.rules.specs.OrderLines.{rules_formed}
use Rattle.text_lines.specs.declared.Signs.{Signs}
use Rattle.text_lines.specs.declared.Spot.{Spot}
use Rattle.text_tokens.proofs.RefusalLaws.{lower-none-right}
use Rattle.text_operands.specs.Operand.{operands_left}
use Rattle.locale_levels.specs.declared.Rule.{Rule}
use Rattle.locale_levels.specs.Numbers.{code_or_none}
use Rattle.locale_levels.specs.declared.RuleStep.{RuleStep}
use Rattle.locale_levels.specs.declared.RuleStep.TheVariants as ruleStep
use Rattle.locale_levels.specs.Rules.{codes_left, malformed, RuleMore, RuleLast, RuleIs}
use Rattle.locale_levels.specs.Levels.{Counts, count_refusal}
use Rattle.locale_levels.proofs.RuleLaws.{malformed-tokens, malformed-formed}

and_assoc : (a b c : Bool) → (a && (b && c)) ≡ ((a && b) && c)
and_assoc true b c = refl
and_assoc false b c = refl

-- ## The turns

-- what is malformed further on
pub malformed-later : (ts us : List Token) → rules_formed false ts ≡ rules_formed false us → (tokens_refusal us ≡ 3 → tokens_refusal ts ≡ 3)
    → malformed us ≡ 3 → malformed ts ≡ 3
unfolding malformed
malformed-later ts us e h m =
    by (rules_formed false us)
    (λ f. malformed-tokens ts (h (sym (lower-none-right (tokens_refusal us)) ∙ rw f at m)))
    (λ f. malformed-formed ts (e ∙ f))

-- From p to q n rules are passed.
pub record Passed (g : Signs) (src : List ℕ) (p q : Spot) (n : ℕ) (known : Bool) : Type 0 where
  pub many : length (codes_left g src p) ≡ n + length (codes_left g src q)
  pub all : every (leb 1) (codes_left g src p) ≡ (known && every (leb 1) (codes_left g src q))
  pub formed : rules_formed false (operands_left g src false p) ≡ rules_formed false (operands_left g src false q)
  pub refusal : tokens_refusal (operands_left g src false q) ≡ 3 → tokens_refusal (operands_left g src false p) ≡ 3
  pub mode : q.mode ≡ in_plain
  pub from : n + p.at ≤ q.at
  pub to : q.at ≤ length src

pub passed_none : (g : Signs) (src : List ℕ) (p : Spot) → p.at ≤ length src → p.mode ≡ in_plain → Passed g src p p 0 true
passed_none g src p h m = record { many = omega arith; all = refl; formed = refl; refusal = λ e. e; mode = m; from = omega arith; to = h }

module _ (g : Signs) (src : List ℕ) (p q : Spot) (n : ℕ) (known : Bool) {s : RuleStep} (v : Passed g src p q n known) (w : RuleIs g src q s) where
  pub passed-broken : s ≡ ruleStep.Broken → malformed (operands_left g src false p) ≡ 3
  passed-broken e =
      malformed-later (operands_left g src false p) (operands_left g src false q) v.formed v.refusal (subst (RuleIs g src q) e w)

  pub passed-last : {rule : Option Rule} {k : Bool} → s ≡ ruleStep.Last rule → k ≡ (known && leb 1 (code_or_none rule)) → Counts g src p (n + 1) k
  unfolding every
  passed-last {rule} e f =
      let code = code_or_none rule in
      let z : RuleLast g src q code = subst (RuleIs g src q) e w in
      record {
        many = v.many ∙ ap (λ (cs : List ℕ). n + length cs) z.codes;
        some = omega arith;
        all = v.all ∙ rw (z.codes, and-true (leb 1 code)) (sym f);
        formed = v.formed ∙ z.formed;
      }

  module _ {rule : Option Rule} {next : Spot} (e : s ≡ ruleStep.More rule next) where
    code : ℕ
    code = code_or_none rule

    more : RuleMore g src q (code_or_none rule) next
    more = subst (RuleIs g src q) e w

    pub passed-less : length src - next.at < length src - q.at
    passed-less = let a = more.on in let b = more.to in omega arith

    pub passed-more : {k : Bool} → k ≡ (known && leb 1 (code_or_none rule)) → Passed g src p next (n + 1) k
    unfolding every code
    passed-more {k} f =
        let l : length (codes_left g src q) ≡ suc (length (codes_left g src next)) = ap length more.codes in
        record {
          many = let a = v.many in omega arith;
          all = v.all ∙ rw (more.codes, f) (and_assoc known (leb 1 code) (every (leb 1) (codes_left g src next)));
          formed = v.formed ∙ more.formed;
          refusal = λ h. v.refusal (more.refusal h);
          mode = more.mode;
          from = let a = v.from in let b = more.on in omega arith;
          to = more.to;
        }

-- ## The refusal of so many

module _ (n : ℕ) (known : Bool) where
  pub count-good : known ≡ true → n ≤ 8 → 0 ≡ count_refusal n known
  unfolding count_refusal lower
  count-good h l = rw (h, le-leb n 8 l)

  pub count-many : known ≡ true → 8 < n → 7 ≡ count_refusal n known
  unfolding count_refusal lower
  count-many h l = rw (h, lt-leb n 8 l)

  pub count-unknown : known ≡ false → 4 ≡ count_refusal n known
  unfolding count_refusal lower
  count-unknown h = rw h (by (leb n 8) (λ e. rw e) (λ e. rw e))

-- ## Judging

-- the lowest of both
pub judged-lowest : (r n : ℕ) (known : Bool) {c f : ℕ} → c ≡ count_refusal n known → f ≡ lower r c → lower r (count_refusal n known) ≡ f
judged-lowest r n known e h = rw (← e) (sym h)
