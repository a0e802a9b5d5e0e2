-- The rules written into an area, one after the other.
use Rattle.std.specs.Prelude.{Option}
use mathlib.Core.Path.{◌≡◌, refl, sym, ap, ◌∙◌, subst}
use mathlib.Core.Bool.{Bool, true, false}
use mathlib.Core.List.{List, [], ◌∷◌}
use Prim.Native.Nat.{ℕ, suc, ◌+◌, ◌-◌, ◌≤◌, ◌<◌}
use native.Mathlib.Numerals.{add-one}
use native.Mathlib.Omega.{arith}
use lib.ListN.{length, set, length-set}
use lib.Seq.{sets}
use lib.Dec.{eqb}
use borrow.Author.Tests.{eqb-true}
use Rattle.base_lists.proofs.Lists.{length-zero}
use Rattle.rules.specs.Lines.{in_plain}
use Rattle.rules.specs.Tokens.{Token, operands}
use Rattle.rules.specs.OrderLines.{rule_of, rule_codes}
use Rattle.rules.specs.Table.{rule_number}
use Rattle.text_lines.specs.declared.Signs.{Signs}
use Rattle.text_lines.specs.declared.Spot.{Spot}
use Rattle.text_tokens.specs.Left.{tokens_left}
use Rattle.text_operands.specs.declared.After.{After}
use Rattle.text_operands.specs.declared.After.TheVariants as after
use Rattle.text_operands.specs.Operand.{operands_left, OperandsFrom, AfterIs}
use Rattle.locale_levels.specs.declared.Rule.{Rule}
use Rattle.locale_levels.specs.Numbers.{code_or_none}
use Rattle.locale_levels.specs.declared.RuleStep.{RuleStep}
use Rattle.locale_levels.specs.declared.RuleStep.TheVariants as ruleStep
use Rattle.locale_levels.specs.Rules.{codes_left, malformed, RuleMore, RuleLast, RuleIs}
use Rattle.locale_levels.specs.Levels.{start_refusal}
use Rattle.locale_levels.specs.Writing.{rule_numbers, LeftFits, RulesFit}
use Rattle.locale_levels.proofs.CountLaws.{malformed-later}
use Rattle.locale_levels.proofs.LevelLaws.{start-malformed, codes-some, after-broken}

-- ## The turns

-- The rules from p on go into a room from `at` on; those from q on are still to come, from i on.
pub record Writing (g : Signs) (src : List ℕ) (p : Spot) (room : List ℕ) (at : ℕ) (q : Spot) (now : List ℕ) (i : ℕ) : Type 0 where
  pub same : sets now i (rule_numbers (codes_left g src q)) ≡ sets room at (rule_numbers (codes_left g src p))
  pub inside : i + length (codes_left g src q) ≤ length now
  pub long : length now ≡ length room
  pub whole : malformed (operands_left g src false q) ≡ 3 → ⊥
  pub mode : q.mode ≡ in_plain
  pub to : q.at ≤ length src

pub writing-none : (g : Signs) (src : List ℕ) (p : Spot) (room : List ℕ) (at : ℕ) → p.at ≤ length src → p.mode ≡ in_plain → LeftFits g src p room at
    → Writing g src p room at p room at
writing-none g src p room at h m v = record { same = refl; inside = v.inside; long = refl; whole = v.whole; mode = m; to = h }

module _ (g : Signs) (src : List ℕ) (p : Spot) (room : List ℕ) (at : ℕ) (q : Spot) (now : List ℕ) (i : ℕ) {s : RuleStep}
    (v : Writing g src p room at q now i) (w : RuleIs g src q s) where
  pub writing-broken : s ≡ ruleStep.Broken → now ≡ sets room at (rule_numbers (codes_left g src p))
  writing-broken e = absurd (v.whole (subst (RuleIs g src q) e w))

  module _ {r : Option Rule} (e : s ≡ ruleStep.Last r) where
    last : RuleLast g src q (code_or_none r)
    last = subst (RuleIs g src q) e w

    pub writing-last-inside : i < length now
    writing-last-inside = let a = v.inside in let b = ap length last.codes in omega arith

    pub writing-last : {x : ℕ} → x ≡ rule_number (rule_of (code_or_none r)) → set now i x ≡ sets room at (rule_numbers (codes_left g src p))
    writing-last {x} h = ap (set now i) h ∙ sym (ap (λ (cs : List ℕ). sets now i (rule_numbers cs)) last.codes) ∙ v.same

  module _ {r : Option Rule} {next : Spot} (e : s ≡ ruleStep.More r next) where
    more : RuleMore g src q (code_or_none r) next
    more = subst (RuleIs g src q) e w

    pub writing-inside : i < length now
    writing-inside = let a = v.inside in let b = ap length more.codes in omega arith

    pub writing-less : length src - next.at < length src - q.at
    writing-less = let a = more.on in let b = more.to in omega arith

    pub writing_more : {x : ℕ} → x ≡ rule_number (rule_of (code_or_none r)) → Writing g src p room at next (set now i x) (i + 1)
    writing_more {x} h =
        let cs = codes_left g src next in
        let l : length (codes_left g src q) ≡ suc (length cs) = ap length more.codes in
        let k : length (set now i x) ≡ length now = length-set now i x in
        record {
          same =
              ap (λ (n : ℕ). sets (set now i x) n (rule_numbers cs)) (add-one i)
              ∙ ap (λ (y : ℕ). sets now i (y ∷ rule_numbers cs)) h
              ∙ sym (ap (λ (ds : List ℕ). sets now i (rule_numbers ds)) more.codes)
              ∙ v.same;
          inside = let a = v.inside in omega arith;
          long = k ∙ v.long;
          whole =
              λ z. v.whole (malformed-later (operands_left g src false q) (operands_left g src false next) more.formed more.refusal z);
          mode = more.mode;
          to = more.to;
        }

-- ## After the word

-- what is malformed is not accepted
not-malformed : (os : List Token) → start_refusal os ≡ 0 → malformed os ≡ 3 → ⊥
not-malformed os e h = let z = start-malformed os h in omega arith

-- no operand: one forward level
one-rule : (os : List Token) (room : List ℕ) (at : ℕ) → os ≡ [] → set room at 0 ≡ sets room at (rule_numbers (rule_codes os))
unfolding rule_codes rule_number
one-rule os room at e = rw e

one_inside : (os : List Token) (room : List ℕ) (at : ℕ) → os ≡ [] → RulesFit os room at → at < length room
unfolding rule_codes
one_inside os room at e v = let a = v.inside in let b = ap (λ (ts : List Token). length (rule_codes ts)) e in omega arith

module _ (g : Signs) (src : List ℕ) (p : Spot) (room : List ℕ) (at : ℕ) {a : After} (f : RulesFit (operands (tokens_left g src p)) room at) (v : AfterIs g src p a) where
  pub rules-none-inside : a ≡ after.None → at < length room
  rules-none-inside e = one_inside (operands (tokens_left g src p)) room at (subst (AfterIs g src p) e v) f

  pub rules-none : a ≡ after.None → set room at 0 ≡ sets room at (rule_numbers (rule_codes (operands (tokens_left g src p))))
  rules-none e = one-rule (operands (tokens_left g src p)) room at (subst (AfterIs g src p) e v)

  pub rules-broken : a ≡ after.Broken → room ≡ sets room at (rule_numbers (rule_codes (operands (tokens_left g src p))))
  rules-broken e = let z = (after-broken g src p v e).refusal in let y = f.accepted in absurd (omega arith)

  module _ {x : Spot} (e : a ≡ after.Operands x) {n : Bool} (z : n ≡ eqb (length (operands_left g src false x)) 0) where
    from : OperandsFrom g src p x
    from = subst (AfterIs g src p) e v

    module _ (h : n ≡ true) where
      empty : operands (tokens_left g src p) ≡ []
      empty = from.operands ∙ length-zero (operands_left g src false x) (eqb-true (length (operands_left g src false x)) 0 (sym z ∙ h))

      pub rules-empty-inside : at < length room
      rules-empty-inside = one_inside (operands (tokens_left g src p)) room at empty f

      pub rules-empty : set room at 0 ≡ sets room at (rule_numbers (rule_codes (operands (tokens_left g src p))))
      rules-empty = one-rule (operands (tokens_left g src p)) room at empty

    module _ (h : n ≡ false) where
      codes : rule_codes (operands (tokens_left g src p)) ≡ codes_left g src x
      unfolding codes_left
      codes = ap rule_codes from.operands ∙ codes-some (operands_left g src false x) (sym z ∙ h)

      pub rules-fit : LeftFits g src x room at
      rules-fit = record {
        whole = not-malformed (operands_left g src false x) (ap start_refusal (sym from.operands) ∙ f.accepted);
        inside = rw (← codes) f.inside;
      }

      pub rules-written : {after : List ℕ} → after ≡ sets room at (rule_numbers (codes_left g src x)) → after ≡ sets room at (rule_numbers (rule_codes (operands (tokens_left g src p))))
      rules-written k = k ∙ ap (λ (cs : List ℕ). sets room at (rule_numbers cs)) (sym codes)
