-- The levels of the operands of order_start: what the count and the tests say of the paper's refusal.
use Rattle.std.specs.Prelude.{Bool, Err, None, Ok, Option, Result, Some, ℕ}
use mathlib.Core.Path.{◌≡◌, refl, sym, ap, ◌∙◌, subst}
use mathlib.Core.Bool.{Bool, true, false, false≢true}
use mathlib.Core.List.{List, [], ◌∷◌, map}
use Prim.Native.Nat.{ℕ}
use native.Mathlib.Omega.{arith}
use lib.ListN.{length}
use lib.Dec.{eqb, leb}
use borrow.Author.Tests.{eqb-true, leb-true}
use Rattle.base_lists.proofs.Lists.{length-zero}
use Rattle.rules.specs.Text.{every, ◌unless◌, lower, lowest}
use Rattle.rules.specs.Tokens.{broken, Token, token, operands, tokens_refusal}
use Rattle.rules.specs.State.{before_order, in_order, State, with_ordered, in_phase, to_phase}
use Rattle.rules.specs.OrderLines.{split_at, rule_code, rule_of, rule_codes, rules_formed, order_start_line}
use Rattle.rules.proofs.TextLaws.{lower-none, unless-none}
use Rattle.base_units.specs.declared.Refusal.{Refusal}
use Rattle.text_lines.specs.declared.Signs.{Signs}
use Rattle.text_lines.specs.declared.Spot.{Spot}
use Rattle.text_tokens.specs.Left.{tokens_left}
use Rattle.text_tokens.proofs.RefusalLaws.{lower-none-left, lower-none-right, lower-assoc, three-last, refusal-broken}
use Rattle.text_operands.specs.declared.After.{After}
use Rattle.text_operands.specs.declared.After.TheVariants as after
use Rattle.text_operands.specs.Operand.{operands_left, OperandsFrom, AfterIs}
use Rattle.locale_levels.specs.Rules.{codes_left, malformed}
use Rattle.locale_levels.specs.Levels.{Counts, TallyIs, count_refusal, JudgedIs, start_refusal, LevelsAre, LevelsRefused, LevelsIs}
use Rattle.locale_levels.proofs.RuleLaws.{malformed-tokens}

-- ## The refusal, part by part

three-all : (a b : Bool) → lower 3 (lower (4 unless a) (lower (7 unless b) 0)) ≡ 3
unfolding lower
three-all true true = refl
three-all true false = refl
three-all false true = refl
three-all false false = refl

pub start-malformed : (os : List Token) → malformed os ≡ 3 → start_refusal os ≡ 3
unfolding malformed start_refusal lowest
start-malformed os e =
    let a = every (leb 1) (rule_codes os) in
    let b = leb (length (rule_codes os)) 8 in
    let x = lower (4 unless a) (lower (7 unless b) 0) in
    sym (lower-assoc (tokens_refusal os) (3 unless rules_formed false os) x) ∙ ap (λ (r : ℕ). lower r x) e ∙ three-all a b

pub start-formed : (os : List Token) → rules_formed false os ≡ true
    → start_refusal os ≡ lower (tokens_refusal os) (count_refusal (length (rule_codes os)) (every (leb 1) (rule_codes os)))
unfolding start_refusal lowest count_refusal
start-formed os e =
    rw (e, lower-none-right (7 unless leb (length (rule_codes os)) 8))
    (ap (lower (tokens_refusal os)) (lower-none-left (lower (4 unless every (leb 1) (rule_codes os)) (7 unless leb (length (rule_codes os)) 8))))

-- no operand: one forward level
pub start_none : LevelsAre [] 1
unfolding start_refusal tokens_refusal rules_formed rule_codes every lowest lower
start_none = record { accepted = refl; many = refl; some = omega arith; few = omega arith; known = refl }

pub codes-some : (os : List Token) → eqb (length os) 0 ≡ false → rule_codes os ≡ map rule_code (split_at [] os)
unfolding rule_codes
codes-some [] h = absurd (false≢true (sym h))
codes-some (t ∷ ts) h = refl

-- ## The operands from a spot on

module _ (g : Signs) (src : List ℕ) (p : Spot) {e : Bool} (z : e ≡ eqb (length (operands_left g src false p)) 0) where
  pub left-none : e ≡ true → LevelsAre (operands_left g src false p) 1
  left-none h =
      let os = operands_left g src false p in
      subst (λ (ts : List Token). LevelsAre ts 1) (sym (length-zero os (eqb-true (length os) 0 (sym z ∙ h)))) start_none

  module _ (h : e ≡ false) {t : Option (ℕ × Bool)} (v : TallyIs g src p t) where
    pub left-broken : t ≡ None → LevelsRefused (operands_left g src false p) 3
    left-broken f = record { refusal = start-malformed (operands_left g src false p) (subst (TallyIs g src p) f v); some = omega arith }

    module _ {n : ℕ} {known : Bool} (f : t ≡ Some (n, known)) where
      counts : Counts g src p n known
      counts = subst (TallyIs g src p) f v

      codes : rule_codes (operands_left g src false p) ≡ codes_left g src p
      unfolding codes_left
      codes = codes-some (operands_left g src false p) (sym z ∙ h)

      judged-as : {r : ℕ} → r ≡ tokens_refusal (operands_left g src false p) → start_refusal (operands_left g src false p) ≡ lower r (count_refusal n known)
      judged-as k = start-formed (operands_left g src false p) counts.formed ∙ rw (codes, counts.many, counts.all, ← k)

      pub left-judged : {r : ℕ} → r ≡ tokens_refusal (operands_left g src false p) → (l : Result ℕ Refusal) → JudgedIs r n known l → LevelsIs (operands_left g src false p) l
      unfolding count_refusal
      left-judged {r} k (Ok l) j =
          let c = (lower-none r (count_refusal n known) j.0).1 in
          let d = lower-none (4 unless known) (7 unless leb n 8) c in
          let s = counts.some in
          let u = leb-true n 8 (unless-none 7 (leb n 8) (omega arith) d.1) in
          let i = j.1 in
          record {
            accepted = judged-as k ∙ j.0;
            many = i ∙ sym (ap length codes ∙ counts.many);
            some = omega arith;
            few = omega arith;
            known = ap (every (leb 1)) codes ∙ counts.all ∙ unless-none 4 known (omega arith) d.0;
          }
      left-judged k (Err m) j = record { refusal = judged-as k ∙ j.0; some = j.1 }

-- ## After the word

module _ (g : Signs) (src : List ℕ) (p : Spot) {a : After} (v : AfterIs g src p a) where
  pub after_none : a ≡ after.None → LevelsAre (operands (tokens_left g src p)) 1
  after_none e = subst (λ (ts : List Token). LevelsAre ts 1) (sym (subst (AfterIs g src p) e v)) start_none

  pub after-broken : a ≡ after.Broken → LevelsRefused (operands (tokens_left g src p)) 3
  after-broken e =
      let os = operands (tokens_left g src p) in
      let z : os ≡ token broken [] [] ∷ [] = subst (AfterIs g src p) e v in
      record { refusal = start-malformed os (malformed-tokens os (ap tokens_refusal z ∙ refusal-broken (token broken [] []) [] refl)); some = omega arith }

  pub after-levels : {x : Spot} → a ≡ after.Operands x → (l : Result ℕ Refusal) → LevelsIs (operands_left g src false x) l → LevelsIs (operands (tokens_left g src p)) l
  after-levels {x} e l h =
      let z : OperandsFrom g src p x = subst (AfterIs g src p) e v in
      subst (λ (ts : List Token). LevelsIs ts l) (sym z.operands) h

-- ## The paper's line

-- in its place
pub start-line : (s : State) (os : List Token) → in_phase before_order s ≡ true → lower (tokens_refusal os) (order_start_line s os).refusal ≡ start_refusal os
unfolding order_start_line start_refusal
start-line s os h = rw h

-- anywhere else
pub start-elsewhere : (s : State) (os : List Token) → in_phase before_order s ≡ false → lower (tokens_refusal os) (order_start_line s os).refusal ≡ 3
unfolding order_start_line lowest
start-elsewhere s os h =
    let a = every (leb 1) (rule_codes os) in
    let b = leb (length (rule_codes os)) 8 in
    rw (h, three-all a b) (three-last os)

-- the state that it gives
pub start-state : (s : State) (os : List Token)
    → (order_start_line s os).state ≡ with_ordered (to_phase s in_order) (record { rules = map rule_of (rule_codes os); lines = []; block = [] })
unfolding order_start_line
start-state s os = refl
