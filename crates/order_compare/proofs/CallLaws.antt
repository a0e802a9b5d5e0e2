-- The public operations: what is refused, in which order, and what a good table and good strings are ready for.
use mathlib.Core.Path.{◌≡◌, sym, ap, ◌∙◌}
use mathlib.Core.Bool.{Bool, true, false}
use mathlib.Core.List.{List}
use Prim.Native.Nat.{ℕ, ◌≤◌, ◌<◌}
use native.Mathlib.Omega.{arith}
use lib.ListN.{length, drop, drop_of_length-le}
use Rattle.rules.specs.Text.{every}
use Rattle.rules.specs.Names.{is_character}
use Rattle.rules.specs.Table.{accepted, meaning_in}
use Rattle.rules.specs.Order as order
use Rattle.rules.specs.Order.{good_string, step_of, compare_of}
use Rattle.rules.specs.Calls.{no_answer, step_call, compare_call}
use Rattle.rules.proofs.KeyLaws.{good_string-length}
use Rattle.table_layout.specs.Parts.{rule_as, rule_at}
use Rattle.table_layout.specs.declared.Rule.{Rule}
use Rattle.table_layout.proofs.PartLaws.{table-good}
use Rattle.order_find.specs.Answer.{found_as}
use Rattle.order_find.specs.declared.Found.{Found}
use Rattle.order_elements.specs.Cuts.{Ready}
use Rattle.order_find.proofs.FoundLaws.{good-characters}
use Rattle.order_elements.proofs.CutLaws.{good-ready}
use Rattle.order_compare.specs.Strings.{Forward, Good}

-- ## What is ready

module _ {t a b : List ℕ} (v : Good t a b) where
  pub first-ready : (places : List ℕ) → length a ≤ length places → Ready t a places
  first-ready places h = good-ready places v.checked v.first h

  pub second-ready : (places : List ℕ) → length b ≤ length places → Ready t b places
  second-ready places h = good-ready places v.checked v.second h

  pub first_short : length a ≤ 4096
  first_short = good_string-length a v.first

  pub second_short : length b ≤ 4096
  second_short = good_string-length b v.second

  pub first-level : 0 < length (meaning_in t).rules
  first-level = omega (arith, (table-good t v.checked).some_level)

pub first-forward : {t : List ℕ} {rule : Rule} → rule_as rule ≡ rule_at t 0 → rule.backward ≡ false → Forward t rule.position
first-forward {rule = rule} e h = record { is = ap (λ (x : Bool). record { backward = x; position = rule.position }) (sym h) ∙ e }

-- ## The comparison

module _ (t a b : List ℕ) {x : Bool} (e : x ≡ accepted t) where
  pub compare-table : x ≡ false → record { refusal = 11; answer = no_answer } ≡ compare_call t a b
  unfolding compare_call
  compare-table h = rw (← e, h)

  module _ (h : x ≡ true) {y : Bool} (f : y ≡ good_string a) where
    pub compare-first-string : y ≡ false → record { refusal = 12; answer = no_answer } ≡ compare_call t a b
    unfolding compare_call
    compare-first-string g = rw (← e, h, ← f, g)

    module _ (g : y ≡ true) {z : Bool} (i : z ≡ good_string b) where
      pub compare-second-string : z ≡ false → record { refusal = 12; answer = no_answer } ≡ compare_call t a b
      unfolding compare_call
      compare-second-string k = rw (← e, h, ← f, g, ← i, k)

      pub compare-answer : z ≡ true → {r : order.Answer} → r ≡ compare_of (meaning_in t) a b → record { refusal = 0; answer = r } ≡ compare_call t a b
      unfolding compare_call
      compare-answer k w = rw (← e, h, ← f, g, ← i, k, w)

-- ## The step

module _ (t s : List ℕ) (at : ℕ) {x : Bool} (e : x ≡ accepted t) where
  pub step-table : x ≡ false → record { refusal = 11; place = 0; size = 0 } ≡ step_call t s at
  unfolding step_call
  step-table h = rw (← e, h)

  module _ (h : x ≡ true) {y : Bool} (f : y ≡ good_string s) where
    pub step-string : y ≡ false → record { refusal = 12; place = 0; size = 0 } ≡ step_call t s at
    unfolding step_call
    step-string g = rw (← e, h, ← f, g)

    pub step_past : y ≡ true → length s ≤ at → record { refusal = 0; place = 0; size = 0 } ≡ step_call t s at
    unfolding step_call step_of
    step_past g k = rw (← e, h, ← f, g, drop_of_length-le s k)

    pub step-found : y ≡ true → {r : Found} → found_as r ≡ step_of (meaning_in t).items (drop at s)
        → record { refusal = 0; place = r.place; size = r.size } ≡ step_call t s at
    unfolding step_call
    step-found g w = rw (← e, h, ← f, g, ← w)

    -- what the search for an element asks
    pub step-checked : accepted t ≡ true
    step-checked = sym e ∙ h

    pub step-characters : y ≡ true → every is_character s ≡ true
    step-characters g = good-characters s (sym f ∙ g)
