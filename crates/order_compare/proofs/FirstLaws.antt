-- The whole answer: from the first level on, and where the first level, walked forward, is compared by itself.
use mathlib.Core.Path.{◌≡◌, refl, sym, ◌∙◌, subst}
use mathlib.Core.Bool.{Bool}
use mathlib.Core.List.{List, ◌∷◌}
use Prim.Native.Nat.{ℕ, ◌≤◌}
use native.Mathlib.Omega.{arith}
use native.Mathlib.Nat.{zero-add}
use lib.ListN.{length, take}
use Rattle.rules.specs.Table.{meaning_in}
use Rattle.rules.specs.Order as order
use Rattle.rules.specs.Order.{less, greater, answer_from, compare_of}
use Rattle.rules.proofs.PassedLaws.{starts, with_passed}
use Rattle.table_layout.proofs.PartLaws.{table-good}
use Rattle.std.specs.declared.cmp.Ordering.TheVariants.{Less, Equal, Greater}
use Rattle.order_elements.specs.Cuts.{Ready, Split}
use Rattle.order_elements.specs.Firsts.{first_entries, Ends, Agrees, FirstCompared}
use Rattle.order_elements.specs.declared.Alike.{Alike}
use Rattle.order_elements.specs.declared.First.{First}
use Rattle.order_elements.specs.declared.First.TheVariants.{Before, After, Same}
use Rattle.order_compare.specs.Strings.{answer_on, Placed, BothCut, Forward}
use Rattle.order_compare.proofs.LevelLaws.{settled-less, settled-greater, settled_on, lists_after, on-level}

-- a string that is cut
placed : {t s places : List ℕ} {n : ℕ} (after : List ℕ) → Ready t s places → Split t s after n → Placed t s (take n after)
placed after r v = record { checked = r.checked; short = r.short; is = v.is }

-- ## Strings that are cut first

pub split-both : {t a b as' bs as₁ bs₁ : List ℕ} {n m : ℕ} → Ready t a as' → Ready t b bs → Split t a as₁ n → Split t b bs₁ m
    → BothCut t a b as₁ bs₁ (record { agreed = 0; first = n; second = m }) 0
split-both {as₁ = as₁} {bs₁ = bs₁} r q v w = record {
  first = placed as₁ r v;
  second = placed bs₁ q w;
  first-inside = v.inside;
  second-inside = w.inside;
  to = omega arith;
  small = omega arith;
}

answer_on-all : (t a b : List ℕ) → answer_on t a b 0 0 ≡ compare_of (meaning_in t) a b
unfolding answer_on
answer_on-all t a b = sym (starts (meaning_in t) a b)

-- from the first level on with nothing agreed, it is the answer of the two strings
pub split-answer : (t a b : List ℕ) {r : order.Answer} → r ≡ answer_on t a b 0 0 → r ≡ compare_of (meaning_in t) a b
split-answer t a b e = e ∙ answer_on-all t a b

-- ## Strings that are cut as the first level takes it

module _ {t a b as' bs : List ℕ} {position : Bool} (r : Ready t a as') (q : Ready t b bs) (w : Forward t position) where
  some_level : 1 ≤ length (meaning_in t).rules
  some_level = (table-good t r.checked).some_level

  -- the answer, the first level first
  whole : with_passed 0 (answer_from 1 (first_entries t a position ∷ lists_after t 0 a) (first_entries t b position ∷ lists_after t 0 b))
      ≡ compare_of (meaning_in t) a b
  unfolding first_entries
  whole = rw w.is (sym (on-level t a b 0 0 (omega (arith, some_level))) ∙ answer_on-all t a b)

  module _ (as₁ bs₁ : List ℕ) {f : First} (v : FirstCompared t a b as₁ bs₁ position f) where
    pub forward-less : {n : ℕ} → f ≡ Before n → record { sign = less; level = 1; agreed = n } ≡ compare_of (meaning_in t) a b
    forward-less {n} e =
        let d : Ends t a b position less n = subst (FirstCompared t a b as₁ bs₁ position) e v in
        (rw (zero-add n) at (settled-less (record { sign = Less; agreed = n }) 1 0 (first_entries t a position) (first_entries t b position)
        (lists_after t 0 a) (lists_after t 0 b) d.is refl))
        ∙ whole

    pub forward-greater : {n : ℕ} → f ≡ After n → record { sign = greater; level = 1; agreed = n } ≡ compare_of (meaning_in t) a b
    forward-greater {n} e =
        let d : Ends t a b position greater n = subst (FirstCompared t a b as₁ bs₁ position) e v in
        (rw (zero-add n) at (settled-greater (record { sign = Greater; agreed = n }) 1 0 (first_entries t a position) (first_entries t b position)
        (lists_after t 0 a) (lists_after t 0 b) d.is refl))
        ∙ whole

    -- where it does not decide, both strings are cut, and the levels after it do
    pub forward-both : {c : Alike} → f ≡ Same c → BothCut t a b as₁ bs₁ c 1
    forward-both {c} e =
        let d : Agrees t a b as₁ bs₁ position c = subst (FirstCompared t a b as₁ bs₁ position) e v in
        record {
          first = placed as₁ r d.first;
          second = placed bs₁ q d.second;
          first-inside = d.first.inside;
          second-inside = d.second.inside;
          to = some_level;
          small = omega (arith, d.ends.small);
        }

    pub forward-equal : {c : Alike} {x : order.Answer} → f ≡ Same c → x ≡ answer_on t a b 1 c.agreed → x ≡ compare_of (meaning_in t) a b
    unfolding answer_on
    forward-equal {c} e g =
        let d : Agrees t a b as₁ bs₁ position c = subst (FirstCompared t a b as₁ bs₁ position) e v in
        g
        ∙ (rw (zero-add c.agreed) at (settled_on (record { sign = Equal; agreed = c.agreed }) 1 0 (first_entries t a position)
        (first_entries t b position) (lists_after t 0 a) (lists_after t 0 b) d.ends.is refl))
        ∙ whole
