-- The answers of check: the header of an accepted table is in its ranges, and counts what the table's meaning has.
use Rattle.std.specs.Prelude.{Err, Ok}
use Rattle.std.proofs.Common.{◌≡◌, ℕ, ◌+◌, Bool, true, false, ◌&&◌, List, get_or, take, drop, sym, refl, ◌∙◌}
use Rattle.base_lists.proofs.Bools.{and_left}
use Rattle.rules.specs.Text.{within, every}
use Rattle.rules.specs.Table.{accepted}
use Rattle.rules.specs.Calls.{check_call}
use Rattle.base_units.specs.declared.Refusal.TheVariants.{NotAccepted}
use Rattle.table_layout.specs.Parts.{rules_part, weights_part}
use Rattle.table_check.specs.Checks.{Headed, head_passes, items_pass, checks}
use Rattle.table_check.specs.Answers.{checked_as}
use Rattle.table_check.proofs.HeadLaws.{head-parts}
use Rattle.table_check.proofs.CheckLaws.{accepted-checks, accepted-sized}

checks-head : (t : List ℕ) → checks t ≡ true → head_passes t ≡ true
unfolding checks
checks-head t h =
    let l : ℕ = get_or t 0 0 in
    let n : ℕ = get_or t 1 0 in
    let w : ℕ = get_or t 2 0 in
    let head : Bool = head_passes t in
    let items : Bool = items_pass t l n w in
    let rules : Bool = every (within 0 3) (take l (drop (rules_part l n) t)) in
    let weights : Bool = every (within 1 32768) (take w (drop (weights_part l n) t)) in
    and_left head items (and_left (head && items) rules (and_left (head && items && rules) weights h))

module _ (t : List ℕ) {r : Bool} (is : r ≡ accepted t) where
  pub accepted-headed : r ≡ true → Headed t
  accepted-headed e = head-parts t refl (checks-head t (sym (accepted-checks t) ∙ sym is ∙ e))

  pub check-refused : r ≡ false → checked_as (Err NotAccepted) ≡ check_call t
  unfolding check_call
  check-refused e = rw (← is, e)

  pub check-accepted : {from : ℕ} → r ≡ true → from ≡ weights_part (get_or t 0 0) (get_or t 1 0)
      → checked_as (Ok (record { levels = get_or t 0 0; items = get_or t 1 0; size = from + get_or t 2 0 })) ≡ check_call t
  unfolding check_call
  check-accepted e f = let s = accepted-sized t (sym is ∙ e) in rw (← is, e, f, s.size, s.levels, s.items)
