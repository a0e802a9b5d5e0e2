-- No two answers of the check are told alike on the paper, so its contract has one answer.
use Rattle.std.specs.Prelude.{Err, Ok, Result}
use Rattle.std.proofs.Common.{◌≡◌, sym, ap}
use Rattle.rules.specs.Calls.{Checked}
use Rattle.base_units.proofs.NumberLaws.{number_of-some, number_of-unique}
use Rattle.table_check.specs.Answers.{checked_as}
use Rattle.base_units.specs.declared.Refusal.{Refusal}
use Rattle.table_check.specs.declared.Shape.{Shape}

pub checked_as-unique : (x y : Result Shape Refusal) → checked_as x ≡ checked_as y → x ≡ y
checked_as-unique (Ok s) (Ok t) e =
    let levels : s.levels ≡ t.levels = ap (λ (c : Checked). c.levels) e in
    let items : s.items ≡ t.items = ap (λ (c : Checked). c.items) e in
    let size : s.size ≡ t.size = ap (λ (c : Checked). c.size) e in
    λ i. Ok (record { levels = levels i; items = items i; size = size i })
checked_as-unique (Ok s) (Err r) e = absurd (number_of-some r (sym (ap (λ (c : Checked). c.refusal) e)))
checked_as-unique (Err r) (Ok t) e = absurd (number_of-some r (ap (λ (c : Checked). c.refusal) e))
checked_as-unique (Err r) (Err q) e = ap Err (number_of-unique r q (ap (λ (c : Checked). c.refusal) e))
