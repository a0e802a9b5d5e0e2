-- No two answers of the compiler are told alike on the paper, so its contract has one answer.
use Rattle.std.specs.Prelude.{Err, Ok, Result, ℕ}
use mathlib.Core.Path.{◌≡◌, sym, ap, ◌∙◌}
use mathlib.Core.List.{List}
use Prim.Native.Nat.{ℕ}
use Rattle.rules.specs.Calls as calls
use Rattle.base_units.specs.declared.Refusal.{Refusal}
use Rattle.base_units.proofs.NumberLaws.{number_of-some, number_of-unique}
use Rattle.locale_compile.specs.Answers.{told_as}

pub told_as-unique : (x y : Result ℕ (Refusal × ℕ)) (a b v w : List ℕ) → told_as x a v ≡ told_as y b w → (x ≡ y) × (a ≡ b) × (v ≡ w)
told_as-unique (Ok k) (Ok l) a b v w e =
    (ap (λ (m : calls.Compiled). Ok m.size) e, ap (λ (m : calls.Compiled). m.area) e, ap (λ (m : calls.Compiled). m.work) e)
told_as-unique (Ok k) (Err (r, l)) a b v w e = absurd (number_of-some r (sym (ap (λ (m : calls.Compiled). m.refusal) e)))
told_as-unique (Err (r, l)) (Ok k) a b v w e = absurd (number_of-some r (ap (λ (m : calls.Compiled). m.refusal) e))
told_as-unique (Err (r, l)) (Err (q, k)) a b v w e = (
  ap (λ (x : Refusal). Err (x, l)) (number_of-unique r q (ap (λ (m : calls.Compiled). m.refusal) e))
      ∙ ap (λ (x : ℕ). Err (q, x)) (ap (λ (m : calls.Compiled). m.line) e),
  ap (λ (m : calls.Compiled). m.area) e,
  ap (λ (m : calls.Compiled). m.work) e,
)
