-- No two answers of the reader of charmaps are told alike on the paper, so its contract has one answer.
use Rattle.std.specs.Prelude.{Err, Ok, Result, ℕ}
use mathlib.Core.Path.{◌≡◌, refl, sym, ap, ◌∙◌}
use mathlib.Core.List.{List}
use Prim.Native.Nat.{ℕ}
use Rattle.rules.specs.Calls as calls
use Rattle.base_units.specs.declared.Refusal.{Refusal}
use Rattle.base_units.proofs.NumberLaws.{number_of-some, number_of-unique}
use Rattle.charmap_read.specs.Answers.{read_as}

pub read_as-unique : (x y : Result Unit (Refusal × ℕ)) (a b : List ℕ) → read_as x a ≡ read_as y b → (x ≡ y) × (a ≡ b)
read_as-unique (Ok _) (Ok _) a b e = (refl, ap (λ (m : calls.Mapped). m.area) e)
read_as-unique (Ok _) (Err (r, l)) a b e = absurd (number_of-some r (sym (ap (λ (m : calls.Mapped). m.refusal) e)))
read_as-unique (Err (r, l)) (Ok _) a b e = absurd (number_of-some r (ap (λ (m : calls.Mapped). m.refusal) e))
read_as-unique (Err (r, l)) (Err (q, k)) a b e = (
  ap (λ (x : Refusal). Err (x, l)) (number_of-unique r q (ap (λ (m : calls.Mapped). m.refusal) e))
      ∙ ap (λ (x : ℕ). Err (q, x)) (ap (λ (m : calls.Mapped). m.line) e),
  ap (λ (m : calls.Mapped). m.area) e,
)
