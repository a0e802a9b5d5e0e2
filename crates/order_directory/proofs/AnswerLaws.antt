-- No two answers of the directory, with what the list then holds, are told alike on the paper, so its contract has one answer.
use Rattle.std.specs.Prelude.{Err, Ok, Result}
use mathlib.Core.Path.{◌≡◌, refl, sym, ap}
use mathlib.Core.List.{List}
use Prim.Native.Nat.{ℕ}
use Rattle.rules.specs.Calls as calls
use Rattle.base_units.proofs.NumberLaws.{number_of-some, number_of-unique}
use Rattle.order_directory.specs.Answers.{directed_is}
use Rattle.base_units.specs.declared.Refusal.{Refusal}

pub directed_is-unique : (x y : Result Unit Refusal) (a b : List ℕ) → directed_is x a ≡ directed_is y b → (x ≡ y) × (a ≡ b)
directed_is-unique (Ok u) (Ok v) a b e = (refl, ap (λ (c : calls.Directed). c.list) e)
directed_is-unique (Ok u) (Err r) a b e = absurd (number_of-some r (sym (ap (λ (c : calls.Directed). c.refusal) e)))
directed_is-unique (Err r) (Ok u) a b e = absurd (number_of-some r (ap (λ (c : calls.Directed). c.refusal) e))
directed_is-unique (Err r) (Err q) a b e =
    (ap Err (number_of-unique r q (ap (λ (c : calls.Directed). c.refusal) e)), ap (λ (c : calls.Directed). c.list) e)
