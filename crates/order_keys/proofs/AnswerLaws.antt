-- No two answers of the key builder, with what the room then holds, are told alike on the paper, so its contract has one answer.
use Rattle.std.specs.Prelude.{Err, Ok, Result, ℕ}
use mathlib.Core.Path.{◌≡◌, sym, ap}
use mathlib.Core.List.{List}
use Prim.Native.Nat.{ℕ}
use Rattle.rules.specs.Calls as calls
use Rattle.base_units.proofs.NumberLaws.{number_of-some, number_of-unique}
use Rattle.order_keys.specs.Answers.{keyed_as}
use Rattle.base_units.specs.declared.Refusal.{Refusal}

pub keyed_as-unique : (x y : Result ℕ Refusal) (a b : List ℕ) → keyed_as x a ≡ keyed_as y b → (x ≡ y) × (a ≡ b)
keyed_as-unique (Ok n) (Ok m) a b e = (ap Ok (ap (λ (c : calls.Written). c.size) e), ap (λ (c : calls.Written). c.room) e)
keyed_as-unique (Ok n) (Err r) a b e = absurd (number_of-some r (sym (ap (λ (c : calls.Written). c.refusal) e)))
keyed_as-unique (Err r) (Ok m) a b e = absurd (number_of-some r (ap (λ (c : calls.Written). c.refusal) e))
keyed_as-unique (Err r) (Err q) a b e =
    (ap Err (number_of-unique r q (ap (λ (c : calls.Written). c.refusal) e)), ap (λ (c : calls.Written). c.room) e)
