-- No two answers of the area's check, of decoding and of encoding are told alike on the paper, so each contract has one answer.
use Rattle.std.specs.Prelude.{Err, Ok, Result, ℕ}
use mathlib.Core.Path.{◌≡◌, refl, sym, ap}
use mathlib.Core.List.{List}
use Prim.Native.Nat.{ℕ}
use Rattle.rules.specs.Calls as calls
use Rattle.base_units.proofs.NumberLaws.{number_of-some, number_of-unique}
use Rattle.charmap_coding.specs.Answers.{number_is, written_is}
use Rattle.base_units.specs.declared.Refusal.{Refusal}

pub number_is-unique : (x y : Result Unit Refusal) → number_is x ≡ number_is y → x ≡ y
number_is-unique (Ok u) (Ok v) e = refl
number_is-unique (Ok u) (Err r) e = absurd (number_of-some r (sym e))
number_is-unique (Err r) (Ok u) e = absurd (number_of-some r e)
number_is-unique (Err r) (Err q) e = ap Err (number_of-unique r q e)

pub written_is-unique : (x y : Result ℕ Refusal) (a b : List ℕ) → written_is x a ≡ written_is y b → (x ≡ y) × (a ≡ b)
written_is-unique (Ok n) (Ok m) a b e =
    (ap Ok (ap (λ (c : calls.Written). c.size) e), ap (λ (c : calls.Written). c.room) e)
written_is-unique (Ok n) (Err r) a b e = absurd (number_of-some r (sym (ap (λ (c : calls.Written). c.refusal) e)))
written_is-unique (Err r) (Ok m) a b e = absurd (number_of-some r (ap (λ (c : calls.Written). c.refusal) e))
written_is-unique (Err r) (Err q) a b e =
    (ap Err (number_of-unique r q (ap (λ (c : calls.Written). c.refusal) e)), ap (λ (c : calls.Written). c.room) e)
