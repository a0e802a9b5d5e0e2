-- No two answers of the step, and none of the comparison, are told alike on the paper, so each contract has one answer.
use Rattle.std.specs.Prelude.{Err, Ok, Result, ℕ}
use mathlib.Core.Path.{◌≡◌, sym, ap}
use Rattle.rules.specs.Calls.{Stepped, Compared}
use Rattle.base_units.proofs.NumberLaws.{number_of-some, number_of-unique, sign_of-unique}
use Rattle.order_compare.specs.Answers.{stepped_as, compared_as}
use Rattle.order_compare.specs.declared.Answer.{Answer}
use Rattle.base_units.specs.declared.Refusal.{Refusal}

pub stepped_as-unique : (x y : Result (ℕ × ℕ) Refusal) → stepped_as x ≡ stepped_as y → x ≡ y
stepped_as-unique (Ok (p, n)) (Ok (q, m)) e =
    let place : p ≡ q = ap (λ (c : Stepped). c.place) e in
    let size : n ≡ m = ap (λ (c : Stepped). c.size) e in
    λ i. Ok ((place i), (size i))
stepped_as-unique (Ok (p, n)) (Err r) e = absurd (number_of-some r (sym (ap (λ (c : Stepped). c.refusal) e)))
stepped_as-unique (Err r) (Ok (q, m)) e = absurd (number_of-some r (ap (λ (c : Stepped). c.refusal) e))
stepped_as-unique (Err r) (Err q) e = ap Err (number_of-unique r q (ap (λ (c : Stepped). c.refusal) e))

pub compared_as-unique : (x y : Result Answer Refusal) → compared_as x ≡ compared_as y → x ≡ y
compared_as-unique (Ok a) (Ok b) e =
    let sign : a.sign ≡ b.sign = sign_of-unique a.sign b.sign (ap (λ (c : Compared). c.answer.sign) e) in
    let level : a.level ≡ b.level = ap (λ (c : Compared). c.answer.level) e in
    let agreed : a.agreed ≡ b.agreed = ap (λ (c : Compared). c.answer.agreed) e in
    λ i. Ok (record { sign = sign i; level = level i; agreed = agreed i })
compared_as-unique (Ok a) (Err r) e = absurd (number_of-some r (sym (ap (λ (c : Compared). c.refusal) e)))
compared_as-unique (Err r) (Ok b) e = absurd (number_of-some r (ap (λ (c : Compared). c.refusal) e))
compared_as-unique (Err r) (Err q) e = ap Err (number_of-unique r q (ap (λ (c : Compared). c.refusal) e))
