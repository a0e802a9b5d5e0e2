-- Refusals of a line's operands: where they are malformed or do not have their form, the refusal is 3 whatever else stands.
use mathlib.Core.Path.{◌≡◌, refl}
use mathlib.Core.Logic.{inl, inr}
use mathlib.Core.Bool.{Bool, true}
use mathlib.Core.List.{List}
use Prim.Native.Nat.{ℕ}
use Rattle.base_lists.proofs.Bools.{by, clash}
use Rattle.rules.specs.Text.{◌unless◌, lower}
use Rattle.rules.specs.Tokens.{Token, tokens_refusal}
use Rattle.rules.proofs.RefusalLaws.{Bounded, bounded-lower, bounded-unless}
use Rattle.text_tokens.proofs.RefusalLaws.{three-left, three-last}
use Rattle.locale_symbols.specs.Symbols.{Unfit}

-- operands that are unfit are refused with 3
pub unfit-three : (os : List Token) (t : Bool) (x : ℕ) → Bounded 3 7 x → Unfit os t → lower (tokens_refusal os) (lower (3 unless t) x) ≡ 3
unfit-three os t x l (inl e) = rw e (three-left (lower (3 unless t) x) (bounded-lower 3 7 (3 unless t) x (bounded-unless 3 7 3 t refl) l))
unfit-three os t x l (inr e) = rw (e, three-left x l) (three-last os)

-- a test that passes only where another does
pub unfit-other : (os : List Token) (t u : Bool) → (u ≡ true → t ≡ true) → Unfit os t → Unfit os u
unfit-other os t u f (inl e) = inl e
unfit-other os t u f (inr e) = inr (by u (λ h. clash (f h) e) (λ h. h))
