-- The refusals of an operand that is one token, and of several operands together.
use mathlib.Core.Path.{◌≡◌, refl, sym, ap, ◌∙◌}
use mathlib.Core.Bool.{Bool, true, false}
use mathlib.Core.List.{List, [], ◌∷◌, map}
use Prim.Native.Nat.{ℕ, ◌≤◌}
use native.Mathlib.Omega.{arith}
use lib.ListN.{length}
use lib.Dec.{eqb, leb}
use Rattle.base_lists.proofs.Bools.{by}
use Rattle.rules.specs.Text.{bytes, same, is, every, ◌unless◌, lower, lowest}
use Rattle.rules.specs.Tokens.{Token}
use Rattle.rules.specs.State.{Subject}
use Rattle.rules.specs.OrderLines.{is_names, subject_of}
use Rattle.text_tokens.proofs.RefusalLaws.{lower-none-left, lower-none-right, lower-assoc, lower-swap}
use Rattle.locale_weights.specs.Weights.{weight_refusal_by}
use Rattle.locale_weights.proofs.RefusalLaws.{three-others}

-- ## One token

-- one byte is no IGNORE
pub short-word : (x : List ℕ) → length x ≤ 1 → is x "IGNORE" ≡ false
unfolding is bytes same
short-word [] h = refl
short-word (a ∷ []) h = by (eqb a 73) (λ e. rw e) (λ e. rw e)
short-word (a ∷ b ∷ x) h = absurd (omega arith)

module _ (f : Subject → Bool) (t : Token) where
  pub weight-other : is_names t ≡ false → is t.text "IGNORE" ≡ false → weight_refusal_by f (t ∷ []) ≡ 3
  unfolding weight_refusal_by lowest
  weight-other e k =
      rw (e, k) (three-others (every f (map subject_of t.names)) (leb (length t.names) 8))

  pub weight-ignore : is_names t ≡ false → is t.text "IGNORE" ≡ true → t.names ≡ [] → weight_refusal_by f (t ∷ []) ≡ 0
  unfolding weight_refusal_by lowest lower every
  weight-ignore e k n = rw (e, k, n)

  pub weight-names : is_names t ≡ true
      → weight_refusal_by f (t ∷ []) ≡ lower (6 unless every f (map subject_of t.names)) (7 unless leb (length t.names) 8)
  unfolding weight_refusal_by lowest
  weight-names e =
      let b = every f (map subject_of t.names) in
      let c = leb (length t.names) 8 in
      rw (e, lower-none-right (7 unless c)) (lower-none-left (lower (6 unless b) (7 unless c)))

-- ## Two refusals of each of two

pub lower-four : (a x b y : ℕ) → lower (lower a x) (lower b y) ≡ lower (lower a b) (lower x y)
lower-four a x b y =
    lower-assoc a x (lower b y)
    ∙ ap (λ (r : ℕ). lower a r) (sym (lower-assoc x b y) ∙ ap (λ (r : ℕ). lower r y) (lower-swap x b) ∙ lower-assoc b x y)
    ∙ sym (lower-assoc a b (lower x y))
