-- The refusal of the next operand, and of all that come after it.
use mathlib.Core.Path.{◌≡◌, refl, sym, ap, ◌∙◌, subst}
use mathlib.Core.Bool.{Bool, true, false}
use mathlib.Core.List.{List, [], ◌∷◌}
use Prim.Native.Nat.{ℕ, suc, ◌≤◌}
use lib.ListN.{length}
use Rattle.rules.specs.Text.{lower, lowest}
use Rattle.rules.specs.Names.{names_refusal}
use Rattle.rules.specs.Tokens.{Token, tokens_refusal}
use Rattle.rules.specs.State.{Subject}
use Rattle.rules.specs.OrderLines.{split_at}
use Rattle.text_lines.specs.declared.Signs.{Signs}
use Rattle.text_lines.specs.declared.Spot.{Spot}
use Rattle.text_tokens.specs.declared.Tok.{Tok}
use Rattle.text_tokens.specs.Left.{token_there, TokenIs}
use Rattle.rules.proofs.RefusalLaws.{bounded-lower, bounded-tokens}
use Rattle.text_tokens.proofs.RefusalLaws.{lower-none-left, lower-none-right, three-right, tokens_refusal-cons}
use Rattle.text_operands.specs.Operand.{operands_left}
use Rattle.locale_weights.specs.declared.Weight.{Weight}
use Rattle.locale_weights.specs.declared.Weight.TheVariants as weight
use Rattle.locale_weights.specs.Weights.{weight_refusal_by, weights_refusal_by, separator, EmptyWeight, OneWeight, BadWeights, WeightIs}
use Rattle.locale_weights.proofs.RefusalLaws.{bounded-weight, weights-cons, weights-none}
use Rattle.locale_weights.proofs.SplitLaws.{split-end}
use Rattle.locale_weights.proofs.WeightLaws.{lower-four}
use Rattle.work_subjects.specs.Keys.{key_at}
use Rattle.work_store.specs.Store.{Sound}
use Rattle.locale_standing.specs.Standing.{stands_in}
use Rattle.locale_standing.specs.Refusing.{OneRefused, refusal_of, many_of, MoreRefusals, LastRefusal, BadRefusal}

-- ## Lists of tokens

separator-refusal : (os : List Token) → tokens_refusal (separator ∷ os) ≡ tokens_refusal os
unfolding tokens_refusal names_refusal lowest lower
separator-refusal os = tokens_refusal-cons separator os ∙ lower-none-left (tokens_refusal os)

empty-refusal : (f : Subject → Bool) → weight_refusal_by f [] ≡ 0
unfolding weight_refusal_by
empty-refusal f = refl

module _ (f : Subject → Bool) {os ts : List Token} where
  of-empty : os ≡ separator ∷ ts → split_at [] os ≡ [] ∷ split_at [] ts → refusal_of f os ≡ refusal_of f ts
  unfolding refusal_of
  of-empty e k =
      ap (λ (r : ℕ). lower r (weights_refusal_by f (split_at [] os))) (ap tokens_refusal e ∙ separator-refusal ts)
      ∙ ap (λ (r : ℕ). lower (tokens_refusal ts) r)
      (ap (λ (ws : List (List Token)). weights_refusal_by f ws) k ∙ weights-cons f [] (split_at [] ts)
      ∙ ap (λ (r : ℕ). lower r (weights_refusal_by f (split_at [] ts))) (empty-refusal f) ∙ lower-none-left (weights_refusal_by f (split_at [] ts)))

  of_one : (t : Token) → os ≡ t ∷ separator ∷ ts → split_at [] os ≡ (t ∷ []) ∷ split_at [] ts
      → refusal_of f os ≡ lower (lower (tokens_refusal (t ∷ [])) (weight_refusal_by f (t ∷ []))) (refusal_of f ts)
  unfolding refusal_of
  of_one t e k =
      let a = tokens_refusal (t ∷ []) in
      let b = weight_refusal_by f (t ∷ []) in
      ap (λ (r : ℕ). lower r (weights_refusal_by f (split_at [] os)))
      (ap tokens_refusal e ∙ tokens_refusal-cons t (separator ∷ ts) ∙ ap (λ (r : ℕ). lower a r) (separator-refusal ts))
      ∙ ap (λ (r : ℕ). lower (lower a (tokens_refusal ts)) r) (ap (λ (ws : List (List Token)). weights_refusal_by f ws) k ∙ weights-cons f (t ∷ []) (split_at [] ts))
      ∙ lower-four a (tokens_refusal ts) b (weights_refusal_by f (split_at [] ts))

module _ (f : Subject → Bool) {os : List Token} where
  of-last : (t : Token) → os ≡ t ∷ [] → split_at [] os ≡ (t ∷ []) ∷ [] → refusal_of f os ≡ lower (tokens_refusal (t ∷ [])) (weight_refusal_by f (t ∷ []))
  unfolding refusal_of
  of-last t e k =
      ap (λ (r : ℕ). lower r (weights_refusal_by f (split_at [] os))) (ap tokens_refusal e)
      ∙ ap (λ (r : ℕ). lower (tokens_refusal (t ∷ [])) r)
      (ap (λ (ws : List (List Token)). weights_refusal_by f ws) k ∙ weights-cons f (t ∷ []) []
      ∙ ap (λ (r : ℕ). lower (weight_refusal_by f (t ∷ [])) r) (weights-none f) ∙ lower-none-right (weight_refusal_by f (t ∷ [])))

  of_none : os ≡ [] → refusal_of f os ≡ 0
  unfolding refusal_of tokens_refusal lower
  of_none e =
      ap (λ (ts : List Token). lower (tokens_refusal ts) (weights_refusal_by f (split_at [] ts))) e
      ∙ lower-none-left (weights_refusal_by f (split_at [] []))
      ∙ ap (λ (ws : List (List Token)). weights_refusal_by f ws) (split-end [])
      ∙ weights-cons f [] []
      ∙ ap (λ (r : ℕ). lower r (weights_refusal_by f [])) (empty-refusal f)
      ∙ weights-none f

many_more : (os ts : List Token) {x : List Token} → split_at [] os ≡ x ∷ split_at [] ts → many_of os ≡ suc (many_of ts)
unfolding many_of
many_more os ts e = ap (λ (ws : List (List Token)). length ws) e

many-one : (os : List Token) {x : List Token} → split_at [] os ≡ x ∷ [] → many_of os ≡ 1
unfolding many_of
many-one os e = ap (λ (ws : List (List Token)). length ws) e

-- ## The answers

zero-bound : lower 0 3 ≡ 3
zero-bound = lower-none-left 3

one-bound : (g : Signs) (src w : List ℕ) (t : Token) {r : ℕ} → Sound (key_at g src) (length src) w → OneRefused g src w t r → lower r 3 ≡ 3
one-bound g src w t s v =
    let a = tokens_refusal (t ∷ []) in
    let b = weight_refusal_by (stands_in s.ds) (t ∷ []) in
    ap (λ (x : ℕ). lower x 3) (v.is s.n s.ds s.holds)
    ∙ three-right (lower a b) (bounded-lower 3 7 a b (bounded-tokens (t ∷ [])) (bounded-weight (stands_in s.ds) (t ∷ [])))

module _ (g : Signs) (src w : List ℕ) (p : Spot) {x : Weight} (v : WeightIs g src p x) where
  pub turn-bad : x ≡ weight.Bad → BadRefusal g src w p
  unfolding refusal_of
  turn-bad e =
      let z : BadWeights (operands_left g src false p) = subst (WeightIs g src p) e v in
      record { refusal = λ n ds h. z.by (stands_in ds) }

  module _ {more : Bool} {d : Spot} (e : x ≡ weight.Empty more d) where
    empty : EmptyWeight g src p more d
    empty = subst (WeightIs g src p) e v

    pub turn-empty : more ≡ true → MoreRefusals g src w p 0 d
    turn-empty k =
        record {
          refusal = λ n ds h. of-empty (stands_in ds) (empty.on k) (empty.split-on k) ∙ sym (lower-none-left (refusal_of (stands_in ds) (operands_left g src false d)));
          many = many_more (operands_left g src false p) (operands_left g src false d) (empty.split-on k);
          bound = zero-bound;
          less = empty.less k;
          mode = empty.mode;
          to = empty.to;
        }

    pub turn_end : more ≡ false → LastRefusal g src w p 0
    turn_end k =
        record {
          refusal = λ n ds h. of_none (stands_in ds) (empty.last k);
          many = many-one (operands_left g src false p) (ap (λ (ts : List Token). split_at [] ts) (empty.last k) ∙ split-end []);
        }

  module _ {q : Spot} {t : Tok} {more : Bool} {d : Spot} (e : x ≡ weight.One q t more d) where
    one : OneWeight g src p q t more d
    one = subst (WeightIs g src p) e v

    pub turn-to : q.at ≤ length src
    turn-to = one.begin-to

    pub turn-token : TokenIs g src q t
    turn-token = one.token

    module _ {r : ℕ} (s : OneRefused g src w (token_there g src q) r) where
      pub turn_one : Sound (key_at g src) (length src) w → more ≡ true → MoreRefusals g src w p r d
      turn_one o k =
          record {
            refusal = λ n ds h.
                of_one (stands_in ds) (token_there g src q) (one.on k) (one.split-on k)
                ∙ ap (λ (y : ℕ). lower y (refusal_of (stands_in ds) (operands_left g src false d))) (sym (s.is n ds h));
            many = many_more (operands_left g src false p) (operands_left g src false d) (one.split-on k);
            bound = one-bound g src w (token_there g src q) o s;
            less = one.less;
            mode = one.mode;
            to = one.to;
          }

      pub turn_last : more ≡ false → LastRefusal g src w p r
      turn_last k =
          record {
            refusal = λ n ds h. of-last (stands_in ds) (token_there g src q) (one.last k) (one.split-last k) ∙ sym (s.is n ds h);
            many = many-one (operands_left g src false p) (one.split-last k);
          }
