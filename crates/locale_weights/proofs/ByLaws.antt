-- What tells what stands: two that tell the same give the same refusals, and the paper's own is one of them.
use mathlib.Core.Path.{◌≡◌, refl, ap, ◌∙◌}
use mathlib.Core.Bool.{Bool, ◌&&◌, ◌||◌}
use mathlib.Core.List.{List, [], ◌∷◌, map}
use Prim.Native.Nat.{ℕ}
use lib.ListN.{length}
use lib.Dec.{eqb, leb}
use Rattle.rules.specs.Text.{every, is, ◌unless◌, lower, lowest}
use Rattle.rules.specs.Tokens.{Token}
use Rattle.rules.specs.State.{Declaration, Subject}
use Rattle.rules.specs.OrderLines.{is_names, subject_of, stands, weight_refusal, weights_refusal}
use Rattle.locale_weights.specs.Weights.{weight_refusal_by, weights_refusal_by}

every-alike : {A : Type 0} (f h : A → Bool) → ((x : A) → f x ≡ h x) → (xs : List A) → every f xs ≡ every h xs
unfolding every
every-alike f h e [] = refl
every-alike f h e (x ∷ xs) = rw (e x, every-alike f h e xs)

module _ (f h : Subject → Bool) (e : (x : Subject) → f x ≡ h x) where
  weight-alike : (w : List Token) → weight_refusal_by f w ≡ weight_refusal_by h w
  unfolding weight_refusal_by
  weight-alike [] = refl
  weight-alike (t ∷ ts) =
      ap (λ (b : Bool). lowest (3 unless (eqb (length ts) 0 && (is_names t || is t.text "IGNORE")) ∷ 6 unless b ∷ 7 unless leb (length t.names) 8 ∷ []))
      (every-alike f h e (map subject_of t.names))

  pub weights-alike : (ws : List (List Token)) → weights_refusal_by f ws ≡ weights_refusal_by h ws
  unfolding weights_refusal_by lowest
  weights-alike [] = refl
  weights-alike (w ∷ ws) =
      ap (λ (r : ℕ). lower r (lowest (map (weight_refusal_by f) ws))) (weight-alike w) ∙ ap (λ (r : ℕ). lower (weight_refusal_by h w) r) (weights-alike ws)

module _ (ds : List Declaration) where
  weight-paper : (w : List Token) → weight_refusal_by (stands ds) w ≡ weight_refusal ds w
  unfolding weight_refusal_by weight_refusal
  weight-paper [] = refl
  weight-paper (t ∷ ts) = refl

  pub weights-paper : (ws : List (List Token)) → weights_refusal_by (stands ds) ws ≡ weights_refusal ds ws
  unfolding weights_refusal_by weights_refusal lowest
  weights-paper [] = refl
  weights-paper (w ∷ ws) =
      ap (λ (r : ℕ). lower r (lowest (map (weight_refusal_by (stands ds)) ws))) (weight-paper w) ∙ ap (λ (r : ℕ). lower (weight_refusal ds w) r) (weights-paper ws)
