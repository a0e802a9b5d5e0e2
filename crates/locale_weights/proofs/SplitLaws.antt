-- What stands between `;` and `;` (Rattle.rules.specs.OrderLines, split_at), token by token; and operands that are malformed.
use mathlib.Core.Path.{◌≡◌, refl, sym, ap, ◌∙◌}
use mathlib.Core.Bool.{Bool, false}
use mathlib.Core.List.{List, [], ◌∷◌, ◌++◌, append-nil, append_assoc}
use Prim.Native.Nat.{ℕ}
use lib.Dec.{eqb}
use borrow.Author.Tests.{eqb-true}
use Rattle.base_lists.proofs.Bools.{by}
use Rattle.rules.specs.Text.{lower}
use Rattle.rules.specs.Tokens.{semi, Token, tokens_refusal}
use Rattle.rules.specs.State.{Subject}
use Rattle.rules.specs.OrderLines.{split_at}
use Rattle.text_tokens.proofs.RefusalLaws.{three-left, three-last}
use Rattle.locale_weights.specs.Weights.{weights_refusal_by, BadWeights}
use Rattle.locale_weights.proofs.RefusalLaws.{bounded-weights, weight-two, weights-three}

pub split-end : (part : List Token) → split_at part [] ≡ part ∷ []
unfolding split_at
split-end part = refl

module _ (part : List Token) (t : Token) (ts : List Token) where
  pub split-semi : t.kind ≡ semi → split_at part (t ∷ ts) ≡ part ∷ split_at [] ts
  unfolding split_at
  split-semi e = rw e

  pub split-more : eqb t.kind semi ≡ false → split_at part (t ∷ ts) ≡ split_at (part ++ t ∷ []) ts
  unfolding split_at
  split-more e = rw e

-- The first of these operands begins with `part`.
record Begun (part : List Token) (ws : List (List Token)) : Type 0 where
  more : List Token
  rest : List (List Token)
  whole : ws ≡ (part ++ more) ∷ rest

split-begun : (part ts : List Token) → Begun part (split_at part ts)
split-begun part [] =
    record { more = []; rest = []; whole = split-end part ∙ ap (λ (x : List Token). x ∷ []) (sym (append-nil part)) }
split-begun part (t ∷ ts) =
    by (eqb t.kind semi)
    (λ e. record {
      more = [];
      rest = split_at [] ts;
      whole = split-semi part t ts (eqb-true t.kind semi e) ∙ ap (λ (x : List Token). x ∷ split_at [] ts) (sym (append-nil part));
    })
    (λ e. let b = split-begun (part ++ t ∷ []) ts in
    record {
      more = t ∷ b.more;
      rest = b.rest;
      whole = split-more part t ts e ∙ b.whole ∙ ap (λ (x : List Token). x ∷ b.rest) (append_assoc part (t ∷ []) b.more);
    })

-- ## Malformed operands

pub bad-tokens : (os : List Token) → tokens_refusal os ≡ 3 → BadWeights os
bad-tokens os e =
    record { by = λ (f : Subject → Bool). rw e (three-left (weights_refusal_by f (split_at [] os)) (bounded-weights f (split_at [] os))) }

-- two tokens with no `;` between them
pub bad-two : (t u : Token) (ts : List Token) → eqb t.kind semi ≡ false → eqb u.kind semi ≡ false → BadWeights (t ∷ u ∷ ts)
bad-two t u ts h k =
    let b = split-begun (t ∷ u ∷ []) ts in
    let e : split_at [] (t ∷ u ∷ ts) ≡ (t ∷ u ∷ b.more) ∷ b.rest = split-more [] t (u ∷ ts) h ∙ split-more (t ∷ []) u ts k ∙ b.whole in
    record {
      by = λ (f : Subject → Bool).
          ap (λ (ws : List (List Token)). lower (tokens_refusal (t ∷ u ∷ ts)) (weights_refusal_by f ws)) e
          ∙ ap (λ (r : ℕ). lower (tokens_refusal (t ∷ u ∷ ts)) r) (weights-three f (t ∷ u ∷ b.more) b.rest (weight-two f t u b.more))
          ∙ three-last (t ∷ u ∷ ts);
    }
