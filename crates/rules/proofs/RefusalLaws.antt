-- Laws of the lowest of several refusals (specs/Text): what holds of each holds of it, and between which numbers those of names and tokens lie.
use mathlib.Core.Path.{◌≡◌, refl}
use mathlib.Core.Bool.{Bool, true, not, ◌&&◌, ◌||◌}
use mathlib.Core.List.{List, [], ◌∷◌, map}
use Prim.Native.Nat.{ℕ, ◌≤◌}
use native.Mathlib.Omega.{arith}
use lib.ListN.{length}
use lib.Dec.{eqb, leb, ltb}
use Rattle.base_lists.proofs.Bools.{cond_both}
use Rattle.base_lists.proofs.Lists.{All}
use Rattle.rules.specs.Text.{within, every, ◌unless◌, lower, lowest}
use Rattle.rules.specs.Names.{is_visible, name_refusal, names_refusal}
use Rattle.rules.specs.Tokens.{broken, quote, Token, tokens_refusal}
use Rattle.rules.proofs.TextLaws.{within_low, within-high, within-intro}

-- ## What holds of each

module _ (P : ℕ → Type 0) where
  pub lower-keeps : (a b : ℕ) → P a → P b → P (lower a b)
  unfolding lower
  lower-keeps a b x y = cond_both P (eqb a 0) y (cond_both P (eqb b 0) x (cond_both P (ltb a b) x y))

  module _ (none : P 0) where
    pub lowest-keeps : (rs : List ℕ) → All P rs → P (lowest rs)
    unfolding lowest
    lowest-keeps [] h = none
    lowest-keeps (r ∷ rs) h = lower-keeps r (lowest rs) h.0 (lowest-keeps rs h.1)

    pub unless-keeps : (n : ℕ) (t : Bool) → P n → P (n unless t)
    unless-keeps n t h = cond_both P t none h

-- ## Bounds

-- none, or one from a to b
abbrev pub Bounded : ℕ → ℕ → ℕ → Type 0
Bounded a b r = (r ≡ 0 → ⊥) → within a b r ≡ true

module _ (a b : ℕ) where
  pub bounded-none : Bounded a b 0
  bounded-none z = absurd (z refl)

  pub bounded-lower : (r s : ℕ) → Bounded a b r → Bounded a b s → Bounded a b (lower r s)
  bounded-lower = lower-keeps (Bounded a b)

  pub bounded-lowest : (rs : List ℕ) → All (Bounded a b) rs → Bounded a b (lowest rs)
  bounded-lowest = lowest-keeps (Bounded a b) bounded-none

  pub bounded-unless : (n : ℕ) (t : Bool) → within a b n ≡ true → Bounded a b (n unless t)
  bounded-unless n t h = unless-keeps (Bounded a b) bounded-none n t (λ z. h)

  module _ (r : ℕ) (h : Bounded a b r) where
    pub bounded-low : (r ≡ 0 → ⊥) → a ≤ r
    bounded-low z = within_low a b r (h z)

    pub bounded-high : (r ≡ 0 → ⊥) → r ≤ b
    bounded-high z = within-high a b r (h z)

    -- wider bounds hold too
    pub bounded-wider : (c d : ℕ) → c ≤ a → b ≤ d → Bounded c d r
    bounded-wider c d l k z =
        let low = bounded-low z in
        let high = bounded-high z in
        within-intro c d r (omega (arith, low, l)) (omega (arith, high, k))

-- ## Names and tokens

bounded-name : (n : List ℕ) → Bounded 3 7 (name_refusal n)
unfolding name_refusal
bounded-name n =
    let some = leb 1 (length n) && every is_visible n in
    let short = leb (length n) 32 in
    bounded-lower 3 7 (3 unless some) (7 unless short) (bounded-unless 3 7 3 some refl) (bounded-unless 3 7 7 short refl)

each-name : (ns : List (List ℕ)) → All (Bounded 3 7) (map name_refusal ns)
each-name [] = tt
each-name (n ∷ ns) = (bounded-name n, each-name ns)

pub bounded-names : (ns : List (List ℕ)) → Bounded 3 7 (names_refusal ns)
unfolding names_refusal
bounded-names ns = bounded-lowest 3 7 (map name_refusal ns) (each-name ns)

pub bounded-tokens : (ts : List Token) → Bounded 3 7 (tokens_refusal ts)
unfolding tokens_refusal
bounded-tokens [] = bounded-none 3 7
bounded-tokens (t ∷ ts) =
    let whole = not (eqb t.kind broken || (eqb t.kind quote && eqb (length t.names) 0)) in
    bounded-lowest 3 7 ((3 unless whole) ∷ names_refusal t.names ∷ tokens_refusal ts ∷ [])
    (bounded-unless 3 7 3 whole refl, (bounded-names t.names, (bounded-tokens ts, tt)))
