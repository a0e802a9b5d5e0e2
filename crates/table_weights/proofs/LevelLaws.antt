-- The paper's weights of a line, as ranks: one level after the other.
use mathlib.Core.Path.{◌≡◌, refl, sym, ap}
use mathlib.Core.List.{List, [], ◌∷◌, map}
use Prim.Native.Nat.{ℕ}
use lib.ListN.{length}
use Rattle.rules.specs.Tokens.{Token}
use Rattle.rules.specs.Meaning.{Rule}
use Rattle.rules.specs.State.{Subject, OrderLine}
use Rattle.rules.specs.OrderLines.{subject_of, weight_of, weights_of, rank_of}
use Rattle.rules.specs.Compile.{ranks_of, line_ranks}
use Rattle.table_weights.specs.Ranks.{ranks_by, level_ranks}

-- f gives the ranks of subjects, and own is that of x₀
module _ (ls : List OrderLine) (x₀ : Subject) (f : Subject → ℕ) (own : ℕ) (each : (n : List ℕ) → f (subject_of n) ≡ rank_of ls (subject_of n))
    (self : own ≡ rank_of ls x₀) where
  names-ranks : (ns : List (List ℕ)) → map (rank_of ls) (map subject_of ns) ≡ map (λ (n : List ℕ). f (subject_of n)) ns
  names-ranks [] = refl
  names-ranks (n ∷ ns) = rw (each n, names-ranks ns)

  self-ranks : ranks_of ls (x₀ ∷ []) ≡ own ∷ []
  unfolding ranks_of
  self-ranks = ap (λ (r : ℕ). r ∷ []) (sym self)

  weight-ranks : (w : List Token) → ranks_of ls (weight_of x₀ w) ≡ ranks_by f own w
  unfolding ranks_of weight_of ranks_by
  weight-ranks [] = self-ranks
  weight-ranks (t ∷ ts) = names-ranks t.names

  -- the paper's weights as ranks
  pub weights-ranks : (rs : List Rule) (ws : List (List Token)) → map (ranks_of ls) (weights_of x₀ rs ws) ≡ level_ranks f own (length rs) ws
  unfolding weights_of level_ranks
  weights-ranks [] ws = refl
  weights-ranks (r ∷ rs) [] = rw (self-ranks, weights-ranks rs [])
  weights-ranks (r ∷ rs) (w ∷ ws) = rw (weight-ranks w, weights-ranks rs ws)

  -- the ranks of a line, and whether it has one for each weight
  module _ (number : ℕ) (rs : List Rule) (ws : List (List Token)) where
    pub line-ranks : line_ranks ls (record { number = number; subject = x₀; weights = weights_of x₀ rs ws }) ≡ level_ranks f own (length rs) ws
    unfolding line_ranks
    line-ranks = weights-ranks rs ws
