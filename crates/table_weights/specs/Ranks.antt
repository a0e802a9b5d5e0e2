-- The weights of an order line as ranks, taken from the work area once every order line has its rank in its row (Rattle.work_order.specs.Links).
use Rattle.std.specs.Prelude.{◌≡◌, List, [], ◌∷◌, map, ℕ, zero, suc, None, Option, Some}
use Rattle.rules.specs.Tokens.{Token}
use Rattle.rules.specs.State.{Subject}
use Rattle.rules.specs.OrderLines.{subject_of}
use Rattle.work_rows.specs.Cells.{cell}
use Rattle.work_order.specs.Links.{rank_number}
use Rattle.work_subjects.specs.Keys.{Key, item}
use Rattle.work_store.specs.Store.{Decl, first, Holds}

-- ## Ranks

-- the rank in the row of what is found; 0 where nothing is
unfoldable pub rank_found : List ℕ → Option ℕ → ℕ
rank_found w (Some v) = cell w v rank_number
rank_found w None = 0

-- the rank that the area w has for a subject, ds being declared
unfoldable pub rank_in : List ℕ → List Decl → Subject → ℕ
rank_in w ds x = rank_found w (first (item x) ds)

-- r is the rank of the subject x.
pub record RankIs (key : ℕ → Key) (len : ℕ) (w : List ℕ) (x : Subject) (r : ℕ) : Type 0 where
  pub is : (n : ℕ) (ds : List Decl) → Holds key len w n ds → r ≡ rank_in w ds x

-- ## Weights, f giving the rank of a subject, and own being the line's own rank

-- of one operand: "Empty .. means the line itself. IGNORE gives no weight."
unfoldable pub ranks_by : (Subject → ℕ) → ℕ → List Token → List ℕ
ranks_by f own [] = own ∷ []
ranks_by f own (t ∷ ts) = map (λ (n : List ℕ). f (subject_of n)) t.names

-- of l levels; "missing at the end means the line itself"
unfoldable pub level_ranks : (Subject → ℕ) → ℕ → ℕ → List (List Token) → List (List ℕ)
level_ranks f own zero ws = []
level_ranks f own (suc l) [] = (own ∷ []) ∷ level_ranks f own l []
level_ranks f own (suc l) (w ∷ ws) = ranks_by f own w ∷ level_ranks f own l ws
