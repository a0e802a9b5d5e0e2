-- A table that is made of one value has it at each place.
use mathlib.Core.Path.{◌≡◌, ap, ◌∙◌}
use mathlib.Core.List.{List}
use Prim.Native.Nat.{ℕ, ◌<◌}
use lib.ListN.{length, get_or, replicate, get_or-replicate}

pub blank-at : {A : Type 0} (table : List A) (x d : A) (c : ℕ) → table ≡ replicate (length table) x → c < length table → get_or table c d ≡ x
blank-at table x d c e h = ap (λ (t : List _). get_or t c d) e ∙ get_or-replicate (length table) c x d h
