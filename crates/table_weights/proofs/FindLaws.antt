-- The rank of a name: that of what is found at its mark.
use Rattle.std.specs.Prelude.{None, Option, Some, ℕ}
use mathlib.Core.Path.{◌≡◌, sym, ap, ◌∙◌}
use mathlib.Core.Bool.{true}
use mathlib.Core.List.{List}
use Prim.Native.Nat.{ℕ, ◌+◌, ◌*◌, ◌/◌, ◌≤◌}
use native.Mathlib.Omega.{arith}
use lib.ListN.{length}
use Rattle.text_lines.specs.declared.Signs.{Signs}
use Rattle.text_lines.specs.declared.Spot.{Spot}
use Rattle.text_tokens.specs.Left.{is_inside}
use Rattle.work_rows.specs.Cells.{cell}
use Rattle.work_order.specs.Links.{rank_number}
use Rattle.work_subjects.specs.Keys.{Key, key_at, subject_left}
use Rattle.work_subjects.proofs.SpotLaws.{key_at-inside}
use Rattle.work_store.specs.Store.{first, Sound, Finds}
use Rattle.work_store.proofs.ListLaws.{found_within}
use Rattle.table_weights.specs.Ranks.{rank_found, rank_in, RankIs}

module _ (g : Signs) (src : List ℕ) {w : List ℕ} (p : Spot) (o : Sound (key_at g src) (length src) w) where
  -- the mark fits
  pub mark-small : p.at ≤ length src → 2 * p.at ≤ 2097152
  mark-small h = omega (arith, o.holds.roomy.few)

  -- it is the name's place
  pub mark-in : p.at ≤ length src → (2 * p.at) / 2 ≤ length src
  mark-in h = omega arith

  module _ {f : Option ℕ} (m : Finds (key_at g src) (length src) w (key_at g src (2 * p.at)) f) where
    -- the row of what is found stands in the area
    pub found-row : {v : ℕ} → f ≡ Some v → 8 * (v / 16) + 8 ≤ length w
    found-row {v} e =
        let h : v / 2 ≤ length src = found_within o.holds (key_at g src (2 * p.at)) v (sym (m.is o.n o.ds o.holds) ∙ e) in
        omega (arith, o.holds.roomy.room)

    module _ (i : is_inside p.mode ≡ true) where
      pub rank-found : {v r : ℕ} → f ≡ Some v → r ≡ cell w v rank_number → RankIs (key_at g src) (length src) w (subject_left g src p) r
      unfolding rank_in rank_found
      rank-found {v} {r} e k = record {
        is = λ n ds h. k ∙ ap (rank_found w) (sym e ∙ m.is n ds h ∙ ap (λ (x : Key). first x ds) (key_at-inside g src p i));
      }

      pub rank-none : f ≡ None → RankIs (key_at g src) (length src) w (subject_left g src p) 0
      unfolding rank_in rank_found
      rank-none e = record {
        is = λ n ds h. ap (rank_found w) (sym e ∙ m.is n ds h ∙ ap (λ (x : Key). first x ds) (key_at-inside g src p i));
      }
