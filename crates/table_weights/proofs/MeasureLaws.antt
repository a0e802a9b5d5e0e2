-- The weights of one operand and of a whole line, counted and tested.
use mathlib.Core.Path.{◌≡◌, refl, sym, ap, ◌∙◌, subst}
use mathlib.Core.Bool.{Bool, true, ◌&&◌}
use mathlib.Core.List.{List, ◌∷◌}
use Prim.Native.Nat.{ℕ, suc, ◌+◌, ◌-◌, ◌*◌, ◌/◌, ◌≤◌, ◌<◌}
use native.Mathlib.Omega.{arith}
use lib.ListN.{length}
use lib.Dec.{leb}
use Rattle.rules.specs.Text.{every}
use Rattle.rules.specs.State.{Subject}
use Rattle.rules.specs.Meaning.{count_all}
use Rattle.text_lines.specs.declared.Signs.{Signs}
use Rattle.text_lines.specs.declared.Spot.{Spot}
use Rattle.text_tokens.specs.Left.{is_inside}
use Rattle.base_units.specs.declared.Rank.{Rank}
use Rattle.work_subjects.specs.Keys.{key_at, subject_left}
use Rattle.work_rows.specs.Cells.{cell}
use Rattle.work_order.specs.Links.{place_number, rank_number}
use Rattle.work_store.specs.Store.{Decl, Holds, Sound}
use Rattle.table_weights.specs.declared.Part.{Part}
use Rattle.table_weights.specs.declared.Part.TheVariants as part
use Rattle.table_weights.specs.declared.Cursor.{Cursor}
use Rattle.table_weights.specs.declared.Turn.{Turn}
use Rattle.table_weights.specs.declared.Measured.{Measured}
use Rattle.table_weights.specs.Ranks.{rank_in, RankIs, level_ranks}
use Rattle.table_weights.specs.Reading.{quote_ranks, InQuotes, InName, part_ranks, PartFits, weights_left, Ahead, TurnIs, Starts, Readable, Measures, ranks_at, MeasuresLine, item_ranks, RowReady, MeasuresItem}
use Rattle.table_weights.proofs.QuoteLaws.{and-true, and_assoc}

-- ## One operand

-- where the spots stand
module _ (g : Signs) (src : List ℕ) {x : Part} {p : Spot} (h : PartFits g src x) where
  pub part-to : x ≡ part.One p → p.at ≤ length src
  part-to e = let i : InName src p = subst (PartFits g src) e h in i.to

  pub part-inside : x ≡ part.One p → is_inside p.mode ≡ true
  part-inside e = let i : InName src p = subst (PartFits g src) e h in i.inside

  pub part-quoted : x ≡ part.Quotes p → InQuotes g src p
  part-quoted e = subst (PartFits g src) e h

module _ (g : Signs) (src w : List ℕ) (own : ℕ) {x : Part} where
  pub measure-own : x ≡ part.Own → Measures (key_at g src) (length src) w (part_ranks g src own x) (record { weights = 1; ranked = leb 1 own })
  unfolding part_ranks every
  measure-own e = rw e (record { weights = λ n ds o. refl; ranked = λ n ds o. sym (and-true (leb 1 own)); few = omega arith })

  pub measure-none : x ≡ part.None → Measures (key_at g src) (length src) w (part_ranks g src own x) (record { weights = 0; ranked = true })
  unfolding part_ranks every
  measure-none e = rw e (record { weights = λ n ds o. refl; ranked = λ n ds o. refl; few = omega arith })

  pub measure-one : {p : Spot} {r : Rank} → x ≡ part.One p → RankIs (key_at g src) (length src) w (subject_left g src p) r.0
      → Measures (key_at g src) (length src) w (part_ranks g src own x) (record { weights = 1; ranked = leb 1 r.0 })
  unfolding part_ranks every
  measure-one {r = r} e k = rw e (record {
    weights = λ n ds o. refl;
    ranked = λ n ds o. sym (and-true (leb 1 r.0)) ∙ ap (λ (y : ℕ). leb 1 y && true) (k.is n ds o);
    few = omega arith;
  })

  pub measure-quotes : {p : Spot} {m : Measured} → x ≡ part.Quotes p → Measures (key_at g src) (length src) w (quote_ranks g src p) m
      → Measures (key_at g src) (length src) w (part_ranks g src own x) m
  unfolding part_ranks
  measure-quotes e k = rw e (record { weights = k.weights; ranked = k.ranked; few = k.few })

-- ## All levels

-- The levels before the last `left` are counted.
pub record Measuring (g : Signs) (src w : List ℕ) (place levels own : ℕ) (c : Cursor) (left weights : ℕ) (ranked : Bool) : Type 0 where
  pub count : (n : ℕ) (ds : List Decl) → Holds (key_at g src) (length src) w n ds
      → weights + count_all (level_ranks (rank_in w ds) own left (weights_left g src c)) ≡ count_all (ranks_at g src place levels own (rank_in w ds))
  pub all : (n : ℕ) (ds : List Decl) → Holds (key_at g src) (length src) w n ds
      → (ranked && every (every (leb 1)) (level_ranks (rank_in w ds) own left (weights_left g src c)))
      ≡ every (every (leb 1)) (ranks_at g src place levels own (rank_in w ds))
  pub few : weights + 8 * left ≤ 64
  pub ahead : Ahead g src c

module _ (g : Signs) (src w : List ℕ) (place levels own : ℕ) (h : Readable g src place levels) where
  pub measuring-none : {c : Cursor} → Starts g src place c → Measuring g src w place levels own c levels 0 true
  unfolding ranks_at
  measuring-none s = record {
    count = λ n ds o. rw (s.ranks (rank_in w ds) own levels) (omega arith);
    all = λ n ds o. rw (s.ranks (rank_in w ds) own levels);
    few = omega (arith, h.few);
    ahead = s.ahead;
  }

module _ {g : Signs} {src w : List ℕ} {place levels own : ℕ} {c : Cursor} {left weights : ℕ} {ranked : Bool}
    (v : Measuring g src w place levels own c left weights ranked) where
  module _ {t : Turn} {m : Measured} (k : TurnIs g src c t) (i : Measures (key_at g src) (length src) w (part_ranks g src own t.part) m) {next : ℕ} (l : suc next ≡ left) where
    level : (f : Subject → ℕ) → level_ranks f own left (weights_left g src c)
        ≡ part_ranks g src own t.part f ∷ level_ranks f own next (weights_left g src t.next)
    level f = ap (λ (n : ℕ). level_ranks f own n (weights_left g src c)) (sym l) ∙ k.ranks f own next

    pub measuring-small : weights + m.weights ≤ 64
    measuring-small = omega (arith, v.few, i.few)

    pub measuring-more : Measuring g src w place levels own t.next next (weights + m.weights) (ranked && m.ranked)
    unfolding count_all every
    measuring-more = record {
      count = λ n ds o.
          let f : Subject → ℕ = rank_in w ds in
          omega (arith, v.count n ds o, ap count_all (level f), i.weights n ds o);
      all = λ n ds o.
          let f : Subject → ℕ = rank_in w ds in
          let rest : Bool = every (every (leb 1)) (level_ranks f own next (weights_left g src t.next)) in
          and_assoc ranked m.ranked rest
          ∙ ap (λ (b : Bool). ranked && (b && rest)) (i.ranked n ds o) ∙ ap (λ (r : List (List ℕ)). ranked && every (every (leb 1)) r) (sym (level f))
          ∙ v.all n ds o;
      few = omega (arith, v.few, i.few);
      ahead = k.ahead;
    }

  pub measuring-all : left ≤ 0 → MeasuresLine g src w place levels own (record { weights = weights; ranked = ranked })
  unfolding count_all every level_ranks
  measuring-all l =
      let e : left ≡ 0 = omega arith in
      record {
        weights = λ n ds o. let z = v.count n ds o in omega (arith, rw e at z);
        ranked = λ n ds o. let z = v.all n ds o in sym (and-true ranked) ∙ rw e at z;
        few = omega (arith, v.few);
      }

-- ## The order line of a mark

module _ (g : Signs) (src w : List ℕ) (mark levels : ℕ) (r : RowReady g src w mark levels) where
  pub row_inside : Sound (key_at g src) (length src) w → 8 * (mark / 16) + 8 ≤ length w
  row_inside s = omega (arith, r.row, s.holds.roomy.room)

  module _ {place x : ℕ} (e : place ≡ x) (i : x ≡ cell w mark place_number) where
    pub row_line : Readable g src place levels
    row_line = let z : place ≡ cell w mark place_number = e ∙ i in rw z r.line

    pub row-measured : {own : ℕ} {m : Measured} → own ≡ cell w mark rank_number → MeasuresLine g src w place levels own m → MeasuresItem g src w mark levels m
    unfolding item_ranks
    row-measured j k = let z : place ≡ cell w mark place_number = e ∙ i in
        record { weights = λ n ds o. rw (z, j) at (k.weights n ds o); ranked = λ n ds o. rw (z, j) at (k.ranked n ds o); few = k.few }
