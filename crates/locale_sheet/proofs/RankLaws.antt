-- Ranks: whether a subject has an order line, and the rank that its row is given.
use Rattle.std.specs.Prelude.{None, Option, Some, ℕ}
use mathlib.Core.Path.{◌≡◌, refl, sym, ap, ◌∙◌, subst}
use mathlib.Core.Bool.{Bool, true, false, not}
use mathlib.Core.List.{List, [], ◌∷◌, map}
use Prim.Native.Nat.{ℕ, suc, ◌≤◌, ◌<◌}
use native.Mathlib.Omega.{arith}
use lib.ListN.{length, set, length-set}
use lib.Dec.{eqb}
use borrow.Author.Tests.{ne_eqb, eqb-true, eqb-false}
use Rattle.base_lists.proofs.Bools.{by, clash, or-false-intro}
use Rattle.base_lists.proofs.Lists.{All}
use Rattle.rules.specs.Text.{one_of}
use Rattle.rules.specs.Meaning.{Rule}
use Rattle.rules.specs.State.{Declaration, Subject, OrderLine}
use Rattle.rules.specs.OrderLines.{rank_from, rank_of}
use Rattle.rules.proofs.RankLaws.{is_line_of, rank_from-zero}
use Rattle.text_lines.specs.declared.Signs.{Signs}
use Rattle.work_rows.specs.Cells.{cell_at, cell}
use Rattle.work_rows.proofs.CellLaws.{Apart, cell-told, cell_other, cell_apart}
use Rattle.work_subjects.specs.Keys.{key_at}
use Rattle.work_store.specs.Store.{Decl, Once, Holds}
use Rattle.work_order.specs.declared.Order.{Order}
use Rattle.work_order.specs.Links.{place_number, rank_number, Row, Spread, more, ranked}
use Rattle.work_order.proofs.MoveLaws.{linked-rows}
use Rattle.locale_sheet.specs.Known.{line_at, is_row, mark_of, IsListed, Known}
use Rattle.locale_sheet.proofs.MarkLaws.{is_at, subject-mark, mark-row, rows_apart}

-- ## Marks in the list

-- a mark with no place after its subject is not in the list
unlisted : (g : Signs) (src w : List ℕ) (ds : List Decl) (v : ℕ) (us : List ℕ) → All (IsListed g src w ds) us → cell w v place_number ≡ 0 → one_of (eqb v) us ≡ false
unfolding one_of
unlisted g src w ds v [] a z = refl
unlisted g src w ds v (u ∷ us) a z =
    let n : eqb v u ≡ false = ne_eqb v u (λ e. let s = a.0.some in let y = rw e at z in omega (arith, s, y)) in
    rw n (unlisted g src w ds v us a.1 z)

-- ## Ranks that are given

-- rows that get none keep what they have
pub ranked-apart : (w : List ℕ) (k : ℕ) (us : List ℕ) (v j : ℕ) → j < 5 → All (Apart v) us → cell (ranked w k us) v j ≡ cell w v j
unfolding ranked
ranked-apart w k [] v j h a = refl
ranked-apart w k (u ∷ us) v j h a =
    ranked-apart (set w (cell_at u rank_number) k) (suc k) us v j h a.1
    ∙ cell_apart w u rank_number v j k (omega arith) h (λ e. a.0 (sym e))

-- and so do the other four numbers of all
pub ranked-other : (w : List ℕ) (k : ℕ) (us : List ℕ) (v j : ℕ) → j < 4 → cell (ranked w k us) v j ≡ cell w v j
unfolding ranked
ranked-other w k [] v j h = refl
ranked-other w k (u ∷ us) v j h =
    ranked-other (set w (cell_at u rank_number) k) (suc k) us v j h
    ∙ cell_other w u rank_number v j k (omega arith) (omega (arith, h)) (λ e. omega (arith, e, h))

pub ranked-length : (w : List ℕ) (k : ℕ) (us : List ℕ) → length (ranked w k us) ≡ length w
unfolding ranked
ranked-length w k [] = refl
ranked-length w k (u ∷ us) = ranked-length (set w (cell_at u rank_number) k) (suc k) us ∙ length-set w (cell_at u rank_number) k

rows-kept : (w w' : List ℕ) (vs : List ℕ) → length w' ≡ length w → All (Row w) vs → All (Row w') vs
rows-kept w w' [] l a = tt
rows-kept w w' (v ∷ vs) l a = (let i = a.0.inside in record { some = a.0.some; inside = omega (arith, i, l) }, rows-kept w w' vs l a.1)

-- ## Of what is known

module _ (g : Signs) (src : List ℕ) (rs : List Rule) (n : ℕ) (ds : List Decl) (w₀ : List ℕ) (h : Holds (key_at g src) (length src) w₀ n ds) (o : Once ds) where
  -- the lines of a subject
  line-marks : (x : Subject) (us : List ℕ) → All (IsListed g src w₀ ds) us
      → one_of (is_line_of x) (map (line_at g src rs w₀) us) ≡ one_of (λ (u : ℕ). is_at u (mark_of (length src) ds x)) us
  unfolding one_of is_line_of line_at
  line-marks x [] a = refl
  line-marks x (u ∷ us) a =
      rw (subject-mark g src w₀ n ds h o u x a.0.row a.0.even, line-marks x us a.1)

  -- the rank of a subject whose row is v
  rank-cell : (x : Subject) (v : ℕ) → mark_of (length src) ds x ≡ Some v → is_row (length src) ds v ≡ true → (w : List ℕ) (k : ℕ) (us : List ℕ)
      → All (IsListed g src w₀ ds) us → Spread us → All (Row w) us → (one_of (eqb v) us ≡ false → cell w v rank_number ≡ 0)
      → cell (ranked w k us) v rank_number ≡ rank_from k x (map (line_at g src rs w₀) us)
  unfolding ranked rank_from line_at one_of
  rank-cell x v m r w k [] a s b z = z refl
  rank-cell x v m r w k (u ∷ us) a (more c s) b z =
      let e = subject-mark g src w₀ n ds h o u x a.0.row a.0.even ∙ ap (is_at u) m in
      by (eqb v u)
      (λ t. let y = eqb-true v u t in
      rw (e ∙ t)
      (ranked-apart (set w (cell_at u rank_number) k) (suc k) us v rank_number (omega arith) (subst (λ (q : ℕ). All (Apart q) us) (sym y) c)
      ∙ ap (λ (q : ℕ). cell (set w (cell_at u rank_number) k) q rank_number) y
      ∙ cell-told w u rank_number k (omega arith) b.0.inside))
      (λ t. let d = rows_apart g src w₀ n ds h o u v a.0.row r (λ y. eqb-false v u t (sym y)) in
      rw (e ∙ t)
      (rank-cell x v m r (set w (cell_at u rank_number) k) (suc k) us a.1 s
      (rows-kept w (set w (cell_at u rank_number) k) us (length-set w (cell_at u rank_number) k) b.1)
      (λ f. cell_apart w u rank_number v rank_number k (omega arith) (omega arith) d ∙ z (or-false-intro t f))))

-- whether a subject with this mark has an order line
abbrev pub is_ordered : List ℕ → Option ℕ → Bool
is_ordered w (Some v) = not (eqb (cell w v place_number) 0)
is_ordered w None = false

-- its rank, in an area where ranks are given
abbrev pub rank_at : List ℕ → Option ℕ → ℕ
rank_at w (Some v) = cell w v rank_number
rank_at w None = 0

module _ (g : Signs) (src w : List ℕ) (o : Order) (rs : List Rule) (n : ℕ) (cs : List Declaration) (ls : List OrderLine) (k : Known g src w o rs n cs ls) where
  none_of : (us : List ℕ) → one_of (λ (u : ℕ). is_at u None) us ≡ false
  unfolding one_of
  none_of [] = refl
  none_of (u ∷ us) = none_of us

  -- whether a subject has an order line is told by its row
  pub rank-none : (x : Subject) (f : Option ℕ) → mark_of (length src) k.ds x ≡ f → eqb (rank_of ls x) 0 ≡ not (is_ordered w f)
  rank-none x f m =
      ap (λ (ms : List OrderLine). eqb (rank_of ms x) 0) k.are
      ∙ rank_from-zero 1 x (map (line_at g src rs w) k.marks) (omega arith)
      ∙ ap not (line-marks g src rs n k.ds w k.holds k.holds.once x k.marks k.listed
      ∙ ap (λ (y : Option ℕ). one_of (λ (u : ℕ). is_at u y) k.marks) m ∙ go f m)
    where
      positive : (a : ℕ) → (a ≡ 0 → ⊥) → 1 ≤ a
      positive a z = omega (arith, z)

      go : (f : Option ℕ) → mark_of (length src) k.ds x ≡ f → one_of (λ (u : ℕ). is_at u f) k.marks ≡ is_ordered w f
      go None m = none_of k.marks
      go (Some v) m =
          by (eqb (cell w v place_number) 0)
          (λ t. rw t (unlisted g src w k.ds v k.marks k.listed (eqb-true (cell w v place_number) 0 t)))
          (λ t. let z = eqb-false (cell w v place_number) 0 t in
          rw t (k.all v (mark-row g src w n k.ds k.holds k.holds.once v x m) (positive (cell w v place_number) z)))

  -- the ranks that the rows are given are those of the paper
  pub rank-given : (x : Subject) (f : Option ℕ) → mark_of (length src) k.ds x ≡ f → rank_at (ranked w 1 k.marks) f ≡ rank_of ls x
  rank-given x None m = sym (eqb-true (rank_of ls x) 0 (rank-none x None m))
  rank-given x (Some v) m =
      let r = mark-row g src w n k.ds k.holds k.holds.once v x m in
      rank-cell g src rs n k.ds w k.holds k.holds.once x v m r w 1 k.marks k.listed k.lines.spread
      (linked-rows w o.first k.marks k.lines.linked)
      (λ f. k.unranked v r (by (eqb (cell w v place_number) 0) (λ t. eqb-true (cell w v place_number) 0 t)
      (λ t. let z = eqb-false (cell w v place_number) 0 t in clash (k.all v r (omega (arith, z))) f)))
      ∙ ap (λ (ms : List OrderLine). rank_of ms x) (sym k.are)
