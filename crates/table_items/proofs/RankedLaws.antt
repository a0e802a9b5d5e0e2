-- The work area once every order line has its rank: it holds what it held, and the ranks in it are those of the paper.
use Rattle.std.specs.Prelude.{None, Option, Some, ℕ}
use mathlib.Core.Path.{◌≡◌, refl, sym, ap, ◌∙◌}
use mathlib.Core.Bool.{true, not-not}
use mathlib.Core.List.{List, [], ◌∷◌}
use Prim.Native.Nat.{ℕ, suc}
use native.Mathlib.Omega.{arith}
use lib.ListN.{length, set}
use lib.Dec.{leb, eqb}
use Rattle.base_lists.proofs.Lists.{All}
use Rattle.rules.specs.Text.{every}
use Rattle.rules.specs.Tokens.{operands}
use Rattle.rules.specs.Meaning.{Rule}
use Rattle.rules.specs.State.{Declaration, undefined, OrderLine}
use Rattle.rules.specs.OrderLines.{operand_list, subject_of, rank_of}
use Rattle.rules.specs.Compile.{line_ranks, is_ranked}
use Rattle.text_lines.specs.declared.Signs.{Signs}
use Rattle.text_tokens.specs.Left.{tokens_left}
use Rattle.work_rows.specs.Cells.{cell_at, cell}
use Rattle.work_subjects.specs.Keys.{item, key_at}
use Rattle.work_store.specs.Store.{Decl, first, Roomy, Holds, undefined_mark}
use Rattle.work_order.specs.declared.Order.{Order}
use Rattle.work_order.specs.Links.{line_number, place_number, rank_number, Lines, ranked}
use Rattle.work_order.proofs.ListLaws.{all_map, lines_other}
use Rattle.locale_sheet.specs.Known.{subject_at, behind, line_at, is_row, IsListed, Known}
use Rattle.locale_sheet.proofs.MarkLaws.{holds_row, mark-name, mark-undefined, subject-marked}
use Rattle.locale_sheet.proofs.RankLaws.{ranked-other, ranked-length, rank_at, rank-none, rank-given}
use Rattle.table_weights.specs.Ranks.{rank_found, rank_in, level_ranks}
use Rattle.table_weights.specs.Reading.{line_operands, ranks_at, item_ranks}
use Rattle.table_weights.proofs.LevelLaws.{line-ranks}
use Rattle.table_items.specs.Items.{is_weighed}

-- ## What stays

-- ranks are no part of the store
holds-given : (g : Signs) (src : List ℕ) {n : ℕ} {ds : List Decl} (w : List ℕ) (k : ℕ) (us : List ℕ) → All (λ (u : ℕ). is_row (length src) ds u ≡ true) us
    → Holds (key_at g src) (length src) w n ds → Holds (key_at g src) (length src) (ranked w k us) n ds
unfolding ranked
holds-given g src w k [] a h = h
holds-given g src w k (u ∷ us) a h =
    holds-given g src (set w (cell_at u rank_number) k) (suc k) us a.1 (holds_row g src u rank_number k a.0 (omega arith) (omega arith) h)

-- nor links of the list
pub lines-given : (w : List ℕ) (k : ℕ) (us : List ℕ) (o : Order) (vs : List ℕ) → Lines w o vs → Lines (ranked w k us) o vs
unfolding ranked
lines-given w k [] o vs l = l
lines-given w k (u ∷ us) o vs l =
    lines-given (set w (cell_at u rank_number) k) (suc k) us o vs (lines_other w u rank_number k o vs (omega arith) (λ e. omega (arith, e)) l)

-- ## Ranks

rank-found : (w : List ℕ) (f : Option ℕ) → rank_found w f ≡ rank_at w f
unfolding rank_found
rank-found w (Some v) = refl
rank-found w None = refl

module _ (g : Signs) (src w : List ℕ) (o : Order) (rs : List Rule) (n : ℕ) (cs : List Declaration) (ls : List OrderLine) (k : Known g src w o rs n cs ls) where
  -- a mark in the list
  abbrev pub IsMark : ℕ → Type 0
  IsMark v = IsListed g src w k.ds v

  -- the area with ranks
  abbrev pub given : List ℕ
  given = ranked w 1 k.marks

  pub given-length : length given ≡ length w
  given-length = ranked-length w 1 k.marks

  pub holds-ranked : Holds (key_at g src) (length src) given n k.ds
  holds-ranked =
      holds-given g src w 1 k.marks
      (all_map (IsListed g src w k.ds) (λ (u : ℕ). is_row (length src) k.ds u ≡ true) k.marks (λ u l. l.row) k.listed) k.holds

  pub roomy-ranked : Roomy (length src) given
  roomy-ranked = holds-ranked.roomy

  pub lines-ranked : Lines given o k.marks
  lines-ranked = lines-given w 1 k.marks o k.marks k.lines

  -- the rank of a name
  pub rank-name : (m : List ℕ) → rank_in given k.ds (subject_of m) ≡ rank_of ls (subject_of m)
  unfolding rank_in
  rank-name m =
      rank-found given (first (item (subject_of m)) k.ds)
      ∙ rank-given g src w o rs n cs ls k (subject_of m) (first (item (subject_of m)) k.ds) (mark-name (length src) k.ds m)

  -- that of a line's own subject
  pub rank-own : (v : ℕ) → IsMark v → cell given v rank_number ≡ rank_of ls (subject_at g src v)
  rank-own v a =
      rank-given g src w o rs n cs ls k (subject_at g src v) (Some v) (subject-marked g src w n k.ds k.holds k.holds.once v a.row a.even)

  -- UNDEFINED has one where it has a line
  pub rank-undefined : eqb (rank_of ls undefined) 0 ≡ eqb (cell given (undefined_mark (length src)) place_number) 0
  rank-undefined =
      rank-none g src w o rs n cs ls k undefined (Some (undefined_mark (length src))) (mark-undefined (length src) k.ds)
      ∙ not-not (eqb (cell w (undefined_mark (length src)) place_number) 0)
      ∙ ap (λ (x : ℕ). eqb x 0) (sym (ranked-other w 1 k.marks (undefined_mark (length src)) place_number (omega arith)))

  -- ## The weights of a line

  module _ (levels : ℕ) (many : length rs ≡ levels) (v : ℕ) (a : IsMark v) where
    pub item-ranks : item_ranks g src given v levels (rank_in given k.ds) ≡ line_ranks ls (line_at g src rs w v)
    unfolding item_ranks ranks_at line_operands line_at
    item-ranks =
        ap (λ (p : ℕ). level_ranks (rank_in given k.ds) (cell given v rank_number) levels (operand_list (operands (tokens_left g src (behind p)))))
        (ranked-other w 1 k.marks v place_number (omega arith))
        ∙ ap (λ (l : ℕ). level_ranks (rank_in given k.ds) (cell given v rank_number) l (operand_list (operands (tokens_left g src (behind (cell w v place_number))))))
        (sym many)
        ∙ sym (line-ranks ls (subject_at g src v) (rank_in given k.ds) (cell given v rank_number) rank-name (rank-own v a) (cell w v line_number) rs
        (operand_list (operands (tokens_left g src (behind (cell w v place_number))))))

    pub item-ranked : is_weighed g src given levels (rank_in given k.ds) v ≡ is_ranked ls (line_at g src rs w v)
    unfolding is_weighed is_ranked
    item-ranked = ap (every (every (leb 1))) item-ranks
