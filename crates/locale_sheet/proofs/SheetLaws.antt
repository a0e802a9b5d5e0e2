-- The state that the area and the sheet hold: that a line is read whole, and what stays where a line changes one part.
use mathlib.Core.Path.{◌≡◌, refl, ap, ◌∙◌}
use mathlib.Core.Bool.{Bool, true, false, ◌||◌, and-false, false≢true}
use mathlib.Core.List.{List, [], ◌∷◌}
use Prim.Native.Nat.{ℕ, ◌+◌, ◌/◌, ◌≤◌, ◌<◌}
use native.Mathlib.Omega.{arith}
use lib.ListN.{length, get_or}
use lib.Dec.{eqb, ltb}
use borrow.Author.Tests.{ne_eqb, leb-true}
use Rattle.base_lists.proofs.Bools.{by}
use Rattle.rules.specs.Lines.{in_plain}
use Rattle.rules.specs.State.{in_other_category, before_order, in_order, after_order, Chain, State, with_blocks, in_phase, to_phase}
use Rattle.rules.specs.Conditionals.{blocks, is_unused}
use Rattle.rules.specs.Source.{line_outcome, whole_line}
use Rattle.text_lines.specs.declared.Signs.{Signs}
use Rattle.text_lines.specs.declared.Spot.{Spot}
use Rattle.work_rows.specs.Cells.{cell_at, cell}
use Rattle.work_toggles.specs.Kept.{toggles_in, Kept}
use Rattle.locale_sheet.specs.Known.{behind, is_row}
use Rattle.locale_sheet.proofs.MarkLaws.{row_in}
use Rattle.locale_sheet.proofs.NewLaws.{known_behind}
use Rattle.locale_sheet.specs.declared.Sheet.{Sheet}
use Rattle.locale_sheet.specs.Sheets.{toggles_at, rows_before, Open, is_used}
use Rattle.locale_sheet.proofs.BlockLaws.{mark-older, place_same, block_same}

-- ## A line in a used branch is read whole

module _ (g : Signs) (src w : List ℕ) (sh : Sheet) (cs : List Chain) (at : ℕ) (s : State) (o : Open g src w sh cs at s) (u : is_used cs ≡ true) where
  not-other : in_phase in_other_category s ≡ false
  not-other = ne_eqb s.place.phase in_other_category (λ e. let l = leb-true before_order s.place.phase o.inside in omega (arith, e, l))

  not-unused : (ds : List Chain) → s.blocks.chains ≡ ds → is_used ds ≡ true → is_unused s ≡ false
  not-unused [] e h = rw e
  not-unused (c ∷ ds) e h = rw (e, h) (and-false (ltb 0 (length (c ∷ ds))))

  pub read_whole : (number : ℕ) (marks : List ℕ) → line_outcome s number marks ≡ whole_line s number marks
  unfolding line_outcome
  read_whole number marks = rw (not-other, not-unused cs o.chains u)

-- ## Rows

-- more rows may be in use before a later line
pub rows-rise : (phase at next n : ℕ) → at ≤ next → n ≤ rows_before phase at → n ≤ rows_before phase next
rows-rise phase at next n h r =
    by (eqb phase before_order || eqb phase after_order)
    (λ t. let a : n ≤ (at + 5) / 8 = rw t at r in rw t (omega (arith, a, h)))
    (λ t. let a : n ≤ (at + 1) / 8 = rw t at r in rw t (omega (arith, a, h)))

-- ## Spots

-- the spot after a line's first token
pub spot-behind : (p : Spot) → p.mode ≡ in_plain → p.fresh ≡ false → p ≡ behind p.at
spot-behind p m f =
    ap (λ (y : ℕ). record { at = p.at; mode = y; fresh = p.fresh }) m ∙ ap (λ (y : Bool). record { at = p.at; mode = in_plain; fresh = y }) f

-- ## What stays

module _ (g : Signs) (src w : List ℕ) (sh : Sheet) (cs : List Chain) (at : ℕ) (s : State) (o : Open g src w sh cs at s) (inside : at < length src) (next : ℕ) (on : at ≤ next) where
  -- a line that changes nothing
  pub open-on : Open g src w sh cs next s
  open-on = record {
    comment = o.comment;
    escape = o.escape;
    phase = o.phase;
    inside = o.inside;
    collated = o.collated;
    chains = o.chains;
    inner = o.inner;
    toggles = o.toggles;
    kept = o.kept;
    n = o.n;
    known = o.known;
    rows = λ h. rows-rise sh.phase at next o.n on (o.rows inside);
    unordered = o.unordered;
    rules = o.rules;
    started = o.started;
    ruled = o.ruled;
    levels = o.levels;
    few = o.few;
    places = λ v h. let a = o.places v h in omega (arith, a, on);
    from = λ e. let a = o.from e in omega (arith, a, on);
    block = o.block;
    closed = o.closed;
  }

  -- a line that changes conditionals alone
  pub open-turned : (w' : List ℕ) (m : ℕ) (ds : List Chain)
      → Kept g src w' (toggles_at (length src)) m → length w' ≡ length w → ((i : ℕ) → i < toggles_at (length src) → get_or w' i 0 ≡ get_or w i 0)
      → Open g src w' (record { phase = sh.phase; toggles = m; rules = sh.rules; levels = sh.levels; order = sh.order; block = sh.block }) ds next
      (with_blocks s (blocks ds 0 (toggles_in g src w' (toggles_at (length src)) m)))
  open-turned w' m ds k l b =
      let known' = known_behind g src w sh.order s.ordered.rules o.n s.declared s.ordered.lines o.known w' l b in
      record {
        comment = o.comment;
        escape = o.escape;
        phase = o.phase;
        inside = o.inside;
        collated = o.collated;
        chains = refl;
        inner = refl;
        toggles = refl;
        kept = k;
        n = o.n;
        known = known';
        rows = λ h. rows-rise sh.phase at next o.n on (o.rows inside);
        unordered = o.unordered;
        rules = o.rules;
        started = o.started;
        ruled = o.ruled;
        levels = o.levels;
        few = o.few;
        places = λ v h. let p = mark-older g src w w' sh.order s.ordered.rules s.ordered.rules o.n o.n s.declared s.declared s.ordered.lines s.ordered.lines o.known known' five v h in
            let a = o.places v p in
            let e = place_same g src w w' sh.order s.ordered.rules s.ordered.rules o.n o.n s.declared s.declared s.ordered.lines s.ordered.lines o.known known' five v p in
            omega (arith, a, e, on);
        from = λ e. let a = o.from e in omega (arith, a, on);
        block = λ e. block_same g src w w' sh.order s.ordered.rules s.ordered.rules o.n o.n s.declared s.declared s.ordered.lines s.ordered.lines o.known known' five sh.block s.ordered.block (o.block e);
        closed = o.closed;
      }
    where
      five : (u j : ℕ) → is_row (length src) o.known.ds u ≡ true → j < 5 → cell w' u j ≡ cell w u j
      five u j r q = let i = row_in o.known.holds u r in b (cell_at u j) (omega (arith, i, q))

  -- the end of the order
  pub open-ended : sh.phase ≡ in_order
      → Open g src w (record { phase = 5; toggles = sh.toggles; rules = sh.rules; levels = sh.levels; order = sh.order; block = sh.block }) cs next (to_phase s after_order)
  open-ended p = record {
    comment = o.comment;
    escape = o.escape;
    phase = refl;
    inside = refl;
    collated = o.collated;
    chains = o.chains;
    inner = o.inner;
    toggles = o.toggles;
    kept = o.kept;
    n = o.n;
    known = o.known;
    rows = λ h. let r : o.n ≤ (at + 1) / 8 = rw p at (o.rows inside) in omega (arith, r, on);
    unordered = λ e. absurd (false≢true e);
    rules = λ e. o.rules (rw p);
    started = λ e. o.started (rw p);
    ruled = o.ruled;
    levels = o.levels;
    few = o.few;
    places = λ v h. let a = o.places v h in omega (arith, a, on);
    from = λ e. absurd (false≢true e);
    block = λ e. absurd (false≢true e);
    closed = λ e. o.closed (rw p);
  }
