-- The state that the area and the sheet hold, after order_start, a declaration or an order line.
use mathlib.Core.Path.{◌≡◌, refl, sym, ◌∙◌, subst}
use mathlib.Core.Bool.{true, false, ◌||◌, false≢true}
use mathlib.Core.List.{List, []}
use Prim.Native.Nat.{ℕ, ◌+◌, ◌*◌, ◌/◌, ◌≤◌, ◌<◌}
use native.Mathlib.Omega.{arith}
use lib.ListN.{length, get_or, set}
use lib.Seq.{get_or-set_other}
use lib.Dec.{eqb}
use borrow.Author.Tests.{eqb-false}
use Rattle.base_lists.proofs.Bools.{by}
use Rattle.base_lists.proofs.Lists.{length-zero}
use Rattle.rules.specs.Text.{one_of}
use Rattle.rules.specs.Tokens.{operands}
use Rattle.rules.specs.Meaning.{Rule}
use Rattle.rules.specs.State.{before_order, in_order, after_order, in_block, Chain, Subject, State, with_declared, with_ordered, to_phase, Declaration, OrderLine}
use Rattle.text_lines.specs.declared.Signs.{Signs}
use Rattle.text_tokens.specs.Left.{tokens_left}
use Rattle.locale_levels.specs.Levels.{start_refusal}
use Rattle.work_toggles.proofs.AreaLaws.{kept_same, toggles-same}
use Rattle.work_rows.specs.Cells.{cell_at, cell}
use Rattle.work_store.specs.Store.{heads_of}
use Rattle.work_order.specs.declared.Order.{Order}
use Rattle.work_order.specs.Links.{line_number, place_number, next_number, back_number, linked_to, numbered, with_line, unlinked, linked_between, with_line_after}
use Rattle.locale_sheet.specs.Known.{behind, is_row, Known}
use Rattle.locale_sheet.proofs.NewLaws.{known-rules}
use Rattle.locale_sheet.specs.declared.Block.{Block}
use Rattle.locale_sheet.specs.declared.Sheet.{Sheet}
use Rattle.locale_sheet.specs.Sheets.{toggles_at, rules_at, InBlock, Open}
use Rattle.locale_sheet.proofs.BlockLaws.{mark-older, place_same, block_same}

-- ## order_start

module _ (g : Signs) (src w : List ℕ) (sh : Sheet) (cs : List Chain) (at : ℕ) (s : State) (o : Open g src w sh cs at s) (inside : at < length src) (next : ℕ) where
  pub open-ordered : (place l : ℕ) (rs : List Rule) → sh.phase ≡ before_order → rs ≡ rules_at g src place
      → start_refusal (operands (tokens_left g src (behind place))) ≡ 0 → place ≤ length src → length rs ≡ l
      → (next < length src → at + 12 ≤ next)
      → Open g src w (record { phase = 4; toggles = sh.toggles; rules = place; levels = l; order = sh.order; block = sh.block }) cs next
      (with_ordered (to_phase s in_order) (record { rules = rs; lines = []; block = [] }))
  unfolding one_of
  open-ordered place l rs p e c i m far =
      let known' = known-rules g src w sh.order s.ordered.rules rs o.n s.declared s.ordered.lines o.known (o.unordered (rw p)) in
      record {
        comment = o.comment;
        escape = o.escape;
        phase = refl;
        inside = refl;
        collated = o.collated;
        chains = o.chains;
        inner = o.inner;
        toggles = o.toggles;
        kept = o.kept;
        n = o.n;
        known = known';
        rows = λ h. let r : o.n ≤ (at + 5) / 8 = rw p at (o.rows inside) in let f = far h in omega (arith, r, f);
        unordered = λ x. absurd (false≢true x);
        rules = λ x. e;
        started = λ x. c;
        ruled = i;
        levels = m;
        few = o.few;
        places = λ v h. absurd (false≢true (subst (λ (x : List ℕ). one_of (eqb v) x ≡ true) (length-zero known'.marks (sym known'.lines.count ∙ o.unordered (rw p))) h));
        from = λ x. absurd (false≢true x);
        block = λ x. absurd (false≢true x);
        closed = λ x. refl;
      }

  -- a declaration, in an area that keeps what stands behind the rows
  pub open-declared : (w' : List ℕ) (n' : ℕ) (ds : List Declaration) → (eqb sh.phase before_order || eqb sh.phase after_order) ≡ true → at ≤ next
      → Known g src w' sh.order s.ordered.rules n' ds s.ordered.lines → length w' ≡ length w
      → ((u j : ℕ) → is_row (length src) o.known.ds u ≡ true → j < 5 → cell w' u j ≡ cell w u j)
      → ((i : ℕ) → 8 * heads_of (length src) ≤ i → get_or w' i 0 ≡ get_or w i 0) → (next < length src → n' ≤ (next + 5) / 8)
      → Open g src w' sh cs next (with_declared s ds)
  open-declared w' n' ds p on k l five b r = record {
    comment = o.comment;
    escape = o.escape;
    phase = o.phase;
    inside = o.inside;
    collated = o.collated;
    chains = o.chains;
    inner = o.inner;
    toggles = o.toggles ∙ sym (toggles-same w' o.kept l (λ i a c. b i (omega (arith, a))));
    kept = kept_same w' o.kept l (λ i a c. b i (omega (arith, a)));
    n = n';
    known = k;
    rows = λ h. rw p (r h);
    unordered = o.unordered;
    rules = o.rules;
    started = o.started;
    ruled = o.ruled;
    levels = o.levels;
    few = o.few;
    places = λ v h. let m = mark-older g src w w' sh.order s.ordered.rules s.ordered.rules o.n n' s.declared ds s.ordered.lines s.ordered.lines o.known k five v h in
        let a = o.places v m in
        let e = place_same g src w w' sh.order s.ordered.rules s.ordered.rules o.n n' s.declared ds s.ordered.lines s.ordered.lines o.known k five v m in
        omega (arith, a, e, on);
    from = λ e. let a = o.from e in omega (arith, a, on);
    block = λ e. block_same g src w w' sh.order s.ordered.rules s.ordered.rules o.n n' s.declared ds s.ordered.lines s.ordered.lines o.known k five sh.block s.ordered.block (o.block e);
    closed = o.closed;
  }

  -- an order line, in the order or in a block
  pub open-listed : (w' : List ℕ) (n' : ℕ) (or : Order) (bl : Block) (ls : List OrderLine) (xs : List Subject)
      → eqb sh.phase before_order ≡ false → eqb sh.phase after_order ≡ false
      → (k : Known g src w' or s.ordered.rules n' s.declared ls) → length w' ≡ length w
      → ((i : ℕ) → toggles_at (length src) ≤ i → get_or w' i 0 ≡ get_or w i 0) → (next < length src → n' ≤ (next + 1) / 8) → or.count ≤ 32767
      → ((v : ℕ) → one_of (eqb v) k.marks ≡ true → cell w' v place_number ≤ next)
      → (eqb sh.phase in_block ≡ true → bl.from ≤ next)
      → (eqb sh.phase in_block ≡ true → InBlock g src w' k.marks bl xs)
      → (eqb sh.phase in_block ≡ false → xs ≡ [])
      → Open g src w' (record { phase = sh.phase; toggles = sh.toggles; rules = sh.rules; levels = sh.levels; order = or; block = bl }) cs next
      (with_ordered s (record { rules = s.ordered.rules; lines = ls; block = xs }))
  open-listed w' n' or bl ls xs p q k l b r c at_places at_from at_block at-closed = record {
    comment = o.comment;
    escape = o.escape;
    phase = o.phase;
    inside = o.inside;
    collated = o.collated;
    chains = o.chains;
    inner = o.inner;
    toggles = o.toggles ∙ sym (toggles-same w' o.kept l (λ i a d. b i (omega (arith, a))));
    kept = kept_same w' o.kept l (λ i a d. b i (omega (arith, a)));
    n = n';
    known = k;
    rows = λ h. rw (p, q) (r h);
    unordered = λ x. absurd (false≢true (sym p ∙ x));
    rules = o.rules;
    started = o.started;
    ruled = o.ruled;
    levels = o.levels;
    few = c;
    places = at_places;
    from = at_from;
    block = at_block;
    closed = at-closed;
  }

-- ## Behind the rows

-- what stands behind the row of UNDEFINED stays where a row is told a number
module _ (len i : ℕ) (h : toggles_at len ≤ i) where
  told-behind : (w : List ℕ) (v j x : ℕ) → v / 16 ≤ len / 8 + 1 → j < 5 → get_or (set w (cell_at v j) x) i 0 ≡ get_or w i 0
  told-behind w v j x a l = get_or-set_other w (cell_at v j) i x 0 (λ e. omega (arith, e, a, h, l))

  link-behind : (w : List ℕ) (l j v : ℕ) → ((l ≡ 0 → ⊥) → l / 16 ≤ len / 8 + 1) → j < 5 → get_or (linked_to w l j v) i 0 ≡ get_or w i 0
  unfolding linked_to
  link-behind w l j v b k = by (eqb l 0) (λ t. rw t) (λ t. rw t (told-behind w l j v (b (eqb-false l 0 t)) k))

  numbers-behind : (w : List ℕ) (v number place : ℕ) → v / 16 ≤ len / 8 + 1 → get_or (numbered w v number place) i 0 ≡ get_or w i 0
  unfolding numbered
  numbers-behind w v number place a =
      told-behind (set w (cell_at v line_number) number) v place_number place a (omega arith) ∙ told-behind w v line_number number a (omega arith)

  -- where an order line is added
  pub line-behind : (w : List ℕ) (o : Order) (v number place : ℕ) → v / 16 ≤ len / 8 + 1 → ((o.last ≡ 0 → ⊥) → o.last / 16 ≤ len / 8 + 1)
      → get_or (with_line w o v number place) i 0 ≡ get_or w i 0
  unfolding with_line
  line-behind w o v number place a b =
      numbers-behind (set (linked_to w o.last next_number v) (cell_at v back_number) o.last) v number place a
      ∙ told-behind (linked_to w o.last next_number v) v back_number o.last a (omega arith)
      ∙ link-behind w o.last next_number v b (omega arith)

  -- where one leaves
  pub out-behind : (w : List ℕ) (v : ℕ) → ((cell w v back_number ≡ 0 → ⊥) → cell w v back_number / 16 ≤ len / 8 + 1)
      → ((cell w v next_number ≡ 0 → ⊥) → cell w v next_number / 16 ≤ len / 8 + 1) → get_or (unlinked w v) i 0 ≡ get_or w i 0
  unfolding unlinked
  out-behind w v a b =
      link-behind (linked_to w (cell w v back_number) next_number (cell w v next_number)) (cell w v next_number) back_number (cell w v back_number) b (omega arith)
      ∙ link-behind w (cell w v back_number) next_number (cell w v next_number) a (omega arith)

  -- where one comes to stand after another
  pub put-behind : (w : List ℕ) (a v number place : ℕ) → a / 16 ≤ len / 8 + 1 → v / 16 ≤ len / 8 + 1
      → ((cell w a next_number ≡ 0 → ⊥) → cell w a next_number / 16 ≤ len / 8 + 1) → get_or (with_line_after w a v number place) i 0 ≡ get_or w i 0
  unfolding with_line_after linked_between
  put-behind w a v number place b c d =
      let n = cell w a next_number in
      let w₁ = linked_to w n back_number v in
      let w₂ = set w₁ (cell_at a next_number) v in
      let w₃ = set w₂ (cell_at v next_number) n in
      numbers-behind (set w₃ (cell_at v back_number) a) v number place c
      ∙ told-behind w₃ v back_number a c (omega arith)
      ∙ told-behind w₂ v next_number n c (omega arith)
      ∙ told-behind w₁ a next_number v b (omega arith)
      ∙ link-behind w n back_number v d (omega arith)
