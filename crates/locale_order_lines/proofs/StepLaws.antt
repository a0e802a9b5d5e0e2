-- An order line as a step of the reader: what it is read as, the row that it is given, and what is held after it.
use Rattle.std.specs.Prelude.{if◌then◌else◌, Option, Some, Ok, Result}
use mathlib.Core.Path.{◌≡◌, refl, sym, ap, ◌∙◌, subst}
use mathlib.Core.Bool.{true, false, not, ◌||◌}
use mathlib.Core.List.{List, [], ◌∷◌, ◌++◌}
use Prim.Native.Nat.{ℕ, ◌+◌, ◌-◌, ◌/◌, ◌%◌, ◌≤◌, ◌<◌}
use native.Mathlib.Omega.{arith}
use lib.ListN.{length, get_or, set, length-set}
use lib.Dec.{eqb, ltb}
use borrow.Author.Tests.{eq-eqb, ne_eqb, eqb-true, eqb-false, ltb-true, not-true, not-false}
use Rattle.base_lists.proofs.Bools.{by, clash}
use Rattle.base_lists.proofs.Lists.{All}
use Rattle.rules.specs.Text.{one_of}
use Rattle.rules.specs.Tokens.{Token, tokens_refusal}
use Rattle.rules.specs.Meaning.{Rule}
use Rattle.rules.specs.State.{before_order, in_order, after_order, in_block, Subject, OrderLine, Chain, State, Outcome, gives, with_ordered}
use Rattle.rules.specs.OrderLines.{operand_list, weights_of, taken_out, put_after, placed, block_with, again, order_line}
use Rattle.text_lines.specs.declared.Signs.{Signs}
use Rattle.text_lines.specs.declared.Spot.{Spot}
use Rattle.text_lines.specs.declared.LineEnd.{LineEnd}
use Rattle.text_lines.specs.Stream.{line_start, LineIs}
use Rattle.work_subjects.specs.Keys.{Key, key_at}
use Rattle.work_store.specs.Store.{Finds}
use Rattle.work_rows.specs.Cells.{cell_at, cell}
use Rattle.work_order.specs.declared.Order.{Order}
use Rattle.work_order.specs.Links.{line_number, place_number, next_number, back_number, Row, linked_to, numbered, longer, with_line, shorter, unlinked, linked_between, longer_after, with_line_after}
use Rattle.work_order.proofs.ListLaws.{all_map, last_has, link-length}
use Rattle.work_order.proofs.MoveLaws.{one_has, next-has, back-has, without, without_all_lem, without-one, out-length, lines-out}
use Rattle.locale_sheet.specs.Known.{subject_at, behind, is_row, mark_of, IsListed, Known}
use Rattle.locale_sheet.proofs.MarkLaws.{row_in, rows_apart, marked-subject, mark-row}
use Rattle.locale_sheet.proofs.RankLaws.{is_ordered, rank-none}
use Rattle.locale_sheet.proofs.LineLaws.{new_line, Unlisted, Follows, Came, came-line}
use Rattle.locale_sheet.proofs.MovedLaws.{taken_none, taken-found, came-put, came-moved}
use Rattle.locale_sheet.specs.declared.Block.{Block}
use Rattle.locale_sheet.specs.declared.Sheet.{Sheet}
use Rattle.locale_sheet.specs.declared.Step.{Step}
use Rattle.locale_sheet.specs.declared.Step.TheVariants.{Next}
use Rattle.locale_sheet.specs.Sheets.{toggles_at, InBlock, Open, SomeOpen, RefusedIs, StepIs}
use Rattle.locale_sheet.specs.Names.{operands_from}
use Rattle.locale_sheet.proofs.OrderLaws.{open-listed, line-behind, out-behind, put-behind}
use Rattle.locale_order_lines.specs.Facts.{Rowed, SomeKnown, with_order, with_last, Ready, Lists, at_end, firstly, anew}
use Rattle.locale_order_lines.specs.Lines.{Reads}
use Rattle.locale_order_lines.proofs.FactLaws.{found-rowed}
use Rattle.locale_order_lines.proofs.AgainLaws.{placed-all, again-order, last_one, last-other, block_more}
use Rattle.locale_order_lines.proofs.RangeLaws.{Taken, taken}
use Rattle.base_units.specs.declared.Refusal.{Refusal}

pub some_known : (g : Signs) (src w : List ℕ) (sh : Sheet) (at depth : ℕ) → SomeOpen g src w sh at depth → SomeKnown g src w
some_known g src w sh at depth o = record {
  order = sh.order;
  rules = o.state.ordered.rules;
  n = o.held.n;
  declared = o.state.declared;
  ordered = o.state.ordered.lines;
  known = o.held.known;
}

-- the row of what is found stands in the area
pub open-rowed : (g : Signs) (src w : List ℕ) (sh : Sheet) (at depth : ℕ) (k : Key) (f : Option ℕ) → SomeOpen g src w sh at depth → Finds (key_at g src) (length src) w k f → Rowed w f
open-rowed g src w sh at depth k f o d = found-rowed g src w k f (some_known g src w sh at depth o) d

-- ## What a line is read as

module _ {g : Signs} {src w : List ℕ} {sh : Sheet} {at number : ℕ} {x : Subject} {p : Spot} {r : ℕ} (v : Reads g src w sh at number x p r) where
  pub line_refused : (depth : ℕ) {y : ℕ} → y ≡ r → RefusedIs g src w sh at number depth y
  line_refused depth e = record { refusal = λ cs s o l u. ap (λ (y : Outcome). y.refusal) (v.outcome cs s o u) ∙ sym e }

  pub line_taken : r ≡ 0 → (cs : List Chain) (s : State) → Open g src w sh cs at s → Taken s number x (operands_from g src p)
  line_taken e cs s o = taken s number x (operands_from g src p) (v.none e cs s o)

-- in the order or in a block
pub phase-of : (a b : ℕ) → a ≡ b → (eqb a in_order || eqb a in_block) ≡ true → (eqb b before_order ≡ false) × (eqb b after_order ≡ false)
phase-of a b e h =
    by (eqb a in_order)
    (λ t. let z : b ≡ 4 = sym e ∙ eqb-true a in_order t in (rw z, rw z))
    (λ t. let y : eqb a in_block ≡ true = rw t at h in let z : b ≡ 6 = sym e ∙ eqb-true a in_block y in (rw z, rw z))

-- ## The row of the line

line-long : (w : List ℕ) (o : Order) (m number place : ℕ) → length (with_line w o m number place) ≡ length w
unfolding with_line numbered
line-long w o m number place =
    let w₁ = linked_to w o.last next_number m in
    let w₂ = set w₁ (cell_at m back_number) o.last in
    length-set (set w₂ (cell_at m line_number) number) (cell_at m place_number) place
    ∙ length-set w₂ (cell_at m line_number) number
    ∙ length-set w₁ (cell_at m back_number) o.last
    ∙ link-length w o.last next_number m

put-long : (w : List ℕ) (a m number place : ℕ) → length (with_line_after w a m number place) ≡ length w
unfolding with_line_after linked_between numbered
put-long w a m number place =
    let n = cell w a next_number in
    let w₁ = linked_to w n back_number m in
    let w₂ = set w₁ (cell_at a next_number) m in
    let w₃ = set w₂ (cell_at m next_number) n in
    let w₄ = set w₃ (cell_at m back_number) a in
    length-set (set w₄ (cell_at m line_number) number) (cell_at m place_number) place
    ∙ length-set w₄ (cell_at m line_number) number
    ∙ length-set w₃ (cell_at m back_number) a
    ∙ length-set w₂ (cell_at m next_number) n
    ∙ length-set w₁ (cell_at a next_number) m
    ∙ link-length w n back_number m

-- What is known of a state that is held, and the mark m of the subject x in it, in an area that keeps what stands behind the rows, and the order lines.
pub record Placed (g : Signs) (src w : List ℕ) (sh : Sheet) (x : Subject) (at next : ℕ) (w' : List ℕ) (m : ℕ) (s : State) : Type 0 where
  pub n : ℕ
  pub known : Known g src w' sh.order s.ordered.rules n s.declared s.ordered.lines
  pub mark : mark_of (length src) known.ds x ≡ Some m
  pub even : m % 2 ≡ 0
  pub some : 1 ≤ m
  pub long : length w' ≡ length w
  pub beyond : (i : ℕ) → toggles_at (length src) ≤ i → get_or w' i 0 ≡ get_or w i 0
  pub rows : next < length src → n ≤ (next + 1) / 8
  pub places : (v : ℕ) → one_of (eqb v) known.marks ≡ true → cell w' v place_number ≤ at
  pub block : eqb sh.phase in_block ≡ true → InBlock g src w' known.marks sh.block s.ordered.block

module _ {g : Signs} {src w : List ℕ} {sh : Sheet} {x : Subject} {at next : ℕ} {w' : List ℕ} {m : ℕ} {s : State} (k : Placed g src w sh x at next w' m s) where
  -- the row of a mark is one of the source's, or that of UNDEFINED
  abbrev Within : ℕ → Type 0
  Within v = v / 16 ≤ length src / 8 + 1

  abbrev marks : List ℕ
  marks = k.known.marks

  placed_row : is_row (length src) k.known.ds m ≡ true
  placed_row = mark-row g src w' k.n k.known.ds k.known.holds k.known.holds.once m x k.mark

  placed-in : Within m
  placed-in = row_in k.known.holds m placed_row

  all_in : All Within marks
  all_in = all_map (IsListed g src w' k.known.ds) Within marks (λ v a. row_in k.known.holds v a.row) k.known.listed

  one_in : (v : ℕ) → one_of (eqb v) marks ≡ true → Within v
  one_in v h = one_has Within v marks all_in h

  small-in : (v : ℕ) → Within v → v < 4294967296
  small-in v i = let r = k.known.holds.roomy.few in omega (arith, i, r)

  last-in : (sh.order.last ≡ 0 → ⊥) → Within sh.order.last
  last-in z =
      let l = k.known.lines.last in
      subst Within (sym l) (last_has Within marks all_in (λ e. z (l ∙ e)))

  placed-is : Row w' m
  placed-is =
      let i = placed-in in
      let r = k.known.holds.roomy.room in
      record { some = k.some; inside = omega (arith, i, r) }

  last-few : sh.order.last < 4294967296
  last-few = by (eqb sh.order.last 0) (λ t. let e = eqb-true sh.order.last 0 t in omega (arith, e)) (λ t. small-in sh.order.last (last-in (eqb-false sh.order.last 0 t)))

  -- where it has an order line, that is listed
  placed_one : is_ordered w' (Some m) ≡ true → one_of (eqb m) marks ≡ true
  placed_one h =
      let z = eqb-false (cell w' m place_number) 0 (not-true (eqb (cell w' m place_number) 0) h) in
      k.known.all m placed_row (omega (arith, z))

  placed-unlisted : is_ordered w' (Some m) ≡ false → Unlisted (length src) w' k.known.ds m
  placed-unlisted h = record { row = placed_row; even = k.even; none = eqb-true (cell w' m place_number) 0 (not-false (eqb (cell w' m place_number) 0) h) }

  placed-subject : subject_at g src m ≡ x
  placed-subject = marked-subject g src w' k.n k.known.ds k.known.holds k.known.holds.once m x k.mark

  in-block : sh.phase ≡ in_block → InBlock g src w' marks sh.block s.ordered.block
  in-block p = k.block (eq-eqb sh.phase in_block p)

  module _ {number : ℕ} {os : List Token} (t : Taken s number x os) where
    behind-one : (p : sh.phase ≡ in_block) → one_of (eqb sh.block.last) marks ≡ true
    behind-one p = last_one g src w' sh.order s.ordered.rules k.n s.declared s.ordered.lines k.known sh.block s.ordered.block (in-block p) m x k.mark t.first

    behind-other : (p : sh.phase ≡ in_block) → sh.block.last ≡ m → ⊥
    behind-other p = last-other g src w' sh.order s.ordered.rules k.n s.declared s.ordered.lines k.known sh.block s.ordered.block (in-block p) m x k.mark t.first

    pub placed-ready : (place : ℕ) → number < 4294967296 → place < 4294967296 → sh.order.count ≤ 32767 → Ready w' sh m number place
    placed-ready place a b c = record {
      row = placed-is;
      lines = record { marks = marks; lines = k.known.lines };
      small-mark = small-in m placed-in;
      small-number = a;
      small-place = b;
      few = omega (arith, c);
      small-last = last-few;
      block = λ p. record {
        marks = marks;
        lines = k.known.lines;
        backed = k.known.backs;
        one = behind-one p;
        other = behind-other p;
        placed = placed_one;
        small = small-in sh.block.last (one_in sh.block.last (behind-one p));
      };
    }

  module _ {cs : List Chain} (o : Open g src w sh cs at s) (inside : at < length src) (on : at ≤ next) (number place : ℕ) (from : at ≤ place) (to : place ≤ next)
      (t : Taken s number x (operands_from g src (behind place))) (h : Follows g src place) where
    abbrev lines : List OrderLine
    lines = s.ordered.lines

    abbrev rules : List Rule
    rules = s.ordered.rules

    abbrev after : State
    after = (order_line s number x (operands_from g src (behind place))).state

    order-phase : eqb sh.phase before_order ≡ false
    order-phase = (phase-of s.place.phase sh.phase o.phase t.phase).0

    block-phase : eqb sh.phase after_order ≡ false
    block-phase = (phase-of s.place.phase sh.phase o.phase t.phase).1

    -- room for it, beside the lines without its old one
    roomy : (if is_ordered w' (Some m) then sh.order.count - 1 else sh.order.count) < 32767
    roomy =
        let a = taken-found g src w' sh.order rules k.n s.declared lines k.known x (Some m) k.mark in
        ltb-true (if is_ordered w' (Some m) then sh.order.count - 1 else sh.order.count) 32767 (ap (λ (c : ℕ). ltb c 32767) (sym a) ∙ t.room)

    -- what is held after it, wherever it has come to stand
    placed-with : (w'' : List ℕ) (or : Order) (bl : Block) (ls : List OrderLine) (xs : List Subject)
        (came : Came g src w' rules k.n s.declared k.known.ds marks m number place w'' or ls)
        → length w'' ≡ length w' → ((i : ℕ) → toggles_at (length src) ≤ i → get_or w'' i 0 ≡ get_or w' i 0) → or.count ≤ 32767
        → (eqb sh.phase in_block ≡ true → bl.from ≤ next) → (eqb sh.phase in_block ≡ true → InBlock g src w'' came.known.marks bl xs)
        → (eqb sh.phase in_block ≡ false → xs ≡ [])
        → with_ordered s (record { rules = rules; lines = ls; block = xs }) ≡ after
        → Open g src w'' (record { phase = sh.phase; toggles = sh.toggles; rules = sh.rules; levels = sh.levels; order = or; block = bl }) cs next after
    unfolding one_of
    placed-with w'' or bl ls xs came l b few f bk cl same =
        subst (Open g src w'' (record { phase = sh.phase; toggles = sh.toggles; rules = sh.rules; levels = sh.levels; order = or; block = bl }) cs next) same
        (open-listed g src w sh cs at s o inside next w'' k.n or bl ls xs order-phase block-phase came.known (l ∙ k.long)
        (λ i a. b i a ∙ k.beyond i a)
        k.rows
        few
        places-after
        f
        bk
        cl)
      where
        places-after : (v : ℕ) → one_of (eqb v) came.known.marks ≡ true → cell w'' v place_number ≤ next
        places-after v y =
            let c = came.changed in
            by (eqb v m)
            (λ q. let d = ap (λ (u : ℕ). cell w'' u place_number) (eqb-true v m q) in let z = c.place_is in omega (arith, d, z, to))
            (λ q. let was : one_of (eqb v) marks ≡ true = rw q at (one_has (λ (u : ℕ). one_of (eqb u) (m ∷ marks) ≡ true) v came.known.marks c.from y) in
            let a = k.places v was in
            let row = (one_has (IsListed g src w' k.known.ds) v marks k.known.listed was).row in
            let far = rows_apart g src w' k.n k.known.ds k.known.holds k.known.holds.once m v placed_row row (λ e. eqb-false v m q (sym e)) in
            let d = c.others v place_number (omega arith) (λ e. omega (arith, e)) (λ e. omega (arith, e)) far in
            omega (arith, a, d, on))

    -- ## At the end of the order

    module _ (p : sh.phase ≡ in_block → ⊥) where
      not-block : eqb sh.phase in_block ≡ false
      not-block = ne_eqb sh.phase in_block p

      last-new : is_ordered w' (Some m) ≡ false
      last-new =
          sym (again-order g src w' sh.order rules k.n s.declared lines k.known x (Some m) k.mark)
          ∙ ap (λ (ys : List Subject). again ys x lines) (sym (o.closed not-block))
          ∙ t.first

      last-same : with_ordered s (record { rules = rules; lines = lines ++ new_line g src rules m number place ∷ []; block = [] }) ≡ after
      unfolding order_line placed
      last-same =
          ap (λ (y : Subject). with_ordered s (record {
            rules = rules;
            lines = lines ++ record { number = number; subject = y; weights = weights_of y rules (operand_list (operands_from g src (behind place))) } ∷ [];
            block = [];
          })) placed-subject
          ∙ ap (λ (ys : List Subject). with_ordered s (record {
            rules = rules;
            lines = placed ys (record { number = number; subject = x; weights = weights_of x rules (operand_list (operands_from g src (behind place))) }) lines;
            block = block_with ys x;
          })) (sym (o.closed not-block))

      pub open-last : Open g src (with_line w' sh.order m number place) (with_order sh (longer sh.order m)) cs next after
      open-last =
          let u = placed-unlisted last-new in
          let q : sh.order.count < 32767 = (let a = roomy in rw last-new at a) in
          placed-with (with_line w' sh.order m number place) (longer sh.order m) sh.block (lines ++ new_line g src rules m number place ∷ []) []
          (came-line g src w' sh.order rules k.n s.declared lines k.known m number place u placed-is h)
          (line-long w' sh.order m number place)
          (λ i a. line-behind (length src) i a w' sh.order m number place placed-in last-in)
          (omega (arith, q))
          (λ e. absurd (p (eqb-true sh.phase in_block e)))
          (λ e. absurd (p (eqb-true sh.phase in_block e)))
          (λ e. refl)
          last-same

    -- ## In a block

    module _ (p : sh.phase ≡ in_block) where
      abbrev a₀ : ℕ
      a₀ = sh.block.last

      late : sh.block.from ≤ place
      late = let a = o.from (eq-eqb sh.phase in_block p) in omega (arith, a, from)

      block_same : with_ordered s (record {
        rules = rules;
        lines = put_after (subject_at g src a₀) (new_line g src rules m number place) (taken_out (subject_at g src m) lines);
        block = block_with s.ordered.block x;
      }) ≡ after
      unfolding order_line
      block_same =
          let i = in-block p in
          let l : OrderLine = record { number = number; subject = x; weights = weights_of x rules (operand_list (operands_from g src (behind place))) } in
          ap (λ (y : Subject). with_ordered s (record {
            rules = rules;
            lines = put_after (subject_at g src a₀) (record { number = number; subject = y; weights = weights_of y rules (operand_list (operands_from g src (behind place))) }) (taken_out y lines);
            block = block_with s.ordered.block x;
          })) placed-subject
          ∙ ap (λ (ls : List OrderLine). with_ordered s (record { rules = rules; lines = ls; block = block_with s.ordered.block x }))
          (sym (ap (λ (ys : List Subject). placed ys l lines) i.subjects
          ∙ placed-all (subject_at g src) i.own sh.block.named l lines
          ∙ ap (λ (v : ℕ). put_after (subject_at g src v) l (taken_out x lines)) (sym i.last)))

      block_with_lem : (w'' : List ℕ) (or : Order)
          (came : Came g src w' rules k.n s.declared k.known.ds marks m number place w'' or (put_after (subject_at g src a₀) (new_line g src rules m number place) (taken_out (subject_at g src m) lines)))
          → length w'' ≡ length w' → ((i : ℕ) → toggles_at (length src) ≤ i → get_or w'' i 0 ≡ get_or w' i 0) → or.count ≤ 32767
          → Open g src w'' (with_last sh or m) cs next after
      block_with_lem w'' or came l b few =
          placed-with w'' or (record { named = sh.block.named; last = m; from = sh.block.from })
          (put_after (subject_at g src a₀) (new_line g src rules m number place) (taken_out (subject_at g src m) lines)) (block_with s.ordered.block x) came l b few
          (λ e. let d = late in omega (arith, d, to))
          (λ e. block_more g src w' sh.order rules k.n s.declared lines k.known sh.block s.ordered.block (in-block p) m x k.mark t.first number place w'' or came.known.marks came.changed late)
          (λ e. clash (eq-eqb sh.phase in_block p) e)
          block_same

      -- its first line
      pub open-new : is_ordered w' (Some m) ≡ false → Open g src (with_line_after w' a₀ m number place) (with_last sh (longer_after w' sh.order a₀ m) m) cs next after
      open-new z =
          let u = placed-unlisted z in
          let one = behind-one t p in
          let q : sh.order.count < 32767 = (let a = roomy in rw z at a) in
          let none : taken_out (subject_at g src m) lines ≡ lines = ap (λ (y : Subject). taken_out y lines) placed-subject
          ∙ taken_none g src w' sh.order rules k.n s.declared lines k.known x
          (rank-none g src w' sh.order rules k.n s.declared lines k.known x (Some m) k.mark ∙ ap not z) in
          block_with_lem (with_line_after w' a₀ m number place) (longer_after w' sh.order a₀ m)
          (subst (λ (ls : List OrderLine). Came g src w' rules k.n s.declared k.known.ds marks m number place (with_line_after w' a₀ m number place) (longer_after w' sh.order a₀ m) (put_after (subject_at g src a₀) (new_line g src rules m number place) ls)) (sym none)
          (came-put g src w' sh.order rules k.n s.declared lines k.known a₀ m number place one placed-is h u))
          (put-long w' a₀ m number place)
          (λ i a. put-behind (length src) i a w' a₀ m number place (one_in a₀ one) placed-in (next-has w' Within sh.order.first marks a₀ k.known.lines.linked all_in one))
          (omega (arith, q))

      -- a line that moves
      pub open-moved : is_ordered w' (Some m) ≡ true
          → Open g src (with_line_after (unlinked w' m) a₀ m number place) (with_last sh (longer_after (unlinked w' m) (shorter w' sh.order m) a₀ m) m) cs next after
      open-moved z =
          let one = behind-one t p in
          let own = placed_one z in
          let out = unlinked w' m in
          let q : sh.order.count - 1 < 32767 = (let a = roomy in rw z at a) in
          block_with_lem (with_line_after out a₀ m number place) (longer_after out (shorter w' sh.order m) a₀ m)
          (came-moved g src w' sh.order rules k.n s.declared lines k.known a₀ m number place one placed-is h own (behind-other t p))
          (put-long out a₀ m number place ∙ out-length w' m)
          (λ i a. put-behind (length src) i a out a₀ m number place (one_in a₀ one) placed-in
          (next-has out Within (shorter w' sh.order m).first (without m marks) a₀ (lines-out w' m sh.order marks k.known.lines k.known.backs own).linked
          (without_all_lem Within m marks all_in) (without-one m a₀ marks (behind-other t p) ∙ one))
          ∙ out-behind (length src) i a w' m
          (λ e. back-has w' Within 0 marks m k.known.backs (omega arith) all_in own)
          (next-has w' Within sh.order.first marks m k.known.lines.linked all_in own))
          (omega (arith, q))

-- ## The step

module _ {g : Signs} {src w : List ℕ} {sh : Sheet} {at number : ℕ} {x : Subject} {p : Spot} {r : ℕ} (v : Reads g src w sh at number x p r) (z : r ≡ 0)
    {e : LineEnd} (l : LineIs g src (line_start at) e) (inside : at < length src) {w' : List ℕ} {m : ℕ}
    (k : (cs : List Chain) (s : State) → Open g src w sh cs at s → Placed g src w sh x at e.next w' m s) where
  module _ (depth place : ℕ) (b : p ≡ behind place) (from : at ≤ place) (some : 1 ≤ place) (within : place ≤ length src) (to : place ≤ e.next) where
    taken_at : (cs : List Chain) (s : State) → Open g src w sh cs at s → Taken s number x (operands_from g src (behind place))
    taken_at cs s o = subst (λ (y : Spot). Taken s number x (operands_from g src y)) b (line_taken v z cs s o)

    follows : (cs : List Chain) (s : State) → Open g src w sh cs at s → Follows g src place
    follows cs s o = record {
      some = some;
      within = within;
      accepted = record { whole = ap (λ (y : Spot). tokens_refusal (operands_from g src y)) (sym b) ∙ v.tokens z; ds = s.declared; each = (taken_at cs s o).weights };
    }

    on : at ≤ e.next
    on = let a = l.on inside in omega (arith, a)

    -- a line that leaves the paper's state
    line-leaves : (w'' : List ℕ) (sh' : Sheet)
        → ((cs : List Chain) (s : State) → Open g src w sh cs at s → Open g src w'' sh' cs e.next (order_line s number x (operands_from g src (behind place))).state)
        → (st : Result Step Refusal) → st ≡ Ok (Next sh' e.next e.feeds) → StepIs g src w sh at number depth w'' st
    line-leaves w'' sh' f st a =
        subst (StepIs g src w sh at number depth w'') (sym a) (record {
          moves = record { end = l.end; feeds = l.feeds; on = l.on inside; to = l.to; few = l.few };
          leaves = λ cs s o d u. record {
            after = (order_line s number x (operands_from g src (behind place))).state;
            outcome = v.outcome cs s o u
                ∙ ap (λ (y : ℕ). gives y (order_line s number x (operands_from g src p)).state) z
                ∙ ap (λ (y : Spot). gives 0 (order_line s number x (operands_from g src y)).state) b;
            held = f cs s o;
          };
        })

    pub line-listed : (w'' : List ℕ) (st : Result Step Refusal) → Lists w' sh m number place e w'' st → StepIs g src w sh at number depth w'' st
    line-listed w'' st (at_end q a) =
        line-leaves w'' (with_order sh (longer sh.order m))
        (λ cs s o. subst (λ (y : List ℕ). Open g src y (with_order sh (longer sh.order m)) cs e.next (order_line s number x (operands_from g src (behind place))).state) (sym a.area)
        (open-last (k cs s o) o inside on number place from to (taken_at cs s o) (follows cs s o) q)) st a.step
    line-listed w'' st (firstly q d a) =
        let sh' = with_last sh (longer_after w' sh.order sh.block.last m) m in
        line-leaves w'' sh'
        (λ cs s o. subst (λ (y : List ℕ). Open g src y sh' cs e.next (order_line s number x (operands_from g src (behind place))).state) (sym a.put)
        (open-new (k cs s o) o inside on number place from to (taken_at cs s o) (follows cs s o) q d)) st a.step
    line-listed w'' st (anew q d a) =
        let sh' = with_last sh (longer_after (unlinked w' m) (shorter w' sh.order m) sh.block.last m) m in
        line-leaves w'' sh'
        (λ cs s o. subst (λ (y : List ℕ). Open g src y sh' cs e.next (order_line s number x (operands_from g src (behind place))).state) (sym a.moved)
        (open-moved (k cs s o) o inside on number place from to (taken_at cs s o) (follows cs s o) q d)) st a.step
