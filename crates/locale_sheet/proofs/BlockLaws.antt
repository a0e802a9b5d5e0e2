-- The order lines' marks and the open block: what stays of them where rows keep their links and places; and what is held after the lines of a block's ends.
use mathlib.Core.Path.{◌≡◌, refl, sym, ap, subst}
use mathlib.Core.Bool.{true, false, ◌||◌, false≢true}
use mathlib.Core.List.{List, [], ◌∷◌}
use Prim.Native.Nat.{ℕ, ◌+◌, ◌/◌, ◌≤◌, ◌<◌}
use native.Mathlib.Omega.{arith}
use lib.ListN.{length}
use lib.Dec.{eqb}
use borrow.Author.Tests.{eqb-true}
use Rattle.base_lists.proofs.Bools.{by}
use Rattle.base_lists.proofs.Lists.{All}
use Rattle.rules.specs.Text.{one_of}
use Rattle.rules.specs.Meaning.{Rule}
use Rattle.rules.specs.State.{after_order, in_block, Chain, Subject, Declaration, OrderLine, State, with_ordered, to_phase}
use Rattle.text_lines.specs.declared.Signs.{Signs}
use Rattle.work_rows.specs.Cells.{cell}
use Rattle.work_store.specs.Store.{Decl}
use Rattle.work_order.specs.declared.Order.{Order}
use Rattle.work_order.specs.Links.{place_number, next_number, Linked, ends, goes}
use Rattle.work_order.proofs.MoveLaws.{one_has}
use Rattle.locale_sheet.specs.Known.{subject_at, is_row, IsListed, Known}
use Rattle.locale_sheet.specs.declared.Block.{Block}
use Rattle.locale_sheet.specs.declared.Sheet.{Sheet}
use Rattle.locale_sheet.specs.Sheets.{InBlock, Open}

-- ## Marks

-- the rows that were listed keep their links, so that the same are linked
linked-same : (g : Signs) (src w w' : List ℕ) (ds : List Decl) → ((u : ℕ) → is_row (length src) ds u ≡ true → cell w' u next_number ≡ cell w u next_number)
    → (p : ℕ) (us vs : List ℕ) → All (IsListed g src w ds) us → Linked w p us → Linked w' p vs → vs ≡ us
linked-same g src w w' ds e p [] [] a ends ends = refl
linked-same g src w w' ds e p [] (v ∷ vs) a ends (goes r m) = absurd (let s = r.some in omega (arith, s))
linked-same g src w w' ds e p (u ∷ us) [] a (goes r m) ends = absurd (let s = r.some in omega (arith, s))
linked-same g src w w' ds e p (u ∷ us) (v ∷ vs) a (goes r m) (goes q k) =
    ap (λ (x : List ℕ). u ∷ x)
    (linked-same g src w w' ds e (cell w u next_number) us vs a.1 m (subst (λ (x : ℕ). Linked w' x vs) (e u a.0.row) k))

module _ (g : Signs) (src w w' : List ℕ) (o : Order) (rs rs' : List Rule) (n n' : ℕ) (cs cs' : List Declaration) (ls ls' : List OrderLine)
    (k : Known g src w o rs n cs ls) (k' : Known g src w' o rs' n' cs' ls')
    (same : (u j : ℕ) → is_row (length src) k.ds u ≡ true → j < 5 → cell w' u j ≡ cell w u j) where
  -- the same lines are listed
  pub marks-same : k'.marks ≡ k.marks
  marks-same =
      linked-same g src w w' k.ds (λ u r. same u next_number r (omega arith)) o.first k.marks k'.marks
      k.listed k.lines.linked k'.lines.linked

  pub mark-older : (v : ℕ) → one_of (eqb v) k'.marks ≡ true → one_of (eqb v) k.marks ≡ true
  mark-older v h = subst (λ (x : List ℕ). one_of (eqb v) x ≡ true) marks-same h

  mark-newer : (v : ℕ) → one_of (eqb v) k.marks ≡ true → one_of (eqb v) k'.marks ≡ true
  mark-newer v h = subst (λ (x : List ℕ). one_of (eqb v) x ≡ true) (sym marks-same) h

  -- at the same places
  pub place_same : (v : ℕ) → one_of (eqb v) k.marks ≡ true → cell w' v place_number ≡ cell w v place_number
  place_same v h = same v place_number (one_has (IsListed g src w k.ds) v k.marks k.listed h).row (omega arith)

  -- and the open block is the same
  pub block_same : (b : Block) (xs : List Subject) → InBlock g src w k.marks b xs → InBlock g src w' k'.marks b xs
  block_same b xs i = record {
    own = i.own;
    subjects = i.subjects;
    last = i.last;
    named = mark-newer b.named i.named;
    before = let a = i.before in let e = place_same b.named i.named in omega (arith, a, e);
    listed = λ v h. let a = i.listed v h in let c = a.1 in let e = place_same v a.0 in (mark-newer v a.0, omega (arith, c, e));
    all = λ v h l. let e = place_same v (mark-older v h) in i.all v (mark-older v h) (omega (arith, l, e));
  }

-- ## The ends of a block

module _ (g : Signs) (src w : List ℕ) (sh : Sheet) (cs : List Chain) (at : ℕ) (s : State) (o : Open g src w sh cs at s) (inside : at < length src) (next : ℕ) (on : at < next) where
  -- reorder-after: a block after the line of the mark m
  pub open_block : (m : ℕ) (x : Subject) → (eqb sh.phase after_order || eqb sh.phase in_block) ≡ true → one_of (eqb m) o.known.marks ≡ true → subject_at g src m ≡ x
      → (next < length src → at + 12 ≤ next)
      → Open g src w (record { phase = 6; toggles = sh.toggles; rules = sh.rules; levels = sh.levels; order = sh.order; block = record { named = m; last = m; from = next } }) cs next
      (with_ordered (to_phase s in_block) (record { rules = s.ordered.rules; lines = s.ordered.lines; block = x ∷ [] }))
  unfolding one_of
  open_block m x p l e far = record {
    comment = o.comment;
    escape = o.escape;
    phase = refl;
    inside = refl;
    collated = o.collated;
    chains = o.chains;
    inner = o.inner;
    toggles = o.toggles;
    kept = o.kept;
    n = o.n;
    known = o.known;
    rows = λ h. let f = far h in
        by (eqb sh.phase after_order)
        (λ t. let r : o.n ≤ (at + 5) / 8 = rw (eqb-true sh.phase after_order t) at (o.rows inside) in omega (arith, r, f))
        (λ t. let q : eqb sh.phase in_block ≡ true = rw t at p in
        let r : o.n ≤ (at + 1) / 8 = rw (eqb-true sh.phase in_block q) at (o.rows inside) in omega (arith, r, f));
    unordered = λ z. absurd (false≢true z);
    rules = λ z. o.rules ordered;
    started = λ z. o.started ordered;
    ruled = o.ruled;
    levels = o.levels;
    few = o.few;
    places = λ v h. let a = o.places v h in omega (arith, a, on);
    from = λ z. omega arith;
    block = λ z. record {
      own = [];
      subjects = ap (λ (y : Subject). y ∷ []) (sym e);
      last = refl;
      named = l;
      before = let a = o.places m l in omega (arith, a, on);
      listed = λ v h. absurd (false≢true h);
      all = λ v h i. absurd (let a = o.places v h in omega (arith, a, i, on));
    };
    closed = λ z. absurd (false≢true (sym z));
  }
    where
      ordered : eqb sh.phase 3 ≡ false
      ordered =
          by (eqb sh.phase after_order)
          (λ t. rw (eqb-true sh.phase after_order t))
          (λ t. let q : eqb sh.phase in_block ≡ true = rw t at p in rw (eqb-true sh.phase in_block q))

  -- reorder-end
  pub open-unblocked : sh.phase ≡ in_block
      → Open g src w (record { phase = 5; toggles = sh.toggles; rules = sh.rules; levels = sh.levels; order = sh.order; block = sh.block }) cs next
      (with_ordered (to_phase s after_order) (record { rules = s.ordered.rules; lines = s.ordered.lines; block = [] }))
  open-unblocked p = record {
    comment = o.comment;
    escape = o.escape;
    phase = refl;
    inside = refl;
    collated = o.collated;
    chains = o.chains;
    inner = o.inner;
    toggles = o.toggles;
    kept = o.kept;
    n = o.n;
    known = o.known;
    rows = λ h. let r : o.n ≤ (at + 1) / 8 = rw p at (o.rows inside) in omega (arith, r, on);
    unordered = λ z. absurd (false≢true z);
    rules = λ z. o.rules (rw p);
    started = λ z. o.started (rw p);
    ruled = o.ruled;
    levels = o.levels;
    few = o.few;
    places = λ v h. let a = o.places v h in omega (arith, a, on);
    from = λ z. absurd (false≢true z);
    block = λ z. absurd (false≢true z);
    closed = λ z. refl;
  }
