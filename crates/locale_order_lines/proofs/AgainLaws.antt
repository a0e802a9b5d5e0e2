-- Lines of a block: whether an order line would be a second one, and the block with one line more.
use Rattle.std.specs.Prelude.{None, Option, Some, ℕ}
use mathlib.Core.Path.{◌≡◌, refl, sym, ap, ◌∙◌, subst}
use mathlib.Core.Bool.{Bool, true, false, not, ◌||◌, or-true}
use mathlib.Core.List.{List, [], ◌∷◌, ◌++◌, map}
use Prim.Native.Nat.{ℕ, ◌≤◌, ◌<◌}
use native.Mathlib.Omega.{arith}
use lib.ListN.{length, get_or}
use lib.Dec.{eqb, leb}
use borrow.Author.Tests.{eq-eqb, eqb-true, eqb-false, le-leb, leb-true, leb-false}
use Rattle.base_lists.proofs.Bools.{by, clash, cond-true, cond-false, or-false-left, or-false-right}
use Rattle.base_lists.proofs.Lists.{All}
use Rattle.rules.specs.Text.{one_of}
use Rattle.rules.specs.Meaning.{Rule}
use Rattle.rules.specs.State.{in_block, Declaration, Subject, OrderLine, Chain, State}
use Rattle.rules.specs.OrderLines.{same_subject, taken_out, put_after, placed, block_with, again}
use Rattle.rules.proofs.TextLaws.{one_of-append}
use Rattle.text_lines.specs.declared.Signs.{Signs}
use Rattle.work_rows.specs.Cells.{cell}
use Rattle.work_rows.proofs.CellLaws.{Apart}
use Rattle.work_order.specs.declared.Order.{Order}
use Rattle.work_order.specs.Links.{place_number}
use Rattle.work_order.proofs.MoveLaws.{one_has}
use Rattle.locale_sheet.specs.Known.{subject_at, is_row, mark_of, IsListed, Known}
use Rattle.locale_sheet.proofs.MarkLaws.{is_at, subject-mark, marked-subject, mark-row, rows_apart}
use Rattle.locale_sheet.proofs.RankLaws.{is_ordered, rank-none}
use Rattle.locale_sheet.proofs.LineLaws.{Changed}
use Rattle.locale_sheet.specs.declared.Block.{Block}
use Rattle.locale_sheet.specs.declared.Sheet.{Sheet}
use Rattle.locale_sheet.specs.Sheets.{InBlock, Open}
use Rattle.locale_order_lines.specs.Facts.{is_own, is_again, AgainIs}

-- ## Lists

-- what each of a list has, all of it have
all_of : (P : ℕ → Type 0) (us : List ℕ) → ((v : ℕ) → one_of (eqb v) us ≡ true → P v) → All P us
unfolding one_of
all_of P [] f = tt
all_of P (u ∷ us) f = (f u (rw (eq-eqb u u refl)), all_of P us (λ v h. f v (rw h (or-true (eqb v u)))))

all_then : (P : ℕ → Type 0) (us : List ℕ) (v : ℕ) → All P us → P v → All P (us ++ v ∷ [])
all_then P [] v a h = (h, tt)
all_then P (u ∷ us) v a h = (a.0, all_then P us v a.1 h)

-- the first of a list that ends in v
first-has : (P : ℕ → Type 0) (us : List ℕ) (v : ℕ) → ((u : ℕ) → one_of (eqb u) us ≡ true → P u) → P v → P (get_or (us ++ v ∷ []) 0 0)
unfolding one_of
first-has P [] v a h = h
first-has P (u ∷ us) v a h = a u (rw (eq-eqb u u refl))

none_of : (us : List ℕ) → one_of (λ (u : ℕ). is_at u None) us ≡ false
unfolding one_of
none_of [] = refl
none_of (u ∷ us) = none_of us

not-not : (b : Bool) → not (not b) ≡ b
not-not true = refl
not-not false = refl

-- ## The paper's block, by marks

module _ (f : ℕ → Subject) (us : List ℕ) (v : ℕ) where
  again-all : (x : Subject) (ls : List OrderLine) → again (map f (us ++ v ∷ [])) x ls ≡ one_of (same_subject x) (map f (us ++ v ∷ []))
  unfolding again
  again-all x ls = go us
    where
      go : (us : List ℕ) → again (map f (us ++ v ∷ [])) x ls ≡ one_of (same_subject x) (map f (us ++ v ∷ []))
      go [] = refl
      go (u ∷ us) = refl

  pub placed-all : (l : OrderLine) (ls : List OrderLine) → placed (map f (us ++ v ∷ [])) l ls ≡ put_after (f (get_or (us ++ v ∷ []) 0 0)) l (taken_out l.subject ls)
  unfolding placed
  placed-all l ls = go us
    where
      go : (us : List ℕ) → placed (map f (us ++ v ∷ [])) l ls ≡ put_after (f (get_or (us ++ v ∷ []) 0 0)) l (taken_out l.subject ls)
      go [] = refl
      go (u ∷ us) = refl

  block-all : (x : Subject) → block_with (map f (us ++ v ∷ [])) x ≡ x ∷ map f (us ++ v ∷ [])
  block-all x = go us
    where
      go : (us : List ℕ) → block_with (map f (us ++ v ∷ [])) x ≡ x ∷ map f (us ++ v ∷ [])
      go [] = refl
      go (u ∷ us) = refl

-- ## A second line

module _ (g : Signs) (src w : List ℕ) (o : Order) (rs : List Rule) (n : ℕ) (cs : List Declaration) (ls : List OrderLine) (k : Known g src w o rs n cs ls) where
  listed-one : (v : ℕ) → one_of (eqb v) k.marks ≡ true → IsListed g src w k.ds v
  listed-one v h = one_has (IsListed g src w k.ds) v k.marks k.listed h

  -- in the order: the subject has a line
  pub again-order : (x : Subject) (f : Option ℕ) → mark_of (length src) k.ds x ≡ f → again [] x ls ≡ is_ordered w f
  unfolding again
  again-order x f m = ap not (rank-none g src w o rs n cs ls k x f m) ∙ not-not (is_ordered w f)

  subjects-marks : (x : Subject) (us : List ℕ) → All (IsListed g src w k.ds) us
      → one_of (same_subject x) (map (subject_at g src) us) ≡ one_of (λ (u : ℕ). is_at u (mark_of (length src) k.ds x)) us
  unfolding one_of
  subjects-marks x [] a = refl
  subjects-marks x (u ∷ us) a = rw (subject-mark g src w n k.ds k.holds k.holds.once u x a.0.row a.0.even, subjects-marks x us a.1)

  module _ (b : Block) (xs : List Subject) (i : InBlock g src w k.marks b xs) where
    own-listed : All (IsListed g src w k.ds) (i.own ++ b.named ∷ [])
    own-listed =
        all_then (IsListed g src w k.ds) i.own b.named (all_of (IsListed g src w k.ds) i.own (λ v h. listed-one v (i.listed v h).0)) (listed-one b.named i.named)

    own-or : (v : ℕ) → is_row (length src) k.ds v ≡ true
        → (one_of (eqb v) i.own || one_of (eqb v) (b.named ∷ [])) ≡ (eqb v b.named || leb b.from (cell w v place_number))
    unfolding one_of
    own-or v r =
        by (eqb v b.named)
        (λ t. rw t (or-true (one_of (eqb v) i.own)))
        (λ t. rw t
        (by (one_of (eqb v) i.own)
        (λ s. rw (s, le-leb b.from (cell w v place_number) (i.listed v s).1))
        (λ s. rw s
        (by (leb b.from (cell w v place_number))
        (λ l. let a = leb-true b.from (cell w v place_number) l in
        let c = i.before in
        clash (i.all v (k.all v r (omega (arith, a, c))) a) s)
        (λ l. sym l)))))

    -- in a block: it is the named line's, or that of one of its own lines
    pub again-own : (x : Subject) (f : Option ℕ) → mark_of (length src) k.ds x ≡ f → again xs x ls ≡ is_own w b f
    again-own x f m =
        ap (λ (ys : List Subject). again ys x ls) i.subjects
        ∙ again-all (subject_at g src) i.own b.named x ls
        ∙ subjects-marks x (i.own ++ b.named ∷ []) own-listed
        ∙ ap (λ (y : Option ℕ). one_of (λ (u : ℕ). is_at u y) (i.own ++ b.named ∷ [])) m
        ∙ go f m
      where
        go : (f : Option ℕ) → mark_of (length src) k.ds x ≡ f → one_of (λ (u : ℕ). is_at u f) (i.own ++ b.named ∷ []) ≡ is_own w b f
        go None m = none_of (i.own ++ b.named ∷ [])
        go (Some v) m = one_of-append (eqb v) i.own (b.named ∷ []) ∙ own-or v (mark-row g src w n k.ds k.holds k.holds.once v x m)

    -- ## The block with a line more

    module _ (m : ℕ) (x : Subject) (mark : mark_of (length src) k.ds x ≡ Some m) (first : again xs x ls ≡ false) where
      not_own : is_own w b (Some m) ≡ false
      not_own = sym (again-own x (Some m) mark) ∙ first

      not_named : m ≡ b.named → ⊥
      not_named = eqb-false m b.named (or-false-left (eqb m b.named) _ not_own)

      early : cell w m place_number < b.from
      early = leb-false b.from (cell w m place_number) (or-false-right (eqb m b.named) _ not_own)

      own-other : (v : ℕ) → one_of (eqb v) i.own ≡ true → v ≡ m → ⊥
      own-other v h e = let a = (i.listed v h).1 in let c = early in let d = ap (λ (u : ℕ). cell w u place_number) e in omega (arith, a, c, d)

      -- the line after which it comes to stand
      pub last_one : one_of (eqb b.last) k.marks ≡ true
      last_one = subst (λ (v : ℕ). one_of (eqb v) k.marks ≡ true) (sym i.last) (first-has (λ (v : ℕ). one_of (eqb v) k.marks ≡ true) i.own b.named (λ u h. (i.listed u h).0) i.named)

      pub last-other : b.last ≡ m → ⊥
      last-other = subst (λ (v : ℕ). v ≡ m → ⊥) (sym i.last) (first-has (λ (v : ℕ). v ≡ m → ⊥) i.own b.named own-other (λ e. not_named (sym e)))

      row : is_row (length src) k.ds m ≡ true
      row = mark-row g src w n k.ds k.holds k.holds.once m x mark

      apart : (u : ℕ) → one_of (eqb u) k.marks ≡ true → (u ≡ m → ⊥) → Apart m u
      apart u h d = rows_apart g src w n k.ds k.holds k.holds.once m u row (listed-one u h).row (λ e. d (sym e))

      module _ (number place : ℕ) (w' : List ℕ) (o' : Order) (marks' : List ℕ) (c : Changed g src w n k.ds k.marks m number place w' o' marks') (late : b.from ≤ place) where
        place_kept : (u : ℕ) → one_of (eqb u) k.marks ≡ true → (u ≡ m → ⊥) → cell w' u place_number ≡ cell w u place_number
        place_kept u h d = c.others u place_number (omega arith) (λ e. omega (arith, e)) (λ e. omega (arith, e)) (apart u h d)

        was-one : (v : ℕ) → eqb v m ≡ false → one_of (eqb v) marks' ≡ true → one_of (eqb v) k.marks ≡ true
        unfolding one_of
        was-one v t h = rw t at (one_has (λ (u : ℕ). one_of (eqb u) (m ∷ k.marks) ≡ true) v marks' c.from h)

        pub block_more : InBlock g src w' marks' (record { named = b.named; last = m; from = b.from }) (block_with xs x)
        unfolding one_of
        block_more = record {
          own = m ∷ i.own;
          subjects = ap (λ (ys : List Subject). block_with ys x) i.subjects
              ∙ block-all (subject_at g src) i.own b.named x
              ∙ ap (λ (y : Subject). y ∷ map (subject_at g src) (i.own ++ b.named ∷ [])) (sym (marked-subject g src w n k.ds k.holds k.holds.once m x mark));
          last = refl;
          named = c.old b.named (λ e. not_named (sym e)) i.named;
          before = let e = place_kept b.named i.named (λ e. not_named (sym e)) in let a = i.before in omega (arith, e, a);
          listed = λ v h.
              by (eqb v m)
              (λ t. let e = eqb-true v m t in
              let d = ap (λ (u : ℕ). cell w' u place_number) e in
              let f = c.place_is in
              (subst (λ (u : ℕ). one_of (eqb u) marks' ≡ true) (sym e) c.new, omega (arith, d, f, late)))
              (λ t. let y : one_of (eqb v) i.own ≡ true = rw t at h in
              let a = i.listed v y in
              let e = place_kept v a.0 (own-other v y) in
              let f = a.1 in
              (c.old v (own-other v y) a.0, omega (arith, e, f)));
          all = λ v h l.
              by (eqb v m)
              (λ t. rw t)
              (λ t. let y = was-one v t h in let e = place_kept v y (eqb-false v m t) in rw t (i.all v y (omega (arith, e, l))));
        }

-- ## What is told of a second line

pub again-is : (g : Signs) (src w : List ℕ) (sh : Sheet) (x : Subject) (f : Option ℕ) (r : Bool) → r ≡ is_again w sh f
    → ((cs : List Chain) (at : ℕ) (s : State) (o : Open g src w sh cs at s) → mark_of (length src) o.known.ds x ≡ f) → AgainIs g src w sh x r
again-is g src w sh x f r e m = record {
  is = λ cs at s o.
      by (eqb sh.phase in_block)
      (λ t. again-own g src w sh.order s.ordered.rules o.n s.declared s.ordered.lines o.known sh.block s.ordered.block (o.block t) x f (m cs at s o)
      ∙ sym (cond-true (is_own w sh.block f) (is_ordered w f) t) ∙ sym e)
      (λ t. ap (λ (ys : List Subject). again ys x s.ordered.lines) (o.closed t)
      ∙ again-order g src w sh.order s.ordered.rules o.n s.declared s.ordered.lines o.known x f (m cs at s o)
      ∙ sym (cond-false (is_own w sh.block f) (is_ordered w f) t) ∙ sym e);
}
