-- An order line in a block: what is known after it has come to stand after another, and after one that had a line has left its old place.
use Rattle.std.specs.Prelude.{if◌then◌else◌, None, Option, Some}
use mathlib.Core.Path.{◌≡◌, refl, sym, ap, ◌∙◌, subst}
use mathlib.Core.Bool.{true, false, not, or-true}
use mathlib.Core.List.{List, [], ◌∷◌, map}
use Prim.Native.Nat.{ℕ, suc, ◌+◌, ◌-◌, ◌*◌, ◌/◌, ◌%◌, ◌≤◌}
use native.Mathlib.Omega.{arith}
use lib.ListN.{length}
use lib.Dec.{eqb}
use borrow.Author.Tests.{eq-eqb, ne_eqb, eqb-true, eqb-false}
use Rattle.base_lists.proofs.Bools.{by}
use Rattle.base_lists.proofs.Lists.{All}
use Rattle.rules.specs.Text.{one_of}
use Rattle.rules.specs.Meaning.{Rule}
use Rattle.rules.specs.State.{Declaration, Subject, OrderLine}
use Rattle.rules.specs.OrderLines.{same_subject, rank_of, taken_out, put_after}
use Rattle.rules.proofs.RankLaws.{is_line_of, rank_from-zero}
use Rattle.rules.proofs.PlacedLaws.{taken_out-same}
use Rattle.text_lines.specs.declared.Signs.{Signs}
use Rattle.work_rows.specs.Cells.{cell}
use Rattle.work_rows.proofs.CellLaws.{Apart}
use Rattle.work_subjects.specs.Keys.{key_at}
use Rattle.work_store.specs.Store.{Decl, Once, Holds}
use Rattle.work_order.specs.declared.Order.{Order}
use Rattle.work_order.specs.Links.{chars_number, place_number, next_number, back_number, Row, Backed, Lines, Spread, none, more, linked_to, linked_between, with_line_after, longer_after, unlinked, shorter}
use Rattle.work_order.proofs.ListLaws.{row_kept, all_map, numbered-number, numbered-place, numbered-else, numbered-apart}
use Rattle.work_order.proofs.MoveLaws.{without, behind_mark, one_has, all_one, linked-rows, next-has, back-has, without_all_lem, without-apart, without-length, without-one, behind-all, behind-new, behind-one, out-length, out-else, out-next, out-back, lines-out, backed-out, put-length, put-else, next-kept, back-kept, lines-put, backed-put}
use Rattle.locale_sheet.specs.Known.{subject_at, line_at, is_row, mark_of, IsListed, Known}
use Rattle.locale_sheet.proofs.MarkLaws.{is_at, holds_row, subject-marked, marked-subject, subject-mark, mark-row}
use Rattle.locale_sheet.proofs.RankLaws.{is_ordered, rank-none}
use Rattle.locale_sheet.proofs.LineLaws.{new_line, Unlisted, Follows, Changed, Came, holds-linked, holds-numbered, line_same, line-new, known-changed, unlisted-others}

-- ## Subjects and marks of lines

module _ (g : Signs) (src w : List ℕ) (rs : List Rule) (n : ℕ) (ds : List Decl) (h : Holds (key_at g src) (length src) w n ds) (o : Once ds) where
  -- two rows have one subject only where they are one
  pub same-mark : (a u : ℕ) → is_row (length src) ds a ≡ true → a % 2 ≡ 0 → is_row (length src) ds u ≡ true → u % 2 ≡ 0
      → same_subject (subject_at g src a) (subject_at g src u) ≡ eqb a u
  same-mark a u r e s f = subject-mark g src w n ds h o u (subject_at g src a) s f ∙ ap (is_at u) (subject-marked g src w n ds h o a r e)

  line-mark : (a u : ℕ) → is_row (length src) ds a ≡ true → a % 2 ≡ 0 → IsListed g src w ds u → same_subject (subject_at g src a) (line_at g src rs w u).subject ≡ eqb a u
  unfolding line_at
  line-mark a u r e l = same-mark a u r e l.row l.even

  -- the lines of other rows stay
  taken-others : (v : ℕ) → is_row (length src) ds v ≡ true → v % 2 ≡ 0 → (us : List ℕ) → All (IsListed g src w ds) us → All (Apart v) us
      → taken_out (subject_at g src v) (map (line_at g src rs w) us) ≡ map (line_at g src rs w) us
  unfolding taken_out
  taken-others v r e [] a b = refl
  taken-others v r e (u ∷ us) a b =
      let d : eqb v u ≡ false = ne_eqb v u (λ f. b.0 (ap (λ (x : ℕ). x / 16) f)) in
      rw (line-mark v u r e a.0 ∙ d) (ap (λ (ms : List OrderLine). line_at g src rs w u ∷ ms) (taken-others v r e us a.1 b.1))

  -- the lines without that of a mark
  pub taken-lines : (v : ℕ) → is_row (length src) ds v ≡ true → v % 2 ≡ 0 → (us : List ℕ) → All (IsListed g src w ds) us → Spread us
      → taken_out (subject_at g src v) (map (line_at g src rs w) us) ≡ map (line_at g src rs w) (without v us)
  unfolding taken_out without
  taken-lines v r e [] a none = refl
  taken-lines v r e (u ∷ us) a (more b s) =
      let m = line-mark v u r e a.0 in
      by (eqb v u)
      (λ t. rw (m ∙ t, t) (taken-others v r e us a.1 (subst (λ (x : ℕ). All (Apart x) us) (sym (eqb-true v u t)) b)))
      (λ t. rw (m ∙ t, t) (ap (λ (ms : List OrderLine). line_at g src rs w u ∷ ms) (taken-lines v r e us a.1 s)))

  -- the lines with one more, after that of a mark, in an area where it has its numbers
  put-lines : (w' : List ℕ) (a v : ℕ) (l : OrderLine) → is_row (length src) ds a ≡ true → a % 2 ≡ 0 → l ≡ line_at g src rs w' v
      → ((u : ℕ) → Apart v u → line_at g src rs w u ≡ line_at g src rs w' u) → (us : List ℕ) → All (IsListed g src w ds) us → All (Apart v) us
      → put_after (subject_at g src a) l (map (line_at g src rs w) us) ≡ map (line_at g src rs w') (behind_mark a v us)
  unfolding put_after behind_mark
  put-lines w' a v l r e f same [] b c = refl
  put-lines w' a v l r e f same (u ∷ us) b c =
      let m = line-mark a u r e b.0 in
      by (eqb a u)
      (λ t. rw (m ∙ t, t, f, same u c.0) (ap (λ (ms : List OrderLine). line_at g src rs w' u ∷ line_at g src rs w' v ∷ ms) (all_same us c.1)))
      (λ t. rw (m ∙ t, t) (ap (λ (x : OrderLine). x ∷ put_after (subject_at g src a) l (map (line_at g src rs w) us)) (same u c.0)
      ∙ ap (λ (ms : List OrderLine). line_at g src rs w' u ∷ ms) (put-lines w' a v l r e f same us b.1 c.1)))
    where
      all_same : (us : List ℕ) → All (Apart v) us → map (line_at g src rs w) us ≡ map (line_at g src rs w') us
      all_same [] c = refl
      all_same (u ∷ us) c = rw (same u c.0, all_same us c.1)

-- ## How many lines there are without that of a subject

module _ (g : Signs) (src w : List ℕ) (o : Order) (rs : List Rule) (n : ℕ) (cs : List Declaration) (ls : List OrderLine) (k : Known g src w o rs n cs ls) where
  length-map : (us : List ℕ) → length (map (line_at g src rs w) us) ≡ length us
  length-map [] = refl
  length-map (u ∷ us) = ap suc (length-map us)

  pub known-length : length ls ≡ o.count
  known-length = ap length k.are ∙ length-map k.marks ∙ sym k.lines.count

  -- a subject that has no line
  pub taken_none : (x : Subject) → eqb (rank_of ls x) 0 ≡ true → taken_out x ls ≡ ls
  taken_none x e = taken_out-same x ls (not-true (one_of (is_line_of x) ls) (sym (rank_from-zero 1 x ls (omega arith)) ∙ e))
    where
      not-true : (b : mathlib.Core.Bool.Bool) → not b ≡ true → b ≡ false
      not-true true h = absurd (mathlib.Core.Bool.false≢true h)
      not-true false h = refl

  -- the lines without that of a listed mark
  pub taken-known : (v : ℕ) → one_of (eqb v) k.marks ≡ true → taken_out (subject_at g src v) ls ≡ map (line_at g src rs w) (without v k.marks)
  taken-known v m =
      let l = one_has (IsListed g src w k.ds) v k.marks k.listed m in
      ap (taken_out (subject_at g src v)) k.are ∙ taken-lines g src w rs n k.ds k.holds k.holds.once v l.row l.even k.marks k.listed k.lines.spread

  pub taken-count : (v : ℕ) → one_of (eqb v) k.marks ≡ true → length (taken_out (subject_at g src v) ls) ≡ o.count - 1
  taken-count v m =
      let a : length (taken_out (subject_at g src v) ls) ≡ length (without v k.marks) = ap length (taken-known v m) ∙ length-map (without v k.marks) in
      let b = without-length v k.marks m in
      let c = k.lines.count in
      omega (arith, a, b, c)

  -- those without that of a subject x, whose mark is found or not
  pub taken-found : (x : Subject) (f : Option ℕ) → mark_of (length src) k.ds x ≡ f → length (taken_out x ls) ≡ (if is_ordered w f then o.count - 1 else o.count)
  taken-found x None m = ap length (taken_none x (rank-none g src w o rs n cs ls k x None m)) ∙ known-length
  taken-found x (Some v) m =
      by (eqb (cell w v place_number) 0)
      (λ t. rw t (ap length (taken_none x (rank-none g src w o rs n cs ls k x (Some v) m ∙ rw t)) ∙ known-length))
      (λ t. let z = eqb-false (cell w v place_number) 0 t in
      let s = marked-subject g src w n k.ds k.holds k.holds.once v x m in
      rw t (subst (λ (y : Subject). length (taken_out y ls) ≡ o.count - 1) s
      (taken-count v (k.all v (mark-row g src w n k.ds k.holds k.holds.once v x m) (positive (cell w v place_number) z)))))
    where
      positive : (a : ℕ) → (a ≡ 0 → ⊥) → 1 ≤ a
      positive a z = omega (arith, z)

-- ## A line that had none, after that of a

module _ (g : Signs) (src w : List ℕ) (o : Order) (rs : List Rule) (n : ℕ) (cs : List Declaration) (ls : List OrderLine) (k : Known g src w o rs n cs ls)
    (a v number place : ℕ) (m : one_of (eqb a) k.marks ≡ true) (r : Row w v) (p : Follows g src place) where
  abbrev marks : List ℕ
  marks = k.marks

  abbrev ds : List Decl
  ds = k.ds

  listed-a : IsListed g src w ds a
  listed-a = one_has (IsListed g src w ds) a marks k.listed m

  row-a : Row w a
  row-a = one_has (Row w) a marks (linked-rows w o.first marks k.lines.linked) m

  -- marks in the list have rows
  rows : All (λ (t : ℕ). is_row (length src) ds t ≡ true) marks
  rows = all_map (IsListed g src w ds) (λ (t : ℕ). is_row (length src) ds t ≡ true) marks (λ t l. l.row) k.listed

  -- the store holds what it held where v comes to stand between a and the mark b
  holds-between : (x : ℕ) → is_row (length src) ds x ≡ true → (w₀ : List ℕ) (b : ℕ) → ((b ≡ 0 → ⊥) → is_row (length src) ds b ≡ true) → Holds (key_at g src) (length src) w₀ n ds
      → Holds (key_at g src) (length src) (linked_between w₀ a x b) n ds
  unfolding linked_between
  holds-between x own w₀ b next h =
      holds_row g src x back_number a own (omega arith) (omega arith)
      (holds_row g src x next_number b own (omega arith) (omega arith)
      (holds_row g src a next_number x listed-a.row (omega arith) (omega arith)
      (holds-linked g src n ds w₀ b back_number x next (omega arith) (omega arith) h)))

  module _ (u : Unlisted (length src) w k.ds v) where
    abbrev after : List ℕ
    after = with_line_after w a v number place

    abbrev between : List ℕ
    between = linked_between w a v (cell w a next_number)

    others_apart : All (Apart v) marks
    others_apart = unlisted-others g src w o rs n cs ls k v number place u r p

    apart : Apart v a
    apart = one_has (Apart v) a marks others_apart m

    inside : 8 * (v / 16) + 8 ≤ length between
    inside = let i = r.inside in let l = put-length w a v row-a r apart in omega (arith, i, l)

    put-changed : Changed g src w n k.ds k.marks v number place (with_line_after w a v number place) (longer_after w o a v) (behind_mark a v k.marks)
    unfolding with_line_after linked_between one_of
    put-changed = record {
      holds = holds-numbered g src n ds between v number place u.row
          (holds-between v u.row w (cell w a next_number) (next-has w (λ (t : ℕ). is_row (length src) ds t ≡ true) o.first marks a k.lines.linked rows m) k.holds);
      number_is_lem = numbered-number between v number place inside;
      place_is = numbered-place between v number place inside;
      chars = λ x. numbered-else between v number place x chars_number (omega arith) (λ e. omega (arith, e)) (λ e. omega (arith, e))
          ∙ put-else w a v row-a r apart x chars_number (omega arith) (λ e. omega (arith, e)) (λ e. omega (arith, e));
      others = λ x j h d e f. numbered-apart between v number place x j h f ∙ put-else w a v row-a r apart x j h d e;
      nexts = λ x f b. numbered-apart between v number place x next_number (omega arith) f
          ∙ next-kept w a v row-a r apart x (one_has (λ (t : ℕ). Apart t x) a marks b m) f;
      backs = λ x f b. numbered-apart between v number place x back_number (omega arith) f
          ∙ back-kept w a v row-a r apart x (next-has w (λ (t : ℕ). Apart t x) o.first marks a k.lines.linked b m) f;
      lines = lines-put w a v row-a r apart o number place marks k.lines others_apart m;
      backed = backed-put w a v row-a r apart o number place marks k.lines k.backs others_apart m;
      from = behind-all (λ (x : ℕ). one_of (eqb x) (v ∷ marks) ≡ true) a v marks
          (all_map (λ (x : ℕ). one_of (eqb x) marks ≡ true) (λ (x : ℕ). one_of (eqb x) (v ∷ marks) ≡ true) marks (λ x e. rw e (or-true (eqb x v))) (all_one marks))
          (rw (eq-eqb v v refl));
      new = behind-new a v marks m;
      old = λ x d e. behind-one a v x marks d ∙ e;
    }

    pub came-put : Came g src w rs n cs k.ds k.marks v number place (with_line_after w a v number place) (longer_after w o a v)
        (put_after (subject_at g src a) (new_line g src rs v number place) ls)
    came-put =
        known-changed g src w o rs n cs ls k v number place u.row u.even p after (longer_after w o a v) (behind_mark a v marks) put-changed
        (put_after (subject_at g src a) (new_line g src rs v number place) ls)
        (ap (put_after (subject_at g src a) (new_line g src rs v number place)) k.are
        ∙ put-lines g src w rs n ds k.holds k.holds.once after a v (new_line g src rs v number place) listed-a.row listed-a.even
        (line-new g src w o rs n cs ls k v number place u.row u.even p after (longer_after w o a v) (behind_mark a v marks) put-changed)
        (line_same g src w o rs n cs ls k v number place u.row u.even p after (longer_after w o a v) (behind_mark a v marks) put-changed)
        marks k.listed others_apart)

  -- ## A line that moves

  module _ (own : one_of (eqb v) k.marks ≡ true) (d : a ≡ v → ⊥) where
    abbrev out : List ℕ
    out = unlinked w v

    abbrev left : List ℕ
    left = without v marks

    abbrev between₂ : List ℕ
    between₂ = linked_between out a v (cell out a next_number)

    abbrev after₂ : List ℕ
    after₂ = with_line_after (unlinked w v) a v number place

    abbrev order₂ : Order
    order₂ = longer_after (unlinked w v) (shorter w o v) a v

    listed-v : IsListed g src w ds v
    listed-v = one_has (IsListed g src w ds) v marks k.listed own

    left-apart : All (Apart v) left
    left-apart = without-apart v marks k.lines.spread own

    stays : one_of (eqb a) left ≡ true
    stays = without-one v a marks d ∙ m

    apart₂ : Apart v a
    apart₂ = one_has (Apart v) a left left-apart stays

    row-a₂ : Row out a
    row-a₂ = row_kept w out a (out-length w v) row-a

    row-v₂ : Row out v
    row-v₂ = row_kept w out v (out-length w v) r

    lines₂ : Lines out (shorter w o v) left
    lines₂ = lines-out w v o marks k.lines k.backs own

    backed₂ : Backed out 0 left
    backed₂ = backed-out w v o marks k.lines k.backs own

    inside₂ : 8 * (v / 16) + 8 ≤ length between₂
    inside₂ = let i = row-v₂.inside in let l = put-length out a v row-a₂ row-v₂ apart₂ in omega (arith, i, l)

    out-next-off : (x : ℕ) → All (λ (t : ℕ). Apart t x) marks → cell out x next_number ≡ cell w x next_number
    out-next-off x b =
        out-next w v x
        (back-has w (λ (t : ℕ). (t ≡ 0 → ⊥) → Apart t x) 0 marks v k.backs (λ z. absurd (z refl))
        (all_map (λ (t : ℕ). Apart t x) (λ (t : ℕ). (t ≡ 0 → ⊥) → Apart t x) marks (λ t e z. e) b) own)

    out-back-off : (x : ℕ) → All (λ (t : ℕ). Apart t x) marks → cell out x back_number ≡ cell w x back_number
    out-back-off x b = out-back w v x (next-has w (λ (t : ℕ). Apart t x) o.first marks v k.lines.linked b own)

    moved-changed : Changed g src w n k.ds k.marks v number place (with_line_after (unlinked w v) a v number place) (longer_after (unlinked w v) (shorter w o v) a v) (behind_mark a v (without v k.marks))
    unfolding with_line_after linked_between unlinked one_of
    moved-changed = record {
      holds = holds-numbered g src n ds between₂ v number place listed-v.row
          (holds-between v listed-v.row out (cell out a next_number)
          (next-has out (λ (t : ℕ). is_row (length src) ds t ≡ true) (shorter w o v).first left a lines₂.linked (without_all_lem (λ (t : ℕ). is_row (length src) ds t ≡ true) v marks rows) stays)
          (holds-linked g src n ds (linked_to w (cell w v back_number) next_number (cell w v next_number)) (cell w v next_number) back_number (cell w v back_number)
          (next-has w (λ (t : ℕ). is_row (length src) ds t ≡ true) o.first marks v k.lines.linked rows own) (omega arith) (omega arith)
          (holds-linked g src n ds w (cell w v back_number) next_number (cell w v next_number)
          (back-has w (λ (t : ℕ). (t ≡ 0 → ⊥) → is_row (length src) ds t ≡ true) 0 marks v k.backs (λ z. absurd (z refl))
          (all_map (λ (t : ℕ). is_row (length src) ds t ≡ true) (λ (t : ℕ). (t ≡ 0 → ⊥) → is_row (length src) ds t ≡ true) marks (λ t e z. e) rows) own)
          (omega arith) (omega arith) k.holds)));
      number_is_lem = numbered-number between₂ v number place inside₂;
      place_is = numbered-place between₂ v number place inside₂;
      chars = λ x. numbered-else between₂ v number place x chars_number (omega arith) (λ e. omega (arith, e)) (λ e. omega (arith, e))
          ∙ put-else out a v row-a₂ row-v₂ apart₂ x chars_number (omega arith) (λ e. omega (arith, e)) (λ e. omega (arith, e))
          ∙ out-else w v x chars_number (omega arith) (λ e. omega (arith, e)) (λ e. omega (arith, e));
      others = λ x j h e f i. numbered-apart between₂ v number place x j h i ∙ put-else out a v row-a₂ row-v₂ apart₂ x j h e f ∙ out-else w v x j h e f;
      nexts = λ x f b. numbered-apart between₂ v number place x next_number (omega arith) f
          ∙ next-kept out a v row-a₂ row-v₂ apart₂ x (one_has (λ (t : ℕ). Apart t x) a marks b m) f ∙ out-next-off x b;
      backs = λ x f b. numbered-apart between₂ v number place x back_number (omega arith) f
          ∙ back-kept out a v row-a₂ row-v₂ apart₂ x
          (next-has out (λ (t : ℕ). Apart t x) (shorter w o v).first left a lines₂.linked (without_all_lem (λ (t : ℕ). Apart t x) v marks b) stays) f
          ∙ out-back-off x b;
      lines = lines-put out a v row-a₂ row-v₂ apart₂ (shorter w o v) number place left lines₂ left-apart stays;
      backed = backed-put out a v row-a₂ row-v₂ apart₂ (shorter w o v) number place left lines₂ backed₂ left-apart stays;
      from = behind-all (λ (x : ℕ). one_of (eqb x) (v ∷ marks) ≡ true) a v left
          (without_all_lem (λ (x : ℕ). one_of (eqb x) (v ∷ marks) ≡ true) v marks
          (all_map (λ (x : ℕ). one_of (eqb x) marks ≡ true) (λ (x : ℕ). one_of (eqb x) (v ∷ marks) ≡ true) marks (λ x e. rw e (or-true (eqb x v))) (all_one marks)))
          (rw (eq-eqb v v refl));
      new = behind-new a v left stays;
      old = λ x f e. behind-one a v x left f ∙ without-one v x marks f ∙ e;
    }

    pub came-moved : Came g src w rs n cs k.ds k.marks v number place (with_line_after (unlinked w v) a v number place) (longer_after (unlinked w v) (shorter w o v) a v)
        (put_after (subject_at g src a) (new_line g src rs v number place) (taken_out (subject_at g src v) ls))
    came-moved =
        known-changed g src w o rs n cs ls k v number place listed-v.row listed-v.even p after₂ order₂ (behind_mark a v left) moved-changed
        (put_after (subject_at g src a) (new_line g src rs v number place) (taken_out (subject_at g src v) ls))
        (ap (put_after (subject_at g src a) (new_line g src rs v number place)) (taken-known g src w o rs n cs ls k v own)
        ∙ put-lines g src w rs n ds k.holds k.holds.once after₂ a v (new_line g src rs v number place) listed-a.row listed-a.even
        (line-new g src w o rs n cs ls k v number place listed-v.row listed-v.even p after₂ order₂ (behind_mark a v left) moved-changed)
        (line_same g src w o rs n cs ls k v number place listed-v.row listed-v.even p after₂ order₂ (behind_mark a v left) moved-changed)
        left (without_all_lem (IsListed g src w ds) v marks k.listed) left-apart)
