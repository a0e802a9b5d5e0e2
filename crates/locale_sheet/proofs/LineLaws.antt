-- An order line more: what is known after it.
use mathlib.Core.Path.{◌≡◌, refl, sym, ap, ◌∙◌, subst}
use mathlib.Core.Bool.{true, or-true}
use mathlib.Core.List.{List, [], ◌∷◌, ◌++◌, map, map-append}
use Prim.Native.Nat.{ℕ, ◌+◌, ◌*◌, ◌/◌, ◌%◌, ◌≤◌, ◌<◌}
use native.Mathlib.Omega.{arith}
use lib.ListN.{length, set, length-set}
use lib.Dec.{eqb}
use borrow.Author.Tests.{eq-eqb, eqb-true, eqb-false}
use Rattle.base_lists.proofs.Bools.{by, cond-by}
use Rattle.base_lists.proofs.Lists.{All}
use Rattle.rules.specs.Text.{one_of}
use Rattle.rules.specs.Tokens.{operands}
use Rattle.rules.specs.Meaning.{Rule}
use Rattle.rules.specs.State.{Declaration, OrderLine}
use Rattle.rules.specs.OrderLines.{operand_list, weights_of}
use Rattle.rules.proofs.TextLaws.{one_of-append}
use Rattle.text_lines.specs.declared.Signs.{Signs}
use Rattle.text_tokens.specs.Left.{tokens_left}
use Rattle.work_rows.specs.Cells.{cell_at, cell}
use Rattle.work_rows.proofs.CellLaws.{Apart, cell_other, cell_apart}
use Rattle.work_subjects.specs.Keys.{key_at}
use Rattle.work_store.specs.Store.{Decl, Holds}
use Rattle.work_store.proofs.ListLaws.{place-below}
use Rattle.work_order.specs.declared.Order.{Order}
use Rattle.work_order.specs.Links.{chars_number, line_number, place_number, next_number, back_number, Row, Backed, Lines, linked_to, numbered, with_line, longer, NewLine}
use Rattle.work_order.proofs.ListLaws.{all_map, all_append, numbered-number, numbered-place, numbered-else, numbered-apart, last_has, link-length, link-other, link_apart, lines_more, backed-more}
use Rattle.work_order.proofs.MoveLaws.{one_has, all_one}
use Rattle.locale_sheet.specs.Known.{Says, none, symbols, elements, characters, behind, subject_at, line_at, is_row, Accepted, IsListed, Known}
use Rattle.locale_sheet.proofs.MarkLaws.{row_by, holds_row, rows_apart}

-- ## What is kept

pub says-kept : (w w' : List ℕ) (ds : List Decl) (cs : List Declaration) → ((u : ℕ) → cell w' u chars_number ≡ cell w u chars_number) → Says w ds cs → Says w' ds cs
says-kept w w' ds cs e none = none
says-kept w w' ds cs e (symbols {v = v} {ds = es} {cs = fs} z s) = symbols (e v ∙ z) (says-kept w w' es fs e s)
says-kept w w' ds cs e (elements {v = v} {ds = es} {cs = fs} z l s) = elements (e v ∙ z) l (says-kept w w' es fs e s)
says-kept w w' ds cs e (characters {v = v} {ds = es} {cs = fs} z s) = characters (e v ∙ z) (says-kept w w' es fs e s)

pub holds-linked : (g : Signs) (src : List ℕ) (n : ℕ) (ds : List Decl) (w : List ℕ) (l j v : ℕ) → ((l ≡ 0 → ⊥) → is_row (length src) ds l ≡ true) → 1 ≤ j → j < 5
    → Holds (key_at g src) (length src) w n ds → Holds (key_at g src) (length src) (linked_to w l j v) n ds
unfolding linked_to
holds-linked g src n ds w l j v r a i h =
    cond-by (λ (x : List ℕ). Holds (key_at g src) (length src) x n ds) (eqb l 0) (λ t. h) (λ t. holds_row g src l j v (r (eqb-false l 0 t)) a i h)

pub holds-numbered : (g : Signs) (src : List ℕ) (n : ℕ) (ds : List Decl) (w : List ℕ) (v number place : ℕ) → is_row (length src) ds v ≡ true
    → Holds (key_at g src) (length src) w n ds → Holds (key_at g src) (length src) (numbered w v number place) n ds
unfolding numbered
holds-numbered g src n ds w v number place r h =
    holds_row g src v place_number place r (omega arith) (omega arith) (holds_row g src v line_number number r (omega arith) (omega arith) h)

-- ## What is known

-- the order line of a mark that is given its numbers
abbrev pub new_line : Signs → List ℕ → List Rule → ℕ → ℕ → ℕ → OrderLine
new_line g src rs v number place = record {
  number = number;
  subject = subject_at g src v;
  weights = weights_of (subject_at g src v) rs (operand_list (operands (tokens_left g src (behind place))));
}

-- A row that has no order line yet.
pub record Unlisted (len : ℕ) (w : List ℕ) (ds : List Decl) (v : ℕ) : Type 0 where
  pub row : is_row len ds v ≡ true
  pub even : v % 2 ≡ 0
  pub none : cell w v place_number ≡ 0

-- A place right after the subject of an order line that was accepted.
pub record Follows (g : Signs) (src : List ℕ) (place : ℕ) : Type 0 where
  pub some : 1 ≤ place
  pub within : place ≤ length src
  pub accepted : Accepted (operands (tokens_left g src (behind place)))

-- What the area is after the line of the mark v has come into the list, wherever: its own numbers, and what stays.
pub record Changed (g : Signs) (src w : List ℕ) (n : ℕ) (ds : List Decl) (marks : List ℕ) (v number place : ℕ) (w' : List ℕ) (o' : Order) (marks' : List ℕ) : Type 0 where
  pub holds : Holds (key_at g src) (length src) w' n ds
  pub number_is_lem : cell w' v line_number ≡ number
  pub place_is : cell w' v place_number ≡ place
  pub chars : (u : ℕ) → cell w' u chars_number ≡ cell w u chars_number
  pub others : (u j : ℕ) → j < 5 → (j ≡ next_number → ⊥) → (j ≡ back_number → ⊥) → Apart v u → cell w' u j ≡ cell w u j
  pub nexts : (u : ℕ) → Apart v u → All (λ (t : ℕ). Apart t u) marks → cell w' u next_number ≡ cell w u next_number
  pub backs : (u : ℕ) → Apart v u → All (λ (t : ℕ). Apart t u) marks → cell w' u back_number ≡ cell w u back_number
  pub lines : Lines w' o' marks'
  pub backed : Backed w' 0 marks'
  pub from : All (λ (u : ℕ). one_of (eqb u) (v ∷ marks) ≡ true) marks'
  pub new : one_of (eqb v) marks' ≡ true
  pub old : (u : ℕ) → (u ≡ v → ⊥) → one_of (eqb u) marks ≡ true → one_of (eqb u) marks' ≡ true

-- What is known then, and what it changed.
pub record Came (g : Signs) (src w : List ℕ) (rs : List Rule) (n : ℕ) (cs : List Declaration) (ds : List Decl) (marks : List ℕ) (v number place : ℕ) (w' : List ℕ) (o' : Order)
    (ls' : List OrderLine) : Type 0 where
  pub known : Known g src w' o' rs n cs ls'
  pub changed : Changed g src w n ds marks v number place w' o' known.marks

-- What is known, with these marks in the list.
record KnownBy (g : Signs) (src w : List ℕ) (o : Order) (rs : List Rule) (n : ℕ) (cs : List Declaration) (ls : List OrderLine) (marks : List ℕ) : Type 0 where
  known : Known g src w o rs n cs ls
  same : known.marks ≡ marks

module _ (g : Signs) (src w : List ℕ) (o : Order) (rs : List Rule) (n : ℕ) (cs : List Declaration) (ls : List OrderLine) (k : Known g src w o rs n cs ls)
    (v number place : ℕ) (row : is_row (length src) k.ds v ≡ true) (even : v % 2 ≡ 0) (p : Follows g src place)
    (w' : List ℕ) (o' : Order) (marks' : List ℕ) (c : Changed g src w n k.ds k.marks v number place w' o' marks') where
  abbrev ds : List Decl
  ds = k.ds

  abbrev len : ℕ
  len = length src

  -- the row of another mark
  other : (x : ℕ) → is_row len ds x ≡ true → (x ≡ v → ⊥) → Apart v x
  other x h e = rows_apart g src w n ds k.holds k.holds.once v x row h (λ f. e (sym f))

  -- the line of another mark stays
  pub line_same : (x : ℕ) → Apart v x → line_at g src rs w x ≡ line_at g src rs w' x
  unfolding line_at
  line_same x a =
      rw (c.others x line_number (omega arith) (λ e. omega (arith, e)) (λ e. omega (arith, e)) a, c.others x place_number (omega arith) (λ e. omega (arith, e)) (λ e. omega (arith, e)) a)

  pub lines_same : (us : List ℕ) → All (Apart v) us → map (line_at g src rs w) us ≡ map (line_at g src rs w') us
  lines_same [] a = refl
  lines_same (x ∷ xs) a = rw (line_same x a.0, lines_same xs a.1)

  pub line-new : new_line g src rs v number place ≡ line_at g src rs w' v
  unfolding line_at
  line-new = rw (c.number_is_lem, c.place_is)

  listed-new : IsListed g src w' ds v
  listed-new =
      let e = c.place_is in
      record {
        row = row;
        even = even;
        some = let s = p.some in omega (arith, e, s);
        within = let s = p.within in omega (arith, e, s);
        accepted = subst (λ (q : ℕ). Accepted (operands (tokens_left g src (behind q)))) (sym e) p.accepted;
      }

  listed-old : (x : ℕ) → Apart v x → IsListed g src w ds x → IsListed g src w' ds x
  listed-old x a l =
      let e = c.others x place_number (omega arith) (λ e. omega (arith, e)) (λ e. omega (arith, e)) a in
      record {
        row = l.row;
        even = l.even;
        some = let s = l.some in omega (arith, s, e);
        within = let s = l.within in omega (arith, s, e);
        accepted = subst (λ (q : ℕ). Accepted (operands (tokens_left g src (behind q)))) (sym e) l.accepted;
      }

  listed-each : (x : ℕ) → one_of (eqb x) (v ∷ k.marks) ≡ true → IsListed g src w' ds x
  unfolding one_of
  listed-each x h =
      by (eqb x v)
      (λ t. subst (IsListed g src w' ds) (sym (eqb-true x v t)) listed-new)
      (λ t. let l = one_has (IsListed g src w ds) x k.marks k.listed (rw t at h) in listed-old x (other x l.row (eqb-false x v t)) l)

  -- a row's place among those of the source
  row_below : (x y : ℕ) → is_row len ds x ≡ true → n ≤ y / 16 → y / 16 ≤ len / 8 → Apart x y
  row_below x y h a b e =
      row_by len ds x h
      (λ t c. let i = place-below k.holds x t in absurd (omega (arith, i, a, e)))
      (λ z. absurd (omega (arith, z, b, e)))

  all-kept : (x : ℕ) → is_row len ds x ≡ true → 1 ≤ cell w' x place_number → one_of (eqb x) marks' ≡ true
  all-kept x h l =
      by (eqb x v)
      (λ t. subst (λ (y : ℕ). one_of (eqb y) marks' ≡ true) (sym (eqb-true x v t)) c.new)
      (λ t. let d = eqb-false x v t in
      let e = c.others x place_number (omega arith) (λ e. omega (arith, e)) (λ e. omega (arith, e)) (other x h d) in
      c.old x d (k.all x h (omega (arith, l, e))))

  -- a row with no line: it is another's, and had none before
  unlisted-row : (x : ℕ) → is_row len ds x ≡ true → cell w' x place_number ≡ 0 → Apart v x
  unlisted-row x h z =
      other x h (λ e. let y = ap (λ (q : ℕ). cell w' q place_number) e in let f = c.place_is in let s = p.some in omega (arith, y, f, z, s))

  unlisted-place : (x : ℕ) → is_row len ds x ≡ true → cell w' x place_number ≡ 0 → cell w x place_number ≡ 0
  unlisted-place x h z = sym (c.others x place_number (omega arith) (λ e. omega (arith, e)) (λ e. omega (arith, e)) (unlisted-row x h z)) ∙ z

  unlisted-apart : (x : ℕ) → is_row len ds x ≡ true → cell w x place_number ≡ 0 → All (λ (t : ℕ). Apart t x) k.marks
  unlisted-apart x h z =
      all_map (IsListed g src w ds) (λ (t : ℕ). Apart t x) k.marks
      (λ t l. rows_apart g src w n ds k.holds k.holds.once t x l.row h (λ e. let s = l.some in let i = ap (λ (q : ℕ). cell w q place_number) e in omega (arith, s, i, z)))
      k.listed

  free-apart : (x : ℕ) → n ≤ x / 16 → x / 16 ≤ len / 8 → All (λ (t : ℕ). Apart t x) k.marks
  free-apart x a b = all_map (IsListed g src w ds) (λ (t : ℕ). Apart t x) k.marks (λ t l. row_below t x l.row a b) k.listed

  free-kept : (x j : ℕ) → n ≤ x / 16 → x / 16 ≤ len / 8 → j < 5 → cell w' x j ≡ 0
  free-kept x j a b h =
      let e = row_below v x row a b in
      by (eqb j next_number)
      (λ t. subst (λ (i : ℕ). cell w' x i ≡ 0) (sym (eqb-true j next_number t)) (c.nexts x e (free-apart x a b) ∙ k.free x next_number a b (omega arith)))
      (λ t. by (eqb j back_number)
      (λ s. subst (λ (i : ℕ). cell w' x i ≡ 0) (sym (eqb-true j back_number s)) (c.backs x e (free-apart x a b) ∙ k.free x back_number a b (omega arith)))
      (λ s. c.others x j h (eqb-false j next_number t) (eqb-false j back_number s) e ∙ k.free x j a b h))

  known_by : (ls' : List OrderLine) → ls' ≡ map (line_at g src rs w') marks' → KnownBy g src w' o' rs n cs ls' marks'
  known_by ls' e = record {
    known = record {
      ds = ds;
      holds = c.holds;
      says = says-kept w w' ds cs c.chars k.says;
      some = k.some;
      marks = marks';
      lines = c.lines;
      backs = c.backed;
      are = e;
      listed = all_map (λ (x : ℕ). one_of (eqb x) (v ∷ k.marks) ≡ true) (IsListed g src w' ds) marks' listed-each c.from;
      all = all-kept;
      free = free-kept;
      alone = λ x h z. let y = unlisted-place x h z in c.nexts x (unlisted-row x h z) (unlisted-apart x h y) ∙ k.alone x h y;
      unranked = λ x h z. let y = unlisted-place x h z in c.backs x (unlisted-row x h z) (unlisted-apart x h y) ∙ k.unranked x h y;
    };
    same = refl;
  }

  pub known-changed : (ls' : List OrderLine) → ls' ≡ map (line_at g src rs w') marks' → Came g src w rs n cs k.ds k.marks v number place w' o' ls'
  known-changed ls' e =
      let x = known_by ls' e in
      record { known = x.known; changed = subst (Changed g src w n k.ds k.marks v number place w' o') (sym x.same) c }

-- ## At the end of the order

module _ (g : Signs) (src w : List ℕ) (o : Order) (rs : List Rule) (n : ℕ) (cs : List Declaration) (ls : List OrderLine) (k : Known g src w o rs n cs ls)
    (v number place : ℕ) (u : Unlisted (length src) w k.ds v) (r : Row w v) (p : Follows g src place) where
  abbrev linked : List ℕ
  linked = linked_to w o.last next_number v

  abbrev backed : List ℕ
  backed = set linked (cell_at v back_number) o.last

  abbrev after : List ℕ
  after = with_line w o v number place

  -- listed marks are others
  pub unlisted-others : All (Apart v) k.marks
  unlisted-others =
      all_map (IsListed g src w k.ds) (Apart v) k.marks
      (λ x a. rows_apart g src w n k.ds k.holds k.holds.once v x u.row a.row (λ e. let s = a.some in let z = u.none in let y = ap (λ (q : ℕ). cell w q place_number) e in omega (arith, s, z, y)))
      k.listed

  long : length backed ≡ length w
  long = length-set linked (cell_at v back_number) o.last ∙ link-length w o.last next_number v

  inside : 8 * (v / 16) + 8 ≤ length backed
  inside = let i = r.inside in let l = long in omega (arith, i, l)

  new_line_lem : NewLine w v k.marks
  new_line_lem = record { row = r; apart = unlisted-others; alone = k.alone v u.row u.none }

  last_off : (x : ℕ) → All (λ (t : ℕ). Apart t x) k.marks → (o.last ≡ 0 → ⊥) → Apart o.last x
  last_off x a z = subst (λ (t : ℕ). Apart t x) (sym k.lines.last) (last_has (λ (t : ℕ). Apart t x) k.marks a (λ e. z (k.lines.last ∙ e)))

  last_row : (o.last ≡ 0 → ⊥) → is_row (length src) k.ds o.last ≡ true
  last_row z =
      subst (λ (t : ℕ). is_row (length src) k.ds t ≡ true) (sym k.lines.last)
      (last_has (λ (t : ℕ). is_row (length src) k.ds t ≡ true) k.marks
      (all_map (IsListed g src w k.ds) (λ (t : ℕ). is_row (length src) k.ds t ≡ true) k.marks (λ t l. l.row) k.listed) (λ e. z (k.lines.last ∙ e)))

  line-changed : Changed g src w n k.ds k.marks v number place (with_line w o v number place) (longer o v) (k.marks ++ v ∷ [])
  unfolding with_line one_of
  line-changed = record {
    holds = holds-numbered g src n k.ds backed v number place u.row
        (holds_row g src v back_number o.last u.row (omega arith) (omega arith)
        (holds-linked g src n k.ds w o.last next_number v last_row (omega arith) (omega arith) k.holds));
    number_is_lem = numbered-number backed v number place inside;
    place_is = numbered-place backed v number place inside;
    chars = λ x. numbered-else backed v number place x chars_number (omega arith) (λ e. omega (arith, e)) (λ e. omega (arith, e))
        ∙ cell_other linked v back_number x chars_number o.last (omega arith) (omega arith) (λ e. omega (arith, e))
        ∙ link-other w o.last next_number v x chars_number (omega arith) (omega arith) (λ e. omega (arith, e));
    others = λ x j h d e a. numbered-apart backed v number place x j h a ∙ cell_apart linked v back_number x j o.last (omega arith) h a
        ∙ link-other w o.last next_number v x j (omega arith) h (λ f. d (sym f));
    nexts = λ x a b. numbered-apart backed v number place x next_number (omega arith) a
        ∙ cell_apart linked v back_number x next_number o.last (omega arith) (omega arith) a
        ∙ link_apart w o.last next_number v x next_number (omega arith) (omega arith) (last_off x b);
    backs = λ x a b. numbered-apart backed v number place x back_number (omega arith) a
        ∙ cell_apart linked v back_number x back_number o.last (omega arith) (omega arith) a
        ∙ link-other w o.last next_number v x back_number (omega arith) (omega arith) (λ e. omega (arith, e));
    lines = lines_more w o v number place k.marks k.lines new_line_lem;
    backed = backed-more w o v number place k.marks k.lines k.backs new_line_lem;
    from = all_append (λ (x : ℕ). one_of (eqb x) (v ∷ k.marks) ≡ true) k.marks (v ∷ [])
        (all_map (λ (x : ℕ). one_of (eqb x) k.marks ≡ true) (λ (x : ℕ). one_of (eqb x) (v ∷ k.marks) ≡ true) k.marks (λ x e. rw e (or-true (eqb x v))) (all_one k.marks))
        (rw (eq-eqb v v refl), tt);
    new = one_of-append (eqb v) k.marks (v ∷ []) ∙ rw (eq-eqb v v refl) (or-true (one_of (eqb v) k.marks));
    old = λ x d e. one_of-append (eqb x) k.marks (v ∷ []) ∙ rw e;
  }

  pub came-line : Came g src w rs n cs k.ds k.marks v number place (with_line w o v number place) (longer o v) (ls ++ new_line g src rs v number place ∷ [])
  came-line =
      known-changed g src w o rs n cs ls k v number place u.row u.even p after (longer o v) (k.marks ++ v ∷ []) line-changed (ls ++ new_line g src rs v number place ∷ [])
      (ap (λ (ms : List OrderLine). ms ++ new_line g src rs v number place ∷ []) (k.are ∙ lines_same g src w o rs n cs ls k v number place u.row u.even p after (longer o v) (k.marks ++ v ∷ []) line-changed k.marks unlisted-others)
      ∙ ap (λ (m : OrderLine). map (line_at g src rs after) k.marks ++ m ∷ []) (line-new g src w o rs n cs ls k v number place u.row u.even p after (longer o v) (k.marks ++ v ∷ []) line-changed)
      ∙ sym (map-append (line_at g src rs after) k.marks (v ∷ [])))
