-- The list of order lines: what it keeps when numbers of rows are written, and a line more.
use mathlib.Core.Path.{◌≡◌, refl, sym, ap, ◌∙◌, subst}
use mathlib.Core.List.{List, [], ◌∷◌, ◌++◌}
use Prim.Native.Nat.{ℕ, ◌+◌, ◌*◌, ◌/◌, ◌≤◌, ◌<◌}
use native.Mathlib.Omega.{arith}
use lib.ListN.{length, set, length-set, length-append}
use lib.Dec.{eqb}
use borrow.Author.Tests.{eq-eqb, ne_eqb, eqb-false}
use Rattle.base_lists.proofs.Bools.{cond-true, cond-false, cond_both, cond-by}
use Rattle.base_lists.proofs.Lists.{All}
use Rattle.work_rows.specs.Cells.{cell_at, cell}
use Rattle.work_rows.proofs.CellLaws.{Apart, cell-told, cell_other, cell_apart}
use Rattle.work_order.specs.declared.Order.{Order}
use Rattle.work_order.specs.Links.{Reached, line_number, place_number, next_number, back_number, Row, Linked, ends, goes, Backed, begins, comes, Spread, none, more, last_of, Lines, SomeLines, linked_to, numbered, with_line, longer, NewLine}

-- ## What a list keeps

pub row_kept : (w w' : List ℕ) (v : ℕ) → length w' ≡ length w → Row w v → Row w' v
row_kept w w' v l r = let i = r.inside in record { some = r.some; inside = omega (arith, l, i) }

-- what holds of every mark holds of all of a list
pub all_of : (P : ℕ → Type 0) (vs : List ℕ) → ((v : ℕ) → P v) → All P vs
all_of P [] h = tt
all_of P (v ∷ vs) h = (h v, all_of P vs h)

-- what follows for each of a list
pub all_map : (P Q : ℕ → Type 0) (vs : List ℕ) → ((v : ℕ) → P v → Q v) → All P vs → All Q vs
all_map P Q [] h a = tt
all_map P Q (v ∷ vs) h a = (h v a.0, all_map P Q vs h a.1)

-- no link of the list is written
pub linked-kept : (w w' : List ℕ) (p : ℕ) (vs : List ℕ) → length w' ≡ length w → All (λ (v : ℕ). cell w' v next_number ≡ cell w v next_number) vs
    → Linked w p vs → Linked w' p vs
linked-kept w w' p [] l e ends = ends
linked-kept w w' p (v ∷ vs) l e (goes r n) =
    goes (row_kept w w' v l r) (subst (λ (q : ℕ). Linked w' q vs) (sym e.0) (linked-kept w w' (cell w v next_number) vs l e.1 n))

-- another of the five numbers is written
pub linked-other : (w : List ℕ) (u j x p : ℕ) (vs : List ℕ) → j < 5 → (j ≡ next_number → ⊥) → Linked w p vs → Linked (set w (cell_at u j) x) p vs
linked-other w u j x p vs h n k =
    linked-kept w (set w (cell_at u j) x) p vs (length-set w (cell_at u j) x)
    (all_of (λ (v : ℕ). cell (set w (cell_at u j) x) v next_number ≡ cell w v next_number) vs (λ v. cell_other w u j v next_number x h (omega arith) n)) k

pub lines_other : (w : List ℕ) (u j x : ℕ) (o : Order) (vs : List ℕ) → j < 5 → (j ≡ next_number → ⊥) → Lines w o vs → Lines (set w (cell_at u j) x) o vs
lines_other w u j x o vs h n k =
    record { linked = linked-other w u j x o.first vs h n k.linked; spread = k.spread; last = k.last; count = k.count }

-- a line's own numbers
module _ (w : List ℕ) (v number place : ℕ) where
  abbrev counted : List ℕ
  counted = set w (cell_at v line_number) number

  pub numbered-number : 8 * (v / 16) + 8 ≤ length w → cell (numbered w v number place) v line_number ≡ number
  unfolding numbered
  numbered-number h =
      cell_other counted v place_number v line_number place (omega arith) (omega arith) (λ e. omega (arith, e)) ∙ cell-told w v line_number number (omega arith) h

  pub numbered-place : 8 * (v / 16) + 8 ≤ length w → cell (numbered w v number place) v place_number ≡ place
  unfolding numbered
  numbered-place h = let l = length-set w (cell_at v line_number) number in cell-told counted v place_number place (omega arith) (omega (arith, l, h))

  -- the other three numbers of all rows, and all numbers of other rows
  pub numbered-else : (u j : ℕ) → j < 5 → (j ≡ line_number → ⊥) → (j ≡ place_number → ⊥) → cell (numbered w v number place) u j ≡ cell w u j
  unfolding numbered
  numbered-else u j h a b = cell_other counted v place_number u j place (omega arith) h (λ e. b (sym e)) ∙ cell_other w v line_number u j number (omega arith) h (λ e. a (sym e))

  pub numbered-apart : (u j : ℕ) → j < 5 → Apart v u → cell (numbered w v number place) u j ≡ cell w u j
  unfolding numbered
  numbered-apart u j h a = cell_apart counted v place_number u j place (omega arith) h a ∙ cell_apart w v line_number u j number (omega arith) h a

pub numbered-lines : (w : List ℕ) (v number place : ℕ) (o : Order) (vs : List ℕ) → Lines w o vs → Lines (numbered w v number place) o vs
unfolding numbered
numbered-lines w v number place o vs k =
    lines_other (set w (cell_at v line_number) number) v place_number place o vs (omega arith) (λ e. omega (arith, e))
    (lines_other w v line_number number o vs (omega arith) (λ e. omega (arith, e)) k)

-- no link back of the list is written
pub backed-kept : (w w' : List ℕ) (p : ℕ) (vs : List ℕ) → All (λ (v : ℕ). cell w' v back_number ≡ cell w v back_number) vs → Backed w p vs → Backed w' p vs
backed-kept w w' p [] e begins = begins
backed-kept w w' p (v ∷ vs) e (comes b n) = comes (e.0 ∙ b) (backed-kept w w' v vs e.1 n)

pub numbered-backed : (w : List ℕ) (v number place p : ℕ) (vs : List ℕ) → Backed w p vs → Backed (numbered w v number place) p vs
unfolding numbered
numbered-backed w v number place p vs k =
    backed-kept w (numbered w v number place) p vs
    (all_of (λ (u : ℕ). cell (numbered w v number place) u back_number ≡ cell w u back_number) vs
    (λ u. cell_other (set w (cell_at v line_number) number) v place_number u back_number place (omega arith) (omega arith) (λ e. omega (arith, e))
    ∙ cell_other w v line_number u back_number number (omega arith) (omega arith) (λ e. omega (arith, e)))) k

-- ## One line more

pub all_append : (P : ℕ → Type 0) (us vs : List ℕ) → All P us → All P vs → All P (us ++ vs)
all_append P [] vs a b = b
all_append P (u ∷ us) vs a b = (a.0, all_append P us vs a.1 b)

spread-more : (v : ℕ) (vs : List ℕ) → Spread vs → All (Apart v) vs → Spread (vs ++ v ∷ [])
spread-more v [] none a = more tt none
spread-more v (u ∷ us) (more b s) a = more (all_append (Apart u) us (v ∷ []) b ((λ e. a.0 (sym e)), tt)) (spread-more v us s a.1)

last-of : (v : ℕ) (vs : List ℕ) → last_of (vs ++ v ∷ []) ≡ v
unfolding last_of
last-of v [] = refl
last-of v (u ∷ []) = refl
last-of v (u ∷ t ∷ ts) = last-of v (t ∷ ts)

-- the last mark, p for none
unfoldable pub last_from : ℕ → List ℕ → ℕ
last_from p [] = p
last_from p (v ∷ vs) = last_from v vs

-- the last of a list has what all of it have
pub last_has : (P : ℕ → Type 0) (vs : List ℕ) → All P vs → (last_of vs ≡ 0 → ⊥) → P (last_of vs)
unfolding last_of
last_has P [] a n = absurd (n refl)
last_has P (v ∷ []) a n = a.0
last_has P (v ∷ u ∷ us) a n = last_has P (u ∷ us) a.1 n

pub last-from : (vs : List ℕ) → last_of vs ≡ last_from 0 vs
unfolding last_of last_from
last-from [] = refl
last-from (v ∷ []) = refl
last-from (v ∷ u ∷ us) = last-from (u ∷ us)

-- the last of a list is of a row of its own
last_apart : (u t : ℕ) (ts : List ℕ) → All (Apart u) (t ∷ ts) → Apart (last_of (t ∷ ts)) u
unfolding last_of
last_apart u t [] a = λ e. a.0 (sym e)
last_apart u t (r ∷ rs) a = last_apart u r rs a.1

-- a link from the last of a list
linked-more : (w : List ℕ) (p u : ℕ) (us : List ℕ) (v : ℕ) → Linked w p (u ∷ us) → Spread (u ∷ us) → All (Apart v) (u ∷ us) → cell w v next_number ≡ 0
    → Row w v → Linked (set w (cell_at (last_of (u ∷ us)) next_number) v) p (u ∷ us ++ v ∷ [])
unfolding last_of
linked-more w p u [] v (goes r n) s a z h =
    let w' = set w (cell_at u next_number) v in
    let l : length w' ≡ length w = length-set w (cell_at u next_number) v in
    let e : cell w' v next_number ≡ 0 = cell_apart w u next_number v next_number v (omega arith) (omega arith) (λ x. a.0 (sym x)) ∙ z in
    let f : cell w' u next_number ≡ v = cell-told w u next_number v (omega arith) r.inside in
    goes (row_kept w w' u l r) (subst (λ (q : ℕ). Linked w' q (v ∷ [])) (sym f) (goes (row_kept w w' v l h) (subst (λ (q : ℕ). Linked w' q []) (sym e) ends)))
linked-more w p u (t ∷ ts) v (goes r n) (more b s) a z h =
    let i = last_of (t ∷ ts) in
    let w' = set w (cell_at i next_number) v in
    let l : length w' ≡ length w = length-set w (cell_at i next_number) v in
    let e : cell w' u next_number ≡ cell w u next_number = cell_apart w i next_number u next_number v (omega arith) (omega arith) (last_apart u t ts b) in
    goes (row_kept w w' u l r) (subst (λ (q : ℕ). Linked w' q (t ∷ ts ++ v ∷ [])) (sym e) (linked-more w (cell w u next_number) t ts v n s a.1 z h))

-- a list with no last line is empty
last_none : (w : List ℕ) (p : ℕ) (vs : List ℕ) → Linked w p vs → last_of vs ≡ 0 → vs ≡ []
unfolding last_of
last_none w p [] ends e = refl
last_none w p (v ∷ []) (goes r n) e = absurd (let s = r.some in omega (arith, e, s))
last_none w p (v ∷ u ∷ us) (goes r n) e = let z = last_none w (cell w v next_number) (u ∷ us) n e in absurd (let x = ap length z in omega (arith, x))

-- the last line's row
pub last_row : (w : List ℕ) (p : ℕ) (vs : List ℕ) → Linked w p vs → (last_of vs ≡ 0 → ⊥) → Row w (last_of vs)
unfolding last_of
last_row w p [] ends n = absurd (n refl)
last_row w p (v ∷ []) (goes r k) n = r
last_row w p (v ∷ u ∷ us) (goes r k) n = last_row w (cell w v next_number) (u ∷ us) k n

last-inside : (w : List ℕ) (o : Order) → SomeLines w o → (o.last ≡ 0 → ⊥) → 8 * (o.last / 16) + 8 ≤ length w
last-inside w o s z =
    let r = last_row w o.first s.marks s.lines.linked (λ x. z (s.lines.last ∙ x)) in
    subst (λ (q : ℕ). 8 * (q / 16) + 8 ≤ length w) (sym s.lines.last) r.inside

pub last-reached : (w : List ℕ) (o : Order) → SomeLines w o → Reached w o.last
last-reached w o s = record { inside = last-inside w o s }

pub reached-inside : (w : List ℕ) (l : ℕ) → Reached w l → (l ≡ 0 → ⊥) → 8 * (l / 16) + 8 ≤ length w
reached-inside w l r n = r.inside n

pub link-none : (w : List ℕ) (l j v : ℕ) → l ≡ 0 → w ≡ linked_to w l j v
unfolding linked_to
link-none w l j v e = sym (cond-true w (set w (cell_at l j) v) (eq-eqb l 0 e))

pub link-some : (w w₁ : List ℕ) (l j v : ℕ) → (l ≡ 0 → ⊥) → w₁ ≡ set w (cell_at l j) v → w₁ ≡ linked_to w l j v
unfolding linked_to
link-some w w₁ l j v n e = e ∙ sym (cond-false w (set w (cell_at l j) v) (ne_eqb l 0 n))

pub link-length : (w : List ℕ) (l j v : ℕ) → length (linked_to w l j v) ≡ length w
unfolding linked_to
link-length w l j v = cond_both (λ (x : List ℕ). length x ≡ length w) (eqb l 0) refl (length-set w (cell_at l j) v)

-- the number that a link is
pub link-told : (w : List ℕ) (l j v : ℕ) → j < 5 → (l ≡ 0 → ⊥) → 8 * (l / 16) + 8 ≤ length w → cell (linked_to w l j v) l j ≡ v
unfolding linked_to
link-told w l j v h n i = rw (ne_eqb l 0 n) (cell-told w l j v h i)

-- other numbers of all rows
pub link-other : (w : List ℕ) (l i v u j : ℕ) → i < 5 → j < 5 → (i ≡ j → ⊥) → cell (linked_to w l i v) u j ≡ cell w u j
unfolding linked_to
link-other w l i v u j g h n = cond_both (λ (x : List ℕ). cell x u j ≡ cell w u j) (eqb l 0) refl (cell_other w l i u j v g h n)

-- the numbers of another row
pub link_apart : (w : List ℕ) (l i v u j : ℕ) → i < 5 → j < 5 → ((l ≡ 0 → ⊥) → Apart l u) → cell (linked_to w l i v) u j ≡ cell w u j
unfolding linked_to
link_apart w l i v u j g h a =
    cond-by (λ (x : List ℕ). cell x u j ≡ cell w u j) (eqb l 0)
    (λ t. refl)
    (λ t. cell_apart w l i u j v g h (a (eqb-false l 0 t)))

-- a linked list with a first mark has a line, and one with none has none
first-none : (w : List ℕ) (p : ℕ) (vs : List ℕ) → Linked w p vs → p ≡ 0 → vs ≡ []
first-none w p [] ends e = refl
first-none w p (v ∷ vs) (goes r n) e = absurd (let s = r.some in omega (arith, e, s))

-- the list after a line more, before its two numbers are written
linked-lines : (w : List ℕ) (o : Order) (v : ℕ) (vs : List ℕ) → Lines w o vs → NewLine w v vs → Lines (linked_to w o.last next_number v) (longer o v) (vs ++ v ∷ [])
unfolding linked_to last_of
linked-lines w o v [] k n =
    let z : o.first ≡ 0 = nothing o.first k.linked in
    let e : linked_to w o.last next_number v ≡ w = sym (link-none w o.last next_number v k.last) in
    let f : (longer o v).first ≡ v = cond-true v o.first (eq-eqb o.first 0 z) in
    record {
      linked = subst (λ (x : List ℕ). Linked x (longer o v).first (v ∷ [])) (sym e)
          (subst (λ (q : ℕ). Linked w q (v ∷ [])) (sym f) (goes n.row (subst (λ (q : ℕ). Linked w q []) (sym n.alone) ends)));
      spread = more tt none;
      last = refl;
      count = let c = k.count in omega (arith, c);
    }
  where
    nothing : (p : ℕ) → Linked w p [] → p ≡ 0
    nothing p ends = refl
linked-lines w o v (u ∷ us) k n =
    let z : o.last ≡ 0 → ⊥ = λ e. absurd (let x = ap length (last_none w o.first (u ∷ us) k.linked (sym k.last ∙ e)) in omega (arith, x)) in
    let y : o.first ≡ 0 → ⊥ = λ e. absurd (let x = ap length (first-none w o.first (u ∷ us) k.linked e) in omega (arith, x)) in
    let e : linked_to w o.last next_number v ≡ set w (cell_at o.last next_number) v = cond-false w (set w (cell_at o.last next_number) v) (ne_eqb o.last 0 z) in
    let f : (longer o v).first ≡ o.first = cond-false v o.first (ne_eqb o.first 0 y) in
    record {
      linked = subst (λ (x : List ℕ). Linked x (longer o v).first (u ∷ us ++ v ∷ [])) (sym e)
          (subst (λ (q : ℕ). Linked (set w (cell_at o.last next_number) v) q (u ∷ us ++ v ∷ [])) (sym f)
          (subst (λ (l : ℕ). Linked (set w (cell_at l next_number) v) o.first (u ∷ us ++ v ∷ [])) (sym k.last)
          (linked-more w o.first u us v k.linked k.spread n.apart n.alone n.row)));
      spread = spread-more v (u ∷ us) k.spread n.apart;
      last = sym (last-of v (u ∷ us));
      count = let c = k.count in let d = length-append (u ∷ us) (v ∷ []) in omega (arith, c, d);
    }

-- the list after a line more
pub lines_more : (w : List ℕ) (o : Order) (v number place : ℕ) (vs : List ℕ) → Lines w o vs → NewLine w v vs
    → Lines (with_line w o v number place) (longer o v) (vs ++ v ∷ [])
unfolding with_line
lines_more w o v number place vs k n =
    numbered-lines (set (linked_to w o.last next_number v) (cell_at v back_number) o.last) v number place (longer o v) (vs ++ v ∷ [])
    (lines_other (linked_to w o.last next_number v) v back_number o.last (longer o v) (vs ++ v ∷ []) (omega arith) (λ e. omega (arith, e)) (linked-lines w o v vs k n))

-- and its links back
backed-last : (w : List ℕ) (p v : ℕ) (vs : List ℕ) → Backed w p vs → cell w v back_number ≡ last_from p vs → Backed w p (vs ++ v ∷ [])
unfolding last_from
backed-last w p v [] begins e = comes e begins
backed-last w p v (u ∷ us) (comes b n) e = comes b (backed-last w u v us n e)

pub backed-more : (w : List ℕ) (o : Order) (v number place : ℕ) (vs : List ℕ) → Lines w o vs → Backed w 0 vs → NewLine w v vs
    → Backed (with_line w o v number place) 0 (vs ++ v ∷ [])
unfolding with_line
backed-more w o v number place vs k b n =
    let w₁ = linked_to w o.last next_number v in
    let w₂ = set w₁ (cell_at v back_number) o.last in
    let l : length w₁ ≡ length w = link-length w o.last next_number v in
    let i : 8 * (v / 16) + 8 ≤ length w₁ = let r = n.row.inside in omega (arith, l, r) in
    numbered-backed w₂ v number place 0 (vs ++ v ∷ [])
    (backed-last w₂ 0 v vs
    (backed-kept w w₂ 0 vs
    (all_map (Apart v) (λ (u : ℕ). cell w₂ u back_number ≡ cell w u back_number) vs
    (λ u a. cell_apart w₁ v back_number u back_number o.last (omega arith) (omega arith) a
    ∙ link-other w o.last next_number v u back_number (omega arith) (omega arith) (λ e. omega (arith, e)))
    n.apart) b)
    (cell-told w₁ v back_number o.last (omega arith) i ∙ k.last ∙ last-from vs))

-- the area after a line more
pub with-line : (w w₁ w₂ w₃ : List ℕ) (o : Order) (v number place : ℕ) → w₁ ≡ linked_to w o.last next_number v → w₂ ≡ set w₁ (cell_at v back_number) o.last
    → w₃ ≡ numbered w₂ v number place → w₃ ≡ with_line w o v number place
unfolding with_line
with-line w w₁ w₂ w₃ o v number place e f h = rw (h, f, e)

pub give-numbers : (w w₁ w₂ : List ℕ) (v number place : ℕ) → w₁ ≡ set w (cell_at v line_number) number → w₂ ≡ set w₁ (cell_at v place_number) place
    → w₂ ≡ numbered w v number place
unfolding numbered
give-numbers w w₁ w₂ v number place e f = rw (f, e)
