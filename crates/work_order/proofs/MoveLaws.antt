-- A line that leaves the list, and one that comes to stand after another: what the list is then.
use Rattle.std.specs.Prelude.{if◌then◌else◌}
use mathlib.Core.Path.{◌≡◌, refl, sym, ap, ◌∙◌, subst}
use mathlib.Core.Bool.{true, false, false≢true}
use mathlib.Core.List.{List, [], ◌∷◌}
use Prim.Native.Nat.{ℕ, suc, ◌+◌, ◌-◌, ◌*◌, ◌/◌, ◌≤◌, ◌<◌}
use native.Mathlib.Omega.{arith}
use lib.ListN.{length, set, length-set}
use lib.Dec.{eqb}
use borrow.Author.Tests.{eq-eqb, ne_eqb, eqb-true}
use Rattle.base_lists.proofs.Bools.{by, cond-true, cond-false, cond_both}
use Rattle.base_lists.proofs.Lists.{All}
use Rattle.rules.specs.Text.{one_of}
use Rattle.work_rows.specs.Cells.{cell_at, cell}
use Rattle.work_rows.proofs.CellLaws.{Apart, cell-told, cell_other, cell_apart}
use Rattle.work_order.specs.declared.Order.{Order}
use Rattle.work_order.specs.Links.{next_number, back_number, Row, Linked, ends, goes, Backed, begins, comes, Spread, none, more, Lines, linked_to, numbered, Reached, longer, Among, Between, unlinked, shorter, linked_between, with_line_after, longer_after}
use Rattle.work_order.proofs.ListLaws.{row_kept, all_map, linked-kept, backed-kept, numbered-lines, numbered-backed, last_from, last-from, link-length, link-told, link-other, link_apart}

-- ## Marks of a list

-- the first mark, 0 for none
unfoldable pub head_of : List ℕ → ℕ
head_of [] = 0
head_of (v ∷ vs) = v

-- the marks without v
unfoldable pub without : ℕ → List ℕ → List ℕ
without v [] = []
without v (u ∷ us) =
    let r : List ℕ = without v us in
    if eqb v u then us else u ∷ r

-- the marks with v directly after a
unfoldable pub behind_mark : ℕ → ℕ → List ℕ → List ℕ
behind_mark a v [] = []
behind_mark a v (u ∷ us) =
    let r : List ℕ = behind_mark a v us in
    if eqb a u then u ∷ v ∷ us else u ∷ r

-- a mark of another row than that of q, if there is one
abbrev Off : ℕ → ℕ → Type 0
Off q u = (q ≡ 0 → ⊥) → Apart q u

-- what all of a list have, each of it has
pub one_has : (P : ℕ → Type 0) (v : ℕ) (vs : List ℕ) → All P vs → one_of (eqb v) vs ≡ true → P v
unfolding one_of
one_has P v [] a h = absurd (false≢true h)
one_has P v (u ∷ us) a h = by (eqb v u) (λ t. subst P (sym (eqb-true v u t)) a.0) (λ t. one_has P v us a.1 (rw t at h))

pub linked-rows : (w : List ℕ) (p : ℕ) (vs : List ℕ) → Linked w p vs → All (Row w) vs
linked-rows w p [] ends = tt
linked-rows w p (v ∷ vs) (goes r n) = (r, linked-rows w (cell w v next_number) vs n)

linked-head : (w : List ℕ) (p : ℕ) (vs : List ℕ) → Linked w p vs → p ≡ head_of vs
unfolding head_of
linked-head w p [] ends = refl
linked-head w p (v ∷ vs) (goes r n) = refl

head-has : (w : List ℕ) (P : ℕ → Type 0) (p : ℕ) (vs : List ℕ) → Linked w p vs → All P vs → (p ≡ 0 → ⊥) → P p
head-has w P p [] ends a z = absurd (z refl)
head-has w P p (v ∷ vs) (goes r n) a z = a.0

-- the next of a mark, if there is one, is of the list
pub next-has : (w : List ℕ) (P : ℕ → Type 0) (p : ℕ) (vs : List ℕ) (v : ℕ) → Linked w p vs → All P vs → one_of (eqb v) vs ≡ true
    → (cell w v next_number ≡ 0 → ⊥) → P (cell w v next_number)
unfolding one_of
next-has w P p [] v ends a h z = absurd (false≢true h)
next-has w P p (u ∷ us) v (goes r n) a h z =
    by (eqb v u)
    (λ t. head-has w P (cell w v next_number) us (subst (λ (q : ℕ). Linked w (cell w q next_number) us) (sym (eqb-true v u t)) n) a.1 z)
    (λ t. next-has w P (cell w u next_number) us v n a.1 (rw t at h) z)

-- the one before a mark is of the list, or it is the one before the list
pub back-has : (w : List ℕ) (P : ℕ → Type 0) (p : ℕ) (vs : List ℕ) (v : ℕ) → Backed w p vs → P p → All P vs → one_of (eqb v) vs ≡ true → P (cell w v back_number)
unfolding one_of
back-has w P p [] v begins h a o = absurd (false≢true o)
back-has w P p (u ∷ us) v (comes b n) h a o =
    by (eqb v u)
    (λ t. subst P (sym (ap (λ (q : ℕ). cell w q back_number) (eqb-true v u t) ∙ b)) h)
    (λ t. back-has w P u us v n a.0 a.1 (rw t at o))

-- each of a list is of it
all-self : (us vs : List ℕ) → ((u : ℕ) → one_of (eqb u) us ≡ true → one_of (eqb u) vs ≡ true) → All (λ (u : ℕ). one_of (eqb u) vs ≡ true) us
unfolding one_of
all-self [] vs h = tt
all-self (u ∷ us) vs h = (h u (rw (eq-eqb u u refl)), all-self us vs (λ t e. h t (rw e (mathlib.Core.Bool.or-true (eqb t u)))))

pub all_one : (vs : List ℕ) → All (λ (u : ℕ). one_of (eqb u) vs ≡ true) vs
all_one vs = all-self vs vs (λ u e. e)

pub without_all_lem : (P : ℕ → Type 0) (v : ℕ) (vs : List ℕ) → All P vs → All P (without v vs)
unfolding without
without_all_lem P v [] a = tt
without_all_lem P v (u ∷ us) a = cond_both (All P) (eqb v u) a.1 (a.0, without_all_lem P v us a.1)

pub without-spread : (v : ℕ) (vs : List ℕ) → Spread vs → Spread (without v vs)
unfolding without
without-spread v [] none = none
without-spread v (u ∷ us) (more a s) = cond_both Spread (eqb v u) s (more (without_all_lem (Apart u) v us a) (without-spread v us s))

-- those that are left are of other rows
pub without-apart : (v : ℕ) (vs : List ℕ) → Spread vs → one_of (eqb v) vs ≡ true → All (Apart v) (without v vs)
unfolding without one_of
without-apart v [] none h = tt
without-apart v (u ∷ us) (more a s) h =
    by (eqb v u)
    (λ t. rw t (subst (λ (q : ℕ). All (Apart q) us) (sym (eqb-true v u t)) a))
    (λ t. rw t ((λ e. one_has (Apart u) v us a (rw t at h) (sym e)), without-apart v us s (rw t at h)))

pub without-length : (v : ℕ) (vs : List ℕ) → one_of (eqb v) vs ≡ true → suc (length (without v vs)) ≡ length vs
unfolding without one_of
without-length v [] h = absurd (false≢true h)
without-length v (u ∷ us) h = by (eqb v u) (λ t. rw t) (λ t. rw t (ap suc (without-length v us (rw t at h))))

-- another mark stays
pub without-one : (v u : ℕ) (vs : List ℕ) → (u ≡ v → ⊥) → one_of (eqb u) (without v vs) ≡ one_of (eqb u) vs
unfolding without one_of
without-one v u [] n = refl
without-one v u (t ∷ ts) n =
    by (eqb v t)
    (λ e. rw (e, ne_eqb u t (λ f. n (f ∙ sym (eqb-true v t e)))))
    (λ e. rw (e, without-one v u ts n))

pub behind-all : (P : ℕ → Type 0) (a v : ℕ) (vs : List ℕ) → All P vs → P v → All P (behind_mark a v vs)
unfolding behind_mark
behind-all P a v [] k h = tt
behind-all P a v (u ∷ us) k h = cond_both (All P) (eqb a u) (k.0, (h, k.1)) (k.0, behind-all P a v us k.1 h)

pub behind-spread : (a v : ℕ) (vs : List ℕ) → Spread vs → All (Apart v) vs → Spread (behind_mark a v vs)
unfolding behind_mark
behind-spread a v [] none k = none
behind-spread a v (u ∷ us) (more b s) k =
    cond_both Spread (eqb a u) (more ((λ e. k.0 (sym e)), b) (more k.1 s)) (more (behind-all (Apart u) a v us b (λ e. k.0 (sym e))) (behind-spread a v us s k.1))

pub behind-length : (a v : ℕ) (vs : List ℕ) → one_of (eqb a) vs ≡ true → length (behind_mark a v vs) ≡ suc (length vs)
unfolding behind_mark one_of
behind-length a v [] h = absurd (false≢true h)
behind-length a v (u ∷ us) h = by (eqb a u) (λ t. rw t) (λ t. rw t (ap suc (behind-length a v us (rw t at h))))

-- v is of the list
pub behind-new : (a v : ℕ) (vs : List ℕ) → one_of (eqb a) vs ≡ true → one_of (eqb v) (behind_mark a v vs) ≡ true
unfolding behind_mark one_of
behind-new a v [] h = absurd (false≢true h)
behind-new a v (u ∷ us) h =
    by (eqb a u)
    (λ t. rw (t, eq-eqb v v refl) (mathlib.Core.Bool.or-true (eqb v u)))
    (λ t. rw (t, behind-new a v us (rw t at h)) (mathlib.Core.Bool.or-true (eqb v u)))

-- and others are that were
pub behind-one : (a v u : ℕ) (vs : List ℕ) → (u ≡ v → ⊥) → one_of (eqb u) (behind_mark a v vs) ≡ one_of (eqb u) vs
unfolding behind_mark one_of
behind-one a v u [] n = refl
behind-one a v u (t ∷ ts) n =
    by (eqb a t)
    (λ e. rw (e, ne_eqb u v n))
    (λ e. rw (e, behind-one a v u ts n))

-- ## A line that leaves

module _ (w : List ℕ) (v : ℕ) where
  abbrev b : ℕ
  b = cell w v back_number

  abbrev x : ℕ
  x = cell w v next_number

  abbrev out : List ℕ
  out = unlinked w v

  abbrev half : List ℕ
  half = linked_to w b next_number x

  pub out-length : length (unlinked w v) ≡ length w
  unfolding unlinked
  out-length = link-length half x back_number b ∙ link-length w b next_number x

  -- numbers that are no links
  pub out-else : (u j : ℕ) → j < 5 → (j ≡ next_number → ⊥) → (j ≡ back_number → ⊥) → cell (unlinked w v) u j ≡ cell w u j
  unfolding unlinked
  out-else u j h m n =
      link-other half x back_number b u j (omega arith) h (λ e. n (sym e)) ∙ link-other w b next_number x u j (omega arith) h (λ e. m (sym e))

  -- numbers of rows that are not its neighbours'
  pub out-next : (u : ℕ) → ((cell w v back_number ≡ 0 → ⊥) → Apart (cell w v back_number) u) → cell (unlinked w v) u next_number ≡ cell w u next_number
  unfolding unlinked
  out-next u a = link-other half x back_number b u next_number (omega arith) (omega arith) (λ e. omega (arith, e)) ∙ link_apart w b next_number x u next_number (omega arith) (omega arith) a

  pub out-back : (u : ℕ) → ((cell w v next_number ≡ 0 → ⊥) → Apart (cell w v next_number) u) → cell (unlinked w v) u back_number ≡ cell w u back_number
  unfolding unlinked
  out-back u a = link_apart half x back_number b u back_number (omega arith) (omega arith) a ∙ link-other w b next_number x u back_number (omega arith) (omega arith) (λ e. omega (arith, e))

  -- its neighbours are linked
  next-told : (b ≡ 0 → ⊥) → 8 * (b / 16) + 8 ≤ length w → cell out b next_number ≡ x
  unfolding unlinked
  next-told n i = link-other half x back_number b b next_number (omega arith) (omega arith) (λ e. omega (arith, e)) ∙ link-told w b next_number x (omega arith) n i

  back-told : (x ≡ 0 → ⊥) → 8 * (x / 16) + 8 ≤ length w → cell out x back_number ≡ b
  unfolding unlinked
  back-told n i = let l = link-length w b next_number x in link-told half x back_number b (omega arith) n (omega (arith, l, i))

  -- the link of the one right before it, or of another
  next-out : (u p : ℕ) (us : List ℕ) → Row w u → cell w u next_number ≡ p → Linked w p us → Backed w u us → All (Apart u) us → one_of (eqb v) us ≡ true
      → cell out u next_number ≡ head_of (without v us)
  unfolding without head_of one_of
  next-out u p [] r m n k a h = absurd (false≢true h)
  next-out u p (t ∷ ts) r m (goes s n) (comes c k) a h =
      by (eqb v t)
      (λ e. let f = eqb-true v t e in
      let y : b ≡ u = ap (λ (q : ℕ). cell w q back_number) f ∙ c in
      let z : x ≡ head_of ts = ap (λ (q : ℕ). cell w q next_number) f ∙ linked-head w (cell w t next_number) ts n in
      rw e
      (subst (λ (q : ℕ). cell out q next_number ≡ x) y
      (next-told (λ g. let i = r.some in omega (arith, g, i, y)) (subst (λ (q : ℕ). 8 * (q / 16) + 8 ≤ length w) (sym y) r.inside)) ∙ z))
      (λ e. let off = back-has w (Apart u) t ts v k a.0 a.1 (rw e at h) in
      rw e (out-next u (λ _ g. off (sym g)) ∙ m))

  out-linked : (q p : ℕ) (vs : List ℕ) → Linked w p vs → Backed w q vs → Spread vs → All (Off q) vs → one_of (eqb v) vs ≡ true
      → Linked out (head_of (without v vs)) (without v vs)
  unfolding without head_of one_of
  out-linked q p [] n k s a h = absurd (false≢true h)
  out-linked q p (u ∷ us) (goes r n) (comes c k) (more d s) a h =
      by (eqb v u)
      (λ e. let f = eqb-true v u e in
      let y : b ≡ q = ap (λ (i : ℕ). cell w i back_number) f ∙ c in
      rw e
      (subst (λ (i : ℕ). Linked out i us) (linked-head w (cell w u next_number) us n)
      (linked-kept w out (cell w u next_number) us out-length
      (all_map (Off q) (λ (i : ℕ). cell out i next_number ≡ cell w i next_number) us
      (λ i g. out-next i (λ z m. g (λ j. z (y ∙ j)) (ap (λ (l : ℕ). l / 16) (sym y) ∙ m))) a.1) n)))
      (λ e. rw e
      (goes (row_kept w out u out-length r)
      (subst (λ (i : ℕ). Linked out i (without v us)) (sym (next-out u (cell w u next_number) us r refl n k d (rw e at h)))
      (out-linked u (cell w u next_number) us n k s (all_map (Apart u) (Off u) us (λ i g z. g) d) (rw e at h)))))

  out-backed : (q p : ℕ) (vs : List ℕ) → Linked w p vs → Backed w q vs → Spread vs → one_of (eqb v) vs ≡ true → Backed out q (without v vs)
  unfolding without one_of
  out-backed q p [] n k s h = absurd (false≢true h)
  out-backed q p (u ∷ us) (goes r n) (comes c k) (more d s) h =
      by (eqb v u)
      (λ e. let f = eqb-true v u e in
      rw e (after (ap (λ (i : ℕ). cell w i back_number) f ∙ c) (cell w u next_number) us (ap (λ (i : ℕ). cell w i next_number) f) n k s))
      (λ e. let m : one_of (eqb v) us ≡ true = rw e at h in
      rw e (comes (out-back u (λ z g. next-has w (Apart u) (cell w u next_number) us v n d m z (sym g)) ∙ c) (out-backed u (cell w u next_number) us n k s m)))
    where
      after : b ≡ q → (p : ℕ) (ts : List ℕ) → x ≡ p → Linked w p ts → Backed w u ts → Spread ts → Backed out q ts
      after y p [] m n k s = begins
      after y p (t ∷ ts) m (goes i n) (comes j k) (more l s) =
          comes (subst (λ (z : ℕ). cell out z back_number ≡ b) m (back-told (λ z. let o = i.some in omega (arith, z, m, o)) (subst (λ (z : ℕ). 8 * (z / 16) + 8 ≤ length w) (sym m) i.inside)) ∙ y)
          (backed-kept w out t ts (all_map (Apart t) (λ (z : ℕ). cell out z back_number ≡ cell w z back_number) ts (λ z g. out-back z (λ _ o. g (ap (λ (a : ℕ). a / 16) (sym m) ∙ o))) l) k)

  out_first : (p : ℕ) (vs : List ℕ) → Linked w p vs → Backed w 0 vs → one_of (eqb v) vs ≡ true → head_of (without v vs) ≡ (if eqb b 0 then x else p)
  unfolding without head_of one_of
  out_first p [] n k h = absurd (false≢true h)
  out_first p (u ∷ us) (goes r n) (comes c k) h =
      by (eqb v u)
      (λ e. let f = eqb-true v u e in
      rw (e, eq-eqb b 0 (ap (λ (i : ℕ). cell w i back_number) f ∙ c)) (sym (ap (λ (i : ℕ). cell w i next_number) f ∙ linked-head w (cell w u next_number) us n)))
      (λ e. let z : b ≡ 0 → ⊥ = back-has w (λ (i : ℕ). i ≡ 0 → ⊥) u us v k (some u r)
      (all_map (Row w) (λ (i : ℕ). i ≡ 0 → ⊥) us some (linked-rows w (cell w u next_number) us n)) (rw e at h) in
      rw (e, ne_eqb b 0 z))
    where
      some : (i : ℕ) → Row w i → i ≡ 0 → ⊥
      some i r z = let s = r.some in omega (arith, s, z)

  out-last : (q p : ℕ) (vs : List ℕ) → Linked w p vs → Backed w q vs → one_of (eqb v) vs ≡ true
      → last_from q (without v vs) ≡ (if eqb x 0 then b else last_from q vs)
  unfolding without last_from one_of
  out-last q p [] n k h = absurd (false≢true h)
  out-last q p (u ∷ us) (goes r n) (comes c k) h =
      by (eqb v u)
      (λ e. let f = eqb-true v u e in
      rw e (ends_at (cell w u next_number) us (ap (λ (i : ℕ). cell w i back_number) f ∙ c) (ap (λ (i : ℕ). cell w i next_number) f) n))
      (λ e. rw e (out-last u (cell w u next_number) us n k (rw e at h)))
    where
      ends_at : (p : ℕ) (ts : List ℕ) → b ≡ q → x ≡ p → Linked w p ts → last_from q ts ≡ (if eqb x 0 then b else last_from u ts)
      ends_at p [] y m ends = sym (cond-true b u (eq-eqb x 0 m) ∙ y)
      ends_at p (t ∷ ts) y m (goes i n) = sym (cond-false b (last_from u (t ∷ ts)) (ne_eqb x 0 (λ z. let o = i.some in omega (arith, z, m, o))))

  -- the list without its line
  pub lines-out : (o : Order) (vs : List ℕ) → Lines w o vs → Backed w 0 vs → one_of (eqb v) vs ≡ true → Lines (unlinked w v) (shorter w o v) (without v vs)
  lines-out o vs l k h = record {
    linked = subst (λ (i : ℕ). Linked (unlinked w v) i (without v vs)) (out_first o.first vs l.linked k h)
        (out-linked 0 o.first vs l.linked k l.spread (all_map (Row w) (Off 0) vs (λ i r z. absurd (z refl)) (linked-rows w o.first vs l.linked)) h);
    spread = without-spread v vs l.spread;
    last = sym (last-from (without v vs) ∙ out-last 0 o.first vs l.linked k h ∙ ap (λ (i : ℕ). if eqb x 0 then b else i) (sym (l.last ∙ last-from vs)));
    count = let c = l.count in let m = without-length v vs h in omega (arith, c, m);
  }

  pub backed-out : (o : Order) (vs : List ℕ) → Lines w o vs → Backed w 0 vs → one_of (eqb v) vs ≡ true → Backed (unlinked w v) 0 (without v vs)
  backed-out o vs l k h = out-backed 0 o.first vs l.linked k l.spread h

-- ## A line that comes to stand after another

module _ (w : List ℕ) (a v : ℕ) (r : Row w a) (i : Row w v) (d : Apart v a) where
  abbrev n : ℕ
  n = cell w a next_number

  abbrev w₁ : List ℕ
  w₁ = linked_to w n back_number v

  abbrev w₂ : List ℕ
  w₂ = set w₁ (cell_at a next_number) v

  abbrev w₃ : List ℕ
  w₃ = set w₂ (cell_at v next_number) n

  abbrev put : List ℕ
  put = linked_between w a v n

  l₁ : length w₁ ≡ length w
  l₁ = link-length w n back_number v

  l₂ : length w₂ ≡ length w
  l₂ = length-set w₁ (cell_at a next_number) v ∙ l₁

  l₃ : length w₃ ≡ length w
  l₃ = length-set w₂ (cell_at v next_number) n ∙ l₂

  pub put-length : length (linked_between w a v (cell w a next_number)) ≡ length w
  unfolding linked_between
  put-length = length-set w₃ (cell_at v back_number) a ∙ l₃

  -- the links that are known
  put_a : cell put a next_number ≡ v
  unfolding linked_between
  put_a =
      cell_other w₃ v back_number a next_number a (omega arith) (omega arith) (λ e. omega (arith, e))
      ∙ cell_apart w₂ v next_number a next_number n (omega arith) (omega arith) d
      ∙ cell-told w₁ a next_number v (omega arith) (let s = r.inside in let l = l₁ in omega (arith, s, l))

  put_next : cell put v next_number ≡ n
  unfolding linked_between
  put_next =
      cell_other w₃ v back_number v next_number a (omega arith) (omega arith) (λ e. omega (arith, e))
      ∙ cell-told w₂ v next_number n (omega arith) (let s = i.inside in let l = l₂ in omega (arith, s, l))

  put_back : cell put v back_number ≡ a
  unfolding linked_between
  put_back = cell-told w₃ v back_number a (omega arith) (let s = i.inside in let l = l₃ in omega (arith, s, l))

  put-told : (n ≡ 0 → ⊥) → 8 * (n / 16) + 8 ≤ length w → Apart v n → cell put n back_number ≡ v
  unfolding linked_between
  put-told z s f =
      cell_apart w₃ v back_number n back_number a (omega arith) (omega arith) f
      ∙ cell_other w₂ v next_number n back_number n (omega arith) (omega arith) (λ e. omega (arith, e))
      ∙ cell_other w₁ a next_number n back_number v (omega arith) (omega arith) (λ e. omega (arith, e))
      ∙ link-told w n back_number v (omega arith) z s

  -- the links of other rows
  pub next-kept : (u : ℕ) → Apart a u → Apart v u → cell (linked_between w a v (cell w a next_number)) u next_number ≡ cell w u next_number
  unfolding linked_between
  next-kept u e f =
      cell_other w₃ v back_number u next_number a (omega arith) (omega arith) (λ e. omega (arith, e))
      ∙ cell_apart w₂ v next_number u next_number n (omega arith) (omega arith) f
      ∙ cell_apart w₁ a next_number u next_number v (omega arith) (omega arith) e
      ∙ link-other w n back_number v u next_number (omega arith) (omega arith) (λ e. omega (arith, e))

  pub back-kept : (u : ℕ) → ((cell w a next_number ≡ 0 → ⊥) → Apart (cell w a next_number) u) → Apart v u
      → cell (linked_between w a v (cell w a next_number)) u back_number ≡ cell w u back_number
  unfolding linked_between
  back-kept u e f =
      cell_apart w₃ v back_number u back_number a (omega arith) (omega arith) f
      ∙ cell_other w₂ v next_number u back_number n (omega arith) (omega arith) (λ e. omega (arith, e))
      ∙ cell_other w₁ a next_number u back_number v (omega arith) (omega arith) (λ e. omega (arith, e))
      ∙ link_apart w n back_number v u back_number (omega arith) (omega arith) e

  -- the numbers of a row that are no links, but for those of v
  pub put-else : (u j : ℕ) → j < 5 → (j ≡ next_number → ⊥) → (j ≡ back_number → ⊥) → cell (linked_between w a v (cell w a next_number)) u j ≡ cell w u j
  unfolding linked_between
  put-else u j h e f =
      cell_other w₃ v back_number u j a (omega arith) h (λ y. f (sym y))
      ∙ cell_other w₂ v next_number u j n (omega arith) h (λ y. e (sym y))
      ∙ cell_other w₁ a next_number u j v (omega arith) h (λ y. e (sym y))
      ∙ link-other w n back_number v u j (omega arith) h (λ y. f (sym y))

  all_both : (P Q R : ℕ → Type 0) (us : List ℕ) → ((u : ℕ) → P u → Q u → R u) → All P us → All Q us → All R us
  all_both P Q R [] h x y = tt
  all_both P Q R (u ∷ us) h x y = (h u x.0 y.0, all_both P Q R us h x.1 y.1)

  put_linked : (p : ℕ) (us : List ℕ) → Linked w p us → Spread us → All (Apart v) us → one_of (eqb a) us ≡ true → Linked put p (behind_mark a v us)
  unfolding behind_mark one_of
  put_linked p [] k s f h = absurd (false≢true h)
  put_linked p (u ∷ us) (goes j k) (more b s) f h =
      by (eqb a u)
      (λ e. let y = eqb-true a u e in
      rw e
      (goes (row_kept w put u put-length j)
      (subst (λ (q : ℕ). Linked put q (v ∷ us)) (sym (ap (λ (q : ℕ). cell put q next_number) (sym y) ∙ put_a))
      (goes (row_kept w put v put-length i)
      (subst (λ (q : ℕ). Linked put q us) (sym (put_next ∙ ap (λ (q : ℕ). cell w q next_number) y))
      (linked-kept w put (cell w u next_number) us put-length
      (all_both (Apart u) (Apart v) (λ (t : ℕ). cell put t next_number ≡ cell w t next_number) us (λ t x z. next-kept t (subst (λ (q : ℕ). Apart q t) (sym y) x) z) b f.1) k))))))
      (λ e. let m : one_of (eqb a) us ≡ true = rw e at h in
      rw e
      (goes (row_kept w put u put-length j)
      (subst (λ (q : ℕ). Linked put q (behind_mark a v us)) (sym (next-kept u (λ z. one_has (Apart u) a us b m (sym z)) f.0))
      (put_linked (cell w u next_number) us k s f.1 m))))

  put-backed : (q p : ℕ) (us : List ℕ) → Linked w p us → Backed w q us → Spread us → All (Apart v) us → one_of (eqb a) us ≡ true → Backed put q (behind_mark a v us)
  unfolding behind_mark one_of
  put-backed q p [] k c s f h = absurd (false≢true h)
  put-backed q p (u ∷ us) (goes j k) (comes x c) (more b s) f h =
      by (eqb a u)
      (λ e. let y = eqb-true a u e in
      let m : n ≡ cell w u next_number = ap (λ (z : ℕ). cell w z next_number) y in
      rw e
      (comes (back-kept u (λ z o. after-has (Apart u) (cell w u next_number) us m k b z (sym o)) f.0 ∙ x)
      (comes (put_back ∙ y)
      (rest (cell w u next_number) us m k c s f.1))))
      (λ e. let m : one_of (eqb a) us ≡ true = rw e at h in
      rw e
      (comes (back-kept u (λ z o. next-has w (Apart u) (cell w u next_number) us a k b m z (sym o)) f.0 ∙ x)
      (put-backed u (cell w u next_number) us k c s f.1 m)))
    where
      after-has : (P : ℕ → Type 0) (p : ℕ) (ts : List ℕ) → n ≡ p → Linked w p ts → All P ts → (n ≡ 0 → ⊥) → P n
      after-has P p ts m k x z = subst P (sym m) (head-has w P p ts k x (λ y. z (m ∙ y)))

      rest : (p : ℕ) (ts : List ℕ) → n ≡ p → Linked w p ts → Backed w u ts → Spread ts → All (Apart v) ts → Backed put v ts
      rest p [] m k c s f = begins
      rest p (t ∷ ts) m (goes j k) (comes x c) (more b s) f =
          comes (subst (λ (z : ℕ). cell put z back_number ≡ v) m (put-told (λ z. let o = j.some in omega (arith, z, m, o)) (subst (λ (z : ℕ). 8 * (z / 16) + 8 ≤ length w) (sym m) j.inside) (subst (Apart v) (sym m) f.0)))
          (backed-kept w put t ts
          (all_both (Apart t) (Apart v) (λ (z : ℕ). cell put z back_number ≡ cell w z back_number) ts (λ z y o. back-kept z (λ _ g. y (ap (λ (l : ℕ). l / 16) (sym m) ∙ g)) o) b f.1) c)

  put_last : (q p : ℕ) (us : List ℕ) → Linked w p us → one_of (eqb a) us ≡ true → last_from q (behind_mark a v us) ≡ (if eqb n 0 then v else last_from q us)
  unfolding behind_mark last_from one_of
  put_last q p [] k h = absurd (false≢true h)
  put_last q p (u ∷ us) (goes j k) h =
      by (eqb a u)
      (λ e. rw e (ends_at (cell w u next_number) us (ap (λ (z : ℕ). cell w z next_number) (eqb-true a u e)) k))
      (λ e. rw e (put_last u (cell w u next_number) us k (rw e at h)))
    where
      ends_at : (p : ℕ) (ts : List ℕ) → n ≡ p → Linked w p ts → last_from v ts ≡ (if eqb n 0 then v else last_from u ts)
      ends_at p [] m ends = sym (cond-true v u (eq-eqb n 0 m))
      ends_at p (t ∷ ts) m (goes j k) = sym (cond-false v (last_from u (t ∷ ts)) (ne_eqb n 0 (λ z. let o = j.some in omega (arith, z, m, o))))

  -- the list with its line
  pub lines-put : (o : Order) (number place : ℕ) (us : List ℕ) → Lines w o us → All (Apart v) us → one_of (eqb a) us ≡ true
      → Lines (with_line_after w a v number place) (longer_after w o a v) (behind_mark a v us)
  unfolding with_line_after
  lines-put o number place us l f h =
      numbered-lines (linked_between w a v n) v number place (longer_after w o a v) (behind_mark a v us)
      (record {
        linked = put_linked o.first us l.linked l.spread f h;
        spread = behind-spread a v us l.spread f;
        last = sym (last-from (behind_mark a v us) ∙ put_last 0 o.first us l.linked h ∙ ap (λ (z : ℕ). if eqb n 0 then v else z) (sym (l.last ∙ last-from us)));
        count = let c = l.count in let m = behind-length a v us h in omega (arith, c, m);
      })

  pub backed-put : (o : Order) (number place : ℕ) (us : List ℕ) → Lines w o us → Backed w 0 us → All (Apart v) us → one_of (eqb a) us ≡ true
      → Backed (with_line_after w a v number place) 0 (behind_mark a v us)
  unfolding with_line_after
  backed-put o number place us l k f h =
      numbered-backed (linked_between w a v n) v number place 0 (behind_mark a v us) (put-backed 0 o.first us l.linked k l.spread f h)

-- ## The functions

module _ (w : List ℕ) (o : Order) (v : ℕ) (a : Among w o v) where
  pub among-row : Row w v
  among-row = one_has (Row w) v a.marks (linked-rows w o.first a.marks a.lines.linked) a.one

  pub among-inside : 8 * (v / 16) + 8 ≤ length w
  among-inside = among-row.inside

  pub among-some : 1 ≤ o.count
  among-some = let c = a.lines.count in let l = without-length v a.marks a.one in omega (arith, c, l)

  -- its neighbours' rows
  pub among-back : (l : ℕ) → l ≡ cell w v back_number → Reached w l
  among-back l e =
      subst (Reached w) (sym e)
      (back-has w (Reached w) 0 a.marks v a.backed (record { inside = λ z. absurd (z refl) })
      (all_map (Row w) (Reached w) a.marks (λ u r. record { inside = λ z. r.inside }) (linked-rows w o.first a.marks a.lines.linked)) a.one)

  pub among_next : (w₁ : List ℕ) (l : ℕ) → length w₁ ≡ length w → l ≡ cell w v next_number → Reached w₁ l
  among_next w₁ l k e = record {
    inside = λ z.
        let r = next-has w (Row w) o.first a.marks v a.lines.linked (linked-rows w o.first a.marks a.lines.linked) a.one (λ y. z (e ∙ y)) in
        let i = r.inside in omega (arith, k, e, i);
  }

pub shorter-is : (w : List ℕ) (o : Order) (v next back first last : ℕ) → next ≡ cell w v next_number → back ≡ cell w v back_number
    → first ≡ (if eqb back 0 then next else o.first) → last ≡ (if eqb next 0 then back else o.last)
    → record { first = first; last = last; count = o.count - 1 } ≡ shorter w o v
shorter-is w o v next back first last e f g h = rw (g, h, e, f)

pub unlinked-is : (w w₁ w₂ : List ℕ) (v next back : ℕ) → next ≡ cell w v next_number → back ≡ cell w v back_number
    → w₁ ≡ linked_to w back next_number next → w₂ ≡ linked_to w₁ next back_number back → w₂ ≡ unlinked w v
unfolding unlinked
unlinked-is w w₁ w₂ v next back e f g h = rw (h, g, e, f)

pub longer-is : (w : List ℕ) (o : Order) (a v next last : ℕ) → next ≡ cell w a next_number → last ≡ (if eqb next 0 then v else o.last)
    → record { first = o.first; last = last; count = o.count + 1 } ≡ longer_after w o a v
longer-is w o a v next last e f = rw (f, e)

pub between_is : (w w₁ w₂ w₃ w₄ : List ℕ) (a v next : ℕ) → w₁ ≡ linked_to w next back_number v → w₂ ≡ set w₁ (cell_at a next_number) v
    → w₃ ≡ set w₂ (cell_at v next_number) next → w₄ ≡ set w₃ (cell_at v back_number) a → w₄ ≡ linked_between w a v next
unfolding linked_between
between_is w w₁ w₂ w₃ w₄ a v next f g h i = rw (i, h, g, f)

pub put_is : (w w₁ w₂ : List ℕ) (a v number place next : ℕ) → next ≡ cell w a next_number → w₁ ≡ linked_between w a v next → w₂ ≡ numbered w₁ v number place
    → w₂ ≡ with_line_after w a v number place
unfolding with_line_after
put_is w w₁ w₂ a v number place next e f g = rw (g, f, e)

pub between-rows : (w : List ℕ) (o : Order) (a v next : ℕ) → Among w o a → Row w v → next ≡ cell w a next_number → Between w a v next
between-rows w o a v next m r e = record { before = among-row w o a m; row = r; after = among_next w o a m w next refl e }

pub between_next : (w : List ℕ) (a v next : ℕ) → Between w a v next → Reached w next
between_next w a v next r = r.after

pub between-before : (w w₁ : List ℕ) (a v next : ℕ) → Between w a v next → length w₁ ≡ length w → 8 * (a / 16) + 8 ≤ length w₁
between-before w w₁ a v next r k = let i = r.before.inside in omega (arith, i, k)

pub between-row : (w w₁ : List ℕ) (a v next : ℕ) → Between w a v next → length w₁ ≡ length w → 8 * (v / 16) + 8 ≤ length w₁
between-row w w₁ a v next r k = let i = r.row.inside in omega (arith, i, k)

pub longer-first : (o : Order) (v first : ℕ) → first ≡ (if eqb o.first 0 then v else o.first) → record { first = first; last = v; count = o.count + 1 } ≡ longer o v
longer-first o v first e = rw e

pub none_first : (n a b : ℕ) → n ≡ 0 → a ≡ (if eqb n 0 then a else b)
none_first n a b e = sym (cond-true a b (eq-eqb n 0 e))

pub none-second : (n a b : ℕ) → (n ≡ 0 → ⊥) → b ≡ (if eqb n 0 then a else b)
none-second n a b e = sym (cond-false a b (ne_eqb n 0 e))
