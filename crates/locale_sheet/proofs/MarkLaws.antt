-- Subjects and their marks: each subject with a row has one, and each mark in the list names its own.
use Rattle.std.specs.Prelude.{None, Option, Some, ℕ}
use mathlib.Core.Path.{◌≡◌, refl, sym, ap, ◌∙◌, subst}
use mathlib.Core.Bool.{Bool, true, false, ◌&&◌, false≢true, or-true}
use mathlib.Core.List.{List}
use Prim.Native.Nat.{ℕ, ◌+◌, ◌/◌, ◌%◌, ◌≤◌, ◌<◌}
use native.Mathlib.Omega.{arith}
use lib.ListN.{length, set}
use lib.Dec.{eqb}
use borrow.Author.Tests.{eq-eqb, eqb-true, eqb-false, le-leb, lt-leb}
use Rattle.base_lists.proofs.Bools.{by, clash}
use Rattle.rules.specs.Names.{char_shaped}
use Rattle.rules.specs.State.{Subject, character, named, undefined}
use Rattle.rules.specs.OrderLines.{subject_of, same_subject}
use Rattle.rules.proofs.RankLaws.{same_subject-true, same_subject-refl}
use Rattle.text_lines.specs.declared.Signs.{Signs}
use Rattle.text_names.specs.Named.{name_left}
use Rattle.work_rows.specs.Cells.{cell_at}
use Rattle.work_rows.proofs.CellLaws.{Apart}
use Rattle.work_subjects.specs.Keys.{name_spot, subject_left, Key, item, chars, key_at}
use Rattle.work_subjects.specs.Numbers.{is_declarable, kind_of}
use Rattle.work_subjects.proofs.KeyLaws.{key_at-name, key_at-quotes}
use Rattle.work_store.specs.Store.{Decl, first, is_place, Once, above_of, Nodes, none, more, Holds, undefined_mark}
use Rattle.work_store.proofs.AreaLaws.{above-name, free-name, free-char, holds-told, holds-behind}
use Rattle.work_store.proofs.ListLaws.{nodes-keyed, once-found, found-key, found-place, place-within, place-row}
use Rattle.locale_sheet.specs.Known.{subject_at, is_row, mark_of}

-- ## Marks

-- this is the mark that is found
abbrev pub is_at : ℕ → Option ℕ → Bool
is_at u (Some v) = eqb v u
is_at u None = false

pub is_at-true : (u : ℕ) (f : Option ℕ) → is_at u f ≡ true → f ≡ Some u
is_at-true u (Some v) h = ap Some (eqb-true v u h)
is_at-true u None h = absurd (false≢true h)

pub is_at-same : (u : ℕ) (f : Option ℕ) → f ≡ Some u → is_at u f ≡ true
is_at-same u f e = ap (is_at u) e ∙ eq-eqb u u refl

-- the mark of a name's subject is found in the store
pub mark-name : (len : ℕ) (ds : List Decl) (n : List ℕ) → mark_of len ds (subject_of n) ≡ first (item (subject_of n)) ds
unfolding mark_of subject_of
mark-name len ds n = by (char_shaped n) (λ t. rw t) (λ t. rw t)

pub mark-undefined : (len : ℕ) (ds : List Decl) → mark_of len ds undefined ≡ Some (undefined_mark len)
unfolding mark_of
mark-undefined len ds = refl

-- every mark of the source is below that of UNDEFINED
pub below-undefined : (len v : ℕ) → v / 2 ≤ len → v < undefined_mark len
below-undefined len v h = omega (arith, h)

pub at-undefined : (g : Signs) (src : List ℕ) → subject_at g src (undefined_mark (length src)) ≡ undefined
unfolding subject_at
at-undefined g src = rw (le-leb (undefined_mark (length src)) (undefined_mark (length src)) (omega arith))

pub at_source : (g : Signs) (src : List ℕ) (v : ℕ) → v / 2 ≤ length src → subject_at g src v ≡ subject_left g src (name_spot (v / 2))
unfolding subject_at
at_source g src v h = rw (lt-leb (undefined_mark (length src)) v (below-undefined (length src) v h))

-- ## Rows of order lines

module _ (len : ℕ) (ds : List Decl) (u : ℕ) where
  pub row-place : is_place u ds ≡ true → u % 2 ≡ 0 → is_row len ds u ≡ true
  row-place p e = rw (p, e)

  pub row-undefined : u ≡ undefined_mark len → is_row len ds u ≡ true
  row-undefined z = rw (eq-eqb u (undefined_mark len) z) (or-true (is_place u ds && eqb (u % 2) 0))

  -- which of the two a row is
  pub row_by : {P : Type 0} → is_row len ds u ≡ true → (is_place u ds ≡ true → u % 2 ≡ 0 → P) → (u ≡ undefined_mark len → P) → P
  row_by r f g =
      by (is_place u ds)
      (λ t. by (eqb (u % 2) 0)
      (λ e. f t (eqb-true (u % 2) 0 e))
      (λ e. g (eqb-true u (undefined_mark len) (rw (t, e) at r))))
      (λ t. g (eqb-true u (undefined_mark len) (rw t at r)))

-- a row stands in the source, or right behind it
pub row_in : {key : ℕ → Key} {len : ℕ} {w : List ℕ} {n : ℕ} {ds : List Decl} → Holds key len w n ds → (u : ℕ) → is_row len ds u ≡ true → u / 16 ≤ len / 8 + 1
row_in {len = len} {ds = ds} h u r = row_by len ds u r (λ t e. let i = place-within h u t in omega (arith, i)) (λ z. omega (arith, z))

-- a mark is even where an item stands
pub item-even : (g : Signs) (src : List ℕ) (u : ℕ) (x : Subject) → key_at g src u ≡ item x → u % 2 ≡ 0
item-even g src u x k =
    by (eqb (u % 2) 0)
    (λ t. eqb-true (u % 2) 0 t)
    (λ t. absurd (item-chars x (key_at-quotes g src u (eqb-false (u % 2) 0 t)) k))
  where
    item-chars : (x : Subject) {k : Key} {xs : List ℕ} → k ≡ chars xs → k ≡ item x → ⊥
    item-chars x e f = let z : ◌≡◌ {A = ℕ} 0 1 = cc in omega (arith, z)

-- what can be declared and is no quotes is a character or a name
pub item_by : {P : Type 0} (k : Key) (x : Subject) → k ≡ item x → is_declarable k ≡ true → (kind_of k ≡ 0 → P) → (kind_of k ≡ 1 → P) → P
unfolding kind_of is_declarable
item_by k x e d f g = go x (rw e at d) (λ z. f (ap kind_of e ∙ z)) (λ z. g (ap kind_of e ∙ z))
  where
    go : {P : Type 0} (x : Subject) → is_declarable (item x) ≡ true → (kind_of (item x) ≡ 0 → P) → (kind_of (item x) ≡ 1 → P) → P
    go (character c) d f g = f refl
    go (named m) d f g = g refl
    go undefined d f g = absurd (false≢true d)

-- what is declared can be, and has room before it
node-told : {key : ℕ → Key} {len : ℕ} {w : List ℕ} {n : ℕ} {ds : List Decl} (p : ℕ) → Nodes key len w n ds → is_place p ds ≡ true
    → (is_declarable (key p) ≡ true) × (above_of (kind_of (key p)) ≤ p / 16)
unfolding is_place
node-told p none e = absurd (false≢true e)
node-told {key = key} p (more {d = d} a ns) e =
    by (eqb d.place p)
    (λ t. let z = eqb-true d.place p t in
    let c : d.key ≡ key p = sym a.keyed ∙ ap key z in
    (ap is_declarable (sym c) ∙ a.plain, let i : above_of (kind_of (key p)) ≤ d.place / 16 = subst (λ (x : Key). above_of (kind_of x) ≤ d.place / 16) c a.above in omega (arith, i, z)))
    (λ t. node-told p ns (rw t at e))

-- the store holds what it held where a number of a row but the first changes
pub holds_row : (g : Signs) (src : List ℕ) {w : List ℕ} {n : ℕ} {ds : List Decl} (v k x : ℕ) → is_row (length src) ds v ≡ true → 1 ≤ k → k < 5
    → Holds (key_at g src) (length src) w n ds → Holds (key_at g src) (length src) (set w (cell_at v k) x) n ds
holds_row g src {ds = ds} v k x r a b h =
    row_by (length src) ds v r
    (λ p e. let t = node-told v h.nodes p in
    holds-told v k x b p
    (item_by (key_at g src v) (subject_left g src (name_spot (v / 2))) (key_at-name g src v e) t.0
    (λ z. free-char (kind_of (key_at g src v)) v k a z)
    (λ z. free-name (kind_of (key_at g src v)) v k b z (let i = above-name (kind_of (key_at g src v)) z in let o = t.1 in omega (arith, i, o)))) h)
    (λ z. holds-behind v k x b (omega (arith, z)) h)

module _ (g : Signs) (src w : List ℕ) (n : ℕ) (ds : List Decl) (h : Holds (key_at g src) (length src) w n ds) (o : Once ds) where
  -- a row's subject has its mark
  pub subject-marked : (u : ℕ) → is_row (length src) ds u ≡ true → u % 2 ≡ 0 → mark_of (length src) ds (subject_at g src u) ≡ Some u
  subject-marked u r e =
      row_by (length src) ds u r
      (λ t c. let p = at_source g src u (place-within h u t) in
      let f = once-found (key_at g src) u ds (nodes-keyed h.nodes) o t in
      ap (mark_of (length src) ds) p ∙ mark-name (length src) ds (name_left g src (name_spot (u / 2)))
      ∙ ap (λ (k : Key). first k ds) (sym (key_at-name g src u e)) ∙ f)
      (λ z. subst (λ (v : ℕ). mark_of (length src) ds (subject_at g src v) ≡ Some v) (sym z) undefined-marked)
    where
      undefined-marked : mark_of (length src) ds (subject_at g src (undefined_mark (length src))) ≡ Some (undefined_mark (length src))
      undefined-marked = ap (mark_of (length src) ds) (at-undefined g src) ∙ mark-undefined (length src) ds

  -- a mark that is found in the store names what was looked for
  found-subject : (u : ℕ) (x : Subject) → first (item x) ds ≡ Some u → subject_at g src u ≡ x
  found-subject u x f =
      let k = found-key h (item x) u f in
      let i = place-within h u (found-place h (item x) u f) in
      let c : item (subject_left g src (name_spot (u / 2))) ≡ item x = sym (key_at-name g src u (item-even g src u x k)) ∙ k in
      at_source g src u i ∙ item-subject (subject_left g src (name_spot (u / 2))) x c
    where
      item-subject : (x y : Subject) → item x ≡ item y → x ≡ y
      item-subject x y e = cc

  pub marked-subject : (u : ℕ) (x : Subject) → mark_of (length src) ds x ≡ Some u → subject_at g src u ≡ x
  unfolding mark_of
  marked-subject u (character c) f = found-subject u (character c) f
  marked-subject u (named m) f = found-subject u (named m) f
  marked-subject u undefined f = let z : undefined_mark (length src) ≡ u = cc in subst (λ (v : ℕ). subject_at g src v ≡ undefined) z (at-undefined g src)

  -- a row is of the subject x exactly where x has its mark
  pub subject-mark : (u : ℕ) (x : Subject) → is_row (length src) ds u ≡ true → u % 2 ≡ 0
      → same_subject x (subject_at g src u) ≡ is_at u (mark_of (length src) ds x)
  subject-mark u x r e =
      by (same_subject x (subject_at g src u))
      (λ t. t ∙ sym (is_at-same u (mark_of (length src) ds x) (ap (mark_of (length src) ds) (same_subject-true x (subject_at g src u) t) ∙ subject-marked u r e)))
      (λ t. by (is_at u (mark_of (length src) ds x))
      (λ s. let z = marked-subject u x (is_at-true u (mark_of (length src) ds x) s) in clash (subst (λ (y : Subject). same_subject x y ≡ true) (sym z) (same_subject-refl x)) t)
      (λ s. t ∙ sym s))

  found-row : (u : ℕ) (x : Subject) → first (item x) ds ≡ Some u → is_row (length src) ds u ≡ true
  found-row u x f = row-place (length src) ds u (found-place h (item x) u f) (item-even g src u x (found-key h (item x) u f))

  -- the mark of a subject has a row, and is that of a name
  pub mark-row : (u : ℕ) (x : Subject) → mark_of (length src) ds x ≡ Some u → is_row (length src) ds u ≡ true
  unfolding mark_of
  mark-row u (character c) f = found-row u (character c) f
  mark-row u (named m) f = found-row u (named m) f
  mark-row u undefined f = let z : u ≡ undefined_mark (length src) = cc in row-undefined (length src) ds u z

  -- two rows are of different places
  pub rows_apart : (u v : ℕ) → is_row (length src) ds u ≡ true → is_row (length src) ds v ≡ true → (u ≡ v → ⊥) → Apart u v
  rows_apart u v r s d e =
      row_by (length src) ds u r
      (λ t c. row_by (length src) ds v s
      (λ k b. d (place-row h u v t k e))
      (λ z. let i = place-within h u t in absurd (omega (arith, z, i, e))))
      (λ y. row_by (length src) ds v s
      (λ k b. let i = place-within h v k in absurd (omega (arith, y, i, e)))
      (λ z. d (y ∙ sym z)))
