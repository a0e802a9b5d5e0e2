-- What is known after a symbol, an element or a character is declared, after rows are passed, and after others write behind the rows.
use Rattle.std.specs.Prelude.{None}
use mathlib.Core.Path.{◌≡◌, refl, sym, ap, ◌∙◌, subst}
use mathlib.Core.Bool.{true, false, false≢true}
use mathlib.Core.List.{List, [], ◌∷◌, map}
use Prim.Native.Nat.{ℕ, ◌+◌, ◌*◌, ◌/◌, ◌%◌, ◌≤◌, ◌<◌}
use native.Mathlib.Omega.{arith}
use lib.ListN.{length, get_or}
use lib.Dec.{eqb}
use borrow.Author.Tests.{eq-eqb, eqb-true}
use Rattle.base_lists.proofs.Bools.{by}
use Rattle.base_lists.proofs.Lists.{length-zero}
use Rattle.rules.specs.Meaning.{Rule}
use Rattle.rules.specs.State.{Declaration, symbol, character, named, OrderLine}
use Rattle.text_lines.specs.declared.Signs.{Signs}
use Rattle.work_rows.specs.Cells.{cell_at, cell}
use Rattle.work_subjects.specs.Keys.{name_spot, subject_left, Key, item, chars, key_at}
use Rattle.work_subjects.specs.Numbers.{is_declarable, kind_of}
use Rattle.work_subjects.proofs.KeyLaws.{key_at-name}
use Rattle.work_store.specs.Store.{Decl, first, is_place, fresh, above_of, Holds, Declares}
use Rattle.work_store.proofs.AreaLaws.{above-name, above_other, holds-beyond}
use Rattle.work_store.proofs.ListLaws.{is_place-older, place-below, place-within, five-older, five-later, five-named, five-character, code-told}
use Rattle.work_order.specs.declared.Order.{Order}
use Rattle.work_order.specs.Links.{chars_number}
use Rattle.locale_sheet.specs.Known.{declared_at, Says, none, symbols, elements, characters, line_at, is_row, Known}
use Rattle.locale_sheet.proofs.MarkLaws.{row_by, row_in, item_by}
use Rattle.locale_sheet.proofs.GrownLaws.{Grown, KnownAs, known_as, known_grown}

-- ## Lists

-- what is declared after one more: that, or what was before
fresh-newer : (key : ℕ → Key) (v : ℕ) (ds : List Decl) (u : ℕ) → is_place u (fresh key v ∷ ds) ≡ true → is_place u ds ≡ false → u ≡ v
unfolding is_place
fresh-newer key v ds u p q = by (eqb v u) (λ t. sym (eqb-true v u t)) (λ t. absurd (false≢true (sym q ∙ rw t at p)))

-- declarations are kept where the first numbers of their rows are
pub says_on : (w w' : List ℕ) (ds : List Decl) (cs : List Declaration) → ((u : ℕ) → is_place u ds ≡ true → cell w' u chars_number ≡ cell w u chars_number)
    → Says w ds cs → Says w' ds cs
unfolding is_place
says_on w w' ds cs e none = none
says_on w w' ds cs e (symbols {n = m} {v = v} {ds = es} {cs = fs} z s) =
    symbols (e v (here v es) ∙ z) (says_on w w' es fs (λ u p. e u (is_place-older (λ (x : ℕ). item (named m)) v es u p)) s)
  where
    here : (v : ℕ) (es : List Decl) → is_place v (declared_at (item (named m)) v ∷ es) ≡ true
    here v es = rw (eq-eqb v v refl)
says_on w w' ds cs e (elements {n = m} {xs = xs} {v = v} {q = q} {ds = es} {cs = fs} z l s) =
    elements (e v (is_place-older (λ (x : ℕ). chars xs) q (declared_at (item (named m)) v ∷ es) v (here v es)) ∙ z) l
    (says_on w w' es fs (λ u p. e u (is_place-older (λ (x : ℕ). chars xs) q (declared_at (item (named m)) v ∷ es) u (is_place-older (λ (x : ℕ). item (named m)) v es u p))) s)
  where
    here : (v : ℕ) (es : List Decl) → is_place v (declared_at (item (named m)) v ∷ es) ≡ true
    here v es = rw (eq-eqb v v refl)
says_on w w' ds cs e (characters {c = c} {v = v} {ds = es} {cs = fs} z s) =
    characters (e v (here v es) ∙ z) (says_on w w' es fs (λ u p. e u (is_place-older (λ (x : ℕ). item (character c)) v es u p)) s)
  where
    here : (v : ℕ) (es : List Decl) → is_place v (declared_at (item (character c)) v ∷ es) ≡ true
    here v es = rw (eq-eqb v v refl)

-- ## One declaration more

-- a name takes the row before its own, a character does not
pub kind-name : {k : Key} {m : List ℕ} → k ≡ item (named m) → kind_of k ≡ 1
unfolding kind_of
kind-name e = rw e

pub name-above : {k : Key} {m : List ℕ} → k ≡ item (named m) → above_of (kind_of k) ≡ 1
name-above {k} e = above-name (kind_of k) (kind-name e)

pub character-above : {k : Key} {c : ℕ} → k ≡ item (character c) → above_of (kind_of k) ≡ 0
unfolding kind_of
character-above {k} e = let z : kind_of k ≡ 0 = rw e in above_other (kind_of k) (λ i. omega (arith, i, z))

module _ (g : Signs) (src w : List ℕ) (o : Order) (rs : List Rule) (n : ℕ) (cs : List Declaration) (ls : List OrderLine) (k : Known g src w o rs n cs ls) where
  abbrev key : ℕ → Key
  key = key_at g src

  -- others write behind the rows
  pub known_behind : (w' : List ℕ) → length w' ≡ length w → ((i : ℕ) → i < 8 * (length src / 8 + 2) → get_or w' i 0 ≡ get_or w i 0) → Known g src w' o rs n cs ls
  known_behind w' l e =
      known_grown g src w o rs n cs ls k w' n k.ds cs
      (holds-beyond l (λ i h. e i (omega (arith, h))) k.holds)
      (says_on w w' k.ds cs (λ u p. let i = place-within k.holds u p in e (cell_at u chars_number) (omega (arith, i))) k.says)
      (record {
        long = l;
        four = λ u j r b c. let a = row_in k.holds u r in e (cell_at u j) (omega (arith, a, c));
        rest = λ u j a b c. e (cell_at u j) (omega (arith, b, c));
        rows = omega arith;
        older = λ u p. p;
        newer = λ u p q. absurd (false≢true (sym q ∙ p));
        some = λ u p q. absurd (false≢true (sym q ∙ p));
      })

  module _ (v : ℕ) (w' : List ℕ) (d : Declares (key_at g src) (length src) w v w') (room : n + above_of (kind_of (key_at g src v)) ≤ v / 16) (inside : v / 2 ≤ length src)
      (can : is_declarable (key_at g src v) ≡ true) (new : first (key_at g src v) k.ds ≡ None) (some : 1 ≤ v) where
    abbrev kind : ℕ
    kind = kind_of (key_at g src v)

    -- all numbers of what was declared stay
    kept-older : (u j : ℕ) → is_place u k.ds ≡ true → j < 5 → cell w' u j ≡ cell w u j
    kept-older u j p c = five-older d u j c (let b = place-below k.holds u p in omega (arith, b, room))

    -- so do those of the rows of order lines
    pub declared-older : (u j : ℕ) → is_row (length src) k.ds u ≡ true → j < 5 → cell w' u j ≡ cell w u j
    declared-older u j r c = row_by (length src) k.ds u r (λ p e. kept-older u j p c) (λ z. five-later d u j c (omega (arith, z, inside)))

    -- and all but the first of its own row, if it is one of them
    kept-own : (j : ℕ) → v % 2 ≡ 0 → 1 ≤ j → j < 5 → cell w' v j ≡ cell w v j
    kept-own j e b c =
        item_by (key_at g src v) (subject_left g src (name_spot (v / 2))) (key_at-name g src v e) can
        (λ z. five-character d j c z b)
        (λ z. five-named d j c z (let a = above-name kind z in omega (arith, a, room)))

    kept-four : (u j : ℕ) → is_row (length src) (fresh key v ∷ k.ds) u ≡ true → 1 ≤ j → j < 5 → cell w' u j ≡ cell w u j
    kept-four u j r b c =
        row_by (length src) (fresh key v ∷ k.ds) u r
        (λ p e. by (is_place u k.ds)
        (λ t. kept-older u j t c)
        (λ t. let z = fresh-newer key v k.ds u p t in
        subst (λ (x : ℕ). cell w' x j ≡ cell w x j) (sym z) (kept-own j (subst (λ (x : ℕ). x % 2 ≡ 0) z e) b c)))
        (λ z. five-later d u j c (omega (arith, z, inside)))

    grown : Grown (length src) w w' n (v / 16 + 1) k.ds (fresh key v ∷ k.ds)
    grown = record {
      long = d.long;
      four = kept-four;
      rest = λ u j a b c. five-later d u j c (omega (arith, a));
      rows = omega (arith, room);
      older = λ u p. is_place-older key v k.ds u p;
      newer = λ u p q. let e = fresh-newer key v k.ds u p q in omega (arith, e, room);
      some = λ u p q. let e = fresh-newer key v k.ds u p q in omega (arith, e, some);
    }

    declared : Holds key (length src) w' (v / 16 + 1) (fresh key v ∷ k.ds)
    declared = d.is n k.ds k.holds room can new

    says-older : Says w' k.ds cs
    says-older = says_on w w' k.ds cs (λ u p. kept-older u chars_number p (omega arith)) k.says

    pub known-symbol-new : (m : List ℕ) → key_at g src v ≡ item (named m) → Known g src w' o rs (v / 16 + 1) (symbol m ∷ cs) ls
    known-symbol-new m e =
        let z = kind-name e in
        let a = name-above e in
        known_grown g src w o rs n cs ls k w' (v / 16 + 1) (fresh key v ∷ k.ds) (symbol m ∷ cs) declared
        (subst (λ (x : Key). Says w' (declared_at x v ∷ k.ds) (symbol m ∷ cs)) (sym e)
        (symbols (five-named d chars_number (omega arith) z (omega (arith, a, room)) ∙ k.free v chars_number (omega (arith, room)) (omega (arith, inside)) (omega arith)) says-older))
        grown

    -- a character, whose row tells its code
    pub known-character-new : (c : ℕ) → key_at g src v ≡ item (character c) → KnownAs g src w' o rs (v / 16 + 1) cs ls (fresh (key_at g src) v ∷ k.ds)
    known-character-new c e =
        known_as g src w o rs n cs ls k w' (v / 16 + 1) (fresh key v ∷ k.ds) cs declared
        (subst (λ (x : Key). Says w' (declared_at x v ∷ k.ds) cs) (sym e) (characters (code-told declared e) says-older))
        grown

-- ## Before the order

-- other rules, where there is no order line yet
pub known-rules : (g : Signs) (src w : List ℕ) (o : Order) (rs qs : List Rule) (n : ℕ) (cs : List Declaration) (ls : List OrderLine) → Known g src w o rs n cs ls
    → o.count ≡ 0 → Known g src w o qs n cs []
known-rules g src w o rs qs n cs ls k z = record {
  ds = k.ds;
  holds = k.holds;
  says = k.says;
  some = k.some;
  marks = k.marks;
  lines = k.lines;
  backs = k.backs;
  are = sym (ap (map (line_at g src qs w)) (length-zero k.marks (sym k.lines.count ∙ z)));
  listed = k.listed;
  all = k.all;
  free = k.free;
  alone = k.alone;
  unranked = k.unranked;
}
