-- How deep a way can go: 259 at most, whatever is declared.
use Rattle.std.specs.Prelude.{if◌then◌else◌, None, Some}
use mathlib.Core.Path.{◌≡◌, refl, sym, ap, ◌∙◌}
use mathlib.Core.Bool.{true, ◌&&◌}
use mathlib.Core.List.{List, [], ◌∷◌}
use Prim.Native.Nat.{ℕ, zero, suc, ◌+◌, ◌≤◌, ◌<◌}
use native.Mathlib.Omega.{arith}
use lib.Dec.{eqb, leb}
use borrow.Author.Tests.{eq-eqb, eqb-true, leb-true, leb-false}
use Rattle.base_lists.proofs.Bools.{by, and_left, and_right, and_intro, clash, cond_both}
use Rattle.rules.specs.Text.{same}
use Rattle.rules.proofs.TextLaws.{same_true, same_refl}
use Rattle.work_subjects.specs.Keys.{Key, same_key}
use Rattle.work_subjects.specs.Numbers.{is_declarable, kind_of, numbers_of, bit_of}
use Rattle.work_subjects.proofs.KeyLaws.{same_key-equal}
use Rattle.work_subjects.proofs.BitLaws.{bits-numbers, kind-low, numbers_apart}
use Rattle.work_store.specs.Store.{Decl, first, Once, another, together, depth_of, Nodes, none, more}
use Rattle.work_store.proofs.WayLaws.{together-less, depth-on, depth-off}

-- ## Keys that go the same way for 256 bits

-- they have the same numbers
together-numbers : (hs n : ℕ) (a b : Key) → is_declarable a ≡ true → is_declarable b ≡ true → 256 ≤ n → together hs n a b ≡ true → numbers_of a ≡ numbers_of b
unfolding together
together-numbers hs n a b h i l t = bits-numbers a b h i (λ m o. eqb-true (bit_of a m) (bit_of b m)
    (and_right (together hs m a b) (eqb (bit_of a m) (bit_of b m)) (together-less hs (suc m) n a b (omega (arith, l, o)) t)))

-- ## One of each kind

-- 1 if a key of kind j with the numbers xs is declared, else 0
unfoldable has : ℕ → List ℕ → List Decl → ℕ
has j xs [] = 0
has j xs (d ∷ ds) =
    let r : ℕ = has j xs ds in
    if eqb (kind_of d.key) j && same (numbers_of d.key) xs then 1 else r

has-low : (j : ℕ) (xs : List ℕ) (ds : List Decl) → has j xs ds ≤ 1
unfolding has
has-low j xs [] = omega arith
has-low j xs (d ∷ ds) = cond_both (λ (x : ℕ). x ≤ 1) (eqb (kind_of d.key) j && same (numbers_of d.key) xs) (omega arith) (has-low j xs ds)

has_more : (j : ℕ) (xs : List ℕ) (d : Decl) (ds : List Decl) → has j xs ds ≤ has j xs (d ∷ ds)
unfolding has
has_more j xs d ds = cond_both (λ (x : ℕ). has j xs ds ≤ x) (eqb (kind_of d.key) j && same (numbers_of d.key) xs) (has-low j xs ds) (omega arith)

has-now : (j : ℕ) (xs : List ℕ) (d : Decl) (ds : List Decl) → kind_of d.key ≡ j → numbers_of d.key ≡ xs → has j xs (d ∷ ds) ≡ 1
unfolding has
has-now j xs d ds e f = rw (and_intro (eq-eqb (kind_of d.key) j e) (ap (same (numbers_of d.key)) (sym f) ∙ same_refl (numbers_of d.key)))

module _ {key : ℕ → Key} {len : ℕ} {w : List ℕ} where
  -- before a key is declared, none of its kind with its numbers is
  has-none : {n : ℕ} {ds : List Decl} (k : Key) → is_declarable k ≡ true → Nodes key len w n ds → first k ds ≡ None → has (kind_of k) (numbers_of k) ds ≡ 0
  unfolding has first
  has-none k h none e = refl
  has-none k h (more {d = d} {ds = ds} a ns) e =
      let test = eqb (kind_of d.key) (kind_of k) && same (numbers_of d.key) (numbers_of k) in
      by (same_key d.key k)
      (λ t. let q : Some d.place ≡ None = rw t at e in absurd (let z : ◌≡◌ {A = ℕ} 0 1 = cc in omega (arith, z)))
      (λ t. by test
      (λ u. let s = same_key-equal (numbers_apart d.key k a.plain h
      (eqb-true (kind_of d.key) (kind_of k) (and_left (eqb (kind_of d.key) (kind_of k)) (same (numbers_of d.key) (numbers_of k)) u))
      (same_true (numbers_of d.key) (numbers_of k) (and_right (eqb (kind_of d.key) (kind_of k)) (same (numbers_of d.key) (numbers_of k)) u))) in clash s t)
      (λ u. rw u (has-none k h ns (rw t at e))))

  -- ## The depth

  -- 256 bits, and then one of each kind
  depth-kinds : {n : ℕ} {ds : List Decl} (hs : ℕ) (k : Key) → is_declarable k ≡ true → Nodes key len w n ds → Once ds
      → depth_of hs k ds ≤ 256 + has 0 (numbers_of k) ds + has 1 (numbers_of k) ds + has 2 (numbers_of k) ds
  unfolding depth_of
  depth-kinds hs k h none o = omega arith
  depth-kinds hs k h (more {d = d} {ds = ds} a ns) (another x o) =
      let xs = numbers_of k in
      let r = depth-kinds hs k h ns o in
      let p0 = has_more 0 xs d ds in
      let p1 = has_more 1 xs d ds in
      let p2 = has_more 2 xs d ds in
      by (together hs (depth_of hs k ds) k d.key)
      (λ t. let e = depth-on hs k d ds t in
      by (leb 256 (depth_of hs k ds))
      (λ u. let f = together-numbers hs (depth_of hs k ds) k d.key h a.plain (leb-true 256 (depth_of hs k ds) u) t in
      let g : (j : ℕ) → kind_of d.key ≡ j → (has j xs ds ≡ 0) × (has j xs (d ∷ ds) ≡ 1) = λ j c.
      (ap (λ (i : ℕ). has i xs ds) (sym c) ∙ ap (λ (ys : List ℕ). has (kind_of d.key) ys ds) f ∙ has-none d.key a.plain ns x, has-now j xs d ds c (sym f)) in
      threes (kind_of d.key) (kind-low d.key a.plain)
      (λ c. let m = g 0 c in omega (arith, e, r, m.0, m.1, p1, p2))
      (λ c. let m = g 1 c in omega (arith, e, r, m.0, m.1, p0, p2))
      (λ c. let m = g 2 c in omega (arith, e, r, m.0, m.1, p0, p1)))
      (λ u. let l = leb-false 256 (depth_of hs k ds) u in omega (arith, e, l)))
      (λ t. let e = depth-off hs k d ds t in omega (arith, e, r, p0, p1, p2))
    where
      threes : {X : Type 0} (j : ℕ) → j < 3 → (j ≡ 0 → X) → (j ≡ 1 → X) → (j ≡ 2 → X) → X
      threes zero l f g m = f refl
      threes (suc zero) l f g m = g refl
      threes (suc (suc j)) l f g m = m (omega (arith, l))

  -- A way is at most 259 deep, whatever is declared: what stands on it at depth 256 or deeper has the numbers of the key, and of each of three kinds only one key has
  -- them. A lookup reads one row for each depth: so it reads at most 259 rows, also where a source declares such names that all of them share one chain.
  pub depth_low : {n : ℕ} {ds : List Decl} (hs : ℕ) (k : Key) → is_declarable k ≡ true → Nodes key len w n ds → Once ds → depth_of hs k ds ≤ 259
  depth_low {ds = ds} hs k h ns o =
      let l = depth-kinds hs k h ns o in
      let a = has-low 0 (numbers_of k) ds in
      let b = has-low 1 (numbers_of k) ds in
      let c = has-low 2 (numbers_of k) ds in
      omega (arith, l, a, b, c)
