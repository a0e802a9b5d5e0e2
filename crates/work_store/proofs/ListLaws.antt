-- For callers: what the list says after a declaration and after a number is set, and how marks and keys go together.
use Rattle.std.specs.Prelude.{None, Some}
use mathlib.Core.Path.{◌≡◌, refl, sym, ap, ◌∙◌, subst}
use mathlib.Core.Bool.{true, false, false≢true}
use mathlib.Core.List.{List, [], ◌∷◌}
use Prim.Native.Nat.{ℕ, ◌+◌, ◌*◌, ◌/◌, ◌≤◌, ◌<◌}
use native.Mathlib.Omega.{arith}
use lib.ListN.{get_or}
use lib.Dec.{eqb}
use borrow.Author.Tests.{eq-eqb, eqb-true, eqb-false}
use Rattle.base_lists.proofs.Bools.{by}
use Rattle.base_lists.proofs.Lists.{All}
use Rattle.rules.specs.State.{character}
use Rattle.work_rows.specs.Cells.{cell}
use Rattle.work_subjects.specs.Keys.{Key, item, same_key}
use Rattle.work_subjects.specs.Numbers.{kind_of, width_of, numbers_of}
use Rattle.work_subjects.proofs.KeyLaws.{same_key-true, same_key-refl, same_key-equal}
use Rattle.work_store.specs.Store.{Decl, first, is_place, Once, another, fresh, above_of, spot_of, Nodes, none, more, Holds, Declares}
use Rattle.work_store.proofs.AreaLaws.{spot_is, spot-own, free-name, free-char, placed, placed-within}

-- ## Nothing declared

pub first-none : (k : Key) → first k [] ≡ None
unfolding first
first-none k = refl

pub is_place-none : (p : ℕ) → is_place p [] ≡ false
unfolding is_place
is_place-none p = refl

-- ## A declaration more

module _ (key : ℕ → Key) (v : ℕ) (ds : List Decl) where
  pub first-fresh-same : (k : Key) → same_key (key v) k ≡ true → first k (fresh key v ∷ ds) ≡ Some v
  unfolding first
  first-fresh-same k t = rw t

  pub first-fresh : first (key v) (fresh key v ∷ ds) ≡ Some v
  first-fresh = first-fresh-same (key v) (same_key-refl (key v))

  pub first-fresh-other : (k : Key) → same_key (key v) k ≡ false → first k (fresh key v ∷ ds) ≡ first k ds
  unfolding first
  first-fresh-other k t = rw t

  pub is_place-fresh : is_place v (fresh key v ∷ ds) ≡ true
  unfolding is_place
  is_place-fresh = rw (eq-eqb v v refl)

  pub is_place-older : (p : ℕ) → is_place p ds ≡ true → is_place p (fresh key v ∷ ds) ≡ true
  unfolding is_place
  is_place-older p h = by (eqb v p) (λ t. rw t) (λ t. rw t h)

-- ## Marks and keys

-- each has the key of its mark
pub nodes-keyed : {key : ℕ → Key} {len : ℕ} {w : List ℕ} {n : ℕ} {ds : List Decl} → Nodes key len w n ds → All (λ (d : Decl). key d.place ≡ d.key) ds
nodes-keyed none = tt
nodes-keyed (more a ns) = (a.keyed, nodes-keyed ns)

-- what is declared once is found at its mark
pub once-found : (key : ℕ → Key) (u : ℕ) (ds : List Decl) → All (λ (d : Decl). key d.place ≡ d.key) ds → Once ds → is_place u ds ≡ true → first (key u) ds ≡ Some u
unfolding first is_place
once-found key u [] a o h = absurd (false≢true h)
once-found key u (d ∷ ds) a (another x o) h =
    by (eqb d.place u)
    (λ t. let e = eqb-true d.place u t in
    let k : same_key d.key (key u) ≡ true = same_key-equal (sym a.0 ∙ ap key e) in rw k (ap Some e))
    (λ t. let r = once-found key u ds a.1 o (rw t at h) in
    by (same_key d.key (key u))
    (λ s. let z : Some u ≡ None = sym r ∙ ap (λ (k : Key). first k ds) (sym (same_key-true d.key (key u) s)) ∙ x in absurd (let y : ◌≡◌ {A = ℕ} 0 1 = cc in omega (arith, y)))
    (λ s. rw s r))

module _ {key : ℕ → Key} {len : ℕ} {w : List ℕ} where
  first-low : {n : ℕ} {ds : List Decl} (k : Key) (p : ℕ) → Nodes key len w n ds → first k ds ≡ Some p → (p / 16 < n) × (p / 2 ≤ len)
  unfolding first
  first-low k p none e = let z : ◌≡◌ {A = ℕ} 0 1 = cc in absurd (omega arith)
  first-low k p (more {d = d} a ns) e =
      by (same_key d.key k)
      (λ t. let q : Some d.place ≡ Some p = rw t at e in let z : d.place ≡ p = cc in omega (arith, a.below, a.within))
      (λ t. let r = first-low k p ns (rw t at e) in omega (arith, a.below, r.0, r.1))

  first_key : {n : ℕ} {ds : List Decl} (k : Key) (p : ℕ) → Nodes key len w n ds → first k ds ≡ Some p → key p ≡ k
  unfolding first
  first_key k p none e = let z : ◌≡◌ {A = ℕ} 0 1 = cc in absurd (omega arith)
  first_key k p (more {d = d} a ns) e =
      by (same_key d.key k)
      (λ t. let q : Some d.place ≡ Some p = rw t at e in let z : d.place ≡ p = cc in rw (← z) (a.keyed ∙ same_key-true d.key k t))
      (λ t. first_key k p ns (rw t at e))

  first-place : {n : ℕ} {ds : List Decl} (k : Key) (p : ℕ) → Nodes key len w n ds → first k ds ≡ Some p → is_place p ds ≡ true
  unfolding first is_place
  first-place k p none e = cc
  first-place k p (more {d = d} a ns) e =
      by (eqb d.place p) (λ t. rw t)
      (λ t. rw t (by (same_key d.key k)
      (λ u. let q : Some d.place ≡ Some p = rw u at e in let z : d.place ≡ p = cc in absurd (eqb-false d.place p t z))
      (λ u. first-place k p ns (rw u at e))))

  one-row : {n : ℕ} {ds : List Decl} (p q : ℕ) → Nodes key len w n ds → is_place p ds ≡ true → is_place q ds ≡ true → p / 16 ≡ q / 16 → p ≡ q
  unfolding is_place
  one-row p q none e f r = absurd (false≢true e)
  one-row p q (more {d = d} a ns) e f r =
      by (eqb d.place p)
      (λ t. by (eqb d.place q) (λ u. sym (eqb-true d.place p t) ∙ eqb-true d.place q u)
      (λ u. let b = placed q ns (rw u at f) in let z = eqb-true d.place p t in absurd (omega arith)))
      (λ t. by (eqb d.place q)
      (λ u. let b = placed p ns (rw t at e) in let z = eqb-true d.place q u in absurd (omega arith))
      (λ u. one-row p q ns (rw t at e) (rw u at f) r))

  module _ {n : ℕ} {ds : List Decl} (v : Holds key len w n ds) where
    -- what is found stands in the source, is declared, and has the key
    pub found_within : (k : Key) (p : ℕ) → first k ds ≡ Some p → p / 2 ≤ len
    found_within k p e = (first-low k p v.nodes e).1

    pub found-place : (k : Key) (p : ℕ) → first k ds ≡ Some p → is_place p ds ≡ true
    found-place k p e = first-place k p v.nodes e

    pub found-key : (k : Key) (p : ℕ) → first k ds ≡ Some p → key p ≡ k
    found-key k p e = first_key k p v.nodes e

    pub place-below : (p : ℕ) → is_place p ds ≡ true → p / 16 < n
    place-below p e = placed p v.nodes e

    pub place-within : (p : ℕ) → is_place p ds ≡ true → p / 2 ≤ len
    place-within p e = placed-within p v.nodes e

    pub place-row : (p q : ℕ) → is_place p ds ≡ true → is_place q ds ≡ true → p / 16 ≡ q / 16 → p ≡ q
    place-row p q e f r = one-row p q v.nodes e f r

-- ## The five numbers of rows, after a declaration

module _ {key : ℕ → Key} {len v : ℕ} {w w' : List ℕ} (d : Declares key len w v w') where
  -- of rows before those that it takes, and behind its own, all five stay
  pub five-older : (u k : ℕ) → k < 5 → u / 16 + above_of (kind_of (key v)) < v / 16 → cell w' u k ≡ cell w u k
  five-older u k h b = d.five u k h (λ i l e. let s = (spot_is (kind_of (key v)) (v / 16) i l).from in omega (arith, e, s, b, h))

  pub five-later : (u k : ℕ) → k < 5 → v / 16 < u / 16 → cell w' u k ≡ cell w u k
  five-later u k h b = d.five u k h (λ i l e. let s = (spot_is (kind_of (key v)) (v / 16) i l).to in omega (arith, e, s, b, h))

  -- of its own row all five if it is a name, all but the first if it is a character
  pub five-named : (k : ℕ) → k < 5 → kind_of (key v) ≡ 1 → 1 ≤ v / 16 → cell w' v k ≡ cell w v k
  five-named k h e o = d.five v k h (free-name (kind_of (key v)) v k h e o)

  pub five-character : (k : ℕ) → k < 5 → kind_of (key v) ≡ 0 → 1 ≤ k → cell w' v k ≡ cell w v k
  five-character k h e o = d.five v k h (free-char (kind_of (key v)) v k o e)

-- the first number of a character's row tells its code
pub code-told : {key : ℕ → Key} {len n v c : ℕ} {w : List ℕ} {ds : List Decl} → Holds key len w n (fresh key v ∷ ds) → key v ≡ item (character c) → cell w v 0 ≡ 2 * c + 2
unfolding kind_of numbers_of width_of
code-told {key} {v = v} {c = c} {w = w} h e = go h.nodes
  where
    go : {len n : ℕ} {ds : List Decl} → Nodes key len w n (fresh key v ∷ ds) → cell w v 0 ≡ 2 * c + 2
    go (more a ns) =
        let f : (i : ℕ) → i < width_of 0 → get_or w (spot_of 0 (v / 16) i) 0 ≡ get_or (numbers_of (item (character c))) i 0 =
        subst (λ (k : Key). (i : ℕ) → i < width_of (kind_of k) → get_or w (spot_of (kind_of k) (v / 16) i) 0 ≡ get_or (numbers_of k) i 0) e a.kept in
        ap (λ (x : ℕ). get_or w x 0) (sym (spot-own 0 (v / 16) 0 (λ z. omega (arith, z)))) ∙ f 0 (omega arith)
