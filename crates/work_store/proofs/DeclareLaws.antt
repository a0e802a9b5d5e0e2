-- A declaration more: a new row, and the slot at the end of its way that leads to it.
use Rattle.std.specs.Prelude.{None}
use mathlib.Core.Path.{◌≡◌, refl, sym, ap, ◌∙◌, subst}
use mathlib.Core.Bool.{true}
use mathlib.Core.List.{List, [], ◌∷◌}
use Prim.Native.Nat.{ℕ, zero, suc, ◌+◌, ◌-◌, ◌*◌, ◌/◌, ◌%◌, ◌^◌, ◌≤◌, ◌<◌}
use native.Mathlib.Numerals.{add-one}
use native.Mathlib.Omega.{arith}
use lib.ListN.{length, get_or, set, length-set}
use lib.Seq.{get_or-set_same}
use lib.Dec.{eqb, leb}
use borrow.Author.Tests.{eqb-true, eqb-false, ne_eqb, leb-true, leb-false}
use Rattle.base_lists.proofs.Bools.{by}
use Rattle.work_rows.specs.Cells.{cell_at}
use Rattle.base_lists.proofs.Lists.{All}
use Rattle.work_subjects.specs.Keys.{Key}
use Rattle.work_subjects.specs.declared.Told.{Told}
use Rattle.work_subjects.specs.Numbers.{is_declarable, kind_number, kind_of, width_of, numbers_of, bit_of, NumbersAre}
use Rattle.work_subjects.proofs.BitLaws.{kind-few}
use Rattle.work_store.specs.Store.{Decl, first, another, fresh, heads_of, chain_of, together, depth_of, node_of, side_of, slot_of, pointed, pointing, tag_in, tag_of, above_of, spot_of, Nodes, none, more, Roomy, Holds, WayEnds, Kept, Declares}
use Rattle.work_store.proofs.WayLaws.{together-swap, depth-on, depth-off, depth-alike, node_by, node-other, node-deep, node-some, node-none, slot-alike}
use Rattle.work_store.proofs.AreaLaws.{other, chain-is, above-name, spot_is, Alike, keep, all-nodes, rise, pointed-same, tag_same, depth-in, node-le, node_in, side-by, slot-number, slot-low, slot-meet}

-- ## Slots that lead elsewhere

pointed-plain : (w : List ℕ) (s : ℕ) → (s % 8 ≡ 2 → ⊥) → pointed w s ≡ get_or w s 0
unfolding pointed
pointed-plain w s h = rw (ne_eqb (s % 8) 2 h)

pointed-shared : (w : List ℕ) (s : ℕ) → s % 8 ≡ 2 → pointed w s ≡ get_or w s 0 / 64
unfolding pointed
pointed-shared w s h = rw h

module _ (w : List ℕ) (s x : ℕ) where
  pub pointing-long : length (pointing w s x) ≡ length w
  unfolding pointing
  pointing-long = by (eqb (s % 8) 2) (λ t. rw (t, length-set)) (λ t. rw (t, length-set))

  -- the slot leads there
  point-there : s < length w → pointed (pointing w s x) s ≡ x
  unfolding pointing pointed
  point-there h = by (eqb (s % 8) 2)
      (λ t. rw t (let z = get_or-set_same w s (64 * x + get_or w s 0 % 64) 0 h in omega (arith, z)))
      (λ t. rw t (get_or-set_same w s x 0 h))

  -- other numbers stay
  pub point-other : (i : ℕ) → (i ≡ s → ⊥) → get_or (pointing w s x) i 0 ≡ get_or w i 0
  unfolding pointing
  point-other i n = by (eqb (s % 8) 2) (λ t. rw t (other w s i (64 * x + get_or w s 0 % 64) n)) (λ t. rw t (other w s i x n))

  point-shared : (r : ℕ) → s < length w → 8 * r + 2 ≡ s → s % 8 ≡ 2 → get_or (pointing w s x) (8 * r + 2) 0 ≡ 64 * x + get_or w (8 * r + 2) 0 % 64
  unfolding pointing
  point-shared r h e f = rw (e, f) (get_or-set_same w s (64 * x + get_or w s 0 % 64) 0 h)

  -- and so do tags
  point-tag : (r : ℕ) → s < length w → tag_in (pointing w s x) r ≡ tag_in w r
  unfolding tag_in
  point-tag r h = by (eqb (8 * r + 2) s)
      (λ t. let e = eqb-true (8 * r + 2) s t in
      let f : s % 8 ≡ 2 = omega (arith, e) in
      let z : get_or (pointing w s x) (8 * r + 2) 0 ≡ 64 * x + get_or w (8 * r + 2) 0 % 64 = point-shared r h e f in
      omega (arith, z))
      (λ t. rw (point-other (8 * r + 2) (eqb-false (8 * r + 2) s t)))

-- ## A new row

-- its two links lead nowhere yet, and it has its tag
abbrev rowed : List ℕ → ℕ → ℕ → List ℕ
rowed w r x = set (set w (8 * r) 0) (8 * r + 2) x

module _ (w : List ℕ) (r x : ℕ) (room : 8 * r + 3 ≤ length w) where
  rowed-long : length (rowed w r x) ≡ length w
  rowed-long = simp length-set

  rowed-other : (i : ℕ) → (i ≡ 8 * r → ⊥) → (i ≡ 8 * r + 2 → ⊥) → get_or (rowed w r x) i 0 ≡ get_or w i 0
  rowed-other i m n = other (set w (8 * r) 0) (8 * r + 2) i x n ∙ other w (8 * r) i 0 m

  rowed-left : get_or (rowed w r x) (8 * r) 0 ≡ 0
  rowed-left = other (set w (8 * r) 0) (8 * r + 2) (8 * r) x (λ e. omega (arith, e)) ∙ get_or-set_same w (8 * r) 0 0 (omega (arith, room))

  rowed-tag : get_or (rowed w r x) (8 * r + 2) 0 ≡ x
  rowed-tag = get_or-set_same (set w (8 * r) 0) (8 * r + 2) x 0 (simp length-set (omega (arith, room)))

  -- its slots lead nowhere
  rowed-slot : (b : ℕ) → x < 64 → pointed (rowed w r x) (8 * r + side_of b) ≡ 0
  rowed-slot b h = side-by b
      (λ e. ap (λ (y : ℕ). pointed (rowed w r x) (8 * r + y)) e
      ∙ pointed-plain (rowed w r x) (8 * r + 0) (λ z. omega (arith, z)) ∙ rw (zero_right (8 * r)) rowed-left)
      (λ e. ap (λ (y : ℕ). pointed (rowed w r x) (8 * r + y)) e
      ∙ pointed-shared (rowed w r x) (8 * r + 2) (omega arith) ∙ (let z = rowed-tag in omega (arith, z, h)))
    where
      zero_right : (n : ℕ) → n + 0 ≡ n
      zero_right n = omega arith

-- ## Where a way ends

-- The way is followed as far as a depth, and a slot leads on from there, whatever list the area holds.
pub record Walks (heads : ℕ) (w : List ℕ) (h : ℕ) (key : List ℕ) (s m : ℕ) : Type 0 where
  pub inside : s < 8 * heads
  pub number : s % 8 < 3
  pub deep : m ≤ heads
  pub is : (at : ℕ → Key) (len : ℕ) (k : Key) (n : ℕ) (ds : List Decl) → heads ≡ heads_of len → h ≡ chain_of heads k → key ≡ numbers_of k
      → Holds at len w n ds → (s ≡ slot_of heads k m ds) × (m ≤ depth_of heads k ds)

pub walks-start : {heads h : ℕ} {w key : List ℕ} → h < heads → Walks heads w h key (8 * h + 1) 0
unfolding slot_of
walks-start {heads} {h} i = record {
  inside = omega (arith, i);
  number = omega arith;
  deep = omega arith;
  is = λ at len k n ds e f g o. (ap (λ (x : ℕ). 8 * x + 1) f, omega arith);
}

module _ {heads h s m : ℕ} {w key : List ℕ} (v : Walks heads w h key s m) where
  -- what the slot leads to is what stands there
  leads : (at : ℕ → Key) (len : ℕ) (k : Key) (n : ℕ) (ds : List Decl) → heads ≡ heads_of len → h ≡ chain_of heads k → key ≡ numbers_of k
      → Holds at len w n ds → pointed w s ≡ node_of heads k m ds
  leads at len k n ds e f g o =
      let i = v.is at len k n ds e f g o in
      ap (pointed w) i.0 ∙ subst (λ (x : ℕ). m ≤ depth_of x k ds → pointed w (slot_of x k m ds) ≡ node_of x k m ds) (sym e) (o.points k m) i.1

  ends_with : ((at : ℕ → Key) (len : ℕ) (k : Key) (n : ℕ) (ds : List Decl) → heads ≡ heads_of len → h ≡ chain_of heads k → key ≡ numbers_of k
      → Holds at len w n ds → depth_of heads k ds ≤ m) → WayEnds heads w h key s
  ends_with q = record {
    inside = v.inside;
    number = v.number;
    is = λ at len k n ds e f g o.
        let i = v.is at len k n ds e f g o in
        let j = q at len k n ds e f g o in
        let z : m ≡ depth_of heads k ds = (let y = i.1 in omega (arith, y, j)) in
        i.0 ∙ ap (λ (x : ℕ). slot_of heads k x ds) z;
  }

  pub walks-none : {l : ℕ} → l ≡ pointed w s → l ≡ 0 → WayEnds heads w h key s
  walks-none is z = ends_with (λ at len k n ds e f g o. node-none heads k m ds (sym (leads at len k n ds e f g o) ∙ sym is ∙ z))

  pub walks-out : {l : ℕ} → l ≡ pointed w s → heads < l → WayEnds heads w h key s
  walks-out is b = ends_with (λ at len k n ds e f g o.
      let i = node_in heads k m o.nodes in let y = leads at len k n ds e f g o in absurd (omega (arith, i, y, is, b, e)))

  pub walks-all : heads ≤ m → WayEnds heads w h key s
  walks-all b = ends_with (λ at len k n ds e f g o. let i = depth-in heads k o.nodes in omega (arith, i, e, b))

  pub walks-on : {l side : ℕ} → m < heads → l ≡ pointed w s → (l ≡ 0 → ⊥) → l ≤ heads → side ≡ side_of (get_or key (m / 32) 0 / 2 ^ (m % 32) % 2)
      → Walks heads w h key (8 * (l - 1) + side) (m + 1)
  unfolding slot_of bit_of
  walks-on {l} {side} d is some low j =
      let one : 1 ≤ l = omega (arith, some) in
      let b = get_or key (m / 32) 0 / 2 ^ (m % 32) % 2 in
      record {
        inside = side-by b (λ z. omega (arith, z, j, one, low)) (λ z. omega (arith, z, j, one, low));
        number = side-by b (λ z. omega (arith, z, j)) (λ z. omega (arith, z, j));
        deep = omega (arith, d);
        is = λ at len k n ds e f g o.
            let i = v.is at len k n ds e f g o in
            let y : node_of heads k m ds ≡ l = sym (leads at len k n ds e f g o) ∙ sym is in
            subst (λ (x : ℕ). (8 * (l - 1) + side ≡ slot_of heads k x ds) × (x ≤ depth_of heads k ds)) (sym (add-one m))
            (ap (λ (x : ℕ). 8 * (l - 1) + x) (j ∙ ap (λ (x : List ℕ). side_of (get_or x (m / 32) 0 / 2 ^ (m % 32) % 2)) g) ∙ ap (λ (x : ℕ). 8 * (x - 1) + side_of (bit_of k m)) (sym y), deeper k ds i.1 y);
      }
    where
      deeper : (k : Key) (ds : List Decl) → m ≤ depth_of heads k ds → node_of heads k m ds ≡ l → suc m ≤ depth_of heads k ds
      deeper k ds h e = by (leb (depth_of heads k ds) m)
          (λ t. absurd (some (sym e ∙ node-deep heads k m ds (leb-true (depth_of heads k ds) m t))))
          (λ t. let b = leb-false (depth_of heads k ds) m t in omega (arith, b))

-- ## Slots are none of the numbers that are kept

all_both : {X Y Z : Decl → Type 0} (ds : List Decl) → ((d : Decl) → X d → Y d → Z d) → All X ds → All Y ds → All Z ds
all_both [] f x y = tt
all_both (d ∷ ds) f x y = (f d x.0 y.0, all_both ds f x.1 y.1)

-- a number is none of those that are kept for d
abbrev Off : ℕ → Decl → Type 0
Off x d = (i : ℕ) → i < width_of (kind_of d.key) → x ≡ spot_of (kind_of d.key) (d.place / 16) i → ⊥

module _ {key : ℕ → Key} {len : ℕ} {w : List ℕ} (hs : ℕ) (k : Key) where
  -- what stands on a way stands in no row before a name that is the name's own
  gap : {n : ℕ} {ds : List Decl} (m : ℕ) → Nodes key len w n ds → All (λ (d : Decl). kind_of d.key ≡ 1 → node_of hs k m ds ≡ d.place / 16 → ⊥) ds
  gap m none = tt
  gap m (more {d = e} {ds = es} a ns) =
      let l = node-le hs k m ns in
      let b = a.above in
      node_by hs k m e es
      (λ x t u. (λ c z. omega (arith, u, z), all-nodes (λ j d o y c z. let f = y.below in omega (arith, u, z, o, f)) ns))
      (λ u t. (λ c z. let o = above-name (kind_of e.key) c in omega (arith, u, z, l, o, b), subst (λ (x : ℕ). All (λ (d : Decl). kind_of d.key ≡ 1 → x ≡ d.place / 16 → ⊥) es) (sym u) (gap m ns)))

  -- so a slot on a way is no number that is kept
  slots-off : {n : ℕ} {ds : List Decl} (m : ℕ) → m ≤ depth_of hs k ds → Nodes key len w n ds → All (Off (slot_of hs k m ds)) ds
  unfolding slot_of
  slots-off zero h ns = all-nodes (λ j d o a i l z. (spot_is (kind_of d.key) (d.place / 16) i l).head (omega (arith, z))) ns
  slots-off {ds = ds} (suc m) h ns =
      let p = node-some hs k m ds (omega (arith, h)) in
      all_both ds
      (λ d a g i l z.
      let s = spot_is (kind_of d.key) (d.place / 16) i l in
      by (eqb (kind_of d.key) 1)
      (λ t. let e = eqb-true (kind_of d.key) 1 t in
      let o = above-name (kind_of d.key) e in
      let f = s.from in
      let b = s.before e in
      side-by (bit_of k m) (λ y. g e (omega (arith, z, y, f, b, o, a, p))) (λ y. g e (omega (arith, z, y, f, b, o, a, p))))
      (λ t. let f = s.own (eqb-false (kind_of d.key) 1 t) in
      let b = s.to in
      side-by (bit_of k m) (λ y. omega (arith, z, y, f, b)) (λ y. omega (arith, z, y, f, b))))
      (all-nodes {X = λ (d : Decl). above_of (kind_of d.key) ≤ d.place / 16} (λ j d o a. a.above) ns) (gap m ns)

-- nor is it one that a new key takes, whose rows are behind all others
slot-new : {key : ℕ → Key} {len : ℕ} {w : List ℕ} {n : ℕ} {ds : List Decl} (k : Key) (m kind r i : ℕ) → m ≤ depth_of (heads_of len) k ds → n + above_of kind ≤ r → i < width_of kind → Nodes key len w n ds
    → slot_of (heads_of len) k m ds ≡ spot_of kind r i → ⊥
slot-new {len = len} {ds = ds} k m kind r i h g l ns z =
    let s = spot_is kind r i l in
    let x = slot-number (heads_of len) k m ds in
    let d = s.head in
    by (eqb kind 1)
    (λ t. let e = eqb-true kind 1 t in
    let o = above-name kind e in
    let f = s.from in
    let b = s.before e in
    let q = slot-low ns k m (r - 1) h (omega (arith, g, o)) in
    by (eqb (spot_of kind r i) (8 * (r - 1)))
    (λ u. q.0 (z ∙ eqb-true (spot_of kind r i) (8 * (r - 1)) u))
    (λ u. let c = eqb-false (spot_of kind r i) (8 * (r - 1)) u in q.1 (omega (arith, z, c, f, b, o, x, d))))
    (λ t. let f = s.own (eqb-false kind 1 t) in let b = s.to in omega (arith, z, f, b, x))

-- ## The whole

module _ (key : ℕ → Key) (len : ℕ) (w w₀ : List ℕ) (v s : ℕ) (numbers : List ℕ) (h : ℕ) (r : Roomy len w) (fit : v / 2 ≤ len) (kinds : kind_of (key v) ≤ 3)
    (e : h ≡ chain_of (heads_of len) (key v)) (l : is_declarable (key v) ≡ true → numbers ≡ numbers_of (key v)) (stored : Kept w (kind_of (key v)) (v / 16) numbers w₀)
    (ends : WayEnds (heads_of len) w h numbers s) where
  abbrev hs : ℕ
  hs = heads_of len

  abbrev row : ℕ
  row = v / 16

  abbrev kind : ℕ
  kind = kind_of (key v)

  abbrev w₁ : List ℕ
  w₁ = rowed w₀ row (tag_of kind v)

  abbrev w₂ : List ℕ
  w₂ = pointing w₁ s (row + 1)

  room : 8 * row + 3 ≤ length w₀
  room = let a = r.room in let b = stored.long in omega (arith, a, b, fit)

  reach : s < length w₁
  reach = let a = r.room in let b = ends.inside in let c = rowed-long w₀ row (tag_of kind v) room in let d = stored.long in omega (arith, a, b, c, d)

  long : length w₂ ≡ length w
  long = pointing-long w₁ s (row + 1) ∙ rowed-long w₀ row (tag_of kind v) room ∙ stored.long

  beside : (i : ℕ) → (i ≡ 8 * row → ⊥) → (i ≡ 8 * row + 2 → ⊥) → (i ≡ s → ⊥) → ((j : ℕ) → j < width_of kind → i ≡ spot_of kind row j → ⊥) → get_or w₂ i 0 ≡ get_or w i 0
  beside i a b c d = point-other w₁ s (row + 1) i c ∙ rowed-other w₀ row (tag_of kind v) room i a b ∙ stored.rest i d

  module _ (n : ℕ) (ds : List Decl) (o : Holds key len w n ds) (g : n + above_of kind ≤ row) (can : is_declarable (key v) ≡ true) where
    abbrev ds' : List Decl
    ds' = fresh key v ∷ ds

    low : n ≤ row
    low = omega (arith, g)

    -- the slot is the end of the way
    at-end : s ≡ slot_of hs (key v) (depth_of hs (key v) ds) ds
    at-end = ends.is key len (key v) n ds refl e (l can) o

    abbrev end : ℕ
    end = depth_of hs (key v) ds

    -- a slot that led somewhere, and is not the end of the new one's way, leads there
    stays : (k : Key) (m : ℕ) → m ≤ depth_of hs k ds → (slot_of hs k m ds ≡ s → ⊥) → pointed w₂ (slot_of hs k m ds) ≡ node_of hs k m ds
    stays k m i d =
        let p = slot_of hs k m ds in
        let q = slot-low o.nodes k m row i low in
        pointed-same w w₂ p (beside p q.0 q.1 d (λ j c z. slot-new k m kind row j i g c o.nodes z)) ∙ o.points k m i

    -- the slots of ways so far are the same
    slot_same : (k : Key) (m : ℕ) → m ≤ depth_of hs k ds → slot_of hs k m ds' ≡ slot_of hs k m ds
    unfolding slot_of
    slot_same k zero i = refl
    slot_same k (suc m) i = ap (λ (x : ℕ). 8 * (x - 1) + side_of (bit_of k m)) (node-other hs k m (fresh key v) ds (λ z. omega (arith, z, i)))

    -- the new one stands where its way ended, on every way that goes there
    now-there : (k : Key) (m : ℕ) → depth_of hs k ds ≡ m → together hs m k (key v) ≡ true → pointed w₂ (slot_of hs k m ds) ≡ suc row
    now-there k m d t =
        let f : depth_of hs (key v) ds ≡ depth_of hs k ds = depth-alike hs m k (key v) ds t (omega (arith, d)) in
        let p : slot_of hs k m ds ≡ s = slot-alike hs m k (key v) ds t ∙ ap (λ (x : ℕ). slot_of hs (key v) x ds) (sym (f ∙ d)) ∙ sym at-end in
        rw p (let z = point-there w₁ s (row + 1) reach in omega (arith, z))

    -- what stood elsewhere does so
    still : (k : Key) (m : ℕ) → m ≤ depth_of hs k ds → (depth_of hs k ds ≡ m → together hs m k (key v) ≡ true → ⊥) → pointed w₂ (slot_of hs k m ds) ≡ node_of hs k m ds
    still k m i d = stays k m i (λ p.
        let j = slot-meet o.nodes k (key v) m end i (omega arith) (p ∙ at-end) in
        let f = depth-alike hs m (key v) k ds (together-swap hs m (key v) k ∙ j.way) (let z = j.deep in omega (arith, z)) in
        d (f ∙ sym j.deep) j.way)

    -- one that goes on behind the new one leads nowhere yet
    behind : (k : Key) (m : ℕ) → depth_of hs k ds ≡ m → together hs m k (key v) ≡ true → pointed w₂ (slot_of hs k (suc m) ds') ≡ node_of hs k (suc m) ds'
    unfolding slot_of
    behind k m d t =
        node_by hs k m (fresh key v) ds
        (λ a b u.
        let p : slot_of hs k (suc m) ds' ≡ 8 * row + side_of (bit_of k m) = ap (λ (x : ℕ). 8 * (x - 1) + side_of (bit_of k m)) u ∙ ap (λ (x : ℕ). 8 * x + side_of (bit_of k m)) (one_less row) in
        let q = slot-low o.nodes (key v) end row (omega arith) low in
        let far : (8 * row + side_of (bit_of k m) ≡ s → ⊥) = λ z. side-by (bit_of k m)
        (λ c. q.0 (let y = at-end in omega (arith, c, z, y)))
        (λ c. q.1 (let y = at-end in omega (arith, c, z, y))) in
        let z : node_of hs k (suc m) ds' ≡ 0 = node-other hs k (suc m) (fresh key v) ds (λ y. omega (arith, y, d)) ∙ node-deep hs k (suc m) ds (omega (arith, d)) in
        ap (pointed w₂) p ∙ pointed-same w₁ w₂ (8 * row + side_of (bit_of k m)) (point-other w₁ s (row + 1) (8 * row + side_of (bit_of k m)) far)
        ∙ rowed-slot w₀ row (tag_of kind v) room (bit_of k m) (omega (arith, kinds)) ∙ sym z)
        (λ u b. absurd (b d t))
      where
        one_less : (x : ℕ) → suc x - 1 ≡ x
        one_less x = omega arith

    points : (k : Key) (m : ℕ) → m ≤ depth_of hs k ds' → pointed w₂ (slot_of hs k m ds') ≡ node_of hs k m ds'
    points k m i = by (leb m (depth_of hs k ds))
        (λ t. let a = leb-true m (depth_of hs k ds) t in
        ap (pointed w₂) (slot_same k m a)
        ∙ node_by hs k m (fresh key v) ds (λ d y u. now-there k m d y ∙ sym u) (λ u d. still k m a d ∙ sym u))
        (λ t. let a = leb-false m (depth_of hs k ds) t in
        by (together hs (depth_of hs k ds) k (key v))
        (λ y. let d = depth-on hs k (fresh key v) ds y in
        let z : m ≡ suc (depth_of hs k ds) = omega (arith, a, d, i) in
        subst (λ (x : ℕ). pointed w₂ (slot_of hs k x ds') ≡ node_of hs k x ds') (sym z) (behind k (depth_of hs k ds) refl y))
        (λ y. let d = depth-off hs k (fresh key v) ds y in absurd (omega (arith, a, d, i))))

    tagged : tag_in w₂ row ≡ tag_of kind v
    unfolding tag_in
    tagged = point-tag w₁ s (row + 1) row reach ∙ (let z = rowed-tag w₀ row (tag_of kind v) room in omega (arith, z, kinds))

    -- its numbers are kept
    kept : (i : ℕ) → i < width_of kind → get_or w₂ (spot_of kind row i) 0 ≡ get_or (numbers_of (key v)) i 0
    kept i c =
        let x = spot_of kind row i in
        point-other w₁ s (row + 1) x (λ z. slot-new (key v) end kind row i (omega arith) g c o.nodes (sym at-end ∙ sym z))
        ∙ rowed-other w₀ row (tag_of kind v) room x (λ z. apart (omega (arith, z))) (λ z. apart (omega (arith, z)))
        ∙ stored.there i c ∙ ap (λ (xs : List ℕ). get_or xs i 0) (l can)
      where
        -- they stand before the new row, or behind its first three numbers
        apart : (8 * row ≤ spot_of kind row i) × (spot_of kind row i < 8 * row + 3) → ⊥
        apart z = let y = spot_is kind row i c in by (eqb kind 1)
            (λ t. let a = eqb-true kind 1 t in let b = y.before a in let u = above-name kind a in let q = z.0 in omega (arith, q, b, u, g))
            (λ t. let b = y.own (eqb-false kind 1 t) in let q = z.1 in omega (arith, q, b))

    -- and so are those of all others
    others : All (Alike w w₂) ds
    others = all_both ds (λ d f x. f x)
        (all-nodes {X = λ (d : Decl). Off s d → Alike w w₂ d} (λ m d q a x.
        let b = a.below in
        record {
          tag = point-tag w₁ s (row + 1) (d.place / 16) reach ∙ tag_same w w₁ (d.place / 16)
              (rowed-other w₀ row (tag_of kind v) room (8 * (d.place / 16) + 2) (λ z. omega (arith, z)) (λ z. omega (arith, z, b, q, g))
              ∙ stored.rest (8 * (d.place / 16) + 2) (λ j c z. let y = (spot_is kind row j c).from in omega (arith, z, y, b, q, g)));
          kept = λ i c. let t = (spot_is (kind_of d.key) (d.place / 16) i c).to in
              beside (spot_of (kind_of d.key) (d.place / 16) i) (λ z. omega (arith, z, t, b, q, g)) (λ z. omega (arith, z, t, b, q, g)) (λ z. x i c (sym z))
              (λ j f z. let y = (spot_is kind row j f).from in omega (arith, z, y, t, b, q, g));
        }) o.nodes)
        (subst (λ (x : ℕ). All (Off x) ds) (sym at-end) (slots-off hs (key v) end (omega arith) o.nodes))

    held : first (key v) ds ≡ None → Holds key len w₂ (row + 1) ds'
    held new = record {
      roomy = record { few = r.few; room = rw long r.room };
      points = points;
      nodes = more {n = row + 1} {d = fresh key v}
          (record { below = omega arith; within = fit; keyed = refl; plain = can; above = omega (arith, g); tag = tagged; kept = kept })
          (keep others (rise (omega (arith, g)) o.nodes));
      once = another new o.once;
    }

  declares : Declares key len w v w₂
  declares = record {
    is = λ n ds o g can new. held n ds o g can new;
    long = long;
    five = λ u k c f. let a = ends.number in
        beside (cell_at u k) (λ z. omega (arith, z, c)) (λ z. omega (arith, z, c)) (λ z. omega (arith, z, c, a)) f;
    beyond = λ i b. let a = ends.inside in
        beside i (λ z. omega (arith, z, b, fit)) (λ z. omega (arith, z, b, fit)) (λ z. omega (arith, z, a, b))
        (λ j c z. let y = (spot_is kind row j c).to in omega (arith, z, y, b, fit));
  }

pub declared : (key : ℕ → Key) (len : ℕ) (w : List ℕ) (v s : ℕ) {numbers w₀ w₁ w₂ : List ℕ} {r : Told} {h tag : ℕ} → Roomy len w → v / 2 ≤ len → NumbersAre (key v) numbers r
    → h ≡ r.hash % heads_of len → WayEnds (heads_of len) w h numbers s → Kept w (kind_number r.kind) (v / 16) numbers w₀ → tag ≡ tag_of (kind_number r.kind) v
    → w₁ ≡ set (set w₀ (8 * (v / 16)) 0) (8 * (v / 16) + 2) tag → w₂ ≡ pointing w₁ s (v / 16 + 1) → Declares key len w v w₂
declared key len w v s {numbers} {w₀} {w₁} {w₂} {r} {h} {tag} a fit n e ends k t y z =
    let c = n.kind in
    subst (Declares key len w v) (sym (z ∙ ap (λ (x : List ℕ). pointing x s (v / 16 + 1)) (y ∙ ap (λ (x : ℕ). rowed w₀ (v / 16) x) (t ∙ ap (λ (x : ℕ). tag_of x v) c))))
    (declares key len w w₀ v s numbers h a fit (kind-few (key v)) (e ∙ chain-is len (key v) r.hash n.hash) n.numbers (subst (λ (x : ℕ). Kept w x (v / 16) numbers w₀) c k) ends)
