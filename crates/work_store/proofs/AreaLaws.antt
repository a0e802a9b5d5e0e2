-- The area and the list that it holds: an area that is cleared, what a store elsewhere leaves, and where the ways of keys lead in it.
use mathlib.Core.Path.{◌≡◌, refl, sym, ap, ◌∙◌, subst}
use mathlib.Core.Bool.{true, false, ◌&&◌, false≢true}
use mathlib.Core.List.{List, []}
use Prim.Native.Nat.{ℕ, zero, suc, ◌+◌, ◌-◌, ◌*◌, ◌/◌, ◌%◌, ◌≤◌, ◌<◌}
use native.Mathlib.Nat.{mod-lt}
use native.Mathlib.Omega.{arith}
use lib.ListN.{length, get_or, set, replicate, length-set, length-replicate}
use lib.Seq.{get_or-set_other}
use lib.Dec.{eqb}
use borrow.Author.Tests.{eq-eqb, ne_eqb, eqb-true, eqb-false}
use Rattle.base_lists.proofs.Bools.{by, and_intro, cond_both}
use Rattle.base_lists.proofs.Lists.{All}
use Rattle.work_rows.specs.Cells.{cell_at}
use Rattle.work_subjects.specs.Keys.{Key, hash_key}
use Rattle.work_subjects.specs.Numbers.{bit_of, kind_of, width_of}
use Rattle.work_store.specs.Store.{Decl, is_place, nothing, heads_of, chain_of, together, depth_of, node_of, side_of, slot_of, pointed, tag_in, mark_in, above_of, spot_of, Node, Nodes, none, more, Roomy, Holds}
use Rattle.work_store.proofs.WayLaws.{bit-small, together-swap, alike, depth-alike, node_by, node-some}

-- ## Clearing

pub zeros : (n i : ℕ) → ◌≡◌ {A = ℕ} (get_or (replicate n 0) i 0) 0
zeros zero i = refl
zeros (suc n) zero = refl
zeros (suc n) (suc i) = zeros n i

-- a cleared area holds nothing
pub holds-none : (key : ℕ → Key) (len : ℕ) (w : List ℕ) → Roomy len w → Holds key len (replicate (length w) 0) 0 []
unfolding depth_of node_of pointed
holds-none key len w r =
    record {
      roomy = record { few = r.few; room = rw length-replicate r.room };
      points = λ k m h. let s = slot_of (heads_of len) k m [] in
          let z = zeros (length w) s in
          cond_both (λ (x : ℕ). x ≡ 0) (eqb (s % 8) 2) (omega (arith, z)) z;
      nodes = none;
      once = nothing;
    }

-- ## Chains

-- the chain of a key
pub chain-is : (len : ℕ) (k : Key) (x : ℕ) → x ≡ hash_key k → x % (len / 8 + 1) ≡ chain_of (heads_of len) k
unfolding chain_of
chain-is len k x e = rw e

pub chain-in : (len x : ℕ) → 8 * (x % (len / 8 + 1)) ≤ len
chain-in len x = let m : x % (len / 8 + 1) < len / 8 + 1 = mod-lt x (omega arith) in omega (arith, m)

-- ## Stores elsewhere

-- a store elsewhere
pub other : (l : List ℕ) (i j a : ℕ) → (j ≡ i → ⊥) → get_or (set l i a) j 0 ≡ get_or l j 0
other l i j a n = get_or-set_other l i j a 0 n

-- what a slot leads to, by the number there
pub pointed-same : (w w' : List ℕ) (s : ℕ) → get_or w' s 0 ≡ get_or w s 0 → pointed w' s ≡ pointed w s
unfolding pointed
pointed-same w w' s e = rw e

pub tag_same : (w w' : List ℕ) (r : ℕ) → get_or w' (8 * r + 2) 0 ≡ get_or w (8 * r + 2) 0 → tag_in w' r ≡ tag_in w r
unfolding tag_in
tag_same w w' r e = rw e

-- ## Where numbers are kept

pub above-name : (kind : ℕ) → kind ≡ 1 → above_of kind ≡ 1
unfolding above_of
above-name kind e = rw e

pub above_other : (kind : ℕ) → (kind ≡ 1 → ⊥) → above_of kind ≡ 0
unfolding above_of
above_other kind n = rw (ne_eqb kind 1 n)

pub spot-name : (kind r i : ℕ) → kind ≡ 1 → (i ≡ 0 → ⊥) → spot_of kind r i ≡ 8 * (r - 1) + (1 + i)
unfolding spot_of
spot-name kind r i e n = rw (e, ne_eqb i 0 n)

pub spot-first : (kind r : ℕ) → kind ≡ 1 → spot_of kind r 0 ≡ 8 * (r - 1)
unfolding spot_of
spot-first kind r e = rw e (let z : 8 * (r - 1) + 0 ≡ 8 * (r - 1) = omega arith in z)

pub spot-own : (kind r i : ℕ) → (kind ≡ 1 → ⊥) → spot_of kind r i ≡ 8 * r + 3 + i
unfolding spot_of
spot-own kind r i n = rw (ne_eqb kind 1 n)

pub width-char : (kind : ℕ) → kind ≡ 0 → width_of kind ≡ 1
unfolding width_of
width-char kind e = rw e

pub width-name : (kind : ℕ) → kind ≡ 1 → width_of kind ≡ 7
unfolding width_of
width-name kind e = rw e

pub width-other : (kind : ℕ) → (kind ≡ 0 → ⊥) → (kind ≡ 1 → ⊥) → width_of kind ≡ 4
unfolding width_of
width-other kind m n = rw (ne_eqb kind 0 m, ne_eqb kind 1 n)

-- a number that is kept for row r stands in a row of its key's own, and is no number 1
pub record Spot (kind r x : ℕ) : Type 0 where
  pub from : 8 * (r - above_of kind) ≤ x
  pub to : x < 8 * r + 8
  pub own : (kind ≡ 1 → ⊥) → 8 * r + 3 ≤ x
  pub before : kind ≡ 1 → x < 8 * (r - 1) + 8
  pub head : x % 8 ≡ 1 → ⊥

pub spot_is : (kind r i : ℕ) → i < width_of kind → Spot kind r (spot_of kind r i)
spot_is kind r i h = by (eqb kind 1)
    (λ t. let e = eqb-true kind 1 t in let a = above-name kind e in let m = width-name kind e in
    by (eqb i 0)
    (λ u. let z : i ≡ 0 = eqb-true i 0 u in
    let s : spot_of kind r i ≡ 8 * (r - 1) = ap (spot_of kind r) z ∙ spot-first kind r e in
    record { from = omega (arith, s, a); to = omega (arith, s); own = λ n. absurd (n e); before = λ x. omega (arith, s); head = λ x. omega (arith, x, s) })
    (λ u. let n = eqb-false i 0 u in
    let s = spot-name kind r i e n in
    record { from = omega (arith, s, a); to = omega (arith, s, h, m); own = λ n. absurd (n e); before = λ x. omega (arith, s, h, m); head = λ x. omega (arith, x, s, h, m, n) }))
    (λ t. let n = eqb-false kind 1 t in let a = above_other kind n in let s = spot-own kind r i n in
    let m : width_of kind ≤ 4 = by (eqb kind 0)
    (λ u. let z = width-char kind (eqb-true kind 0 u) in omega (arith, z))
    (λ u. let z = width-other kind (eqb-false kind 0 u) n in omega (arith, z)) in
    record { from = omega (arith, s, a); to = omega (arith, s, h, m); own = λ x. omega (arith, s); before = λ e. absurd (n e); head = λ x. omega (arith, x, s, h, m) })

-- ## What nodes see

-- Two areas are alike for d: its tag, and the numbers that are kept.
pub record Alike (w w' : List ℕ) (d : Decl) : Type 0 where
  pub tag : tag_in w' (d.place / 16) ≡ tag_in w (d.place / 16)
  pub kept : (i : ℕ) → i < width_of (kind_of d.key) → get_or w' (spot_of (kind_of d.key) (d.place / 16) i) 0 ≡ get_or w (spot_of (kind_of d.key) (d.place / 16) i) 0

module _ {key : ℕ → Key} {len : ℕ} {w : List ℕ} where
  -- nodes see nothing else
  pub keep : {w' : List ℕ} {n : ℕ} {ds : List Decl} → All (Alike w w') ds → Nodes key len w n ds → Nodes key len w' n ds
  keep a none = none
  keep a (more {d = d} x ns) =
      more (record {
        below = x.below;
        within = x.within;
        keyed = x.keyed;
        plain = x.plain;
        above = x.above;
        tag = a.0.tag ∙ x.tag;
        kept = λ i h. a.0.kept i h ∙ x.kept i h;
      }) (keep a.1 ns)

  -- what holds of each node, whatever is known of it, holds of all
  pub all-nodes : {X : Decl → Type 0} {n : ℕ} {ds : List Decl} → ((m : ℕ) (d : Decl) → m ≤ n → Node key len w m d → X d) → Nodes key len w n ds → All X ds
  all-nodes f none = tt
  all-nodes {n = n} f (more {d = d} a ns) = let b = a.below in (f n d (omega arith) a, all-nodes (λ m e l x. f m e (omega (arith, l, b)) x) ns)

  pub node-mark : {n : ℕ} {d : Decl} → Node key len w n d → mark_in w (d.place / 16) ≡ d.place
  node-mark a = let t = a.tag in omega (arith, t)

  -- ## How far ways lead

  pub depth_le : {n : ℕ} {ds : List Decl} (hs : ℕ) (k : Key) → Nodes key len w n ds → depth_of hs k ds ≤ n
  unfolding depth_of
  depth_le hs k none = omega arith
  depth_le hs k (more {d = d} {ds = ds} a ns) = let lt = a.below in let r = depth_le hs k ns in
      by (together hs (depth_of hs k ds) k d.key) (λ e. rw e (omega (arith, lt, r))) (λ e. rw e (omega (arith, lt, r)))

  pub depth-in : {n : ℕ} {ds : List Decl} (hs : ℕ) (k : Key) → Nodes key len w n ds → depth_of hs k ds ≤ len / 8 + 1
  unfolding depth_of
  depth-in hs k none = omega arith
  depth-in hs k (more {d = d} {ds = ds} a ns) = let i = a.within in let r = depth_le hs k ns in
      by (together hs (depth_of hs k ds) k d.key) (λ e. rw e (omega (arith, i, r))) (λ e. rw e (omega (arith, i, r)))

  pub node-le : {n : ℕ} {ds : List Decl} (hs : ℕ) (k : Key) (m : ℕ) → Nodes key len w n ds → node_of hs k m ds ≤ n
  unfolding node_of
  node-le hs k m none = omega arith
  node-le hs k m (more {d = d} {ds = ds} a ns) = let lt = a.below in let r = node-le hs k m ns in
      by (eqb (depth_of hs k ds) m && together hs m k d.key) (λ e. rw e (omega (arith, lt))) (λ e. rw e (omega (arith, lt, r)))

  pub node_in : {n : ℕ} {ds : List Decl} (hs : ℕ) (k : Key) (m : ℕ) → Nodes key len w n ds → node_of hs k m ds ≤ len / 8 + 1
  unfolding node_of
  node_in hs k m none = omega arith
  node_in hs k m (more {d = d} {ds = ds} a ns) = let i = a.within in let r = node_in hs k m ns in
      by (eqb (depth_of hs k ds) m && together hs m k d.key) (λ e. rw e (omega (arith, i))) (λ e. rw e r)

  -- what stands on a way is declared, in the row whose mark tells its place
  pub node-place : {n : ℕ} {ds : List Decl} (hs : ℕ) (k : Key) (m r : ℕ) → Nodes key len w n ds → node_of hs k m ds ≡ suc r → is_place (mark_in w r) ds ≡ true
  unfolding is_place node_of
  node-place hs k m r none e = absurd (let z : ◌≡◌ {A = ℕ} 0 (suc r) = e in omega (arith, z))
  node-place hs k m r (more {d = d} {ds = ds} a ns) e =
      node_by hs k m d ds
      (λ x s u. let z : r ≡ d.place / 16 = omega (arith, u, e) in rw (eq-eqb d.place (mark_in w r) (sym (ap (mark_in w) z ∙ node-mark a))))
      (λ u v. let i = node-place hs k m r ns (sym u ∙ e) in by (eqb d.place (mark_in w r)) (λ t. rw t) (λ t. rw t i))

-- What stands at one place on two ways stands at one depth, and the two go the same way so far.
pub record Meet (hs : ℕ) (a b : Key) (m l : ℕ) : Type 0 where
  pub deep : m ≡ l
  pub way : together hs m a b ≡ true

pub node-meet : {key : ℕ → Key} {len : ℕ} {w : List ℕ} {n : ℕ} {ds : List Decl} (hs : ℕ) (a b : Key) (m l r : ℕ) → Nodes key len w n ds
    → node_of hs a m ds ≡ suc r → node_of hs b l ds ≡ suc r → Meet hs a b m l
unfolding node_of
node-meet hs a b m l r none e f = absurd (let z : ◌≡◌ {A = ℕ} 0 (suc r) = e in omega (arith, z))
node-meet hs a b m l r (more {d = d} {ds = ds} x ns) e f =
    node_by hs a m d ds
    (λ p s u. node_by hs b l d ds
    (λ q t v.
    let i : depth_of hs d.key ds ≡ depth_of hs a ds = depth-alike hs m a d.key ds s (omega (arith, p)) in
    let j : depth_of hs d.key ds ≡ depth_of hs b ds = depth-alike hs l b d.key ds t (omega (arith, q)) in
    let z : m ≡ l = sym p ∙ sym i ∙ j ∙ q in
    record { deep = z; way = alike hs m m a d.key b (omega arith) s ∙ together-swap hs m d.key b ∙ rw z t })
    (λ v t. let o = node-le hs b l ns in absurd (omega (arith, u, e, v, f, o))))
    (λ u s. node_by hs b l d ds
    (λ q t v. let o = node-le hs a m ns in absurd (omega (arith, u, e, v, f, o)))
    (λ v t. node-meet hs a b m l r ns (sym u ∙ e) (sym v ∙ f)))

-- ## Slots

-- a side is a number of a row
pub side-by : {X : Type 0} (b : ℕ) → (side_of b ≡ 0 → X) → (side_of b ≡ 2 → X) → X
side-by b f g = by (eqb b 0) (λ t. f (rw t)) (λ t. g (rw t))

pub side-one : (a b : ℕ) → a < 2 → b < 2 → side_of a ≡ side_of b → a ≡ b
side-one a b h i e = by (eqb a 0)
    (λ t. by (eqb b 0)
    (λ s. eqb-true a 0 t ∙ sym (eqb-true b 0 s))
    (λ s. let z : ◌≡◌ {A = ℕ} 0 2 = rw (t, s) at e in absurd (omega (arith, z))))
    (λ t. by (eqb b 0)
    (λ s. let z : ◌≡◌ {A = ℕ} 2 0 = rw (t, s) at e in absurd (omega (arith, z)))
    (λ s. let f = eqb-false a 0 t in let g = eqb-false b 0 s in omega (arith, h, i, f, g)))

-- a slot is one of the first three numbers of its row
pub slot-number : (hs : ℕ) (k : Key) (m : ℕ) (ds : List Decl) → slot_of hs k m ds % 8 < 3
unfolding slot_of
slot-number hs k zero ds = omega arith
slot-number hs k (suc m) ds = side-by (bit_of k m) (λ e. omega (arith, e)) (λ e. omega (arith, e))

module _ {key : ℕ → Key} {len : ℕ} {w : List ℕ} {n : ℕ} {ds : List Decl} (ns : Nodes key len w n ds) where
  abbrev hs : ℕ
  hs = heads_of len

  pub slot-inside : (k : Key) (m : ℕ) → m ≤ depth_of hs k ds → slot_of hs k m ds < 8 * heads_of len
  unfolding slot_of chain_of
  slot-inside k zero h = let c = chain-in len (hash_key k) in omega (arith, c)
  slot-inside k (suc m) h =
      let s = node-some hs k m ds (omega (arith, h)) in
      let i = node_in hs k m ns in
      side-by (bit_of k m) (λ e. omega (arith, e, s, i)) (λ e. omega (arith, e, s, i))

  -- it is a head, or a link in a row that is in use
  pub slot-low : (k : Key) (m r : ℕ) → m ≤ depth_of hs k ds → n ≤ r → (slot_of hs k m ds ≡ 8 * r → ⊥) × (slot_of hs k m ds ≡ 8 * r + 2 → ⊥)
  unfolding slot_of
  slot-low k zero r h b = (λ e. omega (arith, e), λ e. omega (arith, e))
  slot-low k (suc m) r h b =
      let s = node-some hs k m ds (omega (arith, h)) in
      let i = node-le hs k m ns in
      side-by (bit_of k m) (λ z. (λ e. omega (arith, e, z, s, i, b), λ e. omega (arith, e, z, s, i, b))) (λ z. (λ e. omega (arith, e, z, s, i, b), λ e. omega (arith, e, z, s, i, b)))

  -- two slots that are one lead on ways that are the same so far
  pub slot-meet : (a b : Key) (m l : ℕ) → m ≤ depth_of hs a ds → l ≤ depth_of hs b ds → slot_of hs a m ds ≡ slot_of hs b l ds → Meet hs a b m l
  unfolding slot_of together
  slot-meet a b zero zero h i e = record { deep = refl; way = eq-eqb (chain_of hs a) (chain_of hs b) (omega (arith, e)) }
  slot-meet a b zero (suc l) h i e = side-by (bit_of b l) (λ z. absurd (omega (arith, e, z))) (λ z. absurd (omega (arith, e, z)))
  slot-meet a b (suc m) zero h i e = side-by (bit_of a m) (λ z. absurd (omega (arith, e, z))) (λ z. absurd (omega (arith, e, z)))
  slot-meet a b (suc m) (suc l) h i e =
      let p = node-some hs a m ds (omega (arith, h)) in
      let q = node-some hs b l ds (omega (arith, i)) in
      let sides : side_of (bit_of a m) ≡ side_of (bit_of b l) = side-by (bit_of a m)
      (λ x. side-by (bit_of b l) (λ y. x ∙ sym y) (λ y. absurd (omega (arith, e, x, y))))
      (λ x. side-by (bit_of b l) (λ y. absurd (omega (arith, e, x, y))) (λ y. x ∙ sym y)) in
      let rows : node_of hs a m ds ≡ node_of hs b l ds = omega (arith, e, sides, p, q) in
      let r : node_of hs a m ds ≡ suc (node_of hs a m ds - 1) = omega (arith, p) in
      let j = node-meet hs a b m l (node_of hs a m ds - 1) ns r (sym rows ∙ r) in
      let bits : bit_of a m ≡ bit_of b l = side-one (bit_of a m) (bit_of b l) (bit-small a m) (bit-small b l) sides in
      record {
        deep = ap suc j.deep;
        way = and_intro j.way (eq-eqb (bit_of a m) (bit_of b m) (bits ∙ ap (bit_of b) (sym j.deep)));
      }

-- a bound may rise
pub rise : {key : ℕ → Key} {len : ℕ} {w : List ℕ} {n m : ℕ} {ds : List Decl} → n ≤ m → Nodes key len w n ds → Nodes key len w m ds
rise h none = none
rise {m = m} h (more {d = d} a ns) =
    more {n = m} {d = d} (record { below = omega (arith, a.below, h); within = a.within; keyed = a.keyed; plain = a.plain; above = a.above; tag = a.tag; kept = a.kept }) ns

-- what is declared lies in a row below the bound
pub placed : {key : ℕ → Key} {len : ℕ} {w : List ℕ} {n : ℕ} {ds : List Decl} (p : ℕ) → Nodes key len w n ds → is_place p ds ≡ true → p / 16 < n
unfolding is_place
placed p none e = absurd (false≢true e)
placed p (more {d = d} a ns) e = by (eqb d.place p)
    (λ t. omega (arith, eqb-true d.place p t, a.below))
    (λ t. omega (arith, placed p ns (rw t at e), a.below))

pub placed-within : {key : ℕ → Key} {len : ℕ} {w : List ℕ} {n : ℕ} {ds : List Decl} (p : ℕ) → Nodes key len w n ds → is_place p ds ≡ true → p / 2 ≤ len
unfolding is_place
placed-within p none e = absurd (false≢true e)
placed-within p (more {d = d} a ns) e =
    by (eqb d.place p) (λ t. omega (arith, eqb-true d.place p t, a.within)) (λ t. placed-within p ns (rw t at e))

-- ## Behind the rows

-- what holds goes on holding where only numbers behind the rows change
pub holds-beyond : {key : ℕ → Key} {len : ℕ} {w w' : List ℕ} {n : ℕ} {ds : List Decl} → length w' ≡ length w
    → ((i : ℕ) → i < 8 * heads_of len → get_or w' i 0 ≡ get_or w i 0) → Holds key len w n ds → Holds key len w' n ds
holds-beyond {len = len} {w = w} {w' = w'} {ds = ds} e f v =
    record {
      roomy = record { few = v.roomy.few; room = rw e v.roomy.room };
      points = λ k m h. pointed-same w w' (slot_of (heads_of len) k m ds) (f (slot_of (heads_of len) k m ds) (slot-inside v.nodes k m h)) ∙ v.points k m h;
      nodes = keep (all-nodes (λ m d l a. let i = a.within in record {
        tag = tag_same w w' (d.place / 16) (f (8 * (d.place / 16) + 2) (omega (arith, i)));
        kept = λ j h. let s = (spot_is (kind_of d.key) (d.place / 16) j h).to in f (spot_of (kind_of d.key) (d.place / 16) j) (omega (arith, s, i));
      }) v.nodes) v.nodes;
      once = v.once;
    }

-- ## The five numbers of rows

-- The number k of the five of row v is not one where a key of a kind is kept that is declared there.
abbrev pub Free : ℕ → ℕ → ℕ → Type 0
Free kind v k = (i : ℕ) → i < width_of kind → cell_at v k ≡ spot_of kind (v / 16) i → ⊥

-- of a name all five are free, of a character all but the first
pub free-name : (kind v k : ℕ) → k < 5 → kind ≡ 1 → 1 ≤ v / 16 → Free kind v k
free-name kind v k h e o i l z = let s = (spot_is kind (v / 16) i l).before e in omega (arith, z, s, o)

pub free-char : (kind v k : ℕ) → 1 ≤ k → kind ≡ 0 → Free kind v k
free-char kind v k h e i l z =
    let m = width-char kind e in
    let n : (kind ≡ 1 → ⊥) = λ x. omega (arith, x, e) in
    let s = spot-own kind (v / 16) i n in
    omega (arith, z, s, l, m, h)

-- where the number is none that is kept for d, all is alike
told-alike : (w : List ℕ) (v k x : ℕ) → k < 5 → (d : Decl) → ((i : ℕ) → i < width_of (kind_of d.key) → cell_at v k ≡ spot_of (kind_of d.key) (d.place / 16) i → ⊥)
    → Alike w (set w (cell_at v k) x) d
told-alike w v k x h d f = record {
  tag = tag_same w (set w (cell_at v k) x) (d.place / 16) (other w (cell_at v k) (8 * (d.place / 16) + 2) x (λ e. omega (arith, e, h)));
  kept = λ i l. other w (cell_at v k) (spot_of (kind_of d.key) (d.place / 16) i) x (λ e. f i l (sym e));
}

module _ {key : ℕ → Key} {len : ℕ} {w : List ℕ} (v k x : ℕ) (h : k < 5) where
  -- and so it is for all that was declared in rows before
  told-before : {n : ℕ} {ds : List Decl} → n ≤ v / 16 → Nodes key len w n ds → All (Alike w (set w (cell_at v k) x)) ds
  told-before b ns = all-nodes (λ m d l a. let c = a.below in
      told-alike w v k x h d (λ i j e. let s = (spot_is (kind_of d.key) (d.place / 16) i j).to in omega (arith, e, s, c, l, b))) ns

  -- and for all, where the number belongs to a row that is declared
  told-all : {n : ℕ} {ds : List Decl} → is_place v ds ≡ true → Free (kind_of (key v)) v k → Nodes key len w n ds → All (Alike w (set w (cell_at v k) x)) ds
  unfolding is_place
  told-all p f none = tt
  told-all p f (more {d = d} {ds = es} a ns) = by (eqb d.place v)
      (λ t. let e = eqb-true d.place v t in
      let c : key v ≡ d.key = ap key (sym e) ∙ a.keyed in
      let g : Free (kind_of d.key) d.place k = subst (λ (z : Key). Free (kind_of z) d.place k) c (subst (λ (z : ℕ). Free (kind_of (key v)) z k) (sym e) f) in
      (told-alike w v k x h d (λ i l q. g i l (ap (λ (z : ℕ). cell_at z k) e ∙ q)), told-before (omega (arith, e)) ns))
      (λ t. let r : is_place v es ≡ true = rw t at p in
      let b = placed v ns r in
      (told-alike w v k x h d (λ i l q. let s = (spot_is (kind_of d.key) (d.place / 16) i l).from in omega (arith, q, s, b, h)), told-all r f ns))

  -- what holds goes on holding
  pub holds-told : {n : ℕ} {ds : List Decl} → is_place v ds ≡ true → Free (kind_of (key v)) v k → Holds key len w n ds → Holds key len (set w (cell_at v k) x) n ds
  holds-told {ds = ds} p f o =
      record {
        roomy = record { few = o.roomy.few; room = rw length-set o.roomy.room };
        points = λ j m i.
            pointed-same w (set w (cell_at v k) x) (slot_of (heads_of len) j m ds)
            (other w (cell_at v k) (slot_of (heads_of len) j m ds) x (λ e. let z = slot-number (heads_of len) j m ds in omega (arith, e, z, h)))
            ∙ o.points j m i;
        nodes = keep (told-all p f o.nodes) o.nodes;
        once = o.once;
      }

  -- and so it does where a number behind the rows changes
  pub holds-behind : {n : ℕ} {ds : List Decl} → heads_of len ≤ v / 16 → Holds key len w n ds → Holds key len (set w (cell_at v k) x) n ds
  holds-behind b o = holds-beyond (length-set w (cell_at v k) x) (λ i l. other w (cell_at v k) i x (λ e. omega (arith, e, l, b))) o
