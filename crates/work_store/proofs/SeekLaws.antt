-- Following the way of a key: the turns of find.
use Rattle.std.specs.Prelude.{None, Option, Some, ℕ}
use mathlib.Core.Path.{◌≡◌, refl, sym, ap, ◌∙◌, subst}
use mathlib.Core.Bool.{Bool, true, false, ◌&&◌}
use mathlib.Core.List.{List, [], ◌∷◌}
use Prim.Native.Nat.{ℕ, suc, ◌+◌, ◌-◌, ◌*◌, ◌/◌, ◌%◌, ◌^◌, ◌≤◌, ◌<◌}
use native.Mathlib.Numerals.{add-one}
use native.Mathlib.Omega.{arith}
use lib.ListN.{length, get_or}
use lib.Seq.{ext_get_or}
use lib.Dec.{eqb, leb}
use borrow.Author.Tests.{eq-eqb, eqb-true, eqb-false, leb-true, leb-false}
use Rattle.base_lists.proofs.Bools.{by, and_left, and_right, and_intro, clash}
use Rattle.work_subjects.specs.Keys.{Key, same_key}
use Rattle.work_subjects.specs.declared.Told.{Told}
use Rattle.work_subjects.specs.Numbers.{kind_number, is_declarable, kind_of, width_of, numbers_of, bit_of, NumbersAre}
use Rattle.work_subjects.proofs.KeyLaws.{same_key-true, same_key-equal}
use Rattle.work_subjects.proofs.BitLaws.{numbers_apart, numbers-long, numbers-past}
use Rattle.work_store.specs.Store.{Decl, first, is_place, Once, heads_of, chain_of, together, depth_of, node_of, side_of, slot_of, pointed, tag_in, tag_of, mark_in, spot_of, keeps, Node, Nodes, none, more, Holds, Sound, Finds, Sought, SomeSought, FindsAny}
use Rattle.work_store.proofs.WayLaws.{together-refl, depth-on, depth-more, node_by, node-deep, node-none}
use Rattle.work_store.proofs.AreaLaws.{chain-is, node-mark, node_in, node-place}
use Rattle.work_store.proofs.SlotLaws.{keeps-all, keeps-each}
use Rattle.work_store.proofs.DepthLaws.{depth_low}
use Rattle.work_store.proofs.ListLaws.{nodes-keyed, once-found}

-- ## Other keys

-- What stands on the way of k before depth m has other keys.
pub data Differs (hs : ℕ) (k : Key) (m : ℕ) : List Decl → Type 0 where
  nothing : Differs hs k m []
  besides : {d : Decl} {ds : List Decl} → (depth_of hs k ds < m → together hs (depth_of hs k ds) k d.key ≡ true → same_key d.key k ≡ false)
      → Differs hs k m ds → Differs hs k m (d ∷ ds)

module _ (hs : ℕ) (k : Key) where
  differs-start : (ds : List Decl) → Differs hs k 0 ds
  differs-start [] = nothing
  differs-start (d ∷ ds) = besides {d = d} {ds = ds} (λ l t. absurd (omega (arith, l))) (differs-start ds)

  differs-deeper : (m : ℕ) (ds : List Decl) → depth_of hs k ds ≤ m → Differs hs k m ds → Differs hs k (suc m) ds
  differs-deeper m ds h nothing = nothing
  differs-deeper m ds h (besides {d = d} {ds = es} x r) = let o = depth-more hs k d es in
      besides (λ l t. let e = depth-on hs k d es t in x (omega (arith, e, h)) t) (differs-deeper m es (omega (arith, o, h)) r)

  -- a key whose way is passed whole is not declared
  differs_none : (m : ℕ) (ds : List Decl) → depth_of hs k ds ≤ m → Differs hs k m ds → first k ds ≡ None
  unfolding first
  differs_none m ds h nothing = refl
  differs_none m ds h (besides {d = d} {ds = es} x r) =
      let o = depth-more hs k d es in
      let i = differs_none m es (omega (arith, o, h)) r in
      by (same_key d.key k)
      (λ t. let z = same_key-true d.key k t in
      let s : together hs (depth_of hs k es) k d.key ≡ true = subst (λ (q : Key). together hs (depth_of hs k es) k q ≡ true) (sym z) (together-refl hs (depth_of hs k es) k) in
      let e = depth-on hs k d es s in
      clash t (x (omega (arith, e, h)) s))
      (λ t. rw t i)

  module _ {key : ℕ → Key} {len : ℕ} {w : List ℕ} where
    differs-on : {n : ℕ} (m r : ℕ) (ds : List Decl) → Nodes key len w n ds → node_of hs k m ds ≡ suc r → same_key (key (mark_in w r)) k ≡ false
        → Differs hs k m ds → Differs hs k (suc m) ds
    differs-on m r ds none e z nothing = nothing
    differs-on m r ds (more {d = d} {ds = es} a ns) e z (besides x q) =
        node_by hs k m d es
        (λ i s u.
        let row : r ≡ d.place / 16 = omega (arith, u, e) in
        let f : key (mark_in w r) ≡ d.key = ap (λ (y : ℕ). key (mark_in w y)) row ∙ ap key (node-mark a) ∙ a.keyed in
        besides (λ l t. ap (λ (y : Key). same_key y k) (sym f) ∙ z) (differs-deeper m es (omega (arith, i)) q))
        (λ u v. besides
        (λ l t. by (eqb (depth_of hs k es) m)
        (λ y. let c = eqb-true (depth_of hs k es) m y in absurd (v c (subst (λ (b : ℕ). together hs b k d.key ≡ true) c t)))
        (λ y. let n = eqb-false (depth_of hs k es) m y in x (omega (arith, l, n)) t))
        (differs-on m r es ns (sym u ∙ e) z q))

-- ## What cannot be declared

strange-none : {key : ℕ → Key} {len : ℕ} {w : List ℕ} {n : ℕ} (k : Key) (ds : List Decl) → is_declarable k ≡ false → Nodes key len w n ds → first k ds ≡ None
unfolding first
strange-none k ds s none = refl
strange-none k ds s (more {d = d} {ds = es} a ns) =
    by (same_key d.key k)
    (λ t. clash (ap is_declarable (sym (same_key-true d.key k t)) ∙ a.plain) s)
    (λ t. rw t (strange-none k es s ns))

pub strange-nowhere : {key : ℕ → Key} {len : ℕ} {w : List ℕ} {k : Key} {numbers : List ℕ} {r : Told} → NumbersAre k numbers r → r.plain ≡ false → Finds key len w k None
strange-nowhere {k = k} a f = record { is = λ n ds o. sym (strange-none k ds (sym a.plain ∙ f) o.nodes) }

-- ## The key in a row

-- What is declared in row r.
record In (key : ℕ → Key) (len : ℕ) (w : List ℕ) (r : ℕ) : Type 0 where
  pub n : ℕ
  pub d : Decl
  pub node : Node key len w n d
  pub row : d.place / 16 ≡ r

node_row : {key : ℕ → Key} {len : ℕ} {w : List ℕ} {n : ℕ} {ds : List Decl} (hs : ℕ) (k : Key) (m r : ℕ) → Nodes key len w n ds → node_of hs k m ds ≡ suc r → In key len w r
unfolding node_of
node_row hs k m r none e = absurd (let z : ◌≡◌ {A = ℕ} 0 (suc r) = e in omega (arith, z))
node_row hs k m r (more {n = n} {d = d} {ds = ds} a ns) e =
    node_by hs k m d ds
    (λ x s u. record { n = n; d = d; node = a; row = omega (arith, u, e) })
    (λ u v. node_row hs k m r ns (sym u ∙ e))

-- keys of one kind whose numbers are the same as far as the kind has any are the same
numbers-same : (a b : Key) → is_declarable a ≡ true → is_declarable b ≡ true → kind_of a ≡ kind_of b
    → ((i : ℕ) → i < width_of (kind_of b) → get_or (numbers_of a) i 0 ≡ get_or (numbers_of b) i 0) → a ≡ b
numbers-same a b h j e f = numbers_apart a b h j e (ext_get_or 0 (numbers_of a) (numbers_of b) (numbers-long a h ∙ sym (numbers-long b j)) (λ i l.
    by (leb (width_of (kind_of b)) i)
    (λ t. let o = leb-true (width_of (kind_of b)) i t in numbers-past a h i (subst (λ (x : ℕ). width_of x ≤ i) (sym e) o) ∙ sym (numbers-past b j i o))
    (λ t. f i (leb-false (width_of (kind_of b)) i t))))

-- the kind and the numbers that a row tells are those of k exactly where k is declared there
key-told : {key : ℕ → Key} {len : ℕ} {w : List ℕ} {r : ℕ} (k : Key) → is_declarable k ≡ true → In key len w r
    → (eqb (tag_in w r / 16) (kind_of k) && keeps w (kind_of k) r (numbers_of k) (width_of (kind_of k))) ≡ same_key (key (mark_in w r)) k
key-told {key} {len} {w} {r} k y q =
    let d = q.d in
    let a = q.node in
    let e = q.row in
    let is : key (mark_in w r) ≡ d.key = ap (λ (x : ℕ). key (mark_in w x)) (sym e) ∙ ap key (node-mark a) ∙ a.keyed in
    let kind : tag_in w r / 16 ≡ kind_of d.key = (let t : tag_in w r ≡ tag_of (kind_of d.key) d.place = ap (tag_in w) (sym e) ∙ a.tag in omega (arith, t)) in
    let ks = keeps w (kind_of k) r (numbers_of k) (width_of (kind_of k)) in
    by (same_key (key (mark_in w r)) k)
    (λ t. let z : d.key ≡ k = sym is ∙ same_key-true (key (mark_in w r)) k t in
    and_intro (eq-eqb (tag_in w r / 16) (kind_of k) (kind ∙ ap kind_of z))
    (keeps-all w (kind_of k) r (numbers_of k) (width_of (kind_of k))
    (subst (λ (x : ℕ). (i : ℕ) → i < width_of (kind_of k) → get_or w (spot_of (kind_of k) x i) 0 ≡ get_or (numbers_of k) i 0) e
    (subst (λ (x : Key). (i : ℕ) → i < width_of (kind_of x) → get_or w (spot_of (kind_of x) (d.place / 16) i) 0 ≡ get_or (numbers_of x) i 0) z a.kept)))
    ∙ sym t)
    (λ t. by (eqb (tag_in w r / 16) (kind_of k) && ks)
    (λ u. let c : kind_of d.key ≡ kind_of k = sym kind ∙ eqb-true (tag_in w r / 16) (kind_of k) (and_left (eqb (tag_in w r / 16) (kind_of k)) ks u) in
    let f = keeps-each w (kind_of k) r (numbers_of k) (width_of (kind_of k)) (and_right (eqb (tag_in w r / 16) (kind_of k)) ks u) in
    let z : d.key ≡ k = numbers-same d.key k a.plain y c (λ i l.
    sym (a.kept i (subst (λ (x : ℕ). i < width_of x) (sym c) l))
    ∙ ap (λ (x : ℕ). get_or w (spot_of x (d.place / 16) i) 0) c ∙ ap (λ (x : ℕ). get_or w (spot_of (kind_of k) x i) 0) e ∙ f i l) in
    clash (same_key-equal (is ∙ z)) t)
    (λ u. u ∙ sym t))

-- ## The search

-- It has come to depth m, and l is what stands there.
pub record Left (key : ℕ → Key) (len : ℕ) (w : List ℕ) (k : Key) (l m : ℕ) (n : ℕ) (ds : List Decl) : Type 0 where
  pub nodes : Nodes key len w n ds
  pub once : Once ds
  pub link : node_of (heads_of len) k m ds ≡ l
  pub differs : Differs (heads_of len) k m ds
  pub to : m ≤ depth_of (heads_of len) k ds

-- So it is whatever list the area holds; no way goes deeper than 259.
pub record Seek (key : ℕ → Key) (len : ℕ) (w : List ℕ) (k : Key) (l m : ℕ) : Type 0 where
  pub bound : l ≤ len / 8 + 1
  pub deep : m ≤ 259
  pub few : len ≤ 1048576
  pub room : len + 64 ≤ length w
  pub left : (n : ℕ) (ds : List Decl) → Holds key len w n ds → Left key len w k l m n ds

module _ {key : ℕ → Key} {len : ℕ} {w : List ℕ} {k : Key} where
  seek : (l m : ℕ) → is_declarable k ≡ true → Sound key len w → ((n : ℕ) (ds : List Decl) → Holds key len w n ds → Left key len w k l m n ds) → Seek key len w k l m
  seek l m y o f = let r = f o.n o.ds o.holds in
      let a = r.link in
      let b = node_in (heads_of len) k m r.nodes in
      let c = r.to in
      let d = depth_low (heads_of len) k y r.nodes r.once in
      record { bound = omega (arith, a, b); deep = omega (arith, c, d); few = o.holds.roomy.few; room = o.holds.roomy.room; left = f }

  pub seek-start : {h l : ℕ} → is_declarable k ≡ true → Sound key len w → h ≡ chain_of (heads_of len) k → l ≡ pointed w (8 * h + 1) → Seek key len w k l 0
  unfolding slot_of
  seek-start {h} {l} y o e is = seek l 0 y o (λ n ds v. record {
    nodes = v.nodes;
    once = v.once;
    link = sym (v.points k 0 (omega arith)) ∙ sym (is ∙ ap (λ (x : ℕ). pointed w (8 * x + 1)) e);
    differs = differs-start (heads_of len) k ds;
    to = omega arith;
  })

  pub seek-none : {l m : ℕ} → Seek key len w k l m → l ≤ 0 → Finds key len w k None
  seek-none {l} {m} v h = record {
    is = λ n ds o. let f = v.left n ds o in
        let z = f.link in
        sym (differs_none (heads_of len) k m ds (node-none (heads_of len) k m ds (omega (arith, z, h))) f.differs);
  }

  module _ {l m : ℕ} (v : Seek key len w k l m) (h : 0 < l) where
    struck : {n : ℕ} {ds : List Decl} → Left key len w k l m n ds → node_of (heads_of len) k m ds ≡ suc (l - 1)
    struck f = let z = f.link in omega (arith, z, h)

    pub seek_found : {t : Bool} {p : ℕ} → p ≡ mark_in w (l - 1) → t ≡ same_key (key p) k → t ≡ true → Finds key len w k (Some p)
    seek_found {p = p} is q t0 = record {
      is = λ n ds o. let f = v.left n ds o in
          let place = subst (λ (x : ℕ). is_place x ds ≡ true) (sym is) (node-place (heads_of len) k m (l - 1) f.nodes (struck f)) in
          let e : key p ≡ k = same_key-true (key p) k (sym q ∙ t0) in
          sym (ap (λ (x : Key). first x ds) (sym e) ∙ once-found key p ds (nodes-keyed o.nodes) o.once place);
    }

    pub seek-on : {t : Bool} {p side j : ℕ} → is_declarable k ≡ true → Sound key len w → p ≡ mark_in w (l - 1) → t ≡ same_key (key p) k → t ≡ false
        → side ≡ side_of (bit_of k m) → j ≡ pointed w (8 * (l - 1) + side) → Seek key len w k j (m + 1)
    unfolding slot_of
    seek-on {p = p} {side = side} {j = j} y o is q f0 s at = seek j (m + 1) y o (λ n ds u.
        let f = v.left n ds u in
        let e = struck f in
        let deeper : suc m ≤ depth_of (heads_of len) k ds = on f in
        let c : same_key (key (mark_in w (l - 1))) k ≡ false = ap (λ (x : ℕ). same_key (key x) k) (sym is) ∙ sym q ∙ f0 in
        subst (λ (x : ℕ). Left key len w k j x n ds) (sym (add-one m)) (record {
          nodes = f.nodes;
          once = f.once;
          link = sym (u.points k (suc m) deeper) ∙ ap (λ (x : ℕ). pointed w (8 * (x - 1) + side_of (bit_of k m))) f.link ∙ sym (at ∙ ap (λ (x : ℕ). pointed w (8 * (l - 1) + x)) s);
          differs = differs-on (heads_of len) k m (l - 1) ds f.nodes e c f.differs;
          to = deeper;
        }))
      where
        on : {n : ℕ} {ds : List Decl} → Left key len w k l m n ds → suc m ≤ depth_of (heads_of len) k ds
        on {ds = ds} f = by (eqb m (depth_of (heads_of len) k ds))
            (λ t. let c = eqb-true m (depth_of (heads_of len) k ds) t in let z = node-deep (heads_of len) k m ds (omega (arith, c)) in let y = f.link in absurd (omega (arith, z, y, h)))
            (λ t. let c = eqb-false m (depth_of (heads_of len) k ds) t in let y = f.to in omega (arith, y, c))

-- ## The same with the numbers and the kind of the key

module _ {w numbers : List ℕ} {kind h : ℕ} {at : ℕ → Key} {len : ℕ} {k : Key} (q : Sought w numbers kind h at len k) {l m : ℕ} (v : Seek at len w k l m) (some : 0 < l)
    {tag : ℕ} (g : tag ≡ tag_in w (l - 1)) {t : Bool} (c : t ≡ (eqb (tag / 16) kind && keeps w kind (l - 1) numbers (width_of kind))) where
  -- whether the key is declared in the row
  says : t ≡ same_key (at (mark_in w (l - 1))) k
  says =
      let o = q.sound in
      let f = v.left o.n o.ds o.holds in
      let i = node_row (heads_of len) k m (l - 1) f.nodes (struck v some f) in
      c ∙ ap (λ (x : ℕ). eqb (x / 16) kind && keeps w kind (l - 1) numbers (width_of kind)) g
      ∙ ap (λ (x : ℕ). eqb (tag_in w (l - 1) / 16) x && keeps w x (l - 1) numbers (width_of x)) q.kinds
      ∙ ap (λ (xs : List ℕ). eqb (tag_in w (l - 1) / 16) (kind_of k) && keeps w (kind_of k) (l - 1) xs (width_of (kind_of k))) q.numbers
      ∙ key-told k q.plain i

  sought-here : {p : ℕ} → t ≡ true → p ≡ 16 * (l - 1) + tag % 16 → Finds at len w k (Some p)
  sought-here {p} e is =
      let z : p ≡ mark_in w (l - 1) = is ∙ ap (λ (x : ℕ). 16 * (l - 1) + x % 16) g in
      seek_found v some z (says ∙ ap (λ (x : ℕ). same_key (at x) k) (sym z)) e

  sought-on : {side j : ℕ} → t ≡ false → side ≡ side_of (get_or numbers (m / 32) 0 / 2 ^ (m % 32) % 2) → j ≡ pointed w (8 * (l - 1) + side) → Seek at len w k j (m + 1)
  unfolding bit_of
  sought-on e s j = seek-on v some q.plain q.sound refl says e (s ∙ ap (λ (xs : List ℕ). side_of (get_or xs (m / 32) 0 / 2 ^ (m % 32) % 2)) q.numbers) j

-- ## Whatever source the area belongs to

-- The search has come to l, at depth m.
pub record Seeking (w numbers : List ℕ) (kind h l m : ℕ) : Type 0 where
  pub low : l ≤ 131073
  pub room : 8 * l + 8 ≤ length w
  pub deep : m ≤ 259
  pub long : length numbers ≡ 8
  pub each : (at : ℕ → Key) (len : ℕ) (k : Key) → Sought w numbers kind h at len k → Seek at len w k l m

module _ {w numbers : List ℕ} {kind h : ℕ} (s : SomeSought w numbers kind h) where
  seeking : {l m : ℕ} → ((at : ℕ → Key) (len : ℕ) (k : Key) → Sought w numbers kind h at len k → Seek at len w k l m) → Seeking w numbers kind h l m
  seeking {l} f =
      let v = f s.at s.len s.k s.sought in
      let a = v.bound in
      let b = v.few in
      let c = v.room in
      record {
        low = omega (arith, a, b);
        room = omega (arith, a, c);
        deep = v.deep;
        long = ap length s.sought.numbers ∙ numbers-long s.k s.sought.plain;
        each = f;
      }

  pub seeking-start : {l : ℕ} → l ≡ pointed w (8 * h + 1) → Seeking w numbers kind h l 0
  seeking-start is = seeking (λ at len k q. seek-start q.plain q.sound q.chain is)

  module _ {l m : ℕ} (v : Seeking w numbers kind h l m) (some : 0 < l) {tag : ℕ} (g : tag ≡ tag_in w (l - 1)) {t : Bool}
      (c : t ≡ (eqb (tag / 16) kind && keeps w kind (l - 1) numbers (width_of kind))) where
    pub seeking-found : {p : ℕ} → t ≡ true → p ≡ 16 * (l - 1) + tag % 16 → FindsAny w numbers kind h (Some p)
    seeking-found e is = record { is = λ at len k q. sought-here q (v.each at len k q) some g c e is }

    pub seeking-on : {side j : ℕ} → t ≡ false → side ≡ side_of (get_or numbers (m / 32) 0 / 2 ^ (m % 32) % 2) → j ≡ pointed w (8 * (l - 1) + side) → Seeking w numbers kind h j (m + 1)
    seeking-on e y j = seeking (λ at len k q. sought-on q (v.each at len k q) some g c e y j)

pub seeking-none : {w numbers : List ℕ} {kind h l m : ℕ} → Seeking w numbers kind h l m → l ≤ 0 → FindsAny w numbers kind h None
seeking-none v h = record { is = λ at len k q. seek-none (v.each at len k q) h }

-- ## What find asks of the search, and has of it

module _ {key : ℕ → Key} {len : ℕ} {w : List ℕ} {k : Key} {numbers : List ℕ} {r : Told} {h : ℕ} where
  sought-is : Sound key len w → NumbersAre k numbers r → r.plain ≡ true → h ≡ r.hash % heads_of len → Sought w numbers (kind_number r.kind) h key len k
  sought-is o a t e =
      let y = sym a.plain ∙ t in
      record { sound = o; plain = y; numbers = a.numbers y; kinds = a.kind; chain = e ∙ chain-is len k r.hash a.hash }

  pub sought-some : Sound key len w → NumbersAre k numbers r → r.plain ≡ true → h ≡ r.hash % heads_of len → SomeSought w numbers (kind_number r.kind) h
  sought-some o a t e = record { at = key; len = len; k = k; sought = sought-is o a t e }

  pub sought-found : {f : Option ℕ} → Sound key len w → NumbersAre k numbers r → r.plain ≡ true → h ≡ r.hash % heads_of len → FindsAny w numbers (kind_number r.kind) h f → Finds key len w k f
  sought-found o a t e v = v.is key len k (sought-is o a t e)
