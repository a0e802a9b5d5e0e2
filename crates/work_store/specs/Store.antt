-- What is declared, as a list, latest first, and how the work area holds it. key gives what stands at a mark of the source
-- (Rattle.work_subjects.specs.Keys), len is the source's length.
use Rattle.std.specs.Prelude.{◌≡◌, Bool, true, false, ◌&&◌, List, [], ◌∷◌, ℕ, zero, suc, ◌+◌, ◌-◌, ◌*◌, ◌/◌, ◌%◌, ◌≤◌, ◌<◌, length, get_or, set, eqb, if◌then◌else◌, None, Option, Some}
use Rattle.work_rows.specs.Cells.{cell_at, cell}
use Rattle.work_subjects.specs.Keys.{Key, same_key, hash_key}
use Rattle.work_subjects.specs.Numbers.{is_declarable, kind_of, width_of, numbers_of, bit_of}

-- ## What is declared

-- What is declared: its key, and its mark.
pub record Decl : Type 0 where
  pub key : Key
  pub place : ℕ

-- the mark of the first with that key
unfoldable pub first : Key → List Decl → Option ℕ
first k [] = None
first k (d ∷ ds) =
    let r : Option ℕ = first k ds in
    if same_key d.key k then Some d.place else r

-- something is found
abbrev pub is_found : Option ℕ → Bool
is_found (Some v) = true
is_found None = false

-- something is declared with that key
unfoldable pub known_in : Key → List Decl → Bool
known_in k ds = is_found (first k ds)

-- something is declared at the mark p
unfoldable pub is_place : ℕ → List Decl → Bool
is_place p [] = false
is_place p (d ∷ ds) =
    let r : Bool = is_place p ds in
    if eqb d.place p then true else r

-- No key is declared twice.
pub data Once : List Decl → Type 0 where
  nothing : Once []
  another : {d : Decl} {ds : List Decl} → first d.key ds ≡ None → Once ds → Once (d ∷ ds)

-- what is declared at a mark
abbrev pub fresh : (ℕ → Key) → ℕ → Decl
fresh key v = record { key = key v; place = v }

-- ## The way of a key. The chains are trees: at depth n a way goes on to the left or to the right by bit n of the key. Where it goes is told of the
-- list of what is declared alone, and holds for every key, declared or not.

-- how many rows, and so chains, there are
abbrev pub heads_of : ℕ → ℕ
heads_of len = len / 8 + 1

-- the mark of UNDEFINED, whose row is behind the others; marks from it on stand for no place of the source
abbrev pub undefined_mark : ℕ → ℕ
undefined_mark len = 16 * heads_of len

unfoldable pub chain_of : ℕ → Key → ℕ
chain_of heads k = hash_key k % heads

-- two keys go the same way as far as depth n: they have one chain, and their first n bits are the same
unfoldable pub together : ℕ → ℕ → Key → Key → Bool
together heads zero a b = eqb (chain_of heads a) (chain_of heads b)
together heads (suc n) a b = together heads n a b && eqb (bit_of a n) (bit_of b n)

-- how deep the way of a key goes: of what is declared, the eldest first, each stands on it that goes the same way as far as it has come
unfoldable pub depth_of : ℕ → Key → List Decl → ℕ
depth_of heads k [] = 0
depth_of heads k (d ∷ ds) =
    let r : ℕ = depth_of heads k ds in
    if together heads r k d.key then suc r else r

-- what stands on it at depth n: 0 for nothing, or one more than its row
unfoldable pub node_of : ℕ → Key → ℕ → List Decl → ℕ
node_of heads k n [] = 0
node_of heads k n (d ∷ ds) =
    let r : ℕ = node_of heads k n ds in
    if eqb (depth_of heads k ds) n && together heads n k d.key then suc (d.place / 16) else r

-- ## How the area holds a list: callers look no further than the record Holds

-- which number of a row is its link on the side of a bit
abbrev pub side_of : ℕ → ℕ
side_of b = if eqb b 0 then 0 else 2

-- the number of the area that leads to depth n on the way of a key
unfoldable pub slot_of : ℕ → Key → ℕ → List Decl → ℕ
slot_of heads k zero ds = 8 * chain_of heads k + 1
slot_of heads k (suc n) ds = 8 * (node_of heads k n ds - 1) + side_of (bit_of k n)

-- what a slot leads to: number 2 of a row shares its place with the row's tag
unfoldable pub pointed : List ℕ → ℕ → ℕ
pointed w s = if eqb (s % 8) 2 then get_or w s 0 / 64 else get_or w s 0

-- the area with a slot that leads to x
unfoldable pub pointing : List ℕ → ℕ → ℕ → List ℕ
pointing w s x = if eqb (s % 8) 2 then set w s (64 * x + get_or w s 0 % 64) else set w s x

-- the tag of a row: the kind of what is declared there, times 16, and the last four bits of its mark
unfoldable pub tag_in : List ℕ → ℕ → ℕ
tag_in w r = get_or w (8 * r + 2) 0 % 64

abbrev pub tag_of : ℕ → ℕ → ℕ
tag_of kind v = 16 * kind + v % 16

-- the mark in a row
abbrev pub mark_in : List ℕ → ℕ → ℕ
mark_in w r = 16 * r + tag_in w r % 16

-- A key's numbers are kept where it is declared, so that no lookup reads them again from the source: those of a character and of an element's characters in its
-- row, from number 3 on; those of a name in the row before, all but number 1, which is the head of a chain.

-- how many rows before its own a key of a kind takes
unfoldable pub above_of : ℕ → ℕ
above_of kind = if eqb kind 1 then 1 else 0

-- where number i of a key of a kind stands
unfoldable pub spot_of : ℕ → ℕ → ℕ → ℕ
spot_of kind r i = if eqb kind 1 then 8 * (r - 1) + (if eqb i 0 then 0 else 1 + i) else 8 * r + 3 + i

-- whether the first n numbers that are kept for a row are those of a key
unfoldable pub keeps : List ℕ → ℕ → ℕ → List ℕ → ℕ → Bool
keeps w kind r key zero = true
keeps w kind r key (suc n) = keeps w kind r key n && eqb (get_or w (spot_of kind r n) 0) (get_or key n 0)

-- The row of d, below n.
pub record Node (key : ℕ → Key) (len : ℕ) (w : List ℕ) (n : ℕ) (d : Decl) : Type 0 where
  pub below : d.place / 16 < n
  pub within : d.place / 2 ≤ len
  pub keyed : key d.place ≡ d.key
  pub plain : is_declarable d.key ≡ true
  pub above : above_of (kind_of d.key) ≤ d.place / 16
  pub tag : tag_in w (d.place / 16) ≡ tag_of (kind_of d.key) d.place
  pub kept : (i : ℕ) → i < width_of (kind_of d.key) → get_or w (spot_of (kind_of d.key) (d.place / 16) i) 0 ≡ get_or (numbers_of d.key) i 0

-- What was declared before it stands in the rows before all that it takes.
pub data Nodes (key : ℕ → Key) (len : ℕ) (w : List ℕ) : ℕ → List Decl → Type 0 where
  none : {n : ℕ} → Nodes key len w n []
  more : {n : ℕ} {d : Decl} {ds : List Decl} → Node key len w n d → Nodes key len w (d.place / 16 - above_of (kind_of d.key)) ds → Nodes key len w n (d ∷ ds)

-- One number for each byte of the source and 64 more.
pub record Roomy (len : ℕ) (w : List ℕ) : Type 0 where
  pub few : len ≤ 1048576
  pub room : len + 64 ≤ length w

-- The area holds ds in the rows below n.
pub record Holds (key : ℕ → Key) (len : ℕ) (w : List ℕ) (n : ℕ) (ds : List Decl) : Type 0 where
  pub roomy : Roomy len w
  pub points : (k : Key) (m : ℕ) → m ≤ depth_of (heads_of len) k ds → pointed w (slot_of (heads_of len) k m ds) ≡ node_of (heads_of len) k m ds
  pub nodes : Nodes key len w n ds
  pub once : Once ds

-- ## What the functions give

-- The area holds some list.
pub record Sound (key : ℕ → Key) (len : ℕ) (w : List ℕ) : Type 0 where
  pub n : ℕ
  pub ds : List Decl
  pub holds : Holds key len w n ds

-- r is the mark of the first with the key k.
pub record Finds (key : ℕ → Key) (len : ℕ) (w : List ℕ) (k : Key) (r : Option ℕ) : Type 0 where
  pub is : (n : ℕ) (ds : List Decl) → Holds key len w n ds → r ≡ first k ds

-- k is a key of this kind, with these numbers, on the chain h, and the area holds some list.
pub record Sought (w key : List ℕ) (kind h : ℕ) (at : ℕ → Key) (len : ℕ) (k : Key) : Type 0 where
  pub sound : Sound at len w
  pub plain : is_declarable k ≡ true
  pub numbers : key ≡ numbers_of k
  pub kinds : kind ≡ kind_of k
  pub chain : h ≡ chain_of (heads_of len) k

pub record SomeSought (w key : List ℕ) (kind h : ℕ) : Type 0 where
  pub at : ℕ → Key
  pub len : ℕ
  pub k : Key
  pub sought : Sought w key kind h at len k

-- r is the mark of the first with that key, whatever source the area belongs to.
pub record FindsAny (w key : List ℕ) (kind h : ℕ) (r : Option ℕ) : Type 0 where
  pub is : (at : ℕ → Key) (len : ℕ) (k : Key) → Sought w key kind h at len k → Finds at len w k r

-- s is the slot where the way of a key with these numbers, on the chain h, ends, whatever list the area holds.
pub record WayEnds (heads : ℕ) (w : List ℕ) (h : ℕ) (key : List ℕ) (s : ℕ) : Type 0 where
  pub inside : s < 8 * heads
  pub number : s % 8 < 3
  pub is : (at : ℕ → Key) (len : ℕ) (k : Key) (n : ℕ) (ds : List Decl) → heads ≡ heads_of len → h ≡ chain_of heads k → key ≡ numbers_of k
      → Holds at len w n ds → s ≡ slot_of heads k (depth_of heads k ds) ds

-- A number of a key from a on, before e, that is not the one at place at + i.
pub record Other (w : List ℕ) (at : ℕ) (key : List ℕ) (a e : ℕ) : Type 0 where
  pub i : ℕ
  pub from : a ≤ i
  pub to : i < e
  pub not : get_or w (at + i) 0 ≡ get_or key i 0 → ⊥

-- r is whether the numbers of a key from a on, before e, stand in the area, number i at place at + i.
pub record RunIs (w : List ℕ) (at : ℕ) (key : List ℕ) (a e : ℕ) (r : Bool) : Type 0 where
  pub same : r ≡ true → (i : ℕ) → a ≤ i → i < e → get_or w (at + i) 0 ≡ get_or key i 0
  pub other : r ≡ false → Other w at key a e

-- Of the numbers of a key those from a on, before e, are written, number i at place at + i.
pub record Written (w : List ℕ) (at : ℕ) (key : List ℕ) (a e : ℕ) (w' : List ℕ) : Type 0 where
  pub there : (i : ℕ) → a ≤ i → i < e → get_or w' (at + i) 0 ≡ get_or key i 0
  pub rest : (j : ℕ) → ((i : ℕ) → a ≤ i → i < e → j ≡ at + i → ⊥) → get_or w' j 0 ≡ get_or w j 0
  pub long : length w' ≡ length w

-- The numbers of a key of a kind are kept for a row.
pub record Kept (w : List ℕ) (kind r : ℕ) (key : List ℕ) (w' : List ℕ) : Type 0 where
  pub there : (i : ℕ) → i < width_of kind → get_or w' (spot_of kind r i) 0 ≡ get_or key i 0
  pub rest : (j : ℕ) → ((i : ℕ) → i < width_of kind → j ≡ spot_of kind r i → ⊥) → get_or w' j 0 ≡ get_or w j 0
  pub long : length w' ≡ length w

-- What stands at the mark v is declared, if it can be and was not yet; of the five numbers of every row all stay but those where its own numbers are kept, and
-- so does what is behind the rows.
pub record Declares (key : ℕ → Key) (len : ℕ) (w : List ℕ) (v : ℕ) (w' : List ℕ) : Type 0 where
  pub is : (n : ℕ) (ds : List Decl) → Holds key len w n ds → n + above_of (kind_of (key v)) ≤ v / 16 → is_declarable (key v) ≡ true → first (key v) ds ≡ None
      → Holds key len w' (v / 16 + 1) (fresh key v ∷ ds)
  pub long : length w' ≡ length w
  pub five : (u k : ℕ) → k < 5 → ((i : ℕ) → i < width_of (kind_of (key v)) → cell_at u k ≡ spot_of (kind_of (key v)) (v / 16) i → ⊥) → cell w' u k ≡ cell w u k
  pub beyond : (i : ℕ) → 8 * heads_of len ≤ i → get_or w' i 0 ≡ get_or w i 0
