-- The byte of a code: the loop of find_byte, and that of index_bytes, which goes down.
use Rattle.std.specs.Prelude.{Option, None, Some, is_some}
use mathlib.Core.Path.{◌≡◌, refl, sym, ap, ◌∙◌}
use mathlib.Core.Bool.{true, and-false}
use mathlib.Core.List.{List}
use Prim.Native.Nat.{ℕ, ◌+◌, ◌-◌, ◌≤◌, ◌<◌}
use native.Mathlib.Numerals.{add-one}
use native.Mathlib.Omega.{arith}
use mir.Syntax.{w8}
use mir.Val.{Fits}
use lib.ListN.{length, get_or, drop, set, replicate, length-set, drop_of_length-le}
use lib.Seq.{drop-cons, drop-length, get_or-set_same, get_or-set_other}
use lib.Dec.{eqb}
use borrow.Author.Tests.{le-leb, eqb-true, eqb-false, eq-eqb, ne_eqb}
use Rattle.base_lists.proofs.Bools.{by}
use Rattle.rules.specs.Text.{within}
use Rattle.rules.specs.Coding.{byte_from}
use Rattle.charmap_coding.specs.Tables.{Indexed, byte_found}
use Rattle.charmap_coding.proofs.BlankLaws.{blank-at}

-- ## A byte that was found

pub found-some : {b n : ℕ} → Some b ≡ byte_found n → b ≡ n
found-some {b} {n} e = by (within 0 255 n)
    (λ t. let q : Some b ≡ Some n = rw t at e in cc)
    (λ t. let q : Some b ≡ None = rw t at e in absurd (cc))

pub found-none : (n : ℕ) → within 0 255 n ≡ true → None ≡ byte_found n → ⊥
found-none n t e = let q : None ≡ Some n = rw t at e in cc

pub found-is : (n : ℕ) → is_some (byte_found n) ≡ within 0 255 n
found-is n = by (within 0 255 n) (λ t. rw t) (λ t. rw t)

found-low : {i n : ℕ} → i ≤ 255 → i ≡ n → Some i ≡ byte_found n
found-low {i} {n} h e = rw (← e, le-leb 0 i (omega arith), le-leb i 255 h)

-- ## The search at a place

module _ (codes ones : List ℕ) (c i : ℕ) (l : length codes ≡ length ones) (h : i < length codes) where
  byte-here : c ≡ get_or codes i 0 → get_or ones i 0 ≡ 1 → byte_from i c (drop i codes) (drop i ones) ≡ i
  unfolding byte_from
  byte-here e o =
      let k : i < length ones = omega arith in
      rw (drop-cons codes i 0 h, drop-cons ones i 0 k, eq-eqb c (get_or codes i 0) e, eq-eqb (get_or ones i 0) 1 o)

  byte-other : (c ≡ get_or codes i 0 → ⊥) → byte_from i c (drop i codes) (drop i ones) ≡ byte_from (i + 1) c (drop (i + 1) codes) (drop (i + 1) ones)
  unfolding byte_from
  byte-other n =
      let k : i < length ones = omega arith in
      rw (add-one i, drop-cons codes i 0 h, drop-cons ones i 0 k, ne_eqb c (get_or codes i 0) n)

  byte-unmarked : (get_or ones i 0 ≡ 1 → ⊥) → byte_from i c (drop i codes) (drop i ones) ≡ byte_from (i + 1) c (drop (i + 1) codes) (drop (i + 1) ones)
  unfolding byte_from
  byte-unmarked n =
      let k : i < length ones = omega arith in
      rw (add-one i, drop-cons codes i 0 h, drop-cons ones i 0 k, ne_eqb (get_or ones i 0) 1 n, and-false (eqb c (get_or codes i 0)))

-- ## find_byte

-- no byte before i encodes c, so that those from i on decide
pub record Finding (codes ones : List ℕ) (c i : ℕ) : Type 0 where
  pub same : byte_from 0 c codes ones ≡ byte_from i c (drop i codes) (drop i ones)

pub finding-none : (codes ones : List ℕ) (c : ℕ) → Finding codes ones c 0
finding-none codes ones c = record { same = refl }

module _ {codes ones : List ℕ} {c i : ℕ} (v : Finding codes ones c i) where
  module _ (l : length codes ≡ length ones) (h : i < length codes) where
    pub finding-other : (c ≡ get_or codes i 0 → ⊥) → Finding codes ones c (i + 1)
    finding-other n = record { same = v.same ∙ byte-other codes ones c i l h n }

    pub finding-unmarked : (get_or ones i 0 ≡ 1 → ⊥) → Finding codes ones c (i + 1)
    finding-unmarked n = record { same = v.same ∙ byte-unmarked codes ones c i l h n }

    pub finding-found : length codes ≤ 256 → c ≡ get_or codes i 0 → get_or ones i 0 ≡ 1 → Some i ≡ byte_found (byte_from 0 c codes ones)
    finding-found m e o = found-low (omega arith) (sym (v.same ∙ byte-here codes ones c i l h e o))

  pub finding-all : length codes ≤ i → None ≡ byte_found (byte_from 0 c codes ones)
  unfolding byte_from
  finding-all h = rw (v.same, drop_of_length-le codes h)

-- ## index_bytes

-- the table has what the search from i on finds
pub record Indexing (codes ones : List ℕ) (table₀ table : List (Option ℕ)) (i : ℕ) : Type 0 where
  pub to : i ≤ length codes
  pub long : length table ≡ length table₀
  pub is : (c : ℕ) → c < length table → get_or table c None ≡ byte_found (byte_from i c (drop i codes) (drop i ones))

pub indexing-none : (codes ones : List ℕ) (table : List (Option ℕ)) → table ≡ replicate (length table) None → Indexing codes ones table table (length codes)
unfolding byte_from
indexing-none codes ones table e = record {
  to = omega arith;
  long = refl;
  is = λ c h. blank-at table None None c e h ∙ rw (drop-length codes);
}

module _ {codes ones : List ℕ} {table₀ table : List (Option ℕ)} {i : ℕ} (v : Indexing codes ones table₀ table i) (h : 0 < i) (l : length codes ≡ length ones) where
  back : i - 1 + 1 ≡ i
  back = omega arith

  pub indexing-fits : length codes ≤ 256 → Fits w8 (i - 1)
  indexing-fits k = omega (arith, v.to)

  pub indexing-unmarked : (get_or ones (i - 1) 0 ≡ 1 → ⊥) → Indexing codes ones table₀ table (i - 1)
  indexing-unmarked n = record {
    to = omega (arith, v.to);
    long = v.long;
    is = λ c k. v.is c k ∙ ap byte_found (sym (rw back at (byte-unmarked codes ones c (i - 1) l (omega (arith, v.to)) n)));
  }

  pub indexing-past : length table ≤ get_or codes (i - 1) 0 → Indexing codes ones table₀ table (i - 1)
  indexing-past m = record {
    to = omega (arith, v.to);
    long = v.long;
    is = λ c k. v.is c k ∙ ap byte_found (sym (rw back at (byte-other codes ones c (i - 1) l (omega (arith, v.to)) (λ e. omega arith))));
  }

  module _ (few : length codes ≤ 256) (o : get_or ones (i - 1) 0 ≡ 1) (m : get_or codes (i - 1) 0 < length table) where
    -- the place that is written, and the others
    indexing-at : (c : ℕ) → c < length table
        → get_or (set table (get_or codes (i - 1) 0) (Some (i - 1))) c None ≡ byte_found (byte_from (i - 1) c (drop (i - 1) codes) (drop (i - 1) ones))
    indexing-at c k =
        let d : ℕ = get_or codes (i - 1) 0 in
        let j : i - 1 < length codes = omega (arith, v.to) in
        by (eqb c d)
        (λ t. let e : c ≡ d = eqb-true c d t in
        rw e (get_or-set_same table d (Some (i - 1)) None m) ∙ found-low (omega arith) (sym (byte-here codes ones c (i - 1) l j e o)))
        (λ t. let n : c ≡ d → ⊥ = eqb-false c d t in
        get_or-set_other table d c (Some (i - 1)) None n ∙ v.is c k ∙ ap byte_found (sym (rw back at (byte-other codes ones c (i - 1) l j n))))

    pub indexing-marked : Indexing codes ones table₀ (set table (get_or codes (i - 1) 0) (Some (i - 1))) (i - 1)
    indexing-marked = record {
      to = omega (arith, v.to);
      long = length-set table (get_or codes (i - 1) 0) (Some (i - 1)) ∙ v.long;
      is = λ c k. indexing-at c (rw (length-set table (get_or codes (i - 1) 0) (Some (i - 1))) at k);
    }

pub indexing-all : {codes ones : List ℕ} {table₀ table : List (Option ℕ)} {i : ℕ} → Indexing codes ones table₀ table i → i ≤ 0 → Indexed codes ones table
indexing-all {codes} {ones} {table₀} {table} {i} v h =
    let e : i ≡ 0 = omega arith in
    record { is = λ c k. rw e at (v.is c k) }

-- ## byte_of

pub indexed-at : {codes ones : List ℕ} {table : List (Option ℕ)} {c : ℕ} → Indexed codes ones table → c < length table → get_or table c None ≡ byte_found (byte_from 0 c codes ones)
indexed-at {codes} {ones} {table} {c} v h = v.is c h
