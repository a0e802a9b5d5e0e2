-- The LFs of a line are those among its bytes, whatever its kind (line-fed); and how many stand between two places.
use Rattle.std.specs.Prelude.{if◌then◌else◌}
use mathlib.Core.Path.{◌≡◌, refl, ap, ◌∙◌}
use mathlib.Core.Bool.{Bool, true, false}
use mathlib.Core.List.{List, [], ◌∷◌}
use Prim.Native.Nat.{ℕ, suc, ◌+◌, ◌-◌}
use native.Mathlib.Omega.{arith}
use lib.ListN.{take, drop}
use lib.Dec.{eqb}
use Rattle.std.specs.List.{count_by}
use Rattle.std.proofs.lemmas.List.Sums.{sum_by-cons}
use Rattle.base_lists.proofs.Bools.{by, cond_both}
use Rattle.base_lists.proofs.Runs.{run, run-whole, run-part}
use Rattle.rules.specs.Names.{is_blank}
use Rattle.rules.specs.Lines as paper
use Rattle.rules.specs.Lines.{in_plain, in_comment, after, Scan, scan_start, dropped, fed, marked, takes_as_is, opens_comment, ends_entry, scan_escaped, scan, line_from, line_of}
use Rattle.charmap_entry.specs.Entered.{feeds_in}

-- ## Among a line's bytes

-- From x to n a line has read one byte, and so many LFs.
record Adds (x : Scan) (k : ℕ) (n : Scan) : Type 0 where
  size : n.size ≡ suc x.size
  feeds : n.feeds ≡ k + x.feeds

module _ (x : Scan) where
  adds-fed : (end : Bool) → Adds x 1 (fed x end)
  adds-fed end = record { size = refl; feeds = omega arith }

  adds-dropped : (mode : ℕ) (escaped : Bool) → Adds x 0 (dropped x mode escaped)
  adds-dropped mode escaped = record { size = refl; feeds = omega arith }

  adds-marked : (mode : ℕ) (fresh : Bool) (m : ℕ) → Adds x 0 (marked x mode fresh m)
  adds-marked mode fresh m = record { size = refl; feeds = omega arith }

  module _ (s : paper.Signs) (b : ℕ) where
    scan-adds : Adds x (if eqb b 10 then 1 else 0) (scan s x b)
    unfolding scan scan_escaped
    scan-adds =
        by (eqb b 10)
        (λ t. rw t (cond_both (Adds x 1) x.escaped (adds-fed false) (adds-fed true)))
        (λ t. rw t
        (cond_both (Adds x 0) x.escaped
        (cond_both (Adds x 0) (eqb x.mode in_plain) (adds-marked in_plain false (512 + b)) (adds-marked x.mode false (256 + b)))
        (cond_both (Adds x 0) (eqb x.mode in_comment) (adds-dropped in_comment false)
        (cond_both (Adds x 0) (takes_as_is s x b) (adds-marked in_plain false (256 + b))
        (cond_both (Adds x 0) (eqb b s.escape) (adds-dropped x.mode true)
        (cond_both (Adds x 0) (opens_comment s x b) (adds-dropped in_comment false)
        (cond_both (Adds x 0) (ends_entry s x b) (adds-dropped in_comment false) (adds-marked (after x.mode b) (is_blank b) b))))))))

-- From x to r a line has read the first of these bytes.
record Reads (x : Scan) (bs : List ℕ) (r : Scan) : Type 0 where
  bytes : ℕ
  size : r.size ≡ x.size + bytes
  feeds : r.feeds ≡ x.feeds + feeds_in (take bytes bs)

module _ (s : paper.Signs) where
  reads_none : (x r : Scan) (bs : List ℕ) → r.size ≡ x.size → r.feeds ≡ x.feeds → Reads x bs r
  unfolding feeds_in
  reads_none x r bs h k = record { bytes = 0; size = omega arith; feeds = omega arith }

  reads_more : (x : Scan) (b : ℕ) (bs : List ℕ) {r : Scan} → Reads (scan s x b) bs r → Reads x (b ∷ bs) r
  unfolding feeds_in
  reads_more x b bs v =
      let a = scan-adds x s b in
      record { bytes = suc v.bytes; size = omega (arith, v.size, a.size); feeds = omega (arith, v.feeds, a.feeds) }

  line_reads : (x : Scan) (bs : List ℕ) → Reads x bs (line_from s x bs)
  unfolding line_from
  line_reads x [] = cond_both (Reads x []) x.escaped (reads_none x _ [] refl refl) (reads_none x x [] refl refl)
  line_reads x (b ∷ bs) =
      let n = scan s x b in
      reads_more x b bs (cond_both (Reads n bs) n.ended (reads_none n n bs refl refl) (line_reads n bs))

  -- the LFs of a line are those between its first place and the next line's
  pub line-fed : (src : List ℕ) (at next : ℕ) → at + (line_of s (drop at src)).size ≡ next → (line_of s (drop at src)).feeds ≡ feeds_in (run src at next)
  unfolding line_of
  line-fed src at next h =
      let bs = drop at src in
      let v = line_reads scan_start bs in
      let n : at + v.bytes ≡ next = omega (arith, v.size) in
      let e : feeds_in (take v.bytes bs) ≡ feeds_in (run src at next) =
      ap feeds_in (run-whole src at v.bytes) ∙ ap (λ (k : ℕ). feeds_in (run src at k)) n in
      omega (arith, v.feeds)

-- ## How many they are

-- the library's count of them
feeds-counted : (xs : List ℕ) → count_by (λ b. eqb b 10) xs ≡ feeds_in xs
unfolding feeds_in
feeds-counted [] = refl
feeds-counted (x ∷ xs) = sum_by-cons (λ b. if eqb b 10 then 1 else 0) x xs ∙ ap (λ (n : ℕ). (if eqb x 10 then 1 else 0) + n) (feeds-counted xs)

pub feeds-between : (src : List ℕ) (from end : ℕ) → count_by (λ b. eqb b 10) (take (end - from) (drop from src)) ≡ feeds_in (run src from end)
feeds-between src from end = ap (count_by (λ b. eqb b 10)) (run-part src from end) ∙ feeds-counted (run src from end)
