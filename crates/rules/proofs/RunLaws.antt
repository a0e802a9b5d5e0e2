-- Laws of runs over a source, line by line (specs/Lines, Source, Charmap): what a run from a place is, for the loops of readers.
use Rattle.std.specs.Prelude.{if◌then◌else◌}
use mathlib.Core.Path.{◌≡◌, refl, ap, ◌∙◌}
use mathlib.Core.Bool.{true, false}
use mathlib.Core.List.{List, [], ◌∷◌}
use Prim.Native.Nat.{ℕ, zero, suc, pred, ◌+◌, ◌<◌, ◌≤◌}
use native.Mathlib.Omega.{arith}
use native.Mathlib.Nat.{not-suc-le-zero}
use lib.ListN.{length, drop, drop_of_length-le}
use lib.Seq.{drop-drop}
use lib.Dec.{eqb}
use borrow.Author.Tests.{eq-eqb, ne_eqb}
use Rattle.base_lists.proofs.Bools.{cond-true, cond-false, cond_both}
use Rattle.rules.specs.Lines.{Signs, Scan, scan, scan_start, line_from, line_of, takes_as_is, opens_comment, ends_entry, scan_escaped, in_plain, in_comment}
use Rattle.rules.specs.State.{State, Outcome}
use Rattle.rules.specs.Source.{ended, at_end, signs, line_outcome, lines_from}
use Rattle.rules.specs.Charmap.{Mapping, MapOutcome, MapEnded, map_ended, map_signs, header_line, body_line, map_lines_from}

-- ## A line takes at least one byte

abbrev Longer : Scan → Scan → Type 0
Longer s r = r.size ≡ suc s.size

-- each byte is one
pub scan-size : (g : Signs) (s : Scan) (b : ℕ) → (scan g s b).size ≡ suc s.size
unfolding scan scan_escaped
scan-size g s b =
    cond_both (Longer s) s.escaped
    (cond_both (Longer s) (eqb b 10) refl (cond_both (Longer s) (eqb s.mode in_plain) refl refl))
    (cond_both (Longer s) (eqb b 10) refl
    (cond_both (Longer s) (eqb s.mode in_comment) refl
    (cond_both (Longer s) (takes_as_is g s b) refl
    (cond_both (Longer s) (eqb b g.escape) refl
    (cond_both (Longer s) (opens_comment g s b) refl
    (cond_both (Longer s) (ends_entry g s b) refl refl))))))

line-grows : (g : Signs) (s : Scan) (bs : List ℕ) → s.size ≤ (line_from g s bs).size
unfolding line_from
line-grows g s [] = cond_both (λ (r : Scan). s.size ≤ r.size) s.escaped (omega arith) (omega arith)
line-grows g s (b ∷ bs) =
    let e = scan-size g s b in
    let h = line-grows g (scan g s b) bs in
    cond_both (λ (r : Scan). s.size ≤ r.size) (scan g s b).ended (omega arith) (omega arith)

pub line-size : (g : Signs) (b : ℕ) (bs : List ℕ) → 1 ≤ (line_of g (b ∷ bs)).size
unfolding line_of line_from
line-size g b bs =
    let e = scan-size g scan_start b in
    let h = line-grows g (scan g scan_start b) bs in
    cond_both (λ (r : Scan). 1 ≤ r.size) (scan g scan_start b).ended (omega arith) (omega arith)

-- ## Runs over a locale source

-- the bytes of a line that is already read are passed over
pub lines-skip : (s : State) (n k : ℕ) (bs : List ℕ) → lines_from s n k bs ≡ lines_from s n 0 (drop k bs)
unfolding lines_from
lines-skip s n zero [] = refl
lines-skip s n (suc k) [] = refl
lines-skip s n zero (b ∷ bs) = refl
lines-skip s n (suc k) (b ∷ bs) = lines-skip s n k bs

-- the line at the beginning of these bytes
abbrev pub line_at : State → List ℕ → Scan
line_at s bs = line_of (signs s) bs

-- and its outcome, as line n
abbrev pub outcome_at : State → ℕ → List ℕ → Outcome
outcome_at s n bs = line_outcome s n (line_at s bs).marks

run-cons : (s : State) (n b : ℕ) (bs : List ℕ) → (outcome_at s n (b ∷ bs)).refusal ≡ 0
    → lines_from s n 0 (b ∷ bs) ≡ lines_from (outcome_at s n (b ∷ bs)).state (n + (line_at s (b ∷ bs)).feeds) (pred (line_at s (b ∷ bs)).size) bs
unfolding lines_from
run-cons s n b bs e =
    cond-true
    (lines_from (outcome_at s n (b ∷ bs)).state (n + (line_at s (b ∷ bs)).feeds) (pred (line_at s (b ∷ bs)).size) bs)
    (ended (outcome_at s n (b ∷ bs)).refusal n s)
    (eq-eqb (outcome_at s n (b ∷ bs)).refusal 0 e)

pred-drop : (k b : ℕ) (bs : List ℕ) → 1 ≤ k → drop (pred k) bs ≡ drop k (b ∷ bs)
pred-drop zero b bs h = absurd (not-suc-le-zero h)
pred-drop (suc k) b bs h = refl

-- one line that is not refused: the run goes on behind it
run_on : (s : State) (n : ℕ) (bs : List ℕ) → 0 < length bs → (outcome_at s n bs).refusal ≡ 0
    → lines_from s n 0 bs ≡ lines_from (outcome_at s n bs).state (n + (line_at s bs).feeds) 0 (drop (line_at s bs).size bs)
run_on s n [] h e = absurd (not-suc-le-zero h)
run_on s n (b ∷ bs) h e =
    run-cons s n b bs e
    ∙ lines-skip (outcome_at s n (b ∷ bs)).state (n + (line_at s (b ∷ bs)).feeds) (pred (line_at s (b ∷ bs)).size) bs
    ∙ ap (lines_from (outcome_at s n (b ∷ bs)).state (n + (line_at s (b ∷ bs)).feeds) 0) (pred-drop (line_at s (b ∷ bs)).size b bs (line-size (signs s) b bs))

-- the same at a place of a source: what the contract of a reader says of the lines it has read
pub run_at : (s : State) (n at : ℕ) (src : List ℕ) → 0 < length (drop at src) → (outcome_at s n (drop at src)).refusal ≡ 0
    → lines_from s n 0 (drop at src)
    ≡ lines_from (outcome_at s n (drop at src)).state (n + (line_at s (drop at src)).feeds) 0 (drop (at + (line_at s (drop at src)).size) src)
run_at s n at src h e =
    run_on s n (drop at src) h e
    ∙ ap (lines_from (outcome_at s n (drop at src)).state (n + (line_at s (drop at src)).feeds) 0) (drop-drop (line_at s (drop at src)).size at src)

-- a line that is refused ends the run
pub run-refused : (s : State) (n : ℕ) (bs : List ℕ) → 0 < length bs → ((outcome_at s n bs).refusal ≡ 0 → ⊥)
    → lines_from s n 0 bs ≡ ended (outcome_at s n bs).refusal n s
unfolding lines_from
run-refused s n [] h e = absurd (not-suc-le-zero h)
run-refused s n (b ∷ bs) h e =
    cond-false
    (lines_from (outcome_at s n (b ∷ bs)).state (n + (line_at s (b ∷ bs)).feeds) (pred (line_at s (b ∷ bs)).size) bs)
    (ended (outcome_at s n (b ∷ bs)).refusal n s)
    (ne_eqb (outcome_at s n (b ∷ bs)).refusal 0 e)

-- so does the end of the source
pub run_end : (s : State) (n at : ℕ) (src : List ℕ) → length src ≤ at → lines_from s n 0 (drop at src) ≡ at_end s n
unfolding lines_from
run_end s n at src h = ap (lines_from s n 0) (drop_of_length-le src h)

-- ## Runs over a charmap source, up to END CHARMAP

pub map-skip : (m : Mapping) (n k : ℕ) (bs : List ℕ) → map_lines_from m n k bs ≡ map_lines_from m n 0 (drop k bs)
unfolding map_lines_from
map-skip m n zero [] = refl
map-skip m n (suc k) [] = refl
map-skip m n zero (b ∷ bs) = refl
map-skip m n (suc k) (b ∷ bs) = map-skip m n k bs

abbrev pub map_line_at : Mapping → List ℕ → Scan
map_line_at m bs = line_of (map_signs m) bs

abbrev pub map_outcome_at : Mapping → List ℕ → MapOutcome
map_outcome_at m bs = if m.opened then body_line m (map_line_at m bs).marks else header_line m (map_line_at m bs).marks

abbrev rest_at : Mapping → ℕ → ℕ → List ℕ → MapEnded
rest_at m n b bs = map_lines_from (map_outcome_at m (b ∷ bs)).mapping (n + (map_line_at m (b ∷ bs)).feeds) (pred (map_line_at m (b ∷ bs)).size) bs

map-run-cons : (m : Mapping) (n b : ℕ) (bs : List ℕ) → m.closed ≡ false → (map_outcome_at m (b ∷ bs)).refusal ≡ 0
    → map_lines_from m n 0 (b ∷ bs) ≡ rest_at m n b bs
unfolding map_lines_from
map-run-cons m n b bs c e =
    cond-false
    (map_ended 0 0 m.given)
    (if eqb (map_outcome_at m (b ∷ bs)).refusal 0 then rest_at m n b bs else map_ended (map_outcome_at m (b ∷ bs)).refusal n [])
    c
    ∙ cond-true (rest_at m n b bs) (map_ended (map_outcome_at m (b ∷ bs)).refusal n []) (eq-eqb (map_outcome_at m (b ∷ bs)).refusal 0 e)

map-run-on : (m : Mapping) (n : ℕ) (bs : List ℕ) → 0 < length bs → m.closed ≡ false → (map_outcome_at m bs).refusal ≡ 0
    → map_lines_from m n 0 bs ≡ map_lines_from (map_outcome_at m bs).mapping (n + (map_line_at m bs).feeds) 0 (drop (map_line_at m bs).size bs)
map-run-on m n [] h c e = absurd (not-suc-le-zero h)
map-run-on m n (b ∷ bs) h c e =
    map-run-cons m n b bs c e
    ∙ map-skip (map_outcome_at m (b ∷ bs)).mapping (n + (map_line_at m (b ∷ bs)).feeds) (pred (map_line_at m (b ∷ bs)).size) bs
    ∙ ap (map_lines_from (map_outcome_at m (b ∷ bs)).mapping (n + (map_line_at m (b ∷ bs)).feeds) 0) (pred-drop (map_line_at m (b ∷ bs)).size b bs (line-size (map_signs m) b bs))

-- at a place of a source: what the contract of a charmap's reader says of the lines it has read
pub map-run-at : (m : Mapping) (n at : ℕ) (src : List ℕ) → 0 < length (drop at src) → m.closed ≡ false → (map_outcome_at m (drop at src)).refusal ≡ 0
    → map_lines_from m n 0 (drop at src)
    ≡ map_lines_from (map_outcome_at m (drop at src)).mapping (n + (map_line_at m (drop at src)).feeds) 0 (drop (at + (map_line_at m (drop at src)).size) src)
map-run-at m n at src h c e =
    map-run-on m n (drop at src) h c e
    ∙ ap (map_lines_from (map_outcome_at m (drop at src)).mapping (n + (map_line_at m (drop at src)).feeds) 0) (drop-drop (map_line_at m (drop at src)).size at src)

-- a line that is refused ends the run
pub map-run-refused : (m : Mapping) (n : ℕ) (bs : List ℕ) → 0 < length bs → m.closed ≡ false → ((map_outcome_at m bs).refusal ≡ 0 → ⊥)
    → map_lines_from m n 0 bs ≡ map_ended (map_outcome_at m bs).refusal n []
unfolding map_lines_from
map-run-refused m n [] h c e = absurd (not-suc-le-zero h)
map-run-refused m n (b ∷ bs) h c e =
    cond-false
    (map_ended 0 0 m.given)
    (if eqb (map_outcome_at m (b ∷ bs)).refusal 0 then rest_at m n b bs else map_ended (map_outcome_at m (b ∷ bs)).refusal n [])
    c
    ∙ cond-false (rest_at m n b bs) (map_ended (map_outcome_at m (b ∷ bs)).refusal n []) (ne_eqb (map_outcome_at m (b ∷ bs)).refusal 0 e)

-- so does END CHARMAP, whatever follows
pub map-run-closed : (m : Mapping) (n k : ℕ) (bs : List ℕ) → m.closed ≡ true → map_lines_from m n k bs ≡ map_ended 0 0 m.given
unfolding map_lines_from
map-run-closed m n k [] c = rw c
map-run-closed m n (suc k) (b ∷ bs) c = map-run-closed m n k bs c
map-run-closed m n zero (b ∷ bs) c = rw c

-- and the end of a source without it
pub map-run-end : (m : Mapping) (n at : ℕ) (src : List ℕ) → length src ≤ at → m.closed ≡ false → map_lines_from m n 0 (drop at src) ≡ map_ended 3 n []
unfolding map_lines_from
map-run-end m n at src h c = ap (map_lines_from m n 0) (drop_of_length-le src h) ∙ cond-false (map_ended 0 0 m.given) (map_ended 3 n []) c
