-- Runs of marks from spot to spot: none, and one after the other.
use mathlib.Core.Path.{◌≡◌, refl, sym, ◌∙◌}
use mathlib.Core.Bool.{Bool}
use mathlib.Core.List.{List, [], ◌∷◌, ◌++◌, append-nil, append_assoc}
use Prim.Native.Nat.{ℕ, ◌+◌}
use native.Mathlib.Nat.{add-zero, add_assoc}
use native.Mathlib.Omega.{arith}
use lib.ListN.{length-append}
use Rattle.rules.specs.Names.{is_blank}
use Rattle.rules.specs.Lines as paper
use Rattle.rules.specs.Lines.{after}
use Rattle.text_lines.specs.declared.Signs.{Signs}
use Rattle.text_lines.specs.declared.Spot.{Spot}
use Rattle.text_lines.specs.Stream.{Quiet, mode_through, fresh_through, Run, Walk, MarkIs}

-- ## Marks one after the other

mode_through-append : (mode : ℕ) (ms ns : List ℕ) → mode_through mode (ms ++ ns) ≡ mode_through (mode_through mode ms) ns
mode_through-append mode [] ns = refl
mode_through-append mode (m ∷ ms) ns = mode_through-append (after mode m) ms ns

fresh_through-append : (fresh : Bool) (ms ns : List ℕ) → fresh_through fresh (ms ++ ns) ≡ fresh_through (fresh_through fresh ms) ns
fresh_through-append fresh [] ns = refl
fresh_through-append fresh (m ∷ ms) ns = fresh_through-append (is_blank m) ms ns

quiet-first : (s : paper.Signs) (mode : ℕ) (fresh : Bool) (done ms ns : List ℕ) → Quiet s mode fresh done (ms ++ ns) → Quiet s mode fresh done ms
quiet-first s mode fresh done [] ns h = tt
quiet-first s mode fresh done (m ∷ ms) ns h = (h.0, quiet-first s (after mode m) (is_blank m) (done ++ m ∷ []) ms ns h.1)

quiet_then : (s : paper.Signs) (mode : ℕ) (fresh : Bool) (done ms ns : List ℕ) → Quiet s mode fresh done (ms ++ ns)
    → Quiet s (mode_through mode ms) (fresh_through fresh ms) (done ++ ms) ns
quiet_then s mode fresh done [] ns h = rw append-nil h
quiet_then s mode fresh done (m ∷ ms) ns h =
    rw (append_assoc done (m ∷ []) ms) at (quiet_then s (after mode m) (is_blank m) (done ++ m ∷ []) ms ns h.1)

-- ## Runs

run_none : (g : Signs) (src : List ℕ) (p : Spot) → Run g src [] 0 p p
run_none g src p =
    record {
      mode = refl;
      fresh = refl;
      bytes = 0;
      few = omega arith;
      moved = add-zero p.at;
      goes = λ s like done f z h. rw (append-nil, add-zero f, add-zero z);
    }

-- one run after another
pub run-then : {g : Signs} {src ms ns : List ℕ} {k j : ℕ} {p q r : Spot} → Run g src ms k p q → Run g src ns j q r → Run g src (ms ++ ns) (k + j) p r
run-then {ms = ms} {ns} {k} {j} {p} {q} v w =
    record {
      mode = w.mode ∙ rw v.mode (sym (mode_through-append p.mode ms ns));
      fresh = w.fresh ∙ rw v.fresh (sym (fresh_through-append p.fresh ms ns));
      bytes = v.bytes + w.bytes;
      few = omega (arith, v.few, w.few, length-append ms ns);
      moved = omega (arith, v.moved, w.moved);
      goes = λ s like done f z h. v.goes s like done f z (quiet-first s p.mode p.fresh done ms ns h)
          ∙ w.goes s like (done ++ ms) (f + k) (z + v.bytes) (rw (v.mode, v.fresh) (quiet_then s p.mode p.fresh done ms ns h))
          ∙ rw (append_assoc done ms ns, add_assoc f k j, add_assoc z v.bytes w.bytes);
    }

pub walk_none : (g : Signs) (src : List ℕ) (p : Spot) → Walk g src p p
walk_none g src p = record { passed = []; feeds = 0; run = run_none g src p }

pub walk-then : {g : Signs} {src : List ℕ} {p q r : Spot} → Walk g src p q → Walk g src q r → Walk g src p r
walk-then v w = record { passed = v.passed ++ w.passed; feeds = v.feeds + w.feeds; run = run-then v.run w.run }

pub mark-walk : {g : Signs} {src : List ℕ} {p q : Spot} {m : ℕ} → MarkIs g src p m q → Walk g src p q
mark-walk {m = m} v = record { passed = m ∷ []; feeds = v.feeds; run = v.run }
