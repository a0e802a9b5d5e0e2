-- Demand 2: "The compiled table means what 01 says the source means: each element, level, weight." Of every area that `compile` leaves where it answers Ok.
use Rattle.std.specs.Prelude.{Err, Ok, Result, ℕ}
use mathlib.Core.Path.{◌≡◌, refl, sym, ap, ◌∙◌}
use mathlib.Core.Bool.{true, not, ◌&&◌}
use mathlib.Core.List.{List}
use Prim.Native.Nat.{ℕ, ◌+◌, ◌≤◌}
use lib.ListN.{length}
use lib.Dec.{eqb, leb, ltb}
use Rattle.rules.specs.Text.{within, every, granted}
use Rattle.rules.specs.Meaning.{Meaning, size_of}
use Rattle.rules.specs.State.{start}
use Rattle.rules.specs.Source.{Ended, lines_from}
use Rattle.rules.specs.Compile.{is_ranked, meaning_of, finish, compile_of}
use Rattle.rules.specs.Table.{meaning_in, accepted}
use Rattle.rules.specs.Calls.{check_call}
use Rattle.rules.proofs.ResultLaws.{granted-unique, granted-else, granted-then}
use Rattle.base_units.proofs.NumberLaws.{number_of-some}
use Rattle.locale_compile.proofs.CodeLaws.{compile-gives, compile-accepted, compile-means}
use Rattle.table_check.specs.Answers.{checked_as}
use Rattle.demands.specs.Answered.{Compiles, Checks, source_meaning, levels_stated, weights_stated, first_given}
use Rattle.demands.proofs.InOrder.{compile-refusal}
use Rattle.demands.proofs.BadTables.{accepted-weights, accepted-levels}
use Rattle.base_units.specs.declared.Refusal.{Refusal}
use Rattle.table_check.specs.declared.Shape.{Shape}

granted-meaning : (src : List ℕ) (area work : ℕ) (m : Meaning) → compile_of src area work ≡ granted m → m ≡ source_meaning src
unfolding compile_of finish
granted-meaning src area work m h =
    let e : Ended = lines_from start 1 0 src in
    let one = granted-then (leb (length src) 1048576 && leb (length src + 64) work) 1 0 h in
    let two = granted-else (not (eqb e.refusal 0)) _ _ one.1 in
    let three = granted-else (not (every (is_ranked e.state.ordered.lines) e.state.ordered.lines)) _ _ two.1 in
    let four = granted-else (ltb area (size_of (meaning_of e.state))) _ _ three.1 in
    sym (granted-unique four.1)

-- a source in which no ground for a refusal stands is compiled
pub all-compiled : (src area work : List ℕ) (r : Result ℕ (Refusal × ℕ)) (area₁ work₁ : List ℕ) → Compiles src area work r area₁ work₁
    → leb (length src) 1048576 && leb (length src + 64) (length work) ≡ true → (lines_from start 1 0 src).refusal ≡ 0
    → every (is_ranked (lines_from start 1 0 src).state.ordered.lines) (lines_from start 1 0 src).state.ordered.lines ≡ true
    → leb (size_of (source_meaning src)) (length area) ≡ true → (n : ℕ) × (r ≡ Ok n)
unfolding first_given
all-compiled src area work (Ok n) area₁ work₁ e a b c d = (n, refl)
all-compiled src area work (Err (x, l)) area₁ work₁ e a b c d =
    absurd (number_of-some x (rw (a, b, c, d) at (compile-refusal src area work (Err (x, l)) area₁ work₁ e)))

module _ (src area work area₁ work₁ : List ℕ) (n : ℕ) (e : Compiles src area work (Ok n) area₁ work₁) where
  -- it is accepted, by every operation on tables
  pub compiled-accepted : accepted area₁ ≡ true
  compiled-accepted = compile-accepted src area work area₁ work₁ n e

  -- it means the source
  pub compiled-means : meaning_in area₁ ≡ source_meaning src
  compiled-means =
      let g = compile-gives src area work area₁ work₁ n e in
      compile-means src area work area₁ work₁ n e g ∙ granted-meaning src (length area) (length work) g.meaning g.grants

  -- it has a level, and no weight of zero
  pub compiled-levels : (1 ≤ levels_stated area₁) × (levels_stated area₁ ≤ 8)
  compiled-levels = accepted-levels area₁ compiled-accepted

  pub compiled-weights : every (within 1 32768) (weights_stated area₁) ≡ true
  compiled-weights = accepted-weights area₁ compiled-accepted

  -- `check` of what was left tells the source's levels and items, and the size that `compile` told
  pub compiled-checks : (r : Result Shape Refusal) → Checks area₁ r
      → checked_as r ≡ record { refusal = 0; levels = length (source_meaning src).rules; items = length (source_meaning src).items; size = n }
  unfolding check_call
  compiled-checks r f =
      let g = compile-gives src area work area₁ work₁ n e in
      let m = compile-means src area work area₁ work₁ n e g in
      let size : size_of (meaning_in area₁) ≡ n = ap size_of m ∙ sym g.long in
      rw (compiled-accepted, size, compiled-means) at f
