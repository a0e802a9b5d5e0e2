-- The whole call: the lines, and what comes before them.
use Rattle.std.specs.Prelude.{Err, Ok, Result, ℕ}
use mathlib.Core.Path.{◌≡◌, sym, ap, ◌∙◌, subst}
use mathlib.Core.Bool.{and-false}
use mathlib.Core.List.{List}
use Prim.Native.Nat.{ℕ, ◌+◌, ◌≤◌, ◌<◌}
use native.Mathlib.Omega.{arith}
use lib.ListN.{length, replicate, length-replicate}
use lib.Dec.{leb, eqb}
use borrow.Author.Tests.{le-leb, lt-leb}
use Rattle.rules.specs.State.{start}
use Rattle.rules.specs.Source.{lines_from}
use Rattle.rules.specs.Text.{Result as Read}
use Rattle.rules.specs.Meaning.{Meaning}
use Rattle.rules.specs.Compile.{finish, compile_of}
use Rattle.rules.specs.Calls.{cleared, compiled_as, compile_call}
use Rattle.base_units.specs.Numbers.{number_of}
use Rattle.base_units.specs.declared.Refusal.{Refusal}
use Rattle.base_units.specs.declared.Refusal.TheVariants.{TooLong}
use Rattle.base_units.proofs.NumberLaws.{number_of-some}
use Rattle.text_lines.specs.declared.Signs.{Signs}
use Rattle.work_rows.specs.Cells.{cell}
use Rattle.locale_sheet.specs.declared.Sheet.{Sheet}
use Rattle.locale_source.specs.Whole.{Empty, WholeSource, RefusedSource, SourceIs}
use Rattle.locale_compile.specs.Answers.{told_as}
use Rattle.locale_compile.specs.Finishing.{AnswerIs}
use Rattle.locale_compile.proofs.FinishLaws.{finish-refused, answer-refused}

-- ## What the lines are

module _ (src w : List ℕ) (v : Result (Signs × Sheet) (Refusal × ℕ)) (k : SourceIs src w v) where
  pub source-whole : {g : Signs} {sh : Sheet} → v ≡ Ok (g, sh) → WholeSource src w g sh
  source-whole i = subst (SourceIs src w) i k

  pub refused-line : (r : Refusal) (l : ℕ) → v ≡ Err (r, l) → (area : List ℕ) → AnswerIs src area area (Err (r, l))
  refused-line r l i area =
      let told : RefusedSource src (number_of r) l = subst (SourceIs src w) i k in
      answer-refused src area r l (finish-refused (length area) (lines_from start 1 0 src) (number_of r) l told.run (number_of-some r))

-- ## The call

-- whether a number of a row is 0, by what is told of it and by the row's mark
pub same-zero : (w : List ℕ) {m x : ℕ} (v k : ℕ) → m ≡ v → x ≡ cell w m k → eqb x 0 ≡ eqb (cell w v k) 0
same-zero w v k e i = ap (λ (y : ℕ). eqb y 0) (i ∙ ap (λ (u : ℕ). cell w u k) e)

module _ (src area work cleaned : List ℕ) (c : cleaned ≡ replicate (length work) 0) where
  cleaned-long : length cleaned ≡ length work
  cleaned-long = ap length c ∙ length-replicate {A = ℕ} (length work) 0

  -- 1
  pub source-long : 1048576 < length src → told_as (Err (TooLong, 0)) area cleaned ≡ compile_call src area work
  unfolding compile_call compile_of compiled_as cleared
  source-long h = rw (lt-leb (length src) 1048576 h, c)

  pub work-short : length cleaned < length src + 64 → told_as (Err (TooLong, 0)) area cleaned ≡ compile_call src area work
  unfolding compile_call compile_of compiled_as cleared
  work-short h =
      let l = cleaned-long in
      rw (lt-leb (length src + 64) (length work) (omega (arith, h, l)), and-false (leb (length src) 1048576), c)

  module _ (few : length src ≤ 1048576) (room : length src + 64 ≤ length cleaned) where
    pub work-empty : Empty src cleaned
    work-empty = record {
      roomy = record { few = few; room = room };
      none = c ∙ ap (λ (n : ℕ). replicate n 0) (sym cleaned-long);
    }

    compiled-lines : compile_of src (length area) (length work) ≡ finish (length area) (lines_from start 1 0 src)
    unfolding compile_of
    compiled-lines =
        let l = cleaned-long in
        rw (le-leb (length src) 1048576 few, le-leb (length src + 64) (length work) (omega (arith, room, l)))

    pub whole-answer : (after used cleaned-again : List ℕ) (r : Result ℕ (Refusal × ℕ)) → AnswerIs src area after r → length used ≡ length cleaned → cleaned-again ≡ replicate (length used) 0
        → told_as r after cleaned-again ≡ compile_call src area work
    unfolding compile_call cleared
    whole-answer after used cleaned-again r a l z =
        ap (told_as r after) (z ∙ ap (λ (n : ℕ). replicate n 0) (l ∙ cleaned-long)) ∙ a.is work ∙ ap (λ (x : Read Meaning). compiled_as x area work) (sym compiled-lines)
