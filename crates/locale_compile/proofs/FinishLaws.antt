-- The end of a source on the paper (Rattle.rules.specs.Compile): what the answer is after the lines, by what was found.
use Rattle.std.specs.Prelude.{Err, Ok}
use mathlib.Core.Path.{◌≡◌, sym, ap, ◌∙◌}
use mathlib.Core.Bool.{true, false}
use mathlib.Core.List.{List, []}
use Prim.Native.Nat.{ℕ, ◌+◌, ◌≤◌, ◌<◌}
use native.Mathlib.Omega.{arith}
use lib.ListN.{length}
use borrow.Author.Tests.{lt-ltb, le-ltb, le-leb}
use Rattle.rules.specs.Text.{every, Result, granted, refused}
use Rattle.rules.specs.Meaning.{Meaning, size_of, good}
use Rattle.rules.specs.Table.{stored_form}
use Rattle.rules.specs.State.{State, start}
use Rattle.rules.specs.Source.{Ended, ended, lines_from}
use Rattle.rules.specs.Compile.{meaning_of, is_ranked, unranked, finish, compile_of}
use Rattle.rules.specs.Calls.{over, compiled_as}
use Rattle.rules.proofs.CompileLaws.{finish-line, compile-good}
use Rattle.base_units.specs.Numbers.{number_of}
use Rattle.base_units.specs.declared.Refusal.{Refusal}
use Rattle.locale_skips.specs.Passing.{Refuses}
use Rattle.locale_compile.specs.Finishing.{AnswerIs}

-- ## The answer on the paper

module _ (area : ℕ) (e : Ended) where
  -- a line is refused
  pub finish-refused : (r l : ℕ) → Refuses e r l → (r ≡ 0 → ⊥) → finish area e ≡ refused r l
  finish-refused r l f h =
      finish-line area e (λ z. h (sym f.refusal ∙ z)) ∙ ap (λ (x : ℕ). refused x e.line) f.refusal ∙ ap (refused r) f.line

  module _ (s : State) (i : e ≡ ended 0 0 s) where
    -- a weight has no rank
    pub finish-unranked : every (is_ranked s.ordered.lines) s.ordered.lines ≡ false
        → finish area e ≡ refused 8 (unranked s.ordered.lines s.ordered.lines)
    unfolding finish
    finish-unranked u = rw (i, u)

    module _ (u : every (is_ranked s.ordered.lines) s.ordered.lines ≡ true) where
      -- the area is too short
      pub finish-short : area < size_of (meaning_of s) → finish area e ≡ refused 9 0
      unfolding finish
      finish-short h = rw (i, u, lt-ltb area (size_of (meaning_of s)) h)

      -- the table fits
      pub finish-granted : size_of (meaning_of s) ≤ area → finish area e ≡ granted (meaning_of s)
      unfolding finish
      finish-granted h = rw (i, u, le-ltb area (size_of (meaning_of s)) h)

-- what is compiled can be stored
pub meant-good : (src : List ℕ) (s : State) → length src ≤ 1048576 → lines_from start 1 0 src ≡ ended 0 0 s
    → every (is_ranked s.ordered.lines) s.ordered.lines ≡ true → good (meaning_of s) ≡ true
unfolding compile_of
meant-good src s h e u =
    compile-good src (size_of (meaning_of s)) (length src + 64) (meaning_of s)
    (rw (le-leb (length src) 1048576 h, le-leb (length src + 64) (length src + 64) (omega arith))
    (finish-granted (size_of (meaning_of s)) (lines_from start 1 0 src) s e u (omega arith)))

-- ## The answer of the code

module _ (src area : List ℕ) where
  pub answer-refused : (r : Refusal) (l : ℕ) → finish (length area) (lines_from start 1 0 src) ≡ refused (number_of r) l → AnswerIs src area area (Err (r, l))
  unfolding compiled_as
  answer-refused r l e = record { is = λ work. sym (ap (λ (x : Result Meaning). compiled_as x area work) e) }

  pub answer-done : (m : Meaning) (after : List ℕ) (size : ℕ) → finish (length area) (lines_from start 1 0 src) ≡ granted m → size ≡ size_of m
      → after ≡ over (stored_form m []) area → AnswerIs src area after (Ok size)
  unfolding compiled_as
  answer-done m after size e f a =
      record { is = λ work. rw (f, a) (sym (ap (λ (x : Result Meaning). compiled_as x area work) e)) }
