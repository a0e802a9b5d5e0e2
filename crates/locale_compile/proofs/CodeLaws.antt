-- The laws of the definition (CompileLaws in rules) as laws of the code: of every area that `compile` leaves where it answers Ok.
use Rattle.std.specs.Prelude.{Ok}
use mathlib.Core.Path.{◌≡◌, refl, ap, ◌∙◌}
use mathlib.Core.Bool.{true, not, ◌&&◌}
use mathlib.Core.List.{List, []}
use Prim.Native.Nat.{ℕ, ◌+◌, ◌≤◌}
use native.Mathlib.Omega.{arith}
use lib.ListN.{length, drop}
use lib.Dec.{eqb, leb, ltb}
use borrow.Author.Tests.{eqb-false, not-true}
use Rattle.base_lists.proofs.Bools.{cond_both, cond-by}
use Rattle.rules.specs.Text.{every, Result, granted, refused}
use Rattle.rules.specs.Meaning.{Meaning, size_of}
use Rattle.rules.specs.Table.{stored_form, meaning_in, accepted}
use Rattle.rules.specs.State.{start}
use Rattle.rules.specs.Source.{Ended, lines_from}
use Rattle.rules.specs.Compile.{is_ranked, meaning_of, finish, compile_of}
use Rattle.rules.specs.Calls as calls
use Rattle.rules.specs.Calls.{over, compiled_as, compile_call}
use Rattle.rules.proofs.CompileLaws.{compile-good}
use Rattle.rules.proofs.TableLaws.{stored-append, stored_back, stored-accepted}
use Rattle.locale_compile.specs.Answers.{told_as}

-- The stored form of the meaning that the definition grants stands in front, and the rest is as it was.
pub record Gives (src area work after : List ℕ) (size : ℕ) : Type 0 where
  pub meaning : Meaning
  pub grants : compile_of src (length area) (length work) ≡ granted meaning
  pub there : after ≡ over (stored_form meaning []) area
  pub long : size ≡ size_of meaning

-- ## A refusal has a number

-- the number of a refusal; 1 where there is none
abbrev number_in : Result Meaning → ℕ
number_in (granted m) = 1
number_in (refused n l) = n

some-finish : (area : ℕ) (e : Ended) → 1 ≤ number_in (finish area e)
unfolding finish
some-finish area e =
    cond-by (λ (x : Result Meaning). 1 ≤ number_in x) (not (eqb e.refusal 0))
    (λ t. let z = eqb-false e.refusal 0 (not-true (eqb e.refusal 0) t) in omega (arith, z))
    (λ t. cond_both (λ (x : Result Meaning). 1 ≤ number_in x) (not (every (is_ranked e.state.ordered.lines) e.state.ordered.lines)) (omega arith)
    (cond_both (λ (x : Result Meaning). 1 ≤ number_in x) (ltb area (size_of (meaning_of e.state))) (omega arith) (omega arith)))

some-compile : (source : List ℕ) (area work : ℕ) → 1 ≤ number_in (compile_of source area work)
unfolding compile_of
some-compile source area work =
    cond_both (λ (x : Result Meaning). 1 ≤ number_in x) (leb (length source) 1048576 && leb (length source + 64) work)
    (some-finish area (lines_from start 1 0 source)) (omega arith)

-- ## What stands in front

module _ (src area work after cleaned : List ℕ) (size : ℕ) (e : told_as (Ok size) after cleaned ≡ compile_call src area work) where
  pub compile-gives : Gives src area work after size
  unfolding compile_call compiled_as
  compile-gives = go (compile_of src (length area) (length work)) refl
    where
      go : (x : Result Meaning) → compile_of src (length area) (length work) ≡ x → Gives src area work after size
      go (granted m) f =
          let t = e ∙ ap (λ (y : Result Meaning). compiled_as y area work) f in
          record { meaning = m; grants = f; there = ap (λ (c : calls.Compiled). c.area) t; long = ap (λ (c : calls.Compiled). c.size) t }
      go (refused n l) f =
          let t = ap (λ (c : calls.Compiled). c.refusal) (e ∙ ap (λ (y : Result Meaning). compiled_as y area work) f) in
          let o = some-compile src (length area) (length work) in
          let i = ap number_in f in
          absurd (omega (arith, t, o, i))

  front : (g : Gives src area work after size) → after ≡ stored_form g.meaning (drop (length (stored_form g.meaning [])) area)
  front g = g.there ∙ stored-append g.meaning [] (drop (length (stored_form g.meaning [])) area)

  -- what is compiled is accepted: it can be given back to every operation on tables
  pub compile-accepted : accepted after ≡ true
  compile-accepted =
      let g = compile-gives in
      ap accepted (front g) ∙ stored-accepted g.meaning _ (compile-good src (length area) (length work) g.meaning g.grants)

  -- and is read back as what the source means
  pub compile-means : (g : Gives src area work after size) → meaning_in after ≡ g.meaning
  compile-means g = ap meaning_in (front g) ∙ stored_back g.meaning _ (compile-good src (length area) (length work) g.meaning g.grants)
