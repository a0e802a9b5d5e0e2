-- The end of a source outside every category: whether LC_COLLATE has stood and a category has ended. For the reader of a whole source.
use mathlib.Core.Path.{◌≡◌, ap, ◌∙◌}
use mathlib.Core.Bool.{Bool, true, false, and-false}
use mathlib.Core.List.{List}
use Prim.Native.Nat.{ℕ}
use native.Mathlib.Omega.{arith}
use lib.ListN.{drop}
use lib.Dec.{eqb}
use borrow.Author.Tests.{leb-true, eq-eqb, eqb-true, eqb-false, ne_eqb}
use Rattle.base_lists.proofs.Bools.{by, clash}
use Rattle.rules.specs.State.{between_categories, State, in_phase}
use Rattle.rules.specs.Source.{Ended, ended, at_end, lines_from}
use Rattle.text_specials.specs.declared.Chars.{Chars}
use Rattle.locale_outside.specs.Outside.{Stands}
use Rattle.locale_skips.specs.Passing.{Refuses}
use Rattle.locale_outside.specs.Stretches.{Ends}

-- ## A state outside every category

module _ {c : Chars} {before collated : Bool} {s : State} (v : Stands c before collated s) where
  -- between categories, where one has stood
  pub stands-later : before ≡ false → in_phase between_categories s ≡ true
  stands-later f =
      let l = leb-true s.place.phase between_categories v.outside in
      let p = s.place.phase in
      eq-eqb p 1 (by (eqb p 0) (λ t. clash t (v.before ∙ f)) (λ t. let n = eqb-false p 0 t in omega arith))

  pub stands-first : before ≡ true → in_phase between_categories s ≡ false
  stands-first f =
      let e = eqb-true s.place.phase 0 (v.before ∙ f) in
      ne_eqb s.place.phase 1 (λ z. omega arith)

  -- the end there
  pub end_whole : (n : ℕ) → before ≡ false → collated ≡ true → at_end s n ≡ ended 0 0 s
  end_whole n f g = rw (stands-later f, v.collated ∙ g)

  pub end-early : (n : ℕ) → before ≡ true → at_end s n ≡ ended 3 n s
  end-early n f = rw (stands-first f)

  pub end-without : (n : ℕ) → collated ≡ false → at_end s n ≡ ended 3 n s
  end-without n g = rw (v.collated ∙ g, and-false (in_phase between_categories s))

-- ## The end of a source

module _ {s : State} {src : List ℕ} {at number : ℕ} {collated : Bool} {c : Chars} {before : Bool} {n : ℕ} (v : Ends s src at number collated c before n) where
  pub ends-whole : before ≡ false → collated ≡ true → lines_from s number 0 (drop at src) ≡ ended 0 0 v.state
  ends-whole f g = v.run ∙ end_whole v.stands n f g

  refused-three : at_end v.state n ≡ ended 3 n v.state → Refuses (lines_from s number 0 (drop at src)) 3 n
  refused-three e =
      let q : lines_from s number 0 (drop at src) ≡ ended 3 n v.state = v.run ∙ e in
      record { refusal = ap (λ (x : Ended). x.refusal) q; line = ap (λ (x : Ended). x.line) q }

  pub ends-early : before ≡ true → Refuses (lines_from s number 0 (drop at src)) 3 n
  ends-early f = refused-three (end-early v.stands n f)

  pub ends-without : collated ≡ false → Refuses (lines_from s number 0 (drop at src)) 3 n
  ends-without g = refused-three (end-without v.stands n g)
