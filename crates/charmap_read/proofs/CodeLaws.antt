-- The laws of the definition (CharmapLaws in rules) as laws of the code: of every area that `read` leaves where it answers Ok.
use Rattle.std.specs.Prelude.{Ok}
use mathlib.Core.Path.{◌≡◌, sym, ap, ◌∙◌}
use mathlib.Core.Bool.{true}
use mathlib.Core.List.{List, Memᴰ}
use Prim.Native.Nat.{ℕ}
use native.Mathlib.Omega.{arith}
use lib.ListN.{length, get_or, drop, get_or-append}
use lib.Dec.{eqb, ltb}
use borrow.Author.Tests.{eqb-false}
use Rattle.base_lists.proofs.Bools.{by}
use Rattle.rules.specs.Text.{granted}
use Rattle.rules.specs.Charmap.{Given, no_code, area_of, charmap_of}
use Rattle.rules.specs.Coding.{area_accepted}
use Rattle.rules.specs.Calls as calls
use Rattle.rules.specs.Calls.{over, mapped_as, charmap_call}
use Rattle.rules.proofs.CharmapLaws.{given_by, given-good, charmap-length, charmap-accepted-append, charmap-decodes}
use Rattle.charmap_read.specs.Answers.{read_as}
use Rattle.charmap_read.specs.Read.{whole_run}

-- The numbers that the definition grants stand in front, and the rest is as it was.
pub record Gives (src area after : List ℕ) : Type 0 where
  pub numbers : List ℕ
  pub grants : charmap_of src (length area) ≡ granted numbers
  pub there : after ≡ over numbers area

refusal-of : {x y : calls.Mapped} → x ≡ y → x.refusal ≡ y.refusal
refusal-of e = ap (λ (m : calls.Mapped). m.refusal) e

module _ (src area after : List ℕ) (e : read_as (Ok tt) after ≡ charmap_call src area) where
  pub read-gives : Gives src area after
  unfolding charmap_call charmap_of mapped_as
  read-gives =
      by (ltb 1048576 (length src))
      (λ t. let k = refusal-of (rw t at e) in absurd (omega arith))
      (λ t. by (eqb (whole_run src).refusal 0)
      (λ u. by (ltb (length area) 512)
      (λ v. let k = refusal-of (rw (t, u, v) at e) in absurd (omega arith))
      (λ v. record { numbers = area_of (whole_run src).given; grants = rw (t, u, v); there = ap (λ (m : calls.Mapped). m.area) (rw (t, u, v) at e) }))
      (λ u. absurd (eqb-false (whole_run src).refusal 0 u (sym (refusal-of (rw (t, u) at e))))))

  -- the area is accepted: it can be given back to decode and encode
  pub read-accepted : area_accepted after ≡ true
  read-accepted =
      let g = read-gives in
      rw g.there (charmap-accepted-append src (length area) g.numbers g.grants (drop (length g.numbers) area))

  -- each byte that a line gives decodes as written
  pub read-decodes : (g : Given) → Memᴰ g (given_by src) → get_or after g.byte no_code ≡ g.code
  read-decodes g m =
      let v = read-gives in
      let n = charmap-length src (length area) v.numbers v.grants in
      let f = (given-good src).fits g m in
      ap (λ (a : List ℕ). get_or a g.byte no_code) v.there
      ∙ get_or-append v.numbers (drop (length v.numbers) area) no_code g.byte (omega arith)
      ∙ charmap-decodes src (length area) v.numbers v.grants g m
