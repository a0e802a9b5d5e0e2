-- The whole of a charmap: each answer is the paper's.
use Rattle.std.specs.Prelude.{if◌then◌else◌, Err, Ok, Result}
use mathlib.Core.Path.{◌≡◌, refl, sym, ap, ◌∙◌, subst}
use mathlib.Core.Bool.{not}
use mathlib.Core.List.{List, []}
use Prim.Native.Nat.{ℕ, ◌≤◌, ◌<◌}
use lib.ListN.{length}
use lib.Dec.{eqb, ltb}
use borrow.Author.Tests.{ne_eqb, lt-ltb, le-ltb}
use Rattle.rules.specs.Text as text
use Rattle.rules.specs.Text.{granted, refused}
use Rattle.rules.specs.Charmap.{MapEnded, map_ended, area_of, charmap_of}
use Rattle.rules.specs.Calls as calls
use Rattle.rules.specs.Calls.{over, mapped_as, charmap_call}
use Rattle.rules.proofs.CharmapLaws.{area-length}
use Rattle.base_units.specs.Numbers.{number_of}
use Rattle.base_units.specs.declared.Refusal.{Refusal}
use Rattle.base_units.proofs.NumberLaws.{number_of-some}
use Rattle.charmap_read.specs.Read.{whole_run, Closes, SourceIs}

-- the result, of how the run ends
abbrev answered : MapEnded → ℕ → ℕ → text.Result (List ℕ)
answered e size area =
    if ltb 1048576 size then refused 1 0
    else if not (eqb e.refusal 0) then refused e.refusal e.line
    else if ltb area 512 then refused 9 0
    else granted (area_of e.given)

called : (src area : List ℕ) (e : MapEnded) → whole_run src ≡ e → charmap_call src area ≡ mapped_as (answered e (length src) (length area)) area
unfolding charmap_call charmap_of
called src area e w = ap (λ (x : MapEnded). mapped_as (answered x (length src) (length area)) area) w

-- a refusal of number n and line l
abbrev stopped : ℕ → ℕ → List ℕ → calls.Mapped
stopped n l area = record { refusal = n; line = l; area = area }

module _ (src area : List ℕ) where
  pub too_long : 1048576 < length src → stopped 1 0 area ≡ charmap_call src area
  unfolding mapped_as
  too_long h = sym (called src area (whole_run src) refl ∙ rw (lt-ltb 1048576 (length src) h))

  module _ (h : length src ≤ 1048576) {s : Result Unit (Refusal × ℕ)} (after : List ℕ) (w : SourceIs src after s) where
    pub line_refused : {r : Refusal} {l : ℕ} → s ≡ Err (r, l) → stopped (number_of r) l area ≡ charmap_call src area
    unfolding mapped_as
    line_refused {r} {l} e =
        let k : whole_run src ≡ map_ended (number_of r) l [] = subst (SourceIs src after) e w in
        sym (called src area (map_ended (number_of r) l []) k ∙ rw (le-ltb 1048576 (length src) h, ne_eqb (number_of r) 0 (number_of-some r)))

    module _ (e : s ≡ (Ok tt)) where
      closes : Closes (whole_run src) after
      closes = subst (SourceIs src after) e w

      pub own-length : length after ≡ 512
      own-length = ap length closes.holds ∙ area-length closes.given

      pub too_short : length area < 512 → stopped 9 0 area ≡ charmap_call src area
      unfolding mapped_as
      too_short k = sym (called src area (map_ended 0 0 closes.given) closes.ended ∙ rw (le-ltb 1048576 (length src) h, lt-ltb (length area) 512 k))

      pub written : {exit : List ℕ} → 512 ≤ length area → exit ≡ over after area → stopped 0 0 exit ≡ charmap_call src area
      unfolding mapped_as
      written {exit} k x =
          ap (stopped 0 0) (x ∙ ap (λ (l : List ℕ). over l area) closes.holds)
          ∙ sym (called src area (map_ended 0 0 closes.given) closes.ended ∙ rw (le-ltb 1048576 (length src) h, le-ltb (length area) 512 k))
