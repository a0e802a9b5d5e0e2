-- The byte at a place, in plain mode: where it is given as it is, it stands for itself.
use mathlib.Core.Path.{◌≡◌, refl, sym, ◌∙◌}
use mathlib.Core.Bool.{◌&&◌, ◌||◌, and-false}
use mathlib.Core.Logic.{◌⊎◌, inl, inr}
use mathlib.Core.List.{List}
use Prim.Native.Nat.{ℕ, ◌≤◌, ◌<◌}
use native.Mathlib.Omega.{arith}
use lib.ListN.{length, get_or, get_or-eq_default}
use lib.Dec.{eqb, ltb}
use borrow.Author.Tests.{eq-eqb, ne_eqb, eqb-false, ltb-true, ltb-false}
use Rattle.base_lists.proofs.Bools.{by, cond_both, or-false-left, or-false-right}
use Rattle.rules.specs.Lines.{in_plain}
use Rattle.text_lines.specs.declared.Signs.{Signs}
use Rattle.text_lines.specs.declared.Spot.{Spot}
use Rattle.text_lines.proofs.StandsLaws.{Stands}
use Rattle.text_tokens.specs.Left.{plain_at, PlainAt}

module _ (g : Signs) (src : List ℕ) (at : ℕ) where
  pub at-end : length src ≤ at → PlainAt g src at 0
  unfolding plain_at
  at-end h =
      let z : get_or src at 0 ≡ 0 = get_or-eq_default src 0 h in
      record { is = sym (rw z (cond_both (λ (x : ℕ). x ≡ 0) (eqb 0 g.escape || eqb 0 g.comment || eqb 0 10) refl refl)); small = omega arith }

  at-escape : get_or src at 0 ≡ g.escape → PlainAt g src at 0
  unfolding plain_at
  at-escape e = record { is = sym (rw (eq-eqb (get_or src at 0) g.escape e)); small = omega arith }

  at-comment : (get_or src at 0 ≡ g.escape → ⊥) → get_or src at 0 ≡ g.comment → PlainAt g src at 0
  unfolding plain_at
  at-comment h e = record { is = sym (simp (ne_eqb (get_or src at 0) g.escape h, eq-eqb (get_or src at 0) g.comment e)); small = omega arith }

  module _ (h : get_or src at 0 ≡ g.escape → ⊥) (k : get_or src at 0 ≡ g.comment → ⊥) where
    at-feed : get_or src at 0 ≡ 10 → PlainAt g src at 0
    unfolding plain_at
    at-feed e =
        record { is = sym (simp (ne_eqb (get_or src at 0) g.escape h, ne_eqb (get_or src at 0) g.comment k, eq-eqb (get_or src at 0) 10 e)); small = omega arith }

  pub at-one : (get_or src at 0 ≡ g.escape)
      ⊎ ((((get_or src at 0 ≡ g.escape → ⊥) × (get_or src at 0 ≡ g.comment)))
      ⊎ ((get_or src at 0 ≡ g.escape → ⊥) × (get_or src at 0 ≡ g.comment → ⊥) × (get_or src at 0 ≡ 10)))
      → PlainAt g src at 0
  at-one (inl e) = at-escape e
  at-one (inr (inl (h, e))) = at-comment h e
  at-one (inr (inr (h, k, e))) = at-feed h k e

  pub at_byte : (get_or src at 0 ≡ g.escape → ⊥) × (get_or src at 0 ≡ g.comment → ⊥) × (get_or src at 0 ≡ 10 → ⊥) → get_or src at 0 < 256
      → PlainAt g src at (get_or src at 0)
  unfolding plain_at
  at_byte (h, k, n) l =
      record { is = sym (simp (ne_eqb (get_or src at 0) g.escape h, ne_eqb (get_or src at 0) g.comment k, ne_eqb (get_or src at 0) 10 n)); small = l }

-- such a byte stands at every spot in plain mode
pub plain-stands : {g : Signs} {src : List ℕ} {p : Spot} {b : ℕ} → PlainAt g src p.at b → p.mode ≡ in_plain → 0 < b → Stands g src p b
unfolding plain_at
plain-stands {g} {src} {p} {b} v o l =
    let x = get_or src p.at 0 in
    by (eqb x g.escape || eqb x g.comment || eqb x 10)
    (λ t. let z : b ≡ 0 = v.is ∙ rw t in absurd (omega arith))
    (λ t. let z : b ≡ x = v.is ∙ rw t in
    let s = or-false-left (eqb x g.escape || eqb x g.comment) (eqb x 10) t in
    let c = or-false-right (eqb x g.escape) (eqb x g.comment) s in
    record {
      inside = by (ltb p.at (length src)) (λ u. ltb-true p.at (length src) u)
          (λ u. let y : x ≡ 0 = get_or-eq_default src 0 (ltb-false p.at (length src) u) in absurd (omega arith));
      is = sym z;
      small = v.small;
      no-feed = rw z (eqb-false x 10 (or-false-right (eqb x g.escape || eqb x g.comment) (eqb x 10) t));
      no-escape = rw z (eqb-false x g.escape (or-false-left (eqb x g.escape) (eqb x g.comment) s));
      seen = λ y. omega arith;
      no-comment = rw (z, c) (and-false (eqb p.mode 0 && p.fresh));
    })
