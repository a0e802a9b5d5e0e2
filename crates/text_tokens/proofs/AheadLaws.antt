-- What the next byte tells, in plain mode: a name, a `;`, that no blank comes next, or one.
use Rattle.std.specs.Prelude.{None, Option, Some, ℕ}
use mathlib.Core.Path.{◌≡◌, refl, sym}
use mathlib.Core.Bool.{Bool, true, false}
use mathlib.Core.List.{List}
use Prim.Native.Nat.{ℕ, ◌+◌, ◌≤◌, ◌<◌}
use native.Mathlib.Omega.{arith}
use lib.ListN.{length}
use borrow.Author.Tests.{ne_eqb}
use Rattle.rules.specs.Lines.{in_plain, after}
use Rattle.rules.specs.Tokens.{tokens_refusal}
use Rattle.base_units.specs.declared.Refusal.{Refusal}
use Rattle.text_lines.specs.declared.Signs.{Signs}
use Rattle.text_lines.specs.declared.Spot.{Spot}
use Rattle.text_lines.specs.Stream.{MarkIs}
use Rattle.text_lines.proofs.LineLaws.{spot}
use Rattle.text_tokens.specs.declared.Tok.{Tok}
use Rattle.text_tokens.specs.Left.{tokens_left, is_inside, PlainAt, ClosingIs, bare_at, named_at, TokenIs, Skips}
use Rattle.text_lines.proofs.StandsLaws.{stands-mark}
use Rattle.text_tokens.proofs.StandLaws.{plain-stands}
use Rattle.text_tokens.proofs.NextLaws.{next-semi, next-name, next-name-open}
use Rattle.text_tokens.proofs.GapLaws.{blanks-none, blanks-space, blanks-stop}

module _ (g : Signs) (src : List ℕ) (p : Spot) (o : p.mode ≡ in_plain) where
  -- the spot after it, in a mode
  abbrev past : ℕ → Bool → Spot
  past mode fresh = spot (p.at + 1) mode fresh

  module _ {b : ℕ} (v : PlainAt g src p.at b) where
    -- a visible byte, or one beyond
    pub ahead-solid : 32 < b → MarkIs g src p b (past (after in_plain b) false)
    ahead-solid l =
        stands-mark (plain-stands v o (omega arith)) (rw o) (simp (ne_eqb b 32 (λ z. omega arith), ne_eqb b 9 (λ z. omega arith)))

    pub ahead-space : b ≡ 32 → MarkIs g src p 32 (past 0 true)
    unfolding after
    ahead-space e = stands-mark (plain-stands (rw e at v) o (omega arith)) (rw o) refl

    -- ## Tokens

    module _ (e : b ≡ 60) where
      ahead-name-mark : MarkIs g src p 60 (past 1 false)
      unfolding after
      ahead-name-mark = stands-mark (plain-stands (rw e at v) o (omega arith)) (rw o) refl

      pub ahead-inside : (p.at + 1 ≤ length src) × (is_inside 1 ≡ true)
      ahead-inside = (ahead-name-mark.to, refl)

      module _ {c : Option (Option Refusal × Spot)} (k : ClosingIs g src (past 1 false) c) where
        pub ahead-open : c ≡ None → tokens_refusal (tokens_left g src p) ≡ 3
        ahead-open = next-name-open g src p {s = Some (60, (past 1 false))} o ahead-name-mark refl refl k

        pub ahead-name : {f : Option Refusal} {r : Spot} → c ≡ Some (f, r) → {t : Tok} → t ≡ named_at f (past 1 false) r → TokenIs g src p t
        ahead-name = next-name g src p {s = Some (60, (past 1 false))} o ahead-name-mark refl refl k

    pub ahead-semi : b ≡ 59 → {t : Tok} → t ≡ bare_at 1 (past 0 false) → TokenIs g src p t
    unfolding after
    ahead-semi e =
        next-semi g src p {s = Some (59, (past 0 false))} o (stands-mark (plain-stands (rw e at v) o (omega arith)) (rw o) refl) refl refl

    -- ## Blanks

    pub ahead_none : 32 < b → Skips g src p p
    ahead_none l =
        let m = ahead-solid l in
        blanks-stop (blanks-none g src p (omega (arith, m.on, m.to)) o) m (sym m.step.fresh)

-- one blank, and none behind it
pub ahead-one : (g : Signs) (src : List ℕ) (p : Spot) (o : p.mode ≡ in_plain) {b d : ℕ} → PlainAt g src p.at b → b ≡ 32 → PlainAt g src (p.at + 1) d → 32 < d
    → Skips g src p (spot (p.at + 1) 0 true)
ahead-one g src p o {b} {d} v e w l =
    let q = spot (p.at + 1) 0 true in
    let m = ahead-space g src p o v e in
    let n = ahead-solid g src q refl w l in
    let i = blanks-space (blanks-none g src p (omega (arith, m.on, m.to)) o) m refl in
    blanks-stop i n (sym n.step.fresh)
