-- A byte that stands for itself: it is the next mark of its line, and its mode and it alone say in which mode the line goes on. For readers that look at the
-- byte themselves.
use mathlib.Core.Path.{◌≡◌, refl, sym, ◌∙◌}
use mathlib.Core.Bool.{Bool, false, ◌&&◌}
use mathlib.Core.List.{List}
use Prim.Native.Nat.{ℕ, ◌+◌, ◌<◌}
use lib.ListN.{length, get_or}
use lib.Dec.{eqb}
use native.Mathlib.Omega.{arith}
use Rattle.rules.specs.Names.{is_blank}
use Rattle.rules.specs.Lines.{in_comment, after}
use Rattle.text_lines.specs.declared.Signs.{Signs}
use Rattle.text_lines.specs.declared.Spot.{Spot}
use Rattle.text_lines.specs.declared.Item.TheVariants.{Mark}
use Rattle.text_lines.specs.Stream.{ItemIs, MarkIs}
use Rattle.text_lines.proofs.LineLaws.{spot, item-mark}
use Rattle.text_lines.proofs.WalkLaws.{joined-none, joined-mark}

-- The byte at a spot outside comments is no LF and no escape, and opens no comment.
pub record Stands (g : Signs) (src : List ℕ) (p : Spot) (b : ℕ) : Type 0 where
  pub inside : p.at < length src
  pub is : get_or src p.at 0 ≡ b
  pub small : b < 256
  pub no-feed : b ≡ 10 → ⊥
  pub no-escape : b ≡ g.escape → ⊥
  pub seen : p.mode ≡ in_comment → ⊥
  pub no-comment : (eqb p.mode 0 && p.fresh && eqb b g.comment) ≡ false

module _ {g : Signs} {src : List ℕ} {p : Spot} {b mode : ℕ} {fresh : Bool} (v : Stands g src p b) (a : mode ≡ after p.mode b) (f : fresh ≡ is_blank b) where
  -- it is what stands next
  pub stands-item : ItemIs g src p (Mark b (spot (p.at + 1) mode fresh))
  stands-item =
      let e = v.is in
      item-mark g src p v.inside (λ z. v.no-feed (sym e ∙ z)) v.seen (λ z. v.no-escape (sym e ∙ z)) {y = b} refl (rw e v.no-comment) (rw e a) (rw e f) (sym e) v.small

  -- and the next mark
  pub stands-mark : MarkIs g src p b (spot (p.at + 1) mode fresh)
  stands-mark = joined-mark (joined-none g src p (let h = v.inside in omega arith)) stands-item refl
