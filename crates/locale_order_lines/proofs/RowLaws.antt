-- The row of an order line, and the line that it is given.
use Rattle.std.specs.Prelude.{None, Option, Some, ℕ, Ok, Result}
use mathlib.Core.Path.{◌≡◌, refl, sym, ap, ◌∙◌, subst}
use mathlib.Core.Bool.{Bool, true, false}
use mathlib.Core.List.{List}
use Prim.Native.Nat.{ℕ, ◌<◌}
use native.Mathlib.Omega.{arith}
use lib.ListN.{length}
use Rattle.rules.specs.State.{in_block}
use Rattle.text_lines.specs.declared.Signs.{Signs}
use Rattle.text_lines.specs.declared.LineEnd.{LineEnd}
use Rattle.work_subjects.specs.Keys.{key_at}
use Rattle.work_store.specs.Store.{Declares}
use Rattle.work_order.specs.declared.Order.{Order}
use Rattle.work_order.specs.Links.{Row, Among, longer, with_line, shorter, unlinked, longer_after, with_line_after}
use Rattle.work_order.proofs.ListLaws.{row_kept}
use Rattle.work_order.proofs.MoveLaws.{without, without-one, out-length, lines-out, backed-out}
use Rattle.locale_sheet.proofs.RankLaws.{is_ordered}
use Rattle.locale_sheet.specs.declared.Sheet.{Sheet}
use Rattle.locale_sheet.specs.declared.Step.{Step}
use Rattle.locale_sheet.specs.declared.Step.TheVariants.{Next}
use Rattle.locale_order_lines.specs.Facts.{RowIs, with_order, with_last, Ready, LastIs, NewIs, MovedIs, Lists, at_end, firstly, anew}
use Rattle.base_units.specs.declared.Refusal.{Refusal}

-- ## The row

module _ (g : Signs) (src w : List ℕ) (v : ℕ) (f : Option ℕ) where
  pub row-found : {u : ℕ} → f ≡ Some u → RowIs g src w v w u f
  row-found {u} e = subst (RowIs g src w v w u) (sym e) (refl, refl)

  pub row_new : (w' : List ℕ) → f ≡ None → Declares (key_at g src) (length src) w v w' → RowIs g src w v w' v f
  row_new w' e d = subst (RowIs g src w v w' v) (sym e) (refl, d)

-- ## Where the line comes to stand

pub lists-last : (w : List ℕ) (sh : Sheet) (m number place : ℕ) (e : LineEnd) (w' : List ℕ) (o : Order) → o ≡ longer sh.order m
    → w' ≡ with_line w sh.order m number place → LastIs w sh m number place e w' (Ok (Next (with_order sh o) e.next e.feeds))
lists-last w sh m number place e w' o h k = record { step = ap (λ (x : Order). Ok (Next (with_order sh x) e.next e.feeds)) h; area = k }

next-with : (sh s : Sheet) (o q : Order) (m : ℕ) (e : LineEnd) → s ≡ with_last sh o m → o ≡ q
    → ◌≡◌ {A = Result Step Refusal} (Ok (Next s e.next e.feeds)) (Ok (Next (with_last sh q m) e.next e.feeds))
next-with sh s o q m e h k = ap (λ (x : Sheet). Ok (Next x e.next e.feeds)) h ∙ ap (λ (x : Order). Ok (Next (with_last sh x m) e.next e.feeds)) k

pub lists-new : (w : List ℕ) (sh : Sheet) (m number place : ℕ) (e : LineEnd) (w' : List ℕ) (o : Order) (s : Sheet)
    → o ≡ longer_after w sh.order sh.block.last m → w' ≡ with_line_after w sh.block.last m number place → s ≡ with_last sh o m
    → NewIs w sh m number place e w' (Ok (Next s e.next e.feeds))
lists-new w sh m number place e w' o s h k f = record { step = next-with sh s o (longer_after w sh.order sh.block.last m) m e f h; put = k }

pub lists-moved : (w : List ℕ) (sh : Sheet) (m number place : ℕ) (e : LineEnd) (w₁ w' : List ℕ) (q o : Order) (s : Sheet)
    → q ≡ shorter w sh.order m → w₁ ≡ unlinked w m
    → o ≡ longer_after w₁ q sh.block.last m → w' ≡ with_line_after w₁ sh.block.last m number place → s ≡ with_last sh o m
    → MovedIs w sh m number place e w' (Ok (Next s e.next e.feeds))
lists-moved w sh m number place e w₁ w' q o s a b h k f = record {
  step = next-with sh s o (longer_after (unlinked w m) (shorter w sh.order m) sh.block.last m) m e f
      (h ∙ ap (λ (x : List ℕ). longer_after x q sh.block.last m) b ∙ ap (λ (y : Order). longer_after (unlinked w m) y sh.block.last m) a);
  moved = k ∙ ap (λ (x : List ℕ). with_line_after x sh.block.last m number place) b;
}

-- ## What is required

module _ {w : List ℕ} {sh : Sheet} {m number place : ℕ} (r : Ready w sh m number place) (p : sh.phase ≡ in_block) where
  pub new-among : Among w sh.order sh.block.last
  new-among = let b = r.block p in record { marks = b.marks; lines = b.lines; backed = b.backed; one = b.one }

  pub last-small : sh.block.last < 4294967296
  last-small = (r.block p).small

  module _ (d : is_ordered w (Some m) ≡ true) where
    pub out-among : Among w sh.order m
    out-among = let b = r.block p in record { marks = b.marks; lines = b.lines; backed = b.backed; one = b.placed d }

    pub moved-among : (w₁ : List ℕ) (q : Order) → w₁ ≡ unlinked w m → q ≡ shorter w sh.order m → Among w₁ q sh.block.last
    moved-among w₁ q e f =
        let b = r.block p in
        let own = b.placed d in
        subst (λ (x : List ℕ). Among x q sh.block.last) (sym e)
        (subst (λ (y : Order). Among (unlinked w m) y sh.block.last) (sym f) (record {
          marks = without m b.marks;
          lines = lines-out w m sh.order b.marks b.lines b.backed own;
          backed = backed-out w m sh.order b.marks b.lines b.backed own;
          one = without-one m sh.block.last b.marks b.other ∙ b.one;
        }))

    pub moved_row : (w₁ : List ℕ) → w₁ ≡ unlinked w m → Row w₁ m
    moved_row w₁ e = row_kept w w₁ m (ap length e ∙ out-length w m) r.row

    pub moved-few : (q : Order) → q ≡ shorter w sh.order m → q.count < 4294967296
    moved-few q f = let a = r.few in let c = ap (λ (y : Order). y.count) f in omega (arith, a, c)

-- ## One of the three

pub told-so : {a b c : Bool} → a ≡ b → a ≡ c → b ≡ c
told-so e t = sym e ∙ t

module _ (w : List ℕ) (sh : Sheet) (m number place : ℕ) (e : LineEnd) (w' : List ℕ) (r : Result Step Refusal) where
  pub line-end : (sh.phase ≡ 6 → ⊥) → LastIs w sh m number place e w' r → Lists w sh m number place e w' r
  line-end h k = at_end h k

  pub line_first : {b : Bool} → sh.phase ≡ 6 → b ≡ is_ordered w (Some m) → b ≡ false → NewIs w sh m number place e w' r → Lists w sh m number place e w' r
  line_first h a t k = firstly h (sym a ∙ t) k

  pub line-anew : {b : Bool} → sh.phase ≡ 6 → b ≡ is_ordered w (Some m) → b ≡ true → MovedIs w sh m number place e w' r → Lists w sh m number place e w' r
  line-anew h a t k = anew h (sym a ∙ t) k
