-- A line that opens with the word UNDEFINED, as an order line.
use Rattle.std.specs.Prelude.{Some, Result}
use mathlib.Core.Path.{◌≡◌, refl, sym, ap, ◌∙◌, subst}
use mathlib.Core.Bool.{Bool}
use mathlib.Core.List.{List}
use Prim.Native.Nat.{ℕ, ◌+◌, ◌/◌, ◌≤◌}
use native.Mathlib.Omega.{arith}
use lib.ListN.{length}
use Rattle.rules.specs.Text.{bytes, same, is, ◌unless◌, lower}
use Rattle.rules.specs.Tokens.{Token, tokens_refusal}
use Rattle.rules.specs.State.{undefined, Chain, State, Outcome, gives}
use Rattle.rules.specs.OrderLines.{order_line}
use Rattle.rules.specs.Source.{collate_line}
use Rattle.rules.proofs.TextLaws.{lower-none}
use Rattle.rules.proofs.RefusalLaws.{Bounded, bounded-lower, bounded-low, bounded-high, bounded-tokens}
use Rattle.text_lines.specs.declared.Signs.{Signs}
use Rattle.text_lines.specs.declared.Spot.{Spot}
use Rattle.text_lines.specs.declared.LineEnd.{LineEnd}
use Rattle.text_lines.specs.Stream.{marks_left, line_start}
use Rattle.locale_sheet.specs.Known.{mark_of}
use Rattle.locale_sheet.specs.declared.Sheet.{Sheet}
use Rattle.locale_sheet.specs.declared.Step.{Step}
use Rattle.locale_sheet.specs.Sheets.{Open, SomeOpen, StepIs}
use Rattle.locale_sheet.specs.Names.{operands_from}
use Rattle.locale_sheet.proofs.SheetLaws.{read_whole, spot-behind}
use Rattle.locale_order_lines.specs.declared.Facts.{Facts}
use Rattle.locale_order_lines.specs.Facts.{is_again, undefined_facts, AgainIs, OwnRefused, Ready, Lists}
use Rattle.locale_sheet.specs.Words.{WordLine}
use Rattle.locale_order_lines.specs.Lines.{Reads}
use Rattle.locale_order_lines.proofs.FactLaws.{undefined-are}
use Rattle.locale_order_lines.proofs.AgainLaws.{again-is}
use Rattle.locale_order_lines.proofs.RangeLaws.{bounded-line, bounded-order}
use Rattle.locale_order_lines.proofs.StepLaws.{phase-of, line_taken, line-listed, Placed, placed-ready}
use Rattle.work_store.specs.Store.{undefined_mark}
use Rattle.base_units.specs.declared.Refusal.{Refusal}

-- the line of that word is an order line
undefined-collate : (s : State) (number : ℕ) (os : List Token) → collate_line s number (bytes "UNDEFINED") os ≡ order_line s number undefined os
unfolding collate_line is same bytes
undefined-collate s number os = refl

nine : length (bytes "UNDEFINED") ≡ 9
unfolding bytes
nine = refl

module _ (g : Signs) (src : List ℕ) (at : ℕ) (p : Spot) (e : LineEnd) (l : WordLine g src at p e (bytes "UNDEFINED")) (w : List ℕ) (sh : Sheet) (number m : ℕ)
    (mark : m ≡ undefined_mark (length src)) where
  module _ (k : Facts) (f : k ≡ undefined_facts w m) (again : Bool) (u : again ≡ is_again w sh (Some m)) (r : ℕ) (v : OwnRefused g src w sh p k again r) {y : ℕ} (b : y ≡ lower (2 unless e.text) r) where
    second : AgainIs g src w sh undefined again
    unfolding mark_of
    second = again-is g src w sh undefined (Some m) again u (λ cs at s o. ap Some (sym mark))

    refusal_is : (cs : List Chain) (s : State) → Open g src w sh cs at s
        → lower (2 unless e.text) (lower (tokens_refusal (operands_from g src p)) (order_line s number undefined (operands_from g src p)).refusal) ≡ y
    refusal_is cs s o = sym (b ∙ ap (lower (2 unless e.text)) (v.is undefined (undefined-are g src w m k mark f) second cs at s number o))

    bounded : {depth : ℕ} → SomeOpen g src w sh at depth → Bounded 2 7 y
    bounded so =
        let s = so.state in
        let c = (order_line s number undefined (operands_from g src p)).refusal in
        let d = tokens_refusal (operands_from g src p) in
        subst (Bounded 2 7) (refusal_is so.chains s so.held)
        (bounded-line e.text (lower d c) (bounded-lower 3 7 d c (bounded-tokens (operands_from g src p)) (bounded-order s number undefined (operands_from g src p))))

    pub undefined-reads : (depth : ℕ) → SomeOpen g src w sh at depth → Reads g src w sh at number undefined p y
    undefined-reads depth so = record {
      outcome = λ cs s o u.
          read_whole g src w sh cs at s o u number (marks_left g src (line_start at))
          ∙ l.whole s number o.inside
          ∙ ap (λ (z : Outcome). gives (lower (2 unless e.text) (lower (tokens_refusal (operands_from g src p)) z.refusal)) z.state) (undefined-collate s number (operands_from g src p))
          ∙ ap (λ (z : ℕ). gives z (order_line s number undefined (operands_from g src p)).state) (refusal_is cs s o);
      none = λ z cs s o.
          let c = (order_line s number undefined (operands_from g src p)).refusal in
          let d = tokens_refusal (operands_from g src p) in
          (lower-none d c (lower-none (2 unless e.text) (lower d c) (refusal_is cs s o ∙ z)).1).1;
      tokens = λ z.
          let c = (order_line so.state number undefined (operands_from g src p)).refusal in
          let d = tokens_refusal (operands_from g src p) in
          (lower-none d c (lower-none (2 unless e.text) (lower d c) (refusal_is so.chains so.state so.held ∙ z)).1).0;
      low = bounded-low 2 7 y (bounded so);
      high = bounded-high 2 7 y (bounded so);
    }

  -- ## The step

  module _ (depth : ℕ) (so : SomeOpen g src w sh at depth) (r : ℕ) (v : Reads g src w sh at number undefined p r) (z : r ≡ 0) where
    there : (cs : List Chain) (s : State) → Open g src w sh cs at s → Placed g src w sh undefined at e.next w m s
    unfolding mark_of
    there cs s o =
        let y = line_taken v z cs s o in
        let q = phase-of s.place.phase sh.phase o.phase y.phase in
        let rows : o.n ≤ (at + 1) / 8 = rw (q.0, q.1) at (o.rows l.inside) in
        let on = l.line.on l.inside in
        record {
          n = o.n;
          known = o.known;
          mark = ap Some (sym mark);
          even = omega (arith, mark);
          some = omega (arith, mark);
          long = refl;
          beyond = λ j a. refl;
          rows = λ a. omega (arith, rows, on);
          places = o.places;
          block = o.block;
        }

    pub undefined-ready : number ≤ at + 1 → Ready w sh m number p.at
    undefined-ready i =
        let k = there so.chains so.state so.held in
        let a = so.short in
        let b = l.inside in
        let c = l.to in
        placed-ready k (line_taken v z so.chains so.state so.held) p.at (omega (arith, a, b, i)) (omega (arith, a, c)) so.held.few

    pub undefined-listed : (w'' : List ℕ) (st : Result Step Refusal) → Lists w sh m number p.at e w'' st → StepIs g src w sh at number depth w'' st
    undefined-listed w'' st a =
        let c = l.long in
        let n = nine in
        line-listed v z l.line l.inside there depth p.at (spot-behind p l.plain l.edge) (omega (arith, c)) (omega (arith, c, n)) l.to l.reach w'' st a
