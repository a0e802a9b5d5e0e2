-- From the last line to the ranks: what the lines have left is what the area holds once each order line has its rank.
use Rattle.std.specs.Prelude.{Err, Ok, Result, ℕ}
use mathlib.Core.Path.{◌≡◌, sym, ap, ◌∙◌, subst}
use mathlib.Core.List.{List}
use Prim.Native.Nat.{ℕ, ◌≤◌, ◌<◌}
use native.Mathlib.Omega.{arith}
use lib.ListN.{length}
use Rattle.rules.specs.State.{Declaration, Ordered, start}
use Rattle.rules.specs.Source.{Ended, lines_from}
use Rattle.rules.proofs.TextLaws.{within-high}
use Rattle.rules.proofs.SourceLaws.{EndsSound, lines_from-sound, start-sound}
use Rattle.text_lines.specs.declared.Signs.{Signs}
use Rattle.work_order.specs.declared.Order.{Order}
use Rattle.work_order.specs.Links.{SomeLines, Ranks}
use Rattle.locale_sheet.specs.Known.{Known}
use Rattle.locale_sheet.specs.declared.Sheet.{Sheet}
use Rattle.table_items.specs.Items.{LinesReady, WholeSums, SumsAre}
use Rattle.table_items.proofs.MeaningLaws.{meant, lines-ready}
use Rattle.locale_source.specs.Whole.{WholeSource}
use Rattle.base_units.specs.declared.Refusal.TheVariants.{Unranked}
use Rattle.locale_compile.specs.Finishing.{AnswerIs, RanksGiven}
use Rattle.locale_compile.proofs.TableLaws.{unranked-answer}

module _ {src w : List ℕ} {g : Signs} {sh : Sheet} (v : WholeSource src w g sh) where
  pub source_lines : SomeLines w sh.order
  source_lines = record { marks = v.held.known.marks; lines = v.held.known.lines }

  pub source-few : sh.order.count < 4294967295
  source-few = let f = v.held.few in omega (arith, f)

  same-rules : v.last.ordered.rules ≡ v.after.ordered.rules
  same-rules = ap (λ (o : Ordered). o.rules) v.ordered

  many-rules : length v.last.ordered.rules ≡ sh.levels
  many-rules = ap length same-rules ∙ v.held.levels

  few-rules : sh.levels ≤ 8
  few-rules =
      let e : EndsSound (lines_from start 1 0 src).state = lines_from-sound start 1 0 src start-sound (ap (λ (x : Ended). x.refusal) v.run) in
      let h = within-high 1 8 (length (lines_from start 1 0 src).state.ordered.rules) e.ruled in
      let l = ap (λ (x : Ended). length x.state.ordered.rules) v.run in
      let m = many-rules in
      omega (arith, h, l, m)

  -- what the area holds, of the state at the end
  known-last : Known g src w sh.order v.last.ordered.rules v.held.n v.last.declared v.last.ordered.lines
  known-last =
      subst (λ (o : Ordered). Known g src w sh.order o.rules v.held.n v.last.declared o.lines) (sym v.ordered)
      (subst (λ (ds : List Declaration). Known g src w sh.order v.after.ordered.rules v.held.n ds v.after.ordered.lines) (sym v.declared) v.held.known)

  module _ {after : List ℕ} (r : Ranks w sh.order after) where
    pub source-ready : LinesReady g src after sh.order sh.levels
    source-ready = lines-ready known-last few-rules v.held.few r

    pub source-ranks : RanksGiven src after g sh
    source-ranks = record {
      last = v.last;
      run = v.run;
      meant = meant known-last many-rules r;
      ready = source-ready;
      rules = same-rules ∙ v.held.rules v.behind;
      started = v.held.started v.behind;
      within = v.held.ruled;
      few = few-rules;
    }

    module _ {v' : Result (ℕ × ℕ) ℕ} (k : SumsAre g src after sh.order sh.levels v') where
      pub unranked-after : {line : ℕ} (area : List ℕ) → v' ≡ Err line → AnswerIs src area area (Err (Unranked, line))
      unranked-after area i = unranked-answer source-ranks area (subst (SumsAre g src after sh.order sh.levels) i k)

-- the sums are whole
pub whole-sums : {g : Signs} {src w : List ℕ} {o : Order} {levels : ℕ} {v : Result (ℕ × ℕ) ℕ} → SumsAre g src w o levels v → {items weights : ℕ} → v ≡ Ok (items, weights)
    → WholeSums g src w o levels items weights
whole-sums {g} {src} {w} {o} {levels} k i = subst (SumsAre g src w o levels) i k
