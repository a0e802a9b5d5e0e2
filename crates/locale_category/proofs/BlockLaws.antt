-- The loop over the lines of a block: its invariant, its turns, and its ends.
use Rattle.std.specs.Prelude.{Err, Ok, Result, ℕ}
use mathlib.Core.Path.{◌≡◌, refl, sym, ap, ◌∙◌, subst}
use mathlib.Core.Bool.{Bool, true}
use mathlib.Core.List.{List}
use Prim.Native.Nat.{ℕ, ◌+◌, ◌-◌, ◌*◌, ◌^◌, ◌≤◌, ◌<◌}
use native.Mathlib.Omega.{arith}
use lib.ListN.{length, drop}
use borrow.Author.Tests.{ne_eqb, leb-true}
use Rattle.rules.specs.State.{between_categories, before_order, Chain, State, to_phase, Outcome, gives}
use Rattle.rules.specs.Lines.{Scan}
use Rattle.rules.specs.Source.{lines_from, line_outcome}
use Rattle.rules.proofs.RunLaws.{line_at, outcome_at, run_at}
use Rattle.base_units.specs.declared.Refusal.{Refusal}
use Rattle.base_units.specs.Numbers.{number_of}
use Rattle.base_units.proofs.NumberLaws.{number_of-some}
use Rattle.text_lines.specs.declared.Signs.{Signs}
use Rattle.text_lines.specs.Stream.{line_start, marks_left, end_of}
use Rattle.locale_skips.proofs.LineRuns.{collate-signs, some_left, line-there, outcome-there, run-refuses, run-unended, refuses-from}
use Rattle.locale_sheet.specs.declared.Sheet.{Sheet}
use Rattle.locale_sheet.specs.declared.Step.{Step}
use Rattle.locale_sheet.specs.declared.Step.TheVariants as step
use Rattle.locale_sheet.specs.Sheets.{Open, is_used, Every, Moves, NextIs, OpensIs, ClosesIs, BranchIs, RefusedIs, StepIs}
use Rattle.locale_dispatch.specs.Steps.{LineAt}
use Rattle.locale_category.specs.Blocks.{SomeUsed, Starts, Reached, GoesOn, BranchRead, ClosedRead, RefusedRead, ChainBegins, ChainNext, ChainRefused, ChainedIs}
use Rattle.locale_category.proofs.CharsLaws.{chars-kept}

-- ## One line of a run

-- a line that is not refused moves the run
pub run_moved : (g : Signs) (src w : List ℕ) (sh : Sheet) (cs : List Chain) (at n next k : ℕ) (s t : State) → Open g src w sh cs at s → Moves g src at next k
    → line_outcome s n (marks_left g src (line_start at)) ≡ gives 0 t → lines_from s n 0 (drop at src) ≡ lines_from t (n + k) 0 (drop next src)
run_moved g src w sh cs at n next k s t o m e =
    let p = collate-signs g s o.comment o.escape o.inside in
    let h : at < length src = let a = m.on in let b = m.to in omega (arith, a, b) in
    let q : outcome_at s n (drop at src) ≡ gives 0 t = outcome-there g src at n s p ∙ e in
    run_at s n at src (some_left src at h) (ap (λ (x : Outcome). x.refusal) q)
    ∙ ap (λ (x : Outcome). lines_from x.state (n + (line_at s (drop at src)).feeds) 0 (drop (at + (line_at s (drop at src)).size) src)) q
    ∙ ap (λ (x : Scan). lines_from t (n + x.feeds) 0 (drop (at + x.size) src)) (line-there g src at n s p)
    ∙ ap (λ (x : ℕ). lines_from t (n + x) 0 (drop (end_of g src (line_start at)) src)) m.feeds
    ∙ ap (λ (x : ℕ). lines_from t (n + k) 0 (drop x src)) m.end

-- ## An answer by what it holds

pub answered : {A E : Type 0} {t : Result A E} {o x : A} → t ≡ Ok o → o ≡ x → t ≡ Ok x
answered {A} {E} {t} e f = subst (λ (y : A). t ≡ Ok y) f e

-- ## The invariant

-- From the first line of the block the run has come to this place, with this state.
pub record Going (g : Signs) (src w₀ : List ℕ) (sh : Sheet) (at number depth : ℕ) (w : List ℕ) (s : Sheet) (i n : ℕ) : Type 0 where
  pub reached : Reached src at i n
  pub long : length w ≡ length w₀
  pub some : SomeUsed g src w s i depth
  pub runs : Every g src w₀ sh at depth (λ (cs : List Chain) (t : State). GoesOn g src at number t w s cs i n)

pub going_start : (g : Signs) (src w : List ℕ) (sh : Sheet) (at number depth : ℕ) → SomeUsed g src w sh at depth → Starts src at number
    → Going g src w sh at number depth w sh at number
going_start g src w sh at number depth o b = record {
  reached = record { from = omega arith; to = b.inside; few = b.few };
  long = refl;
  some = o;
  runs = λ cs t h d u. record { after = t; run = refl; held = h; chars = refl };
}

module _ {g : Signs} {src w₀ : List ℕ} {sh : Sheet} {at number depth : ℕ} {w : List ℕ} {s : Sheet} {i n : ℕ} (v : Going g src w₀ sh at number depth w s i n) where
  pub going-line : i < length src → LineAt g src w s i n depth
  going-line h = record { some = v.some.some; inside = h; few = v.reached.few }

  pub going-long : length w ≡ length w₀
  going-long = v.long

  -- the state in the area after a line
  some_next : (w' : List ℕ) (x : Sheet) (next : ℕ) → ((cs : List Chain) (t : State) → Open g src w s cs i t → length cs ≡ depth → is_used cs ≡ true → (y : State) × Open g src w' x cs next y)
      → SomeUsed g src w' x next depth
  some_next w' x next f =
      let o = v.some.some in
      let r = f o.chains o.state o.held o.deep v.some.used in
      record { some = record { chains = o.chains; state = r.0; held = r.1; deep = o.deep; room = r.1.known.holds.roomy.room; short = o.short }; used = v.some.used }

  module _ (w' : List ℕ) (t : Result Step Refusal) (q : StepIs g src w s i n depth w' t) where
    pub going_next : {x : Sheet} {next k : ℕ} → t ≡ Ok (step.Next x next k) → length w' ≡ length w → Going g src w₀ sh at number depth w' x next (n + k)
    going_next {x} {next} {k} e long =
        let y : NextIs g src w s i n depth w' x next k = subst (StepIs g src w s i n depth w') e q in
        let m = y.moves in
        let r = v.reached in
        record {
          reached = record { from = let a = r.from in let b = m.on in omega (arith, a, b); to = m.to; few = let a = r.few in let b = m.few in omega (arith, a, b) };
          long = long ∙ v.long;
          some = some_next w' x next (λ cs t o d u. let l = y.leaves cs t o d u in (l.after, l.held));
          runs = λ cs t o d u. let a = v.runs cs t o d u in let l = y.leaves cs a.after a.held d u in
              record {
                after = l.after;
                run = a.run ∙ run_moved g src w s cs i n next k a.after l.after a.held m l.outcome;
                held = l.held;
                chars = chars-kept a.after a.held.inside n (marks_left g src (line_start i)) l.after l.outcome ∙ a.chars;
              };
        }

    pub next_fits : {x : Sheet} {next k : ℕ} → t ≡ Ok (step.Next x next k) → length src * 1 < 2 ^ 63 → n + k < 2 ^ 64
    next_fits {x} {next} {k} e h =
        let y : NextIs g src w s i n depth w' x next k = subst (StepIs g src w s i n depth w') e q in
        let a = v.reached.few in let b = y.moves.few in let c = y.moves.to in omega (arith, a, b, c, h)

    pub closes-fits : {next k : ℕ} → t ≡ Ok (step.Closes next k) → length src * 1 < 2 ^ 63 → n + k < 2 ^ 64
    closes-fits {next} {k} e h =
        let y : ClosesIs g src w s i n depth w' next k = subst (StepIs g src w s i n depth w') e q in
        let a = v.reached.few in let b = y.moves.few in let c = y.moves.to in omega (arith, a, b, c, h)

    pub next-less : {x : Sheet} {next k : ℕ} → t ≡ Ok (step.Next x next k) → length src - next < length src - i
    next-less {x} {next} {k} e =
        let y : NextIs g src w s i n depth w' x next k = subst (StepIs g src w s i n depth w') e q in
        let a = y.moves.on in let b = y.moves.to in omega (arith, a, b)

    pub going-refused : {r : Refusal} → i < length src → t ≡ Err r → RefusedRead g src w₀ sh at number depth (number_of r) n
    going-refused {r} h e =
        let y : RefusedIs g src w s i n depth (number_of r) = subst (StepIs g src w s i n depth w') e q in
        record {
          runs = λ cs t o d u. let a = v.runs cs t o d u in
              refuses-from a.run
              (run-refuses g src i n a.after (collate-signs g a.after a.held.comment a.held.escape a.held.inside) (number_of r) h
              (y.refusal cs a.after a.held d u) (number_of-some r));
        }

    pub going-branch : i < length src → t ≡ (Ok step.Branch) → BranchRead g src w₀ sh at number depth w' s i n
    going-branch h e =
        let y : BranchIs g src w i w' = subst (StepIs g src w s i n depth w') e q in
        record {
          reached = v.reached;
          inside = h;
          own = y.line;
          runs = λ cs t o d u. let a = v.runs cs t o d u in
              record { after = a.after; run = a.run; held = subst (λ (z : List ℕ). Open g src z s cs i a.after) (sym y.same) a.held; chars = a.chars };
        }

    pub going-closes : {next k : ℕ} → t ≡ Ok (step.Closes next k) → ClosedRead g src w₀ sh at number depth w' s next (n + k)
    going-closes {next} {k} e =
        let y : ClosesIs g src w s i n depth w' next k = subst (StepIs g src w s i n depth w') e q in
        let m = y.moves in
        let r = v.reached in
        record {
          reached = record { from = let a = r.from in let b = m.on in omega (arith, a, b); to = m.to; few = let a = r.few in let b = m.few in omega (arith, a, b) };
          outside = y.outside;
          behind = y.behind;
          runs = λ cs t o d u. let a = v.runs cs t o d u in let l = y.leaves cs a.after a.held d u in
              record {
                after = a.after;
                place = i;
                run = a.run ∙ run_moved g src w s cs i n next k a.after (to_phase a.after between_categories) a.held m l.outcome;
                held = subst (λ (z : List ℕ). Open g src z s cs i a.after) (sym y.same) a.held;
                chars = a.chars;
              };
        }

    module _ {holds : Bool} {x : Sheet} {next k : ℕ} (e : t ≡ Ok (step.Opens holds x next k)) where
      opens : OpensIs g src w s i n depth w' holds x next k
      opens = subst (StepIs g src w s i n depth w') e q

      chain-starts : Starts src next (n + k)
      chain-starts = let a = v.reached.few in let b = opens.moves.few in record { inside = opens.moves.to; few = omega (arith, a, b) }

      pub chain-begins : ChainBegins g src w' x next (n + k) depth holds
      chain-begins =
          let o = v.some.some in
          let l = opens.leaves o.chains o.state o.held o.deep v.some.used in
          record { starts = chain-starts; chains = o.chains; state = l.after; held = l.held; deep = o.deep; shallow = opens.shallow; room = l.held.known.holds.roomy.room; short = o.short }

      pub chain-falls : (m : ℕ) → 3 * (length src - at) ≡ m → 3 * (length src - next) + 2 < m
      chain-falls m z = let a = v.reached.from in let b = opens.moves.on in let c = opens.moves.to in omega (arith, a, b, c, z)

      pub opens-fits : length src * 1 < 2 ^ 63 → n + k < 2 ^ 64
      opens-fits h = let a = v.reached.few in let b = opens.moves.few in let c = opens.moves.to in omega (arith, a, b, c, h)

      module _ (w'' : List ℕ) (c : Result (Sheet × ℕ × ℕ) (Refusal × ℕ)) (z : ChainedIs g src w' x next (n + k) depth holds w'' c) where
        pub going-chain : {y : Sheet} {j m : ℕ} → c ≡ Ok (y, j, m) → length w'' ≡ length w' → length w' ≡ length w → Going g src w₀ sh at number depth w'' y j m
        going-chain {y} {j} {m} f long' long =
            let u : ChainNext g src w' x next (n + k) depth holds w'' y j m = subst (ChainedIs g src w' x next (n + k) depth holds w'') f z in
            let r = v.reached in
            let p = u.reached in
            let b = opens.moves.on in
            record {
              reached = record { from = let a = r.from in let d = p.from in omega (arith, a, b, d); to = p.to; few = p.few };
              long = long' ∙ long ∙ v.long;
              some = some_next w'' y j (λ cs t o d i. let l = opens.leaves cs t o d i in let h = u.runs cs l.after l.held d in (h.after, h.held));
              runs = λ cs t o d i'. let a = v.runs cs t o d i' in let l = opens.leaves cs a.after a.held d i' in
                  let h = u.runs cs l.after l.held d in
                  record {
                    after = h.after;
                    run = a.run ∙ run_moved g src w s cs i n next k a.after l.after a.held opens.moves l.outcome ∙ h.run;
                    held = h.held;
                    chars = h.chars ∙ chars-kept a.after a.held.inside n (marks_left g src (line_start i)) l.after l.outcome ∙ a.chars;
                  };
            }

        pub chain-less : {y : Sheet} {j m : ℕ} → c ≡ Ok (y, j, m) → length src - j < length src - i
        chain-less {y} {j} {m} f =
            let u : ChainNext g src w' x next (n + k) depth holds w'' y j m = subst (ChainedIs g src w' x next (n + k) depth holds w'') f z in
            let a = opens.moves.on in let b = u.reached.from in let d = u.reached.to in omega (arith, a, b, d)

        pub going-chain-refused : {r : Refusal} {l : ℕ} → c ≡ Err (r, l) → RefusedRead g src w₀ sh at number depth (number_of r) l
        going-chain-refused {r} {l} f =
            let u : ChainRefused g src w' x next (n + k) depth holds (number_of r) l = subst (ChainedIs g src w' x next (n + k) depth holds w'') f z in
            record {
              runs = λ cs t o d i'. let a = v.runs cs t o d i' in let h = opens.leaves cs a.after a.held d i' in
                  refuses-from (a.run ∙ run_moved g src w s cs i n next k a.after h.after a.held opens.moves h.outcome) (u.runs cs h.after h.held d);
            }

  -- the source ends inside LC_COLLATE
  pub going_end : length src ≤ i → RefusedRead g src w₀ sh at number depth 3 n
  going_end h = record {
    runs = λ cs t o d u. let a = v.runs cs t o d u in
        refuses-from a.run
        (run-unended src i n a.after
        (ne_eqb a.after.place.phase between_categories (λ z. let l = leb-true before_order a.after.place.phase a.held.inside in omega (arith, z, l))) h);
  }
