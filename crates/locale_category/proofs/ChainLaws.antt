-- The loop over the branches of a chain: its invariant, its turns, and its ends.
use Rattle.std.specs.Prelude.{Err, Ok, Result, ℕ}
use mathlib.Core.Path.{◌≡◌, refl, ap, ◌∙◌, subst}
use mathlib.Core.Bool.{Bool, false}
use mathlib.Core.List.{List, ◌∷◌}
use Prim.Native.Nat.{ℕ, ◌+◌, ◌-◌, ◌*◌, ◌^◌, ◌≤◌, ◌<◌}
use native.Mathlib.Omega.{arith}
use lib.ListN.{length}
use Rattle.rules.specs.State.{Chain, State, Outcome}
use Rattle.rules.specs.Conditionals.{chain}
use Rattle.base_units.specs.declared.Refusal.{Refusal}
use Rattle.base_units.specs.Numbers.{number_of}
use Rattle.base_units.proofs.NumberLaws.{number_of-some}
use Rattle.text_lines.specs.declared.Signs.{Signs}
use Rattle.text_lines.specs.Stream.{line_start, marks_left}
use Rattle.locale_skips.proofs.LineRuns.{collate-signs, run-refuses, refuses-from}
use Rattle.locale_sheet.specs.declared.Sheet.{Sheet}
use Rattle.locale_sheet.specs.Sheets.{Open}
use Rattle.locale_conditionals.specs.declared.Turn.{Turn}
use Rattle.locale_conditionals.specs.declared.Turn.TheVariants as turn
use Rattle.locale_conditionals.specs.Turns.{MayTurn, GoesIs, EndsIs, TurnRefused, TurnIs}
use Rattle.locale_category.specs.Blocks.{Reached, GoesOn, EveryIn, InBranch, EndedAt, EndRefused, EndedIs, ChainBegins, ChainNext, ChainRefused}
use Rattle.locale_category.proofs.BlockLaws.{run_moved}
use Rattle.locale_category.proofs.CharsLaws.{chars-kept}

-- From the first line of the chain the run has come to the first line of a branch.
pub record Chaining (g : Signs) (src w₀ : List ℕ) (sh : Sheet) (at number depth : ℕ) (holds : Bool) (w : List ℕ) (s : Sheet) (i n : ℕ) (taken used closed : Bool) : Type 0 where
  pub reached : Reached src at i n
  pub long : length w ≡ length w₀
  pub chains : List Chain
  pub state : State
  pub held : Open g src w s (chain taken used closed ∷ chains) i state
  pub deep : length chains ≡ depth
  pub shallow : depth < 8
  pub short : length src ≤ 1048576
  pub runs : EveryIn g src w₀ sh at depth holds holds false (λ (cs : List Chain) (t : State). GoesOn g src at number t w s (chain taken used closed ∷ cs) i n)

pub chaining-start : (g : Signs) (src w : List ℕ) (sh : Sheet) (at number depth : ℕ) (holds : Bool) → ChainBegins g src w sh at number depth holds
    → Chaining g src w sh at number depth holds w sh at number holds holds false
chaining-start g src w sh at number depth holds b = record {
  reached = record { from = omega arith; to = b.starts.inside; few = b.starts.few };
  long = refl;
  chains = b.chains;
  state = b.state;
  held = b.held;
  deep = b.deep;
  shallow = b.shallow;
  short = b.short;
  runs = λ cs t o d. record { after = t; run = refl; held = o; chars = refl };
}

module _ {g : Signs} {src w₀ : List ℕ} {sh : Sheet} {at number depth : ℕ} {holds : Bool} {w : List ℕ} {s : Sheet} {i n : ℕ} {taken used closed : Bool}
    (v : Chaining g src w₀ sh at number depth holds w s i n taken used closed) where
  pub in-branch : InBranch g src w s i n depth used
  in-branch = record {
    starts = record { inside = v.reached.to; few = v.reached.few };
    taken = taken;
    closed = closed;
    chains = v.chains;
    state = v.state;
    held = v.held;
    deep = v.deep;
    shallow = v.shallow;
    room = v.held.known.holds.roomy.room;
    short = v.short;
  }

  pub branch-falls : (m : ℕ) → 3 * (length src - at) + 2 ≡ m → 3 * (length src - i) + 1 < m
  branch-falls m z = let a = v.reached.from in let b = v.reached.to in omega (arith, a, b, z)

  pub chaining-long : length w ≡ length w₀
  chaining-long = v.long

  module _ (w' : List ℕ) (e : Result (Sheet × ℕ × ℕ) (Refusal × ℕ)) (q : EndedIs g src w s i n depth used w' e) where
    pub chain-refused : {r : Refusal} {l : ℕ} → e ≡ Err (r, l) → ChainRefused g src w₀ sh at number depth holds (number_of r) l
    chain-refused {r} {l} f =
        let y : EndRefused g src w s i n depth used (number_of r) l = subst (EndedIs g src w s i n depth used w') f q in
        record { runs = λ cs t o d. let a = v.runs cs t o d in refuses-from a.run (y.runs taken closed cs a.after a.held d) }

    module _ {x : Sheet} {j m : ℕ} (f : e ≡ Ok (x, j, m)) where
      there : EndedAt g src w s i n depth used w' x j m
      there = subst (EndedIs g src w s i n depth used w') f q

      pub line-may : MayTurn g src w' x j
      line-may =
          let a = there.runs taken closed v.chains v.state v.held v.deep in
          record {
            depth = depth + 1;
            some = record { chains = chain taken used closed ∷ v.chains; state = a.after; held = a.held; deep = let d = v.deep in omega (arith, d); room = a.held.known.holds.roomy.room; short = v.short };
            inside = there.inside;
            line = there.own;
          }

      -- the run up to the line, and the state there
      to-line : EveryIn g src w₀ sh at depth holds holds false (λ (cs : List Chain) (t : State). GoesOn g src at number t w' x (chain taken used closed ∷ cs) j m)
      to-line cs t o d =
          let a = v.runs cs t o d in
          let b = there.runs taken closed cs a.after a.held d in
          record { after = b.after; run = a.run ∙ b.run; held = b.held; chars = b.chars ∙ a.chars }

      module _ (w'' : List ℕ) (t : Result Turn Refusal) (z : TurnIs g src w' x j m taken closed w'' t) where
        pub turn-refused : {r : Refusal} → t ≡ Err r → ChainRefused g src w₀ sh at number depth holds (number_of r) m
        turn-refused {r} h =
            let y : TurnRefused g src w' x j m taken closed (number_of r) = subst (TurnIs g src w' x j m taken closed w'') h z in
            record {
              runs = λ cs t o d. let a = to-line cs t o d in
                  refuses-from a.run
                  (run-refuses g src j m a.after (collate-signs g a.after a.held.comment a.held.escape a.held.inside) (number_of r) there.inside
                  (ap (λ (o : Outcome). o.refusal) (there.whole taken closed cs a.after a.held d m) ∙ y.refusal used cs a.after a.held)
                  (number_of-some r));
            }

        pub turn-ends : {y : Sheet} {next k : ℕ} → t ≡ Ok (turn.Ends y next k) → ChainNext g src w₀ sh at number depth holds w'' y next (m + k)
        turn-ends {y} {next} {k} h =
            let u : EndsIs g src w' x j m taken closed w'' y next k = subst (TurnIs g src w' x j m taken closed w'') h z in
            let r = v.reached in
            let p = there.reached in
            let c = u.moves in
            record {
              reached = record { from = let a = r.from in let b = p.from in let d = c.on in omega (arith, a, b, d); to = c.to; few = let a = p.few in let b = c.few in omega (arith, a, b) };
              runs = λ cs t o d. let a = to-line cs t o d in let l = u.turns used cs a.after a.held in
                  record {
                    after = l.after;
                    run = a.run ∙ run_moved g src w' x (chain taken used closed ∷ cs) j m next k a.after l.after a.held c
                        (there.whole taken closed cs a.after a.held d m ∙ l.outcome);
                    held = l.held;
                    chars = chars-kept a.after a.held.inside m (marks_left g src (line_start j)) l.after
                        (there.whole taken closed cs a.after a.held d m ∙ l.outcome) ∙ a.chars;
                  };
            }

        pub ends-fits : {y : Sheet} {next k : ℕ} → t ≡ Ok (turn.Ends y next k) → m + k < 2 ^ 64
        ends-fits {y} {next} {k} e =
            let u : EndsIs g src w' x j m taken closed w'' y next k = subst (TurnIs g src w' x j m taken closed w'') e z in
            let a = there.reached.few in let b = u.moves.few in let c = u.moves.to in let h = v.short in omega (arith, a, b, c, h)

        module _ {a' b' c' : Bool} {y : Sheet} {next k : ℕ} (h : t ≡ Ok (turn.Goes a' b' c' y next k)) where
          goes : GoesIs g src w' x j m taken closed w'' a' b' c' y next k
          goes = subst (TurnIs g src w' x j m taken closed w'') h z

          pub turn-goes : length w'' ≡ length w' → length w' ≡ length w → Chaining g src w₀ sh at number depth holds w'' y next (m + k) a' b' c'
          turn-goes long' long =
              let r = v.reached in
              let p = there.reached in
              let c = goes.moves in
              let q = there.runs taken closed v.chains v.state v.held v.deep in
              let l = goes.turns used v.chains q.after q.held in
              record {
                reached = record { from = let a = r.from in let b = p.from in let d = c.on in omega (arith, a, b, d); to = c.to; few = let a = p.few in let b = c.few in omega (arith, a, b) };
                long = long' ∙ long ∙ v.long;
                chains = v.chains;
                state = l.after;
                held = l.held;
                deep = v.deep;
                shallow = v.shallow;
                short = v.short;
                runs = λ cs t o d. let a = to-line cs t o d in let l = goes.turns used cs a.after a.held in
                    record {
                      after = l.after;
                      run = a.run ∙ run_moved g src w' x (chain taken used closed ∷ cs) j m next k a.after l.after a.held c
                          (there.whole taken closed cs a.after a.held d m ∙ l.outcome);
                      held = l.held;
                      chars = chars-kept a.after a.held.inside m (marks_left g src (line_start j)) l.after
                          (there.whole taken closed cs a.after a.held d m ∙ l.outcome) ∙ a.chars;
                    };
              }

          pub goes-fits : m + k < 2 ^ 64
          goes-fits = let a = there.reached.few in let b = goes.moves.few in let c = goes.moves.to in let h = v.short in omega (arith, a, b, c, h)

          pub turn-less : length src - next < length src - i
          turn-less = let a = there.reached.from in let b = goes.moves.on in let c = goes.moves.to in omega (arith, a, b, c)
