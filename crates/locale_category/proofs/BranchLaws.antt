-- The end of a branch of a chain: of one that is read, and of one that is passed over.
use Rattle.std.specs.Prelude.{Err, Ok, Result, ℕ}
use mathlib.Core.Path.{◌≡◌, refl, ◌∙◌, subst}
use mathlib.Core.Bool.{Bool, true, false}
use mathlib.Core.List.{List, ◌∷◌}
use Prim.Native.Nat.{ℕ, ◌+◌, ◌<◌}
use native.Mathlib.Omega.{arith}
use lib.ListN.{length}
use Rattle.rules.specs.State.{Chain, State}
use Rattle.rules.specs.Conditionals.{chain}
use Rattle.base_units.specs.declared.Refusal.{Refusal}
use Rattle.base_units.specs.Numbers.{number_of}
use Rattle.text_lines.specs.declared.Signs.{Signs}
use Rattle.text_lines.specs.Stream.{line_start, marks_left}
use Rattle.locale_skips.specs.Passing.{Begins, Unused, BranchStops, BranchRefused, BranchIs}
use Rattle.locale_skips.proofs.BranchLaws.{unused-chain}
use Rattle.locale_sheet.specs.declared.Sheet.{Sheet}
use Rattle.locale_sheet.specs.Sheets.{Open, SomeOpen}
use Rattle.locale_conditionals.proofs.PassedLaws.{passed-turn}
use Rattle.locale_sheet.proofs.SheetLaws.{read_whole, open-on}
use Rattle.locale_category.specs.declared.Read.{Read}
use Rattle.locale_category.specs.declared.Read.TheVariants as read
use Rattle.locale_category.specs.Blocks.{Starts, SomeUsed, InBranch, BranchRead, ClosedRead, RefusedRead, ReadIs, EndedAt, EndRefused}

module _ {g : Signs} {src w : List ℕ} {sh : Sheet} {at number depth : ℕ} {used : Bool} (v : InBranch g src w sh at number depth used) where
  -- ## A used branch

  pub branch-start : Starts src at number
  branch-start = v.starts

  pub branch-begins : Begins src at number
  branch-begins = record { inside = v.starts.inside; few = v.starts.few }

  abbrev used-open : SomeOpen g src w sh at (depth + 1)
  used-open = record {
    chains = chain v.taken used v.closed ∷ v.chains;
    state = v.state;
    held = v.held;
    deep = let d = v.deep in omega (arith, d);
    room = v.room;
    short = v.short;
  }

  pub used-some : used ≡ true → SomeUsed g src w sh at (depth + 1)
  used-some u = record { used = u; some = used-open }

  module _ (w' : List ℕ) (r : Result Read (Refusal × ℕ)) (q : ReadIs g src w sh at number (depth + 1) w' r) (u : used ≡ true) where
    pub used-refused : {c : Refusal} {l : ℕ} → r ≡ Err (c, l) → EndRefused g src w sh at number depth used (number_of c) l
    used-refused {c} {l} e =
        let y : RefusedRead g src w sh at number (depth + 1) (number_of c) l = subst (ReadIs g src w sh at number (depth + 1) w') e q in
        record { runs = λ t k cs s o d. y.runs (chain t used k ∷ cs) s o (let z = d in omega (arith, z)) u }

    pub used-closed : {x : Sheet} {j m c l : ℕ} → r ≡ Ok (read.Closed x j m) → EndRefused g src w sh at number depth used c l
    used-closed {x} {j} {m} e =
        let y : ClosedRead g src w sh at number (depth + 1) w' x j m = subst (ReadIs g src w sh at number (depth + 1) w') e q in
        absurd (let z = y.outside in omega (arith, z))

    pub used-branch : {x : Sheet} {j m : ℕ} → r ≡ Ok (read.Branch x j m) → EndedAt g src w sh at number depth used w' x j m
    used-branch {x} {j} {m} e =
        let y : BranchRead g src w sh at number (depth + 1) w' x j m = subst (ReadIs g src w sh at number (depth + 1) w') e q in
        record {
          reached = y.reached;
          inside = y.inside;
          own = y.own;
          runs = λ t k cs s o d. y.runs (chain t used k ∷ cs) s o (let z = d in omega (arith, z)) u;
          whole = λ t k cs s o d n. read_whole g src w' x (chain t used k ∷ cs) j s o u n (marks_left g src (line_start j));
        }

  -- ## A branch that is not used

  unused : (i : ℕ) (t k : Bool) (cs : List Chain) (s : State) → used ≡ false → Open g src w sh (chain t used k ∷ cs) i s → length cs ≡ depth → Unused g (depth + 1) s
  unused i t k cs s n o d =
      unused-chain g (depth + 1) s t k cs o.comment o.escape o.inside o.inner (o.chains ∙ rw n) (omega (arith, d))

  module _ (p : Result (ℕ × ℕ) (Refusal × ℕ)) (q : BranchIs g src at number (depth + 1) p) (u : used ≡ false) where
    pub passed-refused : {c : Refusal} {l : ℕ} → p ≡ Err (c, l) → EndRefused g src w sh at number depth used (number_of c) l
    passed-refused {c} {l} e =
        let y : BranchRefused g src at number (depth + 1) (number_of c) l = subst (BranchIs g src at number (depth + 1)) e q in
        record { runs = λ t k cs s o d. y.run s (unused at t k cs s u o d) }

    pub passed-stop : {j m : ℕ} → p ≡ Ok (j, m) → EndedAt g src w sh at number depth used w sh j m
    passed-stop {j} {m} e =
        let y : BranchStops g src at number (depth + 1) j m = subst (BranchIs g src at number (depth + 1)) e q in
        let f = y.from in
        let i = y.inside in
        let h : at < length src = omega (arith, f, i) in
        record {
          reached = record { from = y.from; to = omega (arith, i); few = y.few };
          inside = y.inside;
          own = passed-turn y.word;
          runs = λ t k cs s o d. record { after = s; run = y.run s (unused at t k cs s u o d); held = open-on g src w sh (chain t used k ∷ cs) at s o h j f; chars = refl };
          whole = λ t k cs s o d n. y.own s (unused j t k cs s u o d) n;
        }
