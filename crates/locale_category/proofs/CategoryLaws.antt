-- All lines of LC_COLLATE: what is held before the first, and the ends of the block that they are.
use Rattle.std.specs.Prelude.{Err, Ok, Result}
use mathlib.Core.Path.{◌≡◌, refl, sym, ap, ◌∙◌, subst}
use mathlib.Core.Bool.{true, false, false≢true}
use mathlib.Core.List.{List, []}
use Prim.Native.Nat.{ℕ, ◌≤◌}
use native.Mathlib.Omega.{arith}
use lib.ListN.{length}
use lib.Dec.{eqb}
use Rattle.base_lists.proofs.Lists.{length-zero}
use Rattle.rules.specs.Text.{every, one_of, ◌unless◌, lower}
use Rattle.rules.specs.Tokens.{is_text}
use Rattle.rules.specs.State.{before_order, State, Blocks, Ordered, Outcome, start}
use Rattle.base_units.specs.declared.Refusal.{Refusal}
use Rattle.base_units.specs.Numbers.{number_of}
use Rattle.text_lines.specs.declared.Signs.{Signs}
use Rattle.text_lines.specs.declared.LineEnd.{LineEnd}
use Rattle.text_lines.specs.Stream.{marks_left, line_start, LineIs}
use Rattle.work_toggles.specs.Kept.{toggles_in}
use Rattle.locale_sheet.specs.Known.{Known}
use Rattle.locale_sheet.proofs.GrownLaws.{known_start}
use Rattle.locale_skips.proofs.LineRuns.{collate-signs, run-refuses, refuses-from}
use Rattle.locale_sheet.specs.declared.Sheet.{Sheet}
use Rattle.locale_sheet.specs.Sheets.{Open}
use Rattle.locale_sheet.proofs.SheetLaws.{read_whole}
use Rattle.locale_category.specs.declared.Read.{Read}
use Rattle.locale_category.specs.declared.Read.TheVariants as read
use Rattle.locale_category.specs.Blocks.{Starts, SomeUsed, BranchRead, ClosedRead, RefusedRead, ReadIs}
use Rattle.locale_category.specs.Category.{first_sheet, stray_refusal, Begun, Ready, ClosedAt, RefusedAt}
use Rattle.locale_category.proofs.StrayLaws.{stray-line, stray-some}

-- ## Before the first line

-- some state there
begun_with : Signs → State
begun_with g = record {
  chars = record { comment = g.comment; escape = g.escape; comment_set = false; escape_set = false };
  place = record { phase = before_order; category = []; collated = true };
  blocks = start.blocks;
  declared = start.declared;
  ordered = start.ordered;
}

some-begun : (g : Signs) → Begun g (begun_with g)
unfolding begun_with
some-begun g = record { comment = refl; escape = refl; phase = refl; collated = refl; blocks = refl; declared = refl; ordered = refl }

module _ {src w : List ℕ} {at number : ℕ} (v : Ready src w at number) (g : Signs) where
  pub category-place : Starts src at number
  category-place = v.starts

  known-none : Known g src w first_sheet.order [] 0 [] []
  known-none = subst (λ (x : List ℕ). Known g src x first_sheet.order [] 0 [] []) (sym v.none) (known_start g src w [] v.roomy)

  begun-open : (s : State) → Begun g s → Open g src w first_sheet [] at s
  unfolding toggles_in one_of
  begun-open s b =
      let known' : Known g src w first_sheet.order s.ordered.rules 0 s.declared s.ordered.lines = rw (b.declared, b.ordered) known-none in
      record {
        comment = b.comment;
        escape = b.escape;
        phase = b.phase;
        inside = rw b.phase;
        collated = b.collated;
        chains = ap (λ (x : Blocks). x.chains) b.blocks;
        inner = ap (λ (x : Blocks). x.inner) b.blocks;
        toggles = ap (λ (x : Blocks). x.toggles) b.blocks;
        kept = record {
          room = let r = v.roomy.room in omega (arith, r);
          few = omega arith;
          inside = λ i h. absurd (omega (arith, h));
          proper = λ i h. absurd (omega (arith, h));
          decided = λ i h. absurd (omega (arith, h));
        };
        n = 0;
        known = known';
        rows = λ h. omega arith;
        unordered = λ e. refl;
        rules = λ e. absurd (false≢true (sym e));
        started = λ e. absurd (false≢true (sym e));
        ruled = omega arith;
        levels = ap (λ (x : Ordered). length x.rules) b.ordered;
        few = omega arith;
        places = λ i h. absurd (false≢true (subst (λ (x : List ℕ). one_of (eqb i) x ≡ true) (length-zero known'.marks (sym known'.lines.count)) h));
        from = λ e. absurd (false≢true e);
        block = λ e. absurd (false≢true e);
        closed = λ e. ap (λ (x : Ordered). x.block) b.ordered;
      }

  module _ {sh : Sheet} (e : sh ≡ first_sheet) where
    pub category-starts : SomeUsed g src w sh at 0
    category-starts = record {
      some = record { chains = []; state = begun_with g; held = rw e (begun-open (begun_with g) (some-begun g)); deep = refl; room = v.roomy.room; short = v.roomy.few };
      used = refl;
    }

    held : (s : State) → Begun g s → Open g src w sh [] at s
    held s b = rw e (begun-open s b)

    -- ## The ends of the block

    module _ (w' : List ℕ) {r : Result Read (Refusal × ℕ)} (q : ReadIs g src w sh at number 0 w' r) where
      pub category-closed : {x : Sheet} {next n : ℕ} → r ≡ Ok (read.Closed x next n) → ClosedAt g src at number w' x next n
      category-closed {x} {next} {n} f =
          let y : ClosedRead g src w sh at number 0 w' x next n = subst (ReadIs g src w sh at number 0 w') f q in
          record { reached = y.reached; behind = y.behind; runs = λ s b. y.runs [] s (held s b) refl refl }

      pub category-refused : {c : Refusal} {l : ℕ} → r ≡ Err (c, l) → RefusedAt g src at number (number_of c) l
      category-refused {c} {l} f =
          let y : RefusedRead g src w sh at number 0 (number_of c) l = subst (ReadIs g src w sh at number 0 w') f q in
          record { runs = λ s b. y.runs [] s (held s b) refl refl }

      module _ {x : Sheet} {i n : ℕ} (f : r ≡ Ok (read.Branch x i n)) where
        there : BranchRead g src w sh at number 0 w' x i n
        there = subst (ReadIs g src w sh at number 0 w') f q

        pub stray-inside : i ≤ length src
        stray-inside = there.reached.to

        pub category-stray : {c : ℕ} → c ≡ stray_refusal g src i → RefusedAt g src at number c n
        category-stray {c} h =
            let marks = marks_left g src (line_start i) in
            record {
              runs = λ s b.
                  let a = there.runs [] s (held s b) refl refl in
                  let o = a.held in
                  refuses-from a.run
                  (run-refuses g src i n a.after (collate-signs g a.after o.comment o.escape o.inside) c there.inside
                  (ap (λ (z : Outcome). z.refusal) (read_whole g src w' x [] i a.after o refl n marks)
                  ∙ stray-line a.after n o.chains o.inside marks there.own.either
                  ∙ sym h)
                  (λ z. stray-some (every is_text marks) (sym h ∙ z)));
            }

-- the refusal of the line at a place
pub stray-is : {g : Signs} {src : List ℕ} {at : ℕ} {e : LineEnd} {c : ℕ} → LineIs g src (line_start at) e → c ≡ lower (2 unless e.text) 3 → c ≡ stray_refusal g src at
stray-is l h = rw l.text h
