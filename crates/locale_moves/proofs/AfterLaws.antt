-- reorder-after: what it does after the order, and its refusal.
use Rattle.std.specs.Prelude.{Err, Ok, Result, ℕ}
use mathlib.Core.Path.{◌≡◌, refl, sym, ap, ◌∙◌, subst}
use mathlib.Core.Logic.{inr}
use mathlib.Core.Bool.{Bool, true, false, ◌||◌}
use mathlib.Core.List.{List, [], ◌∷◌}
use Prim.Native.Nat.{ℕ, ◌+◌, ◌≤◌, ◌<◌}
use native.Mathlib.Omega.{arith}
use lib.ListN.{length}
use lib.Dec.{eqb, leb}
use Rattle.rules.specs.Text.{bytes, ◌unless◌, lower, lowest}
use Rattle.rules.specs.Tokens.{name, Token, single, operands, tokens_refusal}
use Rattle.rules.specs.State.{after_order, in_block, Chain, OrderLine, State, with_ordered, in_phase, to_phase, Outcome}
use Rattle.rules.specs.OrderLines.{rank_of, reorder_after_line}
use Rattle.rules.specs.Source.{collate_line}
use Rattle.base_units.specs.declared.Refusal.{Refusal}
use Rattle.base_units.specs.declared.Refusal.TheVariants.{BadByte}
use Rattle.base_units.specs.Numbers.{number_of}
use Rattle.text_lines.specs.declared.Signs.{Signs}
use Rattle.text_lines.specs.declared.Spot.{Spot}
use Rattle.text_lines.specs.declared.LineEnd.{LineEnd}
use Rattle.text_tokens.specs.Left.{tokens_left}
use Rattle.rules.proofs.RefusalLaws.{Bounded, bounded-lowest, bounded-unless, bounded-low, bounded-high}
use Rattle.locale_opening.proofs.KeywordLaws.{at-reorder-after}
use Rattle.locale_symbols.proofs.UnfitLaws.{unfit-three}
use Rattle.locale_sheet.specs.declared.Sheet.{Sheet}
use Rattle.locale_sheet.specs.declared.Step.TheVariants.{Next}
use Rattle.locale_sheet.specs.Sheets.{Open, SomeOpen}
use Rattle.locale_sheet.proofs.BlockLaws.{open_block}
use Rattle.locale_declarations.specs.Worded.{Opened, Writes}
use Rattle.locale_declarations.proofs.RefusalLaws.{bounded-operands}
use Rattle.locale_declarations.proofs.OpenedLaws.{line-moves, line-accepted, line_refused, line-foul}
use Rattle.locale_moves.specs.Named.{Holding, subject_named, after_refusal, NamedAt, NamedNot, NamedIs}
use Rattle.locale_moves.proofs.NamedLaws.{line-listed, line-subject}

-- ## The paper's line

module _ (s : State) (os : List Token) where
  -- after the order
  after-paper : (in_phase after_order s || in_phase in_block s) ≡ true → after_refusal s.ordered.lines os ≡ lower (tokens_refusal os) (reorder_after_line s os).refusal
  unfolding after_refusal reorder_after_line
  after-paper p = rw p

  -- anywhere else
  after-elsewhere : (in_phase after_order s || in_phase in_block s) ≡ false → lower (tokens_refusal os) (reorder_after_line s os).refusal ≡ 3
  unfolding reorder_after_line lowest
  after-elsewhere p =
      let b = leb 1 (rank_of s.ordered.lines (subject_named os)) in
      rw p (unfit-three os false (lowest (6 unless b ∷ [])) (bounded-lowest 3 7 (6 unless b ∷ []) (bounded-unless 3 7 6 b refl, tt)) (inr refl))

bounded-after : (ls : List OrderLine) (os : List Token) → Bounded 3 7 (after_refusal ls os)
unfolding after_refusal
bounded-after ls os =
    let formed = single name os in
    let there = leb 1 (rank_of ls (subject_named os)) in
    bounded-operands os (3 unless formed ∷ 6 unless there ∷ []) (bounded-unless 3 7 3 formed refl, (bounded-unless 3 7 6 there refl, tt))

-- ## What is held

pub open-holding : {g : Signs} {src w : List ℕ} {sh : Sheet} {at depth : ℕ} → SomeOpen g src w sh at depth → Holding g src w
open-holding {sh = sh} o = record {
  order = sh.order;
  rules = o.state.ordered.rules;
  n = o.held.n;
  declared = o.state.declared;
  ordered = o.state.ordered.lines;
  known = o.held.known;
}

-- ## The refusal of the operand

module _ (g : Signs) (src w : List ℕ) (os : List Token) (i : Holding g src w) (v : Result ℕ Refusal) (k : NamedIs g src w os v) (r : Refusal) (z : v ≡ Err r) where
  told : NamedNot g src w os (number_of r)
  told = subst (NamedIs g src w os) z k

  bounded : Bounded 3 7 (number_of r)
  bounded = subst (Bounded 3 7) (told.refusal i.order i.rules i.n i.declared i.ordered i.known) (bounded-after i.ordered os)

  pub after-low : 2 ≤ number_of r
  after-low = let h = bounded-low 3 7 (number_of r) bounded told.some in omega (arith, h)

-- ## The step

module _ {g : Signs} {src : List ℕ} {at : ℕ} {p : Spot} {e : LineEnd} (l : Opened g src at p e "reorder-after") where
  abbrev left : List Token
  left = operands (tokens_left g src p)

  after-fault : (s : State) (number : ℕ)
      → lower (tokens_refusal left) (collate_line s number (bytes "reorder-after") left).refusal ≡ lower (tokens_refusal left) (reorder_after_line s left).refusal
  after-fault s number = ap (λ (o : Outcome). lower (tokens_refusal left) o.refusal) (at-reorder-after s number (bytes "reorder-after") left refl)

  after-state : (s : State) (number : ℕ) → (collate_line s number (bytes "reorder-after") left).state
      ≡ with_ordered (to_phase s in_block) (record { rules = s.ordered.rules; lines = s.ordered.lines; block = subject_named left ∷ [] })
  unfolding reorder_after_line
  after-state s number = ap (λ (o : Outcome). o.state) (at-reorder-after s number (bytes "reorder-after") left refl)

  -- the line is longer than a row
  longer : e.next < length src → at + 12 ≤ e.next
  unfolding bytes
  longer h =
      let a : 13 + at ≤ p.at = l.first.long in
      let b = l.first.far in
      let c = l.end in
      let d = b (omega (arith, h, c)) in
      omega (arith, a, d)

  module _ (w : List ℕ) (sh : Sheet) where
    -- where it may stand
    abbrev may : Bool
    may = eqb sh.phase after_order || eqb sh.phase in_block

    pub after-misplaced : {x : Refusal} → number_of x ≡ lower (2 unless e.text) 3 → {t : Bool} → t ≡ may → t ≡ false → Writes g src w sh at w (Err x)
    after-misplaced b m n =
        record {
          is = λ number depth. line_refused l w sh number depth b (λ cs s o d u.
              after-fault s number ∙ after-elsewhere s left (rw o.phase (sym m ∙ n)));
        }

    pub after-foul : e.text ≡ false → Writes g src w sh at w (Err BadByte)
    after-foul x = record { is = λ number depth. line-foul l w sh number depth x }

    module _ {t : Bool} (m : t ≡ may) (f : t ≡ true) where
      opens : may ≡ true
      opens = sym m ∙ f

      paper : {r : ℕ} → ((cs : List Chain) (s : State) → Open g src w sh cs at s → after_refusal s.ordered.lines left ≡ r)
          → {cs : List Chain} {s : State} (number : ℕ) → Open g src w sh cs at s
          → lower (tokens_refusal left) (collate_line s number (bytes "reorder-after") left).refusal ≡ r
      paper h {cs} {s} number o = after-fault s number ∙ sym (after-paper s left (rw o.phase opens)) ∙ h cs s o

      module _ {v : Result ℕ Refusal} (k : NamedIs g src w left v) where
        pub after-refused : {r x : Refusal} → v ≡ Err r → number_of x ≡ lower (2 unless e.text) (number_of r) → Writes g src w sh at w (Err x)
        after-refused {r} z b =
            let c : NamedNot g src w left (number_of r) = subst (NamedIs g src w left) z k in
            record {
              is = λ number depth. line_refused l w sh number depth b (λ cs s o d u.
                  paper (λ cs₁ s₁ o₁. c.refusal sh.order s₁.ordered.rules o₁.n s₁.declared s₁.ordered.lines o₁.known) number o);
            }

        pub after-done : {n : ℕ} → v ≡ Ok n → e.text ≡ true
            → Writes g src w sh at w
            (Ok (Next (record { phase = 6; toggles = sh.toggles; rules = sh.rules; levels = sh.levels; order = sh.order; block = record { named = n; last = n; from = e.next } }) e.next e.feeds))
        after-done {n} z x =
            let c : NamedAt g src w left n = subst (NamedIs g src w left) z k in
            record {
              is = λ number depth. record {
                moves = line-moves l;
                leaves = λ cs s o d u. record {
                  after = with_ordered (to_phase s in_block) (record { rules = s.ordered.rules; lines = s.ordered.lines; block = subject_named left ∷ [] });
                  outcome = line-accepted l w sh number o u x
                      (paper (λ cs₁ s₁ o₁. c.refusal sh.order s₁.ordered.rules o₁.n s₁.declared s₁.ordered.lines o₁.known) number o) (after-state s number);
                  held = open_block g src w sh cs at s o l.first.inside e.next (line-moves l).on n (subject_named left) opens
                      (line-listed c.line sh.order s.ordered.rules o.n s.declared s.ordered.lines o.known)
                      (line-subject c.line sh.order s.ordered.rules o.n s.declared s.ordered.lines o.known) longer;
                };
              };
            }
