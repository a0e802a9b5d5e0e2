-- order_start: what it does before the order, and its refusal.
use Rattle.std.specs.Prelude.{Err, Ok, Result, ℕ}
use mathlib.Core.Path.{◌≡◌, refl, sym, ap, ◌∙◌, subst}
use mathlib.Core.Bool.{true, false}
use mathlib.Core.List.{List, [], map}
use Prim.Native.Nat.{ℕ, ◌+◌, ◌≤◌, ◌<◌}
use native.Mathlib.Omega.{arith}
use lib.ListN.{length, length-map}
use borrow.Author.Tests.{ne_eqb}
use Rattle.rules.specs.Text.{bytes, ◌unless◌, lower}
use Rattle.rules.specs.Tokens.{Token, operands, tokens_refusal}
use Rattle.rules.specs.State.{in_order, State, with_ordered, to_phase, Outcome}
use Rattle.rules.specs.OrderLines.{rule_of, rule_codes, order_start_line}
use Rattle.rules.specs.Source.{collate_line}
use Rattle.rules.proofs.RefusalLaws.{Bounded, bounded-low, bounded-high}
use Rattle.base_units.specs.declared.Refusal.{Refusal}
use Rattle.base_units.specs.declared.Refusal.TheVariants.{BadByte}
use Rattle.base_units.specs.Numbers.{number_of}
use Rattle.text_lines.specs.declared.Signs.{Signs}
use Rattle.text_lines.specs.declared.Spot.{Spot}
use Rattle.text_lines.specs.declared.LineEnd.{LineEnd}
use Rattle.text_tokens.specs.Left.{tokens_left}
use Rattle.locale_opening.proofs.KeywordLaws.{at-order-start}
use Rattle.locale_levels.specs.Levels.{start_refusal, LevelsAre, LevelsRefused, LevelsIs}
use Rattle.locale_levels.proofs.LevelLaws.{start-line, start-elsewhere, start-state}
use Rattle.locale_sheet.specs.Known.{behind}
use Rattle.locale_sheet.specs.declared.Sheet.{Sheet}
use Rattle.locale_sheet.specs.declared.Step.TheVariants.{Next}
use Rattle.locale_sheet.specs.Sheets.{rules_at}
use Rattle.locale_sheet.proofs.SheetLaws.{spot-behind}
use Rattle.locale_sheet.proofs.OrderLaws.{open-ordered}
use Rattle.locale_declarations.specs.Worded.{Opened, Still}
use Rattle.locale_declarations.proofs.RefusalLaws.{bounded-start}
use Rattle.locale_declarations.proofs.OpenedLaws.{line-moves, line-accepted, line_refused, line-foul}

-- the refusal of its operands
module _ (os : List Token) (v : Result ℕ Refusal) (k : LevelsIs os v) (m : Refusal) (i : v ≡ Err m) where
  told : LevelsRefused os (number_of m)
  told = subst (LevelsIs os) i k

  bounded : Bounded 3 7 (number_of m)
  bounded = subst (Bounded 3 7) told.refusal (bounded-start os)

  some : number_of m ≡ 0 → ⊥
  some z = let h = told.some in omega (arith, h, z)

  pub start-low : 2 ≤ number_of m
  start-low = let h = bounded-low 3 7 (number_of m) bounded some in omega (arith, h)

module _ {g : Signs} {src : List ℕ} {at : ℕ} {p : Spot} {e : LineEnd} (l : Opened g src at p e "order_start") where
  abbrev left : List Token
  left = operands (tokens_left g src p)

  start-fault : (s : State) (number : ℕ)
      → lower (tokens_refusal left) (collate_line s number (bytes "order_start") left).refusal ≡ lower (tokens_refusal left) (order_start_line s left).refusal
  start-fault s number = ap (λ (o : Outcome). lower (tokens_refusal left) o.refusal) (at-order-start s number (bytes "order_start") left refl)

  -- the rules are read again from the spot after the word
  rules-there : map rule_of (rule_codes left) ≡ rules_at g src p.at
  unfolding rules_at
  rules-there = ap (λ (q : Spot). map rule_of (rule_codes (operands (tokens_left g src q)))) (spot-behind p l.first.plain l.first.edge)

  -- and accepted again
  started-there : start_refusal left ≡ 0 → start_refusal (operands (tokens_left g src (behind p.at))) ≡ 0
  started-there a = subst (λ (q : Spot). start_refusal (operands (tokens_left g src q)) ≡ 0) (spot-behind p l.first.plain l.first.edge) a

  -- the line is longer than a row
  longer : e.next < length src → at + 12 ≤ e.next
  unfolding bytes
  longer h =
      let a : 11 + at ≤ p.at = l.first.long in
      let b = l.first.far in
      let c = l.end in
      let d = b (omega (arith, h, c)) in
      omega (arith, a, d)

  module _ (sh : Sheet) where
    pub start-misplaced : {x : Refusal} → number_of x ≡ lower (2 unless e.text) 3 → (sh.phase ≡ 3 → ⊥) → Still g src sh at (Err x)
    start-misplaced b n =
        record {
          is = λ depth. record {
            is = λ w number. line_refused l w sh number depth b (λ cs s o d u.
                start-fault s number ∙ start-elsewhere s left (rw (o.phase, ne_eqb sh.phase 3 n)));
          };
        }

    module _ (f : sh.phase ≡ 3) {v : Result ℕ Refusal} (k : LevelsIs left v) where
      pub start-refused : {m x : Refusal} → v ≡ Err m → number_of x ≡ lower (2 unless e.text) (number_of m) → Still g src sh at (Err x)
      start-refused {m} i b =
          let r : LevelsRefused left (number_of m) = subst (LevelsIs left) i k in
          record {
            is = λ depth. record {
              is = λ w number. line_refused l w sh number depth b (λ cs s o d u.
                  start-fault s number ∙ start-line s left (rw (o.phase, f)) ∙ r.refusal);
            };
          }

      module _ {n : ℕ} (i : v ≡ Ok n) where
        are : LevelsAre left n
        are = subst (LevelsIs left) i k

        fine : (s : State) (number : ℕ) → s.place.phase ≡ sh.phase
            → lower (tokens_refusal left) (collate_line s number (bytes "order_start") left).refusal ≡ 0
        fine s number z = start-fault s number ∙ start-line s left (rw (z, f)) ∙ are.accepted

        pub start-foul : e.text ≡ false → Still g src sh at (Err BadByte)
        start-foul x =
            record { is = λ depth. record { is = λ w number. line-foul l w sh number depth x } }

        pub start-done : e.text ≡ true
            → Still g src sh at (Ok (Next (record { phase = 4; toggles = sh.toggles; rules = p.at; levels = n; order = sh.order; block = sh.block }) e.next e.feeds))
        start-done x =
            record {
              is = λ depth. record {
                is = λ w number. record {
                  moves = line-moves l;
                  leaves = λ cs s o d u. record {
                    after = with_ordered (to_phase s in_order) (record { rules = map rule_of (rule_codes left); lines = []; block = [] });
                    outcome = line-accepted l w sh number o u x (fine s number o.phase)
                        (ap (λ (r : Outcome). r.state) (at-order-start s number (bytes "order_start") left refl) ∙ start-state s left);
                    held = open-ordered g src w sh cs at s o l.first.inside e.next p.at n (map rule_of (rule_codes left)) f rules-there (started-there are.accepted) l.first.to
                        (length-map (rule_codes left) rule_of ∙ sym are.many) longer;
                  };
                };
              };
            }
