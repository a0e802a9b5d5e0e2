-- reorder-end: what it does in a block, and its refusal anywhere else.
use Rattle.std.specs.Prelude.{Err, Ok}
use mathlib.Core.Path.{◌≡◌, refl, sym, ap, ◌∙◌}
use mathlib.Core.Bool.{Bool, true, false, ◌&&◌}
use mathlib.Core.List.{List, []}
use Prim.Native.Nat.{ℕ}
use lib.ListN.{length}
use lib.Dec.{eqb}
use borrow.Author.Tests.{ne_eqb}
use Rattle.rules.specs.Text.{bytes, ◌unless◌, lower}
use Rattle.rules.specs.Tokens.{Token, operands, tokens_refusal}
use Rattle.rules.specs.State.{after_order, in_block, State, with_ordered, in_phase, to_phase, Outcome}
use Rattle.rules.specs.OrderLines.{reorder_end_line}
use Rattle.rules.specs.Source.{collate_line}
use Rattle.base_units.specs.declared.Refusal.{Refusal}
use Rattle.base_units.specs.declared.Refusal.TheVariants.{BadByte}
use Rattle.base_units.specs.Numbers.{number_of}
use Rattle.text_lines.specs.declared.Signs.{Signs}
use Rattle.text_lines.specs.declared.Spot.{Spot}
use Rattle.text_lines.specs.declared.LineEnd.{LineEnd}
use Rattle.text_tokens.specs.Left.{tokens_left}
use Rattle.locale_opening.proofs.KeywordLaws.{at-reorder-end}
use Rattle.locale_sheet.specs.declared.Sheet.{Sheet}
use Rattle.locale_sheet.specs.declared.Step.TheVariants.{Next}
use Rattle.locale_sheet.proofs.BlockLaws.{open-unblocked}
use Rattle.locale_declarations.specs.Worded.{Opened, Still}
use Rattle.locale_declarations.proofs.RefusalLaws.{tokens-three, tokens_none}
use Rattle.locale_declarations.proofs.EndLaws.{none-refused}
use Rattle.locale_declarations.proofs.OpenedLaws.{line-moves, line-accepted, line_refused, line-foul}

module _ {g : Signs} {src : List ℕ} {at : ℕ} {p : Spot} {e : LineEnd} (l : Opened g src at p e "reorder-end") where
  abbrev left : List Token
  left = operands (tokens_left g src p)

  end-fault : (s : State) (number : ℕ)
      → lower (tokens_refusal left) (collate_line s number (bytes "reorder-end") left).refusal ≡ lower (tokens_refusal left) (3 unless (in_phase in_block s && eqb (length left) 0))
  unfolding reorder_end_line
  end-fault s number = ap (λ (o : Outcome). lower (tokens_refusal left) o.refusal) (at-reorder-end s number (bytes "reorder-end") left refl)

  end-state : (s : State) (number : ℕ) → (collate_line s number (bytes "reorder-end") left).state
      ≡ with_ordered (to_phase s after_order) (record { rules = s.ordered.rules; lines = s.ordered.lines; block = [] })
  unfolding reorder_end_line
  end-state s number = ap (λ (o : Outcome). o.state) (at-reorder-end s number (bytes "reorder-end") left refl)

  module _ (sh : Sheet) where
    pub end-misplaced : {x : Refusal} → number_of x ≡ lower (2 unless e.text) 3 → (sh.phase ≡ 6 → ⊥) → Still g src sh at (Err x)
    end-misplaced b n =
        record {
          is = λ depth. record {
            is = λ w number. line_refused l w sh number depth b (λ cs s o d u.
                end-fault s number ∙ tokens-three left (in_phase in_block s && eqb (length left) 0) (rw (o.phase, ne_eqb sh.phase 6 n)));
          };
        }

    module _ (f : sh.phase ≡ 6) {t : Bool} (z : t ≡ eqb (length left) 0) where
      pub end_more : {x : Refusal} → number_of x ≡ lower (2 unless e.text) 3 → t ≡ false → Still g src sh at (Err x)
      end_more b h =
          record {
            is = λ depth. record {
              is = λ w number. line_refused l w sh number depth b (λ cs s o d u.
                  end-fault s number ∙ tokens-three left (in_phase in_block s && eqb (length left) 0) (rw (o.phase, f, ← z, h)));
            };
          }

      module _ (h : t ≡ true) where
        fine : (s : State) (number : ℕ) → s.place.phase ≡ sh.phase
            → lower (tokens_refusal left) (collate_line s number (bytes "reorder-end") left).refusal ≡ 0
        fine s number i = end-fault s number ∙ tokens_none (in_phase in_block s && eqb (length left) 0) (none-refused left (sym z ∙ h)) (rw (i, f, ← z, h))

        pub end-foul : e.text ≡ false → Still g src sh at (Err BadByte)
        end-foul x =
            record { is = λ depth. record { is = λ w number. line-foul l w sh number depth x } }

        pub end-done : e.text ≡ true
            → Still g src sh at (Ok (Next (record { phase = 5; toggles = sh.toggles; rules = sh.rules; levels = sh.levels; order = sh.order; block = sh.block }) e.next e.feeds))
        end-done x =
            record {
              is = λ depth. record {
                is = λ w number. record {
                  moves = line-moves l;
                  leaves = λ cs s o d u. record {
                    after = with_ordered (to_phase s after_order) (record { rules = s.ordered.rules; lines = s.ordered.lines; block = [] });
                    outcome = line-accepted l w sh number o u x (fine s number o.phase) (end-state s number);
                    held = open-unblocked g src w sh cs at s o l.first.inside e.next (line-moves l).on f;
                  };
                };
              };
            }
