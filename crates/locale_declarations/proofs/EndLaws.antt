-- order_end and END LC_COLLATE: what they do where they may stand, and their refusal anywhere else.
use Rattle.std.specs.Prelude.{None, Option, Some, Err, Ok}
use mathlib.Core.Path.{◌≡◌, refl, sym, ap, ◌∙◌, subst}
use mathlib.Core.Bool.{Bool, true, false, ◌&&◌, false≢true}
use mathlib.Core.List.{List}
use Prim.Native.Nat.{ℕ, ◌≤◌}
use native.Mathlib.Omega.{arith}
use lib.ListN.{length}
use lib.Dec.{eqb}
use borrow.Author.Tests.{ne_eqb, eqb-true}
use Rattle.base_lists.proofs.Lists.{length-zero}
use Rattle.rules.specs.Text.{bytes, same, is, ◌unless◌, lower}
use Rattle.rules.specs.Tokens.{word, Token, token_at, single, operands, tokens_refusal}
use Rattle.rules.specs.State.{in_order, after_order, between_categories, Chain, State, in_phase, to_phase, Outcome}
use Rattle.rules.specs.Source.{end_line, collate_line}
use Rattle.base_units.specs.declared.Refusal.{Refusal}
use Rattle.base_units.specs.declared.Refusal.TheVariants.{BadByte}
use Rattle.base_units.specs.Numbers.{number_of}
use Rattle.text_lines.specs.declared.Signs.{Signs}
use Rattle.text_lines.specs.declared.Spot.{Spot}
use Rattle.text_lines.specs.declared.LineEnd.{LineEnd}
use Rattle.text_lines.specs.Stream.{marks_left}
use Rattle.text_tokens.specs.Left.{tokens_left, word_in}
use Rattle.text_operands.specs.Operand.{WordAlone, OneIs}
use Rattle.text_operands.proofs.LineLaws.{word-single, word-text, word-unrefused}
use Rattle.locale_opening.proofs.KeywordLaws.{at-order-end, at-end}
use Rattle.locale_sheet.specs.declared.Sheet.{Sheet}
use Rattle.locale_sheet.specs.declared.Step.TheVariants.{Next, Closes}
use Rattle.locale_sheet.specs.Sheets.{Open}
use Rattle.locale_sheet.proofs.SheetLaws.{open-ended}
use Rattle.locale_declarations.specs.Worded.{Opened, StillAt, Still, CollateIs}
use Rattle.locale_declarations.proofs.RefusalLaws.{tokens-three, tokens_none}
use Rattle.locale_declarations.proofs.OpenedLaws.{line-moves, line-accepted, line_refused, line-foul}

-- ## Operands

-- no operand is refused where there is none
pub none-refused : (os : List Token) → eqb (length os) 0 ≡ true → tokens_refusal os ≡ 0
unfolding tokens_refusal
none-refused os h = rw (length-zero os (eqb-true (length os) 0 h))

module _ (g : Signs) (src : List ℕ) (os : List Token) {o : Option Spot} (v : OneIs g src os o) where
  pub collate-none : o ≡ None → CollateIs os false
  collate-none e =
      let n : single word os ≡ false = subst (OneIs g src os) e v in
      record { same = rw n; whole = λ h. absurd (false≢true h) }

  pub collate-to : {q : Spot} → o ≡ Some q → q.at ≤ length src
  collate-to {q} e = let a : WordAlone g src os q = subst (OneIs g src os) e v in a.to

  pub collate-word : {q : Spot} {r : Bool} → o ≡ Some q → r ≡ same (word_in (marks_left g src q)) (bytes "LC_COLLATE") → CollateIs os r
  unfolding is
  collate-word {q} e i =
      let a : WordAlone g src os q = subst (OneIs g src os) e v in
      record { same = i ∙ rw (word-single a, word-text a); whole = λ h. word-unrefused a }

-- ## order_end

module _ {g : Signs} {src : List ℕ} {at : ℕ} {p : Spot} {e : LineEnd} (l : Opened g src at p e "order_end") where
  abbrev left : List Token
  left = operands (tokens_left g src p)

  order-end-fault : (s : State) (number : ℕ)
      → lower (tokens_refusal left) (collate_line s number (bytes "order_end") left).refusal ≡ lower (tokens_refusal left) (3 unless (in_phase in_order s && eqb (length left) 0))
  order-end-fault s number = ap (λ (o : Outcome). lower (tokens_refusal left) o.refusal) (at-order-end s number (bytes "order_end") left refl)

  module _ (sh : Sheet) where
    pub order-end-misplaced : {x : Refusal} → number_of x ≡ lower (2 unless e.text) 3 → (sh.phase ≡ 4 → ⊥) → Still g src sh at (Err x)
    order-end-misplaced b n =
        record {
          is = λ depth. record {
            is = λ w number. line_refused l w sh number depth b (λ cs s o d u.
                order-end-fault s number ∙ tokens-three left (in_phase in_order s && eqb (length left) 0) (rw (o.phase, ne_eqb sh.phase 4 n)));
          };
        }

    module _ (f : sh.phase ≡ 4) {t : Bool} (z : t ≡ eqb (length left) 0) where
      pub order-end-more : {x : Refusal} → number_of x ≡ lower (2 unless e.text) 3 → t ≡ false → Still g src sh at (Err x)
      order-end-more b h =
          record {
            is = λ depth. record {
              is = λ w number. line_refused l w sh number depth b (λ cs s o d u.
                  order-end-fault s number ∙ tokens-three left (in_phase in_order s && eqb (length left) 0) (rw (o.phase, f, ← z, h)));
            };
          }

      module _ (h : t ≡ true) where
        fine : (s : State) (number : ℕ) → s.place.phase ≡ sh.phase
            → lower (tokens_refusal left) (collate_line s number (bytes "order_end") left).refusal ≡ 0
        fine s number i = order-end-fault s number ∙ tokens_none (in_phase in_order s && eqb (length left) 0) (none-refused left (sym z ∙ h)) (rw (i, f, ← z, h))

        pub order-end-foul : e.text ≡ false → Still g src sh at (Err BadByte)
        order-end-foul x =
            record { is = λ depth. record { is = λ w number. line-foul l w sh number depth x } }

        pub order-end-done : e.text ≡ true
            → Still g src sh at (Ok (Next (record { phase = 5; toggles = sh.toggles; rules = sh.rules; levels = sh.levels; order = sh.order; block = sh.block }) e.next e.feeds))
        order-end-done x =
            record {
              is = λ depth. record {
                is = λ w number. record {
                  moves = line-moves l;
                  leaves = λ cs s o d u. record {
                    after = to_phase s after_order;
                    outcome = line-accepted l w sh number o u x (fine s number o.phase)
                        (ap (λ (r : Outcome). r.state) (at-order-end s number (bytes "order_end") left refl));
                    held = let i = (line-moves l).on in open-ended g src w sh cs at s o l.first.inside e.next (omega (arith, i)) f;
                  };
                };
              };
            }

-- ## END

module _ {g : Signs} {src : List ℕ} {at : ℕ} {p : Spot} {e : LineEnd} (l : Opened g src at p e "END") where
  abbrev after-end : List Token
  after-end = operands (tokens_left g src p)

  abbrev may_end : State → Bool
  may_end s = in_phase after_order s && eqb (length s.blocks.chains) 0 && single word after-end && is (token_at after-end 0).text "LC_COLLATE"

  end-fault : (s : State) (number : ℕ)
      → lower (tokens_refusal after-end) (collate_line s number (bytes "END") after-end).refusal ≡ lower (tokens_refusal after-end) (3 unless may_end s)
  unfolding end_line
  end-fault s number = ap (λ (o : Outcome). lower (tokens_refusal after-end) o.refusal) (at-end s number (bytes "END") after-end refl)

  end-state : (s : State) (number : ℕ) → (collate_line s number (bytes "END") after-end).state ≡ to_phase s between_categories
  unfolding end_line
  end-state s number = ap (λ (o : Outcome). o.state) (at-end s number (bytes "END") after-end refl)

  module _ {sh : Sheet} {depth : ℕ} where
    refused-three : {x : Refusal} → number_of x ≡ lower (2 unless e.text) 3
        → ((w : List ℕ) (cs : List Chain) (s : State) → Open g src w sh cs at s → length cs ≡ depth → may_end s ≡ false) → StillAt g src sh at depth (Err x)
    refused-three b h =
        record {
          is = λ w number. line_refused l w sh number depth b (λ cs s o d u.
              end-fault s number ∙ tokens-three after-end (may_end s) (h w cs s o d));
        }

    pub end-misplaced : {x : Refusal} → number_of x ≡ lower (2 unless e.text) 3 → (sh.phase ≡ 5 → ⊥) → StillAt g src sh at depth (Err x)
    end-misplaced b n = refused-three b (λ w cs s o d. rw (o.phase, ne_eqb sh.phase 5 n))

    module _ (f : sh.phase ≡ 5) where
      pub end-inside : {x : Refusal} → number_of x ≡ lower (2 unless e.text) 3 → (depth ≡ 0 → ⊥) → StillAt g src sh at depth (Err x)
      end-inside b n = refused-three b (λ w cs s o d. rw (o.phase, f, o.chains, d, ne_eqb depth 0 n))

      module _ (k : depth ≡ 0) {t : Bool} (c : CollateIs after-end t) where
        asked : (w : List ℕ) (cs : List Chain) (s : State) → Open g src w sh cs at s → length cs ≡ depth → may_end s ≡ t
        asked w cs s o d = rw (o.phase, f, o.chains, d, k) (sym c.same)

        pub end-other : {x : Refusal} → number_of x ≡ lower (2 unless e.text) 3 → t ≡ false → StillAt g src sh at depth (Err x)
        end-other b h = refused-three b (λ w cs s o d. asked w cs s o d ∙ h)

        module _ (h : t ≡ true) where
          ends : (w : List ℕ) (cs : List Chain) (s : State) (number : ℕ) → Open g src w sh cs at s → length cs ≡ depth
              → lower (tokens_refusal after-end) (collate_line s number (bytes "END") after-end).refusal ≡ 0
          ends w cs s number o d = end-fault s number ∙ tokens_none (may_end s) (c.whole h) (asked w cs s o d ∙ h)

          pub end-foul : e.text ≡ false → StillAt g src sh at depth (Err BadByte)
          end-foul x = record { is = λ w number. line-foul l w sh number depth x }

          pub end-done : e.text ≡ true → StillAt g src sh at depth (Ok (Closes e.next e.feeds))
          end-done x = record {
            is = λ w number. record {
              moves = line-moves l;
              outside = k;
              behind = rw f;
              same = refl;
              leaves = λ cs s o d u. record { outcome = line-accepted l w sh number o u x (ends w cs s number o d) (end-state s number) };
            };
          }
