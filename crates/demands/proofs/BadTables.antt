-- Demand 1: "A table with no level or a weight of zero is refused": by every operation on tables, with 11, and nothing is written.
use Rattle.base_units.specs.declared.Refusal.{Refusal}
use Rattle.std.specs.Prelude.{Err, Result, ℕ}
use mathlib.Core.Path.{◌≡◌, refl, sym, ap, ◌∙◌}
use mathlib.Core.Bool.{true, false}
use mathlib.Core.List.{List, [], ◌∷◌, ◌++◌, map, flatten}
use Prim.Native.Nat.{ℕ, ◌*◌, ◌≤◌}
use native.Mathlib.Omega.{arith}
use lib.ListN.{length, take}
use lib.Dec.{eqb}
use lib.Seq.{take-append_seam, drop_at}
use borrow.Author.Tests.{ne_eqb}
use Rattle.base_lists.proofs.Bools.{by, clash, or-false-intro}
use Rattle.rules.specs.Text.{within, every, one_of}
use Rattle.rules.specs.Meaning.{Item, Meaning, good_weights, good_item, weight_count, good}
use Rattle.rules.specs.Table.{rule_number, ends, char_numbers, listing, starts, weight_numbers, stored_form, meaning_in, accepted}
use Rattle.rules.specs.Directory.{directory_of}
use Rattle.rules.specs.Calls.{check_call, step_call, compare_call, key_for, key_call, written_as, directed_as, directory_call}
use Rattle.rules.proofs.TextLaws.{every-head, every-tail, every-both, within_low}
use Rattle.rules.proofs.MeaningLaws.{item-parts, good-parts, good_items-weights}
use Rattle.rules.proofs.SizeLaws.{weights-length, ends-length}
use Rattle.rules.proofs.WidthLaws.{good-range}
use Rattle.rules.proofs.StorableLaws.{rules-drop, meaning-stored, weights-append}
use Rattle.rules.proofs.TableLaws.{parts-drop, accepted-stored}
use Rattle.base_units.specs.declared.Refusal.TheVariants.{NotAccepted}
use Rattle.table_check.proofs.AnswerLaws.{checked_as-unique}
use Rattle.order_compare.proofs.AnswerLaws.{stepped_as-unique, compared_as-unique}
use Rattle.order_keys.proofs.AnswerLaws.{keyed_as-unique}
use Rattle.order_directory.proofs.AnswerLaws.{directed_is-unique}
use Rattle.demands.specs.Answered.{Checks, Steps, Compares, Keys, Directs, levels_stated, weights_stated}
use Rattle.order_compare.specs.declared.Answer.{Answer}
use Rattle.table_check.specs.declared.Shape.{Shape}

-- ## What is not accepted

-- Every operation on tables refuses the table by 11, and a lent room or list is as it was.
pub record RefusedByAll (t : List ℕ) : Type 0 where
  pub check : (r : Result Shape Refusal) → Checks t r → r ≡ Err NotAccepted
  pub step : (s : List ℕ) (at : ℕ) (r : Result (ℕ × ℕ) Refusal) → Steps t s at r → r ≡ Err NotAccepted
  pub compare : (a b : List ℕ) (r : Result Answer Refusal) → Compares t a b r → r ≡ Err NotAccepted
  pub key : (s room : List ℕ) (r : Result ℕ Refusal) (room₁ : List ℕ) → Keys t s room r room₁ → (r ≡ Err NotAccepted) × (room₁ ≡ room)
  pub directory : (run headings topics list : List ℕ) (r : Result Unit Refusal) (list₁ : List ℕ) → Directs t run headings topics list r list₁
      → (r ≡ Err NotAccepted) × (list₁ ≡ list)

pub unaccepted-refused : (t : List ℕ) → accepted t ≡ false → RefusedByAll t
unfolding check_call step_call compare_call key_call key_for written_as directory_call directory_of directed_as
unaccepted-refused t h = record {
  check = λ r e. checked_as-unique r (Err NotAccepted) (rw h at e);
  step = λ s at r e. stepped_as-unique r (Err NotAccepted) (rw h at e);
  compare = λ a b r e. compared_as-unique r (Err NotAccepted) (rw h at e);
  key = λ s room r room₁ e. keyed_as-unique r (Err NotAccepted) room₁ room (rw h at e);
  directory = λ run headings topics list r list₁ e. directed_is-unique r (Err NotAccepted) list₁ list (rw h at e);
}

-- ## What an accepted table states

flatten-range : (ws : List (List ℕ)) → every good_weights ws ≡ true → every (within 1 32768) (flatten ws) ≡ true
unfolding every flatten
flatten-range [] h = refl
flatten-range (w ∷ ws) h =
    every-both (within 1 32768) w (flatten ws) (good-range w (every-head good_weights w ws h)) (flatten-range ws (every-tail good_weights w ws h))

numbers-range : (l : ℕ) (is : List Item) → every (good_item l) is ≡ true → every (within 1 32768) (weight_numbers is []) ≡ true
unfolding every weight_numbers
numbers-range l [] h = refl
numbers-range l (i ∷ is) h =
    every-both (within 1 32768) (flatten i.weights) (weight_numbers is [])
    (flatten-range i.weights (item-parts l i (every-head (good_item l) i is h)).weights) (numbers-range l is (every-tail (good_item l) i is h))

-- the weights of all items, whatever follows them
numbers-front : (is : List Item) (rest : List ℕ) → take (weight_count is) (weight_numbers is rest) ≡ weight_numbers is []
numbers-front is rest =
    let l = weights-length is [] in
    let e : weight_count is ≡ length (weight_numbers is []) = omega arith in
    ap (λ (n : ℕ). take n (weight_numbers is rest)) e ∙ ap (take (length (weight_numbers is []))) (sym (weights-append is [] rest))
    ∙ take-append_seam (weight_numbers is []) rest

stored-weights : (m : Meaning) (rest : List ℕ) → good m ≡ true → weights_stated (stored_form m rest) ≡ weight_numbers m.items []
unfolding weights_stated stored_form
stored-weights m rest h =
    let is : List Item = m.items in
    let rs : List ℕ = map rule_number m.rules ++ weight_numbers is rest in
    rw (
      drop_at (ends is) (char_numbers is (listing is ++ starts is ++ rs)) (length is * length m.rules) (ends-length (length m.rules) is (meaning-stored m h)),
      parts-drop is rs,
      rules-drop m.rules (weight_numbers is rest),
    )
    (numbers-front is rest)

-- every weight that it states is from 1 to 32,768
pub accepted-weights : (t : List ℕ) → accepted t ≡ true → every (within 1 32768) (weights_stated t) ≡ true
accepted-weights t h =
    let s = accepted-stored t h in
    let m = meaning_in t in
    ap (λ (x : List ℕ). every (within 1 32768) (weights_stated x)) s.1
    ∙ ap (every (within 1 32768)) (stored-weights m _ s.0)
    ∙ numbers-range (length m.rules) m.items (good-parts m s.0).items

stored-levels : (m : Meaning) (rest : List ℕ) → levels_stated (stored_form m rest) ≡ length m.rules
unfolding stored_form
stored-levels m rest = refl

-- it states 1 to 8 levels
pub accepted-levels : (t : List ℕ) → accepted t ≡ true → (1 ≤ levels_stated t) × (levels_stated t ≤ 8)
accepted-levels t h =
    let s = accepted-stored t h in
    let g = good-parts (meaning_in t) s.0 in
    let e : levels_stated t ≡ length (meaning_in t).rules = ap levels_stated s.1 ∙ stored-levels (meaning_in t) _ in
    let a = g.some_level in
    let b = g.few-levels in
    (omega arith, omega arith)

-- ## No level, a weight of zero

range-no-zero : (ws : List ℕ) → every (within 1 32768) ws ≡ true → one_of (eqb 0) ws ≡ false
unfolding one_of
range-no-zero [] h = refl
range-no-zero (w ∷ ws) h =
    let low = within_low 1 32768 w (every-head (within 1 32768) w ws h) in
    or-false-intro (ne_eqb 0 w (omega arith)) (range-no-zero ws (every-tail (within 1 32768) w ws h))

-- the same of the weights that the ends name, wherever they stand
meaning-weights : (t : List ℕ) → accepted t ≡ true → every (every (every (within 1 32768))) (map (λ (i : Item). i.weights) (meaning_in t).items) ≡ true
meaning-weights t h = let g = (accepted-stored t h).0 in good_items-weights (length (meaning_in t).rules) (meaning_in t).items (good-parts (meaning_in t) g).items

pub no-level-refused : (t : List ℕ) → levels_stated t ≡ 0 → RefusedByAll t
no-level-refused t h = by (accepted t) (λ p. let l = (accepted-levels t p).0 in absurd (omega arith)) (unaccepted-refused t)

pub bad-weight-refused : (t : List ℕ) → every (every (every (within 1 32768))) (map (λ (i : Item). i.weights) (meaning_in t).items) ≡ false → RefusedByAll t
bad-weight-refused t h = by (accepted t) (λ p. clash (meaning-weights t p) h) (unaccepted-refused t)

pub zero-weight-refused : (t : List ℕ) → one_of (eqb 0) (weights_stated t) ≡ true → RefusedByAll t
zero-weight-refused t h = by (accepted t) (λ p. clash h (range-no-zero (weights_stated t) (accepted-weights t p))) (unaccepted-refused t)
