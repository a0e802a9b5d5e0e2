-- No line in LC_COLLATE changes the two characters.
use mathlib.Core.Path.{◌≡◌, refl, sym, ap, ◌∙◌}
use mathlib.Core.Bool.{true, not, ◌&&◌, ◌||◌}
use mathlib.Core.List.{List, [], ◌∷◌}
use Prim.Native.Nat.{ℕ}
use lib.ListN.{length, get_or}
use lib.Dec.{eqb}
use Rattle.base_lists.proofs.Bools.{cond-true, cond_both}
use Rattle.rules.specs.Text.{same, is}
use Rattle.rules.specs.Tokens.{word, name, Token, the_name, operands, tokens_of, plain_marks, words_of}
use Rattle.rules.specs.State.{in_other_category, Subject, State, in_phase, in_collate, Outcome, gives}
use Rattle.rules.specs.Conditionals.{define_line, if_line, elif_line, is_unused}
use Rattle.rules.specs.Declarations.{symbol_line, element_line}
use Rattle.rules.specs.OrderLines.{order_start_line, subject_of, order_line, reorder_after_line, reorder_end_line}
use Rattle.rules.specs.Source.{end_line, collate_line, outside_line, token_line, whole_line, other_line, unused_line, line_outcome}

-- the line leaves the characters of the state before it
abbrev Kept : State → Outcome → Type 0
Kept s o = o.state.chars ≡ s.chars

other-kept : (s : State) (ws : List (List ℕ)) → Kept s (other_line s ws)
unfolding other_line
other-kept s ws =
    cond_both (λ (x : State). x.chars ≡ s.chars) (eqb (length ws) 2 && is (get_or ws 0 []) "END" && same (get_or ws 1 []) s.place.category) refl refl

order-kept : (s : State) (number : ℕ) (x : Subject) (ts : List Token) → Kept s (order_line s number x ts)
unfolding order_line
order-kept s number x ts = refl

collate-kept : (s : State) (number : ℕ) (w : List ℕ) (ts : List Token) → Kept s (collate_line s number w ts)
unfolding collate_line define_line if_line elif_line symbol_line element_line order_start_line order_line reorder_after_line reorder_end_line end_line
collate-kept s number w ts =
    cond_both (Kept s) (is w "define") refl
    (cond_both (Kept s) (is w "undef") refl
    (cond_both (Kept s) (is w "ifdef") refl
    (cond_both (Kept s) (is w "ifndef") refl
    (cond_both (Kept s) (is w "elif") refl
    (cond_both (Kept s) (is w "else") refl
    (cond_both (Kept s) (is w "endif") refl
    (cond_both (Kept s) (is w "collating-symbol") refl
    (cond_both (Kept s) (is w "collating-element") refl
    (cond_both (Kept s) (is w "order_start") refl
    (cond_both (Kept s) (is w "order_end") refl
    (cond_both (Kept s) (is w "UNDEFINED") refl
    (cond_both (Kept s) (is w "reorder-after") refl
    (cond_both (Kept s) (is w "reorder-end") refl
    (cond_both (Kept s) (is w "END") refl refl))))))))))))))

module _ (s : State) (inside : in_collate s ≡ true) (number : ℕ) where
  token-kept : (ts : List Token) → Kept s (token_line s number ts)
  unfolding token_line
  token-kept [] = refl
  token-kept (t ∷ ts) =
      cond_both (Kept s) (eqb t.kind word)
      (ap (λ (o : Outcome). o.state.chars) (cond-true (collate_line s number t.text (operands ts)) (outside_line s t.text (operands ts)) inside)
      ∙ collate-kept s number t.text (operands ts))
      (cond_both (Kept s) (eqb t.kind name && in_collate s) (order-kept s number (subject_of (the_name t)) (operands ts)) refl)

  whole-kept : (marks : List ℕ) → Kept s (whole_line s number marks)
  unfolding whole_line
  whole-kept marks = token-kept (tokens_of marks)

  unused-kept : (w marks : List ℕ) → Kept s (unused_line s number w marks)
  unfolding unused_line
  unused-kept w marks =
      cond_both (Kept s) (is w "ifdef" || is w "ifndef") refl
      (cond_both (Kept s) (is w "endif" && not (eqb s.blocks.inner 0)) refl
      (cond_both (Kept s) (eqb s.blocks.inner 0 && (is w "elif" || is w "else" || is w "endif")) (whole-kept marks) refl))

  line_kept : (marks : List ℕ) → Kept s (line_outcome s number marks)
  unfolding line_outcome
  line_kept marks =
      cond_both (Kept s) (in_phase in_other_category s) (other-kept s (words_of [] (plain_marks marks)))
      (cond_both (Kept s) (is_unused s) (unused-kept (get_or (words_of [] (plain_marks marks)) 0 []) marks) (whole-kept marks))

  -- a line that leaves the state t
  pub chars-kept : (marks : List ℕ) (t : State) → line_outcome s number marks ≡ gives 0 t → t.chars ≡ s.chars
  chars-kept marks t e = sym (ap (λ (o : Outcome). o.state.chars) e) ∙ line_kept marks
