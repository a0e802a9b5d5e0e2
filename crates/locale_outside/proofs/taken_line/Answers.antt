-- `locale_outside::taken_line` meets its contract: a law for each answer.
use Rattle.std.proofs.Common.{sym, ◌∙◌}
use mathlib.Core.Bool.{false≢true}
use borrow.Author.Tests.{not-true, not-false}
use Rattle.locale_outside.proofs.SetLaws.{set-signed, set-not, set-late, set_more, set-foul-byte, set-foul, text_both}
use Rattle.locale_outside.proofs.taken_line.Goals.{then-not-e, else-not-e, else-only_blanks-via-then-only_blanks+then-before+else-may_set, else-only_blanks-via-then-only_blanks+else-before, else-only_blanks-via-else-only_blanks}
use Rattle.locale_outside.proofs.taken_line.Goals as goal

pub returns-then-not-is_text : goal.returns-then-not-is_text
returns-then-not-is_text c = λ collated. elim c.if-not-e.branch [
  | then-not-e w ↦ let f = not-true _ w.if-not-e.true in search (set-foul, set-foul-byte)
  | else-not-e w ↦ let k = not-false _ w.if-not-e.false in let f = not-true _ (sym w.value-is ∙ c.if-not-is_text.true) in search (set-foul, set-foul-byte)
]

pub returns-then-may_set : goal.returns-then-may_set
returns-then-may_set c = λ collated. elim c.if-not-e.branch [
  | then-not-e w ↦ absurd (false≢true (sym c.if-not-is_text.false ∙ w.value-is ∙ w.if-not-e.true))
  | else-not-e w ↦ let f = text_both w.if-not-e.false w.value-is c.if-not-is_text.false in search set-signed
]

pub returns-else-only_blanks : goal.returns-else-only_blanks
returns-else-only_blanks c = λ collated. elim c.if-not-e.branch [
  | then-not-e w ↦ absurd (false≢true (sym c.if-not-is_text.false ∙ w.value-is ∙ w.if-not-e.true))
  | else-not-e w ↦ let f = text_both w.if-not-e.false w.value-is c.if-not-is_text.false in elim c.else-only_blanks.branch [
    | else-only_blanks-via-then-only_blanks+then-before+else-may_set v ↦ search set-not
    | else-only_blanks-via-then-only_blanks+else-before v ↦ search set-late
    | else-only_blanks-via-else-only_blanks v ↦ search set_more
  ]
]
