-- `text_specials::may_set` meets its contract: a comment character is set once, and is not the escape character.
use mathlib.Core.Path.{refl}
use borrow.Author.Tests.{not-true}
use Rattle.text_specials.proofs.SignLaws.{comment-once}
use Rattle.text_specials.proofs.may_set.Goals as goal

pub returns-then-not-h : goal.returns-then-not-h
returns-then-not-h c = comment-once _ _ _ _ c.is_sign.ensures c.if-not-is_sign.false c.if-comment.true (not-true _ c.if-not-h.true) refl
