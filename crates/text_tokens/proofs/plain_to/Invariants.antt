-- `text_tokens::plain_to` meets its contract. The invariant: up to here only plain bytes are passed.
use Rattle.text_tokens.proofs.PlainLaws.{Passing}
use Rattle.text_tokens.proofs.plain_to.Given as goal

abbrev pub invariant-loop-i : goal.invariant-loop-i
invariant-loop-i l = Passing l.src l.escape l.initial.i l.i
