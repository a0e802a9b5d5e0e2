-- `text_operands::next_operand` meets its contract: a law for each way to return.
use Rattle.text_operands.proofs.NextLaws.{operand-end, operand-broken, operand-dead, operand-whole, operand-glued}
use Rattle.text_operands.proofs.next_operand.Goals as goal

pub returns-in-End : goal.returns-in-End
returns-in-End c = search operand-end

pub returns-in-Broken : goal.returns-in-Broken
returns-in-Broken c = search operand-broken

pub returns-then-t-eq-BROKEN : goal.returns-then-t-eq-BROKEN
returns-then-t-eq-BROKEN c = search operand-dead

pub returns-then-t-lt-BROKEN : goal.returns-then-t-lt-BROKEN
returns-then-t-lt-BROKEN c = operand-whole c.args.src.signs c.args.src.bytes.now c.args.glued c.args.p c.blank_next-apart.ensures c.skip_gaps-q.ensures {n = c.next_token.result} c.next_token.ensures c.in-Token.is
    c.if-t-eq-BROKEN.false c.then-t-lt-BROKEN.either

pub returns-in-Token : goal.returns-in-Token
returns-in-Token c = operand-glued c.args.src.signs c.args.src.bytes.now c.args.glued c.args.p c.blank_next-apart.ensures c.skip_gaps-q.ensures {n = c.next_token.result} c.next_token.ensures c.in-Token.is
    (c.if-t-lt-BROKEN.false, c.if-apart.false, c.if-not-glued.false)
