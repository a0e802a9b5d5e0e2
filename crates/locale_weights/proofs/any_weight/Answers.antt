-- `locale_weights::any_weight` meets its contract: a law for each way to return.
use Rattle.locale_weights.proofs.NextLaws.{weight-end, weight-broken, weight-empty, weight-last, weight-bad, weight-one}
use Rattle.text_operands.proofs.AfterLaws.{next-plain}
use mathlib.Core.Bool.{false}
use Rattle.locale_weights.proofs.any_weight.Goals as goal

pub returns-in-End : goal.returns-in-End
returns-in-End c = search weight-end

pub returns-in-Broken : goal.returns-in-Broken
returns-in-Broken c = search weight-broken

pub returns-then-t-eq-SEMI : goal.returns-then-t-eq-SEMI
returns-then-t-eq-SEMI c = search weight-empty

pub after_token-requires : goal.after_token-requires
after_token-requires c = next-plain c.args.src.signs c.args.src.bytes.now false c.args.p {o = c.next_operand.result} c.next_operand.ensures c.in-Token.is

pub returns-in-Last : goal.returns-in-Last
returns-in-Last c = search weight-last

pub returns-in-Bad : goal.returns-in-Bad
returns-in-Bad c = search weight-bad

pub returns-in-More : goal.returns-in-More
returns-in-More c = search weight-one
