-- `locale_weights::after_token` meets its contract: a law for each way to return.
use Rattle.locale_weights.proofs.NextLaws.{tail-end, tail-broken, tail_more, tail-two}
use Rattle.locale_weights.proofs.after_token.Goals as goal

pub returns-in-End : goal.returns-in-End
returns-in-End c = search tail-end

pub returns-in-Broken : goal.returns-in-Broken
returns-in-Broken c = search tail-broken

pub returns-then-t-eq-SEMI : goal.returns-then-t-eq-SEMI
returns-then-t-eq-SEMI c = search tail_more

pub returns-else-t-eq-SEMI : goal.returns-else-t-eq-SEMI
returns-else-t-eq-SEMI c = search tail-two
