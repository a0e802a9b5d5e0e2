use Rattle.std.proofs.Common.{◌≡◌, true, get_or, arith, rules}
use Rattle.std.proofs.lemmas.Grind.{common_steps}
use Rattle.rules.specs.Text.{within}
use Rattle.table_check.proofs.WithinLaws.{passing-none, passing-more, passing-all}
use Rattle.table_check.proofs.all_within.Goals as goal

pub loop-x-init : goal.loop-x-init
loop-x-init c = search passing-none

pub loop-x-preserved : goal.loop-x-preserved
loop-x-preserved c =
    let e : c.contains-good.result ≡ within c.args.low c.args.high (get_or c.args.numbers.now c.loop-x.x-index 0) = grind (arith, common_steps, c.contains-good.ensures.cases) in
    passing-more c.loop-x.invariant c.loop-x-test.true e

pub returns : goal.returns
returns c = search passing-all
