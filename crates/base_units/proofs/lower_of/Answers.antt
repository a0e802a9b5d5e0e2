-- `base_units::lower_of` meets its contract: a law for each way.
use Rattle.base_units.proofs.LowerLaws.{lower-left-none, lower-right-none, lower-left, lower-right}
use Rattle.base_units.proofs.lower_of.Goals as goal

pub returns-in-None-default : goal.returns-in-None-default
returns-in-None-default c = search (lower-left-none c.args.a c.args.b)

pub returns-in_default-None : goal.returns-in_default-None
returns-in_default-None c = search (lower-right-none c.args.a c.args.b)

pub returns-then-number_of : goal.returns-then-number_of
returns-then-number_of c = search (lower-left c.args.a c.args.b)

pub returns-else-number_of : goal.returns-else-number_of
returns-else-number_of c = search (lower-right c.args.a c.args.b)
