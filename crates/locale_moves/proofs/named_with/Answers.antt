-- `locale_moves::named_with` meets its contract: a law for each answer.
use Rattle.locale_moves.proofs.NamedLaws.{with_none, with-refused}
use Rattle.locale_moves.proofs.named_with.Goals as goal

pub returns-in-None : goal.returns-in-None
returns-in-None c = with_none c.args.r c.lower_of.result c.in-None.is c.lower_of.ensures c.unwrap_or.ensures

pub returns-in-Some-r : goal.returns-in-Some-r
returns-in-Some-r c = with-refused c.args.r c.in-Some.is c.in-Some-r.is
