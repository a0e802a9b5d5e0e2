-- `locale_standing::weights_refusal` meets its contract: a law for each way to return.
use Rattle.locale_standing.proofs.CountLaws.{counts-none, counts-malformed, counts-to, counts-mode, counts-empty, counts-from}
use borrow.Author.Rules.{rules}
use Rattle.locale_standing.proofs.weights_refusal.Goals as goal

pub returns-in-None : goal.returns-in-None
returns-in-None c = search counts-none

pub returns-in-Broken : goal.returns-in-Broken
returns-in-Broken c = search counts-malformed

pub none_left-requires : goal.none_left-requires
none_left-requires c = (search counts-to, search counts-mode)

pub returns-then-none_left : goal.returns-then-none_left
returns-then-none_left c = search counts-empty

pub weights_left-requires : goal.weights_left-requires
weights_left-requires c = record { at_in_bounds = (search counts-to, search counts-mode); sound = search rules }

pub returns-else-none_left : goal.returns-else-none_left
returns-else-none_left c = search counts-from
