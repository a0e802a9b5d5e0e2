-- `locale_standing::next_refusal` meets its contract: a law for each way to return.
use Rattle.locale_standing.proofs.TurnLaws.{turn-bad, turn-empty, turn_end, turn-to, turn-token, turn_one, turn_last}
use borrow.Author.Rules.{rules}
use Rattle.locale_standing.proofs.next_refusal.Goals as goal

pub returns-in-Bad : goal.returns-in-Bad
returns-in-Bad c = search turn-bad

pub returns-then-more : goal.returns-then-more
returns-then-more c = search turn-empty

pub returns-else-more : goal.returns-else-more
returns-else-more c = search turn_end

pub one_refusal-f-requires : goal.one_refusal-f-requires
one_refusal-f-requires c = record { at_in_bounds = (search turn-to, search turn-token); sound = search rules }

pub returns-then-more-2 : goal.returns-then-more-2
returns-then-more-2 c = search turn_one

pub returns-else-more-2 : goal.returns-else-more-2
returns-else-more-2 c = search turn_last
