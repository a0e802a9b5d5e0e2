-- `locale_elements::declare_both` meets its contract: two declarations, and a number told.
use Rattle.locale_elements.proofs.BothLaws.{both-roomy, both-fits, both-row, both-declared}
use borrow.Author.Rules.{rules}
use Rattle.locale_elements.proofs.declare_both.Goals as goal

pub declare-requires-2 : goal.declare-requires-2
declare-requires-2 c = record { v_in_bounds = search rules; roomy = search both-roomy }

pub overflow_cast-q : goal.overflow_cast-q
overflow_cast-q c = search both-fits

pub tell-requires : goal.tell-requires
tell-requires c = (search rules, both-row (search rules) c.declare.ensures c.declare-2.ensures (search rules))

pub returns : goal.returns
returns c = search both-declared
