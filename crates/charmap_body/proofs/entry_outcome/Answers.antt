-- `charmap_body::entry_outcome` meets its contract: what the codes give counts where nothing is refused.
use Rattle.charmap_body.proofs.OutcomeLaws.{entry_gives, entry-refused}
use Rattle.charmap_body.proofs.entry_outcome.Goals as goal

pub returns-in-None : goal.returns-in-None
returns-in-None c = entry_gives _ _ _ _ _ _ _ _ _ c.codes_outcome-codes.result c.before_codes.ensures c.codes_outcome-codes.ensures c.err.ensures.value c.lower_of.ensures c.in-None.is

pub returns-in-Some : goal.returns-in-Some
returns-in-Some c = entry-refused _ _ _ _ _ _ _ _ _ c.codes_outcome-codes.result c.before_codes.ensures c.codes_outcome-codes.ensures c.err.ensures.value c.lower_of.ensures c.in-Some.is
