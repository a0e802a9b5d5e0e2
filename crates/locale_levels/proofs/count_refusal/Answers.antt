-- `locale_levels::count_refusal` meets its contract.
use Rattle.locale_levels.proofs.CountLaws.{count-good, count-many, count-unknown}
use Rattle.locale_levels.proofs.count_refusal.Goals as goal

pub returns-then-n-le8 : goal.returns-then-n-le8
returns-then-n-le8 c = search count-good

pub returns-else-n-le8 : goal.returns-else-n-le8
returns-else-n-le8 c = search count-many

pub returns-else-known : goal.returns-else-known
returns-else-known c = search count-unknown
