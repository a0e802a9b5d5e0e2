-- `locale_order_lines::undefined_facts` meets its contract: whether it has an order line stands in its row.
use Rattle.locale_order_lines.proofs.FactLaws.{facts-undefined}
use Rattle.locale_order_lines.proofs.undefined_facts.Goals as goal

pub returns : goal.returns
returns c = search facts-undefined
