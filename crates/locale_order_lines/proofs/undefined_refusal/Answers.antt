-- `locale_order_lines::undefined_refusal` meets its contract: it is that of the paper's order line.
use Rattle.locale_order_lines.proofs.UndefinedLaws.{undefined-reads}
use Rattle.locale_order_lines.proofs.undefined_refusal.Goals as goal

pub returns : goal.returns
returns c = search undefined-reads
