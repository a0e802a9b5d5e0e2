-- `locale_order_lines::name_refusal` meets its contract: it is that of the paper's order line.
use Rattle.locale_order_lines.proofs.StepLaws.{some_known, open-rowed}
use Rattle.locale_order_lines.proofs.NameLaws.{name-next, name-plain, name-reads}
use Rattle.locale_order_lines.proofs.name_refusal.Goals as goal

pub name_facts-k-requires : goal.name_facts-k-requires
name_facts-k-requires c = search open-rowed

pub is_again-again-requires : goal.is_again-again-requires
is_again-again-requires c = search open-rowed

pub own_refusal-o-requires : goal.own_refusal-o-requires
own_refusal-o-requires c = record { at_in_bounds = (search name-next, search name-plain); some_known = search some_known }

pub returns : goal.returns
returns c = search name-reads
