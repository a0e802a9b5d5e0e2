-- `order_compare::compare_good` meets its contract: a string that is not refused has 4096 characters at most.
use Rattle.order_compare.proofs.CallLaws.{first_short, second_short}
use Rattle.order_compare.proofs.compare_good.Goals as goal

pub compare_sized-requires-else-a-le128-clause-a_len_bound : goal.compare_sized-requires-else-a-le128-clause-a_len_bound
compare_sized-requires-else-a-le128-clause-a_len_bound c = (first_short c.requires, second_short c.requires)
