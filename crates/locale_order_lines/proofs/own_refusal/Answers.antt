-- `locale_order_lines::own_refusal` meets its contract: a law for each way to return.
use Rattle.locale_order_lines.proofs.FactLaws.{known-sound}
use Rattle.locale_order_lines.proofs.OwnLaws.{own-unformed, own-later}
use borrow.Author.Rules.{rules}
use Rattle.locale_order_lines.proofs.own_refusal.Goals as goal

pub weights_refusal-c-requires : goal.weights_refusal-c-requires
weights_refusal-c-requires c = record { at_in_bounds = search rules; sound = search known-sound }

pub returns-then-is_formed : goal.returns-then-is_formed
returns-then-is_formed c = search own-later

pub returns-else-is_formed : goal.returns-else-is_formed
returns-else-is_formed c = search own-unformed
