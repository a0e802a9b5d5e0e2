-- `table_check::accepts` meets its contract: the straight passes decide acceptance.
use Rattle.std.proofs.Common.{sym, ◌∙◌}
use Rattle.table_check.proofs.CheckLaws.{accepted-checks}
use Rattle.table_check.proofs.HeadLaws.{head-parts}
use Rattle.table_check.proofs.WholeLaws.{head-no}
use Rattle.table_check.proofs.accepts.Goals as goal

pub parts_pass-requires : goal.parts_pass-requires
parts_pass-requires c = search head-parts

pub returns-then-head_passes : goal.returns-then-head_passes
returns-then-head_passes c = c.parts_pass.ensures ∙ sym (accepted-checks c.args.t.now)

pub returns-else-head_passes : goal.returns-else-head_passes
returns-else-head_passes c = head-no c.args.t.now c.head_passes.ensures c.if-head_passes.false ∙ sym (accepted-checks c.args.t.now)
