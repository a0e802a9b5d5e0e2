-- `table_check::parts_pass` meets its contract: the items and the rules, then the weights.
use Rattle.std.proofs.Common.{◌≡◌, ◌∙◌, ◌&&◌, ◌-◌, get_or, take, drop, arith, rules}
use Rattle.rules.specs.Text.{within, every}
use Rattle.table_check.proofs.WholeLaws.{parts-no, parts-weights, both-then, both-else}
use Rattle.table_check.proofs.parts_pass.Goals as goal
use Rattle.table_check.proofs.parts_pass.Goals.{then-items_pass, else-items_pass}

pub returns-then-all_within : goal.returns-then-all_within
returns-then-all_within c =
    let t = c.args.t.now in
    let from = c.weights_part-from.result in
    let both : c.if-items_pass.value ≡ (c.items_pass.result && every (within 0 3) (take (from - (from - get_or t 0 0)) (drop (from - get_or t 0 0) t))) =
    elim c.if-items_pass.branch [
      | then-items_pass w ↦ both-then w.if-items_pass.true (w.value-is ∙ w.all_within.ensures)
      | else-items_pass w ↦ both-else _ w.if-items_pass.false w.value-is
    ] in
    let e = c.all_within-then-all_within.ensures in
    search parts-weights

pub returns-else-all_within : goal.returns-else-all_within
returns-else-all_within c =
    let t = c.args.t.now in
    let from = c.weights_part-from.result in
    let both : c.if-items_pass.value ≡ (c.items_pass.result && every (within 0 3) (take (from - (from - get_or t 0 0)) (drop (from - get_or t 0 0) t))) =
    elim c.if-items_pass.branch [
      | then-items_pass w ↦ both-then w.if-items_pass.true (w.value-is ∙ w.all_within.ensures)
      | else-items_pass w ↦ both-else _ w.if-items_pass.false w.value-is
    ] in
    search parts-no
