-- `table_check::head_passes` meets its contract: one law for each way out.
use Rattle.std.proofs.Common.{◌≡◌, get_or, arith, rules}
use Rattle.std.proofs.lemmas.Grind.{common_steps}
use Rattle.rules.specs.Text.{within}
use Rattle.table_layout.proofs.LayoutLaws.{end_fits}
use Rattle.table_check.proofs.HeadLaws.{head-short, head-levels, head-items, head-mask, head-spare, head-room, in-range}
use Rattle.table_check.proofs.head_passes.Goals as goal
use Rattle.table_check.proofs.head_passes.Goals.{then-not-contains-via-then-not-contains, then-not-contains-via-else-not-contains+then-not-contains-2, then-not-contains-via-else-not-contains+else-not-contains-2+then-t-mask_for}

pub returns-then-t-lt16 : goal.returns-then-t-lt16
returns-then-t-lt16 c = search head-short

pub returns-then-not-contains : goal.returns-then-not-contains
returns-then-not-contains c =
    let t = c.args.t.now in
    let l : c.contains.result ≡ within 1 8 (get_or t 0 0) = grind (arith, common_steps, c.contains.ensures.cases) in
    elim c.then-not-contains.branch [
      | then-not-contains-via-then-not-contains w ↦ head-levels t c.if-t-lt16.false l w.if-not-contains.true
      | then-not-contains-via-else-not-contains+then-not-contains-2 w ↦
          let n : w.contains-else-not-contains.result ≡ within 1 32768 (get_or t 1 0) = grind (arith, common_steps, w.contains-else-not-contains.ensures.cases) in
          head-items t c.if-t-lt16.false l w.if-not-contains.false n w.if-not-contains-2.true
      | then-not-contains-via-else-not-contains+else-not-contains-2+then-t-mask_for w ↦
          let n : w.contains-else-not-contains.result ≡ within 1 32768 (get_or t 1 0) = grind (arith, common_steps, w.contains-else-not-contains.ensures.cases) in
          head-mask t c.if-t-lt16.false l w.if-not-contains.false n w.if-not-contains-2.false w.mask_for.ensures w.if-t-mask_for.true
    ]

pub overflow_add-result : goal.overflow_add-result
overflow_add-result c =
    let t = c.args.t.now in
    let l : c.contains.result ≡ within 1 8 (get_or t 0 0) = grind (arith, common_steps, c.contains.ensures.cases) in
    let n : c.contains-else-not-contains.result ≡ within 1 32768 (get_or t 1 0) = grind (arith, common_steps, c.contains-else-not-contains.ensures.cases) in
    let a = in-range 1 8 (get_or t 0 0) l c.if-not-contains.false in
    let b = in-range 1 32768 (get_or t 1 0) n c.if-not-contains-2.false in
    end_fits (get_or t 0 0) (get_or t 1 0) c.weights_part.ensures (omega arith) (omega arith) (c.type_inv.t 2)

pub returns-then-all_within : goal.returns-then-all_within
returns-then-all_within c =
    let t = c.args.t.now in
    let l : c.contains.result ≡ within 1 8 (get_or t 0 0) = grind (arith, common_steps, c.contains.ensures.cases) in
    let n : c.contains-else-not-contains.result ≡ within 1 32768 (get_or t 1 0) = grind (arith, common_steps, c.contains-else-not-contains.ensures.cases) in
    head-room t c.if-t-lt16.false l c.if-not-contains.false n c.if-not-contains-2.false c.mask_for.ensures c.if-t-mask_for.false
    c.all_within.ensures c.if-all_within.true c.weights_part.ensures

pub returns-else-all_within : goal.returns-else-all_within
returns-else-all_within c =
    let t = c.args.t.now in
    let l : c.contains.result ≡ within 1 8 (get_or t 0 0) = grind (arith, common_steps, c.contains.ensures.cases) in
    let n : c.contains-else-not-contains.result ≡ within 1 32768 (get_or t 1 0) = grind (arith, common_steps, c.contains-else-not-contains.ensures.cases) in
    head-spare t c.if-t-lt16.false l c.if-not-contains.false n c.if-not-contains-2.false c.mask_for.ensures c.if-t-mask_for.false
    c.all_within.ensures c.if-all_within.false
