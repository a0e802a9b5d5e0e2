-- `table_layout::rule_of` meets its contract: the number that stands for the level's rule determines the rule.
use Rattle.table_layout.specs.Parts.{rule_at}
use Rattle.table_layout.proofs.PartLaws.{table-sizes, rule-read, rule-told}
use native.Mathlib.Omega.{arith}
use Rattle.table_layout.proofs.rule_of.Goals as goal

pub rules_part-at-requires : goal.rules_part-at-requires
rules_part-at-requires c =
    let z = table-sizes c.args.t.now c.requires.t_value c.levels-l.ensures c.items-m.ensures in
    (z.few-levels, z.few-items)

pub overflow_add-n : goal.overflow_add-n
overflow_add-n c =
    let z = table-sizes c.args.t.now c.requires.t_value c.levels-l.ensures c.items-m.ensures in
    omega (arith, c.rules_part-at.ensures, z.near, z.few-items, z.few-levels, c.requires.level_in_bounds, c.levels-l.ensures)

pub offset_bounds-t-at : goal.offset_bounds-t-at
offset_bounds-t-at c =
    let z = table-sizes c.args.t.now c.requires.t_value c.levels-l.ensures c.items-m.ensures in
    omega (arith, c.rules_part-at.ensures, z.near, z.few-items, z.few-levels, c.requires.level_in_bounds, c.levels-l.ensures)

pub bounds-t-at : goal.bounds-t-at
bounds-t-at c =
    let z = table-sizes c.args.t.now c.requires.t_value c.levels-l.ensures c.items-m.ensures in
    omega (arith, c.rules_part-at.ensures, z.long, c.requires.level_in_bounds, c.levels-l.ensures)

pub returns : goal.returns
returns c =
    let a = c.args in
    rule-told (rule_at a.t.now a.level)
    (rule-read a.t.now a.level c.levels-l.result c.items-m.result c.rules_part-at.result c.requires.t_value c.requires.level_in_bounds
    c.levels-l.ensures c.items-m.ensures c.rules_part-at.ensures)
