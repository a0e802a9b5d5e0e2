-- `table_layout::shape_of` meets its contract: the header says how many levels and items there are, and these where the parts begin.
use Rattle.table_layout.proofs.PartLaws.{table-sizes}
use Rattle.table_layout.proofs.shape_of.Goals as goal

pub ends_at-requires : goal.ends_at-requires
ends_at-requires c =
    let s = table-sizes c.args.t.now c.requires c.levels-l.ensures c.items-n.ensures in
    (s.few-levels, s.few-items)

pub weights_part-requires : goal.weights_part-requires
weights_part-requires c =
    let s = table-sizes c.args.t.now c.requires c.levels-l.ensures c.items-n.ensures in
    (s.few-levels, s.few-items)

pub returns : goal.returns
returns c =
    let l = c.levels-l.ensures in
    let n = c.items-n.ensures in
    record {
      checked = c.requires;
      levels-are = l;
      items-are = n;
      chars-are = rw (← l, ← n) c.ends_at.ensures;
      weights-are = rw (← l, ← n) c.weights_part.ensures;
    }
