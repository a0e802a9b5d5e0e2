-- `table_layout::characters` meets its contract: the characters begin where the ends of all items end.
use Rattle.table_layout.proofs.PartLaws.{table-sizes}
use Rattle.table_layout.proofs.characters.Goals as goal

pub ends_at-requires : goal.ends_at-requires
ends_at-requires c =
    let s = table-sizes c.args.t.now c.requires c.levels-l.ensures c.items-n.ensures in
    (s.few-levels, s.few-items)

pub returns : goal.returns
returns c = rw (← c.levels-l.ensures, ← c.items-n.ensures) c.ends_at.ensures
