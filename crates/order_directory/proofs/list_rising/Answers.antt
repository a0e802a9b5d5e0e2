-- `order_directory::list_rising` meets its contract: 13, or the list.
use Rattle.order_directory.proofs.PageLaws.{ranked-short, ranked-count, ranked-ready, ranked-rising, ranked-written}
use native.Mathlib.Omega.{arith}
use borrow.Author.Rules.{rules}
use Rattle.order_directory.proofs.list_rising.Goals as goal

pub returns-then-list-n : goal.returns-then-list-n
returns-then-list-n c = ranked-short _ _ _ _ _ _ c.requires _ c.count-n.ensures (omega arith)

pub slice_bounds-write-end : goal.slice_bounds-write-end
slice_bounds-write-end c = search ranked-count

pub write-requires : goal.write-requires
write-requires c =
    let page = c.requires in
    record { ready = ranked-ready _ _ _ _ _ _ page; rising = ranked-rising _ _ _ _ _ _ page c.count-m.ensures; topics_in_bounds = search rules }

pub returns : goal.returns
returns c = search ranked-written
