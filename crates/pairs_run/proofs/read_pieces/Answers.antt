use borrow.Author.Rules.{rules}
use Rattle.pairs_run.proofs.PieceLaws.{reading-none, reading-checked, reading-room, reading-ended, reading-ready, reading-more}
use Rattle.pairs_run.proofs.read_pieces.Goals as goal

pub loop-pieces-init : goal.loop-pieces-init
loop-pieces-init g c = search reading-none

pub returns-then-n-eq0 : goal.returns-then-n-eq0
returns-then-n-eq0 g c = search reading-ended

pub consume-requires : goal.consume-requires
consume-requires g c = record {
  t_value = (search reading-checked, search reading-room);
  ready = search (rules, reading-ready);
}

pub loop-pieces-preserved : goal.loop-pieces-preserved
loop-pieces-preserved g c = search (rules, reading-more, c.in_ok-g.ensures)

pub returns : goal.returns
returns g c = search reading-ended
