use borrow.Author.Rules.{rules}
use Rattle.pairs_report.proofs.FeedLaws.{feeding-none, feeding-used, feeding-ready, feeding-room, feeding-less, feeding-more, feeding-full, feeding-all}
use Rattle.pairs_report.proofs.feed.Goals as goal

pub loop-g-init : goal.loop-g-init
loop-g-init c = search feeding-none

pub overflow_sub-out : goal.overflow_sub-out
overflow_sub-out c = search feeding-used

pub returns-then-out-g-lt80 : goal.returns-then-out-g-lt80
returns-then-out-g-lt80 c = search feeding-full

pub feed_run-g-requires : goal.feed_run-g-requires
feed_run-g-requires c = record {
  t_value = search (rules, feeding-ready);
  at_in_bounds = search (rules, feeding-room);
}

pub loop-g-smaller : goal.loop-g-smaller
loop-g-smaller c = search feeding-less

pub loop-g-preserved : goal.loop-g-preserved
loop-g-preserved c = search feeding-more

pub returns : goal.returns
returns c = search feeding-all
