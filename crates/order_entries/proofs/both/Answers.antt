use Rattle.order_entries.proofs.BothLaws.{alike-none, alike-there, alike-over, alike-first, alike-second, alike-within, alike-more}
use Rattle.order_entries.proofs.both.Goals as goal

pub loop-i-init : goal.loop-i-init
loop-i-init c = search alike-none

pub place_at-place-requires : goal.place_at-place-requires
place_at-place-requires c = search alike-first

pub place_at-other-requires : goal.place_at-other-requires
place_at-other-requires c = search alike-second

pub returns-then-place-other : goal.returns-then-place-other
returns-then-place-other c = search alike-there

pub count_at-count-requires : goal.count_at-count-requires
count_at-count-requires c = search alike-within

pub loop-i-preserved : goal.loop-i-preserved
loop-i-preserved c =
    let v = c.loop-i.invariant in
    alike-more v c.loop-i-test.true c.place_at-place.ensures
    c.place_at-other.ensures c.if-place-other.false c.count_at-count.ensures c.skipped_after-skipped.ensures

pub returns : goal.returns
returns c = search alike-over
