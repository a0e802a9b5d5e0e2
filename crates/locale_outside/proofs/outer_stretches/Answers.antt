use mathlib.Core.Path.{refl}
use Rattle.text_reader.proofs.HeldLaws.{inside, at_line, past_all, held_first, held_on, nearer, held_over}
use Rattle.locale_outside.specs.Stretches.{stretch_reading}
use Rattle.locale_outside.proofs.StretchLaws.{reading-used}
use Rattle.locale_outside.proofs.outer_stretches.Goals as goal

pub loop-q-init : goal.loop-q-init
loop-q-init c = held_first stretch_reading c.requires c.reader_at-q.ensures

pub outer_stretch-t-requires : goal.outer_stretch-t-requires
outer_stretch-t-requires c = at_line stretch_reading c.loop-q.invariant (inside _ _ c.used_up.ensures c.loop-q-test.true)

pub returns-then-t : goal.returns-then-t
returns-then-t c = held_over stretch_reading c.loop-q.invariant c.outer_stretch-t.ensures c.if-t.true

pub loop-q-smaller : goal.loop-q-smaller
loop-q-smaller c =
    nearer stretch_reading c.loop-q.invariant c.outer_stretch-t.ensures c.if-t.false c.reader_at-q-in-loop-q.ensures.1 (inside _ _ c.used_up.ensures c.loop-q-test.true)

pub loop-q-preserved : goal.loop-q-preserved
loop-q-preserved c = held_on stretch_reading c.loop-q.invariant c.outer_stretch-t.ensures refl c.if-t.false c.reader_at-q-in-loop-q.ensures

pub returns : goal.returns
returns c =
    let h = c.loop-q.invariant in
    reading-used h.stands (past_all stretch_reading h c.used_up.ensures c.loop-q-test.false)
