-- `charmap_read::body_lines` meets its contract: what a line leaves the run with.
use mathlib.Core.Path.{refl, sym, ◌∙◌}
use borrow.Author.Tests.{leb-true}
use Rattle.text_reader.proofs.HeldLaws.{inside}
use Rattle.text_reader.proofs.HoldsLaws.{held_at}
use Rattle.charmap_read.proofs.EntryLaws.{reads-start, body-used, body-asks, body-refused, body-fits, body-closed, body-more, body-nearer}
use Rattle.charmap_read.proofs.body_lines.Goals as goal

pub loop-signs-init : goal.loop-signs-init
loop-signs-init c = held_at _ refl refl (reads-start c.requires) c.reader_at-q.ensures

pub body_line-requires : goal.body_line-requires
body_line-requires c = body-asks c.loop-signs.invariant (inside _ _ c.used_up.ensures c.loop-signs-test.true)

pub returns-in-Err : goal.returns-in-Err
returns-in-Err c = body-refused c.loop-signs.invariant (inside _ _ c.used_up.ensures c.loop-signs-test.true) _ _ c.body_line.ensures c.in-Err.is

pub overflow_add-number : goal.overflow_add-number
overflow_add-number c = record {
  fits = body-fits c.loop-signs.invariant (inside _ _ c.used_up.ensures c.loop-signs-test.true) _ _ c.body_line.ensures c.in-Ok.is c.requires.short;
}

pub returns-then-closed : goal.returns-then-closed
returns-then-closed c =
    body-closed c.loop-signs.invariant (inside _ _ c.used_up.ensures c.loop-signs-test.true) _ _ c.body_line.ensures c.in-Ok.is c.if-closed.true

pub loop-signs-preserved : goal.loop-signs-preserved
loop-signs-preserved c =
    held_at _ c.loop-signs.invariant.same refl
    (body-more c.loop-signs.invariant (inside _ _ c.used_up.ensures c.loop-signs-test.true) _ _ c.body_line.ensures c.in-Ok.is c.if-closed.false)
    c.reader_at-q-in-Ok.ensures

pub loop-signs-smaller : goal.loop-signs-smaller
loop-signs-smaller c =
    body-nearer c.loop-signs.invariant (inside _ _ c.used_up.ensures c.loop-signs-test.true) _ _ c.body_line.ensures c.in-Ok.is c.reader_at-q-in-Ok.ensures.1

pub returns : goal.returns
returns c = body-used c.loop-signs.invariant (leb-true _ _ (sym c.used_up.ensures ∙ c.loop-signs-test.false))
