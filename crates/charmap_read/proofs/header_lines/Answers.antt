-- `charmap_read::header_lines` meets its contract: what a line leaves the run with.
use mathlib.Core.Path.{refl, sym, ◌∙◌}
use borrow.Author.Tests.{leb-true}
use Rattle.text_reader.proofs.HeldLaws.{inside}
use Rattle.text_reader.proofs.HoldsLaws.{held_at}
use Rattle.charmap_read.proofs.HeaderLaws.{heads-start, header-used, header-refused, header-fits, header-opened, header-more, header-nearer}
use Rattle.charmap_read.proofs.header_lines.Goals as goal

pub loop-h-init : goal.loop-h-init
loop-h-init c = held_at _ refl refl (heads-start _ _ c.start-h.ensures) c.reader_at-q.ensures

pub header_line-requires : goal.header_line-requires
header_line-requires c = (inside _ _ c.used_up.ensures c.loop-h-test.true, c.loop-h.invariant.stands.visible)

pub returns-in-Err : goal.returns-in-Err
returns-in-Err c = header-refused c.loop-h.invariant (inside _ _ c.used_up.ensures c.loop-h-test.true) _ c.header_line.ensures c.in-Err.is

pub overflow_add-number : goal.overflow_add-number
overflow_add-number c = record {
  fits = header-fits c.loop-h.invariant (inside _ _ c.used_up.ensures c.loop-h-test.true) _ c.header_line.ensures c.in-Ok.is c.requires;
}

pub returns-then-opened : goal.returns-then-opened
returns-then-opened c =
    header-opened c.loop-h.invariant (inside _ _ c.used_up.ensures c.loop-h-test.true) _ c.header_line.ensures c.in-Ok.is c.if-opened.true

pub loop-h-preserved : goal.loop-h-preserved
loop-h-preserved c =
    held_at _ c.loop-h.invariant.same refl
    (header-more c.loop-h.invariant (inside _ _ c.used_up.ensures c.loop-h-test.true) _ c.header_line.ensures c.in-Ok.is c.if-opened.false)
    c.reader_at-q-in-Ok.ensures

pub loop-h-smaller : goal.loop-h-smaller
loop-h-smaller c =
    header-nearer c.loop-h.invariant (inside _ _ c.used_up.ensures c.loop-h-test.true) _ c.header_line.ensures c.in-Ok.is c.reader_at-q-in-Ok.ensures.1

pub returns : goal.returns
returns c = header-used c.loop-h.invariant (leb-true _ _ (sym c.used_up.ensures ∙ c.loop-h-test.false))
