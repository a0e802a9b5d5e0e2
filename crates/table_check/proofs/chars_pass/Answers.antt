use Rattle.table_check.proofs.CharLaws.{chars-none, chars-more, chars-all}
use Rattle.table_check.proofs.chars_pass.Goals as goal

pub loop-four-preserved : goal.loop-four-preserved
loop-four-preserved c =
    let h = c.in-Some.ensures.steps in
    chars-more c.loop-four.invariant c.in-Some.four.now _ h.1.0 h.1.1 c.item_passes-good.ensures h.0

pub returns : goal.returns
returns c = let h = c.in-None.ensures.steps in chars-all c.loop-four.invariant h.1.0
