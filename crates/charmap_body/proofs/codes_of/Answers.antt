-- `charmap_body::codes_of` meets its contract: both names are characters', and no other numbers lie between.
use Rattle.charmap_body.proofs.OutcomeLaws.{codes-first, codes-last, codes-span, codes-both}
use Rattle.charmap_body.proofs.codes_of.Goals as goal

pub returns-in_err-low : goal.returns-in_err-low
returns-in_err-low c = rw c.from_residual.ensures (codes-first _ _ c.char_code.ensures c.in_err-low.was)

pub returns-in_err-high : goal.returns-in_err-high
returns-in_err-high c = rw c.from_residual-in_err-high.ensures (codes-last _ _ c.char_code.ensures _ c.in_ok-low.was c.char_code-2.ensures c.in_err-high.was)

pub returns-then-spans : goal.returns-then-spans
returns-then-spans c =
    codes-span _ _ c.char_code.ensures _ c.in_ok-low.was c.char_code-2.ensures c.in_ok-high.was c.spans.ensures c.if-spans.true

pub returns-else-spans : goal.returns-else-spans
returns-else-spans c =
    codes-both _ _ c.char_code.ensures _ c.in_ok-low.was c.char_code-2.ensures c.in_ok-high.was c.spans.ensures c.if-spans.false
