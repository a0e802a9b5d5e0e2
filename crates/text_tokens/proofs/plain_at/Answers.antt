-- `text_tokens::plain_at` meets its contract: a law for the end, for the three that are given as 0, and for any other byte.
use Rattle.text_tokens.proofs.StandLaws.{at-end, at-one, at_byte}
use Rattle.text_tokens.proofs.plain_at.Goals as goal

pub returns-then-at-src : goal.returns-then-at-src
returns-then-at-src c = search at-end

pub returns-then-b-eq10 : goal.returns-then-b-eq10
returns-then-b-eq10 c =
    let e = c.byte_at-b.ensures.0 in
    let h = c.if-b-eq10.either in
    at-one c.args.src.signs c.args.src.bytes.now c.args.at (rw e at h)

pub returns-else-b-eq10 : goal.returns-else-b-eq10
returns-else-b-eq10 c =
    let e = c.byte_at-b.ensures.0 in
    let h = c.if-b-eq10.false in
    let small = c.byte_at-b.ensures.1 in
    rw e (at_byte c.args.src.signs c.args.src.bytes.now c.args.at (rw e at h) (rw e at small))
