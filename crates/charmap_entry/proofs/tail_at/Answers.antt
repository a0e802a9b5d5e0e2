use Rattle.charmap_entry.proofs.TailLaws.{tail-solid, tail-last, tail-pair, tail_more}
use Rattle.charmap_entry.proofs.tail_at.Goals.{then-i-src-via-then-i-src, then-i-src-via-else-i-src+then-src-i-ne10-2}
use Rattle.charmap_entry.proofs.tail_at.Goals as goal

pub returns-else-is_blank : goal.returns-else-is_blank
returns-else-is_blank c = search tail-solid

pub returns-then-i-src : goal.returns-then-i-src
returns-then-i-src c =
    elim c.then-i-src.branch [
      | then-i-src-via-then-i-src w ↦ tail-last c.loop-i.invariant c.loop-i-test.true c.if-src-i-ne10.true c.if-src-i.false w.if-i-src.true
      | then-i-src-via-else-i-src+then-src-i-ne10-2 w ↦ tail-pair c.loop-i.invariant c.loop-i-test.true c.if-src-i-ne10.true c.if-src-i.false w.if-i-src.false w.if-src-i-ne10-2.true
    ]

pub loop-i-preserved : goal.loop-i-preserved
loop-i-preserved c = search tail_more
