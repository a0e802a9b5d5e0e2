use Rattle.std.proofs.Common.{arith}
use Rattle.locale_skips.proofs.RunLaws.{alike-cut, alike_end, alike-blank, alike-blank-cut, alike-more, alike-not, alike-long}
use Rattle.locale_skips.proofs.run_is.Goals.{then-is_blank-via-then-is_blank, then-is_blank-via-else-is_blank+then-m-b}
use Rattle.locale_skips.proofs.run_is.Goals as goal

pub returns-in_err-m : goal.returns-in_err-m
returns-in_err-m c = alike-cut c.loop-b.invariant c.plain_byte.ensures c.in_err-m.was (omega arith) c.from_residual.ensures

pub returns-then-is_blank : goal.returns-then-is_blank
returns-then-is_blank c =
    elim c.then-is_blank.branch [
      | then-is_blank-via-then-is_blank w ↦ alike-blank-cut c.loop-b.invariant c.plain_byte.ensures c.in_ok-m.was c.is_blank.ensures w.if-is_blank.true (omega arith)
      | then-is_blank-via-else-is_blank+then-m-b w ↦ alike-not c.loop-b.invariant c.plain_byte.ensures c.in_ok-m.was c.is_blank.ensures w.if-is_blank.false (omega arith) w.if-m-b.true
    ]

pub loop-b-preserved : goal.loop-b-preserved
loop-b-preserved c = alike-more c.loop-b.invariant c.plain_byte.ensures c.in_ok-m.was c.is_blank.ensures c.if-is_blank.false (omega arith) c.if-m-b.false

pub returns-in-Some : goal.returns-in-Some
returns-in-Some c = search alike-long

pub returns-in_default : goal.returns-in_default
returns-in_default c = search alike-blank

pub returns-in_default-2 : goal.returns-in_default-2
returns-in_default-2 c = search alike_end
