-- `locale_skips::run_is` meets its contract. The invariant: the run and the word agree so far.
use Rattle.locale_skips.proofs.RunLaws.{Alike}
use Rattle.locale_skips.proofs.run_is.Given as goal

abbrev pub invariant-loop-b : goal.invariant-loop-b
invariant-loop-b l = Alike l.src.signs l.src.bytes.now l.w l.initial.q l.q l.b-index
