-- `locale_outside::word_begins` meets its contract. The invariant: the two agree so far.
use Rattle.locale_outside.proofs.CategoryLaws.{Begun}
use Rattle.locale_outside.proofs.word_begins.Given as goal

abbrev pub invariant-loop-c : goal.invariant-loop-c
invariant-loop-c l = Begun l.src.signs l.src.bytes.now l.w l.initial.q l.q l.c-index
