-- `text_names::name_is` meets its contract. The invariant: the name and the bytes agree so far.
use Rattle.text_names.proofs.CompareLaws.{Beside}
use Rattle.text_names.proofs.name_is.Given as goal

abbrev pub invariant-loop-b : goal.invariant-loop-b
invariant-loop-b l = Beside l.src.signs l.src.bytes.now l.w l.initial.q l.q l.b-index
