-- `text_tokens::end_of_quotes` meets its contract. The invariant: these names are read, with nothing between them. The measure is what is left
-- of the source.
use Rattle.text_tokens.proofs.NameLaws.{InQuotes}
use Prim.Native.Nat.{◌-◌}
use lib.ListN.{length}
use Rattle.text_tokens.proofs.end_of_quotes.Given as goal

abbrev pub invariant-loop-m : goal.invariant-loop-m
invariant-loop-m l = InQuotes l.src.signs l.src.bytes.now l.initial.q l.q l.n l.refusal

abbrev pub decreases-loop-m : goal.decreases-loop-m
decreases-loop-m l = length l.src.bytes.now - l.q.at
