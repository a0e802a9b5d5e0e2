use Rattle.pairs_printing.proofs.DigitLaws.{none-put, one-put, more_room, more-put}
use Rattle.pairs_printing.proofs.+put_digits.Goals as goal

pub returns-then-most-eq0 : goal.returns-then-most-eq0
returns-then-most-eq0 t c = search none-put

pub returns-then-n-lt10 : goal.returns-then-n-lt10
returns-then-n-lt10 t c = search one-put

pub put_one-requires-2 : goal.put_one-requires-2
put_one-requires-2 t c = search more_room

pub returns : goal.returns
returns t c = search more-put
