-- `pairs_printing::put_digits` meets its contract: the digits before the last, then the last. The measure is how many places there are.
use Rattle.pairs_printing.proofs.+put_digits.Given as goal

abbrev pub decreases-put_digits : goal.decreases-put_digits
decreases-put_digits l = l.most
