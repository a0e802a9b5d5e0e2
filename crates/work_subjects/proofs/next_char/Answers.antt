-- `work_subjects::next_char` meets its contract: the next name, its code and the spot after it.
use Rattle.work_subjects.proofs.CharsLaws.{next-none, next-to, next-inside, next-char}
use Rattle.work_subjects.proofs.next_char.Goals as goal

pub char_at-requires : goal.char_at-requires
char_at-requires c = let e = c.in_ok-q.was in search next-to

pub after_name-requires : goal.after_name-requires
after_name-requires c = let e = c.in_ok-q.was in (search next-to, search next-inside)

pub returns : goal.returns
returns c = let e = c.in_ok-q.was in search next-char

pub returns-in_err-q : goal.returns-in_err-q
returns-in_err-q c = let e = c.in_err-q.was in rw c.from_residual.ensures (search next-none)
