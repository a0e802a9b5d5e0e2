use Rattle.text_tokens.proofs.NameLaws.{quotes-none, quotes-open, quotes-end, quotes-foul, quotes-inside, quotes-name-open, quotes-more}
use Rattle.text_tokens.proofs.end_of_quotes.Goals as goal

pub loop-m-init : goal.loop-m-init
loop-m-init c = search quotes-none

pub returns-in_err-m : goal.returns-in_err-m
returns-in_err-m c = rw c.from_residual.ensures (quotes-open c.loop-m.invariant c.in_err-m.ensures)

pub returns-in-34 : goal.returns-in-34
returns-in-34 c = search (quotes-end, c.in_ok-m.ensures)

pub end_of_name-requires : goal.end_of_name-requires
end_of_name-requires c = quotes-inside c.loop-m.invariant c.in_ok-m.ensures c.in-60.is

pub returns-in_err-f-in-60 : goal.returns-in_err-f-in-60
returns-in_err-f-in-60 c = rw c.from_residual-in_err-f-in-60.ensures (search (quotes-name-open, c.in_ok-m.ensures, c.in_err-f-in-60.ensures))

pub loop-m-preserved : goal.loop-m-preserved
loop-m-preserved c = search (quotes-more, c.in_ok-m.ensures, c.in_ok-f-in-60.ensures)

pub returns-in_default : goal.returns-in_default
returns-in_default c = search (quotes-foul, c.in_ok-m.ensures)
