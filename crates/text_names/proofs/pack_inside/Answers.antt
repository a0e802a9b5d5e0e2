use Rattle.text_names.proofs.PackLaws.{inside-none, inside-close, inside-more, inside-rest}
use Rattle.text_names.proofs.InsideLaws.{test-within, test-less}
use Rattle.text_names.proofs.pack_inside.Goals as goal

pub loop-b-init : goal.loop-b-init
loop-b-init c = search inside-none

pub bounds-src-at : goal.bounds-src-at
bounds-src-at c = search test-within

pub returns-then-b-eq62 : goal.returns-then-b-eq62
returns-then-b-eq62 c = search inside-close

pub loop-b-smaller : goal.loop-b-smaller
loop-b-smaller c = search test-less

pub loop-b-preserved : goal.loop-b-preserved
loop-b-preserved c = search inside-more

pub returns : goal.returns
returns c = search inside-rest
