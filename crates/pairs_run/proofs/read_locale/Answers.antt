-- `pairs_run::read_locale` meets its contract: a file that is too long is refused, any other is compiled.
use Rattle.pairs_run.proofs.OpenLaws.{locale-long, locale-part, locale-read}
use Rattle.pairs_run.proofs.read_locale.Goals as goal

pub returns-then-src-gt8192 : goal.returns-then-src-gt8192
returns-then-src-gt8192 c = search locale-long

pub slice_bounds-compile-end-2 : goal.slice_bounds-compile-end-2
slice_bounds-compile-end-2 c = search locale-part

pub returns : goal.returns
returns c = search locale-read
