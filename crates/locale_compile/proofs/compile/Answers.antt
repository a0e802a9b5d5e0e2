-- `locale_compile::compile` meets its contract: 1 before the lines, then what the lines give, the work area cleared before and after.
use Rattle.locale_compile.proofs.CallLaws.{source-long, work-short, work-empty, whole-answer}
use Rattle.locale_compile.proofs.compile.Goals as goal

pub returns-then-src-gt1048576 : goal.returns-then-src-gt1048576
returns-then-src-gt1048576 c = search source-long

pub returns-then-work-src : goal.returns-then-work-src
returns-then-work-src c = search work-short

pub compile_lines-r-requires : goal.compile_lines-r-requires
compile_lines-r-requires c = search work-empty

pub returns : goal.returns
returns c = search whole-answer
