-- `locale_compile::compile_lines` meets its contract: a refused line is the answer, else what follows the last line.
use Rattle.locale_compile.proofs.CallLaws.{source-whole, refused-line}
use Rattle.locale_compile.proofs.compile_lines.Goals as goal

pub returns-in-Err : goal.returns-in-Err
returns-in-Err c = search refused-line

pub finish-requires : goal.finish-requires
finish-requires c = search source-whole
