-- `locale_compile::fill_table` meets its contract: what is built is what the paper compiles.
use Rattle.locale_compile.proofs.TableLaws.{table-buildable, done-answer}
use Rattle.locale_compile.proofs.fill_table.Goals as goal

pub build_table-requires : goal.build_table-requires
build_table-requires c = search table-buildable

pub returns : goal.returns
returns c = search done-answer
