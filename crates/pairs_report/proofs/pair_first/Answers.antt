-- `pairs_report::pair_first` meets its contract: one law for each answer of the decoding.
use borrow.Author.Rules.{rules}
use Rattle.pairs_report.proofs.PairLaws.{text-inside, text-length, text-string, first-granted, first-refused}
use Rattle.pairs_report.proofs.pair_first.Goals as goal

pub returns-in-Err : goal.returns-in-Err
returns-in-Err c = search first-refused

pub slice_bounds-pair_second-end : goal.slice_bounds-pair_second-end
slice_bounds-pair_second-end c = search text-inside

pub slice_bounds-pair_second-end-in-Ok : goal.slice_bounds-pair_second-end-in-Ok
slice_bounds-pair_second-end-in-Ok c = search text-length

pub pair_second-requires : goal.pair_second-requires
pair_second-requires c = record {
  t_value = search rules;
  x_value = search (text-string, rules);
}

pub returns-in-Ok : goal.returns-in-Ok
returns-in-Ok c = search first-granted
