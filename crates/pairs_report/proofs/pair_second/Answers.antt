-- `pairs_report::pair_second` meets its contract: one law for each answer of the decoding.
use borrow.Author.Rules.{rules}
use Rattle.pairs_report.proofs.PairLaws.{text-inside, text-length, text-string, second-granted, second-refused}
use Rattle.pairs_report.proofs.pair_second.Goals as goal

pub returns-in-Err : goal.returns-in-Err
returns-in-Err c = search second-refused

pub slice_bounds-pair_strings-end : goal.slice_bounds-pair_strings-end
slice_bounds-pair_strings-end c = search text-inside

pub slice_bounds-pair_strings-end-in-Ok : goal.slice_bounds-pair_strings-end-in-Ok
slice_bounds-pair_strings-end-in-Ok c = search text-length

pub pair_strings-requires : goal.pair_strings-requires
pair_strings-requires c = record {
  t_value = search rules;
  a_value = search (rules, text-string);
}

pub returns-in-Ok : goal.returns-in-Ok
returns-in-Ok c = search second-granted
