-- `pairs_run::read_with` is safe: its areas have the lengths that are asked for.
use borrow.Author.Rules.{rules}
use native.Mathlib.Omega.{arith}
use Rattle.pairs_run.proofs.read_with.Goals as goal

pub read_input-requires : goal.read_input-requires
read_input-requires g c = record {
  checked = search rules;
  out-room = search rules;
  piece-room = omega arith;
  before-room = omega arith;
  current-room = omega arith;
}
