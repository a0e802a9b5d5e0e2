-- `text_names::put` meets its contract: a law for each answer.
use Rattle.text_names.proofs.PackLaws.{begun-fits, put-more, put-foul, put-long}
use borrow.Author.Rules.{rules}
use native.Mathlib.Omega.{arith}
use Rattle.text_names.proofs.put.Goals.{then-n-ge32-via-then-n-ge32, then-n-ge32-via-else-n-ge32+then-not-is_visible}
use Rattle.text_names.proofs.put.Goals as goal

pub overflow_add-key : goal.overflow_add-key
overflow_add-key c = search (begun-fits c.requires (search rules) c.placed-x.ensures)

pub returns-then-n-ge32 : goal.returns-then-n-ge32
returns-then-n-ge32 c = elim c.then-n-ge32.branch [
  | then-n-ge32-via-then-n-ge32 w ↦ search put-long
  | then-n-ge32-via-else-n-ge32+then-not-is_visible w ↦ search put-foul
]

pub returns : goal.returns
returns c = let a = c.args in
    put-more a.key.now a.n a.b (omega arith) c.is_visible.ensures c.if-not-is_visible.false c.placed-x.ensures
