-- `work_subjects::narrowed` meets its contract.
use mathlib.Core.Path.{refl}
use Rattle.work_subjects.specs.Numbers.{narrow}
use Rattle.work_subjects.proofs.SqueezeLaws.{narrow-small}
use Rattle.work_subjects.proofs.narrowed.Goals as goal

pub returns : goal.returns
unfolding narrow
returns c = (refl, narrow-small c.args.q)
