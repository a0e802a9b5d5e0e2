-- `locale_levels::well_placed` meets its contract.
use Rattle.locale_levels.proofs.JoinLaws.{placed-quote, placed-after, placed-free}
use Rattle.locale_levels.proofs.well_placed.Goals as goal

pub returns-then-kind-eq-QUOTE : goal.returns-then-kind-eq-QUOTE
returns-then-kind-eq-QUOTE c = search placed-quote

pub returns-then-held : goal.returns-then-held
returns-then-held c = search placed-after

pub returns-else-held : goal.returns-else-held
returns-else-held c = search placed-free
