-- `locale_elements::element_fault` meets its contract: a law for each answer.
use mathlib.Core.Path.{◌≡◌, ◌∙◌}
use mathlib.Core.Bool.{true, false}
use Rattle.work_store.specs.Store.{is_found}
use Rattle.locale_elements.proofs.FaultLaws.{found-some, fault-name, fault-names, fault-same, fault-short, fault-long, fault-none}
use Rattle.locale_elements.proofs.element_fault.Goals as goal
use Rattle.locale_elements.proofs.element_fault.Goals.{else-n-ge2-via-then-n-ge2+else-n-le4, else-n-ge2-via-else-n-ge2}

pub returns-then-not-is_new : goal.returns-then-not-is_new
returns-then-not-is_new c = search fault-name

pub returns-then-not-all_characters : goal.returns-then-not-all_characters
returns-then-not-all_characters c = search fault-names

pub returns-then-is_some : goal.returns-then-is_some
returns-then-is_some c =
    let e : is_found c.find.result ≡ true = found-some c.find.result c.is_some.ensures ∙ c.if-is_some.true in
    search fault-same

pub returns-then-n-le4 : goal.returns-then-n-le4
returns-then-n-le4 c =
    let e : is_found c.find.result ≡ false = found-some c.find.result c.is_some.ensures ∙ c.if-is_some.false in
    search fault-none

pub returns-else-n-ge2 : goal.returns-else-n-ge2
returns-else-n-ge2 c =
    let e : is_found c.find.result ≡ false = found-some c.find.result c.is_some.ensures ∙ c.if-is_some.false in
    elim c.else-n-ge2.branch [ else-n-ge2-via-then-n-ge2+else-n-le4 w ↦ search fault-long | else-n-ge2-via-else-n-ge2 w ↦ search fault-short ]
