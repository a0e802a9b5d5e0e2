use Rattle.charmap_coding.proofs.AcceptLaws.{answered, codes-count, ones-many, codes-few, accepts-short, accepts-codes, accepts-ones, accepts-each}
use mathlib.Core.Bool.{false≢true}
use mathlib.Core.Path.{sym, ◌∙◌}
use Rattle.charmap_coding.proofs.accepts.Goals as goal
use Rattle.charmap_coding.proofs.accepts.Goals.{then-codes_pass, else-codes_pass}

pub returns-then-area-lt512 : goal.returns-then-area-lt512
returns-then-area-lt512 c = search accepts-short

pub slice_bounds-codes-end : goal.slice_bounds-codes-end
slice_bounds-codes-end c = search codes-count

pub ones_pass-requires : goal.ones_pass-requires
ones_pass-requires c = search ones-many

pub one_each-requires-clause-codes_len : goal.one_each-requires-clause-codes_len
one_each-requires-clause-codes_len c = search (ones-many, codes-few)

pub one_each-requires-clause-ones_value : goal.one_each-requires-clause-ones_value
one_each-requires-clause-ones_value c = elim c.if-codes_pass.branch [ then-codes_pass w ↦ search answered | else-codes_pass w ↦ absurd (false≢true (sym w.if-codes_pass.false ∙ sym w.value-is ∙ c.if-ones_pass.true)) ]

pub returns-then-ones_pass : goal.returns-then-ones_pass
returns-then-ones_pass c = elim c.if-codes_pass.branch [ then-codes_pass w ↦ search accepts-each | else-codes_pass w ↦ absurd (false≢true (sym w.if-codes_pass.false ∙ sym w.value-is ∙ c.if-ones_pass.true)) ]

pub returns-else-ones_pass : goal.returns-else-ones_pass
returns-else-ones_pass c = elim c.if-codes_pass.branch [ then-codes_pass w ↦ search accepts-ones | else-codes_pass w ↦ search accepts-codes ]
