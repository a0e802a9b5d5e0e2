-- `work_store::same_kept` meets its contract: a name's numbers stand in the row before, those of others in their own.
use mathlib.Core.Path.{◌≡◌, ap}
use Rattle.work_subjects.specs.Numbers.{kind_number}
use Rattle.work_store.proofs.SlotLaws.{kept-name, kept-other, kept-char, kept-chars}
use Rattle.work_store.proofs.same_kept.Goals as goal

pub returns-then-work-before : goal.returns-then-work-before
returns-then-work-before c = let e : kind_number c.args.kind ≡ 1 = ap kind_number c.in-Name.is in search kept-name

pub returns-else-work-before : goal.returns-else-work-before
returns-else-work-before c = let e : kind_number c.args.kind ≡ 1 = ap kind_number c.in-Name.is in search kept-other

pub returns-in-Character : goal.returns-in-Character
returns-in-Character c = let e : kind_number c.args.kind ≡ 0 = ap kind_number c.in-Character.is in search kept-char

pub returns-in-Chars : goal.returns-in-Chars
returns-in-Chars c = let e : kind_number c.args.kind ≡ 2 = ap kind_number c.in-Chars.is in search kept-chars
