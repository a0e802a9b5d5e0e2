-- `work_store::keep_key` meets its contract: a name's numbers go to the row before, those of others to their own.
use mathlib.Core.Path.{◌≡◌, ap}
use Rattle.work_subjects.specs.Numbers.{kind_number}
use Rattle.work_store.proofs.SlotLaws.{name-kept, char-kept, chars-kept}
use Rattle.work_store.proofs.keep_key.Goals as goal

pub returns-in-Name : goal.returns-in-Name
returns-in-Name c = let e : kind_number c.args.kind ≡ 1 = ap kind_number c.in-Name.is in search name-kept

pub returns-in-Character : goal.returns-in-Character
returns-in-Character c = let e : kind_number c.args.kind ≡ 0 = ap kind_number c.in-Character.is in search char-kept

pub returns-in-Chars : goal.returns-in-Chars
returns-in-Chars c = let e : kind_number c.args.kind ≡ 2 = ap kind_number c.in-Chars.is in search chars-kept
