-- What a refusal owns is only facts: for loops whose state holds one.
use denote.Enum.Enum.{Plainss}
use denote.Enum.Declared.{variants}
use Rattle.base_units.specs.contracts.Refusal as refusal

abbrev pub refusal-plain : Plainss (variants refusal.the_type)
refusal-plain = (tt, (tt, (tt, (tt, (tt, (tt, (tt, (tt, (tt, (tt, (tt, (tt, (tt, (tt, (tt, (tt, (tt, tt)))))))))))))))))
