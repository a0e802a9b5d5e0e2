-- What a name means, from the code that its reader gives.
use Rattle.std.specs.Prelude.{None, Option, Some, unwrap_or}
use mathlib.Core.Path.{◌≡◌, refl, sym, ap, ◌∙◌, subst}
use mathlib.Core.Bool.{false}
use mathlib.Core.List.{List}
use Prim.Native.Nat.{ℕ}
use Rattle.rules.specs.Names.{char_shaped}
use Rattle.rules.specs.State.{character, named}
use Rattle.rules.specs.OrderLines.{subject_of}
use Rattle.base_units.specs.declared.CodePoint.{CodePoint}
use Rattle.text_names.specs.Named.{CharIs, CodeIs}
use Rattle.work_subjects.specs.Keys.{char_of}

module _ (n : List ℕ) {c : Option CodePoint} (w : CodeIs n c) where
  shaped : {x : CodePoint} → c ≡ Some x → CharIs n x.0
  shaped e = subst (CodeIs n) e w

  other : c ≡ None → char_shaped n ≡ false
  other e = subst (CodeIs n) e w

  char-code : {x : CodePoint} → c ≡ Some x → x.0 ≡ char_of n
  unfolding char_of
  char-code e = let k = shaped e in k.code ∙ sym (rw k.shaped)

  char-none : c ≡ None → 0 ≡ char_of n
  unfolding char_of
  char-none e = sym (rw (other e))

  pub subject-char : {x : CodePoint} → c ≡ Some x → subject_of n ≡ character x.0
  unfolding subject_of
  subject-char e = let k = shaped e in rw k.shaped (ap character (sym k.code))

  pub subject-name : c ≡ None → subject_of n ≡ named n
  unfolding subject_of
  subject-name e = rw (other e)

-- the code that is told, or 0
pub char-or_none : (n : List ℕ) (c : Option CodePoint) → CodeIs n c → {x : CodePoint} → x ≡ unwrap_or c (record { 0 = 0 }) → x.0 ≡ char_of n
char-or_none n None w e = rw e (char-none n {c = None} w refl)
char-or_none n (Some y) w e = rw e (char-code n {c = Some y} w refl)
