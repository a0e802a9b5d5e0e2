-- The lines after LC_COLLATE: from the ends of the lines outside it to what the whole source is.
use Rattle.std.specs.Prelude.{Err, Ok, Result}
use mathlib.Core.Path.{◌≡◌, refl, ap, ◌∙◌, subst}
use mathlib.Core.Bool.{Bool, true, false}
use mathlib.Core.List.{List}
use Prim.Native.Nat.{ℕ}
use Rattle.base_lists.proofs.Bools.{clash}
use Rattle.base_units.specs.declared.Refusal.{Refusal}
use Rattle.base_units.specs.Numbers.{number_of}
use Rattle.text_specials.specs.declared.Chars.{Chars}
use Rattle.locale_outside.specs.Outside.{signs_of}
use Rattle.locale_outside.specs.declared.Outers.{Outers}
use Rattle.locale_outside.specs.declared.Outers.TheVariants as outers
use Rattle.locale_outside.specs.Stretches.{Opens, Fails, EndsAll, OutersIs}
use Rattle.locale_outside.proofs.EndLaws.{ends-whole, ends-early}
use Rattle.locale_sheet.specs.declared.Sheet.{Sheet}
use Rattle.locale_source.specs.Whole.{EndsAfter, RefusedAfter}

-- an answer by what it holds
pub answered : {o : Result Outers (Refusal × ℕ)} {x y : Outers} → o ≡ Ok x → x ≡ y → o ≡ Ok y
answered e f = e ∙ ap (λ (x : Outers). Ok x) f

module _ (c : Chars) (src : List ℕ) (at number : ℕ) (o : Result Outers (Refusal × ℕ)) (v : OutersIs c false true src at number o) where
  -- it is not opened twice
  pub after-collate : {h : Chars} {next n r l : ℕ} → o ≡ Ok (outers.Collate h next n) → RefusedAfter c src at number r l
  after-collate {h} {next} {n} e =
      let y : Opens c false true src at number h next n = subst (OutersIs c false true src at number) e v in
      clash {a = true} refl y.once

  pub after-refused : {r : Refusal} {l : ℕ} → o ≡ Err (r, l) → RefusedAfter c src at number (number_of r) l
  after-refused {r} {l} e =
      let y : Fails c false true src at number (number_of r) l = subst (OutersIs c false true src at number) e v in
      record { run = y.run }

  module _ {h : Chars} {first : Bool} {n : ℕ} (e : o ≡ Ok (outers.End h first n)) where
    there : EndsAll c false true src at number h first n
    there = subst (OutersIs c false true src at number) e v

    pub after-early : first ≡ true → RefusedAfter c src at number 3 n
    after-early f = record { run = λ s u. ends-early (there.ends s u) f }

    pub after-whole : (sh : Sheet) → first ≡ false → EndsAfter c src sh at number (signs_of c) sh
    after-whole sh f = record {
      signs = refl;
      sheet = refl;
      ends = λ s u. let y = there.ends s u in record { last = y.state; run = ends-whole y f refl; keeps = y.keeps };
    }
