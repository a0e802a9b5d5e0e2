-- Names of characters, one and all those in quotes.
use Rattle.std.specs.Prelude.{None, Option, Some, ℕ}
use mathlib.Core.Path.{◌≡◌, refl, sym, ◌∙◌, subst}
use mathlib.Core.Bool.{Bool, true, false}
use mathlib.Core.List.{List, []}
use Prim.Native.Nat.{ℕ, ◌≤◌, ◌<◌}
use native.Mathlib.Omega.{arith}
use lib.ListN.{length}
use Rattle.rules.specs.Text.{every}
use Rattle.rules.specs.Names.{is_character, is_char_name}
use Rattle.rules.specs.Lines.{quoted}
use Rattle.base_units.specs.declared.Refusal.{Refusal}
use Rattle.text_lines.specs.declared.Signs.{Signs}
use Rattle.text_lines.specs.declared.Spot.{Spot}
use Rattle.text_lines.specs.Stream.{marks_left}
use Rattle.text_tokens.specs.Left.{is_inside, names_from, names_in, ClosingIs}
use Rattle.base_units.specs.declared.CodePoint.{CodePoint}
use Rattle.text_names.specs.Named.{name_left, CharIs, CodeIs, NameAt, NamedIs}
use Rattle.text_lines.proofs.LineLaws.{ends-source}
use native.Mathlib.Nat.{le_refl}
use Rattle.work_subjects.specs.Keys.{quote_spot, AfterName}
use Rattle.work_subjects.proofs.CharsLaws.{after-closed, after_open}

-- ## One name

module _ (n : List ℕ) {c : Option CodePoint} (v : CodeIs n c) where
  pub char_is : {x : CodePoint} {t : Bool} → c ≡ Some x → t ≡ is_character x.0 → t ≡ is_char_name n
  unfolding is_char_name
  char_is {x} e f = let z : CharIs n x.0 = subst (CodeIs n) e v in f ∙ sym (rw (z.shaped, ← z.code))

  pub char-not : c ≡ None → false ≡ is_char_name n
  unfolding is_char_name
  char-not e = let z = subst (CodeIs n) e v in sym (rw z)

-- ## All in quotes

-- Those from p to q are names of characters.
pub record Passed (g : Signs) (src : List ℕ) (p q : Spot) : Type 0 where
  pub rest : every is_char_name (names_in (marks_left g src p)) ≡ every is_char_name (names_in (marks_left g src q))
  pub mode : q.mode ≡ quoted
  pub to : q.at ≤ length src

pub passed_none : (g : Signs) (src : List ℕ) (p : Spot) → p.at ≤ length src → p.mode ≡ quoted → Passed g src p p
passed_none g src p h m = record { rest = refl; mode = m; to = h }

module _ {g : Signs} {src : List ℕ} {p q : Spot} (v : Passed g src p q) {n : Option Spot} (w : NamedIs g src q n) where
  pub passed-end : n ≡ None → true ≡ every is_char_name (names_in (marks_left g src p))
  unfolding every
  passed-end e = let z : names_in (marks_left g src q) ≡ [] = subst (NamedIs g src q) e w in sym (v.rest ∙ rw z)

  module _ {i : Spot} (e : n ≡ Some i) where
    there : NameAt g src q i
    there = subst (NamedIs g src q) e w

    pub passed_to : i.at ≤ length src
    passed_to = there.to

    pub passed-inside : is_inside i.mode ≡ true
    passed-inside = rw (there.mode v.mode)

    module _ {b : Bool} (f : b ≡ is_char_name (name_left g src i)) where
      pub passed-not : b ≡ false → false ≡ every is_char_name (names_in (marks_left g src p))
      unfolding every
      passed-not h = sym (v.rest ∙ rw (there.names, sym f ∙ h))

      module _ (h : b ≡ true) where
        beyond : {y : Spot} → AfterName g src i y → every is_char_name (names_in (marks_left g src p)) ≡ every is_char_name (names_in (marks_left g src y))
        unfolding every
        beyond a = v.rest ∙ rw (there.names, sym f ∙ h, a.names)

        module _ {c : Option (Option Refusal × Spot)} (k : ClosingIs g src i c) where
          pub passed-more : {r : Option Refusal} {y : Spot} → c ≡ Some (r, y) → Passed g src p y
          passed-more d = let a = after-closed g src i k d in record { rest = beyond a; mode = a.mode (there.mode v.mode); to = a.to }

          pub passed-less : {r : Option Refusal} {y : Spot} → c ≡ Some (r, y) → length (names_in (marks_left g src y)) < length (names_in (marks_left g src q))
          passed-less d = let a = after-closed g src i k d in rw (there.names, a.names) (omega arith)

          pub passed-open : c ≡ None → true ≡ every is_char_name (names_in (marks_left g src p))
          unfolding every names_from
          passed-open d =
              let a = after_open g src i k d in
              let z : marks_left g src (quote_spot (length src)) ≡ [] = (ends-source g src (quote_spot (length src)) (le_refl (length src)) (le_refl (length src))).none in
              sym (beyond a ∙ rw z)
