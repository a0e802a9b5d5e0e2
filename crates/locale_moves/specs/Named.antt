-- The line reorder-after as code reads it: from the spot after its first word on, with what is declared and ordered so far in the work area.
use Rattle.work_store.specs.Store.{is_found}
use Rattle.base_units.specs.Numbers.{number_of}
use Rattle.base_units.specs.declared.Refusal.{Refusal}
use Rattle.std.specs.Prelude.{◌≡◌, List, [], ◌∷◌, ℕ, length, eqb, leb, if◌then◌else◌, Err, None, Ok, Option, Result, Some}
use Rattle.rules.specs.Text.{◌unless◌, lower, lowest}
use Rattle.rules.specs.Tokens.{name, Token, token_at, the_name, single, tokens_refusal}
use Rattle.rules.specs.Meaning.{Rule}
use Rattle.rules.specs.State.{Declaration, Subject, OrderLine}
use Rattle.rules.specs.OrderLines.{subject_of, rank_of}
use Rattle.text_lines.specs.declared.Signs.{Signs}
use Rattle.work_rows.specs.Cells.{cell}
use Rattle.work_order.specs.declared.Order.{Order}
use Rattle.work_order.specs.Links.{place_number}
use Rattle.locale_sheet.specs.Known.{mark_of, Known}

-- ## What the area holds

-- The area is known to hold something.
pub record Holding (g : Signs) (src w : List ℕ) : Type 0 where
  pub order : Order
  pub rules : List Rule
  pub n : ℕ
  pub declared : List Declaration
  pub ordered : List OrderLine
  pub known : Known g src w order rules n declared ordered

-- what is found, if it has an order line
abbrev pub line_found : List ℕ → Option ℕ → Option ℕ
line_found w (Some v) = if eqb (cell w v place_number) 0 then None else Some v
line_found w None = None

-- f is the mark of the order line of the subject x, or nothing where it has none, whatever the area is known to hold.
pub record LineOf (g : Signs) (src w : List ℕ) (x : Subject) (f : Option ℕ) : Type 0 where
  pub is : (o : Order) (rs : List Rule) (n : ℕ) (cs : List Declaration) (ls : List OrderLine) (k : Known g src w o rs n cs ls)
      → line_found w (mark_of (length src) k.ds x) ≡ f

-- ## The line

-- what it names
abbrev pub subject_named : List Token → Subject
subject_named os = subject_of (the_name (token_at os 0))

-- the lowest refusal of a line that stands after the order
unfoldable pub after_refusal : List OrderLine → List Token → ℕ
after_refusal ls os = lower (tokens_refusal os) (lowest (3 unless single name os ∷ 6 unless leb 1 (rank_of ls (subject_named os)) ∷ []))

-- It is not refused, and m is the mark of the line that it names.
pub record NamedAt (g : Signs) (src w : List ℕ) (os : List Token) (m : ℕ) : Type 0 where
  pub refusal : (o : Order) (rs : List Rule) (n : ℕ) (cs : List Declaration) (ls : List OrderLine) → Known g src w o rs n cs ls → after_refusal ls os ≡ 0
  pub line : LineOf g src w (subject_named os) (Some m)

-- It is refused with r.
pub record NamedNot (g : Signs) (src w : List ℕ) (os : List Token) (r : ℕ) : Type 0 where
  pub refusal : (o : Order) (rs : List Rule) (n : ℕ) (cs : List Declaration) (ls : List OrderLine) → Known g src w o rs n cs ls → after_refusal ls os ≡ r
  pub some : r ≡ 0 → ⊥

abbrev pub NamedIs : Signs → List ℕ → List ℕ → List Token → Result ℕ Refusal → Type 0
NamedIs g src w os (Ok m) = NamedAt g src w os m
NamedIs g src w os (Err r) = NamedNot g src w os (number_of r)

-- the answer for a name alone, by the mark of its order line and the number of its token's refusal, 0 for none
abbrev pub NamedWith : Option ℕ → ℕ → Result ℕ Refusal → Type 0
NamedWith f r (Ok m) = (f ≡ Some m) × (r ≡ 0)
NamedWith f r (Err x) = number_of x ≡ lower r (6 unless is_found f)
