-- What stands at a mark of the source. A mark v is a tagged place: 2 * place for a name, the place right after its `<`; 2 * place + 1 for
-- quotes, the place right after the opening `"`.
use Rattle.std.specs.Prelude.{◌≡◌, Bool, false, List, [], ◌∷◌, map, ℕ, ◌/◌, ◌%◌, ◌≤◌, length, eqb, if◌then◌else◌, None, Option, Some}
use Rattle.rules.specs.Text.{same}
use Rattle.rules.specs.Names.{char_shaped, code_of}
use Rattle.rules.specs.Lines.{in_name, quoted, quoted_name}
use Rattle.rules.specs.State.{Subject, character, named, undefined}
use Rattle.rules.specs.OrderLines.{subject_of, same_subject}
use Rattle.text_lines.specs.declared.Signs.{Signs}
use Rattle.text_lines.specs.declared.Spot.{Spot}
use Rattle.text_lines.specs.Stream.{marks_left}
use Rattle.text_tokens.specs.Left.{names_in, after_name}
use Rattle.text_names.specs.Named.{name_left, hash_of}
use Rattle.base_units.specs.declared.CodePoint.{CodePoint}

-- ## Spots of marks

abbrev pub name_spot : ℕ → Spot
name_spot at = record { at = at; mode = in_name; fresh = false }

abbrev pub quote_spot : ℕ → Spot
quote_spot at = record { at = at; mode = quoted; fresh = false }

-- ## What names and quotes mean

-- what the name at a spot means
abbrev pub subject_left : Signs → List ℕ → Spot → Subject
subject_left g src p = subject_of (name_left g src p)

-- the code of a name in quotes, 0 for one that is not shaped as a character
unfoldable pub char_of : List ℕ → ℕ
char_of n = if char_shaped n then code_of n else 0

-- the characters still to come in quotes
unfoldable pub chars_left : Signs → List ℕ → Spot → List ℕ
chars_left g src p = map char_of (names_in (marks_left g src p))

-- What can be declared: what a name means, or the characters of an element.
pub data Key : Type 0 where
  item : Subject → Key
  chars : List ℕ → Key

-- what stands at a mark
unfoldable pub key_at : Signs → List ℕ → ℕ → Key
key_at g src v = if eqb (v % 2) 0 then item (subject_left g src (name_spot (v / 2))) else chars (chars_left g src (quote_spot (v / 2)))

-- two are the same
unfoldable pub same_key : Key → Key → Bool
same_key (item a) (item b) = same_subject a b
same_key (item a) (chars ds) = false
same_key (chars cs) (item b) = false
same_key (chars cs) (chars ds) = same cs ds

-- ## A number for each, the same for the same

unfoldable pub hash_subject : Subject → ℕ
hash_subject (character c) = c % 16777216
hash_subject (named n) = hash_of n
hash_subject undefined = 0

unfoldable pub hash_key : Key → ℕ
hash_key (item a) = hash_subject a
hash_key (chars cs) = hash_of cs

-- ## What the readers of quotes give

-- The spot after a name in quotes.
pub record AfterName (g : Signs) (src : List ℕ) (p q : Spot) : Type 0 where
  pub names : names_in (marks_left g src q) ≡ names_in (after_name (marks_left g src p))
  pub mode : p.mode ≡ quoted_name → q.mode ≡ quoted
  pub to : q.at ≤ length src

-- The next character in quotes, and the spot after it.
pub record CharNext (g : Signs) (src : List ℕ) (p : Spot) (c : ℕ) (q : Spot) : Type 0 where
  pub chars : chars_left g src p ≡ c ∷ chars_left g src q
  pub mode : q.mode ≡ quoted
  pub to : q.at ≤ length src

abbrev pub NextIs : Signs → List ℕ → Spot → Option (CodePoint × Spot) → Type 0
NextIs g src p (Some (c, q)) = CharNext g src p c.0 q
NextIs g src p None = chars_left g src p ≡ []
