-- A line between CHARMAP and END CHARMAP, from its first place on: what it does to what is given (Rattle.rules.specs.Charmap).
use Rattle.std.specs.Prelude.{◌≡◌, Bool, true, false, List, [], ℕ, ◌+◌, ◌≤◌, ◌<◌, length, drop, Err, Ok, Result}
use Rattle.rules.specs.Lines as paper
use Rattle.rules.specs.Lines.{Scan, line_of}
use Rattle.rules.specs.Charmap.{Given, Mapping, MapOutcome, leaves, body_line, map_signs}
use Rattle.base_units.specs.Numbers.{number_of}
use Rattle.text_lines.specs.declared.Signs.{Signs}
use Rattle.charmap_body.specs.Outcomes.{Holds}
use Rattle.base_units.specs.declared.Refusal.{Refusal}

-- the two characters in force, and whether their lines have stood
abbrev pub chars_of : Signs → Bool → Bool → paper.Chars
chars_of g c e = record { comment = g.comment; escape = g.escape; comment_set = c; escape_set = e }

-- after CHARMAP; closed: after END CHARMAP too
abbrev pub in_body : paper.Chars → Bool → List Given → Mapping
in_body chars closed gs = record { chars = chars; opened = true; closed = closed; given = gs }

-- what is in force for the line
abbrev pub body_signs : Signs → paper.Signs
body_signs g = map_signs (in_body (chars_of g false false) false [])

-- the line that begins at a place
abbrev pub line_at : Signs → List ℕ → ℕ → Scan
line_at g src at = line_of (body_signs g) (drop at src)

-- its outcome
abbrev pub outcome_at : Signs → List ℕ → ℕ → paper.Chars → List Given → MapOutcome
outcome_at g src at chars gs = body_line (in_body chars false gs) (line_at g src at).marks

-- The place after the line, and its LFs.
pub record Spans (g : Signs) (src : List ℕ) (at next feeds : ℕ) : Type 0 where
  pub end : at + (line_at g src at).size ≡ next
  pub fed : (line_at g src at).feeds ≡ feeds
  pub few : at + feeds ≤ next
  pub to : next ≤ length src
  pub on : at < length src → at < next

-- ## What a line does

-- With no refusal: what is given after it, which the area then holds.
pub record Goes (g : Signs) (src : List ℕ) (at : ℕ) (after : List ℕ) (closed : Bool) (chars : paper.Chars) (gs : List Given) : Type 0 where
  pub given : List Given
  pub outcome : outcome_at g src at chars gs ≡ leaves 0 (in_body chars closed given)
  pub holds : Holds after given

pub record LineGoes (g : Signs) (src : List ℕ) (at : ℕ) (area after : List ℕ) (closed : Bool) (next feeds : ℕ) : Type 0 where
  pub line : Spans g src at next feeds
  pub goes : (c e : Bool) (gs : List Given) → Holds area gs → Goes g src at after closed (chars_of g c e) gs

-- The refusal, which is one; the area is as it was.
pub record LineRefused (g : Signs) (src : List ℕ) (at : ℕ) (area after : List ℕ) (n : ℕ) : Type 0 where
  pub refusal : (c e : Bool) (gs : List Given) → Holds area gs → (outcome_at g src at (chars_of g c e) gs).refusal ≡ n
  pub some : 0 < n
  pub untouched : after ≡ area

abbrev pub BodyIs : Signs → List ℕ → ℕ → List ℕ → List ℕ → Result (Bool × ℕ × ℕ) Refusal → Type 0
BodyIs g src at area after (Ok (closed, next, feeds)) = LineGoes g src at area after closed next feeds
BodyIs g src at area after (Err r) = LineRefused g src at area after (number_of r)
