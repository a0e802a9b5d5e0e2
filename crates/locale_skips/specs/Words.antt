-- The words of a line that is passed over (Rattle.rules.specs.Tokens), as code reads them from a spot on: its marks with no escape before
-- them, and runs of those between blanks.
use Rattle.std.specs.Prelude.{◌≡◌, Bool, false, ◌&&◌, List, [], ◌∷◌, ℕ, ◌≤◌, ◌<◌, length, get_or, eqb, if◌then◌else◌, None, Option, Some}
use Rattle.rules.specs.Text.{same}
use Rattle.rules.specs.Names.{is_blank}
use Rattle.rules.specs.Tokens.{without_blanks, plain_marks, words_of}
use Rattle.text_lines.specs.declared.Signs.{Signs}
use Rattle.text_lines.specs.declared.Spot.{Spot}
use Rattle.text_lines.specs.Stream.{marks_left}

-- the marks still to come with no escape before them
abbrev pub plain_left : Signs → List ℕ → Spot → List ℕ
plain_left g src p = plain_marks (marks_left g src p)

-- the words still to come
abbrev pub words_left : Signs → List ℕ → Spot → List (List ℕ)
words_left g src p = words_of [] (plain_left g src p)

-- the first word still to come, empty where there is none
abbrev pub first_word : Signs → List ℕ → Spot → List ℕ
first_word g src p = get_or (words_left g src p) 0 []

-- the marks up to a blank
unfoldable pub run_in : List ℕ → List ℕ
run_in [] = []
run_in (m ∷ ms) =
    let r : List ℕ = run_in ms in
    if is_blank m then [] else m ∷ r

-- from that blank on
unfoldable pub after_run : List ℕ → List ℕ
after_run [] = []
after_run (m ∷ ms) =
    let r : List ℕ = after_run ms in
    if is_blank m then m ∷ ms else r

-- ## What the readers give

-- A mark with no escape before it, and the spot after it.
pub record PlainMark (g : Signs) (src : List ℕ) (p : Spot) (m : ℕ) (q : Spot) : Type 0 where
  pub marks : plain_left g src p ≡ m ∷ plain_left g src q
  pub on : p.at < q.at
  pub to : q.at ≤ length src

abbrev pub PlainIs : Signs → List ℕ → Spot → Option (ℕ × Spot) → Type 0
PlainIs g src p (Some (m, q)) = PlainMark g src p m q
PlainIs g src p None = plain_left g src p ≡ []

-- The spot after the blanks that come next.
pub record Skips (g : Signs) (src : List ℕ) (p q : Spot) : Type 0 where
  pub marks : plain_left g src q ≡ without_blanks (plain_left g src p)
  pub to : q.at ≤ length src

-- A run that is w, and the spot after it.
pub record RunIs (g : Signs) (src w : List ℕ) (p q : Spot) : Type 0 where
  pub bytes : run_in (plain_left g src p) ≡ w
  pub after : plain_left g src q ≡ after_run (plain_left g src p)
  pub to : q.at ≤ length src

abbrev pub ComparedIs : Signs → List ℕ → List ℕ → Spot → Option Spot → Type 0
ComparedIs g src w p (Some q) = RunIs g src w p q
ComparedIs g src w p None = same (run_in (plain_left g src p)) w ≡ false

-- the words still to come are these two
abbrev pub are_two : List (List ℕ) → List ℕ → List ℕ → Bool
are_two ws a b = eqb (length ws) 2 && same (get_or ws 0 []) a && same (get_or ws 1 []) b
