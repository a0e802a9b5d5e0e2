-- The run over a charmap's lines, as far as its functions read it (Rattle.rules.specs.Charmap). No public contract cites this file.
use Rattle.std.specs.Prelude.{◌≡◌, Bool, true, false, List, [], ℕ, suc, ◌≤◌, length, drop, Err, Ok, Result}
use Rattle.rules.specs.Charmap.{Given, Mapping, MapEnded, map_ended, map_start, map_lines_from, area_of}
use Rattle.base_units.specs.declared.Refusal.{Refusal}
use Rattle.base_units.specs.Numbers.{number_of}
use Rattle.text_specials.specs.declared.Chars.{Chars}
use Rattle.text_specials.specs.Signed.{Visible}
use Rattle.charmap_header.specs.Head.{signs_of, head_with}
use Rattle.charmap_body.specs.Outcomes.{Holds}
use Rattle.charmap_body.specs.Body.{chars_of, in_body}

-- the run over all lines
abbrev pub whole_run : List ℕ → MapEnded
whole_run src = map_lines_from map_start 1 0 src

-- the run over those after CHARMAP, from a place and a line's number on
abbrev pub body_run : List ℕ → Chars → ℕ → ℕ → MapEnded
body_run src h at number = map_lines_from (head_with h true) number 0 (drop at src)

-- ## Up to CHARMAP

-- The run goes on behind CHARMAP; at most each byte before the place was an LF.
pub record Opened (src : List ℕ) (h : Chars) (at number : ℕ) : Type 0 where
  pub same : whole_run src ≡ body_run src h at number
  pub to : at ≤ length src
  pub few : number ≤ suc at

abbrev pub HeaderIs : List ℕ → Result (Chars × ℕ × ℕ) (Refusal × ℕ) → Type 0
HeaderIs src (Ok (h, at, number)) = Opened src h at number
HeaderIs src (Err (r, line)) = whole_run src ≡ map_ended (number_of r) line []

-- The lines before a place are read: the run goes on from there. At most each byte before the place was an LF.
pub record Heads (src : List ℕ) (h : Chars) (at number : ℕ) : Type 0 where
  pub same : whole_run src ≡ map_lines_from (head_with h false) number 0 (drop at src)
  pub to : at ≤ length src
  pub few : number ≤ suc at
  pub visible : Visible (signs_of h)

-- ## Up to END CHARMAP

-- Nothing is given yet.
pub record Opens (src : List ℕ) (at number : ℕ) (area : List ℕ) : Type 0 where
  pub short : length src ≤ 1048576
  pub to : at ≤ length src
  pub few : number ≤ suc at
  pub none : area ≡ area_of []

-- The run ends with what the area holds.
pub record Closes (run : MapEnded) (after : List ℕ) : Type 0 where
  pub given : List Given
  pub ended : run ≡ map_ended 0 0 given
  pub holds : after ≡ area_of given

-- by how a run ends
abbrev pub RunIs : MapEnded → List ℕ → Result Unit (Refusal × ℕ) → Type 0
RunIs run after (Ok tt) = Closes run after
RunIs run after (Err (r, line)) = run ≡ map_ended (number_of r) line []

abbrev pub EntriesAre : List ℕ → Chars → ℕ → ℕ → List ℕ → Result Unit (Refusal × ℕ) → Type 0
EntriesAre src h at number after r = RunIs (body_run src h at number) after r

-- the state after CHARMAP with what is given
abbrev pub body_state : Chars → Bool → List Given → Mapping
body_state h closed gs = in_body (chars_of (signs_of h) h.commented h.escaped) closed gs

-- The lines before a place are read, and the area holds what they give.
pub record Reads (src : List ℕ) (h : Chars) (from first : ℕ) (area : List ℕ) (at number : ℕ) : Type 0 where
  pub given : List Given
  pub holds : Holds area given
  pub same : body_run src h from first ≡ map_lines_from (body_state h false given) number 0 (drop at src)
  pub to : at ≤ length src
  pub few : number ≤ suc at

-- ## All lines

abbrev pub SourceIs : List ℕ → List ℕ → Result Unit (Refusal × ℕ) → Type 0
SourceIs src after r = RunIs (whole_run src) after r
