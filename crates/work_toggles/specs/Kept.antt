-- The toggles of the paper (Rattle.rules.specs.Conditionals) as a lent area keeps them, and what is told of them.
use Rattle.std.specs.Prelude.{◌≡◌, Bool, true, false, ◌&&◌, ◌||◌, List, [], ◌∷◌, map, ℕ, ◌+◌, ◌*◌, ◌/◌, ◌%◌, ◌≤◌, ◌<◌, length, get_or, take, drop, eqb, leb, ltb, if◌then◌else◌, None, Option, Some}
use Rattle.rules.specs.Text.{every, one_of, ◌unless◌, lowest}
use Rattle.rules.specs.State.{Toggle}
use Rattle.rules.specs.Conditionals.{is_toggle_byte, is_toggle, turned}
use Rattle.text_lines.specs.declared.Signs.{Signs}
use Rattle.text_lines.specs.declared.Spot.{Spot}
use Rattle.text_lines.specs.Stream.{marks_left, line_start}
use Rattle.text_tokens.specs.Left.{word_in}
use Rattle.work_toggles.specs.Candidates.{takes, candidate}
use Rattle.work_toggles.specs.declared.Shape.{Shape}

-- ## Toggles in an area

-- the bytes of the word at a spot
abbrev pub word_left : Signs → List ℕ → Spot → List ℕ
word_left g src p = word_in (marks_left g src p)

-- a number stands for a toggle that is defined
abbrev pub is_defined : ℕ → Bool
is_defined v = eqb (v % 2) 1

-- a toggle, named so
abbrev pub toggle : List ℕ → Bool → Toggle
toggle w on = record { label = w; on = on }

-- the toggle that a number stands for
unfoldable pub toggle_at : Signs → List ℕ → ℕ → Toggle
toggle_at g src v = toggle (word_left g src (line_start (v / 2))) (is_defined v)

-- the number that stands for the toggle whose word begins at a place
unfoldable pub stored_as : ℕ → Bool → ℕ
stored_as at on = if on then at * 2 + 1 else at * 2

-- the first n from a place of the area on
unfoldable pub toggles_in : Signs → List ℕ → List ℕ → ℕ → ℕ → List Toggle
toggles_in g src work base n = map (toggle_at g src) (take n (drop base work))

-- the word of the toggle that a number stands for
abbrev pub word_of : Signs → List ℕ → ℕ → List ℕ
word_of g src v = word_left g src (line_start (v / 2))

-- A word that can be a toggle's.
pub record Proper (w : List ℕ) : Type 0 where
  pub clean : every is_toggle_byte w ≡ true
  pub short : length w ≤ 32

-- The area has room for 16 and, behind them, for their decisions; every word begins inside the source, and its candidate is the toggle itself.
pub record Kept (g : Signs) (src work : List ℕ) (base n : ℕ) : Type 0 where
  pub room : base + 32 ≤ length work
  pub few : n ≤ 16
  pub inside : (i : ℕ) → i < n → get_or work (base + i) 0 / 2 ≤ length src
  pub proper : (i : ℕ) → i < n → Proper (word_of g src (get_or work (base + i) 0))
  pub decided : (i : ℕ) → i < n → candidate (word_of g src (get_or work (base + i) 0)) work (base + 16) n ≡ i

-- ## Which toggle

-- what stands behind the last toggle
abbrev pub no_toggle : Toggle
no_toggle = toggle [] false

-- The first toggle of a word stands there.
pub record First (w : List ℕ) (ts : List Toggle) (i : ℕ) : Type 0 where
  pub inside : i < length ts
  pub there : is_toggle w (get_or ts i no_toggle) ≡ true
  pub before : one_of (is_toggle w) (take i ts) ≡ false

abbrev pub PlaceIs : List ℕ → List Toggle → Option ℕ → Type 0
PlaceIs w ts (Some i) = First w ts i
PlaceIs w ts None = one_of (is_toggle w) ts ≡ false

-- The toggle of a word stands there, or is to be put there, behind the last.
pub record Slot (w : List ℕ) (ts : List Toggle) (i : ℕ) : Type 0 where
  pub inside : i ≤ length ts
  pub there : i < length ts → is_toggle w (get_or ts i no_toggle) ≡ true
  pub before : one_of (is_toggle w) (take i ts) ≡ false

-- ## Turning a toggle

-- one of the toggles is the word's, or there is room for one more
abbrev pub is_free : List ℕ → List Toggle → Bool
is_free w ts = one_of (is_toggle w) ts || ltb (length ts) 16

-- The word at a spot can be that of one more toggle.
pub record IsNew (g : Signs) (src work : List ℕ) (base n : ℕ) (q : Spot) : Type 0 where
  pub kept : Kept g src work base n
  pub inside : q.at ≤ length src
  pub room : n < 16
  pub proper : Proper (word_left g src q)
  pub other : one_of (is_toggle (word_left g src q)) (toggles_in g src work base n) ≡ false

-- A decision for one more toggle, of a word w: it makes that one the candidate of w, and leaves each word that is kept to its own toggle.
pub record Decides (g : Signs) (src work : List ℕ) (base n : ℕ) (w : List ℕ) (d : ℕ) : Type 0 where
  pub own : (if takes w (candidate w work (base + 16) n) d then n else candidate w work (base + 16) n) ≡ n
  pub others : (i : ℕ) → i < n → takes (word_of g src (get_or work (base + i) 0)) i d ≡ false

-- The toggle whose word begins at a place may be turned.
pub record MayTurn (g : Signs) (src work : List ℕ) (base n at : ℕ) : Type 0 where
  pub kept : Kept g src work base n
  pub inside : at ≤ length src
  pub proper : Proper (word_left g src (line_start at))
  pub short : length src ≤ 1048576
  pub free : is_free (word_left g src (line_start at)) (toggles_in g src work base n) ≡ true

-- It is turned: the toggles after it, how many they are, and that the rest of the area is as before.
pub record Turned (g : Signs) (src work after : List ℕ) (base n m at : ℕ) (on : Bool) : Type 0 where
  pub toggles : toggles_in g src after base m ≡ turned (word_left g src (line_start at)) on (toggles_in g src work base n)
  pub kept : Kept g src after base m
  pub before : (i : ℕ) → i < base → get_or after i 0 ≡ get_or work i 0
  pub behind : (i : ℕ) → base + 32 ≤ i → get_or after i 0 ≡ get_or work i 0
  pub long : length after ≡ length work

-- ## Refusals

-- What a word is like, as a toggle's.
pub record ShapeIs (w : List ℕ) (r : Shape) : Type 0 where
  pub clean : every is_toggle_byte w ≡ r.clean
  pub short : leb (length w) 32 ≡ r.short

-- the paper's toggle_refusal of a line whose one operand is the word
unfoldable pub refusal_for : List ℕ → List Toggle → ℕ
refusal_for w known = lowest (3 unless every is_toggle_byte w ∷ 7 unless (leb (length w) 32 && is_free w known) ∷ [])
