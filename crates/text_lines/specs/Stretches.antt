-- Stretches of a source that a line passes with nothing to be told of them: no end, no LF, no byte that is not text.
use Rattle.std.specs.Prelude.{◌≡◌, Bool, List, ℕ, ◌+◌, ◌≤◌, ◌<◌, length, get_or}
use Rattle.rules.specs.Text.{every}
use Rattle.rules.specs.Tokens.{is_text}
use Rattle.text_lines.specs.declared.Signs.{Signs}
use Rattle.text_lines.specs.declared.Spot.{Spot}
use Rattle.text_lines.specs.Stream.{line_left, marks_left, end_of}

-- ## Bytes

-- The byte is no LF.
pub record NoFeed (b : ℕ) : Type 0 where
  pub other : b ≡ 10 → ⊥

-- Visible, and none of `"` (34), `<` (60), `>` (62) and the escape: such a byte leaves every mode as it is.
pub record Ordinary (escape b : ℕ) : Type 0 where
  pub low : 33 ≤ b
  pub high : b ≤ 126
  pub no-quote : b ≡ 34 → ⊥
  pub no-open : b ≡ 60 → ⊥
  pub no-close : b ≡ 62 → ⊥
  pub no-escape : b ≡ escape → ⊥

-- Each byte from place i to place j, which lies in the source, is such a one.
pub record Stretch (P : ℕ → Type 0) (src : List ℕ) (i j : ℕ) : Type 0 where
  pub each : (k : ℕ) → i ≤ k → k < j → P (get_or src k 0)
  pub on : i ≤ j
  pub to : j ≤ length src

-- a block of 32 bytes in which none is counted has no LF
abbrev pub Block : List ℕ → ℕ → ℕ → Type 0
Block src i feeds = feeds ≡ 0 → Stretch NoFeed src i (i + 32)

-- ## Lines

-- From p to q of one line nothing is to be told: what is left at q has the same end and as many LFs, and is text exactly if what is left at p is.
pub record Dull (g : Signs) (src : List ℕ) (p q : Spot) : Type 0 where
  pub end : end_of g src p ≡ end_of g src q
  pub feeds : (line_left g src p).feeds ≡ (line_left g src q).feeds
  pub text : every is_text (marks_left g src p) ≡ every is_text (marks_left g src q)
  pub on : p.at ≤ q.at
  pub to : q.at ≤ length src

-- So it is whatever the comment character.
pub record EverDull (escape : ℕ) (src : List ℕ) (p q : Spot) : Type 0 where
  pub dull : (comment : ℕ) → Dull (record { comment = comment; escape = escape }) src p q

-- from one place to another, in a mode that stays
abbrev pub DullTo : ℕ → List ℕ → ℕ → ℕ → Bool → ℕ → Type 0
DullTo escape src at mode fresh next = EverDull escape src (record { at = at; mode = mode; fresh = fresh }) (record { at = next; mode = mode; fresh = fresh })
