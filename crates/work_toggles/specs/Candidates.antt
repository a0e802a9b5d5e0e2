-- Which of the toggles that are kept a word can be. For each toggle a number decides by one byte of the word between it and one toggle that came
-- before it, so that a word is compared with one toggle only.
use Rattle.std.specs.Prelude.{◌≡◌, Bool, ◌&&◌, List, ℕ, zero, suc, ◌+◌, ◌*◌, ◌/◌, ◌%◌, ◌<◌, length, get_or, eqb, if◌then◌else◌}
use Rattle.work_toggles.specs.declared.Parting.{Parting}

-- ## Decisions

-- the number of a decision: a toggle, a place in a word, and a byte
unfoldable pub decision_for : ℕ → Parting → ℕ
decision_for c m = (c * 32 + m.at) * 256 + m.byte

-- it takes a word away from a toggle: it decides about that one, and the word has the byte at the place, 0 behind the word's end
unfoldable pub takes : List ℕ → ℕ → ℕ → Bool
takes w c d = eqb (d / 8192) c && eqb (get_or w (d / 256 % 32) 0) (d % 256)

-- the only one of the first n toggles that a word can be, where their decisions stand from a place of the area on
unfoldable pub candidate : List ℕ → List ℕ → ℕ → ℕ → ℕ
candidate w work from zero = 0
candidate w work from (suc i) =
    let c : ℕ = candidate w work from i in
    if takes w c (get_or work (from + i) 0) then i else c

-- ## The first bytes of a word

-- The words have the same first 32 bytes, with zeros behind an end.
abbrev pub Alike : List ℕ → List ℕ → Type 0
Alike v w = (k : ℕ) → k < 32 → get_or v k 0 ≡ get_or w k 0

-- The first 32 bytes of a word, with zeros behind its end.
pub record Copied (w room : List ℕ) : Type 0 where
  pub long : length room ≡ 32
  pub same : Alike room w

-- A place below 32 where two words differ, if there is one, and the byte of the first there.
pub record Parts (w v : List ℕ) (m : Parting) : Type 0 where
  pub below : m.at < 32
  pub byte : get_or w m.at 0 ≡ m.byte
  pub apart : get_or w m.at 0 ≡ get_or v m.at 0 → Alike w v

-- The same of two rooms that hold words.
pub record Differ (a b : List ℕ) (k : ℕ) : Type 0 where
  pub below : k < 32
  pub apart : get_or a k 0 ≡ get_or b k 0 → Alike a b
