-- What is still to be printed, from what is kept of the input so far and the bytes to come; and what the functions that take a piece give.
use Rattle.std.specs.Prelude.{◌≡◌, List, [], ◌∷◌, ◌++◌, map, ℕ, zero, suc, ◌+◌, ◌-◌, ◌≤◌, ◌<◌, length, take, drop, eqb, if◌then◌else◌}
use Rattle.rules.specs.Meaning.{Meaning}
use Rattle.rules.specs.Pairs.{texts_from, text_of, pair_line, pair_lines, all_pairs}
use Rattle.order_keys.specs.Writing.{Puts}
use Rattle.pairs_report.specs.declared.Run.{Run}
use Rattle.pairs_report.specs.declared.Fed.{Fed}

-- ## What is to be printed

-- `texts` have ended, the last of which is `last`; `current` has begun; `bs` is to come
unfoldable pub report_from : Meaning → List ℕ → ℕ → List ℕ → List ℕ → List ℕ → List ℕ
report_from m area zero last current bs = all_pairs m (map (text_of area) (texts_from current bs))
report_from m area (suc texts) last current bs = pair_lines m (suc texts) (text_of area last) (map (text_of area) (texts_from current bs))

-- what is printed when a text ends, after `texts` others, the last of which is `last`
unfoldable pub ended_line : Meaning → List ℕ → ℕ → List ℕ → List ℕ → List ℕ
ended_line m area zero last text = []
ended_line m area (suc texts) last text = pair_line m (suc texts) (text_of area last) (text_of area text)

-- the same from what is kept
abbrev pub left : Meaning → List ℕ → Fed → List ℕ → List ℕ → List ℕ → List ℕ
left m area f before current bs = report_from m area f.texts (take f.last before) (take f.len current) bs

-- ## A run: the bytes before the first LF

unfoldable pub plain : List ℕ → List ℕ
plain [] = []
plain (b ∷ bs) =
    let r : List ℕ = plain bs in
    if eqb b 10 then [] else b ∷ r

-- A byte is kept behind n others, where the room has place for it.
pub record KeepsByte (room : List ℕ) (n b : ℕ) (after : List ℕ) (next : ℕ) : Type 0 where
  pub puts : Puts room n (take (length room - n) (b ∷ [])) after next
  pub inside : next ≤ length after

-- The run from a place on is kept behind the bytes of the open text, as far as the room has place for it; the place behind the run.
pub record TakesRun (piece : List ℕ) (from : ℕ) (current : List ℕ) (len : ℕ) (after : List ℕ) (r : Run) : Type 0 where
  pub puts : Puts current len (take (length current - len) (plain (drop from piece))) after r.len
  pub inside : r.len ≤ length after
  pub to : r.at ≡ from + length (plain (drop from piece))

-- ## A piece

-- Where a report may stand: the two texts' rooms have 4,097 bytes each, and the texts of the piece can be counted.
pub record Ready (piece : List ℕ) (f : Fed) (before current out : List ℕ) : Type 0 where
  pub at : f.at ≤ length piece
  pub used : f.used ≤ length out
  pub before-room : length before ≡ 4097
  pub current-room : length current ≡ 4097
  pub last : f.last ≤ 4097
  pub len : f.len ≤ 4097
  pub few : f.texts + (length piece - f.at) < 18446744073709551616

-- What was printed and what is to be printed is the same before and after, whatever comes behind the piece.
pub record Feeds (m : Meaning) (area piece : List ℕ) (f : Fed) (before current out : List ℕ) (g : Fed) (before' current' out' : List ℕ) : Type 0 where
  pub same : (rest : List ℕ)
      → take f.used out ++ left m area f before current (drop f.at piece ++ rest) ≡ take g.used out' ++ left m area g before' current' (drop g.at piece ++ rest)
  pub ready : Ready piece g before' current' out'
  pub forward : f.at ≤ g.at
  pub counted : g.texts + f.at ≤ f.texts + g.at

-- One run, or LF, at least.
pub record FeedsRun (m : Meaning) (area piece : List ℕ) (f : Fed) (before current out : List ℕ) (g : Fed) (before' current' out' : List ℕ) : Type 0 where
  pub fed : Feeds m area piece f before current out g before' current' out'
  pub goes : f.at < g.at

-- The whole piece, unless the room has too little place for another line.
pub record FeedsAll (m : Meaning) (area piece : List ℕ) (f : Fed) (before current out : List ℕ) (g : Fed) (before' current' out' : List ℕ) : Type 0 where
  pub fed : Feeds m area piece f before current out g before' current' out'
  pub goes : f.at < length piece → f.used + 80 ≤ length out → f.at < g.at
  pub stops : g.at < length piece → length out' < g.used + 80
