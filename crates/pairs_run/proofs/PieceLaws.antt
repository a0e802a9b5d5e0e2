-- The pieces of the input: what is known of a report between two of them.
use mathlib.Core.Path.{◌≡◌, refl, sym, ◌∙◌}
use mathlib.Core.Bool.{true}
use mathlib.Core.List.{List}
use Prim.Native.Nat.{ℕ, ◌+◌, ◌-◌, ◌*◌, ◌≤◌, ◌<◌}
use native.Mathlib.Omega.{arith}
use lib.ListN.{length, take}
use lib.Seq.{length-take-le}
use Rattle.rules.specs.Meaning.{Meaning}
use Rattle.rules.specs.Table.{accepted}
use Rattle.pairs_printing.specs.Printed.{Prints}
use Rattle.pairs_report.specs.Feeding.{Ready, FeedsAll}
use Rattle.pairs_report.specs.declared.Fed.{Fed}
use Rattle.pairs_run.specs.Pieces.{Rooms, Consumed, Ended}

-- ## consume

-- nothing that was printed waits to be written
pub record Consuming (piece : List ℕ) (f : Fed) (before₀ current₀ out₀ : List ℕ) (g : Fed) (before current out : List ℕ) : Type 0 where
  pub ready : Ready piece g before current out
  pub written : g.used ≡ 0
  pub counted : g.texts + f.at ≤ f.texts + g.at
  pub before-long : length before ≡ length before₀
  pub current-long : length current ≡ length current₀
  pub long : length out ≡ length out₀

pub consuming-none : {piece : List ℕ} {f : Fed} {before current out : List ℕ} → Ready piece f before current out → f.used ≡ 0
    → Consuming piece f before current out f before current out
consuming-none r u = record { ready = r; written = u; counted = omega arith; before-long = refl; current-long = refl; long = refl }

module _ {piece : List ℕ} {f : Fed} {before₀ current₀ out₀ : List ℕ} {g : Fed} {before current out : List ℕ}
    (v : Consuming piece f before₀ current₀ out₀ g before current out) where
  pub consuming-ready : Ready piece g before current out
  consuming-ready = v.ready

  module _ {m : Meaning} {area : List ℕ} {h : Fed} {before' current' out' : List ℕ} (w : FeedsAll m area piece g before current out h before' current' out') where
    pub fed-inside : h.used ≤ length out'
    fed-inside = w.fed.ready.used

    pub fed-length : h.used ≡ length (take h.used out')
    fed-length = sym (length-take-le h.used out' fed-inside)

    pub consuming-less : g.at < length piece → 80 ≤ length out₀ → length piece - h.at < length piece - g.at
    consuming-less i j = omega (arith, w.goes i (omega (arith, v.written, v.long)))

    pub consuming-more : length before' ≡ length before → length current' ≡ length current → length out' ≡ length out
        → Consuming piece f before₀ current₀ out₀ (record { at = h.at; used = 0; texts = h.texts; last = h.last; len = h.len }) before' current' out'
    consuming-more i j k = record {
      ready = record {
        at = w.fed.ready.at;
        used = omega arith;
        before-room = w.fed.ready.before-room;
        current-room = w.fed.ready.current-room;
        last = w.fed.ready.last;
        len = w.fed.ready.len;
        few = w.fed.ready.few;
      };
      written = refl;
      counted = omega (arith, v.counted, w.fed.counted);
      before-long = i ∙ v.before-long;
      current-long = j ∙ v.current-long;
      long = k ∙ v.long;
    }

  pub consuming-all : length piece ≤ g.at → Consumed piece f g
  consuming-all h = record {
    written = v.written;
    last = v.ready.last;
    len = v.ready.len;
    counted = omega (arith, v.counted, v.ready.at);
  }

-- ## read_pieces

-- a piece has at most 65,536 texts
pub record Reading (t piece₀ before₀ current₀ out₀ piece before current out : List ℕ) (g : Fed) (pieces : ℕ) : Type 0 where
  pub rooms : Rooms t piece₀ before₀ current₀ out₀
  pub last : g.last ≤ 4097
  pub len : g.len ≤ 4097
  pub few : g.texts ≤ 65536 * pieces
  pub piece-long : length piece ≡ length piece₀
  pub before-long : length before ≡ length before₀
  pub current-long : length current ≡ length current₀
  pub long : length out ≡ length out₀

pub reading-none : {t piece before current out : List ℕ} → Rooms t piece before current out
    → Reading t piece before current out piece before current out (record { at = 0; used = 0; texts = 0; last = 0; len = 0 }) 0
reading-none r = record {
  rooms = r;
  last = omega arith;
  len = omega arith;
  few = omega arith;
  piece-long = refl;
  before-long = refl;
  current-long = refl;
  long = refl;
}

module _ {t piece₀ before₀ current₀ out₀ piece before current out : List ℕ} {g : Fed} {pieces : ℕ}
    (v : Reading t piece₀ before₀ current₀ out₀ piece before current out g pieces) where
  pub reading-checked : accepted t ≡ true
  reading-checked = v.rooms.checked

  pub reading-room : 80 ≤ length out
  reading-room = omega (arith, v.long, v.rooms.out-room)

  pub reading-ended : Ended t g before current out
  reading-ended = record {
    checked = reading-checked;
    out-room = reading-room;
    last = omega (arith, v.last, v.before-long, v.rooms.before-room);
    len = omega (arith, v.len, v.current-long, v.rooms.current-room);
  }

  module _ (piece' : List ℕ) (l : length piece' ≡ length piece) (n : ℕ) (i : n ≤ length piece') where
    part : length (take n piece') ≡ n
    part = length-take-le n piece' i

    pub reading-ready : pieces < 0x400000000000
        → Ready (take n piece') (record { at = 0; used = 0; texts = g.texts; last = g.last; len = g.len }) before current out
    reading-ready h = record {
      at = omega arith;
      used = omega arith;
      before-room = v.before-long ∙ v.rooms.before-room;
      current-room = v.current-long ∙ v.rooms.current-room;
      last = v.last;
      len = v.len;
      few = omega (arith, part, v.few, v.piece-long, v.rooms.piece-room, l);
    }

    pub reading-more : {h : Fed} {before' current' out' : List ℕ} → length before' ≡ length before → length current' ≡ length current
        → length out' ≡ length out → Consumed (take n piece') (record { at = 0; used = 0; texts = g.texts; last = g.last; len = g.len }) h
        → Reading t piece₀ before₀ current₀ out₀ piece' before' current' out' h (pieces + 1)
    reading-more b c o w = record {
      rooms = v.rooms;
      last = w.last;
      len = w.len;
      few = omega (arith, w.counted, part, v.few, v.piece-long, v.rooms.piece-room, l);
      piece-long = l ∙ v.piece-long;
      before-long = b ∙ v.before-long;
      current-long = c ∙ v.current-long;
      long = o ∙ v.long;
    }

-- ## write_last

pub printed-length : {room bytes after : List ℕ} {next : ℕ} → Prints 80 room 0 bytes after next → length after ≡ length room → 80 ≤ length room
    → next ≡ length (take next after)
printed-length {after = after} {next} p l h =
    let i : next ≤ length after = omega (arith, p.short) in
    sym (length-take-le next after i)
