-- What a walk over a level's entries has still to come, and what its operations give.
use Rattle.std.specs.Prelude.{◌≡◌, Bool, true, ◌&&◌, List, [], ◌∷◌, map, reverse, ℕ, ◌+◌, ◌≤◌, ◌<◌, length, take, drop, eqb, if◌then◌else◌, None, Option, Some}
use Rattle.base_lists.proofs.Lists.{All}
use Rattle.rules.specs.Meaning.{Rule}
use Rattle.rules.specs.Table.{accepted, meaning_in}
use Rattle.rules.specs.Order as order
use Rattle.rules.specs.Order.{weights_at, more, entries_from, walked, level_entries}
use Rattle.rules.proofs.ElementLaws.{UpTo}
use Rattle.rules.proofs.PassedLaws as passed
use Rattle.rules.proofs.PassedLaws.{seen}
use Rattle.base_units.specs.Numbers.{sign_of}
use Rattle.order_entries.specs.declared.Entry.{Entry}
use Rattle.order_entries.specs.declared.Cursor.{Cursor}
use Rattle.order_entries.specs.declared.Walks.{Walks}
use Rattle.order_entries.specs.declared.Seen.{Seen}

-- the places of elements in the direction walked
unfoldable pub directed : Bool → List ℕ → List ℕ
directed backward places = if backward then reverse places else places

-- A level of an accepted table, from 0, and the places of a string's elements in the table.
pub record Level (t places : List ℕ) (level : ℕ) : Type 0 where
  pub checked : accepted t ≡ true
  pub in-levels : level < length (meaning_in t).rules
  pub listed : All (UpTo (length (meaning_in t).items)) places
  pub few : length places ≤ 4096

-- an entry as the paper has it
abbrev pub entry_as : Entry → order.Entry
entry_as e = record { count = e.count; weight = e.rank.0 }

-- the entries of the elements from the i-th walked on, n elements without a weight having stood before it
unfoldable pub entries_on : List ℕ → List ℕ → ℕ → Rule → ℕ → ℕ → List order.Entry
entries_on t places level rule i n =
    entries_from rule.position n (drop i (walked rule (map (weights_at (meaning_in t).items level) places)))

-- the entries that a walk has still to come
unfoldable pub entries_left : List ℕ → List ℕ → ℕ → Rule → Cursor → List order.Entry
entries_left t places level rule c =
    more (take c.left (drop c.from t)) (entries_on t places level rule c.passed c.skipped)

-- where a walk begins
abbrev pub fresh : Cursor
fresh = record { passed = 0; from = 0; left = 0; skipped = 0 }

-- Where a walk can stand.
pub record Sound (t places : List ℕ) (c : Cursor) : Type 0 where
  pub passed : c.passed ≤ length places
  pub skipped : c.skipped ≤ c.passed
  pub inside : 0 < c.left → c.from + c.left ≤ length t

-- The first of these entries, and a cursor for the others.
pub record First (t places : List ℕ) (level : ℕ) (rule : Rule) (es : List order.Entry) (e : Entry) (c : Cursor) : Type 0 where
  pub is : es ≡ entry_as e ∷ entries_left t places level rule c
  pub sound : Sound t places c

-- what stands ahead where these entries are still to come
abbrev pub Gives : List ℕ → List ℕ → ℕ → Rule → List order.Entry → Option (Entry × Cursor) → Type 0
Gives t places level rule es (Some (e, c)) = First t places level rule es e c
Gives t places level rule es None = es ≡ []

-- whether two walks, with m and n weights of an element still to come, stand between elements with as many without a weight behind them
unfoldable pub level_with : ℕ → ℕ → ℕ → ℕ → Bool
level_with m n skipped other = eqb m 0 && (eqb n 0 && eqb skipped other)

-- two walks that stand so, i and j elements passed
abbrev pub at_elements : ℕ → ℕ → ℕ → ℕ → Walks
at_elements i j skipped agreed = record {
  x = record { passed = i; from = 0; left = 0; skipped = skipped };
  y = record { passed = j; from = 0; left = 0; skipped = skipped };
  agreed = agreed;
}

-- the elements without a weight behind one that has so many weights, n having stood before it
abbrev pub skipped_after : ℕ → ℕ → ℕ
skipped_after n count = if eqb count 0 then n + 1 else 0

-- Where two walks over a level can stand.
pub record Walking (t a b : List ℕ) (level : ℕ) (rule : Rule) (w : Walks) : Type 0 where
  pub first : Sound t a w.x
  pub second : Sound t b w.y
  pub few : w.agreed + length (entries_left t a level rule w.x) ≤ 32768

-- Two walks that go on from w to r: what they have still to come decides alike.
pub record Onward (t a b : List ℕ) (level : ℕ) (rule : Rule) (w r : Walks) : Type 0 where
  pub stand : Walking t a b level rule r
  pub no_more : length (entries_left t a level rule r.x) ≤ length (entries_left t a level rule w.x)
  pub same : seen (entries_left t a level rule r.x) (entries_left t b level rule r.y) r.agreed
      ≡ seen (entries_left t a level rule w.x) (entries_left t b level rule w.y) w.agreed

-- a comparison as the run over the paper's entries has it
abbrev pub seen_as : Seen → passed.Seen
seen_as s = record { sign = sign_of s.sign; agreed = s.agreed }

-- How the entries of a level compare.
pub record Compared (t a b : List ℕ) (level : ℕ) (rule : Rule) (s : Seen) : Type 0 where
  pub is : seen_as s ≡ seen (level_entries (meaning_in t).items rule level a) (level_entries (meaning_in t).items rule level b) 0
  pub small : s.agreed ≤ 32768
