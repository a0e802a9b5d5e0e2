-- What a walk over the entries of the first level has still to come, where the string is cut on the way, and what its operations give.
use Rattle.std.specs.Prelude.{◌≡◌, Bool, false, List, [], ◌∷◌, map, ℕ, suc, ◌+◌, ◌≤◌, ◌<◌, length, take, drop, None, Option, Some}
use Rattle.rules.specs.Table.{meaning_in}
use Rattle.rules.specs.Order as order
use Rattle.rules.specs.Order.{elements, weights_at, more, entries_from, level_entries, sign_entry}
use Rattle.rules.proofs.PassedLaws.{seen}
use Rattle.order_entries.specs.Walk.{entry_as}
use Rattle.order_entries.specs.declared.Entry.{Entry}
use Rattle.order_elements.specs.declared.Walk.{Walk}
use Rattle.order_elements.specs.declared.Ahead.{Ahead}
use Rattle.order_elements.specs.declared.Ahead.TheVariants.{One, End}
use Rattle.order_elements.specs.declared.Meeting.{Meeting}
use Rattle.order_elements.specs.declared.Meeting.TheVariants.{Over, On}
use Rattle.order_elements.specs.declared.Alike.{Alike}
use Rattle.order_elements.specs.declared.First.{First}
use Rattle.order_elements.specs.declared.First.TheVariants.{Before, After, Same}
use Rattle.order_elements.specs.Cuts.{Cut, Split}
use Rattle.base_units.specs.declared.Rank.{Rank}

-- the entries of the elements from a place of the string on, n elements without a weight having stood before it
unfoldable pub entries_on : List ℕ → List ℕ → Bool → ℕ → ℕ → List order.Entry
entries_on t s position at n =
    entries_from position n (map (weights_at (meaning_in t).items 0) (elements (meaning_in t).items 0 (drop at s)))

-- the entries that a walk has still to come
unfoldable pub entries_left : List ℕ → List ℕ → Bool → Walk → List order.Entry
entries_left t s position c = more (take c.left (drop c.from t)) (entries_on t s position c.at c.skipped)

-- where a walk begins
abbrev pub fresh : Walk
fresh = record { at = 0; many = 0; from = 0; left = 0; skipped = 0 }

-- Where a walk can stand.
pub record Sound (t s places : List ℕ) (c : Walk) : Type 0 where
  pub cut : Cut t s places c.at c.many
  pub skipped : c.skipped ≤ c.many
  pub inside : 0 < c.left → c.from + c.left ≤ length t

-- The first of these entries, and a walk for the others.
pub record Next (t s places : List ℕ) (position : Bool) (es : List order.Entry) (e : Entry) (c : Walk) : Type 0 where
  pub is : es ≡ entry_as e ∷ entries_left t s position c
  pub sound : Sound t s places c

-- No entry is left, and the string is cut.
pub record Ended (t s places : List ℕ) (es : List order.Entry) (many : ℕ) : Type 0 where
  pub is : es ≡ []
  pub split : Split t s places many

-- what stands ahead where these entries are still to come
abbrev pub Gives : List ℕ → List ℕ → List ℕ → Bool → List order.Entry → Ahead → Type 0
Gives t s places position es (One e c) = Next t s places position es e c
Gives t s places position es (End many) = Ended t s places es many

-- ## Whole strings

-- the entries of a string's first level, walked forward
unfoldable pub first_entries : List ℕ → List ℕ → Bool → List order.Entry
first_entries t s position =
    level_entries (meaning_in t).items (record { backward = false; position = position }) 0 (elements (meaning_in t).items 0 s)

-- a first weight as a number, 0 where there is none
abbrev pub leading_as : Option Rank → ℕ
leading_as (Some rank) = rank.0
leading_as None = 0

-- what two next entries of this sign decide
abbrev pub met_by : order.Sign → Walk → Walk → Meeting
met_by order.less c d = Meeting.Before
met_by order.equal c d = On c d
met_by order.greater c d = Meeting.After

-- what stands ahead of two walks decides
abbrev pub meeting : Ahead → Ahead → Meeting
meeting (End k) (End l) = Over k l
meeting (End k) (One f d) = Meeting.Before
meeting (One e c) (End l) = Meeting.After
meeting (One e c) (One f d) = met_by (sign_entry (entry_as e) (entry_as f)) c d

-- Two walks go on: the entries that were to come begin with two that are equal.
pub record Goes (t a b as' bs : List ℕ) (position : Bool) (es fs : List order.Entry) (c d : Walk) : Type 0 where
  pub first : Sound t a as' c
  pub second : Sound t b bs d
  pub fewer : length es ≡ suc (length (entries_left t a position c))
  pub same : (n : ℕ) → seen es fs n ≡ seen (entries_left t a position c) (entries_left t b position d) (suc n)

-- what is decided where these entries are still to come
abbrev pub Meets : (t a b as' bs : List ℕ) → Bool → List order.Entry → List order.Entry → Meeting → Type 0
Meets t a b as' bs position es fs Meeting.Before = (n : ℕ) → record { sign = order.less; agreed = n } ≡ seen es fs n
Meets t a b as' bs position es fs Meeting.After = (n : ℕ) → record { sign = order.greater; agreed = n } ≡ seen es fs n
Meets t a b as' bs position es fs (Over k l) = (Ended t a as' es k) × (Ended t b bs fs l)
Meets t a b as' bs position es fs (On c d) = Goes t a b as' bs position es fs c d

-- The run over the two first levels ends with this sign, so many entries having agreed.
pub record Ends (t a b : List ℕ) (position : Bool) (sign : order.Sign) (agreed : ℕ) : Type 0 where
  pub is : record { sign = sign; agreed = agreed } ≡ seen (first_entries t a position) (first_entries t b position) 0
  pub small : agreed ≤ 32768

-- It does not decide, and both strings are cut.
pub record Agrees (t a b as' bs : List ℕ) (position : Bool) (r : Alike) : Type 0 where
  pub ends : Ends t a b position order.equal r.agreed
  pub first : Split t a as' r.first
  pub second : Split t b bs r.second

-- how two first levels compare
abbrev pub FirstCompared : List ℕ → List ℕ → List ℕ → List ℕ → List ℕ → Bool → First → Type 0
FirstCompared t a b as' bs position (Before n) = Ends t a b position order.less n
FirstCompared t a b as' bs position (After n) = Ends t a b position order.greater n
FirstCompared t a b as' bs position (Same r) = Agrees t a b as' bs position r
