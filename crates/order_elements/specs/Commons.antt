-- What two strings have in common is walked once: the same elements, from walks that stand level, give the same entries.
use Rattle.std.specs.Prelude.{◌≡◌, Bool, List, ◌++◌, ℕ, ◌+◌, ◌*◌, ◌≤◌, ◌<◌, length, get_or, Option, Some, None}
use Rattle.rules.specs.Meaning.{Item}
use Rattle.rules.specs.Order.{step_of}
use Rattle.rules.proofs.PassedLaws.{seen}
use Rattle.order_find.specs.Answer.{found_as}
use Rattle.order_find.specs.declared.Found.{Found}
use Rattle.order_elements.specs.declared.Walk.{Walk}
use Rattle.order_elements.specs.declared.Common.{Common}
use Rattle.order_elements.specs.declared.Pair.{Pair}
use Rattle.order_elements.specs.Cuts.{Ready, Cut}
use Rattle.order_elements.specs.Firsts.{entries_on, entries_left, Sound}

-- ## Characters and elements in common

-- So many characters from two places on are the same, and the next are not, where both strings have one.
pub record Shared (a : List ℕ) (i : ℕ) (b : List ℕ) (j r : ℕ) : Type 0 where
  pub first : i + r ≤ length a
  pub second : j + r ≤ length b
  pub same : (n : ℕ) → n < r → get_or a (i + n) 0 ≡ get_or b (j + n) 0
  pub stop : i + r < length a → j + r < length b → get_or a (i + r) 0 ≡ get_or b (j + r) 0 → ⊥

-- The element that begins each string that begins with s.
pub record Begins (items : List Item) (s : List ℕ) (f : Found) : Type 0 where
  pub some : 0 < f.size
  pub is : (rest : List ℕ) → found_as f ≡ step_of items (s ++ rest)

-- that element, where s tells it
abbrev pub Certain : List Item → List ℕ → Option Found → Type 0
Certain items s (Some f) = Begins items s f
Certain items s None = Unit

-- ## Two walks

-- Two strings are cut up to i and j into n and k elements, the last `skipped` of both without a weight, and so many entries agree.
pub record Level (t a b as' bs : List ℕ) (i j n k skipped agreed : ℕ) : Type 0 where
  pub first-ready : Ready t a as'
  pub second-ready : Ready t b bs
  pub first : Cut t a as' i n
  pub second : Cut t b bs j k
  pub first-skipped : skipped ≤ n
  pub second-skipped : skipped ≤ k
  pub small : agreed ≤ 32768 + 8 * i

-- They are cut further by the same elements: what is still to come, less by the entries that agree, decides as before.
pub record Further (t a b : List ℕ) (i j skipped agreed i' j' skipped' agreed' : ℕ) : Type 0 where
  pub rises : agreed ≤ agreed'
  pub all : (position : Bool) → agreed + length (entries_on t a position i skipped) ≡ agreed' + length (entries_on t a position i' skipped')
  pub same : (position : Bool) → seen (entries_on t a position i skipped) (entries_on t b position j skipped) agreed
      ≡ seen (entries_on t a position i' skipped') (entries_on t b position j' skipped') agreed'

-- What both strings have in common is cut.
pub record Both (t a b as' bs : List ℕ) (i j n k skipped agreed : ℕ) (r : Common) : Type 0 where
  pub level : Level t a b as' bs (i + r.size) (j + r.size) (n + r.many) (k + r.many) r.skipped r.agreed
  pub further : Further t a b i j skipped agreed (i + r.size) (j + r.size) r.skipped r.agreed

-- Two walks have gone on together, or stayed: what they have still to come, less by the entries that agree, decides as before.
pub record Together (t a b as' bs : List ℕ) (x y : Walk) (agreed : ℕ) (r : Pair) : Type 0 where
  pub first : Sound t a as' r.x
  pub second : Sound t b bs r.y
  pub rises : agreed ≤ r.agreed
  pub all : (position : Bool) → agreed + length (entries_left t a position x) ≡ r.agreed + length (entries_left t a position r.x)
  pub same : (position : Bool) → seen (entries_left t a position x) (entries_left t b position y) agreed
      ≡ seen (entries_left t a position r.x) (entries_left t b position r.y) r.agreed
