-- What the parts of a comparison ask and give. No public contract cites this file.
use Rattle.std.specs.Prelude.{◌≡◌, Bool, true, false, List, ℕ, suc, ◌*◌, ◌≤◌, length, take, drop}
use Rattle.rules.specs.Table.{accepted, meaning_in}
use Rattle.rules.specs.Order as order
use Rattle.rules.specs.Order.{good_string, elements, codes, answer_from, entry_lists}
use Rattle.rules.proofs.PassedLaws.{seen, with_passed}
use Rattle.table_layout.specs.Parts.{rule_at}
use Rattle.order_entries.specs.Walk.{seen_as}
use Rattle.order_entries.specs.declared.Seen.{Seen}
use Rattle.order_elements.specs.declared.Alike.{Alike}

-- How two strings compare by their code points.
pub record CodesCompared (a b : List ℕ) (s : Seen) : Type 0 where
  pub is : seen_as s ≡ seen (codes a) (codes b) 0
  pub small : s.agreed ≤ 4096

-- A string that is not too long, and the places of its elements in an accepted table.
pub record Placed (t s places : List ℕ) : Type 0 where
  pub checked : accepted t ≡ true
  pub short : length s ≤ 4096
  pub is : places ≡ elements (meaning_in t).items 0 s

-- the answer from a level on, from 0, n entries having agreed before it
unfoldable pub answer_on : List ℕ → List ℕ → List ℕ → ℕ → ℕ → order.Answer
answer_on t a b level n =
    with_passed n (answer_from (suc level) (drop level (entry_lists (meaning_in t) a)) (drop level (entry_lists (meaning_in t) b)))

-- Two strings that are cut, and the entries that agreed before a level.
pub record BothCut (t a b as' bs : List ℕ) (cut : Alike) (level : ℕ) : Type 0 where
  pub first : Placed t a (take cut.first as')
  pub second : Placed t b (take cut.second bs)
  pub first-inside : cut.first ≤ length as'
  pub second-inside : cut.second ≤ length bs
  pub to : level ≤ length (meaning_in t).rules
  pub small : cut.agreed ≤ 32768 * level

-- The first level of an accepted table is walked forward.
pub record Forward (t : List ℕ) (position : Bool) : Type 0 where
  pub is : record { backward = false; position = position } ≡ rule_at t 0

-- An accepted table and two strings that are not refused.
pub record Good (t a b : List ℕ) : Type 0 where
  pub checked : accepted t ≡ true
  pub first : good_string a ≡ true
  pub second : good_string b ≡ true
