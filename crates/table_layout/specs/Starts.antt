-- Buckets and their starts as they are read: the bucket of an item whose numbers stand in a table, the start of a bucket, and the test that the
-- starts are right, along the listing.
use Rattle.std.specs.Prelude.{◌≡◌, Bool, true, ◌&&◌, List, [], ◌∷◌, ℕ, zero, suc, pred, ◌+◌, ◌-◌, ◌*◌, ◌/◌, ◌%◌, ◌≤◌, length, get_or, take, drop, eqb, if◌then◌else◌}
use Rattle.std.specs.Int.Bits.{bit_and}
use Rattle.rules.specs.Table.{pad, mask}

-- ## Buckets

-- the bucket of an item whose characters begin with this number, of n items
unfoldable pub bucket_for : ℕ → ℕ → ℕ
bucket_for n c = if eqb c pad then pred (2 * n) else bit_and c (mask n)

-- the four character numbers of the item at a place, from 1, where the characters of all items begin cs
abbrev pub four_at : List ℕ → ℕ → List ℕ
four_at cs p = take 4 (drop (4 * pred p) cs)

-- its bucket
abbrev pub bucket_in : ℕ → List ℕ → ℕ → ℕ
bucket_in n cs p = bucket_for n (get_or (four_at cs p) 0 pad)

-- what it is listed by
abbrev pub key_in : ℕ → List ℕ → ℕ → List ℕ
key_in n cs p = bucket_in n cs p ∷ four_at cs p

-- where the four character numbers of the item at a place, from 1, stand in a table, those of the first at `chars`
abbrev pub four_from : ℕ → ℕ → ℕ
four_from chars p = chars + 4 * pred p

-- and its bucket there, of n items
unfoldable pub bucket_from : List ℕ → ℕ → ℕ → ℕ → ℕ
bucket_from t chars n p = bucket_for n (get_or t (four_from chars p) 0)

-- The place, from 1, of one of n items whose characters stand in the area, and the mask of their buckets.
pub record Place (t : List ℕ) (chars n buckets p : ℕ) : Type 0 where
  pub few-items : n ≤ 32768
  pub masked : buckets ≡ mask n
  pub from_one : 1 ≤ p
  pub in-items : p ≤ n
  pub inside : chars + 4 * n ≤ length t

-- ## Starts

-- the start of bucket b; two stand in each number
unfoldable pub start_at : List ℕ → ℕ → ℕ
start_at [] b = 0
start_at (s ∷ ss) zero = s % 65536
start_at (s ∷ ss) (suc zero) = s / 65536
start_at (s ∷ ss) (suc (suc b)) = start_at ss b

-- n buckets from b on start at k
unfoldable pub start_all : List ℕ → ℕ → ℕ → ℕ → Bool
start_all ss k b zero = true
start_all ss k b (suc n) = eqb (start_at ss b) k && start_all ss k (suc b) n

-- items of these buckets are listed from k on, and the starts below b are told: all below e are told, and right
unfoldable pub told : List ℕ → ℕ → ℕ → ℕ → List ℕ → Bool
told ss e k b [] = eqb b e
told ss e k b (q ∷ qs) = start_all ss k b (suc q - b) && told ss e (suc k) (suc q) qs
