-- The walk along the listing, item by item: which places may come next, and how many starts are told then.
use Rattle.std.specs.Prelude.{ℕ, suc, ◌-◌, ◌*◌, Bool, Option, Some, None, true, ◌&&◌, ◌||◌, List, [], ◌∷◌, map, ◌==◌, if◌then◌else◌}
use Rattle.rules.specs.Text.{within, every}
use Rattle.rules.specs.Table.{before}
use Rattle.table_layout.specs.Starts.{bucket_in, key_in, start_all, told}
use Rattle.table_check.specs.Checks.{rises_in}

-- the place p may follow the place `last` in the listing; 0 stands before the first
unfoldable pub follows : ℕ → List ℕ → ℕ → ℕ → Bool
follows n cs last p = last == 0 || before (key_in n cs last) (key_in n cs p)

-- these places rise, after `last`
unfoldable pub rises_on : ℕ → List ℕ → ℕ → List ℕ → Bool
rises_on n cs last [] = true
rises_on n cs last (p ∷ ps) = follows n cs last p && rises_in n cs p ps

-- places from k on, after `last`; the starts below b are told
unfoldable pub walks : ℕ → List ℕ → List ℕ → ℕ → ℕ → ℕ → List ℕ → Bool
walks n cs ss last k b ps = every (within 1 n) ps && rises_on n cs last ps && told ss (2 * n) k b (map (bucket_in n cs) ps)

-- how many starts are told with the item at a place: those up to its own bucket
unfoldable pub told_with : ℕ → List ℕ → ℕ → ℕ
told_with n cs last = if last == 0 then 0 else suc (bucket_in n cs last)

-- the place p, listed as number k, may follow `last`, and the starts that are told with it are right
unfoldable pub goes_on : ℕ → List ℕ → List ℕ → ℕ → ℕ → ℕ → Bool
goes_on n cs ss k last p = follows n cs last p && start_all ss k (told_with n cs last) (suc (bucket_in n cs p) - told_with n cs last)

-- how many starts are told after the item at p; none if it does not go on
unfoldable pub told_next : ℕ → List ℕ → List ℕ → ℕ → ℕ → ℕ → Option ℕ
told_next n cs ss k last p = if goes_on n cs ss k last p then Some (told_with n cs p) else None
