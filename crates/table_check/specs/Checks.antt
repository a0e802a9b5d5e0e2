-- The check of a table as straight passes over its parts, in the shape of the code. That it decides acceptance as the paper defines it is
-- the law `accepted-checks` (proofs/CheckLaws); no public contract cites this file.
use Rattle.std.specs.Prelude.{◌≡◌, ℕ, zero, suc, ◌+◌, ◌-◌, ◌*◌, ◌%◌, ◌<◌, ◌≤◌, Bool, true, ◌&&◌, List, [], ◌∷◌, map, length, take, drop, ◌==◌, nat_le, slice_index, slice_index_or, if◌then◌else◌}
use Rattle.rules.specs.Text.{within, every}
use Rattle.rules.specs.Names.{is_character}
use Rattle.rules.specs.Table.{pad, before, mask}
use Rattle.table_layout.specs.Parts.{chars_part, listing_part, starts_part, rules_part, weights_part}
use Rattle.table_layout.specs.Starts.{bucket_in, key_in, told}

-- ## The header

-- 1 to 8 levels, 1 to 32,768 items, the mask of the buckets, spare numbers zero, and room for all that the header counts
unfoldable pub head_passes : List ℕ → Bool
head_passes t =
    nat_le 16 (length t)
    && within 1 8 (slice_index t 0)
    && within 1 32768 (slice_index t 1)
    && slice_index t 3 == mask (slice_index t 1)
    && every (within 0 0) (take 12 (drop 4 t))
    && nat_le (weights_part (slice_index t 0) (slice_index t 1) + slice_index t 2) (length t)

-- A header that passes: its numbers are in their ranges, and the area holds what they count.
pub record Headed (t : List ℕ) : Type 0 where
  pub passes : head_passes t ≡ true
  pub long : 16 ≤ length t
  pub some-levels : 1 ≤ slice_index t 0
  pub few-levels : slice_index t 0 ≤ 8
  pub some-items : 1 ≤ slice_index t 1
  pub few-items : slice_index t 1 ≤ 32768
  pub masked : slice_index t 3 ≡ mask (slice_index t 1)
  pub spare : every (within 0 0) (take 12 (drop 4 t)) ≡ true
  pub before-ends : slice_index t 15 ≡ 0
  pub room : weights_part (slice_index t 0) (slice_index t 1) + slice_index t 2 ≤ length t

-- ## Ends

-- each is the one before and at most 8 more, the first after `at`; the last is w
unfoldable pub ends_pass : ℕ → ℕ → List ℕ → Bool
ends_pass w at [] = at == w
ends_pass w at (e ∷ es) = within at (at + 8) e && ends_pass w e es

-- ## Characters

-- the padding, from here on
unfoldable pub all_pad : List ℕ → Bool
all_pad cs = every (within pad pad) cs

-- characters, then padding
unfoldable pub chars_pass : List ℕ → Bool
chars_pass [] = true
chars_pass (c ∷ cs) =
    let r : Bool = chars_pass cs in
    if c == pad then all_pad cs else is_character c && r

-- of n items
unfoldable pub all_chars : ℕ → List ℕ → Bool
all_chars zero cs = true
all_chars (suc n) cs = chars_pass (take 4 cs) && all_chars n (drop 4 cs)

-- ## The listing and the starts

-- the items at these places rise, after the one at p
unfoldable pub rises_in : ℕ → List ℕ → ℕ → List ℕ → Bool
rises_in n cs p [] = true
rises_in n cs p (q ∷ qs) = before (key_in n cs p) (key_in n cs q) && rises_in n cs q qs

-- places, rising; and the starts are told
unfoldable pub listing_in : ℕ → List ℕ → List ℕ → List ℕ → Bool
listing_in n cs ps ss = every (within 1 n) ps && rises_in n cs (slice_index ps 0) (drop 1 ps) && told ss (2 * n) 0 0 (map (bucket_in n cs) ps)

-- ## The whole

-- the ends, the characters and the listing with the starts pass, of l levels, n items and w weights
unfoldable pub items_pass : List ℕ → ℕ → ℕ → ℕ → Bool
items_pass t l n w =
    let chars : List ℕ = drop (chars_part l n) t in
    ends_pass w 0 (take (n * l) (drop 16 t))
    && all_chars n chars
    && listing_in n chars (take n (drop (listing_part l n) t)) (take n (drop (starts_part l n) t))

-- the header, the items, the rules and the weights pass
unfoldable pub checks : List ℕ → Bool
checks t =
    let l : ℕ = slice_index_or t 0 0 in
    let n : ℕ = slice_index_or t 1 0 in
    let w : ℕ = slice_index_or t 2 0 in
    head_passes t
    && items_pass t l n w
    && every (within 0 3) (take l (drop (rules_part l n) t))
    && every (within 1 32768) (take w (drop (weights_part l n) t))
