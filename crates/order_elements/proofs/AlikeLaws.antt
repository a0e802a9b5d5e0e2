-- What begins alike is alike, of the definitions alone: four characters have one element, and an element gives two walks that stand level the
-- same entries.
use Rattle.std.specs.Prelude.{if◌then◌else◌}
use mathlib.Core.Path.{◌≡◌, refl, ap, ◌∙◌}
use mathlib.Core.Bool.{Bool, true, ◌&&◌}
use mathlib.Core.List.{List, [], ◌∷◌, ◌++◌}
use Prim.Native.Nat.{ℕ, suc, ◌+◌, ◌≤◌}
use native.Mathlib.Omega.{arith}
use lib.ListN.{length}
use lib.Dec.{leb}
use Rattle.rules.specs.Text.{every, begins}
use Rattle.rules.specs.Meaning.{Item, count_all, good_item}
use Rattle.rules.specs.Order.{Step, longest, undefined_from, step_of, Entry, entries_from}
use Rattle.rules.proofs.TextLaws.{every-head, every-tail}
use Rattle.rules.proofs.MeaningLaws.{item-parts}
use Rattle.rules.proofs.EntryLaws.{entries-length}
use Rattle.rules.proofs.PassedLaws.{seen}
use Rattle.order_entries.specs.Walk.{skipped_after}
use Rattle.order_entries.proofs.BothLaws.{own, own-length, own-before, seen_alike}

-- ## Elements

-- what follows as many characters does not matter
begins-front : (p s rest : List ℕ) → length p ≤ length s → begins p (s ++ rest) ≡ begins p s
unfolding begins
begins-front [] s rest h = refl
begins-front (c ∷ p) [] rest h = absurd (omega arith)
begins-front (c ∷ p) (d ∷ s) rest h = rw (begins-front p s rest (omega arith))

longest-front : (l n : ℕ) (is : List Item) (s rest : List ℕ) (best : Step) → every (good_item l) is ≡ true → 4 ≤ length s
    → longest n is (s ++ rest) best ≡ longest n is s best
unfolding longest
longest-front l n [] s rest best g h = refl
longest-front l n (i ∷ is) s rest best g h =
    let short = (item-parts l i (every-head (good_item l) i is g)).short in
    let next : Step = if begins i.chars s && leb best.size (length i.chars) then record { place = n; size = length i.chars } else best in
    rw (begins-front i.chars s rest (omega arith)) (longest-front l (suc n) is s rest next (every-tail (good_item l) i is g) h)

-- four characters have one element, whatever follows
pub step-front : (l : ℕ) (is : List Item) (s rest : List ℕ) → every (good_item l) is ≡ true → 4 ≤ length s → step_of is (s ++ rest) ≡ step_of is s
unfolding step_of
step-front l is [] rest g h = absurd (omega arith)
step-front l is (c ∷ s) rest g h = longest-front l 1 is (c ∷ s) rest (record { place = undefined_from 1 is; size = 1 }) g h

-- ## Entries

-- the same element in front of both, as many being skipped: its entries agree
pub seen-element : (position : Bool) (n : ℕ) (ws : List ℕ) (xs ys : List (List ℕ)) (agreed : ℕ)
    → seen (entries_from position n (ws ∷ xs)) (entries_from position n (ws ∷ ys)) agreed
    ≡ seen (entries_from position (skipped_after n (length ws)) xs) (entries_from position (skipped_after n (length ws)) ys) (agreed + length ws)
seen-element position n ws xs ys agreed =
    ap (λ (es : List Entry). seen es (entries_from position n (ws ∷ ys)) agreed) (own-before position n ws xs)
    ∙ ap (λ (es : List Entry). seen (own position n ws ++ entries_from position (skipped_after n (length ws)) xs) es agreed) (own-before position n ws ys)
    ∙ seen_alike (own position n ws) (entries_from position (skipped_after n (length ws)) xs) (entries_from position (skipped_after n (length ws)) ys) agreed
    ∙ ap (λ (k : ℕ). seen (entries_from position (skipped_after n (length ws)) xs) (entries_from position (skipped_after n (length ws)) ys) (agreed + k))
    (own-length position n ws)

-- however many are skipped, an element has an entry for each weight
pub entries-element : (position : Bool) (n m : ℕ) (ws : List ℕ) (xs : List (List ℕ))
    → length (entries_from position n (ws ∷ xs)) ≡ length ws + length (entries_from position m xs)
unfolding count_all
entries-element position n m ws xs = rw (entries-length position n (ws ∷ xs), entries-length position m xs)
