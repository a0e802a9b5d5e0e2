-- The entries of a level: what each of them is where the weights are good, and how many there are.
use mathlib.Core.Path.{◌≡◌, refl, ◌∙◌}
use mathlib.Core.Bool.{Bool, true, false}
use mathlib.Core.List.{List, [], ◌∷◌, map, reverse_aux}
use Prim.Native.Nat.{ℕ, zero, suc, pred, ◌+◌, ◌*◌, ◌≤◌}
use native.Mathlib.Omega.{arith}
use lib.ListN.{length, get_or, length-map, length-reverse}
use lib.Dec.{leb}
use borrow.Author.Tests.{leb-true}
use Rattle.base_lists.proofs.Bools.{and_left, and_right, cond-false, cond_both}
use Rattle.base_lists.proofs.Lists.{All}
use Rattle.rules.specs.Text.{every, within}
use Rattle.rules.specs.Meaning.{Rule, Item, count_all, good_weights, good_item}
use Rattle.rules.specs.Order.{Entry, no_item, weights_at, more, entries_from, walked, level_entries}
use Rattle.rules.proofs.TextLaws.{every-head, every-tail, every-get_d, every_map, every-reverse, within_low, within-high}
use Rattle.rules.proofs.MeaningLaws.{item-parts}

-- ## The weights of a good meaning

get_d-weights : (l : ℕ) (is : List Item) (k : ℕ) → every (good_item l) is ≡ true → every good_weights (get_or is k no_item).weights ≡ true
unfolding every
get_d-weights l [] k h = refl
get_d-weights l (i ∷ is) zero h = (item-parts l i (every-head (good_item l) i is h)).weights
get_d-weights l (i ∷ is) (suc k) h = get_d-weights l is k (every-tail (good_item l) i is h)

-- the weights at every level and place, listed or not
pub weights_at-good : (l : ℕ) (is : List Item) → every (good_item l) is ≡ true → (level place : ℕ) → good_weights (weights_at is level place) ≡ true
unfolding weights_at good_weights every
weights_at-good l is h level place =
    every-get_d good_weights (get_or is (pred place) no_item).weights level [] refl (get_d-weights l is (pred place) h)

walked-good : (r : Rule) (ls : List (List ℕ)) → every good_weights ls ≡ true → every good_weights (walked r ls) ≡ true
unfolding walked
walked-good r ls h = cond_both (λ (w : List (List ℕ)). every good_weights w ≡ true) r.backward (every-reverse good_weights ls h) h

walked-length : (r : Rule) (ls : List (List ℕ)) → length (walked r ls) ≡ length ls
unfolding walked
walked-length r ls = cond_both (λ (w : List (List ℕ)). length w ≡ length ls) r.backward (length-reverse ls) refl

-- ## What each entry is

-- a weight that is accepted, a count of at most n, and with no position none
pub record Fits (position : Bool) (n : ℕ) (e : Entry) : Type 0 where
  pub positive : 1 ≤ e.weight
  pub small : e.weight ≤ 32768
  pub counted : e.count ≤ n
  pub plain : position ≡ false → e.count ≡ 0

more-fits : (p : Bool) (n : ℕ) (ws : List ℕ) (es : List Entry) → every (within 1 32768) ws ≡ true → All (Fits p n) es → All (Fits p n) (more ws es)
unfolding more
more-fits p n [] es h k = k
more-fits p n (w ∷ ws) es h k =
    let g = every-head (within 1 32768) w ws h in (
      record {
        positive = within_low 1 32768 w g;
        small = within-high 1 32768 w g;
        counted = omega arith;
        plain = λ e. refl;
      },
      more-fits p n ws es (every-tail (within 1 32768) w ws h) k,
    )

entries_fit : (p : Bool) (n b : ℕ) (ls : List (List ℕ)) → n + length ls ≤ b → every good_weights ls ≡ true → All (Fits p b) (entries_from p n ls)
unfolding entries_from good_weights
entries_fit p n b [] l h = tt
entries_fit p n b ([] ∷ ls) l h = entries_fit p (suc n) b ls (omega arith) (every-tail good_weights [] ls h)
entries_fit p n b ((w ∷ ws) ∷ ls) l h =
    let a = and_right (leb (length (w ∷ ws)) 8) (every (within 1 32768) (w ∷ ws)) (every-head good_weights (w ∷ ws) ls h) in
    let g = every-head (within 1 32768) w ws a in (
      record {
        positive = within_low 1 32768 w g;
        small = within-high 1 32768 w g;
        counted = cond_both (λ (c : ℕ). c ≤ b) p (omega arith) (omega arith);
        plain = cond-false n 0;
      },
      more-fits p b ws (entries_from p 0 ls) (every-tail (within 1 32768) w ws a)
          (entries_fit p 0 b ls (omega arith) (every-tail good_weights (w ∷ ws) ls h)),
    )

-- ## How many there are

more-length : (ws : List ℕ) (es : List Entry) → length (more ws es) ≡ length ws + length es
unfolding more
more-length [] es = omega arith
more-length (w ∷ ws) es = let e = more-length ws es in omega arith

-- as many as there are weights
pub entries-length : (p : Bool) (n : ℕ) (ls : List (List ℕ)) → length (entries_from p n ls) ≡ count_all ls
unfolding entries_from count_all
entries-length p n [] = refl
entries-length p n ([] ∷ ls) = let e = entries-length p (suc n) ls in omega arith
entries-length p n ((w ∷ ws) ∷ ls) =
    let e = more-length ws (entries_from p 0 ls) in
    let r = entries-length p 0 ls in
    omega arith

count_all-reverse_aux : (ls ms : List (List ℕ)) → count_all (reverse_aux ls ms) ≡ count_all ls + count_all ms
unfolding count_all
count_all-reverse_aux [] ms = omega arith
count_all-reverse_aux (l ∷ ls) ms = let e = count_all-reverse_aux ls (l ∷ ms) in omega arith

count_all-walked : (r : Rule) (ls : List (List ℕ)) → count_all (walked r ls) ≡ count_all ls
unfolding walked count_all
count_all-walked r ls =
    cond_both (λ (ms : List (List ℕ)). count_all ms ≡ count_all ls) r.backward (let e = count_all-reverse_aux ls [] in omega arith) refl

-- in either direction
pub level-count : (is : List Item) (r : Rule) (level : ℕ) (ps : List ℕ)
    → length (level_entries is r level ps) ≡ count_all (map (weights_at is level) ps)
unfolding level_entries
level-count is r level ps =
    entries-length r.position 0 (walked r (map (weights_at is level) ps)) ∙ count_all-walked r (map (weights_at is level) ps)

count_all-le : (ls : List (List ℕ)) → every good_weights ls ≡ true → count_all ls ≤ 8 * length ls
unfolding count_all good_weights
count_all-le [] h = omega arith
count_all-le (ws ∷ ls) h =
    let l = leb-true (length ws) 8 (and_left (leb (length ws) 8) (every (within 1 32768) ws) (every-head good_weights ws ls h)) in
    let r = count_all-le ls (every-tail good_weights ws ls h) in
    omega arith

-- ## A level of a good meaning

module _ (l : ℕ) (is : List Item) (h : every (good_item l) is ≡ true) (r : Rule) (level : ℕ) (ps : List ℕ) where
  walked-weights : every good_weights (walked r (map (weights_at is level) ps)) ≡ true
  walked-weights = walked-good r (map (weights_at is level) ps) (every_map good_weights (weights_at is level) ps (weights_at-good l is h level))

  -- the entries of a level fit its rule
  pub level-fits : All (Fits r.position (length ps)) (level_entries is r level ps)
  unfolding level_entries
  level-fits = entries_fit r.position 0 (length ps) (walked r (map (weights_at is level) ps))
      (simp (walked-length, length-map) (omega arith)) walked-weights

  -- at most 8 of each element
  pub level-length : length (level_entries is r level ps) ≤ 8 * length ps
  unfolding level_entries
  level-length =
      let ls : List (List ℕ) = walked r (map (weights_at is level) ps) in
      let e : length ls ≡ length ps = walked-length r (map (weights_at is level) ps) ∙ length-map ps (weights_at is level) in
      let n = entries-length r.position 0 ls in
      let b = count_all-le ls walked-weights in
      omega arith
