-- One item of a table: which characters and weights its numbers store where they pass, and that the numbers which store a good item pass.
use Rattle.std.proofs.Common.{◌≡◌, ℕ, zero, suc, ◌+◌, ◌≤◌, Bool, true, ◌&&◌, eqb, leb, List, [], ◌∷◌, ◌++◌, length, get_or, take, drop, sym, refl, ◌∙◌, append_assoc, arith, length-drop, take-append-drop, length-take-le, drop-drop, take-add, eqb-true, le-leb, leb-true}
use mathlib.Core.List.{flatten}
use lib.Dec.{leb-zero}
use Rattle.base_lists.proofs.Bools.{and_left, and_right, and_intro, by}
use Rattle.rules.specs.Text.{within, every}
use Rattle.rules.specs.Names.{is_character}
use Rattle.rules.specs.Meaning.{count_all, good_weights}
use Rattle.rules.specs.Table.{pad, padded, unpadded, counts, cut_by}
use Rattle.rules.proofs.TextLaws.{every_append, every-head, every-tail}
use Rattle.rules.proofs.StorableLaws.{char-no-pad}
use Rattle.rules.proofs.WidthLaws.{good-count}
use Rattle.table_check.specs.Checks.{all_pad, chars_pass}

-- ## Its characters

-- what stands before the padding are characters
pub unpadded-characters : (cs : List ℕ) → chars_pass cs ≡ true → every is_character (unpadded cs) ≡ true
unfolding chars_pass unpadded every
unpadded-characters [] h = refl
unpadded-characters (c ∷ cs) h =
    by (eqb c pad) (λ e. rw e) (λ e.
    let k : (is_character c && chars_pass cs) ≡ true = rw e at h in
    rw e (and_intro (and_left (is_character c) (chars_pass cs) k) (unpadded-characters cs (and_right (is_character c) (chars_pass cs) k))))

pub unpadded-short : (cs : List ℕ) → length (unpadded cs) ≤ length cs
unfolding unpadded
unpadded-short [] = omega arith
unpadded-short (c ∷ cs) = let r = unpadded-short cs in by (eqb c pad) (λ e. rw e (omega arith)) (λ e. rw e (omega arith))

padding-at : (cs : List ℕ) (k : ℕ) → all_pad cs ≡ true → get_or cs k pad ≡ pad
unfolding all_pad
padding-at [] k h = refl
padding-at (c ∷ cs) zero h =
    let e = every-head (within pad pad) c cs h in
    let a = leb-true pad c (and_left (leb pad c) (leb c pad) e) in
    let b = leb-true c pad (and_right (leb pad c) (leb c pad) e) in
    omega arith
padding-at (c ∷ cs) (suc k) h = padding-at cs k (every-tail (within pad pad) c cs h)

-- padded again, they are the same
unpadded-at : (cs : List ℕ) (k : ℕ) → chars_pass cs ≡ true → get_or (unpadded cs) k pad ≡ get_or cs k pad
unfolding chars_pass unpadded
unpadded-at [] k h = refl
unpadded-at (c ∷ cs) zero h = by (eqb c pad) (λ e. rw e (sym (eqb-true c pad e))) (λ e. rw e)
unpadded-at (c ∷ cs) (suc k) h =
    by (eqb c pad) (λ e. rw e (sym (padding-at cs k (rw e at h)))) (λ e.
    rw e (unpadded-at cs k (and_right (is_character c) (chars_pass cs) (rw e at h))))

-- characters pass, with padding behind them
characters-pass : (cs xs : List ℕ) → every is_character cs ≡ true → chars_pass xs ≡ true → chars_pass (cs ++ xs) ≡ true
unfolding chars_pass
characters-pass [] xs h k = k
characters-pass (c ∷ cs) xs h k =
    let a = every-head is_character c cs h in
    rw (char-no-pad c a) (and_intro a (characters-pass cs xs (every-tail is_character c cs h) k))

-- the four character numbers of a good item pass
pub padded-passes : (cs : List ℕ) → length cs ≤ 4 → every is_character cs ≡ true → chars_pass (padded cs []) ≡ true
unfolding chars_pass all_pad every
padded-passes [] h k = refl
padded-passes (a ∷ []) h k = characters-pass (a ∷ []) (pad ∷ pad ∷ pad ∷ []) k refl
padded-passes (a ∷ b ∷ []) h k = characters-pass (a ∷ b ∷ []) (pad ∷ pad ∷ []) k refl
padded-passes (a ∷ b ∷ c ∷ []) h k = characters-pass (a ∷ b ∷ c ∷ []) (pad ∷ []) k refl
padded-passes (a ∷ b ∷ c ∷ d ∷ []) h k = characters-pass (a ∷ b ∷ c ∷ d ∷ []) [] k refl
padded-passes (a ∷ b ∷ c ∷ d ∷ e ∷ cs) h k = absurd (omega arith)

-- four numbers that pass store their characters
pub chars-whole : (cs : List ℕ) → 4 ≤ length cs → chars_pass (take 4 cs) ≡ true → padded (unpadded (take 4 cs)) (drop 4 cs) ≡ cs
chars-whole [] h k = absurd (omega arith)
chars-whole (a ∷ []) h k = absurd (omega arith)
chars-whole (a ∷ b ∷ []) h k = absurd (omega arith)
chars-whole (a ∷ b ∷ c ∷ []) h k = absurd (omega arith)
chars-whole (a ∷ b ∷ c ∷ d ∷ rs) h k =
    let cs : List ℕ = a ∷ b ∷ c ∷ d ∷ [] in
    rw (unpadded-at cs 0 k, unpadded-at cs 1 k, unpadded-at cs 2 k, unpadded-at cs 3 k)

-- ## Its weights

-- all of them together
unfoldable pub total : List ℕ → ℕ
total [] = 0
total (n ∷ ns) = n + total ns

-- the counts of an item's levels add up to the number of its weights
pub total-counts : (ws : List (List ℕ)) → total (counts ws) ≡ count_all ws
unfolding total count_all
total-counts [] = refl
total-counts (w ∷ ws) = rw (total-counts ws)

-- weights cut by counts have these counts
pub cut-counts : (ns ws : List ℕ) → total ns ≤ length ws → counts (cut_by ns ws) ≡ ns
unfolding cut_by total
cut-counts [] ws h = refl
cut-counts (n ∷ ns) ws h =
    rw (length-take-le n ws (omega arith), cut-counts ns (drop n ws) (simp length-drop (omega arith)))

-- joined again, they are the weights before what is left
pub cut-whole : (ns ws : List ℕ) → flatten (cut_by ns ws) ++ drop (total ns) ws ≡ ws
unfolding cut_by total flatten
cut-whole [] ws = refl
cut-whole (n ∷ ns) ws =
    rw (append_assoc (take n ws) (flatten (cut_by ns (drop n ws))), ← drop-drop (total ns) n ws, cut-whole ns (drop n ws)) (take-append-drop n ws)

-- few enough at each level and in range, they are good
pub cut-good : (ns ws : List ℕ) → total ns ≤ length ws → every (within 0 8) ns ≡ true → every (within 1 32768) (take (total ns) ws) ≡ true
    → every good_weights (cut_by ns ws) ≡ true
unfolding cut_by total every good_weights
cut-good [] ws h e k = refl
cut-good (n ∷ ns) ws h e k =
    let a : Bool = every (within 1 32768) (take n ws) in
    let b : Bool = every (within 1 32768) (take (total ns) (drop n ws)) in
    let few = leb-true n 8 (and_right (leb 0 n) (leb n 8) (every-head (within 0 8) n ns e)) in
    let ab : (a && b) ≡ true = sym (every_append (within 1 32768) (take n ws) (take (total ns) (drop n ws))) ∙ (rw (take-add n (total ns) ws) at k) in
    let len = length-take-le n ws (omega arith) in
    and_intro
    (and_intro (le-leb (length (take n ws)) 8 (omega arith)) (and_left a b ab))
    (cut-good ns (drop n ws) (simp length-drop (omega arith)) (every-tail (within 0 8) n ns e) (and_right a b ab))

-- the counts of good weights pass
pub counts-few : (ws : List (List ℕ)) → every good_weights ws ≡ true → every (within 0 8) (counts ws) ≡ true
unfolding every
counts-few [] h = refl
counts-few (w ∷ ws) h =
    and_intro
    (and_intro (leb-zero (length w)) (le-leb (length w) 8 (good-count w (every-head good_weights w ws h))))
    (counts-few ws (every-tail good_weights w ws h))
