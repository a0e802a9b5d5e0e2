-- The order of two strings: what the answer of a comparison says, for every meaning, good or not.
use mathlib.Core.Path.{◌≡◌, refl, sym, ap, ◌∙◌}
use mathlib.Core.Logic.{◌↔◌}
use mathlib.Core.List.{List, [], ◌∷◌, ◌++◌}
use Prim.Native.Nat.{ℕ, zero, suc, ◌+◌, ◌≤◌, ◌<◌}
use native.Mathlib.Omega.{arith}
use native.Mathlib.Nat.{zero-add, add-zero}
use lib.ListN.{length, take, get_or, length-append, get_or-append}
use lib.Seq.{get_or_at}
use Rattle.rules.specs.Meaning.{Rule, Item, Meaning}
use Rattle.rules.specs.Order.{entry_lists, Entry, Sign, less, equal, greater, Answer, or_else, sign_entry, sign_list, onward, common, settled, answer_from, compare_of, codes, levels_from, levels_of, level_entries, elements}
use Rattle.rules.proofs.SignLaws.{or_else-both, opposite, Follows, less≢equal, greater≢equal, follows-not-greater, less-follows-less, follows-less-less, Orders, orders-equal, orders-by, orders-then, orders-entry, orders-list, sign_entry-unique, sign_list-unique}

-- ## What is compared

pub levels_from-length : (is : List Item) (rs : List Rule) (k : ℕ) (ps : List ℕ) → length (levels_from is rs k ps) ≡ length rs
unfolding levels_from
levels_from-length is [] k ps = refl
levels_from-length is (r ∷ rs) k ps = ap suc (levels_from-length is rs (suc k) ps)

pub entry_lists-length : (m : Meaning) (s : List ℕ) → length (entry_lists m s) ≡ length m.rules + 1
unfolding levels_of
entry_lists-length m s =
    length-append (levels_of m s) (codes s ∷ []) ∙ rw (levels_from-length m.items m.rules 0 (elements m.items 0 s))

levels_from-get_d : (is : List Item) (rs : List Rule) (l k : ℕ) (ps : List ℕ) (d : Rule) → k < length rs
    → get_or (levels_from is rs l ps) k [] ≡ level_entries is (get_or rs k d) (l + k) ps
unfolding levels_from
levels_from-get_d is [] l k ps d h = absurd (omega arith)
levels_from-get_d is (r ∷ rs) l zero ps d h = rw add-zero
levels_from-get_d is (r ∷ rs) l (suc k) ps d h =
    let e : suc l + k ≡ l + suc k = omega arith in
    rw (← e) (levels_from-get_d is rs (suc l) k ps d (omega arith))

-- the list of a level
pub entry_lists-level : (m : Meaning) (s : List ℕ) (k : ℕ) (d : Rule) → k < length m.rules
    → get_or (entry_lists m s) k [] ≡ level_entries m.items (get_or m.rules k d) k (elements m.items 0 s)
unfolding levels_of
entry_lists-level m s k d h =
    let n = levels_from-length m.items m.rules 0 (elements m.items 0 s) in
    get_or-append (levels_of m s) (codes s ∷ []) [] k (omega arith)
    ∙ levels_from-get_d m.items m.rules 0 k (elements m.items 0 s) d h
    ∙ rw zero-add

-- and the last list
pub entry_lists-codes : (m : Meaning) (s : List ℕ) → get_or (entry_lists m s) (length m.rules) [] ≡ codes s
unfolding levels_of
entry_lists-codes m s =
    get_or_at (levels_of m s) (codes s) [] [] (length m.rules) (levels_from-length m.items m.rules 0 (elements m.items 0 s))

-- ## The sign

-- the first sign of two levels that is not equal
unfoldable pub sign_levels : List (List Entry) → List (List Entry) → Sign
sign_levels [] bs = equal
sign_levels (a ∷ as') [] = equal
sign_levels (a ∷ as') (b ∷ bs) = or_else (sign_list a b) (sign_levels as' bs)

settled-sign : (z w : Sign) (k n : ℕ) (r : Answer) → r.sign ≡ w → (settled z k n r).sign ≡ or_else z w
settled-sign less w k n r e = refl
settled-sign equal w k n r e = e
settled-sign greater w k n r e = refl

answer-sign : (k : ℕ) (as' bs : List (List Entry)) → (answer_from k as' bs).sign ≡ sign_levels as' bs
unfolding answer_from sign_levels
answer-sign k [] bs = refl
answer-sign k (a ∷ as') [] = refl
answer-sign k (a ∷ as') (b ∷ bs) =
    settled-sign (sign_list a b) (sign_levels as' bs) k (common a b) (answer_from (suc k) as' bs) (answer-sign (suc k) as' bs)

pub compare_sign : (m : Meaning) (a b : List ℕ) → (compare_of m a b).sign ≡ sign_levels (entry_lists m a) (entry_lists m b)
unfolding compare_of
compare_sign m a b = answer-sign 1 (entry_lists m a) (entry_lists m b)

orders-levels : (is : List Item) (rs : List Rule) (k : ℕ)
    → Orders (λ (a b : List ℕ). sign_levels (levels_from is rs k (elements is 0 a) ++ codes a ∷ []) (levels_from is rs k (elements is 0 b) ++ codes b ∷ []))
unfolding sign_levels levels_from
orders-levels is [] k = orders-then (orders-by codes orders-list) orders-equal
orders-levels is (r ∷ rs) k =
    orders-then (orders-by (λ (s : List ℕ). level_entries is r k (elements is 0 s)) orders-list) (orders-levels is rs (suc k))

pub orders-strings : (m : Meaning) → Orders (λ (a b : List ℕ). sign_levels (entry_lists m a) (entry_lists m b))
unfolding levels_of
orders-strings m = orders-levels m.items m.rules 0

-- every string is equal to itself
pub compare_refl : (m : Meaning) (a : List ℕ) → (compare_of m a a).sign ≡ equal
compare_refl m a = compare_sign m a a ∙ (orders-strings m).self a

-- what the signs of (a, b) and (b, c) say of that of (a, c)
pub compare-follows : (m : Meaning) (a b c : List ℕ)
    → Follows (compare_of m a b).sign (compare_of m b c).sign (compare_of m a c).sign
compare-follows m a b c = rw (compare_sign m a b, compare_sign m b c, compare_sign m a c) ((orders-strings m).follows a b c)

-- what is not greater than what is not greater is not greater
pub compare-trans : (m : Meaning) (a b c : List ℕ) → ¬ ((compare_of m a b).sign ≡ greater) → ¬ ((compare_of m b c).sign ≡ greater)
    → ¬ ((compare_of m a c).sign ≡ greater)
compare-trans m a b c =
    follows-not-greater (compare_of m a b).sign (compare_of m b c).sign (compare_of m a c).sign (compare-follows m a b c)

-- and it is less where one of the two is
pub compare-less-trans : (m : Meaning) (a b c : List ℕ) → (compare_of m a b).sign ≡ less → ¬ ((compare_of m b c).sign ≡ greater)
    → (compare_of m a c).sign ≡ less
compare-less-trans m a b c =
    less-follows-less (compare_of m a b).sign (compare_of m b c).sign (compare_of m a c).sign (compare-follows m a b c)

pub compare-trans-less : (m : Meaning) (a b c : List ℕ) → ¬ ((compare_of m a b).sign ≡ greater) → (compare_of m b c).sign ≡ less
    → (compare_of m a c).sign ≡ less
compare-trans-less m a b c =
    follows-less-less (compare_of m a b).sign (compare_of m b c).sign (compare_of m a c).sign (compare-follows m a b c)

codes-unique : (a b : List ℕ) → codes a ≡ codes b → a ≡ b
unfolding codes
codes-unique [] [] e = refl
codes-unique [] (d ∷ b) e = cc
codes-unique (c ∷ a) [] e = cc
codes-unique (c ∷ a) (d ∷ b) e =
    let h : codes a ≡ codes b = cc in
    let r = codes-unique a b h in
    let w : c ≡ d = ap (λ (es : List Entry). (get_or es 0 (record { count = 0; weight = 0 })).weight) e in
    cc

levels-last : (is : List Item) (rs : List Rule) (k : ℕ) (ps qs : List ℕ) (c d : List Entry)
    → sign_levels (levels_from is rs k ps ++ c ∷ []) (levels_from is rs k qs ++ d ∷ []) ≡ equal → sign_list c d ≡ equal
unfolding sign_levels levels_from
levels-last is [] k ps qs c d e = (or_else-both (sign_list c d) equal e).0
levels-last is (r ∷ rs) k ps qs c d e =
    levels-last is rs (suc k) ps qs c d
    (or_else-both
    (sign_list (level_entries is r k ps) (level_entries is r k qs))
    (sign_levels (levels_from is rs (suc k) ps ++ c ∷ []) (levels_from is rs (suc k) qs ++ d ∷ []))
    e).1

-- only the same string is equal
pub compare-equal : (m : Meaning) (a b : List ℕ) → ((compare_of m a b).sign ≡ equal) ↔ (a ≡ b)
unfolding levels_of
compare-equal m a b = (
  λ e. codes-unique a b (sign_list-unique (codes a) (codes b)
      (levels-last m.items m.rules 0 (elements m.items 0 a) (elements m.items 0 b) (codes a) (codes b) (sym (compare_sign m a b) ∙ e))),
  λ e. ap (λ (x : List ℕ). (compare_of m a x).sign) (sym e) ∙ compare_refl m a,
)

-- ## Common beginnings

onward-opposite : (z : Sign) (n : ℕ) → onward (opposite z) n ≡ onward z n
onward-opposite less n = refl
onward-opposite equal n = refl
onward-opposite greater n = refl

pub common-comm : (xs ys : List Entry) → common ys xs ≡ common xs ys
unfolding common
common-comm [] [] = refl
common-comm [] (y ∷ ys) = refl
common-comm (x ∷ xs) [] = refl
common-comm (x ∷ xs) (y ∷ ys) = rw (orders-entry.back x y, common-comm xs ys) (onward-opposite (sign_entry x y) (common xs ys))

onward-le : (z : Sign) (c n : ℕ) → c ≤ n → onward z c ≤ suc n
onward-le less c n h = omega arith
onward-le equal c n h = omega arith
onward-le greater c n h = omega arith

pub common-le : (xs ys : List Entry) → common xs ys ≤ length xs
unfolding common
common-le [] ys = omega arith
common-le (x ∷ xs) [] = omega arith
common-le (x ∷ xs) (y ∷ ys) = onward-le (sign_entry x y) (common xs ys) (length xs) (common-le xs ys)

-- two lists begin with so many entries alike
pub common-take : (xs ys : List Entry) → take (common xs ys) xs ≡ take (common xs ys) ys
unfolding common
common-take [] [] = refl
common-take [] (y ∷ ys) = refl
common-take (x ∷ xs) [] = refl
common-take (x ∷ xs) (y ∷ ys) = go (sign_entry x y) refl (common-take xs ys)
  where
    go : (z : Sign) → sign_entry x y ≡ z → take (common xs ys) xs ≡ take (common xs ys) ys
        → take (onward z (common xs ys)) (x ∷ xs) ≡ take (onward z (common xs ys)) (y ∷ ys)
    go less e h = refl
    go equal e h = let p = sign_entry-unique x y e in cc
    go greater e h = refl

-- and the next entries differ, where there are any
pub common-next : (xs ys : List Entry) (d : Entry) → common xs ys < length xs → common xs ys < length ys
    → get_or xs (common xs ys) d ≡ get_or ys (common xs ys) d → ⊥
unfolding common
common-next [] ys d h k e = omega arith
common-next (x ∷ xs) [] d h k e = omega arith
common-next (x ∷ xs) (y ∷ ys) d h k e = go (sign_entry x y) refl (common-next xs ys d) h k e
  where
    apart : (z : Sign) → sign_entry x y ≡ z → x ≡ y → z ≡ equal
    apart z q p = sym q ∙ ap (λ (v : Entry). sign_entry x v) (sym p) ∙ orders-entry.self x

    go : (z : Sign) → sign_entry x y ≡ z
        → (common xs ys < length xs → common xs ys < length ys → get_or xs (common xs ys) d ≡ get_or ys (common xs ys) d → ⊥)
        → onward z (common xs ys) < suc (length xs) → onward z (common xs ys) < suc (length ys)
        → get_or (x ∷ xs) (onward z (common xs ys)) d ≡ get_or (y ∷ ys) (onward z (common xs ys)) d → ⊥
    go less q f h k e = less≢equal (apart less q e)
    go equal q f h k e = f (omega arith) (omega arith) e
    go greater q f h k e = greater≢equal (apart greater q e)

-- ## Two strings that change places

-- the answer with the opposite sign
abbrev pub turned : Answer → Answer
turned r = record { sign = opposite r.sign; level = r.level; agreed = r.agreed }

settled-turned : (z : Sign) (k n : ℕ) (r : Answer) → settled (opposite z) k n (turned r) ≡ turned (settled z k n r)
settled-turned less k n r = refl
settled-turned equal k n r = refl
settled-turned greater k n r = refl

answer-turned : (k : ℕ) (as' bs : List (List Entry)) → answer_from k bs as' ≡ turned (answer_from k as' bs)
unfolding answer_from
answer-turned k [] [] = refl
answer-turned k [] (b ∷ bs) = refl
answer-turned k (a ∷ as') [] = refl
answer-turned k (a ∷ as') (b ∷ bs) =
    rw (orders-list.back a b, common-comm a b, answer-turned (suc k) as' bs)
    (settled-turned (sign_list a b) k (common a b) (answer_from (suc k) as' bs))

-- the opposite sign, the same level and the same agreed entries
pub compare-antisym : (m : Meaning) (a b : List ℕ) → compare_of m b a ≡ turned (compare_of m a b)
unfolding compare_of
compare-antisym m a b = answer-turned 1 (entry_lists m a) (entry_lists m b)

-- ## The deciding level

settled-level : (z : Sign) (k n : ℕ) (r : Answer) → (r.level ≡ 0) ↔ (r.sign ≡ equal)
    → ((settled z (suc k) n r).level ≡ 0) ↔ ((settled z (suc k) n r).sign ≡ equal)
settled-level less k n r h = (λ e. absurd (omega arith), λ e. cc)
settled-level equal k n r h = h
settled-level greater k n r h = (λ e. absurd (omega arith), λ e. cc)

answer-level : (k : ℕ) (as' bs : List (List Entry)) → ((answer_from (suc k) as' bs).level ≡ 0) ↔ ((answer_from (suc k) as' bs).sign ≡ equal)
unfolding answer_from
answer-level k [] bs = (λ e. refl, λ e. refl)
answer-level k (a ∷ as') [] = (λ e. refl, λ e. refl)
answer-level k (a ∷ as') (b ∷ bs) = settled-level (sign_list a b) k (common a b) (answer_from (suc (suc k)) as' bs) (answer-level (suc k) as' bs)

-- "deciding level (0 if equal)"
pub compare-level : (m : Meaning) (a b : List ℕ) → ((compare_of m a b).level ≡ 0) ↔ ((compare_of m a b).sign ≡ equal)
unfolding compare_of
compare-level m a b = answer-level 0 (entry_lists m a) (entry_lists m b)

settled-level-le : (z : Sign) (k n l : ℕ) (r : Answer) → r.level ≤ suc k + l → (settled z (suc k) n r).level ≤ k + suc l
settled-level-le less k n l r h = omega arith
settled-level-le equal k n l r h = omega arith
settled-level-le greater k n l r h = omega arith

answer-level-le : (k : ℕ) (as' bs : List (List Entry)) → (answer_from (suc k) as' bs).level ≤ k + length as'
unfolding answer_from
answer-level-le k [] bs = omega arith
answer-level-le k (a ∷ as') [] = omega arith
answer-level-le k (a ∷ as') (b ∷ bs) =
    settled-level-le (sign_list a b) k (common a b) (length as') (answer_from (suc (suc k)) as' bs) (answer-level-le (suc k) as' bs)

-- "code points .. as level L + 1" are the last
pub compare-level-le : (m : Meaning) (a b : List ℕ) → (compare_of m a b).level ≤ length m.rules + 1
unfolding compare_of
compare-level-le m a b =
    let h = answer-level-le 0 (entry_lists m a) (entry_lists m b) in
    let e = entry_lists-length m a in
    omega arith

-- ## The agreed entries

-- "the lengths of the common beginnings, summed"
unfoldable pub common_sum : List (List Entry) → List (List Entry) → ℕ
common_sum [] bs = 0
common_sum (a ∷ as') [] = 0
common_sum (a ∷ as') (b ∷ bs) = common a b + common_sum as' bs

-- What a deciding level says, n levels standing before it: those are alike, it has the answer's sign, and the common beginnings through
-- it are counted.
pub record Decided (n : ℕ) (as' bs : List (List Entry)) (r : Answer) : Type 0 where
  pub alike : take n as' ≡ take n bs
  pub sign : sign_list (get_or as' n []) (get_or bs n []) ≡ r.sign
  pub agreed : r.agreed ≡ common_sum (take (suc n) as') (take (suc n) bs)

settled-least : (z : Sign) (k n : ℕ) (r : Answer) → (0 < r.level → suc k < r.level) → 0 < (settled z (suc k) n r).level
    → k < (settled z (suc k) n r).level
settled-least less k n r f h = omega arith
settled-least equal k n r f h = let g = f h in omega arith
settled-least greater k n r f h = omega arith

-- a level that decides is one of those that are compared, from k + 1 on
answer-least : (k : ℕ) (as' bs : List (List Entry)) → 0 < (answer_from (suc k) as' bs).level → k < (answer_from (suc k) as' bs).level
unfolding answer_from
answer-least k [] bs h = omega arith
answer-least k (a ∷ as') [] h = omega arith
answer-least k (a ∷ as') (b ∷ bs) h =
    settled-least (sign_list a b) k (common a b) (answer_from (suc (suc k)) as' bs) (answer-least (suc k) as' bs) h

settled-decided : (z : Sign) (k n : ℕ) (a b : List Entry) (as' bs : List (List Entry)) (r : Answer) → sign_list a b ≡ z
    → (0 < r.level → suc k < r.level) → ((i : ℕ) → r.level ≡ suc (suc k + i) → Decided i as' bs r)
    → (settled z (suc k) (common a b) r).level ≡ suc (k + n) → Decided n (a ∷ as') (b ∷ bs) (settled z (suc k) (common a b) r)
unfolding common_sum
settled-decided less k zero a b as' bs r q f g e = record { alike = refl; sign = q; agreed = omega arith }
settled-decided less k (suc n) a b as' bs r q f g e = absurd (omega arith)
settled-decided equal k zero a b as' bs r q f g e = let h = f (omega arith) in absurd (omega arith)
settled-decided equal k (suc n) a b as' bs r q f g e =
    let d = g n (omega arith) in
    let p = sign_list-unique a b q in
    let h = d.alike in
    record { alike = cc; sign = d.sign; agreed = ap (λ (x : ℕ). common a b + x) d.agreed }
settled-decided greater k zero a b as' bs r q f g e = record { alike = refl; sign = q; agreed = omega arith }
settled-decided greater k (suc n) a b as' bs r q f g e = absurd (omega arith)

answer-decided : (k n : ℕ) (as' bs : List (List Entry)) → (answer_from (suc k) as' bs).level ≡ suc (k + n)
    → Decided n as' bs (answer_from (suc k) as' bs)
unfolding answer_from
answer-decided k n [] bs e = absurd (omega arith)
answer-decided k n (a ∷ as') [] e = absurd (omega arith)
answer-decided k n (a ∷ as') (b ∷ bs) e =
    settled-decided (sign_list a b) k n a b as' bs (answer_from (suc (suc k)) as' bs) refl
    (answer-least (suc k) as' bs) (λ i. answer-decided (suc k) i as' bs) e

-- "Level after level, the first difference decides"
pub compare-decided : (m : Meaning) (a b : List ℕ) (n : ℕ) → (compare_of m a b).level ≡ suc n
    → Decided n (entry_lists m a) (entry_lists m b) (compare_of m a b)
unfolding compare_of
compare-decided m a b n e = answer-decided 0 n (entry_lists m a) (entry_lists m b) (omega arith)

settled-agreed : (z : Sign) (k n s : ℕ) (r : Answer) → (r.sign ≡ equal → r.agreed ≡ s)
    → (settled z k n r).sign ≡ equal → (settled z k n r).agreed ≡ n + s
settled-agreed less k n s r f e = cc
settled-agreed equal k n s r f e = ap (λ (x : ℕ). n + x) (f e)
settled-agreed greater k n s r f e = cc

answer-agreed : (k : ℕ) (as' bs : List (List Entry)) → (answer_from k as' bs).sign ≡ equal
    → (answer_from k as' bs).agreed ≡ common_sum as' bs
unfolding answer_from common_sum
answer-agreed k [] bs e = refl
answer-agreed k (a ∷ as') [] e = refl
answer-agreed k (a ∷ as') (b ∷ bs) e =
    settled-agreed (sign_list a b) k (common a b) (common_sum as' bs) (answer_from (suc k) as' bs) (answer-agreed (suc k) as' bs) e

-- the levels through the deciding one, or all of them where none decides
abbrev pub through : ℕ → List (List Entry) → List (List Entry)
through zero ls = ls
through (suc n) ls = take (suc n) ls

-- "agreed entries: the lengths of the common beginnings, summed through the deciding level, or through all of them if equal"
pub compare-agreed : (m : Meaning) (a b : List ℕ)
    → (compare_of m a b).agreed
    ≡ common_sum (through (compare_of m a b).level (entry_lists m a)) (through (compare_of m a b).level (entry_lists m b))
unfolding compare_of
compare-agreed m a b = go (compare_of m a b).level refl
  where
    go : (n : ℕ) → (compare_of m a b).level ≡ n
        → (compare_of m a b).agreed ≡ common_sum (through n (entry_lists m a)) (through n (entry_lists m b))
    go zero e = answer-agreed 1 (entry_lists m a) (entry_lists m b) ((compare-level m a b).0 e)
    go (suc n) e = (compare-decided m a b n e).agreed
