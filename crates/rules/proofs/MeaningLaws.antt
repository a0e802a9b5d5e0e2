-- What it says that a meaning, or an item of it, is good (specs/Meaning), part by part; weights in their range; no two items alike.
use mathlib.Core.Path.{◌≡◌, refl, sym, ap}
use mathlib.Core.Bool.{Bool, true, false, not, ◌&&◌, false≢true}
use mathlib.Core.List.{List, [], ◌∷◌, ◌++◌, map}
use Prim.Native.Nat.{ℕ, zero, suc, ◌≤◌, ◌<◌}
use native.Mathlib.Omega.{arith}
use lib.ListN.{length, get_or}
use lib.Dec.{leb, eqb}
use borrow.Author.Tests.{leb-true, le-leb, eqb-true, eq-eqb, not-true}
use Rattle.base_lists.proofs.Bools.{and_left, and_right, and_intro, or-false-intro, not-intro, by, clash}
use Rattle.rules.specs.Text.{within, every, one_of, same}
use Rattle.rules.specs.Names.{is_character}
use Rattle.rules.specs.Meaning.{Item, Meaning, good_weights, good_item, has_chars, no_two_alike, good}
use Rattle.rules.proofs.TextLaws.{every-head, every-tail, one_of-append, one_of-head-false, one_of-tail-false, same_true, same_refl, same-swap-false}

-- ## An item

pub record GoodItem (l : ℕ) (i : Item) : Type 0 where
  pub short : length i.chars ≤ 4
  pub characters : every is_character i.chars ≡ true
  pub levels : length i.weights ≡ l
  pub weights : every good_weights i.weights ≡ true

pub item-parts : (l : ℕ) (i : Item) → good_item l i ≡ true → GoodItem l i
unfolding good_item
item-parts l i h =
    let a : Bool = leb (length i.chars) 4 in
    let b : Bool = every is_character i.chars in
    let c : Bool = eqb (length i.weights) l in
    let d : Bool = every good_weights i.weights in
    let abc : (a && b && c) ≡ true = and_left (a && b && c) d h in
    let ab : (a && b) ≡ true = and_left (a && b) c abc in
    record {
      short = leb-true (length i.chars) 4 (and_left a b ab);
      characters = and_right a b ab;
      levels = eqb-true (length i.weights) l (and_right (a && b) c abc);
      weights = and_right (a && b && c) d h;
    }

pub item-whole : (l : ℕ) (i : Item) → GoodItem l i → good_item l i ≡ true
unfolding good_item
item-whole l i g =
    and_intro
    (and_intro
    (and_intro (le-leb (length i.chars) 4 g.short) g.characters)
    (eq-eqb (length i.weights) l g.levels))
    g.weights

-- ## A meaning

pub record Good (m : Meaning) : Type 0 where
  pub some_level : 1 ≤ length m.rules
  pub few-levels : length m.rules ≤ 8
  pub few-items : length m.items ≤ 32768
  pub items : every (good_item (length m.rules)) m.items ≡ true
  pub apart : no_two_alike m.items ≡ true
  pub undefined : one_of (has_chars []) m.items ≡ true

pub good-parts : (m : Meaning) → good m ≡ true → Good m
unfolding good
good-parts m h =
    let l : ℕ = length m.rules in
    let a : Bool = within 1 8 l in
    let b : Bool = leb (length m.items) 32768 in
    let c : Bool = every (good_item l) m.items in
    let d : Bool = no_two_alike m.items in
    let e : Bool = one_of (has_chars []) m.items in
    let abcd : (a && b && c && d) ≡ true = and_left (a && b && c && d) e h in
    let abc : (a && b && c) ≡ true = and_left (a && b && c) d abcd in
    let ab : (a && b) ≡ true = and_left (a && b) c abc in
    let levels : a ≡ true = and_left a b ab in
    record {
      some_level = leb-true 1 l (and_left (leb 1 l) (leb l 8) levels);
      few-levels = leb-true l 8 (and_right (leb 1 l) (leb l 8) levels);
      few-items = leb-true (length m.items) 32768 (and_right a b ab);
      items = and_right (a && b) c abc;
      apart = and_right (a && b && c) d abcd;
      undefined = and_right (a && b && c && d) e h;
    }

pub good-whole : (m : Meaning) → Good m → good m ≡ true
unfolding good
good-whole m g =
    let l : ℕ = length m.rules in
    and_intro
    (and_intro
    (and_intro
    (and_intro
    (and_intro (le-leb 1 l g.some_level) (le-leb l 8 g.few-levels))
    (le-leb (length m.items) 32768 g.few-items))
    g.items)
    g.apart)
    g.undefined

-- ## Weights

good_weights-within : (ws : List (List ℕ)) → every good_weights ws ≡ true → every (every (within 1 32768)) ws ≡ true
unfolding every good_weights
good_weights-within [] h = refl
good_weights-within (w ∷ ws) h =
    and_intro
    (and_right (leb (length w) 8) (every (within 1 32768) w) (every-head good_weights w ws h))
    (good_weights-within ws (every-tail good_weights w ws h))

-- every weight of every level of good items is from 1 to 32,768
pub good_items-weights : (n : ℕ) (is : List Item) → every (good_item n) is ≡ true
    → every (every (every (within 1 32768))) (map (λ (i : Item). i.weights) is) ≡ true
unfolding every
good_items-weights n [] h = refl
good_items-weights n (i ∷ is) h =
    and_intro
    (good_weights-within i.weights (item-parts n i (every-head (good_item n) i is h)).weights)
    (good_items-weights n is (every-tail (good_item n) i is h))

-- ## No two alike

no_two_alike-head : (i : Item) (is : List Item) → no_two_alike (i ∷ is) ≡ true → one_of (has_chars i.chars) is ≡ false
unfolding no_two_alike
no_two_alike-head i is h =
    not-true (one_of (has_chars i.chars) is) (and_left (not (one_of (has_chars i.chars) is)) (no_two_alike is) h)

no_two_alike-tail : (i : Item) (is : List Item) → no_two_alike (i ∷ is) ≡ true → no_two_alike is ≡ true
unfolding no_two_alike
no_two_alike-tail i is h = and_right (not (one_of (has_chars i.chars) is)) (no_two_alike is) h

-- one item more, at the end, that is like none
pub no_two_alike-append : (is : List Item) (i : Item) → no_two_alike is ≡ true → one_of (has_chars i.chars) is ≡ false → no_two_alike (is ++ i ∷ []) ≡ true
unfolding no_two_alike one_of has_chars
no_two_alike-append [] i h e = refl
no_two_alike-append (x ∷ is) i h e =
    let u = same-swap-false i.chars x.chars (one_of-head-false (has_chars i.chars) x is e) in
    let none : one_of (has_chars x.chars) (is ++ i ∷ []) ≡ false =
    rw (one_of-append (has_chars x.chars) is (i ∷ [])) (or-false-intro (no_two_alike-head x is h) (or-false-intro u refl)) in
    and_intro (not-intro none) (no_two_alike-append is i (no_two_alike-tail x is h) (one_of-tail-false (has_chars i.chars) x is e))

-- where no item has these characters, the one at j has others
one_of-get_d : (cs : List ℕ) (is : List Item) (j : ℕ) (d : Item) → one_of (has_chars cs) is ≡ false → j < length is → cs ≡ (get_or is j d).chars → ⊥
unfolding has_chars
one_of-get_d cs [] j d h k e = omega arith
one_of-get_d cs (i ∷ is) zero d h k e = clash (rw (sym e) (same_refl cs)) (one_of-head-false (has_chars cs) i is h)
one_of-get_d cs (i ∷ is) (suc j) d h k e = one_of-get_d cs is j d (one_of-tail-false (has_chars cs) i is h) (omega arith) e

-- two items at two places have different characters
pub no_two_alike-get_d : (is : List Item) (i j : ℕ) (d : Item) → no_two_alike is ≡ true → i < j → j < length is
    → (get_or is i d).chars ≡ (get_or is j d).chars → ⊥
no_two_alike-get_d [] i j d h l k e = omega arith
no_two_alike-get_d (x ∷ is) i zero d h l k e = omega arith
no_two_alike-get_d (x ∷ is) zero (suc j) d h l k e = one_of-get_d x.chars is j d (no_two_alike-head x is h) (omega arith) e
no_two_alike-get_d (x ∷ is) (suc i) (suc j) d h l k e = no_two_alike-get_d is i j d (no_two_alike-tail x is h) (omega arith) (omega arith) e

-- ## One UNDEFINED

-- Exactly one item has these characters.
pub record Once (cs : List ℕ) (is : List Item) : Type 0 where
  pub before : List Item
  pub one : Item
  pub after : List Item
  pub whole : is ≡ before ++ one ∷ after
  pub chars : one.chars ≡ cs
  pub none_before : one_of (has_chars cs) before ≡ false
  pub none_after : one_of (has_chars cs) after ≡ false

-- where no two are alike, one that has them is the only one
pub no_two_alike-once : (cs : List ℕ) (is : List Item) → no_two_alike is ≡ true → one_of (has_chars cs) is ≡ true → Once cs is
unfolding one_of has_chars
no_two_alike-once cs [] h e = absurd (false≢true e)
no_two_alike-once cs (i ∷ is) h e =
    by (same cs i.chars) (λ t.
    let c = same_true cs i.chars t in
    record {
      before = [];
      one = i;
      after = is;
      whole = refl;
      chars = sym c;
      none_before = refl;
      none_after = rw c (no_two_alike-head i is h);
    }) (λ t.
    let r = no_two_alike-once cs is (no_two_alike-tail i is h) (rw t at e) in
    record {
      before = i ∷ r.before;
      one = r.one;
      after = r.after;
      whole = ap (λ (x : List Item). i ∷ x) r.whole;
      chars = r.chars;
      none_before = or-false-intro t r.none_before;
      none_after = r.none_after;
    })
