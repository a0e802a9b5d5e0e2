-- Where the parts of an accepted table stand: its rules, the end of each item's weights at each level, the weights.
use mathlib.Core.Path.{◌≡◌, refl, sym, ap, ◌∙◌}
use mathlib.Core.Bool.{Bool, true, false}
use mathlib.Core.List.{List, [], ◌∷◌, ◌++◌, map, flatten, append_assoc}
use Prim.Native.Nat.{ℕ, zero, suc, pred, ◌+◌, ◌-◌, ◌*◌, ◌%◌, ◌≤◌, ◌<◌}
use native.Mathlib.Numerals.{sub-one}
use native.Mathlib.Nat.{min-le_right, suc-mul, zero-mul, mul-le-mul_right}
use native.Mathlib.Omega.{arith}
use lib.ListN.{length, get_or, take, drop, length-map, length-take, length-drop, get_or-append}
use lib.Seq.{drop-drop, drop_at, take-append_seam, drop-append-add, get_or-drop, get_or-append-add}
use lib.Dec.{eqb, leb}
use Rattle.rules.specs.Meaning.{Rule, Item, Meaning, good_item, weight_count, size_of, good}
use Rattle.rules.specs.Table.{counts, sums, weight_lists, ends, char_numbers, mask, listing, starts, rule_number, rule_of_number, weight_numbers, stored_form, meaning_in, accepted}
use Rattle.rules.specs.Order.{weights_at, no_item}
use Rattle.rules.specs.Text.{every}
use Rattle.rules.proofs.TextLaws.{every-head, every-tail}
use Rattle.rules.proofs.EntryLaws.{weights_at-good}
use Rattle.rules.proofs.WidthLaws.{good-count}
use Rattle.rules.proofs.MeaningLaws.{item-parts, Good, good-parts}
use Rattle.rules.proofs.StorableLaws.{AllStored, meaning-stored, rule-back, rules-drop}
use Rattle.rules.proofs.SizeLaws.{lists_length, ends-length, stored-size}
use Rattle.rules.proofs.TableLaws.{accepted-stored, lists-flat, parts-drop}
use Rattle.table_layout.specs.declared.Shape.{Shape}
use Rattle.table_layout.specs.Parts.{ends_at, rules_part, weights_part, rule_as, rule_at, Within, Before, Shaped, Holds, Many}
use Rattle.table_layout.proofs.LayoutLaws.{ends_at-is, ends_at-bound, ends_at-least, weights_part-bound}

-- ## Running sums

-- one more is what it adds above the one before
sums-step : (at : ℕ) (ws : List (List ℕ)) (x : ℕ) → x < length ws → get_or (sums at (counts ws)) x 0 ≡ get_or (at ∷ sums at (counts ws)) x 0 + length (get_or ws x [])
unfolding sums
sums-step at [] x h = absurd (omega arith)
sums-step at (w ∷ ws) zero h = refl
sums-step at (w ∷ ws) (suc x) h = sums-step (at + length w) ws x (omega arith)

-- running sums are not below where they begin
sums-low : (at : ℕ) (ns : List ℕ) (x : ℕ) → x ≤ length ns → at ≤ get_or (at ∷ sums at ns) x 0
unfolding sums
sums-low at ns zero h = omega arith
sums-low at [] (suc x) h = absurd (omega arith)
sums-low at (n ∷ ns) (suc x) h = omega (arith, sums-low (at + n) ns x (omega arith))

list_held : (ws : List (List ℕ)) (rest : List ℕ) (at x : ℕ) → x < length ws
    → take (get_or (sums at (counts ws)) x 0 - get_or (at ∷ sums at (counts ws)) x 0) (drop (get_or (at ∷ sums at (counts ws)) x 0 - at) (flatten ws ++ rest))
    ≡ get_or ws x []
unfolding sums flatten
list_held [] rest at x h = absurd (omega arith)
list_held (w ∷ ws) rest at zero h =
    let e : (at + length w) - at ≡ length w = omega arith in
    let z : at - at ≡ 0 = omega arith in
    rw (e, z, append_assoc w (flatten ws) rest) (take-append_seam w (flatten ws ++ rest))
list_held (w ∷ ws) rest at (suc x) h =
    let b : ℕ = get_or ((at + length w) ∷ sums (at + length w) (counts ws)) x 0 in
    let low : at + length w ≤ b = sums-low (at + length w) (counts ws) x (omega (arith, lib.ListN.length-map ws length)) in
    let e : b - at ≡ length w + (b - (at + length w)) = omega arith in
    rw (e, append_assoc w (flatten ws) rest, drop-append-add w (flatten ws ++ rest) (b - (at + length w))) (list_held ws rest (at + length w) x (omega arith))

lists_at : (l : ℕ) (is : List Item) (k j : ℕ) → AllStored l is → k < length is → j < l
    → get_or (weight_lists is) (k * l + j) [] ≡ get_or (get_or is k no_item).weights j []
unfolding weight_lists
lists_at l [] k j s h u = absurd (omega arith)
lists_at l (i ∷ is) zero j s h u =
    let e : 0 * l + j ≡ j = omega (arith, zero-mul l) in
    rw e (get_or-append i.weights (weight_lists is) [] j (omega (arith, s.0.2)))
lists_at l (i ∷ is) (suc k) j s h u =
    let e : suc k * l + j ≡ length i.weights + (k * l + j) = omega (arith, suc-mul k l, s.0.2) in
    rw (e, get_or-append-add i.weights (weight_lists is) (k * l + j) []) (lists_at l is k j s.1 (omega arith) u)

-- an item has as many lists of weights as the table has levels
pub stored-levels : (l : ℕ) (is : List Item) (k : ℕ) → k < length is → every (good_item l) is ≡ true → length (get_or is k no_item).weights ≡ l
stored-levels l [] k b h = absurd (omega arith)
stored-levels l (i ∷ is) zero b h = (item-parts l i (every-head (good_item l) i is h)).levels
stored-levels l (i ∷ is) (suc k) b h = stored-levels l is k (omega arith) (every-tail (good_item l) i is h)

-- so many numbers can be taken only where they stand
run_inside : (n from : ℕ) (t : List ℕ) → length (take n (drop from t)) ≡ n → 0 < n → from + n ≤ length t
run_inside n from t e h =
    let l : length (take n (drop from t)) ≤ length t - from = rw (length-take n (drop from t), length-drop from t) (min-le_right n (length t - from)) in
    omega arith

-- ## A stored meaning

module _ (m : Meaning) (rest : List ℕ) (g : good m ≡ true) where
  -- the rules, and what follows them
  abbrev rules_on : List ℕ
  rules_on = map rule_number m.rules ++ weight_numbers m.items rest

  -- the number before the first end is a spare one
  from-ends : drop 15 (stored_form m rest) ≡ (0 ∷ ends m.items) ++ char_numbers m.items (listing m.items ++ starts m.items ++ rules_on)
  unfolding stored_form
  from-ends = refl

  pub stored-chars : drop (ends_at (length m.rules) (length m.items)) (stored_form m rest)
      ≡ char_numbers m.items (listing m.items ++ starts m.items ++ rules_on)
  unfolding stored_form ends_at
  stored-chars =
      let n : ℕ = length m.items * length m.rules in
      sym (drop-drop n 16 (stored_form m rest)) ∙ drop_at (ends m.items) _ n (ends-length (length m.rules) m.items (meaning-stored m g))

  stored-rules : drop (rules_part (length m.rules) (length m.items)) (stored_form m rest) ≡ rules_on
  stored-rules =
      let l : ℕ = length m.rules in
      let n : ℕ = length m.items in
      sym (drop-drop (6 * n) (ends_at l n) (stored_form m rest)) ∙ ap (drop (6 * n)) stored-chars ∙ parts-drop m.items rules_on

  stored-weights : drop (weights_part (length m.rules) (length m.items)) (stored_form m rest) ≡ weight_numbers m.items rest
  stored-weights =
      let l : ℕ = length m.rules in
      sym (drop-drop l (rules_part l (length m.items)) (stored_form m rest)) ∙ ap (drop l) stored-rules ∙ rules-drop m.rules (weight_numbers m.items rest)

  -- the x-th end, and the one before it
  stored-end : (x : ℕ) → x ≤ length m.items * length m.rules → get_or (stored_form m rest) (15 + x) 0 ≡ get_or (0 ∷ ends m.items) x 0
  stored-end x h =
      let n = ends-length (length m.rules) m.items (meaning-stored m g) in
      sym (get_or-drop 15 (stored_form m rest) x 0) ∙ ap (λ (u : List ℕ). get_or u x 0) from-ends
      ∙ get_or-append (0 ∷ ends m.items) _ 0 x (omega arith)

-- ## An accepted table

-- what follows it in its area
abbrev rest_of : List ℕ → List ℕ
rest_of t = drop (length (stored_form (meaning_in t) [])) t

get_d-rules : (rs : List Rule) (more : List ℕ) (k : ℕ) (d : Rule) → k < length rs → get_or (map rule_number rs ++ more) k 0 ≡ rule_number (get_or rs k d)
get_d-rules [] more k d h = absurd (omega arith)
get_d-rules (r ∷ rs) more zero d h = refl
get_d-rules (r ∷ rs) more (suc k) d h = get_d-rules rs more k d (omega arith)

module _ (t : List ℕ) (h : accepted t ≡ true) where
  whole : t ≡ stored_form (meaning_in t) (rest_of t)
  whole = (accepted-stored t h).1

  pub good-in : good (meaning_in t) ≡ true
  good-in = (accepted-stored t h).0

  pub table-good : Good (meaning_in t)
  table-good = good-parts (meaning_in t) good-in

  pub table-levels : get_or t 0 0 ≡ length (meaning_in t).rules
  unfolding stored_form
  table-levels = ap (λ (x : List ℕ). get_or x 0 0) whole

  pub table-items : get_or t 1 0 ≡ length (meaning_in t).items
  unfolding stored_form
  table-items = ap (λ (x : List ℕ). get_or x 1 0) whole

  pub table-mask : get_or t 3 0 ≡ mask (length (meaning_in t).items)
  unfolding stored_form
  table-mask = ap (λ (x : List ℕ). get_or x 3 0) whole

  -- all its parts are in the area
  pub table-long : weights_part (length (meaning_in t).rules) (length (meaning_in t).items) + weight_count (meaning_in t).items ≤ length t
  unfolding size_of
  table-long =
      let l : ℕ = length (meaning_in t).rules in
      let n : ℕ = length (meaning_in t).items in
      let e = ap length whole in
      let s = stored-size (meaning_in t) (rest_of t) good-in in
      omega (arith, ends_at-is l n, native.Mathlib.Nat.mul-add n 6 l)

  table-rule : (level : ℕ) → level < length (meaning_in t).rules
      → get_or t (rules_part (length (meaning_in t).rules) (length (meaning_in t).items) + level) 0 ≡ rule_number (rule_at t level)
  table-rule level k =
      let at : ℕ = rules_part (length (meaning_in t).rules) (length (meaning_in t).items) in
      sym (get_or-drop at t level 0)
      ∙ ap (λ (x : List ℕ). get_or (drop at x) level 0) whole
      ∙ ap (λ (x : List ℕ). get_or x level 0) (stored-rules (meaning_in t) (rest_of t) good-in)
      ∙ get_d-rules (meaning_in t).rules (weight_numbers (meaning_in t).items (rest_of t)) level _ k

  -- the weights, from where they begin on
  table-weights : drop (weights_part (length (meaning_in t).rules) (length (meaning_in t).items)) t ≡ weight_numbers (meaning_in t).items (rest_of t)
  table-weights =
      ap (drop (weights_part (length (meaning_in t).rules) (length (meaning_in t).items))) whole ∙ stored-weights (meaning_in t) (rest_of t) good-in

  -- the characters, and what follows them
  pub table-chars : drop (ends_at (length (meaning_in t).rules) (length (meaning_in t).items)) t
      ≡ char_numbers (meaning_in t).items (listing (meaning_in t).items ++ starts (meaning_in t).items ++ rules_on (meaning_in t) (rest_of t) good-in)
  table-chars =
      ap (drop (ends_at (length (meaning_in t).rules) (length (meaning_in t).items))) whole ∙ stored-chars (meaning_in t) (rest_of t) good-in

  -- the x-th end, and the one before it
  table-end : (x : ℕ) → x ≤ length (meaning_in t).items * length (meaning_in t).rules → get_or t (15 + x) 0 ≡ get_or (0 ∷ ends (meaning_in t).items) x 0
  table-end x b = ap (λ (u : List ℕ). get_or u (15 + x) 0) whole ∙ stored-end (meaning_in t) (rest_of t) good-in x b

  -- the header is in the area
  pub table-head : 16 ≤ length t
  table-head = let e = table-long in omega (arith, ends_at-least (length (meaning_in t).rules) (length (meaning_in t).items))

-- ## A rule by its number

-- the number says which way, and whether positions count
told : (b p : Bool) → rule_as (record { backward = eqb (rule_number (record { backward = b; position = p }) % 2) 1; position = leb 2 (rule_number (record { backward = b; position = p })) }) ≡ record { backward = b; position = p }
unfolding rule_number
told true true = refl
told true false = refl
told false true = refl
told false false = refl

pub rule-told : {n : ℕ} (r : Rule) → n ≡ rule_number r → rule_as (record { backward = eqb (n % 2) 1; position = leb 2 n }) ≡ r
rule-told r e = rw e (told r.backward r.position)

-- ## Where an item's weights at a level are found

-- how large the parts are
pub record Sizes (t : List ℕ) (l n : ℕ) : Type 0 where
  pub few-levels : l ≤ 8
  pub few-items : n ≤ 32768
  pub long : weights_part l n ≤ length t
  pub near : ends_at l n ≤ 262160

pub table-sizes : (t : List ℕ) {l n : ℕ} → accepted t ≡ true → l ≡ length (meaning_in t).rules → n ≡ length (meaning_in t).items → Sizes t l n
table-sizes t h le ne =
    let g = table-good t h in
    let a = g.few-levels in
    let b = g.few-items in
    rw (le, ne) (record {
      few-levels = a;
      few-items = b;
      long = let e = table-long t h in omega arith;
      near = ends_at-bound (length (meaning_in t).rules) (length (meaning_in t).items) a b;
    })

-- the weights of a table begin near
pub shaped-near : {t : List ℕ} {s : Shape} → Shaped t s → s.weights ≤ 458776
shaped-near {t} {s} w =
    let g = table-good t w.checked in
    omega (arith, w.weights-are, weights_part-bound (length (meaning_in t).rules) (length (meaning_in t).items) g.few-levels g.few-items)

-- the number of a level's rule, as the code reads it
pub rule-read : (t : List ℕ) (level l n r : ℕ) → accepted t ≡ true → level < length (meaning_in t).rules → l ≡ length (meaning_in t).rules
    → n ≡ length (meaning_in t).items → r ≡ rules_part l n → get_or t (r + level) 0 ≡ rule_number (rule_at t level)
rule-read t level l n r h k le ne e = rw (e, le, ne) (table-rule t h level k)

module _ (t : List ℕ) (place : ℕ) (w : Within t place 0) where
  few : Good (meaning_in t)
  few = table-good t w.checked

  -- the ends of the item at the place are in the area, and so is the number before them
  pub ends-inside : (level : ℕ) → level ≤ length (meaning_in t).rules
      → pred place * length (meaning_in t).rules + level ≤ length (meaning_in t).items * length (meaning_in t).rules
  ends-inside level h =
      let l : ℕ = length (meaning_in t).rules in
      let n : ℕ = length (meaning_in t).items in
      let b : suc (pred place) ≤ n = omega (arith, w.from_one, w.in-items) in
      omega (arith, suc-mul (pred place) l, mul-le-mul_right {m = suc (pred place)} {n = n} l b)

  module _ (level at : ℕ) (h : level ≤ length (meaning_in t).rules) (e : at ≡ ends_at (length (meaning_in t).rules) (pred place) + level) where
    at-is : at ≡ 16 + (pred place * length (meaning_in t).rules + level)
    at-is = omega (arith, e, ends_at-is (length (meaning_in t).rules) (pred place))

    pub before-inside : (1 ≤ at) × (at - 1 < length t) × (at ≤ 262160)
    before-inside =
        let l : ℕ = length (meaning_in t).rules in
        let n : ℕ = length (meaning_in t).items in
        let b = ends-inside level h in
        let long = table-long t w.checked in
        let near = ends_at-bound l n few.few-levels few.few-items in
        (omega (arith, at-is), omega (arith, at-is, ends_at-is l n), omega (arith, at-is, ends_at-is l n))

    pub before-is : get_or t (at - 1) 0 ≡ get_or (0 ∷ ends (meaning_in t).items) (pred place * length (meaning_in t).rules + level) 0
    before-is =
        let x : ℕ = pred place * length (meaning_in t).rules + level in
        let z : at - 1 ≡ 15 + x = omega (arith, at-is) in
        rw z (table-end t w.checked x (ends-inside level h))

  -- the same as the code has it
  pub read_at : (level l r : ℕ) → level ≤ length (meaning_in t).rules → l ≡ length (meaning_in t).rules → r ≡ ends_at l (place - 1)
      → r + level ≡ ends_at (length (meaning_in t).rules) (pred place) + level
  read_at level l r h le e = rw (e, le, sub-one place)

module _ (t : List ℕ) (place level : ℕ) (w : Within t place level) where
  pub within_first : Within t place 0
  within_first = record { checked = w.checked; from_one = w.from_one; in-items = w.in-items; in-levels = omega (arith, w.in-levels) }

  few-are : length (weights_at (meaning_in t).items level place) ≤ 8
  few-are = good-count (weights_at (meaning_in t).items level place) (weights_at-good (length (meaning_in t).rules) (meaning_in t).items (table-good t w.checked).items level place)

  place_in : pred place < length (meaning_in t).items
  place_in = omega (arith, w.from_one, w.in-items)

  level_in : pred place * length (meaning_in t).rules + level < length (weight_lists (meaning_in t).items)
  level_in =
      let s = meaning-stored (meaning_in t) (good-in t w.checked) in
      let e = ends-inside t place within_first (suc level) w.in-levels in
      omega (arith, lists_length (length (meaning_in t).rules) (meaning_in t).items s)

  lists-are : get_or (weight_lists (meaning_in t).items) (pred place * length (meaning_in t).rules + level) [] ≡ weights_at (meaning_in t).items level place
  unfolding weights_at
  lists-are =
      lists_at (length (meaning_in t).rules) (meaning_in t).items (pred place) level (meaning-stored (meaning_in t) (good-in t w.checked)) place_in w.in-levels

  module _ (b r : ℕ) (h : Before t place level b) (k : Before t place (level + 1) r) where
    -- behind the level: its weights more
    before-next : r ≡ b + length (weights_at (meaning_in t).items level place)
    unfolding ends
    before-next =
        let x : ℕ = pred place * length (meaning_in t).rules + level in
        let z : pred place * length (meaning_in t).rules + (level + 1) ≡ suc x = omega arith in
        let e : r ≡ get_or (sums 0 (counts (weight_lists (meaning_in t).items))) x 0 = rw z at k.is in
        e ∙ sums-step 0 (weight_lists (meaning_in t).items) x level_in
        ∙ rw (← h.is, lists-are)

    pub many-at : (b ≤ r) × Many t place level (r - b)
    many-at = (omega (arith, before-next), record { is = omega (arith, before-next); few = omega (arith, before-next, few-are) })

    module _ (base : ℕ) (e : base ≡ weights_part (length (meaning_in t).rules) (length (meaning_in t).items)) where
      run_is : take (r - b) (drop (base + b) t) ≡ weights_at (meaning_in t).items level place
      unfolding ends
      run_is =
          let is : List Item = (meaning_in t).items in
          let x : ℕ = pred place * length (meaning_in t).rules + level in
          let ws : List (List ℕ) = weight_lists is in
          let c : ℕ = get_or (0 ∷ sums 0 (counts ws)) x 0 in
          let z : c - 0 ≡ b = omega (arith, h.is) in
          let n : get_or (sums 0 (counts ws)) x 0 - c ≡ r - b = omega (arith, h.is, before-next, sums-step 0 ws x level_in, ap length lists-are) in
          let held = list_held ws (rest_of t) 0 x level_in in
          ap (take (r - b)) (sym (drop-drop b base t) ∙ ap (drop b) (ap (λ (p : ℕ). drop p t) e ∙ table-weights t w.checked ∙ lists-flat is (rest_of t)))
          ∙ (rw (z, n) at held) ∙ lists-are

      pub weights-held : Holds t (record { from = base + b; count = r - b }) (weights_at (meaning_in t).items level place)
      weights-held = record {
        is = run_is;
        many = many-at.1.is;
        few = many-at.1.few;
        inside = run_inside (r - b) (base + b) t (ap length run_is ∙ sym many-at.1.is);
      }
