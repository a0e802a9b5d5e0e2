-- How many items and weights a table has, and numbers written into it: one of them again and again, rising numbers, the front, and the supplied item.
use mathlib.Core.Path.{◌≡◌, refl, sym, ap, ◌∙◌, subst}
use mathlib.Core.Bool.{Bool, true, false}
use mathlib.Core.List.{List, [], ◌∷◌}
use Prim.Native.Nat.{ℕ, suc, ◌+◌, ◌-◌, ◌*◌, ◌≤◌, ◌<◌}
use native.Mathlib.Nat.{mul-add}
use native.Mathlib.Numerals.{add-one}
use native.Mathlib.Omega.{arith}
use mir.Syntax.{w64}
use mir.Val.{Fits}
use borrow.Rule.Slice.PartMut.{put_mid}
use Rattle.std.proofs.lemmas.List.{length-replicate}
use Rattle.table_listing.proofs.WriteLaws.{sets-copied}
use lib.ListN.{length, take, drop, set, replicate, length-set, length-drop}
use lib.Seq.{sets, length-sets, length-take-le}
use Rattle.rules.specs.Table.{sums, mask}
use Rattle.table_layout.specs.Parts.{ends_at, weights_part}
use Rattle.table_layout.proofs.LayoutLaws.{ends_at-is, weights_part-bound}
use Rattle.table_records.specs.Writing.{Puts}
use Rattle.table_whole.specs.Building.{all_items, all_weights, table_size, front_numbers, supplied_ends, with_supplied}

-- ## How many

module _ (supplied : Bool) where
  pub all-items-more : (items : ℕ) → supplied ≡ true → items + 1 ≡ all_items supplied items
  all-items-more items e = rw e

  pub all-items-same : (items : ℕ) → supplied ≡ false → items ≡ all_items supplied items
  all-items-same items e = rw e

  pub all-weights-more : (levels weights : ℕ) → supplied ≡ true → weights + levels ≡ all_weights supplied levels weights
  all-weights-more levels weights e = rw e

  pub all-weights-same : (levels weights : ℕ) → supplied ≡ false → weights ≡ all_weights supplied levels weights
  all-weights-same levels weights e = rw e

pub all_near : (supplied : Bool) (items : ℕ) → all_items supplied items ≤ items + 1
all_near true items = omega arith
all_near false items = omega arith

pub all-weights-few : (supplied : Bool) (levels weights : ℕ) → levels ≤ 8 → weights ≤ 2097088 → all_weights supplied levels weights ≤ 2097096
all-weights-few true levels weights h k = omega arith
all-weights-few false levels weights h k = omega arith

-- the weights stand behind all other parts
pub size_is : (levels items weights : ℕ) (supplied : Bool)
    → table_size levels items weights supplied ≡ weights_part levels (all_items supplied items) + all_weights supplied levels weights
unfolding table_size
size_is levels items weights supplied =
    let all : ℕ = all_items supplied items in
    omega (arith, mul-add all 6 levels, ends_at-is levels all)

pub size-items : (supplied : Bool) (items : ℕ) {all : ℕ} → all ≡ all_items supplied items → items ≤ 32767 → all ≤ 32768
size-items supplied items e h = omega (arith, e, all_near supplied items)

module _ (levels items weights : ℕ) (supplied : Bool) {all base sum : ℕ} (e : all ≡ all_items supplied items) (f : base ≡ weights_part levels all)
    (k : sum ≡ all_weights supplied levels weights) where
  pub size_small : levels ≤ 8 → items ≤ 32767 → weights ≤ 2097088 → Fits w64 (base + sum)
  size_small h i w =
      omega (arith, f, k, weights_part-bound levels all h (size-items supplied items e i), all-weights-few supplied levels weights h w)

  pub size-whole : base + sum ≡ table_size levels items weights supplied
  size-whole = rw (f, e, k) (sym (size_is levels items weights supplied))

-- ## One number again and again

pub filled : (area : List ℕ) (at n x : ℕ) → at + n ≤ length area → {ys : List ℕ} → ys ≡ replicate (length (take (at + n - at) (drop at area))) x
    → put_mid at (at + n - at) area ys ≡ sets area at (replicate n x)
filled area at n x h e =
    let k : at + n - at ≡ n = omega arith in
    let l : length (take n (drop at area)) ≡ n = length-take-le n (drop at area) (simp length-drop (omega arith)) in
    let r : length (replicate n x) ≡ n = length-replicate n x in
    let m : at + length (replicate n x) - at ≡ n = omega arith in
    rw (e, k, l) (rw m at (sets-copied area at (replicate n x) (omega arith) refl))

-- x goes into an area n times from `at` on; `left` times of them are still to come, from i on.
pub record Repeating (area : List ℕ) (at n x : ℕ) (now : List ℕ) (i left : ℕ) : Type 0 where
  pub same : sets now i (replicate left x) ≡ sets area at (replicate n x)
  pub inside : i + left ≤ length now
  pub long : length now ≡ length area

pub repeating-none : (area : List ℕ) (at n x : ℕ) → at + n ≤ length area → Repeating area at n x area at n
repeating-none area at n x h = record { same = refl; inside = h; long = refl }

module _ {area : List ℕ} {at n x : ℕ} {now : List ℕ} {i left : ℕ} (v : Repeating area at n x now i left) where
  repeating-more : 0 < left → Repeating area at n x (set now i x) (i + 1) (left - 1)
  repeating-more h =
      let e : suc (left - 1) ≡ left = omega arith in
      let l : length (set now i x) ≡ length now = length-set now i x in
      record {
        same =
            ap (λ (k : ℕ). sets (set now i x) k (replicate (left - 1) x)) (add-one i)
            ∙ ap (λ (k : ℕ). sets now i (replicate k x)) e
            ∙ v.same;
        inside = omega (arith, v.inside);
        long = l ∙ v.long;
      }

  -- a weight was written by put_rank
  pub repeating-put : {slot : ℕ} {after : List ℕ} {next : ℕ} → 0 < left → slot ≡ i → Puts now slot (x ∷ []) after next → Repeating area at n x after (i + 1) (left - 1)
  repeating-put {slot} {after} h e p =
      let there : after ≡ sets now i (x ∷ []) = p.is ∙ ap (λ (j : ℕ). sets now j (x ∷ [])) e in
      subst (λ (a : List ℕ). Repeating area at n x a (i + 1) (left - 1)) (sym there) (repeating-more h)

  pub repeating-all : left ≤ 0 → now ≡ sets area at (replicate n x)
  repeating-all h =
      let e : 0 ≡ left = omega arith in
      ap (λ (k : ℕ). sets now i (replicate k x)) e ∙ v.same

-- ## Rising numbers

-- n numbers, each one above the one before it, go into an area from `at` on, the first being one above x; `left` of them are still to come, from i
-- on, and the last was y.
pub record Rising (area : List ℕ) (at n x : ℕ) (now : List ℕ) (i left y : ℕ) : Type 0 where
  pub same : sets now i (supplied_ends left y) ≡ sets area at (supplied_ends n x)
  pub inside : i + left ≤ length now
  pub small : y + left < 4294967296
  pub long : length now ≡ length area

pub rising_none : (area : List ℕ) (at n x : ℕ) → at + n ≤ length area → x + n < 4294967296 → Rising area at n x area at n x
rising_none area at n x h k = record { same = refl; inside = h; small = k; long = refl }

rising-suc : (left y : ℕ) → supplied_ends (suc left) y ≡ (y + 1) ∷ supplied_ends left (y + 1)
unfolding sums
rising-suc left y = refl

rising-zero : (y : ℕ) → supplied_ends 0 y ≡ []
unfolding sums
rising-zero y = refl

module _ {area : List ℕ} {at n x : ℕ} {now : List ℕ} {i left y : ℕ} (v : Rising area at n x now i left y) where
  pub rising-more : 0 < left → Rising area at n x (set now i (y + 1)) (i + 1) (left - 1) (y + 1)
  rising-more h =
      let e : suc (left - 1) ≡ left = omega arith in
      record {
        same =
            ap (λ (k : ℕ). sets (set now i (y + 1)) k (supplied_ends (left - 1) (y + 1))) (add-one i)
            ∙ ap (sets now i) (sym (rising-suc (left - 1) y))
            ∙ ap (λ (k : ℕ). sets now i (supplied_ends k y)) e
            ∙ v.same;
        inside = omega (arith, v.inside, length-set now i (y + 1));
        small = omega (arith, v.small);
        long = length-set now i (y + 1) ∙ v.long;
      }

  pub rising-all : left ≤ 0 → now ≡ sets area at (supplied_ends n x)
  rising-all h =
      let e : 0 ≡ left = omega arith in
      ap (sets now i) (sym (rising-zero y)) ∙ ap (λ (k : ℕ). sets now i (supplied_ends k y)) e ∙ v.same

-- ## The front

module _ (area : List ℕ) (levels items weights : ℕ) {buckets : ℕ} (m : buckets ≡ mask items) {after : List ℕ}
    (e : after ≡ sets (set (set (set (set area 0 levels) 1 items) 2 weights) 3 buckets) 4 (replicate 12 0)) where
  pub front-written : after ≡ sets area 0 (front_numbers levels items weights)
  front-written = e ∙ ap (λ (b : ℕ). sets area 0 (levels ∷ items ∷ weights ∷ b ∷ replicate 12 0)) m

  pub front_same : length after ≡ length area
  front_same = ap length front-written ∙ length-sets area 0 (front_numbers levels items weights)

-- ## The supplied item

pub supplied-written : (area : List ℕ) (levels rank weights slots from at : ℕ) {a b after : List ℕ} → a ≡ sets area from (replicate 4 0x110000)
    → b ≡ sets a slots (supplied_ends levels weights) → after ≡ sets b at (replicate levels rank)
    → after ≡ with_supplied area levels weights rank slots from at
supplied-written area levels rank weights slots from at p q r = r ∙ rw (q, p)

-- behind so many items, with a rank one above the last line's
pub supply-written : (area : List ℕ) (levels items weights count chars base : ℕ) {slots rank start : ℕ} {after : List ℕ} → slots ≡ ends_at levels items
    → rank ≡ count + 1 → start ≡ weights
    → after ≡ with_supplied area levels start rank slots (chars + 4 * items) (base + weights)
    → after ≡ with_supplied area levels weights (count + 1) (ends_at levels items) (chars + 4 * items) (base + weights)
supply-written area levels items weights count chars base f r s e = e ∙ rw (f, r, s)
