-- The parts of a table, written one after the other, are its stored form but for the listing and the starts.
use mathlib.Core.Path.{◌≡◌, refl, sym, ap, ◌∙◌, subst}
use mathlib.Core.List.{List, [], ◌∷◌, ◌++◌, map, flatten, append_assoc}
use Prim.Native.Nat.{ℕ, ◌+◌, ◌*◌, ◌≤◌}
use native.Mathlib.Nat.{zero-mul, suc-mul, add-mul}
use native.Mathlib.Omega.{arith}
use lib.ListN.{length, take, drop, length-append, length-map, length-drop, take-append-drop}
use lib.Seq.{sets, sets-eq, length-take-le, drop-drop}
use Rattle.base_lists.proofs.Lists.{All, sets-append, sets-swap}
use Rattle.rules.specs.Meaning.{Rule, Item, count_all, weight_count}
use Rattle.rules.specs.Table.{padded, sums, counts, weight_lists, ends, char_numbers, rule_number, weight_numbers}
use Rattle.rules.proofs.StorableLaws.{weights-append}
use Rattle.rules.proofs.SizeLaws.{chars-length, weights-length, counts-length}
use Rattle.rules.proofs.TableLaws.{chars-append}
use Rattle.rules.proofs.WidthLaws.{lists-count}
use Rattle.table_layout.specs.Parts.{ends_at, chars_part, listing_part, rules_part, weights_part}
use Rattle.table_layout.proofs.LayoutLaws.{ends_at-is}
use Rattle.table_listing.specs.Permuted.{stored_with}
use Rattle.table_items.proofs.FillLaws.{sums-append, three-rows}
use Rattle.table_whole.specs.Building.{front_numbers, unlisted}

-- ## Two lists of items

pub weight_count-append : (is js : List Item) → weight_count (is ++ js) ≡ weight_count is + weight_count js
unfolding weight_count
weight_count-append [] js = omega arith
weight_count-append (i ∷ is) js = omega (arith, weight_count-append is js)

chars-two : (is js : List Item) → char_numbers is [] ++ char_numbers js [] ≡ char_numbers (is ++ js) []
unfolding char_numbers
chars-two [] js = refl
chars-two (i ∷ is) js = ap (padded i.chars) (chars-two is js)

lists-two : (is js : List Item) → weight_lists (is ++ js) ≡ weight_lists is ++ weight_lists js
unfolding weight_lists
lists-two [] js = refl
lists-two (i ∷ is) js = rw (lists-two is js, append_assoc i.weights (weight_lists is) (weight_lists js))

ends-two : (is js : List Item) → ends is ++ sums (weight_count is) (counts (weight_lists js)) ≡ ends (is ++ js)
unfolding ends
ends-two is js =
    let c : 0 + count_all (weight_lists is) ≡ weight_count is = omega (arith, lists-count is) in
    sym (ap (λ (ws : List (List ℕ)). sums 0 (counts ws)) (lists-two is js)
    ∙ sums-append 0 (weight_lists is) (weight_lists js)
    ∙ ap (λ (k : ℕ). sums 0 (counts (weight_lists is)) ++ sums k (counts (weight_lists js))) c)

weights-two : (is js : List Item) → weight_numbers is [] ++ weight_numbers js [] ≡ weight_numbers (is ++ js) []
unfolding weight_numbers
weights-two [] js = refl
weights-two (i ∷ is) js =
    append_assoc (flatten i.weights) (weight_numbers is []) (weight_numbers js []) ∙ ap (λ (r : List ℕ). flatten i.weights ++ r) (weights-two is js)

-- ## Items with weights for l levels

-- An item with weights for each of l levels.
abbrev pub Levelled : ℕ → Item → Type 0
Levelled l i = length i.weights ≡ l

lists-long : (l : ℕ) (is : List Item) → All (Levelled l) is → length (weight_lists is) ≡ length is * l
unfolding weight_lists
lists-long l [] h = sym (zero-mul l)
lists-long l (i ∷ is) h =
    omega (arith, length-append i.weights (weight_lists is), h.0, suc-mul (length is) l, lists-long l is h.1)

ends-long : (l : ℕ) (is : List Item) → All (Levelled l) is → length (ends is) ≡ length is * l
unfolding ends
ends-long l is h = counts-length 0 (weight_lists is) ∙ lists-long l is h

levelled-two : (l : ℕ) (is js : List Item) → All (Levelled l) is → All (Levelled l) js → All (Levelled l) (is ++ js)
levelled-two l [] js h k = k
levelled-two l (i ∷ is) js h k = (h.0, levelled-two l is js h.1 k)

chars-long : (is : List Item) → length (char_numbers is []) ≡ 4 * length is
chars-long is = omega (arith, chars-length is [])

weights-long : (is : List Item) → length (weight_numbers is []) ≡ weight_count is
weights-long is = omega (arith, weights-length is [])

-- the parts of the first items, and then those of the others behind them
items-joined : (l from base : ℕ) (is js : List Item) (head : List ℕ) → All (Levelled l) is → All (Levelled l) js
    → ends_at l (length is + length js) ≤ from → from + 4 * (length is + length js) ≤ base
    → sets
    (sets
    (sets (sets (sets (sets head from (char_numbers is [])) 16 (ends is)) base (weight_numbers is [])) (from + 4 * length is) (char_numbers js []))
    (ends_at l (length is))
    (sums (weight_count is) (counts (weight_lists js))))
    (base + weight_count is)
    (weight_numbers js [])
    ≡ sets (sets (sets head from (char_numbers (is ++ js) [])) 16 (ends (is ++ js))) base (weight_numbers (is ++ js) [])
items-joined l from base is js head h k before between =
    let p : List ℕ = char_numbers is [] in
    let q : List ℕ = char_numbers js [] in
    let a : List ℕ = ends is in
    let b : List ℕ = sums (weight_count is) (counts (weight_lists js)) in
    let x : List ℕ = weight_numbers is [] in
    let y : List ℕ = weight_numbers js [] in
    let ep : 4 * length is ≡ length p = sym (chars-long is) in
    let ea : ends_at l (length is) ≡ 16 + length a = omega (arith, ends_at-is l (length is), ends-long l is h) in
    let ex : weight_count is ≡ length x = sym (weights-long is) in
    let lb : length b ≡ length js * l = counts-length (weight_count is) (weight_lists js) ∙ lists-long l js k in
    let m : (length is + length js) * l ≡ length is * l + length js * l = add-mul (length is) (length js) l in
    let first : List ℕ = sets (sets (sets head from p) 16 a) base x in
    ap (λ (n : ℕ). sets (sets (sets first (from + n) q) (ends_at l (length is)) b) (base + weight_count is) y) ep
    ∙ ap (λ (n : ℕ). sets (sets (sets first (from + length p) q) n b) (base + weight_count is) y) ea
    ∙ ap (λ (n : ℕ). sets (sets (sets first (from + length p) q) (16 + length a) b) (base + n) y) ex
    ∙ three-rows head 16 a b from p q base x y (omega (arith, before, ends_at-is l (length is + length js), m, lb, ends-long l is h))
    (omega (arith, between, chars-long is, chars-long js))
    ∙ ap (λ (z : List ℕ). sets (sets (sets head from z) 16 (a ++ b)) base (x ++ y)) (chars-two is js)
    ∙ ap (λ (z : List ℕ). sets (sets (sets head from (char_numbers (is ++ js) [])) 16 z) base (x ++ y)) (ends-two is js)
    ∙ ap (λ (z : List ℕ). sets (sets (sets head from (char_numbers (is ++ js) [])) 16 (ends (is ++ js))) base z) (weights-two is js)

-- ## The whole

-- what stands at a place, stored there again
sets-kept : (area : List ℕ) (at k : ℕ) → at + k ≤ length area → sets area at (take k (drop at area)) ≡ area
sets-kept area at k h =
    let xs : List ℕ = take k (drop at area) in
    let l : length xs ≡ k = length-take-le k (drop at area) (omega (arith, length-drop at area)) in
    sets-eq xs area at (omega (arith, l))
    ∙ append_assoc (take at area) xs (drop (at + length xs) area)
    ∙ ap (λ (n : ℕ). take at area ++ (xs ++ drop (at + n) area)) l
    ∙ ap (λ (r : List ℕ). take at area ++ (xs ++ r)) (sym (drop-drop k at area))
    ∙ ap (λ (r : List ℕ). take at area ++ r) (take-append-drop k (drop at area))
    ∙ take-append-drop at area

-- stored one behind the other, or together
sets_behind : (area : List ℕ) (at : ℕ) (a b : List ℕ) (k : ℕ) → k ≡ at + length a → sets (sets area at a) k b ≡ sets area at (a ++ b)
sets_behind area at a b k e = ap (λ (j : ℕ). sets (sets area at a) j b) e ∙ sym (sets-append area at a b)

-- Six lists from the first place on, each behind the one before it; the fourth stands there already, and the others are stored in another order.
sets-six : (area a b c x d e : List ℕ) (i j k m n : ℕ) → i ≡ 0 + length a → j ≡ i + length b → k ≡ j + length c → m ≡ k + length x → n ≡ m + length d
    → n + length e ≤ length area → sets area k x ≡ area
    → sets (sets (sets (sets (sets area 0 a) m d) j c) i b) n e ≡ a ++ (b ++ (c ++ (x ++ (d ++ (e ++ drop (n + length e) area)))))
sets-six area a b c x d e i j k m n hi hj hk hm hn h kept =
    let x₁ : List ℕ = sets area 0 a in
    let bc : List ℕ = b ++ c in
    let all : List ℕ = a ++ (bc ++ (x ++ (d ++ e))) in
    let lbc : length bc ≡ length b + length c = length-append b c in
    let l : 0 + length all ≡ n + length e =
    omega (arith, length-append a (bc ++ (x ++ (d ++ e))), length-append bc (x ++ (d ++ e)), lbc, length-append x (d ++ e), length-append d e) in
    ap (λ (z : List ℕ). sets (sets (sets (sets (sets z 0 a) m d) j c) i b) n e) (sym kept)
    ∙ ap (λ (z : List ℕ). sets (sets (sets (sets z m d) j c) i b) n e) (sets-swap area 0 a k x (omega arith))
    ∙ ap (λ (z : List ℕ). sets z n e) (sets-swap (sets (sets x₁ k x) m d) i b j c (omega arith))
    ∙ ap (λ (z : List ℕ). sets z n e) (sets_behind (sets (sets x₁ k x) m d) i b c j hj)
    ∙ ap (λ (z : List ℕ). sets z n e) (sets-swap (sets x₁ k x) i bc m d (omega (arith, lbc)))
    ∙ ap (λ (z : List ℕ). sets (sets z m d) n e) (sets-swap x₁ i bc k x (omega (arith, lbc)))
    ∙ sets_behind (sets (sets x₁ i bc) k x) m d e n hn
    ∙ sets_behind (sets x₁ i bc) k x (d ++ e) m hm
    ∙ sets_behind x₁ i bc (x ++ (d ++ e)) k (omega (arith, lbc))
    ∙ sets_behind area 0 a (bc ++ (x ++ (d ++ e))) i hi
    ∙ sets-eq all area 0 (omega (arith, l))
    ∙ ap (λ (o : ℕ). all ++ drop o area) l
    ∙ six a b c x d e (drop (n + length e) area)
  where
    six : (a b c x d e r : List ℕ) → (a ++ ((b ++ c) ++ (x ++ (d ++ e)))) ++ r ≡ a ++ (b ++ (c ++ (x ++ (d ++ (e ++ r)))))
    six a b c x d e r = simp append_assoc

-- the front, the rules, and the parts of all items
parts-stored : (rs : List Rule) (is : List Item) (area : List ℕ) → All (Levelled (length rs)) is
    → weights_part (length rs) (length is) + weight_count is ≤ length area
    → sets
    (sets
    (sets
    (sets
    (sets area 0 (front_numbers (length rs) (length is) (weight_count is)))
    (rules_part (length rs) (length is))
    (map rule_number rs))
    (chars_part (length rs) (length is))
    (char_numbers is []))
    16
    (ends is))
    (weights_part (length rs) (length is))
    (weight_numbers is [])
    ≡ stored_with (unlisted (length rs) (length is) area) (record { rules = rs; items = is })
    (drop (weights_part (length rs) (length is) + weight_count is) area)
unfolding stored_with
parts-stored rs is area h room =
    let l : ℕ = length rs in
    let n : ℕ = length is in
    let front : List ℕ = front_numbers l n (weight_count is) in
    let xs : List ℕ = unlisted l n area in
    let lx : length xs ≡ 2 * n = length-take-le (2 * n) (drop (listing_part l n) area) (omega (arith, room, length-drop (listing_part l n) area)) in
    let rules : List ℕ = map rule_number rs in
    let rest : List ℕ = drop (weights_part l n + weight_count is) area in
    let e : weights_part l n + length (weight_numbers is []) ≡ weights_part l n + weight_count is = omega (arith, weights-long is) in
    sets-six area front (ends is) (char_numbers is []) xs rules (weight_numbers is []) 16 (chars_part l n) (listing_part l n) (rules_part l n) (weights_part l n)
    refl (omega (arith, ends_at-is l n, ends-long l is h)) (omega (arith, chars-long is)) (omega (arith, lx)) (omega (arith, length-map rs rule_number))
    (omega (arith, e, room)) (sets-kept area (listing_part l n) (2 * n) (omega (arith, room)))
    ∙ ap (λ (o : ℕ). front ++ (ends is ++ (char_numbers is [] ++ (xs ++ (rules ++ (weight_numbers is [] ++ drop o area)))))) e
    ∙ rw (weights-append is [] rest, chars-append is [] (xs ++ (rules ++ weight_numbers is rest)))

-- the same, its places and counts known by equations, and the items written in two goes
module _ (rs : List Rule) (is js : List Item) (area : List ℕ) {levels items weights all sum chars base : ℕ} (el : levels ≡ length rs)
    (ei : items ≡ length is) (ew : weights ≡ weight_count is) (ea : all ≡ length is + length js) (es : sum ≡ weight_count is + weight_count js)
    (ec : chars ≡ chars_part levels all) (eb : base ≡ weights_part levels all) (h : All (Levelled levels) is) (k : All (Levelled (length rs)) js)
    (room : weights_part levels all + sum ≤ length area) where
  pub parts-written : {head filled after : List ℕ} → head ≡ sets (sets area 0 (front_numbers levels all sum)) (rules_part levels all) (map rule_number rs)
      → filled ≡ sets (sets (sets head chars (char_numbers is [])) 16 (ends is)) base (weight_numbers is [])
      → after ≡ sets (sets (sets filled (chars + 4 * items) (char_numbers js [])) (ends_at levels items) (sums weights (counts (weight_lists js))))
      (base + weights) (weight_numbers js [])
      → after ≡ stored_with (unlisted levels all area) (record { rules = rs; items = is ++ js }) (drop (weights_part levels all + sum) area)
  parts-written {head} {filled} {after} eh ed ez =
      let g : All (Levelled (length rs)) is = subst (λ (n : ℕ). All (Levelled n) is) el h in
      let both : All (Levelled (length rs)) (is ++ js) = levelled-two (length rs) is js g k in
      let n : all ≡ length (is ++ js) = ea ∙ sym (length-append is js) in
      let w : sum ≡ weight_count (is ++ js) = es ∙ sym (weight_count-append is js) in
      let joined =
      items-joined levels chars base is js head h (subst (λ (m : ℕ). All (Levelled m) js) (sym el) k) (omega (arith, ec, ap (ends_at levels) ea))
      (omega (arith, ec, eb, ea)) in
      let step : after ≡ sets (sets (sets head chars (char_numbers (is ++ js) [])) 16 (ends (is ++ js))) base (weight_numbers (is ++ js) []) =
      ez ∙ rw (ed, ei, ew) joined in
      step
      ∙ rw (eh, ec, eb, el, n, w)
      (parts-stored rs (is ++ js) area both (subst (λ (m : ℕ). m ≤ length area) (rw (el, n, w)) room))
