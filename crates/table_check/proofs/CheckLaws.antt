-- The check of a table, part by part, decides acceptance: what passes stores a good meaning, and what stores one passes.
use Rattle.std.proofs.Common.{◌≡◌, ℕ, zero, suc, ◌+◌, ◌*◌, ◌≤◌, Bool, true, false, ◌&&◌, leb, List, [], ◌∷◌, ◌++◌, map, length, get_or, take, drop, replicate, sym, refl, ap, ◌∙◌, append_assoc, mul-add, arith, length-drop, take-append-drop, length-take-le, drop-drop, take_at, drop_at, eq-eqb, le-leb, leb-true}
use mathlib.Core.Bool.{false≢true}
use mathlib.Core.List.{flatten}
use lib.ListN.{length-map}
use Rattle.base_lists.proofs.Bools.{and_left, and_right, and_intro, by, clash}
use Rattle.rules.specs.Text.{within, every, one_of}
use Rattle.rules.specs.Meaning.{Rule, Item, Meaning, weight_count, size_of, has_chars, good_weights, good_item, good}
use Rattle.rules.specs.Table.{counts, weight_lists, ends, gaps, cut_by, char_numbers, mask, listing, starts, items_at}
use Rattle.rules.specs.Table.{rule_number, rule_of_number, weight_numbers, stored_form, meaning_in, accepted}
use Rattle.rules.proofs.TextLaws.{every-head, every-tail, every-both}
use Rattle.rules.proofs.MeaningLaws.{good-parts, good-whole}
use Rattle.rules.proofs.StorableLaws.{items-stored, meaning-stored, rules-drop, weights-append}
use Rattle.rules.proofs.SizeLaws.{weights-length, ends-length, chars-length, listing-length, starts-length, stored-size}
use Rattle.rules.proofs.TableLaws.{lists-flat, chars-append, parts-drop, accepted-stored, stored-accepted}
use Rattle.rules.proofs.WidthLaws.{good-range}
use Rattle.table_layout.specs.Parts.{chars_part, listing_part, starts_part, rules_part, weights_part}
use Rattle.table_layout.proofs.LayoutLaws.{ends_at-is}
use Rattle.table_layout.proofs.ToldLaws.{listing_passes, passes-fits, fits-passes}
use Rattle.table_check.specs.Checks.{head_passes, ends_pass, all_chars, listing_in, items_pass, checks}
use Rattle.table_check.proofs.HeadLaws.{head-parts}
use Rattle.table_check.proofs.ItemLaws.{total, cut-counts, cut-whole, cut-good, counts-few}
use Rattle.table_check.proofs.PartLaws.{ends-passed, gaps-length, sums-pass, items-length, lists-again, chars-again, items-good}
use Rattle.table_check.proofs.PartLaws.{lists-count, chars-pass, lists-good, listing-in}

-- ## What it says that a table passes

-- the numbers from the first character on, from the first rule on
abbrev chars_of : List ℕ → List ℕ
chars_of t = drop (get_or t 1 0 * get_or t 0 0) (drop 16 t)

abbrev rules_of : List ℕ → List ℕ
rules_of t = drop (6 * get_or t 1 0) (chars_of t)

record Passed (t : List ℕ) : Type 0 where
  head : head_passes t ≡ true
  ended : ends_pass (get_or t 2 0) 0 (take (get_or t 1 0 * get_or t 0 0) (drop 16 t)) ≡ true
  chars : all_chars (get_or t 1 0) (chars_of t) ≡ true
  listed : listing_in (get_or t 1 0) (chars_of t) (take (get_or t 1 0) (drop (4 * get_or t 1 0) (chars_of t))) (take (get_or t 1 0) (drop (5 * get_or t 1 0) (chars_of t))) ≡ true
  rules : every (within 0 3) (take (get_or t 0 0) (rules_of t)) ≡ true
  weights : every (within 1 32768) (take (get_or t 2 0) (drop (get_or t 0 0) (rules_of t))) ≡ true

-- what stands k numbers behind where the characters begin
part-drop : (l n k : ℕ) (t : List ℕ) → drop (chars_part l n + k) t ≡ drop k (drop (n * l) (drop 16 t))
part-drop l n k t =
    sym (drop-drop k (chars_part l n) t) ∙ ap (λ (x : ℕ). drop k (drop x t)) (ends_at-is l n) ∙ ap (drop k) (sym (drop-drop (n * l) 16 t))

chars-drop : (l n : ℕ) (t : List ℕ) → drop (chars_part l n) t ≡ drop (n * l) (drop 16 t)
chars-drop l n t = ap (λ (x : ℕ). drop x t) (ends_at-is l n) ∙ sym (drop-drop (n * l) 16 t)

weights-drop : (l n : ℕ) (t : List ℕ) → drop (weights_part l n) t ≡ drop l (drop (6 * n) (drop (n * l) (drop 16 t)))
weights-drop l n t = sym (drop-drop l (rules_part l n) t) ∙ ap (drop l) (part-drop l n (6 * n) t)

checks-parts : (t : List ℕ) → checks t ≡ true → Passed t
unfolding checks items_pass
checks-parts t h =
    let l : ℕ = get_or t 0 0 in
    let n : ℕ = get_or t 1 0 in
    let w : ℕ = get_or t 2 0 in
    let cs : List ℕ = drop (chars_part l n) t in
    let a : Bool = head_passes t in
    let b : Bool = ends_pass w 0 (take (n * l) (drop 16 t)) in
    let c : Bool = all_chars n cs in
    let d : Bool = listing_in n cs (take n (drop (listing_part l n) t)) (take n (drop (starts_part l n) t)) in
    let e : Bool = every (within 0 3) (take l (drop (rules_part l n) t)) in
    let f : Bool = every (within 1 32768) (take w (drop (weights_part l n) t)) in
    let items : Bool = b && c && d in
    let front : (a && items && e) ≡ true = and_left (a && items && e) f h in
    let ai : (a && items) ≡ true = and_left (a && items) e front in
    let bcd : (b && c && d) ≡ true = and_right a items ai in
    let bc : (b && c) ≡ true = and_left (b && c) d bcd in
    record {
      head = and_left a items ai;
      ended = and_left b c bc;
      chars = rw (chars-drop l n t) at (and_right b c bc);
      listed = rw (chars-drop l n t, part-drop l n (4 * n) t, part-drop l n (5 * n) t) at (and_right (b && c) d bcd);
      rules = rw (part-drop l n (6 * n) t) at (and_right (a && items) e front);
      weights = rw (weights-drop l n t) at (and_right (a && items && e) f h);
    }

checks-whole : (t : List ℕ) → Passed t → checks t ≡ true
unfolding checks items_pass
checks-whole t p =
    let l : ℕ = get_or t 0 0 in
    let n : ℕ = get_or t 1 0 in
    let w : ℕ = get_or t 2 0 in
    let cs : List ℕ = drop (chars_part l n) t in
    let chars : all_chars n cs ≡ true = rw (chars-drop l n t) p.chars in
    let listed : listing_in n cs (take n (drop (listing_part l n) t)) (take n (drop (starts_part l n) t)) ≡ true =
    rw (chars-drop l n t, part-drop l n (4 * n) t, part-drop l n (5 * n) t) p.listed in
    let rules : every (within 0 3) (take l (drop (rules_part l n) t)) ≡ true = rw (part-drop l n (6 * n) t) p.rules in
    let weights : every (within 1 32768) (take w (drop (weights_part l n) t)) ≡ true = rw (weights-drop l n t) p.weights in
    and_intro (and_intro (and_intro p.head (and_intro (and_intro p.ended chars) listed)) rules) weights

-- ## What passes stores a good meaning

rule-again : (n : ℕ) → within 0 3 n ≡ true → rule_number (rule_of_number n) ≡ n
unfolding rule_number rule_of_number
rule-again zero h = refl
rule-again (suc zero) h = refl
rule-again (suc (suc zero)) h = refl
rule-again (suc (suc (suc zero))) h = refl
rule-again (suc (suc (suc (suc n)))) h =
    let b = leb-true (suc (suc (suc (suc n)))) 3 (and_right (leb 0 (suc (suc (suc (suc n))))) (leb (suc (suc (suc (suc n)))) 3) h) in
    absurd (omega arith)

rules-again : (rs : List ℕ) → every (within 0 3) rs ≡ true → map rule_number (map rule_of_number rs) ≡ rs
rules-again [] h = refl
rules-again (r ∷ rs) h = rw (rule-again r (every-head (within 0 3) r rs h), rules-again rs (every-tail (within 0 3) r rs h))

zeros : (xs : List ℕ) → every (within 0 0) xs ≡ true → xs ≡ replicate (length xs) 0
zeros [] h = refl
zeros (x ∷ xs) h =
    let b = leb-true x 0 (and_right (leb 0 x) (leb x 0) (every-head (within 0 0) x xs h)) in
    let e : x ≡ 0 = omega arith in
    rw e (ap (λ (ys : List ℕ). 0 ∷ ys) (zeros xs (every-tail (within 0 0) x xs h)))

header : (t : List ℕ) → 16 ≤ length t → every (within 0 0) (take 12 (drop 4 t)) ≡ true
    → t ≡ get_or t 0 0 ∷ get_or t 1 0 ∷ get_or t 2 0 ∷ get_or t 3 0 ∷ replicate 12 0 ++ drop 16 t
header [] b h = absurd (omega arith)
header (l ∷ []) b h = absurd (omega arith)
header (l ∷ n ∷ []) b h = absurd (omega arith)
header (l ∷ n ∷ w ∷ []) b h = absurd (omega arith)
header (l ∷ n ∷ w ∷ m ∷ t) b h =
    let spare : take 12 t ≡ replicate 12 0 = zeros (take 12 t) h ∙ ap (λ (k : ℕ). replicate k 0) (length-take-le 12 t (omega arith)) in
    ap (λ (x : List ℕ). l ∷ n ∷ w ∷ m ∷ x) (sym (take-append-drop 12 t) ∙ ap (λ (x : List ℕ). x ++ drop 12 t) spare)

stored-whole : (t : List ℕ) (m : Meaning) (rest : List ℕ) → 16 ≤ length t → every (within 0 0) (take 12 (drop 4 t)) ≡ true
    → length m.rules ≡ get_or t 0 0 → length m.items ≡ get_or t 1 0 → weight_count m.items ≡ get_or t 2 0 → get_or t 3 0 ≡ mask (get_or t 1 0)
    → drop 16 t ≡ ends m.items ++ char_numbers m.items (listing m.items ++ starts m.items ++ (map rule_number m.rules ++ weight_numbers m.items rest))
    → t ≡ stored_form m rest
unfolding stored_form
stored-whole t m rest b h l n w k e = rw (l, n, w, ← k, ← e) (header t b h)

-- the numbers behind the characters, part by part
parts_again : (n l : ℕ) (cs : List ℕ)
    → take n (drop (4 * n) cs) ++ take n (drop (5 * n) cs) ++ (take l (drop (6 * n) cs) ++ drop l (drop (6 * n) cs)) ≡ drop (4 * n) cs
parts_again n l cs =
    let e : 4 * n + n ≡ 5 * n = omega arith in
    let f : 5 * n + n ≡ 6 * n = omega arith in
    let d5 : drop n (drop (4 * n) cs) ≡ drop (5 * n) cs = rw e at (drop-drop n (4 * n) cs) in
    let d6 : drop n (drop (5 * n) cs) ≡ drop (6 * n) cs = rw f at (drop-drop n (5 * n) cs) in
    rw (
      take-append-drop l (drop (6 * n) cs),
      append_assoc (take n (drop (4 * n) cs)) (take n (drop (5 * n) cs)) (drop (6 * n) cs),
      ← d6,
      take-append-drop n (drop (5 * n) cs),
      ← d5,
    )
    (take-append-drop n (drop (4 * n) cs))

module _ (t : List ℕ) (p : Passed t) where
  -- how many numbers stand behind the header, behind the ends, behind the starts, behind the rules
  fits : (get_or t 1 0 * get_or t 0 0 ≤ length (drop 16 t)) × (6 * get_or t 1 0 ≤ length (chars_of t)) × (get_or t 0 0 ≤ length (rules_of t))
      × (get_or t 2 0 ≤ length (drop (get_or t 0 0) (rules_of t)))
  fits =
      let r = (head-parts t refl p.head).room in
      let at = ends_at-is (get_or t 0 0) (get_or t 1 0) in
      let e = mul-add (get_or t 1 0) 6 (get_or t 0 0) in
      let a = length-drop 16 t in
      let b = length-drop (get_or t 1 0 * get_or t 0 0) (drop 16 t) in
      let c = length-drop (6 * get_or t 1 0) (chars_of t) in
      let d = length-drop (get_or t 0 0) (rules_of t) in
      (omega arith, omega arith, omega arith, omega arith)

  passed-accepted : accepted t ≡ true
  unfolding ends
  passed-accepted =
      let l : ℕ = get_or t 0 0 in
      let n : ℕ = get_or t 1 0 in
      let w : ℕ = get_or t 2 0 in
      let h = head-parts t refl p.head in
      let es : List ℕ = take (n * l) (drop 16 t) in
      let cs : List ℕ = chars_of t in
      let ps : List ℕ = take n (drop (4 * n) cs) in
      let ss : List ℕ = take n (drop (5 * n) cs) in
      let ws : List ℕ = drop l (rules_of t) in
      let gs : List ℕ = gaps 0 es in
      let lists : List (List ℕ) = cut_by gs ws in
      let is : List Item = items_at n l cs lists in
      let rest : List ℕ = drop w ws in
      let m : Meaning = record { rules = map rule_of_number (take l (rules_of t)); items = is } in
      let r = ends-passed w 0 es p.ended in
      let sum : total gs ≡ w = omega (arith, r.all) in
      let cut : counts lists ≡ gs = cut-counts gs ws (omega (arith, sum, fits.3)) in
      let many-lists : length lists ≡ n * l =
      sym (length-map lists length) ∙ ap length cut ∙ gaps-length 0 es ∙ length-take-le (n * l) (drop 16 t) fits.0 in
      let again : weight_lists is ≡ lists = lists-again n l cs lists many-lists in
      let ended : ends is ≡ es = rw (again, cut) r.again in
      let four : 4 * n ≤ length cs = omega (arith, fits.1) in
      let chars : char_numbers is (drop (4 * n) cs) ≡ cs = chars-again n l cs lists p.chars four in
      let range : every (within 1 32768) (take (total gs) ws) ≡ true = rw sum p.weights in
      let goods : every (good_item l) is ≡ true =
      items-good n l cs lists p.chars four many-lists (cut-good gs ws (omega (arith, sum, fits.3)) r.few range) in
      let many : length is ≡ n = items-length n l cs lists in
      let weighed : weight_count is ≡ w = sym (lists-count is) ∙ ap (λ (x : List (List ℕ)). total (counts x)) again ∙ ap total cut ∙ sum in
      let weights : weight_numbers is rest ≡ ws = lists-flat is rest ∙ (rw (again, ← sum) (cut-whole gs ws)) in
      let lp = length-drop (4 * n) cs in
      let ls = length-drop (5 * n) cs in
      let np : length ps ≡ length is = length-take-le n (drop (4 * n) cs) (omega (arith, lp, fits.1)) ∙ sym many in
      let ns : length ss ≡ length is = length-take-le n (drop (5 * n) cs) (omega (arith, ls, fits.1)) ∙ sym many in
      let passes : listing_passes is ps ss ≡ true =
      sym (listing-in l is (drop (4 * n) cs) (items-stored l is goods) ps ss np)
      ∙ ap (λ (c : List ℕ). listing_in (length is) c ps ss) chars ∙ ap (λ (k : ℕ). listing_in k cs ps ss) many ∙ p.listed in
      let f = passes-fits is ps ss (omega (arith, many, h.some-items)) ns passes in
      let behind : listing is ++ starts is ++ (map rule_number m.rules ++ weight_numbers is rest) ≡ drop (4 * n) cs =
      rw (← f.listed, ← f.started, rules-again (take l (rules_of t)) p.rules, weights) (parts_again n l cs) in
      let tail : drop 16 t ≡ ends is ++ char_numbers is (listing is ++ starts is ++ (map rule_number m.rules ++ weight_numbers is rest)) =
      rw (behind, chars, ended) (sym (take-append-drop (n * l) (drop 16 t))) in
      let levels : length m.rules ≡ l = length-map (take l (rules_of t)) rule_of_number ∙ length-take-le l (rules_of t) fits.2 in
      let good-m : good m ≡ true = good-whole m (record {
        some_level = rw levels h.some-levels;
        few-levels = rw levels h.few-levels;
        few-items = rw many h.few-items;
        items = rw levels goods;
        apart = f.apart;
        undefined = f.undefined;
      }) in
      ap accepted (stored-whole t m rest h.long h.spare levels many weighed h.masked tail) ∙ stored-accepted m rest good-m

-- ## What stores a good meaning passes

rule-within : (b p : Bool) → within 0 3 (rule_number (record { backward = b; position = p })) ≡ true
unfolding rule_number
rule-within true true = refl
rule-within true false = refl
rule-within false true = refl
rule-within false false = refl

rules-within : (rs : List Rule) → every (within 0 3) (map rule_number rs) ≡ true
unfolding every
rules-within [] = refl
rules-within (r ∷ rs) = and_intro (rule-within r.backward r.position) (rules-within rs)

levels-within : (ls : List (List ℕ)) → every good_weights ls ≡ true → every (within 1 32768) (flatten ls) ≡ true
unfolding flatten every
levels-within [] h = refl
levels-within (ws ∷ ls) h =
    every-both (within 1 32768) ws (flatten ls) (good-range ws (every-head good_weights ws ls h)) (levels-within ls (every-tail good_weights ws ls h))

weights-within : (is : List Item) → every good_weights (weight_lists is) ≡ true → every (within 1 32768) (weight_numbers is []) ≡ true
unfolding every
weights-within is h =
    rw (lists-flat is []) (every-both (within 1 32768) (flatten (weight_lists is)) [] (levels-within (weight_lists is) h) refl)

weights-take : (is : List Item) (rest : List ℕ) → take (weight_count is) (weight_numbers is rest) ≡ weight_numbers is []
weights-take is rest =
    let e : length (weight_numbers is []) ≡ weight_count is = omega (arith, weights-length is []) in
    rw (← weights-append is [] rest) (take_at (weight_numbers is []) rest (weight_count is) e)

undefined-some : (is : List Item) → one_of (has_chars []) is ≡ true → 1 ≤ length is
unfolding one_of
undefined-some [] h = absurd (false≢true h)
undefined-some (i ∷ is) h = omega arith

-- the listing, and the starts, as the check takes them
listing-taken : (is : List Item) (rs : List ℕ) → take (length is) (drop (4 * length is) (char_numbers is (listing is ++ starts is ++ rs))) ≡ listing is
listing-taken is rs =
    let front : List ℕ = char_numbers is [] in
    let e : char_numbers is (listing is ++ (starts is ++ rs)) ≡ front ++ (listing is ++ (starts is ++ rs)) =
    sym (chars-append is [] (listing is ++ (starts is ++ rs))) in
    let n : length front ≡ 4 * length is = omega (arith, chars-length is []) in
    rw (append_assoc (listing is) (starts is) rs, e, drop_at front (listing is ++ (starts is ++ rs)) (4 * length is) n)
    (take_at (listing is) (starts is ++ rs) (length is) (listing-length is))

starts-taken : (is : List Item) (rs : List ℕ) → take (length is) (drop (5 * length is) (char_numbers is (listing is ++ starts is ++ rs))) ≡ starts is
starts-taken is rs =
    let front : List ℕ = char_numbers is (listing is) in
    let e : char_numbers is (listing is ++ (starts is ++ rs)) ≡ front ++ (starts is ++ rs) = sym (chars-append is (listing is) (starts is ++ rs)) in
    let n : length front ≡ 5 * length is = omega (arith, chars-length is (listing is), listing-length is) in
    rw (append_assoc (listing is) (starts is) rs, e, drop_at front (starts is ++ rs) (5 * length is) n)
    (take_at (starts is) rs (length is) (starts-length is))

head-passes : (m : Meaning) (rest : List ℕ) → good m ≡ true → head_passes (stored_form m rest) ≡ true
unfolding stored_form head_passes size_of every
head-passes m rest h =
    let l : ℕ = length m.rules in
    let n : ℕ = length m.items in
    let g = good-parts m h in
    let size = stored-size m rest h in
    let some = undefined-some m.items g.undefined in
    and_intro
    (and_intro
    (and_intro
    (and_intro
    (and_intro (le-leb 16 (length (stored_form m rest)) (omega arith)) (and_intro (le-leb 1 l g.some_level) (le-leb l 8 g.few-levels)))
    (and_intro (le-leb 1 n some) (le-leb n 32768 g.few-items)))
    (eq-eqb (mask n) (mask n) refl))
    refl)
    (le-leb (weights_part l n + weight_count m.items) (length (stored_form m rest)) (omega (arith, ends_at-is l n, mul-add n 6 l)))

stored-passed : (m : Meaning) (rest : List ℕ) → good m ≡ true → Passed (stored_form m rest)
unfolding stored_form ends
stored-passed m rest h =
    let l : ℕ = length m.rules in
    let is : List Item = m.items in
    let n : ℕ = length is in
    let ws : List ℕ = weight_numbers is rest in
    let rs : List ℕ = map rule_number m.rules ++ ws in
    let cs : List ℕ = char_numbers is (listing is ++ starts is ++ rs) in
    let g = good-parts m h in
    let st = meaning-stored m h in
    let some = undefined-some is g.undefined in
    let lists = lists-good l is g.items in
    let taken : take (n * l) (ends is ++ cs) ≡ ends is = take_at (ends is) cs (n * l) (ends-length l is st) in
    let dropped : drop (n * l) (ends is ++ cs) ≡ cs = drop_at (ends is) cs (n * l) (ends-length l is st) in
    record {
      head = head-passes m rest h;
      ended = rw taken (sums-pass (weight_count is) 0 (counts (weight_lists is)) (counts-few (weight_lists is) lists) (omega (arith, lists-count is)));
      chars = rw dropped (chars-pass l is (listing is ++ starts is ++ rs) g.items);
      listed =
          rw (dropped, listing-taken is rs, starts-taken is rs, listing-in l is (listing is ++ starts is ++ rs) st (listing is) (starts is) (listing-length is))
          (fits-passes l is (listing is) (starts is) st some g.few-items (record { listed = refl; started = refl; apart = g.apart; undefined = g.undefined }));
      rules = rw (dropped, parts-drop is rs, take_at (map rule_number m.rules) ws l (length-map m.rules rule_number)) (rules-within m.rules);
      weights = rw (dropped, parts-drop is rs, rules-drop m.rules ws, weights-take is rest) (weights-within is lists);
    }

-- ## The law

checks-accepted : (t : List ℕ) → checks t ≡ true → accepted t ≡ true
checks-accepted t h = passed-accepted t (checks-parts t h)

accepted-passes : (t : List ℕ) → accepted t ≡ true → checks t ≡ true
accepted-passes t h =
    let m : Meaning = meaning_in t in
    let rest : List ℕ = drop (length (stored_form m [])) t in
    let s = accepted-stored t h in
    ap checks s.1 ∙ checks-whole (stored_form m rest) (stored-passed m rest s.0)

-- the check decides which tables are accepted
pub accepted-checks : (t : List ℕ) → accepted t ≡ checks t
accepted-checks t =
    by (accepted t) (λ a. a ∙ sym (accepted-passes t a)) (λ a. a ∙ sym (by (checks t) (λ c. clash (checks-accepted t c) a) (λ c. c)))

-- ## What the header of an accepted table says

pub record Sized (t : List ℕ) : Type 0 where
  pub levels : length (meaning_in t).rules ≡ get_or t 0 0
  pub items : length (meaning_in t).items ≡ get_or t 1 0
  pub size : size_of (meaning_in t) ≡ weights_part (get_or t 0 0) (get_or t 1 0) + get_or t 2 0

pub accepted-sized : (t : List ℕ) → accepted t ≡ true → Sized t
unfolding stored_form size_of
accepted-sized t h =
    let e = (accepted-stored t h).1 in
    let l : get_or t 0 0 ≡ length (meaning_in t).rules = ap (λ (x : List ℕ). get_or x 0 0) e in
    let n : get_or t 1 0 ≡ length (meaning_in t).items = ap (λ (x : List ℕ). get_or x 1 0) e in
    let w : get_or t 2 0 ≡ weight_count (meaning_in t).items = ap (λ (x : List ℕ). get_or x 2 0) e in
    let at = ends_at-is (length (meaning_in t).rules) (length (meaning_in t).items) in
    let k = mul-add (length (meaning_in t).items) 6 (length (meaning_in t).rules) in
    record { levels = sym l; items = sym n; size = rw (l, n, w) (omega arith) }
