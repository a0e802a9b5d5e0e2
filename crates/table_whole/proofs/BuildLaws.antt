-- The table of a source: what each part of it asks, and what they make together.
use mathlib.Core.Path.{◌≡◌, refl, sym, ap, ◌∙◌, subst}
use mathlib.Core.Bool.{Bool, true, false}
use mathlib.Core.List.{List, [], ◌∷◌, ◌++◌, map, flatten, append-nil}
use Prim.Native.Nat.{ℕ, suc, ◌+◌, ◌*◌, ◌≤◌}
use native.Mathlib.Nat.{mul-le-mul_right}
use native.Mathlib.Numerals.{add-one}
use native.Mathlib.Omega.{arith}
use lib.ListN.{length, drop, replicate, length-append, length-map, length-drop, length-replicate}
use lib.Seq.{sets, length-sets, length-take-le}
use Rattle.base_lists.proofs.Bools.{cond_both}
use Rattle.base_lists.proofs.Lists.{All}
use Rattle.rules.specs.Tokens.{operands}
use Rattle.rules.specs.Meaning.{Rule, Item, Meaning, count_all, weight_count}
use Rattle.rules.specs.Table.{padded, sums, counts, weight_lists, ends, char_numbers, rule_number, weight_numbers}
use Rattle.rules.specs.State.{Subject}
use Rattle.rules.specs.OrderLines.{rule_of, rule_codes, operand_list}
use Rattle.rules.specs.Compile.{levels_of_rank}
use Rattle.rules.proofs.StorableLaws.{AllStored}
use Rattle.rules.proofs.SizeLaws.{flatten-length}
use Rattle.table_layout.specs.Parts.{ends_at, listing_part, rules_part, weights_part}
use Rattle.table_layout.proofs.LayoutLaws.{ends_at-is, ends_at-room, weights_part-bound}
use Rattle.text_lines.specs.declared.Signs.{Signs}
use Rattle.text_tokens.specs.Left.{tokens_left}
use Rattle.work_rows.specs.Cells.{cell}
use Rattle.work_order.specs.Links.{place_number, rank_number}
use Rattle.work_subjects.specs.Keys.{key_at}
use Rattle.work_store.specs.Store.{Sound}
use Rattle.locale_levels.specs.Writing.{rule_numbers, RulesFit}
use Rattle.locale_sheet.specs.Known.{behind}
use Rattle.locale_sheet.specs.declared.Sheet.{Sheet}
use Rattle.locale_sheet.specs.Sheets.{rules_at}
use Rattle.table_weights.specs.Ranks.{rank_in}
use Rattle.table_weights.specs.Reading.{line_operands, ranks_at, item_ranks}
use Rattle.table_records.proofs.LineLaws.{level_ranks-length}
use Rattle.table_listing.specs.Permuted.{stored_with, Room, Permuted}
use Rattle.table_items.specs.Items.{is_item, item_of, items_of, LinesReady}
use Rattle.table_items.specs.Filling.{Fillable, Filled}
use Rattle.table_whole.specs.Building.{supplied_items, meaning_by, all_items, all_weights, table_size, front_numbers, supplied_ends, with_supplied, unlisted, HeadFits, Suppliable, Buildable, Tabled, Built}
use Rattle.table_whole.proofs.FrontLaws.{all_near, all-weights-few, size_is, size-items}
use Rattle.table_whole.proofs.TableLaws.{Levelled, parts-written}

-- ## The head

module _ (g : Signs) (src : List ℕ) (place levels items weights : ℕ) (area : List ℕ) (h : HeadFits g src place levels items weights area) where
  pub head-front : 16 ≤ length area
  head-front = omega (arith, h.room, ends_at-is levels items)

  module _ {l i w at : ℕ} (el : l ≡ levels) (ei : i ≡ items) (ew : w ≡ weights) (ea : at ≡ rules_part levels items) {front : List ℕ}
      (p : front ≡ sets area 0 (front_numbers l i w)) where
    pub head-rules : RulesFit (operands (tokens_left g src (behind place))) front at
    unfolding rules_at
    head-rules = record {
      accepted = h.started;
      inside =
          let os = operands (tokens_left g src (behind place)) in
          omega (arith, h.room, ea, length-map (rule_codes os) rule_of, ap length p ∙ length-sets area 0 (front_numbers l i w));
    }

    pub head-written : {after : List ℕ} → after ≡ sets front at (rule_numbers (rule_codes (operands (tokens_left g src (behind place)))))
        → after ≡ sets (sets area 0 (front_numbers levels items weights)) (rules_part levels items) (map rule_number (rules_at g src place))
    unfolding rules_at
    head-written e = e ∙ rw (p, ea, el, ei, ew)

-- ## The items

-- every item of the order lines has weights for each level
pub items-levelled : (g : Signs) (src w : List ℕ) (levels : ℕ) (f : Subject → ℕ) (vs : List ℕ) → All (Levelled levels) (items_of g src w levels f vs)
unfolding items_of item_of item_ranks ranks_at
items-levelled g src w levels f [] = tt
items-levelled g src w levels f (v ∷ vs) =
    let r : All (Levelled levels) (items_of g src w levels f vs) = items-levelled g src w levels f vs in
    cond_both (All (Levelled levels)) (is_item (length src) w v)
    (level_ranks-length f (cell w v rank_number) levels (operand_list (line_operands g src (cell w v place_number))), r) r

-- the supplied item's weights, one at each level
rank-counts : (k : ℕ) (rs : List Rule) → counts (levels_of_rank k rs) ≡ replicate (length rs) 1
unfolding levels_of_rank
rank-counts k [] = refl
rank-counts k (r ∷ rs) = ap (λ (x : List ℕ). 1 ∷ x) (rank-counts k rs)

rank-weights : (k : ℕ) (rs : List Rule) → flatten (levels_of_rank k rs) ≡ replicate (length rs) k
unfolding levels_of_rank flatten
rank-weights k [] = refl
rank-weights k (r ∷ rs) = ap (λ (x : List ℕ). k ∷ x) (rank-weights k rs)

rank-levels : (k : ℕ) (rs : List Rule) → length (levels_of_rank k rs) ≡ length rs
unfolding levels_of_rank
rank-levels k [] = refl
rank-levels k (r ∷ rs) = ap suc (rank-levels k rs)

rank-many : (k : ℕ) (rs : List Rule) → count_all (levels_of_rank k rs) ≡ length rs
rank-many k rs = sym (flatten-length (levels_of_rank k rs)) ∙ ap length (rank-weights k rs) ∙ length-replicate (length rs) k

module _ (rs : List Rule) (count : ℕ) where
  supplied-levelled : (supplied : Bool) → All (Levelled (length rs)) (supplied_items supplied rs count)
  unfolding supplied_items
  supplied-levelled true = (rank-levels (suc count) rs, tt)
  supplied-levelled false = tt

  supplied-length : (supplied : Bool) (items : ℕ) → all_items supplied items ≡ items + length (supplied_items supplied rs count)
  unfolding supplied_items
  supplied-length true items = refl
  supplied-length false items = omega arith

  supplied-weights : (supplied : Bool) (weights : ℕ) → all_weights supplied (length rs) weights ≡ weights + weight_count (supplied_items supplied rs count)
  unfolding supplied_items weight_count
  supplied-weights true weights = omega (arith, rank-many (suc count) rs)
  supplied-weights false weights = omega arith

  -- its characters, its ends, and its weights
  supplied-chars : char_numbers (supplied_items true rs count) [] ≡ padded [] []
  unfolding supplied_items char_numbers
  supplied-chars = refl

  supplied-ends : (start : ℕ) → sums start (counts (weight_lists (supplied_items true rs count))) ≡ supplied_ends (length rs) start
  unfolding supplied_items weight_lists
  supplied-ends start = rw (append-nil (levels_of_rank (suc count) rs), rank-counts (suc count) rs)

  supplied-ranks : weight_numbers (supplied_items true rs count) [] ≡ replicate (length rs) (suc count)
  unfolding supplied_items weight_numbers
  supplied-ranks = rw (rank-weights (suc count) rs, append-nil (replicate (length rs) (suc count)))

-- ## The parts together

module _ (g : Signs) (src w : List ℕ) (sh : Sheet) (items weights : ℕ) (supplied : Bool) (area : List ℕ)
    (b : Buildable g src w sh items weights supplied area) where
  abbrev rs : List Rule
  rs = rules_at g src sh.rules

  abbrev js : List Item
  js = supplied_items supplied (rules_at g src sh.rules) sh.order.count

  pub build-items : items ≤ 32767
  build-items = omega (arith, b.sums.few-items, b.ready.few)

  pub build-weights : weights ≤ 2097088
  build-weights = omega (arith, b.sums.few-weights, build-items)

  unlisted-long : length (unlisted sh.levels (all_items supplied items) area) ≡ 2 * all_items supplied items
  unlisted-long =
      let n : ℕ = all_items supplied items in
      let d : ℕ = listing_part sh.levels n in
      length-take-le (2 * n) (drop d area) (omega (arith, b.room, size_is sh.levels items weights supplied, length-drop d area))

  module _ {all sum : ℕ} (e : all ≡ all_items supplied items) (k : sum ≡ all_weights supplied sh.levels weights) where
    all_are : all ≡ items + length js
    all_are = e ∙ supplied-length rs sh.order.count supplied items

    sum_are : sum ≡ weights + weight_count js
    sum_are = k ∙ ap (λ (n : ℕ). all_weights supplied n weights) (sym b.levels) ∙ supplied-weights rs sh.order.count supplied weights

    size-are : weights_part sh.levels all + sum ≡ table_size sh.levels items weights supplied
    size-are = rw (e, k) (sym (size_is sh.levels items weights supplied))

    room : weights_part sh.levels all + sum ≤ length area
    room = omega (arith, b.room, size-are)

    pub build-head : HeadFits g src sh.rules sh.levels all sum area
    build-head = record {
      started = b.started;
      within = b.within;
      room = omega (arith, room, b.levels);
      few-levels = b.few;
      few-items = size-items supplied items e build-items;
      few-weights = omega (arith, k, all-weights-few supplied sh.levels weights b.few build-weights);
    }

    module _ {head : List ℕ}
        (p : head ≡ sets (sets area 0 (front_numbers sh.levels all sum)) (rules_part sh.levels all) (map rule_number (rules_at g src sh.rules)))
        {chars base : ℕ}
        (q : chars ≡ ends_at sh.levels all) (o : base ≡ weights_part sh.levels all) where
      head-long : length head ≡ length area
      head-long =
          let front : List ℕ = front_numbers sh.levels all sum in
          ap length p ∙ length-sets (sets area 0 front) (rules_part sh.levels all) (map rule_number rs) ∙ length-sets area 0 front

      ends-before : 16 + items * sh.levels ≤ chars
      ends-before =
          omega (arith, q, ends_at-is sh.levels all, mul-le-mul_right {m = items} {n = all} sh.levels (omega (arith, all_are)))

      pub build-lines : Fillable g src w sh.order sh.levels head 16 chars base
      build-lines =
          let r : LinesReady g src w sh.order sh.levels = b.ready in
          let s : Sound (key_at g src) (length src) w = r.sound in
          let is : List Item = items_of g src w sh.levels (rank_in w s.ds) r.marks in
          let i : items ≡ length is = b.sums.items-are r.marks r.lines s.n s.ds s.holds in
          let c : weights ≡ weight_count is = b.sums.weights-are r.marks r.lines s.n s.ds s.holds in
          record {
            ready = r;
            by = rank_in w s.ds;
            ends = rw (← i) ends-before;
            chars = omega (arith, i, q, o, all_are);
            weights = omega (arith, c, o, room, sum_are, head-long);
          }

      module _ {filled : List ℕ} (r : Filled g src w sh.order sh.levels head 16 chars base filled) where
        filled-long : length filled ≡ length area
        filled-long =
            let t : LinesReady g src w sh.order sh.levels = b.ready in
            let s : Sound (key_at g src) (length src) w = t.sound in
            let is : List Item = items_of g src w sh.levels (rank_in w s.ds) t.marks in
            ap length (r.is t.marks t.lines s.n s.ds s.holds)
            ∙ length-sets (sets (sets head chars (char_numbers is [])) 16 (ends is)) base (weight_numbers is [])
            ∙ length-sets (sets head chars (char_numbers is [])) 16 (ends is)
            ∙ length-sets head chars (char_numbers is [])
            ∙ head-long

        whole : {after : List ℕ}
            → after
            ≡ sets (sets (sets filled (chars + 4 * items) (char_numbers js [])) (ends_at sh.levels items) (sums weights (counts (weight_lists js))))
            (base + weights) (weight_numbers js [])
            → Tabled g src w sh items weights supplied area after
        unfolding meaning_by
        whole z = record {
          is = λ vs ls n ds h.
              let is : List Item = items_of g src w sh.levels (rank_in w ds) vs in
              let m : Meaning = record { rules = rs; items = is ++ js } in
              let i : items ≡ length is = b.sums.items-are vs ls n ds h in
              let c : weights ≡ weight_count is = b.sums.weights-are vs ls n ds h in
              parts-written rs is js area (sym b.levels) i c (all_are ∙ ap (λ (m : ℕ). m + length js) i)
              (sum_are ∙ ap (λ (m : ℕ). m + weight_count js) c) q o (items-levelled g src w sh.levels (rank_in w ds) vs)
              (supplied-levelled rs sh.order.count supplied) room p (r.is vs ls n ds h) z
              ∙ ap (λ (x : ℕ). stored_with (unlisted sh.levels x area) m (drop (weights_part sh.levels all + sum) area)) e
              ∙ ap (λ (x : ℕ). stored_with (unlisted sh.levels (all_items supplied items) area) m (drop x area)) size-are;
        }

        pub build-plain : supplied ≡ false → Tabled g src w sh items weights supplied area filled
        unfolding supplied_items char_numbers weight_lists sums weight_numbers
        build-plain s = whole (rw s)

        pub build-suppliable : supplied ≡ true → Suppliable sh.levels items weights sh.order.count chars base filled
        build-suppliable s =
            let a : all ≡ suc items = e ∙ rw s (add-one items) in
            let y : sum ≡ weights + sh.levels = k ∙ rw s in
            record {
              few-levels = b.few;
              few-items = build-items;
              few-weights = build-weights;
              few-lines = b.ready.few;
              near = omega (arith, o, weights_part-bound sh.levels all b.few (size-items supplied items e build-items));
              ends = omega (arith, q, ends_at-room sh.levels items all (omega (arith, a)));
              behind-chars = omega (arith, q, o, a);
              room = omega (arith, o, y, room, filled-long);
            }

        pub build-supplied : supplied ≡ true → {after : List ℕ}
            → after ≡ with_supplied filled sh.levels weights (sh.order.count + 1) (ends_at sh.levels items) (chars + 4 * items) (base + weights)
            → Tabled g src w sh items weights supplied area after
        build-supplied s z =
            let count : ℕ = sh.order.count in
            let j : js ≡ supplied_items true rs count = rw s in
            let x : padded [] [] ≡ char_numbers js [] = rw j (sym (supplied-chars rs count)) in
            let es : List ℕ = supplied_ends sh.levels weights in
            let ranks : List ℕ = replicate sh.levels (count + 1) in
            let y : es ≡ sums weights (counts (weight_lists js)) = rw (← b.levels, j) (sym (supplied-ends rs count weights)) in
            let v : ranks ≡ weight_numbers js [] = rw (add-one count, ← b.levels, j) (sym (supplied-ranks rs count)) in
            let from : ℕ = chars + 4 * items in
            let slots : ℕ = ends_at sh.levels items in
            whole
            (z
            ∙ ap (λ (a : List ℕ). sets (sets (sets filled from a) slots es) (base + weights) ranks) x
            ∙ ap (λ (a : List ℕ). sets (sets (sets filled from (char_numbers js [])) slots a) (base + weights) ranks) y
            ∙ ap (sets (sets (sets filled from (char_numbers js [])) slots (sums weights (counts (weight_lists js)))) (base + weights)) v)

-- ## The listing and the starts

module _ (g : Signs) (src w : List ℕ) (sh : Sheet) (items weights : ℕ) (supplied : Bool) (area : List ℕ)
    (b : Buildable g src w sh items weights supplied area) {all : ℕ} (e : all ≡ all_items supplied items) {t : List ℕ} where
  pub build-listing : length t ≡ length area → (buf : List ℕ) → 16384 ≤ length buf → Room t sh.levels all w buf
  build-listing l buf k =
      let few : all ≤ 32768 = size-items supplied items e (build-items g src w sh items weights supplied area b) in
      record {
        few-levels = b.few;
        few-items = few;
        parts = omega (arith, b.room, l, size_is sh.levels items weights supplied, ap (rules_part sh.levels) e);
        places = omega (arith, b.places, e, all_near supplied items);
        half = omega (arith, few);
      }

  pub build-whole : {u : List ℕ} → Tabled g src w sh items weights supplied area t → Permuted t sh.levels all u
      → Built g src w sh items weights supplied area u
  unfolding meaning_by
  build-whole a p = record {
    is = λ vs ls n ds h s.
        let rs : List Rule = rules_at g src sh.rules in
        let is : List Item = items_of g src w sh.levels (rank_in w ds) vs in
        let js : List Item = supplied_items supplied (rules_at g src sh.rules) sh.order.count in
        let m : Meaning = meaning_by g src w sh supplied (rank_in w ds) vs in
        let rest : List ℕ = drop (table_size sh.levels items weights supplied) area in
        let i : items ≡ length is = b.sums.items-are vs ls n ds h in
        let xs : List ℕ = unlisted sh.levels (all_items supplied items) area in
        let c : all_items supplied items ≡ length (is ++ js) =
        supplied-length rs sh.order.count supplied items ∙ ap (λ (k : ℕ). k + length js) i ∙ sym (length-append is js) in
        p.stored m xs rest
        record {
          levels-are = sym b.levels;
          items-are = e ∙ c;
          all-stored = subst (λ (l : ℕ). AllStored l (is ++ js)) (sym b.levels) s;
          two-each = unlisted-long g src w sh items weights supplied area b ∙ ap (λ (k : ℕ). 2 * k) c;
        }
        (a.is vs ls n ds h);
  }
