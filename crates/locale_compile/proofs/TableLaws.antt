-- The table after the ranks: its size, and that what is built is what the paper compiles.
use Rattle.std.specs.Prelude.{Err, Ok}
use mathlib.Core.Path.{◌≡◌, refl, sym, ap, ◌∙◌, subst}
use mathlib.Core.Bool.{Bool, true, false}
use mathlib.Core.List.{List, [], ◌∷◌, ◌++◌, append-nil}
use Prim.Native.Nat.{ℕ, suc, ◌+◌, ◌≤◌, ◌<◌}
use native.Mathlib.Omega.{arith}
use lib.ListN.{length, drop, length-append}
use lib.Dec.{eqb}
use Rattle.rules.specs.Text.{every, refused}
use Rattle.rules.specs.Meaning.{Rule, Item, Meaning, count_all, weight_count, size_of, good}
use Rattle.rules.specs.Table.{stored_form}
use Rattle.rules.specs.State.{OrderLine, undefined}
use Rattle.rules.specs.OrderLines.{rank_of}
use Rattle.rules.specs.Compile.{levels_of_rank, supplied, meaning_of, is_ranked}
use Rattle.rules.proofs.StorableLaws.{AllStored, meaning-stored}
use Rattle.rules.proofs.SizeLaws.{stored-size}
use Rattle.rules.proofs.TableLaws.{stored-append}
use Rattle.text_lines.specs.declared.Signs.{Signs}
use Rattle.work_rows.specs.Cells.{cell}
use Rattle.work_order.specs.Links.{place_number}
use Rattle.table_weights.specs.Ranks.{rank_in}
use Rattle.work_store.specs.Store.{undefined_mark}
use Rattle.locale_sheet.specs.declared.Sheet.{Sheet}
use Rattle.locale_sheet.specs.Sheets.{rules_at}
use Rattle.base_units.specs.declared.Refusal.TheVariants.{ShortArea, Unranked}
use Rattle.table_items.specs.Items.{items_of, WholeSums, UnrankedAt}
use Rattle.table_whole.specs.Building.{supplied_items, meaning_by, all_items, all_weights, table_size, Buildable, Built}
use Rattle.locale_compile.specs.Finishing.{AnswerIs, RanksGiven, TableFits}
use Rattle.locale_compile.proofs.FinishLaws.{finish-unranked, finish-short, finish-granted, meant-good, answer-refused, answer-done}

-- ## UNDEFINED, where it is supplied

weight_count-append : (is js : List Item) → weight_count (is ++ js) ≡ weight_count is + weight_count js
unfolding weight_count
weight_count-append [] js = omega arith
weight_count-append (i ∷ is) js = omega (arith, weight_count-append is js)

levels-count : (k : ℕ) (rs : List Rule) → count_all (levels_of_rank k rs) ≡ length rs
unfolding count_all levels_of_rank
levels-count k [] = refl
levels-count k (r ∷ rs) = omega (arith, levels-count k rs)

items-all : (b : Bool) (is : List Item) (rs : List Rule) (k : ℕ) → length (is ++ supplied_items b rs k) ≡ all_items b (length is)
unfolding supplied_items
items-all true is rs k = length-append is _
items-all false is rs k = ap length (append-nil is)

weights-all : (b : Bool) (is : List Item) (rs : List Rule) (k : ℕ) → weight_count (is ++ supplied_items b rs k) ≡ all_weights b (length rs) (weight_count is)
unfolding supplied_items weight_count
weights-all true is rs k = let e = weight_count-append is (supplied_items true rs k) in let c = levels-count (suc k) rs in omega (arith, e, c)
weights-all false is rs k = ap weight_count (append-nil is)

-- it is supplied as the paper does
supplied-as : (b : Bool) (rs qs : List Rule) (count : ℕ) (ls : List OrderLine) → b ≡ eqb (rank_of ls undefined) 0 → rs ≡ qs → count ≡ length ls
    → supplied_items b rs count ≡ supplied qs ls
unfolding supplied_items supplied
supplied-as b rs qs count ls e f c = rw (e, f, c)

-- ## After the ranks

module _ {src w : List ℕ} {g : Signs} {sh : Sheet} (v : RanksGiven src w g sh) where
  abbrev ordered : List OrderLine
  ordered = v.last.ordered.lines

  rules-many : length (rules_at g src sh.rules) ≡ sh.levels
  rules-many = ap length (sym v.rules) ∙ v.meant.many

  pub few_bytes : length src ≤ 1048576
  few_bytes = v.meant.holds.roomy.few

  pub work-room : length src + 64 ≤ length w
  work-room = v.meant.holds.roomy.room

  -- 8
  pub unranked-answer : {line : ℕ} (area : List ℕ) → UnrankedAt g src w sh.order sh.levels line → AnswerIs src area area (Err (Unranked, line))
  unranked-answer {line} area u =
      answer-refused src area Unranked line
      (finish-unranked (length area) _ v.last v.run (sym v.meant.weighed ∙ u.unweighed-some v.meant.marks v.meant.lines v.meant.n v.meant.ds v.meant.holds)
      ∙ ap (refused 8) (sym v.meant.first ∙ sym (u.line-is v.meant.marks v.meant.lines v.meant.n v.meant.ds v.meant.holds)))

  module _ {items weights : ℕ} (u : WholeSums g src w sh.order sh.levels items weights) where
    sums-ranked : every (is_ranked ordered) ordered ≡ true
    sums-ranked = sym v.meant.weighed ∙ u.weighed v.meant.marks v.meant.lines v.meant.n v.meant.ds v.meant.holds

    pub few-items : items ≤ 32767
    few-items = let a = u.few-items in let b = v.ready.few in omega (arith, a, b)

    pub few-weights : weights ≤ 2097088
    few-weights = let a = u.few-weights in let b = few-items in omega (arith, a, b)

    module _ (b : Bool) (e : b ≡ eqb (cell w (undefined_mark (length src)) place_number) 0) where
      abbrev meant : Meaning
      meant = meaning_by g src w sh b (rank_in w v.meant.ds) v.meant.marks

      supplied-same : supplied_items b (rules_at g src sh.rules) sh.order.count ≡ supplied v.last.ordered.rules ordered
      supplied-same =
          supplied-as b (rules_at g src sh.rules) v.last.ordered.rules sh.order.count ordered (e ∙ sym v.meant.undefined-is) (sym v.rules) v.meant.count

      same-meaning : meant ≡ meaning_of v.last
      unfolding meaning_by meaning_of
      same-meaning = rw (v.meant.items, supplied-same, ← v.rules)

      same_size : table_size sh.levels items weights b ≡ size_of meant
      unfolding table_size size_of meaning_by
      same_size =
          let is = items_of g src w sh.levels (rank_in w v.meant.ds) v.meant.marks in
          let i = u.items-are v.meant.marks v.meant.lines v.meant.n v.meant.ds v.meant.holds in
          let k = u.weights-are v.meant.marks v.meant.lines v.meant.n v.meant.ds v.meant.holds in
          rw (items-all b is (rules_at g src sh.rules) sh.order.count, weights-all b is (rules_at g src sh.rules) sh.order.count, rules-many, ← i, ← k)

      meaning-size : table_size sh.levels items weights b ≡ size_of (meaning_of v.last)
      meaning-size = same_size ∙ ap size_of same-meaning

      -- 9
      pub short-answer : (area : List ℕ) (size : ℕ) → size ≡ table_size sh.levels items weights b → length area < size → AnswerIs src area area (Err (ShortArea, 0))
      short-answer area size z h =
          answer-refused src area ShortArea 0 (finish-short (length area) _ v.last v.run sums-ranked (let s = meaning-size in omega (arith, h, s, z)))

      pub table_fits : (area : List ℕ) (size : ℕ) → size ≡ table_size sh.levels items weights b → size ≤ length area → TableFits src w sh items weights b size area
      table_fits area size z h = record { flag = e; size_is = z; room = h }

      good-meant : good (meaning_of v.last) ≡ true
      good-meant = meant-good src v.last v.meant.holds.roomy.few v.run sums-ranked

      stored-meant : AllStored sh.levels meant.items
      unfolding meaning_of
      stored-meant =
          subst (λ (l : ℕ). AllStored l meant.items) v.meant.many
          (subst (λ (m : Meaning). AllStored (length v.last.ordered.rules) m.items) (sym same-meaning) (meaning-stored (meaning_of v.last) good-meant))

    module _ {b : Bool} {size : ℕ} {area : List ℕ} (f : TableFits src w sh items weights b size area) where
      pub table-buildable : Buildable g src w sh items weights b area
      table-buildable = record {
        ready = v.ready;
        started = v.started;
        within = v.within;
        levels = rules-many;
        few = v.few;
        sums = u;
        room = let h = f.room in let z = f.size_is in omega (arith, h, z);
        places = let a = u.few-items in let c = v.meant.places in omega (arith, a, c);
      }

      pub done-answer : (after : List ℕ) → Built g src w sh items weights b area after → AnswerIs src area after (Ok size)
      done-answer after a =
          let m = meaning_of v.last in
          let z = meaning-size b f.flag in
          let t = f.size_is in
          let h = f.room in
          let l : length (stored_form m []) ≡ table_size sh.levels items weights b = let y = stored-size m [] (good-meant b f.flag) in omega (arith, y, z) in
          answer-done src area m after size
          (finish-granted (length area) _ v.last v.run sums-ranked (omega (arith, h, z, t))) (t ∙ z)
          (a.is v.meant.marks v.meant.lines v.meant.n v.meant.ds v.meant.holds (stored-meant b f.flag)
          ∙ ap (λ (x : Meaning). stored_form x (drop (table_size sh.levels items weights b) area)) (same-meaning b f.flag)
          ∙ sym (stored-append m [] (drop (table_size sh.levels items weights b) area))
          ∙ ap (λ (k : ℕ). stored_form m [] ++ drop k area) (sym l))
