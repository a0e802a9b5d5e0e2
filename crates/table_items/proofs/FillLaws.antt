-- The items of the order lines, written one after the other: how much they take, and the turns of the loop.
use mathlib.Core.Path.{◌≡◌, refl, sym, ap, ◌∙◌, subst}
use mathlib.Core.Bool.{Bool, true, false, ◌&&◌, ◌||◌}
use mathlib.Core.List.{List, [], ◌∷◌, ◌++◌, map, flatten}
use Prim.Native.Nat.{ℕ, zero, suc, ◌+◌, ◌-◌, ◌*◌, ◌/◌, ◌≤◌, ◌<◌, ◌^◌}
use native.Mathlib.Omega.{arith}
use lib.ListN.{length, length-append, length-map}
use lib.Seq.{sets, length-sets}
use lib.Dec.{eqb, leb}
use borrow.Author.Tests.{leb-true}
use Rattle.base_lists.proofs.Bools.{by}
use Rattle.base_lists.proofs.Lists.{All, sets-append, sets-swap}
use Rattle.rules.specs.Text.{every, is, ◌unless◌}
use Rattle.rules.specs.Tokens.{Token}
use Rattle.rules.specs.Meaning.{Item, count_all, weight_count}
use Rattle.rules.specs.Table.{padded, sums, counts, weight_lists, ends, char_numbers, weight_numbers}
use Rattle.rules.specs.State.{Subject}
use Rattle.rules.specs.OrderLines.{subject_of, is_names, operand_list}
use Rattle.rules.proofs.TextLaws.{lower-none, lowest-unless}
use Rattle.rules.proofs.SizeLaws.{flatten-length, chars-length, counts-length}
use Rattle.text_lines.specs.declared.Signs.{Signs}
use Rattle.work_rows.specs.Cells.{cell}
use Rattle.work_subjects.specs.Keys.{key_at}
use Rattle.work_store.specs.Store.{Decl, Holds, Sound}
use Rattle.work_order.specs.declared.Order.{Order}
use Rattle.work_order.specs.Links.{place_number, rank_number, next_number, Row, Linked, goes}
use Rattle.work_order.proofs.RankLaws.{linked-one}
use Rattle.locale_weights.specs.Weights.{weight_refusal_by, weights_refusal_by}
use Rattle.locale_weights.proofs.RefusalLaws.{weights-cons}
use Rattle.table_weights.specs.Ranks.{rank_in, ranks_by, level_ranks}
use Rattle.table_weights.specs.Reading.{line_operands, ranks_at, item_ranks, Readable, RowReady}
use Rattle.table_records.specs.Writing.{item_chars, CharsReady, ItemRoom, ItemPut}
use Rattle.table_records.proofs.LineLaws.{count_all-any, level_ranks-length}
use Rattle.table_items.specs.Items.{is_item, item_of, items_of, LineReady}
use Rattle.table_items.specs.Filling.{Fillable, Filled}

-- ## At most 64 weights for a line

-- at most 8 names
names-few : (s : Subject → Bool) (t : Token) (ts : List Token) → weight_refusal_by s (t ∷ ts) ≡ 0 → length t.names ≤ 8
unfolding weight_refusal_by
names-few s t ts h =
    let a : Bool = eqb (length ts) 0 && (is_names t || is t.text "IGNORE") in
    let b : Bool = every s (map subject_of t.names) in
    let c : Bool = leb (length t.names) 8 in
    let x = (lowest-unless 3 a ((6 unless b) ∷ (7 unless c) ∷ []) (omega arith) h).1 in
    let y = (lowest-unless 6 b ((7 unless c) ∷ []) (omega arith) x).1 in
    leb-true (length t.names) 8 (lowest-unless 7 c [] (omega arith) y).0

operand-few : (s : Subject → Bool) (f : Subject → ℕ) (own : ℕ) (w : List Token) → weight_refusal_by s w ≡ 0 → length (ranks_by f own w) ≤ 8
unfolding ranks_by
operand-few s f own [] h = omega arith
operand-few s f own (t ∷ ts) h = omega (arith, length-map t.names (λ (n : List ℕ). f (subject_of n)), names-few s t ts h)

levels-few : (s : Subject → Bool) (f : Subject → ℕ) (own l : ℕ) (ws : List (List Token)) → weights_refusal_by s ws ≡ 0
    → count_all (level_ranks f own l ws) ≤ 8 * l
unfolding level_ranks count_all
levels-few s f own zero ws h = omega arith
levels-few s f own (suc l) [] h = omega (arith, levels-few s f own l [] h)
levels-few s f own (suc l) (w ∷ ws) h =
    let p = lower-none (weight_refusal_by s w) (weights_refusal_by s ws) (sym (weights-cons s w ws) ∙ h) in
    omega (arith, operand-few s f own w p.0, levels-few s f own l ws p.1)

module _ (g : Signs) (src w : List ℕ) (levels : ℕ) where
  line-few : (f : Subject → ℕ) (v : ℕ) → LineReady g src w levels v → count_all (item_ranks g src w v levels f) ≤ 64
  unfolding item_ranks ranks_at
  line-few f v r =
      let k : Readable g src (cell w v place_number) levels = r.row.line in
      let e = levels-few k.weighed.stands f (cell w v rank_number) levels (operand_list (line_operands g src (cell w v place_number))) k.weighed.each in
      omega (arith, e, k.few)

  -- ## How much the items take, whatever the ranks are

  ranks-length : (f : Subject → ℕ) (v : ℕ) → length (item_ranks g src w v levels f) ≡ levels
  unfolding item_ranks ranks_at
  ranks-length f v = level_ranks-length f (cell w v rank_number) levels (operand_list (line_operands g src (cell w v place_number)))

  ranks-count : (f h : Subject → ℕ) (v : ℕ) → count_all (item_ranks g src w v levels f) ≡ count_all (item_ranks g src w v levels h)
  unfolding item_ranks ranks_at
  ranks-count f h v = count_all-any f h (cell w v rank_number) levels (operand_list (line_operands g src (cell w v place_number)))

  items-item : (f : Subject → ℕ) (v : ℕ) (vs : List ℕ) → is_item (length src) w v ≡ true
      → items_of g src w levels f (v ∷ vs) ≡ item_of g src w levels f v ∷ items_of g src w levels f vs
  unfolding items_of
  items-item f v vs e = rw e

  items-other : (f : Subject → ℕ) (v : ℕ) (vs : List ℕ) → is_item (length src) w v ≡ false → items_of g src w levels f (v ∷ vs) ≡ items_of g src w levels f vs
  unfolding items_of
  items-other f v vs e = rw e

  items-count : (f h : Subject → ℕ) (vs : List ℕ) → length (items_of g src w levels f vs) ≡ length (items_of g src w levels h vs)
  unfolding items_of
  items-count f h [] = refl
  items-count f h (v ∷ vs) = by (is_item (length src) w v) (λ e. rw e (ap suc (items-count f h vs))) (λ e. rw e (items-count f h vs))

  weights-count : (f h : Subject → ℕ) (vs : List ℕ) → weight_count (items_of g src w levels f vs) ≡ weight_count (items_of g src w levels h vs)
  unfolding items_of item_of weight_count
  weights-count f h [] = refl
  weights-count f h (v ∷ vs) =
      by (is_item (length src) w v) (λ e. rw e (omega (arith, ranks-count f h v, weights-count f h vs))) (λ e. rw e (weights-count f h vs))

  lists_length : (f : Subject → ℕ) (vs : List ℕ) → length (weight_lists (items_of g src w levels f vs)) ≡ length (items_of g src w levels f vs) * levels
  unfolding items_of item_of weight_lists
  lists_length f [] = simp native.Mathlib.Nat.zero-mul refl
  lists_length f (v ∷ vs) =
      by (is_item (length src) w v)
      (λ e.
      let R : List (List ℕ) = item_ranks g src w v levels f in
      let is : List Item = items_of g src w levels f vs in
      rw e
      (omega (arith, length-append R (weight_lists is), ranks-length f v, native.Mathlib.Nat.suc-mul (length is) levels, lists_length f vs)))
      (λ e. rw e (lists_length f vs))

-- ## Running sums

-- behind some of them, they go on from all of these
pub sums-append : (at : ℕ) (ws vs : List (List ℕ)) → sums at (counts (ws ++ vs)) ≡ sums at (counts ws) ++ sums (at + count_all ws) (counts vs)
unfolding sums count_all
sums-append at [] vs = let e : at + 0 ≡ at = omega arith in rw e
sums-append at (w ∷ ws) vs =
    let e : at + length w + count_all ws ≡ at + (length w + count_all ws) = omega arith in
    ap (λ (r : List ℕ). (at + length w) ∷ r)
    (sums-append (at + length w) ws vs ∙ ap (λ (k : ℕ). sums (at + length w) (counts ws) ++ sums k (counts vs)) e)

-- ## One item first, then the others

-- three runs, one before the other, each of which goes on behind its first part
pub three-rows : (area : List ℕ) (slot : ℕ) (a b : List ℕ) (from : ℕ) (p q : List ℕ) (next : ℕ) (x y : List ℕ) → slot + length a + length b ≤ from
    → from + length p + length q ≤ next
    → sets (sets (sets (sets (sets (sets area from p) slot a) next x) (from + length p) q) (slot + length a) b) (next + length x) y
    ≡ sets (sets (sets area from (p ++ q)) slot (a ++ b)) next (x ++ y)
three-rows area slot a b from p q next x y h k =
    let first : List ℕ = sets (sets area from p) slot a in
    let chars : List ℕ = sets area from (p ++ q) in
    ap (λ (z : List ℕ). sets (sets z (slot + length a) b) (next + length x) y) (sets-swap first (from + length p) q next x k)
    ∙ ap (λ (z : List ℕ). sets (sets (sets z next x) (slot + length a) b) (next + length x) y)
    (sym (sets-swap (sets area from p) slot a (from + length p) q (omega arith)) ∙ ap (λ (z : List ℕ). sets z slot a) (sym (sets-append area from p q)))
    ∙ ap (λ (z : List ℕ). sets z (next + length x) y) (sets-swap (sets chars slot a) (slot + length a) b next x (omega arith))
    ∙ ap (λ (z : List ℕ). sets (sets z next x) (next + length x) y) (sym (sets-append chars slot a b))
    ∙ sym (sets-append (sets chars slot (a ++ b)) next x y)

-- the characters, ends and weights of items, `start` weights standing before those
abbrev put : List ℕ → ℕ → ℕ → ℕ → ℕ → List Item → List ℕ
put area slot from next start is =
    sets (sets (sets area from (char_numbers is [])) slot (sums start (counts (weight_lists is)))) next (weight_numbers is [])

-- those of one item, then those of the others
item-first : (area : List ℕ) (slot from next start levels : ℕ) (i : Item) (is : List Item) → length i.weights ≡ levels
    → slot + levels + length (weight_lists is) ≤ from → from + 4 + 4 * length is ≤ next
    → put (sets (sets (sets area from (padded i.chars [])) slot (sums start (counts i.weights))) next (flatten i.weights)) (slot + levels) (from + 4)
    (next + count_all i.weights) (start + count_all i.weights) is ≡ put area slot from next start (i ∷ is)
unfolding char_numbers weight_lists weight_numbers
item-first area slot from next start levels i is e h k =
    let c : ℕ = count_all i.weights in
    let p : List ℕ = padded i.chars [] in
    let q : List ℕ = char_numbers is [] in
    let a : List ℕ = sums start (counts i.weights) in
    let b : List ℕ = sums (start + c) (counts (weight_lists is)) in
    let x : List ℕ = flatten i.weights in
    let y : List ℕ = weight_numbers is [] in
    let l : levels ≡ length a = sym (counts-length start i.weights ∙ e) in
    let m : c ≡ length x = sym (flatten-length i.weights) in
    let one : List ℕ = sets (sets (sets area from p) slot a) next x in
    ap (λ (n : ℕ). sets (sets (sets one (from + 4) q) (slot + n) b) (next + c) y) l
    ∙ ap (λ (n : ℕ). sets (sets (sets one (from + 4) q) (slot + length a) b) (next + n) y) m
    ∙ three-rows area slot a b from p q next x y (omega (arith, h, l, counts-length (start + c) (weight_lists is))) (omega (arith, k, chars-length is []))
    ∙ ap (λ (z : List ℕ). sets (sets (sets area from (p ++ q)) slot z) next (x ++ y)) (sym (sums-append start i.weights (weight_lists is)))

-- ## The loop

-- Lines are left, from v on: what writing their items gives is the whole, and there is room for them, whatever the ranks are.
pub record Writing (g : Signs) (src w : List ℕ) (levels : ℕ) (area₀ : List ℕ) (slots from base v₀ : ℕ) (area : List ℕ) (v left slot place next : ℕ) : Type 0 where
  pub marks : List ℕ
  pub linked : Linked w v marks
  pub count : left ≡ length marks
  pub ready : All (LineReady g src w levels) marks
  pub sound : Sound (key_at g src) (length src) w
  pub same : (vs : List ℕ) → Linked w v₀ vs → (n : ℕ) (ds : List Decl) → Holds (key_at g src) (length src) w n ds
      → put area slot place next (next - base) (items_of g src w levels (rank_in w ds) marks)
      ≡ put area₀ slots from base 0 (items_of g src w levels (rank_in w ds) vs)
  pub long : length area ≡ length area₀
  pub ends : (f : Subject → ℕ) → slot + length (items_of g src w levels f marks) * levels ≤ place
  pub chars : (f : Subject → ℕ) → place + 4 * length (items_of g src w levels f marks) ≤ base
  pub weights : (f : Subject → ℕ) → next + weight_count (items_of g src w levels f marks) ≤ length area
  pub few : next + 64 * left ≤ base + 64 * 32767
  pub to : base ≤ next

pub writing-none : (g : Signs) (src w : List ℕ) (o : Order) (levels : ℕ) (area : List ℕ) (slots from base : ℕ)
    → Fillable g src w o levels area slots from base → Writing g src w levels area slots from base o.first area o.first o.count slots from base
writing-none g src w o levels area slots from base h =
    let r = h.ready in
    record {
      marks = r.marks;
      linked = r.lines.linked;
      count = r.lines.count;
      ready = r.ready;
      sound = r.sound;
      same = λ vs k n ds p.
          let z : base - base ≡ 0 = omega arith in
          rw z
          (ap (λ (us : List ℕ). put area slots from base 0 (items_of g src w levels (rank_in w ds) us))
          (linked-one w o.first r.marks vs r.lines.linked k));
      long = refl;
      ends = λ f. let e = items-count g src w levels f h.by r.marks in rw e h.ends;
      chars = λ f. let e = items-count g src w levels f h.by r.marks in rw e h.chars;
      weights = λ f. let e = weights-count g src w levels f h.by r.marks in rw e h.weights;
      few = omega (arith, r.few);
      to = omega arith;
    }

-- The marks begin with v.
record First (w : List ℕ) (v : ℕ) (marks : List ℕ) : Type 0 where
  rest : List ℕ
  is : marks ≡ v ∷ rest
  row : Row w v
  linked : Linked w (cell w v next_number) rest

first-mark : (w : List ℕ) (v left : ℕ) (marks : List ℕ) → Linked w v marks → left ≡ length marks → 0 < left → First w v marks
first-mark w v left [] k c l = absurd (omega (arith, c))
first-mark w v left (u ∷ us) (goes r n) c l = record { rest = us; is = refl; row = r; linked = n }

module _ {g : Signs} {src w : List ℕ} {levels : ℕ} {area₀ : List ℕ} {slots from base v₀ : ℕ} {area : List ℕ} {v left slot place next : ℕ}
    (h : Writing g src w levels area₀ slots from base v₀ area v left slot place next) {more : ℕ} (l : suc more ≡ left) where
  ahead : First w v h.marks
  ahead = first-mark w v left h.marks h.linked h.count (omega arith)

  both : LineReady g src w levels v × All (LineReady g src w levels) ahead.rest
  both = subst (All (LineReady g src w levels)) ahead.is h.ready

  pub writing-chars : CharsReady (length src) w v
  writing-chars = both.0.chars

  pub writing-row : RowReady g src w v levels
  writing-row = both.0.row

  pub writing-inside : 8 * (v / 16) + 8 ≤ length w
  writing-inside = ahead.row.inside

  counted : left ≡ suc (length ahead.rest)
  counted = h.count ∙ ap length ahead.is

  -- the line of v gives an item
  module _ {b : Bool} (j : b ≡ is_item (length src) w v) (t : b ≡ true) where
    items : (f : Subject → ℕ) → items_of g src w levels f h.marks ≡ item_of g src w levels f v ∷ items_of g src w levels f ahead.rest
    items f = ap (items_of g src w levels f) ahead.is ∙ items-item g src w levels f v ahead.rest (sym j ∙ t)

    ends-are : (f : Subject → ℕ) → length (items_of g src w levels f h.marks) * levels ≡ length (items_of g src w levels f ahead.rest) * levels + levels
    ends-are f = ap (λ (x : List Item). length x * levels) (items f) ∙ native.Mathlib.Nat.suc-mul (length (items_of g src w levels f ahead.rest)) levels

    weights-are : (f : Subject → ℕ) → weight_count (items_of g src w levels f h.marks)
        ≡ count_all (item_ranks g src w v levels f) + weight_count (items_of g src w levels f ahead.rest)
    unfolding weight_count item_of
    weights-are f = ap weight_count (items f)

    pub writing-room : ItemRoom g src w v levels area slot place base next
    writing-room =
        let f : Subject → ℕ = λ u. 0 in
        record {
          ends = omega (arith, h.ends f, ends-are f);
          chars = omega (arith, h.chars f, ap length (items f));
          behind = h.to;
          by = f;
          room = omega (arith, h.weights f, weights-are f);
          small = omega (arith, h.few, line-few g src w levels f v both.0);
        }

    pub writing-slot : base < 2 ^ 64 → slot + levels < 2 ^ 64
    writing-slot s = omega (arith, writing-room.ends, writing-room.chars)

    pub writing-place : base < 2 ^ 64 → place + 4 < 2 ^ 64
    writing-place s = omega (arith, writing-room.chars)

    module _ {behind : ℕ} {after : List ℕ} (p : ItemPut g src w v levels area slot place base next after behind) {x y : ℕ} (d : x ≡ y)
        (n : y ≡ cell w v next_number) where
      behind-is : (f : Subject → ℕ) → behind ≡ next + count_all (item_ranks g src w v levels f)
      behind-is f =
          let k : Sound (key_at g src) (length src) w = h.sound in
          omega (arith, p.to k.n k.ds k.holds, ranks-count g src w levels (rank_in w k.ds) f v)

      same-long : length after ≡ length area₀
      same-long =
          let k : Sound (key_at g src) (length src) w = h.sound in
          let R : List (List ℕ) = item_ranks g src w v levels (rank_in w k.ds) in
          let cs : List ℕ = padded (item_chars g src w v) [] in
          let es : List ℕ = sums (next - base) (counts R) in
          ap length (p.is k.n k.ds k.holds)
          ∙ length-sets (sets (sets area place cs) slot es) next (flatten R)
          ∙ length-sets (sets area place cs) slot es
          ∙ length-sets area place cs
          ∙ h.long

      with_item : Writing g src w levels area₀ slots from base v₀ after x more (slot + levels) (place + 4) behind
      unfolding item_of
      with_item = record {
        marks = ahead.rest;
        linked = subst (λ (u : ℕ). Linked w u ahead.rest) (sym (d ∙ n)) ahead.linked;
        count = omega (arith, counted);
        ready = both.1;
        sound = h.sound;
        same = λ vs k m ds o.
            let f : Subject → ℕ = rank_in w ds in
            let i : Item = item_of g src w levels f v in
            let is : List Item = items_of g src w levels f ahead.rest in
            let c : ℕ = count_all (item_ranks g src w v levels f) in
            let z : behind - base ≡ next - base + c = omega (arith, behind-is f, h.to) in
            let before : slot + levels + length (weight_lists is) ≤ place = omega (arith, h.ends f, ends-are f, lists_length g src w levels f ahead.rest) in
            let between : place + 4 + 4 * length is ≤ next = omega (arith, h.chars f, ap length (items f), h.to) in
            ap (λ (a : List ℕ). put a (slot + levels) (place + 4) behind (behind - base) is) (p.is m ds o)
            ∙ rw (z, behind-is f) (item-first area slot place next (next - base) levels i is (ranks-length g src w levels f v) before between)
            ∙ ap (put area slot place next (next - base)) (sym (items f))
            ∙ h.same vs k m ds o;
        long = same-long;
        ends = λ f. omega (arith, h.ends f, ends-are f);
        chars = λ f. omega (arith, h.chars f, ap length (items f));
        weights = λ f. omega (arith, h.weights f, weights-are f, behind-is f, same-long, h.long);
        few = let f : Subject → ℕ = λ u. 0 in omega (arith, h.few, behind-is f, line-few g src w levels f v both.0);
        to = let f : Subject → ℕ = λ u. 0 in omega (arith, h.to, behind-is f);
      }

      pub writing-item : {area' : List ℕ} {slot' place' next' : ℕ} → area' ≡ after → slot' ≡ slot + levels → place' ≡ place + 4 → next' ≡ behind
          → Writing g src w levels area₀ slots from base v₀ area' x more slot' place' next'
      writing-item ea es ep en = rw (ea, es, ep, en) with_item

  -- it gives none
  module _ {b : Bool} (j : b ≡ is_item (length src) w v) (t : b ≡ false) {x y : ℕ} (d : x ≡ y) (n : y ≡ cell w v next_number) where
    rest-items : (f : Subject → ℕ) → items_of g src w levels f h.marks ≡ items_of g src w levels f ahead.rest
    rest-items f = ap (items_of g src w levels f) ahead.is ∙ items-other g src w levels f v ahead.rest (sym j ∙ t)

    without : Writing g src w levels area₀ slots from base v₀ area x more slot place next
    without = record {
      marks = ahead.rest;
      linked = subst (λ (u : ℕ). Linked w u ahead.rest) (sym (d ∙ n)) ahead.linked;
      count = omega (arith, counted);
      ready = both.1;
      sound = h.sound;
      same = λ vs k m ds o. ap (put area slot place next (next - base)) (sym (rest-items (rank_in w ds))) ∙ h.same vs k m ds o;
      long = h.long;
      ends = λ f. subst (λ (is : List Item). slot + length is * levels ≤ place) (rest-items f) (h.ends f);
      chars = λ f. subst (λ (is : List Item). place + 4 * length is ≤ base) (rest-items f) (h.chars f);
      weights = λ f. subst (λ (is : List Item). next + weight_count is ≤ length area) (rest-items f) (h.weights f);
      few = omega (arith, h.few);
      to = h.to;
    }

    pub writing-other : {area' : List ℕ} {slot' place' next' : ℕ} → area' ≡ area → slot' ≡ slot → place' ≡ place → next' ≡ next
        → Writing g src w levels area₀ slots from base v₀ area' x more slot' place' next'
    writing-other ea es ep en = rw (ea, es, ep, en) without

-- no line is left
none_left : (left : ℕ) (marks : List ℕ) → left ≡ length marks → left ≤ 0 → marks ≡ []
none_left left [] c l = refl
none_left left (u ∷ us) c l = absurd (omega (arith, c))

pub writing-all : {g : Signs} {src w : List ℕ} (o : Order) {levels : ℕ} {area₀ : List ℕ} {slots from base : ℕ} {area : List ℕ}
    {v left slot place next : ℕ} → Writing g src w levels area₀ slots from base o.first area v left slot place next → left ≤ 0
    → Filled g src w o levels area₀ slots from base area
unfolding items_of char_numbers weight_lists sums ends weight_numbers
writing-all {g} {src} {w} o {levels} {area₀} {slots} {from} {base} {area} {v} {left} {slot} {place} {next} h l = record {
  is = λ vs k n ds p.
      let e : h.marks ≡ [] = none_left left h.marks h.count l in
      ap (λ (us : List ℕ). put area slot place next (next - base) (items_of g src w levels (rank_in w ds) us)) (sym e) ∙ h.same vs k.linked n ds p;
}
