-- The items of all order lines and their weights, counted along the list.
use Rattle.std.specs.Prelude.{if◌then◌else◌}
use mathlib.Core.Path.{◌≡◌, refl, sym, ap, ◌∙◌, subst}
use mathlib.Core.Bool.{Bool, true, false, ◌&&◌, and_assoc}
use mathlib.Core.List.{List, [], ◌∷◌}
use Prim.Native.Nat.{ℕ, suc, ◌+◌, ◌*◌, ◌/◌, ◌≤◌, ◌<◌}
use native.Mathlib.Omega.{arith}
use lib.ListN.{length}
use Rattle.base_lists.proofs.Lists.{All, length-zero}
use Rattle.rules.specs.Text.{every, lower}
use Rattle.rules.specs.State.{Subject}
use Rattle.rules.specs.Meaning.{count_all, weight_count}
use Rattle.text_lines.specs.declared.Signs.{Signs}
use Rattle.text_tokens.proofs.RefusalLaws.{lower-none-left, lower-none-right, lower-assoc}
use Rattle.work_rows.specs.Cells.{cell}
use Rattle.work_subjects.specs.Keys.{key_at}
use Rattle.work_store.specs.Store.{Decl, Holds}
use Rattle.work_order.specs.declared.Order.{Order}
use Rattle.work_order.specs.Links.{line_number, next_number, Row, Linked, goes}
use Rattle.work_order.proofs.RankLaws.{linked-one}
use Rattle.table_weights.specs.declared.Measured.{Measured}
use Rattle.table_weights.specs.Ranks.{rank_in}
use Rattle.table_weights.specs.Reading.{RowReady, item_ranks, MeasuresItem}
use Rattle.table_records.specs.Writing.{CharsReady}
use Rattle.table_items.specs.Items.{is_item, item_of, items_of, is_weighed, unweighed, LineReady, LinesReady, WholeSums, UnrankedAt}

-- The lines before the last `left` are counted, of those that are linked from `first` on. Whether each of their weights has a rank is `whole`; of those
-- with a weight that has none, `line` is the least number.
pub record Summing (g : Signs) (src w : List ℕ) (levels first count v left items weights : ℕ) (whole : Bool) (line : ℕ) : Type 0 where
  pub marks : List ℕ
  pub linked : Linked w v marks
  pub many : left ≡ length marks
  pub ready : All (LineReady g src w levels) marks
  pub weighed : (vs : List ℕ) → Linked w first vs → (n : ℕ) (ds : List Decl) → Holds (key_at g src) (length src) w n ds
      → every (is_weighed g src w levels (rank_in w ds)) vs ≡ (whole && every (is_weighed g src w levels (rank_in w ds)) marks)
  pub line-is : (vs : List ℕ) → Linked w first vs → (n : ℕ) (ds : List Decl) → Holds (key_at g src) (length src) w n ds
      → unweighed g src w levels (rank_in w ds) vs ≡ lower line (unweighed g src w levels (rank_in w ds) marks)
  pub items-are : (vs : List ℕ) → Linked w first vs → (n : ℕ) (ds : List Decl) → Holds (key_at g src) (length src) w n ds
      → items + length (items_of g src w levels (rank_in w ds) marks) ≡ length (items_of g src w levels (rank_in w ds) vs)
  pub weights-are : (vs : List ℕ) → Linked w first vs → (n : ℕ) (ds : List Decl) → Holds (key_at g src) (length src) w n ds
      → weights + weight_count (items_of g src w levels (rank_in w ds) marks) ≡ weight_count (items_of g src w levels (rank_in w ds) vs)
  pub few : count ≤ 32767
  pub few-items : items + left ≤ count
  pub few-weights : weights ≤ 64 * items

pub summing-none : (g : Signs) (src w : List ℕ) (o : Order) (levels : ℕ) → LinesReady g src w o levels
    → Summing g src w levels o.first o.count o.first o.count 0 0 true 0
summing-none g src w o levels h =
    let e : (vs : List ℕ) → Linked w o.first vs → h.marks ≡ vs = λ vs k. linked-one w o.first h.marks vs h.lines.linked k in
    record {
      marks = h.marks;
      linked = h.lines.linked;
      many = h.lines.count;
      ready = h.ready;
      weighed = λ vs k n ds s. ap (every (is_weighed g src w levels (rank_in w ds))) (sym (e vs k));
      line-is = λ vs k n ds s. ap (unweighed g src w levels (rank_in w ds)) (sym (e vs k)) ∙ sym (lower-none-left (unweighed g src w levels (rank_in w ds) h.marks));
      items-are = λ vs k n ds s. rw (e vs k) (omega arith);
      weights-are = λ vs k n ds s. rw (e vs k) (omega arith);
      few = h.few;
      few-items = omega arith;
      few-weights = omega arith;
    }

-- ## One line

-- what it adds
module _ (g : Signs) (src w : List ℕ) (levels : ℕ) (f : Subject → ℕ) (v : ℕ) (vs : List ℕ) where
  weighed-more : every (is_weighed g src w levels f) (v ∷ vs) ≡ (is_weighed g src w levels f v && every (is_weighed g src w levels f) vs)
  unfolding every
  weighed-more = refl

  line-more : unweighed g src w levels f (v ∷ vs)
      ≡ (if is_weighed g src w levels f v then unweighed g src w levels f vs else lower (cell w v line_number) (unweighed g src w levels f vs))
  unfolding unweighed
  line-more = refl

  items_more : is_item (length src) w v ≡ true → items_of g src w levels f (v ∷ vs) ≡ item_of g src w levels f v ∷ items_of g src w levels f vs
  unfolding items_of
  items_more e = rw e

  items-same : is_item (length src) w v ≡ false → items_of g src w levels f (v ∷ vs) ≡ items_of g src w levels f vs
  unfolding items_of
  items-same e = rw e

  weights-more : is_item (length src) w v ≡ true
      → weight_count (items_of g src w levels f (v ∷ vs)) ≡ count_all (item_ranks g src w v levels f) + weight_count (items_of g src w levels f vs)
  unfolding item_of weight_count
  weights-more e = ap weight_count (items_more e)

-- the least number so far, with that of one line more, and with those of the rest
least_more : (t : Bool) (a c r : ℕ) → lower a (if t then r else lower c r) ≡ lower (if t then a else lower a c) r
least_more true a c r = refl
least_more false a c r = sym (lower-assoc a c r)

-- the least number so far, with that of a line whose weights do not all have a rank
pub least-here : (w : List ℕ) (v line : ℕ) {t : Bool} {x y r : ℕ} → t ≡ false → x ≡ cell w v line_number → y ≡ x → r ≡ lower line y
    → r ≡ (if t then line else lower line (cell w v line_number))
least-here w v line e p q h = h ∙ ap (lower line) (q ∙ p) ∙ sym (rw e)

-- The marks that are left begin with v.
record FirstLeft (g : Signs) (src w : List ℕ) (levels v : ℕ) (marks : List ℕ) : Type 0 where
  rest : List ℕ
  is : marks ≡ v ∷ rest
  row : Row w v
  linked : Linked w (cell w v next_number) rest
  line : LineReady g src w levels v
  ready : All (LineReady g src w levels) rest

first-left : (g : Signs) (src w : List ℕ) (levels v : ℕ) (marks : List ℕ) → Linked w v marks → All (LineReady g src w levels) marks → 0 < length marks
    → FirstLeft g src w levels v marks
first-left g src w levels v [] k a h = absurd (omega (arith, h))
first-left g src w levels v (u ∷ us) (goes x n) a h = record { rest = us; is = refl; row = x; linked = n; line = a.0; ready = a.1 }

module _ (g : Signs) (src w : List ℕ) (levels first count v left items weights : ℕ) (whole : Bool) (line : ℕ)
    (s : Summing g src w levels first count v left items weights whole line) {after : ℕ} (l : suc after ≡ left) where
  here : FirstLeft g src w levels v s.marks
  here = first-left g src w levels v s.marks s.linked s.ready (omega (arith, s.many))

  pub summing-row : RowReady g src w v levels
  summing-row = here.line.row

  pub summing-chars : CharsReady (length src) w v
  summing-chars = here.line.chars

  pub summing-inside : 8 * (v / 16) + 8 ≤ length w
  summing-inside = here.row.inside

  pub summing-small : items + 1 ≤ 32767
  summing-small = omega (arith, s.few, s.few-items)

  module _ {m : Measured} (k : MeasuresItem g src w v levels m) where
    pub summing-fits : weights + m.weights ≤ 2097088
    summing-fits = omega (arith, s.few-weights, s.few, s.few-items, k.few)

    weighed-is : (n : ℕ) (ds : List Decl) → Holds (key_at g src) (length src) w n ds → is_weighed g src w levels (rank_in w ds) v ≡ m.ranked
    unfolding is_weighed
    weighed-is n ds h = sym (k.ranked n ds h)

    module _ {b : Bool} (i : b ≡ (whole && m.ranked)) {a : ℕ} (u : a ≡ (if m.ranked then line else lower line (cell w v line_number)))
        {t : Bool} (j : t ≡ is_item (length src) w v) {x y : ℕ} (p : y ≡ x) (q : x ≡ cell w v next_number) where
      weighed-left : (vs : List ℕ) → Linked w first vs → (n : ℕ) (ds : List Decl) → Holds (key_at g src) (length src) w n ds
          → every (is_weighed g src w levels (rank_in w ds)) vs ≡ (b && every (is_weighed g src w levels (rank_in w ds)) here.rest)
      weighed-left vs d n ds h =
          let r : Bool = every (is_weighed g src w levels (rank_in w ds)) here.rest in
          s.weighed vs d n ds h ∙ ap (λ (us : List ℕ). whole && every (is_weighed g src w levels (rank_in w ds)) us) here.is
          ∙ ap (λ (z : Bool). whole && z) (weighed-more g src w levels (rank_in w ds) v here.rest ∙ ap (λ (z : Bool). z && r) (weighed-is n ds h))
          ∙ sym (and_assoc whole m.ranked r) ∙ ap (λ (z : Bool). z && r) (sym i)

      line-left : (vs : List ℕ) → Linked w first vs → (n : ℕ) (ds : List Decl) → Holds (key_at g src) (length src) w n ds
          → unweighed g src w levels (rank_in w ds) vs ≡ lower a (unweighed g src w levels (rank_in w ds) here.rest)
      line-left vs d n ds h =
          let r : ℕ = unweighed g src w levels (rank_in w ds) here.rest in
          s.line-is vs d n ds h ∙ ap (λ (us : List ℕ). lower line (unweighed g src w levels (rank_in w ds) us)) here.is
          ∙ ap (lower line)
          (line-more g src w levels (rank_in w ds) v here.rest
          ∙ ap (λ (z : Bool). if z then r else lower (cell w v line_number) r) (weighed-is n ds h))
          ∙ least_more m.ranked line (cell w v line_number) r ∙ ap (λ (z : ℕ). lower z r) (sym u)

      many-left : after ≡ length here.rest
      many-left = omega (arith, s.many, ap length here.is)

      linked-left : Linked w y here.rest
      linked-left = subst (λ (z : ℕ). Linked w z here.rest) (sym (p ∙ q)) here.linked

      pub summing-item : {k' c : ℕ} → t ≡ true → k' ≡ items + 1 → c ≡ weights + m.weights → Summing g src w levels first count y after k' c b a
      summing-item o e f =
          let z : is_item (length src) w v ≡ true = sym j ∙ o in
          record {
            marks = here.rest;
            linked = linked-left;
            many = many-left;
            ready = here.ready;
            weighed = weighed-left;
            line-is = line-left;
            items-are = λ vs d n ds h.
                omega (
                  arith,
                  e,
                  s.items-are vs d n ds h,
                  ap (λ (us : List ℕ). length (items_of g src w levels (rank_in w ds) us)) here.is,
                  ap length (items_more g src w levels (rank_in w ds) v here.rest z),
                );
            weights-are = λ vs d n ds h.
                omega (
                  arith,
                  f,
                  s.weights-are vs d n ds h,
                  ap (λ (us : List ℕ). weight_count (items_of g src w levels (rank_in w ds) us)) here.is,
                  weights-more g src w levels (rank_in w ds) v here.rest z,
                  k.weights n ds h,
                );
            few = s.few;
            few-items = omega (arith, e, s.few-items);
            few-weights = omega (arith, e, f, s.few-weights, k.few);
          }

      pub summing-other : {k' c : ℕ} → t ≡ false → k' ≡ items → c ≡ weights → Summing g src w levels first count y after k' c b a
      summing-other o e f =
          let z : is_item (length src) w v ≡ false = sym j ∙ o in
          record {
            marks = here.rest;
            linked = linked-left;
            many = many-left;
            ready = here.ready;
            weighed = weighed-left;
            line-is = line-left;
            items-are = λ vs d n ds h.
                omega (
                  arith,
                  e,
                  s.items-are vs d n ds h,
                  ap (λ (us : List ℕ). length (items_of g src w levels (rank_in w ds) us)) here.is,
                  ap length (items-same g src w levels (rank_in w ds) v here.rest z),
                );
            weights-are = λ vs d n ds h.
                omega (
                  arith,
                  f,
                  s.weights-are vs d n ds h,
                  ap (λ (us : List ℕ). weight_count (items_of g src w levels (rank_in w ds) us)) here.is,
                  ap weight_count (items-same g src w levels (rank_in w ds) v here.rest z),
                );
            few = s.few;
            few-items = omega (arith, e, s.few-items);
            few-weights = omega (arith, e, f, s.few-weights);
          }

-- ## The answer

module _ (g : Signs) (src w : List ℕ) (o : Order) (levels : ℕ) {v left items weights : ℕ} {whole : Bool} {line : ℕ}
    (s : Summing g src w levels o.first o.count v left items weights whole line) (l : left ≤ 0) where
  none_left : s.marks ≡ []
  none_left = length-zero s.marks (omega (arith, s.many))

  weighed-all : (vs : List ℕ) → Linked w o.first vs → (n : ℕ) (ds : List Decl) → Holds (key_at g src) (length src) w n ds
      → every (is_weighed g src w levels (rank_in w ds)) vs ≡ (whole && true)
  unfolding every
  weighed-all vs d n ds h = s.weighed vs d n ds h ∙ ap (λ (us : List ℕ). whole && every (is_weighed g src w levels (rank_in w ds)) us) none_left

  pub summing-unranked : whole ≡ false → UnrankedAt g src w o levels line
  unfolding unweighed
  summing-unranked t = record {
    unweighed-some = λ vs d n ds h. weighed-all vs d.linked n ds h ∙ ap (λ (z : Bool). z && true) t;
    line-is = λ vs d n ds h.
        sym (s.line-is vs d.linked n ds h ∙ ap (λ (us : List ℕ). lower line (unweighed g src w levels (rank_in w ds) us)) none_left ∙ lower-none-right line);
  }

  pub summing-all : whole ≡ true → WholeSums g src w o levels items weights
  unfolding items_of weight_count
  summing-all t = record {
    weighed = λ vs d n ds h. weighed-all vs d.linked n ds h ∙ ap (λ (z : Bool). z && true) t;
    items-are = λ vs d n ds h.
        omega (arith, s.items-are vs d.linked n ds h, ap (λ (us : List ℕ). length (items_of g src w levels (rank_in w ds) us)) none_left);
    weights-are = λ vs d n ds h.
        omega (arith, s.weights-are vs d.linked n ds h, ap (λ (us : List ℕ). weight_count (items_of g src w levels (rank_in w ds) us)) none_left);
    few-items = omega (arith, s.few-items);
    few-weights = s.few-weights;
  }
