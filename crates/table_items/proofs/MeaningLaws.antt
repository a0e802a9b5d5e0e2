-- After the last line of a source, once the order lines have their ranks, the area gives the items, weights and refusals of the paper.
use mathlib.Core.Path.{◌≡◌, refl, sym, ap, ◌∙◌, subst}
use mathlib.Core.Bool.{false, not}
use mathlib.Core.List.{List, [], ◌∷◌, map}
use Prim.Native.Nat.{ℕ, ◌+◌, ◌*◌, ◌≤◌}
use native.Mathlib.Omega.{arith}
use lib.ListN.{length, length-map}
use lib.Dec.{eqb}
use Rattle.base_lists.proofs.Bools.{by}
use Rattle.base_lists.proofs.Lists.{All}
use Rattle.rules.specs.Text.{every}
use Rattle.rules.specs.Meaning.{Rule}
use Rattle.rules.specs.State.{Declaration, undefined, OrderLine}
use Rattle.rules.specs.OrderLines.{is_symbol, rank_of}
use Rattle.rules.specs.Compile.{chars_of, items_from, is_ranked, unranked}
use Rattle.text_lines.specs.declared.Signs.{Signs}
use Rattle.work_rows.specs.Cells.{cell}
use Rattle.work_subjects.specs.Keys.{key_at}
use Rattle.work_store.specs.Store.{Decl, heads_of, Holds, undefined_mark}
use Rattle.work_order.specs.declared.Order.{Order}
use Rattle.work_order.specs.Links.{chars_number, line_number, place_number, Lines, Ranks}
use Rattle.locale_sheet.specs.Known.{Says, subject_at, line_at, Known}
use Rattle.locale_sheet.proofs.LineLaws.{says-kept}
use Rattle.locale_sheet.proofs.FewLaws.{known-few}
use Rattle.locale_sheet.proofs.RankLaws.{ranked-other}
use Rattle.table_weights.specs.Ranks.{rank_in}
use Rattle.table_weights.specs.Reading.{line_operands, Readable}
use Rattle.table_weights.proofs.PartLaws.{accepted-weighed}
use Rattle.table_records.specs.Writing.{item_chars, CharsReady}
use Rattle.table_items.specs.Items.{is_item, item_of, items_of, is_weighed, unweighed, LineReady, LinesReady}
use Rattle.table_items.proofs.RankedLaws.{IsMark, given, given-length, holds-ranked, roomy-ranked, lines-ranked, rank-undefined, item-ranks, item-ranked}
use Rattle.table_items.proofs.CharsLaws.{Names, mark-names, names-item, names-chars, names-row, names-ready}

-- What the area w, with ranks, says of a source: the order lines by their marks, what is declared, and that the items, and the weights that have
-- no rank, are those of the paper.
pub record Meant (g : Signs) (src w : List ℕ) (o : Order) (levels : ℕ) (rs : List Rule) (cs : List Declaration) (ls : List OrderLine) : Type 0 where
  pub many : length rs ≡ levels
  pub marks : List ℕ
  pub lines : Lines w o marks
  pub n : ℕ
  pub ds : List Decl
  pub holds : Holds (key_at g src) (length src) w n ds
  pub items : items_of g src w levels (rank_in w ds) marks ≡ items_from cs ls ls
  pub weighed : every (is_weighed g src w levels (rank_in w ds)) marks ≡ every (is_ranked ls) ls
  pub first : unweighed g src w levels (rank_in w ds) marks ≡ unranked ls ls
  pub undefined-is : eqb (rank_of ls undefined) 0 ≡ eqb (cell w (undefined_mark (length src)) place_number) 0
  pub count : o.count ≡ length ls
  pub places : o.count + 1 ≤ length w

module _ (g : Signs) (src w : List ℕ) (o : Order) (rs : List Rule) (n : ℕ) (cs : List Declaration) (ls : List OrderLine) (k : Known g src w o rs n cs ls) where
  -- the area with ranks
  abbrev w' : List ℕ
  w' = given g src w o rs n cs ls k

  abbrev Mark : ℕ → Type 0
  Mark v = IsMark g src w o rs n cs ls k v

  -- it tells the same of what is declared
  says-ranked : Says w' k.ds cs
  says-ranked = says-kept w w' k.ds cs (λ u. ranked-other w 1 k.marks u chars_number (omega arith)) k.says

  -- ## One order line

  module _ (v : ℕ) (a : Mark v) where
    names : Names g src w' cs v (subject_at g src v)
    names = mark-names g src w' n k.ds cs (holds-ranked g src w o rs n cs ls k) says-ranked k.holds.once v a.row a.even

    pub mark-item : is_item (length src) w' v ≡ not (is_symbol cs (subject_at g src v))
    mark-item = names-item g src w' cs v (subject_at g src v) names

    pub mark-chars : is_symbol cs (subject_at g src v) ≡ false → item_chars g src w' v ≡ chars_of cs (subject_at g src v)
    mark-chars = names-chars g src w' cs v (subject_at g src v) names

    pub mark-row : v ≤ 16 * heads_of (length src)
    mark-row = names-row g src w' cs v (subject_at g src v) names

    pub mark-ready : CharsReady (length src) w' v
    mark-ready = names-ready g src w' cs v (subject_at g src v) names (roomy-ranked g src w o rs n cs ls k)

    -- the operands of its line can be read again
    pub mark-line : (levels : ℕ) → levels ≤ 8 → Readable g src (cell w' v place_number) levels
    unfolding line_operands
    mark-line levels l =
        subst (λ (p : ℕ). Readable g src p levels) (sym (ranked-other w 1 k.marks v place_number (omega arith)))
        (record { to = a.within; few = l; weighed = accepted-weighed a.accepted.ds (line_operands g src (cell w v place_number)) a.accepted.whole a.accepted.each })

  -- ## All of them

  ready-are : (levels : ℕ) → levels ≤ 8 → (us : List ℕ) → All Mark us → All (LineReady g src w' levels) us
  ready-are levels l [] a = tt
  ready-are levels l (u ∷ us) a =
      (record { row = record { row = mark-row u a.0; line = mark-line u a.0 levels l }; chars = mark-ready u a.0 }, ready-are levels l us a.1)

  pub given-ready : (levels : ℕ) → levels ≤ 8 → o.count ≤ 32767 → LinesReady g src w' o levels
  given-ready levels l few = record {
    marks = k.marks;
    lines = lines-ranked g src w o rs n cs ls k;
    ready = ready-are levels l k.marks k.listed;
    sound = record { n = n; ds = k.ds; holds = holds-ranked g src w o rs n cs ls k };
    few = few;
  }

  module _ (levels : ℕ) (many : length rs ≡ levels) where
    items-are : (us : List ℕ) → All Mark us → items_of g src w' levels (rank_in w' k.ds) us ≡ items_from cs ls (map (line_at g src rs w) us)
    unfolding items_of items_from item_of line_at
    items-are [] a = refl
    items-are (u ∷ us) a =
        by (is_symbol cs (subject_at g src u))
        (λ t. rw (mark-item u a.0, t) (items-are us a.1))
        (λ t. rw (mark-item u a.0, t, mark-chars u a.0 t, item-ranks g src w o rs n cs ls k levels many u a.0, items-are us a.1))

    weighed-are : (us : List ℕ) → All Mark us → every (is_weighed g src w' levels (rank_in w' k.ds)) us ≡ every (is_ranked ls) (map (line_at g src rs w) us)
    unfolding every
    weighed-are [] a = refl
    weighed-are (u ∷ us) a = rw (item-ranked g src w o rs n cs ls k levels many u a.0, weighed-are us a.1)

    first-is : (us : List ℕ) → All Mark us → unweighed g src w' levels (rank_in w' k.ds) us ≡ unranked ls (map (line_at g src rs w) us)
    unfolding unweighed unranked line_at
    first-is [] a = refl
    first-is (u ∷ us) a =
        rw (item-ranked g src w o rs n cs ls k levels many u a.0, ranked-other w 1 k.marks u line_number (omega arith), first-is us a.1)

    pub given-meant : Meant g src w' o levels rs cs ls
    given-meant = record {
      many = many;
      marks = k.marks;
      lines = lines-ranked g src w o rs n cs ls k;
      n = n;
      ds = k.ds;
      holds = holds-ranked g src w o rs n cs ls k;
      items = items-are k.marks k.listed ∙ ap (items_from cs ls) (sym k.are);
      weighed = weighed-are k.marks k.listed ∙ ap (every (is_ranked ls)) (sym k.are);
      first = first-is k.marks k.listed ∙ ap (unranked ls) (sym k.are);
      undefined-is = rank-undefined g src w o rs n cs ls k;
      count = k.lines.count ∙ sym (ap length k.are ∙ length-map k.marks (line_at g src rs w));
      places = let f = known-few k in let r = k.holds.roomy.room in let l = given-length g src w o rs n cs ls k in omega (arith, f, r, l);
    }

-- ## The whole

pub meant : {g : Signs} {src w w' : List ℕ} {o : Order} {rs : List Rule} {n levels : ℕ} {cs : List Declaration} {ls : List OrderLine}
    → Known g src w o rs n cs ls → length rs ≡ levels → Ranks w o w' → Meant g src w' o levels rs cs ls
meant {g} {src} {w} {w'} {o} {rs} {n} {levels} {cs} {ls} k many r =
    subst (λ (x : List ℕ). Meant g src x o levels rs cs ls) (sym (r.area k.marks k.lines)) (given-meant g src w o rs n cs ls k levels many)

-- the lines can be read again
pub lines-ready : {g : Signs} {src w w' : List ℕ} {o : Order} {rs : List Rule} {n levels : ℕ} {cs : List Declaration} {ls : List OrderLine}
    → Known g src w o rs n cs ls → levels ≤ 8 → o.count ≤ 32767 → Ranks w o w' → LinesReady g src w' o levels
lines-ready {g} {src} {w} {w'} {o} {rs} {n} {levels} {cs} {ls} k l few r =
    subst (λ (x : List ℕ). LinesReady g src x o levels) (sym (r.area k.marks k.lines)) (given-ready g src w o rs n cs ls k levels l few)
