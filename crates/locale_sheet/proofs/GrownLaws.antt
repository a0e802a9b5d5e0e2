-- More declarations: what is known after them. And what is known where other rooms write behind the rows.
use mathlib.Core.Path.{◌≡◌, refl, sym, ◌∙◌, subst}
use mathlib.Core.Bool.{true, false, false≢true}
use mathlib.Core.List.{List, [], ◌∷◌, map}
use Prim.Native.Nat.{ℕ, ◌/◌, ◌≤◌, ◌<◌}
use native.Mathlib.Omega.{arith}
use lib.ListN.{length, replicate}
use lib.Dec.{eqb}
use Rattle.base_lists.proofs.Bools.{by}
use Rattle.base_lists.proofs.Lists.{All}
use Rattle.rules.specs.Text.{one_of}
use Rattle.rules.specs.Tokens.{operands}
use Rattle.rules.specs.Meaning.{Rule}
use Rattle.rules.specs.State.{Declaration, OrderLine}
use Rattle.text_lines.specs.declared.Signs.{Signs}
use Rattle.text_tokens.specs.Left.{tokens_left}
use Rattle.work_rows.specs.Cells.{cell_at, cell}
use Rattle.work_subjects.specs.Keys.{key_at}
use Rattle.work_store.specs.Store.{Decl, first, is_place, Roomy, Holds}
use Rattle.work_store.proofs.AreaLaws.{zeros, holds-none}
use Rattle.work_store.proofs.ListLaws.{is_place-none, place-within}
use Rattle.work_order.specs.declared.Order.{Order}
use Rattle.work_order.specs.Links.{line_number, place_number, next_number, rank_number, back_number, Linked, ends, goes, Backed, begins, comes, Spread, last_of}
use Rattle.work_order.proofs.ListLaws.{row_kept}
use Rattle.locale_sheet.specs.Known.{Says, none, behind, line_at, is_row, Accepted, IsListed, Known}
use Rattle.locale_sheet.proofs.MarkLaws.{row-place, row-undefined, row_by}

-- ## Before the first line

pub known_start : (g : Signs) (src w : List ℕ) (rs : List Rule) → Roomy (length src) w
    → Known g src (replicate (length w) 0) (record { first = 0; last = 0; count = 0 }) rs 0 [] []
unfolding last_of
known_start g src w rs r = record {
  ds = [];
  holds = holds-none (key_at g src) (length src) w r;
  says = none;
  some = λ v h. absurd (false≢true (sym (is_place-none v) ∙ h));
  marks = [];
  lines = record { linked = ends; spread = Spread.none; last = refl; count = refl };
  backs = begins;
  are = refl;
  listed = tt;
  all = λ v h l. absurd (let z : cell (replicate (length w) 0) v place_number ≡ 0 = zeros (length w) (cell_at v place_number) in omega (arith, l, z));
  free = λ v k a b h. zeros (length w) (cell_at v k);
  alone = λ v h z. zeros (length w) (cell_at v next_number);
  unranked = λ v h z. zeros (length w) (cell_at v rank_number);
}

-- ## More declarations

-- What more declarations leave of the area: four of the five numbers of every row of an order line, all five of the rows behind, and what they do to the list.
pub record Grown (len : ℕ) (w w' : List ℕ) (n n' : ℕ) (ds ds' : List Decl) : Type 0 where
  pub long : length w' ≡ length w
  pub four : (u j : ℕ) → is_row len ds' u ≡ true → 1 ≤ j → j < 5 → cell w' u j ≡ cell w u j
  pub rest : (u j : ℕ) → n' ≤ u / 16 → u / 16 ≤ len / 8 → j < 5 → cell w' u j ≡ cell w u j
  pub rows : n ≤ n'
  pub older : (u : ℕ) → is_place u ds ≡ true → is_place u ds' ≡ true
  pub newer : (u : ℕ) → is_place u ds' ≡ true → is_place u ds ≡ false → n ≤ u / 16
  pub some : (u : ℕ) → is_place u ds' ≡ true → is_place u ds ≡ false → 1 ≤ u

-- What is known, with ds in the store.
pub record KnownAs (g : Signs) (src w : List ℕ) (o : Order) (rs : List Rule) (n : ℕ) (cs : List Declaration) (ls : List OrderLine) (ds : List Decl) : Type 0 where
  pub known : Known g src w o rs n cs ls
  pub same : known.ds ≡ ds

module _ (g : Signs) (src w : List ℕ) (o : Order) (rs : List Rule) (n : ℕ) (cs : List Declaration) (ls : List OrderLine) (k : Known g src w o rs n cs ls)
    (w' : List ℕ) (n' : ℕ) (ds' : List Decl) (cs' : List Declaration) (h : Holds (key_at g src) (length src) w' n' ds') (s : Says w' ds' cs')
    (v : Grown (length src) w w' n n' k.ds ds') where
  row-older : (u : ℕ) → is_row (length src) k.ds u ≡ true → is_row (length src) ds' u ≡ true
  row-older u r = row_by (length src) k.ds u r (λ p e. row-place (length src) ds' u (v.older u p) e) (λ z. row-undefined (length src) ds' u z)

  -- what holds of a new row: it is still free
  row-newer : (u : ℕ) (P : Type 0) → is_row (length src) ds' u ≡ true → (is_row (length src) k.ds u ≡ true → P)
      → (n ≤ u / 16 → u / 16 ≤ length src / 8 → P) → P
  row-newer u P r old new =
      row_by (length src) ds' u r
      (λ p e. by (is_place u k.ds)
      (λ t. old (row-place (length src) k.ds u t e))
      (λ t. let i = place-within h u p in new (v.newer u p t) (omega (arith, i))))
      (λ z. old (row-undefined (length src) k.ds u z))

  linked-grown : (p : ℕ) (us : List ℕ) → All (IsListed g src w k.ds) us → Linked w p us → Linked w' p us
  linked-grown p [] a ends = ends
  linked-grown p (u ∷ us) a (goes r m) =
      goes (row_kept w w' u v.long r)
      (subst (λ (q : ℕ). Linked w' q us) (sym (v.four u next_number (row-older u a.0.row) (omega arith) (omega arith))) (linked-grown (cell w u next_number) us a.1 m))

  backed-grown : (p : ℕ) (us : List ℕ) → All (IsListed g src w k.ds) us → Backed w p us → Backed w' p us
  backed-grown p [] a begins = begins
  backed-grown p (u ∷ us) a (comes b m) =
      comes (v.four u back_number (row-older u a.0.row) (omega arith) (omega arith) ∙ b) (backed-grown u us a.1 m)

  lines-grown : (us : List ℕ) → All (IsListed g src w k.ds) us → map (line_at g src rs w) us ≡ map (line_at g src rs w') us
  unfolding line_at
  lines-grown [] a = refl
  lines-grown (u ∷ us) a =
      let i = row-older u a.0.row in
      rw (v.four u line_number i (omega arith) (omega arith), v.four u place_number i (omega arith) (omega arith), lines-grown us a.1)

  listed-grown : (us : List ℕ) → All (IsListed g src w k.ds) us → All (IsListed g src w' ds') us
  listed-grown [] a = tt
  listed-grown (u ∷ us) a =
      let e = v.four u place_number (row-older u a.0.row) (omega arith) (omega arith) in (
        record {
          row = row-older u a.0.row;
          even = a.0.even;
          some = let l = a.0.some in omega (arith, e, l);
          within = let l = a.0.within in omega (arith, e, l);
          accepted = subst (λ (q : ℕ). Accepted (operands (tokens_left g src (behind q)))) (sym e) a.0.accepted;
        },
        listed-grown us a.1,
      )

  pub known_as : KnownAs g src w' o rs n' cs' ls ds'
  known_as = record {
    known = record {
      ds = ds';
      holds = h;
      says = s;
      some = λ u p. by (is_place u k.ds) (λ t. k.some u t) (λ t. v.some u p t);
      marks = k.marks;
      lines = record { linked = linked-grown o.first k.marks k.listed k.lines.linked; spread = k.lines.spread; last = k.lines.last; count = k.lines.count };
      backs = backed-grown 0 k.marks k.listed k.backs;
      are = k.are ∙ lines-grown k.marks k.listed;
      listed = listed-grown k.marks k.listed;
      all = λ u r l. row-newer u (one_of (eqb u) k.marks ≡ true) r
          (λ q. let e = v.four u place_number r (omega arith) (omega arith) in k.all u q (omega (arith, e, l)))
          (λ a b. absurd (let e = v.four u place_number r (omega arith) (omega arith) in let z = k.free u place_number a b (omega arith) in omega (arith, e, l, z)));
      free = λ u j a b i. let r = v.rows in v.rest u j a b i ∙ k.free u j (omega (arith, r, a)) b i;
      alone = λ u r z. row-newer u (cell w' u next_number ≡ 0) r
          (λ q. v.four u next_number r (omega arith) (omega arith) ∙ k.alone u q (sym (v.four u place_number r (omega arith) (omega arith)) ∙ z))
          (λ a b. v.four u next_number r (omega arith) (omega arith) ∙ k.free u next_number a b (omega arith));
      unranked = λ u r z. row-newer u (cell w' u rank_number ≡ 0) r
          (λ q. v.four u rank_number r (omega arith) (omega arith) ∙ k.unranked u q (sym (v.four u place_number r (omega arith) (omega arith)) ∙ z))
          (λ a b. v.four u rank_number r (omega arith) (omega arith) ∙ k.free u rank_number a b (omega arith));
    };
    same = refl;
  }

  pub known_grown : Known g src w' o rs n' cs' ls
  known_grown = known_as.known
