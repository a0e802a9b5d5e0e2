-- A line that opens with a name, as an order line: what it is read as, and the row that it is given.
use Rattle.base_units.specs.Numbers.{number_or_none}
use Rattle.std.specs.Prelude.{None, Option, Some, ℕ, Result}
use mathlib.Core.Path.{◌≡◌, refl, sym, ap, ◌∙◌, subst}
use mathlib.Core.Bool.{Bool, true, false≢true}
use mathlib.Core.List.{List, [], ◌∷◌}
use Prim.Native.Nat.{ℕ, ◌+◌, ◌*◌, ◌/◌, ◌≤◌, ◌<◌}
use native.Mathlib.Omega.{arith}
use lib.ListN.{length}
use lib.Dec.{eqb}
use borrow.Author.Tests.{eqb-true}
use Rattle.base_lists.proofs.Bools.{by, and_left, and_right, clash}
use Rattle.rules.specs.Text.{◌unless◌, lower, every}
use Rattle.rules.specs.Names.{is_hex, char_shaped, code_of, is_character}
use Rattle.rules.specs.Lines.{in_plain, in_name}
use Rattle.rules.specs.Tokens.{tokens_refusal}
use Rattle.rules.specs.State.{Declaration, character, Chain, State, gives}
use Rattle.rules.specs.OrderLines.{subject_of, stands, order_line}
use Rattle.rules.proofs.TextLaws.{lower-none}
use Rattle.rules.proofs.RefusalLaws.{Bounded, bounded-lower, bounded-low, bounded-high, bounded-tokens}
use Rattle.text_lines.specs.declared.Signs.{Signs}
use Rattle.text_lines.specs.declared.Spot.{Spot}
use Rattle.text_lines.specs.declared.LineEnd.{LineEnd}
use Rattle.text_lines.specs.Stream.{marks_left, line_start, Run, Walk}
use Rattle.text_tokens.specs.declared.Tok.{Tok}
use Rattle.text_tokens.specs.Left.{is_inside, token_there}
use Rattle.text_tokens.proofs.RefusalLaws.{lower-assoc}
use Rattle.text_names.specs.Named.{name_left, CodeIs}
use Rattle.work_rows.specs.Cells.{cell}
use Rattle.work_subjects.specs.Keys.{Key, item, key_at, subject_left}
use Rattle.work_subjects.specs.Numbers.{is_declarable, kind_of}
use Rattle.work_subjects.proofs.NumberLaws.{char-declarable}
use Rattle.work_subjects.proofs.SpotLaws.{key_at-inside}
use Rattle.work_store.specs.Store.{Decl, first, is_found, known_in, above_of, Finds, Declares}
use Rattle.work_store.proofs.ListLaws.{first-fresh, found-key, found-place}
use Rattle.locale_sheet.specs.Known.{Says, is_row}
use Rattle.locale_sheet.proofs.MarkLaws.{item-even}
use Rattle.locale_sheet.proofs.DeclaredLaws.{known-declared}
use Rattle.locale_sheet.proofs.NewLaws.{character-above, declared-older, known-character-new}
use Rattle.locale_sheet.specs.declared.Sheet.{Sheet}
use Rattle.locale_sheet.specs.declared.Step.{Step}
use Rattle.locale_sheet.specs.Sheets.{Open, SomeOpen, StepIs}
use Rattle.locale_sheet.specs.Names.{subject_in, operands_from, NameLine}
use Rattle.locale_sheet.proofs.SheetLaws.{read_whole, spot-behind}
use Rattle.locale_sheet.proofs.BlockLaws.{mark-older, place_same, block_same}
use Rattle.locale_order_lines.specs.declared.Facts.{Facts}
use Rattle.locale_order_lines.specs.Facts.{is_again, FactsOf, name_facts, AgainIs, OwnRefused, RowIs, Ready, Lists}
use Rattle.locale_order_lines.specs.Lines.{Reads}
use Rattle.locale_order_lines.proofs.FactLaws.{mark-found, mark-is, facts-name}
use Rattle.locale_order_lines.proofs.AgainLaws.{again-is}
use Rattle.locale_order_lines.proofs.RangeLaws.{bounded-line, bounded-order, Taken}
use Rattle.locale_order_lines.proofs.StepLaws.{phase-of, line_taken, line-listed, Placed, placed-ready}
use Rattle.base_units.specs.declared.CodePoint.{CodePoint}
use Rattle.base_units.specs.declared.Refusal.{Refusal}

-- ## Names

-- a name that is shaped as a character has five bytes at least
shaped-long : (m : List ℕ) → char_shaped m ≡ true → 5 ≤ length m
unfolding char_shaped
shaped-long [] h = absurd (false≢true h)
shaped-long (b ∷ bs) h =
    by (eqb (length bs) 4)
    (λ t. let e = eqb-true (length bs) 4 t in omega (arith, e))
    (λ t. let k = and_right (eqb b 85) _ (and_left _ (every is_hex bs) h) in
    let e = eqb-true (length bs) 8 (rw t at k) in omega (arith, e))

-- what stands and is not declared is a character
stands-alone : (w : List ℕ) (ds : List Decl) (cs : List Declaration) → Says w ds cs → (m : List ℕ) → stands cs (subject_of m) ≡ true
    → first (item (subject_of m)) ds ≡ None → char_shaped m ≡ true
unfolding subject_of stands known_in
stands-alone w ds cs s m h e =
    by (char_shaped m)
    (λ t. t)
    (λ t. clash (known-declared w m ds cs s ∙ rw t at h) (ap is_found (rw t at e)))

-- a walk into a name passes a byte
walk-on : {g : Signs} {src : List ℕ} {p q : Spot} → Walk g src p q → p.mode ≡ in_plain → q.mode ≡ in_name → p.at < q.at
walk-on {g} {src} {p} {q} w a b = go w.passed w.run
  where
    go : (ms : List ℕ) {k : ℕ} → Run g src ms k p q → p.at < q.at
    go [] r = absurd (let z = r.mode in omega (arith, z, a, b))
    go (m ∷ ms) r = let f = r.few in let z = r.moved in omega (arith, f, z)

-- ## The line

module _ (g : Signs) (src : List ℕ) (at : ℕ) (t : Tok) (e : LineEnd) (l : NameLine g src at t e) where
  pub name-to : t.inside.at ≤ length src
  name-to = l.token.inside

  name-inside : is_inside t.inside.mode ≡ true
  name-inside = rw (l.token.name-mode l.name)

  pub name-next : t.next.at ≤ length src
  name-next = l.token.to

  pub name-plain : t.next.mode ≡ in_plain
  name-plain = l.token.plain

  name-after : at < t.inside.at
  name-after = let a = walk-on l.token.enter l.plain (l.token.name-mode l.name) in let b = l.from in omega (arith, a, b)

  name-far : e.next < length src → t.next.at < e.next
  name-far h = let a = l.reach in l.far (omega (arith, a, h))

  pub name-some : 1 ≤ t.next.at
  name-some = let a = l.token.on in omega (arith, a)

  module _ (w : List ℕ) (sh : Sheet) (number : ℕ) (i : Option ℕ) (d : Finds (key_at g src) (length src) w (key_at g src (2 * t.inside.at)) i)
      (c : Option CodePoint) (h : CodeIs (name_left g src t.inside) c) (k : Facts) (f : k ≡ name_facts w i c) (again : Bool) (u : again ≡ is_again w sh i) (r : ℕ) (v : OwnRefused g src w sh t.next k again r) where
    facts : FactsOf g src w (subject_left g src t.inside) k
    facts = subst (FactsOf g src w (subject_left g src t.inside)) (sym f) (facts-name g src w t.inside i name-inside d c h)

    second : AgainIs g src w sh (subject_in g src t) again
    second =
        again-is g src w sh (subject_in g src t) i again u
        (λ cs at s o. mark-found (length src) o.known.ds (name_left g src t.inside) ∙ mark-is g src w t.inside i name-inside d sh.order s.ordered.rules o.n s.declared s.ordered.lines o.known)

    module _ {x y : ℕ} (a : x ≡ lower (number_or_none t.refusal) r) (b : y ≡ lower (2 unless e.text) x) where
      -- the whole refusal
      refusal_is : (cs : List Chain) (s : State) → Open g src w sh cs at s
          → lower (2 unless e.text) (lower (number_or_none t.refusal) (lower (tokens_refusal (operands_from g src t.next)) (order_line s number (subject_in g src t) (operands_from g src t.next)).refusal)) ≡ y
      refusal_is cs s o =
          sym (b ∙ ap (lower (2 unless e.text)) (a ∙ ap (lower (number_or_none t.refusal)) (v.is (subject_in g src t) facts second cs at s number o)))

      bounded : {depth : ℕ} → SomeOpen g src w sh at depth → Bounded 2 7 y
      bounded so =
          let s = so.state in
          let c = (order_line s number (subject_in g src t) (operands_from g src t.next)).refusal in
          let d = tokens_refusal (operands_from g src t.next) in
          subst (Bounded 2 7) (refusal_is so.chains s so.held)
          (bounded-line e.text (lower (number_or_none t.refusal) (lower d c))
          (bounded-lower 3 7 (number_or_none t.refusal) (lower d c) (subst (Bounded 3 7) l.token.refusal (bounded-tokens (token_there g src l.start ∷ [])))
          (bounded-lower 3 7 d c (bounded-tokens (operands_from g src t.next)) (bounded-order s number (subject_in g src t) (operands_from g src t.next)))))

      pub name-reads : (depth : ℕ) → SomeOpen g src w sh at depth → Reads g src w sh at number (subject_in g src t) t.next y
      name-reads depth so = record {
        outcome = λ cs s o u.
            read_whole g src w sh cs at s o u number (marks_left g src (line_start at))
            ∙ l.whole s number o.inside
            ∙ ap (λ (z : ℕ). gives (lower (2 unless e.text) z) (order_line s number (subject_in g src t) (operands_from g src t.next)).state)
            (lower-assoc (number_or_none t.refusal) (tokens_refusal (operands_from g src t.next)) (order_line s number (subject_in g src t) (operands_from g src t.next)).refusal)
            ∙ ap (λ (z : ℕ). gives z (order_line s number (subject_in g src t) (operands_from g src t.next)).state) (refusal_is cs s o);
        none = λ z cs s o.
            let c = (order_line s number (subject_in g src t) (operands_from g src t.next)).refusal in
            let d = tokens_refusal (operands_from g src t.next) in
            (lower-none d c (lower-none (number_or_none t.refusal) (lower d c) (lower-none (2 unless e.text) (lower (number_or_none t.refusal) (lower d c)) (refusal_is cs s o ∙ z)).1).1).1;
        tokens = λ z.
            let c = (order_line so.state number (subject_in g src t) (operands_from g src t.next)).refusal in
            let d = tokens_refusal (operands_from g src t.next) in
            (lower-none d c (lower-none (number_or_none t.refusal) (lower d c) (lower-none (2 unless e.text) (lower (number_or_none t.refusal) (lower d c)) (refusal_is so.chains so.state so.held ∙ z)).1).1).0;
        low = bounded-low 2 7 y (bounded so);
        high = bounded-high 2 7 y (bounded so);
      }

  -- ## Its row

  module _ (w : List ℕ) (sh : Sheet) (number : ℕ) (cs : List Chain) (s : State) (o : Open g src w sh cs at s) (y : Taken s number (subject_in g src t) (operands_from g src t.next)) where
    rows_at : o.n ≤ (at + 1) / 8
    rows_at = let p = phase-of s.place.phase sh.phase o.phase y.phase in rw (p.0, p.1) at (o.rows l.inside)

    on : at < e.next
    on = l.line.on l.inside

    -- a new row: that of a character
    char-placed : (c : ℕ) (w' : List ℕ) → char_shaped (name_left g src t.inside) ≡ true → c ≡ code_of (name_left g src t.inside)
        → Finds (key_at g src) (length src) w (key_at g src (2 * t.inside.at)) None → Declares (key_at g src) (length src) w (2 * t.inside.at) w'
        → Placed g src w sh (subject_in g src t) at e.next w' (2 * t.inside.at) s
    unfolding subject_of stands
    char-placed c w' shaped code d h =
        let v = 2 * t.inside.at in
        let x = subject_in g src t in
        let k = o.known in
        let i = mark-is g src w t.inside None name-inside d sh.order s.ordered.rules o.n s.declared s.ordered.lines k in
        let key : key_at g src v ≡ item x = key_at-inside g src t.inside name-inside in
        let is : x ≡ character c = (rw shaped (ap character (sym code))) in
        let a = name-after in
        let b = rows_at in
        let z = name-to in
        let above = character-above (key ∙ ap item is) in
        let room : o.n + above_of (kind_of (key_at g src v)) ≤ v / 16 = omega (arith, a, b, above) in
        let below : v / 2 ≤ length src = omega (arith, z) in
        let new : first (key_at g src v) k.ds ≡ None = ap (λ (j : Key). first j k.ds) key ∙ i in
        let some : 1 ≤ v = omega (arith, a) in
        let stood : is_character c ≡ true = sym (ap (stands s.declared) is) ∙ y.stood in
        let can : is_declarable (key_at g src v) ≡ true = ap is_declarable (key ∙ ap item is) ∙ char-declarable c stood in
        let more = known-character-new g src w sh.order s.ordered.rules o.n s.declared s.ordered.lines k v w' h room below can new some c (key ∙ ap item is) in
        let same : (u j : ℕ) → is_row (length src) k.ds u ≡ true → j < 5 → cell w' u j ≡ cell w u j =
        declared-older g src w sh.order s.ordered.rules o.n s.declared s.ordered.lines k v w' h room below can new some in
        let found : first (key_at g src v) more.known.ds ≡ Some v = ap (first (key_at g src v)) more.same ∙ first-fresh (key_at g src) v k.ds in
        record {
          n = v / 16 + 1;
          known = more.known;
          mark = mark-found (length src) more.known.ds (name_left g src t.inside) ∙ ap (λ (j : Key). first j more.known.ds) (sym key) ∙ found;
          even = omega arith;
          some = some;
          long = h.long;
          beyond = λ j n. h.beyond j (omega (arith, n));
          rows = λ n. let p = name-far n in let q = l.token.long-name l.name in let r = shaped-long (name_left g src t.inside) shaped in omega (arith, p, q, r);
          places = λ u j.
              let was = mark-older g src w w' sh.order s.ordered.rules s.ordered.rules o.n (v / 16 + 1) s.declared s.declared s.ordered.lines s.ordered.lines k more.known same u j in
              let a = o.places u was in
              let f = place_same g src w w' sh.order s.ordered.rules s.ordered.rules o.n (v / 16 + 1) s.declared s.declared s.ordered.lines s.ordered.lines k more.known same u was in
              omega (arith, a, f);
          block = λ p.
              block_same g src w w' sh.order s.ordered.rules s.ordered.rules o.n (v / 16 + 1) s.declared s.declared s.ordered.lines s.ordered.lines k more.known same
              sh.block s.ordered.block (o.block p);
        }

    name-placed : (w' : List ℕ) (m : ℕ) (c : Option CodePoint) (f : Option ℕ) → CodeIs (name_left g src t.inside) c
        → Finds (key_at g src) (length src) w (key_at g src (2 * t.inside.at)) f
        → RowIs g src w (2 * t.inside.at) w' m f → Placed g src w sh (subject_in g src t) at e.next w' m s
    name-placed w' m c (Some u) i d h =
        let x = subject_in g src t in
        let k = o.known in
        let i = mark-is g src w t.inside (Some u) name-inside d sh.order s.ordered.rules o.n s.declared s.ordered.lines k in
        subst (λ (z : List ℕ). Placed g src w sh x at e.next z m s) (sym h.1)
        (subst (λ (z : ℕ). Placed g src w sh x at e.next w z s) (sym h.0) (record {
          n = o.n;
          known = k;
          mark = mark-found (length src) k.ds (name_left g src t.inside) ∙ i;
          even = item-even g src u x (found-key k.holds (item x) u i);
          some = k.some u (found-place k.holds (item x) u i);
          long = refl;
          beyond = λ j a. refl;
          rows = λ a. let b = rows_at in let c = on in omega (arith, b, c);
          places = o.places;
          block = o.block;
        }))
    name-placed w' m None None i d h =
        let k = o.known in
        let f = mark-is g src w t.inside None name-inside d sh.order s.ordered.rules o.n s.declared s.ordered.lines k in
        clash (stands-alone w k.ds s.declared k.says (name_left g src t.inside) y.stood f) i
    name-placed w' m (Some x) None i d h =
        subst (λ (z : ℕ). Placed g src w sh (subject_in g src t) at e.next w' z s) (sym h.0) (char-placed x.0 w' i.shaped i.code d h.1)

  -- ## The step

  module _ (w : List ℕ) (sh : Sheet) (number depth : ℕ) (so : SomeOpen g src w sh at depth) (f : Option ℕ) (d : Finds (key_at g src) (length src) w (key_at g src (2 * t.inside.at)) f)
      (c : Option CodePoint) (i : CodeIs (name_left g src t.inside) c) (r : ℕ) (v : Reads g src w sh at number (subject_in g src t) t.next r) (z : r ≡ 0)
      (w' : List ℕ) (m : ℕ) (h : RowIs g src w (2 * t.inside.at) w' m f) where
    there : (cs : List Chain) (s : State) → Open g src w sh cs at s → Placed g src w sh (subject_in g src t) at e.next w' m s
    there cs s o = name-placed w sh number cs s o (line_taken v z cs s o) w' m c f i d h

    pub name-ready : number ≤ at + 1 → Ready w' sh m number t.next.at
    name-ready i =
        let k = there so.chains so.state so.held in
        let a = so.short in
        let b = l.inside in
        let c = name-next in
        placed-ready k (line_taken v z so.chains so.state so.held) t.next.at (omega (arith, a, b, i)) (omega (arith, a, c)) so.held.few

    pub name-listed : (w'' : List ℕ) (st : Result Step Refusal) → Lists w' sh m number t.next.at e w'' st → StepIs g src w sh at number depth w'' st
    name-listed w'' st a =
        let i = l.from in
        let j = l.token.on in
        line-listed v z l.line l.inside there depth t.next.at
        (spot-behind t.next name-plain (l.token.edge (let k = l.name in omega (arith, k)))) (omega (arith, i, j)) name-some name-next l.reach w'' st a
