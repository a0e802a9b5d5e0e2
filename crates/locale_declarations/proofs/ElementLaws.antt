-- collating-element: what it does where it may stand.
use Rattle.base_units.specs.declared.Refusal.{Refusal}
use Rattle.std.specs.Prelude.{Err, None, Ok, Result, ℕ}
use mathlib.Core.Path.{◌≡◌, refl, sym, ap, ◌∙◌, subst}
use mathlib.Core.Bool.{Bool, true, false, not, ◌&&◌, false≢true}
use mathlib.Core.List.{List, [], ◌∷◌, map}
use Prim.Native.Nat.{ℕ, ◌+◌, ◌/◌, ◌%◌, ◌≤◌, ◌<◌}
use native.Mathlib.Omega.{arith}
use lib.ListN.{length}
use lib.Dec.{eqb, leb}
use borrow.Author.Tests.{eqb-true}
use Rattle.base_lists.proofs.Bools.{by, clash, and_left, and_right}
use Rattle.rules.specs.Text.{bytes, within, every, ◌unless◌, lowest}
use Rattle.rules.specs.Names.{code_of, is_char_name}
use Rattle.rules.specs.Meaning.{Rule}
use Rattle.rules.specs.Tokens.{Token, token_at, the_name, tokens_refusal}
use Rattle.rules.specs.State.{Declaration, element, named, OrderLine}
use Rattle.rules.specs.Declarations.{element_formed, element_line}
use Rattle.rules.proofs.TextLaws.{lower-none, lowest-unless}
use Rattle.text_lines.specs.declared.Signs.{Signs}
use Rattle.text_lines.specs.declared.Spot.{Spot}
use Rattle.text_lines.specs.declared.LineEnd.{LineEnd}
use Rattle.work_subjects.specs.Keys.{Key, item, chars, key_at, same_key}
use Rattle.work_subjects.specs.Numbers.{is_declarable, kind_of}
use Rattle.work_subjects.proofs.NumberLaws.{chars-declarable}
use Rattle.work_store.specs.Store.{Decl, first, known_in, is_place, fresh}
use Rattle.work_store.proofs.ListLaws.{first-fresh-other, is_place-older, place-below}
use Rattle.work_rows.specs.Cells.{cell}
use Rattle.work_order.specs.declared.Order.{Order}
use Rattle.work_order.specs.Links.{chars_number}
use Rattle.locale_sheet.specs.Known.{declared_at, Says, elements, is_row, Known}
use Rattle.locale_sheet.proofs.MarkLaws.{row_by}
use Rattle.locale_sheet.proofs.GrownLaws.{Grown, known_grown}
use Rattle.locale_sheet.proofs.NewLaws.{says_on, kind-name}
use Rattle.locale_symbols.specs.Symbols.{is_new_in, operands_after}
use Rattle.locale_elements.specs.Element.{element_refusal, chars_in, DeclaresBoth, ElementAt, ElementIs}
use Rattle.locale_elements.proofs.PaperLaws.{element-paper, element-misplaced}
use Rattle.locale_opening.proofs.KeywordLaws.{at-element}
use Rattle.locale_sheet.specs.declared.Sheet.{Sheet}
use Rattle.locale_sheet.specs.declared.Step.TheVariants.{Next}
use Rattle.locale_declarations.specs.Worded.{Opened, Writes}
use Rattle.locale_declarations.proofs.RefusalLaws.{bounded-element}
use Rattle.locale_declarations.proofs.DeclaringLaws.{first-none, new-unknown, first-declarable, may, Declaring, accepted-step}

-- ## What is known after it

-- what is declared at two marks more: one of them, or what was before
two-by : {P : Type 0} (key : ℕ → Key) (v q : ℕ) (ds : List Decl) (u : ℕ) → is_place u (fresh key q ∷ fresh key v ∷ ds) ≡ true → is_place u ds ≡ false
    → (u ≡ q → P) → (u ≡ v → P) → P
unfolding is_place
two-by key v q ds u p z f g =
    by (eqb q u)
    (λ t. f (sym (eqb-true q u t)))
    (λ t. by (eqb v u) (λ y. g (sym (eqb-true v u y))) (λ y. clash (rw (t, y) at p) z))

module _ (g : Signs) (src w : List ℕ) (o : Order) (rs : List Rule) (n : ℕ) (cs : List Declaration) (ls : List OrderLine) (k : Known g src w o rs n cs ls)
    (v q : ℕ) (w' : List ℕ) (d : DeclaresBoth (key_at g src) (length src) w v q w') (room : n + 1 ≤ v / 16) (later : v / 16 + 1 ≤ q / 16) (inside : q / 2 ≤ length src) where
  -- the five numbers of what was declared stay
  kept : (u j : ℕ) → is_place u k.ds ≡ true → j < 5 → cell w' u j ≡ cell w u j
  kept u j p c = d.before u j c (let b = place-below k.holds u p in omega (arith, b, room))

  -- and those of the rows of order lines
  pub element-older : (u j : ℕ) → is_row (length src) k.ds u ≡ true → j < 5 → cell w' u j ≡ cell w u j
  element-older u j r c = row_by (length src) k.ds u r (λ p e. kept u j p c) (λ z. d.after u j c (omega (arith, z, inside)))

  module _ (first_some : 1 ≤ v) (m xs : List ℕ) (name : key_at g src v ≡ item (named m)) (quotes : key_at g src q ≡ chars xs) (odd : q % 2 ≡ 1) where
    kind-quotes : kind_of (key_at g src q) ≡ 2
    unfolding kind_of
    kind-quotes = rw quotes

    grown : Grown (length src) w w' n (q / 16 + 1) k.ds (fresh (key_at g src) q ∷ fresh (key_at g src) v ∷ k.ds)
    grown =
        let key = key_at g src in
        let ds = fresh key q ∷ fresh key v ∷ k.ds in
        record {
          long = d.long;
          four = λ u j r b c.
              row_by (length src) ds u r
              (λ p e. by (is_place u k.ds)
              (λ t. kept u j t c)
              (λ t. two-by key v q k.ds u p t
              (λ z. absurd (let x = ap (λ (y : ℕ). y % 2) z in omega (arith, x, e, odd)))
              (λ z. subst (λ (x : ℕ). cell w' x j ≡ cell w x j) (sym z) (d.own j b c (omega (arith, room)) (kind-name name) kind-quotes))))
              (λ z. d.after u j c (omega (arith, z, inside)));
          rest = λ u j a b c. d.after u j c (omega (arith, a));
          rows = omega (arith, room, later);
          older = λ u p. is_place-older key q (fresh key v ∷ k.ds) u (is_place-older key v k.ds u p);
          newer = λ u p z. two-by key v q k.ds u p z (λ e. omega (arith, e, room, later)) (λ e. omega (arith, e, room));
          some = λ u p z. two-by key v q k.ds u p z (λ e. omega (arith, e, later)) (λ e. omega (arith, e, first_some));
        }

    pub known-element-new : is_declarable (item (named m)) ≡ true → is_declarable (chars xs) ≡ true → first (item (named m)) k.ds ≡ None → first (chars xs) k.ds ≡ None
        → Known g src w' o rs (q / 16 + 1) (element m xs ∷ cs) ls
    unfolding same_key
    known-element-new fit fits a b =
        let key = key_at g src in
        let can = ap is_declarable name ∙ fit in
        let new = ap (λ (x : Key). first x k.ds) name ∙ a in
        let more = ap is_declarable quotes ∙ fits in
        let later-new = ap (λ (x : Key). first x (fresh key v ∷ k.ds)) quotes ∙ first-fresh-other key v k.ds (chars xs) (rw name) ∙ b in
        let before = says_on w w' k.ds cs (λ u p. kept u chars_number p (omega arith)) k.says in
        known_grown g src w o rs n cs ls k w' (q / 16 + 1) (fresh key q ∷ fresh key v ∷ k.ds) (element m xs ∷ cs)
        (d.is n k.ds k.holds room (kind-name name) can new kind-quotes more later-new)
        (subst (λ (x : Key). Says w' (declared_at x q ∷ fresh key v ∷ k.ds) (element m xs ∷ cs)) (sym quotes)
        (subst (λ (x : Key). Says w' (declared_at (chars xs) q ∷ declared_at x v ∷ k.ds) (element m xs ∷ cs)) (sym name) (elements d.chars (omega (arith, odd)) before)))
        grown

-- ## What is accepted is new and can be declared

pub record Fresh (ds : List Decl) (n xs : List ℕ) : Type 0 where
  pub fit : is_declarable (item (named n)) ≡ true
  pub fits : is_declarable (chars xs) ≡ true
  pub name : known_in (item (named n)) ds ≡ false
  pub quotes : known_in (chars xs) ds ≡ false

not-both : (a b : Bool) → a ≡ true → not (a && b) ≡ true → b ≡ false
not-both true true e h = absurd (false≢true h)
not-both true false e h = refl
not-both false b e h = absurd (false≢true e)

element-new : (ds : List Decl) (os : List Token) → element_refusal ds os ≡ 0 → Fresh ds (the_name (token_at os 0)) (chars_in os)
unfolding element_refusal
element-new ds os h =
    let ns = (token_at os 2).names in
    let xs = map code_of ns in
    let a = is_new_in ds (the_name (token_at os 0)) in
    let fit = every is_char_name ns in
    let b = not (fit && known_in (chars xs) ds) in
    let few = within 2 4 (length xs) in
    let z = lower-none (tokens_refusal os) (lowest (3 unless element_formed os ∷ 5 unless (a && b) ∷ 6 unless fit ∷ 7 unless few ∷ [])) h in
    let y = (lowest-unless 3 (element_formed os) (5 unless (a && b) ∷ 6 unless fit ∷ 7 unless few ∷ []) (omega arith) z.1).1 in
    let x = lowest-unless 5 (a && b) (6 unless fit ∷ 7 unless few ∷ []) (omega arith) y in
    let c = lowest-unless 6 fit (7 unless few ∷ []) (omega arith) x.1 in
    let d = (lowest-unless 7 few [] (omega arith) c.1).0 in
    record {
      fit = first-declarable os z.0;
      fits = chars-declarable ns c.0 (and_right (leb 2 (length xs)) (leb (length xs) 4) d);
      name = new-unknown ds (the_name (token_at os 0)) (and_left a b x.0);
      quotes = not-both fit (known_in (chars xs) ds) c.0 (and_right a b x.0);
    }

-- ## collating-element

pub element-declaring : Declaring "collating-element" element_line (λ os. element (the_name (token_at os 0)) (chars_in os)) element_refusal ElementIs Err
unfolding bytes element_line
element-declaring = record {
  collate = λ s number os. at-element s number (bytes "collating-element") os refl;
  long = omega arith;
  state = λ s os. refl;
  paper = element-paper;
  misplaced = element-misplaced;
  told = λ a. a.0.refusal;
}

module _ (g : Signs) (src : List ℕ) (at : ℕ) (p : Spot) (e : LineEnd) (l : Opened g src at p e "collating-element")
    (w w' : List ℕ) (sh : Sheet) {t : Bool} (j : t ≡ may sh) (f : t ≡ true) (x : e.text ≡ true) {y : Result (ℕ × ℕ) Refusal} (a : ElementIs g src p w w' y) where
  pub element-done : {v q : ℕ} → y ≡ Ok (v, q) → Writes g src w sh at w' (Ok (Next sh e.next e.feeds))
  element-done {v} {q} z =
      let b : ElementAt g src p w v q = (subst (ElementIs g src p w w') z a).0 in
      let c : DeclaresBoth (key_at g src) (length src) w v q w' = (subst (ElementIs g src p w w') z a).1 in
      accepted-step element-declaring g src at p e l w sh w' j f x v q b.refusal b.mark.behind b.quotes.room c.long c.beyond (λ cs s o room i.
      let k = o.known in
      let m = the_name (token_at (operands_after g src p) 0) in
      let xs = chars_in (operands_after g src p) in
      let n = element-new k.ds (operands_after g src p) i in
      let some : 1 ≤ v = let y = b.mark.behind in omega (arith, y) in (
        known-element-new g src w sh.order s.ordered.rules o.n s.declared s.ordered.lines k v q w' c room b.quotes.later b.quotes.within
            some m xs b.mark.key b.quotes.key b.quotes.odd n.fit n.fits (first-none (item (named m)) k.ds n.name) (first-none (chars xs) k.ds n.quotes),
        element-older g src w sh.order s.ordered.rules o.n s.declared s.ordered.lines k v q w' c room b.quotes.later b.quotes.within,
      ))
