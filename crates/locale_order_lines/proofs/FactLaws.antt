-- What is told of a subject: by what is found in the store, and by its row.
use lib.Dec.{eqb, leb}
use Rattle.std.specs.Option.{is_some}
use Rattle.std.specs.Prelude.{if◌then◌else◌, None, Option, Some}
use mathlib.Core.Path.{◌≡◌, refl, sym, ap, ◌∙◌, subst}
use mathlib.Core.Bool.{Bool, true, false, not}
use mathlib.Core.List.{List}
use Prim.Native.Nat.{ℕ, ◌+◌, ◌-◌, ◌*◌, ◌/◌, ◌≤◌, ◌<◌}
use native.Mathlib.Omega.{arith}
use lib.ListN.{length}
use borrow.Author.Tests.{eq-eqb, ne_eqb, le-leb, lt-leb}
use Rattle.base_lists.proofs.Bools.{by, cond-true, cond-false}
use Rattle.rules.specs.Names.{char_shaped, is_character}
use Rattle.rules.specs.Meaning.{Rule}
use Rattle.rules.specs.State.{in_block, Declaration, Subject, character, named, undefined, OrderLine}
use Rattle.rules.specs.OrderLines.{subject_of, stands, is_symbol, taken_out}
use Rattle.text_lines.specs.declared.Signs.{Signs}
use Rattle.text_lines.specs.declared.Spot.{Spot}
use Rattle.text_tokens.specs.Left.{is_inside}
use Rattle.base_units.specs.declared.CodePoint.{CodePoint}
use Rattle.text_names.specs.Named.{name_left, CharIs, CodeIs}
use Rattle.work_rows.specs.Cells.{cell}
use Rattle.work_subjects.specs.Keys.{Key, item, key_at, subject_left}
use Rattle.work_subjects.proofs.SpotLaws.{key_at-inside}
use Rattle.work_store.specs.Store.{Decl, first, is_found, known_in, undefined_mark, Sound, Finds}
use Rattle.work_store.proofs.ListLaws.{found_within}
use Rattle.work_order.specs.declared.Order.{Order}
use Rattle.work_order.specs.Links.{chars_number, place_number}
use Rattle.locale_standing.specs.Standing.{stands_in}
use Rattle.locale_sheet.specs.Known.{Says, mark_of, Known}
use Rattle.locale_sheet.proofs.DeclaredLaws.{known-declared, none-later, known-symbol}
use Rattle.locale_sheet.proofs.RankLaws.{is_ordered, rank-none}
use Rattle.locale_sheet.proofs.MovedLaws.{known-length, taken-found}
use Rattle.locale_sheet.specs.declared.Block.{Block}
use Rattle.locale_sheet.specs.declared.Sheet.{Sheet}
use Rattle.locale_order_lines.specs.declared.Facts.{Facts}
use Rattle.locale_order_lines.specs.Facts.{Rowed, is_bare, is_own, is_again, FactsOf, name_facts, undefined_facts, SomeKnown}

-- ## Rows

module _ (w : List ℕ) (f : Option ℕ) where
  pub row-there : {v : ℕ} → Rowed w f → f ≡ Some v → 8 * (v / 16) + 8 ≤ length w
  row-there h e = subst (Rowed w) e h

  pub bare-none : f ≡ None → false ≡ is_bare w f
  bare-none e = sym (ap (is_bare w) e)

  pub listed-none : f ≡ None → false ≡ is_ordered w f
  listed-none e = sym (ap (is_ordered w) e)

  pub own-none : (b : Block) → f ≡ None → false ≡ is_own w b f
  own-none b e = sym (ap (is_own w b) e)

  -- in a block the block's lines count, else all
  pub again-block : (sh : Sheet) {r : Bool} → sh.phase ≡ 6 → r ≡ is_own w sh.block f → r ≡ is_again w sh f
  again-block sh h k = k ∙ sym (cond-true (is_own w sh.block f) (is_ordered w f) (eq-eqb sh.phase in_block h))

  pub again-else : (sh : Sheet) {r : Bool} → (sh.phase ≡ 6 → ⊥) → r ≡ is_ordered w f → r ≡ is_again w sh f
  again-else sh h k = k ∙ sym (cond-false (is_own w sh.block f) (is_ordered w f) (ne_eqb sh.phase in_block h))

  module _ {v : ℕ} (e : f ≡ Some v) where
    pub own-named : (b : Block) → v ≡ b.named → eqb v b.named ≡ is_own w b f
    own-named b h = eq-eqb v b.named h ∙ sym (ap (is_own w b) e ∙ rw (eq-eqb v b.named h))

    pub own-late : (b : Block) {x : ℕ} → x ≡ cell w v place_number → (v ≡ b.named → ⊥) → leb b.from x ≡ is_own w b f
    own-late b k n = ap (leb b.from) k ∙ sym (ap (is_own w b) e ∙ rw (ne_eqb v b.named n))

    pub bare-is : {x : ℕ} → x ≡ cell w v chars_number → eqb x 0 ≡ is_bare w f
    bare-is k = ap (λ (y : ℕ). eqb y 0) k ∙ sym (ap (is_bare w) e)

    pub listed-is : {x : ℕ} → x ≡ cell w v place_number → not (eqb x 0) ≡ is_ordered w f
    listed-is k = ap (λ (y : ℕ). not (eqb y 0)) k ∙ sym (ap (is_ordered w) e)

-- ## What the store finds

-- the row of what is found stands in the area
pub found-rowed : (g : Signs) (src w : List ℕ) (k : Key) (f : Option ℕ) → SomeKnown g src w → Finds (key_at g src) (length src) w k f → Rowed w f
found-rowed g src w k None s d = tt
found-rowed g src w k (Some v) s d =
    let i = found_within s.known.holds k v (sym (d.is s.n s.known.ds s.known.holds)) in
    let r = s.known.holds.roomy.room in omega (arith, i, r)

pub known-sound : (g : Signs) (src w : List ℕ) → SomeKnown g src w → Sound (key_at g src) (length src) w
known-sound g src w s = record { n = s.n; ds = s.known.ds; holds = s.known.holds }

-- what stands is what the lines have declared
pub stands-known : (w : List ℕ) (ds : List Decl) (cs : List Declaration) → Says w ds cs → (x : Subject) → stands_in ds x ≡ stands cs x
unfolding stands_in stands known_in
stands-known w ds cs s (character c) = refl
stands-known w ds cs s (named n) = known-declared w n ds cs s
stands-known w ds cs s undefined = refl

-- a found name is a symbol where its row tells nothing
pub symbol-known : (g : Signs) (src w : List ℕ) (o : Order) (rs : List Rule) (n : ℕ) (cs : List Declaration) (ls : List OrderLine) (k : Known g src w o rs n cs ls)
    (m : List ℕ) (f : Option ℕ) → first (item (named m)) k.ds ≡ f → is_symbol cs (named m) ≡ is_bare w f
unfolding is_symbol known_in
symbol-known g src w o rs n cs ls k m (Some v) e = known-symbol w m v k.ds cs k.says k.holds.once e
symbol-known g src w o rs n cs ls k m None e = none-later m cs (sym (known-declared w m k.ds cs k.says) ∙ ap is_found e)

-- how many lines there are without that of a subject
others-known : (g : Signs) (src w : List ℕ) (o : Order) (rs : List Rule) (n : ℕ) (cs : List Declaration) (ls : List OrderLine) (k : Known g src w o rs n cs ls) (x : Subject) (f : Option ℕ)
    → mark_of (length src) k.ds x ≡ f → length (taken_out x ls) ≡ (if is_ordered w f then length ls - 1 else length ls)
others-known g src w o rs n cs ls k x f m =
    taken-found g src w o rs n cs ls k x f m ∙ ap (λ (c : ℕ). if is_ordered w f then c - 1 else c) (sym (known-length g src w o rs n cs ls k))

-- ## The facts of a name

other-named : (m : List ℕ) → char_shaped m ≡ false → subject_of m ≡ named m
unfolding subject_of
other-named m z = rw z

-- the mark of a name's subject is found in the store
pub mark-found : (len : ℕ) (ds : List Decl) (m : List ℕ) → mark_of len ds (subject_of m) ≡ first (item (subject_of m)) ds
unfolding mark_of subject_of
mark-found len ds m = by (char_shaped m) (λ t. rw t) (λ t. rw t)

module _ (g : Signs) (src w : List ℕ) (p : Spot) (f : Option ℕ) (i : is_inside p.mode ≡ true)
    (d : Finds (key_at g src) (length src) w (key_at g src (2 * p.at)) f) where
  -- it is what the store finds at the name's mark
  pub mark-is : (o : Order) (rs : List Rule) (n : ℕ) (cs : List Declaration) (ls : List OrderLine) (k : Known g src w o rs n cs ls)
      → first (item (subject_left g src p)) k.ds ≡ f
  mark-is o rs n cs ls k = ap (λ (x : Key). first x k.ds) (sym (key_at-inside g src p i)) ∙ sym (d.is n k.ds k.holds)

  facts-with : (symbol stood : Bool)
      → ((o : Order) (rs : List Rule) (n : ℕ) (cs : List Declaration) (ls : List OrderLine) → Known g src w o rs n cs ls → is_symbol cs (subject_left g src p) ≡ symbol)
      → ((o : Order) (rs : List Rule) (n : ℕ) (cs : List Declaration) (ls : List OrderLine) → Known g src w o rs n cs ls → stands cs (subject_left g src p) ≡ stood)
      → FactsOf g src w (subject_left g src p) (record { symbol = symbol; ordered = is_ordered w f; stands = stood })
  facts-with symbol stood y t = record {
    are = λ o rs n cs ls k. record {
      symbol = y o rs n cs ls k;
      ordered = rank-none g src w o rs n cs ls k (subject_left g src p) f (mark-found (length src) k.ds (name_left g src p) ∙ mark-is o rs n cs ls k);
      others = others-known g src w o rs n cs ls k (subject_left g src p) f (mark-found (length src) k.ds (name_left g src p) ∙ mark-is o rs n cs ls k);
      stands = t o rs n cs ls k;
    };
  }

  facts-char : (x : CodePoint) → CharIs (name_left g src p) x.0 → FactsOf g src w (subject_left g src p) (name_facts w f (Some x))
  unfolding is_symbol stands subject_of
  facts-char x z = facts-with false (is_character x.0) (λ o rs n cs ls k. rw z.shaped) (λ o rs n cs ls k. rw z.shaped (sym (ap is_character z.code)))

  facts-other : char_shaped (name_left g src p) ≡ false → FactsOf g src w (subject_left g src p) (name_facts w f None)
  unfolding stands known_in
  facts-other z =
      let y : subject_left g src p ≡ named (name_left g src p) = other-named (name_left g src p) z in
      let found : (o : Order) (rs : List Rule) (n : ℕ) (cs : List Declaration) (ls : List OrderLine) (k : Known g src w o rs n cs ls) → first (item (named (name_left g src p))) k.ds ≡ f =
      (λ o rs n cs ls k. ap (λ (x : Subject). first (item x) k.ds) (sym y) ∙ mark-is o rs n cs ls k) in
      facts-with (is_bare w f) (is_found f)
      (λ o rs n cs ls k. ap (is_symbol cs) y ∙ symbol-known g src w o rs n cs ls k (name_left g src p) f (found o rs n cs ls k))
      (λ o rs n cs ls k. ap (stands cs) y ∙ sym (known-declared w (name_left g src p) k.ds cs k.says) ∙ ap is_found (found o rs n cs ls k))

  -- what is told of a name's find and code is told of its subject
  pub facts-name : (c : Option CodePoint) → CodeIs (name_left g src p) c → FactsOf g src w (subject_left g src p) (name_facts w f c)
  facts-name (Some x) z = facts-char x z
  facts-name None z = facts-other z

-- what is found
some-found : (f : Option ℕ) → is_some f ≡ is_found f
some-found None = refl
some-found (Some v) = refl

module _ (w : List ℕ) (f : Option ℕ) {c : Option CodePoint} {ordered stood : Bool} where
  pub told_char : {x : CodePoint} → c ≡ Some x → ordered ≡ is_ordered w f → stood ≡ is_character x.0
      → record { symbol = false; ordered = ordered; stands = stood } ≡ name_facts w f c
  told_char e l t = rw l (rw t (sym (ap (name_facts w f) e)))

  pub told-other : {symbol : Bool} → c ≡ None → ordered ≡ is_ordered w f → symbol ≡ is_bare w f → stood ≡ is_some f
      → record { symbol = symbol; ordered = ordered; stands = stood } ≡ name_facts w f c
  told-other e l b t = rw l (rw b (rw (t ∙ some-found f) (sym (ap (name_facts w f) e))))

-- ## The facts of UNDEFINED

pub facts-undefined : (w : List ℕ) (m : ℕ) {ordered : Bool} → ordered ≡ is_ordered w (Some m)
    → record { symbol = false; ordered = ordered; stands = true } ≡ undefined_facts w m
facts-undefined w m e = ap (λ (b : Bool). record { symbol = false; ordered = b; stands = true }) e

pub undefined-are : (g : Signs) (src w : List ℕ) (m : ℕ) (k : Facts) → m ≡ undefined_mark (length src) → k ≡ undefined_facts w m → FactsOf g src w undefined k
unfolding is_symbol stands mark_of
undefined-are g src w m k e f = record {
  are = λ o rs n cs ls h. record {
    symbol = ap (λ (y : Facts). y.symbol) (sym f);
    ordered = rank-none g src w o rs n cs ls h undefined (Some m) (ap Some (sym e)) ∙ ap (λ (y : Facts). not y.ordered) (sym f);
    others = others-known g src w o rs n cs ls h undefined (Some m) (ap Some (sym e)) ∙ ap (λ (y : Facts). if y.ordered then length ls - 1 else length ls) (sym f);
    stands = ap (λ (y : Facts). y.stands) (sym f);
  };
}
