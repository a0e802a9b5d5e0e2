-- What both lines that declare share: what the store holds beside what is declared, names that can be declared, and the steps.
use Rattle.std.specs.Prelude.{None, Option, Some, ℕ, Err, Ok}
use mathlib.Core.Path.{◌≡◌, refl, sym, ap, ◌∙◌, subst}
use mathlib.Core.Bool.{Bool, true, false, not, ◌&&◌, ◌||◌, or-true, false≢true}
use mathlib.Core.List.{List, [], ◌∷◌, map}
use Prim.Native.Nat.{ℕ, ◌+◌, ◌*◌, ◌/◌, ◌≤◌, ◌<◌}
use Prim.Native.String.{String}
use native.Mathlib.Omega.{arith}
use lib.ListN.{length, get_or}
use lib.Dec.{eqb}
use Rattle.base_lists.proofs.Bools.{by, clash}
use Rattle.rules.specs.Text.{bytes, every, ◌unless◌, lower}
use Rattle.rules.specs.Names.{char_shaped, name_refusal, names_refusal}
use Rattle.rules.specs.Tokens.{broken, quote, Token, token_at, the_name, tokens_refusal}
use Rattle.rules.specs.State.{before_order, after_order, Chain, Declaration, character, named, State, with_declared, Outcome}
use Rattle.rules.specs.Declarations.{may_declare}
use Rattle.rules.specs.Source.{collate_line}
use Rattle.rules.proofs.TextLaws.{lowest-none}
use Rattle.rules.proofs.RefusalLaws.{Bounded, bounded-low, bounded-high}
use Rattle.base_units.specs.declared.Refusal.{Refusal}
use Rattle.base_units.specs.declared.Refusal.TheVariants.{BadByte}
use Rattle.base_units.specs.Numbers.{number_of}
use Rattle.text_lines.specs.declared.Signs.{Signs}
use Rattle.text_lines.specs.declared.Spot.{Spot}
use Rattle.text_lines.specs.declared.LineEnd.{LineEnd}
use Rattle.locale_opening.proofs.OpenLaws.{with-text, left-some}
use Rattle.text_names.specs.Packed.{is_plain}
use Rattle.work_subjects.specs.Keys.{Key, item, chars, key_at}
use Rattle.work_subjects.specs.Numbers.{is_declarable}
use Rattle.work_subjects.proofs.NumberLaws.{name-declarable}
use Rattle.work_store.specs.Store.{Decl, first, is_found, known_in, heads_of, Sound}
use Rattle.work_rows.specs.Cells.{cell}
use Rattle.locale_sheet.specs.Known.{declared_at, Says, none, symbols, elements, characters, is_row, Known}
use Rattle.locale_symbols.specs.Symbols.{is_new_in, Alike, operands_after, Gives, Reaches}
use Rattle.locale_symbols.proofs.PaperLaws.{alike-none, alike-symbol, alike-element, alike-character}
use Rattle.locale_sheet.specs.declared.Sheet.{Sheet}
use Rattle.locale_sheet.specs.declared.Step.TheVariants.{Next}
use Rattle.locale_sheet.specs.Sheets.{Open}
use Rattle.locale_sheet.proofs.OrderLaws.{open-declared}
use Rattle.locale_declarations.specs.Worded.{Opened, Writes}
use Rattle.locale_declarations.proofs.OpenedLaws.{line-moves, line-accepted, line_refused, line-foul}

-- ## What is declared

-- what the store holds has the names and the characters of what the lines have declared
says-alike : {w : List ℕ} {ds : List Decl} {cs : List Declaration} → Says w ds cs → Alike ds cs
says-alike none = alike-none
says-alike (symbols {n = n} {v = v} z s) = alike-symbol (declared_at (item (named n)) v) (says-alike s) refl
says-alike (elements {n = n} {xs = xs} {v = v} {q = q} z l s) = alike-element (declared_at (item (named n)) v) (says-alike s) (declared_at (chars xs) q) refl refl
says-alike (characters {c = c} {v = v} z s) = alike-character (declared_at (item (character c)) v) (says-alike s) refl

not_found : (f : Option ℕ) → is_found f ≡ false → f ≡ None
not_found (Some v) e = absurd (false≢true (sym e))
not_found None e = refl

-- a key that is not known is not found
pub first-none : (k : Key) (ds : List Decl) → known_in k ds ≡ false → first k ds ≡ None
unfolding known_in
first-none k ds e = not_found (first k ds) e

-- nor is a new name
pub new-unknown : (ds : List Decl) (n : List ℕ) → is_new_in ds n ≡ true → known_in (item (named n)) ds ≡ false
unfolding is_new_in
new-unknown ds n h =
    by (known_in (item (named n)) ds) (λ t. clash h (rw (t, or-true (char_shaped n)))) (λ t. t)

-- a name that is accepted can be declared
named-declarable : (ns : List (List ℕ)) → names_refusal ns ≡ 0 → is_declarable (item (named (get_or ns 0 []))) ≡ true
unfolding names_refusal is_declarable is_plain every
named-declarable [] h = refl
named-declarable (n ∷ ns) h = name-declarable n (lowest-none (name_refusal n) (map name_refusal ns) h).0

-- the first of operands that are not refused, if it is a name, can be declared
pub first-declarable : (os : List Token) → tokens_refusal os ≡ 0 → is_declarable (item (named (the_name (token_at os 0)))) ≡ true
unfolding tokens_refusal is_declarable is_plain every
first-declarable [] h = refl
first-declarable (t ∷ os) h =
    let z = (lowest-none (3 unless not (eqb t.kind broken || (eqb t.kind quote && eqb (length t.names) 0))) (names_refusal t.names ∷ tokens_refusal os ∷ []) h).1 in
    named-declarable t.names (lowest-none (names_refusal t.names) (tokens_refusal os ∷ []) z).0

-- ## A line of either keyword

module _ {g : Signs} {src : List ℕ} {at : ℕ} {p : Spot} {e : LineEnd} {key : String} (l : Opened g src at p e key) where
  -- where the source goes on, the LF stands behind what the line reaches
  line-reaches : {place : ℕ} → Reaches g src p place → e.next < length src → place + 1 ≤ e.next
  line-reaches r h =
      let a = r.end in
      let b = l.end in
      let c = r.long in
      let d = left-some g src r.after (omega (arith, a, b, h)) in
      omega (arith, a, b, c, d)

  -- bytes that are no text
  pub foul-step : (w w' : List ℕ) (sh : Sheet) → e.text ≡ false → Writes g src w sh at w' (Err BadByte)
  foul-step w w' sh x = record { is = λ number depth. line-foul l w sh number depth x }

-- ## What a keyword has, and the steps of its line

-- where a declaration may stand
abbrev pub may : Sheet → Bool
may sh = eqb sh.phase before_order || eqb sh.phase after_order

-- A keyword with its line in the paper, what that declares, its refusal by what the store holds, and what its reader answers.
pub record Declaring (key : String) (line : State → List Token → Outcome) (adds : List Token → Declaration) (refusal : List Decl → List Token → ℕ)
    {A : Type 0} (Is : Signs → List ℕ → Spot → List ℕ → List ℕ → A → Type 0) (refused : Refusal → A) : Type 0 where
  pub collate : (s : State) (number : ℕ) (os : List Token) → collate_line s number (bytes key) os ≡ line s os
  pub long : 16 ≤ length (bytes key)
  pub state : (s : State) (os : List Token) → (line s os).state ≡ with_declared s (adds os ∷ s.declared)
  pub paper : (s : State) (os : List Token) (ds : List Decl) → Alike ds s.declared → may_declare s ≡ true → refusal ds os ≡ lower (tokens_refusal os) (line s os).refusal
  pub misplaced : (s : State) (os : List Token) → may_declare s ≡ false → lower (tokens_refusal os) (line s os).refusal ≡ 3
  pub told : {g : Signs} {src : List ℕ} {p : Spot} {w w' : List ℕ} {r : Refusal} → Is g src p w w' (refused r)
      → Gives (key_at g src) (length src) w (λ (ds : List Decl). refusal ds (operands_after g src p)) (number_of r)

module _ {key : String} {line : State → List Token → Outcome} {adds : List Token → Declaration} {refusal : List Decl → List Token → ℕ}
    {A : Type 0} {Is : Signs → List ℕ → Spot → List ℕ → List ℕ → A → Type 0} {refused : Refusal → A} (d : Declaring key line adds refusal Is refused) where
  module _ (g : Signs) (src : List ℕ) (at : ℕ) (p : Spot) (e : LineEnd) (l : Opened g src at p e key) where
    abbrev left : List Token
    left = operands_after g src p

    fault : (s : State) (number : ℕ) → lower (tokens_refusal left) (collate_line s number (bytes key) left).refusal ≡ lower (tokens_refusal left) (line s left).refusal
    fault s number = ap (λ (o : Outcome). lower (tokens_refusal left) o.refusal) (d.collate s number left)

    module _ (w : List ℕ) (sh : Sheet) where
      -- what the store gives is the paper's refusal
      line-fault : may sh ≡ true → {r : ℕ} → Gives (key_at g src) (length src) w (λ (ds : List Decl). refusal ds left) r
          → {cs : List Chain} {s : State} (number : ℕ) → Open g src w sh cs at s
          → lower (tokens_refusal left) (collate_line s number (bytes key) left).refusal ≡ r
      line-fault m h {s = s} number o =
          let k = o.known in
          fault s number ∙ sym (d.paper s left k.ds (says-alike k.says) (rw o.phase m)) ∙ h.is o.n k.ds k.holds

      module _ (w' : List ℕ) {t : Bool} (m : t ≡ may sh) where
        pub misplaced-step : {v : Refusal} → number_of v ≡ lower (2 unless e.text) 3 → t ≡ false → Writes g src w sh at w' (Err v)
        misplaced-step b n =
            record { is = λ number depth. line_refused l w sh number depth b (λ cs s o q u. fault s number ∙ d.misplaced s left (rw o.phase (sym m ∙ n))) }

        pub refused-step : t ≡ true → e.text ≡ true → {y : A} → Is g src p w w' y → {r : Refusal} → y ≡ refused r → Writes g src w sh at w' (Err r)
        refused-step f x a {r} z =
            let b = d.told (subst (Is g src p w w') z a) in
            record { is = λ number depth. line_refused l w sh number depth (with-text e.text (number_of r) x) (λ cs s o q u. line-fault (sym m ∙ f) b number o) }

        -- it is accepted: its name stands at the mark v, and q is the last mark that it declares
        pub accepted-step : t ≡ true → e.text ≡ true → (v q : ℕ) → Gives (key_at g src) (length src) w (λ (ds : List Decl). refusal ds left) 0
            → p.at < v / 2 → Reaches g src p (q / 2 + 2) → length w' ≡ length w → ((i : ℕ) → 8 * heads_of (length src) ≤ i → get_or w' i 0 ≡ get_or w i 0)
            → ((cs : List Chain) (s : State) (o : Open g src w sh cs at s) → o.n + 1 ≤ v / 16 → refusal o.known.ds left ≡ 0
            → Known g src w' sh.order s.ordered.rules (q / 16 + 1) (adds left ∷ s.declared) s.ordered.lines
            × ((u j : ℕ) → is_row (length src) o.known.ds u ≡ true → j < 5 → cell w' u j ≡ cell w u j))
            → Writes g src w sh at w' (Ok (Next sh e.next e.feeds))
        accepted-step f x v q r behind room same beyond h =
            let declares : may sh ≡ true = sym m ∙ f in
            let a = l.first.long in
            let b = d.long in
            record {
              is = λ number depth. record {
                moves = line-moves l;
                leaves = λ cs s o z u.
                    let rows : o.n ≤ (at + 5) / 8 = rw declares at (o.rows l.first.inside) in
                    let k = h cs s o (omega (arith, rows, a, b, behind)) (r.is o.n o.known.ds o.known.holds) in
                    record {
                      after = with_declared s (adds left ∷ s.declared);
                      outcome = line-accepted l w sh number o u x (line-fault declares r number o) (ap (λ (y : Outcome). y.state) (d.collate s number left) ∙ d.state s left);
                      held = open-declared g src w sh cs at s o l.first.inside e.next w' (q / 16 + 1) (adds left ∷ s.declared) declares (let i = (line-moves l).on in omega (arith, i))
                          k.0 same k.1 beyond (λ y. let i = line-reaches l room y in omega (arith, i));
                    };
              };
            }
