-- The lines of define, undef, ifdef and ifndef as steps: from what is told of the toggle that they name to what the area and the sheet hold.
use Rattle.std.specs.Prelude.{Bool, Err, Ok, Result, ℕ}
use mathlib.Core.Path.{◌≡◌, refl, sym, ap, ◌∙◌, subst}
use mathlib.Core.Logic.{◌⊎◌, inl, inr}
use mathlib.Core.Bool.{Bool, true, false}
use mathlib.Core.List.{List, ◌∷◌}
use Prim.Native.Nat.{ℕ, ◌≤◌, ◌<◌}
use native.Mathlib.Omega.{arith}
use lib.ListN.{length}
use lib.Dec.{ltb}
use borrow.Author.Tests.{lt-ltb, le-ltb}
use Rattle.rules.specs.Text.{◌unless◌, lower}
use Rattle.rules.specs.Tokens.{Token, operands, tokens_refusal}
use Rattle.rules.specs.State.{Chain, State, with_blocks, Outcome, gives}
use Rattle.rules.specs.Conditionals.{blocks, chain, define_line, if_line}
use Rattle.rules.specs.Source.{collate_line}
use Rattle.base_units.specs.declared.Refusal.{Refusal}
use Rattle.base_units.specs.Numbers.{number_of}
use Rattle.text_lines.specs.declared.Signs.{Signs}
use Rattle.text_lines.specs.declared.Spot.{Spot}
use Rattle.text_lines.specs.declared.LineEnd.{LineEnd}
use Rattle.text_lines.specs.Stream.{marks_left, line_start}
use Rattle.text_tokens.specs.Left.{tokens_left}
use Rattle.text_operands.proofs.LateLaws.{late-lower, late-tokens, two-first}
use Rattle.locale_opening.proofs.CollateLaws.{late-collate}
use Rattle.locale_opening.proofs.KeywordLaws.{at-define, at-undef, at-ifdef, at-ifndef}
use Rattle.work_toggles.specs.Kept.{toggles_in}
use Rattle.locale_toggle.specs.declared.Set.{Set}
use Rattle.locale_toggle.specs.declared.Set.TheVariants as set
use Rattle.locale_toggle.specs.Named as named
use Rattle.locale_toggle.specs.Named.{set_to, MayName, NamedIs, ToggledIs}
use Rattle.locale_toggle.proofs.BranchLaws.{define-named, define-refused, if-named, if-refused}
use Rattle.locale_sheet.specs.declared.Sheet.{Sheet}
use Rattle.locale_sheet.specs.Sheets.{toggles_at, Open, is_used, Moves, outcome_of, NextIs, OpensIs, RefusedIs}
use Rattle.locale_sheet.proofs.SheetLaws.{read_whole, open-turned}
use Rattle.locale_sheet.specs.Words.{WordLine}
use Rattle.locale_conditionals.specs.Turned.{defining, set_for, testing, holds_for, with_toggles, MayRead}

-- ## Refusals

-- a refusal of the operand is one of those that a line has
which-low : (r : ℕ) → (r ≡ 3) ⊎ (r ≡ 7) → 2 ≤ r
which-low r (inl e) = omega (arith, e)
which-low r (inr e) = omega (arith, e)

module _ (g : Signs) (src work after : List ℕ) (base n : ℕ) (os : List Token) (set : Set) (t : Result (Bool × ℕ) Refusal) (v : ToggledIs g src work after base n os set t) (r : Refusal) (f : t ≡ Err r) where
  told : named.RefusedIs g src work after base n os (number_of r)
  told = subst (ToggledIs g src work after base n os set) f v

  pub toggled-low : 2 ≤ number_of r
  toggled-low = which-low (number_of r) told.which

-- an outcome, and the refusals of bytes that are no text and of tokens
abbrev pub with_refusals : Bool → ℕ → Outcome → Outcome
with_refusals text r o = gives (lower (2 unless text) (lower r o.refusal)) o.state

-- where there are none, it is the outcome
pub with_none : {t : Bool} {r x : ℕ} {s : State} → t ≡ true → r ≡ 0 → with_refusals t r (gives x s) ≡ gives x s
unfolding lower
with_none h k = rw (h, k)

-- ## The keywords

module _ (s : State) (number : ℕ) (ts : List Token) where
  collate-define : (on : Bool) → collate_line s number (defining on) ts ≡ define_line s on ts
  collate-define true = at-define s number (defining true) ts refl
  collate-define false = at-undef s number (defining false) ts refl

  collate-if : (wanted : Bool) → collate_line s number (testing wanted) ts ≡ if_line s wanted ts
  collate-if true = at-ifdef s number (testing true) ts refl
  collate-if false = at-ifndef s number (testing false) ts refl

set-defines : (on was : Bool) → set_to (set_for on) was ≡ on
set-defines true was = refl
set-defines false was = refl

-- ## A line that opens with a word

pub line-moves : {g : Signs} {src : List ℕ} {at : ℕ} {p : Spot} {e : LineEnd} {w : List ℕ} → WordLine g src at p e w → Moves g src at e.next e.feeds
line-moves v = let l = v.line in record { end = l.end; feeds = l.feeds; on = l.on v.inside; to = l.to; few = l.few }

module _ {g : Signs} {src work : List ℕ} {sh : Sheet} {at depth : ℕ} {p : Spot} {e : LineEnd} {w : List ℕ} (m : MayRead g src work sh at depth p e w) where
  -- its operand may be looked up
  pub may-name : MayName g src work (toggles_at (length src)) sh.toggles p
  may-name = record { kept = m.some.held.kept; mode = m.line.plain; inside = m.line.to; short = m.some.short }

  -- what the paper makes of it in a used branch
  outcome-of : (number : ℕ) (cs : List Chain) (s : State) → Open g src work sh cs at s → is_used cs ≡ true
      → outcome_of g src at s number ≡ with_refusals e.text (tokens_refusal (operands (tokens_left g src p))) (collate_line s number w (operands (tokens_left g src p)))
  outcome-of number cs s o u = read_whole g src work sh cs at s o u number (marks_left g src (line_start at)) ∙ m.line.whole s number o.inside

  -- a byte of it is no text
  pub foul-line : (number : ℕ) → e.text ≡ false → RefusedIs g src work sh at number depth 2
  foul-line number f =
      let os = operands (tokens_left g src p) in
      record {
        refusal = λ cs s o d u.
            ap (λ (x : Outcome). x.refusal) (outcome-of number cs s o u)
            ∙ rw f (two-first (lower (tokens_refusal os) (collate_line s number w os).refusal) (late-lower (tokens_refusal os) _ (late-tokens os) (late-collate s number w os)));
      }

-- ## define and undef

module _ {g : Signs} {src work : List ℕ} {sh : Sheet} {at depth : ℕ} {p : Spot} {e : LineEnd} (on : Bool) (m : MayRead g src work sh at depth p e (defining on)) (number : ℕ)
    {set : Set} {t : Result (Bool × ℕ) Refusal} (after : List ℕ) (k : set ≡ set_for on)
    (v : ToggledIs g src work after (toggles_at (length src)) sh.toggles (operands (tokens_left g src p)) set t) where
  pub define-next : {was : Bool} {n : ℕ} {sh' : Sheet} → t ≡ Ok (was, n) → e.text ≡ true → sh' ≡ with_toggles sh n
      → NextIs g src work sh at number depth after sh' e.next e.feeds
  define-next {was} {n} f h y =
      let os = operands (tokens_left g src p) in
      let base = toggles_at (length src) in
      let x : NamedIs g src work after base sh.toggles os set was n = subst (ToggledIs g src work after base sh.toggles os set) f v in
      let sets : set_to set was ≡ on = ap (λ (z : Set). set_to z was) k ∙ set-defines on was in
      record {
        moves = line-moves m.line;
        leaves = λ cs s o d u. record {
          after = with_blocks s (blocks cs 0 (toggles_in g src after base n));
          outcome =
              outcome-of m number cs s o u
              ∙ ap (with_refusals e.text (tokens_refusal os))
              (collate-define s number os on ∙ define-named x s o.toggles on sets
              ∙ ap (λ (z : List Chain). gives 0 (with_blocks s (blocks z 0 (toggles_in g src after base n)))) o.chains)
              ∙ with_none h x.tokens;
          held =
              subst (λ (z : Sheet). Open g src after z cs e.next (with_blocks s (blocks cs 0 (toggles_in g src after base n)))) (sym y)
              (let on_line = (line-moves m.line).on in open-turned g src work sh cs at s o m.line.inside e.next (omega arith) after n cs x.kept x.long x.below);
        };
      }

  pub define-refuses : {r : Refusal} {x : ℕ} → t ≡ Err r → x ≡ lower (2 unless e.text) (number_of r) → RefusedIs g src work sh at number depth x
  define-refuses {r} f y =
      let os = operands (tokens_left g src p) in
      let base = toggles_at (length src) in
      let z : named.RefusedIs g src work after base sh.toggles os (number_of r) = subst (ToggledIs g src work after base sh.toggles os set) f v in
      record {
        refusal = λ cs s o d u.
            ap (λ (x : Outcome). x.refusal) (outcome-of m number cs s o u)
            ∙ ap (λ (x : Outcome). lower (2 unless e.text) (lower (tokens_refusal os) x.refusal)) (collate-define s number os on)
            ∙ ap (lower (2 unless e.text)) (define-refused z s o.toggles on)
            ∙ sym y;
      }

-- ## ifdef and ifndef

module _ {g : Signs} {src work : List ℕ} {sh : Sheet} {at depth : ℕ} {p : Spot} {e : LineEnd} (wanted : Bool) (m : MayRead g src work sh at depth p e (testing wanted)) (number : ℕ)
    {t : Result (Bool × ℕ) Refusal} (after : List ℕ)
    (v : ToggledIs g src work after (toggles_at (length src)) sh.toggles (operands (tokens_left g src p)) set.Keep t) where
  if-outcome : {was : Bool} {n : ℕ} → t ≡ Ok (was, n) → e.text ≡ true → (cs : List Chain) (s : State) → Open g src work sh cs at s → is_used cs ≡ true
      → outcome_of g src at s number
      ≡ gives (7 unless ltb (length cs) 8) (with_blocks s (blocks (chain (holds_for wanted was) (holds_for wanted was) false ∷ cs) 0 (toggles_in g src after (toggles_at (length src)) n)))
  if-outcome {was} {n} f h cs s o u =
      let os = operands (tokens_left g src p) in
      let base = toggles_at (length src) in
      let x : NamedIs g src work after base sh.toggles os set.Keep was n = subst (ToggledIs g src work after base sh.toggles os set.Keep) f v in
      let c = chain (holds_for wanted was) (holds_for wanted was) false in
      outcome-of m number cs s o u
      ∙ ap (with_refusals e.text (tokens_refusal os))
      (collate-if s number os wanted ∙ if-named x s o.toggles refl wanted
      ∙ ap (λ (z : List Chain). gives (7 unless ltb (length z) 8) (with_blocks s (blocks (c ∷ z) 0 (toggles_in g src after base n)))) o.chains)
      ∙ with_none h x.tokens

  pub if-opens : {was holds : Bool} {n : ℕ} {sh' : Sheet} → t ≡ Ok (was, n) → e.text ≡ true → depth < 8 → holds ≡ holds_for wanted was → sh' ≡ with_toggles sh n
      → OpensIs g src work sh at number depth after holds sh' e.next e.feeds
  if-opens {was} {holds} {n} f h l b y =
      let base = toggles_at (length src) in
      let x : NamedIs g src work after base sh.toggles _ set.Keep was n = subst (ToggledIs g src work after base sh.toggles _ set.Keep) f v in
      let cs' : List Chain → List Chain = λ cs. chain holds holds false ∷ cs in
      record {
        moves = line-moves m.line;
        shallow = l;
        leaves = λ cs s o d u. record {
          after = with_blocks s (blocks (cs' cs) 0 (toggles_in g src after base n));
          outcome = if-outcome f h cs s o u ∙ rw (← b, d, lt-ltb depth 8 l);
          held =
              subst (λ (z : Sheet). Open g src after z (cs' cs) e.next (with_blocks s (blocks (cs' cs) 0 (toggles_in g src after base n)))) (sym y)
              (let on_line = (line-moves m.line).on in open-turned g src work sh cs at s o m.line.inside e.next (omega arith) after n (cs' cs) x.kept x.long x.below);
        };
      }

  pub if-deep : {was : Bool} {n : ℕ} → t ≡ Ok (was, n) → e.text ≡ true → 8 ≤ depth → RefusedIs g src work sh at number depth 7
  if-deep f h l =
      record {
        refusal = λ cs s o d u. ap (λ (x : Outcome). x.refusal) (if-outcome f h cs s o u) ∙ rw (d, le-ltb depth 8 l);
      }

  pub if-refuses : {r : Refusal} {x : ℕ} → t ≡ Err r → x ≡ lower (2 unless e.text) (number_of r) → RefusedIs g src work sh at number depth x
  if-refuses {r} f y =
      let os = operands (tokens_left g src p) in
      let base = toggles_at (length src) in
      let z : named.RefusedIs g src work after base sh.toggles os (number_of r) = subst (ToggledIs g src work after base sh.toggles os set.Keep) f v in
      record {
        refusal = λ cs s o d u.
            ap (λ (x : Outcome). x.refusal) (outcome-of m number cs s o u)
            ∙ ap (λ (x : Outcome). lower (2 unless e.text) (lower (tokens_refusal os) x.refusal)) (collate-if s number os wanted)
            ∙ ap (lower (2 unless e.text)) (if-refused z s o.toggles wanted)
            ∙ sym y;
      }
