-- The lines of elif, else and endif as the open chain reads them: from what is told of their operands to what the area and the sheet hold.
use Rattle.std.specs.Prelude.{Bool, Err, Ok, Result, ℕ}
use mathlib.Core.Path.{◌≡◌, refl, sym, ap, ◌∙◌, subst}
use mathlib.Core.Bool.{Bool, true, false, not, ◌&&◌, ◌||◌, and-false}
use mathlib.Core.List.{List, [], ◌∷◌}
use Prim.Native.Nat.{ℕ, ◌≤◌, ◌<◌}
use native.Mathlib.Omega.{arith}
use lib.ListN.{length, get_or, drop}
use lib.Dec.{eqb, ltb}
use borrow.Author.Tests.{eqb-true, lt-ltb}
use Rattle.rules.specs.Text.{bytes, ◌unless◌, lower}
use Rattle.rules.specs.Tokens.{Token, operands, tokens_refusal}
use Rattle.rules.specs.State.{Chain, State, with_blocks, Outcome, gives}
use Rattle.rules.specs.Conditionals.{blocks, chain, no_chain, toggle_refusal, elif_line}
use Rattle.rules.specs.Source.{collate_line}
use Rattle.base_units.specs.declared.Refusal.{Refusal}
use Rattle.base_units.specs.Numbers.{number_of}
use Rattle.text_lines.specs.declared.Signs.{Signs}
use Rattle.text_lines.specs.declared.Spot.{Spot}
use Rattle.text_lines.specs.declared.LineEnd.{LineEnd}
use Rattle.text_tokens.specs.Left.{tokens_left}
use Rattle.text_tokens.proofs.RefusalLaws.{three-last}
use Rattle.text_operands.proofs.LateLaws.{late-lower, late-tokens, two-first, three-lowest}
use Rattle.locale_opening.proofs.CollateLaws.{late-collate, late-toggle}
use Rattle.locale_opening.proofs.KeywordLaws.{at-elif, at-else, at-endif}
use Rattle.work_toggles.specs.Kept.{toggles_in}
use Rattle.locale_toggle.specs.declared.Set.TheVariants as set
use Rattle.locale_toggle.specs.Named as named
use Rattle.locale_toggle.specs.Named.{MayName, NamedIs, ToggledIs}
use Rattle.locale_toggle.proofs.BranchLaws.{elif-named, elif-refused}
use Rattle.locale_sheet.specs.declared.Sheet.{Sheet}
use Rattle.locale_sheet.specs.Sheets.{toggles_at, Open}
use Rattle.locale_sheet.specs.Words.{WordLine}
use Rattle.locale_sheet.proofs.SheetLaws.{open-turned}
use Rattle.locale_conditionals.specs.Turned.{with_toggles}
use Rattle.locale_conditionals.specs.Turns.{EveryChain, GoesIs, EndsIs, TurnRefused, KeyTurn}
use Rattle.locale_conditionals.proofs.StepLaws.{with_refusals, with_none, line-moves}

-- ## Refusals

-- no token gives none
none-tokens : (ts : List Token) → eqb (length ts) 0 ≡ true → tokens_refusal ts ≡ 0
unfolding tokens_refusal
none-tokens [] h = refl
none-tokens (t ∷ ts) h = let e = eqb-true (length (t ∷ ts)) 0 h in absurd (omega arith)

-- before `else` its place is not refused
three-none : (r : ℕ) {closed : Bool} → closed ≡ false → lower (3 unless not closed) r ≡ r
unfolding lower
three-none r h = rw h

-- after `else` no branch may follow
elif-closed : (s : State) (ts : List Token) (taken used : Bool) {closed : Bool} (cs : List Chain) → s.blocks.chains ≡ chain taken used closed ∷ cs → closed ≡ true
    → lower (tokens_refusal ts) (elif_line s ts).refusal ≡ 3
unfolding elif_line
elif-closed s ts taken used cs e c =
    let r = tokens_refusal ts in
    let x = toggle_refusal s ts in
    ap (λ (z : List Chain). lower r (lower (3 unless not (get_or z 0 no_chain).closed) x)) e
    ∙ ap (λ (b : Bool). lower r (lower (3 unless not b) x)) c
    ∙ ap (lower r) (three-lowest x (late-toggle s ts))
    ∙ three-last ts

module _ {g : Signs} {src : List ℕ} {at : ℕ} {p : Spot} {e : LineEnd} {w : List ℕ} (l : WordLine g src at p e w) (work : List ℕ) (sh : Sheet) (number : ℕ) (taken closed : Bool) where
  -- a byte of the line is no text
  pub turn-foul : e.text ≡ false → TurnRefused g src work sh at number taken closed 2
  turn-foul f =
      let os = operands (tokens_left g src p) in
      record {
        refusal = λ used cs s o.
            ap (λ (x : Outcome). x.refusal) (l.whole s number o.inside)
            ∙ rw f (two-first (lower (tokens_refusal os) (collate_line s number w os).refusal) (late-lower (tokens_refusal os) _ (late-tokens os) (late-collate s number w os)));
      }

  -- its operands or its place are refused
  turn-refused : {r x : ℕ}
      → EveryChain g src work sh at taken closed (λ (cs : List Chain) (s : State). lower (tokens_refusal (operands (tokens_left g src p))) (collate_line s number w (operands (tokens_left g src p))).refusal ≡ r)
      → x ≡ lower (2 unless e.text) r → TurnRefused g src work sh at number taken closed x
  turn-refused h y =
      record {
        refusal = λ used cs s o. ap (λ (x : Outcome). x.refusal) (l.whole s number o.inside) ∙ ap (lower (2 unless e.text)) (h used cs s o) ∙ sym y;
      }

-- ## elif

module _ {g : Signs} {src work : List ℕ} {sh : Sheet} {at : ℕ} {p : Spot} {e : LineEnd} (m : KeyTurn g src work sh at p e (bytes "elif")) where
  -- its operand may be looked up
  pub elif-name : MayName g src work (toggles_at (length src)) sh.toggles p
  elif-name = record { kept = m.some.held.kept; mode = m.line.plain; inside = m.line.to; short = m.some.short }

  module _ (number : ℕ) (taken closed : Bool) where
    pub elif-foul : e.text ≡ false → TurnRefused g src work sh at number taken closed 2
    elif-foul f = turn-foul m.line work sh number taken closed f

    pub elif-late : {x : ℕ} → closed ≡ true → x ≡ lower (2 unless e.text) 3 → TurnRefused g src work sh at number taken closed x
    elif-late c y =
        let os = operands (tokens_left g src p) in
        turn-refused m.line work sh number taken closed
        (λ used cs s o.
        ap (λ (x : Outcome). lower (tokens_refusal os) x.refusal) (at-elif s number (bytes "elif") os refl) ∙ elif-closed s os taken used cs o.chains c)
        y

    module _ {t : Result (Bool × ℕ) Refusal} (after : List ℕ) (c : closed ≡ false)
        (v : ToggledIs g src work after (toggles_at (length src)) sh.toggles (operands (tokens_left g src p)) set.Keep t) where
      pub elif-refuses : {r : Refusal} {x : ℕ} → t ≡ Err r → x ≡ lower (2 unless e.text) (number_of r) → TurnRefused g src work sh at number taken closed x
      elif-refuses {r} f y =
          let os = operands (tokens_left g src p) in
          let base = toggles_at (length src) in
          let z : named.RefusedIs g src work after base sh.toggles os (number_of r) = subst (ToggledIs g src work after base sh.toggles os set.Keep) f v in
          turn-refused m.line work sh number taken closed
          (λ used cs s o.
          ap (λ (x : Outcome). lower (tokens_refusal os) x.refusal) (at-elif s number (bytes "elif") os refl)
          ∙ elif-refused z s o.toggles
          ∙ ap (λ (x : List Chain). lower (3 unless not (get_or x 0 no_chain).closed) (number_of r)) o.chains
          ∙ three-none (number_of r) c)
          y

      pub elif-goes : {was taken' used' : Bool} {n : ℕ} {sh' : Sheet} → t ≡ Ok (was, n) → e.text ≡ true → taken' ≡ (taken || was) → used' ≡ (not taken && was)
          → sh' ≡ with_toggles sh n → GoesIs g src work sh at number taken closed after taken' used' false sh' e.next e.feeds
      elif-goes {was} {taken'} {used'} {n} f h a b y =
          let os = operands (tokens_left g src p) in
          let base = toggles_at (length src) in
          let x : NamedIs g src work after base sh.toggles os set.Keep was n = subst (ToggledIs g src work after base sh.toggles os set.Keep) f v in
          let cs' : List Chain → List Chain = λ cs. chain taken' used' false ∷ cs in
          record {
            moves = line-moves m.line;
            turns = λ used cs s o. record {
              after = with_blocks s (blocks (cs' cs) 0 (toggles_in g src after base n));
              outcome =
                  m.line.whole s number o.inside
                  ∙ ap (with_refusals e.text (tokens_refusal os))
                  (at-elif s number (bytes "elif") os refl ∙ elif-named x s o.toggles refl
                  ∙ ap (λ (z : List Chain).
                  gives (3 unless not (get_or z 0 no_chain).closed)
                  (with_blocks s (blocks (chain ((get_or z 0 no_chain).taken || was) (not (get_or z 0 no_chain).taken && was) false ∷ drop 1 z) 0 (toggles_in g src after base n)))) o.chains
                  ∙ rw (c, a, b))
                  ∙ with_none h x.tokens;
              held =
                  subst (λ (z : Sheet). Open g src after z (cs' cs) e.next (with_blocks s (blocks (cs' cs) 0 (toggles_in g src after base n)))) (sym y)
                  (let on_line = (line-moves m.line).on in
                  open-turned g src work sh (chain taken used closed ∷ cs) at s o m.line.inside e.next (omega arith) after n (cs' cs) x.kept x.long x.below);
            };
          }

-- ## else and endif

-- the area and the sheet stay, and other chains are open
still : (g : Signs) (src work : List ℕ) (sh : Sheet) (cs ds : List Chain) (at next : ℕ) (s : State) → Open g src work sh cs at s → at < length src → at ≤ next
    → Open g src work sh ds next (with_blocks s (blocks ds 0 s.blocks.toggles))
still g src work sh cs ds at next s o i h =
    let base = toggles_at (length src) in
    rw o.toggles (open-turned g src work sh cs at s o i next h work sh.toggles ds o.kept refl (λ j k. refl))

module _ {g : Signs} {src : List ℕ} {at : ℕ} {p : Spot} {e : LineEnd} (l : WordLine g src at p e (bytes "else")) (sh : Sheet) (number : ℕ) (taken closed : Bool) where
  pub else-foul : (work : List ℕ) → e.text ≡ false → TurnRefused g src work sh at number taken closed 2
  else-foul work f = turn-foul l work sh number taken closed f

  else-refused : (work : List ℕ) {x : ℕ} → (eqb (length (operands (tokens_left g src p))) 0 && not closed) ≡ false → x ≡ lower (2 unless e.text) 3
      → TurnRefused g src work sh at number taken closed x
  else-refused work n y =
      let os = operands (tokens_left g src p) in
      turn-refused l work sh number taken closed
      (λ used cs s o.
      ap (λ (x : Outcome). lower (tokens_refusal os) x.refusal) (at-else s number (bytes "else") os refl)
      ∙ ap (λ (z : List Chain). lower (tokens_refusal os) (3 unless (eqb (length os) 0 && not (get_or z 0 no_chain).closed))) o.chains
      ∙ rw n (three-last os))
      y

  pub else-late : (work : List ℕ) {x : ℕ} → closed ≡ true → x ≡ lower (2 unless e.text) 3 → TurnRefused g src work sh at number taken closed x
  else-late work c y = else-refused work (rw c (and-false (eqb (length (operands (tokens_left g src p))) 0))) y

  pub else-more : (work : List ℕ) {b : Bool} {x : ℕ} → b ≡ eqb (length (operands (tokens_left g src p))) 0 → b ≡ false → x ≡ lower (2 unless e.text) 3
      → TurnRefused g src work sh at number taken closed x
  else-more work a n y = else-refused work (rw (sym a ∙ n)) y

  pub else-goes : (work : List ℕ) {b : Bool} → closed ≡ false → b ≡ eqb (length (operands (tokens_left g src p))) 0 → b ≡ true → e.text ≡ true
      → GoesIs g src work sh at number taken closed work true (not taken) true sh e.next e.feeds
  else-goes work c a b h =
      let os = operands (tokens_left g src p) in
      let none : eqb (length os) 0 ≡ true = sym a ∙ b in
      record {
        moves = line-moves l;
        turns = λ used cs s o. record {
          after = with_blocks s (blocks (chain true (not taken) true ∷ cs) 0 s.blocks.toggles);
          outcome =
              l.whole s number o.inside
              ∙ ap (with_refusals e.text (tokens_refusal os))
              (at-else s number (bytes "else") os refl
              ∙ ap (λ (z : List Chain).
              gives (3 unless (eqb (length os) 0 && not (get_or z 0 no_chain).closed))
              (with_blocks s (blocks (chain true (not (get_or z 0 no_chain).taken) true ∷ drop 1 z) 0 s.blocks.toggles))) o.chains
              ∙ rw (none, c))
              ∙ with_none h (none-tokens os none);
          held =
              let on_line = (line-moves l).on in
              still g src work sh (chain taken used closed ∷ cs) (chain true (not taken) true ∷ cs) at e.next s o l.inside (omega arith);
        };
      }

module _ {g : Signs} {src : List ℕ} {at : ℕ} {p : Spot} {e : LineEnd} (l : WordLine g src at p e (bytes "endif")) (sh : Sheet) (number : ℕ) (taken closed : Bool) where
  pub endif-foul : (work : List ℕ) → e.text ≡ false → TurnRefused g src work sh at number taken closed 2
  endif-foul work f = turn-foul l work sh number taken closed f

  pub endif-more : (work : List ℕ) {b : Bool} {x : ℕ} → b ≡ eqb (length (operands (tokens_left g src p))) 0 → b ≡ false → x ≡ lower (2 unless e.text) 3
      → TurnRefused g src work sh at number taken closed x
  endif-more work a n y =
      let os = operands (tokens_left g src p) in
      let some : eqb (length os) 0 ≡ false = sym a ∙ n in
      turn-refused l work sh number taken closed
      (λ used cs s o. ap (λ (x : Outcome). lower (tokens_refusal os) x.refusal) (at-endif s number (bytes "endif") os refl) ∙ rw some (three-last os))
      y

  pub endif-ends : (work : List ℕ) {b : Bool} → b ≡ eqb (length (operands (tokens_left g src p))) 0 → b ≡ true → e.text ≡ true
      → EndsIs g src work sh at number taken closed work sh e.next e.feeds
  endif-ends work a b h =
      let os = operands (tokens_left g src p) in
      let none : eqb (length os) 0 ≡ true = sym a ∙ b in
      record {
        moves = line-moves l;
        turns = λ used cs s o. record {
          after = with_blocks s (blocks cs 0 s.blocks.toggles);
          outcome =
              l.whole s number o.inside
              ∙ ap (with_refusals e.text (tokens_refusal os))
              (at-endif s number (bytes "endif") os refl
              ∙ ap (λ (z : List Chain). gives (3 unless (eqb (length os) 0 && ltb 0 (length z))) (with_blocks s (blocks (drop 1 z) 0 s.blocks.toggles))) o.chains
              ∙ rw (none, lt-ltb 0 (length (chain taken used closed ∷ cs)) (omega arith)))
              ∙ with_none h (none-tokens os none);
          held = let on_line = (line-moves l).on in still g src work sh (chain taken used closed ∷ cs) cs at e.next s o l.inside (omega arith);
        };
      }
