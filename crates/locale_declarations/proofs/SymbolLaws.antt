-- collating-symbol: what it does where it may stand.
use Rattle.base_units.specs.declared.Refusal.{Refusal}
use Rattle.std.specs.Prelude.{Err, Ok, Result, ℕ}
use mathlib.Core.Path.{◌≡◌, refl, ap, ◌∙◌, subst}
use mathlib.Core.Bool.{Bool, true}
use mathlib.Core.List.{List, [], ◌∷◌}
use Prim.Native.Nat.{ℕ, ◌+◌, ◌/◌, ◌≤◌}
use native.Mathlib.Omega.{arith}
use lib.ListN.{length}
use Rattle.rules.specs.Text.{bytes, ◌unless◌, lowest}
use Rattle.rules.specs.Tokens.{name, Token, token_at, the_name, single, tokens_refusal}
use Rattle.rules.specs.State.{symbol, named}
use Rattle.rules.specs.Declarations.{symbol_line}
use Rattle.rules.proofs.TextLaws.{lower-none, lowest-unless}
use Rattle.text_lines.specs.declared.Signs.{Signs}
use Rattle.text_lines.specs.declared.Spot.{Spot}
use Rattle.text_lines.specs.declared.LineEnd.{LineEnd}
use Rattle.work_subjects.specs.Keys.{Key, item, key_at}
use Rattle.work_subjects.specs.Numbers.{is_declarable, kind_of}
use Rattle.work_store.specs.Store.{Decl, known_in, above_of, Declares}
use Rattle.locale_sheet.proofs.NewLaws.{name-above, declared-older, known-symbol-new}
use Rattle.locale_symbols.specs.Symbols.{is_new_in, operands_after, symbol_refusal, SymbolAt, SymbolIs}
use Rattle.locale_symbols.proofs.PaperLaws.{symbol-paper, symbol-misplaced}
use Rattle.locale_opening.proofs.KeywordLaws.{at_symbol}
use Rattle.locale_sheet.specs.declared.Sheet.{Sheet}
use Rattle.locale_sheet.specs.declared.Step.TheVariants.{Next}
use Rattle.locale_declarations.specs.Worded.{Opened, Writes}
use Rattle.locale_declarations.proofs.RefusalLaws.{bounded-symbol}
use Rattle.locale_declarations.proofs.DeclaringLaws.{first-none, new-unknown, first-declarable, may, Declaring, accepted-step}

-- what is accepted is new, and can be declared
symbol-new : (ds : List Decl) (os : List Token) → symbol_refusal ds os ≡ 0 → (is_new_in ds (the_name (token_at os 0)) ≡ true) × (is_declarable (item (named (the_name (token_at os 0)))) ≡ true)
unfolding symbol_refusal
symbol-new ds os h =
    let new = is_new_in ds (the_name (token_at os 0)) in
    let a = lower-none (tokens_refusal os) (lowest (3 unless single name os ∷ 5 unless new ∷ [])) h in
    let b = (lowest-unless 3 (single name os) (5 unless new ∷ []) (omega arith) a.1).1 in
    ((lowest-unless 5 new [] (omega arith) b).0, first-declarable os a.0)

pub symbol-declaring : Declaring "collating-symbol" symbol_line (λ os. symbol (the_name (token_at os 0))) symbol_refusal SymbolIs Err
unfolding bytes symbol_line
symbol-declaring = record {
  collate = λ s number os. at_symbol s number (bytes "collating-symbol") os refl;
  long = omega arith;
  state = λ s os. refl;
  paper = symbol-paper;
  misplaced = symbol-misplaced;
  told = λ a. a.0.refusal;
}

module _ (g : Signs) (src : List ℕ) (at : ℕ) (p : Spot) (e : LineEnd) (l : Opened g src at p e "collating-symbol")
    (w w' : List ℕ) (sh : Sheet) {t : Bool} (j : t ≡ may sh) (f : t ≡ true) (x : e.text ≡ true) {y : Result ℕ Refusal} (a : SymbolIs g src p w w' y) where
  pub symbol-done : {v : ℕ} → y ≡ Ok v → Writes g src w sh at w' (Ok (Next sh e.next e.feeds))
  symbol-done {v} z =
      let b : SymbolAt g src p w v = (subst (SymbolIs g src p w w') z a).0 in
      let c : Declares (key_at g src) (length src) w v w' = (subst (SymbolIs g src p w w') z a).1 in
      accepted-step symbol-declaring g src at p e l w sh w' j f x v v b.refusal b.mark.behind b.mark.room c.long c.beyond (λ cs s o r i.
      let k = o.known in
      let m = the_name (token_at (operands_after g src p) 0) in
      let new = symbol-new k.ds (operands_after g src p) i in
      let above = name-above b.mark.key in
      let room : o.n + above_of (kind_of (key_at g src v)) ≤ v / 16 = omega (arith, r, above) in
      let can = ap is_declarable b.mark.key ∙ new.1 in
      let none = first-none (key_at g src v) k.ds (ap (λ (q : Key). known_in q k.ds) b.mark.key ∙ new-unknown k.ds m new.0) in
      let some : 1 ≤ v = let y = b.mark.behind in omega (arith, y) in (
        known-symbol-new g src w sh.order s.ordered.rules o.n s.declared s.ordered.lines k v w' c room b.mark.within can none some m b.mark.key,
        declared-older g src w sh.order s.ordered.rules o.n s.declared s.ordered.lines k v w' c room b.mark.within can none some,
      ))
