-- For callers: the line's refusal is the paper's, where what is declared in the area is what the paper has declared
-- (Rattle.locale_symbols.proofs.PaperLaws).
use mathlib.Core.Path.{◌≡◌, refl}
use mathlib.Core.Logic.{inr}
use mathlib.Core.Bool.{true, false, not, ◌&&◌}
use mathlib.Core.List.{List, [], ◌∷◌, map}
use lib.ListN.{length}
use Rattle.rules.specs.Text.{within, every, one_of, ◌unless◌, lower, lowest}
use Rattle.rules.specs.Names.{code_of, is_char_name}
use Rattle.rules.specs.Tokens.{Token, token_at, the_name, tokens_refusal}
use Rattle.rules.specs.State.{State}
use Rattle.rules.specs.Declarations.{declares_chars, is_new, may_declare, element_line}
use Rattle.rules.proofs.RefusalLaws.{bounded-lowest, bounded-unless}
use Rattle.work_store.specs.Store.{Decl}
use Rattle.locale_symbols.specs.Symbols.{Alike}
use Rattle.locale_symbols.proofs.UnfitLaws.{unfit-three}
use Rattle.locale_symbols.proofs.PaperLaws.{new-paper}
use Rattle.locale_elements.specs.Element.{element_refusal}

module _ (s : State) (os : List Token) where
  -- where a declaration may stand
  pub element-paper : (ds : List Decl) → Alike ds s.declared → may_declare s ≡ true
      → element_refusal ds os ≡ lower (tokens_refusal os) (element_line s os).refusal
  unfolding element_refusal element_line
  element-paper ds h p =
      rw (p, new-paper ds s.declared (the_name (token_at os 0)) h, h.elements (map code_of (token_at os 2).names))

  -- anywhere else
  pub element-misplaced : may_declare s ≡ false → lower (tokens_refusal os) (element_line s os).refusal ≡ 3
  unfolding element_line lowest
  element-misplaced p =
      let ns = (token_at os 2).names in
      let a = is_new s.declared (the_name (token_at os 0)) && not (every is_char_name ns && one_of (declares_chars (map code_of ns)) s.declared) in
      let b = every is_char_name ns in
      let c = within 2 4 (length (map code_of ns)) in
      rw p
      (unfit-three os false (lowest (5 unless a ∷ 6 unless b ∷ 7 unless c ∷ []))
      (bounded-lowest 3 7 (5 unless a ∷ 6 unless b ∷ 7 unless c ∷ []) (bounded-unless 3 7 5 a refl, (bounded-unless 3 7 6 b refl, (bounded-unless 3 7 7 c refl, tt))))
      (inr refl))
