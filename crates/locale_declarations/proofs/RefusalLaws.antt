-- Operands that a test decides; and of each line that takes operands, between which numbers its refusal is.
use mathlib.Core.Path.{◌≡◌, refl}
use mathlib.Core.Bool.{Bool, true, false, not, ◌&&◌}
use mathlib.Core.List.{List, [], ◌∷◌, map}
use Prim.Native.Nat.{ℕ}
use lib.ListN.{length}
use lib.Dec.{leb}
use Rattle.base_lists.proofs.Lists.{All}
use Rattle.rules.specs.Text.{within, every, ◌unless◌, lower, lowest}
use Rattle.rules.specs.Names.{code_of, is_char_name}
use Rattle.rules.specs.Tokens.{name, Token, token_at, the_name, single, tokens_refusal}
use Rattle.rules.specs.Declarations.{element_formed}
use Rattle.rules.specs.OrderLines.{rule_codes, rules_formed}
use Rattle.rules.proofs.RefusalLaws.{Bounded, bounded-lower, bounded-lowest, bounded-unless, bounded-tokens}
use Rattle.text_tokens.proofs.RefusalLaws.{lower-none-left, three-last}
use Rattle.locale_levels.specs.Levels.{start_refusal}
use Rattle.work_subjects.specs.Keys.{chars}
use Rattle.work_store.specs.Store.{Decl, known_in}
use Rattle.locale_symbols.specs.Symbols.{is_new_in, symbol_refusal}
use Rattle.locale_elements.specs.Element.{element_refusal}

-- ## Of a test

-- operands that do not pass it
pub tokens-three : (os : List Token) (t : Bool) → t ≡ false → lower (tokens_refusal os) (3 unless t) ≡ 3
tokens-three os t e = rw e (three-last os)

-- operands that do, of which none is refused
pub tokens_none : {r : ℕ} (t : Bool) → r ≡ 0 → t ≡ true → lower r (3 unless t) ≡ 0
tokens_none t e f = rw (e, f) (lower-none-left 0)

-- ## Of each keyword: none, or from 3 to 7

-- with the operands' own
pub bounded-operands : (os : List Token) (rs : List ℕ) → All (Bounded 3 7) rs → Bounded 3 7 (lower (tokens_refusal os) (lowest rs))
bounded-operands os rs h = bounded-lower 3 7 (tokens_refusal os) (lowest rs) (bounded-tokens os) (bounded-lowest 3 7 rs h)

pub bounded-start : (os : List Token) → Bounded 3 7 (start_refusal os)
unfolding start_refusal
bounded-start os =
    let formed = rules_formed false os in
    let known = every (leb 1) (rule_codes os) in
    let few = leb (length (rule_codes os)) 8 in
    bounded-operands os (3 unless formed ∷ 4 unless known ∷ 7 unless few ∷ [])
    (bounded-unless 3 7 3 formed refl, (bounded-unless 3 7 4 known refl, (bounded-unless 3 7 7 few refl, tt)))

pub bounded-symbol : (ds : List Decl) (os : List Token) → Bounded 3 7 (symbol_refusal ds os)
unfolding symbol_refusal
bounded-symbol ds os =
    let formed = single name os in
    let new = is_new_in ds (the_name (token_at os 0)) in
    bounded-operands os (3 unless formed ∷ 5 unless new ∷ []) (bounded-unless 3 7 3 formed refl, (bounded-unless 3 7 5 new refl, tt))

pub bounded-element : (ds : List Decl) (os : List Token) → Bounded 3 7 (element_refusal ds os)
unfolding element_refusal
bounded-element ds os =
    let ns = (token_at os 2).names in
    let cs = map code_of ns in
    let formed = element_formed os in
    let new = is_new_in ds (the_name (token_at os 0)) && not (every is_char_name ns && known_in (chars cs) ds) in
    let fit = every is_char_name ns in
    let few = within 2 4 (length cs) in
    bounded-operands os (3 unless formed ∷ 5 unless new ∷ 6 unless fit ∷ 7 unless few ∷ [])
    (bounded-unless 3 7 3 formed refl, (bounded-unless 3 7 5 new refl, (bounded-unless 3 7 6 fit refl, (bounded-unless 3 7 7 few refl, tt))))
