-- The operand of a line that names a toggle, as the paper reads it (Rattle.rules.specs.Conditionals), and the toggles after the line.
use Rattle.std.specs.Prelude.{◌≡◌, ◌⊎◌, Bool, true, false, List, ℕ, ◌+◌, ◌≤◌, ◌<◌, length, get_or, Err, Ok, Result}
use Rattle.rules.specs.Text.{lower}
use Rattle.rules.specs.Lines.{in_plain}
use Rattle.rules.specs.Tokens.{Token, token_at, tokens_refusal}
use Rattle.rules.specs.State.{State}
use Rattle.rules.specs.Conditionals.{is_on, turned, toggle_refusal}
use Rattle.text_lines.specs.declared.Signs.{Signs}
use Rattle.text_lines.specs.declared.Spot.{Spot}
use Rattle.base_units.specs.declared.Refusal.{Refusal}
use Rattle.base_units.specs.Numbers.{number_of}
use Rattle.work_toggles.specs.Kept.{toggles_in, Kept}
use Rattle.locale_toggle.specs.declared.Set.{Set}
use Rattle.locale_toggle.specs.declared.Set.TheVariants as set

-- whether a toggle is defined after a line, where it was so before
abbrev pub set_to : Set → Bool → Bool
set_to set.On was = true
set_to set.Off was = false
set_to set.Keep was = was

-- The operands begin at p, after the line's first word, and toggles are kept from `base` on.
pub record MayName (g : Signs) (src work : List ℕ) (base n : ℕ) (p : Spot) : Type 0 where
  pub kept : Kept g src work base n
  pub mode : p.mode ≡ in_plain
  pub inside : p.at ≤ length src
  pub short : length src ≤ 1048576

-- a state of the paper that has the toggles of the area
abbrev pub Has : Signs → List ℕ → List ℕ → ℕ → ℕ → State → Type 0
Has g src work base n s = s.blocks.toggles ≡ toggles_in g src work base n

-- The operands os are one toggle: whether it was defined before, and the toggles after the line; the rest of the area is as before.
pub record NamedIs (g : Signs) (src work after : List ℕ) (base n : ℕ) (os : List Token) (set : Set) (was : Bool) (m : ℕ) : Type 0 where
  pub tokens : tokens_refusal os ≡ 0
  pub toggle : (s : State) → Has g src work base n s → toggle_refusal s os ≡ 0
  pub before : was ≡ is_on (token_at os 0).text (toggles_in g src work base n)
  pub toggles : toggles_in g src after base m ≡ turned (token_at os 0).text (set_to set was) (toggles_in g src work base n)
  pub kept : Kept g src after base m
  pub below : (i : ℕ) → i < base → get_or after i 0 ≡ get_or work i 0
  pub behind : (i : ℕ) → base + 32 ≤ i → get_or after i 0 ≡ get_or work i 0
  pub long : length after ≡ length work

-- The operands os are refused, malformed or by a limit; the area is as it was.
pub record RefusedIs (g : Signs) (src work after : List ℕ) (base n : ℕ) (os : List Token) (r : ℕ) : Type 0 where
  pub refusal : (s : State) → Has g src work base n s → lower (tokens_refusal os) (toggle_refusal s os) ≡ r
  pub which : (r ≡ 3) ⊎ (r ≡ 7)
  pub area : after ≡ work

abbrev pub ToggledIs : Signs → List ℕ → List ℕ → List ℕ → ℕ → ℕ → List Token → Set → Result (Bool × ℕ) Refusal → Type 0
ToggledIs g src work after base n os set (Ok (was, m)) = NamedIs g src work after base n os set was m
ToggledIs g src work after base n os set (Err r) = RefusedIs g src work after base n os (number_of r)
