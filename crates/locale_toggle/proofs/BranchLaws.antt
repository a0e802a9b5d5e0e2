-- The paper's five lines that name a toggle, from what `name_toggle` tells of their operand.
use Rattle.std.specs.Prelude.{if◌then◌else◌}
use mathlib.Core.Path.{◌≡◌, sym, ap, ◌∙◌}
use mathlib.Core.Logic.{◌⊎◌, inl, inr}
use mathlib.Core.Bool.{Bool, true, false, not, ◌&&◌, ◌||◌}
use mathlib.Core.List.{List, ◌∷◌}
use Prim.Native.Nat.{ℕ}
use lib.ListN.{length, drop}
use lib.Dec.{ltb}
use Rattle.rules.specs.Text.{lower, ◌unless◌}
use Rattle.rules.specs.Tokens.{Token, token_at, tokens_refusal}
use Rattle.rules.specs.State.{Chain, Toggle, State, with_blocks, Outcome, gives}
use Rattle.rules.specs.Conditionals.{is_on, turned, toggle_refusal, blocks, chain, inmost, define_line, if_line, elif_line}
use Rattle.text_lines.specs.declared.Signs.{Signs}
use Rattle.text_tokens.proofs.RefusalLaws.{lower-none-left, lower-none-right, lower-assoc, lower-swap}
use Rattle.work_toggles.specs.Kept.{toggles_in}
use Rattle.locale_toggle.specs.declared.Set.{Set}
use Rattle.locale_toggle.specs.Named.{set_to, Has, NamedIs, RefusedIs}

-- ## A toggle that is named

-- a state with these chains and toggles
abbrev state_with : State → List Chain → List Toggle → State
state_with s cs ts = with_blocks s (blocks cs 0 ts)

module _ {g : Signs} {src work after : List ℕ} {base n : ℕ} {os : List Token} {set : Set} {was : Bool} {m : ℕ}
    (v : NamedIs g src work after base n os set was m) (s : State) (h : Has g src work base n s) where
  -- the paper's toggles after the line
  toggles-after : {b : Bool} → set_to set was ≡ b → turned (token_at os 0).text b s.blocks.toggles ≡ toggles_in g src after base m
  toggles-after {b} e =
      ap (λ (x : List Toggle). turned (token_at os 0).text b x) h
      ∙ ap (λ (x : Bool). turned (token_at os 0).text x (toggles_in g src work base n)) (sym e)
      ∙ sym v.toggles

  was-on : is_on (token_at os 0).text s.blocks.toggles ≡ was
  was-on = ap (λ (x : List Toggle). is_on (token_at os 0).text x) h ∙ sym v.before

  -- define, undef
  pub define-named : (b : Bool) → set_to set was ≡ b → define_line s b os ≡ gives 0 (with_blocks s (blocks s.blocks.chains 0 (toggles_in g src after base m)))
  unfolding define_line
  define-named b e =
      ap (λ (x : ℕ). gives x (state_with s s.blocks.chains (turned (token_at os 0).text b s.blocks.toggles))) (v.toggle s h)
      ∙ ap (λ (x : List Toggle). gives 0 (state_with s s.blocks.chains x)) (toggles-after e)

  module _ (k : set_to set was ≡ was) where
    -- the outcome of a test, with what it makes of the toggle
    test_on : (f : ℕ → Bool → List Toggle → Outcome)
        → f (toggle_refusal s os) (is_on (token_at os 0).text s.blocks.toggles) (turned (token_at os 0).text (is_on (token_at os 0).text s.blocks.toggles) s.blocks.toggles)
        ≡ f 0 was (toggles_in g src after base m)
    test_on f =
        let t = (token_at os 0).text in
        let ts = s.blocks.toggles in
        ap (λ (x : ℕ). f x (is_on t ts) (turned t (is_on t ts) ts)) (v.toggle s h)
        ∙ ap (λ (x : Bool). f 0 x (turned t x ts)) was-on
        ∙ ap (λ (x : List Toggle). f 0 was x) (toggles-after k)

    -- ifdef, ifndef
    pub if-named : (wanted : Bool)
        → if_line s wanted os
        ≡ (let holds : Bool = if wanted then was else not was in
        gives (7 unless ltb (length s.blocks.chains) 8) (with_blocks s (blocks (chain holds holds false ∷ s.blocks.chains) 0 (toggles_in g src after base m))))
    unfolding if_line
    if-named wanted =
        let holds : Bool → Bool = λ on. if wanted then on else not on in
        let deep : ℕ = 7 unless ltb (length s.blocks.chains) 8 in
        test_on (λ r on ts. gives (lower r deep) (state_with s (chain (holds on) (holds on) false ∷ s.blocks.chains) ts))
        ∙ ap (λ (x : ℕ). gives x (state_with s (chain (holds was) (holds was) false ∷ s.blocks.chains) (toggles_in g src after base m))) (lower-none-left deep)

    pub elif-named : elif_line s os
        ≡ gives (3 unless not (inmost s).closed)
        (with_blocks s (blocks (chain ((inmost s).taken || was) (not (inmost s).taken && was) false ∷ drop 1 s.blocks.chains) 0 (toggles_in g src after base m)))
    unfolding elif_line
    elif-named =
        let c : Chain = inmost s in
        let shut : ℕ = 3 unless not c.closed in
        let cs : Bool → List Chain = λ on. chain (c.taken || on) (not c.taken && on) false ∷ drop 1 s.blocks.chains in
        test_on (λ r on ts. gives (lower shut r) (state_with s (cs on) ts))
        ∙ ap (λ (x : ℕ). gives x (state_with s (cs was) (toggles_in g src after base m))) (lower-none-right shut)

-- ## An operand that is refused

-- a limit of the line adds nothing to a refusal of the operand
limit-adds-none : (r : ℕ) (t : Bool) → (r ≡ 3) ⊎ (r ≡ 7) → lower r (7 unless t) ≡ r
unfolding lower
limit-adds-none r true (inl e) = rw e
limit-adds-none r false (inl e) = rw e
limit-adds-none r true (inr e) = rw e
limit-adds-none r false (inr e) = rw e

-- a refusal of the place stands before or behind those of the tokens
lower-moves : (a b c : ℕ) → lower a (lower b c) ≡ lower b (lower a c)
lower-moves a b c = sym (lower-assoc a b c) ∙ ap (λ (x : ℕ). lower x c) (lower-swap a b) ∙ lower-assoc b a c

module _ {g : Signs} {src work after : List ℕ} {base n : ℕ} {os : List Token} {r : ℕ}
    (v : RefusedIs g src work after base n os r) (s : State) (h : Has g src work base n s) where
  pub define-refused : (b : Bool) → lower (tokens_refusal os) (define_line s b os).refusal ≡ r
  unfolding define_line
  define-refused b = v.refusal s h

  pub if-refused : (wanted : Bool) → lower (tokens_refusal os) (if_line s wanted os).refusal ≡ r
  unfolding if_line
  if-refused wanted =
      let t : Bool = ltb (length s.blocks.chains) 8 in
      sym (lower-assoc (tokens_refusal os) (toggle_refusal s os) (7 unless t))
      ∙ ap (λ (x : ℕ). lower x (7 unless t)) (v.refusal s h)
      ∙ limit-adds-none r t v.which

  pub elif-refused : lower (tokens_refusal os) (elif_line s os).refusal ≡ lower (3 unless not (inmost s).closed) r
  unfolding elif_line
  elif-refused =
      lower-moves (tokens_refusal os) (3 unless not (inmost s).closed) (toggle_refusal s os)
      ∙ ap (λ (x : ℕ). lower (3 unless not (inmost s).closed) x) (v.refusal s h)
