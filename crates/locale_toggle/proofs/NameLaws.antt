-- The ways of `name_toggle`: no single word, a word that is refused, a toggle that is turned.
use Rattle.std.specs.Prelude.{None, Option, Some}
use mathlib.Core.Path.{◌≡◌, refl, sym, ap, ◌∙◌, subst}
use mathlib.Core.Logic.{◌⊎◌, inl, inr}
use mathlib.Core.Bool.{Bool, true, ◌&&◌}
use mathlib.Core.List.{List}
use Prim.Native.Nat.{ℕ, ◌≤◌}
use lib.ListN.{length}
use lib.Dec.{leb}
use Rattle.base_lists.proofs.Bools.{by}
use Rattle.rules.specs.Text.{every, lower, lowest}
use Rattle.rules.specs.Tokens.{Token, token_at, operands, tokens_refusal}
use Rattle.rules.specs.State.{State, Toggle}
use Rattle.rules.specs.Conditionals.{is_toggle_byte, is_on, turned, toggle_refusal}
use Rattle.text_lines.specs.declared.Signs.{Signs}
use Rattle.text_lines.specs.declared.Spot.{Spot}
use Rattle.text_lines.specs.Stream.{line_start}
use Rattle.text_tokens.specs.Left.{tokens_left}
use Rattle.text_tokens.proofs.RefusalLaws.{lower-none-left, three-last}
use Rattle.text_operands.specs.Operand.{WordAlone, OneIs}
use Rattle.text_operands.proofs.LineLaws.{spot-start, word-single, word-text, word-unrefused}
use Rattle.work_toggles.specs.Kept.{word_left, toggles_in, Proper, Kept, is_free, refusal_for, MayTurn, Turned}
use Rattle.work_toggles.proofs.RefusalLaws.{paper-refusal, paper-foul, refusal-free, refusal-proper}
use Rattle.locale_toggle.specs.declared.Set.{Set}
use Rattle.locale_toggle.specs.Named.{set_to, MayName, Has, NamedIs, RefusedIs}

-- ## Refusals

-- a word that is refused is malformed or meets a limit
which-refusal : (w : List ℕ) (known : List Toggle) → (refusal_for w known ≡ 0 → ⊥) → (refusal_for w known ≡ 3) ⊎ (refusal_for w known ≡ 7)
unfolding refusal_for lowest lower
which-refusal w known =
    by (every is_toggle_byte w)
    (λ e. by (leb (length w) 32 && is_free w known) (λ f. rw (e, f) (λ n. absurd (n refl))) (λ f. rw (e, f) (λ n. inr refl)))
    (λ e. by (leb (length w) 32 && is_free w known) (λ f. rw (e, f) (λ n. inl refl)) (λ f. rw (e, f) (λ n. inl refl)))

module _ (g : Signs) (src : List ℕ) (os : List Token) {o : Option Spot} (v : OneIs g src os o) where
  -- any other operands than one word
  pub no_word : {work : List ℕ} {base n : ℕ} → o ≡ None → RefusedIs g src work work base n os 3
  no_word e =
      record {
        refusal = λ s h. ap (λ (x : ℕ). lower (tokens_refusal os) x) (paper-foul s os (subst (OneIs g src os) e v)) ∙ three-last os;
        which = inl refl;
        area = refl;
      }

  module _ {q : Spot} (e : o ≡ Some q) where
    alone : WordAlone g src os q
    alone = subst (OneIs g src os) e v

    -- the spot of the word is that of its place
    at-start : q ≡ line_start q.at
    at-start = spot-start q alone.mode alone.fresh

    here : (token_at os 0).text ≡ word_left g src (line_start q.at)
    here = word-text alone ∙ ap (λ (x : Spot). word_left g src x) at-start

    module _ (work : List ℕ) (base n : ℕ) {r : ℕ} (f : r ≡ refusal_for (word_left g src q) (toggles_in g src work base n)) where
      paper : (s : State) → Has g src work base n s → toggle_refusal s os ≡ r
      paper s h = paper-refusal s os (word_left g src q) (toggles_in g src work base n) (word-single alone) (word-text alone) h ∙ sym f

      pub word-refused : (r ≡ 0 → ⊥) → RefusedIs g src work work base n os r
      word-refused z =
          record {
            refusal = λ s h. ap (λ (x : ℕ). lower x (toggle_refusal s os)) (word-unrefused alone) ∙ lower-none-left (toggle_refusal s os) ∙ paper s h;
            which =
                subst (λ (x : ℕ). (x ≡ 3) ⊎ (x ≡ 7)) (sym f)
                (which-refusal (word_left g src q) (toggles_in g src work base n) (λ y. z (f ∙ y)));
            area = refl;
          }

      module _ (z : r ≡ 0) where
        free-here : is_free (word_left g src (line_start q.at)) (toggles_in g src work base n) ≡ true
        free-here =
            ap (λ (x : Spot). is_free (word_left g src x) (toggles_in g src work base n)) (sym at-start)
            ∙ refusal-free (word_left g src q) (toggles_in g src work base n) (sym f ∙ z)

        proper-here : Proper (word_left g src (line_start q.at))
        proper-here = subst (λ (x : Spot). Proper (word_left g src x)) at-start (refusal-proper (word_left g src q) (toggles_in g src work base n) (sym f ∙ z))

        pub word-named : {after : List ℕ} {m : ℕ} {set : Set} {was on : Bool} → was ≡ is_on (word_left g src q) (toggles_in g src work base n) → on ≡ set_to set was
            → Turned g src work after base n m q.at on → NamedIs g src work after base n os set was m
        word-named {after} {m} {set} {was} {on} w k t =
            record {
              tokens = word-unrefused alone;
              toggle = λ s h. paper s h ∙ z;
              before = w ∙ ap (λ (x : List ℕ). is_on x (toggles_in g src work base n)) (sym (word-text alone));
              toggles =
                  t.toggles
                  ∙ ap (λ (x : List ℕ). turned x on (toggles_in g src work base n)) (sym here)
                  ∙ ap (λ (x : Bool). turned (token_at os 0).text x (toggles_in g src work base n)) k;
              kept = t.kept;
              below = t.before;
              behind = t.behind;
              long = t.long;
            }

-- ## What the callees ask

module _ (g : Signs) {src work : List ℕ} {base n : ℕ} {p : Spot} (m : MayName g src work base n p) (q : Spot) {o : Option Spot}
    (v : OneIs g src (operands (tokens_left g src p)) o) (e : o ≡ Some q) where
  -- the toggle may be looked up
  pub word_kept : Kept g src work base n × (q.at ≤ length src)
  word_kept = (m.kept, (alone g src (operands (tokens_left g src p)) v e).to)

  -- and turned, where it is not refused
  pub word-turns : {r : ℕ} → r ≡ refusal_for (word_left g src q) (toggles_in g src work base n) → r ≡ 0 → MayTurn g src work base n q.at
  word-turns f z =
      let os = operands (tokens_left g src p) in
      record {
        kept = m.kept;
        inside = word_kept.1;
        proper = proper-here g src os v e work base n f z;
        short = m.short;
        free = free-here g src os v e work base n f z;
      }
