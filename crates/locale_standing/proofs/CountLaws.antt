-- The operands one after the other: their lowest refusal, and how many they are.
use Rattle.std.specs.Prelude.{None, Option, Some}
use mathlib.Core.Path.{◌≡◌, refl, sym, ap, ◌∙◌, subst}
use mathlib.Core.Bool.{Bool, true, false, false≢true}
use mathlib.Core.List.{List, [], ◌∷◌}
use Prim.Native.Nat.{ℕ, ◌+◌, ◌-◌, ◌≤◌, ◌<◌}
use native.Mathlib.Omega.{arith}
use lib.ListN.{length}
use lib.Dec.{eqb}
use borrow.Author.Tests.{eqb-true}
use Rattle.base_lists.proofs.Lists.{length-zero}
use Rattle.rules.specs.Text.{lower}
use Rattle.rules.specs.Lines.{in_plain}
use Rattle.rules.specs.Tokens.{broken, Token, token, operands, tokens_refusal}
use Rattle.rules.specs.State.{Declaration, Subject}
use Rattle.rules.specs.OrderLines.{split_at, operand_list, stands, weights_refusal}
use Rattle.base_units.specs.declared.Refusal.{Refusal}
use Rattle.base_units.specs.declared.Refusal.TheVariants.{Malformed}
use Rattle.base_units.specs.Numbers.{number_or_none}
use Rattle.text_lines.specs.declared.Signs.{Signs}
use Rattle.text_lines.specs.declared.Spot.{Spot}
use Rattle.text_tokens.specs.Left.{tokens_left}
use Rattle.text_tokens.proofs.RefusalLaws.{lower-none-left, lower-assoc, three-left, refusal-broken}
use Rattle.text_operands.specs.declared.After.{After}
use Rattle.text_operands.specs.declared.After.TheVariants as after
use Rattle.text_operands.specs.Operand.{operands_left, OperandsFrom, AfterIs}
use Rattle.locale_weights.specs.Weights.{weights_refusal_by}
use Rattle.locale_weights.proofs.RefusalLaws.{bounded-weights, weights-none}
use Rattle.locale_weights.proofs.ByLaws.{weights-alike, weights-paper}
use Rattle.work_subjects.specs.Keys.{key_at}
use Rattle.work_store.specs.Store.{Decl, Holds}
use Rattle.locale_standing.specs.Standing.{stands_in}
use Rattle.locale_standing.specs.declared.Turn.{Turn}
use Rattle.locale_standing.specs.declared.Turn.TheVariants as turn
use Rattle.locale_standing.specs.declared.Counted.{Counted}
use Rattle.locale_standing.specs.Refusing.{refusal_of, many_of, MoreRefusals, LastRefusal, BadRefusal, TurnIs, Counts}

-- n operands are passed from p to q; `refusal` is their lowest.
pub record Counting (g : Signs) (src w : List ℕ) (p q : Spot) (refusal n : ℕ) : Type 0 where
  pub rest : (m : ℕ) (ds : List Decl) → Holds (key_at g src) (length src) w m ds
      → refusal_of (stands_in ds) (operands_left g src false p) ≡ lower refusal (refusal_of (stands_in ds) (operands_left g src false q))
  pub many : many_of (operands_left g src false p) ≡ n + many_of (operands_left g src false q)
  pub bound : lower refusal 3 ≡ 3
  pub moved : n ≤ q.at
  pub mode : q.mode ≡ in_plain
  pub to : q.at ≤ length src

pub counting-none : (g : Signs) (src w : List ℕ) (p : Spot) → p.at ≤ length src → p.mode ≡ in_plain → Counting g src w p p 0 0
counting-none g src w p h m =
    record {
      rest = λ n ds k. sym (lower-none-left (refusal_of (stands_in ds) (operands_left g src false p)));
      many = omega arith;
      bound = lower-none-left 3;
      moved = omega arith;
      mode = m;
      to = h;
    }

module _ (g : Signs) (src w : List ℕ) (p q : Spot) (refusal n : ℕ) (v : Counting g src w p q refusal n) {s : Turn} (a : TurnIs g src w q s) where
  module _ {f : Option Refusal} {d : Spot} (e : s ≡ turn.More f d) where
    more : MoreRefusals g src w q (number_or_none f) d
    more = subst (TurnIs g src w q) e a

    pub counting-less : length src - d.at < length src - q.at
    counting-less = let x = more.less in let y = more.to in omega arith

    pub counting_more : {r : ℕ} → r ≡ lower refusal (number_or_none f) → Counting g src w p d r (n + 1)
    counting_more {r} k =
        record {
          rest = λ m ds h.
              v.rest m ds h
              ∙ ap (λ (x : ℕ). lower refusal x) (more.refusal m ds h)
              ∙ sym (lower-assoc refusal (number_or_none f) (refusal_of (stands_in ds) (operands_left g src false d)))
              ∙ ap (λ (x : ℕ). lower x (refusal_of (stands_in ds) (operands_left g src false d))) (sym k);
          many = (let x = v.many in let y = more.many in omega arith);
          bound = ap (λ (x : ℕ). lower x 3) k ∙ lower-assoc refusal (number_or_none f) 3 ∙ ap (λ (x : ℕ). lower refusal x) more.bound ∙ v.bound;
          moved = (let x = v.moved in let y = more.less in omega arith);
          mode = more.mode;
          to = more.to;
        }

  pub counting-last : {f r : Option Refusal} → s ≡ turn.Last f → number_or_none r ≡ lower refusal (number_or_none f)
      → Counts g src w (operands_left g src false p) (split_at [] (operands_left g src false p)) (record { refusal = r; operands = n + 1 })
  unfolding refusal_of many_of
  counting-last {f} {r} e k =
      let z : LastRefusal g src w q (number_or_none f) = subst (TurnIs g src w q) e a in
      record {
        refusal = λ m ds h. k ∙ sym (v.rest m ds h ∙ ap (λ (x : ℕ). lower refusal x) (z.refusal m ds h));
        many = λ u. sym (v.many ∙ ap (λ (x : ℕ). n + x) z.many);
      }

  pub counting-bad : s ≡ turn.Bad
      → Counts g src w (operands_left g src false p) (split_at [] (operands_left g src false p)) (record { refusal = Some Malformed; operands = n })
  unfolding refusal_of
  counting-bad e =
      let z : BadRefusal g src w q = subst (TurnIs g src w q) e a in
      record {
        refusal = λ m ds h. sym (v.rest m ds h ∙ ap (λ (x : ℕ). lower refusal x) (z.refusal m ds h) ∙ v.bound);
        many = λ u. absurd (u refl);
      }

-- ## A whole line

module _ (g : Signs) (src w : List ℕ) where
  none : (os : List Token) → os ≡ [] → Counts g src w os (operand_list os) (record { refusal = None; operands = 0 })
  unfolding tokens_refusal lower
  none os e =
      record {
        refusal = λ m ds h. sym (ap (λ (ts : List Token). lower (tokens_refusal ts) (weights_refusal_by (stands_in ds) (operand_list ts))) e ∙ weights-none (stands_in ds));
        many = λ u. sym (ap (λ (ts : List Token). length (operand_list ts)) e);
      }

  malformed : (os : List Token) → os ≡ token broken [] [] ∷ [] → Counts g src w os (operand_list os) (record { refusal = Some Malformed; operands = 0 })
  malformed os e =
      record {
        refusal = λ m ds h.
            let ws = operand_list os in
            sym (ap (λ (r : ℕ). lower r (weights_refusal_by (stands_in ds) ws)) (ap tokens_refusal e ∙ refusal-broken (token broken [] []) [] refl)
            ∙ three-left (weights_refusal_by (stands_in ds) ws) (bounded-weights (stands_in ds) ws));
        many = λ u. absurd (u refl);
      }

  listed : (os : List Token) → eqb (length os) 0 ≡ false → split_at [] os ≡ operand_list os
  listed [] h = absurd (false≢true (sym h))
  listed (t ∷ ts) h = refl

  module _ (p : Spot) {a : After} (v : AfterIs g src p a) where
    pub counts-none : a ≡ after.None → Counts g src w (operands (tokens_left g src p)) (operand_list (operands (tokens_left g src p))) (record { refusal = None; operands = 0 })
    counts-none e = none (operands (tokens_left g src p)) (subst (AfterIs g src p) e v)

    pub counts-malformed : a ≡ after.Broken → Counts g src w (operands (tokens_left g src p)) (operand_list (operands (tokens_left g src p))) (record { refusal = Some Malformed; operands = 0 })
    counts-malformed e = malformed (operands (tokens_left g src p)) (subst (AfterIs g src p) e v)

    from : {x : Spot} → a ≡ after.Operands x → OperandsFrom g src p x
    from e = subst (AfterIs g src p) e v

    pub counts-to : {x : Spot} → a ≡ after.Operands x → x.at ≤ length src
    counts-to e = (from e).to

    pub counts-mode : {x : Spot} → a ≡ after.Operands x → x.mode ≡ in_plain
    counts-mode e = (from e).mode

    module _ {x : Spot} (e : a ≡ after.Operands x) {b : Bool} (f : b ≡ eqb (length (operands_left g src false x)) 0) where
      pub counts-empty : b ≡ true → Counts g src w (operands (tokens_left g src p)) (operand_list (operands (tokens_left g src p))) (record { refusal = None; operands = 0 })
      counts-empty k =
          let os = operands_left g src false x in
          none (operands (tokens_left g src p)) ((from e).operands ∙ length-zero os (eqb-true (length os) 0 (sym f ∙ k)))

      pub counts-from : (r : Counted) → b ≡ false → Counts g src w (operands_left g src false x) (split_at [] (operands_left g src false x)) r
          → Counts g src w (operands (tokens_left g src p)) (operand_list (operands (tokens_left g src p))) r
      counts-from r k z =
          let os = operands_left g src false x in
          subst (λ (ts : List Token). Counts g src w ts (operand_list ts) r) (sym (from e).operands)
          (subst (λ (ws : List (List Token)). Counts g src w os ws r) (listed os (sym f ∙ k)) z)

-- ## For callers: as the paper says it

-- where what stands is the same, the refusal of operands is the paper's
pub refusal-paper : (ds : List Decl) (declared : List Declaration) → ((x : Subject) → stands_in ds x ≡ stands declared x) → (ws : List (List Token))
    → weights_refusal_by (stands_in ds) ws ≡ weights_refusal declared ws
refusal-paper ds declared e ws = weights-alike (stands_in ds) (stands declared) e ws ∙ weights-paper declared ws
