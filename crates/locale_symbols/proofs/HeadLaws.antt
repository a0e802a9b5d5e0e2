-- The first operand of a line: whether it is a name, and that its bytes and its `>` stand between the spots that are given.
use Rattle.std.specs.Prelude.{None, Option, Some}
use mathlib.Core.Path.{◌≡◌, refl, sym, ap, ◌∙◌, subst}
use mathlib.Core.Logic.{inl, inr}
use mathlib.Core.Bool.{false}
use mathlib.Core.List.{List, [], ◌∷◌, ◌++◌}
use Prim.Native.Nat.{ℕ, ◌+◌, ◌≤◌, ◌<◌}
use native.Mathlib.Omega.{arith}
use lib.ListN.{length}
use lib.Dec.{eqb}
use borrow.Author.Tests.{eqb-false, ne_eqb}
use Rattle.base_lists.proofs.Bools.{by}
use Rattle.rules.specs.Lines.{in_plain, in_name}
use Rattle.rules.specs.Tokens.{name, Token, token_at, operands}
use Rattle.text_lines.specs.declared.Signs.{Signs}
use Rattle.text_lines.specs.declared.Spot.{Spot}
use Rattle.text_lines.specs.Stream.{marks_left, mode_through, Walk}
use Rattle.text_lines.proofs.LineLaws.{run-marks, run_end}
use Rattle.text_lines.proofs.ByteLaws.{after-name}
use Rattle.text_tokens.specs.declared.Tok.{Tok}
use Rattle.text_tokens.specs.Left.{is_close, name_in, tokens_left, token_there}
use Rattle.text_operands.specs.declared.Operand.{Operand}
use Rattle.text_operands.specs.declared.Operand.TheVariants as operand
use Rattle.text_operands.specs.declared.After.{After}
use Rattle.text_operands.specs.declared.After.TheVariants as after
use Rattle.text_operands.specs.Operand.{operands_left, OperandAt, OperandIs, OperandsFrom, AfterIs}
use Rattle.locale_symbols.specs.Symbols.{Unfit, NameFirst, HeadIs}

-- ## How far a walk goes

-- no shorter than its marks
pub walk-long : {g : Signs} {src : List ℕ} {p q : Spot} (w : Walk g src p q) → p.at + length w.passed ≤ q.at
walk-long w = omega (arith, w.run.few, w.run.moved)

mode-changed : {m n : ℕ} (ps : List ℕ) → n ≡ mode_through m ps → (n ≡ m → ⊥) → 1 ≤ length ps
mode-changed [] e h = absurd (h e)
mode-changed (p ∷ ps) e h = omega arith

-- where the mode changes a mark is read
pub walk-on : {g : Signs} {src : List ℕ} {p q : Spot} → Walk g src p q → (q.mode ≡ p.mode → ⊥) → p.at < q.at
walk-on w h = omega (arith, walk-long w, mode-changed w.passed w.run.mode h)

-- marks that lead out of a name are its bytes and its `>` at least
name-marks : (ps rest : List ℕ) → 0 ≡ mode_through 1 ps → length (name_in (ps ++ rest)) < length ps
unfolding name_in
name-marks [] rest e = absurd (omega arith)
name-marks (p ∷ ps) rest e =
    by (is_close p) (λ t. rw t (omega arith))
    (λ t. let n = after-name {mode = 1} {b = p} refl (eqb-false p 62 t) in
    let r = name-marks ps rest (e ∙ ap (λ (m : ℕ). mode_through m ps) (sym n)) in
    rw t (omega arith))

pub name-long : {g : Signs} {src : List ℕ} {i e : Spot} → Walk g src i e → i.mode ≡ in_name → e.mode ≡ in_plain
    → i.at + length (name_in (marks_left g src i)) < e.at
name-long {g} {src} {i} {e} w h k =
    let l = name-marks w.passed (marks_left g src e) (sym k ∙ w.run.mode ∙ ap (λ (m : ℕ). mode_through m w.passed) h) in
    rw (run-marks g src i w.run) (omega (arith, l, walk-long w))

-- ## The next operand

module _ (g : Signs) (src : List ℕ) (x : Spot) {o : Operand} (v : OperandIs g src false x o) where
  pub head-end : o ≡ operand.End → Unfit (operands_left g src false x) (eqb (token_at (operands_left g src false x) 0).kind name)
  head-end e = let z : operands_left g src false x ≡ [] = subst (OperandIs g src false x) e v in inr (rw z)

  pub head-broken : o ≡ operand.Broken → Unfit (operands_left g src false x) (eqb (token_at (operands_left g src false x) 0).kind name)
  head-broken e = inl (subst (OperandIs g src false x) e v)

  module _ {q : Spot} {t : Tok} (e : o ≡ operand.Token q t) where
    at : OperandAt g src false x q t
    at = subst (OperandIs g src false x) e v

    pub head-other : (t.kind ≡ 5 → ⊥) → Unfit (operands_left g src false x) (eqb (token_at (operands_left g src false x) 0).kind name)
    head-other h = inr (rw (at.first, at.token.kind) (ne_eqb t.kind 5 h))

    pub head-name : t.kind ≡ 5 → NameFirst g src x (operands_left g src false x) t.inside t.next
    head-name k =
        let m = at.token.name-mode k in
        record {
          token = token_there g src q;
          first = at.first ∙ rw k;
          kind = at.token.kind ∙ k;
          names = at.token.name k;
          mode = m;
          after = at.token.plain;
          behind = omega (arith, at.from, walk-on at.token.enter (λ z. omega (arith, m, at.mode)));
          long = name-long at.token.leave m at.token.plain;
          end = run_end g src x at.walk.run ∙ run_end g src q at.token.walk.run;
          to = at.token.to;
        }

-- ## After the first token

module _ (g : Signs) (src : List ℕ) (p : Spot) {a : After} (v : AfterIs g src p a) where
  pub first-none : a ≡ after.None → Unfit (operands (tokens_left g src p)) (eqb (token_at (operands (tokens_left g src p)) 0).kind name)
  first-none e = let z : operands (tokens_left g src p) ≡ [] = subst (AfterIs g src p) e v in inr (rw z)

  pub first-broken : a ≡ after.Broken → Unfit (operands (tokens_left g src p)) (eqb (token_at (operands (tokens_left g src p)) 0).kind name)
  first-broken e = inr (rw (subst (AfterIs g src p) e v))

  module _ {x : Spot} (e : a ≡ after.Operands x) where
    from : OperandsFrom g src p x
    from = subst (AfterIs g src p) e v

    pub first_to : x.at ≤ length src
    first_to = from.to

    pub first-mode : x.mode ≡ in_plain
    first-mode = from.mode

    nearer : (os : List Token) (h : Option (Spot × Spot)) → HeadIs g src x os h → HeadIs g src p os h
    nearer os (Some (i, y)) n =
        record {
          token = n.token;
          first = n.first;
          kind = n.kind;
          names = n.names;
          mode = n.mode;
          after = n.after;
          behind = omega (arith, n.behind, from.from);
          long = n.long;
          end = run_end g src p from.walk.run ∙ n.end;
          to = n.to;
        }
    nearer os None n = n

    pub first-from : (h : Option (Spot × Spot)) → HeadIs g src x (operands_left g src false x) h → HeadIs g src p (operands (tokens_left g src p)) h
    first-from h n = nearer (operands (tokens_left g src p)) h (subst (λ (os : List Token). HeadIs g src x os h) (sym from.operands) n)
