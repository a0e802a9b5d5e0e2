-- Refusals of an order line: none, or from 3 to 7, and 2 for bytes that are no text; and what a line with none has passed.
use mathlib.Core.Path.{◌≡◌, refl, subst}
use mathlib.Core.Bool.{Bool, true, false, not, ◌&&◌, ◌||◌}
use mathlib.Core.List.{List, [], ◌∷◌}
use Prim.Native.Nat.{ℕ}
use native.Mathlib.Omega.{arith}
use lib.ListN.{length}
use lib.Dec.{eqb, leb, ltb}
use borrow.Author.Tests.{not-true}
use Rattle.base_lists.proofs.Bools.{and_left, and_right}
use Rattle.rules.specs.Text.{◌unless◌, lower}
use Rattle.rules.specs.Tokens.{Token}
use Rattle.rules.specs.State.{in_order, in_block, Declaration, Subject, State, in_phase}
use Rattle.rules.specs.OrderLines.{stands, is_symbol, taken_out, again, weights_refusal, operand_list, order_line}
use Rattle.rules.proofs.TextLaws.{lowest-none, lowest-unless}
use Rattle.rules.proofs.RefusalLaws.{Bounded, bounded-lower, bounded-lowest, bounded-unless, bounded-wider}
use Rattle.locale_weights.proofs.RefusalLaws.{bounded-weights}
use Rattle.locale_weights.proofs.ByLaws.{weights-paper}

-- ## The range

-- a line, whether it has bytes that are no text or not
pub bounded-line : (text : Bool) (r : ℕ) → Bounded 3 7 r → Bounded 2 7 (lower (2 unless text) r)
bounded-line text r h = bounded-lower 2 7 (2 unless text) r (bounded-unless 2 7 2 text refl) (bounded-wider 3 7 r h 2 7 (omega arith) (omega arith))

pub bounded-operands : (ds : List Declaration) (ws : List (List Token)) → Bounded 3 7 (weights_refusal ds ws)
bounded-operands ds ws = subst (Bounded 3 7) (weights-paper ds ws) (bounded-weights (stands ds) ws)

-- ## Order lines

module _ (s : State) (number : ℕ) (x : Subject) (os : List Token) where
  pub bounded-order : Bounded 3 7 (order_line s number x os).refusal
  unfolding order_line
  bounded-order =
      let ws = operand_list os in
      let a = (in_phase in_order s || in_phase in_block s) && (eqb (length os) 0 || not (is_symbol s.declared x)) in
      let b = not (again s.ordered.block x s.ordered.lines) in
      let c = stands s.declared x in
      let d = leb (length ws) (length s.ordered.rules) && ltb (length (taken_out x s.ordered.lines)) 32767 in
      bounded-lowest 3 7 ((3 unless a) ∷ weights_refusal s.declared ws ∷ (5 unless b) ∷ (6 unless c) ∷ (7 unless d) ∷ [])
      (bounded-unless 3 7 3 a refl, (bounded-operands s.declared ws, (bounded-unless 3 7 5 b refl, (bounded-unless 3 7 6 c refl, (bounded-unless 3 7 7 d refl, tt)))))

  -- An order line that is not refused.
  pub record Taken : Type 0 where
    pub phase : (in_phase in_order s || in_phase in_block s) ≡ true
    pub first : again s.ordered.block x s.ordered.lines ≡ false
    pub stood : stands s.declared x ≡ true
    pub room : ltb (length (taken_out x s.ordered.lines)) 32767 ≡ true
    pub weights : weights_refusal s.declared (operand_list os) ≡ 0

  pub taken : (order_line s number x os).refusal ≡ 0 → Taken
  unfolding order_line
  taken h =
      let ws = operand_list os in
      let a = (in_phase in_order s || in_phase in_block s) && (eqb (length os) 0 || not (is_symbol s.declared x)) in
      let b = not (again s.ordered.block x s.ordered.lines) in
      let c = stands s.declared x in
      let d = leb (length ws) (length s.ordered.rules) && ltb (length (taken_out x s.ordered.lines)) 32767 in
      let h3 = lowest-unless 3 a (weights_refusal s.declared ws ∷ (5 unless b) ∷ (6 unless c) ∷ (7 unless d) ∷ []) (omega arith) h in
      let hw = lowest-none (weights_refusal s.declared ws) ((5 unless b) ∷ (6 unless c) ∷ (7 unless d) ∷ []) h3.1 in
      let h5 = lowest-unless 5 b ((6 unless c) ∷ (7 unless d) ∷ []) (omega arith) hw.1 in
      let h6 = lowest-unless 6 c ((7 unless d) ∷ []) (omega arith) h5.1 in
      let h7 = lowest-unless 7 d [] (omega arith) h6.1 in
      record {
        phase = and_left (in_phase in_order s || in_phase in_block s) _ h3.0;
        first = not-true (again s.ordered.block x s.ordered.lines) h5.0;
        stood = h6.0;
        room = and_right (leb (length ws) (length s.ordered.rules)) _ h7.0;
        weights = hw.0;
      }
