-- The refusal of an order line, by the facts of its subject.
use Rattle.base_units.specs.Numbers.{number_or_none}
use Rattle.std.specs.Prelude.{if◌then◌else◌}
use mathlib.Core.Path.{◌≡◌, refl, sym, ap, ◌∙◌, subst}
use mathlib.Core.Bool.{Bool, true, false, not, ◌&&◌, ◌||◌, or-true}
use mathlib.Core.List.{List, [], ◌∷◌}
use Prim.Native.Nat.{ℕ, ◌-◌, ◌≤◌, ◌<◌}
use native.Mathlib.Omega.{arith}
use lib.ListN.{length, length-map}
use lib.Dec.{eqb, leb, ltb}
use borrow.Author.Tests.{eq-eqb, ne_eqb, le-leb, lt-leb, lt-ltb, le-ltb, eqb-true, eqb-false, ltb-true, ltb-false}
use Rattle.base_lists.proofs.Bools.{by}
use Rattle.rules.specs.Text.{◌unless◌, lower, lowest}
use Rattle.rules.specs.Tokens.{Token, operands, tokens_refusal}
use Rattle.rules.specs.State.{in_order, in_block, Subject, Chain, State}
use Rattle.rules.specs.OrderLines.{operand_list, weights_refusal, order_line}
use Rattle.text_lines.specs.declared.Signs.{Signs}
use Rattle.text_lines.specs.declared.Spot.{Spot}
use Rattle.text_tokens.specs.Left.{tokens_left}
use Rattle.rules.proofs.RefusalLaws.{Bounded, bounded-lower, bounded-lowest, bounded-unless, bounded-tokens}
use Rattle.text_tokens.proofs.RefusalLaws.{lower-assoc, lower-none-left, three-left, three-right}
use Rattle.locale_standing.specs.declared.Counted.{Counted}
use Rattle.locale_standing.specs.Refusing.{Counts}
use Rattle.locale_standing.proofs.CountLaws.{refusal-paper}
use Rattle.locale_sheet.specs.Known.{line_at}
use Rattle.locale_sheet.specs.declared.Sheet.{Sheet}
use Rattle.locale_sheet.specs.Sheets.{Open}
use Rattle.locale_order_lines.specs.declared.Facts.{Facts}
use Rattle.locale_order_lines.specs.Facts.{FactsIn, AgainIs, OwnRefused}
use Rattle.locale_order_lines.proofs.FactLaws.{stands-known}
use Rattle.locale_order_lines.proofs.RangeLaws.{bounded-operands}

-- ## Whether a line is formed

pub takes-order : (phase : ℕ) → phase ≡ 4 → eqb phase 4 ≡ (eqb phase in_order || eqb phase in_block)
takes-order phase h = rw (eq-eqb phase in_order h)

pub takes-block : (phase : ℕ) → (phase ≡ 4 → ⊥) → eqb phase 6 ≡ (eqb phase in_order || eqb phase in_block)
takes-block phase h = sym (rw (ne_eqb phase in_order h))

module _ (phase many : ℕ) (symbol : Bool) {t : Bool} (takes : t ≡ (eqb phase in_order || eqb phase in_block)) where
  abbrev formed : Bool
  formed = (eqb phase in_order || eqb phase in_block) && (eqb many 0 || not symbol)

  pub formed-else : t ≡ false → false ≡ formed
  formed-else h = sym (rw (sym takes ∙ h))

  pub formed-plain : t ≡ true → symbol ≡ false → true ≡ formed
  formed-plain h e = sym (rw (sym takes ∙ h, e) (or-true (eqb many 0)))

  pub formed-symbol : {b : Bool} → t ≡ true → symbol ≡ true → b ≡ eqb many 0 → b ≡ formed
  formed-symbol {b} h e k = k ∙ sym (rw (sym takes ∙ h, e) (or-none (eqb many 0)))
    where
      or-none : (a : Bool) → (a || false) ≡ a
      or-none true = refl
      or-none false = refl

-- ## Whether a line finds room

module _ (ordered : Bool) (count : ℕ) where
  pub room_moved : ordered ≡ true → ltb count 32768 ≡ ltb (if ordered then count - 1 else count) 32767
  room_moved e =
      rw e
      (by (ltb count 32768)
      (λ t. let h = ltb-true count 32768 t in t ∙ sym (lt-ltb (count - 1) 32767 (omega (arith, h))))
      (λ t. let h = ltb-false count 32768 t in t ∙ sym (le-ltb (count - 1) 32767 (omega (arith, h)))))

  pub room-more : ordered ≡ false → ltb count 32767 ≡ ltb (if ordered then count - 1 else count) 32767
  room-more e = sym (rw e)

-- ## The later refusals

abbrev later : Bool → Bool → Bool → ℕ
later again stood fits = lowest (5 unless not again ∷ 6 unless stood ∷ 7 unless fits ∷ [])

module _ (again stood : Bool) (many levels : ℕ) (room : Bool) where
  abbrev fits : Bool
  fits = leb many levels && room

  abbrev there : ℕ
  there = later again stood fits

  pub late-again : again ≡ true → ◌≡◌ {A = ℕ} 5 there
  unfolding lowest lower
  late-again e = sym (rw e (by stood (λ t. rw t (by fits (λ u. rw u) (λ u. rw u))) (λ t. rw t (by fits (λ u. rw u) (λ u. rw u)))))

  module _ (e : again ≡ false) where
    pub late-missing : stood ≡ false → ◌≡◌ {A = ℕ} 6 there
    unfolding lowest lower
    late-missing t = sym (rw (e, t) (by fits (λ u. rw u) (λ u. rw u)))

    module _ (t : stood ≡ true) where
      pub late-many : levels < many → ◌≡◌ {A = ℕ} 7 there
      unfolding lowest lower
      late-many h = sym (rw (e, t, lt-leb many levels h))

      module _ (h : many ≤ levels) where
        pub late-full : room ≡ false → ◌≡◌ {A = ℕ} 7 there
        unfolding lowest lower
        late-full l = sym (rw (e, t, le-leb many levels h, l))

        pub late-none : room ≡ true → ◌≡◌ {A = ℕ} 0 there
        unfolding lowest lower
        late-none l = sym (rw (e, t, le-leb many levels h, l))

bounded-later : (again stood fits : Bool) → Bounded 3 7 (later again stood fits)
bounded-later again stood fits =
    bounded-lowest 3 7 (5 unless not again ∷ 6 unless stood ∷ 7 unless fits ∷ [])
    (bounded-unless 3 7 5 (not again) refl, (bounded-unless 3 7 6 stood refl, (bounded-unless 3 7 7 fits refl, tt)))

-- ## The lowest of all

module _ (t w : ℕ) (ok again stood fits : Bool) where
  abbrev whole : ℕ
  whole = lower t (lowest (3 unless ok ∷ w ∷ 5 unless not again ∷ 6 unless stood ∷ 7 unless fits ∷ []))

  pub whole-unformed : Bounded 3 7 t → Bounded 3 7 w → ok ≡ false → ◌≡◌ {A = ℕ} 3 whole
  unfolding lowest
  whole-unformed a b e =
      sym (rw e (ap (lower t) (three-left (lower w (later again stood fits)) (bounded-lower 3 7 w (later again stood fits) b (bounded-later again stood fits))) ∙ three-right t a))

  whole-formed : ok ≡ true → whole ≡ lower (lower t w) (later again stood fits)
  unfolding lowest
  whole-formed e = rw e (ap (lower t) (lower-none-left (lower w (later again stood fits))) ∙ sym (lower-assoc t w (later again stood fits)))

  pub whole-three : ok ≡ true → lower t w ≡ 3 → ◌≡◌ {A = ℕ} 3 whole
  whole-three e h = sym (whole-formed e ∙ ap (λ (x : ℕ). lower x (later again stood fits)) h ∙ three-left (later again stood fits) (bounded-later again stood fits))

-- ## Of a state that is held

module _ {g : Signs} {src w : List ℕ} {sh : Sheet} {cs : List Chain} {at : ℕ} {s : State} (o : Open g src w sh cs at s) where
  -- how many order lines there are
  pub many-lines : length s.ordered.lines ≡ sh.order.count
  many-lines = ap length o.known.are ∙ length-map o.known.marks (line_at g src s.ordered.rules w) ∙ sym o.known.lines.count

  -- the paper's refusal, by the facts
  by-facts : (x : Subject) (k : Facts) (b : Bool) (number : ℕ) (os : List Token) → FactsIn s.declared s.ordered.lines x k → AgainIs g src w sh x b
      → (order_line s number x os).refusal
      ≡ lowest (3 unless ((eqb sh.phase in_order || eqb sh.phase in_block) && (eqb (length os) 0 || not k.symbol)) ∷ weights_refusal s.declared (operand_list os) ∷ 5 unless not b ∷ 6 unless k.stands ∷ 7 unless (leb (length (operand_list os)) sh.levels && ltb (if k.ordered then sh.order.count - 1 else sh.order.count) 32767) ∷ [])
  unfolding order_line
  by-facts x k b number os f a = rw (o.phase, f.symbol, a.is cs at s o, f.stands, o.levels, f.others, many-lines)

  -- its weights, by what the store holds
  weights-held : (os : List Token) (ws : List (List Token)) (r : Counted) → Counts g src w os ws r
      → number_or_none r.refusal ≡ lower (tokens_refusal os) (weights_refusal s.declared ws)
  weights-held os ws r c =
      c.refusal o.n o.known.ds o.known.holds
      ∙ ap (lower (tokens_refusal os)) (refusal-paper o.known.ds s.declared (stands-known w o.known.ds s.declared o.known.says) ws)

module _ (g : Signs) (src w : List ℕ) (sh : Sheet) (p : Spot) (k : Facts) (again : Bool) {ok : Bool}
    (f : ok ≡ ((eqb sh.phase in_order || eqb sh.phase in_block) && (eqb (length (operands (tokens_left g src p))) 0 || not k.symbol))) where
  abbrev os : List Token
  os = operands (tokens_left g src p)

  abbrev roomy : Bool
  roomy = ltb (if k.ordered then sh.order.count - 1 else sh.order.count) 32767

  abbrev room : Bool
  room = leb (length (operand_list os)) sh.levels && roomy

  pub own-unformed : ok ≡ false → OwnRefused g src w sh p k again 3
  own-unformed e = record {
    is = λ x a b cs at s number o.
        whole-unformed (tokens_refusal os) (weights_refusal s.declared (operand_list os)) _ again k.stands room (bounded-tokens os) (bounded-operands s.declared (operand_list os)) (sym f ∙ e)
        ∙ ap (lower (tokens_refusal os)) (sym (by-facts o x k again number os (a.are sh.order s.ordered.rules o.n s.declared s.ordered.lines o.known) b));
  }

  module _ (e : ok ≡ true) {c : Counted} (v : Counts g src w os (operand_list os) c) where
    own-three : number_or_none c.refusal ≡ 3 → OwnRefused g src w sh p k again 3
    own-three h = record {
      is = λ x a b cs at s number o.
          whole-three (tokens_refusal os) (weights_refusal s.declared (operand_list os)) _ again k.stands room (sym f ∙ e) (sym (weights-held o os (operand_list os) c v) ∙ h)
          ∙ ap (lower (tokens_refusal os)) (sym (by-facts o x k again number os (a.are sh.order s.ordered.rules o.n s.declared s.ordered.lines o.known) b));
    }

    own-fine : {q : Bool} {d r : ℕ} → (number_or_none c.refusal ≡ 3 → ⊥) → q ≡ ltb (if k.ordered then sh.order.count - 1 else sh.order.count) 32767
        → d ≡ lowest (5 unless not again ∷ 6 unless k.stands ∷ 7 unless (leb c.operands sh.levels && q) ∷ []) → r ≡ lower (number_or_none c.refusal) d → OwnRefused g src w sh p k again r
    own-fine {q} {d} {r} h u y z = record {
      is = λ x a b cs at s number o.
          z
          ∙ ap (λ (i : ℕ). lower i d) (weights-held o os (operand_list os) c v)
          ∙ ap (lower (lower (tokens_refusal os) (weights_refusal s.declared (operand_list os))))
          (y
          ∙ ap (λ (i : Bool). later again k.stands (leb c.operands sh.levels && i)) u
          ∙ ap (λ (m : ℕ). later again k.stands (leb m sh.levels && roomy)) (v.many h))
          ∙ sym (whole-formed (tokens_refusal os) (weights_refusal s.declared (operand_list os)) _ again k.stands room (sym f ∙ e))
          ∙ ap (lower (tokens_refusal os)) (sym (by-facts o x k again number os (a.are sh.order s.ordered.rules o.n s.declared s.ordered.lines o.known) b));
    }

    -- where the operands are malformed, nothing else is lower
    pub own-later : {q : Bool} {d r : ℕ} → q ≡ ltb (if k.ordered then sh.order.count - 1 else sh.order.count) 32767
        → d ≡ lowest (5 unless not again ∷ 6 unless k.stands ∷ 7 unless (leb c.operands sh.levels && q) ∷ []) → r ≡ lower (number_or_none c.refusal) d → OwnRefused g src w sh p k again r
    own-later {q} {d} {r} u y z =
        by (eqb (number_or_none c.refusal) 3)
        (λ t. let h = eqb-true (number_or_none c.refusal) 3 t in
        let fits = leb c.operands sh.levels && q in
        let three : r ≡ 3 = z ∙ ap (λ (i : ℕ). lower i d) h ∙ ap (lower 3) y ∙ three-left (later again k.stands fits) (bounded-later again k.stands fits) in
        subst (OwnRefused g src w sh p k again) (sym three) (own-three h))
        (λ t. own-fine (eqb-false (number_or_none c.refusal) 3 t) u y z)
