-- Plain bytes of a name: how far they go on, and the end of a name from them.
use Rattle.std.specs.Prelude.{Option, Some, ℕ}
use mathlib.Core.Path.{◌≡◌, refl, sym, ◌∙◌}
use mathlib.Core.Bool.{Bool, true, false, ◌&&◌, not}
use mathlib.Core.List.{List, ◌∷◌}
use Prim.Native.Nat.{ℕ, zero, suc, ◌+◌, ◌-◌, ◌%◌, ◌≤◌, ◌<◌}
use native.Mathlib.Numerals.{add-one}
use native.Mathlib.Omega.{arith}
use lib.ListN.{length, get_or, drop, drop_of_length-le}
use lib.Seq.{drop-cons}
use lib.Dec.{eqb, leb, ltb}
use borrow.Author.Tests.{ne_eqb, eqb-true, eqb-false, leb-true, ltb-true, ltb-false, not-true, not-false}
use Rattle.base_lists.proofs.Bools.{by, and_left, and_right}
use Rattle.rules.specs.Text.{every, ◌unless◌, lower}
use Rattle.rules.specs.Names.{is_blank, is_visible}
use Rattle.rules.specs.Lines.{after}
use Rattle.base_units.specs.declared.Refusal.{Refusal}
use Rattle.base_units.specs.Numbers.{number_or_none}
use Rattle.text_lines.specs.declared.Signs.{Signs}
use Rattle.text_lines.specs.declared.Spot.{Spot}
use Rattle.text_lines.proofs.LineLaws.{spot}
use Rattle.text_lines.proofs.StandsLaws.{Stands, stands-mark}
use Rattle.text_tokens.specs.declared.NameStep.TheVariants as nameStep
use Rattle.text_tokens.specs.Left.{is_inside, is_plain, plain_in, PlainTo, NameCloses, NameEnds, ClosingAfter, ClosingIs}
use Rattle.text_tokens.proofs.NameLaws.{InName, name-none, name-more, name-joined, name-byte-here, name-close-here, inside-stays}

-- ## Plain bytes of a name

-- Up to i they go on.
pub record Passing (src : List ℕ) (escape at i : ℕ) : Type 0 where
  pub same : at + plain_in escape (drop at src) ≡ i + plain_in escape (drop i src)
  pub to : i ≤ length src

pub passing-none : (src : List ℕ) (escape at : ℕ) → at ≤ length src → Passing src escape at at
passing-none src escape at h = record { same = refl; to = h }

module _ {src : List ℕ} {escape at i : ℕ} (v : Passing src escape at i) where
  pub passing-end : length src ≤ i → PlainTo src escape at (length src)
  unfolding plain_in
  passing-end h =
      let z : plain_in escape (drop i src) ≡ 0 = rw (drop_of_length-le src h) in
      record { is = omega (arith, v.same, v.to); to = omega arith }

  module _ (h : i < length src) {t : Bool} (e : t ≡ is_plain escape (get_or src i 0)) where
    pub passing-stop : not t ≡ true → PlainTo src escape at i
    unfolding plain_in
    passing-stop f =
        let z : plain_in escape (drop i src) ≡ 0 = rw (drop-cons src i 0 h, sym e ∙ not-true t f) in
        record { is = omega (arith, v.same); to = v.to }

    pub passing-more : not t ≡ false → Passing src escape at (i + 1)
    unfolding plain_in
    passing-more f =
        let z : plain_in escape (drop i src) ≡ suc (plain_in escape (drop (i + 1) src)) = rw (drop-cons src i 0 h, sym e ∙ not-false t f, add-one) in
        record { same = omega (arith, v.same); to = omega arith }

-- ## To the end of a name

-- A plain byte: what its test says.
record Plain (escape b : ℕ) : Type 0 where
  visible : is_visible b ≡ true
  no-close : b ≡ 62 → ⊥
  no-escape : b ≡ escape → ⊥

plain-is : (escape b : ℕ) → is_plain escape b ≡ true → Plain escape b
plain-is escape b h =
    let v = and_left (is_visible b && not (eqb b 62)) (not (eqb b escape)) h in
    let e = and_right (is_visible b && not (eqb b 62)) (not (eqb b escape)) h in
    record {
      visible = and_left (is_visible b) (not (eqb b 62)) v;
      no-close = eqb-false b 62 (not-true (eqb b 62) (and_right (is_visible b) (not (eqb b 62)) v));
      no-escape = eqb-false b escape (not-true (eqb b escape) e);
    }

-- The first of one and more plain bytes, and how many it leaves.
record First (src : List ℕ) (escape at k : ℕ) : Type 0 where
  inside : at < length src
  plain : Plain escape (get_or src at 0)
  rest : plain_in escape (drop (at + 1) src) ≡ k

plain-first : (src : List ℕ) (escape at k : ℕ) → plain_in escape (drop at src) ≡ suc k → First src escape at k
unfolding plain_in
plain-first src escape at k e =
    by (ltb at (length src))
    (λ t. let h = ltb-true at (length src) t in
    let b = get_or src at 0 in
    let r = plain_in escape (drop (at + 1) src) in
    let c : plain_in escape (drop at src) ≡ plain_in escape (b ∷ drop (at + 1) src) = rw (drop-cons src at 0 h, add-one) in
    by (is_plain escape b)
    (λ u. let z : plain_in escape (drop at src) ≡ suc r = c ∙ rw u in record { inside = h; plain = plain-is escape b u; rest = omega arith })
    (λ u. let z : plain_in escape (drop at src) ≡ 0 = c ∙ rw u in absurd (omega arith)))
    (λ t. let z : plain_in escape (drop at src) ≡ 0 = rw (drop_of_length-le src (ltb-false at (length src) t)) in absurd (omega arith))

-- Inside a name: no comment is there, none opens, and `>` leaves the mode below.
record Inside (mode : ℕ) : Type 0 where
  seen : mode ≡ 4 → ⊥
  named : eqb mode 0 ≡ false
  some : 1 ≤ mode
  left : mode - 1 ≡ after mode 62

inside_is : (mode : ℕ) → is_inside mode ≡ true → Inside mode
unfolding after
inside_is mode h =
    by (eqb mode 1)
    (λ t. let e = eqb-true mode 1 t in record { seen = λ z. omega arith; named = rw e; some = omega arith; left = rw e })
    (λ t. let e = eqb-true mode 3 (rw t at h) in record { seen = λ z. omega arith; named = rw e; some = omega arith; left = rw e })

-- a visible byte that is no escape stands inside a name
inside-stands : {g : Signs} {src : List ℕ} {p : Spot} {b : ℕ} → is_inside p.mode ≡ true → p.at < length src → get_or src p.at 0 ≡ b → is_visible b ≡ true
    → (b ≡ g.escape → ⊥) → Stands g src p b
inside-stands {p = p} {b} i h e v n =
    let l = leb-true 33 b (and_left (leb 33 b) (leb b 126) v) in
    let m = leb-true b 126 (and_right (leb 33 b) (leb b 126) v) in
    let s = inside_is p.mode i in
    record { inside = h; is = e; small = omega arith; no-feed = λ z. omega arith; no-escape = n; seen = s.seen; no-comment = rw s.named }

visible-solid : (b : ℕ) → is_visible b ≡ true → (b < 256) × (false ≡ is_blank b)
visible-solid b v =
    let l = leb-true 33 b (and_left (leb 33 b) (leb b 126) v) in
    let m = leb-true b 126 (and_right (leb 33 b) (leb b 126) v) in
    (omega arith, simp (ne_eqb b 32 (λ z. omega arith), ne_eqb b 9 (λ z. omega arith)))

module _ {g : Signs} {src : List ℕ} {p : Spot} where
  -- one plain byte more
  name-one : (k : ℕ) (q : Spot) (n : ℕ) → InName g src p q n true → First src g.escape q.at k → InName g src p (spot (q.at + 1) p.mode false) (n + 1) true
  name-one k q n v f =
      let b = get_or src q.at 0 in
      let i : is_inside q.mode ≡ true = rw v.mode v.inside in
      let w = visible-solid b f.plain.visible in
      let m : b % 256 ≡ b = omega (arith, w.0) in
      let a : p.mode ≡ after q.mode b = sym v.mode ∙ sym (inside-stays q.mode b i f.plain.no-close) in
      let s = stands-mark (inside-stands i f.inside refl f.plain.visible f.plain.no-escape) a w.1 in
      name-more {s = nameStep.Byte (b % 256) (spot (q.at + 1) p.mode false)} v
      (name-byte-here {s = Some (b, (spot (q.at + 1) p.mode false))} s refl f.plain.no-close) refl refl (rw m (sym f.plain.visible))

  -- one and more
  name-some : (k : ℕ) (q : Spot) (n : ℕ) → InName g src p q n true → plain_in g.escape (drop q.at src) ≡ suc k
      → InName g src p (spot (q.at + suc k) p.mode false) (n + suc k) true
  name-some zero q n v e = name-one 0 q n v (plain-first src g.escape q.at 0 e)
  name-some (suc k) q n v e =
      let f = plain-first src g.escape q.at (suc k) e in
      let a : q.at + 1 + suc k ≡ q.at + suc (suc k) = omega arith in
      let b : n + 1 + suc k ≡ n + suc (suc k) = omega arith in
      rw (a, b) at (name-some k (spot (q.at + 1) p.mode false) (n + 1) (name-one (suc k) q n v f) f.rest)

module _ (g : Signs) (src : List ℕ) (p : Spot) (l : p.at ≤ length src) (i : is_inside p.mode ≡ true) where
  -- no plain byte comes first
  pub plain-none : (c : Option (Option Refusal × Spot)) → ClosingAfter 0 g src p c → ClosingIs g src p c
  plain-none c w = name-joined (name-none g src p l i) c w

  module _ {at : ℕ} (v : PlainTo src g.escape p.at at) (n : at ≡ p.at → ⊥) where
    plain-passed : InName g src p (spot at p.mode false) (at - p.at) true
    plain-passed =
        let k = at - p.at - 1 in
        let e : plain_in g.escape (drop p.at src) ≡ suc k = omega (arith, v.is) in
        let a : p.at + suc k ≡ at = omega (arith, v.is) in
        let b : 0 + suc k ≡ at - p.at = omega (arith, v.is) in
        rw (a, b) at (name-some k p 0 (name-none g src p l i) e)

    -- what stands behind them
    pub plain_then : (c : Option (Option Refusal × Spot)) → ClosingAfter (at - p.at) g src (spot at p.mode false) c → ClosingIs g src p c
    plain_then c w = name-joined plain-passed c w

    -- the `>` right behind them
    pub plain_closed : {f : Option Refusal} → at < length src → get_or src at 0 ≡ 62 → (g.escape ≡ 62 → ⊥) → number_or_none f ≡ lower (3 unless (leb 1 (at - p.at) && true)) (7 unless leb (at - p.at) 32)
        → NameEnds g src p f (spot (at + 1) (p.mode - 1) false)
    unfolding every
    plain_closed {f} h e d r =
        let q = spot at p.mode false in
        let z = spot (at + 1) (p.mode - 1) false in
        let x : NameCloses g src q z =
        name-close-here {s = Some (62, z)} (stands-mark (inside-stands i h e refl (λ y. d (sym y))) (inside_is p.mode i).left refl) refl refl in
        let k = at - p.at in
        let none : k + 0 ≡ k = omega arith in
        name-joined plain-passed (Some (f, z))
        (record {
          refusal = rw (x.bytes, none) (sym r);
          after = x.after;
          closes = x.closes;
          mode = x.mode;
          edge = x.edge;
          long = rw x.bytes (omega arith);
          walk = x.walk;
          to = x.to;
        })
