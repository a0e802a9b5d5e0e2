-- A level that is walked backward, written from its end while the string is cut from its beginning, as write_backward writes it.
use mathlib.Core.Path.{◌≡◌, refl, sym, ap, ◌∙◌, subst}
use mathlib.Core.Bool.{Bool}
use mathlib.Core.List.{List, [], ◌++◌, append_assoc}
use Prim.Native.Nat.{ℕ, ◌+◌, ◌-◌, ◌≤◌}
use native.Mathlib.Numerals.{add-one}
use native.Mathlib.Omega.{arith}
use mir.Syntax.{w32}
use mir.Val.{Fits}
use lib.ListN.{length, length-append}
use lib.Seq.{length-sets}
use Rattle.rules.specs.Order.{two}
use Rattle.table_layout.specs.declared.Run.{Run}
use Rattle.order_keys.specs.declared.Piece.{Piece}
use Rattle.order_keys.specs.Writing.{AtLevel, weights_from, numbers_in, Weighs, Cuts, element_bytes, backward, level_bytes, TwoFit, BeforeFits, Puts, PutsBefore}
use Rattle.order_keys.proofs.PutLaws.{puts-in-front}
use Rattle.order_keys.proofs.ElementLaws.{numbers-some}
use Rattle.order_keys.proofs.PieceLaws.{not-long, weights-none}
use Rattle.order_keys.proofs.LevelLaws.{turned_bytes, turned_none, turned-skip, turned-take, turned-long, backward-bytes}

-- The elements from the i-th character on are still to be cut; of those before it, the last that has a weight is `last`, with `skipped` elements behind it,
-- and the bytes of the others stand from `next` on, in front of the 00 00 at `end`. The whole level has place there.
pub record Backward (t s : List ℕ) (level : ℕ) (p : Bool) (room : List ℕ) (end : ℕ) (now : List ℕ) (next : ℕ) (last : Run) (skipped i : ℕ) : Type 0 where
  pub to : i ≤ length s
  pub less : skipped ≤ i
  pub weighs : Weighs t last
  pub done : List ℕ
  pub put : PutsBefore room end done now next
  pub long : length now ≡ length room
  pub wide : length (level_bytes t s level (backward p)) ≤ end + 2
  pub inside : end ≤ length room
  pub same : turned_bytes p (numbers_in t last) skipped (weights_from t s level i) (done ++ two 0 []) ≡ level_bytes t s level (backward p)

-- ## The end of the level

-- no element
abbrev no_run : Run
no_run = record { from = 0; count = 0 }

module _ (t s : List ℕ) (level : ℕ) (p : Bool) {end : ℕ} (l : length (level_bytes t s level (backward p)) ≤ end) where
  pub two-inside : 2 ≤ end
  two-inside = omega (arith, l, turned-long p [] 0 (weights_from t s level 0) (two 0 []), ap length (backward-bytes t s level p))

  module _ (room : List ℕ) (h : end ≤ length room) where
    pub two_fits : TwoFit room (end - 2) 0
    two_fits = record { small = omega arith; inside = omega (arith, two-inside) }

    pub backward-none : {now : List ℕ} {behind : ℕ} → Puts room (end - 2) (two 0 []) now behind → Backward t s level p now (end - 2) now (end - 2) no_run 0 0
    backward-none {now} q = record {
      to = omega arith;
      less = omega arith;
      weighs = record { narrow = λ z. absurd (omega arith) };
      done = [];
      put = record { is = refl; to = omega arith };
      long = refl;
      wide = omega (arith, l, two-inside);
      inside = let n : length now ≡ length room = ap length q.is ∙ length-sets room (end - 2) (two 0 []) in omega (arith, h, n);
      same = sym (backward-bytes t s level p);
    }

-- ## Element by element

module _ {t s room now : List ℕ} {level end next skipped i : ℕ} {p : Bool} {last : Run} (v : Backward t s level p room end now next last skipped i) where
  module _ (k : AtLevel t s level) where
    pub kept-skipped : Fits w32 (skipped + 1)
    kept-skipped = omega (arith, v.less, v.to, not-long k.keyable)

    pub kept-fits : BeforeFits t last p skipped now next
    kept-fits = record {
      weighs = v.weighs;
      counted = omega (arith, v.less, v.to, not-long k.keyable);
      wide =
          omega (arith, v.wide, turned-long p (numbers_in t last) skipped (weights_from t s level i) (v.done ++ two 0 []), ap length v.same, v.put.to, length-append v.done (two 0 []));
      inside = omega (arith, v.inside, v.put.to, v.long);
    }

  module _ {piece : Piece} (c : Cuts t s level i piece) where
    -- an element without a weight
    pub backward-skip : piece.weights.count ≡ 0 → Backward t s level p room end now next last (skipped + 1) (i + piece.size)
    backward-skip z = record {
      to = c.to;
      less = omega (arith, v.less, c.some);
      weighs = v.weighs;
      done = v.done;
      put = v.put;
      long = v.long;
      wide = v.wide;
      inside = v.inside;
      same =
          let e : turned_bytes p (numbers_in t last) skipped (weights_from t s level i) (v.done ++ two 0 [])
          ≡ turned_bytes p (numbers_in t last) (skipped + 1) (weights_from t s level (i + piece.size)) (v.done ++ two 0 []) =
          rw (c.is, z, add-one skipped) (turned-skip p (numbers_in t last) skipped (weights_from t s level (i + piece.size)) (v.done ++ two 0 [])) in
          sym e ∙ v.same;
    }

    -- an element that has one: the one before it is written
    pub backward-element : {after : List ℕ} {from : ℕ} → ¬ (piece.weights.count ≡ 0) → length after ≡ length now
        → PutsBefore now next (element_bytes p skipped (numbers_in t last)) after from
        → Backward t s level p room end after from piece.weights 0 (i + piece.size)
    backward-element z n q = record {
      to = c.to;
      less = omega arith;
      weighs = c.weighs;
      done = element_bytes p skipped (numbers_in t last) ++ v.done;
      put = puts-in-front v.put q;
      long = n ∙ v.long;
      wide = v.wide;
      inside = v.inside;
      same =
          let e : turned_bytes p (numbers_in t last) skipped (weights_from t s level i) (v.done ++ two 0 [])
          ≡ turned_bytes p (numbers_in t piece.weights) 0 (weights_from t s level (i + piece.size)) (element_bytes p skipped (numbers_in t last) ++ (v.done ++ two 0 [])) =
          rw c.is
          (turned-take p (numbers_in t last) skipped (numbers_in t piece.weights) (weights_from t s level (i + piece.size)) (v.done ++ two 0 []) (numbers-some c.weighs z)) in
          rw (append_assoc (element_bytes p skipped (numbers_in t last)) v.done (two 0 [])) (sym e ∙ v.same);
    }

-- the string ends: the last one is written, in front of those that were
pub backward-all : {t s before room now after : List ℕ} {level end next skipped i behind from : ℕ} {p : Bool} {last : Run}
    → Backward t s level p room (end - 2) now next last skipped i → length (level_bytes t s level (backward p)) ≤ end
    → Puts before (end - 2) (two 0 []) room behind → length s ≤ i
    → PutsBefore now next (element_bytes p skipped (numbers_in t last)) after from → PutsBefore before end (level_bytes t s level (backward p)) after from
backward-all {t} {s} {before} {room} {after = after} {level} {end} {skipped = skipped} {i} {from = from} {p} {last} v l b h q =
    let bytes : List ℕ = element_bytes p skipped (numbers_in t last) in
    let e : turned_bytes p (numbers_in t last) skipped (weights_from t s level i) (v.done ++ two 0 []) ≡ bytes ++ (v.done ++ two 0 []) =
    rw (weights-none t s level i h) (turned_none p (numbers_in t last) skipped (v.done ++ two 0 [])) in
    let two-put : PutsBefore before end (two 0 []) room (end - 2) = record { is = b.is; to = omega (arith, two-inside t s level p l) } in
    subst (λ (bs : List ℕ). PutsBefore before end bs after from) (append_assoc bytes v.done (two 0 []) ∙ sym e ∙ v.same)
    (puts-in-front two-put (puts-in-front v.put q))
