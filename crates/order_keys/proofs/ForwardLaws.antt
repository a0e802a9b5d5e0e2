-- The bytes of a level that is walked forward, element by element, as write_forward writes them.
use mathlib.Core.Path.{◌≡◌, refl}
use mathlib.Core.Bool.{Bool}
use mathlib.Core.List.{List, [], ◌++◌}
use Prim.Native.Nat.{ℕ, ◌+◌, ◌≤◌, ◌<◌}
use native.Mathlib.Numerals.{add-one}
use native.Mathlib.Omega.{arith}
use mir.Syntax.{w32}
use mir.Val.{Fits}
use lib.ListN.{length}
use Rattle.rules.specs.Order.{two}
use Rattle.order_keys.specs.declared.Piece.{Piece}
use Rattle.order_keys.specs.Writing.{AtLevel, weights_from, numbers_in, Cuts, element_bytes, forward, level_bytes, TwoFit, ElementFits, Puts}
use Rattle.order_keys.proofs.PutLaws.{Putting, putting-none, putting-room, putting-more, putting-all}
use Rattle.order_keys.proofs.ElementLaws.{numbers-some}
use Rattle.order_keys.proofs.PieceLaws.{not-long, weights-none}
use Rattle.order_keys.proofs.LevelLaws.{onward_bytes, onward-none, onward-skip, onward-take, forward-bytes}

-- the bytes of the elements from the i-th character on, and 00 00, are still to be written, the `skipped` before them having no weight
pub record Forward (t s : List ℕ) (level : ℕ) (p : Bool) (room : List ℕ) (at : ℕ) (now : List ℕ) (i skipped next : ℕ) : Type 0 where
  pub to : i ≤ length s
  pub less : skipped ≤ i
  pub putting : Putting room at (level_bytes t s level (forward p)) now next (onward_bytes p skipped (weights_from t s level i) (two 0 []))

pub forward-none : (t s : List ℕ) (level : ℕ) (p : Bool) (room : List ℕ) (at : ℕ) → Forward t s level p room at room 0 0 at
forward-none t s level p room at = record {
  to = omega arith;
  less = omega arith;
  putting = rw (forward-bytes t s level p) (putting-none room at (onward_bytes p 0 (weights_from t s level 0) (two 0 [])));
}

module _ {t s room now : List ℕ} {level at i skipped next : ℕ} {p : Bool} (v : Forward t s level p room at now i skipped next) where
  module _ (h : length s ≤ i) where
    end-left : onward_bytes p skipped (weights_from t s level i) (two 0 []) ≡ two 0 [] ++ []
    end-left = rw (weights-none t s level i h) (onward-none p skipped (two 0 []))

    pub end_fits : at + length (level_bytes t s level (forward p)) ≤ length room → TwoFit now next 0
    end_fits l = record { small = omega arith; inside = putting-room v.putting (two 0 []) [] end-left l }

    pub end-put : {after : List ℕ} {behind : ℕ} → Puts now next (two 0 []) after behind → Puts room at (level_bytes t s level (forward p)) after behind
    end-put q = putting-all (putting-more v.putting (two 0 []) [] end-left q) refl

  module _ {piece : Piece} (l : AtLevel t s level) (c : Cuts t s level i piece) where
    pub skipped-fits : Fits w32 (skipped + 1)
    skipped-fits = omega (arith, v.less, v.to, not-long l.keyable)

    -- an element without a weight
    pub forward-skip : piece.weights.count ≡ 0 → Forward t s level p room at now (i + piece.size) (skipped + 1) next
    forward-skip z =
        let e : onward_bytes p skipped (weights_from t s level i) (two 0 []) ≡ onward_bytes p (skipped + 1) (weights_from t s level (i + piece.size)) (two 0 []) =
        rw (c.is, z, add-one skipped) (onward-skip p skipped (weights_from t s level (i + piece.size)) (two 0 [])) in
        record { to = c.to; less = omega (arith, v.less, c.some); putting = rw (← e) v.putting }

    -- an element that has one
    module _ (z : ¬ (piece.weights.count ≡ 0)) where
      element-left : onward_bytes p skipped (weights_from t s level i) (two 0 [])
          ≡ element_bytes p skipped (numbers_in t piece.weights) ++ onward_bytes p 0 (weights_from t s level (i + piece.size)) (two 0 [])
      element-left = rw c.is (onward-take p skipped (numbers_in t piece.weights) (weights_from t s level (i + piece.size)) (two 0 []) (numbers-some c.weighs z))

      pub element-fits : at + length (level_bytes t s level (forward p)) ≤ length room → ElementFits t piece.weights now next p skipped
      element-fits b =
          let some : 0 < piece.weights.count = omega arith in
          record {
            some = some;
            counted = omega (arith, v.less, v.to, not-long l.keyable);
            narrow = c.weighs.narrow some;
            inside =
                putting-room v.putting (element_bytes p skipped (numbers_in t piece.weights)) (onward_bytes p 0 (weights_from t s level (i + piece.size)) (two 0 []))
                element-left b;
          }

      pub forward-element : {after : List ℕ} {behind : ℕ} → Puts now next (element_bytes p skipped (numbers_in t piece.weights)) after behind
          → Forward t s level p room at after (i + piece.size) 0 behind
      forward-element q = record {
        to = c.to;
        less = omega arith;
        putting =
            putting-more v.putting (element_bytes p skipped (numbers_in t piece.weights)) (onward_bytes p 0 (weights_from t s level (i + piece.size)) (two 0 []))
            element-left q;
      }
