-- The element that begins at a place of the string, as next_piece cuts it: its weights at a level, and those of the elements behind it.
use mathlib.Core.Path.{◌≡◌, sym, ap, ◌∙◌}
use mathlib.Core.Bool.{true}
use mathlib.Core.List.{List, [], ◌∷◌}
use Prim.Native.Nat.{ℕ, ◌+◌, ◌-◌, ◌≤◌, ◌<◌}
use native.Mathlib.Omega.{arith}
use mir.Syntax.{w64}
use mir.Val.{Fits}
use lib.ListN.{length, get_or, drop, drop_of_length-le}
use lib.Seq.{get_or-take, get_or-drop}
use lib.Dec.{leb}
use Rattle.base_lists.proofs.Bools.{and_right}
use Rattle.rules.specs.Text.{every, within}
use Rattle.rules.specs.Names.{is_character}
use Rattle.rules.specs.Meaning.{good_weights}
use Rattle.rules.specs.Table.{meaning_in}
use Rattle.rules.specs.Order.{step_of, elements, weights_at}
use Rattle.rules.proofs.TextLaws.{every-at, within-high}
use Rattle.rules.proofs.EntryLaws.{weights_at-good}
use Rattle.rules.proofs.KeyLaws.{good_string-length}
use Rattle.table_layout.specs.Parts.{Within, Holds}
use Rattle.table_layout.specs.declared.Run.{Run}
use Rattle.table_layout.proofs.PartLaws.{table-good}
use Rattle.order_find.specs.Answer.{found_as}
use Rattle.order_find.specs.declared.Found.{Found}
use Rattle.order_find.proofs.FoundLaws.{good-characters, found_within, found-size, found_first}
use Rattle.order_keys.specs.declared.Piece.{Piece}
use Rattle.order_keys.specs.Writing.{Keyable, AtLevel, weights_from, Narrow, Cuts}

module _ {t s : List ℕ} (k : Keyable t s) where
  pub all-characters : every is_character s ≡ true
  all-characters = good-characters s k.good

  pub not-long : length s ≤ 4096
  not-long = good_string-length s k.good

-- ## The weights of an element have two bytes each

weights-narrow : {t ws : List ℕ} (r : Run) → Holds t r ws → good_weights ws ≡ true → 0 < r.count → Narrow t r.from (r.from + r.count)
unfolding good_weights
weights-narrow {t} {ws} r w g h = record { within = w.inside h; small = small }
  where
    small : (i : ℕ) → r.from ≤ i → i < r.from + r.count → get_or t i 0 < 65536
    small i a b =
        let k : ℕ = i - r.from in
        let n : r.from + k ≡ i = omega arith in
        let e : get_or ws k 0 ≡ get_or t i 0 =
        ap (λ (x : List ℕ). get_or x k 0) (sym w.is) ∙ get_or-take r.count (drop r.from t) k 0 (omega arith) ∙ get_or-drop r.from t k 0
        ∙ ap (λ (j : ℕ). get_or t j 0) n in
        let f = every-at (within 1 32768) ws k 0 (and_right (leb (length ws) 8) (every (within 1 32768) ws) g) (omega (arith, w.many)) in
        omega (arith, e, within-high 1 32768 (get_or ws k 0) f)

-- ## Cutting

pub piece-fits : {t s : List ℕ} {level at : ℕ} {piece : Piece} → AtLevel t s level → Cuts t s level at piece → Fits w64 (at + piece.size)
piece-fits l c = omega (arith, c.to, not-long l.keyable)

-- behind the last character there is no element
pub weights-none : (t s : List ℕ) (level at : ℕ) → length s ≤ at → weights_from t s level at ≡ []
unfolding weights_from elements
weights-none t s level at h = rw (drop_of_length-le s h)

module _ {t s : List ℕ} {at : ℕ} {f : Found} (k : Keyable t s) (h : at < length s) (e : found_as f ≡ step_of (meaning_in t).items (drop at s)) where
  -- the first of the elements that are left, and the others
  pub weights-first : (level : ℕ) → weights_from t s level at ≡ weights_at (meaning_in t).items level f.place ∷ weights_from t s level (at + f.size)
  unfolding weights_from
  weights-first level = rw (found_first t s k.checked h e)

  pub found_some : 1 ≤ f.size
  found_some = (found-size t s k.checked h e).least

  pub found-to : at + f.size ≤ length s
  found-to = omega (arith, (found-size t s k.checked h e).most)

  pub level-within : {level : ℕ} → AtLevel t s level → Within t f.place level
  level-within {level} l = found_within t s k.checked h e level l.in-levels

  pub piece-cuts : {level : ℕ} {run : Run} → Holds t run (weights_at (meaning_in t).items level f.place) → Cuts t s level at (record { weights = run; size = f.size })
  piece-cuts {level} {run} w = record {
    is = rw w.is (weights-first level);
    weighs = record {
      narrow =
          weights-narrow run w
          (weights_at-good (length (meaning_in t).rules) (meaning_in t).items (table-good t k.checked).items level f.place);
    };
    some = found_some;
    to = found-to;
  }
