-- The bytes of an entry and of an element, as put_entry, put_later, put_element and put_before write them, and how many they are.
use mathlib.Core.Path.{◌≡◌, refl, ap, ◌∙◌}
use mathlib.Core.Bool.{Bool, true, false}
use mathlib.Core.List.{List, [], ◌∷◌, ◌++◌, append-nil}
use Prim.Native.Nat.{ℕ, ◌+◌, ◌-◌, ◌*◌, ◌≤◌, ◌<◌}
use native.Mathlib.Numerals.{add-one}
use native.Mathlib.Omega.{arith}
use mir.Syntax.{w64}
use mir.Val.{Fits}
use lib.ListN.{length, get_or, drop, length-append, length-drop}
use lib.Seq.{length-sets, length-take-le}
use Rattle.base_lists.proofs.Runs.{run, run-whole, run_none, run-cons}
use Rattle.rules.specs.Order.{two}
use Rattle.rules.proofs.KeyLaws.{entry_width}
use Rattle.table_layout.specs.declared.Run.{Run}
use Rattle.base_units.specs.declared.Rank.{Rank}
use Rattle.order_keys.specs.Writing.{numbers_in, Weighs, entry_bytes, later_bytes, element_bytes, TwoFit, EntryFits, LaterFit, ElementFits, BeforeFits, Puts, PutsBefore}
use Rattle.order_keys.proofs.PutLaws.{puts_then, Putting, putting-none, putting-room, putting-more, putting-all}

-- ## An entry

entry-four : (count weight : ℕ) {p : Bool} → p ≡ true → length (entry_bytes p count weight) ≡ 4
unfolding entry_bytes
entry-four count weight h = rw h

entry-two : (count weight : ℕ) {p : Bool} → p ≡ false → length (entry_bytes p count weight) ≡ 2
unfolding entry_bytes
entry-two count weight h = rw h

module _ {room : List ℕ} {at : ℕ} {p : Bool} {count weight : ℕ} (f : EntryFits room at p count weight) where
  -- with position the count, then the weight
  module _ (h : p ≡ true) where
    pub count-inside : at + 2 ≤ length room
    count-inside = omega (arith, f.inside, entry-four count weight h)

    module _ (n : ℕ) {first : List ℕ} {next : ℕ} (q : Puts room at (two n []) first next) where
      pub weight-fits : TwoFit first next weight
      weight-fits =
          let l : length first ≡ length room = ap length q.is ∙ length-sets room at (two n []) in
          record { small = f.weighs; inside = omega (arith, f.inside, q.to, entry-four count weight h) }

    module _ {first : List ℕ} {next : ℕ} (q : Puts room at (two (count + 1) []) first next) where
      pub entry-positioned : {second : List ℕ} {behind : ℕ} → Puts first next (two weight []) second behind
          → Puts room at (entry_bytes p count weight) second behind
      unfolding entry_bytes
      entry-positioned r = rw (h, ← add-one count) (puts_then q r)

  -- without it the weight alone
  module _ (h : p ≡ false) where
    pub weight-fits-alone : TwoFit room at weight
    weight-fits-alone = record { small = f.weighs; inside = omega (arith, f.inside, entry-two count weight h) }

    pub entry-plain : {second : List ℕ} {behind : ℕ} → Puts room at (two weight []) second behind → Puts room at (entry_bytes p count weight) second behind
    unfolding entry_bytes
    entry-plain q = rw h q

-- ## The second and later weights of an element

module _ (t : List ℕ) (i end : ℕ) (p : Bool) where
  later-cons : i < end → end ≤ length t → later_bytes p (run t i end) ≡ entry_bytes p 0 (get_or t i 0) ++ later_bytes p (run t (i + 1) end)
  unfolding later_bytes
  later-cons h k = rw (run-cons t i end h k)

  later-nil : end ≤ i → later_bytes p (run t i end) ≡ []
  unfolding later_bytes
  later-nil h = rw (run_none t i end h)

-- the weights from the i-th number on are still to be written
pub record Later (t : List ℕ) (from end : ℕ) (position : Bool) (room : List ℕ) (at : ℕ) (now : List ℕ) (i next : ℕ) : Type 0 where
  pub after : from ≤ i
  pub putting : Putting room at (later_bytes position (run t from end)) now next (later_bytes position (run t i end))

pub later-none : (t : List ℕ) (from end : ℕ) (position : Bool) (room : List ℕ) (at : ℕ) → Later t from end position room at room from at
later-none t from end position room at = record { after = omega arith; putting = putting-none room at (later_bytes position (run t from end)) }

module _ {t room now : List ℕ} {from end at i next : ℕ} {p : Bool} (v : Later t from end p room at now i next) where
  pub later-inside : LaterFit t from end room at p → i < end → i < length t
  later-inside f h = omega (arith, f.narrow.within)

  module _ {r : Rank} (f : LaterFit t from end room at p) (h : i < end) (e : r.0 ≡ get_or t i 0) where
    later-left : later_bytes p (run t i end) ≡ entry_bytes p 0 r.0 ++ later_bytes p (run t (i + 1) end)
    later-left = rw e (later-cons t i end p h f.narrow.within)

    pub later-fits : EntryFits now next p 0 r.0
    later-fits = record {
      counted = omega arith;
      weighs = rw e (f.narrow.small i v.after h);
      inside = putting-room v.putting (entry_bytes p 0 r.0) (later_bytes p (run t (i + 1) end)) later-left f.inside;
    }

    pub later_more : {after : List ℕ} {behind : ℕ} → Puts now next (entry_bytes p 0 r.0) after behind → Later t from end p room at after (i + 1) behind
    later_more q = record {
      after = omega (arith, v.after);
      putting = putting-more v.putting (entry_bytes p 0 r.0) (later_bytes p (run t (i + 1) end)) later-left q;
    }

  pub later-all : end ≤ i → Puts room at (later_bytes p (run t from end)) now next
  later-all h = putting-all v.putting (later-nil t i end p h)

-- ## All weights of an element

module _ {t : List ℕ} {w : Run} {room : List ℕ} {at : ℕ} {p : Bool} {n : ℕ} (f : ElementFits t w room at p n) where
  pub first-inside : w.from < length t
  first-inside = omega (arith, f.some, f.narrow.within)

  module _ {r : Rank} (e : r.0 ≡ get_or t w.from 0) where
    -- the first, and the others
    element-parts : element_bytes p n (numbers_in t w)
        ≡ entry_bytes p n r.0 ++ later_bytes p (run t (w.from + 1) (w.from + w.count))
    unfolding element_bytes
    element-parts =
        let h : w.from < w.from + w.count = omega (arith, f.some) in
        rw (e, run-whole t w.from w.count, run-cons t w.from (w.from + w.count) h f.narrow.within)

    element-long : length (element_bytes p n (numbers_in t w))
        ≡ length (entry_bytes p n r.0) + length (later_bytes p (run t (w.from + 1) (w.from + w.count)))
    element-long =
        ap length element-parts ∙ length-append (entry_bytes p n r.0) (later_bytes p (run t (w.from + 1) (w.from + w.count)))

    pub first_fits : EntryFits room at p n r.0
    first_fits = record {
      counted = f.counted;
      weighs = rw e (f.narrow.small w.from (omega arith) (omega (arith, f.some)));
      inside = omega (arith, f.inside, element-long);
    }

    module _ {first : List ℕ} {next : ℕ} (q : Puts room at (entry_bytes p n r.0) first next) where
      pub element-one : w.count ≡ 1 → Puts room at (element_bytes p n (numbers_in t w)) first next
      element-one h =
          let z : later_bytes p (run t (w.from + 1) (w.from + w.count)) ≡ [] =
          later-nil t (w.from + 1) (w.from + w.count) p (omega arith) in
          rw (element-parts, z, append-nil (entry_bytes p n r.0)) q

      pub others-fit : LaterFit t (w.from + 1) (w.from + w.count) first next p
      others-fit =
          let l : length first ≡ length room = ap length q.is ∙ length-sets room at (entry_bytes p n r.0) in
          record {
            narrow = record { within = f.narrow.within; small = λ i h k. f.narrow.small i (omega arith) k };
            inside = omega (arith, f.inside, element-long, q.to);
          }

      pub element-all : {second : List ℕ} {behind : ℕ}
          → Puts first next (later_bytes p (run t (w.from + 1) (w.from + w.count))) second behind
          → Puts room at (element_bytes p n (numbers_in t w)) second behind
      element-all s = rw element-parts (puts_then q s)

-- ## How many bytes

later-width : (p : Bool) (ws : List ℕ) → length (later_bytes p ws) ≡ entry_width p * length ws
unfolding later_bytes entry_bytes
later-width true [] = omega arith
later-width false [] = omega arith
later-width true (w ∷ ws) = let h = later-width true ws in omega arith
later-width false (w ∷ ws) = let h = later-width false ws in omega arith

-- an entry for each weight
pub element-width : (p : Bool) (n : ℕ) (ws : List ℕ) → length (element_bytes p n ws) ≡ entry_width p * length ws
unfolding element_bytes entry_bytes
element-width true n [] = omega arith
element-width false n [] = omega arith
element-width true n (w ∷ ws) = let h = later-width true ws in omega arith
element-width false n (w ∷ ws) = let h = later-width false ws in omega arith

-- ## In front of a place

-- a run has as many numbers as it says
numbers-many : (t : List ℕ) (w : Run) → w.from + w.count ≤ length t → length (numbers_in t w) ≡ w.count
numbers-many t w h = length-take-le w.count (drop w.from t) (rw (length-drop w.from t) (omega arith))

pub numbers-some : {t : List ℕ} {w : Run} → Weighs t w → ¬ (w.count ≡ 0) → 0 < length (numbers_in t w)
numbers-some {t} {w} v z =
    let some : 0 < w.count = omega arith in
    omega (arith, numbers-many t w (v.narrow some).within)

module _ {t : List ℕ} {w : Run} {p : Bool} {n : ℕ} {room : List ℕ} {end : ℕ} (f : BeforeFits t w p n room end) where
  -- no weight, no byte
  pub before-none : w.count ≡ 0 → PutsBefore room end (element_bytes p n (numbers_in t w)) room end
  unfolding element_bytes
  before-none z = rw z (record { is = refl; to = omega arith })

  module _ (h : ¬ (w.count ≡ 0)) {wide : ℕ} (e : wide ≡ entry_width p) where
    some : 0 < w.count
    some = omega arith

    before-width : length (element_bytes p n (numbers_in t w)) ≡ wide * w.count
    before-width =
        element-width p n (numbers_in t w) ∙ rw (e, numbers-many t w (f.weighs.narrow some).within)

    pub before-wide : wide * w.count ≤ end
    before-wide = omega (arith, before-width, f.wide)

    pub before-long : Fits w64 end → Fits w64 (wide * w.count)
    before-long k = omega (arith, before-wide, k)

    pub before-fits : ElementFits t w room (end - wide * w.count) p n
    before-fits = record {
      some = some;
      counted = f.counted;
      narrow = f.weighs.narrow some;
      inside = omega (arith, before-width, f.wide, f.inside);
    }

    pub before-put : {after : List ℕ} {behind : ℕ} → Puts room (end - wide * w.count) (element_bytes p n (numbers_in t w)) after behind
        → PutsBefore room end (element_bytes p n (numbers_in t w)) after (end - wide * w.count)
    before-put q = record { is = q.is; to = omega (arith, before-width, f.wide) }
