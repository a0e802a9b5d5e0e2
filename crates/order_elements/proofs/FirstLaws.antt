-- The entries of the first level that a walk has still to come: element by element as the string is cut, weight by weight.
use mathlib.Core.Path.{◌≡◌, refl, sym, ◌∙◌, subst}
use mathlib.Core.Bool.{Bool, false, cond}
use mathlib.Core.List.{List, [], ◌∷◌}
use Prim.Native.Nat.{ℕ, ◌+◌, ◌-◌, ◌≤◌, ◌<◌}
use native.Mathlib.Numerals.{add-one}
use native.Mathlib.Omega.{arith}
use lib.ListN.{length, get_or, take, drop, drop_of_length-le}
use Rattle.base_lists.proofs.Runs.{run-first}
use Rattle.rules.specs.Table.{meaning_in}
use Rattle.rules.specs.Order as order
use Rattle.rules.specs.Order.{step_of, elements, weights_at, more, entries_from, walked, level_entries}
use Rattle.rules.specs.Directory.{first_of}
use Rattle.base_units.specs.declared.Rank.{Rank}
use Rattle.order_entries.specs.declared.Entry.{Entry}
use Rattle.table_layout.specs.Parts.{Holds}
use Rattle.table_layout.specs.declared.Run.{Run}
use Rattle.order_find.specs.Answer.{found_as}
use Rattle.order_find.specs.declared.Found.{Found}
use Rattle.order_elements.specs.declared.Walk.{Walk}
use Rattle.order_elements.specs.declared.Ahead.{Ahead}
use Rattle.order_elements.specs.declared.Ahead.TheVariants.{One, End}
use Rattle.order_elements.specs.Cuts.{Ready, Cut, CutOne}
use Rattle.order_elements.specs.Firsts.{entries_on, entries_left, first_entries, fresh, Sound, Next, Ended, Gives}
use Rattle.order_find.proofs.FoundLaws.{found_first}
use Rattle.order_elements.proofs.CutLaws.{Cutting, cutting-none, cutting-more, cut_all}

-- ## Element by element

-- at the string's end there is nothing
on_none : (t s : List ℕ) (position : Bool) (i n : ℕ) → length s ≤ i → entries_on t s position i n ≡ []
unfolding entries_on entries_from elements
on_none t s position i n h = rw (drop_of_length-le s h)

module _ {t s places : List ℕ} {i : ℕ} {f : Found} (position : Bool) (n : ℕ) (r : Ready t s places) (h : i < length s)
    (e : found_as f ≡ step_of (meaning_in t).items (drop i s)) where
  -- an element without a weight is counted
  on-skip : weights_at (meaning_in t).items 0 f.place ≡ [] → entries_on t s position i n ≡ entries_on t s position (i + f.size) (n + 1)
  unfolding entries_on entries_from
  on-skip z = rw (found_first _ _ r.checked h e, z, add-one n)

  -- an element with weights gives an entry for each
  on-take : (w : ℕ) (ws : List ℕ) → weights_at (meaning_in t).items 0 f.place ≡ w ∷ ws
      → entries_on t s position i n ≡ record { count = cond position n 0; weight = w } ∷ more ws (entries_on t s position (i + f.size) 0)
  unfolding entries_on entries_from
  on-take w ws z = rw (found_first _ _ r.checked h e, z)

-- ## Passing elements without a weight

-- what is to come is what the string from i on gives, the n elements before it having no weight
pub record Passing (t s before : List ℕ) (position : Bool) (at skipped : ℕ) (places : List ℕ) (i k n : ℕ) : Type 0 where
  pub cutting : Cutting t s before places i k
  pub less : n ≤ k
  pub same : entries_on t s position at skipped ≡ entries_on t s position i n

pub passing-none : {t s places : List ℕ} (position : Bool) {at many skipped : ℕ} → Ready t s places → Cut t s places at many → skipped ≤ many
    → Passing t s places position at skipped places at many skipped
passing-none position r v h = record { cutting = record { ready = r; cut = v; kept = refl }; less = h; same = refl }

module _ {t s before places after : List ℕ} {position : Bool} {at skipped i k n : ℕ} {f : Found} {run : Run}
    (v : Passing t s before position at skipped places i k n) (h : i < length s) (kept : length after ≡ length places)
    (c : CutOne t s after i k f) (w : Holds t run (weights_at (meaning_in t).items 0 f.place)) where
  pub passing-more : run.count ≤ 0 → Passing t s before position at skipped after (i + f.size) (k + 1) (n + 1)
  passing-more g =
      let z : run.count ≡ 0 = omega arith in
      record {
        cutting = cutting-more v.cutting kept c;
        less = omega (arith, v.less);
        same = v.same ∙ on-skip position n v.cutting.ready h c.is (sym (rw z at w.is));
      }

  pub passing-found : {count : ℕ} {r : Rank} → 0 < run.count → r.0 ≡ get_or t run.from 0 → count ≡ cond position n 0
      → Next t s after position (entries_on t s position at skipped) (record { count = count; rank = r })
      (record { at = i + f.size; many = k + 1; from = run.from + 1; left = run.count - 1; skipped = 0 })
  unfolding entries_left
  passing-found {count} {r} g d j =
      let m : run.from + run.count ≤ length t = w.inside g in
      let ws : List ℕ = take (run.count - 1) (drop (run.from + 1) t) in
      let first : weights_at (meaning_in t).items 0 f.place ≡ r.0 ∷ ws = sym w.is ∙ run-first t run.from run.count g m ∙ rw d in
      record {
        is = v.same ∙ on-take position n v.cutting.ready h c.is r.0 ws first ∙ rw j;
        sound = record { cut = c.cut; skipped = omega arith; inside = λ l. omega arith };
      }

-- the string ends
pub passing-end : {t s before places : List ℕ} {position : Bool} {at skipped i k n : ℕ} → Passing t s before position at skipped places i k n
    → length s ≤ i → Ended t s places (entries_on t s position at skipped) k
passing-end {t} {s} {position = position} {i = i} {n = n} v h =
    record { is = v.same ∙ on_none t s position i n h; split = cut_all v.cutting h }

-- the first of an element's weights is in the table
pub held_first : {t : List ℕ} {r : Run} {ws : List ℕ} → Holds t r ws → 0 < r.count → r.from < length t
held_first w h = omega (arith, w.inside h)

-- ## Weight by weight

module _ (t s : List ℕ) (position : Bool) where
  -- a fresh walk has the whole level to come
  pub fresh-entries : entries_left t s position fresh ≡ first_entries t s position
  unfolding entries_left more entries_on first_entries level_entries walked
  fresh-entries = refl

  -- with no weight left of the element, it has those of the string from its place on
  pub left-none : (c : Walk) → c.left ≤ 0 → entries_left t s position c ≡ entries_on t s position c.at c.skipped
  unfolding entries_left more
  left-none c h = let e : c.left ≡ 0 = omega arith in rw e

  pub left-on : (places : List ℕ) (c : Walk) (r : Ahead) → c.left ≤ 0 → Gives t s places position (entries_on t s position c.at c.skipped) r
      → Gives t s places position (entries_left t s position c) r
  left-on places c r h g = subst (λ (es : List order.Entry). Gives t s places position es r) (sym (left-none c h)) g

  -- the next weight of the element
  pub left-more : (places : List ℕ) (c : Walk) (r : Rank) → Sound t s places c → 0 < c.left → r.0 ≡ get_or t c.from 0
      → Next t s places position (entries_left t s position c) (record { count = 0; rank = r })
      (record { at = c.at; many = c.many; from = c.from + 1; left = c.left - 1; skipped = c.skipped })
  unfolding entries_left more
  left-more places c r v h e = record {
    is = rw (run-first t c.from c.left h (v.inside h), e);
    sound = record { cut = v.cut; skipped = v.skipped; inside = λ l. let k = v.inside h in omega arith };
  }

pub fresh-sound : (t s places : List ℕ) → Ready t s places → Sound t s places fresh
fresh-sound t s places r =
    record { cut = (cutting-none t s places r).cut; skipped = omega arith; inside = λ h. absurd (omega arith) }

-- ## The first weight

module _ (t s places : List ℕ) where
  -- a string of which nothing is cut yet
  pub uncut : {c : Walk} → c ≡ fresh → Ready t s places → Cut t s places c.at c.many
  uncut e r = rw e (cutting-none t s places r).cut

  all-entries : entries_on t s false 0 0 ≡ first_entries t s false
  unfolding entries_on first_entries level_entries walked
  all-entries = refl

  from-all : {w : Walk} → w ≡ fresh → entries_on t s false w.at w.skipped ≡ first_entries t s false
  from-all f = rw f all-entries

  module _ {a : Ahead} {w : Walk} (f : w ≡ fresh) (g : Gives t s places false (entries_on t s false w.at w.skipped) a) where
    -- it is that of the next entry
    pub leading_at : {e : Entry} {c : Walk} → a ≡ One e c → e.rank.0 ≡ first_of (first_entries t s false)
    unfolding first_of
    leading_at {e} {c} k =
        let n : Next t s places false (entries_on t s false w.at w.skipped) e c = subst (Gives t s places false (entries_on t s false w.at w.skipped)) k g in
        rw (← from-all f, n.is)

    -- and none where the level has no entry
    pub leading-none : {many : ℕ} → a ≡ End many → 0 ≡ first_of (first_entries t s false)
    unfolding first_of
    leading-none {many} k =
        let n : Ended t s places (entries_on t s false w.at w.skipped) many = subst (Gives t s places false (entries_on t s false w.at w.skipped)) k g in
        rw (← from-all f, n.is)
