-- The entries that a walk has still to come: element by element, weight by weight.
use Rattle.std.specs.Prelude.{Option}
use mathlib.Core.Path.{◌≡◌, refl, sym, ◌∙◌, subst}
use mathlib.Core.Bool.{Bool, true, false, cond}
use mathlib.Core.List.{List, [], ◌∷◌, map, reverse}
use Prim.Native.Nat.{ℕ, suc, ◌+◌, ◌-◌, ◌≤◌, ◌<◌}
use native.Mathlib.Numerals.{add-one}
use native.Mathlib.Omega.{arith}
use lib.ListN.{length, get_or, take, drop, length-map, length-reverse, drop_of_length-le}
use Rattle.base_lists.proofs.Bools.{cond-true, cond-false, cond_both}
use Rattle.base_lists.proofs.Lists.{All, All-get_d, All-reverse, map-reverse, drop-map-cons}
use Rattle.base_lists.proofs.Places.{get_d_reverse}
use Rattle.base_lists.proofs.Runs.{run-first}
use Rattle.rules.specs.Meaning.{Rule}
use Rattle.rules.specs.Table.{meaning_in}
use Rattle.rules.specs.Order as order
use Rattle.rules.specs.Order.{weights_at, more, entries_from, walked, level_entries}
use Rattle.rules.proofs.ElementLaws.{UpTo}
use Rattle.table_layout.specs.Parts.{Within, Holds}
use Rattle.table_layout.specs.declared.Run.{Run}
use Rattle.base_units.specs.declared.Rank.{Rank}
use Rattle.order_entries.specs.declared.Entry.{Entry}
use Rattle.order_entries.specs.declared.Cursor.{Cursor}
use Rattle.order_entries.specs.Walk.{directed, Level, Sound, fresh, entries_on, entries_left, First, Gives}

-- ## The direction

pub directed-backward : (ps : List ℕ) (i : ℕ) {b : Bool} → b ≡ true → i < length ps → get_or ps (length ps - 1 - i) 0 ≡ get_or (directed b ps) i 0
unfolding directed
directed-backward ps i e h = rw (cond-true (reverse ps) ps e) (sym (get_d_reverse ps i 0 h))

pub directed-forward : (ps : List ℕ) (i : ℕ) {b : Bool} → b ≡ false → get_or ps i 0 ≡ get_or (directed b ps) i 0
unfolding directed
directed-forward ps i e = rw (cond-false (reverse ps) ps e)

directed-length : (b : Bool) (ps : List ℕ) → length (directed b ps) ≡ length ps
unfolding directed
directed-length b ps = cond_both (λ (qs : List ℕ). length qs ≡ length ps) b (length-reverse ps) refl

directed-all : (P : ℕ → Type 0) (b : Bool) (ps : List ℕ) → All P ps → All P (directed b ps)
unfolding directed
directed-all P b ps a = cond_both (All P) b (All-reverse P ps a) a

-- the weights of elements in the direction walked are those of the places in that direction
walked-directed : (r : Rule) (f : ℕ → List ℕ) (ps : List ℕ) → walked r (map f ps) ≡ map f (directed r.backward ps)
unfolding walked directed
walked-directed r f ps = go r.backward
  where
    go : (b : Bool) → cond b (reverse (map f ps)) (map f ps) ≡ map f (cond b (reverse ps) ps)
    go true = sym (map-reverse f ps)
    go false = refl

-- ## Element by element

-- the weights of the element that is i-th in the direction walked
abbrev pub weights_on : List ℕ → List ℕ → ℕ → Rule → ℕ → List ℕ
weights_on t places level rule i = weights_at (meaning_in t).items level (get_or (directed rule.backward places) i 0)

module _ (t places : List ℕ) (level : ℕ) (rule : Rule) where
  -- past the last element there is nothing
  pub on_none : (i n : ℕ) → length places ≤ i → entries_on t places level rule i n ≡ []
  unfolding entries_on entries_from
  on_none i n h =
      let f : ℕ → List ℕ = weights_at (meaning_in t).items level in
      let l : length (map f (directed rule.backward places)) ≤ i = rw (length-map (directed rule.backward places) f, directed-length rule.backward places) h in
      rw (walked-directed rule f places, drop_of_length-le (map f (directed rule.backward places)) l)

  -- one element
  pub on-element : (i n : ℕ) → i < length places
      → entries_on t places level rule i n
      ≡ entries_from rule.position n
      (weights_on t places level rule i ∷ drop (suc i) (walked rule (map (weights_at (meaning_in t).items level) places)))
  unfolding entries_on
  on-element i n h =
      let f : ℕ → List ℕ = weights_at (meaning_in t).items level in
      let qs : List ℕ = directed rule.backward places in
      rw (walked-directed rule f places, drop-map-cons f qs i 0 (rw (directed-length rule.backward places) h))

  -- an element without a weight is counted
  pub on-skip : (i n : ℕ) → i < length places → weights_on t places level rule i ≡ []
      → entries_on t places level rule i n ≡ entries_on t places level rule (i + 1) (n + 1)
  unfolding entries_on entries_from
  on-skip i n h e = on-element i n h ∙ rw (e, add-one i, add-one n)

  -- an element with weights gives an entry for each
  pub on-take : (i n w : ℕ) (ws : List ℕ) → i < length places → weights_on t places level rule i ≡ w ∷ ws
      → entries_on t places level rule i n
      ≡ record { count = cond rule.position n 0; weight = w } ∷ more ws (entries_on t places level rule (i + 1) 0)
  unfolding entries_on entries_from
  on-take i n w ws h e = on-element i n h ∙ rw (e, add-one i)

  -- the whole level
  pub on-all : entries_on t places level rule 0 0 ≡ level_entries (meaning_in t).items rule level places
  unfolding entries_on level_entries
  on-all = refl

-- ## Weight by weight

module _ (t places : List ℕ) (level : ℕ) (rule : Rule) where
  -- a fresh walk has the whole level to come
  pub fresh-entries : entries_left t places level rule fresh ≡ level_entries (meaning_in t).items rule level places
  unfolding entries_left more
  fresh-entries = on-all t places level rule

  pub fresh-sound : Sound t places fresh
  fresh-sound = record { passed = omega arith; skipped = omega arith; inside = λ h. absurd (omega arith) }

  -- with no weight left of the element, it has those of the elements not passed
  pub left-none : (c : Cursor) → c.left ≤ 0 → entries_left t places level rule c ≡ entries_on t places level rule c.passed c.skipped
  unfolding entries_left more
  left-none c h = let e : c.left ≡ 0 = omega arith in rw e

  pub left-on : (c : Cursor) (r : Option (Entry × Cursor)) → c.left ≤ 0 → Gives t places level rule (entries_on t places level rule c.passed c.skipped) r
      → Gives t places level rule (entries_left t places level rule c) r
  left-on c r h g = subst (λ (es : List order.Entry). Gives t places level rule es r) (sym (left-none c h)) g

  -- the next weight of the element
  pub left-more : (c : Cursor) (r : Rank) → Sound t places c → 0 < c.left → r.0 ≡ get_or t c.from 0
      → First t places level rule (entries_left t places level rule c) (record { count = 0; rank = r })
      (record { passed = c.passed; from = c.from + 1; left = c.left - 1; skipped = c.skipped })
  unfolding entries_left more
  left-more c r s h e = record {
    is = rw (run-first t c.from c.left h (s.inside h), e);
    sound = record { passed = s.passed; skipped = s.skipped; inside = λ l. let k = s.inside h in omega arith };
  }

-- ## Passing elements without a weight

-- what is to come is what the i-th element walked and those after it give, the n before it having no weight
pub record Passing (t places : List ℕ) (level : ℕ) (rule : Rule) (passed skipped i n : ℕ) : Type 0 where
  pub to : i ≤ length places
  pub less : n ≤ i
  pub same : entries_on t places level rule passed skipped ≡ entries_on t places level rule i n

pub passing-none : (t places : List ℕ) (level : ℕ) (rule : Rule) (passed skipped : ℕ) → passed ≤ length places → skipped ≤ passed
    → Passing t places level rule passed skipped passed skipped
passing-none t places level rule passed skipped h k = record { to = h; less = k; same = refl }

-- the element's place is one of the table's
pub element-within : {t places : List ℕ} {level : ℕ} (b : Bool) (i : ℕ) {place : ℕ} → Level t places level → i < length places
    → place ≡ get_or (directed b places) i 0 → Within t place level
element-within {t} {places} b i v h e =
    let l : i < length (directed b places) = rw (directed-length b places) h in
    let u : UpTo (length (meaning_in t).items) (get_or (directed b places) i 0) =
    All-get_d (UpTo (length (meaning_in t).items)) (directed b places) i 0 l
    (directed-all (UpTo (length (meaning_in t).items)) b places v.listed) in
    record { checked = v.checked; from_one = omega (arith, u.least); in-items = omega (arith, u.most); in-levels = v.in-levels }

-- the first of an element's weights is in the table
pub held_first : {t : List ℕ} {r : Run} {ws : List ℕ} → Holds t r ws → 0 < r.count → r.from < length t
held_first w h = omega (arith, w.inside h)

module _ {t places : List ℕ} {level : ℕ} {rule : Rule} {passed skipped i n : ℕ} (v : Passing t places level rule passed skipped i n) where
  pub passing-end : length places ≤ i → entries_on t places level rule passed skipped ≡ []
  passing-end h = v.same ∙ on_none t places level rule i n h

  module _ {place : ℕ} {run : Run} (h : i < length places) (e : place ≡ get_or (directed rule.backward places) i 0)
      (w : Holds t run (weights_at (meaning_in t).items level place)) where
    held : take run.count (drop run.from t) ≡ weights_on t places level rule i
    held = rw (← e) w.is

    pub passing-more : run.count ≤ 0 → Passing t places level rule passed skipped (i + 1) (n + 1)
    passing-more k =
        let z : run.count ≡ 0 = omega arith in
        record {
          to = omega arith;
          less = omega (arith, v.less);
          same = v.same ∙ on-skip t places level rule i n h (sym (rw z at held));
        }

    pub passing-found : {count : ℕ} {r : Rank} → 0 < run.count → r.0 ≡ get_or t run.from 0 → count ≡ cond rule.position n 0
        → First t places level rule (entries_on t places level rule passed skipped) (record { count = count; rank = r })
        (record { passed = i + 1; from = run.from + 1; left = run.count - 1; skipped = 0 })
    unfolding entries_left
    passing-found {count} {r} k g f =
        let m : run.from + run.count ≤ length t = w.inside k in
        let first : weights_on t places level rule i ≡ r.0 ∷ take (run.count - 1) (drop (run.from + 1) t) =
        sym held ∙ run-first t run.from run.count k m ∙ rw g in
        record {
          is = v.same ∙ on-take t places level rule i n r.0 (take (run.count - 1) (drop (run.from + 1) t)) h first ∙ rw f;
          sound = record { passed = omega arith; skipped = omega arith; inside = λ l. omega arith };
        }
