-- The toggle of a word is its candidate or none, and what is told of the one that is found.
use Rattle.std.specs.Prelude.{None, Option, Some, is_some, unwrap_or, ℕ}
use mathlib.Core.Path.{◌≡◌, refl, sym, ap, ◌∙◌, subst}
use mathlib.Core.Bool.{Bool, true, false}
use mathlib.Core.List.{List, [], ◌∷◌}
use Prim.Native.Nat.{ℕ, zero, suc, ◌+◌, ◌/◌, ◌≤◌, ◌<◌}
use native.Mathlib.Omega.{arith}
use lib.ListN.{length, get_or, take}
use lib.Seq.{take_all, length-take-le, get_or-take}
use Rattle.base_lists.proofs.Bools.{by, clash, or-false-left, or-false-right, or-false-intro}
use Rattle.rules.specs.Text.{one_of}
use Rattle.rules.specs.State.{Toggle}
use Rattle.rules.specs.Conditionals.{is_toggle, is_on}
use Rattle.rules.proofs.TextLaws.{one_of-get_d}
use Rattle.text_lines.specs.declared.Signs.{Signs}
use Rattle.work_toggles.specs.Candidates.{candidate}
use Rattle.work_toggles.specs.Kept.{is_defined, toggle_at, toggles_in, Kept, no_toggle, First, PlaceIs, Slot}
use Rattle.work_toggles.proofs.AreaLaws.{toggle-on, word-is, toggles-length, toggles-get_d}

-- ## The search

-- none is, where each that is would be something else
none_of : {A : Type 0} (p : A → Bool) (xs : List A) (d : A) → ((j : ℕ) → j < length xs → p (get_or xs j d) ≡ true → ⊥) → one_of p xs ≡ false
unfolding one_of
none_of p [] d h = refl
none_of p (x ∷ xs) d h = or-false-intro (by (p x) (λ t. absurd (h 0 (omega arith) t)) (λ t. t)) (none_of p xs d (λ j l t. h (suc j) (omega arith) t))

module _ (g : Signs) {src work : List ℕ} {base n : ℕ} (w : List ℕ) {c : ℕ} (k : Kept g src work base n) (e : c ≡ candidate w work (base + 16) n) where
  -- no other toggle than the candidate can be the word's
  only : (i : ℕ) → i < n → is_toggle w (get_or (toggles_in g src work base n) i no_toggle) ≡ true → i ≡ c
  only i h t =
      let l = word-is g src (get_or work (base + i) 0) w (ap (is_toggle w) (sym (toggles-get_d g k i h)) ∙ t) in
      sym (k.decided i h) ∙ ap (λ (x : List ℕ). candidate x work (base + 16) n) (sym l) ∙ sym e

  pub find_none : n ≤ c → one_of (is_toggle w) (toggles_in g src work base n) ≡ false
  find_none h =
      let l = toggles-length g k in
      none_of (is_toggle w) (toggles_in g src work base n) no_toggle (λ j i t. let o = only j (omega arith) t in omega arith)

  module _ (h : c < n) where
    -- its word begins inside the source
    pub find-inside : get_or work (base + c) 0 / 2 ≤ length src
    find-inside = k.inside c h

    module _ {t : Bool} (f : t ≡ is_toggle w (toggle_at g src (get_or work (base + c) 0))) where
      pub find-miss : t ≡ false → one_of (is_toggle w) (toggles_in g src work base n) ≡ false
      find-miss y =
          let l = toggles-length g k in
          let ts = toggles_in g src work base n in
          none_of (is_toggle w) ts no_toggle
          (λ j i u. let o : j ≡ c = only j (omega arith) u in
          clash (ap (λ (x : ℕ). is_toggle w (get_or ts x no_toggle)) (sym o) ∙ u) (ap (is_toggle w) (toggles-get_d g k c h) ∙ sym f ∙ y))

      pub find-hit : t ≡ true → First w (toggles_in g src work base n) c
      find-hit y =
          let l = toggles-length g k in
          let ts = toggles_in g src work base n in
          let m = length-take-le c ts (omega arith) in
          record {
            inside = omega arith;
            there = ap (is_toggle w) (toggles-get_d g k c h) ∙ sym f ∙ y;
            before =
                none_of (is_toggle w) (take c ts) no_toggle
                (λ j i u. let o : j ≡ c = only j (omega arith) (ap (is_toggle w) (sym (get_or-take c ts j no_toggle (omega arith))) ∙ u) in omega arith);
          }

-- ## What is told of the one that is found

-- the first of a word is as it is told
on-first : (w : List ℕ) (ts : List Toggle) (i : ℕ) → i < length ts → is_toggle w (get_or ts i no_toggle) ≡ true → one_of (is_toggle w) (take i ts) ≡ false
    → is_on w ts ≡ (get_or ts i no_toggle).on
unfolding is_on one_of
on-first w [] i h t b = absurd (omega arith)
on-first w (x ∷ xs) zero h t b = rw t
on-first w (x ∷ xs) (suc i) h t b =
    rw (or-false-left (is_toggle w x) (one_of (is_toggle w) (take i xs)) b) (on-first w xs i (omega arith) t (or-false-right (is_toggle w x) (one_of (is_toggle w) (take i xs)) b))

on_none : (w : List ℕ) (ts : List Toggle) → one_of (is_toggle w) ts ≡ false → is_on w ts ≡ false
unfolding is_on one_of
on_none w [] b = refl
on_none w (x ∷ xs) b = rw (or-false-left (is_toggle w x) (one_of (is_toggle w) xs) b) (on_none w xs (or-false-right (is_toggle w x) (one_of (is_toggle w) xs) b))

module _ (w : List ℕ) (ts : List Toggle) {f : Option ℕ} (v : PlaceIs w ts f) where
  pub first-there : {i : ℕ} → f ≡ Some i → First w ts i
  first-there e = subst (PlaceIs w ts) e v

  knows-there : {i : ℕ} → f ≡ Some i → true ≡ one_of (is_toggle w) ts
  knows-there {i} e = let x = first-there e in sym (one_of-get_d (is_toggle w) ts i no_toggle x.inside x.there)

  none : f ≡ None → one_of (is_toggle w) ts ≡ false
  none e = subst (PlaceIs w ts) e v

  knows-none : f ≡ None → false ≡ one_of (is_toggle w) ts
  knows-none e = sym (none e)

  pub off-none : f ≡ None → false ≡ is_on w ts
  off-none e = sym (on_none w ts (none e))

  slot-there : {i : ℕ} → f ≡ Some i → Slot w ts i
  slot-there e = let x = first-there e in record { inside = omega (arith, x.inside); there = λ _. x.there; before = x.before }

pub knows-is : (w : List ℕ) (ts : List Toggle) (f : Option ℕ) → PlaceIs w ts f → {t : Bool} → t ≡ is_some f → t ≡ one_of (is_toggle w) ts
knows-is w ts None v e = e ∙ knows-none w ts v refl
knows-is w ts (Some i) v e = e ∙ knows-there w ts {f = Some i} v refl

module _ (g : Signs) {src work : List ℕ} {base n : ℕ} (w : List ℕ) {f : Option ℕ} (k : Kept g src work base n) (v : PlaceIs w (toggles_in g src work base n) f) where
  slot-behind : f ≡ None → Slot w (toggles_in g src work base n) n
  slot-behind e =
      let l = toggles-length g k in
      record {
        inside = omega arith;
        there = λ h. absurd (omega arith);
        before = ap (one_of (is_toggle w)) (take_all n (toggles_in g src work base n) (omega arith)) ∙ none w (toggles_in g src work base n) v e;
      }

  module _ {i : ℕ} (e : f ≡ Some i) where
    pub place-few : i < n
    place-few = let l = toggles-length g k in omega (arith, (first-there w (toggles_in g src work base n) v e).inside)

    pub place-room : base + i < length work
    place-room = omega (arith, place-few, k.room, k.few)

    pub on-there : {t : Bool} → t ≡ is_defined (get_or work (base + i) 0) → t ≡ is_on w (toggles_in g src work base n)
    on-there h =
        let x = first-there w (toggles_in g src work base n) v e in
        let ts = toggles_in g src work base n in
        h ∙ sym (on-first w ts i x.inside x.there x.before ∙ ap (λ (y : Toggle). y.on) (toggles-get_d g k i place-few) ∙ toggle-on g src (get_or work (base + i) 0))

pub slot-is : (g : Signs) (src work : List ℕ) (base n : ℕ) (w : List ℕ) (f : Option ℕ) → Kept g src work base n → PlaceIs w (toggles_in g src work base n) f
    → {i : ℕ} → i ≡ unwrap_or f n → Slot w (toggles_in g src work base n) i
slot-is g src work base n w None k v e = rw e (slot-behind g w k v refl)
slot-is g src work base n w (Some j) k v e = rw e (slot-there w (toggles_in g src work base n) {f = Some j} v refl)
