-- Whether a name is new: it is not shaped as a character, and what is sought in the area is its key.
use Rattle.std.specs.Prelude.{None, Option, Some, is_some, ℕ}
use mathlib.Core.Path.{◌≡◌, refl, sym, ap, ◌∙◌, subst}
use mathlib.Core.Bool.{Bool, true, false, not, false≢true}
use mathlib.Core.List.{List}
use Prim.Native.Nat.{ℕ, ◌*◌}
use lib.ListN.{length}
use Rattle.base_lists.proofs.Bools.{by, clash}
use Rattle.rules.specs.Names.{char_shaped}
use Rattle.rules.specs.State.{named}
use Rattle.rules.specs.OrderLines.{subject_of}
use Rattle.text_lines.specs.declared.Signs.{Signs}
use Rattle.text_lines.specs.declared.Spot.{Spot}
use Rattle.text_tokens.specs.Left.{is_inside}
use Rattle.base_units.specs.declared.CodePoint.{CodePoint}
use Rattle.text_names.specs.Named.{name_left, CharIs, CodeIs}
use Rattle.work_subjects.specs.Keys.{Key, item, key_at}
use Rattle.work_subjects.proofs.SpotLaws.{key_at-inside}
use Rattle.work_store.specs.Store.{Decl, is_found, known_in, Holds, Finds}
use Rattle.locale_symbols.specs.Symbols.{is_new_in, NewIs}

-- ## New names

pub new-shaped-not : (ds : List Decl) (n : List ℕ) → char_shaped n ≡ true → false ≡ is_new_in ds n
unfolding is_new_in
new-shaped-not ds n h = sym (rw h)

pub new_by : (ds : List Decl) (n : List ℕ) → char_shaped n ≡ false → is_new_in ds n ≡ not (known_in (item (named n)) ds)
unfolding is_new_in
new_by ds n h = rw h

-- a new name is not shaped as a character
pub new-shape : (ds : List Decl) (n : List ℕ) → is_new_in ds n ≡ true → char_shaped n ≡ false
unfolding is_new_in
new-shape ds n h = by (char_shaped n) (λ t. clash h (rw t)) (λ t. t)

-- such a name means itself
pub subject-named : (n : List ℕ) → char_shaped n ≡ false → subject_of n ≡ named n
unfolding subject_of
subject-named n h = rw h

-- what stands at its mark
pub key-named : (g : Signs) (src : List ℕ) (i : Spot) → is_inside i.mode ≡ true → char_shaped (name_left g src i) ≡ false
    → key_at g src (2 * i.at) ≡ item (named (name_left g src i))
key-named g src i h c = key_at-inside g src i h ∙ ap item (subject-named (name_left g src i) c)

-- ## What is found

-- something is declared with a key where it is found
pub known_is : {key : ℕ → Key} {len : ℕ} {w : List ℕ} {k : Key} {f : Option ℕ} → Finds key len w k f → (m : ℕ) (ds : List Decl) → Holds key len w m ds
    → known_in k ds ≡ is_found f
unfolding known_in
known_is v m ds h = ap is_found (sym (v.is m ds h))

module _ (g : Signs) (src w : List ℕ) (i : Spot) {c : Option CodePoint} (v : CodeIs (name_left g src i) c) where
  new-shaped : {x : CodePoint} → c ≡ Some x → NewIs (key_at g src) (length src) w (name_left g src i) false
  new-shaped {x} e =
      let z : CharIs (name_left g src i) x.0 = subst (CodeIs (name_left g src i)) e v in
      record { is = λ m ds h. new-shaped-not ds (name_left g src i) z.shaped }

  module _ (e : c ≡ None) (inside : is_inside i.mode ≡ true) {f : Option ℕ} (u : Finds (key_at g src) (length src) w (key_at g src (2 * i.at)) f) where
    new-found : NewIs (key_at g src) (length src) w (name_left g src i) (not (is_found f))
    new-found =
        let z : char_shaped (name_left g src i) ≡ false = subst (CodeIs (name_left g src i)) e v in
        record {
          is = λ m ds h. sym (new_by ds (name_left g src i) z
              ∙ ap not (ap (λ (k : Key). known_in k ds) (sym (key-named g src i inside z)) ∙ known_is u m ds h));
        }

    new-twice : {q : ℕ} → f ≡ Some q → NewIs (key_at g src) (length src) w (name_left g src i) false
    new-twice d = rw d at new-found

    new_none : f ≡ None → NewIs (key_at g src) (length src) w (name_left g src i) true
    new_none d = rw d at new-found

-- ## By the tests

module _ (g : Signs) (src w : List ℕ) (i : Spot) where
  pub new-shaped-as : (c : Option CodePoint) → CodeIs (name_left g src i) c → {b : Bool} → is_some c ≡ not b → b ≡ false
      → {t : Bool} → t ≡ false → NewIs (key_at g src) (length src) w (name_left g src i) t
  new-shaped-as None v s e h = absurd (false≢true (s ∙ ap not e))
  new-shaped-as (Some x) v s e h = rw h (new-shaped g src w i {c = Some x} v refl)

  pub new-unshaped : (c : Option CodePoint) → CodeIs (name_left g src i) c → {b : Bool} → is_some c ≡ not b → b ≡ true → is_inside i.mode ≡ true
      → (f : Option ℕ) → Finds (key_at g src) (length src) w (key_at g src (2 * i.at)) f → (t : Bool) → is_some f ≡ not t
      → NewIs (key_at g src) (length src) w (name_left g src i) t
  new-unshaped (Some x) v s e m f u t h = absurd (false≢true (sym (s ∙ ap not e)))
  new-unshaped None v s e m None u true h = new_none g src w i {c = None} v refl m {f = None} u refl
  new-unshaped None v s e m None u false h = absurd (false≢true h)
  new-unshaped None v s e m (Some q) u true h = absurd (false≢true (sym h))
  new-unshaped None v s e m (Some q) u false h = new-twice g src w i {c = None} v refl m {f = Some q} u refl
