-- Toggles as the numbers of an area: what a number stands for, and what is kept where the area changes elsewhere.
use mathlib.Core.Path.{◌≡◌, refl, sym, ap, ◌∙◌}
use mathlib.Core.Bool.{Bool, true, false}
use mathlib.Core.List.{List, map}
use Prim.Native.Nat.{ℕ, ◌+◌, ◌*◌, ◌/◌, ◌%◌, ◌≤◌, ◌<◌}
use native.Mathlib.Omega.{arith}
use lib.ListN.{length, get_or, take, drop, length-map, length-drop, get_or-map}
use lib.Seq.{ext_get_or, length-take-le, get_or-take, get_or-drop}
use Rattle.base_lists.proofs.Places.{get_d_default}
use Rattle.rules.specs.Text.{same}
use Rattle.rules.specs.Conditionals.{is_toggle}
use Rattle.rules.proofs.TextLaws.{same_true}
use Rattle.text_lines.specs.declared.Signs.{Signs}
use Rattle.text_lines.specs.declared.Spot.{Spot}
use Rattle.text_lines.specs.Stream.{line_start}
use Rattle.work_toggles.specs.Kept.{word_left, word_of, is_defined, toggle, toggle_at, stored_as, toggles_in, Kept, no_toggle}
use Rattle.work_toggles.proofs.CandidateLaws.{candidate-same}

-- ## The number of a toggle

pub stored_on : (at : ℕ) {on : Bool} → on ≡ true → at * 2 + 1 ≡ stored_as at on
unfolding stored_as
stored_on at e = rw e

pub stored-off : (at : ℕ) {on : Bool} → on ≡ false → at * 2 ≡ stored_as at on
unfolding stored_as
stored-off at e = rw e

-- where its word begins
pub stored-place : (at : ℕ) (on : Bool) → stored_as at on / 2 ≡ at
unfolding stored_as
stored-place at true = omega arith
stored-place at false = omega arith

stored-defined : (at : ℕ) (on : Bool) → is_defined (stored_as at on) ≡ on
unfolding stored_as
stored-defined at true = let e : (at * 2 + 1) % 2 ≡ 1 = omega arith in rw e
stored-defined at false = let e : (at * 2) % 2 ≡ 0 = omega arith in rw e

pub stored-toggle : (g : Signs) (src : List ℕ) (at : ℕ) (on : Bool) → toggle_at g src (stored_as at on) ≡ toggle (word_left g src (line_start at)) on
unfolding toggle_at
stored-toggle g src at on = rw (stored-place at on, stored-defined at on)

pub toggle-on : (g : Signs) (src : List ℕ) (v : ℕ) → (toggle_at g src v).on ≡ is_defined v
unfolding toggle_at
toggle-on g src v = refl

-- ## The word of a toggle

pub spot-there : (v : ℕ) {at : ℕ} → at ≡ v / 2 → line_start at ≡ line_start (v / 2)
spot-there v e = ap line_start e

pub spot-inside : {p : Spot} (v : ℕ) (src : List ℕ) → p ≡ line_start (v / 2) → v / 2 ≤ length src → p.at ≤ length src
spot-inside v src e h = rw e h

-- the word at a spot beside the toggle's
pub label_is : (g : Signs) (src : List ℕ) (v : ℕ) (p q : Spot) {t : Bool} → p ≡ line_start (v / 2) → t ≡ same (word_left g src q) (word_left g src p)
    → t ≡ is_toggle (word_left g src q) (toggle_at g src v)
unfolding is_toggle toggle_at
label_is g src v p q e f = f ∙ ap (λ (x : Spot). same (word_left g src q) (word_left g src x)) e

pub word-is : (g : Signs) (src : List ℕ) (v : ℕ) (w : List ℕ) → is_toggle w (toggle_at g src v) ≡ true → w ≡ word_of g src v
unfolding is_toggle toggle_at
word-is g src v w h = same_true w (word_of g src v) h

-- ## Toggles in an area

module _ (work : List ℕ) (base n : ℕ) (room : base + n ≤ length work) where
  numbers : length (take n (drop base work)) ≡ n
  numbers = length-take-le n (drop base work) (rw (length-drop base work) (omega arith))

  number_at : (i : ℕ) → i < n → get_or (take n (drop base work)) i 0 ≡ get_or work (base + i) 0
  number_at i h = get_or-take n (drop base work) i 0 h ∙ get_or-drop base work i 0

module _ (g : Signs) {src work : List ℕ} {base n : ℕ} (k : Kept g src work base n) where
  pub toggles-room : base + n ≤ length work
  toggles-room = omega (arith, k.room, k.few)

  pub toggles-length : length (toggles_in g src work base n) ≡ n
  unfolding toggles_in
  toggles-length = length-map (take n (drop base work)) (toggle_at g src) ∙ numbers work base n toggles-room

  pub toggles-get_d : (i : ℕ) → i < n → get_or (toggles_in g src work base n) i no_toggle ≡ toggle_at g src (get_or work (base + i) 0)
  unfolding toggles_in
  toggles-get_d i h =
      let l = toggles-length in
      get_d_default (map (toggle_at g src) (take n (drop base work))) i no_toggle (toggle_at g src 0) (omega arith)
      ∙ get_or-map (toggle_at g src) (take n (drop base work)) i 0
      ∙ ap (toggle_at g src) (number_at work base n toggles-room i h)

-- ## Where an area changes elsewhere only

-- the toggles stay where their numbers do
pub toggles-alike : (g : Signs) (src before after : List ℕ) (base n : ℕ) → base + n ≤ length before → length after ≡ length before
    → ((i : ℕ) → i < n → get_or after (base + i) 0 ≡ get_or before (base + i) 0) → toggles_in g src after base n ≡ toggles_in g src before base n
unfolding toggles_in
toggles-alike g src before after base n room long stays =
    let r : base + n ≤ length after = omega arith in
    let a = numbers after base n r in
    let b = numbers before base n room in
    ap (map (toggle_at g src))
    (ext_get_or 0 (take n (drop base after)) (take n (drop base before)) (a ∙ sym b) (λ i h.
    let l : i < n = omega arith in
    number_at after base n r i l ∙ stays i l ∙ sym (number_at before base n room i l)))

module _ {g : Signs} {src before : List ℕ} {base n : ℕ} (after : List ℕ) (k : Kept g src before base n) (long : length after ≡ length before)
    (stays : (i : ℕ) → base ≤ i → i < base + 32 → get_or after i 0 ≡ get_or before i 0) where
  -- all of them are kept
  pub kept_same : Kept g src after base n
  kept_same =
      let r = k.room in
      let f = k.few in
      let number : (i : ℕ) → i < n → get_or after (base + i) 0 ≡ get_or before (base + i) 0 = λ i l. stays (base + i) (omega arith) (omega arith) in
      record {
        room = omega arith;
        few = f;
        inside = λ i l. let e = number i l in rw e (k.inside i l);
        proper = λ i l. let e = number i l in rw e (k.proper i l);
        decided = λ i l. let e = number i l in
            rw e (candidate-same (word_of g src (get_or before (base + i) 0)) before after (base + 16) n (λ j m. stays (base + 16 + j) (omega arith) (omega arith)) ∙ k.decided i l);
      }

  pub toggles-same : toggles_in g src after base n ≡ toggles_in g src before base n
  toggles-same = let f = k.few in toggles-alike g src before after base n (toggles-room g k) long (λ i l. stays (base + i) (omega arith) (omega arith))
