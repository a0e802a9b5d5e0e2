-- Cutting a string: an element more each time, and all of them where the string ends.
use mathlib.Core.Path.{◌≡◌, refl, sym, ◌∙◌}
use mathlib.Core.Bool.{true}
use mathlib.Core.List.{List, append-nil}
use Prim.Native.Nat.{ℕ, ◌+◌, ◌≤◌, ◌<◌}
use native.Mathlib.Numerals.{add-one}
use native.Mathlib.Omega.{arith}
use mir.Syntax.{w32}
use mir.Val.{Fits}
use lib.ListN.{length, take, drop, set, drop_of_length-le}
use lib.Seq.{take-suc-set, append_snoc}
use Rattle.rules.specs.Meaning.{Item}
use Rattle.rules.specs.Table.{accepted, meaning_in}
use Rattle.rules.specs.Order.{good_string, step_of, elements}
use Rattle.rules.proofs.KeyLaws.{good_string-length}
use Rattle.table_layout.specs.Parts.{Within}
use Rattle.table_layout.proofs.PartLaws.{table-good}
use Rattle.order_find.specs.Answer.{found_as}
use Rattle.order_find.specs.declared.Found.{Found}
use Rattle.order_find.proofs.FoundLaws.{good-characters, found-place, found-item, found-size, found_first}
use Rattle.order_elements.specs.Cuts.{Ready, Cut, CutOne, Split}

-- ## What is ready

-- a string that is not refused, and an area with a number for each of its characters
pub good-ready : {t s : List ℕ} (places : List ℕ) → accepted t ≡ true → good_string s ≡ true → length s ≤ length places → Ready t s places
good-ready {s = s} places h g k = record { checked = h; characters = good-characters s g; short = good_string-length s g; room = k }

-- an area that keeps its length still has room
pub ready-kept : {t s places : List ℕ} (after : List ℕ) → Ready t s places → length after ≡ length places → Ready t s after
ready-kept after r e = record { checked = r.checked; characters = r.characters; short = r.short; room = omega (arith, r.room) }

-- ## One element

module _ {t s places : List ℕ} {at : ℕ} {f : Found} (r : Ready t s places) (h : at < length s)
    (e : found_as f ≡ step_of (meaning_in t).items (drop at s)) where
  pub first-within : Within t f.place 0
  first-within = found-item t s r.checked h e

  pub place-fits : Fits w32 f.place
  place-fits = record { fits = omega (arith, (found-place t s r.checked h e).most, (table-good t r.checked).few-items) }

  pub cut-more : {many : ℕ} → Cut t s places at many → CutOne t s (set places many f.place) at many f
  cut-more {many} v =
      let is : List Item = (meaning_in t).items in
      let rest : List ℕ = elements is 0 (drop (at + f.size) s) in
      let k : many < length places = omega (arith, v.fewer, r.room) in
      let size = found-size t s r.checked h e in
      record {
        is = e;
        some = size.least;
        cut = record {
          to = omega (arith, size.most);
          fewer = omega (arith, v.fewer, size.least);
          same =
              rw (add-one many, take-suc-set places many f.place k, append_snoc (take many places) f.place rest, ← found_first t s r.checked h e) v.same;
        };
      }

-- ## All elements

-- some elements are cut, in an area that keeps its length
pub record Cutting (t s before places : List ℕ) (at many : ℕ) : Type 0 where
  pub ready : Ready t s places
  pub cut : Cut t s places at many
  pub kept : length places ≡ length before

pub cutting-none : (t s places : List ℕ) → Ready t s places → Cutting t s places places 0 0
cutting-none t s places r = record { ready = r; cut = record { to = omega arith; fewer = omega arith; same = refl }; kept = refl }

pub cutting-more : {t s before places after : List ℕ} {at many : ℕ} {f : Found} → Cutting t s before places at many
    → length after ≡ length places → CutOne t s after at many f → Cutting t s before after (at + f.size) (many + 1)
cutting-more {after = after} v e w = record { ready = ready-kept after v.ready e; cut = w.cut; kept = e ∙ v.kept }

-- where the string ends, all are cut
pub cut_all : {t s before places : List ℕ} {at many : ℕ} → Cutting t s before places at many → length s ≤ at → Split t s places many
unfolding elements
cut_all {s = s} {places = places} {many = many} v h = record {
  is = sym (append-nil (take many places)) ∙ (rw (drop_of_length-le s h) at v.cut.same);
  inside = omega (arith, v.cut.fewer, v.cut.to, v.ready.room);
}
