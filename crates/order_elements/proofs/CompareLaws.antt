-- Comparing two first levels entry by entry, both strings cut on the way.
use mathlib.Core.Path.{◌≡◌, refl, sym, ap, ◌∙◌, subst}
use mathlib.Core.Bool.{Bool, false}
use mathlib.Core.List.{List}
use Prim.Native.Nat.{ℕ, ◌+◌, ◌≤◌, ◌<◌}
use native.Mathlib.Numerals.{add-one}
use native.Mathlib.Omega.{arith}
use lib.ListN.{length}
use Rattle.rules.specs.Table.{meaning_in}
use Rattle.rules.specs.Order as order
use Rattle.rules.specs.Order.{sign_entry, less, equal, greater, elements}
use Rattle.rules.proofs.EntryLaws.{level-length}
use Rattle.rules.proofs.ElementLaws.{elements-length}
use Rattle.rules.proofs.PassedLaws.{seen, seen-passed, seen-less, seen-greater, seen-ends, seen-ends-first, seen-ends-second}
use Rattle.table_layout.proofs.PartLaws.{table-good}
use Rattle.base_units.specs.Numbers.{sign_of}
use Rattle.std.specs.declared.cmp.Ordering.{Ordering}
use Rattle.std.specs.declared.cmp.Ordering.TheVariants.{Less, Equal, Greater}
use Rattle.order_entries.specs.Walk.{entry_as}
use Rattle.order_entries.specs.declared.Entry.{Entry}
use Rattle.order_elements.specs.declared.Walk.{Walk}
use Rattle.order_elements.specs.declared.Ahead.{Ahead}
use Rattle.order_elements.specs.declared.Ahead.TheVariants.{One, End}
use Rattle.order_elements.specs.declared.Meeting.{Meeting}
use Rattle.order_elements.specs.declared.Meeting.TheVariants.{Before, After, Over, On}
use Rattle.order_elements.specs.declared.Pair.{Pair}
use Rattle.order_elements.specs.Cuts.{Ready}
use Rattle.order_elements.specs.Commons.{Together}
use Rattle.order_elements.specs.Firsts.{entries_left, first_entries, fresh, Sound, Gives, met_by, meeting, Goes, Meets, Ends, Agrees}
use Rattle.order_elements.proofs.CutLaws.{ready-kept}
use Rattle.order_elements.proofs.FirstLaws.{fresh-entries, fresh-sound}

-- ## Two next entries

module _ {p q : Ahead} where
  pub meet-over : {k l : ℕ} → p ≡ End k → q ≡ End l → Over k l ≡ meeting p q
  meet-over i j = rw (i, j)

  module _ {e f : Entry} {c d : Walk} (i : p ≡ One e c) (j : q ≡ One f d) where
    pub meet-before : {s : Ordering} → sign_of s ≡ sign_entry (entry_as e) (entry_as f) → s ≡ Less → Before ≡ meeting p q
    meet-before k z = rw (i, j, ← k, z)

    pub meet-after : {s : Ordering} → sign_of s ≡ sign_entry (entry_as e) (entry_as f) → s ≡ Greater → After ≡ meeting p q
    meet-after k z = rw (i, j, ← k, z)

    pub meet-on : {s : Ordering} → sign_of s ≡ sign_entry (entry_as e) (entry_as f) → s ≡ Equal → On c d ≡ meeting p q
    meet-on k z = rw (i, j, ← k, z)

-- what a meeting says of the entries still to come
module _ (t a b as' bs : List ℕ) (position : Bool) (es fs : List order.Entry) where
  met : (p q : Ahead) → Gives t a as' position es p → Gives t b bs position fs q → Meets t a b as' bs position es fs (meeting p q)
  met (End k) (End l) g h = (g, h)
  met (End k) (One f d) g h = λ n. rw (g.is, h.is) (sym (seen-ends-first (entry_as f) (entries_left t b position d) n))
  met (One e c) (End l) g h = λ n. rw (g.is, h.is) (sym (seen-ends-second (entry_as e) (entries_left t a position c) n))
  met (One e c) (One f d) g h = go (sign_entry (entry_as e) (entry_as f)) refl
    where
      go : (z : order.Sign) → sign_entry (entry_as e) (entry_as f) ≡ z → Meets t a b as' bs position es fs (met_by z c d)
      go less z = λ n. rw (g.is, h.is) (sym (seen-less (entry_as e) (entry_as f) (entries_left t a position c) (entries_left t b position d) n z))
      go greater z = λ n. rw (g.is, h.is) (sym (seen-greater (entry_as e) (entry_as f) (entries_left t a position c) (entries_left t b position d) n z))
      go equal z = record {
        first = g.sound;
        second = h.sound;
        fewer = ap length g.is;
        same = λ n. rw (g.is, h.is) (seen-passed (entry_as e) (entry_as f) (entries_left t a position c) (entries_left t b position d) n z);
      }

  pub meets : (p q : Ahead) {r : Meeting} → Gives t a as' position es p → Gives t b bs position fs q → r ≡ meeting p q
      → Meets t a b as' bs position es fs r
  meets p q g h m = subst (Meets t a b as' bs position es fs) (sym m) (met p q g h)

-- ## Two levels

-- one walk: its string, its area as it was and is, and where it stands
pub record Walking (t s before places : List ℕ) (c : Walk) : Type 0 where
  pub ready : Ready t s places
  pub sound : Sound t s places c
  pub kept : length places ≡ length before

-- n entries were passed as equal, and what the two walks have still to come decides
pub record Comparing (t a b as₀ bs₀ as' bs : List ℕ) (position : Bool) (x y : Walk) (n : ℕ) : Type 0 where
  pub first : Walking t a as₀ as' x
  pub second : Walking t b bs₀ bs y
  pub few : n + length (entries_left t a position x) ≤ 32768
  pub same : seen (entries_left t a position x) (entries_left t b position y) n ≡ seen (first_entries t a position) (first_entries t b position) 0

first-length : {t s places : List ℕ} (position : Bool) → Ready t s places → length (first_entries t s position) ≤ 32768
unfolding first_entries
first-length {t} {s} position r =
    omega (
      arith,
      level-length (length (meaning_in t).rules) (meaning_in t).items (table-good t r.checked).items
          (record { backward = false; position = position }) 0 (elements (meaning_in t).items 0 s),
      elements-length (meaning_in t).items 0 s,
      r.short,
    )

pub comparing-none : {t a b as' bs : List ℕ} (position : Bool) {x y : Walk} → Ready t a as' → Ready t b bs → x ≡ fresh → y ≡ fresh
    → Comparing t a b as' bs as' bs position x y 0
comparing-none {t} {a} {b} {as'} {bs} position r q e f =
    rw (e, f)
    (record {
      first = record { ready = r; sound = fresh-sound t a as' r; kept = refl };
      second = record { ready = q; sound = fresh-sound t b bs q; kept = refl };
      few = rw (fresh-entries t a position) (omega (arith, first-length position r));
      same = rw (fresh-entries t a position, fresh-entries t b position);
    })

-- what the walks go on together changes nothing
pub comparing-on : {t a b as₀ bs₀ as' bs as₁ bs₁ : List ℕ} {position : Bool} {x y : Walk} {n : ℕ} {r : Pair}
    → Comparing t a b as₀ bs₀ as' bs position x y n → length as₁ ≡ length as' → length bs₁ ≡ length bs → Together t a b as₁ bs₁ x y n r
    → Comparing t a b as₀ bs₀ as₁ bs₁ position r.x r.y r.agreed
comparing-on {as₁ = as₁} {bs₁} {position} v k l w = record {
  first = record { ready = ready-kept as₁ v.first.ready k; sound = w.first; kept = k ∙ v.first.kept };
  second = record { ready = ready-kept bs₁ v.second.ready l; sound = w.second; kept = l ∙ v.second.kept };
  few = omega (arith, v.few, w.all position);
  same = sym (w.same position) ∙ v.same;
}

-- and leaves no more entries
pub fewer-on : {t a b as' bs : List ℕ} {x y : Walk} {n : ℕ} {r : Pair} (position : Bool) (m : ℕ) → Together t a b as' bs x y n r
    → m < length (entries_left t a position r.x) → m < length (entries_left t a position x)
fewer-on position m w h = omega (arith, w.rises, w.all position)

-- an answer with a sign of one's own
told : {t a b as₀ bs₀ as' bs : List ℕ} {position : Bool} {x y : Walk} {n : ℕ} {z : order.Sign}
    → Comparing t a b as₀ bs₀ as' bs position x y n
    → record { sign = z; agreed = n } ≡ seen (entries_left t a position x) (entries_left t b position y) n → Ends t a b position z n
told v e = record { is = e ∙ v.same; small = omega (arith, v.few) }

module _ {t a b as₀ bs₀ as' bs : List ℕ} {position : Bool} {x y : Walk} {n : ℕ} (as₁ bs₁ : List ℕ) (r : Meeting)
    (v : Comparing t a b as₀ bs₀ as' bs position x y n)
    (g : Meets t a b as₁ bs₁ position (entries_left t a position x) (entries_left t b position y) r) where
  met-as : {z : Meeting} → r ≡ z → Meets t a b as₁ bs₁ position (entries_left t a position x) (entries_left t b position y) z
  met-as e = subst (Meets t a b as₁ bs₁ position (entries_left t a position x) (entries_left t b position y)) e g

  pub first-before : r ≡ Before → Ends t a b position less n
  first-before e = told v (met-as e n)

  pub first-after : r ≡ After → Ends t a b position greater n
  first-after e = told v (met-as e n)

  pub first-same : {k l : ℕ} → r ≡ Over k l → Agrees t a b as₁ bs₁ position (record { agreed = n; first = k; second = l })
  first-same {k} {l} e =
      let (i, j) = met-as e in
      record { ends = told v (rw (i.is, j.is) (sym (seen-ends n))); first = i.split; second = j.split }

  module _ {c d : Walk} (e : r ≡ On c d) where
    goes : Goes t a b as₁ bs₁ position (entries_left t a position x) (entries_left t b position y) c d
    goes = met-as e

    pub comparing-more : length as₁ ≡ length as' → length bs₁ ≡ length bs → Comparing t a b as₀ bs₀ as₁ bs₁ position c d (n + 1)
    comparing-more k l = record {
      first = record { ready = ready-kept as₁ v.first.ready k; sound = goes.first; kept = k ∙ v.first.kept };
      second = record { ready = ready-kept bs₁ v.second.ready l; sound = goes.second; kept = l ∙ v.second.kept };
      few = omega (arith, v.few, goes.fewer);
      same = rw (add-one n) (sym (goes.same n) ∙ v.same);
    }

    -- an entry taken leaves fewer
    pub comparing-fewer : length (entries_left t a position c) < length (entries_left t a position x)
    comparing-fewer = omega (arith, goes.fewer)
