-- What two strings have in common, cut once for both.
use mathlib.Core.Path.{◌≡◌, refl, sym, ap, ◌∙◌}
use mathlib.Core.Bool.{Bool, true}
use mathlib.Core.List.{List, [], ◌++◌, map, append-nil}
use Prim.Native.Nat.{ℕ, min, ◌+◌, ◌-◌, ◌≤◌, ◌<◌}
use native.Mathlib.Nat.{add-zero}
use native.Mathlib.Omega.{arith}
use mir.Syntax.{w32, w64}
use mir.Val.{Fits}
use borrow.Author.Count.{below_more}
use lib.Dec.{eqb}
use lib.ListN.{length, get_or, take, drop, set, length-set, length-drop, take-append-drop}
use lib.Seq.{length-take-le, get_or-take, get_or-drop, ext_get_or}
use Rattle.base_lists.proofs.Bools.{cond_both}
use Rattle.base_lists.proofs.Runs.{run-first}
use Rattle.rules.specs.Text.{every}
use Rattle.rules.specs.Names.{is_character}
use Rattle.rules.specs.Meaning.{Item}
use Rattle.rules.specs.Table.{accepted, meaning_in}
use Rattle.rules.specs.Order.{Step, step_of, elements, weights_at}
use Rattle.rules.proofs.TextLaws.{every-at}
use Rattle.rules.proofs.ElementLaws.{step-size}
use Rattle.rules.proofs.PassedLaws.{seen}
use Rattle.table_layout.specs.Parts.{Within, Many}
use Rattle.table_layout.proofs.PartLaws.{table-good}
use Rattle.order_find.specs.Answer.{found_as, Alone}
use Rattle.order_find.specs.declared.Found.{Found}
use Rattle.order_entries.specs.Walk.{level_with, skipped_after}
use Rattle.order_entries.proofs.BothLaws.{Abreast, abreast}
use Rattle.order_elements.specs.declared.Walk.{Walk}
use Rattle.order_elements.specs.declared.Common.{Common}
use Rattle.order_elements.specs.Cuts.{Ready, CutOne}
use Rattle.order_elements.specs.Firsts.{entries_on, Sound}
use Rattle.order_elements.specs.Commons.{Shared, Begins, Level, Further, Both, Together}
use Rattle.order_elements.proofs.AlikeLaws.{step-front, seen-element, entries-element}
use Rattle.order_find.proofs.FoundLaws.{found-size, found_first}
use Rattle.order_elements.proofs.CutLaws.{ready-kept, first-within, place-fits, cut-more}
use Rattle.order_elements.proofs.FirstLaws.{left-none}

-- ## Characters in common

-- the first n of at most `end` are the same
pub record Matching (a : List ℕ) (i : ℕ) (b : List ℕ) (j end n : ℕ) : Type 0 where
  pub first : i ≤ length a
  pub second : j ≤ length b
  pub least : end ≡ min (length a - i) (length b - j)
  pub within : n ≤ end
  pub same : (m : ℕ) → m < n → get_or a (i + m) 0 ≡ get_or b (j + m) 0

module _ {a : List ℕ} {i : ℕ} {b : List ℕ} {j end : ℕ} where
  pub matching-none : i ≤ length a → j ≤ length b → end ≡ min (length a - i) (length b - j) → Matching a i b j end 0
  matching-none h k s = record { first = h; second = k; least = s; within = omega arith; same = λ m l. absurd (omega arith) }

  module _ {n : ℕ} (v : Matching a i b j end n) where
    pub matching-more : n < end → get_or a (i + n) 0 ≡ get_or b (j + n) 0 → Matching a i b j end (n + 1)
    matching-more h e = record {
      first = v.first;
      second = v.second;
      least = v.least;
      within = omega arith;
      same = below_more (λ (m : ℕ). get_or a (i + m) 0 ≡ get_or b (j + m) 0) n v.same e;
    }

    pub matching-some : (get_or a (i + n) 0 ≡ get_or b (j + n) 0 → ⊥) → Shared a i b j n
    matching-some f = record {
      first = omega (arith, v.within, v.first, v.least);
      second = omega (arith, v.within, v.second, v.least);
      same = v.same;
      stop = λ h k. f;
    }

    pub matching-all : end ≤ n → Shared a i b j end
    matching-all h = record {
      first = omega (arith, v.within, v.first, v.least);
      second = omega (arith, v.within, v.second, v.least);
      same = λ m l. v.same m (omega arith);
      stop = λ l m. absurd (omega (arith, v.least, v.within, v.first, v.second));
    }

-- what is left of them
shared-rest : {a b : List ℕ} {i j end : ℕ} (size : ℕ) → Shared a i b j end → size ≤ end
    → take (end - size) (drop (i + size) a) ≡ take (end - size) (drop (j + size) b)
shared-rest {a} {b} {i} {j} {end} size v h =
    ext_get_or 0 (take (end - size) (drop (i + size) a)) (take (end - size) (drop (j + size) b)) (long ∙ sym long') same
  where
    long : length (take (end - size) (drop (i + size) a)) ≡ end - size
    long = length-take-le (end - size) (drop (i + size) a) (rw (length-drop (i + size) a) (omega (arith, v.first)))

    long' : length (take (end - size) (drop (j + size) b)) ≡ end - size
    long' = length-take-le (end - size) (drop (j + size) b) (rw (length-drop (j + size) b) (omega (arith, v.second)))

    same : (m : ℕ) → m < length (take (end - size) (drop (i + size) a))
        → get_or (take (end - size) (drop (i + size) a)) m 0 ≡ get_or (take (end - size) (drop (j + size) b)) m 0
    same m l =
        let k : m < end - size = rw long at l in
        let e : i + size + m ≡ i + (size + m) = omega arith in
        let e' : j + size + m ≡ j + (size + m) = omega arith in
        rw (
          get_or-take (end - size) (drop (i + size) a) m 0 k,
          get_or-take (end - size) (drop (j + size) b) m 0 k,
          get_or-drop (i + size) a m 0,
          get_or-drop (j + size) b m 0,
          e,
          e',
        )
        (v.same (size + m) (omega arith))

-- ## The element that they tell

module _ (t s : List ℕ) (at left : ℕ) (h : accepted t ≡ true) (k : 0 < left) (l : at + left ≤ length s) where
  pub certain-inside : at < length s
  certain-inside = omega arith

  pub certain-character : every is_character s ≡ true → is_character (get_or s at 0) ≡ true
  certain-character g = every-at is_character s at 0 g (omega arith)

  pub certain-quick : {place : ℕ} → Alone (meaning_in t).items (get_or s at 0) place
      → Begins (meaning_in t).items (take left (drop at s)) (record { place = place; size = 1 })
  certain-quick q = record { some = omega arith; is = λ rest. rw (run-first s at left k l) (sym (q.is (take (left - 1) (drop (at + 1) s) ++ rest))) }

  pub certain-four : {f : Found} → 4 ≤ left → found_as f ≡ step_of (meaning_in t).items (drop at s)
      → Begins (meaning_in t).items (take left (drop at s)) f
  certain-four n e = record { some = (found-size t s h certain-inside e).least; is = λ rest. e ∙ ap (step_of (meaning_in t).items) (sym (take-append-drop left (drop at s))) ∙ front (drop left (drop at s)) ∙ sym (front rest) }
    where
      long : 4 ≤ length (take left (drop at s))
      long = rw (length-take-le left (drop at s) (rw (length-drop at s) (omega arith))) n

      front : (rest : List ℕ) → step_of (meaning_in t).items (take left (drop at s) ++ rest) ≡ step_of (meaning_in t).items (take left (drop at s))
      front rest = step-front (length (meaning_in t).rules) (meaning_in t).items (take left (drop at s)) rest (table-good t h).items long

-- ## The elements without a weight

skipped-least : (n count : ℕ) → skipped_after n count ≤ n + 1
skipped-least n count = cond_both (λ (k : ℕ). k ≤ n + 1) (eqb count 0) (omega arith) (omega arith)

-- ## One element more

further-none : (t a b : List ℕ) (i j skipped agreed : ℕ) → Further t a b i j skipped agreed i j skipped agreed
further-none t a b i j skipped agreed = record { rises = omega arith; all = λ p. refl; same = λ p. refl }

further_then : {t a b : List ℕ} {i j n k i₁ j₁ n₁ k₁ i₂ j₂ n₂ k₂ : ℕ} → Further t a b i j n k i₁ j₁ n₁ k₁ → Further t a b i₁ j₁ n₁ k₁ i₂ j₂ n₂ k₂
    → Further t a b i j n k i₂ j₂ n₂ k₂
further_then f g = record { rises = omega (arith, f.rises, g.rises); all = λ p. f.all p ∙ g.all p; same = λ p. f.same p ∙ g.same p }

-- both strings go on with the same element
module _ {t a b as' bs : List ℕ} {i j n k skipped agreed : ℕ} {f : Found} {count : ℕ} (v : Level t a b as' bs i j n k skipped agreed)
    (h : i < length a) (l : j < length b) (e : found_as f ≡ step_of (meaning_in t).items (drop i a))
    (d : found_as f ≡ step_of (meaning_in t).items (drop j b)) (w : Many t f.place 0 count) where
  abbrev after : ℕ
  after = skipped_after skipped count

  on-length : (position : Bool) → length (entries_on t a position i skipped) ≡ count + length (entries_on t a position (i + f.size) after)
  unfolding entries_on
  on-length position =
      let is : List Item = (meaning_in t).items in
      rw (found_first _ _ v.first-ready.checked h e, w.is)
      (entries-element position skipped (skipped_after skipped (length (weights_at is 0 f.place))) (weights_at is 0 f.place)
      (map (weights_at is 0) (elements is 0 (drop (i + f.size) a))))

  on-seen : (position : Bool) → seen (entries_on t a position i skipped) (entries_on t b position j skipped) agreed
      ≡ seen (entries_on t a position (i + f.size) after) (entries_on t b position (j + f.size) after) (agreed + count)
  unfolding entries_on
  on-seen position =
      let is : List Item = (meaning_in t).items in
      rw (found_first _ _ v.first-ready.checked h e, found_first _ _ v.second-ready.checked l d, w.is)
      (seen-element position skipped (weights_at is 0 f.place) (map (weights_at is 0) (elements is 0 (drop (i + f.size) a)))
      (map (weights_at is 0) (elements is 0 (drop (j + f.size) b))) agreed)

  further-more : Further t a b i j skipped agreed (i + f.size) (j + f.size) after (agreed + count)
  further-more = record { rises = omega arith; all = λ p. omega (arith, on-length p); same = on-seen }

  level-more : Level t a b (set as' n f.place) (set bs k f.place) (i + f.size) (j + f.size) (n + 1) (k + 1) after (agreed + count)
  level-more =
      let c : CutOne t a (set as' n f.place) i n f = cut-more v.first-ready h e v.first in
      record {
        first-ready = ready-kept (set as' n f.place) v.first-ready (length-set as' n f.place);
        second-ready = ready-kept (set bs k f.place) v.second-ready (length-set bs k f.place);
        first = c.cut;
        second = (cut-more v.second-ready l d v.second).cut;
        first-skipped = omega (arith, skipped-least skipped count, v.first-skipped);
        second-skipped = omega (arith, skipped-least skipped count, v.second-skipped);
        small = omega (arith, v.small, w.few, c.some);
      }

-- ## All that they have in common

-- `size` of `end` characters are cut into `many` elements
pub record Going (t a b as₀ bs₀ as' bs : List ℕ) (i j n k skipped agreed end size many passed blank : ℕ) : Type 0 where
  pub level : Level t a b as' bs (i + size) (j + size) (n + many) (k + many) blank passed
  pub further : Further t a b i j skipped agreed (i + size) (j + size) blank passed
  pub shared : Shared a i b j end
  pub within : size ≤ end
  pub first-kept : length as' ≡ length as₀
  pub second-kept : length bs ≡ length bs₀

pub going-none : {t a b as' bs : List ℕ} {i j n k skipped agreed end : ℕ} → Level t a b as' bs i j n k skipped agreed → Shared a i b j end
    → Going t a b as' bs as' bs i j n k skipped agreed end 0 0 agreed skipped
going-none {t} {a} {b} {i = i} {j} {skipped = skipped} {agreed} v s = record {
  level = rw (add-zero, add-zero, add-zero, add-zero) v;
  further = rw (add-zero, add-zero) (further-none t a b i j skipped agreed);
  shared = s;
  within = omega arith;
  first-kept = refl;
  second-kept = refl;
}

module _ {t a b as₀ bs₀ as' bs : List ℕ} {i j n k skipped agreed end size many passed blank : ℕ}
    (v : Going t a b as₀ bs₀ as' bs i j n k skipped agreed end size many passed blank) where
  -- no more is known to be in common
  pub going_end : Both t a b as' bs i j n k skipped agreed (record { size = size; many = many; agreed = passed; skipped = blank })
  going_end = record { level = v.level; further = v.further }

  module _ {f : Found} (h : size < end) (c : Begins (meaning_in t).items (take (end - size) (drop (i + size) a)) f) where
    abbrev left : List ℕ
    left = take (end - size) (drop (i + size) a)

    is : (rest : List ℕ) → found_as f ≡ step_of (meaning_in t).items (left ++ rest)
    is = c.is

    first_found : found_as f ≡ step_of (meaning_in t).items (drop (i + size) a)
    first_found =
        is (drop (end - size) (drop (i + size) a)) ∙ ap (step_of (meaning_in t).items) (take-append-drop (end - size) (drop (i + size) a))

    second-found : found_as f ≡ step_of (meaning_in t).items (drop (j + size) b)
    second-found =
        is (drop (end - size) (drop (j + size) b))
        ∙ ap (λ (x : List ℕ). step_of (meaning_in t).items (x ++ drop (end - size) (drop (j + size) b))) (shared-rest size v.shared (omega arith))
        ∙ ap (step_of (meaning_in t).items) (take-append-drop (end - size) (drop (j + size) b))

    first-inside : i + size < length a
    first-inside = omega (arith, v.shared.first)

    second-inside : j + size < length b
    second-inside = omega (arith, v.shared.second)

    -- it takes none that are not in common
    taken-size : f.size ≤ end - size
    taken-size =
        let long : length left ≡ end - size = length-take-le (end - size) (drop (i + size) a) (rw (length-drop (i + size) a) (omega (arith, v.shared.first))) in
        let e : f.size ≡ (step_of (meaning_in t).items left).size = ap (λ (x : Step). x.size) (is [] ∙ ap (step_of (meaning_in t).items) (append-nil left)) in
        let u : (step_of (meaning_in t).items left).size ≤ length left = (step-size (meaning_in t).items left (rw long (omega arith))).most in
        omega arith

    pub going-within : Within t f.place 0
    going-within = first-within v.level.first-ready first-inside first_found

    pub going-fits : Fits w32 f.place
    going-fits = place-fits v.level.first-ready first-inside first_found

    pub going-size : Fits w64 (size + f.size)
    going-size = omega (arith, taken-size, v.shared.first, v.level.first-ready.short)

    module _ {count : ℕ} (w : Many t f.place 0 count) where
      pub going-few : Fits w64 (passed + count)
      going-few = omega (arith, v.level.small, w.few, v.level.first.to, v.level.first-ready.short)

      pub going_more : {after : ℕ} → after ≡ skipped_after blank count
          → Going t a b as₀ bs₀ (set as' (n + many) f.place) (set bs (k + many) f.place) i j n k skipped agreed end (size + f.size) (many + 1)
          (passed + count) after
      going_more q =
          let e₁ : i + (size + f.size) ≡ i + size + f.size = omega arith in
          let e₂ : j + (size + f.size) ≡ j + size + f.size = omega arith in
          let e₃ : n + (many + 1) ≡ n + many + 1 = omega arith in
          let e₄ : k + (many + 1) ≡ k + many + 1 = omega arith in
          record {
            level = rw (e₁, e₂, e₃, e₄, q) (level-more v.level first-inside second-inside first_found second-found w);
            further = rw (e₁, e₂, q) (further_then v.further (further-more v.level first-inside second-inside first_found second-found w));
            shared = v.shared;
            within = omega (arith, taken-size);
            first-kept = length-set as' (n + many) f.place ∙ v.first-kept;
            second-kept = length-set bs (k + many) f.place ∙ v.second-kept;
          }

-- ## Two walks

-- a walk behind what both strings have in common
abbrev on_by : Walk → Common → Walk
on_by x c = record { at = x.at + c.size; many = x.many + c.many; from = 0; left = 0; skipped = c.skipped }

module _ (x y : Walk) {l : Bool} (e : l ≡ level_with x.left y.left x.skipped y.skipped) (q : l ≡ true) where
  abreast-here : Abreast x.left y.left x.skipped y.skipped
  abreast-here = abreast x.left y.left x.skipped y.skipped (sym e ∙ q)

  module _ {t a b as' bs : List ℕ} {agreed : ℕ} where
    pub together-level : Ready t a as' → Ready t b bs → Sound t a as' x → Sound t b bs y → agreed ≤ 32768
        → Level t a b as' bs x.at y.at x.many y.many x.skipped agreed
    together-level r s h k m = record {
      first-ready = r;
      second-ready = s;
      first = h.cut;
      second = k.cut;
      first-skipped = h.skipped;
      second-skipped = omega (arith, k.skipped, abreast-here.as_many);
      small = omega arith;
    }

    pub together-on : {c : Common} → Both t a b as' bs x.at y.at x.many y.many x.skipped agreed c
        → Together t a b as' bs x y agreed (record { x = on_by x c; y = on_by y c; agreed = c.agreed })
    together-on {c} v = record {
      first = record { cut = v.level.first; skipped = v.level.first-skipped; inside = λ z. absurd (omega arith) };
      second = record { cut = v.level.second; skipped = v.level.second-skipped; inside = λ z. absurd (omega arith) };
      rises = v.further.rises;
      all = λ p. rw (left-none t a p x (omega (arith, abreast-here.first)), left-none t a p (on_by x c) (omega arith)) (v.further.all p);
      same = λ p.
          rw (
            left-none t a p x (omega (arith, abreast-here.first)),
            left-none t b p y (omega (arith, abreast-here.second)),
            left-none t a p (on_by x c) (omega arith),
            left-none t b p (on_by y c) (omega arith),
            ← abreast-here.as_many,
          )
          (v.further.same p);
    }

pub together-stay : {t a b as' bs : List ℕ} {x y : Walk} (agreed : ℕ) → Sound t a as' x → Sound t b bs y
    → Together t a b as' bs x y agreed (record { x = x; y = y; agreed = agreed })
together-stay agreed h k = record { first = h; second = k; rises = omega arith; all = λ p. refl; same = λ p. refl }
