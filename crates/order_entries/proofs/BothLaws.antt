-- Two walks that stand level: an element that both go on with gives both the same entries, and leaves them level.
use mathlib.Core.Path.{◌≡◌, refl, sym, ap, ◌∙◌}
use mathlib.Core.Bool.{Bool, true, cond, ◌&&◌}
use mathlib.Core.List.{List, [], ◌∷◌, ◌++◌}
use Prim.Native.Nat.{ℕ, suc, min, ◌+◌, ◌-◌, ◌≤◌, ◌<◌}
use native.Mathlib.Numerals.{add-one}
use native.Mathlib.Nat.{add-zero, min-le_left, min-le_right}
use native.Mathlib.Omega.{arith}
use lib.Dec.{eqb}
use lib.ListN.{length, get_or, length-append}
use borrow.Author.Tests.{eqb-true, ne_eqb}
use Rattle.base_lists.proofs.Bools.{and_left, and_right, cond_both}
use Rattle.rules.specs.Meaning.{Rule, count_all}
use Rattle.rules.specs.Table.{meaning_in}
use Rattle.rules.specs.Order.{Entry, weights_at, more, entries_from}
use Rattle.rules.proofs.SignLaws.{orders-entry}
use Rattle.rules.proofs.EntryLaws.{entries-length}
use Rattle.rules.proofs.PassedLaws.{seen, seen-passed}
use Rattle.table_layout.specs.Parts.{Within, Many}
use Rattle.order_entries.specs.declared.Walks.{Walks}
use Rattle.order_entries.specs.Walk.{directed, Level, entries_on, entries_left, level_with, at_elements, skipped_after, Walking, Onward}
use Rattle.order_entries.proofs.WalkLaws.{weights_on, on-element, left-none, element-within}

-- ## The tests

-- that two walks stand level, taken apart
pub record Abreast (m n skipped other : ℕ) : Type 0 where
  pub first : m ≡ 0
  pub second : n ≡ 0
  pub as_many : skipped ≡ other

pub abreast : (m n skipped other : ℕ) → level_with m n skipped other ≡ true → Abreast m n skipped other
unfolding level_with
abreast m n skipped other l =
    let rest = and_right (eqb m 0) (eqb n 0 && eqb skipped other) l in
    record {
      first = eqb-true m 0 (and_left (eqb m 0) (eqb n 0 && eqb skipped other) l);
      second = eqb-true n 0 (and_left (eqb n 0) (eqb skipped other) rest);
      as_many = eqb-true skipped other (and_right (eqb n 0) (eqb skipped other) rest);
    }

-- what the test answers, the walks are
pub level-told : (m n skipped other : ℕ) {r : Bool} → r ≡ level_with m n skipped other → r ≡ true → level_with m n skipped other ≡ true
level-told m n skipped other e h = sym e ∙ h

-- two walks that do not stand level stay where they are
pub onward-none : {t a b : List ℕ} {level : ℕ} {rule : Rule} {w : Walks} → Walking t a b level rule w → Onward t a b level rule w w
onward-none s = record { stand = s; no_more = omega arith; same = refl }

-- ## The same entries before others

pub seen_alike : (es xs ys : List Entry) (n : ℕ) → seen (es ++ xs) (es ++ ys) n ≡ seen xs ys (n + length es)
seen_alike [] xs ys n = rw add-zero
seen_alike (e ∷ es) xs ys n =
    let k : suc n + length es ≡ n + suc (length es) = omega arith in
    seen-passed e e (es ++ xs) (es ++ ys) n (orders-entry.self e) ∙ seen_alike es xs ys (suc n) ∙ ap (seen xs ys) k

-- ## One element

-- the entries of an element that has these weights, n elements without a weight having stood before it
abbrev pub own : Bool → ℕ → List ℕ → List Entry
own position n ws = entries_from position n (ws ∷ [])

pub own-length : (p : Bool) (n : ℕ) (ws : List ℕ) → length (own p n ws) ≡ length ws
unfolding count_all
own-length p n ws = entries-length p n (ws ∷ []) ∙ add-zero (length ws)

more-append : (ws : List ℕ) (es : List Entry) → more ws es ≡ more ws [] ++ es
unfolding more
more-append [] es = refl
more-append (w ∷ ws) es = ap (λ (fs : List Entry). record { count = 0; weight = w } ∷ fs) (more-append ws es)

pub own-before : (p : Bool) (n : ℕ) (ws : List ℕ) (ls : List (List ℕ))
    → entries_from p n (ws ∷ ls) ≡ own p n ws ++ entries_from p (skipped_after n (length ws)) ls
unfolding entries_from
own-before p n [] ls = rw (add-one n)
own-before p n (w ∷ ws) ls =
    rw (ne_eqb (suc (length ws)) 0 (λ e. omega arith))
    (ap (λ (fs : List Entry). record { count = cond p n 0; weight = w } ∷ fs) (more-append ws (entries_from p 0 ls)))

on-own : (t places : List ℕ) (level : ℕ) (rule : Rule) (i n : ℕ) → i < length places
    → entries_on t places level rule i n
    ≡ own rule.position n (weights_on t places level rule i)
    ++ entries_on t places level rule (i + 1) (skipped_after n (length (weights_on t places level rule i)))
unfolding entries_on
on-own t places level rule i n h = on-element t places level rule i n h ∙ rw (add-one i) (own-before rule.position n (weights_on t places level rule i) _)

-- ## Elements that both go on with

-- the walks that began at i₀ and j₀ have come to i and j, and to `end` at most; what is to come from there decides as what was to come did
pub record Alike (t a b : List ℕ) (level : ℕ) (rule : Rule) (i₀ j₀ skipped₀ agreed₀ end i j skipped agreed : ℕ) : Type 0 where
  pub first : i ≤ length a
  pub second : j ≤ length b
  pub to : i ≤ end
  pub end-first : end ≤ length a
  pub end-second : end + j ≤ length b + i
  pub skipped-first : skipped ≤ i
  pub skipped-second : skipped ≤ j
  pub few : agreed + length (entries_on t a level rule i skipped) ≤ 32768
  pub no_more : length (entries_on t a level rule i skipped) ≤ length (entries_on t a level rule i₀ skipped₀)
  pub same : seen (entries_on t a level rule i skipped) (entries_on t b level rule j skipped) agreed
      ≡ seen (entries_on t a level rule i₀ skipped₀) (entries_on t b level rule j₀ skipped₀) agreed₀

module _ (t a b : List ℕ) (level : ℕ) (rule : Rule) (w : Walks) (s : Walking t a b level rule w)
    (l : level_with w.x.left w.y.left w.x.skipped w.y.skipped ≡ true) where
  abreast-here : Abreast w.x.left w.y.left w.x.skipped w.y.skipped
  abreast-here = abreast w.x.left w.y.left w.x.skipped w.y.skipped l

  first-left : entries_left t a level rule w.x ≡ entries_on t a level rule w.x.passed w.x.skipped
  first-left = left-none t a level rule w.x (omega (arith, abreast-here.first))

  second-left : entries_left t b level rule w.y ≡ entries_on t b level rule w.y.passed w.x.skipped
  second-left = left-none t b level rule w.y (omega (arith, abreast-here.second)) ∙ rw abreast-here.as_many

  pub alike-none : {n : ℕ} → n ≡ min (length a - w.x.passed) (length b - w.y.passed)
      → Alike t a b level rule w.x.passed w.y.passed w.x.skipped w.agreed (w.x.passed + n) w.x.passed w.y.passed w.x.skipped w.agreed
  alike-none e =
      let m = min-le_left (length a - w.x.passed) (length b - w.y.passed) in
      let n = min-le_right (length a - w.x.passed) (length b - w.y.passed) in
      record {
        first = s.first.passed;
        second = s.second.passed;
        to = omega arith;
        end-first = omega (arith, s.first.passed);
        end-second = omega (arith, s.second.passed);
        skipped-first = s.first.skipped;
        skipped-second = omega (arith, s.second.skipped, abreast-here.as_many);
        few = rw (← first-left) s.few;
        no_more = omega arith;
        same = refl;
      }

  -- where the walks have come to
  pub alike-there : {end i j skipped agreed : ℕ} {r : Walks}
      → Alike t a b level rule w.x.passed w.y.passed w.x.skipped w.agreed end i j skipped agreed
      → r ≡ at_elements i j skipped agreed → Onward t a b level rule w r
  alike-there {end} {i} {j} {skipped} {agreed} v e =
      let x : entries_left t a level rule (at_elements i j skipped agreed).x ≡ entries_on t a level rule i skipped =
      left-none t a level rule (at_elements i j skipped agreed).x (omega arith) in
      let y : entries_left t b level rule (at_elements i j skipped agreed).y ≡ entries_on t b level rule j skipped =
      left-none t b level rule (at_elements i j skipped agreed).y (omega arith) in
      rw e
      (record {
        stand = record {
          first = record { passed = v.first; skipped = v.skipped-first; inside = λ h. absurd (omega arith) };
          second = record { passed = v.second; skipped = v.skipped-second; inside = λ h. absurd (omega arith) };
          few = rw x v.few;
        };
        no_more = rw (x, first-left) v.no_more;
        same = rw (x, y, first-left, second-left) v.same;
      })

  pub alike-over : {end i j skipped agreed : ℕ} {r : Walks}
      → Alike t a b level rule w.x.passed w.y.passed w.x.skipped w.agreed end i j skipped agreed → end ≤ i
      → r ≡ at_elements end j skipped agreed → Onward t a b level rule w r
  alike-over {end} {i} v h e = let k : end ≡ i = omega (arith, v.to) in alike-there v (rw k at e)

module _ {t a b : List ℕ} {level : ℕ} {rule : Rule} {i₀ j₀ skipped₀ agreed₀ end i j skipped agreed : ℕ}
    (v : Alike t a b level rule i₀ j₀ skipped₀ agreed₀ end i j skipped agreed) where
  pub alike-first : i < end → i < length a
  alike-first h = omega (arith, v.end-first)

  pub alike-second : i < end → j < length b
  alike-second h = omega (arith, v.end-second)

  -- the element's place is one of the table's
  pub alike-within : {place : ℕ} → Level t a level → i < end → place ≡ get_or (directed rule.backward a) i 0 → Within t place level
  alike-within k h e = element-within rule.backward i k (alike-first h) e

  module _ {place other count s : ℕ} (h : i < end) (p : place ≡ get_or (directed rule.backward a) i 0)
      (q : other ≡ get_or (directed rule.backward b) j 0) (e : place ≡ other) (m : Many t place level count) (k : s ≡ skipped_after skipped count) where
    -- the entries of the element
    es : List Entry
    es = own rule.position skipped (weights_at (meaning_in t).items level place)

    first-own : entries_on t a level rule i skipped ≡ es ++ entries_on t a level rule (i + 1) s
    unfolding es
    first-own = rw (← p, ← m.is, ← k) at (on-own t a level rule i skipped (alike-first h))

    second-own : entries_on t b level rule j skipped ≡ es ++ entries_on t b level rule (j + 1) s
    unfolding es
    second-own = rw (← q, ← e, ← m.is, ← k) at (on-own t b level rule j skipped (alike-second h))

    es-length : length es ≡ count
    unfolding es
    es-length = own-length rule.position skipped (weights_at (meaning_in t).items level place) ∙ sym m.is

    skipped-small : s ≤ skipped + 1
    skipped-small = rw k (cond_both (λ (n : ℕ). n ≤ skipped + 1) (eqb count 0) (omega arith) (omega arith))

    first-length : length (entries_on t a level rule i skipped) ≡ count + length (entries_on t a level rule (i + 1) s)
    first-length = ap length first-own ∙ length-append es (entries_on t a level rule (i + 1) s) ∙ rw es-length

    pub alike-more : Alike t a b level rule i₀ j₀ skipped₀ agreed₀ end (i + 1) (j + 1) s (agreed + count)
    alike-more = record {
      first = omega (arith, alike-first h);
      second = omega (arith, alike-second h);
      to = omega arith;
      end-first = v.end-first;
      end-second = omega (arith, v.end-second);
      skipped-first = omega (arith, skipped-small, v.skipped-first);
      skipped-second = omega (arith, skipped-small, v.skipped-second);
      few = omega (arith, v.few, first-length);
      no_more = omega (arith, v.no_more, first-length);
      same =
          (rw es-length at (sym (seen_alike es (entries_on t a level rule (i + 1) s) (entries_on t b level rule (j + 1) s) agreed)))
          ∙ (rw (first-own, second-own) at v.same);
    }
