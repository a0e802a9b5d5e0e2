-- The answer level after level: the lists that two strings are compared by, one at a time, and the entries that agreed before them.
use mathlib.Core.Path.{◌≡◌, refl, sym, ap, ◌∙◌}
use mathlib.Core.Bool.{false}
use mathlib.Core.List.{List, [], ◌∷◌}
use Prim.Native.Nat.{ℕ, suc, ◌+◌, ◌*◌, ◌≤◌, ◌<◌}
use native.Mathlib.Numerals.{add-one}
use native.Mathlib.Nat.{zero-add}
use native.Mathlib.Omega.{arith}
use lib.ListN.{length, get_or, drop, drop_of_length-le}
use lib.Seq.{drop-cons}
use Rattle.rules.specs.Meaning as meaning
use Rattle.rules.specs.Meaning.{Meaning}
use Rattle.rules.specs.Table.{meaning_in}
use Rattle.rules.specs.Order as order
use Rattle.rules.specs.Order.{Entry, less, equal, greater, sign_list, common, answer_from, entry_lists, level_entries, elements, codes}
use Rattle.rules.proofs.ElementLaws.{elements-length, elements-place}
use Rattle.rules.proofs.OrderLaws.{entry_lists-length, entry_lists-level, entry_lists-codes}
use Rattle.rules.proofs.PassedLaws as passed
use Rattle.rules.proofs.PassedLaws.{seen, seen-sign, seen-agreed, with_passed, decided-less, decided-greater, goes_on_lem, ends-equal}
use Rattle.table_layout.specs.Parts.{rule_as, rule_at}
use Rattle.table_layout.specs.declared.Rule.{Rule}
use Rattle.table_layout.proofs.PartLaws.{table-good}
use Rattle.base_units.specs.Numbers.{sign_of}
use Rattle.std.specs.declared.cmp.Ordering.{Ordering}
use Rattle.std.specs.declared.cmp.Ordering.TheVariants.{Less, Equal, Greater}
use Rattle.order_entries.specs.Walk.{Level, seen_as, Compared}
use Rattle.order_entries.specs.declared.Seen.{Seen}
use Rattle.order_compare.specs.Strings.{CodesCompared, Placed, answer_on}

-- ## What a run over two lists settles

module _ (s : Seen) (k n : ℕ) (xs ys : List Entry) (as' bs : List (List Entry)) (e : seen_as s ≡ seen xs ys 0) where
  sign : sign_list xs ys ≡ sign_of s.sign
  sign = sym (seen-sign xs ys 0) ∙ sym (ap (λ (r : passed.Seen). r.sign) e)

  agreed : s.agreed ≡ common xs ys
  agreed = ap (λ (r : passed.Seen). r.agreed) e ∙ seen-agreed xs ys 0 ∙ zero-add (common xs ys)

  pub settled-less : s.sign ≡ Less
      → record { sign = less; level = k; agreed = n + s.agreed } ≡ with_passed n (answer_from k (xs ∷ as') (ys ∷ bs))
  settled-less z = rw agreed (sym (decided-less k n xs ys as' bs (sign ∙ ap sign_of z)))

  pub settled-greater : s.sign ≡ Greater
      → record { sign = greater; level = k; agreed = n + s.agreed } ≡ with_passed n (answer_from k (xs ∷ as') (ys ∷ bs))
  settled-greater z = rw agreed (sym (decided-greater k n xs ys as' bs (sign ∙ ap sign_of z)))

  pub settled : (s.sign ≡ Equal → ⊥)
      → record { sign = sign_of s.sign; level = k; agreed = n + s.agreed } ≡ with_passed n (answer_from k (xs ∷ as') (ys ∷ bs))
  settled f = go s.sign refl
    where
      go : (z : Ordering) → s.sign ≡ z
          → record { sign = sign_of s.sign; level = k; agreed = n + s.agreed } ≡ with_passed n (answer_from k (xs ∷ as') (ys ∷ bs))
      go Less z = rw z (settled-less z)
      go Equal z = absurd (f z)
      go Greater z = rw z (settled-greater z)

  -- where they are equal the lists after them decide
  pub settled_on : s.sign ≡ Equal
      → with_passed (n + s.agreed) (answer_from (suc k) as' bs) ≡ with_passed n (answer_from k (xs ∷ as') (ys ∷ bs))
  settled_on z = rw agreed (sym (goes_on_lem k n xs ys as' bs (sign ∙ ap sign_of z)))

-- ## Code points, as the last list

module _ (s : Seen) (n k : ℕ) {a b : List ℕ} (v : CodesCompared a b s) where
  pub last-settled : (s.sign ≡ Equal → ⊥)
      → record { sign = sign_of s.sign; level = k; agreed = n + s.agreed } ≡ with_passed n (answer_from k (codes a ∷ []) (codes b ∷ []))
  last-settled = settled s k n (codes a) (codes b) [] [] v.is

  pub last-equal : s.sign ≡ Equal
      → record { sign = equal; level = 0; agreed = n + s.agreed } ≡ with_passed n (answer_from k (codes a ∷ []) (codes b ∷ []))
  last-equal z = sym (ends-equal (suc k) (n + s.agreed)) ∙ settled_on s k n (codes a) (codes b) [] [] v.is z

-- ## The lists from a level on

module _ (m : Meaning) (s : List ℕ) where
  -- a level, and the lists after it
  lists-level : (k : ℕ) (d : meaning.Rule) → k < length m.rules
      → drop k (entry_lists m s) ≡ level_entries m.items (get_or m.rules k d) k (elements m.items 0 s) ∷ drop (suc k) (entry_lists m s)
  lists-level k d h =
      let l : k < length (entry_lists m s) = omega (arith, entry_lists-length m s) in
      drop-cons (entry_lists m s) k [] l ∙ rw (entry_lists-level m s k d h)

  -- after the levels the code points, and no more
  lists-last : drop (length m.rules) (entry_lists m s) ≡ codes s ∷ []
  lists-last =
      let l : length m.rules < length (entry_lists m s) = omega (arith, entry_lists-length m s) in
      let k : length (entry_lists m s) ≤ suc (length m.rules) = omega (arith, entry_lists-length m s) in
      drop-cons (entry_lists m s) (length m.rules) [] l ∙ rw (entry_lists-codes m s, drop_of_length-le (entry_lists m s) k)

-- ## Level after level

-- the places of a string's elements are good for every level
pub placed-level : {t s places : List ℕ} {l : ℕ} (k : ℕ) → Placed t s places → l ≡ length (meaning_in t).rules → k < l → Level t places k
placed-level {t} {s} k v e h = record {
  checked = v.checked;
  in-levels = omega arith;
  listed = rw v.is (elements-place (meaning_in t).items 0 s (table-good t v.checked).undefined);
  few = rw v.is (omega (arith, elements-length (meaning_in t).items 0 s, v.short));
}

-- the answer asked for is that from level k on, n entries having agreed before it
pub record Levels (t a b : List ℕ) (l level agreed k n : ℕ) : Type 0 where
  pub many : l ≡ length (meaning_in t).rules
  pub few : l ≤ 8
  pub to : k ≤ l
  pub small : n ≤ 32768 * k
  pub same : answer_on t a b k n ≡ answer_on t a b level agreed

pub levels-none : {t a b places : List ℕ} {l level agreed : ℕ} → Placed t a places → l ≡ length (meaning_in t).rules
    → level ≤ length (meaning_in t).rules → agreed ≤ 32768 * level → Levels t a b l level agreed level agreed
levels-none {t} v e h k = record {
  many = e;
  few = omega (arith, (table-good t v.checked).few-levels);
  to = omega arith;
  small = k;
  same = refl;
}

-- the entries of a string at a level, and its lists after that level
abbrev pub entries_at : List ℕ → ℕ → List ℕ → List Entry
entries_at t k s = level_entries (meaning_in t).items (rule_at t k) k (elements (meaning_in t).items 0 s)

abbrev pub lists_after : List ℕ → ℕ → List ℕ → List (List Entry)
lists_after t k s = drop (suc k) (entry_lists (meaning_in t) s)

-- the answer from a level on, that level first
pub on-level : (t a b : List ℕ) (k n : ℕ) → k < length (meaning_in t).rules
    → answer_on t a b k n ≡ with_passed n (answer_from (suc k) (entries_at t k a ∷ lists_after t k a) (entries_at t k b ∷ lists_after t k b))
unfolding answer_on
on-level t a b k n h =
    let d : meaning.Rule = record { backward = false; position = false } in
    rw (lists-level (meaning_in t) a k d h, lists-level (meaning_in t) b k d h)

module _ {t a b as' bs : List ℕ} {l level agreed k n : ℕ} {rule : Rule} {s : Seen} (v : Levels t a b l level agreed k n) (p : Placed t a as')
    (q : Placed t b bs) (h : k < l) (e : rule_as rule ≡ rule_at t k) (w : Compared t as' bs k (rule_as rule) s) where
  run : seen_as s ≡ seen (entries_at t k a) (entries_at t k b) 0
  run = rw (p.is, q.is, e) at w.is

  asked : with_passed n (answer_from (suc k) (entries_at t k a ∷ lists_after t k a) (entries_at t k b ∷ lists_after t k b)) ≡ answer_on t a b level agreed
  asked = sym (on-level t a b k n (omega (arith, v.many))) ∙ v.same

  pub level-settled : (s.sign ≡ Equal → ⊥) → record { sign = sign_of s.sign; level = k + 1; agreed = n + s.agreed } ≡ answer_on t a b level agreed
  level-settled z =
      rw (add-one k) (settled s (suc k) n (entries_at t k a) (entries_at t k b) (lists_after t k a) (lists_after t k b) run z ∙ asked)

  pub levels-more : s.sign ≡ Equal → Levels t a b l level agreed (k + 1) (n + s.agreed)
  unfolding answer_on
  levels-more z = record {
    many = v.many;
    few = v.few;
    to = omega arith;
    small = omega (arith, v.small, w.small);
    same =
        rw (add-one k) (settled_on s (suc k) n (entries_at t k a) (entries_at t k b) (lists_after t k a) (lists_after t k b) run z ∙ asked);
  }

on-last : (t a b : List ℕ) (n : ℕ)
    → answer_on t a b (length (meaning_in t).rules) n ≡ with_passed n (answer_from (suc (length (meaning_in t).rules)) (codes a ∷ []) (codes b ∷ []))
unfolding answer_on
on-last t a b n = rw (lists-last (meaning_in t) a, lists-last (meaning_in t) b)

-- all levels agree, and the code points decide
pub levels-all : {t a b : List ℕ} {l level agreed k n : ℕ} {r : order.Answer} → Levels t a b l level agreed k n → l ≤ k
    → r ≡ with_passed n (answer_from (l + 1) (codes a ∷ []) (codes b ∷ [])) → r ≡ answer_on t a b level agreed
levels-all {t} {a} {b} {l} {k = k} {n} v h e =
    let g : k ≡ length (meaning_in t).rules = omega (arith, v.many, v.to) in
    let f : l + 1 ≡ suc (length (meaning_in t).rules) = omega (arith, v.many) in
    e ∙ rw f (sym (on-last t a b n)) ∙ (rw g at v.same)
