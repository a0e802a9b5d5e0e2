-- Comparing two entries, and two levels entry by entry.
use Rattle.std.specs.Prelude.{None, Option, Some}
use Rattle.std.specs.Ordering.{nat_cmp, ordering_then}
use mathlib.Core.Path.{◌≡◌, refl, sym, ap, ◌∙◌, subst}
use mathlib.Core.List.{List, []}
use Prim.Native.Nat.{ℕ, suc, ◌+◌, ◌<◌}
use native.Mathlib.Numerals.{add-one}
use native.Mathlib.Omega.{arith}
use lib.ListN.{length}
use borrow.Author.Tests.{lt-ltb, le-ltb, eq-eqb, ne_eqb}
use Rattle.rules.specs.Meaning.{Rule}
use Rattle.rules.specs.Table.{meaning_in}
use Rattle.rules.specs.Order.{or_else, sign_ℕ, sign_entry, level_entries}
use Rattle.rules.proofs.SignLaws.{Tri, tri, below, same, above, sign_ℕ-below, sign_ℕ-same, sign_ℕ-above}
use Rattle.rules.proofs.EntryLaws.{level-length}
use Rattle.rules.proofs.PassedLaws.{seen, seen-passed, seen-less, seen-greater, seen-ends, seen-ends-first, seen-ends-second}
use Rattle.table_layout.proofs.PartLaws.{table-good}
use Rattle.base_units.specs.Numbers.{sign_of}
use Rattle.std.specs.declared.cmp.Ordering.{Ordering}
use Rattle.std.specs.declared.cmp.Ordering.TheVariants.{Less, Equal, Greater}
use Rattle.order_entries.specs.declared.Entry.{Entry}
use Rattle.order_entries.specs.declared.Cursor.{Cursor}
use Rattle.order_entries.specs.declared.Walks.{Walks}
use Rattle.order_entries.specs.Walk.{Level, fresh, entry_as, entries_left, First, Gives, Walking, Onward, Compared}
use Rattle.order_entries.proofs.WalkLaws.{fresh-entries, fresh-sound}

-- ## Two entries

-- two numbers
pub sign_nat : (m n : ℕ) → sign_of (nat_cmp m n) ≡ sign_ℕ m n
sign_nat m n = go (tri m n)
  where
    go : Tri m n → sign_of (nat_cmp m n) ≡ sign_ℕ m n
    go (below h) = rw (lt-ltb m n h, sign_ℕ-below h)
    go (same e) = rw (le-ltb m n (omega arith), eq-eqb m n e, sign_ℕ-same e)
    go (above h) = rw (le-ltb m n (omega arith), ne_eqb m n (λ e. omega arith), sign_ℕ-above h)

sign-then : (a b : Ordering) → sign_of (ordering_then a b) ≡ or_else (sign_of a) (sign_of b)
sign-then Less b = refl
sign-then Equal b = refl
sign-then Greater b = refl

-- the counts decide, and where they are the same the ranks
pub entry-order : (x y : Entry) → sign_of (ordering_then (nat_cmp x.count y.count) (nat_cmp x.rank.0 y.rank.0)) ≡ sign_entry (entry_as x) (entry_as y)
unfolding sign_entry
entry-order x y =
    sign-then (nat_cmp x.count y.count) (nat_cmp x.rank.0 y.rank.0)
    ∙ rw (sign_nat x.count y.count, sign_nat x.rank.0 y.rank.0)

-- ## Two levels

-- the entries passed agreed, and what the two walks have still to come decides
pub record Comparing (t a b : List ℕ) (level : ℕ) (rule : Rule) (w : Walks) : Type 0 where
  pub stand : Walking t a b level rule w
  pub same : seen (entries_left t a level rule w.x) (entries_left t b level rule w.y) w.agreed
      ≡ seen (level_entries (meaning_in t).items rule level a) (level_entries (meaning_in t).items rule level b) 0

pub comparing-none : {t a b : List ℕ} {level : ℕ} (rule : Rule) {x y : Cursor} → Level t a level → Level t b level → x ≡ fresh → y ≡ fresh
    → Comparing t a b level rule (record { x = x; y = y; agreed = 0 })
comparing-none {t} {a} {b} {level} rule v w p q =
    let l = level-length (length (meaning_in t).rules) (meaning_in t).items (table-good t v.checked).items rule level a in
    rw (p, q)
    (record {
      stand = record {
        first = fresh-sound t a level rule;
        second = fresh-sound t b level rule;
        few = rw (fresh-entries t a level rule) (omega (arith, v.few));
      };
      same = rw (fresh-entries t a level rule, fresh-entries t b level rule);
    })

-- an answer with a sign of one's own, the walks having gone on
told : {t a b : List ℕ} {level : ℕ} {rule : Rule} {w r : Walks} → Comparing t a b level rule w → Onward t a b level rule w r → (s : Ordering)
    → record { sign = sign_of s; agreed = r.agreed } ≡ seen (entries_left t a level rule r.x) (entries_left t b level rule r.y) r.agreed
    → Compared t a b level rule (record { sign = s; agreed = r.agreed })
told v o s e = record { is = e ∙ o.same ∙ v.same; small = omega (arith, o.stand.few) }

module _ {t a b : List ℕ} {level : ℕ} {rule : Rule} {x y : Cursor} {n : ℕ} {r : Walks} {p q : Option (Entry × Cursor)}
    (v : Comparing t a b level rule (record { x = x; y = y; agreed = n })) (o : Onward t a b level rule (record { x = x; y = y; agreed = n }) r)
    (g : Gives t a level rule (entries_left t a level rule r.x) p) (h : Gives t b level rule (entries_left t b level rule r.y) q) where
  pub both_end : p ≡ None → q ≡ None → Compared t a b level rule (record { sign = Equal; agreed = r.agreed })
  both_end i j =
      let d : entries_left t a level rule r.x ≡ [] = subst (Gives t a level rule (entries_left t a level rule r.x)) i g in
      let f : entries_left t b level rule r.y ≡ [] = subst (Gives t b level rule (entries_left t b level rule r.y)) j h in
      told v o Equal (rw (d, f) (sym (seen-ends r.agreed)))

  pub first_ends : {ahead : Entry × Cursor} → p ≡ None → q ≡ Some ahead → Compared t a b level rule (record { sign = Less; agreed = r.agreed })
  first_ends {ahead} i j =
      let d : entries_left t a level rule r.x ≡ [] = subst (Gives t a level rule (entries_left t a level rule r.x)) i g in
      let f : First t b level rule (entries_left t b level rule r.y) ahead.0 ahead.1 = subst (Gives t b level rule (entries_left t b level rule r.y)) j h in
      told v o Less (rw (d, f.is) (sym (seen-ends-first (entry_as ahead.0) (entries_left t b level rule ahead.1) r.agreed)))

  pub second-ends : {ahead : Entry × Cursor} → p ≡ Some ahead → q ≡ None → Compared t a b level rule (record { sign = Greater; agreed = r.agreed })
  second-ends {ahead} i j =
      let d : First t a level rule (entries_left t a level rule r.x) ahead.0 ahead.1 = subst (Gives t a level rule (entries_left t a level rule r.x)) i g in
      let f : entries_left t b level rule r.y ≡ [] = subst (Gives t b level rule (entries_left t b level rule r.y)) j h in
      told v o Greater (rw (d.is, f) (sym (seen-ends-second (entry_as ahead.0) (entries_left t a level rule ahead.1) r.agreed)))

  module _ {e f : Entry} {c d : Cursor} (i : p ≡ Some (e, c)) (j : q ≡ Some (f, d)) where
    before : First t a level rule (entries_left t a level rule r.x) e c
    before = subst (Gives t a level rule (entries_left t a level rule r.x)) i g

    behind : First t b level rule (entries_left t b level rule r.y) f d
    behind = subst (Gives t b level rule (entries_left t b level rule r.y)) j h

    pub differ : {s : Ordering} → sign_of s ≡ sign_entry (entry_as e) (entry_as f) → (s ≡ Equal → ⊥) → Compared t a b level rule (record { sign = s; agreed = r.agreed })
    differ {s} k z = go s k z
      where
        go : (s : Ordering) → sign_of s ≡ sign_entry (entry_as e) (entry_as f) → (s ≡ Equal → ⊥) → Compared t a b level rule (record { sign = s; agreed = r.agreed })
        go Less k z =
            told v o Less
            (rw (before.is, behind.is)
            (sym (seen-less (entry_as e) (entry_as f) (entries_left t a level rule c) (entries_left t b level rule d) r.agreed (sym k))))
        go Equal k z = absurd (z refl)
        go Greater k z =
            told v o Greater
            (rw (before.is, behind.is)
            (sym (seen-greater (entry_as e) (entry_as f) (entries_left t a level rule c) (entries_left t b level rule d) r.agreed (sym k))))

    pub agree-more : {s : Ordering} → sign_of s ≡ sign_entry (entry_as e) (entry_as f) → s ≡ Equal
        → Comparing t a b level rule (record { x = c; y = d; agreed = r.agreed + 1 })
    agree-more k z =
        let m : length (entries_left t a level rule r.x) ≡ suc (length (entries_left t a level rule c)) = ap length before.is in
        record {
          stand = record { first = before.sound; second = behind.sound; few = omega (arith, o.stand.few, m) };
          same =
              rw (add-one r.agreed)
              (sym (seen-passed (entry_as e) (entry_as f) (entries_left t a level rule c) (entries_left t b level rule d) r.agreed (sym k ∙ ap sign_of z))
              ∙ (rw (before.is, behind.is) at o.same)
              ∙ v.same);
        }

    -- an entry taken leaves fewer
    pub agree-fewer : length (entries_left t a level rule c) < length (entries_left t a level rule x)
    agree-fewer = omega (arith, ap length before.is, o.no_more)
