-- What stands at marks: two of them are the same exactly where they are equal, and what a mark's tag tells.
use mathlib.Core.Path.{◌≡◌, ap}
use mathlib.Core.Bool.{true, false≢true}
use mathlib.Core.List.{List}
use Prim.Native.Nat.{ℕ, ◌/◌, ◌%◌}
use borrow.Author.Tests.{ne_eqb}
use Rattle.rules.proofs.TextLaws.{same_true, same_refl}
use Rattle.rules.proofs.RankLaws.{same_subject-true, same_subject-refl}
use Rattle.text_lines.specs.declared.Signs.{Signs}
use Rattle.work_subjects.specs.Keys.{name_spot, quote_spot, subject_left, chars_left, Key, item, chars, key_at, same_key}

-- ## The same

pub same_key-true : (a b : Key) → same_key a b ≡ true → a ≡ b
unfolding same_key
same_key-true (item a) (item b) h = ap item (same_subject-true a b h)
same_key-true (item a) (chars ds) h = absurd (false≢true h)
same_key-true (chars cs) (item b) h = absurd (false≢true h)
same_key-true (chars cs) (chars ds) h = ap chars (same_true cs ds h)

pub same_key-refl : (a : Key) → same_key a a ≡ true
unfolding same_key
same_key-refl (item a) = same_subject-refl a
same_key-refl (chars cs) = same_refl cs

pub same_key-equal : {a b : Key} → a ≡ b → same_key a b ≡ true
same_key-equal {a} {b} e = rw e (same_key-refl b)

-- ## Marks

module _ (g : Signs) (src : List ℕ) (v : ℕ) where
  pub key_at-name : v % 2 ≡ 0 → key_at g src v ≡ item (subject_left g src (name_spot (v / 2)))
  unfolding key_at
  key_at-name e = rw e

  pub key_at-quotes : (v % 2 ≡ 0 → ⊥) → key_at g src v ≡ chars (chars_left g src (quote_spot (v / 2)))
  unfolding key_at
  key_at-quotes n = rw (ne_eqb (v % 2) 0 n)
