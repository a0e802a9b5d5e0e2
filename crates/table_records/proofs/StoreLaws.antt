-- Numbers stored in an area from a place on, part by part.
use mathlib.Core.Path.{◌≡◌, refl, sym, ap, ◌∙◌}
use mathlib.Core.List.{List, [], ◌++◌}
use Prim.Native.Nat.{ℕ, ◌+◌}
use native.Mathlib.Omega.{arith}
use lib.ListN.{length, length-append}
use lib.Seq.{sets}
use Rattle.base_lists.proofs.Lists.{sets-append}
use Rattle.table_records.specs.Writing.{Puts}

pub puts_none : (area : List ℕ) (at : ℕ) → Puts area at [] area at
puts_none area at = record { is = refl; to = omega arith }

-- Of these numbers, which go into an area from a place on, `left` are still to come, from `next` on.
pub record Putting (area : List ℕ) (at : ℕ) (xs : List ℕ) (now : List ℕ) (next : ℕ) (left : List ℕ) : Type 0 where
  pub same : sets now next left ≡ sets area at xs
  pub to : next + length left ≡ at + length xs

pub putting-none : (area : List ℕ) (at : ℕ) (xs : List ℕ) → Putting area at xs area at xs
putting-none area at xs = record { same = refl; to = refl }

module _ {area xs now left : List ℕ} {at next : ℕ} (v : Putting area at xs now next left) where
  pub putting-more : (a b : List ℕ) {after : List ℕ} {behind : ℕ} → left ≡ a ++ b → Puts now next a after behind → Putting area at xs after behind b
  putting-more a b e p = record {
    same = rw (p.is, p.to) (sym (sets-append now next a b)) ∙ ap (sets now next) (sym e) ∙ v.same;
    to = omega (arith, v.to, p.to, ap length e ∙ length-append a b);
  }

  pub putting-all : left ≡ [] → Puts area at xs now next
  putting-all e = record { is = ap (sets now next) (sym e) ∙ v.same; to = omega (arith, v.to, ap length e) }
