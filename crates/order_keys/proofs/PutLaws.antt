-- Bytes stored in a room from a place on: the stores of put_two and put_three, and a list of bytes written part by part, each behind the last or in front of it.
use mathlib.Core.Path.{◌≡◌, refl, sym, ap, ◌∙◌}
use mathlib.Core.List.{List, [], ◌++◌}
use Prim.Native.Nat.{ℕ, ◌+◌, ◌/◌, ◌%◌, ◌≤◌}
use native.Mathlib.Numerals.{add-one, add-two}
use native.Mathlib.Omega.{arith}
use lib.ListN.{length, set, length-append}
use lib.Seq.{sets, length-sets}
use Rattle.base_lists.proofs.Lists.{sets-append, sets-swap}
use Rattle.rules.specs.Order.{two, three}
use Rattle.order_keys.specs.Writing.{Puts, PutsBefore}

-- ## The stores

module _ (room : List ℕ) (at n : ℕ) where
  pub two-stored : Puts room at (two n []) (set (set room at (n / 256)) (at + 1) (n % 256)) (at + 2)
  two-stored = record { is = rw (add-one at); to = refl }

  pub three-stored : Puts room at (three n []) (set (set (set room at (n / 65536)) (at + 1) (n / 256 % 256)) (at + 2) (n % 256)) (at + 3)
  three-stored = record { is = rw (add-one at, add-two at); to = refl }

-- ## Part by part

-- one part behind the other
pub puts_then : {room a first b second : List ℕ} {at next behind : ℕ} → Puts room at a first next → Puts first next b second behind
    → Puts room at (a ++ b) second behind
puts_then {room} {a} {first} {b} {at = at} p q = record {
  is = q.is ∙ rw (p.is, p.to) (sym (sets-append room at a b));
  to = omega (arith, p.to, q.to, length-append a b);
}

-- Of these bytes, which go into a room from a place on, `left` are still to come, from `next` on.
pub record Putting (room : List ℕ) (at : ℕ) (bytes : List ℕ) (now : List ℕ) (next : ℕ) (left : List ℕ) : Type 0 where
  pub same : sets now next left ≡ sets room at bytes
  pub to : next + length left ≡ at + length bytes
  pub long : length now ≡ length room

pub putting-none : (room : List ℕ) (at : ℕ) (bytes : List ℕ) → Putting room at bytes room at bytes
putting-none room at bytes = record { same = refl; to = refl; long = refl }

module _ {room bytes now left : List ℕ} {at next : ℕ} (v : Putting room at bytes now next left) where
  -- the next part has place where all of them have
  pub putting-room : (a b : List ℕ) → left ≡ a ++ b → at + length bytes ≤ length room → next + length a ≤ length now
  putting-room a b e h = omega (arith, v.to, v.long, ap length e ∙ length-append a b)

  pub putting-more : (a b : List ℕ) {after : List ℕ} {behind : ℕ} → left ≡ a ++ b → Puts now next a after behind → Putting room at bytes after behind b
  putting-more a b {after} {behind} e p = record {
    same = rw (p.is, p.to) (sym (sets-append now next a b)) ∙ ap (sets now next) (sym e) ∙ v.same;
    to = omega (arith, v.to, p.to, ap length e ∙ length-append a b);
    long = ap length p.is ∙ length-sets now next a ∙ v.long;
  }

  pub putting-all : left ≡ [] → Puts room at bytes now next
  putting-all e = record { is = ap (sets now next) (sym e) ∙ v.same; to = omega (arith, v.to, ap length e) }

-- ## From the end

-- one part in front of the other
pub puts-in-front : {room a b first second : List ℕ} {from next end : ℕ} → PutsBefore room end b first next → PutsBefore first next a second from
    → PutsBefore room end (a ++ b) second from
puts-in-front {room} {a} {b} {from = from} p q = record {
  is = q.is ∙ rw (p.is, ← q.to) (sets-swap room from a (from + length a) b (omega arith) ∙ sym (sets-append room from a b));
  to = omega (arith, p.to, q.to, length-append a b);
}

-- written there or behind a place, they are the same
pub puts-from : {room bytes now : List ℕ} {at end from : ℕ} → PutsBefore room end bytes now from → end ≡ at + length bytes → Puts room at bytes now end
puts-from {room} {bytes} {at = at} {from = from} p e =
    let z : from ≡ at = omega (arith, p.to, e) in
    record { is = rw (← z) p.is; to = e }
