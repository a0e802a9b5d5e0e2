-- The digits of a number, as put_digits writes them, and how many they are.
use mathlib.Core.Path.{◌≡◌, refl}
use mathlib.Core.List.{List, [], ◌∷◌, ◌++◌}
use Prim.Native.Nat.{ℕ, zero, suc, ◌+◌, ◌-◌, ◌/◌, ◌%◌, ◌≤◌, ◌<◌}
use native.Mathlib.Omega.{arith}
use lib.ListN.{length, length-append}
use lib.Dec.{ltb}
use borrow.Author.Tests.{lt-ltb, le-ltb}
use Rattle.base_lists.proofs.Bools.{by}
use Rattle.rules.specs.Pairs.{digits_in}
use Rattle.order_keys.specs.Writing.{Puts}
use Rattle.order_keys.proofs.PutLaws.{puts_then}

pub digits-short : (most n : ℕ) → length (digits_in most n) ≤ most
unfolding digits_in
digits-short zero n = omega arith
digits-short (suc most) n =
    by (ltb n 10)
    (λ h. rw h (omega arith))
    (λ h. rw h (omega (arith, digits-short most (n / 10), length-append (digits_in most (n / 10)) ((48 + n % 10) ∷ []))))

digits-one : (most n : ℕ) → (most ≡ 0 → ⊥) → n < 10 → digits_in most n ≡ (48 + n % 10) ∷ []
unfolding digits_in
digits-one zero n z h = absurd (z refl)
digits-one (suc most) n z h = rw (lt-ltb n 10 h)

digits_more : (most n : ℕ) → (most ≡ 0 → ⊥) → 10 ≤ n → digits_in most n ≡ digits_in (most - 1) (n / 10) ++ (48 + n % 10) ∷ []
unfolding digits_in
digits_more zero n z h = absurd (z refl)
digits_more (suc most) n z h = let e : suc most - 1 ≡ most = omega arith in rw (le-ltb n 10 h, e)

-- ## put_digits

pub none-put : (room : List ℕ) (at n most : ℕ) → most ≡ 0 → Puts room at (digits_in most n) room at
unfolding digits_in
none-put room at n most e = rw e (record { is = refl; to = omega arith })

module _ {room : List ℕ} {at : ℕ} (n most : ℕ) (z : most ≡ 0 → ⊥) where
  pub one-put : {after : List ℕ} {next : ℕ} → n < 10 → Puts room at ((48 + n % 10) ∷ []) after next → Puts room at (digits_in most n) after next
  one-put h p = rw (digits-one most n z h) p

  pub more_room : {after : List ℕ} {next : ℕ} → at + most ≤ length room → length after ≡ length room
      → Puts room at (digits_in (most - 1) (n / 10)) after next → next + 1 ≤ length after
  more_room h l p = omega (arith, p.to, digits-short (most - 1) (n / 10), z)

  pub more-put : {first after : List ℕ} {next behind : ℕ} → 10 ≤ n → Puts room at (digits_in (most - 1) (n / 10)) first next
      → Puts first next ((48 + n % 10) ∷ []) after behind → Puts room at (digits_in most n) after behind
  more-put h p q = rw (digits_more most n z h) (puts_then p q)
