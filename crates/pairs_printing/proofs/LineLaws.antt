-- The parts of a line, one behind the other.
use mathlib.Core.Path.{◌≡◌, sym}
use mathlib.Core.List.{List, [], ◌∷◌}
use Prim.Native.Nat.{ℕ, ◌+◌}
use native.Mathlib.Omega.{arith}
use lib.ListN.{length}
use Rattle.rules.specs.Text.{bytes}
use Rattle.rules.specs.Order.{Sign}
use Rattle.rules.specs.Pairs.{decimal, sign_byte, compared_line, refused_line, file_line}
use Rattle.order_keys.specs.Writing.{Puts}
use Rattle.order_keys.proofs.PutLaws.{puts_then}
use Rattle.pairs_printing.specs.Printed.{Prints}
use Rattle.pairs_printing.proofs.DigitLaws.{digits-short}

pub number-prints : {room after : List ℕ} {at next : ℕ} (n : ℕ) → Puts room at (decimal n) after next → Prints 20 room at (decimal n) after next
number-prints n p = record { puts = p; short = omega (arith, p.to, digits-short 20 n) }

module _ {room first second : List ℕ} {at next behind : ℕ} where
  -- a blank, then the number
  pub field-prints : (n : ℕ) → Puts room at (32 ∷ []) first next → Prints 20 first next (decimal n) second behind → Prints 21 room at (32 ∷ decimal n) second behind
  field-prints n p q = record { puts = puts_then p q.puts; short = omega (arith, p.to, q.short) }

  -- a blank, then the byte of the sign
  pub sign-put : (s : Sign) {b : ℕ} → Puts room at (32 ∷ []) first next → b ≡ sign_byte s → Puts first next (b ∷ []) second behind
      → Puts room at (32 ∷ sign_byte s ∷ []) second behind
  sign-put s p e q = puts_then p (rw (sym e) q)

module _ {room r1 r2 r3 r4 : List ℕ} {at p1 p2 p3 p4 : ℕ} (n : ℕ) where
  pub compared-prints : {r5 : List ℕ} {p5 : ℕ} (s : Sign) (level agreed : ℕ) → Prints 20 room at (decimal n) r1 p1 → Puts r1 p1 (32 ∷ sign_byte s ∷ []) r2 p2
      → Prints 21 r2 p2 (32 ∷ decimal level) r3 p3 → Prints 21 r3 p3 (32 ∷ decimal agreed) r4 p4 → Puts r4 p4 (10 ∷ []) r5 p5
      → Prints 80 room at (compared_line n (record { sign = s; level = level; agreed = agreed })) r5 p5
  unfolding compared_line
  compared-prints s level agreed a b c d e = record {
    puts = puts_then (puts_then (puts_then a.puts (puts_then b c.puts)) d.puts) e;
    short = omega (arith, a.short, b.to, c.short, d.short, e.to);
  }

  -- the bytes between are ` refused `
  pub refused-prints : (r : ℕ) → Prints 20 room at (decimal n) r1 p1
      → Puts r1 p1 (32 ∷ 114 ∷ 101 ∷ 102 ∷ 117 ∷ 115 ∷ 101 ∷ 100 ∷ 32 ∷ []) r2 p2 → Prints 20 r2 p2 (decimal r) r3 p3 → Puts r3 p3 (10 ∷ []) r4 p4
      → Prints 80 room at (refused_line n r) r4 p4
  unfolding refused_line bytes
  refused-prints r a b c d = record {
    puts = puts_then (puts_then (puts_then a.puts b) c.puts) d;
    short = omega (arith, a.short, b.to, c.short, d.to);
  }

  pub file-prints : (file : List ℕ) (line : ℕ) → Puts room at file r1 p1 → Prints 21 r1 p1 (32 ∷ decimal n) r2 p2
      → Prints 21 r2 p2 (32 ∷ decimal line) r3 p3 → Puts r3 p3 (10 ∷ []) r4 p4 → Prints (length file + 80) room at (file_line file n line) r4 p4
  unfolding file_line
  file-prints file line a b c d = record {
    puts = puts_then (puts_then (puts_then a b.puts) c.puts) d;
    short = omega (arith, a.to, b.short, c.short, d.to);
  }
