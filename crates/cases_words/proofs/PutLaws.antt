-- A text that was copied to a part of another (put), a digit's byte (digit), and order lines written one after the other (put_line, put_lines).
use mathlib.Core.Path.{◌≡◌, refl, sym, ◌∙◌}
use mathlib.Core.List.{List, [], ◌∷◌, append_assoc}
use Prim.Native.Nat.{ℕ, zero, suc, ◌+◌, ◌-◌, ◌*◌, ◌/◌, ◌%◌, ◌≤◌, ◌<◌}
use native.Mathlib.Numerals.{add-one}
use native.Mathlib.Omega.{arith}
use lib.ListN.{length, take, drop}
use borrow.Rule.Slice.PartMut.{put_mid}
use lib.Seq.{sets, sets-eq, drop-drop}
use Rattle.std.proofs.lemmas.List.{length-append}
use Rattle.base_lists.proofs.Lists.{sets-append}
use Rattle.cases_words.specs.Lines.{digit_byte, line_of, order_lines}

-- bytes that were copied to a part of a text
pub sets-put : (s : List ℕ) (at : ℕ) (xs : List ℕ) {ys : List ℕ} → at + length xs ≤ length s → ys ≡ xs → put_mid at (at + length xs - at) s ys ≡ sets s at xs
sets-put s at xs h e =
    let n : at + length xs - at ≡ length xs = omega arith in
    rw (e, n, sets-eq xs s at h, ← drop-drop (length xs) at s) (sym (append_assoc (take at s) xs (drop (length xs) (drop at s))))

-- a digit's byte, below 10 and from 10 on
pub digit-below : (d : ℕ) → d < 10 → 48 + d ≡ digit_byte d
unfolding digit_byte
digit-below d h = grind arith

pub digit-from : (d : ℕ) → 10 ≤ d → 55 + d ≡ digit_byte d
unfolding digit_byte
digit-from d h = grind arith

-- a line with its four digits
pub line-put : (s : List ℕ) (at n : ℕ) {a b c d : ℕ} {t : List ℕ} → a ≡ digit_byte (n / 4096 % 16) → b ≡ digit_byte (n / 256 % 16) → c ≡ digit_byte (n / 16 % 16) → d ≡ digit_byte (n % 16)
    → t ≡ sets s at (60 ∷ 85 ∷ 48 ∷ 48 ∷ 48 ∷ 49 ∷ a ∷ b ∷ c ∷ d ∷ 62 ∷ 10 ∷ []) → t ≡ sets s at (line_of n)
unfolding line_of
line-put s at n e f g h is = is ∙ rw (e, f, g, h) refl

-- each line has 12 bytes
length-lines : (n : ℕ) → length (order_lines n) ≡ 12 * n
unfolding order_lines line_of
length-lines zero = refl
length-lines (suc n) = length-append (order_lines n) (line_of n) ∙ omega (arith, length-lines n)

-- no line yet, and one line more
pub lines-none : (s : List ℕ) (at : ℕ) → s ≡ sets s at (order_lines 0)
unfolding order_lines
lines-none s at = refl

pub lines-more : (s : List ℕ) (at n : ℕ) {t u : List ℕ} → t ≡ sets s at (order_lines n) → u ≡ sets t (at + 12 * n) (line_of n) → u ≡ sets s at (order_lines (n + 1))
unfolding order_lines
lines-more s at n is next =
    next ∙ rw (is, ← length-lines n, add-one) (sym (sets-append s at (order_lines n) (line_of n)))
