-- Refusals of 3 and above, as every line gives them but for bytes that are no text: 2 comes before them, and 3 is the lowest.
use mathlib.Core.Path.{◌≡◌, refl, ap, ◌∙◌}
use mathlib.Core.Bool.{Bool}
use mathlib.Core.List.{List}
use Prim.Native.Nat.{ℕ, ◌≤◌}
use native.Mathlib.Omega.{arith}
use borrow.Author.Tests.{ne_eqb, le-ltb}
use Rattle.base_lists.proofs.Lists.{All}
use Rattle.rules.specs.Text.{◌unless◌, lower, lowest}
use Rattle.rules.specs.Tokens.{Token, tokens_refusal}
use Rattle.rules.proofs.RefusalLaws.{lower-keeps, lowest-keeps, unless-keeps}
use Rattle.text_tokens.proofs.RefusalLaws.{lower-assoc, lower-swap, three-last}

-- none, or not below 3
unfoldable pub Late : ℕ → Type 0
Late r = lower r 3 ≡ 3

pub late-none : Late 0
unfolding Late lower
late-none = refl

pub late-lower : (a b : ℕ) → Late a → Late b → Late (lower a b)
late-lower = lower-keeps Late

pub late-lowest : (rs : List ℕ) → All Late rs → Late (lowest rs)
late-lowest = lowest-keeps Late late-none

late-number : (n : ℕ) → 3 ≤ n → Late n
unfolding Late lower
late-number n h = simp (ne_eqb n 0 (λ e. omega arith), le-ltb n 3 h)

-- such a number, unless a test holds
pub late_by : (n : ℕ) (t : Bool) → 3 ≤ n → Late (n unless t)
late_by n t h = unless-keeps Late late-none n t (late-number n h)

pub late-unless : (t : Bool) → Late (3 unless t)
late-unless t = late_by 3 t (omega arith)

pub late-tokens : (ts : List Token) → Late (tokens_refusal ts)
unfolding Late
late-tokens ts = three-last ts

-- 3 is the lowest of them
pub three-lowest : (r : ℕ) → Late r → lower 3 r ≡ 3
unfolding Late
three-lowest r h = lower-swap 3 r ∙ h

-- 2 comes before them
pub two-first : (r : ℕ) → Late r → lower 2 r ≡ 2
unfolding lower
two-first r h = lower-assoc 2 3 r ∙ ap (lower 2) (three-lowest r h)
