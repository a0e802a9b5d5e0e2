-- Strings: what good_string counts.
use mathlib.Core.Path.{◌≡◌, sym, ◌∙◌}
use mathlib.Core.Bool.{Bool, true, false, not, ◌&&◌, and-true, and-false}
use mathlib.Core.List.{List}
use Prim.Native.Nat.{ℕ, suc, ◌+◌, ◌≤◌, ◌<◌}
use native.Mathlib.Numerals.{add-one}
use native.Mathlib.Omega.{arith}
use lib.ListN.{length, get_or, drop, drop_of_length-le}
use lib.Seq.{drop-cons}
use lib.Dec.{eqb}
use borrow.Author.Tests.{le-leb, lt-leb, ne_eqb, not-true, not-false}
use Rattle.rules.specs.Text.{every}
use Rattle.rules.specs.Names.{is_character}
use Rattle.rules.specs.Order.{good_string}

-- ## good_string

pub string-long : (s : List ℕ) → 4096 < length s → false ≡ good_string s
unfolding good_string
string-long s h = rw (lt-leb (length s) 4096 h)

-- the numbers before i are characters exactly if `bad` is 0, and those from i on decide the rest
pub record Sifted (s : List ℕ) (i bad : ℕ) : Type 0 where
  pub short : length s ≤ 4096
  pub few : bad ≤ i
  pub same : good_string s ≡ (eqb bad 0 && every is_character (drop i s))

pub sifted-none : (s : List ℕ) → length s ≤ 4096 → Sifted s 0 0
unfolding good_string
sifted-none s h = record { short = h; few = omega arith; same = rw (le-leb (length s) 4096 h) }

module _ {s : List ℕ} {i bad : ℕ} (v : Sifted s i bad) where
  module _ (h : i < length s) {r : Bool} (is : r ≡ is_character (get_or s i 0)) where
    pub sifted-good : not r ≡ false → Sifted s (i + 1) bad
    unfolding every
    sifted-good e =
        let good = sym is ∙ not-false r e in
        record { short = v.short; few = omega (arith, v.few); same = v.same ∙ rw (add-one i, drop-cons s i 0 h, good) }

    pub sifted-bad : not r ≡ true → Sifted s (i + 1) (bad + 1)
    unfolding every
    sifted-bad e =
        let foul = sym is ∙ not-true r e in
        record {
          short = v.short;
          few = omega (arith, v.few);
          same = v.same ∙ rw (add-one i, drop-cons s i 0 h, foul, and-false (eqb bad 0)) (simp (ne_eqb (bad + 1) 0 (λ z. omega arith)));
        }

  pub sifted-all : length s ≤ i → eqb bad 0 ≡ good_string s
  unfolding every
  sifted-all h = sym (v.same ∙ rw (drop_of_length-le s h) (and-true (eqb bad 0)))
