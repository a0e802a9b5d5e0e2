-- Reading a passed-over line byte by byte: the turns of the loops to its next byte, past blanks, and beside a word.
use Rattle.std.specs.Prelude.{None, Option, Some, ℕ}
use mathlib.Core.Path.{◌≡◌, refl, sym, ◌∙◌, subst}
use mathlib.Core.Bool.{Bool, true, false}
use mathlib.Core.List.{List, []}
use Prim.Native.Nat.{ℕ, ◌+◌, ◌-◌, ◌≤◌, ◌<◌}
use native.Mathlib.Numerals.{add-one}
use native.Mathlib.Omega.{arith}
use lib.ListN.{length, get_or, drop, drop_of_length-le}
use lib.Seq.{drop-cons}
use borrow.Author.Tests.{eq-eqb, ne_eqb, le-leb, lt-leb}
use Rattle.rules.specs.Text.{same}
use Rattle.rules.specs.Names.{is_blank}
use Rattle.rules.specs.Tokens.{without_blanks, plain_marks}
use Rattle.rules.proofs.TextLaws.{same_true}
use Rattle.text_lines.specs.declared.Signs.{Signs}
use Rattle.text_lines.specs.declared.Spot.{Spot}
use Rattle.text_lines.specs.Stream.{marks_left, MarkIs, StepIs}
use Rattle.locale_skips.specs.Words.{plain_left, run_in, after_run, PlainMark, PlainIs, Skips, RunIs, ComparedIs}

-- ## The next byte with no escape before it

-- From p to q only escape pairs are passed.
pub record Escapes (g : Signs) (src : List ℕ) (p q : Spot) : Type 0 where
  pub rest : plain_left g src p ≡ plain_left g src q
  pub from : p.at ≤ q.at
  pub to : q.at ≤ length src

module _ {g : Signs} {src : List ℕ} {p q : Spot} {s : Option (ℕ × Spot)} (v : Escapes g src p q) (w : StepIs g src q s) where
  pub escapes-end : s ≡ None → plain_left g src p ≡ []
  unfolding plain_marks
  escapes-end e = let n : marks_left g src q ≡ [] = subst (StepIs g src q) e w in v.rest ∙ rw n

  module _ {m : ℕ} {r : Spot} (e : s ≡ Some (m, r)) where
    mark : MarkIs g src q m r
    mark = subst (StepIs g src q) e w

    pub escapes-byte : m < 256 → PlainMark g src p m r
    unfolding plain_marks
    escapes-byte h =
        record { marks = v.rest ∙ rw (mark.marks, lt-leb 256 m h); on = omega (arith, v.from, mark.on); to = mark.to }

    pub escapes-more : 256 ≤ m → Escapes g src p r
    unfolding plain_marks
    escapes-more h =
        record { rest = v.rest ∙ rw (mark.marks, le-leb 256 m h); from = omega (arith, v.from, mark.on); to = mark.to }

-- ## Past blanks

-- From p to q only blanks are passed.
pub record InBlanks (g : Signs) (src : List ℕ) (p q : Spot) : Type 0 where
  pub rest : without_blanks (plain_left g src p) ≡ without_blanks (plain_left g src q)
  pub to : q.at ≤ length src

module _ {g : Signs} {src : List ℕ} {p q : Spot} {s : Option (ℕ × Spot)} (v : InBlanks g src p q) (w : PlainIs g src q s) where
  pub blanks-end : s ≡ None → Skips g src p q
  unfolding without_blanks
  blanks-end e = let n : plain_left g src q ≡ [] = subst (PlainIs g src q) e w in record { marks = sym (v.rest ∙ rw n); to = v.to }

  module _ {m : ℕ} {r : Spot} (e : s ≡ Some (m, r)) {t : Bool} (b : t ≡ is_blank m) where
    byte : PlainMark g src q m r
    byte = subst (PlainIs g src q) e w

    pub blanks-stop : t ≡ false → Skips g src p q
    unfolding without_blanks
    blanks-stop f = let k = sym b ∙ f in record { marks = sym (v.rest ∙ rw (byte.marks, k)); to = v.to }

    pub blanks-more : t ≡ true → InBlanks g src p r
    unfolding without_blanks
    blanks-more f = let k = sym b ∙ f in record { rest = v.rest ∙ rw (byte.marks, k); to = byte.to }

-- ## Beside a word

-- The run and w agree before q and before place i.
pub record Alike (g : Signs) (src w : List ℕ) (p q : Spot) (i : ℕ) : Type 0 where
  pub bytes : same (run_in (plain_left g src p)) w ≡ same (run_in (plain_left g src q)) (drop i w)
  pub after : after_run (plain_left g src p) ≡ after_run (plain_left g src q)
  pub to : q.at ≤ length src
  pub short : i ≤ length w

-- where the run ends
module _ {g : Signs} {src w : List ℕ} {p q : Spot} {i : ℕ} (v : Alike g src w p q i) (n : run_in (plain_left g src q) ≡ []) (a : after_run (plain_left g src q) ≡ plain_left g src q) where
  ends_same : length w ≤ i → RunIs g src w p q
  unfolding same
  ends_same h =
      record {
        bytes = same_true (run_in (plain_left g src p)) w (v.bytes ∙ rw (n, drop_of_length-le w h));
        after = sym (v.after ∙ a);
        to = v.to;
      }

  ends-other : i < length w → same (run_in (plain_left g src p)) w ≡ false
  unfolding same
  ends-other h = v.bytes ∙ rw (n, drop-cons w i 0 h)

module _ {g : Signs} {src w : List ℕ} {p q : Spot} {i : ℕ} {s : Option (ℕ × Spot)} (v : Alike g src w p q i) (x : PlainIs g src q s) where
  module _ (e : s ≡ None) where
    none : plain_left g src q ≡ []
    none = subst (PlainIs g src q) e x

    pub alike_end : length w ≤ i → RunIs g src w p q
    unfolding run_in after_run
    alike_end = ends_same v (rw none) (rw none)

    pub alike-cut : {o : Option Spot} → i < length w → o ≡ None → ComparedIs g src w p o
    unfolding run_in after_run
    alike-cut {o} h z = subst (ComparedIs g src w p) (sym z) (ends-other v (rw none) (rw none) h)

  module _ {m : ℕ} {r : Spot} (e : s ≡ Some (m, r)) {t : Bool} (b : t ≡ is_blank m) where
    on : PlainMark g src q m r
    on = subst (PlainIs g src q) e x

    module _ (f : t ≡ true) where
      blank : is_blank m ≡ true
      blank = sym b ∙ f

      pub alike-blank : length w ≤ i → RunIs g src w p q
      unfolding run_in after_run
      alike-blank = ends_same v (rw (on.marks, blank)) (rw (on.marks, blank))

      pub alike-blank-cut : i < length w → same (run_in (plain_left g src p)) w ≡ false
      unfolding run_in after_run
      alike-blank-cut = ends-other v (rw (on.marks, blank)) (rw (on.marks, blank))

    module _ (f : t ≡ false) where
      solid : is_blank m ≡ false
      solid = sym b ∙ f

      pub alike-long : length w ≤ i → same (run_in (plain_left g src p)) w ≡ false
      unfolding run_in same
      alike-long h = v.bytes ∙ rw (on.marks, solid, drop_of_length-le w h)

      module _ (h : i < length w) where
        pub alike-not : (m ≡ get_or w i 0 → ⊥) → same (run_in (plain_left g src p)) w ≡ false
        unfolding run_in same
        alike-not n = v.bytes ∙ rw (on.marks, solid, drop-cons w i 0 h) (simp (ne_eqb m (get_or w i 0) n))

        pub alike-more : m ≡ get_or w i 0 → Alike g src w p r (i + 1)
        unfolding run_in after_run same
        alike-more k =
            record {
              bytes = v.bytes ∙ rw (on.marks, solid, drop-cons w i 0 h) (simp (eq-eqb m (get_or w i 0) k, add-one));
              after = v.after ∙ rw (on.marks, solid);
              to = on.to;
              short = omega arith;
            }
