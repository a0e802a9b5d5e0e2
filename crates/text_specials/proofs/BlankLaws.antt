-- The keyword at a spot, and the first byte after blanks: the turns of the loop.
use mathlib.Core.Path.{◌≡◌, refl, sym, ◌∙◌}
use mathlib.Core.Bool.{Bool, true, false, not}
use mathlib.Core.List.{List, [], ◌∷◌, ◌++◌, append_assoc}
use Prim.Native.Nat.{ℕ, ◌+◌, ◌≤◌, ◌<◌}
use native.Mathlib.Numerals.{add-one}
use native.Mathlib.Omega.{arith}
use lib.ListN.{length, get_or, drop, drop_of_length-le, length-append}
use lib.Seq.{drop-cons}
use borrow.Author.Tests.{not-true, not-false, eq-eqb}
use Rattle.rules.specs.Text.{every}
use Rattle.rules.specs.Names.{is_blank}
use Rattle.rules.proofs.TextLaws.{every-both, every-cons}
use Rattle.text_specials.specs.Signed.{Blanks, ByteAt, NoByte}

-- Only blanks stand from a place to i.
pub record InBlanks (src : List ℕ) (at i : ℕ) : Type 0 where
  pub before : Blanks src at (drop i src)
  pub place : at + length before.blanks ≡ i
  pub to : i ≤ length src

pub blanks-none : (src : List ℕ) (at : ℕ) → at ≤ length src → InBlanks src at at
unfolding every
blanks-none src at h = record { before = record { blanks = []; are = refl; split = refl }; place = omega arith; to = h }

module _ {src : List ℕ} {at i : ℕ} (v : InBlanks src at i) where
  pub blanks-end : length src ≤ i → NoByte src at
  blanks-end h = record { rest = drop i src; before = v.before; ends = rw (drop_of_length-le src h) }

  module _ (h : i < length src) where
    here : drop i src ≡ get_or src i 0 ∷ drop (i + 1) src
    here = rw (add-one, drop-cons src i 0)

    pub blanks-feed : get_or src i 0 ≡ 10 → NoByte src at
    blanks-feed e = record { rest = drop i src; before = v.before; ends = rw here (eq-eqb (get_or src i 0) 10 e) }

    pub blanks-byte : {t : Bool} → t ≡ is_blank (get_or src i 0) → not t ≡ true → (get_or src i 0 ≡ 10 → ⊥) → ByteAt src at (get_or src i 0) i
    blanks-byte e f n =
        record {
          before = record { blanks = v.before.blanks; are = v.before.are; split = v.before.split ∙ rw here };
          place = v.place;
          inside = h;
          solid = sym e ∙ not-true _ f;
          no-feed = n;
        }

    pub blanks-more : {t : Bool} → t ≡ is_blank (get_or src i 0) → not t ≡ false → InBlanks src at (i + 1)
    unfolding every
    blanks-more e f =
        let b = get_or src i 0 in
        let bs = v.before.blanks in
        let p = v.place in
        record {
          before = record {
            blanks = bs ++ b ∷ [];
            are = every-both is_blank bs (b ∷ []) v.before.are (every-cons is_blank b [] (sym e ∙ not-false _ f) refl);
            split = v.before.split ∙ rw here (sym (append_assoc bs (b ∷ []) (drop (i + 1) src)));
          };
          place = rw (length-append bs (b ∷ [])) (omega arith);
          to = omega arith;
        }
