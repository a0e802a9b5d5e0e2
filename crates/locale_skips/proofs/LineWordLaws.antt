-- Whole words of a passed-over line: its first word, and two words and no more.
use Rattle.std.specs.Prelude.{None, Option, Some, ℕ}
use mathlib.Core.Path.{◌≡◌, sym, ◌∙◌, subst}
use mathlib.Core.Bool.{Bool, true, false}
use Rattle.std.specs.Option.{is_some}
use mathlib.Core.List.{List, []}
use Prim.Native.Nat.{ℕ, ◌≤◌, ◌<◌}
use lib.ListN.{length}
use Rattle.rules.specs.Text.{same}
use Rattle.rules.proofs.TextLaws.{same_refl}
use Rattle.text_lines.specs.declared.Signs.{Signs}
use Rattle.text_lines.specs.declared.Spot.{Spot}
use Rattle.text_tokens.specs.Left.{only_blanks}
use Rattle.locale_skips.specs.Words.{plain_left, words_left, first_word, run_in, are_two, PlainMark, PlainIs, Skips, RunIs, ComparedIs}
use Rattle.locale_skips.proofs.WordLaws.{first_run, two-first, two-second, two_then}

-- ## The first word

module _ {g : Signs} {src : List ℕ} (w : List ℕ) {p q : Spot} (c : Option Spot) (v : Skips g src p q) (x : ComparedIs g src w q c) where
  pub first_same : {o : Bool} → o ≡ is_some c → o ≡ same (first_word g src p) w
  first_same h = h ∙ told c x
    where
      told : (d : Option Spot) → ComparedIs g src w q d → is_some d ≡ same (first_word g src p) w
      told (Some r) y = sym (rw (first_run (plain_left g src p), ← v.marks, y.bytes) (same_refl w))
      told None y = sym (rw (first_run (plain_left g src p), ← v.marks) y)

-- ## Two words

module _ {g : Signs} {src : List ℕ} (a b : List ℕ) {p q : Spot} (c : Option Spot) (v : Skips g src p q) (x : ComparedIs g src a q c) where
  pub pair-first : c ≡ None → false ≡ are_two (words_left g src p) a b
  pair-first e = two-first (plain_left g src p) (plain_left g src q) a b v.marks (subst (ComparedIs g src a q) e x)

  module _ {r s : Spot} (d : Option Spot) (h : 0 < length a) (e : c ≡ Some r) (w : Skips g src r s) (y : ComparedIs g src b s d) where
    run : RunIs g src a q r
    run = subst (ComparedIs g src a q) e x

    pub pair-second : d ≡ None → false ≡ are_two (words_left g src p) a b
    pair-second f =
        two-second (plain_left g src p) (plain_left g src q) a b v.marks h run.bytes (plain_left g src r) (plain_left g src s) run.after w.marks
        (subst (ComparedIs g src b s) f y)

    pub pair_then : {t : Spot} {o : Bool} → 0 < length b → d ≡ Some t → o ≡ only_blanks (plain_left g src t) → o ≡ are_two (words_left g src p) a b
    pair_then {t} k f z =
        let n : RunIs g src b s t = subst (ComparedIs g src b s) f y in
        z
        ∙ two_then (plain_left g src p) (plain_left g src q) a b v.marks h run.bytes (plain_left g src r) (plain_left g src s) run.after w.marks
        k n.bytes (plain_left g src t) n.after
