-- The loop of ends_pass: all is good exactly if the ends so far passed; then they are not large, so that no difference wraps.
use Rattle.std.proofs.Common.{◌≡◌, ℕ, suc, ◌+◌, ◌-◌, ◌*◌, ◌%◌, ◌<◌, ◌≤◌, Bool, true, false, ◌&&◌, eqb, leb, List, length, get_or, drop, refl, sym, ap, ◌∙◌, arith, add-one, drop-cons, drop_of_length-le, le-leb, leb-false, leb-true}
use mathlib.Core.Bool.{and_assoc}
use borrow.Author.Tests.{lt-leb}
use Rattle.base_lists.proofs.Bools.{by, and_left, and_right}
use Rattle.rules.specs.Text.{within}
use Rattle.table_check.specs.Checks.{ends_pass}

-- the difference x of an end and the one before it, which has wrapped where the end falls
apart : (before e x : ℕ) → before + 8 < 4294967296 → e < 4294967296 → x ≡ (e + (4294967296 - before)) % 4294967296 → leb x 8 ≡ within before (before + 8) e
apart before e x b f is =
    by (leb before e)
    (λ t.
    let l = leb-true before e t in
    by (leb e (before + 8))
    (λ u. let m = leb-true e (before + 8) u in rw (t, u, le-leb x 8 (omega arith)))
    (λ u. let m = leb-false e (before + 8) u in rw (t, u, lt-leb x 8 (omega arith))))
    (λ t. let l = leb-false before e t in rw (t, lt-leb x 8 (omega arith)))

pub record Ending (es : List ℕ) (w i last : ℕ) (good : Bool) : Type 0 where
  pub few : length es ≤ 262144
  pub small : good ≡ true → last ≤ 8 * i
  pub same : ends_pass w 0 es ≡ (good && ends_pass w last (drop i es))

pub ending-none : (es : List ℕ) (w : ℕ) → length es ≤ 262144 → Ending es w 0 0 true
ending-none es w h = record { few = h; small = λ e. omega arith; same = refl }

module _ {es : List ℕ} {w i last : ℕ} {good : Bool} (v : Ending es w i last good) where
  module _ (h : i < length es) (fits : get_or es i 0 < 4294967296) {x : ℕ} (is : x ≡ (get_or es i 0 + (4294967296 - last)) % 4294967296) where
    -- all stays good exactly where this end passes
    next : (good && leb x 8) ≡ (good && within last (last + 8) (get_or es i 0))
    next =
        by good
        (λ e.
        let s = v.small e in
        let n = v.few in
        ap (λ (b : Bool). good && b) (apart last (get_or es i 0) x (omega arith) fits is))
        (λ e. rw e)

    pub ending-more : Ending es w (i + 1) (get_or es i 0) (good && leb x 8)
    unfolding ends_pass
    ending-more = record {
      few = v.few;
      small = λ e.
          let both = sym next ∙ e in
          let s = v.small (and_left good (within last (last + 8) (get_or es i 0)) both) in
          let p = and_right good (within last (last + 8) (get_or es i 0)) both in
          let l = leb-true (get_or es i 0) (last + 8) (and_right (leb last (get_or es i 0)) (leb (get_or es i 0) (last + 8)) p) in
          omega arith;
      same =
          v.same
          ∙ rw (next, add-one, drop-cons es i 0 h)
          (sym (and_assoc good (within last (last + 8) (get_or es i 0)) (ends_pass w (get_or es i 0) (drop (suc i) es))));
    }

  module _ (h : length es ≤ i) where
    whole : ends_pass w 0 es ≡ (good && eqb last w)
    unfolding ends_pass
    whole = v.same ∙ rw (drop_of_length-le es h)

    pub ending-good : good ≡ true → eqb last w ≡ ends_pass w 0 es
    ending-good e = sym (whole ∙ rw e)

    pub ending-bad : good ≡ false → good ≡ ends_pass w 0 es
    ending-bad e = e ∙ sym (whole ∙ rw e)
