-- The refusals of a line that names a toggle.
use mathlib.Core.Path.{◌≡◌, refl, sym, ◌∙◌}
use mathlib.Core.Bool.{Bool, true, false, not, ◌&&◌}
use mathlib.Core.List.{List, []}
use Prim.Native.Nat.{ℕ, ◌≤◌, ◌<◌}
use native.Mathlib.Omega.{arith}
use lib.ListN.{length}
use lib.Dec.{leb}
use borrow.Author.Tests.{leb-true, lt-ltb, le-ltb}
use Rattle.base_lists.proofs.Bools.{by, and_left, and_right}
use Rattle.rules.specs.Text.{every, one_of, lower, lowest}
use Rattle.rules.specs.Tokens.{word, Token, token_at, single}
use Rattle.rules.specs.State.{State, Toggle}
use Rattle.rules.specs.Conditionals.{is_toggle_byte, is_toggle, toggle_refusal}
use Rattle.rules.proofs.TextLaws.{lowest-unless}
use Rattle.text_lines.specs.declared.Signs.{Signs}
use Rattle.work_toggles.specs.declared.Shape.{Shape}
use Rattle.work_toggles.specs.Kept.{toggles_in, Proper, Kept, is_free, ShapeIs, refusal_for}
use Rattle.work_toggles.proofs.AreaLaws.{toggles-length}

-- ## The paper's

-- of a line whose operands are one word
pub paper-refusal : (s : State) (ts : List Token) (w : List ℕ) (known : List Toggle) → single word ts ≡ true → (token_at ts 0).text ≡ w → s.blocks.toggles ≡ known
    → toggle_refusal s ts ≡ refusal_for w known
unfolding toggle_refusal refusal_for
paper-refusal s ts w known o e k = rw (o, e, k)

-- of any other
pub paper-foul : (s : State) (ts : List Token) → single word ts ≡ false → toggle_refusal s ts ≡ 3
unfolding toggle_refusal lowest lower
paper-foul s ts o =
    let n = (token_at ts 0).text in
    rw o (by (leb (length n) 32 && is_free n s.blocks.toggles) (λ t. rw t) (λ t. rw t))

-- where there is none, the toggle may be turned
pub refusal-free : (w : List ℕ) (known : List Toggle) → refusal_for w known ≡ 0 → is_free w known ≡ true
unfolding refusal_for
refusal-free w known e =
    let p = lowest-unless 3 (every is_toggle_byte w) _ (omega arith) e in
    and_right (leb (length w) 32) (is_free w known) (lowest-unless 7 (leb (length w) 32 && is_free w known) [] (omega arith) p.1).0

-- and its word can be kept
pub refusal-proper : (w : List ℕ) (known : List Toggle) → refusal_for w known ≡ 0 → Proper w
unfolding refusal_for
refusal-proper w known e =
    let p = lowest-unless 3 (every is_toggle_byte w) _ (omega arith) e in
    let q = (lowest-unless 7 (leb (length w) 32 && is_free w known) [] (omega arith) p.1).0 in
    record { clean = p.0; short = leb-true (length w) 32 (and_left (leb (length w) 32) (is_free w known) q) }

-- ## The code's, way by way

not-true : {b : Bool} → not b ≡ true → b ≡ false
not-true {b = true} e = sym e
not-true {b = false} e = refl

not-false : {b : Bool} → not b ≡ false → b ≡ true
not-false {b = true} e = refl
not-false {b = false} e = sym e

module _ (g : Signs) {src work : List ℕ} {base n : ℕ} (w : List ℕ) {s : Shape} (k : Kept g src work base n) (v : ShapeIs w s) where
  pub refusal-foul : not s.clean ≡ true → 3 ≡ refusal_for w (toggles_in g src work base n)
  unfolding refusal_for lowest lower
  refusal-foul c =
      let f = v.clean ∙ not-true c in
      let ts = toggles_in g src work base n in
      sym (rw f (by (leb (length w) 32 && is_free w ts) (λ t. rw t) (λ t. rw t)))

  module _ (c : not s.clean ≡ false) where
    clean : every is_toggle_byte w ≡ true
    clean = v.clean ∙ not-false c

    pub refusal-long : not s.short ≡ true → 7 ≡ refusal_for w (toggles_in g src work base n)
    unfolding refusal_for lowest lower
    refusal-long o = sym (rw (clean, v.short ∙ not-true o))

    pub refusal-new : not s.short ≡ false → n < 16 → 0 ≡ refusal_for w (toggles_in g src work base n)
    unfolding refusal_for lowest lower
    refusal-new o h =
        let ts = toggles_in g src work base n in
        by (one_of (is_toggle w) ts) (λ y. sym (rw (clean, v.short ∙ not-false o, y)))
        (λ y. sym (rw (clean, v.short ∙ not-false o, y, toggles-length g k, lt-ltb n 16 h)))

    module _ (o : not s.short ≡ false) {t : Bool} (e : t ≡ one_of (is_toggle w) (toggles_in g src work base n)) where
      pub refusal-known : t ≡ true → 0 ≡ refusal_for w (toggles_in g src work base n)
      unfolding refusal_for lowest lower
      refusal-known y = sym (rw (clean, v.short ∙ not-false o, sym e ∙ y))

      pub refusal-many : t ≡ false → 16 ≤ n → 7 ≡ refusal_for w (toggles_in g src work base n)
      unfolding refusal_for lowest lower
      refusal-many y h = sym (rw (clean, v.short ∙ not-false o, sym e ∙ y, toggles-length g k, le-ltb n 16 h))
