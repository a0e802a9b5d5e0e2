use mathlib.Core.Path.{◌≡◌, sym, ap, ◌∙◌, subst}
use mathlib.Core.Bool.{Bool, false}
use mathlib.Core.List.{List}
use Prim.Native.Nat.{ℕ, ◌+◌, ◌<◌}
use lib.ListN.{length}
use borrow.Author.Rules.{rules}
use borrow.Author.Tests.{leb-false}
use Rattle.text_lines.specs.declared.Signs.{Signs}
use Rattle.text_lines.specs.declared.LineEnd.{LineEnd}
use Rattle.text_lines.specs.Stream.{line_start, LineIs}
use Rattle.locale_skips.specs.Passing.{is_end, InCategory}
use Rattle.locale_skips.proofs.CategoryLaws.{category-on}
use Rattle.locale_skips.proofs.to_end.Goals as goal

-- a line that is no END line of the category leaves the next reader in it
category_goes : {g : Signs} {src src' name : List ℕ} {at number i n i' n' : ℕ} {l : LineEnd} {t : Bool} → InCategory g src at number name i n → src' ≡ src
    → i < length src' → LineIs g src' (line_start i) l → t ≡ is_end g src' i name → t ≡ false → i' ≡ l.next → n' ≡ n + l.feeds
    → InCategory g src at number name i' n'
category_goes {g} {src} {src'} {name} {at} {number} {i} {n} {i'} {n'} {l} {t} v e h k z f p q =
    rw (p, q)
    (category-on v (subst (λ (x : List ℕ). i < length x) e h) (subst (λ (x : List ℕ). LineIs g x (line_start i) l) e k)
    (subst (λ (x : List ℕ). t ≡ is_end g x i name) e z) f)

pub loop-g-preserved : goal.loop-g-preserved
loop-g-preserved c =
    let e = c.loop-g.invariant.source in
    record {
      source = search rules;
      passed = category_goes c.loop-g.invariant.passed (ap (λ x. x.now) e) (leb-false _ _ (sym c.used_up.ensures ∙ c.loop-g-test.true)) c.line.ensures
          c.is_end.ensures c.if-is_end.false c.past-q.ensures.1 c.past-q.ensures.2;
    }
