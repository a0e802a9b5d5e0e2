-- `locale_skips::skip_named` meets its contract: what stands after the place that is reached is what the category leaves.
use Rattle.std.specs.Prelude.{Result, ℕ}
use mathlib.Core.Path.{◌≡◌, ap, subst}
use mathlib.Core.List.{List}
use Prim.Native.Nat.{ℕ}
use Rattle.text_lines.specs.declared.Signs.{Signs}
use Rattle.locale_skips.specs.Passing.{Reaches, AfterIs, CategoryIs}
use Rattle.locale_skips.proofs.CategoryLaws.{category-after}
use Rattle.locale_skips.proofs.skip_named.Goals as goal
use Rattle.base_units.specs.declared.Refusal.{Refusal}

-- the place is reached by a reader
reached-after : {g : Signs} {src src' name : List ℕ} {at number at' number' i n i' n' : ℕ} (r : Result (ℕ × ℕ) (Refusal × ℕ)) → Reaches g src' at' number' name i n → src' ≡ src
    → at' ≡ at → number' ≡ number → i' ≡ i → n' ≡ n → AfterIs g src i' n' r → CategoryIs g src at number name r
reached-after {g} {src} {src'} {name} {at} {number} {at'} {number'} {i} {n} {i'} {n'} r v e f k p q a =
    category-after
    (subst (λ (x : ℕ). Reaches g src at x name i n) k (subst (λ (x : ℕ). Reaches g src x number' name i n) f
    (subst (λ (x : List ℕ). Reaches g x at' number' name i n) e v)))
    r
    (subst (λ (x : ℕ). AfterIs g src x n r) p (subst (λ (x : ℕ). AfterIs g src i' x r) q a))

pub returns : goal.returns
returns c =
    reached-after c.line_after.result c.to_end-q.ensures.1 (ap (λ x. x.now) c.reader_at.ensures.0) c.reader_at.ensures.1 c.reader_at.ensures.2
    c.place.ensures c.line_number.ensures c.line_after.ensures
