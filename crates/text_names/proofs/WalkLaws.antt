-- The names in quotes: the turns of the loop.
use Rattle.std.specs.Prelude.{ℕ}
use mathlib.Core.Path.{◌≡◌, ◌∙◌}
use mathlib.Core.List.{List, []}
use Prim.Native.Nat.{ℕ, ◌≤◌}
use lib.ListN.{length}
use borrow.Author.Tests.{ne_eqb}
use Rattle.rules.specs.Lines.{quoted, after}
use Rattle.text_lines.specs.declared.Signs.{Signs}
use Rattle.text_lines.specs.declared.Spot.{Spot}
use Rattle.text_lines.specs.Stream.{marks_left, MarkIs}
use Rattle.text_tokens.specs.Left.{names_from, names_in}
use Rattle.text_tokens.proofs.TokenLaws.{names_in-close, names_in-name}
use Rattle.text_names.specs.Named.{NameAt}

-- From p to q no name stands in quotes.
pub record Nameless (g : Signs) (src : List ℕ) (p q : Spot) : Type 0 where
  pub rest : names_in (marks_left g src p) ≡ names_in (marks_left g src q)
  pub mode : p.mode ≡ quoted → q.mode ≡ quoted
  pub to : q.at ≤ length src

module _ {g : Signs} {src : List ℕ} {p q : Spot} (v : Nameless g src p q) where
  pub nameless-end : marks_left g src q ≡ [] → names_in (marks_left g src p) ≡ []
  unfolding names_from
  nameless-end n = v.rest ∙ rw n

  module _ {m : ℕ} {r : Spot} (mark : MarkIs g src q m r) where
    pub nameless-close : m ≡ 34 → names_in (marks_left g src p) ≡ []
    nameless-close h = v.rest ∙ rw (mark.marks, names_in-close m (marks_left g src r) h)

    pub nameless-name : m ≡ 60 → NameAt g src p r
    unfolding after
    nameless-name h =
        record {
          names = v.rest ∙ rw (mark.marks, names_in-name m (marks_left g src r) h);
          mode = λ z. mark.step.mode ∙ rw (v.mode z, h);
          to = mark.to;
        }

    pub nameless-more : (m ≡ 34 → ⊥) → (m ≡ 60 → ⊥) → Nameless g src p r
    unfolding names_from after
    nameless-more h k =
        record {
          rest = v.rest ∙ rw mark.marks (simp (ne_eqb m 34 h, ne_eqb m 60 k));
          mode = λ z. mark.step.mode ∙ rw (v.mode z) (simp (ne_eqb m 34 h, ne_eqb m 60 k));
          to = mark.to;
        }
