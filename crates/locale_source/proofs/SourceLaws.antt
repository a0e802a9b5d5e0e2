-- A whole source: its lines before LC_COLLATE, its own and those after it, put together.
use Rattle.std.specs.Prelude.{Err, Ok, Result, ℕ}
use mathlib.Core.Path.{◌≡◌, refl, sym, ap, ◌∙◌, subst}
use mathlib.Core.Bool.{Bool, true, false}
use mathlib.Core.List.{List, []}
use Prim.Native.Nat.{ℕ}
use native.Mathlib.Omega.{arith}
use Rattle.rules.specs.Names.{is_blank}
use Rattle.rules.specs.Lines as paper
use Rattle.rules.specs.State.{between_categories, State, start, to_phase}
use Rattle.base_units.specs.declared.Refusal.{Refusal}
use Rattle.base_units.specs.Numbers.{number_of}
use Rattle.text_lines.specs.declared.Signs.{Signs}
use Rattle.text_specials.specs.declared.Chars.{Chars}
use Rattle.text_specials.specs.Force.{chars_as}
use Rattle.text_specials.specs.Signed.{Visible}
use Rattle.locale_outside.specs.Outside.{signs_of, Stands}
use Rattle.locale_outside.specs.declared.Outers.{Outers}
use Rattle.locale_outside.specs.declared.Outers.TheVariants as outers
use Rattle.locale_outside.specs.Stretches.{collated_by, Opens, Fails, EndsAll, OutersIs}
use Rattle.locale_outside.proofs.EndLaws.{ends-without}
use Rattle.locale_skips.specs.Passing.{Begins}
use Rattle.locale_skips.proofs.LineRuns.{refuses-from}
use Rattle.locale_sheet.specs.declared.Sheet.{Sheet}
use Rattle.locale_sheet.specs.Sheets.{Open}
use Rattle.locale_category.specs.Blocks.{GoesOut}
use Rattle.locale_category.specs.Category.{Begun, Ready, ClosedAt, RefusedAt, CategoryIs}
use Rattle.locale_source.specs.Whole.{Empty, RefusedSource, SourceIs, AfterIs, RefusedInside, InsideIs}

-- ## The lines from the one after LC_COLLATE on

-- the state there
begun : (c : Chars) → Begun (signs_of c) (collated_by c start)
begun c = record { comment = refl; escape = refl; phase = refl; collated = refl; blocks = refl; declared = refl; ordered = refl }

-- behind END LC_COLLATE
stands-behind : {c : Chars} {g : Signs} {src w : List ℕ} {sh : Sheet} {at : ℕ} {s : State} → Open g src w sh [] at s → s.chars ≡ chars_as c
    → Stands c false true (to_phase s between_categories)
stands-behind o e = record { outside = refl; chars = e; before = refl; collated = o.collated; chains = o.chains }

module _ (c : Chars) (src : List ℕ) (at number : ℕ) (w' : List ℕ) (k : Result (Sheet × ℕ × ℕ) (Refusal × ℕ)) (q : CategoryIs (signs_of c) src at number w' k) where
  pub inside-refused : {r : Refusal} {l : ℕ} → k ≡ Err (r, l) → RefusedInside c src at number (number_of r) l
  inside-refused {r} {l} e =
      let y : RefusedAt (signs_of c) src at number (number_of r) l = subst (CategoryIs (signs_of c) src at number w') e q in
      record { run = y.runs (collated_by c start) (begun c) }

  module _ (sh : Sheet) (next n : ℕ) (e : k ≡ Ok (sh, next, n)) where
    closed : ClosedAt (signs_of c) src at number w' sh next n
    closed = subst (CategoryIs (signs_of c) src at number w') e q

    out : GoesOut (signs_of c) src at number (collated_by c start) w' sh [] next n
    out = closed.runs (collated_by c start) (begun c)

    pub after-begins : Begins src next n
    after-begins = record { inside = closed.reached.to; few = closed.reached.few }

    pub inside-after : (r : Result (Signs × Sheet) (Refusal × ℕ)) → AfterIs c src sh next n r → InsideIs c src at number w' r
    inside-after (Ok (g, x)) y =
        let t = y.ends (to_phase out.after between_categories) (stands-behind out.held out.chars) in
        rw (y.signs, y.sheet)
        (record {
          place = out.place;
          after = out.after;
          held = out.held;
          behind = closed.behind;
          last = t.last;
          run = out.run ∙ t.run;
          declared = t.keeps.declared;
          ordered = t.keeps.ordered;
        })
    inside-after (Err (r, l)) y =
        record { run = refuses-from out.run (y.run (to_phase out.after between_categories) (stands-behind out.held out.chars)) }

-- ## All lines

-- the default characters are no blanks
pub start-visible : {c : Chars} → chars_as c ≡ paper.defaults → Visible (signs_of c)
start-visible e = record {
  comment = ap (λ (x : paper.Chars). is_blank x.comment) e;
  escape = ap (λ (x : paper.Chars). is_blank x.escape) e;
}

pub start-begins : (src : List ℕ) → Begins src 0 1
start-begins src = record { inside = omega arith; few = omega arith }

-- before the first line
stands-start : (c : Chars) → chars_as c ≡ paper.defaults → Stands c true false start
stands-start c e = record { outside = refl; chars = sym e; before = refl; collated = refl; chains = refl }

module _ (c : Chars) (e : chars_as c ≡ paper.defaults) (src : List ℕ) (o : Result Outers (Refusal × ℕ)) (v : OutersIs c true false src 0 1 o) where
  pub source-refused : {r : Refusal} {l : ℕ} → o ≡ Err (r, l) → RefusedSource src (number_of r) l
  source-refused {r} {l} f =
      let y : Fails c true false src 0 1 (number_of r) l = subst (OutersIs c true false src 0 1) f v in
      record { run = y.run start (stands-start c e) }

  -- LC_COLLATE is missing
  pub source-without : {h : Chars} {first : Bool} {n : ℕ} → o ≡ Ok (outers.End h first n) → RefusedSource src 3 n
  source-without {h} {first} {n} f =
      let y : EndsAll c true false src 0 1 h first n = subst (OutersIs c true false src 0 1) f v in
      record { run = ends-without (y.ends start (stands-start c e)) refl }

  module _ (h : Chars) (at n : ℕ) (f : o ≡ Ok (outers.Collate h at n)) where
    opens : Opens c true false src 0 1 h at n
    opens = subst (OutersIs c true false src 0 1) f v

    pub inside-ready : (w : List ℕ) → Empty src w → Ready src w at n
    inside-ready w b = record { roomy = b.roomy; none = b.none; starts = record { inside = opens.to; few = opens.few } }

    pub inside-visible : Visible (signs_of h)
    inside-visible = opens.visible

    pub source-inside : (w' : List ℕ) (r : Result (Signs × Sheet) (Refusal × ℕ)) → InsideIs h src at n w' r → SourceIs src w' r
    source-inside w' (Ok (g, sh)) y = record {
      place = y.place;
      after = y.after;
      held = y.held;
      behind = y.behind;
      last = y.last;
      run = opens.run start (stands-start c e) ∙ y.run;
      declared = y.declared;
      ordered = y.ordered;
    }
    source-inside w' (Err (r, l)) y = record { run = refuses-from (opens.run start (stands-start c e)) y.run }
