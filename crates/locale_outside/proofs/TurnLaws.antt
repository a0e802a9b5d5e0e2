-- One line outside every category as a step of the run over the source, and the category that it opens.
use Rattle.std.specs.Prelude.{Err, Ok, Result, ℕ}
use mathlib.Core.Path.{◌≡◌, refl, sym, ap, ◌∙◌, subst}
use mathlib.Core.Bool.{Bool, true, false}
use mathlib.Core.List.{List}
use Prim.Native.Nat.{ℕ, ◌+◌, ◌*◌, ◌^◌, ◌≤◌, ◌<◌}
use native.Mathlib.Omega.{arith}
use lib.ListN.{length, drop, length-drop}
use Rattle.rules.specs.Text.{bytes, is}
use Rattle.rules.specs.Lines as paper
use Rattle.rules.specs.State.{between_categories, State, with_chars, to_phase, Outcome}
use Rattle.rules.specs.Source.{Ended, ended, lines_from}
use Rattle.rules.proofs.TextLaws.{same_true}
use Rattle.rules.proofs.RunLaws.{line_at, outcome_at, run_at, run-refused}
use Rattle.base_units.specs.declared.Refusal.{Refusal}
use Rattle.base_units.specs.Numbers.{number_of}
use Rattle.base_units.proofs.NumberLaws.{number_of-some}
use Rattle.text_specials.specs.declared.Chars.{Chars}
use Rattle.text_specials.specs.Force.{chars_as}
use Rattle.text_specials.specs.Signed.{Visible}
use Rattle.locale_outside.specs.declared.Outer.{Outer}
use Rattle.locale_outside.specs.declared.Outer.TheVariants as outer
use Rattle.locale_outside.specs.Outside.{signs_of, Stands, Leaves, Changes, word_there, opened_by, OpenedAt, SignedBy, RefusedWith, OuterIs}
use Rattle.locale_skips.specs.Passing.{InOther, Begins, name_at, Named, Refuses, CategoryStops, CategoryRefused, CategoryIs}
use Rattle.locale_skips.proofs.LineRuns.{refuses-from}
use Rattle.locale_outside.specs.Stretches.{collated_by, GoesOn, Opens, Fails}

-- ## A line in the run

some_left : (src : List ℕ) (at : ℕ) → at < length src → 0 < length (drop at src)
some_left src at h = rw length-drop (omega arith)

module _ {h : Chars} {before collated : Bool} {src : List ℕ} {at : ℕ} (i : at < length src) where
  -- the run goes on behind it
  run-changed : {next feeds : ℕ} {change : State → State} → Changes h before collated src at next feeds change
      → (n : ℕ) (s : State) → Stands h before collated s → lines_from s n 0 (drop at src) ≡ lines_from (change s) (n + feeds) 0 (drop next src)
  run-changed {next} {feeds} {change} v n s u =
      let w : Leaves s n src at next feeds (change s) = v.leaves s n u in
      run_at s n at src (some_left src at i) (ap (λ (x : Outcome). x.refusal) w.outcome)
      ∙ ap (λ (x : Outcome). lines_from x.state (n + (line_at s (drop at src)).feeds) 0 (drop (at + (line_at s (drop at src)).size) src)) w.outcome
      ∙ ap (λ (x : ℕ). lines_from (change s) (n + x) 0 (drop (at + (line_at s (drop at src)).size) src)) w.feeds
      ∙ ap (λ (x : ℕ). lines_from (change s) (n + feeds) 0 (drop x src)) w.end

  -- or ends with its refusal
  run-fails : (r : Refusal) → RefusedWith h before collated src at (number_of r) → (n : ℕ) (s : State) → Stands h before collated s
      → Refuses (lines_from s n 0 (drop at src)) (number_of r) n
  run-fails r v n s u =
      let q : (outcome_at s n (drop at src)).refusal ≡ number_of r = v.refusal s n u in
      let e : lines_from s n 0 (drop at src) ≡ ended (outcome_at s n (drop at src)).refusal n s =
      run-refused s n (drop at src) (some_left src at i) (λ y. number_of-some r (sym q ∙ y)) in
      record { refusal = ap (λ (x : Ended). x.refusal) e ∙ q; line = ap (λ (x : Ended). x.line) e }

-- ## The states after it

module _ {h : Chars} {before collated : Bool} {s : State} (u : Stands h before collated s) where
  stands-signed : (c : Chars) → Stands c before collated (with_chars s (chars_as c))
  stands-signed c = record { outside = u.outside; chars = refl; before = u.before; collated = u.collated; chains = u.chains }

  module _ (w : List ℕ) where
    in-other : InOther (signs_of h) w (opened_by false w s)
    in-other =
        record {
          inside = refl;
          comment = ap (λ (x : paper.Chars). x.comment) u.chars;
          escape = ap (λ (x : paper.Chars). x.escape) u.chars;
          category = refl;
        }

    stands-between : Stands h false collated (to_phase (opened_by false w s) between_categories)
    stands-between = record { outside = refl; chars = u.chars; before = refl; collated = u.collated; chains = u.chains }

-- the word of LC_COLLATE is those bytes
is_same : (w : List ℕ) → is w "LC_COLLATE" ≡ true → w ≡ bytes "LC_COLLATE"
unfolding is
is_same w e = same_true w (bytes "LC_COLLATE") e

collated-state : (c : Chars) (s : State) (w : List ℕ) → s.chars ≡ chars_as c → w ≡ bytes "LC_COLLATE" → opened_by true w s ≡ collated_by c s
collated-state c s w e f = rw (e, f)

-- ## What it is

-- an answer by what it holds
pub answered : {t : Result Outer Refusal} {o x : Outer} → t ≡ Ok o → o ≡ x → t ≡ Ok x
answered e f = e ∙ ap Ok f

module _ (h : Chars) (before collated : Bool) (src : List ℕ) (at number : ℕ) (i : at < length src) (few : number ≤ at + 1)
    (t : Result Outer Refusal) (w : OuterIs h before collated src at t) where
  pub blank-fits : {next feeds : ℕ} → t ≡ Ok (outer.Blank next feeds) → length src * 1 < 2 ^ 63 → number + feeds < 2 ^ 64
  blank-fits {next} {feeds} e b =
      let v : Changes h before collated src at next feeds (λ (s : State). s) = subst (OuterIs h before collated src at) e w in
      omega (arith, v.few, v.to)

  pub turn-blank : Visible (signs_of h) → {next feeds : ℕ} → t ≡ Ok (outer.Blank next feeds)
      → GoesOn h before collated src at number h before next (number + feeds)
  turn-blank x {next} {feeds} e =
      let v : Changes h before collated src at next feeds (λ (s : State). s) = subst (OuterIs h before collated src at) e w in
      record {
        reaches = λ s u. record {
          state = s;
          stands = u;
          keeps = record { blocks = refl; declared = refl; ordered = refl };
          run = run-changed i v number s u;
        };
        visible = x;
        from = v.on;
        to = v.to;
        few = omega (arith, v.few);
      }

  pub signed-fits : {c : Chars} {next feeds : ℕ} → t ≡ Ok (outer.Signed c next feeds) → length src * 1 < 2 ^ 63 → number + feeds < 2 ^ 64
  signed-fits {c} {next} {feeds} e b =
      let v : SignedBy h before collated src at c next feeds = subst (OuterIs h before collated src at) e w in
      omega (arith, v.line.few, v.line.to)

  pub turn_signed : {c : Chars} {next feeds : ℕ} → t ≡ Ok (outer.Signed c next feeds)
      → GoesOn h before collated src at number c before next (number + feeds)
  turn_signed {c} {next} {feeds} e =
      let v : SignedBy h before collated src at c next feeds = subst (OuterIs h before collated src at) e w in
      record {
        reaches = λ s u. record {
          state = with_chars s (chars_as c);
          stands = stands-signed u c;
          keeps = record { blocks = refl; declared = refl; ordered = refl };
          run = run-changed i v.line number s u;
        };
        visible = v.visible;
        from = v.line.on;
        to = v.line.to;
        few = omega (arith, v.line.few);
      }

  pub turn-refused : {r : Refusal} → t ≡ Err r → Fails h before collated src at number (number_of r) number
  turn-refused {r} e =
      let v : RefusedWith h before collated src at (number_of r) = subst (OuterIs h before collated src at) e w in
      record { run = λ s u. run-fails i r v number s u }

  module _ {collate : Bool} {word next feeds : ℕ} (e : t ≡ Ok (outer.Opened collate word next feeds)) where
    opened : OpenedAt h before collated src at collate word next feeds
    opened = subst (OuterIs h before collated src at) e w

    pub opened-fits : length src * 1 < 2 ^ 63 → number + feeds < 2 ^ 64
    opened-fits b = omega (arith, opened.line.few, opened.line.to)

    -- ### LC_COLLATE

    pub turn-collate : Visible (signs_of h) → collate ≡ true → Opens h before collated src at number h next (number + feeds)
    turn-collate x f =
        let y : OpenedAt h before collated src at true word next feeds =
        subst (λ (b : Bool). OpenedAt h before collated src at b word next feeds) f opened in
        record {
          run = λ s u. run-changed i y.line number s u
              ∙ ap (λ (q : State). lines_from q (number + feeds) 0 (drop next src))
              (collated-state h s (word_there h src word) u.chars (is_same (word_there h src word) (sym y.is-collate)));
          once = y.once;
          visible = x;
          from = omega (arith, y.line.on);
          to = y.line.to;
          few = omega (arith, y.line.few);
        }

    -- ### Another category

    pub opened-begins : Begins src next (number + feeds)
    opened-begins = record { inside = opened.line.to; few = omega (arith, opened.line.few) }

    pub opened-named : Named (signs_of h) src word
    unfolding name_at
    opened-named =
        record { inside = opened.inside; some = omega (arith, opened.long); short = opened.short }

    module _ (f : collate ≡ false) where
      other : Changes h before collated src at next feeds (opened_by false (word_there h src word))
      other = subst (λ (b : Bool). Changes h before collated src at next feeds (opened_by b (word_there h src word))) f opened.line

      abbrev Category : Result (ℕ × ℕ) (Refusal × ℕ) → Type 0
      Category y = CategoryIs (signs_of h) src next (number + feeds) (name_at (signs_of h) src word) y

      module _ (k : Result (ℕ × ℕ) (Refusal × ℕ)) (x : CategoryIs (signs_of h) src next (number + feeds) (name_at (signs_of h) src word) k) where
        pub turn-category : Visible (signs_of h) → {j m : ℕ} → k ≡ Ok (j, m) → GoesOn h before collated src at number h false j m
        unfolding name_at
        turn-category z {j} {m} d =
            let y : CategoryStops (signs_of h) src next (number + feeds) (name_at (signs_of h) src word) j m = subst Category d x in
            record {
              reaches = λ s u. record {
                state = to_phase (opened_by false (word_there h src word) s) between_categories;
                stands = stands-between u (word_there h src word);
                keeps = record { blocks = refl; declared = refl; ordered = refl };
                run = run-changed i other number s u
                    ∙ y.run (opened_by false (word_there h src word) s) (in-other u (word_there h src word));
              };
              visible = z;
              from = omega (arith, other.on, y.from);
              to = y.to;
              few = y.few;
            }

        pub turn-unended : {r : Refusal} {l : ℕ} → k ≡ Err (r, l) → Fails h before collated src at number (number_of r) l
        unfolding name_at
        turn-unended {r} {l} d =
            let y : CategoryRefused (signs_of h) src next (number + feeds) (name_at (signs_of h) src word) (number_of r) l = subst Category d x in
            record {
              run = λ s u. refuses-from (run-changed i other number s u)
                  (y.run (opened_by false (word_there h src word) s) (in-other u (word_there h src word)));
            }
