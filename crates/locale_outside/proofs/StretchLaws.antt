-- Line after line outside LC_COLLATE: the turns of the loop over them.
use Rattle.std.specs.Prelude.{Err, Ok, Result}
use mathlib.Core.Path.{◌≡◌, refl, sym, ap, ◌∙◌, subst}
use mathlib.Core.Bool.{Bool, true, false, true≢false}
use mathlib.Core.List.{List}
use Prim.Native.Nat.{ℕ, ◌≤◌}
use native.Mathlib.Omega.{arith}
use lib.ListN.{length, drop}
use Rattle.rules.specs.State.{State}
use Rattle.rules.specs.Source.{lines_from}
use Rattle.rules.proofs.RunLaws.{run_end}
use Rattle.base_units.specs.declared.Refusal.{Refusal}
use Rattle.base_units.specs.Numbers.{number_of}
use Rattle.text_specials.specs.declared.Chars.{Chars}
use Rattle.text_specials.specs.Signed.{Visible}
use Rattle.locale_outside.specs.Outside.{signs_of}
use Rattle.text_reader.specs.Turns.{Turns}
use Rattle.locale_skips.specs.Passing.{Begins}
use Rattle.locale_skips.proofs.LineRuns.{refuses-from}
use Rattle.locale_outside.specs.declared.Turn.{Turn}
use Rattle.locale_outside.specs.declared.Turn.TheVariants as turn
use Rattle.locale_outside.specs.declared.Outers.{Outers}
use Rattle.locale_outside.specs.declared.Outers.TheVariants as outers
use Rattle.locale_outside.specs.declared.Stretch.{Stretch}
use Rattle.locale_outside.specs.Stretches.{Keeps, collated_by, GoesOn, Opens, Fails, TurnIs, EndsAll, OutersIs, Outside, StretchStands, stretch_reading}

-- ## One stretch after the other

keeps_self : (s : State) → Keeps s s
keeps_self s = record { blocks = refl; declared = refl; ordered = refl }

keeps_then : {r s t : State} → Keeps r s → Keeps s t → Keeps r t
keeps_then v w = record { blocks = w.blocks ∙ v.blocks; declared = w.declared ∙ v.declared; ordered = w.ordered ∙ v.ordered }

-- what is kept is the same in LC_COLLATE
collated-kept : (c : Chars) {s t : State} → Keeps s t → collated_by c t ≡ collated_by c s
collated-kept c v = rw (v.blocks, v.declared, v.ordered)

-- ## From one place to the next

outside-none : (h : Chars) (before collated : Bool) (src : List ℕ) (at number : ℕ) → Begins src at number → Visible (signs_of h)
    → Outside h before collated src at number h before at number
outside-none h before collated src at number b v =
    record {
      reaches = λ s u. record { state = s; stands = u; keeps = keeps_self s; run = refl };
      visible = v;
      from = omega arith;
      to = b.inside;
      few = b.few;
    }

module _ {h : Chars} {before collated : Bool} {src : List ℕ} {at number : ℕ} {c : Chars} {first : Bool} {i n : ℕ}
    (v : Outside h before collated src at number c first i n) where
  outside-end : length src ≤ i → EndsAll h before collated src at number c first n
  outside-end l =
      record {
        ends = λ s u.
            let r = v.reaches s u in
            record { state = r.state; stands = r.stands; keeps = r.keeps; run = r.run ∙ run_end r.state n i src l };
        visible = v.visible;
        few = omega (arith, v.few, v.to);
      }

  module _ {t : Result Turn (Refusal × ℕ)} (w : TurnIs c first collated src i n t) where
    module _ {d : Chars} {still : Bool} {next m : ℕ} (e : t ≡ Ok (turn.On d still next m)) where
      on : GoesOn c first collated src i n d still next m
      on = subst (TurnIs c first collated src i n) e w

      outside-more : Outside h before collated src at number d still next m
      outside-more =
          record {
            reaches = λ s u.
                let r = v.reaches s u in
                let q = on.reaches r.state r.stands in
                record { state = q.state; stands = q.stands; keeps = keeps_then r.keeps q.keeps; run = r.run ∙ q.run };
            visible = on.visible;
            from = omega (arith, v.from, on.from);
            to = on.to;
            few = on.few;
          }

    outside-collate : {d : Chars} {next m : ℕ} → t ≡ Ok (turn.Collate d next m) → Opens h before collated src at number d next m
    outside-collate {d} {next} {m} e =
        let o : Opens c first collated src i n d next m = subst (TurnIs c first collated src i n) e w in
        record {
          run = λ s u.
              let r = v.reaches s u in
              r.run ∙ o.run r.state r.stands
              ∙ ap (λ (x : State). lines_from x m 0 (drop next src)) (collated-kept d r.keeps);
          once = o.once;
          visible = o.visible;
          from = omega (arith, v.from, o.from);
          to = o.to;
          few = o.few;
        }

    outside-refused : {r : Refusal} {l : ℕ} → t ≡ Err (r, l) → Fails h before collated src at number (number_of r) l
    outside-refused {r} {l} e =
        let o : Fails c first collated src i n (number_of r) l = subst (TurnIs c first collated src i n) e w in
        record {
          run = λ s u. let q = v.reaches s u in refuses-from q.run (o.run q.state q.stands);
        }

-- ## The reading of the lines

-- the state that it begins with
abbrev begun : Chars → Bool → Bool → ℕ → ℕ → Stretch
begun h before collated at number = record { over = false; next = at; number = number; answer = Ok (outers.End h before number); chars = h; before = before; collated = collated }

pub reading_begins : {h : Chars} {before collated : Bool} {src : List ℕ} {at number : ℕ} → Begins src at number → Visible (signs_of h)
    → StretchStands src (begun h before collated at number) (begun h before collated at number) at number
reading_begins {h} {before} {collated} {src} {at} {number} b v = record { collated = refl; answer = refl; passed = outside-none h before collated src at number b v }

-- an answer by whether LC_COLLATE has stood for t is one by whether it has for s
answer_at : (src : List ℕ) (s t : Stretch) (k : Result Outers (Refusal × ℕ)) → t.collated ≡ s.collated
    → OutersIs s.chars s.before t.collated src s.next s.number k → OutersIs s.chars s.before s.collated src s.next s.number k
answer_at src s t k e h = subst (λ (x : Bool). OutersIs s.chars s.before x src s.next s.number k) e h

module _ {src : List ℕ} {s t : Stretch} {i n : ℕ} (v : StretchStands src s t i n) where
  pub reading-used : length src ≤ i → OutersIs s.chars s.before s.collated src s.next s.number t.answer
  reading-used h =
      answer_at src s t t.answer v.collated
      (subst (OutersIs s.chars s.before t.collated src s.next s.number) (sym v.answer) (outside-end v.passed h))

-- what the line at a place does to it
module _ {src : List ℕ} {t : Stretch} {at number : ℕ} {k : Result Turn (Refusal × ℕ)} (w : TurnIs t.chars t.before t.collated src at number k) where
  pub reading-on : {d : Chars} {still : Bool} {next m : ℕ} → k ≡ Ok (turn.On d still next m)
      → Turns stretch_reading src t at number (record { over = false; next = next; number = m; answer = Ok (outers.End d still m); chars = d; before = still; collated = t.collated })
  reading-on {d} {still} {next} {m} e =
      let on : GoesOn t.chars t.before t.collated src at number d still next m = subst (TurnIs t.chars t.before t.collated src at number) e w in
      record {
        further = λ f. on.from;
        goes = λ f s v. record { collated = v.collated; answer = refl; passed = outside-more v.passed w e };
        stops = λ f. absurd (true≢false (sym f));
      }

  pub reading-collate : {d : Chars} {next m : ℕ} → k ≡ Ok (turn.Collate d next m)
      → Turns stretch_reading src t at number (record { over = true; next = next; number = m; answer = Ok (outers.Collate d next m); chars = d; before = t.before; collated = t.collated })
  reading-collate {d} {next} {m} e =
      record {
        further = λ f. absurd (true≢false f);
        goes = λ f. absurd (true≢false f);
        stops = λ f s v. answer_at src s t (Ok (outers.Collate d next m)) v.collated (outside-collate v.passed w e);
      }

  pub reading-refused : {r : Refusal} {l : ℕ} → k ≡ Err (r, l)
      → Turns stretch_reading src t at number (record { over = true; next = at; number = number; answer = Err (r, l); chars = t.chars; before = t.before; collated = t.collated })
  reading-refused {r} {l} e =
      record {
        further = λ f. absurd (true≢false f);
        goes = λ f. absurd (true≢false f);
        stops = λ f s v. answer_at src s t (Err (r, l)) v.collated (outside-refused v.passed w e);
      }
