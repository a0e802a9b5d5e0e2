-- What a line between CHARMAP and END CHARMAP does: an entry that is given or refused, or another line.
use Rattle.std.specs.Prelude.{Bool, None, Option, Result, Some, ℕ, Err, Ok}
use mathlib.Core.Path.{◌≡◌, refl, sym, ap, ◌∙◌, subst}
use mathlib.Core.Bool.{Bool, true, false}
use mathlib.Core.List.{List, [], ◌∷◌, ◌++◌}
use Prim.Native.Nat.{ℕ, ◌+◌, ◌≤◌, ◌<◌}
use native.Mathlib.Omega.{arith}
use lib.ListN.{length, drop, length-drop}
use lib.Dec.{eqb}
use Rattle.base_lists.proofs.Bools.{clash}
use Rattle.rules.specs.Text.{every, ◌unless◌}
use Rattle.rules.specs.Tokens.{is_text, Token, tokens_of, is_entry}
use Rattle.rules.specs.Lines.{Chars, Scan}
use Rattle.rules.specs.Charmap.{Given, Mapping, MapOutcome, leaves, map_ended, entry_line, body_line, map_lines_from}
use Rattle.rules.proofs.RunLaws.{map-run-at, map-run-refused}
use Rattle.base_units.specs.Numbers.{number_of, number_or_none}
use Rattle.base_units.proofs.NumberLaws.{number_of-some}
use Rattle.base_units.specs.declared.Refusal.{Refusal}
use Rattle.text_lines.specs.declared.Signs.{Signs}
use Rattle.text_lines.specs.Stream.{line_left, marks_left, line_start}
use Rattle.text_names.specs.Named.{name_left}
use Rattle.charmap_entry.specs.declared.Parts.{Parts}
use Rattle.charmap_entry.specs.Entered.{PartsAre, NoEntry, EntryIs}
use Rattle.rules.specs.Names.{names_refusal}
use Rattle.charmap_body.specs.Outcomes.{Holds, Area, entry_refusal, refusal_told, new_of, EnterIs}
use Rattle.charmap_body.specs.Plain.{LineTo, PlainIs}
use Rattle.charmap_body.specs.Body.{chars_of, in_body, line_at, outcome_at, Spans, LineGoes, LineRefused, BodyIs}
use Rattle.charmap_body.proofs.OutcomeLaws.{entry-refusal, entry-mapping}
use Rattle.charmap_body.proofs.FirstLaws.{cons-some}

-- ## A line that is no entry

module _ (g : Signs) (src : List ℕ) (at : ℕ) (e : line_at g src at ≡ line_left g src (line_start at)) where
  spans : {next feeds : ℕ} → LineTo g src at next feeds → Spans g src at next feeds
  spans l = record {
    end = ap (λ (x : Scan). at + x.size) e ∙ l.end;
    fed = ap (λ (x : Scan). x.feeds) e ∙ l.fed;
    few = l.few;
    to = l.to;
    on = l.on;
  }

  plainly : (m : Mapping) → body_line m (line_at g src at).marks ≡ body_line m (line_left g src (line_start at)).marks
  plainly m = ap (λ (x : Scan). body_line m x.marks) e

  body-other : (area : List ℕ) (k : Result (Bool × ℕ × ℕ) Refusal) → PlainIs g src at k → BodyIs g src at area area k
  body-other area (Ok (false, next, feeds)) b =
      record {
        line = spans b.line;
        goes = λ c s gs h. record { given = gs; outcome = plainly (in_body (chars_of g c s) false gs) ∙ b.same (in_body (chars_of g c s) false gs); holds = h };
      }
  body-other area (Ok (true, next, feeds)) b =
      record {
        line = spans b.line;
        goes = λ c s gs h. record { given = gs; outcome = plainly (in_body (chars_of g c s) false gs) ∙ b.closes (in_body (chars_of g c s) false gs); holds = h };
      }
  body-other area (Err r) b =
      record {
        refusal = λ c s gs h. ap (λ (o : MapOutcome). o.refusal) (plainly (in_body (chars_of g c s) false gs)) ∙ b.refusal (in_body (chars_of g c s) false gs);
        some = b.some;
        untouched = refl;
      }

-- ## An entry

-- an entry has a token
entry-some : (ts : List Token) → is_entry ts ≡ true → eqb (length ts) 0 ≡ false
unfolding is_entry
entry-some [] h = clash h refl
entry-some (t ∷ ts) h = cons-some t ts

body_entry : (m : Mapping) (marks : List ℕ) → is_entry (tokens_of marks) ≡ true → body_line m marks ≡ entry_line m (tokens_of marks) (2 unless every is_text marks)
unfolding body_line
body_entry m marks h = rw (entry-some (tokens_of marks) h, h)

module _ (g : Signs) (src : List ℕ) (at : ℕ) {p : Parts} {area after : List ℕ} (r : Result Unit Refusal) (k : PartsAre g src at p)
    (w : EnterIs p.text (number_or_none p.refusal) (name_left g src p.first) (name_left g src p.last) p.byte area after r) where
  names-told : names_refusal (name_left g src p.first ∷ name_left g src p.last ∷ []) ≡ number_or_none p.refusal
  names-told = rw (← k.first, ← k.last) k.refusal

  parts-span : Spans g src at p.next p.feeds
  parts-span = record { end = k.end; fed = k.feeds; few = k.few; to = k.to; on = λ h. k.on }

  module _ (chars : Chars) (gs : List Given) where
    as-entry : outcome_at g src at chars gs ≡ entry_line (in_body chars false gs) (tokens_of (line_at g src at).marks) (2 unless p.text)
    as-entry =
        body_entry (in_body chars false gs) (line_at g src at).marks k.entry
        ∙ ap (λ (t : Bool). entry_line (in_body chars false gs) (tokens_of (line_at g src at).marks) (2 unless t)) k.text

    outcome-refusal : (outcome_at g src at chars gs).refusal ≡ entry_refusal (2 unless p.text) (number_or_none p.refusal) (name_left g src p.first) (name_left g src p.last) p.byte gs
    outcome-refusal =
        ap (λ (o : MapOutcome). o.refusal) as-entry
        ∙ entry-refusal (in_body chars false gs) (tokens_of (line_at g src at).marks) (2 unless p.text) (name_left g src p.first) (name_left g src p.last) (number_or_none p.refusal) p.byte
        k.first k.last names-told k.byte

    outcome-mapping : (outcome_at g src at chars gs).mapping ≡ in_body chars false (gs ++ new_of (name_left g src p.first) (name_left g src p.last) p.byte)
    outcome-mapping =
        ap (λ (o : MapOutcome). o.mapping) as-entry
        ∙ entry-mapping (in_body chars false gs) (tokens_of (line_at g src at).marks) (2 unless p.text) (name_left g src p.first) (name_left g src p.last) (number_or_none p.refusal) p.byte
        k.first k.last names-told k.byte

  pub body-given : r ≡ Ok tt → LineGoes g src at area after false p.next p.feeds
  body-given f =
      let z : refusal_told r ≡ 0 = ap refusal_told f in
      record {
        line = parts-span;
        goes = λ c s gs h.
            let v = w gs h in
            let chars : Chars = chars_of g c s in
            record {
              given = gs ++ new_of (name_left g src p.first) (name_left g src p.last) p.byte;
              outcome = ap (λ (n : ℕ). leaves n (outcome_at g src at chars gs).mapping) (outcome-refusal chars gs ∙ v.same ∙ z)
                  ∙ ap (λ (m : Mapping). leaves 0 m) (outcome-mapping chars gs);
              holds = v.given z;
            };
      }

  pub body_refused : {n : Refusal} → Area area → r ≡ Err n → LineRefused g src at area after (number_of n)
  body_refused {n} a f =
      let z : refusal_told r ≡ number_of n = ap refusal_told f in
      let o = number_of-some n in
      record {
        refusal = λ c s gs h. outcome-refusal (chars_of g c s) gs ∙ (w gs h).same ∙ z;
        some = omega arith;
        untouched = (w a.given a.holds).untouched (λ y. o (sym z ∙ y));
      }

-- ## Which of the two it is

module _ (g : Signs) (src : List ℕ) (at : ℕ) {s : Option Parts} (w : EntryIs g src at s) where
  module _ (e : s ≡ None) where
    none : NoEntry g src at
    none = subst (EntryIs g src at) e w

    pub no-entry : is_entry (tokens_of (marks_left g src (line_start at))) ≡ false
    no-entry = none.none

    pub body-plain : (area : List ℕ) (k : Result (Bool × ℕ × ℕ) Refusal) → PlainIs g src at k → BodyIs g src at area area k
    body-plain area k b = body-other g src at none.plain area k b

  pub found-parts : {p : Parts} → s ≡ Some p → PartsAre g src at p
  found-parts e = subst (EntryIs g src at) e w

-- ## For callers: the run over the lines

module _ (g : Signs) (src : List ℕ) (at : ℕ) (area after : List ℕ) (in_source : at < length src) (c e : Bool) (gs : List Given) (h : Holds area gs) (number : ℕ) where
  some_left : 0 < length (drop at src)
  some_left = simp length-drop (omega arith)

  -- the run goes on behind the line
  pub body_run_lem : {closed : Bool} {next feeds : ℕ} (l : LineGoes g src at area after closed next feeds)
      → map_lines_from (in_body (chars_of g c e) false gs) number 0 (drop at src)
      ≡ map_lines_from (in_body (chars_of g c e) closed (l.goes c e gs h).given) (number + feeds) 0 (drop next src)
  body_run_lem {closed} {next} {feeds} l =
      let m : Mapping = in_body (chars_of g c e) false gs in
      let v = l.goes c e gs h in
      let after-it : Mapping = in_body (chars_of g c e) closed v.given in
      map-run-at m number at src some_left refl (ap (λ (o : MapOutcome). o.refusal) v.outcome)
      ∙ ap (λ (o : MapOutcome). map_lines_from o.mapping (number + (line_at g src at).feeds) 0 (drop (at + (line_at g src at).size) src)) v.outcome
      ∙ ap (λ (k : ℕ). map_lines_from after-it (number + k) 0 (drop (at + (line_at g src at).size) src)) l.line.fed
      ∙ ap (λ (k : ℕ). map_lines_from after-it (number + feeds) 0 (drop k src)) l.line.end

  -- or ends with its refusal
  pub body-run-refused : {n : ℕ} → LineRefused g src at area after n → map_lines_from (in_body (chars_of g c e) false gs) number 0 (drop at src) ≡ map_ended n number []
  body-run-refused l =
      let m : Mapping = in_body (chars_of g c e) false gs in
      let r = l.refusal c e gs h in
      map-run-refused m number (drop at src) some_left refl (λ z. let s = l.some in omega (arith, r, z)) ∙ ap (λ (k : ℕ). map_ended k number []) r
