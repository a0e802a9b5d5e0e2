-- The loop over a charmap's body: what the run from CHARMAP is, from the line that comes next; and the two loops together.
use Rattle.std.specs.Prelude.{Bool, Err, Ok, Result, ℕ}
use mathlib.Core.Path.{◌≡◌, refl, sym, ap, ◌∙◌, subst}
use mathlib.Core.Bool.{Bool, true, false}
use mathlib.Core.List.{List, []}
use Prim.Native.Nat.{ℕ, suc, ◌+◌, ◌-◌, ◌^◌, ◌≤◌, ◌<◌}
use native.Mathlib.Omega.{arith}
use lib.ListN.{length, drop}
use Rattle.rules.specs.Charmap.{Given, MapEnded, map_ended, map_lines_from, area_of}
use Rattle.rules.proofs.RunLaws.{map-run-closed, map-run-end}
use Rattle.charmap_numbers.proofs.KeptLaws.{kept-none}
use Rattle.base_units.specs.Numbers.{number_of}
use Rattle.base_units.specs.declared.Refusal.{Refusal}
use Rattle.text_specials.specs.declared.Chars.{Chars}
use Rattle.charmap_header.specs.Head.{signs_of}
use Rattle.charmap_body.specs.Outcomes.{Holds, Area}
use Rattle.charmap_body.specs.Body.{LineGoes, LineRefused, BodyIs}
use Rattle.charmap_body.proofs.BodyLaws.{body_run_lem, body-run-refused}
use Rattle.text_reader.proofs.HoldsLaws.{Held, held-inside, held-past, left-falls}
use Rattle.charmap_read.specs.Read.{whole_run, body_run, Opened, HeaderIs, Opens, Closes, RunIs, body_state, Reads}

pub reads-start : {src : List ℕ} {h : Chars} {from first : ℕ} {area : List ℕ} → Opens src from first area → Reads src h from first area from first
reads-start o = record { given = []; holds = record { same = o.none; kept = kept-none }; same = refl; to = o.to; few = o.few }

module _ {src : List ℕ} {h : Chars} {from first : ℕ} {area : List ℕ} {at number : ℕ} (v : Reads src h from first area at number) where
  pub reads_end : length src ≤ at → body_run src h from first ≡ map_ended 3 number []
  reads_end l = v.same ∙ map-run-end (body_state h false v.given) number at src l refl

  module _ (in_source : at < length src) (after : List ℕ) {s : Result (Bool × ℕ × ℕ) Refusal} (w : BodyIs (signs_of h) src at area after s) where
    module _ {closed : Bool} {next feeds : ℕ} (e : s ≡ Ok (closed, next, feeds)) where
      line : LineGoes (signs_of h) src at area after closed next feeds
      line = subst (BodyIs (signs_of h) src at area after) e w

      new : List Given
      new = (line.goes h.commented h.escaped v.given v.holds).given

      new-held : Holds after new
      unfolding new
      new-held = (line.goes h.commented h.escaped v.given v.holds).holds

      goes : body_run src h from first ≡ map_lines_from (body_state h closed new) (number + feeds) 0 (drop next src)
      unfolding new
      goes = v.same ∙ body_run_lem (signs_of h) src at area after in_source h.commented h.escaped v.given v.holds number line

      counted : number + feeds ≤ suc next
      counted = let x = line.line.few in let y = v.few in omega arith

      pub reads-fits : length src ≤ 1048576 → number + feeds < 2 ^ 64
      reads-fits l = let x = counted in let y = line.line.to in omega arith

      pub reads_more : closed ≡ false → Reads src h from first after next (number + feeds)
      reads_more c = record {
        given = new;
        holds = new-held;
        same = goes ∙ ap (λ (b : Bool). map_lines_from (body_state h b new) (number + feeds) 0 (drop next src)) c;
        to = line.line.to;
        few = counted;
      }

      pub reads-closed : closed ≡ true → Closes (body_run src h from first) after
      reads-closed c = record {
        given = new;
        ended = goes ∙ map-run-closed (body_state h closed new) (number + feeds) 0 (drop next src) c;
        holds = new-held.same;
      }

    pub reads-refused : {r : Refusal} → s ≡ Err r → body_run src h from first ≡ map_ended (number_of r) number []
    reads-refused {r} e =
        let stops : LineRefused (signs_of h) src at area after (number_of r) = subst (BodyIs (signs_of h) src at area after) e w in
        v.same ∙ body-run-refused (signs_of h) src at area after in_source h.commented h.escaped v.given v.holds number stops

-- ## The loop

module _ {src held : List ℕ} {h : Chars} {from first : ℕ} {area : List ℕ} {at number : ℕ} (v : Held (Reads src h from first area) src held at number) where
  pub body-used : length held ≤ at → body_run src h from first ≡ map_ended 3 number []
  body-used l = reads_end v.stands (held-past v l)

  pub body-asks : at < length held → Area area × (at ≤ length held)
  body-asks i = (record { given = v.stands.given; holds = v.stands.holds }, omega arith)

  module _ (inside : at < length held) (after : List ℕ) (s : Result (Bool × ℕ × ℕ) Refusal) (w : BodyIs (signs_of h) held at area after s) where
    told : BodyIs (signs_of h) src at area after s
    told = subst (λ (x : List ℕ). BodyIs (signs_of h) x at area after s) v.same w

    pub body-refused : {r : Refusal} → s ≡ Err r → body_run src h from first ≡ map_ended (number_of r) number []
    body-refused e = reads-refused v.stands (held-inside v inside) after told e

    module _ {closed : Bool} {next feeds : ℕ} (e : s ≡ Ok (closed, next, feeds)) where
      pub body-fits : length src ≤ 1048576 → number + feeds < 2 ^ 64
      body-fits l = reads-fits v.stands (held-inside v inside) after told e l

      pub body-closed : closed ≡ true → Closes (body_run src h from first) after
      body-closed c = reads-closed v.stands (held-inside v inside) after told e c

      pub body-more : closed ≡ false → Reads src h from first after next (number + feeds)
      body-more c = reads_more v.stands (held-inside v inside) after told e c

      pub body-nearer : {place : ℕ} → place ≡ next → length src - place < length src - at
      body-nearer o =
          let l : LineGoes (signs_of h) src at area after closed next feeds = subst (BodyIs (signs_of h) src at area after) e told in
          left-falls src at next (held-inside v inside) (l.line.on (held-inside v inside)) o

-- ## Header and body

module _ (src : List ℕ) {s : Result (Chars × ℕ × ℕ) (Refusal × ℕ)} (w : HeaderIs src s) where
  pub opens : {area : List ℕ} {h : Chars} {at number : ℕ} → length src ≤ 1048576 → area ≡ area_of [] → s ≡ Ok (h, at, number) → Opens src at number area
  opens {area} {h} {at} {number} l z e =
      let o : Opened src h at number = subst (HeaderIs src) e w in
      record { short = l; to = o.to; few = o.few; none = z }

  pub header_refused : {r : Refusal} {l : ℕ} → s ≡ Err (r, l) → whole_run src ≡ map_ended (number_of r) l []
  header_refused e = subst (HeaderIs src) e w

  pub goes_on : {h : Chars} {at number : ℕ} (after : List ℕ) (r : Result Unit (Refusal × ℕ)) → s ≡ Ok (h, at, number) → RunIs (body_run src h at number) after r → RunIs (whole_run src) after r
  goes_on {h} {at} {number} after r e k =
      let o : Opened src h at number = subst (HeaderIs src) e w in
      subst (λ (x : MapEnded). RunIs x after r) (sym o.same) k
