-- The loop over a charmap's header: what the run from the first line is, from the line that comes next.
use Rattle.std.specs.Prelude.{Bool, Err, Ok, Result, ℕ}
use mathlib.Core.Path.{◌≡◌, refl, sym, ap, ◌∙◌, subst}
use mathlib.Core.Bool.{Bool, true, false}
use mathlib.Core.List.{List, []}
use Prim.Native.Nat.{ℕ, suc, ◌+◌, ◌-◌, ◌^◌, ◌≤◌, ◌<◌}
use native.Mathlib.Omega.{arith}
use lib.ListN.{length, drop, length-drop}
use Rattle.rules.specs.Names.{is_blank}
use Rattle.rules.specs.Lines as paper
use Rattle.rules.specs.Charmap.{Mapping, map_ended, map_lines_from}
use Rattle.rules.proofs.RunLaws.{map-run-at, map-run-refused, map-run-end}
use Rattle.base_units.specs.Numbers.{number_of}
use Rattle.base_units.specs.declared.Refusal.{Refusal}
use Rattle.text_specials.specs.declared.Chars.{Chars}
use Rattle.text_specials.specs.Force.{chars_as}
use Rattle.charmap_header.specs.Head.{head_with, line_at, Leaves, Stops, HeadingIs}
use Rattle.text_reader.proofs.HoldsLaws.{Held, held-inside, held-past, left-falls}
use Rattle.charmap_read.specs.Read.{whole_run, Opened, HeaderIs, Heads}

abbrev with_chars : paper.Chars → Mapping
with_chars c = record { chars = c; opened = false; closed = false; given = [] }

pub heads-start : (src : List ℕ) (h : Chars) → chars_as h ≡ paper.defaults → Heads src h 0 1
heads-start src h e = record {
  same = ap (λ (c : paper.Chars). map_lines_from (with_chars c) 1 0 src) (sym e);
  to = omega arith;
  few = omega arith;
  visible = record { comment = ap (λ (c : paper.Chars). is_blank c.comment) e; escape = ap (λ (c : paper.Chars). is_blank c.escape) e };
}

module _ {src : List ℕ} {h : Chars} {at number : ℕ} (v : Heads src h at number) where
  pub heads-end : length src ≤ at → whole_run src ≡ map_ended 3 number []
  heads-end l = v.same ∙ map-run-end (head_with h false) number at src l refl

  module _ (in_source : at < length src) where
    some_left : 0 < length (drop at src)
    some_left = simp length-drop (omega arith)

    module _ {s : Result (Chars × Bool × ℕ × ℕ) Refusal} (w : HeadingIs src h at s) where
      module _ {c : Chars} {opened : Bool} {next feeds : ℕ} (e : s ≡ Ok (c, opened, next, feeds)) where
        line : Leaves src h at c opened next feeds
        line = subst (HeadingIs src h at) e w

        goes : whole_run src ≡ map_lines_from (head_with c opened) (number + feeds) 0 (drop next src)
        goes =
            v.same
            ∙ map-run-at (head_with h false) number at src some_left refl line.refusal
            ∙ ap (λ (m : Mapping). map_lines_from m (number + (line_at src h at).feeds) 0 (drop (at + (line_at src h at).size) src)) line.mapping
            ∙ ap (λ (k : ℕ). map_lines_from (head_with c opened) (number + k) 0 (drop (at + (line_at src h at).size) src)) line.feeds
            ∙ ap (λ (k : ℕ). map_lines_from (head_with c opened) (number + feeds) 0 (drop k src)) line.end

        counted : number + feeds ≤ suc next
        counted = let x = line.few in let y = v.few in omega arith

        pub heads_fits : length src ≤ 1048576 → number + feeds < 2 ^ 64
        heads_fits l = let x = counted in let y = line.to in omega arith

        pub heads-more : opened ≡ false → Heads src c next (number + feeds)
        heads-more o = record {
          same = goes ∙ ap (λ (b : Bool). map_lines_from (head_with c b) (number + feeds) 0 (drop next src)) o;
          to = line.to;
          few = counted;
          visible = line.visible;
        }

        pub heads-opened : opened ≡ true → Opened src c next (number + feeds)
        heads-opened o = record {
          same = goes ∙ ap (λ (b : Bool). map_lines_from (head_with c b) (number + feeds) 0 (drop next src)) o;
          to = line.to;
          few = counted;
        }

      pub heads-refused : {r : Refusal} → s ≡ Err r → whole_run src ≡ map_ended (number_of r) number []
      heads-refused {r} e =
          let stops : Stops src h at (number_of r) = subst (HeadingIs src h at) e w in
          v.same
          ∙ map-run-refused (head_with h false) number (drop at src) some_left refl (λ z. stops.some (sym stops.refusal ∙ z))
          ∙ ap (λ (x : ℕ). map_ended x number []) stops.refusal

-- ## The loop

module _ {src held : List ℕ} {h : Chars} {at number : ℕ} (v : Held (Heads src h) src held at number) where
  pub header-used : length held ≤ at → whole_run src ≡ map_ended 3 number []
  header-used l = heads-end v.stands (held-past v l)

  module _ (inside : at < length held) (s : Result (Chars × Bool × ℕ × ℕ) Refusal) (w : HeadingIs held h at s) where
    heading : HeadingIs src h at s
    heading = subst (λ (x : List ℕ). HeadingIs x h at s) v.same w

    pub header-refused : {r : Refusal} → s ≡ Err r → whole_run src ≡ map_ended (number_of r) number []
    header-refused e = heads-refused v.stands (held-inside v inside) heading e

    module _ {c : Chars} {opened : Bool} {next feeds : ℕ} (e : s ≡ Ok (c, opened, next, feeds)) where
      pub header-fits : length src ≤ 1048576 → number + feeds < 2 ^ 64
      header-fits l = heads_fits v.stands (held-inside v inside) heading e l

      pub header-opened : opened ≡ true → Opened src c next (number + feeds)
      header-opened o = heads-opened v.stands (held-inside v inside) heading e o

      pub header-more : opened ≡ false → Heads src c next (number + feeds)
      header-more o = heads-more v.stands (held-inside v inside) heading e o

      pub header-nearer : {after : ℕ} → after ≡ next → length src - after < length src - at
      header-nearer o = left-falls src at next (held-inside v inside) (subst (HeadingIs src h at) e heading).on o
