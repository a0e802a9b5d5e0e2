-- Behind an entry's digits: the turns of the loop over joins, and what stops it.
use mathlib.Core.Path.{◌≡◌, refl, sym, ap, ◌∙◌}
use mathlib.Core.Bool.{Bool, true, false}
use mathlib.Core.List.{List, [], ◌∷◌}
use Prim.Native.Nat.{ℕ, suc, ◌+◌, ◌≤◌, ◌<◌}
use native.Mathlib.Nat.{add-zero}
use native.Mathlib.Numerals.{add-one}
use native.Mathlib.Omega.{arith}
use lib.ListN.{length, get_or, drop, drop_of_length-le}
use lib.Seq.{drop-cons}
use lib.Dec.{eqb}
use borrow.Author.Tests.{eq-eqb, ne_eqb}
use Rattle.rules.specs.Names.{is_blank}
use Rattle.rules.specs.Lines as paper
use Rattle.rules.specs.Lines.{in_plain, after, Scan, dropped, takes_as_is, opens_comment, ends_entry, scan_escaped, scan, line_from}
use Rattle.text_lines.specs.declared.Signs.{Signs}
use Rattle.text_lines.specs.Stream.{plain_signs, state_in, line_left, marks_left}
use Rattle.text_lines.proofs.LineLaws.{onto, line_from-onto, line_from-rest, plain-as-is, line_step, blank-escaped}
use Rattle.charmap_entry.specs.Entered.{body_signs, plain_at, Passed, Closing, Glued}
use Rattle.charmap_entry.proofs.BodyLaws.{body-as-is}

-- ## What a line reads in plain mode right after a mark that is no blank

-- a join
join_step : (s : paper.Signs) (done : List ℕ) (f z b : ℕ) (bs : List ℕ) → takes_as_is s (state_in in_plain false done f z) b ≡ false
    → eqb b s.escape ≡ true → (b ≡ 10 → ⊥)
    → line_from s (state_in in_plain false done f z) (b ∷ 10 ∷ bs) ≡ line_from s (state_in in_plain false done (suc f) (suc (suc z))) bs
unfolding scan scan_escaped
join_step s done f z b bs t e n =
    let x = state_in in_plain false done f z in
    line_step s x b (10 ∷ bs) {n = dropped x in_plain true} (rw (t, e, ne_eqb b 10 n)) refl ∙ line_step s (dropped x in_plain true) 10 bs refl refl

module _ (g : Signs) where
  -- a byte that stands
  reads_byte : (b : ℕ) (bs : List ℕ) → (b ≡ 10 → ⊥) → (b ≡ g.escape → ⊥)
      → (line_from (plain_signs g) (state_in in_plain false [] 0 0) (b ∷ bs)).marks ≡ b ∷ (line_from (plain_signs g) (state_in (after in_plain b) (is_blank b) [] 0 0) bs).marks
  unfolding scan opens_comment ends_entry
  reads_byte b bs n e =
      let x = state_in in_plain false [] 0 0 in
      let m = state_in (after in_plain b) (is_blank b) (b ∷ []) 0 1 in
      ap (λ (s : Scan). s.marks)
      (line_step (plain_signs g) x b bs {n = m} (rw (plain-as-is g x b, ne_eqb b 10 n, ne_eqb b g.escape e)) refl ∙ line_from-rest g m bs refl refl)

  -- an escape that ends the source
  reads-last : (b : ℕ) → b ≡ g.escape → (b ≡ 10 → ⊥) → (line_from (plain_signs g) (state_in in_plain false [] 0 0) (b ∷ [])).marks ≡ (512 + b) ∷ []
  unfolding scan line_from
  reads-last b e n = rw (plain-as-is g (state_in in_plain false [] 0 0) b, ne_eqb b 10 n, eq-eqb b g.escape e) (rw e refl)

  -- an escape before another byte
  reads-pair : (b c : ℕ) (bs : List ℕ) → b ≡ g.escape → (b ≡ 10 → ⊥) → (c ≡ 10 → ⊥)
      → (line_from (plain_signs g) (state_in in_plain false [] 0 0) (b ∷ c ∷ bs)).marks ≡ (512 + c) ∷ (line_from (plain_signs g) (state_in in_plain false [] 0 0) bs).marks
  unfolding scan scan_escaped
  reads-pair b c bs e n k =
      let x = state_in in_plain false [] 0 0 in
      let m = state_in in_plain false ((512 + c) ∷ []) 0 2 in
      ap (λ (s : Scan). s.marks)
      (line_step (plain_signs g) x b (c ∷ bs) {n = dropped x in_plain true} (rw (plain-as-is g x b, ne_eqb b 10 n, eq-eqb b g.escape e)) refl
      ∙ line_step (plain_signs g) (dropped x in_plain true) c bs {n = m} (rw (ne_eqb c 10 k)) refl
      ∙ line_from-rest g m bs refl refl)

-- the marks from a place on
marks-at : (g : Signs) (src : List ℕ) (i : ℕ) {bs : List ℕ} → drop i src ≡ bs → marks_left g src (plain_at i) ≡ (line_from (plain_signs g) (state_in in_plain false [] 0 0) bs).marks
unfolding line_left
marks-at g src i e = ap (λ (x : List ℕ). (line_from (plain_signs g) (state_in in_plain false [] 0 0) x).marks) e

-- a state with the same LFs and bytes
same-state : {done : List ℕ} {f f' z z' : ℕ} → f ≡ f' → z ≡ z' → state_in in_plain false done f z ≡ state_in in_plain false done f' z'
same-state e h = rw (e, h)

-- ## The loop

pub passed_none : (g : Signs) (src : List ℕ) (at : ℕ) → at ≤ length src → Passed g src at at
passed_none g src at h =
    record {
      feeds = 0;
      bytes = 0;
      few = omega arith;
      moved = add-zero at;
      to = h;
      same = refl;
      goes = λ done f z. rw (add-zero f, add-zero z);
    }

module _ {g : Signs} {src : List ℕ} {at i : ℕ} (v : Passed g src at i) where
  pub tail-source : length src ≤ i → Closing g src at i
  tail-source h = record { passed = v; stop = rw (drop_of_length-le src h) }

  module _ (h : i < length src) where
    byte-here : drop i src ≡ get_or src i 0 ∷ drop (i + 1) src
    byte-here = rw (add-one, drop-cons src i 0)

    pub tail-feed : get_or src i 0 ≡ 10 → Closing g src at i
    tail-feed e = record { passed = v; stop = rw (byte-here, e) }

    module _ (f : get_or src i 0 ≡ 10 → ⊥) where
      module _ (n : get_or src i 0 ≡ g.escape → ⊥) where
        pub tail-blank : {t : Bool} → t ≡ is_blank (get_or src i 0) → t ≡ true → Closing g src at i
        tail-blank e y = record { passed = v; stop = rw byte-here (simp (ne_eqb (get_or src i 0) 10 f, ne_eqb (get_or src i 0) g.escape n, sym e ∙ y)) }

        pub tail-solid : {t : Bool} → t ≡ is_blank (get_or src i 0) → t ≡ false → Glued g src (plain_at at)
        tail-solid e y =
            let b = get_or src i 0 in
            record {
              mark = b;
              rest = (line_from (plain_signs g) (state_in (after in_plain b) (is_blank b) [] 0 0) (drop (i + 1) src)).marks;
              is = v.same ∙ marks-at g src i byte-here ∙ reads_byte g b (drop (i + 1) src) f n;
              solid = sym e ∙ y;
            }

      module _ (n : get_or src i 0 ≡ g.escape) where
        pub tail-last : length src ≤ i + 1 → Glued g src (plain_at at)
        tail-last l =
            let b = get_or src i 0 in
            record {
              mark = 512 + b;
              rest = [];
              is = v.same ∙ marks-at g src i (byte-here ∙ ap (λ (x : List ℕ). b ∷ x) (drop_of_length-le src l)) ∙ reads-last g b n f;
              solid = blank-escaped (512 + b) (omega arith);
            }

        module _ (l : i + 1 < length src) where
          two : i + 1 + 1 ≡ i + 2
          two = omega arith

          second : drop (i + 1) src ≡ get_or src (i + 1) 0 ∷ drop (i + 2) src
          second = rw (← two) (rw (add-one (i + 1), drop-cons src (i + 1) 0))

          pub tail-pair : (get_or src (i + 1) 0 ≡ 10 → ⊥) → Glued g src (plain_at at)
          tail-pair k =
              let b = get_or src i 0 in
              let c = get_or src (i + 1) 0 in
              record {
                mark = 512 + c;
                rest = (line_from (plain_signs g) (state_in in_plain false [] 0 0) (drop (i + 2) src)).marks;
                is = v.same ∙ marks-at g src i (byte-here ∙ ap (λ (x : List ℕ). b ∷ x) second) ∙ reads-pair g b c (drop (i + 2) src) n f k;
                solid = blank-escaped (512 + c) (omega arith);
              }

          pub tail_more : get_or src (i + 1) 0 ≡ 10 → Passed g src at (i + 2)
          unfolding line_left
          tail_more k =
              let b = get_or src i 0 in
              let rest = drop (i + 2) src in
              let e : eqb b g.escape ≡ true = eq-eqb b g.escape n in
              let here : drop i src ≡ b ∷ 10 ∷ rest = byte-here ∙ ap (λ (x : List ℕ). b ∷ x) (second ∙ ap (λ (c : ℕ). c ∷ rest) k) in
              let left : line_from (plain_signs g) (state_in in_plain false [] 0 0) (drop i src) ≡ onto [] 1 2 (line_from (plain_signs g) (state_in in_plain false [] 0 0) rest) =
              rw here (join_step (plain_signs g) [] 0 0 b rest (plain-as-is g (state_in in_plain false [] 0 0) b) e f ∙ line_from-onto g [] 1 2 (state_in in_plain false [] 0 0) rest) in
              record {
                feeds = v.feeds + 1;
                bytes = v.bytes + 2;
                few = omega (arith, v.few);
                moved = omega (arith, v.moved);
                to = omega arith;
                same = v.same ∙ ap (λ (s : Scan). s.marks) left;
                goes = λ done f' z. v.goes done f' z
                    ∙ ap (line_from (body_signs g) (state_in in_plain false done (f' + v.feeds) (z + v.bytes))) here
                    ∙ join_step (body_signs g) done (f' + v.feeds) (z + v.bytes) b rest (body-as-is g (state_in in_plain false done (f' + v.feeds) (z + v.bytes)) b) e f
                    ∙ ap (λ (s : Scan). line_from (body_signs g) s rest) (same-state {done = done} (omega arith) (omega arith));
              }
