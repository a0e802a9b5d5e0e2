-- What is read from a spot in a name or in quotes does not depend on whether a blank stands before it, nor a name's bytes on whether it
-- stands in quotes: so a spot's place, with its tag, is enough.
use Rattle.std.specs.Prelude.{if◌then◌else◌}
use mathlib.Core.Path.{◌≡◌, refl, sym, ap, ◌∙◌}
use mathlib.Core.Bool.{Bool, true, false}
use mathlib.Core.List.{List, [], ◌∷◌, map}
use Prim.Native.Nat.{ℕ, suc, ◌+◌, ◌*◌, ◌/◌, ◌%◌, ◌≤◌}
use native.Mathlib.Omega.{arith}
use lib.ListN.{drop}
use lib.Dec.{eqb}
use borrow.Author.Tests.{ne_eqb, eqb-true, eqb-false}
use Rattle.base_lists.proofs.Bools.{by}
use Rattle.rules.specs.Names.{is_blank}
use Rattle.rules.specs.Lines.{in_plain, in_name, quoted, quoted_name, in_comment, after, Scan, fed, opens_comment, ends_entry, scan_escaped, scan, line_from}
use Rattle.rules.specs.OrderLines.{subject_of}
use Rattle.text_lines.specs.declared.Signs.{Signs}
use Rattle.text_lines.specs.declared.Spot.{Spot}
use Rattle.text_lines.specs.Stream.{plain_signs, line_left, marks_left}
use Rattle.text_lines.proofs.LineLaws.{plain-as-is, line_from-rest, line_step, line-stop}
use Rattle.text_lines.proofs.ByteLaws.{after-name, after-inner}
use Rattle.text_tokens.specs.Left.{is_inside, name_in, names_in}
use Rattle.text_names.specs.Named.{name_left}
use Rattle.work_subjects.specs.Keys.{name_spot, quote_spot, subject_left, char_of, chars_left, item, chars, key_at}
use Rattle.work_subjects.proofs.KeyLaws.{key_at-name, key_at-quotes}

-- ## One byte

-- a line in the middle, with no marks yet
abbrev begun : ℕ → Bool → Bool → ℕ → ℕ → Scan
begun mode fresh escaped feeds size = record { mode = mode; fresh = fresh; escaped = escaped; ended = false; marks = []; feeds = feeds; size = size }

-- with one mark
abbrev with_mark : ℕ → Bool → ℕ → ℕ → ℕ → Scan
with_mark mode fresh m feeds size = record { mode = mode; fresh = fresh; escaped = false; ended = false; marks = m ∷ []; feeds = feeds; size = size }

-- the marks that a line goes on with
abbrev goes_on : Signs → Scan → List ℕ → List ℕ
goes_on g s bs = (line_from (plain_signs g) s bs).marks

module _ (g : Signs) (mode : ℕ) (fresh : Bool) (f z b : ℕ) (bs : List ℕ) where
  -- one mark, and those after it
  mark_on : goes_on g (with_mark mode fresh b f z) bs ≡ b ∷ goes_on g (begun mode fresh false 0 0) bs
  mark_on = ap (λ (s : Scan). s.marks) (line_from-rest g (with_mark mode fresh b f z) bs refl refl)

  -- the line's LF
  feed-on : eqb b 10 ≡ true → goes_on g (begun mode fresh false f z) (b ∷ bs) ≡ []
  unfolding scan
  feed-on t = ap (λ (s : Scan). s.marks) (line-stop (plain_signs g) (begun mode fresh false f z) b bs {n = fed (begun mode fresh false f z) true} (rw t) refl)

  -- a join
  join-on : eqb b 10 ≡ true → goes_on g (begun mode fresh true f z) (b ∷ bs) ≡ goes_on g (begun mode fresh false (suc f) (suc z)) bs
  unfolding scan scan_escaped
  join-on t = ap (λ (s : Scan). s.marks) (line_step (plain_signs g) (begun mode fresh true f z) b bs {n = begun mode fresh false (suc f) (suc z)} (rw t) refl)

  module _ (out : eqb mode in_plain ≡ false) (k : eqb b 10 ≡ false) where
    -- a byte after an escape
    pair-on : goes_on g (begun mode fresh true f z) (b ∷ bs) ≡ goes_on g (with_mark mode false (256 + b) f (suc z)) bs
    unfolding scan scan_escaped
    pair-on = ap (λ (s : Scan). s.marks) (line_step (plain_signs g) (begun mode fresh true f z) b bs {n = with_mark mode false (256 + b) f (suc z)} (rw (k, out)) refl)

    -- a byte of a comment
    hidden-on : eqb mode in_comment ≡ true → goes_on g (begun mode fresh false f z) (b ∷ bs) ≡ goes_on g (begun in_comment fresh false f (suc z)) bs
    unfolding scan
    hidden-on t = ap (λ (s : Scan). s.marks) (line_step (plain_signs g) (begun mode fresh false f z) b bs {n = begun in_comment fresh false f (suc z)} (rw (k, t)) refl)

    module _ (seen : eqb mode in_comment ≡ false) where
      -- an escape
      escape-on : eqb b g.escape ≡ true → goes_on g (begun mode fresh false f z) (b ∷ bs) ≡ goes_on g (begun mode fresh true f (suc z)) bs
      unfolding scan
      escape-on t =
          ap (λ (s : Scan). s.marks)
          (line_step (plain_signs g) (begun mode fresh false f z) b bs {n = begun mode fresh true f (suc z)}
          (rw (k, seen, plain-as-is g (begun mode fresh false f z) b, t)) refl)

      -- a byte that stands
      byte-on : eqb b g.escape ≡ false
          → goes_on g (begun mode fresh false f z) (b ∷ bs) ≡ goes_on g (with_mark (after mode b) (is_blank b) b f (suc z)) bs
      unfolding scan opens_comment ends_entry
      byte-on t =
          ap (λ (s : Scan). s.marks)
          (line_step (plain_signs g) (begun mode fresh false f z) b bs {n = with_mark (after mode b) (is_blank b) b f (suc z)}
          (rw (k, seen, plain-as-is g (begun mode fresh false f z) b, t, out)) refl)

-- ## A blank before a spot

-- it does not matter outside plain mode
marks-fresh : (g : Signs) (mode : ℕ) (x y escaped : Bool) (f z : ℕ) (bs : List ℕ) → eqb mode in_plain ≡ false
    → goes_on g (begun mode x escaped f z) bs ≡ goes_on g (begun mode y escaped f z) bs
unfolding line_from
marks-fresh g mode x y true f z [] h = refl
marks-fresh g mode x y false f z [] h = refl
marks-fresh g mode x y true f z (b ∷ bs) h =
    by (eqb b 10) (λ t. join-on g mode x f z b bs t ∙ marks-fresh g mode x y false (suc f) (suc z) bs h ∙ sym (join-on g mode y f z b bs t))
    (λ t. pair-on g mode x f z b bs h t ∙ sym (pair-on g mode y f z b bs h t))
marks-fresh g mode x y false f z (b ∷ bs) h =
    by (eqb b 10) (λ t. feed-on g mode x f z b bs t ∙ sym (feed-on g mode y f z b bs t)) (λ t.
    by (eqb mode in_comment)
    (λ u. hidden-on g mode x f z b bs h t u ∙ marks-fresh g in_comment x y false f (suc z) bs refl ∙ sym (hidden-on g mode y f z b bs h t u)) (λ u.
    by (eqb b g.escape)
    (λ v. escape-on g mode x f z b bs h t u v ∙ marks-fresh g mode x y true f (suc z) bs h ∙ sym (escape-on g mode y f z b bs h t u v))
    (λ v. byte-on g mode x f z b bs h t u v ∙ sym (byte-on g mode y f z b bs h t u v))))

-- the marks still to come in quotes
pub quoted-fresh : (g : Signs) (src : List ℕ) (p : Spot) → p.mode ≡ quoted → marks_left g src p ≡ marks_left g src (quote_spot p.at)
unfolding line_left
quoted-fresh g src p e = rw e (marks-fresh g quoted p.fresh false false 0 0 (drop p.at src) refl)

-- ## A name, in quotes or not

-- the bytes of a name up to its `>`; escaped: right after an escape
unfoldable up_to : ℕ → Bool → List ℕ → List ℕ
up_to e true [] = (512 + e) % 256 ∷ []
up_to e false [] = []
up_to e true (b ∷ bs) =
    let r : List ℕ = up_to e false bs in
    if eqb b 10 then r else (256 + b) % 256 ∷ r
up_to e false (b ∷ bs) =
    let q : List ℕ = up_to e true bs in
    let r : List ℕ = up_to e false bs in
    if eqb b 10 then [] else if eqb b e then q else if eqb b 62 then [] else b % 256 ∷ r

-- a mark that is no `>`
name_in-more : (m : ℕ) (ms : List ℕ) → eqb m 62 ≡ false → name_in (m ∷ ms) ≡ m % 256 ∷ name_in ms
unfolding name_in
name_in-more m ms h = rw h

name_in-close : (m : ℕ) (ms : List ℕ) → eqb m 62 ≡ true → name_in (m ∷ ms) ≡ []
unfolding name_in
name_in-close m ms h = rw h

module _ (g : Signs) (mode : ℕ) (out : eqb mode in_plain ≡ false) (seen : eqb mode in_comment ≡ false)
    (stays : (b : ℕ) → eqb b 62 ≡ false → after mode b ≡ mode) where
  name-up_to : (fresh escaped : Bool) (f z : ℕ) (bs : List ℕ) → name_in (goes_on g (begun mode fresh escaped f z) bs) ≡ up_to g.escape escaped bs
  unfolding line_from name_in up_to
  name-up_to fresh true f z [] = rw (ne_eqb (512 + g.escape) 62 (λ x. omega arith))
  name-up_to fresh false f z [] = refl
  name-up_to fresh true f z (b ∷ bs) =
      by (eqb b 10) (λ t. rw t (ap name_in (join-on g mode fresh f z b bs t) ∙ name-up_to fresh false (suc f) (suc z) bs))
      (λ t. rw t (ap name_in (pair-on g mode fresh f z b bs out t ∙ mark_on g mode false f (suc z) (256 + b) bs)
      ∙ name_in-more (256 + b) (goes_on g (begun mode false false 0 0) bs) (ne_eqb (256 + b) 62 (λ x. omega arith))
      ∙ ap (λ (r : List ℕ). (256 + b) % 256 ∷ r) (name-up_to false false 0 0 bs)))
  name-up_to fresh false f z (b ∷ bs) =
      by (eqb b 10) (λ t. rw t (ap name_in (feed-on g mode fresh f z b bs t))) (λ t.
      by (eqb b g.escape) (λ u. rw (t, u) (ap name_in (escape-on g mode fresh f z b bs out t seen u) ∙ name-up_to fresh true f (suc z) bs)) (λ u.
      by (eqb b 62)
      (λ v. rw (t, u, v) (ap name_in (byte-on g mode fresh f z b bs out t seen u ∙ mark_on g (after mode b) (is_blank b) f (suc z) b bs)
      ∙ name_in-close b (goes_on g (begun (after mode b) (is_blank b) false 0 0) bs) v))
      (λ v. rw (t, u, v) (ap name_in (byte-on g mode fresh f z b bs out t seen u ∙ mark_on g (after mode b) (is_blank b) f (suc z) b bs)
      ∙ name_in-more b (goes_on g (begun (after mode b) (is_blank b) false 0 0) bs) v
      ∙ ap (λ (n : ℕ). b % 256 ∷ name_in (goes_on g (begun n (is_blank b) false 0 0) bs)) (stays b v)
      ∙ ap (λ (r : List ℕ). b % 256 ∷ r) (name-up_to (is_blank b) false 0 0 bs)))))

module _ (g : Signs) (src : List ℕ) where
  in-name : (at : ℕ) (fresh : Bool) → name_left g src (record { at = at; mode = in_name; fresh = fresh }) ≡ up_to g.escape false (drop at src)
  unfolding line_left
  in-name at fresh = name-up_to g in_name refl refl (λ b n. sym (after-name refl (eqb-false b 62 n))) fresh false 0 0 (drop at src)

  in-quotes : (at : ℕ) (fresh : Bool) → name_left g src (record { at = at; mode = quoted_name; fresh = fresh }) ≡ up_to g.escape false (drop at src)
  unfolding line_left
  in-quotes at fresh = name-up_to g quoted_name refl refl (λ b n. sym (after-inner refl (eqb-false b 62 n))) fresh false 0 0 (drop at src)

  -- the name at any spot inside one is that of its place
  pub name-there : (p : Spot) → is_inside p.mode ≡ true → name_left g src p ≡ name_left g src (name_spot p.at)
  name-there p h =
      by (eqb p.mode in_name)
      (λ t. let e = eqb-true p.mode 1 t in ap (λ (m : ℕ). name_left g src (record { at = p.at; mode = m; fresh = p.fresh })) e
      ∙ in-name p.at p.fresh ∙ sym (in-name p.at false))
      (λ t. let e = eqb-true p.mode 3 (rw t at h) in ap (λ (m : ℕ). name_left g src (record { at = p.at; mode = m; fresh = p.fresh })) e
      ∙ in-quotes p.at p.fresh ∙ sym (in-name p.at false))

  -- ## What stands at the mark of a spot

  -- of a name
  pub key_at-inside : (p : Spot) → is_inside p.mode ≡ true → key_at g src (2 * p.at) ≡ item (subject_left g src p)
  key_at-inside p h =
      let e : (2 * p.at) % 2 ≡ 0 = omega arith in
      let d : (2 * p.at) / 2 ≡ p.at = omega arith in
      key_at-name g src (2 * p.at) e ∙ ap (λ (a : ℕ). item (subject_left g src (name_spot a))) d ∙ ap (λ (n : List ℕ). item (subject_of n)) (sym (name-there p h))

  -- of quotes
  pub key_at-quoted : (p : Spot) → p.mode ≡ quoted → key_at g src (2 * p.at + 1) ≡ chars (chars_left g src p)
  unfolding chars_left
  key_at-quoted p h =
      let d : (2 * p.at + 1) / 2 ≡ p.at = omega arith in
      key_at-quotes g src (2 * p.at + 1) (λ x. omega arith) ∙ ap (λ (a : ℕ). chars (chars_left g src (quote_spot a))) d
      ∙ ap (λ (ms : List ℕ). chars (map char_of (names_in ms))) (sym (quoted-fresh g src p h))

-- ## The spots that the code makes

pub name_in_lem : {p : Spot} {a n : ℕ} → p ≡ name_spot a → a ≤ n → p.at ≤ n
name_in_lem e h = rw e h

pub quote-in : {p : Spot} {a n : ℕ} → p ≡ quote_spot a → a ≤ n → p.at ≤ n
quote-in e h = rw e h

pub quote-mode : {p : Spot} {a : ℕ} → p ≡ quote_spot a → p.mode ≡ quoted
quote-mode e = rw e
