-- Lines between CHARMAP and END CHARMAP: such a line is a plain one unless its tokens open with an entry (body-plain); an entry is read
-- as a plain line up to its digits (quiet-entry), and from the first blank behind them all is a comment (closes).
use mathlib.Core.Path.{◌≡◌, refl, sym, ap, ◌∙◌}
use mathlib.Core.Bool.{Bool, true, false, not, ◌&&◌, and-false}
use mathlib.Core.List.{List, [], ◌∷◌, ◌++◌, append_assoc, append-nil}
use Prim.Native.Nat.{ℕ, suc, ◌+◌}
use native.Mathlib.Nat.{add-zero}
use native.Mathlib.Omega.{arith}
use lib.Dec.{eqb}
use borrow.Author.Tests.{eq-eqb, ne_eqb, eqb-true, not-true}
use Rattle.base_lists.proofs.Bools.{by, clash, and_left, and_right}
use Rattle.rules.specs.Names.{is_blank}
use Rattle.rules.specs.Tokens.{tokens_of, is_entry}
use Rattle.rules.specs.Lines.{in_plain, in_comment, after, Scan, scan_start, fed, marked, takes_as_is, opens_comment, ends_entry, scan, line_from, line_of}
use Rattle.text_lines.specs.declared.Signs.{Signs}
use Rattle.text_lines.specs.Stream.{plain_signs, state_in, Still, Quiet}
use Rattle.text_lines.proofs.LineLaws.{onto, line_from-onto, line_from-rest, plain-as-is, line_step, line-stop}
use Rattle.charmap_entry.specs.Entered.{body_signs, stops, opens_entry}
use Rattle.charmap_entry.proofs.LexLaws.{blank-opens, entry-ends}

module _ (g : Signs) where
  -- ## A line that opens with no entry

  -- no byte is taken as it stands
  pub body-as-is : (s : Scan) (b : ℕ) → takes_as_is (body_signs g) s b ≡ false
  unfolding takes_as_is
  body-as-is s b = and-false (eqb s.mode in_plain && s.fresh && not (is_blank b))

  plain-ends : (s : Scan) (b : ℕ) → ends_entry (plain_signs g) s b ≡ false
  unfolding ends_entry
  plain-ends s b = refl

  -- a byte is read alike unless it ends an entry
  scan-same : (s : Scan) (b : ℕ) → (ends_entry (body_signs g) s b ≡ true → scan (plain_signs g) s b ≡ marked s (after s.mode b) (is_blank b) b → ⊥)
      → scan (body_signs g) s b ≡ scan (plain_signs g) s b
  unfolding scan opens_comment
  scan-same s b h =
      by s.escaped (λ t₁. rw t₁) (λ t₁.
      by (eqb b 10) (λ t₂. rw (t₁, t₂)) (λ t₂.
      by (eqb s.mode in_comment) (λ t₃. rw (t₁, t₂, t₃)) (λ t₃.
      by (eqb b g.escape) (λ t₄. rw (body-as-is s b, plain-as-is g s b, t₁, t₂, t₃, t₄)) (λ t₄.
      by (eqb s.mode in_plain && s.fresh && eqb b g.comment) (λ t₅. rw (body-as-is s b, plain-as-is g s b, t₁, t₂, t₃, t₄, t₅)) (λ t₅.
      by (ends_entry (body_signs g) s b)
      (λ t₆. absurd (h t₆ (rw (plain-as-is g s b, plain-ends s b, t₁, t₂, t₃, t₄, t₅))))
      (λ t₆. rw (body-as-is s b, plain-as-is g s b, plain-ends s b, t₆, t₁, t₂, t₃, t₄, t₅)))))))

  -- a blank that ends an entry
  ends-parts : (s : Scan) (b : ℕ) → ends_entry (body_signs g) s b ≡ true → (is_blank b ≡ true) × (is_entry (tokens_of s.marks) ≡ true)
  unfolding ends_entry
  ends-parts s b h =
      let k = and_left (eqb s.mode in_plain && is_blank b) (is_entry (tokens_of s.marks)) h in
      (and_right (eqb s.mode in_plain) (is_blank b) k, and_right (eqb s.mode in_plain && is_blank b) (is_entry (tokens_of s.marks)) h)

  -- the tokens of a plain line in which a blank follows an entry open with it
  line-opens : (s : Scan) (b : ℕ) (bs : List ℕ) → ends_entry (body_signs g) s b ≡ true → scan (plain_signs g) s b ≡ marked s (after s.mode b) (is_blank b) b
      → opens_entry (tokens_of (line_from (plain_signs g) s (b ∷ bs)).marks) ≡ true
  line-opens s b bs h e =
      let n = marked s (after s.mode b) (is_blank b) b in
      let ms = (line_from (plain_signs g) (state_in n.mode n.fresh [] 0 0) bs).marks in
      let k : (line_from (plain_signs g) s (b ∷ bs)).marks ≡ s.marks ++ b ∷ ms =
      ap (λ (x : Scan). x.marks) (line_step (plain_signs g) s b bs e refl ∙ line_from-rest g n bs refl refl) ∙ append_assoc s.marks (b ∷ []) ms in
      let v = ends-parts s b h in
      ap (λ (x : List ℕ). opens_entry (tokens_of x)) k ∙ blank-opens s.marks v.1 b ms v.0

  line-none : (s : Scan) → line_from (body_signs g) s [] ≡ line_from (plain_signs g) s []
  unfolding line_from
  line-none s = refl

  line-body : (s : Scan) (bs : List ℕ) → opens_entry (tokens_of (line_from (plain_signs g) s bs).marks) ≡ false → line_from (body_signs g) s bs ≡ line_from (plain_signs g) s bs
  line-body s [] h = line-none s
  line-body s (b ∷ bs) h =
      let n = scan (plain_signs g) s b in
      let t = scan-same s b (λ e m. clash (line-opens s b bs e m) h) in
      by n.ended (λ x. line-stop (body_signs g) s b bs t x ∙ sym (line-stop (plain_signs g) s b bs refl x))
      (λ x. let q : line_from (plain_signs g) s (b ∷ bs) ≡ line_from (plain_signs g) n bs = line_step (plain_signs g) s b bs refl x in
      line_step (body_signs g) s b bs t x ∙ line-body n bs (sym (ap (λ (y : Scan). opens_entry (tokens_of y.marks)) q) ∙ h) ∙ sym q)

  -- a line that does not open with an entry is a plain line
  pub body-plain : (bs : List ℕ) → opens_entry (tokens_of (line_of (plain_signs g) bs).marks) ≡ false → line_of (body_signs g) bs ≡ line_of (plain_signs g) bs
  unfolding line_of
  body-plain bs h = line-body scan_start bs h

  -- ## Up to the digits

  still : (mode : ℕ) (fresh : Bool) (done : List ℕ) → is_entry (tokens_of done) ≡ false → Still (body_signs g) mode fresh done
  unfolding ends_entry
  still mode fresh done h b = (body-as-is (state_in mode fresh done 0 0) b, rw h (and-false (eqb mode in_plain && is_blank b)))

  -- no blank before an entry's last mark ends it
  pub quiet-entry : (mode : ℕ) (fresh : Bool) (done ms : List ℕ) → is_entry (tokens_of (done ++ ms)) ≡ true → Quiet (body_signs g) mode fresh done ms
  quiet-entry mode fresh done [] h = tt
  quiet-entry mode fresh done (m ∷ ms) h = (
    still mode fresh done (by (is_entry (tokens_of done)) (λ t. clash h (entry-ends done t m ms)) (λ t. t)),
    quiet-entry (after mode m) (is_blank m) (done ++ m ∷ []) ms (rw (append_assoc done (m ∷ []) ms) h),
  )

  -- ## Behind the digits

  -- a comment is read alike
  comment-body : (fresh : Bool) (done : List ℕ) (f z : ℕ) (bs : List ℕ)
      → line_from (body_signs g) (state_in in_comment fresh done f z) bs ≡ line_from (plain_signs g) (state_in in_comment fresh done f z) bs
  unfolding scan
  comment-body fresh done f z [] = line-none (state_in in_comment fresh done f z)
  comment-body fresh done f z (b ∷ bs) =
      let s = state_in in_comment fresh done f z in
      by (eqb b 10)
      (λ t. line-stop (body_signs g) s b bs {n = fed s true} (rw t) refl ∙ sym (line-stop (plain_signs g) s b bs {n = fed s true} (rw t) refl))
      (λ t. line_step (body_signs g) s b bs {n = state_in in_comment fresh done f (suc z)} (rw t) refl
      ∙ comment-body fresh done f (suc z) bs
      ∙ sym (line_step (plain_signs g) s b bs {n = state_in in_comment fresh done f (suc z)} (rw t) refl))

  comment-none : (fresh : Bool) (bs : List ℕ) → (line_from (plain_signs g) (state_in in_comment fresh [] 0 0) bs).marks ≡ []
  unfolding line_from scan
  comment-none fresh [] = refl
  comment-none fresh (b ∷ bs) =
      by (eqb b 10) (λ t. rw t)
      (λ t. rw t (ap (λ (s : Scan). s.marks) (line_from-onto g [] 0 1 (state_in in_comment fresh [] 0 0) bs) ∙ comment-none fresh bs))

-- A line that has these marks, and the LFs and bytes of a comment behind what is read.
pub record Closes (l : Scan) (done : List ℕ) (f z : ℕ) (c : Scan) : Type 0 where
  pub marks : l.marks ≡ done
  pub feeds : l.feeds ≡ f + c.feeds
  pub size : l.size ≡ z + c.size

module _ (g : Signs) (done : List ℕ) (f z : ℕ) where
  here : Scan
  here = state_in in_plain false done f z

  hidden : List ℕ → Scan
  hidden bs = line_from (plain_signs g) (state_in in_comment false [] 0 0) bs

  closes-none : Closes (line_from (body_signs g) here []) done f z (hidden [])
  unfolding line_from here hidden
  closes-none = record { marks = refl; feeds = sym (add-zero f); size = sym (add-zero z) }

  closes-feed : (bs : List ℕ) → Closes (line_from (body_signs g) here (10 ∷ bs)) done f z (hidden (10 ∷ bs))
  unfolding line_from scan here hidden
  closes-feed bs = record { marks = refl; feeds = omega arith; size = omega arith }

  module _ (h : is_entry (tokens_of done) ≡ true) where
    -- the blank that ends an entry
    ends-here : (b : ℕ) → (b ≡ 10 → ⊥) → eqb b g.escape ≡ false → is_blank b ≡ true → scan (body_signs g) here b ≡ state_in in_comment false done f (suc z)
    unfolding scan opens_comment ends_entry here
    ends-here b n e k = rw (body-as-is g (state_in in_plain false done f z) b, ne_eqb b 10 n, e, k, h)

    closes-blank : (b : ℕ) (bs : List ℕ) → (b ≡ 10 → ⊥) → eqb b g.escape ≡ false → is_blank b ≡ true
        → Closes (line_from (body_signs g) here (b ∷ bs)) done f z (hidden (b ∷ bs))
    unfolding hidden scan
    closes-blank b bs n e k =
        let c = line_from (plain_signs g) (state_in in_comment false [] 0 0) bs in
        let l : line_from (body_signs g) here (b ∷ bs) ≡ onto done f (suc z) c =
        line_step (body_signs g) here b bs (ends-here b n e k) refl
        ∙ comment-body g false done f (suc z) bs
        ∙ line_from-rest g (state_in in_comment false done f (suc z)) bs refl refl in
        let d : line_from (plain_signs g) (state_in in_comment false [] 0 0) (b ∷ bs) ≡ onto [] 0 1 c =
        line_step (plain_signs g) (state_in in_comment false [] 0 0) b bs {n = state_in in_comment false [] 0 1} (rw (ne_eqb b 10 n)) refl
        ∙ line_from-onto g [] 0 1 (state_in in_comment false [] 0 0) bs in
        let a : (line_from (body_signs g) here (b ∷ bs)).feeds ≡ f + c.feeds = ap (λ (s : Scan). s.feeds) l in
        let a' : (line_from (plain_signs g) (state_in in_comment false [] 0 0) (b ∷ bs)).feeds ≡ 0 + c.feeds = ap (λ (s : Scan). s.feeds) d in
        let r : (line_from (body_signs g) here (b ∷ bs)).size ≡ suc z + c.size = ap (λ (s : Scan). s.size) l in
        let r' : (line_from (plain_signs g) (state_in in_comment false [] 0 0) (b ∷ bs)).size ≡ 1 + c.size = ap (λ (s : Scan). s.size) d in
        record {
          marks = ap (λ (s : Scan). s.marks) l ∙ ap (λ (ms : List ℕ). done ++ ms) (comment-none g false bs) ∙ append-nil done;
          feeds = omega (arith, a, a');
          size = omega (arith, r, r');
        }

    -- where the line ends or a blank stands, all is a comment
    pub closes : (bs : List ℕ) → stops g.escape bs ≡ true
        → Closes (line_from (body_signs g) (state_in in_plain false done f z) bs) done f z (line_from (plain_signs g) (state_in in_comment false [] 0 0) bs)
    unfolding here hidden
    closes [] s = closes-none
    closes (b ∷ bs) s =
        by (eqb b 10)
        (λ t. let e = eqb-true b 10 t in rw e (closes-feed bs))
        (λ t. let k : (not (eqb b g.escape) && is_blank b) ≡ true = rw t at s in
        closes-blank b bs (λ e. clash (eq-eqb b 10 e) t) (not-true (eqb b g.escape) (and_left (not (eqb b g.escape)) (is_blank b) k)) (and_right (not (eqb b g.escape)) (is_blank b) k))
