-- How a line outside every category opens: with the keyword and a blank, or not.
use Rattle.std.specs.Prelude.{None, Option, Some, ℕ}
use borrow.Author.Tests.{ne_eqb}
use mathlib.Core.Path.{◌≡◌, refl, sym, ap, ◌∙◌, subst}
use mathlib.Core.Bool.{Bool, true, false, not, ◌&&◌, and-false}
use mathlib.Core.Logic.{◌⊎◌, inl, inr}
use mathlib.Core.List.{List, [], ◌∷◌, ◌++◌, append_cancel_right}
use Prim.Native.Nat.{ℕ, ◌+◌, ◌≤◌}
use lib.ListN.{length, drop}
use lib.Seq.{drop-append_seam}
use lib.Dec.{eqb}
use Rattle.base_lists.proofs.Bools.{by, clash, and_intro}
use Rattle.rules.specs.Text.{bytes, every, same, begins}
use Rattle.rules.specs.Names.{is_blank}
use Rattle.rules.specs.Tokens.{in_word, without_blanks}
use Rattle.rules.specs.Lines.{in_plain, after, is_word_line, is_sign_line, takes_as_is, line_of}
use Rattle.rules.proofs.TextLaws.{every-head, every-tail, same_refl, begins-split}
use Rattle.text_lines.specs.declared.Signs.{Signs}
use Rattle.text_lines.specs.declared.Spot.{Spot}
use Rattle.text_lines.specs.Stream.{plain_signs, outside_signs, line_left, line_start, marks_left, fresh_through, MarkIs, StepIs, blank_first, opens_with, Run}
use Rattle.text_lines.proofs.LineLaws.{line_of-left, run-marks}
use Rattle.text_lines.proofs.RunLaws.{run-then}
use Rattle.text_lines.proofs.SignLaws.{Solid, comment-solid, escape-solid, blank-ends, word-opens, after-blank}
use Rattle.text_tokens.specs.Left.{word_in, after_word, WordEnds, Skips}
use Rattle.text_specials.specs.Signed.{keyword, KeywordAt, Opened, Visible, WordIs}
use Rattle.text_specials.proofs.AsIsLaws.{Kind, Never, line-never, last-blank}
use Rattle.text_specials.specs.declared.Keyword.{Keyword}
use Rattle.text_specials.specs.declared.Keyword.TheVariants as key

-- ## Words and blanks

-- what is before a line without its blanks is blanks
opening : (ms : List ℕ) → (bs : List ℕ) × (every is_blank bs ≡ true) × (ms ≡ bs ++ without_blanks ms)
unfolding without_blanks every
opening [] = ([], refl, refl)
opening (m ∷ ms) =
    by (is_blank m)
    (λ t. let r = opening ms in (m ∷ r.0, and_intro t r.1, rw t (ap (λ (x : List ℕ). m ∷ x) r.2)))
    (λ t. ([], refl, rw t))

pub opening-blank : (ms bs : List ℕ) → ms ≡ bs ++ without_blanks ms → every is_blank bs ≡ true
opening-blank ms bs e = let r = opening ms in rw (append_cancel_right bs r.0 (without_blanks ms) (sym e ∙ r.2)) r.1

-- a word and what comes after it
word_split : (ms : List ℕ) → ms ≡ word_in ms ++ after_word ms
unfolding word_in after_word
word_split [] = refl
word_split (m ∷ ms) = by (in_word m) (λ t. rw t (ap (λ (x : List ℕ). m ∷ x) (word_split ms))) (λ t. rw t)

word-passed : (ms w : List ℕ) → ms ≡ w ++ after_word ms → w ≡ word_in ms
word-passed ms w e = append_cancel_right w (word_in ms) (after_word ms) (sym e ∙ word_split ms)

-- a word ends at a blank
pub word_blank : (w : List ℕ) (d : ℕ) (ds : List ℕ) → every in_word w ≡ true → is_blank d ≡ true → word_in (w ++ d ∷ ds) ≡ w
unfolding word_in
word_blank [] d ds h b = rw b
word_blank (m ∷ w) d ds h b = rw (every-head in_word m w h) (ap (λ (x : List ℕ). m ∷ x) (word_blank w d ds (every-tail in_word m w h) b))

-- marks that open with another word do not open with w and a blank
other_word : (w ms : List ℕ) → every in_word w ≡ true → same (word_in ms) w ≡ false → (begins w ms && blank_first (drop (length w) ms)) ≡ false
other_word w ms h n =
    by (begins w ms)
    (λ t. go (drop (length w) ms) refl (begins-split w ms t))
    (λ t. rw t)
  where
    go : (d : List ℕ) → drop (length w) ms ≡ d → ms ≡ w ++ drop (length w) ms → (begins w ms && blank_first (drop (length w) ms)) ≡ false
    go [] e f = rw e (and-false (begins w ms))
    go (d ∷ ds) e f =
        by (is_blank d)
        (λ t. let g : word_in ms ≡ w = ap word_in (f ∙ ap (λ (x : List ℕ). w ++ x) e) ∙ word_blank w d ds h t in
        clash (rw g (same_refl w)) n)
        (λ t. rw (e, t) (and-false (begins w ms)))

pub keyword-in : (comment : Bool) → every in_word (keyword comment) ≡ true
unfolding bytes every
keyword-in true = refl
keyword-in false = refl

-- the two keywords differ
other : (comment : Bool) → same (keyword comment) (keyword (not comment)) ≡ false
unfolding bytes same
other true = refl
other false = refl

-- ## A line that is plain

-- where a comment may open, a line is more than a word
not-word : (w ms : List ℕ) → Solid w → fresh_through true ms ≡ true → without_blanks ms ≡ w → ⊥
unfolding without_blanks
not-word w [] v f e = v.some (sym e)
not-word w (m ∷ ms) v f e = let r = last-blank m ms f in blank-ends w r.0 r.1 v r.3 (ap without_blanks (sym r.2) ∙ e)

-- marks that do not open with a keyword and a blank are no keyword and blanks
not_line : (w : List ℕ) → Solid w → (ms ns : List ℕ) → fresh_through true ms ≡ true → opens_with w (ms ++ ns) ≡ false → is_word_line w ms ≡ false
not_line w v ms ns f h = by (is_word_line w ms) (λ t. clash (word-opens w ms ns v (not-word w ms v f) t) h) (λ t. t)

-- in them no byte is taken as it stands
pub outside-never : (g : Signs) (all : List ℕ) → opens_with (bytes "comment_char") all ≡ false → opens_with (bytes "escape_char") all ≡ false
    → Never (outside_signs g) all
unfolding Never takes_as_is is_sign_line
outside-never g all h k ms ns e f x b i =
    let c = not_line (bytes "comment_char") comment-solid ms ns f (rw (sym e) h) in
    let d = not_line (bytes "escape_char") escape-solid ms ns f (rw (sym e) k) in
    rw (i, c, d) (and-false (eqb x.mode in_plain && x.fresh && not (is_blank b)))

pub outside-kind : (g : Signs) → Kind (outside_signs g) g
outside-kind g = record { like = record { comment = refl; escape = refl }; free = refl }

-- by what its marks without the opening blanks are
plain-line : (g : Signs) (src : List ℕ) (at : ℕ) (ms : List ℕ) → ms ≡ without_blanks (marks_left g src (line_start at))
    → ((comment : Bool) → (begins (keyword comment) ms && blank_first (drop (length (keyword comment)) ms)) ≡ false)
    → line_of (outside_signs g) (drop at src) ≡ line_left g src (line_start at)
unfolding opens_with
plain-line g src at ms e h =
    let l = line_of-left g src at in
    let m : without_blanks (line_of (plain_signs g) (drop at src)).marks ≡ ms = rw l (sym e) in
    line-never (outside-kind g) (drop at src) (outside-never g (line_of (plain_signs g) (drop at src)).marks (rw m (h true)) (rw m (h false))) ∙ l

module _ (g : Signs) (src : List ℕ) (at : ℕ) {q : Spot} (v : Skips g src (line_start at) q) where
  -- its first word is neither keyword
  pub plain-neither : (same (word_in (marks_left g src q)) (keyword true) ≡ false) × (same (word_in (marks_left g src q)) (keyword false) ≡ false)
      → line_of (outside_signs g) (drop at src) ≡ line_left g src (line_start at)
  plain-neither n = plain-line g src at (marks_left g src q) v.marks go
    where
      go : (comment : Bool) → (begins (keyword comment) (marks_left g src q) && blank_first (drop (length (keyword comment)) (marks_left g src q))) ≡ false
      go true = other_word (keyword true) (marks_left g src q) (keyword-in true) n.0
      go false = other_word (keyword false) (marks_left g src q) (keyword-in false) n.1

  -- a keyword after which no blank comes
  plain-glued : (comment : Bool) (r : Spot) → word_in (marks_left g src q) ≡ keyword comment → marks_left g src r ≡ after_word (marks_left g src q)
      → blank_first (marks_left g src r) ≡ false → line_of (outside_signs g) (drop at src) ≡ line_left g src (line_start at)
  plain-glued comment r w a b = plain-line g src at (marks_left g src q) v.marks (go comment w)
    where
      ms : List ℕ
      ms = marks_left g src q

      same_word : (k : Bool) → word_in (marks_left g src q) ≡ keyword k
          → (begins (keyword k) (marks_left g src q) && blank_first (drop (length (keyword k)) (marks_left g src q))) ≡ false
      same_word k e =
          let s : marks_left g src q ≡ keyword k ++ marks_left g src r = word_split (marks_left g src q) ∙ rw (e, a) in
          let d : drop (length (keyword k)) (marks_left g src q) ≡ marks_left g src r = rw s (drop-append_seam (keyword k) (marks_left g src r)) in
          rw (d, b) (and-false (begins (keyword k) (marks_left g src q)))

      other-one : (k : Bool) → word_in (marks_left g src q) ≡ keyword (not k)
          → (begins (keyword k) (marks_left g src q) && blank_first (drop (length (keyword k)) (marks_left g src q))) ≡ false
      other-one true e = other_word (keyword true) (marks_left g src q) (keyword-in true) (rw e (other false))
      other-one false e = other_word (keyword false) (marks_left g src q) (keyword-in false) (rw e (other true))

      go : (c : Bool) → word_in (marks_left g src q) ≡ keyword c → (k : Bool)
          → (begins (keyword k) (marks_left g src q) && blank_first (drop (length (keyword k)) (marks_left g src q))) ≡ false
      go true e true = same_word true e
      go true e false = other-one false e
      go false e true = other-one true e
      go false e false = same_word false e

-- ## After the keyword

module _ {g : Signs} {src : List ℕ} {at : ℕ} {q : Spot} {comment : Bool} (v : KeywordAt g src at q comment) where
  module _ {r : Spot} (w : WordEnds g src q r) {s : Option (ℕ × Spot)} (k : StepIs g src r s) where
    pub opened-end : s ≡ None → line_of (outside_signs g) (drop at src) ≡ line_left g src (line_start at)
    opened-end e =
        let z : marks_left g src r ≡ [] = subst (StepIs g src r) e k in
        plain-glued g src at v.skips comment r v.word w.after (rw z)

    module _ {m : ℕ} {x : Spot} (e : s ≡ Some (m, x)) where
      mark : MarkIs g src r m x
      mark = subst (StepIs g src r) e k

      pub opened-other : is_blank m ≡ false → line_of (outside_signs g) (drop at src) ≡ line_left g src (line_start at)
      opened-other b = plain-glued g src at v.skips comment r v.word w.after (rw mark.marks b)

      opened-blank : is_blank m ≡ true → Opened g src at x comment
      unfolding after
      opened-blank b =
          let p = line_start at in
          let bs = v.skips.walk.passed in
          let ws = w.walk.passed in
          let a : every is_blank bs ≡ true = opening-blank (marks_left g src p) bs (run-marks g src p v.skips.walk.run ∙ rw v.skips.marks) in
          let c : ws ≡ keyword comment = word-passed (marks_left g src q) ws (run-marks g src q w.walk.run ∙ rw w.after) ∙ v.word in
          let t = run-then v.skips.walk.run (run-then w.walk.run mark.run) in
          record {
            visible = v.visible;
            inside = v.inside;
            blanks = bs;
            are = a;
            last = m;
            blank = b;
            feeds = v.skips.walk.feeds + (w.walk.feeds + mark.feeds);
            run = subst (λ (u : List ℕ). Run g src (bs ++ (u ++ m ∷ [])) (v.skips.walk.feeds + (w.walk.feeds + mark.feeds)) p x) c t;
            mode = mark.step.mode ∙ rw w.mode (after-blank m b);
            fresh = mark.step.fresh ∙ b;
            to = mark.to;
          }

      pub opened-gap : (m ≡ 9) ⊎ (m ≡ 32) → Opened g src at x comment
      opened-gap (inl h) = opened-blank (rw h)
      opened-gap (inr h) = opened-blank (rw h)

    pub opened-past : (y : ℕ × Spot) → s ≡ Some y → (y.0 ≡ 32 → ⊥) → (y.0 ≡ 9 → ⊥) → line_of (outside_signs g) (drop at src) ≡ line_left g src (line_start at)
    opened-past (m, x) e h i = opened-other e (simp (ne_eqb m 32 h, ne_eqb m 9 i))

-- ## The keyword

-- what opens a line after blanks
module _ {g : Signs} {src : List ℕ} {at : ℕ} {q : Spot} {k : Keyword} (v : Visible g) (h : at ≤ length src) (s : Skips g src (line_start at) q)
    (w : WordIs (word_in (marks_left g src q)) k) where
  pub neither-at : k ≡ key.Neither → line_of (outside_signs g) (drop at src) ≡ line_left g src (line_start at)
  neither-at e = plain-neither g src at s (subst (WordIs (word_in (marks_left g src q))) e w)
