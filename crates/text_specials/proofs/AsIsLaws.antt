-- A line of any kind in which no entry ends (Kind): it is plain where no byte is taken as it stands; after a run of marks that is quiet, the
-- first byte behind blanks may be taken as it stands, and from there on it is plain.
use mathlib.Core.Path.{◌≡◌, refl, sym, ap, ◌∙◌}
use mathlib.Core.Bool.{Bool, true, false, and-false, false≢true}
use mathlib.Core.List.{List, [], ◌∷◌, ◌++◌, append-nil, append_assoc}
use Prim.Native.Nat.{ℕ, suc, ◌+◌, ◌-◌, ◌≤◌}
use native.Mathlib.Nat.{add-zero, zero-add}
use native.Mathlib.Omega.{arith}
use lib.ListN.{length, drop}
use lib.Dec.{eqb}
use borrow.Author.Tests.{ne_eqb}
use Rattle.base_lists.proofs.Bools.{by, clash, cond_both}
use Rattle.rules.specs.Text.{every}
use Rattle.rules.specs.Names.{is_blank}
use Rattle.rules.specs.Lines as paper
use Rattle.rules.specs.Lines.{in_plain, in_comment, after, Scan, scan_start, fed, takes_as_is, opens_comment, ends_entry, scan_escaped, scan, line_from, line_of}
use Rattle.rules.proofs.TextLaws.{every-head, every-tail}
use Rattle.text_lines.specs.declared.Signs.{Signs}
use Rattle.text_lines.specs.declared.Spot.{Spot}
use Rattle.text_lines.specs.declared.LineEnd.{LineEnd}
use Rattle.text_lines.specs.Stream.{plain_signs, state_in, line_left, line_start, marks_left, Like, Still, Quiet, fresh_through, Run, LineIs}
use Rattle.text_lines.proofs.LineLaws.{onto, plain-as-is, plain_quiet, line_step, line-stop, line_from-onto, line_from-rest, run-feeds}
use Rattle.text_lines.proofs.SignLaws.{after-blank}
use Rattle.text_specials.specs.Signed.{Visible, ByteTaken, line_ends, ByteAt, NoByte}

-- The two characters in force are the same, and no entry ends.
pub record Kind (s : paper.Signs) (g : Signs) : Type 0 where
  pub like : Like s g
  pub free : s.body ≡ false

pub plain-kind : (g : Signs) → Kind (plain_signs g) g
plain-kind g = record { like = record { comment = refl; escape = refl }; free = refl }

-- whatever marks follow these, no byte is taken as it stands
unfoldable pub Past : paper.Signs → List ℕ → Type 0
Past s ms = (ns : List ℕ) (x : Scan) (b : ℕ) → x.marks ≡ ms ++ ns → takes_as_is s x b ≡ false

-- nor is one in a line with these marks
unfoldable pub Never : paper.Signs → List ℕ → Type 0
Never s all = (ms ns : List ℕ) → all ≡ ms ++ ns → fresh_through true ms ≡ true → (x : Scan) (b : ℕ) → x.marks ≡ ms → takes_as_is s x b ≡ false

-- where a comment may open, the marks end in a blank, or there are none
Fresh : Scan → Type 0
Fresh x = x.fresh ≡ true → fresh_through true x.marks ≡ true

fresh_through-last : (fresh : Bool) (ms : List ℕ) (m : ℕ) → fresh_through fresh (ms ++ m ∷ []) ≡ is_blank m
fresh_through-last fresh [] m = refl
fresh_through-last fresh (n ∷ ms) m = fresh_through-last (is_blank n) ms m

-- the last of several marks
last-mark : (m : ℕ) (ms : List ℕ) → (ns : List ℕ) × (n : ℕ) × (m ∷ ms ≡ ns ++ n ∷ [])
last-mark m [] = ([], m, refl)
last-mark m (k ∷ ms) = let r = last-mark k ms in (m ∷ r.0, r.1, ap (λ (x : List ℕ). m ∷ x) r.2)

-- it is a blank, where a comment may open after them
pub last-blank : (m : ℕ) (ms : List ℕ) → fresh_through true (m ∷ ms) ≡ true → (ns : List ℕ) × (n : ℕ) × (m ∷ ms ≡ ns ++ n ∷ []) × (is_blank n ≡ true)
last-blank m ms h =
    let r = last-mark m ms in
    (r.0, r.1, r.2, sym (fresh_through-last true r.0 r.1) ∙ ap (fresh_through true) (sym r.2) ∙ h)

-- a blank is no LF
blank-feed : (b : ℕ) → is_blank b ≡ true → b ≡ 10 → ⊥
blank-feed b h e = let z : false ≡ true = rw e at h in false≢true z

-- the marks of a plain line begin with those that are read
marks-grow : (g : Signs) (x : Scan) (bs : List ℕ) → (ns : List ℕ) × ((line_from (plain_signs g) x bs).marks ≡ x.marks ++ ns)
marks-grow g x bs =
    let bare : Scan =
    record { mode = x.mode; fresh = x.fresh; escaped = x.escaped; ended = x.ended; marks = []; feeds = x.feeds; size = x.size } in
    let whole : x ≡ onto x.marks 0 0 bare =
    λ i. record {
      mode = x.mode;
      fresh = x.fresh;
      escaped = x.escaped;
      ended = x.ended;
      marks = sym (append-nil x.marks) i;
      feeds = sym (zero-add x.feeds) i;
      size = sym (zero-add x.size) i;
    } in (
      (line_from (plain_signs g) bare bs).marks,
      ap (λ (y : Scan). (line_from (plain_signs g) y bs).marks) whole ∙ ap (λ (y : Scan). y.marks) (line_from-onto g x.marks 0 0 bare bs),
    )

module _ {s : paper.Signs} {g : Signs} (v : Kind s g) where
  -- ## Where no byte is taken as it stands

  scan-plain : (x : Scan) (b : ℕ) → takes_as_is s x b ≡ false → scan s x b ≡ scan (plain_signs g) x b
  unfolding scan opens_comment ends_entry
  scan-plain x b h = rw (h, plain-as-is g x b, v.like.comment, v.like.escape, v.free)

  line-none : (x : Scan) → line_from s x [] ≡ line_from (plain_signs g) x []
  unfolding line_from
  line-none x = rw v.like.escape

  -- one byte more
  line-more : (x : Scan) (b : ℕ) (bs : List ℕ) → takes_as_is s x b ≡ false
      → ((scan (plain_signs g) x b).ended ≡ false → line_from s (scan (plain_signs g) x b) bs ≡ line_from (plain_signs g) (scan (plain_signs g) x b) bs)
      → line_from s x (b ∷ bs) ≡ line_from (plain_signs g) x (b ∷ bs)
  line-more x b bs h rest =
      let t = scan-plain x b h in
      by (scan (plain_signs g) x b).ended (λ e. line-stop s x b bs t e ∙ sym (line-stop (plain_signs g) x b bs refl e))
      (λ e. line_step s x b bs t e ∙ rest e ∙ sym (line_step (plain_signs g) x b bs refl e))

  -- whatever a plain line reads
  scan-keeps : (P : Scan → Type 0) (x : Scan) (b : ℕ) → ((y : Scan) → y.marks ≡ x.marks → y.fresh ≡ x.fresh → P y)
      → ((y : Scan) (m : ℕ) → y.marks ≡ x.marks ++ m ∷ [] → (y.fresh ≡ true → is_blank m ≡ true) → P y) → P (scan (plain_signs g) x b)
  unfolding scan scan_escaped
  scan-keeps P x b same more =
      cond_both P x.escaped
      (cond_both P (eqb b 10) (same _ refl refl)
      (cond_both P (eqb x.mode in_plain) (more _ (512 + b) refl (λ e. absurd (false≢true e))) (more _ (256 + b) refl (λ e. absurd (false≢true e)))))
      (cond_both P (eqb b 10) (same _ refl refl)
      (cond_both P (eqb x.mode in_comment) (same _ refl refl)
      (cond_both P (takes_as_is (plain_signs g) x b) (more _ (256 + b) refl (λ e. absurd (false≢true e)))
      (cond_both P (eqb b g.escape) (same _ refl refl)
      (cond_both P (opens_comment (plain_signs g) x b) (same _ refl refl)
      (cond_both P (ends_entry (plain_signs g) x b) (same _ refl refl) (more _ b refl (λ e. e))))))))

  past-plain : (x : Scan) (bs : List ℕ) → Past s x.marks → line_from s x bs ≡ line_from (plain_signs g) x bs
  unfolding Past
  past-plain x [] h = line-none x
  past-plain x (b ∷ bs) h =
      line-more x b bs (h [] x b (sym (append-nil x.marks))) (λ e. past-plain (scan (plain_signs g) x b) bs
      (scan-keeps (λ (y : Scan). Past s y.marks) x b (λ y e f. rw e h) (λ y m e f ns z c k. h (m ∷ ns) z c (k ∙ rw e (append_assoc x.marks (m ∷ []) ns)))))

  never-plain : (x : Scan) (bs : List ℕ) → Fresh x → Never s (line_from (plain_signs g) x bs).marks → line_from s x bs ≡ line_from (plain_signs g) x bs
  unfolding Fresh Never takes_as_is
  never-plain x [] f h = line-none x
  never-plain x (b ∷ bs) f h =
      let n = scan (plain_signs g) x b in
      let m = marks-grow g x (b ∷ bs) in
      let calm : takes_as_is s x b ≡ false =
      by x.fresh (λ t. h x.marks m.0 m.1 (f t) x b refl) (λ t. rw (t, and-false (eqb x.mode in_plain))) in
      let k : Fresh n = scan-keeps Fresh x b (λ y e i j. rw e (f (sym i ∙ j))) (λ y c e i j. rw (e, fresh_through-last true x.marks c) (i j)) in
      line-more x b bs calm (λ e. never-plain n bs k (rw (line_step (plain_signs g) x b bs refl e) at h))

  -- a line whose plain marks never take a byte as it stands is plain
  pub line-never : (bs : List ℕ) → Never s (line_of (plain_signs g) bs).marks → line_of s bs ≡ line_of (plain_signs g) bs
  unfolding line_of Fresh
  line-never bs h = never-plain scan_start bs (λ e. refl) h

  still-by : (mode : ℕ) {fresh : Bool} (done : List ℕ) → (fresh ≡ true → (x : Scan) (b : ℕ) → x.marks ≡ done → takes_as_is s x b ≡ false) → Still s mode fresh done
  unfolding takes_as_is ends_entry
  still-by mode {fresh} done h b = (
    by fresh (λ t. h t (state_in mode fresh done 0 0) b refl) (λ t. rw (t, and-false (eqb mode in_plain))),
    rw v.free,
  )

  -- it is quiet up to these marks, and before one more
  pub never-quiet : (all : List ℕ) → Never s all → (mode : ℕ) {fresh : Bool} (done ms : List ℕ) (m : ℕ) → all ≡ done ++ ms → fresh ≡ fresh_through true done
      → Quiet s mode fresh done (ms ++ m ∷ [])
  unfolding Never
  never-quiet all h mode done [] m e f = (still-by mode done (λ t. h done [] e (sym f ∙ t)), tt)
  never-quiet all h mode done (n ∷ ms) m e f = (
    still-by mode done (λ t. h done (n ∷ ms) e (sym f ∙ t)),
    never-quiet all h (after mode n) (done ++ n ∷ []) ms m (e ∙ sym (append_assoc done (n ∷ []) ms)) (sym (fresh_through-last true done n)),
  )

  -- ## Over blanks

  module _ (w : Visible g) where
    one-blank : (done : List ℕ) (f z b : ℕ) (bs : List ℕ) → is_blank b ≡ true
        → line_from s (state_in in_plain true done f z) (b ∷ bs) ≡ line_from s (state_in in_plain true (done ++ b ∷ []) f (suc z)) bs
    unfolding scan takes_as_is opens_comment ends_entry
    one-blank done f z b bs h =
        let e : eqb b s.escape ≡ false = ne_eqb b s.escape (λ e. clash (rw (e ∙ v.like.escape) at h) w.escape) in
        let c : eqb b s.comment ≡ false = ne_eqb b s.comment (λ e. clash (rw (e ∙ v.like.comment) at h) w.comment) in
        line_step s (state_in in_plain true done f z) b bs (simp (ne_eqb b 10 (λ x. blank-feed b h x), h, e, c, v.free, after-blank b h)) refl

    over-blanks : (done : List ℕ) (f z : ℕ) (bs rest : List ℕ) → every is_blank bs ≡ true
        → line_from s (state_in in_plain true done f z) (bs ++ rest) ≡ line_from s (state_in in_plain true (done ++ bs) f (z + length bs)) rest
    over-blanks done f z [] rest h = rw (append-nil, add-zero z)
    over-blanks done f z (b ∷ bs) rest h =
        let n : suc z + length bs ≡ z + suc (length bs) = omega arith in
        one-blank done f z b (bs ++ rest) (every-head is_blank b bs h)
        ∙ over-blanks (done ++ b ∷ []) f (suc z) bs rest (every-tail is_blank b bs h)
        ∙ rw (append_assoc done (b ∷ []) bs, n)

  -- where the line ends after blanks
  line-ends : (x : Scan) (rest : List ℕ) → x.escaped ≡ false → line_ends rest ≡ true → line_from s x rest ≡ line_from (plain_signs g) x rest
  unfolding scan
  line-ends x [] e h = line-none x
  line-ends x (b ∷ bs) e h =
      line-stop s x b bs {n = fed x true} (rw (e, h)) refl ∙ sym (line-stop (plain_signs g) x b bs {n = fed x true} (rw (e, h)) refl)

  -- a byte that is taken as it stands, and the rest
  byte-stands : (done : List ℕ) (f z b : ℕ) (bs : List ℕ) → takes_as_is s (state_in in_plain true done f z) b ≡ true → (b ≡ 10 → ⊥) → Past s (done ++ (256 + b) ∷ [])
      → line_from s (state_in in_plain true done f z) (b ∷ bs)
      ≡ onto (done ++ (256 + b) ∷ []) f (suc z) (line_from (plain_signs g) (state_in in_plain false [] 0 0) bs)
  unfolding scan
  byte-stands done f z b bs h n p =
      let t = state_in in_plain false (done ++ (256 + b) ∷ []) f (suc z) in
      line_step s (state_in in_plain true done f z) b bs (simp (ne_eqb b 10 n, h)) refl
      ∙ past-plain t bs p
      ∙ line_from-rest g t bs refl refl

-- ## The marks of blanks

ends-marks : (g : Signs) (x : Scan) (rest : List ℕ) → x.escaped ≡ false → line_ends rest ≡ true → (line_from (plain_signs g) x rest).marks ≡ x.marks
unfolding line_from scan
ends-marks g x [] e h = rw e
ends-marks g x (b ∷ bs) e h = rw (e, h)

left_there : (g : Signs) (src : List ℕ) (x : Spot) {bs : List ℕ} → x.mode ≡ in_plain → x.fresh ≡ true → drop x.at src ≡ bs
    → line_left g src x ≡ line_from (plain_signs g) (state_in in_plain true [] 0 0) bs
unfolding line_left
left_there g src x m f e =
    ap (λ (n : ℕ). line_from (plain_signs g) (state_in n x.fresh [] 0 0) (drop x.at src)) m
    ∙ ap (λ (t : Bool). line_from (plain_signs g) (state_in in_plain t [] 0 0) (drop x.at src)) f
    ∙ ap (λ (bs : List ℕ). line_from (plain_signs g) (state_in in_plain true [] 0 0) bs) e

-- where no byte comes after blanks, these are what is left of a plain line
pub blanks-left : {g : Signs} {src : List ℕ} {x : Spot} → Visible g → x.mode ≡ in_plain → x.fresh ≡ true → NoByte src x.at
    → every is_blank (marks_left g src x) ≡ true
blanks-left {g} {src} {x} w m f n =
    let bs = n.before.blanks in
    let e : marks_left g src x ≡ bs =
    ap (λ (s : Scan). s.marks)
    (left_there g src x m f n.before.split ∙ over-blanks (plain-kind g) w [] 0 0 bs n.rest n.before.are)
    ∙ ends-marks g (state_in in_plain true bs 0 (0 + length bs)) n.rest refl n.ends in
    rw e n.before.are

-- ## The whole line

-- From the line's first spot these marks are read, and a comment may open.
pub record Reached (s : paper.Signs) (g : Signs) (src : List ℕ) (at : ℕ) (ms : List ℕ) (x : Spot) : Type 0 where
  pub visible : Visible g
  pub kind : Kind s g
  pub feeds : ℕ
  pub run : Run g src ms feeds (line_start at) x
  pub quiet : Quiet s in_plain true [] ms
  pub mode : x.mode ≡ in_plain
  pub fresh : x.fresh ≡ true

module _ {s : paper.Signs} {g : Signs} {src : List ℕ} {at : ℕ} {ms : List ℕ} {x : Spot} (v : Reached s g src at ms x) where
  -- both kinds of line, up to there
  line-there : line_of s (drop at src) ≡ line_from s (state_in in_plain true ms v.feeds v.run.bytes) (drop x.at src)
  unfolding line_of
  line-there =
      v.run.goes s v.kind.like [] 0 0 v.quiet ∙ rw (v.mode, v.fresh, zero-add v.feeds, zero-add v.run.bytes)

  plain-there : line_left g src (line_start at) ≡ line_from (plain_signs g) (state_in in_plain true ms v.feeds v.run.bytes) (drop x.at src)
  unfolding line_left
  plain-there =
      v.run.goes (plain_signs g) (plain-kind g).like [] 0 0 (plain_quiet g in_plain true [] ms)
      ∙ rw (v.mode, v.fresh, zero-add v.feeds, zero-add v.run.bytes)

  pub reached-nothing : NoByte src x.at → line_of s (drop at src) ≡ line_left g src (line_start at)
  reached-nothing n =
      let bs = n.before.blanks in
      let z = v.run.bytes in
      let st = state_in in_plain true ms v.feeds z in
      let o : line_of s (drop at src) ≡ line_from s st (bs ++ n.rest) = line-there ∙ ap (line_from s st) n.before.split in
      let p : line_left g src (line_start at) ≡ line_from (plain_signs g) st (bs ++ n.rest) = plain-there ∙ ap (line_from (plain_signs g) st) n.before.split in
      o
      ∙ over-blanks v.kind v.visible ms v.feeds z bs n.rest n.before.are
      ∙ line-ends v.kind (state_in in_plain true (ms ++ bs) v.feeds (z + length bs)) n.rest refl n.ends
      ∙ sym (over-blanks (plain-kind g) v.visible ms v.feeds z bs n.rest n.before.are)
      ∙ sym p

  module _ {b i : ℕ} (w : ByteAt src x.at b i)
      (takes : (f z : ℕ) → takes_as_is s (state_in in_plain true (ms ++ w.before.blanks) f z) b ≡ true)
      (past : Past s ((ms ++ w.before.blanks) ++ (256 + b) ∷ [])) where
    rest : Spot
    rest = record { at = i + 1; mode = in_plain; fresh = false }

    whole : line_of s (drop at src)
        ≡ onto ((ms ++ w.before.blanks) ++ (256 + b) ∷ []) v.feeds (suc (v.run.bytes + length w.before.blanks)) (line_left g src rest)
    unfolding line_left rest
    whole =
        let bs = w.before.blanks in
        let n = v.run.bytes in
        line-there
        ∙ rw w.before.split
        (over-blanks v.kind v.visible ms v.feeds n bs (b ∷ drop (i + 1) src) w.before.are
        ∙ byte-stands v.kind (ms ++ bs) v.feeds (n + length bs) b (drop (i + 1) src) (takes v.feeds (n + length bs)) w.no-feed past)

    module _ {a d : LineEnd} (h : LineIs g src (line_start at) a) (l : LineIs g src x d) where
      -- the LFs before the byte
      before : a.feeds ≡ v.feeds + d.feeds
      before = sym h.feeds ∙ run-feeds g src (line_start at) v.run ∙ ap (λ (n : ℕ). v.feeds + n) l.feeds

      pub reached-byte : ByteTaken s g src at (ms ++ w.before.blanks) b (a.feeds - d.feeds) (record { at = i + 1; mode = 0; fresh = false })
      unfolding rest
      reached-byte =
          let bs = w.before.blanks in
          let k : a.feeds - d.feeds ≡ v.feeds = omega (arith, before) in
          let j = w.inside in
          let y = w.place in
          let t = v.run.moved in
          record {
            marks = ap (λ (z : Scan). z.marks) whole ∙ append_assoc (ms ++ bs) ((256 + b) ∷ []) (line_left g src rest).marks;
            feeds = ap (λ (z : Scan). z.feeds) whole ∙ rw k;
            end = ap (λ (z : Scan). at + z.size) whole ∙ omega arith;
            on = omega arith;
            few = omega (arith, v.run.few);
            mode = refl;
            to = omega arith;
          }

  -- what is left at a later spot of the line has no more LFs
  pub reached-less : {a d : LineEnd} → LineIs g src (line_start at) a → LineIs g src x d → d.feeds ≤ a.feeds
  reached-less h l =
      let e = run-feeds g src (line_start at) v.run in
      let f = h.feeds in
      let k = l.feeds in
      omega arith
