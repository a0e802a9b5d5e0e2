-- A line read byte by byte in the middle: what is read before does not matter for what is still to come (line_from-onto), and what each
-- byte, or pair of bytes, at a spot leaves to come.
use mathlib.Core.Path.{◌≡◌, refl, sym, ap, ◌∙◌}
use mathlib.Core.Bool.{Bool, true, false, cond, not, ◌&&◌, and-false}
use mathlib.Core.List.{List, [], ◌∷◌, ◌++◌, append_assoc, append-nil}
use Prim.Native.Nat.{ℕ, ◌+◌, ◌≤◌, ◌<◌, suc}
use native.Mathlib.Nat.{add-suc, add-zero}
use native.Mathlib.Numerals.{add-one, add-two}
use native.Mathlib.Omega.{arith}
use lib.ListN.{length, get_or, drop, drop_of_length-le}
use lib.Seq.{drop-cons}
use lib.Dec.{eqb}
use borrow.Author.Tests.{eq-eqb, ne_eqb}
use Rattle.base_lists.proofs.Bools.{by}
use Rattle.rules.specs.Names.{is_blank}
use Rattle.rules.specs.Lines as paper
use Rattle.rules.specs.Lines.{in_plain, in_comment, after, Scan, dropped, fed, marked, cut_short, takes_as_is, opens_comment, ends_entry, scan_escaped, scan, line_from, line_of}
use Rattle.text_lines.specs.declared.Signs.{Signs}
use Rattle.text_lines.specs.declared.Spot.{Spot}
use Rattle.text_lines.specs.declared.Item.TheVariants.{Mark, Join, Hidden}
use Rattle.text_lines.specs.Stream.{end_of, plain_signs, state_in, state_at, line_left, line_start, Like, Still, Quiet, Run, Joins, Passes, Marks, Ends, ItemIs, EscapeAt, marks_left}

-- ## What is read before

-- a line with these marks, LFs and bytes before it
abbrev pub onto : List ℕ → ℕ → ℕ → Scan → Scan
onto ms k n s = record {
  mode = s.mode;
  fresh = s.fresh;
  escaped = s.escaped;
  ended = s.ended;
  marks = ms ++ s.marks;
  feeds = k + s.feeds;
  size = n + s.size;
}

-- The second is the first with these before it.
record Onto (ms : List ℕ) (k n : ℕ) (s t : Scan) : Type 0 where
  is : t ≡ onto ms k n s

onto-cond : {ms : List ℕ} {k n : ℕ} (t : Bool) {a b a' b' : Scan} → Onto ms k n a a' → Onto ms k n b b' → Onto ms k n (cond t a b) (cond t a' b')
onto-cond true e f = e
onto-cond false e f = f

module _ (ms : List ℕ) (k n : ℕ) (s : Scan) where
  onto-marked : (mode : ℕ) (fresh : Bool) (m : ℕ) → Onto ms k n (marked s mode fresh m) (marked (onto ms k n s) mode fresh m)
  onto-marked mode fresh m = record { is = rw (append_assoc, add-suc n s.size) }

  onto-dropped : (mode : ℕ) (escaped : Bool) → Onto ms k n (dropped s mode escaped) (dropped (onto ms k n s) mode escaped)
  onto-dropped mode escaped = record { is = rw (add-suc n s.size) }

  onto-fed : (end : Bool) → Onto ms k n (fed s end) (fed (onto ms k n s) end)
  onto-fed end = record { is = rw (add-suc n s.size, add-suc k s.feeds) }

  onto-escaped : (b : ℕ) → Onto ms k n (scan_escaped s b) (scan_escaped (onto ms k n s) b)
  unfolding scan_escaped
  onto-escaped b =
      onto-cond (eqb b 10) (onto-fed false)
      (onto-cond (eqb s.mode in_plain) (onto-marked in_plain false (512 + b)) (onto-marked s.mode false (256 + b)))

-- no byte is taken as it stands
pub plain-as-is : (g : Signs) (s : Scan) (b : ℕ) → takes_as_is (plain_signs g) s b ≡ false
unfolding takes_as_is
plain-as-is g s b = and-false (eqb s.mode in_plain && s.fresh && not (is_blank b))

module _ (g : Signs) (ms : List ℕ) (k n : ℕ) where
  scan-onto : (s : Scan) (b : ℕ) → Onto ms k n (scan (plain_signs g) s b) (scan (plain_signs g) (onto ms k n s) b)
  unfolding scan opens_comment ends_entry
  scan-onto s b =
      rw (plain-as-is g s b, plain-as-is g (onto ms k n s) b)
      (onto-cond s.escaped (onto-escaped ms k n s b)
      (onto-cond (eqb b 10) (onto-fed ms k n s true)
      (onto-cond (eqb s.mode in_comment) (onto-dropped ms k n s in_comment false)
      (onto-cond (eqb b g.escape) (onto-dropped ms k n s s.mode true)
      (onto-cond (eqb s.mode in_plain && s.fresh && eqb b g.comment) (onto-dropped ms k n s in_comment false)
      (onto-marked ms k n s (after s.mode b) (is_blank b) b))))))

  onto-cut : (s : Scan) (e : ℕ) → Onto ms k n (cut_short s e) (cut_short (onto ms k n s) e)
  onto-cut s e = record { is = rw append_assoc }

  line-onto : (s : Scan) (bs : List ℕ) → Onto ms k n (line_from (plain_signs g) s bs) (line_from (plain_signs g) (onto ms k n s) bs)
  unfolding line_from
  line-onto s [] = onto-cond s.escaped (onto-cut s g.escape) (record { is = refl })
  line-onto s (b ∷ bs) =
      let r = scan (plain_signs g) s b in
      rw (scan-onto s b).is (onto-cond r.ended (record { is = refl }) (line-onto r bs))

  -- what is read of a line before does not matter for the rest
  pub line_from-onto : (s : Scan) (bs : List ℕ) → line_from (plain_signs g) (onto ms k n s) bs ≡ onto ms k n (line_from (plain_signs g) s bs)
  line_from-onto s bs = (line-onto s bs).is

-- any line that goes on is its marks, LFs and bytes so far, and what is still to come
pub line_from-rest : (g : Signs) (s : Scan) (bs : List ℕ) → s.escaped ≡ false → s.ended ≡ false
    → line_from (plain_signs g) s bs ≡ onto s.marks s.feeds s.size (line_from (plain_signs g) (state_in s.mode s.fresh [] 0 0) bs)
line_from-rest g s bs e f =
    let same : s ≡ onto s.marks s.feeds s.size (state_in s.mode s.fresh [] 0 0) =
    λ i. record {
      mode = s.mode;
      fresh = s.fresh;
      escaped = e i;
      ended = f i;
      marks = sym (append-nil s.marks) i;
      feeds = sym (add-zero s.feeds) i;
      size = sym (add-zero s.size) i;
    } in
    ap (λ (x : Scan). line_from (plain_signs g) x bs) same ∙ line_from-onto g s.marks s.feeds s.size (state_in s.mode s.fresh [] 0 0) bs

-- the paper's line is what is still to come at its first spot
pub line_of-left : (g : Signs) (src : List ℕ) (at : ℕ) → line_of (plain_signs g) (drop at src) ≡ line_left g src (line_start at)
unfolding line_of line_left
line_of-left g src at = refl

-- ## From one spot to the next

-- a spot at a place, in a mode
abbrev pub spot : ℕ → ℕ → Bool → Spot
spot at mode fresh = record { at = at; mode = mode; fresh = fresh }

-- one byte more of a line that it does not end
pub line_step : (s : paper.Signs) (x : Scan) (b : ℕ) (bs : List ℕ) {n : Scan} → scan s x b ≡ n → n.ended ≡ false → line_from s x (b ∷ bs) ≡ line_from s n bs
unfolding line_from
line_step s x b bs e f = rw (e, f)

-- and that it ends
pub line-stop : (s : paper.Signs) (x : Scan) (b : ℕ) (bs : List ℕ) {n : Scan} → scan s x b ≡ n → n.ended ≡ true → line_from s x (b ∷ bs) ≡ n
unfolding line_from
line-stop s x b bs e f = rw (e, f)

-- a state with the same marks, LFs and bytes
same-state : {mode : ℕ} {fresh : Bool} {marks : List ℕ} {f f' z z' : ℕ} → f ≡ f' → z ≡ z' → state_in mode fresh marks f z ≡ state_in mode fresh marks f' z'
same-state e h = rw (e, h)

-- in a comment no mark is left
comment-none : (g : Signs) (fresh : Bool) (bs : List ℕ) → (line_from (plain_signs g) (state_in in_comment fresh [] 0 0) bs).marks ≡ []
unfolding line_from scan
comment-none g fresh [] = refl
comment-none g fresh (b ∷ bs) =
    by (eqb b 10) (λ t. rw t)
    (λ t. rw t (ap (λ (s : Scan). s.marks) (line_from-onto g [] 0 1 (state_in in_comment fresh [] 0 0) bs) ∙ comment-none g fresh bs))

-- a plain line is quiet
plain_still : (g : Signs) (mode : ℕ) (fresh : Bool) (done : List ℕ) → Still (plain_signs g) mode fresh done
unfolding ends_entry
plain_still g mode fresh done b = (plain-as-is g (state_in mode fresh done 0 0) b, refl)

pub plain_quiet : (g : Signs) (mode : ℕ) (fresh : Bool) (done ms : List ℕ) → Quiet (plain_signs g) mode fresh done ms
plain_quiet g mode fresh done [] = tt
plain_quiet g mode fresh done (m ∷ ms) = (plain_still g mode fresh done, plain_quiet g (after mode m) (is_blank m) (done ++ m ∷ []) ms)

module _ (g : Signs) (src : List ℕ) (p : Spot) where
  -- what stands before the rest of a line is passed
  passed : (ms : List ℕ) (k n : ℕ) (q : Spot) → line_left g src p ≡ onto ms k n (line_left g src q) → p.at + n ≡ q.at → 0 < n → q.at ≤ length src → Passes g src ms k p q
  passed ms k n q e f h l =
      let z : (line_left g src p).size ≡ n + (line_left g src q).size = ap (λ (s : Scan). s.size) e in
      record {
        marks = ap (λ (s : Scan). s.marks) e;
        feeds = ap (λ (s : Scan). s.feeds) e;
        end = omega arith;
        on = omega arith;
        to = l;
      }

  -- a plain line reads the marks of a run, and then what is still to come
  run-left : (q : Spot) (ms : List ℕ) (k n : ℕ)
      → line_from (plain_signs g) (state_at p [] 0 0) (drop p.at src) ≡ line_from (plain_signs g) (state_at q ms (0 + k) (0 + n)) (drop q.at src)
      → line_left g src p ≡ onto ms k n (line_left g src q)
  unfolding line_left
  run-left q ms k n e =
      let a : 0 + k ≡ k = omega arith in
      let b : 0 + n ≡ n = omega arith in
      e ∙ rw (a, b) (line_from-rest g (state_at q ms k n) (drop q.at src) refl refl)

  -- the marks of a run stand before those still to come
  pub run-marks : {q : Spot} {ms : List ℕ} {k : ℕ} → Run g src ms k p q → marks_left g src p ≡ ms ++ marks_left g src q
  run-marks {q} {ms} {k} r =
      ap (λ (s : Scan). s.marks)
      (run-left q ms k r.bytes (r.goes (plain_signs g) (record { comment = refl; escape = refl }) [] 0 0 (plain_quiet g p.mode p.fresh [] ms)))

  pub run-feeds : {q : Spot} {ms : List ℕ} {k : ℕ} → Run g src ms k p q → (line_left g src p).feeds ≡ k + (line_left g src q).feeds
  run-feeds {q} {ms} {k} r =
      ap (λ (s : Scan). s.feeds)
      (run-left q ms k r.bytes (r.goes (plain_signs g) (record { comment = refl; escape = refl }) [] 0 0 (plain_quiet g p.mode p.fresh [] ms)))

  -- a run stays in its line
  pub run_end : {q : Spot} {ms : List ℕ} {k : ℕ} → Run g src ms k p q → end_of g src p ≡ end_of g src q
  run_end {q} {ms} {k} r =
      let z : (line_left g src p).size ≡ r.bytes + (line_left g src q).size =
      ap (λ (s : Scan). s.size)
      (run-left q ms k r.bytes (r.goes (plain_signs g) (record { comment = refl; escape = refl }) [] 0 0 (plain_quiet g p.mode p.fresh [] ms))) in
      omega (arith, z, r.moved)

  run-passes : {q : Spot} {ms : List ℕ} {k : ℕ} (r : Run g src ms k p q) → 0 < r.bytes → q.at ≤ length src → Passes g src ms k p q
  run-passes {q} {ms} {k} r h l =
      passed ms k r.bytes q (run-left q ms k r.bytes (r.goes (plain_signs g) (record { comment = refl; escape = refl }) [] 0 0 (plain_quiet g p.mode p.fresh [] ms)))
      r.moved h l

  joins-passes : {q : Spot} {k : ℕ} (r : Joins g src k p q) → 0 < r.bytes → q.at ≤ length src → Passes g src [] k p q
  joins-passes {q} {k} r h l =
      passed [] k r.bytes q (run-left q [] k r.bytes (r.goes (plain_signs g) (record { comment = refl; escape = refl }) [] 0 0 (plain_still g p.mode p.fresh [])))
      r.moved h l

  -- a line of which nothing but n bytes, k of them LFs, is left ends
  ended : (k n : ℕ) {s : Scan} → k ≤ n → line_left g src p ≡ s → s.marks ≡ [] → s.feeds ≡ k → s.size ≡ n → p.at + n ≤ length src → (p.at < length src → 0 < n)
      → Ends g src p (p.at + n) k
  ended k n {s} few e m f z l on =
      record {
        none = ap (λ (s : Scan). s.marks) e ∙ m;
        end = ap (λ (s : Scan). p.at + s.size) e ∙ ap (λ (x : ℕ). p.at + x) z;
        fed = ap (λ (s : Scan). s.feeds) e ∙ f;
        few = omega arith;
        to = l;
        on = λ h. let o = on h in omega arith;
      }

  -- the source's end
  pub ends-source : length src ≤ p.at → p.at ≤ length src → Ends g src p p.at 0
  unfolding line_left line_from
  ends-source h l =
      let z : p.at + 0 ≡ p.at = omega arith in
      rw z at (ended 0 0 {s = state_at p [] 0 0} (omega arith) (rw (drop_of_length-le src h)) refl refl refl (omega arith) (λ k. omega arith))

  module _ (h : p.at < length src) where
    at_byte : drop p.at src ≡ get_or src p.at 0 ∷ drop (p.at + 1) src
    at_byte = rw (add-one, drop-cons src p.at 0)

    -- the line's LF
    pub ends-feed : get_or src p.at 0 ≡ 10 → Ends g src p (p.at + 1) 1
    unfolding line_left line_from scan
    ends-feed t = ended 1 1 {s = fed (state_at p [] 0 0) true} (omega arith) (rw (at_byte, t)) refl refl refl (omega arith) (λ k. omega arith)

    module _ (f : get_or src p.at 0 ≡ 10 → ⊥) where
      no-feed : eqb (get_or src p.at 0) 10 ≡ false
      no-feed = ne_eqb (get_or src p.at 0) 10 f

      -- a byte that gives no mark, and leaves a comment
      hides : scan (plain_signs g) (state_at p [] 0 0) (get_or src p.at 0) ≡ dropped (state_at p [] 0 0) in_comment false
          → ItemIs g src p (Hidden (spot (p.at + 1) 4 p.fresh))
      unfolding line_left
      hides e =
          let bs = drop (p.at + 1) src in
          let q = spot (p.at + 1) 4 p.fresh in
          let l : line_left g src p ≡ onto [] 0 1 (line_left g src q) =
          rw at_byte (line_step (plain_signs g) (state_at p [] 0 0) (get_or src p.at 0) bs e refl ∙ line_from-onto g [] 0 1 (state_at q [] 0 0) bs) in
          (passed [] 0 1 q l (omega arith) (omega arith) (omega arith), refl, ap (λ (s : Scan). s.marks) l ∙ comment-none g p.fresh bs)

      -- a byte of a comment
      pub item-hidden : p.mode ≡ 4 → ItemIs g src p (Hidden (spot (p.at + 1) 4 p.fresh))
      unfolding scan
      item-hidden m = hides (rw (no-feed, m))

      module _ (m : p.mode ≡ 4 → ⊥) where
        seen : eqb p.mode in_comment ≡ false
        seen = ne_eqb p.mode 4 m

        module _ (n : get_or src p.at 0 ≡ g.escape → ⊥) where
          no-escape : eqb (get_or src p.at 0) g.escape ≡ false
          no-escape = ne_eqb (get_or src p.at 0) g.escape n

          -- the byte that opens a comment
          pub item-opens : {t : Bool} → t ≡ (eqb p.mode 0 && p.fresh && eqb (get_or src p.at 0) g.comment) → t ≡ true
              → ItemIs g src p (Hidden (spot (p.at + 1) 4 p.fresh))
          unfolding scan opens_comment
          item-opens e o =
              hides (rw (plain-as-is g (state_at p [] 0 0) (get_or src p.at 0)) (simp (no-feed, seen, no-escape, sym e ∙ o)))

          -- a byte that stands
          module _ {t r : Bool} {x y : ℕ} (e : t ≡ (eqb p.mode 0 && p.fresh && eqb (get_or src p.at 0) g.comment)) (o : t ≡ false)
              (a : x ≡ after p.mode (get_or src p.at 0)) (i : r ≡ is_blank (get_or src p.at 0)) (z : y ≡ get_or src p.at 0) where
            stands : (s : paper.Signs) → Like s g → (done : List ℕ) (k l : ℕ) → Still s p.mode p.fresh done
                → scan s (state_at p done k l) (get_or src p.at 0) ≡ marked (state_at p done k l) x r y
            unfolding scan opens_comment takes_as_is ends_entry
            stands s like done k l q =
                let b = get_or src p.at 0 in
                let u : eqb b s.escape ≡ false = rw like.escape no-escape in
                let v : (eqb p.mode 0 && p.fresh && eqb b s.comment) ≡ false = rw like.comment (sym e ∙ o) in
                rw (a, i, z) (simp (no-feed, seen, (q b).0, (q b).1, u, v))

            run-mark : Run g src (y ∷ []) 0 p (spot (p.at + 1) x r)
            run-mark =
                record {
                  mode = rw z a;
                  fresh = rw z i;
                  bytes = 1;
                  few = omega arith;
                  moved = refl;
                  goes = λ s like done k l q. rw at_byte
                      (line_step s (state_at p done k l) (get_or src p.at 0) (drop (p.at + 1) src) (stands s like done k l q.0) refl
                      ∙ ap (λ (v : Scan). line_from s v (drop (p.at + 1) src)) (same-state (sym (add-zero k)) (sym (add-one l))));
                }

            pub item-mark : y < 256 → ItemIs g src p (Mark y (spot (p.at + 1) x r))
            unfolding run-mark
            item-mark l = (
              run-passes run-mark (omega arith) (omega arith),
              record { mode = rw z a; fresh = rw z i; small = omega arith; dead = λ w k. omega arith },
              run-mark,
            )

-- ## An escape and the byte after it

-- a byte after an escape changes no mode, and is no blank
pub after-escaped : (mode m : ℕ) → 256 ≤ m → after mode m ≡ mode
unfolding after
after-escaped mode m h =
    simp (ne_eqb m 60 (λ e. omega arith), ne_eqb m 34 (λ e. omega arith), ne_eqb m 62 (λ e. omega arith), and-false)

pub blank-escaped : (m : ℕ) → 256 ≤ m → is_blank m ≡ false
blank-escaped m h = simp (ne_eqb m 32 (λ e. omega arith), ne_eqb m 9 (λ e. omega arith))

-- the mark of an escaped byte, in its mode
escaped-marks : (p q : Spot) (m : ℕ) → q.mode ≡ p.mode → q.fresh ≡ false → 256 ≤ m → m < 768 → (p.mode ≡ in_plain → 512 ≤ m) → Marks p m q
escaped-marks p q m e f h l d =
    record { mode = e ∙ sym (after-escaped p.mode m h); fresh = f ∙ sym (blank-escaped m h); small = l; dead = λ z k. d z }

module _ {g : Signs} {src : List ℕ} {p : Spot} (v : EscapeAt g src p) where
  -- the line after an escape
  after-escape : (s : paper.Signs) → Like s g → (done : List ℕ) (f z : ℕ) → Still s p.mode p.fresh done
      → line_from s (state_at p done f z) (drop p.at src) ≡ line_from s (dropped (state_at p done f z) p.mode true) (drop (p.at + 1) src)
  unfolding scan takes_as_is
  after-escape s like done f z q =
      let x = state_at p done f z in
      let b = get_or src p.at 0 in
      let e : eqb b s.escape ≡ true = rw like.escape (eq-eqb b g.escape v.sign) in
      rw (at_byte g src p v.inside)
      (line_step s x b (drop (p.at + 1) src) (simp (ne_eqb b 10 v.no-feed, ne_eqb p.mode in_comment v.seen, (q b).0, e)) refl)

  -- a mark that an escape gives
  escaped-item : (m : ℕ) (q : Spot) (r : Run g src (m ∷ []) 0 p q) → 0 < r.bytes → q.at ≤ length src → q.mode ≡ p.mode → q.fresh ≡ false
      → 256 ≤ m → m < 768 → (p.mode ≡ in_plain → 512 ≤ m) → ItemIs g src p (Mark m q)
  escaped-item m q r h l a b c d e = (run-passes g src p r h l, escaped-marks p q m a b c d e, r)

  -- the source's last byte
  pub pair-last : {x : ℕ} → x ≡ g.escape → x < 256 → length src ≤ p.at + 1 → ItemIs g src p (Mark (512 + x) (spot (p.at + 1) p.mode false))
  unfolding line_from
  pair-last {x} e l h =
      let i = v.inside in
      let q = spot (p.at + 1) p.mode false in
      let m = 512 + x in
      let r : Run g src (m ∷ []) 0 p q =
      record {
        mode = sym (after-escaped p.mode m (omega arith));
        fresh = sym (blank-escaped m (omega arith));
        bytes = 1;
        few = omega arith;
        moved = refl;
        goes = λ s like done f z k. after-escape s like done f z k.0 ∙ rw (drop_of_length-le src h, e, ← like.escape, add-zero f, add-one z);
      } in
      escaped-item m q r (omega arith) (omega arith) refl refl (omega arith) (omega arith) (λ z. omega arith)

  module _ (h : p.at + 1 < length src) where
    two : p.at + 1 + 1 ≡ p.at + 2
    two = omega arith

    second : drop (p.at + 1) src ≡ get_or src (p.at + 1) 0 ∷ drop (p.at + 2) src
    second = rw (← two) (rw (add-one (p.at + 1), drop-cons src (p.at + 1) 0))

    -- after the byte that the escape stands before
    pair_step : (s : paper.Signs) → Like s g → (done : List ℕ) (f z : ℕ) → Still s p.mode p.fresh done → {n : Scan}
        → scan_escaped (dropped (state_at p done f z) p.mode true) (get_or src (p.at + 1) 0) ≡ n → n.ended ≡ false
        → line_from s (state_at p done f z) (drop p.at src) ≡ line_from s n (drop (p.at + 2) src)
    unfolding scan
    pair_step s like done f z q e i =
        after-escape s like done f z q
        ∙ rw second (line_step s (dropped (state_at p done f z) p.mode true) (get_or src (p.at + 1) 0) (drop (p.at + 2) src) e i)

    pub pair-join : get_or src (p.at + 1) 0 ≡ 10 → ItemIs g src p (Join (spot (p.at + 2) p.mode p.fresh))
    unfolding scan_escaped
    pair-join e =
        let r : Joins g src 1 p (spot (p.at + 2) p.mode p.fresh) =
        record {
          mode = refl;
          fresh = refl;
          bytes = 2;
          few = omega arith;
          moved = refl;
          goes = λ s like done f z q. pair_step s like done f z q (rw (e, add-one f, add-two z)) refl;
        } in
        (joins-passes g src p r (omega arith) (omega arith), r)

    module _ {x : ℕ} (e : x ≡ get_or src (p.at + 1) 0) (l : x < 256) (n : get_or src (p.at + 1) 0 ≡ 10 → ⊥) where
      -- a mark for the byte
      pair-run : (m : ℕ) (q : Spot) → q.at ≡ p.at + 2 → q.mode ≡ p.mode → q.fresh ≡ false → 256 ≤ m
          → ((done : List ℕ) (f z : ℕ) → scan_escaped (dropped (state_at p done f z) p.mode true) (get_or src (p.at + 1) 0) ≡ state_in p.mode false (done ++ m ∷ []) f (suc (suc z)))
          → Run g src (m ∷ []) 0 p q
      pair-run m q a b c d i =
          record {
            mode = b ∙ sym (after-escaped p.mode m d);
            fresh = c ∙ sym (blank-escaped m d);
            bytes = 2;
            few = omega arith;
            moved = sym a;
            goes = λ s like done f z k. pair_step s like done f z k.0 (i done f z) refl ∙ rw (a, b, c, add-zero f, add-two z);
          }

      -- a pair in plain mode is dead
      pub pair-dead : p.mode ≡ 0 → ItemIs g src p (Mark (512 + x) (spot (p.at + 2) p.mode false))
      unfolding scan_escaped pair-run
      pair-dead m =
          let q = spot (p.at + 2) p.mode false in
          escaped-item (512 + x) q
          (pair-run (512 + x) q refl refl refl (omega arith) (λ done f z. rw (m, e) (simp (ne_eqb (get_or src (p.at + 1) 0) 10 n))))
          (omega arith) (omega arith) refl refl (omega arith) (omega arith) (λ z. omega arith)

      -- in a name or in quotes the byte is taken
      pub pair-in : (p.mode ≡ 0 → ⊥) → ItemIs g src p (Mark (256 + x) (spot (p.at + 2) p.mode false))
      unfolding scan_escaped pair-run
      pair-in m =
          let q = spot (p.at + 2) p.mode false in
          escaped-item (256 + x) q
          (pair-run (256 + x) q refl refl refl (omega arith) (λ done f z. rw e (simp (ne_eqb (get_or src (p.at + 1) 0) 10 n, ne_eqb p.mode in_plain m))))
          (omega arith) (omega arith) refl refl (omega arith) (omega arith) (λ z. absurd (m z))
