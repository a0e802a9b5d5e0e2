-- A line outside every category in which no byte is taken as it stands: from spots of the source to the paper's outcome.
use Rattle.std.specs.Prelude.{None, Option, Some, ℕ}
use mathlib.Core.Logic.{◌⊎◌, inl, inr}
use mathlib.Core.Path.{◌≡◌, refl, sym, ap, ◌∙◌, subst}
use mathlib.Core.Bool.{Bool, true, false, ◌&&◌, false≢true}
use mathlib.Core.List.{List, [], ◌∷◌}
use Prim.Native.Nat.{ℕ, ◌+◌, ◌≤◌}
use native.Mathlib.Omega.{arith}
use lib.ListN.{length, drop}
use Rattle.base_lists.proofs.Bools.{by, and_left, and_right, and_intro}
use Rattle.rules.specs.Text.{bytes, within, every, is, begins}
use Rattle.rules.specs.Names.{is_blank}
use Rattle.rules.specs.Tokens.{word, token, Token, no_part, in_word, tokens_from, without_blanks, tokens_of, operands}
use Rattle.rules.specs.Lines.{in_plain, Scan, line_of}
use Rattle.rules.specs.State.{State, Outcome, gives}
use Rattle.rules.specs.Source.{is_capital, token_line, whole_line, line_outcome, signs}
use Rattle.rules.proofs.TextLaws.{every-head, every-tail, within_low, within-high}
use Rattle.text_lines.specs.declared.Signs.{Signs}
use Rattle.text_lines.specs.declared.Spot.{Spot}
use Rattle.text_lines.specs.declared.LineEnd.{LineEnd}
use Rattle.text_lines.specs.Stream.{outside_signs, line_start, marks_left, fresh_through, MarkIs, StepIs, LineIs}
use Rattle.text_lines.proofs.LineLaws.{run-marks}
use Rattle.text_tokens.specs.Left.{word_in, after_word, Skips, only_blanks}
use Rattle.text_tokens.proofs.TokenLaws.{tokens_from-none}
use Rattle.text_operands.proofs.BlankLaws.{blanks-text}
use Rattle.text_specials.proofs.OpenLaws.{opening-blank}
use Rattle.text_specials.specs.declared.Chars.{Chars}
use Rattle.locale_outside.specs.Outside.{is_category, AloneIs, signs_of, Stands, Changes, opened_by, OpenedAt, RefusedWith, PlainAt, CategoryAt}
use Rattle.locale_outside.proofs.OperandLaws.{no_word, word_first, none-operands, some-operands, other-single, other-some}
use Rattle.locale_outside.proofs.OutcomeLaws.{read_whole, line-foul, line_clean, line-none, line-no-word, word-refused, word-accepted, outside-refused, category-operands, category-other-word, category-again, category-opens, word-alone}

-- ## The state and the line

module _ {h : Chars} {before collated : Bool} {s : State} (v : Stands h before collated s) where
  -- what is in force
  pub line-signs : (src : List ℕ) (at : ℕ) → line_of (signs s) (drop at src) ≡ line_of (outside_signs (signs_of h)) (drop at src)
  line-signs src at = rw (v.outside, v.chars)

  -- a line's outcome by its marks
  pub outcome-marks : (number : ℕ) (src : List ℕ) (at : ℕ) (ms : List ℕ) → (line_of (outside_signs (signs_of h)) (drop at src)).marks ≡ ms
      → line_outcome s number (line_of (signs s) (drop at src)).marks ≡ whole_line s number ms
  outcome-marks number src at ms e =
      ap (λ (l : Scan). line_outcome s number l.marks) (line-signs src at)
      ∙ ap (line_outcome s number) e
      ∙ read_whole s v.outside number ms v.chains

-- ## The blanks that open a line

-- the first of marks without blanks is none
first-solid : (ms : List ℕ) (m : ℕ) (ns : List ℕ) → without_blanks ms ≡ m ∷ ns → is_blank m ≡ false
unfolding without_blanks
first-solid [] m ns e = let k = ap length e in absurd (omega arith)
first-solid (x ∷ ms) m ns e =
    by (is_blank x) (λ t. first-solid ms m ns (rw t at e)) (λ t. let z : x ∷ ms ≡ m ∷ ns = rw t at e in let f : x ≡ m = cc in rw (← f) t)

-- after blanks a comment may open
blanks-fresh : (bs : List ℕ) → every is_blank bs ≡ true → fresh_through true bs ≡ true
blanks-fresh [] h = refl
blanks-fresh (b ∷ bs) h = rw (every-head is_blank b bs h) (blanks-fresh bs (every-tail is_blank b bs h))

-- the spot after the blanks that open a line is as a line's first
pub skips-start : (g : Signs) (src : List ℕ) (at : ℕ) {q : Spot} → Skips g src (line_start at) q → q ≡ line_start q.at
skips-start g src at {q} v =
    let p = line_start at in
    let bs = v.walk.passed in
    let a : every is_blank bs ≡ true = opening-blank (marks_left g src p) bs (run-marks g src p v.walk.run ∙ rw v.marks) in
    let f : q.fresh ≡ true = v.walk.run.fresh ∙ blanks-fresh bs a in
    go q v.mode f
  where
    go : (x : Spot) → x.mode ≡ in_plain → x.fresh ≡ true → x ≡ line_start x.at
    go x m f = rw (← m, ← f)

-- ## From the readers

module _ {h : Chars} {src : List ℕ} {at : ℕ} {e : LineEnd} (v : PlainAt h src at) (l : LineIs (signs_of h) src (line_start at) e) where
  -- one change for every state
  pub changes : {before collated : Bool} (change : State → State)
      → ((s : State) (number : ℕ) → Stands h before collated s → whole_line s number (marks_left (signs_of h) src (line_start at)) ≡ gives 0 (change s))
      → Changes h before collated src at e.next e.feeds change
  changes change w =
      record {
        leaves = λ s number x. record {
          outcome = outcome-marks x number src at _ (ap (λ (z : Scan). z.marks) v.line) ∙ w s number x;
          end = ap (λ (z : Scan). at + z.size) (line-signs x src at ∙ v.line) ∙ l.end;
          feeds = ap (λ (z : Scan). z.feeds) (line-signs x src at ∙ v.line) ∙ l.feeds;
        };
        on = l.on v.inside;
        to = l.to;
        few = l.few;
      }

  -- one refusal for every state
  pub refuses : {before collated : Bool} (n : ℕ)
      → ((s : State) (number : ℕ) → Stands h before collated s → (whole_line s number (marks_left (signs_of h) src (line_start at))).refusal ≡ n)
      → RefusedWith h before collated src at n
  refuses n w =
      record {
        refusal = λ s number x. ap (λ (o : Outcome). o.refusal) (outcome-marks x number src at _ (ap (λ (z : Scan). z.marks) v.line)) ∙ w s number x;
      }

  pub plain-foul : {before collated : Bool} → e.text ≡ false → RefusedWith h before collated src at 2
  plain-foul t = refuses 2 (λ s number x. line-foul s x.outside number _ (l.text ∙ t))

  module _ {q : Spot} {s : Option (ℕ × Spot)} (k : Skips (signs_of h) src (line_start at) q) (w : StepIs (signs_of h) src q s) where
    pub plain-blank : {before collated : Bool} → s ≡ None → Changes h before collated src at e.next e.feeds (λ (x : State). x)
    unfolding tokens_of
    plain-blank f =
        let z : marks_left (signs_of h) src q ≡ [] = subst (StepIs (signs_of h) src q) f w in
        let b : without_blanks (marks_left (signs_of h) src (line_start at)) ≡ [] = sym k.marks ∙ z in
        changes (λ x. x) (λ s number x.
        line_clean s x.outside number _ (blanks-text _ b) ∙ ap (token_line s number) (ap (tokens_from (no_part [])) b ∙ tokens_from-none) ∙ line-none s x.outside number)

    module _ {m : ℕ} {r : Spot} (f : s ≡ Some (m, r)) (t : e.text ≡ true) where
      mark : MarkIs (signs_of h) src q m r
      mark = subst (StepIs (signs_of h) src q) f w

      solid : is_blank m ≡ false
      solid = first-solid (marks_left (signs_of h) src (line_start at)) m (marks_left (signs_of h) src r) (sym k.marks ∙ mark.marks)

      -- the tokens
      tokens : tokens_of (marks_left (signs_of h) src (line_start at)) ≡ tokens_from (no_part []) (m ∷ marks_left (signs_of h) src r)
      unfolding tokens_of
      tokens = ap (tokens_from (no_part [])) (sym k.marks ∙ mark.marks)

      -- by its tokens
      clean : {before collated : Bool} (x : State) (number : ℕ) → Stands h before collated x
          → whole_line x number (marks_left (signs_of h) src (line_start at)) ≡ token_line x number (tokens_from (no_part []) (m ∷ marks_left (signs_of h) src r))
      clean x number y = line_clean x y.outside number _ (l.text ∙ t) ∙ ap (token_line x number) tokens

      pub plain-refused : {a : Bool} → AloneIs (signs_of h) src q a → a ≡ false → {before collated : Bool} → RefusedWith h before collated src at 3
      plain-refused {a} y z {before} {collated} = refuses 3 (λ x number i. ap (λ (o : Outcome). o.refusal) (clean x number i) ∙ go x number i)
        where
          both : (only_blanks (after_word (m ∷ marks_left (signs_of h) src r)) && is_category (word_in (m ∷ marks_left (signs_of h) src r))) ≡ false
          both = rw (← mark.marks) (sym y.alone ∙ z)

          go : (x : State) (number : ℕ) → Stands h before collated x → (token_line x number (tokens_from (no_part []) (m ∷ marks_left (signs_of h) src r))).refusal ≡ 3
          go x number i =
              by (in_word m)
              (λ j.
              let ts = tokens_from (no_part []) (after_word (m ∷ marks_left (signs_of h) src r)) in
              let wd = word_in (m ∷ marks_left (signs_of h) src r) in
              rw (word_first m (marks_left (signs_of h) src r) j)
              (word-refused x i.outside number wd ts
              (by (only_blanks (after_word (m ∷ marks_left (signs_of h) src r)))
              (λ b. rw (none-operands (after_word (m ∷ marks_left (signs_of h) src r)) b)
              (outside-refused x i.outside wd [] refl (category-other-word x i.outside wd (rw b at both))))
              (λ b. let o = some-operands (after_word (m ∷ marks_left (signs_of h) src r)) b (rw (← mark.marks) y.dead) in
              outside-refused x i.outside wd (operands ts) (other-single (operands ts) o) (category-operands x i.outside wd (operands ts) (other-some (operands ts) o))))))
              (λ j. line-no-word x i.outside number _ (no_word m (marks_left (signs_of h) src r) solid j))

      pub plain-category : {a : Bool} → AloneIs (signs_of h) src q a → a ≡ true → CategoryAt h src at q e
      plain-category y z =
          let b = sym y.alone ∙ z in
          let i = only_blanks (after_word (marks_left (signs_of h) src q)) in
          let j = is_category (word_in (marks_left (signs_of h) src q)) in
          record { plain = v; skips = k; end = l; text = t; alone = and_left i j b; category = and_right i j b }

-- ## A category's line

-- where they do not hold both, by which of them does not
pub not_both : {a b : Bool} → ((a ≡ true) × (b ≡ false)) ⊎ (a ≡ false) → (a && b) ≡ false
not_both (inl (e, f)) = rw (e, f)
not_both (inr e) = rw e

-- the first token is the category's word
category-token : (ms : List ℕ) → is_category (word_in ms) ≡ true
    → tokens_from (no_part []) ms ≡ token word (word_in ms) [] ∷ tokens_from (no_part []) (after_word ms)
unfolding is_category begins bytes word_in
category-token [] h = absurd (false≢true h)
category-token (m ∷ ms) h = by (in_word m) (λ t. word_first m ms t) (λ t. let z : false ≡ true = rw t at h in absurd (false≢true z))

category-short : (w : List ℕ) → is_category w ≡ true → length w ≤ 32
unfolding is_category
category-short w h =
    let b = begins (bytes "LC_") w in
    let n = within 4 32 (length w) in
    within-high 4 32 (length w) (and_right b n (and_left (b && n) (every is_capital w) h))

category-long : (w : List ℕ) → is_category w ≡ true → 4 ≤ length w
unfolding is_category
category-long w h =
    let b = begins (bytes "LC_") w in
    let n = within 4 32 (length w) in
    within_low 4 32 (length w) (and_right b n (and_left (b && n) (every is_capital w) h))

module _ {h : Chars} {src : List ℕ} {at : ℕ} {q : Spot} {e : LineEnd} (v : CategoryAt h src at q e) where
  abbrev word_here : List ℕ
  word_here = word_in (marks_left (signs_of h) src q)

  abbrev after : List Token
  after = tokens_from (no_part []) (after_word (marks_left (signs_of h) src q))

  no-operands : operands (tokens_from (no_part []) (after_word (marks_left (signs_of h) src q))) ≡ []
  no-operands = none-operands (after_word (marks_left (signs_of h) src q)) v.alone

  -- the line by its tokens
  by_word : {before collated : Bool} (x : State) (number : ℕ) → Stands h before collated x
      → whole_line x number (marks_left (signs_of h) src (line_start at)) ≡ token_line x number (token word word_here [] ∷ after)
  unfolding tokens_of
  by_word x number y =
      line_clean x y.outside number _ (v.end.text ∙ v.text)
      ∙ ap (token_line x number) (ap (tokens_from (no_part [])) (sym v.skips.marks) ∙ category-token (marks_left (signs_of h) src q) v.category)

  module _ {c : Bool} (i : c ≡ is word_here "LC_COLLATE") where
    pub category-twice : c ≡ true → {collated : Bool} → collated ≡ true → (before : Bool) → RefusedWith h before collated src at 3
    category-twice f {collated} d before =
        refuses v.plain v.end 3 (λ x number y.
        ap (λ (o : Outcome). o.refusal) (by_word x number y)
        ∙ word-refused x y.outside number word_here after
        (rw no-operands
        (outside-refused x y.outside word_here [] refl (category-again x y.outside word_here v.category (and_intro (sym i ∙ f) (y.collated ∙ d))))))

    opened : {before collated : Bool} → (c && collated) ≡ false → (u : List ℕ) → u ≡ word_here → Changes h before collated src at e.next e.feeds (opened_by c u)
    opened {before} {collated} d u z =
        rw (z, i)
        (changes v.plain v.end (opened_by (is word_here "LC_COLLATE") word_here) (λ x number y.
        by_word x number y
        ∙ word-accepted x y.outside number word_here after (rw no-operands (word-alone word_here))
        (rw no-operands (category-opens x y.outside word_here v.category (rw (← i, y.collated) d)))))

    pub category-once : {collated : Bool} → (c && collated) ≡ false → (before : Bool) → OpenedAt h before collated src at c q.at e.next e.feeds
    category-once d before =
        let z = ap (λ (x : Spot). word_in (marks_left (signs_of h) src x)) (sym (skips-start (signs_of h) src at v.skips)) in
        record {
          line = opened d _ z;
          is-collate = i ∙ ap (λ (u : List ℕ). is u "LC_COLLATE") (sym z);
          once = d;
          long = rw z (category-long word_here v.category);
          short = rw z (category-short word_here v.category);
          from = v.skips.from;
          inside = v.skips.to;
        }
