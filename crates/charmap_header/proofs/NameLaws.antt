-- Header lines that begin with `<`: the name, the blank after it, and the byte after blanks.
use Rattle.std.specs.Prelude.{if◌then◌else◌, None, Option, Some}
use mathlib.Core.Path.{◌≡◌, refl, sym, ap, ◌∙◌, subst}
use mathlib.Core.Bool.{Bool, true, false, ◌&&◌, ◌||◌, and-false, false≢true}
use mathlib.Core.Logic.{◌⊎◌, ⊎_elim}
use mathlib.Core.List.{List, [], ◌∷◌, ◌++◌, append_assoc, append-nil, append_cancel_right}
use Prim.Native.Nat.{ℕ, ◌+◌, ◌-◌, ◌%◌, ◌≤◌, ◌<◌, ◌^◌}
use native.Mathlib.Omega.{arith}
use lib.ListN.{length, drop}
use lib.Dec.{eqb}
use borrow.Author.Tests.{eqb-true, ne_eqb}
use Rattle.base_lists.proofs.Bools.{by, and_intro}
use Rattle.rules.specs.Text.{bytes, every, one_of, is, same, begins, ◌unless◌, lower}
use Rattle.rules.specs.Names.{is_blank}
use Rattle.rules.specs.Tokens as kind
use Rattle.rules.specs.Tokens.{is_text, gap, broken, Token, token, the_name, lexed, no_part, lex, tokens_from, without_blanks, tokens_of, without_gaps}
use Rattle.rules.specs.Lines.{in_plain, after, is_sign_header, takes_as_is}
use Rattle.rules.specs.Charmap.{is_header, header_line}
use Rattle.rules.proofs.TextLaws.{every-head, every-tail, every-both, every-mono, every-cons}
use Rattle.base_units.specs.declared.Refusal.{Refusal}
use Rattle.text_lines.specs.declared.Signs.{Signs}
use Rattle.text_lines.specs.declared.Spot.{Spot}
use Rattle.text_lines.specs.declared.LineEnd.{LineEnd}
use Rattle.text_lines.specs.Stream.{state_in, line_start, marks_left, MarkIs, StepIs, Run, LineIs}
use Rattle.text_lines.proofs.LineLaws.{line_of-left, run-marks, blank-escaped}
use Rattle.text_lines.proofs.RunLaws.{run-then}
use Rattle.text_lines.proofs.SignLaws.{after-blank}
use Rattle.text_tokens.specs.Left.{tokens_left, is_close, is_inside, name_in, after_name, NameEnds, ClosingIs, Skips}
use Rattle.text_tokens.proofs.TokenLaws.{tokens_from-out, tokens_from-none, first-name, name-open, name-closed}
use Rattle.text_tokens.proofs.GapLaws.{tokens_of-left}
use Rattle.text_specials.specs.declared.Chars.{Chars}
use Rattle.text_specials.specs.Signed.{Visible, keyword, WordIs, ByteAt, NoByte, FoundIs}
use Rattle.text_specials.specs.declared.Keyword.{Keyword}
use Rattle.text_specials.specs.declared.Keyword.TheVariants as key
use Rattle.text_specials.proofs.AsIsLaws.{Reached, never-quiet, blanks-left, reached-nothing, reached-byte, reached-less}
use Rattle.text_specials.proofs.OpenLaws.{opening-blank}
use Rattle.text_specials.proofs.TakenLaws.{blanks-drop}
use Rattle.text_specials.proofs.LineTokenLaws.{gaps, blank-text, keyword-text}
use Rattle.charmap_header.specs.Head.{signs_of, head_with, plain_marks_at, Plain, PassedOver, Malformed, Opening, NameOpens, Named, SignNamed, SignOpened, SetBy}
use Rattle.charmap_header.proofs.FirstLaws.{first-token}
use Rattle.charmap_header.proofs.SignLaws.{tokens_of-is, opens_sign, header_signs, header-kind, sign-past, sign-never, header-plain}
use Rattle.charmap_header.proofs.OutcomeLaws.{outcome-none, outcome-open, outcome-other, line-bare, line-glued, line-blank}

-- ## Other names for the two characters and the first spot

closing-as : (src : List ℕ) (p : Spot) (c : Option (Option Refusal × Spot)) {f g : Signs} → g ≡ f → ClosingIs g src p c → ClosingIs f src p c
closing-as src p c e k = subst (λ (x : Signs). ClosingIs x src p c) e k

word-as : (src : List ℕ) (p : Spot) (x : Keyword) {f g : Signs} → g ≡ f → WordIs (name_in (marks_left g src p)) x → WordIs (name_in (marks_left f src p)) x
word-as src p x e k = subst (λ (y : Signs). WordIs (name_in (marks_left y src p)) x) e k

step-as : (src : List ℕ) (p : Spot) (s : Option (ℕ × Spot)) {f g : Signs} → g ≡ f → StepIs g src p s → StepIs f src p s
step-as src p s e k = subst (λ (x : Signs). StepIs x src p s) e k

skips-as : {src : List ℕ} {f g : Signs} {o p q : Spot} → g ≡ f → o ≡ p → Skips g src o q → Skips f src p q
skips-as {src} {f} {g} {o} {p} {q} a b w = subst (λ (x : Spot). Skips f src x q) b (subst (λ (x : Signs). Skips x src o q) a w)

pub head-start : (src : List ℕ) {at : ℕ} {p : Spot} → at < length src → p ≡ line_start at → p.at ≤ length src
head-start src i e = rw e (omega arith)

pub head-mode : {at : ℕ} {p : Spot} → p ≡ line_start at → p.mode ≡ in_plain
head-mode e = rw e

-- ## Lines that are plain

-- what does not open with one of the two names and a blank
opens-none : opens_sign [] ≡ false
unfolding opens_sign
opens-none = refl

opens-odd : (t : Token) (ts : List Token) → eqb t.kind kind.name ≡ false → opens_sign (t ∷ ts) ≡ false
unfolding opens_sign
opens-odd t ts h = rw h

opens-other : (n : List ℕ) (ts : List Token) → same n (keyword true) ≡ false → same n (keyword false) ≡ false
    → opens_sign (token kind.name [] (n ∷ []) ∷ ts) ≡ false
unfolding opens_sign is
opens-other n ts a b = rw (a, b)

opens-alone : (t : Token) → opens_sign (t ∷ []) ≡ false
unfolding opens_sign
opens-alone t = and-false (eqb t.kind kind.name && (is (the_name t) "comment_char" || is (the_name t) "escape_char"))

opens-glued : (t u : Token) (ts : List Token) → eqb u.kind gap ≡ false → opens_sign (t ∷ u ∷ ts) ≡ false
unfolding opens_sign
opens-glued t u ts h = rw h (and-false (eqb t.kind kind.name && (is (the_name t) "comment_char" || is (the_name t) "escape_char")))

module _ {src : List ℕ} (h : Chars) {at : ℕ} (i : at < length src) (v : Visible (signs_of h)) where
  plain_by : {ts : List Token} → tokens_of (plain_marks_at src h at) ≡ ts → opens_sign ts ≡ false → Plain src h at
  plain_by e o =
      let g = signs_of h in
      let l = line_of-left g src at in
      record { inside = i; visible = v; is = header-plain g (drop at src) (rw (l, e) o) ∙ l }

  -- ### A line with no token, and one that does not begin with `<`

  module _ {g : Signs} {o q : Spot} (a : g ≡ signs_of h) (c : o ≡ line_start at) (r : Skips g src o q) {s : Option (ℕ × Spot)} (k : StepIs g src q s) where
    pub head-none : s ≡ None → PassedOver src h at
    unfolding tokens_left
    head-none e =
        let n : marks_left (signs_of h) src q ≡ [] = subst (StepIs (signs_of h) src q) e (step-as src q s a k) in
        let z : tokens_of (plain_marks_at src h at) ≡ [] = tokens_of-left (skips-as a c r) ∙ rw n tokens_from-none in
        record { plain = plain_by z opens-none; outcome = outcome-none (head_with h false) (plain_marks_at src h at) z }

    module _ {m : ℕ} {p : Spot} (e : s ≡ Some (m, p)) where
      mark : MarkIs (signs_of h) src q m p
      mark = subst (StepIs (signs_of h) src q) e (step-as src q s a k)

      pub head-name : m ≡ 60 → NameOpens src h at p
      head-name f =
          record { inside = i; visible = v; blanks = q; skips = skips-as a c r; mark = subst (λ (x : ℕ). MarkIs (signs_of h) src q x p) f mark }

      pub head-word : (m ≡ 60 → ⊥) → Opening src h at q
      unfolding tokens_left begins
      head-word f =
          let w = skips-as a c r in
          let t = first-token m (marks_left (signs_of h) src p) in
          let o : tokens_left (signs_of h) src q ≡ t.first ∷ t.more = ap (tokens_from (no_part [])) mark.marks ∙ t.is in
          record {
            plain = plain_by (tokens_of-left w ∙ o) (opens-odd t.first t.more (t.name (ne_eqb m 60 f)));
            skips = w;
            some = λ z. some-not t.first t.more (sym (ap (λ (ts : List Token). length ts) o) ∙ z);
            no_name = rw (sym w.marks ∙ mark.marks, ne_eqb 60 m (λ x. f (sym x)));
          }
        where
          some-not : (t : Token) (ts : List Token) → length (t ∷ ts) ≡ 0 → ⊥
          some-not t ts z = omega arith

-- ## The marks of a name

-- up to its `>`
name_up : List ℕ → List ℕ
name_up [] = []
name_up (m ∷ ms) =
    let r : List ℕ = name_up ms in
    if is_close m then m ∷ [] else m ∷ r

name-split : (ms : List ℕ) → ms ≡ name_up ms ++ after_name ms
unfolding name_up after_name
name-split [] = refl
name-split (m ∷ ms) = by (is_close m) (λ t. rw t) (λ t. rw t (ap (λ (x : List ℕ). m ∷ x) (name-split ms)))

name-close : (t : List ℕ) (m : ℕ) (ns : List ℕ) → is_close m ≡ true
    → tokens_from (lexed [] kind.name t []) (m ∷ ns) ≡ token kind.name [] (t ∷ []) ∷ tokens_from (no_part []) ns
unfolding tokens_from lex
name-close t m ns e = rw e (tokens_from-out (token kind.name [] (t ∷ []) ∷ []) gap [] [] ns)

name-more : (t : List ℕ) (m : ℕ) (ns : List ℕ) → is_close m ≡ false
    → tokens_from (lexed [] kind.name t []) (m ∷ ns) ≡ tokens_from (lexed [] kind.name (t ++ m % 256 ∷ []) []) ns
unfolding tokens_from lex
name-more t m ns e = rw e

name-token : (t ms ns : List ℕ) → one_of is_close ms ≡ true
    → tokens_from (lexed [] kind.name t []) (name_up ms ++ ns) ≡ token kind.name [] ((t ++ name_in ms) ∷ []) ∷ tokens_from (no_part []) ns
unfolding one_of name_up name_in
name-token t [] ns h = absurd (false≢true h)
name-token t (m ∷ ms) ns h =
    by (is_close m) (λ e. rw (e, append-nil) (name-close t m ns e))
    (λ e. let k : one_of is_close ms ≡ true = rw e at h in
    rw e (name-more t m (name_up ms ++ ns) e ∙ name-token (t ++ m % 256 ∷ []) ms ns k ∙ rw (append_assoc t (m % 256 ∷ []) (name_in ms))))

text-mod : (m : ℕ) → is_text (m % 256) ≡ is_text m
text-mod m = let e : (m % 256) % 256 ≡ m % 256 = omega arith in rw e

name-text : (ms : List ℕ) → every is_text (name_in ms) ≡ true → every is_text (name_up ms) ≡ true
unfolding name_up name_in every
name-text [] h = refl
name-text (m ∷ ms) h =
    by (is_close m) (λ e. rw (e, eqb-true m 62 e))
    (λ e. let k : every is_text (m % 256 ∷ name_in ms) ≡ true = rw e at h in
    rw e (and_intro (sym (text-mod m) ∙ every-head is_text (m % 256) (name_in ms) k) (name-text ms (every-tail is_text (m % 256) (name_in ms) k))))

-- blanks, `<`, and a name that is one of the two
named : (comment : Bool) (bs ms : List ℕ) → every is_blank bs ≡ true → one_of is_close ms ≡ true → name_in ms ≡ keyword comment → Named comment (bs ++ 60 ∷ name_up ms)
unfolding begins without_blanks every
named comment bs ms b c k =
    let w : (ns : List ℕ) → without_blanks ((bs ++ 60 ∷ name_up ms) ++ ns) ≡ 60 ∷ (name_up ms ++ ns) =
    λ ns. ap without_blanks (append_assoc bs (60 ∷ name_up ms) ns) ∙ blanks-drop bs (60 ∷ (name_up ms ++ ns)) b in
    record {
      tokens = λ ns. tokens_of-is ((bs ++ 60 ∷ name_up ms) ++ ns) ∙ rw (w ns) (first-name 60 (name_up ms ++ ns) refl ∙ name-token [] ms ns c ∙ rw k);
      header = λ ns. rw (w ns);
      text = every-both is_text bs (60 ∷ name_up ms) (every-mono is_blank is_text blank-text bs b) (name-text ms (rw k (keyword-text comment)));
    }

-- ## The name that opens a line

module _ {src : List ℕ} {h : Chars} {at : ℕ} {p : Spot} (v : NameOpens src h at p) where
  pub name-inside : (p.at ≤ length src) × (is_inside p.mode ≡ true)
  unfolding after
  name-inside = (v.mark.to, rw (v.mark.step.mode, v.skips.mode))

  pub name-to : p.at ≤ length src
  name-to = v.mark.to

  header : is_header (plain_marks_at src h at) ≡ true
  unfolding begins
  header = rw (sym v.skips.marks ∙ v.mark.marks)

  first : tokens_of (plain_marks_at src h at) ≡ tokens_from (lexed [] kind.name [] []) (marks_left (signs_of h) src p)
  unfolding tokens_left
  first = tokens_of-left v.skips ∙ ap (tokens_from (no_part [])) v.mark.marks ∙ first-name 60 (marks_left (signs_of h) src p) refl

  module _ {c : Option (Option Refusal × Spot)} {g : Signs} (a : g ≡ signs_of h) (k : ClosingIs g src p c) where
    pub name-left : c ≡ None → PassedOver src h at
    name-left e =
        let z : one_of is_close (marks_left (signs_of h) src p) ≡ false = subst (ClosingIs (signs_of h) src p) e (closing-as src p c a k) in
        let t : tokens_of (plain_marks_at src h at) ≡ token broken [] [] ∷ [] = first ∙ name-open [] (marks_left (signs_of h) src p) z in
        record {
          plain = plain_by h v.inside v.visible t (opens-odd (token broken [] []) [] refl);
          outcome = outcome-open (head_with h false) (plain_marks_at src h at) t header;
        }

    module _ {f : Option Refusal} {q : Spot} (e : c ≡ Some (f, q)) where
      name-ends : NameEnds (signs_of h) src p f q
      name-ends = subst (ClosingIs (signs_of h) src p) e (closing-as src p c a k)

      -- the name is one of the two
      sign-name : (comment : Bool) → name_in (marks_left (signs_of h) src p) ≡ keyword comment → SignNamed src h at q comment
      unfolding after
      sign-name comment n =
          let s = line_start at in
          let z = name-ends in
          let bs = v.skips.walk.passed in
          let ns = z.walk.passed in
          let b : every is_blank bs ≡ true = opening-blank (plain_marks_at src h at) bs (run-marks (signs_of h) src s v.skips.walk.run ∙ rw v.skips.marks) in
          let u : ns ≡ name_up (marks_left (signs_of h) src p) =
          append_cancel_right ns (name_up (marks_left (signs_of h) src p)) (after_name (marks_left (signs_of h) src p))
          (rw z.after (sym (run-marks (signs_of h) src p z.walk.run)) ∙ name-split (marks_left (signs_of h) src p)) in
          let k = v.skips.walk.feeds + (v.mark.feeds + z.walk.feeds) in
          let t : Run (signs_of h) src (bs ++ (60 ∷ ns)) k s q = run-then v.skips.walk.run (run-then v.mark.run z.walk.run) in
          record {
            inside = v.inside;
            visible = v.visible;
            marks = bs ++ 60 ∷ name_up (marks_left (signs_of h) src p);
            named = named comment bs (marks_left (signs_of h) src p) b z.closes n;
            feeds = k;
            run = subst (λ (x : List ℕ). Run (signs_of h) src (bs ++ (60 ∷ x)) k s q) u t;
            mode = z.mode ∙ rw (v.mark.step.mode, v.skips.mode);
            to = z.to;
          }

      module _ {x : Keyword} (o : WordIs (name_in (marks_left g src p)) x) where
        pub name-comment : x ≡ key.Comment → SignNamed src h at q true
        name-comment j = sign-name true (subst (WordIs (name_in (marks_left (signs_of h) src p))) j (word-as src p x a o))

        pub name-escape : x ≡ key.Escape → SignNamed src h at q false
        name-escape j = sign-name false (subst (WordIs (name_in (marks_left (signs_of h) src p))) j (word-as src p x a o))

        pub name-other : x ≡ key.Neither → PassedOver src h at
        name-other j =
            let n = name_in (marks_left (signs_of h) src p) in
            let ts = tokens_from (no_part []) (after_name (marks_left (signs_of h) src p)) in
            let k : tokens_of (plain_marks_at src h at) ≡ token kind.name [] (n ∷ []) ∷ ts = first ∙ name-closed [] (marks_left (signs_of h) src p) name-ends.closes in
            let b : (same n (keyword true) ≡ false) × (same n (keyword false) ≡ false) = subst (WordIs n) j (word-as src p x a o) in
            record {
              plain = plain_by h v.inside v.visible k (opens-other n ts b.0 b.1);
              outcome = outcome-other (head_with h false) (plain_marks_at src h at) n ts k header b.0 b.1;
            }

-- ## What stands after the name

module _ {src : List ℕ} {h : Chars} {at : ℕ} {p : Spot} {comment : Bool} (v : SignNamed src h at p comment) where
  pub sign-to : p.at ≤ length src
  sign-to = v.to

  whole : plain_marks_at src h at ≡ v.marks ++ marks_left (signs_of h) src p
  whole = run-marks (signs_of h) src (line_start at) v.run

  -- marks after it that open with no blank
  odd-marks : (ns : List ℕ) → marks_left (signs_of h) src p ≡ ns → opens_sign (token kind.name [] (keyword comment ∷ []) ∷ tokens_from (no_part []) ns) ≡ false
      → (header_line (head_with h false) (v.marks ++ ns)).refusal ≡ lower (2 unless every is_text (v.marks ++ ns)) 3 → Malformed src h at
  odd-marks ns e o r =
      let k : plain_marks_at src h at ≡ v.marks ++ ns = whole ∙ ap (λ (x : List ℕ). v.marks ++ x) e in
      record { plain = plain_by h v.inside v.visible (ap tokens_of k ∙ v.named.tokens ns) o; refusal = rw k r }

  module _ {g : Signs} {s : Option (ℕ × Spot)} (a : g ≡ signs_of h) (k : StepIs g src p s) where
    pub sign-bare : s ≡ None → Malformed src h at
    sign-bare e =
        let n : marks_left (signs_of h) src p ≡ [] = subst (StepIs (signs_of h) src p) e (step-as src p s a k) in
        odd-marks [] n (rw tokens_from-none (opens-alone (token kind.name [] (keyword comment ∷ [])))) (line-bare (head_with h false) comment v.marks v.named)

    module _ {m : ℕ} {x : Spot} (e : s ≡ Some (m, x)) where
      next : MarkIs (signs_of h) src p m x
      next = subst (StepIs (signs_of h) src p) e (step-as src p s a k)

      pub sign-glued : (m ≡ 32 → ⊥) × (m ≡ 9 → ⊥) → Malformed src h at
      sign-glued i =
          let b : is_blank m ≡ false = simp (ne_eqb m 32 i.0, ne_eqb m 9 i.1) in
          let ns = marks_left (signs_of h) src x in
          let t = first-token m ns in
          odd-marks (m ∷ ns) next.marks (rw t.is (opens-glued (token kind.name [] (keyword comment ∷ [])) t.first t.more (t.gap b)))
          (line-glued (head_with h false) comment v.marks m ns v.named b)

      opened : is_blank m ≡ true → SignOpened src h at x comment
      unfolding after
      opened b =
          record {
            inside = v.inside;
            visible = v.visible;
            marks = v.marks;
            named = v.named;
            last = m;
            blank = b;
            feeds = v.feeds + next.feeds;
            run = run-then v.run next.run;
            mode = next.step.mode ∙ rw v.mode (after-blank m b);
            fresh = next.step.fresh ∙ b;
            to = next.to;
          }

      pub sign-blank : (m ≡ 32) ⊎ ((m ≡ 32 → ⊥) × (m ≡ 9)) → SignOpened src h at x comment
      sign-blank i = ⊎_elim (λ t. opened (rw t)) (λ t. opened (rw t.1)) i

-- ## The byte after blanks

blanks-none : (bs : List ℕ) → every is_blank bs ≡ true → without_gaps false (tokens_from (no_part []) bs) ≡ []
unfolding without_gaps
blanks-none bs b = ap (λ (x : List ℕ). without_gaps false (tokens_from (no_part []) x)) (sym (append-nil bs)) ∙ gaps bs [] b ∙ rw tokens_from-none

-- marks whose tokens are the name and blanks
signed_by : (comment : Bool) (marks bs : List ℕ) → every is_blank bs ≡ true → tokens_of marks ≡ token kind.name [] (keyword comment ∷ []) ∷ tokens_from (no_part []) bs
    → is_sign_header marks ≡ true
unfolding is_sign_header is same bytes
signed_by true marks bs b e = rw (e, blanks-none bs b)
signed_by false marks bs b e = rw (e, blanks-none bs b)

signed-line : (comment : Bool) (ms : List ℕ) (m : ℕ) (bs : List ℕ) → Named comment ms → every is_blank (m ∷ bs) ≡ true → is_sign_header ((ms ++ m ∷ []) ++ bs) ≡ true
signed-line comment ms m bs v b =
    signed_by comment ((ms ++ m ∷ []) ++ bs) (m ∷ bs) b (ap tokens_of (append_assoc ms (m ∷ []) bs) ∙ v.tokens (m ∷ bs))

module _ {src : List ℕ} {h : Chars} {at : ℕ} {x : Spot} {comment : Bool} (v : SignOpened src h at x comment) where
  pub opened-to : x.at ≤ length src
  opened-to = v.to

  pub opened-start : at ≤ length src
  opened-start = let i = v.inside in omega arith

  reached : Reached (header_signs (signs_of h)) (signs_of h) src at (v.marks ++ v.last ∷ []) x
  reached =
      let g = signs_of h in
      let t : tokens_of v.marks ≡ token kind.name [] (keyword comment ∷ []) ∷ [] = ap tokens_of (sym (append-nil v.marks)) ∙ v.named.tokens [] ∙ rw tokens_from-none in
      record {
        visible = v.visible;
        kind = header-kind g;
        feeds = v.feeds;
        run = v.run;
        quiet = never-quiet (header-kind g) v.marks (sign-never g v.marks (rw t (opens-alone (token kind.name [] (keyword comment ∷ []))))) in_plain [] v.marks v.last refl refl;
        mode = v.mode;
        fresh = v.fresh;
      }

  pub opened-less : {f g : Signs} {a d : LineEnd} → f ≡ signs_of h → LineIs f src (line_start at) a → g ≡ signs_of h → LineIs g src x d → d.feeds ≤ a.feeds
  opened-less {a = a} {d} i w k l =
      reached-less reached (subst (λ (y : Signs). LineIs y src (line_start at) a) i w) (subst (λ (y : Signs). LineIs y src x d) k l)

  module _ {f : Option (ℕ × ℕ)} (w : FoundIs src x.at f) where
    pub opened_nothing : f ≡ None → Malformed src h at
    opened_nothing e =
        let n : NoByte src x.at = subst (FoundIs src x.at) e w in
        let bs = marks_left (signs_of h) src x in
        let b : every is_blank bs ≡ true = blanks-left v.visible v.mode v.fresh n in
        let k : plain_marks_at src h at ≡ v.marks ++ (v.last ∷ bs) = run-marks (signs_of h) src (line_start at) v.run ∙ append_assoc v.marks (v.last ∷ []) bs in
        record {
          plain = record { inside = v.inside; visible = v.visible; is = reached-nothing reached n };
          refusal = rw k (line-blank (head_with h false) comment v.marks v.last bs v.named (every-cons is_blank v.last bs v.blank b));
        }

    module _ {b i : ℕ} (e : f ≡ Some (b, i)) where
      there : ByteAt src x.at b i
      there = subst (FoundIs src x.at) e w

      pub opened-fits : length src < 2 ^ 64 → i + 1 < 2 ^ 64
      opened-fits l = let k = there.inside in omega arith

      are : every is_blank (v.last ∷ there.before.blanks) ≡ true
      are = every-cons is_blank v.last there.before.blanks v.blank there.before.are

      named_here : is_sign_header ((v.marks ++ v.last ∷ []) ++ there.before.blanks) ≡ true
      named_here = signed-line comment v.marks v.last there.before.blanks v.named are

      takes : (f z : ℕ) → takes_as_is (header_signs (signs_of h)) (state_in in_plain true ((v.marks ++ v.last ∷ []) ++ there.before.blanks) f z) b ≡ true
      unfolding takes_as_is
      takes f z = rw (there.solid, named_here)

      pub opened-byte : {f g : Signs} {a d : LineEnd} → f ≡ signs_of h → LineIs f src (line_start at) a → g ≡ signs_of h → LineIs g src x d
          → SetBy src h at comment b (a.feeds - d.feeds) (record { at = i + 1; mode = 0; fresh = false })
      opened-byte {a = a} {d} j l m n =
          let g = signs_of h in
          let bs = there.before.blanks in
          let past = sign-past g ((v.marks ++ v.last ∷ []) ++ bs) (256 + b) named_here (blank-escaped (256 + b) (omega arith)) in
          let t = reached-byte reached there takes past (subst (λ (y : Signs). LineIs y src (line_start at) a) j l) (subst (λ (y : Signs). LineIs y src x d) m n) in
          record {
            visible = v.visible;
            marks = v.marks;
            named = v.named;
            first = v.last;
            more = bs;
            are = are;
            taken = rw (append_assoc v.marks (v.last ∷ []) bs) at t;
          }
