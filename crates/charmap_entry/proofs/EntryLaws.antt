-- The whole line: its tokens, its text, its end and its LFs where it is an entry, and that it is plain where it opens with none.
use Rattle.std.specs.Prelude.{None, Option, Some, ℕ}
use mathlib.Core.Path.{◌≡◌, refl, sym, ap, ◌∙◌, subst}
use mathlib.Core.Bool.{Bool, true, false, ◌&&◌, and-true}
use mathlib.Core.List.{List, [], ◌∷◌, ◌++◌}
use Prim.Native.Nat.{ℕ, suc, pred, ◌+◌, ◌%◌, ◌≤◌, ◌<◌}
use native.Mathlib.Nat.{zero-add}
use native.Mathlib.Omega.{arith}
use lib.ListN.{length, get_or, drop, length-append}
use lib.Dec.{eqb}
use borrow.Author.Tests.{eqb-true, le-leb}
use Rattle.base_lists.proofs.Bools.{by, clash, and_intro}
use Rattle.base_lists.proofs.Runs as runs
use Rattle.rules.specs.Text.{every, same}
use Rattle.rules.specs.Names.{is_blank, names_refusal, is_any_hex, hex_value}
use Rattle.rules.specs.Tokens.{is_text, gap, broken, word, name, Token, token, no_token, no_part, tokens_from, without_blanks, tokens_of, is_entry}
use Rattle.rules.specs.Charmap.{last_token}
use Rattle.rules.specs.Lines.{in_plain, Scan, line_from, line_of}
use Rattle.rules.proofs.TextLaws.{every-head, every-tail, every_append, every-mono}
use Rattle.text_lines.specs.declared.Signs.{Signs}
use Rattle.text_lines.specs.declared.Spot.{Spot}
use Rattle.text_lines.specs.declared.LineEnd.{LineEnd}
use Rattle.text_lines.specs.Stream.{state_in, state_at, line_left, marks_left, line_start, Run, LineIs}
use Rattle.text_lines.proofs.LineLaws.{line_of-left}
use Rattle.text_lines.proofs.RunLaws.{run-then}
use Rattle.text_tokens.specs.Left.{tokens_left, Skips}
use Rattle.text_tokens.proofs.TokenLaws.{first-gap}
use Rattle.text_tokens.proofs.GapLaws.{tokens_of-left}
use Rattle.text_names.specs.Named.{name_left}
use Rattle.charmap_entry.specs.declared.Head.{Head}
use Rattle.charmap_entry.specs.Entered.{body_signs, hidden_at, opens_entry, GapIs, head_tokens, HeadIs, HeadsAre, body_line, first_name, last_name, PartsAre, NoEntry, feeds_in, Whole}
use Rattle.charmap_entry.proofs.ShapeLaws.{is_gap, is_pair, entry-by, entry-opens, byte-then, one_then, range-then, gap-no-range, range-tail}
use Rattle.charmap_entry.proofs.BodyLaws.{body-plain, quiet-entry, Closes, closes}
use Rattle.charmap_entry.proofs.PairLaws.{bounds, two-alone, escape-first}
use Rattle.charmap_entry.proofs.ByteLaws.{skips-blanks}
use Rattle.charmap_entry.proofs.HeadLaws.{range-is}
use Rattle.charmap_entry.proofs.FeedLaws.{line-fed}

-- ## Its tokens

-- as many gaps as these marks
gaps_of : List ℕ → List Token
gaps_of [] = []
gaps_of (b ∷ bs) = token gap [] [] ∷ gaps_of bs

gaps-are : (bs : List ℕ) → every is_gap (gaps_of bs) ≡ true
unfolding gaps_of every
gaps-are [] = refl
gaps-are (b ∷ bs) = gaps-are bs

gaps-first : (bs ms : List ℕ) → every is_blank bs ≡ true → tokens_from (no_part []) (bs ++ ms) ≡ gaps_of bs ++ tokens_from (no_part []) ms
unfolding gaps_of
gaps-first [] ms h = refl
gaps-first (b ∷ bs) ms h =
    first-gap b (bs ++ ms) (every-head is_blank b bs h) ∙ ap (λ (ts : List Token). token gap [] [] ∷ ts) (gaps-first bs ms (every-tail is_blank b bs h))

blanks-drop : (bs ms : List ℕ) → every is_blank bs ≡ true → without_blanks (bs ++ ms) ≡ without_blanks ms
unfolding without_blanks
blanks-drop [] ms h = refl
blanks-drop (b ∷ bs) ms h = rw (every-head is_blank b bs h) (blanks-drop bs ms (every-tail is_blank b bs h))

name-stays : (ms : List ℕ) → without_blanks (60 ∷ ms) ≡ 60 ∷ ms
unfolding without_blanks
name-stays ms = refl

-- escape `x`, and the digits
abbrev the_escape : Token
the_escape = token broken (120 ∷ []) []

abbrev the_digits : ℕ → ℕ → Token
the_digits d e = token word (d ∷ e ∷ []) []

-- the tokens of an entry
entry_tokens : Bool → List ℕ → List ℕ → List ℕ → ℕ → ℕ → List Token
entry_tokens range m n bs d e = head_tokens range m n ++ (token gap [] [] ∷ (gaps_of bs ++ the_escape ∷ the_digits d e ∷ []))

-- What they are.
record Said (ts : List Token) (m n : List ℕ) (d e : ℕ) : Type 0 where
  entry : is_entry ts ≡ true
  first : first_name ts ≡ m
  last : last_name ts ≡ n
  digits : last_token ts ≡ the_digits d e

-- the last of a list
at_last : (ts : List Token) (x y : Token) → get_or (ts ++ x ∷ y ∷ []) (suc (length ts)) no_token ≡ y
at_last [] x y = refl
at_last (t ∷ ts) x y = at_last ts x y

last-two : (ts : List Token) (x y : Token) → last_token (ts ++ x ∷ y ∷ []) ≡ y
last-two ts x y =
    let a = length-append ts (x ∷ y ∷ []) in
    let l : length (ts ++ x ∷ y ∷ []) ≡ suc (suc (length ts)) = omega arith in
    ap (λ (k : ℕ). get_or (ts ++ x ∷ y ∷ []) (pred k) no_token) l ∙ at_last ts x y

pair_is : (d e : ℕ) → is_any_hex d ≡ true → is_any_hex e ≡ true → is_pair (the_escape ∷ the_digits d e ∷ []) ≡ true
unfolding is_pair same every
pair_is d e h k = rw (h, k)

last-of : (range : Bool) (m n bs : List ℕ) (d e : ℕ) → last_token (entry_tokens range m n bs d e) ≡ the_digits d e
unfolding entry_tokens
last-of false m n bs d e = last-two (token name [] (m ∷ []) ∷ token gap [] [] ∷ gaps_of bs) the_escape (the_digits d e)
last-of true m n bs d e =
    last-two (token name [] (m ∷ []) ∷ token word (46 ∷ 46 ∷ []) [] ∷ token name [] (n ∷ []) ∷ token gap [] [] ∷ gaps_of bs) the_escape (the_digits d e)

said : (range : Bool) (m n bs : List ℕ) (d e : ℕ) → is_any_hex d ≡ true → is_any_hex e ≡ true → (range ≡ false → n ≡ m) → Said (entry_tokens range m n bs d e) m n d e
unfolding entry_tokens
said false m n bs d e h k o =
    let t = token gap [] [] in
    let us = gaps_of bs ++ the_escape ∷ the_digits d e ∷ [] in
    let x = token name [] (m ∷ []) in
    let r = gap-no-range x t us refl in
    record {
      entry = entry-by (x ∷ t ∷ us) ∙ one_then is_pair x t us refl refl ∙ byte-then is_pair t (gaps_of bs) the_escape (the_digits d e ∷ []) refl (gaps-are bs) refl ∙ pair_is d e h k;
      first = refl;
      last = rw r (sym (o refl));
      digits = last-of false m n bs d e;
    }
said true m n bs d e h k o =
    let t = token gap [] [] in
    let us = gaps_of bs ++ the_escape ∷ the_digits d e ∷ [] in
    let x = token name [] (m ∷ []) in
    let dots = token word (46 ∷ 46 ∷ []) [] in
    let y = token name [] (n ∷ []) in
    let r = range-tail x dots y (t ∷ us) ∙ range-is m n in
    record {
      entry = entry-by (x ∷ dots ∷ y ∷ t ∷ us) ∙ range-then is_pair x dots y (t ∷ us) refl (range-is m n)
          ∙ byte-then is_pair t (gaps_of bs) the_escape (the_digits d e ∷ []) refl (gaps-are bs) refl ∙ pair_is d e h k;
      first = refl;
      last = rw r;
      digits = last-of true m n bs d e;
    }

-- ## Its text

blank-text : (b : ℕ) → is_blank b ≡ true → is_text b ≡ true
blank-text b h = by (eqb b 32) (λ t. rw (eqb-true b 32 t)) (λ t. rw (eqb-true b 9 (rw t at h)))

blanks-text : (bs : List ℕ) → every is_blank bs ≡ true → every is_text bs ≡ true
blanks-text bs h = every-mono is_blank is_text blank-text bs h

hex-text : (d : ℕ) → is_any_hex d ≡ true → is_text d ≡ true
hex-text d h =
    let v = bounds d h in
    let a = v.low in
    let b = v.high in
    let m : d % 256 ≡ d = omega arith in
    rw m (rw (le-leb 32 d (omega arith), le-leb d 126 (omega arith)))

pair-text : (d e : ℕ) → is_any_hex d ≡ true → is_any_hex e ≡ true → every is_text (632 ∷ d ∷ e ∷ []) ≡ true
unfolding every
pair-text d e h k = rw (hex-text d h, hex-text e k)

name-text : (ms : List ℕ) → every is_text (60 ∷ ms) ≡ every is_text ms
unfolding every
name-text ms = refl

-- the marks of an entry are text where its names are
marks-text : (cs more bs : List ℕ) (d e : ℕ) → every is_blank cs ≡ true → every is_blank bs ≡ true → is_any_hex d ≡ true → is_any_hex e ≡ true
    → every is_text (cs ++ (60 ∷ (more ++ (bs ++ (632 ∷ d ∷ e ∷ []))))) ≡ every is_text more
marks-text cs more bs d e a b h k =
    let ds : List ℕ = 632 ∷ d ∷ e ∷ [] in
    every_append is_text cs (60 ∷ (more ++ (bs ++ ds)))
    ∙ rw (blanks-text cs a, name-text (more ++ (bs ++ ds)), every_append is_text more (bs ++ ds), every_append is_text bs ds, blanks-text bs b, pair-text d e h k) (and-true (every is_text more))

-- ## The line

-- the state behind the digits
state-behind : (q : Spot) (ms : List ℕ) (f z : ℕ) → q.mode ≡ in_plain → q.fresh ≡ false → state_at q ms (0 + f) (0 + z) ≡ state_in in_plain false ms f z
state-behind q ms f z m e = rw (m, e, zero-add f, zero-add z)

module _ {g : Signs} {src : List ℕ} {at : ℕ} {h : Head} {v i : ℕ} (w : Whole g src at h v i) where
  -- its marks, and the run over them
  gaps : List ℕ
  gaps = w.byte.gap ∷ w.byte.gaps

  marks : List ℕ
  marks = w.skips.walk.passed ++ (60 ∷ (w.head.more ++ ((w.byte.gap ∷ w.byte.gaps) ++ (632 ∷ w.byte.pair.first ∷ w.byte.pair.second ∷ []))))

  feeds : ℕ
  feeds = w.skips.walk.feeds + (w.head.feeds + (w.byte.feeds + w.byte.pair.feeds))

  run : Run g src marks feeds (line_start at) w.byte.pair.stop
  unfolding marks feeds
  run = run-then w.skips.walk.run (run-then w.head.run (run-then w.byte.run w.byte.pair.run))

  are-gaps : every is_blank gaps ≡ true
  unfolding gaps every
  are-gaps = and_intro w.byte.blank w.byte.blanks

  tokens : tokens_of marks ≡ entry_tokens w.head.range (name_left g src h.first) (name_left g src h.last) w.byte.gaps w.byte.pair.first w.byte.pair.second
  unfolding tokens_of marks gaps entry_tokens gaps_of
  tokens =
      let d = w.byte.pair.first in
      let e = w.byte.pair.second in
      let ds : List ℕ = 632 ∷ d ∷ e ∷ [] in
      let bs = w.byte.gap ∷ w.byte.gaps in
      let more = w.head.more in
      let head = head_tokens w.head.range (name_left g src h.first) (name_left g src h.last) in
      let pair : tokens_from (no_part []) ds ≡ the_escape ∷ the_digits d e ∷ [] =
      escape-first (d ∷ e ∷ []) ∙ ap (λ (ts : List Token). the_escape ∷ ts) (two-alone d e w.byte.pair.hex w.byte.pair.hex-second) in
      ap (tokens_from (no_part [])) (blanks-drop w.skips.walk.passed (60 ∷ (more ++ (bs ++ ds))) (skips-blanks w.skips) ∙ name-stays (more ++ (bs ++ ds)))
      ∙ w.head.tokens (bs ++ ds)
      ∙ ap (λ (ts : List Token). head ++ ts) (gaps-first bs ds are-gaps ∙ ap (λ (ts : List Token). gaps_of bs ++ ts) pair)

  told : Said (tokens_of marks) (name_left g src h.first) (name_left g src h.last) w.byte.pair.first w.byte.pair.second
  told =
      subst (λ (ts : List Token). Said ts (name_left g src h.first) (name_left g src h.last) w.byte.pair.first w.byte.pair.second) (sym tokens)
      (said w.head.range (name_left g src h.first) (name_left g src h.last) w.byte.gaps w.byte.pair.first w.byte.pair.second w.byte.pair.hex w.byte.pair.hex-second w.head.one)

  -- LFs and bytes before the place i
  before : ℕ
  before = feeds + w.byte.pair.closing.passed.feeds

  size : ℕ
  size = run.bytes + w.byte.pair.closing.passed.bytes

  line : Closes (body_line g src at) marks before size (line_left g src (hidden_at i))
  unfolding line_of line_left before size
  line =
      let z = w.byte.pair in
      let q = z.stop in
      let e : body_line g src at ≡ line_from (body_signs g) (state_in in_plain false marks before size) (drop i src) =
      run.goes (body_signs g) (record { comment = refl; escape = refl }) [] 0 0 (quiet-entry g in_plain true [] marks told.entry)
      ∙ ap (λ (x : Scan). line_from (body_signs g) x (drop q.at src)) (state-behind q marks feeds run.bytes z.mode z.fresh)
      ∙ z.closing.passed.goes marks feeds run.bytes in
      subst (λ (l : Scan). Closes l marks before size (line_left g src (hidden_at i))) (sym e) (closes g marks before size told.entry (drop i src) z.closing.stop)

  all-text : every is_text marks ≡ every is_text w.head.more
  unfolding marks gaps
  all-text =
      marks-text w.skips.walk.passed w.head.more (w.byte.gap ∷ w.byte.gaps) w.byte.pair.first w.byte.pair.second
      (skips-blanks w.skips) are-gaps w.byte.pair.hex w.byte.pair.hex-second

  moved : at + size ≡ i
  unfolding size
  moved = let a = run.moved in let b = w.byte.pair.closing.passed.moved in omega arith

  few : before ≤ size
  unfolding before size
  few = let a = run.few in let b = w.byte.pair.closing.passed.few in omega arith

  further : at < i
  further =
      let a = w.skips.from in
      let b = w.head.on in
      let c = w.byte.on in
      let d = w.byte.pair.on in
      let e = w.byte.pair.closing.passed.moved in
      omega arith

  pub parts-names : (h.first.at ≤ length src) × (h.last.at ≤ length src)
  parts-names = (w.head.first_to, w.head.last-to)

  module _ {c : LineEnd} (z : LineIs g src (hidden_at i) c) where
    pub parts_are : {k : ℕ} {t : Bool} → k ≡ feeds_in (runs.run src at c.next) → t ≡ (every is_text (name_left g src h.first) && every is_text (name_left g src h.last))
        → PartsAre g src at (record { first = h.first; last = h.last; refusal = h.refusal; byte = v; text = t; next = c.next; feeds = k })
    parts_are {k} {t} f u =
        let l = body_line g src at in
        let m : l.marks ≡ marks = line.marks in
        let end : at + l.size ≡ c.next = omega (arith, line.size, moved, z.end) in
        let s : Said (tokens_of l.marks) (name_left g src h.first) (name_left g src h.last) w.byte.pair.first w.byte.pair.second =
        subst (λ (ms : List ℕ). Said (tokens_of ms) (name_left g src h.first) (name_left g src h.last) w.byte.pair.first w.byte.pair.second) (sym m) told in
        let fed : l.feeds ≡ k = line-fed (body_signs g) src at c.next end ∙ sym f in
        record {
          entry = s.entry;
          first = s.first;
          last = s.last;
          refusal = ap (λ (n : List ℕ). names_refusal (n ∷ last_name (tokens_of l.marks) ∷ [])) s.first
              ∙ ap (λ (n : List ℕ). names_refusal (name_left g src h.first ∷ n ∷ [])) s.last ∙ w.head.refusal;
          byte = ap (λ (k : Token). hex_value 0 k.text) s.digits ∙ w.byte.pair.value;
          text = ap (every is_text) m ∙ all-text ∙ w.head.text ∙ sym u;
          end = end;
          feeds = fed;
          on = omega (arith, further, z.few);
          to = z.to;
          few = omega (arith, few, moved, z.few, z.feeds, line.feeds, fed);
          first_to = w.head.first_to;
          last-to = w.head.last-to;
        }

-- ## A line that is no entry

module _ (g : Signs) (src : List ℕ) (at : ℕ) {q : Spot} (v : Skips g src (line_start at) q) where
  plain-line : opens_entry (tokens_left g src q) ≡ false → NoEntry g src at
  plain-line h =
      let ms = marks_left g src (line_start at) in
      let k : opens_entry (tokens_of ms) ≡ false = ap opens_entry (tokens_of-left v) ∙ h in
      let l = line_of-left g src at in
      record {
        plain = body-plain g (drop at src) (ap (λ (s : Scan). opens_entry (tokens_of s.marks)) l ∙ k) ∙ l;
        none = by (is_entry (tokens_of ms)) (λ t. clash (entry-opens (tokens_of ms) t) k) (λ t. t);
      }

  pub entry-plain : (q.at ≤ length src) × (q.mode ≡ in_plain)
  entry-plain = (v.to, v.mode)

  module _ {n : Option Head} (w : HeadsAre g src q n) where
    pub entry-no-name : n ≡ None → NoEntry g src at
    entry-no-name e = plain-line (subst (HeadsAre g src q) e w)

    module _ {h : Head} (e : n ≡ Some h) where
      head : HeadIs g src q h
      head = subst (HeadsAre g src q) e w

      pub entry_next : (h.next.at ≤ length src) × (h.next.mode ≡ in_plain)
      entry_next = (head.to, head.mode)

      module _ {b : Option (ℕ × ℕ)} (k : GapIs g src h.next b) where
        pub entry-no-byte : b ≡ None → NoEntry g src at
        entry-no-byte f = plain-line (head.opens ∙ subst (GapIs g src h.next) f k)

        pub entry_whole : {c i : ℕ} → at ≤ length src → b ≡ Some (c, i) → Whole g src at h c i
        entry_whole l f = record { inside = l; start = q; skips = v; head = head; byte = subst (GapIs g src h.next) f k }
