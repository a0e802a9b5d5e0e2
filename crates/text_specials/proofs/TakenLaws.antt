-- A line that opens with the keyword and a blank: the byte after the blanks is taken as it stands; where the line ends before one, it is plain.
use Rattle.std.specs.Prelude.{None, Option, Some, ℕ}
use mathlib.Core.Path.{◌≡◌, refl, sym, ap, ◌∙◌, subst}
use mathlib.Core.Bool.{Bool, true, false, ◌&&◌, or-true, and-false, not}
use mathlib.Core.List.{List, [], ◌∷◌, ◌++◌, append-nil, append_assoc}
use Prim.Native.Nat.{ℕ, ◌+◌, ◌-◌, ◌≤◌}
use native.Mathlib.Omega.{arith}
use lib.ListN.{length, drop}
use lib.Seq.{drop-append_seam}
use lib.Dec.{eqb}
use borrow.Author.Tests.{not-true}
use Rattle.rules.specs.Text.{bytes, every, begins}
use Rattle.rules.specs.Names.{is_blank}
use Rattle.rules.specs.Tokens.{without_blanks}
use Rattle.rules.specs.Lines.{in_plain, is_word_line, is_sign_line, takes_as_is, line_of}
use Rattle.rules.proofs.TextLaws.{every-head, every-tail, begins-append}
use Rattle.text_lines.specs.declared.Signs.{Signs}
use Rattle.text_lines.specs.declared.Spot.{Spot}
use Rattle.text_lines.specs.declared.LineEnd.{LineEnd}
use Rattle.text_lines.specs.Stream.{outside_signs, state_in, line_left, line_start, LineIs, blank_first, opens_with}
use Rattle.text_lines.proofs.SignLaws.{sign-never, Solid, comment-solid, escape-solid}
use Rattle.text_specials.proofs.OpenLaws.{outside-never, outside-kind}
use Rattle.text_specials.proofs.AsIsLaws.{Past, Reached, never-quiet, reached-nothing, reached-byte, reached-less}
use Rattle.text_specials.specs.Signed.{keyword, TakenIs, ByteAt, FoundIs, Opened}

-- ## The keyword and blanks

pub blanks-drop : (bs ms : List ℕ) → every is_blank bs ≡ true → without_blanks (bs ++ ms) ≡ without_blanks ms
unfolding without_blanks
blanks-drop [] ms h = refl
blanks-drop (b ∷ bs) ms h = rw (every-head is_blank b bs h) (blanks-drop bs ms (every-tail is_blank b bs h))

solid-stays : (w ms : List ℕ) → Solid w → without_blanks (w ++ ms) ≡ w ++ ms
unfolding without_blanks
solid-stays [] ms v = absurd (v.some refl)
solid-stays (c ∷ w) ms v = rw (not-true (is_blank c) (every-head (λ (b : ℕ). not (is_blank b)) c w v.solid))

-- blanks, a word and blanks after it
module _ (w bs cs : List ℕ) (m : ℕ) (v : Solid w) (a : every is_blank bs ≡ true) (b : is_blank m ≡ true) (c : every is_blank cs ≡ true) where
  without : without_blanks (bs ++ (w ++ m ∷ []) ++ cs) ≡ w ++ (m ∷ cs)
  without =
      ap without_blanks (append_assoc bs (w ++ m ∷ []) cs ∙ ap (λ (x : List ℕ). bs ++ x) (append_assoc w (m ∷ []) cs))
      ∙ blanks-drop bs (w ++ (m ∷ cs)) a
      ∙ solid-stays w (m ∷ cs) v

  is_word_lem : is_word_line w (bs ++ (w ++ m ∷ []) ++ cs) ≡ true
  unfolding is_word_line every
  is_word_lem = rw (without, begins-append w (m ∷ cs), drop-append_seam w (m ∷ cs), b, c)

  is_open : opens_with w (bs ++ (w ++ m ∷ []) ++ cs) ≡ true
  unfolding opens_with
  is_open = rw (without, begins-append w (m ∷ cs), drop-append_seam w (m ∷ cs), b)

pub keyword-solid : (comment : Bool) → Solid (keyword comment)
keyword-solid true = comment-solid
keyword-solid false = escape-solid

sign_word : (comment : Bool) (ms : List ℕ) → is_word_line (keyword comment) ms ≡ true → is_sign_line ms ≡ true
unfolding is_sign_line
sign_word true ms h = rw h
sign_word false ms h = rw h (or-true (is_word_line (bytes "comment_char") ms))

-- the keyword alone does not open a line with a keyword and a blank
no-blank : (k comment : Bool) → (begins (keyword k) (keyword comment) && blank_first (drop (length (keyword k)) (keyword comment))) ≡ false
unfolding bytes begins
no-blank true true = refl
no-blank true false = refl
no-blank false true = refl
no-blank false false = refl

not-open : (k comment : Bool) (bs : List ℕ) → every is_blank bs ≡ true → opens_with (keyword k) (bs ++ keyword comment) ≡ false
unfolding opens_with
not-open k comment bs h =
    let e : without_blanks (bs ++ keyword comment) ≡ keyword comment =
    blanks-drop bs (keyword comment) h
    ∙ ap without_blanks (sym (append-nil (keyword comment)))
    ∙ solid-stays (keyword comment) [] (keyword-solid comment)
    ∙ append-nil (keyword comment) in
    rw e (no-blank k comment)

-- ## The whole line

module _ {g : Signs} {src : List ℕ} {at : ℕ} {x : Spot} {comment : Bool} (v : Opened g src at x comment) where
  read : List ℕ
  read = v.blanks ++ (keyword comment ++ v.last ∷ [])

  reached : Reached (outside_signs g) g src at read x
  unfolding read without_blanks
  reached =
      record {
        visible = v.visible;
        kind = outside-kind g;
        feeds = v.feeds;
        run = v.run;
        quiet = rw (append_assoc v.blanks (keyword comment) (v.last ∷ [])) at
            (never-quiet (outside-kind g) (v.blanks ++ keyword comment)
            (outside-never g (v.blanks ++ keyword comment) (not-open true comment v.blanks v.are) (not-open false comment v.blanks v.are)) in_plain [] (v.blanks ++ keyword comment) v.last refl refl);
        mode = v.mode;
        fresh = v.fresh;
      }

  pub found-less : {a d : LineEnd} → LineIs g src (line_start at) a → LineIs g src x d → d.feeds ≤ a.feeds
  found-less h l = reached-less reached h l

  module _ {f : Option (ℕ × ℕ)} (w : FoundIs src x.at f) where
    pub found_nothing : f ≡ None → line_of (outside_signs g) (drop at src) ≡ line_left g src (line_start at)
    found_nothing e = reached-nothing reached (subst (FoundIs src x.at) e w)

    module _ {b i : ℕ} (e : f ≡ Some (b, i)) where
      there : ByteAt src x.at b i
      there = subst (FoundIs src x.at) e w

      word-here : is_word_line (keyword comment) (read ++ there.before.blanks) ≡ true
      unfolding read
      word-here = is_word_lem (keyword comment) v.blanks there.before.blanks v.last (keyword-solid comment) v.are v.blank there.before.are

      takes : (f z : ℕ) → takes_as_is (outside_signs g) (state_in in_plain true (read ++ there.before.blanks) f z) b ≡ true
      unfolding takes_as_is
      takes f z = rw (there.solid, sign_word comment (read ++ there.before.blanks) word-here)

      past : Past (outside_signs g) ((read ++ there.before.blanks) ++ (256 + b) ∷ [])
      unfolding Past takes_as_is
      past ns y c k =
          let n : is_sign_line y.marks ≡ false =
          rw (k, append_assoc (read ++ there.before.blanks) ((256 + b) ∷ []) ns) (sign-never (read ++ there.before.blanks) ns (256 + b) (omega arith)) in
          rw n (and-false (eqb y.mode in_plain && y.fresh && not (is_blank c)))

      pub found-byte : {a d : LineEnd} → LineIs g src (line_start at) a → LineIs g src x d
          → TakenIs g src at comment b (a.feeds - d.feeds) (record { at = i + 1; mode = 0; fresh = false })
      unfolding read
      found-byte h l =
          let t = reached-byte reached there takes past h l in
          let bs = there.before.blanks in
          record {
            done = v.blanks ++ (keyword comment ++ v.last ∷ []) ++ bs;
            word = word-here;
            opens = is_open (keyword comment) v.blanks bs v.last (keyword-solid comment) v.are v.blank there.before.are;
            marks = t.marks;
            feeds = t.feeds;
            end = t.end;
            few = t.few;
            mode = t.mode;
            to = t.to;
          }
