-- A line that sets one of the two characters, with the byte that is taken as it stands: from spots of the source to the paper's outcome.
use Rattle.std.specs.Prelude.{if◌then◌else◌, None, Option, Some}
use mathlib.Core.Path.{◌≡◌, sym, ap, ◌∙◌, subst}
use mathlib.Core.Bool.{Bool, true, false, not, ◌&&◌, ◌||◌, and-false, true≢false}
use mathlib.Core.List.{List, [], ◌∷◌, ◌++◌}
use Prim.Native.Nat.{ℕ, ◌+◌, ◌%◌, ◌<◌, ◌^◌}
use native.Mathlib.Omega.{arith}
use lib.ListN.{length}
use lib.Dec.{eqb, ltb}
use borrow.Author.Tests.{ne_eqb, ltb-true, ltb-false}
use Rattle.base_lists.proofs.Bools.{by, and_left, and_right}
use Rattle.rules.specs.Text.{bytes, within, every, ◌unless◌}
use Rattle.rules.specs.Names.{is_blank, is_visible}
use Rattle.rules.specs.Tokens.{is_text, word, as_is, Token, token, tokens_of, operands, single}
use Rattle.rules.specs.Lines as paper
use Rattle.rules.specs.Lines.{Scan, is_sign, sign_refusal, sign_set}
use Rattle.rules.specs.State.{State, with_chars, Outcome, gives}
use Rattle.rules.specs.Source.{sign_line, token_line, whole_line}
use Rattle.rules.proofs.TextLaws.{within_low, unless-none}
use Rattle.text_lines.specs.declared.Spot.{Spot}
use Rattle.text_lines.specs.declared.LineEnd.{LineEnd}
use Rattle.text_lines.specs.Stream.{marks_left, LineIs}
use Rattle.text_specials.specs.declared.Chars.{Chars}
use Rattle.text_specials.specs.Force.{chars_as, operand}
use Rattle.text_specials.specs.Signed.{Visible, keyword, SignIs}
use Rattle.text_specials.proofs.LineTokenLaws.{LineTokens, line-tokens, line-text}
use Rattle.text_tokens.specs.Left.{RestIs}
use Rattle.locale_outside.specs.Outside.{signs_of, Stands, Changes, SignedBy, RefusedWith, PlainAt, TakenAt}
use Rattle.locale_outside.proofs.OperandLaws.{none_rest, some-rest, other-more}
use Rattle.locale_outside.proofs.OutcomeLaws.{sign-three, line-foul, line_clean, word-refused, word-accepted, outside-sign, sign-not-one, sign-late, sign-refused, sign_set_lem, keyword-operand}
use Rattle.locale_outside.proofs.PlainLaws.{line-signs, outcome-marks}

-- ## The byte

-- as it stands it is text where it is text
text-taken : (c : ℕ) → is_text (256 + c) ≡ is_text c
text-taken c = let e : (256 + c) % 256 ≡ c % 256 = omega arith in rw e

-- one that may be set is no blank
sign-solid : (h : paper.Chars) (comment : Bool) (c : ℕ) → sign_refusal h comment (operand c) ≡ 0 → is_blank c ≡ false
unfolding is_sign
sign-solid h comment c e =
    let a = single as_is (operand c) in
    let s = is_sign c in
    let n = not (if comment then h.comment_set else h.escape_set) in
    let d = not (eqb c (if comment then h.escape else h.comment)) in
    let z : (a && s && n && d) ≡ true = unless-none 3 (a && s && n && d) (omega arith) (sym (sign-three h comment (operand c)) ∙ e) in
    let y : is_sign c ≡ true = and_right a s (and_left (a && s) n (and_left (a && s && n) d z)) in
    let m = not (within 48 57 c || within 65 90 c || within 97 122 c) in
    let o = every (λ (x : ℕ). not (eqb x c)) (bytes "<>\";,._-") in
    let w = within_low 33 126 c (and_left (is_visible c) m (and_left (is_visible c && m) o y)) in
    simp (ne_eqb c 32 (λ x. omega arith), ne_eqb c 9 (λ x. omega arith))

-- the two characters are no blanks again
set-visible : (h n : Chars) (comment : Bool) (c : ℕ) → Visible (signs_of h) → is_blank c ≡ false → chars_as n ≡ sign_set (chars_as h) comment (operand c)
    → Visible (signs_of n)
unfolding sign_set
set-visible h n true c v b z =
    let x : n.comment ≡ c = ap (λ (p : paper.Chars). p.comment) z in
    let y : n.escape ≡ h.escape = ap (λ (p : paper.Chars). p.escape) z in
    record { comment = rw x b; escape = rw y v.escape }
set-visible h n false c v b z =
    let x : n.comment ≡ h.comment = ap (λ (p : paper.Chars). p.comment) z in
    let y : n.escape ≡ c = ap (λ (p : paper.Chars). p.escape) z in
    record { comment = rw x v.comment; escape = rw y b }

-- ## The line

-- a line that is text, and a byte that is
pub text_both : {v t b : Bool} → not t ≡ false → v ≡ not b → v ≡ false → (t ≡ true) × (b ≡ true)
text_both {v} {t} {b} h e f = (by t (λ x. x) (λ x. absurd (true≢false (sym (ap not x) ∙ h))), by b (λ x. x) (λ x. absurd (true≢false (sym (ap not x) ∙ sym e ∙ f))))

module _ {h : Chars} {src : List ℕ} {at : ℕ} {comment : Bool} {c k : ℕ} {rest : Spot} {e : LineEnd} (v : TakenAt h src at comment c k rest)
    (l : LineIs (signs_of h) src rest e) where
  pub set-fits : length src < 2 ^ 64 → k + e.feeds < 2 ^ 64
  set-fits b = omega (arith, v.taken.few, l.few, l.to)

  -- its marks
  abbrev marks : List ℕ
  marks = v.taken.done ++ (256 + c) ∷ marks_left (signs_of h) src rest

  whole-text : every is_text marks ≡ (is_text c && e.text)
  whole-text =
      line-text comment v.taken.done c (marks_left (signs_of h) src rest) v.taken.word
      ∙ rw (text-taken c, l.text)

  changes : {before collated : Bool} (change : State → State)
      → ((s : State) (number : ℕ) → Stands h before collated s → whole_line s number marks ≡ gives 0 (change s))
      → Changes h before collated src at e.next (k + e.feeds) change
  changes change w =
      record {
        leaves = λ s number x. record {
          outcome = outcome-marks x number src at marks v.taken.marks ∙ w s number x;
          end = ap (λ (z : Scan). at + z.size) (line-signs x src at) ∙ v.taken.end ∙ l.end;
          feeds = ap (λ (z : Scan). z.feeds) (line-signs x src at) ∙ v.taken.feeds ∙ ap (λ (n : ℕ). k + n) l.feeds;
        };
        on = by (ltb rest.at (length src))
            (λ t. let i = l.on (ltb-true rest.at (length src) t) in omega (arith, v.taken.few))
            (λ t. let i = ltb-false rest.at (length src) t in omega (arith, v.taken.few, v.inside, l.few));
        to = l.to;
        few = omega (arith, v.taken.few, l.few);
      }

  refuses : {before collated : Bool} (n : ℕ)
      → ((s : State) (number : ℕ) → Stands h before collated s → (whole_line s number marks).refusal ≡ n)
      → RefusedWith h before collated src at n
  refuses n w =
      record { refusal = λ s number x. ap (λ (o : Outcome). o.refusal) (outcome-marks x number src at marks v.taken.marks) ∙ w s number x }

  -- ### A byte that is no text

  pub set-foul : e.text ≡ false → {before : Bool} (collated : Bool) → RefusedWith h before collated src at 2
  set-foul t collated =
      refuses 2 (λ s number x. line-foul s x.outside number marks (whole-text ∙ rw t (and-false (is_text c))))

  module _ {b : Bool} (i : b ≡ is_text c) (t : e.text ≡ true) where
    pub set-foul-byte : b ≡ false → {before : Bool} (collated : Bool) → RefusedWith h before collated src at 2
    set-foul-byte f collated =
        refuses 2 (λ s number x. line-foul s x.outside number marks (whole-text ∙ rw (sym i ∙ f)))

    module _ (f : b ≡ true) (small : c < 256) where
      tokens : LineTokens comment c (marks_left (signs_of h) src rest) (tokens_of marks)
      tokens = line-tokens comment v.taken.done c (marks_left (signs_of h) src rest) v.taken.word v.taken.opens small

      -- the line by its tokens
      by_word : {before collated : Bool} (s : State) (number : ℕ) → Stands h before collated s
          → whole_line s number marks ≡ token_line s number (token word (keyword comment) [] ∷ tokens.after)
      by_word s number x =
          line_clean s x.outside number marks (whole-text ∙ rw (sym i ∙ f, t)) ∙ ap (token_line s number) tokens.is

      refuses-sign : {before collated : Bool}
          → ((s : State) → Stands h before collated s → (sign_line s comment (operands tokens.after)).refusal ≡ 3)
          → RefusedWith h before collated src at 3
      refuses-sign w =
          refuses 3 (λ s number x.
          ap (λ (o : Outcome). o.refusal) (by_word s number x)
          ∙ word-refused s x.outside number (keyword comment) tokens.after
          (ap (λ (o : Outcome). o.refusal) (outside-sign s x.outside comment (operands tokens.after)) ∙ w s x))

      module _ {d : Bool} (r : RestIs (signs_of h) src rest d) where
        -- ### More than the byte

        pub set_more : d ≡ false → {before : Bool} (collated : Bool) → RefusedWith h before collated src at 3
        set_more g collated =
            refuses-sign (λ s x.
            sign-not-one s x.outside comment (operands tokens.after)
            (ap (single as_is) tokens.rest
            ∙ other-more (token as_is (c ∷ []) []) _ (some-rest true (marks_left (signs_of h) src rest) (sym r.blanks ∙ g) r.dead)))

        -- ### The byte alone

        module _ (g : d ≡ true) where
          one : operands tokens.after ≡ operand c
          one = tokens.rest ∙ ap (λ (ts : List Token). token as_is (c ∷ []) [] ∷ ts) (none_rest true (marks_left (signs_of h) src rest) (sym r.blanks ∙ g))

          pub set-late : {before : Bool} → before ≡ false → (collated : Bool) → RefusedWith h before collated src at 3
          set-late j collated = refuses-sign (λ s x. sign-late s x.outside comment (operands tokens.after) (x.before ∙ j))

          module _ {m : Bool} (y : (3 unless m) ≡ sign_refusal (chars_as h) comment (operand c)) where
            pub set-not : m ≡ false → {before : Bool} (collated : Bool) → RefusedWith h before collated src at 3
            set-not j collated =
                refuses-sign (λ s x. sign-refused s x.outside comment (operands tokens.after) (rw (one, x.chars) (sym y ∙ rw j)))

            pub set-signed : m ≡ true → {before : Bool} → before ≡ true → {n : Chars} → chars_as n ≡ sign_set (chars_as h) comment (operand c)
                → (collated : Bool) → SignedBy h before collated src at n e.next (k + e.feeds)
            set-signed j {before} q {n} z collated =
                let u : sign_refusal (chars_as h) comment (operand c) ≡ 0 = sym y ∙ rw j in
                record {
                  line = changes (λ s. with_chars s (chars_as n)) (λ s number x.
                      by_word s number x
                      ∙ word-accepted s x.outside number (keyword comment) tokens.after (rw one (keyword-operand comment c))
                      (outside-sign s x.outside comment (operands tokens.after)
                      ∙ rw one (sign_set_lem s x.outside comment (operand c) (x.before ∙ q) (rw x.chars u) ∙ rw (x.chars, z))));
                  visible = set-visible h n comment c v.visible (sign-solid (chars_as h) comment c u) z;
                }

-- ## Which line it is

module _ {h : Chars} {src : List ℕ} {at : ℕ} (i : at < length src) {s : Option (Bool × ℕ × ℕ × Spot)} (w : SignIs (signs_of h) src at s) where
  pub plain_at_lem : s ≡ None → PlainAt h src at
  plain_at_lem e = record { inside = i; line = subst (SignIs (signs_of h) src at) e w }

  pub taken_at : Visible (signs_of h) → {comment : Bool} {c k : ℕ} {rest : Spot} → s ≡ Some (comment, c, k, rest) → TakenAt h src at comment c k rest
  taken_at v e = record { inside = i; visible = v; taken = subst (SignIs (signs_of h) src at) e w }
