-- What the paper makes of a line outside every category (Rattle.rules.specs.Source), by its tokens.
use Rattle.std.specs.Prelude.{if◌then◌else◌}
use mathlib.Core.Path.{◌≡◌, refl, sym, ap, ◌∙◌}
use mathlib.Core.Bool.{Bool, true, false, not, ◌&&◌, and-false, false≢true}
use mathlib.Core.List.{List, [], ◌∷◌}
use Prim.Native.Nat.{ℕ}
use native.Mathlib.Omega.{arith}
use lib.ListN.{length, get_or}
use lib.Dec.{eqb}
use borrow.Author.Tests.{leb-true, lt-leb, ne_eqb, not-true}
use Rattle.base_lists.proofs.Bools.{by, cond_both, and_left}
use Rattle.rules.specs.Text.{bytes, within, every, same, is, begins, ◌unless◌, lower, lowest}
use Rattle.rules.specs.Names.{names_refusal}
use Rattle.rules.specs.Tokens.{is_text, word, name, as_is, Token, token, token_at, single, tokens_of, operands, tokens_refusal}
use Rattle.rules.specs.Lines.{Chars, is_sign, sign_refusal, sign_set}
use Rattle.rules.specs.State.{before_categories, in_other_category, State, with_chars, in_phase, is_outside, in_collate, Outcome, gives}
use Rattle.rules.specs.Conditionals.{is_unused}
use Rattle.rules.specs.Source.{is_capital, category_line, sign_line, outside_line, token_line, whole_line, line_outcome}
use Rattle.rules.proofs.TextLaws.{same_true}
use Rattle.text_operands.proofs.FirstLaws.{starts}
use Rattle.text_tokens.proofs.RefusalLaws.{three-last}
use Rattle.text_operands.proofs.LateLaws.{Late, late-lower, late-unless, late-tokens, two-first}
use Rattle.text_specials.specs.Signed.{keyword}
use Rattle.locale_outside.specs.Outside.{is_category, opened_by}
use Rattle.locale_outside.proofs.OperandLaws.{is_no_word}

-- ## Refusals of 3 and above

three-unless : (t : Bool) → lower 3 (3 unless t) ≡ 3
unfolding lower
three-unless true = refl
three-unless false = refl

-- what a line that sets one of the two characters asks of its operands
abbrev pub sign_test : Chars → Bool → List Token → Bool
sign_test h isComment ts =
    single as_is ts && is_sign (get_or (token_at ts 0).text 0 0)
    && not (if isComment then h.comment_set else h.escape_set)
    && not (eqb (get_or (token_at ts 0).text 0 0) (if isComment then h.escape else h.comment))

pub sign-three : (h : Chars) (isComment : Bool) (ts : List Token) → sign_refusal h isComment ts ≡ (3 unless sign_test h isComment ts)
unfolding sign_refusal
sign-three h isComment ts = refl

-- ## Tokens that give no refusal

-- a word alone
pub word-alone : (w : List ℕ) → tokens_refusal (token word w [] ∷ []) ≡ 0
unfolding tokens_refusal names_refusal lowest lower
word-alone w = refl

-- a keyword and a byte as it stands
pub keyword-operand : (comment : Bool) (c : ℕ) → tokens_refusal (token word (keyword comment) [] ∷ token as_is (c ∷ []) [] ∷ []) ≡ 0
unfolding tokens_refusal names_refusal lowest lower
keyword-operand comment c = refl

-- ## Three tests and one more

after-three : (a b c d : Bool) → (a && b && c) ≡ false → (a && b && c && d) ≡ false
after-three true true true d h = absurd (false≢true (sym h))
after-three true true false d h = refl
after-three true false c d h = refl
after-three false b c d h = refl

three-then : (a b c d : Bool) → (a && b && c) ≡ true → (a && b && c && d) ≡ d
three-then true true true d h = refl
three-then true true false d h = absurd (false≢true h)
three-then true false c d h = absurd (false≢true h)
three-then false b c d h = absurd (false≢true h)

-- ## Where the line stands

module _ (s : State) (o : is_outside s ≡ true) where
  in-no-collate : in_collate s ≡ false
  in-no-collate = let h = leb-true s.place.phase 1 o in lt-leb 3 s.place.phase (omega arith)

  in-no-other : in_phase in_other_category s ≡ false
  in-no-other = let h = leb-true s.place.phase 1 o in ne_eqb s.place.phase 2 (λ e. omega arith)

  -- with no chain open it is read whole
  pub read_whole : (number : ℕ) (marks : List ℕ) → s.blocks.chains ≡ [] → line_outcome s number marks ≡ whole_line s number marks
  unfolding line_outcome
  read_whole number marks c =
      let u : is_unused s ≡ false = rw c in
      rw (in-no-other, u)

  -- ### Its refusals

  late-sign : (isComment : Bool) (ts : List Token) → Late (sign_line s isComment ts).refusal
  unfolding sign_line
  late-sign isComment ts =
      late-lower (3 unless in_phase before_categories s) (sign_refusal s.chars isComment ts) (late-unless (in_phase before_categories s))
      (rw (sign-three s.chars isComment ts) (late-unless (sign_test s.chars isComment ts)))

  late-category : (w : List ℕ) (ts : List Token) → Late (category_line s w ts).refusal
  unfolding category_line
  late-category w ts =
      late-unless
      (eqb (length ts) 0 && begins (bytes "LC_") w && within 4 32 (length w) && every is_capital w && not (is w "LC_COLLATE" && s.place.collated))

  late-outside : (w : List ℕ) (ts : List Token) → Late (outside_line s w ts).refusal
  unfolding outside_line
  late-outside w ts =
      let P : Outcome → Type 0 = λ x. Late x.refusal in
      cond_both P (is w "comment_char") (late-sign true ts) (cond_both P (is w "escape_char") (late-sign false ts) (late-category w ts))

  late-line : (number : ℕ) (ts : List Token) → Late (token_line s number ts).refusal
  unfolding token_line
  late-line number [] = late-unless true
  late-line number (t ∷ ts) =
      let P : Outcome → Type 0 = λ x. Late x.refusal in
      rw (in-no-collate, and-false (eqb t.kind name))
      (late-lower (tokens_refusal (t ∷ operands ts)) _ (late-tokens (t ∷ operands ts))
      (cond_both P (eqb t.kind word) (late-outside t.text (operands ts)) (late-unless false)))

  module _ (number : ℕ) (marks : List ℕ) where
    -- a byte that is no text
    pub line-foul : every is_text marks ≡ false → (whole_line s number marks).refusal ≡ 2
    unfolding whole_line
    line-foul t = rw t (two-first (token_line s number (tokens_of marks)).refusal (late-line number (tokens_of marks)))

    pub line_clean : every is_text marks ≡ true → whole_line s number marks ≡ token_line s number (tokens_of marks)
    unfolding whole_line lower
    line_clean t = rw t

  -- ### No token, and none that is a word

  pub line-none : (number : ℕ) → token_line s number [] ≡ gives 0 s
  unfolding token_line
  line-none number = refl

  pub line-no-word : (number : ℕ) (ts : List Token) → starts is_no_word ts ≡ true → (token_line s number ts).refusal ≡ 3
  unfolding token_line starts
  line-no-word number [] h = absurd (false≢true h)
  line-no-word number (t ∷ ts) h =
      rw (not-true (eqb t.kind word) h, in-no-collate, and-false (eqb t.kind name)) (three-last (t ∷ operands ts))

  -- ### A word and its operands

  module _ (number : ℕ) (w : List ℕ) (ts : List Token) where
    pub line_word : token_line s number (token word w [] ∷ ts)
        ≡ gives (lower (tokens_refusal (token word w [] ∷ operands ts)) (outside_line s w (operands ts)).refusal) (outside_line s w (operands ts)).state
    unfolding token_line
    line_word = rw in-no-collate

    pub word-refused : (outside_line s w (operands ts)).refusal ≡ 3 → (token_line s number (token word w [] ∷ ts)).refusal ≡ 3
    word-refused e = ap (λ (x : Outcome). x.refusal) line_word ∙ rw e (three-last (token word w [] ∷ operands ts))

    pub word-accepted : {t : State} → tokens_refusal (token word w [] ∷ operands ts) ≡ 0 → outside_line s w (operands ts) ≡ gives 0 t
        → token_line s number (token word w [] ∷ ts) ≡ gives 0 t
    unfolding lower
    word-accepted e f = line_word ∙ rw (e, f)

  -- ### A category's line

  module _ (w : List ℕ) (ts : List Token) where
    -- its operands are not one byte as it stands
    no_sign : single as_is ts ≡ false → (isComment : Bool) → (sign_line s isComment ts).refusal ≡ 3
    unfolding sign_line sign_refusal Late
    no_sign h isComment = rw h (late-unless (in_phase before_categories s))

    pub outside-refused : single as_is ts ≡ false → (category_line s w ts).refusal ≡ 3 → (outside_line s w ts).refusal ≡ 3
    unfolding outside_line
    outside-refused h e =
        let P : Outcome → Type 0 = λ x. x.refusal ≡ 3 in
        cond_both P (is w "comment_char") (no_sign h true) (cond_both P (is w "escape_char") (no_sign h false) e)

    pub category-operands : eqb (length ts) 0 ≡ false → (category_line s w ts).refusal ≡ 3
    unfolding category_line
    category-operands h = rw h

  module _ (w : List ℕ) where
    pub category-other-word : is_category w ≡ false → (category_line s w []).refusal ≡ 3
    unfolding category_line is_category
    category-other-word h =
        rw (after-three (begins (bytes "LC_") w) (within 4 32 (length w)) (every is_capital w) (not (is w "LC_COLLATE" && s.place.collated)) h)

    pub category-again : is_category w ≡ true → (is w "LC_COLLATE" && s.place.collated) ≡ true → (category_line s w []).refusal ≡ 3
    unfolding category_line is_category
    category-again h k =
        rw (three-then (begins (bytes "LC_") w) (within 4 32 (length w)) (every is_capital w) (not (is w "LC_COLLATE" && s.place.collated)) h, k)

    category-first : is_category w ≡ true → (is w "LC_COLLATE" && s.place.collated) ≡ false → category_line s w [] ≡ gives 0 (opened_by (is w "LC_COLLATE") w s)
    unfolding category_line is_category
    category-first h k =
        rw (three-then (begins (bytes "LC_") w) (within 4 32 (length w)) (every is_capital w) (not (is w "LC_COLLATE" && s.place.collated)) h, k)

    -- a category's word is no keyword
    no-keyword : is_category w ≡ true → (comment : Bool) → same w (keyword comment) ≡ false
    unfolding is_category begins bytes
    no-keyword h comment =
        by (same w (keyword comment))
        (λ t. let b = and_left (begins (bytes "LC_") w) (within 4 32 (length w))
        (and_left (begins (bytes "LC_") w && within 4 32 (length w)) (every is_capital w) h) in go comment (rw (same_true w (keyword comment) t) at b))
        (λ t. t)
      where
        go : (k : Bool) → begins (bytes "LC_") (keyword k) ≡ true → same w (keyword comment) ≡ false
        go true z = absurd (false≢true z)
        go false z = absurd (false≢true z)

    pub category-opens : is_category w ≡ true → (is w "LC_COLLATE" && s.place.collated) ≡ false → outside_line s w [] ≡ gives 0 (opened_by (is w "LC_COLLATE") w s)
    unfolding outside_line is
    category-opens h k = rw (no-keyword h true, no-keyword h false) (category-first h k)

  -- ### A line that sets one of the two characters

  pub outside-sign : (comment : Bool) (ts : List Token) → outside_line s (keyword comment) ts ≡ sign_line s comment ts
  unfolding outside_line is same bytes
  outside-sign true ts = refl
  outside-sign false ts = refl

  module _ (comment : Bool) (ts : List Token) where
    pub sign-not-one : single as_is ts ≡ false → (sign_line s comment ts).refusal ≡ 3
    sign-not-one h = no_sign [] ts h comment

    pub sign-late : in_phase before_categories s ≡ false → (sign_line s comment ts).refusal ≡ 3
    unfolding sign_line
    sign-late h = rw (h, sign-three s.chars comment ts) (three-unless (sign_test s.chars comment ts))

    pub sign-refused : sign_refusal s.chars comment ts ≡ 3 → (sign_line s comment ts).refusal ≡ 3
    unfolding sign_line Late
    sign-refused h = rw h (late-unless (in_phase before_categories s))

    pub sign_set_lem : in_phase before_categories s ≡ true → sign_refusal s.chars comment ts ≡ 0
        → sign_line s comment ts ≡ gives 0 (with_chars s (sign_set s.chars comment ts))
    unfolding sign_line lower
    sign_set_lem h k = rw (h, k)
