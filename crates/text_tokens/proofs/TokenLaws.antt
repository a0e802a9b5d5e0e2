-- From marks to tokens in the middle of a line (Rattle.rules.specs.Tokens): the tokens that are read before do not matter for those to
-- come (tokens_from-behind), and what each mark, and each word, name and pair of quotes, leaves to come.
use mathlib.Core.Path.{◌≡◌, refl, ap, ◌∙◌}
use mathlib.Core.Bool.{Bool, true, false, cond, not, ◌||◌, false≢true}
use mathlib.Core.List.{List, [], ◌∷◌, ◌++◌, append_assoc, append-nil}
use Prim.Native.Nat.{ℕ, ◌-◌, ◌%◌, ◌≤◌, ◌<◌}
use native.Mathlib.Omega.{arith}
use lib.Dec.{eqb, leb}
use borrow.Author.Tests.{ne_eqb, le-leb, lt-leb, leb-false, not-true}
use Rattle.base_lists.proofs.Bools.{by, or-false-left, or-false-right}
use Rattle.rules.specs.Text.{one_of}
use Rattle.rules.specs.Names.{is_blank}
use Rattle.rules.specs.Tokens.{gap, semi, comma, broken, word, name, quote, as_is, Token, token, Lexed, lexed, no_part, lex_none, quoted_part, in_word, lex, lex_end, tokens_from}
use Rattle.text_tokens.specs.Left.{word_in, after_word, is_close, name_in, after_name, names_from, names_in}

-- ## What is read before

-- what is read, with these tokens before it
abbrev behind : List Token → Lexed → Lexed
behind o l = lexed (o ++ l.out) l.part l.text l.names

-- The second is the first with these before it.
record Behind (o : List Token) (l k : Lexed) : Type 0 where
  is : k ≡ behind o l

behind-cond : {o : List Token} (t : Bool) {a b a' b' : Lexed} → Behind o a a' → Behind o b b' → Behind o (cond t a b) (cond t a' b')
behind-cond true e f = e
behind-cond false e f = f

module _ (o : List Token) where
  behind-token : (x : List Token) (t : Token) → Behind o (no_part (x ++ t ∷ [])) (no_part ((o ++ x) ++ t ∷ []))
  behind-token x t = record { is = rw append_assoc }

  same-behind : (x : List Token) (p : ℕ) (t : List ℕ) (ns : List (List ℕ)) → Behind o (lexed x p t ns) (lexed (o ++ x) p t ns)
  same-behind x p t ns = record { is = refl }

  none-behind : (x : List Token) (m : ℕ) → Behind o (lex_none x m) (lex_none (o ++ x) m)
  unfolding lex_none
  none-behind x m =
      behind-cond (is_blank m) (behind-token x (token gap [] []))
      (behind-cond (eqb m 59) (behind-token x (token semi [] []))
      (behind-cond (eqb m 44) (behind-token x (token comma [] []))
      (behind-cond (eqb m 60) (same-behind x name [] [])
      (behind-cond (eqb m 34) (same-behind x quote [] [])
      (behind-cond (leb 512 m) (behind-token x (token broken ((m - 512) ∷ []) []))
      (behind-cond (leb 256 m) (behind-token x (token as_is ((m - 256) ∷ []) [])) (same-behind x word (m ∷ []) [])))))))

  lex-behind : (l : Lexed) (m : ℕ) → Behind o (lex l m) (lex (behind o l) m)
  unfolding lex
  lex-behind l m =
      let x = l.out in
      behind-cond (eqb l.part word)
      (behind-cond (in_word m) (same-behind x word (l.text ++ m ∷ []) [])
      (rw (append_assoc o x (token word l.text [] ∷ [])) (none-behind (x ++ token word l.text [] ∷ []) m)))
      (behind-cond (eqb l.part name)
      (behind-cond (eqb m 62) (behind-token x (token name [] (l.text ∷ []))) (same-behind x name (l.text ++ m % 256 ∷ []) []))
      (behind-cond (eqb l.part quote)
      (behind-cond (eqb m 34) (behind-token x (token quote [] l.names))
      (behind-cond (eqb m 60) (same-behind x quoted_part [] l.names) (record { is = rw append_assoc })))
      (behind-cond (eqb l.part quoted_part)
      (behind-cond (eqb m 62) (same-behind x quote [] (l.names ++ l.text ∷ [])) (same-behind x quoted_part (l.text ++ m % 256 ∷ []) l.names))
      (none-behind x m))))

  end-behind : (l : Lexed) → lex_end (behind o l) ≡ o ++ lex_end l
  unfolding lex_end
  end-behind l =
      by (eqb l.part gap) (λ t. rw t) (λ t.
      by (eqb l.part word) (λ u. rw (t, u) (append_assoc o l.out (token word l.text [] ∷ [])))
      (λ u. rw (t, u) (append_assoc o l.out (token broken [] [] ∷ []))))

  -- the tokens that are read before stand before those to come
  pub tokens_from-behind : (l : Lexed) (ms : List ℕ) → tokens_from (behind o l) ms ≡ o ++ tokens_from l ms
  unfolding tokens_from
  tokens_from-behind l [] = end-behind l
  tokens_from-behind l (m ∷ ms) = rw (lex-behind l m).is (tokens_from-behind (lex l m) ms)

pub tokens_from-out : (o : List Token) (p : ℕ) (t : List ℕ) (ns : List (List ℕ)) (ms : List ℕ)
    → tokens_from (lexed o p t ns) ms ≡ o ++ tokens_from (lexed [] p t ns) ms
tokens_from-out o p t ns ms = rw append-nil at (tokens_from-behind o (lexed [] p t ns) ms)

-- ## A mark where no token is open

pub tokens_from-none : tokens_from (no_part []) [] ≡ []
unfolding tokens_from lex_end
tokens_from-none = refl

-- the tokens from a mark on, where none is open
none_first : (m : ℕ) (ms : List ℕ) → tokens_from (no_part []) (m ∷ ms) ≡ tokens_from (lex_none [] m) ms
unfolding tokens_from lex
none_first m ms = refl

-- a token that is whole stands before those to come
token-first : (t : Token) (m : ℕ) (ms : List ℕ) → lex_none [] m ≡ no_part (t ∷ []) → tokens_from (no_part []) (m ∷ ms) ≡ t ∷ tokens_from (no_part []) ms
token-first t m ms e = none_first m ms ∙ rw e (tokens_from-out (t ∷ []) gap [] [] ms)

module _ (m : ℕ) (ms : List ℕ) where
  pub first-gap : is_blank m ≡ true → tokens_from (no_part []) (m ∷ ms) ≡ token gap [] [] ∷ tokens_from (no_part []) ms
  unfolding lex_none
  first-gap b = token-first (token gap [] []) m ms (rw b)

  pub first-semi : m ≡ 59 → tokens_from (no_part []) (m ∷ ms) ≡ token semi [] [] ∷ tokens_from (no_part []) ms
  unfolding lex_none
  first-semi e = token-first (token semi [] []) m ms (rw e)

  pub first-comma : m ≡ 44 → tokens_from (no_part []) (m ∷ ms) ≡ token comma [] [] ∷ tokens_from (no_part []) ms
  unfolding lex_none
  first-comma e = token-first (token comma [] []) m ms (rw e)

  pub first-name : m ≡ 60 → tokens_from (no_part []) (m ∷ ms) ≡ tokens_from (lexed [] name [] []) ms
  unfolding lex_none
  first-name e = none_first m ms ∙ rw e

  pub first-quote : m ≡ 34 → tokens_from (no_part []) (m ∷ ms) ≡ tokens_from (lexed [] quote [] []) ms
  unfolding lex_none
  first-quote e = none_first m ms ∙ rw e

  pub first-dead : 512 ≤ m → tokens_from (no_part []) (m ∷ ms) ≡ token broken ((m - 512) ∷ []) [] ∷ tokens_from (no_part []) ms
  unfolding lex_none
  first-dead h =
      token-first (token broken ((m - 512) ∷ []) []) m ms
      (simp (
        ne_eqb m 32 (λ e. omega arith),
        ne_eqb m 9 (λ e. omega arith),
        ne_eqb m 59 (λ e. omega arith),
        ne_eqb m 44 (λ e. omega arith),
        ne_eqb m 60 (λ e. omega arith),
        ne_eqb m 34 (λ e. omega arith),
        le-leb 512 m h,
      ))

  -- a byte that is taken as it stands
  pub first-as-is : 256 ≤ m → m < 512 → tokens_from (no_part []) (m ∷ ms) ≡ token as_is ((m - 256) ∷ []) [] ∷ tokens_from (no_part []) ms
  unfolding lex_none
  first-as-is h l =
      token-first (token as_is ((m - 256) ∷ []) []) m ms
      (simp (
        ne_eqb m 32 (λ e. omega arith),
        ne_eqb m 9 (λ e. omega arith),
        ne_eqb m 59 (λ e. omega arith),
        ne_eqb m 44 (λ e. omega arith),
        ne_eqb m 60 (λ e. omega arith),
        ne_eqb m 34 (λ e. omega arith),
        lt-leb 512 m l,
        le-leb 256 m h,
      ))

-- ## Words

-- none of six
none_of : (a b c d e f : Bool) → not (a || b || c || d || e || f) ≡ true
    → (a ≡ false) × (b ≡ false) × (c ≡ false) × (d ≡ false) × (e ≡ false) × (f ≡ false)
none_of a b c d e f h =
    let h₅ = not-true (a || b || c || d || e || f) h in
    let h₄ = or-false-left (a || b || c || d || e) f h₅ in
    let h₃ = or-false-left (a || b || c || d) e h₄ in
    let h₂ = or-false-left (a || b || c) d h₃ in
    let h₁ = or-false-left (a || b) c h₂ in (
      or-false-left a b h₁,
      or-false-right a b h₁,
      or-false-right (a || b) c h₂,
      or-false-right (a || b || c) d h₃,
      or-false-right (a || b || c || d) e h₄,
      or-false-right (a || b || c || d || e) f h₅,
    )

-- What a mark of a word is not.
pub record WordMark (m : ℕ) : Type 0 where
  pub blank : is_blank m ≡ false
  pub semi : eqb m 59 ≡ false
  pub comma : eqb m 44 ≡ false
  pub name : eqb m 60 ≡ false
  pub quote : eqb m 34 ≡ false
  pub small : m < 256

pub in-word : (m : ℕ) → in_word m ≡ true → WordMark m
in-word m h =
    let f = none_of (is_blank m) (eqb m 59) (eqb m 44) (eqb m 60) (eqb m 34) (leb 256 m) h in
    record { blank = f.0; semi = f.1; comma = f.2; name = f.3; quote = f.4; small = leb-false 256 m f.5 }

pub first-word : (m : ℕ) (ms : List ℕ) → in_word m ≡ true → tokens_from (no_part []) (m ∷ ms) ≡ tokens_from (lexed [] word (m ∷ []) []) ms
unfolding lex_none
first-word m ms h =
    let w = in-word m h in
    none_first m ms
    ∙ ap (λ (l : Lexed). tokens_from l ms)
    (rw (w.blank, w.semi, w.comma, w.name, w.quote, lt-leb 512 m (omega (arith, w.small)), lt-leb 256 m w.small))

-- a word that is being read ends with the bytes that go on with it
pub word-whole : (t : List ℕ) (ms : List ℕ) → tokens_from (lexed [] word t []) ms ≡ token word (t ++ word_in ms) [] ∷ tokens_from (no_part []) (after_word ms)
unfolding tokens_from lex lex_end word_in after_word
word-whole t [] = rw append-nil
word-whole t (m ∷ ms) =
    by (in_word m) (λ h. rw h (word-whole (t ++ m ∷ []) ms ∙ rw (append_assoc t (m ∷ []) (word_in ms))))
    (λ h. rw (h, append-nil) (tokens_from-behind (token word t [] ∷ []) (no_part []) (m ∷ ms)))

-- ## Names

-- a name that is closed is a token of the bytes up to its `>`
pub name-closed : (t : List ℕ) (ms : List ℕ) → one_of is_close ms ≡ true
    → tokens_from (lexed [] name t []) ms ≡ token name [] ((t ++ name_in ms) ∷ []) ∷ tokens_from (no_part []) (after_name ms)
unfolding tokens_from lex one_of name_in after_name
name-closed t [] h = absurd (false≢true h)
name-closed t (m ∷ ms) h =
    by (is_close m) (λ e. rw (e, append-nil) (tokens_from-out (token name [] (t ∷ []) ∷ []) gap [] [] ms))
    (λ e. let k : one_of is_close ms ≡ true = rw e at h in
    rw e (name-closed (t ++ m % 256 ∷ []) ms k ∙ rw (append_assoc t (m % 256 ∷ []) (name_in ms))))

-- a name that the line leaves open is malformed
pub name-open : (t : List ℕ) (ms : List ℕ) → one_of is_close ms ≡ false → tokens_from (lexed [] name t []) ms ≡ token broken [] [] ∷ []
unfolding tokens_from lex lex_end one_of
name-open t [] h = refl
name-open t (m ∷ ms) h =
    let e = or-false-left (is_close m) (one_of is_close ms) h in
    rw e (name-open (t ++ m % 256 ∷ []) ms (or-false-right (is_close m) (one_of is_close ms) h))

-- ## Quotes

quoted-closed : (t : List ℕ) (ns : List (List ℕ)) (ms : List ℕ) → one_of is_close ms ≡ true
    → tokens_from (lexed [] quoted_part t ns) ms ≡ tokens_from (lexed [] quote [] (ns ++ (t ++ name_in ms) ∷ [])) (after_name ms)
unfolding tokens_from lex one_of name_in after_name
quoted-closed t ns [] h = absurd (false≢true h)
quoted-closed t ns (m ∷ ms) h =
    by (is_close m) (λ e. rw (e, append-nil))
    (λ e. let k : one_of is_close ms ≡ true = rw e at h in
    rw e (quoted-closed (t ++ m % 256 ∷ []) ns ms k ∙ rw (append_assoc t (m % 256 ∷ []) (name_in ms))))

quoted-open : (t : List ℕ) (ns : List (List ℕ)) (ms : List ℕ) → one_of is_close ms ≡ false → tokens_from (lexed [] quoted_part t ns) ms ≡ token broken [] [] ∷ []
unfolding tokens_from lex lex_end one_of
quoted-open t ns [] h = refl
quoted-open t ns (m ∷ ms) h =
    let e = or-false-left (is_close m) (one_of is_close ms) h in
    rw e (quoted-open (t ++ m % 256 ∷ []) ns ms (or-false-right (is_close m) (one_of is_close ms) h))

module _ (ns : List (List ℕ)) where
  pub quote-open : tokens_from (lexed [] quote [] ns) [] ≡ token broken [] [] ∷ []
  unfolding tokens_from lex_end
  quote-open = refl

  module _ (m : ℕ) (ms : List ℕ) where
    pub quote-close : m ≡ 34 → tokens_from (lexed [] quote [] ns) (m ∷ ms) ≡ token quote [] ns ∷ tokens_from (no_part []) ms
    unfolding tokens_from lex
    quote-close e = rw e (tokens_from-out (token quote [] ns ∷ []) gap [] [] ms)

    -- a name in quotes
    pub quote-name : m ≡ 60 → one_of is_close ms ≡ true → tokens_from (lexed [] quote [] ns) (m ∷ ms) ≡ tokens_from (lexed [] quote [] (ns ++ name_in ms ∷ [])) (after_name ms)
    unfolding tokens_from lex
    quote-name e h = rw e (quoted-closed [] ns ms h)

    pub quote-name-open : m ≡ 60 → one_of is_close ms ≡ false → tokens_from (lexed [] quote [] ns) (m ∷ ms) ≡ token broken [] [] ∷ []
    unfolding tokens_from lex
    quote-name-open e h = rw e (quoted-open [] ns ms h)

    -- a byte in quotes outside names
    pub quote-foul : (m ≡ 34 → ⊥) → (m ≡ 60 → ⊥) → tokens_from (lexed [] quote [] ns) (m ∷ ms) ≡ token broken [] [] ∷ tokens_from (lexed [] quote [] ns) ms
    unfolding tokens_from lex
    quote-foul h k = simp (ne_eqb m 34 h, ne_eqb m 60 k) (tokens_from-out (token broken [] [] ∷ []) quote [] ns ms)

-- the names in quotes after the one that is being passed over
names_from-after : (ms : List ℕ) → names_from true ms ≡ names_from false (after_name ms)
unfolding names_from after_name
names_from-after [] = refl
names_from-after (m ∷ ms) = by (is_close m) (λ e. rw e) (λ e. rw e (names_from-after ms))

module _ (m : ℕ) (ms : List ℕ) where
  pub names_in-close : m ≡ 34 → names_in (m ∷ ms) ≡ []
  unfolding names_from
  names_in-close e = rw e

  pub names_in-name : m ≡ 60 → names_in (m ∷ ms) ≡ name_in ms ∷ names_in (after_name ms)
  unfolding names_from
  names_in-name e = rw e (ap (λ (ns : List (List ℕ)). name_in ms ∷ ns) (names_from-after ms))
