-- From marks to tokens in parts: marks that are an entry open one where a blank follows (blank-opens), and are none where any mark
-- follows (entry-ends).
use mathlib.Core.Path.{◌≡◌, refl, sym, ap, ◌∙◌}
use mathlib.Core.Bool.{true, false}
use mathlib.Core.List.{List, [], ◌∷◌, ◌++◌, append-nil}
use Prim.Native.Nat.{ℕ, ◌-◌, ◌%◌}
use native.Mathlib.Omega.{arith}
use lib.ListN.{length, length-append}
use lib.Dec.{eqb, leb}
use borrow.Author.Tests.{ne_eqb, eqb-true}
use Rattle.base_lists.proofs.Bools.{by, clash, and_left, cond_both}
use Rattle.rules.specs.Text.{every}
use Rattle.rules.specs.Names.{is_blank, is_any_hex}
use Rattle.rules.specs.Tokens.{gap, semi, comma, broken, word, name, quote, as_is, Token, token, Lexed, lexed, no_part, lex_none, quoted_part, in_word, lex, lex_end, tokens_from, without_blanks, tokens_of, is_entry}
use Rattle.text_lines.proofs.SignLaws.{blanks-append}
use Rattle.text_tokens.specs.Left.{word_in, after_word}
use Rattle.text_tokens.proofs.TokenLaws.{tokens_from-out, tokens_from-none, first-gap, word-whole}
use Rattle.charmap_entry.specs.Entered.{is_digits, opens_entry}
use Rattle.charmap_entry.proofs.ShapeLaws.{snoc-some, entry-gap, entry_more, entry-last, entry_other}

-- ## In parts

-- what is read after these marks
lex_all : Lexed → List ℕ → Lexed
lex_all l [] = l
lex_all l (m ∷ ms) = lex_all (lex l m) ms

tokens-then : (l : Lexed) (ms ns : List ℕ) → tokens_from l (ms ++ ns) ≡ tokens_from (lex_all l ms) ns
unfolding lex_all tokens_from
tokens-then l [] ns = refl
tokens-then l (m ∷ ms) ns = tokens-then (lex l m) ms ns

tokens-end : (l : Lexed) → tokens_from l [] ≡ lex_end l
unfolding tokens_from
tokens-end l = refl

-- ## A mark gives a token

Some : Lexed → Type 0
Some l = lex_end l ≡ [] → ⊥

some-whole : (o : List Token) (t : Token) → Some (no_part (o ++ t ∷ []))
unfolding Some lex_end
some-whole o t e = snoc-some o t e

some-part : (o : List Token) (p : ℕ) (t : List ℕ) (ns : List (List ℕ)) → (p ≡ gap → ⊥) → Some (lexed o p t ns)
unfolding Some lex_end
some-part o p t ns h e =
    by (eqb p word)
    (λ k. let z : o ++ token word t [] ∷ [] ≡ [] = rw (ne_eqb p gap h, k) at e in snoc-some o (token word t []) z)
    (λ k. let z : o ++ token broken [] [] ∷ [] ≡ [] = rw (ne_eqb p gap h, k) at e in snoc-some o (token broken [] []) z)

some-none : (o : List Token) (m : ℕ) → Some (lex_none o m)
unfolding lex_none
some-none o m =
    cond_both Some (is_blank m) (some-whole o (token gap [] []))
    (cond_both Some (eqb m 59) (some-whole o (token semi [] []))
    (cond_both Some (eqb m 44) (some-whole o (token comma [] []))
    (cond_both Some (eqb m 60) (some-part o name [] [] (λ e. omega arith))
    (cond_both Some (eqb m 34) (some-part o quote [] [] (λ e. omega arith))
    (cond_both Some (leb 512 m) (some-whole o (token broken ((m - 512) ∷ []) []))
    (cond_both Some (leb 256 m) (some-whole o (token as_is ((m - 256) ∷ []) [])) (some-part o word (m ∷ []) [] (λ e. omega arith))))))))

some-lex : (l : Lexed) (m : ℕ) → Some (lex l m)
unfolding lex
some-lex l m =
    let o = l.out in
    cond_both Some (eqb l.part word)
    (cond_both Some (in_word m) (some-part o word (l.text ++ m ∷ []) [] (λ e. omega arith)) (some-none (o ++ token word l.text [] ∷ []) m))
    (cond_both Some (eqb l.part name)
    (cond_both Some (eqb m 62) (some-whole o (token name [] (l.text ∷ []))) (some-part o name (l.text ++ m % 256 ∷ []) [] (λ e. omega arith)))
    (cond_both Some (eqb l.part quote)
    (cond_both Some (eqb m 34) (some-whole o (token quote [] l.names))
    (cond_both Some (eqb m 60) (some-part o quoted_part [] l.names (λ e. omega arith)) (some-part (o ++ token broken [] [] ∷ []) quote [] l.names (λ e. omega arith))))
    (cond_both Some (eqb l.part quoted_part)
    (cond_both Some (eqb m 62) (some-part o quote [] (l.names ++ l.text ∷ []) (λ e. omega arith)) (some-part o quoted_part (l.text ++ m % 256 ∷ []) l.names (λ e. omega arith)))
    (some-none o m))))

-- marks are not without tokens
pub tokens-some : (l : Lexed) (m : ℕ) (ms : List ℕ) → tokens_from l (m ∷ ms) ≡ [] → ⊥
unfolding tokens_from Some
tokens-some l m [] e = some-lex l m e
tokens-some l m (n ∷ ms) e = tokens-some (lex l m) n ms e

-- ## A mark after tokens

module _ (o : List Token) (t : List ℕ) (ns : List (List ℕ)) (m : ℕ) (ms : List ℕ) where
  none-next : tokens_from (lexed o gap t ns) (m ∷ ms) ≡ o ++ tokens_from (no_part []) (m ∷ ms)
  unfolding tokens_from lex
  none-next = tokens_from-out o gap [] [] (m ∷ ms)

  word_next : in_word m ≡ false → tokens_from (lexed o word t ns) (m ∷ ms) ≡ (o ++ token word t [] ∷ []) ++ tokens_from (no_part []) (m ∷ ms)
  unfolding tokens_from lex
  word_next h = rw h (tokens_from-out (o ++ token word t [] ∷ []) gap [] [] (m ∷ ms))

  word_on : in_word m ≡ true → tokens_from (lexed o word t ns) (m ∷ ms) ≡ o ++ token word ((t ++ m ∷ []) ++ word_in ms) [] ∷ tokens_from (no_part []) (after_word ms)
  unfolding tokens_from lex
  word_on h = rw h (tokens_from-out o word (t ++ m ∷ []) [] ms ∙ ap (λ (x : List Token). o ++ x) (word-whole (t ++ m ∷ []) ms))

-- a blank is no mark of a word
blank-out : (b : ℕ) → is_blank b ≡ true → in_word b ≡ false
blank-out b h = rw h

-- what is malformed is no digits, nor is a longer word
foul-digits : is_digits (token broken [] []) ≡ false
unfolding is_digits
foul-digits = refl

digits-two : (t : List ℕ) → is_digits (token word t []) ≡ true → length t ≡ 2
unfolding is_digits
digits-two t h = eqb-true (length t) 2 (and_left (eqb (length t) 2) (every is_any_hex t) h)

pub digits_long : (t : List ℕ) → (length t ≡ 2 → ⊥) → is_digits (token word t []) ≡ false
unfolding is_digits
digits_long t n = simp (ne_eqb (length t) 2 n)

-- the tokens of what is read, by its part
end_none : (o : List Token) (t : List ℕ) (ns : List (List ℕ)) → lex_end (lexed o gap t ns) ≡ o
unfolding lex_end
end_none o t ns = refl

end-word : (o : List Token) (t : List ℕ) (ns : List (List ℕ)) → lex_end (lexed o word t ns) ≡ o ++ token word t [] ∷ []
unfolding lex_end
end-word o t ns = refl

end-other : (o : List Token) (p : ℕ) (t : List ℕ) (ns : List (List ℕ)) → eqb p gap ≡ false → eqb p word ≡ false → lex_end (lexed o p t ns) ≡ o ++ token broken [] [] ∷ []
unfolding lex_end
end-other o p t ns g w = rw (g, w)

module _ (o : List Token) (t : List ℕ) (ns : List (List ℕ)) where
  -- a name or quotes that are open are no entry
  open_none : (p : ℕ) → eqb p gap ≡ false → eqb p word ≡ false → is_entry (lex_end (lexed o p t ns)) ≡ true → ⊥
  open_none p g w h = clash (entry-last o (token broken [] []) (sym (ap is_entry (end-other o p t ns g w)) ∙ h)) foul-digits

  next-blank : (p b : ℕ) (ms : List ℕ) → is_entry (lex_end (lexed o p t ns)) ≡ true → is_blank b ≡ true → opens_entry (tokens_from (lexed o p t ns) (b ∷ ms)) ≡ true
  next-blank p b ms h k =
      by (eqb p gap)
      (λ g. let e = eqb-true p gap g in
      let z : is_entry (lex_end (lexed o gap t ns)) ≡ true = rw e at h in
      rw (e, none-next o t ns b ms, first-gap b ms k) (entry-gap o (sym (ap is_entry (end_none o t ns)) ∙ z) (token gap [] []) (tokens_from (no_part []) ms) refl))
      (λ g. by (eqb p word)
      (λ w. let e = eqb-true p word w in
      let z : is_entry (lex_end (lexed o word t ns)) ≡ true = rw e at h in
      rw (e, word_next o t ns b ms (blank-out b k), first-gap b ms k)
      (entry-gap (o ++ token word t [] ∷ []) (sym (ap is_entry (end-word o t ns)) ∙ z) (token gap [] []) (tokens_from (no_part []) ms) refl))
      (λ w. absurd (open_none p g w h)))

  -- tokens behind an entry
  more : (ts us : List Token) → is_entry ts ≡ true → (us ≡ [] → ⊥) → is_entry (ts ++ us) ≡ false
  more ts [] h n = absurd (n refl)
  more ts (u ∷ us) h n = entry_more ts h u us

  next-mark : (p m : ℕ) (ms : List ℕ) → is_entry (lex_end (lexed o p t ns)) ≡ true → is_entry (tokens_from (lexed o p t ns) (m ∷ ms)) ≡ false
  next-mark p m ms h =
      by (eqb p gap)
      (λ g. let e = eqb-true p gap g in
      let z : is_entry (lex_end (lexed o gap t ns)) ≡ true = rw e at h in
      rw (e, none-next o t ns m ms) (more o (tokens_from (no_part []) (m ∷ ms)) (sym (ap is_entry (end_none o t ns)) ∙ z) (tokens-some (no_part []) m ms)))
      (λ g. by (eqb p word)
      (λ w. let e = eqb-true p word w in
      let z : is_entry (lex_end (lexed o word t ns)) ≡ true = rw e at h in
      let y : is_entry (o ++ token word t [] ∷ []) ≡ true = sym (ap is_entry (end-word o t ns)) ∙ z in
      by (in_word m)
      (λ i. let l = digits-two t (entry-last o (token word t []) y) in
      let a = length-append (t ++ m ∷ []) (word_in ms) in
      let b = length-append t (m ∷ []) in
      rw (e, word_on o t ns m ms i)
      (entry_other o (token word t []) y (token word ((t ++ m ∷ []) ++ word_in ms) []) (tokens_from (no_part []) (after_word ms))
      (digits_long ((t ++ m ∷ []) ++ word_in ms) (λ q. omega arith))))
      (λ i. rw (e, word_next o t ns m ms i) (more (o ++ token word t [] ∷ []) (tokens_from (no_part []) (m ∷ ms)) y (tokens-some (no_part []) m ms))))
      (λ w. absurd (open_none p g w h)))

-- ## Marks that are an entry

entry-none : is_entry [] ≡ false
unfolding is_entry
entry-none = refl

-- they are more than blanks
entry-some : (pre : List ℕ) → is_entry (tokens_of pre) ≡ true → without_blanks pre ≡ [] → ⊥
unfolding tokens_of
entry-some pre h e = let z : is_entry (tokens_from (no_part []) []) ≡ true = rw e at h in clash z (rw tokens_from-none entry-none)

-- what is read of them
read : List ℕ → Lexed
read pre = lex_all (no_part []) (without_blanks pre)

read-end : (pre : List ℕ) → tokens_of pre ≡ lex_end (read pre)
unfolding tokens_of read
read-end pre = rw append-nil at (tokens-then (no_part []) (without_blanks pre) []) ∙ tokens-end (lex_all (no_part []) (without_blanks pre))

read-then : (pre ms : List ℕ) → (without_blanks pre ≡ [] → ⊥) → tokens_of (pre ++ ms) ≡ tokens_from (read pre) ms
unfolding tokens_of read
read-then pre ms n = rw (blanks-append pre ms n) (tokens-then (no_part []) (without_blanks pre) ms)

module _ (pre : List ℕ) (h : is_entry (tokens_of pre) ≡ true) where
  whole : is_entry (lex_end (read pre)) ≡ true
  whole = sym (ap is_entry (read-end pre)) ∙ h

  -- a blank behind an entry: the tokens open with it
  pub blank-opens : (b : ℕ) (ms : List ℕ) → is_blank b ≡ true → opens_entry (tokens_of (pre ++ b ∷ ms)) ≡ true
  blank-opens b ms k =
      let l = read pre in
      ap opens_entry (read-then pre (b ∷ ms) (entry-some pre h)) ∙ next-blank l.out l.text l.names l.part b ms whole k

  -- any mark behind an entry: it is none
  pub entry-ends : (m : ℕ) (ms : List ℕ) → is_entry (tokens_of (pre ++ m ∷ ms)) ≡ false
  entry-ends m ms =
      let l = read pre in
      ap is_entry (read-then pre (m ∷ ms) (entry-some pre h)) ∙ next-mark l.out l.text l.names l.part m ms whole
