-- What holds of every token that can be made holds of all tokens of marks (Rattle.rules.specs.Tokens).
use mathlib.Core.Path.{◌≡◌, refl}
use mathlib.Core.Bool.{Bool, true, not, ◌||◌}
use mathlib.Core.List.{List, [], ◌∷◌, ◌++◌}
use Prim.Native.Nat.{ℕ, ◌-◌, ◌≤◌}
use native.Mathlib.Omega.{arith}
use lib.ListN.{length, length-append}
use lib.Dec.{eqb, leb}
use borrow.Author.Tests.{le-leb, leb-true}
use Rattle.base_lists.proofs.Bools.{by, cond_both, and_intro}
use Rattle.rules.specs.Text.{every}
use Rattle.rules.specs.Names.{is_blank}
use Rattle.rules.specs.Tokens.{gap, semi, comma, broken, word, name, quote, as_is, Token, token, no_part, Lexed, lex_none, quoted_part, in_word, lex, lex_end, tokens_from}
use Rattle.rules.proofs.TextLaws.{every-both}

-- It holds of each kind of token. A word has a byte; a name or quotes that the line leaves open are broken, with none.
pub record OfEach (Q : Token → Bool) : Type 0 where
  pub gaps : Q (token gap [] []) ≡ true
  pub semis : Q (token semi [] []) ≡ true
  pub commas : Q (token comma [] []) ≡ true
  pub unended : Q (token broken [] []) ≡ true
  pub pairs : (b : ℕ) → Q (token broken (b ∷ []) []) ≡ true
  pub taken : (b : ℕ) → Q (token as_is (b ∷ []) []) ≡ true
  pub words : (t : List ℕ) → 1 ≤ length t → Q (token word t []) ≡ true
  pub names : (n : List ℕ) → Q (token name [] (n ∷ [])) ≡ true
  pub quotes : (ns : List (List ℕ)) → Q (token quote [] ns) ≡ true

module _ (Q : Token → Bool) (k : OfEach Q) where
  -- it holds of the tokens that are read, and a word that is being read has a byte
  Read : Lexed → Type 0
  Read l = (every Q l.out ≡ true) × ((not (eqb l.part word) || leb 1 (length l.text)) ≡ true)

  one_more : (o : List Token) (t : Token) → every Q o ≡ true → Q t ≡ true → every Q (o ++ t ∷ []) ≡ true
  unfolding every
  one_more o t h q = every-both Q o (t ∷ []) h (and_intro q refl)

  none_open : (o : List Token) (t : Token) → every Q o ≡ true → Q t ≡ true → Read (no_part (o ++ t ∷ []))
  unfolding Read
  none_open o t h q = (one_more o t h q, refl)

  read_none : (o : List Token) (m : ℕ) → every Q o ≡ true → Read (lex_none o m)
  unfolding lex_none Read
  read_none o m h =
      cond_both Read (is_blank m) (none_open o (token gap [] []) h k.gaps)
      (cond_both Read (eqb m 59) (none_open o (token semi [] []) h k.semis)
      (cond_both Read (eqb m 44) (none_open o (token comma [] []) h k.commas)
      (cond_both Read (eqb m 60) (h, refl)
      (cond_both Read (eqb m 34) (h, refl)
      (cond_both Read (leb 512 m) (none_open o (token broken ((m - 512) ∷ []) []) h (k.pairs (m - 512)))
      (cond_both Read (leb 256 m) (none_open o (token as_is ((m - 256) ∷ []) []) h (k.taken (m - 256))) (h, refl)))))))

  snoc-byte : (t : List ℕ) (m : ℕ) → leb 1 (length (t ++ m ∷ [])) ≡ true
  snoc-byte t m = le-leb 1 (length (t ++ m ∷ [])) (let e = length-append t (m ∷ []) in omega arith)

  -- the word that is being read
  word_read : (l : Lexed) → Read l → eqb l.part word ≡ true → Q (token word l.text []) ≡ true
  unfolding Read
  word_read l h e = k.words l.text (leb-true 1 (length l.text) (rw e at h).1)

  read-lex : (l : Lexed) (m : ℕ) → Read l → Read (lex l m)
  unfolding lex Read
  read-lex l m h =
      by (eqb l.part word)
      (λ e. rw e
      (cond_both Read (in_word m) (h.0, snoc-byte l.text m) (read_none (l.out ++ token word l.text [] ∷ []) m (one_more l.out (token word l.text []) h.0 (word_read l h e)))))
      (λ e. rw e
      (cond_both Read (eqb l.part name) (cond_both Read (eqb m 62) (none_open l.out (token name [] (l.text ∷ [])) h.0 (k.names l.text)) (h.0, refl))
      (cond_both Read (eqb l.part quote)
      (cond_both Read (eqb m 34) (none_open l.out (token quote [] l.names) h.0 (k.quotes l.names))
      (cond_both Read (eqb m 60) (h.0, refl) (one_more l.out (token broken [] []) h.0 k.unended, refl)))
      (cond_both Read (eqb l.part quoted_part) (cond_both Read (eqb m 62) (h.0, refl) (h.0, refl)) (read_none l.out m h.0)))))

  read-end : (l : Lexed) → Read l → every Q (lex_end l) ≡ true
  unfolding lex_end Read
  read-end l h =
      by (eqb l.part gap) (λ e. rw e h.0) (λ e.
      by (eqb l.part word)
      (λ f. rw (e, f) (one_more l.out (token word l.text []) h.0 (word_read l h f)))
      (λ f. rw (e, f) (one_more l.out (token broken [] []) h.0 k.unended)))

  read-from : (l : Lexed) (ms : List ℕ) → Read l → every Q (tokens_from l ms) ≡ true
  unfolding tokens_from
  read-from l [] h = read-end l h
  read-from l (m ∷ ms) h = read-from (lex l m) ms (read-lex l m h)

  pub each-token : (ms : List ℕ) → every Q (tokens_from (no_part []) ms) ≡ true
  unfolding Read every
  each-token ms = read-from (no_part []) ms (refl, refl)
