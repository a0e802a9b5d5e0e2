-- The words of a passed-over line from its runs (Rattle.rules.specs.Tokens.words_of): blanks before a word do not count, and a run is a word.
use borrow.Author.Tests.{ne_eqb}
use lib.Dec.{eqb}
use native.Mathlib.Omega.{arith}
use mathlib.Core.Path.{◌≡◌, refl, sym, ap, ◌∙◌}
use mathlib.Core.Bool.{Bool, true, false, ◌&&◌, and-false}
use mathlib.Core.List.{List, [], ◌∷◌, ◌++◌, append_assoc, append-nil, cons-ne-nil}
use Prim.Native.Nat.{ℕ, suc, ◌<◌}
use lib.ListN.{get_or, length}
use Rattle.base_lists.proofs.Bools.{by}
use Rattle.rules.specs.Names.{is_blank}
use Rattle.rules.specs.Tokens.{without_blanks, word_then, words_of}
use Rattle.text_tokens.specs.Left.{only_blanks}
use Rattle.locale_skips.specs.Words.{run_in, after_run, are_two}
use Rattle.rules.specs.Text.{same}
use Rattle.rules.proofs.TextLaws.{same_refl}

-- ## One mark

words-none : (w : List ℕ) → words_of w [] ≡ word_then w []
unfolding words_of
words-none w = refl

words-blank : (w : List ℕ) (m : ℕ) (ms : List ℕ) → is_blank m ≡ true → words_of w (m ∷ ms) ≡ word_then w (words_of [] ms)
unfolding words_of
words-blank w m ms t = rw t

words-solid : (w : List ℕ) (m : ℕ) (ms : List ℕ) → is_blank m ≡ false → words_of w (m ∷ ms) ≡ words_of (w ++ m ∷ []) ms
unfolding words_of
words-solid w m ms t = rw t

-- ## Words

-- blanks before the first word
words-without : (ms : List ℕ) → words_of [] (without_blanks ms) ≡ words_of [] ms
unfolding without_blanks
words-without [] = refl
words-without (m ∷ ms) = by (is_blank m) (λ t. rw t (words-without ms ∙ sym (words-blank [] m ms t))) (λ t. rw t)

-- a word that is begun goes on up to a blank
words-run : (w ms : List ℕ) → words_of w ms ≡ word_then (w ++ run_in ms) (words_of [] (after_run ms))
unfolding run_in after_run
words-run w [] = rw (append-nil, words-none w, words-none [])
words-run w (m ∷ ms) =
    by (is_blank m) (λ t. rw (t, append-nil) (words-blank w m ms t ∙ sym (ap (word_then w) (words-blank [] m ms t))))
    (λ t. rw t (words-solid w m ms t ∙ words-run (w ++ m ∷ []) ms ∙ rw (append_assoc w (m ∷ []) (run_in ms))))

-- the words are the run after the blanks, if it has a byte, and those after it
pub words-split : (ms : List ℕ) → words_of [] ms ≡ word_then (run_in (without_blanks ms)) (words_of [] (after_run (without_blanks ms)))
words-split ms = sym (words-without ms) ∙ words-run [] (without_blanks ms)

-- after no byte nothing comes
none_after : (ms : List ℕ) → run_in (without_blanks ms) ≡ [] → without_blanks ms ≡ []
unfolding run_in without_blanks
none_after [] e = refl
none_after (m ∷ ms) e =
    by (is_blank m) (λ t. rw t (none_after ms (rw t at e)))
    (λ t. let z : m ∷ run_in ms ≡ [] = rw (t, t) at e in absurd (cons-ne-nil m (run_in ms) z))

none-words : get_or (words_of [] (after_run [])) 0 [] ≡ []
unfolding words_of after_run
none-words = refl

-- the first word is the run after the blanks
pub first_run : (ms : List ℕ) → get_or (words_of [] ms) 0 [] ≡ run_in (without_blanks ms)
first_run ms = go (run_in (without_blanks ms)) refl
  where
    go : (r : List ℕ) → run_in (without_blanks ms) ≡ r → get_or (words_of [] ms) 0 [] ≡ run_in (without_blanks ms)
    go [] e = ap (λ (ws : List (List ℕ)). get_or ws 0 []) (words-split ms) ∙ rw (e, none_after ms e) (none-words)
    go (b ∷ r) e = ap (λ (ws : List (List ℕ)). get_or ws 0 []) (words-split ms) ∙ rw e

-- ## Two words

-- a word of a byte or more, and the words after it
word_first : (ms qs w : List ℕ) → 0 < length w → qs ≡ without_blanks ms → run_in qs ≡ w → words_of [] ms ≡ w ∷ words_of [] (after_run qs)
word_first ms qs [] h q e = absurd (omega arith)
word_first ms qs (b ∷ w) h q e = words-split ms ∙ rw (← q, e)

-- no words are left where only blanks are
words-end : (ms : List ℕ) → without_blanks ms ≡ [] → words_of [] ms ≡ []
words-end ms e = sym (words-without ms) ∙ rw (e, words-none [])

-- where more is left, so is a word
words_left_lem : (ms : List ℕ) → (without_blanks ms ≡ [] → ⊥) → length (words_of [] ms) ≡ 0 → ⊥
words_left_lem ms n z = go (run_in (without_blanks ms)) refl
  where
    go : (r : List ℕ) → run_in (without_blanks ms) ≡ r → ⊥
    go [] e = n (none_after ms e)
    go (b ∷ r) e =
        let w : words_of [] ms ≡ (b ∷ r) ∷ words_of [] (after_run (without_blanks ms)) = words-split ms ∙ rw e in
        let l = ap length w in
        omega arith

-- the marks without blanks, then after the first word, and so on
module _ (ms qs a b : List ℕ) (q : qs ≡ without_blanks ms) where
  -- the first word is another
  pub two-first : same (run_in qs) a ≡ false → false ≡ are_two (words_of [] ms) a b
  two-first h =
      sym (rw (first_run ms, ← q, h) (ap (λ (t : Bool). t && same (get_or (words_of [] ms) 1 []) b) (and-false (eqb (length (words_of [] ms)) 2))))

  module _ (h : 0 < length a) (e : run_in qs ≡ a) (rs ss : List ℕ) (r : rs ≡ after_run qs) (s : ss ≡ without_blanks rs) where
    words : words_of [] ms ≡ a ∷ words_of [] rs
    words = word_first ms qs a h q e ∙ rw r

    -- the second word is another
    pub two-second : same (run_in ss) b ≡ false → false ≡ are_two (words_of [] ms) a b
    two-second n = sym (rw (words, first_run rs, ← s, n) (and-false (eqb (suc (length (words_of [] rs))) 2 && same a a)))

    -- both are these, and whether others follow
    pub two_then : 0 < length b → run_in ss ≡ b → (ts : List ℕ) → ts ≡ after_run ss → only_blanks ts ≡ are_two (words_of [] ms) a b
    two_then k f ts u = go (without_blanks ts) refl
      where
        all : words_of [] ms ≡ a ∷ b ∷ words_of [] ts
        all = words ∙ ap (λ (ws : List (List ℕ)). a ∷ ws) (word_first rs ss b k s f ∙ rw u)

        go : (x : List ℕ) → without_blanks ts ≡ x → only_blanks ts ≡ are_two (words_of [] ms) a b
        go [] o = rw (o, all, words-end ts o, same_refl a, same_refl b)
        go (m ∷ x) o =
            let n : eqb (length (words_of [] ms)) 2 ≡ false =
            rw all (ne_eqb (suc (suc (length (words_of [] ts)))) 2 (λ z. words_left_lem ts (λ y. cons-ne-nil m x (sym o ∙ y)) (omega arith))) in
            rw (o, n)
