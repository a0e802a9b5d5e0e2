-- A token that is no word has one byte of text at most (Rattle.rules.specs.Tokens), so a text of more is that of a word.
use mathlib.Core.Path.{◌≡◌, refl}
use mathlib.Core.Bool.{Bool, true, ◌||◌}
use mathlib.Core.List.{List, []}
use Prim.Native.Nat.{ℕ, ◌≤◌}
use native.Mathlib.Omega.{arith}
use lib.ListN.{length}
use lib.Dec.{eqb, leb}
use borrow.Author.Tests.{leb-true}
use Rattle.base_lists.proofs.Bools.{by}
use Rattle.rules.specs.Text.{every}
use Rattle.rules.specs.Tokens.{word, Token, no_part, tokens_from}
use Rattle.text_operands.proofs.EachLaws.{OfEach, each-token}

abbrev pub thin : Token → Bool
thin t = eqb t.kind word || leb (length t.text) 1

each-thin : OfEach thin
each-thin =
    record {
      gaps = refl;
      semis = refl;
      commas = refl;
      unended = refl;
      pairs = λ b. refl;
      taken = λ b. refl;
      words = λ t h. refl;
      names = λ n. refl;
      quotes = λ ns. refl;
    }

pub tokens-thin : (ms : List ℕ) → every thin (tokens_from (no_part []) ms) ≡ true
tokens-thin ms = each-token thin each-thin ms

-- a longer text is that of a word
pub thin-word : (t : Token) → thin t ≡ true → 2 ≤ length t.text → eqb t.kind word ≡ true
thin-word t h l =
    by (eqb t.kind word) (λ e. e)
    (λ e. let k = leb-true (length t.text) 1 (rw e at h) in absurd (omega arith))
