-- The tokens of marks are tidy: neither gaps nor words have names, and a word has a byte.
use Rattle.std.specs.Prelude.{if◌then◌else◌}
use mathlib.Core.Path.{◌≡◌, refl}
use mathlib.Core.Bool.{Bool, true, ◌&&◌}
use mathlib.Core.List.{List, []}
use Prim.Native.Nat.{ℕ}
use lib.ListN.{length}
use lib.Dec.{eqb, leb}
use borrow.Author.Tests.{le-leb}
use Rattle.base_lists.proofs.Bools.{and_intro}
use Rattle.rules.specs.Text.{every}
use Rattle.rules.specs.Tokens.{gap, word, Token, no_part, tokens_from}
use Rattle.text_operands.proofs.EachLaws.{OfEach, each-token}

-- a gap or a word has no names, and a word has a byte
abbrev pub tidy : Token → Bool
tidy t = if eqb t.kind gap then eqb (length t.names) 0 else if eqb t.kind word then leb 1 (length t.text) && eqb (length t.names) 0 else true

each-tidy : OfEach tidy
each-tidy =
    record {
      gaps = refl;
      semis = refl;
      commas = refl;
      unended = refl;
      pairs = λ b. refl;
      taken = λ b. refl;
      words = λ t h. and_intro (le-leb 1 (length t) h) refl;
      names = λ n. refl;
      quotes = λ ns. refl;
    }

pub tokens-tidy : (ms : List ℕ) → every tidy (tokens_from (no_part []) ms) ≡ true
tokens-tidy ms = each-token tidy each-tidy ms
