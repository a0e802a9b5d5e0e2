-- The two characters in force as the paper has them (Rattle.rules.specs.Lines).
use Rattle.std.specs.Prelude.{Bool, not, List, [], ◌∷◌, ℕ, eqb}
use Rattle.rules.specs.Text.{bytes, every}
use Rattle.rules.specs.Tokens.{Token, token, as_is}
use Rattle.rules.specs.Lines as paper
use Rattle.text_specials.specs.declared.Chars.{Chars}

-- "other than .. one of `< > " ; , . _ -`"
unfoldable pub is_free : ℕ → Bool
is_free c = every (λ (x : ℕ). not (eqb x c)) (bytes "<>\";,._-")

abbrev pub chars_as : Chars → paper.Chars
chars_as h = record { comment = h.comment; escape = h.escape; comment_set = h.commented; escape_set = h.escaped }

-- the operands of a line that sets one of them to the byte c
abbrev pub operand : ℕ → List Token
operand c = token as_is (c ∷ []) [] ∷ []
