-- A line's first token and its operands, as callers need them: the tokens of the line, its refusal, and what one operand is.
use mathlib.Core.Path.{◌≡◌, refl, ap, ◌∙◌}
use mathlib.Core.Bool.{Bool, true}
use mathlib.Core.List.{List, [], ◌∷◌}
use Prim.Native.Nat.{ℕ}
use Rattle.rules.specs.Text.{every, lower, lowest}
use Rattle.rules.specs.Names.{names_refusal}
use Rattle.rules.specs.Lines.{in_plain}
use Rattle.rules.specs.Tokens.{word, Token, token_at, single, tokens_of, operands, tokens_refusal}
use Rattle.base_units.specs.Numbers.{number_or_none}
use Rattle.text_lines.specs.declared.Signs.{Signs}
use Rattle.text_lines.specs.declared.Spot.{Spot}
use Rattle.text_lines.specs.Stream.{marks_left, line_start}
use Rattle.text_tokens.specs.declared.Tok.{Tok}
use Rattle.text_tokens.specs.Left.{tokens_left, token_there, word_in, TokenIs, Skips}
use Rattle.text_tokens.proofs.GapLaws.{tokens_of-left}
use Rattle.text_tokens.proofs.RefusalLaws.{tokens_refusal-cons}
use Rattle.text_operands.specs.Operand.{WordAlone}
use Rattle.text_operands.proofs.TidyLaws.{tidy}
use Rattle.text_operands.proofs.ListLaws.{nothing, line-refusal}
use Rattle.text_operands.proofs.NextLaws.{left-tidy}

-- ## The first token and what follows it

-- There is a first token, and of it and the operands one is malformed.
pub record FirstBroken (ts : List Token) : Type 0 where
  pub first : Token
  pub rest : List Token
  pub whole : ts ≡ first ∷ rest
  pub refusal : tokens_refusal (first ∷ operands rest) ≡ 3

first-broken : (ts : List Token) → every tidy ts ≡ true → tokens_refusal ts ≡ 3 → FirstBroken ts
first-broken [] h e = absurd (nothing e)
first-broken (t ∷ ts) h e = record { first = t; rest = ts; whole = refl; refusal = line-refusal t ts h e }

-- a spot of its parts
abbrev spot_of : ℕ → ℕ → Bool → Spot
spot_of at mode fresh = record { at = at; mode = mode; fresh = fresh }

module _ (g : Signs) (src : List ℕ) (p : Spot) {q : Spot} (v : Skips g src p q) where
  -- from the first spot of the line on, after the blanks that open it
  pub line-tokens : {t : Tok} → TokenIs g src q t → tokens_of (marks_left g src p) ≡ token_there g src q ∷ tokens_left g src t.next
  line-tokens w = tokens_of-left v ∙ w.first

  -- where one is malformed there is a first one, and the refusal of it and the operands is 3
  pub line-broken : tokens_refusal (tokens_left g src q) ≡ 3 → FirstBroken (tokens_of (marks_left g src p))
  line-broken h = first-broken (tokens_of (marks_left g src p)) (ap (λ (ts : List Token). every tidy ts) (tokens_of-left v) ∙ left-tidy g src q) (ap tokens_refusal (tokens_of-left v) ∙ h)

-- the refusal of a first token and the operands
pub line-lowest : (g : Signs) (src : List ℕ) (q : Spot) {t : Tok} (os : List Token) → TokenIs g src q t
    → tokens_refusal (token_there g src q ∷ os) ≡ lower (number_or_none t.refusal) (tokens_refusal os)
line-lowest g src q os w = tokens_refusal-cons (token_there g src q) os ∙ ap (λ (r : ℕ). lower r (tokens_refusal os)) w.refusal

-- a spot where a comment may open, outside names and quotes, is that of a line's start
pub spot-start : (q : Spot) → q.mode ≡ in_plain → q.fresh ≡ true → q ≡ line_start q.at
spot-start q m f =
    ap (λ (x : ℕ). spot_of q.at x q.fresh) m ∙ ap (λ (x : Bool). spot_of q.at in_plain x) f

-- ## One operand

module _ {g : Signs} {src : List ℕ} {os : List Token} {q : Spot} where
  pub word-single : WordAlone g src os q → single word os ≡ true
  word-single v = rw v.alone

  pub word-text : WordAlone g src os q → (token_at os 0).text ≡ word_in (marks_left g src q)
  word-text v = rw v.alone

  pub word-unrefused : WordAlone g src os q → tokens_refusal os ≡ 0
  unfolding tokens_refusal names_refusal lowest lower
  word-unrefused v = rw v.alone
