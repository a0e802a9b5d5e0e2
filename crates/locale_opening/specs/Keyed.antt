-- Which keyword a word is: the first words that the paper's collate_line tells apart (Rattle.rules.specs.Source).
use Rattle.std.specs.Prelude.{◌≡◌, false, List, ℕ}
use Rattle.rules.specs.Text.{bytes, is}
use Rattle.locale_opening.specs.declared.Keyword.{Keyword}
use Rattle.locale_opening.specs.declared.Keyword.TheVariants as key

-- The word is none of a conditional's.
pub record NotConditional (w : List ℕ) : Type 0 where
  pub no-define : is w "define" ≡ false
  pub no-undef : is w "undef" ≡ false
  pub no-ifdef : is w "ifdef" ≡ false
  pub no-ifndef : is w "ifndef" ≡ false
  pub no-elif : is w "elif" ≡ false
  pub no-else : is w "else" ≡ false
  pub no-endif : is w "endif" ≡ false

-- It is none of the others.
pub record NotLater (w : List ℕ) : Type 0 where
  pub no-symbol : is w "collating-symbol" ≡ false
  pub no-element : is w "collating-element" ≡ false
  pub no-order-start : is w "order_start" ≡ false
  pub no-order-end : is w "order_end" ≡ false
  pub no-undefined : is w "UNDEFINED" ≡ false
  pub no-reorder-after : is w "reorder-after" ≡ false
  pub no-reorder-end : is w "reorder-end" ≡ false
  pub no_end : is w "END" ≡ false

-- The word is no keyword.
pub record NoKeyword (w : List ℕ) : Type 0 where
  pub conditional : NotConditional w
  pub later : NotLater w

-- which keyword a word is
abbrev pub KeywordIs : List ℕ → Keyword → Type 0
KeywordIs w key.Define = w ≡ bytes "define"
KeywordIs w key.Undef = w ≡ bytes "undef"
KeywordIs w key.Ifdef = w ≡ bytes "ifdef"
KeywordIs w key.Ifndef = w ≡ bytes "ifndef"
KeywordIs w key.Elif = w ≡ bytes "elif"
KeywordIs w key.Else = w ≡ bytes "else"
KeywordIs w key.Endif = w ≡ bytes "endif"
KeywordIs w key.Symbol = w ≡ bytes "collating-symbol"
KeywordIs w key.Element = w ≡ bytes "collating-element"
KeywordIs w key.OrderStart = w ≡ bytes "order_start"
KeywordIs w key.OrderEnd = w ≡ bytes "order_end"
KeywordIs w key.Undefined = w ≡ bytes "UNDEFINED"
KeywordIs w key.ReorderAfter = w ≡ bytes "reorder-after"
KeywordIs w key.ReorderEnd = w ≡ bytes "reorder-end"
KeywordIs w key.End = w ≡ bytes "END"
KeywordIs w key.Other = NoKeyword w

-- which of those that are no conditional's
abbrev pub LaterIs : List ℕ → Keyword → Type 0
LaterIs w key.Define = ⊥
LaterIs w key.Undef = ⊥
LaterIs w key.Ifdef = ⊥
LaterIs w key.Ifndef = ⊥
LaterIs w key.Elif = ⊥
LaterIs w key.Else = ⊥
LaterIs w key.Endif = ⊥
LaterIs w key.Symbol = w ≡ bytes "collating-symbol"
LaterIs w key.Element = w ≡ bytes "collating-element"
LaterIs w key.OrderStart = w ≡ bytes "order_start"
LaterIs w key.OrderEnd = w ≡ bytes "order_end"
LaterIs w key.Undefined = w ≡ bytes "UNDEFINED"
LaterIs w key.ReorderAfter = w ≡ bytes "reorder-after"
LaterIs w key.ReorderEnd = w ≡ bytes "reorder-end"
LaterIs w key.End = w ≡ bytes "END"
LaterIs w key.Other = NotLater w
