-- A word that is a keyword takes its branch of the paper's collate_line.
use mathlib.Core.Path.{◌≡◌, sym, ◌∙◌}
use mathlib.Core.Bool.{Bool, true, false}
use mathlib.Core.List.{List}
use Prim.Native.Nat.{ℕ}
use Prim.Native.String.{String}
use Rattle.rules.specs.Text.{bytes, same, is}
use Rattle.rules.specs.Tokens.{Token}
use Rattle.rules.specs.State.{State, gives}
use Rattle.rules.specs.Conditionals.{define_line, if_line, elif_line, else_line, endif_line}
use Rattle.rules.specs.Declarations.{symbol_line, element_line}
use Rattle.rules.specs.OrderLines.{order_start_line, reorder_after_line, reorder_end_line}
use Rattle.rules.specs.Source.{order_end_line, end_line, collate_line}
use Rattle.locale_opening.specs.declared.Keyword.{Keyword}
use Rattle.locale_opening.specs.declared.Keyword.TheVariants as key
use Rattle.locale_opening.specs.Keyed.{NotConditional, KeywordIs, LaterIs}

-- ## The comparison with a text

pub other_text : (text : String) (w : List ℕ) {t : Bool} → t ≡ same w (bytes text) → t ≡ false → is w text ≡ false
unfolding is
other_text text w e n = sym e ∙ n

-- ## The two halves

-- no conditional's word: what the later ones tell
pub later-keyword : (w : List ℕ) → NotConditional w → (k : Keyword) → LaterIs w k → KeywordIs w k
later-keyword w n key.Define h = absurd h
later-keyword w n key.Undef h = absurd h
later-keyword w n key.Ifdef h = absurd h
later-keyword w n key.Ifndef h = absurd h
later-keyword w n key.Elif h = absurd h
later-keyword w n key.Else h = absurd h
later-keyword w n key.Endif h = absurd h
later-keyword w n key.Symbol h = h
later-keyword w n key.Element h = h
later-keyword w n key.OrderStart h = h
later-keyword w n key.OrderEnd h = h
later-keyword w n key.Undefined h = h
later-keyword w n key.ReorderAfter h = h
later-keyword w n key.ReorderEnd h = h
later-keyword w n key.End h = h
later-keyword w n key.Other h = record { conditional = n; later = h }

-- ## The branches

module _ (s : State) (number : ℕ) (w : List ℕ) (ts : List Token) where
  pub at-define : KeywordIs w key.Define → collate_line s number w ts ≡ define_line s true ts
  unfolding collate_line is same bytes
  at-define e = rw e

  pub at-undef : KeywordIs w key.Undef → collate_line s number w ts ≡ define_line s false ts
  unfolding collate_line is same bytes
  at-undef e = rw e

  pub at-ifdef : KeywordIs w key.Ifdef → collate_line s number w ts ≡ if_line s true ts
  unfolding collate_line is same bytes
  at-ifdef e = rw e

  pub at-ifndef : KeywordIs w key.Ifndef → collate_line s number w ts ≡ if_line s false ts
  unfolding collate_line is same bytes
  at-ifndef e = rw e

  pub at-elif : KeywordIs w key.Elif → collate_line s number w ts ≡ elif_line s ts
  unfolding collate_line is same bytes
  at-elif e = rw e

  pub at-else : KeywordIs w key.Else → collate_line s number w ts ≡ else_line s ts
  unfolding collate_line is same bytes
  at-else e = rw e

  pub at-endif : KeywordIs w key.Endif → collate_line s number w ts ≡ endif_line s ts
  unfolding collate_line is same bytes
  at-endif e = rw e

  pub at_symbol : KeywordIs w key.Symbol → collate_line s number w ts ≡ symbol_line s ts
  unfolding collate_line is same bytes
  at_symbol e = rw e

  pub at-element : KeywordIs w key.Element → collate_line s number w ts ≡ element_line s ts
  unfolding collate_line is same bytes
  at-element e = rw e

  pub at-order-start : KeywordIs w key.OrderStart → collate_line s number w ts ≡ order_start_line s ts
  unfolding collate_line is same bytes
  at-order-start e = rw e

  pub at-order-end : KeywordIs w key.OrderEnd → collate_line s number w ts ≡ order_end_line s ts
  unfolding collate_line is same bytes
  at-order-end e = rw e

  pub at-reorder-after : KeywordIs w key.ReorderAfter → collate_line s number w ts ≡ reorder_after_line s ts
  unfolding collate_line is same bytes
  at-reorder-after e = rw e

  pub at-reorder-end : KeywordIs w key.ReorderEnd → collate_line s number w ts ≡ reorder_end_line s ts
  unfolding collate_line is same bytes
  at-reorder-end e = rw e

  pub at-end : KeywordIs w key.End → collate_line s number w ts ≡ end_line s ts
  unfolding collate_line is same bytes
  at-end e = rw e

  pub at_other : KeywordIs w key.Other → collate_line s number w ts ≡ gives 3 s
  unfolding collate_line
  at_other n =
      let c = n.conditional in
      let l = n.later in
      rw (
        c.no-define,
        c.no-undef,
        c.no-ifdef,
        c.no-ifndef,
        c.no-elif,
        c.no-else,
        c.no-endif,
        l.no-symbol,
        l.no-element,
        l.no-order-start,
        l.no-order-end,
        l.no-undefined,
        l.no-reorder-after,
        l.no-reorder-end,
        l.no_end,
      )
