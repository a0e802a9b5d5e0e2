-- The dispatcher over a line's first word: what each function requires follows from the word, and what the others answer is the step.
use mathlib.Core.Path.{◌≡◌, refl, sym, ap, ◌∙◌, subst}
use mathlib.Core.Bool.{true, false}
use mathlib.Core.List.{List}
use Prim.Native.Nat.{ℕ, ◌+◌, ◌≤◌, ◌<◌}
use Prim.Native.String.{String}
use native.Mathlib.Omega.{arith}
use lib.ListN.{length}
use Rattle.rules.specs.Text.{bytes, is, same, ◌unless◌, lower}
use Rattle.rules.specs.Tokens.{word, operands, tokens_refusal}
use Rattle.rules.specs.State.{Outcome}
use Rattle.text_lines.specs.declared.Signs.{Signs}
use Rattle.text_lines.specs.declared.Spot.{Spot}
use Rattle.text_lines.specs.declared.LineEnd.{LineEnd}
use Rattle.text_lines.specs.Stream.{marks_left, line_start, LineIs}
use Rattle.text_tokens.specs.declared.Tok.{Tok}
use Rattle.text_tokens.specs.Left.{word_in, tokens_left}
use Rattle.text_tokens.proofs.RefusalLaws.{three-last}
use Rattle.work_subjects.specs.Keys.{key_at}
use Rattle.work_store.specs.Store.{Sound}
use Rattle.locale_opening.specs.Begun as begun
use Rattle.locale_opening.specs.declared.Opening.{Opening}
use Rattle.locale_opening.specs.declared.Opening.TheVariants as opens
use Rattle.locale_opening.specs.Keyed.{KeywordIs}
use Rattle.locale_opening.specs.declared.Keyword.{Keyword}
use Rattle.locale_opening.specs.declared.Keyword.TheVariants as key
use Rattle.locale_opening.proofs.KeywordLaws.{at_other}
use Rattle.locale_sheet.specs.declared.Sheet.{Sheet}
use Rattle.locale_sheet.specs.Sheets.{SomeOpen, Moves, NextIs, BranchIs, RefusedIs}
use Rattle.locale_sheet.specs.Names.{NameLine}
use Rattle.locale_sheet.specs.Words.{is_turn, WordLine}
use Rattle.locale_sheet.proofs.SheetLaws.{read_whole, open-on}
use Rattle.locale_conditionals.specs.Turned.{defining, testing, MayRead}
use Rattle.locale_conditionals.proofs.LineLaws as turning
use Rattle.locale_declarations.specs.Worded.{Opened}
use Rattle.locale_declarations.proofs.DispatchLaws.{word-opened, open-sound}
use Rattle.locale_moves.specs.Named.{Holding}
use Rattle.locale_moves.proofs.AfterLaws.{open-holding}
use Rattle.locale_dispatch.specs.Steps.{LineAt, WordAt}

-- ## Lines that are no words

line-moves : {g : Signs} {src : List ℕ} {at : ℕ} {e : LineEnd} → LineIs g src (line_start at) e → at < length src → Moves g src at e.next e.feeds
line-moves l h = record { end = l.end; feeds = l.feeds; on = l.on h; to = l.to; few = l.few }

-- the words of a chain's lines
turn-elif : is_turn (bytes "elif") ≡ true
unfolding is same bytes
turn-elif = refl

turn-else : is_turn (bytes "else") ≡ true
unfolding is same bytes
turn-else = refl

turn-endif : is_turn (bytes "endif") ≡ true
unfolding is same bytes
turn-endif = refl

module _ {g : Signs} {src w : List ℕ} {sh : Sheet} {at number depth : ℕ} (v : LineAt g src w sh at number depth) where
  pub step-blank : (o : Opening) (e : LineEnd) → begun.OpeningIs g src at o → o ≡ opens.Blank e → NextIs g src w sh at number depth w sh e.next e.feeds
  step-blank o e h f =
      let b : begun.BlankLine g src at e = subst (begun.OpeningIs g src at) f h in
      let m = line-moves b.line v.inside in
      record {
        moves = m;
        leaves = λ cs s k d u. record {
          after = s;
          outcome = read_whole g src w sh cs at s k u number (marks_left g src (line_start at)) ∙ b.outcome s number k.inside;
          held = open-on g src w sh cs at s k v.inside e.next (let a = m.on in omega (arith, a));
        };
      }

  pub step-foul : (o : Opening) (e : LineEnd) (r : ℕ) → begun.OpeningIs g src at o → o ≡ opens.Foul e → r ≡ lower (2 unless e.text) 3 → RefusedIs g src w sh at number depth r
  step-foul o e r h f z =
      let b : begun.FoulLine g src at e = subst (begun.OpeningIs g src at) f h in
      record {
        refusal = λ cs s k d u. ap (λ (x : Outcome). x.refusal) (read_whole g src w sh cs at s k u number (marks_left g src (line_start at))) ∙ b.refusal s number k.inside ∙ sym z;
      }

  pub step-word : (o : Opening) (q : Spot) (t : Tok) (e : LineEnd) → begun.OpeningIs g src at o → o ≡ opens.Word q t e → WordAt g src w sh at number depth q t e
  step-word o q t e h f = record { line = v; word = subst (begun.OpeningIs g src at) f h }

  -- what the order line of a name is given
  pub step-name : (o : Opening) (q : Spot) (t : Tok) (e : LineEnd) → begun.OpeningIs g src at o → o ≡ opens.Name q t e → NameLine g src at t e
  step-name o q t e h f =
      let n : begun.NameLine g src at q t e = subst (begun.OpeningIs g src at) f h in
      let x = n.first in
      record {
        start = q;
        whole = n.outcome;
        token = x.token;
        name = n.kind;
        line = x.line;
        inside = v.inside;
        plain = ap (λ (p : Spot). p.mode) x.start;
        from = x.from;
        reach = let a = sym x.end ∙ x.line.end in omega (arith, a);
        far = x.more;
      }

  pub line-some : SomeOpen g src w sh at depth
  line-some = v.some

  pub line-few : number ≤ at + 1
  line-few = v.few

  pub line-in : at ≤ length src
  line-in = let i = v.inside in omega (arith, i)

-- ## Lines that open with a word

module _ {g : Signs} {src w : List ℕ} {sh : Sheet} {at number depth : ℕ} {q : Spot} {t : Tok} {e : LineEnd} (v : WordAt g src w sh at number depth q t e)
    (k : Keyword) (h : KeywordIs (word_in (marks_left g src q)) k) where
  turn : (x : String) → is_turn (bytes x) ≡ true → word_in (marks_left g src q) ≡ bytes x → is_turn (word_in (marks_left g src q)) ≡ true
  turn x y f = rw f y

  pub word_some : SomeOpen g src w sh at depth
  word_some = v.line.some

  pub word-few : number ≤ at + 1
  word-few = v.line.few

  pub word_sound : Sound (key_at g src) (length src) w
  word_sound = open-sound v.line.some

  pub word-holding : Holding g src w
  word-holding = open-holding v.line.some

  may : (x : List ℕ) → word_in (marks_left g src q) ≡ x → MayRead g src w sh at depth t.next e x
  may x f = record { some = v.line.some; line = turning.word_line v.word v.line.inside f }

  pub may-define : k ≡ key.Define → MayRead g src w sh at depth t.next e (defining true)
  may-define f = may (bytes "define") (subst (KeywordIs (word_in (marks_left g src q))) f h)

  pub may-undef : k ≡ key.Undef → MayRead g src w sh at depth t.next e (defining false)
  may-undef f = may (bytes "undef") (subst (KeywordIs (word_in (marks_left g src q))) f h)

  pub may-ifdef : k ≡ key.Ifdef → MayRead g src w sh at depth t.next e (testing true)
  may-ifdef f = may (bytes "ifdef") (subst (KeywordIs (word_in (marks_left g src q))) f h)

  pub may-ifndef : k ≡ key.Ifndef → MayRead g src w sh at depth t.next e (testing false)
  may-ifndef f = may (bytes "ifndef") (subst (KeywordIs (word_in (marks_left g src q))) f h)

  pub opened-symbol : k ≡ key.Symbol → Opened g src at t.next e "collating-symbol"
  opened-symbol f = word-opened v.word v.line.inside "collating-symbol" (subst (KeywordIs (word_in (marks_left g src q))) f h)

  pub opened-element : k ≡ key.Element → Opened g src at t.next e "collating-element"
  opened-element f = word-opened v.word v.line.inside "collating-element" (subst (KeywordIs (word_in (marks_left g src q))) f h)

  pub opened-start : k ≡ key.OrderStart → Opened g src at t.next e "order_start"
  opened-start f = word-opened v.word v.line.inside "order_start" (subst (KeywordIs (word_in (marks_left g src q))) f h)

  pub opened-stop : k ≡ key.OrderEnd → Opened g src at t.next e "order_end"
  opened-stop f = word-opened v.word v.line.inside "order_end" (subst (KeywordIs (word_in (marks_left g src q))) f h)

  pub opened_after : k ≡ key.ReorderAfter → Opened g src at t.next e "reorder-after"
  opened_after f = word-opened v.word v.line.inside "reorder-after" (subst (KeywordIs (word_in (marks_left g src q))) f h)

  pub opened-back : k ≡ key.ReorderEnd → Opened g src at t.next e "reorder-end"
  opened-back f = word-opened v.word v.line.inside "reorder-end" (subst (KeywordIs (word_in (marks_left g src q))) f h)

  pub opened-end : k ≡ key.End → Opened g src at t.next e "END"
  opened-end f = word-opened v.word v.line.inside "END" (subst (KeywordIs (word_in (marks_left g src q))) f h)

  pub branch-elif : k ≡ key.Elif → BranchIs g src w at w
  branch-elif f = record { same = refl; line = turning.turn-line v.word (turn "elif" turn-elif (subst (KeywordIs (word_in (marks_left g src q))) f h)) }

  pub branch-else : k ≡ key.Else → BranchIs g src w at w
  branch-else f = record { same = refl; line = turning.turn-line v.word (turn "else" turn-else (subst (KeywordIs (word_in (marks_left g src q))) f h)) }

  pub branch-endif : k ≡ key.Endif → BranchIs g src w at w
  branch-endif f = record { same = refl; line = turning.turn-line v.word (turn "endif" turn-endif (subst (KeywordIs (word_in (marks_left g src q))) f h)) }

  pub undefined-word : k ≡ key.Undefined → WordLine g src at t.next e (bytes "UNDEFINED")
  undefined-word f = turning.word_line v.word v.line.inside (subst (KeywordIs (word_in (marks_left g src q))) f h)

  pub step_other : (r : ℕ) → k ≡ key.Other → r ≡ lower (2 unless e.text) 3 → RefusedIs g src w sh at number depth r
  step_other r f z =
      let os = operands (tokens_left g src t.next) in
      let n = subst (KeywordIs (word_in (marks_left g src q))) f h in
      record {
        refusal = λ cs s o d u.
            ap (λ (x : Outcome). x.refusal) (read_whole g src w sh cs at s o u number (marks_left g src (line_start at)) ∙ v.word.outcome s number o.inside)
            ∙ ap (λ (x : Outcome). lower (2 unless e.text) (lower (tokens_refusal os) x.refusal)) (at_other s number (word_in (marks_left g src q)) os n)
            ∙ ap (lower (2 unless e.text)) (three-last os) ∙ sym z;
      }
