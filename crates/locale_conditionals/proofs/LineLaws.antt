-- Which line an open chain reads: how it begins, and its word.
use mathlib.Core.Path.{◌≡◌, sym, ap, ◌∙◌, subst}
use mathlib.Core.Logic.{◌⊎◌, inl, inr}
use mathlib.Core.Bool.{Bool, true, false}
use mathlib.Core.List.{List}
use Prim.Native.Nat.{ℕ, ◌<◌}
use native.Mathlib.Omega.{arith}
use lib.ListN.{length}
use Rattle.base_lists.proofs.Bools.{clash}
use Rattle.rules.specs.Text.{bytes, same, is, ◌unless◌, lower}
use Rattle.rules.specs.Tokens.{tokens_of, tokens_refusal}
use Rattle.rules.specs.Source.{collate_line}
use Rattle.text_lines.specs.declared.Signs.{Signs}
use Rattle.text_lines.specs.declared.Spot.{Spot}
use Rattle.text_lines.specs.declared.LineEnd.{LineEnd}
use Rattle.text_lines.specs.Stream.{marks_left, line_start, LineIs}
use Rattle.text_tokens.specs.declared.Tok.{Tok}
use Rattle.text_tokens.specs.Left.{word_in}
use Rattle.locale_opening.specs.declared.Opening.{Opening}
use Rattle.locale_opening.specs.declared.Opening.TheVariants as opening
use Rattle.locale_opening.specs.Begun as begun
use Rattle.locale_opening.specs.Begun.{operands_after, refused_with, BlankLine, FoulLine, NameLine, OpeningIs}
use Rattle.locale_sheet.specs.declared.Sheet.{Sheet}
use Rattle.locale_sheet.specs.Words.{is_turn, turns_first, Malformed, TurnLine, WordLine}
use Rattle.locale_conditionals.specs.Turns.{TurnRefused, MayTurn, WordTurn, KeyTurn}

-- ## A line that opens with a word

module _ {g : Signs} {src : List ℕ} {at : ℕ} {q : Spot} {t : Tok} {e : LineEnd} (v : begun.WordLine g src at q t e) where
  -- as the functions of the keywords are given it
  pub word_line : {w : List ℕ} → at < length src → word_in (marks_left g src q) ≡ w → WordLine g src at t.next e w
  word_line {w} i h =
      let f = v.first in
      let k = f.token in
      let text = k.word v.kind ∙ h in
      let kind = v.kind in
      record {
        whole = λ s number c.
            let os = operands_after g src t in
            v.outcome s number c ∙ ap (λ (x : List ℕ). refused_with e.text (tokens_refusal os) (collate_line s number x os)) h;
        line = f.line;
        inside = i;
        plain = k.plain;
        edge = k.edge (omega arith);
        to = k.to;
        long = let a = k.long-word kind in let b = f.from in let c = ap length text in omega arith;
        reach = let a = sym f.end ∙ f.line.end in omega (arith, a);
        far = f.more;
      }

  -- the first token is elif, else or endif
  pub turn-line : is_turn (word_in (marks_left g src q)) ≡ true → TurnLine g src at
  turn-line h = record { either = inl (rw (v.first.tokens, v.first.token.kind, v.kind, v.first.token.word v.kind) h) }

  word-other : is_turn (word_in (marks_left g src q)) ≡ false → turns_first (tokens_of (marks_left g src (line_start at))) ≡ false
  word-other h = rw (v.first.tokens, v.first.token.kind, v.kind, v.first.token.word v.kind) h

-- ## Any other line is malformed

module _ {g : Signs} {src work : List ℕ} {sh : Sheet} {at : ℕ} (m : MayTurn g src work sh at) (number : ℕ) (taken closed : Bool) where
  other-line : {e : LineEnd} {x : ℕ} → LineIs g src (line_start at) e → turns_first (tokens_of (marks_left g src (line_start at))) ≡ false → x ≡ lower (2 unless e.text) 3
      → TurnRefused g src work sh at number taken closed x
  other-line {e} {x} l f y = go m.line.either
    where
      go : (turns_first (tokens_of (marks_left g src (line_start at))) ≡ true) ⊎ Malformed (marks_left g src (line_start at)) → TurnRefused g src work sh at number taken closed x
      go (inl h) = clash h f
      go (inr h) =
          record {
            refusal = λ used cs s o. h s number o.inside ∙ ap (λ (b : Bool). lower (2 unless b) 3) l.text ∙ sym y;
          }

  module _ {o : Opening} (v : OpeningIs g src at o) where
    pub opens-blank : {e : LineEnd} {x : ℕ} → o ≡ opening.Blank e → x ≡ lower (2 unless e.text) 3 → TurnRefused g src work sh at number taken closed x
    opens-blank {e} h y = let b : BlankLine g src at e = subst (OpeningIs g src at) h v in other-line b.line (rw b.none) y

    pub opens-foul : {e : LineEnd} {x : ℕ} → o ≡ opening.Foul e → x ≡ lower (2 unless e.text) 3 → TurnRefused g src work sh at number taken closed x
    opens-foul {e} h y =
        let b : FoulLine g src at e = subst (OpeningIs g src at) h v in
        record {
          refusal = λ used cs s o. b.refusal s number o.inside ∙ sym y;
        }

    pub opens-name : {q : Spot} {t : Tok} {e : LineEnd} {x : ℕ} → o ≡ opening.Name q t e → x ≡ lower (2 unless e.text) 3 → TurnRefused g src work sh at number taken closed x
    opens-name {q} {t} {e} h y =
        let b : NameLine g src at q t e = subst (OpeningIs g src at) h v in
        other-line b.first.line (rw (b.first.tokens, b.first.token.kind, b.kind)) y

    pub opens-word : {q : Spot} {t : Tok} {e : LineEnd} → o ≡ opening.Word q t e → WordTurn g src work sh at q t e
    opens-word h = record { may = m; word = subst (OpeningIs g src at) h v }

-- ## The word

module _ {g : Signs} {src work : List ℕ} {sh : Sheet} {at : ℕ} {q : Spot} {t : Tok} {e : LineEnd} (v : WordTurn g src work sh at q t e) where
  pub key-line : {w : List ℕ} → word_in (marks_left g src q) ≡ w → WordLine g src at t.next e w
  key-line h = word_line v.word v.may.inside h

  pub key-turn : {w : List ℕ} → word_in (marks_left g src q) ≡ w → KeyTurn g src work sh at t.next e w
  key-turn h = record { depth = v.may.depth; some = v.may.some; line = key-line h }

  pub no_key : (number : ℕ) (taken closed : Bool) {a b c : Bool} {x : ℕ}
      → a ≡ same (word_in (marks_left g src q)) (bytes "elif") → a ≡ false
      → b ≡ same (word_in (marks_left g src q)) (bytes "else") → b ≡ false
      → c ≡ same (word_in (marks_left g src q)) (bytes "endif") → c ≡ false
      → x ≡ lower (2 unless e.text) 3 → TurnRefused g src work sh at number taken closed x
  unfolding is
  no_key number taken closed ea na eb nb ec nc y =
      other-line v.may number taken closed v.word.first.line (word-other v.word (rw (sym ea ∙ na, sym eb ∙ nb, sym ec ∙ nc))) y
