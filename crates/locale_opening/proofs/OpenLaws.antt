-- How a line begins: from the readers of its end, of its blanks and of its first token to the paper's outcome.
use mathlib.Core.Path.{◌≡◌, refl, sym, ap, ◌∙◌, subst}
use mathlib.Core.Bool.{Bool, true, false}
use mathlib.Core.List.{List, [], ◌∷◌}
use Prim.Native.Nat.{ℕ, ◌≤◌, ◌<◌}
use native.Mathlib.Omega.{arith}
use lib.ListN.{length, get_or}
use lib.Seq.{drop-cons}
use lib.Dec.{ltb}
use borrow.Author.Tests.{ne_eqb, ltb-false}
use Rattle.base_lists.proofs.Bools.{by, cond_both}
use Rattle.rules.specs.Text.{◌unless◌, lower}
use Rattle.rules.specs.Names.{name_refusal}
use Rattle.rules.specs.Lines as paper
use Rattle.rules.specs.Lines.{Scan, scan, line_from}
use Rattle.rules.specs.Tokens.{word, name, Token, token, without_blanks, tokens_of, the_name, tokens_refusal}
use Rattle.rules.specs.State.{Outcome, gives}
use Rattle.rules.specs.Source.{token_line}
use Rattle.rules.proofs.TextLaws.{every-head}
use Rattle.rules.proofs.RefusalLaws.{lower-keeps}
use Rattle.rules.proofs.RunLaws.{scan-size}
use Rattle.base_units.specs.Numbers.{number_or_none}
use Rattle.text_lines.specs.declared.Signs.{Signs}
use Rattle.text_lines.specs.declared.Spot.{Spot}
use Rattle.text_lines.specs.declared.LineEnd.{LineEnd}
use Rattle.text_lines.specs.Stream.{plain_signs, state_at, line_left, marks_left, end_of, line_start, LineIs}
use Rattle.text_lines.proofs.LineLaws.{run_end}
use Rattle.text_tokens.specs.declared.Tok.{Tok}
use Rattle.text_tokens.specs.declared.Next.{Next}
use Rattle.text_tokens.specs.declared.Next.TheVariants as next
use Rattle.text_tokens.specs.Left.{tokens_left, token_there, name_in, TokenIs, NextIs, Skips}
use Rattle.text_tokens.proofs.GapLaws.{tokens_of-left}
use Rattle.text_tokens.proofs.RefusalLaws.{lower-none-left, refusal-name}
use Rattle.text_operands.proofs.TidyLaws.{tidy}
use Rattle.text_operands.proofs.ListLaws.{word-refusal}
use Rattle.text_operands.proofs.NextLaws.{left-tidy}
use Rattle.text_operands.proofs.BlankLaws.{blanks-text, skips-fresh}
use Rattle.text_operands.proofs.FirstLaws.{no-mark}
use Rattle.text_operands.proofs.LineLaws.{line-tokens, line-broken, line-lowest, spot-start}
use Rattle.locale_opening.specs.Begun.{line_marks, operands_after, BlankLine, FoulLine, FirstAt, WordLine, NameLine}
use Rattle.locale_opening.proofs.CollateLaws.{line_word, line-name, line_other, line-malformed, whole-foul, whole-tokens}

-- ## A byte that is no text, and another refusal

module _ (t : Bool) (r : ℕ) where
  pub with-text : t ≡ true → r ≡ lower (2 unless t) r
  with-text h = rw h (sym (lower-none-left r))

  pub with-foul : {x : ℕ} → x ≡ lower 2 r → t ≡ false → x ≡ lower (2 unless t) r
  with-foul e h = rw h e

  -- where r is that of a line
  pub with-byte : 2 ≤ r → t ≡ false → 2 ≡ lower (2 unless t) r
  unfolding lower
  with-byte l h =
      rw h (simp (ne_eqb r 0 (λ e. omega arith)) (by (ltb 2 r) (λ k. rw k) (λ k. let m = ltb-false 2 r k in rw k (omega arith))))

-- ## A line takes a byte more

grows : (s : paper.Signs) (x : Scan) (bs : List ℕ) → x.size ≤ (line_from s x bs).size
unfolding line_from
grows s x [] = cond_both (λ (r : Scan). x.size ≤ r.size) x.escaped (omega arith) (omega arith)
grows s x (b ∷ bs) =
    let e = scan-size s x b in
    let h = grows s (scan s x b) bs in
    cond_both (λ (r : Scan). x.size ≤ r.size) (scan s x b).ended (omega arith) (omega arith)

grows_one : (s : paper.Signs) (x : Scan) (b : ℕ) (bs : List ℕ) → 1 ≤ (line_from s x (b ∷ bs)).size
unfolding line_from
grows_one s x b bs =
    let e = scan-size s x b in
    let h = grows s (scan s x b) bs in
    cond_both (λ (r : Scan). 1 ≤ r.size) (scan s x b).ended (omega arith) (omega arith)

-- where the source goes on, so does a line
pub left-some : (g : Signs) (src : List ℕ) (p : Spot) → p.at < length src → 1 ≤ (line_left g src p).size
unfolding line_left
left-some g src p h = rw (drop-cons src p.at 0 h) (grows_one (plain_signs g) (state_at p [] 0 0) (get_or src p.at 0) _)

-- ## The first token

-- a name's refusal
name-refusal : (t : Token) (n : List ℕ) → t.kind ≡ name → t.names ≡ n ∷ [] → tokens_refusal (t ∷ []) ≡ name_refusal n
unfolding tokens_refusal
name-refusal t n k h = rw (k, h) (refusal-name n)

-- a word gives none
word_none : {g : Signs} {src : List ℕ} {q : Spot} {t : Tok} → TokenIs g src q t → t.kind ≡ word → number_or_none t.refusal ≡ 0
word_none {g} {src} {q} {t} w k =
    sym w.refusal
    ∙ word-refusal (token_there g src q) (w.kind ∙ k) (every-head tidy (token_there g src q) (tokens_left g src t.next) (rw (← w.first) (left-tidy g src q)))

-- an outcome, and the refusal of bytes that are no text
abbrev with_text : Bool → Outcome → Outcome
with_text text o = gives (lower (2 unless text) o.refusal) o.state

module _ {g : Signs} {src : List ℕ} {at : ℕ} {e : LineEnd} {q : Spot} {n : Next} (l : LineIs g src (line_start at) e) (v : Skips g src (line_start at) q) (w : NextIs g src q n) where
  pub begins-blank : n ≡ next.End → BlankLine g src at e
  unfolding tokens_left token_line lower
  begins-blank f =
      let z : tokens_left g src q ≡ [] = subst (NextIs g src q) f w in
      let b : without_blanks (line_marks g src at) ≡ [] = sym v.marks ∙ no-mark (marks_left g src q) z in
      record {
        line = l;
        none = tokens_of-left v ∙ z;
        outcome = λ s number c. whole-tokens s number c (line_marks g src at) (blanks-text (line_marks g src at) b) (tokens_of-left v ∙ z);
      }

  pub begins-broken : n ≡ next.Broken → FoulLine g src at e
  begins-broken f =
      let k = line-broken g src (line_start at) v (subst (NextIs g src q) f w) in
      record {
        line = l;
        refusal = λ s number c. ap (λ (o : Outcome). o.refusal) (whole-tokens s number c (line_marks g src at) l.text k.whole)
            ∙ ap (lower (2 unless e.text)) (line-malformed s number c k.first k.rest k.refusal);
      }

  module _ {t : Tok} (f : n ≡ next.Token t) where
    here : TokenIs g src q t
    here = subst (NextIs g src q) f w

    tokens : tokens_of (line_marks g src at) ≡ token_there g src q ∷ tokens_left g src t.next
    tokens = line-tokens g src (line_start at) v here

    first : FirstAt g src at q t e
    first =
        let ends : end_of g src (line_start at) ≡ end_of g src t.next = run_end g src (line_start at) v.walk.run ∙ run_end g src q here.walk.run in
        record {
          line = l;
          start = spot-start q v.mode (skips-fresh v refl);
          token = here;
          tokens = tokens;
          walk = v.walk;
          from = v.from;
          end = ends;
          more = λ h. let a = left-some g src t.next h in let b = l.end in omega arith;
          foul = λ s number c h. whole-foul s number c (line_marks g src at) (l.text ∙ h);
        }

    pub begins-word : t.kind ≡ 4 → WordLine g src at q t e
    begins-word k =
        let os = operands_after g src t in
        let r : tokens_refusal (token_there g src q ∷ os) ≡ tokens_refusal os = line-lowest g src q os here ∙ rw (word_none here k) (lower-none-left (tokens_refusal os)) in
        record {
          first = first;
          kind = k;
          outcome = λ s number c. whole-tokens s number c (line_marks g src at) l.text tokens
              ∙ ap (with_text e.text) (line_word s number c (token_there g src q) (tokens_left g src t.next) (here.kind ∙ k) ∙ rw (r, here.word k));
        }

    pub begins-name : t.kind ≡ 5 → NameLine g src at q t e
    begins-name k =
        let os = operands_after g src t in
        let m = name_in (marks_left g src t.inside) in
        let i : the_name (token_there g src q) ≡ m = rw (here.name k) in
        record {
          first = first;
          kind = k;
          refusal = sym here.refusal ∙ name-refusal (token_there g src q) m (here.kind ∙ k) (here.name k);
          outcome = λ s number c. whole-tokens s number c (line_marks g src at) l.text tokens
              ∙ ap (with_text e.text) (line-name s number c (token_there g src q) (tokens_left g src t.next) (here.kind ∙ k) ∙ rw (line-lowest g src q os here, i));
        }

    pub begins-other : (t.kind ≡ 4 → ⊥) → (t.kind ≡ 5 → ⊥) → FoulLine g src at e
    begins-other h k =
        record {
          line = l;
          refusal = λ s number c. ap (λ (o : Outcome). o.refusal) (whole-tokens s number c (line_marks g src at) l.text tokens)
              ∙ ap (lower (2 unless e.text)) (line_other s number c (token_there g src q) (tokens_left g src t.next) (rw here.kind (ne_eqb t.kind 4 h)) (rw here.kind (ne_eqb t.kind 5 k)));
        }
