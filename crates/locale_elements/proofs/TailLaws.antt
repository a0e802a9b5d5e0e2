-- The operands after an element's name: `from` and quotes, and how far the quotes are from the spot after the name.
use Rattle.std.specs.Prelude.{None, Option, Some, ℕ}
use mathlib.Core.Path.{◌≡◌, refl, sym, ap, ◌∙◌, subst}
use mathlib.Core.Logic.{inl, inr}
use mathlib.Core.Bool.{Bool, true, false, ◌&&◌, false≢true}
use mathlib.Core.List.{List, [], ◌∷◌, ◌++◌}
use Prim.Native.Nat.{ℕ, ◌+◌, ◌≤◌}
use native.Mathlib.Omega.{arith}
use lib.ListN.{length, length-append}
use lib.Dec.{eqb, leb}
use borrow.Author.Tests.{eqb-true, eqb-false, ne_eqb}
use Rattle.base_lists.proofs.Bools.{by, clash, and_left, and_right}
use Rattle.base_lists.proofs.Lists.{length-zero}
use Rattle.rules.specs.Text.{bytes, every, is}
use Rattle.rules.specs.Names.{is_blank}
use Rattle.rules.specs.Lines.{in_plain, quoted}
use Rattle.rules.specs.Tokens.{word, quote, Token, token, token_at, single, no_part, in_word, tokens_from, without_gaps}
use Rattle.rules.proofs.TextLaws.{same_true, every-head}
use Rattle.text_lines.specs.declared.Signs.{Signs}
use Rattle.text_lines.specs.declared.Spot.{Spot}
use Rattle.text_lines.specs.Stream.{marks_left, mode_through, fresh_through, Walk}
use Rattle.text_lines.proofs.LineLaws.{run-marks, run_end}
use Rattle.text_lines.proofs.ByteLaws.{after-quoted-name, after-quoted}
use Rattle.text_tokens.specs.declared.Tok.{Tok}
use Rattle.text_tokens.specs.Left.{names_from, names_in, tokens_left, token_there, word_in, after_word, TokenIs, WordEnds}
use Rattle.text_tokens.proofs.TokenLaws.{in-word, first-word, word-whole}
use Rattle.text_tokens.proofs.RefusalLaws.{refusal-later}
use Rattle.text_operands.specs.declared.Operand.{Operand}
use Rattle.text_operands.specs.declared.Operand.TheVariants as operand
use Rattle.text_operands.specs.Operand.{operands_left, OperandAt, OperandIs}
use Rattle.text_operands.proofs.ListLaws.{single-first, single_more}
use Rattle.locale_symbols.specs.Symbols.{Unfit}
use Rattle.locale_symbols.proofs.HeadLaws.{walk-long, walk-on}
use Rattle.locale_elements.specs.Element.{from_formed, QuotesAlone, AloneIs, FromIs}
use Rattle.locale_elements.proofs.ThinLaws.{thin, tokens-thin, thin-word}

-- ## Blanks between

fresh-changed : (f : Bool) (ps : List ℕ) → true ≡ fresh_through f ps → f ≡ false → 1 ≤ length ps
fresh-changed f [] e h = absurd (false≢true (sym h ∙ sym e))
fresh-changed f (p ∷ ps) e h = omega arith

-- where a comment may open only after the marks of a walk, one is read
walk-apart : {g : Signs} {src : List ℕ} {p q : Spot} → Walk g src p q → p.fresh ≡ false → q.fresh ≡ true → p.at + 1 ≤ q.at
walk-apart {p = p} w h k = omega (arith, walk-long w, fresh-changed p.fresh w.passed (sym k ∙ w.run.fresh) h)

-- ## How long quotes are

-- marks that lead out of quotes with a name are two at least
quotes-marks : (ps rest : List ℕ) → 0 ≡ mode_through 2 ps → 1 ≤ length (names_in (ps ++ rest)) → 2 ≤ length ps
unfolding names_from
quotes-marks [] rest e h = absurd (omega (arith, e))
quotes-marks (p ∷ []) rest e h =
    by (eqb p 34)
    (λ t. absurd (let z : 1 ≤ 0 = rw t at h in omega (arith, z)))
    (λ t. by (eqb p 60)
    (λ u. absurd (let z = after-quoted-name {mode = 2} {b = p} refl (eqb-true p 60 u) in omega (arith, e, z)))
    (λ u. absurd (let z = after-quoted {mode = 2} {b = p} refl (eqb-false p 60 u) (eqb-false p 34 t) in omega (arith, e, z))))
quotes-marks (p ∷ q ∷ ps) rest e h = omega arith

quotes-long : {g : Signs} {src : List ℕ} {s e : Spot} → Walk g src s e → s.mode ≡ quoted → e.mode ≡ in_plain
    → 1 ≤ length (names_in (marks_left g src s)) → s.at + 2 ≤ e.at
quotes-long {g} {src} {s} {e} w h k n =
    let l = quotes-marks w.passed (marks_left g src e) (sym k ∙ w.run.mode ∙ ap (λ (m : ℕ). mode_through m w.passed) h) (rw (run-marks g src s w.run) at n) in
    omega (arith, l, walk-long w)

-- ## Quotes alone

module _ (g : Signs) (src : List ℕ) (x : Spot) {o : Operand} (v : OperandIs g src true x o) where
  pub alone-end : o ≡ operand.End → Unfit (operands_left g src true x) (single quote (operands_left g src true x))
  alone-end e = let z : operands_left g src true x ≡ [] = subst (OperandIs g src true x) e v in inr (rw z)

  pub alone-broken : o ≡ operand.Broken → Unfit (operands_left g src true x) (single quote (operands_left g src true x))
  alone-broken e = inl (subst (OperandIs g src true x) e v)

  module _ {q : Spot} {t : Tok} (e : o ≡ operand.Token q t) where
    at : OperandAt g src true x q t
    at = subst (OperandIs g src true x) e v

    -- what reading on after it requires
    pub alone-to : t.next.at ≤ length src
    alone-to = at.token.to

    pub alone-plain : t.next.mode ≡ in_plain
    alone-plain = at.token.plain

    pub alone-other : (t.kind ≡ 6 → ⊥) → Unfit (operands_left g src true x) (single quote (operands_left g src true x))
    alone-other h =
        inr (ap (λ (ts : List Token). single quote ts) at.first
        ∙ single-first quote (token_there g src q) (operands_left g src (leb 3 t.kind) t.next) (rw at.token.kind (ne_eqb t.kind 6 h)))

    module _ (k : t.kind ≡ 6) {b : Bool} (f : b ≡ eqb (length (operands_left g src true t.next)) 0) where
      first : operands_left g src true x ≡ token_there g src q ∷ operands_left g src true t.next
      first = at.first ∙ rw k

      pub alone-more : b ≡ false → Unfit (operands_left g src true x) (single quote (operands_left g src true x))
      alone-more z =
          inr (ap (λ (ts : List Token). single quote ts) first
          ∙ single_more quote (token_there g src q) (operands_left g src true t.next) (sym f ∙ z))

      pub alone-quotes : b ≡ true → QuotesAlone g src x t.inside t.names
      alone-quotes z =
          let ts = operands_left g src true t.next in
          let m = at.token.quote-mode k in
          let ns = at.token.quote k in
          record {
            token = token_there g src q;
            alone = first ∙ ap (λ (us : List Token). token_there g src q ∷ us) (length-zero ts (eqb-true (length ts) 0 (sym f ∙ z)));
            kind = at.token.kind ∙ k;
            names = ns;
            many = rw (← ns) at.token.names;
            mode = m;
            far = λ h. omega (arith, walk-apart at.walk h (at.apart refl (omega arith)), walk-on at.token.enter (λ y. omega (arith, m, at.mode)));
            to = at.token.inside;
            after = t.next;
            end = run_end g src x at.walk.run ∙ run_end g src q at.token.walk.run;
            full = λ l. quotes-long at.token.leave m at.token.plain (let z : length (names_in (marks_left g src t.inside)) ≡ t.names = rw (← ns) at.token.names in omega (arith, l, z));
            ends = at.token.to;
          }

-- ## A word

word-shorter : (ms : List ℕ) → length (after_word ms) ≤ length ms
unfolding after_word
word-shorter [] = omega arith
word-shorter (m ∷ ms) = by (in_word m) (λ t. let l = word-shorter ms in rw t (omega arith)) (λ t. rw t (omega arith))

-- nothing of a word stands where it has ended
word_over : (ms : List ℕ) → after_word ms ≡ ms → length (word_in ms) ≡ 0
unfolding word_in after_word
word_over [] h = refl
word_over (m ∷ ms) h =
    by (in_word m)
    (λ t. let z : after_word ms ≡ m ∷ ms = rw t at h in
    absurd (let l = word-shorter ms in let n = ap (λ (x : List ℕ). length x) z in omega arith))
    (λ t. rw t)

-- after a mark of a word a comment may not open, nor after those of its run
no-blank : (p : ℕ) (ps : List ℕ) → in_word p ≡ true → (1 ≤ length ps → fresh_through (is_blank p) ps ≡ false) → fresh_through (is_blank p) ps ≡ false
no-blank p [] t h = (in-word p t).blank
no-blank p (q ∷ ps) t h = h (omega arith)

-- marks that lead to the end of a word are its bytes at least, and a comment may not open after them
word-run : (f : Bool) (ps rest : List ℕ) → after_word (ps ++ rest) ≡ rest
    → (length (word_in (ps ++ rest)) ≤ length ps) × (1 ≤ length ps → fresh_through f ps ≡ false)
unfolding word_in after_word
word-run f [] rest h = (omega (arith, word_over rest h), λ l. absurd (omega arith))
word-run f (p ∷ ps) rest h =
    by (in_word p)
    (λ t. let r = word-run (is_blank p) ps rest (rw t at h) in (rw t (omega (arith, r.0)), λ l. no-blank p ps t r.1))
    (λ t. let z : p ∷ (ps ++ rest) ≡ rest = rw t at h in
    absurd (let n = ap (λ (x : List ℕ). length x) z in let l = length-append ps rest in omega arith))

-- a word that begins is a token of its own
word-tokens : (ms : List ℕ) → 1 ≤ length (word_in ms) → tokens_from (no_part []) ms ≡ token word (word_in ms) [] ∷ tokens_from (no_part []) (after_word ms)
unfolding word_in after_word
word-tokens [] h = absurd (omega arith)
word-tokens (m ∷ ms) h =
    by (in_word m) (λ t. first-word m ms t ∙ word-whole (m ∷ []) ms ∙ rw t)
    (λ t. absurd (let z : 1 ≤ 0 = rw t at h in omega arith))

-- ## `from`

from-long : (w : List ℕ) → is w "from" ≡ true → length w ≡ 4
unfolding is bytes
from-long w h = ap (λ (x : List ℕ). length x) (same_true w (102 ∷ 114 ∷ 111 ∷ 109 ∷ []) h)

same_head : {t u : Token} {ts us : List Token} → t ∷ ts ≡ u ∷ us → t ≡ u
same_head e = cc

same-tail : {t u : Token} {ts us : List Token} → t ∷ ts ≡ u ∷ us → ts ≡ us
same-tail e = cc

left-thin : (g : Signs) (src : List ℕ) (q : Spot) → every thin (tokens_left g src q) ≡ true
unfolding tokens_left
left-thin g src q = tokens-thin (marks_left g src q)

-- a token with that text is the word
from-word : (g : Signs) (src : List ℕ) (q : Spot) {t : Tok} → TokenIs g src q t → is (token_there g src q).text "from" ≡ true
    → is (word_in (marks_left g src q)) "from" ≡ true
from-word g src q {t} w h =
    let u = token_there g src q in
    let l = from-long u.text h in
    let k = thin-word u (every-head thin u (tokens_left g src t.next) (rw (← w.first) (left-thin g src q))) (omega arith) in
    rw (← w.word (sym w.kind ∙ eqb-true u.kind word k)) h

mid-false : (a b c : Bool) → b ≡ false → (a && b && c) ≡ false
mid-false true b c h = rw h
mid-false false b c h = refl

from-other-text : (t : Token) (ts : List Token) → is t.text "from" ≡ false → from_formed (t ∷ ts) ≡ false
unfolding from_formed
from-other-text t ts h = mid-false (eqb (length (t ∷ ts)) 2) (is t.text "from") (eqb (token_at (t ∷ ts) 1).kind quote) h

from-single : (t : Token) (ts : List Token) → from_formed (t ∷ ts) ≡ true → single quote ts ≡ true
unfolding from_formed
from-single t [] h = h
from-single t (u ∷ []) h = and_right (is t.text "from") (eqb u.kind quote) h
from-single t (u ∷ r ∷ us) h =
    let a = eqb (length (t ∷ u ∷ r ∷ us)) 2 in
    let b = is t.text "from" in
    let n = eqb-true (length (t ∷ u ∷ r ∷ us)) 2 (and_left a b (and_left (a && b) (eqb u.kind quote) h)) in
    absurd (omega arith)

module _ (g : Signs) (src : List ℕ) (x : Spot) {o : Operand} (v : OperandIs g src true x o) where
  pub from_end : o ≡ operand.End → Unfit (operands_left g src true x) (from_formed (operands_left g src true x))
  unfolding from_formed
  from_end e = let z : operands_left g src true x ≡ [] = subst (OperandIs g src true x) e v in inr (rw z)

  pub from-broken : o ≡ operand.Broken → Unfit (operands_left g src true x) (from_formed (operands_left g src true x))
  from-broken e = inl (subst (OperandIs g src true x) e v)

  module _ {q : Spot} {t : Tok} (e : o ≡ operand.Token q t) where
    here : OperandAt g src true x q t
    here = subst (OperandIs g src true x) e v

    pub from-to : q.at ≤ length src
    from-to = here.to

    pub from-mode : q.mode ≡ in_plain
    from-mode = here.mode

    module _ {b : Bool} (f : b ≡ is (word_in (marks_left g src q)) "from") where
      pub from-other : b ≡ false → Unfit (operands_left g src true x) (from_formed (operands_left g src true x))
      from-other h =
          let u = token_there g src q in
          inr (ap from_formed here.first
          ∙ from-other-text u (operands_left g src (leb 3 t.kind) t.next)
          (by (is u.text "from") (λ y. clash (from-word g src q here.token y) (sym f ∙ h)) (λ y. y)))

      module _ (h : b ≡ true) {y : Spot} (u : WordEnds g src q y) where
        abbrev from : Token
        from = token word (word_in (marks_left g src q)) []

        long : length (word_in (marks_left g src q)) ≡ 4
        long = from-long (word_in (marks_left g src q)) (sym f ∙ h)

        read : tokens_left g src q ≡ from ∷ tokens_left g src y
        unfolding tokens_left
        read = rw u.after (word-tokens (marks_left g src q) (omega (arith, long)))

        is_word_lem : t.kind ≡ 4
        is_word_lem = sym here.token.kind ∙ ap (λ (z : Token). z.kind) (same_head (sym here.token.first ∙ read))

        both : operands_left g src true x ≡ from ∷ operands_left g src true y
        unfolding operands_left
        both =
            let z = sym here.token.first ∙ read in
            here.first ∙ rw is_word_lem
            (ap (λ (w : Token). w ∷ without_gaps true (tokens_left g src t.next)) (same_head z)
            ∙ ap (λ (ts : List Token). from ∷ without_gaps true ts) (same-tail z))

        run : (length (word_in (marks_left g src q)) ≤ length u.walk.passed) × (1 ≤ length u.walk.passed → fresh_through q.fresh u.walk.passed ≡ false)
        run =
            let m = run-marks g src q u.walk.run in
            rw (← m) at (word-run q.fresh u.walk.passed (marks_left g src y) (rw (← m) (sym u.after)))

        pub from-quotes : (r : Option (Spot × ℕ)) → AloneIs g src y r → FromIs g src x r
        from-quotes (Some (s, n)) a =
            let l = run.0 in
            record {
              said = from;
              token = a.token;
              whole = both ∙ ap (λ (ts : List Token). from ∷ ts) a.alone;
              from = sym f ∙ h;
              kind = a.kind;
              names = a.names;
              many = a.many;
              mode = a.mode;
              far = omega (arith, here.from, long, l, walk-long u.walk, a.far (u.walk.run.fresh ∙ run.1 (omega (arith, long, l))));
              to = a.to;
              after = a.after;
              end = run_end g src x here.walk.run ∙ run_end g src q u.walk.run ∙ a.end;
              full = a.full;
              ends = a.ends;
            }
        from-quotes None a = unfit a
          where
            unfit : Unfit (operands_left g src true y) (single quote (operands_left g src true y)) → Unfit (operands_left g src true x) (from_formed (operands_left g src true x))
            unfit (inl z) = inl (rw both (refusal-later from (operands_left g src true y) z))
            unfit (inr z) =
                inr (rw both (by (from_formed (from ∷ operands_left g src true y))
                (λ k. clash (from-single from (operands_left g src true y) k) z) (λ k. k)))
