-- Lines that are no entries: whether a token is left, whether the line is END CHARMAP, and what the line does.
use Rattle.std.specs.Prelude.{None, Option, Some, ℕ}
use mathlib.Core.Path.{◌≡◌, refl, sym, ap, ◌∙◌, subst}
use mathlib.Core.Bool.{Bool, true, false, ◌&&◌, and-false, and_assoc}
use mathlib.Core.Logic.{◌⊎◌, ⊎_elim}
use mathlib.Core.List.{List, [], ◌∷◌}
use Prim.Native.Nat.{ℕ, suc, ◌≤◌, ◌<◌}
use native.Mathlib.Omega.{arith}
use lib.ListN.{length, drop}
use lib.Dec.{eqb, leb}
use borrow.Author.Tests.{leb-true}
use Rattle.rules.specs.Text.{bytes, every, same, is, ◌unless◌, lower}
use Rattle.rules.specs.Names.{is_blank}
use Rattle.rules.specs.Tokens.{is_text, gap, broken, word, Token, token, token_at, single, no_part, tokens_from, tokens_of, without_gaps, without_opening_gaps, operands, tokens_refusal, is_entry}
use Rattle.rules.specs.Charmap.{Mapping, MapOutcome, leaves, body_line}
use Rattle.rules.proofs.TextLaws.{same_true}
use Rattle.rules.specs.Lines.{in_plain, after}
use Rattle.text_lines.proofs.SignLaws.{after-blank}
use Rattle.text_lines.specs.declared.Signs.{Signs}
use Rattle.text_lines.specs.declared.Spot.{Spot}
use Rattle.text_lines.specs.declared.LineEnd.{LineEnd}
use Rattle.text_lines.specs.Stream.{line_start, marks_left, StepIs, LineIs, MarkIs}
use Rattle.text_tokens.specs.declared.Next.{Next}
use Rattle.text_tokens.specs.declared.Next.TheVariants as next
use Rattle.text_tokens.specs.declared.Tok.{Tok}
use Rattle.text_tokens.specs.Left.{tokens_left, token_there, word_in, after_word, WordEnds, TokenIs, NextIs, Skips}
use Rattle.text_tokens.proofs.TokenLaws.{tokens_from-none, first-gap}
use Rattle.text_tokens.proofs.GapLaws.{no-blank, tokens_of-left}
use Rattle.charmap_body.specs.declared.Kind.{Kind}
use Rattle.charmap_body.specs.declared.Kind.TheVariants as kind
use Rattle.charmap_body.specs.Plain.{sole_word, is_end_line, Tokened, KindIs, LineTo, closed_after, BlankLine, EndLine, BadLine}
use Rattle.charmap_body.proofs.FirstLaws.{worded, Dull, dull-first, opening-head, gaps-first, gaps-only, cons-some, solid-first}

-- ## Whether a token is left

broken-some : (ts : List Token) → tokens_refusal ts ≡ 3 → eqb (length ts) 0 ≡ false
unfolding tokens_refusal
broken-some [] h = absurd (omega arith)
broken-some (t ∷ ts) h = cons-some t ts

module _ (g : Signs) (src : List ℕ) (p : Spot) {s : Next} (w : NextIs g src p s) where
  pub tokens_none : s ≡ next.End → true ≡ eqb (length (tokens_left g src p)) 0
  tokens_none e = let h : tokens_left g src p ≡ [] = subst (NextIs g src p) e w in sym (ap (λ (l : List Token). eqb (length l) 0) h)

  tokens-some : {t : Tok} → s ≡ next.Token t → false ≡ eqb (length (tokens_left g src p)) 0
  tokens-some {t} e =
      let h : TokenIs g src p t = subst (NextIs g src p) e w in
      sym (ap (λ (l : List Token). eqb (length l) 0) h.first ∙ cons-some (token_there g src p) (tokens_left g src t.next))

  tokens-broken : s ≡ next.Broken → false ≡ eqb (length (tokens_left g src p)) 0
  tokens-broken e = sym (broken-some (tokens_left g src p) (subst (NextIs g src p) e w))

-- any other answer than the end
pub tokens_more : (g : Signs) (src : List ℕ) (p : Spot) (s : Next) → NextIs g src p s → (s ≡ next.End → ⊥) → false ≡ eqb (length (tokens_left g src p)) 0
tokens_more g src p (next.Token t) w n = tokens-some g src p w refl
tokens_more g src p next.Broken w n = tokens-broken g src p w refl
tokens_more g src p next.End w n = absurd (n refl)

-- ## A word alone

-- a token that is not the word w, whatever follows it
sole-not : (t : Token) (r : List Token) (w : List ℕ) → (eqb t.kind word && same t.text w) ≡ false → sole_word (t ∷ r) w ≡ false
unfolding sole_word
sole-not t [] w h = h
sole-not t (u ∷ us) w h = refl

-- the word, and what follows it
sole-word : (x w : List ℕ) (r : List Token) → same x w ≡ true → sole_word (token word x [] ∷ r) w ≡ eqb (length r) 0
unfolding sole_word
sole-word x w [] h = rw h
sole-word x w (u ∷ us) h = sym (cons-some u us)

sole_none : (w : List ℕ) → sole_word [] w ≡ false
unfolding sole_word
sole_none w = refl

-- a word before others stays, and so do those after it
word-gaps : (x : List ℕ) (ts : List Token) → without_gaps false (token word x [] ∷ ts) ≡ token word x [] ∷ without_gaps true ts
unfolding without_gaps
word-gaps x ts = refl

solid-gaps : (t : Token) (ts : List Token) → eqb t.kind gap ≡ false → without_gaps false (t ∷ ts) ≡ t ∷ without_gaps (leb broken t.kind) ts
unfolding without_gaps
solid-gaps t ts h = rw h

length-word : (x w : List ℕ) → same x w ≡ true → 0 < length w → 0 < length x
length-word x w e h = let n = ap length (same_true x w e) in omega arith

-- by the marks that the tokens come from, where no gap opens these
module _ (ms w : List ℕ) (ts : List Token) (f : tokens_from (no_part []) ms ≡ without_opening_gaps ts) where
  pub sole-yes : same (word_in ms) w ≡ true → 0 < length w
      → sole_word (without_gaps false ts) w ≡ eqb (length (without_opening_gaps (tokens_from (no_part []) (after_word ms)))) 0
  sole-yes e h =
      let r : List Token = tokens_from (no_part []) (after_word ms) in
      let k : without_gaps false ts ≡ token word (word_in ms) [] ∷ without_gaps true r =
      gaps-first ts ∙ ap (λ (l : List Token). without_gaps false l) (sym f ∙ worded ms (length-word (word_in ms) w e h)) ∙ word-gaps (word_in ms) r in
      ap (λ (l : List Token). sole_word l w) k ∙ sole-word (word_in ms) w (without_gaps true r) e ∙ gaps-only true r

  sole-dull : (us : List Token) → without_opening_gaps ts ≡ us → Dull (token_at us 0) → sole_word (without_gaps false us) w ≡ false
  unfolding without_gaps
  sole-dull [] e d = sole_none w
  sole-dull (u ∷ us) e d =
      ap (λ (l : List Token). sole_word l w) (solid-gaps u us (opening-head ts u us e))
      ∙ sole-not u (without_gaps (leb broken u.kind) us) w (rw d.kind)

  pub sole-other : same (word_in ms) w ≡ false → sole_word (without_gaps false ts) w ≡ false
  sole-other e = ap (λ (l : List Token). sole_word l w) (gaps-first ts) ∙ go (word_in ms) refl
    where
      go : (x : List ℕ) → word_in ms ≡ x → sole_word (without_gaps false (without_opening_gaps ts)) w ≡ false
      go [] k = sole-dull (without_opening_gaps ts) refl (subst (λ (l : List Token). Dull (token_at l 0)) f (dull-first ms k))
      go (b ∷ bs) k =
          let r : List Token = tokens_from (no_part []) (after_word ms) in
          let long : 0 < length (word_in ms) = rw k (omega arith) in
          ap (λ (l : List Token). sole_word (without_gaps false l) w) (sym f ∙ worded ms long)
          ∙ ap (λ (l : List Token). sole_word l w) (word-gaps (word_in ms) r)
          ∙ sole-not (token word (word_in ms) []) (without_gaps true r) w e

module _ (g : Signs) (src w : List ℕ) (p q : Spot) (k : Skips g src p q) {t : Bool} (e : t ≡ same (word_in (marks_left g src q)) w) where
  there : tokens_from (no_part []) (marks_left g src q) ≡ without_opening_gaps (tokens_left g src p)
  unfolding tokens_left
  there = k.tokens

  pub only-word : (r s : Spot) {u : Bool} → t ≡ true → 0 < length w → WordEnds g src q r → Skips g src r s → u ≡ eqb (length (tokens_left g src s)) 0
      → u ≡ sole_word (without_gaps false (tokens_left g src p)) w
  unfolding tokens_left
  only-word r s h n o l f =
      f ∙ ap (λ (ts : List Token). eqb (length ts) 0) l.tokens
      ∙ ap (λ (ms : List ℕ). eqb (length (without_opening_gaps (tokens_from (no_part []) ms))) 0) o.after
      ∙ sym (sole-yes (marks_left g src q) w (tokens_left g src p) there (sym e ∙ h) n)

  pub only-other : t ≡ false → t ≡ sole_word (without_gaps false (tokens_left g src p)) w
  only-other h = h ∙ sym (sole-other (marks_left g src q) w (tokens_left g src p) there (sym e ∙ h))

-- ## END CHARMAP

abbrev end : List ℕ
end = bytes "END"

abbrev charmap : List ℕ
charmap = bytes "CHARMAP"

-- a byte or none is not END
short-not : (x : List ℕ) → leb (length x) 1 ≡ true → same x end ≡ false
unfolding bytes same
short-not [] h = refl
short-not (a ∷ []) h = and-false (eqb a 69)
short-not (a ∷ b ∷ xs) h = let z = leb-true (suc (suc (length xs))) 1 h in absurd (omega arith)

-- tokens that no gap opens are no operands
no-operands : (ts : List Token) (w : List ℕ) → without_opening_gaps ts ≡ ts → sole_word (operands ts) w ≡ false
unfolding operands
no-operands [] w e = sole_none w
no-operands (t ∷ ts) w e = rw (opening-head (t ∷ ts) t ts e) (sole-not (token broken [] []) [] w refl)

-- the line opens with another word
end-other : (ms : List ℕ) → same (word_in ms) end ≡ false → is_end_line (tokens_from (no_part []) ms) ≡ false
unfolding is_end_line
end-other ms e = go (word_in ms) refl
  where
    ts : List Token
    ts = tokens_from (no_part []) ms

    go : (x : List ℕ) → word_in ms ≡ x → (same (token_at ts 0).text end && sole_word (operands (drop 1 ts)) charmap) ≡ false
    go [] k = rw (short-not (token_at ts 0).text (dull-first ms k).text)
    go (b ∷ bs) k =
        let long : 0 < length (word_in ms) = rw k (omega arith) in
        let f : same (token_at ts 0).text end ≡ false = ap (λ (l : List Token). same (token_at l 0).text end) (worded ms long) ∙ e in
        rw f

-- it opens with END: what follows decides
end-first : (ms : List ℕ) → same (word_in ms) end ≡ true → is_end_line (tokens_from (no_part []) ms) ≡ sole_word (operands (tokens_from (no_part []) (after_word ms))) charmap
unfolding is_end_line bytes
end-first ms e = rw (worded ms (length-word (word_in ms) end e (omega arith)), e)

-- the spot after a blank
module _ (g : Signs) (src : List ℕ) (q : Spot) {s : Option (ℕ × Spot)} {m : ℕ} {r : Spot} (w : StepIs g src q s) (e : s ≡ Some (m, r)) where
  pub mark-to : r.at ≤ length src
  mark-to = let k : MarkIs g src q m r = subst (StepIs g src q) e w in k.to

  blank-plain : q.mode ≡ in_plain → is_blank m ≡ true → r.mode ≡ in_plain
  blank-plain h b = let k : MarkIs g src q m r = subst (StepIs g src q) e w in k.step.mode ∙ ap (λ (x : ℕ). after x m) h ∙ after-blank m b

  pub gap-plain : q.mode ≡ in_plain → (m ≡ 32) ⊎ ((m ≡ 32 → ⊥) × (m ≡ 9)) → r.mode ≡ in_plain
  gap-plain h i = blank-plain h (⊎_elim (λ t. rw t) (λ t. rw t.1) i)

module _ (g : Signs) (src : List ℕ) (p : Spot) {t : Bool} (e : t ≡ same (word_in (marks_left g src p)) end) where
  pub end-not : t ≡ false → false ≡ is_end_line (tokens_left g src p)
  unfolding tokens_left
  end-not h = sym (end-other (marks_left g src p) (sym e ∙ h))

  module _ (h : t ≡ true) (q : Spot) (o : WordEnds g src p q) where
    rest : is_end_line (tokens_left g src p) ≡ sole_word (operands (tokens_left g src q)) charmap
    unfolding tokens_left
    rest = end-first (marks_left g src p) (sym e ∙ h) ∙ ap (λ (ms : List ℕ). sole_word (operands (tokens_from (no_part []) ms)) charmap) (sym o.after)

    module _ {s : Option (ℕ × Spot)} (w : StepIs g src q s) where
      pub end_short : s ≡ None → false ≡ is_end_line (tokens_left g src p)
      unfolding tokens_left operands
      end_short f =
          let n : marks_left g src q ≡ [] = subst (StepIs g src q) f w in
          sym (rest ∙ ap (λ (ms : List ℕ). sole_word (operands (tokens_from (no_part []) ms)) charmap) n
          ∙ ap (λ (ts : List Token). sole_word (operands ts) charmap) tokens_from-none ∙ sole_none charmap)

      module _ {m : ℕ} {r : Spot} (f : s ≡ Some (m, r)) where
        mark : MarkIs g src q m r
        mark = subst (StepIs g src q) f w

        blank-then : is_blank m ≡ true → is_end_line (tokens_left g src p) ≡ sole_word (without_gaps false (tokens_left g src r)) charmap
        unfolding tokens_left operands
        blank-then b =
            rest ∙ ap (λ (ms : List ℕ). sole_word (operands (tokens_from (no_part []) ms)) charmap) mark.marks
            ∙ ap (λ (ts : List Token). sole_word (operands ts) charmap) (first-gap m (marks_left g src r) b)

        module _ {u : Bool} (k : u ≡ sole_word (without_gaps false (tokens_left g src r)) charmap) where
          pub end-gap : (m ≡ 32) ⊎ ((m ≡ 32 → ⊥) × (m ≡ 9)) → u ≡ is_end_line (tokens_left g src p)
          end-gap i = k ∙ sym (blank-then (⊎_elim (λ t. rw t) (λ t. rw t.1) i))

        pub end-solid : (m ≡ 32 → ⊥) × (m ≡ 9 → ⊥) → false ≡ is_end_line (tokens_left g src p)
        unfolding tokens_left
        end-solid i = sym (
            rest ∙ ap (λ (ms : List ℕ). sole_word (operands (tokens_from (no_part []) ms)) charmap) mark.marks
            ∙ no-operands (tokens_from (no_part []) (m ∷ marks_left g src r)) charmap (solid-first m (marks_left g src r) (no-blank m i.0 i.1)))

-- ## What the line is

module _ (g : Signs) (src : List ℕ) (p q : Spot) (k : Skips g src p q) {t : Bool} (e : t ≡ eqb (length (tokens_left g src q)) 0) where
  pub kind-blank : t ≡ true → eqb (length (tokens_of (marks_left g src p))) 0 ≡ true
  kind-blank h = ap (λ (ts : List Token). eqb (length ts) 0) (tokens_of-left k) ∙ sym e ∙ h

  pub kind-end : {u b : Bool} → t ≡ false → u ≡ is_end_line (tokens_left g src q) → u ≡ b → Tokened (tokens_of (marks_left g src p)) b
  kind-end h f i = record {
    some = ap (λ (ts : List Token). eqb (length ts) 0) (tokens_of-left k) ∙ sym e ∙ h;
    ends = ap is_end_line (tokens_of-left k) ∙ sym f ∙ i;
  }

-- ## What the line does

-- the paper's test of END CHARMAP
paper-end : (ts : List Token) → (is (token_at ts 0).text "END" && single word (operands (drop 1 ts)) && is (token_at (operands (drop 1 ts)) 0).text "CHARMAP") ≡ is_end_line ts
unfolding is_end_line sole_word is
paper-end ts = and_assoc (same (token_at ts 0).text end) (single word (operands (drop 1 ts))) (same (token_at (operands (drop 1 ts)) 0).text charmap)

module _ (m : Mapping) (marks : List ℕ) where
  pub body-blank : eqb (length (tokens_of marks)) 0 ≡ true → body_line m marks ≡ leaves 0 m
  unfolding body_line
  body-blank h = rw h

  pub body-plain : (last text : Bool) → is_entry (tokens_of marks) ≡ false → Tokened (tokens_of marks) last → every is_text marks ≡ text
      → body_line m marks ≡ leaves (lower (2 unless text) (3 unless last)) (closed_after m)
  unfolding body_line
  body-plain last text n k x = rw (k.some, n, paper-end (tokens_of marks), k.ends, x)

module _ (g : Signs) (src : List ℕ) (at : ℕ) {e : LineEnd} (k : Kind) (l : LineIs g src (line_start at) e) (w : KindIs (tokens_of (marks_left g src (line_start at))) k) where
  line-to : LineTo g src at e.next e.feeds
  line-to = record { end = l.end; fed = l.feeds; few = l.few; to = l.to; on = l.on }

  pub plain-blank : k ≡ kind.Blank → BlankLine g src at e.next e.feeds
  plain-blank f = record {
    line = line-to;
    same = λ m. body-blank m (marks_left g src (line_start at)) (subst (KindIs (tokens_of (marks_left g src (line_start at)))) f w);
  }

  module _ (n : is_entry (tokens_of (marks_left g src (line_start at))) ≡ false) where
    plain-as : (last text : Bool) → Tokened (tokens_of (marks_left g src (line_start at))) last → e.text ≡ text
        → (m : Mapping) → body_line m (marks_left g src (line_start at)) ≡ leaves (lower (2 unless text) (3 unless last)) (closed_after m)
    plain-as last text t x m = body-plain m (marks_left g src (line_start at)) last text n t (l.text ∙ x)

    module _ (f : k ≡ kind.End) where
      ending : Tokened (tokens_of (marks_left g src (line_start at))) true
      ending = subst (KindIs (tokens_of (marks_left g src (line_start at)))) f w

      pub plain_end : e.text ≡ true → EndLine g src at e.next e.feeds
      unfolding lower
      plain_end x = record { line = line-to; closes = plain-as true true ending x }

      pub plain-end-bad : e.text ≡ false → BadLine g src at 2
      unfolding lower
      plain-end-bad x = record { refusal = λ m. ap (λ (o : MapOutcome). o.refusal) (plain-as true false ending x m); some = omega arith }

    module _ (f : k ≡ kind.Other) where
      other : Tokened (tokens_of (marks_left g src (line_start at))) false
      other = subst (KindIs (tokens_of (marks_left g src (line_start at)))) f w

      pub plain_other : e.text ≡ true → BadLine g src at 3
      unfolding lower
      plain_other x = record { refusal = λ m. ap (λ (o : MapOutcome). o.refusal) (plain-as false true other x m); some = omega arith }

      pub plain-other-bad : e.text ≡ false → BadLine g src at 2
      unfolding lower
      plain-other-bad x = record { refusal = λ m. ap (λ (o : MapOutcome). o.refusal) (plain-as false false other x m); some = omega arith }
