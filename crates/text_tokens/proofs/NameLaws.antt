-- Reading a name byte by byte, and quotes name by name: the turns of the loops to their ends.
use Rattle.std.specs.Prelude.{None, Option, Some, ℕ}
use mathlib.Core.Path.{◌≡◌, refl, sym, ◌∙◌, subst}
use mathlib.Core.Bool.{Bool, true, false, not, ◌&&◌, and-true}
use mathlib.Core.List.{List, [], ◌∷◌, ◌++◌, append-nil, append_assoc}
use Prim.Native.Nat.{ℕ, suc, ◌+◌, ◌%◌, ◌≤◌, ◌<◌}
use native.Mathlib.Omega.{arith}
use lib.ListN.{length, length-append}
use lib.Dec.{eqb, leb}
use borrow.Author.Tests.{ne_eqb, le-leb, lt-leb, eqb-true, not-true, not-false}
use Rattle.base_lists.proofs.Bools.{by}
use Rattle.rules.specs.Text.{every, one_of, ◌unless◌, lower, lowest}
use Rattle.rules.specs.Names.{is_visible, name_refusal, names_refusal}
use Rattle.rules.specs.Lines.{quoted, after}
use Rattle.rules.specs.Tokens.{broken, quote, Token, token, lexed, tokens_from, tokens_refusal}
use Rattle.base_units.specs.declared.Refusal.{Refusal}
use Rattle.base_units.specs.Numbers.{number_or_none}
use Rattle.text_lines.specs.declared.Signs.{Signs}
use Rattle.text_lines.specs.declared.Spot.{Spot}
use Rattle.text_lines.specs.Stream.{marks_left, Walk, MarkIs, StepIs}
use Rattle.text_lines.proofs.RunLaws.{walk_none, walk-then, mark-walk}
use Rattle.text_lines.proofs.ByteLaws.{after-name, after-inner}
use Rattle.text_tokens.specs.declared.NameStep.{NameStep}
use Rattle.text_tokens.specs.declared.NameStep.TheVariants.{Byte, Close, Open}
use Rattle.text_tokens.specs.Left.{tokens_left, is_close, is_inside, name_in, after_name, names_in, NameByte, NameCloses, NameOpen, NameStepIs, NameEnds, NameEndsAfter, ClosingAfter, ClosingIs, QuotesEnd}
use Rattle.text_tokens.proofs.TokenLaws.{quote-open, quote-close, quote-name, quote-name-open, quote-foul, names_in-close, names_in-name}
use Rattle.text_tokens.proofs.RefusalLaws.{refusal-broken, names_refusal-snoc}

-- ## The next byte

-- no byte but `>` leaves a name
pub inside-stays : (mode m : ℕ) → is_inside mode ≡ true → (m ≡ 62 → ⊥) → after mode m ≡ mode
inside-stays mode m h n =
    by (eqb mode 1) (λ t. let e = eqb-true mode 1 t in sym (e ∙ after-name e n))
    (λ t. let e = eqb-true mode 3 (rw t at h) in sym (e ∙ after-inner e n))

module _ {g : Signs} {src : List ℕ} {p : Spot} where
  pub name-open-here : {s : Option (ℕ × Spot)} → StepIs g src p s → s ≡ None → NameOpen g src p
  unfolding name_in one_of
  name-open-here v e = let n : marks_left g src p ≡ [] = subst (StepIs g src p) e v in record { bytes = rw n; closes = rw n }

  module _ {s : Option (ℕ × Spot)} {m : ℕ} {q : Spot} (v : StepIs g src p s) (e : s ≡ Some (m, q)) where
    mark : MarkIs g src p m q
    mark = subst (StepIs g src p) e v

    pub name-close-here : m ≡ 62 → NameCloses g src p q
    unfolding name_in after_name one_of
    name-close-here h =
        record {
          bytes = rw (mark.marks, h);
          after = rw (mark.marks, h);
          closes = rw (mark.marks, h);
          mode = rw h at mark.step.mode;
          edge = mark.step.fresh ∙ rw h;
          on = mark.on;
          walk = mark-walk mark;
          to = mark.to;
        }

    pub name-byte-here : (m ≡ 62 → ⊥) → NameByte g src p (m % 256) q
    unfolding name_in after_name one_of
    name-byte-here n =
        let k = ne_eqb m 62 n in
        record {
          bytes = rw mark.marks (simp k);
          after = rw mark.marks (simp k);
          closes = rw mark.marks (simp k);
          mode = λ h. mark.step.mode ∙ inside-stays p.mode m h n;
          on = mark.on;
          walk = mark-walk mark;
          to = mark.to;
        }

-- ## A name's refusal

module _ (n : ℕ) (visible : Bool) where
  pub refusal-none : n ≡ 0 → 3 ≡ lower (3 unless (leb 1 n && visible)) (7 unless leb n 32)
  unfolding lower
  refusal-none e = rw e

  pub refusal-good : (n ≡ 0 → ⊥) → not visible ≡ false → n ≤ 32 → 0 ≡ lower (3 unless (leb 1 n && visible)) (7 unless leb n 32)
  unfolding lower
  refusal-good h e l = rw (not-false visible e, le-leb n 32 l, le-leb 1 n (omega arith))

  pub refusal-long : (n ≡ 0 → ⊥) → not visible ≡ false → 32 < n → 7 ≡ lower (3 unless (leb 1 n && visible)) (7 unless leb n 32)
  unfolding lower
  refusal-long h e l = rw (not-false visible e, lt-leb n 32 l, le-leb 1 n (omega arith))

  pub refusal-foul : (n ≡ 0 → ⊥) → not visible ≡ true → 3 ≡ lower (3 unless (leb 1 n && visible)) (7 unless leb n 32)
  unfolding lower
  refusal-foul h e = rw (not-true visible e, le-leb 1 n (omega arith)) (by (leb n 32) (λ t. rw t) (λ t. rw t))

-- ## To the end of a name

-- From p to q so many bytes of a name are read, and whether each may stand there.
pub record InName (g : Signs) (src : List ℕ) (p q : Spot) (n : ℕ) (visible : Bool) : Type 0 where
  pub long : length (name_in (marks_left g src p)) ≡ n + length (name_in (marks_left g src q))
  pub clean : every is_visible (name_in (marks_left g src p)) ≡ (visible && every is_visible (name_in (marks_left g src q)))
  pub after : after_name (marks_left g src p) ≡ after_name (marks_left g src q)
  pub closes : one_of is_close (marks_left g src p) ≡ one_of is_close (marks_left g src q)
  pub mode : q.mode ≡ p.mode
  pub inside : is_inside p.mode ≡ true
  pub walk : Walk g src p q
  pub from : n + p.at ≤ q.at
  pub to : q.at ≤ length src

pub name-none : (g : Signs) (src : List ℕ) (p : Spot) → p.at ≤ length src → is_inside p.mode ≡ true → InName g src p p 0 true
name-none g src p h i =
    record { long = omega arith; clean = refl; after = refl; closes = refl; mode = refl; inside = i; walk = walk_none g src p; from = omega arith; to = h }

module _ {g : Signs} {src : List ℕ} {p q : Spot} {n : ℕ} {visible : Bool} {s : NameStep} (v : InName g src p q n visible) (w : NameStepIs g src q s) where
  -- a byte more
  name-on : {b : ℕ} {r : Spot} {t : Bool} → s ≡ Byte b r → (visible && (is_visible b && every is_visible (name_in (marks_left g src r)))) ≡ (t && every is_visible (name_in (marks_left g src r)))
      → InName g src p r (n + 1) t
  unfolding every
  name-on {b} {r} e f =
      let x : NameByte g src q b r = subst (NameStepIs g src q) e w in
      let l : length (name_in (marks_left g src q)) ≡ suc (length (name_in (marks_left g src r))) = rw x.bytes in
      record {
        long = omega (arith, v.long);
        clean = v.clean ∙ rw x.bytes f;
        after = v.after ∙ x.after;
        closes = v.closes ∙ x.closes;
        mode = x.mode (rw v.mode v.inside) ∙ v.mode;
        inside = v.inside;
        walk = walk-then v.walk x.walk;
        from = omega (arith, v.from, x.on);
        to = x.to;
      }

  pub name-more : {b : ℕ} {r : Spot} {t : Bool} → s ≡ Byte b r → visible ≡ true → t ≡ is_visible b → InName g src p r (n + 1) t
  name-more {b} {r} {t} e f h = name-on e (rw (f, h))

  pub name-foul : {b : ℕ} {r : Spot} → s ≡ Byte b r → visible ≡ false → InName g src p r (n + 1) visible
  name-foul e f = name-on e (rw f)

  pub name-ends : {k : ℕ} {f : Option Refusal} {r : Spot} → s ≡ Close r → number_or_none f ≡ lower (3 unless (leb 1 (k + n) && visible)) (7 unless leb (k + n) 32) → NameEndsAfter k g src p f r
  unfolding every
  name-ends {k} {f} {r} e h =
      let x : NameCloses g src q r = subst (NameStepIs g src q) e w in
      let l : length (name_in (marks_left g src p)) ≡ n = v.long ∙ rw x.bytes (omega arith) in
      let c : every is_visible (name_in (marks_left g src p)) ≡ visible = v.clean ∙ rw x.bytes (and-true visible) in
      record {
        refusal = rw (l, c) (sym h);
        after = v.after ∙ x.after;
        closes = v.closes ∙ x.closes;
        mode = x.mode ∙ rw v.mode;
        edge = x.edge;
        long = omega (arith, v.from, x.on, l);
        walk = walk-then v.walk x.walk;
        to = x.to;
      }

  pub name-left-open : s ≡ Open → one_of is_close (marks_left g src p) ≡ false
  name-left-open e = let x : NameOpen g src q = subst (NameStepIs g src q) e w in v.closes ∙ x.closes

-- visible bytes of a name, and its end behind them
pub name-joined : {g : Signs} {src : List ℕ} {p q : Spot} {n : ℕ} → InName g src p q n true → (c : Option (Option Refusal × Spot)) → ClosingAfter n g src q c → ClosingIs g src p c
unfolding name_refusal
name-joined v (Some (f, r)) w =
    record {
      refusal = rw (v.long, v.clean) w.refusal;
      after = v.after ∙ w.after;
      closes = v.closes ∙ w.closes;
      mode = w.mode ∙ rw v.mode;
      edge = w.edge;
      long = omega (arith, v.long, v.from, w.long);
      on = omega (arith, v.from, w.long);
      walk = walk-then v.walk w.walk;
      to = w.to;
    }
name-joined v None w = v.closes ∙ w

-- ## To the end of quotes

-- From p to q these names are read in quotes.
pub record InQuotes (g : Signs) (src : List ℕ) (p q : Spot) (n : ℕ) (r : Option Refusal) : Type 0 where
  pub names : List (List ℕ)
  pub tokens : tokens_from (lexed [] quote [] []) (marks_left g src p) ≡ tokens_from (lexed [] quote [] names) (marks_left g src q)
  pub all : names_in (marks_left g src p) ≡ names ++ names_in (marks_left g src q)
  pub many : length names ≡ n
  pub refusal : names_refusal names ≡ number_or_none r
  pub mode : q.mode ≡ quoted
  pub walk : Walk g src p q
  pub from : n + p.at ≤ q.at
  pub to : q.at ≤ length src

pub quotes-none : (g : Signs) (src : List ℕ) (p : Spot) → p.at ≤ length src → p.mode ≡ quoted → InQuotes g src p p 0 None
unfolding names_refusal lowest
quotes-none g src p h m =
    record { names = []; tokens = refl; all = refl; many = refl; refusal = refl; mode = m; walk = walk_none g src p; from = omega arith; to = h }

-- a malformed token comes next
foul : {g : Signs} {src : List ℕ} {p q : Spot} {n : ℕ} {r : Option Refusal} (v : InQuotes g src p q n r) {ms : List ℕ} {ts : List Token} → marks_left g src q ≡ ms
    → tokens_from (lexed [] quote [] v.names) ms ≡ token broken [] [] ∷ ts → tokens_refusal (tokens_from (lexed [] quote [] []) (marks_left g src p)) ≡ 3
foul v {ts = ts} z e = rw (v.tokens, z, e) (refusal-broken (token broken [] []) ts refl)

module _ {g : Signs} {src : List ℕ} {p q : Spot} {n : ℕ} {r : Option Refusal} (v : InQuotes g src p q n r) where
  pub quotes-open : marks_left g src q ≡ [] → tokens_refusal (tokens_from (lexed [] quote [] []) (marks_left g src p)) ≡ 3
  quotes-open z = foul v z (quote-open v.names)

  module _ {m : ℕ} {x : Spot} (next : MarkIs g src q m x) where
    pub quotes-end : m ≡ 34 → QuotesEnd g src p n r x
    unfolding tokens_left after
    quotes-end h =
        let a : names_in (marks_left g src p) ≡ v.names = v.all ∙ rw (next.marks, names_in-close m (marks_left g src x) h, append-nil) in
        record {
          token = v.tokens ∙ rw (next.marks, quote-close v.names m (marks_left g src x) h, a);
          many = rw a v.many;
          refusal = rw a v.refusal;
          mode = next.step.mode ∙ rw (v.mode, h);
          edge = next.step.fresh ∙ rw h;
          walk = walk-then v.walk (mark-walk next);
          on = omega (arith, v.from, next.on);
          to = next.to;
        }

    pub quotes-foul : (m ≡ 34 → ⊥) → (m ≡ 60 → ⊥) → tokens_refusal (tokens_from (lexed [] quote [] []) (marks_left g src p)) ≡ 3
    quotes-foul h k = foul v next.marks (quote-foul v.names m (marks_left g src x) h k)

    module _ (h : m ≡ 60) where
      pub quotes-inside : (x.at ≤ length src) × (is_inside x.mode ≡ true)
      unfolding after
      quotes-inside = (next.to, rw (next.step.mode, v.mode, h))

      pub quotes-name-open : one_of is_close (marks_left g src x) ≡ false → tokens_refusal (tokens_from (lexed [] quote [] []) (marks_left g src p)) ≡ 3
      quotes-name-open z =
          foul v next.marks (quote-name-open v.names m (marks_left g src x) h z)

      pub quotes-more : {f t : Option Refusal} {y : Spot} → NameEnds g src x f y → number_or_none t ≡ lower (number_or_none r) (number_or_none f) → InQuotes g src p y (n + 1) t
      unfolding after
      quotes-more {y = y} z l =
          let name = name_in (marks_left g src x) in
          record {
            names = v.names ++ name ∷ [];
            tokens = v.tokens ∙ rw (next.marks, quote-name v.names m (marks_left g src x) h z.closes, z.after);
            all = v.all ∙ rw (next.marks, names_in-name m (marks_left g src x) h, z.after) (sym (append_assoc v.names (name ∷ []) (names_in (marks_left g src y))));
            many = length-append v.names (name ∷ []) ∙ rw v.many;
            refusal = names_refusal-snoc v.names name ∙ rw (v.refusal, z.refusal) (sym l);
            mode = z.mode ∙ rw (next.step.mode, v.mode, h);
            walk = walk-then v.walk (walk-then (mark-walk next) z.walk);
            from = omega (arith, v.from, next.on, z.on);
            to = z.to;
          }
