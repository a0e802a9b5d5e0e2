-- The names of an entry at a spot: a law for each way of the readers.
use Rattle.std.specs.Prelude.{None, Option, Some, ℕ}
use mathlib.Core.Path.{◌≡◌, refl, sym, ap, ◌∙◌, subst}
use mathlib.Core.Bool.{Bool, true, false, cond, ◌&&◌, and-false, false≢true}
use mathlib.Core.List.{List, [], ◌∷◌, ◌++◌, append_assoc, append_cancel_right}
use Prim.Native.Nat.{ℕ, ◌+◌, ◌%◌, ◌≤◌}
use native.Mathlib.Omega.{arith}
use lib.ListN.{length}
use lib.Dec.{eqb, ltb}
use borrow.Author.Tests.{ne_eqb, eqb-true}
use Rattle.base_lists.proofs.Bools.{by, clash}
use Rattle.rules.specs.Text.{every, one_of, same, is, bytes, lower, lowest}
use Rattle.rules.specs.Names.{name_refusal, names_refusal}
use Rattle.rules.specs.Tokens.{is_text, word, name, Token, token, token_at, no_part, in_word, tokens_from, is_range}
use Rattle.rules.proofs.TextLaws.{every_append}
use Rattle.rules.specs.Lines.{in_plain, after}
use Rattle.base_units.specs.declared.Refusal.{Refusal}
use Rattle.base_units.specs.Numbers.{number_or_none}
use Rattle.text_lines.specs.declared.Signs.{Signs}
use Rattle.text_lines.specs.declared.Spot.{Spot}
use Rattle.text_lines.specs.Stream.{marks_left, Run, MarkIs, StepIs}
use Rattle.text_lines.proofs.LineLaws.{run-marks}
use Rattle.text_lines.proofs.RunLaws.{run-then}
use Rattle.text_tokens.specs.declared.NameStep.{NameStep}
use Rattle.text_tokens.specs.declared.NameStep.TheVariants.{Byte, Close, Open}
use Rattle.text_tokens.specs.Left.{tokens_left, word_in, after_word, is_close, is_inside, name_in, after_name, NameStepIs, NameEnds, ClosingIs}
use Rattle.text_tokens.proofs.TokenLaws.{tokens_from-none, first-name, name-closed, name-open}
use Rattle.text_tokens.proofs.RefusalLaws.{lower-none-right}
use Rattle.text_names.specs.Named.{name_left}
use Rattle.text_names.proofs.CompareLaws.{step-byte, step-close, step-open}
use Rattle.charmap_entry.specs.Entered.{byte_by, entry_by, opens_pair, opens_entry, NameIs, NamedIs, DotName, DottedIs, head_tokens, HeadIs}
use Rattle.charmap_entry.proofs.ShapeLaws.{range-then}
use Rattle.charmap_entry.proofs.FirstLaws.{is_dots, first-no-name, first-no-dots}
use Rattle.charmap_entry.proofs.PairLaws.{word_first}
use Rattle.charmap_entry.proofs.ByteLaws.{mark-at, none-at, no_gap}

-- ## The marks of a name

-- up to its `>`
name_marks : List ℕ → List ℕ
name_marks [] = []
name_marks (m ∷ ms) = cond (is_close m) (m ∷ []) (m ∷ name_marks ms)

name-split : (ms : List ℕ) → one_of is_close ms ≡ true → ms ≡ name_marks ms ++ after_name ms
unfolding name_marks one_of after_name
name-split [] h = absurd (false≢true h)
name-split (m ∷ ms) h =
    by (is_close m) (λ t. rw t)
    (λ t. let k : one_of is_close ms ≡ true = rw t at h in rw t (ap (λ (x : List ℕ). m ∷ x) (name-split ms k)))

-- What is read of a name, whatever follows.
record Whole (ms ns : List ℕ) : Type 0 where
  closes : one_of is_close (name_marks ms ++ ns) ≡ true
  bytes : name_in (name_marks ms ++ ns) ≡ name_in ms
  after : after_name (name_marks ms ++ ns) ≡ ns

name-whole : (ms ns : List ℕ) → one_of is_close ms ≡ true → Whole ms ns
unfolding name_marks one_of name_in after_name
name-whole [] ns h = absurd (false≢true h)
name-whole (m ∷ ms) ns h =
    by (is_close m)
    (λ t. record { closes = rw t (rw t); bytes = rw t (rw t); after = rw t (rw t) })
    (λ t. let k : one_of is_close ms ≡ true = rw t at h in
    let r = name-whole ms ns k in
    record { closes = rw t (rw t r.closes); bytes = rw t (rw t (ap (λ (x : List ℕ). m % 256 ∷ x) r.bytes)); after = rw t (rw t r.after) })

mod-mod : (m : ℕ) → m % 256 % 256 ≡ m % 256
mod-mod m = omega arith

-- they are text where its bytes are
name-texts : (ms : List ℕ) → one_of is_close ms ≡ true → every is_text (name_marks ms) ≡ every is_text (name_in ms)
unfolding name_marks one_of name_in every
name-texts [] h = refl
name-texts (m ∷ ms) h =
    by (is_close m)
    (λ t. let e = eqb-true m 62 t in rw (t, e))
    (λ t. let k : one_of is_close ms ≡ true = rw t at h in rw (t, mod-mod m, name-texts ms k))

-- ## A name

module _ (g : Signs) (src : List ℕ) (p : Spot) (o : p.mode ≡ in_plain) {s : Option (ℕ × Spot)} (v : StepIs g src p s) where
  pub name-end : s ≡ None → eqb (token_at (tokens_left g src p) 0).kind name ≡ false
  unfolding tokens_left
  name-end e = rw (none-at g src p v e, tokens_from-none)

  module _ {m : ℕ} {q : Spot} (e : s ≡ Some (m, q)) where
    first : MarkIs g src p m q
    first = mark-at v e

    pub name-other : (m ≡ 60 → ⊥) → eqb (token_at (tokens_left g src p) 0).kind name ≡ false
    unfolding tokens_left
    name-other n = rw first.marks (first-no-name m (marks_left g src q) n)

    module _ (h : m ≡ 60) where
      pub name-inside : (q.at ≤ length src) × (is_inside q.mode ≡ true)
      unfolding after
      name-inside = (first.to, rw (first.step.mode, o, h))

      module _ {c : Option (Option Refusal × Spot)} (w : ClosingIs g src q c) where
        pub name-left-open : c ≡ None → eqb (token_at (tokens_left g src p) 0).kind name ≡ false
        unfolding tokens_left
        name-left-open f =
            let z : one_of is_close (marks_left g src q) ≡ false = subst (ClosingIs g src q) f w in
            rw (first.marks, first-name m (marks_left g src q) h, name-open [] (marks_left g src q) z)

        pub name-found : {f : Option Refusal} {r : Spot} → c ≡ Some (f, r) → NameIs g src p f q r
        unfolding after
        name-found {f} {r} i =
            let z : NameEnds g src q f r = subst (ClosingIs g src q) i w in
            let ms = marks_left g src q in
            let more = z.walk.passed in
            let a : more ≡ name_marks ms =
            append_cancel_right more (name_marks ms) (after_name ms)
            (ap (λ (x : List ℕ). more ++ x) z.after ∙ sym (run-marks g src q z.walk.run) ∙ name-split ms z.closes) in
            let k = first.feeds + z.walk.feeds in
            record {
              more = name_marks ms;
              feeds = k;
              run = subst (λ (x : List ℕ). Run g src (60 ∷ x) k p r) a (subst (λ (x : ℕ). Run g src (x ∷ more) k p r) h (run-then first.run z.walk.run));
              tokens = λ ns. let y = name-whole ms ns z.closes in
                  first-name 60 (name_marks ms ++ ns) refl ∙ name-closed [] (name_marks ms ++ ns) y.closes ∙ rw (y.bytes, y.after);
              refusal = z.refusal;
              text = name-texts ms z.closes;
              mode = z.mode ∙ rw (first.step.mode, o, h);
              inside = first.to;
              on = omega (arith, first.on, z.on);
              to = z.to;
            }

-- ## The dots of a range

-- a word and what follows it open no entry behind a name, unless they are the dots and a name
no-range : (n w : Token) (ts : List Token) → w.kind ≡ word → is_range (n ∷ w ∷ ts) ≡ false → opens_entry (n ∷ w ∷ ts) ≡ false
unfolding entry_by
no-range n w ts k r =
    rw (r, no_gap opens_pair (w ∷ ts) (rw k)) (and-false (eqb n.kind name))

not-dots : (n w : Token) (ts : List Token) → is_dots w ≡ false → is_range (n ∷ w ∷ ts) ≡ false
unfolding is_range
not-dots n w ts h = rw h

not-name : (n w : Token) (ts : List Token) → eqb (token_at ts 0).kind name ≡ false → is_range (n ∷ w ∷ ts) ≡ false
unfolding is_range
not-name n w [] h = and-false (is_dots w)
not-name n w (t ∷ ts) h = rw h (and-false (is_dots w))

-- a word of a dot and other bytes
dots-other : (w : List ℕ) → same w (46 ∷ []) ≡ false → is_dots (token word (46 ∷ w) []) ≡ false
unfolding is same bytes
dots-other w h = h

dot_word : in_word 46 ≡ true
dot_word = refl

one-dot : (n : Token) (ms : List ℕ) → same (word_in ms) (46 ∷ []) ≡ false → opens_entry (n ∷ tokens_from (no_part []) (46 ∷ ms)) ≡ false
one-dot n ms h =
    rw (word_first 46 ms dot_word)
    (no-range n (token word (46 ∷ word_in ms) []) (tokens_from (no_part []) (after_word ms)) refl (not-dots n (token word (46 ∷ word_in ms) []) (tokens_from (no_part []) (after_word ms)) (dots-other (word_in ms) h)))

-- the dots before marks
two-dots : (ms : List ℕ) → tokens_from (no_part []) (46 ∷ 46 ∷ ms) ≡ token word (46 ∷ 46 ∷ word_in ms) [] ∷ tokens_from (no_part []) (after_word ms)
unfolding word_in after_word
two-dots ms = word_first 46 (46 ∷ ms) dot_word

-- the dots, behind which no name comes
dots-no-name : (n : Token) (ms : List ℕ) → eqb (token_at (tokens_from (no_part []) ms) 0).kind name ≡ false → opens_entry (n ∷ tokens_from (no_part []) (46 ∷ 46 ∷ ms)) ≡ false
unfolding word_in after_word same
dots-no-name n [] h =
    rw (two-dots [])
    (no-range n (token word (46 ∷ 46 ∷ []) []) (tokens_from (no_part []) []) refl (not-name n (token word (46 ∷ 46 ∷ []) []) (tokens_from (no_part []) []) h))
dots-no-name n (m ∷ ms) h =
    by (in_word m)
    (λ t. one-dot n (46 ∷ m ∷ ms) (rw t))
    (λ t. let e : tokens_from (no_part []) (46 ∷ 46 ∷ m ∷ ms) ≡ token word (46 ∷ 46 ∷ []) [] ∷ tokens_from (no_part []) (m ∷ ms) = two-dots (m ∷ ms) ∙ rw t in
    rw e (no-range n (token word (46 ∷ 46 ∷ []) []) (tokens_from (no_part []) (m ∷ ms)) refl (not-name n (token word (46 ∷ 46 ∷ []) []) (tokens_from (no_part []) (m ∷ ms)) h)))

module _ (g : Signs) (src : List ℕ) (p : Spot) (o : p.mode ≡ in_plain) {s : Option (ℕ × Spot)} (v : StepIs g src p s) where
  pub dot-end : s ≡ None → (n : Token) → opens_entry (n ∷ tokens_from (no_part []) (46 ∷ marks_left g src p)) ≡ false
  unfolding word_in same
  dot-end e n = one-dot n (marks_left g src p) (rw (none-at g src p v e))

  module _ {m : ℕ} {q : Spot} (e : s ≡ Some (m, q)) where
    dot : MarkIs g src p m q
    dot = mark-at v e

    pub dot-other : (m ≡ 46 → ⊥) → (n : Token) → opens_entry (n ∷ tokens_from (no_part []) (46 ∷ marks_left g src p)) ≡ false
    unfolding word_in same
    dot-other h n =
        one-dot n (marks_left g src p)
        (rw dot.marks (by (in_word m) (λ t. rw t (simp (ne_eqb m 46 h))) (λ t. rw t)))

    module _ (h : m ≡ 46) where
      pub dot-plain : (q.at ≤ length src) × (q.mode ≡ in_plain)
      unfolding after
      dot-plain = (dot.to, dot.step.mode ∙ rw (o, h))

      pub dot-name : (n : Option (Option Refusal × Spot × Spot)) → NamedIs g src q n → DottedIs g src p n
      unfolding tokens_left
      dot-name (Some (f, x, y)) k =
          record { next = q; feeds = dot.feeds; run = subst (λ (u : ℕ). Run g src (u ∷ []) dot.feeds p q) h dot.run; on = dot.on; name = k }
      dot-name None k = λ n. rw (dot.marks, h) (dots-no-name n (marks_left g src q) k)

-- ## The whole of it

-- the lower of a refusal and itself
lower-same : (a : ℕ) → lower a a ≡ a
unfolding lower
lower-same a = by (eqb a 0) (λ t. rw t) (λ t. by (ltb a a) (λ u. rw (t, u)) (λ u. rw (t, u)))

names-two : (m n : List ℕ) → names_refusal (m ∷ n ∷ []) ≡ lower (name_refusal m) (name_refusal n)
unfolding names_refusal lowest
names-two m n = rw (lower-none-right (name_refusal n))

none-dots : is_dots (token_at [] 0) ≡ false
none-dots = refl

-- one name, behind which no dots come
one_name : (n : Token) (ts : List Token) → n.kind ≡ name → is_dots (token_at ts 0) ≡ false → opens_entry (n ∷ ts) ≡ byte_by opens_pair ts
unfolding entry_by is_range
one_name n ts k h = rw (h, k)

and_self : (a : Bool) → a ≡ (a && a)
and_self true = refl
and_self false = refl

-- the dots before a name
dots-name : (ms : List ℕ) → tokens_from (no_part []) (46 ∷ 46 ∷ 60 ∷ ms) ≡ token word (46 ∷ 46 ∷ []) [] ∷ tokens_from (no_part []) (60 ∷ ms)
unfolding word_in after_word
dots-name ms = two-dots (60 ∷ ms)

dots-text : (ms : List ℕ) → every is_text (46 ∷ 46 ∷ 60 ∷ ms) ≡ every is_text ms
unfolding every
dots-text ms = refl

pub range-is : (m n : List ℕ) → is_range (token name [] (m ∷ []) ∷ token word (46 ∷ 46 ∷ []) [] ∷ token name [] (n ∷ []) ∷ []) ≡ true
unfolding is_range is same bytes
range-is m n = refl

-- the tokens of a run, whatever follows it
tokens-run : (g : Signs) (src : List ℕ) (p q : Spot) (ts : List Token) {more : List ℕ} {feeds : ℕ}
    → ((ms : List ℕ) → tokens_from (no_part []) (60 ∷ (more ++ ms)) ≡ ts ++ tokens_from (no_part []) ms) → Run g src (60 ∷ more) feeds p q
    → tokens_left g src p ≡ ts ++ tokens_left g src q
unfolding tokens_left
tokens-run g src p q ts t o = ap (tokens_from (no_part [])) (run-marks g src p o) ∙ t (marks_left g src q)

module _ (g : Signs) (src : List ℕ) (p : Spot) {n : Option (Option Refusal × Spot × Spot)} (v : NamedIs g src p n) where
  pub head-none : n ≡ None → opens_entry (tokens_left g src p) ≡ false
  unfolding entry_by
  head-none e = let z : eqb (token_at (tokens_left g src p) 0).kind name ≡ false = subst (NamedIs g src p) e v in rw z

  module _ {f : Option Refusal} {q r : Spot} (e : n ≡ Some (f, q, r)) where
    called : NameIs g src p f q r
    called = subst (NamedIs g src p) e v

    pub head-to : r.at ≤ length src
    head-to = called.to

    -- the tokens from the name on
    from-name : tokens_left g src p ≡ token name [] (name_left g src q ∷ []) ∷ tokens_left g src r
    unfolding tokens_left
    from-name = ap (tokens_from (no_part [])) (run-marks g src p called.run) ∙ called.tokens (marks_left g src r)

    single : is_dots (token_at (tokens_left g src r) 0) ≡ false → HeadIs g src p (record { first = q; last = q; refusal = f; next = r })
    single h =
        let x = name_left g src q in
        record {
          range = false;
          more = called.more;
          feeds = called.feeds;
          run = called.run;
          tokens = called.tokens;
          one = λ z. refl;
          refusal = names-two x x ∙ lower-same (name_refusal x) ∙ called.refusal;
          text = called.text ∙ and_self (every is_text x);
          opens = ap opens_entry from-name ∙ one_name (token name [] (x ∷ [])) (tokens_left g src r) refl h;
          mode = called.mode;
          first_to = called.inside;
          last-to = called.inside;
          on = called.on;
          to = called.to;
        }

    module _ {s : Option (ℕ × Spot)} (w : StepIs g src r s) where
      pub head-end : s ≡ None → HeadIs g src p (record { first = q; last = q; refusal = f; next = r })
      unfolding tokens_left
      head-end i = single (rw (none-at g src r w i, tokens_from-none) none-dots)

      module _ {m : ℕ} {x : Spot} (i : s ≡ Some (m, x)) where
        next : MarkIs g src r m x
        next = mark-at w i

        pub head-other : (m ≡ 46 → ⊥) → HeadIs g src p (record { first = q; last = q; refusal = f; next = r })
        unfolding tokens_left
        head-other k = single (rw next.marks (first-no-dots m (marks_left g src x) k))

        module _ (k : m ≡ 46) where
          pub head-dot : (x.at ≤ length src) × (x.mode ≡ in_plain)
          unfolding after
          head-dot = (next.to, next.step.mode ∙ rw (called.mode, k))

          module _ {d : Option (Option Refusal × Spot × Spot)} (y : DottedIs g src x d) where
            pub head-no-range : d ≡ None → opens_entry (tokens_left g src p) ≡ false
            unfolding tokens_left
            head-no-range j =
                let z : (t : Token) → opens_entry (t ∷ tokens_from (no_part []) (46 ∷ marks_left g src x)) ≡ false = subst (DottedIs g src x) j y in
                ap opens_entry (from-name ∙ rw (next.marks, k)) ∙ z (token name [] (name_left g src q ∷ []))

            pub head-range : {h l : Option Refusal} {a b : Spot} → d ≡ Some (h, a, b) → number_or_none l ≡ lower (number_or_none f) (number_or_none h) → HeadIs g src p (record { first = q; last = a; refusal = l; next = b })
            head-range {h} {l} {a} {b} j u =
                let z : DotName g src x h a b = subst (DottedIs g src x) j y in
                let c = z.name in
                let first = name_left g src q in
                let last = name_left g src a in
                let more = called.more ++ (46 ∷ 46 ∷ 60 ∷ c.more) in
                let feeds = called.feeds + (next.feeds + (z.feeds + c.feeds)) in
                let run : Run g src (60 ∷ more) feeds p b =
                subst (λ (o : ℕ). Run g src (60 ∷ (called.more ++ (o ∷ 46 ∷ 60 ∷ c.more))) feeds p b) k (run-then called.run (run-then next.run (run-then z.run c.run))) in
                let tokens : (ms : List ℕ) → tokens_from (no_part []) (60 ∷ (more ++ ms)) ≡ head_tokens true first last ++ tokens_from (no_part []) ms =
                (λ ms. ap (λ (o : List ℕ). tokens_from (no_part []) (60 ∷ o)) (append_assoc called.more (46 ∷ 46 ∷ 60 ∷ c.more) ms)
                ∙ called.tokens (46 ∷ 46 ∷ 60 ∷ (c.more ++ ms))
                ∙ ap (λ (o : List Token). token name [] (first ∷ []) ∷ o) (dots-name (c.more ++ ms) ∙ ap (λ (o : List Token). token word (46 ∷ 46 ∷ []) [] ∷ o) (c.tokens ms))) in
                record {
                  range = true;
                  more = more;
                  feeds = feeds;
                  run = run;
                  tokens = tokens;
                  one = λ o. clash refl o;
                  refusal = names-two first last ∙ rw (called.refusal, c.refusal) (sym u);
                  text = every_append is_text called.more (46 ∷ 46 ∷ 60 ∷ c.more) ∙ rw (called.text, dots-text c.more, c.text);
                  opens = opens-range tokens run;
                  mode = c.mode;
                  first_to = called.inside;
                  last-to = c.inside;
                  on = omega (arith, called.on, next.on, z.on, c.on);
                  to = c.to;
                }
              where
                opens-range : {more : List ℕ} {feeds : ℕ}
                    → ((ms : List ℕ) → tokens_from (no_part []) (60 ∷ (more ++ ms)) ≡ head_tokens true (name_left g src q) (name_left g src a) ++ tokens_from (no_part []) ms)
                    → Run g src (60 ∷ more) feeds p b → opens_entry (tokens_left g src p) ≡ byte_by opens_pair (tokens_left g src b)
                opens-range t o =
                    ap opens_entry (tokens-run g src p b (head_tokens true (name_left g src q) (name_left g src a)) t o)
                    ∙ range-then opens_pair (token name [] (name_left g src q ∷ [])) (token word (46 ∷ 46 ∷ []) []) (token name [] (name_left g src a ∷ [])) (tokens_left g src b) refl (range-is (name_left g src q) (name_left g src a))

-- ## Whether a name is text

-- The bytes of a name before q are text.
pub record Clean (g : Signs) (src : List ℕ) (p q : Spot) : Type 0 where
  pub rest : every is_text (name_left g src p) ≡ every is_text (name_left g src q)
  pub to : q.at ≤ length src

pub clean-none : (g : Signs) (src : List ℕ) (p : Spot) → p.at ≤ length src → Clean g src p p
clean-none g src p h = record { rest = refl; to = h }

module _ {g : Signs} {src : List ℕ} {p q : Spot} {s : NameStep} (v : Clean g src p q) (w : NameStepIs g src q s) where
  module _ {b : ℕ} {r : Spot} (e : s ≡ Byte b r) {x : ℕ} (i : x ≡ b) {t : Bool} (f : t ≡ is_text x) where
    text : t ≡ is_text b
    text = f ∙ ap is_text i

    pub clean-more : t ≡ true → Clean g src p r
    unfolding every
    clean-more y = let z = step-byte g src q w e in record { rest = v.rest ∙ rw (z.bytes, sym text ∙ y); to = z.to }

    pub clean-foul : t ≡ false → false ≡ every is_text (name_left g src p)
    unfolding every
    clean-foul y = let z = step-byte g src q w e in sym (v.rest ∙ rw (z.bytes, sym text ∙ y))

  clean_close : {r : Spot} → s ≡ Close r → true ≡ every is_text (name_left g src p)
  unfolding every
  clean_close e = sym (v.rest ∙ rw (step-close g src q w e))

  clean-open : s ≡ Open → true ≡ every is_text (name_left g src p)
  unfolding every
  clean-open e = sym (v.rest ∙ rw (step-open g src q w e))

-- where no byte comes, all are read
pub clean-all : {g : Signs} {src : List ℕ} {p q : Spot} (s : NameStep) → Clean g src p q → NameStepIs g src q s → ((b : ℕ) (r : Spot) → s ≡ Byte b r → ⊥)
    → true ≡ every is_text (name_left g src p)
clean-all (Byte b r) v w n = absurd (n b r refl)
clean-all (Close r) v w n = clean_close v w refl
clean-all Open v w n = clean-open v w refl
