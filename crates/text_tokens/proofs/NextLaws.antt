-- One token at a spot: a law for each kind, and for what is malformed.
use Rattle.std.specs.Prelude.{None, Option, Some, ℕ}
use mathlib.Core.Path.{◌≡◌, refl, sym, ◌∙◌, subst}
use mathlib.Core.Bool.{true, false}
use mathlib.Core.Logic.{◌⊎◌, inl, inr}
use mathlib.Core.List.{List, [], ◌∷◌}
use Prim.Native.Nat.{ℕ, ◌-◌, ◌≤◌, ◌<◌}
use native.Mathlib.Omega.{arith}
use lib.ListN.{length}
use borrow.Author.Tests.{ne_eqb}
use Rattle.rules.specs.Text.{one_of, lower, lowest}
use Rattle.rules.specs.Names.{names_refusal}
use Rattle.rules.specs.Lines.{in_plain, quoted, after}
use Rattle.rules.specs.Tokens.{broken, word, name, quote, Token, token, no_part, in_word, tokens_from, tokens_refusal, lex_end}
use Rattle.base_units.specs.declared.Refusal.{Refusal}
use Rattle.base_units.specs.declared.Refusal.TheVariants.{Malformed}
use Rattle.text_lines.specs.declared.Signs.{Signs}
use Rattle.text_lines.specs.declared.Spot.{Spot}
use Rattle.text_lines.specs.Stream.{marks_left, Walk, MarkIs, StepIs}
use Rattle.text_lines.proofs.RunLaws.{walk_none, walk-then, mark-walk}
use Rattle.text_tokens.specs.declared.Tok.{Tok}
use Rattle.text_tokens.specs.Left.{tokens_left, token_there, word_in, is_close, is_inside, name_in, names_in, WordEnds, NameEnds, ClosingIs, QuotesEnd, QuotesIs, bare_at, named_at, TokenIs}
use Rattle.text_tokens.proofs.WordLaws.{unblank, wide-unblank}
use Rattle.text_tokens.proofs.TokenLaws.{first-gap, first-semi, first-comma, first-name, first-quote, first-dead, first-word, word-whole, name-closed, name-open}
use Rattle.text_tokens.proofs.RefusalLaws.{refusal-broken, refusal-name, refusal-empty, refusal-quote, tokens_refusal-cons, three-first}
use Rattle.text_tokens.proofs.WordLaws.{in-word-yes}

-- a token with no name that is neither malformed nor quotes gives no refusal
refusal-bare : (k : ℕ) (t : List ℕ) → (k ≡ broken → ⊥) → (k ≡ quote → ⊥) → tokens_refusal (token k t [] ∷ []) ≡ 0
unfolding tokens_refusal names_refusal lowest lower
refusal-bare k t h l = simp (ne_eqb k 3 h, ne_eqb k 6 l)

module _ (g : Signs) (src : List ℕ) (p : Spot) where
  there : {t : Token} {ts : List Token} → tokens_left g src p ≡ t ∷ ts → token_there g src p ≡ t
  unfolding token_there
  there e = rw e

  first : {t : Token} {ts : List Token} → tokens_left g src p ≡ t ∷ ts → tokens_left g src p ≡ token_there g src p ∷ ts
  first e = rw (there e) e

  -- a separator or a blank
  bare-token : {q : Spot} (k : ℕ) → k ≤ 2 → tokens_left g src p ≡ token k [] [] ∷ tokens_left g src q → q.mode ≡ in_plain → Walk g src p q → p.at < q.at → q.at ≤ length src
      → TokenIs g src p (bare_at k q)
  bare-token {q} k h e m v l n =
      let t = there e in
      record {
        first = first e;
        kind = rw t;
        names = rw t;
        refusal = rw t (refusal-bare k [] (λ z. omega arith) (λ z. omega arith));
        dead = λ z. absurd (omega arith);
        word = λ z. absurd (omega arith);
        name = λ z. absurd (omega arith);
        quote = λ z. absurd (omega arith);
        name-mode = λ z. absurd (omega arith);
        quote-mode = λ z. absurd (omega arith);
        plain = m;
        edge = λ z. absurd (omega arith);
        long-word = λ z. absurd (omega arith);
        long-name = λ z. absurd (omega arith);
        walk = v;
        enter = v;
        leave = walk_none g src q;
        on = l;
        to = n;
        inside = n;
      }

  pub next-end : {s : Option (ℕ × Spot)} → StepIs g src p s → s ≡ None → tokens_left g src p ≡ []
  unfolding tokens_left tokens_from lex_end
  next-end v e = let n : marks_left g src p ≡ [] = subst (StepIs g src p) e v in rw n

  module _ {s : Option (ℕ × Spot)} {m : ℕ} {q : Spot} (o : p.mode ≡ in_plain) (v : StepIs g src p s) (e : s ≡ Some (m, q)) where
    mark : MarkIs g src p m q
    mark = subst (StepIs g src p) e v

    -- the tokens from the first mark on
    from-mark : tokens_left g src p ≡ tokens_from (no_part []) (m ∷ marks_left g src q)
    unfolding tokens_left
    from-mark = rw mark.marks

    -- in plain mode only `<` and `"` leave it
    stays : (m ≡ 60 → ⊥) → (m ≡ 34 → ⊥) → q.mode ≡ in_plain
    unfolding after
    stays h k = mark.step.mode ∙ rw o (simp (ne_eqb m 60 h, ne_eqb m 34 k))

    -- ### Separators and blanks

    one : (k : ℕ) → k ≤ 2 → (m ≡ 60 → ⊥) → (m ≡ 34 → ⊥) → tokens_from (no_part []) (m ∷ marks_left g src q) ≡ token k [] [] ∷ tokens_from (no_part []) (marks_left g src q)
        → {t : Tok} → t ≡ bare_at k q → TokenIs g src p t
    unfolding tokens_left
    one k l h i f {t} j = rw j (bare-token k l (from-mark ∙ f) (stays h i) (mark-walk mark) mark.on mark.to)

    pub next-semi : m ≡ 59 → {t : Tok} → t ≡ bare_at 1 q → TokenIs g src p t
    next-semi h = one 1 (omega arith) (λ z. omega arith) (λ z. omega arith) (first-semi m (marks_left g src q) h)

    pub next-comma : m ≡ 44 → {t : Tok} → t ≡ bare_at 2 q → TokenIs g src p t
    next-comma h = one 2 (omega arith) (λ z. omega arith) (λ z. omega arith) (first-comma m (marks_left g src q) h)

    pub next-gap : (m ≡ 9) ⊎ (m ≡ 32) → {t : Tok} → t ≡ bare_at 0 q → TokenIs g src p t
    next-gap (inl h) = one 0 (omega arith) (λ z. omega arith) (λ z. omega arith) (first-gap m (marks_left g src q) (rw h))
    next-gap (inr h) = one 0 (omega arith) (λ z. omega arith) (λ z. omega arith) (first-gap m (marks_left g src q) (rw h))

    -- ### An escape pair

    pub next-dead : 256 ≤ m → TokenIs g src p (record { kind = 3; next = q; inside = q; names = 0; refusal = Some Malformed; byte = m - 512 })
    unfolding tokens_left
    next-dead h =
        let f : tokens_left g src p ≡ token broken ((m - 512) ∷ []) [] ∷ tokens_left g src q = from-mark ∙ first-dead m (marks_left g src q) (mark.step.dead o h) in
        let t = there f in
        record {
          first = first f;
          kind = rw t;
          names = rw t;
          refusal = rw t (refusal-broken (token broken ((m - 512) ∷ []) []) [] refl);
          dead = λ z. rw t;
          word = λ z. absurd (omega arith);
          name = λ z. absurd (omega arith);
          quote = λ z. absurd (omega arith);
          name-mode = λ z. absurd (omega arith);
          quote-mode = λ z. absurd (omega arith);
          plain = stays (λ z. omega arith) (λ z. omega arith);
          edge = λ z. mark.step.fresh ∙ wide-unblank m h;
          long-word = λ z. absurd (omega arith);
          long-name = λ z. absurd (omega arith);
          walk = mark-walk mark;
          enter = mark-walk mark;
          leave = walk_none g src q;
          on = mark.on;
          to = mark.to;
          inside = mark.to;
        }

    -- ### A word

    module _ (h : m < 256) (a : m ≡ 32 → ⊥) (b : m ≡ 9 → ⊥) (c : m ≡ 59 → ⊥) (d : m ≡ 44 → ⊥) (f : m ≡ 60 → ⊥) (i : m ≡ 34 → ⊥) where
      goes_on : in_word m ≡ true
      goes_on = sym (in-word-yes m h a b c d f) ∙ simp (ne_eqb m 34 i)

      pub next-word-plain : (q.at ≤ length src) × (q.mode ≡ in_plain)
      next-word-plain = (mark.to, stays f i)

      pub next_word : {r : Spot} {t : Tok} → WordEnds g src q r → t ≡ bare_at 4 r → TokenIs g src p t
      unfolding tokens_left word_in
      next_word {r} {t} w j =
          let ms = marks_left g src q in
          let k : tokens_left g src p ≡ token word (m ∷ word_in ms) [] ∷ tokens_left g src r =
          from-mark ∙ first-word m ms goes_on ∙ word-whole (m ∷ []) ms ∙ rw w.after in
          let t = there k in
          rw j (record {
            first = first k;
            kind = rw t;
            names = rw t;
            refusal = rw t (refusal-bare 4 (m ∷ word_in ms) (λ z. omega arith) (λ z. omega arith));
            dead = λ z. absurd (omega arith);
            word = λ z. rw (t, mark.marks, goes_on);
            name = λ z. absurd (omega arith);
            quote = λ z. absurd (omega arith);
            name-mode = λ z. absurd (omega arith);
            quote-mode = λ z. absurd (omega arith);
            plain = w.mode;
            edge = λ z. w.edge (mark.step.fresh ∙ unblank m goes_on);
            long-word = λ z. rw t (omega (arith, w.long, mark.on));
            long-name = λ z. absurd (omega arith);
            walk = walk-then (mark-walk mark) w.walk;
            enter = walk-then (mark-walk mark) w.walk;
            leave = walk_none g src _;
            on = omega (arith, mark.on, w.from);
            to = w.to;
            inside = w.to;
          })

    -- ### A name

    module _ (h : m ≡ 60) where
      pub next-name-inside : (q.at ≤ length src) × (is_inside q.mode ≡ true)
      unfolding after
      next-name-inside = (mark.to, rw (mark.step.mode, o, h))

      module _ {c : Option (Option Refusal × Spot)} (k : ClosingIs g src q c) where
        pub next-name-open : c ≡ None → tokens_refusal (tokens_left g src p) ≡ 3
        next-name-open f =
            let z : one_of is_close (marks_left g src q) ≡ false = subst (ClosingIs g src q) f k in
            rw (from-mark, first-name m (marks_left g src q) h, name-open [] (marks_left g src q) z) (refusal-broken (token broken [] []) [] refl)

        pub next-name : {f : Option Refusal} {r : Spot} → c ≡ Some (f, r) → {t : Tok} → t ≡ named_at f q r → TokenIs g src p t
        unfolding tokens_left after
        next-name {f} {r} i j =
            let z : NameEnds g src q f r = subst (ClosingIs g src q) i k in
            let ms = marks_left g src q in
            let l : tokens_left g src p ≡ token name [] (name_in ms ∷ []) ∷ tokens_left g src r =
            from-mark ∙ first-name m ms h ∙ name-closed [] ms z.closes ∙ rw z.after in
            let t = there l in
            rw j (record {
              first = first l;
              kind = rw t;
              names = rw t;
              refusal = rw t (refusal-name (name_in ms) ∙ z.refusal);
              dead = λ x. absurd (omega arith);
              word = λ x. absurd (omega arith);
              name = λ x. rw t;
              quote = λ x. absurd (omega arith);
              name-mode = λ x. rw (mark.step.mode, o, h);
              quote-mode = λ z. absurd (omega arith);
              plain = z.mode ∙ rw (mark.step.mode, o, h);
              edge = λ x. z.edge;
              long-word = λ x. absurd (omega arith);
              long-name = λ x. z.long;
              walk = walk-then (mark-walk mark) z.walk;
              enter = mark-walk mark;
              leave = z.walk;
              on = omega (arith, mark.on, z.on);
              to = z.to;
              inside = mark.to;
            })

    -- ### Quotes

    module _ (h : m ≡ 34) where
      pub next-quote-inside : (q.at ≤ length src) × (q.mode ≡ quoted)
      unfolding after
      next-quote-inside = (mark.to, rw (mark.step.mode, o, h))

      module _ {c : Option (ℕ × Option Refusal × Spot)} (k : QuotesIs g src q c) where
        pub next-quote-broken : c ≡ None → tokens_refusal (tokens_left g src p) ≡ 3
        next-quote-broken f = rw (from-mark, first-quote m (marks_left g src q) h) (subst (QuotesIs g src q) f k)

        module _ {n : ℕ} {f : Option Refusal} {r : Spot} (i : c ≡ Some (n, f, r)) where
          closed : QuotesEnd g src q n f r
          closed = subst (QuotesIs g src q) i k

          from-quote : tokens_left g src p ≡ token quote [] (names_in (marks_left g src q)) ∷ tokens_left g src r
          from-quote = from-mark ∙ first-quote m (marks_left g src q) h ∙ closed.token

          pub next-quote-empty : n ≤ 0 → tokens_refusal (tokens_left g src p) ≡ 3
          next-quote-empty j =
              let ns = names_in (marks_left g src q) in
              rw from-quote
              (tokens_refusal-cons (token quote [] ns) (tokens_left g src r)
              ∙ rw (refusal-empty ns (omega (arith, closed.many))) (three-first (tokens_left g src r)))

          pub next-quote : 0 < n → TokenIs g src p (record { kind = 6; next = r; inside = q; names = n; refusal = f; byte = 0 })
          unfolding after
          next-quote j =
              let ns = names_in (marks_left g src q) in
              let t = there from-quote in
              record {
                first = first from-quote;
                kind = rw t;
                names = rw t closed.many;
                refusal = rw t (refusal-quote ns (λ z. omega (arith, closed.many)) ∙ closed.refusal);
                dead = λ x. absurd (omega arith);
                word = λ x. absurd (omega arith);
                name = λ x. absurd (omega arith);
                quote = λ x. rw t;
                name-mode = λ z. absurd (omega arith);
                quote-mode = λ x. rw (mark.step.mode, o, h);
                plain = closed.mode;
                edge = λ x. closed.edge;
                long-word = λ x. absurd (omega arith);
                long-name = λ x. absurd (omega arith);
                walk = walk-then (mark-walk mark) closed.walk;
                enter = mark-walk mark;
                leave = closed.walk;
                on = omega (arith, mark.on, closed.on);
                to = closed.to;
                inside = mark.to;
              }
