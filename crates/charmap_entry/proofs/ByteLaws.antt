-- An entry's byte at a spot: a law for each way of the readers.
use Rattle.std.specs.Prelude.{None, Option, Some, ℕ}
use mathlib.Core.Path.{◌≡◌, refl, sym, ap, ◌∙◌, subst}
use mathlib.Core.Bool.{Bool, true, false, and-false}
use mathlib.Core.Logic.{◌⊎◌, ⊎_elim}
use mathlib.Core.List.{List, [], ◌∷◌, ◌++◌, append_cancel_right}
use Prim.Native.Nat.{ℕ, ◌+◌, ◌*◌, ◌≤◌, ◌<◌}
use native.Mathlib.Omega.{arith}
use lib.ListN.{length}
use borrow.Author.Tests.{ne_eqb}
use Rattle.base_lists.proofs.Bools.{by, and_intro}
use Rattle.rules.specs.Text.{every}
use Rattle.rules.specs.Names.{is_blank, is_any_hex, hex_value}
use Rattle.rules.specs.Tokens.{gap, broken, Token, token, token_at, no_part, tokens_from, without_blanks, without_opening_gaps}
use Rattle.rules.specs.Lines.{in_plain, after}
use Rattle.text_lines.specs.declared.Signs.{Signs}
use Rattle.text_lines.specs.declared.Spot.{Spot}
use Rattle.text_lines.specs.Stream.{marks_left, Run, MarkIs, StepIs}
use Rattle.text_lines.proofs.LineLaws.{run-marks}
use Rattle.text_lines.proofs.RunLaws.{run-then}
use Rattle.text_lines.proofs.SignLaws.{after-blank}
use Rattle.text_tokens.specs.Left.{tokens_left, Skips}
use Rattle.text_tokens.proofs.TokenLaws.{tokens_from-none, first-gap, in-word}
use Rattle.charmap_entry.specs.Entered.{plain_at, Glued, TailIs, byte_by, opens_pair, HexDigit, HexIs, starts_hex, TwoDigits, DigitsAre, PairIs, EscapedIs, GapIs}
use Rattle.charmap_entry.proofs.ShapeLaws.{is_gap}
use Rattle.charmap_entry.proofs.FirstLaws.{first-solid, first-no-escape}
use Rattle.charmap_entry.proofs.PairLaws.{hex-word, no-escape, no-digits, marks-no-digits, two-glued, escape-first, none-escape}

-- the mark that is read
pub mark-at : {g : Signs} {src : List ℕ} {p q : Spot} {s : Option (ℕ × Spot)} {m : ℕ} → StepIs g src p s → s ≡ Some (m, q) → MarkIs g src p m q
mark-at {g} {src} {p} v e = subst (StepIs g src p) e v

pub none-at : (g : Signs) (src : List ℕ) (p : Spot) {s : Option (ℕ × Spot)} → StepIs g src p s → s ≡ None → marks_left g src p ≡ []
none-at g src p v e = subst (StepIs g src p) e v

-- ## Two hex digits

-- a hex digit leaves plain mode as it is
hex-plain : (m : ℕ) → is_any_hex m ≡ true → (after in_plain m ≡ in_plain) × (is_blank m ≡ false)
unfolding after
hex-plain m h = let w = in-word m (hex-word m h) in (rw (w.name, w.quote), w.blank)

module _ (g : Signs) (src : List ℕ) (p : Spot) (o : p.mode ≡ in_plain) {s : Option (ℕ × Spot)} (v : StepIs g src p s) where
  pub digits-end : s ≡ None → starts_hex (marks_left g src p) ≡ false
  digits-end e = rw (none-at g src p v e)

  pub digits-to : {m : ℕ} {q : Spot} → s ≡ Some (m, q) → q.at ≤ length src
  digits-to e = (mark-at v e).to

  module _ {m : ℕ} {q : Spot} (e : s ≡ Some (m, q)) {c : Option ℕ} (a : HexIs m c) where
    pub digits-first : c ≡ None → starts_hex (marks_left g src p) ≡ false
    digits-first h = rw (mark-at v e).marks (go (marks_left g src q))
      where
        none : is_any_hex m ≡ false
        none = subst (HexIs m) h a

        go : (ms : List ℕ) → starts_hex (m ∷ ms) ≡ false
        go [] = refl
        go (n ∷ ms) = rw none

    module _ {x : ℕ} (h : c ≡ Some x) {t : Option (ℕ × Spot)} (w : StepIs g src q t) where
      pub digits-one : t ≡ None → starts_hex (marks_left g src p) ≡ false
      digits-one f = rw ((mark-at v e).marks, none-at g src q w f)

      module _ {n : ℕ} {r : Spot} (f : t ≡ Some (n, r)) {d : Option ℕ} (b : HexIs n d) where
        pub digits-second : d ≡ None → starts_hex (marks_left g src p) ≡ false
        digits-second k = let z : is_any_hex n ≡ false = subst (HexIs n) k b in rw ((mark-at v e).marks, (mark-at w f).marks, z) (and-false (is_any_hex m))

        pub digits-two : {y : ℕ} → d ≡ Some y → TwoDigits g src p (x * 16 + y) r
        unfolding hex_value
        digits-two {y} k =
            let one = mark-at v e in
            let other = mark-at w f in
            let c : HexDigit m x = subst (HexIs m) h a in
            let d : HexDigit n y = subst (HexIs n) k b in
            let i = hex-plain m c.hex in
            let j = hex-plain n d.hex in
            let u : q.mode ≡ in_plain = one.step.mode ∙ rw o i.0 in
            record {
              first = m;
              second = n;
              hex = c.hex;
              hex-second = d.hex;
              value = rw (← c.value, ← d.value) (omega arith);
              feeds = one.feeds + other.feeds;
              run = run-then one.run other.run;
              mode = other.step.mode ∙ rw u j.0;
              fresh = other.step.fresh ∙ j.1;
              on = omega (arith, one.on, other.on);
              to = other.to;
            }

-- ## Escape and `x`

module _ (g : Signs) (src : List ℕ) (p : Spot) (o : p.mode ≡ in_plain) {s : Option (ℕ × Spot)} (v : StepIs g src p s) where
  pub pair_end : s ≡ None → opens_pair (tokens_left g src p) ≡ false
  unfolding tokens_left
  pair_end e = rw (none-at g src p v e, tokens_from-none) (no-escape [] none-escape)

  module _ {m : ℕ} {q : Spot} (e : s ≡ Some (m, q)) where
    escape : MarkIs g src p m q
    escape = mark-at v e

    pub pair-other : (m ≡ 632 → ⊥) → opens_pair (tokens_left g src p) ≡ false
    unfolding tokens_left
    pair-other n = rw escape.marks (no-escape (tokens_from (no_part []) (m ∷ marks_left g src q)) (first-no-escape m (marks_left g src q) n))

    module _ (h : m ≡ 632) where
      pub pair-plain : (q.at ≤ length src) × (q.mode ≡ in_plain)
      unfolding after
      pair-plain = (escape.to, escape.step.mode ∙ rw (o, h))

      from-escape : tokens_left g src p ≡ token broken (120 ∷ []) [] ∷ tokens_left g src q
      unfolding tokens_left
      from-escape = rw (escape.marks, h) (escape-first (marks_left g src q))

      module _ {d : Option (ℕ × Spot)} (w : DigitsAre g src q d) where
        pub pair-no-digits : d ≡ None → opens_pair (tokens_left g src p) ≡ false
        unfolding tokens_left
        pair-no-digits f =
            let n : starts_hex (marks_left g src q) ≡ false = subst (DigitsAre g src q) f w in
            rw from-escape (no-digits (token broken (120 ∷ []) [] ∷ tokens_left g src q) (marks-no-digits (marks_left g src q) n))

        module _ {b : ℕ} {r : Spot} (f : d ≡ Some (b, r)) where
          digits : TwoDigits g src q b r
          digits = subst (DigitsAre g src q) f w

          pub pair-to : r.at ≤ length src
          pair-to = digits.to

          -- the spot after the digits
          behind : marks_left g src r ≡ marks_left g src (plain_at r.at)
          behind = ap (λ (x : Spot). marks_left g src x) (λ i. record { at = r.at; mode = digits.mode i; fresh = digits.fresh i })

          module _ {t : Option ℕ} (k : TailIs g src r.at t) where
            pub pair-glued : t ≡ None → opens_pair (tokens_left g src p) ≡ false
            unfolding tokens_left
            pair-glued i =
                let z : Glued g src (plain_at r.at) = subst (TailIs g src r.at) i k in
                let ms : marks_left g src q ≡ digits.first ∷ digits.second ∷ z.mark ∷ z.rest =
                run-marks g src q digits.run ∙ ap (λ (l : List ℕ). digits.first ∷ digits.second ∷ l) (behind ∙ z.is) in
                rw (from-escape, ms) (two-glued digits.first digits.second digits.hex digits.hex-second (token broken (120 ∷ []) []) z.mark z.rest z.solid)

            pub pair_found : {i : ℕ} → t ≡ Some i → PairIs g src p b i
            pair_found {i} j =
                record {
                  first = digits.first;
                  second = digits.second;
                  hex = digits.hex;
                  hex-second = digits.hex-second;
                  value = digits.value;
                  stop = r;
                  feeds = escape.feeds + digits.feeds;
                  run = subst (λ (u : ℕ). Run g src (u ∷ digits.first ∷ digits.second ∷ []) (escape.feeds + digits.feeds) p r) h (run-then escape.run digits.run);
                  mode = digits.mode;
                  fresh = digits.fresh;
                  on = omega (arith, escape.on, digits.on);
                  closing = subst (TailIs g src r.at) j k;
                }

-- ## Blanks before it

-- what is before marks without their blanks is blanks
opening : (ms : List ℕ) → (bs : List ℕ) × (every is_blank bs ≡ true) × (ms ≡ bs ++ without_blanks ms)
unfolding without_blanks every
opening [] = ([], refl, refl)
opening (m ∷ ms) =
    by (is_blank m)
    (λ t. let r = opening ms in (m ∷ r.0, and_intro t r.1, rw t (ap (λ (x : List ℕ). m ∷ x) r.2)))
    (λ t. ([], refl, rw t))

pub skips-blanks : {g : Signs} {src : List ℕ} {p q : Spot} (v : Skips g src p q) → every is_blank v.walk.passed ≡ true
skips-blanks {g} {src} {p} {q} v =
    let ms = marks_left g src p in
    let bs = v.walk.passed in
    let r = opening ms in
    let e : ms ≡ bs ++ without_blanks ms = run-marks g src p v.walk.run ∙ ap (λ (x : List ℕ). bs ++ x) v.marks in
    rw (append_cancel_right bs r.0 (without_blanks ms) (sym e ∙ r.2)) r.1

none-gap : (p : List Token → Bool) → byte_by p [] ≡ false
unfolding byte_by
none-gap p = refl

pub no_gap : (p : List Token → Bool) (ts : List Token) → is_gap (token_at ts 0) ≡ false → byte_by p ts ≡ false
unfolding byte_by
no_gap p ts h = rw h

after-gap : (p : List Token → Bool) (ts : List Token) → byte_by p (token gap [] [] ∷ ts) ≡ p (without_opening_gaps ts)
unfolding byte_by without_opening_gaps
after-gap p ts = refl

module _ (g : Signs) (src : List ℕ) (p : Spot) (o : p.mode ≡ in_plain) {s : Option (ℕ × Spot)} (v : StepIs g src p s) where
  pub gap-end : s ≡ None → byte_by opens_pair (tokens_left g src p) ≡ false
  unfolding tokens_left
  gap-end e = rw (none-at g src p v e, tokens_from-none) (none-gap opens_pair)

  module _ {m : ℕ} {q : Spot} (e : s ≡ Some (m, q)) where
    blank : MarkIs g src p m q
    blank = mark-at v e

    pub gap_other : (m ≡ 32 → ⊥) × (m ≡ 9 → ⊥) → byte_by opens_pair (tokens_left g src p) ≡ false
    unfolding tokens_left
    gap_other n =
        rw blank.marks
        (no_gap opens_pair (tokens_from (no_part []) (m ∷ marks_left g src q)) (first-solid m (marks_left g src q) (simp (ne_eqb m 32 n.0, ne_eqb m 9 n.1))))

    module _ (z : (m ≡ 32) ⊎ ((m ≡ 32 → ⊥) × (m ≡ 9))) where
      is_gap-mark : is_blank m ≡ true
      is_gap-mark = ⊎_elim (λ t. rw t) (λ t. rw t.1) z

      pub gap-plain : (q.at ≤ length src) × (q.mode ≡ in_plain)
      gap-plain = (blank.to, blank.step.mode ∙ rw o (after-blank m is_gap-mark))

      pub gap-byte : {r : Spot} → Skips g src q r → (b : Option (ℕ × ℕ)) → EscapedIs g src r b → GapIs g src p b
      unfolding tokens_left
      gap-byte {r} w (Some (x, i)) k =
          record {
            gap = m;
            gaps = w.walk.passed;
            blank = is_gap-mark;
            blanks = skips-blanks w;
            next = r;
            feeds = blank.feeds + w.walk.feeds;
            run = run-then blank.run w.walk.run;
            on = omega (arith, blank.on, w.from);
            pair = k;
          }
      gap-byte {r} w None k =
          rw (blank.marks, first-gap m (marks_left g src q) is_gap-mark) (after-gap opens_pair (tokens_left g src q) ∙ ap opens_pair (sym w.tokens) ∙ k)
