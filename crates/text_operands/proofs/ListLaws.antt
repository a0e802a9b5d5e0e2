-- Tokens without gaps (Rattle.rules.specs.Tokens, without_gaps, operands): what the first token gives, and what is malformed.
use mathlib.Core.Path.{◌≡◌, refl, sym, ap, ◌∙◌}
use mathlib.Core.Logic.{◌⊎◌, inl, inr}
use mathlib.Core.Bool.{Bool, true, false, not, ◌&&◌, false≢true}
use mathlib.Core.List.{List, [], ◌∷◌, ◌++◌}
use Prim.Native.Nat.{ℕ}
use native.Mathlib.Omega.{arith}
use lib.ListN.{length}
use lib.Dec.{eqb, leb, ltb}
use borrow.Author.Tests.{eqb-true, eqb-false, ne_eqb}
use Rattle.base_lists.proofs.Bools.{by, clash, cond_both, and_intro, and_left, and_right}
use Rattle.base_lists.proofs.Lists.{length-zero}
use Rattle.rules.specs.Text.{every, lower, lowest}
use Rattle.rules.specs.Names.{names_refusal}
use Rattle.rules.specs.Tokens.{gap, broken, word, Token, token, token_at, no_part, tokens_from, without_blanks, without_opening_gaps, is_solid, single, without_gaps, operands, tokens_refusal}
use Rattle.rules.proofs.TextLaws.{every-head, every-tail}
use Rattle.text_lines.specs.Stream.{blank_first}
use Rattle.text_tokens.proofs.TokenLaws.{first-gap}
use Rattle.text_tokens.proofs.GapLaws.{Kept, opening-gaps}
use Rattle.text_tokens.proofs.RefusalLaws.{lower-none-left, lower-assoc, tokens_refusal-cons, refusal-broken, three-first, refusal-later}
use Rattle.text_operands.proofs.TidyLaws.{tidy}

-- ## The first token

module _ (glued : Bool) (t : Token) (ts : List Token) where
  pub gaps-gap : t.kind ≡ gap → without_gaps glued (t ∷ ts) ≡ without_gaps false ts
  unfolding without_gaps
  gaps-gap e = rw e

  -- it is no gap, and not glued to one that is no separator
  pub gaps-cons : (t.kind ≡ gap → ⊥) → (glued && is_solid t) ≡ false → without_gaps glued (t ∷ ts) ≡ t ∷ without_gaps (is_solid t) ts
  unfolding without_gaps
  gaps-cons h e = simp (ne_eqb t.kind gap h, e)

  pub gaps-glued : glued ≡ true → is_solid t ≡ true → tokens_refusal (without_gaps glued (t ∷ ts)) ≡ 3
  unfolding without_gaps
  gaps-glued e f =
      by (eqb t.kind gap)
      (λ z. let k = eqb-true t.kind gap z in clash {a = is_solid t} f (rw k))
      (λ z. rw (z, e, f) (refusal-broken (token broken [] []) (t ∷ without_gaps true ts) refl))

  pub gaps-broken : t.kind ≡ broken → tokens_refusal (without_gaps glued (t ∷ ts)) ≡ 3
  gaps-broken e =
      by (glued && is_solid t)
      (λ z. gaps-glued (and_left glued (is_solid t) z) (and_right glued (is_solid t) z))
      (λ z. rw (gaps-cons (λ h. omega arith) z) (refusal-broken t (without_gaps (is_solid t) ts) e))

-- ## The gaps that open a line

pub gaps-opening : (ts : List Token) → without_gaps false (without_opening_gaps ts) ≡ without_gaps false ts
unfolding without_opening_gaps
gaps-opening [] = refl
gaps-opening (t ∷ ts) =
    by (eqb t.kind gap) (λ e. rw e (gaps-opening ts ∙ sym (gaps-gap false t ts (eqb-true t.kind gap e)))) (λ e. rw e)

-- what is left begins with no gap
pub opening-kind : (ts : List Token) → eqb (token_at (without_opening_gaps ts) 0).kind gap ≡ false
unfolding without_opening_gaps
opening-kind [] = refl
opening-kind (t ∷ ts) = by (eqb t.kind gap) (λ e. rw e (opening-kind ts)) (λ e. rw e e)

-- where no blank comes first
pub blankless : (ms : List ℕ) → blank_first ms ≡ false → without_blanks ms ≡ ms
unfolding without_blanks
blankless [] h = refl
blankless (m ∷ ms) h = rw h

-- past the blanks a token is no longer glued to one before them
pub gaps-blanks : (glued : Bool) (ms : List ℕ)
    → without_gaps glued (tokens_from (no_part []) ms) ≡ without_gaps (glued && not (blank_first ms)) (tokens_from (no_part []) (without_blanks ms))
gaps-blanks glued ms = by (blank_first ms) (yes ms) (no ms)
  where
    false-last : (a : Bool) → (a && false) ≡ false
    false-last true = refl
    false-last false = refl

    true-last : (a : Bool) → (a && true) ≡ a
    true-last true = refl
    true-last false = refl

    yes : (ms : List ℕ) → blank_first ms ≡ true
        → without_gaps glued (tokens_from (no_part []) ms) ≡ without_gaps (glued && not (blank_first ms)) (tokens_from (no_part []) (without_blanks ms))
    yes [] h = absurd (false≢true h)
    yes (m ∷ ms) h =
        let e = first-gap m ms h in
        rw (h, false-last glued, opening-gaps (m ∷ ms), gaps-opening (tokens_from (no_part []) (m ∷ ms)), e)
        (gaps-gap glued (token gap [] []) (tokens_from (no_part []) ms) refl ∙ sym (gaps-gap false (token gap [] []) (tokens_from (no_part []) ms) refl))

    no : (ms : List ℕ) → blank_first ms ≡ false
        → without_gaps glued (tokens_from (no_part []) ms) ≡ without_gaps (glued && not (blank_first ms)) (tokens_from (no_part []) (without_blanks ms))
    no ms h = rw (h, true-last glued, blankless ms h)

-- ## What is malformed stays so

-- of two refusals the lower is one of them
lower-one : (a b c : ℕ) → lower a b ≡ c → (a ≡ c) ⊎ (b ≡ c)
unfolding lower
lower-one a b c h =
    by (eqb a 0) (λ e. inr (rw e at h)) (λ e.
    by (eqb b 0) (λ f. inl (rw (e, f) at h)) (λ f.
    by (ltb a b) (λ l. inl (rw (e, f, l) at h)) (λ l. inr (rw (e, f, l) at h))))

-- a gap with no names gives no refusal
refusal-gap : (t : Token) → t.kind ≡ gap → tidy t ≡ true → tokens_refusal (t ∷ []) ≡ 0
unfolding tokens_refusal names_refusal lowest lower
refusal-gap t e h = let n = length-zero t.names (eqb-true (length t.names) 0 (rw e at h)) in rw (e, n)

pub none-refused : tokens_refusal [] ≡ 0
unfolding tokens_refusal
none-refused = refl

pub nothing : tokens_refusal [] ≡ 3 → ⊥
unfolding tokens_refusal
nothing z = omega arith

pub gaps-refusal : (glued : Bool) (ts : List Token) → every tidy ts ≡ true → tokens_refusal ts ≡ 3 → tokens_refusal (without_gaps glued ts) ≡ 3
gaps-refusal glued [] h e = absurd (nothing e)
gaps-refusal glued (t ∷ ts) h e = split (λ z g. gaps-refusal g ts (every-tail tidy t ts h) z) (lower-one (tokens_refusal (t ∷ [])) (tokens_refusal ts) 3 (sym (tokens_refusal-cons t ts) ∙ e))
  where
    kept : tokens_refusal (t ∷ without_gaps (is_solid t) ts) ≡ 3 → (t.kind ≡ gap → ⊥) → tokens_refusal (without_gaps glued (t ∷ ts)) ≡ 3
    kept z n =
        by (glued && is_solid t)
        (λ a. gaps-glued glued t ts (and_left glued (is_solid t) a) (and_right glued (is_solid t) a))
        (λ a. rw (gaps-cons glued t ts n a) z)

    split : (tokens_refusal ts ≡ 3 → (g : Bool) → tokens_refusal (without_gaps g ts) ≡ 3)
        → (tokens_refusal (t ∷ []) ≡ 3) ⊎ (tokens_refusal ts ≡ 3) → tokens_refusal (without_gaps glued (t ∷ ts)) ≡ 3
    split rest (inl z) =
        kept (tokens_refusal-cons t (without_gaps (is_solid t) ts) ∙ rw z (three-first (without_gaps (is_solid t) ts)))
        (λ k. let n = refusal-gap t k (every-head tidy t ts h) in omega arith)
    split rest (inr z) =
        by (eqb t.kind gap)
        (λ k. rw (gaps-gap glued t ts (eqb-true t.kind gap k)) (rest z false))
        (λ k. kept (refusal-later t (without_gaps (is_solid t) ts) (rest z (is_solid t))) (eqb-false t.kind gap k))

pub gaps-tidy : (glued : Bool) (ts : List Token) → every tidy ts ≡ true → every tidy (without_gaps glued ts) ≡ true
unfolding without_gaps every
gaps-tidy glued [] h = refl
gaps-tidy glued (t ∷ ts) h =
    let r = gaps-tidy (is_solid t) ts (every-tail tidy t ts h) in
    let f = every-head tidy t ts h in
    let P : List Token → Type 0 = λ us. every tidy us ≡ true in
    cond_both P (eqb t.kind gap) r
    (cond_both P (glued && is_solid t) (and_intro f r) (and_intro f r))

-- ## What follows the first token

module _ (t : Token) (ts : List Token) where
  pub operands-gap : t.kind ≡ gap → operands (t ∷ ts) ≡ without_gaps false ts
  unfolding operands
  operands-gap e = rw e

  -- no blank stands before it
  pub operands-solid : (t.kind ≡ gap → ⊥) → operands (t ∷ ts) ≡ token broken [] [] ∷ []
  unfolding operands
  operands-solid h = simp (ne_eqb t.kind gap h)

pub operands-blank : (ms : List ℕ) → blank_first ms ≡ true → operands (tokens_from (no_part []) ms) ≡ without_gaps false (tokens_from (no_part []) ms)
operands-blank [] h = absurd (false≢true h)
operands-blank (m ∷ ms) h =
    let ts = tokens_from (no_part []) ms in
    rw (first-gap m ms h) (operands-gap (token gap [] []) ts refl ∙ sym (gaps-gap false (token gap [] []) ts refl))

pub operands-refusal : (ts : List Token) → every tidy ts ≡ true → tokens_refusal ts ≡ 3 → tokens_refusal (operands ts) ≡ 3
operands-refusal [] h e = absurd (nothing e)
operands-refusal (t ∷ ts) h e =
    by (eqb t.kind gap)
    (λ k. let z = eqb-true t.kind gap k in
    let n = refusal-gap t z (every-head tidy t ts h) in
    let l : tokens_refusal ts ≡ 3 = sym (lower-none-left (tokens_refusal ts)) ∙ ap (λ (r : ℕ). lower r (tokens_refusal ts)) (sym n) ∙ sym (tokens_refusal-cons t ts) ∙ e in
    rw (operands-gap t ts z) (gaps-refusal false ts (every-tail tidy t ts h) l))
    (λ k. rw (operands-solid t ts (eqb-false t.kind gap k)) (refusal-broken (token broken [] []) [] refl))

-- where no blank comes first and there are tokens
pub operands-none : (ts : List Token) → eqb (token_at ts 0).kind gap ≡ false → tokens_refusal ts ≡ 3 → operands ts ≡ token broken [] [] ∷ []
operands-none [] h e = absurd (nothing e)
operands-none (t ∷ ts) h e = operands-solid t ts (eqb-false t.kind gap h)

-- the first token and the operands of a line
pub line-refusal : (t : Token) (ts : List Token) → every tidy (t ∷ ts) ≡ true → tokens_refusal (t ∷ ts) ≡ 3 → tokens_refusal (t ∷ operands ts) ≡ 3
line-refusal t ts h e = split (lower-one (tokens_refusal (t ∷ [])) (tokens_refusal ts) 3 (sym (tokens_refusal-cons t ts) ∙ e))
  where
    split : (tokens_refusal (t ∷ []) ≡ 3) ⊎ (tokens_refusal ts ≡ 3) → tokens_refusal (t ∷ operands ts) ≡ 3
    split (inl z) = tokens_refusal-cons t (operands ts) ∙ rw z (three-first (operands ts))
    split (inr z) = refusal-later t (operands ts) (operands-refusal ts (every-tail tidy t ts h) z)

-- ## One token

pub single-first : (k : ℕ) (t : Token) (ts : List Token) → eqb t.kind k ≡ false → single k (t ∷ ts) ≡ false
single-first k t [] h = h
single-first k t (u ∷ ts) h = refl

pub single_more : (k : ℕ) (t : Token) (ts : List Token) → eqb (length ts) 0 ≡ false → single k (t ∷ ts) ≡ false
single_more k t [] h = absurd (false≢true (sym h))
single_more k t (u ∷ ts) h = refl

-- a tidy word gives no refusal
pub word-refusal : (t : Token) → t.kind ≡ word → tidy t ≡ true → tokens_refusal (t ∷ []) ≡ 0
unfolding tokens_refusal names_refusal lowest lower
word-refusal t e h =
    let n = length-zero t.names (eqb-true (length t.names) 0 (and_right (leb 1 (length t.text)) (eqb (length t.names) 0) (rw e at h))) in
    rw (e, n)

pub single-broken : (ts : List Token) → every tidy ts ≡ true → tokens_refusal ts ≡ 3 → single word ts ≡ false
single-broken [] h e = refl
single-broken (t ∷ []) h e =
    by (eqb t.kind word)
    (λ k. absurd (let z = word-refusal t (eqb-true t.kind word k) (every-head tidy t [] h) in omega arith))
    (λ k. k)
single-broken (t ∷ u ∷ ts) h e = refl

pub some : (t : Token) (ts : List Token) → eqb (length (t ∷ ts)) 0 ≡ false
some t ts = ne_eqb (length (t ∷ ts)) 0 (λ e. omega arith)

pub none-broken : (ts : List Token) → tokens_refusal ts ≡ 3 → eqb (length ts) 0 ≡ false
none-broken [] e = absurd (nothing e)
none-broken (t ∷ ts) e = some t ts

-- a token that is no gap leaves one
pub some-kept : (glued : Bool) {ts : List Token} → Kept ts → eqb (length (without_gaps glued ts)) 0 ≡ false
some-kept glued k =
    let t = k.opens in
    rw k.whole
    (by (glued && is_solid t)
    (λ a. none-broken (without_gaps glued (t ∷ k.rest)) (gaps-glued glued t k.rest (and_left glued (is_solid t) a) (and_right glued (is_solid t) a)))
    (λ a. rw (gaps-cons glued t k.rest k.seen a) (some t (without_gaps (is_solid t) k.rest))))

-- ## Refusals of lists

pub refusal-snoc : (ts : List Token) (t : Token) → tokens_refusal (ts ++ t ∷ []) ≡ lower (tokens_refusal ts) (tokens_refusal (t ∷ []))
refusal-snoc [] t = rw none-refused (sym (lower-none-left (tokens_refusal (t ∷ []))))
refusal-snoc (u ∷ ts) t =
    tokens_refusal-cons u (ts ++ t ∷ [])
    ∙ ap (λ (r : ℕ). lower (tokens_refusal (u ∷ [])) r) (refusal-snoc ts t)
    ∙ sym (lower-assoc (tokens_refusal (u ∷ [])) (tokens_refusal ts) (tokens_refusal (t ∷ [])))
    ∙ ap (λ (r : ℕ). lower r (tokens_refusal (t ∷ []))) (sym (tokens_refusal-cons u ts))

pub refusal-behind : (us ts : List Token) → tokens_refusal ts ≡ 3 → tokens_refusal (us ++ ts) ≡ 3
refusal-behind [] ts h = h
refusal-behind (u ∷ us) ts h = refusal-later u (us ++ ts) (refusal-behind us ts h)
