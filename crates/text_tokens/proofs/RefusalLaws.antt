-- Refusals of tokens (Rattle.rules.specs.Text, Names, Tokens): the lower of several, and that a malformed token gives 3 whatever else stands.
use mathlib.Core.Path.{◌≡◌, refl, sym, ap, ◌∙◌}
use mathlib.Core.Bool.{not, ◌&&◌, ◌||◌}
use mathlib.Core.List.{List, [], ◌∷◌, ◌++◌}
use Prim.Native.Nat.{ℕ, ◌≤◌, ◌<◌, min}
use native.Mathlib.Omega.{arith}
use lib.ListN.{length}
use lib.Dec.{eqb, ltb}
use borrow.Author.Tests.{eqb-true, eqb-false, ltb-true, ltb-false, ne_eqb, lt-ltb, le-ltb}
use Rattle.base_lists.proofs.Bools.{by}
use Rattle.rules.specs.Text.{◌unless◌, lower, lowest}
use Rattle.rules.specs.Names.{name_refusal, names_refusal}
use Rattle.rules.specs.Tokens.{broken, quote, name, Token, token, tokens_refusal}
use Rattle.rules.proofs.RefusalLaws.{Bounded, bounded-lowest, bounded-low, bounded-names, bounded-tokens}

-- ## The lower of two

pub lower-none-left : (b : ℕ) → lower 0 b ≡ b
unfolding lower
lower-none-left b = refl

pub lower-none-right : (a : ℕ) → lower a 0 ≡ a
unfolding lower
lower-none-right a = by (eqb a 0) (λ t. rw t (sym (eqb-true a 0 t))) (λ t. rw t)

-- of two that are refusals it is the smaller
lower-min : (a b : ℕ) → (a ≡ 0 → ⊥) → (b ≡ 0 → ⊥) → lower a b ≡ min a b
unfolding lower
lower-min a b h k =
    by (ltb a b) (λ t. let l = ltb-true a b t in simp (ne_eqb a 0 h, ne_eqb b 0 k, t) (omega arith))
    (λ t. let l = ltb-false a b t in simp (ne_eqb a 0 h, ne_eqb b 0 k, t) (omega arith))

min_assoc : (a b c : ℕ) → min (min a b) c ≡ min a (min b c)
min_assoc a b c = omega arith

min-swap : (a b : ℕ) → min a b ≡ min b a
min-swap a b = omega arith

pub lower-assoc : (a b c : ℕ) → lower (lower a b) c ≡ lower a (lower b c)
lower-assoc a b c =
    by (eqb a 0) (λ t. rw (eqb-true a 0 t, lower-none-left b, lower-none-left (lower b c))) (λ t.
    by (eqb b 0) (λ u. rw (eqb-true b 0 u, lower-none-right a, lower-none-left c)) (λ u.
    by (eqb c 0) (λ w. rw (eqb-true c 0 w, lower-none-right b, lower-none-right (lower a b))) (λ w.
    let h = eqb-false a 0 t in
    let k = eqb-false b 0 u in
    let l = eqb-false c 0 w in
    let e = lower-min a b h k in
    let f = lower-min b c k l in
    lower-min (lower a b) c (λ z. omega arith) l
    ∙ ap (λ (x : ℕ). min x c) e
    ∙ min_assoc a b c
    ∙ ap (λ (x : ℕ). min a x) (sym f)
    ∙ sym (lower-min a (lower b c) h (λ z. omega arith)))))

pub lower-swap : (a b : ℕ) → lower a b ≡ lower b a
lower-swap a b =
    by (eqb a 0) (λ t. rw (eqb-true a 0 t, lower-none-left b, lower-none-right b)) (λ t.
    by (eqb b 0) (λ u. rw (eqb-true b 0 u, lower-none-left a, lower-none-right a)) (λ u.
    let h = eqb-false a 0 t in
    let k = eqb-false b 0 u in
    lower-min a b h k ∙ min-swap a b ∙ sym (lower-min b a k h)))

-- ## Refusals from 3 on: 3 wins wherever it stands

module _ (r : ℕ) (h : Bounded 3 7 r) where
  pub three-right : lower r 3 ≡ 3
  unfolding lower
  three-right = by (eqb r 0) (λ t. rw t) (λ t. rw (t, le-ltb r 3 (bounded-low 3 7 r h (eqb-false r 0 t))))

  pub three-left : lower 3 r ≡ 3
  three-left = lower-swap 3 r ∙ three-right

-- ## Refusals of tokens

-- a token's refusal and that of those after it
pub tokens_refusal-cons : (t : Token) (ts : List Token) → tokens_refusal (t ∷ ts) ≡ lower (tokens_refusal (t ∷ [])) (tokens_refusal ts)
unfolding tokens_refusal lowest
tokens_refusal-cons t ts =
    let a = 3 unless not (eqb t.kind broken || (eqb t.kind quote && eqb (length t.names) 0)) in
    let b = names_refusal t.names in
    rw (lower-none-right (tokens_refusal ts), lower-none-right 0, lower-none-right b) (sym (lower-assoc a b (tokens_refusal ts)))

-- a malformed token
pub refusal-broken : (t : Token) (ts : List Token) → t.kind ≡ broken → tokens_refusal (t ∷ ts) ≡ 3
unfolding tokens_refusal lowest
refusal-broken t ts e =
    let rs = names_refusal t.names ∷ tokens_refusal ts ∷ [] in
    rw e (three-left (lowest rs) (bounded-lowest 3 7 rs (bounded-names t.names, (bounded-tokens ts, tt))))

-- 3 is the lowest that tokens give
pub three-first : (ts : List Token) → lower 3 (tokens_refusal ts) ≡ 3
three-first ts = three-left (tokens_refusal ts) (bounded-tokens ts)

pub three-last : (ts : List Token) → lower (tokens_refusal ts) 3 ≡ 3
three-last ts = three-right (tokens_refusal ts) (bounded-tokens ts)

-- a malformed token further on
pub refusal-later : (t : Token) (ts : List Token) → tokens_refusal ts ≡ 3 → tokens_refusal (t ∷ ts) ≡ 3
refusal-later t ts e = tokens_refusal-cons t ts ∙ rw e (three-last (t ∷ []))

pub refusal-name : (n : List ℕ) → tokens_refusal (token name [] (n ∷ []) ∷ []) ≡ name_refusal n
unfolding tokens_refusal names_refusal lowest
refusal-name n = rw (lower-none-right 0, lower-none-right (name_refusal n), lower-none-right (name_refusal n)) (lower-none-left (name_refusal n))

-- quotes with no name in them are malformed
pub refusal-empty : (ns : List (List ℕ)) → length ns ≡ 0 → tokens_refusal (token quote [] ns ∷ []) ≡ 3
unfolding tokens_refusal names_refusal lowest lower
refusal-empty [] h = refl
refusal-empty (n ∷ ns) h = absurd (omega arith)

pub refusal-quote : (ns : List (List ℕ)) → (length ns ≡ 0 → ⊥) → tokens_refusal (token quote [] ns ∷ []) ≡ names_refusal ns
unfolding tokens_refusal lowest
refusal-quote ns h = simp (ne_eqb (length ns) 0 h, lower-none-right) (lower-none-left (names_refusal ns))

-- one name more
pub names_refusal-snoc : (ns : List (List ℕ)) (n : List ℕ) → names_refusal (ns ++ n ∷ []) ≡ lower (names_refusal ns) (name_refusal n)
unfolding names_refusal lowest
names_refusal-snoc [] n = lower-none-right (name_refusal n) ∙ sym (lower-none-left (name_refusal n))
names_refusal-snoc (m ∷ ns) n =
    ap (λ (r : ℕ). lower (name_refusal m) r) (names_refusal-snoc ns n) ∙ sym (lower-assoc (name_refusal m) (names_refusal ns) (name_refusal n))

-- ## The lower of two, by its tests

module _ {a b : ℕ} where
  pub lower-first-none : a ≡ 0 → b ≡ lower a b
  unfolding lower
  lower-first-none e = rw e

  pub lower-second-none : (a ≡ 0 → ⊥) → b ≡ 0 → a ≡ lower a b
  unfolding lower
  lower-second-none h e = rw e (simp (ne_eqb a 0 h))

  pub lower-first : (a ≡ 0 → ⊥) → (b ≡ 0 → ⊥) → a < b → a ≡ lower a b
  unfolding lower
  lower-first h k l = simp (ne_eqb a 0 h, ne_eqb b 0 k, lt-ltb a b l)

  pub lower-second : (a ≡ 0 → ⊥) → (b ≡ 0 → ⊥) → b ≤ a → b ≡ lower a b
  unfolding lower
  lower-second h k l = simp (ne_eqb a 0 h, ne_eqb b 0 k, le-ltb a b l)
