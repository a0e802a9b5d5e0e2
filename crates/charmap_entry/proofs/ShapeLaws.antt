-- Entries as lists of tokens: an entry is a front, escape `x` and the digits (front); so nothing goes on with an entry and is one.
use mathlib.Core.Path.{◌≡◌, refl, sym, ap, ◌∙◌}
use mathlib.Core.Bool.{Bool, true, false, cond, ◌&&◌, or-true}
use mathlib.Core.List.{List, [], ◌∷◌, ◌++◌, append_assoc, cons-ne-nil, head-eq_of_cons-eq, tail-eq_of_cons-eq}
use native.Mathlib.Omega.{arith}
use lib.ListN.{length, drop}
use lib.Dec.{eqb}
use borrow.Author.Tests.{ne_eqb, eqb-true}
use Rattle.base_lists.proofs.Bools.{by, clash, and_left, and_right, and_intro}
use Rattle.rules.specs.Text.{every, same}
use Rattle.rules.specs.Names.{is_any_hex}
use Rattle.rules.specs.Tokens.{gap, broken, word, name, Token, token_at, without_opening_gaps, is_byte, is_range, is_entry}
use Rattle.rules.proofs.TextLaws.{every-head, every-tail}
use Rattle.charmap_entry.specs.Entered.{byte_by, entry_by, is_escaped, is_digits, opens_pair, opens_entry}

-- ## An entry is escape `x` and two digits behind its front

-- nothing follows
unfoldable pub is_pair : List Token → Bool
is_pair rs =
    let d : Token = token_at rs 1 in
    eqb (length rs) 2
    && eqb (token_at rs 0).kind broken
    && same (token_at rs 0).text (120 ∷ [])
    && eqb d.kind word
    && eqb (length d.text) 2
    && every is_any_hex d.text

byte-by : (ts : List Token) → is_byte ts ≡ byte_by is_pair ts
unfolding is_byte byte_by is_pair
byte-by ts = by (eqb (token_at ts 0).kind gap) (λ t. rw t) (λ t. rw t)

pub entry-by : (ts : List Token) → is_entry ts ≡ entry_by is_pair ts
unfolding is_entry entry_by
entry-by ts = rw (byte-by (drop 3 ts), byte-by (drop 1 ts))

-- ## Gaps

abbrev pub is_gap : Token → Bool
is_gap t = eqb t.kind gap

-- gaps before a token that is none
pub gaps-then : (gs : List Token) (y : Token) (ys : List Token) → every is_gap gs ≡ true → is_gap y ≡ false → without_opening_gaps (gs ++ y ∷ ys) ≡ y ∷ ys
unfolding without_opening_gaps
gaps-then [] y ys h n = rw n
gaps-then (g ∷ gs) y ys h n = rw (every-head is_gap g gs h) (gaps-then gs y ys (every-tail is_gap g gs h) n)

-- Gaps and what stands behind them.
record Gaps (ts : List Token) : Type 0 where
  gaps : List Token
  are : every is_gap gaps ≡ true
  is : ts ≡ gaps ++ without_opening_gaps ts

gaps-of : (ts : List Token) → Gaps ts
unfolding without_opening_gaps every
gaps-of [] = record { gaps = []; are = refl; is = refl }
gaps-of (t ∷ ts) =
    by (is_gap t)
    (λ h. let r = gaps-of ts in record { gaps = t ∷ r.gaps; are = and_intro h r.are; is = rw h (ap (λ (x : List Token). t ∷ x) r.is) })
    (λ h. record { gaps = []; are = refl; is = rw h })

-- what stands behind them is no gap
first-solid : (ts : List Token) (x : Token) (xs : List Token) → without_opening_gaps ts ≡ x ∷ xs → is_gap x ≡ false
unfolding without_opening_gaps
first-solid [] x xs e = absurd (cons-ne-nil x xs (sym e))
first-solid (t ∷ ts) x xs e =
    by (is_gap t) (λ h. first-solid ts x xs (rw h at e))
    (λ h. let z : t ∷ ts ≡ x ∷ xs = rw h at e in rw (sym (head-eq_of_cons-eq z)) h)

-- ## The front of an entry

-- Tokens that open as an entry does, up to the first one behind its blanks.
pub record Front (ts : List Token) : Type 0 where
  pub before : List Token
  pub x : Token
  pub xs : List Token
  pub is : ts ≡ before ++ x ∷ xs
  pub solid : is_gap x ≡ false
  pub then : (p : List Token → Bool) (y : Token) (ys : List Token) → is_gap y ≡ false → entry_by p (before ++ y ∷ ys) ≡ p (y ∷ ys)

-- the same behind the names
record Back (ts : List Token) : Type 0 where
  first : Token
  gap : is_gap first ≡ true
  before : List Token
  x : Token
  xs : List Token
  is : ts ≡ first ∷ (before ++ x ∷ xs)
  solid : is_gap x ≡ false
  then : (p : List Token → Bool) (y : Token) (ys : List Token) → is_gap y ≡ false → byte_by p (first ∷ (before ++ y ∷ ys)) ≡ p (y ∷ ys)

-- a gap first, gaps, and a token that is none
pub byte-then : (p : List Token → Bool) (t : Token) (gs : List Token) (y : Token) (ys : List Token) → is_gap t ≡ true → every is_gap gs ≡ true → is_gap y ≡ false
    → byte_by p (t ∷ (gs ++ y ∷ ys)) ≡ p (y ∷ ys)
unfolding byte_by without_opening_gaps
byte-then p t gs y ys g h n = rw (g, gaps-then gs y ys h n)

back : (p : List Token → Bool) → p [] ≡ false → (ts : List Token) → byte_by p ts ≡ true → Back ts
unfolding byte_by without_opening_gaps
back p z [] h = clash h refl
back p z (t ∷ ts) h = go (without_opening_gaps ts) refl
  where
    g : is_gap t ≡ true
    g = and_left (is_gap t) (p (without_opening_gaps (t ∷ ts))) h

    go : (rs : List Token) → without_opening_gaps ts ≡ rs → Back (t ∷ ts)
    go [] e =
        let k = and_right (is_gap t) (p (without_opening_gaps (t ∷ ts))) h in
        let l : p (without_opening_gaps ts) ≡ true = rw g at k in
        clash (rw e at l) z
    go (x ∷ xs) e =
        let r = gaps-of ts in
        record {
          first = t;
          gap = g;
          before = r.gaps;
          x = x;
          xs = xs;
          is = ap (λ (us : List Token). t ∷ us) (r.is ∙ ap (λ (us : List Token). r.gaps ++ us) e);
          solid = first-solid ts x xs e;
          then = λ q y ys n. byte-then q t r.gaps y ys g r.are n;
        }

-- no range, where a gap stands behind the name
pub gap-no-range : (t g : Token) (ts : List Token) → is_gap g ≡ true → is_range (t ∷ g ∷ ts) ≡ false
unfolding is_range
gap-no-range t g ts h = rw (eqb-true g.kind gap h)

-- an entry of one name
pub one_then : (p : List Token → Bool) (n t : Token) (ts : List Token) → n.kind ≡ name → is_gap t ≡ true → entry_by p (n ∷ t ∷ ts) ≡ byte_by p (t ∷ ts)
unfolding entry_by
one_then p n t ts k g = rw (gap-no-range n t ts g, k)

pub range-tail : (n d m : Token) (ts : List Token) → is_range (n ∷ d ∷ m ∷ ts) ≡ is_range (n ∷ d ∷ m ∷ [])
unfolding is_range
range-tail n d m ts = refl

-- and of a range
pub range-then : (p : List Token → Bool) (n d m : Token) (ts : List Token) → n.kind ≡ name → is_range (n ∷ d ∷ m ∷ []) ≡ true → entry_by p (n ∷ d ∷ m ∷ ts) ≡ byte_by p ts
unfolding entry_by
range-then p n d m ts k r = rw (range-tail n d m ts ∙ r, k)

byte-none : (p : List Token → Bool) → byte_by p [] ≡ false
unfolding byte_by
byte-none p = refl

front : (p : List Token → Bool) → p [] ≡ false → (ts : List Token) → entry_by p ts ≡ true → Front ts
unfolding entry_by
front p z ts h =
    by (is_range ts)
    (λ r. ranged ts r (and_left (eqb (token_at ts 0).kind name) (cond (is_range ts) (byte_by p (drop 3 ts)) (byte_by p (drop 1 ts))) h)
    (rw r at (and_right (eqb (token_at ts 0).kind name) (cond (is_range ts) (byte_by p (drop 3 ts)) (byte_by p (drop 1 ts))) h)))
    (λ r. single ts r (and_left (eqb (token_at ts 0).kind name) (cond (is_range ts) (byte_by p (drop 3 ts)) (byte_by p (drop 1 ts))) h)
    (rw r at (and_right (eqb (token_at ts 0).kind name) (cond (is_range ts) (byte_by p (drop 3 ts)) (byte_by p (drop 1 ts))) h)))
  where
    ranged : (us : List Token) → is_range us ≡ true → eqb (token_at us 0).kind name ≡ true → byte_by p (drop 3 us) ≡ true → Front us
    ranged [] r k b = clash k refl
    ranged (t ∷ []) r k b = clash b (byte-none p)
    ranged (t ∷ u ∷ []) r k b = clash b (byte-none p)
    ranged (t ∷ u ∷ w ∷ us) r k b =
        let v = back p z us b in
        record {
          before = t ∷ u ∷ w ∷ v.first ∷ v.before;
          x = v.x;
          xs = v.xs;
          is = ap (λ (ys : List Token). t ∷ u ∷ w ∷ ys) v.is;
          solid = v.solid;
          then = λ q y ys n. range-then q t u w (v.first ∷ (v.before ++ y ∷ ys)) (eqb-true t.kind name k) (sym (range-tail t u w us) ∙ r) ∙ v.then q y ys n;
        }

    single : (us : List Token) → is_range us ≡ false → eqb (token_at us 0).kind name ≡ true → byte_by p (drop 1 us) ≡ true → Front us
    single [] r k b = clash k refl
    single (t ∷ us) r k b =
        let v = back p z us b in
        record {
          before = t ∷ v.first ∷ v.before;
          x = v.x;
          xs = v.xs;
          is = ap (λ (ys : List Token). t ∷ ys) v.is;
          solid = v.solid;
          then = λ q y ys n. one_then q t v.first (v.before ++ y ∷ ys) (eqb-true t.kind name k) v.gap ∙ v.then q y ys n;
        }

-- ## The parts of an entry

-- An entry: its front, escape `x`, and the digits.
pub record Entered (ts : List Token) : Type 0 where
  pub before : List Token
  pub x : Token
  pub digits : Token
  pub is : ts ≡ before ++ x ∷ digits ∷ []
  pub escape : is_escaped x ≡ true
  pub solid : is_gap x ≡ false
  pub word : is_digits digits ≡ true
  pub then : (p : List Token → Bool) (ys : List Token) → entry_by p (before ++ x ∷ ys) ≡ p (x ∷ ys)

-- each of six
each_of : (a b c d e f : Bool) → (a && b && c && d && e && f) ≡ true → (a ≡ true) × (b ≡ true) × (c ≡ true) × (d ≡ true) × (e ≡ true) × (f ≡ true)
each_of a b c d e f h =
    let h₄ = and_left (a && b && c && d && e) f h in
    let h₃ = and_left (a && b && c && d) e h₄ in
    let h₂ = and_left (a && b && c) d h₃ in
    let h₁ = and_left (a && b) c h₂ in (
      and_left a b h₁,
      and_right a b h₁,
      and_right (a && b) c h₂,
      and_right (a && b && c) d h₃,
      and_right (a && b && c && d) e h₄,
      and_right (a && b && c && d && e) f h,
    )

-- What makes a pair.
record Pair (rs : List Token) : Type 0 where
  long : length rs ≡ 2
  escape : is_escaped (token_at rs 0) ≡ true
  digits : is_digits (token_at rs 1) ≡ true

pair : (rs : List Token) → is_pair rs ≡ true → Pair rs
unfolding is_pair is_escaped is_digits
pair rs h =
    let d = token_at rs 1 in
    let v = each_of (eqb (length rs) 2) (eqb (token_at rs 0).kind broken) (same (token_at rs 0).text (120 ∷ [])) (eqb d.kind word) (eqb (length d.text) 2) (every is_any_hex d.text) h in
    record { long = eqb-true (length rs) 2 v.0; escape = and_intro v.1 v.2; digits = and_intro (and_intro v.3 v.4) v.5 }

pair-none : is_pair [] ≡ false
unfolding is_pair
pair-none = refl

pub entered : (ts : List Token) → is_entry ts ≡ true → Entered ts
entered ts h = go v.xs refl
  where
    v : Front ts
    v = front is_pair pair-none ts (sym (entry-by ts) ∙ h)

    two : Pair (v.x ∷ v.xs)
    two = pair (v.x ∷ v.xs) (sym (v.then is_pair v.x v.xs v.solid) ∙ ap (entry_by is_pair) (sym v.is) ∙ sym (entry-by ts) ∙ h)

    go : (xs : List Token) → v.xs ≡ xs → Entered ts
    go [] e = let l : length (v.x ∷ []) ≡ 2 = rw e at two.long in absurd (omega arith)
    go (d ∷ []) e =
        record {
          before = v.before;
          x = v.x;
          digits = d;
          is = v.is ∙ ap (λ (us : List Token). v.before ++ v.x ∷ us) e;
          escape = two.escape;
          solid = v.solid;
          word = rw e at two.digits;
          then = λ p ys. v.then p v.x ys v.solid;
        }
    go (d ∷ u ∷ us) e = let l : length (v.x ∷ d ∷ u ∷ us) ≡ 2 = rw e at two.long in absurd (omega arith)

-- ## What follows an entry

-- a pair of more than two tokens is none
pair-long : (rs : List Token) → (length rs ≡ 2 → ⊥) → is_pair rs ≡ false
unfolding is_pair
pair-long rs n = simp (ne_eqb (length rs) 2 n)

-- nor is one whose second token is no digits
pair-other : (rs : List Token) → is_digits (token_at rs 1) ≡ false → is_pair rs ≡ false
pair-other rs n = by (is_pair rs) (λ h. clash (pair rs h).digits n) (λ h. h)

module _ (ts : List Token) (h : is_entry ts ≡ true) where
  -- with a gap behind it, it opens as an entry
  pub entry-gap : (t : Token) (us : List Token) → is_gap t ≡ true → opens_entry (ts ++ t ∷ us) ≡ true
  unfolding opens_pair
  entry-gap t us g =
      let v = entered ts h in
      let x = v.x in
      let d = v.digits in
      let e : ts ++ t ∷ us ≡ v.before ++ (x ∷ d ∷ t ∷ us) = ap (λ (l : List Token). l ++ t ∷ us) v.is ∙ append_assoc v.before (x ∷ d ∷ []) (t ∷ us) in
      ap opens_entry e ∙ v.then opens_pair (d ∷ t ∷ us) ∙ rw (v.escape, v.word, g) (or-true (eqb (length (x ∷ d ∷ t ∷ us)) 2))

  -- with a token behind it, it is none
  pub entry_more : (t : Token) (us : List Token) → is_entry (ts ++ t ∷ us) ≡ false
  entry_more t us =
      let v = entered ts h in
      let x = v.x in
      let d = v.digits in
      let e : ts ++ t ∷ us ≡ v.before ++ (x ∷ d ∷ t ∷ us) = ap (λ (l : List Token). l ++ t ∷ us) v.is ∙ append_assoc v.before (x ∷ d ∷ []) (t ∷ us) in
      entry-by (ts ++ t ∷ us) ∙ ap (entry_by is_pair) e ∙ v.then is_pair (d ∷ t ∷ us) ∙ pair-long (x ∷ d ∷ t ∷ us) (λ z. omega arith)

  -- it opens as an entry
  pub entry-opens : opens_entry ts ≡ true
  unfolding opens_pair
  entry-opens =
      let v = entered ts h in
      ap opens_entry v.is ∙ v.then opens_pair (v.digits ∷ []) ∙ rw (v.escape, v.word)

pub snoc-some : (xs : List Token) (x : Token) → xs ++ x ∷ [] ≡ [] → ⊥
snoc-some [] x e = cons-ne-nil x [] e
snoc-some (a ∷ xs) x e = cons-ne-nil a (xs ++ x ∷ []) e

-- the last token of two lists
snoc-last : (xs ys : List Token) (x y : Token) → xs ++ x ∷ [] ≡ ys ++ y ∷ [] → (xs ≡ ys) × (x ≡ y)
snoc-last [] [] x y e = (refl, head-eq_of_cons-eq e)
snoc-last [] (b ∷ ys) x y e = absurd (snoc-some ys y (sym (tail-eq_of_cons-eq e)))
snoc-last (a ∷ xs) [] x y e = absurd (snoc-some xs x (tail-eq_of_cons-eq e))
snoc-last (a ∷ xs) (b ∷ ys) x y e =
    let r = snoc-last xs ys x y (tail-eq_of_cons-eq e) in
    (rw (head-eq_of_cons-eq e, r.0), r.1)

-- an entry's last token is its digits, and with another in their place, whatever follows, it is none
module _ (out : List Token) (t : Token) (h : is_entry (out ++ t ∷ []) ≡ true) where
  split : (v : Entered (out ++ t ∷ [])) → (out ≡ v.before ++ v.x ∷ []) × (t ≡ v.digits)
  split v = snoc-last out (v.before ++ v.x ∷ []) t v.digits (v.is ∙ sym (append_assoc v.before (v.x ∷ []) (v.digits ∷ [])))

  pub entry-last : is_digits t ≡ true
  entry-last = let v = entered (out ++ t ∷ []) h in rw (split v).1 v.word

  pub entry_other : (u : Token) (us : List Token) → is_digits u ≡ false → is_entry (out ++ u ∷ us) ≡ false
  entry_other u us n =
      let v = entered (out ++ t ∷ []) h in
      let x = v.x in
      let e : out ++ u ∷ us ≡ v.before ++ (x ∷ u ∷ us) = ap (λ (l : List Token). l ++ u ∷ us) (split v).0 ∙ append_assoc v.before (x ∷ []) (u ∷ us) in
      entry-by (out ++ u ∷ us) ∙ ap (entry_by is_pair) e ∙ v.then is_pair (u ∷ us) ∙ pair-other (x ∷ u ∷ us) n
