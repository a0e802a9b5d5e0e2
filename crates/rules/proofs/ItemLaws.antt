-- The items of sound order lines (specs/Compile): each is good, no two are alike, and UNDEFINED is one where it has a line.
use mathlib.Core.Path.{◌≡◌, refl, sym, ap, ◌∙◌}
use mathlib.Core.Bool.{true, false, false≢true, or-true}
use mathlib.Core.List.{List, [], ◌∷◌, map, head-eq_of_cons-eq}
use Prim.Native.Nat.{ℕ, suc, ◌≤◌}
use native.Mathlib.Omega.{arith}
use lib.ListN.{length, length-map}
use lib.Dec.{leb}
use borrow.Author.Tests.{eq-eqb, leb-true, le-leb}
use Rattle.base_lists.proofs.Bools.{and_intro, or-false-left, or-false-right, or-false-intro, not-intro, by, clash, cond_both, cond-by}
use Rattle.rules.specs.Text.{within, every, one_of, same}
use Rattle.rules.specs.Names.{is_character}
use Rattle.rules.specs.Meaning.{Item, item, good_weights, good_item, has_chars, no_two_alike}
use Rattle.rules.specs.State.{Declaration, symbol, element, Subject, character, named, undefined, OrderLine}
use Rattle.rules.specs.Declarations.{declares, declares_symbol, declares_chars}
use Rattle.rules.specs.OrderLines.{same_subject, stands, is_symbol, rank_of}
use Rattle.rules.specs.Compile.{chars_named, chars_of, ranks_of, line_ranks, items_from, is_ranked}
use Rattle.rules.proofs.TextLaws.{every-head, every-tail, one_of-head-false, one_of-tail-false, same_true, same_refl, within-intro}
use Rattle.rules.proofs.RankLaws.{is_line_of, same_subject-true, same_subject-refl, rank_from-bound}
use Rattle.rules.proofs.StateLaws.{Elements, is_short, OneLine, Lines}

-- ## The characters of an element

-- A name that stands and is no symbol's.
record NamesElement (ds : List Declaration) (n : List ℕ) : Type 0 where
  standing : one_of (declares n) ds ≡ true
  no_symbol : one_of (declares_symbol n) ds ≡ false

-- Characters that an element has.
record ElementChars (ds : List Declaration) (cs : List ℕ) : Type 0 where
  low : 2 ≤ length cs
  high : length cs ≤ 4
  characters : every is_character cs ≡ true
  declared : one_of (declares_chars cs) ds ≡ true

-- a name stands and is no symbol's further down too, where the first declaration is not of that name
named-tail : (d : Declaration) (ds : List Declaration) (n : List ℕ) → declares n d ≡ false → NamesElement (d ∷ ds) n → NamesElement ds n
unfolding one_of
named-tail d ds n e h = record {
  standing = rw e at h.standing;
  no_symbol = or-false-right (declares_symbol n d) (one_of (declares_symbol n) ds) h.no_symbol;
}

more-declared : (d : Declaration) (ds : List Declaration) (cs : List ℕ) → ElementChars ds cs → ElementChars (d ∷ ds) cs
unfolding one_of
more-declared d ds cs h = record {
  low = h.low;
  high = h.high;
  characters = h.characters;
  declared = rw h.declared (or-true (declares_chars cs d));
}

chars_named-element : (ds : List Declaration) (n : List ℕ) → Elements ds → NamesElement ds n → ElementChars ds (chars_named n ds)
unfolding chars_named declares declares_symbol declares_chars one_of
chars_named-element [] n w h = absurd (false≢true h.standing)
chars_named-element (symbol m ∷ ds) n w h =
    let other : same n m ≡ false = or-false-left (same n m) (one_of (declares_symbol n) ds) h.no_symbol in
    more-declared (symbol m) ds (chars_named n ds) (chars_named-element ds n w (named-tail (symbol m) ds n other h))
chars_named-element (element m cs ∷ ds) n w h =
    cond-by (ElementChars (element m cs ∷ ds)) (same n m) (λ t.
    record { low = w.0.low; high = w.0.high; characters = w.0.characters; declared = rw (same_refl cs) })
    (λ t. more-declared (element m cs) ds (chars_named n ds) (chars_named-element ds n w.1 (named-tail (element m cs) ds n t h)))

-- two elements with the same characters are one
chars_named-unique : (ds : List Declaration) (m n : List ℕ) → Elements ds → NamesElement ds m → NamesElement ds n
    → chars_named m ds ≡ chars_named n ds → m ≡ n
unfolding chars_named declares declares_symbol one_of
chars_named-unique [] m n w h k e = absurd (false≢true h.standing)
chars_named-unique (symbol l ∷ ds) m n w h k e =
    let hm : same m l ≡ false = or-false-left (same m l) (one_of (declares_symbol m) ds) h.no_symbol in
    let kn : same n l ≡ false = or-false-left (same n l) (one_of (declares_symbol n) ds) k.no_symbol in
    chars_named-unique ds m n w (named-tail (symbol l) ds m hm h) (named-tail (symbol l) ds n kn k) e
chars_named-unique (element l cs ∷ ds) m n w h k e =
    let below = named-tail (element l cs) ds in
    by (same m l) (λ t.
    by (same n l) (λ u. let p = same_true m l t in let q = same_true n l u in cc) (λ u.
    clash (chars_named-element ds n w.1 (below n u k)).declared (rw (rw (t, u) at e) at w.0.new))) (λ t.
    by (same n l) (λ u. clash (chars_named-element ds m w.1 (below m t h)).declared (rw (sym (rw (t, u) at e)) at w.0.new)) (λ u.
    chars_named-unique ds m n w.1 (below m t h) (below n u k) (rw (t, u) at e)))

-- ## The characters of an item

-- What stands and is no symbol: an order line of it is an item.
pub record HasItem (ds : List Declaration) (x : Subject) : Type 0 where
  pub standing : stands ds x ≡ true
  pub no_symbol : is_symbol ds x ≡ false

element-of : (ds : List Declaration) (n : List ℕ) → HasItem ds (named n) → NamesElement ds n
unfolding stands is_symbol
element-of ds n h = record { standing = h.standing; no_symbol = h.no_symbol }

chars_of-characters : (ds : List Declaration) (x : Subject) → Elements ds → HasItem ds x
    → (length (chars_of ds x) ≤ 4) × (every is_character (chars_of ds x) ≡ true)
unfolding chars_of stands every
chars_of-characters ds (character c) w h = (omega arith, and_intro h.standing refl)
chars_of-characters ds (named n) w h =
    let r = chars_named-element ds n w (element-of ds n h) in
    (r.high, r.characters)
chars_of-characters ds undefined w h = (omega arith, refl)

-- two subjects with the same characters are one
chars_of-unique : (ds : List Declaration) (x y : Subject) → Elements ds → HasItem ds x → HasItem ds y → chars_of ds x ≡ chars_of ds y → x ≡ y
unfolding chars_of
chars_of-unique ds (character c) (character d) w h k e = ap character (head-eq_of_cons-eq e)
chars_of-unique ds (character c) (named n) w h k e = absurd (omega (arith, ap length e, (chars_named-element ds n w (element-of ds n k)).low))
chars_of-unique ds (character c) undefined w h k e = absurd (omega (arith, ap length e))
chars_of-unique ds (named m) (character d) w h k e = absurd (omega (arith, ap length e, (chars_named-element ds m w (element-of ds m h)).low))
chars_of-unique ds (named m) (named n) w h k e = ap named (chars_named-unique ds m n w (element-of ds m h) (element-of ds n k) e)
chars_of-unique ds (named m) undefined w h k e = absurd (omega (arith, ap length e, (chars_named-element ds m w (element-of ds m h)).low))
chars_of-unique ds undefined (character d) w h k e = absurd (omega (arith, ap length e))
chars_of-unique ds undefined (named n) w h k e = absurd (omega (arith, ap length e, (chars_named-element ds n w (element-of ds n k)).low))
chars_of-unique ds undefined undefined w h k e = refl

chars_of-apart : (ds : List Declaration) (x y : Subject) → Elements ds → HasItem ds x → HasItem ds y
    → same_subject x y ≡ false → same (chars_of ds x) (chars_of ds y) ≡ false
chars_of-apart ds x y w h k e =
    by (same (chars_of ds x) (chars_of ds y))
    (λ t. clash (rw (chars_of-unique ds x y w h k (same_true (chars_of ds x) (chars_of ds y) t)) (same_subject-refl y)) e)
    (λ t. t)

-- ## Items

pub items_from-length : (ds : List Declaration) (ranked ls : List OrderLine) → length (items_from ds ranked ls) ≤ length ls
unfolding items_from
items_from-length ds ranked [] = omega arith
items_from-length ds ranked (l ∷ ls) =
    let r = items_from-length ds ranked ls in
    cond_both (λ (is : List Item). length is ≤ suc (length ls)) (is_symbol ds l.subject) (omega arith) (omega arith)

-- a subject with no line has no item
pub items_from-none : (ds : List Declaration) (n : ℕ) (ranked ls : List OrderLine) (x : Subject) → Elements ds → Lines ds n ls → HasItem ds x
    → one_of (is_line_of x) ls ≡ false → one_of (has_chars (chars_of ds x)) (items_from ds ranked ls) ≡ false
unfolding items_from one_of is_line_of has_chars
items_from-none ds n ranked [] x w h k e = refl
items_from-none ds n ranked (l ∷ ls) x w h k e =
    let y = l.subject in
    let r = items_from-none ds n ranked ls x w h.2 k (one_of-tail-false (is_line_of x) l ls e) in
    cond-by (λ (is : List Item). one_of (has_chars (chars_of ds x)) is ≡ false) (is_symbol ds y) (λ t. r) (λ t.
    let line : HasItem ds y = record { standing = h.0.standing; no_symbol = t } in
    or-false-intro (chars_of-apart ds x y w k line (one_of-head-false (is_line_of x) l ls e)) r)

pub items_from-apart : (ds : List Declaration) (n : ℕ) (ranked ls : List OrderLine) → Elements ds → Lines ds n ls
    → no_two_alike (items_from ds ranked ls) ≡ true
unfolding items_from no_two_alike
items_from-apart ds n ranked [] w h = refl
items_from-apart ds n ranked (l ∷ ls) w h =
    let r = items_from-apart ds n ranked ls w h.2 in
    cond-by (λ (is : List Item). no_two_alike is ≡ true) (is_symbol ds l.subject) (λ t. r) (λ t.
    and_intro
    (not-intro (items_from-none ds n ranked ls l.subject w h.2 (record { standing = h.0.standing; no_symbol = t }) h.1))
    r)

-- UNDEFINED is no symbol and has no characters
undefined-chars : (ds : List Declaration) (x : Subject) → undefined ≡ x → (is_symbol ds x ≡ false) × (chars_of ds x ≡ [])
unfolding is_symbol chars_of
undefined-chars ds x e = rw (sym e) (refl, refl)

-- a line of UNDEFINED is an item
pub items_from-undefined : (ds : List Declaration) (ranked ls : List OrderLine)
    → one_of (is_line_of undefined) ls ≡ true → one_of (has_chars []) (items_from ds ranked ls) ≡ true
unfolding items_from one_of is_line_of has_chars same
items_from-undefined ds ranked [] h = h
items_from-undefined ds ranked (l ∷ ls) h =
    by (same_subject undefined l.subject) (λ t.
    let u = undefined-chars ds l.subject (same_subject-true undefined l.subject t) in
    rw (u.0, u.1)) (λ t.
    let r = items_from-undefined ds ranked ls (rw t at h) in
    cond_both (λ (is : List Item). one_of (has_chars []) is ≡ true) (is_symbol ds l.subject) r (rw r (or-true (same [] (chars_of ds l.subject)))))

-- ## Weights

ranks-within : (ranked : List OrderLine) (xs : List Subject) → length ranked ≤ 32767
    → every (leb 1) (map (rank_of ranked) xs) ≡ true → every (within 1 32768) (map (rank_of ranked) xs) ≡ true
unfolding every
ranks-within ranked [] h e = refl
ranks-within ranked (x ∷ xs) h e =
    let low = leb-true 1 (rank_of ranked x) (every-head (leb 1) (rank_of ranked x) (map (rank_of ranked) xs) e) in
    let high = rank_from-bound 1 x ranked (omega arith) in
    and_intro (within-intro 1 32768 (rank_of ranked x) low (omega arith))
    (ranks-within ranked xs h (every-tail (leb 1) (rank_of ranked x) (map (rank_of ranked) xs) e))

ranks-good : (ranked : List OrderLine) (w : List Subject) → length ranked ≤ 32767 → is_short w ≡ true
    → every (leb 1) (ranks_of ranked w) ≡ true → good_weights (ranks_of ranked w) ≡ true
unfolding good_weights ranks_of is_short
ranks-good ranked w h s e = rw (length-map w (rank_of ranked)) (and_intro s (ranks-within ranked w h e))

levels-good : (ranked : List OrderLine) (ws : List (List Subject)) → length ranked ≤ 32767 → every is_short ws ≡ true
    → every (every (leb 1)) (map (ranks_of ranked) ws) ≡ true → every good_weights (map (ranks_of ranked) ws) ≡ true
unfolding every
levels-good ranked [] h s e = refl
levels-good ranked (w ∷ ws) h s e =
    let is = map (ranks_of ranked) ws in
    and_intro
    (ranks-good ranked w h (every-head is_short w ws s) (every-head (every (leb 1)) (ranks_of ranked w) is e))
    (levels-good ranked ws h (every-tail is_short w ws s) (every-tail (every (leb 1)) (ranks_of ranked w) is e))

item-good : (ds : List Declaration) (n : ℕ) (ranked : List OrderLine) (l : OrderLine) → length ranked ≤ 32767 → Elements ds → OneLine ds n l
    → is_symbol ds l.subject ≡ false → is_ranked ranked l ≡ true → good_item n (item (chars_of ds l.subject) (line_ranks ranked l)) ≡ true
unfolding good_item line_ranks is_ranked
item-good ds n ranked l f w h t e =
    let c = chars_of-characters ds l.subject w (record { standing = h.standing; no_symbol = t }) in
    and_intro
    (and_intro
    (and_intro (le-leb (length (chars_of ds l.subject)) 4 c.0) c.1)
    (eq-eqb (length (map (ranks_of ranked) l.weights)) n (length-map l.weights (ranks_of ranked) ∙ h.levels)))
    (levels-good ranked l.weights f h.short e)

-- every item is good, where every weight of every line has a rank
pub items_from-good : (ds : List Declaration) (n : ℕ) (ranked ls : List OrderLine) → length ranked ≤ 32767 → Elements ds → Lines ds n ls
    → every (is_ranked ranked) ls ≡ true → every (good_item n) (items_from ds ranked ls) ≡ true
unfolding items_from every
items_from-good ds n ranked [] f w h e = refl
items_from-good ds n ranked (l ∷ ls) f w h e =
    let r = items_from-good ds n ranked ls f w h.2 (every-tail (is_ranked ranked) l ls e) in
    cond-by (λ (is : List Item). every (good_item n) is ≡ true) (is_symbol ds l.subject) (λ t. r) (λ t.
    and_intro (item-good ds n ranked l f w h.0 t (every-head (is_ranked ranked) l ls e)) r)
