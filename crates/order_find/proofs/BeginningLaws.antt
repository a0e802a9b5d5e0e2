-- The order of four numbers beside the beginnings of a string: of two beginnings the longer comes first, and what comes between two of
-- them begins with the shorter. Padding is above every character.
use mathlib.Core.Path.{◌≡◌, refl, sym, ap, ◌∙◌}
use mathlib.Core.Bool.{true, false, not}
use mathlib.Core.List.{List, [], ◌∷◌}
use Prim.Native.Nat.{ℕ, zero, suc, ◌≤◌, ◌<◌}
use native.Mathlib.Omega.{arith}
use lib.ListN.{length, get_or, take}
use lib.Seq.{take-nil}
use lib.Bits.{bit_and}
use lib.Dec.{ltb, leb, eqb}
use borrow.Author.Tests.{leb-true, le-ltb, ltb-true, ltb-false, eq-eqb, eqb-true, ne_eqb}
use Rattle.base_lists.proofs.Bools.{and_left, and_right, and_intro, by, clash}
use Rattle.rules.specs.Text.{within, every, begins}
use Rattle.rules.specs.Names.{is_character}
use Rattle.rules.specs.Table.{pad, padded, before, mask, bucket}
use Rattle.rules.proofs.TextLaws.{every-head, every-tail}
use Rattle.rules.proofs.SortLaws.{before-less, before-irrefl}

pub character-small : (c : ℕ) → is_character c ≡ true → c < pad
character-small c h =
    let k = leb-true c 0x10FFFF (and_left (leb c 0x10FFFF) (not (within 0xD800 0xDFFF c)) h) in
    omega arith

-- ## before, number by number

before_same : (xs : List ℕ) → before xs xs ≡ false
before_same xs = by (before xs xs) (λ t. absurd (before-irrefl xs t)) (λ f. f)

pub before-tail : (x y : ℕ) (xs ys : List ℕ) → x ≡ y → before (x ∷ xs) (y ∷ ys) ≡ before xs ys
unfolding before
before-tail x y xs ys e = rw (le-ltb x y (omega arith), eq-eqb x y e)

pub before-greater : (x y : ℕ) (xs ys : List ℕ) → y < x → before (x ∷ xs) (y ∷ ys) ≡ false
unfolding before
before-greater x y xs ys h = rw (le-ltb x y (omega arith), ne_eqb x y (λ e. omega arith))

pub before_head : (x y : ℕ) (xs ys : List ℕ) → before (x ∷ xs) (y ∷ ys) ≡ true → x ≤ y
before_head x y xs ys h =
    by (ltb y x)
    (λ t. clash h (before-greater x y xs ys (ltb-true y x t)))
    (λ t. ltb-false y x t)

pub not-before-head : (x y : ℕ) (xs ys : List ℕ) → before (x ∷ xs) (y ∷ ys) ≡ false → y ≤ x
not-before-head x y xs ys h =
    by (ltb x y)
    (λ t. clash (before-less x y xs ys (ltb-true x y t)) h)
    (λ t. ltb-false x y t)

-- ## Padding

-- w numbers: those of cs, then padding
pad_to : ℕ → List ℕ → List ℕ
pad_to zero cs = []
pad_to (suc w) [] = pad ∷ pad_to w []
pad_to (suc w) (c ∷ cs) = c ∷ pad_to w cs

pad_to-padded : (cs : List ℕ) → pad_to 4 cs ≡ padded cs []
unfolding pad_to
pad_to-padded [] = refl
pad_to-padded (a ∷ []) = refl
pad_to-padded (a ∷ b ∷ []) = refl
pad_to-padded (a ∷ b ∷ c ∷ []) = refl
pad_to-padded (a ∷ b ∷ c ∷ d ∷ cs) = refl

-- ## Beginnings of a string

-- the numbers of cs, with its padding, are the first n of s
abbrev pub Agree : List ℕ → List ℕ → ℕ → Type 0
Agree cs s n = (i : ℕ) → i < n → get_or cs i pad ≡ get_or s i 0

longer-first : (w : ℕ) (s : List ℕ) (j m : ℕ) → every is_character s ≡ true → j ≤ m → before (pad_to w (take j s)) (pad_to w (take m s)) ≡ false
unfolding pad_to before
longer-first zero s j m h l = refl
longer-first (suc w) [] j m h l = rw (take-nil {A = ℕ} j, take-nil {A = ℕ} m) (before_same (pad ∷ pad_to w []))
longer-first (suc w) (d ∷ s) zero zero h l = before_same (pad ∷ pad_to w [])
longer-first (suc w) (d ∷ s) zero (suc m) h l =
    before-greater pad d (pad_to w []) (pad_to w (take m s)) (character-small d (every-head is_character d s h))
longer-first (suc w) (d ∷ s) (suc j) zero h l = absurd (omega arith)
longer-first (suc w) (d ∷ s) (suc j) (suc m) h l =
    before-tail d d (pad_to w (take j s)) (pad_to w (take m s)) refl ∙ longer-first w s j m (every-tail is_character d s h) (omega arith)

between-agree : (w : ℕ) (cs s : List ℕ) (j m : ℕ) → every is_character s ≡ true → j ≤ m → m ≤ length s
    → before (pad_to w cs) (pad_to w (take m s)) ≡ false → before (pad_to w cs) (pad_to w (take j s)) ≡ true → Agree cs s j
unfolding pad_to before
between-agree w cs s zero m h l k f t i b = absurd (omega arith)
between-agree w cs s (suc j) zero h l k f t i b = absurd (omega arith)
between-agree w cs [] (suc j) (suc m) h l k f t i b = absurd (omega arith)
between-agree zero cs (d ∷ s) (suc j) (suc m) h l k f t i b = clash t refl
between-agree (suc w) [] (d ∷ s) (suc j) (suc m) h l k f t i b =
    clash t (before-greater pad d (pad_to w []) (pad_to w (take j s)) (character-small d (every-head is_character d s h)))
between-agree (suc w) (c ∷ cs) (d ∷ s) (suc j) (suc m) h l k f t zero b =
    let low = not-before-head c d (pad_to w cs) (pad_to w (take m s)) f in
    let high = before_head c d (pad_to w cs) (pad_to w (take j s)) t in
    omega arith
between-agree (suc w) (c ∷ cs) (d ∷ s) (suc j) (suc m) h l k f t (suc i) b =
    let low = not-before-head c d (pad_to w cs) (pad_to w (take m s)) f in
    let high = before_head c d (pad_to w cs) (pad_to w (take j s)) t in
    let e : c ≡ d = omega arith in
    between-agree w cs s j m (every-tail is_character d s h) (omega arith) (omega arith)
    (sym (before-tail c d (pad_to w cs) (pad_to w (take m s)) e) ∙ f)
    (sym (before-tail c d (pad_to w cs) (pad_to w (take j s)) e) ∙ t)
    i (omega arith)

agree-short : (w : ℕ) (cs s : List ℕ) (m : ℕ) → every is_character cs ≡ true → length cs ≤ w → m ≤ length s
    → before (pad_to w cs) (pad_to w (take m s)) ≡ false → Agree cs s m → length cs ≤ m
unfolding pad_to
agree-short w [] s m h l k f a = omega arith
agree-short zero (c ∷ cs) s m h l k f a = absurd (omega arith)
agree-short (suc w) (c ∷ cs) s zero h l k f a =
    clash (before-less c pad (pad_to w cs) (pad_to w []) (character-small c (every-head is_character c cs h))) f
agree-short (suc w) (c ∷ cs) [] (suc m) h l k f a = absurd (omega arith)
agree-short (suc w) (c ∷ cs) (d ∷ s) (suc m) h l k f a =
    let r = agree-short w cs s m (every-tail is_character c cs h) (omega arith) (omega arith)
    (sym (before-tail c d (pad_to w cs) (pad_to w (take m s)) (a 0 (omega arith))) ∙ f)
    (λ i b. a (suc i) (omega arith)) in
    omega arith

-- of two beginnings of a string the shorter does not come before the longer
pub longer-before : (s : List ℕ) (j m : ℕ) → every is_character s ≡ true → j ≤ m → before (padded (take j s) []) (padded (take m s) []) ≡ false
longer-before s j m h l = rw (← pad_to-padded (take j s), ← pad_to-padded (take m s)) (longer-first 4 s j m h l)

-- what is not before a beginning of s, but before a shorter one, begins with the shorter
pub between-begins : (cs s : List ℕ) (j m : ℕ) → every is_character s ≡ true → j ≤ m → m ≤ length s
    → before (padded cs []) (padded (take m s) []) ≡ false → before (padded cs []) (padded (take j s) []) ≡ true → Agree cs s j
between-begins cs s j m h l k f t =
    between-agree 4 cs s j m h l k
    (rw (pad_to-padded cs, pad_to-padded (take m s)) f)
    (rw (pad_to-padded cs, pad_to-padded (take j s)) t)

-- what is not before a beginning of s that it begins with is no longer
pub begins-short : (cs s : List ℕ) (m : ℕ) → every is_character cs ≡ true → length cs ≤ 4 → m ≤ length s
    → before (padded cs []) (padded (take m s) []) ≡ false → Agree cs s m → length cs ≤ m
begins-short cs s m h l k f a = agree-short 4 cs s m h l k (rw (pad_to-padded cs, pad_to-padded (take m s)) f) a

-- ## Items that a string begins with

pub begins-agree : (cs s : List ℕ) → begins cs s ≡ true → Agree cs s (length cs)
unfolding begins
begins-agree [] s h i b = absurd (omega arith)
begins-agree (c ∷ cs) [] h i b = clash h refl
begins-agree (c ∷ cs) (d ∷ s) h zero b = eqb-true c d (and_left (eqb c d) (begins cs s) h)
begins-agree (c ∷ cs) (d ∷ s) h (suc i) b = begins-agree cs s (and_right (eqb c d) (begins cs s) h) i (omega arith)

pub agree-begins : (cs s : List ℕ) → length cs ≤ length s → Agree cs s (length cs) → begins cs s ≡ true
unfolding begins
agree-begins [] s l a = refl
agree-begins (c ∷ cs) [] l a = absurd (omega arith)
agree-begins (c ∷ cs) (d ∷ s) l a = and_intro (eq-eqb c d (a 0 (omega arith))) (agree-begins cs s (omega arith) (λ i b. a (suc i) (omega arith)))

-- no padding is among the characters of a string
pub agree-long : (cs s : List ℕ) (n : ℕ) → every is_character s ≡ true → n ≤ length s → Agree cs s n → n ≤ length cs
agree-long cs s zero h l a = omega arith
agree-long cs [] (suc n) h l a = absurd (omega arith)
agree-long [] (d ∷ s) (suc n) h l a =
    let e : pad ≡ d = a 0 (omega arith) in
    let b = character-small d (every-head is_character d s h) in
    absurd (omega arith)
agree-long (c ∷ cs) (d ∷ s) (suc n) h l a =
    let r = agree-long cs s n (every-tail is_character d s h) (omega arith) (λ i b. a (suc i) (omega arith)) in
    omega arith

-- where padding stands, the characters are over
pub pad-over : (cs : List ℕ) (n : ℕ) → every is_character cs ≡ true → get_or cs n pad ≡ pad → length cs ≤ n
pad-over [] n h e = omega arith
pad-over (c ∷ cs) zero h e = let b = character-small c (every-head is_character c cs h) in absurd (omega arith)
pad-over (c ∷ cs) (suc n) h e = let r = pad-over cs n (every-tail is_character c cs h) e in omega arith

-- an item that a string begins with is a beginning of it
pub begins-take : (cs s : List ℕ) → begins cs s ≡ true → cs ≡ take (length cs) s
unfolding begins
begins-take [] s h = refl
begins-take (c ∷ cs) [] h = clash h refl
begins-take (c ∷ cs) (d ∷ s) h =
    let e = eqb-true c d (and_left (eqb c d) (begins cs s) h) in
    let r = begins-take cs s (and_right (eqb c d) (begins cs s) h) in
    cc

-- ## Buckets

-- what begins as s does stands in the bucket of s
pub agree-bucket : (i : ℕ) (cs s : List ℕ) (n m : ℕ) → every is_character s ≡ true → Agree cs s n → 1 ≤ n → n ≤ length s → 1 ≤ m
    → bucket i cs ≡ bucket i (padded (take m s) [])
unfolding bucket
agree-bucket i cs [] n m h a b l k = absurd (omega arith)
agree-bucket i cs (d ∷ s) n zero h a b l k = absurd (omega arith)
agree-bucket i [] (d ∷ s) n (suc m) h a b l k =
    let e : pad ≡ d = a 0 (omega arith) in
    let c = character-small d (every-head is_character d s h) in
    absurd (omega arith)
agree-bucket i (c ∷ cs) (d ∷ s) n (suc m) h a b l k = ap (λ (x : ℕ). bit_and x (mask i)) (a 0 (omega arith))
