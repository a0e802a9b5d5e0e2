-- Signs: the first that is not equal, the opposite, and three that fit together; then the signs of numbers, of entries and of lists of
-- entries, each of which orders, and is equal only for the same.
use mathlib.Core.Path.{◌≡◌, refl, sym, ap, ◌∙◌}
use mathlib.Core.List.{List, [], ◌∷◌}
use Prim.Native.Nat.{ℕ, ◌<◌}
use native.Mathlib.Omega.{arith}
use native.Mathlib.Decide.{dec_lt}
use borrow.Author.Tests.{lt-ltb, le-ltb}
use Rattle.rules.specs.Order.{Entry, Sign, less, equal, greater, or_else, sign_ℕ, sign_entry, sign_list}

-- ## Three different signs

pub less≢equal : less ≡ equal → ⊥
less≢equal e = let z : ◌≡◌ {A = ℕ} 0 1 = cc in omega arith

pub greater≢equal : greater ≡ equal → ⊥
greater≢equal e = let z : ◌≡◌ {A = ℕ} 0 1 = cc in omega arith

less≢greater : less ≡ greater → ⊥
less≢greater e = let z : ◌≡◌ {A = ℕ} 0 1 = cc in omega arith

-- ## The first sign that is not equal

pub or_else-assoc : (a b c : Sign) → or_else (or_else a b) c ≡ or_else a (or_else b c)
or_else-assoc less b c = refl
or_else-assoc equal b c = refl
or_else-assoc greater b c = refl

pub or_else-equal : (a : Sign) → or_else a equal ≡ a
or_else-equal less = refl
or_else-equal equal = refl
or_else-equal greater = refl

-- it is equal only where both are
pub or_else-both : (a b : Sign) → or_else a b ≡ equal → (a ≡ equal) × (b ≡ equal)
or_else-both less b h = (h, cc)
or_else-both equal b h = (refl, h)
or_else-both greater b h = (h, cc)

-- ## The opposite

-- the sign of two things that have changed places
abbrev pub opposite : Sign → Sign
opposite less = greater
opposite equal = equal
opposite greater = less

pub opposite-or_else : (a b : Sign) → opposite (or_else a b) ≡ or_else (opposite a) (opposite b)
opposite-or_else less b = refl
opposite-or_else equal b = refl
opposite-or_else greater b = refl

-- ## Three signs that fit together

-- what the signs x of (a, b) and y of (b, c) say of the sign z of (a, c)
abbrev pub Follows : Sign → Sign → Sign → Type 0
Follows less less z = z ≡ less
Follows less equal z = z ≡ less
Follows less greater z = Unit
Follows equal y z = z ≡ y
Follows greater less z = Unit
Follows greater equal z = z ≡ greater
Follows greater greater z = z ≡ greater

less-follows : (y : Sign) → Follows less y less
less-follows less = refl
less-follows equal = refl
less-follows greater = tt

follows-less : (x : Sign) → Follows x less less
follows-less less = refl
follows-less equal = refl
follows-less greater = tt

greater-follows : (y : Sign) → Follows greater y greater
greater-follows less = tt
greater-follows equal = refl
greater-follows greater = refl

follows-greater : (x : Sign) → Follows x greater greater
follows-greater less = tt
follows-greater equal = refl
follows-greater greater = refl

follows-or_else : (x y z x' y' z' : Sign) → Follows x y z → Follows x' y' z' → Follows (or_else x x') (or_else y y') (or_else z z')
follows-or_else less less z x' y' z' h k = rw h
follows-or_else less equal z x' y' z' h k = rw h (less-follows y')
follows-or_else less greater z x' y' z' h k = tt
follows-or_else equal less z x' y' z' h k = rw h (follows-less x')
follows-or_else equal equal z x' y' z' h k = rw h k
follows-or_else equal greater z x' y' z' h k = rw h (follows-greater x')
follows-or_else greater less z x' y' z' h k = tt
follows-or_else greater equal z x' y' z' h k = rw h (greater-follows y')
follows-or_else greater greater z x' y' z' h k = rw h

pub follows-not-greater : (x y z : Sign) → Follows x y z → ¬ (x ≡ greater) → ¬ (y ≡ greater) → ¬ (z ≡ greater)
follows-not-greater less less z h p q e = less≢greater (sym h ∙ e)
follows-not-greater less equal z h p q e = less≢greater (sym h ∙ e)
follows-not-greater less greater z h p q e = q refl
follows-not-greater equal y z h p q e = q (sym h ∙ e)
follows-not-greater greater y z h p q e = p refl

pub less-follows-less : (x y z : Sign) → Follows x y z → x ≡ less → ¬ (y ≡ greater) → z ≡ less
less-follows-less less less z h p q = h
less-follows-less less equal z h p q = h
less-follows-less less greater z h p q = absurd (q refl)
less-follows-less equal y z h p q = cc
less-follows-less greater y z h p q = cc

pub follows-less-less : (x y z : Sign) → Follows x y z → ¬ (x ≡ greater) → y ≡ less → z ≡ less
follows-less-less less less z h p q = h
follows-less-less less equal z h p q = h
follows-less-less less greater z h p q = cc
follows-less-less equal y z h p q = h ∙ q
follows-less-less greater y z h p q = absurd (p refl)

-- ## Signs that order

-- the sign of any two orders them: each is equal to itself, changed places give the opposite, and every three fit together
pub record Orders {A : Type 0} (sign : A → A → Sign) : Type 0 where
  pub self : (a : A) → sign a a ≡ equal
  pub back : (a b : A) → sign b a ≡ opposite (sign a b)
  pub follows : (a b c : A) → Follows (sign a b) (sign b c) (sign a c)

-- all are equal
pub orders-equal : {A : Type 0} → Orders {A = A} (λ a b. equal)
orders-equal = record { self = λ a. refl; back = λ a b. refl; follows = λ a b c. refl }

-- by a part, or another measure
pub orders-by : {A B : Type 0} (f : B → A) {sign : A → A → Sign} → Orders sign → Orders (λ (a b : B). sign (f a) (f b))
orders-by f o = record { self = λ a. o.self (f a); back = λ a b. o.back (f a) (f b); follows = λ a b c. o.follows (f a) (f b) (f c) }

-- by one sign, and where it is equal by another
pub orders-then : {A : Type 0} {s t : A → A → Sign} → Orders s → Orders t → Orders (λ (a b : A). or_else (s a b) (t a b))
orders-then {s = s} {t = t} o p = record {
  self = λ a. rw (o.self a) (p.self a);
  back = λ a b. rw (o.back a b, p.back a b) (sym (opposite-or_else (s a b) (t a b)));
  follows = λ a b c. follows-or_else (s a b) (s b c) (s a c) (t a b) (t b c) (t a c) (o.follows a b c) (p.follows a b c);
}

-- ## Numbers

pub data Tri (x y : ℕ) : Type 0 where
  below : x < y → Tri x y
  same : x ≡ y → Tri x y
  above : y < x → Tri x y

pub tri : (x y : ℕ) → Tri x y
tri x y = elim (dec_lt x y) [ yes h ↦ below h | no h ↦ elim (dec_lt y x) [ yes l ↦ above l | no l ↦ same (omega arith) ] ]

pub sign_ℕ-below : {x y : ℕ} → x < y → sign_ℕ x y ≡ less
unfolding sign_ℕ
sign_ℕ-below {x} {y} h = simp (lt-ltb x y h)

pub sign_ℕ-same : {x y : ℕ} → x ≡ y → sign_ℕ x y ≡ equal
unfolding sign_ℕ
sign_ℕ-same {x} {y} h = simp (le-ltb x y (omega arith), le-ltb y x (omega arith))

pub sign_ℕ-above : {x y : ℕ} → y < x → sign_ℕ x y ≡ greater
unfolding sign_ℕ
sign_ℕ-above {x} {y} h = simp (le-ltb x y (omega arith), lt-ltb y x h)

pub sign_ℕ-unique : (x y : ℕ) → sign_ℕ x y ≡ equal → x ≡ y
sign_ℕ-unique x y e = go (tri x y)
  where
    go : Tri x y → x ≡ y
    go (below h) = let d = sign_ℕ-below h in cc
    go (same h) = h
    go (above h) = let d = sign_ℕ-above h in cc

sign_ℕ-back : (x y : ℕ) → sign_ℕ y x ≡ opposite (sign_ℕ x y)
sign_ℕ-back x y = go (tri x y)
  where
    go : Tri x y → sign_ℕ y x ≡ opposite (sign_ℕ x y)
    go (below h) = rw (sign_ℕ-below h) (sign_ℕ-above h)
    go (same h) = rw (sign_ℕ-same h) (sign_ℕ-same (sym h))
    go (above h) = rw (sign_ℕ-above h) (sign_ℕ-below h)

sign_ℕ-follows : (x y z : ℕ) → Follows (sign_ℕ x y) (sign_ℕ y z) (sign_ℕ x z)
sign_ℕ-follows x y z = go (tri x y) (tri y z)
  where
    go : Tri x y → Tri y z → Follows (sign_ℕ x y) (sign_ℕ y z) (sign_ℕ x z)
    go (below h) (below k) = rw (sign_ℕ-below h, sign_ℕ-below k) (sign_ℕ-below (omega arith))
    go (below h) (same k) = rw (sign_ℕ-below h, sign_ℕ-same k) (sign_ℕ-below (omega arith))
    go (below h) (above k) = rw (sign_ℕ-below h, sign_ℕ-above k) tt
    go (same h) k = rw (sign_ℕ-same h) (ap (λ (n : ℕ). sign_ℕ n z) h)
    go (above h) (below k) = rw (sign_ℕ-above h, sign_ℕ-below k) tt
    go (above h) (same k) = rw (sign_ℕ-above h, sign_ℕ-same k) (sign_ℕ-above (omega arith))
    go (above h) (above k) = rw (sign_ℕ-above h, sign_ℕ-above k) (sign_ℕ-above (omega arith))

pub orders-ℕ : Orders sign_ℕ
orders-ℕ = record { self = λ x. sign_ℕ-same refl; back = sign_ℕ-back; follows = sign_ℕ-follows }

-- ## Entries

pub orders-entry : Orders sign_entry
unfolding sign_entry
orders-entry = orders-then (orders-by (λ (e : Entry). e.count) orders-ℕ) (orders-by (λ (e : Entry). e.weight) orders-ℕ)

pub sign_entry-unique : (x y : Entry) → sign_entry x y ≡ equal → x ≡ y
unfolding sign_entry
sign_entry-unique x y e =
    let h = or_else-both (sign_ℕ x.count y.count) (sign_ℕ x.weight y.weight) e in
    let c = sign_ℕ-unique x.count y.count h.0 in
    let w = sign_ℕ-unique x.weight y.weight h.1 in
    λ i. record { count = c i; weight = w i }

-- ## Lists of entries

sign_list-self : (xs : List Entry) → sign_list xs xs ≡ equal
unfolding sign_list
sign_list-self [] = refl
sign_list-self (x ∷ xs) = rw (orders-entry.self x) (sign_list-self xs)

sign_list-back : (xs ys : List Entry) → sign_list ys xs ≡ opposite (sign_list xs ys)
unfolding sign_list
sign_list-back [] [] = refl
sign_list-back [] (y ∷ ys) = refl
sign_list-back (x ∷ xs) [] = refl
sign_list-back (x ∷ xs) (y ∷ ys) =
    rw (orders-entry.back x y, sign_list-back xs ys) (sym (opposite-or_else (sign_entry x y) (sign_list xs ys)))

sign_list-follows : (xs ys zs : List Entry) → Follows (sign_list xs ys) (sign_list ys zs) (sign_list xs zs)
unfolding sign_list
sign_list-follows [] [] [] = refl
sign_list-follows [] [] (z ∷ zs) = refl
sign_list-follows [] (y ∷ ys) [] = tt
sign_list-follows [] (y ∷ ys) (z ∷ zs) = less-follows (or_else (sign_entry y z) (sign_list ys zs))
sign_list-follows (x ∷ xs) [] [] = refl
sign_list-follows (x ∷ xs) [] (z ∷ zs) = tt
sign_list-follows (x ∷ xs) (y ∷ ys) [] = follows-greater (or_else (sign_entry x y) (sign_list xs ys))
sign_list-follows (x ∷ xs) (y ∷ ys) (z ∷ zs) =
    follows-or_else
    (sign_entry x y) (sign_entry y z) (sign_entry x z) (sign_list xs ys) (sign_list ys zs) (sign_list xs zs)
    (orders-entry.follows x y z) (sign_list-follows xs ys zs)

pub orders-list : Orders sign_list
orders-list = record { self = sign_list-self; back = sign_list-back; follows = sign_list-follows }

pub sign_list-unique : (xs ys : List Entry) → sign_list xs ys ≡ equal → xs ≡ ys
unfolding sign_list
sign_list-unique [] [] e = refl
sign_list-unique [] (y ∷ ys) e = cc
sign_list-unique (x ∷ xs) [] e = cc
sign_list-unique (x ∷ xs) (y ∷ ys) e =
    let h = or_else-both (sign_entry x y) (sign_list xs ys) e in
    let p = sign_entry-unique x y h.0 in
    let q = sign_list-unique xs ys h.1 in
    cc
