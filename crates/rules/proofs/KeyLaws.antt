-- Keys: their byte order is the order of the comparison, their bytes are bytes, and how long they are.
use Rattle.std.specs.Prelude.{if◌then◌else◌}
use mathlib.Core.Path.{◌≡◌, refl, sym, ap, ◌∙◌}
use mathlib.Core.Bool.{Bool, true, false, not}
use mathlib.Core.List.{List, [], ◌∷◌, ◌++◌}
use Prim.Native.Nat.{ℕ, suc, ◌+◌, ◌*◌, ◌/◌, ◌%◌, ◌≤◌, ◌<◌}
use native.Mathlib.Omega.{arith}
use lib.ListN.{length}
use lib.Dec.{ltb, leb}
use borrow.Author.Tests.{lt-ltb, leb-true}
use Rattle.base_lists.proofs.Bools.{and_left, and_right, and_intro}
use Rattle.base_lists.proofs.Lists.{All}
use Rattle.rules.specs.Text.{every, within}
use Rattle.rules.specs.Names.{is_character}
use Rattle.rules.specs.Meaning.{Rule, Item, Meaning, good_item, good}
use Rattle.rules.specs.Order.{good_string, Entry, Sign, or_else, sign_ℕ, sign_entry, sign_list, compare_of, codes, codes_key, level_key, levels_key, key_of, levels_of, levels_from, level_entries, two, three, sign_bytes, elements}
use Rattle.rules.proofs.TextLaws.{every-head, every-tail}
use Rattle.rules.proofs.SignLaws.{or_else-assoc, or_else-equal, Tri, below, same, above, tri, sign_ℕ-below, sign_ℕ-same, sign_ℕ-above}
use Rattle.rules.proofs.OrderLaws.{sign_levels, compare_sign, compare_refl, compare-equal}
use Rattle.rules.proofs.ElementLaws.{elements-length}
use Rattle.rules.proofs.MeaningLaws.{good-parts}
use Rattle.rules.proofs.EntryLaws.{Fits, level-fits, level-length}

-- ## Numbers as bytes, high first, order as the numbers

-- two digits of a number
digits-sign : (x y : ℕ) → or_else (sign_ℕ (x / 256) (y / 256)) (sign_ℕ (x % 256) (y % 256)) ≡ sign_ℕ x y
digits-sign x y = high (tri (x / 256) (y / 256))
  where
    low : x / 256 ≡ y / 256 → Tri (x % 256) (y % 256) → sign_ℕ (x % 256) (y % 256) ≡ sign_ℕ x y
    low e (below h) = sign_ℕ-below h ∙ sym (sign_ℕ-below (omega arith))
    low e (same h) = sign_ℕ-same h ∙ sym (sign_ℕ-same (omega arith))
    low e (above h) = sign_ℕ-above h ∙ sym (sign_ℕ-above (omega arith))

    high : Tri (x / 256) (y / 256) → or_else (sign_ℕ (x / 256) (y / 256)) (sign_ℕ (x % 256) (y % 256)) ≡ sign_ℕ x y
    high (below h) = rw (sign_ℕ-below h) (sym (sign_ℕ-below (omega arith)))
    high (same e) = rw (sign_ℕ-same e) (low e (tri (x % 256) (y % 256)))
    high (above h) = rw (sign_ℕ-above h) (sym (sign_ℕ-above (omega arith)))

two-sign : (x y : ℕ) (r s : List ℕ) → sign_bytes (two x r) (two y s) ≡ or_else (sign_ℕ x y) (sign_bytes r s)
unfolding sign_bytes
two-sign x y r s =
    sym (or_else-assoc (sign_ℕ (x / 256) (y / 256)) (sign_ℕ (x % 256) (y % 256)) (sign_bytes r s))
    ∙ ap (λ (z : Sign). or_else z (sign_bytes r s)) (digits-sign x y)

high_digit : (x : ℕ) → x / 65536 ≡ x / 256 / 256
high_digit x = omega arith

three-sign : (x y : ℕ) (r s : List ℕ) → sign_bytes (three x r) (three y s) ≡ or_else (sign_ℕ x y) (sign_bytes r s)
unfolding sign_bytes
three-sign x y r s =
    rw (high_digit x, high_digit y) (two-sign (x / 256) (y / 256) (x % 256 ∷ r) (y % 256 ∷ s))
    ∙ sym (or_else-assoc (sign_ℕ (x / 256) (y / 256)) (sign_ℕ (x % 256) (y % 256)) (sign_bytes r s))
    ∙ ap (λ (z : Sign). or_else z (sign_bytes r s)) (digits-sign x y)

suc-sign : (x y : ℕ) → sign_ℕ (suc x) (suc y) ≡ sign_ℕ x y
suc-sign x y = go (tri x y)
  where
    go : Tri x y → sign_ℕ (suc x) (suc y) ≡ sign_ℕ x y
    go (below h) = sign_ℕ-below (omega arith) ∙ sym (sign_ℕ-below h)
    go (same h) = sign_ℕ-same (omega arith) ∙ sym (sign_ℕ-same h)
    go (above h) = sign_ℕ-above (omega arith) ∙ sym (sign_ℕ-above h)

-- ## The order of keys

level-sign : (p : Bool) (n k : ℕ) (es fs : List Entry) (r s : List ℕ) → All (Fits p n) es → All (Fits p k) fs
    → sign_bytes (level_key p es r) (level_key p fs s) ≡ or_else (sign_list es fs) (sign_bytes r s)
unfolding level_key sign_list sign_entry
level-sign p n k [] [] r s h l = two-sign 0 0 r s ∙ rw (sign_ℕ-same {x = 0} {y = 0} refl)
level-sign true n k [] (f ∷ fs) r s h l =
    two-sign 0 (suc f.count) r (two f.weight (level_key true fs s)) ∙ rw (sign_ℕ-below {x = 0} {y = suc f.count} (omega arith))
level-sign false n k [] (f ∷ fs) r s h l =
    two-sign 0 f.weight r (level_key false fs s) ∙ rw (sign_ℕ-below {x = 0} {y = f.weight} l.0.positive)
level-sign true n k (e ∷ es) [] r s h l =
    two-sign (suc e.count) 0 (two e.weight (level_key true es r)) s ∙ rw (sign_ℕ-above {x = suc e.count} {y = 0} (omega arith))
level-sign false n k (e ∷ es) [] r s h l =
    two-sign e.weight 0 (level_key false es r) s ∙ rw (sign_ℕ-above {x = e.weight} {y = 0} h.0.positive)
level-sign true n k (e ∷ es) (f ∷ fs) r s h l =
    two-sign (suc e.count) (suc f.count) (two e.weight (level_key true es r)) (two f.weight (level_key true fs s))
    ∙ rw
    (suc-sign, two-sign e.weight f.weight (level_key true es r) (level_key true fs s), level-sign true n k es fs r s h.1 l.1)
    (simp or_else-assoc)
level-sign false n k (e ∷ es) (f ∷ fs) r s h l =
    two-sign e.weight f.weight (level_key false es r) (level_key false fs s)
    ∙ rw
    (level-sign false n k es fs r s h.1 l.1, sign_ℕ-same {x = e.count} {y = f.count} (h.0.plain refl ∙ sym (l.0.plain refl)))
    (simp or_else-assoc)

codes-sign : (a b : List ℕ) → sign_bytes (codes_key a) (codes_key b) ≡ sign_list (codes a) (codes b)
unfolding codes_key codes sign_list sign_entry sign_bytes
codes-sign [] [] = refl
codes-sign [] (d ∷ b) = refl
codes-sign (c ∷ a) [] = refl
codes-sign (c ∷ a) (d ∷ b) = three-sign c d (codes_key a) (codes_key b) ∙ rw (codes-sign a b, sign_ℕ-same {x = 0} {y = 0} refl)

-- keys of levels, with two ends after them that order as two last lists of entries do
levels-sign : (l : ℕ) (is : List Item) → every (good_item l) is ≡ true → (rs : List Rule) (k : ℕ) (ps qs x y : List ℕ) (c d : List Entry)
    → sign_bytes x y ≡ sign_list c d
    → sign_bytes (levels_key rs (levels_from is rs k ps) x) (levels_key rs (levels_from is rs k qs) y)
    ≡ sign_levels (levels_from is rs k ps ++ c ∷ []) (levels_from is rs k qs ++ d ∷ [])
unfolding levels_key levels_from sign_levels
levels-sign l is h [] k ps qs x y c d e = e ∙ sym (or_else-equal (sign_list c d))
levels-sign l is h (r ∷ rs) k ps qs x y c d e =
    level-sign r.position (length ps) (length qs) (level_entries is r k ps) (level_entries is r k qs)
    (levels_key rs (levels_from is rs (suc k) ps) x) (levels_key rs (levels_from is rs (suc k) qs) y)
    (level-fits l is h r k ps) (level-fits l is h r k qs)
    ∙ rw (levels-sign l is h rs (suc k) ps qs x y c d e)

-- "Keys compare as bytes", and as the strings do
pub key-order : (m : Meaning) → good m ≡ true → (a b : List ℕ) → sign_bytes (key_of m a) (key_of m b) ≡ (compare_of m a b).sign
unfolding key_of levels_of
key-order m h a b =
    levels-sign (length m.rules) m.items (good-parts m h).items m.rules 0 (elements m.items 0 a) (elements m.items 0 b)
    (codes_key a) (codes_key b) (codes a) (codes b) (codes-sign a b)
    ∙ sym (compare_sign m a b)

-- only the same string has the same key
pub key-determines : (m : Meaning) → good m ≡ true → (a b : List ℕ) → key_of m a ≡ key_of m b → a ≡ b
key-determines m h a b e =
    (compare-equal m a b).0
    (sym (key-order m h a b) ∙ ap (λ (k : List ℕ). sign_bytes k (key_of m b)) e ∙ key-order m h b b ∙ compare_refl m b)

-- ## The bytes of keys

-- below 256
abbrev pub fits_byte : ℕ → Bool
fits_byte b = ltb b 256

two_bytes : (n : ℕ) (r : List ℕ) → n < 65536 → every fits_byte r ≡ true → every fits_byte (two n r) ≡ true
unfolding every
two_bytes n r h k = and_intro (lt-ltb (n / 256) 256 (omega arith)) (and_intro (lt-ltb (n % 256) 256 (omega arith)) k)

three-bytes : (n : ℕ) (r : List ℕ) → n < 16777216 → every fits_byte r ≡ true → every fits_byte (three n r) ≡ true
unfolding every
three-bytes n r h k =
    and_intro (lt-ltb (n / 65536) 256 (omega arith))
    (and_intro (lt-ltb (n / 256 % 256) 256 (omega arith)) (and_intro (lt-ltb (n % 256) 256 (omega arith)) k))

level-bytes : (p : Bool) (n : ℕ) (es : List Entry) (r : List ℕ) → n ≤ 4096 → All (Fits p n) es → every fits_byte r ≡ true
    → every fits_byte (level_key p es r) ≡ true
unfolding level_key
level-bytes p n [] r l h k = two_bytes 0 r (omega arith) k
level-bytes true n (e ∷ es) r l h k =
    let f = h.0 in
    two_bytes (suc e.count) (two e.weight (level_key true es r)) (omega arith)
    (two_bytes e.weight (level_key true es r) (omega arith) (level-bytes true n es r l h.1 k))
level-bytes false n (e ∷ es) r l h k =
    let f = h.0 in
    two_bytes e.weight (level_key false es r) (omega arith) (level-bytes false n es r l h.1 k)

codes-bytes : (s : List ℕ) → every is_character s ≡ true → every fits_byte (codes_key s) ≡ true
unfolding codes_key every
codes-bytes [] h = refl
codes-bytes (c ∷ s) h =
    let l = leb-true c 0x10FFFF (and_left (leb c 0x10FFFF) (not (within 0xD800 0xDFFF c)) (every-head is_character c s h)) in
    three-bytes c (codes_key s) (omega arith) (codes-bytes s (every-tail is_character c s h))

levels-bytes : (l : ℕ) (is : List Item) → every (good_item l) is ≡ true → (rs : List Rule) (k : ℕ) (ps r : List ℕ) → length ps ≤ 4096
    → every fits_byte r ≡ true → every fits_byte (levels_key rs (levels_from is rs k ps) r) ≡ true
unfolding levels_key levels_from
levels-bytes l is h [] k ps r n e = e
levels-bytes l is h (q ∷ rs) k ps r n e =
    level-bytes q.position (length ps) (level_entries is q k ps) (levels_key rs (levels_from is rs (suc k) ps) r) n
    (level-fits l is h q k ps) (levels-bytes l is h rs (suc k) ps r n e)

pub good_string-length : (s : List ℕ) → good_string s ≡ true → length s ≤ 4096
unfolding good_string
good_string-length s h = leb-true (length s) 4096 (and_left (leb (length s) 4096) (every is_character s) h)

-- a key is a list of bytes
pub key-bytes : (m : Meaning) → good m ≡ true → (s : List ℕ) → good_string s ≡ true → every fits_byte (key_of m s) ≡ true
unfolding key_of levels_of good_string
key-bytes m h s g =
    let n = good_string-length s g in
    let e = elements-length m.items 0 s in
    levels-bytes (length m.rules) m.items (good-parts m h).items m.rules 0 (elements m.items 0 s) (codes_key s) (omega arith)
    (codes-bytes s (and_right (leb (length s) 4096) (every is_character s) g))

-- ## The length of keys

-- the bytes of an entry: "with position preceded by count + 1 in two bytes"
abbrev pub entry_width : Bool → ℕ
entry_width position = if position then 4 else 2

-- the bytes of the levels: their entries, and "00 00 after each level"
unfoldable pub levels_width : List Rule → List (List Entry) → ℕ
levels_width [] ls = 0
levels_width (r ∷ rs) [] = 0
levels_width (r ∷ rs) (l ∷ ls) = entry_width r.position * length l + 2 + levels_width rs ls

-- the bytes of a level, and what follows them
pub level-width : (p : Bool) (es : List Entry) (r : List ℕ) → length (level_key p es r) ≡ entry_width p * length es + 2 + length r
unfolding level_key
level-width true [] r = omega arith
level-width false [] r = omega arith
level-width true (e ∷ es) r = let h = level-width true es r in omega arith
level-width false (e ∷ es) r = let h = level-width false es r in omega arith

levels-width : (rs : List Rule) (ls : List (List Entry)) (r : List ℕ) → length (levels_key rs ls r) ≡ levels_width rs ls + length r
unfolding levels_key levels_width
levels-width [] ls r = omega arith
levels-width (q ∷ rs) [] r = omega arith
levels-width (q ∷ rs) (l ∷ ls) r =
    let h = level-width q.position l (levels_key rs ls r) in
    let k = levels-width rs ls r in
    omega arith

codes-width : (s : List ℕ) → length (codes_key s) ≡ 3 * length s
unfolding codes_key
codes-width [] = omega arith
codes-width (c ∷ s) = let h = codes-width s in omega arith

-- the levels' bytes, then "three bytes per character"
pub key-length : (m : Meaning) (s : List ℕ) → length (key_of m s) ≡ levels_width m.rules (levels_of m s) + 3 * length s
unfolding key_of
key-length m s =
    let h = levels-width m.rules (levels_of m s) (codes_key s) in
    let k = codes-width s in
    omega arith

entry_width-le : (p : Bool) (n : ℕ) → entry_width p * n ≤ 4 * n
entry_width-le true n = omega arith
entry_width-le false n = omega arith

levels_width-le : (l : ℕ) (is : List Item) → every (good_item l) is ≡ true → (rs : List Rule) (k : ℕ) (ps : List ℕ) → length ps ≤ 4096
    → levels_width rs (levels_from is rs k ps) ≤ 131074 * length rs
unfolding levels_width levels_from
levels_width-le l is h [] k ps n = omega arith
levels_width-le l is h (r ∷ rs) k ps n =
    let w = entry_width-le r.position (length (level_entries is r k ps)) in
    let e = level-length l is h r k ps in
    let q = levels_width-le l is h rs (suc k) ps n in
    omega arith

-- "No key exceeds 1,060,880 bytes."
pub key-bound : (m : Meaning) → good m ≡ true → (s : List ℕ) → good_string s ≡ true → length (key_of m s) ≤ 1060880
unfolding levels_of
key-bound m h s g =
    let n = good_string-length s g in
    let e = elements-length m.items 0 s in
    let k = key-length m s in
    let l = (good-parts m h).few-levels in
    let w = levels_width-le (length m.rules) m.items (good-parts m h).items m.rules 0 (elements m.items 0 s) (omega arith) in
    omega arith
