-- A name in its numbers: what the numbers tell of the name, a byte more, and the turns of the loops.
use Rattle.std.specs.Prelude.{None, Option, Some}
use mathlib.Core.Path.{◌≡◌, refl, sym, ap, ◌∙◌, subst}
use mathlib.Core.Bool.{Bool, true, false, ◌&&◌, not}
use mathlib.Core.List.{List, [], ◌∷◌, ◌++◌, append_assoc, append-nil}
use Prim.Native.Nat.{ℕ, ◌+◌, ◌-◌, ◌*◌, ◌/◌, ◌%◌, ◌^◌, ◌≤◌, ◌<◌}
use native.Mathlib.Omega.{arith}
use lib.ListN.{length, get_or, set, replicate, length-append, length-set, get_or-eq_default, get_or-append}
use lib.Seq.{ext_get_or, get_or_at, get_or-set_same, get_or-set_other}
use lib.Dec.{leb, eqb, ltb}
use mir.Syntax.{w32}
use mir.Val.{Fits}
use borrow.Author.Tests.{leb-true, leb-false, le-leb, eqb-true, eqb-false, ltb-true, ltb-false, not-true}
use Rattle.base_lists.proofs.Bools.{by, clash, and_left, and_right, and_intro}
use Rattle.rules.specs.Text.{every, ◌unless◌}
use Rattle.rules.specs.Names.{is_visible, name_refusal}
use Rattle.rules.proofs.TextLaws.{every_append, every-both, every-at, lower-none}
use Rattle.text_lines.specs.declared.Signs.{Signs}
use Rattle.text_lines.specs.declared.Spot.{Spot}
use Rattle.text_lines.proofs.LineLaws.{spot}
use Rattle.text_tokens.specs.Left.{is_inside, NameByte}
use Rattle.text_names.specs.declared.Pack.{Pack}
use Rattle.text_names.specs.Named.{ByteIs, name_left, hash_from}
use Rattle.text_names.specs.Shape.{stands_in, stands_at}
use Rattle.text_names.specs.Packed.{quad, packed, is_plain, PackedIs, Counted, Begun, PutIs, PackedOn}
use Rattle.text_names.proofs.InsideLaws.{place-within, place_is, byte_inside, close-inside}

-- by cases of a number below four
fours : (P : ℕ → Type 0) → P 0 → P 1 → P 2 → P 3 → (k : ℕ) → k < 4 → P k
fours P a b c d k h =
    by (eqb k 0) (λ t. subst P (sym (eqb-true k 0 t)) a)
    (λ s. by (eqb k 1) (λ t. subst P (sym (eqb-true k 1 t)) b)
    (λ t. by (eqb k 2) (λ u. subst P (sym (eqb-true k 2 u)) c)
    (λ u. let x = eqb-false k 0 s in let y = eqb-false k 1 t in let z = eqb-false k 2 u in
    let e : 3 ≡ k = omega arith in subst P e d)))

-- ## The bytes of a name that can be declared

visible-low : (b : ℕ) → is_visible b ≡ true → 33 ≤ b
visible-low b h = leb-true 33 b (and_left (leb 33 b) (leb b 126) h)

visible-high : (b : ℕ) → is_visible b ≡ true → b ≤ 126
visible-high b h = leb-true b 126 (and_right (leb 33 b) (leb b 126) h)

module _ (n : List ℕ) (h : is_plain n ≡ true) where
  plain-short : length n ≤ 32
  unfolding is_plain
  plain-short = leb-true (length n) 32 (and_left (leb (length n) 32) (every is_visible n) h)

  plain-seen : every is_visible n ≡ true
  unfolding is_plain
  plain-seen = and_right (leb (length n) 32) (every is_visible n) h

  byte_low : (j : ℕ) → j < length n → 33 ≤ get_or n j 0
  byte_low j l = visible-low (get_or n j 0) (every-at is_visible n j 0 plain-seen l)

  -- visible bytes are below 127, and behind the last there is 0
  pub byte_small : (j : ℕ) → get_or n j 0 < 127
  byte_small j =
      by (ltb j (length n))
      (λ t. let v = visible-high (get_or n j 0) (every-at is_visible n j 0 plain-seen (ltb-true j (length n) t)) in omega arith)
      (λ t. rw (get_or-eq_default n 0 (ltb-false j (length n) t)) (omega arith))

-- a name with no refusal can be declared
pub plain-name : (n : List ℕ) → name_refusal n ≡ 0 → is_plain n ≡ true
unfolding name_refusal is_plain
plain-name n h =
    let v = leb 1 (length n) && every is_visible n in
    let z = lower-none (3 unless v) (7 unless leb (length n) 32) h in
    and_intro (by (leb (length n) 32) (λ t. t) (λ t. let y : 7 ≡ 0 = rw t at z.1 in absurd (omega arith)))
    (by v (λ t. and_right (leb 1 (length n)) (every is_visible n) t) (λ t. let y : 3 ≡ 0 = rw t at z.0 in absurd (omega arith)))

-- ## The numbers tell the name

-- number i of the eight
pub packed-at : (n : List ℕ) (i : ℕ) → i < 8 → get_or (packed n) i 0 ≡ quad n i
unfolding packed
packed-at n i h =
    by (ltb i 4) (λ t. fours (λ (k : ℕ). get_or (packed n) k 0 ≡ quad n k) refl refl refl refl i (ltb-true i 4 t))
    (λ t. let l = ltb-false i 4 t in
    let e : 4 + (i - 4) ≡ i = omega arith in
    subst (λ (x : ℕ). get_or (packed n) x 0 ≡ quad n x) e
    (fours (λ (k : ℕ). get_or (packed n) (4 + k) 0 ≡ quad n (4 + k)) refl refl refl refl (i - 4) (omega arith)))

pub packed-long : (n : List ℕ) → length (packed n) ≡ 8
unfolding packed
packed-long n = refl

-- the lowest of two parts, and the other
part_apart : (x y u v : ℕ) → x < 256 → u < 256 → x + 256 * y ≡ u + 256 * v → (x ≡ u) × (y ≡ v)
part_apart x y u v h k e = (omega arith, omega arith)

-- four parts
parts-apart : (a b c d w x y z : ℕ) → a < 256 → b < 256 → c < 256 → w < 256 → x < 256 → y < 256
    → a + 256 * b + 65536 * c + 16777216 * d ≡ w + 256 * x + 65536 * y + 16777216 * z → (a ≡ w) × (b ≡ x) × (c ≡ y) × (d ≡ z)
parts-apart a b c d w x y z ha hb hc hw hx hy e =
    let p = part_apart a (b + 256 * (c + 256 * d)) w (x + 256 * (y + 256 * z)) ha hw (omega arith) in
    let q = part_apart b (c + 256 * d) x (y + 256 * z) hb hx p.1 in
    let r = part_apart c d y z hc hy q.1 in
    (p.0, q.0, r.0, r.1)

module _ (a b : List ℕ) (h : is_plain a ≡ true) (k : is_plain b ≡ true) where
  -- of two names of which each byte is the same, neither is longer
  no_longer : ((j : ℕ) → j < 32 → get_or a j 0 ≡ get_or b j 0) → length a ≤ length b
  no_longer e =
      by (leb (length a) (length b)) (λ t. leb-true (length a) (length b) t)
      (λ t. let l = leb-false (length a) (length b) t in
      let s = plain-short a h in
      let z = get_or-eq_default b 0 {n = length b} (omega arith) in
      absurd (omega (arith, byte_low a h (length b) l, e (length b) (omega arith))))

  module _ (e : packed a ≡ packed b) where
    quad-same : (i : ℕ) → i < 8 → quad a i ≡ quad b i
    quad-same i l = sym (packed-at a i l) ∙ ap (λ (x : List ℕ). get_or x i 0) e ∙ packed-at b i l

    byte-same : (j : ℕ) → j < 32 → get_or a j 0 ≡ get_or b j 0
    unfolding quad
    byte-same j l =
        let i = j / 4 in
        let q = parts-apart (get_or a (4 * i) 0) (get_or a (4 * i + 1) 0) (get_or a (4 * i + 2) 0) (get_or a (4 * i + 3) 0)
        (get_or b (4 * i) 0) (get_or b (4 * i + 1) 0) (get_or b (4 * i + 2) 0) (get_or b (4 * i + 3) 0)
        (omega (arith, byte_small a h (4 * i))) (omega (arith, byte_small a h (4 * i + 1))) (omega (arith, byte_small a h (4 * i + 2)))
        (omega (arith, byte_small b k (4 * i))) (omega (arith, byte_small b k (4 * i + 1))) (omega (arith, byte_small b k (4 * i + 2)))
        (quad-same i (omega arith)) in
        let z : 4 * i ≡ 4 * i + 0 = omega arith in
        let f = fours (λ (x : ℕ). get_or a (4 * i + x) 0 ≡ get_or b (4 * i + x) 0)
        (subst (λ (x : ℕ). get_or a x 0 ≡ get_or b x 0) z q.0) q.1 q.2 q.3 (j % 4) (omega arith) in
        let w : 4 * i + j % 4 ≡ j = omega arith in
        subst (λ (x : ℕ). get_or a x 0 ≡ get_or b x 0) w f

-- names that can be declared have the same numbers only if they are the same
pub packed-apart : (a b : List ℕ) → is_plain a ≡ true → is_plain b ≡ true → packed a ≡ packed b → a ≡ b
packed-apart a b h k e =
    let f = byte-same a b h k e in
    let s = plain-short a h in
    let l = no_longer a b h k f in
    let m = no_longer b a k h (λ j l. sym (f j l)) in
    ext_get_or 0 a b (omega arith) (λ i l. f i (omega arith))

-- ## A byte more

module _ (n : List ℕ) (b : ℕ) where
  byte_last : (j : ℕ) → length n ≡ j → get_or (n ++ b ∷ []) j 0 ≡ b
  byte_last j e = get_or_at n b [] 0 j e

  byte-other : (j : ℕ) → (length n ≡ j → ⊥) → get_or (n ++ b ∷ []) j 0 ≡ get_or n j 0
  byte-other j h =
      by (ltb j (length n)) (λ t. get_or-append n (b ∷ []) 0 j (ltb-true j (length n) t))
      (λ t. let l = ltb-false j (length n) t in
      let m = length-append n (b ∷ []) in
      let o : length (n ++ b ∷ []) ≤ j = omega arith in
      get_or-eq_default (n ++ b ∷ []) 0 o ∙ sym (get_or-eq_default n 0 l))

  quad-other : (i : ℕ) → (i ≡ length n / 4 → ⊥) → quad (n ++ b ∷ []) i ≡ quad n i
  unfolding quad
  quad-other i h =
      rw (
        byte-other (4 * i) (λ e. h (omega arith)),
        byte-other (4 * i + 1) (λ e. h (omega arith)),
        byte-other (4 * i + 2) (λ e. h (omega arith)),
        byte-other (4 * i + 3) (λ e. h (omega arith)),
      )

  quad-more : (i k : ℕ) → k < 4 → length n ≡ 4 * i + k → quad (n ++ b ∷ []) i ≡ quad n i + b * 256 ^ k
  unfolding quad
  quad-more i =
      fours (λ (k : ℕ). length n ≡ 4 * i + k → quad (n ++ b ∷ []) i ≡ quad n i + b * 256 ^ k)
      (λ e. omega (
        arith,
        byte_last (4 * i) (omega arith),
        byte-other (4 * i + 1) (λ z. omega arith),
        byte-other (4 * i + 2) (λ z. omega arith),
        byte-other (4 * i + 3) (λ z. omega arith),
        get_or-eq_default n 0 {n = 4 * i} (omega arith),
      ))
      (λ e. omega (
        arith,
        byte-other (4 * i) (λ z. omega arith),
        byte_last (4 * i + 1) (omega arith),
        byte-other (4 * i + 2) (λ z. omega arith),
        byte-other (4 * i + 3) (λ z. omega arith),
        get_or-eq_default n 0 {n = 4 * i + 1} (omega arith),
      ))
      (λ e. omega (
        arith,
        byte-other (4 * i) (λ z. omega arith),
        byte-other (4 * i + 1) (λ z. omega arith),
        byte_last (4 * i + 2) (omega arith),
        byte-other (4 * i + 3) (λ z. omega arith),
        get_or-eq_default n 0 {n = 4 * i + 2} (omega arith),
      ))
      (λ e. omega (
        arith,
        byte-other (4 * i) (λ z. omega arith),
        byte-other (4 * i + 1) (λ z. omega arith),
        byte-other (4 * i + 2) (λ z. omega arith),
        byte_last (4 * i + 3) (omega arith),
        get_or-eq_default n 0 {n = 4 * i + 3} (omega arith),
      ))

  -- it goes into its number
  packed_more : length n < 32
      → packed (n ++ b ∷ []) ≡ set (packed n) (length n / 4) (get_or (packed n) (length n / 4) 0 + b * 256 ^ (length n % 4))
  packed_more h =
      let m = length n / 4 in
      let v = get_or (packed n) m 0 + b * 256 ^ (length n % 4) in
      let l : m < 8 = omega arith in
      ext_get_or 0 (packed (n ++ b ∷ [])) (set (packed n) m v) (packed-long (n ++ b ∷ []) ∙ sym (length-set (packed n) m v ∙ packed-long n))
      (λ i j. let j : i < 8 = rw (packed-long (n ++ b ∷ [])) at j in
      by (eqb i m)
      (λ t. rw (eqb-true i m t)
      (packed-at (n ++ b ∷ []) m l ∙ quad-more m (length n % 4) (omega arith) (omega arith)
      ∙ sym (get_or-set_same (packed n) m v 0 (rw (packed-long n) l) ∙ ap (λ (x : ℕ). x + b * 256 ^ (length n % 4)) (packed-at n m l))))
      (λ t. packed-at (n ++ b ∷ []) i j ∙ quad-other i (eqb-false i m t) ∙ sym (get_or-set_other (packed n) m i v 0 (eqb-false i m t) ∙ packed-at n i j)))

  plain_more : is_plain n ≡ true → is_visible b ≡ true → length n < 32 → is_plain (n ++ b ∷ []) ≡ true
  unfolding is_plain every
  plain_more h k l =
      and_intro {a = leb (length (n ++ b ∷ [])) 32} (rw (length-append n (b ∷ [])) (le-leb (length n + 1) 32 (omega arith)))
      (every-both is_visible n (b ∷ []) (plain-seen n h) (rw k))

  module _ (h : is_plain (n ++ b ∷ []) ≡ true) where
    all_seen : (every is_visible n && every is_visible (b ∷ [])) ≡ true
    all_seen = sym (every_append is_visible n (b ∷ [])) ∙ plain-seen (n ++ b ∷ []) h

    before-short : length n < 32
    before-short = let s = plain-short (n ++ b ∷ []) h in let l = length-append n (b ∷ []) in omega arith

    before-plain : is_plain n ≡ true
    unfolding is_plain
    before-plain =
        and_intro (le-leb (length n) 32 (let s = before-short in omega arith)) (and_left (every is_visible n) (every is_visible (b ∷ [])) all_seen)

    last-seen : is_visible b ≡ true
    unfolding every
    last-seen = and_left (is_visible b) true (and_right (every is_visible n) (every is_visible (b ∷ [])) all_seen)

-- ## What a byte adds

-- above what stands before it in its number there is room for a byte
quad-below : (n : List ℕ) → is_plain n ≡ true → (i k : ℕ) → k < 4 → length n ≡ 4 * i + k → quad n i < 256 ^ k
unfolding quad
quad-below n h i =
    let z : (j : ℕ) → length n ≤ j → get_or n j 0 ≡ 0 = λ j l. get_or-eq_default n 0 {n = j} l in
    fours (λ (k : ℕ). length n ≡ 4 * i + k → quad n i < 256 ^ k)
    (λ e. omega (arith, z (4 * i) (omega arith), z (4 * i + 1) (omega arith), z (4 * i + 2) (omega arith), z (4 * i + 3) (omega arith)))
    (λ e. omega (arith, byte_small n h (4 * i), z (4 * i + 1) (omega arith), z (4 * i + 2) (omega arith), z (4 * i + 3) (omega arith)))
    (λ e. omega (arith, byte_small n h (4 * i), byte_small n h (4 * i + 1), z (4 * i + 2) (omega arith), z (4 * i + 3) (omega arith)))
    (λ e. omega (arith, byte_small n h (4 * i), byte_small n h (4 * i + 1), byte_small n h (4 * i + 2), z (4 * i + 3) (omega arith)))

byte_fits : (y b k : ℕ) → k < 4 → y < 256 ^ k → b < 256 → y + b * 256 ^ k < 4294967296
byte_fits y b =
    fours (λ (k : ℕ). y < 256 ^ k → b < 256 → y + b * 256 ^ k < 4294967296)
    (λ h l. omega arith) (λ h l. omega arith) (λ h l. omega arith) (λ h l. omega arith)

-- where some bytes are so far, their numbers
module _ {done key : List ℕ} {m : ℕ} (v : Counted done key m) where
  counted-plain : m ≤ 32 → is_plain done ≡ true
  counted-plain h = sym v.packs.plain ∙ le-leb m 32 h

  counted-key : m ≤ 32 → key ≡ packed done
  counted-key h = v.packs.numbers (counted-plain h)

pub begun-long : {key : List ℕ} {m : ℕ} → Begun key m → length key ≡ 8
begun-long v = v.counted.packs.long

pub begun-fits : {key : List ℕ} {m b x : ℕ} → Begun key m → m < 32 → (x ≡ b * 256 ^ (m % 4)) × (b < 256) → Fits w32 (get_or key (m / 4) 0 + x)
begun-fits {key} {m} {b} {x} v h e =
    let d = v.done in
    let l : length d ≡ m = v.counted.many (omega arith) in
    let p = counted-plain v.counted (omega arith) in
    let q : quad d (m / 4) < 256 ^ (m % 4) = quad-below d p (m / 4) (m % 4) (omega arith) (omega arith) in
    let k : get_or key (m / 4) 0 ≡ quad d (m / 4) = rw (counted-key v.counted (omega arith)) (packed-at d (m / 4) (omega arith)) in
    rw (k, e.0) (omega (arith, byte_fits (quad d (m / 4)) b (m % 4) (omega arith) q e.1))

-- ## What is so far, with a byte more

module _ (key : List ℕ) (m b : ℕ) where
  pub put-more : {t : Bool} {x : ℕ} → m < 32 → t ≡ is_visible b → t ≡ true → (x ≡ b * 256 ^ (m % 4)) × (b < 256)
      → PutIs key m b (set key (m / 4) (get_or key (m / 4) 0 + x)) (m + 1)
  put-more {t} {x} h e f g done v =
      let l : length done ≡ m = v.many (omega arith) in
      let s : length done < 32 = omega arith in
      let p = counted-plain v (omega arith) in
      let w = plain_more done b p (sym e ∙ f) s in
      record {
        packs = record {
          plain = le-leb (m + 1) 32 (omega arith) ∙ sym w;
          long = length-set key (m / 4) (get_or key (m / 4) 0 + x) ∙ v.packs.long;
          numbers = λ z. rw (counted-key v (omega arith), g.0, ← l) (sym (packed_more done b s));
        };
        many = λ z. let a = length-append done (b ∷ []) in omega arith;
      }

  -- no name that can be declared begins so
  put-none : (done : List ℕ) → Counted done key m → is_plain (done ++ b ∷ []) ≡ false → Counted (done ++ b ∷ []) key 33
  put-none done v f = record { packs = record { plain = sym f; long = v.packs.long; numbers = λ z. clash z f }; many = λ z. absurd (omega arith) }

  pub put-foul : {t : Bool} → t ≡ is_visible b → not t ≡ true → PutIs key m b key 33
  put-foul e f done v = put-none done v (by (is_plain (done ++ b ∷ [])) (λ z. clash (last-seen done b z) (sym e ∙ not-true _ f)) (λ z. z))

  pub put-long : 32 ≤ m → PutIs key m b key 33
  put-long h done v =
      put-none done v
      (by (is_plain (done ++ b ∷ []))
      (λ z. let s = before-short done b z in
      let o : m ≤ 32 = leb-true m 32 (v.packs.plain ∙ before-plain done b z) in
      let l = v.many o in absurd (omega arith))
      (λ z. z))

-- ## From spot to spot

-- From p to q some bytes of a name are read: what they make of the hash, and of the numbers.
pub record Packing (g : Signs) (src : List ℕ) (p q : Spot) (key now : List ℕ) (before h passed m : ℕ) : Type 0 where
  pub mid : List ℕ
  pub whole : mid ++ name_left g src q ≡ name_left g src p
  pub hash : hash_from h (name_left g src q) ≡ hash_from before (name_left g src p)
  pub small : h < 16777216
  pub count : (done : List ℕ) → Counted done key passed → Counted (done ++ mid) now m
  pub begun : Begun now m
  pub same : length now ≡ length key
  pub to : q.at ≤ length src

pub packing-none : (g : Signs) (src : List ℕ) (p : Spot) (key : List ℕ) (h m : ℕ) → p.at ≤ length src → Begun key m → h < 16777216
    → Packing g src p p key key h h m m
packing-none g src p key h m t b l =
    record { mid = []; whole = refl; hash = refl; small = l; count = λ done v. rw (append-nil done) v; begun = b; same = refl; to = t }

module _ {g : Signs} {src : List ℕ} {p q : Spot} {key now : List ℕ} {before h passed m : ℕ} (v : Packing g src p q key now before h passed m) where
  -- a byte more
  packing-on : {b i j : ℕ} {r : Spot} {after : List ℕ} → name_left g src q ≡ b ∷ name_left g src r → r.at ≤ length src → PutIs now m b after j
      → (i ≡ (h * 10368889 + b) % 16777216) × (i < 16777216) → Packing g src p r key after before i passed j
  unfolding hash_from
  packing-on {b} {r = r} e t f k =
      record {
        mid = v.mid ++ b ∷ [];
        whole = append_assoc v.mid (b ∷ []) (name_left g src r) ∙ rw (← e) v.whole;
        hash = rw k.0 (rw e at v.hash);
        small = k.1;
        count = λ done w. rw (← append_assoc) (f (done ++ v.mid) (v.count done w));
        begun = record { done = v.begun.done ++ b ∷ []; counted = f v.begun.done v.begun.counted };
        same = (f v.begun.done v.begun.counted).packs.long ∙ sym (begun-long v.begun) ∙ v.same;
        to = t;
      }

  -- what is told of the rest tells of the whole
  pub packing-rest : {after : List ℕ} {r : Pack} → PackedOn (name_left g src q) now h m after r → PackedOn (name_left g src p) key before passed after r
  packing-rest w =
      record {
        hash = w.hash ∙ v.hash;
        small = w.small;
        packs = λ done k. rw (← v.whole, ← append_assoc) (w.packs (done ++ v.mid) (v.count done k));
      }

  -- the name ends
  packing-end : name_left g src q ≡ [] → PackedOn (name_left g src p) key before passed now (record { hash = h; plain = leb m 32 })
  unfolding hash_from
  packing-end e =
      packing-rest (record { hash = rw e; small = v.small; packs = λ done k. rw (e, append-nil done) k.packs })

  module _ {s : Option (ℕ × Spot)} (w : ByteIs g src q s) where
    pub packing-close : s ≡ None → PackedOn (name_left g src p) key before passed now (record { hash = h; plain = leb m 32 })
    packing-close e = packing-end (subst (ByteIs g src q) e w)

    pub packing-more : {b i j : ℕ} {r : Spot} {after : List ℕ} → s ≡ Some (b, r) → PutIs now m b after j
        → (i ≡ (h * 10368889 + b) % 16777216) × (i < 16777216) → Packing g src p r key after before i passed j
    packing-more {b} {r = r} e f k = let y : NameByte g src q b r = subst (ByteIs g src q) e w in packing-on y.bytes y.to f k

-- ## A whole name

pub none_yet : (key : List ℕ) → key ≡ replicate 8 0 → Counted [] key 0
unfolding packed quad is_plain every
none_yet key e = record { packs = record { plain = refl; long = rw e; numbers = λ z. e }; many = λ z. refl }

pub begun-none : (key : List ℕ) → key ≡ replicate 8 0 → Begun key 0
begun-none key e = record { done = []; counted = none_yet key e }

pub packed-whole : {rest key after : List ℕ} {r : Pack} → key ≡ replicate 8 0 → PackedOn rest key 0 0 after r → PackedIs rest after r
packed-whole {key = key} e w =
    let p = w.packs [] (none_yet key e) in
    record { plain = p.plain; hash = w.hash; small = w.small; long = p.long; numbers = p.numbers }

-- ## From place to place inside a name

pub inside-none : (g : Signs) (src : List ℕ) (p : Spot) (key : List ℕ) → p.at ≤ length src → key ≡ replicate 8 0 → Packing g src p p key key 0 0 0 0
inside-none g src p key h e = packing-none g src p key 0 0 h (begun-none key e) (omega arith)

module _ {g : Signs} {src : List ℕ} {p : Spot} {at : ℕ} {fresh : Bool} {key now : List ℕ} {h m : ℕ}
    (v : Packing g src p (spot at p.mode fresh) key now 0 h 0 m) where
  -- the rest goes the long way
  pub inside-rest : {after : List ℕ} {r : Pack} → key ≡ replicate 8 0 → PackedOn (name_left g src (spot at p.mode fresh)) now h m after r
      → PackedIs (name_left g src p) after r
  inside-rest e w = packed-whole e (packing-rest v w)

  module _ (i : is_inside p.mode ≡ true) {t : Bool} (s : t ≡ stands_at g.escape src at) (y : t ≡ true) where
    place : at < length src
    place = place-within g.escape src at (sym s ∙ y)

    byte : stands_in g.escape (get_or src at 0) ≡ true
    byte = place_is g.escape src at (sym s ∙ y)

    pub inside-close : get_or src at 0 ≡ 62 → key ≡ replicate 8 0 → PackedIs (name_left g src p) now (record { hash = h; plain = leb m 32 })
    inside-close f e = packed-whole e (packing-end v (close-inside g src (spot at p.mode fresh) place i byte f))

    pub inside-more : {j k : ℕ} {after : List ℕ} → (get_or src at 0 ≡ 62 → ⊥) → PutIs now m (get_or src at 0) after j
        → (k ≡ (h * 10368889 + get_or src at 0) % 16777216) × (k < 16777216) → Packing g src p (spot (at + 1) p.mode false) key after 0 k 0 j
    inside-more n f k = let l = place in packing-on v (byte_inside g src (spot at p.mode fresh) place i byte n) (omega arith) f k
