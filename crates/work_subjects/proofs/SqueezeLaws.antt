-- Eight numbers as seven: what each of the seven is, that they tell the name, and the turns of the loop that makes them.
use mathlib.Core.Path.{◌≡◌, refl, sym, ap, ◌∙◌, subst}
use mathlib.Core.Bool.{true}
use mathlib.Core.List.{List}
use Prim.Native.Nat.{ℕ, zero, suc, ◌+◌, ◌*◌, ◌/◌, ◌%◌, ◌^◌, ◌≤◌, ◌<◌}
use native.Mathlib.Nat.{le_refl, pow-zero, pow-suc, pow-succ', div-one, div-add-mod, div-lt_iff_lt-mul, div-div-eq-div-mul}
use native.Mathlib.Numerals.{add-one}
use native.Mathlib.Omega.{arith}
use lib.ListN.{length, get_or, set, length-set, get_or-eq_default}
use lib.Seq.{ext_get_or, get_or-set_same, get_or-set_other}
use lib.Dec.{eqb, ltb}
use borrow.Author.Tests.{eqb-true, eqb-false, ltb-true, ltb-false}
use Rattle.base_lists.proofs.Bools.{by}
use Rattle.text_names.specs.Packed.{quad, packed, is_plain}
use Rattle.text_names.proofs.PackLaws.{byte_small, packed-at, packed-long, packed-apart}
use Rattle.work_subjects.specs.Numbers.{narrow, pinched, squeezed}

-- ## The seven numbers

-- four bytes have 28 bits
pub narrow-small : (q : ℕ) → narrow q < 268435456
unfolding narrow
narrow-small q = omega arith

pub pinched-small : (xs : List ℕ) (i : ℕ) → pinched xs i < 4294967296
unfolding pinched
pinched-small xs i = let h = narrow-small (get_or xs i 0) in omega (arith, h)

-- number i of the seven
pub squeezed-at : (xs : List ℕ) (i : ℕ) → i < 7 → get_or (squeezed xs) i 0 ≡ pinched xs i
unfolding squeezed
squeezed-at xs zero h = refl
squeezed-at xs (suc zero) h = refl
squeezed-at xs (suc (suc zero)) h = refl
squeezed-at xs (suc (suc (suc zero))) h = refl
squeezed-at xs (suc (suc (suc (suc zero)))) h = refl
squeezed-at xs (suc (suc (suc (suc (suc zero))))) h = refl
squeezed-at xs (suc (suc (suc (suc (suc (suc zero)))))) h = refl
squeezed-at xs (suc (suc (suc (suc (suc (suc (suc i))))))) h = absurd (omega (arith, h))

pub squeezed-long : (xs : List ℕ) → length (squeezed xs) ≡ 8
unfolding squeezed
squeezed-long xs = refl

-- 0 behind them
pub squeezed-past : (xs : List ℕ) (i : ℕ) → 7 ≤ i → get_or (squeezed xs) i 0 ≡ 0
unfolding squeezed
squeezed-past xs i h =
    by (eqb i 7) (λ t. ap (λ (m : ℕ). get_or (squeezed xs) m 0) (eqb-true i 7 t))
    (λ t. let n = eqb-false i 7 t in get_or-eq_default (squeezed xs) 0 {n = i} (omega (arith, n, h, squeezed-long xs)))

-- ## One after the other

-- The first i of the numbers at entry are squeezed; of the bits of the last four bytes these are left.
pub record Squeezing (entry key : List ℕ) (left i : ℕ) : Type 0 where
  pub long : length entry ≡ 8
  pub same : length key ≡ length entry
  pub to : i ≤ 7
  pub done : (j : ℕ) → j < i → get_or key j 0 ≡ pinched entry j
  pub ahead : (j : ℕ) → i ≤ j → get_or key j 0 ≡ get_or entry j 0
  pub bits : left ≡ narrow (get_or entry 7 0) / 16 ^ i

pub squeezing-none : (key : List ℕ) (r : ℕ) → length key ≡ 8 → r ≡ narrow (get_or key 7 0) → Squeezing key key r 0
squeezing-none key r l e = record {
  long = l;
  same = refl;
  to = omega arith;
  done = λ j h. absurd (omega (arith, h));
  ahead = λ j h. refl;
  bits = e ∙ sym (div-one (narrow (get_or key 7 0)));
}

module _ {entry key : List ℕ} {left i : ℕ} (v : Squeezing entry key left i) where
  pub squeezing-more : (x : ℕ) → i < 7 → x ≡ narrow (get_or key i 0) → Squeezing entry (set key i (x + 268435456 * (left % 16))) (left / 16) (i + 1)
  unfolding pinched
  squeezing-more x h e = record {
    long = v.long;
    same = length-set key i y ∙ v.same;
    to = omega (arith, h);
    done = λ j l. by (eqb j i)
        (λ t. let f = eqb-true j i t in subst (λ (m : ℕ). get_or (set key i y) m 0 ≡ pinched entry m) (sym f)
        (get_or-set_same key i y 0 (omega (arith, v.same, v.long, h)) ∙ number))
        (λ t. let n = eqb-false j i t in get_or-set_other key i j y 0 n ∙ v.done j (omega (arith, n, l)));
    ahead = λ j l. get_or-set_other key i j y 0 (λ f. omega (arith, f, l)) ∙ v.ahead j (omega (arith, l));
    bits = ap (λ (m : ℕ). m / 16) v.bits ∙ div-div-eq-div-mul (narrow (get_or entry 7 0)) (16 ^ i) 16 ∙ ap (λ (m : ℕ). narrow (get_or entry 7 0) / m) power;
  }
    where
      y : ℕ
      y = x + 268435456 * (left % 16)

      number : y ≡ pinched entry i
      number = ap (λ (m : ℕ). m + 268435456 * (left % 16)) (e ∙ ap narrow (v.ahead i (le_refl i)))
          ∙ ap (λ (m : ℕ). narrow (get_or entry i 0) + 268435456 * (m % 16)) v.bits

      power : 16 ^ i * 16 ≡ 16 ^ (i + 1)
      power = sym (pow-suc 16 i) ∙ ap (λ (m : ℕ). 16 ^ m) (sym (add-one i))

  pub squeezing-end : 7 ≤ i → set key 7 0 ≡ squeezed entry
  squeezing-end h = ext_get_or 0 (set key 7 0) (squeezed entry) (length-set key 7 0 ∙ v.same ∙ v.long ∙ sym (squeezed-long entry)) (λ j l.
      by (ltb j 7) (λ t. let o = ltb-true j 7 t in get_or-set_other key 7 j 0 0 (λ f. omega (arith, f, o)) ∙ v.done j (omega (arith, o, h)) ∙ sym (squeezed-at entry j o))
      (λ t. let o = ltb-false j 7 t in
      let f : 7 ≡ j = omega (arith, o, l, length-set key 7 0, v.same, v.long) in
      subst (λ (m : ℕ). get_or (set key 7 0) m 0 ≡ 0) f (get_or-set_same key 7 0 0 (omega (arith, v.same, v.long))) ∙ sym (squeezed-past entry j o)))

-- ## Numbers are told by their digits

-- two numbers of k digits to a base are the same if each digit is
pub digits_same : (d k : ℕ) → 0 < d → (x y : ℕ) → x < d ^ k → y < d ^ k → ((j : ℕ) → j < k → x / d ^ j % d ≡ y / d ^ j % d) → x ≡ y
digits_same d zero p x y h i r =
    let e = pow-zero d in
    omega (arith, e, h, i)
digits_same d (suc k) p x y h i r =
    let e = digits_same d k p (x / d) (y / d) (less x h) (less y i) (λ j l. sym (later x j) ∙ r (suc j) (omega (arith, l)) ∙ later y j) in
    let z : x % d ≡ y % d = sym (first x) ∙ r 0 (omega arith) ∙ first y in
    sym (div-add-mod x d) ∙ ap (λ (q : ℕ). d * q + x % d) e ∙ ap (λ (q : ℕ). d * (y / d) + q) z ∙ div-add-mod y d
  where
    less : (x : ℕ) → x < d ^ suc k → x / d < d ^ k
    less x h = (div-lt_iff_lt-mul p).1 (subst (λ (m : ℕ). x < m) (pow-suc d k) h)

    later : (x j : ℕ) → x / d ^ suc j % d ≡ x / d / d ^ j % d
    later x j = ap (λ (m : ℕ). x / m % d) (pow-succ' d j) ∙ sym (ap (λ (m : ℕ). m % d) (div-div-eq-div-mul x d (d ^ j)))

    first : (x : ℕ) → x / d ^ 0 % d ≡ x % d
    first x = ap (λ (m : ℕ). x / m % d) (pow-zero d) ∙ ap (λ (m : ℕ). m % d) (div-one x)

-- ## They tell the name

-- the lowest of two parts, and the other
part_apart : (x y u v : ℕ) → x < 128 → u < 128 → x + 128 * y ≡ u + 128 * v → (x ≡ u) × (y ≡ v)
part_apart x y u v h k e = (omega (arith, h, k, e), omega (arith, h, k, e))

module _ (n : List ℕ) (h : is_plain n ≡ true) (i : ℕ) where
  -- four visible bytes, each in seven bits
  narrow-quad : narrow (quad n i) ≡ get_or n (4 * i) 0 + 128 * (get_or n (4 * i + 1) 0 + 128 * (get_or n (4 * i + 2) 0 + 128 * get_or n (4 * i + 3) 0))
  unfolding narrow quad
  narrow-quad = bytes (get_or n (4 * i) 0) (get_or n (4 * i + 1) 0) (get_or n (4 * i + 2) 0) (get_or n (4 * i + 3) 0)
      (byte_small n h (4 * i)) (byte_small n h (4 * i + 1)) (byte_small n h (4 * i + 2)) (byte_small n h (4 * i + 3))
    where
      bytes : (a b c d : ℕ) → a < 127 → b < 127 → c < 127 → d < 127
          → narrow (a + 256 * b + 65536 * c + 16777216 * d) ≡ a + 128 * (b + 128 * (c + 128 * d))
      bytes a b c d ha hb hc hd =
          let q = a + 256 * b + 65536 * c + 16777216 * d in
          let x : q / 256 ≡ b + 128 * (2 * c + 512 * d) = omega (arith, ha) in
          let y : q / 65536 ≡ c + 128 * (2 * d) = omega (arith, ha, hb) in
          let z : q / 16777216 ≡ d + 128 * 0 = omega (arith, ha, hb, hc) in
          let e : q ≡ a + 128 * (2 * b + 512 * c + 131072 * d) = omega arith in
          let f = ap (λ (t : ℕ). t % 128) e ∙ lowest a (2 * b + 512 * c + 131072 * d) ha in
          let g = ap (λ (t : ℕ). t % 128) x ∙ lowest b (2 * c + 512 * d) hb in
          let i = ap (λ (t : ℕ). t % 128) y ∙ lowest c (2 * d) hc in
          let j = ap (λ (t : ℕ). t % 128) z ∙ lowest d 0 hd in
          omega (arith, f, g, i, j)
        where
          lowest : (x y : ℕ) → x < 127 → (x + 128 * y) % 128 ≡ x
          lowest x y h = omega (arith, h)

-- they tell the four bytes
quad-apart : (m n : List ℕ) → is_plain m ≡ true → is_plain n ≡ true → (i : ℕ) → narrow (quad m i) ≡ narrow (quad n i) → quad m i ≡ quad n i
unfolding quad
quad-apart m n h k i e =
    let a = part_apart (get_or m (4 * i) 0) (get_or m (4 * i + 1) 0 + 128 * (get_or m (4 * i + 2) 0 + 128 * get_or m (4 * i + 3) 0))
    (get_or n (4 * i) 0) (get_or n (4 * i + 1) 0 + 128 * (get_or n (4 * i + 2) 0 + 128 * get_or n (4 * i + 3) 0))
    (omega (arith, byte_small m h (4 * i))) (omega (arith, byte_small n k (4 * i))) (sym (narrow-quad m h i) ∙ e ∙ narrow-quad n k i) in
    let b = part_apart (get_or m (4 * i + 1) 0) (get_or m (4 * i + 2) 0 + 128 * get_or m (4 * i + 3) 0)
    (get_or n (4 * i + 1) 0) (get_or n (4 * i + 2) 0 + 128 * get_or n (4 * i + 3) 0)
    (omega (arith, byte_small m h (4 * i + 1))) (omega (arith, byte_small n k (4 * i + 1))) a.1 in
    let c = part_apart (get_or m (4 * i + 2) 0) (get_or m (4 * i + 3) 0) (get_or n (4 * i + 2) 0) (get_or n (4 * i + 3) 0)
    (omega (arith, byte_small m h (4 * i + 2))) (omega (arith, byte_small n k (4 * i + 2))) b.1 in
    omega (arith, a.0, b.0, c.0, c.1)

module _ (m n : List ℕ) (h : is_plain m ≡ true) (k : is_plain n ≡ true) (e : squeezed (packed m) ≡ squeezed (packed n)) where
  -- the lowest 28 bits of a number and the four above them
  both-same : (i : ℕ) → i < 7 → (narrow (get_or (packed m) i 0) ≡ narrow (get_or (packed n) i 0))
      × (narrow (get_or (packed m) 7 0) / 16 ^ i % 16 ≡ narrow (get_or (packed n) 7 0) / 16 ^ i % 16)
  unfolding pinched
  both-same i l =
      let p : pinched (packed m) i ≡ pinched (packed n) i = sym (squeezed-at (packed m) i l) ∙ ap (λ (xs : List ℕ). get_or xs i 0) e ∙ squeezed-at (packed n) i l in
      let a = narrow-small (get_or (packed m) i 0) in
      let b = narrow-small (get_or (packed n) i 0) in
      (omega (arith, p, a, b), omega (arith, p, a, b))

  narrow-same : (i : ℕ) → i < 8 → narrow (get_or (packed m) i 0) ≡ narrow (get_or (packed n) i 0)
  narrow-same i l =
      by (ltb i 7) (λ t. (both-same i (ltb-true i 7 t)).0)
      (λ t. let o = ltb-false i 7 t in
      let f : 7 ≡ i = omega (arith, l, o) in
      subst (λ (j : ℕ). narrow (get_or (packed m) j 0) ≡ narrow (get_or (packed n) j 0)) f
      (digits_same 16 7 (omega arith) (narrow (get_or (packed m) 7 0)) (narrow (get_or (packed n) 7 0)) (narrow-small (get_or (packed m) 7 0))
      (narrow-small (get_or (packed n) 7 0)) (λ j l. (both-same j l).1)))

  -- seven numbers tell the name
  pub squeezed-apart : m ≡ n
  squeezed-apart =
      packed-apart m n h k (ext_get_or 0 (packed m) (packed n) (packed-long m ∙ sym (packed-long n)) (λ i l. let o : i < 8 = omega (arith, l, packed-long m) in
      packed-at m i o ∙ quad-apart m n h k i (sym (ap narrow (packed-at m i o)) ∙ narrow-same i o ∙ ap narrow (packed-at n i o)) ∙ sym (packed-at n i o)))
