-- The characters by their codes: hex digits, the turns of the loop over them, and names shaped as characters.
use Rattle.std.specs.Prelude.{None, Option, Some}
use mathlib.Core.Path.{◌≡◌, refl, sym, ◌∙◌, subst}
use mathlib.Core.Bool.{true, false, and-false}
use mathlib.Core.List.{List, [], ◌∷◌}
use Prim.Native.Nat.{ℕ, suc, ◌+◌, ◌*◌, ◌%◌, ◌^◌, ◌≤◌, ◌<◌}
use native.Mathlib.Nat.{pow-suc, pow-le-pow_right}
use native.Mathlib.Numerals.{add-one}
use native.Mathlib.Omega.{arith}
use lib.ListN.{length}
use lib.Dec.{leb}
use mir.Syntax.{w32}
use mir.Val.{Fits}
use borrow.Author.Tests.{ne_eqb, le-leb, lt-leb, leb-true}
use Rattle.base_lists.proofs.Bools.{by, and_left, and_right}
use Rattle.rules.specs.Text.{within, every}
use Rattle.rules.specs.Names.{is_hex, digit, hex_value, char_shaped, code_of}
use Rattle.text_lines.specs.declared.Signs.{Signs}
use Rattle.text_lines.specs.declared.Spot.{Spot}
use Rattle.text_tokens.specs.Left.{NameByte}
use Rattle.text_names.specs.Named.{name_left, ByteIs, hex_of, is_many, are_digits, MadeIs, DigitsAre, CodeIs}
use Rattle.base_units.specs.declared.CodePoint.{CodePoint}

-- ## Hex digits

module _ (b x : ℕ) (e : (x ≡ b) × (x < 256)) where
  pub hex-figure : (x + 208) % 256 < 10 → (x + 208) % 256 ≡ hex_of b
  unfolding hex_of
  hex-figure h = rw (← e.0) (simp (le-leb 48 x (omega arith), le-leb x 57 (omega arith)) (omega arith))

  pub hex-letter : (x + 191) % 256 < 6 → (x + 191) % 256 + 10 ≡ hex_of b
  unfolding hex_of
  hex-letter h =
      rw (← e.0)
      (simp (le-leb 48 x (omega arith), lt-leb x 57 (omega arith), le-leb 65 x (omega arith), le-leb x 70 (omega arith)) (omega arith))

  pub hex-none : 10 ≤ (x + 208) % 256 → 6 ≤ (x + 191) % 256 → 16 ≡ hex_of b
  unfolding hex_of
  hex-none h k =
      rw (← e.0)
      (by (within 48 57 x)
      (λ t. let l = leb-true 48 x (and_left (leb 48 x) (leb x 57) t) in
      let m = leb-true x 57 (and_right (leb 48 x) (leb x 57) t) in absurd (omega arith))
      (λ t. by (within 65 70 x)
      (λ u. let l = leb-true 65 x (and_left (leb 65 x) (leb x 70) u) in
      let m = leb-true x 70 (and_right (leb 65 x) (leb x 70) u) in absurd (omega arith))
      (λ u. rw (t, u))))

-- a value below 16 is that of a digit
pub hex-yes : (b : ℕ) → hex_of b < 16 → (is_hex b ≡ true) × (hex_of b ≡ digit b)
unfolding hex_of
hex-yes b h = by (is_hex b) (λ t. (t, rw t)) (λ t. let z : 16 < 16 = rw t at h in absurd (omega arith))

pub digit-small : (b : ℕ) → is_hex b ≡ true → digit b < 16
digit-small b h =
    by (within 48 57 b)
    (λ t. let k = leb-true b 57 (and_right (leb 48 b) (leb b 57) t) in rw (le-leb b 57 k) (omega arith))
    (λ t. let u : within 65 70 b ≡ true = rw t at h in
    let l = leb-true 65 b (and_left (leb 65 b) (leb b 70) u) in
    let k = leb-true b 70 (and_right (leb 65 b) (leb b 70) u) in
    rw (lt-leb b 57 (omega arith), le-leb b 70 k) (omega arith))

pub hex-no : (b : ℕ) → 16 ≤ hex_of b → is_hex b ≡ false
unfolding hex_of
hex-no b h = by (is_hex b) (λ t. let z : 16 ≤ digit b = rw t at h in let s = digit-small b t in absurd (omega arith)) (λ t. t)

-- ## A run of digits

-- From p to q so many digits are read, which make x.
pub record Coding (g : Signs) (src : List ℕ) (p q : Spot) (n x : ℕ) : Type 0 where
  pub long : length (name_left g src p) ≡ n + length (name_left g src q)
  pub hex : every is_hex (name_left g src p) ≡ every is_hex (name_left g src q)
  pub value : hex_value 0 (name_left g src p) ≡ hex_value x (name_left g src q)
  pub few : n ≤ 8
  pub small : x < 16 ^ n
  pub to : q.at ≤ length src

pub coding-none : (g : Signs) (src : List ℕ) (p : Spot) → p.at ≤ length src → Coding g src p p 0 0
coding-none g src p h = record { long = omega arith; hex = refl; value = refl; few = omega arith; small = omega arith; to = h }

coding-fits : {g : Signs} {src : List ℕ} {p q : Spot} {n x : ℕ} → Coding g src p q n x → n < 8 → x * 16 + 15 < 4294967296
coding-fits {n = n} {x = x} v h =
    let m : 16 ^ n ≤ 268435456 = pow-le-pow_right {n = 16} (omega arith) {i = n} {j = 7} (omega arith) in
    omega (arith, v.small, m)

pub coding-mul : {g : Signs} {src : List ℕ} {p q : Spot} {n x : ℕ} → Coding g src p q n x → n < 8 → Fits w32 (x * 16)
coding-mul v h = omega (arith, coding-fits v h)

pub coding-add : {g : Signs} {src : List ℕ} {p q : Spot} {n x d : ℕ} → Coding g src p q n x → n < 8 → d < 16 → Fits w32 (x * 16 + d)
coding-add v h l = omega (arith, coding-fits v h)

-- the digits end
made-digits : {g : Signs} {src : List ℕ} {p q : Spot} {n x : ℕ} → Coding g src p q n x → name_left g src q ≡ [] → (r : Option CodePoint) → MadeIs n x r → DigitsAre (name_left g src p) r
unfolding every hex_value
made-digits {g} {src} {p} {n = n} v e (Some c) m =
    let l : length (name_left g src p) ≡ n = v.long ∙ rw e (omega arith) in
    record { shaped = rw (l, m.0, v.hex, e); value = m.1 ∙ sym (v.value ∙ rw e) }
made-digits {g} {src} {p} {n = n} v e None m =
    let l : length (name_left g src p) ≡ n = v.long ∙ rw e (omega arith) in
    rw (l, m)

module _ {g : Signs} {src : List ℕ} {p q : Spot} {n x : ℕ} {s : Option (ℕ × Spot)} (v : Coding g src p q n x) (w : ByteIs g src q s) where
  pub coding-end : s ≡ None → (r : Option CodePoint) → MadeIs n x r → DigitsAre (name_left g src p) r
  coding-end e r m = made-digits v (subst (ByteIs g src q) e w) r m

  module _ {b : ℕ} {y : Spot} (e : s ≡ Some (b, y)) where
    on : NameByte g src q b y
    on = subst (ByteIs g src q) e w

    one_more : length (name_left g src q) ≡ suc (length (name_left g src y))
    one_more = rw on.bytes

    module _ {d : ℕ} (i : d ≡ hex_of b) where
      pub coding-other : 16 ≤ d → are_digits (name_left g src p) ≡ false
      unfolding every
      coding-other h =
          let f = hex-no b (rw i at h) in
          rw (v.hex, on.bytes, f) (and-false (is_many (length (name_left g src p))))

      pub coding-more : n < 8 → d < 16 → Coding g src p y (n + 1) (x * 16 + d)
      unfolding every hex_value
      coding-more l h =
          let f = hex-yes b (rw i at h) in
          let o = one_more in
          record {
            long = omega (arith, v.long);
            hex = v.hex ∙ rw (on.bytes, f.0);
            value = v.value ∙ rw (on.bytes, i, f.1);
            few = omega arith;
            small = rw (add-one, pow-suc) (omega (arith, v.small));
            to = on.to;
          }

-- ## A whole name

-- shaped by its digits
shaped : (ds : List ℕ) → char_shaped (85 ∷ ds) ≡ are_digits ds
unfolding char_shaped
shaped ds = refl

module _ (g : Signs) (src : List ℕ) (p : Spot) where
  pub char-end : name_left g src p ≡ [] → char_shaped (name_left g src p) ≡ false
  unfolding char_shaped
  char-end e = rw e

  module _ {b : ℕ} {y : Spot} (at : NameByte g src p b y) where
    pub char-other : (b ≡ 85 → ⊥) → char_shaped (name_left g src p) ≡ false
    unfolding char_shaped
    char-other h = rw at.bytes (simp (ne_eqb b 85 h))

    pub char-digits : b ≡ 85 → (r : Option CodePoint) → DigitsAre (name_left g src y) r → CodeIs (name_left g src p) r
    unfolding code_of
    char-digits h (Some c) d = record { shaped = rw (at.bytes, h, shaped (name_left g src y)) d.shaped; code = rw at.bytes d.value }
    char-digits h None d = rw (at.bytes, h, shaped (name_left g src y)) d
