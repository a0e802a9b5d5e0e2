-- The shape of a name as six bytes tell it: the answers of the code that looks at them, and what they mean for the name.
use mathlib.Core.Path.{◌≡◌, refl, sym, ◌∙◌}
use mathlib.Core.Bool.{Bool, true, false, cond, ◌&&◌, ◌||◌, and-false, or-true, not}
use mathlib.Core.List.{List, [], ◌∷◌}
use Prim.Native.Nat.{ℕ, ◌+◌, ◌-◌, ◌*◌, ◌/◌, ◌≤◌, ◌<◌}
use native.Mathlib.Omega.{arith}
use lib.ListN.{length, get_or, drop, length-drop}
use lib.Seq.{get_or-drop}
use lib.Dec.{leb, eqb}
use borrow.Author.Tests.{ne_eqb, eqb-true, eqb-false, le-leb, lt-leb, leb-true, not-true, not-false}
use Rattle.base_lists.proofs.Bools.{by, clash, and_left, and_right, and_intro}
use Rattle.rules.specs.Text.{within, every}
use Rattle.rules.proofs.TextLaws.{every-at}
use Rattle.rules.specs.Names.{is_visible, is_hex, digit, hex_value, char_shaped, code_of}
use Rattle.text_lines.specs.declared.Signs.{Signs}
use Rattle.text_lines.specs.declared.Spot.{Spot}
use Rattle.text_lines.proofs.LineLaws.{spot}
use Rattle.text_tokens.specs.Left.{is_inside}
use Rattle.text_names.specs.Named.{name_left, hex_of, CharIs}
use Rattle.text_names.specs.Shape.{stands_in, is_apart, short_of, shape_of}
use Rattle.text_names.proofs.CodeLaws.{hex-yes, digit-small}
use Rattle.text_names.proofs.InsideLaws.{byte_inside, close-inside}
use Rattle.base_units.specs.declared.CodePoint.{CodePoint}

-- ## Four digits and `>`

hex-small : (b : ℕ) → is_hex b ≡ true → hex_of b < 16
unfolding hex_of
hex-small b h = rw h (digit-small b h)

four-value : (a b c d : ℕ) → hex_value 0 (a ∷ b ∷ c ∷ d ∷ []) ≡ ((digit a * 16 + digit b) * 16 + digit c) * 16 + digit d
unfolding hex_value
four-value a b c d = let z : 0 * 16 + digit a ≡ digit a = omega arith in rw z

module _ (a b c d e w x y z : ℕ) (p : w ≡ hex_of a) (q : x ≡ hex_of b) (r : y ≡ hex_of c) (s : z ≡ hex_of d) where
  pub short-is : w / 16 + x / 16 + y / 16 + z / 16 ≡ 0 → e ≡ 62 → ((w * 16 + x) * 16 + y) * 16 + z + 2 ≡ short_of a b c d e
  unfolding short_of every
  short-is h k =
      let i = hex-yes a (rw (← p) (omega arith)) in
      let j = hex-yes b (rw (← q) (omega arith)) in
      let l = hex-yes c (rw (← r) (omega arith)) in
      let m = hex-yes d (rw (← s) (omega arith)) in
      rw (p, q, r, s, i.1, j.1, l.1, m.1) (sym (rw (i.0, j.0, l.0, m.0, k, four-value a b c d)))

  pub short-open : (e ≡ 62 → ⊥) → 0 ≡ short_of a b c d e
  unfolding short_of
  short-open h = sym (rw (ne_eqb e 62 h, and-false (every is_hex (a ∷ b ∷ c ∷ d ∷ []))))

  pub short-foul : (w / 16 + x / 16 + y / 16 + z / 16 ≡ 0 → ⊥) → 0 ≡ short_of a b c d e
  unfolding short_of
  short-foul h =
      let ds : List ℕ = a ∷ b ∷ c ∷ d ∷ [] in
      by (every is_hex ds)
      (λ t. let small : (k : ℕ) → k < 4 → hex_of (get_or ds k 0) < 16 = λ k l. hex-small (get_or ds k 0) (every-at is_hex ds k 0 t l) in
      absurd (h (omega (arith, small 0 (omega arith), small 1 (omega arith), small 2 (omega arith), small 3 (omega arith)))))
      (λ t. sym (rw t))

-- ## The escape

module _ (e : ℕ) where
  -- a byte that such an escape cannot be stands
  stands-apart : is_apart e ≡ true → (b : ℕ) → is_visible b ≡ true → (within 48 57 b || within 65 90 b || eqb b 62) ≡ true → stands_in e b ≡ true
  stands-apart h b v k =
      let n : b ≡ e → ⊥ = λ z. clash (rw z at k) (not-true (within 48 57 e || within 65 90 e || eqb e 62) h) in
      rw (v, ne_eqb b e n)

  module _ (h : is_apart e ≡ true) where
    stands-hex : (b : ℕ) → is_hex b ≡ true → (stands_in e b ≡ true) × (b ≡ 62 → ⊥)
    stands-hex b k =
        by (within 48 57 b)
        (λ t. let l = leb-true 48 b (and_left (leb 48 b) (leb b 57) t) in
        let m = leb-true b 57 (and_right (leb 48 b) (leb b 57) t) in
        (stands-apart h b (and_intro (le-leb 33 b (omega arith)) (le-leb b 126 (omega arith))) (rw t), λ z. omega arith))
        (λ t. let u : within 65 70 b ≡ true = rw t at k in
        let l = leb-true 65 b (and_left (leb 65 b) (leb b 70) u) in
        let m = leb-true b 70 (and_right (leb 65 b) (leb b 70) u) in (
          stands-apart h b (and_intro (le-leb 33 b (omega arith)) (le-leb b 126 (omega arith)))
              (simp (le-leb 65 b l, le-leb b 90 (omega arith), or-true)),
          λ z. omega arith,
        ))

-- ## What is looked at

module _ (e : ℕ) (src : List ℕ) (at : ℕ) {t : Bool} (a : t ≡ is_apart e) where
  pub shape-escape : not t ≡ true → 0 ≡ shape_of e (drop at src)
  unfolding shape_of
  shape-escape f = sym (rw (sym a ∙ not-true t f))

  module _ (f : not t ≡ false) where
    pub shape-few : length src - at < 6 → 0 ≡ shape_of e (drop at src)
    unfolding shape_of
    shape-few h = sym (rw (length-drop at src, lt-leb 6 (length src - at) h, and-false (is_apart e)))

    module _ (l : 6 ≤ length src - at) where
      looked : shape_of e (drop at src) ≡ cond (eqb (get_or src at 0) 85)
          (short_of (get_or src (at + 1) 0) (get_or src (at + 2) 0) (get_or src (at + 3) 0) (get_or src (at + 4) 0) (get_or src (at + 5) 0))
          (cond (stands_in e (get_or src at 0)) 1 0)
      unfolding shape_of
      looked =
          let z : at + 0 ≡ at = omega arith in
          rw (
            sym a ∙ not-false t f,
            length-drop at src,
            le-leb 6 (length src - at) l,
            get_or-drop at src 0 0,
            get_or-drop at src 1 0,
            get_or-drop at src 2 0,
            get_or-drop at src 3 0,
            get_or-drop at src 4 0,
            get_or-drop at src 5 0,
            z,
          )

      pub shape-short : {r : ℕ} → get_or src at 0 ≡ 85
          → r ≡ short_of (get_or src (at + 1) 0) (get_or src (at + 2) 0) (get_or src (at + 3) 0) (get_or src (at + 4) 0) (get_or src (at + 5) 0) → r ≡ shape_of e (drop at src)
      shape-short h k = k ∙ sym (looked ∙ rw h)

      module _ (n : get_or src at 0 ≡ 85 → ⊥) {s : Bool} (i : s ≡ stands_in e (get_or src at 0)) where
        pub shape-other : s ≡ true → 1 ≡ shape_of e (drop at src)
        shape-other h = sym (looked ∙ rw (ne_eqb (get_or src at 0) 85 n, sym i ∙ h))

        pub shape-unclear : s ≡ false → 0 ≡ shape_of e (drop at src)
        shape-unclear h = sym (looked ∙ rw (ne_eqb (get_or src at 0) 85 n, sym i ∙ h))

-- ## What it means

module _ (a b c d x : ℕ) where
  -- four digits, `>`, and their number
  short-told : (n : ℕ) → short_of a b c d x ≡ n + 2 → (every is_hex (a ∷ b ∷ c ∷ d ∷ []) ≡ true) × (x ≡ 62) × (hex_value 0 (a ∷ b ∷ c ∷ d ∷ []) ≡ n)
  unfolding short_of
  short-told n h =
      let ds : List ℕ = a ∷ b ∷ c ∷ d ∷ [] in
      by (every is_hex ds && eqb x 62)
      (λ t. let v : hex_value 0 ds + 2 ≡ n + 2 = rw t at h in
      (and_left (every is_hex ds) (eqb x 62) t, eqb-true x 62 (and_right (every is_hex ds) (eqb x 62) t), omega arith))
      (λ t. let v : 0 ≡ n + 2 = rw t at h in absurd (omega arith))

  short-not-one : short_of a b c d x ≡ 1 → ⊥
  unfolding short_of
  short-not-one h =
      let ds : List ℕ = a ∷ b ∷ c ∷ d ∷ [] in
      by (every is_hex ds && eqb x 62)
      (λ t. let v : hex_value 0 ds + 2 ≡ 1 = rw t at h in omega arith)
      (λ t. let v : 0 ≡ 1 = rw t at h in omega arith)

-- Six bytes that are a character's name, and its code.
record Short (e : ℕ) (bs : List ℕ) (n : ℕ) : Type 0 where
  apart : is_apart e ≡ true
  long : 6 ≤ length bs
  first : get_or bs 0 0 ≡ 85
  short : short_of (get_or bs 1 0) (get_or bs 2 0) (get_or bs 3 0) (get_or bs 4 0) (get_or bs 5 0) ≡ n + 2

-- A byte that begins no character's name.
record Begins (e : ℕ) (bs : List ℕ) : Type 0 where
  long : 6 ≤ length bs
  not-u : get_or bs 0 0 ≡ 85 → ⊥
  stands : stands_in e (get_or bs 0 0) ≡ true

module _ (e : ℕ) (bs : List ℕ) where
  told-short : (n : ℕ) → shape_of e bs ≡ n + 2 → Short e bs n
  unfolding shape_of
  told-short n h =
      let u = get_or bs 0 0 in
      by (is_apart e && leb 6 (length bs))
      (λ t. by (eqb u 85)
      (λ z. record {
        apart = and_left (is_apart e) (leb 6 (length bs)) t;
        long = leb-true 6 (length bs) (and_right (is_apart e) (leb 6 (length bs)) t);
        first = eqb-true u 85 z;
        short = rw (t, z) at h;
      })
      (λ z. by (stands_in e u) (λ y. let v : 1 ≡ n + 2 = rw (t, z, y) at h in absurd (omega arith))
      (λ y. let v : 0 ≡ n + 2 = rw (t, z, y) at h in absurd (omega arith))))
      (λ t. let v : 0 ≡ n + 2 = rw t at h in absurd (omega arith))

  told-begins : shape_of e bs ≡ 1 → Begins e bs
  unfolding shape_of
  told-begins h =
      let u = get_or bs 0 0 in
      by (is_apart e && leb 6 (length bs))
      (λ t. by (eqb u 85)
      (λ z. absurd (short-not-one (get_or bs 1 0) (get_or bs 2 0) (get_or bs 3 0) (get_or bs 4 0) (get_or bs 5 0) (rw (t, z) at h)))
      (λ z. record {
        long = leb-true 6 (length bs) (and_right (is_apart e) (leb 6 (length bs)) t);
        not-u = eqb-false u 85 z;
        stands = by (stands_in e u) (λ y. y) (λ y. let v : 0 ≡ 1 = rw (t, z, y) at h in absurd (omega arith));
      }))
      (λ t. let v : 0 ≡ 1 = rw t at h in absurd (omega arith))

module _ (g : Signs) (src : List ℕ) (p : Spot) (i : is_inside p.mode ≡ true) where
  -- a byte more of the name, from a place to the next
  next : (at to : ℕ) (f : Bool) → to ≡ at + 1 → at < length src → (stands_in g.escape (get_or src at 0) ≡ true) × (get_or src at 0 ≡ 62 → ⊥)
      → name_left g src (spot at p.mode f) ≡ get_or src at 0 ∷ name_left g src (spot to p.mode false)
  next at to f e l s = rw e (byte_inside g src (spot at p.mode f) l i s.0 s.1)

  -- six bytes that are a character's name
  name-short : is_apart g.escape ≡ true → p.at + 5 < length src → get_or src p.at 0 ≡ 85
      → every is_hex (get_or src (p.at + 1) 0 ∷ get_or src (p.at + 2) 0 ∷ get_or src (p.at + 3) 0 ∷ get_or src (p.at + 4) 0 ∷ []) ≡ true
      → get_or src (p.at + 5) 0 ≡ 62
      → name_left g src p ≡ 85 ∷ get_or src (p.at + 1) 0 ∷ get_or src (p.at + 2) 0 ∷ get_or src (p.at + 3) 0 ∷ get_or src (p.at + 4) 0 ∷ []
  name-short a l u h c =
      let at = p.at in
      let ds : List ℕ = get_or src (at + 1) 0 ∷ get_or src (at + 2) 0 ∷ get_or src (at + 3) 0 ∷ get_or src (at + 4) 0 ∷ [] in
      let s : (k : ℕ) → k < 4 → (stands_in g.escape (get_or ds k 0) ≡ true) × (get_or ds k 0 ≡ 62 → ⊥) =
      λ k m. stands-hex g.escape a (get_or ds k 0) (every-at is_hex ds k 0 h m) in
      let o : stands_in g.escape (get_or src at 0) ≡ true = rw u (stands-apart g.escape a 85 refl refl) in
      let z : stands_in g.escape (get_or src (at + 5) 0) ≡ true = rw c (stands-apart g.escape a 62 refl refl) in
      rw (
        next at (at + 1) p.fresh refl (omega arith) (o, λ f. omega arith),
        next (at + 1) (at + 2) false (omega arith) (omega arith) (s 0 (omega arith)),
        next (at + 2) (at + 3) false (omega arith) (omega arith) (s 1 (omega arith)),
        next (at + 3) (at + 4) false (omega arith) (omega arith) (s 2 (omega arith)),
        next (at + 4) (at + 5) false (omega arith) (omega arith) (s 3 (omega arith)),
        close-inside g src (spot (at + 5) p.mode false) (omega arith) i z c,
        u,
      )

  -- a code and 2 is the name of that character
  pub shape-char : (n : ℕ) → shape_of g.escape (drop p.at src) ≡ n + 2 → CharIs (name_left g src p) n
  unfolding char_shaped code_of
  shape-char n e =
      let at = p.at in
      let v = told-short g.escape (drop at src) n e in
      let l : 6 ≤ length src - at = rw (length-drop at src) at v.long in
      let z : at + 0 ≡ at = omega arith in
      let u : get_or src at 0 ≡ 85 = rw (get_or-drop at src 0 0, z) at v.first in
      let t = short-told (get_or src (at + 1) 0) (get_or src (at + 2) 0) (get_or src (at + 3) 0) (get_or src (at + 4) 0) (get_or src (at + 5) 0) n
      (rw (get_or-drop at src 1 0, get_or-drop at src 2 0, get_or-drop at src 3 0, get_or-drop at src 4 0, get_or-drop at src 5 0) at v.short) in
      let w = name-short v.apart (omega arith) u t.0 t.1 in
      record { shaped = rw w t.0; code = rw w (sym t.2) }

  -- 1 is a name of no character
  pub shape-name : shape_of g.escape (drop p.at src) ≡ 1 → char_shaped (name_left g src p) ≡ false
  unfolding char_shaped
  shape-name e =
      let at = p.at in
      let v = told-begins g.escape (drop at src) e in
      let l : 6 ≤ length src - at = rw (length-drop at src) at v.long in
      let z : at + 0 ≡ at = omega arith in
      let n : get_or src at 0 ≡ 85 → ⊥ = rw (get_or-drop at src 0 0, z) at v.not-u in
      let s : stands_in g.escape (get_or src at 0) ≡ true = rw (get_or-drop at src 0 0, z) at v.stands in
      by (eqb (get_or src at 0) 62)
      (λ t. rw (close-inside g src p (omega arith) i s (eqb-true (get_or src at 0) 62 t)))
      (λ t. rw (byte_inside g src p (omega arith) i s (eqb-false (get_or src at 0) 62 t), ne_eqb (get_or src at 0) 85 n))

  pub inside-other : 1 ≡ shape_of g.escape (drop p.at src) → char_shaped (name_left g src p) ≡ false
  inside-other e = shape-name (sym e)

  pub inside-code : (c : CodePoint) → c.0 + 2 ≡ shape_of g.escape (drop p.at src) → CharIs (name_left g src p) c.0
  inside-code c e = shape-char c.0 (sym e)
