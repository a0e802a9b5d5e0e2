-- What slots and rows hold, as code reads and writes it; the sides of ways; numbers that are kept.
use mathlib.Core.Path.{◌≡◌, refl, sym, ap, ◌∙◌, subst}
use mathlib.Core.Bool.{Bool, true, false, ◌&&◌, false≢true}
use mathlib.Core.List.{List}
use Prim.Native.Nat.{ℕ, zero, suc, ◌+◌, ◌-◌, ◌*◌, ◌/◌, ◌%◌, ◌^◌, ◌≤◌, ◌<◌}
use native.Mathlib.Nat.{zero-div}
use native.Mathlib.Omega.{arith}
use lib.ListN.{length, get_or, set, length-set, get_or-eq_default}
use lib.Seq.{get_or-set_same, get_or-set_other}
use lib.Dec.{eqb, leb}
use borrow.Author.Tests.{eq-eqb, ne_eqb, eqb-true, eqb-false, leb-true, leb-false}
use Rattle.base_lists.proofs.Bools.{by, and_left, and_right, and_intro}
use Rattle.work_subjects.specs.Numbers.{width_of}
use Rattle.work_store.specs.Store.{side_of, pointed, pointing, tag_in, spot_of, keeps, RunIs, Written, Kept}
use Rattle.work_store.proofs.AreaLaws.{spot-name, spot-first, spot-own, width-char, width-name, width-other}

module _ (w : List ℕ) (s : ℕ) {x : ℕ} (e : x ≡ get_or w s 0) where
  pub linked-shared : s % 8 ≡ 2 → x / 64 ≡ pointed w s
  unfolding pointed
  linked-shared h = sym (rw (h, e))

  pub linked-plain : (s % 8 ≡ 2 → ⊥) → x ≡ pointed w s
  unfolding pointed
  linked-plain n = e ∙ sym (rw (ne_eqb (s % 8) 2 n))

pub tag_read : (w : List ℕ) (r : ℕ) → get_or w (8 * r + 2) 0 % 64 ≡ tag_in w r
unfolding tag_in
tag_read w r = refl

pub point-shared : (w : List ℕ) (s x : ℕ) → s % 8 ≡ 2 → set w s (64 * x + get_or w s 0 % 64) ≡ pointing w s x
unfolding pointing
point-shared w s x h = sym (rw h)

pub point-plain : (w : List ℕ) (s x : ℕ) → (s % 8 ≡ 2 → ⊥) → set w s x ≡ pointing w s x
unfolding pointing
point-plain w s x n = sym (rw (ne_eqb (s % 8) 2 n))

-- ## Sides

pub side_left : (x : ℕ) → x % 2 ≡ 0 → 0 ≡ side_of (x % 2)
side_left x e = sym (rw (eq-eqb (x % 2) 0 e))

pub side_right : (x : ℕ) → (x % 2 ≡ 0 → ⊥) → 2 ≡ side_of (x % 2)
side_right x n = sym (rw (ne_eqb (x % 2) 0 n))

-- behind the last bit all ways go to the left
pub side-past : (key : List ℕ) (m : ℕ) → length key ≡ 8 → 8 ≤ m / 32 → 0 ≡ side_of (get_or key (m / 32) 0 / 2 ^ (m % 32) % 2)
side-past key m l h =
    let z : get_or key (m / 32) 0 / 2 ^ (m % 32) ≡ 0 = ap (λ (x : ℕ). x / 2 ^ (m % 32)) (get_or-eq_default key 0 {n = m / 32} (omega (arith, l, h))) ∙ zero-div (2 ^ (m % 32)) in
    side_left (get_or key (m / 32) 0 / 2 ^ (m % 32)) (omega (arith, z))

-- ## Numbers that are kept are read

-- The numbers so far are the same.
pub record Running (w : List ℕ) (at : ℕ) (key : List ℕ) (a e i : ℕ) : Type 0 where
  pub from : a ≤ i
  pub to : i ≤ e
  pub same : (j : ℕ) → a ≤ j → j < i → get_or w (at + j) 0 ≡ get_or key j 0

pub running-start : {w : List ℕ} {at : ℕ} {key : List ℕ} {a e : ℕ} → a ≤ e → Running w at key a e a
running-start h = record { from = omega arith; to = h; same = λ j l m. absurd (omega (arith, l, m)) }

module _ {w : List ℕ} {at : ℕ} {key : List ℕ} {a e i : ℕ} (v : Running w at key a e i) where
  pub running-on : i < e → get_or w (at + i) 0 ≡ get_or key i 0 → Running w at key a e (i + 1)
  running-on h q = record {
    from = let f = v.from in omega (arith, f);
    to = omega (arith, h);
    same = λ j l m. by (eqb j i)
        (λ t. subst (λ (x : ℕ). get_or w (at + x) 0 ≡ get_or key x 0) (sym (eqb-true j i t)) q)
        (λ t. let n = eqb-false j i t in v.same j l (omega (arith, m, n)));
  }

  pub running-other : i < e → (get_or w (at + i) 0 ≡ get_or key i 0 → ⊥) → RunIs w at key a e false
  running-other h n = record { same = λ t. absurd (false≢true t); other = λ f. record { i = i; from = v.from; to = h; not = n } }

  pub running-all : e ≤ i → RunIs w at key a e true
  running-all h = record { same = λ t j l m. v.same j l (omega (arith, m, h)); other = λ f. absurd (false≢true (sym f)) }

module _ (w : List ℕ) (kind r : ℕ) (key : List ℕ) where
  pub keeps-all : (n : ℕ) → ((i : ℕ) → i < n → get_or w (spot_of kind r i) 0 ≡ get_or key i 0) → keeps w kind r key n ≡ true
  unfolding keeps
  keeps-all zero f = refl
  keeps-all (suc n) f = and_intro (keeps-all n (λ i h. f i (omega (arith, h)))) (eq-eqb (get_or w (spot_of kind r n) 0) (get_or key n 0) (f n (omega arith)))

  pub keeps-each : (n : ℕ) → keeps w kind r key n ≡ true → (i : ℕ) → i < n → get_or w (spot_of kind r i) 0 ≡ get_or key i 0
  unfolding keeps
  keeps-each zero t i h = absurd (omega (arith, h))
  keeps-each (suc n) t i h = by (eqb i n)
      (λ u. subst (λ (x : ℕ). get_or w (spot_of kind r x) 0 ≡ get_or key x 0) (sym (eqb-true i n u))
      (eqb-true (get_or w (spot_of kind r n) 0) (get_or key n 0) (and_right (keeps w kind r key n) (eqb (get_or w (spot_of kind r n) 0) (get_or key n 0)) t)))
      (λ u. let m = eqb-false i n u in keeps-each n (and_left (keeps w kind r key n) (eqb (get_or w (spot_of kind r n) 0) (get_or key n 0)) t) i (omega (arith, h, m)))

  pub keeps-not : (n i : ℕ) → i < n → (get_or w (spot_of kind r i) 0 ≡ get_or key i 0 → ⊥) → false ≡ keeps w kind r key n
  keeps-not n i h f = by (keeps w kind r key n) (λ t. absurd (f (keeps-each n t i h))) (λ t. sym t)

  -- a run is what is kept, if it stands where the numbers are kept
  keeps-run : (n at a : ℕ) {t : Bool} → RunIs w at key a n t → ((i : ℕ) → i < a → get_or w (spot_of kind r i) 0 ≡ get_or key i 0)
      → ((i : ℕ) → a ≤ i → i < n → spot_of kind r i ≡ at + i) → t ≡ keeps w kind r key n
  keeps-run n at a {t} v first spots = by t
      (λ e. e ∙ sym (keeps-all n (λ i h. by (leb a i)
      (λ u. let l = leb-true a i u in ap (λ (x : ℕ). get_or w x 0) (spots i l h) ∙ v.same e i l h)
      (λ u. first i (leb-false a i u)))))
      (λ e. let o = v.other e in
      e ∙ keeps-not n o.i o.to (λ z. o.not (ap (λ (x : ℕ). get_or w x 0) (sym (spots o.i o.from o.to)) ∙ z)))

  -- of a name
  pub kept-name : {before : ℕ} {t : Bool} → kind ≡ 1 → before ≡ r - 1 → get_or w (8 * before) 0 ≡ get_or key 0 0 → RunIs w (8 * before + 1) key 1 7 t
      → t ≡ keeps w kind r key (width_of kind)
  kept-name {before} {t} e b q v = rw (width-name kind e)
      (keeps-run 7 (8 * before + 1) 1 v
      (λ i h. let z : i ≡ 0 = omega (arith, h) in subst (λ (x : ℕ). get_or w (spot_of kind r x) 0 ≡ get_or key x 0) (sym z) (ap (λ (x : ℕ). get_or w x 0) (spot-first kind r e ∙ ap (λ (x : ℕ). 8 * x) (sym b)) ∙ q))
      (λ i l h. let s = spot-name kind r i e (λ x. omega (arith, x, l)) in omega (arith, s, b)))

  pub kept-other : {before : ℕ} → kind ≡ 1 → before ≡ r - 1 → (get_or w (8 * before) 0 ≡ get_or key 0 0 → ⊥) → eqb (get_or w (8 * before) 0) (get_or key 0 0) ≡ keeps w kind r key (width_of kind)
  kept-other {before} e b f = ne_eqb (get_or w (8 * before) 0) (get_or key 0 0) f ∙ rw (width-name kind e)
      (keeps-not 7 0 (omega arith) (λ z. f (ap (λ (x : ℕ). get_or w x 0) (ap (λ (x : ℕ). 8 * x) b ∙ sym (spot-first kind r e)) ∙ z)))

  -- of a character, and of characters
  pub kept-char : {t : Bool} → kind ≡ 0 → RunIs w (8 * r + 3) key 0 1 t → t ≡ keeps w kind r key (width_of kind)
  kept-char e v = rw (width-char kind e) (keeps-run 1 (8 * r + 3) 0 v (λ i h. absurd (omega (arith, h))) (λ i l h. spot-own kind r i (λ x. omega (arith, x, e))))

  pub kept-chars : {t : Bool} → kind ≡ 2 → RunIs w (8 * r + 3) key 0 4 t → t ≡ keeps w kind r key (width_of kind)
  kept-chars e v =
      let m : (kind ≡ 0 → ⊥) = λ x. omega (arith, x, e) in
      let n : (kind ≡ 1 → ⊥) = λ x. omega (arith, x, e) in
      rw (width-other kind m n) (keeps-run 4 (8 * r + 3) 0 v (λ i h. absurd (omega (arith, h))) (λ i l h. spot-own kind r i n))

-- ## Numbers that are kept are written

-- The numbers so far are written.
pub record Writing (w₀ : List ℕ) (at : ℕ) (key : List ℕ) (a e i : ℕ) (w : List ℕ) : Type 0 where
  pub from : a ≤ i
  pub to : i ≤ e
  pub written : Written w₀ at key a i w

pub writing_start : {w : List ℕ} {at : ℕ} {key : List ℕ} {a e : ℕ} → a ≤ e → Writing w at key a e a w
writing_start h = record {
  from = omega arith;
  to = h;
  written = record { there = λ j l m. absurd (omega (arith, l, m)); rest = λ j f. refl; long = refl };
}

module _ {w₀ : List ℕ} {at : ℕ} {key : List ℕ} {a e i : ℕ} {w : List ℕ} (v : Writing w₀ at key a e i w) where
  pub writing-on : i < e → e ≤ 7 → at + 7 ≤ length w₀ → Writing w₀ at key a e (i + 1) (set w (at + i) (get_or key i 0))
  writing-on h o p = let l : at + i < length w = (let q = v.written.long in omega (arith, h, o, p, q)) in record {
    from = let f = v.from in omega (arith, f);
    to = omega (arith, h);
    written = record {
      there = λ j b c. by (eqb j i)
          (λ t. subst (λ (x : ℕ). get_or (set w (at + i) (get_or key i 0)) (at + x) 0 ≡ get_or key x 0) (sym (eqb-true j i t)) (get_or-set_same w (at + i) (get_or key i 0) 0 l))
          (λ t. let n = eqb-false j i t in
          get_or-set_other w (at + i) (at + j) (get_or key i 0) 0 (λ z. n (omega (arith, z))) ∙ v.written.there j b (omega (arith, c, n)));
      rest = λ j f. get_or-set_other w (at + i) j (get_or key i 0) 0 (λ z. f i v.from (omega arith) z) ∙ v.written.rest j (λ x b c z. f x b (omega (arith, c)) z);
      long = length-set w (at + i) (get_or key i 0) ∙ v.written.long;
    };
  }

  pub writing-all : e ≤ i → Written w₀ at key a e w
  writing-all h = let t = v.to in let z : i ≡ e = omega (arith, h, t) in subst (λ (x : ℕ). Written w₀ at key a x w) z v.written

module _ {w w' : List ℕ} {kind r : ℕ} {key : List ℕ} where
  -- a character's number, and those of characters
  own-kept : (n : ℕ) → width_of kind ≡ n → (kind ≡ 1 → ⊥) → Written w (8 * r + 3) key 0 n w' → Kept w kind r key w'
  own-kept n e m v = record {
    there = λ i h. ap (λ (x : ℕ). get_or w' x 0) (spot-own kind r i m) ∙ v.there i (omega arith) (omega (arith, h, e));
    rest = λ j f. v.rest j (λ i l h z. f i (omega (arith, h, e)) (z ∙ sym (spot-own kind r i m)));
    long = v.long;
  }

  pub char-kept : kind ≡ 0 → Written w (8 * r + 3) key 0 1 w' → Kept w kind r key w'
  char-kept e v = own-kept 1 (width-char kind e) (λ x. omega (arith, x, e)) v

  pub chars-kept : kind ≡ 2 → Written w (8 * r + 3) key 0 4 w' → Kept w kind r key w'
  chars-kept e v =
      let n : (kind ≡ 1 → ⊥) = λ x. omega (arith, x, e) in
      own-kept 4 (width-other kind (λ x. omega (arith, x, e)) n) n v

  -- the seven of a name
  pub name-kept : {before : ℕ} {w₁ : List ℕ} → kind ≡ 1 → before ≡ r - 1 → 8 * r + 10 ≤ length w → Written w (8 * before + 1) key 1 7 w₁ → w' ≡ set w₁ (8 * before) (get_or key 0 0)
      → Kept w kind r key w'
  name-kept {before} {w₁} e b l v is = subst (Kept w kind r key) (sym is) (record {
    there = λ i h. by (eqb i 0)
        (λ t. subst (λ (x : ℕ). get_or w₂ (spot_of kind r x) 0 ≡ get_or key x 0) (sym (eqb-true i 0 t))
        (ap (λ (x : ℕ). get_or w₂ x 0) (spot-first kind r e ∙ ap (λ (x : ℕ). 8 * x) (sym b)) ∙ get_or-set_same w₁ (8 * before) (get_or key 0 0) 0 (let o = v.long in omega (arith, o, l, b))))
        (λ t. let n = eqb-false i 0 t in
        let s = spot-name kind r i e n in
        let at : spot_of kind r i ≡ 8 * before + 1 + i = omega (arith, s, b) in
        ap (λ (x : ℕ). get_or w₂ x 0) at ∙ get_or-set_other w₁ (8 * before) (8 * before + 1 + i) (get_or key 0 0) 0 (λ z. omega (arith, z))
        ∙ v.there i (omega (arith, n)) (let m = width-name kind e in omega (arith, h, m)));
    rest = λ j f. let m = width-name kind e in
        get_or-set_other w₁ (8 * before) j (get_or key 0 0) 0 (λ z. let s = spot-first kind r e in f 0 (omega (arith, m)) (omega (arith, z, s, b)))
        ∙ v.rest j (λ i c d z. let s = spot-name kind r i e (λ x. omega (arith, x, c)) in f i (omega (arith, d, m)) (omega (arith, z, s, b)));
    long = length-set w₁ (8 * before) (get_or key 0 0) ∙ v.long;
  })
    where
      w₂ : List ℕ
      w₂ = set w₁ (8 * before) (get_or key 0 0)

-- ## Tags

module _ (w : List ℕ) (tag kind r : ℕ) (key : List ℕ) where
  pub kind-same : {x : ℕ} {t : Bool} → x ≡ kind → tag / 16 ≡ x → t ≡ keeps w kind r key (width_of kind) → t ≡ (eqb (tag / 16) kind && keeps w kind r key (width_of kind))
  kind-same f e q = q ∙ sym (rw (eq-eqb (tag / 16) kind (e ∙ f)))

  pub kind-other : {x : ℕ} → x ≡ kind → (tag / 16 ≡ x → ⊥) → eqb (tag / 16) x ≡ (eqb (tag / 16) kind && keeps w kind r key (width_of kind))
  kind-other {x} f n = ne_eqb (tag / 16) x n ∙ sym (rw (ne_eqb (tag / 16) kind (λ e. n (e ∙ sym f))))
