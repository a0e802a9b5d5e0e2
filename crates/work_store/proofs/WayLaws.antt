-- The ways of keys: keys that go the same way, how deep ways go and what stands on them, and the numbers of the area that lead there.
use mathlib.Core.Path.{◌≡◌, refl, sym, ap, ◌∙◌, subst}
use mathlib.Core.Bool.{true, false, ◌&&◌}
use mathlib.Core.List.{List, [], ◌∷◌}
use Prim.Native.Nat.{ℕ, zero, suc, ◌+◌, ◌*◌, ◌/◌, ◌≤◌, ◌<◌}
use native.Mathlib.Nat.{mod-lt}
use native.Mathlib.Omega.{arith}
use lib.Dec.{eqb, leb}
use borrow.Author.Tests.{eq-eqb, ne_eqb, eqb-true, eqb-false, leb-true, leb-false}
use Rattle.base_lists.proofs.Bools.{by, and_left, and_right, and_intro, clash}
use Rattle.work_subjects.specs.Keys.{Key}
use Rattle.work_subjects.specs.Numbers.{bit_of}
use Rattle.work_store.specs.Store.{Decl, chain_of, together, depth_of, node_of, slot_of}

-- ## Keys that go the same way

pub bit-small : (k : Key) (n : ℕ) → bit_of k n < 2
unfolding bit_of
bit-small k n = mod-lt _ (omega arith)

eqb_swap : (a b : ℕ) → eqb a b ≡ eqb b a
eqb_swap a b = by (eqb a b) (λ t. t ∙ sym (eq-eqb b a (sym (eqb-true a b t)))) (λ t. t ∙ sym (ne_eqb b a (λ e. eqb-false a b t (sym e))))

module _ (hs : ℕ) where
  pub together-refl : (n : ℕ) (a : Key) → together hs n a a ≡ true
  unfolding together
  together-refl zero a = eq-eqb (chain_of hs a) (chain_of hs a) refl
  together-refl (suc n) a = and_intro (together-refl n a) (eq-eqb (bit_of a n) (bit_of a n) refl)

  pub together-less : (n m : ℕ) (a b : Key) → n ≤ m → together hs m a b ≡ true → together hs n a b ≡ true
  unfolding together
  together-less n zero a b h t = let z : n ≡ 0 = omega (arith, h) in subst (λ (x : ℕ). together hs x a b ≡ true) (sym z) t
  together-less n (suc m) a b h t = by (leb n m)
      (λ l. together-less n m a b (leb-true n m l) (and_left (together hs m a b) (eqb (bit_of a m) (bit_of b m)) t))
      (λ l. let z : n ≡ suc m = (let y = leb-false n m l in omega (arith, h, y)) in subst (λ (x : ℕ). together hs x a b ≡ true) (sym z) t)

  pub together-swap : (n : ℕ) (a b : Key) → together hs n a b ≡ together hs n b a
  unfolding together
  together-swap zero a b = eqb_swap (chain_of hs a) (chain_of hs b)
  together-swap (suc n) a b = rw (together-swap n a b, eqb_swap (bit_of a n) (bit_of b n))

  -- two that go the same way go alike beside a third
  alike_at : (n : ℕ) (a b c : Key) → together hs n a b ≡ true → together hs n a c ≡ together hs n b c
  unfolding together
  alike_at zero a b c t = ap (λ (x : ℕ). eqb x (chain_of hs c)) (eqb-true (chain_of hs a) (chain_of hs b) t)
  alike_at (suc n) a b c t =
      let l = and_left (together hs n a b) (eqb (bit_of a n) (bit_of b n)) t in
      let r = eqb-true (bit_of a n) (bit_of b n) (and_right (together hs n a b) (eqb (bit_of a n) (bit_of b n)) t) in
      rw (alike_at n a b c l, r)

  pub alike : (n m : ℕ) (a b c : Key) → m ≤ n → together hs n a b ≡ true → together hs m a c ≡ together hs m b c
  alike n m a b c h t = alike_at m a b c (together-less m n a b h t)

  -- ## How deep

  -- a way is as deep as with one declaration less, or one deeper
  pub depth-on : (k : Key) (d : Decl) (ds : List Decl) → together hs (depth_of hs k ds) k d.key ≡ true → depth_of hs k (d ∷ ds) ≡ suc (depth_of hs k ds)
  unfolding depth_of
  depth-on k d ds t = rw t

  pub depth-off : (k : Key) (d : Decl) (ds : List Decl) → together hs (depth_of hs k ds) k d.key ≡ false → depth_of hs k (d ∷ ds) ≡ depth_of hs k ds
  unfolding depth_of
  depth-off k d ds t = rw t

  pub depth-more : (k : Key) (d : Decl) (ds : List Decl) → depth_of hs k ds ≤ depth_of hs k (d ∷ ds)
  depth-more k d ds = by (together hs (depth_of hs k ds) k d.key)
      (λ t. let e = depth-on k d ds t in omega (arith, e))
      (λ t. let e = depth-off k d ds t in omega (arith, e))

  pub depth-alike : (n : ℕ) (a b : Key) (ds : List Decl) → together hs n a b ≡ true → depth_of hs a ds ≤ n → depth_of hs b ds ≡ depth_of hs a ds
  unfolding depth_of
  depth-alike n a b [] t h = refl
  depth-alike n a b (d ∷ ds) t h =
      let r : depth_of hs a ds ≤ n = (let m = depth-more a d ds in omega (arith, m, h)) in
      let e = depth-alike n a b ds t r in
      rw (e, alike n (depth_of hs a ds) a b d.key r t)

  -- ## What stands on a way

  node-on : (k : Key) (n : ℕ) (d : Decl) (ds : List Decl) → depth_of hs k ds ≡ n → together hs n k d.key ≡ true → node_of hs k n (d ∷ ds) ≡ suc (d.place / 16)
  unfolding node_of
  node-on k n d ds e t = rw (eq-eqb (depth_of hs k ds) n e, t)

  pub node-off : (k : Key) (n : ℕ) (d : Decl) (ds : List Decl) → (eqb (depth_of hs k ds) n && together hs n k d.key) ≡ false → node_of hs k n (d ∷ ds) ≡ node_of hs k n ds
  unfolding node_of
  node-off k n d ds t = rw t

  pub node-other : (k : Key) (n : ℕ) (d : Decl) (ds : List Decl) → (depth_of hs k ds ≡ n → ⊥) → node_of hs k n (d ∷ ds) ≡ node_of hs k n ds
  node-other k n d ds h = node-off k n d ds (rw (ne_eqb (depth_of hs k ds) n h))

  -- the last declared stands at depth n, or what stands there stood there before
  pub node_by : {X : Type 0} (k : Key) (n : ℕ) (d : Decl) (ds : List Decl)
      → (depth_of hs k ds ≡ n → together hs n k d.key ≡ true → node_of hs k n (d ∷ ds) ≡ suc (d.place / 16) → X)
      → (node_of hs k n (d ∷ ds) ≡ node_of hs k n ds → ((depth_of hs k ds ≡ n → together hs n k d.key ≡ true → ⊥)) → X) → X
  node_by k n d ds f g = by (eqb (depth_of hs k ds) n && together hs n k d.key)
      (λ t. let e = eqb-true (depth_of hs k ds) n (and_left (eqb (depth_of hs k ds) n) (together hs n k d.key) t) in
      let s = and_right (eqb (depth_of hs k ds) n) (together hs n k d.key) t in f e s (node-on k n d ds e s))
      (λ t. g (node-off k n d ds t) (λ e s. clash (and_intro (eq-eqb (depth_of hs k ds) n e) s) t))

  -- nothing stands deeper than the way goes
  pub node-deep : (k : Key) (n : ℕ) (ds : List Decl) → depth_of hs k ds ≤ n → node_of hs k n ds ≡ 0
  unfolding node_of
  node-deep k n [] h = refl
  node-deep k n (d ∷ ds) h =
      let m = depth-more k d ds in
      node_by k n d ds
      (λ e s u. let o = depth-on k d ds (subst (λ (x : ℕ). together hs x k d.key ≡ true) (sym e) s) in absurd (omega (arith, o, h, e)))
      (λ u v. u ∙ node-deep k n ds (omega (arith, m, h)))

  -- something stands at every depth before
  pub node-some : (k : Key) (n : ℕ) (ds : List Decl) → n < depth_of hs k ds → 1 ≤ node_of hs k n ds
  unfolding depth_of
  node-some k n [] h = absurd (omega (arith, h))
  node-some k n (d ∷ ds) h =
      node_by k n d ds
      (λ e s u. omega (arith, u))
      (λ u v. by (together hs (depth_of hs k ds) k d.key)
      (λ t. let o = depth-on k d ds t in
      by (eqb (depth_of hs k ds) n)
      (λ q. let e = eqb-true (depth_of hs k ds) n q in absurd (v e (subst (λ (x : ℕ). together hs x k d.key ≡ true) e t)))
      (λ q. let e = eqb-false (depth_of hs k ds) n q in let i = node-some k n ds (omega (arith, o, h, e)) in omega (arith, i, u)))
      (λ t. let o = depth-off k d ds t in let i = node-some k n ds (omega (arith, o, h)) in omega (arith, i, u)))

  pub node-none : (k : Key) (n : ℕ) (ds : List Decl) → node_of hs k n ds ≡ 0 → depth_of hs k ds ≤ n
  node-none k n ds e = by (leb (depth_of hs k ds) n) (λ t. leb-true (depth_of hs k ds) n t)
      (λ t. let s = node-some k n ds (leb-false (depth_of hs k ds) n t) in absurd (omega (arith, s, e)))

  -- keys that go the same way have the same there
  pub node_alike : (n m : ℕ) (a b : Key) (ds : List Decl) → m ≤ n → together hs n a b ≡ true → node_of hs a m ds ≡ node_of hs b m ds
  unfolding node_of
  node_alike n m a b [] h t = refl
  node_alike n m a b (d ∷ ds) h t = rw (tests, alike n m a b d.key h t, node_alike n m a b ds h t)
    where
      far : (x y : Key) → together hs n x y ≡ true → n < depth_of hs x ds → n < depth_of hs y ds
      far x y s l = by (leb (depth_of hs y ds) n)
          (λ q. let e = depth-alike n y x ds (together-swap n y x ∙ s) (leb-true (depth_of hs y ds) n q) in let k = leb-true (depth_of hs y ds) n q in absurd (omega (arith, e, l, k)))
          (λ q. leb-false (depth_of hs y ds) n q)

      tests : eqb (depth_of hs a ds) m ≡ eqb (depth_of hs b ds) m
      tests = by (leb (depth_of hs a ds) n)
          (λ q. ap (λ (x : ℕ). eqb x m) (sym (depth-alike n a b ds t (leb-true (depth_of hs a ds) n q))))
          (λ q. let l = leb-false (depth_of hs a ds) n q in let k = far a b t l in
          ne_eqb (depth_of hs a ds) m (λ e. omega (arith, e, l, h)) ∙ sym (ne_eqb (depth_of hs b ds) m (λ e. omega (arith, e, k, h))))

  -- ## Slots

  pub slot-alike : (n : ℕ) (a b : Key) (ds : List Decl) → together hs n a b ≡ true → slot_of hs a n ds ≡ slot_of hs b n ds
  unfolding slot_of together
  slot-alike zero a b ds t = ap (λ (x : ℕ). 8 * x + 1) (eqb-true (chain_of hs a) (chain_of hs b) t)
  slot-alike (suc n) a b ds t =
      let l = and_left (together hs n a b) (eqb (bit_of a n) (bit_of b n)) t in
      let r = eqb-true (bit_of a n) (bit_of b n) (and_right (together hs n a b) (eqb (bit_of a n) (bit_of b n)) t) in
      rw (node_alike n n a b ds (omega arith) l, r)
