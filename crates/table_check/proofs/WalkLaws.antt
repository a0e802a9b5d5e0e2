-- The walk along the listing: starts_are, told_after and the loop of listing_passes.
use Rattle.std.proofs.Common.{◌≡◌, ℕ, zero, suc, pred, ◌+◌, ◌-◌, ◌*◌, ◌<◌, ◌≤◌, Bool, true, false, ◌&&◌, Option, Some, None, eqb, List, [], ◌∷◌, map, length, get_or, take, drop, sym, refl, ap, ◌∙◌, arith, drop-cons, drop-drop, length-drop, length-take-le, get_or-take, get_or-drop, le-ltb, lt-ltb, eq-eqb, ne_eqb, eqb-true, le-leb}
use Rattle.std.specs.Bool.{then_some}
use Rattle.std.specs.Ordering.{nat_cmp, is_lt, is_some_and}
use Rattle.std.specs.Cmp.Lexicographic.{slice_partial_cmp}
use mathlib.Core.Bool.{and-true, and-false}
use borrow.Author.Tests.{eqb-false, lt-leb}
use Rattle.base_lists.proofs.Bools.{by}
use Rattle.base_lists.proofs.Runs.{run, run-whole, run_none, run-cons}
use Rattle.rules.specs.Text.{within, every}
use Rattle.rules.proofs.TextLaws.{within_low, within-high}
use Rattle.rules.specs.Table.{pad, mask, before}
use Rattle.table_layout.specs.Starts.{bucket_for, four_at, four_from, bucket_in, bucket_from, Place, start_at, start_all, told}
use Rattle.table_layout.proofs.BucketLaws.{for-few}
use Rattle.table_check.specs.Checks.{rises_in, listing_in}
use Rattle.table_check.proofs.BeforeLaws.{less-before}
use Rattle.table_check.specs.Walk.{follows, rises_on, walks, told_with, goes_on, told_next}

-- ## Buckets

four-drop : (t : List ℕ) (chars p : ℕ) → four_at (drop chars t) p ≡ take 4 (drop (four_from chars p) t)
four-drop t chars p = ap (take 4) (drop-drop (4 * pred p) chars t)

-- the bucket as it is read
bucket-first : (t : List ℕ) (n chars p : ℕ) → 1 ≤ p → p ≤ n → chars + 6 * n ≤ length t → bucket_from t chars n p ≡ bucket_in n (drop chars t) p
unfolding bucket_from
bucket-first t n chars p o u h =
    let at : ℕ = 4 * pred p in
    sym (ap (λ (x : List ℕ). bucket_for n (get_or (take 4 x) 0 pad)) (drop-drop at chars t ∙ drop-cons t (chars + at) 0 (omega arith)))

-- ## told_after

-- what bucket_at asks
pub place_at : (t : List ℕ) (chars n buckets p : ℕ) → n ≤ 32768 → buckets ≡ mask n → 1 ≤ p → p ≤ n → chars + 6 * n ≤ length t → Place t chars n buckets p
place_at t chars n buckets p f m o u h = record { few-items = f; masked = m; from_one = o; in-items = u; inside = omega arith }

module _ (n : ℕ) (cs : List ℕ) (last p : ℕ) where
  first-told : last ≡ 0 → told_with n cs last ≡ 0
  unfolding told_with
  first-told e = rw (eq-eqb last 0 e)

  some-told : (last ≡ 0 → ⊥) → told_with n cs last ≡ suc (bucket_in n cs last)
  unfolding told_with
  some-told z = rw (ne_eqb last 0 z)

  first-follows : last ≡ 0 → follows n cs last p ≡ true
  unfolding follows
  first-follows e = rw (eq-eqb last 0 e)

  module _ (z : last ≡ 0 → ⊥) where
    later-follows : bucket_in n cs last < bucket_in n cs p → follows n cs last p ≡ true
    unfolding follows before
    later-follows l = rw (ne_eqb last 0 z, lt-ltb (bucket_in n cs last) (bucket_in n cs p) l)

    earlier-follows : bucket_in n cs p < bucket_in n cs last → follows n cs last p ≡ false
    unfolding follows before
    earlier-follows l =
        rw (ne_eqb last 0 z, le-ltb (bucket_in n cs last) (bucket_in n cs p) (omega arith), ne_eqb (bucket_in n cs last) (bucket_in n cs p) (λ e. omega arith))

    same-follows : bucket_in n cs last ≡ bucket_in n cs p → follows n cs last p ≡ before (four_at cs last) (four_at cs p)
    unfolding follows before
    same-follows e =
        rw (ne_eqb last 0 z, le-ltb (bucket_in n cs last) (bucket_in n cs p) (omega arith), eq-eqb (bucket_in n cs last) (bucket_in n cs p) e)

  -- where a start is told, an item stands before
  pub told-some : {told : ℕ} → told ≡ told_with n cs last → {q : ℕ} → q < told → 1 ≤ last
  told-some e h = by (eqb last 0) (λ t. absurd (omega (arith, first-told (eqb-true last 0 t)))) (λ t. omega (arith, eqb-false last 0 t))

  -- the place after `last`, of a bucket that is not told yet
  behind : told_with n cs last ≤ bucket_in n cs p → follows n cs last p ≡ true
  behind h =
      by (eqb last 0)
      (λ t. first-follows (eqb-true last 0 t))
      (λ t. let z = eqb-false last 0 t in later-follows z (omega (arith, some-told z)))

module _ (t : List ℕ) (n chars : ℕ) (ss : List ℕ) (k last p told q : ℕ) (one : 1 ≤ p) (tell : told ≡ told_with n (drop chars t) last)
    (u : p ≤ n) (room : chars + 6 * n ≤ length t) (e : q ≡ bucket_from t chars n p) (few : q < 2 * n) where
  at : q ≡ bucket_in n (drop chars t) p
  at = e ∙ bucket-first t n chars p one u room

  with-p : told_with n (drop chars t) p ≡ q + 1
  with-p = omega (arith, some-told n (drop chars t) p p (λ e. omega arith), at)

  suc-p : suc (bucket_in n (drop chars t) p) ≡ q + 1
  suc-p = omega (arith, at)

  abbrev next : Option ℕ
  next = told_next n (drop chars t) ss k last p

  answer : {r : Bool} {m : ℕ} → goes_on n (drop chars t) ss k last p ≡ r → (r ≡ true → m ≡ q + 1) → then_some r m ≡ next
  unfolding told_next
  answer {r} {m} e f =
      rw (e, with-p)
      (by r
      (λ y. rw (y, f y))
      (λ y. rw y))

  module _ {r : Bool} (right : r ≡ start_all ss k told (q + 1 - told)) (later : told ≤ q) where
    goes : goes_on n (drop chars t) ss k last p ≡ r
    unfolding goes_on
    goes = rw (behind n (drop chars t) last p (omega (arith, tell, at)), suc-p, ← tell) (sym right)

  -- of a bucket further behind
  pub told-later : {r : Bool} → r ≡ start_all ss k told (q + 1 - told) → told < q → then_some r (q + 1) ≡ next
  told-later right later = answer (goes right (omega arith)) (λ e. refl)

  -- of the bucket behind the last one's: one start is told
  pub told-here : told ≡ q → {s : ℕ} → s ≡ start_at ss q → then_some (eqb s k) (q + 1) ≡ next
  unfolding start_all
  told-here here {s} start =
      let z : q + 1 - told ≡ 1 = omega arith in
      let one : eqb s k ≡ start_all ss k told (q + 1 - told) = rw (z, here, start) (sym (and-true (eqb (start_at ss q) k))) in
      answer (goes one (omega arith)) (λ e. refl)

  -- of the last one's bucket, or one before it
  module _ (not-later : q < told) where
    some : last ≡ 0 → ⊥
    some e = omega (arith, told-some n (drop chars t) last p tell not-later)

    last-told : told ≡ suc (bucket_in n (drop chars t) last)
    last-told = tell ∙ some-told n (drop chars t) last p some

    pub told-earlier : q + 1 < told → None ≡ next
    unfolding goes_on told_next
    told-earlier l = rw (earlier-follows n (drop chars t) last p some (omega (arith, last-told, at)))

    module _ (close : told ≤ q + 1) {xs ys : List ℕ} (first : xs ≡ take 4 (drop (four_from chars last) t)) (second : ys ≡ take 4 (drop (four_from chars p) t)) where
      goes_same : goes_on n (drop chars t) ss k last p ≡ before xs ys
      unfolding goes_on start_all
      goes_same =
          let z : q + 1 - told ≡ 0 = omega arith in
          rw (
            same-follows n (drop chars t) last p some (omega (arith, last-told, at)),
            suc-p,
            ← tell,
            z,
            four-drop t chars last,
            four-drop t chars p,
            ← first,
            ← second,
          )
          (and-true (before xs ys))

      pub told_same : length xs ≡ length ys → {r : Bool} → r ≡ is_some_and is_lt (slice_partial_cmp (λ x y. Some (nat_cmp x y)) xs ys) → then_some r told ≡ next
      told_same l e = answer (goes_same ∙ sym (e ∙ less-before xs ys l)) (λ y. omega arith)

-- ## The starts behind the part are not read: the contract of listing_passes is the test of `checks`

start-take : (n : ℕ) (ss : List ℕ) (x : ℕ) → x < 2 * n → start_at (take n ss) x ≡ start_at ss x
unfolding start_at
start-take zero ss x h = absurd (omega arith)
start-take (suc n) [] x h = refl
start-take (suc n) (s ∷ ss) zero h = refl
start-take (suc n) (s ∷ ss) (suc zero) h = refl
start-take (suc n) (s ∷ ss) (suc (suc x)) h = start-take n ss x (omega arith)

all_take : (n : ℕ) (ss : List ℕ) (k b i : ℕ) → b + i ≤ 2 * n → start_all (take n ss) k b i ≡ start_all ss k b i
unfolding start_all
all_take n ss k b zero h = refl
all_take n ss k b (suc i) h = rw (start-take n ss b (omega arith), all_take n ss k (suc b) i (omega arith))

told-take : (n : ℕ) (cs ss : List ℕ) (e k b : ℕ) (ps : List ℕ) → 1 ≤ n → b ≤ 2 * n
    → told (take n ss) e k b (map (bucket_in n cs) ps) ≡ told ss e k b (map (bucket_in n cs) ps)
unfolding told
told-take n cs ss e k b [] h u = refl
told-take n cs ss e k b (p ∷ ps) h u =
    let q : ℕ = bucket_in n cs p in
    let f = for-few n (get_or (four_at cs p) 0 pad) h in
    rw (all_take n ss k b (suc q - b) (omega arith), told-take n cs ss e (suc k) (suc q) ps h f)

pub listing-take : (n : ℕ) (cs ps ss : List ℕ) → 1 ≤ n → listing_in n cs ps (take n ss) ≡ listing_in n cs ps ss
unfolding listing_in
listing-take n cs ps ss h = rw (told-take n cs ss (2 * n) 0 0 ps h (omega arith))

-- ## listing_passes

-- place k of the n that stand from f on
pub place-at : (t : List ℕ) (f n k : ℕ) → f + n ≤ length t → k < length (take (f + n - f) (drop f t))
    → (k < n) × (get_or (take (f + n - f) (drop f t)) k 0 ≡ get_or t (f + k) 0)
place-at t f n k room h =
    let e : f + n - f ≡ n = omega arith in
    let l : k < n = rw (e, length-take-le n (drop f t) (simp length-drop (omega arith))) at h in
    (l, rw (e, get_or-take n (drop f t) k 0 l, get_or-drop f t k 0))

pub place-end : (t : List ℕ) (f n k : ℕ) → f + n ≤ length t → length (take (f + n - f) (drop f t)) ≤ k → n ≤ k
place-end t f n k room h =
    let e : f + n - f ≡ n = omega arith in
    rw (e, length-take-le n (drop f t) (simp length-drop (omega arith))) at h

walks-whole : (n : ℕ) (cs ps ss : List ℕ) → listing_in n cs ps ss ≡ walks n cs ss 0 0 0 ps
unfolding listing_in walks rises_on follows rises_in
walks-whole n cs [] ss = refl
walks-whole n cs (p ∷ ps) ss = refl

rises-first : (n : ℕ) (cs : List ℕ) (last p : ℕ) (ps : List ℕ) → (p ≡ 0 → ⊥) → rises_on n cs last (p ∷ ps) ≡ (follows n cs last p && rises_on n cs p ps)
unfolding rises_on follows rises_in
rises-first n cs last p [] h = refl
rises-first n cs last p (q ∷ ps) h = rw (ne_eqb p 0 h)

shuffled : (e f r s t : Bool) → ((e && (f && r)) && (s && t)) ≡ ((f && s) && ((e && r) && t))
shuffled false f r s t = sym (and-false (f && s))
shuffled true false r s t = refl
shuffled true true r true t = refl
shuffled true true true false t = refl
shuffled true true false false t = refl

module _ (n : ℕ) (cs ss : List ℕ) (k last p : ℕ) where
  next-no : None ≡ told_next n cs ss k last p → goes_on n cs ss k last p ≡ false
  unfolding told_next
  next-no e =
      by (goes_on n cs ss k last p)
      (λ y. let f : None ≡ Some (told_with n cs p) = rw y at e in cc)
      (λ y. y)

  next-yes : {q : ℕ} → Some q ≡ told_next n cs ss k last p → (goes_on n cs ss k last p ≡ true) × (q ≡ told_with n cs p)
  unfolding told_next
  next-yes {q} e =
      by (goes_on n cs ss k last p)
      (λ y. let f : Some q ≡ Some (told_with n cs p) = rw y at e in (y, cc))
      (λ y. let f : Some q ≡ None = rw y at e in cc)

-- p, and the places after it
walks-first : (n : ℕ) (cs ss : List ℕ) (last k p : ℕ) (ps : List ℕ) → (p ≡ 0 → ⊥) → p ≤ n
    → walks n cs ss last k (told_with n cs last) (p ∷ ps) ≡ (goes_on n cs ss k last p && walks n cs ss p (k + 1) (told_with n cs p) ps)
unfolding walks every told goes_on
walks-first n cs ss last k p ps z l =
    let j : k + 1 ≡ suc k = omega arith in
    let all : Bool = every (within 1 n) ps in
    let right : Bool = start_all ss k (told_with n cs last) (suc (bucket_in n cs p) - told_with n cs last) in
    rw (le-leb 1 p (omega (arith, z)), le-leb p n l, j, some-told n cs p p z, rises-first n cs last p ps z)
    (shuffled all (follows n cs last p) (rises_on n cs p ps) right (told ss (2 * n) (suc k) (suc (bucket_in n cs p)) (map (bucket_in n cs) ps)))

-- The places before k passed, so that those from k on decide.
pub record Walking (t : List ℕ) (n chars k last b : ℕ) : Type 0 where
  pub to : k ≤ n
  pub last-in : last ≤ n
  pub told_in : b ≡ told_with n (drop chars t) last
  pub same : listing_in n (drop chars t) (take n (drop (chars + 4 * n) t)) (drop (chars + 5 * n) t)
      ≡ walks n (drop chars t) (drop (chars + 5 * n) t) last k b (run t (chars + 4 * n + k) (chars + 4 * n + n))

pub walking-none : (t : List ℕ) (n chars : ℕ) → Walking t n chars 0 0 0
walking-none t n chars =
    let e : chars + 4 * n + 0 ≡ chars + 4 * n = omega arith in
    record {
      to = omega arith;
      last-in = omega arith;
      told_in = sym (first-told n (drop chars t) 0 0 refl);
      same = walks-whole n (drop chars t) (take n (drop (chars + 4 * n) t)) (drop (chars + 5 * n) t) ∙ rw (e, run-whole t (chars + 4 * n) n);
    }

module _ {t : List ℕ} {n chars k last b : ℕ} (v : Walking t n chars k last b) where
  abbrev pub Whole : Bool
  Whole = listing_in n (drop chars t) (take n (drop (chars + 4 * n) t)) (drop (chars + 5 * n) t)

  module _ (h : k < n) (room : chars + 6 * n ≤ length t) {p : ℕ} (is : p ≡ get_or t (chars + 4 * n + k) 0) where
    listed : run t (chars + 4 * n + k) (chars + 4 * n + n) ≡ p ∷ run t (chars + 4 * n + (k + 1)) (chars + 4 * n + n)
    listed =
        let e : chars + 4 * n + (k + 1) ≡ chars + 4 * n + k + 1 = omega arith in
        rw (e, is) (run-cons t (chars + 4 * n + k) (chars + 4 * n + n) (omega arith) (omega arith))

    pub walking-off : within 1 n p ≡ false → false ≡ Whole
    unfolding walks every
    walking-off e = sym (v.same ∙ rw (listed, e))

    module _ (ranged : within 1 n p ≡ true) where
      not-none : p ≡ 0 → ⊥
      not-none z = let h = within_low 1 n p ranged in omega arith

      few : p ≤ n
      few = within-high 1 n p ranged

      abbrev after : Option ℕ
      after = told_next n (drop chars t) (drop (chars + 5 * n) t) k last p

      all : Whole
          ≡ (goes_on n (drop chars t) (drop (chars + 5 * n) t) k last p
          && walks n (drop chars t) (drop (chars + 5 * n) t) p (k + 1) (told_with n (drop chars t) p) (run t (chars + 4 * n + (k + 1)) (chars + 4 * n + n)))
      all =
          v.same
          ∙ rw (listed, v.told_in) (walks-first n (drop chars t) (drop (chars + 5 * n) t) last k p (run t (chars + 4 * n + (k + 1)) (chars + 4 * n + n)) not-none few)

      pub walking-no : None ≡ after → false ≡ Whole
      walking-no e = sym (all ∙ rw (next-no n (drop chars t) (drop (chars + 5 * n) t) k last p e))

      pub walking-more : {q : ℕ} → Some q ≡ after → Walking t n chars (k + 1) p q
      walking-more e =
          let y = next-yes n (drop chars t) (drop (chars + 5 * n) t) k last p e in
          record { to = omega arith; last-in = few; told_in = y.1; same = all ∙ rw (y.0, y.1) }

  module _ (h : n ≤ k) where
    pub walking-all : eqb b (2 * n) ≡ Whole
    unfolding walks every rises_on told
    walking-all = sym (v.same ∙ rw (run_none t (chars + 4 * n + k) (chars + 4 * n + n) (omega arith)))
