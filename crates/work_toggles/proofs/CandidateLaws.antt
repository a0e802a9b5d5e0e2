-- The candidate of a word, and what a decision for one more toggle changes: nothing but the candidate of that one.
use Rattle.std.specs.Prelude.{if◌then◌else◌}
use mathlib.Core.Path.{◌≡◌, refl, sym, ap, ◌∙◌, subst}
use mathlib.Core.Bool.{Bool, true, false, ◌&&◌, false≢true}
use mathlib.Core.List.{List, [], ◌∷◌}
use Prim.Native.Nat.{ℕ, zero, suc, ◌+◌, ◌*◌, ◌/◌, ◌%◌, ◌≤◌, ◌<◌}
use native.Mathlib.Numerals.{add-one}
use native.Mathlib.Omega.{arith}
use lib.ListN.{length, get_or}
use lib.Dec.{eqb}
use borrow.Author.Tests.{eq-eqb, ne_eqb}
use Rattle.base_lists.proofs.Bools.{by, and_intro, cond-true, cond-false, cond_both}
use Rattle.rules.specs.Text.{every}
use Rattle.rules.specs.Conditionals.{is_toggle_byte}
use Rattle.rules.proofs.TextLaws.{every-head, every-tail}
use Rattle.work_toggles.specs.declared.Parting.{Parting}
use Rattle.work_toggles.specs.Candidates.{decision_for, takes, candidate, Alike}
use Rattle.work_toggles.specs.Kept.{Proper}

-- ## What a candidate depends on

-- only on the first 32 bytes of the word
takes-alike : (v w : List ℕ) (c d : ℕ) → Alike v w → takes v c d ≡ takes w c d
unfolding takes
takes-alike v w c d h = ap (λ (x : ℕ). eqb (d / 8192) c && eqb x (d % 256)) (h (d / 256 % 32) (omega arith))

pub candidate-alike : (v w work : List ℕ) (from n : ℕ) → Alike v w → candidate v work from n ≡ candidate w work from n
unfolding candidate
candidate-alike v w work from zero h = refl
candidate-alike v w work from (suc i) h =
    let e = candidate-alike v w work from i h in
    rw (e, takes-alike v w (candidate w work from i) (get_or work (from + i) 0) h)

-- and on the decisions
pub candidate-same : (w before after : List ℕ) (from n : ℕ) → ((i : ℕ) → i < n → get_or after (from + i) 0 ≡ get_or before (from + i) 0)
    → candidate w after from n ≡ candidate w before from n
unfolding candidate
candidate-same w before after from zero h = refl
candidate-same w before after from (suc i) h =
    let e = candidate-same w before after from i (λ j l. h j (omega arith)) in
    rw (e, h i (omega arith))

-- with one toggle more, on the last decision
pub candidate-next : (w before after : List ℕ) (from n d : ℕ) → ((i : ℕ) → i < n → get_or after (from + i) 0 ≡ get_or before (from + i) 0) → get_or after (from + n) 0 ≡ d
    → candidate w after from (n + 1) ≡ (if takes w (candidate w before from n) d then n else candidate w before from n)
unfolding candidate
candidate-next w before after from n d h e =
    let s = candidate-same w before after from n h in
    ap (candidate w after from) (add-one n) ∙ rw (s, e)

-- it is one of the toggles
pub candidate-few : (w work : List ℕ) (from n : ℕ) → 0 < n → candidate w work from n < n
unfolding candidate
candidate-few w work from zero h = absurd (omega arith)
candidate-few w work from (suc zero) h = cond_both (λ (x : ℕ). x < 1) (takes w 0 (get_or work (from + 0) 0)) (omega arith) (omega arith)
candidate-few w work from (suc (suc i)) h =
    let c = candidate-few w work from (suc i) (omega arith) in
    cond_both (λ (x : ℕ). x < suc (suc i)) (takes w (candidate w work from (suc i)) (get_or work (from + suc i) 0)) (omega arith) (omega arith)

pub candidate-none : (w work : List ℕ) (from n : ℕ) → n ≡ 0 → candidate w work from n ≡ n
unfolding candidate
candidate-none w work from zero h = refl
candidate-none w work from (suc n) h = absurd (omega arith)

-- ## The search for it

-- what one decision says, as it is tested
pub taken_here : (w : List ℕ) (c d : ℕ) → d / 8192 ≡ c → eqb (get_or w (d / 256 % 32) 0) (d % 256) ≡ takes w c d
unfolding takes
taken_here w c d e = let t = eq-eqb (d / 8192) c e in rw t

pub taken-elsewhere : (w : List ℕ) (c d : ℕ) → (d / 8192 ≡ c → ⊥) → eqb (d / 8192) c ≡ takes w c d
unfolding takes
taken-elsewhere w c d n = let t = ne_eqb (d / 8192) c n in rw t refl

-- The candidate among the first i toggles.
pub record Choosing (w work : List ℕ) (from n c i : ℕ) : Type 0 where
  pub few : i ≤ n
  pub is : c ≡ candidate w work from i

pub choose-start : (w work : List ℕ) (from n : ℕ) → Choosing w work from n 0 0
unfolding candidate
choose-start w work from n = record { few = omega arith; is = refl }

module _ {w work : List ℕ} {from n c i : ℕ} (v : Choosing w work from n c i) where
  pub choose-end : n ≤ i → c ≡ candidate w work from n
  choose-end h = let e : i ≡ n = omega (arith, v.few) in v.is ∙ ap (candidate w work from) e

  module _ (h : i < n) {t : Bool} (f : t ≡ takes w c (get_or work (from + i) 0)) where
    -- the test, of the candidate itself
    tested : {b : Bool} → t ≡ b → takes w (candidate w work from i) (get_or work (from + i) 0) ≡ b
    tested y = sym (ap (λ (x : ℕ). takes w x (get_or work (from + i) 0)) v.is) ∙ sym f ∙ y

    pub choose-this : t ≡ true → Choosing w work from n i (i + 1)
    unfolding candidate
    choose-this y =
        record { few = omega arith; is = sym (ap (candidate w work from) (add-one i) ∙ cond-true i (candidate w work from i) (tested y)) }

    pub choose-that : t ≡ false → Choosing w work from n c (i + 1)
    unfolding candidate
    choose-that y =
        record { few = omega arith; is = v.is ∙ sym (ap (candidate w work from) (add-one i) ∙ cond-false i (candidate w work from i) (tested y)) }

-- ## Words that differ

-- a byte of a toggle's word is not what stands behind its end
byte-some : (b : ℕ) → is_toggle_byte b ≡ true → 0 ≡ b → ⊥
byte-some b h e = false≢true (subst (λ (x : ℕ). is_toggle_byte x ≡ true) (sym e) h)

-- words of toggles are told apart by their first bytes
words-alike : (n : ℕ) (w v : List ℕ) → every is_toggle_byte w ≡ true → every is_toggle_byte v ≡ true → length w ≤ n → length v ≤ n
    → ((k : ℕ) → k < n → get_or w k 0 ≡ get_or v k 0) → w ≡ v
words-alike n [] [] a b l m h = refl
words-alike n [] (y ∷ ys) a b l m h = absurd (byte-some y (every-head is_toggle_byte y ys b) (h 0 (omega arith)))
words-alike n (x ∷ xs) [] a b l m h = absurd (byte-some x (every-head is_toggle_byte x xs a) (sym (h 0 (omega arith))))
words-alike zero (x ∷ xs) (y ∷ ys) a b l m h = absurd (omega arith)
words-alike (suc n) (x ∷ xs) (y ∷ ys) a b l m h =
    let e = h 0 (omega arith) in
    let r =
    words-alike n xs ys (every-tail is_toggle_byte x xs a) (every-tail is_toggle_byte y ys b) (omega arith) (omega arith) (λ k i. h (suc k) (omega arith)) in
    rw (e, r)

pub proper-alike : {w v : List ℕ} → Proper w → Proper v → Alike w v → w ≡ v
proper-alike {w} {v} p q h = words-alike 32 w v p.clean q.clean p.short q.short h

-- ## A decision

pub decision-is : (c : ℕ) (m : Parting) {b : ℕ} → b ≡ m.byte → (c * 32 + m.at) * 256 + b ≡ decision_for c m
unfolding decision_for
decision-is c m e = rw e

module _ (c : ℕ) (m : Parting) (h : m.at < 32) (b : m.byte < 256) where
  decision-toggle : decision_for c m / 8192 ≡ c
  unfolding decision_for
  decision-toggle = omega arith

  decision-place : decision_for c m / 256 % 32 ≡ m.at
  unfolding decision_for
  decision-place = omega arith

  decision-byte : decision_for c m % 256 ≡ m.byte
  unfolding decision_for
  decision-byte = omega arith

  -- what it takes away
  pub decision-takes : (w : List ℕ) → get_or w m.at 0 ≡ m.byte → takes w c (decision_for c m) ≡ true
  unfolding takes
  decision-takes w e =
      and_intro (eq-eqb _ c decision-toggle)
      (eq-eqb _ _ (ap (λ (k : ℕ). get_or w k 0) decision-place ∙ e ∙ sym decision-byte))

  -- and what not: words of another toggle, and words with another byte
  pub decision-other : (w : List ℕ) (i : ℕ) → (c ≡ i → ⊥) → takes w i (decision_for c m) ≡ false
  unfolding takes
  decision-other w i n = let e = ne_eqb (decision_for c m / 8192) i (λ e. n (sym decision-toggle ∙ e)) in rw e

  pub decision-leaves : (w : List ℕ) (i : ℕ) → (get_or w m.at 0 ≡ m.byte → ⊥) → takes w i (decision_for c m) ≡ false
  unfolding takes
  decision-leaves w i n =
      let e : eqb (get_or w (decision_for c m / 256 % 32) 0) (decision_for c m % 256) ≡ false =
      ne_eqb _ _ (λ e. n (sym (ap (λ (k : ℕ). get_or w k 0) decision-place) ∙ e ∙ decision-byte)) in
      by (eqb (decision_for c m / 8192) i) (λ t. rw (t, e)) (λ t. rw t)
