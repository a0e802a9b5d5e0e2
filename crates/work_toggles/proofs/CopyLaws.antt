-- The first bytes of a word, copied, and two words beside each other by them.
use mathlib.Core.Path.{subst, ◌≡◌, sym, ap, ◌∙◌}
use mathlib.Core.List.{List, ◌++◌}
use Prim.Native.Nat.{ℕ, ◌+◌, ◌-◌, ◌≤◌, ◌<◌, min}
use native.Mathlib.Omega.{arith}
use lib.ListN.{length, get_or, take, drop, replicate, length-append, length-take, length-drop, length-replicate, get_or-replicate, get_or-append, get_or-eq_default}
use lib.Seq.{get_or-append-add, get_or-drop, get_or-take, take_all}
use lib.Dec.{eqb, ltb}
use borrow.Author.Tests.{eqb-true, eqb-false, ltb-true, ltb-false}
use Rattle.base_lists.proofs.Bools.{by}
use Rattle.text_tokens.specs.Left.{CopiesWord}
use Rattle.work_toggles.specs.Candidates.{candidate, Copied, Parts, Differ}
use Rattle.work_toggles.proofs.CandidateLaws.{candidate-alike}

-- ## A word, copied

-- its first 32 bytes, with zeros behind its end
copied : (w : List ℕ) {room : List ℕ} {n : ℕ} → CopiesWord w (replicate 32 0) room n → Copied w room
copied w {room} {n} v =
    let zeros : List ℕ = replicate 32 0 in
    let z : length zeros ≡ 32 = length-replicate {A = ℕ} 32 0 in
    let e : room ≡ take 32 w ++ drop (length w) zeros = v.copied in
    let front : length (take 32 w) ≡ min 32 (length w) = length-take 32 w in
    record {
      long = ap length e ∙ length-append (take 32 w) (drop (length w) zeros) ∙ rw (front, length-drop (length w) zeros, z) (omega arith);
      same = λ k l.
          by (ltb k (length w))
          (λ t. let h = ltb-true k (length w) t in
          ap (λ (x : List ℕ). get_or x k 0) e ∙ get_or-append (take 32 w) (drop (length w) zeros) 0 k (rw front (omega (arith, h, l))) ∙ get_or-take 32 w k 0 l)
          (λ t. let h = ltb-false k (length w) t in
          let m : k ≡ length w + (k - length w) = omega arith in
          ap (λ (x : List ℕ). get_or x k 0) (e ∙ ap (λ (y : List ℕ). y ++ drop (length w) zeros) (take_all 32 w (omega (arith, h, l))))
          ∙ ap (λ (y : ℕ). get_or (w ++ drop (length w) zeros) y 0) m
          ∙ get_or-append-add w (drop (length w) zeros) (k - length w) 0
          ∙ get_or-drop (length w) zeros (k - length w) 0
          ∙ ap (λ (y : ℕ). get_or zeros y 0) (sym m)
          ∙ get_or-replicate {A = ℕ} 32 k 0 0 l
          ∙ sym (get_or-eq_default w 0 h));
    }

-- the area that it is copied to keeps its length
pub copied-long : (w : List ℕ) {room : List ℕ} {n : ℕ} → CopiesWord w (replicate 32 0) room n → length room ≡ 32
copied-long w v = (copied w v).long

-- the candidate of what is copied is that of the word
pub candidate-copied : (w room work : List ℕ) (from n : ℕ) {c m : ℕ} → CopiesWord w (replicate 32 0) room m → c ≡ candidate room work from n → c ≡ candidate w work from n
candidate-copied w room work from n v e = e ∙ candidate-alike room w work from n (copied w v).same

-- ## Two rooms beside each other

-- They are the same before i.
pub record Comparing (a b : List ℕ) (i : ℕ) : Type 0 where
  pub below : i < 32
  pub same : (k : ℕ) → k < i → get_or a k 0 ≡ get_or b k 0

pub compare-start : (a b : List ℕ) → Comparing a b 0
compare-start a b = record { below = omega arith; same = λ k h. absurd (omega arith) }

module _ {a b : List ℕ} {i : ℕ} (v : Comparing a b i) where
  -- with the next place the same, too
  up_to : get_or a i 0 ≡ get_or b i 0 → (k : ℕ) → k < i + 1 → get_or a k 0 ≡ get_or b k 0
  up_to e k h =
      by (eqb k i)
      (λ t. let f = eqb-true k i t in rw f e)
      (λ t. let f = eqb-false k i t in v.same k (omega (arith, f)))

  pub compare-more : i < 31 → get_or a i 0 ≡ get_or b i 0 → Comparing a b (i + 1)
  compare-more h e = record { below = omega arith; same = up_to e }

  pub compare-differ : (get_or a i 0 ≡ get_or b i 0 → ⊥) → Differ a b i
  compare-differ n = record { below = v.below; apart = λ e. absurd (n e) }

  pub compare-end : 31 ≤ i → Differ a b 31
  compare-end h =
      let e : i ≡ 31 = omega (arith, v.below) in
      subst (λ (j : ℕ). Differ a b j) e (record { below = v.below; apart = λ e k l. up_to e k (omega (arith, v.below)) })

-- what holds of the rooms holds of the words in them
pub words-part : (w v : List ℕ) {a b : List ℕ} {k m n : ℕ} → CopiesWord w (replicate 32 0) a m → CopiesWord v (replicate 32 0) b n → Differ a b k → Parts w v (record { at = k; byte = get_or a k 0 })
words-part w v {a} {b} {k} c d h =
    let one : Copied w a = copied w c in
    let two : Copied v b = copied v d in
    let own = one.same k h.below in
    let other = two.same k h.below in
    record {
      below = h.below;
      byte = sym own;
      apart = λ e j l. sym (one.same j l) ∙ h.apart (own ∙ e ∙ sym other) j l ∙ two.same j l;
    }
