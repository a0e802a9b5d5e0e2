-- The toggles that are kept after a store: of one that is known, and of one more with its decision.
use mathlib.Core.Path.{◌≡◌, sym, ap, ◌∙◌, subst}
use mathlib.Core.Bool.{true, false}
use mathlib.Core.List.{List}
use Prim.Native.Nat.{ℕ, ◌+◌, ◌/◌, ◌≤◌, ◌<◌}
use native.Mathlib.Omega.{arith}
use lib.ListN.{length, get_or}
use lib.Dec.{eqb}
use borrow.Author.Tests.{eqb-true, eqb-false}
use Rattle.base_lists.proofs.Bools.{by, cond-false}
use Rattle.text_lines.specs.declared.Signs.{Signs}
use Rattle.work_toggles.specs.Candidates.{candidate}
use Rattle.work_toggles.specs.Kept.{word_of, Proper, Kept, Decides}
use Rattle.work_toggles.proofs.CandidateLaws.{candidate-same, candidate-next}

-- ## A toggle that is known

module _ {g : Signs} {src work : List ℕ} {base n : ℕ} (k : Kept g src work base n) (after : List ℕ) (i x : ℕ) (long : length after ≡ length work)
    (new : get_or after (base + i) 0 ≡ x) (others : (j : ℕ) → j < n → (j ≡ i → ⊥) → get_or after (base + j) 0 ≡ get_or work (base + j) 0)
    (decisions : (j : ℕ) → j < n → get_or after (base + 16 + j) 0 ≡ get_or work (base + 16 + j) 0)
    (inside : x / 2 ≤ length src) (word : word_of g src x ≡ word_of g src (get_or work (base + i) 0)) where
  new-at : (j : ℕ) → eqb j i ≡ true → get_or after (base + j) 0 ≡ x
  new-at j t = ap (λ (y : ℕ). get_or after (base + y) 0) (eqb-true j i t) ∙ new

  -- every toggle has the word that it had
  word-stays : (j : ℕ) → j < n → word_of g src (get_or after (base + j) 0) ≡ word_of g src (get_or work (base + j) 0)
  word-stays j h =
      by (eqb j i)
      (λ t. ap (word_of g src) (new-at j t) ∙ word ∙ ap (λ (y : ℕ). word_of g src (get_or work (base + y) 0)) (sym (eqb-true j i t)))
      (λ t. ap (word_of g src) (others j h (eqb-false j i t)))

  pub kept_again : Kept g src after base n
  kept_again =
      record {
        room = omega (arith, k.room);
        few = k.few;
        inside = λ j h.
            by (eqb j i)
            (λ t. let e = new-at j t in rw e inside)
            (λ t. let e = others j h (eqb-false j i t) in rw e (k.inside j h));
        proper = λ j h. subst Proper (sym (word-stays j h)) (k.proper j h);
        decided = λ j h.
            ap (λ (y : List ℕ). candidate y after (base + 16) n) (word-stays j h)
            ∙ candidate-same (word_of g src (get_or work (base + j) 0)) work after (base + 16) n decisions
            ∙ k.decided j h;
      }

-- ## One more

module _ {g : Signs} {src work : List ℕ} {base n : ℕ} (k : Kept g src work base n) (few : n < 16) (after : List ℕ) (x d : ℕ) (long : length after ≡ length work)
    (new : get_or after (base + n) 0 ≡ x) (others : (j : ℕ) → j < n → get_or after (base + j) 0 ≡ get_or work (base + j) 0)
    (last : get_or after (base + 16 + n) 0 ≡ d) (decisions : (j : ℕ) → j < n → get_or after (base + 16 + j) 0 ≡ get_or work (base + 16 + j) 0)
    (inside : x / 2 ≤ length src) (proper : Proper (word_of g src x)) (v : Decides g src work base n (word_of g src x) d) where
  last-at : (j : ℕ) → eqb j n ≡ true → get_or after (base + j) 0 ≡ x
  last-at j t = ap (λ (y : ℕ). get_or after (base + y) 0) (eqb-true j n t) ∙ new

  older : (j : ℕ) → j < n + 1 → eqb j n ≡ false → j < n
  older j h t = let e = eqb-false j n t in omega (arith, e)

  old-at : (j : ℕ) → j < n + 1 → eqb j n ≡ false → get_or after (base + j) 0 ≡ get_or work (base + j) 0
  old-at j h t = others j (older j h t)

  -- the new one is the candidate of its word, and each other of its own
  last-decided : candidate (word_of g src x) after (base + 16) (n + 1) ≡ n
  last-decided = candidate-next (word_of g src x) work after (base + 16) n d decisions last ∙ v.own

  old-decided : (j : ℕ) → j < n → candidate (word_of g src (get_or work (base + j) 0)) after (base + 16) (n + 1) ≡ j
  old-decided j h =
      let w = word_of g src (get_or work (base + j) 0) in
      let e = k.decided j h in
      candidate-next w work after (base + 16) n d decisions last ∙ rw e (cond-false n j (v.others j h))

  pub kept_more : Kept g src after base (n + 1)
  kept_more =
      record {
        room = omega (arith, k.room);
        few = omega arith;
        inside = λ j h. by (eqb j n) (λ t. let e = last-at j t in rw e inside) (λ t. let e = old-at j h t in rw e (k.inside j (older j h t)));
        proper = λ j h. by (eqb j n) (λ t. let e = last-at j t in rw e proper) (λ t. let e = old-at j h t in rw e (k.proper j (older j h t)));
        decided = λ j h.
            by (eqb j n)
            (λ t. let e = last-at j t in rw e (last-decided ∙ sym (eqb-true j n t)))
            (λ t. let e = old-at j h t in rw e (old-decided j (older j h t)));
      }
