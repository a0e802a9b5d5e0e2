-- The answers of items_pass and of passes: one law for each return.
use Rattle.std.proofs.Common.{◌≡◌, ℕ, zero, suc, ◌+◌, ◌-◌, ◌*◌, ◌≤◌, Bool, true, false, ◌&&◌, List, get_or, take, drop, refl, sym, ◌∙◌, arith}
use Rattle.std.proofs.lemmas.List.{take-take, drop-take}
use Rattle.rules.specs.Text.{within, every}
use Rattle.table_layout.specs.Parts.{ends_at, rules_part, weights_part}
use Rattle.table_layout.proofs.LayoutLaws.{ends_at-is}
use Rattle.table_check.specs.Checks.{Headed, head_passes, ends_pass, all_chars, listing_in, items_pass, checks}
use Rattle.table_check.proofs.WalkLaws.{listing-take}

-- ## items_pass

-- behind the characters nothing counts
chars-front : (n : ℕ) (cs : List ℕ) → all_chars n (take (4 * n) cs) ≡ all_chars n cs
unfolding all_chars
chars-front zero cs = refl
chars-front (suc n) cs =
    let e : 4 * suc n ≡ 4 + 4 * n = omega arith in
    rw (e, take-take 4 (4 + 4 * n) cs (omega arith), drop-take 4 (4 * n) cs, chars-front n (drop 4 cs))

pub chars-part : (t : List ℕ) (chars n : ℕ) → all_chars n (take (chars + 4 * n - chars) (drop chars t)) ≡ all_chars n (drop chars t)
chars-part t chars n =
    let e : chars + 4 * n - chars ≡ 4 * n = omega arith in
    rw e (chars-front n (drop chars t))

module _ (t : List ℕ) (l n w : ℕ) {chars : ℕ} (at : chars ≡ ends_at l n) {a : Bool}
    (ends : a ≡ ends_pass w 0 (take (chars - 16) (drop 16 t))) where
  all-ends : a ≡ ends_pass w 0 (take (n * l) (drop 16 t))
  all-ends =
      let e : chars - 16 ≡ n * l = omega (arith, at, ends_at-is l n) in
      ends ∙ rw e

  module _ {v : Bool} (both : v ≡ (a && all_chars n (drop chars t))) where
    all-parts : items_pass t l n w ≡ (v && listing_in n (drop chars t) (take n (drop (chars + 4 * n) t)) (take n (drop (chars + 5 * n) t)))
    unfolding items_pass
    all-parts = rw (← all-ends, ← at, ← both)

    pub items-no : v ≡ false → v ≡ items_pass t l n w
    items-no e = e ∙ sym (all-parts ∙ rw e)

    pub items-listing : {c : Bool} → v ≡ true → 1 ≤ n
        → c ≡ listing_in n (drop chars t) (take n (drop (chars + 4 * n) t)) (drop (chars + 5 * n) t) → c ≡ items_pass t l n w
    items-listing e some listed =
        listed
        ∙ sym (listing-take n (drop chars t) (take n (drop (chars + 4 * n) t)) (drop (chars + 5 * n) t) some)
        ∙ sym (all-parts ∙ rw e)

-- ## parts_pass

module _ (t : List ℕ) (head : Headed t) {a : Bool} (items : a ≡ items_pass t (get_or t 0 0) (get_or t 1 0) (get_or t 2 0))
    {from : ℕ} (at : from ≡ weights_part (get_or t 0 0) (get_or t 1 0)) {v : Bool}
    (both : v ≡ (a && every (within 0 3) (take (from - (from - get_or t 0 0)) (drop (from - get_or t 0 0) t)))) where
  both-is : v ≡ (a && every (within 0 3) (take (get_or t 0 0) (drop (rules_part (get_or t 0 0) (get_or t 1 0)) t)))
  both-is =
      let e : from - get_or t 0 0 ≡ rules_part (get_or t 0 0) (get_or t 1 0) = omega arith in
      let n : from - rules_part (get_or t 0 0) (get_or t 1 0) ≡ get_or t 0 0 = omega arith in
      both ∙ rw (e, n)

  all-checks : checks t ≡ (v && every (within 1 32768) (take (get_or t 2 0) (drop from t)))
  unfolding checks
  all-checks = rw (head.passes, ← items, ← both-is, at)

  pub parts-no : v ≡ false → v ≡ checks t
  parts-no e = e ∙ sym (all-checks ∙ rw e)

  pub parts-weights : {d : Bool} → v ≡ true → d ≡ every (within 1 32768) (take (from + get_or t 2 0 - from) (drop from t)) → d ≡ checks t
  parts-weights e weights =
      let n : from + get_or t 2 0 - from ≡ get_or t 2 0 = omega arith in
      weights ∙ rw n (sym (all-checks ∙ rw e))

-- ## Two tests

pub both-then : {a v q : Bool} → a ≡ true → v ≡ q → v ≡ (a && q)
both-then e f = f ∙ rw e

pub both-else : {a v : Bool} (q : Bool) → a ≡ false → v ≡ a → v ≡ (a && q)
both-else q e f = f ∙ e ∙ rw e

-- where the header fails
pub head-no : (t : List ℕ) {r : Bool} → r ≡ head_passes t → r ≡ false → r ≡ checks t
unfolding checks
head-no t p e = e ∙ rw (← p, e)
