-- Laws of subjects and ranks (specs/OrderLines): the rank of a subject is the place of its line, and 0 where it has none.
use Rattle.std.specs.Prelude.{if◌then◌else◌}
use mathlib.Core.Path.{◌≡◌, refl, ap}
use mathlib.Core.Bool.{Bool, true, false, not, false≢true}
use mathlib.Core.List.{List, [], ◌∷◌, ◌++◌}
use Prim.Native.Nat.{ℕ, suc, ◌+◌, ◌≤◌, ◌<◌}
use native.Mathlib.Omega.{arith}
use lib.ListN.{length}
use lib.Dec.{eqb}
use borrow.Author.Tests.{eq-eqb, eqb-true, ne_eqb}
use Rattle.base_lists.proofs.Bools.{by, clash}
use Rattle.rules.specs.Text.{one_of}
use Rattle.rules.specs.State.{Subject, character, named, undefined, OrderLine}
use Rattle.rules.specs.OrderLines.{same_subject, rank_from}
use Rattle.rules.proofs.TextLaws.{same_true, same_refl}

-- ## same_subject

pub same_subject-true : (x y : Subject) → same_subject x y ≡ true → x ≡ y
unfolding same_subject
same_subject-true (character c) (character d) h = ap character (eqb-true c d h)
same_subject-true (character c) (named n) h = absurd (false≢true h)
same_subject-true (character c) undefined h = absurd (false≢true h)
same_subject-true (named m) (character d) h = absurd (false≢true h)
same_subject-true (named m) (named n) h = ap named (same_true m n h)
same_subject-true (named m) undefined h = absurd (false≢true h)
same_subject-true undefined (character d) h = absurd (false≢true h)
same_subject-true undefined (named n) h = absurd (false≢true h)
same_subject-true undefined undefined h = refl

pub same_subject-refl : (x : Subject) → same_subject x x ≡ true
unfolding same_subject
same_subject-refl (character c) = eq-eqb c c refl
same_subject-refl (named n) = same_refl n
same_subject-refl undefined = refl

pub same_subject-swap-false : (x y : Subject) → same_subject x y ≡ false → same_subject y x ≡ false
same_subject-swap-false x y h =
    by (same_subject y x) (λ t. clash (rw (same_subject-true y x t) (same_subject-refl x)) h) (λ t. t)

-- ## rank_from

-- the line's subject is x
unfoldable pub is_line_of : Subject → OrderLine → Bool
is_line_of x l = same_subject x l.subject

-- a rank is 0 exactly where no line is the subject's
pub rank_from-zero : (k : ℕ) (x : Subject) (ls : List OrderLine) → 1 ≤ k → eqb (rank_from k x ls) 0 ≡ not (one_of (is_line_of x) ls)
unfolding rank_from one_of is_line_of
rank_from-zero k x [] h = refl
rank_from-zero k x (l ∷ ls) h =
    by (same_subject x l.subject) (λ t. rw t (ne_eqb k 0 (omega arith))) (λ t. rw t (rank_from-zero (suc k) x ls (omega arith)))

-- the rank in ls ++ ms: that in ls, and where ls has none, that in ms counted on
pub rank_from-append : (k : ℕ) (x : Subject) (ls ms : List OrderLine) → 1 ≤ k
    → rank_from k x (ls ++ ms) ≡ (if eqb (rank_from k x ls) 0 then rank_from (k + length ls) x ms else rank_from k x ls)
unfolding rank_from
rank_from-append k x [] ms h = ap (λ (n : ℕ). rank_from n x ms) (omega arith)
rank_from-append k x (l ∷ ls) ms h =
    by (same_subject x l.subject) (λ t. rw (t, ne_eqb k 0 (omega arith))) (λ t.
    let e : k + suc (length ls) ≡ suc k + length ls = omega arith in
    rw (t, e) (rank_from-append (suc k) x ls ms (omega arith)))

pub rank_from-bound : (k : ℕ) (x : Subject) (ls : List OrderLine) → 1 ≤ k → rank_from k x ls < k + length ls
unfolding rank_from
rank_from-bound k x [] h = omega arith
rank_from-bound k x (l ∷ ls) h =
    by (same_subject x l.subject) (λ t. rw t (omega arith)) (λ t. rw t (omega (arith, rank_from-bound (suc k) x ls (omega arith))))

pub rank_from-low : (k : ℕ) (x : Subject) (ls : List OrderLine) → 1 ≤ rank_from k x ls → k ≤ rank_from k x ls
unfolding rank_from
rank_from-low k x [] h = absurd (omega arith)
rank_from-low k x (l ∷ ls) h =
    by (same_subject x l.subject) (λ t. rw t (omega arith)) (λ t. rw t (omega (arith, rank_from-low (suc k) x ls (rw t at h))))
