-- Laws of where an order line comes to stand (specs/OrderLines): a line taken out, a line put after another.
use mathlib.Core.Path.{◌≡◌, refl, ap}
use mathlib.Core.Bool.{false}
use mathlib.Core.List.{List, [], ◌∷◌}
use Prim.Native.Nat.{suc, ◌≤◌}
use native.Mathlib.Omega.{arith}
use lib.ListN.{length}
use Rattle.base_lists.proofs.Bools.{by, or-false-intro}
use Rattle.rules.specs.Text.{one_of}
use Rattle.rules.specs.State.{Subject, OrderLine}
use Rattle.rules.specs.OrderLines.{same_subject, taken_out, put_after}
use Rattle.rules.proofs.TextLaws.{one_of-head-false, one_of-tail-false}
use Rattle.rules.proofs.RankLaws.{is_line_of}

-- ## Taken out

-- no line of that subject is left
pub taken_out-none : (x : Subject) (ls : List OrderLine) → one_of (is_line_of x) (taken_out x ls) ≡ false
unfolding taken_out one_of is_line_of
taken_out-none x [] = refl
taken_out-none x (l ∷ ls) =
    by (same_subject x l.subject) (λ t. rw t (taken_out-none x ls)) (λ t. rw t (or-false-intro t (taken_out-none x ls)))

-- and of no other where there was none
pub taken_out-without : (x y : Subject) (ls : List OrderLine) → one_of (is_line_of y) ls ≡ false → one_of (is_line_of y) (taken_out x ls) ≡ false
unfolding taken_out one_of
taken_out-without x y [] h = refl
taken_out-without x y (l ∷ ls) h =
    let r = taken_out-without x y ls (one_of-tail-false (is_line_of y) l ls h) in
    by (same_subject x l.subject) (λ t. rw t r) (λ t. rw t (or-false-intro (one_of-head-false (is_line_of y) l ls h) r))

-- where there was no line of that subject, all stay
pub taken_out-same : (x : Subject) (ls : List OrderLine) → one_of (is_line_of x) ls ≡ false → taken_out x ls ≡ ls
unfolding taken_out is_line_of
taken_out-same x [] h = refl
taken_out-same x (l ∷ ls) h = rw (one_of-head-false (is_line_of x) l ls h) (ap (λ (r : List OrderLine). l ∷ r) (taken_out-same x ls (one_of-tail-false (is_line_of x) l ls h)))

-- ## Put after another

-- there is one line more, where the other stands
pub put_after-length : (x : Subject) (l : OrderLine) (ls : List OrderLine) → length (put_after x l ls) ≤ suc (length ls)
unfolding put_after
put_after-length x l [] = omega arith
put_after-length x l (m ∷ ls) =
    by (same_subject x m.subject) (λ t. rw t (omega arith)) (λ t. rw t (omega (arith, put_after-length x l ls)))

-- a subject that is not the new line's has none where it had none
pub put_after-without : (x y : Subject) (l : OrderLine) (ls : List OrderLine) → is_line_of y l ≡ false → one_of (is_line_of y) ls ≡ false
    → one_of (is_line_of y) (put_after x l ls) ≡ false
unfolding put_after one_of
put_after-without x y l [] n h = refl
put_after-without x y l (m ∷ ls) n h =
    let a = one_of-head-false (is_line_of y) m ls h in
    let b = one_of-tail-false (is_line_of y) m ls h in
    by (same_subject x m.subject)
    (λ t. rw t (or-false-intro a (or-false-intro n b)))
    (λ t. rw t (or-false-intro a (put_after-without x y l ls n b)))
