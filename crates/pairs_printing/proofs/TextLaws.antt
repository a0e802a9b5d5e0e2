-- A text, as put_text copies it.
use mathlib.Core.Path.{◌≡◌, refl, sym, ◌∙◌}
use mathlib.Core.List.{List, ◌++◌, append_assoc}
use Prim.Native.Nat.{ℕ, ◌+◌, ◌-◌, ◌≤◌}
use native.Mathlib.Omega.{arith}
use lib.ListN.{length, take, drop, length-drop}
use lib.Seq.{length-take-le, sets-eq, drop-drop}
use borrow.Rule.Slice.PartMut.{put_mid}
use Rattle.order_keys.specs.Writing.{Puts}

pub text-length : (room : List ℕ) (at : ℕ) (text : List ℕ) → at + length text ≤ length room → length (take (at + length text - at) (drop at room)) ≡ length text
text-length room at text h =
    let n : at + length text - at ≡ length text = omega arith in
    rw n (length-take-le (length text) (drop at room) (simp length-drop (omega arith)))

pub text-put : (room : List ℕ) (at : ℕ) (text : List ℕ) {front : List ℕ} → at + length text ≤ length room → front ≡ text
    → Puts room at text (put_mid at (at + length text - at) room front) (at + length text)
text-put room at text h e =
    let n : at + length text - at ≡ length text = omega arith in
    let behind : drop (length text) (drop at room) ≡ drop (at + length text) room = drop-drop (length text) at room in
    record { is = rw (e, n, behind) (sym (append_assoc (take at room) text (drop (at + length text) room)) ∙ sym (sets-eq text room at h)); to = refl }
