-- The line of a pair: what decoding and comparing answer is what the paper prints.
use Rattle.std.specs.Prelude.{Err, Ok, Result, ℕ}
use mathlib.Core.Path.{◌≡◌, refl, sym, ap, ◌∙◌}
use mathlib.Core.Bool.{true, not}
use mathlib.Core.List.{List, ◌++◌, map}
use Prim.Native.Nat.{ℕ, ◌+◌, ◌≤◌}
use native.Mathlib.Omega.{arith}
use lib.ListN.{length, take, drop, length-append}
use lib.Seq.{length-take-le, take-append_seam}
use lib.Dec.{ltb}
use borrow.Author.Tests.{le-leb}
use Rattle.base_lists.proofs.Bools.{and_intro, cond_both}
use Rattle.rules.specs.Text.{every, Result as Judged, granted, refused}
use Rattle.rules.specs.Names.{is_character}
use Rattle.rules.specs.Meaning.{Meaning}
use Rattle.rules.specs.Table.{accepted, meaning_in}
use Rattle.rules.specs.Order.{good_string, compare_of}
use Rattle.rules.specs.Calls.{Compared, Written, written_as, decode_call, compare_call}
use Rattle.rules.specs.Coding.{area_accepted, code_at, decode_of}
use Rattle.rules.specs.Pairs.{compared_line, refused_line, pair_line, text_of}
use Rattle.rules.proofs.CodingLaws.{decoded-parts}
use Rattle.base_units.specs.Numbers.{number_of}
use Rattle.base_units.specs.declared.Refusal.{Refusal}
use Rattle.base_units.proofs.NumberLaws.{number_of-some}
use Rattle.charmap_coding.specs.Answers.{written_is}
use Rattle.order_compare.specs.Answers.{answer_as, compared_as}
use Rattle.order_compare.specs.declared.Answer.{Answer}
use Rattle.pairs_printing.specs.Printed.{Prints}
use Rattle.pairs_report.specs.Texts.{text_as, size_as, TextIs}

-- n numbers of a list are n
pub part_length : (n : ℕ) (xs : List ℕ) → n ≤ length xs → n ≡ length (take n xs)
part_length n xs h = sym (length-take-le n xs h)

-- ## Comparing

module _ (t a b : List ℕ) (s : Result Answer Refusal) where
  good-call : accepted t ≡ true → good_string a ≡ true → good_string b ≡ true → compared_as s ≡ compare_call t a b
      → compared_as s ≡ record { refusal = 0; answer = compare_of (meaning_in t) a b }
  unfolding compare_call
  good-call ok f g v = v ∙ rw (ok, f, g)

  module _ {room after : List ℕ} {at next : ℕ} (n : ℕ) where
    pub decided-prints : {x : Answer} → s ≡ Ok x → compared_as s ≡ compare_call t a b → accepted t ≡ true → good_string a ≡ true
        → good_string b ≡ true → Prints 80 room at (compared_line n (answer_as x)) after next
        → Prints 80 room at (compared_line n (compare_of (meaning_in t) a b)) after next
    decided-prints {x} e v ok f g p =
        let same : answer_as x ≡ compare_of (meaning_in t) a b = ap (λ (c : Compared). c.answer) (ap compared_as (sym e) ∙ good-call ok f g v) in
        rw (sym same) p

    pub refused-never : {r : Refusal} → s ≡ Err r → compared_as s ≡ compare_call t a b → accepted t ≡ true → good_string a ≡ true
        → good_string b ≡ true → Prints 80 room at (compared_line n (compare_of (meaning_in t) a b)) after next
    refused-never {r} e v ok f g =
        absurd (number_of-some r (ap (λ (c : Compared). c.refusal) (ap compared_as (sym e) ∙ good-call ok f g v)))

-- ## Decoding

-- a refusal's number, 1 for none
number_in : Judged (List ℕ) → ℕ
number_in (granted text) = 1
number_in (refused n l) = n

-- a refusal's line, 0 for none
line_in : Judged (List ℕ) → ℕ
line_in (granted text) = 0
line_in (refused n l) = l

-- no refusal has the number 0, and none a line
record Lineless (q : Judged (List ℕ)) : Type 0 where
  pub numbered : 1 ≤ number_in q
  pub nowhere : line_in q ≡ 0

lineless : (area bs : List ℕ) (room : ℕ) → Lineless (decode_of area bs room)
unfolding decode_of number_in line_in
lineless area bs room =
    cond_both Lineless (not (area_accepted area)) (record { numbered = omega arith; nowhere = refl })
    (cond_both Lineless (ltb 4096 (length bs)) (record { numbered = omega arith; nowhere = refl })
    (cond_both Lineless (not (every is_character (map (code_at area) bs))) (record { numbered = omega arith; nowhere = refl })
    (cond_both Lineless (ltb room (length (map (code_at area) bs))) (record { numbered = omega arith; nowhere = refl })
    (record { numbered = omega arith; nowhere = refl }))))

record Told (q : Judged (List ℕ)) (s : Result ℕ Refusal) (after : List ℕ) : Type 0 where
  pub is : text_as s after ≡ q
  pub inside : size_as s ≤ length after

told-by : (q : Judged (List ℕ)) (s : Result ℕ Refusal) (room after : List ℕ) → Lineless q → written_is s after ≡ written_as q room → Told q s after
unfolding written_as number_in line_in
told-by (granted text) (Ok k) room after h e =
    let size : k ≡ length text = ap (λ (w : Written). w.size) e in
    let whole : after ≡ text ++ drop (length text) room = ap (λ (w : Written). w.room) e in
    record {
      is = ap granted (rw (size, whole) (take-append_seam text (drop (length text) room)));
      inside = omega (arith, size, ap length whole ∙ length-append text (drop (length text) room));
    }
told-by (granted text) (Err r) room after h e = absurd (number_of-some r (ap (λ (w : Written). w.refusal) e))
told-by (refused n l) (Ok k) room after h e = absurd (omega (arith, h.numbered, ap (λ (w : Written). w.refusal) e))
told-by (refused n l) (Err r) room after h e = record {
  is = ap (λ (x : ℕ). refused x 0) (ap (λ (w : Written). w.refusal) e) ∙ ap (λ (x : ℕ). refused n x) (sym h.nowhere);
  inside = omega arith;
}

pub decoded : (area bs room after : List ℕ) (s : Result ℕ Refusal) → length room ≡ 4096 → written_is s after ≡ decode_call area bs room → TextIs area bs after s
unfolding decode_call
decoded area bs room after s long v =
    let d = told-by (text_of area bs) s room after (lineless area bs 4096) (v ∙ ap (λ (n : ℕ). written_as (decode_of area bs n) room) long) in
    record { is = d.is; inside = d.inside }

-- a text that is granted is a good string
text-good : (area bs text : List ℕ) → text_of area bs ≡ granted text → good_string text ≡ true
unfolding good_string
text-good area bs text e =
    let d = decoded-parts area bs 4096 text e in
    and_intro (le-leb (length text) 4096 d.fits) d.characters

module _ {area bs after : List ℕ} {s : Result ℕ Refusal} (v : TextIs area bs after s) where
  module _ {k : ℕ} (e : s ≡ Ok k) where
    granted-text : text_of area bs ≡ granted (take k after)
    granted-text = sym v.is ∙ ap (λ (x : Result ℕ Refusal). text_as x after) e

    pub text-inside : k ≤ length after
    text-inside = rw e at v.inside

    pub text-length : k ≡ length (take k after)
    text-length = part_length k after text-inside

    pub text-string : good_string (take k after) ≡ true
    text-string = text-good area bs (take k after) granted-text

    module _ {out out' : List ℕ} {at next : ℕ} (m : Meaning) (n : ℕ) where
      pub second-granted : (x : List ℕ) → Prints 80 out at (compared_line n (compare_of m x (take k after))) out' next
          → Prints 80 out at (pair_line m n (granted x) (text_of area bs)) out' next
      unfolding pair_line
      second-granted x p = rw granted-text p

      pub first-granted : (y : Judged (List ℕ)) → Prints 80 out at (pair_line m n (granted (take k after)) y) out' next
          → Prints 80 out at (pair_line m n (text_of area bs) y) out' next
      first-granted y p = rw granted-text p

  module _ {r : Refusal} (e : s ≡ Err r) where
    refused-text : text_of area bs ≡ refused (number_of r) 0
    refused-text = sym v.is ∙ ap (λ (x : Result ℕ Refusal). text_as x after) e

    module _ {out out' : List ℕ} {at next : ℕ} {k : ℕ} (i : k ≡ number_of r) (m : Meaning) (n : ℕ) where
      pub second-refused : (x : List ℕ) → Prints 80 out at (refused_line n k) out' next → Prints 80 out at (pair_line m n (granted x) (text_of area bs)) out' next
      unfolding pair_line
      second-refused x p = rw (refused-text, sym i) p

      pub first-refused : (y : Judged (List ℕ)) → Prints 80 out at (refused_line n k) out' next → Prints 80 out at (pair_line m n (text_of area bs) y) out' next
      unfolding pair_line
      first-refused y p = rw (refused-text, sym i) p
