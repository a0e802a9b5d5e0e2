-- The characters in quotes, one after the other: the next one, and the turns of the loop.
use Rattle.std.specs.Prelude.{None, Option, Some, ℕ}
use mathlib.Core.Path.{◌≡◌, refl, sym, ap, ◌∙◌, subst}
use mathlib.Core.Bool.{true, false}
use mathlib.Core.List.{List, [], ◌∷◌, map}
use Prim.Native.Nat.{ℕ, ◌+◌, ◌*◌, ◌%◌, ◌≤◌, ◌<◌}
use native.Mathlib.Nat.{le_refl}
use native.Mathlib.Omega.{arith}
use lib.ListN.{length}
use Rattle.rules.specs.Text.{every, one_of}
use Rattle.rules.specs.Names.{char_shaped, code_of, is_char_name}
use Rattle.rules.specs.Lines.{quoted}
use Rattle.rules.proofs.TextLaws.{every-head, every-tail, one_of-head-false, one_of-tail-false}
use Rattle.base_lists.proofs.Bools.{and_left}
use Rattle.base_units.specs.declared.Refusal.{Refusal}
use Rattle.text_lines.specs.declared.Signs.{Signs}
use Rattle.text_lines.specs.declared.Spot.{Spot}
use Rattle.text_lines.specs.Stream.{marks_left}
use Rattle.text_lines.proofs.ByteLaws.{after-inner-close}
use Rattle.text_lines.proofs.LineLaws.{ends-source}
use Rattle.text_tokens.specs.Left.{is_close, is_inside, after_name, names_in, NameEnds, ClosingIs}
use Rattle.text_names.specs.Named.{name_left, hash_from, hash_of, NameAt, NamedIs}
use Rattle.base_units.specs.declared.CodePoint.{CodePoint}
use Rattle.work_subjects.specs.Keys.{quote_spot, char_of, chars_left, AfterName, CharNext, NextIs}

-- ## Quotes with characters only

-- where each name is that of a character, the characters are the names' codes
pub chars_of-names : (ns : List (List ℕ)) → every is_char_name ns ≡ true → map char_of ns ≡ map code_of ns
unfolding char_of is_char_name
chars_of-names [] h = refl
chars_of-names (n ∷ ns) h =
    let s = and_left (char_shaped n) _ (every-head is_char_name n ns h) in
    let r = chars_of-names ns (every-tail is_char_name n ns h) in
    rw (s, r)

-- ## After a name

-- nothing comes after a name that is left open
after-open-none : (ms : List ℕ) → one_of is_close ms ≡ false → after_name ms ≡ []
unfolding after_name
after-open-none [] h = refl
after-open-none (m ∷ ms) h =
    let s = one_of-head-false is_close m ms h in
    let r = after-open-none ms (one_of-tail-false is_close m ms h) in
    rw (s, r)

module _ (g : Signs) (src : List ℕ) (p : Spot) {c : Option (Option Refusal × Spot)} (w : ClosingIs g src p c) where
  pub after-closed : {f : Option Refusal} {q : Spot} → c ≡ Some (f, q) → AfterName g src p q
  after-closed {f} {q} e =
      let x : NameEnds g src p f q = subst (ClosingIs g src p) e w in
      record { names = ap names_in (sym x.after); mode = λ h. x.mode ∙ sym (after-inner-close h refl); to = x.to }

  pub after_open : c ≡ None → AfterName g src p (quote_spot (length src))
  after_open e =
      let x : one_of is_close (marks_left g src p) ≡ false = subst (ClosingIs g src p) e w in
      let none : marks_left g src (quote_spot (length src)) ≡ [] = (ends-source g src (quote_spot (length src)) (le_refl (length src)) (le_refl (length src))).none in
      record { names = ap names_in (none ∙ sym (after-open-none (marks_left g src p) x)); mode = λ h. refl; to = le_refl (length src) }

-- ## The next character

module _ (g : Signs) (src : List ℕ) (p : Spot) {n : Option Spot} (w : NamedIs g src p n) where
  pub next-none : n ≡ None → chars_left g src p ≡ []
  unfolding chars_left
  next-none e = let x : names_in (marks_left g src p) ≡ [] = subst (NamedIs g src p) e w in rw x

  module _ {q : Spot} (e : n ≡ Some q) where
    there : NameAt g src p q
    there = subst (NamedIs g src p) e w

    pub next-to : q.at ≤ length src
    next-to = there.to

    pub next-inside : p.mode ≡ quoted → is_inside q.mode ≡ true
    next-inside h = rw (there.mode h)

    pub next-char : {c : CodePoint} {r : Spot} → p.mode ≡ quoted → c.0 ≡ char_of (name_left g src q) → AfterName g src q r → CharNext g src p c.0 r
    unfolding chars_left
    next-char h f a = record { chars = rw (there.names, f, a.names); mode = a.mode (there.mode h); to = a.to }

-- ## The turns of the loop

module _ (g : Signs) (src : List ℕ) (q : Spot) {s : Option (CodePoint × Spot)} (w : NextIs g src q s) where
  pub step-char : {c : CodePoint} {r : Spot} → s ≡ Some (c, r) → CharNext g src q c.0 r
  step-char e = subst (NextIs g src q) e w

  pub step_end : s ≡ None → chars_left g src q ≡ []
  step_end e = subst (NextIs g src q) e w

  pub step_less : {c : CodePoint} {r : Spot} → s ≡ Some (c, r) → length (chars_left g src r) < length (chars_left g src q)
  step_less e = let x = step-char e in rw x.chars (omega arith)

-- The characters before q make h.
pub record Summing (g : Signs) (src : List ℕ) (p q : Spot) (h : ℕ) : Type 0 where
  pub rest : hash_from h (chars_left g src q) ≡ hash_of (chars_left g src p)
  pub small : h < 16777216
  pub mode : q.mode ≡ quoted
  pub to : q.at ≤ length src

module _ {g : Signs} {src : List ℕ} {p q : Spot} {h : ℕ} {s : Option (CodePoint × Spot)} (v : Summing g src p q h) (w : NextIs g src q s) where
  pub summing-end : s ≡ None → h ≡ hash_of (chars_left g src p)
  unfolding hash_from
  summing-end e = rw (step_end g src q w e) at v.rest

  pub summing-more : {c : CodePoint} {x : ℕ} {r : Spot} → s ≡ Some (c, r) → x ≡ c.0 → Summing g src p r ((h * 10368889 + x) % 16777216)
  unfolding hash_from
  summing-more {c} {x} {r} e f =
      let y : CharNext g src q c.0 r = step-char g src q w e in
      record { rest = rw f (rw y.chars at v.rest); small = omega arith; mode = y.mode; to = y.to }
