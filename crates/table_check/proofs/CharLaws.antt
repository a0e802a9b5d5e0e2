-- Characters, then padding: one number, four numbers, and the loop of chars_pass.
use Rattle.std.proofs.Common.{◌≡◌, ℕ, suc, ◌+◌, ◌-◌, ◌*◌, ◌/◌, ◌<◌, ◌≤◌, Bool, true, false, not, ◌&&◌, ◌||◌, eqb, leb, List, [], ◌∷◌, length, get_or, take, drop, sym, ap, ◌∙◌, arith, drop-cons, drop-drop, length-drop, length-append, ◌++◌, drop_of_length-le, add-one, refl, eq-eqb, ne_eqb, eqb-true, le-leb, leb-false, leb-true}
use mathlib.Core.Bool.{and-true, and-false, and_assoc, or-true, or-false}
use lib.Seq.{take_all, take_at, drop_at}
use borrow.Author.Tests.{lt-leb, eqb-false}
use Rattle.base_lists.proofs.Bools.{by, and_left, and_right}
use Rattle.rules.specs.Text.{within, every}
use Rattle.rules.specs.Names.{is_character}
use Rattle.rules.specs.Table.{pad}
use Rattle.table_check.specs.Checks.{all_pad, chars_pass, all_chars}

-- ## characters_pass

-- the first i are characters
pub record Characters (xs : List ℕ) (i : ℕ) : Type 0 where
  pub same : chars_pass xs ≡ chars_pass (drop i xs)

pub characters-none : (xs : List ℕ) → Characters xs 0
characters-none xs = record { same = refl }

module _ {xs : List ℕ} {i : ℕ} (v : Characters xs i) where
  module _ (h : i < length xs) where
    pub characters-pad : get_or xs i 0 ≡ 0x110000 → {r : Bool} → r ≡ every (within 0x110000 0x110000) (take (length xs - i) (drop i xs)) → r ≡ chars_pass xs
    unfolding every chars_pass all_pad
    characters-pad e p =
        let n : length (drop i xs) ≤ length xs - i = simp length-drop (omega arith) in
        p ∙ rw (take_all (length xs - i) (drop i xs) n) (sym (v.same ∙ rw (drop-cons xs i 0 h, e)))

    module _ {r : Bool} (n : get_or xs i 0 ≡ 0x110000 → ⊥) (p : r ≡ is_character (get_or xs i 0)) where
      pub characters-more : r ≡ true → Characters xs (i + 1)
      unfolding chars_pass
      characters-more e = record { same = v.same ∙ rw (add-one, drop-cons xs i 0 h, ne_eqb (get_or xs i 0) pad n, ← p, e) }

      pub characters-no : r ≡ false → false ≡ chars_pass xs
      unfolding chars_pass
      characters-no e = sym (v.same ∙ rw (drop-cons xs i 0 h, ne_eqb (get_or xs i 0) pad n, ← p, e))

  pub characters-all : length xs ≤ i → true ≡ chars_pass xs
  unfolding chars_pass
  characters-all h = sym (v.same ∙ rw (drop_of_length-le xs h))

-- ## item_passes

pub item-alone : (xs : List ℕ) → length xs ≡ 4 → get_or xs 1 0 ≡ 0x110000 → get_or xs 2 0 ≡ 0x110000 → get_or xs 3 0 ≡ 0x110000
    → {r : Bool} → r ≡ (is_character (get_or xs 0 0) || eqb (get_or xs 0 0) pad) → r ≡ chars_pass xs
unfolding chars_pass all_pad every
item-alone [] h b c d e = absurd (omega arith)
item-alone (x ∷ []) h b c d e = absurd (omega arith)
item-alone (x ∷ y ∷ []) h b c d e = absurd (omega arith)
item-alone (x ∷ y ∷ z ∷ []) h b c d e = absurd (omega arith)
item-alone (x ∷ y ∷ z ∷ w ∷ []) h b c d e =
    e
    ∙ rw (b, c, d)
    (by (eqb x pad)
    (λ t. rw (t, or-true (is_character x)))
    (λ t. rw t (or-false (is_character x) ∙ sym (and-true (is_character x)))))
item-alone (x ∷ y ∷ z ∷ w ∷ (v ∷ vs)) h b c d e = absurd (omega arith)

-- ## chars_pass

-- so far all is good exactly if the items before the rest passed; the rest is whole items
pub record Chars (items : ℕ) (xs rest : List ℕ) (size : ℕ) (good : Bool) : Type 0 where
  pub four : size ≡ 4
  pub whole : 4 * (length rest / 4) ≡ length rest
  pub same : all_chars items xs ≡ (good && all_chars (length rest / 4) rest)

pub chars-none : (items : ℕ) (xs : List ℕ) → length xs ≡ 4 * items → Chars items xs xs 4 true
chars-none items xs h =
    let e : length xs / 4 ≡ items = omega arith in
    record { four = refl; whole = omega arith; same = rw e }

module _ {items : ℕ} {xs rest : List ℕ} {size : ℕ} {good : Bool} (v : Chars items xs rest size good) where
  pub chars-more : (four next : List ℕ) → rest ≡ four ++ next → length four ≡ size → {g : Bool} → g ≡ chars_pass four → {s : ℕ} → s ≡ size → Chars items xs next s (good && g)
  unfolding all_chars
  chars-more four next split long {g} e same-size =
      let l : length rest ≡ 4 + length next = ap length split ∙ length-append four next ∙ omega (arith, v.four) in
      let n : length rest / 4 ≡ suc (length next / 4) = omega arith in
      let f : length four ≡ 4 = long ∙ v.four in
      record {
        four = same-size ∙ v.four;
        whole = omega (arith, v.whole);
        same =
            v.same
            ∙ rw (n, split, take_at four next 4 f, drop_at four next 4 f, e)
            (sym (and_assoc good (chars_pass four) (all_chars (length next / 4) next)));
      }

  pub chars-all : length rest < size → good ≡ all_chars items xs
  unfolding all_chars
  chars-all h =
      let n : length rest / 4 ≡ 0 = omega (arith, v.four) in
      sym (v.same ∙ rw n (and-true good))
