-- The numbers of keys: of a character, of a name by its reader, of the characters of quotes one after the other.
use Rattle.std.specs.Prelude.{None, Option, Some, is_some}
use mathlib.Core.Path.{◌≡◌, refl, sym, ap, ◌∙◌, subst}
use mathlib.Core.Bool.{Bool, true, false, ◌&&◌}
use mathlib.Core.List.{List, [], ◌∷◌, map}
use Prim.Native.Nat.{ℕ, suc, ◌+◌, ◌*◌, ◌/◌, ◌%◌, ◌≤◌, ◌<◌}
use native.Mathlib.Numerals.{add-one}
use native.Mathlib.Omega.{arith}
use lib.ListN.{length, set, replicate, length-set, length-replicate}
use lib.Dec.{leb, ltb}
use borrow.Author.Tests.{le-leb, lt-leb, le-ltb, lt-ltb, leb-true}
use Rattle.base_lists.proofs.Bools.{and_left, and_right, and_intro, clash}
use Rattle.rules.specs.Text.{every}
use Rattle.rules.specs.Names.{name_refusal, char_shaped, code_of, is_character, is_char_name}
use Rattle.rules.proofs.TextLaws.{every-head, every-tail}
use Rattle.rules.specs.State.{Subject, character, named}
use Rattle.rules.specs.OrderLines.{subject_of}
use Rattle.rules.specs.Lines.{quoted}
use Rattle.text_lines.specs.declared.Signs.{Signs}
use Rattle.text_lines.specs.declared.Spot.{Spot}
use Rattle.base_units.specs.declared.CodePoint.{CodePoint}
use Rattle.text_names.specs.declared.Pack.{Pack}
use Rattle.text_names.specs.Named.{CodeIs}
use Rattle.text_names.specs.Packed.{PackedIs}
use Rattle.text_names.proofs.PackLaws.{plain-name}
use Rattle.work_subjects.specs.declared.Told.{Told}
use Rattle.work_subjects.specs.declared.Kind.TheVariants as kind
use Rattle.work_subjects.specs.Keys.{name_spot, quote_spot, subject_left, chars_left, Key, item, chars, key_at, hash_subject, hash_key, CharNext, NextIs}
use Rattle.work_subjects.specs.Numbers.{kind_number, kind_of, squeezed, is_code, is_declarable, with_codes, numbers_of, NumbersAre, CodesGood, CodesBad, CodesAre, CodePut}
use Rattle.work_subjects.proofs.SubjectLaws.{subject-char, subject-name}
use Rattle.work_subjects.proofs.KeyLaws.{key_at-name, key_at-quotes}
use Rattle.work_subjects.proofs.CharsLaws.{Summing, summing-more, summing-end, step-char, step_end}
use Rattle.work_subjects.proofs.SqueezeLaws.{squeezed-long}

-- ## A name

pub eight-long : {key : List ℕ} → key ≡ replicate 8 0 → length key ≡ 8
eight-long z = ap length z ∙ length-replicate {A = ℕ} 8 0

-- a code that is a character's
pub numbers-code : {x : CodePoint} (key : List ℕ) → key ≡ replicate 8 0 → ltb x.0 1114112 ≡ true
    → NumbersAre (item (character x.0)) (set key 0 (2 * x.0 + 2)) (record { hash = x.0 % 16777216; kind = kind.Character; plain = ltb x.0 1114112 })
unfolding hash_key hash_subject kind_of is_declarable numbers_of
numbers-code {x} key z l = record {
  plain = refl;
  kind = refl;
  hash = refl;
  long = length-set key 0 (2 * x.0 + 2) ∙ eight-long z;
  numbers = λ d. ap (λ (y : List ℕ). set y 0 (2 * x.0 + 2)) z;
}

-- one that is none
pub numbers-strange : {x : CodePoint} (key : List ℕ) → key ≡ replicate 8 0 → ltb x.0 1114112 ≡ false
    → NumbersAre (item (character x.0)) key (record { hash = x.0 % 16777216; kind = kind.Character; plain = ltb x.0 1114112 })
unfolding hash_key hash_subject kind_of is_declarable
numbers-strange {x} key z n = record { plain = refl; kind = refl; hash = refl; long = eight-long z; numbers = λ d. clash d n }

module _ (n : List ℕ) {c : Option CodePoint} (w : CodeIs n c) where
  pub numbers-char : {x : CodePoint} {r : Told} {key : List ℕ} → c ≡ Some x → NumbersAre (item (character x.0)) key r → NumbersAre (item (subject_of n)) key r
  numbers-char {r = r} {key = key} e h = subst (λ (y : Subject). NumbersAre (item y) key r) (sym (subject-char n w e)) h

  pub numbers-name : {k : Pack} {r : Told} {key after : List ℕ} → c ≡ None → PackedIs n key k → after ≡ squeezed key
      → r ≡ record { hash = k.hash; kind = kind.Name; plain = k.plain } → NumbersAre (item (subject_of n)) after r
  unfolding hash_key hash_subject kind_of is_declarable numbers_of
  numbers-name {k} {r} {key} {after} e p z f = subst (λ (y : Subject). NumbersAre (item y) after r) (sym (subject-name n w e)) (record {
    plain = ap (λ (y : Told). y.plain) f ∙ p.plain;
    kind = ap (λ (y : Told). kind_number y.kind) f;
    hash = ap (λ (y : Told). y.hash) f ∙ p.hash;
    long = ap length z ∙ squeezed-long key;
    numbers = λ h. z ∙ ap squeezed (p.numbers h);
  })

-- ## The characters of quotes

-- more than four
too_many : (x : ℕ) (t : Bool) → 4 < x → (leb x 4 && t) ≡ false
too_many x t h = rw (lt-leb x 4 h)

module _ {key : List ℕ} {n : ℕ} {c : ℕ} where
  good-put : n < 4 → c < 1114112 → (all cs : List ℕ) → CodesGood all key n (c ∷ cs) → CodesGood all (set key n (c + 1)) (n + 1) cs
  unfolding with_codes every
  good-put h i all cs a = record {
    long = length-set key n (c + 1) ∙ a.long;
    few = omega (arith, h);
    plain = a.plain ∙ rw (lt-ltb c 1114112 i) (ap (λ (x : ℕ). leb x 4 && every is_code cs) (shift n (length cs)));
    numbers = rw (add-one n) a.numbers;
  }
    where
      shift : (a b : ℕ) → a + suc b ≡ a + 1 + b
      shift a b = omega arith

  many-put : 4 ≤ n → (all cs : List ℕ) → CodesGood all key n (c ∷ cs) → CodesBad all key
  many-put h all cs a = record { long = a.long; plain = a.plain ∙ too_many (n + suc (length cs)) (every is_code (c ∷ cs)) (omega (arith, h)) }

  strange-put : 1114112 ≤ c → (all cs : List ℕ) → CodesGood all key n (c ∷ cs) → CodesBad all key
  unfolding every
  strange-put h all cs a = record { long = a.long; plain = a.plain ∙ and_none (leb (n + suc (length cs)) 4) (every is_code (c ∷ cs)) (strange cs) }
    where
      strange : (cs : List ℕ) → every is_code (c ∷ cs) ≡ false
      strange cs = rw (le-ltb c 1114112 h)

      and_none : (t u : Bool) → u ≡ false → (t && u) ≡ false
      and_none true u e = e
      and_none false u e = refl

module _ {key : List ℕ} {o : Option ℕ} {c : ℕ} where
  -- what is bad stays so
  pub code-bad : ((n : ℕ) → o ≡ Some n → ⊥) → CodePut key o c key None
  code-bad h = bad o h
    where
      bad : (p : Option ℕ) → ((n : ℕ) → p ≡ Some n → ⊥) → CodePut key p c key None
      bad None h = record { is = λ all cs a. record { long = a.long; plain = a.plain }; long = refl }
      bad (Some n) h = absurd (h n refl)

  module _ {n : ℕ} (e : o ≡ Some n) where
    pub code_put : n < 4 → c < 1114112 → CodePut key o c (set key n (c + 1)) (Some (n + 1))
    code_put h i = rw e (record { is = good-put h i; long = length-set key n (c + 1) })

    pub code-many : 4 ≤ n → CodePut key o c key None
    code-many h = rw e (record { is = many-put h; long = refl })

    pub code-strange : 1114112 ≤ c → CodePut key o c key None
    code-strange h = rw e (record { is = strange-put h; long = refl })

-- The characters before q make h and these numbers.
pub record Numbering (g : Signs) (src : List ℕ) (p q : Spot) (key : List ℕ) (n : Option ℕ) (h : ℕ) : Type 0 where
  pub summing : Summing g src p q h
  pub codes : CodesAre (chars_left g src p) key n (chars_left g src q)

pub numbering-none : (g : Signs) (src : List ℕ) (p : Spot) (key : List ℕ) → key ≡ replicate 8 0 → p.at ≤ length src → p.mode ≡ quoted → Numbering g src p p key (Some 0) 0
unfolding is_declarable numbers_of
numbering-none g src p key z h m = record {
  summing = record { rest = refl; small = omega arith; mode = m; to = h };
  codes = record {
    long = eight-long z;
    few = omega arith;
    plain = ap (λ (x : ℕ). leb x 4 && every is_code (chars_left g src p)) (nothing (length (chars_left g src p)));
    numbers = ap (λ (x : List ℕ). with_codes x 0 (chars_left g src p)) z;
  };
}
  where
    nothing : (a : ℕ) → a ≡ 0 + a
    nothing a = omega arith

-- at the end: whether they can be declared, and their numbers
codes-end : (all key : List ℕ) (n : Option ℕ) → CodesAre all key n [] → (is_declarable (chars all) ≡ is_some n) × (length key ≡ 8) × (is_declarable (chars all) ≡ true → key ≡ numbers_of (chars all))
unfolding with_codes every
codes-end all key (Some n) d = (d.plain ∙ last n (le-leb n 4 d.few), d.long, λ i. d.numbers)
  where
    last : (a : ℕ) → leb a 4 ≡ true → (leb (a + 0) 4 && true) ≡ true
    last a f = rw (plus a, f)
      where
        plus : (a : ℕ) → a + 0 ≡ a
        plus a = omega arith
codes-end all key None d = (d.plain, d.long, λ i. clash i d.plain)

module _ {g : Signs} {src : List ℕ} {p q : Spot} {key : List ℕ} {n : Option ℕ} {h : ℕ} {s : Option (CodePoint × Spot)} (v : Numbering g src p q key n h) (w : NextIs g src q s) where
  pub numbering-more : {c : CodePoint} {x : ℕ} {m : Option ℕ} {r : Spot} {after : List ℕ} → s ≡ Some (c, r) → x ≡ c.0 → CodePut key n c.0 after m
      → Numbering g src p r after m ((h * 10368889 + x) % 16777216)
  numbering-more {c} {x} {m} {r} {after} e f u =
      let y : CharNext g src q c.0 r = step-char g src q w e in
      record {
        summing = summing-more v.summing w e f;
        codes = u.is (chars_left g src p) (chars_left g src r) (subst (CodesAre (chars_left g src p) key n) y.chars v.codes);
      }

  pub numbering-end : {r : Told} {good : Bool} → s ≡ None → good ≡ is_some n → r ≡ record { hash = h; kind = kind.Chars; plain = good } → NumbersAre (chars (chars_left g src p)) key r
  unfolding hash_key kind_of
  numbering-end {r} e i f =
      let d = codes-end (chars_left g src p) key n (subst (CodesAre (chars_left g src p) key n) (step_end g src q w e) v.codes) in
      record {
        plain = ap (λ (y : Told). y.plain) f ∙ i ∙ sym d.0;
        kind = ap (λ (y : Told). kind_number y.kind) f;
        hash = ap (λ (y : Told). y.hash) f ∙ summing-end v.summing w e;
        long = d.1;
        numbers = d.2;
      }

-- ## What stands at a mark

module _ (g : Signs) (src : List ℕ) (v : ℕ) {p : Spot} {key : List ℕ} {r : Told} where
  pub numbers-item : v % 2 ≡ 0 → p ≡ name_spot (v / 2) → NumbersAre (item (subject_left g src p)) key r → NumbersAre (key_at g src v) key r
  numbers-item e f h = subst (λ (k : Key). NumbersAre k key r) (ap (λ (x : Spot). item (subject_left g src x)) f ∙ sym (key_at-name g src v e)) h

  pub numbers-quotes : (v % 2 ≡ 0 → ⊥) → p ≡ quote_spot (v / 2) → NumbersAre (chars (chars_left g src p)) key r → NumbersAre (key_at g src v) key r
  numbers-quotes n f h = subst (λ (k : Key). NumbersAre k key r) (ap (λ (x : Spot). chars (chars_left g src x)) f ∙ sym (key_at-quotes g src v n)) h

-- ## What lines accept can be declared

pub name-declarable : (n : List ℕ) → name_refusal n ≡ 0 → is_declarable (item (named n)) ≡ true
unfolding is_declarable
name-declarable n e = plain-name n e

pub char-declarable : (c : ℕ) → is_character c ≡ true → is_declarable (item (character c)) ≡ true
unfolding is_declarable
char-declarable c h = let l = leb-true c 0x10FFFF (and_left (leb c 0x10FFFF) _ h) in lt-ltb c 1114112 (omega (arith, l))

pub chars-declarable : (ns : List (List ℕ)) → every is_char_name ns ≡ true → leb (length (map code_of ns)) 4 ≡ true → is_declarable (chars (map code_of ns)) ≡ true
unfolding is_declarable is_char_name every
chars-declarable ns h l = and_intro l (codes ns h)
  where
    codes : (ns : List (List ℕ)) → every is_char_name ns ≡ true → every is_code (map code_of ns) ≡ true
    codes [] h = refl
    codes (n ∷ ns) h = and_intro (char-declarable (code_of n) (and_right (char_shaped n) _ (every-head is_char_name n ns h))) (codes ns (every-tail is_char_name n ns h))
