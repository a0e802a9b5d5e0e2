-- Laws of a charmap area (specs/Coding): in an accepted one each code present has one byte that encodes it, and the search finds that byte.
use mathlib.Core.Path.{◌≡◌, refl, sym, ap, ◌∙◌}
use mathlib.Core.Bool.{Bool, true, false, not, ◌&&◌, ◌||◌, false≢true}
use mathlib.Core.List.{List, [], ◌∷◌}
use Prim.Native.Nat.{ℕ, zero, suc, ◌+◌, ◌≤◌, ◌<◌}
use native.Mathlib.Omega.{arith}
use native.Mathlib.Nat.{le_of_suc-le-suc, not-suc-le-zero}
use lib.ListN.{length, get_or, take, drop}
use lib.Dec.{leb, eqb}
use lib.Seq.{get_or-take, get_or-drop, length-take-le}
use borrow.Author.Tests.{leb-true, le-leb, eqb-true, eqb-false, eq-eqb, ne_eqb}
use Rattle.base_lists.proofs.Bools.{and_left, and_right, and_intro, by, cond-true, cond-false}
use Rattle.base_lists.proofs.Places.{get_d_default}
use Rattle.rules.specs.Text.{every}
use Rattle.rules.specs.Names.{is_character}
use Rattle.rules.specs.Charmap.{no_code}
use Rattle.rules.specs.Coding.{is_code, good_ones, ones_of, one_each, area_accepted, code_at, byte_from, byte_at}

-- ## The search for a code's byte

-- The search from byte b on ends at a place with the code c and a 1.
record Found (b c : ℕ) (codes ones : List ℕ) : Type 0 where
  pub place : ℕ
  pub byte : byte_from b c codes ones ≡ b + place
  pub fits : place < length codes
  pub code : get_or codes place no_code ≡ c
  pub one : get_or ones place 0 ≡ 1

-- it has the code c and a 1
abbrev is_one_of : ℕ → ℕ → ℕ → Bool
is_one_of c d o = eqb c d && eqb o 1

search-here : (b c d o : ℕ) (cs os : List ℕ) → is_one_of c d o ≡ true → byte_from b c (d ∷ cs) (o ∷ os) ≡ b
unfolding byte_from
search-here b c d o cs os t = cond-true b (byte_from (suc b) c cs os) t

search-later : (b c d o : ℕ) (cs os : List ℕ) → is_one_of c d o ≡ false → byte_from b c (d ∷ cs) (o ∷ os) ≡ byte_from (suc b) c cs os
unfolding byte_from
search-later b c d o cs os t = cond-false b (byte_from (suc b) c cs os) t

found_here : (b c d o : ℕ) (cs os : List ℕ) → is_one_of c d o ≡ true → Found b c (d ∷ cs) (o ∷ os)
found_here b c d o cs os t = record {
  place = 0;
  byte = search-here b c d o cs os t ∙ omega arith;
  fits = omega arith;
  code = sym (eqb-true c d (and_left (eqb c d) (eqb o 1) t));
  one = eqb-true o 1 (and_right (eqb c d) (eqb o 1) t);
}

found-later : (b c d o : ℕ) (cs os : List ℕ) → is_one_of c d o ≡ false → Found (suc b) c cs os → Found b c (d ∷ cs) (o ∷ os)
found-later b c d o cs os t f = record {
  place = suc f.place;
  byte = search-later b c d o cs os t ∙ f.byte ∙ omega arith;
  fits = omega arith;
  code = f.code;
  one = f.one;
}

-- a search that ends at a byte has found one
found : (b c : ℕ) (codes ones : List ℕ) → byte_from b c codes ones < 256 → Found b c codes ones
unfolding byte_from
found b c [] os h = absurd (omega arith)
found b c (d ∷ cs) [] h = absurd (omega arith)
found b c (d ∷ cs) (o ∷ os) h =
    by (is_one_of c d o) (found_here b c d o cs os) (λ t. found-later b c d o cs os t (found (suc b) c cs os (rw t at h)))

ones-later : (c d o : ℕ) (cs os : List ℕ) → ones_of c (d ∷ cs) (o ∷ os) ≡ 1 → is_one_of c d o ≡ false → ones_of c cs os ≡ 1
unfolding ones_of
ones-later c d o cs os h t = by (eqb c d)
    (λ u. let e : o + ones_of c cs os ≡ 1 = rw u at h in let n : o ≡ 1 → ⊥ = eqb-false o 1 (rw u at t) in omega arith)
    (λ u. rw u at h)

-- the 1 after a first one would be the second
no_second : (c d o : ℕ) (cs os : List ℕ) → is_one_of c d o ≡ true → ones_of c (d ∷ cs) (o ∷ os) ≡ 1 → 1 ≤ ones_of c cs os → ⊥
unfolding ones_of
no_second c d o cs os t n h =
    let e : o + ones_of c cs os ≡ 1 = rw (and_left (eqb c d) (eqb o 1) t) at n in
    let i : o ≡ 1 = eqb-true o 1 (and_right (eqb c d) (eqb o 1) t) in
    omega arith

-- a code that has one 1 is found
one_found : (b c : ℕ) (codes ones : List ℕ) → ones_of c codes ones ≡ 1 → Found b c codes ones
one_found b c [] os h = absurd (unfold ones_of in omega arith)
one_found b c (d ∷ cs) [] h = absurd (unfold ones_of in omega arith)
one_found b c (d ∷ cs) (o ∷ os) h =
    by (is_one_of c d o) (found_here b c d o cs os) (λ t. found-later b c d o cs os t (one_found (suc b) c cs os (ones-later c d o cs os h t)))

has_one : (c : ℕ) (codes ones : List ℕ) (p : ℕ) → p < length codes → get_or codes p no_code ≡ c → get_or ones p 0 ≡ 1 → 1 ≤ ones_of c codes ones
unfolding ones_of
has_one c [] os p h e i = absurd (not-suc-le-zero h)
has_one c (d ∷ cs) [] p h e i = absurd (omega arith)
has_one c (d ∷ cs) (o ∷ os) zero h e i = rw (eq-eqb c d (sym e)) (omega arith)
has_one c (d ∷ cs) (o ∷ os) (suc p) h e i =
    let r = has_one c cs os p (le_of_suc-le-suc h) e i in
    by (eqb c d) (λ u. rw u (omega arith)) (λ u. rw u r)

-- the place of the one 1 is the one that is found
one_place : (b c : ℕ) (codes ones : List ℕ) (p : ℕ) → ones_of c codes ones ≡ 1 → p < length codes → get_or codes p no_code ≡ c → get_or ones p 0 ≡ 1
    → byte_from b c codes ones ≡ b + p
one_place b c [] os p n h e i = absurd (not-suc-le-zero h)
one_place b c (d ∷ cs) [] p n h e i = absurd (omega arith)
one_place b c (d ∷ cs) (o ∷ os) zero n h e i = search-here b c d o cs os (and_intro (eq-eqb c d (sym e)) (eq-eqb o 1 i)) ∙ omega arith
one_place b c (d ∷ cs) (o ∷ os) (suc p) n h e i =
    let r = has_one c cs os p (le_of_suc-le-suc h) e i in
    by (is_one_of c d o)
    (λ t. absurd (no_second c d o cs os t n r))
    (λ t. search-later b c d o cs os t ∙ one_place (suc b) c cs os p (ones-later c d o cs os n t) (le_of_suc-le-suc h) e i ∙ omega arith)

-- ## What an accepted area has

-- The parts of the test.
pub record Accepted (area : List ℕ) : Type 0 where
  pub size : 512 ≤ length area
  pub codes : every is_code (take 256 area) ≡ true
  pub ones : good_ones (take 256 area) (take 256 (drop 256 area)) ≡ true
  pub each : one_each (take 256 area) (take 256 area) (take 256 (drop 256 area)) ≡ true

pub accepted-parts : (area : List ℕ) → area_accepted area ≡ true → Accepted area
unfolding area_accepted
accepted-parts area h =
    let s = leb 512 (length area) in
    let c = every is_code (take 256 area) in
    let o = good_ones (take 256 area) (take 256 (drop 256 area)) in
    let e = one_each (take 256 area) (take 256 area) (take 256 (drop 256 area)) in
    let sco = and_left (s && c && o) e h in
    let sc = and_left (s && c) o sco in
    record {
      size = leb-true 512 (length area) (and_left s c sc);
      codes = and_right s c sc;
      ones = and_right (s && c) o sco;
      each = and_right (s && c && o) e h;
    }

pub parts-accepted : {area : List ℕ} → Accepted area → area_accepted area ≡ true
unfolding area_accepted
parts-accepted {area} a = rw (le-leb 512 (length area) a.size, a.codes, a.ones, a.each)

-- where there is a 1, there is a code
one-coded : (codes ones : List ℕ) (p : ℕ) → good_ones codes ones ≡ true → p < length codes → get_or ones p 0 ≡ 1 → get_or codes p no_code ≡ no_code → ⊥
unfolding good_ones
one-coded [] os p g h i e = not-suc-le-zero h
one-coded (c ∷ cs) [] p g h i e = false≢true g
one-coded (c ∷ cs) (o ∷ os) zero g h i e =
    false≢true (rw (i, e) at (and_left (eqb o 0 || (eqb o 1 && not (eqb c no_code))) (good_ones cs os) g))
one-coded (c ∷ cs) (o ∷ os) (suc p) g h i e =
    one-coded cs os p (and_right (eqb o 0 || (eqb o 1 && not (eqb c no_code))) (good_ones cs os) g) (le_of_suc-le-suc h) i e

-- each code present has one 1
one_each_lem : (cs codes ones : List ℕ) (p : ℕ) → one_each cs codes ones ≡ true → (get_or cs p no_code ≡ no_code → ⊥) → ones_of (get_or cs p no_code) codes ones ≡ 1
unfolding one_each
one_each_lem [] codes ones p h n = absurd (n refl)
one_each_lem (c ∷ cs) codes ones zero h n =
    eqb-true (ones_of c codes ones) 1 (rw (ne_eqb c no_code n) at (and_left (eqb c no_code || eqb (ones_of c codes ones) 1) (one_each cs codes ones) h))
one_each_lem (c ∷ cs) codes ones (suc p) h n = one_each_lem cs codes ones p (and_right (eqb c no_code || eqb (ones_of c codes ones) 1) (one_each cs codes ones) h) n

unique-byte : (codes ones : List ℕ) (b : ℕ) → good_ones codes ones ≡ true → one_each codes codes ones ≡ true → b < length codes → get_or ones b 0 ≡ 1
    → byte_from 0 (get_or codes b no_code) codes ones ≡ b
unique-byte codes ones b g e h i =
    one_place 0 (get_or codes b no_code) codes ones b (one_each_lem codes codes ones b e (one-coded codes ones b g h i)) h refl i ∙ omega arith

-- ## The laws

-- a character is a code
pub character-code : (c : ℕ) → is_character c ≡ true → c ≡ no_code → ⊥
character-code c h e = false≢true (rw e at h)

-- what a byte decodes to stands at that place of the area
pub code-at : (area : List ℕ) (b d : ℕ) → 512 ≤ length area → b < 256 → code_at area b ≡ get_or area b d
code-at area b d s h = get_or-take 256 area b no_code h ∙ get_d_default area b no_code d (omega arith)

-- whether a byte encodes its code stands 256 places further on
one_at : (area : List ℕ) (b : ℕ) → b < 256 → get_or (take 256 (drop 256 area)) b 0 ≡ get_or area (256 + b) 0
one_at area b h = get_or-take 256 (drop 256 area) b 0 h ∙ get_or-drop 256 area b 0

-- of an accepted area at most one byte of a code has a 1: the byte that encodes that code
pub area-unique-byte : (area : List ℕ) (b c : ℕ) → area_accepted area ≡ true → b < 256 → code_at area b ≡ c → get_or area (256 + b) 0 ≡ 1
    → byte_at area c ≡ b
area-unique-byte area b c t h e i =
    let a = accepted-parts area t in
    let n = length-take-le 256 area (omega arith) in
    let o = one_at area b h ∙ i in
    ap (byte_at area) (sym e) ∙ unique-byte (take 256 area) (take 256 (drop 256 area)) b a.ones a.each (omega arith) o

-- of an accepted area, a code present has a byte that encodes it
pub area_byte : (area : List ℕ) (b : ℕ) → area_accepted area ≡ true → (code_at area b ≡ no_code → ⊥) → byte_at area (code_at area b) < 256
area_byte area b t n =
    let a = accepted-parts area t in
    let s = length-take-le 256 area (omega arith) in
    let f = one_found 0 (code_at area b) (take 256 area) (take 256 (drop 256 area)) (one_each_lem (take 256 area) (take 256 area) (take 256 (drop 256 area)) b a.each n) in
    omega arith

-- a byte that encodes a code decodes to it
pub code-byte : (area : List ℕ) (c : ℕ) → byte_at area c < 256 → code_at area (byte_at area c) ≡ c
code-byte area c h =
    let f = found 0 c (take 256 area) (take 256 (drop 256 area)) h in
    let e : byte_at area c ≡ f.place = f.byte ∙ omega arith in
    ap (code_at area) e ∙ f.code
