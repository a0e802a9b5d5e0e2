-- Laws of a charmap's 512 numbers (specs/Charmap): they are an accepted area, each byte decodes as written, the first byte of a code encodes it.
use Rattle.std.specs.Prelude.{if◌then◌else◌}
use mathlib.Core.Path.{◌≡◌, refl, sym, ap, ◌∙◌}
use mathlib.Core.Bool.{true, false, not, ◌&&◌, ◌||◌, or-true}
use mathlib.Core.List.Memᴰ
use mathlib.Core.List.{List, [], ◌∷◌, ◌++◌, map, append-nil, append_assoc, Memᴰ}
use mathlib.Core.Logic.{⊎_elim}
use Prim.Native.Nat.{ℕ, zero, suc, ◌+◌, ◌≤◌, ◌<◌}
use native.Mathlib.Omega.{arith}
use lib.ListN.{length, get_or, take, drop, length-append, get_or-append}
use lib.Dec.{ltb, eqb}
use lib.Seq.{take_at, drop_at, get_or-append-add}
use borrow.Author.Tests.{eqb-true, eqb-false, eq-eqb, ne_eqb}
use Rattle.base_lists.proofs.Bools.{and_intro, by, cond-true}
use Rattle.rules.specs.Text.{every, one_of, granted}
use Rattle.rules.specs.Charmap.{map_start, Given, MapEnded, no_code, gives_byte, map_lines_from, code_given, first_byte, encodes, numbers_from, area_of, charmap_of}
use Rattle.rules.specs.Coding.{is_code, good_ones, ones_of, one_each, area_accepted, byte_at}
use Rattle.rules.proofs.ResultLaws.{granted-else, granted-unique}
use Rattle.rules.proofs.GivenLaws.{Good, good_none, code-once, code-none, lines-good}
use Rattle.rules.proofs.AreaLaws.{parts-accepted, character-code, code-at, area-unique-byte}

-- ## Entries by their byte and by their code

-- a byte decodes to none, or there is the entry that says to what
given-cases : (gs : List Given) (b : ℕ) {X : Type 0} → (code_given gs b ≡ no_code → X)
    → ((g : Given) → Memᴰ g gs → code_given gs b ≡ g.code → X) → X
unfolding code_given
given-cases [] b f k = f refl
given-cases (g ∷ gs) b f k = by (eqb b g.byte)
    (λ t. k g (Memᴰ.head refl) (rw t))
    (λ t. given-cases gs b (λ e. f (rw t e)) (λ h m e. k h (Memᴰ.tail m) (rw t e)))

-- no entry has the code c, or there is the first that has it
first-cases : (gs : List Given) (c : ℕ) {X : Type 0} → (first_byte gs c ≡ 256 → ((g : Given) → Memᴰ g gs → g.code ≡ c → ⊥) → X)
    → ((g : Given) → Memᴰ g gs → g.code ≡ c → first_byte gs c ≡ g.byte → X) → X
unfolding first_byte
first-cases [] c f k = f refl (λ g m e. elim m [ ])
first-cases (g ∷ gs) c f k = by (eqb c g.code)
    (λ t. k g (Memᴰ.head refl) (sym (eqb-true c g.code t)) (rw t))
    (λ t. first-cases gs c
    (λ e n. f (rw t e) (λ h m q. ⊎_elim (λ (i : h ≡ g). eqb-false c g.code t (sym (rw i at q))) (λ (i : Memᴰ h gs). n h i q) (Memᴰ.cases_cons m)))
    (λ h m q e. k h (Memᴰ.tail m) q (rw t e)))

code-is_code : (gs : List Given) (b : ℕ) → Good gs → is_code (code_given gs b) ≡ true
code-is_code gs b good = given-cases gs b (λ e. rw e)
    (λ g m e. let h = good.characters g m in rw (e, ne_eqb g.code no_code (character-code g.code h)) h)

-- none has no first byte
first-none : (gs : List Given) → Good gs → first_byte gs no_code ≡ 256
first-none gs good = first-cases gs no_code (λ e n. e) (λ g m q e. absurd (character-code g.code (good.characters g m) q))

-- the first byte of an entry's code is a byte, and decodes to that code
record FirstOf (gs : List Given) (c : ℕ) : Type 0 where
  fits : first_byte gs c < 256
  decodes : code_given gs (first_byte gs c) ≡ c

first_of : (gs : List Given) (g : Given) → Good gs → Memᴰ g gs → FirstOf gs g.code
first_of gs g good m = first-cases gs g.code (λ e n. absurd (n g m refl))
    (λ h i q e. let l = good.fits h i in record { fits = omega arith; decodes = ap (code_given gs) e ∙ code-once i good.apart ∙ q })

-- ## The two halves of the area

length-numbers : {A : Type 0} (f : ℕ → A) (n k : ℕ) → length (map f (numbers_from n k)) ≡ n
unfolding numbers_from
length-numbers f zero k = refl
length-numbers f (suc n) k = ap suc (length-numbers f n (suc k))

get_d-numbers : {A : Type 0} (f : ℕ → A) (n k i : ℕ) (d : A) → i < n → get_or (map f (numbers_from n k)) i d ≡ f (k + i)
unfolding numbers_from
get_d-numbers f zero k i d h = absurd (omega arith)
get_d-numbers f (suc n) k zero d h = ap f (omega arith)
get_d-numbers f (suc n) k (suc i) d h = get_d-numbers f n (suc k) i d (omega arith) ∙ ap f (omega arith)

codes-good : (gs : List Given) (bs : List ℕ) → Good gs → every is_code (map (code_given gs) bs) ≡ true
unfolding every
codes-good gs [] good = refl
codes-good gs (b ∷ bs) good = and_intro (code-is_code gs b good) (codes-good gs bs good)

one-good : (gs : List Given) (b : ℕ) → Good gs → b < 256
    → (eqb (encodes gs b) 0 || (eqb (encodes gs b) 1 && not (eqb (code_given gs b) no_code))) ≡ true
unfolding encodes
one-good gs b good h = by (eqb (first_byte gs (code_given gs b)) b)
    (λ t. rw (
      t,
      ne_eqb (code_given gs b) no_code (λ e.
          let q : 256 ≡ b = sym (first-none gs good) ∙ ap (first_byte gs) (sym e) ∙ eqb-true (first_byte gs (code_given gs b)) b t in
          omega arith),
    ))
    (λ t. rw t)

ones-good : (gs : List Given) (n k : ℕ) → Good gs → k + n ≤ 256 → good_ones (map (code_given gs) (numbers_from n k)) (map (encodes gs) (numbers_from n k)) ≡ true
unfolding good_ones numbers_from
ones-good gs zero k good h = refl
ones-good gs (suc n) k good h = and_intro (one-good gs k good (omega arith)) (ones-good gs n (suc k) good (omega arith))

-- of the numbers at bytes with the code c only that at the first byte is 1
ones_step : (gs : List Given) (c b r : ℕ) → code_given gs (first_byte gs c) ≡ c
    → (if eqb c (code_given gs b) then encodes gs b + r else r) ≡ (if eqb (first_byte gs c) b then suc r else r)
unfolding encodes
ones_step gs c b r e = by (eqb c (code_given gs b))
    (λ t. let q = eqb-true c (code_given gs b) t in rw (t, ← q) (by (eqb (first_byte gs c) b) (λ u. rw u (omega arith)) (λ u. rw u (omega arith))))
    (λ t. rw (t, ne_eqb (first_byte gs c) b (λ i. eqb-false c (code_given gs b) t (sym e ∙ ap (code_given gs) i))))

abbrev ones_from : List Given → ℕ → ℕ → ℕ → ℕ
ones_from gs c n k = ones_of c (map (code_given gs) (numbers_from n k)) (map (encodes gs) (numbers_from n k))

ones-past : (gs : List Given) (c n k : ℕ) → code_given gs (first_byte gs c) ≡ c → first_byte gs c < k → ones_from gs c n k ≡ 0
unfolding ones_of numbers_from
ones-past gs c zero k e h = refl
ones-past gs c (suc n) k e h =
    ones_step gs c k (ones_from gs c n (suc k)) e ∙ rw (ne_eqb (first_byte gs c) k (λ q. omega arith)) (ones-past gs c n (suc k) e (omega arith))

ones-first : (gs : List Given) (c n k : ℕ) → code_given gs (first_byte gs c) ≡ c → k ≤ first_byte gs c → first_byte gs c < k + n → ones_from gs c n k ≡ 1
unfolding ones_of numbers_from
ones-first gs c zero k e l h = absurd (omega arith)
ones-first gs c (suc n) k e l h = ones_step gs c k (ones_from gs c n (suc k)) e ∙ by (eqb (first_byte gs c) k)
    (λ t. let q = eqb-true (first_byte gs c) k t in rw t (ap suc (ones-past gs c n (suc k) e (omega arith))))
    (λ t. let q : first_byte gs c ≡ k → ⊥ = eqb-false (first_byte gs c) k t in rw t (ones-first gs c n (suc k) e (omega arith) (omega arith)))

one_code : (gs : List Given) (b : ℕ) → Good gs → (eqb (code_given gs b) no_code || eqb (ones_from gs (code_given gs b) 256 0) 1) ≡ true
one_code gs b good = given-cases gs b (λ e. rw e)
    (λ g m e.
    let f = first_of gs g good m in
    let o = ones-first gs g.code 256 0 f.decodes (omega arith) (omega arith) in
    rw (e, eq-eqb (ones_from gs g.code 256 0) 1 o) (or-true (eqb g.code no_code)))

one-codes : (gs : List Given) (bs : List ℕ) → Good gs
    → one_each (map (code_given gs) bs) (map (code_given gs) (numbers_from 256 0)) (map (encodes gs) (numbers_from 256 0)) ≡ true
unfolding one_each
one-codes gs [] good = refl
one-codes gs (b ∷ bs) good = and_intro (one_code gs b good) (one-codes gs bs good)

-- ## The area

pub area-length : (gs : List Given) → length (area_of gs) ≡ 512
unfolding area_of
area-length gs =
    let c : List ℕ = map (code_given gs) (numbers_from 256 0) in
    let o : List ℕ = map (encodes gs) (numbers_from 256 0) in
    let p = length-numbers (code_given gs) 256 0 in
    let q = length-numbers (encodes gs) 256 0 in
    length-append c o ∙ omega arith

-- "for each byte its code"
pub area-code : (gs : List Given) (b d : ℕ) → b < 256 → get_or (area_of gs) b d ≡ code_given gs b
unfolding area_of
area-code gs b d h =
    let c : List ℕ = map (code_given gs) (numbers_from 256 0) in
    let o : List ℕ = map (encodes gs) (numbers_from 256 0) in
    let p = length-numbers (code_given gs) 256 0 in
    get_or-append c o d b (omega arith) ∙ get_d-numbers (code_given gs) 256 0 b d h ∙ ap (code_given gs) (omega arith)

-- "then 1 where that byte encodes its code, else 0"
pub area-one : (gs : List Given) (b d : ℕ) → b < 256 → get_or (area_of gs) (256 + b) d ≡ encodes gs b
unfolding area_of
area-one gs b d h =
    let c : List ℕ = map (code_given gs) (numbers_from 256 0) in
    let o : List ℕ = map (encodes gs) (numbers_from 256 0) in
    let p = length-numbers (code_given gs) 256 0 in
    ap (λ (n : ℕ). get_or (c ++ o) (n + b) d) (sym p) ∙ get_or-append-add c o b d ∙ get_d-numbers (encodes gs) 256 0 b d h ∙ ap (encodes gs) (omega arith)

halves-accepted : (codes ones rest : List ℕ) → length codes ≡ 256 → length ones ≡ 256 → every is_code codes ≡ true → good_ones codes ones ≡ true
    → one_each codes codes ones ≡ true → area_accepted (codes ++ ones ++ rest) ≡ true
halves-accepted codes ones rest p q c o e =
    let a : List ℕ = codes ++ ones ++ rest in
    let s = length-append (codes ++ ones) rest in
    let t = length-append codes ones in
    let f : take 256 a ≡ codes = ap (take 256) (append_assoc codes ones rest) ∙ take_at codes (ones ++ rest) 256 p in
    let n : take 256 (drop 256 a) ≡ ones = ap (λ (l : List ℕ). take 256 (drop 256 l)) (append_assoc codes ones rest) ∙ ap (take 256) (drop_at codes (ones ++ rest) 256 p) ∙ take_at ones rest 256 q in
    parts-accepted (record { size = omega arith; codes = rw f c; ones = rw (f, n) o; each = rw (f, n) e })

area-accepted : (gs : List Given) (rest : List ℕ) → Good gs → area_accepted (area_of gs ++ rest) ≡ true
unfolding area_of
area-accepted gs rest good = halves-accepted
    (map (code_given gs) (numbers_from 256 0))
    (map (encodes gs) (numbers_from 256 0))
    rest
    (length-numbers (code_given gs) 256 0)
    (length-numbers (encodes gs) 256 0)
    (codes-good gs (numbers_from 256 0) good)
    (ones-good gs 256 0 good (omega arith))
    (one-codes gs (numbers_from 256 0) good)

first_one : (gs : List Given) (c : ℕ) → code_given gs (first_byte gs c) ≡ c → encodes gs (first_byte gs c) ≡ 1
unfolding encodes
first_one gs c e = rw e (cond-true 1 0 (eq-eqb (first_byte gs c) (first_byte gs c) refl))

first-encodes : (gs : List Given) (g : Given) → Good gs → Memᴰ g gs → byte_at (area_of gs) g.code ≡ first_byte gs g.code
first-encodes gs g good m =
    let f = first_of gs g good m in
    let b = first_byte gs g.code in
    let n = area-length gs in
    area-unique-byte (area_of gs) b g.code
    (rw append-nil at (area-accepted gs [] good))
    f.fits
    (code-at (area_of gs) b no_code (omega arith) f.fits ∙ area-code gs b no_code f.fits ∙ f.decodes)
    (area-one gs b 0 f.fits ∙ first_one gs g.code f.decodes)

-- ## The laws

-- what the lines of a charmap source give
abbrev pub given_by : List ℕ → List Given
given_by source = (map_lines_from map_start 1 0 source).given

pub given-good : (source : List ℕ) → Good (given_by source)
given-good source = lines-good map_start 1 0 source good_none

-- the numbers are the area of what the lines give
pub charmap-area : (source : List ℕ) (n : ℕ) (numbers : List ℕ) → charmap_of source n ≡ granted numbers → numbers ≡ area_of (given_by source)
unfolding charmap_of
charmap-area source n numbers e =
    let m : MapEnded = map_lines_from map_start 1 0 source in
    let a = granted-else (ltb 1048576 (length source)) 1 0 e in
    let b = granted-else (not (eqb m.refusal 0)) m.refusal m.line a.1 in
    let c = granted-else (ltb n 512) 9 0 b.1 in
    sym (granted-unique c.1)

module _ (source : List ℕ) (n : ℕ) (numbers : List ℕ) (e : charmap_of source n ≡ granted numbers) where
  -- "The result is 512 numbers"
  pub charmap-length : length numbers ≡ 512
  charmap-length = ap length (charmap-area source n numbers e) ∙ area-length (given_by source)

  -- they are an accepted area, whatever follows them
  pub charmap-accepted-append : (rest : List ℕ) → area_accepted (numbers ++ rest) ≡ true
  charmap-accepted-append rest = rw (charmap-area source n numbers e) (area-accepted (given_by source) rest (given-good source))

  pub charmap-accepted : area_accepted numbers ≡ true
  charmap-accepted = rw append-nil at (charmap-accepted-append [])

  -- "all decode": the byte of each entry, to the entry's code
  pub charmap-decodes : (g : Given) → Memᴰ g (given_by source) → get_or numbers g.byte no_code ≡ g.code
  charmap-decodes g m =
      let good = given-good source in
      rw (charmap-area source n numbers e) (area-code (given_by source) g.byte no_code (good.fits g m) ∙ code-once m good.apart)

  -- "110000 hex for none": every other byte
  pub charmap-none : (b : ℕ) → b < 256 → one_of (gives_byte b) (given_by source) ≡ false → get_or numbers b no_code ≡ no_code
  charmap-none b h t = rw (charmap-area source n numbers e) (area-code (given_by source) b no_code h ∙ code-none (given_by source) b t)

  -- there is a 1 exactly where the byte is the first of its code
  pub charmap-ones : (b : ℕ) → b < 256
      → get_or numbers (256 + b) 0 ≡ (if eqb (first_byte (given_by source) (get_or numbers b no_code)) b then 1 else 0)
  unfolding encodes
  charmap-ones b h =
      rw (charmap-area source n numbers e) (rw (area-code (given_by source) b no_code h) (area-one (given_by source) b 0 h))

  -- "the first encodes": the byte of an entry's code is the first that has it
  pub charmap-encodes : (g : Given) → Memᴰ g (given_by source) → byte_at numbers g.code ≡ first_byte (given_by source) g.code
  charmap-encodes g m = rw (charmap-area source n numbers e) (first-encodes (given_by source) g (given-good source) m)
