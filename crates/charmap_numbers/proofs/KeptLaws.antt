-- What the entries of a charmap give stays the 512 numbers of all entries as one byte after the other is given.
use Rattle.std.specs.Prelude.{if◌then◌else◌}
use mathlib.Core.Path.{◌≡◌, refl, sym, ap, ◌∙◌}
use mathlib.Core.Bool.{Bool, true, false, not, ◌||◌}
use mathlib.Core.List.Memᴰ
use mathlib.Core.List.{List, [], ◌∷◌, ◌++◌, append-nil, Memᴰ}
use mathlib.Core.Logic.{⊎_elim}
use Prim.Native.Nat.{ℕ, zero, suc, ◌+◌, ◌-◌, ◌≤◌, ◌<◌}
use native.Mathlib.Omega.{arith}
use lib.ListN.{length, get_or, take, set, length-set}
use lib.Dec.{eqb, ltb}
use lib.Seq.{drop-cons, get_or-take, get_or-set_same, get_or-set_other, append_snoc, ext_get_or, length-take-le}
use borrow.Author.Tests.{eqb-true, eqb-false, eq-eqb, ne_eqb, ltb-true, ltb-false}
use Rattle.base_lists.proofs.Bools.{or-false-left, or-false-right, or-false-intro, clash, by}
use Rattle.rules.specs.Text.{one_of}
use Rattle.rules.specs.Charmap.{Given, no_code, counted, gives_byte, is_given, code_given, first_byte, encodes, area_of}
use Rattle.rules.proofs.TextLaws.{one_of-append, one_of-get_d}
use Rattle.rules.proofs.GivenLaws.{code-none}
use Rattle.rules.proofs.CharmapLaws.{area-length, area-code, area-one}
use Rattle.charmap_numbers.specs.Giving.{has_code, one_for, with, with_range, is_taken, any_taken}
use Rattle.charmap_numbers.proofs.SeekLaws.{with-length}

-- ## What holds of all that is given

-- Each byte is one, and decodes to its entry's code, which is not none.
pub record Kept (gs : List Given) : Type 0 where
  pub fits : (g : Given) → Memᴰ g gs → g.byte < 256
  pub real : (g : Given) → Memᴰ g gs → g.code < no_code
  pub once : (g : Given) → Memᴰ g gs → code_given gs g.byte ≡ g.code

pub kept-none : Kept []
kept-none = record { fits = λ g m. absurd (Memᴰ.not-nil m); real = λ g m. absurd (Memᴰ.not-nil m); once = λ g m. absurd (Memᴰ.not-nil m) }

-- ## By byte

-- the entry that gives a byte
record ByByte (b : ℕ) (gs : List Given) : Type 0 where
  entry : Given
  there : Memᴰ entry gs
  byte : entry.byte ≡ b

by_byte : (b : ℕ) (gs : List Given) → one_of (gives_byte b) gs ≡ true → ByByte b gs
unfolding one_of gives_byte
by_byte b [] h = clash h refl
by_byte b (g ∷ gs) h = by (eqb b g.byte)
    (λ t. record { entry = g; there = Memᴰ.head refl; byte = sym (eqb-true b g.byte t) })
    (λ t. let r = by_byte b gs (rw t at h) in record { entry = r.entry; there = Memᴰ.tail r.there; byte = r.byte })

not_byte : {b : ℕ} {g : Given} {gs : List Given} → Memᴰ g gs → one_of (gives_byte b) gs ≡ false → g.byte ≡ b → ⊥
unfolding one_of gives_byte
not_byte {b} (Memᴰ.head {x} {xs} e) h q = eqb-false b x.byte (or-false-left (eqb b x.byte) (one_of (gives_byte b) xs) h) (sym q ∙ ap (λ (y : Given). y.byte) e)
not_byte {b} (Memᴰ.tail {x} {xs} m) h q = not_byte m (or-false-right (eqb b x.byte) (one_of (gives_byte b) xs) h) q

code-append-given : (gs hs : List Given) (b : ℕ) → one_of (gives_byte b) gs ≡ true → code_given (gs ++ hs) b ≡ code_given gs b
unfolding one_of gives_byte code_given
code-append-given [] hs b h = clash h refl
code-append-given (g ∷ gs) hs b h = by (eqb b g.byte) (λ t. rw t) (λ t. rw t (code-append-given gs hs b (rw t at h)))

code-append-not : (gs hs : List Given) (b : ℕ) → one_of (gives_byte b) gs ≡ false → code_given (gs ++ hs) b ≡ code_given hs b
unfolding one_of gives_byte code_given
code-append-not [] hs b h = refl
code-append-not (g ∷ gs) hs b h =
    rw (or-false-left (eqb b g.byte) (one_of (gives_byte b) gs) h) (code-append-not gs hs b (or-false-right (eqb b g.byte) (one_of (gives_byte b) gs) h))

-- a byte has a code exactly where it is given
taken-given : (gs : List Given) (b : ℕ) → Kept gs → is_taken (code_given gs b) ≡ one_of (gives_byte b) gs
taken-given gs b k = by (one_of (gives_byte b) gs)
    (λ t. let r = by_byte b gs t in
    let e : code_given gs b ≡ r.entry.code = ap (code_given gs) (sym r.byte) ∙ k.once r.entry r.there in
    let l = k.real r.entry r.there in
    rw (e, t) (ap not (ne_eqb r.entry.code no_code (λ q. omega arith))))
    (λ t. rw t (ap is_taken (code-none gs b t)))

-- ## By code

abbrev of_code : ℕ → Given → Bool
of_code c g = eqb c g.code

-- the first entry of a code
record ByCode (c : ℕ) (gs : List Given) : Type 0 where
  entry : Given
  there : Memᴰ entry gs
  code : entry.code ≡ c
  byte : first_byte gs c ≡ entry.byte

by_code : (c : ℕ) (gs : List Given) → one_of (of_code c) gs ≡ true → ByCode c gs
unfolding one_of first_byte
by_code c [] h = clash h refl
by_code c (g ∷ gs) h = by (eqb c g.code)
    (λ t. record { entry = g; there = Memᴰ.head refl; code = sym (eqb-true c g.code t); byte = rw t })
    (λ t. let r = by_code c gs (rw t at h) in record { entry = r.entry; there = Memᴰ.tail r.there; code = r.code; byte = rw t r.byte })

first-append-some : (gs hs : List Given) (c : ℕ) → one_of (of_code c) gs ≡ true → first_byte (gs ++ hs) c ≡ first_byte gs c
unfolding one_of first_byte
first-append-some [] hs c h = clash h refl
first-append-some (g ∷ gs) hs c h = by (eqb c g.code) (λ t. rw t) (λ t. rw t (first-append-some gs hs c (rw t at h)))

first-append-none : (gs hs : List Given) (c : ℕ) → one_of (of_code c) gs ≡ false → first_byte (gs ++ hs) c ≡ first_byte hs c
unfolding one_of first_byte
first-append-none [] hs c h = refl
first-append-none (g ∷ gs) hs c h =
    rw (or-false-left (eqb c g.code) (one_of (of_code c) gs) h) (first-append-none gs hs c (or-false-right (eqb c g.code) (one_of (of_code c) gs) h))

first-none : (gs : List Given) (c : ℕ) → one_of (of_code c) gs ≡ false → first_byte gs c ≡ 256
unfolding one_of first_byte
first-none [] c h = refl
first-none (g ∷ gs) c h =
    rw (or-false-left (eqb c g.code) (one_of (of_code c) gs) h) (first-none gs c (or-false-right (eqb c g.code) (one_of (of_code c) gs) h))

-- a code that no entry has is no byte's
no_code_lem : (gs : List Given) (c b : ℕ) → c < no_code → one_of (of_code c) gs ≡ false → c ≡ code_given gs b → ⊥
unfolding one_of code_given
no_code_lem [] c b l h e = omega arith
no_code_lem (g ∷ gs) c b l h e = by (eqb b g.byte)
    (λ t. eqb-false c g.code (or-false-left (eqb c g.code) (one_of (of_code c) gs) h) (rw t at e))
    (λ t. no_code_lem gs c b l (or-false-right (eqb c g.code) (one_of (of_code c) gs) h) (rw t at e))

one_of-none : (p : ℕ → Bool) (l : List ℕ) → ((i : ℕ) → i < length l → p (get_or l i 0) ≡ false) → one_of p l ≡ false
unfolding one_of
one_of-none p [] h = refl
one_of-none p (x ∷ xs) h = or-false-intro (h 0 (omega arith)) (one_of-none p xs (λ i l. h (suc i) (omega arith)))

area-codes : (gs : List Given) → length (take 256 (area_of gs)) ≡ 256
area-codes gs = let n = area-length gs in length-take-le 256 (area_of gs) (omega arith)

area-take : (gs : List Given) (i : ℕ) → i < 256 → get_or (take 256 (area_of gs)) i 0 ≡ code_given gs i
area-take gs i h = get_or-take 256 (area_of gs) i 0 h ∙ area-code gs i 0 h

-- the numbers have a code exactly where an entry has it
has-given : (gs : List Given) (c : ℕ) → Kept gs → c < no_code → has_code (area_of gs) c ≡ one_of (of_code c) gs
unfolding has_code
has-given gs c k l = let n = area-codes gs in by (one_of (of_code c) gs)
    (λ t. let r = by_code c gs t in
    let f = k.fits r.entry r.there in
    let e : c ≡ get_or (take 256 (area_of gs)) r.entry.byte 0 = sym (area-take gs r.entry.byte f ∙ k.once r.entry r.there ∙ r.code) in
    rw t (one_of-get_d (eqb c) (take 256 (area_of gs)) r.entry.byte 0 (omega arith) (eq-eqb c (get_or (take 256 (area_of gs)) r.entry.byte 0) e)))
    (λ t. rw t (one_of-none (eqb c) (take 256 (area_of gs)) (λ i h.
    ne_eqb c (get_or (take 256 (area_of gs)) i 0) (λ q. no_code_lem gs c i l t (q ∙ area-take gs i (omega arith))))))

-- ## One more

abbrev pub entry : ℕ → ℕ → Given
entry b c = record { byte = b; code = c }

-- what is given, and one entry more
abbrev more : List Given → ℕ → ℕ → List Given
more gs b c = gs ++ entry b c ∷ []

alone-same : (b c : ℕ) → code_given (entry b c ∷ []) b ≡ c
unfolding code_given
alone-same b c = rw (eq-eqb b b refl)

alone-other : (b c i : ℕ) → (i ≡ b → ⊥) → code_given (entry b c ∷ []) i ≡ no_code
unfolding code_given
alone-other b c i h = rw (ne_eqb i b h)

first_alone : (b c d : ℕ) → first_byte (entry b c ∷ []) d ≡ (if eqb d c then b else 256)
unfolding first_byte
first_alone b c d = refl

module _ (gs : List Given) (b c : ℕ) (k : Kept gs) (fb : b < 256) (fc : c < no_code) (new : one_of (gives_byte b) gs ≡ false) where
  more_same : code_given (more gs b c) b ≡ c
  more_same = code-append-not gs (entry b c ∷ []) b new ∙ alone-same b c

  more-other : (i : ℕ) → (i ≡ b → ⊥) → code_given (more gs b c) i ≡ code_given gs i
  more-other i h = by (one_of (gives_byte i) gs)
      (λ t. code-append-given gs (entry b c ∷ []) i t)
      (λ t. code-append-not gs (entry b c ∷ []) i t ∙ alone-other b c i h ∙ sym (code-none gs i t))

  pub kept_more : Kept (more gs b c)
  kept_more = record {
    fits = λ g m. ⊎_elim (k.fits g) (λ n. let e = ap (λ (y : Given). y.byte) (Memᴰ.eq_of_singleton n) in omega arith) (Memᴰ.append_cases gs m);
    real = λ g m. ⊎_elim (k.real g) (λ n. let e = ap (λ (y : Given). y.code) (Memᴰ.eq_of_singleton n) in omega arith) (Memᴰ.append_cases gs m);
    once = λ g m. ⊎_elim
        (λ n. more-other g.byte (not_byte n new) ∙ k.once g n)
        (λ n. let e = Memᴰ.eq_of_singleton n in ap (λ (y : Given). code_given (more gs b c) y.byte) e ∙ more_same ∙ ap (λ (y : Given). y.code) (sym e))
        (Memᴰ.append_cases gs m);
  }

  -- the byte given last encodes where it is the first of its code
  encodes_same : encodes (more gs b c) b ≡ one_for (area_of gs) c
  unfolding encodes one_for
  encodes_same = rw (more_same, has-given gs c k fc) (by (one_of (of_code c) gs)
      (λ t. let r = by_code c gs t in
      rw (t, first-append-some gs (entry b c ∷ []) c t, r.byte, ne_eqb r.entry.byte b (not_byte r.there new)))
      (λ t. rw (t, first-append-none gs (entry b c ∷ []) c t, first_alone b c c, eq-eqb c c refl, eq-eqb b b refl)))

  first-other : (i d : ℕ) → i < 256 → (i ≡ b → ⊥) → eqb (first_byte (more gs b c) d) i ≡ eqb (first_byte gs d) i
  first-other i d l h = by (one_of (of_code d) gs)
      (λ t. ap (λ (x : ℕ). eqb x i) (first-append-some gs (entry b c ∷ []) d t))
      (λ t. rw (first-append-none gs (entry b c ∷ []) d t, first-none gs d t, first_alone b c d, ne_eqb 256 i (λ q. omega arith))
      (by (eqb d c) (λ u. rw u (ne_eqb b i (λ q. h (sym q)))) (λ u. rw u (ne_eqb 256 i (λ q. omega arith)))))

  encodes-other : (i : ℕ) → i < 256 → (i ≡ b → ⊥) → encodes (more gs b c) i ≡ encodes gs i
  unfolding encodes
  encodes-other i l h = rw (more-other i h, first-other i (code_given gs i) l h)

  with_code : (i : ℕ) → i < 256 → get_or (with (area_of gs) b c) i 0 ≡ code_given (more gs b c) i
  unfolding with
  with_code i l =
      let n = area-length gs in
      get_or-set_other (set (area_of gs) b c) (256 + b) i (one_for (area_of gs) c) 0 (λ q. omega arith)
      ∙ by (eqb i b)
      (λ t. let e = eqb-true i b t in rw e (get_or-set_same (area_of gs) b c 0 (omega arith) ∙ sym more_same))
      (λ t. let h = eqb-false i b t in get_or-set_other (area_of gs) b i c 0 h ∙ area-code gs i 0 l ∙ sym (more-other i h))

  with-one : (i : ℕ) → i < 256 → get_or (with (area_of gs) b c) (256 + i) 0 ≡ encodes (more gs b c) i
  unfolding with
  with-one i l =
      let n = area-length gs in
      let s = length-set (area_of gs) b c in
      by (eqb i b)
      (λ t. let e = eqb-true i b t in rw e (get_or-set_same (set (area_of gs) b c) (256 + b) (one_for (area_of gs) c) 0 (omega arith) ∙ sym encodes_same))
      (λ t. let h : i ≡ b → ⊥ = eqb-false i b t in
      get_or-set_other (set (area_of gs) b c) (256 + b) (256 + i) (one_for (area_of gs) c) 0 (λ q. h (omega arith))
      ∙ get_or-set_other (area_of gs) b (256 + i) c 0 (λ q. omega arith)
      ∙ area-one gs i 0 l ∙ sym (encodes-other i l h))

  with_at : (i : ℕ) → i < 512 → get_or (with (area_of gs) b c) i 0 ≡ get_or (area_of (more gs b c)) i 0
  with_at i h = by (ltb i 256)
      (λ t. let l = ltb-true i 256 t in with_code i l ∙ sym (area-code (more gs b c) i 0 l))
      (λ t. let l = ltb-false i 256 t in
      let e : i ≡ 256 + (i - 256) = omega arith in
      ap (λ (j : ℕ). get_or (with (area_of gs) b c) j 0) e ∙ with-one (i - 256) (omega arith) ∙ sym (area-one (more gs b c) (i - 256) 0 (omega arith))
      ∙ ap (λ (j : ℕ). get_or (area_of (more gs b c)) j 0) (sym e))

  -- a byte that has no code is given one
  pub with-area : with (area_of gs) b c ≡ area_of (more gs b c)
  with-area =
      let n = area-length gs in
      let w = with-length (area_of gs) b c in
      ext_get_or 0 (with (area_of gs) b c) (area_of (more gs b c)) (w ∙ n ∙ sym (area-length (more gs b c))) (λ i h. with_at i (omega arith))

-- ## Several in a row

alone-not : (x b c : ℕ) → (x ≡ b → ⊥) → one_of (gives_byte x) (entry b c ∷ []) ≡ false
unfolding one_of gives_byte
alone-not x b c h = rw (ne_eqb x b h)

-- bytes after b that are not given are not given by b's entry either
not-given-more : (gs : List Given) (b c n x y : ℕ) → b < x → one_of (is_given gs) (counted n x y) ≡ false → one_of (is_given (more gs b c)) (counted n x y) ≡ false
unfolding one_of is_given counted
not-given-more gs b c zero x y l h = refl
not-given-more gs b c (suc n) x y l h =
    let here = or-false-left (one_of (gives_byte x) gs) (one_of (is_given gs) (counted n (suc x) (suc y))) h in
    let later = or-false-right (one_of (gives_byte x) gs) (one_of (is_given gs) (counted n (suc x) (suc y))) h in
    or-false-intro (one_of-append (gives_byte x) gs (entry b c ∷ []) ∙ or-false-intro here (alone-not x b c (λ e. omega arith)))
    (not-given-more gs b c n (suc x) (suc y) (omega arith) later)

-- What a range leaves.
pub record Ranged (gs : List Given) (b c n : ℕ) : Type 0 where
  pub area : with_range n (area_of gs) b c ≡ area_of (gs ++ counted n b c)
  pub kept : Kept (gs ++ counted n b c)

-- bytes in a row that have no code are given one
pub range-area : (gs : List Given) (b c n : ℕ) → Kept gs → b + n ≤ 256 → c + n ≤ no_code → one_of (is_given gs) (counted n b c) ≡ false → Ranged gs b c n
unfolding one_of is_given counted with_range
range-area gs b c zero k fb fc h = record { area = rw (append-nil gs); kept = rw (append-nil gs) k }
range-area gs b c (suc n) k fb fc h =
    let here = or-false-left (one_of (gives_byte b) gs) (one_of (is_given gs) (counted n (suc b) (suc c))) h in
    let later = or-false-right (one_of (gives_byte b) gs) (one_of (is_given gs) (counted n (suc b) (suc c))) h in
    let r = range-area (more gs b c) (suc b) (suc c) n (kept_more gs b c k (omega arith) (omega arith) here) (omega arith) (omega arith)
    (not-given-more gs b c n (suc b) (suc c) (omega arith) later) in
    let e = append_snoc gs (entry b c) (counted n (suc b) (suc c)) in
    record {
      area = ap (λ (a : List ℕ). with_range n a (suc b) (suc c)) (with-area gs b c k (omega arith) (omega arith) here) ∙ r.area ∙ ap area_of e;
      kept = rw e at r.kept;
    }

-- one of several bytes is given exactly where one of them has a code
pub any-given-area : (gs : List Given) (b c n : ℕ) → Kept gs → b + n ≤ 256 → any_taken (area_of gs) b n ≡ one_of (is_given gs) (counted n b c)
unfolding one_of is_given counted any_taken
any-given-area gs b c zero k l = refl
any-given-area gs b c (suc n) k l =
    let m = area-length gs in
    rw (drop-cons (area_of gs) b 0 (omega arith), area-code gs b 0 (omega arith), taken-given gs b k)
    (ap (λ (t : Bool). one_of (gives_byte b) gs || t) (any-given-area gs (suc b) (suc c) n k (omega arith)))
