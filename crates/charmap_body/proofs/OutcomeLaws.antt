-- What an entry gives: the tests of its functions, and that its refusal is the paper's.
use Rattle.std.specs.Prelude.{if◌then◌else◌, Err, None, Ok, Option, Result, Some}
use Rattle.std.specs.Result.{result_err}
use mathlib.Core.Path.{◌≡◌, refl, sym, ap, ◌∙◌, subst}
use mathlib.Core.Bool.{Bool, true, false, not, ◌&&◌}
use mathlib.Core.List.{List, [], ◌∷◌, ◌++◌}
use Prim.Native.Nat.{ℕ, suc, ◌+◌, ◌-◌, ◌≤◌, ◌<◌}
use native.Mathlib.Omega.{arith}
use native.Mathlib.Numerals.{add-one}
use lib.ListN.{length}
use lib.Dec.{ltb, leb}
use borrow.Author.Tests.{leb-true, le-leb, leb-false, lt-leb, lt-ltb, le-ltb, not-true}
use Rattle.base_lists.proofs.Bools.{and_left, by}
use Rattle.rules.specs.Text.{every, ◌unless◌, lower, lowest, one_of}
use Rattle.rules.specs.Names.{names_refusal, hex_value, char_shaped, code_of, is_character, is_char_name}
use Rattle.rules.specs.Tokens.{Token, token_at, the_name, is_range}
use Rattle.rules.specs.Charmap.{Given, Mapping, counted, last_token, entry_line, area_of, no_code, is_given}
use Rattle.rules.proofs.TextLaws.{lower-none, lowest-none, unless-none}
use Rattle.rules.proofs.CharmapLaws.{area-length}
use Rattle.text_tokens.proofs.RefusalLaws.{lower-none-left, lower-none-right, lower-assoc}
use Rattle.charmap_numbers.specs.Giving.{with_range, any_taken}
use Rattle.charmap_numbers.proofs.KeptLaws.{any-given-area, range-area}
use Rattle.base_units.specs.declared.CodePoint.{CodePoint}
use Rattle.base_units.specs.declared.Refusal.{Refusal}
use Rattle.base_units.specs.declared.Refusal.TheVariants.{Unknown, TooMany, ByteTwice}
use Rattle.base_units.specs.Numbers.{number_of, number_or_none}
use Rattle.base_units.proofs.NumberLaws.{number_of-some}
use Rattle.text_names.specs.Named.{CodeIs}
use Rattle.charmap_body.specs.Outcomes.{Holds, Area, are_chars, fits_in, given_twice, range_refusal, before_codes, entry_refusal, CharOf, CharIs, CodesBetween, CodesAre, Giving, OutcomeIs, RangeIs, codes_refusal, CodesGive, EntryIs, new_of, EnterIs}

-- ## The code of a name

module _ (n : List ℕ) {s : Option CodePoint} (w : CodeIs n s) where
  pub char-other : s ≡ None → is_char_name n ≡ false
  unfolding is_char_name
  char-other e = let h : char_shaped n ≡ false = subst (CodeIs n) e w in rw h

  module _ {c : CodePoint} {t : Bool} (e : s ≡ Some c) (f : t ≡ is_character c.0) where
    pub char-yes : t ≡ true → CharOf n c.0
    unfolding is_char_name
    char-yes h =
        let k = subst (CodeIs n) e w in
        let i : is_character c.0 ≡ true = sym f ∙ h in
        record {
          shaped = rw (k.shaped, ← k.code) i;
          code = k.code;
          small = leb-true c.0 0x10FFFF (and_left (leb c.0 0x10FFFF) (not (leb 0xD800 c.0 && leb c.0 0xDFFF)) i);
        }

    pub char-no : t ≡ false → is_char_name n ≡ false
    unfolding is_char_name
    char-no h = let k = subst (CodeIs n) e w in rw (k.shaped, ← k.code) (sym f ∙ h)

-- ## The codes of two names

pub spans-low : (low high : ℕ) → low < 0xD800 → ltb 0xDFFF high ≡ (ltb low 0xD800 && ltb 0xDFFF high)
spans-low low high h = rw (lt-ltb low 0xD800 h)

pub spans-high : (low high : ℕ) → 0xD800 ≤ low → false ≡ (ltb low 0xD800 && ltb 0xDFFF high)
spans-high low high h = rw (le-ltb low 0xD800 h)

module _ (first last : List ℕ) {s : Option CodePoint} (w : CharIs first s) where
  pub codes-first : s ≡ None → are_chars first last ≡ false
  unfolding are_chars every
  codes-first e = let h : is_char_name first ≡ false = subst (CharIs first) e w in rw h

  module _ {low : CodePoint} (t : Option CodePoint) (e : s ≡ Some low) (x : CharIs last t) where
    one : CharOf first low.0
    one = subst (CharIs first) e w

    pub codes-last : t ≡ None → are_chars first last ≡ false
    unfolding are_chars every
    codes-last f = let h : is_char_name last ≡ false = subst (CharIs last) f x in rw (one.shaped, h)

    module _ {high : CodePoint} {u : Bool} (f : t ≡ Some high) (k : u ≡ (ltb low.0 0xD800 && ltb 0xDFFF high.0)) where
      two : CharOf last high.0
      two = subst (CharIs last) f x

      pub codes-span : u ≡ true → are_chars first last ≡ false
      unfolding are_chars every
      codes-span h = rw (one.shaped, two.shaped, ← one.code, ← two.code, ← k, h)

      pub codes-both : u ≡ false → CodesBetween first last low.0 high.0
      unfolding are_chars every
      codes-both h = record {
        chars = rw (one.shaped, two.shaped, ← one.code, ← two.code, ← k, h);
        low-code = one.code;
        high-code = two.code;
        small = two.small;
      }

pub codes-small : (first last : List ℕ) {s : Option (CodePoint × CodePoint)} {low high : CodePoint} → CodesAre first last s → s ≡ Some (low, high) → high.0 ≤ 0x10FFFF
codes-small first last {low = low} {high} w e = let k : CodesBetween first last low.0 high.0 = subst (CodesAre first last) e w in k.small

-- ## A range

held-length : {area : List ℕ} → Area area → length area ≡ 512
held-length a = ap length a.holds.same ∙ area-length a.given

-- the bytes of a range lie in the area
pub range-room : {area : List ℕ} (byte low high : ℕ) → Area area → byte + (high - low) ≤ 255 → (length area ≡ 512) × (byte + (high - low + 1) ≤ 256)
range-room byte low high a h = (held-length a, omega arith)

not-fitting : (low high byte : ℕ) (gs : List Given) → fits_in low high byte ≡ false → range_refusal low high byte gs ≡ 7
unfolding range_refusal lower
not-fitting low high byte gs h = rw h

fitting : (low high byte : ℕ) (gs : List Given) (t : Bool) → fits_in low high byte ≡ true → given_twice low high byte gs ≡ t → range_refusal low high byte gs ≡ (if t then 10 else 0)
unfolding range_refusal lower
fitting low high byte gs true h k = rw (h, k)
fitting low high byte gs false h k = rw (h, k)

module _ (area : List ℕ) (low : CodePoint) (high byte : ℕ) where
  pub range_back : high < low.0 → RangeIs area low.0 high byte (Err TooMany)
  range_back h = λ gs x. record { same = not-fitting low.0 high byte gs (rw (lt-leb low.0 high h)); some = omega arith }

  module _ (up : low.0 ≤ high) where
    pub range-past : 255 < byte + (high - low.0) → RangeIs area low.0 high byte (Err TooMany)
    range-past h = λ gs x. record {
      same = not-fitting low.0 high byte gs (rw (le-leb low.0 high up, lt-leb (byte + (high - low.0)) 255 h));
      some = omega arith;
    }

    module _ (short : byte + (high - low.0) ≤ 255) {t : Bool} (f : t ≡ any_taken area byte (high - low.0 + 1)) where
      fits : fits_in low.0 high byte ≡ true
      fits = rw (le-leb low.0 high up, le-leb (byte + (high - low.0)) 255 short)

      twice : (gs : List Given) → Holds area gs → given_twice low.0 high byte gs ≡ t
      twice gs x =
          let n : suc (high - low.0) ≡ high - low.0 + 1 = sym (add-one (high - low.0)) in
          sym (any-given-area gs byte low.0 (suc (high - low.0)) x.kept (omega arith))
          ∙ ap (λ (k : ℕ). any_taken (area_of gs) byte k) n
          ∙ ap (λ (a : List ℕ). any_taken a byte (high - low.0 + 1)) (sym x.same)
          ∙ sym f

      pub range-taken : t ≡ true → RangeIs area low.0 high byte (Err ByteTwice)
      range-taken h = λ gs x. record { same = fitting low.0 high byte gs true fits (twice gs x ∙ h); some = omega arith }

      pub range_gives : high ≤ 0x10FFFF → t ≡ false → RangeIs area low.0 high byte (Ok (byte, low, (high - low.0 + 1)))
      range_gives k h = λ gs x. record {
        none = fitting low.0 high byte gs false fits (twice gs x ∙ h);
        from = refl;
        code = refl;
        many = add-one (high - low.0);
        bytes = omega arith;
        codes = omega arith;
      }

-- ## An entry

pub before_text : (text : Bool) (names : ℕ) → text ≡ true → names ≡ before_codes text names
unfolding before_codes
before_text text names h = sym (rw h (lower-none-left names))

pub before-bad : (text : Bool) (names : ℕ) {r : ℕ} → text ≡ false → r ≡ lower 2 names → r ≡ before_codes text names
unfolding before_codes
before-bad text names h e = e ∙ sym (rw h)

-- 6 comes before 7 and 10
six-before : (t u : Bool) → lower 6 (lower (7 unless t) (10 unless u)) ≡ 6
unfolding lower
six-before true true = refl
six-before true false = refl
six-before false true = refl
six-before false false = refl

-- the refusal of an entry: before its codes, of its codes, of its bytes
entry-split : (text : Bool) (names : ℕ) (first last : List ℕ) (byte : ℕ) (gs : List Given)
    → entry_refusal (2 unless text) names first last byte gs ≡ lower (before_codes text names) (codes_refusal first last byte gs)
unfolding entry_refusal lowest before_codes codes_refusal range_refusal
entry-split text names first last byte gs =
    let low = code_of first in
    let high = code_of last in
    let d : ℕ = 7 unless fits_in low high byte in
    let e : ℕ = 10 unless not (fits_in low high byte && given_twice low high byte gs) in
    let c : ℕ = 6 unless are_chars first last in
    ap (λ (x : ℕ). lower (2 unless text) (lower names (lower c (lower d x)))) (lower-none-right e)
    ∙ sym (lower-assoc (2 unless text) names (lower c (lower d e)))

-- ### Of its codes

module _ (first last : List ℕ) (byte : ℕ) (area : List ℕ) {s : Option (CodePoint × CodePoint)} (w : CodesAre first last s) where
  pub codes-none : s ≡ None → CodesGive first last byte area (Err Unknown)
  unfolding codes_refusal range_refusal
  codes-none e = λ gs x.
      let n : are_chars first last ≡ false = subst (CodesAre first last) e w in
      let low = code_of first in
      let high = code_of last in
      record {
        same = ap (λ (c : Bool). lower (6 unless c) (range_refusal low high byte gs)) n
            ∙ six-before (fits_in low high byte) (not (fits_in low high byte && given_twice low high byte gs));
        some = omega arith;
      }

  module _ {low high : CodePoint} (e : s ≡ Some (low, high)) where
    found : CodesBetween first last low.0 high.0
    found = subst (CodesAre first last) e w

    -- where the codes are characters, the bytes decide
    codes-range : (gs : List Given) → range_refusal (code_of first) (code_of last) byte gs ≡ codes_refusal first last byte gs
    unfolding codes_refusal
    codes-range gs =
        let r = range_refusal (code_of first) (code_of last) byte gs in
        sym (ap (λ (c : Bool). lower (6 unless c) r) found.chars ∙ lower-none-left r)

    pub codes-give : (t : Result (ℕ × CodePoint × ℕ) Refusal) → RangeIs area low.0 high.0 byte t → CodesGive first last byte area t
    codes-give t y = λ gs x.
        let z : OutcomeIs (range_refusal (code_of first) high.0 byte gs) (code_of first) high.0 byte t =
        subst (λ (c : ℕ). OutcomeIs (range_refusal c high.0 byte gs) c high.0 byte t) found.low-code (y gs x) in
        let u : OutcomeIs (range_refusal (code_of first) (code_of last) byte gs) (code_of first) (code_of last) byte t =
        subst (λ (c : ℕ). OutcomeIs (range_refusal (code_of first) c byte gs) (code_of first) c byte t) found.high-code z in
        subst (λ (r : ℕ). OutcomeIs r (code_of first) (code_of last) byte t) (codes-range gs) u

-- ### Of all of it

outcome-told : (refusal low high byte : ℕ) (t : Result (ℕ × CodePoint × ℕ) Refusal) → OutcomeIs refusal low high byte t → refusal ≡ number_or_none (result_err t)
outcome-told refusal low high byte (Ok (b, c, n)) w = w.none
outcome-told refusal low high byte (Err r) w = w.same

-- what is given where there is no refusal
outcome-none : (refusal other low high byte : ℕ) (t : Result (ℕ × CodePoint × ℕ) Refusal) → number_or_none (result_err t) ≡ 0 → other ≡ 0 → OutcomeIs refusal low high byte t
    → OutcomeIs other low high byte t
outcome-none refusal other low high byte (Ok (b, c, n)) h z w = record { none = z; from = w.from; code = w.code; many = w.many; bytes = w.bytes; codes = w.codes }
outcome-none refusal other low high byte (Err r) h z w = absurd (number_of-some r h)

module _ (text : Bool) (names : ℕ) (first last : List ℕ) (byte : ℕ) (area : List ℕ) (before e l : Option Refusal) (t : Result (ℕ × CodePoint × ℕ) Refusal)
    (b : number_or_none before ≡ before_codes text names) (w : CodesGive first last byte area t) (f : e ≡ result_err t)
    (k : number_or_none l ≡ lower (number_or_none before) (number_or_none e)) where
  entry-whole : (gs : List Given) → Holds area gs → entry_refusal (2 unless text) names first last byte gs ≡ number_or_none l
  entry-whole gs x =
      entry-split text names first last byte gs
      ∙ ap (λ (n : ℕ). lower (before_codes text names) n) (outcome-told _ _ _ _ t (w gs x))
      ∙ ap (λ (n : ℕ). lower n (number_or_none (result_err t))) (sym b)
      ∙ ap (λ (o : Option Refusal). lower (number_or_none before) (number_or_none o)) (sym f)
      ∙ sym k

  pub entry_gives : l ≡ None → EntryIs text names first last byte area t
  entry_gives h = λ gs x.
      let z : lower (number_or_none before) (number_or_none e) ≡ 0 = sym k ∙ ap number_or_none h in
      let n : number_or_none e ≡ 0 = (lower-none (number_or_none before) (number_or_none e) z).1 in
      outcome-none _ _ _ _ _ t (ap number_or_none (sym f) ∙ n) (entry-whole gs x ∙ ap number_or_none h) (w gs x)

  pub entry-refused : {r : Refusal} → l ≡ Some r → EntryIs text names first last byte area (Err r)
  entry-refused {r} h = λ gs x. record { same = entry-whole gs x ∙ ap number_or_none h; some = let z = number_of-some r in omega arith }

-- ## What is given after an entry

-- an entry that is not refused gives no byte twice
not-twice : (bad names : ℕ) (first last : List ℕ) (byte : ℕ) (gs : List Given) → entry_refusal bad names first last byte gs ≡ 0
    → one_of (is_given gs) (new_of first last byte) ≡ false
unfolding entry_refusal
not-twice bad names first last byte gs e =
    let low = code_of first in
    let high = code_of last in
    let fits : Bool = fits_in low high byte in
    let taken : Bool = given_twice low high byte gs in
    let d : ℕ = 7 unless fits in
    let x : ℕ = 10 unless not (fits && taken) in
    let c : ℕ = 6 unless are_chars first last in
    let r₁ = (lowest-none bad (names ∷ c ∷ d ∷ x ∷ []) e).1 in
    let r₂ = (lowest-none names (c ∷ d ∷ x ∷ []) r₁).1 in
    let r₃ = (lowest-none c (d ∷ x ∷ []) r₂).1 in
    let r₄ = lowest-none d (x ∷ []) r₃ in
    let f = unless-none 7 fits (omega arith) r₄.0 in
    let n = unless-none 10 (not (fits && taken)) (omega arith) (lowest-none x [] r₄.1).0 in
    let k : (true && taken) ≡ false = rw f at (not-true (fits && taken) n) in
    k

module _ (text : Bool) (names : ℕ) (first last : List ℕ) (byte : ℕ) {area : List ℕ} {s : Result (ℕ × CodePoint × ℕ) Refusal} (w : EntryIs text names first last byte area s) where
  pub enter-refused : {r : Refusal} → s ≡ Err r → EnterIs text names first last byte area area (Err r)
  enter-refused {r} e = λ gs x.
      record {
        same = (subst (EntryIs text names first last byte area) e w gs x).same;
        given = λ z. absurd (number_of-some r z);
        untouched = λ z. refl;
      }

  module _ {b n : ℕ} {c : CodePoint} (e : s ≡ Ok (b, c, n)) where
    pub enter-room : Area area → (length area ≡ 512) × (b + n ≤ 256) × (c.0 + n ≤ 0x110000)
    enter-room a =
        let k = subst (EntryIs text names first last byte area) e w a.given a.holds in
        (held-length a, k.bytes, k.codes)

    pub enter-gives : {after : List ℕ} → after ≡ with_range n area b c.0 → EnterIs text names first last byte area after (Ok tt)
    enter-gives {after} f = λ gs x.
        let k = subst (EntryIs text names first last byte area) e w gs x in
        let low = code_of first in
        let m : ℕ = suc (code_of last - low) in
        let i : byte + m ≤ 256 = omega (arith, k.from, k.many, k.bytes) in
        let j : low + m ≤ no_code = omega (arith, k.code, k.many, k.codes) in
        let r = range-area gs byte low m x.kept i j (not-twice (2 unless text) names first last byte gs k.none) in
        record {
          same = k.none;
          given = λ z. record {
            same = f ∙ ap (λ (y : ℕ). with_range y area b c.0) k.many ∙ ap (λ (y : ℕ). with_range m area y c.0) k.from
                ∙ ap (λ (y : ℕ). with_range m area byte y) k.code ∙ ap (λ (y : List ℕ). with_range m y byte low) x.same ∙ r.area;
            kept = r.kept;
          };
          untouched = λ z. absurd (z refl);
        }

-- ## For callers: the paper's line

module _ (m : Mapping) (ts : List Token) (bad : ℕ) (first last : List ℕ) (names byte : ℕ)
    (f : the_name (token_at ts 0) ≡ first)
    (l : (if is_range ts then the_name (token_at ts 2) else the_name (token_at ts 0)) ≡ last)
    (n : names_refusal (first ∷ last ∷ []) ≡ names)
    (b : hex_value 0 (last_token ts).text ≡ byte) where
  pub entry-refusal : (entry_line m ts bad).refusal ≡ entry_refusal bad names first last byte m.given
  unfolding entry_line entry_refusal are_chars
  entry-refusal = rw (← n, ← f, ← l, ← b)

  -- what is given after the line
  pub entry-mapping : (entry_line m ts bad).mapping
      ≡ record { chars = m.chars; opened = true; closed = false; given = m.given ++ counted (suc (code_of last - code_of first)) byte (code_of first) }
  unfolding entry_line
  entry-mapping = rw (← f, ← l, ← b)
