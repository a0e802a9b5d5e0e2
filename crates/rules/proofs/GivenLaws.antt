-- Laws of what a charmap's lines give (specs/Charmap): each byte is below 256, each code is a character, no byte is given twice.
use Rattle.std.specs.Prelude.{if◌then◌else◌}
use mathlib.Core.Path.{◌≡◌, refl, sym, ap, ◌∙◌}
use mathlib.Core.Bool.{Bool, true, false, not, ◌&&◌}
use mathlib.Core.List.Memᴰ
use mathlib.Core.List.{List, [], ◌∷◌, ◌++◌, Memᴰ}
use mathlib.Core.Logic.{⊎_elim}
use Prim.Native.Nat.{ℕ, zero, suc, pred, ◌+◌, ◌-◌, ◌≤◌, ◌<◌}
use native.Mathlib.Omega.{arith}
use lib.ListN.{length, drop}
use lib.Dec.{ltb, leb, eqb}
use borrow.Author.Tests.{leb-true, leb-false, le-leb, lt-leb, lt-ltb, eqb-true, eqb-false, eq-eqb, ne_eqb, not-true}
use Rattle.base_lists.proofs.Bools.{and_left, and_right, and_intro, or-false-left, or-false-right, or-false-intro, clash, by, cond_both}
use Rattle.rules.specs.Text.{every, one_of, is, ◌unless◌, lowest}
use Rattle.rules.specs.Names.{names_refusal, hex_value, char_shaped, code_of, is_character, is_char_name}
use Rattle.rules.specs.Tokens.{is_text, Token, token_at, the_name, tokens_of, operands, is_range, is_entry}
use Rattle.rules.specs.Lines.{Scan, line_of}
use Rattle.rules.specs.Charmap.{Given, Mapping, MapOutcome, MapEnded, map_ended, map_signs, no_code, counted, gives_byte, is_given, last_token, entry_line, body_line, header_line, sign_header, is_header, map_lines_from, code_given}
use Rattle.rules.proofs.TextLaws.{every-head, every-tail, one_of-append, unless-none, lowest-none}

-- ## What is given

-- no byte is given twice
abbrev pub Apart : List Given → Type 0
Apart [] = Unit {0}
Apart (g ∷ gs) = (is_given gs g ≡ false) × Apart gs

-- What holds of all that is given.
pub record Good (gs : List Given) : Type 0 where
  pub fits : (g : Given) → Memᴰ g gs → g.byte < 256
  pub characters : (g : Given) → Memᴰ g gs → is_character g.code ≡ true
  pub apart : Apart gs

pub good_none : Good []
good_none = record { fits = λ g m. absurd (Memᴰ.not-nil m); characters = λ g m. absurd (Memᴰ.not-nil m); apart = tt }

byte-given : {g : Given} {gs : List Given} → Memᴰ g gs → one_of (gives_byte g.byte) gs ≡ true
unfolding one_of gives_byte
byte-given {g} (Memᴰ.head {x} e) = rw (eq-eqb g.byte x.byte (ap (λ (y : Given). y.byte) e))
byte-given {g} (Memᴰ.tail {x} {xs} m) = by (eqb g.byte x.byte) (λ t. rw t) (λ t. rw t (byte-given m))

-- the byte of an entry decodes to the entry's code
pub code-once : {g : Given} {gs : List Given} → Memᴰ g gs → Apart gs → code_given gs g.byte ≡ g.code
unfolding code_given is_given
code-once {g} (Memᴰ.head {x} e) a = rw (eq-eqb g.byte x.byte (ap (λ (y : Given). y.byte) e)) (ap (λ (y : Given). y.code) (sym e))
code-once {g} (Memᴰ.tail {x} {xs} m) a = by (eqb g.byte x.byte)
    (λ t. clash (byte-given m) (rw (← eqb-true g.byte x.byte t) at a.0))
    (λ t. rw t (code-once m a.1))

-- a byte that is not given decodes to none
pub code-none : (gs : List Given) (b : ℕ) → one_of (gives_byte b) gs ≡ false → code_given gs b ≡ no_code
unfolding one_of gives_byte code_given
code-none [] b h = refl
code-none (g ∷ gs) b h =
    rw (or-false-left (eqb b g.byte) (one_of (gives_byte b) gs) h) (code-none gs b (or-false-right (eqb b g.byte) (one_of (gives_byte b) gs) h))

-- ## More is given

-- entries whose bytes are not given by g and gs: g's byte is not given by them, and theirs not by gs
not-given : (g : Given) (gs hs : List Given) → one_of (is_given (g ∷ gs)) hs ≡ false → (is_given hs g ≡ false) × (one_of (is_given gs) hs ≡ false)
unfolding one_of gives_byte is_given
not-given g gs [] n = (refl, refl)
not-given g gs (h ∷ hs) n =
    let here = or-false-left (is_given (g ∷ gs) h) (one_of (is_given (g ∷ gs)) hs) n in
    let later = not-given g gs hs (or-false-right (is_given (g ∷ gs) h) (one_of (is_given (g ∷ gs)) hs) n) in
    let unlike = eqb-false h.byte g.byte (or-false-left (eqb h.byte g.byte) (is_given gs h) here) in (
      or-false-intro (ne_eqb g.byte h.byte (λ e. unlike (sym e))) later.0,
      or-false-intro (or-false-right (eqb h.byte g.byte) (is_given gs h) here) later.1,
    )

apart-append : (gs hs : List Given) → Apart gs → Apart hs → one_of (is_given gs) hs ≡ false → Apart (gs ++ hs)
unfolding is_given
apart-append [] hs a b n = b
apart-append (g ∷ gs) hs a b n =
    let k = not-given g gs hs n in
    (one_of-append (gives_byte g.byte) gs hs ∙ or-false-intro a.0 k.0, apart-append gs hs a.1 b k.1)

good-append : (gs hs : List Given) → Good gs → Good hs → one_of (is_given gs) hs ≡ false → Good (gs ++ hs)
good-append gs hs a b n = record {
  fits = λ g m. ⊎_elim (a.fits g) (b.fits g) (Memᴰ.append_cases gs m);
  characters = λ g m. ⊎_elim (a.characters g) (b.characters g) (Memᴰ.append_cases gs m);
  apart = apart-append gs hs a.apart b.apart n;
}

-- ## A range

-- An entry of a range: so many after its first.
record Counted (n b c : ℕ) (g : Given) : Type 0 where
  step : ℕ
  inside : step < n
  byte : g.byte ≡ b + step
  code : g.code ≡ c + step

counted-entry : (n b c : ℕ) (g : Given) → Memᴰ g (counted n b c) → Counted n b c g
unfolding counted
counted-entry zero b c g m = absurd (Memᴰ.not-nil m)
counted-entry (suc n) b c g (Memᴰ.head e) =
    let p = ap (λ (y : Given). y.byte) e in
    let q = ap (λ (y : Given). y.code) e in
    record { step = 0; inside = omega arith; byte = omega arith; code = omega arith }
counted-entry (suc n) b c g (Memᴰ.tail m) =
    let r = counted-entry n (suc b) (suc c) g m in
    record { step = suc r.step; inside = omega arith; byte = omega arith; code = omega arith }

-- a range gives no byte before its first
before-counted : (n b c x : ℕ) → x < b → one_of (gives_byte x) (counted n b c) ≡ false
unfolding one_of gives_byte counted
before-counted zero b c x h = refl
before-counted (suc n) b c x h = or-false-intro (ne_eqb x b (λ q. omega arith)) (before-counted n (suc b) (suc c) x (omega arith))

apart-counted : (n b c : ℕ) → Apart (counted n b c)
unfolding counted is_given
apart-counted zero b c = tt
apart-counted (suc n) b c = (before-counted n (suc b) (suc c) b (omega arith), apart-counted n (suc b) (suc c))

good-counted : (n b c : ℕ) → b + n ≤ 256 → ((i : ℕ) → i < n → is_character (c + i) ≡ true) → Good (counted n b c)
good-counted n b c h k = record {
  fits = λ g m. let r = counted-entry n b c g m in omega arith;
  characters = λ g m. let r = counted-entry n b c g m in rw r.code (k r.step r.inside);
  apart = apart-counted n b c;
}

-- ## Characters

-- a character lies below D800, or above DFFF and up to 10FFFF
character-cases : {X : Type 0} (c : ℕ) → is_character c ≡ true → (c < 0xD800 → X) → (0xDFFF < c → c ≤ 0x10FFFF → X) → X
character-cases c h f g =
    let l = leb-true c 0x10FFFF (and_left (leb c 0x10FFFF) (not (leb 0xD800 c && leb c 0xDFFF)) h) in
    let n = not-true (leb 0xD800 c && leb c 0xDFFF) (and_right (leb c 0x10FFFF) (not (leb 0xD800 c && leb c 0xDFFF)) h) in
    by (leb 0xD800 c) (λ t. g (leb-false c 0xDFFF (rw t at n)) l) (λ t. f (leb-false 0xD800 c t))

character-low : (c : ℕ) → c < 0xD800 → is_character c ≡ true
character-low c h = rw (le-leb c 0x10FFFF (omega arith), lt-leb 0xD800 c h)

character-high : (c : ℕ) → 0xDFFF < c → c ≤ 0x10FFFF → is_character c ≡ true
character-high c h k = rw (le-leb c 0x10FFFF k, le-leb 0xD800 c (omega arith), lt-leb c 0xDFFF h)

-- between two characters that do not span D800 to DFFF all are characters
character-between : (low high c : ℕ) → is_character low ≡ true → is_character high ≡ true → (ltb low 0xD800 && ltb 0xDFFF high) ≡ false → low ≤ c → c ≤ high
    → is_character c ≡ true
character-between low high c h k n p q = character-cases low h
    (λ l. character-cases high k (λ u. character-low c (omega arith)) (λ u v. clash (and_intro (lt-ltb low 0xD800 l) (lt-ltb 0xDFFF high u)) n))
    (λ l u. character-cases high k (λ v. character-low c (omega arith)) (λ v w. character-high c (omega arith) (omega arith)))

-- ## Lines keep it so

-- what is given after a line that is not refused is good
abbrev Keeps : MapOutcome → Type 0
Keeps o = o.refusal ≡ 0 → Good o.mapping.given

is_char_name-code : (n : List ℕ) → is_char_name n ≡ true → is_character (code_of n) ≡ true
unfolding is_char_name
is_char_name-code n h = and_right (char_shaped n) (is_character (code_of n)) h

-- an entry's new bytes, by what its tests say
good-entry : (gs : List Given) (first last : List ℕ) (byte : ℕ) → Good gs
    → (every is_char_name (first ∷ last ∷ []) && not (ltb (code_of first) 0xD800 && ltb 0xDFFF (code_of last))) ≡ true
    → (leb (code_of first) (code_of last) && leb (byte + (code_of last - code_of first)) 255) ≡ true
    → one_of (is_given gs) (counted (suc (code_of last - code_of first)) byte (code_of first)) ≡ false
    → Good (gs ++ counted (suc (code_of last - code_of first)) byte (code_of first))
good-entry gs first last byte g c f o =
    let low = code_of first in
    let high = code_of last in
    let names = and_left (every is_char_name (first ∷ last ∷ [])) (not (ltb low 0xD800 && ltb 0xDFFF high)) c in
    let apart = not-true (ltb low 0xD800 && ltb 0xDFFF high) (and_right (every is_char_name (first ∷ last ∷ [])) (not (ltb low 0xD800 && ltb 0xDFFF high)) c) in
    let up = leb-true low high (and_left (leb low high) (leb (byte + (high - low)) 255) f) in
    let short = leb-true (byte + (high - low)) 255 (and_right (leb low high) (leb (byte + (high - low)) 255) f) in
    let isLow = is_char_name-code first (every-head is_char_name first (last ∷ []) names) in
    let isHigh = is_char_name-code last (every-head is_char_name last [] (every-tail is_char_name first (last ∷ []) names)) in
    good-append gs (counted (suc (high - low)) byte low) g
    (good-counted (suc (high - low)) byte low (omega arith) (λ i h. character-between low high (low + i) isLow isHigh apart (omega arith) (omega arith)))
    o

-- an entry that is not refused has passed its tests
entry-tests : (r n : ℕ) (t u v : Bool) → lowest (r ∷ n ∷ 6 unless t ∷ 7 unless u ∷ 10 unless v ∷ []) ≡ 0 → (t ≡ true) × (u ≡ true) × (v ≡ true)
entry-tests r n t u v e =
    let a = (lowest-none n (6 unless t ∷ 7 unless u ∷ 10 unless v ∷ []) (lowest-none r (n ∷ 6 unless t ∷ 7 unless u ∷ 10 unless v ∷ []) e).1).1 in
    let b = lowest-none (6 unless t) (7 unless u ∷ 10 unless v ∷ []) a in
    let c = lowest-none (7 unless u) (10 unless v ∷ []) b.1 in
    let d = lowest-none (10 unless v) [] c.1 in
    (unless-none 6 t (omega arith) b.0, unless-none 7 u (omega arith) c.0, unless-none 10 v (omega arith) d.0)

entry-keeps : (m : Mapping) (ts : List Token) (bad : ℕ) → Good m.given → Keeps (entry_line m ts bad)
unfolding entry_line
entry-keeps m ts bad g e =
    let first : List ℕ = the_name (token_at ts 0) in
    let last : List ℕ = if is_range ts then the_name (token_at ts 2) else first in
    let low = code_of first in
    let high = code_of last in
    let byte : ℕ = hex_value 0 (last_token ts).text in
    let fits : Bool = leb low high && leb (byte + (high - low)) 255 in
    let taken : Bool = one_of (is_given m.given) (counted (suc (high - low)) byte low) in
    let k = entry-tests bad (names_refusal (first ∷ last ∷ [])) (every is_char_name (first ∷ last ∷ []) && not (ltb low 0xD800 && ltb 0xDFFF high)) fits (not (fits && taken)) e in
    good-entry m.given first last byte g k.0 k.1 (rw k.1 at (not-true (fits && taken) k.2))

sign-keeps : (m : Mapping) (isComment : Bool) (os : List Token) (bad : ℕ) → Keeps (sign_header m isComment os bad)
unfolding sign_header
sign-keeps m isComment os bad e = good_none

header-keeps : (m : Mapping) (marks : List ℕ) → Good m.given → Keeps (header_line m marks)
unfolding header_line
header-keeps m marks g =
    let ts : List Token = tokens_of marks in
    let os : List Token = operands (drop 1 ts) in
    let n : List ℕ = the_name (token_at ts 0) in
    let bad : ℕ = 2 unless every is_text marks in
    cond_both Keeps (eqb (length ts) 0) (λ e. g)
    (cond_both Keeps (not (is_header marks)) (λ e. good_none)
    (cond_both Keeps (is n "comment_char") (sign-keeps m true os bad)
    (cond_both Keeps (is n "escape_char") (sign-keeps m false os bad) (λ e. g))))

body-keeps : (m : Mapping) (marks : List ℕ) → Good m.given → Keeps (body_line m marks)
unfolding body_line
body-keeps m marks g =
    let ts : List Token = tokens_of marks in
    cond_both Keeps (eqb (length ts) 0) (λ e. g)
    (cond_both Keeps (is_entry ts) (entry-keeps m ts (2 unless every is_text marks) g) (λ e. g))

next-good : (o : MapOutcome) (number : ℕ) (r : MapEnded) → (o.refusal ≡ 0 → Good r.given)
    → Good (if eqb o.refusal 0 then r else map_ended o.refusal number []).given
next-good o number r h = by (eqb o.refusal 0) (λ t. rw t (h (eqb-true o.refusal 0 t))) (λ t. rw t good_none)

-- what all lines give is good
pub lines-good : (m : Mapping) (number k : ℕ) (bs : List ℕ) → Good m.given → Good (map_lines_from m number k bs).given
unfolding map_lines_from
lines-good m number k [] g = cond_both (λ (e : MapEnded). Good e.given) m.closed g good_none
lines-good m number (suc k) (b ∷ bs) g = lines-good m number k bs g
lines-good m number zero (b ∷ bs) g =
    let l : Scan = line_of (map_signs m) (b ∷ bs) in
    let o : MapOutcome = if m.opened then body_line m l.marks else header_line m l.marks in
    let k : Keeps o = cond_both Keeps m.opened (body-keeps m l.marks g) (header-keeps m l.marks g) in
    let r : MapEnded = map_lines_from o.mapping (number + l.feeds) (pred l.size) bs in
    cond_both (λ (e : MapEnded). Good e.given) m.closed g
    (next-good o number r (λ e. lines-good o.mapping (number + l.feeds) (pred l.size) bs (k e)))
