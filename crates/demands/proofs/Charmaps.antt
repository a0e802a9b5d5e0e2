-- Demand 2: "A charmap decodes as written, and decoding what was encoded gives the same characters."
use Rattle.base_units.specs.declared.Refusal.{Refusal}
use Rattle.std.specs.Prelude.{Err, Ok, Result, ℕ}
use mathlib.Core.Path.{◌≡◌, refl, ap, ◌∙◌}
use mathlib.Core.Bool.{true, false, and-false}
use mathlib.Core.List.{List, [], ◌∷◌, ◌++◌, map, map-append, Memᴰ}
use Prim.Native.Nat.{ℕ, ◌≤◌, ◌<◌}
use native.Mathlib.Omega.{arith}
use lib.ListN.{length, get_or, take, drop, length-map, get_or-append}
use lib.Dec.{leb, ltb}
use lib.Seq.{take-append_seam}
use borrow.Author.Tests.{le-ltb}
use Rattle.base_lists.proofs.Bools.{by}
use Rattle.rules.specs.Text.{every, one_of, within, Result as Judged, granted}
use Rattle.rules.specs.Names.{is_character}
use Rattle.rules.specs.Charmap.{Given, map_start, map_lines_from, no_code, gives_byte}
use Rattle.rules.specs.Order.{good_string}
use Rattle.rules.specs.Coding.{area_accepted, code_at, byte_at, encode_of, decode_of}
use Rattle.rules.specs.Calls as calls
use Rattle.rules.specs.Calls.{over, encode_call, decode_call, written_as}
use Rattle.rules.proofs.TextLaws.{every_append, every-cons}
use Rattle.rules.proofs.AreaLaws.{accepted-parts, code-at}
use Rattle.rules.proofs.CharmapLaws.{given_by, given-good, charmap-length, charmap-none}
use Rattle.rules.proofs.CodingLaws.{parts-decoded, decode-encode, encode-length}
use Rattle.base_units.specs.declared.Refusal.TheVariants.{NotMapped}
use Rattle.base_units.proofs.NumberLaws.{number_of-some}
use Rattle.charmap_read.proofs.CodeLaws.{read-gives, read-accepted, read-decodes}
use Rattle.charmap_coding.proofs.AnswerLaws.{written_is-unique}
use Rattle.demands.specs.Answered.{Reads, Decodes, Encodes, first_given}
use Rattle.demands.proofs.InOrder.{read-refusal}
use Rattle.demands.proofs.OneOrder.{refusal-in}

-- what `decode` answers and leaves where the definition grants a text
decode-granted : (area bs room text : List ℕ) (r : Result ℕ Refusal) (room₁ : List ℕ) → decode_of area bs (length room) ≡ granted text → Decodes area bs room r room₁
    → (r ≡ Ok (length text)) × (room₁ ≡ over text room)
unfolding decode_call written_as
decode-granted area bs room text r room₁ g e =
    written_is-unique r (Ok (length text)) room₁ (over text room) (e ∙ ap (λ (x : Judged (List ℕ)). written_as x room) g)

-- ## "A charmap decodes as written"

-- the byte and the code of an entry
abbrev pub byte_of : Given → ℕ
byte_of g = g.byte

abbrev pub code_of : Given → ℕ
code_of g = g.code

-- a charmap in which no ground for a refusal stands is read
pub all_read : (src area : List ℕ) (r : Result Unit (Refusal × ℕ)) (area₁ : List ℕ) → Reads src area r area₁ → leb (length src) 1048576 ≡ true
    → (map_lines_from map_start 1 0 src).refusal ≡ 0 → leb 512 (length area) ≡ true → r ≡ (Ok tt)
unfolding first_given
all_read src area (Ok tt) area₁ e a b c = refl
all_read src area (Err (x, l)) area₁ e a b c = absurd (number_of-some x (rw (a, b, c) at (read-refusal src area (Err (x, l)) area₁ e)))

module _ (src area area₁ : List ℕ) (e : Reads src area (Ok tt) area₁) where
  long : 512 ≤ length area₁
  long = (accepted-parts area₁ (read-accepted src area area₁ e)).size

  entry-code : (g : Given) → Memᴰ g (given_by src) → code_at area₁ g.byte ≡ g.code
  entry-code g m = code-at area₁ g.byte no_code long ((given-good src).fits g m) ∙ read-decodes src area area₁ e g m

  codes-written : (gs : List Given) → ((g : Given) → Memᴰ g gs → Memᴰ g (given_by src))
      → (map code_of gs ≡ map (code_at area₁) (map byte_of gs)) × (every is_character (map code_of gs) ≡ true)
  unfolding every
  codes-written [] h = (refl, refl)
  codes-written (g ∷ gs) h =
      let m = h g (Memᴰ.head refl) in
      let c = entry-code g m in
      let k = codes-written gs (λ x y. h x (Memᴰ.tail y)) in
      let l = k.0 in
      (cc, every-cons is_character g.code (map code_of gs) ((given-good src).characters g m) k.1)

  -- bytes that the charmap's entries give, in any order and however often, decode to the codes of those entries
  pub read-then-decode : (gs : List Given) (room : List ℕ) (r : Result ℕ Refusal) (room₁ : List ℕ) → ((g : Given) → Memᴰ g gs → Memᴰ g (given_by src))
      → length gs ≤ 4096 → length gs ≤ length room → Decodes area₁ (map byte_of gs) room r room₁
      → (r ≡ Ok (length gs)) × (room₁ ≡ over (map code_of gs) room)
  read-then-decode gs room r room₁ h short fits d =
      let k = codes-written gs h in
      let n = length-map gs byte_of in
      let m = length-map gs code_of in
      let w = decode-granted area₁ (map byte_of gs) room (map code_of gs) r room₁
      (parts-decoded (record { accepted = read-accepted src area area₁ e; short = omega arith; characters = k.1; fits = omega arith; codes = k.0 })) d in
      (w.0 ∙ ap Ok m, w.1)

  none-there : (b : ℕ) → b < 256 → one_of (gives_byte b) (given_by src) ≡ false → code_at area₁ b ≡ no_code
  none-there b h t =
      let g = read-gives src area area₁ e in
      let n = charmap-length src (length area) g.numbers g.grants in
      code-at area₁ b no_code long h
      ∙ ap (λ (a : List ℕ). get_or a b no_code) g.there
      ∙ get_or-append g.numbers (drop (length g.numbers) area) no_code b (omega arith)
      ∙ charmap-none src (length area) g.numbers g.grants b h t

  not-all : (xs ys : List ℕ) (b : ℕ) → code_at area₁ b ≡ no_code → every is_character (map (code_at area₁) (xs ++ b ∷ ys)) ≡ false
  unfolding every
  not-all xs ys b h =
      rw (map-append (code_at area₁) xs (b ∷ ys), every_append is_character (map (code_at area₁) xs) (map (code_at area₁) (b ∷ ys)), h)
      (and-false (every is_character (map (code_at area₁) xs)))

  -- a text of at most 4,096 bytes with one that no entry gives is refused by 14
  pub read-then-refuse : (xs ys : List ℕ) (b : ℕ) (room : List ℕ) (r : Result ℕ Refusal) (room₁ : List ℕ) → b < 256 → one_of (gives_byte b) (given_by src) ≡ false
      → length (xs ++ b ∷ ys) ≤ 4096 → Decodes area₁ (xs ++ b ∷ ys) room r room₁ → r ≡ Err NotMapped
  unfolding decode_call decode_of written_as
  read-then-refuse xs ys b room r room₁ h t short d =
      let k = rw (read-accepted src area area₁ e, le-ltb 4096 (length (xs ++ b ∷ ys)) short, not-all xs ys b (none-there b h t)) at d in
      (written_is-unique r (Err NotMapped) room₁ room k).0

-- ## "decoding what was encoded gives the same characters"

-- What an encoding leaves: the bytes that the definition grants stand in front of the room.
record Encoding (area s room room₁ : List ℕ) (n : ℕ) : Type 0 where
  bytes : List ℕ
  grants : encode_of area s (length room) ≡ granted bytes
  there : take n room₁ ≡ bytes

encode-gives : (area s room room₁ : List ℕ) (n : ℕ) → Encodes area s room (Ok n) room₁ → Encoding area s room room₁ n
unfolding encode_call encode_of written_as
encode-gives area s room room₁ n e =
    let bs : List ℕ = map (byte_at area) s in
    by (area_accepted area)
    (λ p. by (good_string s)
    (λ q. by (every (within 0 255) bs)
    (λ r. by (ltb (length room) (length bs))
    (λ k. let z = refusal-in (rw (p, q, r, k) at e) in absurd (omega arith))
    (λ k.
    let w = rw (p, q, r, k) at e in
    let size = ap (λ (c : calls.Written). c.size) w in
    let there = ap (λ (c : calls.Written). c.room) w in
    record {
      bytes = bs;
      grants = rw (p, q, r, k);
      there = ap (λ (x : ℕ). take x room₁) size ∙ ap (take (length bs)) there ∙ take-append_seam bs (drop (length bs) room);
    }))
    (λ r. let z = refusal-in (rw (p, q, r) at e) in absurd (omega arith)))
    (λ q. let z = refusal-in (rw (p, q) at e) in absurd (omega arith)))
    (λ p. let z = refusal-in (rw p at e) in absurd (omega arith))

-- what `encode` wrote `decode` takes back, in any room that holds it
pub encode-then-decode : (area s room room₁ : List ℕ) (n : ℕ) (back : List ℕ) (r : Result ℕ Refusal) (back₁ : List ℕ) → Encodes area s room (Ok n) room₁
    → length s ≤ length back → Decodes area (take n room₁) back r back₁ → (r ≡ Ok (length s)) × (back₁ ≡ over s back)
encode-then-decode area s room room₁ n back r back₁ e h d =
    let v = encode-gives area s room room₁ n e in
    let m = encode-length area s (length room) v.bytes v.grants in
    decode-granted area (take n room₁) back s r back₁
    (ap (λ (bs : List ℕ). decode_of area bs (length back)) v.there ∙ decode-encode area s v.bytes (length room) (length back) v.grants (omega arith)) d
