-- Laws of decoding and encoding by a charmap area (specs/Coding): what is encoded decodes to the same string, and what is decoded can be encoded.
use mathlib.Core.Path.{◌≡◌, refl, sym, ap, ◌∙◌}
use mathlib.Core.Bool.{true, not}
use mathlib.Core.List.{List, [], ◌∷◌, map}
use Prim.Native.Nat.{ℕ, ◌≤◌}
use native.Mathlib.Omega.{arith}
use lib.ListN.{length, length-map}
use lib.Dec.{ltb, leb}
use borrow.Author.Tests.{leb-true, le-leb, ltb-false, le-ltb, not-false}
use Rattle.base_lists.proofs.Bools.{and_left, and_right, and_intro}
use Rattle.rules.specs.Text.{within, every, granted}
use Rattle.rules.specs.Names.{is_character}
use Rattle.rules.specs.Order.{good_string}
use Rattle.rules.specs.Coding.{area_accepted, code_at, byte_at, decode_of, encode_of}
use Rattle.rules.proofs.TextLaws.{every-head, every-tail}
use Rattle.rules.proofs.ResultLaws.{granted-else, granted-unique}
use Rattle.rules.proofs.AreaLaws.{character-code, area_byte, code-byte}

-- ## What the tests say where a result is granted

-- The parts of a decoding that is granted.
pub record Decoded (area bs : List ℕ) (room : ℕ) (text : List ℕ) : Type 0 where
  pub accepted : area_accepted area ≡ true
  pub short : length bs ≤ 4096
  pub characters : every is_character text ≡ true
  pub fits : length text ≤ room
  pub codes : text ≡ map (code_at area) bs

pub decoded-parts : (area bs : List ℕ) (room : ℕ) (text : List ℕ) → decode_of area bs room ≡ granted text → Decoded area bs room text
unfolding decode_of
decoded-parts area bs room text e =
    let t : List ℕ = map (code_at area) bs in
    let a = granted-else (not (area_accepted area)) 11 0 e in
    let b = granted-else (ltb 4096 (length bs)) 12 0 a.1 in
    let c = granted-else (not (every is_character t)) 14 0 b.1 in
    let d = granted-else (ltb room (length t)) 13 0 c.1 in
    let i : t ≡ text = granted-unique d.1 in
    record {
      accepted = not-false (area_accepted area) a.0;
      short = ltb-false 4096 (length bs) b.0;
      characters = rw i at (not-false (every is_character t) c.0);
      fits = rw i at (ltb-false room (length t) d.0);
      codes = sym i;
    }

pub parts-decoded : {area bs : List ℕ} {room : ℕ} {text : List ℕ} → Decoded area bs room text → decode_of area bs room ≡ granted text
unfolding decode_of
parts-decoded {area} {bs} {room} {text} d =
    rw (← d.codes) (rw (d.accepted, le-ltb 4096 (length bs) d.short, d.characters, le-ltb room (length text) d.fits))

-- The parts of an encoding that is granted.
pub record Encoded (area s : List ℕ) (room : ℕ) (bs : List ℕ) : Type 0 where
  pub accepted : area_accepted area ≡ true
  pub good : good_string s ≡ true
  pub in_byte : every (within 0 255) bs ≡ true
  pub fits : length bs ≤ room
  pub bytes : bs ≡ map (byte_at area) s

pub encoded-parts : (area s : List ℕ) (room : ℕ) (bs : List ℕ) → encode_of area s room ≡ granted bs → Encoded area s room bs
unfolding encode_of
encoded-parts area s room bs e =
    let t : List ℕ = map (byte_at area) s in
    let a = granted-else (not (area_accepted area)) 11 0 e in
    let b = granted-else (not (good_string s)) 12 0 a.1 in
    let c = granted-else (not (every (within 0 255) t)) 14 0 b.1 in
    let d = granted-else (ltb room (length t)) 13 0 c.1 in
    let i : t ≡ bs = granted-unique d.1 in
    record {
      accepted = not-false (area_accepted area) a.0;
      good = not-false (good_string s) b.0;
      in_byte = rw i at (not-false (every (within 0 255) t) c.0);
      fits = rw i at (ltb-false room (length t) d.0);
      bytes = sym i;
    }

pub parts-encoded : {area s : List ℕ} {room : ℕ} {bs : List ℕ} → Encoded area s room bs → encode_of area s room ≡ granted bs
unfolding encode_of
parts-encoded {area} {s} {room} {bs} e =
    rw (← e.bytes) (rw (e.accepted, e.good, e.in_byte, le-ltb room (length bs) e.fits))

-- ## The round trip

-- what is encoded has a byte for each character
pub encode-length : (area s : List ℕ) (room : ℕ) (bs : List ℕ) → encode_of area s room ≡ granted bs → length bs ≡ length s
encode-length area s room bs e = ap length (encoded-parts area s room bs e).bytes ∙ length-map s (byte_at area)

-- each number that is encoded is a byte
pub encode-bytes : (area s : List ℕ) (room : ℕ) (bs : List ℕ) → encode_of area s room ≡ granted bs → every (within 0 255) bs ≡ true
encode-bytes area s room bs e = (encoded-parts area s room bs e).in_byte

-- the bytes of characters decode to them
codes-bytes : (area s : List ℕ) → every (within 0 255) (map (byte_at area) s) ≡ true → map (code_at area) (map (byte_at area) s) ≡ s
codes-bytes area [] h = refl
codes-bytes area (c ∷ s) h =
    let b = leb-true (byte_at area c) 255 (and_right (leb 0 (byte_at area c)) (leb (byte_at area c) 255) (every-head (within 0 255) (byte_at area c) (map (byte_at area) s) h)) in
    let e = code-byte area c (omega arith) in
    let r = codes-bytes area s (every-tail (within 0 255) (byte_at area c) (map (byte_at area) s) h) in
    cc

-- what is encoded decodes to the same string, in any room that holds it
pub decode-encode : (area s bs : List ℕ) (r r' : ℕ) → encode_of area s r ≡ granted bs → length bs ≤ r' → decode_of area bs r' ≡ granted s
unfolding good_string
decode-encode area s bs r r' e h =
    let p = encoded-parts area s r bs e in
    let n = encode-length area s r bs e in
    let l = leb-true (length s) 4096 (and_left (leb (length s) 4096) (every is_character s) p.good) in
    parts-decoded (record {
      accepted = p.accepted;
      short = omega arith;
      characters = and_right (leb (length s) 4096) (every is_character s) p.good;
      fits = omega arith;
      codes = sym (ap (map (code_at area)) p.bytes ∙ codes-bytes area s (rw p.bytes at p.in_byte));
    })

-- ## What is decoded

-- what is decoded is characters only
pub decode-characters : (area bs : List ℕ) (room : ℕ) (text : List ℕ) → decode_of area bs room ≡ granted text → every is_character text ≡ true
decode-characters area bs room text e = (decoded-parts area bs room text e).characters

-- one for each byte
pub decode-length : (area bs : List ℕ) (room : ℕ) (text : List ℕ) → decode_of area bs room ≡ granted text → length text ≡ length bs
decode-length area bs room text e = ap length (decoded-parts area bs room text e).codes ∙ length-map bs (code_at area)

bytes-codes : (area bs : List ℕ) → area_accepted area ≡ true → every is_character (map (code_at area) bs) ≡ true
    → every (within 0 255) (map (byte_at area) (map (code_at area) bs)) ≡ true
unfolding every
bytes-codes area [] a h = refl
bytes-codes area (b ∷ bs) a h =
    let c = code_at area b in
    let rest = map (code_at area) bs in
    let l = area_byte area b a (character-code c (every-head is_character c rest h)) in
    and_intro
    (and_intro (le-leb 0 (byte_at area c) (omega arith)) (le-leb (byte_at area c) 255 (omega arith)))
    (bytes-codes area bs a (every-tail is_character c rest h))

-- what is decoded can be encoded, in any room that holds it
pub encode-decode : (area bs text : List ℕ) (r r' : ℕ) → decode_of area bs r ≡ granted text → length text ≤ r'
    → encode_of area text r' ≡ granted (map (byte_at area) text)
unfolding good_string
encode-decode area bs text r r' e h =
    let p = decoded-parts area bs r text e in
    let n = decode-length area bs r text e in
    let m = length-map text (byte_at area) in
    parts-encoded (record {
      accepted = p.accepted;
      good = and_intro (le-leb (length text) 4096 (omega arith)) p.characters;
      in_byte = rw p.codes (bytes-codes area bs p.accepted (rw p.codes at p.characters));
      fits = omega arith;
      bytes = refl;
    })
