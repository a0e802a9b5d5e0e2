-- Decoding: what stands at a byte of an accepted area, the loop of all_mapped, and the answers of decode.
use Rattle.std.specs.Prelude.{Err, Ok}
use mathlib.Core.Path.{◌≡◌, refl, sym, ◌∙◌}
use mathlib.Core.Bool.{Bool, true, false, not}
use mathlib.Core.List.{List, map}
use Prim.Native.Nat.{ℕ, ◌+◌, ◌≤◌, ◌<◌}
use native.Mathlib.Numerals.{add-one}
use native.Mathlib.Omega.{arith}
use mir.Syntax.{w8}
use mir.Val.{Fits}
use lib.ListN.{length, get_or, take, drop, length-map, drop_of_length-le}
use lib.Seq.{drop-cons}
use borrow.Author.Tests.{lt-ltb, le-ltb, ne_eqb}
use Rattle.rules.specs.Text.{every}
use Rattle.rules.specs.Names.{is_character}
use Rattle.rules.specs.Charmap.{no_code}
use Rattle.rules.specs.Coding.{is_code, area_accepted, code_at, decode_of}
use Rattle.rules.specs.Calls.{over, written_as, area_call, decode_call}
use Rattle.rules.proofs.TextLaws.{every-get_d}
use Rattle.rules.proofs.AreaLaws.{accepted-parts, code-at}
use Rattle.base_units.specs.declared.Refusal.TheVariants.{BadString, NotMapped, NoRoom}
use Rattle.base_units.specs.Numbers.{number_of}
use Rattle.base_units.specs.declared.Refusal.{Refusal}
use Rattle.charmap_coding.specs.Answers.{written_is}
use Rattle.charmap_coding.proofs.AcceptLaws.{area-granted, area-refused}

-- ## What stands at a byte

module _ (area bs : List ℕ) (i : ℕ) (a : area_accepted area ≡ true) (fits : (j : ℕ) → Fits w8 (get_or bs j 0)) where
  pub byte_inside : get_or bs i 0 < length area
  byte_inside = omega (arith, accepted-parts area a, fits i)

  pub byte-code : get_or area (get_or bs i 0) 0 ≡ code_at area (get_or bs i 0)
  byte-code = sym (code-at area (get_or bs i 0) 0 (accepted-parts area a).size (omega (arith, fits i)))

  -- a byte has a character, or none
  byte-character : (get_or area (get_or bs i 0) 0 ≡ 0x110000 → ⊥) → is_character (code_at area (get_or bs i 0)) ≡ true
  byte-character n =
      let c : ℕ = code_at area (get_or bs i 0) in
      let is : is_code c ≡ true = every-get_d is_code (take 256 area) (get_or bs i 0) no_code refl (accepted-parts area a).codes in
      rw (ne_eqb c no_code (λ e. n (byte-code ∙ e))) at is

-- ## all_mapped

-- the bytes before i have a character, so that those from i on decide
pub record Mapped (area bs : List ℕ) (i : ℕ) : Type 0 where
  pub same : every is_character (map (code_at area) bs) ≡ every is_character (map (code_at area) (drop i bs))

pub mapped-none : (area bs : List ℕ) → Mapped area bs 0
mapped-none area bs = record { same = refl }

module _ {area bs : List ℕ} {i : ℕ} (v : Mapped area bs i) where
  module _ (a : area_accepted area ≡ true) (fits : (j : ℕ) → Fits w8 (get_or bs j 0)) (h : i < length bs) where
    pub mapped-no : get_or area (get_or bs i 0) 0 ≡ 0x110000 → false ≡ every is_character (map (code_at area) bs)
    unfolding every
    mapped-no e =
        let c : code_at area (get_or bs i 0) ≡ no_code = sym (byte-code area bs i a fits) ∙ e in
        sym (v.same ∙ rw (drop-cons bs i 0 h, c))

    pub mapped-more : (get_or area (get_or bs i 0) 0 ≡ 0x110000 → ⊥) → Mapped area bs (i + 1)
    unfolding every
    mapped-more n = record { same = v.same ∙ rw (add-one i, drop-cons bs i 0 h, byte-character area bs i a fits n) }

  pub mapped-all : length bs ≤ i → true ≡ every is_character (map (code_at area) bs)
  unfolding every
  mapped-all h = sym (v.same ∙ rw (drop_of_length-le bs h))

-- ## decode

pub decode-unaccepted : (area bs room : List ℕ) (r : Refusal) → number_of r ≡ area_call area → written_is (Err r) room ≡ decode_call area bs room
unfolding decode_call written_as decode_of
decode-unaccepted area bs room r e = let f = area-refused area r e in rw (f.0, f.1)

module _ (area bs room : List ℕ) (checks : 0 ≡ area_call area) where
  accepts : area_accepted area ≡ true
  accepts = area-granted area checks

  pub decode-long : 4096 < length bs → written_is (Err BadString) room ≡ decode_call area bs room
  unfolding decode_call written_as decode_of
  decode-long h = rw (accepts, lt-ltb 4096 (length bs) h)

  module _ (h : length bs ≤ 4096) {b : Bool} (maps : b ≡ every is_character (map (code_at area) bs)) where
    pub decode-unmapped : not b ≡ true → written_is (Err NotMapped) room ≡ decode_call area bs room
    unfolding decode_call written_as decode_of
    decode-unmapped e = rw (accepts, le-ltb 4096 (length bs) h, ← maps, e)

    module _ (yes-maps : not b ≡ false) where
      pub decode-short : length room < length bs → written_is (Err NoRoom) room ≡ decode_call area bs room
      unfolding decode_call written_as decode_of
      decode-short k =
          rw (accepts, le-ltb 4096 (length bs) h, ← maps, yes-maps, length-map bs (code_at area), lt-ltb (length room) (length bs) k)

      pub decode-written : {o : List ℕ} → length bs ≤ length room → o ≡ over (map (code_at area) bs) room
          → written_is (Ok (length bs)) o ≡ decode_call area bs room
      unfolding decode_call written_as decode_of
      decode-written k e =
          rw (e, accepts, le-ltb 4096 (length bs) h, ← maps, yes-maps, length-map bs (code_at area), le-ltb (length room) (length bs) k)
          (rw (length-map bs (code_at area)))
