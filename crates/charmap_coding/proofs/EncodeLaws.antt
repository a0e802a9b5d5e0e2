-- Encoding: the loop of all_coded, a byte that is written, and the answers of encode_by and encode.
use Rattle.std.specs.Prelude.{Err, Ok, None, Some}
use mathlib.Core.Path.{◌≡◌, refl, ◌∙◌}
use mathlib.Core.Bool.{Bool, true, false, not}
use mathlib.Core.List.{List, [], ◌∷◌, map}
use Prim.Native.Nat.{ℕ, zero, suc, ◌+◌, ◌≤◌, ◌<◌}
use native.Mathlib.Nat.{le_of_suc-le-suc}
use native.Mathlib.Omega.{arith}
use lib.ListN.{length, get_or, set, length-map}
use borrow.Author.Tests.{lt-ltb, le-ltb}
use Rattle.rules.specs.Text.{every, within}
use Rattle.rules.specs.Order.{good_string}
use Rattle.rules.specs.Coding.{area_accepted, byte_at, encode_of}
use Rattle.rules.specs.Calls.{over, written_as, area_call, encode_call}
use Rattle.rules.proofs.TextLaws.{every-head, every-tail}
use Rattle.base_units.specs.declared.Refusal.TheVariants.{BadString, NotMapped, NoRoom}
use Rattle.rules.proofs.PutLaws.{Putting, putting-more}
use Rattle.std.specs.List.{list_all}
use Rattle.base_units.specs.Numbers.{number_of}
use Rattle.base_units.specs.declared.Refusal.{Refusal}
use Rattle.charmap_coding.specs.Answers.{written_is}
use Rattle.charmap_coding.specs.Tables.{byte_found}
use Rattle.charmap_coding.proofs.ByteLaws.{found-some, found-none}
use Rattle.charmap_coding.proofs.AcceptLaws.{area-granted, area-refused}

-- ## all_coded

abbrev pub has_byte : List ℕ → ℕ → Bool
has_byte area c = within 0 255 (byte_at area c)

coded-of : (area s : List ℕ) → list_all (has_byte area) s ≡ every (within 0 255) (map (byte_at area) s)
unfolding every
coded-of area [] = refl
coded-of area (c ∷ s) = rw (coded-of area s)

pub coding-all : (area s : List ℕ) {r : Bool} → r ≡ list_all (has_byte area) s → r ≡ every (within 0 255) (map (byte_at area) s)
coding-all area s e = e ∙ coded-of area s

-- ## write_bytes

byte_small : (f : ℕ → ℕ) (s : List ℕ) (i : ℕ) → every (within 0 255) (map f s) ≡ true → i < length s → within 0 255 (f (get_or s i 0)) ≡ true
byte_small f [] i e h = absurd (omega arith)
byte_small f (x ∷ s) zero e h = every-head (within 0 255) (f x) (map f s) e
byte_small f (x ∷ s) (suc i) e h = byte_small f s i (every-tail (within 0 255) (f x) (map f s) e) (le_of_suc-le-suc h)

module _ (area s room₀ room : List ℕ) (i : ℕ) (v : Putting (byte_at area) s room₀ room i) (h : i < length s) where
  pub putting-byte : {b : ℕ} {room' : List ℕ} → length s ≤ length room₀ → Some b ≡ byte_found (byte_at area (get_or s i 0)) → room' ≡ set room i b
      → Putting (byte_at area) s room₀ room' (i + 1)
  putting-byte k e q = rw q (putting-more v h k (found-some e))

  pub putting-no_byte : {room' : List ℕ} → every (within 0 255) (map (byte_at area) s) ≡ true → None ≡ byte_found (byte_at area (get_or s i 0))
      → Putting (byte_at area) s room₀ room' (i + 1)
  putting-no_byte e n = absurd (found-none (byte_at area (get_or s i 0)) (byte_small (byte_at area) s i e h) n)

-- ## encode_by

module _ (area s room : List ℕ) (accepted : area_accepted area ≡ true) (good : good_string s ≡ true) {b : Bool}
    (codes : b ≡ every (within 0 255) (map (byte_at area) s)) where
  pub encode-uncoded : not b ≡ true → written_is (Err NotMapped) room ≡ encode_call area s room
  unfolding encode_call written_as encode_of
  encode-uncoded e = rw (accepted, good, ← codes, e)

  module _ (yes-codes : not b ≡ false) where
    pub encode-short : length room < length s → written_is (Err NoRoom) room ≡ encode_call area s room
    unfolding encode_call written_as encode_of
    encode-short k = rw (accepted, good, ← codes, yes-codes, length-map s (byte_at area), lt-ltb (length room) (length s) k)

    pub encode-written : {o : List ℕ} → length s ≤ length room → o ≡ over (map (byte_at area) s) room
        → written_is (Ok (length s)) o ≡ encode_call area s room
    unfolding encode_call written_as encode_of
    encode-written k e =
        rw (e, accepted, good, ← codes, yes-codes, length-map s (byte_at area), le-ltb (length room) (length s) k)
        (rw (length-map s (byte_at area)))

-- ## encode

pub encode-unaccepted : (area s room : List ℕ) (r : Refusal) → number_of r ≡ area_call area → written_is (Err r) room ≡ encode_call area s room
unfolding encode_call written_as encode_of
encode-unaccepted area s room r e = let f = area-refused area r e in rw (f.0, f.1)

pub encode-bad : (area s room : List ℕ) {b : Bool} → 0 ≡ area_call area → b ≡ good_string s → not b ≡ true → written_is (Err BadString) room ≡ encode_call area s room
unfolding encode_call written_as encode_of
encode-bad area s room checks good e = let a = area-granted area checks in rw (a, ← good, e)
