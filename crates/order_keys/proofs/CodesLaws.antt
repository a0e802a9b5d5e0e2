-- The characters of a string, three bytes each, as write_codes writes them.
use mathlib.Core.Path.{◌≡◌, refl}
use mathlib.Core.Bool.{true, not}
use mathlib.Core.List.{List, [], ◌++◌}
use Prim.Native.Nat.{ℕ, ◌+◌, ◌≤◌, ◌<◌}
use native.Mathlib.Numerals.{add-one}
use native.Mathlib.Omega.{arith}
use lib.ListN.{length, get_or, drop, drop_of_length-le}
use lib.Seq.{drop-cons}
use lib.Dec.{leb}
use borrow.Author.Tests.{leb-true}
use Rattle.base_lists.proofs.Bools.{and_left}
use Rattle.rules.specs.Text.{within}
use Rattle.rules.specs.Names.{is_character}
use Rattle.rules.specs.Order.{good_string, three, codes_key}
use Rattle.rules.proofs.TextLaws.{every-get_d}
use Rattle.order_find.proofs.FoundLaws.{good-characters}
use Rattle.order_keys.specs.Writing.{ThreeFit, Puts}
use Rattle.order_keys.proofs.PutLaws.{Putting, putting-none, putting-room, putting-more, putting-all}

code-small : (s : List ℕ) (i : ℕ) → good_string s ≡ true → get_or s i 0 < 16777216
code-small s i g =
    let c : ℕ = get_or s i 0 in
    let h : is_character c ≡ true = every-get_d is_character s i 0 refl (good-characters s g) in
    let l = leb-true c 0x10FFFF (and_left (leb c 0x10FFFF) (not (within 0xD800 0xDFFF c)) h) in
    omega arith

codes-cons : (s : List ℕ) (i : ℕ) → i < length s → codes_key (drop i s) ≡ three (get_or s i 0) [] ++ codes_key (drop (i + 1) s)
unfolding codes_key
codes-cons s i h = rw (add-one i, drop-cons s i 0 h)

codes-nil : (s : List ℕ) (i : ℕ) → length s ≤ i → codes_key (drop i s) ≡ []
unfolding codes_key
codes-nil s i h = rw (drop_of_length-le s h)

-- the characters from i on are still to be written
pub record Codes (s room : List ℕ) (at : ℕ) (now : List ℕ) (i next : ℕ) : Type 0 where
  pub putting : Putting room at (codes_key s) now next (codes_key (drop i s))

pub codes-none : (s room : List ℕ) (at : ℕ) → Codes s room at room 0 at
codes-none s room at = record { putting = putting-none room at (codes_key s) }

module _ {s room now : List ℕ} {at i next : ℕ} (v : Codes s room at now i next) where
  pub code_fits : good_string s ≡ true → at + length (codes_key s) ≤ length room → i < length s → ThreeFit now next (get_or s i 0)
  code_fits g l h = record {
    small = code-small s i g;
    inside = putting-room v.putting (three (get_or s i 0) []) (codes_key (drop (i + 1) s)) (codes-cons s i h) l;
  }

  pub codes-more : {after : List ℕ} {behind : ℕ} → i < length s → Puts now next (three (get_or s i 0) []) after behind → Codes s room at after (i + 1) behind
  codes-more h p = record { putting = putting-more v.putting (three (get_or s i 0) []) (codes_key (drop (i + 1) s)) (codes-cons s i h) p }

  pub codes_all : length s ≤ i → Puts room at (codes_key s) now next
  codes_all h = putting-all v.putting (codes-nil s i h)
