-- The whole key: its levels and then its characters, how long it is, and what the operation answers in each case.
use Rattle.std.specs.Prelude.{Err, Ok}
use mathlib.Core.Path.{◌≡◌, refl, sym, ap, ◌∙◌}
use mathlib.Core.Bool.{Bool, true, false}
use mathlib.Core.List.{List, [], ◌∷◌, ◌++◌}
use Prim.Native.Nat.{ℕ, zero, suc, ◌+◌, ◌≤◌, ◌<◌}
use native.Mathlib.Omega.{arith}
use lib.ListN.{length, get_or, drop, length-append}
use lib.Seq.{sets-eq, length-sets}
use borrow.Author.Tests.{lt-ltb, le-ltb}
use Rattle.base_lists.proofs.Lists.{All}
use Rattle.rules.specs.Table.{accepted, meaning_in}
use Rattle.rules.specs.Order.{good_string, elements, levels_of, levels_from, codes_key, key_of}
use Rattle.rules.specs.Calls.{over, written_as, key_for, key_call}
use Rattle.table_layout.proofs.PartLaws.{table-good}
use Rattle.base_units.specs.declared.Refusal.TheVariants.{NotAccepted, BadString, NoRoom}
use Rattle.order_keys.specs.Answers.{keyed_as}
use Rattle.order_keys.specs.Writing.{Keyable, Blank, levels_bytes, Puts}
use Rattle.order_keys.proofs.PutLaws.{puts_then}
use Rattle.order_keys.proofs.LevelsLaws.{levels_key-rest}

module _ (t s : List ℕ) where
  key-parts : key_of (meaning_in t) s ≡ levels_bytes t s 0 ++ codes_key s
  unfolding key_of levels_of levels_bytes
  key-parts = levels_key-rest (meaning_in t).rules (levels_from (meaning_in t).items (meaning_in t).rules 0 (elements (meaning_in t).items 0 s)) (codes_key s)

  -- ## Writing it

  module _ (room : List ℕ) (h : length (key_of (meaning_in t) s) ≤ length room) where
    pub levels-room : length (levels_bytes t s 0) ≤ length room
    levels-room = omega (arith, ap length key-parts ∙ length-append (levels_bytes t s 0) (codes_key s))

    module _ {now : List ℕ} {next : ℕ} (p : Puts room 0 (levels_bytes t s 0) now next) where
      pub codes-room : next + length (codes_key s) ≤ length now
      codes-room =
          let l : length now ≡ length room = ap length p.is ∙ length-sets room 0 (levels_bytes t s 0) in
          omega (arith, p.to, ap length key-parts ∙ length-append (levels_bytes t s 0) (codes_key s))

      pub key-put : {after : List ℕ} {behind : ℕ} → Puts now next (codes_key s) after behind → Puts room 0 (key_of (meaning_in t) s) after behind
      key-put q = rw key-parts (puts_then p q)

-- ## The answers

-- both tests passed
pub keyable : (t s : List ℕ) {a b : Bool} → a ≡ accepted t → a ≡ true → b ≡ good_string s → b ≡ true → Keyable t s
keyable t s e h f k = record { checked = sym e ∙ h; good = sym f ∙ k }

module _ (t s room : List ℕ) {a : Bool} (e : a ≡ accepted t) where
  pub key-unaccepted : a ≡ false → keyed_as (Err NotAccepted) room ≡ key_call t s room
  unfolding key_call key_for written_as
  key-unaccepted h = rw (← e, h)

  pub key-bad : {g : Bool} → a ≡ true → g ≡ good_string s → g ≡ false → keyed_as (Err BadString) room ≡ key_call t s room
  unfolding key_call key_for written_as
  key-bad h f k = rw (← e, h, ← f, k)

module _ {t s : List ℕ} (v : Keyable t s) (room : List ℕ) {n : ℕ} (e : n ≡ length (key_of (meaning_in t) s)) where
  pub key-unroomed : length room < n → keyed_as (Err NoRoom) room ≡ key_call t s room
  unfolding key_call key_for written_as
  key-unroomed h =
      let l : length room < length (key_of (meaning_in t) s) = omega (arith, e) in
      rw (v.checked, v.good, lt-ltb (length room) (length (key_of (meaning_in t) s)) l)

  module _ (h : n ≤ length room) where
    pub key-room : length (key_of (meaning_in t) s) ≤ length room
    key-room = omega (arith, e)

    pub key-written : {after : List ℕ} {size : ℕ} → Puts room 0 (key_of (meaning_in t) s) after size → keyed_as (Ok size) after ≡ key_call t s room
    unfolding key_call key_for written_as
    key-written {after} {size} p =
        let k : List ℕ = key_of (meaning_in t) s in
        let z : 0 + length k ≡ length k = omega arith in
        let i : after ≡ over k room = p.is ∙ sets-eq k room 0 (omega (arith, key-room)) ∙ ap (λ (j : ℕ). k ++ drop j room) z in
        rw (v.checked, v.good, le-ltb (length room) (length k) key-room, i, p.to, z)

-- ## Counts

nothing : (ns : List ℕ) → All (λ (n : ℕ). n ≡ 0) ns → (i : ℕ) → get_or ns i 0 ≡ 0
nothing [] a i = refl
nothing (n ∷ ns) a zero = a.0
nothing (n ∷ ns) a (suc i) = nothing ns a.1 i

-- eight numbers that are 0: one for each level
pub eight-blank : {t s : List ℕ} → Keyable t s → Blank t (0 ∷ 0 ∷ 0 ∷ 0 ∷ 0 ∷ 0 ∷ 0 ∷ 0 ∷ [])
eight-blank {t} k = record {
  long = omega (arith, (table-good t k.checked).few-levels);
  is = nothing (0 ∷ 0 ∷ 0 ∷ 0 ∷ 0 ∷ 0 ∷ 0 ∷ 0 ∷ []) (refl, (refl, (refl, (refl, (refl, (refl, (refl, (refl, tt))))))));
}
