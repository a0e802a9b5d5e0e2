-- Demand 3: "Direct comparison, the byte order of two keys, and the published rule are one answer; the order is total; equal only if identical;
-- comparison names the deciding level and the agreed entries."
-- What `compare` decides, and what `key` writes; then a law for each part of the sentence.
use Rattle.std.specs.Prelude.{Err, Ok, Result, ℕ}
use mathlib.Core.Path.{◌≡◌, refl, sym, ap, ◌∙◌}
use mathlib.Core.Logic.{◌↔◌}
use mathlib.Core.Bool.{true, ◌&&◌}
use mathlib.Core.List.{List}
use Prim.Native.Nat.{ℕ, suc, ◌+◌, ◌≤◌}
use native.Mathlib.Omega.{arith}
use lib.ListN.{length, take, drop}
use lib.Dec.{leb, ltb}
use lib.Seq.{take-append_seam}
use Rattle.base_lists.proofs.Bools.{by, and_left, and_right}
use Rattle.rules.specs.Meaning.{good}
use Rattle.rules.specs.Table.{accepted, meaning_in}
use Rattle.rules.specs.Order as paper
use Rattle.rules.specs.Order.{equal, greater, good_string, entry_lists, compare_of, key_of, sign_bytes}
use Rattle.rules.specs.Calls as calls
use Rattle.rules.specs.Calls.{Compared, over, compare_call, key_for, key_call, written_as}
use Rattle.rules.proofs.TableLaws.{accepted-stored}
use Rattle.rules.proofs.SignLaws.{Follows, follows-not-greater}
use Rattle.rules.proofs.KeyLaws.{key-order, key-determines}
use Rattle.rules.proofs.OrderLaws.{compare-equal, compare-level, compare-level-le, compare-antisym, turned, compare-follows, compare-decided, compare-agreed, Decided, common_sum, through}
use Rattle.base_units.specs.Numbers.{sign_of}
use Rattle.base_units.proofs.NumberLaws.{number_of-some}
use Rattle.order_compare.specs.Answers.{answer_as}
use Rattle.order_compare.specs.declared.Answer.{Answer}
use Rattle.demands.specs.Answered.{Compares, Keys, first_given}
use Rattle.demands.proofs.InOrder.{key-refusal}
use Rattle.base_units.specs.declared.Refusal.{Refusal}

-- ## The published rule

-- What a decided comparison says: the table is accepted, both strings are strings, and the answer is the rule's.
pub record Decides (t a b : List ℕ) (d : Answer) : Type 0 where
  pub checked : accepted t ≡ true
  pub strings : (good_string a ≡ true) × (good_string b ≡ true)
  pub rule : answer_as d ≡ compare_of (meaning_in t) a b

refusal-of : {x y : Compared} → x ≡ y → x.refusal ≡ y.refusal
refusal-of e = ap (λ (m : Compared). m.refusal) e

pub compare-is-rule : (t a b : List ℕ) (d : Answer) → Compares t a b (Ok d) → Decides t a b d
unfolding compare_call
compare-is-rule t a b d e =
    by (accepted t)
    (λ p. by (good_string a && good_string b)
    (λ q. record {
      checked = p;
      strings = (and_left (good_string a) (good_string b) q, and_right (good_string a) (good_string b) q);
      rule = ap (λ (c : Compared). c.answer) (rw (p, q) at e);
    })
    (λ q. let k = refusal-of (rw (p, q) at e) in absurd (omega arith)))
    (λ p. let k = refusal-of (rw p at e) in absurd (omega arith))

-- the meaning that a decided comparison goes by is an accepted one
decides-good : {t a b : List ℕ} {d : Answer} → Decides t a b d → good (meaning_in t) ≡ true
decides-good {t} v = (accepted-stored t v.checked).0

pub sign-of : {x y : paper.Answer} → x ≡ y → x.sign ≡ y.sign
sign-of e = ap (λ (r : paper.Answer). r.sign) e

level-of : {x y : paper.Answer} → x ≡ y → x.level ≡ y.level
level-of e = ap (λ (r : paper.Answer). r.level) e

-- ## The byte order of two keys

-- What a written key says: its bytes are the rule's, in front of the room, and the rest is as it was.
pub record Writes (t s room room₁ : List ℕ) (n : ℕ) : Type 0 where
  pub checked : accepted t ≡ true
  pub string : good_string s ≡ true
  pub long : n ≡ length (key_of (meaning_in t) s)
  pub there : room₁ ≡ over (key_of (meaning_in t) s) room

pub refusal-in : {x y : calls.Written} → x ≡ y → x.refusal ≡ y.refusal
refusal-in e = ap (λ (m : calls.Written). m.refusal) e

pub key-is-rule : (t s room room₁ : List ℕ) (n : ℕ) → Keys t s room (Ok n) room₁ → Writes t s room room₁ n
unfolding key_call key_for written_as
key-is-rule t s room room₁ n e =
    by (accepted t)
    (λ p. by (good_string s)
    (λ q. by (ltb (length room) (length (key_of (meaning_in t) s)))
    (λ r. let k = refusal-in (rw (p, q, r) at e) in absurd (omega arith))
    (λ r. let z = rw (p, q, r) at e in
    record { checked = p; string = q; long = ap (λ (c : calls.Written). c.size) z; there = ap (λ (c : calls.Written). c.room) z }))
    (λ q. let k = refusal-in (rw (p, q) at e) in absurd (omega arith)))
    (λ p. let k = refusal-in (rw p at e) in absurd (omega arith))

-- a string of an accepted table gets its key, in any room that holds it
pub all-keyed : (t s room : List ℕ) (r : Result ℕ Refusal) (room₁ : List ℕ) → Keys t s room r room₁ → accepted t ≡ true → good_string s ≡ true
    → leb (length (key_of (meaning_in t) s)) (length room) ≡ true → (n : ℕ) × (r ≡ Ok n)
unfolding first_given
all-keyed t s room (Ok n) room₁ e a b c = (n, refl)
all-keyed t s room (Err x) room₁ e a b c = absurd (number_of-some x (rw (a, b, c) at (key-refusal t s room (Err x) room₁ e)))

-- the bytes that a call left in its room
pub key_left : {t s room room₁ : List ℕ} {n : ℕ} → Writes t s room room₁ n → take n room₁ ≡ key_of (meaning_in t) s
key_left {t} {s} {room} {room₁} v =
    let k = key_of (meaning_in t) s in
    ap (λ (x : ℕ). take x room₁) v.long ∙ ap (take (length k)) v.there ∙ take-append_seam k (drop (length k) room)

-- "Direct comparison, the byte order of two keys .. are one answer": whatever `compare` decides is the byte order of what two `key` calls left
pub one-order : (t a b room₁ room₂ after₁ after₂ : List ℕ) (d : Answer) (n m : ℕ) → Compares t a b (Ok d)
    → Keys t a room₁ (Ok n) after₁ → Keys t b room₂ (Ok m) after₂ → sign_bytes (take n after₁) (take m after₂) ≡ sign_of d.sign
one-order t a b room₁ room₂ after₁ after₂ d n m e f g =
    let v = compare-is-rule t a b d e in
    let x = key_left (key-is-rule t a room₁ after₁ n f) in
    let y = key_left (key-is-rule t b room₂ after₂ m g) in
    rw (x, y) (key-order (meaning_in t) (decides-good v) a b ∙ sym (sign-of v.rule))

-- two calls that left the same bytes were lent the same string
pub key-tells : (t a b room₁ room₂ after₁ after₂ : List ℕ) (n m : ℕ) → Keys t a room₁ (Ok n) after₁ → Keys t b room₂ (Ok m) after₂
    → take n after₁ ≡ take m after₂ → a ≡ b
key-tells t a b room₁ room₂ after₁ after₂ n m f g e =
    let x = key-is-rule t a room₁ after₁ n f in
    let y = key-is-rule t b room₂ after₂ m g in
    key-determines (meaning_in t) (accepted-stored t x.checked).0 a b (sym (key_left x) ∙ e ∙ key_left y)

-- ## "the order is total"

-- any two strings are compared, by any accepted table
pub all-compared : (t a b : List ℕ) (r : Result Answer Refusal) → accepted t ≡ true → good_string a ≡ true → good_string b ≡ true → Compares t a b r
    → (d : Answer) × (r ≡ Ok d)
unfolding compare_call
all-compared t a b (Ok d) p x y e = (d, refl)
all-compared t a b (Err r) p x y e = absurd (number_of-some r (refusal-of (rw (p, x, y) at e)))

-- two strings that change places have the opposite sign, the same level and the same agreed entries
pub places-changed : (t a b : List ℕ) (d c : Answer) → Compares t a b (Ok d) → Compares t b a (Ok c)
    → answer_as c ≡ turned (answer_as d)
places-changed t a b d c e f =
    (compare-is-rule t b a c f).rule ∙ compare-antisym (meaning_in t) a b ∙ ap turned (sym (compare-is-rule t a b d e).rule)

-- what two comparisons say of the third
pub third-follows : (t a b c : List ℕ) (x y z : Answer) → Compares t a b (Ok x) → Compares t b c (Ok y)
    → Compares t a c (Ok z) → Follows (sign_of x.sign) (sign_of y.sign) (sign_of z.sign)
third-follows t a b c x y z e f g =
    rw (sign-of (compare-is-rule t a b x e).rule, sign-of (compare-is-rule t b c y f).rule, sign-of (compare-is-rule t a c z g).rule)
    (compare-follows (meaning_in t) a b c)

-- transitive: what is not greater than what is not greater is not greater
pub compare-transitive : (t a b c : List ℕ) (x y z : Answer) → Compares t a b (Ok x) → Compares t b c (Ok y)
    → Compares t a c (Ok z) → ¬ (sign_of x.sign ≡ greater) → ¬ (sign_of y.sign ≡ greater) → ¬ (sign_of z.sign ≡ greater)
compare-transitive t a b c x y z e f g =
    follows-not-greater (sign_of x.sign) (sign_of y.sign) (sign_of z.sign) (third-follows t a b c x y z e f g)

-- ## "equal only if identical"

pub equal-identical : (t a b : List ℕ) (d : Answer) → Compares t a b (Ok d) → (sign_of d.sign ≡ equal) ↔ (a ≡ b)
equal-identical t a b d e = rw (sign-of (compare-is-rule t a b d e).rule) (compare-equal (meaning_in t) a b)

-- ## "comparison names the deciding level and the agreed entries"

-- level 0 is told exactly of equal strings
pub level-none : (t a b : List ℕ) (d : Answer) → Compares t a b (Ok d) → (d.level ≡ 0) ↔ (sign_of d.sign ≡ equal)
level-none t a b d e =
    let v = (compare-is-rule t a b d e).rule in
    rw (sign-of v, level-of v) (compare-level (meaning_in t) a b)

-- at most L + 1, the level of the code points
pub level-last : (t a b : List ℕ) (d : Answer) → Compares t a b (Ok d) → d.level ≤ length (meaning_in t).rules + 1
level-last t a b d e = rw (level-of (compare-is-rule t a b d e).rule) (compare-level-le (meaning_in t) a b)

-- any other is the first where the two lists of entries differ: those before it are alike, and it has the sign, which is not equal then (`level-none`)
pub level-decides : (t a b : List ℕ) (d : Answer) (n : ℕ) → Compares t a b (Ok d) → d.level ≡ suc n
    → Decided n (entry_lists (meaning_in t) a) (entry_lists (meaning_in t) b) (answer_as d)
level-decides t a b d n e l =
    let v = (compare-is-rule t a b d e).rule in
    rw v (compare-decided (meaning_in t) a b n (sym (level-of v) ∙ l))

-- the agreed entries are the common beginnings, summed through the deciding level, or through all where none decides
pub agreed-summed : (t a b : List ℕ) (d : Answer) → Compares t a b (Ok d)
    → d.agreed ≡ common_sum (through d.level (entry_lists (meaning_in t) a)) (through d.level (entry_lists (meaning_in t) b))
agreed-summed t a b d e =
    let v = (compare-is-rule t a b d e).rule in
    rw (ap (λ (r : paper.Answer). r.agreed) v, level-of v) (compare-agreed (meaning_in t) a b)
