-- One level, in its direction, as write_level writes it; and all levels, one behind the other, as write_levels writes them.
use mathlib.Core.Path.{◌≡◌, refl, sym, ap, ◌∙◌}
use mathlib.Core.Bool.{Bool, true, false}
use mathlib.Core.List.{List, [], ◌∷◌, ◌++◌, append_assoc}
use Prim.Native.Nat.{ℕ, suc, ◌+◌, ◌*◌, ◌/◌, ◌%◌, ◌≤◌, ◌<◌}
use native.Mathlib.Numerals.{add-one}
use native.Mathlib.Omega.{arith}
use mir.Syntax.{w64}
use mir.Val.{Fits}
use lib.ListN.{length, get_or, drop, drop_of_length-le}
use lib.Seq.{drop-cons}
use Rattle.rules.specs.Meaning as meaning
use Rattle.rules.specs.Meaning.{count_all}
use Rattle.rules.specs.Table.{meaning_in}
use Rattle.rules.specs.Order.{Entry, elements, level_key, levels_key, level_entries, levels_from}
use Rattle.rules.proofs.KeyLaws.{entry_width}
use Rattle.table_layout.specs.Parts.{rule_as, rule_at}
use Rattle.table_layout.specs.declared.Rule.{Rule}
use Rattle.order_keys.specs.Writing.{Keyable, AtLevel, weights_from, Counted, forward, backward, level_bytes, levels_bytes, Puts, PutsBefore}
use Rattle.order_keys.proofs.PutLaws.{puts-from, Putting, putting-none, putting-room, putting-more, putting-all}
use Rattle.order_keys.proofs.LevelLaws.{level-long}

-- ## One level

module _ (t s room : List ℕ) (level at : ℕ) {entries : ℕ} (rule : Rule) (n : entries ≡ count_all (weights_from t s level 0))
    (l : at + length (level_bytes t s level (rule_as rule)) ≤ length room) where
  -- forward
  module _ (h : rule.backward ≡ false) where
    forward-rule : rule_as rule ≡ forward rule.position
    forward-rule = ap (λ (b : Bool). record { backward = b; position = rule.position }) h

    pub forward-room : at + length (level_bytes t s level (forward rule.position)) ≤ length room
    forward-room = rw (← forward-rule) l

    pub forward-put : {after : List ℕ} {behind : ℕ} → Puts room at (level_bytes t s level (forward rule.position)) after behind
        → Puts room at (level_bytes t s level (rule_as rule)) after behind
    forward-put q = rw forward-rule q

  -- backward
  module _ (h : rule.backward ≡ true) {wide : ℕ} (w : wide ≡ entry_width rule.position * entries + 2) where
    backward-rule : rule_as rule ≡ backward rule.position
    backward-rule = ap (λ (b : Bool). record { backward = b; position = rule.position }) h

    level-wide : wide ≡ length (level_bytes t s level (rule_as rule))
    level-wide = w ∙ ap (λ (k : ℕ). entry_width rule.position * k + 2) n ∙ sym (level-long t s level (rule_as rule))

    pub backward-fits : Fits w64 (length room) → Fits w64 (at + wide)
    backward-fits f = omega (arith, level-wide, l, f)

    pub backward-start : length (level_bytes t s level (backward rule.position)) ≤ at + wide
    backward-start = rw (← backward-rule) (omega (arith, level-wide))

    pub backward-end : at + wide ≤ length room
    backward-end = omega (arith, level-wide, l)

    pub backward-put : {after : List ℕ} {from : ℕ} → PutsBefore room (at + wide) (level_bytes t s level (backward rule.position)) after from
        → Puts room at (level_bytes t s level (rule_as rule)) after (at + wide)
    backward-put {from = from} q = puts-from {from = from} (rw backward-rule q) (ap (λ (k : ℕ). at + k) level-wide)

-- ## One level behind the other

-- a level's bytes, and what follows them
level_key-rest : (p : Bool) (es : List Entry) (rest : List ℕ) → level_key p es rest ≡ level_key p es [] ++ rest
unfolding level_key
level_key-rest p [] rest = refl
level_key-rest true (e ∷ es) rest =
    ap (λ (k : List ℕ). suc e.count / 256 ∷ suc e.count % 256 ∷ e.weight / 256 ∷ e.weight % 256 ∷ k) (level_key-rest true es rest)
level_key-rest false (e ∷ es) rest = ap (λ (k : List ℕ). e.weight / 256 ∷ e.weight % 256 ∷ k) (level_key-rest false es rest)

pub levels_key-rest : (rs : List meaning.Rule) (ls : List (List Entry)) (rest : List ℕ) → levels_key rs ls rest ≡ levels_key rs ls [] ++ rest
unfolding levels_key
levels_key-rest [] ls rest = refl
levels_key-rest (r ∷ rs) [] rest = refl
levels_key-rest (r ∷ rs) (l ∷ ls) rest =
    let p : Bool = r.position in
    let k : List ℕ = levels_key rs ls [] in
    ap (level_key p l) (levels_key-rest rs ls rest)
    ∙ level_key-rest p l (k ++ rest)
    ∙ sym (append_assoc (level_key p l []) k rest)
    ∙ ap (λ (x : List ℕ). x ++ rest) (sym (level_key-rest p l k))

-- a level of the table
pub level-at : {t s : List ℕ} {level many : ℕ} → Keyable t s → many ≡ length (meaning_in t).rules → level < many → AtLevel t s level
level-at k m h = record { keyable = k; in-levels = omega arith }

-- and its count
pub counted-at : {t s counts : List ℕ} {level : ℕ} → Counted t s counts → AtLevel t s level → get_or counts level 0 ≡ count_all (weights_from t s level 0)
counted-at {level = level} c l = c.is level l.in-levels

module _ (t s : List ℕ) (level : ℕ) where
  levels-cons : level < length (meaning_in t).rules
      → levels_bytes t s level ≡ level_bytes t s level (rule_at t level) ++ levels_bytes t s (level + 1)
  unfolding levels_bytes level_bytes levels_key levels_from
  levels-cons h =
      let none : meaning.Rule = record { backward = false; position = false } in
      let rs : List meaning.Rule = drop (suc level) (meaning_in t).rules in
      let is : List meaning.Item = (meaning_in t).items in
      rw (add-one level, drop-cons (meaning_in t).rules level none h)
      (level_key-rest (rule_at t level).position (level_entries is (rule_at t level) level (elements is 0 s)) (levels_key rs (levels_from is rs (suc level) (elements is 0 s)) []))

  levels-nil : length (meaning_in t).rules ≤ level → levels_bytes t s level ≡ []
  unfolding levels_bytes levels_key
  levels-nil h = rw (drop_of_length-le (meaning_in t).rules h)

-- the levels from this one on are still to be written
pub record Levels (t s room : List ℕ) (now : List ℕ) (level next : ℕ) : Type 0 where
  pub putting : Putting room 0 (levels_bytes t s 0) now next (levels_bytes t s level)

pub levels-none : (t s room : List ℕ) → Levels t s room room 0 0
levels-none t s room = record { putting = putting-none room 0 (levels_bytes t s 0) }

module _ {t s room now : List ℕ} {level next : ℕ} (v : Levels t s room now level next) where
  module _ {rule : Rule} (l : AtLevel t s level) (e : rule_as rule ≡ rule_at t level) where
    level-left : levels_bytes t s level ≡ level_bytes t s level (rule_as rule) ++ levels_bytes t s (level + 1)
    level-left = rw e (levels-cons t s level l.in-levels)

    pub level-room : length (levels_bytes t s 0) ≤ length room → next + length (level_bytes t s level (rule_as rule)) ≤ length now
    level-room h =
        putting-room v.putting (level_bytes t s level (rule_as rule)) (levels_bytes t s (level + 1)) level-left (omega (arith, h))

    pub levels-more : {after : List ℕ} {behind : ℕ} → Puts now next (level_bytes t s level (rule_as rule)) after behind
        → Levels t s room after (level + 1) behind
    levels-more p = record {
      putting = putting-more v.putting (level_bytes t s level (rule_as rule)) (levels_bytes t s (level + 1)) level-left p;
    }

  pub levels-all : {many : ℕ} → many ≡ length (meaning_in t).rules → many ≤ level → Puts room 0 (levels_bytes t s 0) now next
  levels-all m h = putting-all v.putting (levels-nil t s level (omega arith))
