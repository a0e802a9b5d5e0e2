-- How many entries a string has at each level, as add_counts and count_entries count them, and how many bytes its key takes, as key_width adds them up.
use mathlib.Core.Path.{◌≡◌, refl, sym, ap, ◌∙◌}
use mathlib.Core.Bool.{Bool, true, false}
use mathlib.Core.List.{List}
use Prim.Native.Nat.{ℕ, ◌+◌, ◌-◌, ◌*◌, ◌≤◌, ◌<◌}
use native.Mathlib.Numerals.{add-one}
use native.Mathlib.Omega.{arith}
use mir.Syntax.{w64}
use mir.Val.{Fits}
use lib.ListN.{length, get_or, set, drop, length-set, drop_of_length-le}
use lib.Seq.{drop-cons, get_or-set_same, get_or-set_other}
use lib.Dec.{eqb}
use borrow.Author.Tests.{eqb-true, eqb-false}
use Rattle.base_lists.proofs.Bools.{by}
use Rattle.rules.specs.Meaning as meaning
use Rattle.rules.specs.Meaning.{Item, count_all}
use Rattle.rules.specs.Table.{meaning_in}
use Rattle.rules.specs.Order.{step_of, elements, weights_at, levels_of, levels_from, key_of}
use Rattle.rules.proofs.ElementLaws.{elements-length}
use Rattle.rules.proofs.EntryLaws.{level-count, level-length}
use Rattle.rules.proofs.KeyLaws.{entry_width, levels_width, key-length, key-bound}
use Rattle.table_layout.specs.Parts.{rule_as, rule_at, Within, Holds}
use Rattle.table_layout.specs.declared.Rule.{Rule}
use Rattle.table_layout.specs.declared.Run.{Run}
use Rattle.table_layout.proofs.PartLaws.{good-in, table-good}
use Rattle.order_find.specs.Answer.{found_as}
use Rattle.order_find.specs.declared.Found.{Found}
use Rattle.order_find.proofs.FoundLaws.{found-item}
use Rattle.order_keys.specs.Writing.{Keyable, AtLevel, weights_from, Blank, Countable, Added, Counted}
use Rattle.order_keys.proofs.PieceLaws.{not-long, weights-none, weights-first, found_some, found-to}

-- ## Level by level

-- the weights of the levels before this one are added
pub record Adding (t : List ℕ) (place : ℕ) (before counts : List ℕ) (level : ℕ) : Type 0 where
  pub long : length counts ≡ length before
  pub added : (l : ℕ) → l < level → get_or counts l 0 ≡ get_or before l 0 + length (weights_at (meaning_in t).items l place)
  pub left : (l : ℕ) → level ≤ l → get_or counts l 0 ≡ get_or before l 0

pub adding-none : (t : List ℕ) (place : ℕ) (counts : List ℕ) → Adding t place counts counts 0
adding-none t place counts = record { long = refl; added = λ l h. absurd (omega arith); left = λ l h. refl }

module _ {t before counts : List ℕ} {place level : ℕ} (v : Adding t place before counts level) (c : Countable t before)
    {many : ℕ} (e : many ≡ length (meaning_in t).rules) (h : level < many) where
  pub adding-inside : level < length counts
  adding-inside = omega (arith, v.long, c.long)

  module _ {r : Run} (m : Holds t r (weights_at (meaning_in t).items level place)) where
    pub adding-fits : Fits w64 (get_or counts level 0 + r.count)
    adding-fits = omega (arith, v.left level (omega arith), c.few level (omega arith), m.few)

    pub adding-more : Adding t place before (set counts level (get_or counts level 0 + r.count)) (level + 1)
    adding-more = record { long = length-set counts level (get_or counts level 0 + r.count) ∙ v.long; added = added; left = left }
      where
        here : get_or (set counts level (get_or counts level 0 + r.count)) level 0 ≡ get_or before level 0 + length (weights_at (meaning_in t).items level place)
        here =
            get_or-set_same counts level (get_or counts level 0 + r.count) 0 adding-inside
            ∙ omega (arith, v.left level (omega arith), m.many)

        added : (l : ℕ) → l < level + 1
            → get_or (set counts level (get_or counts level 0 + r.count)) l 0 ≡ get_or before l 0 + length (weights_at (meaning_in t).items l place)
        added l k =
            by (eqb l level)
            (λ e. let z = eqb-true l level e in rw z here)
            (λ e. let n = eqb-false l level e in get_or-set_other counts level l (get_or counts level 0 + r.count) 0 n ∙ v.added l (omega (arith, n)))

        left : (l : ℕ) → level + 1 ≤ l → get_or (set counts level (get_or counts level 0 + r.count)) l 0 ≡ get_or before l 0
        left l k = get_or-set_other counts level l (get_or counts level 0 + r.count) 0 (λ e. omega arith) ∙ v.left l (omega arith)

pub adding-all : {t before counts : List ℕ} {place level many : ℕ} → Adding t place before counts level → many ≡ length (meaning_in t).rules → many ≤ level
    → Added t place before counts
adding-all v m h = record { is = λ l k. v.added l (omega arith) }

-- a level of the item at a place
pub level-of : {t : List ℕ} {place level many : ℕ} → Within t place 0 → many ≡ length (meaning_in t).rules → level < many → Within t place level
level-of w m h = record { checked = w.checked; from_one = w.from_one; in-items = w.in-items; in-levels = omega arith }

-- ## Element by element

-- at no level are there too many
count-few : {t s : List ℕ} (level : ℕ) → Keyable t s → count_all (weights_from t s level 0) ≤ 32768
unfolding weights_from
count-few {t} {s} level k =
    let is : List Item = (meaning_in t).items in
    let places : List ℕ = elements is 0 s in
    let rule : meaning.Rule = record { backward = false; position = false } in
    let e = level-count is rule level places in
    let l = level-length (length (meaning_in t).rules) is (table-good t k.checked).items rule level places in
    omega (arith, e, l, elements-length is 0 s, not-long k)

pub entries-counted : {t s : List ℕ} {level entries : ℕ} → AtLevel t s level → entries ≡ count_all (weights_from t s level 0) → entries ≤ 32768
entries-counted {level = level} l e = omega (arith, e, count-few level l.keyable)

-- those of the elements from a place on are still to be counted
pub record Counting (t s before counts : List ℕ) (at : ℕ) : Type 0 where
  pub kept : length counts ≡ length before
  pub long : length (meaning_in t).rules ≤ length counts
  pub same : (level : ℕ) → level < length (meaning_in t).rules
      → get_or counts level 0 + count_all (weights_from t s level at) ≡ count_all (weights_from t s level 0)

pub counting-none : (t s counts : List ℕ) → Blank t counts → Counting t s counts counts 0
counting-none t s counts b = record { kept = refl; long = b.long; same = λ level h. omega (arith, b.is level) }

module _ {t s before counts : List ℕ} {at : ℕ} (v : Counting t s before counts at) (k : Keyable t s) where
  pub counting-countable : Countable t counts
  counting-countable = record { long = v.long; few = λ level h. omega (arith, v.same level h, count-few level k) }

  module _ {f : Found} (h : at < length s) (e : found_as f ≡ step_of (meaning_in t).items (drop at s)) where
    pub counting-within : Within t f.place 0
    counting-within = found-item t s k.checked h e

    pub counting-fits : Fits w64 (at + f.size)
    counting-fits = omega (arith, found-to k h e, not-long k)

    pub counting-less : length s - (at + f.size) < length s - at
    counting-less = omega (arith, found_some k h e)

    pub counting_more : {after : List ℕ} → length after ≡ length counts → Added t f.place counts after → Counting t s before after (at + f.size)
    unfolding count_all
    counting_more l a = record {
      kept = l ∙ v.kept;
      long = omega (arith, v.long);
      same = λ level q. omega (arith, v.same level q, a.is level q, ap count_all (weights-first k h e level));
    }

  pub counting-all : length s ≤ at → Counted t s counts
  unfolding count_all
  counting-all h = record {
    long = v.long;
    is = λ level q. let e : count_all (weights_from t s level at) ≡ 0 = rw (weights-none t s level at h) in omega (arith, v.same level q, e);
  }

-- ## The bytes

-- how many the levels take from this one on
unfoldable pub levels_wide : List ℕ → List ℕ → ℕ → ℕ
levels_wide t s level =
    let rules : List meaning.Rule = drop level (meaning_in t).rules in
    levels_width rules (levels_from (meaning_in t).items rules level (elements (meaning_in t).items 0 s))

wide-cons : (t s : List ℕ) (level : ℕ) → level < length (meaning_in t).rules
    → levels_wide t s level ≡ entry_width (rule_at t level).position * count_all (weights_from t s level 0) + 2 + levels_wide t s (level + 1)
unfolding levels_wide levels_width levels_from weights_from
wide-cons t s level h =
    let none : meaning.Rule = record { backward = false; position = false } in
    rw (add-one level, drop-cons (meaning_in t).rules level none h, level-count (meaning_in t).items (rule_at t level) level (elements (meaning_in t).items 0 s))

wide-nil : (t s : List ℕ) (level : ℕ) → length (meaning_in t).rules ≤ level → levels_wide t s level ≡ 0
unfolding levels_wide levels_width
wide-nil t s level h = rw (drop_of_length-le (meaning_in t).rules h)

-- those of one level
module _ (p : Bool) {n w : ℕ} (e : w ≡ entry_width p) where
  entries-few : n ≤ 32768 → w * n ≤ 131072
  entries-few h = rw e (go p)
    where
      go : (q : Bool) → entry_width q * n ≤ 131072
      go true = omega arith
      go false = omega arith

  pub entries_fit : n ≤ 32768 → Fits w64 (w * n)
  entries_fit h = omega (arith, entries-few h)

  pub level-fits : n ≤ 32768 → Fits w64 (w * n + 2)
  level-fits h = omega (arith, entries-few h)

pub level-is : (p : Bool) (n : ℕ) {w : ℕ} → w ≡ entry_width p → w * n + 2 ≡ entry_width p * n + 2
level-is p n e = rw e

pub codes-fit : {t s : List ℕ} → Keyable t s → Fits w64 (3 * length s)
codes-fit k = omega (arith, not-long k)

-- the bytes of the levels from this one on are still to be added
pub record Widening (t s : List ℕ) (wide level : ℕ) : Type 0 where
  pub same : wide + levels_wide t s level ≡ length (key_of (meaning_in t) s)

pub widening-none : (t s : List ℕ) → Widening t s (3 * length s) 0
unfolding levels_wide levels_of
widening-none t s = record { same = omega (arith, key-length (meaning_in t) s) }

module _ {t s counts : List ℕ} {level many : ℕ} (k : Keyable t s) (c : Counted t s counts) (m : many ≡ length (meaning_in t).rules) (h : level < many) where
  pub counted-inside : level < length counts
  counted-inside = omega (arith, c.long)

  pub counted-few : get_or counts level 0 ≤ 32768
  counted-few = omega (arith, c.is level (omega arith), count-few level k)

  module _ {wide : ℕ} (v : Widening t s wide level) {rule : Rule} (e : rule_as rule ≡ rule_at t level) {r : ℕ} (w : r ≡ entry_width rule.position * get_or counts level 0 + 2) where
    wide-left : r + levels_wide t s (level + 1) ≡ levels_wide t s level
    wide-left =
        let p : rule.position ≡ (rule_at t level).position = ap (λ (x : meaning.Rule). x.position) e in
        rw (w, p, c.is level (omega arith)) (sym (wide-cons t s level (omega arith)))

    pub widening-fits : Fits w64 (wide + r)
    widening-fits = omega (arith, v.same, wide-left, key-bound (meaning_in t) (good-in t k.checked) s k.good)

    pub widening-more : Widening t s (wide + r) (level + 1)
    widening-more = record { same = omega (arith, v.same, wide-left) }

pub widening-all : {t s : List ℕ} {wide level many : ℕ} → Widening t s wide level → many ≡ length (meaning_in t).rules → many ≤ level
    → wide ≡ length (key_of (meaning_in t) s)
widening-all {t} {s} {level = level} v m h = omega (arith, v.same, wide-nil t s level (omega arith))
