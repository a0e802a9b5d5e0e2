-- The first weight of a part, and the answer of the directory, refusal by refusal.
use Rattle.std.specs.Prelude.{if◌then◌else◌, Err, Ok}
use mathlib.Core.Path.{◌≡◌, sym, ap, ◌∙◌}
use mathlib.Core.Bool.{Bool, true, false, not, ◌&&◌, ◌||◌}
use mathlib.Core.List.{List, map}
use Prim.Native.Nat.{ℕ, ◌+◌, ◌-◌, ◌≤◌, ◌<◌}
use native.Mathlib.Omega.{arith}
use lib.ListN.{length, take, drop, length-map}
use lib.Seq.{length-take-le}
use lib.Dec.{leb, ltb}
use borrow.Author.Tests.{lt-ltb, le-ltb, le-leb, lt-leb, leb-true, not-true, not-false}
use Rattle.base_lists.proofs.Bools.{and_left, and_right}
use Rattle.rules.specs.Text.{every, granted, refused}
use Rattle.rules.specs.Meaning as meaning
use Rattle.rules.specs.Table.{accepted, meaning_in}
use Rattle.rules.specs.Order.{good_string}
use Rattle.rules.specs.Directory.{Part, part, parts_of, string_of, in_run, parts_fit, good_part, first_of, part_weight, plain_first, good_headings, heading_of, directory_of, part_at, weights_of}
use Rattle.rules.specs.Calls.{over, directed_as, directory_call}
use Rattle.rules.proofs.KeyLaws.{good_string-length}
use Rattle.rules.proofs.DirectoryLaws.{plain-first, plain-weight}
use Rattle.base_units.specs.declared.Refusal.TheVariants.{NotAccepted, NotPlain, BadPart, BadString, NotRising, NoRoom}
use Rattle.table_layout.specs.Parts.{rule_as, rule_at}
use Rattle.table_layout.specs.declared.Rule.{Rule}
use Rattle.table_layout.proofs.PartLaws.{table-good}
use Rattle.order_elements.specs.Cuts as cuts
use Rattle.order_elements.specs.Firsts.{first_entries}
use Rattle.order_elements.proofs.CutLaws.{good-ready}
use Rattle.order_directory.specs.Answers.{directed_is}
use Rattle.order_directory.specs.Asks.{PartReady, Ready, Rising, Weighed, Fitting, Page, RisingPage}
use Rattle.order_directory.proofs.PartLaws.{slice_is, each_part}

-- ## The rule of the first level

pub first-level : (t : List ℕ) → accepted t ≡ true → 0 < length (meaning_in t).rules
first-level t a = omega (arith, (table-good t a).some_level)

module _ (t : List ℕ) (a : accepted t ≡ true) {r : Rule} (e : rule_as r ≡ rule_at t 0) where
  plain-is : plain_first (meaning_in t).rules ≡ not (r.backward || r.position)
  plain-is =
      plain-first (meaning_in t).rules (record { backward = false; position = false }) (first-level t a)
      ∙ ap (λ (x : meaning.Rule). not (x.backward || x.position)) (sym e)

  pub backward-first : not r.backward ≡ false → not r.backward ≡ plain_first (meaning_in t).rules
  backward-first h = let b = not-false r.backward h in rw b (sym (plain-is ∙ rw b))

  pub forward-first : not r.backward ≡ true → not r.position ≡ plain_first (meaning_in t).rules
  forward-first h = let b = not-true r.backward h in sym (plain-is ∙ rw b)

-- ## The first weight of a part

-- its string can be cut
pub part-ready : (t run : List ℕ) (a n : ℕ) (places : List ℕ) → PartReady t run (part a n) places
    → cuts.Ready t (take (a + n - a) (drop a run)) places
unfolding good_part
part-ready t run a n places v =
    let g : good_string (take (a + n - a) (drop a run)) ≡ true = rw (slice_is run a n) v.good in
    let l = good_string-length (take (a + n - a) (drop a run)) g in
    good-ready places v.checked g (omega (arith, v.room))

pub part-weight : (t run : List ℕ) (a n : ℕ) (places : List ℕ) {w r : ℕ} → PartReady t run (part a n) places
    → w ≡ first_of (first_entries t (take (a + n - a) (drop a run)) false) → r ≡ w → r ≡ part_weight (meaning_in t) run (part a n)
unfolding part_weight first_entries
part-weight t run a n places v e f =
    f ∙ e ∙ rw (slice_is run a n) (sym (plain-weight (meaning_in t) (string_of run (part a n)) v.plain))

-- the part at a place
pub ready-part : (t run parts places : List ℕ) (i : ℕ) (q : Part) → Ready t run parts places → i < length (parts_of parts) → q ≡ part_at parts i
    → PartReady t run q places
ready-part t run parts places i q v h e = record {
  checked = v.checked;
  plain = v.plain;
  inside = rw e (each_part (in_run run) parts i v.inside h);
  good = rw e (each_part (good_part run) parts i v.good h);
  room = v.room;
}

-- ## Parts that fit

pub too_many : (run parts : List ℕ) {n : ℕ} → n ≡ length (parts_of parts) → 1000 < n → leb n 1000 ≡ parts_fit run (parts_of parts)
unfolding parts_fit
too_many run parts {n} e h = lt-leb n 1000 h ∙ rw (lt-leb (length (parts_of parts)) 1000 (omega arith))

pub few-enough : (run parts : List ℕ) {n : ℕ} {b : Bool} → n ≡ length (parts_of parts) → n ≤ 1000 → b ≡ every (in_run run) (parts_of parts)
    → b ≡ parts_fit run (parts_of parts)
unfolding parts_fit
few-enough run parts e h f = rw (le-leb (length (parts_of parts)) 1000 (omega arith)) f

-- ## A page that is not refused before its headings are weighed

fit-few : (run parts : List ℕ) → parts_fit run (parts_of parts) ≡ true → length (parts_of parts) ≤ 1000
unfolding parts_fit
fit-few run parts e = leb-true (length (parts_of parts)) 1000 (and_left (leb (length (parts_of parts)) 1000) (every (in_run run) (parts_of parts)) e)

fit-inside : (run parts : List ℕ) → parts_fit run (parts_of parts) ≡ true → every (in_run run) (parts_of parts) ≡ true
unfolding parts_fit
fit-inside run parts e = and_right (leb (length (parts_of parts)) 1000) (every (in_run run) (parts_of parts)) e

pub fitting-headings : (run headings topics : List ℕ) → Fitting run headings topics → every (in_run run) (parts_of headings) ≡ true
fitting-headings run headings topics v = fit-inside run headings (and_left (parts_fit run (parts_of headings)) (parts_fit run (parts_of topics)) v.fit)

pub fitting-topics : (run headings topics : List ℕ) → Fitting run headings topics → every (in_run run) (parts_of topics) ≡ true
fitting-topics run headings topics v = fit-inside run topics (and_right (parts_fit run (parts_of headings)) (parts_fit run (parts_of topics)) v.fit)

module _ (t run headings topics : List ℕ) (v : Page t run headings topics) where
  fitting : Fitting run headings topics
  fitting = record { fit = v.fit }

  pub headings-ready : (places : List ℕ) → 4096 ≤ length places → Ready t run headings places
  headings-ready places h = record {
    checked = v.checked;
    plain = v.plain;
    inside = fitting-headings run headings topics fitting;
    good = and_left (every (good_part run) (parts_of headings)) (every (good_part run) (parts_of topics)) v.good;
    room = h;
  }

  topics-ready : (places : List ℕ) → 4096 ≤ length places → Ready t run topics places
  topics-ready places h = record {
    checked = v.checked;
    plain = v.plain;
    inside = fitting-topics run headings topics fitting;
    good = and_right (every (good_part run) (parts_of headings)) (every (good_part run) (parts_of topics)) v.good;
    room = h;
  }

  few-headings : length (parts_of headings) ≤ 1000
  few-headings = fit-few run headings (and_left (parts_fit run (parts_of headings)) (parts_fit run (parts_of topics)) v.fit)

  -- there is room for the weights of the headings
  pub headings-room : (weights : List ℕ) → 1000 ≤ length weights → length (parts_of headings) ≤ length weights
  headings-room locale_weights h = omega (arith, few-headings)

  -- what is left of the refusals: 15, then 13
  page-call : (list : List ℕ) → directory_call t run headings topics list ≡ directed_as
      (if not (good_headings (weights_of t run headings)) then refused 15 0
      else if ltb (length list) (length (parts_of topics)) then refused 13 0
      else granted (map (heading_of (weights_of t run headings)) (weights_of t run topics)))
      list
  unfolding directory_call directory_of
  page-call list = rw (v.checked, v.plain, v.fit, v.good)

  module _ (weights : List ℕ) {b : Bool} (w : Weighed t run headings weights b) where
    pub page-falls : (list : List ℕ) → not b ≡ true → directed_is (Err NotRising) list ≡ directory_call t run headings topics list
    unfolding directed_as
    page-falls list e = rw (page-call list, ← w.is, e)

    pub page-ranked : (places places₀ weights₀ : List ℕ) → not b ≡ false → (4096 ≤ length places₀) × (1000 ≤ length weights₀)
        → length places ≡ length places₀ → length weights ≡ length weights₀ → RisingPage t run headings topics places weights
    page-ranked places places₀ weights₀ rises r d e =
        let yes : b ≡ true = not-false b rises in
        record {
          page = v;
          kept = w.kept yes;
          rise = sym w.is ∙ yes;
          places-room = omega (arith, r.0);
          weights-room = omega (arith, r.1);
        }

-- ## A page whose headings rise

module _ (t run headings topics places weights : List ℕ) (v : RisingPage t run headings topics places weights) where
  ranked-call : (list : List ℕ) → directory_call t run headings topics list ≡ directed_as
      (if ltb (length list) (length (parts_of topics)) then refused 13 0
      else granted (map (heading_of (weights_of t run headings)) (weights_of t run topics)))
      list
  ranked-call list = page-call t run headings topics v.page list ∙ rw v.rise

  pub ranked-short : (list : List ℕ) {n : ℕ} → n ≡ length (parts_of topics) → length list < n
      → directed_is (Err NoRoom) list ≡ directory_call t run headings topics list
  unfolding directed_as
  ranked-short list e h = rw (ranked-call list, lt-ltb (length list) (length (parts_of topics)) (omega arith))

  pub ranked-ready : Ready t run topics places
  ranked-ready = topics-ready t run headings topics v.page places v.places-room

  module _ {m : ℕ} (many : m ≡ length (parts_of headings)) where
    pub ranked-count : m ≡ length (take m weights)
    ranked-count = sym (length-take-le m weights (omega (arith, headings-room t run headings topics v.page weights v.weights-room)))

    ranked-kept : take m weights ≡ weights_of t run headings
    ranked-kept = rw many v.kept

    pub ranked-rising : Rising (take m weights)
    ranked-rising = record {
      rise = rw ranked-kept v.rise;
      few = rw (ranked-kept, length-map (parts_of headings) (part_weight (meaning_in t) run)) (few-headings t run headings topics v.page);
    }

    pub ranked-written : (list : List ℕ) {n : ℕ} {o : List ℕ} → n ≡ length (parts_of topics) → n ≤ length list
        → o ≡ over (map (heading_of (take m weights)) (weights_of t run topics)) list → directed_is (Ok tt) o ≡ directory_call t run headings topics list
    unfolding directed_as
    ranked-written list e h k = rw (k, ranked-kept, ranked-call list, le-ltb (length list) (length (parts_of topics)) (omega arith))

-- ## The refusals before

module _ (t run headings topics list : List ℕ) {a : Bool} (accepts : a ≡ accepted t) where
  pub call-unaccepted : not a ≡ true → directed_is (Err NotAccepted) list ≡ directory_call t run headings topics list
  unfolding directory_call directed_as directory_of
  call-unaccepted e = rw (← accepts, e)

  pub call-accepted : not a ≡ false → accepted t ≡ true
  call-accepted e = sym accepts ∙ not-false a e

  module _ {p : Bool} (yes-table : not a ≡ false) (plains : p ≡ plain_first (meaning_in t).rules) where
    pub call-unplain : not p ≡ true → directed_is (Err NotPlain) list ≡ directory_call t run headings topics list
    unfolding directory_call directed_as directory_of
    call-unplain e = rw (← accepts, yes-table, ← plains, e)

    module _ {f : Bool} (yes-plain : not p ≡ false) (fits : f ≡ (parts_fit run (parts_of headings) && parts_fit run (parts_of topics))) where
      pub call-outside : not f ≡ true → directed_is (Err BadPart) list ≡ directory_call t run headings topics list
      unfolding directory_call directed_as directory_of
      call-outside e = rw (← accepts, yes-table, ← plains, yes-plain, ← fits, e)

      module _ {g : Bool} (yes-fits : not f ≡ false) (goods : g ≡ (every (good_part run) (parts_of headings) && every (good_part run) (parts_of topics))) where
        pub call-bad : not g ≡ true → directed_is (Err BadString) list ≡ directory_call t run headings topics list
        unfolding directory_call directed_as directory_of
        call-bad e = rw (← accepts, yes-table, ← plains, yes-plain, ← fits, yes-fits, ← goods, e)

-- ## What holds behind them

passed : {a b : Bool} → a ≡ b → not a ≡ false → b ≡ true
passed {a} e h = sym e ∙ not-false a h

pub call-fitting : (run headings topics : List ℕ) {f : Bool} → f ≡ (parts_fit run (parts_of headings) && parts_fit run (parts_of topics)) → not f ≡ false
    → Fitting run headings topics
call-fitting run headings topics f f' = record { fit = passed f f' }

pub call-page : (t run headings topics : List ℕ) {a p f g : Bool} → a ≡ accepted t → not a ≡ false → p ≡ plain_first (meaning_in t).rules → not p ≡ false
    → f ≡ (parts_fit run (parts_of headings) && parts_fit run (parts_of topics)) → not f ≡ false
    → g ≡ (every (good_part run) (parts_of headings) && every (good_part run) (parts_of topics)) → not g ≡ false → Page t run headings topics
call-page t run headings topics a a' p p' f f' g g' =
    record { checked = passed a a'; plain = passed p p'; fit = passed f f'; good = passed g g' }
