-- 02, K2: what `directory` leaves in the list. "Each topic gets exactly one heading", and "heading 0 .. always exists, so the page always has a top".
use Rattle.std.specs.Prelude.{Err, Ok, Result}
use mathlib.Core.Path.{◌≡◌, refl, sym, ap, ◌∙◌}
use mathlib.Core.Bool.{true, ◌&&◌}
use mathlib.Core.List.{List, [], map}
use Prim.Native.Nat.{ℕ, suc, ◌≤◌, ◌<◌}
use native.Mathlib.Omega.{arith}
use lib.ListN.{length, get_or, drop, length-map, length-append, get_or-append}
use lib.Dec.{leb, ltb}
use borrow.Author.Tests.{ltb-false}
use Rattle.base_lists.proofs.Bools.{by}
use Rattle.rules.specs.Text.{every}
use Rattle.rules.specs.Table.{accepted, meaning_in}
use Rattle.rules.specs.Order.{greater, levels_of}
use Rattle.rules.specs.Directory.{parts_of, string_of, parts_fit, good_part, first_weight, part_weight, plain_first, good_headings, heading_of, directory_of, part_at, weights_of}
use Rattle.rules.specs.Calls as calls
use Rattle.rules.specs.Calls.{over, directed_as, directory_call}
use Rattle.rules.proofs.TableLaws.{accepted-stored}
use Rattle.rules.proofs.DirectoryLaws.{Above, heading-none, heading-before, heading-last, heading-most, heading-own, heading-rises, some-weight, weight-rises, zero-none, none-zero}
use Rattle.base_units.specs.Numbers.{sign_of}
use Rattle.base_units.proofs.NumberLaws.{number_of-some}
use Rattle.order_compare.specs.declared.Answer.{Answer}
use Rattle.order_directory.proofs.HeadingLaws.{get_d_map, weight-there, weights-many}
use Rattle.demands.specs.Answered.{Compares, Directs, first_given}
use Rattle.demands.proofs.InOrder.{directory-refusal}
use Rattle.demands.proofs.Untouched.{past-over}
use Rattle.demands.proofs.OneOrder.{compare-is-rule, sign-of}
use Rattle.base_units.specs.declared.Refusal.{Refusal}

-- ## The list

-- What a call that is done says: nothing is to be refused, and the rule's numbers stand in front of the list; the rest is as it was.
pub record Lists (t run headings topics list list₁ : List ℕ) : Type 0 where
  pub checked : accepted t ≡ true
  pub plain : plain_first (meaning_in t).rules ≡ true
  pub fit : (parts_fit run (parts_of headings) && parts_fit run (parts_of topics)) ≡ true
  pub good : (every (good_part run) (parts_of headings) && every (good_part run) (parts_of topics)) ≡ true
  pub rise : good_headings (weights_of t run headings) ≡ true
  pub long : length (parts_of topics) ≤ length list
  pub there : list₁ ≡ over (map (heading_of (weights_of t run headings)) (weights_of t run topics)) list

refusal-in : {x y : calls.Directed} → x ≡ y → x.refusal ≡ y.refusal
refusal-in e = ap (λ (d : calls.Directed). d.refusal) e

pub directory-lists : (t run headings topics list list₁ : List ℕ) → Directs t run headings topics list (Ok tt) list₁
    → Lists t run headings topics list list₁
unfolding directory_call directory_of directed_as
directory-lists t run headings topics list list₁ e =
    by (accepted t)
    (λ a. by (plain_first (meaning_in t).rules)
    (λ b. by (parts_fit run (parts_of headings) && parts_fit run (parts_of topics))
    (λ c. by (every (good_part run) (parts_of headings) && every (good_part run) (parts_of topics))
    (λ d. by (good_headings (weights_of t run headings))
    (λ f. by (ltb (length list) (length (parts_of topics)))
    (λ g. let k = refusal-in (rw (a, b, c, d, f, g) at e) in absurd (omega arith))
    (λ g. record {
      checked = a;
      plain = b;
      fit = c;
      good = d;
      rise = f;
      long = ltb-false (length list) (length (parts_of topics)) g;
      there = ap (λ (x : calls.Directed). x.list) (rw (a, b, c, d, f, g) at e);
    }))
    (λ f. let k = refusal-in (rw (a, b, c, d, f) at e) in absurd (omega arith)))
    (λ d. let k = refusal-in (rw (a, b, c, d) at e) in absurd (omega arith)))
    (λ c. let k = refusal-in (rw (a, b, c) at e) in absurd (omega arith)))
    (λ b. let k = refusal-in (rw (a, b) at e) in absurd (omega arith)))
    (λ a. let k = refusal-in (rw a at e) in absurd (omega arith))

-- a page with no fault gets its list
pub all_listed : (t run headings topics list list₁ : List ℕ) (r : Result Unit Refusal) → Directs t run headings topics list r list₁ → accepted t ≡ true
    → plain_first (meaning_in t).rules ≡ true → parts_fit run (parts_of headings) ≡ true → parts_fit run (parts_of topics) ≡ true
    → every (good_part run) (parts_of headings) ≡ true → every (good_part run) (parts_of topics) ≡ true
    → good_headings (weights_of t run headings) ≡ true → leb (length (parts_of topics)) (length list) ≡ true → r ≡ (Ok tt)
unfolding first_given
all_listed t run headings topics list list₁ (Ok tt) e a b c d f g h i = refl
all_listed t run headings topics list list₁ (Err x) e a b c d f g h i =
    absurd (number_of-some x (rw (a, b, c, d, f, g, h, i) at (directory-refusal t run headings topics list (Err x) list₁ e)))

module _ (t run headings topics list list₁ : List ℕ) (e : Directs t run headings topics list (Ok tt) list₁) where
  lists : Lists t run headings topics list list₁
  lists = directory-lists t run headings topics list list₁ e

  -- the list past the topics is unchanged
  pub page-past : drop (length (parts_of topics)) list₁ ≡ drop (length (parts_of topics)) list
  page-past =
      let n : length (parts_of topics) ≡ length (map (heading_of (weights_of t run headings)) (weights_of t run topics)) =
      sym (length-map (weights_of t run topics) (heading_of (weights_of t run headings)) ∙ weights-many t run topics) in
      past-over (length (parts_of topics)) (map (heading_of (weights_of t run headings)) (weights_of t run topics)) list list₁ n lists.there

  module _ (i : ℕ) (h : i < length (parts_of topics)) where
    -- ## One topic, counted from 0

    -- it has a place in the list
    pub page-place : i < length list₁
    page-place =
        let ws : List ℕ = weights_of t run headings in
        let ns : List ℕ = map (heading_of ws) (weights_of t run topics) in
        let n : length ns ≡ length (parts_of topics) = length-map (weights_of t run topics) (heading_of ws) ∙ weights-many t run topics in
        let m = length-append ns (drop (length ns) list) in
        rw lists.there (omega arith)

    -- its number there is the rule's
    pub page-topic : get_or list₁ i 0 ≡ heading_of (weights_of t run headings) (part_weight (meaning_in t) run (part_at topics i))
    page-topic =
        let ws : List ℕ = weights_of t run headings in
        let n : List ℕ = map (heading_of ws) (weights_of t run topics) in
        let l : i < length (weights_of t run topics) = rw (weights-many t run topics) h in
        let k : i < length n = rw (length-map (weights_of t run topics) (heading_of ws)) l in
        ap (λ (x : List ℕ). get_or x i 0) lists.there
        ∙ get_or-append n (drop (length n) list) 0 i k
        ∙ get_d_map (heading_of ws) (weights_of t run topics) i 0 0 l
        ∙ ap (heading_of ws) (weight-there t run topics i h)

    -- "exactly one heading": the number is 0, the top of the page, or that of a heading
    pub page-most : get_or list₁ i 0 ≤ length (parts_of headings)
    page-most =
        let m = heading-most (weights_of t run headings) (part_weight (meaning_in t) run (part_at topics i)) in
        let n = weights-many t run headings in
        rw page-topic (omega arith)

    -- "A topic with no level-1 weight .. belongs to heading 0"
    pub page-none : get_or (levels_of (meaning_in t) (string_of run (part_at topics i))) 0 [] ≡ [] → get_or list₁ i 0 ≡ 0
    unfolding part_weight
    page-none z = page-topic ∙ rw (none-zero (meaning_in t) (string_of run (part_at topics i)) z) (heading-none (weights_of t run headings))

    -- "or before every heading"
    pub page-before : Above (part_weight (meaning_in t) run (part_at topics i)) 0 (weights_of t run headings) → get_or list₁ i 0 ≡ 0
    page-before a = page-topic ∙ heading-before (weights_of t run headings) (part_weight (meaning_in t) run (part_at topics i)) a

    -- "the last heading whose first level-1 weight is not above the topic's own"; k counts from 0, its number from 1
    pub page-last : (k : ℕ) → k < length (parts_of headings)
        → part_weight (meaning_in t) run (part_at headings k) ≤ part_weight (meaning_in t) run (part_at topics i)
        → Above (part_weight (meaning_in t) run (part_at topics i)) (suc k) (weights_of t run headings) → get_or list₁ i 0 ≡ suc k
    page-last k l b a =
        let ws : List ℕ = weights_of t run headings in
        let w : ℕ = part_weight (meaning_in t) run (part_at topics i) in
        let c : k < length ws = rw (weights-many t run headings) l in
        let s = some-weight ws k lists.rise c in
        let d : get_or ws k 0 ≤ w = rw (weight-there t run headings k l) b in
        page-topic ∙ heading-last ws w k (omega arith) c d a

    -- a heading's own string belongs to it
    pub page-own : (k : ℕ) → k < length (parts_of headings) → string_of run (part_at topics i) ≡ string_of run (part_at headings k) → get_or list₁ i 0 ≡ suc k
    unfolding part_weight
    page-own k l s =
        let ws : List ℕ = weights_of t run headings in
        let same : part_weight (meaning_in t) run (part_at topics i) ≡ get_or ws k 0 =
        ap (first_weight (meaning_in t)) s ∙ sym (weight-there t run headings k l) in
        page-topic
        ∙ ap (heading_of ws) same
        ∙ heading-own ws k lists.rise (rw (weights-many t run headings) l)

  -- ## Two topics

  -- of two topics of which the first does not come after the second by `compare`, the first gets no later heading
  pub page-rises : (i j : ℕ) (d : Answer) → i < length (parts_of topics) → j < length (parts_of topics)
      → Compares t (string_of run (part_at topics i)) (string_of run (part_at topics j)) (Ok d) → ¬ (sign_of d.sign ≡ greater)
      → get_or list₁ i 0 ≤ get_or list₁ j 0
  unfolding part_weight
  page-rises i j d h k c g =
      let a : List ℕ = string_of run (part_at topics i) in
      let b : List ℕ = string_of run (part_at topics j) in
      let v = compare-is-rule t a b d c in
      let w = weight-rises (meaning_in t) a b lists.plain (λ x. g (sign-of v.rule ∙ x)) in
      rw (page-topic i h, page-topic j k) (heading-rises (weights_of t run headings) (first_weight (meaning_in t) a) (first_weight (meaning_in t) b) w)

-- ## No weight

-- 0 is the first weight of a string that has none at level 1, and of no other
pub none_only : (t s : List ℕ) → accepted t ≡ true → first_weight (meaning_in t) s ≡ 0 → get_or (levels_of (meaning_in t) s) 0 [] ≡ []
none_only t s a e = zero-none (meaning_in t) s (accepted-stored t a).0 e
