-- The names in quotes, one after the other: the next one's rank, and the turns of the loops.
use Rattle.std.specs.Prelude.{None, Option, Some}
use mathlib.Core.Path.{◌≡◌, refl, sym, ap, ◌∙◌, subst}
use mathlib.Core.Bool.{Bool, true, ◌&&◌}
use mathlib.Core.List.{List, []}
use Prim.Native.Nat.{ℕ, ◌+◌, ◌≤◌, ◌<◌}
use native.Mathlib.Omega.{arith}
use lib.ListN.{length, length-map}
use lib.Dec.{leb}
use Rattle.base_lists.proofs.Bools.{by}
use Rattle.rules.specs.Text.{every}
use Rattle.rules.specs.Lines.{quoted}
use Rattle.rules.specs.State.{Subject}
use Rattle.rules.specs.OrderLines.{subject_of}
use Rattle.text_lines.specs.declared.Signs.{Signs}
use Rattle.text_lines.specs.declared.Spot.{Spot}
use Rattle.text_lines.specs.Stream.{marks_left}
use Rattle.text_tokens.specs.Left.{is_inside, names_in}
use Rattle.text_names.specs.Named.{NameAt, NamedIs}
use Rattle.base_units.specs.declared.Rank.{Rank}
use Rattle.work_subjects.specs.Keys.{key_at, subject_left, AfterName}
use Rattle.work_store.specs.Store.{Decl, Holds}
use Rattle.table_weights.specs.Ranks.{rank_in, RankIs}
use Rattle.table_weights.specs.Reading.{quote_ranks, RankNext, NextIs, InQuotes, Measures}

-- as many ranks as names
pub quote_ranks-length : (g : Signs) (src : List ℕ) (p : Spot) (f : Subject → ℕ) → length (quote_ranks g src p f) ≡ length (names_in (marks_left g src p))
unfolding quote_ranks
quote_ranks-length g src p f = length-map (names_in (marks_left g src p)) (λ (n : List ℕ). f (subject_of n))

pub quote_ranks-none : (g : Signs) (src : List ℕ) (p : Spot) (f : Subject → ℕ) → names_in (marks_left g src p) ≡ [] → quote_ranks g src p f ≡ []
unfolding quote_ranks
quote_ranks-none g src p f e = rw e

-- ## The next name

module _ (g : Signs) (src : List ℕ) (p : Spot) {n : Option Spot} (v : NamedIs g src p n) where
  pub rank-end : n ≡ None → names_in (marks_left g src p) ≡ []
  rank-end e = subst (NamedIs g src p) e v

  module _ {q : Spot} (e : n ≡ Some q) where
    there : NameAt g src p q
    there = subst (NamedIs g src p) e v

    pub name-to : q.at ≤ length src
    name-to = there.to

    pub name-inside : p.mode ≡ quoted → is_inside q.mode ≡ true
    name-inside h = rw (there.mode h)

    pub rank-next : {w : List ℕ} {r : Rank} {s : Spot} → p.mode ≡ quoted → RankIs (key_at g src) (length src) w (subject_left g src q) r.0 → AfterName g src q s
        → RankNext g src w p r.0 s
    unfolding quote_ranks
    rank-next h k a = record {
      ranks = λ m ds o. rw (there.names, a.names, k.is m ds o);
      many = omega (arith, ap length there.names, ap length a.names);
      mode = a.mode (there.mode h);
      to = a.to;
    }

-- ## Counting them

pub and-true : (t : Bool) → (t && true) ≡ t
and-true t = by t (λ e. rw e) (λ e. rw e)

pub and_assoc : (a b c : Bool) → ((a && b) && c) ≡ (a && (b && c))
and_assoc a b c = by a (λ e. rw e) (λ e. rw e)

-- The names before q are counted.
pub record Counting (g : Signs) (src w : List ℕ) (p q : Spot) (weights : ℕ) (ranked : Bool) : Type 0 where
  pub many : weights + length (names_in (marks_left g src q)) ≡ length (names_in (marks_left g src p))
  pub all : (n : ℕ) (ds : List Decl) → Holds (key_at g src) (length src) w n ds
      → (ranked && every (leb 1) (quote_ranks g src q (rank_in w ds))) ≡ every (leb 1) (quote_ranks g src p (rank_in w ds))
  pub mode : q.mode ≡ quoted
  pub to : q.at ≤ length src

pub counting-none : (g : Signs) (src w : List ℕ) (p : Spot) → InQuotes g src p → Counting g src w p p 0 true
counting-none g src w p h = record { many = omega arith; all = λ n ds o. refl; mode = h.mode; to = h.to }

module _ (g : Signs) (src : List ℕ) {w : List ℕ} {p q : Spot} {weights : ℕ} {ranked : Bool} {s : Option (Rank × Spot)}
    (v : Counting g src w p q weights ranked) (k : NextIs g src w q s) where
  module _ {r : Rank} {e : Spot} (f : s ≡ Some (r, e)) where
    ahead : RankNext g src w q r.0 e
    ahead = subst (NextIs g src w q) f k

    pub counting-less : length (names_in (marks_left g src e)) < length (names_in (marks_left g src q))
    counting-less = omega (arith, ahead.many)

    pub counting-small : InQuotes g src p → weights + 1 ≤ 8
    counting-small h = omega (arith, ahead.many, v.many, h.few)

    pub counting_more : {known : Bool} → known ≡ (ranked && leb 1 r.0) → Counting g src w p e (weights + 1) known
    unfolding every
    counting_more {known} t = record {
      many = omega (arith, ahead.many, v.many);
      all = λ n ds o. rw t (and_assoc ranked (leb 1 r.0) (every (leb 1) (quote_ranks g src e (rank_in w ds)))
          ∙ ap (λ (l : List ℕ). ranked && every (leb 1) l) (sym (ahead.ranks n ds o)) ∙ v.all n ds o);
      mode = ahead.mode;
      to = ahead.to;
    }

  pub counting-all : InQuotes g src p → s ≡ None
      → Measures (key_at g src) (length src) w (quote_ranks g src p) (record { weights = weights; ranked = ranked })
  unfolding every
  counting-all h f =
      let z : names_in (marks_left g src q) ≡ [] = subst (NextIs g src w q) f k in
      let c : weights ≡ length (names_in (marks_left g src p)) = omega (arith, v.many, ap length z) in
      record {
        weights = λ n ds o. c ∙ sym (quote_ranks-length g src p (rank_in w ds));
        ranked = λ n ds o. sym (and-true ranked) ∙ ap (λ (l : List ℕ). ranked && every (leb 1) l) (sym (quote_ranks-none g src q (rank_in w ds) z)) ∙ v.all n ds o;
        few = omega (arith, h.few);
      }
