-- The weights of one operand, written.
use Rattle.std.specs.Prelude.{None, Option, Some}
use mathlib.Core.Path.{◌≡◌, refl, ap, ◌∙◌, subst}
use mathlib.Core.List.{List, [], ◌∷◌}
use Prim.Native.Nat.{ℕ, ◌+◌, ◌≤◌, ◌<◌}
use native.Mathlib.Omega.{arith}
use lib.ListN.{length}
use lib.Seq.{length-sets}
use Rattle.rules.specs.Lines.{quoted}
use Rattle.rules.specs.State.{Subject}
use Rattle.text_lines.specs.declared.Signs.{Signs}
use Rattle.text_lines.specs.declared.Spot.{Spot}
use Rattle.text_lines.specs.Stream.{marks_left}
use Rattle.text_tokens.specs.Left.{names_in}
use Rattle.base_units.specs.declared.Rank.{Rank}
use Rattle.work_subjects.specs.Keys.{key_at, subject_left}
use Rattle.work_store.specs.Store.{Decl, Holds}
use Rattle.table_weights.specs.declared.Part.{Part}
use Rattle.table_weights.specs.declared.Part.TheVariants as part
use Rattle.table_weights.specs.Ranks.{rank_in, RankIs}
use Rattle.table_weights.specs.Reading.{quote_ranks, RankNext, NextIs, InQuotes, part_ranks}
use Rattle.table_weights.proofs.QuoteLaws.{quote_ranks-length, quote_ranks-none}
use Rattle.table_records.specs.Writing.{Puts, RanksPut, quote_size, part_size}
use Rattle.table_records.proofs.StoreLaws.{Putting, putting-none, putting-more, putting-all, puts_none}

-- ## Names in quotes

-- The ranks of the names from q on are still to be written.
pub record Quoting (g : Signs) (src w : List ℕ) (p : Spot) (area : List ℕ) (at : ℕ) (now : List ℕ) (q : Spot) (next : ℕ) : Type 0 where
  pub putting : (n : ℕ) (ds : List Decl) → Holds (key_at g src) (length src) w n ds
      → Putting area at (quote_ranks g src p (rank_in w ds)) now next (quote_ranks g src q (rank_in w ds))
  pub room : next + quote_size g src q ≤ length now
  pub long : length now ≡ length area
  pub mode : q.mode ≡ quoted
  pub to : q.at ≤ length src

pub quoting-none : (g : Signs) (src w : List ℕ) (p : Spot) (area : List ℕ) (at : ℕ) → InQuotes g src p → at + quote_size g src p ≤ length area
    → Quoting g src w p area at area p at
quoting-none g src w p area at h r = record {
  putting = λ n ds o. putting-none area at (quote_ranks g src p (rank_in w ds));
  room = r;
  long = refl;
  mode = h.mode;
  to = h.to;
}

module _ (g : Signs) (src : List ℕ) {w : List ℕ} {p : Spot} {area : List ℕ} {at : ℕ} {now : List ℕ} {q : Spot} {next : ℕ} {s : Option (Rank × Spot)}
    (v : Quoting g src w p area at now q next) (k : NextIs g src w q s) where
  module _ {r : Rank} {e : Spot} (f : s ≡ Some (r, e)) where
    ahead : RankNext g src w q r.0 e
    ahead = subst (NextIs g src w q) f k

    pub quoting-less : quote_size g src e < quote_size g src q
    unfolding quote_size
    quoting-less = omega (arith, ahead.many)

    pub quoting-room : next < length now
    unfolding quote_size
    quoting-room = omega (arith, ahead.many, v.room)

    pub quoting-more : {after : List ℕ} {behind : ℕ} → Puts now next (r.0 ∷ []) after behind → Quoting g src w p area at after e behind
    unfolding quote_size
    quoting-more i = record {
      putting = λ n ds o. putting-more (v.putting n ds o) (r.0 ∷ []) (quote_ranks g src e (rank_in w ds)) (ahead.ranks n ds o) i;
      room = omega (arith, v.room, ahead.many, i.to, ap length i.is, length-sets now next (r.0 ∷ []));
      long = ap length i.is ∙ length-sets now next (r.0 ∷ []) ∙ v.long;
      mode = ahead.mode;
      to = ahead.to;
    }

  pub quoting-all : s ≡ None → RanksPut g src w (quote_ranks g src p) area at now next
  quoting-all f =
      let z : names_in (marks_left g src q) ≡ [] = subst (NextIs g src w q) f k in
      record { puts = λ n ds o. putting-all (v.putting n ds o) (quote_ranks-none g src q (rank_in w ds) z) }

-- ## One operand

module _ (g : Signs) (src w : List ℕ) (own : ℕ) (x : Part) (area : List ℕ) (at : ℕ) where
  pub part-own : {after : List ℕ} {next : ℕ} → x ≡ part.Own → Puts area at (own ∷ []) after next → RanksPut g src w (part_ranks g src own x) area at after next
  unfolding part_ranks
  part-own e p = rw e (record { puts = λ n ds o. p })

  pub part_none : x ≡ part.None → RanksPut g src w (part_ranks g src own x) area at area at
  unfolding part_ranks
  part_none e = rw e (record { puts = λ n ds o. puts_none area at })

  pub part-one : {p : Spot} {r : Rank} {after : List ℕ} {next : ℕ} → x ≡ part.One p → RankIs (key_at g src) (length src) w (subject_left g src p) r.0
      → Puts area at (r.0 ∷ []) after next → RanksPut g src w (part_ranks g src own x) area at after next
  unfolding part_ranks
  part-one {r = r} {after = after} {next = next} e k i = rw e (record { puts = λ n ds o. subst (λ (y : ℕ). Puts area at (y ∷ []) after next) (k.is n ds o) i })

  pub part-quotes : {p : Spot} {after : List ℕ} {next : ℕ} → x ≡ part.Quotes p → RanksPut g src w (quote_ranks g src p) area at after next
      → RanksPut g src w (part_ranks g src own x) area at after next
  unfolding part_ranks
  part-quotes e i = rw e (record { puts = i.puts })

-- its room
module _ (g : Signs) (src : List ℕ) {x : Part} (area : List ℕ) (at : ℕ) (h : at + part_size g src x ≤ length area) where
  pub room-own : x ≡ part.Own → at < length area
  unfolding part_size
  room-own e = omega (arith, rw e at h)

  pub room-one : {p : Spot} → x ≡ part.One p → at < length area
  unfolding part_size
  room-one e = omega (arith, rw e at h)

  pub room-quotes : {p : Spot} → x ≡ part.Quotes p → at + quote_size g src p ≤ length area
  unfolding part_size
  room-quotes e = rw e at h

-- as many ranks as there is room for
pub part_ranks-length : (g : Signs) (src : List ℕ) (own : ℕ) (x : Part) (f : Subject → ℕ) → length (part_ranks g src own x f) ≡ part_size g src x
unfolding part_ranks part_size quote_size
part_ranks-length g src own part.Own f = refl
part_ranks-length g src own part.None f = refl
part_ranks-length g src own (part.One p) f = refl
part_ranks-length g src own (part.Quotes p) f = quote_ranks-length g src p f
