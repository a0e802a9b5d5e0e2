-- The weights of one level with their end, and those of a whole line, written level by level.
use mathlib.Core.Path.{◌≡◌, refl, sym, ap, ◌∙◌}
use mathlib.Core.List.{List, [], ◌∷◌, flatten}
use Prim.Native.Nat.{ℕ, zero, suc, ◌+◌, ◌-◌, ◌≤◌, ◌<◌}
use native.Mathlib.Numerals.{add-one}
use native.Mathlib.Omega.{arith}
use lib.ListN.{length, set, length-set, length-map}
use lib.Seq.{sets, length-sets}
use Rattle.std.proofs.Common.{Fits, w32}
use Rattle.base_lists.proofs.Lists.{sets-append, sets-swap}
use Rattle.rules.specs.State.{Subject}
use Rattle.rules.proofs.SizeLaws.{counts-length}
use Rattle.rules.specs.Meaning.{count_all}
use Rattle.rules.specs.Table.{sums, counts}
use Rattle.rules.specs.Tokens.{Token}
use Rattle.rules.specs.OrderLines.{subject_of}
use Rattle.text_lines.specs.declared.Signs.{Signs}
use Rattle.work_subjects.specs.Keys.{key_at}
use Rattle.work_store.specs.Store.{Decl, Holds, Sound}
use Rattle.table_weights.specs.declared.Part.{Part}
use Rattle.table_weights.specs.declared.Cursor.{Cursor}
use Rattle.table_weights.specs.declared.Turn.{Turn}
use Rattle.table_weights.specs.Ranks.{rank_in, ranks_by, level_ranks}
use Rattle.table_weights.specs.Reading.{part_ranks, weights_left, Ahead, TurnIs, Starts, ranks_at}
use Rattle.table_records.specs.Writing.{RanksPut, part_size, LevelPut, LineRoom, LinePut}
use Rattle.table_records.proofs.PartLaws.{part_ranks-length}

-- ## One level

module _ (g : Signs) (src : List ℕ) {w : List ℕ} (own : ℕ) (x : Part) {area : List ℕ} {at : ℕ} {after : List ℕ} {next : ℕ}
    (s : Sound (key_at g src) (length src) w) (k : RanksPut g src w (part_ranks g src own x) area at after next) where
  level-to : next ≡ at + part_size g src x
  level-to =
      let f : Subject → ℕ = rank_in w s.ds in
      (k.puts s.n s.ds s.holds).to ∙ ap (λ (n : ℕ). at + n) (part_ranks-length g src own x f)

  -- where the weights end, counted from a place between base and their first
  module _ (place : ℕ) where
    pub level-from : place ≤ at → place ≤ next
    level-from h = omega (arith, level-to)

    pub level-small : {base : ℕ} → at + part_size g src x < base + 4294967296 → base ≤ place → Fits w32 (next - place)
    level-small h b = omega (arith, level-to)

  pub level-long : length after ≡ length area
  level-long =
      let f : Subject → ℕ = rank_in w s.ds in
      ap length (k.puts s.n s.ds s.holds).is ∙ length-sets area at (part_ranks g src own x f)

  pub level-slot : (slot : ℕ) → slot < length area → slot < length after
  level-slot slot h = omega (arith, level-long)

  pub level-put : (slot base : ℕ) {m : ℕ} → m ≡ next - base → LevelPut g src w own x area slot base at (set after slot m) next
  level-put slot base {m} e = record {
    is = λ n ds o.
        let r : List ℕ = part_ranks g src own x (rank_in w ds) in
        let z : m ≡ at + length r - base = e ∙ ap (λ (y : ℕ). y - base) (k.puts n ds o).to in
        ap (λ (a : List ℕ). set a slot m) (k.puts n ds o).is ∙ ap (λ (y : ℕ). set (sets area at r) slot y) z;
    to = level-to;
  }

-- ## How many there are

-- an operand gives equally many whatever the ranks are
ranks_by-length : (f h : Subject → ℕ) (own : ℕ) (w : List Token) → length (ranks_by f own w) ≡ length (ranks_by h own w)
unfolding ranks_by
ranks_by-length f h own [] = refl
ranks_by-length f h own (t ∷ ts) =
    length-map t.names (λ (n : List ℕ). f (subject_of n)) ∙ sym (length-map t.names (λ (n : List ℕ). h (subject_of n)))

pub count_all-any : (f h : Subject → ℕ) (own l : ℕ) (ws : List (List Token)) → count_all (level_ranks f own l ws) ≡ count_all (level_ranks h own l ws)
unfolding level_ranks count_all
count_all-any f h own zero ws = refl
count_all-any f h own (suc l) [] = ap (λ (n : ℕ). 1 + n) (count_all-any f h own l [])
count_all-any f h own (suc l) (w ∷ ws) = rw (ranks_by-length f h own w, count_all-any f h own l ws)

pub level_ranks-length : (f : Subject → ℕ) (own l : ℕ) (ws : List (List Token)) → length (level_ranks f own l ws) ≡ l
unfolding level_ranks
level_ranks-length f own zero ws = refl
level_ranks-length f own (suc l) [] = ap suc (level_ranks-length f own l [])
level_ranks-length f own (suc l) (w ∷ ws) = ap suc (level_ranks-length f own l ws)

-- ## Level by level

-- one level's weights and their end first, then the others
fill_step : (now : List ℕ) (slot base next : ℕ) (r : List ℕ) (rs : List (List ℕ)) → slot + suc (length rs) ≤ base → base ≤ next
    → sets (sets (set (sets now next r) slot (next + length r - base)) (slot + 1) (sums (next + length r - base) (counts rs))) (next + length r) (flatten rs)
    ≡ sets (sets now slot (sums (next - base) (counts (r ∷ rs)))) next (flatten (r ∷ rs))
unfolding flatten sums
fill_step now slot base next r rs h b =
    let e : ℕ = next - base + length r in
    let es : List ℕ = e ∷ sums e (counts rs) in
    let z : next + length r - base ≡ e = omega arith in
    let l : slot + length es ≤ next = omega (arith, counts-length e rs) in
    ap (λ (x : ℕ). sets (sets (set (sets now next r) slot x) (slot + 1) (sums x (counts rs))) (next + length r) (flatten rs)) z
    ∙ ap (λ (i : ℕ). sets (sets (set (sets now next r) slot e) i (sums e (counts rs))) (next + length r) (flatten rs)) (add-one slot)
    ∙ ap (λ (a : List ℕ). sets a (next + length r) (flatten rs)) (sets-swap now slot es next r l)
    ∙ sym (sets-append (sets now slot es) next r (flatten rs))

-- The weights of the last `left` levels are still to be written.
pub record Filling (g : Signs) (src w : List ℕ) (place levels own : ℕ) (area : List ℕ) (slots base at : ℕ) (now : List ℕ) (c : Cursor)
    (left slot next : ℕ) : Type 0 where
  pub same : (n : ℕ) (ds : List Decl) → Holds (key_at g src) (length src) w n ds
      → sets (sets now slot (sums (next - base) (counts (level_ranks (rank_in w ds) own left (weights_left g src c))))) next
      (flatten (level_ranks (rank_in w ds) own left (weights_left g src c)))
      ≡ sets (sets area slots (sums (at - base) (counts (ranks_at g src place levels own (rank_in w ds))))) at
      (flatten (ranks_at g src place levels own (rank_in w ds)))
  pub to : (n : ℕ) (ds : List Decl) → Holds (key_at g src) (length src) w n ds
      → next + count_all (level_ranks (rank_in w ds) own left (weights_left g src c)) ≡ at + count_all (ranks_at g src place levels own (rank_in w ds))
  pub room : (f : Subject → ℕ) → next + count_all (level_ranks f own left (weights_left g src c)) ≤ length now
  pub small : (f : Subject → ℕ) → next + count_all (level_ranks f own left (weights_left g src c)) < base + 4294967296
  pub long : length now ≡ length area
  pub below : slot + left ≤ base
  pub from : base ≤ next
  pub ahead : Ahead g src c

module _ (g : Signs) (src w : List ℕ) (place levels own : ℕ) (area : List ℕ) (slots base at : ℕ) (h : LineRoom g src place levels own area slots base at) where
  pub filling-none : {c : Cursor} → Starts g src place c → Filling g src w place levels own area slots base at area c levels slots at
  unfolding ranks_at
  filling-none {c} s = record {
    same = λ n ds o. rw (s.ranks (rank_in w ds) own levels);
    to = λ n ds o. rw (s.ranks (rank_in w ds) own levels);
    room = λ f. omega (arith, h.room, ap count_all (s.ranks h.by own levels), count_all-any h.by f own levels (weights_left g src c));
    small = λ f. omega (arith, h.small, ap count_all (s.ranks h.by own levels), count_all-any h.by f own levels (weights_left g src c));
    long = refl;
    below = h.before;
    from = h.from;
    ahead = s.ahead;
  }

module _ {g : Signs} {src w : List ℕ} {place levels own : ℕ} {area : List ℕ} {slots base at : ℕ} {now : List ℕ} {c : Cursor} {left slot next : ℕ}
    (v : Filling g src w place levels own area slots base at now c left slot next) where
  module _ {t : Turn} (k : TurnIs g src c t) {rest : ℕ} (l : suc rest ≡ left) where
    level : (f : Subject → ℕ) → level_ranks f own left (weights_left g src c)
        ≡ part_ranks g src own t.part f ∷ level_ranks f own rest (weights_left g src t.next)
    level f = ap (λ (n : ℕ). level_ranks f own n (weights_left g src c)) (sym l) ∙ k.ranks f own rest

    count : (f : Subject → ℕ) → count_all (level_ranks f own left (weights_left g src c))
        ≡ part_size g src t.part + count_all (level_ranks f own rest (weights_left g src t.next))
    unfolding count_all
    count f = ap count_all (level f) ∙ rw (part_ranks-length g src own t.part f)

    pub filling-slot : slot < length now
    filling-slot = omega (arith, v.room (λ x. 0), v.below, v.from)

    pub filling-room : next + part_size g src t.part ≤ length now
    filling-room = omega (arith, v.room (λ x. 0), count (λ x. 0))

    pub filling-small : next + part_size g src t.part < base + 4294967296
    filling-small = omega (arith, v.small (λ x. 0), count (λ x. 0))

    module _ {after : List ℕ} {behind : ℕ} (s : Sound (key_at g src) (length src) w) (i : LevelPut g src w own t.part now slot base next after behind) where
      long : length after ≡ length now
      long =
          let r : List ℕ = part_ranks g src own t.part (rank_in w s.ds) in
          ap length (i.is s.n s.ds s.holds) ∙ length-set (sets now next r) slot (next + length r - base) ∙ length-sets now next r

      pub filling-more : Filling g src w place levels own area slots base at after t.next rest (slot + 1) behind
      filling-more = record {
        same = λ n ds o.
            let f : Subject → ℕ = rank_in w ds in
            let r : List ℕ = part_ranks g src own t.part f in
            let rs : List (List ℕ) = level_ranks f own rest (weights_left g src t.next) in
            let z : behind ≡ next + length r = i.to ∙ ap (λ (m : ℕ). next + m) (sym (part_ranks-length g src own t.part f)) in
            let b : slot + suc (length rs) ≤ base = omega (arith, v.below, level_ranks-length f own rest (weights_left g src t.next)) in
            let now' : List ℕ = set (sets now next r) slot (next + length r - base) in
            ap (λ (a : List ℕ). sets (sets a (slot + 1) (sums (behind - base) (counts rs))) behind (flatten rs)) (i.is n ds o)
            ∙ ap (λ (m : ℕ). sets (sets now' (slot + 1) (sums (m - base) (counts rs))) m (flatten rs)) z
            ∙ fill_step now slot base next r rs b v.from
            ∙ ap (λ (x : List (List ℕ)). sets (sets now slot (sums (next - base) (counts x))) next (flatten x)) (sym (level f))
            ∙ v.same n ds o;
        to = λ n ds o. omega (arith, v.to n ds o, count (rank_in w ds), i.to);
        room = λ f. omega (arith, v.room f, count f, i.to, long);
        small = λ f. omega (arith, v.small f, count f, i.to);
        long = long ∙ v.long;
        below = omega (arith, v.below);
        from = omega (arith, v.from, i.to);
        ahead = k.ahead;
      }

  pub filling-all : left ≤ 0 → LinePut g src w place levels own area slots base at now next
  unfolding level_ranks count_all flatten sums
  filling-all l =
      let e : left ≡ 0 = omega arith in
      record {
        is = λ n ds o. let z = v.same n ds o in rw e at z;
        to = λ n ds o. let z = v.to n ds o in omega (arith, rw e at z);
      }
