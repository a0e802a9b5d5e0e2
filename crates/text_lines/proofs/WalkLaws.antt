-- The walks over a line: to its next mark, and to its end. A record for each loop's invariant, and a law for each turn.
use native.Mathlib.Nat.{add-zero, add_assoc}
use borrow.Author.Tests.{ltb-true, ltb-false}
use lib.Dec.{ltb}
use mathlib.Core.Bool.{Bool, true, false, ◌&&◌, and-true}
use mathlib.Core.Path.{◌≡◌, refl, ◌∙◌, subst, ap}
use mathlib.Core.List.{List, [], ◌∷◌, ◌++◌}
use Prim.Native.Nat.{ℕ, ◌-◌, ◌≤◌, ◌<◌, ◌+◌}
use native.Mathlib.Omega.{arith}
use lib.ListN.{length}
use Rattle.rules.specs.Lines.{in_comment}
use Rattle.text_lines.specs.declared.Signs.{Signs}
use Rattle.text_lines.specs.declared.Spot.{Spot}
use Rattle.text_lines.specs.declared.Item.{Item}
use Rattle.text_lines.specs.declared.Item.TheVariants.{Mark, Join, Hidden, End}
use Rattle.text_lines.specs.Stream.{marks_left, Passes, Marks, Ends, ItemIs, MarkIs, line_left, end_of, LineIs, Run, Joins}
use Rattle.text_lines.specs.Stretches.{Dull, EverDull}
use Rattle.base_lists.proofs.Bools.{by}
use Rattle.rules.specs.Text.{every}
use Rattle.rules.specs.Tokens.{is_text}

-- ## The next mark

-- Nothing but joins is passed from p to q.
pub record Joined (g : Signs) (src : List ℕ) (p q : Spot) : Type 0 where
  pub same : marks_left g src p ≡ marks_left g src q
  pub feeds : ℕ
  pub joins : Joins g src feeds p q
  pub to : q.at ≤ length src

pub joined-none : (g : Signs) (src : List ℕ) (p : Spot) → p.at ≤ length src → Joined g src p p
joined-none g src p h =
    record {
      same = refl;
      feeds = 0;
      joins = record { mode = refl; fresh = refl; bytes = 0; few = omega arith; moved = add-zero p.at; goes = λ s like done f z q. rw (add-zero f, add-zero z) };
      to = h;
    }

-- joins before a join
joins-join : {g : Signs} {src : List ℕ} {k : ℕ} {p q r : Spot} → Joins g src k p q → Joins g src 1 q r → Joins g src (k + 1) p r
joins-join {src = src} {k} {p} {q} {r} v w =
    record {
      mode = w.mode ∙ v.mode;
      fresh = w.fresh ∙ v.fresh;
      bytes = v.bytes + w.bytes;
      few = omega (arith, v.few, w.few);
      moved = omega (arith, v.moved, w.moved);
      goes = λ s like done f z h. v.goes s like done f z h
          ∙ w.goes s like done (f + k) (z + v.bytes) (rw (v.mode, v.fresh) h)
          ∙ rw (add_assoc f k 1, add_assoc z v.bytes w.bytes);
    }

-- joins before a mark
joins-mark : {g : Signs} {src : List ℕ} {m k : ℕ} {p q r : Spot} → Joins g src k p q → Run g src (m ∷ []) 0 q r → Run g src (m ∷ []) k p r
joins-mark {src = src} {m} {k} {p} {q} {r} v w =
    record {
      mode = rw (← v.mode) w.mode;
      fresh = w.fresh;
      bytes = v.bytes + w.bytes;
      few = omega (arith, v.few, w.few);
      moved = omega (arith, v.moved, w.moved);
      goes = λ s like done f z h. v.goes s like done f z h.0
          ∙ w.goes s like done (f + k) (z + v.bytes) (rw (v.mode, v.fresh) h.0, tt)
          ∙ rw (add-zero (f + k), add_assoc z v.bytes w.bytes);
    }

module _ {g : Signs} {src : List ℕ} {p q : Spot} {i : Item} (v : Joined g src p q) (s : ItemIs g src q i) where
  pub joined-mark : {m : ℕ} {r : Spot} → i ≡ Mark m r → MarkIs g src p m r
  joined-mark {m} {r} e =
      let t : Passes g src (m ∷ []) 0 q r × Marks q m r × Run g src (m ∷ []) 0 q r = subst (ItemIs g src q) e s in
      let d = v.joins.mode in
      record {
        marks = v.same ∙ t.0.marks;
        step = record { mode = rw (← d) t.1.mode; fresh = t.1.fresh; small = t.1.small; dead = λ z k. t.1.dead (d ∙ z) k };
        feeds = v.feeds;
        run = joins-mark v.joins t.2;
        on = omega (arith, v.joins.moved, t.0.on);
        to = t.0.to;
      }

  pub joined-more : {r : Spot} → i ≡ Join r → Joined g src p r
  joined-more {r} e =
      let t : Passes g src [] 1 q r × Joins g src 1 q r = subst (ItemIs g src q) e s in
      record { same = v.same ∙ t.0.marks; feeds = v.feeds + 1; joins = joins-join v.joins t.1; to = t.0.to }

-- ## The line's end

-- From p to q so many LFs are passed, and whether all was text.
pub record Reads (g : Signs) (src : List ℕ) (p q : Spot) (feeds : ℕ) (text : Bool) : Type 0 where
  pub end : end_of g src p ≡ end_of g src q
  pub fed : (line_left g src p).feeds ≡ feeds + (line_left g src q).feeds
  pub clean : every is_text (marks_left g src p) ≡ (text && every is_text (marks_left g src q))
  pub from : feeds + p.at ≤ q.at
  pub to : q.at ≤ length src

-- a stretch more, of which nothing is to be told
reads-dull : {g : Signs} {src : List ℕ} {p o q : Spot} {feeds : ℕ} {text : Bool} → Reads g src p o feeds text → EverDull g.escape src o q → Reads g src p q feeds text
reads-dull {g} {src} {p} {o} {q} {feeds} {text} v w =
    let d : Dull g src o q = w.dull g.comment in
    record {
      end = v.end ∙ d.end;
      fed = omega (arith, v.fed, d.feeds);
      clean = v.clean ∙ ap (λ (x : Bool). text && x) d.text;
      from = omega (arith, v.from, d.on);
      to = d.to;
    }

pub dull-within : {escape : ℕ} {src : List ℕ} {o q : Spot} → EverDull escape src o q → q.at ≤ length src
dull-within w = (w.dull 0).to

-- marks and LFs more
reads_on : {g : Signs} {src : List ℕ} {p q r : Spot} {feeds k n : ℕ} {text t : Bool} {ms : List ℕ} → Reads g src p q feeds text → Passes g src ms k q r → k ≤ 1 → feeds + k ≡ n
    → (text && every is_text (ms ++ marks_left g src r)) ≡ (t && every is_text (marks_left g src r)) → Reads g src p r n t
reads_on v w h z e =
    record {
      end = v.end ∙ w.end;
      fed = omega (arith, v.fed, w.feeds);
      clean = v.clean ∙ rw w.marks e;
      from = omega (arith, v.from, w.on);
      to = w.to;
    }

-- how much of the source a spot leaves
unfoldable pub left_at : List ℕ → Spot → ℕ
left_at src p = length src - p.at

-- One turn: from o to q nothing is to be told, and i stands at q.
module _ {g : Signs} {src : List ℕ} {p o q : Spot} {feeds : ℕ} {text : Bool} (u : Reads g src p o feeds text) (d : EverDull g.escape src o q) where
  v : Reads g src p q feeds text
  v = reads-dull u d

  on : o.at ≤ q.at
  on = (d.dull g.comment).on

  module _ {i : Item} (s : ItemIs g src q i) where
    pub reads-mark : {m : ℕ} {r : Spot} {t : Bool} → i ≡ Mark m r → text ≡ true → t ≡ is_text m → Reads g src p r feeds t
    unfolding every
    reads-mark {m} {r} {t} e x y =
        let w : Passes g src (m ∷ []) 0 q r × Marks q m r × Run g src (m ∷ []) 0 q r = subst (ItemIs g src q) e s in
        reads_on v w.0 (omega arith) (omega arith) (rw (x, y))

    pub reads-foul : {m : ℕ} {r : Spot} → i ≡ Mark m r → text ≡ false → Reads g src p r feeds text
    reads-foul {m} {r} e x =
        let w : Passes g src (m ∷ []) 0 q r × Marks q m r × Run g src (m ∷ []) 0 q r = subst (ItemIs g src q) e s in
        reads_on v w.0 (omega arith) (omega arith) (rw x)

    pub reads-join : {r : Spot} → i ≡ Join r → Reads g src p r (feeds + 1) text
    reads-join {r} e =
        let w : Passes g src [] 1 q r × Joins g src 1 q r = subst (ItemIs g src q) e s in
        reads_on v w.0 (omega arith) refl refl

    pub reads-hidden : {r : Spot} → i ≡ Hidden r → Reads g src p r feeds text
    reads-hidden {r} e =
        let w : Passes g src [] 0 q r × (r.mode ≡ in_comment) × (marks_left g src q ≡ []) = subst (ItemIs g src q) e s in
        reads_on v w.0 (omega arith) (omega arith) refl

    pub reads-less-mark : {m : ℕ} {r : Spot} → i ≡ Mark m r → left_at src r < left_at src o
    unfolding left_at
    reads-less-mark {m} {r} e = let w : Passes g src (m ∷ []) 0 q r × Marks q m r × Run g src (m ∷ []) 0 q r = subst (ItemIs g src q) e s in omega (arith, on, w.0.on, w.0.to)

    pub reads-less-join : {r : Spot} → i ≡ Join r → left_at src r < left_at src o
    unfolding left_at
    reads-less-join {r} e =
        let w : Passes g src [] 1 q r × Joins g src 1 q r = subst (ItemIs g src q) e s in
        omega (arith, on, w.0.on, w.0.to)

    pub reads-less-hidden : {r : Spot} → i ≡ Hidden r → left_at src r < left_at src o
    unfolding left_at
    reads-less-hidden {r} e =
        let w : Passes g src [] 0 q r × (r.mode ≡ in_comment) × (marks_left g src q ≡ []) = subst (ItemIs g src q) e s in
        omega (arith, on, w.0.on, w.0.to)

    pub reads_end : {next n : ℕ} → i ≡ End next n → LineIs g src p (record { next = next; feeds = feeds + n; text = text })
    unfolding every
    reads_end {next} {n} e =
        let w : Ends g src q next n = subst (ItemIs g src q) e s in
        record {
          end = v.end ∙ w.end;
          feeds = v.fed ∙ ap (λ (x : ℕ). feeds + x) w.fed;
          few = omega (arith, v.from, w.few);
          text = v.clean ∙ rw w.none (and-true text);
          to = w.to;
          on = λ h. by (ltb q.at (length src))
              (λ t. let k = w.on (ltb-true q.at (length src) t) in omega (arith, v.from))
              (λ t. let k = ltb-false q.at (length src) t in omega (arith, v.from, w.end));
        }
