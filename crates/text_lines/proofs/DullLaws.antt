-- Stretches of a line of which nothing is to be told: how loops find them, and why a line passes them.
use mathlib.Core.Path.{◌≡◌, refl, sym, ◌∙◌}
use mathlib.Core.Bool.{Bool, true, false, and-false}
use mathlib.Core.List.{List, [], ◌∷◌}
use Prim.Native.Nat.{ℕ, zero, suc, ◌+◌, ◌-◌, ◌%◌, ◌≤◌, ◌<◌}
use native.Mathlib.Nat.{add-zero}
use native.Mathlib.Omega.{arith}
use lib.ListN.{length, get_or}
use lib.Dec.{eqb, ltb}
use borrow.Author.Tests.{ne_eqb, le-leb, ltb-true, ltb-false}
use Rattle.base_lists.proofs.Bools.{by}
use Rattle.rules.specs.Text.{every}
use Rattle.rules.specs.Names.{is_blank}
use Rattle.rules.specs.Tokens.{is_text}
use Rattle.rules.specs.Lines.{after}
use Rattle.rules.proofs.TextLaws.{every_append}
use Rattle.text_lines.specs.declared.Signs.{Signs}
use Rattle.text_lines.specs.declared.Spot.{Spot}
use Rattle.text_lines.specs.Stream.{marks_left, Passes}
use Rattle.text_lines.specs.Stretches.{NoFeed, Ordinary, Stretch, Block, Dull, DullTo}
use Rattle.text_lines.proofs.ByteLaws.{text-high}
use Rattle.text_lines.proofs.LineLaws.{spot, item-hidden}
use Rattle.text_lines.proofs.StandsLaws.{Stands, stands-item}

-- ## Stretches

pub stretch-none : {P : ℕ → Type 0} (src : List ℕ) (i : ℕ) → i ≤ length src → Stretch P src i i
stretch-none src i h = record { each = λ k a b. absurd (omega arith); on = omega arith; to = h }

pub stretch-join : {P : ℕ → Type 0} {src : List ℕ} {i j k : ℕ} → Stretch P src i j → Stretch P src j k → Stretch P src i k
stretch-join {j = j} v w =
    record {
      each = λ n a b. by (ltb n j) (λ t. v.each n a (ltb-true n j t)) (λ t. w.each n (ltb-false n j t) b);
      on = let a = v.on in let b = w.on in omega arith;
      to = w.to;
    }

pub stretch-more : {P : ℕ → Type 0} {src : List ℕ} {i j : ℕ} → Stretch P src i j → j < length src → P (get_or src j 0) → Stretch P src i (j + 1)
stretch-more {P} {src} {i} {j} v h p =
    record {
      each = λ n a b. by (ltb n j) (λ t. v.each n a (ltb-true n j t))
          (λ t. let l = ltb-false n j t in let e : n ≡ j = omega arith in rw e p);
      on = let a = v.on in omega arith;
      to = omega arith;
    }

-- ## LFs in a block

-- Of a block's bytes before place j n are LFs: none of them is one if n is 0.
pub record Counted (src : List ℕ) (at n j : ℕ) : Type 0 where
  pub block : at + 32 ≤ length src
  pub few : n + at ≤ j
  pub first : j ≤ at + 32
  pub none : n ≡ 0 → Stretch NoFeed src at j

pub counted_none : (src : List ℕ) (at : ℕ) → at + 32 ≤ length src → Counted src at 0 at
counted_none src at h = record { block = h; few = omega arith; first = omega arith; none = λ e. stretch-none src at (omega arith) }

module _ {src : List ℕ} {at n j : ℕ} (v : Counted src at n j) where
  module _ (h : j < at + 32) where
    pub counted-feed : Counted src at (n + 1) (j + 1)
    counted-feed = record { block = v.block; few = let a = v.few in omega arith; first = omega arith; none = λ e. absurd (omega arith) }

    pub counted-other : (get_or src j 0 ≡ 10 → ⊥) → Counted src at n (j + 1)
    counted-other f =
        record {
          block = v.block;
          few = let a = v.few in omega arith;
          first = omega arith;
          none = λ e. stretch-more (v.none e) (let a = v.block in omega arith) (record { other = f });
        }

  pub counted-all : at + 32 ≤ j → Block src at n
  counted-all h e =
      let z : j ≡ at + 32 = let a = v.first in omega arith in
      rw z at (v.none e)

-- a block more
pub blocks_more : {src : List ℕ} {at i n : ℕ} → Stretch NoFeed src at i → Block src i n → n ≡ 0 → Stretch NoFeed src at (i + 32)
blocks_more v w e = stretch-join v (w e)

-- ## Ordinary bytes

module _ {escape b : ℕ} (v : Ordinary escape b) where
  -- every mode stays
  ordinary-after : (mode : ℕ) → mode ≡ after mode b
  unfolding after
  ordinary-after mode = simp (ne_eqb b 60 v.no-open, ne_eqb b 34 v.no-quote, ne_eqb b 62 v.no-close, and-false)

  ordinary-solid : false ≡ is_blank b
  ordinary-solid = let l = v.low in simp (ne_eqb b 32 (λ e. omega arith), ne_eqb b 9 (λ e. omega arith))

  ordinary-text : is_text b ≡ true
  ordinary-text =
      let l = v.low in
      let h = v.high in
      let m : b % 256 ≡ b = omega arith in
      rw m (sym (text-high b (omega arith)) ∙ le-leb b 126 h)

-- ## What a line passes

module _ {g : Signs} {src : List ℕ} where
  dull-none : (p : Spot) → p.at ≤ length src → Dull g src p p
  dull-none p h = record { end = refl; feeds = refl; text = refl; on = omega arith; to = h }

  dull-then : {p q r : Spot} → Dull g src p q → Dull g src q r → Dull g src p r
  dull-then v w =
      record {
        end = v.end ∙ w.end;
        feeds = v.feeds ∙ w.feeds;
        text = v.text ∙ w.text;
        on = let a = v.on in let b = w.on in omega arith;
        to = w.to;
      }

  -- marks that are text, and no LF
  dull-passes : {p q : Spot} {ms : List ℕ} → Passes g src ms 0 p q → every is_text ms ≡ true → Dull g src p q
  dull-passes {p} {q} {ms} v t =
      record {
        end = v.end;
        feeds = let f = v.feeds in omega arith;
        text = rw (v.marks, every_append is_text ms (marks_left g src q), t);
        on = let a = v.on in omega arith;
        to = v.to;
      }

  -- a byte of a comment
  comment-dull : (fresh : Bool) (k : ℕ) → k < length src → NoFeed (get_or src k 0) → Dull g src (spot k 4 fresh) (spot (k + 1) 4 fresh)
  unfolding every
  comment-dull fresh k h v = dull-passes (item-hidden g src (spot k 4 fresh) h v.other refl).0 refl

  -- an ordinary byte outside comments
  ordinary-dull : (mode : ℕ) → (mode ≡ 4 → ⊥) → (k : ℕ) → k < length src → Ordinary g.escape (get_or src k 0) → Dull g src (spot k mode false) (spot (k + 1) mode false)
  unfolding every
  ordinary-dull mode m k h v =
      let p = spot k mode false in
      let b = get_or src k 0 in
      let s : Stands g src p b =
      record {
        inside = h;
        is = refl;
        small = let a = v.high in omega arith;
        no-feed = λ e. let a = v.low in omega arith;
        no-escape = v.no-escape;
        seen = m;
        no-comment = rw (and-false (eqb mode 0));
      } in
      dull-passes {ms = b ∷ []} (stands-item s (ordinary-after v mode) (ordinary-solid v)).0 (rw (ordinary-text v))

  -- each byte of a stretch
  dull-stretch : {P : ℕ → Type 0} {mode : ℕ} {fresh : Bool} {i j : ℕ}
      → ((k : ℕ) → k < length src → P (get_or src k 0) → Dull g src (spot k mode fresh) (spot (k + 1) mode fresh))
      → Stretch P src i j → Dull g src (spot i mode fresh) (spot j mode fresh)
  dull-stretch {P} {mode} {fresh} {i} {j} step v = let z : i + (j - i) ≡ j = (let a = v.on in omega arith) in rw z at (go (j - i) (let a = v.on in omega arith))
    where
      go : (n : ℕ) → i + n ≤ j → Dull g src (spot i mode fresh) (spot (i + n) mode fresh)
      go zero h = rw (add-zero i) (dull-none (spot i mode fresh) (let a = v.to in omega arith))
      go (suc n) h =
          let z : i + suc n ≡ i + n + 1 = omega arith in
          rw z (dull-then (go n (omega arith)) (step (i + n) (let a = v.to in omega arith) (v.each (i + n) (omega arith) (omega arith))))

module _ {src : List ℕ} {at : ℕ} where
  -- a comment up to its LF
  pub dull-comment : {mode r : ℕ} (escape : ℕ) (fresh : Bool) → mode ≡ 4 → Stretch NoFeed src at r → DullTo escape src at mode fresh r
  dull-comment escape fresh m v = rw m (record { dull = λ c. dull-stretch (comment-dull fresh) v })

  -- ordinary bytes where no comment can open
  pub dull-ordinary : {mode escape r : ℕ} {fresh : Bool} → (mode ≡ 4 → ⊥) → fresh ≡ false → Stretch (Ordinary escape) src at r → DullTo escape src at mode fresh r
  dull-ordinary {mode} m f v = rw f (record { dull = λ c. dull-stretch (ordinary-dull mode m) v })
