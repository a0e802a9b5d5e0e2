-- The characters of an item, and the whole item.
use Rattle.std.specs.Prelude.{None, Option, Some}
use mathlib.Core.Path.{◌≡◌, refl, sym, ap, ◌∙◌, subst}
use mathlib.Core.List.{List, [], ◌∷◌, flatten}
use Prim.Native.Nat.{ℕ, suc, ◌+◌, ◌-◌, ◌*◌, ◌/◌, ◌%◌, ◌≤◌, ◌<◌}
use native.Mathlib.Numerals.{add-one, add-two}
use native.Mathlib.Omega.{arith}
use lib.ListN.{length, get_or, set, drop}
use lib.Seq.{sets, length-sets}
use borrow.Author.Tests.{le-leb, lt-leb, ne_eqb, eq-eqb}
use Rattle.rules.specs.Lines.{quoted}
use Rattle.rules.specs.Table.{pad, padded, sums, counts}
use Rattle.text_lines.specs.declared.Signs.{Signs}
use Rattle.text_lines.specs.declared.Spot.{Spot}
use Rattle.work_rows.specs.Cells.{cell}
use Rattle.work_order.specs.Links.{chars_number, place_number, rank_number}
use Rattle.base_units.specs.declared.CodePoint.{CodePoint}
use Rattle.work_subjects.specs.Keys.{quote_spot, chars_left, key_at, CharNext, NextIs}
use Rattle.work_store.specs.Store.{undefined_mark, Sound}
use Rattle.table_weights.specs.Ranks.{rank_in}
use Rattle.table_weights.specs.Reading.{ranks_at, item_ranks}
use Rattle.table_records.specs.declared.Coded.{Coded}
use Rattle.table_records.specs.Writing.{CodeIs, item_chars, CharsReady, HasChars, LineRoom, LinePut, ItemRoom, ItemPut}

-- ## Four characters

module _ (g : Signs) (src : List ℕ) (p : Spot) {s : Option (CodePoint × Spot)} (v : NextIs g src p s) where
  pub code-next : {c : CodePoint} {q : Spot} → s ≡ Some (c, q) → CodeIs g src p (record { code = c; next = q })
  code-next {c} {q} e =
      let x : CharNext g src p c.0 q = subst (NextIs g src p) e v in
      record { code = sym (rw x.chars); rest = sym (rw x.chars); mode = x.mode; to = x.to }

  pub code-end : p.at ≤ length src → p.mode ≡ quoted → s ≡ None → CodeIs g src p (record { code = record { 0 = 0x110000 }; next = p })
  code-end h m e =
      let x : chars_left g src p ≡ [] = subst (NextIs g src p) e v in
      record { code = sym (rw x); rest = rw x; mode = m; to = h }

pub four-stored : (area : List ℕ) (at a b c d : ℕ)
    → set (set (set (set area at a) (at + 1) b) (at + 2) c) (at + 3) d ≡ sets area at (a ∷ b ∷ c ∷ d ∷ [])
four-stored area at a b c d =
    let e : at + 3 ≡ suc (suc (suc at)) = omega arith in
    rw (add-one at, add-two at, e)

get_d_drop : (xs : List ℕ) (i d : ℕ) → get_or (drop 1 xs) i d ≡ get_or xs (suc i) d
get_d_drop [] i d = refl
get_d_drop (x ∷ xs) i d = refl

module _ {g : Signs} {src : List ℕ} {p : Spot} {a b c d : Coded} (v₀ : CodeIs g src p a) (v₁ : CodeIs g src a.next b) (v₂ : CodeIs g src b.next c)
    (v₃ : CodeIs g src c.next d) where
  pub four-quoted : (area : List ℕ) {after : List ℕ} (at : ℕ) → after ≡ sets area at (a.code.0 ∷ b.code.0 ∷ c.code.0 ∷ d.code.0 ∷ [])
      → after ≡ sets area at (padded (chars_left g src p) [])
  four-quoted area at e =
      let cs : List ℕ = chars_left g src p in
      let e₁ : b.code.0 ≡ get_or cs 1 pad = v₁.code ∙ ap (λ (xs : List ℕ). get_or xs 0 pad) v₀.rest ∙ get_d_drop cs 0 pad in
      let r₂ : chars_left g src b.next ≡ drop 1 (drop 1 cs) = v₁.rest ∙ ap (λ (xs : List ℕ). drop 1 xs) v₀.rest in
      let e₂ : c.code.0 ≡ get_or cs 2 pad = v₂.code ∙ ap (λ (xs : List ℕ). get_or xs 0 pad) r₂ ∙ get_d_drop (drop 1 cs) 0 pad ∙ get_d_drop cs 1 pad in
      let r₃ : chars_left g src c.next ≡ drop 1 (drop 1 (drop 1 cs)) = v₂.rest ∙ ap (λ (xs : List ℕ). drop 1 xs) r₂ in
      let e₃ : d.code.0 ≡ get_or cs 3 pad =
      v₃.code ∙ ap (λ (xs : List ℕ). get_or xs 0 pad) r₃ ∙ get_d_drop (drop 1 (drop 1 cs)) 0 pad ∙ get_d_drop (drop 1 cs) 1 pad ∙ get_d_drop cs 2 pad in
      e ∙ rw (v₀.code, e₁, e₂, e₃)

-- ## The characters of a mark

module _ (g : Signs) (src w : List ℕ) (mark : ℕ) (area : List ℕ) {after : List ℕ} (at : ℕ) where
  pub chars-undefined : {m : ℕ} → m ≡ undefined_mark (length src) → m ≤ mark → after ≡ sets area at (0x110000 ∷ 0x110000 ∷ 0x110000 ∷ 0x110000 ∷ [])
      → after ≡ sets area at (padded (item_chars g src w mark) [])
  unfolding item_chars
  chars-undefined u h e = e ∙ rw (le-leb (undefined_mark (length src)) mark (rw u at h))

  module _ {m : ℕ} (u : m ≡ undefined_mark (length src)) (h : mark < m) {x : ℕ} (i : x ≡ cell w mark chars_number) where
    pub chars-character : {c : ℕ} → x % 2 ≡ 0 → c ≡ (x - 2) / 2
        → after ≡ sets area at (c ∷ 0x110000 ∷ 0x110000 ∷ 0x110000 ∷ []) → after ≡ sets area at (padded (item_chars g src w mark) [])
    unfolding item_chars
    chars-character z k e =
        e ∙ rw (lt-leb (undefined_mark (length src)) mark (rw u at h), eq-eqb (cell w mark chars_number % 2) 0 (ap (λ (y : ℕ). y % 2) (sym i) ∙ z), k, i)

    pub chars-element : {q : ℕ} → (x % 2 ≡ 0 → ⊥) → q ≡ x → after ≡ sets area at (padded (chars_left g src (quote_spot (q / 2))) [])
        → after ≡ sets area at (padded (item_chars g src w mark) [])
    unfolding item_chars
    chars-element n j e =
        e ∙ rw (lt-leb (undefined_mark (length src)) mark (rw u at h), ne_eqb (cell w mark chars_number % 2) 0 (λ z. n (ap (λ (y : ℕ). y % 2) i ∙ z)), j ∙ i)

-- an even number that is not 0
pub even-some : (x : ℕ) → 1 ≤ x → x % 2 ≡ 0 → 2 ≤ x
even-some x h e = omega (arith, h, e)

module _ (len : ℕ) (w : List ℕ) (mark : ℕ) (r : CharsReady len w mark) {m : ℕ} (u : m ≡ undefined_mark len) (h : mark < m) where
  named : mark < undefined_mark len
  named = rw u at h

  pub chars-row : 8 * (mark / 16) + 8 ≤ length w
  chars-row = omega (arith, r.roomy.room, r.name named)

  pub chars-quotes : {q x : ℕ} → q ≡ x → x ≡ cell w mark chars_number → (x % 2 ≡ 0 → ⊥) → q / 2 ≤ len
  chars-quotes {q} j i n = let e : q ≡ cell w mark chars_number = j ∙ i in rw e (r.quotes named (λ z. n (ap (λ (y : ℕ). y % 2) i ∙ z)))

  -- a row that tells a character's code, or the mark of quotes
  pub chars-some : HasChars len w mark → {x : ℕ} → x ≡ cell w mark chars_number → 1 ≤ x
  chars-some c i = let k = c.told named in omega (arith, k, i)

-- ## The whole item

module _ (g : Signs) (src w : List ℕ) (mark levels : ℕ) where
  module _ (area : List ℕ) (slots from base at : ℕ) (h : ItemRoom g src w mark levels area slots from base at) where
    pub item-chars : from + 4 ≤ length area
    item-chars = omega (arith, h.chars, h.behind, h.room)

    module _ {now : List ℕ} (p : now ≡ sets area from (padded (item_chars g src w mark) [])) where
      long : length now ≡ length area
      long = ap length p ∙ length-sets area from (padded (item_chars g src w mark) [])

      module _ {place x : ℕ} (e : place ≡ x) (i : x ≡ cell w mark place_number) {own : ℕ} (j : own ≡ cell w mark rank_number) where
        pub item_room : LineRoom g src place levels own now slots base at
        unfolding item_ranks
        item_room =
            let z : place ≡ cell w mark place_number = e ∙ i in
            record {
              before = omega (arith, h.ends, h.chars);
              from = h.behind;
              by = h.by;
              room = rw (z, j) (omega (arith, h.room, long));
              small = rw (z, j) h.small;
            }

        pub item-put : {after : List ℕ} {next : ℕ} → LinePut g src w place levels own now slots base at after next
            → ItemPut g src w mark levels area slots from base at after next
        unfolding item_ranks
        item-put k =
            let z : place ≡ cell w mark place_number = e ∙ i in
            record {
              is = λ n ds o.
                  let R : List (List ℕ) = ranks_at g src (cell w mark place_number) levels (cell w mark rank_number) (rank_in w ds) in
                  let d : ranks_at g src place levels own (rank_in w ds) ≡ R = rw (z, j) in
                  k.is n ds o
                  ∙ ap (λ (r : List (List ℕ)). sets (sets now slots (sums (at - base) (counts r))) at (flatten r)) d
                  ∙ ap (λ (a : List ℕ). sets (sets a slots (sums (at - base) (counts R))) at (flatten R)) p;
              to = λ n ds o. rw (z, j) at (k.to n ds o);
            }

        pub item-same : {after : List ℕ} {next : ℕ} → Sound (key_at g src) (length src) w → LinePut g src w place levels own now slots base at after next
            → length after ≡ length area
        item-same s k =
            let R : List (List ℕ) = ranks_at g src place levels own (rank_in w s.ds) in
            let es : List ℕ = sums (at - base) (counts R) in
            ap length (k.is s.n s.ds s.holds) ∙ length-sets (sets now slots es) at (flatten R) ∙ length-sets now slots es ∙ long
