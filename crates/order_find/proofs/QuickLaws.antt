-- Where the item that is listed first in a character's bucket is that character alone, it is the element that begins any string with it.
use mathlib.Core.Path.{◌≡◌, refl, sym, ap, ◌∙◌, subst}
use mathlib.Core.Logic.{◌⊎◌, inl, inr}
use mathlib.Core.Bool.{true}
use mathlib.Core.List.{List, [], ◌∷◌}
use Prim.Native.Nat.{ℕ, suc, pred, ◌+◌, ◌≤◌, ◌<◌}
use native.Mathlib.Omega.{arith}
use native.Mathlib.Decide.{dec_lt}
use lib.ListN.{length, get_or, drop}
use lib.Seq.{drop-cons}
use lib.Dec.{eqb}
use borrow.Author.Tests.{eqb-true, eq-eqb}
use Rattle.base_lists.proofs.Bools.{and_left, and_intro}
use Rattle.rules.specs.Text.{every, begins}
use Rattle.rules.specs.Names.{is_character}
use Rattle.rules.specs.Meaning.{Item, Meaning}
use Rattle.rules.specs.Table.{pad, padded, before, bucket, listing, meaning_in}
use Rattle.rules.specs.Order.{no_item, step_of}
use Rattle.rules.proofs.TextLaws.{every-at, every-head, every-tail, within_low, within-high}
use Rattle.rules.proofs.MeaningLaws.{Good, item-parts}
use Rattle.rules.proofs.SortLaws.{before-cases}
use Rattle.rules.proofs.ElementLaws.{chars_at, step_is}
use Rattle.table_layout.specs.declared.Listed.{Listed}
use Rattle.table_layout.specs.declared.Shape.{Shape}
use Rattle.table_layout.specs.Parts.{Shaped, Indexed, start_for, listed_chars, Lists}
use Rattle.table_layout.proofs.IndexLaws.{indexed-good, listed-place}
use Rattle.order_find.specs.Answer.{Alone}
use Rattle.order_find.specs.Search.{listed_key}
use Rattle.order_find.proofs.BeginningLaws.{character-small, pad-over}
use Rattle.order_find.proofs.ListedLaws.{listed-rising, item-listed, item-good, listed-characters, bucket-before, start-inside, bucket-next}

-- an item of two characters and more does not come behind its first one alone
two-first : (b c d : ℕ) (ds : List ℕ) → is_character d ≡ true → before (b ∷ padded (c ∷ []) []) (b ∷ padded (c ∷ d ∷ ds) []) ≡ true → ⊥
two-first b c d ds h t = bucketed (before-cases b b _ _ t)
  where
    third : (pad < d) ⊎ ((pad ≡ d) × (before (pad ∷ pad ∷ []) (get_or ds 0 pad ∷ get_or ds 1 pad ∷ []) ≡ true)) → ⊥
    third (inl l) = omega (arith, l, character-small d h)
    third (inr r) = omega (arith, r.0, character-small d h)

    second : (c < c) ⊎ ((c ≡ c) × (before (pad ∷ pad ∷ pad ∷ []) (d ∷ get_or ds 0 pad ∷ get_or ds 1 pad ∷ []) ≡ true)) → ⊥
    second (inl l) = omega arith
    second (inr r) = third (before-cases pad d _ _ r.1)

    bucketed : (b < b) ⊎ ((b ≡ b) × (before (padded (c ∷ []) []) (padded (c ∷ d ∷ ds) []) ≡ true)) → ⊥
    bucketed (inl l) = omega arith
    bucketed (inr r) = second (before-cases c c _ _ r.1)

-- one character and padding
alone-is : (cs : List ℕ) (c : ℕ) → every is_character cs ≡ true → is_character c ≡ true → get_or cs 0 pad ≡ c → get_or cs 1 pad ≡ pad → cs ≡ c ∷ []
alone-is [] c h k e f = let b = character-small c k in absurd (omega arith)
alone-is (x ∷ []) c h k e f = ap (λ (y : ℕ). y ∷ []) e
alone-is (x ∷ y ∷ cs) c h k e f = let l = pad-over (x ∷ y ∷ cs) 1 h f in absurd (omega arith)

module _ (m : Meaning) (g : Good m) (c k : ℕ) (start : k ≡ start_for m.items (bucket (length m.items) (c ∷ []))) (inside : k < length m.items)
    (alone : listed_chars m.items k ≡ c ∷ []) where
  -- no longer item with that character is listed behind it
  later : (j : ℕ) {d : ℕ} {ds : List ℕ} → listed_chars m.items j ≡ c ∷ d ∷ ds → is_character d ≡ true
      → before (listed_key m.items k) (listed_key m.items j) ≡ true → ⊥
  unfolding bucket
  later j {d} {ds} e h t = two-first (bucket (length m.items) (c ∷ [])) c d ds h (rw (alone, e) at t)

  short : (q : ℕ) → q < length m.items → (cs rest : List ℕ) → chars_at m.items q ≡ cs → begins cs (c ∷ rest) ≡ true → length cs ≤ 1
  unfolding begins bucket
  short q b [] rest e t = omega arith
  short q b (x ∷ []) rest e t = omega arith
  short q b (x ∷ d ∷ ds) rest e t =
      let n : ℕ = length m.items in
      let xc : x ≡ c = eqb-true x c (and_left (eqb x c) (begins (d ∷ ds) rest) t) in
      let r = item-listed m g q b in
      let j : ℕ = r.0 in
      let at_j : listed_chars m.items j ≡ c ∷ d ∷ ds = r.2 ∙ e ∙ ap (λ (y : ℕ). y ∷ d ∷ ds) xc in
      let same : bucket n (listed_chars m.items j) ≡ bucket n (c ∷ []) = ap (bucket n) at_j in
      let characters = (item-parts (length m.rules) (get_or m.items q no_item) (item-good m g q b)).characters in
      let all : every is_character (x ∷ d ∷ ds) ≡ true = subst (λ (l : List ℕ). every is_character l ≡ true) e characters in
      let of-d : is_character d ≡ true = every-head is_character d ds (every-tail is_character x (d ∷ ds) all) in
      elim (dec_lt j k) [
        | yes l ↦ absurd (omega (arith, same, bucket-before m g (bucket n (c ∷ [])) j (omega arith) r.1))
        | no l ↦ elim (dec_lt k j) [
          | yes u ↦ absurd (later j at_j of-d (listed-rising m g k j u r.1))
          | no u ↦
              let jk : j ≡ k = omega arith in
              let both : c ∷ d ∷ ds ≡ c ∷ [] = sym at_j ∙ ap (listed_chars m.items) jk ∙ alone in
              let two : suc (suc (length ds)) ≡ 1 = ap length both in
              absurd (omega arith)
        ]
      ]

  quick-step : (rest : List ℕ) → step_of m.items (c ∷ rest) ≡ record { place = get_or (listing m.items) k 0; size = 1 }
  unfolding begins listed_chars
  quick-step rest =
      let p : ℕ = get_or (listing m.items) k 0 in
      let w = listed-place m g k inside in
      let low = within_low 1 (length m.items) p w in
      let high = within-high 1 (length m.items) p w in
      let one : length (chars_at m.items (pred p)) ≡ 1 = ap length alone in
      let is-p : suc (pred p) ≡ p = omega arith in
      let first : begins (chars_at m.items (pred p)) (c ∷ rest) ≡ true = rw alone (and_intro (eq-eqb c c refl) refl) in
      rw (is-p, one) at
      (step_is m.items (c ∷ rest) (pred p) g.apart (omega arith) (omega arith) first
      (λ q b t. omega (arith, one, short q b (chars_at m.items q) rest refl t)))

-- ## quick

-- a table's shape says where its index stands
pub shaped-indexed : {t : List ℕ} {s : Shape} → Shaped t s → Indexed t s.chars s.items
shaped-indexed v = record { checked = v.checked; chars-are = v.chars-are; items-are = v.items-are }

module _ {t : List ℕ} {chars items : ℕ} (w : Indexed t chars items) (c : ℕ) {b k : ℕ} (be : b ≡ bucket (length (meaning_in t).items) (c ∷ []))
    (ke : k ≡ start_for (meaning_in t).items b) where
  pub quick-inside : k < items
  quick-inside =
      let g = indexed-good w in
      let next = bucket-next (meaning_in t) g c [] in
      let last = start-inside (meaning_in t) g b (omega arith) in
      omega (arith, w.items-are)

  pub quick-found : {i : Listed} → is_character c ≡ true → Lists t k i → get_or t i.from 0 ≡ c → get_or t (i.from + 1) 0 ≡ pad
      → Alone (meaning_in t).items c i.place
  quick-found {i} h l first second =
      let m = meaning_in t in
      let g = indexed-good w in
      let inside : k < length m.items = omega (arith, quick-inside, w.items-are) in
      let z : i.from + 0 ≡ i.from = omega arith in
      let c₀ : get_or (listed_chars m.items k) 0 pad ≡ c = sym (rw z at (l.numbers 0 (omega arith))) ∙ first in
      let c₁ : get_or (listed_chars m.items k) 1 pad ≡ pad = sym (l.numbers 1 (omega arith)) ∙ second in
      let alone = alone-is (listed_chars m.items k) c (listed-characters m g k inside) h c₀ c₁ in
      let high = within-high 1 (length m.items) (get_or (listing m.items) k 0) (listed-place m g k inside) in
      record {
        is = λ rest. rw l.is (quick-step m g c k (rw be at ke) inside alone rest);
        inside = omega (arith, l.is);
      }

-- ## Where it stands in a string

module _ (s : List ℕ) (at : ℕ) (h : at < length s) where
  pub quick-character : every is_character s ≡ true → is_character (get_or s at 0) ≡ true
  quick-character g = every-at is_character s at 0 g h

  pub quick-stands : {is : List Item} {place : ℕ} → Alone is (get_or s at 0) place → record { place = place; size = 1 } ≡ step_of is (drop at s)
  quick-stands {is} q = sym (q.is (drop (suc at) s)) ∙ ap (step_of is) (sym (drop-cons s at 0 h))
