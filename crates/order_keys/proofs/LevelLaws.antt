-- The bytes of a level, element by element: walked forward, and from its end while the string is cut from its beginning. How many they are.
use mathlib.Core.Path.{◌≡◌, refl, sym, ap, ◌∙◌}
use mathlib.Core.Bool.{Bool, true, false, cond}
use mathlib.Core.List.{List, [], ◌∷◌, ◌++◌, map, reverse, reverse_aux, reverse_aux-eq}
use Prim.Native.Nat.{ℕ, zero, suc, ◌+◌, ◌*◌, ◌≤◌, ◌<◌}
use native.Mathlib.Nat.{add-zero}
use native.Mathlib.Omega.{arith}
use lib.ListN.{length, length-append}
use Rattle.rules.specs.Meaning.{Rule, count_all}
use Rattle.rules.specs.Table.{meaning_in}
use Rattle.rules.specs.Order.{Entry, two, elements, weights_at, more, entries_from, walked, level_entries, level_key}
use Rattle.rules.proofs.EntryLaws.{level-count}
use Rattle.rules.proofs.KeyLaws.{entry_width, level-width}
use Rattle.order_keys.specs.Writing.{weights_from, entry_bytes, later_bytes, element_bytes, forward, backward, level_bytes}
use Rattle.order_keys.proofs.ElementLaws.{element-width}

-- ## Forward

-- the bytes of these elements, n elements without a weight having stood before them, and what follows them
unfoldable pub onward_bytes : Bool → ℕ → List (List ℕ) → List ℕ → List ℕ
onward_bytes p n [] rest = rest
onward_bytes p n ([] ∷ es) rest = onward_bytes p (suc n) es rest
onward_bytes p n ((w ∷ ws) ∷ es) rest = element_bytes p n (w ∷ ws) ++ onward_bytes p 0 es rest

pub onward-none : (p : Bool) (n : ℕ) (rest : List ℕ) → onward_bytes p n [] rest ≡ rest
unfolding onward_bytes
onward-none p n rest = refl

pub onward-skip : (p : Bool) (n : ℕ) (es : List (List ℕ)) (rest : List ℕ) → onward_bytes p n ([] ∷ es) rest ≡ onward_bytes p (suc n) es rest
unfolding onward_bytes
onward-skip p n es rest = refl

pub onward-take : (p : Bool) (n : ℕ) (ws : List ℕ) (es : List (List ℕ)) (rest : List ℕ) → 0 < length ws
    → onward_bytes p n (ws ∷ es) rest ≡ element_bytes p n ws ++ onward_bytes p 0 es rest
unfolding onward_bytes
onward-take p n [] es rest h = absurd (omega arith)
onward-take p n (w ∷ ws) es rest h = refl

level_key-later : (p : Bool) (ws : List ℕ) (es : List Entry) → level_key p (more ws es) [] ≡ later_bytes p ws ++ level_key p es []
unfolding level_key more later_bytes entry_bytes
level_key-later p [] es = refl
level_key-later true (w ∷ ws) es = ap (λ (k : List ℕ). two 1 (two w k)) (level_key-later true ws es)
level_key-later false (w ∷ ws) es = ap (λ (k : List ℕ). two w k) (level_key-later false ws es)

level_key-element : (p : Bool) (n w : ℕ) (ws : List ℕ) (es : List Entry)
    → level_key p (record { count = cond p n 0; weight = w } ∷ more ws es) [] ≡ element_bytes p n (w ∷ ws) ++ level_key p es []
unfolding level_key element_bytes entry_bytes
level_key-element true n w ws es = ap (λ (k : List ℕ). two (suc n) (two w k)) (level_key-later true ws es)
level_key-element false n w ws es = ap (λ (k : List ℕ). two w k) (level_key-later false ws es)

-- the paper's bytes, with 00 00 behind them
onward-paper : (p : Bool) (n : ℕ) (es : List (List ℕ)) → level_key p (entries_from p n es) [] ≡ onward_bytes p n es (two 0 [])
unfolding entries_from level_key onward_bytes
onward-paper p n [] = refl
onward-paper p n ([] ∷ es) = onward-paper p (suc n) es
onward-paper p n ((w ∷ ws) ∷ es) =
    level_key-element p n w ws (entries_from p 0 es) ∙ ap (λ (k : List ℕ). element_bytes p n (w ∷ ws) ++ k) (onward-paper p 0 es)

pub forward-bytes : (t s : List ℕ) (level : ℕ) (p : Bool) → level_bytes t s level (forward p) ≡ onward_bytes p 0 (weights_from t s level 0) (two 0 [])
unfolding level_bytes level_entries walked weights_from
forward-bytes t s level p = onward-paper p 0 (map (weights_at (meaning_in t).items level) (elements (meaning_in t).items 0 s))

-- ## Backward

-- The bytes of a level of which these elements are still to be cut. `done` stands behind those of the last element that has a weight, `last`, behind which n
-- elements without one have been cut; where there is no such element yet, `last` has no weight.
unfoldable pub turned_bytes : Bool → List ℕ → ℕ → List (List ℕ) → List ℕ → List ℕ
turned_bytes p last n [] done = element_bytes p n last ++ done
turned_bytes p last n ([] ∷ es) done = turned_bytes p last (suc n) es done
turned_bytes p last n ((w ∷ ws) ∷ es) done = turned_bytes p (w ∷ ws) 0 es (element_bytes p n last ++ done)

pub turned_none : (p : Bool) (last : List ℕ) (n : ℕ) (done : List ℕ) → turned_bytes p last n [] done ≡ element_bytes p n last ++ done
unfolding turned_bytes
turned_none p last n done = refl

pub turned-skip : (p : Bool) (last : List ℕ) (n : ℕ) (es : List (List ℕ)) (done : List ℕ)
    → turned_bytes p last n ([] ∷ es) done ≡ turned_bytes p last (suc n) es done
unfolding turned_bytes
turned-skip p last n es done = refl

pub turned-take : (p : Bool) (last : List ℕ) (n : ℕ) (ws : List ℕ) (es : List (List ℕ)) (done : List ℕ) → 0 < length ws
    → turned_bytes p last n (ws ∷ es) done ≡ turned_bytes p ws 0 es (element_bytes p n last ++ done)
unfolding turned_bytes
turned-take p last n [] es done h = absurd (omega arith)
turned-take p last n (w ∷ ws) es done h = refl

-- what is written and what is kept are part of the level
pub turned-long : (p : Bool) (last : List ℕ) (n : ℕ) (es : List (List ℕ)) (done : List ℕ)
    → length (element_bytes p n last) + length done ≤ length (turned_bytes p last n es done)
unfolding turned_bytes
turned-long p last n [] done = omega (arith, length-append (element_bytes p n last) done)
turned-long p last n ([] ∷ es) done =
    omega (arith, turned-long p last (suc n) es done, element-width p n last, element-width p (suc n) last)
turned-long p last n ((w ∷ ws) ∷ es) done =
    omega (arith, turned-long p (w ∷ ws) 0 es (element_bytes p n last ++ done), length-append (element_bytes p n last) done)

-- n elements without a weight, and others
unfoldable blanks : ℕ → List (List ℕ) → List (List ℕ)
blanks zero es = es
blanks (suc n) es = [] ∷ blanks n es

-- The same, turned round, is walked forward: first with elements in front of one that has a weight,
onward-split : (p : Bool) (n : ℕ) (xs : List (List ℕ)) (w : ℕ) (ws : List ℕ) (bs : List (List ℕ)) (rest : List ℕ)
    → onward_bytes p n (xs ++ (w ∷ ws) ∷ bs) rest ≡ onward_bytes p n (xs ++ (w ∷ ws) ∷ []) (onward_bytes p 0 bs rest)
unfolding onward_bytes
onward-split p n [] w ws bs rest = refl
onward-split p n ([] ∷ xs) w ws bs rest = onward-split p (suc n) xs w ws bs rest
onward-split p n ((v ∷ vs) ∷ xs) w ws bs rest = ap (λ (k : List ℕ). element_bytes p n (v ∷ vs) ++ k) (onward-split p 0 xs w ws bs rest)

-- then the last element alone,
onward-blanks : (p : Bool) (n k : ℕ) (last rest : List ℕ) → onward_bytes p n (blanks k (last ∷ [])) rest ≡ element_bytes p (k + n) last ++ rest
unfolding onward_bytes blanks element_bytes
onward-blanks p n zero [] rest = refl
onward-blanks p n zero (w ∷ ws) rest = let e : n ≡ 0 + n = omega arith in ap (λ (m : ℕ). element_bytes p m (w ∷ ws) ++ rest) e
onward-blanks p n (suc k) last rest =
    let e : k + suc n ≡ suc k + n = omega arith in
    onward-blanks p (suc n) k last rest ∙ ap (λ (m : ℕ). element_bytes p m last ++ rest) e

-- and so all of them
turned-onward : (p : Bool) (last : List ℕ) (n : ℕ) (es : List (List ℕ)) (done : List ℕ)
    → turned_bytes p last n es done ≡ onward_bytes p 0 (reverse_aux es (blanks n (last ∷ []))) done
unfolding turned_bytes blanks
turned-onward p last n [] done =
    sym (onward-blanks p 0 n last done ∙ ap (λ (m : ℕ). element_bytes p m last ++ done) (add-zero n))
turned-onward p last n ([] ∷ es) done = turned-onward p last (suc n) es done
turned-onward p last n ((w ∷ ws) ∷ es) done =
    let kept : List (List ℕ) = blanks n (last ∷ []) in
    let rest : List ℕ = onward_bytes p 0 kept done in
    let e : rest ≡ element_bytes p n last ++ done = onward-blanks p 0 n last done ∙ ap (λ (m : ℕ). element_bytes p m last ++ done) (add-zero n) in
    turned-onward p (w ∷ ws) 0 es (element_bytes p n last ++ done)
    ∙ ap (λ (k : List ℕ). onward_bytes p 0 (reverse_aux es ((w ∷ ws) ∷ [])) k) (sym e)
    ∙ ap (λ (k : List (List ℕ)). onward_bytes p 0 k rest) (reverse_aux-eq es ((w ∷ ws) ∷ []))
    ∙ sym (onward-split p 0 (reverse_aux es []) w ws kept done)
    ∙ ap (λ (k : List (List ℕ)). onward_bytes p 0 k done) (sym (reverse_aux-eq es ((w ∷ ws) ∷ kept)))

-- an element without a weight at the end adds nothing
onward-last : (p : Bool) (n : ℕ) (xs : List (List ℕ)) (rest : List ℕ) → onward_bytes p n (xs ++ [] ∷ []) rest ≡ onward_bytes p n xs rest
unfolding onward_bytes
onward-last p n [] rest = refl
onward-last p n ([] ∷ xs) rest = onward-last p (suc n) xs rest
onward-last p n ((w ∷ ws) ∷ xs) rest = ap (λ (k : List ℕ). element_bytes p n (w ∷ ws) ++ k) (onward-last p 0 xs rest)

turned-paper : (p : Bool) (es : List (List ℕ)) → level_key p (entries_from p 0 (reverse es)) [] ≡ turned_bytes p [] 0 es (two 0 [])
unfolding blanks
turned-paper p es =
    onward-paper p 0 (reverse es)
    ∙ sym (onward-last p 0 (reverse es) (two 0 []))
    ∙ ap (λ (k : List (List ℕ)). onward_bytes p 0 k (two 0 [])) (sym (reverse_aux-eq es ([] ∷ [])))
    ∙ sym (turned-onward p [] 0 es (two 0 []))

pub backward-bytes : (t s : List ℕ) (level : ℕ) (p : Bool) → level_bytes t s level (backward p) ≡ turned_bytes p [] 0 (weights_from t s level 0) (two 0 [])
unfolding level_bytes level_entries walked weights_from
backward-bytes t s level p = turned-paper p (map (weights_at (meaning_in t).items level) (elements (meaning_in t).items 0 s))

-- ## How many

pub level-long : (t s : List ℕ) (level : ℕ) (rule : Rule) → length (level_bytes t s level rule) ≡ entry_width rule.position * count_all (weights_from t s level 0) + 2
unfolding level_bytes weights_from
level-long t s level rule =
    let places : List ℕ = elements (meaning_in t).items 0 s in
    let w = level-width rule.position (level_entries (meaning_in t).items rule level places) [] in
    let e = ap (λ (n : ℕ). entry_width rule.position * n) (level-count (meaning_in t).items rule level places) in
    omega (arith, w, e)
