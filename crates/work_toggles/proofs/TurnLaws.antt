-- A toggle is turned: the paper's list after it is the list that the area keeps after one store, or after two where the toggle is new.
use mathlib.Core.Path.{◌≡◌, refl, sym, ap, ◌∙◌, subst}
use mathlib.Core.Bool.{Bool, true, false}
use mathlib.Core.List.{List, [], ◌∷◌, ◌++◌, map}
use Prim.Native.Nat.{ℕ, zero, suc, ◌+◌, ◌-◌, ◌/◌, ◌≤◌, ◌<◌}
use native.Mathlib.Numerals.{add-one}
use native.Mathlib.Omega.{arith}
use lib.ListN.{length, get_or, take, drop, set, length-set, length-drop, drop_of_length-le}
use lib.Seq.{take_all, take-take, take-suc-set, take-set-lt, set_split, drop-set-add, get_or-set_same, get_or-set_other, length-take-le}
use lib.Dec.{ltb}
use borrow.Author.Tests.{ltb-true}
use Rattle.base_lists.proofs.Bools.{or-false-left, or-false-right}
use Rattle.rules.specs.Text.{one_of}
use Rattle.rules.specs.State.{Toggle}
use Rattle.rules.specs.Conditionals.{is_toggle, turned}
use Rattle.text_lines.specs.declared.Signs.{Signs}
use Rattle.text_lines.specs.Stream.{line_start}
use Rattle.work_toggles.specs.Kept.{word_left, word_of, toggle, toggle_at, stored_as, toggles_in, Slot, IsNew, Decides, MayTurn, Turned}
use Rattle.work_toggles.proofs.AreaLaws.{stored-place, stored-toggle, word-is, toggles-room, toggles-length, toggles-get_d, toggles-alike}
use Rattle.work_toggles.proofs.KeptLaws.{kept_again, kept_more}

-- ## The paper's list

-- with the toggle of a word turned, the list differs at its place, or is longer by one
turned-slot : (w : List ℕ) (b : Bool) (ts : List Toggle) (i : ℕ) → Slot w ts i → turned w b ts ≡ take i ts ++ toggle w b ∷ drop (suc i) ts
unfolding turned one_of
turned-slot w b [] zero v = refl
turned-slot w b [] (suc i) v = absurd (omega (arith, v.inside))
turned-slot w b (t ∷ ts) zero v = let h = v.there (omega arith) in rw h
turned-slot w b (t ∷ ts) (suc i) v =
    let n = or-false-left (is_toggle w t) (one_of (is_toggle w) (take i ts)) v.before in
    let o = or-false-right (is_toggle w t) (one_of (is_toggle w) (take i ts)) v.before in
    let s : Slot w ts i = record { inside = omega (arith, v.inside); there = λ h. v.there (omega arith); before = o } in
    rw n (ap (λ (x : List Toggle). t ∷ x) (turned-slot w b ts i s))

-- ## The area's list

map-take : {A B : Type 0} (f : A → B) (i : ℕ) (xs : List A) → map f (take i xs) ≡ take i (map f xs)
map-take f zero xs = refl
map-take f (suc i) [] = refl
map-take f (suc i) (x ∷ xs) = ap (λ (ys : List _). f x ∷ ys) (map-take f i xs)

map-drop : {A B : Type 0} (f : A → B) (i : ℕ) (xs : List A) → map f (drop i xs) ≡ drop i (map f xs)
map-drop f zero xs = refl
map-drop f (suc i) [] = refl
map-drop f (suc i) (x ∷ xs) = map-drop f i xs

map-split : {A B : Type 0} (f : A → B) (xs : List A) (y : A) (ys : List A) → map f (xs ++ y ∷ ys) ≡ map f xs ++ f y ∷ map f ys
map-split f [] y ys = refl
map-split f (x ∷ xs) y ys = ap (λ (zs : List _). f x ∷ zs) (map-split f xs y ys)

-- numbers of which one is stored anew, as toggles
stored-list : {A B : Type 0} (f : A → B) (xs : List A) (i : ℕ) (a : A) → map f (take i xs ++ a ∷ drop (suc i) xs) ≡ take i (map f xs) ++ f a ∷ drop (suc i) (map f xs)
stored-list f xs i a =
    map-split f (take i xs) a (drop (suc i) xs)
    ∙ ap (λ (x : List _). x ++ f a ∷ map f (drop (suc i) xs)) (map-take f i xs)
    ∙ ap (λ (x : List _). take i (map f xs) ++ f a ∷ x) (map-drop f (suc i) xs)

-- at a place before the last
inner : (xs : List ℕ) (n i a : ℕ) → i < n → n ≤ length xs → take n (set xs i a) ≡ take i (take n xs) ++ a ∷ drop (suc i) (take n xs)
inner xs n i a h l =
    let m = length-take-le n xs l in
    take-set-lt n xs i a h ∙ set_split (take n xs) i a (omega arith)

-- behind the last
outer : (xs : List ℕ) (n a : ℕ) → n < length xs → take (suc n) (set xs n a) ≡ take n (take n xs) ++ a ∷ drop (suc n) (take n xs)
outer xs n a h =
    let m = length-take-le n xs (omega arith) in
    take-suc-set xs n a h
    ∙ ap (λ (x : List ℕ). x ++ a ∷ []) (sym (take-take n n xs (omega arith)))
    ∙ ap (λ (x : List ℕ). take n (take n xs) ++ a ∷ x) (sym (drop_of_length-le (take n xs) {i = suc n} (omega arith)))

-- the toggles after a store
together : (g : Signs) (src work : List ℕ) (base n at : ℕ) (on : Bool) {i : ℕ} → Slot (word_left g src (line_start at)) (toggles_in g src work base n) i
    → (k x : ℕ) → x ≡ stored_as at on
    → take k (set (drop base work) i x) ≡ take i (take n (drop base work)) ++ x ∷ drop (suc i) (take n (drop base work))
    → toggles_in g src (set work (base + i) x) base k ≡ turned (word_left g src (line_start at)) on (toggles_in g src work base n)
unfolding toggles_in
together g src work base n at on {i} v k x s e =
    ap (λ (y : List ℕ). map (toggle_at g src) (take k y)) (drop-set-add base work i x)
    ∙ ap (map (toggle_at g src)) e
    ∙ stored-list (toggle_at g src) (take n (drop base work)) i x
    ∙ ap (λ (y : Toggle). take i (map (toggle_at g src) (take n (drop base work))) ++ y ∷ drop (suc i) (map (toggle_at g src) (take n (drop base work))))
    (ap (toggle_at g src) s ∙ stored-toggle g src at on)
    ∙ sym (turned-slot (word_left g src (line_start at)) on (map (toggle_at g src) (take n (drop base work))) i v)

-- ## One that is known, and one more

-- the place that a stored number tells
stored_at : (at : ℕ) (on : Bool) {x : ℕ} → x ≡ stored_as at on → x / 2 ≡ at
stored_at at on s = ap (λ (y : ℕ). y / 2) s ∙ stored-place at on

module _ {g : Signs} {src work : List ℕ} {base n at : ℕ} (m : MayTurn g src work base n at) {i : ℕ}
    (v : Slot (word_left g src (line_start at)) (toggles_in g src work base n) i) where
  slot-few : i ≤ n
  slot-few = let l = toggles-length g m.kept in omega (arith, v.inside)

  -- the area behind its first numbers
  rest : length (drop base work) ≡ length work - base
  rest = length-drop base work

  module _ (on : Bool) {x : ℕ} (s : x ≡ stored_as at on) where
    -- the number's word
    stored-word : word_of g src x ≡ word_left g src (line_start at)
    stored-word = ap (λ (y : ℕ). word_left g src (line_start y)) (stored_at at on s)

    stored-inside : x / 2 ≤ length src
    stored-inside = let e = stored_at at on s in omega (arith, m.inside)

  module _ (h : i < n) where
    -- the word is the one that is kept there
    again-word : word_left g src (line_start at) ≡ word_of g src (get_or work (base + i) 0)
    again-word =
        let l = toggles-length g m.kept in
        let w = word_left g src (line_start at) in
        word-is g src (get_or work (base + i) 0) w (ap (is_toggle w) (sym (toggles-get_d g m.kept i h)) ∙ v.there (omega arith))

    pub turn-again : (on : Bool) {x : ℕ} → x ≡ stored_as at on → Turned g src work (set work (base + i) x) base n n at on
    turn-again on {x} s =
        let r = m.kept.room in
        let f = m.kept.few in
        let l = rest in
        let long = length-set work (base + i) x in
        record {
          toggles = together g src work base n at on v n x s (inner (drop base work) n i x h (omega arith));
          kept =
              kept_again m.kept (set work (base + i) x) i x long
              (get_or-set_same work (base + i) x 0 (omega arith))
              (λ j a b. get_or-set_other work (base + i) (base + j) x 0 (λ e. b (omega arith)))
              (λ j a. get_or-set_other work (base + i) (base + 16 + j) x 0 (λ e. absurd (omega arith)))
              (stored-inside on s)
              (stored-word on s ∙ again-word);
          before = λ j a. get_or-set_other work (base + i) j x 0 (λ e. absurd (omega arith));
          behind = λ j a. get_or-set_other work (base + i) j x 0 (λ e. absurd (omega arith));
          long = long;
        }

  module _ (h : n ≤ i) where
    no_other : one_of (is_toggle (word_left g src (line_start at))) (toggles_in g src work base n) ≡ false
    no_other =
        let l = toggles-length g m.kept in
        let ts = toggles_in g src work base n in
        ap (one_of (is_toggle (word_left g src (line_start at)))) (sym (take_all i ts (omega arith))) ∙ v.before

    -- there is room for one more
    more_room : n < 16
    more_room =
        let l = toggles-length g m.kept in
        let ts = toggles_in g src work base n in
        let none = no_other in
        let few : ltb (length ts) 16 ≡ true = rw none at m.free in
        omega (arith, ltb-true (length ts) 16 few)

    pub turn-is-new : IsNew g src work base n (line_start at)
    turn-is-new = record { kept = m.kept; inside = m.inside; room = more_room; proper = m.proper; other = no_other }

    -- both stores are inside the area
    pub decision-room : base + 16 + n < length work
    decision-room = omega (arith, more_room, m.kept.room)

    pub new-room : (d : ℕ) → base + n < length (set work (base + 16 + n) d)
    new-room d = let l = length-set work (base + 16 + n) d in omega (arith, more_room, m.kept.room)

    pub turn-new : (on : Bool) {x d : ℕ} → Decides g src work base n (word_left g src (line_start at)) d → x ≡ stored_as at on
        → Turned g src work (set (set work (base + 16 + n) d) (base + n) x) base n (n + 1) at on
    turn-new on {x} {d} c s =
        let r = m.kept.room in
        let b = more_room in
        let between = set work (base + 16 + n) d in
        let e : i ≡ n = omega (arith, slot-few) in
        let first = length-set work (base + 16 + n) d in
        let second = length-set between (base + n) x in
        let long : length (set between (base + n) x) ≡ length work = second ∙ first in
        let l = length-drop base between in
        let f : n < length (drop base between) = omega arith in
        let alike =
        toggles-alike g src work between base n (toggles-room g m.kept) first
        (λ j a. get_or-set_other work (base + 16 + n) (base + j) d 0 (λ q. absurd (omega arith))) in
        let w = word_left g src (line_start at) in
        let v' : Slot w (toggles_in g src between base n) n = rw alike (subst (Slot w (toggles_in g src work base n)) e v) in
        let word = stored-word on s in
        record {
          toggles =
              together g src between base n at on v' (n + 1) x s (ap (λ (k : ℕ). take k (set (drop base between) n x)) (add-one n) ∙ outer (drop base between) n x f)
              ∙ ap (turned w on) alike;
          kept =
              kept_more m.kept b (set between (base + n) x) x d long
              (get_or-set_same between (base + n) x 0 (omega arith))
              (λ j a. get_or-set_other between (base + n) (base + j) x 0 (λ q. absurd (omega arith))
              ∙ get_or-set_other work (base + 16 + n) (base + j) d 0 (λ q. absurd (omega arith)))
              (get_or-set_other between (base + n) (base + 16 + n) x 0 (λ q. absurd (omega arith))
              ∙ get_or-set_same work (base + 16 + n) d 0 (omega arith))
              (λ j a. get_or-set_other between (base + n) (base + 16 + j) x 0 (λ q. absurd (omega arith))
              ∙ get_or-set_other work (base + 16 + n) (base + 16 + j) d 0 (λ q. absurd (omega arith)))
              (stored-inside on s)
              (rw word m.proper)
              (rw word c);
          before = λ j a.
              get_or-set_other between (base + n) j x 0 (λ q. absurd (omega arith))
              ∙ get_or-set_other work (base + 16 + n) j d 0 (λ q. absurd (omega arith));
          behind = λ j a.
              get_or-set_other between (base + n) j x 0 (λ q. absurd (omega arith))
              ∙ get_or-set_other work (base + 16 + n) j d 0 (λ q. absurd (omega arith));
          long = long;
        }
