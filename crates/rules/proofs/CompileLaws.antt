-- Whatever the definition of the compiler grants is an accepted meaning that fits its table area (specs/Compile).
use mathlib.Core.Path.{◌≡◌, refl, sym, ap, ◌∙◌}
use mathlib.Core.Bool.{Bool, true, false, not, ◌&&◌, or-true}
use mathlib.Core.List.{List, [], ◌∷◌, ◌++◌, map, append-nil}
use Prim.Native.Nat.{ℕ, suc, ◌+◌, ◌≤◌, ◌<◌}
use native.Mathlib.Omega.{arith}
use lib.ListN.{length, get_or, length-append}
use lib.Dec.{eqb, leb, ltb, lit≤}
use borrow.Author.Tests.{eqb-true, eq-eqb, ne_eqb, ltb-false, not-true, not-false}
use Rattle.base_lists.proofs.Bools.{and_intro, by}
use Rattle.rules.specs.Text.{within, every, one_of, same, granted, refused}
use Rattle.rules.specs.Meaning.{Rule, Item, item, Meaning, size_of, good_weights, good_item, has_chars, no_two_alike, good}
use Rattle.rules.specs.State.{Declaration, undefined, OrderLine, State, start}
use Rattle.rules.specs.OrderLines.{rank_of, stands, is_symbol}
use Rattle.rules.specs.Source.{Ended, lines_from}
use Rattle.rules.specs.Compile.{chars_of, items_from, levels_of_rank, supplied, meaning_of, is_ranked, finish, compile_of}
use Rattle.rules.proofs.TextLaws.{every_append, one_of-append, within_low, within-high, within-intro}
use Rattle.rules.proofs.ResultLaws.{granted-unique, granted-else, granted-then}
use Rattle.rules.proofs.RankLaws.{is_line_of, rank_from-zero}
use Rattle.rules.proofs.StateLaws.{Elements, Lines}
use Rattle.rules.proofs.SourceLaws.{EndsSound, lines_from-sound, start-sound}
use Rattle.rules.proofs.ItemLaws.{HasItem, items_from-length, items_from-none, items_from-apart, items_from-undefined, items_from-good}
use Rattle.rules.proofs.MeaningLaws.{Good, good-parts, good-whole, good_items-weights, no_two_alike-append, no_two_alike-get_d, Once, no_two_alike-once}

-- ## UNDEFINED, supplied

levels_of_rank-length : (k : ℕ) (rs : List Rule) → length (levels_of_rank k rs) ≡ length rs
unfolding levels_of_rank
levels_of_rank-length k [] = refl
levels_of_rank-length k (r ∷ rs) = ap suc (levels_of_rank-length k rs)

levels_of_rank-good : (k : ℕ) (rs : List Rule) → 1 ≤ k → k ≤ 32768 → every good_weights (levels_of_rank k rs) ≡ true
unfolding levels_of_rank every good_weights
levels_of_rank-good k [] h l = refl
levels_of_rank-good k (r ∷ rs) h l = and_intro (and_intro (within-intro 1 32768 k h l) refl) (levels_of_rank-good k rs h l)

supplied-good : (k : ℕ) (rs : List Rule) → 1 ≤ k → k ≤ 32768 → good_item (length rs) (item [] (levels_of_rank k rs)) ≡ true
unfolding good_item every
supplied-good k rs h l =
    and_intro (eq-eqb (length (levels_of_rank k rs)) (length rs) (levels_of_rank-length k rs)) (levels_of_rank-good k rs h l)

-- ## All items

-- The parts of `good` that speak of the items.
record GoodItems (n : ℕ) (is : List Item) : Type 0 where
  few : length is ≤ 32768
  each : every (good_item n) is ≡ true
  apart : no_two_alike is ≡ true
  undefined : one_of (has_chars []) is ≡ true

-- good items without UNDEFINED, and UNDEFINED after them
append-good : (n : ℕ) (is : List Item) (ws : List (List ℕ)) → length is ≤ 32767 → every (good_item n) is ≡ true → no_two_alike is ≡ true
    → one_of (has_chars []) is ≡ false → good_item n (item [] ws) ≡ true → GoodItems n (is ++ item [] ws ∷ [])
unfolding every one_of has_chars same
append-good n is ws few each apart none last = record {
  few = rw length-append (omega arith);
  each = rw (every_append (good_item n) is (item [] ws ∷ [])) (and_intro each (and_intro last refl));
  apart = no_two_alike-append is (item [] ws) apart none;
  undefined = rw (one_of-append (has_chars []) is (item [] ws ∷ [])) (or-true (one_of (has_chars []) is));
}

undefined-item : (ds : List Declaration) → HasItem ds undefined
unfolding stands is_symbol
undefined-item ds = record { standing = refl; no_symbol = refl }

items-good : (ds : List Declaration) (rs : List Rule) (ls : List OrderLine) → Elements ds → Lines ds (length rs) ls → length ls ≤ 32767
    → every (is_ranked ls) ls ≡ true → GoodItems (length rs) (items_from ds ls ls ++ supplied rs ls)
unfolding supplied chars_of
items-good ds rs ls w h f e =
    let n = length rs in
    let is = items_from ds ls ls in
    let few = items_from-length ds ls ls in
    let each = items_from-good ds n ls ls f w h e in
    let apart = items_from-apart ds n ls ls w h in
    let listed : Bool = one_of (is_line_of undefined) ls in
    let zero = rank_from-zero 1 undefined ls (lit≤ tt) in
    by (eqb (rank_of ls undefined) 0) (λ t.
    let none = items_from-none ds n ls ls undefined w h (undefined-item ds) (not-true listed (sym zero ∙ t)) in
    let last = supplied-good (suc (length ls)) rs (omega arith) (omega arith) in
    rw t (append-good n is (levels_of_rank (suc (length ls)) rs) (omega arith) each apart none last)) (λ t.
    let one = items_from-undefined ds ls ls (not-false listed (sym zero ∙ t)) in
    rw (t, append-nil is) (record { few = omega arith; each = each; apart = apart; undefined = one }))

-- ## The meaning

meaning_of-good : (s : State) → EndsSound s → every (is_ranked s.ordered.lines) s.ordered.lines ≡ true → Good (meaning_of s)
unfolding meaning_of
meaning_of-good s h e =
    let k = h.sound in
    let g = items-good s.declared s.ordered.rules s.ordered.lines k.elements k.lines k.few e in
    record {
      some_level = within_low 1 8 (length s.ordered.rules) h.ruled;
      few-levels = within-high 1 8 (length s.ordered.rules) h.ruled;
      few-items = g.few;
      items = g.each;
      apart = g.apart;
      undefined = g.undefined;
    }

-- ## What is refused

-- a refused line is answered by its own number, whatever the weights of the lines before it name: 8 comes after the last line
pub finish-line : (area : ℕ) (e : Ended) → (e.refusal ≡ 0 → ⊥) → finish area e ≡ refused e.refusal e.line
unfolding finish
finish-line area e h = rw (ne_eqb e.refusal 0 h)

-- ## What is granted

-- What the end grants: no line is refused, every weight has a rank, and the meaning fits.
record Finished (area : ℕ) (e : Ended) (m : Meaning) : Type 0 where
  unrefused : e.refusal ≡ 0
  ranked : every (is_ranked e.state.ordered.lines) e.state.ordered.lines ≡ true
  meaning : meaning_of e.state ≡ m
  fits : size_of m ≤ area

finish-granted : (area : ℕ) (e : Ended) (m : Meaning) → finish area e ≡ granted m → Finished area e m
unfolding finish
finish-granted area e m h =
    let ls = e.state.ordered.lines in
    let meant = meaning_of e.state in
    let zero : Bool = eqb e.refusal 0 in
    let ranked : Bool = every (is_ranked ls) ls in
    let one = granted-else (not zero) _ _ h in
    let two = granted-else (not ranked) _ _ one.1 in
    let three = granted-else (ltb area (size_of meant)) _ _ two.1 in
    let e' : meant ≡ m = granted-unique three.1 in
    record {
      unrefused = eqb-true e.refusal 0 (not-false zero one.0);
      ranked = not-false ranked two.0;
      meaning = e';
      fits = rw e' at (ltb-false area (size_of meant) three.0);
    }

compile-finished : (source : List ℕ) (area work : ℕ) (m : Meaning) → compile_of source area work ≡ granted m
    → Finished area (lines_from start 1 0 source) m
unfolding compile_of
compile-finished source area work m h =
    let run = lines_from start 1 0 source in
    finish-granted area run m (granted-then (leb (length source) 1048576 && leb (length source + 64) work) 1 0 h).1

-- whatever is compiled is an accepted meaning
pub compile-good : (source : List ℕ) (area work : ℕ) (m : Meaning) → compile_of source area work ≡ granted m → good m ≡ true
compile-good source area work m h =
    let f = compile-finished source area work m h in
    let run = lines_from start 1 0 source in
    rw (sym f.meaning) (good-whole _ (meaning_of-good run.state (lines_from-sound start 1 0 source start-sound f.unrefused) f.ranked))

-- ## What that says

module _ (source : List ℕ) (area work : ℕ) (m : Meaning) (h : compile_of source area work ≡ granted m) where
  compiled : Good m
  compiled = good-parts m (compile-good source area work m h)

  -- the table fits into the area
  pub compile-size : size_of m ≤ area
  compile-size = (compile-finished source area work m h).fits

  pub compile-levels : (1 ≤ length m.rules) × (length m.rules ≤ 8)
  compile-levels = (compiled.some_level, compiled.few-levels)

  -- every weight of every level of every item
  pub compile-weights : every (every (every (within 1 32768))) (map (λ (i : Item). i.weights) m.items) ≡ true
  compile-weights = good_items-weights (length m.rules) m.items compiled.items

  -- exactly one UNDEFINED
  pub compile-undefined : Once [] m.items
  compile-undefined = no_two_alike-once [] m.items compiled.apart compiled.undefined

  -- no two items alike
  pub compile-apart : (i j : ℕ) (d : Item) → i < j → j < length m.items → (get_or m.items i d).chars ≡ (get_or m.items j d).chars → ⊥
  compile-apart i j d = no_two_alike-get_d m.items i j d compiled.apart
