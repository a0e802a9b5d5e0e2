-- What holds of the state between two lines of a locale source (specs/State), and that each declaration and order line keeps it.
use Rattle.std.specs.Prelude.{if◌then◌else◌}
use mathlib.Core.Path.{◌≡◌, refl, ap, ◌∙◌}
use mathlib.Core.Bool.{Bool, true, false, not, ◌&&◌, ◌||◌, or-true}
use mathlib.Core.List.{List, [], ◌∷◌, ◌++◌, map}
use Prim.Native.Nat.{ℕ, suc, ◌≤◌, ◌<◌}
use native.Mathlib.Omega.{arith}
use lib.ListN.{length, length-map, length-append}
use lib.Dec.{eqb, leb, ltb, lit<, lit≤}
use borrow.Author.Tests.{leb-true, ltb-true, not-true}
use Rattle.base_lists.proofs.Bools.{and_left, and_right, and_intro, or-false-intro, not-intro, clash, by, cond-by}
use Rattle.rules.specs.Text.{within, every, one_of, is}
use Rattle.rules.specs.Names.{code_of, is_character, is_char_name, char_shaped}
use Rattle.rules.specs.Tokens.{semi, Token, token_at, the_name}
use Rattle.rules.specs.Meaning.{Rule}
use Rattle.rules.specs.State.{before_order, in_order, in_block, Place, Declaration, symbol, element, Subject, character, named, undefined, OrderLine, Ordered, State, in_phase, Outcome}
use Rattle.rules.specs.Declarations.{declares, declares_chars, is_new, may_declare, symbol_line, element_formed, element_line}
use Rattle.rules.specs.OrderLines.{split_at, operand_list, rule_codes, rules_formed, order_start_line, stands, is_symbol, subject_of, same_subject, is_names, weight_refusal, weights_refusal, weight_of, weights_of, taken_out, put_after, placed, again, order_line}
use Rattle.rules.proofs.TextLaws.{every-cons, one_of-head-false, one_of-tail-false, one_of-append, lowest-none, lowest-unless, within_low, within-high, within-intro}
use Rattle.rules.proofs.RankLaws.{is_line_of, rank_from-zero, same_subject-swap-false}
use Rattle.rules.proofs.PlacedLaws.{taken_out-none, taken_out-without, taken_out-same, put_after-length, put_after-without}

-- ## The invariant

-- An element's characters, beside the declarations before it.
pub record NewElement (cs : List ℕ) (ds : List Declaration) : Type 0 where
  pub low : 2 ≤ length cs
  pub high : length cs ≤ 4
  pub characters : every is_character cs ≡ true
  pub new : one_of (declares_chars cs) ds ≡ false

-- every element is such a one
abbrev pub Elements : List Declaration → Type 0
Elements [] = Unit
Elements (symbol n ∷ ds) = Elements ds
Elements (element n cs ∷ ds) = NewElement cs ds × Elements ds

-- at most 8 weights
unfoldable pub is_short : List Subject → Bool
is_short w = leb (length w) 8

-- An order line of a subject that stands, with n levels of at most 8 weights.
pub record OneLine (ds : List Declaration) (n : ℕ) (l : OrderLine) : Type 0 where
  pub standing : stands ds l.subject ≡ true
  pub levels : length l.weights ≡ n
  pub short : every is_short l.weights ≡ true

-- every line is such a one, and no two are of one subject
abbrev pub Lines : List Declaration → ℕ → List OrderLine → Type 0
Lines ds n [] = Unit
Lines ds n (l ∷ ls) = OneLine ds n l × (one_of (is_line_of l.subject) ls ≡ false) × Lines ds n ls

-- What holds of the place, the declarations and the order: with LC_COLLATE read up to its order at least, there are 1 to 8 rules.
pub record Sound (p : Place) (ds : List Declaration) (o : Ordered) : Type 0 where
  pub elements : Elements ds
  pub lines : Lines ds (length o.rules) o.lines
  pub few : length o.lines ≤ 32767
  pub ruled : p.collated ≡ true → eqb p.phase before_order ≡ false → within 1 8 (length o.rules) ≡ true

-- a state is sound
abbrev pub IsSound : State → Type 0
IsSound s = Sound s.place s.declared s.ordered

-- the state after a line that is not refused is sound
unfoldable pub LeavesSound : Outcome → Type 0
LeavesSound o = o.refusal ≡ 0 → IsSound o.state

-- ## Declarations

-- what stands goes on standing
stands-more : (d : Declaration) (ds : List Declaration) (x : Subject) → stands ds x ≡ true → stands (d ∷ ds) x ≡ true
unfolding stands one_of
stands-more d ds (character c) h = h
stands-more d ds (named n) h = rw h (or-true (declares n d))
stands-more d ds undefined h = refl

Lines-more : (d : Declaration) (ds : List Declaration) (n : ℕ) (ls : List OrderLine) → Lines ds n ls → Lines (d ∷ ds) n ls
Lines-more d ds n [] h = tt
Lines-more d ds n (l ∷ ls) h = (
  record { standing = stands-more d ds l.subject h.0.standing; levels = h.0.levels; short = h.0.short },
  h.1,
  Lines-more d ds n ls h.2,
)

pub symbol_line-sound : (s : State) (ts : List Token) → IsSound s → LeavesSound (symbol_line s ts)
unfolding LeavesSound symbol_line
symbol_line-sound s ts h e =
    let n = the_name (token_at ts 0) in
    record { elements = h.elements; lines = Lines-more (symbol n) s.declared _ s.ordered.lines h.lines; few = h.few; ruled = h.ruled }

-- the codes of characters' names are characters
codes-characters : (ns : List (List ℕ)) → every is_char_name ns ≡ true → every is_character (map code_of ns) ≡ true
unfolding every is_char_name
codes-characters [] h = refl
codes-characters (n ∷ ns) h =
    and_intro
    (and_right (char_shaped n) (is_character (code_of n)) (and_left (is_char_name n) (every is_char_name ns) h))
    (codes-characters ns (and_right (is_char_name n) (every is_char_name ns) h))

pub element_line-sound : (s : State) (ts : List Token) → IsSound s → LeavesSound (element_line s ts)
unfolding LeavesSound element_line
element_line-sound s ts h e =
    let ds = s.declared in
    let n = the_name (token_at ts 0) in
    let ns = (token_at ts 2).names in
    let cs : List ℕ = map code_of ns in
    let old : Bool = one_of (declares_chars cs) ds in
    let three = lowest-unless 3 (may_declare s && element_formed ts) _ (lit< tt) e in
    let five = lowest-unless 5 (is_new ds n && not (every is_char_name ns && old)) _ (lit< tt) three.1 in
    let six = lowest-unless 6 (every is_char_name ns) _ (lit< tt) five.1 in
    let seven = lowest-unless 7 (within 2 4 (length cs)) [] (lit< tt) six.1 in
    record {
      elements = (
        record {
          low = within_low 2 4 (length cs) seven.0;
          high = within-high 2 4 (length cs) seven.0;
          characters = codes-characters ns six.0;
          new = not-true old (rw six.0 at (and_right (is_new ds n) (not (every is_char_name ns && old)) five.0));
        },
        h.elements,
      );
      lines = Lines-more (element n cs) ds _ s.ordered.lines h.lines;
      few = h.few;
      ruled = h.ruled;
    }

-- ## order_start

-- there is at least one operand
split_at-some : (part ts : List Token) → 1 ≤ length (split_at part ts)
unfolding split_at
split_at-some part [] = omega arith
split_at-some part (t ∷ ts) =
    cond-by (λ (r : List (List Token)). 1 ≤ length r) (eqb t.kind semi) (λ h. omega arith) (λ h. split_at-some (if eqb t.kind semi then [] else part ++ t ∷ []) ts)

rule_codes-some : (ts : List Token) → 1 ≤ length (rule_codes ts)
unfolding rule_codes
rule_codes-some [] = omega arith
rule_codes-some (t ∷ ts) = rw length-map (split_at-some [] (t ∷ ts))

pub order_start_line-sound : (s : State) (ts : List Token) → IsSound s → LeavesSound (order_start_line s ts)
unfolding LeavesSound order_start_line
order_start_line-sound s ts h e =
    let cs = rule_codes ts in
    let three = lowest-unless 3 (in_phase before_order s && rules_formed false ts) _ (lit< tt) e in
    let four = lowest-unless 4 (every (leb 1) cs) _ (lit< tt) three.1 in
    let seven = lowest-unless 7 (leb (length cs) 8) [] (lit< tt) four.1 in
    record {
      elements = h.elements;
      lines = tt;
      few = omega arith;
      ruled = λ c p. rw length-map (within-intro 1 8 (length cs) (rule_codes-some ts) (leb-true (length cs) 8 seven.0));
    }

-- ## Order lines

-- a weight is short where it is not refused
weight_of-short : (ds : List Declaration) (x : Subject) (w : List Token) → weight_refusal ds w ≡ 0 → is_short (weight_of x w) ≡ true
unfolding weight_refusal weight_of is_short
weight_of-short ds x [] e = refl
weight_of-short ds x (t ∷ ts) e =
    let three = lowest-unless 3 (eqb (length ts) 0 && (is_names t || is t.text "IGNORE")) _ (lit< tt) e in
    let six = lowest-unless 6 (every (stands ds) (map subject_of t.names)) _ (lit< tt) three.1 in
    rw length-map (lowest-unless 7 (leb (length t.names) 8) [] (lit< tt) six.1).0

weights_of-short : (ds : List Declaration) (x : Subject) (rs : List Rule) (ws : List (List Token))
    → weights_refusal ds ws ≡ 0 → every is_short (weights_of x rs ws) ≡ true
unfolding weights_refusal weights_of every is_short
weights_of-short ds x [] ws e = refl
weights_of-short ds x (r ∷ rs) [] e = every-cons is_short (x ∷ []) (weights_of x rs []) refl (weights_of-short ds x rs [] e)
weights_of-short ds x (r ∷ rs) (w ∷ ws) e =
    let p = lowest-none (weight_refusal ds w) (map (weight_refusal ds) ws) e in
    every-cons is_short (weight_of x w) (weights_of x rs ws) (weight_of-short ds x w p.0) (weights_of-short ds x rs ws p.1)

weights_of-length : (x : Subject) (rs : List Rule) (ws : List (List Token)) → length (weights_of x rs ws) ≡ length rs
unfolding weights_of
weights_of-length x [] ws = refl
weights_of-length x (r ∷ rs) [] = ap suc (weights_of-length x rs [])
weights_of-length x (r ∷ rs) (w ∷ ws) = ap suc (weights_of-length x rs ws)

-- a line more, at the end
Lines-append : (ds : List Declaration) (n : ℕ) (ls : List OrderLine) (l : OrderLine)
    → Lines ds n ls → OneLine ds n l → one_of (is_line_of l.subject) ls ≡ false → Lines ds n (ls ++ l ∷ [])
unfolding one_of is_line_of
Lines-append ds n [] l h k e = (k, refl, tt)
Lines-append ds n (m ∷ ls) l h k e =
    let x = m.subject in
    let y = l.subject in
    let apart : same_subject x y ≡ false = same_subject-swap-false y x (one_of-head-false (is_line_of y) m ls e) in (
      h.0,
      rw (one_of-append (is_line_of x) ls (l ∷ [])) (or-false-intro h.1 (or-false-intro apart refl)),
      Lines-append ds n ls l h.2 k (one_of-tail-false (is_line_of y) m ls e),
    )

-- a line taken out
Lines-taken_out : (x : Subject) (ds : List Declaration) (n : ℕ) (ls : List OrderLine) → Lines ds n ls → Lines ds n (taken_out x ls)
unfolding taken_out
Lines-taken_out x ds n [] h = tt
Lines-taken_out x ds n (l ∷ ls) h =
    by (same_subject x l.subject)
    (λ t. rw t (Lines-taken_out x ds n ls h.2))
    (λ t. rw t (h.0, taken_out-without x l.subject ls h.1, Lines-taken_out x ds n ls h.2))

-- a line more, after another
Lines-put_after : (x : Subject) (ds : List Declaration) (n : ℕ) (ls : List OrderLine) (l : OrderLine)
    → Lines ds n ls → OneLine ds n l → one_of (is_line_of l.subject) ls ≡ false → Lines ds n (put_after x l ls)
unfolding put_after one_of is_line_of
Lines-put_after x ds n [] l h k e = tt
Lines-put_after x ds n (m ∷ ls) l h k e =
    let y = l.subject in
    let rest = one_of-tail-false (is_line_of y) m ls e in
    let apart : same_subject m.subject y ≡ false = same_subject-swap-false y m.subject (one_of-head-false (is_line_of y) m ls e) in
    by (same_subject x m.subject)
    (λ t. rw t (h.0, or-false-intro apart h.1, (k, rest, h.2)))
    (λ t. rw t (h.0, put_after-without x m.subject l ls apart h.1, Lines-put_after x ds n ls l h.2 k rest))

-- in the order there is no line of the subject yet
again-none : (x : Subject) (ls : List OrderLine) → again [] x ls ≡ false → one_of (is_line_of x) ls ≡ false
unfolding again
again-none x ls e = by (one_of (is_line_of x) ls) (λ t. clash (not-intro (rank_from-zero 1 x ls (lit≤ tt) ∙ rw t)) e) (λ t. t)

-- a line that may be listed, wherever it comes to stand
Lines-placed : (b : List Subject) (ds : List Declaration) (n : ℕ) (ls : List OrderLine) (l : OrderLine)
    → Lines ds n ls → OneLine ds n l → again b l.subject ls ≡ false → Lines ds n (placed b l ls)
unfolding placed again
Lines-placed [] ds n ls l h k e =
    Lines-append ds n ls l h k (again-none l.subject ls e)
Lines-placed (x ∷ xs) ds n ls l h k e =
    Lines-put_after x ds n (taken_out l.subject ls) l (Lines-taken_out l.subject ds n ls h) k (taken_out-none l.subject ls)

-- a line that moves is not one more
placed-few : (b : List Subject) (ls : List OrderLine) (l : OrderLine) → again b l.subject ls ≡ false → length (taken_out l.subject ls) < 32767
    → length (placed b l ls) ≤ 32767
unfolding placed again
placed-few [] ls l e h =
    let same = ap length (taken_out-same l.subject ls (again-none l.subject ls e)) in
    rw length-append (omega (arith, same, h))
placed-few (x ∷ xs) ls l e h = omega (arith, put_after-length x l (taken_out l.subject ls), h)

pub order_line-sound : (s : State) (number : ℕ) (x : Subject) (ts : List Token) → IsSound s → LeavesSound (order_line s number x ts)
unfolding LeavesSound order_line
order_line-sound s number x ts h e =
    let ds = s.declared in
    let rs = s.ordered.rules in
    let ls = s.ordered.lines in
    let ws : List (List Token) = operand_list ts in
    let b = s.ordered.block in
    let three = lowest-unless 3 ((in_phase in_order s || in_phase in_block s) && (eqb (length ts) 0 || not (is_symbol ds x))) _ (lit< tt) e in
    let weights = lowest-none (weights_refusal ds ws) _ three.1 in
    let five = lowest-unless 5 (not (again b x ls)) _ (lit< tt) weights.1 in
    let new = not-true (again b x ls) five.0 in
    let six = lowest-unless 6 (stands ds x) _ (lit< tt) five.1 in
    let seven = lowest-unless 7 (leb (length ws) (length rs) && ltb (length (taken_out x ls)) 32767) [] (lit< tt) six.1 in
    let line : OrderLine = record { number = number; subject = x; weights = weights_of x rs ws } in
    let one : OneLine ds (length rs) line =
    record { standing = six.0; levels = weights_of-length x rs ws; short = weights_of-short ds x rs ws weights.0 } in
    record {
      elements = h.elements;
      lines = Lines-placed b ds (length rs) ls line h.lines one new;
      few = placed-few b ls line new (ltb-true (length (taken_out x ls)) 32767 (and_right (leb (length ws) (length rs)) (ltb (length (taken_out x ls)) 32767) seven.0));
      ruled = h.ruled;
    }
