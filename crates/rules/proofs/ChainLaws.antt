-- Conditional chains (specs/Conditionals), 01: "Of one chain at most one branch is used, the first whose test holds. No branch may follow `else`."
use Rattle.std.specs.Prelude.{if◌then◌else◌}
use mathlib.Core.Path.{◌≡◌, refl, sym, ap, ◌∙◌}
use mathlib.Core.Bool.{Bool, true, false, not, ◌&&◌, ◌||◌, and-true, or-true, false≢true}
use mathlib.Core.List.{List, [], ◌∷◌, map}
use Prim.Native.Nat.{ℕ, suc, ◌≤◌}
use native.Mathlib.Omega.{arith}
use lib.ListN.{length, drop}
use lib.Dec.{eqb, ltb, lit<}
use borrow.Author.Tests.{lt-ltb, not-true}
use Rattle.base_lists.proofs.Bools.{and_right}
use Rattle.rules.specs.Tokens.{Token, token_at}
use Rattle.rules.specs.State.{Chain, State, Outcome}
use Rattle.rules.specs.Conditionals.{is_on, if_line, elif_line, else_line, inmost, is_unused}
use Rattle.rules.proofs.TextLaws.{unless-none, lower-none}

-- ## The branches of a chain

-- A line that begins a branch, with its operands: `ifdef` (true) or `ifndef`; `elif`; `else`.
pub data Branch : Type 0 where
  opening : Bool → List Token → Branch
  further : List Token → Branch
  last : List Token → Branch

abbrev pub is_opening : Branch → Bool
is_opening (opening wanted ts) = true
is_opening (further ts) = false
is_opening (last ts) = false

-- what the line leaves
abbrev pub branch_line : State → Branch → Outcome
branch_line s (opening wanted ts) = if_line s wanted ts
branch_line s (further ts) = elif_line s ts
branch_line s (last ts) = else_line s ts

-- the line's toggle is defined
abbrev pub is_defined : State → List Token → Bool
is_defined s ts = is_on (token_at ts 0).text s.blocks.toggles

-- the line's test holds; that of `else` always does
abbrev pub holds : State → Branch → Bool
holds s (opening wanted ts) = if wanted then is_defined s ts else not (is_defined s ts)
holds s (further ts) = is_defined s ts
holds s (last ts) = true

-- A line that begins a branch, and the state that it finds.
pub record Begun : Type 0 where
  pub found : State
  pub branch : Branch

abbrev pub outcome : Begun → Outcome
outcome x = branch_line x.found x.branch

abbrev pub passes : Begun → Bool
passes x = holds x.found x.branch

-- the lines of the branch are used
abbrev pub is_used : Begun → Bool
is_used x = not (is_unused (outcome x).state)

-- A further branch finds the chain as the branch before it left it: the lines between them change other chains only.
pub record Goes (c : Chain) (x : Begun) : Type 0 where
  pub in-chain : inmost x.found ≡ c
  pub not-opening : is_opening x.branch ≡ false
  pub accepted : (outcome x).refusal ≡ 0

-- these are the further branches of a chain, in order
abbrev pub GoOn : Chain → List Begun → Type 0
GoOn c [] = Unit
GoOn c (x ∷ xs) = Goes c x × GoOn (inmost (outcome x).state) xs

-- The first branch and the further ones are the branches of one chain.
pub record OneChain (x : Begun) (xs : List Begun) : Type 0 where
  pub opens : is_opening x.branch ≡ true
  pub goes_on : GoOn (inmost (outcome x).state) xs

-- ## What each line leaves

-- the first that holds, and no other
unfoldable pub first_of : List Bool → List Bool
first_of [] = []
first_of (true ∷ ts) = true ∷ map (λ (t : Bool). false) ts
first_of (false ∷ ts) = false ∷ first_of ts

-- in an open chain the lines are used where its present branch is
open-used : (n : ℕ) (u : Bool) → not (ltb 0 (suc n) && not u) ≡ u
open-used n true = rw (lt-ltb 0 (suc n) (omega arith))
open-used n false = rw (lt-ltb 0 (suc n) (omega arith))

-- the first branch is used, and one is taken, where its test holds
opening-used : (s : State) (b : Branch) → is_opening b ≡ true → not (is_unused (branch_line s b).state) ≡ holds s b
unfolding if_line
opening-used s (opening wanted ts) h = open-used (length s.blocks.chains) (holds s (opening wanted ts))
opening-used s (further ts) h = absurd (false≢true h)
opening-used s (last ts) h = absurd (false≢true h)

opening-taken : (s : State) (b : Branch) → is_opening b ≡ true → (inmost (branch_line s b).state).taken ≡ holds s b
unfolding if_line
opening-taken s (opening wanted ts) h = refl
opening-taken s (further ts) h = absurd (false≢true h)
opening-taken s (last ts) h = absurd (false≢true h)

-- a further branch is used where none was taken and its test holds
further-used : (s : State) (b : Branch) → is_opening b ≡ false → not (is_unused (branch_line s b).state) ≡ (not (inmost s).taken && holds s b)
unfolding elif_line
further-used s (opening wanted ts) h = absurd (false≢true (sym h))
further-used s (further ts) h = open-used (length (drop 1 s.blocks.chains)) (not (inmost s).taken && is_defined s ts)
further-used s (last ts) h = open-used (length (drop 1 s.blocks.chains)) (not (inmost s).taken) ∙ sym (and-true (not (inmost s).taken))

-- and then one is taken; what was taken stays so
further-taken : (s : State) (b : Branch) → is_opening b ≡ false → (inmost (branch_line s b).state).taken ≡ ((inmost s).taken || holds s b)
unfolding elif_line
further-taken s (opening wanted ts) h = absurd (false≢true (sym h))
further-taken s (further ts) h = refl
further-taken s (last ts) h = sym (or-true (inmost s).taken)

-- ## The law

-- where a branch was taken, no further one is used
none-used : (c : Chain) (xs : List Begun) → c.taken ≡ true → GoOn c xs → map is_used xs ≡ map (λ (t : Bool). false) (map passes xs)
none-used c [] t h = refl
none-used c (x ∷ xs) t h =
    let e : (inmost x.found).taken ≡ true = ap (λ (d : Chain). d.taken) h.0.in-chain ∙ t in
    let used : is_used x ≡ false = rw e at (further-used x.found x.branch h.0.not-opening) in
    let taken : (inmost (outcome x).state).taken ≡ true = rw e at (further-taken x.found x.branch h.0.not-opening) in
    rw (used, none-used (inmost (outcome x).state) xs taken h.1)

-- the branches after a line of this test
abbrev Rest : Bool → List Begun → Type 0
Rest t xs = (t ∷ map is_used xs) ≡ first_of (t ∷ map passes xs)

rest-used : (xs : List Begun) (t : Bool) (c : Chain) → c.taken ≡ t → GoOn c xs → Rest t xs
unfolding first_of
rest-used [] true c e h = refl
rest-used [] false c e h = refl
rest-used (x ∷ xs) true c e h = ap (λ (us : List Bool). true ∷ us) (none-used c (x ∷ xs) e h)
rest-used (x ∷ xs) false c e h =
    let k : (inmost x.found).taken ≡ false = ap (λ (d : Chain). d.taken) h.0.in-chain ∙ e in
    let used : is_used x ≡ passes x = rw k at (further-used x.found x.branch h.0.not-opening) in
    let taken : (inmost (outcome x).state).taken ≡ passes x = rw k at (further-taken x.found x.branch h.0.not-opening) in
    ap (λ (us : List Bool). false ∷ us) (ap (λ (u : Bool). u ∷ map is_used xs) used ∙ rest-used xs (passes x) (inmost (outcome x).state) taken h.1)

-- of one chain the first branch whose test holds is used, and no other
pub first-used : (x : Begun) (xs : List Begun) → OneChain x xs → map is_used (x ∷ xs) ≡ first_of (map passes (x ∷ xs))
first-used x xs h =
    let used : is_used x ≡ passes x = opening-used x.found x.branch h.opens in
    let taken : (inmost (outcome x).state).taken ≡ passes x = opening-taken x.found x.branch h.opens in
    ap (λ (u : Bool). u ∷ map is_used xs) used ∙ rest-used xs (passes x) (inmost (outcome x).state) taken h.goes_on

-- how many of them hold
unfoldable pub count_true : List Bool → ℕ
count_true [] = 0
count_true (true ∷ ts) = suc (count_true ts)
count_true (false ∷ ts) = count_true ts

count_none : (ts : List Bool) → count_true (map (λ (t : Bool). false) ts) ≡ 0
unfolding count_true
count_none [] = refl
count_none (t ∷ ts) = count_none ts

count-first : (ts : List Bool) → count_true (first_of ts) ≤ 1
unfolding count_true first_of
count-first [] = omega arith
count-first (true ∷ ts) = rw (count_none ts) (omega arith)
count-first (false ∷ ts) = count-first ts

-- of one chain at most one branch is used
pub at_most_one : (x : Begun) (xs : List Begun) → OneChain x xs → count_true (map is_used (x ∷ xs)) ≤ 1
at_most_one x xs h = rw (first-used x xs h) (count-first (map passes (x ∷ xs)))

-- ## `else`

-- no branch follows a chain that is closed
closed-last : (s : State) (b : Branch) → is_opening b ≡ false → (branch_line s b).refusal ≡ 0 → (inmost s).closed ≡ false
unfolding elif_line
closed-last s (opening wanted ts) h e = absurd (false≢true (sym h))
closed-last s (further ts) h e = not-true _ (unless-none 3 (not (inmost s).closed) (lit< tt) (lower-none _ _ e).0)
closed-last s (last ts) h e = not-true _ (and_right (eqb (length ts) 0) (not (inmost s).closed) (unless-none 3 _ (lit< tt) e))

-- no branch may follow `else`
pub else-last : (s : State) (ts : List Token) (xs : List Begun) → GoOn (inmost (else_line s ts).state) xs → xs ≡ []
else-last s ts [] h = refl
else-last s ts (x ∷ xs) h =
    let e = closed-last x.found x.branch h.0.not-opening h.0.accepted in
    absurd (false≢true (sym e ∙ ap (λ (d : Chain). d.closed) h.0.in-chain))
