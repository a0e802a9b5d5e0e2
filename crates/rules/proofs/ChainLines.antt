-- Conditional chains in a source, line after line (specs/Source): a line changes at most the inmost chain, and of one chain at most one branch is used.
use Rattle.std.specs.Prelude.{if◌then◌else◌}
use mathlib.Core.Path.{◌≡◌, refl, sym, ap, ◌∙◌}
use mathlib.Core.Bool.{Bool, true, false, not, ◌&&◌, ◌||◌, and-true, or-true, false≢true}
use mathlib.Core.List.{List, [], ◌∷◌}
use Prim.Native.Nat.{ℕ, suc, ◌<◌}
use native.Mathlib.Omega.{arith}
use lib.ListN.{length, get_or, drop}
use lib.Dec.{eqb}
use borrow.Author.Tests.{eq-eqb, ne_eqb}
use Rattle.base_lists.proofs.Bools.{and_right, by, cond-true, cond-false, cond_both}
use Rattle.rules.specs.Text.{is, same}
use Rattle.rules.specs.Tokens.{word, name, Token, the_name, tokens_of, operands, tokens_refusal, plain_marks, words_of}
use Rattle.rules.specs.State.{in_other_category, Chain, Subject, undefined, State, in_phase, in_collate, Outcome, gives}
use Rattle.rules.specs.Conditionals.{define_line, if_line, elif_line, endif_line, no_chain, inmost, is_unused}
use Rattle.rules.specs.Declarations.{symbol_line, element_line}
use Rattle.rules.specs.OrderLines.{order_start_line, subject_of, order_line, reorder_after_line, reorder_end_line}
use Rattle.rules.specs.Source.{category_line, sign_line, outside_line, end_line, collate_line, token_line, whole_line, other_line, unused_line, line_outcome}
use Rattle.rules.proofs.TextLaws.{lower-none}
use Rattle.rules.proofs.ChainLaws.{Branch, opening, further, last, is_opening, branch_line, is_defined}

-- ## What a line does to the chains

-- What a line does to the open chains, from one state to the next: nothing; it begins a branch; it ends the inmost chain.
pub data Turn (s after : State) : Type 0 where
  nothing : after.blocks.chains ≡ s.blocks.chains → Turn s after
  begins : (b : Branch) → (branch_line s b).refusal ≡ 0 → after.blocks.chains ≡ (branch_line s b).state.blocks.chains → Turn s after
  ends : after.blocks.chains ≡ drop 1 s.blocks.chains → Turn s after

-- what a line does that is not refused
unfoldable Turns : State → Outcome → Type 0
Turns s o = o.refusal ≡ 0 → Turn s o.state

turns-nothing : (s : State) (o : Outcome) → o.state.blocks.chains ≡ s.blocks.chains → Turns s o
unfolding Turns
turns-nothing s o h e = nothing h

turns-branch : (s : State) (b : Branch) → Turns s (branch_line s b)
unfolding Turns
turns-branch s b e = begins b e refl

turns-end : (s : State) (ts : List Token) → Turns s (endif_line s ts)
unfolding Turns
turns-end s ts e = ends refl

turns-other : (s : State) (ws : List (List ℕ)) → Turns s (other_line s ws)
unfolding other_line
turns-other s ws =
    turns-nothing s _
    (cond_both (λ (t : State). t.blocks.chains ≡ s.blocks.chains)
    (eqb (length ws) 2 && is (get_or ws 0 []) "END" && same (get_or ws 1 []) s.place.category) refl refl)

turns-outside : (s : State) (w : List ℕ) (ts : List Token) → Turns s (outside_line s w ts)
unfolding outside_line sign_line category_line
turns-outside s w ts =
    cond_both (Turns s) (is w "comment_char") (turns-nothing s _ refl)
    (cond_both (Turns s) (is w "escape_char") (turns-nothing s _ refl) (turns-nothing s _ refl))

turns-order : (s : State) (number : ℕ) (x : Subject) (ts : List Token) → Turns s (order_line s number x ts)
unfolding order_line
turns-order s number x ts = turns-nothing s _ refl

turns-collate : (s : State) (number : ℕ) (w : List ℕ) (ts : List Token) → Turns s (collate_line s number w ts)
unfolding collate_line define_line symbol_line element_line order_start_line reorder_after_line reorder_end_line end_line
turns-collate s number w ts =
    cond_both (Turns s) (is w "define") (turns-nothing s _ refl)
    (cond_both (Turns s) (is w "undef") (turns-nothing s _ refl)
    (cond_both (Turns s) (is w "ifdef") (turns-branch s (opening true ts))
    (cond_both (Turns s) (is w "ifndef") (turns-branch s (opening false ts))
    (cond_both (Turns s) (is w "elif") (turns-branch s (further ts))
    (cond_both (Turns s) (is w "else") (turns-branch s (last ts))
    (cond_both (Turns s) (is w "endif") (turns-end s ts)
    (cond_both (Turns s) (is w "collating-symbol") (turns-nothing s _ refl)
    (cond_both (Turns s) (is w "collating-element") (turns-nothing s _ refl)
    (cond_both (Turns s) (is w "order_start") (turns-nothing s _ refl)
    (cond_both (Turns s) (is w "order_end") (turns-nothing s _ refl)
    (cond_both (Turns s) (is w "UNDEFINED") (turns-order s number undefined ts)
    (cond_both (Turns s) (is w "reorder-after") (turns-nothing s _ refl)
    (cond_both (Turns s) (is w "reorder-end") (turns-nothing s _ refl)
    (cond_both (Turns s) (is w "END") (turns-nothing s _ refl) (turns-nothing s _ refl)))))))))))))))

turns-token : (s : State) (number : ℕ) (ts : List Token) → Turns s (token_line s number ts)
unfolding Turns token_line
turns-token s number [] e = nothing refl
turns-token s number (t ∷ ts) e =
    let os : List Token = operands ts in
    cond_both (Turns s) (eqb t.kind word)
    (cond_both (Turns s) (in_collate s) (turns-collate s number t.text os) (turns-outside s t.text os))
    (cond_both (Turns s) (eqb t.kind name && in_collate s) (turns-order s number (subject_of (the_name t)) os) (turns-nothing s (gives 3 s) refl))
    (lower-none (tokens_refusal (t ∷ os)) _ e).1

turns-whole : (s : State) (number : ℕ) (marks : List ℕ) → Turns s (whole_line s number marks)
unfolding Turns whole_line
turns-whole s number marks e = turns-token s number (tokens_of marks) (lower-none _ _ e).1

turns-unused : (s : State) (number : ℕ) (w marks : List ℕ) → Turns s (unused_line s number w marks)
unfolding unused_line
turns-unused s number w marks =
    let own : Bool = eqb s.blocks.inner 0 in
    cond_both (Turns s) (is w "ifdef" || is w "ifndef") (turns-nothing s _ refl)
    (cond_both (Turns s) (is w "endif" && not own) (turns-nothing s _ refl)
    (cond_both (Turns s) (own && (is w "elif" || is w "else" || is w "endif")) (turns-whole s number marks) (turns-nothing s (gives 0 s) refl)))

turns-line : (s : State) (number : ℕ) (marks : List ℕ) → Turns s (line_outcome s number marks)
unfolding line_outcome
turns-line s number marks =
    let ws : List (List ℕ) = words_of [] (plain_marks marks) in
    cond_both (Turns s) (in_phase in_other_category s) (turns-other s ws)
    (cond_both (Turns s) (is_unused s) (turns-unused s number (get_or ws 0 []) marks) (turns-whole s number marks))

-- a line that is not refused changes at most the inmost chain, and that only by beginning a branch or ending it
pub line-turn : (s : State) (number : ℕ) (marks : List ℕ) → (line_outcome s number marks).refusal ≡ 0 → Turn s (line_outcome s number marks).state
unfolding Turns
line-turn s number marks e = turns-line s number marks e

-- ## One chain, line after line

-- the chain that stands on n others
unfoldable pub chain_on : ℕ → List Chain → Chain
chain_on n [] = no_chain
chain_on n (c ∷ cs) = if eqb (length cs) n then c else chain_on n cs

chain-top : (c : Chain) (cs : List Chain) → chain_on (length cs) (c ∷ cs) ≡ c
unfolding chain_on
chain-top c cs = cond-true c (chain_on (length cs) cs) (eq-eqb (length cs) (length cs) refl)

chain-below : (n : ℕ) (c : Chain) (cs : List Chain) → n < length cs → chain_on n (c ∷ cs) ≡ chain_on n cs
unfolding chain_on
chain-below n c cs h = cond-false c (chain_on n cs) (ne_eqb (length cs) n (λ e. absurd (omega (arith, e))))

-- What a line can do to a chain that stays open: nothing; or one of its branches begins, whose test holds or not.
data Step (c d : Chain) : Type 0 where
  stays : d ≡ c → Step c d
  branches : (t : Bool) → d.taken ≡ (c.taken || t) → d.used ≡ (not c.taken && t) → Step c d

-- an inmost chain in place of another
step-top : (n : ℕ) (c d : Chain) (cs : List Chain) → Step c d → Step (chain_on n (c ∷ cs)) (chain_on n (d ∷ cs))
unfolding chain_on
step-top n c d cs h =
    by (eqb (length cs) n)
    (λ e. rw e h)
    (λ e. rw e (stays refl))

step-inmost : (n : ℕ) (cs : List Chain) (d : Chain) → n < length cs → Step (get_or cs 0 no_chain) d → Step (chain_on n cs) (chain_on n (d ∷ drop 1 cs))
step-inmost n [] d h k = absurd (omega arith)
step-inmost n (c ∷ cs) d h k = step-top n c d cs k

step-ended : (n : ℕ) (cs : List Chain) → n < length (drop 1 cs) → Step (chain_on n cs) (chain_on n (drop 1 cs))
step-ended n [] h = absurd (omega arith)
step-ended n (c ∷ cs) h = stays (sym (chain-below n c cs h))

step-branch : (n : ℕ) (s : State) (b : Branch) → n < length s.blocks.chains
    → Step (chain_on n s.blocks.chains) (chain_on n (branch_line s b).state.blocks.chains)
unfolding if_line elif_line
step-branch n s (opening wanted ts) h = stays (chain-below n _ s.blocks.chains h)
step-branch n s (further ts) h = step-inmost n s.blocks.chains _ h (branches (is_defined s ts) refl refl)
step-branch n s (last ts) h =
    step-inmost n s.blocks.chains _ h (branches true (sym (or-true (inmost s).taken)) (sym (and-true (not (inmost s).taken))))

turn_step : (n : ℕ) (s after : State) → n < length s.blocks.chains → n < length after.blocks.chains → Turn s after
    → Step (chain_on n s.blocks.chains) (chain_on n after.blocks.chains)
turn_step n s after h k (nothing e) = stays (ap (chain_on n) e)
turn_step n s after h k (begins b r e) = rw e (step-branch n s b h)
turn_step n s after h k (ends e) = rw e (step-ended n s.blocks.chains (rw e at k))

-- A line of a source: its number and its marks.
pub record Line : Type 0 where
  pub number : ℕ
  pub marks : List ℕ

abbrev pub read_line : State → Line → Outcome
read_line s l = line_outcome s l.number l.marks

abbrev pub after_lines : State → List Line → State
after_lines s [] = s
after_lines s (l ∷ ls) = after_lines (read_line s l).state ls

-- in this state the chain on n others is open
abbrev pub IsOpen : ℕ → State → Type 0
IsOpen n s = n < length s.blocks.chains

-- and it is that chain
abbrev pub chain_in : ℕ → State → Chain
chain_in n s = chain_on n s.blocks.chains

-- no line is refused, and the chain on n others is open all the while
abbrev pub StaysOpen : ℕ → State → List Line → Type 0
StaysOpen n s [] = IsOpen n s
StaysOpen n s (l ∷ ls) = IsOpen n s × ((read_line s l).refusal ≡ 0) × StaysOpen n (read_line s l).state ls

-- Such lines lead from one state to another.
pub record Reads (n : ℕ) (s after : State) : Type 0 where
  pub lines : List Line
  pub stays_open : StaysOpen n s lines
  pub is : after ≡ after_lines s lines

-- The state after a line `ifdef` or `ifndef` that opens a chain on n others.
pub record Opens (n : ℕ) (s : State) : Type 0 where
  pub before : State
  pub wanted : Bool
  pub operands : List Token
  pub under : length before.blocks.chains ≡ n
  pub is : s ≡ (if_line before wanted operands).state

-- A line begins a further branch of the chain on n others, which is the inmost.
pub record Begins (n : ℕ) (s after : State) : Type 0 where
  pub branch : Branch
  pub not-opening : is_opening branch ≡ false
  pub is-inmost : length s.blocks.chains ≡ suc n
  pub is : after.blocks.chains ≡ (branch_line s branch).state.blocks.chains

stays_here : (n : ℕ) (s : State) (ls : List Line) → StaysOpen n s ls → IsOpen n s
stays_here n s [] h = h
stays_here n s (l ∷ ls) h = h.0

-- what each step keeps, lines keep
kept-lines : (P : Chain → Type 0) → ((c d : Chain) → Step c d → P c → P d)
    → (n : ℕ) (s : State) (ls : List Line) → StaysOpen n s ls → P (chain_in n s) → P (chain_in n (after_lines s ls))
kept-lines P f n s [] h p = p
kept-lines P f n s (l ∷ ls) h p =
    let after : State = (read_line s l).state in
    let k : IsOpen n after = stays_here n after ls h.2 in
    kept-lines P f n after ls h.2 (f (chain_in n s) (chain_in n after) (turn_step n s after h.0 k (line-turn s l.number l.marks h.1)) p)

kept : (P : Chain → Type 0) → ((c d : Chain) → Step c d → P c → P d) → {n : ℕ} {s after : State} → Reads n s after → P (chain_in n s) → P (chain_in n after)
kept P f {n} {s} r p = rw r.is (kept-lines P f n s r.lines r.stays_open p)

-- a branch that is used is taken
abbrev UsedTaken : Chain → Type 0
UsedTaken c = c.used ≡ true → c.taken ≡ true

step-used : (c d : Chain) → Step c d → UsedTaken c → UsedTaken d
step-used c d (stays e) h = rw e h
step-used c d (branches t p q) h = λ u. p ∙ rw (and_right (not c.taken) t (sym q ∙ u)) (or-true c.taken)

-- what is taken stays so
abbrev IsTaken : Chain → Type 0
IsTaken c = c.taken ≡ true

step-taken : (c d : Chain) → Step c d → IsTaken c → IsTaken d
step-taken c d (stays e) h = rw e h
step-taken c d (branches t p q) h = p ∙ rw h

-- A used branch is over.
pub record IsOver (c : Chain) : Type 0 where
  pub taken : c.taken ≡ true
  pub unused : c.used ≡ false

step-over : (c d : Chain) → Step c d → IsOver c → IsOver d
step-over c d (stays e) h = rw e h
step-over c d (branches t p q) h = record { taken = p ∙ rw h.taken; unused = q ∙ rw h.taken }

opened-used : (n : ℕ) (s : State) → Opens n s → UsedTaken (chain_in n s)
unfolding if_line
opened-used n s o = rw (o.is, ← o.under, chain-top) (λ u. u)

-- a further branch of an inmost chain, of which one was taken
over-top : (n : ℕ) (cs : List Chain) (d : Chain) (t : Bool) → length cs ≡ suc n → (chain_on n cs).taken ≡ true
    → d.taken ≡ ((get_or cs 0 no_chain).taken || t) → d.used ≡ (not (get_or cs 0 no_chain).taken && t) → IsOver (chain_on n (d ∷ drop 1 cs))
over-top n [] d t l h p q = absurd (omega arith)
over-top n (c ∷ cs) d t l h p q =
    let m : length cs ≡ n = omega arith in
    let k : c.taken ≡ true = rw (← m, chain-top) at h in
    rw (← m, chain-top) (record { taken = p ∙ rw k; unused = q ∙ rw k })

over-branch : (n : ℕ) (s : State) (b : Branch) → is_opening b ≡ false → length s.blocks.chains ≡ suc n → (chain_in n s).taken ≡ true
    → IsOver (chain_on n (branch_line s b).state.blocks.chains)
unfolding elif_line
over-branch n s (opening wanted ts) o l h = absurd (false≢true (sym o))
over-branch n s (further ts) o l h = over-top n s.blocks.chains _ (is_defined s ts) l h refl refl
over-branch n s (last ts) o l h =
    over-top n s.blocks.chains _ true l h (sym (or-true (inmost s).taken)) (sym (and-true (not (inmost s).taken)))

-- In a source, once a branch of a chain was used, no later branch of the chain is: opened in a, used in b, the next branch from c to d, read on to e.
pub used-once : (n : ℕ) (a b c d e : State) → Opens n a → Reads n a b → (chain_in n b).used ≡ true → Reads n b c → Begins n c d → Reads n d e
    → (chain_in n e).used ≡ false
used-once n a b c d e o ab used bc cd de =
    let taken : (chain_in n c).taken ≡ true = kept IsTaken step-taken bc (kept UsedTaken step-used ab (opened-used n a o) used) in
    let over : IsOver (chain_in n d) = rw cd.is (over-branch n c cd.branch cd.not-opening cd.is-inmost taken) in
    (kept IsOver step-over de over).unused
