-- The lines of an unused branch: what each kind of line does there, and the turns of the loop over them.
use Rattle.std.specs.Prelude.{if◌then◌else◌, Err, Ok}
use mathlib.Core.Path.{◌≡◌, refl, sym, ap, ◌∙◌, subst}
use mathlib.Core.Bool.{Bool, true, false, ◌||◌, and-false, or-true, true≢false}
use mathlib.Core.List.{List, [], ◌∷◌}
use Prim.Native.Nat.{ℕ, suc, pred, ◌+◌, ◌-◌, ◌≤◌, ◌<◌}
use native.Mathlib.Omega.{arith}
use lib.ListN.{length, get_or, drop}
use lib.Dec.{eqb, ltb}
use borrow.Author.Tests.{leb-true, lt-ltb, le-ltb, eq-eqb, ne_eqb}
use Rattle.base_lists.proofs.Bools.{cond-true, cond-false}
use Rattle.rules.specs.Text.{is, ◌unless◌}
use Rattle.rules.specs.Tokens.{plain_marks, words_of}
use Rattle.rules.specs.State.{before_order, between_categories, in_other_category, Chain, State, with_blocks, in_phase, in_collate, Outcome, gives}
use Rattle.rules.specs.Conditionals.{blocks, chain, is_unused}
use Rattle.rules.specs.Source.{signs, other_line, unused_line, whole_line, line_outcome, lines_from}
use Rattle.base_units.specs.declared.Refusal.TheVariants.{Malformed, TooMany}
use Rattle.text_lines.specs.declared.Signs.{Signs}
use Rattle.text_lines.specs.declared.LineEnd.{LineEnd}
use Rattle.text_lines.specs.Stream.{plain_signs, line_start, marks_left, LineIs}
use Rattle.text_reader.specs.Turns.{Turns}
use Rattle.locale_skips.specs.Words.{first_word}
use Rattle.locale_skips.specs.declared.Kind.{Kind}
use Rattle.locale_skips.specs.declared.Kind.TheVariants as kind
use Rattle.locale_skips.specs.declared.Turn.{Turn}
use Rattle.locale_skips.specs.declared.Turn.TheVariants as turn
use Rattle.locale_skips.specs.declared.Branch.{Branch}
use Rattle.locale_skips.specs.Passing.{Unused, Begins, opens, branches, turns, KindIs, opened, TurnOn, TurnOwn, TurnDeep, TurnIs, BranchStops, BranchRefused, BranchIs, InBranch, BranchStands, branch_reading}
use Rattle.locale_skips.proofs.LineRuns.{collate-signs, run-passed, run-refuses, run-unended, refuses-from}

-- ## States in an unused branch

-- the next line stands in one where the innermost chain has it so
pub unused-chain : (g : Signs) (depth : ℕ) (s : State) (taken closed : Bool) (cs : List Chain)
    → s.chars.comment ≡ g.comment → s.chars.escape ≡ g.escape → in_collate s ≡ true → s.blocks.inner ≡ 0
    → s.blocks.chains ≡ chain taken false closed ∷ cs → suc (length cs) ≡ depth → Unused g depth s
unused-chain g depth s taken closed cs c e i n x d =
    record { inside = i; unused = rw (x, lt-ltb 0 (suc (length cs)) (omega arith)); inner = n; comment = c; escape = e; chains = ap length x ∙ d }

module _ (g : Signs) (depth total : ℕ) (s : State) (u : Unused g depth s) where
  inside : before_order ≤ s.place.phase
  inside = leb-true before_order s.place.phase u.inside

  pub opened-signs : signs (opened depth total s) ≡ plain_signs g
  opened-signs = collate-signs g (opened depth total s) u.comment u.escape u.inside

  pub opened_inside : in_phase between_categories (opened depth total s) ≡ false
  opened_inside = let h = inside in ne_eqb s.place.phase between_categories (λ e. omega arith)

  -- with no inner chain open it is the state itself
  pub opened-none : total ≡ depth → opened depth total s ≡ s
  opened-none e =
      let z : total - depth ≡ s.blocks.inner = omega (arith, u.inner) in
      ap (λ (x : ℕ). with_blocks s (blocks s.blocks.chains x s.blocks.toggles)) z

  -- its line is one of an unused branch
  pub unused-line : (n : ℕ) (marks : List ℕ)
      → line_outcome (opened depth total s) n marks ≡ unused_line (opened depth total s) n (get_or (words_of [] (plain_marks marks)) 0 []) marks
  unfolding line_outcome
  unused-line n marks =
      let h = inside in
      let t = opened depth total s in
      let w = get_or (words_of [] (plain_marks marks)) 0 [] in
      cond-false
      (other_line t (words_of [] (plain_marks marks)))
      (if is_unused t then unused_line t n w marks else whole_line t n marks)
      (ne_eqb s.place.phase in_other_category (λ e. omega arith))
      ∙ cond-true (unused_line t n w marks) (whole_line t n marks) u.unused

  -- ## Its line, by its first word

  module _ (n : ℕ) (w marks : List ℕ) (d : depth ≤ total) where
    outcome-opens : opens w ≡ true
        → unused_line (opened depth total s) n w marks
        ≡ gives (7 unless ltb total 8) (opened depth (total + 1) s)
    unfolding unused_line
    outcome-opens o =
        let a : length s.blocks.chains + (total - depth) ≡ total = omega (arith, u.chains) in
        let b : suc (total - depth) ≡ total + 1 - depth = omega arith in
        rw (o, a, b)

    pub opens-on : opens w ≡ true → total < 8 → unused_line (opened depth total s) n w marks ≡ gives 0 (opened depth (total + 1) s)
    opens-on o h = outcome-opens o ∙ rw (lt-ltb total 8 h)

    pub opens-deep : opens w ≡ true → 8 ≤ total → (unused_line (opened depth total s) n w marks).refusal ≡ 7
    opens-deep o h = ap (λ (x : Outcome). x.refusal) (outcome-opens o) ∙ rw (le-ltb total 8 h)

    module _ (o : opens w ≡ false) where
      module _ (k : (total ≡ depth → ⊥)) where
        inner : eqb (total - depth) 0 ≡ false
        inner = ne_eqb (total - depth) 0 (λ e. k (omega arith))

        pub closes-on : is w "endif" ≡ true → unused_line (opened depth total s) n w marks ≡ gives 0 (opened depth (total - 1) s)
        unfolding unused_line
        closes-on e =
            let b : pred (total - depth) ≡ total - 1 - depth = omega arith in
            rw (o, e, inner, b)

        pub branches-on : is w "endif" ≡ false → unused_line (opened depth total s) n w marks ≡ gives 0 (opened depth total s)
        unfolding unused_line
        branches-on e = rw (o, e, inner)

      pub other-on : is w "endif" ≡ false → branches w ≡ false → unused_line (opened depth total s) n w marks ≡ gives 0 (opened depth total s)
      unfolding unused_line
      other-on e b = rw (o, e, b, and-false (eqb (total - depth) 0))

      pub own_line : total ≡ depth → turns w ≡ true
          → unused_line (opened depth total s) n w marks ≡ whole_line (opened depth total s) n marks
      unfolding unused_line
      own_line z b =
          let i : eqb (total - depth) 0 ≡ true = eq-eqb (total - depth) 0 (omega arith) in
          rw (o, i, and-false (is w "endif"), b)

-- ## What a line is

-- one of two words, of which the second is compared only where the first is another
pub either_first : {a b x : Bool} (y : Bool) → a ≡ x → a ≡ true → b ≡ true → b ≡ (x || y)
either_first y e t f = rw (sym e ∙ t) f

pub either_second : {a b x y : Bool} → a ≡ x → a ≡ false → b ≡ y → b ≡ (x || y)
either_second e t f = rw (sym e ∙ t) f

module _ (w : List ℕ) {a : Bool} (e : a ≡ opens w) where
  module _ (x : a ≡ false) {b : Bool} (f : b ≡ is w "endif") where
    pub kind-closes : b ≡ true → KindIs w kind.Closes
    kind-closes t = (sym e ∙ x, sym f ∙ t)

    module _ (y : b ≡ false) {c : Bool} (h : c ≡ branches w) where
      pub kind-branches : c ≡ true → KindIs w kind.Branches
      kind-branches t = (sym e ∙ x, sym f ∙ y, sym h ∙ t)

      pub kind-other : c ≡ false → KindIs w kind.Other
      kind-other t = (sym e ∙ x, sym f ∙ y, sym h ∙ t)

-- ## What it does

module _ (g : Signs) (src : List ℕ) (at depth total : ℕ) where
  -- it is passed over
  on : (next : ℕ) → depth ≤ next
      → ((s : State) → Unused g depth s → (n : ℕ)
      → unused_line (opened depth total s) n (first_word g src (line_start at)) (marks_left g src (line_start at)) ≡ gives 0 (opened depth next s))
      → TurnOn g src at depth total next
  on next h f = record { deep = h; outcome = λ s u n. unused-line g depth total s u n (marks_left g src (line_start at)) ∙ f s u n }

  -- it is one of the branch's own chain
  own : total ≡ depth → turns (first_word g src (line_start at)) ≡ true
      → ((s : State) → Unused g depth s → (n : ℕ)
      → unused_line (opened depth total s) n (first_word g src (line_start at)) (marks_left g src (line_start at))
      ≡ whole_line (opened depth total s) n (marks_left g src (line_start at)))
      → TurnOwn g src at depth total
  own z b f =
      record {
        none = z;
        word = b;
        own = λ s u n.
            subst (λ (y : State). line_outcome y n (marks_left g src (line_start at)) ≡ whole_line y n (marks_left g src (line_start at)))
            (opened-none g depth total s u z)
            (unused-line g depth total s u n (marks_left g src (line_start at)) ∙ f s u n);
      }

  -- the kind that was found is the one of this case
  abbrev IsKind : Kind → Type 0
  IsKind k = KindIs (first_word g src (line_start at)) k

module _ {g : Signs} {src : List ℕ} {at depth total : ℕ} {k : Kind} (d : depth ≤ total) (x : KindIs (first_word g src (line_start at)) k) where
  pub turn-opens : k ≡ kind.Opens → total < 8 → TurnOn g src at depth total (total + 1)
  turn-opens e h =
      let o : IsKind g src at depth total kind.Opens = subst (IsKind g src at depth total) e x in
      on g src at depth total (total + 1) (omega arith) (λ s u n. opens-on g depth total s u n _ _ d o h)

  pub turn-deep : k ≡ kind.Opens → 8 ≤ total → TurnDeep g src at depth total
  turn-deep e h =
      let o : IsKind g src at depth total kind.Opens = subst (IsKind g src at depth total) e x in
      record {
        outcome = λ s u n. ap (λ (y : Outcome). y.refusal) (unused-line g depth total s u n (marks_left g src (line_start at)))
            ∙ opens-deep g depth total s u n _ _ d o h;
      }

  pub turn-closes : k ≡ kind.Closes → (total ≡ depth → ⊥) → TurnOn g src at depth total (total - 1)
  turn-closes e h =
      let o : IsKind g src at depth total kind.Closes = subst (IsKind g src at depth total) e x in
      on g src at depth total (total - 1) (omega arith) (λ s u n. closes-on g depth total s u n _ _ d o.0 h o.1)

  pub turn-ends : k ≡ kind.Closes → total ≡ depth → TurnOwn g src at depth total
  turn-ends e z =
      let o : IsKind g src at depth total kind.Closes = subst (IsKind g src at depth total) e x in
      let b : turns (first_word g src (line_start at)) ≡ true = rw o.1 (or-true (branches (first_word g src (line_start at)))) in
      own g src at depth total z b (λ s u n. own_line g depth total s u n _ _ d o.0 z b)

  pub turn-branches : k ≡ kind.Branches → (total ≡ depth → ⊥) → TurnOn g src at depth total total
  turn-branches e h =
      let o : IsKind g src at depth total kind.Branches = subst (IsKind g src at depth total) e x in
      on g src at depth total total d (λ s u n. branches-on g depth total s u n _ _ d o.0 h o.1)

  pub turn-own : k ≡ kind.Branches → total ≡ depth → TurnOwn g src at depth total
  turn-own e z =
      let o : IsKind g src at depth total kind.Branches = subst (IsKind g src at depth total) e x in
      let b : turns (first_word g src (line_start at)) ≡ true = rw o.2 in
      own g src at depth total z b (λ s u n. own_line g depth total s u n _ _ d o.0 z b)

  pub turn-other : k ≡ kind.Other → TurnOn g src at depth total total
  turn-other e =
      let o : IsKind g src at depth total kind.Other = subst (IsKind g src at depth total) e x in
      on g src at depth total total d (λ s u n. other-on g depth total s u n _ _ d o.0 o.1 o.2)

-- where an inner chain is open, one at least is
pub total-some : (depth total : ℕ) → depth ≤ total → (total ≡ depth → ⊥) → 1 ≤ total
total-some depth total d h = omega arith

-- ## Line after line

pub branch-begins : (g : Signs) (src : List ℕ) (at number depth : ℕ) → Begins src at number → InBranch g src at number depth at number depth
branch-begins g src at number depth h =
    record {
      from = omega arith;
      to = h.inside;
      few = h.few;
      deep = omega arith;
      run = λ s u. ap (λ (x : State). lines_from x number 0 (drop at src)) (sym (opened-none g depth depth s u refl));
    }

module _ {g : Signs} {src : List ℕ} {at number depth i n total : ℕ} (v : InBranch g src at number depth i n total) where
  pub branch-end : length src ≤ i → BranchRefused g src at number depth 3 n
  branch-end h =
      record {
        run = λ s u. refuses-from (v.run s u) (run-unended src i n (opened depth total s) (opened_inside g depth total s u) h);
      }

  module _ (h : i < length src) {t : Turn} (w : TurnIs g src i depth total t) where
    pub branch-stops : t ≡ turn.Own → BranchStops g src at number depth i n
    branch-stops e =
        let o : TurnOwn g src i depth total = subst (TurnIs g src i depth total) e w in
        record {
          from = v.from;
          inside = h;
          few = v.few;
          run = λ s u. v.run s u ∙ ap (λ (x : State). lines_from x n 0 (drop i src)) (opened-none g depth total s u o.none);
          word = o.word;
          own = o.own;
        }

    pub branch-deep : t ≡ turn.Deep → BranchRefused g src at number depth 7 n
    branch-deep e =
        let o : TurnDeep g src i depth total = subst (TurnIs g src i depth total) e w in
        record {
          run = λ s u. refuses-from (v.run s u)
              (run-refuses g src i n (opened depth total s) (opened-signs g depth total s u) 7 h (o.outcome s u n) (λ z. omega arith));
        }

    pub branch-on : {o : ℕ} {x : LineEnd} → t ≡ turn.On o → LineIs g src (line_start i) x
        → InBranch g src at number depth x.next (n + x.feeds) o
    branch-on {o} {x} e l =
        let p : TurnOn g src i depth total o = subst (TurnIs g src i depth total) e w in
        record {
          from = omega (arith, v.from, l.few);
          to = l.to;
          few = omega (arith, v.few, l.few);
          deep = p.deep;
          run = λ s u. v.run s u
              ∙ run-passed g src i n (opened depth total s) (opened-signs g depth total s u) (opened depth o s) x h l (p.outcome s u n);
        }

-- ## The reading of a branch

-- the state that it begins with
abbrev begun : Signs → ℕ → ℕ → ℕ → Branch
begun g at number depth = record { over = false; next = at; number = number; total = depth; answer = Err (Malformed, number); depth = depth; signs = g }

pub reading_begins : {g : Signs} {src : List ℕ} {at number depth : ℕ} → Begins src at number
    → BranchStands src (begun g at number depth) (begun g at number depth) at number
reading_begins {g} {src} {at} {number} {depth} b = record { signs = refl; depth = refl; answer = refl; passed = branch-begins g src at number depth b }

module _ {src : List ℕ} {s t : Branch} {i n : ℕ} (v : BranchStands src s t i n) where
  -- what a line is to the characters and the chains of t, it is to those of s
  same_turn : (k : Turn) → TurnIs t.signs src i t.depth t.total k → TurnIs s.signs src i s.depth t.total k
  same_turn k w = subst (λ (x : Signs). TurnIs x src i s.depth t.total k) v.signs (subst (λ (x : ℕ). TurnIs t.signs src i x t.total k) v.depth w)

  same_line : {x : LineEnd} → LineIs t.signs src (line_start i) x → LineIs s.signs src (line_start i) x
  same_line {x} l = subst (λ (g : Signs). LineIs g src (line_start i) x) v.signs l

  pub reading-used : length src ≤ i → BranchIs s.signs src s.next s.number s.depth t.answer
  reading-used h = subst (BranchIs s.signs src s.next s.number s.depth) (sym v.answer) (branch-end v.passed h)

  pub reading-chains : t.depth ≤ t.total
  reading-chains = subst (λ (x : ℕ). x ≤ t.total) (sym v.depth) v.passed.deep

-- what the line at a place does to it
module _ {src : List ℕ} {t : Branch} {at number : ℕ} (h : at < length src) {k : Turn} (w : TurnIs t.signs src at t.depth t.total k) where
  pub reading-own : k ≡ turn.Own
      → Turns branch_reading src t at number (record { over = true; next = at; number = number; total = t.total; answer = Ok (at, number); depth = t.depth; signs = t.signs })
  reading-own e =
      record { further = λ f. absurd (true≢false f); goes = λ f. absurd (true≢false f); stops = λ f s v. branch-stops v.passed h (same_turn v k w) e }

  pub reading-deep : k ≡ turn.Deep
      → Turns branch_reading src t at number (record { over = true; next = at; number = number; total = t.total; answer = Err (TooMany, number); depth = t.depth; signs = t.signs })
  reading-deep e =
      record { further = λ f. absurd (true≢false f); goes = λ f. absurd (true≢false f); stops = λ f s v. branch-deep v.passed h (same_turn v k w) e }

  pub reading-on : {o : ℕ} {x : LineEnd} → k ≡ turn.On o → LineIs t.signs src (line_start at) x
      → Turns branch_reading src t at number
      (record { over = false; next = x.next; number = number + x.feeds; total = o; answer = Err (Malformed, (number + x.feeds)); depth = t.depth; signs = t.signs })
  reading-on e l =
      record {
        further = λ f. l.on h;
        goes = λ f s v. record { signs = v.signs; depth = v.depth; answer = refl; passed = branch-on v.passed h (same_turn v k w) e (same_line v l) };
        stops = λ f. absurd (true≢false (sym f));
      }
