-- What the paper makes of a line inside LC_COLLATE that is read whole (Rattle.rules.specs.Source), by its tokens: its refusals are 3 and
-- above, but for bytes that are no text.
use mathlib.Core.Path.{◌≡◌}
use mathlib.Core.Bool.{Bool, true, false, not, ◌&&◌, ◌||◌}
use mathlib.Core.List.{List, [], ◌∷◌, map}
use Prim.Native.Nat.{ℕ}
use native.Mathlib.Omega.{arith}
use lib.ListN.{length}
use lib.Dec.{eqb, leb, ltb}
use Rattle.base_lists.proofs.Bools.{cond_both}
use Rattle.base_lists.proofs.Lists.{All}
use Rattle.rules.specs.Text.{every, one_of, within, is, ◌unless◌, lower, lowest}
use Rattle.rules.specs.Names.{is_char_name, code_of}
use Rattle.rules.specs.Tokens.{is_text, word, name, Token, token_at, the_name, single, tokens_of, operands, tokens_refusal}
use Rattle.rules.specs.State.{before_order, in_order, after_order, in_block, Declaration, Subject, undefined, State, in_phase, in_collate, Outcome, gives}
use Rattle.rules.specs.Conditionals.{is_toggle_byte, is_toggle, toggle_refusal, define_line, if_line, inmost, elif_line}
use Rattle.rules.specs.Declarations.{is_new, declares_chars, may_declare, symbol_line, element_formed, element_line}
use Rattle.rules.specs.OrderLines.{operand_list, rule_codes, rules_formed, order_start_line, subject_of, stands, is_symbol, is_names, weight_refusal, weights_refusal, rank_of, taken_out, again, order_line, reorder_after_line, reorder_end_line}
use Rattle.rules.specs.Source.{end_line, collate_line, token_line, whole_line}
use Rattle.text_tokens.proofs.RefusalLaws.{three-last}
use Rattle.text_operands.proofs.LateLaws.{Late, late-lower, late-none, late-lowest, late_by, late-unless, late-tokens, two-first, three-lowest}

-- ## The lines by their first word

pub late-toggle : (s : State) (ts : List Token) → Late (toggle_refusal s ts)
unfolding toggle_refusal
late-toggle s ts =
    let n = (token_at ts 0).text in
    let known = s.blocks.toggles in
    let formed = single word ts && every is_toggle_byte n in
    let few = leb (length n) 32 && (one_of (is_toggle n) known || ltb (length known) 16) in
    late-lowest (3 unless formed ∷ 7 unless few ∷ []) (late-unless formed, (late_by 7 few (omega arith), tt))

late-if : (s : State) (wanted : Bool) (ts : List Token) → Late (if_line s wanted ts).refusal
unfolding if_line
late-if s wanted ts =
    let few = ltb (length s.blocks.chains) 8 in
    late-lower (toggle_refusal s ts) (7 unless few) (late-toggle s ts) (late_by 7 few (omega arith))

late-define : (s : State) (b : Bool) (ts : List Token) → Late (define_line s b ts).refusal
unfolding define_line
late-define s b ts = late-toggle s ts

late-elif : (s : State) (ts : List Token) → Late (elif_line s ts).refusal
unfolding elif_line
late-elif s ts =
    let goes_on = not (inmost s).closed in
    late-lower (3 unless goes_on) (toggle_refusal s ts) (late-unless goes_on) (late-toggle s ts)

late-symbol : (s : State) (ts : List Token) → Late (symbol_line s ts).refusal
unfolding symbol_line
late-symbol s ts =
    let formed = may_declare s && single name ts in
    let new = is_new s.declared (the_name (token_at ts 0)) in
    late-lowest (3 unless formed ∷ 5 unless new ∷ []) (late-unless formed, (late_by 5 new (omega arith), tt))

late-element : (s : State) (ts : List Token) → Late (element_line s ts).refusal
unfolding element_line
late-element s ts =
    let ns = (token_at ts 2).names in
    let cs = map code_of ns in
    let formed = may_declare s && element_formed ts in
    let new = is_new s.declared (the_name (token_at ts 0)) && not (every is_char_name ns && one_of (declares_chars cs) s.declared) in
    let chars = every is_char_name ns in
    let few = within 2 4 (length cs) in
    late-lowest (3 unless formed ∷ 5 unless new ∷ 6 unless chars ∷ 7 unless few ∷ [])
    (late-unless formed, (late_by 5 new (omega arith), (late_by 6 chars (omega arith), (late_by 7 few (omega arith), tt))))

late-start : (s : State) (ts : List Token) → Late (order_start_line s ts).refusal
unfolding order_start_line
late-start s ts =
    let cs = rule_codes ts in
    let formed = in_phase before_order s && rules_formed false ts in
    let known = every (leb 1) cs in
    let few = leb (length cs) 8 in
    late-lowest (3 unless formed ∷ 4 unless known ∷ 7 unless few ∷ []) (late-unless formed, (late_by 4 known (omega arith), (late_by 7 few (omega arith), tt)))

late-end : (s : State) (ts : List Token) → Late (end_line s ts).refusal
unfolding end_line
late-end s ts =
    late-unless (in_phase after_order s && eqb (length s.blocks.chains) 0 && single word ts && is (token_at ts 0).text "LC_COLLATE")

late-weight : (ds : List Declaration) (ts : List Token) → Late (weight_refusal ds ts)
unfolding weight_refusal
late-weight ds [] = late-none
late-weight ds (t ∷ ts) =
    let formed = eqb (length ts) 0 && (is_names t || is t.text "IGNORE") in
    let known = every (stands ds) (map subject_of t.names) in
    let few = leb (length t.names) 8 in
    late-lowest (3 unless formed ∷ 6 unless known ∷ 7 unless few ∷ []) (late-unless formed, (late_by 6 known (omega arith), (late_by 7 few (omega arith), tt)))

late-weights : (ds : List Declaration) (ws : List (List Token)) → All Late (map (weight_refusal ds) ws)
late-weights ds [] = tt
late-weights ds (w ∷ ws) = (late-weight ds w, late-weights ds ws)

-- an order line
pub late-order : (s : State) (number : ℕ) (x : Subject) (ts : List Token) → Late (order_line s number x ts).refusal
unfolding order_line weights_refusal
late-order s number x ts =
    let o = s.ordered in
    let ws = operand_list ts in
    let formed = (in_phase in_order s || in_phase in_block s) && (eqb (length ts) 0 || not (is_symbol s.declared x)) in
    let weights = map (weight_refusal s.declared) ws in
    let new = not (again o.block x o.lines) in
    let known = stands s.declared x in
    let few = leb (length ws) (length o.rules) && ltb (length (taken_out x o.lines)) 32767 in
    late-lowest (3 unless formed ∷ lowest weights ∷ 5 unless new ∷ 6 unless known ∷ 7 unless few ∷ []) (
      late-unless formed,
      (late-lowest weights (late-weights s.declared ws), (late_by 5 new (omega arith), (late_by 6 known (omega arith), (late_by 7 few (omega arith), tt)))),
    )

-- a block's ends
late-reorder : (s : State) (ts : List Token) → Late (reorder_after_line s ts).refusal
unfolding reorder_after_line
late-reorder s ts =
    let formed = (in_phase after_order s || in_phase in_block s) && single name ts in
    let there = leb 1 (rank_of s.ordered.lines (subject_of (the_name (token_at ts 0)))) in
    late-lowest (3 unless formed ∷ 6 unless there ∷ []) (late-unless formed, (late_by 6 there (omega arith), tt))

late-reorder-end : (s : State) (ts : List Token) → Late (reorder_end_line s ts).refusal
unfolding reorder_end_line
late-reorder-end s ts = late-unless (in_phase in_block s && eqb (length ts) 0)

-- the line of any word
pub late-collate : (s : State) (number : ℕ) (w : List ℕ) (ts : List Token) → Late (collate_line s number w ts).refusal
unfolding collate_line
late-collate s number w ts =
    let P : Outcome → Type 0 = λ o. Late o.refusal in
    cond_both P (is w "define") (late-define s true ts)
    (cond_both P (is w "undef") (late-define s false ts)
    (cond_both P (is w "ifdef") (late-if s true ts)
    (cond_both P (is w "ifndef") (late-if s false ts)
    (cond_both P (is w "elif") (late-elif s ts)
    (cond_both P (is w "else") (late-unless (eqb (length ts) 0 && not (inmost s).closed))
    (cond_both P (is w "endif") (late-unless (eqb (length ts) 0 && ltb 0 (length s.blocks.chains)))
    (cond_both P (is w "collating-symbol") (late-symbol s ts)
    (cond_both P (is w "collating-element") (late-element s ts)
    (cond_both P (is w "order_start") (late-start s ts)
    (cond_both P (is w "order_end") (late-unless (in_phase in_order s && eqb (length ts) 0))
    (cond_both P (is w "UNDEFINED") (late-order s number undefined ts)
    (cond_both P (is w "reorder-after") (late-reorder s ts)
    (cond_both P (is w "reorder-end") (late-reorder-end s ts)
    (cond_both P (is w "END") (late-end s ts) (late-unless false)))))))))))))))

-- ## The line by its tokens

module _ (s : State) (number : ℕ) (c : in_collate s ≡ true) where
  module _ (t : Token) (ts : List Token) where
    pub line_word : t.kind ≡ word → token_line s number (t ∷ ts)
        ≡ gives (lower (tokens_refusal (t ∷ operands ts)) (collate_line s number t.text (operands ts)).refusal) (collate_line s number t.text (operands ts)).state
    unfolding token_line
    line_word k = rw (k, c)

    pub line-name : t.kind ≡ name → token_line s number (t ∷ ts)
        ≡ gives (lower (tokens_refusal (t ∷ operands ts)) (order_line s number (subject_of (the_name t)) (operands ts)).refusal) (order_line s number (subject_of (the_name t)) (operands ts)).state
    unfolding token_line
    line-name k = rw (k, c)

    -- neither
    pub line_other : eqb t.kind word ≡ false → eqb t.kind name ≡ false → (token_line s number (t ∷ ts)).refusal ≡ 3
    unfolding token_line
    line_other h k = rw (h, k) (three-last (t ∷ operands ts))

    -- its first token or one of its operands is malformed
    pub line-malformed : tokens_refusal (t ∷ operands ts) ≡ 3 → (token_line s number (t ∷ ts)).refusal ≡ 3
    unfolding token_line
    line-malformed h =
        let P : Outcome → Type 0 = λ o. Late o.refusal in
        rw (h, c)
        (three-lowest _
        (cond_both P (eqb t.kind word) (late-collate s number t.text (operands ts))
        (cond_both P (eqb t.kind name && true) (late-order s number (subject_of (the_name t)) (operands ts)) (late-unless false))))

  -- any tokens
  pub late-line : (ts : List Token) → Late (token_line s number ts).refusal
  unfolding token_line
  late-line [] = late-none
  late-line (t ∷ ts) =
      let P : Outcome → Type 0 = λ o. Late o.refusal in
      rw c
      (late-lower (tokens_refusal (t ∷ operands ts)) _ (late-tokens (t ∷ operands ts))
      (cond_both P (eqb t.kind word) (late-collate s number t.text (operands ts))
      (cond_both P (eqb t.kind name && true) (late-order s number (subject_of (the_name t)) (operands ts)) (late-unless false))))

  -- ## The whole line

  module _ (marks : List ℕ) where
    pub whole-foul : every is_text marks ≡ false → (whole_line s number marks).refusal ≡ 2
    unfolding whole_line
    whole-foul t = rw t (two-first (token_line s number (tokens_of marks)).refusal (late-line (tokens_of marks)))

    pub whole-tokens : {text : Bool} {ts : List Token} → every is_text marks ≡ text → tokens_of marks ≡ ts
        → whole_line s number marks ≡ gives (lower (2 unless text) (token_line s number ts).refusal) (token_line s number ts).state
    unfolding whole_line
    whole-tokens t e = rw (t, e)
