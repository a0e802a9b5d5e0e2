-- The operands of an accepted line, one for each level: the next one, and the first.
use mathlib.Core.Path.{◌≡◌, refl, sym, ap, ◌∙◌, subst}
use mathlib.Core.Bool.{Bool, true, false, false≢true, ◌&&◌, ◌||◌}
use mathlib.Core.List.{List, [], ◌∷◌, map}
use Prim.Native.Nat.{ℕ, zero, suc, ◌≤◌}
use native.Mathlib.Omega.{arith}
use lib.ListN.{length}
use lib.Dec.{eqb, leb}
use borrow.Author.Tests.{eqb-true, eq-eqb, ne_eqb, leb-true}
use Rattle.base_lists.proofs.Bools.{by}
use Rattle.rules.specs.Text.{every, lower, lowest, is, ◌unless◌}
use Rattle.rules.specs.Lines.{in_plain}
use Rattle.rules.specs.Tokens.{broken, name, quote, Token, token, operands, tokens_refusal}
use Rattle.rules.specs.State.{Declaration, Subject}
use Rattle.rules.specs.OrderLines.{split_at, operand_list, stands, weights_refusal, subject_of, is_names}
use Rattle.rules.proofs.TextLaws.{lower-none, lowest-unless}
use Rattle.text_lines.specs.declared.Signs.{Signs}
use Rattle.text_lines.specs.declared.Spot.{Spot}
use Rattle.text_tokens.specs.declared.Tok.{Tok}
use Rattle.text_tokens.specs.Left.{tokens_left, token_there, TokenIs}
use Rattle.text_tokens.proofs.RefusalLaws.{tokens_refusal-cons, refusal-broken}
use Rattle.text_operands.specs.declared.After.{After}
use Rattle.text_operands.specs.declared.After.TheVariants as after
use Rattle.text_operands.specs.Operand.{operands_left, OperandsFrom, AfterIs}
use Rattle.locale_weights.specs.declared.Weight.{Weight}
use Rattle.locale_weights.specs.declared.Weight.TheVariants as weight
use Rattle.locale_weights.specs.Weights.{weight_refusal_by, weights_refusal_by, separator, EmptyWeight, OneWeight, BadWeights, WeightIs}
use Rattle.locale_weights.proofs.RefusalLaws.{weights-cons}
use Rattle.locale_weights.proofs.ByLaws.{weights-paper}
use Rattle.locale_weights.proofs.MadeLaws.{token-made, made-nameless}
use Rattle.table_weights.specs.declared.Part.{Part}
use Rattle.table_weights.specs.declared.Part.TheVariants as part
use Rattle.table_weights.specs.declared.Cursor.{Cursor}
use Rattle.table_weights.specs.declared.Turn.{Turn}
use Rattle.table_weights.specs.Ranks.{ranks_by, level_ranks}
use Rattle.table_weights.specs.Reading.{quote_ranks, Weighed, line_operands, weights_left, Ahead, part_of, part_ranks, PartFits, TurnIs, Starts}

-- ## One token

module _ (t : Tok) where
  pub part-name : t.kind ≡ 5 → part.One t.inside ≡ part_of t
  unfolding part_of
  part-name e = sym (rw e)

  pub part-quotes : t.kind ≡ 6 → part.Quotes t.inside ≡ part_of t
  unfolding part_of
  part-quotes e = sym (rw e)

  pub part_none : (t.kind ≡ 5 → ⊥) → (t.kind ≡ 6 → ⊥) → part.None ≡ part_of t
  unfolding part_of
  part_none n m = sym (rw (ne_eqb t.kind 5 n, ne_eqb t.kind 6 m))

-- neither a name nor quotes
nameless : (u : Token) (k : ℕ) → u.kind ≡ k → eqb k name ≡ false → eqb k quote ≡ false → is_names u ≡ false
nameless u k i e f = rw (i, e, f)

module _ (g : Signs) (src : List ℕ) (q : Spot) (t : Tok) (v : TokenIs g src q t) where
  one-ranks : (f : Subject → ℕ) (own : ℕ) → ranks_by f own (token_there g src q ∷ []) ≡ part_ranks g src own (part_of t) f
  unfolding ranks_by part_ranks part_of quote_ranks
  one-ranks f own =
      by (eqb t.kind name)
      (λ e. rw e (ap (λ (ns : List (List ℕ)). map (λ (n : List ℕ). f (subject_of n)) ns) (v.name (eqb-true t.kind name e))))
      (λ e. by (eqb t.kind quote)
      (λ d. rw (e, d) (ap (λ (ns : List (List ℕ)). map (λ (n : List ℕ). f (subject_of n)) ns) (v.quote (eqb-true t.kind quote d))))
      (λ d. rw (e, d) (ap (λ (ns : List (List ℕ)). map (λ (n : List ℕ). f (subject_of n)) ns) (made-nameless (token_there g src q) (token-made g src q v) (nameless (token_there g src q) t.kind v.kind e d)))))

  one-fits : length (token_there g src q).names ≤ 8 → PartFits g src (part_of t)
  unfolding part_of
  one-fits h =
      by (eqb t.kind name)
      (λ e. rw e (record { to = v.inside; inside = rw (v.name-mode (eqb-true t.kind name e)) }))
      (λ e. by (eqb t.kind quote)
      (λ d. let k = eqb-true t.kind quote d in
      rw (e, d) (record { to = v.inside; mode = v.quote-mode k; few = omega (arith, ap length (v.quote k)) }))
      (λ d. rw (e, d) tt))

-- ## Operands of an accepted line

split-each : (f : Subject → Bool) (os : List Token) → weights_refusal_by f (operand_list os) ≡ weights_refusal_by f (split_at [] os)
unfolding weights_refusal_by weight_refusal_by lowest lower split_at
split-each f [] = refl
split-each f (t ∷ ts) = refl

weights-first : (f : Subject → Bool) (w : List Token) (ws : List (List Token)) → weights_refusal_by f (w ∷ ws) ≡ 0
    → (weight_refusal_by f w ≡ 0) × (weights_refusal_by f ws ≡ 0)
weights-first f w ws h = lower-none (weight_refusal_by f w) (weights_refusal_by f ws) (sym (weights-cons f w ws) ∙ h)

-- at most 8 names
names-few : (f : Subject → Bool) (t : Token) → weight_refusal_by f (t ∷ []) ≡ 0 → length t.names ≤ 8
unfolding weight_refusal_by
names-few f t h =
    let a : Bool = eqb 0 0 && (is_names t || is t.text "IGNORE") in
    let b : Bool = every f (map subject_of t.names) in
    let c : Bool = leb (length t.names) 8 in
    let x = (lowest-unless 3 a ((6 unless b) ∷ (7 unless c) ∷ []) (omega arith) h).1 in
    let y = (lowest-unless 6 b ((7 unless c) ∷ []) (omega arith) x).1 in
    leb-true (length t.names) 8 (lowest-unless 7 c [] (omega arith) y).0

tokens-rest : (t : Token) (ts : List Token) → tokens_refusal (t ∷ ts) ≡ 0 → tokens_refusal ts ≡ 0
tokens-rest t ts h = (lower-none (tokens_refusal (t ∷ [])) (tokens_refusal ts) (sym (tokens_refusal-cons t ts) ∙ h)).1

module _ {os : List Token} (v : Weighed os) where
  weighed-split : weights_refusal_by v.stands (split_at [] os) ≡ 0
  weighed-split = sym (split-each v.stands os) ∙ v.each

  module _ (w : List Token) (ws : List (List Token)) (e : split_at [] os ≡ w ∷ ws) where
    weighed-parts : (weight_refusal_by v.stands w ≡ 0) × (weights_refusal_by v.stands ws ≡ 0)
    weighed-parts = weights-first v.stands w ws (ap (weights_refusal_by v.stands) (sym e) ∙ weighed-split)

  weighed-rest : (rest w : List Token) → tokens_refusal rest ≡ 0 → split_at [] os ≡ w ∷ split_at [] rest → Weighed rest
  weighed-rest rest w h e = record {
    whole = h;
    stands = v.stands;
    each = split-each v.stands rest ∙ (weighed-parts w (split_at [] rest) e).1;
  }

  weighed-sound : BadWeights os → ⊥
  unfolding lower
  weighed-sound b = let z : ◌≡◌ {A = ℕ} 0 3 = rw (v.whole, weighed-split) at (b.by v.stands) in omega arith

-- ## What the paper accepts

-- the operands of a line that the paper accepts
pub accepted-weighed : (ds : List Declaration) (os : List Token) → tokens_refusal os ≡ 0 → weights_refusal ds (operand_list os) ≡ 0 → Weighed os
accepted-weighed ds os h k = record { whole = h; stands = stands ds; each = weights-paper ds (operand_list os) ∙ k }

-- ## The next operand

module _ (g : Signs) (src : List ℕ) where
  left-more : (c : Cursor) → c.more ≡ true → weights_left g src c ≡ split_at [] (operands_left g src false c.at)
  unfolding weights_left
  left-more c e = rw e

  left-none : (c : Cursor) → c.more ≡ false → weights_left g src c ≡ []
  unfolding weights_left
  left-none c e = rw e

  left-empty : (p next : Spot) (more : Bool) → EmptyWeight g src p more next
      → split_at [] (operands_left g src false p) ≡ [] ∷ weights_left g src (record { more = more; at = next })
  unfolding weights_left split_at
  left-empty p next true v = v.split-on refl
  left-empty p next false v = rw (v.last refl)

  left_one : (p q next : Spot) (t : Tok) (more : Bool) → OneWeight g src p q t more next
      → split_at [] (operands_left g src false p) ≡ (token_there g src q ∷ []) ∷ weights_left g src (record { more = more; at = next })
  unfolding weights_left
  left_one p q next t true v = v.split-on refl
  left_one p q next t false v = v.split-last refl

  module _ {c : Cursor} (a : Ahead g src c) where
    pub turn_end : c.more ≡ false → TurnIs g src c (record { part = part.Own; next = c })
    unfolding level_ranks part_ranks
    turn_end e = record { ranks = λ f own l. rw (left-none c e); fits = tt; ahead = a }

    module _ (e : c.more ≡ true) {w : Weight} (k : WeightIs g src c.at w) where
      pub turn-bad : (t : Turn) → w ≡ weight.Bad → TurnIs g src c t
      turn-bad t h = let b : BadWeights (operands_left g src false c.at) = subst (WeightIs g src c.at) h k in absurd (weighed-sound (a.weighed e) b)

      pub turn-empty : {more : Bool} {next : Spot} → w ≡ weight.Empty more next
          → TurnIs g src c (record { part = part.Own; next = record { more = more; at = next } })
      unfolding level_ranks part_ranks ranks_by
      turn-empty {more} {next} h =
          let v : EmptyWeight g src c.at more next = subst (WeightIs g src c.at) h k in
          let s = left-empty c.at next more v in
          record {
            ranks = λ f own l. rw (left-more c e, s);
            fits = tt;
            ahead = record {
              to = v.to;
              mode = v.mode;
              weighed = λ m.
                  let r : List Token = operands_left g src false next in
                  weighed-rest (a.weighed e) r [] (tokens-rest separator r (ap tokens_refusal (sym (v.on m)) ∙ (a.weighed e).whole)) (v.split-on m);
            };
          }

      pub turn_one : {q : Spot} {t : Tok} {more : Bool} {next : Spot} {x : Part} → w ≡ weight.One q t more next → x ≡ part_of t
          → TurnIs g src c (record { part = x; next = record { more = more; at = next } })
      unfolding level_ranks
      turn_one {q} {t} {more} {next} {x} h i =
          let v : OneWeight g src c.at q t more next = subst (WeightIs g src c.at) h k in
          let u : Token = token_there g src q in
          let n : Cursor = record { more = more; at = next } in
          let s = left_one c.at q next t more v in
          let few = names-few (a.weighed e).stands u (weighed-parts (a.weighed e) (u ∷ []) (weights_left g src n) s).0 in
          record {
            ranks = λ f own l. rw (left-more c e, s, i) (ap (λ (r : List ℕ). r ∷ level_ranks f own l (weights_left g src n))
                (one-ranks g src q t v.token f own));
            fits = rw i (one-fits g src q t v.token few);
            ahead = record {
              to = v.to;
              mode = v.mode;
              weighed = λ m.
                  let r : List Token = operands_left g src false next in
                  weighed-rest (a.weighed e) r (u ∷ [])
                  (tokens-rest separator r (tokens-rest u (separator ∷ r) (ap tokens_refusal (sym (v.on m)) ∙ (a.weighed e).whole))) (v.split-on m);
            };
          }

-- ## The first operand

-- an empty operand and none are the same
levels-split : (f : Subject → ℕ) (own l : ℕ) (os : List Token) → level_ranks f own l (operand_list os) ≡ level_ranks f own l (split_at [] os)
unfolding level_ranks ranks_by split_at
levels-split f own zero [] = refl
levels-split f own (suc l) [] = refl
levels-split f own l (t ∷ ts) = refl

-- the spot at a place
abbrev spot_at : ℕ → Spot
spot_at place = record { at = place; mode = in_plain; fresh = false }

module _ (g : Signs) (src : List ℕ) (place : ℕ) (h : place ≤ length src) (v : Weighed (line_operands g src place)) {a : After}
    (w : AfterIs g src (spot_at place) a) where
  pub starts_none : a ≡ after.None → Starts g src place (record { more = false; at = spot_at place })
  unfolding line_operands weights_left
  starts_none e =
      let z : operands (tokens_left g src (spot_at place)) ≡ [] = subst (AfterIs g src (spot_at place)) e w in
      record { ranks = λ f own l. rw z; ahead = record { to = h; mode = refl; weighed = λ m. absurd (false≢true m) } }

  pub starts-broken : (c : Cursor) → a ≡ after.Broken → Starts g src place c
  unfolding line_operands
  starts-broken c e =
      let z : operands (tokens_left g src (spot_at place)) ≡ token broken [] [] ∷ [] = subst (AfterIs g src (spot_at place)) e w in
      let r : ◌≡◌ {A = ℕ} 0 3 = sym v.whole ∙ ap tokens_refusal z ∙ refusal-broken (token broken [] []) [] refl in
      absurd (omega arith)

  pub starts-some : {x : Spot} → a ≡ after.Operands x → Starts g src place (record { more = true; at = x })
  unfolding line_operands weights_left
  starts-some {x} e =
      let o : OperandsFrom g src (spot_at place) x = subst (AfterIs g src (spot_at place)) e w in
      record {
        ranks = λ f own l. rw o.operands (levels-split f own l (operands_left g src false x));
        ahead = record { to = o.to; mode = o.mode; weighed = λ m. subst Weighed o.operands v };
      }
