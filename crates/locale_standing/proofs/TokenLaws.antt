-- The refusal of an operand that is one token: a law for each kind.
use mathlib.Core.Path.{◌≡◌, sym, ap, ◌∙◌}
use mathlib.Core.Bool.{Bool, true, false}
use mathlib.Core.List.{List, [], ◌∷◌, map}
use Prim.Native.Nat.{ℕ, ◌≤◌, ◌<◌}
use native.Mathlib.Omega.{arith}
use lib.ListN.{length}
use lib.Dec.{eqb, leb}
use borrow.Author.Tests.{eqb-true, eqb-false, ne_eqb, le-leb, lt-leb}
use Rattle.base_lists.proofs.Bools.{by}
use Rattle.rules.specs.Text.{bytes, same, is, every, ◌unless◌, lower}
use Rattle.rules.specs.Tokens.{word, tokens_refusal}
use Rattle.rules.specs.OrderLines.{is_names, subject_of}
use Rattle.base_units.specs.Numbers.{number_or_none}
use Rattle.text_lines.specs.declared.Signs.{Signs}
use Rattle.text_lines.specs.declared.Spot.{Spot}
use Rattle.text_lines.specs.Stream.{marks_left}
use Rattle.text_tokens.specs.declared.Tok.{Tok}
use Rattle.text_tokens.specs.Left.{token_there, word_in, TokenIs}
use Rattle.locale_weights.proofs.MadeLaws.{token-made, made-nameless, made-short}
use Rattle.locale_weights.proofs.WeightLaws.{short-word, weight-other, weight-ignore, weight-names}
use Rattle.locale_standing.specs.Standing.{stands_in, names_of, Inside, AllStand}
use Rattle.locale_standing.specs.Refusing.{WeightRefused, OneRefused}

module _ (g : Signs) (src w : List ℕ) (q : Spot) (t : Tok) (v : TokenIs g src q t) where
  pub token-inside : Inside (length src) t
  token-inside = record { to = v.inside; name-mode = v.name-mode; quote-mode = v.quote-mode }

  -- neither a name nor quotes
  nameless : (t.kind ≡ 5 → ⊥) → (t.kind ≡ 6 → ⊥) → is_names (token_there g src q) ≡ false
  nameless a b = rw v.kind (rw (ne_eqb t.kind 5 a, ne_eqb t.kind 6 b))

  -- its names are those that are read from inside it
  pub names-inside : (token_there g src q).names ≡ names_of g src t
  unfolding names_of
  names-inside =
      by (eqb t.kind 5) (λ e. v.name (eqb-true t.kind 5 e) ∙ rw e) (λ e.
      by (eqb t.kind 6) (λ f. v.quote (eqb-true t.kind 6 f) ∙ rw (e, f))
      (λ f. made-nameless (token_there g src q) (token-made g src q v) (nameless (eqb-false t.kind 5 e) (eqb-false t.kind 6 f)) ∙ rw (e, f)))

  -- ## A word

  module _ (k : t.kind ≡ 4) {b : Bool} (f : b ≡ same (word_in (marks_left g src q)) (73 ∷ 71 ∷ 78 ∷ 79 ∷ 82 ∷ 69 ∷ [])) where
    ignores : is (token_there g src q).text "IGNORE" ≡ b
    unfolding is bytes
    ignores = rw (v.word k) (sym f)

    pub refused-ignore : b ≡ true → WeightRefused g src w (token_there g src q) 0
    refused-ignore e =
        let T = token_there g src q in
        let z = nameless (λ x. omega arith) (λ x. omega arith) in
        record { is = λ n ds h. sym (weight-ignore (stands_in ds) T z (ignores ∙ e) (made-nameless T (token-made g src q v) z)) }

    pub refused-word : b ≡ false → WeightRefused g src w (token_there g src q) 3
    refused-word e =
        record { is = λ n ds h. sym (weight-other (stands_in ds) (token_there g src q) (nameless (λ x. omega arith) (λ x. omega arith)) (ignores ∙ e)) }

  -- ## Neither a word nor names

  strange : (t.kind ≡ 4 → ⊥) → (t.kind ≡ 5 → ⊥) → (t.kind ≡ 6 → ⊥) → WeightRefused g src w (token_there g src q) 3
  strange a b c =
      let T = token_there g src q in
      let z = nameless b c in
      let y : eqb T.kind word ≡ false = rw v.kind (ne_eqb t.kind 4 a) in
      record { is = λ n ds h. sym (weight-other (stands_in ds) T z (short-word T.text (made-short T (token-made g src q v) z y))) }

  pub refused-low : (t.kind ≡ 4 → ⊥) → t.kind < 5 → WeightRefused g src w (token_there g src q) 3
  refused-low a b = strange a (λ x. omega arith) (λ x. omega arith)

  pub refused-high : 6 < t.kind → WeightRefused g src w (token_there g src q) 3
  refused-high a = strange (λ x. omega arith) (λ x. omega arith) (λ x. omega arith)

  -- ## Names

  module _ (a : 5 ≤ t.kind) (b : t.kind ≤ 6) where
    names : is_names (token_there g src q) ≡ true
    names = rw v.kind (by (eqb t.kind 5) (λ e. rw e) (λ e. rw e (let z = eqb-false t.kind 5 e in let y : t.kind ≡ 6 = omega arith in rw y)))

    module _ {r : Bool} (s : AllStand g src w (names_of g src t) r) where
      refused : (m : ℕ) → lower (6 unless r) (7 unless leb t.names 8) ≡ m → WeightRefused g src w (token_there g src q) m
      refused m e =
          let T = token_there g src q in
          record {
            is = λ n ds h.
                sym e
                ∙ ap (λ (x : ℕ). lower (6 unless r) (7 unless leb x 8)) (sym v.names)
                ∙ ap (λ (x : Bool). lower (6 unless x) (7 unless leb (length T.names) 8))
                (s.is n ds h ∙ ap (λ (ns : List (List ℕ)). every (stands_in ds) (map subject_of ns)) (sym names-inside))
                ∙ sym (weight-names (stands_in ds) T names);
          }

      pub refused-not : r ≡ false → WeightRefused g src w (token_there g src q) 6
      unfolding lower
      refused-not e = refused 6 (rw e (by (leb t.names 8) (λ x. rw x) (λ x. rw x)))

      pub refused_none : r ≡ true → t.names ≤ 8 → WeightRefused g src w (token_there g src q) 0
      unfolding lower
      refused_none e h = refused 0 (rw (e, le-leb t.names 8 h))

      pub refused-many : r ≡ true → 8 < t.names → WeightRefused g src w (token_there g src q) 7
      unfolding lower
      refused-many e h = refused 7 (rw (e, lt-leb t.names 8 h))

  -- ## The token's own refusal too

  pub refused-both : {r f : ℕ} → WeightRefused g src w (token_there g src q) r → f ≡ lower (number_or_none t.refusal) r → OneRefused g src w (token_there g src q) f
  refused-both {r} {f} x e =
      record { is = λ n ds h. e ∙ ap (λ (y : ℕ). lower y r) (sym v.refusal) ∙ ap (λ (y : ℕ). lower (tokens_refusal (token_there g src q ∷ [])) y) (x.is n ds h) }
