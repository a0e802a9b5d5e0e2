-- What the tokens of a line are made of: only a name and quotes have names; a word has any bytes, a separator none, what else there is at
-- most one.
use Rattle.std.specs.Prelude.{if◌then◌else◌}
use mathlib.Core.Path.{◌≡◌, refl, sym, ap, ◌∙◌}
use mathlib.Core.Bool.{Bool, true, false, ◌&&◌, ◌||◌}
use mathlib.Core.List.{List, [], ◌∷◌}
use Prim.Native.Nat.{ℕ, ◌≤◌}
use native.Mathlib.Omega.{arith}
use lib.ListN.{length}
use lib.Dec.{eqb, leb}
use borrow.Author.Tests.{eqb-true, leb-true}
use Rattle.base_lists.proofs.Bools.{cond_both, and_intro, and_left, and_right}
use Rattle.base_lists.proofs.Lists.{length-zero}
use Rattle.rules.specs.Text.{every}
use Rattle.rules.specs.Tokens.{gap, semi, comma, word, Token, token, is_solid, without_gaps}
use Rattle.rules.specs.OrderLines.{is_names}
use Rattle.rules.proofs.TextLaws.{every-head, every-tail}
use Rattle.text_lines.specs.declared.Signs.{Signs}
use Rattle.text_lines.specs.declared.Spot.{Spot}
use Rattle.text_lines.specs.Stream.{marks_left}
use Rattle.text_tokens.specs.declared.Tok.{Tok}
use Rattle.text_tokens.specs.Left.{tokens_left, token_there, TokenIs}
use Rattle.text_operands.specs.Operand.{operands_left}
use Rattle.text_operands.proofs.EachLaws.{OfEach, each-token}
use Rattle.locale_weights.specs.Weights.{separator}

-- how many bytes a token of this kind has at most, a word aside
abbrev most : ℕ → ℕ
most k = if leb k comma then 0 else 1

-- a token is so made
abbrev pub made : Token → Bool
made t = is_names t || (eqb (length t.names) 0 && (eqb t.kind word || leb (length t.text) (most t.kind)))

each-made : OfEach made
each-made =
    record {
      gaps = refl;
      semis = refl;
      commas = refl;
      unended = refl;
      pairs = λ b. refl;
      taken = λ b. refl;
      words = λ t h. refl;
      names = λ n. refl;
      quotes = λ ns. refl;
    }

gaps-made : (glued : Bool) (ts : List Token) → every made ts ≡ true → every made (without_gaps glued ts) ≡ true
unfolding without_gaps every
gaps-made glued [] h = refl
gaps-made glued (t ∷ ts) h =
    let r = gaps-made (is_solid t) ts (every-tail made t ts h) in
    let f = every-head made t ts h in
    let P : List Token → Type 0 = λ us. every made us ≡ true in
    cond_both P (eqb t.kind gap) r
    (cond_both P (glued && is_solid t) (and_intro f r) (and_intro f r))

pub left-made : (g : Signs) (src : List ℕ) (p : Spot) → every made (tokens_left g src p) ≡ true
unfolding tokens_left
left-made g src p = each-token made each-made (marks_left g src p)

pub operands-made : (g : Signs) (src : List ℕ) (glued : Bool) (p : Spot) → every made (operands_left g src glued p) ≡ true
unfolding operands_left
operands-made g src glued p = gaps-made glued (tokens_left g src p) (left-made g src p)

pub token-made : (g : Signs) (src : List ℕ) (q : Spot) {t : Tok} → TokenIs g src q t → made (token_there g src q) ≡ true
token-made g src q {t} v =
    every-head made (token_there g src q) (tokens_left g src t.next) (ap (λ (ts : List Token). every made ts) (sym v.first) ∙ left-made g src q)

-- ## What it says of a token

-- a token of its parts
parts : (t : Token) (k : ℕ) (x : List ℕ) (ns : List (List ℕ)) → t.kind ≡ k → t.text ≡ x → t.names ≡ ns → t ≡ token k x ns
parts t k x ns a b c =
    ap (λ (z : ℕ). token z t.text t.names) a ∙ ap (λ (z : List ℕ). token k z t.names) b ∙ ap (λ (z : List (List ℕ)). token k x z) c

module _ (t : Token) (h : made t ≡ true) where
  pub made-semi : t.kind ≡ semi → t ≡ separator
  made-semi e =
      let z : (eqb (length t.names) 0 && leb (length t.text) 0) ≡ true = rw e at h in
      let n = eqb-true (length t.names) 0 (and_left (eqb (length t.names) 0) (leb (length t.text) 0) z) in
      let x = leb-true (length t.text) 0 (and_right (eqb (length t.names) 0) (leb (length t.text) 0) z) in
      parts t semi [] [] e (length-zero t.text (omega arith)) (length-zero t.names n)

  -- what is neither a name nor quotes has no names
  pub made-nameless : is_names t ≡ false → t.names ≡ []
  made-nameless e =
      let x = eqb t.kind word || leb (length t.text) (most t.kind) in
      let z : (eqb (length t.names) 0 && x) ≡ true = rw e at h in
      length-zero t.names (eqb-true (length t.names) 0 (and_left (eqb (length t.names) 0) x z))

  -- and, unless it is a word, one byte at most
  pub made-short : is_names t ≡ false → eqb t.kind word ≡ false → length t.text ≤ 1
  made-short e k =
      let x = leb (length t.text) (most t.kind) in
      let z : (eqb (length t.names) 0 && x) ≡ true = rw (e, k) at h in
      let y = leb-true (length t.text) (most t.kind) (and_right (eqb (length t.names) 0) x z) in
      let w : most t.kind ≤ 1 = cond_both (λ (n : ℕ). n ≤ 1) (leb t.kind comma) (omega arith) (omega arith) in
      omega arith
