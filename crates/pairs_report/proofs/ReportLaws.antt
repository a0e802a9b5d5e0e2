-- What is still to be printed: how it changes with the next bytes, and that 4,097 bytes of a text decide it.
use mathlib.Core.Path.{◌≡◌, refl, sym, ap, ◌∙◌}
use mathlib.Core.Bool.{true, false}
use mathlib.Core.List.{List, [], ◌∷◌, ◌++◌, map, append-nil, append_assoc}
use Prim.Native.Nat.{ℕ, zero, suc, ◌+◌, ◌<◌}
use native.Mathlib.Omega.{arith}
use lib.ListN.{length, take}
use lib.Seq.{take_all, length-take-le}
use lib.Dec.{eqb, ltb}
use borrow.Author.Tests.{lt-ltb, ltb-true, ltb-false}
use Rattle.base_lists.proofs.Bools.{by}
use Rattle.rules.specs.Meaning.{Meaning}
use Rattle.rules.specs.Coding.{decode_of}
use Rattle.rules.specs.Pairs.{texts_from, text_of, pair_line, pair_lines}
use Rattle.pairs_report.specs.Feeding.{plain, report_from, ended_line}

-- ## Texts

texts-feed : (text bs : List ℕ) (b : ℕ) → eqb b 10 ≡ true → texts_from text (b ∷ bs) ≡ text ∷ texts_from [] bs
unfolding texts_from
texts-feed [] bs b t = rw t
texts-feed (c ∷ text) bs b t = rw t

texts-byte : (text bs : List ℕ) (b : ℕ) → eqb b 10 ≡ false → texts_from text (b ∷ bs) ≡ texts_from (text ++ b ∷ []) bs
unfolding texts_from
texts-byte [] bs b t = rw t
texts-byte (c ∷ text) bs b t = rw t

texts-run : (text xs ys : List ℕ) → texts_from text (plain xs ++ ys) ≡ texts_from (text ++ plain xs) ys
unfolding plain
texts-run text [] ys = ap (λ (t : List ℕ). texts_from t ys) (sym (append-nil text))
texts-run text (b ∷ xs) ys =
    by (eqb b 10)
    (λ t. rw t (ap (λ (x : List ℕ). texts_from x ys) (sym (append-nil text))))
    (λ t. rw t (texts-byte text (plain xs ++ ys) b t ∙ texts-run (text ++ b ∷ []) xs ys
    ∙ ap (λ (x : List ℕ). texts_from x ys) (append_assoc text (b ∷ []) (plain xs))))

-- ## 4,097 bytes decide

-- a text that is too long is refused, whatever its bytes
text-cap : (area text : List ℕ) → text_of area (take 4097 text) ≡ text_of area text
unfolding decode_of
text-cap area text =
    by (ltb 4097 (length text))
    (λ t. let h : 4097 < length text = ltb-true 4097 (length text) t in
    let l : length (take 4097 text) ≡ 4097 = length-take-le 4097 text (omega arith) in
    rw (lt-ltb 4096 (length (take 4097 text)) (omega (arith, l)), lt-ltb 4096 (length text) (omega arith)))
    (λ t. ap (text_of area) (take_all 4097 text (ltb-false 4097 (length text) t)))

take_again : (n : ℕ) (xs ys : List ℕ) → take n (take n xs ++ ys) ≡ take n (xs ++ ys)
take_again zero xs ys = refl
take_again (suc n) [] ys = refl
take_again (suc n) (x ∷ xs) ys = ap (λ (r : List ℕ). x ∷ r) (take_again n xs ys)

texts-cap : (area bs text : List ℕ) → map (text_of area) (texts_from (take 4097 text) bs) ≡ map (text_of area) (texts_from text bs)
unfolding texts_from
texts-cap area [] [] = refl
texts-cap area [] (c ∷ text) = ap (λ x. x ∷ []) (text-cap area (c ∷ text))
texts-cap area (b ∷ bs) text =
    let short : List ℕ = take 4097 text in
    by (eqb b 10)
    (λ t. ap (map (text_of area)) (texts-feed short bs b t) ∙ ap (λ x. x ∷ map (text_of area) (texts_from [] bs)) (text-cap area text)
    ∙ ap (map (text_of area)) (sym (texts-feed text bs b t)))
    (λ t. ap (map (text_of area)) (texts-byte short bs b t) ∙ sym (texts-cap area bs (short ++ b ∷ []))
    ∙ ap (λ (x : List ℕ). map (text_of area) (texts_from x bs)) (take_again 4097 text (b ∷ []))
    ∙ texts-cap area bs (text ++ b ∷ []) ∙ ap (map (text_of area)) (sym (texts-byte text bs b t)))

-- ## The report

module _ (m : Meaning) (area : List ℕ) where
  pub report-cap : (n : ℕ) (last text bs : List ℕ) → report_from m area n last (take 4097 text) bs ≡ report_from m area n last text bs
  unfolding report_from
  report-cap zero last text bs = rw (texts-cap area bs text)
  report-cap (suc n) last text bs = rw (texts-cap area bs text)

  pub report-run : (n : ℕ) (last text xs ys : List ℕ) → report_from m area n last text (plain xs ++ ys) ≡ report_from m area n last (text ++ plain xs) ys
  unfolding report_from
  report-run zero last text xs ys = rw (texts-run text xs ys)
  report-run (suc n) last text xs ys = rw (texts-run text xs ys)

  pub report-feed : (n : ℕ) (last text bs : List ℕ)
      → report_from m area n last text (10 ∷ bs) ≡ ended_line m area n last text ++ report_from m area (suc n) text [] bs
  unfolding report_from ended_line pair_lines
  report-feed zero last text bs = rw (texts-feed text bs 10 refl)
  report-feed (suc n) last text bs = rw (texts-feed text bs 10 refl)

  pub report-none : (n : ℕ) (last : List ℕ) → report_from m area n last [] [] ≡ []
  unfolding report_from texts_from pair_lines
  report-none zero last = refl
  report-none (suc n) last = refl

  pub report-last : (n : ℕ) (last text : List ℕ) → (length text ≡ 0 → ⊥) → report_from m area n last text [] ≡ ended_line m area n last text
  unfolding report_from ended_line texts_from pair_lines
  report-last n last [] h = absurd (h refl)
  report-last zero last (c ∷ text) h = refl
  report-last (suc n) last (c ∷ text) h = append-nil (pair_line m (suc n) (text_of area last) (text_of area (c ∷ text)))
