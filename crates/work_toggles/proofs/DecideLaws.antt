-- The decision for one more toggle: between its word and that of its candidate.
use mathlib.Core.Path.{◌≡◌, refl, sym, ap, ◌∙◌, subst}
use mathlib.Core.Bool.{true, false}
use mathlib.Core.List.{List}
use Prim.Native.Nat.{ℕ, ◌+◌, ◌/◌, ◌≤◌, ◌<◌}
use native.Mathlib.Omega.{arith}
use lib.ListN.{length, get_or}
use lib.Dec.{eqb}
use borrow.Author.Tests.{eqb-true, eqb-false}
use Rattle.base_lists.proofs.Bools.{by, clash, cond-true, cond_both}
use Rattle.rules.specs.Conditionals.{is_toggle}
use Rattle.rules.proofs.TextLaws.{one_of-get_d, same_refl}
use Rattle.text_lines.specs.declared.Signs.{Signs}
use Rattle.text_lines.specs.declared.Spot.{Spot}
use Rattle.text_lines.specs.Stream.{line_start}
use Rattle.work_toggles.specs.declared.Parting.{Parting}
use Rattle.work_toggles.specs.Candidates.{decision_for, takes, candidate, Parts}
use Rattle.work_toggles.specs.Kept.{word_left, word_of, toggle_at, toggles_in, no_toggle, IsNew, Decides}
use Rattle.work_toggles.proofs.CandidateLaws.{candidate-few, candidate-none, proper-alike, decision-takes, decision-other, decision-leaves}
use Rattle.work_toggles.proofs.AreaLaws.{toggles-length, toggles-get_d}

-- a toggle has its own word
word-own : (g : Signs) (src : List ℕ) (v : ℕ) → is_toggle (word_of g src v) (toggle_at g src v) ≡ true
unfolding is_toggle toggle_at
word-own g src v = same_refl (word_of g src v)

module _ {g : Signs} {src work : List ℕ} {base n : ℕ} {q : Spot} (k : IsNew g src work base n q) {c : ℕ} (e : c ≡ candidate (word_left g src q) work (base + 16) n) where
  -- the first needs none
  pub decide-first : n ≤ c → Decides g src work base n (word_left g src q) 0
  decide-first h =
      let w = word_left g src q in
      let z : n ≡ 0 = by (eqb n 0) (λ t. eqb-true n 0 t) (λ t. let f = eqb-false n 0 t in let l = candidate-few w work (base + 16) n (omega (arith, f)) in absurd (omega arith)) in
      record {
        own = cond_both (λ (x : ℕ). x ≡ n) (takes w (candidate w work (base + 16) n) 0) refl (candidate-none w work (base + 16) n z);
        others = λ i l. absurd (omega arith);
      }

  module _ (h : c < n) where
    -- the candidate's word is another
    not_alike : word_left g src q ≡ word_of g src (get_or work (base + c) 0) → ⊥
    not_alike f =
        let l = toggles-length g k.kept in
        let v = get_or work (base + c) 0 in
        let own : is_toggle (word_left g src q) (toggle_at g src v) ≡ true = ap (λ (x : List ℕ). is_toggle x (toggle_at g src v)) f ∙ word-own g src v in
        clash (one_of-get_d (is_toggle (word_left g src q)) (toggles_in g src work base n) c no_toggle (omega arith) (ap (is_toggle (word_left g src q)) (toggles-get_d g k.kept c h) ∙ own))
        k.other

    module _ {p : Spot} (f : p ≡ line_start (get_or work (base + c) 0 / 2)) where
      pub decide-inside : p.at ≤ length src
      decide-inside = rw f (k.kept.inside c h)

      module _ {m : Parting} (v : Parts (word_left g src q) (word_left g src p) m) (b : m.byte < 256) where
        -- the candidate's word has another byte there
        other_byte : get_or (word_of g src (get_or work (base + c) 0)) m.at 0 ≡ m.byte → ⊥
        other_byte y =
            let x : word_left g src p ≡ word_of g src (get_or work (base + c) 0) = ap (word_left g src) f in
            let same = v.apart (v.byte ∙ sym y ∙ ap (λ (z : List ℕ). get_or z m.at 0) (sym x)) in
            not_alike (proper-alike k.proper (k.kept.proper c h) (λ i l. same i l ∙ ap (λ (z : List ℕ). get_or z i 0) x))

        pub decide_by : {d : ℕ} → d ≡ decision_for c m → Decides g src work base n (word_left g src q) d
        decide_by s =
            let w = word_left g src q in
            let mine : takes w (candidate w work (base + 16) n) (decision_for c m) ≡ true = rw (← e) (decision-takes c m v.below b w v.byte) in
            rw s
            (record {
              own = cond-true n (candidate w work (base + 16) n) mine;
              others = λ i l.
                  by (eqb c i)
                  (λ t. subst (λ (j : ℕ). takes (word_of g src (get_or work (base + j) 0)) j (decision_for c m) ≡ false) (eqb-true c i t)
                  (decision-leaves c m v.below b (word_of g src (get_or work (base + c) 0)) c other_byte))
                  (λ t. decision-other c m v.below b (word_of g src (get_or work (base + i) 0)) i (eqb-false c i t));
            })
