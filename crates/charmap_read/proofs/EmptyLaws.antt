-- The loop that makes the 512 numbers of a charmap in which nothing is given.
use mathlib.Core.Path.{◌≡◌, refl, sym, ap, ◌∙◌}
use mathlib.Core.List.{List, []}
use Prim.Native.Nat.{ℕ, ◌+◌, ◌-◌, ◌≤◌, ◌<◌}
use native.Mathlib.Omega.{arith}
use lib.ListN.{length, get_or, set, replicate, length-set, length-replicate, get_or-replicate}
use lib.Dec.{eqb, ltb}
use lib.Seq.{get_or-set_same, get_or-set_other, ext_get_or}
use borrow.Author.Tests.{eqb-true, eqb-false, ne_eqb, ltb-true, ltb-false}
use Rattle.base_lists.proofs.Bools.{by}
use Rattle.rules.specs.Charmap.{no_code, code_given, first_byte, encodes, area_of}
use Rattle.rules.proofs.CharmapLaws.{area-length, area-code, area-one}

-- The first i numbers are those of no code, the others zero.
pub record Filled (area : List ℕ) (i : ℕ) : Type 0 where
  pub long : length area ≡ 512
  pub to : i ≤ 256
  pub done : (j : ℕ) → j < i → get_or area j 0 ≡ no_code
  pub left : (j : ℕ) → i ≤ j → j < 512 → get_or area j 0 ≡ 0

pub filled-start : (area : List ℕ) → area ≡ replicate 512 0 → Filled area 0
filled-start area e = record {
  long = ap length e ∙ length-replicate {A = ℕ} 512 0;
  to = omega arith;
  done = λ j h. absurd (omega arith);
  left = λ j h k. ap (λ (a : List ℕ). get_or a j 0) e ∙ get_or-replicate 512 j 0 0 k;
}

-- a byte that nothing gives encodes nothing
no_one : (b : ℕ) → b < 256 → encodes [] b ≡ 0
unfolding encodes first_byte code_given
no_one b h = rw (ne_eqb 256 b (λ e. omega arith))

no-given : (b : ℕ) → code_given [] b ≡ no_code
unfolding code_given
no-given b = refl

module _ {area : List ℕ} {i : ℕ} (v : Filled area i) where
  pub filled_more : i < 256 → Filled (set area i no_code) (i + 1)
  filled_more h =
      let l = v.long in
      record {
        long = length-set area i no_code ∙ v.long;
        to = omega arith;
        done = λ j k. by (eqb j i)
            (λ t. let e = eqb-true j i t in rw e (get_or-set_same area i no_code 0 (omega arith)))
            (λ t. let e = eqb-false j i t in get_or-set_other area i j no_code 0 e ∙ v.done j (omega arith));
        left = λ j k m. get_or-set_other area i j no_code 0 (λ e. omega arith) ∙ v.left j (omega arith) m;
      }

  pub filled-end : 256 ≤ i → area ≡ area_of []
  filled-end h =
      let n = area-length [] in
      let l = v.long in
      let t = v.to in
      ext_get_or 0 area (area_of []) (v.long ∙ sym n) (λ j k. by (ltb j 256)
      (λ b. let m = ltb-true j 256 b in v.done j (omega arith) ∙ sym (area-code [] j 0 m ∙ no-given j))
      (λ b. let m = ltb-false j 256 b in
      let e : 256 + (j - 256) ≡ j = omega arith in
      v.left j (omega arith) (omega arith)
      ∙ sym (ap (λ (x : ℕ). get_or (area_of []) x 0) (sym e) ∙ area-one [] (j - 256) 0 (omega arith) ∙ no_one (j - 256) (omega arith))))
