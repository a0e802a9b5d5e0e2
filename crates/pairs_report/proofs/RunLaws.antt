-- A run of a piece, the bytes before the first LF: where it ends, and the loop that keeps it.
use mathlib.Core.Path.{◌≡◌, refl, ap, ◌∙◌}
use mathlib.Core.List.{List, [], ◌∷◌, ◌++◌}
use Prim.Native.Nat.{ℕ, zero, suc, ◌+◌, ◌-◌, ◌≤◌, ◌<◌}
use native.Mathlib.Numerals.{add-one}
use native.Mathlib.Omega.{arith}
use lib.ListN.{length, length-drop, get_or, take, drop, set, length-set, drop_of_length-le}
use lib.Seq.{drop-cons, take-nil, length-sets}
use lib.Dec.{eqb}
use borrow.Author.Tests.{eqb-true, eq-eqb, ne_eqb}
use Rattle.base_lists.proofs.Bools.{by}
use Rattle.order_keys.proofs.PutLaws.{Putting, putting-none, putting-more, putting-all}
use Rattle.pairs_report.specs.Feeding.{plain, KeepsByte, TakesRun}

-- ## The run

plain-feed : (xs : List ℕ) (b : ℕ) → b ≡ 10 → plain (b ∷ xs) ≡ []
unfolding plain
plain-feed xs b e = rw (eq-eqb b 10 e)

plain_byte : (xs : List ℕ) (b : ℕ) → (b ≡ 10 → ⊥) → plain (b ∷ xs) ≡ b ∷ plain xs
unfolding plain
plain_byte xs b n = rw (ne_eqb b 10 n)

pub plain-short : (xs : List ℕ) → length (plain xs) ≤ length xs
unfolding plain
plain-short [] = omega arith
plain-short (b ∷ xs) = by (eqb b 10) (λ t. rw t (omega arith)) (λ t. rw t (omega (arith, plain-short xs)))

-- the run, and what stands behind it
pub plain-split : (xs : List ℕ) → xs ≡ plain xs ++ drop (length (plain xs)) xs
unfolding plain
plain-split [] = refl
plain-split (b ∷ xs) = by (eqb b 10) (λ t. rw t refl) (λ t. rw t (ap (λ (r : List ℕ). b ∷ r) (plain-split xs)))

-- where something stands behind it, that is LF
pub plain-ended : (xs : List ℕ) → length (plain xs) < length xs → drop (length (plain xs)) xs ≡ 10 ∷ drop (suc (length (plain xs))) xs
unfolding plain
plain-ended [] = λ h. absurd (omega arith)
plain-ended (b ∷ xs) =
    by (eqb b 10)
    (λ t. rw t (λ h. ap (λ (c : ℕ). c ∷ xs) (eqb-true b 10 t)))
    (λ t. rw t (λ h. plain-ended xs (omega arith)))

-- ## keep_byte

module _ (room : List ℕ) (n b : ℕ) where
  pub byte-kept : n < length room → KeepsByte room n b (set room n b) (n + 1)
  byte-kept h =
      let e : length room - n ≡ suc (length room - n - 1) = omega arith in
      let one : take (length room - n) (b ∷ []) ≡ b ∷ [] = rw (e, take-nil {A = ℕ} (length room - n - 1)) in
      record { puts = rw one (record { is = refl; to = omega arith }); inside = omega (arith, length-set room n b) }

  pub byte-lost : length room ≤ n → n ≤ length room → KeepsByte room n b room n
  byte-lost h k =
      let e : length room - n ≡ 0 = omega arith in
      record { puts = rw e (record { is = refl; to = omega arith }); inside = k }

-- ## take_run

-- of k bytes, the first and the others
take-one : (k b : ℕ) (xs : List ℕ) → take k (b ∷ xs) ≡ take k (b ∷ []) ++ take (k - length (take k (b ∷ []))) xs
take-one zero b xs = refl
take-one (suc k) b xs =
    let e : suc k - 1 ≡ k = omega arith in
    rw (take-nil {A = ℕ} k, e)

-- the bytes from i on are still to be kept, as far as there is room
pub record Taking (piece : List ℕ) (from : ℕ) (current₀ : List ℕ) (len : ℕ) (current : List ℕ) (i n : ℕ) : Type 0 where
  pub putting : Putting current₀ len (take (length current₀ - len) (plain (drop from piece))) current n (take (length current - n) (plain (drop i piece)))
  pub to : i + length (plain (drop i piece)) ≡ from + length (plain (drop from piece))
  pub inside : n ≤ length current

pub taking-none : (piece : List ℕ) (from : ℕ) (current : List ℕ) (len : ℕ) → len ≤ length current → Taking piece from current len current from len
taking-none piece from current len h = record {
  putting = putting-none current len (take (length current - len) (plain (drop from piece)));
  to = refl;
  inside = h;
}

module _ {piece : List ℕ} {from : ℕ} {current₀ : List ℕ} {len : ℕ} {current : List ℕ} {i n : ℕ} (v : Taking piece from current₀ len current i n) where
  pub taking-more : {after : List ℕ} {next : ℕ} → i < length piece → (get_or piece i 0 ≡ 10 → ⊥) → KeepsByte current n (get_or piece i 0) after next
      → Taking piece from current₀ len after (i + 1) next
  taking-more {after} {next} h b w =
      let x : ℕ = get_or piece i 0 in
      let front : List ℕ = take (length current - n) (x ∷ []) in
      let rest : List ℕ = plain (drop (i + 1) piece) in
      let whole : plain (drop i piece) ≡ x ∷ rest = rw (add-one i, drop-cons piece i 0 h) (plain_byte (drop (suc i) piece) x b) in
      let long : length after ≡ length current = ap length w.puts.is ∙ length-sets current n front in
      let k : length current - n - length front ≡ length after - next = omega (arith, long, w.puts.to) in
      let parts : take (length current - n) (plain (drop i piece)) ≡ front ++ take (length after - next) rest =
      ap (take (length current - n)) whole ∙ take-one (length current - n) x rest ∙ ap (λ (j : ℕ). front ++ take j rest) k in
      record {
        putting = putting-more v.putting front (take (length after - next) rest) parts w.puts;
        to = omega (arith, v.to, ap length whole);
        inside = w.inside;
      }

  taken : plain (drop i piece) ≡ [] → TakesRun piece from current₀ len current (record { at = i; len = n })
  taken e = record {
    puts = putting-all v.putting (ap (take (length current - n)) e ∙ take-nil {A = ℕ} (length current - n));
    inside = v.inside;
    to = omega (arith, v.to, ap length e);
  }

  pub taken-feed : i < length piece → get_or piece i 0 ≡ 10 → TakesRun piece from current₀ len current (record { at = i; len = n })
  taken-feed h b = taken (rw (drop-cons piece i 0 h) (plain-feed (drop (suc i) piece) (get_or piece i 0) b))

  pub taken-all : length piece ≤ i → TakesRun piece from current₀ len current (record { at = i; len = n })
  unfolding plain
  taken-all h = taken (ap plain (drop_of_length-le piece h))

  pub taken-end : from ≤ length piece → length piece ≤ i → TakesRun piece from current₀ len current (record { at = length piece; len = n })
  taken-end k h =
      let e : i ≡ length piece = omega (arith, v.to, plain-short (drop from piece), length-drop from piece) in
      rw e at (taken-all h)
