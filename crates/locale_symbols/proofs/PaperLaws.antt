-- For callers: what is declared in the area and what the paper has declared go together, and the line's refusal is the paper's.
use mathlib.Core.Path.{◌≡◌, refl, sym, ap, ◌∙◌}
use mathlib.Core.Logic.{inr}
use mathlib.Core.Bool.{Bool, true, false, ◌||◌}
use mathlib.Core.List.{List, [], ◌∷◌}
use Prim.Native.Nat.{ℕ}
use Rattle.base_lists.proofs.Bools.{by}
use Rattle.rules.specs.Text.{one_of, same, ◌unless◌, lower, lowest}
use Rattle.rules.specs.Tokens.{Token, token_at, the_name, tokens_refusal}
use Rattle.rules.specs.State.{Declaration, symbol, element, character, named, State}
use Rattle.rules.specs.OrderLines.{same_subject}
use Rattle.rules.specs.Declarations.{declares, declares_chars, is_new, may_declare, symbol_line}
use Rattle.rules.proofs.TextLaws.{same_true, same_refl, same-swap-false}
use Rattle.rules.proofs.RefusalLaws.{bounded-lowest, bounded-unless}
use Rattle.work_subjects.specs.Keys.{Key, item, chars, same_key}
use Rattle.work_store.specs.Store.{Decl, known_in, fresh}
use Rattle.work_store.proofs.ListLaws.{first-none, first-fresh-same, first-fresh-other}
use Rattle.locale_symbols.specs.Symbols.{is_new_in, Alike, symbol_refusal}
use Rattle.locale_symbols.proofs.UnfitLaws.{unfit-three}

-- ## What is declared

pub known-none : (k : Key) → known_in k [] ≡ false
unfolding known_in
known-none k = rw (first-none k)

-- after a declaration more
pub known-fresh : (key : ℕ → Key) (v : ℕ) (ds : List Decl) (k : Key) → known_in k (fresh key v ∷ ds) ≡ (same_key (key v) k || known_in k ds)
unfolding known_in
known-fresh key v ds k =
    by (same_key (key v) k) (λ t. rw (first-fresh-same key v ds k t, t)) (λ t. rw (first-fresh-other key v ds k t, t))

same-swap : (xs ys : List ℕ) → same xs ys ≡ same ys xs
same-swap xs ys =
    by (same xs ys) (λ t. t ∙ sym (rw (same_true xs ys t) (same_refl ys))) (λ t. t ∙ sym (same-swap-false xs ys t))

-- nothing
pub alike-none : Alike [] []
unfolding one_of
alike-none = record { names = λ n. known-none (item (named n)); elements = λ xs. known-none (chars xs) }

-- the same, of a declaration with its key
known_more : (d : Decl) (ds : List Decl) (k : Key) → known_in k (d ∷ ds) ≡ (same_key d.key k || known_in k ds)
known_more d ds k = known-fresh (λ (x : ℕ). d.key) d.place ds k

module _ (d : Decl) {ds : List Decl} {cs : List Declaration} (h : Alike ds cs) where
  -- a symbol
  pub alike-symbol : {n : List ℕ} → d.key ≡ item (named n) → Alike (d ∷ ds) (symbol n ∷ cs)
  unfolding one_of declares declares_chars same_key same_subject
  alike-symbol {n} e =
      record {
        names = λ m. known_more d ds (item (named m)) ∙ rw (e, h.names m, same-swap n m);
        elements = λ xs. known_more d ds (chars xs) ∙ rw e (h.elements xs);
      }

  -- an element: its name, and its characters
  pub alike-element : (f : Decl) {n xs : List ℕ} → d.key ≡ item (named n) → f.key ≡ chars xs → Alike (f ∷ d ∷ ds) (element n xs ∷ cs)
  unfolding one_of declares declares_chars same_key same_subject
  alike-element f {n} {xs} e i =
      record {
        names = λ m. known_more f (d ∷ ds) (item (named m)) ∙ rw i (known_more d ds (item (named m)) ∙ rw (e, h.names m, same-swap n m));
        elements = λ ys. known_more f (d ∷ ds) (chars ys)
            ∙ rw (i, same-swap xs ys) (ap (λ (b : Bool). same ys xs || b) (known_more d ds (chars ys) ∙ rw e (h.elements ys)));
      }

  -- a character with its order line
  pub alike-character : {c : ℕ} → d.key ≡ item (character c) → Alike (d ∷ ds) cs
  unfolding same_key same_subject
  alike-character e =
      record {
        names = λ m. known_more d ds (item (named m)) ∙ rw e (h.names m);
        elements = λ xs. known_more d ds (chars xs) ∙ rw e (h.elements xs);
      }

-- ## The line

-- whether a name is new
pub new-paper : (ds : List Decl) (cs : List Declaration) (n : List ℕ) → Alike ds cs → is_new_in ds n ≡ is_new cs n
unfolding is_new_in is_new
new-paper ds cs n h = rw (h.names n)

module _ (s : State) (os : List Token) where
  -- where a declaration may stand
  pub symbol-paper : (ds : List Decl) → Alike ds s.declared → may_declare s ≡ true
      → symbol_refusal ds os ≡ lower (tokens_refusal os) (symbol_line s os).refusal
  unfolding symbol_refusal symbol_line
  symbol-paper ds h p = rw (p, new-paper ds s.declared (the_name (token_at os 0)) h)

  -- anywhere else
  pub symbol-misplaced : may_declare s ≡ false → lower (tokens_refusal os) (symbol_line s os).refusal ≡ 3
  unfolding symbol_line lowest
  symbol-misplaced p =
      let b = is_new s.declared (the_name (token_at os 0)) in
      rw p (unfit-three os false (lowest (5 unless b ∷ [])) (bounded-lowest 3 7 (5 unless b ∷ []) (bounded-unless 3 7 5 b refl, tt)) (inr refl))
