-- What the name and the quotes of an element are refused for: a law for each answer.
use Rattle.std.specs.Prelude.{None, Option, Some, is_some, ℕ}
use mathlib.Core.Path.{◌≡◌, refl, sym, ap, ◌∙◌}
use mathlib.Core.Bool.{Bool, true, false, not, ◌&&◌}
use mathlib.Core.List.{List, [], ◌∷◌, map}
use Prim.Native.Nat.{ℕ, ◌+◌, ◌*◌, ◌≤◌, ◌<◌}
use native.Mathlib.Omega.{arith}
use lib.ListN.{length, length-map}
use borrow.Author.Tests.{le-leb, lt-leb}
use Rattle.rules.specs.Text.{within, every, ◌unless◌, lower, lowest}
use Rattle.rules.specs.Names.{code_of, is_char_name}
use Rattle.rules.specs.Lines.{quoted}
use Rattle.rules.proofs.TextLaws.{within-intro}
use Rattle.text_lines.specs.declared.Signs.{Signs}
use Rattle.text_lines.specs.declared.Spot.{Spot}
use Rattle.text_lines.specs.Stream.{marks_left}
use Rattle.text_tokens.specs.Left.{names_in}
use Rattle.text_names.specs.Named.{name_left}
use Rattle.work_subjects.specs.Keys.{Key, chars_left, chars, key_at}
use Rattle.work_subjects.proofs.CharsLaws.{chars_of-names}
use Rattle.work_subjects.proofs.SpotLaws.{key_at-quoted}
use Rattle.work_store.specs.Store.{Decl, is_found, known_in, Holds, Finds}
use Rattle.locale_symbols.specs.Symbols.{is_new_in, NewIs}
use Rattle.locale_symbols.proofs.NewLaws.{known_is}
use Rattle.locale_elements.specs.Element.{element_fault, FaultIs}

-- ## By the four tests

fault-by : (ds : List Decl) (n : List ℕ) (ns : List (List ℕ)) {a b k l : Bool} → is_new_in ds n ≡ a → every is_char_name ns ≡ b
    → known_in (chars (map code_of ns)) ds ≡ k → within 2 4 (length (map code_of ns)) ≡ l
    → element_fault ds n ns ≡ lowest (5 unless (a && not (b && k)) ∷ 6 unless b ∷ 7 unless l ∷ [])
unfolding element_fault
fault-by ds n ns e f g h = rw (e, f, g, h)

-- a name that may not be declared
by_name : (b k l : Bool) → lowest (5 unless (false && not (b && k)) ∷ 6 unless b ∷ 7 unless l ∷ []) ≡ 5
unfolding lowest lower
by_name true k true = refl
by_name true k false = refl
by_name false k true = refl
by_name false k false = refl

-- no characters
by_names : (k l : Bool) → lowest (5 unless (true && not (false && k)) ∷ 6 unless false ∷ 7 unless l ∷ []) ≡ 6
unfolding lowest lower
by_names k true = refl
by_names k false = refl

-- the same characters
by-same : (l : Bool) → lowest (5 unless (true && not (true && true)) ∷ 6 unless true ∷ 7 unless l ∷ []) ≡ 5
unfolding lowest lower
by-same true = refl
by-same false = refl

-- new characters
by_length : (l : Bool) → lowest (5 unless (true && not (true && false)) ∷ 6 unless true ∷ 7 unless l ∷ []) ≡ (7 unless l)
unfolding lowest lower
by_length true = refl
by_length false = refl

-- ## What stands at the mark of quotes

pub key-chars : (g : Signs) (src : List ℕ) (s : Spot) → s.mode ≡ quoted → every is_char_name (names_in (marks_left g src s)) ≡ true
    → key_at g src (2 * s.at + 1) ≡ chars (map code_of (names_in (marks_left g src s)))
unfolding chars_left
key-chars g src s m h = key_at-quoted g src s m ∙ ap chars (chars_of-names (names_in (marks_left g src s)) h)

-- what is found
pub found-some : (x : Option ℕ) {t : Bool} → t ≡ is_some x → is_found x ≡ t
found-some None e = sym e
found-some (Some q) e = sym e

-- ## The answers

module _ (g : Signs) (src w : List ℕ) (i s : Spot) {a : Bool} (u : NewIs (key_at g src) (length src) w (name_left g src i) a) where
  -- the names in the quotes
  abbrev names : List (List ℕ)
  names = names_in (marks_left g src s)

  abbrev short : Bool
  short = within 2 4 (length (map code_of (names_in (marks_left g src s))))

  pub fault-name : a ≡ false → FaultIs g src w i s 5
  fault-name h =
      record {
        is = λ m ds o.
            fault-by ds (name_left g src i) names (sym (u.is m ds o) ∙ h) refl refl refl
            ∙ by_name (every is_char_name names) (known_in (chars (map code_of names)) ds) short;
      }

  module _ (h : a ≡ true) {b : Bool} (f : b ≡ every is_char_name (names_in (marks_left g src s))) where
    pub fault-names : b ≡ false → FaultIs g src w i s 6
    fault-names k =
        record {
          is = λ m ds o.
              fault-by ds (name_left g src i) names (sym (u.is m ds o) ∙ h) (sym f ∙ k) refl refl
              ∙ by_names (known_in (chars (map code_of names)) ds) short;
        }

    module _ (k : b ≡ true) (mode : s.mode ≡ quoted) {x : Option ℕ} (d : Finds (key_at g src) (length src) w (key_at g src (2 * s.at + 1)) x) where
      known : (m : ℕ) (ds : List Decl) → Holds (key_at g src) (length src) w m ds → known_in (chars (map code_of names)) ds ≡ is_found x
      known m ds o = ap (λ (z : Key). known_in z ds) (sym (key-chars g src s mode (sym f ∙ k))) ∙ known_is d m ds o

      pub fault-same : is_found x ≡ true → FaultIs g src w i s 5
      fault-same e =
          record {
            is = λ m ds o.
                fault-by ds (name_left g src i) names (sym (u.is m ds o) ∙ h) (sym f ∙ k) (known m ds o ∙ e) refl
                ∙ by-same short;
          }

      module _ (e : is_found x ≡ false) {n : ℕ} (c : length (names_in (marks_left g src s)) ≡ n) where
        many : length (map code_of names) ≡ n
        many = length-map names code_of ∙ c

        by-many : (l : Bool) → within 2 4 n ≡ l → (r : ℕ) → (7 unless l) ≡ r → FaultIs g src w i s r
        by-many l z r y =
            record {
              is = λ m ds o.
                  fault-by ds (name_left g src i) names (sym (u.is m ds o) ∙ h) (sym f ∙ k) (known m ds o ∙ e) (ap (within 2 4) many ∙ z)
                  ∙ by_length l ∙ y;
            }

        pub fault-short : n < 2 → FaultIs g src w i s 7
        fault-short l = by-many false (rw (lt-leb 2 n l)) 7 refl

        pub fault-long : 4 < n → FaultIs g src w i s 7
        fault-long l = by-many false (rw (le-leb 2 n (omega arith), lt-leb n 4 l)) 7 refl

        pub fault-none : 2 ≤ n → n ≤ 4 → FaultIs g src w i s 0
        fault-none l j = by-many true (within-intro 2 4 n l j) 0 refl
