-- Whether names stand: one name, the names in quotes one after the other, and those of a token.
use Rattle.std.specs.Prelude.{None, Option, Some, ℕ, is_some}
use mathlib.Core.Path.{◌≡◌, refl, sym, ap, ◌∙◌, subst}
use mathlib.Core.Bool.{Bool, true, false, ◌&&◌}
use mathlib.Core.List.{List, [], ◌∷◌, map}
use Prim.Native.Nat.{ℕ, ◌*◌, ◌≤◌, ◌<◌}
use native.Mathlib.Omega.{arith}
use lib.ListN.{length}
use borrow.Author.Tests.{ne_eqb}
use Rattle.rules.specs.Text.{every, one_of}
use Rattle.rules.specs.Names.{is_character}
use Rattle.rules.specs.Lines.{quoted}
use Rattle.rules.specs.State.{Subject, character, named}
use Rattle.rules.specs.OrderLines.{subject_of}
use Rattle.rules.proofs.TextLaws.{one_of-head-false, one_of-tail-false}
use Rattle.base_units.specs.declared.Refusal.{Refusal}
use Rattle.text_lines.specs.declared.Signs.{Signs}
use Rattle.text_lines.specs.declared.Spot.{Spot}
use Rattle.text_lines.specs.Stream.{marks_left}
use Rattle.text_lines.proofs.ByteLaws.{after-inner-close}
use Rattle.text_tokens.specs.declared.Tok.{Tok}
use Rattle.text_tokens.specs.Left.{is_close, is_inside, after_name, names_from, names_in, NameEnds, ClosingIs}
use Rattle.base_units.specs.declared.CodePoint.{CodePoint}
use Rattle.text_names.specs.Named.{name_left, CharIs, CodeIs, NameAt, NamedIs}
use Rattle.work_subjects.specs.Keys.{Key, item, key_at, subject_left}
use Rattle.work_subjects.proofs.SpotLaws.{key_at-inside}
use Rattle.work_store.specs.Store.{Decl, first, is_found, Holds, Finds}
use Rattle.locale_standing.specs.Standing.{stands_in, Stands, AllStand, names_of, Inside}

-- ## One name

subject-char : (n : List ℕ) {c : ℕ} → CharIs n c → subject_of n ≡ character c
unfolding subject_of
subject-char n v = rw (v.shaped, v.code)

subject-named : (n : List ℕ) → CodeIs n None → subject_of n ≡ named n
unfolding subject_of
subject-named n e = rw e

some_found : (f : Option ℕ) → is_some f ≡ is_found f
some_found None = refl
some_found (Some m) = refl

module _ (g : Signs) (src w : List ℕ) (p : Spot) {c : Option CodePoint} (v : CodeIs (name_left g src p) c) where
  pub stands_char : {x : CodePoint} {r : Bool} → c ≡ Some x → r ≡ is_character x.0 → Stands g src w p r
  unfolding stands_in
  stands_char {x} {r} e f =
      let z : CharIs (name_left g src p) x.0 = subst (CodeIs (name_left g src p)) e v in
      record { is = λ n ds h. f ∙ sym (ap (λ (s : Subject). stands_in ds s) (subject-char (name_left g src p) z)) }

  module _ (e : c ≡ None) (i : is_inside p.mode ≡ true) {f : Option ℕ} (k : Finds (key_at g src) (length src) w (key_at g src (2 * p.at)) f) where
    found : (n : ℕ) (ds : List Decl) → Holds (key_at g src) (length src) w n ds → is_found f ≡ stands_in ds (subject_left g src p)
    unfolding stands_in
    found n ds h =
        let z : subject_left g src p ≡ named (name_left g src p) = subject-named (name_left g src p) (subst (CodeIs (name_left g src p)) e v) in
        ap is_found (k.is n ds h)
        ∙ ap (λ (x : Key). is_found (first x ds)) (key_at-inside g src p i ∙ ap item z)
        ∙ sym (ap (λ (s : Subject). stands_in ds s) z)

    pub stands-found : {t : Bool} → t ≡ is_some f → Stands g src w p t
    stands-found a = record { is = λ n ds h. a ∙ some_found f ∙ found n ds h }

-- ## The names in quotes

-- nothing comes after a name that is left open
open_none : (ms : List ℕ) → one_of is_close ms ≡ false → after_name ms ≡ []
unfolding after_name
open_none [] h = refl
open_none (m ∷ ms) h =
    let s = one_of-head-false is_close m ms h in
    let r = open_none ms (one_of-tail-false is_close m ms h) in
    rw (s, r)

no_names : names_in [] ≡ []
unfolding names_from
no_names = refl

-- All names before q stand, if those from q on do.
pub record Standing (g : Signs) (src w : List ℕ) (p q : Spot) : Type 0 where
  pub rest : (n : ℕ) (ds : List Decl) → Holds (key_at g src) (length src) w n ds
      → every (stands_in ds) (map subject_of (names_in (marks_left g src p))) ≡ every (stands_in ds) (map subject_of (names_in (marks_left g src q)))
  pub mode : q.mode ≡ quoted
  pub to : q.at ≤ length src

pub standing-none : (g : Signs) (src w : List ℕ) (p : Spot) → p.at ≤ length src → p.mode ≡ quoted → Standing g src w p p
standing-none g src w p h m = record { rest = λ n ds k. refl; mode = m; to = h }

module _ (g : Signs) (src w : List ℕ) (p q : Spot) (v : Standing g src w p q) {n : Option Spot} (a : NamedIs g src q n) where
  pub standing-end : n ≡ None → AllStand g src w (names_in (marks_left g src p)) true
  unfolding every
  standing-end e =
      let z : names_in (marks_left g src q) ≡ [] = subst (NamedIs g src q) e a in
      record { is = λ m ds h. sym (v.rest m ds h ∙ ap (λ (ns : List (List ℕ)). every (stands_in ds) (map subject_of ns)) z) }

  module _ {r : Spot} (e : n ≡ Some r) where
    there : NameAt g src q r
    there = subst (NamedIs g src q) e a

    pub standing-to : r.at ≤ length src
    standing-to = there.to

    pub standing-inside : is_inside r.mode ≡ true
    standing-inside = rw (there.mode v.mode)

    module _ {b : Bool} (s : Stands g src w r b) where
      -- the names are this one and those after it
      one_more : (m : ℕ) (ds : List Decl) → Holds (key_at g src) (length src) w m ds
          → every (stands_in ds) (map subject_of (names_in (marks_left g src p))) ≡ (b && every (stands_in ds) (map subject_of (names_in (after_name (marks_left g src r)))))
      unfolding every
      one_more m ds h =
          v.rest m ds h
          ∙ ap (λ (ns : List (List ℕ)). every (stands_in ds) (map subject_of ns)) there.names
          ∙ ap (λ (x : Bool). x && every (stands_in ds) (map subject_of (names_in (after_name (marks_left g src r))))) (sym (s.is m ds h))

      pub standing-not : b ≡ false → AllStand g src w (names_in (marks_left g src p)) false
      standing-not f = record { is = λ m ds h. sym (one_more m ds h ∙ rw f) }

      module _ (f : b ≡ true) {c : Option (Option Refusal × Spot)} (x : ClosingIs g src r c) where
        pub standing-open : c ≡ None → AllStand g src w (names_in (marks_left g src p)) true
        unfolding every
        standing-open k =
            let z : after_name (marks_left g src r) ≡ [] = open_none (marks_left g src r) (subst (ClosingIs g src r) k x) in
            record { is = λ m ds h. sym (one_more m ds h ∙ rw (f, z, no_names)) }

        module _ {u : Option Refusal} {d : Spot} (k : c ≡ Some (u, d)) where
          ends : NameEnds g src r u d
          ends = subst (ClosingIs g src r) k x

          pub standing-more : Standing g src w p d
          standing-more =
              record {
                rest = λ m ds h. one_more m ds h ∙ rw (f, ends.after);
                mode = ends.mode ∙ sym (after-inner-close (there.mode v.mode) refl);
                to = ends.to;
              }

          pub standing-less : length (names_in (marks_left g src d)) < length (names_in (marks_left g src q))
          standing-less = rw (there.names, ends.after) (omega arith)

-- ## The names of a token

module _ (g : Signs) (src w : List ℕ) (t : Tok) where
  pub all_one : {r : Bool} → t.kind ≡ 5 → Stands g src w t.inside r → AllStand g src w (names_of g src t) r
  unfolding names_of every
  all_one {r} k v = record { is = λ n ds h. v.is n ds h ∙ rw k (sym (and-true (stands_in ds (subject_left g src t.inside)))) }
    where
      and-true : (a : Bool) → (a && true) ≡ a
      and-true true = refl
      and-true false = refl

  pub all-quoted : {r : Bool} → t.kind ≡ 6 → AllStand g src w (names_in (marks_left g src t.inside)) r → AllStand g src w (names_of g src t) r
  unfolding names_of
  all-quoted {r} k v = record { is = λ n ds h. v.is n ds h ∙ rw k }

  pub all_none : (t.kind ≡ 5 → ⊥) → (t.kind ≡ 6 → ⊥) → AllStand g src w (names_of g src t) true
  unfolding names_of every
  all_none a b = record { is = λ n ds h. sym (rw (ne_eqb t.kind 5 a, ne_eqb t.kind 6 b)) }

module _ (src : List ℕ) (t : Tok) (v : Inside (length src) t) where
  pub inside-to : t.inside.at ≤ length src
  inside-to = v.to

  pub inside-name : t.kind ≡ 5 → is_inside t.inside.mode ≡ true
  inside-name k = rw (v.name-mode k)

  pub inside-quotes : t.kind ≡ 6 → t.inside.mode ≡ quoted
  inside-quotes k = v.quote-mode k
