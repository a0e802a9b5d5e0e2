-- Marks that are a word and blanks, as those of a line outside every category may be up to the byte that is taken as it stands.
use mathlib.Core.Path.{◌≡◌, refl, sym, ap, ◌∙◌}
use mathlib.Core.Bool.{Bool, true, false, not, and-false}
use mathlib.Core.List.{List, [], ◌∷◌, ◌++◌, append-nil, append_assoc, cons-ne-nil}
use Prim.Native.Nat.{ℕ, ◌≤◌}
use native.Mathlib.Omega.{arith}
use lib.ListN.{length, drop}
use lib.Seq.{drop-append_seam}
use lib.Dec.{eqb, ltb}
use borrow.Author.Tests.{not-true, eqb-true, lt-ltb, le-ltb}
use Rattle.base_lists.proofs.Bools.{by, clash, and_left, and_right, and_intro, or-false-intro}
use Rattle.rules.specs.Text.{bytes, every, begins}
use Rattle.rules.specs.Names.{is_blank}
use Rattle.rules.specs.Tokens.{without_blanks}
use Rattle.rules.proofs.TextLaws.{every_append, every-head, begins-append, begins-split, every-both, every-mono}
use Rattle.rules.specs.Lines.{in_plain, after, is_word_line, is_sign_line}
use Rattle.text_lines.specs.Stream.{opens_with}

-- ## Opening blanks

-- what follows a line that is more than blanks
pub blanks-append : (ms ns : List ℕ) → (without_blanks ms ≡ [] → ⊥) → without_blanks (ms ++ ns) ≡ without_blanks ms ++ ns
unfolding without_blanks
blanks-append [] ns h = absurd (h refl)
blanks-append (m ∷ ms) ns h =
    by (is_blank m) (λ t. let k : without_blanks ms ≡ [] → ⊥ = λ e. h (rw t e) in rw t (blanks-append ms ns k)) (λ t. rw t)

-- a blank after blanks
pub blanks-blank : (ms : List ℕ) (m : ℕ) → without_blanks ms ≡ [] → is_blank m ≡ true → without_blanks (ms ++ m ∷ []) ≡ []
unfolding without_blanks
blanks-blank [] m e b = rw b
blanks-blank (n ∷ ms) m e b =
    by (is_blank n) (λ t. rw t (blanks-blank ms m (rw t at e) b)) (λ t. let z : n ∷ ms ≡ [] = rw t at e in absurd (cons-ne-nil n ms z))

-- ## A word that is no blank

-- A word whose bytes are no blanks.
pub record Solid (w : List ℕ) : Type 0 where
  pub some : w ≡ [] → ⊥
  pub solid : every (λ (b : ℕ). not (is_blank b)) w ≡ true

pub comment-solid : Solid (bytes "comment_char")
unfolding bytes every
comment-solid = record { some = λ e. cons-ne-nil _ _ e; solid = refl }

pub escape-solid : Solid (bytes "escape_char")
unfolding bytes every
escape-solid = record { some = λ e. cons-ne-nil _ _ e; solid = refl }

-- marks that end in a blank are no such word, whatever blanks open them
pub blank-ends : (w ms : List ℕ) (m : ℕ) → Solid w → is_blank m ≡ true → without_blanks (ms ++ m ∷ []) ≡ w → ⊥
blank-ends w ms m v b e = go (without_blanks ms) refl
  where
    go : (x : List ℕ) → without_blanks ms ≡ x → ⊥
    go [] f = v.some (sym e ∙ blanks-blank ms m f b)
    go (y ∷ ys) f =
        let k : without_blanks (ms ++ m ∷ []) ≡ (y ∷ ys) ++ m ∷ [] = blanks-append ms (m ∷ []) (λ z. cons-ne-nil y ys (sym f ∙ z)) ∙ rw f in
        let s : every (λ (b : ℕ). not (is_blank b)) ((y ∷ ys) ++ m ∷ []) ≡ true = rw (sym e ∙ k) at v.solid in
        let t = and_right (every (λ (b : ℕ). not (is_blank b)) (y ∷ ys)) (every (λ (b : ℕ). not (is_blank b)) (m ∷ [])) (sym (every_append (λ (b : ℕ). not (is_blank b)) (y ∷ ys) (m ∷ [])) ∙ s) in
        clash b (not-true (is_blank m) (every-head (λ (b : ℕ). not (is_blank b)) m [] t))

pub nonempty : (w : List ℕ) (d : ℕ) (ds : List ℕ) → w ++ d ∷ ds ≡ [] → ⊥
nonempty [] d ds e = cons-ne-nil d ds e
nonempty (x ∷ w) d ds e = cons-ne-nil x (w ++ d ∷ ds) e

-- a word and blanks, and not the word alone, open the line with that word and a blank
pub word-opens : (w ms ns : List ℕ) → Solid w → (without_blanks ms ≡ w → ⊥) → is_word_line w ms ≡ true → opens_with w (ms ++ ns) ≡ true
unfolding is_word_line opens_with
word-opens w ms ns v n h = go (drop (length w) (without_blanks ms)) refl
  where
    first : begins w (without_blanks ms) ≡ true
    first = and_left (begins w (without_blanks ms)) (every is_blank (drop (length w) (without_blanks ms))) h

    then : every is_blank (drop (length w) (without_blanks ms)) ≡ true
    then = and_right (begins w (without_blanks ms)) (every is_blank (drop (length w) (without_blanks ms))) h

    split : without_blanks ms ≡ w ++ drop (length w) (without_blanks ms)
    split = begins-split w (without_blanks ms) first

    go : (d : List ℕ) → drop (length w) (without_blanks ms) ≡ d → opens_with w (ms ++ ns) ≡ true
    go [] e = absurd (n (split ∙ rw (e, append-nil)))
    go (d ∷ ds) e =
        let s : without_blanks ms ≡ w ++ d ∷ ds = split ∙ ap (λ (x : List ℕ). w ++ x) e in
        let a : without_blanks (ms ++ ns) ≡ w ++ (d ∷ (ds ++ ns)) =
        blanks-append ms ns (λ z. nonempty w d ds (sym s ∙ z)) ∙ rw s (append_assoc w (d ∷ ds) ns) in
        rw (a, drop-append_seam w (d ∷ (ds ++ ns)), begins-append w (d ∷ (ds ++ ns))) (every-head is_blank d ds (rw e at then))

-- ## After the keyword

-- a blank leaves plain mode as it is
pub after-blank : (b : ℕ) → is_blank b ≡ true → after in_plain b ≡ in_plain
unfolding after
after-blank b h =
    by (eqb b 32) (λ t. rw (eqb-true b 32 t)) (λ t. rw (eqb-true b 9 (rw t at h)))

-- a mark of a byte that stands by itself
abbrev is_small : ℕ → Bool
is_small m = ltb m 256

blank-small : (b : ℕ) → is_blank b ≡ true → is_small b ≡ true
blank-small b h =
    by (eqb b 32) (λ t. let e = eqb-true b 32 t in lt-ltb b 256 (omega arith)) (λ t. let e = eqb-true b 9 (rw t at h) in lt-ltb b 256 (omega arith))

small-without : (ms : List ℕ) → every is_small (without_blanks ms) ≡ true → every is_small ms ≡ true
unfolding without_blanks every
small-without [] h = refl
small-without (m ∷ ms) h =
    by (is_blank m) (λ t. and_intro (blank-small m t) (small-without ms (rw t at h))) (λ t. rw t at h)

-- a line that is a word and blanks has no other mark
word_small : (w ms : List ℕ) → every is_small w ≡ true → is_word_line w ms ≡ true → every is_small ms ≡ true
unfolding is_word_line
word_small w ms s h =
    let d = drop (length w) (without_blanks ms) in
    let first = and_left (begins w (without_blanks ms)) (every is_blank d) h in
    let then = and_right (begins w (without_blanks ms)) (every is_blank d) h in
    small-without ms (rw (begins-split w (without_blanks ms) first) (every-both is_small w d s (every-mono is_blank is_small blank-small d then)))

every-first-false : (p : ℕ → Bool) (x : ℕ) (xs : List ℕ) → p x ≡ false → every p (x ∷ xs) ≡ false
unfolding every
every-first-false p x xs h = rw h

large-not : (ms ns : List ℕ) (m : ℕ) → 256 ≤ m → every is_small (ms ++ m ∷ ns) ≡ false
large-not ms ns m h =
    every_append is_small ms (m ∷ ns) ∙ rw (every-first-false is_small m ns (le-ltb m 256 h)) (and-false (every is_small ms))

comment-small : every is_small (bytes "comment_char") ≡ true
unfolding bytes every
comment-small = refl

escape-small : every is_small (bytes "escape_char") ≡ true
unfolding bytes every
escape-small = refl

-- a line with an escaped byte, or one that is taken as it stands, is no keyword and blanks
pub sign-never : (ms ns : List ℕ) (m : ℕ) → 256 ≤ m → is_sign_line (ms ++ m ∷ ns) ≡ false
unfolding is_sign_line
sign-never ms ns m h =
    let l = ms ++ m ∷ ns in
    let large = large-not ms ns m h in
    or-false-intro
    (by (is_word_line (bytes "comment_char") l) (λ t. clash (word_small (bytes "comment_char") l comment-small t) large) (λ t. t))
    (by (is_word_line (bytes "escape_char") l) (λ t. clash (word_small (bytes "escape_char") l escape-small t) large) (λ t. t))
