-- Blocks (specs/OrderLines; 02, K1): "The lines come to stand directly after the named line, in their written order; an item or symbol that already had a
-- line leaves its old place." All other lines keep their order among themselves.
use mathlib.Core.Path.{◌≡◌, refl, sym, ap, subst, ◌∙◌}
use mathlib.Core.Bool.{Bool, true, false, ◌||◌, false≢true}
use mathlib.Core.List.{List, [], ◌∷◌, ◌++◌, append_assoc, append-nil}
use Rattle.base_lists.proofs.Bools.{by, or-false-intro, or-false-left, or-false-right}
use Rattle.rules.specs.Text.{one_of}
use Rattle.rules.specs.State.{Subject, OrderLine}
use Rattle.rules.specs.OrderLines.{same_subject, taken_out, put_after, placed, block_with, again}
use Rattle.rules.proofs.TextLaws.{one_of-append}
use Rattle.rules.proofs.RankLaws.{is_line_of, same_subject-true, same_subject-refl}
use Rattle.rules.proofs.PlacedLaws.{taken_out-none, taken_out-without, taken_out-same}

-- ## The lines of a block, one after the other

-- the order after these lines, with a block open
unfoldable pub block_lines : List Subject → List OrderLine → List OrderLine → List OrderLine
block_lines b [] ls = ls
block_lines b (l ∷ more) ls = block_lines (block_with b l.subject) more (placed b l ls)

-- none of them is refused by 5
unfoldable pub NoneAgain : List Subject → List OrderLine → List OrderLine → Type 0
NoneAgain b [] ls = Unit
NoneAgain b (l ∷ more) ls = (again b l.subject ls ≡ false) × NoneAgain (block_with b l.subject) more (placed b l ls)

-- without the lines of all their subjects
unfoldable pub without_all : List OrderLine → List OrderLine → List OrderLine
without_all [] ls = ls
without_all (m ∷ ms) ls = without_all ms (taken_out m.subject ls)

-- ## Lists

one_of-join : {A : Type 0} (p : A → Bool) (xs ys : List A) → one_of p xs ≡ false → one_of p ys ≡ false → one_of p (xs ++ ys) ≡ false
one_of-join p xs ys h k = one_of-append p xs ys ∙ or-false-intro h k

taken_out-append : (x : Subject) (ls ms : List OrderLine) → taken_out x (ls ++ ms) ≡ taken_out x ls ++ taken_out x ms
unfolding taken_out
taken_out-append x [] ms = refl
taken_out-append x (l ∷ ls) ms =
    by (same_subject x l.subject)
    (λ t. rw t (taken_out-append x ls ms))
    (λ t. rw t (ap (λ (r : List OrderLine). l ∷ r) (taken_out-append x ls ms)))

-- behind the first line of that subject
put_after-at : (x : Subject) (l m : OrderLine) (front rest : List OrderLine) → one_of (is_line_of x) front ≡ false → is_line_of x m ≡ true
    → put_after x l (front ++ m ∷ rest) ≡ front ++ m ∷ l ∷ rest
unfolding put_after one_of is_line_of
put_after-at x l m [] rest h e = rw e
put_after-at x l m (n ∷ front) rest h e =
    rw (or-false-left (same_subject x n.subject) (one_of (is_line_of x) front) h)
    (ap (λ (r : List OrderLine). n ∷ r) (put_after-at x l m front rest (or-false-right (same_subject x n.subject) (one_of (is_line_of x) front) h) e))

-- ## The law

-- The last line of the open block: the block's lines up to it are `own` and it; no line of its subject stands in front, and every line up to it that is no
-- line of `front` is of the block.
record Last (b : List Subject) (front own : List OrderLine) (last : OrderLine) : Type 0 where
  first : one_of (is_line_of last.subject) (front ++ own) ≡ false
  of-block : (y : Subject) → one_of (same_subject y) b ≡ false → one_of (is_line_of y) (own ++ last ∷ []) ≡ false

-- one line more
module _ (x : Subject) (xs : List Subject) (front own : List OrderLine) (last : OrderLine) (rest : List OrderLine) (l : OrderLine)
    (here : last.subject ≡ x) (s : Last (x ∷ xs) front own last) (new : one_of (same_subject l.subject) (x ∷ xs) ≡ false) where
  abbrev y : Subject
  y = l.subject

  apart : one_of (is_line_of y) (own ++ last ∷ []) ≡ false
  apart = s.of-block y new

  own-apart : (one_of (is_line_of y) own ≡ false) × (one_of (is_line_of y) (last ∷ []) ≡ false)
  own-apart =
      let e = sym (one_of-append (is_line_of y) own (last ∷ [])) ∙ apart in
      (or-false-left (one_of (is_line_of y) own) (one_of (is_line_of y) (last ∷ [])) e, or-false-right (one_of (is_line_of y) own) (one_of (is_line_of y) (last ∷ [])) e)

  taken : taken_out y ((front ++ own) ++ last ∷ rest) ≡ (taken_out y front ++ own) ++ last ∷ taken_out y rest
  taken =
      taken_out-append y (front ++ own) (last ∷ rest)
      ∙ ap (λ (r : List OrderLine). r ++ taken_out y (last ∷ rest))
      (taken_out-append y front own ∙ ap (λ (r : List OrderLine). taken_out y front ++ r) (taken_out-same y own own-apart.0))
      ∙ ap (λ (r : List OrderLine). (taken_out y front ++ own) ++ r)
      (taken_out-append y (last ∷ []) rest ∙ ap (λ (r : List OrderLine). r ++ taken_out y rest) (taken_out-same y (last ∷ []) own-apart.1))

  in-front : one_of (is_line_of last.subject) (taken_out y front ++ own) ≡ false
  in-front =
      let e = sym (one_of-append (is_line_of last.subject) front own) ∙ s.first in
      one_of-join (is_line_of last.subject) (taken_out y front) own
      (taken_out-without y last.subject front (or-false-left (one_of (is_line_of last.subject) front) (one_of (is_line_of last.subject) own) e))
      (or-false-right (one_of (is_line_of last.subject) front) (one_of (is_line_of last.subject) own) e)

  put : placed (x ∷ xs) l ((front ++ own) ++ last ∷ rest) ≡ (taken_out y front ++ (own ++ last ∷ [])) ++ l ∷ taken_out y rest
  unfolding placed is_line_of
  put =
      ap (put_after x l) taken
      ∙ ap (λ (z : Subject). put_after z l ((taken_out y front ++ own) ++ last ∷ taken_out y rest)) (sym here)
      ∙ put_after-at last.subject l last (taken_out y front ++ own) (taken_out y rest) in-front (same_subject-refl last.subject)
      ∙ sym (append_assoc (taken_out y front ++ own) (last ∷ []) (l ∷ taken_out y rest))
      ∙ ap (λ (r : List OrderLine). r ++ l ∷ taken_out y rest) (append_assoc (taken_out y front) own (last ∷ []))

  next : Last (y ∷ x ∷ xs) (taken_out y front) (own ++ last ∷ []) l
  unfolding one_of is_line_of
  next = record {
    first = one_of-join (is_line_of y) (taken_out y front) (own ++ last ∷ []) (taken_out-none y front) apart;
    of-block = λ z h.
        one_of-join (is_line_of z) (own ++ last ∷ []) (l ∷ [])
        (s.of-block z (or-false-right (same_subject z y) (one_of (same_subject z) (x ∷ xs)) h))
        (or-false-intro (or-false-left (same_subject z y) (one_of (same_subject z) (x ∷ xs)) h) refl);
  }

all-put : (x : Subject) (xs : List Subject) (front own : List OrderLine) (last : OrderLine) (rest ms : List OrderLine) → last.subject ≡ x → Last (x ∷ xs) front own last
    → NoneAgain (x ∷ xs) ms ((front ++ own) ++ last ∷ rest)
    → block_lines (x ∷ xs) ms ((front ++ own) ++ last ∷ rest) ≡ (without_all ms front ++ own) ++ last ∷ (ms ++ without_all ms rest)
unfolding block_lines NoneAgain without_all again
all-put x xs front own last rest [] here s h = refl
all-put x xs front own last rest (l ∷ ms) here s h =
    let e = put x xs front own last rest l here s h.0 in
    let f = taken_out l.subject front in
    let r = taken_out l.subject rest in
    ap (block_lines (l.subject ∷ x ∷ xs) ms) e
    ∙ all-put l.subject (x ∷ xs) f (own ++ last ∷ []) l r ms refl (next x xs front own last rest l here s h.0) (rw e at h.1)
    ∙ ap (λ (q : List OrderLine). q ++ l ∷ (ms ++ without_all ms r)) (sym (append_assoc (without_all ms f) own (last ∷ [])))
    ∙ append_assoc (without_all ms f ++ own) (last ∷ []) (l ∷ (ms ++ without_all ms r))

-- Where the named line stands.
pub record NamedLine (x : Subject) (ls : List OrderLine) : Type 0 where
  pub front : List OrderLine
  pub line : OrderLine
  pub rest : List OrderLine
  pub there : ls ≡ front ++ line ∷ rest
  pub its : line.subject ≡ x
  pub first : one_of (is_line_of x) front ≡ false

-- a line that stands is found
pub named-line : (x : Subject) (ls : List OrderLine) → one_of (is_line_of x) ls ≡ true → NamedLine x ls
unfolding one_of is_line_of
named-line x [] h = absurd (false≢true h)
named-line x (l ∷ ls) h =
    by (same_subject x l.subject)
    (λ t. record { front = []; line = l; rest = ls; there = refl; its = sym (same_subject-true x l.subject t); first = refl })
    (λ t.
    let r = named-line x ls (rw t at h) in
    record { front = l ∷ r.front; line = r.line; rest = r.rest; there = ap (λ (q : List OrderLine). l ∷ q) r.there; its = r.its; first = or-false-intro t r.first })

-- a block's lines stand directly behind the named line, in their written order, and all others as they stood
pub block-stands : (x : Subject) (ls ms : List OrderLine) (n : NamedLine x ls) → NoneAgain (x ∷ []) ms ls
    → block_lines (x ∷ []) ms ls ≡ without_all ms n.front ++ n.line ∷ (ms ++ without_all ms n.rest)
unfolding one_of is_line_of
block-stands x ls ms n h =
    let e : ls ≡ (n.front ++ []) ++ n.line ∷ n.rest = n.there ∙ ap (λ (q : List OrderLine). q ++ n.line ∷ n.rest) (sym (append-nil n.front)) in
    ap (block_lines (x ∷ []) ms) e
    ∙ all-put x [] n.front [] n.line n.rest ms n.its
    (record {
      first = ap (λ (z : Subject). one_of (is_line_of z) (n.front ++ [])) n.its ∙ ap (one_of (is_line_of x)) (append-nil n.front) ∙ n.first;
      of-block = λ y k. ap (λ (z : Subject). same_subject y z || false) n.its ∙ k;
    })
    (subst (NoneAgain (x ∷ []) ms) e h)
    ∙ ap (λ (q : List OrderLine). q ++ n.line ∷ (ms ++ without_all ms n.rest)) (append-nil (without_all ms n.front))
