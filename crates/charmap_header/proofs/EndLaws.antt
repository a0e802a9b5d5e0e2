-- The answers of the functions that end a header line: passed over, malformed, CHARMAP, and a character that is set.
use Rattle.std.specs.Prelude.{if◌then◌else◌}
use mathlib.Core.Path.{◌≡◌, refl, sym, ap, ◌∙◌, subst}
use mathlib.Core.Bool.{Bool, true, false, not, ◌&&◌}
use mathlib.Core.List.{List, [], ◌∷◌}
use Prim.Native.Nat.{ℕ, ◌+◌, ◌%◌, ◌≤◌, ◌<◌, ◌^◌}
use native.Mathlib.Omega.{arith}
use lib.ListN.{length, get_or}
use lib.Dec.{eqb}
use borrow.Author.Tests.{eqb-true}
use Rattle.base_lists.proofs.Bools.{by, clash, and_left}
use Rattle.base_lists.proofs.Lists.{length-zero}
use Rattle.rules.specs.Text.{◌unless◌, lower}
use Rattle.rules.specs.Names.{is_blank}
use Rattle.rules.specs.Tokens as kind
use Rattle.rules.specs.Tokens.{is_text, Token, token, token_at, single, no_part, tokens_from, tokens_of, without_opening_gaps, without_gaps}
use Rattle.rules.specs.Lines as paper
use Rattle.rules.specs.Lines.{Scan, is_sign, sign_refusal, sign_set}
use Rattle.rules.specs.Charmap.{Mapping, MapOutcome, leaves, sign_header, header_line}
use Rattle.rules.proofs.TextLaws.{unless-none}
use Rattle.text_lines.specs.declared.Signs.{Signs}
use Rattle.text_lines.specs.declared.Spot.{Spot}
use Rattle.text_lines.specs.declared.LineEnd.{LineEnd}
use Rattle.text_lines.specs.Stream.{line_start, marks_left, LineIs}
use Rattle.text_tokens.specs.Left.{tokens_left}
use Rattle.text_tokens.proofs.GapLaws.{tokens_of-left}
use Rattle.text_specials.specs.declared.Chars.{Chars}
use Rattle.text_specials.specs.Force.{chars_as, operand}
use Rattle.text_specials.specs.Signed.{Visible}
use Rattle.charmap_header.specs.Head.{signs_of, head_with, outcome_at, Leaves, Stops, plain_marks_at, Plain, PassedOver, Malformed, is_opening, Opening, SetBy}
use Rattle.charmap_header.proofs.FirstLaws.{gaps-none}
use Rattle.charmap_header.proofs.OutcomeLaws.{outcome-word, set-outcome, odd-operands}

-- ## The lower of 2, 3 or none

foul-first : (t : Bool) → lower 2 (3 unless t) ≡ 2
unfolding lower
foul-first true = refl
foul-first false = refl

foul-signs : (h : paper.Chars) (comment : Bool) (os : List Token) → lower 2 (sign_refusal h comment os) ≡ 2
unfolding sign_refusal
foul-signs h comment os =
    let c = get_or (token_at os 0).text 0 0 in
    foul-first
    (single kind.as_is os && is_sign c
    && not (if comment then h.comment_set else h.escape_set)
    && not (eqb c (if comment then h.escape else h.comment)))

foul-three : lower 2 3 ≡ 2
unfolding lower
foul-three = refl

none_first : (r : ℕ) → lower 0 r ≡ r
unfolding lower
none_first r = refl

three : {src : List ℕ} {h : Chars} {at : ℕ} → (outcome_at src h at).refusal ≡ 3 → Stops src h at 3
three e = record { refusal = e; some = λ z. omega arith }

two : {src : List ℕ} {h : Chars} {at : ℕ} → (outcome_at src h at).refusal ≡ 2 → Stops src h at 2
two e = record { refusal = e; some = λ z. omega arith }

-- ## A plain line

-- the line's end, whatever its two characters are called
line-here : {src : List ℕ} {f g : Signs} {p : Spot} {e : LineEnd} → g ≡ f → LineIs g src p e → LineIs f src p e
line-here {src} {f} {g} {p} {e} a w = subst (λ (x : Signs). LineIs x src p e) a w

module _ {src : List ℕ} {h : Chars} {at : ℕ} (v : Plain src h at) where
  plain-start : at ≤ length src
  plain-start = let i = v.inside in omega arith

  -- what it leaves is what its plain marks leave
  plain-outcome : outcome_at src h at ≡ header_line (head_with h false) (plain_marks_at src h at)
  plain-outcome = ap (λ (s : Scan). header_line (head_with h false) s.marks) v.is

  plain-leaves : {e : LineEnd} {opened : Bool} → LineIs (signs_of h) src (line_start at) e
      → header_line (head_with h false) (plain_marks_at src h at) ≡ leaves 0 (head_with h opened) → Leaves src h at h opened e.next e.feeds
  plain-leaves w o =
      record {
        refusal = ap (λ (x : MapOutcome). x.refusal) (plain-outcome ∙ o);
        mapping = ap (λ (x : MapOutcome). x.mapping) (plain-outcome ∙ o);
        end = ap (λ (s : Scan). at + s.size) v.is ∙ w.end;
        feeds = ap (λ (s : Scan). s.feeds) v.is ∙ w.feeds;
        on = w.on v.inside;
        to = w.to;
        few = w.few;
        visible = v.visible;
      }

-- ### Passed over

module _ {src : List ℕ} {h : Chars} {at : ℕ} (v : PassedOver src h at) where
  pub passed_start : at ≤ length src
  passed_start = plain-start v.plain

  pub passed-line : {g : Signs} {e : LineEnd} → g ≡ signs_of h → LineIs g src (line_start at) e → Leaves src h at h false e.next e.feeds
  passed-line a w = plain-leaves v.plain (line-here a w) v.outcome

-- ### Malformed

module _ {src : List ℕ} {h : Chars} {at : ℕ} (v : Malformed src h at) where
  pub malformed-start : at ≤ length src
  malformed-start = plain-start v.plain

  module _ {g : Signs} {e : LineEnd} (a : g ≡ signs_of h) (w : LineIs g src (line_start at) e) where
    refused : {t : Bool} → e.text ≡ t → (outcome_at src h at).refusal ≡ lower (2 unless t) 3
    refused k =
        ap (λ (x : MapOutcome). x.refusal) (plain-outcome v.plain) ∙ v.refusal ∙ ap (λ (x : Bool). lower (2 unless x) 3) ((line-here a w).text ∙ k)

    pub malformed-form : e.text ≡ true → Stops src h at 3
    malformed-form k = three (refused k ∙ none_first 3)

    pub malformed-bytes : e.text ≡ false → Stops src h at 2
    malformed-bytes k = two (refused k ∙ foul-three)

-- ### CHARMAP

module _ {src : List ℕ} {h : Chars} {at : ℕ} {q : Spot} (v : Opening src h at q) where
  pub opening-start : at ≤ length src
  opening-start = plain-start v.plain

  tokens : tokens_of (plain_marks_at src h at) ≡ tokens_left (signs_of h) src q
  tokens = tokens_of-left v.skips

  module _ {g : Signs} {e : LineEnd} (a : g ≡ signs_of h) (w : LineIs g src (line_start at) e) where
    word-outcome : {t u : Bool} → e.text ≡ t → is_opening (tokens_left (signs_of h) src q) ≡ u
        → header_line (head_with h false) (plain_marks_at src h at) ≡ leaves (lower (2 unless t) (3 unless u)) (head_with h true)
    word-outcome k o =
        outcome-word (head_with h false) (plain_marks_at src h at) (λ z. v.some (sym (ap (λ (ts : List Token). length ts) tokens) ∙ z)) v.no_name
        ∙ rw (tokens, o, (line-here a w).text, k)

    pub opening-bytes : e.text ≡ false → Stops src h at 2
    opening-bytes k =
        two (ap (λ (x : MapOutcome). x.refusal) (plain-outcome v.plain ∙ word-outcome k refl) ∙ foul-first (is_opening (tokens_left (signs_of h) src q)))

    module _ {f : Signs} {u : Bool} (d : f ≡ signs_of h) (o : u ≡ is_opening (tokens_left f src q)) (k : e.text ≡ true) where
      opens : is_opening (tokens_left (signs_of h) src q) ≡ u
      opens = rw (sym d) (sym o)

      pub opening-form : u ≡ false → Stops src h at 3
      opening-form i = three (ap (λ (x : MapOutcome). x.refusal) (plain-outcome v.plain ∙ word-outcome k (opens ∙ i)) ∙ none_first 3)

      pub opening-good : u ≡ true → Leaves src h at h true e.next e.feeds
      opening-good i = plain-leaves v.plain (line-here a w) (word-outcome k (opens ∙ i) ∙ ap (λ (r : ℕ). leaves r (head_with h true)) (none_first 0))

-- ## A byte that is taken as it stands

pub text-low : (c : ℕ) → c < 256 → is_text (256 + c) ≡ is_text c
text-low c l = let e : (256 + c) % 256 ≡ c % 256 = omega arith in rw e

module _ {c x : ℕ} (e : x ≡ c) (l : x < 256) where
  pub byte_low : c < 256
  byte_low = rw (sym e) l

  module _ (rest : Bool) {t : Bool} (f : t ≡ is_text x) where
    pub text-yes : t ≡ true → rest ≡ (is_text (256 + c) && rest)
    text-yes h = rw (text-low c byte_low, sym e, sym f, h)

    pub text-no : t ≡ false → false ≡ (is_text (256 + c) && rest)
    text-no h = rw (text-low c byte_low, sym e, sym f, h)

-- one operand and others are not one
single_more : (k : ℕ) (t : Token) (ts : List Token) → eqb (length ts) 0 ≡ false → single k (t ∷ ts) ≡ false
single_more k t [] h = clash refl h
single_more k t (u ∷ ts) h = refl

-- what may be set is a sign
set-sign : (h : paper.Chars) (comment : Bool) (c : ℕ) → sign_refusal h comment (operand c) ≡ 0 → is_sign c ≡ true
unfolding sign_refusal
set-sign h comment c e =
    let a = not (if comment then h.comment_set else h.escape_set) in
    let b = not (eqb c (if comment then h.escape else h.comment)) in
    let t = unless-none 3 (is_sign c && a && b) (omega arith) e in
    and_left (is_sign c) a (and_left (is_sign c && a) b t)

sign-visible : (c : ℕ) → is_sign c ≡ true → is_blank c ≡ false
unfolding is_sign
sign-visible c h =
    by (is_blank c) (λ b. by (eqb c 32) (λ e. clash (rw (eqb-true c 32 e) at h) refl) (λ e. clash (rw (eqb-true c 9 (rw e at b)) at h) refl)) (λ b. b)

set-visible : (h : Chars) (comment : Bool) (c : ℕ) (n : Chars) → Visible (signs_of h) → is_blank c ≡ false → chars_as n ≡ sign_set (chars_as h) comment (operand c)
    → Visible (signs_of n)
unfolding sign_set
set-visible h true c n v b e =
    record { comment = ap (λ (x : paper.Chars). is_blank x.comment) e ∙ b; escape = ap (λ (x : paper.Chars). is_blank x.escape) e ∙ v.escape }
set-visible h false c n v b e =
    record { comment = ap (λ (x : paper.Chars). is_blank x.comment) e ∙ v.comment; escape = ap (λ (x : paper.Chars). is_blank x.escape) e ∙ b }

-- the state with these two characters
abbrev with_chars : paper.Chars → Mapping
with_chars x = record { chars = x; opened = false; closed = false; given = [] }

module _ {src : List ℕ} {h : Chars} {at : ℕ} {comment : Bool} {c k : ℕ} {rest : Spot} (v : SetBy src h at comment c k rest) where
  pub set_to : rest.at ≤ length src
  set_to = v.taken.to

  -- what stands after the byte
  after : List Token
  after = without_gaps true (tokens_left (signs_of h) src rest)

  module _ {g : Signs} {r : LineEnd} (a : g ≡ signs_of h) (w : LineIs g src rest r) where
    end-here : LineIs (signs_of h) src rest r
    end-here = subst (λ (x : Signs). LineIs x src rest r) a w

    pub set-fits : length src < 2 ^ 64 → k + r.feeds < 2 ^ 64
    set-fits l = let x = v.taken.few in let y = w.few in let z = w.to in omega arith

    module _ {t : Bool} (d : (t ≡ (is_text (256 + c) && r.text)) × (c < 256)) where
      set_line : outcome_at src h at ≡ sign_header (head_with h false) comment (token kind.as_is (c ∷ []) [] ∷ after) (2 unless t)
      unfolding after tokens_left
      set_line =
          ap (header_line (head_with h false)) v.taken.marks
          ∙ set-outcome comment v.marks v.first v.more c (marks_left (signs_of h) src rest) v.named v.are d.1 (head_with h false)
          ∙ ap (λ (x : Bool). sign_header (head_with h false) comment (token kind.as_is (c ∷ []) [] ∷ without_gaps true (tokens_from (no_part []) (marks_left (signs_of h) src rest))) (2 unless x))
          (ap (λ (x : Bool). is_text (256 + c) && x) end-here.text ∙ sym d.0)

      -- the refusal, with the text as it is and whatever the operands give
      set-refusal : {x : Bool} → t ≡ x → {os : List Token} → token kind.as_is (c ∷ []) [] ∷ after ≡ os
          → (outcome_at src h at).refusal ≡ lower (2 unless x) (sign_refusal (chars_as h) comment os)
      unfolding sign_header
      set-refusal {x} e {os} f =
          ap (λ (o : MapOutcome). o.refusal) set_line
          ∙ ap (λ (y : Bool). lower (2 unless y) (sign_refusal (chars_as h) comment (token kind.as_is (c ∷ []) [] ∷ after))) e
          ∙ ap (λ (ts : List Token). lower (2 unless x) (sign_refusal (chars_as h) comment ts)) f

      pub set-foul : t ≡ false → Stops src h at 2
      set-foul e = two (set-refusal e refl ∙ foul-signs (chars_as h) comment (token kind.as_is (c ∷ []) [] ∷ after))

      module _ {f : Signs} {u : Bool} (i : f ≡ signs_of h) (o : u ≡ eqb (length (without_opening_gaps (tokens_left f src rest))) 0) (e : t ≡ true) where
        more : eqb (length after) 0 ≡ u
        unfolding after
        more = gaps-none true (tokens_left (signs_of h) src rest) ∙ rw (sym i) (sym o)

        pub set_more : u ≡ false → Stops src h at 3
        set_more j =
            three
            (set-refusal e refl ∙ none_first (sign_refusal (chars_as h) comment (token kind.as_is (c ∷ []) [] ∷ after))
            ∙ odd-operands (chars_as h) comment (token kind.as_is (c ∷ []) [] ∷ after) (single_more kind.as_is (token kind.as_is (c ∷ []) []) after (more ∙ j)))

        module _ (j : u ≡ true) (y : Bool) (s : (3 unless y) ≡ sign_refusal (chars_as h) comment (operand c)) where
          alone : token kind.as_is (c ∷ []) [] ∷ after ≡ operand c
          alone = ap (λ (ts : List Token). token kind.as_is (c ∷ []) [] ∷ ts) (length-zero after (eqb-true (length after) 0 (more ∙ j)))

          decided : (outcome_at src h at).refusal ≡ (3 unless y)
          decided = set-refusal e alone ∙ none_first (sign_refusal (chars_as h) comment (operand c)) ∙ sym s

          pub set-refused : y ≡ false → Stops src h at 3
          set-refused z = three (decided ∙ rw z)

          pub set-good : y ≡ true → {n : Chars} → chars_as n ≡ sign_set (chars_as h) comment (operand c) → Leaves src h at n false r.next (k + r.feeds)
          unfolding sign_header
          set-good z {n} q =
              let x = v.taken.few in
              let m = w.few in
              let l = end-here.end in
              let b = sign-visible c (set-sign (chars_as h) comment c (sym s ∙ rw z)) in
              record {
                refusal = decided ∙ rw z;
                mapping = ap (λ (o : MapOutcome). o.mapping) set_line ∙ ap (λ (x : paper.Chars). with_chars x) (ap (sign_set (chars_as h) comment) alone ∙ sym q);
                end = v.taken.end ∙ l;
                feeds = v.taken.feeds ∙ ap (λ (f : ℕ). k + f) end-here.feeds;
                on = omega (arith, v.taken.on, w.few);
                to = w.to;
                few = omega arith;
                visible = set-visible h comment c n v.visible b q;
              }
