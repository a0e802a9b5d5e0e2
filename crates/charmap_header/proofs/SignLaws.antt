-- Header lines in which a byte may be taken as it stands: they open with the name and a blank. Before that blank no byte is taken as it
-- stands, and after such a byte none is again.
use mathlib.Core.Path.{◌≡◌, refl, sym, ap, ◌∙◌}
use mathlib.Core.Bool.{Bool, true, false, not, ◌&&◌, ◌||◌, and-false}
use mathlib.Core.List.{List, [], ◌∷◌, ◌++◌, append_assoc, append-nil, cons-ne-nil}
use Prim.Native.Nat.{ℕ}
use lib.ListN.{length, drop}
use lib.Dec.{eqb}
use borrow.Author.Tests.{eqb-true, ne_eqb}
use Rattle.base_lists.proofs.Bools.{by, clash, and_left, and_right, and_intro, cond-by}
use Rattle.rules.specs.Text.{is}
use Rattle.rules.specs.Names.{is_blank}
use Rattle.rules.specs.Tokens as kind
use Rattle.rules.specs.Tokens.{gap, broken, quote, quoted_part, Token, token, token_at, the_name, Lexed, lexed, no_part, lex_none, lex, lex_end, tokens_from, without_blanks, tokens_of, without_gaps}
use Rattle.rules.specs.Lines as paper
use Rattle.rules.specs.Lines.{in_plain, Scan, is_sign_header, takes_as_is, line_of}
use Rattle.text_lines.specs.declared.Signs.{Signs}
use Rattle.text_lines.specs.Stream.{plain_signs, fresh_through}
use Rattle.base_lists.proofs.Lists.{length-zero}
use Rattle.text_lines.proofs.SignLaws.{blanks-append, blanks-blank}
use Rattle.text_tokens.proofs.TokenLaws.{tokens_from-behind, tokens_from-none}
use Rattle.text_specials.proofs.AsIsLaws.{Kind, Past, Never, line-never, last-blank}
use Rattle.charmap_header.proofs.FirstLaws.{first-token, solid-stays, gap-first}

-- ## Marks one after the other

-- what is read after these marks
lex_all : Lexed → List ℕ → Lexed
lex_all l [] = l
lex_all l (m ∷ ms) = lex_all (lex l m) ms

tokens_from-all : (l : Lexed) (ms ns : List ℕ) → tokens_from l (ms ++ ns) ≡ tokens_from (lex_all l ms) ns
unfolding tokens_from lex_all
tokens_from-all l [] ns = refl
tokens_from-all l (m ∷ ms) ns = tokens_from-all (lex l m) ms ns

tokens_from-end : (l : Lexed) (ms : List ℕ) → tokens_from l ms ≡ lex_end (lex_all l ms)
unfolding tokens_from lex_all
tokens_from-end l [] = refl
tokens_from-end l (m ∷ ms) = tokens_from-end (lex l m) ms

last_end : (l : Lexed) (m : ℕ) → tokens_from l (m ∷ []) ≡ lex_end (lex l m)
unfolding tokens_from
last_end l m = refl

pub tokens_of-is : (ms : List ℕ) → tokens_of ms ≡ tokens_from (no_part []) (without_blanks ms)
unfolding tokens_of
tokens_of-is ms = refl

-- where no token is open, the text of one does not matter
gap-part : (o : List Token) (p : ℕ) (t : List ℕ) (ns : List (List ℕ)) (ms : List ℕ) → eqb p gap ≡ true → tokens_from (lexed o p t ns) ms ≡ o ++ tokens_from (no_part []) ms
unfolding tokens_from lex lex_end
gap-part o p t ns [] h = rw (eqb-true p gap h) (sym (append-nil o))
gap-part o p t ns (m ∷ ms) h = rw (eqb-true p gap h) (rw append-nil at (tokens_from-behind o (no_part []) (m ∷ ms)))

-- ## The name, and only blanks after it

-- it is one of the two names
unfoldable is_named : Token → Bool
is_named t = eqb t.kind kind.name && (is (the_name t) "comment_char" || is (the_name t) "escape_char")

-- the tokens open with such a name and a blank
unfoldable pub opens_sign : List Token → Bool
opens_sign ts = eqb (token_at ts 0).kind kind.name && (is (the_name (token_at ts 0)) "comment_char" || is (the_name (token_at ts 0)) "escape_char") && eqb (token_at ts 1).kind gap

-- Tokens that are such a name and blanks.
record Signed (ts : List Token) : Type 0 where
  first : Token
  more : List Token
  is : ts ≡ first ∷ more
  named : is_named first ≡ true
  blanks : eqb (length (without_gaps false more)) 0 ≡ true

no_kind : (t : Token) → is_named t ≡ true → eqb t.kind kind.name ≡ true
unfolding is_named
no_kind t h = and_left (eqb t.kind kind.name) (is (the_name t) "comment_char" || is (the_name t) "escape_char") h

signed : (ms : List ℕ) → is_sign_header ms ≡ true → Signed (tokens_of ms)
unfolding is_sign_header is_named
signed ms h = go (tokens_of ms) refl
  where
    go : (ts : List Token) → tokens_of ms ≡ ts → Signed ts
    go [] e = clash (rw e at h) refl
    go (t ∷ ts) e =
        let k : (eqb t.kind kind.name && (is (the_name t) "comment_char" || is (the_name t) "escape_char") && eqb (length (without_gaps false ts)) 0) ≡ true = rw e at h in
        record {
          first = t;
          more = ts;
          is = refl;
          named = and_left (eqb t.kind kind.name && (is (the_name t) "comment_char" || is (the_name t) "escape_char")) (eqb (length (without_gaps false ts)) 0) k;
          blanks = and_right (eqb t.kind kind.name && (is (the_name t) "comment_char" || is (the_name t) "escape_char")) (eqb (length (without_gaps false ts)) 0) k;
        }

-- a token that is still open when the marks end is neither a name nor a blank
open-not : (o : List Token) (t : Token) → eqb t.kind kind.name ≡ false → eqb t.kind gap ≡ false → Signed (o ++ t ∷ []) → ⊥
open-not [] t n g v =
    let e : t ≡ v.first = ap (λ (ts : List Token). token_at ts 0) v.is in
    clash (no_kind v.first v.named) (rw (sym e) n)
open-not (x ∷ o) t n g v =
    let e : o ++ t ∷ [] ≡ v.more = ap (λ (ts : List Token). drop 1 ts) v.is in
    clash (rw (sym e) at v.blanks) (solid-stays false o [] t g)

signed_part : (l : Lexed) → Signed (lex_end l) → eqb l.part gap ≡ true
unfolding lex_end
signed_part l v =
    by (eqb l.part gap) (λ e. e) (λ e. by (eqb l.part kind.word)
    (λ f. absurd (open-not l.out (token kind.word l.text []) refl refl (rw (e, f) at v)))
    (λ f. absurd (open-not l.out (token broken [] []) refl refl (rw (e, f) at v))))

-- the tokens of these marks stay, whatever follows
signed-then : (ms ns : List ℕ) → is_sign_header ms ≡ true → tokens_of (ms ++ ns) ≡ tokens_of ms ++ tokens_from (no_part []) ns
unfolding lex_end
signed-then ms ns h =
    let v = signed ms h in
    let w = without_blanks ms in
    let l = lex_all (no_part []) w in
    let e : tokens_of ms ≡ lex_end l = tokens_of-is ms ∙ tokens_from-end (no_part []) w in
    let p : eqb l.part gap ≡ true = signed_part l (rw e at v) in
    let some : without_blanks ms ≡ [] → ⊥ =
    λ z. cons-ne-nil v.first v.more (sym v.is ∙ tokens_of-is ms ∙ ap (tokens_from (no_part [])) z ∙ tokens_from-none) in
    let o : lex_end l ≡ l.out = rw p in
    tokens_of-is (ms ++ ns)
    ∙ ap (tokens_from (no_part [])) (blanks-append ms ns some)
    ∙ tokens_from-all (no_part []) w ns
    ∙ gap-part l.out l.part l.text l.names ns p
    ∙ ap (λ (x : List Token). x ++ tokens_from (no_part []) ns) (sym (e ∙ o))

-- ## After the byte

-- a mark that is no blank after the name
signed-not : (ms ns : List ℕ) (m : ℕ) → is_sign_header ms ≡ true → is_blank m ≡ false → is_sign_header (ms ++ m ∷ ns) ≡ false
unfolding is_sign_header
signed-not ms ns m h b =
    let v = signed ms h in
    let t = first-token m ns in
    let e : tokens_of (ms ++ m ∷ ns) ≡ v.first ∷ (v.more ++ t.first ∷ t.more) = signed-then ms (m ∷ ns) h ∙ rw (v.is, t.is) in
    rw (e, solid-stays false v.more t.more t.first (t.gap b))
    (and-false (eqb v.first.kind kind.name && (is (the_name v.first) "comment_char" || is (the_name v.first) "escape_char")))

-- for a header line
abbrev pub header_signs : Signs → paper.Signs
header_signs g = record { comment = g.comment; escape = g.escape; outside = false; header = true; body = false }

pub header-kind : (g : Signs) → Kind (header_signs g) g
header-kind g = record { like = record { comment = refl; escape = refl }; free = refl }

takes-not : (g : Signs) (x : Scan) (b : ℕ) → is_sign_header x.marks ≡ false → takes_as_is (header_signs g) x b ≡ false
unfolding takes_as_is
takes-not g x b e = rw e (and-false (eqb x.mode in_plain && x.fresh && not (is_blank b)))

pub sign-past : (g : Signs) (ms : List ℕ) (m : ℕ) → is_sign_header ms ≡ true → is_blank m ≡ false → Past (header_signs g) (ms ++ m ∷ [])
unfolding Past
sign-past g ms m h b ns x c e =
    takes-not g x c (rw (e, append_assoc ms (m ∷ []) ns) (signed-not ms ns m h b))

-- ## Before the blank

-- a blank leaves no token open only where it is one itself
lex-blank : (l : Lexed) (m : ℕ) → is_blank m ≡ true → eqb (lex l m).part gap ≡ true → (o : List Token) × ((lex l m).out ≡ o ++ token gap [] [] ∷ [])
unfolding lex lex_none
lex-blank l m b =
    let P : Lexed → Type 0 = λ x. eqb x.part gap ≡ true → (o : List Token) × (x.out ≡ o ++ token gap [] [] ∷ []) in
    let d : eqb m 62 ≡ false = ne_eqb m 62 (λ e. clash b (rw e)) in
    let q : eqb m 34 ≡ false = ne_eqb m 34 (λ e. clash b (rw e)) in
    let n : eqb m 60 ≡ false = ne_eqb m 60 (λ e. clash b (rw e)) in
    rw (b, d, q, n)
    (cond-by P (eqb l.part kind.word) (λ e p. (l.out ++ token kind.word l.text [] ∷ [], refl))
    (λ e. cond-by P (eqb l.part kind.name) (λ f p. clash p refl)
    (λ f. cond-by P (eqb l.part quote) (λ i p. clash p refl)
    (λ i. cond-by P (eqb l.part quoted_part) (λ j p. clash p refl) (λ j p. (l.out, refl))))))

-- a name, blanks and a last blank
second-gap : (o : List Token) → Signed (o ++ token gap [] [] ∷ []) → eqb (token_at (o ++ token gap [] [] ∷ []) 1).kind gap ≡ true
second-gap [] v =
    let e : token gap [] [] ≡ v.first = ap (λ (ts : List Token). token_at ts 0) v.is in
    clash (rw (sym e) at (no_kind v.first v.named)) refl
second-gap (x ∷ []) v = refl
second-gap (x ∷ y ∷ o) v =
    let e : y ∷ (o ++ token gap [] [] ∷ []) ≡ v.more = ap (λ (ts : List Token). drop 1 ts) v.is in
    gap-first false y (o ++ token gap [] [] ∷ []) (rw (sym e) at v.blanks)

length_none : (w : List ℕ) → eqb (length w) 0 ≡ true → w ≡ []
length_none w h = length-zero w (eqb-true (length w) 0 h)

signed-second : (ms : List ℕ) → is_sign_header ms ≡ true → fresh_through true ms ≡ true → eqb (token_at (tokens_of ms) 1).kind gap ≡ true
unfolding without_blanks lex_end
signed-second ms h f = go ms refl
  where
    go : (x : List ℕ) → ms ≡ x → eqb (token_at (tokens_of ms) 1).kind gap ≡ true
    go [] e =
        let v = signed ms h in
        let z : tokens_of ms ≡ [] = tokens_of-is ms ∙ rw e tokens_from-none in
        absurd (cons-ne-nil v.first v.more (sym v.is ∙ z))
    go (m ∷ x) e =
        let r = last-blank m x (ap (fresh_through true) (sym e) ∙ f) in
        let ns = r.0 in
        let n = r.1 in
        let k : ms ≡ ns ++ n ∷ [] = e ∙ r.2 in
        let b : is_blank n ≡ true = r.3 in
        let w = without_blanks ns in
        let v = signed ms h in
        by (eqb (length w) 0)
        (λ z. let u : without_blanks ms ≡ [] = ap without_blanks k ∙ blanks-blank ns n (length_none w z) b in
        absurd (cons-ne-nil v.first v.more (sym v.is ∙ tokens_of-is ms ∙ ap (tokens_from (no_part [])) u ∙ tokens_from-none)))
        (λ z. let l = lex_all (no_part []) w in
        let u : without_blanks ms ≡ w ++ n ∷ [] = ap without_blanks k ∙ blanks-append ns (n ∷ []) (λ y. clash (rw y) z) in
        let t : tokens_of ms ≡ lex_end (lex l n) = tokens_of-is ms ∙ ap (tokens_from (no_part [])) u ∙ tokens_from-all (no_part []) w (n ∷ []) ∙ last_end l n in
        let p : eqb (lex l n).part gap ≡ true = signed_part (lex l n) (rw t at v) in
        let o = lex-blank l n b p in
        let i : tokens_of ms ≡ o.0 ++ token gap [] [] ∷ [] = t ∙ rw p o.1 in
        rw i (second-gap o.0 (rw i at v)))

second-kept : (t : Token) (ts us : List Token) → eqb (token_at (t ∷ ts) 1).kind gap ≡ true → eqb (token_at (t ∷ (ts ++ us)) 1).kind gap ≡ true
second-kept t [] us h = clash h refl
second-kept t (x ∷ ts) us h = h

-- marks that are such a name and blanks open the line with the name and a blank
sign-opens : (ms ns : List ℕ) → is_sign_header ms ≡ true → fresh_through true ms ≡ true → opens_sign (tokens_of (ms ++ ns)) ≡ true
unfolding opens_sign is_named
sign-opens ms ns h f =
    let v = signed ms h in
    let g : eqb (token_at (v.first ∷ v.more) 1).kind gap ≡ true = rw v.is at (signed-second ms h f) in
    let e : tokens_of (ms ++ ns) ≡ v.first ∷ (v.more ++ tokens_from (no_part []) ns) = signed-then ms ns h ∙ rw v.is in
    rw e (and_intro v.named (second-kept v.first v.more (tokens_from (no_part []) ns) g))

-- no byte is taken as it stands, unless the marks open with the name and a blank
pub sign-never : (g : Signs) (all : List ℕ) → opens_sign (tokens_of all) ≡ false → Never (header_signs g) all
unfolding Never
sign-never g all h ms ns e f x b k =
    by (is_sign_header ms) (λ t. clash (rw (sym e) at (sign-opens ms ns t f)) h) (λ t. takes-not g x b (rw k t))

-- a header line that does not open with the name and a blank is plain
pub header-plain : (g : Signs) (bs : List ℕ) → opens_sign (tokens_of (line_of (plain_signs g) bs).marks) ≡ false → line_of (header_signs g) bs ≡ line_of (plain_signs g) bs
header-plain g bs h = line-never (header-kind g) bs (sign-never g (line_of (plain_signs g) bs).marks h)
