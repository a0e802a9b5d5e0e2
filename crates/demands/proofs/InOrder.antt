-- Demand 1: "Bad input gets the numbered refusal of document 01, in its order": of each public operation, for every answer, its refusal is the first
-- that is given of 01's list for it, or of 02's, and there is none on any other ground.
use Rattle.std.specs.Prelude.{if◌then◌else◌, Result}
use mathlib.Core.Path.{◌≡◌, ap, ◌∙◌}
use mathlib.Core.Bool.{not, ◌&&◌}
use mathlib.Core.List.{List, [], ◌∷◌, map}
use Prim.Native.Nat.{ℕ, ◌+◌}
use lib.ListN.{length}
use lib.Dec.{eqb, leb, ltb}
use borrow.Author.Tests.{ltb-true, ltb-false, le-leb, lt-leb}
use Rattle.base_lists.proofs.Bools.{by}
use Rattle.rules.specs.Text.{◌unless◌, within, every}
use Rattle.rules.specs.Names.{is_character}
use Rattle.rules.specs.Meaning.{size_of}
use Rattle.rules.specs.State.{start}
use Rattle.rules.specs.Source.{Ended, lines_from}
use Rattle.rules.specs.Compile.{is_ranked, unranked, meaning_of, finish, compile_of}
use Rattle.rules.specs.Order.{good_string, key_of}
use Rattle.rules.specs.Table.{accepted, meaning_in}
use Rattle.rules.specs.Charmap.{MapEnded, map_start, map_lines_from, charmap_of}
use Rattle.rules.specs.Coding.{area_accepted, code_at, byte_at, decode_of, encode_of}
use Rattle.rules.specs.Directory.{parts_of, parts_fit, good_part, weights_of, plain_first, good_headings, directory_of}
use Rattle.rules.specs.Calls as calls
use Rattle.rules.specs.Calls.{compiled_as, compile_call, check_call, step_call, compare_call, key_for, key_call, written_as, mapped_as, charmap_call, area_call, decode_call, encode_call, directed_as, directory_call}
use Rattle.locale_compile.specs.Answers.{told_as}
use Rattle.table_check.specs.Answers.{checked_as}
use Rattle.order_compare.specs.Answers.{stepped_as, compared_as}
use Rattle.order_keys.specs.Answers.{keyed_as}
use Rattle.charmap_read.specs.Answers.{read_as}
use Rattle.charmap_coding.specs.Answers.{number_is, written_is}
use Rattle.order_directory.specs.Answers.{directed_is}
use Rattle.demands.specs.Answered.{Compiles, Checks, Steps, Compares, Keys, Reads, ChecksArea, Decodes, Encodes, Directs, first_given}
use Rattle.order_compare.specs.declared.Answer.{Answer}
use Rattle.base_units.specs.declared.Refusal.{Refusal}
use Rattle.table_check.specs.declared.Shape.{Shape}

-- the two ways to say that n is not above m
not-above : (n m : ℕ) → leb n m ≡ not (ltb m n)
not-above n m = by (ltb m n) (λ t. rw t (lt-leb n m (ltb-true m n t))) (λ t. rw t (le-leb n m (ltb-false m n t)))

-- ## Tables

pub check-refusal : (t : List ℕ) (r : Result Shape Refusal) → Checks t r → (checked_as r).refusal ≡ first_given (11 unless accepted t ∷ [])
unfolding check_call first_given
check-refusal t r e = ap (λ (c : calls.Checked). c.refusal) e ∙ by (accepted t) (λ p. rw p) (λ p. rw p)

pub step-refusal : (t s : List ℕ) (at : ℕ) (r : Result (ℕ × ℕ) Refusal) → Steps t s at r → (stepped_as r).refusal ≡ first_given (11 unless accepted t ∷ 12 unless good_string s ∷ [])
unfolding step_call first_given
step-refusal t s at r e =
    ap (λ (c : calls.Stepped). c.refusal) e
    ∙ by (accepted t) (λ p. by (good_string s) (λ q. rw (p, q)) (λ q. rw (p, q))) (λ p. rw p)

-- "the first string before the second"
pub compare-refusal : (t a b : List ℕ) (r : Result Answer Refusal) → Compares t a b r
    → (compared_as r).refusal ≡ first_given (11 unless accepted t ∷ 12 unless good_string a ∷ 12 unless good_string b ∷ [])
unfolding compare_call first_given
compare-refusal t a b r e =
    ap (λ (c : calls.Compared). c.refusal) e
    ∙ by (accepted t)
    (λ p. by (good_string a) (λ x. by (good_string b) (λ y. rw (p, x, y)) (λ y. rw (p, x, y))) (λ x. rw (p, x)))
    (λ p. rw p)

pub key-refusal : (t s room : List ℕ) (r : Result ℕ Refusal) (room₁ : List ℕ) → Keys t s room r room₁
    → (keyed_as r room₁).refusal ≡ first_given (11 unless accepted t ∷ 12 unless good_string s ∷ 13 unless leb (length (key_of (meaning_in t) s)) (length room) ∷ [])
unfolding key_call key_for written_as first_given
key-refusal t s room r room₁ e =
    ap (λ (c : calls.Written). c.refusal) e
    ∙ by (accepted t)
    (λ p. by (good_string s)
    (λ q. rw (not-above (length (key_of (meaning_in t) s)) (length room))
    (by (ltb (length room) (length (key_of (meaning_in t) s))) (λ k. rw (p, q, k)) (λ k. rw (p, q, k))))
    (λ q. rw (p, q)))
    (λ p. rw p)

-- ## Charmap areas

pub check-area-refusal : (area : List ℕ) (r : Result Unit Refusal) → ChecksArea area r → number_is r ≡ first_given (11 unless area_accepted area ∷ [])
unfolding area_call first_given
check-area-refusal area r e = e ∙ by (area_accepted area) (λ p. rw p) (λ p. rw p)

pub decode-refusal : (area bs room : List ℕ) (r : Result ℕ Refusal) (room₁ : List ℕ) → Decodes area bs room r room₁
    → (written_is r room₁).refusal
    ≡ first_given (11 unless area_accepted area ∷ 12 unless leb (length bs) 4096 ∷ 14 unless every is_character (map (code_at area) bs)
    ∷ 13 unless leb (length (map (code_at area) bs)) (length room) ∷ [])
unfolding decode_call decode_of written_as first_given
decode-refusal area bs room r room₁ e =
    let text : List ℕ = map (code_at area) bs in
    ap (λ (c : calls.Written). c.refusal) e
    ∙ rw (not-above (length bs) 4096, not-above (length text) (length room))
    (by (area_accepted area)
    (λ p. by (ltb 4096 (length bs))
    (λ q. rw (p, q))
    (λ q. by (every is_character text)
    (λ k. by (ltb (length room) (length text)) (λ z. rw (p, q, k, z)) (λ z. rw (p, q, k, z)))
    (λ k. rw (p, q, k))))
    (λ p. rw p))

pub encode-refusal : (area s room : List ℕ) (r : Result ℕ Refusal) (room₁ : List ℕ) → Encodes area s room r room₁
    → (written_is r room₁).refusal
    ≡ first_given (11 unless area_accepted area ∷ 12 unless good_string s ∷ 14 unless every (within 0 255) (map (byte_at area) s)
    ∷ 13 unless leb (length (map (byte_at area) s)) (length room) ∷ [])
unfolding encode_call encode_of written_as first_given
encode-refusal area s room r room₁ e =
    let bs : List ℕ = map (byte_at area) s in
    ap (λ (c : calls.Written). c.refusal) e
    ∙ rw (not-above (length bs) (length room))
    (by (area_accepted area)
    (λ p. by (good_string s)
    (λ q. by (every (within 0 255) bs)
    (λ k. by (ltb (length room) (length bs)) (λ z. rw (p, q, k, z)) (λ z. rw (p, q, k, z)))
    (λ k. rw (p, q, k)))
    (λ q. rw (p, q)))
    (λ p. rw p))

-- ## Sources: "1 comes first. Then lines in order; within one joined line the lowest number wins. Then 8, by line, then 9." The order among lines, and the
-- lowest of a line, are those of `lines_from` and `map_lines_from` in Rattle.rules.specs.

pub read-refusal : (src area : List ℕ) (r : Result Unit (Refusal × ℕ)) (area₁ : List ℕ) → Reads src area r area₁
    → (read_as r area₁).refusal
    ≡ first_given (1 unless leb (length src) 1048576 ∷ (map_lines_from map_start 1 0 src).refusal ∷ 9 unless leb 512 (length area) ∷ [])
unfolding charmap_call charmap_of mapped_as first_given
read-refusal src area r area₁ e =
    let m : MapEnded = map_lines_from map_start 1 0 src in
    ap (λ (c : calls.Mapped). c.refusal) e
    ∙ rw (not-above (length src) 1048576, not-above 512 (length area))
    (by (ltb 1048576 (length src))
    (λ p. rw p)
    (λ p. by (eqb m.refusal 0)
    (λ q. by (ltb (length area) 512) (λ k. rw (p, q, k)) (λ k. rw (p, q, k)))
    (λ q. rw (p, q))))

pub compile-refusal : (src area work : List ℕ) (r : Result ℕ (Refusal × ℕ)) (area₁ work₁ : List ℕ) → Compiles src area work r area₁ work₁
    → let e : Ended = lines_from start 1 0 src in
    (told_as r area₁ work₁).refusal
    ≡ first_given (1 unless (leb (length src) 1048576 && leb (length src + 64) (length work)) ∷ e.refusal
    ∷ 8 unless every (is_ranked e.state.ordered.lines) e.state.ordered.lines ∷ 9 unless leb (size_of (meaning_of e.state)) (length area) ∷ [])
unfolding compile_call compile_of finish compiled_as first_given
compile-refusal src area work r area₁ work₁ h =
    let e : Ended = lines_from start 1 0 src in
    let ls = e.state.ordered.lines in
    ap (λ (c : calls.Compiled). c.refusal) h
    ∙ rw (not-above (size_of (meaning_of e.state)) (length area))
    (by (leb (length src) 1048576 && leb (length src + 64) (length work))
    (λ p. by (eqb e.refusal 0)
    (λ q. by (every (is_ranked ls) ls)
    (λ k. by (ltb (length area) (size_of (meaning_of e.state))) (λ z. rw (p, q, k, z)) (λ z. rw (p, q, k, z)))
    (λ k. rw (p, q, k)))
    (λ q. rw (p, q)))
    (λ p. rw p))

-- ## "A refusal carries the number of the first physical line, 0 for 1, 9 and 11 to 14"

pub read-line : (src area : List ℕ) (r : Result Unit (Refusal × ℕ)) (area₁ : List ℕ) → Reads src area r area₁
    → (read_as r area₁).line
    ≡ (if not (leb (length src) 1048576) then 0
    else if not (eqb (map_lines_from map_start 1 0 src).refusal 0) then (map_lines_from map_start 1 0 src).line
    else 0)
unfolding charmap_call charmap_of mapped_as
read-line src area r area₁ e =
    let m : MapEnded = map_lines_from map_start 1 0 src in
    ap (λ (c : calls.Mapped). c.line) e
    ∙ rw (not-above (length src) 1048576)
    (by (ltb 1048576 (length src))
    (λ p. rw p)
    (λ p. by (eqb m.refusal 0)
    (λ q. by (ltb (length area) 512) (λ k. rw (p, q, k)) (λ k. rw (p, q, k)))
    (λ q. rw (p, q))))

-- 8 carries that of the line with such a weight that was written first
pub compile-line : (src area work : List ℕ) (r : Result ℕ (Refusal × ℕ)) (area₁ work₁ : List ℕ) → Compiles src area work r area₁ work₁
    → let e : Ended = lines_from start 1 0 src in
    (told_as r area₁ work₁).line
    ≡ (if not (leb (length src) 1048576 && leb (length src + 64) (length work)) then 0
    else if not (eqb e.refusal 0) then e.line
    else if not (every (is_ranked e.state.ordered.lines) e.state.ordered.lines) then unranked e.state.ordered.lines e.state.ordered.lines
    else 0)
unfolding compile_call compile_of finish compiled_as
compile-line src area work r area₁ work₁ h =
    let e : Ended = lines_from start 1 0 src in
    let ls = e.state.ordered.lines in
    ap (λ (c : calls.Compiled). c.line) h
    ∙ by (leb (length src) 1048576 && leb (length src + 64) (length work))
    (λ p. by (eqb e.refusal 0)
    (λ q. by (every (is_ranked ls) ls)
    (λ k. by (ltb (length area) (size_of (meaning_of e.state))) (λ z. rw (p, q, k, z)) (λ z. rw (p, q, k, z)))
    (λ k. rw (p, q, k)))
    (λ q. rw (p, q)))
    (λ p. rw p)

-- ## The directory

-- 02, K2: "Refusals, in this order", each over all headings, then all topics
pub directory-refusal : (t run headings topics list : List ℕ) (r : Result Unit Refusal) (list₁ : List ℕ) → Directs t run headings topics list r list₁
    → (directed_is r list₁).refusal ≡ first_given
    (11 unless accepted t
    ∷ 16 unless plain_first (meaning_in t).rules
    ∷ 17 unless parts_fit run (parts_of headings)
    ∷ 17 unless parts_fit run (parts_of topics)
    ∷ 12 unless every (good_part run) (parts_of headings)
    ∷ 12 unless every (good_part run) (parts_of topics)
    ∷ 15 unless good_headings (weights_of t run headings)
    ∷ 13 unless leb (length (parts_of topics)) (length list)
    ∷ [])
unfolding directory_call directory_of directed_as first_given
directory-refusal t run headings topics list r list₁ e =
    ap (λ (c : calls.Directed). c.refusal) e
    ∙ rw (not-above (length (parts_of topics)) (length list))
    (by (accepted t)
    (λ a. by (plain_first (meaning_in t).rules)
    (λ b. by (parts_fit run (parts_of headings))
    (λ c. by (parts_fit run (parts_of topics))
    (λ d. by (every (good_part run) (parts_of headings))
    (λ f. by (every (good_part run) (parts_of topics))
    (λ g. by (good_headings (weights_of t run headings))
    (λ h. by (ltb (length list) (length (parts_of topics))) (λ i. rw (a, b, c, d, f, g, h, i)) (λ i. rw (a, b, c, d, f, g, h, i)))
    (λ h. rw (a, b, c, d, f, g, h)))
    (λ g. rw (a, b, c, d, f, g)))
    (λ f. rw (a, b, c, d, f)))
    (λ d. rw (a, b, c, d)))
    (λ c. rw (a, b, c)))
    (λ b. rw (a, b)))
    (λ a. rw a))
