-- Demand 1: "a refused call leaves tables and keys untouched". 01: "Lent areas but the work area stay unchanged; on success so does what lies past the
-- result", and the work area "is all zero after every call, refused ones too". What is lent for reading alone cannot be written, so the other four operations
-- need no such law. What lies past a directory's list is in Pages.
use Rattle.std.specs.Prelude.{Err, Ok, Result, ℕ}
use mathlib.Core.Path.{◌≡◌, refl, sym, ap, ◌∙◌}
use mathlib.Core.List.{List, []}
use Prim.Native.Nat.{ℕ}
use native.Mathlib.Omega.{arith}
use lib.ListN.{length, drop, replicate}
use lib.Seq.{drop-append_seam}
use Rattle.rules.specs.Text.{Result as Judged, granted, refused}
use Rattle.rules.specs.Meaning.{Meaning}
use Rattle.rules.specs.Table.{stored_form}
use Rattle.rules.specs.Compile.{compile_of}
use Rattle.rules.specs.Charmap.{charmap_of}
use Rattle.rules.specs.Coding.{decode_of, encode_of}
use Rattle.rules.specs.Directory.{directory_of}
use Rattle.rules.specs.Calls as calls
use Rattle.rules.specs.Calls.{over, cleared, compiled_as, compile_call, key_for, key_call, mapped_as, charmap_call, written_as, decode_call, encode_call, directed_as, directory_call}
use Rattle.rules.proofs.SizeLaws.{stored-size}
use Rattle.rules.proofs.CompileLaws.{compile-good}
use Rattle.rules.proofs.CharmapLaws.{charmap-length}
use Rattle.base_units.specs.declared.Refusal.{Refusal}
use Rattle.base_units.specs.Numbers.{number_of}
use Rattle.base_units.proofs.NumberLaws.{number_of-some}
use Rattle.locale_compile.specs.Answers.{told_as}
use Rattle.locale_compile.proofs.CodeLaws.{compile-gives}
use Rattle.charmap_read.proofs.CodeLaws.{read-gives}
use Rattle.demands.specs.Answered.{Compiles, Keys, Reads, Decodes, Encodes, Directs}

-- ## Refused

compiled-refused : (x : Judged Meaning) (area work area₁ work₁ : List ℕ) (r : Refusal) (l : ℕ)
    → told_as (Err (r, l)) area₁ work₁ ≡ compiled_as x area work → area₁ ≡ area
unfolding compiled_as
compiled-refused (granted m) area work area₁ work₁ r l e = absurd (number_of-some r (ap (λ (c : calls.Compiled). c.refusal) e))
compiled-refused (refused n k) area work area₁ work₁ r l e = ap (λ (c : calls.Compiled). c.area) e

pub compile-untouched : (src area work area₁ work₁ : List ℕ) (r : Refusal) (l : ℕ) → Compiles src area work (Err (r, l)) area₁ work₁ → area₁ ≡ area
unfolding compile_call
compile-untouched src area work area₁ work₁ r l e = compiled-refused (compile_of src (length area) (length work)) area work area₁ work₁ r l e

mapped-refused : (x : Judged (List ℕ)) (area area₁ : List ℕ) (r : Refusal) (l : ℕ) → record { refusal = number_of r; line = l; area = area₁ } ≡ mapped_as x area → area₁ ≡ area
unfolding mapped_as
mapped-refused (granted ns) area area₁ r l e = absurd (number_of-some r (ap (λ (c : calls.Mapped). c.refusal) e))
mapped-refused (refused n k) area area₁ r l e = ap (λ (c : calls.Mapped). c.area) e

pub read-untouched : (src area area₁ : List ℕ) (r : Refusal) (l : ℕ) → Reads src area (Err (r, l)) area₁ → area₁ ≡ area
unfolding charmap_call
read-untouched src area area₁ r l e = mapped-refused (charmap_of src (length area)) area area₁ r l e

-- key, decode and encode leave their room by one definition
written-refused : (x : Judged (List ℕ)) (room room₁ : List ℕ) (r : Refusal) → record { refusal = number_of r; size = 0; room = room₁ } ≡ written_as x room → room₁ ≡ room
unfolding written_as
written-refused (granted text) room room₁ r e = absurd (number_of-some r (ap (λ (c : calls.Written). c.refusal) e))
written-refused (refused n l) room room₁ r e = ap (λ (c : calls.Written). c.room) e

pub key-untouched : (t s room room₁ : List ℕ) (r : Refusal) → Keys t s room (Err r) room₁ → room₁ ≡ room
unfolding key_call
key-untouched t s room room₁ r e = written-refused (key_for t s (length room)) room room₁ r e

pub decode-untouched : (area bs room room₁ : List ℕ) (r : Refusal) → Decodes area bs room (Err r) room₁ → room₁ ≡ room
unfolding decode_call
decode-untouched area bs room room₁ r e = written-refused (decode_of area bs (length room)) room room₁ r e

pub encode-untouched : (area s room room₁ : List ℕ) (r : Refusal) → Encodes area s room (Err r) room₁ → room₁ ≡ room
unfolding encode_call
encode-untouched area s room room₁ r e = written-refused (encode_of area s (length room)) room room₁ r e

directed-refused : (x : Judged (List ℕ)) (list list₁ : List ℕ) (r : Refusal) → record { refusal = number_of r; list = list₁ } ≡ directed_as x list → list₁ ≡ list
unfolding directed_as
directed-refused (granted ns) list list₁ r e = absurd (number_of-some r (ap (λ (c : calls.Directed). c.refusal) e))
directed-refused (refused n l) list list₁ r e = ap (λ (c : calls.Directed). c.list) e

pub directory-untouched : (t run headings topics list list₁ : List ℕ) (r : Refusal) → Directs t run headings topics list (Err r) list₁
    → list₁ ≡ list
unfolding directory_call
directory-untouched t run headings topics list list₁ r e = directed-refused (directory_of t run headings topics (length list)) list list₁ r e

-- ## The work area

cleared-after : (x : Judged Meaning) (area work : List ℕ) → (compiled_as x area work).work ≡ replicate (length work) 0
unfolding compiled_as cleared
cleared-after (granted m) area work = refl
cleared-after (refused n l) area work = refl

pub compile-clears : (src area work area₁ work₁ : List ℕ) (r : Result ℕ (Refusal × ℕ)) → Compiles src area work r area₁ work₁ → work₁ ≡ replicate (length work) 0
unfolding compile_call
compile-clears src area work area₁ work₁ r e = told-work r ∙ ap (λ (c : calls.Compiled). c.work) e ∙ cleared-after (compile_of src (length area) (length work)) area work
  where
    told-work : (x : Result ℕ (Refusal × ℕ)) → work₁ ≡ (told_as x area₁ work₁).work
    told-work (Ok n) = refl
    told-work (Err (q, l)) = refl

-- ## What lies past the result

-- a result in front of an area leaves what lies past it
pub past-over : (n : ℕ) (front area area₁ : List ℕ) → n ≡ length front → area₁ ≡ over front area → drop n area₁ ≡ drop n area
past-over n front area area₁ e f =
    ap (λ (x : ℕ). drop x area₁) e ∙ ap (drop (length front)) f ∙ drop-append_seam front (drop (length front) area) ∙ sym (ap (λ (x : ℕ). drop x area) e)

written-past : (x : Judged (List ℕ)) (room room₁ : List ℕ) (n : ℕ) → record { refusal = 0; size = n; room = room₁ } ≡ written_as x room → drop n room₁ ≡ drop n room
unfolding written_as
written-past (granted text) room room₁ n e = past-over n text room room₁ (ap (λ (c : calls.Written). c.size) e) (ap (λ (c : calls.Written). c.room) e)
written-past (refused m l) room room₁ n e = ap (λ (c : calls.Written). drop n c.room) e

pub key-past : (t s room room₁ : List ℕ) (n : ℕ) → Keys t s room (Ok n) room₁ → drop n room₁ ≡ drop n room
unfolding key_call
key-past t s room room₁ n e = written-past (key_for t s (length room)) room room₁ n e

pub decode-past : (area bs room room₁ : List ℕ) (n : ℕ) → Decodes area bs room (Ok n) room₁ → drop n room₁ ≡ drop n room
unfolding decode_call
decode-past area bs room room₁ n e = written-past (decode_of area bs (length room)) room room₁ n e

pub encode-past : (area s room room₁ : List ℕ) (n : ℕ) → Encodes area s room (Ok n) room₁ → drop n room₁ ≡ drop n room
unfolding encode_call
encode-past area s room room₁ n e = written-past (encode_of area s (length room)) room room₁ n e

pub compile-past : (src area work area₁ work₁ : List ℕ) (n : ℕ) → Compiles src area work (Ok n) area₁ work₁ → drop n area₁ ≡ drop n area
compile-past src area work area₁ work₁ n e =
    let g = compile-gives src area work area₁ work₁ n e in
    let w = stored-size g.meaning [] (compile-good src (length area) (length work) g.meaning g.grants) in
    let l = g.long in
    past-over n (stored_form g.meaning []) area area₁ (omega arith) g.there

pub read_past : (src area area₁ : List ℕ) → Reads src area (Ok tt) area₁ → drop 512 area₁ ≡ drop 512 area
read_past src area area₁ e =
    let g = read-gives src area area₁ e in
    past-over 512 g.numbers area area₁ (sym (charmap-length src (length area) g.numbers g.grants)) g.there
