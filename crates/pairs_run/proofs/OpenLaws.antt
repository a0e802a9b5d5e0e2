-- The two files: what the compiler and the reader of charmaps answer is what the paper says of them, and so is what is printed.
use Rattle.std.specs.Prelude.{Err, Ok, Result, ℕ}
use mathlib.Core.Path.{◌≡◌, sym, ap, ◌∙◌}
use mathlib.Core.Bool.{true, false, false≢true}
use mathlib.Core.List.{List, [], ◌∷◌, ◌++◌, append-nil}
use Prim.Native.Nat.{ℕ, ◌+◌, ◌≤◌, ◌<◌}
use native.Mathlib.Omega.{arith}
use lib.ListN.{length, take, drop, drop_of_length-le}
use lib.Seq.{length-take-le}
use borrow.Author.Tests.{lt-ltb, le-ltb}
use Rattle.rules.specs.Text.{bytes, Result as Judged, granted, refused}
use Rattle.rules.specs.Meaning.{Meaning}
use Rattle.rules.specs.Table.{accepted, meaning_in}
use Rattle.rules.specs.Compile.{compile_of}
use Rattle.rules.specs.Charmap.{charmap_of}
use Rattle.rules.specs.Calls as calls
use Rattle.rules.specs.Calls.{compiled_as, compile_call, mapped_as, charmap_call}
use Rattle.rules.specs.Pairs.{file_line, locale_file, charmap_file, pairs_with, pairs_from, pairs_of}
use Rattle.rules.proofs.CharmapLaws.{charmap-length}
use Rattle.base_units.specs.Numbers.{number_of}
use Rattle.base_units.specs.declared.Refusal.{Refusal}
use Rattle.base_units.specs.declared.Refusal.TheVariants.{TooLong}
use Rattle.base_units.proofs.NumberLaws.{number_of-some}
use Rattle.charmap_read.specs.Answers.{read_as}
use Rattle.charmap_read.proofs.CodeLaws.{read-gives}
use Rattle.locale_compile.specs.Answers.{told_as}
use Rattle.locale_compile.proofs.CodeLaws.{compile-gives, compile-accepted, compile-means}
use Rattle.order_keys.specs.Writing.{Puts}
use Rattle.pairs_printing.specs.Printed.{Prints}
use Rattle.pairs_report.specs.Feeding.{report_from}
use Rattle.pairs_report.proofs.FeedLaws.{puts-take}
use Rattle.pairs_run.specs.Opening.{locale_as, is_done, LocaleIs, charmap_as, CharmapIs, is_reading, CharmapOpens, FilesOpen}
use Rattle.pairs_run.specs.declared.Opened.{Opened}
use Rattle.pairs_run.specs.declared.Opened.TheVariants as opened

-- ## The locale

-- a refusal's number and line are the paper's
stopped-compile : (q : Judged Meaning) (r : Refusal) (l : ℕ) (area work after cleaned : List ℕ)
    → told_as (Err (r, l)) after cleaned ≡ compiled_as q area work → refused (number_of r) l ≡ q
unfolding compiled_as
stopped-compile (granted m) r l area work after cleaned e = absurd (number_of-some r (ap (λ (c : calls.Compiled). c.refusal) e))
stopped-compile (refused n k) r l area work after cleaned e =
    ap (λ (x : ℕ). refused x l) (ap (λ (c : calls.Compiled). c.refusal) e) ∙ ap (λ (x : ℕ). refused n x) (ap (λ (c : calls.Compiled). c.line) e)

pub locale-long : (src table : List ℕ) → 8192 < length src → LocaleIs src table (Err (TooLong, 0))
unfolding locale_file
locale-long src table h = record { is = rw (lt-ltb 8192 (length src) h); good = λ t. absurd (false≢true t) }

module _ (src table work after cleaned : List ℕ) (short : length src ≤ 8192) (room : length table ≡ 8192) (own : length work ≡ length src + 64) where
  locale-compiles : compile_of src (length table) (length work) ≡ locale_file src
  unfolding locale_file
  locale-compiles = rw (le-ltb 8192 (length src) short, room, own)

  locale-reads : (s : Result ℕ (Refusal × ℕ)) → told_as s after cleaned ≡ compile_call src table work → LocaleIs src after s
  unfolding compile_call
  locale-reads (Ok n) e =
      let g = compile-gives src table work after cleaned n e in
      record {
        is = ap granted (compile-means src table work after cleaned n e g) ∙ sym g.grants ∙ locale-compiles;
        good = λ t. compile-accepted src table work after cleaned n e;
      }
  locale-reads (Err (r, l)) e = record {
    is = stopped-compile (compile_of src (length table) (length work)) r l table work after cleaned e ∙ locale-compiles;
    good = λ t. absurd (false≢true t);
  }

pub locale-part : (src work : List ℕ) → length src ≤ 8192 → length work ≡ 8256 → length src + 64 ≡ length (take (length src + 64) work)
locale-part src work short own =
    let k : length src + 64 ≤ length work = omega arith in
    sym (length-take-le (length src + 64) work k)

-- the compiler is lent as much of its area as the source asks for
pub locale-read : (src table work after cleaned : List ℕ) (s : Result ℕ (Refusal × ℕ)) → length src ≤ 8192 → length table ≡ 8192 → length work ≡ 8256
    → told_as s after cleaned ≡ compile_call src table (take (length src + 64) work) → LocaleIs src after s
locale-read src table work after cleaned s short room own e =
    let n : ℕ = length src + 64 in
    let k : n ≤ length work = omega arith in
    locale-reads src table (take n work) after cleaned short room (length-take-le n work k) s e

-- ## The charmap

stopped-charmap : (q : Judged (List ℕ)) (r : Refusal) (l : ℕ) (area after : List ℕ) → read_as (Err (r, l)) after ≡ mapped_as q area
    → refused (number_of r) l ≡ q
unfolding mapped_as
stopped-charmap (granted numbers) r l area after e = absurd (number_of-some r (ap (λ (c : calls.Mapped). c.refusal) e))
stopped-charmap (refused n k) r l area after e =
    ap (λ (x : ℕ). refused x l) (ap (λ (c : calls.Mapped). c.refusal) e) ∙ ap (λ (x : ℕ). refused n x) (ap (λ (c : calls.Mapped). c.line) e)

pub charmap-long : (src area : List ℕ) → 8192 < length src → CharmapIs src area (Err (TooLong, 0))
unfolding charmap_file
charmap-long src area h = record { is = rw (lt-ltb 8192 (length src) h) }

module _ (src area after : List ℕ) (short : length src ≤ 8192) (room : length area ≡ 512) where
  charmap-reads : charmap_of src (length area) ≡ charmap_file src
  unfolding charmap_file
  charmap-reads = rw (le-ltb 8192 (length src) short, room)

  pub charmap-read : (s : Result Unit (Refusal × ℕ)) → read_as s after ≡ charmap_call src area → CharmapIs src after s
  unfolding charmap_call
  charmap-read (Ok u) e =
      let g = read-gives src area after e in
      let n : length g.numbers ≡ 512 = charmap-length src (length area) g.numbers g.grants in
      let k : length area ≤ length g.numbers = omega (arith, n, room) in
      let all : drop (length g.numbers) area ≡ [] = drop_of_length-le area k in
      let whole : after ≡ g.numbers = g.there ∙ ap (λ (x : List ℕ). g.numbers ++ x) all ∙ append-nil g.numbers in
      record { is = ap granted whole ∙ sym g.grants ∙ charmap-reads }
  charmap-read (Err (r, l)) e = record { is = stopped-charmap (charmap_of src (length area)) r l area after e ∙ charmap-reads }

-- ## What is printed

-- all that was put from the front on
put_whole : {room bytes after : List ℕ} {next : ℕ} → Puts room 0 bytes after next → next ≤ length room → take next after ≡ bytes
put_whole p h = puts-take p (omega (arith, p.to))

module _ {charmap area : List ℕ} {s : Result Unit (Refusal × ℕ)} (v : CharmapIs charmap area s) {room after : List ℕ} {next : ℕ} (big : 100 ≤ length room)
    (long : length after ≡ length room) where
  -- the bytes are `charmap`
  pub charmap-closed : {r : Refusal} {l n : ℕ} → s ≡ Err (r, l) → n ≡ number_of r
      → Prints (7 + 80) room 0 (file_line (99 ∷ 104 ∷ 97 ∷ 114 ∷ 109 ∷ 97 ∷ 112 ∷ []) n l) after next → CharmapOpens charmap area after (opened.Closed next)
  unfolding pairs_with bytes
  charmap-closed {r} {l} {n} e i p =
      let file : charmap_file charmap ≡ refused n l = sym v.is ∙ ap (λ (x : Result Unit (Refusal × ℕ)). charmap_as x area) e ∙ ap (λ (x : ℕ). refused x l) (sym i) in
      record {
        same = λ m input. put_whole p.puts (omega (arith, p.short)) ∙ rw file;
        inside = omega (arith, p.short);
        room = omega arith;
      }

  -- the bytes are the heading
  pub charmap-opens : s ≡ (Ok tt)
      → Puts room 0 (112 ∷ 97 ∷ 105 ∷ 114 ∷ 32 ∷ 115 ∷ 105 ∷ 103 ∷ 110 ∷ 32 ∷ 108 ∷ 101 ∷ 118 ∷ 101 ∷ 108 ∷ 32 ∷ 97 ∷ 103 ∷ 114 ∷ 101 ∷ 101 ∷ 100 ∷ 10 ∷ []) after next
      → CharmapOpens charmap area after (opened.Reading next)
  unfolding pairs_with report_from bytes
  charmap-opens e p =
      let file : charmap_file charmap ≡ granted area = sym v.is ∙ ap (λ (x : Result Unit (Refusal × ℕ)). charmap_as x area) e in
      record {
        same = λ m input. ap (λ (x : List ℕ). x ++ report_from m area 0 [] [] input) (put_whole p (omega (arith, p.to))) ∙ rw file;
        inside = omega (arith, p.to);
        room = omega arith;
      }

module _ {locale table : List ℕ} {s : Result ℕ (Refusal × ℕ)} (v : LocaleIs locale table s) where
  -- the bytes are `locale`
  pub files-closed : (charmap area : List ℕ) {room after : List ℕ} {next : ℕ} {r : Refusal} {l n : ℕ} → 100 ≤ length room → length after ≡ length room
      → s ≡ Err (r, l) → n ≡ number_of r → Prints (6 + 80) room 0 (file_line (108 ∷ 111 ∷ 99 ∷ 97 ∷ 108 ∷ 101 ∷ []) n l) after next
      → FilesOpen locale charmap table area after (opened.Closed next)
  unfolding pairs_of pairs_from bytes
  files-closed charmap area {r = r} {l} {n} big long e i p =
      let file : locale_file locale ≡ refused n l = sym v.is ∙ ap (λ (x : Result ℕ (Refusal × ℕ)). locale_as x table) e ∙ ap (λ (x : ℕ). refused x l) (sym i) in
      record {
        same = λ input. put_whole p.puts (omega (arith, p.short)) ∙ rw file;
        good = λ t. absurd (false≢true t);
        inside = omega (arith, p.short);
        room = omega arith;
      }

  pub files-open : {charmap area out : List ℕ} {n : ℕ} {o : Opened} → s ≡ Ok n → CharmapOpens charmap area out o
      → FilesOpen locale charmap table area out o
  unfolding pairs_of pairs_from
  files-open e w =
      let file : locale_file locale ≡ granted (meaning_in table) = sym v.is ∙ ap (λ (x : Result ℕ (Refusal × ℕ)). locale_as x table) e in
      record {
        same = λ input. w.same (meaning_in table) input ∙ rw file;
        good = λ t. v.good (ap is_done e);
        inside = w.inside;
        room = w.room;
      }

-- ## Then

module _ {locale charmap table area out : List ℕ} {s : Opened} (v : FilesOpen locale charmap table area out s) where
  pub closed-inside : {n : ℕ} → s ≡ opened.Closed n → n ≤ length out
  closed-inside e = rw e at v.inside

  pub closed-length : {n : ℕ} → s ≡ opened.Closed n → n ≡ length (take n out)
  closed-length {n} e = sym (length-take-le n out (closed-inside e))

  pub reading-inside : {n : ℕ} → s ≡ opened.Reading n → n ≤ length out
  reading-inside e = rw e at v.inside

  pub reading-length : {n : ℕ} → s ≡ opened.Reading n → n ≡ length (take n out)
  reading-length {n} e = sym (length-take-le n out (reading-inside e))

  pub reading-good : {n : ℕ} → s ≡ opened.Reading n → accepted table ≡ true
  reading-good e = v.good (ap is_reading e)

  pub files-room : 80 ≤ length out
  files-room = v.room
