-- 01, "Refusals in order": the public operations, each with its whole answer in the paper's numbers, and what every area lent to it
-- holds afterwards. "Every public operation on a table checks this itself"; "Calls on tables and charmap areas test 11, 12, 14, 13, the
-- first string before the second"; "All other answers in a refusal are 0. Lent areas but the work area stay unchanged; on success so
-- does what lies past the result." The directory of 02, K2, stands last.
use Rattle.std.specs.Prelude.{not, ◌&&◌, List, [], ◌++◌, ℕ, length, drop, replicate, ltb, if◌then◌else◌}
use Rattle.rules.specs.Text.{Result, granted, refused}
use Rattle.rules.specs.Meaning.{Meaning, size_of}
use Rattle.rules.specs.Compile.{compile_of}
use Rattle.rules.specs.Order.{good_string, Step, step_of, Answer, compare_of, key_of, equal}
use Rattle.rules.specs.Table.{stored_form, meaning_in, accepted}
use Rattle.rules.specs.Charmap.{charmap_of}
use Rattle.rules.specs.Coding.{area_accepted, decode_of, encode_of}
use Rattle.rules.specs.Directory.{directory_of}

-- In each answer a refusal of 0 is none. An area is given as what it holds.

-- an area with a result in front
abbrev pub over : List ℕ → List ℕ → List ℕ
over result area = result ++ drop (length result) area

-- ## compile

-- The refusal and its line; how many numbers the table takes; the table area and the work area afterwards.
pub record Compiled : Type 0 where
  pub refusal : ℕ
  pub line : ℕ
  pub size : ℕ
  pub area : List ℕ
  pub work : List ℕ

-- "It is all zero after every call, refused ones too."
unfoldable pub cleared : List ℕ → List ℕ
cleared work = replicate (length work) 0

-- what the compiler leaves, of its result
unfoldable pub compiled_as : Result Meaning → List ℕ → List ℕ → Compiled
compiled_as (granted m) area work = record {
  refusal = 0;
  line = 0;
  size = size_of m;
  area = over (stored_form m []) area;
  work = cleared work;
}
compiled_as (refused n l) area work = record { refusal = n; line = l; size = 0; area = area; work = cleared work }

-- a source, a table area and a work area
unfoldable pub compile_call : List ℕ → List ℕ → List ℕ → Compiled
compile_call source area work = compiled_as (compile_of source (length area) (length work)) area work

-- ## check

-- The refusal; how many levels and items the table has, and how many numbers it takes.
pub record Checked : Type 0 where
  pub refusal : ℕ
  pub levels : ℕ
  pub items : ℕ
  pub size : ℕ

-- "table .. not accepted" (11)
unfoldable pub check_call : List ℕ → Checked
check_call table =
    let m : Meaning = meaning_in table in
    if accepted table then record { refusal = 0; levels = length m.rules; items = length m.items; size = size_of m }
    else record { refusal = 11; levels = 0; items = 0; size = 0 }

-- ## step

-- The refusal; the item's place, from 1, and its length.
pub record Stepped : Type 0 where
  pub refusal : ℕ
  pub place : ℕ
  pub size : ℕ

-- a table, a string and a place in it, from 0; the whole string is tested, also where the place lies past its end (docs/DECISIONS.md)
unfoldable pub step_call : List ℕ → List ℕ → ℕ → Stepped
step_call table s at =
    let e : Step = step_of (meaning_in table).items (drop at s) in
    if not (accepted table) then record { refusal = 11; place = 0; size = 0 }
    else if not (good_string s) then record { refusal = 12; place = 0; size = 0 }
    else record { refusal = 0; place = e.place; size = e.size }

-- ## compare

-- The refusal, and the answer; where all other answers are 0, the sign is that of equal strings.
pub record Compared : Type 0 where
  pub refusal : ℕ
  pub answer : Answer

-- the answer in a refusal
abbrev pub no_answer : Answer
no_answer = record { sign = equal; level = 0; agreed = 0 }

-- a table and two strings
unfoldable pub compare_call : List ℕ → List ℕ → List ℕ → Compared
compare_call table a b =
    if not (accepted table) then record { refusal = 11; answer = no_answer }
    else if not (good_string a && good_string b) then record { refusal = 12; answer = no_answer }
    else record { refusal = 0; answer = compare_of (meaning_in table) a b }

-- ## key, decode and encode: a text is written into the room lent

-- The refusal; how many numbers were written; the room afterwards.
pub record Written : Type 0 where
  pub refusal : ℕ
  pub size : ℕ
  pub room : List ℕ

-- what is left in the room, of a result
unfoldable pub written_as : Result (List ℕ) → List ℕ → Written
written_as (granted text) room = record { refusal = 0; size = length text; room = over text room }
written_as (refused n l) room = record { refusal = n; size = 0; room = room }

-- "key .. longer than the room lent" (13)
unfoldable pub key_for : List ℕ → List ℕ → ℕ → Result (List ℕ)
key_for table s room =
    let k : List ℕ = key_of (meaning_in table) s in
    if not (accepted table) then refused 11 0
    else if not (good_string s) then refused 12 0
    else if ltb room (length k) then refused 13 0
    else granted k

-- a table, a string, and room for bytes
unfoldable pub key_call : List ℕ → List ℕ → List ℕ → Written
key_call table s room = written_as (key_for table s (length room)) room

-- a charmap area, bytes, and room for characters
unfoldable pub decode_call : List ℕ → List ℕ → List ℕ → Written
decode_call area bs room = written_as (decode_of area bs (length room)) room

-- a charmap area, a string, and room for bytes
unfoldable pub encode_call : List ℕ → List ℕ → List ℕ → Written
encode_call area s room = written_as (encode_of area s (length room)) room

-- ## read a charmap, check an area

-- The refusal and its line; the area afterwards.
pub record Mapped : Type 0 where
  pub refusal : ℕ
  pub line : ℕ
  pub area : List ℕ

-- what reading leaves, of its result
unfoldable pub mapped_as : Result (List ℕ) → List ℕ → Mapped
mapped_as (granted numbers) area = record { refusal = 0; line = 0; area = over numbers area }
mapped_as (refused n l) area = record { refusal = n; line = l; area = area }

-- a charmap source and an area
unfoldable pub charmap_call : List ℕ → List ℕ → Mapped
charmap_call source area = mapped_as (charmap_of source (length area)) area

-- "charmap area not accepted" (11)
unfoldable pub area_call : List ℕ → ℕ
area_call area = if area_accepted area then 0 else 11

-- ## directory

-- The refusal; the list afterwards.
pub record Directed : Type 0 where
  pub refusal : ℕ
  pub list : List ℕ

-- what is left in the list, of a result
unfoldable pub directed_as : Result (List ℕ) → List ℕ → Directed
directed_as (granted numbers) list = record { refusal = 0; list = over numbers list }
directed_as (refused n l) list = record { refusal = n; list = list }

-- a table, a run of characters, headings and topics as starts and lengths in it, and a list for a heading number of each topic
unfoldable pub directory_call : (table run headings topics list : List ℕ) → Directed
directory_call table run headings topics list = directed_as (directory_of table run headings topics (length list)) list
