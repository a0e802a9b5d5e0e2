-- What the answers of the two files are on the paper, and what is printed of them.
use Rattle.std.specs.Prelude.{◌≡◌, Bool, true, false, List, [], ◌++◌, ℕ, ◌≤◌, length, take, Err, Ok, Result}
use Rattle.rules.specs.Text.{Result as Judged, granted, refused}
use Rattle.rules.specs.Meaning.{Meaning}
use Rattle.rules.specs.Table.{accepted, meaning_in}
use Rattle.rules.specs.Pairs.{locale_file, charmap_file, pairs_with, pairs_of}
use Rattle.base_units.specs.Numbers.{number_of}
use Rattle.pairs_report.specs.Feeding.{report_from}
use Rattle.pairs_run.specs.declared.Opened.{Opened}
use Rattle.pairs_run.specs.declared.Opened.TheVariants as opened
use Rattle.base_units.specs.declared.Refusal.{Refusal}

-- ## The locale

-- an answer, with the table's area
abbrev pub locale_as : Result ℕ (Refusal × ℕ) → List ℕ → Judged Meaning
locale_as (Ok n) table = granted (meaning_in table)
locale_as (Err (r, l)) table = refused (number_of r) l

-- there is a table
abbrev pub is_done : Result ℕ (Refusal × ℕ) → Bool
is_done (Ok n) = true
is_done (Err (r, l)) = false

-- The answer is the paper's, and a table that is made is accepted.
pub record LocaleIs (src table : List ℕ) (s : Result ℕ (Refusal × ℕ)) : Type 0 where
  pub is : locale_as s table ≡ locale_file src
  pub good : is_done s ≡ true → accepted table ≡ true

-- ## The charmap

-- an answer, with the area
abbrev pub charmap_as : Result Unit (Refusal × ℕ) → List ℕ → Judged (List ℕ)
charmap_as (Ok tt) area = granted area
charmap_as (Err (r, l)) area = refused (number_of r) l

pub record CharmapIs (src area : List ℕ) (s : Result Unit (Refusal × ℕ)) : Type 0 where
  pub is : charmap_as s area ≡ charmap_file src

-- ## What is printed

-- what is printed in all, of a locale with this meaning, an area and the input, where the output's room begins with what is printed so far
abbrev pub printed_as : Opened → List ℕ → Meaning → List ℕ → List ℕ → List ℕ
printed_as (opened.Closed n) out m area input = take n out
printed_as (opened.Reading n) out m area input = take n out ++ report_from m area 0 [] [] input

-- how much is printed so far
abbrev pub count_as : Opened → ℕ
count_as (opened.Closed n) = n
count_as (opened.Reading n) = n

-- the input is read
abbrev pub is_reading : Opened → Bool
is_reading (opened.Closed n) = false
is_reading (opened.Reading n) = true

-- The charmap's part of the paper's output, whatever the locale and the input. The room has place for a line.
pub record CharmapOpens (charmap area out : List ℕ) (s : Opened) : Type 0 where
  pub same : (m : Meaning) (input : List ℕ) → printed_as s out m area input ≡ pairs_with m (charmap_file charmap) input
  pub inside : count_as s ≤ length out
  pub room : 80 ≤ length out

-- The paper's output, whatever the input; where that is read, the table is accepted. The room has place for a line.
pub record FilesOpen (locale charmap table area out : List ℕ) (s : Opened) : Type 0 where
  pub same : (input : List ℕ) → printed_as s out (meaning_in table) area input ≡ pairs_of locale charmap input
  pub good : is_reading s ≡ true → accepted table ≡ true
  pub inside : count_as s ≤ length out
  pub room : 80 ≤ length out
