-- `table_records::write_chars` meets its contract, for UNDEFINED, a character and an element.
use Rattle.table_records.proofs.ItemLaws.{chars-undefined, chars-character, chars-element, chars-row, chars-quotes, chars-some}
use borrow.Author.Rules.{rules}
use Rattle.table_records.proofs.write_chars.Goals as goal

pub returns-then-mark-undefined_mark : goal.returns-then-mark-undefined_mark
returns-then-mark-undefined_mark c = search chars-undefined

pub told-x-requires : goal.told-x-requires
told-x-requires c = search (rules, chars-row)

pub code_told-c-requires : goal.code_told-c-requires
code_told-c-requires c = (search chars-some, search rules)

pub returns-then-x-eq0 : goal.returns-then-x-eq0
returns-then-x-eq0 c = search chars-character

pub write_quoted-requires : goal.write_quoted-requires
write_quoted-requires c = search (rules, chars-quotes)

pub returns : goal.returns
returns c = search chars-element
