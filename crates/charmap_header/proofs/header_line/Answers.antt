-- `charmap_header::header_line` meets its contract: by the first mark after blanks.
use Rattle.charmap_header.proofs.NameLaws.{head-start, head-mode, head-none, head-name, head-word}
use Rattle.charmap_header.proofs.header_line.Goals as goal

pub skip_gaps-q-requires : goal.skip_gaps-q-requires
skip_gaps-q-requires c = (search head-start, search head-mode)

pub passed_over-requires : goal.passed_over-requires
passed_over-requires c = search head-none

pub name_line-requires : goal.name_line-requires
name_line-requires c = search head-name

pub opening_line-requires : goal.opening_line-requires
opening_line-requires c = search head-word
