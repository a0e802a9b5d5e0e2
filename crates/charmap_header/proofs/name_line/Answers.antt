-- `charmap_header::name_line` meets its contract: the name is open, one of the two, or another.
use Rattle.charmap_header.proofs.NameLaws.{name-inside, name-to, name-left, name-comment, name-escape, name-other}
use Rattle.charmap_header.proofs.name_line.Goals as goal

pub end_of_name-requires : goal.end_of_name-requires
end_of_name-requires c = search name-inside

pub passed_over-requires : goal.passed_over-requires
passed_over-requires c = search name-left

pub name_at-requires : goal.name_at-requires
name_at-requires c = search name-to

pub sign_line-requires : goal.sign_line-requires
sign_line-requires c = search name-comment

pub sign_line-requires-in-Escape : goal.sign_line-requires-in-Escape
sign_line-requires-in-Escape c = search name-escape

pub passed_over-requires-in-Neither : goal.passed_over-requires-in-Neither
passed_over-requires-in-Neither c = search name-other
