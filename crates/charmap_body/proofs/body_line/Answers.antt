-- `charmap_body::body_line` meets its contract: an entry, or a line that leaves what is given as it is.
use borrow.Author.Rules.{rules}
use Rattle.charmap_body.proofs.BodyLaws.{no-entry, found-parts, body-plain}
use Rattle.charmap_body.proofs.body_line.Goals as goal

pub plain_line-requires : goal.plain_line-requires
plain_line-requires c = search (rules, no-entry)

pub returns-in-None : goal.returns-in-None
returns-in-None c = search body-plain

pub entry_line-requires : goal.entry_line-requires
entry_line-requires c = search (rules, found-parts)
