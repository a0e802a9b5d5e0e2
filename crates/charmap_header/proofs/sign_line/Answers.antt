-- `charmap_header::sign_line` meets its contract: a law for each mark that may follow the name.
use Rattle.charmap_header.proofs.NameLaws.{sign-to, sign-bare, sign-blank, sign-glued}
use Rattle.charmap_header.proofs.sign_line.Goals as goal

pub next_mark-requires : goal.next_mark-requires
next_mark-requires c = search sign-to

pub malformed-requires : goal.malformed-requires
malformed-requires c = search sign-bare

pub byte_line-requires : goal.byte_line-requires
byte_line-requires c = search sign-blank

pub malformed-requires-else-m-eq9 : goal.malformed-requires-else-m-eq9
malformed-requires-else-m-eq9 c = search sign-glued
