-- `text_specials::keyword_line` meets its contract: a law for each mark that may follow the keyword.
use Rattle.text_specials.proofs.OpenLaws.{opened-end, opened-gap, opened-past}
use borrow.Author.Rules.{rules}
use Rattle.text_specials.proofs.keyword_line.Goals as goal

pub byte_from-requires : goal.byte_from-requires
byte_from-requires c = search opened-gap

pub returns-in_default : goal.returns-in_default
returns-in_default c = opened-past c.requires c.end_of_word-r.ensures {s = c.next_mark.result} c.next_mark.ensures c.in_default.field-0 c.in_default.is (search rules) (search rules)

pub returns-in_default-2 : goal.returns-in_default-2
returns-in_default-2 c = search opened-end
