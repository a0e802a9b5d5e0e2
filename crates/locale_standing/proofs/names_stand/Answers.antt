-- `locale_standing::names_stand` meets its contract: a law for each kind of token.
use Rattle.locale_standing.proofs.StandLaws.{inside-to, inside-name, inside-quotes, all_one, all-quoted, all_none}
use borrow.Author.Rules.{rules}
use Rattle.locale_standing.proofs.names_stand.Goals as goal

pub stands_at-requires : goal.stands_at-requires
stands_at-requires c = record { at_in_bounds = (search inside-to, search inside-name); sound = search rules }

pub returns-then-t-eq-NAME : goal.returns-then-t-eq-NAME
returns-then-t-eq-NAME c = search all_one

pub quoted_stand-requires : goal.quoted_stand-requires
quoted_stand-requires c = record { at_in_bounds = (search inside-to, search inside-quotes); sound = search rules }

pub returns-then-t-eq-QUOTE : goal.returns-then-t-eq-QUOTE
returns-then-t-eq-QUOTE c = search all-quoted

pub returns : goal.returns
returns c = search all_none
