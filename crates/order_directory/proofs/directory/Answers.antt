-- `order_directory::directory` meets its contract: each refusal in its order.
use Rattle.order_directory.proofs.PageLaws.{call-unaccepted, call-accepted, call-unplain, call-outside, call-fitting, call-bad, call-page}
use Rattle.order_directory.proofs.directory.Goals as goal

pub returns-then-not-accepts : goal.returns-then-not-accepts
returns-then-not-accepts c = search call-unaccepted

pub plain-requires : goal.plain-requires
plain-requires c = search call-accepted

pub returns-then-not-plain : goal.returns-then-not-plain
returns-then-not-plain c = search call-unplain

pub returns-then-not-both_fit : goal.returns-then-not-both_fit
returns-then-not-both_fit c = search call-outside

pub both_good-requires : goal.both_good-requires
both_good-requires c = search call-fitting

pub returns-then-not-both_good : goal.returns-then-not-both_good
returns-then-not-both_good c = search call-bad

pub list_page-requires : goal.list_page-requires
list_page-requires c = search call-page
