-- `order_directory::list_within` meets its contract: 15, or what is left.
use Rattle.order_directory.proofs.PageLaws.{headings-ready, headings-room, page-falls, page-ranked}
use Rattle.order_directory.proofs.list_within.Goals as goal

pub weigh-requires : goal.weigh-requires
weigh-requires c = search (headings-ready, headings-room)

pub returns-then-not-weigh : goal.returns-then-not-weigh
returns-then-not-weigh c = search page-falls

pub list_rising-requires : goal.list_rising-requires
list_rising-requires c =
    search (page-ranked _ _ _ _ c.requires.page _ c.weigh.ensures, c.requires.in_bounds)
