-- `order_keys::next_piece` meets its contract: the element found is the first of those that are left, and its weights stand where the table says.
use borrow.Author.Rules.{rules}
use Rattle.order_keys.proofs.PieceLaws.{all-characters, level-within, piece-cuts}
use Rattle.order_keys.proofs.next_piece.Goals as goal

pub longest_in-found-requires : goal.longest_in-found-requires
longest_in-found-requires c = search (rules, all-characters)

pub weights_in-requires : goal.weights_in-requires
weights_in-requires c = search level-within

pub returns : goal.returns
returns c = search piece-cuts
