-- `charmap_body::enter` meets its contract: an entry that is not refused is given.
use Rattle.std.proofs.lemmas.Result.{err_from_is_err_and}
use Rattle.charmap_body.proofs.OutcomeLaws.{enter-refused, enter-room, enter-gives}
use Rattle.charmap_body.proofs.enter.Goals as goal

pub returns-in_err-b : goal.returns-in_err-b
returns-in_err-b c =
    let p = err_from_is_err_and c.from_residual.result c.from_residual.ensures.1 in
    rw (p.1, p.2) (enter-refused _ _ _ _ _ c.entry_outcome.ensures c.in_err-b.was)

pub give_range-requires : goal.give_range-requires
give_range-requires c = enter-room _ _ _ _ _ c.entry_outcome.ensures c.in_ok-b.was c.requires.0

pub returns : goal.returns
returns c = enter-gives _ _ _ _ _ c.entry_outcome.ensures c.in_ok-b.was c.give_range.ensures
