-- `work_toggles::turn` meets its contract: one store where the toggle is known, and its decision and its number behind the last where it is new.
use Rattle.work_toggles.proofs.TurnLaws.{turn-again, turn-is-new, decision-room, new-room, turn-new}
use Rattle.work_toggles.proofs.turn.Goals as goal

pub returns-then-i-n : goal.returns-then-i-n
returns-then-i-n c = search turn-again

pub decide-requires : goal.decide-requires
decide-requires c = search turn-is-new

pub bounds-work-base-2 : goal.bounds-work-base-2
bounds-work-base-2 c = search decision-room

pub bounds-work-base-3 : goal.bounds-work-base-3
bounds-work-base-3 c = search new-room

pub returns : goal.returns
returns c = search turn-new
