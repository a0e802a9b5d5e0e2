-- `locale_category::block`, `locale_category::branch_end` and `locale_category::chain` meet their contracts together: the unread bytes fall. A chain begins behind the line that
-- opens it, a branch where its chain is, and a used branch is a block.
use Prim.Native.Nat.{◌+◌, ◌-◌, ◌*◌}
use lib.ListN.{length}
use Rattle.locale_category.proofs.BlockLaws.{Going}
use Rattle.locale_category.proofs.ChainLaws.{Chaining}
use Rattle.locale_category.proofs.+block_branch_end_chain.Given as goal

abbrev pub decreases-block : goal.decreases-block
decreases-block l = 3 * (length l.src.bytes.now - l.at)

abbrev pub decreases-branch_end : goal.decreases-branch_end
decreases-branch_end l = 3 * (length l.src.bytes.now - l.at) + 1

abbrev pub decreases-chain : goal.decreases-chain
decreases-chain l = 3 * (length l.src.bytes.now - l.at) + 2

abbrev pub invariant-block-loop-i : goal.invariant-block-loop-i
invariant-block-loop-i l = Going l.src.signs l.src.bytes.now l.initial.work l.initial.s l.initial.i l.initial.n l.depth l.work l.s l.i l.n

abbrev pub decreases-block-loop-i : goal.decreases-block-loop-i
decreases-block-loop-i l = length l.src.bytes.now - l.i

abbrev pub invariant-chain-loop-x : goal.invariant-chain-loop-x
invariant-chain-loop-x l =
    Chaining l.src.signs l.src.bytes.now l.initial.work l.initial.s l.initial.i l.initial.n l.depth l.initial.taken l.work l.s l.i l.n l.taken l.used l.closed

abbrev pub decreases-chain-loop-x : goal.decreases-chain-loop-x
decreases-chain-loop-x l = length l.src.bytes.now - l.i
