use Rattle.std.proofs.Common.{◌≡◌, Ok, Err}
use Rattle.std.proofs.lemmas.Result.{err_from_is_err_and}
use Rattle.locale_category.proofs.BlockLaws.{answered, going_next, going-refused, going-closes, chain-begins, chain-falls, going-chain, going-chain-refused, going_end}
use Rattle.locale_category.proofs.BranchLaws.{branch-start, used-some, used-refused, used-branch, passed-stop}
use Rattle.locale_category.proofs.ChainLaws.{chaining-start, chain-refused, line-may, turn-refused, turn-ends, turn-goes}
use borrow.Author.Rules.{rules}
use Rattle.locale_category.proofs.+block_branch_end_chain.Goals as goal

pub block-returns-in-Err : goal.block-returns-in-Err
block-returns-in-Err t c = search going-refused

pub block-returns-in-Ok-Closes : goal.block-returns-in-Ok-Closes
block-returns-in-Ok-Closes t c = let e = answered c.in-Ok-Closes.is c.in-Ok-Closes.field-0-is in search going-closes

pub block-loop-i-preserved-in-Ok-Next : goal.block-loop-i-preserved-in-Ok-Next
block-loop-i-preserved-in-Ok-Next t c = let e = answered c.in-Ok-Next.is c.in-Ok-Next.field-0-is in search going_next

pub block-chain-requires : goal.block-chain-requires
block-chain-requires t c = let e = answered c.in-Ok-Opens.is c.in-Ok-Opens.field-0-is in (search chain-falls, search chain-begins)

pub block-returns-in_err-y-in-Ok-Opens : goal.block-returns-in_err-y-in-Ok-Opens
block-returns-in_err-y-in-Ok-Opens t c =
    let e = answered c.in-Ok-Opens.is c.in-Ok-Opens.field-0-is in
    let p = err_from_is_err_and c.from_residual.result c.from_residual.ensures.1 in
    let q : c.chain.result ≡ Err c.in_err-y-in-Ok-Opens.field-0.0 = c.in_err-y-in-Ok-Opens.was in
    rw (p.1, p.2) (search going-chain-refused)

pub block-loop-i-preserved : goal.block-loop-i-preserved
block-loop-i-preserved t c =
    let e = answered c.in-Ok-Opens.is c.in-Ok-Opens.field-0-is in
    let q : c.chain.result ≡ Ok (c.in_ok-y-in-Ok-Opens.y, c.in_ok-y-in-Ok-Opens.j, c.in_ok-y-in-Ok-Opens.m) = c.in_ok-y-in-Ok-Opens.was in
    search (going-chain c.loop-i.invariant)

pub block-returns : goal.block-returns
block-returns t c = search going_end

pub branch_end-block-requires : goal.branch_end-block-requires
branch_end-block-requires t c = (search rules, (search used-some, search branch-start))

pub branch_end-returns-in_err-m : goal.branch_end-returns-in_err-m
branch_end-returns-in_err-m t c =
    let p = err_from_is_err_and c.from_residual.result c.from_residual.ensures.1 in
    let q : c.block.result ≡ Err c.in_err-m.field-0.0 = c.in_err-m.was in
    rw (p.1, p.2) (search used-refused)

pub branch_end-returns-in-Branch : goal.branch_end-returns-in-Branch
branch_end-returns-in-Branch t c = let e = answered c.in_ok-m.was c.in-Branch.is in search used-branch

pub branch_end-returns-in_ok-j : goal.branch_end-returns-in_ok-j
branch_end-returns-in_ok-j t c =
    let q : c.skip_branch.result ≡ Ok (c.in_ok-j.j, c.in_ok-j.m) = c.in_ok-j.was in
    search passed-stop

pub chain-loop-x-init : goal.chain-loop-x-init
chain-loop-x-init t c = search chaining-start

pub chain-returns-in_err-x : goal.chain-returns-in_err-x
chain-returns-in_err-x t c =
    let p = err_from_is_err_and c.from_residual.result c.from_residual.ensures.1 in
    let q : c.branch_end.result ≡ Err c.in_err-x.field-0.0 = c.in_err-x.was in
    rw (p.1, p.2) (search chain-refused)

pub chain-branch_line-requires : goal.chain-branch_line-requires
chain-branch_line-requires t c =
    let q : c.branch_end.result ≡ Ok (c.in_ok-x.x, c.in_ok-x.j, c.in_ok-x.m) = c.in_ok-x.was in
    search line-may

pub chain-returns-in-Err : goal.chain-returns-in-Err
chain-returns-in-Err t c =
    let q : c.branch_end.result ≡ Ok (c.in_ok-x.x, c.in_ok-x.j, c.in_ok-x.m) = c.in_ok-x.was in
    search turn-refused

pub chain-returns-in-Ok-Ends : goal.chain-returns-in-Ok-Ends
chain-returns-in-Ok-Ends t c =
    let q : c.branch_end.result ≡ Ok (c.in_ok-x.x, c.in_ok-x.j, c.in_ok-x.m) = c.in_ok-x.was in
    let e = answered c.in-Ok-Ends.is c.in-Ok-Ends.field-0-is in search turn-ends

pub chain-loop-x-preserved : goal.chain-loop-x-preserved
chain-loop-x-preserved t c =
    let q : c.branch_end.result ≡ Ok (c.in_ok-x.x, c.in_ok-x.j, c.in_ok-x.m) = c.in_ok-x.was in
    let e = answered c.in-Ok-Goes.is c.in-Ok-Goes.field-0-is in search turn-goes
