-- `table_check::told_after` meets its contract: one law for each return.
use Rattle.std.proofs.Common.{◌∙◌, ◌<◌, arith, rules}
use Rattle.table_layout.specs.Starts.{four_from}
use Rattle.table_check.proofs.BeforeLaws.{fours-long}
use Rattle.table_check.proofs.WalkLaws.{place_at, told-some, told-here, told-later, told-earlier, told_same}
use Rattle.table_check.proofs.told_after.Goals as goal

pub bucket_at-q-requires : goal.bucket_at-q-requires
bucket_at-q-requires c = search place_at

pub four_numbers-requires : goal.four_numbers-requires
four_numbers-requires c =
    let l : c.bucket_at-q.result < c.args.told = omega arith in
    (search (rules, told-some), omega arith)

pub returns-then-told-q : goal.returns-then-told-q
returns-then-told-q c = c.then_some.ensures ∙ search told-here

pub returns-then-told-q-2 : goal.returns-then-told-q-2
returns-then-told-q-2 c = c.then_some-then-told-q-2.ensures ∙ search told-later

pub returns-then-q-told : goal.returns-then-q-told
returns-then-q-told c =
    let l : c.bucket_at-q.result < c.args.told = omega arith in
    search told-earlier

pub returns-else-q-told : goal.returns-else-q-told
returns-else-q-told c =
    let l : c.bucket_at-q.result < c.args.told = omega arith in
    let n = fours-long c.args.t.now (four_from c.args.chars c.args.last) (four_from c.args.chars c.args.p) c.four_numbers.ensures c.four_numbers-else-q-told.ensures (omega arith) (omega arith) in
    c.then_some-else-q-told.ensures ∙ search told_same
