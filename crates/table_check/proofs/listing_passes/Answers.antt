use Rattle.std.proofs.Common.{◌≡◌, ◌∙◌, sym, ◌+◌, ◌-◌, ◌*◌, get_or, take, drop, arith, rules}
use Rattle.std.proofs.lemmas.Grind.{common_steps}
use Rattle.rules.specs.Text.{within}
use Rattle.table_check.proofs.WalkLaws.{place-at, place-end, walking-none, walking-off, walking-no, walking-more, walking-all}
use Rattle.table_check.proofs.listing_passes.Goals as goal

pub loop-k-init : goal.loop-k-init
loop-k-init c = search walking-none

pub returns-then-not-contains : goal.returns-then-not-contains
returns-then-not-contains c =
    let a = c.args in
    let q = place-at a.t.now (a.chars + 4 * a.items) a.items c.loop-k.k (omega arith) c.loop-k-test.true in
    let e : c.contains.result ≡ within 1 a.items (get_or (take (a.chars + 4 * a.items + a.items - (a.chars + 4 * a.items)) (drop (a.chars + 4 * a.items) a.t.now)) c.loop-k.k 0) = grind (arith, common_steps, c.contains.ensures.cases) in
    walking-off c.loop-k.invariant q.0 (omega arith) q.1 (sym e ∙ c.if-not-contains.true)

pub returns-in_default : goal.returns-in_default
returns-in_default c =
    let a = c.args in
    let q = place-at a.t.now (a.chars + 4 * a.items) a.items c.loop-k.k (omega arith) c.loop-k-test.true in
    let e : c.contains.result ≡ within 1 a.items (get_or (take (a.chars + 4 * a.items + a.items - (a.chars + 4 * a.items)) (drop (a.chars + 4 * a.items) a.t.now)) c.loop-k.k 0) = grind (arith, common_steps, c.contains.ensures.cases) in
    walking-no c.loop-k.invariant q.0 (omega arith) q.1 (sym e ∙ c.if-not-contains.false) c.in_default.ensures

pub loop-k-preserved : goal.loop-k-preserved
loop-k-preserved c =
    let a = c.args in
    let q = place-at a.t.now (a.chars + 4 * a.items) a.items c.loop-k.k (omega arith) c.loop-k-test.true in
    let e : c.contains.result ≡ within 1 a.items (get_or (take (a.chars + 4 * a.items + a.items - (a.chars + 4 * a.items)) (drop (a.chars + 4 * a.items) a.t.now)) c.loop-k.k 0) = grind (arith, common_steps, c.contains.ensures.cases) in
    walking-more c.loop-k.invariant q.0 (omega arith) q.1 (sym e ∙ c.if-not-contains.false) c.in-Some.ensures

pub returns : goal.returns
returns c =
    let a = c.args in
    walking-all c.loop-k.invariant (place-end a.t.now (a.chars + 4 * a.items) a.items c.loop-k.k (omega arith) c.loop-k-test.false)
