use Rattle.order_elements.proofs.CompareLaws.{comparing-none, comparing-on, fewer-on, comparing-more, comparing-fewer, first-before, first-after, first-same}
use borrow.Author.Rules.{rules}
use native.Mathlib.Omega.{arith}
use Rattle.order_elements.proofs.compare_first.Goals as goal

pub loop-n-init : goal.loop-n-init
loop-n-init c = search comparing-none

pub together-pair-requires : goal.together-pair-requires
together-pair-requires c =
    let v = c.loop-n.invariant in
    record { ready = v.first.ready; ready_2 = v.second.ready; sound = v.first.sound; sound_2 = v.second.sound; agreed_bound = omega (arith, v.few) }

pub next_meeting-requires : goal.next_meeting-requires
next_meeting-requires c =
    let v = comparing-on c.loop-n.invariant (search rules) (search rules) c.together-pair.ensures in
    record { ready = v.first.ready; ready_2 = v.second.ready; sound = v.first.sound; sound_2 = v.second.sound }

pub returns-in-Before : goal.returns-in-Before
returns-in-Before c =
    let v = comparing-on c.loop-n.invariant (search rules) (search rules) c.together-pair.ensures in
    first-before _ _ c.next_meeting.result v c.next_meeting.ensures (search rules)

pub returns-in-After : goal.returns-in-After
returns-in-After c =
    let v = comparing-on c.loop-n.invariant (search rules) (search rules) c.together-pair.ensures in
    first-after _ _ c.next_meeting.result v c.next_meeting.ensures (search rules)

pub returns-in-Over : goal.returns-in-Over
returns-in-Over c =
    let v = comparing-on c.loop-n.invariant (search rules) (search rules) c.together-pair.ensures in
    first-same _ _ c.next_meeting.result v c.next_meeting.ensures (search rules)

pub overflow_add-agreed : goal.overflow_add-agreed
overflow_add-agreed c =
    let v = comparing-on c.loop-n.invariant (search rules) (search rules) c.together-pair.ensures in
    omega (arith, v.few)

pub loop-n-smaller : goal.loop-n-smaller
loop-n-smaller c =
    let v = comparing-on c.loop-n.invariant (search rules) (search rules) c.together-pair.ensures in
    fewer-on _ _ c.together-pair.ensures (search (comparing-fewer _ _ c.next_meeting.result v c.next_meeting.ensures))

pub loop-n-preserved : goal.loop-n-preserved
loop-n-preserved c =
    let v = comparing-on c.loop-n.invariant (search rules) (search rules) c.together-pair.ensures in
    comparing-more _ _ c.next_meeting.result v c.next_meeting.ensures (search rules) (search rules) (search rules)
