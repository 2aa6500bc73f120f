use Rattle.std.proofs.Common.{ap, length, arith, rules, tests}
use Rattle.std.proofs.lemmas.Iterator.Consumers.{YieldsList-at, YieldsList-from_filter, YieldsList-turn, YieldsList-end}
use Rattle.std.proofs.lemmas.Iterator.{YieldsList-from_slice}
use Rattle.store.specs.Moves.{of}
use Rattle.store.proofs.Stores.{both_parts}
use Rattle.store.proofs.kept.pending.queue_at.Goals as goal

-- what is still to come finds room
pub push_back_reserved-requires : goal.push_back_reserved-requires
push_back_reserved-requires c =
    let turn = YieldsList-turn
    (YieldsList-at c.into_iter-event-iterator.ensures.into_iter_gives
    (YieldsList-from_filter _ (of c.args.device) (YieldsList-from_slice c.args.events.now cc) c.filter-event-items.ensures.closure (λ x r q k. search (rules, tests))))
    c.loop-event.yielded _ c.loop-event.yielded_by _ _ c.in-Some.event c.in-Some.is c.next.ensures.steps in
    omega (arith, turn.0, both_parts c.args.device c.args.events.now)

-- the loop has seen just the device's events
pub returns-clause-items : goal.returns-clause-items
returns-clause-items c =
    let seen = YieldsList-end
    (YieldsList-at c.into_iter-event-iterator.ensures.into_iter_gives
    (YieldsList-from_filter _ (of c.args.device) (YieldsList-from_slice c.args.events.now cc) c.filter-event-items.ensures.closure (λ x r q k. search (rules, tests))))
    c.loop-event.yielded _ c.loop-event.yielded_by _ _ c.in-None.is c.next.ensures.steps in
    rw (← seen.0) c.loop-event.invariant.0

pub returns-clause-len : goal.returns-clause-len
returns-clause-len c =
    let seen = YieldsList-end
    (YieldsList-at c.into_iter-event-iterator.ensures.into_iter_gives
    (YieldsList-from_filter _ (of c.args.device) (YieldsList-from_slice c.args.events.now cc) c.filter-event-items.ensures.closure (λ x r q k. search (rules, tests))))
    c.loop-event.yielded _ c.loop-event.yielded_by _ _ c.in-None.is c.next.ensures.steps in
    omega (arith, ap length seen.0)
