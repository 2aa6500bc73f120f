use Rattle.std.proofs.Common.{◌≡◌, ◌+◌, ◌++◌, map, length, deque_items, deque_len, deque_capacity}
use Rattle.ei.specs.Events.{at_time}
use Rattle.store.proofs.kept.pending.queue_at.Given as goal

-- what came so far is queued, and the room is what it was
abbrev pub invariant-loop-event : goal.invariant-loop-event
invariant-loop-event l =
    (deque_items l.queued ≡ deque_items l.initial.queued ++ map (at_time l.time) (map (λ y. y.now) l.yielded)) ×
    (deque_len l.queued ≡ deque_len l.initial.queued + length l.yielded) ×
    (deque_capacity l.queued ≡ deque_capacity l.initial.queued)
