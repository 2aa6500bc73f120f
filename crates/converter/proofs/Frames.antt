-- A frame that queues nothing may have any time.
use Rattle.std.proofs.Common.{◌≡◌, ℕ, cond, rules}
use Rattle.ei.specs.declared.event.EiEvent.{EiEvent}
use Rattle.store.specs.Moves.{Contents, has_pending, pending_for, batch, framed, can_queue_framed, queue_framed}
use Rattle.tables.specs.Rules.{frame_of}

-- the time of a forced frame is the host's reading; the host need not be asked where no frame is forced
pub forced_time : (d s t : ℕ) (e : EiEvent) (c : Contents) → queue_framed (frame_of d s (cond (has_pending d c) t 0)) e c ≡ queue_framed (frame_of d s t) e c
unfolding queue_framed can_queue_framed framed has_pending batch pending_for
forced_time d s t e c = search rules
