-- The event store as two lists, and what each call does to them.
use Rattle.std.specs.Prelude.{ℕ, ◌+◌, Bool, true, false, cond, not, List, [], ◌∷◌, ◌++◌, map, length, drop, Some, None, Ok, Err, filter, Option, Result, ◌==◌, nat_le, nat_lt}
use Rattle.ei.specs.Events.{device_of, handle_of, at_time}
use Rattle.ei.specs.declared.error.EventError.{EventError}
use Rattle.ei.specs.declared.error.EventError.TheVariants.{StoreFull}
use Rattle.ei.specs.declared.event.EiEvent.{EiEvent}
use Rattle.ei.specs.declared.event.EiEvent.TheVariants as event
use Rattle.ei.specs.declared.event.Frame.{Frame}

-- what the store holds, each list in the order of arrival
pub record Contents : Type 0 where
  -- timed events that wait for their device's frame
  pub pending : List EiEvent
  -- events to be handed out, the oldest first
  pub queued : List EiEvent

abbrev pub nothing : Contents
nothing = record { pending = []; queued = [] }

-- Whose an event is.

abbrev pub is_device : ℕ → Option ℕ → Bool
is_device h None = false
is_device h (Some d) = d == h

-- whether the event is this device's
unfoldable pub of : ℕ → EiEvent → Bool
of h e = is_device h (device_of e)

unfoldable pub not_of : ℕ → EiEvent → Bool
not_of h e = not (of h e)

-- whether the event names this handle, as a seat or as a device
unfoldable pub named : ℕ → EiEvent → Bool
named h e = handle_of e == h

-- Questions.

abbrev pub some : List EiEvent → Bool
some [] = false
some (_ ∷ _) = true

unfoldable pub pending_for : ℕ → Contents → List EiEvent
pending_for h c = filter (of h) c.pending

-- what is pending for the other devices
unfoldable pub others : ℕ → Contents → List EiEvent
others h c = filter (not_of h) c.pending

unfoldable pub has_pending : ℕ → Contents → Bool
has_pending h c = some (pending_for h c)

unfoldable pub names : ℕ → Contents → Bool
names h c = some (filter (named h) c.queued)

unfoldable pub held : Contents → ℕ
held c = length c.pending + length c.queued

-- whether so many more find a place among 256
unfoldable pub fits : ℕ → Contents → Bool
fits more c = nat_le (held c + more) 256

-- a call answers that it is done or that the store is full
abbrev pub done_if : Bool → Result (Unit {0}) EventError
done_if b = cond b (Ok tt) (Err StoreFull)

-- What a call does where there is room.

-- a timed event waits with time 0
unfoldable pub pended : EiEvent → Contents → Contents
pended e c = record { pending = c.pending ++ (at_time 0 e ∷ []); queued = c.queued }

-- an event comes last in the queue
unfoldable pub added : EiEvent → Contents → Contents
added e c = record { pending = c.pending; queued = c.queued ++ (e ∷ []) }

-- what a frame queues: nothing where nothing is pending, else the pending events at its time, and then itself
unfoldable pub batch : Frame → List EiEvent → List EiEvent
batch f [] = []
batch f (e ∷ es) = map (at_time f.time) (e ∷ es) ++ (event.Frame f ∷ [])

-- a frame of a device takes that device's events from the pending ones and queues them
unfoldable pub framed : Frame → Contents → Contents
framed f c = record { pending = others f.device c; queued = c.queued ++ batch f (pending_for f.device c) }

-- The calls. One that finds no room changes nothing.

-- a timed event leaves two places free, for a frame and for what may force it
unfoldable pub can_hold : Contents → Bool
can_hold c = nat_lt (held c) 254

unfoldable pub hold : EiEvent → Contents → Contents
hold e c = cond (can_hold c) (pended e c) c

-- a frame needs a place of its own, if it queues anything
unfoldable pub can_commit : Frame → Contents → Bool
can_commit f c = cond (has_pending f.device c) (fits 1 c) true

unfoldable pub commit : Frame → Contents → Contents
commit f c = cond (can_commit f c) (framed f c) c

unfoldable pub queue : EiEvent → Contents → Contents
queue e c = cond (fits 1 c) (added e c) c

-- a frame and the event that forces it need a place each, if the frame queues anything
unfoldable pub can_queue_framed : Frame → Contents → Bool
can_queue_framed f c = fits (cond (has_pending f.device c) 2 1) c

unfoldable pub queue_framed : Frame → EiEvent → Contents → Contents
queue_framed f e c = cond (can_queue_framed f c) (added e (framed f c)) c

-- the oldest
abbrev pub first : List EiEvent → Option EiEvent
first [] = None
first (e ∷ _) = Some e

unfoldable pub given : Contents → Option EiEvent
given c = first c.queued

unfoldable pub rest : Contents → Contents
rest c = record { pending = c.pending; queued = drop 1 c.queued }

unfoldable pub discard : ℕ → Contents → Contents
discard h c = record { pending = others h c; queued = c.queued }
