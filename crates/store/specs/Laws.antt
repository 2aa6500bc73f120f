-- What the calls do to the events of each device, to the queue, and to how many events are held.
use Rattle.std.specs.Prelude.{◌≡◌, ℕ, ◌+◌, true, false, cond, List, [], ◌∷◌, ◌++◌, length, None, ◌≢◌}
use Rattle.std.specs.Option.{option_to_list}
use Rattle.ei.specs.Events.{at_time}
use Rattle.ei.specs.declared.event.EiEvent.{EiEvent}
use Rattle.ei.specs.declared.event.Frame.{Frame}
use Rattle.store.specs.Moves.{Contents, of, pending_for, has_pending, held, fits, batch, can_hold, hold, can_commit, commit, queue, can_queue_framed, queue_framed, given, rest, discard}

-- an accepted timed event waits last among those of its device
pub record Held (e : EiEvent) (before after : Contents) : Type 0 where
  pub waits_last : (h : ℕ) → of h e ≡ true → pending_for h after ≡ pending_for h before ++ (at_time 0 e ∷ [])
  pub others_wait : (h : ℕ) → of h e ≡ false → pending_for h after ≡ pending_for h before
  pub queue_stays : after.queued ≡ before.queued
  pub one_more : held after ≡ held before + 1

abbrev pub HoldLaw : Type 0
HoldLaw = (e : EiEvent) (c : Contents) → can_hold c ≡ true → Held e c (hold e c)

-- an accepted frame leaves nothing pending for its device, leaves the other devices' events alone, and queues its batch
pub record Committed (f : Frame) (before after : Contents) : Type 0 where
  pub none_waits : pending_for f.device after ≡ []
  pub others_wait : (h : ℕ) → (h ≢ f.device) → pending_for h after ≡ pending_for h before
  pub batch_last : after.queued ≡ before.queued ++ batch f (pending_for f.device before)
  pub frame_more : held after ≡ held before + cond (has_pending f.device before) 1 0

abbrev pub CommitLaw : Type 0
CommitLaw = (f : Frame) (c : Contents) → can_commit f c ≡ true → Committed f c (commit f c)

-- an accepted event comes last in the queue
pub record Queued (e : EiEvent) (before after : Contents) : Type 0 where
  pub all_wait : after.pending ≡ before.pending
  pub event_last : after.queued ≡ before.queued ++ (e ∷ [])
  pub one_more : held after ≡ held before + 1

abbrev pub QueueLaw : Type 0
QueueLaw = (e : EiEvent) (c : Contents) → fits 1 c ≡ true → Queued e c (queue e c)

-- an accepted event that forces a frame is queued once the frame is committed, and both have room
pub record QueuedFramed (f : Frame) (e : EiEvent) (before after : Contents) : Type 0 where
  pub frame_fits : can_commit f before ≡ true
  pub event_fits : fits 1 (commit f before) ≡ true
  pub in_turn : after ≡ queue e (commit f before)
  pub none_waits : pending_for f.device after ≡ []
  pub others_wait : (h : ℕ) → (h ≢ f.device) → pending_for h after ≡ pending_for h before
  pub batch_then_event : after.queued ≡ (before.queued ++ batch f (pending_for f.device before)) ++ (e ∷ [])
  pub both_more : held after ≡ held before + cond (has_pending f.device before) 2 1

abbrev pub QueueFramedLaw : Type 0
QueueFramedLaw = (f : Frame) (e : EiEvent) (c : Contents) → can_queue_framed f c ≡ true → QueuedFramed f e c (queue_framed f e c)

-- an event is handed out from the front, and none only if none is queued
pub record HandedOut (before after : Contents) : Type 0 where
  pub from_front : before.queued ≡ option_to_list (given before) ++ after.queued
  pub none_queued : given before ≡ None → before.queued ≡ []
  pub all_wait : after.pending ≡ before.pending
  pub given_fewer : held after + length (option_to_list (given before)) ≡ held before

abbrev pub NextLaw : Type 0
NextLaw = (c : Contents) → HandedOut c (rest c)

-- a device's events are discarded, and no other's
pub record Discarded (h : ℕ) (before after : Contents) : Type 0 where
  pub none_waits : pending_for h after ≡ []
  pub others_wait : (k : ℕ) → (k ≢ h) → pending_for k after ≡ pending_for k before
  pub queue_stays : after.queued ≡ before.queued
  pub pending_fewer : held after + length (pending_for h before) ≡ held before

abbrev pub DiscardLaw : Type 0
DiscardLaw = (h : ℕ) (c : Contents) → Discarded h c (discard h c)

-- the queue is what it was, with some events behind it
abbrev pub Lengthens : Contents → Contents → Type 0
Lengthens before after = (added : List EiEvent) × (after.queued ≡ before.queued ++ added)

-- every call but the handing out, accepted or not, only lengthens the queue at its end
pub record Lengthening : Type 0 where
  pub by_hold : (e : EiEvent) (c : Contents) → Lengthens c (hold e c)
  pub by_commit : (f : Frame) (c : Contents) → Lengthens c (commit f c)
  pub by_queue : (e : EiEvent) (c : Contents) → Lengthens c (queue e c)
  pub by_queue_framed : (f : Frame) (e : EiEvent) (c : Contents) → Lengthens c (queue_framed f e c)
  pub by_discard : (h : ℕ) (c : Contents) → Lengthens c (discard h c)

-- what is refused changes nothing
pub record Refusing : Type 0 where
  pub of_hold : (e : EiEvent) (c : Contents) → can_hold c ≡ false → hold e c ≡ c
  pub of_commit : (f : Frame) (c : Contents) → can_commit f c ≡ false → commit f c ≡ c
  pub of_queue : (e : EiEvent) (c : Contents) → fits 1 c ≡ false → queue e c ≡ c
  pub of_queue_framed : (f : Frame) (e : EiEvent) (c : Contents) → can_queue_framed f c ≡ false → queue_framed f e c ≡ c
