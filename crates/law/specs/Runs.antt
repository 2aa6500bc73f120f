-- Runs: a converter that began new and that nothing but calls has changed, over any host and whatever the host did between the calls.
use Rattle.std.specs.Prelude.{ℕ, List, [], ◌∷◌, ◌++◌, None, Option}
use Rattle.ei.specs.Refusals.{answer_of}
use Rattle.ei.specs.declared.event.EiEvent.{EiEvent}
use Rattle.store.specs.Moves.{given, pending_for}
use Rattle.tables.specs.Calls.{Call, next_event, handshake, new_seat, ping, disconnected, invalid_object, callback_done, seat_name, seat_capability, seat_done, seat_device, seat_destroyed, device_name, device_type, device_dimensions, device_region, device_mapping_id, device_interface, device_done, device_speech, device_frame, device_destroyed, keymap, modifiers, act, object_destroyed, add_callback, bind, retire_seat, retire_device}
use Rattle.tables.specs.Model.{Model, View, fresh}
use Rattle.tables.specs.Outcomes.{handled}
use Rattle.law.specs.History.{Entry, given_by, at_some}
use Rattle.law.specs.Law.{Faithful}

-- the event that a call hands out
abbrev pub handed : Call → Model → Option EiEvent
handed next_event m = given m.store
handed handshake m = None
handed (new_seat n) m = None
handed (ping n) m = None
handed (disconnected n r t) m = None
handed invalid_object m = None
handed (callback_done n x) m = None
handed (seat_name n t) m = None
handed (seat_capability n x k) m = None
handed (seat_done n) m = None
handed (seat_device s n) m = None
handed (seat_destroyed n s) m = None
handed (device_name n t) m = None
handed (device_type n t) m = None
handed (device_dimensions n x y) m = None
handed (device_region n r) m = None
handed (device_mapping_id n t) m = None
handed (device_interface n o) m = None
handed (device_done n) m = None
handed (device_speech n s x) m = None
handed (device_frame n s t) m = None
handed (device_destroyed n s) m = None
handed (keymap n k) m = None
handed (modifiers n s x) m = None
handed (act o x) m = None
handed (object_destroyed o s) m = None
handed (add_callback n t) m = None
handed (bind h x) m = None
handed (retire_seat h) m = None
handed (retire_device h) m = None

-- the entry that is made of a call's arguments, the host's reading as it began, its answer, what it handed out and what it left
abbrev pub recorded : List Entry → ℕ → Call → ℕ → Option EiEvent → Model → Entry
recorded es reading c answer given after = record {
  call = c;
  reading = reading;
  answer = answer;
  given = given;
  queued = (given_by es ++ at_some given [] (λ x. x ∷ [])) ++ after.store.queued;
}

-- the entry of a call on a converter, after the entries before it
abbrev pub entry_of : List Entry → View → Call → Model → Entry
entry_of es v c m = recorded es v.reading c (answer_of (handled v c m).answer) (handed c m) (handled v c m).after

-- each call takes a view of the host of its own, so nothing is assumed between calls
pub data Run : List Entry → Model → Type 0 where
  start : (serial : ℕ) → Run [] (fresh serial)
  more : {es : List Entry} {m : Model} → Run es m → (v : View) (c : Call) → Run (entry_of es v c m ∷ es) (handled v c m).after

-- what the store holds for a handle besides what is queued
abbrev pub pending_of : Model → ℕ → List EiEvent
pending_of m h = pending_for h m.store

-- the law
abbrev pub RecordLaw : Type 0
RecordLaw = (es : List Entry) (m : Model) → Run es m → Faithful es (pending_of m) m.store.queued

-- the law at one call: every run that leads to the state before it, extended by the call as it was made and answered, leads to the state
-- after it and is faithful
abbrev pub GoesOn : ℕ → Call → ℕ → Option EiEvent → Model → Model → Type 0
GoesOn reading c answer given before after =
    (es : List Entry) → Run es before → Run (recorded es reading c answer given after ∷ es) after × Faithful (recorded es reading c answer given after ∷ es) (pending_of after) after.store.queued
