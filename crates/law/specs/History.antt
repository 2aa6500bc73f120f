-- What follows from the calls and their answers so far, newest first: handles, what is live, what is listed, who owns what, and
-- what was accepted. Nothing here looks into a converter.
use Rattle.std.specs.Prelude.{ℕ, ◌+◌, Bool, true, false, cond, List, [], ◌∷◌, ◌++◌, Some, None, Option, ◌==◌}
use Rattle.ei.specs.Capabilities.{index_of}
use Rattle.ei.specs.declared.capability.DeviceCapability.{DeviceCapability}
use Rattle.ei.specs.declared.capability.DeviceCapability.TheVariants.{Keyboard}
use Rattle.ei.specs.declared.event.EiEvent.{EiEvent}
use Rattle.ei.specs.declared.object.Object.{Object}
use Rattle.tables.specs.Calls.{Call, acted, handshake, new_seat, ping, disconnected, invalid_object, callback_done, seat_name, seat_capability, seat_done, seat_device, seat_destroyed, device_name, device_type, device_dimensions, device_region, device_mapping_id, device_interface, device_done, device_speech, device_frame, device_destroyed, keymap, modifiers, act, object_destroyed, next_event, add_callback, bind, retire_seat, retire_device}

-- a call and what came of it: the host's reading as it began, its answer, the event that it handed out, and the queued list as it
-- returned: all that next_event has given so far, then all that it would give if it alone were called until it gives none
pub record Entry : Type 0 where
  pub call : Call
  pub reading : ℕ
  pub answer : ℕ
  pub given : Option EiEvent
  pub queued : List EiEvent

-- what follows from the calls and answers so far, as functions with no bounds and no tables
pub record Book : Type 0 where
  -- how many handles were given
  pub handles : ℕ
  -- the objects that a device being set up lists, by kind; none where no device of the number is being set up
  pub setup : ℕ → Option (DeviceCapability → Option ℕ)
  -- the handle of the live device of a number
  pub live : ℕ → Option ℕ
  -- what a handle lists, by kind
  pub lists : ℕ → DeviceCapability → Option ℕ
  -- the handle that owns an object
  pub owner : Object → Option ℕ
  -- the device handles that are retired
  pub retired : ℕ → Bool

-- a function with one value changed
abbrev pub put : {X : Type 0} → (ℕ → X) → ℕ → X → ℕ → X
put f n x k = cond (k == n) x (f k)

abbrev pub same_kind : DeviceCapability → DeviceCapability → Bool
same_kind a b = index_of a == index_of b

abbrev pub put_kind : {X : Type 0} → (DeviceCapability → X) → DeviceCapability → X → DeviceCapability → X
put_kind f c x k = cond (same_kind k c) x (f k)

abbrev pub same_object : Object → Object → Bool
same_object a b = cond (same_kind a.kind b.kind) (a.number == b.number) false

-- it is there, and is this number
abbrev pub holds : Option ℕ → ℕ → Bool
holds (Some x) n = x == n
holds None n = false

abbrev pub at_some : {X Y : Type 0} → Option X → Y → (X → Y) → Y
at_some None d f = d
at_some (Some x) d f = f x

-- a setter for each field
abbrev pub with_handles : ℕ → Book → Book
with_handles x b = record { handles = x; setup = b.setup; live = b.live; lists = b.lists; owner = b.owner; retired = b.retired }

abbrev pub with_setup : (ℕ → Option (DeviceCapability → Option ℕ)) → Book → Book
with_setup x b = record { handles = b.handles; setup = x; live = b.live; lists = b.lists; owner = b.owner; retired = b.retired }

abbrev pub with_live : (ℕ → Option ℕ) → Book → Book
with_live x b = record { handles = b.handles; setup = b.setup; live = x; lists = b.lists; owner = b.owner; retired = b.retired }

abbrev pub with_lists : (ℕ → DeviceCapability → Option ℕ) → Book → Book
with_lists x b = record { handles = b.handles; setup = b.setup; live = b.live; lists = x; owner = b.owner; retired = b.retired }

abbrev pub with_owner : (Object → Option ℕ) → Book → Book
with_owner x b = record { handles = b.handles; setup = b.setup; live = b.live; lists = b.lists; owner = x; retired = b.retired }

abbrev pub with_retired : (ℕ → Bool) → Book → Book
with_retired x b = record { handles = b.handles; setup = b.setup; live = b.live; lists = b.lists; owner = b.owner; retired = x }

-- before any call
abbrev pub blank : Book
blank = record { handles = 0; setup = λ _. None; live = λ _. None; lists = λ _ _. None; owner = λ _. None; retired = λ _. false }

abbrev pub next_handle : Book → ℕ
next_handle b = b.handles + 1

-- a device is done: it is live under the next handle, lists what it listed, and owns all that, in place of former owners
abbrev pub finished : ℕ → (DeviceCapability → Option ℕ) → Book → Book
finished n l b =
    with_owner (λ o. cond (holds (l o.kind) o.number) (Some (next_handle b)) (b.owner o))
    (with_lists (put b.lists (next_handle b) l)
    (with_live (put b.live n (Some (next_handle b)))
    (with_setup (put b.setup n None)
    (with_handles (next_handle b) b))))

-- a live device is destroyed: the ownership of all that it lists ends, whoever has it, and it lists nothing
abbrev pub ended : ℕ → ℕ → Book → Book
ended n h b =
    with_owner (λ o. cond (holds (b.lists h o.kind) o.number) None (b.owner o))
    (with_lists (put b.lists h (λ _. None))
    (with_live (put b.live n None)
    (with_setup (put b.setup n None) b)))

-- an owned object is destroyed: nobody owns it, and its owner lists it no more
abbrev pub object_ended : Object → ℕ → Book → Book
object_ended o h b =
    with_owner (λ p. cond (same_object p o) None (b.owner p))
    (with_lists (put b.lists h (put_kind (b.lists h) o.kind None)) b)

-- an object of a known kind is listed
abbrev pub equipped : ℕ → Object → Book → Book
equipped n o b = with_setup (put b.setup n (at_some (b.setup n) None (λ l. Some (put_kind l o.kind (Some o.number))))) b

-- what an accepted call changes
abbrev pub accepted_call : Book → Call → Book
accepted_call b handshake = b
accepted_call b (new_seat n) = b
accepted_call b (ping n) = b
accepted_call b (disconnected n r t) = b
accepted_call b invalid_object = b
accepted_call b (callback_done n x) = b
accepted_call b (seat_name n t) = b
accepted_call b (seat_capability n m k) = b
accepted_call b (seat_done n) = with_handles (next_handle b) b
accepted_call b (seat_device s n) = with_setup (put b.setup n (Some (λ _. None))) b
accepted_call b (seat_destroyed n s) = b
accepted_call b (device_name n t) = b
accepted_call b (device_type n t) = b
accepted_call b (device_dimensions n x y) = b
accepted_call b (device_region n r) = b
accepted_call b (device_mapping_id n t) = b
accepted_call b (device_interface n o) = at_some o b (λ x. equipped n x b)
accepted_call b (device_done n) = at_some (b.setup n) b (λ l. finished n l b)
accepted_call b (device_speech n s x) = b
accepted_call b (device_frame n s t) = b
accepted_call b (device_destroyed n s) = at_some (b.live n) (with_setup (put b.setup n None) b) (λ h. ended n h b)
accepted_call b (keymap n k) = b
accepted_call b (modifiers n s x) = b
accepted_call b (act o x) = b
accepted_call b (object_destroyed o s) = at_some (b.owner o) b (λ h. object_ended o h b)
accepted_call b next_event = b
accepted_call b (add_callback n t) = b
accepted_call b (bind h x) = b
accepted_call b (retire_seat h) = b
accepted_call b (retire_device h) = with_retired (put b.retired h true) b

-- a refused call changes nothing, but that a device without a type is gone after its Done, which is answered 5
abbrev pub refused_call : Book → ℕ → Call → Book
refused_call b a (device_done n) = cond (a == 5) (with_setup (put b.setup n None) b) b
refused_call b a handshake = b
refused_call b a (new_seat n) = b
refused_call b a (ping n) = b
refused_call b a (disconnected n r t) = b
refused_call b a invalid_object = b
refused_call b a (callback_done n x) = b
refused_call b a (seat_name n t) = b
refused_call b a (seat_capability n m k) = b
refused_call b a (seat_done n) = b
refused_call b a (seat_device s n) = b
refused_call b a (seat_destroyed n s) = b
refused_call b a (device_name n t) = b
refused_call b a (device_type n t) = b
refused_call b a (device_dimensions n x y) = b
refused_call b a (device_region n r) = b
refused_call b a (device_mapping_id n t) = b
refused_call b a (device_interface n o) = b
refused_call b a (device_speech n s x) = b
refused_call b a (device_frame n s t) = b
refused_call b a (device_destroyed n s) = b
refused_call b a (keymap n k) = b
refused_call b a (modifiers n s x) = b
refused_call b a (act o x) = b
refused_call b a (object_destroyed o s) = b
refused_call b a next_event = b
refused_call b a (add_callback n t) = b
refused_call b a (bind h x) = b
refused_call b a (retire_seat h) = b
refused_call b a (retire_device h) = b

-- a call that is done answers 0
abbrev pub booked : Book → Call → ℕ → Book
booked b c a = cond (a == 0) (accepted_call b c) (refused_call b a c)

abbrev pub book : List Entry → Book
book [] = blank
book (e ∷ es) = booked (book es) e.call e.answer

-- the handle for which a Frame or an untimed device event is accepted: a device Done for the handle that it gives, a Frame or other
-- event of a device for the live device of its number, Modifiers for the owner of its keyboard
abbrev pub bounds_for : Book → Call → Option ℕ
bounds_for b handshake = None
bounds_for b (new_seat n) = None
bounds_for b (ping n) = None
bounds_for b (disconnected n r t) = None
bounds_for b invalid_object = None
bounds_for b (callback_done n x) = None
bounds_for b (seat_name n t) = None
bounds_for b (seat_capability n m k) = None
bounds_for b (seat_done n) = None
bounds_for b (seat_device s n) = None
bounds_for b (seat_destroyed n s) = None
bounds_for b (device_name n t) = None
bounds_for b (device_type n t) = None
bounds_for b (device_dimensions n x y) = None
bounds_for b (device_region n r) = None
bounds_for b (device_mapping_id n t) = None
bounds_for b (device_interface n o) = None
bounds_for b (device_done n) = Some (next_handle b)
bounds_for b (device_speech n s x) = b.live n
bounds_for b (device_frame n s t) = b.live n
bounds_for b (device_destroyed n s) = b.live n
bounds_for b (keymap n k) = None
bounds_for b (modifiers n s x) = b.owner (record { kind = Keyboard; number = n })
bounds_for b (act o x) = None
bounds_for b (object_destroyed o s) = None
bounds_for b next_event = None
bounds_for b (add_callback n t) = None
bounds_for b (bind h x) = None
bounds_for b (retire_seat h) = None
bounds_for b (retire_device h) = None

-- the timed event of a call, made for the owner of its object as the call began, with that handle
abbrev pub timed_for : Book → Call → Option (ℕ × EiEvent)
timed_for b (act o x) = at_some (b.owner o) None (λ h. Some (h, acted x h))
timed_for b handshake = None
timed_for b (new_seat n) = None
timed_for b (ping n) = None
timed_for b (disconnected n r t) = None
timed_for b invalid_object = None
timed_for b (callback_done n x) = None
timed_for b (seat_name n t) = None
timed_for b (seat_capability n m k) = None
timed_for b (seat_done n) = None
timed_for b (seat_device s n) = None
timed_for b (seat_destroyed n s) = None
timed_for b (device_name n t) = None
timed_for b (device_type n t) = None
timed_for b (device_dimensions n x y) = None
timed_for b (device_region n r) = None
timed_for b (device_mapping_id n t) = None
timed_for b (device_interface n o) = None
timed_for b (device_done n) = None
timed_for b (device_speech n s x) = None
timed_for b (device_frame n s t) = None
timed_for b (device_destroyed n s) = None
timed_for b (keymap n k) = None
timed_for b (modifiers n s x) = None
timed_for b (object_destroyed o s) = None
timed_for b next_event = None
timed_for b (add_callback n t) = None
timed_for b (bind h x) = None
timed_for b (retire_seat h) = None
timed_for b (retire_device h) = None

-- the timed event that an entry accepts for a handle, if any
abbrev pub press : ℕ → Book → Entry → List EiEvent
press h b e = cond (e.answer == 0) (at_some (timed_for b e.call) [] (λ p. cond (p.0 == h) (p.1 ∷ []) [])) []

-- the entry accepts a Frame or an untimed device event for the handle
abbrev pub bound : ℕ → Book → Entry → Bool
bound h b e = cond (e.answer == 0) (holds (bounds_for b e.call) h) false

-- the timed events accepted for a handle, in order
abbrev pub accepted : ℕ → List Entry → List EiEvent
accepted h [] = []
accepted h (e ∷ es) = accepted h es ++ press h (book es) e

-- those accepted since the last Frame or untimed device event accepted for the handle
abbrev pub since : ℕ → List Entry → List EiEvent
since h [] = []
since h (e ∷ es) = cond (bound h (book es) e) [] (since h es ++ press h (book es) e)

abbrev pub queued_by : List Entry → List EiEvent
queued_by [] = []
queued_by (e ∷ es) = e.queued

-- all that next_event has given
abbrev pub given_by : List Entry → List EiEvent
given_by [] = []
given_by (e ∷ es) = given_by es ++ at_some e.given [] (λ x. x ∷ [])

-- the timestamp of a server's Frame
abbrev pub server_time : Call → Option ℕ
server_time (device_frame n s t) = Some t
server_time handshake = None
server_time (new_seat n) = None
server_time (ping n) = None
server_time (disconnected n r t) = None
server_time invalid_object = None
server_time (callback_done n x) = None
server_time (seat_name n t) = None
server_time (seat_capability n m k) = None
server_time (seat_done n) = None
server_time (seat_device s n) = None
server_time (seat_destroyed n s) = None
server_time (device_name n t) = None
server_time (device_type n t) = None
server_time (device_dimensions n x y) = None
server_time (device_region n r) = None
server_time (device_mapping_id n t) = None
server_time (device_interface n o) = None
server_time (device_done n) = None
server_time (device_speech n s x) = None
server_time (device_destroyed n s) = None
server_time (keymap n k) = None
server_time (modifiers n s x) = None
server_time (act o x) = None
server_time (object_destroyed o s) = None
server_time next_event = None
server_time (add_callback n t) = None
server_time (bind h x) = None
server_time (retire_seat h) = None
server_time (retire_device h) = None
