-- What each call does: its faults in the order of the original, then what it is short of, then its effect.
use Rattle.std.specs.Prelude.{ℕ, ◌+◌, Bool, true, false, cond, not, List, [], ◌∷◌, ◌++◌, map, length, Some, None, Option, ◌==◌, nat_eq, nat_le, nat_lt}
use Rattle.std.specs.Option.{option_map}
use Rattle.ei.specs.Capabilities.{mask_of}
use Rattle.ei.specs.Texts.{text_of}
use Rattle.ei.specs.declared.capability.DeviceCapability.{DeviceCapability}
use Rattle.ei.specs.declared.capability.DeviceCapability.TheVariants as kinds
use Rattle.ei.specs.declared.device.Keymap.{Keymap}
use Rattle.ei.specs.declared.device.Region.{Region}
use Rattle.ei.specs.declared.enums.DisconnectReason.{DisconnectReason}
use Rattle.ei.specs.declared.error.EventError.TheVariants as refusals
use Rattle.ei.specs.declared.event.EiEvent.{EiEvent}
use Rattle.ei.specs.declared.event.EiEvent.TheVariants as events
use Rattle.ei.specs.declared.event.Frame.{Frame}
use Rattle.ei.specs.declared.object.Object.{Object}
use Rattle.host.specs.declared.Note.TheVariants as notes
use Rattle.records.specs.Devices.{new_device, device_stepped}
use Rattle.records.specs.Owners.{owns_it, keyboard_of, pending_lists}
use Rattle.records.specs.Places.{regions_of}
use Rattle.records.specs.Rows.{same_standing, at_number, by_handle, first, any, no_row_for, changed, without}
use Rattle.records.specs.Seats.{new_seat, seat_stepped}
use Rattle.records.specs.declared.callback.CallbackRow.{CallbackRow}
use Rattle.records.specs.declared.device.Detail.{Detail}
use Rattle.records.specs.declared.device.Detail.TheVariants as details
use Rattle.records.specs.declared.device.DeviceRow.{DeviceRow}
use Rattle.records.specs.declared.device.DeviceStep.{DeviceStep}
use Rattle.records.specs.declared.device.DeviceStep.TheVariants as steps
use Rattle.records.specs.declared.device.Stage.{Stage}
use Rattle.records.specs.declared.device.Stage.TheVariants as stages
use Rattle.records.specs.declared.list.Entry.{Entry}
use Rattle.records.specs.declared.seat.SeatRow.{SeatRow}
use Rattle.records.specs.declared.seat.SeatSetup.TheVariants as setups
use Rattle.records.specs.declared.seat.SeatStep.{SeatStep}
use Rattle.records.specs.declared.seat.SeatStep.TheVariants as seat_stages
use Rattle.records.specs.declared.standing.Standing.{Standing}
use Rattle.records.specs.declared.standing.Standing.TheVariants.{Pending, Live, Detached}
use Rattle.store.specs.Moves.{Contents, has_pending, fits, can_hold, hold, can_commit, commit, queue, queue_framed, names, discard}
use Rattle.tables.specs.Model.{Model, View, nothing_asked, time_asked, note_asked, Outcome, with_serial, with_handles, with_seats, with_devices, with_callbacks, with_store, refused, done, asking, at_some, unless}
use Rattle.tables.specs.Refusal.{too_long, some_too_long, refusal, ample, of_text, of_regions, of_rows, of_notes, of_places, of_places_and_handles}

-- How much is held.

abbrev pub most_seats : ℕ
most_seats = 16

abbrev pub most_devices : ℕ
most_devices = 32

abbrev pub most_callbacks : ℕ
most_callbacks = 32

abbrev pub most_handles : ℕ
most_handles = 1000000

-- Rows by number and standing.

abbrev pub seat_at : ℕ → Standing → SeatRow → Bool
seat_at = at_number (λ row. row.head.number) (λ row. row.head.standing)

abbrev pub device_at : ℕ → Standing → DeviceRow → Bool
device_at = at_number (λ row. row.head.number) (λ row. row.head.standing)

abbrev pub callback_at : ℕ → CallbackRow → Bool
callback_at n = at_number (λ row. row.callback) (λ _. Live) n Live

abbrev pub seat_by_handle : ℕ → SeatRow → Bool
seat_by_handle = by_handle (λ row. row.head.handle) (λ row. row.head.standing)

abbrev pub device_by_handle : ℕ → DeviceRow → Bool
device_by_handle = by_handle (λ row. row.head.handle) (λ row. row.head.standing)

-- the seat of a number and a standing takes a step
abbrev pub seat_steps : ℕ → Standing → SeatStep → List SeatRow → List SeatRow
seat_steps n s step rows = changed (seat_at n s) (λ row. seat_stepped row step) rows

abbrev pub device_steps : ℕ → Standing → DeviceStep → List DeviceRow → List DeviceRow
device_steps n s step rows = changed (device_at n s) (λ row. device_stepped row step) rows

-- every device takes a step
abbrev pub all_step : DeviceStep → List DeviceRow → List DeviceRow
all_step step rows = map (λ row. device_stepped row step) rows

-- The next handle, and whether there is none.

abbrev pub next_handle : Model → ℕ
next_handle m = m.handles + 1

abbrev pub no_handle : Model → Bool
no_handle m = nat_le most_handles m.handles

-- A forced Frame.

abbrev pub frame_of : ℕ → ℕ → ℕ → Frame
frame_of device serial time = record { device = device; serial = serial; time = time }

-- whether an untimed event of a device, and the Frame that it may force, find no place
abbrev pub no_places_for : ℕ → Contents → Bool
no_places_for h c = not (fits (cond (has_pending h c) 2 1) c)

-- an untimed event of a device is queued: where something is pending for the device a Frame comes first, at the host's reading and
-- with the serial that is current then
abbrev pub untimed_queued : View → ℕ → EiEvent → Model → Outcome
untimed_queued v h e m = asking (cond (has_pending h m.store) time_asked nothing_asked) (done (with_store (queue_framed (frame_of h m.serial v.reading) e m.store) m))

-- The connection.

-- a new pending row replaces one of the same number, which gives its place
abbrev pub seat_arrives : ℕ → Model → Outcome
seat_arrives n m =
    unless (refusal (of_rows (no_row_for (any (seat_at n Pending) m.seats) (length m.seats) most_seats))) m
    (done (with_seats (without (seat_at n Pending) m.seats ++ (new_seat n ∷ [])) m))

-- a ping is answered with data 0
abbrev pub pinged : View → ℕ → Model → Outcome
pinged v p m = asking (note_asked (notes.Pong p 0)) (unless (refusal (of_notes (v.spare == 0))) m (done m))

abbrev pub connection_ends : ℕ → DisconnectReason → Option (List ℕ) → Model → Outcome
connection_ends n reason text m =
    unless (refusal (of_text (some_too_long text) (of_places (not (fits 1 m.store))))) m
    (done (with_store (queue (events.Disconnected (record { last_serial = n; reason = reason; explanation = option_map text_of text })) m.store) m))

-- an unknown callback is accepted; a known one is run once, and its row is gone
abbrev pub callback_ends : View → ℕ → ℕ → Model → Outcome
callback_ends v n x m =
    at_some (first (callback_at n) m.callbacks) (done m)
    (λ row. asking (note_asked (notes.Run row.ticket x)) (unless (refusal (of_notes (v.spare == 0))) m (done (with_callbacks (without (callback_at n) m.callbacks) m))))

-- A seat.

-- what is said of a seat that is not pending is refused
abbrev pub of_pending_seat : ℕ → Model → Outcome → Outcome
of_pending_seat n m o = cond (any (seat_at n Pending) m.seats) o (refused refusals.SeatSetupEventAfterDone m)

abbrev pub seat_named : ℕ → List ℕ → Model → Outcome
seat_named n text m =
    of_pending_seat n m (unless (refusal (of_text (too_long text) ample)) m
    (done (with_seats (seat_steps n Pending (seat_stages.Setup (setups.Name (text_of text))) m.seats) m)))

abbrev pub seat_capable : ℕ → ℕ → Option DeviceCapability → Model → Outcome
seat_capable n mask kind m =
    of_pending_seat n m (at_some kind (refused refusals.UnknownCapabilityInterface m)
    (λ c. done (with_seats (seat_steps n Pending (seat_stages.Setup (setups.Capability c mask)) m.seats) m)))

-- the live seat of the number is detached, and the pending one is live with the next handle
abbrev pub seat_ready : ℕ → Model → Outcome
seat_ready n m =
    of_pending_seat n m (unless (refusal (of_places_and_handles (not (fits 1 m.store)) (no_handle m))) m
    (done (with_store (queue (events.SeatAdded (record { seat = next_handle m })) m.store)
    (with_handles (next_handle m)
    (with_seats (seat_steps n Pending (seat_stages.Done (next_handle m)) (seat_steps n Live (seat_stages.Done (next_handle m)) m.seats)) m)))))

-- a device of a live seat begins to be set up
abbrev pub device_arrives : ℕ → ℕ → Model → Outcome
device_arrives s n m =
    at_some (first (seat_at s Live) m.seats) (refused refusals.SeatEventBeforeDone m)
    (λ seat. unless (refusal (of_rows (no_row_for (any (device_at n Pending) m.devices) (length m.devices) most_devices))) m
    (done (with_devices (without (device_at n Pending) m.devices ++ (new_device n seat.head.handle ∷ [])) m)))

-- the pending seat of the number is gone, and the live one is detached
abbrev pub seat_gone : ℕ → ℕ → Model → Outcome
seat_gone n serial m =
    at_some (first (seat_at n Live) m.seats)
    (done (with_serial serial (with_seats (without (seat_at n Pending) m.seats) m)))
    (λ seat. unless (refusal (of_places (not (fits 1 m.store)))) m
    (done (with_store (queue (events.SeatRemoved (record { seat = seat.head.handle })) m.store)
    (with_serial serial (with_seats (seat_steps n Live seat_stages.Destroyed (without (seat_at n Pending) m.seats)) m)))))

-- A device.

-- what is said of a device that is not pending is refused
abbrev pub of_pending_device : ℕ → Model → (DeviceRow → Outcome) → Outcome
of_pending_device n m o = at_some (first (device_at n Pending) m.devices) (refused refusals.DeviceSetupEventAfterDone m) o

-- a pending device is told something
abbrev pub device_told : ℕ → Stage → Model → Outcome
device_told n stage m = done (with_devices (device_steps n Pending (steps.Take stage) m.devices) m)

abbrev pub device_detailed : ℕ → Detail → Model → Outcome
device_detailed n detail m = of_pending_device n m (λ _. device_told n (stages.Setup detail) m)

abbrev pub device_named : ℕ → List ℕ → Model → Outcome
device_named n text m =
    of_pending_device n m (λ _. unless (refusal (of_text (too_long text) ample)) m (device_told n (stages.Setup (details.Name (text_of text))) m))

abbrev pub device_mapped : ℕ → List ℕ → Model → Outcome
device_mapped n text m =
    of_pending_device n m (λ _. unless (refusal (of_text (too_long text) ample)) m (device_told n (stages.Setup (details.MappingId (text_of text))) m))

abbrev pub device_placed : ℕ → Region → Model → Outcome
device_placed n region m =
    of_pending_device n m (λ row. unless (refusal (of_regions (length (regions_of row.description.regions) == 8))) m
    (device_told n (stages.Setup (details.Region region)) m))

-- an object of no kind is not kept
abbrev pub device_equipped : ℕ → Option Object → Model → Outcome
device_equipped n object m = of_pending_device n m (λ _. at_some object (done m) (λ o. device_told n (stages.Interface o) m))

-- a device without a type is gone. Else the live device of the number is detached, the pending one is live with the next handle and owns
-- all that it lists, in place of former owners
abbrev pub device_ready : View → ℕ → Model → Outcome
device_ready v n m =
    of_pending_device n m (λ row. at_some row.description.device_type
    (refused refusals.NoDeviceType (with_devices (without (device_at n Pending) m.devices) m))
    (λ _. unless (refusal (of_places_and_handles (no_places_for (next_handle m) m.store) (no_handle m))) m
    (untimed_queued v (next_handle m) (events.DeviceAdded (record { device = next_handle m }))
    (with_handles (next_handle m)
    (with_devices
    (device_steps n Pending (steps.Take (stages.Done (next_handle m)))
    (device_steps n Live (steps.Take (stages.Done (next_handle m)))
    (all_step (steps.GiveUp row.list) m.devices)))
    m)))))

-- a serial-first event of a live device: refused for want of the device it still sets the serial
abbrev pub of_live_device : ℕ → ℕ → Model → (DeviceRow → Outcome) → Outcome
of_live_device n serial m o = at_some (first (device_at n Live) m.devices) (refused refusals.DeviceEventBeforeDone (with_serial serial m)) o

abbrev pub device_speaks : View → ℕ → ℕ → (ℕ → EiEvent) → Model → Outcome
device_speaks v n serial make m =
    of_live_device n serial m (λ row. unless (refusal (of_places (no_places_for row.head.handle m.store))) m
    (untimed_queued v row.head.handle (make row.head.handle) (with_serial serial m)))

abbrev pub device_framed : ℕ → ℕ → ℕ → Model → Outcome
device_framed n serial time m =
    of_live_device n serial m (λ row. unless (refusal (of_places (not (can_commit (frame_of row.head.handle serial time) m.store)))) m
    (done (with_store (commit (frame_of row.head.handle serial time) m.store) (with_serial serial m))))

-- the pending device of the number is gone. A live one is detached; the ownership of all that it lists ends, whoever has it, and its
-- list is empty
abbrev pub device_gone : View → ℕ → ℕ → Model → Outcome
device_gone v n serial m =
    at_some (first (device_at n Live) m.devices)
    (done (with_serial serial (with_devices (without (device_at n Pending) m.devices) m)))
    (λ row. unless (refusal (of_places (no_places_for row.head.handle m.store))) m
    (untimed_queued v row.head.handle (events.DeviceRemoved (record { device = row.head.handle }))
    (with_serial serial (with_devices
    (device_steps n Live (steps.Take stages.Destroyed) (all_step (steps.GiveUp row.list) (without (device_at n Pending) m.devices)))
    m))))

-- An interface object.

-- a keymap goes to the first pending device that lists the keyboard
abbrev pub keymap_arrives : ℕ → Keymap → Model → Outcome
keymap_arrives n k m =
    cond (any (pending_lists n) m.devices)
    (done (with_devices (changed (pending_lists n) (λ row. device_stepped row (steps.Take (stages.Setup (details.Keymap k)))) m.devices) m))
    (refused refusals.DeviceSetupEventAfterDone m)

-- the handle that owns an object
abbrev pub owner_of : Object → Model → Option ℕ
owner_of o m = option_map (λ row. row.head.handle) (first (owns_it o) m.devices)

abbrev pub keyboard_modified : View → ℕ → ℕ → (ℕ → EiEvent) → Model → Outcome
keyboard_modified v n serial make m =
    at_some (owner_of (keyboard_of n) m) (refused refusals.DeviceEventBeforeDone (with_serial serial m))
    (λ h. unless (refusal (of_places (no_places_for h m.store))) m (untimed_queued v h (make h) (with_serial serial m)))

-- a timed event waits for the frame of the object's owner
abbrev pub owner_acts : Object → List ℕ → (ℕ → EiEvent) → Model → Outcome
owner_acts o text make m =
    at_some (owner_of o m) (refused refusals.DeviceEventBeforeDone m)
    (λ h. unless (refusal (of_text (too_long text) (of_places (not (can_hold m.store))))) m (done (with_store (hold (make h) m.store) m)))

-- Destroyed of a keyboard or a text sets the serial even where nobody owns it
abbrev pub serial_anyway : DeviceCapability → Bool
serial_anyway kinds.Pointer = false
serial_anyway kinds.PointerAbsolute = false
serial_anyway kinds.Keyboard = true
serial_anyway kinds.Touch = false
serial_anyway kinds.Scroll = false
serial_anyway kinds.Button = false
serial_anyway kinds.Text = true

-- an owned object is taken off its owner's list
abbrev pub object_gone : Object → ℕ → Model → Outcome
object_gone o serial m =
    cond (any (owns_it o) m.devices)
    (done (with_serial serial (with_devices (changed (owns_it o) (λ row. device_stepped row (steps.Forget o.kind)) m.devices) m)))
    (cond (serial_anyway o.kind) (done (with_serial serial m)) (refused refusals.DeviceEventBeforeDone m))

-- What the program asks.

-- another ticket for a known callback, or a new row
abbrev pub callback_added : ℕ → ℕ → Model → Outcome
callback_added n ticket m =
    cond (any (callback_at n) m.callbacks)
    (done (with_callbacks (changed (callback_at n) (λ row. record { callback = row.callback; ticket = ticket }) m.callbacks) m))
    (unless (refusal (of_rows (not (nat_lt (length m.callbacks) most_callbacks)))) m
    (done (with_callbacks (m.callbacks ++ (record { callback = n; ticket = ticket } ∷ [])) m)))

-- the mask sent is the or of the masks of the set's members
abbrev pub seat_bound : View → ℕ → ℕ → Model → Outcome
seat_bound v h bits m =
    at_some (first (seat_by_handle h) m.seats) (refused refusals.NoSuchHandle m)
    (λ row. asking (note_asked (notes.Bind row.head.number (mask_of row.masks bits))) (unless (refusal (of_notes (v.spare == 0))) m (done m)))

-- Retiring.

-- some entry is owned
abbrev pub owns_any : List (Option Entry) → Bool
owns_any [] = false
owns_any (None ∷ es) = owns_any es
owns_any (Some e ∷ es) = cond e.owned true (owns_any es)

-- a device may be retired once it is detached, owns no object, and is named by no event still to be handed out
abbrev pub device_retirable : DeviceRow → Contents → Bool
device_retirable row c = cond (same_standing row.head.standing Detached) (cond (owns_any row.list.entries) false (not (names row.head.handle c))) false

-- its row is freed, and its pending events are discarded
abbrev pub device_retired : ℕ → Model → Outcome
device_retired h m =
    at_some (first (device_by_handle h) m.devices) (refused refusals.NoSuchHandle m)
    (λ row. cond (device_retirable row m.store)
    (done (with_store (discard h m.store) (with_devices (without (device_by_handle h) m.devices) m)))
    (refused refusals.HandleBusy m))

-- a seat may be retired once it is detached, no device record is of it, and no event still to be handed out names it
abbrev pub seat_retirable : SeatRow → Model → Bool
seat_retirable row m = cond (same_standing row.head.standing Detached) (cond (any (λ device. nat_eq device.seat row.head.handle) m.devices) false (not (names row.head.handle m.store))) false

abbrev pub seat_retired : ℕ → Model → Outcome
seat_retired h m =
    at_some (first (seat_by_handle h) m.seats) (refused refusals.NoSuchHandle m)
    (λ row. cond (seat_retirable row m)
    (done (with_seats (without (seat_by_handle h) m.seats) m))
    (refused refusals.HandleBusy m))
