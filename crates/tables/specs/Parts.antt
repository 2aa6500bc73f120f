-- Parts of what calls come to, as the functions that share them say it.
use Rattle.std.specs.Prelude.{◌≡◌, ℕ, Bool, false, cond, not, List, Option}
use Rattle.std.specs.Option.{option_map}
use Rattle.ei.specs.declared.event.EiEvent.{EiEvent}
use Rattle.records.specs.Rows.{first, same_standing}
use Rattle.records.specs.declared.device.Detail.{Detail}
use Rattle.records.specs.declared.device.DeviceRow.{DeviceRow}
use Rattle.records.specs.declared.device.Stage.TheVariants as stages
use Rattle.records.specs.declared.seat.SeatSetup.{SeatSetup}
use Rattle.records.specs.declared.seat.SeatStep.TheVariants as seat_stages
use Rattle.records.specs.declared.standing.Head.{Head}
use Rattle.records.specs.declared.standing.Standing.TheVariants.{Pending, Live, Detached}
use Rattle.store.specs.Moves.{Contents, names}
use Rattle.tables.specs.Model.{Model, View, Outcome, done, unless, with_seats, with_serial}
use Rattle.tables.specs.Refusal.{refusal, ample, of_text, of_places, too_long}
use Rattle.tables.specs.Rules.{device_at, device_told, no_places_for, of_pending_device, seat_steps, untimed_queued}

-- the device that is being set up, and the handle of the live one
abbrev pub pending_device : ℕ → Model → Option DeviceRow
pending_device n m = first (device_at n Pending) m.devices

abbrev pub live_handle : ℕ → Model → Option ℕ
live_handle n m = option_map (λ row. row.head.handle) (first (device_at n Live) m.devices)

-- a seat that is being set up is told something
abbrev pub seat_told : ℕ → SeatSetup → Model → Outcome
seat_told n detail m = done (with_seats (seat_steps n Pending (seat_stages.Setup detail) m.seats) m)

-- a pending device is told a text, which is kept as this detail
abbrev pub worded : ℕ → List ℕ → Detail → Model → Outcome
worded n text detail m = of_pending_device n m (λ _. unless (refusal (of_text (too_long text) ample)) m (device_told n (stages.Setup detail) m))

-- what a constructor gives is this and nothing else
abbrev pub GivesOnly : (Detail → Type 0) → Detail → Type 0
GivesOnly gives detail = (e : Detail) → gives e → e ≡ detail

-- an untimed event with a serial, of the device of a handle, where it finds its places
abbrev pub untimed_said : View → ℕ → ℕ → EiEvent → Model → Outcome
untimed_said v h serial event m = unless (refusal (of_places (no_places_for h m.store))) m (untimed_queued v h event (with_serial serial m))

-- a record that is detached, has nothing of its own, and is named by no event still to be handed out
abbrev pub unused : Head → (has_own : Bool) → Contents → Bool
unused head has_own c = cond (same_standing head.standing Detached) (cond has_own false (not (names head.handle c))) false
