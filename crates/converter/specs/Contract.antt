-- What a call of the converter promises: its answer, what the converter holds after it, and what became of the host.
use Rattle.std.specs.Prelude.{◌≡◌, ℕ, Ok, Err, Option, Result, nat_lt}
use Rattle.std.specs.Option.{option_map, ok_or}
use Rattle.ei.specs.declared.error.EventError.{EventError}
use Rattle.ei.specs.declared.error.EventError.TheVariants as refusals
use Rattle.ei.specs.declared.event.EiEvent.{EiEvent}
use Rattle.host.specs.Leaving.{HostState, WaitsOn, Leaves}
use Rattle.law.specs.Runs.{GoesOn}
use Rattle.records.specs.Rows.{first}
use Rattle.records.specs.declared.device.DeviceRow.{DeviceRow}
use Rattle.records.specs.declared.seat.SeatRow.{SeatRow}
use Rattle.tables.specs.Calls.{Call}
use Rattle.tables.specs.Model.{Model, View, Asked, nothing_asked, time_asked, note_asked, Outcome}
use Rattle.tables.specs.Outcomes.{handled}
use Rattle.tables.specs.Rules.{seat_by_handle, device_by_handle}
use Rattle.converter.specs.declared.convert.EiEventConverter.{EiEventConverter}

-- what a converter holds besides its host
abbrev pub model : {H : Type 0} → EiEventConverter H → Model
model c = c.tables

-- the row of a handle, if any
abbrev pub seat_at : ℕ → Model → Option SeatRow
seat_at handle m = first (seat_by_handle handle) m.seats

abbrev pub device_at : ℕ → Model → Option DeviceRow
device_at handle m = first (device_by_handle handle) m.devices

-- what is read of that row, or the refusal
abbrev pub of_seat : {X : Type 0} → ℕ → (SeatRow → X) → Model → Result X EventError
of_seat handle read m = ok_or (option_map read (seat_at handle m)) refusals.NoSuchHandle

abbrev pub of_device : {X : Type 0} → ℕ → (DeviceRow → X) → Model → Result X EventError
of_device handle read m = ok_or (option_map read (device_at handle m)) refusals.NoSuchHandle

-- the number of the object that is read, if any
abbrev pub shown_as : {X : Type 0} → (X → ℕ) → Result (Option X) EventError → Result (Option ℕ) EventError
shown_as f (Ok o) = Ok (option_map f o)
shown_as f (Err e) = Err e

-- what a call sees of the host as it begins
abbrev pub view : HostState → View
view s = record { reading = s.reading; spare = s.spare }

module _ {Host : Type 0} (state : Host → HostState) (Stays : Host → Host → Type 0) where
  -- what became of a host: the same where it was not asked; where the time was asked only the next reading is open; where it was asked
  -- to take a note it did what a host does, and what it keeps besides stays
  abbrev pub WasAsked : Asked → Host → Host → Type 0
  WasAsked nothing_asked before after = after ≡ before
  WasAsked time_asked before after = WaitsOn (state before) (state after)
  WasAsked (note_asked n) before after =
      Leaves n (nat_lt 0 (state before).spare) (state before) (state after)
      × Stays before after

  -- the call came to this outcome
  pub record Comes (o : Outcome) (r : Result (Unit {0}) EventError) (before after : EiEventConverter Host) : Type 0 where
    pub answer : r ≡ o.answer
    pub left : model after ≡ o.after
    pub asked : WasAsked o.asked before.host after.host

  -- it came to what the rules say of the call
  abbrev pub Does : Call → Result (Unit {0}) EventError → EiEventConverter Host → EiEventConverter Host → Type 0
  Does c r before after = Comes (handled (view (state before.host)) c (model before)) r before after

-- the law at the call: it goes on with every run that led to it
abbrev pub Continues : {Host : Type 0} → (Host → HostState) → Call → (answer : ℕ) → (given : Option EiEvent) → EiEventConverter Host → EiEventConverter Host → Type 0
Continues state c answer given before after = GoesOn (state before.host).reading c answer given (model before) (model after)
