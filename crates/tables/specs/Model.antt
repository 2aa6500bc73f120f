-- What a converter holds, as a value, and what comes of a call.
use Rattle.std.specs.Prelude.{ℕ, ◌≤◌, List, [], length, Some, None, Ok, Err, Option, Result}
use Rattle.ei.specs.declared.error.EventError.{EventError}
use Rattle.host.specs.declared.Note.{Note}
use Rattle.records.specs.declared.callback.CallbackRow.{CallbackRow}
use Rattle.records.specs.declared.device.DeviceRow.{DeviceRow}
use Rattle.records.specs.declared.seat.SeatRow.{SeatRow}
use Rattle.store.specs.Moves.{Contents, held, nothing}

pub record Model : Type 0 where
  -- the last serial that the server sent
  pub serial : ℕ
  -- the last handle given
  pub handles : ℕ
  -- the rows, in the order of the events that made them
  pub seats : List SeatRow
  pub devices : List DeviceRow
  pub callbacks : List CallbackRow
  pub store : Contents

-- what is never passed: handles given, rows of each table, and events held
pub record Bounded (m : Model) : Type 0 where
  pub handles : m.handles ≤ 1000000
  pub seats : length m.seats ≤ 16
  pub devices : length m.devices ≤ 32
  pub callbacks : length m.callbacks ≤ 32
  pub events : held m.store ≤ 256

-- a converter that is new
abbrev pub fresh : ℕ → Model
fresh n = record { serial = n; handles = 0; seats = []; devices = []; callbacks = []; store = nothing }

-- a setter for each field
abbrev pub with_serial : ℕ → Model → Model
with_serial x m = record { serial = x; handles = m.handles; seats = m.seats; devices = m.devices; callbacks = m.callbacks; store = m.store }

abbrev pub with_handles : ℕ → Model → Model
with_handles x m = record { serial = m.serial; handles = x; seats = m.seats; devices = m.devices; callbacks = m.callbacks; store = m.store }

abbrev pub with_seats : List SeatRow → Model → Model
with_seats x m = record { serial = m.serial; handles = m.handles; seats = x; devices = m.devices; callbacks = m.callbacks; store = m.store }

abbrev pub with_devices : List DeviceRow → Model → Model
with_devices x m = record { serial = m.serial; handles = m.handles; seats = m.seats; devices = x; callbacks = m.callbacks; store = m.store }

abbrev pub with_callbacks : List CallbackRow → Model → Model
with_callbacks x m = record { serial = m.serial; handles = m.handles; seats = m.seats; devices = m.devices; callbacks = x; store = m.store }

abbrev pub with_store : Contents → Model → Model
with_store x m = record { serial = m.serial; handles = m.handles; seats = m.seats; devices = m.devices; callbacks = m.callbacks; store = x }

-- what a call sees of the host as it begins
pub record View : Type 0 where
  pub reading : ℕ
  pub spare : ℕ

-- what a call asks of the host: nothing, the time, or a place for a note
pub data Asked : Type 0 where
  nothing_asked : Asked
  time_asked : Asked
  note_asked : Note → Asked

pub record Outcome : Type 0 where
  pub answer : Result (Unit {0}) EventError
  pub after : Model
  pub asked : Asked

-- the call is refused, and this is left
abbrev pub refused : EventError → Model → Outcome
refused e m = record { answer = Err e; after = m; asked = nothing_asked }

-- the call is done, and this is left
abbrev pub done : Model → Outcome
done m = record { answer = Ok tt; after = m; asked = nothing_asked }

abbrev pub asking : Asked → Outcome → Outcome
asking a o = record { answer = o.answer; after = o.after; asked = a }

-- what there is, or what to do where there is none
abbrev pub at_some : {X Y : Type 0} → Option X → Y → (X → Y) → Y
at_some None d f = d
at_some (Some x) d f = f x

-- refused where something is short, and then nothing has changed
abbrev pub unless : Option EventError → Model → Outcome → Outcome
unless None m o = o
unless (Some e) m o = refused e m
