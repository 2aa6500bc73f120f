-- What holds of seats, devices and their handles at every point of a run.
use Rattle.std.specs.Prelude.{◌≡◌, ℕ, true, false, ◌⊎◌, List, [], ◌∷◌, is_some, Some}
use Rattle.std.specs.List.{AllByRecursion}
use Rattle.ei.specs.declared.event.EiEvent.{EiEvent}
use Rattle.records.specs.Rows.{same_standing}
use Rattle.records.specs.declared.device.DeviceRow.{DeviceRow}
use Rattle.records.specs.declared.standing.Standing.TheVariants.{Pending}
use Rattle.store.specs.Moves.{Contents, named, given}
use Rattle.tables.specs.Calls.{retire_seat, retire_device}
use Rattle.tables.specs.Model.{Model}
use Rattle.law.specs.History.{Entry}
use Rattle.law.specs.Runs.{Run}

-- a device that is live, or was, has a type
abbrev pub Typed : DeviceRow → Type 0
Typed row = same_standing row.head.standing Pending ≡ false → is_some row.description.device_type ≡ true

abbrev pub TypedLaw : Type 0
TypedLaw = (es : List Entry) (m : Model) → Run es m → AllByRecursion Typed m.devices

-- the call retired the handle, of a seat or of a device
abbrev pub Retires : ℕ → Entry → Type 0
Retires h e = (e.answer ≡ 0) × ((e.call ≡ retire_seat h) ⊎ (e.call ≡ retire_device h))

-- some call did
abbrev pub Retired : ℕ → List Entry → Type 0
Retired h [] = ⊥
Retired h (e ∷ es) = Retires h e ⊎ Retired h es

-- no event that is held, pending or queued, names the handle
abbrev pub Unnamed : ℕ → Contents → Type 0
Unnamed h c = AllByRecursion (λ e. named h e ≡ false) c.pending × AllByRecursion (λ e. named h e ≡ false) c.queued

-- what is retired is named by nothing that is held, at every later point
abbrev pub RetiredLaw : Type 0
RetiredLaw = (es : List Entry) (m : Model) → Run es m → (h : ℕ) → Retired h es → Unnamed h m.store

-- and so by no event that is handed out
abbrev pub NeverNamedAgain : Type 0
NeverNamedAgain = (es : List Entry) (m : Model) → Run es m → (h : ℕ) → Retired h es → (e : EiEvent) → given m.store ≡ Some e → named h e ≡ false
