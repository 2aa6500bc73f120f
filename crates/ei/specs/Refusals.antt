-- The number by which a refusal is known; a call that is done answers 0.
use Rattle.std.specs.Prelude.{ℕ, Ok, Err, Result}
use Rattle.ei.specs.declared.error.EventError.{EventError}
use Rattle.ei.specs.declared.error.EventError.TheVariants.{DeviceEventBeforeDone, DeviceSetupEventAfterDone, SeatSetupEventAfterDone, SeatEventBeforeDone, NoDeviceType, UnexpectedHandshakeEvent, UnknownCapabilityInterface, LongText, StoreFull, TableFull, HandlesUsedUp, HostFull, NoSuchHandle, HandleBusy, RegionsFull}

abbrev pub number_of : EventError → ℕ
number_of DeviceEventBeforeDone = 1
number_of DeviceSetupEventAfterDone = 2
number_of SeatSetupEventAfterDone = 3
number_of SeatEventBeforeDone = 4
number_of NoDeviceType = 5
number_of UnexpectedHandshakeEvent = 6
number_of UnknownCapabilityInterface = 7
number_of LongText = 8
number_of StoreFull = 9
number_of TableFull = 10
number_of HandlesUsedUp = 11
number_of HostFull = 12
number_of NoSuchHandle = 13
number_of HandleBusy = 14
number_of RegionsFull = 15

-- what a call answers, as a number
abbrev pub answer_of : {X : Type 0} → Result X EventError → ℕ
answer_of (Ok x) = 0
answer_of (Err e) = number_of e
