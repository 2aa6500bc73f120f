-- A seat's row, and what becomes of it.
use Rattle.std.specs.Prelude.{ℕ, Some, None}
use Rattle.ei.specs.Capabilities.{no_masks, with_mask}
use Rattle.ei.specs.declared.capability.DeviceCapability.{DeviceCapability}
use Rattle.ei.specs.declared.text.Text.{Text}
use Rattle.records.specs.declared.seat.SeatRow.{SeatRow}
use Rattle.records.specs.declared.seat.SeatSetup.{SeatSetup}
use Rattle.records.specs.declared.seat.SeatSetup.TheVariants as setups
use Rattle.records.specs.declared.seat.SeatStep.{SeatStep}
use Rattle.records.specs.declared.seat.SeatStep.TheVariants as steps
use Rattle.records.specs.declared.standing.Head.{Head}
use Rattle.records.specs.declared.standing.Standing.{Standing}
use Rattle.records.specs.declared.standing.Standing.TheVariants.{Pending, Live, Detached}
use Rattle.records.specs.Heads.{new_head, live_head, detached_head}

-- a seat that is to be set up
abbrev pub new_seat : ℕ → SeatRow
new_seat n = record { head = new_head n; name = None; masks = no_masks }

-- a setter for each field
abbrev pub seat_with_head : Head → SeatRow → SeatRow
seat_with_head h row = record { head = h; name = row.name; masks = row.masks }

abbrev pub seat_with_name : Text → SeatRow → SeatRow
seat_with_name t row = record { head = row.head; name = Some t; masks = row.masks }

abbrev pub seat_with_mask : DeviceCapability → ℕ → SeatRow → SeatRow
seat_with_mask c m row = record { head = row.head; name = row.name; masks = with_mask c m row.masks }

-- what a seat's setup event says
abbrev pub seat_set_up : SeatSetup → SeatRow → SeatRow
seat_set_up (setups.Name t) row = seat_with_name t row
seat_set_up (setups.Capability c m) row = seat_with_mask c m row

-- by how the seat stands and the step together: only a pending seat is set up; Done makes a pending seat live and detaches a live one;
-- Destroyed detaches a live one
abbrev pub seat_taken : Standing → SeatStep → SeatRow → SeatRow
seat_taken Pending (steps.Setup s) row = seat_set_up s row
seat_taken Pending (steps.Done h) row = seat_with_head (live_head h row.head) row
seat_taken Pending steps.Destroyed row = row
seat_taken Live (steps.Setup s) row = row
seat_taken Live (steps.Done h) row = seat_with_head (detached_head row.head) row
seat_taken Live steps.Destroyed row = seat_with_head (detached_head row.head) row
seat_taken Detached (steps.Setup s) row = row
seat_taken Detached (steps.Done h) row = row
seat_taken Detached steps.Destroyed row = row

abbrev pub seat_stepped : SeatRow → SeatStep → SeatRow
seat_stepped row step = seat_taken row.head.standing step row
