-- Which device owns an object, and which one a keymap is for.
use Rattle.std.specs.Prelude.{ℕ, Bool, false, cond}
use Rattle.ei.specs.declared.capability.DeviceCapability.{DeviceCapability}
use Rattle.ei.specs.declared.capability.DeviceCapability.TheVariants.{Pointer, PointerAbsolute, Keyboard, Touch, Scroll, Button, Text}
use Rattle.ei.specs.declared.object.Object.{Object}
use Rattle.records.specs.declared.device.DeviceRow.{DeviceRow}
use Rattle.records.specs.declared.list.InterfaceList.{InterfaceList}
use Rattle.records.specs.declared.standing.Standing.TheVariants.{Pending}
use Rattle.records.specs.Listing.{entry_at, names, lists, owns}
use Rattle.records.specs.Rows.{same_standing}

-- the device's handle owns the object
abbrev pub owns_it : Object → DeviceRow → Bool
owns_it o row = owns o row.list

-- the keyboard of a number
abbrev pub keyboard_of : ℕ → Object
keyboard_of n = record { kind = Keyboard; number = n }

-- the device is being set up and lists the keyboard
abbrev pub pending_lists : ℕ → DeviceRow → Bool
pending_lists n row = cond (same_standing row.head.standing Pending) (lists (keyboard_of n) row.list) false

-- what is listed of a kind is the keyboard of this number
abbrev pub entry_is : ℕ → DeviceCapability → InterfaceList → Bool
entry_is n Pointer l = false
entry_is n PointerAbsolute l = false
entry_is n Keyboard l = names n (entry_at l Keyboard)
entry_is n Touch l = false
entry_is n Scroll l = false
entry_is n Button l = false
entry_is n Text l = false
