use Rattle.std.proofs.Common.{◌≡◌, ℕ, ◌<◌, false, get_or}
use Rattle.std.specs.List.{AllWithin}
use Rattle.ei.specs.Capabilities.{every_capability}
use Rattle.ei.specs.declared.capability.DeviceCapability.TheVariants.{Pointer}
use Rattle.records.specs.Owners.{pending_lists, entry_is}
use Rattle.records.proofs.owners.pending_lister.Given as goal

-- no device that was passed lists the keyboard while it is set up
abbrev pub invariant-loop-i : goal.invariant-loop-i
invariant-loop-i l = AllWithin (λ row. pending_lists l.keyboard row ≡ false) l.devices 0 l.i

-- no entry that was passed is the keyboard
abbrev pub invariant-loop-kind : goal.invariant-loop-kind
invariant-loop-kind l = (k : ℕ) → k < l.kind-index → entry_is l.keyboard (get_or every_capability k Pointer) l.device.list ≡ false
