-- Names of interfaces are texts.
use Rattle.std.proofs.Common.{List, ℕ, refl, sym, subst, ◌≢◌}
use Rattle.std.specs.Str.{IsUtf8}
use Rattle.ei.specs.Capabilities.{interface_name}
use Rattle.ei.specs.declared.capability.DeviceCapability.{DeviceCapability}
use Rattle.ei.specs.declared.capability.DeviceCapability.TheVariants.{Pointer, PointerAbsolute, Keyboard, Touch, Scroll, Button, Text}

name_is_text : (c : DeviceCapability) → IsUtf8 (interface_name c)
unfolding lib.Utf8.encode
name_is_text Pointer = (interface_name Pointer, (refl, refl))
name_is_text PointerAbsolute = (interface_name PointerAbsolute, (refl, refl))
name_is_text Keyboard = (interface_name Keyboard, (refl, refl))
name_is_text Touch = (interface_name Touch, (refl, refl))
name_is_text Scroll = (interface_name Scroll, (refl, refl))
name_is_text Button = (interface_name Button, (refl, refl))
name_is_text Text = (interface_name Text, (refl, refl))

-- what is no text is no interface's name
pub no_name : (w : List ℕ) → (IsUtf8 w → ⊥) → (c : DeviceCapability) → w ≢ interface_name c
no_name w n c e = n (subst IsUtf8 (sym e) (name_is_text c))
