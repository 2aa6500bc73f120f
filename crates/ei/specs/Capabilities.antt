-- The seven interfaces that a device may have: their names, their places, and the masks that bind them. Written from the
-- libei EI protocol document.
use Rattle.std.specs.Prelude.{ℕ, ◌/◌, ◌%◌, ◌^◌, Bool, List, [], ◌∷◌, map, replicate, codes, fold, filter, ◌==◌, bit_or, slice_index, slice_set}
use Rattle.ei.specs.declared.capability.DeviceCapability.{DeviceCapability}
use Rattle.ei.specs.declared.capability.DeviceCapability.TheVariants.{Pointer, PointerAbsolute, Keyboard, Touch, Scroll, Button, Text}
use Rattle.ei.specs.declared.capability.CapabilityMap.{CapabilityMap}

-- the protocol's name of each interface
abbrev pub interface_name : DeviceCapability → List ℕ
interface_name Pointer = codes "ei_pointer"
interface_name PointerAbsolute = codes "ei_pointer_absolute"
interface_name Keyboard = codes "ei_keyboard"
interface_name Touch = codes "ei_touchscreen"
interface_name Scroll = codes "ei_scroll"
interface_name Button = codes "ei_button"
interface_name Text = codes "ei_text"

-- the place of each in a set, a map and an interface list
abbrev pub index_of : DeviceCapability → ℕ
index_of Pointer = 0
index_of PointerAbsolute = 1
index_of Keyboard = 2
index_of Touch = 3
index_of Scroll = 4
index_of Button = 5
index_of Text = 6

-- all seven, in the order of their places
abbrev pub every_capability : List DeviceCapability
every_capability = Pointer ∷ (PointerAbsolute ∷ (Keyboard ∷ (Touch ∷ (Scroll ∷ (Button ∷ (Text ∷ []))))))

-- whether the set of these bits has the capability: the bit at its place is 1
abbrev pub member : ℕ → DeviceCapability → Bool
member bits c = bits / 2 ^ index_of c % 2 == 1

-- the mask that a seat gave for a capability
abbrev pub mask_at : CapabilityMap → DeviceCapability → ℕ
mask_at m c = slice_index m.masks (index_of c)

-- no mask is set
abbrev pub no_masks : CapabilityMap
no_masks = record { masks = replicate 7 0 }

-- the map with another mask for a capability
abbrev pub with_mask : DeviceCapability → ℕ → CapabilityMap → CapabilityMap
with_mask c mask m = record { masks = slice_set m.masks (index_of c) mask }

-- the mask that binds a set: the bitwise or of the masks of its members
abbrev pub mask_of : CapabilityMap → ℕ → ℕ
mask_of m bits = fold bit_or 0 (map (mask_at m) (filter (member bits) every_capability))
