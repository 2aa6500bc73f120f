-- What the server says, as values, in groups by the object that it is said of. Texts are lists of bytes.
use Rattle.std.specs.Prelude.{ℕ, List, ℤ, Option, Float}
use Rattle.ei.specs.declared.capability.DeviceCapability.{DeviceCapability}
use Rattle.ei.specs.declared.device.Keymap.{Keymap}
use Rattle.ei.specs.declared.device.Region.{Region}
use Rattle.ei.specs.declared.enums.ButtonState.{ButtonState}
use Rattle.ei.specs.declared.enums.DeviceType.{DeviceType}
use Rattle.ei.specs.declared.enums.DisconnectReason.{DisconnectReason}
use Rattle.ei.specs.declared.enums.KeyState.{KeyState}
use Rattle.ei.specs.declared.object.Object.{Object}

-- of the connection itself
pub data ConnectionSays : Type 0 where
  new_seat : (seat : ℕ) → ConnectionSays
  ping : (number : ℕ) → ConnectionSays
  disconnected : (last_serial : ℕ) → DisconnectReason → (explanation : Option (List ℕ)) → ConnectionSays
  invalid_object : (last_serial id : ℕ) → ConnectionSays

-- of a seat
pub data SeatSays : Type 0 where
  seat_name : List ℕ → SeatSays
  seat_capability : (mask : ℕ) → Option DeviceCapability → SeatSays
  seat_done : SeatSays
  seat_device : (device : ℕ) → SeatSays
  seat_destroyed : (serial : ℕ) → SeatSays

-- of a device that is set up: all but its interface objects
pub data DetailSays : Type 0 where
  device_name : List ℕ → DetailSays
  device_type : DeviceType → DetailSays
  device_dimensions : (width height : ℕ) → DetailSays
  device_region : Region → DetailSays
  device_mapping_id : List ℕ → DetailSays

-- what a device says of itself while it is live
pub data Speech : Type 0 where
  resumed : Speech
  paused : Speech
  start_emulating : (sequence : ℕ) → Speech
  stop_emulating : Speech

-- of a device
pub data DeviceSays : Type 0 where
  device_detail : DetailSays → DeviceSays
  device_interface : Option Object → DeviceSays
  device_done : DeviceSays
  device_speech : (serial : ℕ) → Speech → DeviceSays
  device_frame : (serial time : ℕ) → DeviceSays
  device_destroyed : (serial : ℕ) → DeviceSays

-- the state of a keyboard's modifiers
pub record Modifiers : Type 0 where
  pub depressed : ℕ
  pub latched : ℕ
  pub locked : ℕ
  pub group : ℕ

-- of a keyboard alone
pub data KeyboardSays : Type 0 where
  keymap : Keymap → KeyboardSays
  modifiers : (serial : ℕ) → Modifiers → KeyboardSays

-- a key, a motion or the like: what waits for its device's frame
pub data Act : Type 0 where
  motion : (dx dy : Float) → Act
  motion_absolute : (x y : Float) → Act
  button : (code : ℕ) → ButtonState → Act
  scroll : (dx dy : Float) → Act
  scroll_stop : (x y cancel : ℕ) → Act
  scroll_discrete : (dx dy : ℤ) → Act
  key : (code : ℕ) → KeyState → Act
  touch_down : (id : ℕ) (x y : Float) → Act
  touch_up : (id : ℕ) → Act
  touch_motion : (id : ℕ) (x y : Float) → Act
  touch_cancel : (id : ℕ) → Act
  keysym : (code : ℕ) → KeyState → Act
  utf8 : (text : List ℕ) → Act

-- of an interface object of any kind
pub data ObjectSays : Type 0 where
  act : Act → ObjectSays
  object_destroyed : (serial : ℕ) → ObjectSays

pub data Says : Type 0 where
  handshake : Says
  connection : ConnectionSays → Says
  -- the server is done with the request behind a callback
  callback : (number data' : ℕ) → Says
  -- seats, devices and keyboards by their numbers
  seat : ℕ → SeatSays → Says
  device : ℕ → DeviceSays → Says
  keyboard : ℕ → KeyboardSays → Says
  object : Object → ObjectSays → Says
