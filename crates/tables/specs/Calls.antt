-- The calls, as values: what the server says and what the program asks. Texts are lists of bytes.
use Rattle.std.specs.Prelude.{ℕ, Bool, List, [], ℤ, Option, Float}
use Rattle.ei.specs.Texts.{text_of}
use Rattle.ei.specs.declared.capability.DeviceCapability.{DeviceCapability}
use Rattle.ei.specs.declared.device.Keymap.{Keymap}
use Rattle.ei.specs.declared.device.Region.{Region}
use Rattle.ei.specs.declared.enums.ButtonState.{ButtonState}
use Rattle.ei.specs.declared.enums.DeviceType.{DeviceType}
use Rattle.ei.specs.declared.enums.DisconnectReason.{DisconnectReason}
use Rattle.ei.specs.declared.enums.KeyState.{KeyState}
use Rattle.ei.specs.declared.event.EiEvent.{EiEvent}
use Rattle.ei.specs.declared.event.EiEvent.TheVariants as events
use Rattle.ei.specs.declared.object.Object.{Object}

-- a key, a motion or the like: what waits for its device's frame
pub data Act : Type 0 where
  motion : (dx dy : Float) → Act
  motion_absolute : (x y : Float) → Act
  button : (code : ℕ) → ButtonState → Act
  scroll : (dx dy : Float) → Act
  scroll_stop : (x y : Bool) → Act
  scroll_cancel : (x y : Bool) → Act
  scroll_discrete : (dx dy : ℤ) → Act
  key : (code : ℕ) → KeyState → Act
  touch_down : (id : ℕ) (x y : Float) → Act
  touch_up : (id : ℕ) → Act
  touch_motion : (id : ℕ) (x y : Float) → Act
  touch_cancel : (id : ℕ) → Act
  keysym : (code : ℕ) → KeyState → Act
  utf8 : (text : List ℕ) → Act

-- the event that an act is kept as, for the device of a handle; its time is 0 until a frame gives it one
abbrev pub acted : Act → ℕ → EiEvent
acted (motion x y) h = events.PointerMotion (record { device = h; time = 0; dx = x; dy = y })
acted (motion_absolute x y) h = events.PointerMotionAbsolute (record { device = h; time = 0; dx_absolute = x; dy_absolute = y })
acted (button c s) h = events.Button (record { device = h; time = 0; button = c; state = s })
acted (scroll x y) h = events.ScrollDelta (record { device = h; time = 0; dx = x; dy = y })
acted (scroll_stop x y) h = events.ScrollStop (record { device = h; time = 0; x = x; y = y })
acted (scroll_cancel x y) h = events.ScrollCancel (record { device = h; time = 0; x = x; y = y })
acted (scroll_discrete x y) h = events.ScrollDiscrete (record { device = h; time = 0; discrete_dx = x; discrete_dy = y })
acted (key c s) h = events.KeyboardKey (record { device = h; time = 0; key = c; state = s })
acted (touch_down i x y) h = events.TouchDown (record { device = h; time = 0; touch_id = i; x = x; y = y })
acted (touch_up i) h = events.TouchUp (record { device = h; time = 0; touch_id = i })
acted (touch_motion i x y) h = events.TouchMotion (record { device = h; time = 0; touch_id = i; x = x; y = y })
acted (touch_cancel i) h = events.TouchCancel (record { device = h; time = 0; touch_id = i })
acted (keysym c s) h = events.TextKeysym (record { device = h; time = 0; keysym = c; state = s })
acted (utf8 t) h = events.TextUtf8 (record { device = h; time = 0; text = text_of t })

-- the text that is to be kept of an act
abbrev pub text_kept : Act → List ℕ
text_kept (motion x y) = []
text_kept (motion_absolute x y) = []
text_kept (button c s) = []
text_kept (scroll x y) = []
text_kept (scroll_stop x y) = []
text_kept (scroll_cancel x y) = []
text_kept (scroll_discrete x y) = []
text_kept (key c s) = []
text_kept (touch_down i x y) = []
text_kept (touch_up i) = []
text_kept (touch_motion i x y) = []
text_kept (touch_cancel i) = []
text_kept (keysym c s) = []
text_kept (utf8 t) = t

-- what a device says of itself while it is live
pub data Speech : Type 0 where
  resumed : Speech
  paused : Speech
  start_emulating : (sequence : ℕ) → Speech
  stop_emulating : Speech

abbrev pub spoken : Speech → ℕ → ℕ → EiEvent
spoken resumed s h = events.DeviceResumed (record { device = h; serial = s })
spoken paused s h = events.DevicePaused (record { device = h; serial = s })
spoken (start_emulating q) s h = events.DeviceStartEmulating (record { device = h; serial = s; sequence = q })
spoken stop_emulating s h = events.DeviceStopEmulating (record { device = h; serial = s })

-- the state of a keyboard's modifiers
pub record Modifiers : Type 0 where
  pub depressed : ℕ
  pub latched : ℕ
  pub locked : ℕ
  pub group : ℕ

abbrev pub modified : Modifiers → ℕ → ℕ → EiEvent
modified x s h = events.KeyboardModifiers (record { device = h; serial = s; depressed = x.depressed; latched = x.latched; locked = x.locked; group = x.group })

pub data Call : Type 0 where
  -- the connection
  handshake : Call
  new_seat : (seat : ℕ) → Call
  ping : (number : ℕ) → Call
  disconnected : (last_serial : ℕ) → DisconnectReason → (explanation : Option (List ℕ)) → Call
  invalid_object : Call
  callback_done : (callback data' : ℕ) → Call
  -- a seat, by its number
  seat_name : (seat : ℕ) → List ℕ → Call
  seat_capability : (seat mask : ℕ) → Option DeviceCapability → Call
  seat_done : (seat : ℕ) → Call
  seat_device : (seat device : ℕ) → Call
  seat_destroyed : (seat serial : ℕ) → Call
  -- a device, by its number
  device_name : (device : ℕ) → List ℕ → Call
  device_type : (device : ℕ) → DeviceType → Call
  device_dimensions : (device width height : ℕ) → Call
  device_region : (device : ℕ) → Region → Call
  device_mapping_id : (device : ℕ) → List ℕ → Call
  device_interface : (device : ℕ) → Option Object → Call
  device_done : (device : ℕ) → Call
  device_speech : (device serial : ℕ) → Speech → Call
  device_frame : (device serial time : ℕ) → Call
  device_destroyed : (device serial : ℕ) → Call
  -- an interface object
  keymap : (keyboard : ℕ) → Keymap → Call
  modifiers : (keyboard serial : ℕ) → Modifiers → Call
  act : Object → Act → Call
  object_destroyed : Object → (serial : ℕ) → Call
  -- what the program asks
  next_event : Call
  add_callback : (callback ticket : ℕ) → Call
  bind : (seat set : ℕ) → Call
  retire_seat : (seat : ℕ) → Call
  retire_device : (device : ℕ) → Call
