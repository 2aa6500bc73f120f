-- Each low-level event as a call.
use Rattle.std.specs.Prelude.{ℕ, Bool, cond, not, None, ◌==◌}
use Rattle.std.specs.Option.{option_map}
use Rattle.ei.specs.declared.capability.DeviceCapability.{DeviceCapability}
use Rattle.ei.specs.declared.capability.DeviceCapability.TheVariants as kinds
use Rattle.ei.specs.declared.object.Object.{Object}
use Rattle.ei.specs.declared.proto.Event.{Event}
use Rattle.ei.specs.declared.proto.Event.TheVariants as event
use Rattle.ei.specs.declared.proto.ConnectionEvent.{ConnectionEvent}
use Rattle.ei.specs.declared.proto.ConnectionEvent.TheVariants as in_connection
use Rattle.ei.specs.declared.proto.CallbackEvent.{CallbackEvent}
use Rattle.ei.specs.declared.proto.CallbackEvent.TheVariants as in_callback
use Rattle.ei.specs.declared.proto.SeatEvent.{SeatEvent}
use Rattle.ei.specs.declared.proto.SeatEvent.TheVariants as in_seat
use Rattle.ei.specs.declared.proto.DeviceEvent.{DeviceEvent}
use Rattle.ei.specs.declared.proto.DeviceEvent.TheVariants as in_device
use Rattle.ei.specs.declared.proto.KeyboardEvent.{KeyboardEvent}
use Rattle.ei.specs.declared.proto.KeyboardEvent.TheVariants as in_keyboard
use Rattle.ei.specs.declared.proto.PointerEvent.{PointerEvent}
use Rattle.ei.specs.declared.proto.PointerEvent.TheVariants as in_pointer
use Rattle.ei.specs.declared.proto.PointerAbsoluteEvent.{PointerAbsoluteEvent}
use Rattle.ei.specs.declared.proto.PointerAbsoluteEvent.TheVariants as in_pointer_absolute
use Rattle.ei.specs.declared.proto.ScrollEvent.{ScrollEvent}
use Rattle.ei.specs.declared.proto.ScrollEvent.TheVariants as in_scroll
use Rattle.ei.specs.declared.proto.ButtonEvent.{ButtonEvent}
use Rattle.ei.specs.declared.proto.ButtonEvent.TheVariants as in_button
use Rattle.ei.specs.declared.proto.TouchscreenEvent.{TouchscreenEvent}
use Rattle.ei.specs.declared.proto.TouchscreenEvent.TheVariants as in_touchscreen
use Rattle.ei.specs.declared.proto.TextEvent.{TextEvent}
use Rattle.ei.specs.declared.proto.TextEvent.TheVariants as in_text
use Rattle.tables.specs.Calls.{Call, handshake, new_seat, ping, disconnected, invalid_object, callback_done, seat_name, seat_capability, seat_done, seat_device, seat_destroyed, device_name, device_type, device_dimensions, device_region, device_mapping_id, device_interface, device_done, device_speech, device_frame, device_destroyed, keymap, modifiers, act, object_destroyed, Act, motion, motion_absolute, button, scroll, scroll_stop, scroll_cancel, scroll_discrete, key, touch_down, touch_up, touch_motion, touch_cancel, keysym, utf8, resumed, paused, start_emulating, stop_emulating}

abbrev pub object_of : DeviceCapability → ℕ → Object
object_of c n = record { kind = c; number = n }

abbrev pub connection_call : ConnectionEvent → Call
connection_call (in_connection.Seat n) = new_seat n
connection_call (in_connection.Ping n) = ping n
connection_call (in_connection.Disconnected n reason text) = disconnected n reason (option_map (λ x. x.now) text)
connection_call (in_connection.InvalidObject n x) = invalid_object

abbrev pub callback_call : ℕ → CallbackEvent → Call
callback_call n (in_callback.Done x) = callback_done n x

abbrev pub seat_call : ℕ → SeatEvent → Call
seat_call n (in_seat.Name t) = seat_name n t.now
seat_call n (in_seat.Capability mask kind) = seat_capability n mask kind
seat_call n in_seat.Done = seat_done n
seat_call n (in_seat.Device d) = seat_device n d
seat_call n (in_seat.Destroyed s) = seat_destroyed n s

abbrev pub device_call : ℕ → DeviceEvent → Call
device_call n (in_device.Name t) = device_name n t.now
device_call n (in_device.DeviceType t) = device_type n t
device_call n (in_device.Dimensions x y) = device_dimensions n x y
device_call n (in_device.Region x y width height scale) = device_region n (record { x = x; y = y; width = width; height = height; scale = scale; mapping_id = None })
device_call n (in_device.RegionMappingId t) = device_mapping_id n t.now
device_call n (in_device.Interface o) = device_interface n o
device_call n in_device.Done = device_done n
device_call n (in_device.Resumed s) = device_speech n s resumed
device_call n (in_device.Paused s) = device_speech n s paused
device_call n (in_device.StartEmulating s q) = device_speech n s (start_emulating q)
device_call n (in_device.StopEmulating s) = device_speech n s stop_emulating
device_call n (in_device.Frame s t) = device_frame n s t
device_call n (in_device.Destroyed s) = device_destroyed n s

abbrev pub keyboard_call : ℕ → KeyboardEvent → Call
keyboard_call n (in_keyboard.Keymap t size fd) = keymap n (record { fd = fd; size = size; type_ = t })
keyboard_call n (in_keyboard.Key k s) = act (object_of kinds.Keyboard n) (key k s)
keyboard_call n (in_keyboard.Modifiers s depressed locked latched group) = modifiers n s (record { depressed = depressed; latched = latched; locked = locked; group = group })
keyboard_call n (in_keyboard.Destroyed s) = object_destroyed (object_of kinds.Keyboard n) s

abbrev pub pointer_call : ℕ → PointerEvent → Call
pointer_call n (in_pointer.MotionRelative x y) = act (object_of kinds.Pointer n) (motion x y)
pointer_call n (in_pointer.Destroyed s) = object_destroyed (object_of kinds.Pointer n) s

abbrev pub pointer_absolute_call : ℕ → PointerAbsoluteEvent → Call
pointer_absolute_call n (in_pointer_absolute.MotionAbsolute x y) = act (object_of kinds.PointerAbsolute n) (motion_absolute x y)
pointer_absolute_call n (in_pointer_absolute.Destroyed s) = object_destroyed (object_of kinds.PointerAbsolute n) s

-- an axis flag means not 0
abbrev pub flag : ℕ → Bool
flag x = not (x == 0)

abbrev pub scroll_end : ℕ → ℕ → ℕ → Act
scroll_end x y cancel = cond (flag cancel) (scroll_cancel (flag x) (flag y)) (scroll_stop (flag x) (flag y))

abbrev pub scroll_call : ℕ → ScrollEvent → Call
scroll_call n (in_scroll.Scroll x y) = act (object_of kinds.Scroll n) (scroll x y)
scroll_call n (in_scroll.ScrollDiscrete x y) = act (object_of kinds.Scroll n) (scroll_discrete x y)
scroll_call n (in_scroll.ScrollStop x y cancel) = act (object_of kinds.Scroll n) (scroll_end x y cancel)
scroll_call n (in_scroll.Destroyed s) = object_destroyed (object_of kinds.Scroll n) s

abbrev pub button_call : ℕ → ButtonEvent → Call
button_call n (in_button.Button b s) = act (object_of kinds.Button n) (button b s)
button_call n (in_button.Destroyed s) = object_destroyed (object_of kinds.Button n) s

abbrev pub touchscreen_call : ℕ → TouchscreenEvent → Call
touchscreen_call n (in_touchscreen.Down i x y) = act (object_of kinds.Touch n) (touch_down i x y)
touchscreen_call n (in_touchscreen.Motion i x y) = act (object_of kinds.Touch n) (touch_motion i x y)
touchscreen_call n (in_touchscreen.Up i) = act (object_of kinds.Touch n) (touch_up i)
touchscreen_call n (in_touchscreen.Cancel i) = act (object_of kinds.Touch n) (touch_cancel i)
touchscreen_call n (in_touchscreen.Destroyed s) = object_destroyed (object_of kinds.Touch n) s

abbrev pub text_call : ℕ → TextEvent → Call
text_call n (in_text.Keysym k s) = act (object_of kinds.Text n) (keysym k s)
text_call n (in_text.Utf8 t) = act (object_of kinds.Text n) (utf8 t.now)
text_call n (in_text.Destroyed s) = object_destroyed (object_of kinds.Text n) s

-- an event, as a call
abbrev pub told : Event → Call
told event.Handshake = handshake
told (event.Connection e) = connection_call e
told (event.Callback n e) = callback_call n e
told (event.Seat n e) = seat_call n e
told (event.Device n e) = device_call n e
told (event.Keyboard n e) = keyboard_call n e
told (event.Pointer n e) = pointer_call n e
told (event.PointerAbsolute n e) = pointer_absolute_call n e
told (event.Scroll n e) = scroll_call n e
told (event.Button n e) = button_call n e
told (event.Touchscreen n e) = touchscreen_call n e
told (event.Text n e) = text_call n e
