-- What each low-level event says. Nothing of it is lost.
use Rattle.std.specs.Prelude.{ℕ, None}
use Rattle.std.specs.Option.{option_map}
use Rattle.ei.specs.declared.capability.DeviceCapability.{DeviceCapability}
use Rattle.ei.specs.declared.capability.DeviceCapability.TheVariants as kinds
use Rattle.ei.specs.declared.object.Object.{Object}
use Rattle.ei.specs.declared.proto.Event.{Event}
use Rattle.ei.specs.declared.proto.Event.TheVariants as event
use Rattle.ei.specs.declared.proto.ConnectionEvent.{ConnectionEvent}
use Rattle.ei.specs.declared.proto.ConnectionEvent.TheVariants as in_connection
use Rattle.ei.specs.declared.proto.CallbackEvent.{CallbackEvent}
use Rattle.ei.specs.declared.proto.CallbackEvent.TheVariants as in_callback
use Rattle.ei.specs.declared.proto.SeatEvent.{SeatEvent}
use Rattle.ei.specs.declared.proto.SeatEvent.TheVariants as in_seat
use Rattle.ei.specs.declared.proto.DeviceEvent.{DeviceEvent}
use Rattle.ei.specs.declared.proto.DeviceEvent.TheVariants as in_device
use Rattle.ei.specs.declared.proto.KeyboardEvent.{KeyboardEvent}
use Rattle.ei.specs.declared.proto.KeyboardEvent.TheVariants as in_keyboard
use Rattle.ei.specs.declared.proto.PointerEvent.{PointerEvent}
use Rattle.ei.specs.declared.proto.PointerEvent.TheVariants as in_pointer
use Rattle.ei.specs.declared.proto.PointerAbsoluteEvent.{PointerAbsoluteEvent}
use Rattle.ei.specs.declared.proto.PointerAbsoluteEvent.TheVariants as in_pointer_absolute
use Rattle.ei.specs.declared.proto.ScrollEvent.{ScrollEvent}
use Rattle.ei.specs.declared.proto.ScrollEvent.TheVariants as in_scroll
use Rattle.ei.specs.declared.proto.ButtonEvent.{ButtonEvent}
use Rattle.ei.specs.declared.proto.ButtonEvent.TheVariants as in_button
use Rattle.ei.specs.declared.proto.TouchscreenEvent.{TouchscreenEvent}
use Rattle.ei.specs.declared.proto.TouchscreenEvent.TheVariants as in_touchscreen
use Rattle.ei.specs.declared.proto.TextEvent.{TextEvent}
use Rattle.ei.specs.declared.proto.TextEvent.TheVariants as in_text
use Rattle.ei.specs.Says.{Says, handshake, connection, callback, seat, device, keyboard, object, ConnectionSays, new_seat, ping, disconnected, invalid_object, SeatSays, seat_name, seat_capability, seat_done, seat_device, seat_destroyed, device_name, device_type, device_dimensions, device_region, device_mapping_id, DeviceSays, device_detail, device_interface, device_done, device_speech, device_frame, device_destroyed, keymap, modifiers, act, object_destroyed, motion, motion_absolute, button, scroll, scroll_stop, scroll_discrete, key, touch_down, touch_up, touch_motion, touch_cancel, keysym, utf8, resumed, paused, start_emulating, stop_emulating}

-- an interface object of a kind
abbrev pub object_of : DeviceCapability → ℕ → Object
object_of c n = record { kind = c; number = n }

abbrev pub connection_says : ConnectionEvent → ConnectionSays
connection_says (in_connection.Seat n) = new_seat n
connection_says (in_connection.Ping n) = ping n
connection_says (in_connection.Disconnected n reason text) = disconnected n reason (option_map (λ x. x.now) text)
connection_says (in_connection.InvalidObject n x) = invalid_object n x

abbrev pub callback_says : ℕ → CallbackEvent → Says
callback_says n (in_callback.Done x) = callback n x

abbrev pub seat_says : SeatEvent → SeatSays
seat_says (in_seat.Name t) = seat_name t.now
seat_says (in_seat.Capability mask kind) = seat_capability mask kind
seat_says in_seat.Done = seat_done
seat_says (in_seat.Device d) = seat_device d
seat_says (in_seat.Destroyed s) = seat_destroyed s

abbrev pub device_says : DeviceEvent → DeviceSays
device_says (in_device.Name t) = device_detail (device_name t.now)
device_says (in_device.DeviceType t) = device_detail (device_type t)
device_says (in_device.Dimensions x y) = device_detail (device_dimensions x y)
device_says (in_device.Region x y width height scale) = device_detail (device_region (record { x = x; y = y; width = width; height = height; scale = scale; mapping_id = None }))
device_says (in_device.RegionMappingId t) = device_detail (device_mapping_id t.now)
device_says (in_device.Interface o) = device_interface o
device_says in_device.Done = device_done
device_says (in_device.Resumed s) = device_speech s resumed
device_says (in_device.Paused s) = device_speech s paused
device_says (in_device.StartEmulating s q) = device_speech s (start_emulating q)
device_says (in_device.StopEmulating s) = device_speech s stop_emulating
device_says (in_device.Frame s t) = device_frame s t
device_says (in_device.Destroyed s) = device_destroyed s

abbrev pub keyboard_says : ℕ → KeyboardEvent → Says
keyboard_says n (in_keyboard.Keymap t size fd) = keyboard n (keymap (record { fd = fd; size = size; type_ = t }))
keyboard_says n (in_keyboard.Key k s) = object (object_of kinds.Keyboard n) (act (key k s))
keyboard_says n (in_keyboard.Modifiers s depressed locked latched group) = keyboard n (modifiers s (record { depressed = depressed; latched = latched; locked = locked; group = group }))
keyboard_says n (in_keyboard.Destroyed s) = object (object_of kinds.Keyboard n) (object_destroyed s)

abbrev pub pointer_says : ℕ → PointerEvent → Says
pointer_says n (in_pointer.MotionRelative x y) = object (object_of kinds.Pointer n) (act (motion x y))
pointer_says n (in_pointer.Destroyed s) = object (object_of kinds.Pointer n) (object_destroyed s)

abbrev pub pointer_absolute_says : ℕ → PointerAbsoluteEvent → Says
pointer_absolute_says n (in_pointer_absolute.MotionAbsolute x y) = object (object_of kinds.PointerAbsolute n) (act (motion_absolute x y))
pointer_absolute_says n (in_pointer_absolute.Destroyed s) = object (object_of kinds.PointerAbsolute n) (object_destroyed s)

abbrev pub scroll_says : ℕ → ScrollEvent → Says
scroll_says n (in_scroll.Scroll x y) = object (object_of kinds.Scroll n) (act (scroll x y))
scroll_says n (in_scroll.ScrollDiscrete x y) = object (object_of kinds.Scroll n) (act (scroll_discrete x y))
scroll_says n (in_scroll.ScrollStop x y cancel) = object (object_of kinds.Scroll n) (act (scroll_stop x y cancel))
scroll_says n (in_scroll.Destroyed s) = object (object_of kinds.Scroll n) (object_destroyed s)

abbrev pub button_says : ℕ → ButtonEvent → Says
button_says n (in_button.Button b s) = object (object_of kinds.Button n) (act (button b s))
button_says n (in_button.Destroyed s) = object (object_of kinds.Button n) (object_destroyed s)

abbrev pub touchscreen_says : ℕ → TouchscreenEvent → Says
touchscreen_says n (in_touchscreen.Down i x y) = object (object_of kinds.Touch n) (act (touch_down i x y))
touchscreen_says n (in_touchscreen.Motion i x y) = object (object_of kinds.Touch n) (act (touch_motion i x y))
touchscreen_says n (in_touchscreen.Up i) = object (object_of kinds.Touch n) (act (touch_up i))
touchscreen_says n (in_touchscreen.Cancel i) = object (object_of kinds.Touch n) (act (touch_cancel i))
touchscreen_says n (in_touchscreen.Destroyed s) = object (object_of kinds.Touch n) (object_destroyed s)

abbrev pub text_says : ℕ → TextEvent → Says
text_says n (in_text.Keysym k s) = object (object_of kinds.Text n) (act (keysym k s))
text_says n (in_text.Utf8 t) = object (object_of kinds.Text n) (act (utf8 t.now))
text_says n (in_text.Destroyed s) = object (object_of kinds.Text n) (object_destroyed s)

-- what an event says
abbrev pub told : Event → Says
told event.Handshake = handshake
told (event.Connection e) = connection (connection_says e)
told (event.Callback n e) = callback_says n e
told (event.Seat n e) = seat n (seat_says e)
told (event.Device n e) = device n (device_says e)
told (event.Keyboard n e) = keyboard_says n e
told (event.Pointer n e) = pointer_says n e
told (event.PointerAbsolute n e) = pointer_absolute_says n e
told (event.Scroll n e) = scroll_says n e
told (event.Button n e) = button_says n e
told (event.Touchscreen n e) = touchscreen_says n e
told (event.Text n e) = text_says n e
