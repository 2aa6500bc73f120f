-- What a kept event tells: its kind, whose it is, whether it waits for a frame, and its time.
use Rattle.std.specs.Prelude.{ℕ, Bool, Some, None, Option, ◌==◌, nat_le}
use Rattle.ei.specs.declared.event.EiEvent.{EiEvent}
use Rattle.ei.specs.declared.event.EiEvent.TheVariants.{Disconnected, SeatAdded, SeatRemoved, DeviceAdded, DeviceRemoved, DevicePaused, DeviceResumed, KeyboardModifiers, Frame, DeviceStartEmulating, DeviceStopEmulating, PointerMotion, PointerMotionAbsolute, Button, ScrollDelta, ScrollStop, ScrollCancel, ScrollDiscrete, KeyboardKey, TouchDown, TouchUp, TouchMotion, TouchCancel, TextKeysym, TextUtf8}

-- the number of the event's kind
abbrev pub kind_of : EiEvent → ℕ
kind_of (Disconnected e) = 1
kind_of (SeatAdded e) = 2
kind_of (SeatRemoved e) = 3
kind_of (DeviceAdded e) = 4
kind_of (DeviceRemoved e) = 5
kind_of (DevicePaused e) = 6
kind_of (DeviceResumed e) = 7
kind_of (KeyboardModifiers e) = 8
kind_of (Frame e) = 9
kind_of (DeviceStartEmulating e) = 10
kind_of (DeviceStopEmulating e) = 11
kind_of (PointerMotion e) = 12
kind_of (PointerMotionAbsolute e) = 13
kind_of (Button e) = 14
kind_of (ScrollDelta e) = 15
kind_of (ScrollStop e) = 16
kind_of (ScrollCancel e) = 17
kind_of (ScrollDiscrete e) = 18
kind_of (KeyboardKey e) = 19
kind_of (TouchDown e) = 20
kind_of (TouchUp e) = 21
kind_of (TouchMotion e) = 22
kind_of (TouchCancel e) = 23
kind_of (TextKeysym e) = 24
kind_of (TextUtf8 e) = 25

-- kinds 12 to 25 are timed: they wait for their device's frame, which gives them their time
abbrev pub timed : EiEvent → Bool
timed e = nat_le 12 (kind_of e)

abbrev pub is_frame : EiEvent → Bool
is_frame e = kind_of e == 9

-- the device whose event it is
abbrev pub device_of : EiEvent → Option ℕ
device_of (Disconnected e) = None
device_of (SeatAdded e) = None
device_of (SeatRemoved e) = None
device_of (DeviceAdded e) = Some e.device
device_of (DeviceRemoved e) = Some e.device
device_of (DevicePaused e) = Some e.device
device_of (DeviceResumed e) = Some e.device
device_of (KeyboardModifiers e) = Some e.device
device_of (Frame e) = Some e.device
device_of (DeviceStartEmulating e) = Some e.device
device_of (DeviceStopEmulating e) = Some e.device
device_of (PointerMotion e) = Some e.device
device_of (PointerMotionAbsolute e) = Some e.device
device_of (Button e) = Some e.device
device_of (ScrollDelta e) = Some e.device
device_of (ScrollStop e) = Some e.device
device_of (ScrollCancel e) = Some e.device
device_of (ScrollDiscrete e) = Some e.device
device_of (KeyboardKey e) = Some e.device
device_of (TouchDown e) = Some e.device
device_of (TouchUp e) = Some e.device
device_of (TouchMotion e) = Some e.device
device_of (TouchCancel e) = Some e.device
device_of (TextKeysym e) = Some e.device
device_of (TextUtf8 e) = Some e.device

-- the seat or the device that the event names; 0 for none
abbrev pub handle_of : EiEvent → ℕ
handle_of (Disconnected e) = 0
handle_of (SeatAdded e) = e.seat
handle_of (SeatRemoved e) = e.seat
handle_of (DeviceAdded e) = e.device
handle_of (DeviceRemoved e) = e.device
handle_of (DevicePaused e) = e.device
handle_of (DeviceResumed e) = e.device
handle_of (KeyboardModifiers e) = e.device
handle_of (Frame e) = e.device
handle_of (DeviceStartEmulating e) = e.device
handle_of (DeviceStopEmulating e) = e.device
handle_of (PointerMotion e) = e.device
handle_of (PointerMotionAbsolute e) = e.device
handle_of (Button e) = e.device
handle_of (ScrollDelta e) = e.device
handle_of (ScrollStop e) = e.device
handle_of (ScrollCancel e) = e.device
handle_of (ScrollDiscrete e) = e.device
handle_of (KeyboardKey e) = e.device
handle_of (TouchDown e) = e.device
handle_of (TouchUp e) = e.device
handle_of (TouchMotion e) = e.device
handle_of (TouchCancel e) = e.device
handle_of (TextKeysym e) = e.device
handle_of (TextUtf8 e) = e.device

-- its time; 0 for an event that has none
abbrev pub time_of : EiEvent → ℕ
time_of (Disconnected e) = 0
time_of (SeatAdded e) = 0
time_of (SeatRemoved e) = 0
time_of (DeviceAdded e) = 0
time_of (DeviceRemoved e) = 0
time_of (DevicePaused e) = 0
time_of (DeviceResumed e) = 0
time_of (KeyboardModifiers e) = 0
time_of (Frame e) = e.time
time_of (DeviceStartEmulating e) = 0
time_of (DeviceStopEmulating e) = 0
time_of (PointerMotion e) = e.time
time_of (PointerMotionAbsolute e) = e.time
time_of (Button e) = e.time
time_of (ScrollDelta e) = e.time
time_of (ScrollStop e) = e.time
time_of (ScrollCancel e) = e.time
time_of (ScrollDiscrete e) = e.time
time_of (KeyboardKey e) = e.time
time_of (TouchDown e) = e.time
time_of (TouchUp e) = e.time
time_of (TouchMotion e) = e.time
time_of (TouchCancel e) = e.time
time_of (TextKeysym e) = e.time
time_of (TextUtf8 e) = e.time

-- a timed event at another time; any other stays as it is
abbrev pub at_time : ℕ → EiEvent → EiEvent
at_time t (Disconnected e) = Disconnected e
at_time t (SeatAdded e) = SeatAdded e
at_time t (SeatRemoved e) = SeatRemoved e
at_time t (DeviceAdded e) = DeviceAdded e
at_time t (DeviceRemoved e) = DeviceRemoved e
at_time t (DevicePaused e) = DevicePaused e
at_time t (DeviceResumed e) = DeviceResumed e
at_time t (KeyboardModifiers e) = KeyboardModifiers e
at_time t (Frame e) = Frame e
at_time t (DeviceStartEmulating e) = DeviceStartEmulating e
at_time t (DeviceStopEmulating e) = DeviceStopEmulating e
at_time t (PointerMotion e) = PointerMotion (record { device = e.device; time = t; dx = e.dx; dy = e.dy })
at_time t (PointerMotionAbsolute e) = PointerMotionAbsolute (record { device = e.device; time = t; dx_absolute = e.dx_absolute; dy_absolute = e.dy_absolute })
at_time t (Button e) = Button (record { device = e.device; time = t; button = e.button; state = e.state })
at_time t (ScrollDelta e) = ScrollDelta (record { device = e.device; time = t; dx = e.dx; dy = e.dy })
at_time t (ScrollStop e) = ScrollStop (record { device = e.device; time = t; x = e.x; y = e.y })
at_time t (ScrollCancel e) = ScrollCancel (record { device = e.device; time = t; x = e.x; y = e.y })
at_time t (ScrollDiscrete e) = ScrollDiscrete (record { device = e.device; time = t; discrete_dx = e.discrete_dx; discrete_dy = e.discrete_dy })
at_time t (KeyboardKey e) = KeyboardKey (record { device = e.device; time = t; key = e.key; state = e.state })
at_time t (TouchDown e) = TouchDown (record { device = e.device; time = t; touch_id = e.touch_id; x = e.x; y = e.y })
at_time t (TouchUp e) = TouchUp (record { device = e.device; time = t; touch_id = e.touch_id })
at_time t (TouchMotion e) = TouchMotion (record { device = e.device; time = t; touch_id = e.touch_id; x = e.x; y = e.y })
at_time t (TouchCancel e) = TouchCancel (record { device = e.device; time = t; touch_id = e.touch_id })
at_time t (TextKeysym e) = TextKeysym (record { device = e.device; time = t; keysym = e.keysym; state = e.state })
at_time t (TextUtf8 e) = TextUtf8 (record { device = e.device; time = t; text = e.text })
