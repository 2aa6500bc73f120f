-- The worked sessions. Each begins with a new converter.
use Rattle.std.specs.Prelude.{List, [], ◌∷◌, ◌++◌, Some, None, Ok}
use Rattle.ei.specs.declared.capability.DeviceCapability.TheVariants as kinds
use Rattle.ei.specs.declared.enums.DeviceType.TheVariants as types
use Rattle.ei.specs.declared.enums.KeyState.TheVariants as keys
use Rattle.ei.specs.declared.error.EventError.TheVariants as refusals
use Rattle.ei.specs.declared.proto.KeyboardEvent.TheVariants as of_keyboard
use Rattle.ei.specs.declared.proto.PointerEvent.TheVariants as of_pointer
use Rattle.host.specs.declared.Note.TheVariants as notes
use Rattle.records.specs.Owners.{keyboard_of}
use Rattle.sessions.specs.Sessions.{ComeOut}
use Rattle.sessions.specs.declared.line.Call.TheVariants.{NewSeat, Seat, Device, Keyboard, Pointer}
use Rattle.sessions.specs.declared.line.DeviceCall.TheVariants as of_device
use Rattle.sessions.specs.declared.line.SeatCall.TheVariants as of_seat
use Rattle.sessions.specs.declared.line.Line.{Line}
use Rattle.sessions.specs.declared.line.Line.TheVariants.{Start, Setup, Reading, Does, Repeats, Refuses, Bind, Next, NoNext, Take, Serial}

-- a Frame with nothing pending is accepted, queues nothing and sets the serial
abbrev pub frame_with_nothing_pending : List Line
frame_with_nothing_pending =
    Start 5 ∷
    (Setup ∷
    (Does (Device 201 (of_device.Frame 9 1000)) ∷
    (Next 2 1 0 ∷
    (Next 4 2 0 ∷
    (NoNext ∷
    (Serial 9 ∷ []))))))

-- Paused of an unknown device is refused and sets the serial
abbrev pub paused_unknown : List Line
paused_unknown =
    Start 5 ∷
    (Refuses (Device 201 (of_device.Paused 7)) refusals.DeviceEventBeforeDone ∷
    (NoNext ∷
    (Serial 7 ∷ [])))

-- Destroyed of an unowned pointer is refused and leaves the serial; of a keyboard it is accepted and sets it
abbrev pub destroyed_unowned : List Line
destroyed_unowned =
    Start 5 ∷
    (Refuses (Pointer 401 (of_pointer.Destroyed 7)) refusals.DeviceEventBeforeDone ∷
    (Serial 5 ∷
    (Start 5 ∷
    (Does (Keyboard 301 (of_keyboard.Destroyed 7)) ∷
    (Serial 7 ∷ [])))))

-- a device done without a type is gone, and a name after it is refused
abbrev pub done_without_type : List Line
done_without_type =
    Start 5 ∷
    (Does (NewSeat 101) ∷
    (Does (Seat 101 of_seat.Done) ∷
    (Does (Seat 101 (of_seat.Device 201)) ∷
    (Refuses (Device 201 of_device.Done) refusals.NoDeviceType ∷
    (Refuses (Device 201 (of_device.Name 4)) refusals.DeviceSetupEventAfterDone ∷
    (Next 2 1 0 ∷
    (NoNext ∷
    (Serial 5 ∷ []))))))))

-- a name of 128 bytes is accepted, of 129 refused
abbrev pub long_name : List Line
long_name =
    Start 5 ∷
    (Does (NewSeat 101) ∷
    (Does (Seat 101 (of_seat.Name 128)) ∷
    (Refuses (Seat 101 (of_seat.Name 129)) refusals.LongText ∷
    (Serial 5 ∷ []))))

-- at 253 held a timed event is accepted, at 254 refused
abbrev pub timed_at_254 : List Line
timed_at_254 =
    Start 5 ∷
    (Setup ∷
    (Repeats 251 (Keyboard 301 (of_keyboard.Key 30 keys.Press)) ∷
    (Does (Keyboard 301 (of_keyboard.Key 30 keys.Released)) ∷
    (Refuses (Keyboard 301 (of_keyboard.Key 31 keys.Press)) refusals.StoreFull ∷
    (Serial 5 ∷ [])))))

-- a Frame with pending events is accepted at 255 held
abbrev pub frame_at_255 : List Line
frame_at_255 =
    Start 5 ∷
    (Setup ∷
    (Repeats 252 (Keyboard 301 (of_keyboard.Key 30 keys.Press)) ∷
    (Does (NewSeat 102) ∷
    (Does (Seat 102 of_seat.Done) ∷
    (Does (Device 201 (of_device.Frame 9 1000)) ∷
    (Serial 9 ∷ []))))))

-- and refused at 256
abbrev pub frame_at_256 : List Line
frame_at_256 =
    Start 5 ∷
    (Setup ∷
    (Repeats 252 (Keyboard 301 (of_keyboard.Key 30 keys.Press)) ∷
    (Does (NewSeat 102) ∷
    (Does (Seat 102 of_seat.Done) ∷
    (Does (NewSeat 103) ∷
    (Does (Seat 103 of_seat.Done) ∷
    (Refuses (Device 201 (of_device.Frame 9 1000)) refusals.StoreFull ∷
    (Serial 5 ∷ []))))))))

-- masks 4 and 6 bound together send 6, and the empty set sends 0
abbrev pub masks_joined : List Line
masks_joined =
    Start 5 ∷
    (Does (NewSeat 101) ∷
    (Does (Seat 101 (of_seat.Capability 4 (Some kinds.Keyboard))) ∷
    (Does (Seat 101 (of_seat.Capability 6 (Some kinds.Pointer))) ∷
    (Does (Seat 101 of_seat.Done) ∷
    (Bind 1 5 (Ok tt) ∷
    (Take (Some (notes.Bind 101 6)) ∷
    (Bind 1 0 (Ok tt) ∷
    (Take (Some (notes.Bind 101 0)) ∷
    (Take None ∷
    (Serial 5 ∷ []))))))))))

-- device 201 is done twice: a key of its first keyboard stays pending past its Frame
abbrev pub done_twice : List Line
done_twice =
    Start 5 ∷
    (Setup ∷
    (Does (Seat 101 (of_seat.Device 201)) ∷
    (Does (Device 201 (of_device.Type types.Virtual)) ∷
    (Does (Device 201 (of_device.Interface (keyboard_of 302))) ∷
    (Does (Device 201 of_device.Done) ∷
    (Does (Keyboard 301 (of_keyboard.Key 30 keys.Press)) ∷
    (Does (Device 201 (of_device.Frame 9 1000)) ∷
    (Next 2 1 0 ∷
    (Next 4 2 0 ∷
    (Next 4 3 0 ∷
    (NoNext ∷
    (Serial 9 ∷ []))))))))))))

-- keys, a Frame, a key, and Paused, which forces a Frame
abbrev pub listing : List Line
listing =
    Start 5 ∷
    (Setup ∷
    (Does (Keyboard 301 (of_keyboard.Key 30 keys.Press)) ∷
    (Does (Keyboard 301 (of_keyboard.Key 30 keys.Released)) ∷
    (Does (Device 201 (of_device.Frame 9 1000)) ∷
    (Does (Keyboard 301 (of_keyboard.Key 31 keys.Press)) ∷
    (Reading 1500 ∷
    (Does (Device 201 (of_device.Paused 10)) ∷
    (Next 2 1 0 ∷
    (Next 4 2 0 ∷
    (Next 19 2 1000 ∷
    (Next 19 2 1000 ∷
    (Next 9 2 1000 ∷
    (Next 19 2 1500 ∷
    (Next 9 2 1500 ∷
    (Next 6 2 0 ∷
    (NoNext ∷
    (Serial 10 ∷ [])))))))))))))))))

-- all of them, one after the other
abbrev pub worked : List Line
worked = frame_with_nothing_pending ++ (paused_unknown ++ (destroyed_unowned ++ (done_without_type ++ (long_name ++ (timed_at_254 ++ (frame_at_255 ++ (frame_at_256 ++ (masks_joined ++ (done_twice ++ listing)))))))))

-- every session comes out as written
abbrev pub WorkedSessions : Type 0
WorkedSessions = ComeOut worked
