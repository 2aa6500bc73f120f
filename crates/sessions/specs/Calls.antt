-- What each call of a session says.
use Rattle.std.specs.Prelude.{ℕ, List, take, replicate, Some, None}
use Rattle.ei.specs.declared.enums.DisconnectReason.TheVariants as reasons
use Rattle.tables.specs.Calls as says
use Rattle.tables.specs.Told.{callback_call, keyboard_call, pointer_call}
use Rattle.sessions.specs.declared.line.Call.{Call}
use Rattle.sessions.specs.declared.line.Call.TheVariants as calls
use Rattle.sessions.specs.declared.line.DeviceCall.{DeviceCall}
use Rattle.sessions.specs.declared.line.DeviceCall.TheVariants as of_device
use Rattle.sessions.specs.declared.line.SeatCall.{SeatCall}
use Rattle.sessions.specs.declared.line.SeatCall.TheVariants as of_seat

-- the letter a, so many times, at most 256
abbrev pub letters : ℕ → List ℕ
letters n = take n (replicate 256 97)

abbrev pub said_of_seat : ℕ → SeatCall → says.Call
said_of_seat n (of_seat.Name k) = says.seat_name n (letters k)
said_of_seat n (of_seat.Capability mask kind) = says.seat_capability n mask kind
said_of_seat n of_seat.Done = says.seat_done n
said_of_seat n (of_seat.Device d) = says.seat_device n d
said_of_seat n (of_seat.Destroyed s) = says.seat_destroyed n s

abbrev pub said_of_device : ℕ → DeviceCall → says.Call
said_of_device n (of_device.Name k) = says.device_name n (letters k)
said_of_device n (of_device.Type t) = says.device_type n t
said_of_device n (of_device.Region scale) = says.device_region n (record { x = 0; y = 0; width = 640; height = 480; scale = scale; mapping_id = None })
said_of_device n (of_device.MappingId k) = says.device_mapping_id n (letters k)
said_of_device n (of_device.Interface o) = says.device_interface n (Some o)
said_of_device n of_device.Done = says.device_done n
said_of_device n (of_device.Paused s) = says.device_speech n s says.paused
said_of_device n (of_device.Frame s t) = says.device_frame n s t
said_of_device n (of_device.Destroyed s) = says.device_destroyed n s

abbrev pub call_of : Call → says.Call
call_of calls.Handshake = says.handshake
call_of (calls.NewSeat n) = says.new_seat n
call_of (calls.Ping n) = says.ping n
call_of (calls.Disconnected k) = says.disconnected 5 reasons.Disconnected (Some (letters k))
call_of (calls.Callback n e) = callback_call n e
call_of (calls.Seat n c) = said_of_seat n c
call_of (calls.Device n c) = said_of_device n c
call_of (calls.Keyboard n e) = keyboard_call n e
call_of (calls.Pointer n e) = pointer_call n e
