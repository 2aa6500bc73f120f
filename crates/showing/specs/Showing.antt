-- How an event is written: its kind, its handle and its time, and then its other fields, with one space between.
use Rattle.std.specs.Prelude.{ℕ, ◌/◌, ◌%◌, Bool, cond, List, [], ◌++◌, Some, None, codes, decimal, Option, to_bits, Float}
use Rattle.std.specs.Float.{binary32}
use Rattle.std.specs.Fmt.{signed_decimal}
use Rattle.ei.specs.Events.{kind_of, handle_of, time_of}
use Rattle.ei.specs.Numbers.{button_state, disconnect_reason, key_state}
use Rattle.ei.specs.Texts.{text_bytes}
use Rattle.ei.specs.declared.text.Text.{Text}
use Rattle.ei.specs.declared.event.EiEvent.{EiEvent}
use Rattle.ei.specs.declared.event.EiEvent.TheVariants.{Disconnected, SeatAdded, SeatRemoved, DeviceAdded, DeviceRemoved, DevicePaused, DeviceResumed, KeyboardModifiers, Frame, DeviceStartEmulating, DeviceStopEmulating, PointerMotion, PointerMotionAbsolute, Button, ScrollDelta, ScrollStop, ScrollCancel, ScrollDiscrete, KeyboardKey, TouchDown, TouchUp, TouchMotion, TouchCancel, TextKeysym, TextUtf8}
use Rattle.wording.specs.Quoting.{hex_byte, quoted}

-- a word and the space in front of it
abbrev pub word : List ℕ → List ℕ
word w = codes " " ++ w

abbrev pub number : ℕ → List ℕ
number n = word (decimal n)

-- the eight hex digits of 32 bits
abbrev pub hex_word : ℕ → List ℕ
hex_word n = hex_byte (n / 16777216 % 256) ++ (hex_byte (n / 65536 % 256) ++ (hex_byte (n / 256 % 256) ++ hex_byte (n % 256)))

-- a float by its bits, which of a NaN are always the same
abbrev pub float_bits : Float → List ℕ
float_bits x = codes "0x" ++ hex_word (to_bits binary32 x)

abbrev pub flag : Bool → List ℕ
flag b = decimal (cond b 1 0)

-- a text in quotes, and a dash for none
abbrev pub explained : Option Text → List ℕ
explained None = codes "-"
explained (Some t) = quoted (text_bytes t)

-- two floats, as most motions have
abbrev pub floats : Float → Float → List ℕ
floats x y = word (float_bits x) ++ word (float_bits y)

-- what an event tells besides its kind, its handle and its time
abbrev pub fields_of : EiEvent → List ℕ
fields_of (Disconnected e) = number e.last_serial ++ (number (disconnect_reason e.reason) ++ word (explained e.explanation))
fields_of (SeatAdded e) = []
fields_of (SeatRemoved e) = []
fields_of (DeviceAdded e) = []
fields_of (DeviceRemoved e) = []
fields_of (DevicePaused e) = number e.serial
fields_of (DeviceResumed e) = number e.serial
fields_of (KeyboardModifiers e) = number e.serial ++ (number e.depressed ++ (number e.latched ++ (number e.locked ++ number e.group)))
fields_of (Frame e) = number e.serial
fields_of (DeviceStartEmulating e) = number e.serial ++ number e.sequence
fields_of (DeviceStopEmulating e) = number e.serial
fields_of (PointerMotion e) = floats e.dx e.dy
fields_of (PointerMotionAbsolute e) = floats e.dx_absolute e.dy_absolute
fields_of (Button e) = number e.button ++ number (button_state e.state)
fields_of (ScrollDelta e) = floats e.dx e.dy
fields_of (ScrollStop e) = word (flag e.x) ++ word (flag e.y)
fields_of (ScrollCancel e) = word (flag e.x) ++ word (flag e.y)
fields_of (ScrollDiscrete e) = word (signed_decimal e.discrete_dx) ++ word (signed_decimal e.discrete_dy)
fields_of (KeyboardKey e) = number e.key ++ number (key_state e.state)
fields_of (TouchDown e) = number e.touch_id ++ floats e.x e.y
fields_of (TouchUp e) = number e.touch_id
fields_of (TouchMotion e) = number e.touch_id ++ floats e.x e.y
fields_of (TouchCancel e) = number e.touch_id
fields_of (TextKeysym e) = number e.keysym ++ number (key_state e.state)
fields_of (TextUtf8 e) = word (quoted (text_bytes e.text))

abbrev pub event_line : EiEvent → List ℕ
event_line e = decimal (kind_of e) ++ (number (handle_of e) ++ (number (time_of e) ++ fields_of e))
