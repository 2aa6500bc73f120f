-- What the lines of low-level events say, by their interface, their name and what is left of them behind it.
use Rattle.std.specs.Prelude.{◌≡◌, ℕ, List, Some, Ok, None, Option, codes, MatchOption}
use Rattle.std.specs.Option.{option_map}
use Rattle.ei.specs.declared.capability.DeviceCapability.{DeviceCapability}
use Rattle.ei.specs.declared.object.Object.{Object}
use Rattle.ei.specs.Numbers.{CaseOf, button_state, device_type, disconnect_reason, key_state, keymap_type}
use Rattle.ei.specs.declared.proto.ButtonEvent.{ButtonEvent}
use Rattle.ei.specs.declared.proto.ButtonEvent.TheVariants as OfButton
use Rattle.ei.specs.declared.proto.CallbackEvent.{CallbackEvent}
use Rattle.ei.specs.declared.proto.CallbackEvent.TheVariants as OfCallback
use Rattle.ei.specs.declared.proto.ConnectionEvent.{ConnectionEvent}
use Rattle.ei.specs.declared.proto.ConnectionEvent.TheVariants as OfConnection
use Rattle.ei.specs.declared.proto.DeviceEvent.{DeviceEvent}
use Rattle.ei.specs.declared.proto.DeviceEvent.TheVariants as OfDevice
use Rattle.ei.specs.declared.proto.Event.{Event}
use Rattle.ei.specs.declared.proto.Event.TheVariants as OfEvent
use Rattle.ei.specs.declared.proto.KeyboardEvent.{KeyboardEvent}
use Rattle.ei.specs.declared.proto.KeyboardEvent.TheVariants as OfKeyboard
use Rattle.ei.specs.declared.proto.PointerAbsoluteEvent.{PointerAbsoluteEvent}
use Rattle.ei.specs.declared.proto.PointerAbsoluteEvent.TheVariants as OfPointerAbsolute
use Rattle.ei.specs.declared.proto.PointerEvent.{PointerEvent}
use Rattle.ei.specs.declared.proto.PointerEvent.TheVariants as OfPointer
use Rattle.ei.specs.declared.proto.ScrollEvent.{ScrollEvent}
use Rattle.ei.specs.declared.proto.ScrollEvent.TheVariants as OfScroll
use Rattle.ei.specs.declared.proto.SeatEvent.{SeatEvent}
use Rattle.ei.specs.declared.proto.SeatEvent.TheVariants as OfSeat
use Rattle.ei.specs.declared.proto.TextEvent.{TextEvent}
use Rattle.ei.specs.declared.proto.TextEvent.TheVariants as OfText
use Rattle.ei.specs.declared.proto.TouchscreenEvent.{TouchscreenEvent}
use Rattle.ei.specs.declared.proto.TouchscreenEvent.TheVariants as OfTouchscreen
use Rattle.script.specs.Fields.{ReadsCase, ReadsFloats, ReadsInteger, ReadsInterface, ReadsNumber, ReadsPair, ReadsTriple}
use Rattle.wording.specs.Words.{text_in}

-- a line's last word is a number of so many bits
abbrev pub Last : ℕ → Option (List ℕ) → ℕ → Type 0
Last bits l n = ReadsNumber bits l (Ok n) None

abbrev pub Pair : ℕ → ℕ → Option (List ℕ) → ℕ → ℕ → Type 0
Pair first second l a b = ReadsPair (ReadsNumber first) (ReadsNumber second) l a b None

abbrev pub CallbackLine : List ℕ → Option (List ℕ) → CallbackEvent → Type 0
CallbackLine n l (OfCallback.Done callback_data) = (n ≡ codes "done") × Last 64 l callback_data

abbrev pub KeyboardLine : List ℕ → Option (List ℕ) → KeyboardEvent → Type 0
KeyboardLine n l (OfKeyboard.Keymap form size keymap) = (n ≡ codes "keymap") × ReadsTriple (ReadsCase (CaseOf keymap_type)) (ReadsNumber 32) (ReadsNumber 32) l (record { 0 = form }) size keymap None
KeyboardLine n l (OfKeyboard.Key key state) = (n ≡ codes "key") × ReadsPair (ReadsNumber 32) (ReadsCase (CaseOf key_state)) l key (record { 0 = state }) None
KeyboardLine n l (OfKeyboard.Modifiers serial depressed locked latched group) = (n ≡ codes "modifiers") × (m : Option (List ℕ)) × ReadsPair (ReadsNumber 32) (ReadsNumber 32) l serial depressed m × ReadsTriple (ReadsNumber 32) (ReadsNumber 32) (ReadsNumber 32) m locked latched group None
KeyboardLine n l (OfKeyboard.Destroyed serial) = (n ≡ codes "destroyed") × Last 32 l serial

abbrev pub PointerLine : List ℕ → Option (List ℕ) → PointerEvent → Type 0
PointerLine n l (OfPointer.MotionRelative x y) = (n ≡ codes "motion_relative") × ReadsPair ReadsFloats ReadsFloats l x y None
PointerLine n l (OfPointer.Destroyed serial) = (n ≡ codes "destroyed") × Last 32 l serial

abbrev pub PointerAbsoluteLine : List ℕ → Option (List ℕ) → PointerAbsoluteEvent → Type 0
PointerAbsoluteLine n l (OfPointerAbsolute.MotionAbsolute x y) = (n ≡ codes "motion_absolute") × ReadsPair ReadsFloats ReadsFloats l x y None
PointerAbsoluteLine n l (OfPointerAbsolute.Destroyed serial) = (n ≡ codes "destroyed") × Last 32 l serial

abbrev pub ScrollLine : List ℕ → Option (List ℕ) → ScrollEvent → Type 0
ScrollLine n l (OfScroll.Scroll x y) = (n ≡ codes "scroll") × ReadsPair ReadsFloats ReadsFloats l x y None
ScrollLine n l (OfScroll.ScrollDiscrete x y) = (n ≡ codes "scroll_discrete") × ReadsPair ReadsInteger ReadsInteger l x y None
ScrollLine n l (OfScroll.ScrollStop x y is_cancel) = (n ≡ codes "scroll_stop") × ReadsTriple (ReadsNumber 32) (ReadsNumber 32) (ReadsNumber 32) l x y is_cancel None
ScrollLine n l (OfScroll.Destroyed serial) = (n ≡ codes "destroyed") × Last 32 l serial

abbrev pub ButtonLine : List ℕ → Option (List ℕ) → ButtonEvent → Type 0
ButtonLine n l (OfButton.Button button state) = (n ≡ codes "button") × ReadsPair (ReadsNumber 32) (ReadsCase (CaseOf button_state)) l button (record { 0 = state }) None
ButtonLine n l (OfButton.Destroyed serial) = (n ≡ codes "destroyed") × Last 32 l serial

abbrev pub TouchscreenLine : List ℕ → Option (List ℕ) → TouchscreenEvent → Type 0
TouchscreenLine n l (OfTouchscreen.Down touchid x y) = (n ≡ codes "down") × ReadsTriple (ReadsNumber 32) ReadsFloats ReadsFloats l touchid x y None
TouchscreenLine n l (OfTouchscreen.Motion touchid x y) = (n ≡ codes "motion") × ReadsTriple (ReadsNumber 32) ReadsFloats ReadsFloats l touchid x y None
TouchscreenLine n l (OfTouchscreen.Up touchid) = (n ≡ codes "up") × Last 32 l touchid
TouchscreenLine n l (OfTouchscreen.Cancel touchid) = (n ≡ codes "cancel") × Last 32 l touchid
TouchscreenLine n l (OfTouchscreen.Destroyed serial) = (n ≡ codes "destroyed") × Last 32 l serial

abbrev pub TextLine : List ℕ → Option (List ℕ) → TextEvent → Type 0
TextLine n l (OfText.Keysym keysym state) = (n ≡ codes "keysym") × ReadsPair (ReadsNumber 32) (ReadsCase (CaseOf key_state)) l keysym (record { 0 = state }) None
TextLine n l (OfText.Utf8 text) = (n ≡ codes "utf8") × (text_in l ≡ Some text.now)
TextLine n l (OfText.Destroyed serial) = (n ≡ codes "destroyed") × Last 32 l serial

abbrev pub ConnectionLine : List ℕ → Option (List ℕ) → ConnectionEvent → Type 0
ConnectionLine n l (OfConnection.Seat seat) = (n ≡ codes "seat") × Last 64 l seat
ConnectionLine n l (OfConnection.Ping ping) = (n ≡ codes "ping") × Last 64 l ping
ConnectionLine n l (OfConnection.Disconnected last_serial reason explanation) = (n ≡ codes "disconnected") × (m : Option (List ℕ)) × ReadsPair (ReadsNumber 32) (ReadsCase (CaseOf disconnect_reason)) l last_serial (record { 0 = reason }) m × MatchOption explanation (m ≡ None) (λ t. text_in m ≡ Some t.now)
ConnectionLine n l (OfConnection.InvalidObject last_serial invalid_id) = (n ≡ codes "invalid_object") × Pair 32 64 l last_serial invalid_id

abbrev pub SeatLine : List ℕ → Option (List ℕ) → SeatEvent → Type 0
SeatLine n l (OfSeat.Name name) = (n ≡ codes "name") × (text_in l ≡ Some name.now)
SeatLine n l (OfSeat.Capability mask interface) = (n ≡ codes "capability") × ReadsPair (ReadsNumber 64) ReadsInterface l mask interface None
SeatLine n l OfSeat.Done = (n ≡ codes "done") × (l ≡ None)
SeatLine n l (OfSeat.Device device) = (n ≡ codes "device") × Last 64 l device
SeatLine n l (OfSeat.Destroyed serial) = (n ≡ codes "destroyed") × Last 32 l serial

-- an interface object; none where the interface is of no known kind
abbrev pub object_from : Option DeviceCapability → ℕ → Option Object
object_from kind number = option_map (λ k. record { kind = k; number = number }) kind

abbrev pub DeviceLine : List ℕ → Option (List ℕ) → DeviceEvent → Type 0
DeviceLine n l (OfDevice.Name name) = (n ≡ codes "name") × (text_in l ≡ Some name.now)
DeviceLine n l (OfDevice.DeviceType form) = (n ≡ codes "device_type") × ReadsCase (CaseOf device_type) l (Ok (record { 0 = form })) None
DeviceLine n l (OfDevice.Dimensions width height) = (n ≡ codes "dimensions") × Pair 32 32 l width height
DeviceLine n l (OfDevice.Region x y width height scale) = (n ≡ codes "region") × (m : Option (List ℕ)) × ReadsPair (ReadsNumber 32) (ReadsNumber 32) l x y m × ReadsTriple (ReadsNumber 32) (ReadsNumber 32) ReadsFloats m width height scale None
DeviceLine n l (OfDevice.RegionMappingId mapping_id) = (n ≡ codes "region_mapping_id") × (text_in l ≡ Some mapping_id.now)
DeviceLine n l (OfDevice.Interface object) = (n ≡ codes "interface") × (kind : Option DeviceCapability) × (number : ℕ) × (object ≡ object_from kind number) × ReadsPair ReadsInterface (ReadsNumber 64) l kind number None
DeviceLine n l OfDevice.Done = (n ≡ codes "done") × (l ≡ None)
DeviceLine n l (OfDevice.Resumed serial) = (n ≡ codes "resumed") × Last 32 l serial
DeviceLine n l (OfDevice.Paused serial) = (n ≡ codes "paused") × Last 32 l serial
DeviceLine n l (OfDevice.StartEmulating serial sequence) = (n ≡ codes "start_emulating") × Pair 32 32 l serial sequence
DeviceLine n l (OfDevice.StopEmulating serial) = (n ≡ codes "stop_emulating") × Last 32 l serial
DeviceLine n l (OfDevice.Frame serial timestamp) = (n ≡ codes "frame") × Pair 32 64 l serial timestamp
DeviceLine n l (OfDevice.Destroyed serial) = (n ≡ codes "destroyed") × Last 32 l serial

-- the number of the object that an event is sent to, and what is left behind it
abbrev pub AtObject : Option (List ℕ) → ℕ → (Option (List ℕ) → Type 0) → Type 0
AtObject l object line = (m : Option (List ℕ)) × ReadsNumber 64 l (Ok object) m × line m

abbrev pub EventLine : List ℕ → List ℕ → Option (List ℕ) → Event → Type 0
EventLine i n l OfEvent.Handshake = ⊥
EventLine i n l (OfEvent.Connection e) = (i ≡ codes "connection") × ConnectionLine n l e
EventLine i n l (OfEvent.Callback o e) = (i ≡ codes "callback") × AtObject l o (λ m. CallbackLine n m e)
EventLine i n l (OfEvent.Seat o e) = (i ≡ codes "seat") × AtObject l o (λ m. SeatLine n m e)
EventLine i n l (OfEvent.Device o e) = (i ≡ codes "device") × AtObject l o (λ m. DeviceLine n m e)
EventLine i n l (OfEvent.Keyboard o e) = (i ≡ codes "keyboard") × AtObject l o (λ m. KeyboardLine n m e)
EventLine i n l (OfEvent.Pointer o e) = (i ≡ codes "pointer") × AtObject l o (λ m. PointerLine n m e)
EventLine i n l (OfEvent.PointerAbsolute o e) = (i ≡ codes "pointer_absolute") × AtObject l o (λ m. PointerAbsoluteLine n m e)
EventLine i n l (OfEvent.Scroll o e) = (i ≡ codes "scroll") × AtObject l o (λ m. ScrollLine n m e)
EventLine i n l (OfEvent.Button o e) = (i ≡ codes "button") × AtObject l o (λ m. ButtonLine n m e)
EventLine i n l (OfEvent.Touchscreen o e) = (i ≡ codes "touchscreen") × AtObject l o (λ m. TouchscreenLine n m e)
EventLine i n l (OfEvent.Text o e) = (i ≡ codes "text") × AtObject l o (λ m. TextLine n m e)
